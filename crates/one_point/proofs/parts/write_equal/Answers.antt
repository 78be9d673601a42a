use native.Mathlib.Omega.{arith}
use Rattle.places.proofs.WroteLaws.{wrote-equal}
use Rattle.one_point.proofs.parts.write_equal.Goals as goal

pub returns : goal.returns
returns c = wrote-equal _ _ _ _ _ _ _ _ _ (omega arith) c.copy_part-middle.ensures.wrote c.copy_part.ensures.wrote
