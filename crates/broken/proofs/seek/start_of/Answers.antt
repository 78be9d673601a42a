use mathlib.Core.Path.{sym, ap, ◌∙◌}
use native.Mathlib.Omega.{arith}
use Rattle.std.specs.Prelude.{Some}
use Rattle.broken.proofs.StartLaws.{starts-at}
use Rattle.broken.proofs.seek.start_of.Goals as goal

pub returns : goal.returns
returns c = starts-at _ _ _ _ _ _ _ _ _ _ (sym c.child_head.ensures ∙ c.in-Some-Kids.is ∙ ap Some c.in-Some-Kids.field-0-is) (omega arith)
