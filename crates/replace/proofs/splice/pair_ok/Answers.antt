use mathlib.Core.Path.{refl}
use Rattle.replace.specs.Internal.Splice.{pair_ok}
use Rattle.replace.proofs.splice.pair_ok.Goals as goal

pub returns : goal.returns
unfolding pair_ok
returns c = refl
