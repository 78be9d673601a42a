use native.Mathlib.Omega.{arith}
use Rattle.spell.proofs.FitLaws.{text-long}
use Rattle.spell.proofs.fits.is_spelling.Goals as goal

pub returns-in_default : goal.returns-in_default
returns-in_default c = text-long _ _ _ (omega arith)
