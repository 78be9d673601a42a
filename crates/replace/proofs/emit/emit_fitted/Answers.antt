use mathlib.Core.Path.{refl}
use lib.ListN.{length}
use Rattle.shift.proofs.CheckedLaws.{refused}
use Rattle.replace.proofs.BuildLaws.{fit-not, fit-done}
use Rattle.tree.proofs.Pairs.{both}
use Rattle.replace.proofs.emit.emit_fitted.Goals as goal

pub returns-then-out-words : goal.returns-then-out-words
returns-then-out-words c = both (λ v w. record { value = v; out_after = w }) (refused _ _ _ _ (fit-not c.args.words.now (length c.args.out.now) c.if-out-words.true) refl)

pub returns : goal.returns
returns c = both (λ v w. record { value = v; out_after = w }) (fit-done c.args.words.now c.args.out.now _ c.if-out-words.false c.copy.ensures)
