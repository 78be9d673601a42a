use mathlib.Core.Path.{refl}
use Rattle.subst.specs.Internal.Binding.{bound_words, bind_words}
use Rattle.shift.proofs.ItemLaws.{not_yes, not-no}
use Rattle.shift.proofs.CheckedLaws.{refused}
use Rattle.shift.proofs.SameLengthLaws.{fails, no_room, answers}
use Rattle.shift.proofs.ItemLaws.{rewritten-length}
use Rattle.subst.proofs.BindLaws.{keeps}
use Rattle.tree.proofs.Pairs.{both}
use Rattle.subst.proofs.bind.bind_marked.Goals as goal

pub returns-then-not-all_in : goal.returns-then-not-all_in
unfolding bind_words
returns-then-not-all_in c = both (λ v w. record { value = v; out_after = w }) (refused _ _ _ _ (fails _ _ _ _ _ c.args.out.now _ (rw c.top_of.ensures at c.all_in.ensures) (not_yes _ c.if-not-all_in.true-raw)) refl)

pub returns-then-out-row : goal.returns-then-out-row
unfolding bind_words
returns-then-out-row c = both (λ v w. record { value = v; out_after = w }) (refused _ _ _ _ (no_room _ _ _ _ _ c.args.out.now _ (rw c.top_of.ensures at c.all_in.ensures) (not-no _ c.if-not-all_in.false-raw) c.if-out-row.true) refl)

pub returns : goal.returns
unfolding bind_words
returns c = both (λ v w. record { value = v; out_after = w }) (answers _ _ _ _ _ c.args.out.now _ (rw c.top_of.ensures at c.all_in.ensures) (not-no _ c.if-not-all_in.false-raw) (rewritten-length (bound_words c.args.names.now) (keeps c.args.names.now) c.args.row.now c.args.marks.now) c.if-out-row.false _ c.write_bound.ensures)
