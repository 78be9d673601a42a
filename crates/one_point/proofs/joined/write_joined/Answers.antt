use mathlib.Core.Path.{refl, ap}
use Prim.Native.Nat.{◌+◌}
use native.Mathlib.Omega.{arith}
use lib.ListN.{get_or}
use Rattle.one_point.specs.Internal.Noted.{notes_in}
use Rattle.one_point.proofs.EndLaws.{ok-some, ok-none}
use Rattle.one_point.proofs.HeadedLaws.{head-most}
use Rattle.one_point.proofs.JoinedHead.{notes-refused, notes-answer, joined-long, joined-tight, joined-some, start-low}
use Rattle.one_point.proofs.JoinedRows.{is-less}
use Rattle.one_point.proofs.joined.write_joined.Goals as goal

pub returns-in_err-n : goal.returns-in_err-n
returns-in_err-n c = let o = notes-refused (get_or c.args.head.now 1 0) (head-most c.args.head.now c.requires.0) c.args.list.now c.args.list_marks.now c.requires.3 c.args.notes.now c.args.raised.now _ refl _ c.fill_notes.ensures.value _ (ok-none _ _ c.ok.ensures.value c.in_err-n.was).1 in rw c.from_residual.ensures (joined-long c.args.head.now c.args.row.now c.requires.0 c.requires.1 c.args.joined.now c.requires.4 _ c.write_flagged-start.ensures.value c.args.k (notes_in (get_or c.args.head.now 1 0) c.args.list.now c.args.list_marks.now c.args.notes.now c.args.raised.now) (omega arith))

pub returns-then-joined-start : goal.returns-then-joined-start
returns-then-joined-start c = joined-tight c.args.head.now c.args.row.now c.requires.0 c.requires.1 c.args.joined.now c.requires.4 _ c.write_flagged-start.ensures.value c.args.k (notes_in (get_or c.args.head.now 1 0) c.args.list.now c.args.list_marks.now c.args.notes.now c.args.raised.now) _ c.write_flagged-start.ensures.head_after (is-less (notes-answer (get_or c.args.head.now 1 0) (head-most c.args.head.now c.requires.0) c.args.list.now c.args.list_marks.now c.requires.3 c.args.notes.now c.args.raised.now _ refl _ c.fill_notes.ensures.value _ (ok-some _ _ _ c.ok.ensures.value c.in_ok-n.was) _ _ c.fill_notes.ensures.out_after).1 c.if-joined-start.true)

pub returns : goal.returns
returns c = joined-some c.args.head.now c.args.row.now c.requires.0 c.requires.1 c.args.joined.now c.requires.4 _ c.write_flagged-start.ensures.value c.args.k (notes_in (get_or c.args.head.now 1 0) c.args.list.now c.args.list_marks.now c.args.notes.now c.args.raised.now) _ c.write_flagged-start.ensures.head_after _ _ (notes-answer (get_or c.args.head.now 1 0) (head-most c.args.head.now c.requires.0) c.args.list.now c.args.list_marks.now c.requires.3 c.args.notes.now c.args.raised.now _ refl _ c.fill_notes.ensures.value _ (ok-some _ _ _ c.ok.ensures.value c.in_ok-n.was) _ _ c.fill_notes.ensures.out_after) c.if-joined-start.false _ c.put_words.ensures _ _ (ap (λ z. z + 10) c.operator_of.ensures) refl

pub overflow_sub-joined : goal.overflow_sub-joined
overflow_sub-joined c = start-low c.args.head.now c.args.row.now c.requires.0 c.requires.1 c.args.joined.now c.requires.4 _ c.write_flagged-start.ensures.value c.args.k (notes_in (get_or c.args.head.now 1 0) c.args.list.now c.args.list_marks.now c.args.notes.now c.args.raised.now) c.write_flagged-start.new.head c.write_flagged-start.auto.head
