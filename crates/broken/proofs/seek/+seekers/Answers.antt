-- The measure of the cycle is three times the depth that is left, and a little more for a
-- function that calls another at the same depth.
use mathlib.Core.Bool.{true}
use mathlib.Core.Path.{sym, ◌∙◌}
use native.Mathlib.Nat.{le_refl}
use native.Mathlib.Omega.{arith}
use borrow.Author.Tests.{leb-true}
use Rattle.broken.proofs.SeekLaws.{is_true, told-true, told-false, passed, own-ok, own-err, start, out-of-words, kids-there, child-found, child-broken, child-index, no_index, kids-room, kids-stop, kids-go, note-room, note-stop, note-go, passed-less, past_two, joined, reached-on, kids-next, note-next, no_word, not-never, begun}
use Rattle.tree.proofs.Residual.{exit-with}
use Rattle.broken.proofs.LeafLaws.{leaf-go, leaf-stop}
use Rattle.broken.proofs.seek.+seekers.Goals as goal

pub seek-loop-end-init : goal.seek-loop-end-init
seek-loop-end-init t c = start _ _ _ _ _ c.requires

pub seek-seek_own-requires : goal.seek-seek_own-requires
seek-seek_own-requires t c = c.loop-end.invariant.room

pub seek-returns-in_err-end : goal.seek-returns-in_err-end
seek-returns-in_err-end t c = rw (exit-with c.from_residual.ensures.1) (joined c.loop-end.invariant (own-err c.seek_own.ensures c.in_err-end.was _))

pub seek-seek_kids-requires : goal.seek-seek_kids-requires
seek-seek_kids-requires t c = (omega arith, (kids-next _ (own-ok c.seek_own.ensures c.in_ok-end.was).1 (reached-on c.loop-end.invariant ((own-ok c.seek_own.ensures c.in_ok-end.was).0 _)) _ _ _ c.in-Kids.is).room)

pub seek-returns-in-Kids : goal.seek-returns-in-Kids
seek-returns-in-Kids t c = joined (kids-next _ (own-ok c.seek_own.ensures c.in_ok-end.was).1 (reached-on c.loop-end.invariant ((own-ok c.seek_own.ensures c.in_ok-end.was).0 _)) _ _ _ c.in-Kids.is) c.seek_kids.ensures

pub seek-returns-then-row-p : goal.seek-returns-then-row-p
seek-returns-then-row-p t c = out-of-words _ _ _ _ _ _ _ (note-next _ (own-ok c.seek_own.ensures c.in_ok-end.was).1 (reached-on c.loop-end.invariant ((own-ok c.seek_own.ensures c.in_ok-end.was).0 _)) _ _ c.in-Note.is) c.if-row-p.true

pub seek-overflow_add-more : goal.seek-overflow_add-more
seek-overflow_add-more t c = let room = note-room _ _ _ c.least_later.ensures.value _ _ (note-next _ (own-ok c.seek_own.ensures c.in_ok-end.was).1 (reached-on c.loop-end.invariant ((own-ok c.seek_own.ensures c.in_ok-end.was).0 _)) _ _ c.in-Note.is).room in omega arith

pub seek-overflow_sub-depth : goal.seek-overflow_sub-depth
seek-overflow_sub-depth t c = let room = note-room _ _ _ c.least_later.ensures.value _ _ (note-next _ (own-ok c.seek_own.ensures c.in_ok-end.was).1 (reached-on c.loop-end.invariant ((own-ok c.seek_own.ensures c.in_ok-end.was).0 _)) _ _ c.in-Note.is).room in omega arith

pub seek-seek_child-requires : goal.seek-seek_child-requires
seek-seek_child-requires t c = let room = note-room _ _ _ c.least_later.ensures.value _ _ (note-next _ (own-ok c.seek_own.ensures c.in_ok-end.was).1 (reached-on c.loop-end.invariant ((own-ok c.seek_own.ensures c.in_ok-end.was).0 _)) _ _ c.in-Note.is).room in (omega arith, (c.if-row-p.false, room.0))

pub seek-returns-in_err-p-in-Note : goal.seek-returns-in_err-p-in-Note
seek-returns-in_err-p-in-Note t c = rw (exit-with c.from_residual-in_err-p-in-Note.ensures.1) (note-stop _ _ _ c.least_later.ensures.value _ _ _ _ _ (note-next _ (own-ok c.seek_own.ensures c.in_ok-end.was).1 (reached-on c.loop-end.invariant ((own-ok c.seek_own.ensures c.in_ok-end.was).0 _)) _ _ c.in-Note.is) c.if-row-p.false _ c.seek_child.ensures c.in_err-p-in-Note.was)

pub seek-loop-end-smaller : goal.seek-loop-end-smaller
seek-loop-end-smaller t c = passed-less _ _ _ _ ((own-ok c.seek_own.ensures c.in_ok-end.was).0 true).up c.if-row-p.false (passed c.seek_child.ensures c.in_ok-p-in-Note.was)

pub seek-loop-end-preserved : goal.seek-loop-end-preserved
seek-loop-end-preserved t c = rw c.decls_due-rest.ensures (note-go _ _ _ c.least_later.ensures.value _ _ _ _ _ (note-next _ (own-ok c.seek_own.ensures c.in_ok-end.was).1 (reached-on c.loop-end.invariant ((own-ok c.seek_own.ensures c.in_ok-end.was).0 _)) _ _ c.in-Note.is) c.if-row-p.false _ c.seek_child.ensures c.in_ok-p-in-Note.was)

pub seek-returns-in-Ask : goal.seek-returns-in-Ask
seek-returns-in-Ask t c = absurd (no_word _ (own-ok c.seek_own.ensures c.in_ok-end.was).1 (reached-on c.loop-end.invariant ((own-ok c.seek_own.ensures c.in_ok-end.was).0 _)) _ _ _ c.in-Ask.is)

pub seek-returns-in-Wrong : goal.seek-returns-in-Wrong
seek-returns-in-Wrong t c = absurd (not-never _ (own-ok c.seek_own.ensures c.in_ok-end.was).1 (reached-on c.loop-end.invariant ((own-ok c.seek_own.ensures c.in_ok-end.was).0 _)) c.in-Wrong.is)

pub seek_child-returns-then-is_index : goal.seek_child-returns-then-is_index
seek_child-returns-then-is_index t c = child-index _ _ _ _ _ _ c.is_index.ensures c.if-is_index.true (omega arith)

pub seek_child-overflow_add-at : goal.seek_child-overflow_add-at
seek_child-overflow_add-at t c = omega arith

pub seek_child-start_of-requires : goal.seek_child-start_of-requires
seek_child-start_of-requires t c = omega arith

pub seek_child-overflow_add-at-in_default : goal.seek_child-overflow_add-at-in_default
seek_child-overflow_add-at-in_default t c = omega arith

pub seek_child-fits-requires : goal.seek_child-fits-requires
seek_child-fits-requires t c = record { at_bound = omega arith; need_bound = omega arith }

pub seek_child-returns-then-not-fits : goal.seek_child-returns-then-not-fits
seek_child-returns-then-not-fits t c = child-broken _ _ _ _ _ _ (c.child_due-due.ensures ∙ no_index c.args.named _ _ _ c.is_index.ensures c.if-is_index.false) (told-false c.fits.ensures c.if-not-fits.true-raw) (omega arith)

pub seek_child-overflow_add-at-in_default-2 : goal.seek_child-overflow_add-at-in_default-2
seek_child-overflow_add-at-in_default-2 t c = omega arith

pub seek_child-seek-requires : goal.seek_child-seek-requires
seek_child-seek-requires t c = (omega arith, leb-true _ _ (told-true c.fits.ensures c.if-not-fits.false-raw))

pub seek_child-returns-in_default : goal.seek_child-returns-in_default
seek_child-returns-in_default t c = child-found _ _ _ _ _ _ (c.child_due-due.ensures ∙ no_index c.args.named _ _ _ c.is_index.ensures c.if-is_index.false) (leb-true _ _ (told-true c.fits.ensures c.if-not-fits.false-raw)) _ c.seek.ensures

pub seek_child-seek_kids-requires : goal.seek_child-seek_kids-requires
seek_child-seek_kids-requires t c = (omega arith, ((begun _ _ _ _ c.in-Some.is c.start_of.ensures).1 true).room)

pub seek_child-returns : goal.seek_child-returns
seek_child-returns t c = child-found _ _ _ _ _ _ (no_index c.args.named _ _ _ c.is_index.ensures c.if-is_index.false) (begun _ _ _ _ c.in-Some.is c.start_of.ensures).0 _ (joined ((begun _ _ _ _ c.in-Some.is c.start_of.ensures).1 _) c.seek_kids.ensures)

pub seek_kids-loop-at-init : goal.seek_kids-loop-at-init
seek_kids-loop-at-init t c = start _ _ _ _ _ c.requires

pub seek_kids-returns-then-row-p : goal.seek_kids-returns-then-row-p
seek_kids-returns-then-row-p t c = out-of-words _ _ _ _ _ _ _ c.loop-at.invariant c.if-row-p.true

pub seek_kids-is_leaf_next-requires : goal.seek_kids-is_leaf_next-requires
seek_kids-is_leaf_next-requires t c = c.loop-at.invariant.room

pub seek_kids-overflow_add-p : goal.seek_kids-overflow_add-p
seek_kids-overflow_add-p t c = omega arith

pub seek_kids-overflow_add-result : goal.seek_kids-overflow_add-result
seek_kids-overflow_add-result t c = omega arith

pub seek_kids-returns-in_default : goal.seek_kids-returns-in_default
seek_kids-returns-in_default t c = leaf-stop _ _ _ _ _ _ _ _ c.loop-at.invariant (told-false c.no_kids.ensures c.loop-at-test.true-raw) (is_true c.is_leaf_next.ensures c.if-is_leaf_next.true) c.if-row-p.false (sym c.asked.ensures ∙ c.in_default.is)

pub seek_kids-overflow_add-p-then-is_leaf_next : goal.seek_kids-overflow_add-p-then-is_leaf_next
seek_kids-overflow_add-p-then-is_leaf_next t c = omega arith

pub seek_kids-loop-at-smaller-then-is_leaf_next : goal.seek_kids-loop-at-smaller-then-is_leaf_next
seek_kids-loop-at-smaller-then-is_leaf_next t c = passed-less _ _ _ _ (le_refl _) c.if-row-p.false (past_two _)

pub seek_kids-loop-at-preserved-then-is_leaf_next : goal.seek_kids-loop-at-preserved-then-is_leaf_next
seek_kids-loop-at-preserved-then-is_leaf_next t c = rw c.saturating_sub-more_exprs.ensures (leaf-go _ _ _ _ _ _ _ _ c.loop-at.invariant (told-false c.no_kids.ensures c.loop-at-test.true-raw) (is_true c.is_leaf_next.ensures c.if-is_leaf_next.true) _ (sym c.asked.ensures ∙ c.in-Some.is))

pub seek_kids-overflow_add-more : goal.seek_kids-overflow_add-more
seek_kids-overflow_add-more t c = let room = kids-room _ _ _ _ _ c.saturating_sub-more_preds.ensures c.exprs_after-more_exprs.ensures (told-false c.no_kids.ensures c.loop-at-test.true-raw) _ c.least_kids.ensures.value _ _ c.loop-at.invariant.room in omega arith

pub seek_kids-overflow_sub-depth : goal.seek_kids-overflow_sub-depth
seek_kids-overflow_sub-depth t c = let room = kids-room _ _ _ _ _ c.saturating_sub-more_preds.ensures c.exprs_after-more_exprs.ensures (told-false c.no_kids.ensures c.loop-at-test.true-raw) _ c.least_kids.ensures.value _ _ c.loop-at.invariant.room in omega arith

pub seek_kids-seek_child-requires : goal.seek_kids-seek_child-requires
seek_kids-seek_child-requires t c = let room = kids-room _ _ _ _ _ c.saturating_sub-more_preds.ensures c.exprs_after-more_exprs.ensures (told-false c.no_kids.ensures c.loop-at-test.true-raw) _ c.least_kids.ensures.value _ _ c.loop-at.invariant.room in (omega arith, (c.if-row-p.false, room.0))

pub seek_kids-returns-in_err-p : goal.seek_kids-returns-in_err-p
seek_kids-returns-in_err-p t c = rw (exit-with c.from_residual.ensures.1) (kids-stop _ _ _ _ _ c.saturating_sub-more_preds.ensures c.exprs_after-more_exprs.ensures (told-false c.no_kids.ensures c.loop-at-test.true-raw) _ c.least_kids.ensures.value _ _ _ _ _ c.loop-at.invariant c.if-row-p.false _ c.seek_child.ensures c.in_err-p.was)

pub seek_kids-loop-at-smaller : goal.seek_kids-loop-at-smaller
seek_kids-loop-at-smaller t c = passed-less _ _ _ _ (le_refl _) c.if-row-p.false (passed c.seek_child.ensures c.in_ok-p.was)

pub seek_kids-loop-at-preserved : goal.seek_kids-loop-at-preserved
seek_kids-loop-at-preserved t c = kids-go _ _ _ _ _ c.saturating_sub-more_preds.ensures c.exprs_after-more_exprs.ensures (told-false c.no_kids.ensures c.loop-at-test.true-raw) _ c.least_kids.ensures.value _ _ _ _ _ c.loop-at.invariant c.if-row-p.false _ c.seek_child.ensures c.in_ok-p.was

pub seek_kids-returns : goal.seek_kids-returns
seek_kids-returns t c = kids-there _ _ _ _ _ _ _ _ c.loop-at.invariant (told-true c.no_kids.ensures c.loop-at-test.false-raw)
