use borrow.Author.Tests.{leb-true}
use native.Mathlib.Omega.{arith}
use Rattle.broken.proofs.SeekLaws.{told-true, told-false}
use Rattle.broken.proofs.EntryLaws.{no-entry, list_over, entry-stop, entry-broken, entry-go, quick-go}
use Rattle.broken.proofs.position.broken_list.Goals as goal

pub loop-p-init : goal.loop-p-init
loop-p-init c = no-entry _ _

pub quick_entry-words-requires : goal.quick_entry-words-requires
quick_entry-words-requires c = (c.loop-p-test.true, c.loop-p.invariant.room)

pub overflow_add-p : goal.overflow_add-p
overflow_add-p c = let room = (quick-go _ _ _ c.loop-p.invariant c.loop-p-test.true _ c.quick_entry-words.ensures c.if-words-gt0.true).room in omega arith

pub loop-p-smaller-then-words-gt0 : goal.loop-p-smaller-then-words-gt0
loop-p-smaller-then-words-gt0 c = omega arith

pub loop-p-preserved-then-words-gt0 : goal.loop-p-preserved-then-words-gt0
loop-p-preserved-then-words-gt0 c = quick-go _ _ _ c.loop-p.invariant c.loop-p-test.true _ c.quick_entry-words.ensures c.if-words-gt0.true

pub overflow_add-p-else-words-gt0 : goal.overflow_add-p-else-words-gt0
overflow_add-p-else-words-gt0 c = omega arith

pub fits-requires : goal.fits-requires
fits-requires c = record { at_bound = omega arith; need_bound = omega arith }

pub overflow_cast-result : goal.overflow_cast-result
overflow_cast-result c = omega arith

pub returns-then-not-fits : goal.returns-then-not-fits
returns-then-not-fits c = entry-stop _ _ _ c.loop-p.invariant c.loop-p-test.true _ c.entry_due-due.ensures (told-false c.fits.ensures c.if-not-fits.true-raw)

pub overflow_add-p-else-words-gt0-2 : goal.overflow_add-p-else-words-gt0-2
overflow_add-p-else-words-gt0-2 c = omega arith

pub seek-requires : goal.seek-requires
seek-requires c = leb-true _ _ (told-true c.fits.ensures c.if-not-fits.false-raw)

pub overflow_cast-result-in-Err : goal.overflow_cast-result-in-Err
overflow_cast-result-in-Err c = let low = (entry-broken _ _ _ c.loop-p.invariant c.loop-p-test.true _ c.entry_due-due.ensures (told-true c.fits.ensures c.if-not-fits.false-raw) _ c.seek.ensures c.in-Err.is).0 in omega arith

pub returns-in-Err : goal.returns-in-Err
returns-in-Err c = (entry-broken _ _ _ c.loop-p.invariant c.loop-p-test.true _ c.entry_due-due.ensures (told-true c.fits.ensures c.if-not-fits.false-raw) _ c.seek.ensures c.in-Err.is).1

pub loop-p-smaller : goal.loop-p-smaller
loop-p-smaller c = let on = (entry-go _ _ _ c.loop-p.invariant c.loop-p-test.true _ c.entry_due-due.ensures (told-true c.fits.ensures c.if-not-fits.false-raw) _ c.seek.ensures c.in-Ok.is).0 in omega arith

pub loop-p-preserved : goal.loop-p-preserved
loop-p-preserved c = (entry-go _ _ _ c.loop-p.invariant c.loop-p-test.true _ c.entry_due-due.ensures (told-true c.fits.ensures c.if-not-fits.false-raw) _ c.seek.ensures c.in-Ok.is).1

pub overflow_cast-result-2 : goal.overflow_cast-result-2
overflow_cast-result-2 c = omega arith

pub returns : goal.returns
returns c = list_over _ _ _ c.loop-p.invariant c.loop-p-test.false
