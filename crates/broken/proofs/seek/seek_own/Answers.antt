use mathlib.Core.Bool.{true}
use native.Mathlib.Omega.{arith}
use Rattle.broken.proofs.SeekLaws.{start, out-of-words, own-stop, own-go, is_true, is_false, told-true, told-false}
use Rattle.broken.proofs.seek.seek_own.Goals as goal

pub loop-rest-init : goal.loop-rest-init
loop-rest-init c = λ named. start _ _ _ _ _ c.requires

pub returns-then-row-p : goal.returns-then-row-p
returns-then-row-p c = λ named. out-of-words _ _ _ _ _ _ _ (c.loop-rest.invariant named) c.if-row-p.true

pub overflow_add-p : goal.overflow_add-p
overflow_add-p c = let r = (c.loop-rest.invariant true).room in omega arith

pub fits-requires : goal.fits-requires
fits-requires c = let r = (c.loop-rest.invariant true).room in record { at_bound = omega arith; need_bound = omega arith }

pub returns-then-not-fits : goal.returns-then-not-fits
returns-then-not-fits c = λ named. own-stop _ _ _ _ _ _ _ (c.loop-rest.invariant named) c.if-row-p.false (is_true c.is_own.ensures c.loop-rest-test.true) _ c.after_word-rest.ensures (told-false c.fits.ensures c.if-not-fits.true-raw)

pub loop-rest-preserved : goal.loop-rest-preserved
loop-rest-preserved c = λ named. own-go _ _ _ _ _ _ _ (c.loop-rest.invariant named) c.if-row-p.false (is_true c.is_own.ensures c.loop-rest-test.true) _ c.after_word-rest.ensures (told-true c.fits.ensures c.if-not-fits.false-raw)

pub returns : goal.returns
returns c = (c.loop-rest.invariant, is_false c.is_own.ensures c.loop-rest-test.false)
