use native.Mathlib.Omega.{arith}
use borrow.Author.Rules.{rules}
use Rattle.named.proofs.LevelLaws.{seek-first, seek-low, seek_hit, seek-on, seek-less, seek-none}
use Rattle.named.proofs.scope.first_of.Goals as goal

pub slot_of-slot-requires : goal.slot_of-slot-requires
slot_of-slot-requires c = omega arith

pub bounds-scope-slot : goal.bounds-scope-slot
bounds-scope-slot c = omega arith

pub loop-l-init : goal.loop-l-init
loop-l-init c = rw c.slot_of-slot.ensures.value (seek-first _ _ _ c.requires.0 c.requires.1)

pub overflow_cast-at : goal.overflow_cast-at
overflow_cast-at c = let l = seek-low _ _ _ c.requires.0 _ c.loop-l.invariant in search rules

pub overflow_mul-at : goal.overflow_mul-at
overflow_mul-at c = let l = seek-low _ _ _ c.requires.0 _ c.loop-l.invariant in search rules

pub offset_bounds-scope-at : goal.offset_bounds-scope-at
offset_bounds-scope-at c = let l = seek-low _ _ _ c.requires.0 _ c.loop-l.invariant in search rules

pub bounds-scope-at : goal.bounds-scope-at
bounds-scope-at c = let l = seek-low _ _ _ c.requires.0 _ c.loop-l.invariant in omega arith

pub returns-then-scope-at : goal.returns-then-scope-at
returns-then-scope-at c = seek_hit _ _ _ c.requires.0 _ c.loop-l.invariant c.loop-l-test.true c.if-scope-at.true

pub overflow_add-l : goal.overflow_add-l
overflow_add-l c = let l = seek-low _ _ _ c.requires.0 _ c.loop-l.invariant in search rules

pub offset_bounds-scope-at-in-loop-l : goal.offset_bounds-scope-at-in-loop-l
offset_bounds-scope-at-in-loop-l c = let l = seek-low _ _ _ c.requires.0 _ c.loop-l.invariant in search rules

pub bounds-scope-at-in-loop-l : goal.bounds-scope-at-in-loop-l
bounds-scope-at-in-loop-l c = let l = seek-low _ _ _ c.requires.0 _ c.loop-l.invariant in omega arith

pub loop-l-smaller : goal.loop-l-smaller
loop-l-smaller c = seek-less _ _ _ c.requires.0 _ c.loop-l.invariant c.loop-l-test.true

pub loop-l-preserved : goal.loop-l-preserved
loop-l-preserved c = seek-on _ _ _ c.requires.0 _ c.loop-l.invariant c.loop-l-test.true c.if-scope-at.false

pub returns : goal.returns
returns c = seek-none _ _ _ c.requires.0 _ c.loop-l.invariant c.loop-l-test.false
