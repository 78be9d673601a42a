use mathlib.Core.Path.{refl, sym, ◌∙◌}
use native.Mathlib.Omega.{arith}
use Rattle.places.proofs.PartsLaws.{open-both, part_of, beside-in}
use Rattle.places.proofs.StepLaws.{parts_none, left_is, middle-is, right_is, end_is, part_in, next-is}
use Rattle.one_point.proofs.PartsStepLaws.{wrote-length, search-none, search-pass, search-take}
use Rattle.one_point.proofs.parts.search_parts.Goals as goal

pub search-init : goal.search-init
search-init c = (refl, λ f e m o t. t, c.requires.0, refl)

pub search-preserved-then-both_pairs : goal.search-preserved-then-both_pairs
search-preserved-then-both_pairs c = let h = open-both _ c.search.invariant.2 c.search-test.true (sym c.both_pairs.ensures ∙ c.if-both_pairs.true) in (c.search.invariant.0, λ f e m o t. c.search.invariant.1 f e m o (rw h.1 t), h.0, c.search.invariant.3)

pub search-preserved : goal.search-preserved
search-preserved c = let x = (part_of _ c.search.invariant.2 c.search-test.true (sym c.both_pairs.ensures ∙ c.if-both_pairs.false)) in let a = left_is x c.part_at-part.result c.part_at-part.ensures in let b = middle-is x c.part_at-part.result c.part_at-part.ensures in let d = right_is x c.part_at-part.result c.part_at-part.ensures in let e = end_is x c.part_at-part.result c.part_at-part.ensures in let u = wrote-length x c.part_at-part.result c.part_at-part.ensures _ _ _ c.write_equal-w.ensures in (c.search.invariant.0, λ f e m o t. c.search.invariant.1 f e m o (search-pass x c.part_at-part.result c.part_at-part.ensures c.args.n c.requires.1 _ c.accept-offered.ensures (sym c.is_some.ensures ∙ c.if-is_some.false) _ _ _ c.write_equal-w.ensures f e m o t), rw c.write_equal-w.auto.out (next-is x c.part_at-part.result c.part_at-part.ensures _ _ (omega arith) (omega arith)), c.write_equal-w.auto.out ∙ c.search.invariant.3)

pub returns-after-search : goal.returns-after-search
returns-after-search c = record { whole = λ e m o t. c.search.invariant.1 _ e m o (search-none _ _ _ _ _ _ _ c.search.invariant.0 (parts_none c.args.row.now _ _ _ c.search-test.false) e m o t); rest = c.search.invariant.2 }

pub returns-then-is_some : goal.returns-then-is_some
returns-then-is_some c = let x = (part_of _ c.search.invariant.2 c.search-test.true (sym c.both_pairs.ensures ∙ c.if-both_pairs.false)) in record { whole = λ e m o t. c.search.invariant.1 _ e m o (search-take x c.part_at-part.result c.part_at-part.ensures c.args.n c.requires.1 _ c.accept-offered.ensures (sym c.is_some.ensures ∙ c.if-is_some.true) _ e m o t); rest = next-is x c.part_at-part.result c.part_at-part.ensures _ _ (omega arith) (omega arith) }

pub overflow_add-p : goal.overflow_add-p
overflow_add-p c = let h = beside-in c.search.invariant.2 c.search-test.true in omega arith

pub overflow_add-q : goal.overflow_add-q
overflow_add-q c = let h = beside-in c.search.invariant.2 c.search-test.true in omega arith

pub overflow_add-todo : goal.overflow_add-todo
overflow_add-todo c = let h = beside-in c.search.invariant.2 c.search-test.true in omega arith

pub search-smaller-then-both_pairs : goal.search-smaller-then-both_pairs
search-smaller-then-both_pairs c = let h = beside-in c.search.invariant.2 c.search-test.true in omega arith

pub accept-offered-requires : goal.accept-offered-requires
accept-offered-requires c = let x = (part_of _ c.search.invariant.2 c.search-test.true (sym c.both_pairs.ensures ∙ c.if-both_pairs.false)) in (c.requires.2, c.requires.1, part_in x c.part_at-part.result c.part_at-part.ensures)

pub write_equal-w-requires : goal.write_equal-w-requires
write_equal-w-requires c = let x = (part_of _ c.search.invariant.2 c.search-test.true (sym c.both_pairs.ensures ∙ c.if-both_pairs.false)) in let a = left_is x c.part_at-part.result c.part_at-part.ensures in let b = middle-is x c.part_at-part.result c.part_at-part.ensures in let d = right_is x c.part_at-part.result c.part_at-part.ensures in let e = end_is x c.part_at-part.result c.part_at-part.ensures in let r = x.room in let l = x.some-l in let m = x.some-r in (part_in x c.part_at-part.result c.part_at-part.ensures, omega arith)

pub search-smaller : goal.search-smaller
search-smaller c = let x = (part_of _ c.search.invariant.2 c.search-test.true (sym c.both_pairs.ensures ∙ c.if-both_pairs.false)) in let a = left_is x c.part_at-part.result c.part_at-part.ensures in let b = middle-is x c.part_at-part.result c.part_at-part.ensures in let d = right_is x c.part_at-part.result c.part_at-part.ensures in let e = end_is x c.part_at-part.result c.part_at-part.ensures in let l = x.some-l in let m = x.some-r in let h = beside-in c.search.invariant.2 c.search-test.true in omega arith
