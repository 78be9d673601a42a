use native.Mathlib.Omega.{arith}
use mathlib.Core.Path.{refl, sym, ◌∙◌}
use Prim.Native.Nat.{◌-◌}
use lib.ListN.{length, length-take, drop}
use lib.Seq.{length-take-le}
use Rattle.shift.proofs.CheckedLaws.{refused, passed}
use Rattle.replace.proofs.BuildLaws.{built-fits}
use Rattle.replace.proofs.PartialLaws.{inner-low, fits_all, partial-not, partial-put}
use Rattle.tree.proofs.Pairs.{both}
use Rattle.replace.proofs.instantiate_partial.instantiate_partial.Goals as goal

pub returns-then-not-has_room : goal.returns-then-not-has_room
returns-then-not-has_room c = both (λ v w. record { value = v; out_after = w }) (refused _ _ _ _ (partial-not _ c.args.tag c.args.front.now c.args.stay.now _ _ _ _ c.args.source.row.now _ _ c.inner_end-from.result c.inner_end-from.ensures (sym c.has_room.ensures ∙ c.if-not-has_room.true)) refl)

pub offset_bounds-row-inner_start : goal.offset_bounds-row-inner_start
offset_bounds-row-inner_start c = let f = fits_all (length c.args.front.now) (length c.args.stay.now) _ _ (sym c.has_room.ensures ∙ c.if-not-has_room.false) in
    let g = inner-low c.args.tag c.args.source.row.now _ _ c.inner_end-from.result c.inner_end-from.ensures f.2 in
    let f0 = f.0 in
    let f1 = f.1 in
    let f2 = f.2 in
    let f3 = f.3 in
    let g0 = g.0 in
    let g1 = g.1 in
    omega arith

pub slice_bounds-write_head-count : goal.slice_bounds-write_head-count
slice_bounds-write_head-count c = let f = fits_all (length c.args.front.now) (length c.args.stay.now) _ _ (sym c.has_room.ensures ∙ c.if-not-has_room.false) in
    let g = inner-low c.args.tag c.args.source.row.now _ _ c.inner_end-from.result c.inner_end-from.ensures f.2 in
    let f0 = f.0 in
    let f1 = f.1 in
    let f2 = f.2 in
    let f3 = f.3 in
    let g0 = g.0 in
    let g1 = g.1 in
    omega arith

pub slice_bounds-write_head-start : goal.slice_bounds-write_head-start
slice_bounds-write_head-start c = let f = fits_all (length c.args.front.now) (length c.args.stay.now) _ _ (sym c.has_room.ensures ∙ c.if-not-has_room.false) in
    let g = inner-low c.args.tag c.args.source.row.now _ _ c.inner_end-from.result c.inner_end-from.ensures f.2 in
    let f0 = f.0 in
    let f1 = f.1 in
    let f2 = f.2 in
    let f3 = f.3 in
    let g0 = g.0 in
    let g1 = g.1 in
    omega arith

pub slice_bounds-write_head-end : goal.slice_bounds-write_head-end
slice_bounds-write_head-end c = let f = fits_all (length c.args.front.now) (length c.args.stay.now) _ _ (sym c.has_room.ensures ∙ c.if-not-has_room.false) in
    let g = inner-low c.args.tag c.args.source.row.now _ _ c.inner_end-from.result c.inner_end-from.ensures f.2 in
    let f0 = f.0 in
    let f1 = f.1 in
    let f2 = f.2 in
    let f3 = f.3 in
    let g0 = g.0 in
    let g1 = g.1 in
    omega arith

pub write_head-h-requires : goal.write_head-h-requires
write_head-h-requires c = let f = fits_all (length c.args.front.now) (length c.args.stay.now) _ _ (sym c.has_room.ensures ∙ c.if-not-has_room.false) in
    let g = inner-low c.args.tag c.args.source.row.now _ _ c.inner_end-from.result c.inner_end-from.ensures f.2 in
    let f0 = f.0 in
    let f1 = f.1 in
    let f2 = f.2 in
    let f3 = f.3 in
    let g0 = g.0 in
    let g1 = g.1 in
    let k = length-take (c.inner_end-from.result - c.inner_start.result) (drop c.inner_start.result c.args.source.row.now) in
    (omega arith, omega arith)

pub slice_bounds-fill_places-end : goal.slice_bounds-fill_places-end
slice_bounds-fill_places-end c = sym (length-take-le _ _ (built-fits c.write_head-h.auto.head refl c.write_head-h.ensures.upper_bound))

pub returns : goal.returns
returns c = both (λ v w. record { value = v; out_after = w }) (passed _ _ _ _ _ (partial-put _ c.args.tag c.args.front.now c.args.stay.now _ _ _ _ c.args.source.row.now c.args.source.marks.now _ c.inner_end-from.result c.inner_end-from.ensures (sym c.has_room.ensures ∙ c.if-not-has_room.false) _ _ c.write_head-h.result (length-take-le _ _ (built-fits c.write_head-h.auto.head refl c.write_head-h.ensures.upper_bound)) c.is_sure_under.ensures c.inner_start.result c.inner_start.ensures c.write_head-h.ensures.head_after) (c.fill_places.ensures.value, c.fill_places.ensures.out_after))
