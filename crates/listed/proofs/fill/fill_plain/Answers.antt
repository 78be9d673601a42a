use mathlib.Core.Path.{refl, sym, ◌∙◌}
use Prim.Native.Nat.{◌+◌, ◌≤◌}
use native.Mathlib.Omega.{arith}
use lib.ListN.{length, take}
use lib.Seq.{length-take-le}
use Rattle.shift.proofs.CheckedLaws.{passed}
use Rattle.replace.proofs.BuildLaws.{built-fits}
use Rattle.replace.proofs.NameLaws.{head-kept}
use Rattle.replace.proofs.PieceLaws.{used-first, used-few}
use Rattle.listed.proofs.FillLaws.{plain-placed}
use Rattle.tree.proofs.Pairs.{both}
use Rattle.listed.proofs.fill.fill_plain.Goals as goal

pub slice_bounds-fill_places-end : goal.slice_bounds-fill_places-end
slice_bounds-fill_places-end c = sym (length-take-le _ _ (built-fits c.write_head-h.auto.head refl c.write_head-h.ensures.upper_bound))

pub returns : goal.returns
returns c = let ws = take c.args.source.table.now.n c.args.source.table.now.words in
    let t = c.args.source.table.now in
    let l = used-first _ c.requires.ready.tabled in
    let few = used-few _ c.requires.ready.tabled in
    let x : 2 + length ws ≤ length c.args.source.row.now = omega arith in
    let y : 2 + length ws ≤ 34 = omega arith in
    both (λ v w. record { value = v; out_after = w }) (passed _ _ _ _ _ (plain-placed _ _ _ _ _ _ t _ c.requires.ready (c.write_head-h.ensures.head_after ∙ sym (head-kept _ _ _ few x y))) (c.fill_places.ensures.value, c.fill_places.ensures.out_after))
