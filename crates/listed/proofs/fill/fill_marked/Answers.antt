use Prim.Native.Nat.{◌-◌}
use lib.ListN.{length, take, drop}
use Rattle.shift.proofs.CheckedLaws.{passed}
use Rattle.replace.specs.Internal.Pieces.{Ready, fill_plan}
use Rattle.replace.proofs.BuildLaws.{rest_part}
use Rattle.listed.proofs.FillLaws.{same-filled}
use Rattle.tree.proofs.Pairs.{both}
use Rattle.listed.proofs.fill.fill_marked.Goals as goal

pub fill_with-requires : goal.fill_with-requires
fill_with-requires c = let t = c.args.table.now in
    let h : Ready (fill_plan t) c.args.list.now (take (length c.args.work.now - 8192) (drop 8192 c.args.work.now)) = rw (rest_part c.args.work.now 8192) c.requires.ready in
    record { ready = h; n_in_bounds = c.requires.n_in_bounds }

pub returns : goal.returns
returns c = both (λ v w. record { value = v; out_after = w }) (passed _ _ _ _ _ (same-filled _ _ _ _ _ _ _ _ (rest_part c.args.work.now 8192)) (c.fill_with.ensures.value, c.fill_with.ensures.out_after))
