use mathlib.Core.Path.{refl, ◌∙◌}
use Prim.Native.Nat.{◌-◌}
use lib.ListN.{length, take, drop}
use Rattle.shift.proofs.CheckedLaws.{passed}
use Rattle.replace.specs.Internal.Pieces.{Ready, free_plan}
use Rattle.replace.proofs.BuildLaws.{rest_part, same-replaced}
use Rattle.replace.proofs.ReadyLaws.{ready-freed}
use Rattle.tree.proofs.Pairs.{both}
use Rattle.listed.proofs.free.substitute_marked.Goals as goal

pub returns : goal.returns
returns c = let t = c.args.table.now in
    let h : Ready (free_plan t) c.args.list.now (take (length c.args.work.now - 8192) (drop 8192 c.args.work.now)) = rw (rest_part c.args.work.now 8192) c.requires.ready in
    both (λ v w. record { value = v; out_after = w }) (passed _ _ _ _ _ (ready-freed t _ _ _ _ _ _ _ h ∙ same-replaced _ _ _ _ _ _ _ _ _ _ _ _ refl c.kind_of.ensures (rest_part c.args.work.now 8192)) (c.free_names.ensures.value, c.free_names.ensures.out_after))
