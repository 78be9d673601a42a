use mathlib.Core.Path.{sym, ◌∙◌}
use Prim.Native.Nat.{◌≤◌}
use native.Mathlib.Omega.{arith}
use lib.ListN.{length, take}
use lib.Seq.{length-take-le}
use Rattle.replace.proofs.MarkLaws.{front_kept}
use Rattle.tree.proofs.Pairs.{both}
use Rattle.listed.proofs.marks.mark_row.Goals as goal

pub slice_bounds-mark_front-end-2 : goal.slice_bounds-mark_front-end-2
slice_bounds-mark_front-end-2 c = sym (length-take-le 8192 c.args.work.now c.requires.in_bounds)

pub mark_front-requires : goal.mark_front-requires
mark_front-requires c = let l = length-take-le 8192 c.args.work.now c.requires.in_bounds in let h : length c.args.row.now ≤ length (take 8192 c.args.work.now) = omega arith in record { depth_bound = c.requires.depth_bound; row_in_bounds = h; row_len_bound = c.requires.row_len_bound }

pub returns : goal.returns
returns c = both (λ u r0. both (λ v w. record { value = u; marked = v; work_unchanged = w }) r0) ((c.mark_front.ensures.value, front_kept _ _ _ _ _ (c.mark_front.auto.marks ∙ length-take-le 8192 c.args.work.now c.requires.in_bounds) c.requires.row_len_bound c.mark_front.ensures.marked))
