use mathlib.Core.Path.{refl, ◌∙◌}
use native.Mathlib.Omega.{arith}
use lib.ListN.{get_or}
use Rattle.line.proofs.ScanLaws.{group-past, group-other, group-first, scan-past, scan-bad, scan-end, scan-more, mark-few, mark-is, depth-few}
use Rattle.line.proofs.group.read_group.Goals as goal

pub returns-then-line-at : goal.returns-then-line-at
returns-then-line-at c = group-past _ _ _ _ c.if-line-at.true

pub returns-then-line-at-ne91 : goal.returns-then-line-at-ne91
returns-then-line-at-ne91 c = group-other _ _ _ _ c.if-line-at.false c.if-line-at-ne91.true

pub loop-p-init : goal.loop-p-init
loop-p-init c = record {
  after = λ b r t. group-first _ _ _ _ _ _ c.if-line-at.false c.if-line-at-ne91.false t;
  words = omega arith;
  inside = omega arith;
  brackets = omega arith;
  same_length = refl;
}

pub returns-in_err-after : goal.returns-in_err-after
returns-in_err-after c = rw c.from_residual.ensures (c.loop-p.invariant.after _ _ (scan-bad _ _ _ _ _ _ _ c.loop-p-test.true c.next.ensures _ c.in_err-after.was))

pub put_mark-n-requires : goal.put_mark-n-requires
put_mark-n-requires c = let h = c.loop-p.invariant.words in omega arith

pub depth_after-depth-requires : goal.depth_after-depth-requires
depth_after-depth-requires c = let h = c.loop-p.invariant.brackets in let k = c.loop-p.invariant.inside in (omega arith, omega arith)

pub returns-then-depth-eq0 : goal.returns-then-depth-eq0
returns-then-depth-eq0 c = c.loop-p.invariant.after _ _ (scan-end _ _ _ _ _ _ _ c.loop-p-test.true c.next.ensures _ c.in_ok-after.was _ _ c.depth_after-depth.ensures _ _ (mark-is _ _ _ _ _ _ c.noted.ensures c.put_mark-n.ensures) c.if-depth-eq0.true)

pub loop-p-preserved : goal.loop-p-preserved
loop-p-preserved c =
    let f = mark-few _ _ _ _ _ c.put_mark-n.ensures in
    let g = depth-few c.loop-p.depth (get_or c.args.line.now c.loop-p.p 0) in
    let h = c.loop-p.invariant.words in
    let k = c.loop-p.invariant.brackets in
    record {
      after = λ b r t. c.loop-p.invariant.after b r (scan-more _ _ _ _ _ _ _ c.loop-p-test.true c.next.ensures _ c.in_ok-after.was _ _ c.depth_after-depth.ensures _ _ (mark-is _ _ _ _ _ _ c.noted.ensures c.put_mark-n.ensures) c.if-depth-eq0.false b r t);
      words = omega arith;
      inside = omega arith;
      brackets = omega arith;
      same_length = c.put_mark-n.auto.row ∙ c.loop-p.invariant.same_length;
    }

pub returns : goal.returns
returns c = c.loop-p.invariant.after _ _ (scan-past _ _ _ _ _ _ _ _ c.loop-p-test.false)
