use mathlib.Core.Path.{sym, ◌∙◌}
use mathlib.Core.Bool.{true}
use Prim.Native.Nat.{◌+◌, ◌-◌, ◌≤◌}
use native.Mathlib.Omega.{arith}
use Rattle.tree.specs.Tag.{expr}
use Rattle.rules.specs.Split.{equal}
use Rattle.rules.specs.Scan.{scan}
use Rattle.one_point.proofs.ScanLaws.{ends_at, ends-not, sides-in}
use Rattle.one_point.proofs.ReadLaws.{tell, tell_no, equal-no, equal-no-right, equal-read}
use Rattle.one_point.proofs.MarkLaws.{no-marks, tell-marks}
use Rattle.one_point.proofs.equality.scan_equality.Goals as goal

pub returns-in_err-right : goal.returns-in_err-right
returns-in_err-right c = rw c.from_residual.ensures (let m : c.args.depth - 1 ≤ 64 = omega arith in
    record { scan_told = tell_no (scan c.args.n true) c.args.row.now _ _ _ _ _ (equal-no c.args.row.now c.args.depth c.args.at c.requires.2.inside c.requires.2.deeper c.requires.3 (ends-not c.args.row.now (c.args.depth - 1) expr (c.args.at + 1) m _ c.skip_expr.ensures c.in_err-right.was)); scan_marks = no-marks _ _ _ _ _ (equal-no c.args.row.now c.args.depth c.args.at c.requires.2.inside c.requires.2.deeper c.requires.3 (ends-not c.args.row.now (c.args.depth - 1) expr (c.args.at + 1) m _ c.skip_expr.ensures c.in_err-right.was)) })

pub returns-in_err-next : goal.returns-in_err-next
returns-in_err-next c = rw c.from_residual-in_err-next.ensures (let m : c.args.depth - 1 ≤ 64 = omega arith in
    record { scan_told = tell_no (scan c.args.n true) c.args.row.now _ _ _ _ _ (equal-no-right c.args.row.now c.args.depth c.args.at c.requires.2.inside c.requires.2.deeper c.requires.3 _ (ends_at c.args.row.now (c.args.depth - 1) expr (c.args.at + 1) m _ c.skip_expr.ensures _ c.in_ok-right.was) (ends-not c.args.row.now (c.args.depth - 1) expr _ m _ c.skip_expr-2.ensures c.in_err-next.was)); scan_marks = no-marks _ _ _ _ _ (equal-no-right c.args.row.now c.args.depth c.args.at c.requires.2.inside c.requires.2.deeper c.requires.3 _ (ends_at c.args.row.now (c.args.depth - 1) expr (c.args.at + 1) m _ c.skip_expr.ensures _ c.in_ok-right.was) (ends-not c.args.row.now (c.args.depth - 1) expr _ m _ c.skip_expr-2.ensures c.in_err-next.was)) })

pub returns-then-both_pairs : goal.returns-then-both_pairs
returns-then-both_pairs c = let m : c.args.depth - 1 ≤ 64 = omega arith in
    let l = ends_at c.args.row.now (c.args.depth - 1) expr (c.args.at + 1) m _ c.skip_expr.ensures _ c.in_ok-right.was in
    let r = ends_at c.args.row.now (c.args.depth - 1) expr _ m _ c.skip_expr-2.ensures _ c.in_ok-next.was in
    let q = equal-read c.args.row.now c.args.depth c.args.at c.requires.2.inside c.requires.2.deeper c.requires.3 _ l _ r c.requires.0.deep in
    let x = q.0 in
    record { scan_told = tell (scan c.args.n true) c.args.row.now _ _ _ _ _ _ (equal x.left x.other) _ q.1 (c.scan_parts.ensures.sides_told x); scan_marks = tell-marks _ _ _ _ _ (equal x.left x.other) _ q.1 (c.scan_parts.ensures.sides_marks x) }

pub returns : goal.returns
returns c = let m : c.args.depth - 1 ≤ 64 = omega arith in
    let l = ends_at c.args.row.now (c.args.depth - 1) expr (c.args.at + 1) m _ c.skip_expr.ensures _ c.in_ok-right.was in
    let r = ends_at c.args.row.now (c.args.depth - 1) expr _ m _ c.skip_expr-2.ensures _ c.in_ok-next.was in
    let q = equal-read c.args.row.now c.args.depth c.args.at c.requires.2.inside c.requires.2.deeper c.requires.3 _ l _ r c.requires.0.deep in
    let x = q.0 in
    record { scan_told = tell (scan c.args.n true) c.args.row.now _ _ _ _ _ _ (equal x.left x.other) _ q.1 (c.scan_part.ensures.sides_told x); scan_marks = tell-marks _ _ _ _ _ (equal x.left x.other) _ q.1 (c.scan_part.ensures.sides_marks x) }

pub scan_parts-requires : goal.scan_parts-requires
scan_parts-requires c = let m : c.args.depth - 1 ≤ 64 = omega arith in
    let l = ends_at c.args.row.now (c.args.depth - 1) expr (c.args.at + 1) m _ c.skip_expr.ensures _ c.in_ok-right.was in
    let r = ends_at c.args.row.now (c.args.depth - 1) expr _ m _ c.skip_expr-2.ensures _ c.in_ok-next.was in
    let q = equal-read c.args.row.now c.args.depth c.args.at c.requires.2.inside c.requires.2.deeper c.requires.3 _ l _ r c.requires.0.deep in
    let x = q.0 in
    let i = sides-in c.args.row.now c.args.at _ _ x in
    let u = i.0 in
    let v = i.1 in
    (x, c.requires.0.short, c.requires.1, omega arith, omega arith)

pub scan_part-requires : goal.scan_part-requires
scan_part-requires c = let m : c.args.depth - 1 ≤ 64 = omega arith in
    let l = ends_at c.args.row.now (c.args.depth - 1) expr (c.args.at + 1) m _ c.skip_expr.ensures _ c.in_ok-right.was in
    let r = ends_at c.args.row.now (c.args.depth - 1) expr _ m _ c.skip_expr-2.ensures _ c.in_ok-next.was in
    let q = equal-read c.args.row.now c.args.depth c.args.at c.requires.2.inside c.requires.2.deeper c.requires.3 _ l _ r c.requires.0.deep in
    let x = q.0 in
    let i = sides-in c.args.row.now c.args.at _ _ x in
    let u = i.0 in
    let v = i.1 in
    (x, sym c.both_pairs.ensures ∙ c.if-both_pairs.false, c.requires.0.short, c.requires.1, omega arith, omega arith)
