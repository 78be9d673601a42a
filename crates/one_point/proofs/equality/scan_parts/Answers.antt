use Prim.Native.Nat.{◌+◌, ◌≤◌}
use native.Mathlib.Omega.{arith}
use lib.ListN.{length}
use Rattle.one_point.proofs.ScanLaws.{sides-in, sides-beside}
use Rattle.one_point.proofs.EqualityLaws.{parts-done, parts-written, parts-inside}
use Rattle.one_point.proofs.EqualityMarks.{rest-marks}
use Rattle.one_point.proofs.equality.scan_parts.Goals as goal

pub returns : goal.returns
returns c = let i = sides-in c.args.row.now c.args.at c.args.right c.args.next c.requires.0 in
    let u = i.0 in
    let v = i.1 in
    let low : c.args.pos + 2 ≤ length c.args.out.now = omega arith in
    record { sides_told = λ x. parts-done c.args.row.now c.args.at c.args.right c.args.next c.args.n _ _ x _ _ _ _ _ _ low (c.search_parts-s.ensures.whole _ _ _ c.copy_parts-c.ensures) c.finish_junction-end.ensures; sides_marks = λ x. rest-marks c.args.row.now c.args.at c.args.right c.args.next c.args.n x c.args.pos c.args.out.now _ (omega arith) (record { next = c.args.next; found = c.search_parts-s.result.found; end = c.finish_junction-end.result }) c.args.marks.now _ c.requires.1 (parts-done c.args.row.now c.args.at c.args.right c.args.next c.args.n _ _ x _ _ _ _ _ _ low (c.search_parts-s.ensures.whole _ _ _ c.copy_parts-c.ensures) c.finish_junction-end.ensures) c.mark_rest.ensures }

pub search_parts-s-requires : goal.search_parts-s-requires
search_parts-s-requires c = (sides-beside c.args.row.now c.args.at c.args.right c.args.next c.requires.0 _ _ c.requires.3 c.requires.1, c.requires.1, c.requires.2)

pub finish_junction-end-requires : goal.finish_junction-end-requires
finish_junction-end-requires c = let i = sides-in c.args.row.now c.args.at c.args.right c.args.next c.requires.0 in
    let u = i.0 in
    let v = i.1 in
    let low : c.args.pos + 2 ≤ length c.args.out.now = omega arith in
    let t = parts-written _ _ _ _ _ _ _ _ _ (c.search_parts-s.ensures.whole _ _ _ c.copy_parts-c.ensures) in
    (omega arith, parts-inside _ c.args.out.now _ _ _ _ _ _ _ low (c.search_parts-s.ensures.whole _ _ _ c.copy_parts-c.ensures))
