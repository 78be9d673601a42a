-- The proof of the cycle of calls {scan_implies, scan_junction, scan_next, scan_not, scan_pred, scan_twice, search_children}. The measure is four times the words that are left, and a little more for a
-- function that calls another at the same place.
use mathlib.Core.Path.{◌≡◌, refl, sym, ◌∙◌}
use mathlib.Core.Bool.{true, not}
use Prim.Native.Nat.{◌+◌, ◌-◌, ◌*◌, ◌≤◌, ◌<◌}
use native.Mathlib.Omega.{arith}
use lib.ListN.{length, get_or, set, length-set}
use Rattle.rules.specs.Scan.{scan}
use Rattle.one_point.proofs.ReadLaws.{told-ok, told-no, tell_no, bounds, none-past, none_deep, no-count, few-count, junction-got, junction-no}
use Rattle.one_point.proofs.EndLaws.{is_one, not_some, start-low, start-pos, start-end}
use Rattle.one_point.proofs.BecameLaws.{child-room, not-no, not-gone, not-became}
use Rattle.one_point.proofs.TwiceLaws.{twice-shallow, second-in, twice-no, twice-gone, twice-room, twice-became, twice-gone-marks, twice-marks}
use Rattle.one_point.proofs.ImpliesLaws.{left-no, right-no, right-alone, both_left, left_alone, alone-marks, both-marks, left-only-marks}
use Rattle.one_point.proofs.ChildrenLaws.{kids-none, kids-bad, kids-read, kids-inside, kids-copied}
use Rattle.one_point.proofs.JunctionLaws.{child-same, child-passed, child-taken, child-ends, passed-marks, taken-marks, over-marks, lost-marks, search-lost, search-over, one_at_most}
use Rattle.one_point.proofs.NodeLaws.{junction-tag, junction-told, junction-marks, kids-end, next-copied, next-lost, next-scanned, other-told, no-entry, no-entry-below}
use Rattle.one_point.proofs.MarkLaws.{no-marks}
use Rattle.one_point.proofs.ScanMarkLaws.{quiet-marks, child-marks, clean-in, clean_after, start-clean, not-gone-marks, not-marks, next-copied-marks, next-scanned-marks, other-marks}
use Rattle.one_point.proofs.scan.+scanners.Goals as goal

pub scan_implies-returns-in_err-l : goal.scan_implies-returns-in_err-l
scan_implies-returns-in_err-l t c = let k = left-no c.args.row.now c.args.depth c.args.at c.args.n c.args.pos c.requires.2 c.requires.3 c.args.out.now _ c.in_err-l.ensures.scan_told in
    rw c.from_residual.ensures (record { scan_told = k; scan_marks = quiet-marks _ c.args.row.now c.args.depth c.args.at c.args.pos c.args.out.now _ _ _ k })

pub scan_implies-returns-in_err-r : goal.scan_implies-returns-in_err-r
scan_implies-returns-in_err-r t c = let a = told-ok (scan c.args.n true) c.args.row.now (c.args.depth - 1) (c.args.at + 1) (c.args.pos + 1) (set c.args.out.now c.args.pos 251) _ _ c.in_ok-l.ensures.scan_told in
    let k = right-no c.args.row.now c.args.depth c.args.at c.args.n c.args.pos c.requires.2 c.requires.3 c.args.out.now _ _ a _ _ _ c.in_err-r.ensures.scan_told refl in
    rw c.from_residual-in_err-r.ensures (record { scan_told = k; scan_marks = quiet-marks _ c.args.row.now c.args.depth c.args.at c.args.pos c.args.out.now _ _ _ k })

pub scan_implies-returns-in_default : goal.scan_implies-returns-in_default
scan_implies-returns-in_default t c = let low : c.args.pos + 1 ≤ length c.args.out.now = omega arith in
    let a = told-ok (scan c.args.n true) c.args.row.now (c.args.depth - 1) (c.args.at + 1) (c.args.pos + 1) (set c.args.out.now c.args.pos 251) _ _ c.in_ok-l.ensures.scan_told in
    let h = start-pos _ _ _ c.unwrap_or-start.ensures c.in_default.is in
    record {
      scan_told = right-alone c.args.row.now c.args.depth c.args.at c.args.n c.args.pos c.requires.2 c.requires.3 c.args.out.now _ _ a _ _ _ c.in_ok-r.ensures.scan_told low _ refl c.in_default.is h;
      scan_marks = alone-marks c.args.row.now c.args.depth c.args.at c.args.n c.args.pos c.requires.2 c.requires.3 c.args.out.now _ _ a _ _ _ c.in_ok-r.ensures.scan_told low _ refl c.args.marks.now _ _ c.in_ok-l.ensures.scan_marks c.in_ok-r.ensures.scan_marks c.in_default.is h;
    }

pub scan_implies-returns-then-is_some : goal.scan_implies-returns-then-is_some
scan_implies-returns-then-is_some t c = let low : c.args.pos + 1 ≤ length c.args.out.now = omega arith in
    let a = told-ok (scan c.args.n true) c.args.row.now (c.args.depth - 1) (c.args.at + 1) (c.args.pos + 1) (set c.args.out.now c.args.pos 251) _ _ c.in_ok-l.ensures.scan_told in
    let h = start-end _ _ _ _ c.unwrap_or-start.ensures c.in-Some.is in
    let (v, p) = is_one c.in_ok-r.r.end (sym c.is_some.ensures ∙ c.if-is_some.true) in
    record {
      scan_told = both_left c.args.row.now c.args.depth c.args.at c.args.n c.args.pos c.requires.2 c.requires.3 c.args.out.now _ _ a _ _ _ c.in_ok-r.ensures.scan_told low _ refl _ c.in-Some.is v p h;
      scan_marks = both-marks c.args.row.now c.args.depth c.args.at c.args.n c.args.pos c.requires.2 c.requires.3 c.args.out.now _ _ a _ _ _ c.in_ok-r.ensures.scan_told low _ refl c.args.marks.now _ _ c.in_ok-l.ensures.scan_marks c.in_ok-r.ensures.scan_marks _ c.in-Some.is h v p;
    }

pub scan_implies-returns : goal.scan_implies-returns
scan_implies-returns t c = let low : c.args.pos + 1 ≤ length c.args.out.now = omega arith in
    let a = told-ok (scan c.args.n true) c.args.row.now (c.args.depth - 1) (c.args.at + 1) (c.args.pos + 1) (set c.args.out.now c.args.pos 251) _ _ c.in_ok-l.ensures.scan_told in
    let h = start-end _ _ _ _ c.unwrap_or-start.ensures c.in-Some.is in
    let p = not_some c.in_ok-r.r.end (sym c.is_some.ensures ∙ c.if-is_some.false) in
    record {
      scan_told = left_alone c.args.row.now c.args.depth c.args.at c.args.n c.args.pos c.requires.2 c.requires.3 c.args.out.now _ _ a _ _ _ c.in_ok-r.ensures.scan_told low _ refl _ c.in-Some.is p h _ _ c.finish_not-end.ensures.wrote;
      scan_marks = left-only-marks c.args.row.now c.args.depth c.args.at c.args.n c.args.pos c.requires.2 c.requires.3 c.args.out.now _ _ a _ _ _ c.in_ok-r.ensures.scan_told low _ refl c.args.marks.now _ _ c.in_ok-l.ensures.scan_marks c.in_ok-r.ensures.scan_marks _ c.in-Some.is h p c.requires.4.clear _ c.finish_not-end.ensures.marks_after;
    }

pub scan_junction-returns-then-row-at : goal.scan_junction-returns-then-row-at
scan_junction-returns-then-row-at t c = let y = junction-tag (get_or c.args.row.now c.args.at 0) c.args.positive c.requires.3 in
    let k = tell_no (scan c.args.n c.args.positive) c.args.row.now c.args.depth c.args.at c.args.pos c.args.out.now _ (no-count c.args.row.now c.args.at c.requires.2.inside (get_or c.args.row.now c.args.at 0) y.node-tag y.shape refl c.args.depth c.requires.2.deeper c.if-row-at.true) in
    record { scan_told = k; scan_marks = quiet-marks _ c.args.row.now c.args.depth c.args.at c.args.pos c.args.out.now _ _ _ k }

pub scan_junction-returns-then-count-lt2 : goal.scan_junction-returns-then-count-lt2
scan_junction-returns-then-count-lt2 t c = let y = junction-tag (get_or c.args.row.now c.args.at 0) c.args.positive c.requires.3 in
    let two : c.args.at + 1 < length c.args.row.now = omega arith in
    let k = tell_no (scan c.args.n c.args.positive) c.args.row.now c.args.depth c.args.at c.args.pos c.args.out.now _ (few-count c.args.row.now c.args.at c.requires.2.inside (get_or c.args.row.now c.args.at 0) y.node-tag y.shape refl two c.args.depth c.requires.2.deeper c.if-count-lt2.true) in
    record { scan_told = k; scan_marks = quiet-marks _ c.args.row.now c.args.depth c.args.at c.args.pos c.args.out.now _ _ _ k }

pub scan_junction-returns-in_err-next : goal.scan_junction-returns-in_err-next
scan_junction-returns-in_err-next t c = let y = junction-tag (get_or c.args.row.now c.args.at 0) c.args.positive c.requires.3 in
    let two : c.args.at + 1 < length c.args.row.now = omega arith in
    let most : get_or c.args.row.now (c.args.at + 1) 0 ≤ 4294967295 = omega (arith, c.shared_slice_known-3-1.given (c.args.at + 1)) in
    let k = tell_no (scan c.args.n c.args.positive) c.args.row.now c.args.depth c.args.at c.args.pos c.args.out.now _ (junction-no c.args.row.now c.args.at c.requires.2.inside (get_or c.args.row.now c.args.at 0) y.node-tag y.shape refl two c.args.depth c.requires.2.deeper c.if-count-lt2.false most (c.search_children-s.ensures.searched_kids.same ∙ kids-bad c.args.row.now (c.args.depth - 1) _ _ _ c.mark_preds.ensures.value c.in_err-next.was)) in
    rw c.from_residual.ensures (record { scan_told = k; scan_marks = quiet-marks _ c.args.row.now c.args.depth c.args.at c.args.pos c.args.out.now _ _ _ k })

pub scan_junction-returns : goal.scan_junction-returns
scan_junction-returns t c = let y = junction-tag (get_or c.args.row.now c.args.at 0) c.args.positive c.requires.3 in
    let two : c.args.at + 1 < length c.args.row.now = omega arith in
    let most : get_or c.args.row.now (c.args.at + 1) 0 ≤ 4294967295 = omega (arith, c.shared_slice_known-3-1.given (c.args.at + 1)) in
    let k = kids-read c.args.row.now (c.args.depth - 1) c.search_children-s.result.next c.search_children-s.result.left _ _ c.mark_preds.ensures.value c.in_ok-next.was in
    let x = junction-got c.args.row.now c.args.at c.requires.2.inside (get_or c.args.row.now c.args.at 0) y.node-tag y.shape refl two c.args.depth c.requires.2.deeper c.if-count-lt2.false most (c.search_children-s.ensures.searched_kids.same ∙ k.0) in
    record { scan_told = junction-told c.args.row.now c.args.depth c.args.at c.args.n c.args.pos c.args.positive (get_or c.args.row.now c.args.at 0) (get_or c.args.row.now (c.args.at + 1) 0) _ x.0 x.1 y _ _ c.args.out.now _ _ (omega arith) _ _ _ (k.1 ∙ c.search_children-s.ensures.searched_kids.ends k.0) c.finish_junction-left.ensures (c.search_children-s.ensures.searched_kids.whole k.0 _ _ _ (kids-copied c.args.row.now (c.args.depth - 1) _ _ k.0 _ _ _ _ _ _ k.1 c.copy_part-end.ensures.wrote)); scan_marks = junction-marks c.args.row.now c.args.depth c.args.at c.args.n c.args.pos c.args.positive (get_or c.args.row.now c.args.at 0) (get_or c.args.row.now (c.args.at + 1) 0) _ x.0 x.1 y _ _ c.args.out.now _ _ c.args.marks.now _ _ (c.search_children-s.ensures.searched_kids.whole k.0 _ _ _ (kids-copied c.args.row.now (c.args.depth - 1) _ _ k.0 _ _ _ _ _ _ k.1 c.copy_part-end.ensures.wrote)) (c.mark_preds.ensures.kids_marked k.0 ∙ c.search_children-s.ensures.searched_marks.whole k.0) c.finish_marks.ensures c.requires.4.clear }

pub scan_next-returns-in_err-c : goal.scan_next-returns-in_err-c
scan_next-returns-in_err-c t c = rw c.from_residual.ensures
    (record {
      scan_told = λ x t. next-lost c.args.row.now c.args.at c.args.pos c.args.found c.args.out.now _ _ c.in_err-c.ensures.scan_told c.args.n x;
      scan_marks = λ x t. quiet-marks _ c.args.row.now c.args.depth c.args.at c.args.pos c.args.out.now _ _ _ (next-lost c.args.row.now c.args.at c.args.pos c.args.found c.args.out.now _ _ c.in_err-c.ensures.scan_told c.args.n x);
    })

pub scan_next-returns-then-is_some : goal.scan_next-returns-then-is_some
scan_next-returns-then-is_some t c = record { scan_told = λ x t. next-copied c.args.row.now c.args.at c.args.pos c.args.found c.args.out.now _ (sym c.is_some.ensures ∙ c.if-is_some.true) _ _ c.in_ok-c.ensures.scan_told c.args.n x t; scan_marks = λ x t. next-copied-marks c.args.row.now c.args.pos c.args.found c.args.marks.now _ (sym c.is_some.ensures ∙ c.if-is_some.true) _ c.in_ok-c.ensures.scan_marks c.args.n x t }

pub scan_next-returns : goal.scan_next-returns
scan_next-returns t c = record { scan_told = λ x t. next-scanned c.args.row.now c.args.at c.args.pos c.args.found c.args.out.now _ (sym c.is_some.ensures ∙ c.if-is_some.false) _ c.args.n _ c.scan_pred.ensures.scan_told x t; scan_marks = λ x t. next-scanned-marks c.args.row.now c.args.pos c.args.found c.args.marks.now _ (sym c.is_some.ensures ∙ c.if-is_some.false) c.args.n _ c.scan_pred.ensures.scan_marks x t }

pub scan_not-returns-in_err-s : goal.scan_not-returns-in_err-s
scan_not-returns-in_err-s t c = let k = not-no c.args.row.now c.args.depth c.args.at c.args.n c.args.pos c.args.positive c.requires.2 c.requires.3 c.args.out.now _ c.in_err-s.ensures.scan_told in
    rw c.from_residual.ensures (record { scan_told = k; scan_marks = quiet-marks _ c.args.row.now c.args.depth c.args.at c.args.pos c.args.out.now _ _ _ k })

pub scan_not-returns-in_default : goal.scan_not-returns-in_default
scan_not-returns-in_default t c = let low : c.args.pos + 1 ≤ length c.args.out.now = omega arith in
    let a = told-ok (scan c.args.n (not c.args.positive)) c.args.row.now (c.args.depth - 1) (c.args.at + 1) (c.args.pos + 1) c.args.out.now _ _ c.in_ok-s.ensures.scan_told in
    record { scan_told = not-gone c.args.row.now c.args.depth c.args.at c.args.n c.args.pos c.args.positive c.requires.2 c.requires.3 c.args.out.now _ _ low a c.in_default.is; scan_marks = not-gone-marks c.args.row.now c.args.depth c.args.at c.args.n c.args.pos c.args.positive c.requires.2 c.requires.3 c.args.out.now _ _ low a c.args.marks.now _ c.in_ok-s.ensures.scan_marks c.in_default.is }

pub scan_not-returns : goal.scan_not-returns
scan_not-returns t c = let low : c.args.pos + 1 ≤ length c.args.out.now = omega arith in
    let a = told-ok (scan c.args.n (not c.args.positive)) c.args.row.now (c.args.depth - 1) (c.args.at + 1) (c.args.pos + 1) c.args.out.now _ _ c.in_ok-s.ensures.scan_told in
    record { scan_told = not-became c.args.row.now c.args.depth c.args.at c.args.n c.args.pos c.args.positive c.requires.2 c.requires.3 c.args.out.now _ _ low a _ c.in-Some.is _ _ c.finish_not-end.ensures.wrote; scan_marks = not-marks c.args.row.now c.args.depth c.args.at c.args.n c.args.pos c.args.positive c.requires.2 c.requires.3 c.args.out.now _ _ low a c.args.marks.now _ c.in_ok-s.ensures.scan_marks _ c.in-Some.is c.requires.4.clear _ c.finish_not-end.ensures.marks_after }

pub scan_pred-returns-then-depth-eq0 : goal.scan_pred-returns-then-depth-eq0
scan_pred-returns-then-depth-eq0 t c = record { scan_told = tell_no (scan c.args.n c.args.positive) c.args.row.now c.args.depth c.args.at c.args.pos c.args.out.now _ (none_deep c.args.row.now c.args.depth c.args.at c.if-depth-eq0.true); scan_marks = no-marks _ _ _ _ _ (none_deep c.args.row.now c.args.depth c.args.at c.if-depth-eq0.true) }

pub scan_pred-returns-then-row-at : goal.scan_pred-returns-then-row-at
scan_pred-returns-then-row-at t c = record { scan_told = tell_no (scan c.args.n c.args.positive) c.args.row.now c.args.depth c.args.at c.args.pos c.args.out.now _ (none-past c.args.row.now c.args.depth c.args.at c.if-row-at.true); scan_marks = no-marks _ _ _ _ _ (none-past c.args.row.now c.args.depth c.args.at c.if-row-at.true) }

pub scan_pred-returns-then-has_tag : goal.scan_pred-returns-then-has_tag
scan_pred-returns-then-has_tag t c = record { scan_told = c.scan_twice.ensures.scan_told; scan_marks = c.scan_twice.ensures.scan_marks }

pub scan_pred-returns-then-tag-eq-NOT : goal.scan_pred-returns-then-tag-eq-NOT
scan_pred-returns-then-tag-eq-NOT t c = record { scan_told = c.scan_not.ensures.scan_told; scan_marks = c.scan_not.ensures.scan_marks }

pub scan_pred-returns-then-tag-eq-EQUAL : goal.scan_pred-returns-then-tag-eq-EQUAL
scan_pred-returns-then-tag-eq-EQUAL t c = rw c.if-positive.true (record { scan_told = c.scan_equality.ensures.scan_told; scan_marks = c.scan_equality.ensures.scan_marks })

pub scan_pred-returns-then-tag-eq-AND : goal.scan_pred-returns-then-tag-eq-AND
scan_pred-returns-then-tag-eq-AND t c = record { scan_told = c.scan_junction.ensures.scan_told; scan_marks = c.scan_junction.ensures.scan_marks }

pub scan_pred-returns-then-positive : goal.scan_pred-returns-then-positive
scan_pred-returns-then-positive t c = record { scan_told = other-told c.args.row.now c.args.depth c.args.at c.args.n c.args.pos c.args.positive c.args.out.now _ _ (no-entry _ _ c.if-positive.true c.if-tag-eq-NOT.false c.if-tag-eq-AND.false c.if-tag-eq-EQUAL.false) c.copy_pred.ensures.scan_told; scan_marks = other-marks c.args.row.now c.args.depth c.args.at c.args.n c.args.pos c.args.positive c.args.marks.now _ (no-entry _ _ c.if-positive.true c.if-tag-eq-NOT.false c.if-tag-eq-AND.false c.if-tag-eq-EQUAL.false) c.copy_pred.ensures.scan_marks }

pub scan_pred-returns-then-tag-eq-OR : goal.scan_pred-returns-then-tag-eq-OR
scan_pred-returns-then-tag-eq-OR t c = record { scan_told = c.scan_junction-then-tag-eq-OR.ensures.scan_told; scan_marks = c.scan_junction-then-tag-eq-OR.ensures.scan_marks }

pub scan_pred-returns-then-tag-eq-IMPLIES : goal.scan_pred-returns-then-tag-eq-IMPLIES
scan_pred-returns-then-tag-eq-IMPLIES t c = rw c.if-positive.false (record { scan_told = c.scan_implies.ensures.scan_told; scan_marks = c.scan_implies.ensures.scan_marks })

pub scan_pred-returns : goal.scan_pred-returns
scan_pred-returns t c = record { scan_told = other-told c.args.row.now c.args.depth c.args.at c.args.n c.args.pos c.args.positive c.args.out.now _ _ (no-entry-below _ _ c.if-positive.false c.if-tag-eq-NOT.false c.if-tag-eq-OR.false c.if-tag-eq-IMPLIES.false) c.copy_pred-2.ensures.scan_told; scan_marks = other-marks c.args.row.now c.args.depth c.args.at c.args.n c.args.pos c.args.positive c.args.marks.now _ (no-entry-below _ _ c.if-positive.false c.if-tag-eq-NOT.false c.if-tag-eq-OR.false c.if-tag-eq-IMPLIES.false) c.copy_pred-2.ensures.scan_marks }

pub scan_twice-returns-then-depth-lt2 : goal.scan_twice-returns-then-depth-lt2
scan_twice-returns-then-depth-lt2 t c = let k = tell_no (scan c.args.n c.args.positive) c.args.row.now c.args.depth c.args.at c.args.pos c.args.out.now _ (twice-shallow c.args.row.now c.args.depth c.args.at c.requires.2 c.requires.3 c.if-depth-lt2.true) in
    record { scan_told = k; scan_marks = quiet-marks _ c.args.row.now c.args.depth c.args.at c.args.pos c.args.out.now _ _ _ k }

pub scan_twice-returns-in_err-s : goal.scan_twice-returns-in_err-s
scan_twice-returns-in_err-s t c = let deep : 2 ≤ c.args.depth = omega arith in
    let k = twice-no c.args.row.now c.args.depth c.args.at c.requires.2 c.requires.3 c.requires.5 deep c.args.n c.args.pos c.args.positive c.args.out.now _ c.in_err-s.ensures.scan_told in
    rw c.from_residual.ensures (record { scan_told = k; scan_marks = quiet-marks _ c.args.row.now c.args.depth c.args.at c.args.pos c.args.out.now _ _ _ k })

pub scan_twice-returns-in_default : goal.scan_twice-returns-in_default
scan_twice-returns-in_default t c = let deep : 2 ≤ c.args.depth = omega arith in
    let a = told-ok (scan c.args.n c.args.positive) c.args.row.now (c.args.depth - 2) (c.args.at + 2) c.args.pos c.args.out.now _ _ c.in_ok-s.ensures.scan_told in
    record { scan_told = twice-gone c.args.row.now c.args.depth c.args.at c.requires.2 c.requires.3 c.requires.5 deep c.args.n c.args.pos c.args.positive c.args.out.now _ _ a c.in_default.is; scan_marks = twice-gone-marks c.args.row.now c.args.depth c.args.at c.requires.2 c.requires.3 c.requires.5 deep c.args.n c.args.pos c.args.positive c.args.out.now _ _ a c.args.marks.now _ c.in_ok-s.ensures.scan_marks c.in_default.is }

pub scan_twice-returns : goal.scan_twice-returns
scan_twice-returns t c = let deep : 2 ≤ c.args.depth = omega arith in
    let low : c.args.pos ≤ length c.args.out.now = omega arith in
    let a = told-ok (scan c.args.n c.args.positive) c.args.row.now (c.args.depth - 2) (c.args.at + 2) c.args.pos c.args.out.now _ _ c.in_ok-s.ensures.scan_told in
    record { scan_told = twice-became c.args.row.now c.args.depth c.args.at c.requires.2 c.requires.3 c.requires.5 deep c.args.n c.args.pos c.args.positive c.args.out.now _ _ a low _ c.in-Some.is _ _ c.finish_twice-end.ensures.wrote; scan_marks = twice-marks c.args.row.now c.args.depth c.args.at c.requires.2 c.requires.3 c.requires.5 deep c.args.n c.args.pos c.args.positive c.args.out.now _ _ a c.args.marks.now _ c.in_ok-s.ensures.scan_marks low _ c.in-Some.is c.requires.4.clear _ c.finish_twice-end.ensures.marks_after }

pub search_children-loop-done-init : goal.search_children-loop-done-init
search_children-loop-done-init t c = let z : c.args.count - 0 ≡ c.args.count = omega arith in
    rw z (record { none = refl; left = refl; same = refl; told = λ a r e m o t. t; ends = λ a. refl; few = omega arith; up = omega arith; inside = c.requires.2; room = omega arith; long = refl; marked = λ a. refl; clear = c.requires.3.clear; marks_long = refl })

pub search_children-loop-done-preserved : goal.search_children-loop-done-preserved
search_children-loop-done-preserved t c = let some : 0 < (c.args.count - c.loop-done.done) = omega arith in
    let a = told-ok (scan c.args.n c.args.positive) c.args.row.now c.args.depth c.loop-done.s.next c.loop-done.s.end c.loop-done.out _ _ c.in-Some.ensures.scan_told in
    let b = bounds a in
    let u = b.up in
    let v = b.inside in
    let w = b.low in
    let o = one_at_most c.loop-done.s.count c.in-Some.child.end in
    let same = child-same c.args.row.now c.args.depth c.loop-done.s.next (c.args.count - c.loop-done.done) some c.loop-done.s.end c.args.n c.loop-done.s.count c.args.positive _ _ _ a in
    let left : c.args.count - (c.loop-done.done + 1) ≡ c.args.count - c.loop-done.done - 1 = omega arith in
    let p = sym c.is_some.ensures ∙ c.if-is_some.false in
    rw (left, c.unwrap_or.ensures, c.one_more.ensures)
    (record {
      none = c.loop-done.invariant.none;
      left = c.loop-done.invariant.left;
      same = c.loop-done.invariant.same ∙ same;
      told = λ s r e m o t. c.loop-done.invariant.told (same ∙ s) r e m o (child-passed c.args.row.now c.args.depth c.loop-done.s.next (c.args.count - c.loop-done.done) some c.loop-done.s.end c.args.n c.loop-done.s.count c.args.positive _ _ _ a s p r e m o t);
      ends = λ s. child-ends c.args.row.now c.args.depth c.loop-done.s.next (c.args.count - c.loop-done.done) some c.loop-done.s.end c.args.n c.loop-done.s.count c.args.positive _ _ _ a s ∙ c.loop-done.invariant.ends (same ∙ s);
      few = omega arith;
      up = omega arith;
      inside = omega arith;
      room = omega arith;
      long = c.scan_pred.auto.out ∙ c.loop-done.invariant.long;
      marked = λ s. passed-marks c.args.row.now c.args.depth c.loop-done.s.next (c.args.count - c.loop-done.done) some c.loop-done.s.end c.args.n c.loop-done.s.count c.args.positive _ _ _ a s c.loop-done.marks _ (child-marks a c.loop-done.marks _ c.in-Some.ensures.scan_marks) p ∙ c.loop-done.invariant.marked (same ∙ s);
      clear = (clean_after a c.loop-done.marks _ c.in-Some.ensures.scan_marks (record { room = omega arith; clear = c.loop-done.invariant.clear })).clear;
      marks_long = c.scan_pred.auto.marks ∙ c.loop-done.invariant.marks_long;
    })

pub search_children-returns : goal.search_children-returns
search_children-returns t c = let zero : c.args.count - c.loop-done.done ≡ c.loop-done.s.left = omega arith in
    record {
      searched_kids = record {
        same = rw zero at c.loop-done.invariant.same;
        whole = λ a e m o t. (rw zero at c.loop-done.invariant.told) a _ e m o (search-over c.args.row.now c.args.n c.args.positive _ _ _ _ _ c.loop-done.invariant.none (kids-none c.args.row.now c.args.depth _ _ (omega arith)) e m o t);
        ends = rw zero at c.loop-done.invariant.ends;
        few = omega arith;
        inside = c.loop-done.invariant.inside;
        room = c.loop-done.invariant.room;
      };
      searched_marks = record { whole = λ a. over-marks c.args.n c.args.positive _ _ _ (kids-none c.args.row.now c.args.depth _ _ (omega arith)) ∙ (rw zero at c.loop-done.invariant.marked) a };
    }

pub search_children-returns-in_default : goal.search_children-returns-in_default
search_children-returns-in_default t c = let some : 0 < (c.args.count - c.loop-done.done) = omega arith in
    record {
      searched_kids = search-lost c.args.row.now c.args.depth c.args.n c.args.positive c.args.at c.args.count c.args.pos c.loop-done.s.next (c.args.count - c.loop-done.done) c.loop-done.s.end c.loop-done.s.count c.args.out.now _ some (told-no (scan c.args.n c.args.positive) c.args.row.now c.args.depth c.loop-done.s.next c.loop-done.s.end c.loop-done.out _ c.in_default.ensures.scan_told) c.loop-done.invariant.same (omega arith) c.loop-done.invariant.room _;
      searched_marks = lost-marks c.args.row.now c.args.depth c.args.n c.args.positive c.args.at c.args.count c.args.pos (c.args.count - c.loop-done.done) c.loop-done.s.end c.loop-done.s.count c.args.marks.now _ some _;
    }

pub search_children-returns-then-is_some : goal.search_children-returns-then-is_some
search_children-returns-then-is_some t c = let some : 0 < (c.args.count - c.loop-done.done) = omega arith in
    let a = told-ok (scan c.args.n c.args.positive) c.args.row.now c.args.depth c.loop-done.s.next c.loop-done.s.end c.loop-done.out _ _ c.in-Some.ensures.scan_told in
    let b = bounds a in
    let u = b.up in
    let v = b.inside in
    let w = b.low in
    let o = one_at_most c.loop-done.s.count c.in-Some.child.end in
    let same = child-same c.args.row.now c.args.depth c.loop-done.s.next (c.args.count - c.loop-done.done) some c.loop-done.s.end c.args.n c.loop-done.s.count c.args.positive _ _ _ a in
    let p = sym c.is_some.ensures ∙ c.if-is_some.true in
    rw (c.unwrap_or.ensures, c.one_more.ensures)
    (record {
      searched_kids = record {
        same = c.loop-done.invariant.same ∙ same;
        whole = λ s e m o t. c.loop-done.invariant.told (same ∙ s) _ e m o (child-taken c.args.row.now c.args.depth c.loop-done.s.next (c.args.count - c.loop-done.done) some c.loop-done.s.end c.args.n c.loop-done.s.count c.args.positive _ _ _ a s p e m o t);
        ends = λ s. child-ends c.args.row.now c.args.depth c.loop-done.s.next (c.args.count - c.loop-done.done) some c.loop-done.s.end c.args.n c.loop-done.s.count c.args.positive _ _ _ a s ∙ c.loop-done.invariant.ends (same ∙ s);
        few = omega arith;
        inside = b.inside;
        room = omega arith;
      };
      searched_marks = record { whole = λ s. taken-marks c.args.row.now c.args.depth c.loop-done.s.next (c.args.count - c.loop-done.done) some c.loop-done.s.end c.args.n c.loop-done.s.count c.args.positive _ _ _ a s c.loop-done.marks _ (child-marks a c.loop-done.marks _ c.in-Some.ensures.scan_marks) p ∙ c.loop-done.invariant.marked (same ∙ s) };
    })

pub scan_implies-scan_pred-requires : goal.scan_implies-scan_pred-requires
scan_implies-scan_pred-requires t c = let z : length (set c.args.out.now c.args.pos 251) ≡ length c.args.out.now = length-set c.args.out.now c.args.pos 251 in
    (omega arith, (record { room = omega arith; short = c.requires.0.short; deep = omega arith }, c.requires.1, clean-in c.args.row.now c.args.at c.args.pos (c.args.at + 1) (c.args.pos + 1) c.args.marks.now c.requires.4 (omega arith) (omega arith)))

pub scan_implies-scan_next-requires : goal.scan_implies-scan_next-requires
scan_implies-scan_next-requires t c = let z : length (set c.args.out.now c.args.pos 251) ≡ length c.args.out.now = length-set c.args.out.now c.args.pos 251 in
    let a = told-ok (scan c.args.n true) c.args.row.now (c.args.depth - 1) (c.args.at + 1) (c.args.pos + 1) (set c.args.out.now c.args.pos 251) _ _ c.in_ok-l.ensures.scan_told in
    let b = bounds a in
    let u = b.up in
    let v = b.inside in
    let w = b.low in
    let s = start-low c.in_ok-l.l.end c.unwrap_or-start.result c.args.pos (c.args.pos + 1) (c.args.pos + 1 + 2 * (c.in_ok-l.l.next - (c.args.at + 1))) c.unwrap_or-start.ensures (omega arith) w in
    (omega arith, (record { room = omega arith; short = c.requires.0.short; deep = omega arith }, c.requires.1, start-clean a c.args.marks.now _ c.in_ok-l.ensures.scan_marks c.requires.4 c.unwrap_or-start.result c.unwrap_or-start.ensures))

pub scan_implies-finish_not-end-requires : goal.scan_implies-finish_not-end-requires
scan_implies-finish_not-end-requires t c = let low : c.args.pos + 1 ≤ length c.args.out.now = omega arith in
    let a = told-ok (scan c.args.n true) c.args.row.now (c.args.depth - 1) (c.args.at + 1) (c.args.pos + 1) (set c.args.out.now c.args.pos 251) _ _ c.in_ok-l.ensures.scan_told in
    let h = start-end _ _ _ _ c.unwrap_or-start.ensures c.in-Some.is in
    let r = child-room c.args.pos (rw (length-set c.args.out.now c.args.pos 251) low) a.became _ c.in-Some.is in
    let k = (start-clean a c.args.marks.now _ c.in_ok-l.ensures.scan_marks c.requires.4 c.unwrap_or-start.result c.unwrap_or-start.ensures).room in
    (omega arith, omega arith, omega arith)

pub scan_junction-search_children-s-requires : goal.scan_junction-search_children-s-requires
scan_junction-search_children-s-requires t c = let two : c.args.at + 1 < length c.args.row.now = omega arith in
    (omega arith, (record { room = omega arith; short = c.requires.0.short; deep = omega arith }, c.requires.1, omega arith, clean-in c.args.row.now c.args.at c.args.pos (c.args.at + 2) (c.args.pos + 2) c.args.marks.now c.requires.4 (omega arith) (omega arith)))

pub scan_junction-copy_part-end-requires : goal.scan_junction-copy_part-end-requires
scan_junction-copy_part-end-requires t c = let two : c.args.at + 1 < length c.args.row.now = omega arith in
    let k = kids-read c.args.row.now (c.args.depth - 1) c.search_children-s.result.next c.search_children-s.result.left _ _ c.mark_preds.ensures.value c.in_ok-next.was in
    let e = k.1 in
    let w = kids-inside c.args.row.now (c.args.depth - 1) c.search_children-s.result.next c.search_children-s.result.left k.0 c.search_children-s.ensures.searched_kids.inside in
    omega arith

pub scan_junction-finish_junction-left-requires : goal.scan_junction-finish_junction-left-requires
scan_junction-finish_junction-left-requires t c = let k = kids-read c.args.row.now (c.args.depth - 1) c.search_children-s.result.next c.search_children-s.result.left _ _ c.mark_preds.ensures.value c.in_ok-next.was in
    kids-end _ _ _ _ _ _ c.args.out.now _ _ _ (omega arith) (c.search_children-s.ensures.searched_kids.whole k.0 _ _ _ (kids-copied c.args.row.now (c.args.depth - 1) _ _ k.0 _ _ _ _ _ _ k.1 c.copy_part-end.ensures.wrote))

pub scan_junction-finish_marks-requires : goal.scan_junction-finish_marks-requires
scan_junction-finish_marks-requires t c = let two : c.args.at + 1 < length c.args.row.now = omega arith in
    let k = kids-read c.args.row.now (c.args.depth - 1) c.search_children-s.result.next c.search_children-s.result.left _ _ c.mark_preds.ensures.value c.in_ok-next.was in
    let e = k.1 in
    let w = kids-inside c.args.row.now (c.args.depth - 1) c.search_children-s.result.next c.search_children-s.result.left k.0 c.search_children-s.ensures.searched_kids.inside in
    let ke = kids-end _ _ _ _ _ _ c.args.out.now _ _ _ (omega arith) (c.search_children-s.ensures.searched_kids.whole k.0 _ _ _ (kids-copied c.args.row.now (c.args.depth - 1) _ _ k.0 _ _ _ _ _ _ k.1 c.copy_part-end.ensures.wrote)) in
    (ke.0, omega arith)

pub scan_not-scan_pred-requires : goal.scan_not-scan_pred-requires
scan_not-scan_pred-requires t c = (omega arith, (record { room = omega arith; short = c.requires.0.short; deep = omega arith }, c.requires.1, clean-in c.args.row.now c.args.at c.args.pos (c.args.at + 1) (c.args.pos + 1) c.args.marks.now c.requires.4 (omega arith) (omega arith)))

pub scan_not-finish_not-end-requires : goal.scan_not-finish_not-end-requires
scan_not-finish_not-end-requires t c = let low : c.args.pos + 1 ≤ length c.args.out.now = omega arith in
    let a = told-ok (scan c.args.n (not c.args.positive)) c.args.row.now (c.args.depth - 1) (c.args.at + 1) (c.args.pos + 1) c.args.out.now _ _ c.in_ok-s.ensures.scan_told in
    let r = child-room c.args.pos low a.became _ c.in-Some.is in
    let k = rw c.in-Some.is at (clean_after a c.args.marks.now _ c.in_ok-s.ensures.scan_marks (clean-in c.args.row.now c.args.at c.args.pos (c.args.at + 1) (c.args.pos + 1) c.args.marks.now c.requires.4 (omega arith) (omega arith))).room in
    (r.0, r.1, omega arith)

pub scan_twice-finish_twice-end-requires : goal.scan_twice-finish_twice-end-requires
scan_twice-finish_twice-end-requires t c = let deep : 2 ≤ c.args.depth = omega arith in
    let low : c.args.pos ≤ length c.args.out.now = omega arith in
    let a = told-ok (scan c.args.n c.args.positive) c.args.row.now (c.args.depth - 2) (c.args.at + 2) c.args.pos c.args.out.now _ _ c.in_ok-s.ensures.scan_told in
    let i = second-in c.args.row.now c.args.depth c.args.at c.requires.2 c.requires.3 c.requires.5 deep in
    let r = twice-room c.args.row.now c.args.depth c.args.at c.requires.2 c.requires.3 c.requires.5 deep c.args.n c.args.pos c.args.positive c.args.out.now _ _ a low _ c.in-Some.is in
    let k = rw c.in-Some.is at (clean_after a c.args.marks.now _ c.in_ok-s.ensures.scan_marks (clean-in c.args.row.now c.args.at c.args.pos (c.args.at + 2) c.args.pos c.args.marks.now c.requires.4 (omega arith) (omega arith))).room in
    (r.0, r.1, omega arith, r.2)
