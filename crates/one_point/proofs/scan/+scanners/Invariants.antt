use mathlib.Core.Path.{◌≡◌}
use mathlib.Core.Bool.{true}
use mathlib.Core.List.{List}
use Prim.Native.Nat.{ℕ, ◌+◌, ◌-◌, ◌*◌, ◌≤◌}
use lib.ListN.{length}
use Rattle.tree.specs.Form.{encode_all}
use Rattle.rules.specs.Scan.{scan_all}
use Rattle.one_point.specs.Internal.Scans.{kids_at, are_kids, KidsTold}
use Rattle.reader.specs.Internal.Reads.{mark_all}
use Rattle.one_point.specs.Internal.Marks.{lefts_of, ClearFrom}
use Rattle.places.specs.declared.sides.Replacement.{Replacement}
use Rattle.std.specs.Prelude.{Option, None}
use Rattle.one_point.proofs.scan.+scanners.Given as goal

abbrev pub decreases-scan_implies : goal.decreases-scan_implies
decreases-scan_implies l = 4 * (length l.row.now - l.at)

abbrev pub decreases-scan_junction : goal.decreases-scan_junction
decreases-scan_junction l = 4 * (length l.row.now - l.at)

abbrev pub decreases-scan_next : goal.decreases-scan_next
decreases-scan_next l = 4 * (length l.row.now - l.at) + 2

abbrev pub decreases-scan_not : goal.decreases-scan_not
decreases-scan_not l = 4 * (length l.row.now - l.at)

abbrev pub decreases-scan_pred : goal.decreases-scan_pred
decreases-scan_pred l = 4 * (length l.row.now - l.at) + 1

abbrev pub decreases-scan_twice : goal.decreases-scan_twice
decreases-scan_twice l = 4 * (length l.row.now - l.at)

abbrev pub decreases-search_children : goal.decreases-search_children
decreases-search_children l = 4 * (length l.row.now - l.at) + 3

-- what is told of the children from s.next on, of which all but `done` are left, is told of all
abbrev pub invariant-search_children-loop-done : goal.invariant-search_children-loop-done
invariant-search_children-loop-done l =
    let kids = kids_at l.row l.depth l.s.next (l.count - l.done) in
    let all = kids_at l.row l.depth l.at l.count in
    record {
      none : l.s.found ≡ None;
      left : l.s.left ≡ 0;
      same : are_kids l.row l.depth l.at l.count ≡ are_kids l.row l.depth l.s.next (l.count - l.done);
      told : are_kids l.row l.depth l.s.next (l.count - l.done) ≡ true → (r : Option Replacement) (e m : ℕ) (o : List ℕ)
          → KidsTold l.row kids l.s.end l.out l.s.count (scan_all l.n l.positive l.positive kids) r e m o → KidsTold l.row all l.pos l.initial.out 0 (scan_all l.n l.positive l.positive all) r e m o;
      ends : are_kids l.row l.depth l.s.next (l.count - l.done) ≡ true → l.s.next + length (encode_all kids) ≡ l.at + length (encode_all all);
      few : l.s.count ≤ l.done;
      up : l.at ≤ l.s.next;
      inside : l.s.next ≤ length l.row;
      room : l.s.end + 2 * (length l.row - l.s.next) ≤ l.pos + 2 * (length l.row - l.at);
      long : length l.out ≡ length l.initial.out;
      marked : are_kids l.row l.depth l.s.next (l.count - l.done) ≡ true → mark_all (lefts_of (scan_all l.n l.positive l.positive kids)) l.s.end 0 l.marks ≡ mark_all (lefts_of (scan_all l.n l.positive l.positive all)) l.pos 0 l.initial.marks;
      clear : ClearFrom l.s.end l.marks;
      marks_long : length l.marks ≡ length l.initial.marks;
    }
