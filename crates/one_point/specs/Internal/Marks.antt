-- The marks of what the scan leaves of a body, made where its words are written.
use Rattle.std.specs.Prelude.{Option as Maybe, Some, None, ◌≡◌, Bool, true, List, ℕ, ◌+◌, ◌-◌, ◌*◌, ◌^◌, ◌≤◌, ◌<◌, eqb, length, get_or, drop, replicate}
use Rattle.std.proofs.Math.Option.{Option, none as absent, some}
use Rattle.tree.specs.Form.{Form, Forms, pick}
use Rattle.tree.specs.Tag.{pred}
use Rattle.form.specs.Decode.{Got, got, no-form, decode}
use Rattle.reader.specs.Internal.Reads.{mark, mark_all}
use Rattle.rules.specs.Split.{equal}
use Rattle.rules.specs.Replacement.{nothing}
use Rattle.rules.specs.Scan.{Scan, scanned, Scans, scans, present, scan, scan_all}
use Rattle.one_point.specs.Internal.Scans.{Sided, kids_at, are_kids}
use Rattle.one_point.specs.declared.children.Stopped.{Stopped}

abbrev pub left_of : Scan → Option Form
left_of (scanned x g) = g

abbrev pub lefts_of : Scans → Forms
lefts_of (scans x gs) = present gs

-- the marks of what is left of a node that is written at pos
abbrev pub mark_left : Option Form → ℕ → List ℕ → List ℕ
mark_left (some g) pos ms = mark g pos 0 ms
mark_left absent pos ms = ms

-- no word from pos on is marked
abbrev pub ClearFrom : ℕ → List ℕ → Type 0
ClearFrom pos ms = drop pos ms ≡ replicate (length ms - pos) 0

-- there is room for the marks of what the scan leaves of what stands at `at`, and none of them is made
pub record Clean (row : List ℕ) (at pos : ℕ) (ms : List ℕ) : Type 0 where
  pub room : pos + 2 * (length row - at) ≤ length ms
  pub clear : ClearFrom pos ms

-- the marks after a scan, by what was read
unfoldable pub MarksTold : (Form → Scan) → ℕ → Got → List ℕ → List ℕ → Type 0
MarksTold z pos (got f x) ms ms' = ms' ≡ mark_left (left_of (z f)) pos ms
MarksTold z pos no-form ms ms' = Unit {0}

abbrev pub ScanMarks : (Form → Scan) → List ℕ → ℕ → ℕ → ℕ → List ℕ → List ℕ → Type 0
ScanMarks z row d at pos ms ms' = MarksTold z pos (decode d pred (drop at row)) ms ms'

-- the marks after the scan of an equality, by its sides
abbrev pub SidesMarks : List ℕ → ℕ → ℕ → ℕ → ℕ → ℕ → List ℕ → List ℕ → Type 0
SidesMarks row at right next n pos ms ms' = (x : Sided row at right next) → ms' ≡ mark_left (left_of (scan n true (equal x.left x.other))) pos ms

-- the marks after a search among children: with those of the rest, they are those of all that is left
pub record SearchedMarks (row : List ℕ) (d n : ℕ) (b : Bool) (at c pos : ℕ) (ms : List ℕ) (r : Stopped) (ms' : List ℕ) : Type 0 where
  pub whole : are_kids row d r.next r.left ≡ true → mark_all (kids_at row d r.next r.left) r.end 0 ms' ≡ mark_all (lefts_of (scan_all n b b (kids_at row d at c))) pos 0 ms

-- the marks of n predicates that are read at `at`, made from pos on
abbrev pub KidsMarked : List ℕ → ℕ → ℕ → ℕ → ℕ → List ℕ → List ℕ → Type 0
KidsMarked row d at n pos ms ms' = are_kids row d at n ≡ true → ms' ≡ mark_all (kids_at row d at n) pos 0 ms

-- a mark under k more declarations
unfoldable pub raise_mark : ℕ → ℕ → ℕ
raise_mark k m = pick (eqb m 0) 0 (m + k)

-- marks that can be raised by k
abbrev pub CanRaise : ℕ → List ℕ → Type 0
CanRaise k ms = (i : ℕ) → get_or ms i 0 + k < 2 ^ 32

-- the marks of what was written at pos, if anything was
abbrev pub RestMarks : List ℕ → ℕ → Maybe ℕ → List ℕ → List ℕ → Type 0
RestMarks out pos None ms ms' = ms' ≡ ms
RestMarks out pos (Some e) ms ms' = MarksTold (λ f. scanned nothing (some f)) pos (decode 65 pred (drop pos out)) ms ms'
