-- What the scan answers and writes, by what is read at its position.
use Rattle.std.specs.Prelude.{Option as Maybe, Some, None, is_none, ◌≡◌, Bool, true, false, List, ◌++◌, ℕ, ◌+◌, ◌-◌, ◌*◌, ◌≤◌, ◌<◌, length, drop, replicate}
use Rattle.std.specs.Option.{IsSomeAnd, unwrap_or}
use Rattle.std.proofs.Math.Option.{Option, none as absent, some}
use Rattle.tree.specs.Form.{Form, Forms, none, count, encode, encode_all}
use Rattle.tree.specs.Tag.{expr, pred}
use Rattle.form.specs.Decode.{Got, got, no-form, Gots, gots, no-forms, decode, decode_all}
use Rattle.rules.specs.Split.{equal}
use Rattle.rules.specs.Scan.{Scan, scanned, Scans, scans, present, scan, scan_all}
use Rattle.places.specs.Internal.Wrote.{Wrote}
use Rattle.one_point.specs.Internal.Writes.{left_words, is_gone, Neat, Neats}
use Rattle.rules.specs.Replacement.{Taken, taken, nothing}
use Rattle.one_point.specs.Internal.Parts.{TookIs}
use Rattle.places.specs.declared.sides.Replacement.{Replacement}
use Rattle.one_point.specs.declared.scanned.Scanned.{Scanned}
use Rattle.one_point.specs.declared.children.Stopped.{Stopped}

abbrev pub NeatLeft : Option Form → Type 0
NeatLeft (some f) = Neat f
NeatLeft absent = Unit {0}

-- what is left of a node, written at pos, and the equality taken
unfoldable pub Left : List ℕ → ℕ → List ℕ → Scan → Scanned → List ℕ → Type 0
Left row pos out (scanned x g) r out' = TookIs row x r.found × (is_none r.end ≡ is_gone g) × Wrote pos out (left_words g) (unwrap_or r.end pos) out' × NeatLeft g

-- a form at `at` became what a scan leaves of it, written at pos
pub record Became (row : List ℕ) (at : ℕ) (f : Form) (pos : ℕ) (out : List ℕ) (z : Scan) (r : Scanned) (out' : List ℕ) : Type 0 where
  pub next : r.next ≡ at + length (encode f)
  pub left : Left row pos out z r out'
  pub short : unwrap_or r.end pos ≤ pos + 2 * length (encode f)

-- what a scan tells of what is read at `at`: whether it is a predicate, and what became of it
unfoldable pub Told : (Form → Scan) → List ℕ → ℕ → ℕ → List ℕ → Got → Maybe Scanned → List ℕ → Type 0
Told z row at pos out (got f x) r out' = IsSomeAnd r (λ s. Became row at f pos out (z f) s out')
Told z row at pos out no-form r out' = r ≡ None

abbrev pub ScanTold : (Form → Scan) → List ℕ → ℕ → ℕ → ℕ → List ℕ → Maybe Scanned → List ℕ → Type 0
ScanTold z row d at pos out r out' = Told z row at pos out (decode d pred (drop at row)) r out'

-- there is room for what the scan leaves of what stands at `at`
pub record Room (row : List ℕ) (d at pos words : ℕ) : Type 0 where
  pub room : pos + 2 * (length row - at) ≤ words
  pub short : length row ≤ 8192
  pub deep : d ≤ 64

-- a word stands at `at`, and a node may
pub record Entered (row : List ℕ) (d at : ℕ) : Type 0 where
  pub inside : at < length row
  pub deeper : 0 < d

-- the sides of an equality at `at`, which end at `right` and `next`
pub record Sided (row : List ℕ) (at right next : ℕ) : Type 0 where
  pub left : Form
  pub other : Form
  pub words : drop at row ≡ encode (equal left other) ++ drop next row
  pub is-left : decode 64 expr (drop (at + 1) row) ≡ got left (drop right row)
  pub is-other : decode 64 expr (drop right row) ≡ got other (drop next row)
  pub left_end : right ≡ at + 1 + length (encode left)
  pub other-end : next ≡ right + length (encode other)

-- what the scan of an equality tells, by its sides
abbrev pub SidesTold : List ℕ → ℕ → ℕ → ℕ → ℕ → ℕ → List ℕ → Scanned → List ℕ → Type 0
SidesTold row at right next n pos out r out' = (x : Sided row at right next) → Became row at (equal x.left x.other) pos out (scan n true (equal x.left x.other)) r out'

-- what follows a child: copied where the child took an equality, else scanned
unfoldable pub next_scan : Taken → Scan → Form → Scan
next_scan (taken i e) z f = scanned (taken i e) (some f)
next_scan nothing z f = z

-- the n predicates that stand at `at`: whether they are read, and where they end
abbrev pub read_kids : List ℕ → ℕ → ℕ → ℕ → Gots
read_kids row d at n = decode_all (λ s l. decode d s l) (replicate n pred) (drop at row)

abbrev pub forms_of : Gots → Forms
forms_of (gots fs x) = fs
forms_of no-forms = none

unfoldable pub kids_at : List ℕ → ℕ → ℕ → ℕ → Forms
kids_at row d at n = forms_of (read_kids row d at n)

abbrev pub is_read : Gots → Bool
is_read (gots fs x) = true
is_read no-forms = false

unfoldable pub are_kids : List ℕ → ℕ → ℕ → ℕ → Bool
are_kids row d at n = is_read (read_kids row d at n)

unfoldable pub end_of_all : ℕ → Gots → Maybe ℕ
end_of_all at (gots fs x) = Some (at + length (encode_all fs))
end_of_all at no-forms = None

-- the count of children of which something is left, with one more child
abbrev pub one_more : ℕ → Maybe ℕ → ℕ
one_more k (Some e) = k + 1
one_more k None = k

-- what is left of children, written at w after k others; and children that are copied
unfoldable pub KidsTold : List ℕ → Forms → ℕ → List ℕ → ℕ → Scans → Maybe Replacement → ℕ → ℕ → List ℕ → Type 0
KidsTold row fs w out k (scans x gs) found e m out' =
    TookIs row x found × Wrote w out (encode_all (present gs)) e out' × (m ≡ k + count (present gs)) × Neats (present gs) × (e ≤ w + 2 * length (encode_all fs))

unfoldable pub KidsCopied : Forms → ℕ → List ℕ → ℕ → ℕ → ℕ → List ℕ → Type 0
KidsCopied fs w out k e m out' = Wrote w out (encode_all fs) e out' × (m ≡ k + count fs) × Neats fs

-- what a search among children found and wrote, and where it stopped: all are read if the rest is, and with the rest copied, all is told
pub record SearchedKids (row : List ℕ) (d n : ℕ) (b : Bool) (at c pos : ℕ) (out : List ℕ) (r : Stopped) (out' : List ℕ) : Type 0 where
  pub same : are_kids row d at c ≡ are_kids row d r.next r.left
  pub whole : are_kids row d r.next r.left ≡ true → (e m : ℕ) (o : List ℕ) → KidsCopied (kids_at row d r.next r.left) r.end out' r.count e m o
      → KidsTold row (kids_at row d at c) pos out 0 (scan_all n b b (kids_at row d at c)) r.found e m o
  pub ends : are_kids row d r.next r.left ≡ true → r.next + length (encode_all (kids_at row d r.next r.left)) ≡ at + length (encode_all (kids_at row d at c))
  pub few : r.count + r.left ≤ c
  pub inside : r.next ≤ length row
  pub room : r.end + 2 * (length row - r.next) ≤ pos + 2 * (length row - at)
