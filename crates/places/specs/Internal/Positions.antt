-- Forms by their positions in a row: where they end, how many stand one after another, and their marks.
use Rattle.std.specs.Prelude.{ℕ, ◌+◌, ◌*◌, ◌≤◌, length, get_or, drop, replicate, ◌≡◌, Bool, ◌&&◌, List, [], ◌++◌, eqb, Some, None, Option}
use Rattle.std.specs.Option.{unwrap_or}
use Rattle.tree.specs.Form.{encode, Form, Forms, encode_all, none, more}
use Rattle.form.specs.Decode.{Got, got, no-form, Gots, gots, no-forms, decode, decode_all}
use Rattle.tree.specs.Tag.{expr}
use Rattle.rules.specs.Split.{parts_all}
use Rattle.places.specs.declared.sides.Sides.{Sides}
use Rattle.reader.specs.Internal.Reads.{mark}

-- where the form that was read at a position ends
unfoldable pub end_at : ℕ → Got → Option ℕ
end_at at (got f x) = Some (at + length (encode f))
end_at at no-form = None

abbrev pub read_all : ℕ → List ℕ → Gots
read_all n ws = decode_all (λ s l. decode 64 s l) (replicate n expr) ws

-- n expressions stand at p, and n at q; there is room for their parts behind w, in an output row of so many words, and for counting them after k
-- others
pub record Beside (row : List ℕ) (p q n w k words : ℕ) : Type 0 where
  pub lefts : Forms
  pub rights : Forms
  pub left-rest : List ℕ
  pub right-rest : List ℕ
  pub is-left : read_all n (drop p row) ≡ gots lefts left-rest
  pub is_right : read_all n (drop q row) ≡ gots rights right-rest
  pub room : w + 2 * (length (encode_all lefts) + length (encode_all rights)) ≤ words
  pub few : k + length (encode_all lefts) ≤ 16384

abbrev pub parts_of : Gots → Gots → List (Form × Form)
parts_of (gots fs x) (gots gs y) = parts_all fs gs
parts_of (gots fs x) no-forms = []
parts_of no-forms b = []

unfoldable pub parts_at : List ℕ → ℕ → ℕ → ℕ → List (Form × Form)
parts_at row p q n = parts_of (read_all n (drop p row)) (read_all n (drop q row))

unfoldable pub both_pairs : List ℕ → ℕ → ℕ → Bool
both_pairs row p q = eqb (get_or row p 0) 201 && eqb (get_or row q 0) 201

-- where the expressions at p and q end; where none stands, p and q themselves
abbrev pub end_or : ℕ → Option ℕ → ℕ
end_or p e = unwrap_or e p

unfoldable pub part_words : List ℕ → ℕ → ℕ → Sides
part_words row p q =
    record {
      left = p;
      middle = end_or p (end_at p (decode 64 expr (drop p row)));
      right = q;
      end = end_or q (end_at q (decode 64 expr (drop q row)));
    }

-- the sides of a part stand in the row
pub record Within (row : List ℕ) (s : Sides) : Type 0 where
  pub left_up : s.left ≤ s.middle
  pub left_in : s.middle ≤ length row
  pub right-up : s.right ≤ s.end
  pub right-in : s.end ≤ length row

-- the marks at q are those of forms that stand there one after another
abbrev pub form_marks : Form → List ℕ
form_marks f = mark f 0 0 (replicate (length (encode f)) 0)

unfoldable pub MarksAre : List ℕ → ℕ → Forms → Type 0
MarksAre lm q none = Unit {0}
MarksAre lm q (more f fs) = (drop q lm ≡ form_marks f ++ drop (q + length (encode f)) lm) × MarksAre lm (q + length (encode f)) fs

-- the n expressions that stand at q are marked there
unfoldable pub MarkedAt : List ℕ → List ℕ → ℕ → ℕ → Type 0
MarkedAt row lm q n = (fs : Forms) (x : List ℕ) → read_all n (drop q row) ≡ gots fs x → MarksAre lm q fs

-- marks that hold 0, enough for a row
pub record Cleared (row marks : List ℕ) : Type 0 where
  pub zeros : marks ≡ replicate (length marks) 0
  pub enough : length row ≤ length marks
