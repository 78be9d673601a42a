-- What stands for each item of a form: the item itself, an index, or a part of the list row whose dangling indices are moved. A plan says
-- which. Nothing here is needed to read a public contract.
use Rattle.std.specs.Prelude.{◌≡◌, Bool, true, false, ◌&&◌, List, [], ◌∷◌, ◌++◌, ℕ, zero, suc, ◌+◌, ◌-◌, ◌/◌, ◌≤◌, ◌<◌, max, leb, ltb, eqb, length, get_or, take, drop, Result, Ok, Err}
use Rattle.tree.specs.Form.{pick, between}
use Rattle.tree.specs.Tag.{expr}
use Rattle.form.specs.Decode.{decode, whole, form_of}
use Rattle.form.specs.Answer.{Outcome, answer, needs, is_one}
pub use Rattle.reader.specs.Internal.Reads.{has_form, table_of}
use Rattle.form.specs.declared.answer.Kind.{Kind}
use Rattle.form.specs.declared.answer.Kind.TheVariants.{Predicate}
use Rattle.reader.specs.declared.lists.Table.{Table}
use Rattle.shift.specs.Internal.Items.{items, size_of, words_of, rewritten, all_below, moved_words}
use Rattle.shift.specs.declared.items.Item.{Item}
use Rattle.shift.specs.declared.items.Item.TheVariants.{Plain, Ident}
use Rattle.replace.specs.declared.pieces.Piece.{Piece}
use Rattle.replace.specs.declared.pieces.Piece.TheVariants.{Same, Index, Part}
use Rattle.replace.specs.declared.pieces.Plan.{Plan}
use Rattle.replace.specs.declared.pieces.Rule.{Rule}
use Rattle.replace.specs.declared.pieces.Target.{Target}
use Rattle.replace.specs.declared.pieces.Target.TheVariants.{Places, Names}
use Rattle.form.specs.declared.answer.Refusal.TheVariants.{OutOfLimits, OutputTooShort}
use Rattle.form.specs.declared.answer.Refusal.{Refusal}

-- the words from s up to e
unfoldable pub part : ℕ → ℕ → List ℕ → List ℕ
part s e l = take (e - s) (drop s l)

unfoldable pub piece_words : List ℕ → List ℕ → Piece → Item → List ℕ
piece_words list lm Same x = words_of x
piece_words list lm (Index v) x = 2 ∷ v ∷ []
piece_words list lm (Part s e u d) x = rewritten (moved_words u d) (items (part s e list) (part s e lm))

unfoldable pub piece_size : Piece → Item → ℕ
piece_size Same x = size_of x
piece_size (Index v) x = 2
piece_size (Part s e u d) x = e - s

-- where a name stands first; past the end where it does not
unfoldable pub spot : ℕ → List ℕ → ℕ
spot m [] = 0
spot m (n ∷ ns) = pick (eqb n m) 0 (suc (spot m ns))

-- how many words are not 0: the places that are filled
unfoldable pub filled_words : List ℕ → ℕ
filled_words [] = 0
filled_words (zero ∷ ws) = filled_words ws
filled_words (suc w ∷ ws) = suc (filled_words ws)

-- a name at depth k: the first entry that has it
unfoldable pub free_piece : Plan → ℕ → ℕ → Piece
free_piece p k m =
    let i = spot m (take p.table.n p.table.words) in
    pick (leb p.table.n i) Same (Part (get_or p.table.starts i 0) (get_or p.table.ends i 0) k p.down)

-- an index at place i: it falls by the filled places inside it, or becomes the expression of its place
unfoldable pub place_piece : Plan → ℕ → ℕ → ℕ → Piece
place_piece p k v i =
    pick (eqb (get_or p.table.words i 0) 0) (Index (v - filled_words (drop (i + 1) (take p.table.n p.table.words))))
    (Part (get_or p.table.starts i 0) (get_or p.table.ends i 0) (k - p.gone) p.down)

-- an index under k declarations, of which the outermost are those that the plan fills
unfoldable pub fill_piece : Plan → ℕ → ℕ → Piece
fill_piece p k v =
    let b = k - p.table.n in
    pick (ltb v b) Same (pick (leb p.table.n (v - b)) (Index (v - p.gone)) (place_piece p k v (p.table.n - 1 - (v - b))))

unfoldable pub piece_of : Plan → Item → Piece
piece_of p (Plain w) = Same
piece_of p (Ident k t v) = pick p.fills (pick (eqb t 2) (fill_piece p k v) Same) (pick (eqb t 1) (free_piece p k v) Same)

-- what a plan puts for an item, from the list row and its marks
abbrev pub planned : Plan → List ℕ → List ℕ → Item → List ℕ
planned p list lm x = piece_words list lm (piece_of p x) x

unfoldable pub sizes : Plan → List Item → ℕ
sizes p [] = 0
sizes p (x ∷ xs) = piece_size (piece_of p x) x + sizes p xs

-- a number that matters only up to 8,192
unfoldable pub capped : ℕ → ℕ
capped n = pick (leb n 8192) n 8193

-- the length of the longest of the first n parts; 2 where none is longer
unfoldable pub longest : List ℕ → List ℕ → ℕ → ℕ
longest starts ends zero = 2
longest starts ends (suc n) = max (longest starts ends n) (get_or ends n 0 - get_or starts n 0)

-- half of a number, rounded up
unfoldable pub half : ℕ → ℕ
half n = n - n / 2

-- the check of n words in a row of so many: a form never has more than 8,192
unfoldable pub checked_length : ℕ → ℕ → Result (Unit {0}) Refusal
checked_length n room = pick (leb n 8192) (pick (leb n room) (Ok (tt {0})) (Err OutputTooShort)) (Err OutOfLimits)

-- whether places are replaced; and the plan of a rule and its table
abbrev pub fills_places : Target → Bool
fills_places Places = true
fills_places Names = false

abbrev pub plan_for : Rule → Table → Plan
plan_for r t = record { table = t; fills = fills_places r.target; gone = r.gone; down = r.down }

-- the plan's table has 32 places, of which it uses n
pub record Tabled (p : Plan) : Type 0 where
  pub few : p.table.n ≤ 32
  pub words : length p.table.words ≡ 32
  pub starts : length p.table.starts ≡ 32
  pub ends : length p.table.ends ≡ 32

-- its parts lie in a row of so many words
unfoldable pub InRow : Plan → ℕ → Type 0
InRow p n = (i : ℕ) → i < p.table.n → (get_or p.table.starts i 0 ≤ get_or p.table.ends i 0) × (get_or p.table.ends i 0 ≤ n)

pub record Ready (p : Plan) (list lm : List ℕ) : Type 0 where
  pub tabled : Tabled p
  pub in_row : InRow p (length list)
  pub marked : length list ≤ length lm

unfoldable pub Fits : Piece → ℕ → Type 0
Fits Same n = Unit {0}
Fits (Index v) n = Unit {0}
Fits (Part s e u d) n = (s ≤ e) × (e ≤ n)

-- words that are answered where there is room for them
abbrev pub fitted : List ℕ → ℕ → Outcome
fitted ws room = needs OutputTooShort (leb (length ws) room) (answer ws)

-- and where they are not too many for a form
abbrev pub short_words : List ℕ → ℕ → Outcome
short_words ws room = needs OutOfLimits (leb (length ws) 8192) (fitted ws room)

-- first checked as a form; only their number is, where they are sure to be one
unfoldable pub emitted : Bool → Kind → List ℕ → ℕ → Outcome
emitted sure kind ws room = needs OutOfLimits (pick sure (leb (length ws) 8192) (has_form (form_of kind ws))) (fitted ws room)

-- exactly one expression at most d deep; the words from s up to e, where there are any
unfoldable pub deep_part : ℕ → List ℕ → Bool
deep_part d ws = is_one (whole (decode d expr ws))

unfoldable pub deep_at : ℕ → ℕ → ℕ → List ℕ → Bool
deep_at d s e l = pick (leb e s) true (leb e (length l) && deep_part d (part s e l))

-- the depths that are tried: 1, 2, 3, 5, 9, 17, 33
unfoldable pub next_depth : ℕ → ℕ
next_depth d = d + 1 + (d - 2)

-- the first of d, the depth after it and so on, none over 64, at which the test holds; 65 where there is none: at most k are tried, and of 65 all
unfoldable pub first_depth : ℕ → ℕ → (ℕ → Bool) → ℕ
first_depth zero d test = 65
first_depth (suc k) d test = pick (leb d 64) (pick (test d) d (first_depth k (next_depth d) test)) 65

abbrev pub depth_from : ℕ → (ℕ → Bool) → ℕ
depth_from d test = first_depth 65 d test

-- how deep a form may be that is sure to stay one when the row is put into it, or 0: what the first of 1, 2, 3, 5, 9, 17 and 33 within which
-- the row is exactly one expression leaves of 65, if 2,048 can be added to each word
unfoldable pub depth_left : List ℕ → ℕ
depth_left row = pick (all_below 63488 row) (65 - depth_from 1 (λ d. deep_part d row)) 0

-- whether each of the first n parts of a list is an expression at most d deep, where it has words; and the depth that they leave
unfoldable pub deep_parts : ℕ → List ℕ → List ℕ → ℕ → List ℕ → Bool
deep_parts d starts ends zero list = true
deep_parts d starts ends (suc n) list = deep_parts d starts ends n list && deep_at d (get_or starts n 0) (get_or ends n 0) list

unfoldable pub depth_left_by : Table → List ℕ → ℕ
depth_left_by t list = pick (leb t.n 32 && all_below 63488 list) (65 - depth_from 1 (λ d. deep_parts d t.starts t.ends t.n list)) 0

-- a form at most r deep stays one if the row is put into it
pub record Leaves (row : List ℕ) (r : ℕ) : Type 0 where
  pub most : r ≤ 64
  pub words : 0 < r → all_below 63488 row ≡ true
  pub deep : 0 < r → deep_part (65 - r) row ≡ true

-- a head, and what a plan puts for the items of a row
abbrev pub replaced_words : List ℕ → Plan → List ℕ → List ℕ → List ℕ → List ℕ → List ℕ
replaced_words head p list lm row marks = head ++ rewritten (planned p list lm) (items row marks)

unfoldable pub replaced : Bool → Kind → List ℕ → Plan → List ℕ → List ℕ → List ℕ → List ℕ → ℕ → Outcome
replaced sure kind head p list lm row marks room = emitted sure kind (replaced_words head p list lm row marks) room

-- names become the entries of a table
abbrev pub free_plan : Table → Plan
free_plan t = record { table = t; fills = false; gone = 0; down = 0 }

-- the plan that fills the declarations of a quantifier by the places of a table
abbrev pub fill_plan : Table → Plan
fill_plan t = record { table = t; fills = true; gone = filled_words (take t.n t.words); down = 0 }

-- the names whose word is 0, and the head of a quantifier that declares them
unfoldable pub kept_words : List ℕ → List ℕ → List ℕ
kept_words [] ns = []
kept_words (w ∷ ws) [] = []
kept_words (zero ∷ ws) (n ∷ ns) = n ∷ kept_words ws ns
kept_words (suc w ∷ ws) (n ∷ ns) = kept_words ws ns

unfoldable pub head_words : ℕ → List ℕ → List ℕ
head_words t [] = []
head_words t (k ∷ ks) = t ∷ suc (length ks) ∷ k ∷ ks

-- that of a row, with the names that are kept, where there are at most 32 words, a name for each and room for the head; none elsewhere
unfoldable pub kept_head : List ℕ → List ℕ → ℕ → List ℕ
kept_head ws row room = pick (leb (length ws) 32 && (leb (2 + length ws) (length row) && leb (2 + length ws) room)) (head_words (get_or row 0 0) (kept_words ws (drop 2 row))) []

-- names of declarations
abbrev pub are_names : List ℕ → Bool
are_names [] = true
are_names (n ∷ ns) = between 0 65535 n && are_names ns

-- how many declarations a row has that begins with a quantifier; 0 for any other
unfoldable pub declared_in : List ℕ → ℕ
declared_in row = pick (ltb (length row) 2) 0 (pick (eqb (get_or row 0 0) 851) (get_or row 1 0) (pick (eqb (get_or row 0 0) 852) (get_or row 1 0) 0))

-- whether the first n parts lie in a row of so many words; whether a table's parts stand in the list row, and all of it is marked
unfoldable pub parts_in : List ℕ → List ℕ → ℕ → ℕ → Bool
parts_in starts ends words zero = true
parts_in starts ends words (suc n) = leb (get_or starts n 0) (get_or ends n 0) && (leb (get_or ends n 0) words && parts_in starts ends words n)

unfoldable pub is_ready : Table → List ℕ → List ℕ → Bool
is_ready t list lm = leb t.n 32 && (leb (length list) (length lm) && parts_in t.starts t.ends (length list) t.n)

-- the rows of a table have 32 places
abbrev pub Rows : Table → Type 0
Rows t = (length t.words ≡ 32) × (length t.starts ≡ 32) × (length t.ends ≡ 32)

-- the plan that fills by the places of a table, whose expressions are moved down; what it puts under a head, where the table is ready
abbrev pub down_plan : Table → ℕ → Plan
down_plan t d = record { table = t; fills = true; gone = filled_words (take t.n t.words); down = d }

unfoldable pub placed_row : Bool → List ℕ → Table → ℕ → List ℕ → List ℕ → List ℕ → List ℕ → ℕ → Outcome
placed_row sure head t d list lm row marks room = needs OutOfLimits (is_ready t list lm) (replaced sure Predicate head (down_plan t d) list lm row marks room)

-- what the entries of a table put for the names of a row, where the table is ready
unfoldable pub freed_row : Bool → Kind → Table → List ℕ → List ℕ → List ℕ → List ℕ → ℕ → Outcome
freed_row sure kind t list lm row marks room = needs OutOfLimits (is_ready t list lm) (replaced sure kind [] (free_plan t) list lm row marks room)
