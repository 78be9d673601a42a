-- Membership by words. The element stands in the row as it is; a part of it is shifted where it is written. No index of the shifted element
-- is below the number of declarations, so that a part fills a place exactly if its side of the value is the index of a free one.
use Rattle.std.specs.Prelude.{◌≡◌, Bool, true, ◌||◌, Option as Maybe, Some, None, List, [], ◌∷◌, ◌++◌, map, ℕ, suc, ◌+◌, ◌-◌, ◌≤◌, ◌<◌, leb, ltb, eqb, length, get_or, take, drop, set, replicate}
use Rattle.std.proofs.Math.Option.{Option, none as absent, some}
use Rattle.tree.specs.Form.{Form, node, noted, Forms, none, more, pick, count, encode, encode_decls, encode_all}
use Rattle.tree.specs.Tag.{expr, pred}
use Rattle.form.specs.Decode.{got, decode}
use Rattle.form.specs.Lists.{Place, kept, filled}
use Rattle.reader.specs.Internal.Reads.{mark}
use Rattle.reader.specs.declared.lists.Table.{Table}
use Rattle.rules.specs.Walk.{lift, each}
use Rattle.shift.specs.Internal.Items.{items, rewritten, moved_words}
use Rattle.rules.specs.Fill.{Decl, name_of, unlisted, any_noted, quantify}
use Rattle.replace.specs.Internal.Pieces.{part}
use Rattle.decls.specs.Internal.Noted.{decls_end}
use Rattle.rules.specs.Replacement.{index_of}
use Rattle.rules.specs.Split.{equal, parts}
use Rattle.rules.specs.Partial.{no_places, instantiate_partial}
use Rattle.rules.specs.Scan.{join_all}
use Rattle.rules.specs.Member.{is_free, any_filled, member_of, membership}
use Rattle.places.specs.Internal.Positions.{Beside, form_marks, MarkedAt}
use Rattle.places.specs.Internal.Wrote.{Wrote}
use Rattle.places.specs.declared.sides.Sides.{Sides}
use Rattle.member.specs.declared.member.Comprehension.{Comprehension}
use Rattle.replace.specs.declared.pieces.Source.{Source}
use Rattle.member.specs.declared.member.Membership.{Membership}

-- the places that parts fill, each by its side of the element, and the parts that are left
pub data Shares : Type 0 where
  shares : List Place → List (Form × Form) → Shares

abbrev pub keep_part : Form × Form → Shares → Shares
keep_part p (shares ps qs) = shares ps (p ∷ qs)

-- the free place of n that an index names
abbrev pub spot_at : ℕ → List Place → Option ℕ → Maybe ℕ
spot_at n ps (some i) = pick (ltb i n) (pick (is_free (get_or ps (n - 1 - i) kept)) (Some (n - 1 - i)) None) None
spot_at n ps absent = None

abbrev pub share_next : Maybe ℕ → Form × Form → List Place → (List Place → Shares) → Shares
share_next (Some j) p ps later = later (set ps j (filled p.1))
share_next None p ps later = keep_part p (later ps)

unfoldable pub share : ℕ → List (Form × Form) → List Place → Shares
share n [] ps = shares ps []
share n (p ∷ rest) ps = share_next (spot_at n ps (index_of p.0)) p ps (λ qs. share n rest qs)

-- equalities whose right sides are shifted up by u
abbrev pub equalities : ℕ → List (Form × Form) → Forms
equalities u [] = none
equalities u (p ∷ qs) = more (equal p.0 (lift u p.1)) (equalities u qs)

-- the expression f stands from s to e, with its marks
pub record PlacedAt (row lm : List ℕ) (s e : ℕ) (f : Form) : Type 0 where
  pub is : decode 64 expr (part s e row) ≡ got f []
  pub marked : items (part s e row) (part s e lm) ≡ items (encode f) (form_marks f)

abbrev pub PlaceIs : List ℕ → List ℕ → ℕ → ℕ → ℕ → Place → Type 0
PlaceIs row lm w s e kept = w ≡ 0
PlaceIs row lm w s e (filled f) = (w ≡ 1) × PlacedAt row lm s e f

-- a table of the places ps, whose expressions stand in the row
pub record TableIs (row lm : List ℕ) (n : ℕ) (t : Table) (ps : List Place) : Type 0 where
  pub number : t.n ≡ n
  pub count : length ps ≡ n
  pub words : length t.words ≡ 32
  pub starts : length t.starts ≡ 32
  pub ends : length t.ends ≡ 32
  pub at : (i : ℕ) → i < n → PlaceIs row lm (get_or t.words i 0) (get_or t.starts i 0) (get_or t.ends i 0) (get_or ps i kept)
  pub inside : (i : ℕ) → i < n → (get_or t.starts i 0 ≤ get_or t.ends i 0) × (get_or t.ends i 0 ≤ length row)

abbrev pub no_table : ℕ → Table
no_table n = record { words = replicate 32 0; starts = replicate 32 0; ends = replicate 32 0; n = n }

abbrev pub with_place : Table → ℕ → ℕ → ℕ → Table
with_place t j s e = record { words = set t.words j 1; starts = set t.starts j s; ends = set t.ends j e; n = t.n }

-- the free place of the table that an index names
abbrev pub spot_in : Table → Maybe ℕ → Maybe ℕ
spot_in t (Some i) = pick (ltb i t.n) (pick (eqb (get_or t.words (t.n - 1 - i) 0) 0) (Some (t.n - 1 - i)) None) None
spot_in t None = None

-- a part as an equality, its right side shifted up by u
abbrev pub shifted_words : List ℕ → List ℕ → ℕ → Sides → List ℕ
shifted_words row lm u s = 101 ∷ (take (s.middle - s.left) (drop s.left row) ++ rewritten (moved_words u 0) (items (part s.right s.end row) (part s.right s.end lm)))

-- the table has the places that were filled; the equalities of the parts that are left are written at w after k others
unfoldable pub Shared : List ℕ → List ℕ → ℕ → ℕ → ℕ → List ℕ → ℕ → Shares → Table → ℕ → ℕ → List ℕ → Type 0
Shared row lm n u w out k (shares ps qs) t end m out' = TableIs row lm n t ps × Wrote w out (encode_all (equalities u qs)) end out' × (m ≡ k + count (equalities u qs))

-- parts that can be shared out
pub record Sharing (row lm : List ℕ) (p q n u w words : ℕ) : Type 0 where
  pub beside : Beside row p q 1 w 0 words
  pub marked : MarkedAt row lm q 1
  pub short : length row ≤ 8192
  pub long : length row ≤ length lm
  pub few : n ≤ 32
  pub low : u ≤ 32

-- a comprehension and the words before its guard, by whether there is an annotation
abbrev pub set_of : ℕ → List Decl → Form → Form → Form
set_of form ds g v =
    pick (any_noted ds) (noted 873 (form ∷ length ds ∷ []) (unlisted ds) (more g (more v none)))
    (node 803 (form ∷ length ds ∷ []) (map name_of ds) (more g (more v none)))

abbrev pub set_head : ℕ → List Decl → List ℕ
set_head form ds = pick (any_noted ds) (873 ∷ form ∷ length ds ∷ encode_decls (unlisted ds)) (803 ∷ form ∷ length ds ∷ map name_of ds)

-- the tags of these; where the guard of one at a position of a row starts, behind n declarations
abbrev pub set_tag : ℕ → Bool
set_tag t = eqb t 803 || eqb t 873

unfoldable pub guard_at : List ℕ → ℕ → ℕ → ℕ
guard_at row at n = pick (eqb (get_or row at 0) 803) (at + (3 + n)) (decls_end row (at + 3) n)

-- the row is an element in a comprehension
pub record SetIn (row : List ℕ) (c : Comprehension) : Type 0 where
  pub element : Form
  pub form : ℕ
  pub decls : List Decl
  pub guard : Form
  pub value : Form
  pub words : row ≡ 107 ∷ (encode element ++ (set_head form decls ++ (encode guard ++ encode value)))
  pub number : c.n ≡ length decls
  pub least : 1 ≤ length decls
  pub most : length decls ≤ 32
  pub at : c.at ≡ 1 + length (encode element)
  pub guard-at : c.guard ≡ c.at + length (set_head form decls)
  pub value-at : c.value ≡ c.guard + length (encode guard)
  pub is-element : decode 63 expr (encode element) ≡ got element []
  pub is_set : decode 63 expr (encode (set_of form decls guard value)) ≡ got (set_of form decls guard value) []
  pub is-guard : decode 62 pred (encode guard) ≡ got guard []
  pub is-value : decode 62 expr (encode value) ≡ got value []
  pub shape : (f : Form) → decode 64 pred row ≡ got f [] → (r : Form) × (f ≡ node 107 [] [] (more element (more r none)))
  pub is : (f : Form) → decode 64 pred row ≡ got f [] → membership f ≡ some (member_of element decls guard value)

unfoldable pub SetTold : List ℕ → Maybe Comprehension → Type 0
SetTold row (Some c) = SetIn row c
SetTold row None = (f : Form) → decode 64 pred row ≡ got f [] → membership f ≡ absent

-- guard and equalities as the body, with the places in the table
unfoldable pub BodyTold : List ℕ → List ℕ → ℕ → ℕ → Form → List ℕ → Shares → Table → ℕ → List ℕ → Type 0
BodyTold row lm n u g out (shares ps qs) t end out' = TableIs row lm n t ps × Wrote 0 out (encode (join_all 351 g (equalities u qs))) end out'

-- a row that is an element in a comprehension, with the marks of the element, and a work row
pub record Membering (row lm : List ℕ) (c : Comprehension) (work : ℕ) : Type 0 where
  pub set : SetIn row c
  pub marked : MarkedAt row lm 1 1
  pub short : length row ≤ 8192
  pub long : length row ≤ length lm
  pub enough : work ≡ 16384

-- the declarations ds round g, with the places ps filled by expressions from outside
abbrev pub lifted : ℕ → Place → Place
lifted n kept = kept
lifted n (filled e) = filled (lift n e)

abbrev pub filled_body : List Decl → List Place → Form → Form
filled_body ds ps g = pick (any_filled ps) (instantiate_partial 852 ds (map (lifted (length ds)) ps) g) (quantify 852 ds g)

-- at most so many declarations are open anywhere in a form
abbrev pub shallow : ℕ → Form → Bool
shallow n f = each (λ k x. leb k n) 0 f

-- a well-formed predicate, or a conjunction
pub data Shaped : Form → Type 0 where
  well-formed : {f : Form} → decode 62 pred (encode f) ≡ got f [] → Shaped f
  conjunction : {o : List ℕ} {ks : Forms} → Shaped (node 351 o [] ks)

-- the body as its row, marked under n declarations, with a table of places for them
pub record Filling (n : ℕ) (row lm : List ℕ) (t : Table) (row' marks : List ℕ) : Type 0 where
  pub places : List Place
  pub table : TableIs row lm n t places
  pub body : Form
  pub words : row' ≡ encode body
  pub marked : marks ≡ mark body 0 n (replicate (length marks) 0)
  pub enough : length row' ≤ length marks
  pub flat : shallow 4096 body ≡ true
  pub shape : Shaped body
  pub most : n ≤ 32
  pub long : length row ≤ length lm

-- where the body does not begin with an annotated existence
abbrev pub Unannotated : List ℕ → Type 0
Unannotated body = get_or body 0 0 ≡ 862 → ⊥

-- how many words stand before the first that is not 0, with those before; 0 where each is 0
unfoldable pub front_of : ℕ → List ℕ → ℕ
front_of i [] = 0
front_of i (w ∷ ws) = pick (eqb w 0) (front_of (suc i) ws) i

-- the body with the element not shifted stands at the start of the work row
abbrev pub left_parts : Shares → List (Form × Form)
left_parts (shares ps qs) = qs

abbrev pub unshifted : ℕ → Form → Form → Form → Form
unshifted n g v e = join_all 351 g (equalities 0 (left_parts (share n (parts v e) (no_places n))))

unfoldable pub Unshifted : List ℕ → Comprehension → ℕ → List ℕ → Type 0
Unshifted row c end work = (x : SetIn row c) → take end work ≡ encode (unshifted c.n x.guard x.value x.element)

-- the same of the code's structs: of a membership that was found, of its work row, and of a body with n declarations round it
abbrev pub SetOf : Membership → Type 0
SetOf m = SetIn m.row.now m.set

abbrev pub MemberingOf : Membership → ℕ → Type 0
MemberingOf m work = Membering m.row.now m.marks.now m.set work

abbrev pub FillingOf : ℕ → Source → Type 0
FillingOf n b = Filling n b.list.now b.list_marks.now b.table.now b.row.now b.marks.now
