-- Declarations with flags in a row: where each ends, and the words of those that are kept, are those of the tree. Assumes nothing.
use mathlib.Core.Path.{◌≡◌, refl, ap, sym, ◌∙◌}
use mathlib.Core.Bool.{Bool, true, false, not, ◌&&◌}
use mathlib.Core.List.{List, [], ◌∷◌, ◌++◌, append_assoc, map}
use mathlib.Core.Option.{Option, none as absent, some}
use Prim.Native.Nat.{ℕ, zero, suc, ◌+◌, ◌-◌, ◌≤◌, ◌<◌}
use native.Mathlib.Nat.{le_refl}
use native.Mathlib.Omega.{arith}
use borrow.Author.Tests.{le-leb, leb-true, eq-eqb, ne_eqb}
use lib.Dec.{leb, eqb}
use lib.ListN.{length, get_or, take, drop, length-append, length-drop}
use lib.Seq.{drop-drop, drop-append_seam, get_or-drop, take_at, length-take-le}
use Rattle.tree.specs.Form.{Form, pick, encode, encode_decls}
use Rattle.tree.specs.Tag.{expr}
use Rattle.form.specs.Decode.{Got, got, no-form, decode}
use Rattle.form.specs.Lists.{Place, kept, filled}
use Rattle.form.proofs.DecodeLaws.{Ok, decode-encode, decode-sound}
use Rattle.form.proofs.HeadLaws.{here, gone}
use Rattle.rules.specs.Fill.{Decl, name_of, unlisted, any_noted, kept_decls}
use Rattle.rules.proofs.OkLaws.{ok-deep}
use Rattle.places.specs.Internal.Positions.{end_at, end_or, part_words}
use Rattle.replace.specs.Internal.Pieces.{part}
use Rattle.shift.specs.Internal.Items.{store}
use Rattle.shift.proofs.ItemLaws.{store-append}
use Rattle.replace.proofs.FillTree.{word_for}
use Rattle.replace.proofs.NameLaws.{store-empty}
use Rattle.decls.specs.Internal.Noted.{decl_end, decls_end, keeps_note, part_if, kept_part, kept_parts}
use Rattle.decls.proofs.DeclLaws.{GoodDecls}

-- words that stand at a position
module _ (row : List ℕ) (p : ℕ) where
  long : (a b : ℕ) (r : List ℕ) → drop p row ≡ a ∷ b ∷ r → p + 2 ≤ length row
  long a b r e = let l = length-drop p row in let k = ap length e in omega arith

  second : (a b : ℕ) (r : List ℕ) → drop p row ≡ a ∷ b ∷ r → get_or row (p + 1) 0 ≡ b
  second a b r e = sym (get_or-drop p row 1 0) ∙ ap (λ z. get_or z 1 0) e

  behind : (a b : ℕ) (r : List ℕ) → drop p row ≡ a ∷ b ∷ r → drop (p + 2) row ≡ r
  behind a b r e = sym (drop-drop 2 p row) ∙ ap (drop 2) e

  bare-end : (a : ℕ) (r : List ℕ) → drop p row ≡ a ∷ 0 ∷ r → decl_end row p ≡ p + 2
  unfolding decl_end
  bare-end a r e = rw (le-leb (p + 2) (length row) (long a 0 r e), second a 0 r e)

  typed-end : (a : ℕ) (f : Form) (r : List ℕ) → Ok 63 expr f → drop p row ≡ a ∷ 1 ∷ (encode f ++ r) → decl_end row p ≡ p + 2 + length (encode f)
  unfolding decl_end part_words end_at
  typed-end a f r ok e =
      rw (le-leb (p + 2) (length row) (long a 1 (encode f ++ r) e), second a 1 (encode f ++ r) e, behind a 1 (encode f ++ r) e, decode-encode (ok-deep ok 64 (omega arith)) r)

-- after a declaration
abbrev decl_words : Decl → List ℕ
decl_words d = elim d.1 [ absent ↦ d.0 ∷ 0 ∷ [] | some f ↦ d.0 ∷ 1 ∷ encode f ]

decls-first : (d : Decl) (ds : List Decl) → encode_decls (unlisted (d ∷ ds)) ≡ decl_words d ++ encode_decls (unlisted ds)
unfolding encode
decls-first (n, absent) ds = refl
decls-first (n, some f) ds = refl

module _ (row : List ℕ) (p : ℕ) (d : Decl) (ds : List Decl) (r : List ℕ) (g : GoodDecls (d ∷ ds)) (e : drop p row ≡ encode_decls (unlisted (d ∷ ds)) ++ r) where
  here-is : drop p row ≡ decl_words d ++ (encode_decls (unlisted ds) ++ r)
  here-is = rw (e, decls-first d ds, append_assoc (decl_words d))

  pub first-end : decl_end row p ≡ p + length (decl_words d)
  first-end = go d.1 refl
    where
      go : (x : Option Form) → d.1 ≡ x → decl_end row p ≡ p + length (decl_words d)
      go absent q = rw q (bare-end row p d.0 (encode_decls (unlisted ds) ++ r) (rw q at here-is))
      go (some f) q = rw q (typed-end row p d.0 f (encode_decls (unlisted ds) ++ r) (rw q at g.1) (rw q at here-is) ∙ omega arith)

  pub next-is : drop (decl_end row p) row ≡ encode_decls (unlisted ds) ++ r
  next-is = rw (first-end, ← drop-drop (length (decl_words d)) p row, here-is, drop-append_seam)

pub decls-end : (row : List ℕ) (ds : List Decl) (p : ℕ) (r : List ℕ) → GoodDecls ds → drop p row ≡ encode_decls (unlisted ds) ++ r → decls_end row p (length ds) ≡ p + length (encode_decls (unlisted ds))
unfolding decls_end encode
decls-end row [] p r g e = omega arith
decls-end row (d ∷ ds) p r g e =
    let k = ap length (decls-first d ds) ∙ length-append (decl_words d) (encode_decls (unlisted ds)) in
    let f = first-end row p d ds r g e in
    decls-end row ds (decl_end row p) r g.2 (next-is row p d ds r g e) ∙ omega arith

-- those that are kept, by their words
module _ (row : List ℕ) where
  pub note-kept : (ps : List Place) (ds : List Decl) (p : ℕ) (r : List ℕ) → length ps ≡ length ds → GoodDecls ds → drop p row ≡ encode_decls (unlisted ds) ++ r
      → keeps_note row (map word_for ps) p ≡ any_noted (kept_decls ps ds)
  unfolding keeps_note encode
  note-kept [] ds p r l g e = refl
  note-kept (x ∷ ps) [] p r l g e = absurd (omega arith)
  note-kept (filled x ∷ ps) (d ∷ ds) p r l g e = note-kept ps ds (decl_end row p) r (omega arith) g.2 (next-is row p d ds r g e)
  note-kept (kept ∷ ps) ((n, absent) ∷ ds) p r l g e =
      rw (second row p n 0 (encode_decls (unlisted ds) ++ r) e) (note-kept ps ds (decl_end row p) r (omega arith) g.2 (next-is row p (n, absent) ds r g e))
  note-kept (kept ∷ ps) ((n, some f) ∷ ds) p r l g e = rw (second row p n 1 ((encode f ++ encode_decls (unlisted ds)) ++ r) e)

  module _ (p : ℕ) (d : Decl) (ds : List Decl) (r : List ℕ) (g : GoodDecls (d ∷ ds)) (e : drop p row ≡ encode_decls (unlisted (d ∷ ds)) ++ r) where
    full-part : part p (decl_end row p) row ≡ decl_words d
    unfolding part
    full-part =
        let k : p + length (decl_words d) - p ≡ length (decl_words d) = omega arith in
        rw (first-end row p d ds r g e, k, here-is row p d ds r g e) (take_at (decl_words d) (encode_decls (unlisted ds) ++ r) (length (decl_words d)) refl)

    name-part : part p (p + 1) row ≡ d.0 ∷ []
    unfolding part
    name-part =
        let k : p + 1 - p ≡ 1 = omega arith in
        rw (k, here-is row p d ds r g e) (go d.1)
      where
        go : (x : Option Form) → take 1 (elim x [ absent ↦ d.0 ∷ 0 ∷ [] | some f ↦ d.0 ∷ 1 ∷ encode f ] ++ (encode_decls (unlisted ds) ++ r)) ≡ d.0 ∷ []
        go absent = refl
        go (some f) = refl

  pub parts-full : (ps : List Place) (ds : List Decl) (p : ℕ) (r : List ℕ) → length ps ≡ length ds → GoodDecls ds → drop p row ≡ encode_decls (unlisted ds) ++ r
      → kept_parts true row (map word_for ps) p ≡ encode_decls (unlisted (kept_decls ps ds))
  unfolding kept_parts part_if encode
  parts-full [] ds p r l g e = refl
  parts-full (x ∷ ps) [] p r l g e = absurd (omega arith)
  parts-full (filled x ∷ ps) (d ∷ ds) p r l g e = parts-full ps ds (decl_end row p) r (omega arith) g.2 (next-is row p d ds r g e)
  parts-full (kept ∷ ps) (d ∷ ds) p r l g e =
      rw (full-part p d ds r g e, parts-full ps ds (decl_end row p) r (omega arith) g.2 (next-is row p d ds r g e)) (sym (decls-first d (kept_decls ps ds)))

  pub parts-names : (ps : List Place) (ds : List Decl) (p : ℕ) (r : List ℕ) → length ps ≡ length ds → GoodDecls ds → drop p row ≡ encode_decls (unlisted ds) ++ r
      → kept_parts false row (map word_for ps) p ≡ map name_of (kept_decls ps ds)
  unfolding kept_parts part_if encode
  parts-names [] ds p r l g e = refl
  parts-names (x ∷ ps) [] p r l g e = absurd (omega arith)
  parts-names (filled x ∷ ps) (d ∷ ds) p r l g e = parts-names ps ds (decl_end row p) r (omega arith) g.2 (next-is row p d ds r g e)
  parts-names (kept ∷ ps) (d ∷ ds) p r l g e = rw (name-part p d ds r g e, parts-names ps ds (decl_end row p) r (omega arith) g.2 (next-is row p d ds r g e))

-- one step of each loop, and what is left behind the last
pub note-next : (row ws : List ℕ) (i p : ℕ) → i < length ws → keeps_note row (drop i ws) p ≡ pick (eqb (get_or ws i 0) 0 && not (eqb (get_or row (p + 1) 0) 0)) true (keeps_note row (drop (i + 1) ws) (decl_end row p))
unfolding keeps_note
note-next row ws i p h = rw (here ws i h)

pub note-end : (row ws : List ℕ) (i p : ℕ) → length ws ≤ i → keeps_note row (drop i ws) p ≡ false
unfolding keeps_note
note-end row ws i p h = rw (gone ws i h)

pub decls-next : (row : List ℕ) (p n : ℕ) → 0 < n → decls_end row p n ≡ decls_end row (decl_end row p) (n - 1)
unfolding decls_end
decls-next row p zero h = absurd (omega arith)
decls-next row p (suc n) h = let q : suc n - 1 ≡ n = omega arith in rw q

pub decls-none : (row : List ℕ) (p n : ℕ) → n ≤ 0 → decls_end row p n ≡ p
unfolding decls_end
decls-none row p zero h = refl
decls-none row p (suc n) h = absurd (omega arith)

-- a declaration ends in the row
module _ (row : List ℕ) where
  part_in : (q : ℕ) → q ≤ length row → (q ≤ (part_words row q q).middle) × ((part_words row q q).middle ≤ length row)
  unfolding part_words end_at
  part_in q h = go (decode 64 expr (drop q row)) refl
    where
      go : (g : Got) → decode 64 expr (drop q row) ≡ g → (q ≤ end_or q (end_at q g)) × (end_or q (end_at q g) ≤ length row)
      go (got f r) e =
          let k = ap length (decode-sound 64 expr (drop q row) f r e).0 ∙ length-append (encode f) r in
          let l = length-drop q row in
          (omega arith, omega arith)
      go no-form e = (le_refl q, h)

  pub decl-in : (p : ℕ) → p ≤ length row → (p ≤ decl_end row p) × (decl_end row p ≤ length row)
  unfolding decl_end
  decl-in p h = go (leb (p + 2) (length row)) refl (eqb (get_or row (p + 1) 0) 0)
    where
      go : (b : Bool) → leb (p + 2) (length row) ≡ b → (c : Bool)
          → (p ≤ pick b (pick c (p + 2) (part_words row (p + 2) (p + 2)).middle) p) × (pick b (pick c (p + 2) (part_words row (p + 2) (p + 2)).middle) p ≤ length row)
      go true e true = let k = leb-true (p + 2) (length row) e in (omega arith, k)
      go true e false = let k = leb-true (p + 2) (length row) e in let (a, b) = part_in (p + 2) k in (omega arith, b)
      go false e c = (le_refl p, h)

-- the words of a part
take_none : (n : ℕ) → ◌≡◌ {A = List ℕ} (take n []) []
take_none zero = refl
take_none (suc n) = refl

module _ (row : List ℕ) (p e w : ℕ) where
  pub part-skipped : (w ≡ 0 → ⊥) → part_if w p e row ≡ []
  unfolding part_if
  part-skipped h = rw (ne_eqb w 0 h)

  pub part-gone : length row ≤ p → part_if w p e row ≡ []
  unfolding part_if part
  part-gone h = go (eqb w 0) (take (e - p) (drop p row)) (ap (take (e - p)) (gone row p h) ∙ take_none (e - p))
    where
      go : (b : Bool) (l : List ℕ) → l ≡ [] → pick b l [] ≡ []
      go true l q = q
      go false l q = refl

  pub part-words : w ≡ 0 → part_if w p e row ≡ take (e - p) (drop p row)
  unfolding part_if part
  part-words h = rw (eq-eqb w 0 h)

  pub part-long : p ≤ e → e ≤ length row → length (take (e - p) (drop p row)) ≡ e - p
  part-long h k = let l = length-drop p row in length-take-le (e - p) (drop p row) (omega arith)

pub part_none : (l : List ℕ) (q : ℕ) (ws : List ℕ) → ws ≡ [] → (q ≡ q + length ws) × (l ≡ store l q ws)
unfolding store
part_none l q ws e = rw e (omega arith, refl)

pub part-put : (l l' : List ℕ) (q n : ℕ) (ws vs : List ℕ) → ws ≡ vs → length vs ≡ n → q + length ws ≤ length l → l' ≡ pick (leb (q + length vs) (length l)) (store l q vs) l
    → (q + n ≡ q + length ws) × (l' ≡ store l q ws)
part-put l l' q n ws vs e k h s =
    let m : length ws ≡ length vs = ap length e in
    (omega arith, s ∙ rw (le-leb (q + length vs) (length l) (omega arith), ← e))

-- one more part, and no more
module _ (full : Bool) (row ws : List ℕ) (i p : ℕ) where
  parts_next : i < length ws → kept_parts full row (drop i ws) p ≡ kept_part full row (get_or ws i 0) p ++ kept_parts full row (drop (i + 1) ws) (decl_end row p)
  unfolding kept_parts
  parts_next h = rw (here ws i h)

  pub parts_more : i < length ws → (l l' : List ℕ) (q q' : ℕ) → l' ≡ store l q (kept_part full row (get_or ws i 0) p) → q' ≡ q + length (kept_part full row (get_or ws i 0) p)
      → (store l q (kept_parts full row (drop i ws) p) ≡ store l' q' (kept_parts full row (drop (i + 1) ws) (decl_end row p)))
      × (q + length (kept_parts full row (drop i ws) p) ≡ q' + length (kept_parts full row (drop (i + 1) ws) (decl_end row p)))
  parts_more h l l' q q' e n = (
    rw (parts_next h, store-append l q (kept_part full row (get_or ws i 0) p), ← e, ← n),
    ap (λ z. q + length z) (parts_next h) ∙ (ap (λ z. q + z) (length-append (kept_part full row (get_or ws i 0) p) (kept_parts full row (drop (i + 1) ws) (decl_end row p))) ∙ omega arith),
  )

  pub parts-room : i < length ws → (q n : ℕ) → q + length (kept_parts full row (drop i ws) p) ≤ n → q + length (kept_part full row (get_or ws i 0) p) ≤ n
  parts-room h q n k =
      let a = ap length (parts_next h) ∙ length-append (kept_part full row (get_or ws i 0) p) (kept_parts full row (drop (i + 1) ws) (decl_end row p)) in
      omega arith

  pub parts-end : length ws ≤ i → kept_parts full row (drop i ws) p ≡ []
  unfolding kept_parts
  parts-end h = rw (gone ws i h)

-- where a part ends
pub part-ends : (full : Bool) (row : List ℕ) (p : ℕ) → p ≤ length row → (p ≤ pick full (decl_end row p) (p + 1)) × (p < length row → pick full (decl_end row p) (p + 1) ≤ length row)
part-ends true row p h = let (a, b) = decl-in row p h in (a, λ k. b)
part-ends false row p h = (omega arith, λ k. omega arith)

pub part-at : (full : Bool) {b e d : ℕ} (p : ℕ) → b ≡ pick full e (p + 1) → e ≡ d → b ≡ pick full d (p + 1)
part-at full p x y = rw (← y) x

-- what the code's loops and cases rest on
pub ruleset decl_steps = (decls-next, decls-none)

pub ruleset note_steps = (note-next, note-end)

pub ruleset part_cases = (part-skipped, part-gone, part-words, part-long, part_none, part-put)

pub ruleset part_steps = (store-empty, part-ends, parts-room, parts_more, parts-end, decl-in, part-at)
