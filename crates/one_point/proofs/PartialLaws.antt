-- A rest of declarations filled and its front put round it: the words are the definition's. Assumes nothing.
use mathlib.Core.Path.{◌≡◌, refl, ap, sym, ◌∙◌}
use mathlib.Core.Bool.{true, false, ◌||◌}
use mathlib.Core.List.{List, [], ◌∷◌, ◌++◌, append-nil, map}
use Prim.Native.Nat.{ℕ, zero, suc, ◌+◌, ◌-◌, ◌*◌, ◌≤◌, ◌<◌}
use native.Mathlib.Nat.{zero-add}
use native.Mathlib.Omega.{arith}
use lib.Dec.{eqb}
use lib.ListN.{length, get_or, take, drop, set, replicate, length-drop, length-map, length-replicate, replicate-append-replicate}
use lib.Seq.{drop_at}
use Rattle.tree.specs.Form.{Form, encode}
use Rattle.tree.specs.Tag.{expr, pred}
use Rattle.form.specs.Lists.{Place, kept, filled}
use Rattle.reader.specs.Internal.Reads.{mark}
use Rattle.reader.specs.declared.lists.Table.{Table}
use Rattle.form.proofs.DecodeLaws.{Ok}
use Rattle.rules.specs.Walk.{walk, lift, put, subst}
use Rattle.rules.specs.Shift.{lower}
use Rattle.shift.specs.Internal.Items.{items, rewritten}
use Rattle.rules.proofs.LimitLaws.{ok-small}
use Rattle.shift.proofs.RowLaws.{items_of, zeros, marks_of, items-encode, marks-length, mark-zeros, zeros-replicate}
use Rattle.rules.specs.Fill.{unnoted, fill_for, fill}
use Rattle.replace.proofs.PlainLaws.{kept_names, plain-fill, plain-notes}
use Rattle.replace.specs.Internal.Pieces.{part, planned, down_plan}
use Rattle.replace.proofs.EntryLaws.{PlaceAt}
use Rattle.replace.proofs.FillTree.{word_for, low_place, Above, fill-tree-lower}
use Rattle.replace.proofs.QuantLaws.{Quant, quant-items-in}
use Rattle.rules.specs.Replacement.{above}
use Rattle.rules.specs.Partial.{no_places, set_place, lower_place, put_round, instantiate_partial}
use Rattle.replace.specs.Internal.Partial.{partial_words}
use Rattle.places.proofs.SidesLaws.{part-words}
use Rattle.rules.proofs.ReplicateLaws.{replicate-at, replicate-front, map-replicate}
use Rattle.rules.proofs.FrontLaws.{front-is, from_front}
use Rattle.replace.proofs.PartialLaws.{ok-heads, round-words}
use Rattle.form.proofs.HeadLaws.{here}

-- the places that are lowered
pub lower-places : (n : ℕ) (ps : List Place) → map (lower_place n) ps ≡ map (low_place (lower n)) ps
lower-places n [] = refl
lower-places n (kept ∷ ps) = ap (λ z. kept ∷ z) (lower-places n ps)
lower-places n (filled x ∷ ps) = ap (λ z. filled (lower n x) ∷ z) (lower-places n ps)

-- with the places ps of the rest in a table; the marks of the body were made under the declarations of the rest
module _ (t : ℕ) (which : (eqb t 851 || eqb t 852) ≡ true) (rest : List ℕ) (tb : Table) (list lm : List ℕ) (ps : List Place) (words : take tb.n tb.words ≡ map word_for ps) (count : tb.n ≡ length ps)
    (fits : length ps ≡ length rest) (few : tb.n ≤ 32)
    (placed : (i : ℕ) → i < length ps → PlaceAt (Unit {0}) list lm (get_or tb.starts i 0) (get_or tb.ends i 0) (get_or ps i kept)) (higher : (i : ℕ) → i < length ps → Above tb.n (get_or ps i kept))
    (g : Form) (ok : Ok 63 pred g) (marks after : List ℕ) (marked : marks ≡ marks_of tb.n g ++ after)
    (bare : eqb (get_or (encode g) 0 0) (t + 10) ≡ false) where
  abbrev lowered : List Place
  lowered = map (lower_place (length rest)) ps

  lowered-are : lowered ≡ map (low_place (lower tb.n)) ps
  lowered-are = lower-places (length rest) ps ∙ ap (λ z. map (low_place (lower z)) ps) (sym (count ∙ fits))

  filling : (k : ℕ) {d : ℕ} {f : Form} → k + 32 * d ≤ 2048 → Ok d pred f → rewritten (planned (down_plan tb tb.n) list lm) (items_of (k + tb.n) f) ≡ encode (walk (put (fill_for lowered)) k f)
  filling k deep ok = rw lowered-are (fill-tree-lower tb list lm ps words count placed tb.n higher few k deep ok)

  abbrev rest_from : ℕ → List ℕ
  rest_from n = rewritten (planned (down_plan tb tb.n) list lm) (items (drop n (encode g)) (drop n marks))

  body-items : items (encode g) marks ≡ items_of tb.n g
  unfolding items
  body-items = rw marked (rw (append-nil, append-nil) at (items-encode tb.n g [] after))

  whole-body : rest_from 0 ≡ encode (subst (fill_for lowered) g)
  whole-body = rw body-items (rw zero-add at (filling 0 {d = 63} {f = g} (omega arith) ok))

  inner-body : (y : Quant g) → rest_from (2 + length y.decls) ≡ encode (walk (put (fill_for lowered)) (length y.decls) y.body)
  inner-body y =
      let m = y.most in
      rw (marked, quant-items-in g y (length y.decls) tb.n after refl) (filling (length y.decls) {d = 63} {f = y.body} (omega arith) y.ok)

  pub partial-words : (ns : List ℕ) → partial_words t ns (kept_names lowered rest) tb tb.n list lm (encode g) marks ≡ encode (put_round t (map unnoted ns) (fill t (map unnoted rest) (map (lower_place (length rest)) ps) g))
  partial-words ns = rw (plain-fill t rest (map (lower_place (length rest)) ps) g) (round-words t which lowered g (ok-heads t which (omega arith) ok) rest_from whole-body inner-body bare ns (kept_names lowered rest))

-- the first declarations without annotations, and the others
pub take-unnoted : (j : ℕ) (ns : List ℕ) → take j (map unnoted ns) ≡ map unnoted (take j ns)
take-unnoted zero ns = refl
take-unnoted (suc j) [] = refl
take-unnoted (suc j) (n ∷ ns) = ap (λ z. unnoted n ∷ z) (take-unnoted j ns)

pub drop-unnoted : (j : ℕ) (ns : List ℕ) → drop j (map unnoted ns) ≡ map unnoted (drop j ns)
drop-unnoted zero ns = refl
drop-unnoted (suc j) [] = refl
drop-unnoted (suc j) (n ∷ ns) = drop-unnoted j ns

-- the names whose places are kept
kept-all : (xs : List ℕ) (n : ℕ) → length xs ≡ n → kept_names (replicate n kept) xs ≡ xs
kept-all [] zero e = refl
kept-all [] (suc n) e = absurd (omega arith)
kept-all (x ∷ xs) zero e = absurd (omega arith)
kept-all (x ∷ xs) (suc n) e = ap (λ z. x ∷ z) (kept-all xs n (omega arith))

-- the words of a table of n places of which the first is filled
pub first-filled : (n i : ℕ) → i < n → take {A = ℕ} (suc i) (set (replicate n 0) 0 1) ≡ 1 ∷ replicate i 0
first-filled zero i h = absurd (omega arith)
first-filled (suc n) i h = ap (λ z. 1 ∷ z) (replicate-front i n 0 (omega arith))

-- the items of a form that stands at s in a row, with the marks that a reader made there in a row of zeros
pub part-items : (f : Form) (row lm : List ℕ) (s e n : ℕ) → e ≡ s + length (encode f) → drop s row ≡ encode f ++ drop e row → e ≤ n → lm ≡ mark f s 0 (replicate n 0)
    → items (part s e row) (part s e lm) ≡ items_of 0 f
unfolding part items
part-items f row lm s e n h w l m =
    let a : take (e - s) (drop s row) ≡ encode f = part-words row (encode f) (drop e row) s e w h in
    let y : n ≡ s + (n - s) = omega arith in
    let z : replicate n 0 ≡ replicate s 0 ++ (zeros (encode f) ++ replicate (n - s - length (encode f)) 0)
    = ap (λ k. replicate k 0) y ∙ (sym (replicate-append-replicate s (n - s) 0) ∙ ap (λ k. replicate s 0 ++ k) (zeros-replicate (encode f) (n - s) (omega arith))) in
    let v : lm ≡ replicate s 0 ++ (marks_of 0 f ++ replicate (n - s - length (encode f)) 0) = m ∙ rw z (mark-zeros f s 0 (replicate s 0) (replicate (n - s - length (encode f)) 0) (length-replicate s 0)) in
    let u : drop s lm ≡ marks_of 0 f ++ replicate (n - s - length (encode f)) 0 = rw v (drop_at (replicate s 0) (marks_of 0 f ++ replicate (n - s - length (encode f)) 0) s (length-replicate s 0)) in
    let b : take (e - s) (drop s lm) ≡ marks_of 0 f = part-words lm (marks_of 0 f) (replicate (n - s - length (encode f)) 0) s e u (rw (marks-length 0 f) h) in
    rw (a, b) (rw (append-nil, append-nil, append-nil) at (items-encode 0 f [] []))

-- one point: of the declarations ns the one of index i is filled by e
module _ (t : ℕ) (which : (eqb t 851 || eqb t 852) ≡ true) (ns : List ℕ) (i : ℕ) (e : Form) (low : i < length ns) (most : length ns ≤ 32) (tb : Table) (list lm : List ℕ) (number : tb.n ≡ suc i)
    (words : take tb.n tb.words ≡ 1 ∷ replicate i 0)
    (there : items (part (get_or tb.starts 0 0) (get_or tb.ends 0 0) list) (part (get_or tb.starts 0 0) (get_or tb.ends 0 0) lm) ≡ items_of 0 e) {d : ℕ} (ok-e : Ok d expr e) (over : above i e ≡ true)
    (g : Form) (ok : Ok 63 pred g) (marks after : List ℕ) (marked : marks ≡ marks_of tb.n g ++ after) (bare : eqb (get_or (encode g) 0 0) (t + 10) ≡ false) where
  abbrev ps : List Place
  ps = filled e ∷ replicate i kept

  abbrev j : ℕ
  j = length ns - suc i

  ps-length : length ps ≡ suc i
  ps-length = ap suc (length-replicate i kept)

  ps-placed : (k : ℕ) → k < length ps → PlaceAt (Unit {0}) list lm (get_or tb.starts k 0) (get_or tb.ends k 0) (get_or ps k kept)
  ps-placed zero h = (there, ok-small ok-e 0)
  ps-placed (suc k) h = rw (replicate-at i k kept) tt

  ps-higher : (k : ℕ) → k < length ps → Above tb.n (get_or ps k kept)
  ps-higher zero h = rw number over
  ps-higher (suc k) h = rw (replicate-at i k kept) tt

  ps-fit : length ps ≡ length (drop j ns)
  ps-fit = let l = length-drop j ns in let p = ps-length in omega arith

  point-is : instantiate_partial t (map unnoted ns) (set_place (length ns) i e (no_places (length ns))) g
      ≡ put_round t (map unnoted (take j ns)) (fill t (map unnoted (drop j ns)) (map (lower_place (length (drop j ns))) ps) g)
  unfolding instantiate_partial
  point-is =
      let same : length (drop j (map unnoted ns)) ≡ length (drop j ns) = rw (drop-unnoted j ns) (length-map (drop j ns) unnoted) in
      rw (front-is (length ns) i e low, from_front (length ns) i e low, take-unnoted (length ns - suc i) ns, drop-unnoted (length ns - suc i) ns, length-map (drop (length ns - suc i) ns) unnoted, plain-notes (lift (length ns - suc i)) (drop (length ns - suc i) ns))
      (ap (λ k. put_round t (map unnoted (take j ns)) (fill t (map unnoted (drop j ns)) (lower_place (length (drop j ns)) (filled e) ∷ map (lower_place k) (replicate i kept)) g)) same)

  pub point-stays : kept_names (map (lower_place (length (drop (length ns - suc i) ns))) (filled e ∷ replicate i kept)) (drop (length ns - suc i) ns) ≡ drop (length ns - suc i + 1) ns
  point-stays =
      let l = length-drop (j + 1) ns in
      rw (map-replicate (lower_place (length (drop (length ns - suc i) ns))) i kept, here ns (length ns - suc i) (omega arith)) (kept-all (drop (j + 1) ns) i (omega arith))

  pub point-words : partial_words t (take (length ns - suc i) ns) (drop (length ns - suc i + 1) ns) tb tb.n list lm (encode g) marks ≡ encode (instantiate_partial t (map unnoted ns) (set_place (length ns) i e (no_places (length ns))) g)
  point-words =
      rw (← point-stays)
      (partial-words t which (drop j ns) tb list lm ps (words ∙ ap (λ z. 1 ∷ z) (sym (map-replicate word_for i kept))) (number ∙ sym ps-length) ps-fit (omega arith) ps-placed ps-higher g ok marks after marked bare (take j ns))
      ∙ ap encode (sym point-is)
