-- A row is at most one form, and it is the row of that form. Assumes nothing.
use mathlib.Core.Path.{◌≡◌, refl, ◌∙◌}
use mathlib.Core.Bool.{Bool, true, false}
use mathlib.Core.List.{List, [], ◌∷◌, ◌++◌, append-nil}
use Prim.Native.Nat.{ℕ, zero, suc, ◌≤◌}
use borrow.Author.Tests.{le-leb, leb-true}
use lib.Dec.{leb}
use lib.ListN.{length}
use Rattle.tree.specs.Form.{Form, pick, encode}
use Rattle.tree.specs.Tag.{Sort, expr, pred, own, own_of, shape_of}
use Rattle.form.specs.Decode.{read, Got, got, no-form, decode, Whole, one, not-one, whole, row_form, Found, found, missing, as_sort, either, only_names, form_of, index_free}
use Rattle.form.specs.declared.answer.Kind.{Kind}
use Rattle.tree.specs.declared.tag.Shape.TheVariants.{Unknown}
use Rattle.form.specs.declared.answer.Kind.TheVariants.{Expression, Predicate, Either, Named}
use Rattle.form.proofs.DecodeLaws.{clash, Ok, decode-encode, decode-sound}
use Rattle.tree.proofs.Ranges.{one_table}

-- a tag that begins expressions begins no predicate: a row is read as the sort that its first tag says
pub unknown-no : (s : Sort) (d t : ℕ) (ws : List ℕ) → shape_of s t ≡ Unknown → decode d s (t ∷ ws) ≡ no-form
unfolding decode own own_of read
unknown-no s zero t ws e = refl
unknown-no s (suc d) t ws e = rw e

pub no_whole : (s : Sort) (row : List ℕ) → decode 64 s row ≡ no-form → row_form s row ≡ not-one
unfolding row_form
no_whole s row e = rw e (go (leb (length row) 8192))
  where
    go : (b : Bool) → pick b not-one not-one ≡ not-one
    go true = refl
    go false = refl

within : (b : Bool) (w : Whole) (f : Form) → pick b w not-one ≡ one f → (b ≡ true) × (w ≡ one f)
within true w f e = (refl, e)
within false w f e = absurd (clash cc)

pub whole-exact : (d : ℕ) (s : Sort) (row : List ℕ) (f : Form) → whole (decode d s row) ≡ one f → (row ≡ encode f) × Ok d s f
whole-exact d s row f e = go (decode d s row) refl e
  where
    go : (g : Got) → decode d s row ≡ g → whole g ≡ one f → (row ≡ encode f) × Ok d s f
    go (got f' []) q e =
        let z : f' ≡ f = cc in
        let y = decode-sound d s row f' [] q in
        rw (← z) (y.0 ∙ append-nil (encode f'), y.1)
    go (got f' (w ∷ r)) q e = absurd (clash cc)
    go no-form q e = absurd (clash cc)

module _ (s : Sort) (row : List ℕ) (f : Form) (e : row_form s row ≡ one f) where
  pub row-exact : (row ≡ encode f) × Ok 64 s f
  unfolding row_form
  row-exact = whole-exact 64 s row f (within (leb (length row) 8192) (whole (decode 64 s row)) f e).1

  pub row-short : length row ≤ 8192
  unfolding row_form
  row-short = leb-true (length row) 8192 (within (leb (length row) 8192) (whole (decode 64 s row)) f e).0

pub row-encode : {s : Sort} {f : Form} → Ok 64 s f → length (encode f) ≤ 8192 → row_form s (encode f) ≡ one f
unfolding row_form
row-encode {s} {f} h l =
    let e : decode 64 s (encode f) ≡ got f [] = rw append-nil at (decode-encode h []) in
    rw (le-leb (length (encode f)) 8192 l, e)

-- what was found is the row's form of that sort
sort-exact : (s s' : Sort) (row : List ℕ) (f : Form) (w : Whole) → row_form s row ≡ w → as_sort s w ≡ found s' f → row_form s' row ≡ one f
sort-exact s s' row f (one f') q e =
    let a : s ≡ s' = cc in
    let b : f' ≡ f = cc in
    rw (← a, ← b) q
sort-exact s s' row f not-one q e = absurd (clash cc)

either-exact : (s : Sort) (row : List ℕ) (f : Form) (w : Whole) → row_form expr row ≡ w → either (as_sort expr w) (as_sort pred (row_form pred row)) ≡ found s f → row_form s row ≡ one f
either-exact s row f (one f') q e = sort-exact expr s row f (one f') q e
either-exact s row f not-one q e = sort-exact pred s row f (row_form pred row) refl e

-- a named row is a form of either sort in which no index stands
only-exact : (o : Found) (s : Sort) (f : Form) → only_names o ≡ found s f → (o ≡ found s f) × (index_free f ≡ true)
only-exact missing s f e = absurd (clash cc)
only-exact (found s' f') s f e = go (index_free f') refl e
  where
    go : (b : Bool) → index_free f' ≡ b → pick b (found s' f') missing ≡ found s f → (found s' f' ≡ found s f) × (index_free f ≡ true)
    go true q e = let same : f' ≡ f = cc in (e, rw (← same) q)
    go false q e = absurd (clash cc)

module _ (row : List ℕ) (s : Sort) (f : Form) where
  pub named-found : form_of Named row ≡ found s f → (form_of Either row ≡ found s f) × (index_free f ≡ true)
  unfolding form_of
  named-found e = only-exact (either (as_sort expr (row_form expr row)) (as_sort pred (row_form pred row))) s f e

  pub found-named : form_of Either row ≡ found s f → index_free f ≡ true → form_of Named row ≡ found s f
  unfolding form_of
  found-named e i = rw (e, i)

pub found-exact : (kind : Kind) (row : List ℕ) (s : Sort) (f : Form) → form_of kind row ≡ found s f → row_form s row ≡ one f
unfolding form_of
found-exact Expression row s f e = sort-exact expr s row f (row_form expr row) refl e
found-exact Predicate row s f e = sort-exact pred s row f (row_form pred row) refl e
found-exact Either row s f e = either-exact s row f (row_form expr row) refl e
found-exact Named row s f e = either-exact s row f (row_form expr row) refl (named-found row s f e).0

-- no row is an expression and a predicate: no tag begins both
one_tag : (t : ℕ) (ws ws' : List ℕ) (f g : Form) → row_form expr (t ∷ ws) ≡ one f → row_form pred (t ∷ ws') ≡ one g → ⊥
one_tag t ws ws' f g p q =
    let n = no_whole pred (t ∷ ws') (unknown-no pred 64 t ws' (one_table t (λ u. let n = no_whole expr (t ∷ ws) (unknown-no expr 64 t ws u) in clash cc))) in
    clash cc

some-tag : (s : Sort) (f : Form) → row_form s [] ≡ one f → ⊥
unfolding decode
some-tag s f p = let n = no_whole s [] refl in clash cc

one-sort : (row : List ℕ) (f g : Form) → row_form expr row ≡ one f → row_form pred row ≡ one g → ⊥
one-sort [] f g p q = some-tag expr f p
one-sort (t ∷ ws) f g p q = one_tag t ws ws f g p q

pub found-either : (row : List ℕ) (s : Sort) (f : Form) → row_form s row ≡ one f → form_of Either row ≡ found s f
unfolding form_of
found-either row expr f e = rw e
found-either row pred f e = rw e (go (row_form expr row) refl)
  where
    go : (w : Whole) → row_form expr row ≡ w → either (as_sort expr w) (found pred f) ≡ found pred f
    go (one g) q = absurd (one-sort row g f q e)
    go not-one q = refl

one_form : (row : List ℕ) (s s' : Sort) (f f' : Form) → row_form s row ≡ one f → row_form s' row ≡ one f' → (s ≡ s') × (f ≡ f')
one_form row expr expr f f' p q = (refl, cc)
one_form row expr pred f f' p q = absurd (one-sort row f f' p q)
one_form row pred expr f f' p q = absurd (one-sort row f' f q p)
one_form row pred pred f f' p q = (refl, cc)

pub at_most_one : (kind kind' : Kind) (row : List ℕ) (s s' : Sort) (f f' : Form) → form_of kind row ≡ found s f → form_of kind' row ≡ found s' f' → (s ≡ s') × (f ≡ f')
at_most_one kind kind' row s s' f f' p q = one_form row s s' f f' (found-exact kind row s f p) (found-exact kind' row s' f' q)

-- no row of a form begins another
longer : (s : Sort) (row v : List ℕ) (f g : Form) → row_form s row ≡ one f → row_form s (row ++ v) ≡ one g → v ≡ []
longer s row v f g p q =
    let (w, k) = row-exact s row f p in
    let (x, l) = row-exact s (row ++ v) g q in
    let a = decode-encode k v in
    let b = decode-encode l [] in
    let c = append-nil (encode g) in
    cc

pub no_longer : (row v : List ℕ) (s s' : Sort) (f g : Form) → row_form s row ≡ one f → row_form s' (row ++ v) ≡ one g → v ≡ []
no_longer row v expr expr f g p q = longer expr row v f g p q
no_longer row v pred pred f g p q = longer pred row v f g p q
no_longer [] v expr pred f g p q = absurd (some-tag expr f p)
no_longer [] v pred expr f g p q = absurd (some-tag pred f p)
no_longer (t ∷ ws) v expr pred f g p q = absurd (one_tag t ws (ws ++ v) f g p q)
no_longer (t ∷ ws) v pred expr f g p q = absurd (one_tag t (ws ++ v) ws g f q p)

-- a row that is one form: its length, its words, its limits
pub row_one : (s : Sort) (row : List ℕ) (f : Form) → row_form s row ≡ one f → (length row ≤ 8192) × (row ≡ encode f) × Ok 64 s f
row_one s row f e =
    let (w, o) = row-exact s row f e in
    (row-short s row f e, w, o)

pub found-row : (row : List ℕ) (s : Sort) (f : Form) (kind : Kind) → form_of kind row ≡ found s f → (length row ≤ 8192) × (row ≡ encode f) × Ok 64 s f
found-row row s f kind e = row_one s row f (found-exact kind row s f e)
