-- One point keeps the truth, in every reading and of every form that it reduces. Assumes only the premise: the replacement's value lies in the
-- range of the declaration that it replaces.
use mathlib.Core.Path.{◌≡◌, refl, ap, ◌∙◌, sym, fun_ext}
use mathlib.Core.List.{List, [], ◌∷◌, map}
use mathlib.Core.Option.{Option, none as absent, some}
use mathlib.Core.Bool.{Bool, true, false, not, ◌||◌, or-false, not-not}
use Prim.Native.Nat.{ℕ, zero, suc, ◌-◌, ◌<◌}
use native.Mathlib.Omega.{arith}
use borrow.Author.Tests.{eqb-true, ltb-true}
use lib.Dec.{eqb}
use lib.ListN.{length, take, drop, get_or, replicate, length-drop, length-map}
use lib.Seq.{split_at, drop-cons}
use Rattle.tree.specs.Form.{Form}
use Rattle.form.specs.Lists.{kept, filled}
use Rattle.form.proofs.DecodeLaws.{clash}
use Rattle.rules.specs.Walk.{lift, subst}
use Rattle.rules.specs.Shift.{lower}
use Rattle.rules.specs.Fill.{Decl, name_of, Quantified, quantifier, other, quantified, quantify, fill_for, fill}
use Rattle.rules.specs.Replacement.{above, taken, nothing}
use Rattle.rules.specs.Scan.{Scan, scanned, scan}
use Rattle.rules.specs.Partial.{on_note, no_places, set_place, put_round, instantiate_partial}
use Rattle.rules.specs.Point.{polarity, rest_of, reduce, reduce_quantified, one_point}
use Rattle.rules.proofs.FrontLaws.{front-is, rest-is, kept-decls}
use Rattle.reading.specs.Reading.{Reading, truth, same, value_of, Env, value, holds}
use Rattle.reading.specs.Premise.{has, read_in_body, in_range, premise_of, premise}
use Rattle.reading.proofs.Exists.{ex_over, every-over, tag_of, asks, names-noted, quantified-tag, quantified-truth}
use Rattle.reading.proofs.ScanLaws.{tied, Good, left_truth}
use Rattle.reading.proofs.ScanTruth.{scan-tied}
use Rattle.reading.proofs.FillLaws.{lift-lower, read-lowered}
use Rattle.reading.proofs.OnePointLaws.{one-point}

-- the reduced form: the target's declaration gone, those after it round the filled body, those before it round that
names-take : (j : ℕ) (ds : List Decl) → map name_of (take j ds) ≡ take j (map name_of ds)
names-take zero ds = refl
names-take (suc j) [] = refl
names-take (suc j) (d ∷ ds) = ap (λ z. d.0 ∷ z) (names-take j ds)

names-drop : (j : ℕ) (ds : List Decl) → map name_of (drop j ds) ≡ drop j (map name_of ds)
names-drop zero ds = refl
names-drop (suc j) [] = refl
names-drop (suc j) (d ∷ ds) = names-drop j ds

module _ (t : ℕ) (ns : List Decl) (i : ℕ) (e f : Form) (lt : i < length ns) where
  after-length : length (drop (suc (length ns - suc i)) ns) ≡ i
  after-length = rw length-drop (omega arith)

  fill-after : (d : Decl) (es : List Decl) (m : ℕ) (x : Form) → length es ≡ m
      → fill t (d ∷ es) (filled x ∷ replicate m kept) f ≡ quantify t es (subst (fill_for (filled x ∷ replicate m kept)) f)
  unfolding fill
  fill-after d es m x q = rw (← q, kept-decls es (length es) refl)

  reduced-is : instantiate_partial t ns (set_place (length ns) i e (no_places (length ns))) f
      ≡ put_round t (take (length ns - suc i) ns)
      (quantify t (map (on_note (lift (length ns - suc i))) (drop (suc (length ns - suc i)) ns)) (subst (fill_for (filled (lower (suc i) e) ∷ replicate i kept)) f))
  unfolding instantiate_partial
  reduced-is =
      let j = length ns - suc i in
      let len : length (drop j ns) ≡ suc i = rw length-drop (omega arith) in
      let inside : j < length ns = omega arith in
      rw (front-is (length ns) i e lt, len, rest-is (length ns) i e lt (suc i), drop-cons ns j (0, absent) inside)
      (ap (put_round t (take j ns)) (fill-after (on_note (lift j) (get_or ns j (0, absent))) (map (on_note (lift j)) (drop (suc j) ns)) i (lower (suc i) e) (length-map (drop (suc j) ns) (on_note (lift j)) ∙ after-length)))

rest-value : (R : Reading) (θ : Env) (n : ℕ) (b : Bool) (x : Option Form) → left_truth R θ n b x ≡ truth (value R θ (rest_of b x))
unfolding value value_of
rest-value R θ n b (some f) = refl
rest-value R θ n true absent = refl
rest-value R θ n false absent = refl

-- what the scan takes splits the body, in every environment
module _ (b : Bool) (R : Reading) (n : ℕ) (body : Form) (i : ℕ) (e : Form) (x : Option Form) (found : scan n b body ≡ scanned (taken i e) x) where
  tied_at : (θ : Env) → Good n i e × (truth (value R θ body) ≡ tied b (same (θ i) (value R θ e)) (left_truth R θ n b x))
  tied_at θ = rw found at (scan-tied R θ n body b)

  split-at-target : (m : ℕ) → m ≡ i → (θ : Env)
      → truth (value R θ body) ≡ tied b (same (θ m) (value R θ (lift (suc m) (lower (suc i) e)))) (truth (value R θ (rest_of b x)))
  split-at-target m q θ =
      let (g, t) = tied_at θ in
      rw (q, lift-lower i e g.1) (t ∙ ap (λ z. tied b (same (θ i) (value R θ e)) z) (rest-value R θ n b x))

-- the premise, as the question whether some choice fails it
in-range : (R : Reading) (ns : List ℕ) (i : ℕ) (e : Form) → above i e ≡ true → in_range R ns i e ≡ true
    → ex_over R.range (take (length ns - suc i) ns) R.index (λ η. not (has (value R η (lower (suc i) e)) (R.range (get_or ns (length ns - suc i) 0)))) ≡ false
in-range R ns i e a h =
    let ds = take (length ns - suc i) ns in
    let vs = R.range (get_or ns (length ns - suc i) 0) in
    let q = every-over R.range (λ η. has (read_in_body R i e η) vs) ds R.index in
    ap (λ k. ex_over R.range ds R.index k) (fun_ext (λ η. ap (λ v. not (has v vs)) (sym (read-lowered R i e η a))))
    ∙ sym (not-not (ex_over R.range ds R.index (λ η. not (has (read_in_body R i e η) vs)))) ∙ ap not (sym q ∙ h)

module _ (R : Reading) where
  reduce-keeps : (b : Bool) (t : ℕ) (ds : List Decl) (f body : Form) (i : ℕ) (e : Form) (x : Option Form) → t ≡ tag_of b
      → truth (value R R.index f) ≡ asks b R R.index (map name_of ds) (λ θ. truth (value R θ body))
      → scan (length ds) b body ≡ scanned (taken i e) x → in_range R (map name_of ds) i e ≡ true
      → holds R f ≡ holds R (instantiate_partial t ds (set_place (length ds) i e (no_places (length ds))) (rest_of b x))
  reduce-keeps b t ds f body i e x q whole found within =
      let n = length ds in
      let j = n - suc i in
      let ns = map name_of ds in
      let size : length ns ≡ n = length-map ds name_of in
      let g = (tied_at b R n body i e x found R.index).0 in
      let lt : i < n = ltb-true i n g.0 in
      let len : length (drop (suc j) ns) ≡ i = rw length-drop (omega arith) in
      let after = map (on_note (lift j)) (drop (suc j) ds) in
      let result : Form → Form = λ z. put_round (tag_of b) (take j ds) (quantify (tag_of b) after z) in
      rw (q, reduced-is (tag_of b) ds i e (rest_of b x) lt)
      (one-point b R R.index (take j ns) (get_or ns j 0) (drop (suc j) ns) (take j ds) after (names-take j ds) (names-noted (lift j) (drop (suc j) ds) ∙ names-drop (suc j) ds) body (rest_of b x) (lower (suc i) e)
      (split-at-target b R n body i e x found (length (drop (suc j) ns)) len) (rw size at (in-range R ns i e g.1 within)) f
      (whole ∙ ap (λ z. asks b R R.index z (λ θ. truth (value R θ body))) (split_at ns j 0 (omega arith)))
      ∙ ap (λ m. holds R (result (subst (fill_for (filled (lower (suc i) e) ∷ replicate m kept)) (rest_of b x)))) len)

  polarity-tag : (t : ℕ) (b : Bool) → eqb t 852 ≡ b → (eqb t 851 || b) ≡ true → t ≡ tag_of b
  polarity-tag t true q h = eqb-true t 852 q
  polarity-tag t false q h = eqb-true t 851 (sym (or-false (eqb t 851)) ∙ h)

  scan-keeps : (t : ℕ) (ds : List Decl) (f body g : Form) → quantified f ≡ quantifier t ds body → (s : Scan) → scan (length ds) (polarity t) body ≡ s
      → reduce t ds s ≡ some g → premise_of R (map name_of ds) s ≡ true → holds R f ≡ holds R g
  scan-keeps t ds f body g z (scanned nothing x) q r h = absurd (clash cc)
  scan-keeps t ds f body g z (scanned (taken i e) x) q r h =
      let k : instantiate_partial t ds (set_place (length ds) i e (no_places (length ds))) (rest_of (polarity t) x) ≡ g = cc in
      let w : t ≡ tag_of (polarity t) = polarity-tag t (polarity t) refl (quantified-tag f t ds body z) in
      reduce-keeps (polarity t) t ds f body i e x w (quantified-truth (polarity t) R R.index f t ds body w z) q h ∙ ap (holds R) k

  quantified-keeps : (f g : Form) (q : Quantified) → quantified f ≡ q → reduce_quantified q ≡ some g → premise R f ≡ true
      → holds R f ≡ holds R g
  quantified-keeps f g other e r h = absurd (clash cc)
  quantified-keeps f g (quantifier t ds body) e r h =
      scan-keeps t ds f body g e (scan (length ds) (polarity t) body) refl r (rw (e, premise) at h)

pub point-keeps-truth : (R : Reading) (f g : Form) → one_point f ≡ some g → premise R f ≡ true → holds R f ≡ holds R g
unfolding one_point
point-keeps-truth R f g r h = quantified-keeps R f g (quantified f) refl r h
