-- Why one point keeps the truth: of a quantifier's declarations one is tied to a value that its range has. Assumes of the body that it is an
-- equation joined to a rest, and of the replacement that its value is in range.
use mathlib.Core.Path.{◌≡◌, refl, ap, ◌∙◌, sym}
use mathlib.Core.List.{List, [], ◌∷◌, ◌++◌, map}
use mathlib.Core.Bool.{Bool, true, false, not, ◌&&◌}
use Prim.Native.Nat.{ℕ, suc, ◌+◌}
use native.Mathlib.Nat.{add-zero}
use native.Mathlib.Omega.{arith}
use lib.IntN.{ℤ}
use lib.ListN.{length, length-append, replicate}
use Rattle.tree.specs.Form.{Form}
use Rattle.form.specs.Lists.{kept, filled}
use Rattle.rules.specs.Walk.{lift, subst}
use Rattle.rules.specs.Fill.{Decl, name_of, quantify, fill_for}
use Rattle.rules.specs.Partial.{put_round}
use Rattle.reading.specs.Reading.{Reading, truth, same, Env, cons, value}
use Rattle.reading.specs.Premise.{has, push}
use Rattle.reading.proofs.ValueLaws.{push-add, lift-value}
use Rattle.reading.proofs.Exists.{ex_over, ex_over-same, ex_over-append, ex_over-point, ex_over-on, turn, turn_twice, tag_of, asks, quantify-truth, put_round-truth}
use Rattle.reading.proofs.ScanLaws.{tied}
use Rattle.reading.proofs.FillLaws.{fill-value}

push-last : (c : List ℤ) (v : ℤ) (η : Env) → push (c ++ (v ∷ [])) η ≡ push c (cons v η)
push-last [] v η = refl
push-last (x ∷ c) v η = ap (λ z. cons x z) (push-last c v η)

turn-tied : (b q x : Bool) → turn b (tied b q x) ≡ (q && turn b x)
turn-tied true q x = refl
turn-tied false true x = refl
turn-tied false false x = refl

-- under the values c of n declarations after the target's, and v of the target
module _ (R : Reading) (e : Form) (η : Env) (n : ℕ) (c : List ℤ) (q : length c ≡ n) where
  lift-past : (v : ℤ) → value R (push c (cons v η)) (lift (suc n) e) ≡ value R η e
  lift-past v =
      let l : suc n ≡ length (c ++ (v ∷ [])) = rw length-append (omega arith) in
      rw (l, ← push-last c v η) (lift-value R (c ++ (v ∷ [])) η e)

  target : (v : ℤ) → push c (cons v η) n ≡ v
  target v = rw (← q) (rw add-zero at (push-add c (cons v η) 0))

  filled-rest : (f : Form) → value R (push c η) (subst (fill_for (filled e ∷ replicate n kept)) f) ≡ value R (push c (cons (value R η e) η)) f
  filled-rest f = rw (← q) (fill-value R e η c f)

-- declarations ds, then d, then es; e is read before d. front and after have the names ds and es
module _ (b : Bool) (R : Reading) (ρ : Env) (ds : List ℕ) (d : ℕ) (es : List ℕ) (front after : List Decl) (names : map name_of front ≡ ds) (laters : map name_of after ≡ es) (body rest e : Form)
    (split : (θ : Env) → truth (value R θ body) ≡ tied b (same (θ (length es)) (value R θ (lift (suc (length es)) e))) (truth (value R θ rest)))
    (within : ex_over R.range ds ρ (λ η. not (has (value R η e) (R.range d))) ≡ false) where
  body_at : Env → Bool
  body_at θ = turn b (truth (value R θ body))

  rest_at : Env → Bool
  rest_at θ = turn b (truth (value R θ rest))

  filled_form : Form
  filled_form = subst (fill_for (filled e ∷ replicate (length es) kept)) rest

  fill_at : Env → Bool
  fill_at θ = turn b (truth (value R θ filled_form))

  at-choice : (η : Env) (v : ℤ) (c : List ℤ) → length c ≡ length es
      → body_at (push c (cons v η)) ≡ (same v (value R η e) && rest_at (push c (cons v η)))
  unfolding body_at rest_at
  at-choice η v c q =
      ap (turn b) (split (push c (cons v η))) ∙ turn-tied b _ (truth (value R (push c (cons v η)) rest))
      ∙ rw (target R e η (length es) c q v, lift-past R e η (length es) c q v)

  at_fill : (η : Env) (c : List ℤ) → length c ≡ length es + 0 → rest_at (push c (cons (value R η e) η)) ≡ fill_at (push c η)
  unfolding rest_at fill_at filled_form
  at_fill η c q = ap (λ z. turn b (truth z)) (sym (filled-rest R e η (length es) c (omega arith) rest))

  -- the target's declaration and what follows it, where the replacement is in range
  at_target : (η : Env) → has (value R η e) (R.range d) ≡ true
      → ex_over R.range (d ∷ es) η body_at ≡ turn b (truth (value R η (quantify (tag_of b) after filled_form)))
  unfolding fill_at
  at_target η m =
      ex_over-point R.range d es η (value R η e) body_at rest_at (at-choice η) m
      ∙ ex_over-same R.range es (cons (value R η e) η) η rest_at fill_at [] (at_fill η)
      ∙ sym (turn_twice b (ex_over R.range es η fill_at)) ∙ ap (turn b) (sym (rw laters at (quantify-truth b R η after filled_form)))

  pub one-point : (f : Form) → truth (value R ρ f) ≡ asks b R ρ (ds ++ (d ∷ es)) (λ θ. truth (value R θ body))
      → truth (value R ρ f) ≡ truth (value R ρ (put_round (tag_of b) front (quantify (tag_of b) after (subst (fill_for (filled e ∷ replicate (length es) kept)) rest))))
  unfolding body_at filled_form
  one-point f whole =
      whole
      ∙ ap (turn b)
      (ex_over-append R.range ds (d ∷ es) ρ body_at
      ∙ ex_over-on R.range ds ρ (λ η. has (value R η e) (R.range d)) (λ η. ex_over R.range (d ∷ es) η body_at)
      (λ η. turn b (truth (value R η (quantify (tag_of b) after filled_form)))) within at_target)
      ∙ sym (rw names at (put_round-truth b R ρ front (quantify (tag_of b) after filled_form)))
