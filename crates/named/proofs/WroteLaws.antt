-- The answers of the reader of names, put together: several forms, and a node from its own words and its children. Assumes nothing.
use mathlib.Core.Path.{◌≡◌, refl, ap, sym, ◌∙◌}
use mathlib.Core.Bool.{Bool, true, false}
use mathlib.Core.List.{List, [], ◌∷◌, ◌++◌}
use Prim.Native.Nat.{ℕ, zero, suc, ◌+◌, ◌-◌, ◌≤◌, ◌<◌}
use native.Mathlib.Numerals.{sub-one}
use native.Mathlib.Omega.{arith}
use lib.ListN.{length, drop, replicate, length-append}
use Rattle.tree.specs.Form.{Form, none, pick, encode, encode_all}
use Rattle.tree.specs.Tag.{Sort}
use Rattle.form.specs.Decode.{Got, got, no-form, Gots, gots, no-forms, add_form, chain, decode_all, decode, index_free}
use Rattle.rules.specs.Named.{nameless, nameless_all}
use Rattle.shift.specs.Internal.Items.{store}
use Rattle.named.specs.Internal.Reads.{indexless, read_names, Wrote, WroteAll}
use Rattle.form.proofs.DecodeLaws.{clash, decode-at}
use Rattle.rules.proofs.NamedLaws.{nameless-length}
use Rattle.shift.proofs.ItemLaws.{store-append}
use Rattle.std.specs.Prelude.{Some, None, Option}

-- an answer taken apart
indexless-got : (z : Got) (f : Form) (x : List ℕ) → indexless z ≡ got f x → z ≡ got f x
indexless-got no-form f x e = absurd (clash cc)
indexless-got (got g y) f x e = go (index_free g) e
  where
    go : (b : Bool) → pick b (got g y) no-form ≡ got f x → got g y ≡ got f x
    go true e = e
    go false e = absurd (clash cc)

pub names_at : (d : ℕ) (s : Sort) (row : List ℕ) (p : ℕ) (f : Form) (x : List ℕ) → read_names d s (drop p row) ≡ got f x → x ≡ drop (p + length (encode f)) row
unfolding read_names
names_at d s row p f x e = decode-at d s row p f x (indexless-got (decode d s (drop p row)) f x e)

module _ (p : ℕ) (S : List ℕ) where
  pub wrote-end : (g : Got) (a b : List ℕ) (r : Option ℕ) (q : ℕ) → Wrote p S g a b r → r ≡ Some q → (f : Form) × (x : List ℕ) × (g ≡ got f x) × (q ≡ p + length (encode f)) × (b ≡ store a p (encode (nameless S f)))
  unfolding Wrote
  wrote-end (got f x) a b r q t e = (f, x, refl, cc t.0, t.1)
  wrote-end no-form a b r q t e = absurd (clash cc)

  pub wrote-bad : (g : Got) (a b : List ℕ) (r : Option ℕ) → Wrote p S g a b r → r ≡ None → g ≡ no-form
  unfolding Wrote
  wrote-bad (got f x) a b r t e = let z = t.0 in absurd (clash cc)
  wrote-bad no-form a b r t e = refl

  all-bad : (g : Gots) (a b : List ℕ) (r : Option ℕ) → WroteAll p S g a b r → r ≡ None → g ≡ no-forms
  unfolding WroteAll
  all-bad (gots fs x) a b r t e = let z = t.0 in absurd (clash cc)
  all-bad no-forms a b r t e = refl

  pub rises : (g : Got) (a b : List ℕ) (r : Option ℕ) (q : ℕ) → Wrote p S g a b r → r ≡ Some q → p ≤ q
  rises g a b r q t e = let (f, x, y, z, w) = wrote-end g a b r q t e in omega arith

  pub rises-all : (g : Gots) (a b : List ℕ) (r : Option ℕ) (q : ℕ) → WroteAll p S g a b r → r ≡ Some q → p ≤ q
  unfolding WroteAll
  rises-all (gots fs x) a b r q t e = let y : q ≡ p + length (encode_all fs) = cc t.0 in omega arith
  rises-all no-forms a b r q t e = absurd (clash cc)

  pub bad-wrote : (g : Got) (a b : List ℕ) → g ≡ no-form → Wrote p S g a b None
  unfolding Wrote
  bad-wrote g a b e = rw e refl

  pub bad-all : (g : Gots) (a b : List ℕ) → g ≡ no-forms → WroteAll p S g a b None
  unfolding WroteAll
  bad-all g a b e = rw e refl

  -- one form more in front, and taken away again
  add-wrote : (q : ℕ) (f : Form) (g : Gots) (a a' b : List ℕ) (r : Option ℕ) → q ≡ p + length (encode f) → a' ≡ store a p (encode (nameless S f)) → WroteAll q S g a' b r → WroteAll p S (add_form f g) a b r
  unfolding WroteAll encode nameless
  add-wrote q f (gots fs x) a a' b r e m t =
      let l = nameless-length S f in
      let k : p + length (encode (nameless S f)) ≡ q = omega arith in
      (t.0 ∙ ap Some (rw length-append (omega arith)), t.1 ∙ (rw (m, ← k) (sym (store-append a p (encode (nameless S f)) (encode_all (nameless_all S fs))))))
  add-wrote q f no-forms a a' b r e m t = t

  wrote-add : (f : Form) (g : Gots) (a b : List ℕ) (r : Option ℕ) → WroteAll p S (add_form f g) a b r → WroteAll (p + length (encode f)) S g (store a p (encode (nameless S f))) b r
  unfolding WroteAll encode nameless
  wrote-add f (gots fs x) a b r t =
      let l = nameless-length S f in
      (t.0 ∙ ap Some (rw length-append (omega arith)), t.1 ∙ (store-append a p (encode (nameless S f)) (encode_all (nameless_all S fs)) ∙ ap (λ n. store (store a p (encode (nameless S f))) (p + n) (encode_all (nameless_all S fs))) l))
  wrote-add f no-forms a b r t = t

-- nothing is read of several forms where nothing is read of the first of them
no_add : (f : Form) (g : Gots) → add_form f g ≡ no-forms → g ≡ no-forms
no_add f (gots fs x) e = absurd (clash cc)
no_add f no-forms e = refl

no-chain : (z : Got) (k k' : List ℕ → Gots) → ((x : List ℕ) → k x ≡ no-forms → k' x ≡ no-forms) → chain z k ≡ no-forms → chain z k' ≡ no-forms
no-chain (got f x) k k' h e = rw (h x (no_add f (k x) e))
no-chain no-form k k' h e = refl

module _ (d : ℕ) (row S : List ℕ) where
  abbrev N : Sort → List ℕ → Got
  N s l = read_names d s l

  abbrev All : List Sort → ℕ → List ℕ → List ℕ → Option ℕ → Type 0
  All ss p a b r = WroteAll p S (decode_all N ss (drop p row)) a b r

  no_both : (ss ss' : List Sort) (l : List ℕ) → decode_all N ss l ≡ no-forms → decode_all N (ss ++ ss') l ≡ no-forms
  unfolding decode_all
  no_both [] ss' l e = absurd (clash cc)
  no_both (s ∷ ss) ss' l e = no-chain (N s l) (λ x. decode_all N ss x) (λ x. decode_all N (ss ++ ss') x) (λ x k. no_both ss ss' x k) e

  -- the first of several
  step : (s : Sort) (ss : List Sort) (p q : ℕ) (a a' b : List ℕ) (r r' : Option ℕ) → Wrote p S (N s (drop p row)) a a' r → r ≡ Some q → All ss q a' b r' → All (s ∷ ss) p a b r'
  unfolding decode_all
  step s ss p q a a' b r r' t e h =
      let (f, x, g, l, m) = wrote-end p S (N s (drop p row)) a a' r q t e in
      let y : x ≡ drop q row = names_at d s row p f x g ∙ ap (λ n. drop n row) (sym l) in
      rw (g, y) (add-wrote p S q f (decode_all N ss (drop q row)) a a' b r' l m h)

  pub all_more : (s : Sort) (n p q : ℕ) (a a' : List ℕ) (r : Option ℕ) → 0 < n → Wrote p S (N s (drop p row)) a a' r → r ≡ Some q
      → (b : List ℕ) (r' : Option ℕ) → All (replicate (n - 1) s) q a' b r' → All (replicate n s) p a b r'
  all_more s zero p q a a' r h t e b r' k = absurd (omega arith)
  all_more s (suc n) p q a a' r h t e b r' k = step s (replicate n s) p q a a' b r r' t e (rw sub-one at k)

  pub all-stop : (s : Sort) (n p : ℕ) (a a' b : List ℕ) (r : Option ℕ) → 0 < n → Wrote p S (N s (drop p row)) a a' r → r ≡ None → All (replicate n s) p a b None
  unfolding decode_all
  all-stop s zero p a a' b r h t e = absurd (omega arith)
  all-stop s (suc n) p a a' b r h t e = bad-all p S _ a b (rw (wrote-bad p S (N s (drop p row)) a a' r t e) refl)

  pub all_none : (s : Sort) (n p : ℕ) (a : List ℕ) → n ≤ 0 → All (replicate n s) p a a (Some p)
  unfolding decode_all WroteAll encode nameless store
  all_none s zero p a h = (ap Some (omega arith), refl)
  all_none s (suc n) p a h = absurd (omega arith)

  -- some, and then others
  none-wrote : (p q : ℕ) (x a a' : List ℕ) (r : Option ℕ) → WroteAll p S (gots none x) a a' r → r ≡ Some q → (p ≡ q) × (a ≡ a')
  unfolding WroteAll encode nameless store
  none-wrote p q x a a' r t e =
      let z : Some q ≡ Some (p + 0) = sym e ∙ t.0 in
      let y : q ≡ p + 0 = cc in
      (omega arith, sym t.1)

  both-step : (ss ss' : List Sort) (s : Sort) (p q : ℕ) (a a' b : List ℕ) (r r' : Option ℕ) (z : Got) → N s (drop p row) ≡ z
      → ((p' : ℕ) (a₀ : List ℕ) → All ss p' a₀ a' r → All (ss ++ ss') p' a₀ b r')
      → WroteAll p S (chain z (λ x. decode_all N ss x)) a a' r → r ≡ Some q → WroteAll p S (chain z (λ x. decode_all N (ss ++ ss') x)) a b r'
  unfolding WroteAll
  both-step ss ss' s p q a a' b r r' (got f x) k ih t e =
      let y : x ≡ drop (p + length (encode f)) row = names_at d s row p f x k in
      let made = store a p (encode (nameless S f)) in
      rw y (add-wrote p S (p + length (encode f)) f (decode_all N (ss ++ ss') (drop (p + length (encode f)) row)) a made b r' refl refl
      (ih (p + length (encode f)) made (rw y at (wrote-add p S f (decode_all N ss x) a a' r t))))
  both-step ss ss' s p q a a' b r r' no-form k ih t e = absurd (clash cc)

  pub both_go : (ss ss' : List Sort) (p q : ℕ) (a a' b : List ℕ) (r r' : Option ℕ) → All ss p a a' r → r ≡ Some q → All ss' q a' b r' → All (ss ++ ss') p a b r'
  unfolding decode_all
  both_go [] ss' p q a a' b r r' t e h = let (x, y) = none-wrote p q (drop p row) a a' r t e in rw (x, y) h
  both_go (s ∷ ss) ss' p q a a' b r r' t e h = both-step ss ss' s p q a a' b r r' (N s (drop p row)) refl (λ p' a₀ t'. both_go ss ss' p' q a₀ a' b r r' t' e h) t e

  pub both-stop : (ss ss' : List Sort) (p : ℕ) (a a' b : List ℕ) (r : Option ℕ) → All ss p a a' r → r ≡ None → All (ss ++ ss') p a b None
  both-stop ss ss' p a a' b r t e = bad-all p S _ a b (no_both ss ss' (drop p row) (all-bad p S (decode_all N ss (drop p row)) a a' r t e))
