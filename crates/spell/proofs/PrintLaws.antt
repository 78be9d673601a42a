-- What the printers of expressions and predicates write, by what is decoded at a position. Assumes nothing.
use mathlib.Core.Path.{◌≡◌, refl, ap, sym, ◌∙◌}
use mathlib.Core.List.{List, [], ◌∷◌, ◌++◌}
use Prim.Native.Nat.{ℕ, zero, suc, ◌+◌, ◌-◌, ◌*◌, ◌≤◌, ◌<◌}
use native.Mathlib.Numerals.{sub-one}
use native.Mathlib.Omega.{arith}
use lib.ListN.{length, drop, set, replicate, length-append, length-drop}
use Rattle.tree.specs.Form.{Leaf, free, bound, Form, leaf, node, noted, Decls, undeclared, bare, typed, Forms, none, more, encode, encode_decls, encode_all}
use Rattle.tree.specs.Tag.{Sort}
use Rattle.form.specs.Decode.{Got, got, no-form, Gots, gots, no-forms, add_form, chain, decode_all, decode}
use Rattle.form.proofs.DecodeLaws.{clash, decode-sound, all_sound, decode-at}
use Rattle.reader.proofs.ReaderLaws.{no_both}
use Rattle.spell.specs.Spell.{decimal, spaced, bracket, spell_leaf, spell, spell_decls, spell_all}
use Rattle.spell.specs.Put.{put}
use Rattle.spell.specs.Internal.Writes.{spot, Wrote, Printed, PrintedAll}
use Rattle.spell.proofs.WriteLaws.{put-append, wrote-both, decimal-few, spaced-few}
use Rattle.std.specs.Prelude.{None, Option}
use Rattle.spell.specs.declared.print.Spot.{Spot}

-- a spelling has fewer than 13 bytes a word
bracket-few : (t : ℕ) (ws ks : List ℕ) → length (bracket t ws ks) ≤ 12 + 11 * length ws + length ks
unfolding bracket
bracket-few t ws ks = rw (length-append (decimal t), length-append (spaced ws), length-append ks) (let h = decimal-few t in let k = spaced-few ws in omega arith)

leaf-few : (x : Leaf) → length (spell_leaf x) + 1 ≤ 13 * length (encode (leaf x))
unfolding spell_leaf encode
leaf-few (free n) = let h = bracket-few 1 (n ∷ []) [] in omega arith
leaf-few (bound n) = let h = bracket-few 2 (n ∷ []) [] in omega arith

mutual
  unfolding spell encode

  pub spell-few : (f : Form) → length (spell f) + 1 ≤ 13 * length (encode f)
  spell-few (leaf x) = leaf-few x
  spell-few (node t o ds ks) =
      let h = bracket-few t (o ++ ds) (spell_all ks) in
      let k = spell_all-few ks in
      let a = length-append o ds in
      let b = length-append o (ds ++ encode_all ks) in
      let c = length-append ds (encode_all ks) in
      omega arith
  spell-few (noted t o ds ks) =
      let h = bracket-few t o (spell_decls ds ++ spell_all ks) in
      let g = length-append (spell_decls ds) (spell_all ks) in
      let k = spell_all-few ks in
      let l = spell_decls-few ds in
      let b = length-append o (encode_decls ds ++ encode_all ks) in
      let c = length-append (encode_decls ds) (encode_all ks) in
      omega arith

  pub spell_decls-few : (ds : Decls) → length (spell_decls ds) ≤ 13 * length (encode_decls ds)
  spell_decls-few undeclared = omega arith
  spell_decls-few (bare n ds) =
      let h = spell_decls-few ds in
      let a = length-append (spaced (n ∷ 0 ∷ [])) (spell_decls ds) in
      let b = spaced-few (n ∷ 0 ∷ []) in
      omega arith
  spell_decls-few (typed n f ds) =
      let h = spell_decls-few ds in
      let k = spell-few f in
      let a = length-append (spaced (n ∷ 1 ∷ [])) (32 ∷ (spell f ++ spell_decls ds)) in
      let c = length-append (spell f) (spell_decls ds) in
      let d = length-append (encode f) (encode_decls ds) in
      let b = spaced-few (n ∷ 1 ∷ []) in
      omega arith

  pub spell_all-few : (fs : Forms) → length (spell_all fs) ≤ 13 * length (encode_all fs)
  spell_all-few none = omega arith
  spell_all-few (more f fs) =
      let h = spell-few f in
      let k = spell_all-few fs in
      let a = length-append (spell f) (spell_all fs) in
      let b = length-append (encode f) (encode_all fs) in
      omega arith

pub row-is : {x x' y y' : ℕ} → spot x y ≡ spot x' y' → x ≡ x'
row-is {x} {x'} {y} {y'} e =
    let z : ◌≡◌ {A = Spot} (record { row = x; out = y }) (record { row = x'; out = y' }) = cc in
    ap (λ s. s.row) z

pub out-is : {x x' y y' : ℕ} → spot x y ≡ spot x' y' → y ≡ y'
out-is {x} {x'} {y} {y'} e =
    let z : ◌≡◌ {A = Spot} (record { row = x; out = y }) (record { row = x'; out = y' }) = cc in
    ap (λ s. s.out) z

pub same_end : (x x' y y' : ℕ) → x ≡ x' → y ≡ y' → spot x y ≡ spot x' y'
same_end x x' y y' e f = cc

-- an answer taken apart
pub printed-end : (p o : ℕ) (g : Got) (a b : List ℕ) (r : Option Spot) (q j : ℕ) → Printed p o g a b r → r ≡ spot q j
    → (f : Form) × (x : List ℕ) × (g ≡ got f x) × (q ≡ p + length (encode f)) × (j ≡ o + length (spell f)) × (b ≡ put a o (spell f))
unfolding Printed
printed-end p o (got f x) a b r q j t e = (f, x, refl, row-is (sym e ∙ t.0), out-is (sym e ∙ t.0), t.1)
printed-end p o no-form a b r q j t e = absurd (clash cc)

pub printed-bad : (p o : ℕ) (g : Got) (a b : List ℕ) (r : Option Spot) → Printed p o g a b r → r ≡ None → g ≡ no-form
unfolding Printed
printed-bad p o (got f x) a b r t e = let z = t.0 in absurd (clash cc)
printed-bad p o no-form a b r t e = refl

pub all_end : (p o : ℕ) (g : Gots) (a b : List ℕ) (r : Option Spot) (q j : ℕ) → PrintedAll p o g a b r → r ≡ spot q j
    → (fs : Forms) × (x : List ℕ) × (g ≡ gots fs x) × (q ≡ p + length (encode_all fs)) × (j ≡ o + length (spell_all fs)) × (b ≡ put a o (spell_all fs))
unfolding PrintedAll
all_end p o (gots fs x) a b r q j t e = (fs, x, refl, row-is (sym e ∙ t.0), out-is (sym e ∙ t.0), t.1)
all_end p o no-forms a b r q j t e = absurd (clash cc)

pub all-bad : (p o : ℕ) (g : Gots) (a b : List ℕ) (r : Option Spot) → PrintedAll p o g a b r → r ≡ None → g ≡ no-forms
unfolding PrintedAll
all-bad p o (gots f x) a b r t e = let z = t.0 in absurd (clash cc)
all-bad p o no-forms a b r t e = refl

pub bad-printed : (p o : ℕ) (g : Got) (a b : List ℕ) → g ≡ no-form → Printed p o g a b None
unfolding Printed
bad-printed p o g a b e = rw e refl

bad-printed_all : (p o : ℕ) (g : Gots) (a b : List ℕ) → g ≡ no-forms → PrintedAll p o g a b None
unfolding PrintedAll
bad-printed_all p o g a b e = rw e refl

-- a space and one form more in front, and taken away again
add-printed : (p q o i j : ℕ) (f : Form) (g : Gots) (a a₁ a' b : List ℕ) (r : Option Spot) → Wrote o (32 ∷ []) a a₁ i → q ≡ p + length (encode f)
    → Wrote i (spell f) a₁ a' j → PrintedAll q j g a' b r → PrintedAll p o (add_form f g) a b r
unfolding PrintedAll encode spell Wrote
add-printed p q o i j f (gots fs x) a a₁ a' b r w e v t =
    let k = wrote-both o i (j + length (spell_all fs)) (32 ∷ []) (spell f ++ spell_all fs) a a₁ b w (wrote-both i j _ (spell f) (spell_all fs) a₁ a' b v (refl, t.1)) in
    let n = length-append (encode f) (encode_all fs) in
    (t.0 ∙ same_end _ _ _ _ (omega arith) k.0, k.1)
add-printed p q o i j f no-forms a a₁ a' b r w e v t = t

printed-add : (p o : ℕ) (f : Form) (g : Gots) (a b : List ℕ) (r : Option Spot) → PrintedAll p o (add_form f g) a b r
    → PrintedAll (p + length (encode f)) (o + 1 + length (spell f)) g (put (put a o (32 ∷ [])) (o + 1) (spell f)) b r
unfolding PrintedAll encode spell put
printed-add p o f (gots fs x) a b r t =
    let n = length-append (encode f) (encode_all fs) in
    let m = length-append (spell f) (spell_all fs) in
    (t.0 ∙ same_end _ _ _ _ (omega arith) (omega arith), t.1 ∙ put-append (set a o 32) (o + 1) (spell f) (spell_all fs))
printed-add p o f no-forms a b r t = t

module _ (d : ℕ) (row : List ℕ) where
  abbrev All : List Sort → ℕ → ℕ → List ℕ → List ℕ → Option Spot → Type 0
  All ss p o a b r = PrintedAll p o (decode_all (λ s l. decode d s l) ss (drop p row)) a b r

  -- how far the output grows
  pub printed-within : (s : Sort) (p o : ℕ) (a b : List ℕ) (r : Option Spot) (q j : ℕ) → Printed p o (decode d s (drop p row)) a b r → r ≡ spot q j
      → (p ≤ q) × (j + 1 + 13 * (length row - q) ≤ o + 13 * (length row - p))
  printed-within s p o a b r q j t e =
      let (f, x, g, l, m, w) = printed-end p o (decode d s (drop p row)) a b r q j t e in
      let (v, k) = decode-sound d s (drop p row) f x g in
      let n : length row - p ≡ length (encode f) + length x = sym (length-drop p row) ∙ ap length v ∙ length-append (encode f) x in
      let h = spell-few f in
      (omega arith, omega arith)

  pub all-within : (ss : List Sort) (p o : ℕ) (a b : List ℕ) (r : Option Spot) (q j : ℕ) → All ss p o a b r → r ≡ spot q j
      → (p ≤ q) × (j + 13 * (length row - q) ≤ o + 13 * (length row - p))
  all-within ss p o a b r q j t e =
      let (fs, x, g, l, m, w) = all_end p o (decode_all (λ s l. decode d s l) ss (drop p row)) a b r q j t e in
      let (v, k) = all_sound d ss (drop p row) fs x g in
      let n : length row - p ≡ length (encode_all fs) + length x = sym (length-drop p row) ∙ ap length v ∙ length-append (encode_all fs) x in
      let h = spell_all-few fs in
      (omega arith, omega arith)

  -- the first of several
  step : (s : Sort) (ss : List Sort) (p q o i j : ℕ) (a a₁ a' b : List ℕ) (r r' : Option Spot) → Wrote o (32 ∷ []) a a₁ i
      → Printed p i (decode d s (drop p row)) a₁ a' r → r ≡ spot q j → All ss q j a' b r' → All (s ∷ ss) p o a b r'
  unfolding decode_all Wrote
  step s ss p q o i j a a₁ a' b r r' w t e h =
      let (f, x, g, l, m, k) = printed-end p i (decode d s (drop p row)) a₁ a' r q j t e in
      let y : x ≡ drop q row = decode-at d s row p f x g ∙ ap (λ n. drop n row) (sym l) in
      rw (g, y) (add-printed p q o i j f (decode_all (λ s l. decode d s l) ss (drop q row)) a a₁ a' b r' w l (m, k) h)

  pub all_more : (s : Sort) (n p q o i j : ℕ) (a a₁ a' : List ℕ) (r : Option Spot) → 0 < n → Wrote o (32 ∷ []) a a₁ i → Printed p i (decode d s (drop p row)) a₁ a' r → r ≡ spot q j
      → (b : List ℕ) (r' : Option Spot) → All (replicate (n - 1) s) q j a' b r' → All (replicate n s) p o a b r'
  all_more s zero p q o i j a a₁ a' r h w t e b r' k = absurd (omega arith)
  all_more s (suc n) p q o i j a a₁ a' r h w t e b r' k = step s (replicate n s) p q o i j a a₁ a' b r r' w t e (rw sub-one at k)

  pub all-stop : (s : Sort) (n p o i : ℕ) (a a₁ a' b : List ℕ) (r : Option Spot) → 0 < n → Printed p i (decode d s (drop p row)) a₁ a' r → r ≡ None → All (replicate n s) p o a b None
  unfolding decode_all
  all-stop s zero p o i a a₁ a' b r h t e = absurd (omega arith)
  all-stop s (suc n) p o i a a₁ a' b r h t e = bad-printed_all p o _ a b (rw (printed-bad p i (decode d s (drop p row)) a₁ a' r t e) refl)

  pub all_none : (s : Sort) (n p o : ℕ) (a : List ℕ) → n ≤ 0 → All (replicate n s) p o a a (spot p o)
  unfolding decode_all PrintedAll encode spell put
  all_none s zero p o a h = (same_end _ _ _ _ (omega arith) (omega arith), refl)
  all_none s (suc n) p o a h = absurd (omega arith)

  -- some, and then others
  none-printed : (p q o j : ℕ) (x a a' : List ℕ) (r : Option Spot) → PrintedAll p o (gots none x) a a' r → r ≡ spot q j → (p ≡ q) × (o ≡ j) × (a ≡ a')
  unfolding PrintedAll encode spell put
  none-printed p q o j x a a' r t e =
      let z : spot q j ≡ spot (p + 0) (o + 0) = sym e ∙ t.0 in
      let y : q ≡ p + 0 = row-is z in
      let u : j ≡ o + 0 = out-is z in
      (omega arith, omega arith, sym t.1)

  both-none : (ss : List Sort) (p q o j : ℕ) (a a' b : List ℕ) (r : Option Spot) → p ≡ q → o ≡ j → a ≡ a' → All ss q j a' b r → All ss p o a b r
  both-none ss p q o j a a' b r e f m h = rw (e, f, m) h

  both-step : (ss ss' : List Sort) (s : Sort) (p q o j : ℕ) (a a' b : List ℕ) (r r' : Option Spot) (z : Got) → decode d s (drop p row) ≡ z
      → ((p' o' : ℕ) (a₀ : List ℕ) → All ss p' o' a₀ a' r → All (ss ++ ss') p' o' a₀ b r')
      → PrintedAll p o (chain z (λ x. decode_all (λ s l. decode d s l) ss x)) a a' r → r ≡ spot q j → PrintedAll p o (chain z (λ x. decode_all (λ s l. decode d s l) (ss ++ ss') x)) a b r'
  unfolding PrintedAll Wrote
  both-step ss ss' s p q o j a a' b r r' (got f x) k ih t e =
      let n = p + length (encode f) in
      let y : x ≡ drop n row = decode-at d s row p f x k in
      let a₁ = put a o (32 ∷ []) in
      rw y (add-printed p n o (o + 1) (o + 1 + length (spell f)) f (decode_all (λ s l. decode d s l) (ss ++ ss') (drop n row)) a a₁ (put a₁ (o + 1) (spell f)) b r'
      (refl, refl) refl (refl, refl)
      (ih n (o + 1 + length (spell f)) (put a₁ (o + 1) (spell f)) (rw y at (printed-add p o f (decode_all (λ s l. decode d s l) ss x) a a' r t))))
  both-step ss ss' s p q o j a a' b r r' no-form k ih t e = absurd (clash cc)

  pub both_go : (ss ss' : List Sort) (p q o j : ℕ) (a a' b : List ℕ) (r r' : Option Spot) → All ss p o a a' r → r ≡ spot q j → All ss' q j a' b r' → All (ss ++ ss') p o a b r'
  unfolding decode_all
  both_go [] ss' p q o j a a' b r r' t e h = let (x, z, y) = none-printed p q o j (drop p row) a a' r t e in both-none ss' p q o j a a' b r' x z y h
  both_go (s ∷ ss) ss' p q o j a a' b r r' t e h =
      both-step ss ss' s p q o j a a' b r r' (decode d s (drop p row)) refl (λ p' o' a₀ t'. both_go ss ss' p' q o' j a₀ a' b r r' t' e h) t e

  pub both-stop : (ss ss' : List Sort) (p o : ℕ) (a a' b : List ℕ) (r : Option Spot) → All ss p o a a' r → r ≡ None → All (ss ++ ss') p o a b None
  both-stop ss ss' p o a a' b r t e = bad-printed_all p o _ a b (no_both d ss ss' (drop p row) (all-bad p o (decode_all (λ s l. decode d s l) ss (drop p row)) a a' r t e))
