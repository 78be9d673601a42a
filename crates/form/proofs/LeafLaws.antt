-- A name or an index, read without the table of tags. Assumes nothing.
use mathlib.Core.Path.{◌≡◌, refl, ap, ◌∙◌}
use mathlib.Core.Bool.{Bool, true, false, ◌&&◌}
use mathlib.Core.List.{List, [], ◌∷◌}
use Prim.Native.Nat.{ℕ, zero, suc, ◌+◌, ◌≤◌, ◌<◌}
use native.Mathlib.Omega.{arith}
use borrow.Author.Tests.{le-leb, leb-true}
use lib.Dec.{leb}
use lib.ListN.{length, get_or, drop, length-drop}
use Rattle.form.specs.Decode.{is_leaf}
use Rattle.form.specs.Internal.Heads.{starts_leaf}
use Rattle.form.proofs.DecodeLaws.{clash, high-tag}
use Rattle.form.proofs.HeadLaws.{gone, here}

-- their tags are 1 and 2
pub leaf-tag : (t : ℕ) → (t ≡ 0 → ⊥) → t ≤ 2 → is_leaf t ≡ true
leaf-tag zero n h = absurd (n refl)
leaf-tag (suc zero) n h = refl
leaf-tag (suc (suc zero)) n h = refl
leaf-tag (suc (suc (suc t))) n h = absurd (omega arith)

pub other_tag : (t : ℕ) → 2 < t → is_leaf t ≡ false
other_tag zero h = absurd (omega arith)
other_tag (suc zero) h = absurd (omega arith)
other_tag (suc (suc zero)) h = absurd (omega arith)
other_tag (suc (suc (suc t))) h = high-tag t

pub leaf-deep : (d : ℕ) (l : List ℕ) → d ≡ 0 → starts_leaf d l ≡ false
unfolding starts_leaf
leaf-deep d [] e = refl
leaf-deep d (t ∷ []) e = refl
leaf-deep d (t ∷ w ∷ l) e = rw e

module _ (row : List ℕ) (at d : ℕ) where
  pub leaf-gone : length row ≤ at → starts_leaf d (drop at row) ≡ false
  unfolding starts_leaf
  leaf-gone h = rw (gone row at h)

  one_word : at < length row → length row ≤ at + 1 → drop at row ≡ get_or row at 0 ∷ []
  one_word h k = here row at h ∙ rw (gone row (at + 1) k)

  pub two-words : at + 1 < length row → drop at row ≡ get_or row at 0 ∷ (get_or row (at + 1) 0 ∷ drop (at + 1 + 1) row)
  two-words h = here row at (omega arith) ∙ rw (here row (at + 1) h)

  pub leaf-short : at < length row → length row ≤ at + 1 → starts_leaf d (drop at row) ≡ false
  unfolding starts_leaf
  leaf-short h k = rw (one_word h k)

  pub leaf-here : (d ≡ 0 → ⊥) → at + 1 < length row → starts_leaf d (drop at row) ≡ (is_leaf (get_or row at 0) && leb (get_or row (at + 1) 0) 65535)
  unfolding starts_leaf
  leaf-here n h = rw (two-words h, le-leb 1 d (pos d n))
    where
      pos : (d : ℕ) → (d ≡ 0 → ⊥) → 1 ≤ d
      pos zero n = absurd (n refl)
      pos (suc d) n = omega arith

  -- what a true test tells: the depth is not 0, and two words stand here
  pub leaf_room : starts_leaf d (drop at row) ≡ true → (1 ≤ d) × (at + 1 < length row)
  unfolding starts_leaf
  leaf_room e = go d (drop at row) refl e
    where
      deep : (d : ℕ) (b c : Bool) → leb 1 d ≡ b → (b && c) ≡ true → 1 ≤ d
      deep d true c l k = leb-true 1 d l
      deep d false c l k = absurd (clash cc)

      go : (d : ℕ) (l : List ℕ) → drop at row ≡ l → starts_leaf d l ≡ true → (1 ≤ d) × (at + 1 < length row)
      go d [] q k = absurd (clash cc)
      go d (t ∷ []) q k = absurd (clash cc)
      go d (t ∷ w ∷ ws) q k =
          let n : length (drop at row) ≡ length (t ∷ w ∷ ws) = ap length q in
          let m = length-drop at row in
          (deep d (leb 1 d) (is_leaf t && leb w 65535) refl k, omega arith)
