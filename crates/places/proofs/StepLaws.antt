-- One step of a loop over the parts of an equality: where the next part stands. Assumes nothing.
use mathlib.Core.Path.{◌≡◌, refl, ap, ◌∙◌}
use mathlib.Core.List.{List, [], ◌∷◌, append-nil}
use Prim.Native.Nat.{ℕ, zero, suc, ◌+◌, ◌-◌, ◌≤◌}
use native.Mathlib.Omega.{arith}
use lib.ListN.{length, drop, length-append}
use Rattle.tree.specs.Form.{Form, encode}
use Rattle.form.specs.Decode.{decode_all}
use Rattle.form.proofs.DecodeLaws.{decode-encode}
use Rattle.rules.specs.Split.{parts, equal}
use Rattle.places.specs.Internal.Positions.{end_at, Beside, parts_at, part_words, Within}
use Rattle.places.specs.declared.sides.Sides.{Sides}
use Rattle.places.proofs.PartsLaws.{in_row, PartIs}

-- no parts
pub parts_none : (row : List ℕ) (p q n : ℕ) → n ≤ 0 → parts_at row p q n ≡ []
unfolding parts_at decode_all parts
parts_none row p q zero h = refl
parts_none row p q (suc n) h = absurd (omega arith)

pub equal-length : (l r : Form) → length (encode (equal l r)) ≡ suc (length (encode l) + length (encode r))
unfolding encode
equal-length l r = rw append-nil (ap suc (length-append (encode l) (encode r)))

module _ {row : List ℕ} {p q n w k words : ℕ} (x : PartIs row p q n w k words) (s : Sides) (is : s ≡ part_words row p q) where
  pub sides-are : s ≡ record { left = p; middle = p + length (encode x.l); right = q; end = q + length (encode x.r) }
  unfolding part_words end_at
  sides-are = is ∙ rw (x.words-l, x.words-r, decode-encode x.ok-l, decode-encode x.ok-r) refl

  pub left_is : s.left ≡ p
  left_is = ap (λ z. z.left) sides-are

  pub middle-is : s.middle ≡ p + length (encode x.l)
  middle-is = ap (λ z. z.middle) sides-are

  pub right_is : s.right ≡ q
  right_is = ap (λ z. z.right) sides-are

  pub end_is : s.end ≡ q + length (encode x.r)
  end_is = ap (λ z. z.end) sides-are

  pub part_in : Within row s
  part_in =
      let a = in_row row (encode x.l) (drop (p + length (encode x.l)) row) p x.words-l x.some-l in
      let b = in_row row (encode x.r) (drop (q + length (encode x.r)) row) q x.words-r x.some-r in
      let c = left_is in
      let d = middle-is in
      let e = right_is in
      let f = end_is in
      record { left_up = omega arith; left_in = omega arith; right-up = omega arith; right-in = omega arith }

  pub rest-is : parts_at row p q n ≡ (x.l, x.r) ∷ parts_at row s.middle s.end (n - 1)
  rest-is = rw (middle-is, end_is) x.split

  pub next-is : (w' k' : ℕ) → w' ≤ w + 1 + (length (encode x.l) + length (encode x.r)) → k' ≤ k + 1 → Beside row s.middle s.end (n - 1) w' k' words
  next-is w' k' h g = rw (middle-is, end_is) (x.next w' k' h g)
