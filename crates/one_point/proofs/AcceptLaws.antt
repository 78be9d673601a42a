-- A part offered and written: from the words of its sides to the definitions. Assumes nothing.
use mathlib.Core.Path.{◌≡◌, refl, ap, ◌∙◌}
use mathlib.Core.Bool.{Bool, true, false, ◌&&◌}
use mathlib.Core.List.{List, ◌++◌}
use Prim.Native.Nat.{ℕ, ◌+◌, ◌-◌, ◌≤◌, ◌<◌}
use native.Mathlib.Omega.{arith}
use lib.Dec.{ltb}
use lib.ListN.{length, take, drop}
use Rattle.tree.specs.Form.{Form, pick, encode}
use Rattle.tree.specs.Tag.{expr}
use Rattle.form.proofs.DecodeLaws.{clash, Ok}
use Rattle.rules.specs.Replacement.{left, right, Offer, offer, no-offer, offered, taken, nothing, above, allowed, of_offer, accept}
use Rattle.places.specs.Internal.Sides.{index_words, left_for, right_for, replace_by, replacement_words, above_words}
use Rattle.one_point.specs.Internal.Parts.{accept_by, accept_words, TookIs}
use Rattle.places.specs.Internal.Positions.{Within}
use Rattle.std.specs.Prelude.{Option, Some, None}
use Rattle.places.specs.declared.sides.Sides.{Sides}
use Rattle.places.specs.declared.sides.Replacement.{Replacement}
use Rattle.places.proofs.SidesLaws.{placed, rule-words, above-words, part-words, above-is}

-- the replacement is one of the sides
module _ (row : List ℕ) (s : Sides) (h : Within row s) where
  abbrev Inside : Option Replacement → Type 0
  Inside r = (x : Replacement) → r ≡ Some x → (x.start ≤ x.end) × (x.end ≤ length row)

  left-inside : (j : ℕ) → Inside (Some (left_for s j))
  left-inside j x e =
      let q : left_for s j ≡ x = cc in
      let u = h.left_up in
      let v = h.left_in in
      rw (← q) (omega arith, omega arith)

  right-inside : (j : ℕ) → Inside (Some (right_for s j))
  right-inside j x e =
      let q : right_for s j ≡ x = cc in
      let u = h.right-up in
      let v = h.right-in in
      rw (← q) (omega arith, omega arith)

  either-inside : (b : Bool) (x y : Option Replacement) → Inside x → Inside y → Inside (pick b x y)
  either-inside true x y p q = p
  either-inside false x y p q = q

  by-inside : (x y : Option ℕ) → Inside (replace_by s x y)
  by-inside (Some i) (Some j) = either-inside (ltb i j) (Some (right_for s i)) (Some (left_for s j)) (right-inside i) (left-inside j)
  by-inside None (Some j) = left-inside j
  by-inside (Some i) None = right-inside i
  by-inside None None = λ x e. absurd (clash cc)

  pub rule-within : (x : Replacement) → replacement_words s row ≡ Some x → (x.start ≤ x.end) × (x.end ≤ length row)
  unfolding replacement_words
  rule-within x e = by-inside (index_words (drop s.left row)) (index_words (drop s.right row)) x e

-- an accepted part is taken
module _ (row : List ℕ) (n : ℕ) where
  took-if : (i s t : ℕ) (e : Form) (b c : Bool) → t ≡ s + length (encode e) → drop s row ≡ encode e ++ drop t row
      → TookIs row (pick b (pick c (taken i e) nothing) nothing) (pick b (pick c (Some (record { target = i; start = s; end = t })) None) None)
  unfolding TookIs
  took-if i s t e true true h k = (refl, h, k)
  took-if i s t e true false h k = refl
  took-if i s t e false c h k = refl

  took-side : (i s t : ℕ) (e : Form) → Ok 64 expr e → length (encode e) ≤ 8192 → t ≡ s + length (encode e) → drop s row ≡ encode e ++ drop t row
      → TookIs row (allowed n i e) (accept_by n row (Some (record { target = i; start = s; end = t })))
  took-side i s t e ok short h k =
      let a : above_words i (take (t - s) (drop s row)) ≡ above i e = ap (above_words i) (part-words row (encode e) (drop t row) s t k h) ∙ above-words i e ok short in
      rw a (took-if i s t e (ltb i n) (above i e) h k)

  module _ (s : Sides) (l r : Form) (ok-l : Ok 64 expr l) (ok-r : Ok 64 expr r) (short-l : length (encode l) ≤ 8192) (short-r : length (encode r) ≤ 8192)
      (end-l : s.middle ≡ s.left + length (encode l)) (end-r : s.end ≡ s.right + length (encode r))
      (words-l : drop s.left row ≡ encode l ++ drop s.middle row) (words-r : drop s.right row ≡ encode r ++ drop s.end row) where
    took_by : (o : Offer) → TookIs row (of_offer n l r o) (accept_by n row (placed s o))
    unfolding TookIs
    took_by (offer i left) = took-side i s.left s.middle l ok-l short-l end-l words-l
    took_by (offer i right) = took-side i s.right s.end r ok-r short-r end-r words-r
    took_by no-offer = refl

    pub took : TookIs row (accept n l r) (accept_words n s row)
    unfolding accept accept_words
    took = rw (rule-words s row l r (drop s.middle row) (drop s.end row) ok-l ok-r words-l words-r) (took_by (offered l r))

-- the test of a target that is one of n declarations
pub above_in : (i n : ℕ) (row : List ℕ) (r : Bool) → i < n → n ≤ 32 → r ≡ (ltb i 32 && above_words i row) → r ≡ above_words i row
above_in i n row r h k e = above-is i row r e (omega arith)
