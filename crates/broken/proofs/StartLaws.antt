-- Own words that are all there, without flags, and after which the children have room: the search has come to the children. Assumes nothing.
use mathlib.Core.Path.{◌≡◌, refl, sym, ◌∙◌}
use mathlib.Core.Bool.{Bool, true, false}
use mathlib.Core.List.{List}
use Prim.Native.Nat.{ℕ, zero, suc, ◌+◌, ◌≤◌, ◌<◌}
use native.Mathlib.Omega.{arith}
use borrow.Author.Tests.{le-leb, leb-true, leb-false}
use lib.Dec.{leb}
use lib.ListN.{length, get_or, drop}
use Rattle.tree.specs.Form.{between}
use Rattle.tree.specs.Tag.{Sort, Own, ask, kids, flags, wrong, own}
use Rattle.form.specs.Decode.{Head, head, flagged, bad, add_name, names, read}
use Rattle.form.specs.Break.{Next, word, parts, next_of, least}
use Rattle.form.specs.Internal.Heads.{word_at, head_at}
use Rattle.form.specs.declared.head.Head.TheVariants.{Kids}
use Rattle.form.proofs.DecodeLaws.{clash}
use Rattle.form.proofs.HeadLaws.{gone, here, word-is, asked_in, ask-go, ask-stop}
use Rattle.form.proofs.LeastLaws.{Fine, fine-word}
use Rattle.form.proofs.PositionLaws.{own-fine}
use Rattle.broken.specs.Internal.Seeks.{is_own, after_word, Reaches}
use Rattle.broken.proofs.SeekLaws.{start, own-go, reached-on}
use Rattle.std.specs.Prelude.{Some, None, Option}

-- from a position on, the rest o has room and the search comes to the children
abbrev Begins : List ℕ → ℕ → ℕ → ℕ → Next → ℕ → ℕ → ℕ → Type 0
Begins row d need at o p x y = (at + (least d o + need) ≤ 8192) × ((named : Bool) → Reaches named row at d o need p (parts 0 x y))

module _ (row : List ℕ) (d need p x y : ℕ) where
  -- one word more before it
  one-before : (at : ℕ) (o a : Next) → is_own o ≡ true → a ≡ after_word o (get_or row at 0) → at < length row → least d o ≤ suc (least d a) → Begins row d need (at + 1) a p x y → Begins row d need at o p x y
  one-before at o a k q h l (r, i) =
      let room : at + (least d o + need) ≤ 8192 = omega arith in
      (room, λ named. reached-on (own-go row at d o need at o (start row at d o need room) h k a q (le-leb (at + 1 + (least d a + need)) 8192 r)) (i named))

  -- declared names
  after-name : (at w n : ℕ) (h : Head) → head_at at (add_name w h) ≡ Some (Kids p x y n) → (m : ℕ) × (head_at (at + 1) h ≡ Some (Kids p x y m))
  unfolding head_at
  after-name at w n (head o ds x' y' r) e =
      let end : at + (length o + suc (length ds)) ≡ p = cc in
      let preds : x' ≡ x = cc in
      let exprs : y' ≡ y = cc in
      let sum : at + 1 + (length o + length ds) ≡ at + (length o + suc (length ds)) = omega arith in
      (length ds, rw (sum, end, preds, exprs))
  after-name at w n (flagged o m x' y' r) e = absurd (clash cc)
  after-name at w n bad e = absurd (clash cc)

  least-name : (n x y : ℕ) → least d (parts (suc n) x y) ≡ suc (least d (parts n x y))
  unfolding least
  least-name n x y = omega arith

  names-begin : (k x' y' at n : ℕ) → head_at at (names k x' y' (drop at row)) ≡ Some (Kids p x y n) → p + (least d (parts 0 x y) + need) ≤ 8192 → Begins row d need at (parts k x' y') p x y
  unfolding head_at is_own after_word
  names-begin zero x' y' at n e h =
      let end : at + 0 ≡ p = cc in
      let preds : x' ≡ x = cc in
      let exprs : y' ≡ y = cc in
      let here : at ≡ p = omega arith in
      rw (preds, exprs, here) (h, λ named. start row p d (parts 0 x y) need h)
  names-begin (suc k) x' y' at n e h = by (leb (length row) at) refl (between 0 65535 (get_or row at 0)) refl (λ m g. names-begin k x' y' (at + 1) m g h)
    where
      by : (b : Bool) → leb (length row) at ≡ b → (c : Bool) → between 0 65535 (get_or row at 0) ≡ c
          → ((m : ℕ) → head_at (at + 1) (names k x' y' (drop (at + 1) row)) ≡ Some (Kids p x y m) → Begins row d need (at + 1) (parts k x' y') p x y)
          → Begins row d need at (parts (suc k) x' y') p x y
      by true q c u ih =
          let none : head_at at bad ≡ Some (Kids p x y n) = rw (gone row at (leb-true (length row) at q)) at e in
          absurd (clash cc)
      by false q false u ih =
          let none : head_at at bad ≡ Some (Kids p x y n) = rw (here row at (leb-false (length row) at q), u) at e in
          absurd (clash cc)
      by false q true u ih =
          let inside = leb-false (length row) at q in
          let named : head_at at (add_name (get_or row at 0) (names k x' y' (drop (at + 1) row))) ≡ Some (Kids p x y n) = rw (here row at inside, u) at e in
          let (m, g) = after-name at (get_or row at 0) n (names k x' y' (drop (at + 1) row)) named in
          let less = least-name k x' y' in
          one-before at (parts (suc k) x' y') (parts k x' y') refl (rw u) inside (omega arith) (ih m g)

  -- own words, in which the least count takes the fewest words
  own-begin : (o : Own) → Fine (next_of o) → (at n : ℕ) → head_at at (read o (drop at row)) ≡ Some (Kids p x y n) → p + (least d (parts 0 x y) + need) ≤ 8192 → Begins row d need at (next_of o) p x y
  unfolding head_at next_of read least is_own after_word
  own-begin (ask lo hi k) (fine-word u v f) at n e h = by (word_at lo hi (drop at row)) refl (λ w g. own-begin (k w) (f w) (at + 1) n g h)
    where
      by : (a : Option ℕ) → word_at lo hi (drop at row) ≡ a → ((w : ℕ) → head_at (at + 1) (read (k w) (drop (at + 1) row)) ≡ Some (Kids p x y n) → Begins row d need (at + 1) (next_of (k w)) p x y)
          → Begins row d need at (word lo hi (λ w. next_of (k w))) p x y
      by None q ih = let none = ask-stop lo hi k row at q in absurd (clash cc)
      by (Some w) q ih =
          let inside = asked_in lo hi row at w q in
          let (ws, g, b) = word-is lo hi (drop at row) w q in
          let same : get_or row at 0 ≡ w = let z = here row at inside in cc in
          let fewest = v w d b in
          one-before at (word lo hi (λ w. next_of (k w))) (next_of (k w)) refl (rw (same, b)) inside (omega arith) (ih w (sym (ask-go lo hi k row at w q) ∙ e))
  own-begin (kids k x' y') f at n e h = names-begin k x' y' at n e h
  own-begin (flags k x' y') f at n e h = absurd (clash cc)
  own-begin wrong f at n e h = absurd (clash cc)

pub starts-at : (row : List ℕ) (s : Sort) (t d need at p x y n : ℕ) → head_at at (read (own s t) (drop at row)) ≡ Some (Kids p x y n) → p + (least d (parts 0 x y) + need) ≤ 8192 → Begins row d need at (next_of (own s t)) p x y
starts-at row s t d need at p x y n e h = own-begin row d need p x y (own s t) (own-fine s t) at n e h
