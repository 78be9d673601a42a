-- The cases of the next piece, and what is known in each. Assumes nothing.
use mathlib.Core.Path.{◌≡◌, refl}
use mathlib.Core.Bool.{Bool, true, false}
use mathlib.Core.List.{List, [], ◌∷◌}
use Prim.Native.Nat.{ℕ, suc, ◌+◌, ◌≤◌, ◌<◌}
use native.Mathlib.Omega.{arith}
use borrow.Author.Tests.{leb-true, leb-false, ltb-true, ltb-false}
use lib.Dec.{leb, ltb, eqb}
use lib.ListN.{length, take}
use Rattle.tree.specs.Form.{pick}
use Rattle.form.proofs.DecodeLaws.{clash}
use Rattle.reply.specs.Split.{newline_in, next_of}
use Rattle.reply.specs.declared.split.Next.TheVariants.{Line, Skipped, Long, More}
use Rattle.turns.specs.Output.{answer_to}
use Rattle.turns.specs.Turn.{Piece, piece, none, of_next}

pub newline-le : (bs : List ℕ) → newline_in bs ≤ length bs
unfolding newline_in
newline-le [] = omega arith
newline-le (b ∷ bs) = go (eqb b 10) (newline-le bs)
  where
    go : (z : Bool) → newline_in bs ≤ length bs → pick z 0 (suc (newline_in bs)) ≤ suc (length bs)
    go true h = omega arith
    go false h = omega arith

-- of the bytes bs, where a line is being skipped or not, and the input has ended or not
pub data Case (bs : List ℕ) : Bool → Bool → Piece → Type 0 where
  is-line : {e : Bool} → newline_in bs < length bs → Case bs false e (piece (answer_to (take (newline_in bs) bs)) (newline_in bs + 1) false)
  is-skipped : {e : Bool} → newline_in bs < length bs → Case bs true e (piece [] (newline_in bs + 1) false)
  is-long : {e : Bool} → length bs ≤ newline_in bs → 65535 < length bs → Case bs false e (piece (answer_to bs) (length bs) true)
  is-dropped : {e : Bool} → length bs ≤ newline_in bs → Case bs true e (piece [] (length bs) true)
  is_last : length bs ≤ newline_in bs → 1 ≤ length bs → Case bs false true (piece (answer_to bs) (length bs) false)
  is-empty : {s e : Bool} → length bs ≡ 0 → Case bs s e none
  is-unread : length bs ≤ 65535 → Case bs false false none

module _ (bs : List ℕ) where
  rest-case : (s e : Bool) → length bs ≤ newline_in bs → (s ≡ false → newline_in bs ≤ 65535) → (z : Bool) → leb 1 (length bs) ≡ z → Case bs s e (of_next s e bs More)
  rest-case true e h k true q = rw q (is-dropped h)
  rest-case true e h k false q = let l = leb-false 1 (length bs) q in rw q (is-empty (omega arith))
  rest-case false true h k true q = rw q (is_last h (leb-true 1 (length bs) q))
  rest-case false true h k false q = let l = leb-false 1 (length bs) q in rw q (is-empty (omega arith))
  rest-case false false h k z q = let l = k refl in is-unread (omega arith)

  pub case-of : (s e : Bool) → Case bs s e (of_next s e bs (next_of s bs))
  unfolding next_of
  case-of s e = go s (ltb (newline_in bs) (length bs)) refl (ltb 65535 (newline_in bs)) refl
    where
      go : (s b : Bool) → ltb (newline_in bs) (length bs) ≡ b → (c : Bool) → ltb 65535 (newline_in bs) ≡ c
          → Case bs s e (of_next s e bs (pick b (pick s (Skipped (newline_in bs)) (Line (newline_in bs))) (pick s More (pick c Long More))))
      go true true p c q = is-skipped (ltb-true (newline_in bs) (length bs) p)
      go false true p c q = is-line (ltb-true (newline_in bs) (length bs) p)
      go true false p c q = rest-case true e (ltb-false (newline_in bs) (length bs) p) (λ x. absurd (clash cc)) (leb 1 (length bs)) refl
      go false false p true q = let l = ltb-true 65535 (newline_in bs) q in let m = newline-le bs in is-long (ltb-false (newline_in bs) (length bs) p) (omega arith)
      go false false p false q = rest-case false e (ltb-false (newline_in bs) (length bs) p) (λ x. ltb-false 65535 (newline_in bs) q) (leb 1 (length bs)) refl

  -- a piece passes no more bytes than there are
  pub case-passes : {s e : Bool} {p : Piece} → Case bs s e p → (out : List ℕ) (n : ℕ) (t : Bool) → p ≡ piece out n t → n ≤ length bs
  case-passes (is-line h) out n t q = let z : newline_in bs + 1 ≡ n = cc in omega arith
  case-passes (is-skipped h) out n t q = let z : newline_in bs + 1 ≡ n = cc in omega arith
  case-passes (is-long h l) out n t q = let z : length bs ≡ n = cc in omega arith
  case-passes (is-dropped h) out n t q = let z : length bs ≡ n = cc in omega arith
  case-passes (is_last h l) out n t q = let z : length bs ≡ n = cc in omega arith
  case-passes (is-empty h) out n t q = absurd (clash cc)
  case-passes (is-unread h) out n t q = absurd (clash cc)

  -- what is kept for the next read
  pub case-short : {s e : Bool} {p : Piece} → Case bs s e p → p ≡ none → length bs ≤ 65535
  case-short (is-line h) q = absurd (clash cc)
  case-short (is-skipped h) q = absurd (clash cc)
  case-short (is-long h l) q = absurd (clash cc)
  case-short (is-dropped h) q = absurd (clash cc)
  case-short (is_last h l) q = absurd (clash cc)
  case-short (is-empty h) q = omega arith
  case-short (is-unread h) q = h
