-- What is printed for an input, line by line: the next line is answered, then the rest of the input. Assumes nothing.
use mathlib.Core.Path.{◌≡◌, refl, sym, ◌∙◌}
use mathlib.Core.Bool.{Bool, true, false}
use mathlib.Core.List.{List, [], ◌∷◌, ◌++◌, append_assoc, append-nil}
use Prim.Native.Nat.{ℕ, suc, ◌+◌, ◌≤◌, ◌<◌}
use native.Mathlib.Omega.{arith}
use borrow.Author.Tests.{lt-leb}
use lib.Dec.{eqb}
use lib.ListN.{length, take, drop, length-append}
use lib.Seq.{drop-length}
use Rattle.tree.specs.Form.{pick}
use Rattle.form.proofs.DecodeLaws.{clash}
use Rattle.spell.specs.Spell.{print_no}
use Rattle.line.specs.Line.{read_line}
use Rattle.reply.specs.Reply.{line_outcome, reply_outcome}
use Rattle.reply.specs.Split.{newline_in}
use Rattle.turns.specs.Output.{with_newline, answer_to, output_after, output_past, output_of}
use Rattle.turns.specs.Turn.{Piece, piece, none}
use Rattle.turns.proofs.PieceLaws.{Case, is-line, is-skipped, is-long, is-dropped, is_last, is-empty, is-unread}

-- up to the first newline, and past it
pub after_line : (acc bs more : List ℕ) → newline_in bs < length bs
    → output_after acc (bs ++ more) ≡ answer_to (acc ++ take (newline_in bs) bs) ++ output_after [] (drop (newline_in bs + 1) bs ++ more)
unfolding newline_in output_after
after_line acc [] more h = absurd (omega arith)
after_line acc (b ∷ bs) more h = go (eqb b 10) h (after_line (acc ++ (b ∷ [])) bs more)
  where
    go : (z : Bool) → pick z 0 (suc (newline_in bs)) < suc (length bs)
        → (newline_in bs < length bs → output_after (acc ++ (b ∷ [])) (bs ++ more) ≡ answer_to ((acc ++ (b ∷ [])) ++ take (newline_in bs) bs) ++ output_after [] (drop (newline_in bs + 1) bs ++ more))
        → pick z (answer_to acc ++ output_after [] (bs ++ more)) (output_after (acc ++ (b ∷ [])) (bs ++ more))
        ≡ answer_to (acc ++ take (pick z 0 (suc (newline_in bs))) (b ∷ bs)) ++ output_after [] (drop (pick z 0 (suc (newline_in bs)) + 1) (b ∷ bs) ++ more)
    go true h k = rw (append-nil acc)
    go false h k = let e : suc (newline_in bs) + 1 ≡ suc (newline_in bs + 1) = omega arith in rw e (k (omega arith) ∙ rw (append_assoc acc (b ∷ []) (take (newline_in bs) bs)))

pub past-line : (bs more : List ℕ) → newline_in bs < length bs → output_past (bs ++ more) ≡ output_after [] (drop (newline_in bs + 1) bs ++ more)
unfolding newline_in output_past
past-line [] more h = absurd (omega arith)
past-line (b ∷ bs) more h = go (eqb b 10) h (past-line bs more)
  where
    go : (z : Bool) → pick z 0 (suc (newline_in bs)) < suc (length bs) → (newline_in bs < length bs → output_past (bs ++ more) ≡ output_after [] (drop (newline_in bs + 1) bs ++ more))
        → pick z (output_after [] (bs ++ more)) (output_past (bs ++ more)) ≡ output_after [] (drop (pick z 0 (suc (newline_in bs)) + 1) (b ∷ bs) ++ more)
    go true h k = refl
    go false h k = let e : suc (newline_in bs) + 1 ≡ suc (newline_in bs + 1) = omega arith in rw e (k (omega arith))

-- bytes without a newline
pub after_none : (acc bs more : List ℕ) → length bs ≤ newline_in bs → output_after acc (bs ++ more) ≡ output_after (acc ++ bs) more
unfolding newline_in output_after
after_none acc [] more h = rw (append-nil acc)
after_none acc (b ∷ bs) more h = go (eqb b 10) h (after_none (acc ++ (b ∷ [])) bs more)
  where
    go : (z : Bool) → suc (length bs) ≤ pick z 0 (suc (newline_in bs)) → (length bs ≤ newline_in bs → output_after (acc ++ (b ∷ [])) (bs ++ more) ≡ output_after ((acc ++ (b ∷ [])) ++ bs) more)
        → pick z (answer_to acc ++ output_after [] (bs ++ more)) (output_after (acc ++ (b ∷ [])) (bs ++ more)) ≡ output_after (acc ++ (b ∷ bs)) more
    go true h k = absurd (omega arith)
    go false h k = k (omega arith) ∙ rw (append_assoc acc (b ∷ []) bs)

pub past-none : (bs more : List ℕ) → length bs ≤ newline_in bs → output_past (bs ++ more) ≡ output_past more
unfolding newline_in output_past
past-none [] more h = refl
past-none (b ∷ bs) more h = go (eqb b 10) h (past-none bs more)
  where
    go : (z : Bool) → suc (length bs) ≤ pick z 0 (suc (newline_in bs)) → (length bs ≤ newline_in bs → output_past (bs ++ more) ≡ output_past more)
        → pick z (output_after [] (bs ++ more)) (output_past (bs ++ more)) ≡ output_past more
    go true h k = absurd (omega arith)
    go false h k = k (omega arith)

-- a line that is too long is answered the same whatever follows
pub long-answer : (line : List ℕ) → 65535 < length line → answer_to line ≡ with_newline (print_no 8 0 131072)
unfolding answer_to reply_outcome line_outcome read_line
long-answer line h = rw (lt-leb (length line) 65535 h)

long-more : (acc : List ℕ) (b : ℕ) → 65535 < length acc → answer_to (acc ++ (b ∷ [])) ≡ answer_to acc
long-more acc b h = long-answer (acc ++ (b ∷ [])) (rw length-append (omega arith)) ∙ sym (long-answer acc h)

pub after-long : (acc more : List ℕ) → 65535 < length acc → output_after acc more ≡ answer_to acc ++ output_past more
unfolding output_after output_past
after-long [] [] h = absurd (omega arith)
after-long (a ∷ acc) [] h = sym (append-nil (answer_to (a ∷ acc)))
after-long acc (b ∷ more) h = go (eqb b 10) (after-long (acc ++ (b ∷ [])) more (rw length-append (omega arith)))
  where
    go : (z : Bool) → output_after (acc ++ (b ∷ [])) more ≡ answer_to (acc ++ (b ∷ [])) ++ output_past more
        → pick z (answer_to acc ++ output_after [] more) (output_after (acc ++ (b ∷ [])) more) ≡ answer_to acc ++ pick z (output_after [] more) (output_past more)
    go true k = refl
    go false k = k ∙ rw (long-more acc b h)

-- a piece is what is printed next
abbrev pub Keeps : Bool → List ℕ → List ℕ → Piece → Type 0
Keeps s bs more (piece out n s') = out ++ output_of s' (drop n bs ++ more) ≡ output_of s (bs ++ more)
Keeps s bs more none = Unit {0}

module _ (bs more : List ℕ) where
  -- the bytes at the end of the input are its last line
  last-keeps : (bs : List ℕ) → length bs ≤ newline_in bs → 1 ≤ length bs → more ≡ [] → answer_to bs ++ output_after [] (drop (length bs) bs ++ more) ≡ output_after [] (bs ++ more)
  unfolding output_after
  last-keeps [] h l e = absurd (omega arith)
  last-keeps (b ∷ bs) h l e = rw (e, drop-length (b ∷ bs), append-nil (answer_to (b ∷ bs))) (sym (after_none [] (b ∷ bs) [] h))

  pub piece-keeps : {s e : Bool} {p : Piece} → Case bs s e p → (e ≡ true → more ≡ []) → Keeps s bs more p
  piece-keeps (is-line h) k = sym (after_line [] bs more h)
  piece-keeps (is-skipped h) k = sym (past-line bs more h)
  piece-keeps (is-long h l) k = rw (drop-length bs) (sym (after_none [] bs more h ∙ after-long bs more l))
  piece-keeps (is-dropped h) k = rw (drop-length bs) (sym (past-none bs more h))
  piece-keeps (is_last h l) k = last-keeps bs h l (k refl)
  piece-keeps (is-empty h) k = tt
  piece-keeps (is-unread h) k = tt

-- where nothing is left to answer and the input has ended, nothing more is printed
nothing-printed : (s : Bool) (bs : List ℕ) → length bs ≡ 0 → output_of s bs ≡ []
unfolding output_after output_past
nothing-printed true [] h = refl
nothing-printed false [] h = refl
nothing-printed s (b ∷ bs) h = absurd (omega arith)

pub none_left : {bs : List ℕ} {s e : Bool} {p : Piece} → Case bs s e p → e ≡ true → p ≡ none → output_of s bs ≡ []
none_left (is-line h) k q = absurd (clash cc)
none_left (is-skipped h) k q = absurd (clash cc)
none_left (is-long h l) k q = absurd (clash cc)
none_left (is-dropped h) k q = absurd (clash cc)
none_left (is_last h l) k q = absurd (clash cc)
none_left {bs} {s} (is-empty h) k q = nothing-printed s bs h
none_left (is-unread h) k q = absurd (clash cc)
