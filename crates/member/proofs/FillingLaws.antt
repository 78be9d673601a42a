-- The names that are kept round a body, by the words of the table. Assumes nothing.
use mathlib.Core.Path.{◌≡◌, refl, ◌∙◌}
use mathlib.Core.List.{List, [], ◌∷◌, ◌++◌, append_assoc}
use Prim.Native.Nat.{ℕ, zero, suc, ◌+◌, ◌≤◌, ◌<◌, ◌-◌}
use native.Mathlib.Numerals.{add-one}
use native.Mathlib.Omega.{arith}
use lib.ListN.{length, get_or, take, drop, set}
use lib.Seq.{take-suc-set}
use Rattle.form.proofs.HeadLaws.{here, gone}
use Rattle.replace.specs.Internal.Pieces.{kept_words}
use Rattle.member.specs.Internal.Member.{front_of}
use mathlib.Core.Bool.{Bool, true, false, cond, not}
use native.Mathlib.Nat.{zero-add}
use lib.Dec.{ltb, eqb}
use Rattle.tree.specs.Form.{pick}
use Rattle.std.specs.Prelude.{Some, None, unwrap_or}
use Rattle.std.specs.List.{position, position_or_len}
use Rattle.std.proofs.lemmas.Bool.Decides.{nat_tests}
use Rattle.reader.specs.declared.lists.Table.{Table}
use Rattle.replace.specs.Internal.Partial.{partial_row}
use Rattle.replace.proofs.BuildLaws.{rest_part}

-- words before the first that is not 0
moved : (i k n : ℕ) → cond (ltb k n) (suc i + k) 0 ≡ cond (ltb (1 + k) (suc n)) (i + (1 + k)) 0
moved i k n = grind (arith, nat_tests)

first : (i n : ℕ) → i ≡ cond (ltb 0 (suc n)) (i + 0) 0
first i n = grind (arith, nat_tests)

abbrev pub some_word : ℕ → Bool
some_word w = not (eqb w 0)

fronts-from : (i : ℕ) (ws : List ℕ) → front_of i ws ≡ cond (ltb (position_or_len some_word ws) (length ws)) (i + position_or_len some_word ws) 0
unfolding front_of
fronts-from i [] = refl
fronts-from i (w ∷ ws) = go (eqb w 0) (position_or_len some_word ws) (fronts-from (suc i) ws)
  where
    go : (b : Bool) (k : ℕ) → front_of (suc i) ws ≡ cond (ltb k (length ws)) (suc i + k) 0
        → pick b (front_of (suc i) ws) i ≡ cond (ltb (cond (not (not b)) (1 + k) 0) (suc (length ws))) (i + cond (not (not b)) (1 + k) 0) 0
    go true k h = h ∙ moved i k (length ws)
    go false k h = first i (length ws)

pub fronts : (ws : List ℕ) → front_of 0 ws ≡ unwrap_or (position some_word ws) 0
fronts ws = fronts-from 0 ws ∙ go (ltb (position_or_len some_word ws) (length ws))
  where
    go : (b : Bool) → cond b (0 + position_or_len some_word ws) 0 ≡ unwrap_or (cond b (Some (position_or_len some_word ws)) None) 0
    go true = zero-add (position_or_len some_word ws)
    go false = refl

-- names whose word is 0
word-zero : (w n : ℕ) (ws ns : List ℕ) → w ≡ 0 → kept_words (w ∷ ws) (n ∷ ns) ≡ n ∷ kept_words ws ns
unfolding kept_words
word-zero w n ws ns e = rw e

word_some : (w n : ℕ) (ws ns : List ℕ) → (w ≡ 0 → ⊥) → kept_words (w ∷ ws) (n ∷ ns) ≡ kept_words ws ns
unfolding kept_words
word_some zero n ws ns e = absurd (e refl)
word_some (suc w) n ws ns e = refl

module _ (ws ns : List ℕ) (i : ℕ) (low : i < length ws) (same : length ws ≡ length ns) where
  pub keep-pass : (get_or ws i 0 ≡ 0 → ⊥) → kept_words (drop i ws) (drop i ns) ≡ kept_words (drop (i + 1) ws) (drop (i + 1) ns)
  keep-pass e = rw (here ws i low, here ns i (omega arith)) (word_some (get_or ws i 0) (get_or ns i 0) (drop (i + 1) ws) (drop (i + 1) ns) e)

  pub keep-more : get_or ws i 0 ≡ 0 → (out : List ℕ) (p : ℕ) → p < length out
      → take p out ++ kept_words (drop i ws) (drop i ns) ≡ take (p + 1) (set out p (get_or ns i 0)) ++ kept_words (drop (i + 1) ws) (drop (i + 1) ns)
  keep-more e out p h =
      rw (here ws i low, here ns i (omega arith), word-zero (get_or ws i 0) (get_or ns i 0) (drop (i + 1) ws) (drop (i + 1) ns) e, add-one p, take-suc-set out p (get_or ns i 0) h, append_assoc)

pub keep-end : (ws ns : List ℕ) (i : ℕ) → length ws ≤ i → kept_words (drop i ws) (drop i ns) ≡ []
unfolding kept_words
keep-end ws ns i h = rw (gone ws i h)

-- the names that stay, as a part of the kept ones
pub kept_same : (kept : List ℕ) (j : ℕ) (t : Table) (row lm body marks : List ℕ) (room : ℕ)
    → partial_row false 852 (take j kept) (take (length kept - j) (drop j kept)) t 0 row lm body marks room ≡ partial_row false 852 (take j kept) (drop j kept) t 0 row lm body marks room
kept_same kept j t row lm body marks room = rw (rest_part kept j)
