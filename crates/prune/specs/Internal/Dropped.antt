-- Declarations that a body never uses are dropped, and the indices that are left fall. Nothing here is needed to read a public contract.
use Rattle.std.specs.Prelude.{◌≡◌, true, not, List, ◌++◌, ℕ, zero, suc, ◌-◌, ◌≤◌, ◌<◌, leb, ltb, eqb, length, get_or, drop}
use Rattle.tree.specs.Form.{pick}
use Rattle.form.specs.Answer.{Outcome, answer, needs}
use Rattle.shift.specs.Internal.Items.{items, apart, words_of, rewritten}
use Rattle.shift.specs.declared.items.Item.{Item}
use Rattle.shift.specs.declared.items.Item.TheVariants.{Plain, Ident}
use Rattle.replace.specs.Internal.Pieces.{filled_words, kept_head}
use Rattle.rules.specs.Prune.{prune_outcome}
use Rattle.decls.specs.Internal.Noted.{noted_head}
use Rattle.decls.specs.Internal.Used.{used_words}
use Rattle.form.specs.declared.answer.Refusal.TheVariants.{NothingToRewrite, OutputTooShort}

-- of the words of declarations, from the outermost on, those that are inside index j and not 0
unfoldable pub falls_at : List ℕ → ℕ → ℕ
falls_at ws j = filled_words (drop (length ws - j) ws)

-- how many of the words are inside a slot and not 0, as a table
unfoldable pub Falls : List ℕ → List ℕ → Type 0
Falls ws fs = (s : ℕ) → s ≤ length ws → get_or fs s 0 ≡ filled_words (drop s ws)

-- the word v behind a tag t whose mark is m, fallen
unfoldable pub fall_at : List ℕ → ℕ → ℕ → ℕ → ℕ
fall_at ws zero t v = v
fall_at ws (suc k) t v = let b = k - length ws in pick (eqb t 2) (pick (ltb v b) v (v - falls_at ws (v - b))) v

-- an item of the body, its index fallen by the declarations inside it whose word is not 0
unfoldable pub fall_item : List ℕ → Item → Item
fall_item ws (Plain w) = Plain w
fall_item ws (Ident k t v) = let b = k - length ws in Ident k t (pick (eqb t 2) (pick (ltb v b) v (v - falls_at ws (v - b))) v)

abbrev pub fallen_words : List ℕ → Item → List ℕ
fallen_words ws x = words_of (fall_item ws x)

-- the head of what is left, and the body without the declarations whose word is not 0; and the answer: nothing to rewrite where no word is
unfoldable pub dropped_row : List ℕ → List ℕ → List ℕ → List ℕ → List ℕ
dropped_row head ws body marks = head ++ rewritten (fallen_words ws) (items body marks)

unfoldable pub dropped_outcome : List ℕ → List ℕ → List ℕ → List ℕ → ℕ → Outcome
dropped_outcome head ws body marks room =
    needs NothingToRewrite (not (eqb (filled_words ws) 0)) (needs OutputTooShort (leb (length (dropped_row head ws body marks)) room) (answer (dropped_row head ws body marks)))

-- the head of what is left, by the first word of the row
unfoldable pub left_head : List ℕ → List ℕ → List ℕ
left_head ws row = pick (ltb (get_or row 0 0) 860) (kept_head ws row 34) (noted_head (get_or row 0 0 - 10) ws row 8192)

-- a quantified row with n declarations that was checked and marked, and whose body starts at a position: what is dropped of it by the words of the
-- declarations that the body never uses is its prune
pub record Pruning (row marks : List ℕ) (n start : ℕ) : Type 0 where
  pub few : n ≤ 32
  pub short : length row ≤ 8192
  pub long : length row ≤ length marks
  pub more : start < length row
  pub is-apart : apart n (drop start row) (drop start marks) ≡ true
  pub prunes : (ws : List ℕ) (room : ℕ) → ws ≡ used_words n (items (drop start row) (drop start marks)) → dropped_outcome (left_head ws row) ws (drop start row) (drop start marks) room ≡ prune_outcome row room
