-- A body filled by the places of a table under the declarations in front and those that stay, on words. Nothing here is needed to read a
-- public contract.
use Rattle.std.specs.Prelude.{◌≡◌, Bool, not, ◌&&◌, List, [], ◌++◌, ℕ, ◌+◌, ◌≤◌, leb, eqb, length, get_or, take, drop}
use Rattle.tree.specs.Form.{pick}
use Rattle.form.specs.Answer.{Outcome, needs}
use Rattle.reader.specs.declared.lists.Table.{Table}
use Rattle.shift.specs.Internal.Items.{items, rewritten}
use Rattle.rules.specs.Split.{is_nil}
use Rattle.replace.specs.Internal.Pieces.{planned, head_words, down_plan, placed_row}
use Rattle.form.specs.declared.answer.Refusal.TheVariants.{OutOfLimits}

-- whether the body's own quantifier joins the front: nothing stays, there is a front, and the operator is the same
unfoldable pub joins : ℕ → List ℕ → List ℕ → List ℕ → Bool
joins t front stay row = is_nil stay && (not (is_nil front) && eqb (get_or row 0 0) t)

-- the words of the body's own head that leave it, and the names in them
unfoldable pub inner_end : ℕ → List ℕ → List ℕ → List ℕ → ℕ
inner_end t front stay row = pick (joins t front stay row) (2 + get_or row 1 0) 0

unfoldable pub inner_names : ℕ → List ℕ → List ℕ → List ℕ → List ℕ
inner_names t front stay row = pick (joins t front stay row) (take (get_or row 1 0) (drop 2 row)) []

abbrev pub inner_start : ℕ → ℕ
inner_start e = pick (eqb e 0) 0 2

-- a body that begins with the tag t has the head of a quantifier
pub record Inner (t : ℕ) (body : List ℕ) : Type 0 where
  pub long : get_or body 0 0 ≡ t → 2 + get_or body 1 0 ≤ length body
  pub few : get_or body 0 0 ≡ t → get_or body 1 0 ≤ 32

-- the head of the whole, and its words
abbrev pub partial_head : ℕ → List ℕ → List ℕ → List ℕ → List ℕ
partial_head t front stay row = head_words t (front ++ (stay ++ inner_names t front stay row))

abbrev pub partial_words : ℕ → List ℕ → List ℕ → Table → ℕ → List ℕ → List ℕ → List ℕ → List ℕ → List ℕ
partial_words t front stay tb d list lm row marks =
    let from = inner_end t front stay row in
    partial_head t front stay row ++ rewritten (planned (down_plan tb d) list lm) (items (drop from row) (drop from marks))

-- at most 32 names in front, 32 that stay and 32 of the body's own head, which lies in the body
abbrev pub head_fits : ℕ → ℕ → ℕ → ℕ → Bool
head_fits front stay from words = leb front 32 && (leb stay 32 && (leb from 34 && leb from words))

-- sure to be a form only under a head of at most 32 names
unfoldable pub partial_row : Bool → ℕ → List ℕ → List ℕ → Table → ℕ → List ℕ → List ℕ → List ℕ → List ℕ → ℕ → Outcome
partial_row sure t front stay tb d list lm row marks room =
    let from = inner_end t front stay row in
    let hd = partial_head t front stay row in
    needs OutOfLimits (head_fits (length front) (length stay) from (length row)) (placed_row (leb (length hd) 34 && sure) hd tb d list lm (drop from row) (drop from marks) room)
