-- The dangling set by flags, one for each index: what the loops do.
use Rattle.std.specs.Prelude.{◌≡◌, Bool, true, false, List, [], ◌∷◌, ℕ, suc, ◌-◌, ◌≤◌, ltb, eqb, leb, length, set, replicate}
use Rattle.tree.specs.Form.{pick}
use Rattle.form.specs.Answer.{Outcome, answer, needs}
use Rattle.rules.specs.Dangling.{insert_all}
use Rattle.shift.specs.Internal.Items.{items, rewritten, all_items, item_in}
use Rattle.shift.specs.declared.items.Item.{Item}
use Rattle.shift.specs.declared.items.Item.TheVariants.{Plain, Ident}
use Rattle.form.specs.declared.answer.Refusal.TheVariants.{OutputTooShort}

-- the index of an item that dangles
unfoldable pub index_words : Item → List ℕ
index_words (Plain w) = []
index_words (Ident k t v) = pick (eqb t 2) (pick (ltb v k) [] ((v - k) ∷ [])) []

unfoldable pub flag_all : List Bool → List ℕ → List Bool
flag_all fl [] = fl
flag_all fl (i ∷ is) = flag_all (set fl i true) is

-- the place i, if its flag is set; the places of all flags that are set, from i on
unfoldable pub flag_words : ℕ → Bool → List ℕ
flag_words i false = []
flag_words i true = i ∷ []

unfoldable pub selected : ℕ → List Bool → List ℕ
selected i [] = []
selected i (false ∷ fl) = selected (suc i) fl
selected i (true ∷ fl) = i ∷ selected (suc i) fl

pub record Flagging (row marks : List ℕ) (flags : List Bool) : Type 0 where
  pub clear : flags ≡ replicate (length flags) false
  pub enough : all_items (item_in 0 (length flags)) (items row marks) ≡ true
  pub few : length flags ≤ 65536

unfoldable pub set_words : List ℕ → List ℕ → ℕ → Outcome
set_words row marks room =
    let set = insert_all [] (rewritten index_words (items row marks)) in
    needs OutputTooShort (leb (length set) room) (answer set)
