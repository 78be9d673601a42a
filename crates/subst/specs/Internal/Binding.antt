-- Bind over a row and its marks: what its loops do.
use Rattle.std.specs.Prelude.{Option, Some, None, List, [], ◌∷◌, ℕ, ◌-◌, ltb, eqb, length}
use Rattle.tree.specs.Form.{pick}
use Rattle.form.specs.Answer.{Outcome}
use Rattle.shift.specs.Internal.Items.{items, words_of, rewritten, item_in, move_word, same_length}
use Rattle.form.specs.declared.answer.Refusal.TheVariants.{OutOfLimits}
use Rattle.shift.specs.declared.items.Item.{Item}
use Rattle.shift.specs.declared.items.Item.TheVariants.{Plain, Ident}

-- how many names follow the one that is sought
unfoldable pub seek_name : List ℕ → ℕ → Option ℕ
seek_name [] m = None
seek_name (n ∷ ns) m = pick (eqb n m) (Some (length ns)) (seek_name ns m)

abbrev pub spot_item : ℕ → ℕ → ℕ → Option ℕ → Item
spot_item k t v (Some b) = Ident k 2 (move_word b 0 k)
spot_item k t v None = Ident k t v

unfoldable pub bound_item : List ℕ → Item → Item
bound_item ns (Plain w) = Plain w
bound_item ns (Ident k t v) = pick (eqb t 1) (spot_item k t v (seek_name ns v)) (pick (ltb v k) (Ident k t v) (Ident k t (move_word (length ns) 0 v)))

abbrev pub bound_words : List ℕ → Item → List ℕ
bound_words ns x = words_of (bound_item ns x)

unfoldable pub bind_words : List ℕ → List ℕ → List ℕ → ℕ → Outcome
bind_words ns row marks room = same_length (item_in 0 (65536 - length ns)) (rewritten (bound_words ns) (items row marks)) OutOfLimits row marks room
