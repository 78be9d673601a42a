-- Bind: name j of n, where it is free, becomes index n - 1 - j at its depth; dangling indices grow by n.
use Rattle.std.specs.Prelude.{List, [], ◌∷◌, ℕ, ◌+◌, eqb, length}
use Rattle.tree.specs.Form.{free, bound, Form, leaf, pick}
use Rattle.form.specs.Lists.{good_names}
use Rattle.form.specs.Answer.{Outcome, within, with_form, needs, finish}
use Rattle.form.specs.declared.answer.Kind.TheVariants.{Either}
use Rattle.rules.specs.Walk.{Outer, named, dangling, subst}
use Rattle.form.specs.declared.answer.Refusal.TheVariants.{BadNames}

abbrev pub bind_name : List ℕ → ℕ → Form
bind_name [] m = leaf (free m)
bind_name (n ∷ ns) m = pick (eqb n m) (leaf (bound (length ns))) (bind_name ns m)

abbrev pub bind_for : List ℕ → Outer → Form
bind_for ns = elim [ named m ↦ bind_name ns m | dangling j ↦ leaf (bound (length ns + j)) ]

unfoldable pub bind : List ℕ → Form → Form
bind ns f = subst (bind_for ns) f

unfoldable pub bind_outcome : List ℕ → List ℕ → ℕ → Outcome
bind_outcome names row room = with_form Either row (λ s f. within names (needs BadNames (good_names names) (finish s room (bind names f))))
