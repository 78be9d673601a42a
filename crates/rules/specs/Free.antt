-- Free substitution: each name of the list, where it is free, becomes its expression lifted by the depth.
use Rattle.std.specs.Prelude.{List, [], ◌∷◌, map, ℕ, eqb}
use Rattle.tree.specs.Form.{free, bound, Form, leaf, pick}
use Rattle.form.specs.Lists.{Place, kept, filled, Entry, entry, word_of, good_names}
use Rattle.form.specs.Answer.{Outcome, with_work, with_form, with_list, needs, finish}
use Rattle.form.specs.declared.answer.Kind.TheVariants.{Either}
use Rattle.form.specs.declared.answer.ListKind.TheVariants.{Pairs}
use Rattle.rules.specs.Walk.{Outer, named, dangling, subst}
use Rattle.form.specs.declared.answer.Refusal.TheVariants.{BadNames}

abbrev pub or_name : ℕ → Place → Form
or_name m = elim [ kept ↦ leaf (free m) | filled e ↦ e ]

-- the list is searched from its front
abbrev pub seek : List Entry → ℕ → Form
seek [] m = leaf (free m)
seek (entry n p ∷ es) m = pick (eqb n m) (or_name m p) (seek es m)

abbrev pub free_for : List Entry → Outer → Form
free_for es = elim [ named m ↦ seek es m | dangling j ↦ leaf (bound j) ]

unfoldable pub substitute : List Entry → Form → Form
substitute es f = subst (free_for es) f

unfoldable pub free_outcome : List ℕ → List ℕ → ℕ → ℕ → Outcome
free_outcome list row work room =
    with_work work (with_form Either row (λ s f. with_list Pairs list (λ es. needs BadNames (good_names (map word_of es)) (finish s room (substitute es f)))))
