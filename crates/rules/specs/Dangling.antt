-- The dangling indices of a form, ascending and each once; and the answer of the call that writes them.
use Rattle.std.specs.Prelude.{Bool, true, false, ℕ, ltb, eqb, leb, length}
use mathlib.Core.List.{List, [], ◌∷◌, ◌++◌, foldl}
use Rattle.tree.specs.Form.{Form, pick}
use Rattle.form.specs.Answer.{Outcome, answer, with_form, needs}
use Rattle.form.specs.declared.answer.Kind.TheVariants.{Either}
use Rattle.rules.specs.Walk.{Outer, named, dangling, collect, each}
use Rattle.form.specs.declared.answer.Refusal.TheVariants.{OutputTooShort}

abbrev pub index_of : ℕ → Outer → List ℕ
index_of k = elim [ named m ↦ [] | dangling j ↦ j ∷ [] ]

abbrev pub insert : ℕ → List ℕ → List ℕ
insert i [] = i ∷ []
insert i (j ∷ js) = let later = j ∷ insert i js in pick (ltb i j) (i ∷ j ∷ js) (pick (eqb i j) (j ∷ js) later)

abbrev pub insert_all : List ℕ → List ℕ → List ℕ
insert_all js is = foldl (λ set i. insert i set) js is

unfoldable pub dangling_set : Form → List ℕ
dangling_set f = insert_all [] (collect [] ◌++◌ index_of 0 f)

-- nothing dangles
abbrev pub is_named : ℕ → Outer → Bool
is_named k = elim [ named m ↦ true | dangling j ↦ false ]

unfoldable pub closed : Form → Bool
closed f = each is_named 0 f

unfoldable pub dangling_outcome : List ℕ → ℕ → Outcome
dangling_outcome row room = with_form Either row (λ s f. needs OutputTooShort (leb (length (dangling_set f)) room) (answer (dangling_set f)))
