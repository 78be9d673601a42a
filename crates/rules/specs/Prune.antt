-- Prune: the declarations whose index the body never uses are dropped.
use Rattle.std.specs.Prelude.{Bool, true, not, List, [], ◌∷◌, ℕ, eqb, length}
use Rattle.tree.specs.Form.{free, Form, leaf, pick}
use Rattle.tree.specs.Tag.{pred}
use Rattle.form.specs.Lists.{Place, kept, filled}
use Rattle.form.specs.Answer.{Outcome, with_form, needs, finish}
use Rattle.form.specs.declared.answer.Kind.TheVariants.{Predicate}
use Rattle.rules.specs.Walk.{Outer, named, dangling, each}
use Rattle.rules.specs.Fill.{Decl, kept_count, fill, of_quantified, quantified}
use Rattle.form.specs.declared.answer.Refusal.TheVariants.{NotQuantified, NothingToRewrite}

abbrev pub is_not : ℕ → ℕ → Outer → Bool
is_not i k = elim [ named m ↦ true | dangling j ↦ not (eqb i j) ]

abbrev pub unused : ℕ → Form → Bool
unused i f = each (is_not i) 0 f

-- a used declaration is kept; what stands for an unused one is never read
abbrev pub used_places : List Decl → Form → List Place
used_places [] f = []
used_places (n ∷ ns) f = pick (unused (length ns) f) (filled (leaf (free 0))) kept ∷ used_places ns f

unfoldable pub prune : ℕ → List Decl → Form → Form
prune t ns f = fill t ns (used_places ns f) f

unfoldable pub prune_outcome : List ℕ → ℕ → Outcome
prune_outcome row room =
    with_form Predicate row
    (λ s f. of_quantified (λ t ns b. needs NothingToRewrite (not (eqb (kept_count (used_places ns b)) (length ns))) (finish pred room (prune t ns b))) NotQuantified (quantified f))
