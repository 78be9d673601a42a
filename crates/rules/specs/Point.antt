-- One point: a quantified predicate is reduced by the first equality that its body offers.
use Rattle.std.specs.Prelude.{Bool, List, [], ℕ, eqb, length}
use Rattle.std.proofs.Math.Option.{Option, none as absent, some}
use Rattle.tree.specs.Form.{Form, node, none, pick}
use Rattle.tree.specs.Tag.{pred}
use Rattle.form.specs.Answer.{Outcome, stop, with_work, with_form, finish}
use Rattle.form.specs.declared.answer.Kind.TheVariants.{Predicate}
use Rattle.rules.specs.Fill.{Decl, Quantified, quantifier, other, quantified}
use Rattle.rules.specs.Replacement.{taken, nothing}
use Rattle.rules.specs.Scan.{Scan, scanned, scan}
use Rattle.rules.specs.Partial.{no_places, set_place, instantiate_partial}
use Rattle.form.specs.declared.answer.Refusal.TheVariants.{NothingToRewrite}

-- the polarity of the body: true under 852, false under 851
abbrev pub polarity : ℕ → Bool
polarity t = eqb t 852

-- an emptied body
abbrev pub rest_of : Bool → Option Form → Form
rest_of b = elim [ some f ↦ f | absent ↦ node (pick b 610 611) [] [] none ]

abbrev pub reduce : ℕ → List Decl → Scan → Option Form
reduce t ns (scanned nothing g) = absent
reduce t ns (scanned (taken i e) g) =
    some (instantiate_partial t ns (set_place (length ns) i e (no_places (length ns))) (rest_of (polarity t) g))

-- the reduced form, if an equality is taken
abbrev pub reduce_quantified : Quantified → Option Form
reduce_quantified = elim [ quantifier t ns f ↦ reduce t ns (scan (length ns) (polarity t) f) | other ↦ absent ]

unfoldable pub one_point : Form → Option Form
one_point f = reduce_quantified (quantified f)

-- refused where there is nothing to rewrite
abbrev pub of_result : ℕ → Option Form → Outcome
of_result room = elim [ some g ↦ finish pred room g | absent ↦ stop NothingToRewrite ]

unfoldable pub point_outcome : List ℕ → ℕ → ℕ → Outcome
point_outcome row work room = with_work work (with_form Predicate row (λ s f. of_result room (one_point f)))
