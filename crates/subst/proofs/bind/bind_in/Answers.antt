use mathlib.Core.Path.{refl, sym, ◌∙◌}
use Rattle.shift.proofs.ItemLaws.{not_yes, not-no}
use Rattle.shift.proofs.CheckedLaws.{refused, refused-up, passed, checked-fresh}
use Rattle.subst.proofs.BindLaws.{good-few, bind-refused, bind-long, bind-names, bind-row}
use Rattle.tree.proofs.Pairs.{both}
use Rattle.tree.proofs.Residual.{exit-with}
use Rattle.subst.proofs.bind.bind_in.Goals as goal

pub returns-in_err-mark : goal.returns-in_err-mark
returns-in_err-mark c = both (λ v w. record { value = v; out_after = w }) (refused-up _ _ _ _ (exit-with c.from_residual.ensures.1) (bind-refused _ _ _ _ _ c.mark.ensures.value c.in_err-mark.was))

pub returns-then-names-gt-WORDS : goal.returns-then-names-gt-WORDS
returns-then-names-gt-WORDS c = both (λ v w. record { value = v; out_after = w }) (refused _ _ _ _ (bind-long _ _ _ _ _ (checked-fresh _ _ _ _ c.requires _ _ c.mark.ensures.value c.in_ok-mark.was c.mark.ensures.marked) c.if-names-gt-WORDS.true) refl)

pub returns-then-not-good_names : goal.returns-then-not-good_names
returns-then-not-good_names c = both (λ v w. record { value = v; out_after = w }) (refused _ _ _ _ (bind-names _ _ _ _ _ (checked-fresh _ _ _ _ c.requires _ _ c.mark.ensures.value c.in_ok-mark.was c.mark.ensures.marked) c.if-names-gt-WORDS.false (sym c.good_names.ensures ∙ not_yes _ c.if-not-good_names.true-raw)) refl)

pub bind_marked-requires : goal.bind_marked-requires
bind_marked-requires c = good-few _ (sym c.good_names.ensures ∙ not-no _ c.if-not-good_names.false-raw)

pub returns : goal.returns
returns c = both (λ v w. record { value = v; out_after = w }) (passed _ _ _ _ _ (bind-row _ _ _ _ _ (checked-fresh _ _ _ _ c.requires _ _ c.mark.ensures.value c.in_ok-mark.was c.mark.ensures.marked) c.requires.enough c.if-names-gt-WORDS.false (sym c.good_names.ensures ∙ not-no _ c.if-not-good_names.false-raw)) (c.bind_marked.ensures.value, c.bind_marked.ensures.out_after))
