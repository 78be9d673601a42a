use mathlib.Core.Path.{ap, sym, ◌∙◌}
use Rattle.places.specs.Places.{or_kept}
use Rattle.places.proofs.PlacesLaws.{pred-form, offer-long, offer-missing, offer-many, offer-none, offer-not, offer-is}
use Rattle.places.proofs.replacements.Replacements.check.Goals as goal

pub returns-then-row-gt-WORDS : goal.returns-then-row-gt-WORDS
returns-then-row-gt-WORDS c = c.refused.ensures ∙ ap (or_kept c.args.self) (offer-long c.args.self c.args.row.now c.if-row-gt-WORDS.true)

pub returns-then-not-is_form : goal.returns-then-not-is_form
returns-then-not-is_form c = c.refused-then-not-is_form.ensures ∙ ap (or_kept c.args.self) (offer-missing c.args.self c.args.row.now c.if-row-gt-WORDS.false _ c.is_form.ensures c.if-not-is_form.true _ c.broken_at.ensures)

pub returns-then-self-gt-LIMIT : goal.returns-then-self-gt-LIMIT
returns-then-self-gt-LIMIT c = c.refused-then-self-gt-LIMIT.ensures ∙ ap (or_kept c.args.self) (offer-many c.args.self c.args.row.now c.if-row-gt-WORDS.false (pred-form _ _ c.is_form.ensures c.if-not-is_form.false) c.if-self-gt-LIMIT.true)

pub returns-in_default : goal.returns-in_default
returns-in_default c = c.refused-in_default.ensures ∙ ap (or_kept c.args.self) (offer-none c.args.self c.args.row.now c.if-row-gt-WORDS.false (pred-form _ _ c.is_form.ensures c.if-not-is_form.false) c.if-self-gt-LIMIT.false (sym c.equality_of.ensures ∙ c.in_default.is))

pub returns-in_default-match_replacement : goal.returns-in_default-match_replacement
returns-in_default-match_replacement c = c.refused-in_default-match_replacement.ensures ∙ ap (or_kept c.args.self) (offer-not c.args.self c.args.row.now c.if-row-gt-WORDS.false (pred-form _ _ c.is_form.ensures c.if-not-is_form.false) c.if-self-gt-LIMIT.false _ (sym c.equality_of.ensures ∙ c.in-Some.is) (sym c.match_replacement.ensures ∙ c.in_default-match_replacement.is))

pub offer-requires : goal.offer-requires
offer-requires c =
    let v = offer-is c.args.self c.args.row.now c.if-row-gt-WORDS.false (pred-form _ _ c.is_form.ensures c.if-not-is_form.false) c.if-self-gt-LIMIT.false _ (sym c.equality_of.ensures ∙ c.in-Some.is) _ (sym c.match_replacement.ensures ∙ c.in-Some-match_replacement.is) in
    (c.if-self-gt-LIMIT.false, c.if-row-gt-WORDS.false, v.1, v.2)

pub returns : goal.returns
returns c = c.offer.ensures ∙ ap (or_kept c.args.self) (offer-is c.args.self c.args.row.now c.if-row-gt-WORDS.false (pred-form _ _ c.is_form.ensures c.if-not-is_form.false) c.if-self-gt-LIMIT.false _ (sym c.equality_of.ensures ∙ c.in-Some.is) _ (sym c.match_replacement.ensures ∙ c.in-Some-match_replacement.is)).0
