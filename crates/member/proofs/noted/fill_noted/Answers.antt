use mathlib.Core.Path.{refl}
use Rattle.member.proofs.NotedRows.{set-filling, flagged-part, flagged-names}
use Rattle.member.proofs.noted.fill_noted.Goals as goal

pub returns-then-row-set-ne-COMPREHENSION_SET : goal.returns-then-row-set-ne-COMPREHENSION_SET
unfolding set-filling
returns-then-row-set-ne-COMPREHENSION_SET c = record { value = λ x y. c.fill_flagged.ensures.value x.decls (flagged-part x c.requires.2 c.if-row-set-ne-COMPREHENSION_SET.true) (set-filling x y); out_after = λ x y. c.fill_flagged.ensures.out_after x.decls (flagged-part x c.requires.2 c.if-row-set-ne-COMPREHENSION_SET.true) (set-filling x y) }

pub returns : goal.returns
unfolding set-filling
returns c = record { value = λ x y. c.fill_flagged-2.ensures.value x.decls (flagged-names x c.requires.2 c.if-row-set-ne-COMPREHENSION_SET.false _ _ _ refl c.flag_names-e.ensures.value c.flag_names-e.ensures.out_after c.flag_names-e.auto.out) (set-filling x y); out_after = λ x y. c.fill_flagged-2.ensures.out_after x.decls (flagged-names x c.requires.2 c.if-row-set-ne-COMPREHENSION_SET.false _ _ _ refl c.flag_names-e.ensures.value c.flag_names-e.ensures.out_after c.flag_names-e.auto.out) (set-filling x y) }

pub fill_flagged-requires : goal.fill_flagged-requires
fill_flagged-requires c = (c.requires.0.decls, flagged-part c.requires.0 c.requires.2 c.if-row-set-ne-COMPREHENSION_SET.true, set-filling c.requires.0 c.requires.1)

pub fill_flagged-requires-2 : goal.fill_flagged-requires-2
fill_flagged-requires-2 c = (c.requires.0.decls, flagged-names c.requires.0 c.requires.2 c.if-row-set-ne-COMPREHENSION_SET.false _ _ _ refl c.flag_names-e.ensures.value c.flag_names-e.ensures.out_after c.flag_names-e.auto.out, set-filling c.requires.0 c.requires.1)
