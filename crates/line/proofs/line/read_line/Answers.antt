use mathlib.Core.Path.{refl}
use mathlib.Core.Logic.{inl, inr}
use Rattle.tree.proofs.Pairs.{both}
use Rattle.rules.specs.declared.command.Args.TheVariants.{Nothing, Offset, Names, Pairs, Places}
use Rattle.spell.specs.Put.{put}
use Rattle.line.specs.Line.{args, list_words}
use Rattle.line.proofs.LineLaws.{line-long, line-unknown, line-args}
use Rattle.line.proofs.line.read_line.Goals as goal

pub returns-then-line-gt65535 : goal.returns-then-line-gt65535
returns-then-line-gt65535 c = both (λ u r0. both (λ v w. record { value = u; list_after = v; form_after = w }) r0) (line-long _ _ _ c.if-line-gt65535.true)

pub returns-in_err-start : goal.returns-in_err-start
returns-in_err-start c = rw c.from_residual.ensures (both (λ u r0. both (λ v w. record { value = u; list_after = v; form_after = w }) r0) (line-unknown _ _ _ c.if-line-gt65535.false c.read_head.ensures c.in_err-start.was))

pub returns-in-Nothing : goal.returns-in-Nothing
unfolding args list_words put
returns-in-Nothing c = both (λ u r0. both (λ v w. record { value = u; list_after = v; form_after = w }) r0) (line-args _ _ _ c.if-line-gt65535.false c.read_head.ensures _ c.in_ok-start.was Nothing _ c.args_of.ensures c.in-Nothing.is _ _ _ c.read_form.ensures refl)

pub returns-in-Offset : goal.returns-in-Offset
unfolding args list_words put
returns-in-Offset c = both (λ u r0. both (λ v w. record { value = u; list_after = v; form_after = w }) r0) (line-args _ _ _ c.if-line-gt65535.false c.read_head.ensures _ c.in_ok-start.was Offset _ c.args_of.ensures c.in-Offset.is _ _ _ c.read_signed.ensures refl)

pub returns-in-Names : goal.returns-in-Names
unfolding args list_words put
returns-in-Names c =
    elim c.in-Names.is [
      | inl e ↦ both (λ u r0. both (λ v w. record { value = u; list_after = v; form_after = w }) r0) (line-args _ _ _ c.if-line-gt65535.false c.read_head.ensures _ c.in_ok-start.was Names _ c.args_of.ensures e _ _ _ c.read_listed.ensures.form_read c.read_listed.ensures.list_after)
      | inr e ↦ both (λ u r0. both (λ v w. record { value = u; list_after = v; form_after = w }) r0) (line-args _ _ _ c.if-line-gt65535.false c.read_head.ensures _ c.in_ok-start.was Pairs _ c.args_of.ensures e _ _ _ c.read_listed.ensures.form_read c.read_listed.ensures.list_after)
    ]

pub returns-in-Places : goal.returns-in-Places
unfolding args list_words put
returns-in-Places c = both (λ u r0. both (λ v w. record { value = u; list_after = v; form_after = w }) r0) (line-args _ _ _ c.if-line-gt65535.false c.read_head.ensures _ c.in_ok-start.was Places _ c.args_of.ensures c.in-Places.is _ _ _ c.read_listed-in-Places.ensures.form_read c.read_listed-in-Places.ensures.list_after)
