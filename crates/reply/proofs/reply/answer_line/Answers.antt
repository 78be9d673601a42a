use mathlib.Core.Path.{refl, sym, ◌∙◌}
use lib.ListN.{length}
use lib.Seq.{length-take-le}
use Rattle.shift.proofs.SignedLaws.{back}
use Rattle.tree.proofs.Residual.{exit-with}
use Rattle.reply.proofs.LateLaws.{row-holds, parts-refused, parts-passed}
use Rattle.reply.proofs.ReplyLaws.{not-enough, misspelled, held_both, command-said}
use Rattle.tree.proofs.Pairs.{both}
use Rattle.reply.proofs.reply.answer_line.Goals as goal

pub returns-then-not-are_enough : goal.returns-then-not-are_enough
returns-then-not-are_enough c = both (λ v w. record { value = v; res_after = w }) (not-enough c.args.line.now (length c.args.list.now) (length c.args.form.now) (length c.args.work.now) (length c.args.res.now) (sym c.are_enough.ensures ∙ c.if-not-are_enough.true) _)

pub returns-in_default : goal.returns-in_default
returns-in_default c = both (λ v w. record { value = v; res_after = w }) (misspelled c.args.line.now (length c.args.list.now) (length c.args.form.now) (length c.args.work.now) (length c.args.res.now) (sym c.are_enough.ensures ∙ c.if-not-are_enough.false) _ c.read_line.ensures.value c.in_default.is _)

pub check_parts-requires : goal.check_parts-requires
check_parts-requires c = (held_both c.args.line.now (length c.args.list.now) (length c.args.form.now) (length c.args.work.now) (length c.args.res.now) (sym c.are_enough.ensures ∙ c.if-not-are_enough.false) _ c.read_line.ensures.value _ c.in-Some.is c.args.list.now _ c.args.form.now _ refl refl c.read_line.ensures.list_after c.read_line.ensures.form_after c.read_line.auto.list c.read_line.auto.form)

pub returns-in_err-check_parts : goal.returns-in_err-check_parts
returns-in_err-check_parts c = rw (exit-with c.from_residual.ensures.1) (both (λ v w. record { value = v; res_after = w }) (command-said c.args.line.now (length c.args.list.now) (length c.args.form.now) (length c.args.work.now) (length c.args.res.now) (sym c.are_enough.ensures ∙ c.if-not-are_enough.false) _ c.read_line.ensures.value _ c.in-Some.is _ _ _ (parts-refused c.args.line.now c.in-Some.parts _ c.check_parts.ensures _ c.in_err-check_parts.was _ _)))

pub slice_bounds-run-end : goal.slice_bounds-run-end
slice_bounds-run-end c = let h = (held_both c.args.line.now (length c.args.list.now) (length c.args.form.now) (length c.args.work.now) (length c.args.res.now) (sym c.are_enough.ensures ∙ c.if-not-are_enough.false) _ c.read_line.ensures.value _ c.in-Some.is c.args.list.now _ c.args.form.now _ refl refl c.read_line.ensures.list_after c.read_line.ensures.form_after c.read_line.auto.list c.read_line.auto.form) in row-holds _ _ _ _ h.listed _ c.words_of-n.ensures.0

pub slice_bounds-run-end-2 : goal.slice_bounds-run-end-2
slice_bounds-run-end-2 c = let h = (held_both c.args.line.now (length c.args.list.now) (length c.args.form.now) (length c.args.work.now) (length c.args.res.now) (sym c.are_enough.ensures ∙ c.if-not-are_enough.false) _ c.read_line.ensures.value _ c.in-Some.is c.args.list.now _ c.args.form.now _ refl refl c.read_line.ensures.list_after c.read_line.ensures.form_after c.read_line.auto.list c.read_line.auto.form) in sym (length-take-le _ _ (row-holds _ _ _ _ h.listed _ c.words_of-n.ensures.0))

pub slice_bounds-run-end-3 : goal.slice_bounds-run-end-3
slice_bounds-run-end-3 c = let h = (held_both c.args.line.now (length c.args.list.now) (length c.args.form.now) (length c.args.work.now) (length c.args.res.now) (sym c.are_enough.ensures ∙ c.if-not-are_enough.false) _ c.read_line.ensures.value _ c.in-Some.is c.args.list.now _ c.args.form.now _ refl refl c.read_line.ensures.list_after c.read_line.ensures.form_after c.read_line.auto.list c.read_line.auto.form) in row-holds _ _ _ _ h.formed _ c.words_of-m.ensures.0

pub slice_bounds-run-end-4 : goal.slice_bounds-run-end-4
slice_bounds-run-end-4 c = let h = (held_both c.args.line.now (length c.args.list.now) (length c.args.form.now) (length c.args.work.now) (length c.args.res.now) (sym c.are_enough.ensures ∙ c.if-not-are_enough.false) _ c.read_line.ensures.value _ c.in-Some.is c.args.list.now _ c.args.form.now _ refl refl c.read_line.ensures.list_after c.read_line.ensures.form_after c.read_line.auto.list c.read_line.auto.form) in sym (length-take-le _ _ (row-holds _ _ _ _ h.formed _ c.words_of-m.ensures.0))

pub returns : goal.returns
returns c = both (λ v w. record { value = v; res_after = w }) (command-said c.args.line.now (length c.args.list.now) (length c.args.form.now) (length c.args.work.now) (length c.args.res.now) (sym c.are_enough.ensures ∙ c.if-not-are_enough.false) _ c.read_line.ensures.value _ c.in-Some.is _ _ _ (parts-passed c.args.line.now c.in-Some.parts _ c.check_parts.ensures _ c.in_ok-check_parts.was _ _ _ (held_both c.args.line.now (length c.args.list.now) (length c.args.form.now) (length c.args.work.now) (length c.args.res.now) (sym c.are_enough.ensures ∙ c.if-not-are_enough.false) _ c.read_line.ensures.value _ c.in-Some.is c.args.list.now _ c.args.form.now _ refl refl c.read_line.ensures.list_after c.read_line.ensures.form_after c.read_line.auto.list c.read_line.auto.form) _ _ _ _ c.words_of-n.ensures.1 c.words_of-m.ensures.1 _ _ _ (rw (back c.in-Some.parts.offset (record { sfits = c.struct_told-1.given.1.0.1 })) at c.run.ensures.value, rw (back c.in-Some.parts.offset (record { sfits = c.struct_told-1.given.1.0.1 })) at c.run.ensures.out_after)))
