use lib.ListN.{length}
use Rattle.reply.specs.Reply.{line_outcome, reply_outcome}
use Rattle.calls.proofs.CallLaws.{said_same}
use Rattle.reply.proofs.ReplyLaws.{room-there, row-there, no-there}
use Rattle.tree.proofs.Pairs.{both}
use Rattle.reply.proofs.reply.reply.Goals as goal

pub slice_bounds-print_form-end : goal.slice_bounds-print_form-end
slice_bounds-print_form-end c = room-there (line_outcome c.args.line.now (length c.args.list.now) (length c.args.form.now) (length c.args.work.now) (length c.args.res.now)) _ _ _ (c.answer_line.ensures.value, c.answer_line.ensures.res_after) _ c.in-Ok.is

pub returns-in-Ok : goal.returns-in-Ok
unfolding reply_outcome
returns-in-Ok c = both (λ v w. record { value = v; bytes_after = w }) (said_same _ _ _ _ _ (row-there (line_outcome c.args.line.now (length c.args.list.now) (length c.args.form.now) (length c.args.work.now) (length c.args.res.now)) _ _ _ (c.answer_line.ensures.value, c.answer_line.ensures.res_after) _ (length c.args.bytes.now) c.in-Ok.is) (c.print_form.ensures.value, c.print_form.ensures.out_after))

pub returns-in-Err : goal.returns-in-Err
unfolding reply_outcome
returns-in-Err c = both (λ v w. record { value = v; bytes_after = w }) (said_same _ _ _ _ _ (no-there (line_outcome c.args.line.now (length c.args.list.now) (length c.args.form.now) (length c.args.work.now) (length c.args.res.now)) _ _ _ (c.answer_line.ensures.value, c.answer_line.ensures.res_after) _ (length c.args.bytes.now) c.in-Err.is) (rw (c.number.ensures, c.position.ensures) at c.print_no.ensures.value, rw (c.number.ensures, c.position.ensures) at c.print_no.ensures.out_after))
