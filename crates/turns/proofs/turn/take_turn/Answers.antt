use Prim.Native.Nat.{◌+◌, ◌-◌}
use native.Mathlib.Omega.{arith}
use lib.ListN.{length}
use Rattle.turns.proofs.TurnLaws.{plain_done, reply-fits, reply-done}
use borrow.Author.Rules.{rules}
use Rattle.tree.proofs.Pairs.{both}
use Rattle.turns.proofs.turn.take_turn.Goals as goal

pub overflow_add-room : goal.overflow_add-room
overflow_add-room c = let (r, a, b, m) = reply-fits _ c.args.st (length c.args.input.now) (length c.args.output.now) _ c.decide-step.ensures.allowed _ _ c.in-Reply.is in search rules

pub slice_bounds-reply-count : goal.slice_bounds-reply-count
slice_bounds-reply-count c = let (r, a, b, m) = reply-fits _ c.args.st (length c.args.input.now) (length c.args.output.now) _ c.decide-step.ensures.allowed _ _ c.in-Reply.is in a

pub slice_bounds-reply-start : goal.slice_bounds-reply-start
slice_bounds-reply-start c = let (r, a, b, m) = reply-fits _ c.args.st (length c.args.input.now) (length c.args.output.now) _ c.decide-step.ensures.allowed _ _ c.in-Reply.is in search rules

pub slice_bounds-reply-end : goal.slice_bounds-reply-end
slice_bounds-reply-end c = let (r, a, b, m) = reply-fits _ c.args.st (length c.args.input.now) (length c.args.output.now) _ c.decide-step.ensures.allowed _ _ c.in-Reply.is in b

pub slice_bounds-reply-end-in-Reply : goal.slice_bounds-reply-end-in-Reply
slice_bounds-reply-end-in-Reply c = let (r, a, b, m) = reply-fits _ c.args.st (length c.args.input.now) (length c.args.output.now) _ c.decide-step.ensures.allowed _ _ c.in-Reply.is in search rules

pub bounds-output-at : goal.bounds-output-at
bounds-output-at c = let (r, a, b, m) = reply-fits _ c.args.st (length c.args.input.now) (length c.args.output.now) _ c.decide-step.ensures.allowed _ _ c.in-Reply.is in omega arith

pub replied-requires : goal.replied-requires
replied-requires c = let (r, a, b, m) = reply-fits _ c.args.st (length c.args.input.now) (length c.args.output.now) _ c.decide-step.ensures.allowed _ _ c.in-Reply.is in omega arith

pub returns-in-Reply : goal.returns-in-Reply
returns-in-Reply c = both (λ v w. record { value = v; output_after = w }) (reply-done c.args.st c.args.input.now c.args.list.now c.args.form.now c.args.work.now c.args.res.now c.args.output.now _ _ _ (c.decide-step.ensures.decided, c.decide-step.ensures.allowed) _ _ c.in-Reply.is _ _ (c.args.st.used + 131072 - c.args.st.used) (omega arith) (c.reply-answer.ensures.value, c.reply-answer.ensures.bytes_after) c.reply-answer.auto.bytes _ c.end_of-at.ensures _ c.replied.ensures)

pub returns-in-Plain : goal.returns-in-Plain
returns-in-Plain c = both (λ v w. record { value = v; output_after = w }) (plain_done c.args.st c.args.input.now c.args.output.now _ _ _ c.decide-step.ensures.decided _ c.in-Plain.is)
