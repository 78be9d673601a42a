use mathlib.Core.Path.{◌∙◌}
use mathlib.Core.Bool.{true, false}
use native.Mathlib.Omega.{arith}
use Rattle.turns.proofs.TurnLaws.{of-pass, of-line, next-is, line-piece, long-piece, line-inside, skipped-inside, pending-long}
use borrow.Author.Rules.{rules}
use Rattle.turns.proofs.turn.next_step.Goals as goal

pub overflow_add-result : goal.overflow_add-result
overflow_add-result c = let l = line-inside _ _ _ _ c.next_line-next.ensures c.in-Line.is in let p = pending-long c.args.st c.args.input.now c.requires.1 c.requires.0 in let (x, y) = c.requires in search rules

pub overflow_add-n : goal.overflow_add-n
overflow_add-n c = let l = line-inside _ _ _ _ c.next_line-next.ensures c.in-Line.is in let p = pending-long c.args.st c.args.input.now c.requires.1 c.requires.0 in let (x, y) = c.requires in search rules

pub after-requires : goal.after-requires
after-requires c = let l = line-inside _ _ _ _ c.next_line-next.ensures c.in-Line.is in let p = pending-long c.args.st c.args.input.now c.requires.1 c.requires.0 in let (x, y) = c.requires in omega arith

pub overflow_add-n-in-Skipped : goal.overflow_add-n-in-Skipped
overflow_add-n-in-Skipped c = let l = skipped-inside _ _ _ _ c.next_line-next.ensures c.in-Skipped.is in let p = pending-long c.args.st c.args.input.now c.requires.1 c.requires.0 in let (x, y) = c.requires in search rules

pub after-requires-in-Skipped : goal.after-requires-in-Skipped
after-requires-in-Skipped c = let l = skipped-inside _ _ _ _ c.next_line-next.ensures c.in-Skipped.is in let p = pending-long c.args.st c.args.input.now c.requires.1 c.requires.0 in let (x, y) = c.requires in omega arith

pub returns-in-Line : goal.returns-in-Line
returns-in-Line c = let l = line-inside _ _ _ _ c.next_line-next.ensures c.in-Line.is in let p = pending-long c.args.st c.args.input.now c.requires.1 c.requires.0 in let (x, y) = c.requires in of-line c.args.st c.args.input.now _ _ _ false (omega arith) (omega arith) (next-is c.args.st c.args.input.now _ _ c.next_line-next.ensures c.in-Line.is ∙ line-piece c.args.st c.args.input.now c.requires.1 c.requires.0 _ l) _ c.after.ensures

pub returns-in-Skipped : goal.returns-in-Skipped
returns-in-Skipped c = of-pass c.args.st c.args.input.now _ _ false (next-is c.args.st c.args.input.now _ _ c.next_line-next.ensures c.in-Skipped.is) _ c.after-in-Skipped.ensures

pub returns-in-Long : goal.returns-in-Long
returns-in-Long c = of-line c.args.st c.args.input.now _ _ _ true c.requires.0 (omega arith) (next-is c.args.st c.args.input.now _ _ c.next_line-next.ensures c.in-Long.is ∙ long-piece c.args.st c.args.input.now c.requires.1 c.requires.0) _ c.after-in-Long.ensures

pub returns-in-More : goal.returns-in-More
returns-in-More c = rw (next-is c.args.st c.args.input.now _ _ c.next_line-next.ensures c.in-More.is) c.unfinished.ensures
