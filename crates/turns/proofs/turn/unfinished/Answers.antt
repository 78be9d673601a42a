use mathlib.Core.Path.{refl}
use mathlib.Core.Bool.{true, false}
use native.Mathlib.Omega.{arith}
use Rattle.turns.proofs.TurnLaws.{of_none, of-pass, of-line, rest-none, rest-skipped, rest-last, rest-unread}
use Rattle.turns.proofs.turn.unfinished.Goals as goal

pub returns-then-n-eq0 : goal.returns-then-n-eq0
returns-then-n-eq0 c = of_none c.args.st c.args.input.now _ (rest-none c.args.st c.args.input.now c.requires.1 c.requires.0 _ refl c.if-n-eq0.true) _ c.idle.ensures

pub returns-then-st : goal.returns-then-st
returns-then-st c = of-pass c.args.st c.args.input.now _ _ true (rest-skipped c.args.st c.args.input.now c.requires.1 c.requires.0 _ refl c.if-n-eq0.false c.if-st.true) _ c.after.ensures

pub returns-then-st-2 : goal.returns-then-st-2
returns-then-st-2 c = of-line c.args.st c.args.input.now _ _ _ false c.requires.0 (omega arith) (rest-last c.args.st c.args.input.now c.requires.1 c.requires.0 _ refl c.if-n-eq0.false c.if-st.false c.if-st-2.true) _ c.after-then-st-2.ensures

pub returns : goal.returns
returns c = of_none c.args.st c.args.input.now _ (rest-unread c.args.st c.args.input.now c.requires.1 c.requires.0 _ refl c.if-n-eq0.false c.if-st.false c.if-st-2.false) _ c.idle-2.ensures
