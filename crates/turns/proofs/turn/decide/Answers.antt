use mathlib.Core.Path.{sym, ◌∙◌}
use native.Mathlib.Omega.{arith}
use Rattle.turns.proofs.TurnLaws.{decide-rows, decide-unfit, decide-full, decide-piece, fits-are}
use Rattle.tree.proofs.Pairs.{both}
use Rattle.turns.proofs.turn.decide.Goals as goal

pub returns-then-not-are_rows : goal.returns-then-not-are_rows
returns-then-not-are_rows c = both (λ v w. record { decided = v; allowed = w }) (decide-rows _ c.args.st c.args.input.now c.args.output (sym c.are_rows.ensures ∙ c.if-not-are_rows.true))

pub returns-then-not-is_fit : goal.returns-then-not-is_fit
returns-then-not-is_fit c = both (λ v w. record { decided = v; allowed = w }) (decide-unfit _ c.args.st c.args.input.now c.args.output (sym c.are_rows.ensures ∙ c.if-not-are_rows.false) (sym c.is_fit.ensures ∙ c.if-not-is_fit.true))

pub overflow_sub-output : goal.overflow_sub-output
overflow_sub-output c = let (x, y, z) = fits-are c.args.st _ _ (sym c.is_fit.ensures ∙ c.if-not-is_fit.false) in omega arith

pub returns-then-output-st-lt131073 : goal.returns-then-output-st-lt131073
returns-then-output-st-lt131073 c = both (λ v w. record { decided = v; allowed = w }) (decide-full _ c.args.st c.args.input.now c.args.output (sym c.are_rows.ensures ∙ c.if-not-are_rows.false) (sym c.is_fit.ensures ∙ c.if-not-is_fit.false) c.if-output-st-lt131073.true _ c.wait.ensures)

pub next_step-requires : goal.next_step-requires
next_step-requires c = let (x, y, z) = fits-are c.args.st _ _ (sym c.is_fit.ensures ∙ c.if-not-is_fit.false) in (x, y)

pub returns : goal.returns
returns c = both (λ v w. record { decided = v; allowed = w }) (decide-piece _ c.args.st c.args.input.now c.args.output (sym c.are_rows.ensures ∙ c.if-not-are_rows.false) (sym c.is_fit.ensures ∙ c.if-not-is_fit.false) c.if-output-st-lt131073.false _ c.next_step.ensures)
