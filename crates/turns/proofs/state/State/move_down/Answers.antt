use mathlib.Core.Path.{sym, ◌∙◌}
use Rattle.turns.proofs.PutLaws.{moved-part}
use Rattle.turns.proofs.TurnLaws.{moved-are, moved-not, moved-done}
use Rattle.tree.proofs.Pairs.{both}
use Rattle.turns.proofs.state.State.move_down.Goals as goal

pub returns-then-not-is_movable : goal.returns-then-not-is_movable
returns-then-not-is_movable c = both (λ v w. record { value = v; input_after = w }) (moved-not _ _ (sym c.is_movable.ensures ∙ c.if-not-is_movable.true))

pub returns : goal.returns
returns c =
    let (a, b) = moved-are c.args.self _ (sym c.is_movable.ensures ∙ c.if-not-is_movable.false) in
    both (λ v w. record { value = v; input_after = w })
    (moved-done c.args.self c.args.input.now (sym c.is_movable.ensures ∙ c.if-not-is_movable.false) _ (c.copy_within.ensures.after ∙ moved-part c.args.input.now c.args.self.start c.args.self.end a b))
