use mathlib.Core.Path.{refl, sym, ◌∙◌}
use Prim.Native.Nat.{◌+◌}
use native.Mathlib.Omega.{arith}
use Rattle.named.specs.Internal.Scope.{scope_of}
use Rattle.form.proofs.HeadLaws.{asked_in}
use Rattle.named.proofs.SlotLaws.{sized-at}
use Rattle.named.proofs.LeafLaws.{leaf-pred, leaf-index, leaf-none, leaf-name}
use Rattle.named.proofs.read.name_leaf.Goals as goal

pub returns-then-not-expression : goal.returns-then-not-expression
returns-then-not-expression c = leaf-pred c.args.row.now c.args.at (scope_of c.args.scope.now c.args.under) c.requires.at_in_bounds.0 c.args.made.now c.args.made.now c.args.expression c.if-not-expression.true c.requires.at_in_bounds.1

pub returns-then-row-at-ne-FREE_IDENT : goal.returns-then-row-at-ne-FREE_IDENT
returns-then-row-at-ne-FREE_IDENT c = leaf-index c.args.row.now c.args.at (scope_of c.args.scope.now c.args.under) c.requires.at_in_bounds.0 c.args.made.now c.args.made.now c.args.expression c.if-not-expression.false c.requires.at_in_bounds.1 c.if-row-at-ne-FREE_IDENT.true

pub returns-in_err-m : goal.returns-in_err-m
returns-in_err-m c = rw c.from_residual.ensures (leaf-none c.args.row.now c.args.at (scope_of c.args.scope.now c.args.under) c.requires.at_in_bounds.0 c.args.made.now c.args.made.now c.args.expression c.if-not-expression.false c.if-row-at-ne-FREE_IDENT.false (sym c.asked.ensures ∙ c.in_err-m.was))

pub put_name-requires : goal.put_name-requires
put_name-requires c = let i = asked_in 0 65535 c.args.row.now (c.args.at + 1) _ (sym c.asked.ensures ∙ c.in_ok-m.was) in (omega arith, sized-at _ _ _ _ refl (omega arith) c.requires.ready.sized, c.requires.ready.held)

pub returns : goal.returns
returns c = leaf-name c.args.row.now c.args.at (scope_of c.args.scope.now c.args.under) c.requires.at_in_bounds.0 c.args.made.now _ c.args.expression _ c.if-not-expression.false c.if-row-at-ne-FREE_IDENT.false (sym c.asked.ensures ∙ c.in_ok-m.was) c.put_name.ensures
