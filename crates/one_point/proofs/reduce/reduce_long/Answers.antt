use mathlib.Core.Path.{sym, ◌∙◌}
use lib.ListN.{length}
use native.Mathlib.Omega.{arith}
use Rattle.one_point.specs.Internal.Reduce.{operator_in, decls_in, body_outcome}
use Rattle.one_point.proofs.PointLaws.{told-again, told-deeper, nothing-written, same-deeper}
use Rattle.tree.proofs.Pairs.{both}
use Rattle.one_point.proofs.reduce.reduce_long.Goals as goal

pub returns-in-Some : goal.returns-in-Some
returns-in-Some c =
    both (λ v w. record { value = v; out_after = w })
    (told-deeper _ _ _ _ _ _ (same-deeper 61 (omega arith) (operator_in c.args.head.now) (decls_in c.args.head.now) c.args.body.now _ _ (sym c.reduce_at.ensures.value ∙ c.in-Some.is)) c.in-Some.is (c.reduce_at.ensures.value, c.reduce_at.ensures.out_after))

pub returns : goal.returns
returns c =
    both (λ v w. record { value = v; out_after = w })
    (told-again (body_outcome 63 (operator_in c.args.head.now) (decls_in c.args.head.now) c.args.body.now) _ c.args.out.now c.reduce_at.new.out _ (c.reduce_at.ensures.out_after ∙ nothing-written (body_outcome 61 (operator_in c.args.head.now) (decls_in c.args.head.now) c.args.body.now (length c.args.out.now)) _ _ c.reduce_at.ensures.value c.in_default.is) (c.reduce_at-2.ensures.value, c.reduce_at-2.ensures.out_after))
