use native.Mathlib.Omega.{arith}
use Rattle.tree.specs.Form.{pick}
use Rattle.tree.specs.Tag.{expr, pred, own_of, pred_tags}
use Rattle.tree.proofs.Ranges.{pred-on}
use Rattle.form.proofs.HeadLaws.{shape-head, shape-not}
use Rattle.form.proofs.head.tag_words.Goals as goal

pub returns-in-351-to-352 : goal.returns-in-351-to-352
unfolding own_of pred_tags
returns-in-351-to-352 c = shape-head _ (pick c.args.expression expr pred) _ _ (shape-not c.args.expression c.args.tag _ c.if-not-expression.true (pred-on 351 352 tt (omega arith) (omega arith))) c.preds_head.ensures

pub returns-in-851-to-852 : goal.returns-in-851-to-852
unfolding own_of pred_tags
returns-in-851-to-852 c = shape-head _ (pick c.args.expression expr pred) _ _ (shape-not c.args.expression c.args.tag _ c.if-not-expression.true (pred-on 851 852 tt (omega arith) (omega arith))) c.bound_head.ensures

pub returns : goal.returns
returns c = shape-head _ (pick c.args.expression expr pred) _ _ c.shape_of-shape.ensures c.own_words.ensures
