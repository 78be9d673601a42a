use mathlib.Core.Path.{refl, sym, ◌∙◌}
use native.Mathlib.Omega.{arith}
use Rattle.form.proofs.LeafLaws.{leaf_room}
use Rattle.reader.proofs.reader.mark_leaf.Goals as goal

pub overflow_add-under : goal.overflow_add-under
overflow_add-under c = let (x, y) = leaf_room c.args.row.now c.args.at c.args.depth (sym c.is_leaf.ensures ∙ c.if-is_leaf.true) in omega arith

pub overflow_add-result : goal.overflow_add-result
overflow_add-result c = let (x, y) = leaf_room c.args.row.now c.args.at c.args.depth (sym c.is_leaf.ensures ∙ c.if-is_leaf.true) in omega arith

pub returns-then-is_leaf : goal.returns-then-is_leaf
returns-then-is_leaf c = rw (sym c.is_leaf.ensures ∙ c.if-is_leaf.true) (record { value = refl; marks_after = c.put_mark.ensures })

pub returns : goal.returns
returns c = rw (sym c.is_leaf.ensures ∙ c.if-is_leaf.false) (record { value = refl; marks_after = refl })
