-- `tree::tag::pred_shape` meets its contract. Each return is on an interval of tags that no range of the table cuts. Assumes nothing.
use native.Mathlib.Omega.{arith}
use Rattle.tree.specs.Tag.{pred_tags}
use Rattle.tree.proofs.Ranges.{pred-on, split}
use mathlib.Core.Logic.{⊎_elim}
use Rattle.tree.proofs.tag.pred_shape.Statement.{statement}
use Rattle.tree.proofs.tag.pred_shape.Tie as tie

returns : tie.Need-returns-in-7
unfolding pred_tags
returns c = pred-on 7 7 tt (omega arith) (omega arith)

returns-2 : tie.Need-returns-in-8
unfolding pred_tags
returns-2 c = pred-on 8 8 tt (omega arith) (omega arith)

returns-3 : tie.Need-returns-in-9
unfolding pred_tags
returns-3 c = pred-on 9 9 tt (omega arith) (omega arith)

returns-4 : tie.Need-returns-in-10
unfolding pred_tags
returns-4 c = pred-on 10 10 tt (omega arith) (omega arith)

returns-5 : tie.Need-returns-in-11
unfolding pred_tags
returns-5 c = pred-on 11 11 tt (omega arith) (omega arith)

returns-6 : tie.Need-returns-in-101-to-112
unfolding pred_tags
returns-6 c = pred-on 101 112 tt (omega arith) (omega arith)

returns-7 : tie.Need-returns-in-251-to-252
unfolding pred_tags
returns-7 c = pred-on 251 252 tt (omega arith) (omega arith)

returns-8 : tie.Need-returns-in-351-to-352
unfolding pred_tags
returns-8 c = pred-on 351 352 tt (omega arith) (omega arith)

returns-9 : tie.Need-returns-in-610-to-611
unfolding pred_tags
returns-9 c = pred-on 610 611 tt (omega arith) (omega arith)

returns-10 : tie.Need-returns-in-851-to-852
unfolding pred_tags
returns-10 c = pred-on 851 852 tt (omega arith) (omega arith)

returns-11 : tie.Need-returns-in-861-to-862
unfolding pred_tags
returns-11 c = pred-on 861 862 tt (omega arith) (omega arith)

returns-12 : tie.Need-returns-in_default
unfolding pred_tags
returns-12 c =
    ⊎_elim (λ h. pred-on 0 6 tt (omega arith) (omega arith)) (λ h. pred-on 12 100 tt (omega arith) (omega arith))
    (split 7 c.before.args.tag)

returns-13 : tie.Need-returns-in_default-2
unfolding pred_tags
returns-13 c = pred-on 113 250 tt (omega arith) (omega arith)

returns-14 : tie.Need-returns-in_default-3
unfolding pred_tags
returns-14 c = pred-on 253 350 tt (omega arith) (omega arith)

returns-15 : tie.Need-returns-in_default-4
unfolding pred_tags
returns-15 c = pred-on 353 609 tt (omega arith) (omega arith)

returns-16 : tie.Need-returns-in_default-5
unfolding pred_tags
returns-16 c = pred-on 612 850 tt (omega arith) (omega arith)

returns-17 : tie.Need-returns-in_default-6
unfolding pred_tags
returns-17 c = pred-on 853 860 tt (omega arith) (omega arith)

returns-18 : tie.Need-returns-in_default-7
unfolding pred_tags
returns-18 c = pred-on 863 4294967295 tt (omega arith) (omega arith)

pub pred_shape_spec : {M : Type 1} → statement M
pred_shape_spec = tie.close (tie.spec returns returns-2 returns-3 returns-4 returns-5 returns-6 returns-7 returns-8 returns-9 returns-10 returns-11 returns-12 returns-13 returns-14 returns-15 returns-16 returns-17 returns-18)
