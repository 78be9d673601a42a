-- `tree::tag::expr_shape` meets its contract. Each return is on an interval of tags that no range of the table cuts. Assumes nothing.
use native.Mathlib.Omega.{arith}
use Rattle.tree.specs.Tag.{expr_tags}
use Rattle.tree.proofs.Ranges.{expr-on}
use Rattle.tree.proofs.tag.expr_shape.Statement.{statement}
use Rattle.tree.proofs.tag.expr_shape.Tie as tie

returns : tie.Need-returns-in-3
unfolding expr_tags
returns c = expr-on 3 3 tt (omega arith) (omega arith)

returns-2 : tie.Need-returns-in-4
unfolding expr_tags
returns-2 c = expr-on 4 4 tt (omega arith) (omega arith)

returns-3 : tie.Need-returns-in-5
unfolding expr_tags
returns-3 c = expr-on 5 5 tt (omega arith) (omega arith)

returns-4 : tie.Need-returns-in-6
unfolding expr_tags
returns-4 c = expr-on 6 6 tt (omega arith) (omega arith)

returns-5 : tie.Need-returns-in-1-to-2
unfolding expr_tags
returns-5 c = expr-on 1 2 tt (omega arith) (omega arith)

returns-6 : tie.Need-returns-in-201-to-227
unfolding expr_tags
returns-6 c = expr-on 201 227 tt (omega arith) (omega arith)

returns-7 : tie.Need-returns-in-301-to-307
unfolding expr_tags
returns-7 c = expr-on 301 307 tt (omega arith) (omega arith)

returns-8 : tie.Need-returns-in-401-to-412
unfolding expr_tags
returns-8 c = expr-on 401 412 tt (omega arith) (omega arith)

returns-9 : tie.Need-returns-in-751-to-757
unfolding expr_tags
returns-9 c = expr-on 751 757 tt (omega arith) (omega arith)

returns-10 : tie.Need-returns-in-761-to-764
unfolding expr_tags
returns-10 c = expr-on 761 764 tt (omega arith) (omega arith)

returns-11 : tie.Need-returns-in-801-to-803
unfolding expr_tags
returns-11 c = expr-on 801 803 tt (omega arith) (omega arith)

returns-12 : tie.Need-returns-in-871-to-873
unfolding expr_tags
returns-12 c = expr-on 871 873 tt (omega arith) (omega arith)

returns-13 : tie.Need-returns-in_default
unfolding expr_tags
returns-13 c = expr-on 0 0 tt (omega arith) (omega arith)

returns-14 : tie.Need-returns-in_default-2
unfolding expr_tags
returns-14 c = expr-on 7 200 tt (omega arith) (omega arith)

returns-15 : tie.Need-returns-in_default-3
unfolding expr_tags
returns-15 c = expr-on 228 300 tt (omega arith) (omega arith)

returns-16 : tie.Need-returns-in_default-4
unfolding expr_tags
returns-16 c = expr-on 308 400 tt (omega arith) (omega arith)

returns-17 : tie.Need-returns-in_default-5
unfolding expr_tags
returns-17 c = expr-on 413 750 tt (omega arith) (omega arith)

returns-18 : tie.Need-returns-in_default-6
unfolding expr_tags
returns-18 c = expr-on 758 760 tt (omega arith) (omega arith)

returns-19 : tie.Need-returns-in_default-7
unfolding expr_tags
returns-19 c = expr-on 765 800 tt (omega arith) (omega arith)

returns-20 : tie.Need-returns-in_default-8
unfolding expr_tags
returns-20 c = expr-on 804 870 tt (omega arith) (omega arith)

returns-21 : tie.Need-returns-in_default-9
unfolding expr_tags
returns-21 c = expr-on 874 4294967295 tt (omega arith) (omega arith)

pub expr_shape_spec : {M : Type 1} → statement M
expr_shape_spec = tie.close (tie.spec returns returns-2 returns-3 returns-4 returns-5 returns-6 returns-7 returns-8 returns-9 returns-10 returns-11 returns-12 returns-13 returns-14 returns-15 returns-16 returns-17 returns-18 returns-19 returns-20 returns-21)
