use mathlib.Core.Path.{refl}
use borrow.Author.Tests.{eq-eqb, ne_eqb}
use Rattle.one_point.specs.Internal.Marks.{raise_mark}
use Rattle.one_point.proofs.marks.raise_mark.Goals as goal

pub returns-then-m-eq0 : goal.returns-then-m-eq0
unfolding raise_mark
returns-then-m-eq0 c = rw (eq-eqb c.args.m 0 c.if-m-eq0.true) refl

pub returns : goal.returns
unfolding raise_mark
returns c = rw (ne_eqb c.args.m 0 c.if-m-eq0.false) refl
