use borrow.Author.Tests.{eq-eqb, ne_eqb}
use Rattle.one_point.proofs.PlaceLaws.{first_word}
use Rattle.one_point.proofs.reduce.rest_end.Goals as goal
use Rattle.one_point.proofs.reduce.rest_end.Goals.{then-tag-eq-EXISTS, else-tag-eq-EXISTS}

pub returns-clause-work_after : goal.returns-clause-work_after
returns-clause-work_after c =
    rw c.in_default.is
    (elim c.if-tag-eq-EXISTS.branch [
      | then-tag-eq-EXISTS w ↦ rw (w.work-is, eq-eqb c.args.tag 852 w.if-tag-eq-EXISTS.true) (first_word c.args.work.now _ c.requires)
      | else-tag-eq-EXISTS w ↦ rw (w.work-is, ne_eqb c.args.tag 852 w.if-tag-eq-EXISTS.false) (first_word c.args.work.now _ c.requires)
    ])
