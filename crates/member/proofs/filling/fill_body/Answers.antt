use Rattle.member.proofs.BodyLaws.{names-all}
use Rattle.member.proofs.FillBodyLaws.{plain-filling, body-some}
use Rattle.member.proofs.filling.fill_body.Goals as goal

pub returns : goal.returns
unfolding plain-filling
returns c = record { value = λ x y. rw (names-all x c.if-source-set-ne-COMPREHENSION_SET.false) at (c.fill_plain.ensures.value (plain-filling x c.if-source-set-ne-COMPREHENSION_SET.false y)); out_after = λ x y. rw (names-all x c.if-source-set-ne-COMPREHENSION_SET.false) at (c.fill_plain.ensures.out_after (plain-filling x c.if-source-set-ne-COMPREHENSION_SET.false y)) }

pub bounds-source-0 : goal.bounds-source-0
bounds-source-0 c = body-some c.requires.1
