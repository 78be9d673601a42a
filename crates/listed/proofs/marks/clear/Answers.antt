use Rattle.replace.proofs.StoreLaws.{zeros-stored}
use Rattle.listed.proofs.marks.clear.Goals as goal

pub returns : goal.returns
returns c = zeros-stored _ _ _ _ c.requires (c.fill.ensures.after (λ y h. h))
