use Rattle.std.proofs.Common.{sym, ◌∙◌, length-set}
use Rattle.named.proofs.WordLaws.{copy_more, copy-none}
use Rattle.named.proofs.words.copy_words.Goals as goal

pub loop-i-preserved : goal.loop-i-preserved
loop-i-preserved c = (c.loop-i.invariant.0 ∙ copy_more _ _ _ _ c.loop-i-test.true c.requires.0, length-set c.loop-i.made _ _ ∙ c.loop-i.invariant.1)

pub returns : goal.returns
returns c = sym (c.loop-i.invariant.0 ∙ copy-none _ _ _ _ c.loop-i-test.false)
