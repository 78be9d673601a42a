use Rattle.replace.proofs.BuildLaws.{stored-after}
use Rattle.replace.proofs.build.write_words.Goals as goal

pub returns : goal.returns
returns c = record { value = c.write_spliced.ensures.value; out_after = stored-after _ _ _ _ _ c.copy.ensures c.write_spliced.ensures.out_after }
