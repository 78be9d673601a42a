use Rattle.replace.proofs.MarkLaws.{entries-front}
use Rattle.listed.proofs.marks.mark_entries.Goals as goal

pub returns : goal.returns
returns c = entries-front _ _ _ _ _ _ _ _ _ c.requires c.clear.ensures c.mark_list.auto.marks c.mark_list.ensures
