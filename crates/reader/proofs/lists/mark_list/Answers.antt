use mathlib.Core.Path.{refl}
use Rattle.reader.proofs.TableLaws.{listing-free}
use Rattle.reader.proofs.lists.mark_list.Goals as goal

pub returns-in_default : goal.returns-in_default
returns-in_default c = listing-free _ _ _ _ _ _ _ _ (rw c.in_default.is at c.read_entries.ensures) refl
