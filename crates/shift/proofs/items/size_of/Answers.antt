use Rattle.shift.specs.Internal.Items.{size_of}
use Rattle.shift.proofs.items.size_of.Goals as goal

pub returns-in-Plain : goal.returns-in-Plain
unfolding size_of
returns-in-Plain c = rw c.in-Plain.is

pub returns-in-Ident : goal.returns-in-Ident
unfolding size_of
returns-in-Ident c = rw c.in-Ident.is
