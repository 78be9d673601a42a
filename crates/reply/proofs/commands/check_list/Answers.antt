use mathlib.Core.Logic.{inl, inr}
use Rattle.reply.proofs.commands.check_list.Goals as goal

pub returns-in-Nothing : goal.returns-in-Nothing
returns-in-Nothing c = elim c.in-Nothing.is [ inl e ↦ rw e | inr e ↦ rw e ]

pub returns-in-Names : goal.returns-in-Names
returns-in-Names c = rw c.in-Names.is c.check_names_part.ensures

pub returns-in-Pairs : goal.returns-in-Pairs
returns-in-Pairs c = rw c.in-Pairs.is c.check_list_part.ensures

pub returns-in-Places : goal.returns-in-Places
returns-in-Places c = rw c.in-Places.is c.check_list_part-in-Places.ensures
