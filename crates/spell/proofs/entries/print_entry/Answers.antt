use Rattle.spell.proofs.entries.print_entry.Goals as goal

pub returns-in-Pairs : goal.returns-in-Pairs
returns-in-Pairs c = rw c.in-Pairs.is c.print_pair.ensures

pub returns-in-Places : goal.returns-in-Places
returns-in-Places c = rw c.in-Places.is c.print_place.ensures
