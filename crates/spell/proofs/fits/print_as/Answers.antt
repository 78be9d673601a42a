use mathlib.Core.Path.{ap}
use native.Mathlib.Omega.{arith}
use Rattle.std.specs.Prelude.{Some}
use Rattle.spell.specs.Internal.Writes.{Wrote, PrintedAs}
use Rattle.spell.proofs.fits.print_as.Goals as goal

pub returns-in-OneForm : goal.returns-in-OneForm
unfolding PrintedAs
returns-in-OneForm c = rw c.in-OneForm.is c.print_row.ensures

pub returns-in-Entries : goal.returns-in-Entries
unfolding PrintedAs
returns-in-Entries c = rw c.in-Entries.is c.print_list.ensures

pub returns-in-Names : goal.returns-in-Names
unfolding PrintedAs Wrote
returns-in-Names c = rw c.in-Names.is (ap Some (omega (arith, c.print_names.ensures.0)), c.print_names.ensures.1)
