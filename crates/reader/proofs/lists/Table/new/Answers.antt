use mathlib.Core.Path.{refl}
use Rattle.reader.specs.Internal.Reads.{empty_table}
use Rattle.reader.proofs.lists.Table.new.Goals as goal

pub returns : goal.returns
unfolding empty_table
returns c = refl
