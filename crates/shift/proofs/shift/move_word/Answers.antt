use Rattle.std.proofs.Common.{rules}
use Rattle.shift.specs.Internal.Items.{move_word}
use Rattle.shift.proofs.shift.move_word.Goals as goal

pub returns : goal.returns
unfolding move_word
returns c = search rules
