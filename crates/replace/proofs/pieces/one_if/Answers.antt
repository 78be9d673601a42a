use mathlib.Core.Path.{◌∙◌}
use Rattle.replace.proofs.PieceLaws.{filled-byte}
use Rattle.replace.proofs.pieces.one_if.Goals as goal

pub returns : goal.returns
returns c = c.from.ensures ∙ filled-byte _
