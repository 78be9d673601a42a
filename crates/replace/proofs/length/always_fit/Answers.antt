use mathlib.Core.Path.{sym, ◌∙◌}
use borrow.Author.Tests.{lt-leb}
use Rattle.replace.specs.Internal.Pieces.{half}
use Rattle.replace.proofs.LengthLaws.{half_pos, fit-over, fit-test}
use Rattle.replace.proofs.length.always_fit.Goals as goal

pub returns-then-head-most : goal.returns-then-head-most
unfolding half
returns-then-head-most c = fit-test c.args.head c.args.words (half c.args.longest) c.args.most (half_pos c.args.longest c.requires) c.if-head-most.true

pub returns-else-head-most : goal.returns-else-head-most
returns-else-head-most c = lt-leb _ _ c.if-head-most.false ∙ sym (fit-over c.args.head c.args.words (half c.args.longest) c.args.most c.if-head-most.false)
