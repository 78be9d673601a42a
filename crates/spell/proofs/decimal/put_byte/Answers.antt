use Rattle.spell.proofs.WriteLaws.{wrote-byte, wrote-out}
use Rattle.spell.proofs.decimal.put_byte.Goals as goal

pub returns-then-out-o : goal.returns-then-out-o
returns-then-out-o c = wrote-out _ _ _ c.if-out-o.true

pub returns : goal.returns
returns c = wrote-byte _ _ _
