use Rattle.replace.specs.Internal.Splice.{key_of}
use Rattle.replace.proofs.splice.key_of.Goals as goal

pub returns-then-t-m : goal.returns-then-t-m
unfolding key_of
returns-then-t-m c = rw c.if-t-m.true

pub returns : goal.returns
unfolding key_of
returns c = rw c.if-t-m.false
