use mathlib.Core.Path.{refl}
use Prim.Native.Nat.{◌+◌}
use native.Mathlib.Omega.{arith}
use borrow.Author.Tests.{le-leb}
use lib.ListN.{length, length-set}
use Rattle.rounds.proofs.HeadLaws.{inner-put}
use Rattle.rounds.proofs.rounds.put_inner.Goals as goal

pub returns : goal.returns
returns c = (
  le-leb (c.args.h + length c.args.inner.now) 8192 (omega arith),
  record {
    inside = simp length-set (omega arith);
    front = inner-put c.args.h c.args.inner.now c.args.head.now c.requires.0 c.requires.2 (omega arith) c.args.tag c.args.m _ c.put_words.ensures;
    follows = refl;
  },
)
