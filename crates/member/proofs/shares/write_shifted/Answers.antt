use lib.ListN.{length-set}
use Rattle.member.proofs.ShareLaws.{shifted-wrote}
use Rattle.member.proofs.shares.write_shifted.Goals as goal

pub returns : goal.returns
returns c = shifted-wrote c.args.row.now c.args.marks.now c.args.up c.args.sides c.requires.0 c.requires.1 _ c.args.out.now _ _ c.requires.2 (simp length-set at c.put_words.auto.out) c.put_words.ensures c.put_lifted.ensures
