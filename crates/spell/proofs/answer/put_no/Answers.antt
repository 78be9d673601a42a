use native.Mathlib.Omega.{arith}
use Rattle.spell.proofs.WriteLaws.{wrote-end, decimal-few}
use Rattle.spell.proofs.AnswerLaws.{wrote-no}
use Rattle.spell.proofs.answer.put_no.Goals as goal

pub put_ending-requires : goal.put_ending-requires
put_ending-requires c = let e = wrote-end 4 _ _ _ _ c.put_decimal-q.ensures in let f = decimal-few c.args.k in omega arith

pub returns : goal.returns
returns c = wrote-no _ _ _ _ _ _ _ _ _ _ _ _ _ _ _ c.put_byte.ensures c.put_byte-2.ensures c.put_byte-3.ensures c.put_byte-4.ensures c.put_decimal-q.ensures c.put_ending.ensures
