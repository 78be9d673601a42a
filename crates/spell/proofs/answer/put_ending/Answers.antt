use native.Mathlib.Omega.{arith}
use Rattle.spell.proofs.WriteLaws.{wrote-end, decimal-few}
use Rattle.spell.proofs.AnswerLaws.{ending-short, ending-long}
use Rattle.spell.proofs.answer.put_ending.Goals as goal

pub returns-then-k-ne2 : goal.returns-then-k-ne2
returns-then-k-ne2 c = ending-short _ _ _ c.if-k-ne2.true _ _ _ c.put_byte.ensures

pub put_decimal-q-requires : goal.put_decimal-q-requires
put_decimal-q-requires c = let e = wrote-end _ _ _ _ _ c.put_byte-from.ensures in omega arith

pub put_byte-requires-2 : goal.put_byte-requires-2
put_byte-requires-2 c = let e = wrote-end _ _ _ _ _ c.put_byte-from.ensures in let f = wrote-end _ _ _ _ _ c.put_decimal-q.ensures in let g = decimal-few c.args.p in omega arith

pub returns : goal.returns
returns c = ending-long _ _ _ c.if-k-ne2.false _ _ _ _ _ _ _ c.put_byte-from.ensures c.put_decimal-q.ensures c.put_byte-2.ensures
