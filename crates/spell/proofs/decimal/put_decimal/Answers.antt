use native.Mathlib.Omega.{arith}
use Rattle.spell.proofs.WriteLaws.{wrote-end, one-digit, two_digits, three-digits, wrote-decimal}
use Rattle.spell.proofs.decimal.put_decimal.Goals as goal

pub returns-then-n-lt10 : goal.returns-then-n-lt10
returns-then-n-lt10 c = one-digit _ _ _ _ _ c.if-n-lt10.true c.put_byte.ensures

pub put_byte-requires-then-n-lt100 : goal.put_byte-requires-then-n-lt100
put_byte-requires-then-n-lt100 c = let e = wrote-end _ _ _ _ _ c.put_byte-p.ensures in omega arith

pub returns-then-n-lt100 : goal.returns-then-n-lt100
returns-then-n-lt100 c = two_digits _ _ _ _ _ _ _ c.if-n-lt10.false c.if-n-lt100.true c.put_byte-p.ensures c.put_byte-then-n-lt100.ensures

pub put_byte-q-requires : goal.put_byte-q-requires
put_byte-q-requires c = let e = wrote-end _ _ _ _ _ c.put_byte-p-then-n-lt1000.ensures in omega arith

pub put_byte-requires-then-n-lt1000 : goal.put_byte-requires-then-n-lt1000
put_byte-requires-then-n-lt1000 c = let e = wrote-end _ _ _ _ _ c.put_byte-p-then-n-lt1000.ensures in let f = wrote-end _ _ _ _ _ c.put_byte-q.ensures in omega arith

pub returns-then-n-lt1000 : goal.returns-then-n-lt1000
returns-then-n-lt1000 c = three-digits _ _ _ _ _ _ _ _ _ c.if-n-lt100.false c.if-n-lt1000.true c.put_byte-p-then-n-lt1000.ensures c.put_byte-q.ensures c.put_byte-then-n-lt1000.ensures

pub returns : goal.returns
returns c = wrote-decimal _ _ _ _ _ c.put_digits.ensures
