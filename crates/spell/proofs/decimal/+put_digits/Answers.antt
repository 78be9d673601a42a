-- The proof of the cycle of calls {put_digits}. The measure is the number of digits that may follow.
--
use Prim.Native.Nat.{◌-◌, ◌/◌}
use native.Mathlib.Omega.{arith}
use Rattle.spell.proofs.WriteLaws.{no-digits, last-digit, more-digits, wrote-end, digits-few}
use Rattle.spell.proofs.decimal.+put_digits.Goals as goal

pub returns-then-places-eq0 : goal.returns-then-places-eq0
returns-then-places-eq0 t c = no-digits _ _ _ _ c.if-places-eq0.true

pub returns-then-n-lt10 : goal.returns-then-n-lt10
returns-then-n-lt10 t c = last-digit _ _ _ _ _ _ c.if-places-eq0.false c.if-n-lt10.true c.put_byte.ensures

pub put_byte-requires-2 : goal.put_byte-requires-2
put_byte-requires-2 t c = let e = wrote-end _ _ _ _ _ c.put_digits-p.ensures in let h = digits-few (c.args.places - 1) (c.args.n / 10) in omega arith

pub returns : goal.returns
returns t c = more-digits _ _ _ _ _ _ _ _ c.if-places-eq0.false c.if-n-lt10.false c.put_digits-p.ensures c.put_byte-2.ensures
