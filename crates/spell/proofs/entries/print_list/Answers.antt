use mathlib.Core.Path.{◌≡◌}
use Prim.Native.Nat.{◌+◌}
use native.Mathlib.Omega.{arith}
use Rattle.spell.proofs.WriteLaws.{wrote-end}
use Rattle.spell.proofs.EntryLaws.{list-stop, list-empty, list-end, at_most}
use Rattle.spell.proofs.entries.print_list.Goals as goal

pub returns-in_err-o : goal.returns-in_err-o
returns-in_err-o c = rw c.from_residual.ensures (list-stop _ _ _ _ _ _ c.print_entries.ensures.printed_entries c.in_err-o.was)

pub put_byte-requires : goal.put_byte-requires
put_byte-requires c = let e : c.put_byte-i.result ≡ 0 + 1 = wrote-end _ _ _ _ _ c.put_byte-i.ensures in omega arith

pub returns-then-o-eq0 : goal.returns-then-o-eq0
returns-then-o-eq0 c = list-empty _ _ _ _ _ _ _ _ _ _ c.print_entries.ensures.printed_entries c.in_ok-o.was c.if-o-eq0.true c.put_byte-i.ensures c.put_byte.ensures

pub put_byte-requires-2 : goal.put_byte-requires-2
put_byte-requires-2 c = let k = at_most _ _ _ c.print_entries.ensures.at_most c.in_ok-o.was in omega arith

pub returns : goal.returns
returns c = list-end _ _ _ _ _ _ _ _ c.print_entries.ensures.printed_entries c.in_ok-o.was c.if-o-eq0.false c.put_byte-2.ensures
