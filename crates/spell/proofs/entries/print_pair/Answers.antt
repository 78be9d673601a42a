use mathlib.Core.Path.{◌≡◌}
use Prim.Native.Nat.{◌+◌}
use native.Mathlib.Omega.{arith}
use lib.ListN.{get_or}
use Rattle.spell.proofs.WriteLaws.{wrote-end, decimal-few}
use Rattle.spell.proofs.PrintLaws.{printed-within}
use Rattle.spell.proofs.EntryLaws.{pair-past, pair-stop, pair-go}
use Rattle.spell.proofs.entries.print_pair.Goals as goal

pub returns-then-row-at : goal.returns-then-row-at
returns-then-row-at c = pair-past _ _ _ _ _ c.if-row-at.true

pub put_decimal-j-requires : goal.put_decimal-j-requires
put_decimal-j-requires c = let e : c.put_byte-i.result ≡ c.args.at.out + 1 = wrote-end _ _ _ _ _ c.put_byte-i.ensures in omega arith

pub put_byte-k-requires : goal.put_byte-k-requires
put_byte-k-requires c = let e : c.put_byte-i.result ≡ c.args.at.out + 1 = wrote-end _ _ _ _ _ c.put_byte-i.ensures in let f : c.put_decimal-j.result ≡ c.put_byte-i.result + _ = wrote-end _ _ _ _ _ c.put_decimal-j.ensures in let g = decimal-few (get_or c.args.row.now c.args.at.row 0) in omega arith

pub print_node-requires : goal.print_node-requires
print_node-requires c = let e : c.put_byte-i.result ≡ c.args.at.out + 1 = wrote-end _ _ _ _ _ c.put_byte-i.ensures in let f : c.put_decimal-j.result ≡ c.put_byte-i.result + _ = wrote-end _ _ _ _ _ c.put_decimal-j.ensures in let g = decimal-few (get_or c.args.row.now c.args.at.row 0) in let k : c.put_byte-k.result ≡ c.put_decimal-j.result + 1 = wrote-end _ _ _ _ _ c.put_byte-k.ensures in omega arith

pub returns-in_err-ends : goal.returns-in_err-ends
returns-in_err-ends c = rw c.from_residual.ensures (pair-stop _ _ _ c.if-row-at.false _ _ _ _ _ _ c.print_node.ensures c.in_err-ends.was)

pub put_byte-requires : goal.put_byte-requires
put_byte-requires c = let e : c.put_byte-i.result ≡ c.args.at.out + 1 = wrote-end _ _ _ _ _ c.put_byte-i.ensures in let f : c.put_decimal-j.result ≡ c.put_byte-i.result + _ = wrote-end _ _ _ _ _ c.put_decimal-j.ensures in let g = decimal-few (get_or c.args.row.now c.args.at.row 0) in let k : c.put_byte-k.result ≡ c.put_decimal-j.result + 1 = wrote-end _ _ _ _ _ c.put_byte-k.ensures in let (u, v) = printed-within _ _ _ _ _ _ _ _ _ _ c.print_node.ensures c.in_ok-ends.was in omega arith

pub returns : goal.returns
returns c = pair-go _ _ _ c.if-row-at.false _ _ _ _ _ _ _ _ _ _ _ _ _ c.put_byte-i.ensures c.put_decimal-j.ensures c.put_byte-k.ensures c.print_node.ensures c.in_ok-ends.was c.put_byte.ensures
