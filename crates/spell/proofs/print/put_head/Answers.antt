use mathlib.Core.Path.{◌≡◌}
use Prim.Native.Nat.{◌+◌, ◌-◌}
use native.Mathlib.Omega.{arith}
use lib.ListN.{get_or, drop, length-take}
use Rattle.spell.proofs.WriteLaws.{wrote-end, decimal-few}
use Rattle.spell.proofs.NodeLaws.{wrote-opening}
use Rattle.spell.proofs.print.put_head.Goals as goal

pub put_decimal-q-requires : goal.put_decimal-q-requires
put_decimal-q-requires c = let e = wrote-end _ _ _ _ _ c.put_byte-p.ensures in omega arith

pub put_spaced-requires : goal.put_spaced-requires
put_spaced-requires c = let e : c.put_byte-p.result ≡ c.args.at.out + 1 = wrote-end _ _ _ _ _ c.put_byte-p.ensures in let f = wrote-end _ _ _ _ _ c.put_decimal-q.ensures in let g = decimal-few (get_or c.args.row.now c.args.at.row 0) in let k = length-take (c.args.end - (c.args.at.row + 1)) (drop (c.args.at.row + 1) c.args.row.now) in omega arith

pub returns : goal.returns
returns c = wrote-opening _ _ _ _ _ _ _ _ _ _ c.put_byte-p.ensures c.put_decimal-q.ensures c.put_spaced.ensures
