use mathlib.Core.Path.{◌≡◌}
use Prim.Native.Nat.{◌+◌}
use native.Mathlib.Omega.{arith}
use lib.ListN.{get_or}
use Rattle.spell.proofs.WriteLaws.{wrote-end, decimal-few}
use Rattle.spell.proofs.NodeLaws.{wrote-leaf}
use Rattle.spell.proofs.print.put_leaf.Goals as goal

pub put_decimal-q-requires : goal.put_decimal-q-requires
put_decimal-q-requires c = let e : c.put_byte-p.result ≡ c.args.at.out + 1 = wrote-end _ _ _ _ _ c.put_byte-p.ensures in omega arith

pub put_byte-i-requires : goal.put_byte-i-requires
put_byte-i-requires c = let e : c.put_byte-p.result ≡ c.args.at.out + 1 = wrote-end _ _ _ _ _ c.put_byte-p.ensures in let f = wrote-end _ _ _ _ _ c.put_decimal-q.ensures in let g = decimal-few (get_or c.args.row.now c.args.at.row 0) in omega arith

pub put_decimal-j-requires : goal.put_decimal-j-requires
put_decimal-j-requires c = let e : c.put_byte-p.result ≡ c.args.at.out + 1 = wrote-end _ _ _ _ _ c.put_byte-p.ensures in
    let f = wrote-end _ _ _ _ _ c.put_decimal-q.ensures in
    let g = decimal-few (get_or c.args.row.now c.args.at.row 0) in
    let h : c.put_byte-i.result ≡ c.put_decimal-q.result + 1 = wrote-end _ _ _ _ _ c.put_byte-i.ensures in
    omega arith

pub put_byte-requires : goal.put_byte-requires
put_byte-requires c = let e : c.put_byte-p.result ≡ c.args.at.out + 1 = wrote-end _ _ _ _ _ c.put_byte-p.ensures in
    let f = wrote-end _ _ _ _ _ c.put_decimal-q.ensures in
    let g = decimal-few (get_or c.args.row.now c.args.at.row 0) in
    let h : c.put_byte-i.result ≡ c.put_decimal-q.result + 1 = wrote-end _ _ _ _ _ c.put_byte-i.ensures in
    let k = wrote-end _ _ _ _ _ c.put_decimal-j.ensures in
    let l = decimal-few (get_or c.args.row.now (c.args.at.row + 1) 0) in
    omega arith

pub returns : goal.returns
returns c = wrote-leaf _ _ _ _ _ _ _ _ _ _ _ _ _ _ c.put_byte-p.ensures c.put_decimal-q.ensures c.put_byte-i.ensures c.put_decimal-j.ensures c.put_byte.ensures
