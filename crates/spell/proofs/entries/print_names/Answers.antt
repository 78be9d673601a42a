use mathlib.Core.Path.{◌≡◌}
use Prim.Native.Nat.{◌+◌, ◌-◌}
use native.Mathlib.Omega.{arith}
use lib.ListN.{length, get_or, take, drop, length-take}
use Rattle.std.proofs.Common.{rules}
use Rattle.spell.proofs.WriteLaws.{wrote-end, decimal-few, spaced-few}
use Rattle.spell.proofs.EntryLaws.{names-empty, names_more}
use Rattle.spell.proofs.entries.print_names.Goals as goal

pub put_byte-requires : goal.put_byte-requires
put_byte-requires c = let e : c.put_byte-i.result ≡ 0 + 1 = wrote-end _ _ _ _ _ c.put_byte-i.ensures in omega arith

pub returns-then-is_empty : goal.returns-then-is_empty
returns-then-is_empty c = let z : length c.args.row.now ≡ 0 = search rules in names-empty _ _ _ _ _ _ z c.put_byte-i.ensures c.put_byte.ensures

pub put_decimal-j-requires : goal.put_decimal-j-requires
put_decimal-j-requires c = let e : c.put_byte-i.result ≡ 0 + 1 = wrote-end _ _ _ _ _ c.put_byte-i.ensures in omega arith

pub put_spaced-k-requires : goal.put_spaced-k-requires
put_spaced-k-requires c = let e : c.put_byte-i.result ≡ 0 + 1 = wrote-end _ _ _ _ _ c.put_byte-i.ensures in let f : c.put_decimal-j.result ≡ c.put_byte-i.result + _ = wrote-end _ _ _ _ _ c.put_decimal-j.ensures in let g = decimal-few (get_or c.args.row.now 0 0) in let q = length-take (length c.args.row.now - 1) (drop 1 c.args.row.now) in omega arith

pub put_byte-requires-2 : goal.put_byte-requires-2
put_byte-requires-2 c = let e : c.put_byte-i.result ≡ 0 + 1 = wrote-end _ _ _ _ _ c.put_byte-i.ensures in let f : c.put_decimal-j.result ≡ c.put_byte-i.result + _ = wrote-end _ _ _ _ _ c.put_decimal-j.ensures in let g = decimal-few (get_or c.args.row.now 0 0) in let h = wrote-end _ _ _ _ _ c.put_spaced-k.ensures in let m = spaced-few (take (length c.args.row.now - 1) (drop 1 c.args.row.now)) in let q = length-take (length c.args.row.now - 1) (drop 1 c.args.row.now) in omega arith

pub returns : goal.returns
returns c = let z : (length c.args.row.now ≡ 0 → ⊥) = search rules in names_more _ _ _ _ _ _ _ _ _ _ z c.put_byte-i.ensures c.put_decimal-j.ensures c.put_spaced-k.ensures c.put_byte-2.ensures
