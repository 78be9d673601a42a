use mathlib.Core.Path.{◌≡◌}
use Prim.Native.Nat.{◌+◌}
use native.Mathlib.Omega.{arith}
use Rattle.spell.proofs.WriteLaws.{wrote-end}
use Rattle.spell.proofs.EntryLaws.{place-past, place_other, place-go, place_kept}
use Rattle.spell.proofs.entries.print_place.Goals as goal

pub returns-then-row-at : goal.returns-then-row-at
returns-then-row-at c = place-past _ _ _ _ _ c.if-row-at.true

pub put_byte-requires : goal.put_byte-requires
put_byte-requires c = let e : c.put_byte-i.result ≡ c.args.at.out + 1 = wrote-end _ _ _ _ _ c.put_byte-i.ensures in omega arith

pub returns-in-0 : goal.returns-in-0
returns-in-0 c = place_kept _ _ _ c.if-row-at.false _ _ _ _ _ c.in-0.is c.put_byte-i.ensures c.put_byte.ensures

pub returns-in-1 : goal.returns-in-1
returns-in-1 c = place-go _ _ _ c.if-row-at.false _ _ _ c.in-1.is c.print_node.ensures

pub returns-in_default : goal.returns-in_default
returns-in_default c = place_other _ _ _ c.if-row-at.false _ _ (omega arith)
