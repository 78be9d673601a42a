use mathlib.Core.Path.{◌≡◌, ◌∙◌}
use Prim.Native.Nat.{◌+◌}
use native.Mathlib.Omega.{arith}
use Rattle.spell.proofs.WriteLaws.{wrote-end}
use Rattle.spell.proofs.EntryLaws.{entries_none, entries-stop, entries-more, entry-within}
use Rattle.spell.proofs.entries.print_entries.Goals as goal

pub print_entry-requires : goal.print_entry-requires
print_entry-requires c = let e : c.put_byte.result ≡ c.loop-spot.spot.out + 1 = wrote-end _ _ _ _ _ c.put_byte.ensures in omega (arith, c.loop-spot.invariant.room)

pub returns-in_err-spot-clause-printed_entries : goal.returns-in_err-spot-clause-printed_entries
returns-in_err-spot-clause-printed_entries c = rw c.from_residual.ensures (c.loop-spot.invariant.after _ _ (entries-stop _ _ _ _ _ _ c.loop-spot-test.true _ _ _ _ c.print_entry.ensures _ c.in_err-spot.was))

pub loop-spot-smaller : goal.loop-spot-smaller
loop-spot-smaller c =
    let (l, w) = entry-within _ _ 0 _ c.loop-spot.spot.out c.loop-spot.out c.loop-spot-test.true _ _ _ _ c.print_entry.ensures _ _ c.in_ok-spot.was in
    omega arith

pub loop-spot-preserved : goal.loop-spot-preserved
loop-spot-preserved c =
    let e : c.put_byte.result ≡ c.loop-spot.spot.out + 1 = wrote-end _ _ _ _ _ c.put_byte.ensures in
    let (l, w) = entry-within _ _ 0 _ c.loop-spot.spot.out c.loop-spot.out c.loop-spot-test.true _ _ _ _ c.print_entry.ensures _ _ c.in_ok-spot.was in
    let h = c.loop-spot.invariant.room in
    record {
      after = λ b r t. c.loop-spot.invariant.after b r (entries-more _ _ _ _ _ _ c.loop-spot-test.true _ _ _ _ c.print_entry.ensures _ _ c.in_ok-spot.was c.put_byte.ensures b r t);
      room = omega arith;
      same_length = c.print_entry.auto.out ∙ c.put_byte.auto.out ∙ c.loop-spot.invariant.same_length;
    }

pub returns-clause-printed_entries : goal.returns-clause-printed_entries
returns-clause-printed_entries c = c.loop-spot.invariant.after _ _ (entries_none c.args.row.now _ _ _ _ _ c.loop-spot-test.false)
