use native.Mathlib.Omega.{arith}
use mathlib.Core.Path.{refl, sym, ◌∙◌}
use Prim.Native.Nat.{◌+◌}
use lib.ListN.{length, drop, set}
use Rattle.tree.specs.Form.{encode}
use Rattle.form.specs.Lists.{filled}
use Rattle.rules.specs.Replacement.{index_of}
use Rattle.rules.specs.Partial.{no_places}
use Rattle.places.proofs.PartsLaws.{open-both, beside-in, marked-open, marks-long}
use Rattle.places.proofs.StepLaws.{parts_none, next-is}
use Rattle.member.proofs.ShareLaws.{no-table, spot-low, table_filled, spot_is, placed, next_part, share-fill, share-pass, shifted-length, share-none}
use Rattle.member.proofs.shares.offer_parts.Goals as goal

pub loop-todo-init : goal.loop-todo-init
loop-todo-init c = (no_places c.args.n, no-table c.args.row.now c.args.marks.now c.args.n _ c.requires.few c.no_table-table.ensures, λ t e m o z. z, c.requires.beside, c.requires.marked, refl)

pub overflow_add-p : goal.overflow_add-p
overflow_add-p c = let h = beside-in c.loop-todo.invariant.3 c.loop-todo-test.true in omega arith

pub overflow_add-q : goal.overflow_add-q
overflow_add-q c = let h = beside-in c.loop-todo.invariant.3 c.loop-todo-test.true in omega arith

pub overflow_add-todo : goal.overflow_add-todo
overflow_add-todo c = let h = beside-in c.loop-todo.invariant.3 c.loop-todo-test.true in omega arith

pub loop-todo-smaller-then-both_pairs : goal.loop-todo-smaller-then-both_pairs
loop-todo-smaller-then-both_pairs c = let h = beside-in c.loop-todo.invariant.3 c.loop-todo-test.true in omega arith

pub loop-todo-preserved-then-both_pairs : goal.loop-todo-preserved-then-both_pairs
loop-todo-preserved-then-both_pairs c =
    let both = sym c.both_pairs.ensures ∙ c.if-both_pairs.true in
    let h = open-both _ c.loop-todo.invariant.3 c.loop-todo-test.true both in
    (c.loop-todo.invariant.0, c.loop-todo.invariant.1, λ t e m o z. c.loop-todo.invariant.2 t e m o (rw h.1 z), h.0, marked-open c.args.row.now c.args.marks.now _ c.loop-todo.invariant.3 c.loop-todo-test.true both c.loop-todo.invariant.4, c.loop-todo.invariant.5)

pub write_shifted-w-requires : goal.write_shifted-w-requires
write_shifted-w-requires c =
    let x = next_part c.args.row.now c.args.marks.now _ _ _ _ _ _ c.loop-todo.invariant.3 c.loop-todo-test.true (sym c.both_pairs.ensures ∙ c.if-both_pairs.false) c.loop-todo.invariant.4 c.part_at-part.result c.part_at-part.ensures in
    (x.within, c.requires.long, omega arith)

pub loop-todo-smaller-in_default : goal.loop-todo-smaller-in_default
loop-todo-smaller-in_default c =
    let x = next_part c.args.row.now c.args.marks.now _ _ _ _ _ _ c.loop-todo.invariant.3 c.loop-todo-test.true (sym c.both_pairs.ensures ∙ c.if-both_pairs.false) c.loop-todo.invariant.4 c.part_at-part.result c.part_at-part.ensures in
    omega arith

pub loop-todo-preserved-in_default : goal.loop-todo-preserved-in_default
loop-todo-preserved-in_default c =
    let x = next_part c.args.row.now c.args.marks.now _ _ _ _ _ _ c.loop-todo.invariant.3 c.loop-todo-test.true (sym c.both_pairs.ensures ∙ c.if-both_pairs.false) c.loop-todo.invariant.4 c.part_at-part.result c.part_at-part.ensures in
    let sides = c.part_at-part.result in
    let is = c.part_at-part.ensures in
    let spot = spot_is c.loop-todo.invariant.1 x.part.l x.part.ok-l sides.left (drop (c.loop-todo.p + length (encode x.part.l)) c.args.row.now) x.words _ c.spot_in.ensures in
    let long = shifted-length c.args.marks.now x.part sides is x.marks c.args.up c.requires.long x.within _ _ _ c.write_shifted-w.ensures in (
      c.loop-todo.invariant.0,
      c.loop-todo.invariant.1,
      λ t e m o z. c.loop-todo.invariant.2 t e m o (share-pass c.args.marks.now x.part sides is x.marks (marks-long x.part.r) c.args.n c.args.up c.requires.low c.loop-todo.invariant.0 c.spot_in.result spot c.in_default.is c.loop-todo.out _ _ c.write_shifted-w.ensures t e m o z),
      rw c.write_shifted-w.auto.out (next-is x.part sides is _ _ (omega arith) (omega arith)),
      x.rest,
      c.write_shifted-w.auto.out ∙ c.loop-todo.invariant.5,
    )

pub loop-todo-smaller : goal.loop-todo-smaller
loop-todo-smaller c =
    let x = next_part c.args.row.now c.args.marks.now _ _ _ _ _ _ c.loop-todo.invariant.3 c.loop-todo-test.true (sym c.both_pairs.ensures ∙ c.if-both_pairs.false) c.loop-todo.invariant.4 c.part_at-part.result c.part_at-part.ensures in
    omega arith

pub loop-todo-preserved : goal.loop-todo-preserved
loop-todo-preserved c =
    let x = next_part c.args.row.now c.args.marks.now _ _ _ _ _ _ c.loop-todo.invariant.3 c.loop-todo-test.true (sym c.both_pairs.ensures ∙ c.if-both_pairs.false) c.loop-todo.invariant.4 c.part_at-part.result c.part_at-part.ensures in
    let sides = c.part_at-part.result in
    let is = c.part_at-part.ensures in
    let spot = spot_is c.loop-todo.invariant.1 x.part.l x.part.ok-l sides.left (drop (c.loop-todo.p + length (encode x.part.l)) c.args.row.now) x.words _ c.spot_in.ensures in
    let low = spot-low c.args.n c.loop-todo.invariant.0 (index_of x.part.l) c.in-Some.place (sym spot ∙ c.in-Some.is) in (
      set c.loop-todo.invariant.0 c.in-Some.place (filled x.part.r),
      rw c.fill_place.ensures (table_filled c.loop-todo.invariant.1 c.requires.few c.in-Some.place low sides.right sides.end x.part.r (placed c.args.marks.now x.part sides is x.marks (marks-long x.part.r)) x.within.right-up x.within.right-in),
      λ t e m o z. c.loop-todo.invariant.2 t e m o (share-fill c.args.marks.now x.part sides is x.marks (marks-long x.part.r) c.args.n c.args.up c.requires.low c.loop-todo.invariant.0 c.spot_in.result spot c.in-Some.place c.in-Some.is c.loop-todo.out t e m o z),
      next-is x.part sides is _ _ (omega arith) (omega arith),
      x.rest,
      c.loop-todo.invariant.5,
    )

pub returns : goal.returns
returns c = c.loop-todo.invariant.2 _ _ _ _ (share-none _ _ _ _ _ _ _ _ _ _ (parts_none c.args.row.now _ _ _ c.loop-todo-test.false) c.loop-todo.invariant.1)
