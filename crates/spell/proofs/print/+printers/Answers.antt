-- The proof of the cycle of calls {print_child, print_decl, print_decls, print_kids, print_node, print_nodes, print_noted}. The measure is eight times the words that are left, and a little more for a
-- function that calls another at the same place.
use mathlib.Core.Path.{◌≡◌, ap, sym, ◌∙◌}
use Prim.Native.Nat.{◌+◌, ◌-◌, ◌*◌, ◌≤◌}
use native.Mathlib.Nat.{le_trans}
use native.Mathlib.Omega.{arith}
use lib.ListN.{replicate}
use Rattle.std.specs.Prelude.{Some}
use Rattle.std.proofs.Common.{rules}
use Rattle.tree.specs.Form.{pick}
use Rattle.tree.specs.Tag.{expr, pred}
use Rattle.form.proofs.HeadLaws.{asked_in}
use Rattle.form.proofs.LeafLaws.{leaf_room}
use Rattle.spell.proofs.WriteLaws.{wrote-end}
use Rattle.spell.proofs.PrintLaws.{printed-within, all-within, all_more, all-stop, all_none, both_go, both-stop}
use Rattle.spell.proofs.PrintDecls.{spaced-two, decl-no-name, decl-no-flag, decl-bare, decl-typed, decls-more, decls-stop, decls-none, decl-within, decls-within, noted-stop, noted-bare, noted-end, noted_go}
use Rattle.spell.proofs.NodeLaws.{opening-few, too-deep, past_end, no_own, kids-stop, a-form, kids-within, leaf-printed, a-noted, flags-within}
use Rattle.spell.proofs.print.+printers.Goals as goal

pub print_child-overflow_add-result : goal.print_child-overflow_add-result
print_child-overflow_add-result t c = let (x, y) = leaf_room c.args.row.now c.args.at.row c.args.depth (sym c.is_leaf.ensures ∙ c.if-is_leaf.true) in omega arith

pub print_child-put_leaf-requires : goal.print_child-put_leaf-requires
print_child-put_leaf-requires t c = let (x, y) = leaf_room c.args.row.now c.args.at.row c.args.depth (sym c.is_leaf.ensures ∙ c.if-is_leaf.true) in (y, omega arith)

pub print_child-returns-then-is_leaf : goal.print_child-returns-then-is_leaf
print_child-returns-then-is_leaf t c = rw c.if-expression.true (leaf-printed _ _ _ _ _ _ _ (sym c.is_leaf.ensures ∙ c.if-is_leaf.true) c.put_leaf.ensures)

pub print_decl-returns-in_err-asked : goal.print_decl-returns-in_err-asked
print_decl-returns-in_err-asked t c = rw c.from_residual.ensures (decl-no-name _ _ _ _ _ _ (sym c.asked.ensures ∙ c.in_err-asked.was))

pub print_decl-overflow_add-at : goal.print_decl-overflow_add-at
print_decl-overflow_add-at t c = let h = asked_in _ _ c.args.row.now c.args.at.row _ (sym c.asked.ensures ∙ c.in_ok-asked.was) in omega arith

pub print_decl-returns-in_err-flag : goal.print_decl-returns-in_err-flag
print_decl-returns-in_err-flag t c = rw c.from_residual-in_err-flag.ensures (decl-no-flag _ _ _ _ _ _ _ (sym c.asked.ensures ∙ c.in_ok-asked.was) (sym c.asked-2.ensures ∙ c.in_err-flag.was))

pub print_decl-overflow_add-end : goal.print_decl-overflow_add-end
print_decl-overflow_add-end t c = let h = asked_in _ _ c.args.row.now (c.args.at.row + 1) _ (sym c.asked-2.ensures ∙ c.in_ok-flag.was) in omega arith

pub print_decl-offset_bounds-row-at : goal.print_decl-offset_bounds-row-at
print_decl-offset_bounds-row-at t c = let h = asked_in _ _ c.args.row.now (c.args.at.row + 1) _ (sym c.asked-2.ensures ∙ c.in_ok-flag.was) in omega arith

pub print_decl-slice_bounds-put_spaced-end : goal.print_decl-slice_bounds-put_spaced-end
print_decl-slice_bounds-put_spaced-end t c = let h = asked_in _ _ c.args.row.now (c.args.at.row + 1) _ (sym c.asked-2.ensures ∙ c.in_ok-flag.was) in search rules

pub print_decl-returns-then-flag-eq0 : goal.print_decl-returns-then-flag-eq0
print_decl-returns-then-flag-eq0 t c = decl-bare _ _ _ _ _ _ _ _ _ (sym c.asked.ensures ∙ c.in_ok-asked.was) (sym c.asked-2.ensures ∙ c.in_ok-flag.was) c.if-flag-eq0.true c.put_spaced-i.ensures

pub print_decl-put_byte-k-requires : goal.print_decl-put_byte-k-requires
print_decl-put_byte-k-requires t c = let h = asked_in _ _ c.args.row.now (c.args.at.row + 1) _ (sym c.asked-2.ensures ∙ c.in_ok-flag.was) in let e : c.put_spaced-i.result ≤ c.args.at.out + 22 = spaced-two c.args.at.row _ _ _ _ _ c.put_spaced-i.ensures in omega arith

pub print_decl-print_child-requires : goal.print_decl-print_child-requires
print_decl-print_child-requires t c = let h = asked_in _ _ c.args.row.now (c.args.at.row + 1) _ (sym c.asked-2.ensures ∙ c.in_ok-flag.was) in let e : c.put_spaced-i.result ≤ c.args.at.out + 22 = spaced-two c.args.at.row _ _ _ _ _ c.put_spaced-i.ensures in let z : c.put_byte-k.result ≡ c.put_spaced-i.result + 1 = wrote-end _ _ _ _ _ c.put_byte-k.ensures in (omega arith, omega arith)

pub print_decl-returns : goal.print_decl-returns
print_decl-returns t c = decl-typed _ _ _ _ _ _ _ _ _ _ _ _ _ (sym c.asked.ensures ∙ c.in_ok-asked.was) (sym c.asked-2.ensures ∙ c.in_ok-flag.was) c.if-flag-eq0.false c.put_spaced-i.ensures c.put_byte-k.ensures c.print_child.ensures

pub print_decls-returns-in_err-spot : goal.print_decls-returns-in_err-spot
print_decls-returns-in_err-spot t c = rw c.from_residual.ensures (c.loop.invariant.after _ _ (decls-stop _ _ (c.args.n - c.loop.counter) _ _ _ _ _ _ (let h = c.loop-test.true in omega arith) c.print_decl.ensures c.in_err-spot.was))

pub print_decls-loop-preserved : goal.print_decls-loop-preserved
print_decls-loop-preserved t c =
    let (g, k) = decl-within _ _ _ _ _ _ _ _ _ c.print_decl.ensures c.in_ok-spot.was in
    let left : c.args.n - (c.loop.counter + 1) ≡ c.args.n - c.loop.counter - 1 = omega arith in
    record {
      after = λ b r t. c.loop.invariant.after b r (decls-more _ _ (c.args.n - c.loop.counter) _ _ _ _ _ _ _ (let h = c.loop-test.true in omega arith) c.print_decl.ensures c.in_ok-spot.was b r (rw left at t));
      behind = le_trans c.loop.invariant.behind g;
      room = omega arith;
      same_length = c.print_decl.auto.out ∙ c.loop.invariant.same_length;
    }

pub print_decls-returns : goal.print_decls-returns
print_decls-returns t c = c.loop.invariant.after _ _ (decls-none _ _ (c.args.n - c.loop.counter) _ _ _ (let h = c.loop-test.false in omega arith))

pub print_kids-returns-in_err-spot : goal.print_kids-returns-in_err-spot
print_kids-returns-in_err-spot t c = rw c.from_residual.ensures (both-stop _ _ (replicate c.args.preds pred) (replicate c.args.exprs expr) _ _ _ _ _ _ c.print_nodes.ensures c.in_err-spot.was)

pub print_kids-print_nodes-requires-2 : goal.print_kids-print_nodes-requires-2
print_kids-print_nodes-requires-2 t c = let (g, k) = all-within _ _ (replicate c.args.preds pred) _ _ _ _ _ _ _ c.print_nodes.ensures c.in_ok-spot.was in (omega arith, omega arith)

pub print_kids-returns : goal.print_kids-returns
print_kids-returns t c = both_go _ _ (replicate c.args.preds pred) (replicate c.args.exprs expr) _ _ _ _ _ _ _ _ _ c.print_nodes.ensures c.in_ok-spot.was c.print_nodes-2.ensures

pub print_node-returns-then-depth-eq0 : goal.print_node-returns-then-depth-eq0
print_node-returns-then-depth-eq0 t c = too-deep (pick c.args.expression expr pred) _ _ _ _ _ _ c.if-depth-eq0.true

pub print_node-returns-then-row-at : goal.print_node-returns-then-row-at
print_node-returns-then-row-at t c = past_end (pick c.args.expression expr pred) _ _ _ _ _ _ c.if-row-at.true

pub print_node-returns-in_err-head : goal.print_node-returns-in_err-head
print_node-returns-in_err-head t c = rw c.from_residual.ensures (no_own (pick c.args.expression expr pred) c.args.row.now c.args.at.row c.if-row-at.false c.node_head.ensures _ _ _ _ c.if-depth-eq0.false c.in_err-head.was)

pub print_node-put_head-i-requires : goal.print_node-put_head-i-requires
print_node-put_head-i-requires t c = let (h, w) = kids-within (pick c.args.expression expr pred) c.args.row.now c.args.at.row c.if-row-at.false c.node_head.ensures _ _ _ _ (c.in_ok-head.was ∙ ap Some c.in-Kids.is) in (h, w, omega arith)

pub print_node-print_kids-requires : goal.print_node-print_kids-requires
print_node-print_kids-requires t c = let (h, w) = kids-within (pick c.args.expression expr pred) c.args.row.now c.args.at.row c.if-row-at.false c.node_head.ensures _ _ _ _ (c.in_ok-head.was ∙ ap Some c.in-Kids.is) in let f : c.put_head-i.result ≤ c.args.at.out + 11 + 11 * (c.in-Kids.p - (c.args.at.row + 1)) = opening-few _ _ _ _ _ _ _ c.put_head-i.ensures in (omega arith, omega arith)

pub print_node-returns-in_err-kids-in-Kids : goal.print_node-returns-in_err-kids-in-Kids
print_node-returns-in_err-kids-in-Kids t c = rw c.from_residual-in_err-kids-in-Kids.ensures (kids-stop (pick c.args.expression expr pred) c.args.row.now c.args.at.row c.if-row-at.false c.node_head.ensures _ _ _ _ _ _ _ _ _ _ _ _ c.if-depth-eq0.false (c.in_ok-head.was ∙ ap Some c.in-Kids.is) c.print_kids.ensures c.in_err-kids-in-Kids.was)

pub print_node-put_byte-requires : goal.print_node-put_byte-requires
print_node-put_byte-requires t c = let (h, w) = kids-within (pick c.args.expression expr pred) c.args.row.now c.args.at.row c.if-row-at.false c.node_head.ensures _ _ _ _ (c.in_ok-head.was ∙ ap Some c.in-Kids.is) in let f : c.put_head-i.result ≤ c.args.at.out + 11 + 11 * (c.in-Kids.p - (c.args.at.row + 1)) = opening-few _ _ _ _ _ _ _ c.put_head-i.ensures in let (g, z) = all-within _ _ _ _ _ _ _ _ _ _ c.print_kids.ensures c.in_ok-kids-in-Kids.was in omega arith

pub print_node-put_head-i-requires-in-Noted : goal.print_node-put_head-i-requires-in-Noted
print_node-put_head-i-requires-in-Noted t c = let (h, w) = flags-within (pick c.args.expression expr pred) c.args.row.now c.args.at.row c.if-row-at.false c.node_head.ensures _ _ _ _ (c.in_ok-head.was ∙ ap Some c.in-Noted.is) in (h, w, omega arith)

pub print_node-print_noted-requires : goal.print_node-print_noted-requires
print_node-print_noted-requires t c = let (h, w) = flags-within (pick c.args.expression expr pred) c.args.row.now c.args.at.row c.if-row-at.false c.node_head.ensures _ _ _ _ (c.in_ok-head.was ∙ ap Some c.in-Noted.is) in let f : c.put_head-i-in-Noted.result ≤ c.args.at.out + 11 + 11 * (c.in-Noted.p - (c.args.at.row + 1)) = opening-few _ _ _ _ _ _ _ c.put_head-i-in-Noted.ensures in (omega arith, omega arith)

pub print_node-returns-in_ok-kids-in-Kids : goal.print_node-returns-in_ok-kids-in-Kids
print_node-returns-in_ok-kids-in-Kids t c = a-form (pick c.args.expression expr pred) c.args.row.now c.args.at.row c.if-row-at.false c.node_head.ensures _ _ _ _ _ _ _ _ _ _ _ _ _ _ _ c.if-depth-eq0.false (c.in_ok-head.was ∙ ap Some c.in-Kids.is) c.put_head-i.ensures c.print_kids.ensures c.in_ok-kids-in-Kids.was c.put_byte.ensures

pub print_node-returns-in-Noted : goal.print_node-returns-in-Noted
print_node-returns-in-Noted t c = a-noted (pick c.args.expression expr pred) c.args.row.now c.args.at.row c.if-row-at.false c.node_head.ensures _ _ _ _ _ _ _ _ _ _ _ c.if-depth-eq0.false (c.in_ok-head.was ∙ ap Some c.in-Noted.is) c.put_head-i-in-Noted.ensures c.print_noted.ensures

pub print_nodes-print_child-requires : goal.print_nodes-print_child-requires
print_nodes-print_child-requires t c = let e : c.put_byte-k.result ≡ c.loop.spot.out + 1 = wrote-end _ _ _ _ _ c.put_byte-k.ensures in (let b = c.loop.invariant.behind in omega arith, omega arith)

pub print_nodes-returns-in_err-spot : goal.print_nodes-returns-in_err-spot
print_nodes-returns-in_err-spot t c = rw c.from_residual.ensures (c.loop.invariant.after _ _ (all-stop _ _ (pick c.args.expression expr pred) (c.args.n - c.loop.counter) _ _ _ _ _ _ _ _ (let h = c.loop-test.true in omega arith) c.print_child.ensures c.in_err-spot.was))

pub print_nodes-loop-preserved : goal.print_nodes-loop-preserved
print_nodes-loop-preserved t c =
    let e : c.put_byte-k.result ≡ c.loop.spot.out + 1 = wrote-end _ _ _ _ _ c.put_byte-k.ensures in
    let (g, k) = printed-within _ _ (pick c.args.expression expr pred) _ _ _ _ _ _ _ c.print_child.ensures c.in_ok-spot.was in
    let left : c.args.n - (c.loop.counter + 1) ≡ c.args.n - c.loop.counter - 1 = omega arith in
    record {
      after = λ b r t. c.loop.invariant.after b r (all_more _ _ (pick c.args.expression expr pred) (c.args.n - c.loop.counter) _ _ _ _ _ _ _ _ _ (let h = c.loop-test.true in omega arith) c.put_byte-k.ensures c.print_child.ensures c.in_ok-spot.was b r (rw left at t));
      behind = le_trans c.loop.invariant.behind g;
      room = omega arith;
      same_length = c.print_child.auto.out ∙ c.put_byte-k.auto.out ∙ c.loop.invariant.same_length;
    }

pub print_nodes-returns : goal.print_nodes-returns
print_nodes-returns t c = c.loop.invariant.after _ _ (all_none _ _ (pick c.args.expression expr pred) (c.args.n - c.loop.counter) _ _ _ (let h = c.loop-test.false in omega arith))

pub print_noted-returns-in_err-declared : goal.print_noted-returns-in_err-declared
print_noted-returns-in_err-declared t c = rw c.from_residual.ensures (noted-stop _ _ _ _ _ _ _ _ _ c.print_decls.ensures _ c.in_err-declared.was)

pub print_noted-overflow_sub-declared : goal.print_noted-overflow_sub-declared
print_noted-overflow_sub-declared t c = let (g, h) = decls-within _ _ _ _ _ _ _ _ _ _ c.print_decls.ensures c.in_ok-declared.was in omega arith

pub print_noted-returns-then-declared-at : goal.print_noted-returns-then-declared-at
print_noted-returns-then-declared-at t c = noted-bare _ _ _ _ _ _ _ _ _ c.print_decls.ensures _ _ _ c.in_ok-declared.was c.if-declared-at.true

pub print_noted-print_kids-requires : goal.print_noted-print_kids-requires
print_noted-print_kids-requires t c = let (g, h) = decls-within _ _ _ _ _ _ _ _ _ _ c.print_decls.ensures c.in_ok-declared.was in (omega arith, omega arith)

pub print_noted-returns-in_err-kids : goal.print_noted-returns-in_err-kids
print_noted-returns-in_err-kids t c = rw c.from_residual-in_err-kids.ensures (noted-end _ _ _ _ _ _ _ _ _ c.print_decls.ensures _ _ _ _ _ c.in_ok-declared.was c.print_kids.ensures c.in_err-kids.was)

pub print_noted-put_byte-requires : goal.print_noted-put_byte-requires
print_noted-put_byte-requires t c = let (g, h) = decls-within _ _ _ _ _ _ _ _ _ _ c.print_decls.ensures c.in_ok-declared.was in let (u, v) = all-within _ _ _ _ _ _ _ _ _ _ c.print_kids.ensures c.in_ok-kids.was in omega arith

pub print_noted-returns : goal.print_noted-returns
print_noted-returns t c = noted_go _ _ _ _ _ _ _ _ _ c.print_decls.ensures _ _ _ _ _ _ _ c.in_ok-declared.was c.if-declared-at.false c.print_kids.ensures c.in_ok-kids.was _ c.put_byte.ensures
