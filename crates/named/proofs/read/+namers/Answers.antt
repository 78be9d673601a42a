-- The proof of the cycle of calls {name_all, name_decl, name_decls, name_form, name_noted, name_under}. The measure is four times the depth that is left, and a little more for a
-- function that calls another at the same depth.
use mathlib.Core.Path.{◌≡◌, refl, sym, ap, ◌∙◌}
use Rattle.std.specs.Prelude.{Some}
use Prim.Native.Nat.{◌+◌, ◌-◌}
use native.Mathlib.Nat.{le_refl}
use native.Mathlib.Omega.{arith}
use borrow.Author.Rules.{rules}
use lib.ListN.{length, replicate, length-set}
use lib.Seq.{length-take-le}
use Rattle.tree.specs.Tag.{expr, pred}
use Rattle.rules.specs.Named.{opened}
use Rattle.named.specs.Internal.Scope.{scope_of}
use Rattle.named.specs.Internal.Reads.{sort_of}
use Rattle.form.proofs.HeadLaws.{asked_in}
use Rattle.named.proofs.SlotLaws.{sized-at}
use Rattle.named.proofs.WroteLaws.{rises, rises-all, all_more, all-stop, all_none, both_go, both-stop}
use Rattle.named.proofs.NodeLaws.{too-deep, past_end, a-node, a-noted, no_node, kids-after, flags-after}
use Rattle.named.proofs.DeclLaws.{decl-no-name, decl-no-flag, decl-bare, decl-typed, decl-rises, decls-none, decls-stop, decls-more, decls-rise, noted-stop, noted-bare, noted_go}
use Rattle.named.proofs.ReadyLaws.{ready-next, kept-bad, kept_same, kept-end, end_kept, kept_then, leaf-at, open-long, open-holds, open-names, close-kept, name-next}
use Rattle.named.proofs.read.+namers.Goals as goal

pub name_all-loop-init : goal.name_all-loop-init
name_all-loop-init t c = (λ b r t. let z : c.args.n - 0 ≡ c.args.n = omega arith in rw z at t, le_refl _, refl, refl, c.requires.held, refl)

pub name_all-name_form-requires : goal.name_all-name_form-requires
name_all-name_form-requires t c = (omega arith, ready-next _ _ _ _ _ _ _ _ _ c.requires c.loop.invariant.2 c.loop.invariant.3 (omega arith) c.loop.invariant.4)

pub name_all-returns-in_err-p : goal.name_all-returns-in_err-p
name_all-returns-in_err-p t c = rw c.from_residual.ensures (let f = rw c.loop.invariant.5 at c.name_form.ensures.wrote in record { wrote_all = c.loop.invariant.0 _ _ (all-stop c.args.depth c.args.row.now (scope_of c.args.scope.now c.args.under) (sort_of c.args.expression) _ _ _ _ _ _ (let h = c.loop-test.true in omega arith) f c.in_err-p.was); kept = kept-bad _ _ _ })

pub name_all-loop-preserved : goal.name_all-loop-preserved
name_all-loop-preserved t c = let f = rw c.loop.invariant.5 at c.name_form.ensures.wrote in let k = kept-end _ _ _ _ _ c.name_form.ensures.kept c.in_ok-p.was in let j = rises _ _ _ _ _ _ _ f c.in_ok-p.was in (λ b r t. let left : c.args.n - (c.loop.counter + 1) ≡ c.args.n - c.loop.counter - 1 = omega arith in c.loop.invariant.0 b r (all_more c.args.depth c.args.row.now (scope_of c.args.scope.now c.args.under) (sort_of c.args.expression) _ _ _ _ _ _ (let h = c.loop-test.true in omega arith) f c.in_ok-p.was b r (rw left at t)), omega arith, c.name_form.auto.made ∙ c.loop.invariant.2, c.name_form.auto.scope ∙ c.loop.invariant.3, k.0, k.1 ∙ c.loop.invariant.5)

pub name_all-returns : goal.name_all-returns
name_all-returns t c = record { wrote_all = c.loop.invariant.0 _ _ (all_none c.args.depth c.args.row.now (scope_of c.args.scope.now c.args.under) (sort_of c.args.expression) _ _ _ (let h = c.loop-test.false in omega arith)); kept = end_kept _ _ _ _ c.loop.invariant.4 c.loop.invariant.5 }

pub name_decl-returns-in_err-m : goal.name_decl-returns-in_err-m
name_decl-returns-in_err-m t c = rw c.from_residual.ensures (record { wrote_decl = decl-no-name c.args.depth c.args.row.now (scope_of c.args.scope.now c.args.under) c.args.at c.args.made.now c.args.made.now (sym c.asked.ensures ∙ c.in_err-m.was); kept = kept-bad _ _ _ })

pub name_decl-overflow_add-at : goal.name_decl-overflow_add-at
name_decl-overflow_add-at t c = let n = asked_in 0 65535 c.args.row.now c.args.at _ (sym c.asked.ensures ∙ c.in_ok-m.was) in search rules

pub name_decl-returns-in_err-flag : goal.name_decl-returns-in_err-flag
name_decl-returns-in_err-flag t c = rw c.from_residual-in_err-flag.ensures (record { wrote_decl = decl-no-flag c.args.depth c.args.row.now (scope_of c.args.scope.now c.args.under) c.args.at _ c.args.made.now c.args.made.now (sym c.asked.ensures ∙ c.in_ok-m.was) (sym c.asked-2.ensures ∙ c.in_err-flag.was); kept = kept-bad _ _ _ })

pub name_decl-overflow_add-at-2 : goal.name_decl-overflow_add-at-2
name_decl-overflow_add-at-2 t c = let n = asked_in 0 65535 c.args.row.now c.args.at _ (sym c.asked.ensures ∙ c.in_ok-m.was) in let x = asked_in 0 1 c.args.row.now (c.args.at + 1) _ (sym c.asked-2.ensures ∙ c.in_ok-flag.was) in search rules

pub name_decl-copy_words-requires : goal.name_decl-copy_words-requires
name_decl-copy_words-requires t c = let n = asked_in 0 65535 c.args.row.now c.args.at _ (sym c.asked.ensures ∙ c.in_ok-m.was) in let x = asked_in 0 1 c.args.row.now (c.args.at + 1) _ (sym c.asked-2.ensures ∙ c.in_ok-flag.was) in (omega arith, omega arith)

pub name_decl-overflow_add-result : goal.name_decl-overflow_add-result
name_decl-overflow_add-result t c = let n = asked_in 0 65535 c.args.row.now c.args.at _ (sym c.asked.ensures ∙ c.in_ok-m.was) in let x = asked_in 0 1 c.args.row.now (c.args.at + 1) _ (sym c.asked-2.ensures ∙ c.in_ok-flag.was) in search rules

pub name_decl-returns-then-flag-eq0 : goal.name_decl-returns-then-flag-eq0
name_decl-returns-then-flag-eq0 t c = record { wrote_decl = decl-bare c.args.depth c.args.row.now (scope_of c.args.scope.now c.args.under) c.args.at _ _ c.args.made.now _ (sym c.asked.ensures ∙ c.in_ok-m.was) (sym c.asked-2.ensures ∙ c.in_ok-flag.was) c.copy_words.ensures c.if-flag-eq0.true; kept = kept_same _ _ _ c.requires.held }

pub name_decl-overflow_add-at-3 : goal.name_decl-overflow_add-at-3
name_decl-overflow_add-at-3 t c = let n = asked_in 0 65535 c.args.row.now c.args.at _ (sym c.asked.ensures ∙ c.in_ok-m.was) in let x = asked_in 0 1 c.args.row.now (c.args.at + 1) _ (sym c.asked-2.ensures ∙ c.in_ok-flag.was) in search rules

pub name_decl-name_form-requires : goal.name_decl-name_form-requires
name_decl-name_form-requires t c = (omega arith, ready-next _ _ _ _ _ _ _ _ _ c.requires c.copy_words.auto.made refl (omega arith) c.requires.held)

pub name_decl-returns : goal.name_decl-returns
name_decl-returns t c = record { wrote_decl = decl-typed c.args.depth c.args.row.now (scope_of c.args.scope.now c.args.under) c.args.at _ _ c.args.made.now _ (sym c.asked.ensures ∙ c.in_ok-m.was) (sym c.asked-2.ensures ∙ c.in_ok-flag.was) c.copy_words.ensures c.if-flag-eq0.false _ _ c.name_form.ensures.wrote; kept = c.name_form.ensures.kept }

pub name_decls-loop-i-init : goal.name_decls-loop-i-init
name_decls-loop-i-init t c = (λ b c₁ r l e t. let z : c.args.n - 0 ≡ c.args.n = omega arith in rw z at t, le_refl _, refl, refl, c.requires.ready.held, refl, omega arith, refl)

pub name_decls-name_decl-requires : goal.name_decls-name_decl-requires
name_decls-name_decl-requires t c = (omega arith, ready-next _ _ _ _ _ _ _ _ _ c.requires.ready c.loop-i.invariant.2 c.loop-i.invariant.3 (omega arith) c.loop-i.invariant.4)

pub name_decls-returns-in_err-q : goal.name_decls-returns-in_err-q
name_decls-returns-in_err-q t c = rw c.from_residual.ensures (let f = rw c.loop-i.invariant.5 at c.name_decl.ensures.wrote_decl in record { wrote_decls = c.loop-i.invariant.0 _ _ _ c.loop-i.invariant.7 (λ j h. refl) (decls-stop c.args.depth c.args.row.now (scope_of c.args.scope.now c.args.under) _ _ _ _ _ _ _ (omega arith) f c.in_err-q.was); kept = kept-bad _ _ _ })

pub name_decls-offset_bounds-row-p : goal.name_decls-offset_bounds-row-p
name_decls-offset_bounds-row-p t c = let f = rw c.loop-i.invariant.5 at c.name_decl.ensures.wrote_decl in let j = decl-rises c.args.depth c.args.row.now (scope_of c.args.scope.now c.args.under) _ _ _ _ _ f c.in_ok-q.was in search rules

pub name_decls-bounds-row-p : goal.name_decls-bounds-row-p
name_decls-bounds-row-p t c = let f = rw c.loop-i.invariant.5 at c.name_decl.ensures.wrote_decl in let j = decl-rises c.args.depth c.args.row.now (scope_of c.args.scope.now c.args.under) _ _ _ _ _ f c.in_ok-q.was in omega arith

pub name_decls-loop-i-preserved : goal.name_decls-loop-i-preserved
name_decls-loop-i-preserved t c = let f = rw c.loop-i.invariant.5 at c.name_decl.ensures.wrote_decl in let k = kept-end _ _ _ _ _ c.name_decl.ensures.kept c.in_ok-q.was in let j = decl-rises c.args.depth c.args.row.now (scope_of c.args.scope.now c.args.under) _ _ _ _ _ f c.in_ok-q.was in (λ b c₁ r l e u. let z : c.args.n - (c.loop-i.i + 1) ≡ c.args.n - c.loop-i.i - 1 = omega arith in let x = name-next c₁ c.loop-i.names c.loop-i.i _ (omega arith) e in c.loop-i.invariant.0 b c₁ r l x.0 (decls-more c.args.depth c.args.row.now (scope_of c.args.scope.now c.args.under) _ _ _ _ _ _ _ (omega arith) f c.in_ok-q.was b c₁ r (omega arith) x.1 (rw z at u)), omega arith, c.name_decl.auto.made ∙ c.loop-i.invariant.2, c.name_decl.auto.scope ∙ c.loop-i.invariant.3, k.0, k.1 ∙ c.loop-i.invariant.5, omega arith, length-set c.loop-i.names _ _ ∙ c.loop-i.invariant.7)

pub name_decls-returns : goal.name_decls-returns
name_decls-returns t c = record { wrote_decls = c.loop-i.invariant.0 _ _ _ c.loop-i.invariant.7 (λ j h. refl) (decls-none c.args.depth c.args.row.now (scope_of c.args.scope.now c.args.under) _ _ _ _ (omega arith)); kept = end_kept _ _ _ _ c.loop-i.invariant.4 c.loop-i.invariant.5 }

pub name_form-returns-then-depth-eq0 : goal.name_form-returns-then-depth-eq0
name_form-returns-then-depth-eq0 t c = record { wrote = too-deep (sort_of c.args.expression) c.args.row.now c.args.at (scope_of c.args.scope.now c.args.under) c.args.depth c.args.made.now c.args.made.now c.if-depth-eq0.true; kept = kept-bad _ _ _ }

pub name_form-returns-then-row-at : goal.name_form-returns-then-row-at
name_form-returns-then-row-at t c = record { wrote = past_end (sort_of c.args.expression) c.args.row.now c.args.at (scope_of c.args.scope.now c.args.under) c.args.depth c.args.made.now c.args.made.now c.if-row-at.true; kept = kept-bad _ _ _ }

pub name_form-name_leaf-requires : goal.name_form-name_leaf-requires
name_form-name_leaf-requires t c = record { ready = c.requires; at_in_bounds = (c.if-row-at.false, c.if-tag-le-BOUND_IDENT.true) }

pub name_form-returns-then-tag-le-BOUND_IDENT : goal.name_form-returns-then-tag-le-BOUND_IDENT
name_form-returns-then-tag-le-BOUND_IDENT t c = record { wrote = leaf-at c.args.at (scope_of c.args.scope.now c.args.under) (sort_of c.args.expression) _ c.args.made.now _ _ c.args.depth c.if-depth-eq0.false c.name_leaf.ensures; kept = kept_same _ _ _ c.requires.held }

pub name_form-copy_words-requires : goal.name_form-copy_words-requires
name_form-copy_words-requires t c = let k = kids-after (sort_of c.args.expression) c.args.row.now c.args.at (scope_of c.args.scope.now c.args.under) c.if-row-at.false c.if-tag-le-BOUND_IDENT.false c.head_of.ensures _ _ _ _ (c.in_ok-head.was ∙ ap Some c.in-Kids.is) in (k.1, omega arith)

pub name_form-overflow_sub-first : goal.name_form-overflow_sub-first
name_form-overflow_sub-first t c = let k = kids-after (sort_of c.args.expression) c.args.row.now c.args.at (scope_of c.args.scope.now c.args.under) c.if-row-at.false c.if-tag-le-BOUND_IDENT.false c.head_of.ensures _ _ _ _ (c.in_ok-head.was ∙ ap Some c.in-Kids.is) in omega arith

pub name_form-offset_bounds-row-first : goal.name_form-offset_bounds-row-first
name_form-offset_bounds-row-first t c = let k = kids-after (sort_of c.args.expression) c.args.row.now c.args.at (scope_of c.args.scope.now c.args.under) c.if-row-at.false c.if-tag-le-BOUND_IDENT.false c.head_of.ensures _ _ _ _ (c.in_ok-head.was ∙ ap Some c.in-Kids.is) in search rules

pub name_form-slice_bounds-name_under-count : goal.name_form-slice_bounds-name_under-count
name_form-slice_bounds-name_under-count t c = let k = kids-after (sort_of c.args.expression) c.args.row.now c.args.at (scope_of c.args.scope.now c.args.under) c.if-row-at.false c.if-tag-le-BOUND_IDENT.false c.head_of.ensures _ _ _ _ (c.in_ok-head.was ∙ ap Some c.in-Kids.is) in search rules

pub name_form-slice_bounds-name_under-start : goal.name_form-slice_bounds-name_under-start
name_form-slice_bounds-name_under-start t c = let k = kids-after (sort_of c.args.expression) c.args.row.now c.args.at (scope_of c.args.scope.now c.args.under) c.if-row-at.false c.if-tag-le-BOUND_IDENT.false c.head_of.ensures _ _ _ _ (c.in_ok-head.was ∙ ap Some c.in-Kids.is) in omega arith

pub name_form-slice_bounds-name_under-end : goal.name_form-slice_bounds-name_under-end
name_form-slice_bounds-name_under-end t c = let k = kids-after (sort_of c.args.expression) c.args.row.now c.args.at (scope_of c.args.scope.now c.args.under) c.if-row-at.false c.if-tag-le-BOUND_IDENT.false c.head_of.ensures _ _ _ _ (c.in_ok-head.was ∙ ap Some c.in-Kids.is) in omega arith

pub name_form-name_under-requires : goal.name_form-name_under-requires
name_form-name_under-requires t c = let k = kids-after (sort_of c.args.expression) c.args.row.now c.args.at (scope_of c.args.scope.now c.args.under) c.if-row-at.false c.if-tag-le-BOUND_IDENT.false c.head_of.ensures _ _ _ _ (c.in_ok-head.was ∙ ap Some c.in-Kids.is) in let w = k.3 in (omega arith, (ready-next _ _ _ _ _ _ _ _ _ c.requires c.copy_words.auto.made refl (omega arith) c.requires.held, (omega arith, k.1, omega arith)))

pub name_form-copy_words-requires-in-Noted : goal.name_form-copy_words-requires-in-Noted
name_form-copy_words-requires-in-Noted t c = let k = flags-after (sort_of c.args.expression) c.args.row.now c.args.at (scope_of c.args.scope.now c.args.under) c.if-row-at.false c.if-tag-le-BOUND_IDENT.false c.head_of.ensures _ _ _ _ (c.in_ok-head.was ∙ ap Some c.in-Noted.is) in (k.1, omega arith)

pub name_form-name_noted-requires : goal.name_form-name_noted-requires
name_form-name_noted-requires t c = let k = flags-after (sort_of c.args.expression) c.args.row.now c.args.at (scope_of c.args.scope.now c.args.under) c.if-row-at.false c.if-tag-le-BOUND_IDENT.false c.head_of.ensures _ _ _ _ (c.in_ok-head.was ∙ ap Some c.in-Noted.is) in (omega arith, (ready-next _ _ _ _ _ _ _ _ _ c.requires c.copy_words-in-Noted.auto.made refl (omega arith) c.requires.held, (k.2, k.1)))

pub name_form-returns-in-Kids : goal.name_form-returns-in-Kids
name_form-returns-in-Kids t c = record { wrote = a-node (sort_of c.args.expression) c.args.row.now c.args.at (scope_of c.args.scope.now c.args.under) c.if-row-at.false c.if-tag-le-BOUND_IDENT.false c.head_of.ensures _ _ _ _ _ _ _ _ _ c.if-depth-eq0.false (c.in_ok-head.was ∙ ap Some c.in-Kids.is) c.copy_words.ensures c.name_under.ensures.wrote_all; kept = c.name_under.ensures.kept }

pub name_form-returns-in-Noted : goal.name_form-returns-in-Noted
name_form-returns-in-Noted t c = record { wrote = a-noted (sort_of c.args.expression) c.args.row.now c.args.at (scope_of c.args.scope.now c.args.under) c.if-row-at.false c.if-tag-le-BOUND_IDENT.false c.head_of.ensures _ _ _ _ _ _ _ _ _ c.if-depth-eq0.false (c.in_ok-head.was ∙ ap Some c.in-Noted.is) c.copy_words-in-Noted.ensures c.name_noted.ensures.wrote_noted; kept = c.name_noted.ensures.kept }

pub name_form-returns-in_err-head : goal.name_form-returns-in_err-head
name_form-returns-in_err-head t c = rw c.from_residual.ensures (record { wrote = no_node (sort_of c.args.expression) c.args.row.now c.args.at (scope_of c.args.scope.now c.args.under) c.if-row-at.false c.if-tag-le-BOUND_IDENT.false c.head_of.ensures _ _ _ c.if-depth-eq0.false c.in_err-head.was; kept = kept-bad _ _ _ })

pub name_noted-name_decls-requires : goal.name_noted-name_decls-requires
name_noted-name_decls-requires t c = (omega arith, (c.requires.ready, c.requires.binds_bound.0))

pub name_noted-returns-in_err-p : goal.name_noted-returns-in_err-p
name_noted-returns-in_err-p t c = rw c.from_residual.ensures (record { wrote_noted = noted-stop c.args.depth c.args.row.now (scope_of c.args.scope.now c.args.under) c.args.at _ _ c.args.made.now _ _ _ _ c.name_decls.ensures.wrote_decls c.in_err-p.was; kept = kept-bad _ _ _ })

pub name_noted-overflow_sub-p : goal.name_noted-overflow_sub-p
name_noted-overflow_sub-p t c = let r = decls-rise c.args.depth c.args.row.now (scope_of c.args.scope.now c.args.under) c.args.at _ _ _ _ _ _ c.requires.binds_bound.1 c.name_decls.ensures.wrote_decls c.in_ok-p.was in omega arith

pub name_noted-returns-then-p-at : goal.name_noted-returns-then-p-at
name_noted-returns-then-p-at t c = record { wrote_noted = noted-bare c.args.depth c.args.row.now (scope_of c.args.scope.now c.args.under) c.args.at _ _ c.args.made.now _ _ _ _ c.name_decls.ensures.wrote_decls _ c.in_ok-p.was c.if-p-at.true; kept = kept-bad _ _ _ }

pub name_noted-slice_bounds-names-end : goal.name_noted-slice_bounds-names-end
name_noted-slice_bounds-names-end t c = let x : length c.name_decls.new.names ≡ 32 = c.name_decls.auto.names in omega arith

pub name_noted-slice_bounds-name_under-end : goal.name_noted-slice_bounds-name_under-end
name_noted-slice_bounds-name_under-end t c = let x : length c.name_decls.new.names ≡ 32 = c.name_decls.auto.names in sym (length-take-le _ c.name_decls.new.names (omega arith))

pub name_noted-name_under-requires : goal.name_noted-name_under-requires
name_noted-name_under-requires t c = let x : length c.name_decls.new.names ≡ 32 = c.name_decls.auto.names in let k = kept-end _ _ _ _ _ c.name_decls.ensures.kept c.in_ok-p.was in let r = decls-rise c.args.depth c.args.row.now (scope_of c.args.scope.now c.args.under) c.args.at _ _ _ _ _ _ c.requires.binds_bound.1 c.name_decls.ensures.wrote_decls c.in_ok-p.was in let w = length-take-le c.args.binds c.name_decls.new.names (omega arith) in (omega arith, (ready-next _ _ _ _ _ _ _ _ _ c.requires.ready c.name_decls.auto.made c.name_decls.auto.scope (omega arith) k.0, (omega arith, r.1, omega arith)))

pub name_noted-returns : goal.name_noted-returns
name_noted-returns t c = let k = kept-end _ _ _ _ _ c.name_decls.ensures.kept c.in_ok-p.was in record { wrote_noted = noted_go c.args.depth c.args.row.now (scope_of c.args.scope.now c.args.under) c.args.at _ _ c.args.made.now _ _ _ _ c.name_decls.ensures.wrote_decls _ _ c.in_ok-p.was c.if-p-at.false (rw k.1 at c.name_under.ensures.wrote_all); kept = kept_then _ _ _ _ _ k.1 c.name_under.ensures.kept }

pub name_under-open_names-requires : goal.name_under-open_names-requires
name_under-open_names-requires t c = ((sized-at (c.args.under + length c.args.declared.now) (length c.args.row.now) (length c.args.scope.now) (length c.args.scope.now) refl (omega arith) c.requires.ready.sized), c.requires.ready.held)

pub name_under-name_all-requires : goal.name_under-name_all-requires
name_under-name_all-requires t c = (omega arith, ready-next _ _ _ _ _ _ _ _ _ c.requires.ready refl (open-long c.args.declared.now c.args.under c.args.scope.now _ (sized-at (c.args.under + length c.args.declared.now) (length c.args.row.now) (length c.args.scope.now) (length c.args.scope.now) refl (omega arith) c.requires.ready.sized) c.requires.ready.held c.open_names.ensures) (omega arith) (open-holds c.args.declared.now c.args.under c.args.scope.now _ (sized-at (c.args.under + length c.args.declared.now) (length c.args.row.now) (length c.args.scope.now) (length c.args.scope.now) refl (omega arith) c.requires.ready.sized) c.requires.ready.held c.open_names.ensures))

pub name_under-shape_of-scope-in_err-q : goal.name_under-shape_of-scope-in_err-q
name_under-shape_of-scope-in_err-q t c = c.name_all.auto.scope ∙ open-long c.args.declared.now c.args.under c.args.scope.now _ (sized-at (c.args.under + length c.args.declared.now) (length c.args.row.now) (length c.args.scope.now) (length c.args.scope.now) refl (omega arith) c.requires.ready.sized) c.requires.ready.held c.open_names.ensures

pub name_under-returns-in_err-q : goal.name_under-returns-in_err-q
name_under-returns-in_err-q t c = rw c.from_residual.ensures (record { wrote_all = both-stop c.args.depth c.args.row.now (opened c.args.declared.now (scope_of c.args.scope.now c.args.under)) (replicate c.args.preds pred) (replicate c.args.exprs expr) _ _ _ _ _ (rw (open-names c.args.declared.now c.args.under c.args.scope.now _ (sized-at (c.args.under + length c.args.declared.now) (length c.args.row.now) (length c.args.scope.now) (length c.args.scope.now) refl (omega arith) c.requires.ready.sized) c.requires.ready.held c.open_names.ensures) at c.name_all.ensures.wrote_all) c.in_err-q.was; kept = kept-bad _ _ _ })

pub name_under-name_all-requires-2 : goal.name_under-name_all-requires-2
name_under-name_all-requires-2 t c = let k = kept-end _ _ _ _ _ c.name_all.ensures.kept c.in_ok-q.was in let o = open-names c.args.declared.now c.args.under c.args.scope.now _ (sized-at (c.args.under + length c.args.declared.now) (length c.args.row.now) (length c.args.scope.now) (length c.args.scope.now) refl (omega arith) c.requires.ready.sized) c.requires.ready.held c.open_names.ensures in let f = rw o at c.name_all.ensures.wrote_all in let r = rises-all _ _ _ _ _ _ _ f c.in_ok-q.was in (omega arith, ready-next _ _ _ _ _ _ _ _ _ c.requires.ready c.name_all.auto.made (c.name_all.auto.scope ∙ open-long c.args.declared.now c.args.under c.args.scope.now _ (sized-at (c.args.under + length c.args.declared.now) (length c.args.row.now) (length c.args.scope.now) (length c.args.scope.now) refl (omega arith) c.requires.ready.sized) c.requires.ready.held c.open_names.ensures) (omega arith) k.0)

pub name_under-shape_of-scope-in_err-end : goal.name_under-shape_of-scope-in_err-end
name_under-shape_of-scope-in_err-end t c = c.name_all-2.auto.scope ∙ (c.name_all.auto.scope ∙ open-long c.args.declared.now c.args.under c.args.scope.now _ (sized-at (c.args.under + length c.args.declared.now) (length c.args.row.now) (length c.args.scope.now) (length c.args.scope.now) refl (omega arith) c.requires.ready.sized) c.requires.ready.held c.open_names.ensures)

pub name_under-returns-in_err-end : goal.name_under-returns-in_err-end
name_under-returns-in_err-end t c = rw c.from_residual-in_err-end.ensures (let k = kept-end _ _ _ _ _ c.name_all.ensures.kept c.in_ok-q.was in let o = open-names c.args.declared.now c.args.under c.args.scope.now _ (sized-at (c.args.under + length c.args.declared.now) (length c.args.row.now) (length c.args.scope.now) (length c.args.scope.now) refl (omega arith) c.requires.ready.sized) c.requires.ready.held c.open_names.ensures in let f = rw o at c.name_all.ensures.wrote_all in let s = k.1 ∙ o in let g = rw s at c.name_all-2.ensures.wrote_all in record { wrote_all = both_go c.args.depth c.args.row.now (opened c.args.declared.now (scope_of c.args.scope.now c.args.under)) (replicate c.args.preds pred) (replicate c.args.exprs expr) _ _ _ _ _ _ _ f c.in_ok-q.was (rw c.in_err-end.was at g); kept = kept-bad _ _ _ })

pub name_under-close_names-requires : goal.name_under-close_names-requires
name_under-close_names-requires t c = (sized-at _ _ _ _ (c.name_all-2.auto.scope ∙ (c.name_all.auto.scope ∙ open-long c.args.declared.now c.args.under c.args.scope.now _ (sized-at (c.args.under + length c.args.declared.now) (length c.args.row.now) (length c.args.scope.now) (length c.args.scope.now) refl (omega arith) c.requires.ready.sized) c.requires.ready.held c.open_names.ensures)) (omega arith) (sized-at (c.args.under + length c.args.declared.now) (length c.args.row.now) (length c.args.scope.now) (length c.args.scope.now) refl (omega arith) c.requires.ready.sized), (kept-end _ _ _ _ _ c.name_all-2.ensures.kept c.in_ok-end.was).0)

pub name_under-shape_of-scope : goal.name_under-shape_of-scope
name_under-shape_of-scope t c = c.close_names.auto.scope ∙ (c.name_all-2.auto.scope ∙ (c.name_all.auto.scope ∙ open-long c.args.declared.now c.args.under c.args.scope.now _ (sized-at (c.args.under + length c.args.declared.now) (length c.args.row.now) (length c.args.scope.now) (length c.args.scope.now) refl (omega arith) c.requires.ready.sized) c.requires.ready.held c.open_names.ensures))

pub name_under-returns : goal.name_under-returns
name_under-returns t c = let k = kept-end _ _ _ _ _ c.name_all.ensures.kept c.in_ok-q.was in let o = open-names c.args.declared.now c.args.under c.args.scope.now _ (sized-at (c.args.under + length c.args.declared.now) (length c.args.row.now) (length c.args.scope.now) (length c.args.scope.now) refl (omega arith) c.requires.ready.sized) c.requires.ready.held c.open_names.ensures in let f = rw o at c.name_all.ensures.wrote_all in let s = k.1 ∙ o in let g = rw s at c.name_all-2.ensures.wrote_all in let m = kept-end _ _ _ _ _ c.name_all-2.ensures.kept c.in_ok-end.was in record { wrote_all = both_go c.args.depth c.args.row.now (opened c.args.declared.now (scope_of c.args.scope.now c.args.under)) (replicate c.args.preds pred) (replicate c.args.exprs expr) _ _ _ _ _ _ _ f c.in_ok-q.was (rw c.in_ok-end.was at g); kept = close-kept c.args.declared.now c.args.under c.args.scope.now _ (sized-at (c.args.under + length c.args.declared.now) (length c.args.row.now) (length c.args.scope.now) (length c.args.scope.now) refl (omega arith) c.requires.ready.sized) c.requires.ready.held c.open_names.ensures _ _ _ (c.name_all-2.auto.scope ∙ (c.name_all.auto.scope ∙ open-long c.args.declared.now c.args.under c.args.scope.now _ (sized-at (c.args.under + length c.args.declared.now) (length c.args.row.now) (length c.args.scope.now) (length c.args.scope.now) refl (omega arith) c.requires.ready.sized) c.requires.ready.held c.open_names.ensures)) m.0 (m.1 ∙ k.1) c.close_names.ensures }
