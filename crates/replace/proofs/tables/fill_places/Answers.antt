use mathlib.Core.Path.{refl, sym, ◌∙◌}
use Rattle.shift.proofs.CheckedLaws.{refused, passed}
use Rattle.replace.proofs.ReadyLaws.{full-ready, is-ready, placed-not, placed-ready, gone-ready}
use Rattle.tree.proofs.Pairs.{both}
use Rattle.replace.proofs.tables.fill_places.Goals as goal

pub returns-then-not-is_ready : goal.returns-then-not-is_ready
returns-then-not-is_ready c = let t = c.args.source.table.now in
    let q = sym c.is_ready.ensures.value ∙ c.if-not-is_ready.true in
    both (λ v w. record { value = v; out_after = w }) (refused _ _ _ _ (placed-not t c.args.source.list.now c.args.source.list_marks.now _ _ _ _ _ _ q) refl)

pub filled_places-requires : goal.filled_places-requires
filled_places-requires c = let t = c.args.source.table.now in
    let q = sym c.is_ready.ensures.value ∙ c.if-not-is_ready.false in
    (full-ready t c.args.source.list.now c.args.source.list_marks.now q).0

pub replace-requires : goal.replace-requires
replace-requires c = let t = c.args.source.table.now in
    let q = sym c.is_ready.ensures.value ∙ c.if-not-is_ready.false in
    gone-ready t _ _ _ _ c.filled_places.ensures (is-ready t c.args.source.list.now c.args.source.list_marks.now c.args.down q c.is_ready.ensures.rows)

pub returns : goal.returns
returns c = let t = c.args.source.table.now in
    let q = sym c.is_ready.ensures.value ∙ c.if-not-is_ready.false in
    both (λ v w. record { value = v; out_after = w }) (passed _ _ _ _ _ (placed-ready t c.args.source.list.now c.args.source.list_marks.now _ _ _ _ _ _ q _ c.filled_places.ensures) (c.replace.ensures.value, c.replace.ensures.out_after))
