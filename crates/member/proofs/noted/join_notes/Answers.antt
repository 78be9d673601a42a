use mathlib.Core.Path.{refl}
use Rattle.shift.proofs.CheckedLaws.{refused}
use Rattle.member.proofs.NotedSteps.{notes-refused, notes-done}
use Rattle.tree.proofs.Pairs.{both}
use Rattle.member.proofs.noted.join_notes.Goals as goal

pub returns-in_default : goal.returns-in_default
returns-in_default c = both (λ v w. record { value = v; out_after = w }) (refused _ _ _ _ (notes-refused c.args.source.now.table.now c.args.j c.args.source.now.list.now c.args.source.now.list_marks.now c.args.source.now.row.now c.args.source.now.marks.now c.requires.n_nonzero.4 _ c.fill_front-front.ensures _ c.decls_end-end.ensures _ _ c.fill_places.ensures.value c.in_default.is c.requires.in_bounds.2 _ _) refl)

pub returns : goal.returns
returns c = record { value = rw (notes-done c.args.source.now.table.now c.args.j c.args.source.now.list.now c.args.source.now.list_marks.now c.args.source.now.row.now c.args.source.now.marks.now c.requires.n_nonzero.4 _ c.fill_front-front.ensures _ c.decls_end-end.ensures _ _ c.fill_places.ensures.value c.in-Ok.is _ _ c.fill_places.ensures.out_after).0 at c.fill_round.ensures.value; out_after = rw (notes-done c.args.source.now.table.now c.args.j c.args.source.now.list.now c.args.source.now.list_marks.now c.args.source.now.row.now c.args.source.now.marks.now c.requires.n_nonzero.4 _ c.fill_front-front.ensures _ c.decls_end-end.ensures _ _ c.fill_places.ensures.value c.in-Ok.is _ _ c.fill_places.ensures.out_after).0 at c.fill_round.ensures.out_after }
