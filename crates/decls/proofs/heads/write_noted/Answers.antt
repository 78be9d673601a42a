use mathlib.Core.Path.{◌∙◌}
use native.Mathlib.Omega.{arith}
use lib.ListN.{length}
use Rattle.std.proofs.lemmas.Grind.{common_steps}
use Rattle.decls.specs.Internal.Noted.{noted_head, parts_head, kept_parts}
use Rattle.decls.proofs.HeadLaws.{fit_all, parts-fit, head-written, written_heads}
use Rattle.decls.proofs.heads.write_noted.Goals as goal

pub bounds-head-1 : goal.bounds-head-1
bounds-head-1 c = grind (arith, common_steps, written_heads)

pub returns-clause-head_after : goal.returns-clause-head_after
unfolding noted_head parts_head
returns-clause-head_after c =
    let fit = fit_all (length c.args.words.now) (length c.args.row.now) (length c.args.head.now) (grind arith) in
    let room = parts-fit c.keeps_note-full.result c.args.row.now c.args.words.now (length c.args.head.now) fit in
    head-written c.tag_for.result c.count_kept-n.result c.write_parts-end.result (kept_parts c.keeps_note-full.result c.args.row.now c.args.words.now 2) c.args.head.now _ room c.write_parts-end.ensures.head_after c.write_parts-end.ensures.value
    ∙ grind arith
