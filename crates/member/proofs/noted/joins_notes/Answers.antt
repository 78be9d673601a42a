use Rattle.std.proofs.Common.{rules, ◌≡◌, sym, ◌∙◌}
use Rattle.member.specs.Internal.Noted.{notes_clear, notes_join}
use Rattle.member.proofs.noted.joins_notes.Goals as goal

pub returns-then-body-eq-NOTED_EXISTS : goal.returns-then-body-eq-NOTED_EXISTS
unfolding notes_join
returns-then-body-eq-NOTED_EXISTS c =
    let joined : notes_join c.args.joins c.args.body.now c.args.marks.now c.args.n c.args.j ≡ notes_clear c.args.body.now c.args.marks.now c.args.n c.args.j = search rules in
    c.are_clear.ensures ∙ sym joined
