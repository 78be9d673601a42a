use mathlib.Core.Path.{ap, sym, ◌∙◌}
use mathlib.Core.Option.{Option}
use native.Mathlib.Omega.{arith}
use Rattle.tree.specs.Form.{Form}
use Rattle.one_point.specs.Internal.Marks.{mark_left}
use Rattle.one_point.proofs.ScanLaws.{sides-in, sides-within}
use Rattle.one_point.proofs.EqualityLaws.{part-taken, part-passed}
use Rattle.one_point.proofs.EqualityMarks.{sided-read, taken-left, passed-left}
use Rattle.one_point.proofs.MarkLaws.{marks-told, plain-marks}
use Rattle.one_point.proofs.equality.scan_part.Goals as goal

pub returns-then-is_some : goal.returns-then-is_some
returns-then-is_some c = record { sides_told = λ x. part-taken c.args.row.now c.args.at c.args.right c.args.next c.args.n c.args.pos _ x c.requires.1 c.requires.2 _ c.accept-found.ensures (sym c.is_some.ensures ∙ c.if-is_some.true); sides_marks = λ x. ap (λ (g : Option Form). mark_left g c.args.pos c.args.marks.now) (sym (taken-left c.args.row.now c.args.at c.args.right c.args.next c.args.n x c.args.pos c.args.out.now c.requires.1 c.requires.2 _ c.accept-found.ensures (sym c.is_some.ensures ∙ c.if-is_some.true))) }

pub returns : goal.returns
returns c = record { sides_told = λ x. part-passed c.args.row.now c.args.at c.args.right c.args.next c.args.n c.args.pos _ x c.requires.1 c.requires.2 _ c.accept-found.ensures (sym c.is_some.ensures ∙ c.if-is_some.false) _ _ c.copy_part-end.ensures.wrote; sides_marks = λ x. marks-told _ _ _ _ _ _ _ (sided-read c.args.row.now c.args.at c.args.right c.args.next c.args.n x) (plain-marks _ _ _ _ 65 _ (omega arith) c.mark_pred.ensures.marks_told) ∙ ap (λ (g : Option Form). mark_left g c.args.pos c.args.marks.now) (sym (passed-left c.args.row.now c.args.at c.args.right c.args.next c.args.n x c.args.pos c.args.out.now c.requires.1 c.requires.2 _ c.accept-found.ensures (sym c.is_some.ensures ∙ c.if-is_some.false))) }

pub accept-found-requires : goal.accept-found-requires
accept-found-requires c = (c.requires.3, c.requires.2, sides-within c.args.row.now c.args.at c.args.right c.args.next c.requires.0)

pub copy_part-end-requires : goal.copy_part-end-requires
copy_part-end-requires c = let i = sides-in c.args.row.now c.args.at c.args.right c.args.next c.requires.0 in
    let u = i.0 in
    let v = i.1 in
    omega arith
