use mathlib.Core.Path.{◌≡◌, sym}
use Rattle.std.specs.Prelude.{None}
use Rattle.places.proofs.SidesLaws.{told-plain, told-marks, told-not-bad}
use native.Mathlib.Omega.{arith}
use lib.Seq.{length-take-le}
use Rattle.member.specs.Internal.Member.{unshifted}
use Rattle.member.proofs.MemberLaws.{body_end, unshifted-read, row-fills}
use Rattle.member.proofs.rewrite_in_compset.rewrite_body.Goals as goal

pub returns-in_err-ok_or : goal.returns-in_err-ok_or
returns-in_err-ok_or c =
    let none : c.pred_at.result ≡ None = grind (arith, c.ok_or.ensures.value, c.in_err-ok_or.was) in
    absurd (told-not-bad c.args.membership.now.set.n (unshifted c.args.membership.now.set.n c.requires.0.set.guard c.requires.0.set.value c.requires.0.set.element) _ _ _ _ _ (unshifted-read c.requires.0.set c.requires.0.short _ _ c.requires.1) (told-plain _ _ _ _ _ _ _ _ (omega arith) (omega arith) c.pred_at.ensures) none)

pub returns : goal.returns
returns c = record { value = λ y. let w = row-fills y c.requires.0.short _ _ c.requires.1 c.args.membership.now.marks.now c.requires.0.long _ c.requires.2 _ c.pred_at.auto.marks (told-marks c.args.membership.now.set.n (unshifted c.args.membership.now.set.n y.guard y.value y.element) _ _ _ _ _ (unshifted-read y c.requires.0.short _ _ c.requires.1) (told-plain _ _ _ _ _ _ _ _ (omega arith) (omega arith) c.pred_at.ensures)) c.write_body-written.result.table _ _ _ (c.write_body-written.ensures y) in rw w.same at (c.fill_body.ensures.value y w.filling); out_after = λ y. let w = row-fills y c.requires.0.short _ _ c.requires.1 c.args.membership.now.marks.now c.requires.0.long _ c.requires.2 _ c.pred_at.auto.marks (told-marks c.args.membership.now.set.n (unshifted c.args.membership.now.set.n y.guard y.value y.element) _ _ _ _ _ (unshifted-read y c.requires.0.short _ _ c.requires.1) (told-plain _ _ _ _ _ _ _ _ (omega arith) (omega arith) c.pred_at.ensures)) c.write_body-written.result.table _ _ _ (c.write_body-written.ensures y) in rw w.same at (c.fill_body.ensures.out_after y w.filling) }

pub fill_body-requires : goal.fill_body-requires
fill_body-requires c = (c.requires.0.set, (row-fills c.requires.0.set c.requires.0.short _ _ c.requires.1 c.args.membership.now.marks.now c.requires.0.long _ c.requires.2 _ c.pred_at.auto.marks (told-marks c.args.membership.now.set.n (unshifted c.args.membership.now.set.n c.requires.0.set.guard c.requires.0.set.value c.requires.0.set.element) _ _ _ _ _ (unshifted-read c.requires.0.set c.requires.0.short _ _ c.requires.1) (told-plain _ _ _ _ _ _ _ _ (omega arith) (omega arith) c.pred_at.ensures)) c.write_body-written.result.table _ _ _ (c.write_body-written.ensures c.requires.0.set)).filling, c.requires.0.short)

pub slice_bounds-source-end-2 : goal.slice_bounds-source-end-2
slice_bounds-source-end-2 c = sym (length-take-le _ _ (body_end _ _ _ _ _ _ _ _ _ _ (c.write_body-written.ensures c.requires.0.set)))

pub slice_bounds-source-end : goal.slice_bounds-source-end
slice_bounds-source-end c = body_end _ _ _ _ _ _ _ _ _ _ (c.write_body-written.ensures c.requires.0.set)
