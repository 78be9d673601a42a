use Rattle.std.proofs.Common.{refl}
use Rattle.shift.proofs.CheckedLaws.{refused}
use Rattle.subst.proofs.DanglingLaws.{flagging, set_room, set-answers}
use Rattle.tree.proofs.Pairs.{both}
use Rattle.subst.proofs.dangling.set_sized.Goals as goal

pub returns-then-out-n : goal.returns-then-out-n
returns-then-out-n g c = both (λ v w. record { value = v; out_after = w }) (refused _ _ _ _ (set_room _ _ _ _ c.args.out.now (flagging _ _ _ c.requires.few c.requires.enough) c.flag_items.ensures _ c.count_flags-n.ensures c.if-out-n.true) refl)

pub returns : goal.returns
returns g c = both (λ v w. record { value = v; out_after = w }) (set-answers _ _ _ _ c.args.out.now (flagging _ _ _ c.requires.few c.requires.enough) c.flag_items.ensures _ c.count_flags-n.ensures c.if-out-n.false _ c.write_flags.ensures)
