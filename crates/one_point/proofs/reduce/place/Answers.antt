use mathlib.Core.Path.{refl, sym, ◌∙◌}
use mathlib.Core.List.{[]}
use native.Mathlib.Omega.{arith}
use Rattle.shift.proofs.CheckedLaws.{passed}
use Rattle.places.proofs.SidesLaws.{told-plain, told-marks}
use Rattle.one_point.proofs.PlaceLaws.{marking-of, can-raise, raised-rest, putting, sure-fitting}
use Rattle.one_point.proofs.RestLaws.{placed_row}
use Rattle.tree.proofs.Pairs.{both}
use Rattle.one_point.proofs.reduce.place.Goals as goal

pub returns : goal.returns
returns c = both (λ v w. record { value = v; out_after = w }) (passed _ _ _ _ _ (placed_row c.args.head.now c.args.target c.args.part.now c.args.rest.now c.requires.0 _ refl _ (marking-of c.args.part.now c.args.part_marks.now _ c.requires.0.by c.requires.1 c.requires.0.is-part (told-marks 0 c.requires.0.by _ [] _ _ _ c.requires.0.is-part (told-plain _ _ _ _ _ _ _ _ (omega arith) (omega arith) c.expr_at.ensures)) c.expr_at.auto.marks) _ (raised-rest c.args.head.now c.args.target c.args.part.now c.args.rest.now c.requires.0 c.args.marks.now c.requires.2 _ c.raise.ensures) _ (λ y. sure-fitting _ _ _ _ c.requires.0.is-part c.requires.0.is-rest c.args.depth c.requires.3 (sym c.is_sure-sure.ensures ∙ y)) _) (c.put_rest.ensures.value, c.put_rest.ensures.out_after))

pub raise-requires : goal.raise-requires
raise-requires c = can-raise c.args.head.now c.args.target c.args.part.now c.args.rest.now c.requires.0 c.args.marks.now c.requires.2

pub put_rest-requires : goal.put_rest-requires
put_rest-requires c = putting c.args.head.now c.args.target c.args.part.now c.args.rest.now c.requires.0 _ refl _ (marking-of c.args.part.now c.args.part_marks.now _ c.requires.0.by c.requires.1 c.requires.0.is-part (told-marks 0 c.requires.0.by _ [] _ _ _ c.requires.0.is-part (told-plain _ _ _ _ _ _ _ _ (omega arith) (omega arith) c.expr_at.ensures)) c.expr_at.auto.marks) _ (raised-rest c.args.head.now c.args.target c.args.part.now c.args.rest.now c.requires.0 c.args.marks.now c.requires.2 _ c.raise.ensures)
