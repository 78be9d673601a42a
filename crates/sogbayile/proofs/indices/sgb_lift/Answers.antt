use mathlib.Core.Path.{sym, ap, ◌∙◌}
use lib.ListN.{length}
use Rattle.rules.specs.Lift.{lift_part}
use Rattle.subst.proofs.LiftLaws.{lift-long}
use Rattle.sogbayile.specs.Internal.{made_code}
use Rattle.sogbayile.proofs.CodeLaws.{part-short, made-code}
use Rattle.sogbayile.proofs.indices.sgb_lift.Goals as goal

pub returns-then-base-gt-WORDS : goal.returns-then-base-gt-WORDS
returns-then-base-gt-WORDS c = let z = lift-long c.args.base.now c.args.work.now c.args.depth c.if-base-gt-WORDS.true in record { value = sym (sym (made-code c.args.base.now (lift_part c.args.base.now c.args.depth (length c.args.work.now))) ∙ ap (made_code _) (sym z.0)); work_after = z.1 }

pub part_code-requires : goal.part_code-requires
part_code-requires c = rw c.make_copy-made.ensures.value (part-short c.args.base.now c.args.depth (length c.args.work.now) c.if-base-gt-WORDS.false)

pub returns : goal.returns
returns c = record { value = c.part_code.ensures ∙ ap (made_code _) c.make_copy-made.ensures.value ∙ made-code c.args.base.now (lift_part c.args.base.now c.args.depth (length c.args.work.now)); work_after = c.make_copy-made.ensures.work_after }
