use native.Mathlib.Omega.{arith}
use native.Mathlib.Nat.{zero-add}
use Prim.Native.Nat.{◌-◌}
use lib.ListN.{take, drop}
use Rattle.places.proofs.WroteLaws.{put-wrote, part-long}
use Rattle.member.proofs.BodyLaws.{positions, row-long, guard-part, set-parts, sharing, shared-count, set-count, body-alone, body-joined}
use Rattle.member.proofs.shares.write_body.Goals as goal

pub returns-then-offers-eq0 : goal.returns-then-offers-eq0
returns-then-offers-eq0 c = let p = positions c.requires.0.set in let rl = row-long c.requires.0.set in λ y. body-alone c.args.membership.now.row.now c.args.membership.now.marks.now _ _ y.guard _ _ _ c.args.out.now _ _ (omega arith) (rw (guard-part y) at (put-wrote (take (c.args.membership.now.set.value - c.args.membership.now.set.guard) (drop c.args.membership.now.set.guard c.args.membership.now.row.now)) c.args.out.now _ 2 (c.args.membership.now.set.value - c.args.membership.now.set.guard) (part-long c.args.membership.now.row.now c.args.membership.now.set.guard c.args.membership.now.set.value p.value (omega arith)) (omega arith) c.put_words.ensures)) _ _ c.if-offers-eq0.true (rw (guard-part y, zero-add) at (put-wrote (take (c.args.membership.now.set.value - c.args.membership.now.set.guard) (drop c.args.membership.now.set.guard c.args.membership.now.row.now)) c.offer_parts-offers.new.out _ 0 (c.args.membership.now.set.value - c.args.membership.now.set.guard) (part-long c.args.membership.now.row.now c.args.membership.now.set.guard c.args.membership.now.set.value p.value (omega arith)) (omega arith) c.put_words-then-offers-eq0.ensures)) _ _ (rw (set-parts y c.requires.0.short) at c.offer_parts-offers.ensures)

pub returns : goal.returns
returns c = let p = positions c.requires.0.set in let rl = row-long c.requires.0.set in λ y. body-joined c.args.membership.now.row.now c.args.membership.now.marks.now _ _ y.guard _ _ _ c.args.out.now _ _ (omega arith) (rw (guard-part y) at (put-wrote (take (c.args.membership.now.set.value - c.args.membership.now.set.guard) (drop c.args.membership.now.set.guard c.args.membership.now.row.now)) c.args.out.now _ 2 (c.args.membership.now.set.value - c.args.membership.now.set.guard) (part-long c.args.membership.now.row.now c.args.membership.now.set.guard c.args.membership.now.set.value p.value (omega arith)) (omega arith) c.put_words.ensures)) c.if-offers-eq0.false _ _ (rw (set-parts y c.requires.0.short) at c.offer_parts-offers.ensures)

pub overflow_add-out : goal.overflow_add-out
overflow_add-out c = let p = positions c.requires.0.set in let rl = row-long c.requires.0.set in let m = shared-count _ _ _ _ _ _ _ _ _ _ (omega arith) _ 8192 (set-count c.requires.0.set _ _ c.requires.0.short) (rw (set-parts c.requires.0.set c.requires.0.short) at c.offer_parts-offers.ensures) in omega arith

pub offer_parts-offers-requires : goal.offer_parts-offers-requires
offer_parts-offers-requires c = let p = positions c.requires.0.set in let rl = row-long c.requires.0.set in sharing c.requires.0.set c.requires.0.short c.args.membership.now.marks.now c.args.up _ _ (omega arith) (omega arith) c.requires.0.marked c.requires.0.long c.requires.1
