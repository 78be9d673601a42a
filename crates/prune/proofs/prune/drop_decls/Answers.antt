use mathlib.Core.Path.{refl}
use native.Mathlib.Omega.{arith}
use lib.ListN.{length}
use Rattle.shift.proofs.CheckedLaws.{refused}
use Rattle.prune.proofs.FallLaws.{falls-all, head-fits, put-fits, same-fits, dropped-none, dropped-room, dropped-done}
use Rattle.tree.proofs.Pairs.{both}
use Rattle.prune.proofs.prune.drop_decls.Goals as goal

pub returns-then-falls-eq0 : goal.returns-then-falls-eq0
returns-then-falls-eq0 c = both (λ v w. record { value = v; out_after = w }) (refused _ _ _ _ (dropped-none c.args.head.now c.args.words.now c.args.body.now c.args.marks.now _ _ (falls-all _ _ c.falls_of-falls.ensures.made) c.if-falls-eq0.true) refl)

pub returns-then-out-n : goal.returns-then-out-n
returns-then-out-n c = both (λ v w. record { value = v; out_after = w }) (refused _ _ _ _ (dropped-room c.args.head.now c.args.words.now c.args.body.now c.args.marks.now _ (falls-all _ _ c.falls_of-falls.ensures.made) c.if-falls-eq0.false _ refl _ c.if-out-n.true) refl)

pub write_fallen-requires : goal.write_fallen-requires
write_fallen-requires c = record { words_len_bound = (c.requires.words_len_bound.0, (let l = c.falls_of-falls.ensures.len in omega arith), c.falls_of-falls.ensures.made); body_in_bounds = c.requires.body_in_bounds; at_in_bounds = same-fits c.if-out-n.false c.put_words.auto.out }

pub returns : goal.returns
returns c = let put = put-fits c.args.out.now _ c.args.head.now c.put_words.ensures (head-fits (length c.args.head.now) (length c.args.body.now) refl c.if-out-n.false) in both (λ v w. record { value = v; out_after = w }) (dropped-done c.args.head.now c.args.words.now c.args.body.now c.args.marks.now _ (falls-all _ _ c.falls_of-falls.ensures.made) c.if-falls-eq0.false _ refl _ _ _ put c.write_fallen.ensures c.if-out-n.false)
