use mathlib.Core.Path.{refl}
use lib.ListN.{replicate}
use Rattle.one_point.proofs.HeadedLaws.{operator-plain, flags-made}
use Rattle.one_point.proofs.noted.put_noted.Goals as goal

pub put_flagged-requires-2 : goal.put_flagged-requires-2
put_flagged-requires-2 c = (c.requires, flags-made c.args.head.now c.requires.placing.heading c.if-head-gt860.false (replicate 66 0) _ refl _ c.flag_names-end.ensures.value c.flag_names-end.ensures.out_after, operator-plain c.args.head.now c.requires.placing.heading c.if-head-gt860.false)
