use native.Mathlib.Omega.{arith}
use Rattle.member.specs.Internal.Member.{Unshifted}
use Rattle.member.proofs.MemberLaws.{body_end, body-words}
use Rattle.member.proofs.rewrite_in_compset.rewrite_set.Goals as goal

pub rewrite_sized-requires : goal.rewrite_sized-requires
unfolding Unshifted
rewrite_sized-requires c = let be = body_end _ _ _ _ _ _ _ _ _ _ (c.write_body-end.ensures c.requires.set) in (rw c.write_body-end.auto.out c.requires, (λ y. body-words _ _ _ _ y.guard _ _ _ _ _ (c.write_body-end.ensures y)), be, omega arith, omega arith)

pub rewrite_sized-requires-in_default : goal.rewrite_sized-requires-in_default
unfolding Unshifted
rewrite_sized-requires-in_default c = let be = body_end _ _ _ _ _ _ _ _ _ _ (c.write_body-end.ensures c.requires.set) in (rw c.write_body-end.auto.out c.requires, (λ y. body-words _ _ _ _ y.guard _ _ _ _ _ (c.write_body-end.ensures y)), be, omega arith, omega arith)

pub rewrite_sized-requires-in-65-to-512 : goal.rewrite_sized-requires-in-65-to-512
unfolding Unshifted
rewrite_sized-requires-in-65-to-512 c = let be = body_end _ _ _ _ _ _ _ _ _ _ (c.write_body-end.ensures c.requires.set) in (rw c.write_body-end.auto.out c.requires, (λ y. body-words _ _ _ _ y.guard _ _ _ _ _ (c.write_body-end.ensures y)), be, omega arith, omega arith)
