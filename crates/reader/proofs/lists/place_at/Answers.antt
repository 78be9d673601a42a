use Rattle.reader.proofs.TableLaws.{place_kept, place-bad, place-filled}
use native.Mathlib.Omega.{arith}
use Rattle.reader.proofs.lists.place_at.Goals as goal

pub returns-then-w-eq0 : goal.returns-then-w-eq0
returns-then-w-eq0 c = place_kept _ _ _ _ c.if-w-eq0.true

pub returns-then-w-gt1 : goal.returns-then-w-gt1
returns-then-w-gt1 c = place-bad _ c.args.w _ _ _ (omega arith)

pub returns : goal.returns
returns c = place-filled _ _ _ _ _ _ c.if-w-eq0.false c.if-w-gt1.false c.mark_child.ensures
