use native.Mathlib.Omega.{arith}
use Rattle.broken.proofs.PositionLaws.{whole-end, whole-break}
use Rattle.broken.proofs.position.broken_kids.Goals as goal

pub seek_kids-requires : goal.seek_kids-requires
seek_kids-requires c = omega arith

pub overflow_cast-result : goal.overflow_cast-result
overflow_cast-result c = let low = (whole-end _ _ c.seek_kids.ensures c.in-Ok.is).0 in omega arith

pub returns-in-Ok : goal.returns-in-Ok
returns-in-Ok c = (whole-end _ _ c.seek_kids.ensures c.in-Ok.is).1

pub overflow_cast-result-in-Err : goal.overflow_cast-result-in-Err
overflow_cast-result-in-Err c = let low = (whole-break _ _ c.seek_kids.ensures c.in-Err.is).0 in omega arith

pub returns-in-Err : goal.returns-in-Err
returns-in-Err c = (whole-break _ _ c.seek_kids.ensures c.in-Err.is).1
