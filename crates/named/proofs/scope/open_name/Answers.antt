use native.Mathlib.Omega.{arith}
use Prim.Native.Nat.{◌+◌}
use lib.ListN.{length-set}
use Rattle.named.proofs.SlotLaws.{cell-inside}
use Rattle.named.proofs.ScopeLaws.{opens-is}
use borrow.Author.Rules.{rules}
use Rattle.named.proofs.scope.open_name.Goals as goal

pub offset_bounds-scope-cell : goal.offset_bounds-scope-cell
offset_bounds-scope-cell c = let l = cell-inside c.args.scope.now c.args.under (c.args.under + 1) c.args.m _ c.cell_of-cell.ensures (omega arith) c.requires.0 in search rules

pub bounds-scope-cell : goal.bounds-scope-cell
bounds-scope-cell c = let l = cell-inside c.args.scope.now c.args.under (c.args.under + 1) c.args.m _ c.cell_of-cell.ensures (omega arith) c.requires.0 in omega arith

pub bounds-scope-at-2 : goal.bounds-scope-at-2
bounds-scope-at-2 c = simp length-set (omega arith)

pub bounds-scope-at-3 : goal.bounds-scope-at-3
bounds-scope-at-3 c = simp length-set (omega arith)

pub overflow_cast-scope : goal.overflow_cast-scope
overflow_cast-scope c = let l = cell-inside c.args.scope.now c.args.under (c.args.under + 1) c.args.m _ c.cell_of-cell.ensures (omega arith) c.requires.0 in search rules

pub bounds-scope-at-4 : goal.bounds-scope-at-4
bounds-scope-at-4 c = simp length-set (omega arith)

pub offset_bounds-scope-cell-2 : goal.offset_bounds-scope-cell-2
offset_bounds-scope-cell-2 c = let l = cell-inside c.args.scope.now c.args.under (c.args.under + 1) c.args.m _ c.cell_of-cell.ensures (omega arith) c.requires.0 in search rules

pub bounds-scope-cell-2 : goal.bounds-scope-cell-2
bounds-scope-cell-2 c = let l = cell-inside c.args.scope.now c.args.under (c.args.under + 1) c.args.m _ c.cell_of-cell.ensures (omega arith) c.requires.0 in simp length-set (omega arith)

pub returns : goal.returns
returns c = opens-is c.args.m c.args.under _ c.args.scope.now c.cell_of-cell.ensures
