use mathlib.Core.Path.{◌≡◌}
use Prim.Native.Nat.{◌-◌}
use lib.ListN.{get_or, drop}
use Rattle.decls.specs.Internal.Used.{cleared, open_items}
use Rattle.decls.proofs.used.clear_words.Given as goal

abbrev pub invariant-loop-i : goal.invariant-loop-i
invariant-loop-i l =
    cleared l.n (drop 1 l.initial.words) (open_items l.n (get_or l.marks 0 0) (get_or l.row 0 0) (drop 1 l.row) (drop 1 l.marks))
    ≡ cleared l.n (drop 1 l.words) (open_items l.n (get_or l.marks (l.i - 1) 0) (get_or l.row (l.i - 1) 0) (drop l.i l.row) (drop l.i l.marks))
