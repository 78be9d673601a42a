use mathlib.Core.Path.{◌≡◌}
use lib.ListN.{drop}
use Rattle.decls.specs.Internal.Noted.{keeps_note}
use Rattle.decls.proofs.parts.keeps_note.Given as goal

abbrev pub invariant-loop-w : goal.invariant-loop-w
invariant-loop-w l = keeps_note l.row l.words 2 ≡ keeps_note l.row (drop l.w-index l.words) l.p
