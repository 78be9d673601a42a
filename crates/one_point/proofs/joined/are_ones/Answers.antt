use mathlib.Core.Bool.{◌&&◌}
use mathlib.Core.List.{List, [], ◌∷◌}
use mathlib.Core.Path.{◌≡◌, refl, ap, ◌∙◌}
use Prim.Native.Nat.{ℕ}
use lib.Dec.{eqb}
use Rattle.std.proofs.Common.{rules, tests}
use Rattle.std.specs.List.{list_all}
use Rattle.std.proofs.lemmas.Iterator.{YieldsList-from_slice}
use Rattle.std.proofs.lemmas.Iterator.Search.{all_from_yields_List}
use Rattle.one_point.specs.Internal.Noted.{all_ones}
use Rattle.one_point.proofs.joined.are_ones.Goals as goal

ones-are : (ws : List ℕ) → list_all (λ w. eqb w 1) ws ≡ all_ones ws
unfolding all_ones
ones-are [] = refl
ones-are (w ∷ ws) = ap (λ b. eqb w 1 && b) (ones-are ws)

pub returns : goal.returns
returns c =
    all_from_yields_List (λ w. eqb w 1) _ _ c.all.result c.all.ensures.ran (YieldsList-from_slice c.args.words.now cc) (λ x b q k. search (rules, tests))
    ∙ ones-are c.args.words.now
