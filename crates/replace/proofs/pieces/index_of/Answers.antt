use mathlib.Core.Path.{◌≡◌, ◌∙◌}
use lib.Dec.{eqb}
use Rattle.std.proofs.Common.{rules, tests, position}
use Rattle.std.proofs.lemmas.Iterator.{YieldsList-from_slice}
use Rattle.std.proofs.lemmas.Iterator.Search.{position_from_yields_List}
use Rattle.replace.proofs.PieceLaws.{spot-or-end}
use Rattle.replace.proofs.pieces.index_of.Goals as goal

pub returns : goal.returns
returns c = let found : c.position.result ≡ position (λ n. eqb n c.args.m) c.args.names.now = position_from_yields_List _ _ _ _ c.position.ensures.ran (YieldsList-from_slice c.args.names.now cc) (λ x b q k. search (rules, tests)) in
    c.unwrap_or.ensures ∙ spot-or-end _ _ _ found
