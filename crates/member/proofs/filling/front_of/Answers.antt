use mathlib.Core.Path.{◌≡◌, ap, sym, ◌∙◌}
use Rattle.std.proofs.Common.{rules, tests}
use Rattle.std.proofs.lemmas.Iterator.{YieldsList-from_slice}
use Rattle.std.proofs.lemmas.Iterator.Search.{position_from_yields_List}
use Rattle.std.specs.Prelude.{unwrap_or}
use Rattle.std.specs.List.{position}
use Rattle.member.proofs.FillingLaws.{some_word, fronts}
use Rattle.member.proofs.filling.front_of.Goals as goal

pub returns : goal.returns
returns c =
    let words = c.args.words.now in
    let found : c.position.result ≡ position some_word words = position_from_yields_List some_word _ _ c.position.result c.position.ensures.ran (YieldsList-from_slice words cc) (λ x b q k. search (rules, tests)) in
    c.unwrap_or.ensures ∙ (ap (λ z. unwrap_or z 0) found ∙ sym (fronts words))
