use Rattle.std.proofs.Common.{◌≡◌, ap, ◌∙◌, rules, tests, position, nat_eq, length}
use Rattle.std.proofs.lemmas.Iterator.{YieldsList-from_slice}
use Rattle.std.proofs.lemmas.Iterator.Search.{position_from_yields_List}
use Rattle.std.specs.Option.{unwrap_or}
use Rattle.reply.proofs.SplitLaws.{newline-found}
use Rattle.reply.proofs.split.newline.Goals as goal

pub returns : goal.returns
returns c =
    let found : c.position.result ≡ position (λ b. nat_eq b 10) c.args.bytes.now = position_from_yields_List _ _ _ _ c.position.ensures.ran (YieldsList-from_slice c.args.bytes.now cc) (λ x b q k. search (rules, tests)) in
    c.unwrap_or.ensures ∙ ap (λ o. unwrap_or o (length c.args.bytes.now)) found ∙ newline-found c.args.bytes.now
