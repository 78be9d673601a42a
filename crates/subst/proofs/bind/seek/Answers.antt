use Rattle.std.proofs.Common.{◌≡◌, sym, ◌∙◌, rules, tests, position, nat_eq}
use Rattle.std.proofs.lemmas.Iterator.{YieldsList-from_slice}
use Rattle.std.proofs.lemmas.Iterator.Search.{position_from_yields_List}
use Rattle.subst.proofs.BindLaws.{seek-by}
use Rattle.subst.proofs.bind.seek.Goals as goal

pub returns-in_err-i : goal.returns-in_err-i
returns-in_err-i c = let found : c.position.result ≡ position (λ n. nat_eq n c.args.m) c.args.names.now = position_from_yields_List _ _ _ _ c.position.ensures.ran (YieldsList-from_slice c.args.names.now cc) (λ x b q k. search (rules, tests)) in
    rw c.from_residual.ensures (sym (seek-by _ _ _ (sym c.in_err-i.was ∙ found)))

pub returns : goal.returns
returns c = let found : c.position.result ≡ position (λ n. nat_eq n c.args.m) c.args.names.now = position_from_yields_List _ _ _ _ c.position.ensures.ran (YieldsList-from_slice c.args.names.now cc) (λ x b q k. search (rules, tests)) in
    sym (seek-by _ _ _ (sym c.in_ok-i.was ∙ found))
