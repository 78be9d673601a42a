use Rattle.std.proofs.Common.{◌≡◌, subst, refl, rules}
use Rattle.std.proofs.lemmas.Fn.{fold_over, slice_gives, fronts}
use Rattle.shift.specs.Internal.Items.{all_below}
use Rattle.shift.proofs.ItemLaws.{below-push}
use Rattle.shift.proofs.items.all_below.Goals as goal

pub returns : goal.returns
unfolding all_below
returns c = subst (λ l. c.fold.result ≡ all_below c.args.hi l) c.iter.ensures.rest
    (fold_over fronts (λ y. y.now) _ (λ ys below. below ≡ all_below c.args.hi ys) _ (λ ys a x b f' j k. let more = below-push c.args.hi ys x.now in search rules)
    _ _ _ _ (slice_gives c.iter.result) refl c.fold.ensures.ran)
