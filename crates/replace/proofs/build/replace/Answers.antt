use mathlib.Core.Path.{refl, sym, ◌∙◌}
use Rattle.shift.proofs.CheckedLaws.{passed}
use Rattle.replace.proofs.BuildLaws.{short-sure, same-replaced}
use Rattle.replace.proofs.LengthLaws.{work-short}
use Rattle.tree.proofs.Pairs.{both}
use Rattle.replace.proofs.build.replace.Goals as goal

pub returns-then-not-sure : goal.returns-then-not-sure
returns-then-not-sure c = both (λ v w. record { value = v; out_after = w }) (passed _ _ _ _ _ (same-replaced _ _ _ _ _ _ _ _ _ _ _ _ (sym c.if-not-sure.true) refl refl) (c.replace_checked.ensures.value, c.replace_checked.ensures.out_after))

pub replace_built-requires : goal.replace_built-requires
replace_built-requires c = record { ready = c.requires; marks_len_bound = work-short c.args.job _ _ (sym c.fit_work.ensures ∙ c.if-fit_work.true) }

pub returns-then-fit_work : goal.returns-then-fit_work
returns-then-fit_work c = both (λ v w. record { value = v; out_after = w }) (passed _ _ _ _ _ (short-sure _ _ _ _ _ _ _ _ _ c.if-not-sure.false) (c.replace_built.ensures.value, c.replace_built.ensures.out_after))

pub returns : goal.returns
returns c = both (λ v w. record { value = v; out_after = w }) (passed _ _ _ _ _ (short-sure _ _ _ _ _ _ _ _ _ c.if-not-sure.false) (c.replace_counted.ensures.value, c.replace_counted.ensures.out_after))
