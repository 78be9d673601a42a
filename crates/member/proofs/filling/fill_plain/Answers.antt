use mathlib.Core.Path.{refl, ◌∙◌}
use Rattle.shift.proofs.CheckedLaws.{passed}
use Rattle.member.proofs.FillBodyLaws.{stay-names, stay-front, kept-told, stay-low}
use Rattle.member.proofs.filling.fill_plain.Goals as goal

pub returns : goal.returns
returns c = record { value = λ x. (passed _ _ _ _ _ (kept-told c.args.names.now x c.requires.1 _ _ _ (c.keep_names-k.ensures.out_after ∙ stay-names c.args.names.now x _ refl) (c.front_of-j.ensures ∙ stay-front c.args.names.now x _ refl)) (c.fill_kept.ensures.value, c.fill_kept.ensures.out_after)).0; out_after = λ x. (passed _ _ _ _ _ (kept-told c.args.names.now x c.requires.1 _ _ _ (c.keep_names-k.ensures.out_after ∙ stay-names c.args.names.now x _ refl) (c.front_of-j.ensures ∙ stay-front c.args.names.now x _ refl)) (c.fill_kept.ensures.value, c.fill_kept.ensures.out_after)).1 }

pub fill_kept-requires : goal.fill_kept-requires
fill_kept-requires c = let s = stay-low c.args.names.now c.requires.0 _ _ (c.keep_names-k.ensures.out_after ∙ stay-names c.args.names.now c.requires.0 _ refl) (c.front_of-j.ensures ∙ stay-front c.args.names.now c.requires.0 _ refl) in s
