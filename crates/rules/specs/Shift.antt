-- Shift: a signed offset is added to each dangling index; one that would come below its depth is a capture.
use Rattle.std.specs.Prelude.{Bool, true, List, ℕ, suc, ◌-◌, leb, ℤ, pos, negsuc}
use Rattle.std.proofs.Math.Option.{Option, none as absent, some}
use Rattle.tree.specs.Form.{free, bound, Form, leaf, pick}
use Rattle.tree.specs.Tag.{Sort}
use Rattle.form.specs.Answer.{Outcome, stop, with_form, finish}
use Rattle.form.specs.declared.answer.Kind.TheVariants.{Either}
use Rattle.rules.specs.Walk.{Outer, named, dangling, lift, subst, each}
use Rattle.form.specs.declared.answer.Refusal.TheVariants.{Captured}

-- by n down: every dangling index is at least n
abbrev pub reaches : ℕ → ℕ → Outer → Bool
reaches n k = elim [ named m ↦ true | dangling j ↦ leb n j ]

abbrev pub fall : ℕ → Outer → Form
fall n = elim [ named m ↦ leaf (free m) | dangling j ↦ leaf (bound (j - n)) ]

abbrev pub lower : ℕ → Form → Form
lower n f = subst (fall n) f

-- nothing where a dangling index would come below its depth
unfoldable pub shift : ℤ → Form → Option Form
shift (pos n) f = some (lift n f)
shift (negsuc n) f = pick (each (reaches (suc n)) 0 f) (some (lower (suc n) f)) absent

abbrev pub of_shifted : Sort → ℕ → Option Form → Outcome
of_shifted s room = elim [ some g ↦ finish s room g | absent ↦ stop Captured ]

unfoldable pub shift_outcome : List ℕ → ℤ → ℕ → Outcome
shift_outcome row offset room = with_form Either row (λ s f. of_shifted s room (shift offset f))
