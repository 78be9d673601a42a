-- What an answer that holds a refused set says of the offer. Assumes nothing.
use mathlib.Core.Path.{◌≡◌, ap, sym}
use Rattle.std.specs.Prelude.{Result, Ok, Err}
use Rattle.form.specs.declared.answer.Refusal.{Refusal}
use Rattle.form.proofs.DecodeLaws.{clash}
use Rattle.places.specs.Places.{or_kept}
use Rattle.places.specs.declared.replacements.Replacements.{Replacements}
use Rattle.places.specs.declared.replacements.Refused.{Refused}

pub kept-ok : (p : Replacements) (x : Result Replacements Refusal) (q : Replacements) → or_kept p x ≡ Ok q → x ≡ Ok q
kept-ok p (Ok r) q e = let h : r ≡ q = cc in ap Ok h
kept-ok p (Err r) q e = absurd (clash cc)

pub kept-err : (p : Replacements) (x : Result Replacements Refusal) (e : Refused) → or_kept p x ≡ Err e → (x ≡ Err e.refusal) × (e.places ≡ p)
kept-err p (Ok r) e h = absurd (clash cc)
kept-err p (Err r) e h = let k : record { places = p; refusal = r } ≡ e = cc in (ap (λ z. Err z.refusal) k, sym (ap (λ z. z.places) k))
