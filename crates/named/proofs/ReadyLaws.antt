-- The rows of the reader of names from call to call: long enough, with the same declarations open. Assumes nothing.
use mathlib.Core.Path.{◌≡◌, refl, ◌∙◌}
use mathlib.Core.List.{List}
use Prim.Native.Nat.{ℕ, zero, suc, ◌+◌, ◌≤◌, ◌<◌}
use native.Mathlib.Omega.{arith}
use lib.ListN.{length, get_or, set}
use lib.Seq.{get_or-set_same, get_or-set_other}
use Rattle.tree.specs.Tag.{Sort}
use Rattle.rules.specs.Named.{opened}
use Rattle.named.specs.Internal.Scope.{Sized, scope_of, open_all, closes, Held}
use Rattle.named.specs.Internal.Reads.{read_names, Ready, Wrote, WroteLeaf, Kept}
use Rattle.form.proofs.DecodeLaws.{clash}
use Rattle.named.proofs.SlotLaws.{scope-less, sized-at}
use Rattle.named.proofs.ScopeLaws.{all-length, all_held, all-scope, all-outer, close-held, close-scope}
use Rattle.std.specs.Prelude.{Some, None, Option}

-- the next call finds what this one found
pub ready-next : (row made made' sc sc' : List ℕ) (at p u v : ℕ) → Ready row made sc at u → length made' ≡ length made → length sc' ≡ length sc → v ≤ p → Held sc' v → Ready row made' sc' p v
ready-next row made made' sc sc' at p u v r m s l h =
    let f = r.fits in
    record { sized = rw s r.sized; fits = omega arith; short = r.short; low = l; held = h }

pub kept-bad : (u : ℕ) (sc sc' : List ℕ) → Kept None u sc sc'
unfolding Kept
kept-bad u sc sc' = tt

pub kept_same : (r : Option ℕ) (u : ℕ) (sc : List ℕ) → Held sc u → Kept r u sc sc
unfolding Kept
kept_same (Some q) u sc h = (h, refl)
kept_same None u sc h = tt

pub kept-end : (r : Option ℕ) (q u : ℕ) (sc sc' : List ℕ) → Kept r u sc sc' → r ≡ Some q → Held sc' u × (scope_of sc' u ≡ scope_of sc u)
unfolding Kept
kept-end (Some p) q u sc sc' k e = k
kept-end None q u sc sc' k e = absurd (clash cc)

pub end_kept : (q u : ℕ) (sc sc' : List ℕ) → Held sc' u → scope_of sc' u ≡ scope_of sc u → Kept (Some q) u sc sc'
unfolding Kept
end_kept q u sc sc' h e = (h, e)

-- two calls one after the other
pub kept_then : (r : Option ℕ) (u : ℕ) (sc sc' sc'' : List ℕ) → scope_of sc' u ≡ scope_of sc u → Kept r u sc' sc'' → Kept r u sc sc''
unfolding Kept
kept_then (Some q) u sc sc' sc'' e k = (k.0, k.1 ∙ e)
kept_then None u sc sc' sc'' e k = tt

pub leaf-at : (at : ℕ) (S : List ℕ) (s : Sort) (ws a b : List ℕ) (r : Option ℕ) (d : ℕ) → (d ≡ 0 → ⊥) → WroteLeaf at S s ws a b r → Wrote at S (read_names d s ws) a b r
leaf-at at S s ws a b r zero ne w = absurd (ne refl)
leaf-at at S s ws a b r (suc d) ne w = w d

-- the declarations of a quantifier opened round its children, and closed
module _ (ds : List ℕ) (u : ℕ) (sc sc₁ : List ℕ) (room : Sized (u + length ds) (length sc)) (held : Held sc u) (begun : sc₁ ≡ open_all ds u sc) where
  pub open-long : length sc₁ ≡ length sc
  open-long = rw begun (all-length ds u sc room)

  pub open-holds : Held sc₁ (u + length ds)
  open-holds = rw begun (all_held ds u sc room held)

  pub open-names : scope_of sc₁ (u + length ds) ≡ opened ds (scope_of sc u)
  open-names = rw begun (all-scope ds u sc room)

  pub close-kept : (q : ℕ) (sc₂ sc₃ : List ℕ) → length sc₂ ≡ length sc → Held sc₂ (u + length ds) → scope_of sc₂ (u + length ds) ≡ scope_of sc₁ (u + length ds) → sc₃ ≡ closes u (length ds) sc₂ → Kept (Some q) u sc sc₃
  close-kept q sc₂ sc₃ l h e c =
      let same : scope_of (closes u (length ds) sc₂) u ≡ scope_of sc u =
      close-scope u (length ds) sc₂ (sized-at (u + length ds) (u + length ds) (length sc₂) (length sc) l (omega arith) room) h
      ∙ (scope-less (length ds) u sc₂ sc₁ e ∙ rw begun (all-outer ds u sc room)) in
      rw c (end_kept q u sc (closes u (length ds) sc₂) (close-held u (length ds) sc₂ h) same)

-- names kept one after another: those before i stay, and the last is there
pub name-next : (c names : List ℕ) (i v : ℕ) → i < length names → ((j : ℕ) → j < i + 1 → get_or c j 0 ≡ get_or (set names i v) j 0) → ((j : ℕ) → j < i → get_or c j 0 ≡ get_or names j 0) × (get_or c i 0 ≡ v)
name-next c names i v h e =
    ((λ j l. let ne : j ≡ i → ⊥ = λ k. omega arith in e j (omega arith) ∙ get_or-set_other names i j v 0 ne), e i (omega arith) ∙ get_or-set_same names i v 0 h)
