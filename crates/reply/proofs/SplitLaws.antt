-- The search for a newline, and what comes next by where it stands. Assumes nothing.
use mathlib.Core.Path.{◌≡◌, refl, ap, sym, subst}
use mathlib.Core.Bool.{Bool, true, false, not, cond}
use mathlib.Core.List.{List, [], ◌∷◌}
use Prim.Native.Nat.{ℕ, suc, ◌+◌, ◌≤◌}
use native.Mathlib.Omega.{arith}
use borrow.Author.Tests.{ltb-false}
use lib.Dec.{ltb, eqb}
use lib.ListN.{length}
use Rattle.std.proofs.Common.{position, nat_eq}
use Rattle.std.specs.List.{position_or_len}
use Rattle.std.specs.Option.{unwrap_or}
use Rattle.std.specs.Prelude.{Some, None}
use Rattle.tree.specs.Form.{pick}
use Rattle.reply.specs.Split.{newline_in, next_of}
use Rattle.reply.specs.declared.split.Next.TheVariants.{Line, Skipped, Long, More}

pub next-is : (skipping : Bool) (bs : List ℕ) (n : ℕ) → n ≡ newline_in bs
    → next_of skipping bs ≡ pick (ltb n (length bs)) (pick skipping (Skipped n) (Line n)) (pick skipping More (pick (ltb 65535 n) Long More))
unfolding next_of
next-is skipping bs n e =
    ap (λ z. pick (ltb z (length bs)) (pick skipping (Skipped z) (Line z)) (pick skipping More (pick (ltb 65535 z) Long More))) (sym e)

-- the search as the library's
pub newline-first : (bs : List ℕ) → newline_in bs ≡ position_or_len (λ b. eqb b 10) bs
unfolding newline_in
newline-first [] = refl
newline-first (b ∷ bs) = go (eqb b 10) (newline-first bs)
  where
    go : (x : Bool) → newline_in bs ≡ position_or_len (λ b. eqb b 10) bs → pick x 0 (suc (newline_in bs)) ≡ cond (not x) (1 + position_or_len (λ b. eqb b 10) bs) 0
    go true e = refl
    go false e = rw e (omega arith)

newline-within : (bs : List ℕ) → newline_in bs ≤ length bs
unfolding newline_in
newline-within [] = omega arith
newline-within (b ∷ bs) = go (eqb b 10) (newline-within bs)
  where
    go : (x : Bool) → newline_in bs ≤ length bs → pick x 0 (suc (newline_in bs)) ≤ suc (length bs)
    go true h = omega arith
    go false h = omega arith

pub newline-found : (bs : List ℕ) → unwrap_or (position (λ b. nat_eq b 10) bs) (length bs) ≡ newline_in bs
newline-found bs =
    subst (λ n. unwrap_or (cond (ltb n (length bs)) (Some n) None) (length bs) ≡ newline_in bs) (newline-first bs) (go (ltb (newline_in bs) (length bs)) refl)
  where
    go : (x : Bool) → ltb (newline_in bs) (length bs) ≡ x → unwrap_or (cond x (Some (newline_in bs)) None) (length bs) ≡ newline_in bs
    go true e = refl
    go false e = let h = ltb-false (newline_in bs) (length bs) e in let l = newline-within bs in omega arith
