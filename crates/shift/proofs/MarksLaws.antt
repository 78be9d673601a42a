-- Work on lent marks: what it answers and leaves, for every row. Assumes nothing.
use Rattle.std.proofs.Common.{◌≡◌, ℕ, ◌<◌, List, length, sym, subst, MutBor}
use Rattle.std.specs.Option.{MatchOption, unwrap_or}
use Rattle.std.specs.Prelude.{Option, Some, None}
use Rattle.shift.specs.Internal.Items.{Fresh}

module _ {T : Type 0} {row a b : List ℕ} {long : T} (Q : T → List ℕ → Type 0) where
  -- a row over the limit has the answer of long rows, and any other what the work finds
  pub lent : {Ran : T → MutBor (List ℕ) → MutBor (List ℕ) → MutBor (List ℕ) → MutBor (List ℕ) → Type 0} (r : Option T) → MatchOption r ((8192 < length row) × (b ≡ a)) (λ x. (m : MutBor (List ℕ)) × (o : MutBor (List ℕ)) × (n : MutBor (List ℕ)) × (p : MutBor (List ℕ)) × Fresh row m.now × (o.now ≡ a) × Ran x m o n p × (p.now ≡ b)) → (8192 < length row → Q long a) → ((x : T) (m o n p : MutBor (List ℕ)) → Fresh row m.now → o.now ≡ a → Ran x m o n p → Q x p.now) → Q (unwrap_or r long) b
  lent None (h, e) over within = subst (λ l. Q long l) (sym e) (over h)
  lent (Some x) (m, o, n, p, fresh, e, ran, left) over within = subst (λ l. Q x l) left (within x m o n p fresh e ran)
