-- The parts of an equality, by the words at two positions: as many expressions stand at the one as at the other.
use Rattle.std.specs.Prelude.{Option, Some, None, ◌≡◌, List, ◌∷◌, ◌++◌, ℕ, ◌+◌, ◌-◌, ltb, length, take, drop}
use Rattle.std.specs.Option.{IsSomeAnd}
use Rattle.tree.specs.Form.{Form, pick, count, encode, encode_all}
use Rattle.rules.specs.Replacement.{Taken, taken, nothing}
use Rattle.rules.specs.Scan.{Scans, scans, present, copied, offer_parts}
use Rattle.places.specs.Internal.Positions.{Beside, parts_at}
use Rattle.places.specs.Internal.Sides.{replacement_words, above_words}
use Rattle.places.specs.Internal.Wrote.{Wrote}
use Rattle.one_point.specs.declared.parts.Search.{Search}
use Rattle.places.specs.declared.sides.Sides.{Sides}
use Rattle.places.specs.declared.sides.Replacement.{Replacement}

-- the rule of Places, with all places free
abbrev pub accept_by : ℕ → List ℕ → Option Replacement → Option Replacement
accept_by n row (Some r) = pick (ltb r.target n) (pick (above_words r.target (take (r.end - r.start) (drop r.start row))) (Some r) None) None
accept_by n row None = None

unfoldable pub accept_words : ℕ → Sides → List ℕ → Option Replacement
accept_words n s row = accept_by n row (replacement_words s row)

abbrev pub equal_words : List ℕ → Sides → List ℕ
equal_words row s = 101 ∷ (take (s.middle - s.left) (drop s.left row) ++ take (s.end - s.right) (drop s.right row))

-- the target that was taken, and where its replacement stands
unfoldable pub TookIs : List ℕ → Taken → Option Replacement → Type 0
TookIs row (taken i e) r = IsSomeAnd r (λ x. (x.target ≡ i) × (x.end ≡ x.start + length (encode e)) × (drop x.start row ≡ encode e ++ drop x.end row))
TookIs row nothing r = r ≡ None

-- what is left of the parts, written at w after k others
unfoldable pub PartsTold : List ℕ → ℕ → List ℕ → ℕ → Scans → Option Replacement → ℕ → ℕ → List ℕ → Type 0
PartsTold row w out k (scans x gs) found end m out' = TookIs row x found × Wrote w out (encode_all (present gs)) end out' × (m ≡ k + count (present gs))

-- the same of parts that are copied
unfoldable pub PartsCopied : List (Form × Form) → ℕ → List ℕ → ℕ → ℕ → ℕ → List ℕ → Type 0
PartsCopied ps w out k end m out' = Wrote w out (encode_all (present (copied ps))) end out' × (m ≡ k + count (present (copied ps)))

-- what a search found and wrote, and where it stopped: with the rest copied, all is told
pub record Searched (row : List ℕ) (d p q pos : ℕ) (out : List ℕ) (r : Search) (out' : List ℕ) : Type 0 where
  pub whole : (e m : ℕ) (o : List ℕ) → PartsCopied (parts_at row r.left r.right r.todo) r.end out' r.count e m o → PartsTold row pos out 0 (offer_parts d (parts_at row p q 1)) r.found e m o
  pub rest : Beside row r.left r.right r.todo r.end r.count (length out')
