-- The premise under which one point keeps the truth: the replacement's value lies in the range of the declaration that it replaces.
use Rattle.std.specs.Prelude.{Bool, true, ℕ, suc, ◌-◌, ℤ, pos, length, take, get_or, replicate}
use mathlib.Core.List.{List, foldr, map}
use Rattle.tree.specs.Form.{Form}
use Rattle.rules.specs.Fill.{name_of, quantifier, other, quantified}
use Rattle.rules.specs.Replacement.{taken, nothing}
use Rattle.rules.specs.Scan.{Scan, scanned, scan}
use Rattle.rules.specs.Point.{polarity}
use Rattle.reading.specs.Reading.{Reading, same, every, some, Env, cons, over, value}

abbrev pub has : ℤ → List ℤ → Bool
has v ws = some (map (λ w. same w v) ws)

abbrev pub push : List ℤ → Env → Env
push c ρ = foldr cons ρ c

-- the replacement read in the body: the declarations before the target's have the values of η; the target and what follows it do not occur
-- in it, and are given 0
abbrev pub read_in_body : Reading → ℕ → Form → Env → ℤ
read_in_body R i e η = value R (push (replicate (suc i) (pos 0)) η) e

-- under every choice from the ranges of the declarations before the target's
abbrev pub in_range : Reading → List ℕ → ℕ → Form → Bool
in_range R ns i e =
    let j = length ns - suc i in
    every (over R.range (take j ns) R.index (λ η. has (read_in_body R i e η) (R.range (get_or ns j 0))))

-- for the equality that the scan takes, if any
abbrev pub premise_of : Reading → List ℕ → Scan → Bool
premise_of R ns (scanned (taken i e) g) = in_range R ns i e
premise_of R ns (scanned nothing g) = true

abbrev pub premise : Reading → Form → Bool
premise R f =
    elim (quantified f) [ quantifier t ds g ↦ premise_of R (map name_of ds) (scan (length ds) (polarity t) g) | other ↦ true ]
