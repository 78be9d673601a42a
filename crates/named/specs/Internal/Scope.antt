-- The open declarations in a row of words, and what the loops do with them. The declaration at level l, from 0 outwards in, has four words from
-- 4 * l on: its name; what its cell held before; the innermost level of its name, where it is the outermost; and its cell, which holds its level
-- while it is open. At the end of the row stand the slots.
use Rattle.std.specs.Prelude.{◌≡◌, List, [], ◌∷◌, ℕ, zero, suc, ◌+◌, ◌-◌, ◌*◌, ◌%◌, ◌≤◌, ltb, eqb, length, get_or, set}
use Rattle.tree.specs.Form.{pick}

-- the number of slots in a row of n words, and where that of a name stands
unfoldable pub slots : ℕ → ℕ
slots n = pick (ltb n 2048) 256 (pick (ltb n 8192) 2048 4096)

unfoldable pub slot_of : ℕ → ℕ → ℕ
slot_of n m = pick (ltb n 2048) (n - 256 + m % 251) (pick (ltb n 8192) (n - 2048 + m % 2039) (n - 4096 + m % 4093))

-- a row of n words has room for u declarations and the slots
pub record Sized (u n : ℕ) : Type 0 where
  pub some : 256 ≤ n
  pub most : n ≤ 65536
  pub room : 4 * u + slots n ≤ n

-- the names that are open, from the innermost outwards
unfoldable pub scope_of : List ℕ → ℕ → List ℕ
scope_of sc zero = []
scope_of sc (suc u) = get_or sc (4 * u) 0 ∷ scope_of sc u

-- the level of a name's innermost declaration, counted from 1, or 0; and that of its outermost
unfoldable pub level_in : List ℕ → ℕ → ℕ
level_in [] m = 0
level_in (n ∷ ns) m = pick (eqb n m) (suc (length ns)) (level_in ns m)

abbrev pub or_else : ℕ → ℕ → ℕ
or_else zero l = l
or_else (suc k) l = suc k

unfoldable pub first_in : List ℕ → ℕ → ℕ
first_in [] m = 0
first_in (n ∷ ns) m = or_else (first_in ns m) (pick (eqb n m) (suc (length ns)) 0)

-- the cell of a name: the word for the innermost level in its outermost declaration, or its slot where it has none
abbrev pub cell_at : ℕ → ℕ → ℕ
cell_at slot zero = slot
cell_at slot (suc l) = 4 * l + 2

unfoldable pub cell_in : List ℕ → ℕ → ℕ → ℕ
cell_in sc u m = cell_at (slot_of (length sc) m) (first_in (scope_of sc u) m)

-- one declaration more, and all of a quantifier
unfoldable pub opens : ℕ → ℕ → List ℕ → List ℕ
opens m u sc =
    let c = cell_in sc u m in
    set (set (set (set (set sc (4 * u) m) (4 * u + 1) (get_or sc c 0)) (4 * u + 2) (suc u)) (4 * u + 3) c) c (suc u)

unfoldable pub open_all : List ℕ → ℕ → List ℕ → List ℕ
open_all [] u sc = sc
open_all (m ∷ ms) u sc = open_all ms (suc u) (opens m u sc)

-- the innermost declaration closed, at the level u; and n of them
unfoldable pub pop : ℕ → List ℕ → List ℕ
pop u sc = set sc (get_or sc (4 * u + 3) 0) (get_or sc (4 * u + 1) 0)

unfoldable pub closes : ℕ → ℕ → List ℕ → List ℕ
closes u zero sc = sc
closes u (suc n) sc = closes u n (pop (u + n) sc)

-- the innermost of u + 1 declarations stands in the cell of its name
pub record Innermost (sc : List ℕ) (u : ℕ) : Type 0 where
  pub cell : get_or sc (4 * u + 3) 0 ≡ cell_in sc u (get_or sc (4 * u) 0)
  pub held : get_or sc (get_or sc (4 * u + 3) 0) 0 ≡ suc u
  pub own : get_or sc (4 * u + 2) 0 ≡ suc u

-- the row holds the u declarations that are open: with none, every slot is 0; the innermost one is in its cell, and with it closed the row holds
-- the others
unfoldable pub Held : List ℕ → ℕ → Type 0
Held sc zero = (m : ℕ) → get_or sc (slot_of (length sc) m) 0 ≡ 0
Held sc (suc u) = Innermost sc u × Held (pop u sc) u
