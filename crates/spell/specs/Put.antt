-- Storing into a lent row or buffer.
use Rattle.std.specs.Prelude.{List, [], ◌∷◌, ℕ, ◌+◌, set}

-- the list with others stored over it from a position on; nothing is stored past its end
unfoldable pub put : List ℕ → ℕ → List ℕ → List ℕ
put l o [] = l
put l o (b ∷ bs) = put (set l o b) (o + 1) bs
