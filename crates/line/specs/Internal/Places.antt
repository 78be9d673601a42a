-- What the readers answer, by what is read at their position of the line.
use Rattle.std.specs.Prelude.{◌≡◌, Option, Some, None, List, ℕ, ◌+◌, ℤ, length}
use Rattle.line.specs.Scan.{Scan, ended, broken, scan_words, Decimal, found, none, Signed, signed, unsigned}
use Rattle.line.specs.Line.{Formed, line_of, form_row}
use Rattle.line.specs.declared.line.Part.{Part}
use Rattle.line.specs.declared.line.Parts.{Parts}
use Rattle.spell.specs.Put.{put}

abbrev pub part : ℕ → ℕ → ℕ → Option Part
part start end count = Some (record { start = start; end = end; count = count })

-- the group that started at `start`, of which n words stand before `at`
unfoldable pub group_at : ℕ → ℕ → ℕ → Scan → Option Part
group_at start at n (ended ws k) = part start (at + k) (n + length ws)
group_at start at n (broken ws) = None

-- a reader at `at`, after n words, answers r and leaves the row b, where it was a
unfoldable pub Grouped : ℕ → ℕ → ℕ → Scan → List ℕ → List ℕ → Option Part → Type 0
Grouped start at n s a b r = (r ≡ group_at start at n s) × (b ≡ put a n (scan_words s))

unfoldable pub number_at : ℕ → Decimal → Option (ℕ × ℕ)
number_at at (found v k) = Some (v, at + k)
number_at at none = None

unfoldable pub offset_at : ℕ → Signed → Option (ℤ × ℕ)
offset_at at (signed z k) = Some (z, at + k)
offset_at at unsigned = None

unfoldable pub FormRead : Formed → List ℕ → List ℕ → Option Parts → Type 0
FormRead x a b r = (r ≡ line_of x) × (b ≡ put a 0 (form_row x))
