-- Reading bracket groups byte by byte. A group is '[' items ']' with single spaces between its items; an item is a decimal word or a group.
-- Its row is its words in order; in a place list each group directly inside gives 0 where it is empty and 1 before its words otherwise.
use Rattle.std.specs.Prelude.{Bool, ◌&&◌, Option, Some, None, List, [], ◌∷◌, ◌++◌, ℕ, zero, suc, ◌+◌, ◌-◌, ◌*◌, leb, eqb, ℤ, pos, negsuc}
use Rattle.tree.specs.Form.{pick, between}
use Rattle.line.specs.declared.turn.State.{State}
use Rattle.line.specs.declared.turn.State.TheVariants.{Opened, Spaced, Closed, Digits}

-- which byte may follow: a bracket or a word after '[' or ' '; a space or ']' after a word or ']'; ']' also after '['
abbrev pub on_open : State → Option State
on_open Opened = Some Opened
on_open Spaced = Some Opened
on_open Closed = None
on_open (Digits v) = None

abbrev pub on_close : State → Option State
on_close Opened = Some Closed
on_close Spaced = None
on_close Closed = Some Closed
on_close (Digits v) = Some Closed

abbrev pub on_space : State → Option State
on_space Opened = None
on_space Spaced = None
on_space Closed = Some Spaced
on_space (Digits v) = Some Spaced

-- a word has no leading zero, and is below 2 ^ 32
unfoldable pub on_digit : State → ℕ → Option State
on_digit Opened d = Some (Digits d)
on_digit Spaced d = Some (Digits d)
on_digit Closed d = None
on_digit (Digits v) d = pick (leb 1 v && leb (v * 10 + d) 4294967295) (Some (Digits (v * 10 + d))) None

unfoldable pub turn : State → ℕ → Option State
turn s b = pick (eqb b 91) (on_open s) (pick (eqb b 93) (on_close s) (pick (eqb b 32) (on_space s) (pick (between 48 57 b) (on_digit s (b - 48)) None)))

-- the word that the byte b ends, or, as the first byte inside a place's bracket, gives
unfoldable pub note : Bool → ℕ → State → ℕ → Option ℕ
note places d Opened b = pick (places && eqb d 2) (Some (pick (eqb b 93) 0 1)) None
note places d Spaced b = None
note places d Closed b = None
note places d (Digits v) b = pick (between 48 57 b) None (Some v)

unfoldable pub mark_words : Option ℕ → List ℕ
mark_words (Some w) = w ∷ []
mark_words None = []

unfoldable pub depth_after : ℕ → ℕ → ℕ
depth_after d b = pick (eqb b 91) (d + 1) (pick (eqb b 93) (d - 1) d)

-- the words of a group and the number of its bytes; or the words before the spelling breaks
pub data Scan : Type 0 where
  ended : List ℕ → ℕ → Scan
  broken : List ℕ → Scan

unfoldable pub add_byte : List ℕ → Scan → Scan
add_byte w (ended ws k) = ended (w ++ ws) (suc k)
add_byte w (broken ws) = broken (w ++ ws)

abbrev pub moved : Option State → List ℕ → ℕ → (State → Scan) → Scan
moved None ws d k = broken []
moved (Some s) ws zero k = ended ws 1
moved (Some s) ws (suc d) k = add_byte ws (k s)

-- inside so many open brackets
unfoldable pub scan : Bool → ℕ → State → List ℕ → Scan
scan places d s [] = broken []
scan places d s (b ∷ bs) = moved (turn s b) (mark_words (note places d s b)) (depth_after d b) (λ s'. scan places (depth_after d b) s' bs)

-- the group at the front of the bytes
unfoldable pub group : Bool → List ℕ → Scan
group places [] = broken []
group places (b ∷ bs) = pick (eqb b 91) (add_byte [] (scan places 1 Opened bs)) (broken [])

unfoldable pub scan_words : Scan → List ℕ
scan_words (ended ws k) = ws
scan_words (broken ws) = ws

-- a decimal word at the front of the bytes, and the number of its bytes
pub data Decimal : Type 0 where
  found : ℕ → ℕ → Decimal
  none : Decimal

abbrev pub add_digit : Decimal → Decimal
add_digit (found v k) = found v (suc k)
add_digit none = none

unfoldable pub finished : State → Decimal
finished (Digits v) = found v 0
finished Opened = none
finished Spaced = none
finished Closed = none

abbrev pub turned : Option State → (State → Decimal) → Decimal
turned None k = none
turned (Some s) k = add_digit (k s)

unfoldable pub number : State → List ℕ → Decimal
number s [] = finished s
number s (b ∷ bs) = pick (between 48 57 b) (turned (on_digit s (b - 48)) (λ s'. number s' bs)) (finished s)

-- an offset in 32 bits, with a minus sign if it is negative, never `-0`
pub data Signed : Type 0 where
  signed : ℤ → ℕ → Signed
  unsigned : Signed

unfoldable pub below_zero : ℕ → ℕ → Signed
below_zero zero k = unsigned
below_zero (suc v) k = pick (leb v 2147483647) (signed (negsuc v) k) unsigned

unfoldable pub from_zero : ℕ → ℕ → Signed
from_zero v k = pick (leb v 2147483647) (signed (pos v) k) unsigned

abbrev pub negative : Decimal → Signed
negative (found v k) = below_zero v (suc k)
negative none = unsigned

abbrev pub positive : Decimal → Signed
positive (found v k) = from_zero v k
positive none = unsigned

unfoldable pub offset : List ℕ → Signed
offset [] = unsigned
offset (b ∷ bs) = pick (eqb b 45) (negative (number Spaced bs)) (positive (number Spaced (b ∷ bs)))
