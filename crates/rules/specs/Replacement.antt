-- The rule of Places: the target and the replacement that an equality offers, and when it is accepted.
use Rattle.std.specs.Prelude.{Bool, ℕ, suc, ltb}
use Rattle.std.proofs.Math.Option.{Option, none as absent, some}
use Rattle.tree.specs.Form.{free, bound, Form, leaf, node, noted, pick}
use Rattle.rules.specs.Walk.{each}
use Rattle.rules.specs.Shift.{reaches}

pub data Side : Type 0 where
  left right : Side

abbrev pub side_of : Form → Form → Side → Form
side_of l r = elim [ left ↦ l | right ↦ r ]

-- the target's index, and the side that replaces it
pub data Offer : Type 0 where
  offer : ℕ → Side → Offer
  no-offer : Offer

abbrev pub index_of : Form → Option ℕ
index_of = elim [ leaf x ↦ elim x [ free n ↦ absent | bound i ↦ some i ] | node t o ds ks ↦ absent | noted t o ds ks ↦ absent ]

-- both sides bound: the smaller index and the other side; else the side that is bound, the right one first
abbrev pub offer_of : Option ℕ → Option ℕ → Offer
offer_of (some i) (some j) = pick (ltb i j) (offer i right) (offer j left)
offer_of absent (some j) = offer j left
offer_of (some i) absent = offer i right
offer_of absent absent = no-offer

abbrev pub offered : Form → Form → Offer
offered l r = offer_of (index_of l) (index_of r)

-- every index that dangles in the replacement is above the target
abbrev pub above : ℕ → Form → Bool
above i e = each (reaches (suc i)) 0 e

-- an equality taken: its target and its replacement
pub data Taken : Type 0 where
  taken : ℕ → Form → Taken
  nothing : Taken

abbrev pub allowed : ℕ → ℕ → Form → Taken
allowed n i e = pick (ltb i n) (pick (above i e) (taken i e) nothing) nothing

abbrev pub of_offer : ℕ → Form → Form → Offer → Taken
of_offer n l r = elim [ offer i s ↦ allowed n i (side_of l r s) | no-offer ↦ nothing ]

-- accepted for n declarations with all places free
unfoldable pub accept : ℕ → Form → Form → Taken
accept n l r = of_offer n l r (offered l r)
