-- What is done in a turn, before its line is answered.
use Rattle.std.specs.Prelude.{◌≡◌, Bool, true, List, [], ℕ, ◌+◌, ◌-◌, ◌≤◌, length, take, drop}
use Rattle.form.specs.Answer.{Answer}
use Rattle.std.specs.Prelude.{Ok}
use Rattle.turns.specs.Output.{answer_to}
use Rattle.turns.specs.Turn.{Piece, printed_of, of_piece}
use Rattle.turns.specs.declared.state.State.{State}
use Rattle.turns.specs.declared.turn.Turn.{Turn}
use Rattle.turns.specs.declared.turn.Turn.TheVariants.{On}
use Rattle.turns.specs.declared.turn.Step.{Step}
use Rattle.turns.specs.declared.turn.Step.TheVariants.{Reply, Plain}

-- the answer to the line that ends there
abbrev pub answer_up_to : State → List ℕ → ℕ → List ℕ
answer_up_to st input end = answer_to (take (end - st.start) (drop st.start input))

abbrev pub with_used : State → ℕ → State
with_used next used = record { start = next.start; end = next.end; used = used; skipping = next.skipping; ended = next.ended }

-- the turn of a step, and what it prints
abbrev pub turn_by : State → List ℕ → Step → Turn
turn_by st input (Reply end next) = On (with_used next (st.used + length (answer_up_to st input end)))
turn_by st input (Plain t) = t

abbrev pub printed_in : State → List ℕ → Step → List ℕ
printed_in st input (Reply end next) = answer_up_to st input end
printed_in st input (Plain t) = []

-- a step of this turn and these bytes
pub record Decided (st : State) (input : List ℕ) (t : Turn) (out : List ℕ) (s : Step) : Type 0 where
  pub turns : turn_by st input s ≡ t
  pub prints : printed_in st input s ≡ out

-- and of this piece, with its line among the bytes that are not passed yet
abbrev pub inside : State → Step → Type 0
inside st (Reply end next) = (st.start ≤ end) × (end ≤ st.end)
inside st (Plain t) = Unit {0}

pub record OfPiece (st : State) (input : List ℕ) (p : Piece) (s : Step) : Type 0 where
  pub decides : Decided st input (of_piece st p) (printed_of p) s
  pub within : inside st s

-- a line is answered only with the program's rows, and with room for one answer more
abbrev pub allowed : Bool → State → ℕ → ℕ → Step → Type 0
allowed rows st input output (Reply end next) = (rows ≡ true) × (st.start ≤ end) × (end ≤ input) × (st.used + 131073 ≤ output)
allowed rows st input output (Plain t) = Unit {0}

-- the end of an answer of n bytes, where there is room for it
pub record Ending (a : Answer) (used room r : ℕ) : Type 0 where
  pub least : used ≤ r
  pub most : r ≤ room
  pub done : (n : ℕ) → a ≡ Ok n → used + n ≤ room → r ≡ used + n
