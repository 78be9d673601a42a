-- The program's turns: the next line is answered behind what is not written yet, or the program is told to write, to read or to stop.
use Rattle.std.specs.Prelude.{Bool, true, false, ◌&&◌, List, [], ◌++◌, ℕ, ◌+◌, ◌-◌, leb, eqb, length, take, drop}
use Rattle.tree.specs.Form.{pick}
use Rattle.reply.specs.Split.{next_of}
use Rattle.reply.specs.declared.split.Next.{Next}
use Rattle.reply.specs.declared.split.Next.TheVariants.{Line, Skipped, Long, More}
use Rattle.turns.specs.Output.{answer_to, output_of}
use Rattle.turns.specs.declared.state.State.{State}
use Rattle.turns.specs.declared.turn.Turn.{Turn}
use Rattle.turns.specs.declared.turn.Turn.TheVariants.{On, Write, Read, Stop}

-- the bytes that were read and not passed yet
abbrev pub pending_of : State → List ℕ → List ℕ
pending_of st input = take (st.end - st.start) (drop st.start input)

-- what is printed, how many bytes are passed, and whether a line is being skipped after them; or that there is nothing to answer yet
pub data Piece : Type 0 where
  piece : List ℕ → ℕ → Bool → Piece
  none : Piece

-- a line that is too long is answered once; what is read of it later is passed
abbrev pub of_next : Bool → Bool → List ℕ → Next → Piece
of_next skipping ended bs (Line n) = piece (answer_to (take n bs)) (n + 1) false
of_next skipping ended bs (Skipped n) = piece [] (n + 1) false
of_next skipping ended bs Long = piece (answer_to bs) (length bs) true
of_next true ended bs More = pick (leb 1 (length bs)) (piece [] (length bs) true) none
of_next false ended bs More = pick (ended && leb 1 (length bs)) (piece (answer_to bs) (length bs) false) none

unfoldable pub piece_of : State → List ℕ → Piece
piece_of st input = of_next st.skipping st.ended (pending_of st input) (next_of st.skipping (pending_of st input))

abbrev pub printed_of : Piece → List ℕ
printed_of (piece out n s) = out
printed_of none = []

abbrev pub passed : State → List ℕ → ℕ → Bool → State
passed st out n s = record { start = st.start + n; end = st.end; used = st.used + length out; skipping = s; ended = st.ended }

-- what is answered is written before more is read
abbrev pub waiting : State → Turn → Turn
waiting st t = pick (eqb st.used 0) t Write

abbrev pub of_piece : State → Piece → Turn
of_piece st (piece out n s) = On (passed st out n s)
of_piece st none = waiting st (pick st.ended Stop Read)

-- a state that fits an input and an output of these lengths, the program's rows, and the room for one answer more
abbrev pub fits : State → ℕ → ℕ → Bool
fits st input output = leb st.start st.end && (leb st.end input && leb st.used output)

abbrev pub rows_fit : ℕ → ℕ → ℕ → ℕ → Bool
rows_fit list form work result = eqb list 8192 && (eqb form 8192 && (eqb work 16384 && eqb result 8192))

abbrev pub has_room : State → ℕ → Bool
has_room st output = leb 131073 (output - st.used)

unfoldable pub turn_of : Bool → State → List ℕ → ℕ → Turn
turn_of rows st input output =
    pick (rows && fits st (length input) output) (pick (has_room st output) (of_piece st (piece_of st input)) (waiting st Stop)) Stop

unfoldable pub printed_by : Bool → State → List ℕ → ℕ → List ℕ
printed_by rows st input output =
    pick (rows && fits st (length input) output) (pick (has_room st output) (printed_of (piece_of st input)) []) []

-- after what was answered is written
abbrev pub written_state : State → State
written_state st = record { start = st.start; end = st.end; used = 0; skipping = st.skipping; ended = st.ended }

-- the bytes that are not passed yet, moved to the front of the input
abbrev pub movable : State → ℕ → Bool
movable st input = leb st.start st.end && leb st.end input

unfoldable pub moved_state : State → ℕ → State
moved_state st input =
    pick (movable st input) (record { start = 0; end = st.end - st.start; used = st.used; skipping = st.skipping; ended = st.ended }) st

unfoldable pub moved_bytes : State → List ℕ → List ℕ
moved_bytes st input = pick (movable st (length input)) (pending_of st input) []

-- after so many bytes were read behind the others; none, or more than there is room for, is the end of the input
abbrev pub ending : State → State
ending st = record { start = st.start; end = st.end; used = st.used; skipping = st.skipping; ended = true }

unfoldable pub read_state : State → ℕ → ℕ → State
read_state st input got =
    pick (leb got (input - st.end) && leb 1 got) (record { start = st.start; end = st.end + got; used = st.used; skipping = st.skipping; ended = st.ended }) (ending st)

-- all that is printed from here on, if `more` is what is still to be read
abbrev pub still_of : State → List ℕ → List ℕ → List ℕ → List ℕ
still_of st input output more = take st.used output ++ output_of st.skipping (pending_of st input ++ more)
