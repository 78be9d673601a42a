-- The runs of the program, as its main goes from turn to turn: with the input and output buffers, what is read from here on, and what is
-- written. What a read gives is free, but for the bytes that it adds behind the others.
use Rattle.std.specs.Prelude.{◌≡◌, true, List, [], ◌++◌, ℕ, ◌+◌, ◌-◌, ◌≤◌, length, take}
use Rattle.spell.specs.Put.{put}
use Rattle.turns.specs.Turn.{turn_of, printed_by, written_state, moved_state, moved_bytes, read_state}
use Rattle.turns.specs.declared.state.State.{State}
use Rattle.turns.specs.declared.turn.Turn.TheVariants.{On, Write, Read, Stop}

pub data Run : State → List ℕ → List ℕ → List ℕ → List ℕ → Type 0 where
  stops : {st : State} {input output bytes out : List ℕ} → turn_of true st input (length output) ≡ Stop → bytes ≡ [] → out ≡ [] → Run st input output bytes out
  goes_on : {st : State} {input output bytes out : List ℕ} (next : State) → turn_of true st input (length output) ≡ On next
      → Run next input (put output st.used (printed_by true st input (length output))) bytes out → Run st input output bytes out
  writes : {st : State} {input output bytes out : List ℕ} (rest : List ℕ) → turn_of true st input (length output) ≡ Write
      → out ≡ take st.used output ++ rest → Run (written_state st) input output bytes rest → Run st input output bytes out
  -- the bytes that are not passed yet are moved down, and the new ones stand behind them
  reads : {st : State} {input output bytes out : List ℕ} (moved : State) (input' new later : List ℕ) → turn_of true st input (length output) ≡ Read
      → moved ≡ moved_state st (length input) → 1 ≤ length new → length new ≤ length input - moved.end → length input' ≡ length input
      → take (moved.end + length new) input' ≡ take moved.end (put input 0 (moved_bytes st input)) ++ new → bytes ≡ new ++ later
      → Run (read_state moved (length input) (length new)) input' output later out → Run st input output bytes out
  ends : {st : State} {input output bytes out : List ℕ} → turn_of true st input (length output) ≡ Read → bytes ≡ []
      → Run (read_state (moved_state st (length input)) (length input) 0) (put input 0 (moved_bytes st input)) output [] out → Run st input output bytes out
