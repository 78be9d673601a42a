-- What is printed from a state on stays the same, or loses what was written, at each turn, read and write, and is nothing where the program
-- stops: so all that is printed is decided by the bytes of the input, however they are cut into reads. Assumes nothing.
use mathlib.Core.Path.{◌≡◌, refl, ap, sym, ◌∙◌}
use mathlib.Core.Bool.{Bool, true, false, ◌&&◌}
use mathlib.Core.List.{List, [], ◌∷◌, ◌++◌, append_assoc, append-nil}
use mathlib.Core.Logic.{◌⊎◌, inl, inr}
use Prim.Native.Nat.{ℕ, zero, suc, ◌+◌, ◌-◌, ◌≤◌}
use native.Mathlib.Omega.{arith}
use borrow.Author.Tests.{le-leb, leb-true, eqb-true}
use lib.Dec.{leb, eqb}
use lib.ListN.{length, take, drop, length-append}
use lib.Seq.{length-take-le, take-nil, drop-drop, take-append_seam, take_at, drop-append-le}
use Rattle.tree.specs.Form.{pick}
use Rattle.form.specs.Break.{break_at}
use Rattle.form.specs.Answer.{Outcome, answer, stop, of_found, needs}
use Rattle.form.specs.Decode.{Found, found, missing, form_of}
use Rattle.form.specs.declared.answer.Kind.TheVariants.{Either}
use Rattle.form.proofs.DecodeLaws.{clash}
use Rattle.form.specs.Refusal.{number_of, position_of}
use Rattle.spell.specs.Put.{put}
use Rattle.spell.specs.Spell.{spell, spell_no, print_outcome, print_no}
use Rattle.spell.proofs.AnswerLaws.{put_front}
use Rattle.reply.specs.Reply.{line_outcome, reply_outcome, printed}
use Rattle.reply.specs.Split.{newline_in}
use Rattle.turns.specs.Output.{with_newline, answer_to, output_of}
use Rattle.turns.specs.Turn.{pending_of, Piece, piece, none, piece_of, printed_of, passed, waiting, of_piece, fits, has_room, turn_of, printed_by, written_state, movable, moved_state, moved_bytes, read_state, still_of}
use Rattle.turns.specs.declared.state.State.{State}
use Rattle.turns.specs.declared.turn.Turn.{Turn}
use Rattle.turns.specs.declared.turn.Turn.TheVariants.{On, Write, Read, Stop}
use Rattle.turns.proofs.OutputLaws.{Keeps, piece-keeps, none_left}
use Rattle.turns.proofs.PieceLaws.{Case, is-line, is-skipped, is-long, is-dropped, is_last, is-empty, is-unread, case-of}
use Rattle.turns.proofs.PutLaws.{put-none, put-eq}
use Rattle.turns.proofs.TurnLaws.{moved-are, pending-long}
use Rattle.form.specs.declared.answer.Refusal.TheVariants.{TooLong, OutputTooShort}

-- an answer with its newline has at most 131,073 bytes
abbrev Few : Outcome → Type 0
Few o = length (with_newline o) ≤ 131073

few-needs : (bs : List ℕ) (b : Bool) → leb (length bs) 131072 ≡ b → Few (needs OutputTooShort b (answer bs))
few-needs bs true e = let h = leb-true (length bs) 131072 e in rw (length-append bs (10 ∷ [])) (omega arith)
few-needs bs false e = omega arith

few-printed : (o : Outcome) → Few (printed 131072 o)
unfolding print_outcome print_no
few-printed (answer ws) = go (leb (length ws) 8192) (form_of Either ws)
  where
    go : (b : Bool) (x : Found) → Few (pick b (of_found (break_at Either ws) (λ s f. needs OutputTooShort (leb (length (spell f)) 131072) (answer (spell f))) x) (stop TooLong))
    go true (found s f) = few-needs (spell f) (leb (length (spell f)) 131072) refl
    go true missing = omega arith
    go false x = omega arith
few-printed (stop r) =
    few-needs (spell_no (number_of r) (position_of r)) (leb (length (spell_no (number_of r) (position_of r))) 131072) refl

answer-few : (line : List ℕ) → length (answer_to line) ≤ 131073
unfolding answer_to reply_outcome
answer-few line = few-printed (line_outcome line 8192 8192 16384 8192)

pub case-few : {bs : List ℕ} {s e : Bool} {p : Piece} → Case bs s e p → length (printed_of p) ≤ 131073
case-few {bs} (is-line h) = answer-few (take (newline_in bs) bs)
case-few (is-skipped h) = omega arith
case-few {bs} (is-long h l) = answer-few bs
case-few (is-dropped h) = omega arith
case-few {bs} (is_last h l) = answer-few bs
case-few (is-empty h) = omega arith
case-few (is-unread h) = omega arith

-- parts of the buffers
drop-take : (n k : ℕ) (l : List ℕ) → drop n (take k l) ≡ take (k - n) (drop n l)
drop-take zero k l = let e : k - 0 ≡ k = omega arith in rw e
drop-take (suc n) zero l = let e : 0 - suc n ≡ 0 = omega arith in rw e
drop-take (suc n) (suc k) [] = sym (take-nil (suc k - suc n))
drop-take (suc n) (suc k) (x ∷ l) = let e : suc k - suc n ≡ k - n = omega arith in rw e (drop-take n k l)

pub put-end : (l : List ℕ) (o : ℕ) (bs : List ℕ) → o + length bs ≤ length l → take (o + length bs) (put l o bs) ≡ take o l ++ bs
put-end l o bs h =
    rw (put-eq l o bs h, ← append_assoc (take o l) bs (drop (o + length bs) l))
    (take_at (take o l ++ bs) (drop (o + length bs) l) (o + length bs) (length-append (take o l) bs ∙ ap (λ n. n + length bs) (length-take-le o l (omega arith))))

pending-passed : (st : State) (input out : List ℕ) (n : ℕ) (s : Bool) → pending_of (passed st out n s) input ≡ drop n (pending_of st input)
pending-passed st input out n s =
    let e : st.end - (st.start + n) ≡ st.end - st.start - n = omega arith in
    rw e (ap (take (st.end - st.start - n)) (sym (drop-drop n st.start input)) ∙ sym (drop-take n (st.end - st.start) (drop st.start input)))

module _ (st : State) where
  never_on : (t : Turn) (x : State) → (t ≡ Stop) ⊎ (t ≡ Read) → waiting st t ≡ On x → ⊥
  never_on t x (inl a) e = go (eqb st.used 0) (rw a at e)
    where
      go : (b : Bool) → pick b Stop Write ≡ On x → ⊥
      go true e = clash cc
      go false e = clash cc
  never_on t x (inr a) e = go (eqb st.used 0) (rw a at e)
    where
      go : (b : Bool) → pick b Read Write ≡ On x → ⊥
      go true e = clash cc
      go false e = clash cc

  stops-or-reads : (b : Bool) → (pick b Stop Read ≡ Stop) ⊎ (pick b Stop Read ≡ Read)
  stops-or-reads true = inl refl
  stops-or-reads false = inr refl

-- a turn
module _ (rows : Bool) (st : State) (input output : List ℕ) where
  abbrev After : List ℕ
  After = put output st.used (printed_by rows st input (length output))

  module _ (st' : State) where
    pub on-piece : (a b : Bool) (p : Piece) → pick a (pick b (of_piece st p) (waiting st Stop)) Stop ≡ On st'
        → (out : List ℕ) × (n : ℕ) × (s : Bool) × (a ≡ true) × (b ≡ true) × (p ≡ piece out n s) × (st' ≡ passed st out n s)
    on-piece false b p e = absurd (clash cc)
    on-piece true false p e = absurd (never_on st Stop st' (inl refl) e)
    on-piece true true none e = absurd (never_on st (pick st.ended Stop Read) st' (stops-or-reads st st.ended) e)
    on-piece true true (piece out n s) e = (out, n, s, refl, refl, refl, let z : passed st out n s ≡ st' = cc in sym z)

    module _ (more : List ℕ) (k : st.ended ≡ true → more ≡ []) where
      keeps-by : (out : List ℕ) (n : ℕ) (s : Bool) → (rows && fits st (length input) (length output)) ≡ true → has_room st (length output) ≡ true → piece_of st input ≡ piece out n s → st' ≡ passed st out n s
          → still_of st' input After more ≡ still_of st input output more
      unfolding printed_by piece_of
      keeps-by out n s a b p q =
          let h = leb-true 131073 (length output - st.used) b in
          let f : length out ≤ 131073 = rw p at (case-few (case-of (pending_of st input) st.skipping st.ended)) in
          let w : Keeps st.skipping (pending_of st input) more (piece out n s) = rw p at (piece-keeps (pending_of st input) more (case-of (pending_of st input) st.skipping st.ended) k) in
          rw (a, b, p, q, put-end output st.used out (omega arith), pending-passed st input out n s) (append_assoc (take st.used output) out _ ∙ ap (λ x. take st.used output ++ x) w)

      pub turn-keeps : turn_of rows st input (length output) ≡ On st' → still_of st' input After more ≡ still_of st input output more
      unfolding turn_of
      turn-keeps e =
          let (out, n, s, a, b, p, q) = on-piece (rows && fits st (length input) (length output)) (has_room st (length output)) (piece_of st input) e in
          keeps-by out n s a b p q

-- writing, moving and reading
module _ (st : State) (input output more : List ℕ) where
  pub write_keeps : take st.used output ++ still_of (written_state st) input output more ≡ still_of st input output more
  write_keeps = refl

  move-by : (b : Bool) → movable st (length input) ≡ b → still_of (moved_state st (length input)) (put input 0 (moved_bytes st input)) output more ≡ still_of st input output more
  unfolding moved_state moved_bytes
  move-by true e =
      let (a, i) = moved-are st (length input) e in
      let l : length (pending_of st input) ≡ st.end - st.start = pending-long st input i (omega arith) in
      let k : st.end - st.start - 0 ≡ length (pending_of st input) = omega arith in
      let m : length (pending_of st input) ≤ length input = omega arith in
      rw (e, k, put_front input (pending_of st input) m) (ap (λ x. take st.used output ++ output_of st.skipping (x ++ more)) (take-append_seam (pending_of st input) (drop (length (pending_of st input)) input)))
  move-by false e = rw (e, put-none input 0)

  pub move-keeps : still_of (moved_state st (length input)) (put input 0 (moved_bytes st input)) output more ≡ still_of st input output more
  move-keeps = move-by (movable st (length input)) refl

-- bytes read behind the others
module _ (st : State) (input input' output new more : List ℕ) (a : st.start ≤ st.end) (i : st.end ≤ length input) (w : take (st.end + length new) input' ≡ take st.end input ++ new) where
  pending-read : take (st.end + length new - st.start) (drop st.start input') ≡ pending_of st input ++ new
  pending-read =
      let l : length (take st.end input) ≡ st.end = length-take-le st.end input i in
      sym (drop-take st.start (st.end + length new) input') ∙ ap (drop st.start) w ∙ drop-append-le st.start (take st.end input) new (omega arith)
      ∙ ap (λ x. x ++ new) (drop-take st.start st.end input)

  pub read_keeps : 1 ≤ length new → length new ≤ length input - st.end → still_of (read_state st (length input) (length new)) input' output more ≡ still_of st input output (new ++ more)
  unfolding read_state
  read_keeps n f = rw (le-leb (length new) (length input - st.end) f, le-leb 1 (length new) n, pending-read, append_assoc (pending_of st input) new more)

-- what the other turns say of the state
module _ (st : State) where
  waits : (t : Turn) (b : Bool) → pick b t Write ≡ Stop → (b ≡ true) × (t ≡ Stop)
  waits t true e = (refl, e)
  waits t false e = absurd (clash cc)

  waits-read : (t : Turn) (b : Bool) → pick b t Write ≡ Read → t ≡ Read
  waits-read t true e = e
  waits-read t false e = absurd (clash cc)

  ended-stops : (b : Bool) → pick b Stop Read ≡ Stop → b ≡ true
  ended-stops true e = refl
  ended-stops false e = absurd (clash cc)

  open-reads : (b : Bool) → pick b Stop Read ≡ Read → b ≡ false
  open-reads true e = absurd (clash cc)
  open-reads false e = refl

  module _ (input output : List ℕ) where
    reads-by : (a b : Bool) (p : Piece) → pick a (pick b (of_piece st p) (waiting st Stop)) Stop ≡ Read → (p ≡ none) × (st.ended ≡ false)
    reads-by false b p e = absurd (clash cc)
    reads-by true false p e = absurd (clash (let z = waits-read Stop (eqb st.used 0) e in cc))
    reads-by true true none e = (refl, open-reads st.ended (waits-read (pick st.ended Stop Read) (eqb st.used 0) e))
    reads-by true true (piece out n s) e = absurd (clash cc)

    pub reads-are : (rows : Bool) → turn_of rows st input (length output) ≡ Read → (piece_of st input ≡ none) × (st.ended ≡ false)
    unfolding turn_of
    reads-are rows e = reads-by (rows && fits st (length input) (length output)) (has_room st (length output)) (piece_of st input) e

    stops-by : 131073 ≤ length output → (b : Bool) (p : Piece) → has_room st (length output) ≡ b → piece_of st input ≡ p → pick b (of_piece st p) (waiting st Stop) ≡ Stop → still_of st input output [] ≡ []
    unfolding piece_of
    stops-by l true (piece out n s) h p e = absurd (clash cc)
    stops-by l true none h p e =
        let (u, t) = waits (pick st.ended Stop Read) (eqb st.used 0) e in
        let z = eqb-true st.used 0 u in
        rw (z, append-nil (pending_of st input)) (none_left (case-of (pending_of st input) st.skipping st.ended) (ended-stops st.ended t) p)
    stops-by l false p h q e =
        let (u, t) = waits Stop (eqb st.used 0) e in
        let z = eqb-true st.used 0 u in
        absurd (clash (let y = le-leb 131073 (length output - st.used) (omega arith) in cc))

    pub stop-keeps : 131073 ≤ length output → fits st (length input) (length output) ≡ true → turn_of true st input (length output) ≡ Stop → still_of st input output [] ≡ []
    unfolding turn_of
    stop-keeps l f e = stops-by l (has_room st (length output)) (piece_of st input) refl refl (rw f at e)
