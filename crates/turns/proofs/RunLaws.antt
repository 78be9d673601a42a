-- Every run of the program writes what is printed for the bytes that it reads, whatever each read gives. Assumes nothing.
use mathlib.Core.Path.{◌≡◌, refl, ap, sym, ◌∙◌}
use mathlib.Core.Bool.{Bool, true, false, ◌&&◌}
use mathlib.Core.List.{List, [], ◌++◌}
use Prim.Native.Nat.{ℕ, ◌-◌, ◌≤◌}
use native.Mathlib.Omega.{arith}
use borrow.Author.Tests.{le-leb, leb-true}
use lib.ListN.{length, take}
use Rattle.form.proofs.DecodeLaws.{clash}
use Rattle.spell.specs.Put.{put}
use Rattle.spell.proofs.WriteLaws.{put-length}
use Rattle.turns.specs.Output.{output_of}
use Rattle.turns.specs.Turn.{pending_of, piece, piece_of, passed, fits, has_room, turn_of, printed_by, movable, moved_state, moved_bytes, read_state, still_of}
use Rattle.turns.specs.Run.{Run, stops, goes_on, writes, reads, ends}
use Rattle.turns.specs.declared.state.State.{State}
use Rattle.turns.specs.declared.turn.Turn.TheVariants.{On, Read}
use Rattle.turns.proofs.PieceLaws.{case-of, case-passes, case-short}
use Rattle.turns.proofs.StillLaws.{case-few, on-piece, turn-keeps, write_keeps, move-keeps, read_keeps, reads-are, stop-keeps}
use Rattle.turns.proofs.TurnLaws.{pending-long, read_none}

abbrev pub beginning : State
beginning = record { start = 0; end = 0; used = 0; skipping = false; ended = false }

-- a state that fits its buffers
abbrev pub Fits : State → ℕ → ℕ → Type 0
Fits st input output = (st.start ≤ st.end) × (st.end ≤ input) × (st.used ≤ output)

fits_by : (st : State) (input output : ℕ) → Fits st input output → fits st input output ≡ true
fits_by st input output (a, b, c) = rw (le-leb st.start st.end a, le-leb st.end input b, le-leb st.used output c)

-- each step keeps a fitting state
module _ (st : State) (input output : List ℕ) (f : Fits st (length input) (length output)) where
  module _ (next : State) where
    on-fits-by : (out : List ℕ) (n : ℕ) (s : Bool) → has_room st (length output) ≡ true → piece_of st input ≡ piece out n s → next ≡ passed st out n s → Fits next (length input) (length output)
    unfolding piece_of
    on-fits-by out n s b p q =
        let (x, y, z) = f in
        let h = leb-true 131073 (length output - st.used) b in
        let l = pending-long st input y (omega arith) in
        let m : length out ≤ 131073 = rw p at (case-few (case-of (pending_of st input) st.skipping st.ended)) in
        let k : n ≤ length (pending_of st input) = case-passes (pending_of st input) (case-of (pending_of st input) st.skipping st.ended) out n s p in
        rw q (omega arith, omega arith, omega arith)

    on_fits : turn_of true st input (length output) ≡ On next → Fits next (length input) (length output)
    unfolding turn_of
    on_fits e =
        let (out, n, s, a, b, p, q) = on-piece true st input output next (true && fits st (length input) (length output)) (has_room st (length output)) (piece_of st input) e in
        on-fits-by out n s b p q

    on-ended : turn_of true st input (length output) ≡ On next → next.ended ≡ st.ended
    unfolding turn_of
    on-ended e =
        let (out, n, s, a, b, p, q) = on-piece true st input output next (true && fits st (length input) (length output)) (has_room st (length output)) (piece_of st input) e in
        ap (λ (x : State). x.ended) q

  moves : movable st (length input) ≡ true
  moves = let (x, y, z) = f in rw (le-leb st.start st.end x, le-leb st.end (length input) y)

  moved-fits : Fits (moved_state st (length input)) (length input) (length output)
  unfolding moved_state
  moved-fits = let (x, y, z) = f in rw moves (omega arith, omega arith, z)

read_fits : (st : State) (input output got : ℕ) → Fits st input output → 1 ≤ got → got ≤ input - st.end → Fits (read_state st input got) input output
unfolding read_state
read_fits st input output got (x, y, z) n h = rw (le-leb got (input - st.end) h, le-leb 1 got n) (omega arith, omega arith, z)

end_fits : (st : State) (input output : ℕ) → Fits st input output → Fits (read_state st input 0) input output
end_fits st input output f = rw (← read_none st input 0 refl) f

-- the input has ended: no more is read
run-ended : {st : State} {input output bytes out : List ℕ} → Run st input output bytes out → Fits st (length input) (length output) → st.ended ≡ true → bytes ≡ []
run-ended (stops e a b) f k = a
run-ended {st} {input} {output} (goes_on next e r) f k =
    let l = put-length output st.used (printed_by true st input (length output)) in
    run-ended r (rw l (on_fits st input output f next e)) (on-ended st input output f next e ∙ k)
run-ended (writes rest e a r) f k = run-ended r (f.0, f.1, omega arith) k
run-ended {st} {input} {output} (reads moved input' new later e m n h l w a r) f k = let q = (reads-are st input output true e).1 in absurd (clash cc)
run-ended (ends e a r) f k = a

-- what is written is what is printed from here on
pub run-still : {st : State} {input output bytes out : List ℕ} → Run st input output bytes out → Fits st (length input) (length output) → 131073 ≤ length output → out ≡ still_of st input output bytes
run-still {st} {input} {output} (stops e a b) f l = rw (a, b) (sym (stop-keeps st input output l (fits_by st (length input) (length output) f) e))
run-still {st} {input} {output} {bytes} (goes_on next e r) f l =
    let n = put-length output st.used (printed_by true st input (length output)) in
    run-still r (rw n (on_fits st input output f next e)) (rw n l) ∙ turn-keeps true st input output next bytes (λ k. run-ended (goes_on next e r) f k) e
run-still {st} {input} {output} {bytes} (writes rest e a r) f l = a ∙ ap (λ x. take st.used output ++ x) (run-still r (f.0, f.1, omega arith) l) ∙ write_keeps st input output bytes
run-still {st} {input} {output} (reads moved input' new later e m n h c w a r) f l =
    let g : Fits moved (length input) (length output) = rw m (moved-fits st input output f) in
    let p = put-length input 0 (moved_bytes st input) in
    run-still r (rw c (read_fits moved (length input) (length output) (length new) g n h)) l
    ∙ (rw p at (read_keeps moved (put input 0 (moved_bytes st input)) input' output new later g.0 (rw p g.1) w n (rw p h)))
    ∙ rw (m, a) (move-keeps st input output (new ++ later))
run-still {st} {input} {output} (ends e a r) f l =
    let g = moved-fits st input output f in
    let p = put-length input 0 (moved_bytes st input) in
    run-still r (rw p (end_fits (moved_state st (length input)) (length input) (length output) g)) l
    ∙ rw (← read_none (moved_state st (length input)) (length input) 0 refl, a) (move-keeps st input output [])

-- from the beginning: what is written is the output of all that is read
pub run-prints : (input output bytes out : List ℕ) → 131073 ≤ length output → Run beginning input output bytes out → out ≡ output_of false bytes
run-prints input output bytes out l r = run-still r (omega arith, omega arith, omega arith) l ∙ refl

-- where more is to be read, at most 65,535 bytes are kept: an input buffer of more bytes always has room
pub read-room : (st : State) (input output : List ℕ) → Fits st (length input) (length output) → turn_of true st input (length output) ≡ Read → (moved_state st (length input)).end ≤ 65535
unfolding moved_state piece_of
read-room st input output f e =
    let h = case-short (pending_of st input) (case-of (pending_of st input) st.skipping st.ended) (reads-are st input output true e).0 in
    let l = pending-long st input f.1 (let x = f.0 in omega arith) in
    rw (moves st input output f) (omega arith)
