-- The words before declarations with annotations, step by step as the code goes. Assumes nothing.
use mathlib.Core.Path.{◌≡◌, refl, ap, sym, ◌∙◌}
use mathlib.Core.Bool.{Bool, true, false, not, ◌&&◌, ◌||◌, and-false}
use mathlib.Core.List.{List, [], ◌∷◌, ◌++◌}
use Prim.Native.Nat.{ℕ, zero, suc, ◌+◌, ◌-◌, ◌≤◌, ◌<◌}
use native.Mathlib.Numerals.{add-one}
use native.Mathlib.Omega.{arith}
use borrow.Author.Tests.{lt-leb, leb-true, leb-false}
use lib.Dec.{leb, eqb}
use lib.ListN.{length, get_or, take, drop, replicate, length-append}
use lib.Seq.{take_at}
use Rattle.tree.specs.Form.{pick}
use Rattle.std.specs.List.{list_any}
use Rattle.form.specs.Answer.{Outcome, answer, stop, told, written}
use Rattle.form.specs.Answer.{Answer}
use Rattle.std.specs.Prelude.{Ok, Err}
use Rattle.form.specs.declared.answer.Refusal.{Refusal}
use Rattle.form.proofs.DecodeLaws.{clash}
use Rattle.reader.specs.declared.lists.Table.{Table}
use Rattle.replace.specs.Internal.Pieces.{Ready, down_plan, placed_row, replaced, emitted}
use Rattle.replace.proofs.BuildLaws.{rest_part}
use Rattle.replace.proofs.ReadyLaws.{ready-is}
use Rattle.decls.specs.Internal.Noted.{noted_head, flagged_parts}
use Rattle.decls.proofs.HeadLaws.{room-enough}
use Rattle.rounds.specs.Internal.Round.{joins_names, joins_notes, head_notes, round_head, round_from, can_join, join_fits, round_fits, HeadMade}
use Rattle.rounds.specs.declared.rounds.Round.{Round}
use Rattle.member.specs.Internal.Member.{with_place, front_of}
use Rattle.member.specs.Internal.Noted.{no_zero, notes_end, front_filled, filled_notes, round_row}
use Rattle.form.specs.declared.answer.Refusal.TheVariants.{OutOfLimits, OutputTooShort}

-- words that are not 0
pub zeros : (ws : List ℕ) → no_zero ws ≡ not (list_any (λ w. eqb w 0) ws)
unfolding no_zero
zeros [] = refl
zeros (w ∷ ws) = go (eqb w 0) (zeros ws)
  where
    go : (b : Bool) → no_zero ws ≡ not (list_any (λ w. eqb w 0) ws) → pick b false (no_zero ws) ≡ not (b || list_any (λ w. eqb w 0) ws)
    go true h = refl
    go false h = h

front-most : (i : ℕ) (ws : List ℕ) → front_of i ws ≤ i + length ws
unfolding front_of
front-most i [] = omega arith
front-most i (w ∷ ws) = go (eqb w 0) (let h = front-most (suc i) ws in omega arith)
  where
    go : (b : Bool) → front_of (suc i) ws ≤ i + suc (length ws) → pick b (front_of (suc i) ws) i ≤ i + suc (length ws)
    go true h = h
    go false h = omega arith

pub front-in : (ws : List ℕ) (j : ℕ) → j ≡ front_of 0 ws → j ≤ length ws
front-in ws j e = let h = front-most 0 ws in omega arith

-- a word for each declaration
pub ones-front : (k m : ℕ) → k ≤ m → take {A = ℕ} k (replicate m 1) ≡ replicate k 1
ones-front zero m h = refl
ones-front (suc k) zero h = absurd (omega arith)
ones-front (suc k) (suc m) h = ap (λ z. 1 ∷ z) (ones-front k m (omega arith))

-- one more place filled
pub front-next : (t s r : Table) (i : ℕ) → s ≡ front_filled t i → r ≡ with_place s i (get_or t.starts (t.n - 1) 0) (get_or t.ends (t.n - 1) 0) → r ≡ front_filled t (i + 1)
unfolding front_filled
front-next t s r i e h = rw (add-one i, ← e) h

-- a head that was made, and one that was not
module _ (decls : List ℕ) (joins clear : Bool) (notes : List ℕ) (t : Table) (row lm body marks : List ℕ) (room : ℕ) where
  pub round-no : (leb 8192 8192 && round_fits 852 (take t.n t.words) decls joins clear notes body) ≡ false → round_row decls joins clear notes t row lm body marks room ≡ stop OutOfLimits
  unfolding round_row
  round-no h = rw h

  pub round-yes : (leb 8192 8192 && round_fits 852 (take t.n t.words) decls joins clear notes body) ≡ true → (r : Round) (hd : List ℕ)
      → HeadMade (round_head 852 (take t.n t.words) decls joins clear notes body) (round_from 852 joins clear body) r hd
      → placed_row false (take r.words hd) t 0 row lm (drop r.from body) (drop r.from marks) room ≡ round_row decls joins clear notes t row lm body marks room
  unfolding round_row
  round-yes h r hd m = rw (h, m.front, m.follows)

-- where nothing is joined
module _ (decls : List ℕ) (t : Table) (row lm body marks : List ℕ) (room : ℕ) where
  pub round-apart : length decls ≤ 256 → (hd : List ℕ) → hd ≡ noted_head 852 (take t.n t.words) decls 256
      → placed_row false hd t 0 row lm (drop 0 body) (drop 0 marks) room ≡ round_row decls false false [] t row lm body marks room
  unfolding round_row round_fits round_head round_from joins_names joins_notes
  round-apart h hd e = rw (e, room-enough 852 (take t.n t.words) decls 256 8192 h (omega arith))

  pub round_same : (joins clear : Bool) (notes : List ℕ) → joins ≡ false → round_row decls false false [] t row lm body marks room ≡ round_row decls joins clear notes t row lm body marks room
  unfolding round_row round_fits round_head round_from joins_names joins_notes
  round_same joins clear notes e = rw e

-- where the annotations alone have too many words, there is no head
notes-long : (keep ds notes body : List ℕ) → get_or body 0 0 ≡ 862 → 8192 < length notes → round_fits 852 keep ds true true notes body ≡ false
unfolding round_fits joins_names joins_notes join_fits head_notes
notes-long keep ds notes body e h =
    let l = length-append (flagged_parts keep ds 8192) notes in
    rw (e, lt-leb (suc (suc (length (flagged_parts keep ds 8192 ++ notes)))) 8192 (omega arith)) (and-false (can_join (length (noted_head 852 keep ds 8192)) (get_or body 1 0) (length body)))

-- annotations that were filled, and such as are too long
module _ (t : Table) (j : ℕ) (row lm body marks : List ℕ) (ready : Ready (down_plan (front_filled t j) 0) row lm) (f : Table) (front : f ≡ front_filled t j) (end : ℕ) (to : end ≡ notes_end body) where
  abbrev ws : List ℕ
  ws = filled_notes t j row lm body marks

  abbrev made : Outcome
  made = placed_row true [] f 0 row lm (drop 2 (take end body)) (drop 2 marks) 8192

  made-is : made ≡ pick (leb (length ws) 8192) (pick (leb (length ws) 8192) (answer ws) (stop OutputTooShort)) (stop OutOfLimits)
  unfolding placed_row replaced emitted filled_notes
  made-is = rw (front, to, ready-is (front_filled t j) row lm 0 ready)

  by_length : (b : Bool) → leb (length ws) 8192 ≡ b → made ≡ pick b (answer ws) (stop OutOfLimits)
  by_length true e = made-is ∙ rw e
  by_length false e = made-is ∙ rw e

  pub notes-done : (a : Answer) (long : ℕ) → a ≡ told made → a ≡ Ok long → (out out' : List ℕ) → out' ≡ written made out → (take long out' ≡ ws) × (long ≤ 8192)
  notes-done a long e h out out' w = go (leb (length ws) 8192) refl
    where
      go : (b : Bool) → leb (length ws) 8192 ≡ b → (take long out' ≡ ws) × (long ≤ 8192)
      go true q =
          let m = by_length true q in
          let z : Ok (length ws) ≡ Ok long = ap told (sym m) ∙ (sym e ∙ h) in
          let l : length ws ≡ long = cc in
          let k = leb-true (length ws) 8192 q in
          let v : out' ≡ ws ++ drop (length ws) out = w ∙ ap (λ o. written o out) m in
          (ap (take long) v ∙ take_at ws (drop (length ws) out) long l, omega arith)
      go false q =
          let m = by_length false q in
          let z : Err OutOfLimits ≡ Ok long = ap told (sym m) ∙ (sym e ∙ h) in
          absurd (clash cc)

  pub notes-refused : (a : Answer) (r : Refusal) → a ≡ told made → a ≡ Err r → get_or body 0 0 ≡ 862 → (decls : List ℕ) (room : ℕ) → round_row decls true true ws t row lm body marks room ≡ stop OutOfLimits
  unfolding round_row
  notes-refused a r e h tag decls room = rw (notes-long (take t.n t.words) decls ws body tag (leb-false (length ws) 8192 (go (leb (length ws) 8192) refl)))
    where
      go : (b : Bool) → leb (length ws) 8192 ≡ b → b ≡ false
      go true q = let z : Ok (length ws) ≡ Err r = ap told (sym (by_length true q)) ∙ (sym e ∙ h) in absurd (clash cc)
      go false q = refl

-- what the tests of words rest on
pub ruleset zero_tests = (zeros, rest_part, ones-front)
