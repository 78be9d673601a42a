-- What each case of a turn decides, and what it leaves in the output. Assumes nothing.
use mathlib.Core.Path.{◌≡◌, refl, ap, sym, ◌∙◌}
use mathlib.Core.Bool.{Bool, true, false, ◌&&◌}
use mathlib.Core.List.{List, [], ◌∷◌, ◌++◌}
use Prim.Native.Nat.{ℕ, zero, suc, ◌+◌, ◌-◌, ◌≤◌, ◌<◌}
use native.Mathlib.Omega.{arith}
use borrow.Author.Tests.{le-leb, lt-leb, leb-true, eqb-true, ltb-true}
use lib.Dec.{leb, ltb, eqb}
use lib.ListN.{length, take, drop, set, length-append, length-drop}
use lib.Seq.{length-take-le, take-take}
use Rattle.tree.specs.Form.{pick}
use Rattle.form.specs.Answer.{Outcome, told, written}
use Rattle.form.specs.Answer.{Answer}
use Rattle.form.proofs.DecodeLaws.{clash}
use Rattle.spell.specs.Put.{put}
use Rattle.reply.specs.Reply.{reply_outcome}
use Rattle.reply.proofs.GoodLaws.{reply-answers}
use Rattle.reply.specs.Split.{newline_in, next_of}
use Rattle.reply.specs.declared.split.Next.{Next}
use Rattle.reply.specs.declared.split.Next.TheVariants.{Line, Skipped, Long, More}
use Rattle.turns.specs.Output.{with_newline, answer_to}
use Rattle.turns.specs.Turn.{pending_of, Piece, piece, none, of_next, piece_of, passed, waiting, of_piece, fits, rows_fit, turn_of, printed_by, movable, moved_state, moved_bytes, ending, read_state}
use Rattle.turns.specs.Internal.Step.{answer_up_to, with_used, Decided, inside, OfPiece, allowed, Ending}
use Rattle.turns.specs.declared.state.State.{State}
use Rattle.turns.specs.declared.turn.Turn.{Turn}
use Rattle.turns.specs.declared.turn.Turn.TheVariants.{On, Stop}
use Rattle.turns.specs.declared.turn.Step.{Step}
use Rattle.turns.specs.declared.turn.Step.TheVariants.{Reply, Plain}
use Rattle.turns.proofs.PutLaws.{put-none, put-more, put-part}

positive : (n : ℕ) → (n ≡ 0 → ⊥) → 1 ≤ n
positive zero h = absurd (h refl)
positive (suc n) h = omega arith

and_both : (p q : Bool) → (p && q) ≡ true → (p ≡ true) × (q ≡ true)
and_both true true e = (refl, refl)
and_both true false e = absurd (clash cc)
and_both false q e = absurd (clash cc)

-- the steps of a piece
module _ (st : State) (input : List ℕ) (p : Piece) where
  pub of_none : p ≡ none → (s : Step) → s ≡ Plain (of_piece st none) → OfPiece st input p s
  of_none e s q = rw (e, q) (record { decides = record { turns = refl; prints = refl }; within = tt })

  pub of-pass : (n : ℕ) (b : Bool) → p ≡ piece [] n b → (next : State) → next ≡ passed st [] n b → OfPiece st input p (Plain (On next))
  of-pass n b e next q = rw (e, q) (record { decides = record { turns = refl; prints = refl }; within = tt })

  pub of-line : (end n : ℕ) (b : Bool) → st.start ≤ end → end ≤ st.end → p ≡ piece (answer_up_to st input end) n b → (next : State) → next ≡ passed st [] n b
      → OfPiece st input p (Reply end next)
  of-line end n b h k e next q = rw (e, q) (record { decides = record { turns = refl; prints = refl }; within = (h, k) })

-- the bytes that are not passed yet
module _ (st : State) (input : List ℕ) (inside : st.end ≤ length input) (before : st.start ≤ st.end) where
  pub pending-long : length (pending_of st input) ≡ st.end - st.start
  pending-long = length-take-le (st.end - st.start) (drop st.start input) (rw length-drop (omega arith))

  none-by : (b c : Bool) (bs : List ℕ) → length bs ≡ 0 → of_next b c bs More ≡ none
  none-by true c bs e = rw e
  none-by false true bs e = rw e
  none-by false false bs e = refl

  abbrev Rest : Piece
  Rest = of_next st.skipping st.ended (pending_of st input) More

  pub rest-none : (n : ℕ) → n ≡ st.end - st.start → n ≡ 0 → Rest ≡ none
  rest-none n e z = let l = pending-long in none-by st.skipping st.ended (pending_of st input) (omega arith)

  module _ (n : ℕ) (e : n ≡ st.end - st.start) (some : n ≡ 0 → ⊥) where
    more-one : 1 ≤ length (pending_of st input)
    more-one = let l = pending-long in rw (l, ← e) (positive n some)

    as_long : length (pending_of st input) ≡ n
    as_long = let l = pending-long in omega arith

    pub rest-skipped : st.skipping ≡ true → Rest ≡ piece [] n true
    rest-skipped k = rw (k, le-leb 1 (length (pending_of st input)) more-one, as_long)

    pub rest-last : st.skipping ≡ false → st.ended ≡ true → Rest ≡ piece (answer_up_to st input st.end) n false
    rest-last k t = rw (k, t, le-leb 1 (length (pending_of st input)) more-one, as_long)

    pub rest-unread : st.skipping ≡ false → st.ended ≡ false → Rest ≡ none
    rest-unread k t = rw (k, t)

  pub line-piece : (n : ℕ) → n < length (pending_of st input) → piece (answer_to (take n (pending_of st input))) (n + 1) false ≡ piece (answer_up_to st input (st.start + n)) (n + 1) false
  line-piece n h =
      let l = pending-long in
      let a : st.start + n - st.start ≡ n = omega arith in
      rw (a, take-take n (st.end - st.start) (drop st.start input) (omega arith))

  pub long-piece : piece (answer_to (pending_of st input)) (length (pending_of st input)) true ≡ piece (answer_up_to st input st.end) (st.end - st.start) true
  long-piece = rw pending-long

pub next-is : (st : State) (input : List ℕ) (r x : Next) → r ≡ next_of st.skipping (pending_of st input) → r ≡ x → piece_of st input ≡ of_next st.skipping st.ended (pending_of st input) x
unfolding piece_of
next-is st input r x e q = rw (← e, q)

-- a whole line lies in the bytes with its newline
abbrev Within : List ℕ → Next → Type 0
Within bs (Line n) = n < length bs
Within bs (Skipped n) = n < length bs
Within bs Long = Unit {0}
Within bs More = Unit {0}

next-within : (s : Bool) (bs : List ℕ) → Within bs (next_of s bs)
unfolding next_of
next-within s bs = go s (ltb (newline_in bs) (length bs)) refl (ltb 65535 (newline_in bs))
  where
    go : (s b : Bool) → ltb (newline_in bs) (length bs) ≡ b → (c : Bool) → Within bs (pick b (pick s (Skipped (newline_in bs)) (Line (newline_in bs))) (pick s More (pick c Long More)))
    go true true e c = ltb-true (newline_in bs) (length bs) e
    go false true e c = ltb-true (newline_in bs) (length bs) e
    go true false e c = tt
    go false false e true = tt
    go false false e false = tt

pub line-inside : (s : Bool) (bs : List ℕ) (r : Next) (n : ℕ) → r ≡ next_of s bs → r ≡ Line n → n < length bs
line-inside s bs r n e q = rw (← e, q) at (next-within s bs)

pub skipped-inside : (s : Bool) (bs : List ℕ) (r : Next) (n : ℕ) → r ≡ next_of s bs → r ≡ Skipped n → n < length bs
skipped-inside s bs r n e q = rw (← e, q) at (next-within s bs)

-- rows and states that fit
module _ (list form work result : ℕ) where
  pub rows_are : rows_fit list form work result ≡ true → (list ≡ 8192) × (form ≡ 8192) × (work ≡ 16384) × (result ≡ 8192)
  rows_are e =
      let (a, f) = and_both (eqb list 8192) (eqb form 8192 && (eqb work 16384 && eqb result 8192)) e in
      let (b, g) = and_both (eqb form 8192) (eqb work 16384 && eqb result 8192) f in
      let (c, d) = and_both (eqb work 16384) (eqb result 8192) g in
      (eqb-true list 8192 a, eqb-true form 8192 b, eqb-true work 16384 c, eqb-true result 8192 d)

module _ (st : State) (input output : ℕ) where
  pub fits-are : fits st input output ≡ true → (st.start ≤ st.end) × (st.end ≤ input) × (st.used ≤ output)
  fits-are e =
      let (a, f) = and_both (leb st.start st.end) (leb st.end input && leb st.used output) e in
      let (b, c) = and_both (leb st.end input) (leb st.used output) f in
      (leb-true st.start st.end a, leb-true st.end input b, leb-true st.used output c)

-- what is decided of the whole turn
module _ (rows : Bool) (st : State) (input : List ℕ) (output : ℕ) where
  abbrev Decision : Step → Type 0
  Decision s = Decided st input (turn_of rows st input output) (printed_by rows st input output) s × allowed rows st (length input) output s

  pub decide-rows : rows ≡ false → Decision (Plain Stop)
  unfolding turn_of printed_by
  decide-rows e = rw e (record { turns = refl; prints = refl }, tt)

  module _ (a : rows ≡ true) where
    pub decide-unfit : fits st (length input) output ≡ false → Decision (Plain Stop)
    unfolding turn_of printed_by
    decide-unfit e = rw (a, e) (record { turns = refl; prints = refl }, tt)

    module _ (b : fits st (length input) output ≡ true) where
      pub decide-full : output - st.used < 131073 → (t : Turn) → t ≡ waiting st Stop → Decision (Plain t)
      unfolding turn_of printed_by
      decide-full h t e = rw (a, b, lt-leb 131073 (output - st.used) h) (record { turns = e; prints = refl }, tt)

      allows : 131073 ≤ output - st.used → (s : Step) → inside st s → allowed rows st (length input) output s
      allows h (Reply end next) (k, l) = let (x, y, z) = fits-are st (length input) output b in (a, k, omega arith, omega arith)
      allows h (Plain t) k = tt

      pub decide-piece : 131073 ≤ output - st.used → (s : Step) → OfPiece st input (piece_of st input) s → Decision s
      unfolding turn_of printed_by
      decide-piece h s d = (rw (a, b, le-leb 131073 (output - st.used) h) d.decides, allows h s d.within)

-- the answer to a line and its newline, in a part of the output
module _ (bs out sub : List ℕ) (used k : ℕ) (room : used + k < length out) (w : sub ≡ bs ++ drop (length bs) (take k (drop used out))) (long : length sub ≡ k) where
  back-line : (length bs ≤ k) × (set (take used out ++ (sub ++ drop k (drop used out))) (used + length bs) 10 ≡ put out used (bs ++ (10 ∷ [])))
  back-line =
      let l = sym long ∙ ap length w ∙ length-append bs (drop (length bs) (take k (drop used out))) in
      let few : length bs ≤ k = omega arith in
      (few, rw (w, put-part out used k bs few (omega arith)) (put-more out used bs 10 (used + length bs) refl))

-- a turn without an answer
pub plain_done : (st : State) (input output : List ℕ) (t : Turn) (out : List ℕ) (s : Step) → Decided st input t out s → (v : Turn) → s ≡ Plain v
    → (v ≡ t) × (output ≡ put output st.used out)
plain_done st input output t out s d v q =
    let e : Decided st input t out (Plain v) = rw q at d in (e.turns, rw (← e.prints) (sym (put-none output st.used)))

-- a line that is answered with the program's rows
pub reply-fits : (rows : Bool) (st : State) (input output : ℕ) (s : Step) → allowed rows st input output s → (end : ℕ) (next : State) → s ≡ Reply end next
    → (rows ≡ true) × (st.start ≤ end) × (end ≤ input) × (st.used + 131073 ≤ output)
reply-fits rows st input output s h end next q = rw q at h

module _ (st : State) (input list form work result output : List ℕ) (t : Turn) (out : List ℕ) (s : Step)
    (d : Decided st input t out s × allowed (rows_fit (length list) (length form) (length work) (length result)) st (length input) (length output) s)
    (end : ℕ) (next : State) (q : s ≡ Reply end next) where
  decided : Decided st input t out (Reply end next)
  decided = rw q at d.0

  abbrev Answered : List ℕ
  Answered = take (end - st.start) (drop st.start input)

  module _ (r : Answer) (sub : List ℕ) (k : ℕ) (is : k ≡ 131072)
      (a : (r ≡ told (reply_outcome Answered (length list) (length form) (length work) (length result) (length (take k (drop st.used output)))))
      × (sub ≡ written (reply_outcome Answered (length list) (length form) (length work) (length result) (length (take k (drop st.used output)))) (take k (drop st.used output))))
      (long : length sub ≡ length (take k (drop st.used output))) where
    part-long : st.used + 131073 ≤ length output → length (take k (drop st.used output)) ≡ 131072
    part-long m = length-take-le k (drop st.used output) (rw length-drop (omega arith)) ∙ is

    pub reply-done : (z : ℕ) → Ending r st.used (st.used + 131072) z → (v : Turn) → v ≡ On (with_used next (z + 1))
        → (v ≡ t) × (set (take st.used output ++ (sub ++ drop k (drop st.used output))) z 10 ≡ put output st.used out)
    unfolding answer_to
    reply-done z e v f =
        let (rows, x, y, m) = reply-fits (rows_fit (length list) (length form) (length work) (length result)) st (length input) (length output) s d.1 end next q in
        let (i, j, l, n) = rows_are (length list) (length form) (length work) (length result) rows in
        let (bs, o, u) = reply-answers (λ _. Unit {0}) (λ _. tt) (λ _ _. tt) Answered 8192 8192 16384 8192 131072 (omega arith) in
        let (g, w) : (r ≡ told (reply_outcome Answered 8192 8192 16384 8192 131072)) × (sub ≡ written (reply_outcome Answered 8192 8192 16384 8192 131072) (take k (drop st.used output))) =
        rw (part-long m, i, j, l, n) at a in
        let p : answer_up_to st input end ≡ bs ++ (10 ∷ []) = ap with_newline o in
        let (few, back) = back-line bs output sub st.used k (omega arith) (w ∙ ap (λ (y : Outcome). written y (take k (drop st.used output))) o) (long ∙ part-long m ∙ sym is) in
        let zs : z ≡ st.used + length bs = e.done (length bs) (g ∙ ap told o) (omega arith) in
        let zl : z + 1 ≡ st.used + length (answer_up_to st input end) = rw (p, length-append bs (10 ∷ []), zs) (omega arith) in
        (f ∙ ap (λ (y : ℕ). On (with_used next y)) zl ∙ decided.turns, rw zs (back ∙ ap (put output st.used) (sym p ∙ decided.prints)))

-- moving the bytes down
module _ (st : State) (input : ℕ) where
  pub moved-are : movable st input ≡ true → (st.start ≤ st.end) × (st.end ≤ input)
  moved-are e =
      let (a, b) = and_both (leb st.start st.end) (leb st.end input) e in (leb-true st.start st.end a, leb-true st.end input b)

module _ (st : State) (input : List ℕ) where
  abbrev Moved : State → List ℕ → Type 0
  Moved r input' = (r ≡ moved_state st (length input)) × (input' ≡ put input 0 (moved_bytes st input))

  pub moved-not : movable st (length input) ≡ false → Moved st input
  unfolding moved_state moved_bytes
  moved-not e = rw e (refl, sym (put-none input 0))

  module _ (e : movable st (length input) ≡ true) where
    pub moved-done : (input' : List ℕ) → input' ≡ put input 0 (pending_of st input)
        → Moved (record { start = 0; end = st.end - st.start; used = st.used; skipping = st.skipping; ended = st.ended }) input'
    unfolding moved_state moved_bytes
    moved-done input' w = rw e (refl, w)

-- reading
module _ (st : State) (input got : ℕ) where
  pub read_none : got ≡ 0 → ending st ≡ read_state st input got
  unfolding read_state
  read_none e = rw (e, le-leb 0 (input - st.end) (omega arith))

  pub read-over : input - st.end < got → ending st ≡ read_state st input got
  unfolding read_state
  read-over h = rw (lt-leb got (input - st.end) h)

  pub read_more : (got ≡ 0 → ⊥) → got ≤ input - st.end
      → record { start = st.start; end = st.end + got; used = st.used; skipping = st.skipping; ended = st.ended } ≡ read_state st input got
  unfolding read_state
  read_more n h = rw (le-leb got (input - st.end) h, le-leb 1 got (positive got n))
