-- The head of declarations joined with the body's own annotated ones, and the row under it. Assumes nothing.
use mathlib.Core.Path.{◌≡◌, refl, ap, sym, ◌∙◌}
use mathlib.Core.Bool.{Bool, true, false}
use mathlib.Core.List.{List, [], ◌++◌}
use Prim.Native.Nat.{ℕ, ◌+◌, ◌-◌, ◌≤◌, ◌<◌}
use native.Mathlib.Omega.{arith}
use borrow.Author.Tests.{le-leb, lt-leb, leb-false}
use lib.Dec.{leb}
use lib.ListN.{length, get_or, take, drop, set, replicate, length-append, length-set, length-replicate, length-drop, get_or-replicate}
use lib.Seq.{take_at, length-take-le}
use Rattle.tree.specs.Form.{Form, pick, encode, encode_decls}
use Rattle.tree.specs.Tag.{pred}
use Rattle.form.specs.Decode.{row_form}
use Rattle.form.specs.Lists.{kept}
use Rattle.form.specs.Answer.{Outcome, answer, stop, told, written, needs, finish}
use Rattle.form.specs.Answer.{Answer}
use Rattle.std.specs.Prelude.{Ok, Err}
use Rattle.form.specs.declared.answer.Kind.TheVariants.{Predicate}
use Rattle.form.proofs.DecodeLaws.{clash}
use Rattle.rules.specs.Fill.{unlisted}
use Rattle.shift.specs.Internal.Items.{store}
use Rattle.shift.proofs.ItemLaws.{store-append}
use Rattle.replace.specs.Internal.Pieces.{down_plan, InRow, Ready, placed_row, replaced, emitted}
use Rattle.replace.proofs.ReadyLaws.{ready-is}
use Rattle.std.specs.Prelude.{Some}
use Rattle.decls.specs.Internal.Noted.{flagged_parts, flagged_end}
use Rattle.decls.proofs.HeadLaws.{flagged-parts, flagged-end, head-written}
use Rattle.one_point.specs.Internal.Reduce.{operator_in, decls_in, Headed}
use Rattle.one_point.specs.Internal.Noted.{Flags, under_row, full_table, notes_in, front_words, joined_head, WroteJoined, joined_row}
use Rattle.one_point.proofs.HeadedLaws.{head-count, store_long}
use Rattle.one_point.proofs.NotedRows.{front_decls, front_at, front-words, front-good, front-zeros, front_kept}
use Rattle.form.specs.declared.answer.Refusal.{Refusal}
use Rattle.form.specs.declared.answer.Refusal.TheVariants.{OutOfLimits, OutputTooShort}

-- a full table is ready
module _ (n : ℕ) (few : n ≤ 32) (list lm : List ℕ) (marked : length list ≤ length lm) where
  full-inside : InRow (down_plan (full_table n (length list)) n) (length list)
  unfolding InRow
  full-inside i h = rw (get_or-replicate {A = ℕ} 32 i 0 0 (omega arith), get_or-replicate {A = ℕ} 32 i (length list) 0 (omega arith)) (omega arith, omega arith)

  full-ready : Ready (down_plan (full_table n (length list)) n) list lm
  full-ready = record { tabled = record { few = few; words = refl; starts = refl; ends = refl }; in_row = full-inside; marked = marked }

  -- the filled annotations, as they are answered
  abbrev notes_row : List ℕ → List ℕ → ℕ → Outcome
  notes_row notes raised room = placed_row true [] (full_table n (length list)) n list lm notes raised room

  notes-row : (notes raised : List ℕ) (room : ℕ) → notes_row notes raised room ≡ emitted true Predicate (notes_in n list lm notes raised) room
  unfolding placed_row replaced
  notes-row notes raised room = rw (ready-is (full_table n (length list)) list lm n full-ready)

  module _ (notes raised : List ℕ) (room : ℕ) (enough : room ≡ 8192) (a : Answer) (told_is : a ≡ told (notes_row notes raised room)) where
    abbrev ws : List ℕ
    ws = notes_in n list lm notes raised

    pub notes-answer : (m : ℕ) → a ≡ Ok m → (out out' : List ℕ) → out' ≡ written (notes_row notes raised room) out → (take m out' ≡ ws) × (m ≡ length ws)
    unfolding emitted
    notes-answer m e out out' w =
        go (leb (length ws) 8192) (leb (length ws) room) (sym e ∙ (told_is ∙ ap told (notes-row notes raised room))) (w ∙ ap (λ z. written z out) (notes-row notes raised room))
      where
        go : (b c : Bool) → Ok m ≡ told (needs OutOfLimits b (needs OutputTooShort c (answer ws))) → out' ≡ written (needs OutOfLimits b (needs OutputTooShort c (answer ws))) out → (take m out' ≡ ws) × (m ≡ length ws)
        go true true q v = let k : m ≡ length ws = cc in (rw v (take_at ws (drop (length ws) out) m (sym k)), k)
        go true false q v = absurd (clash cc)
        go false c q v = absurd (clash cc)

    pub notes-refused : (k : Refusal) → a ≡ Err k → 8192 < length ws
    unfolding emitted
    notes-refused k e = go (leb (length ws) 8192) refl (leb (length ws) room) refl (sym e ∙ (told_is ∙ ap told (notes-row notes raised room)))
      where
        go : (b : Bool) → leb (length ws) 8192 ≡ b → (c : Bool) → leb (length ws) room ≡ c → Err k ≡ told (needs OutOfLimits b (needs OutputTooShort c (answer ws))) → 8192 < length ws
        go true x true y q = absurd (clash cc)
        go true x false y q = let l = leb-false (length ws) room y in omega arith
        go false x c y q = leb-false (length ws) 8192 x

-- the head as it is written
module _ (head row : List ℕ) (h : Headed head) (f : Flags head row) (l : List ℕ) (long : length l ≡ 8192) where
  front_fits : 2 + length (front_words head) ≤ 8192
  front_fits =
      let e = ap length (front-words head row h f) ∙ length-append (front_words head) (encode_decls (unlisted (drop (get_or head 1 0 - 1) (decls_in head)))) in
      let d = length-drop 2 row in
      let s = f.short in
      let t = f.long in
      omega arith

  same : length (replicate (get_or head 1 0 - 1) kept) ≡ length (front_decls head)
  same = length-replicate (get_or head 1 0 - 1) kept ∙ sym (front_at head h)

  pub flagged-start : (s : ℕ) → s ≡ flagged_end (take (get_or head 1 0 - 1) (replicate 32 0)) row (length l) → s ≡ 2 + length (front_words head)
  flagged-start s e =
      let c = head-count head h in
      let few = h.few in
      let n = front_at head h in
      let t = f.short in
      e ∙ rw (← front-zeros head h) (flagged-end (replicate (get_or head 1 0 - 1) kept) (front_decls head) row (encode_decls (unlisted (drop (get_or head 1 0 - 1) (decls_in head)))) (length l) same (front-good head h) (front-words head row h f) (omega arith) f.short (omega arith) f.long
      ∙ ap (λ z. 2 + length (encode_decls (unlisted z))) (front_kept head h))

  flagged-words : flagged_parts (take (get_or head 1 0 - 1) (replicate 32 0)) row (length l) ≡ front_words head
  flagged-words =
      let c = head-count head h in
      let few = h.few in
      let n = front_at head h in
      let t = f.short in
      rw (← front-zeros head h) (flagged-parts (replicate (get_or head 1 0 - 1) kept) (front_decls head) row (encode_decls (unlisted (drop (get_or head 1 0 - 1) (decls_in head)))) (length l) same (front-good head h) (front-words head row h f) (omega arith) f.short (omega arith) f.long
      ∙ ap (λ z. encode_decls (unlisted z)) (front_kept head h))

  module _ (s : ℕ) (is : s ≡ flagged_end (take (get_or head 1 0 - 1) (replicate 32 0)) row (length l)) (k : ℕ) (ws : List ℕ) where
    pub start-low : (l₁ : List ℕ) → length l₁ ≡ length l → s ≤ length l₁
    start-low l₁ e = let q = flagged-start s is in let b = front_fits in omega arith

    -- too long
    pub joined-long : 8192 < 2 + length (front_words head) + length ws → 8192 < length (joined_head head k ws)
    joined-long o = let a = length-append (front_words head) ws in omega arith

    module _ (l₁ : List ℕ) (put₁ : l₁ ≡ store l 2 (flagged_parts (take (get_or head 1 0 - 1) (replicate 32 0)) row (length l))) where
      first-length : length l₁ ≡ 8192
      first-length = ap length put₁ ∙ (store_long (flagged_parts (take (get_or head 1 0 - 1) (replicate 32 0)) row (length l)) l 2 ∙ long)

      pub joined-tight : length l₁ - s < length ws → 8192 < length (joined_head head k ws)
      joined-tight o = let e = flagged-start s is in let m = first-length in let b = front_fits in joined-long (omega arith)

      module _ (n : ℕ) (out : List ℕ) (words : (take n out ≡ ws) × (n ≡ length ws)) (fits : n ≤ length l₁ - s) (l₂ : List ℕ)
          (put₂ : l₂ ≡ pick (leb (s + length (take n out)) (length l₁)) (store l₁ s (take n out)) l₁) where
        both : l₂ ≡ store l 2 (front_words head ++ ws)
        both =
            let e = flagged-start s is in
            let m = first-length in
            let b = front_fits in
            let w : length (take n out) ≡ n = ap length words.0 ∙ sym words.1 in
            put₂ ∙ rw (le-leb (s + length (take n out)) (length l₁) (omega arith), words.0, put₁, flagged-words, e) (sym (store-append l 2 (front_words head) ws))

        pub joined-some : (t c : ℕ) → t ≡ operator_in head + 10 → c ≡ get_or head 1 0 - 1 + k → WroteJoined head k ws (Some (s + n)) (set (set l₂ 0 t) 1 c)
        joined-some t c x y =
            let e = flagged-start s is in
            let m = first-length in
            let b = front_fits in
            let q = words.1 in
            let a = length-append (front_words head) ws in
            let g : length (set (set l₂ 0 t) 1 c) ≡ 8192 = length-set (set l₂ 0 t) 1 c ∙ (length-set l₂ 0 t ∙ (ap length both ∙ (store_long (front_words head ++ ws) l 2 ∙ long))) in
            (omega arith, rw (← x, ← y) (head-written t c (s + n) (front_words head ++ ws) l l₂ (omega arith) both (omega arith)))

-- the row under it
module _ (head : List ℕ) (k : ℕ) (ws part pm body marks : List ℕ) (start room : ℕ) where
  pub row-none : 8192 < length (joined_head head k ws) → joined_row head k ws part pm body marks start room ≡ stop OutOfLimits
  unfolding joined_row
  row-none w = rw (lt-leb (length (joined_head head k ws)) 8192 w)

  pub row-some : (l : List ℕ) (e : ℕ) → WroteJoined head k ws (Some e) l → length l ≡ 8192 → under_row false (take e l) 1 part pm body marks start room ≡ joined_row head k ws part pm body marks start room
  unfolding joined_row
  row-some l e w long =
      let c = length-take-le e l w.0 in
      let d = ap length w.1 in
      rw (le-leb (length (joined_head head k ws)) 8192 (omega arith), w.1)

-- a form of more words is refused
pub long-finish : (room : ℕ) (g : Form) → 8192 < length (encode g) → finish pred room g ≡ stop OutOfLimits
unfolding finish row_form
long-finish room g h = rw (lt-leb (length (encode g)) 8192 h)
