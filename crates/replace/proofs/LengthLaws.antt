-- How long a result can be: each of its pieces has at most half as many words as the longest part for each word of the item. When its
-- length is refused. Assumes nothing.
use mathlib.Core.Path.{◌≡◌, refl, ap, sym, ◌∙◌}
use mathlib.Core.Bool.{Bool, true, false, not, ◌&&◌}
use Rattle.std.specs.Ordering.{ord_max, nat_cmp}
use Rattle.std.proofs.Common.{cond, is_lt, Less, Equal, Greater}
use mathlib.Core.List.{List, [], ◌∷◌}
use Prim.Native.Nat.{ℕ, zero, suc, ◌+◌, ◌-◌, ◌*◌, ◌/◌, ◌≤◌, ◌<◌, min, max}
use native.Mathlib.Nat.{add-mul, add-le-add, le_trans, le-max_left, le-max_right, le-div_iff_mul-le, div-lt_iff_lt-mul}
use native.Mathlib.Omega.{arith}
use borrow.Author.Tests.{ltb-true, ltb-false, eqb-true, eqb-false, le-leb, lt-leb, leb-true, leb-false}
use lib.Dec.{leb, ltb, eqb}
use lib.ListN.{length, get_or, drop, length-append, length-drop}
use Rattle.tree.specs.Form.{pick}
use Rattle.form.proofs.DecodeLaws.{clash}
use Rattle.shift.specs.Internal.Items.{items, size_of, words_of, rewritten}
use Rattle.shift.specs.declared.items.Item.{Item}
use Rattle.shift.specs.declared.items.Item.TheVariants.{Plain, Ident}
use Rattle.shift.proofs.ItemLaws.{rewritten-length}
use Rattle.replace.specs.Internal.Pieces.{piece_size, piece_of, sizes, longest, half, checked_length}
use Rattle.replace.specs.Internal.Job.{job_plan, job_size, most_words}
use Rattle.replace.specs.declared.pieces.Plan.{Plan}
use Rattle.replace.specs.declared.pieces.Job.{Job}
use Rattle.rules.proofs.WalkLaws.{and_right}
use Rattle.replace.proofs.PieceLaws.{piece-all, words-length}
use Rattle.std.specs.Prelude.{Result, Ok, Err}
use Rattle.form.specs.declared.answer.Refusal.{Refusal}
use Rattle.form.specs.declared.answer.Refusal.TheVariants.{OutOfLimits, OutputTooShort}

pub larger-is : (a b : ℕ) → ord_max nat_cmp a b ≡ max a b
larger-is a b = go (ltb b a) refl (eqb b a)
  where
    go : (c : Bool) → ltb b a ≡ c → (d : Bool) → cond (is_lt (cond c Less (cond d Equal Greater))) a b ≡ max a b
    go true p d = let l = ltb-true b a p in omega arith
    go false p true = let l = ltb-false b a p in omega arith
    go false p false = let l = ltb-false b a p in omega arith

pub half_pos : (n : ℕ) → 2 ≤ n → 0 < half n
unfolding half
half_pos n h = omega arith

half_twice : (n : ℕ) → n ≤ 2 * half n
unfolding half
half_twice n = omega arith

module _ (s e : List ℕ) where
  pub longest-none : 2 ≡ longest s e 0
  unfolding longest
  longest-none = refl

  pub longest-next : (i : ℕ) → longest s e (i + 1) ≡ max (longest s e i) (get_or e i 0 - get_or s i 0)
  unfolding longest
  longest-next i = let n : i + 1 ≡ suc i = omega arith in ap (λ (k : ℕ). longest s e k) n

  pub longest-two : (n : ℕ) → 2 ≤ longest s e n
  unfolding longest
  longest-two zero = omega arith
  longest-two (suc n) = le_trans (longest-two n) (le-max_left (longest s e n) (get_or e n 0 - get_or s n 0))

  longest-part : (n i : ℕ) → i < n → get_or e i 0 - get_or s i 0 ≤ longest s e n
  unfolding longest
  longest-part zero i h = absurd (omega arith)
  longest-part (suc n) i h = go (eqb i n) refl (λ k. longest-part n i k)
    where
      go : (b : Bool) → eqb i n ≡ b → (i < n → get_or e i 0 - get_or s i 0 ≤ longest s e n) → get_or e i 0 - get_or s i 0 ≤ max (longest s e n) (get_or e n 0 - get_or s n 0)
      go true k f = rw (eqb-true i n k) (le-max_right (longest s e n) (get_or e n 0 - get_or s n 0))
      go false k f = let ne = eqb-false i n k in le_trans (f (omega (arith, ne))) (le-max_left (longest s e n) (get_or e n 0 - get_or s n 0))

module _ (p : Plan) where
  abbrev most : ℕ
  most = longest p.table.starts p.table.ends p.table.n

  abbrev two : 2 ≤ most
  two = longest-two p.table.starts p.table.ends p.table.n

  ident-short : (k t v : ℕ) → piece_size (piece_of p (Ident k t v)) (Ident k t v) ≤ size_of (Ident k t v) * half most
  unfolding piece_size size_of
  ident-short k t v =
      piece-all p (λ c. piece_size c (Ident k t v) ≤ 2 * half most) (omega (arith, half_pos most two)) (λ i. omega (arith, half_pos most two))
      (λ i u d h. le_trans (longest-part p.table.starts p.table.ends p.table.n i h) (half_twice most)) (Ident k t v)

  piece-short : (x : Item) → piece_size (piece_of p x) x ≤ size_of x * half most
  unfolding piece_of piece_size size_of
  piece-short (Plain w) = omega (arith, half_pos most two)
  piece-short (Ident k t v) = ident-short k t v

  items-short : (xs : List Item) → sizes p xs ≤ length (rewritten words_of xs) * half most
  unfolding sizes rewritten
  items-short [] = omega arith
  items-short (x ∷ xs) = rw (length-append, words-length x, add-mul) (add-le-add (piece-short x) (items-short xs))

  pub sizes-short : (row marks : List ℕ) → sizes p (items row marks) ≤ length row * half most
  sizes-short row marks = rw (← rewritten-length words_of words-length row marks) (items-short (items row marks))

-- the test without a count
module _ (head words h most : ℕ) where
  pub fit-over : most < head → leb (head + words * h) most ≡ false
  fit-over l = lt-leb (head + words * h) most (omega arith)

  pub fit-test : 0 < h → head ≤ most → leb words ((most - head) / h) ≡ leb (head + words * h) most
  fit-test pos l = go (leb words ((most - head) / h)) refl
    where
      go : (b : Bool) → leb words ((most - head) / h) ≡ b → b ≡ leb (head + words * h) most
      go true q = let k = (le-div_iff_mul-le pos).0 (leb-true words ((most - head) / h) q) in sym (le-leb (head + words * h) most (omega arith))
      go false q = let k = (div-lt_iff_lt-mul pos).0 (leb-false words ((most - head) / h) q) in sym (lt-leb (head + words * h) most (omega arith))

-- the check of a length
module _ (n room : ℕ) where
  pub length-ok : n ≤ 8192 → n ≤ room → Ok (tt {0}) ≡ checked_length n room
  unfolding checked_length
  length-ok a b = rw (le-leb n 8192 a, le-leb n room b)

  pub length-many : 8192 < n → Err OutOfLimits ≡ checked_length n room
  unfolding checked_length
  length-many a = rw (lt-leb n 8192 a)

  pub length-room : n ≤ 8192 → room < n → Err OutputTooShort ≡ checked_length n room
  unfolding checked_length
  length-room a b = rw (le-leb n 8192 a, lt-leb n room b)

  pub length-fits : {x : Unit {0}} {r : Result (Unit {0}) Refusal} → r ≡ checked_length n room → r ≡ Ok x → (n ≤ 8192) × (n ≤ room)
  unfolding checked_length
  length-fits {x} {r} e z = go (leb n 8192) refl (leb n room) refl (sym e ∙ z)
    where
      go : (b : Bool) → leb n 8192 ≡ b → (c : Bool) → leb n room ≡ c → pick b (pick c (Ok (tt {0})) (Err OutputTooShort)) (Err OutOfLimits) ≡ Ok x → (n ≤ 8192) × (n ≤ room)
      go true p true q e = (leb-true n 8192 p, leb-true n room q)
      go true p false q e = absurd (clash cc)
      go false p c q e = absurd (clash cc)

pub length-over : (n : ℕ) {k : Refusal} {r : Result (Unit {0}) Refusal} → r ≡ checked_length n 8192 → r ≡ Err k → (8192 < n) × (k ≡ OutOfLimits)
unfolding checked_length
length-over n {k} {r} e z = go (leb n 8192) refl (sym e ∙ z)
  where
    go : (b : Bool) → leb n 8192 ≡ b → pick b (pick b (Ok (tt {0})) (Err OutputTooShort)) (Err OutOfLimits) ≡ Err k → (8192 < n) × (k ≡ OutOfLimits)
    go true q e = absurd (clash cc)
    go false q e = (leb-false n 8192 q, cc)

-- how many words a head and a job make at most
module _ (j : Job) (head : ℕ) where
  few-words : head + job_size j ≤ most_words head j
  few-words =
      let h : job_size j ≤ (length j.source.row.now - j.from) * half (most (job_plan j)) = rw (← length-drop j.from j.source.row.now) (sizes-short (job_plan j) (drop j.from j.source.row.now) (drop j.from j.source.marks.now)) in
      omega arith

  pub always-short : (room n l : ℕ) → n ≡ length j.source.row.now - j.from → l ≡ most (job_plan j) → leb (head + n * half l) (min room 8192) ≡ true → Ok (tt {0}) ≡ checked_length (head + job_size j) room
  always-short room n l e f q =
      let t = leb-true (most_words head j) (min room 8192) (rw (e, f) at q) in
      let w = few-words in
      length-ok (head + job_size j) room (omega arith) (omega arith)

  pub work-short : (room : ℕ) → (not (leb (most_words head j) (min room 8192)) && leb (most_words head j) 32768) ≡ true → head + job_size j ≤ 32768
  work-short room q =
      let t = leb-true (most_words head j) 32768 (and_right (not (leb (most_words head j) (min room 8192))) (leb (most_words head j) 32768) q) in
      let w = few-words in
      omega arith
