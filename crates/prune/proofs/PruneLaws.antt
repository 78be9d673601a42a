-- Prune on rows is prune on trees. Assumes nothing.
use mathlib.Core.Path.{◌≡◌, refl, ap, sym, ◌∙◌}
use mathlib.Core.Bool.{Bool, true, false, not}
use mathlib.Core.List.{List, [], ◌∷◌, ◌++◌, map}
use Prim.Native.Nat.{ℕ, zero, suc, ◌+◌, ◌-◌, ◌≤◌, ◌<◌}
use native.Mathlib.Nat.{add-zero}
use native.Mathlib.Numerals.{add-one}
use native.Mathlib.Omega.{arith}
use borrow.Author.Tests.{lt-ltb, le-ltb, eq-eqb, ne_eqb, eqb-true, eqb-false}
use lib.Dec.{leb, eqb, ltb}
use lib.ListN.{length, get_or, take, drop, replicate, length-append, length-drop, length-map, length-replicate, take-append-drop}
use lib.Seq.{take_at, length-take-le}
use Rattle.tree.specs.Form.{free, bound, Form, leaf, node, noted, pick, encode}
use Rattle.tree.specs.Tag.{Sort, pred}
use Rattle.std.specs.Prelude.{Err}
use Rattle.form.specs.Answer.{Answer}
use Rattle.form.specs.Lists.{Place, kept, filled}
use Rattle.form.specs.Answer.{Outcome, answer, stop, needs, finish, told, check_outcome}
use Rattle.reader.specs.Internal.Reads.{mark}
use Rattle.form.specs.declared.answer.Kind.TheVariants.{Predicate}
use Rattle.rules.specs.Walk.{subst}
use Rattle.shift.specs.Internal.Items.{items, apart}
use Rattle.shift.specs.declared.items.Item.{Item}
use Rattle.shift.proofs.RowLaws.{items_of, marks_of, only-mark}
use Rattle.shift.proofs.CheckedLaws.{Checked, too_long, check-refuses, form-there}
use Rattle.rules.specs.Fill.{Decl, kept_count, kept_decls, fill_for, fill, around, other, of_quantified, quantified}
use Rattle.rules.specs.Prune.{unused, used_places, prune, prune_outcome}
use Rattle.form.proofs.DecodeLaws.{Ok}
use Rattle.replace.specs.Internal.Pieces.{filled_words, kept_head}
use Rattle.replace.proofs.NameLaws.{head-kept}
use Rattle.decls.specs.Internal.Noted.{count_in, body_start, noted_head}
use Rattle.prune.specs.Internal.Dropped.{dropped_row, dropped_outcome, left_head, Pruning}
use Rattle.decls.specs.Internal.Used.{cleared, used_words, cleared_in}
use Rattle.decls.proofs.HeadLaws.{quant_head, encode-head}
use Rattle.decls.proofs.UsedLaws.{unused-items}
use Rattle.decls.proofs.ClearLaws.{clears-rest}
use Rattle.decls.proofs.CountLaws.{body-start}
use Rattle.decls.proofs.RowHeads.{row-least, plain-head, noted-row-head, the-quant, the-count}
use Rattle.replace.proofs.FillTree.{word_for, count-both}
use Rattle.replace.proofs.QuantLaws.{form-ok}
use Rattle.shift.proofs.AroundLaws.{head_of, encode-around, body-items, body-apart, Quant}
use Rattle.prune.proofs.PruneTree.{used-length, body_is, prune-inside}
use Rattle.prune.proofs.FallTree.{fall-tree}
use Rattle.form.specs.declared.answer.Refusal.{Refusal}
use Rattle.form.specs.declared.answer.Refusal.TheVariants.{TooLong, NotQuantified, NothingToRewrite, OutputTooShort}

word-pick : (b : Bool) (x : Form) → word_for (pick b (filled x) kept) ≡ pick b 1 0
word-pick true x = refl
word-pick false x = refl

used-words : (n : ℕ) (ns : List Decl) (f : Form) → cleared n (replicate (length ns) 1) (items_of n f) ≡ map word_for (used_places ns f)
unfolding cleared
used-words n [] f = refl
used-words n (m ∷ ns) f = rw (length-replicate {A = ℕ} (length ns) 1, unused-items n (length ns) f, used-words n ns f, word-pick (unused (length ns) f) (leaf (free 0)))

-- the words as the code makes them: of 33 ones the first is passed over, and the next n are cleared
abbrev ones : ℕ → List ℕ
ones n = replicate n 1

first-ones : (n m : ℕ) → n ≤ m → take n (ones m) ≡ ones n
first-ones zero m h = refl
first-ones (suc n) zero h = absurd (omega arith)
first-ones (suc n) (suc m) h = ap (λ (l : List ℕ). 1 ∷ l) (first-ones n m (omega arith))

inner-append : (ws r : List ℕ) → 1 ≤ length ws → drop 1 (ws ++ r) ≡ drop 1 ws ++ r
inner-append [] r h = absurd (omega arith)
inner-append (w ∷ ws) r h = refl

module _ (n : ℕ) (few : n ≤ 32) where
  pub ones-length : length (take (n + 1) (ones 33)) ≡ n + 1
  ones-length = length-take-le (n + 1) (ones 33) (omega arith)

  inner-ones : drop 1 (take (n + 1) (ones 33)) ≡ ones n
  inner-ones = rw (add-one, first-ones (suc n) 33 (omega arith))

  module _ (xs : List Item) (ws : List ℕ) (long : length ws ≡ length (take (n + 1) (ones 33))) (e : drop 1 ws ≡ cleared n (drop 1 (take (n + 1) (ones 33))) xs) where
    words_long : length ws ≡ n + 1
    words_long = long ∙ ones-length

    inner-length : length (drop 1 ws) ≡ n
    inner-length = rw (length-drop 1 ws, words_long) (omega arith)

    inner-words : take (n + 1 - 1) (drop 1 (ws ++ drop (n + 1) (ones 33))) ≡ drop 1 ws
    inner-words =
        let z : n + 1 - 1 ≡ n = omega arith in
        let l = words_long in
        rw (z, inner-append ws (drop (n + 1) (ones 33)) (omega arith)) (take_at (drop 1 ws) (drop (n + 1) (ones 33)) n inner-length)

    pub used-made : take (n + 1 - 1) (drop 1 (ws ++ drop (n + 1) (ones 33))) ≡ used_words n xs
    unfolding used_words
    used-made = inner-words ∙ (e ∙ rw inner-ones refl)

    pub used-long : length (take (n + 1 - 1) (drop 1 (ws ++ drop (n + 1) (ones 33)))) ≡ n
    used-long = rw inner-words inner-length

    pub used-fits : n + 1 ≤ length (ws ++ drop (n + 1) (ones 33))
    used-fits = let l = words_long in rw length-append (omega arith)

some_words : (f : Form) → 0 < length (encode f)
unfolding encode
some_words (leaf (free n)) = omega arith
some_words (leaf (bound n)) = omega arith
some_words (node t o ds ks) = omega arith
some_words (noted t o ds ks) = omega arith

-- the whole call
abbrev prune_go : ℕ → Sort → Form → Outcome
prune_go room s f = of_quantified (λ t ns b. needs NothingToRewrite (not (eqb (kept_count (used_places ns b)) (length ns))) (finish pred room (prune t ns b))) NotQuantified (quantified f)

module _ (row : List ℕ) (room : ℕ) where
  pub prune-long : 8192 < length row → prune_outcome row room ≡ stop TooLong
  unfolding prune_outcome
  prune-long h = too_long Predicate row (prune_go room) h

  pub prune-refused : (r : Answer) (k : Refusal) → r ≡ told (check_outcome Predicate row) → r ≡ Err k → prune_outcome row room ≡ stop k
  unfolding prune_outcome
  prune-refused r k q e = check-refuses Predicate row (prune_go room) r k q e

  module _ (m : List ℕ) (x : Checked Predicate row m (length row)) where
    prune-read : prune_outcome row room ≡ prune_go room x.sort x.form
    unfolding prune_outcome
    prune-read = form-there Predicate row (prune_go room) x.sort x.form x.short x.is_found

    pub prune-other : quantified x.form ≡ other → prune_outcome row room ≡ stop NotQuantified
    prune-other z = prune-read ∙ rw z

    prune-quant : (y : Quant 63 x.form) → prune_outcome row room ≡ needs NothingToRewrite (not (eqb (kept_count (used_places y.decls y.body)) (length y.decls))) (finish pred room (prune y.op y.decls y.body))
    prune-quant y = prune-read ∙ rw y.is

-- with the marks at the start of a row w; the body starts behind the head, with or without annotations
module _ (row w : List ℕ) (room : ℕ) (x : Checked Predicate row (take (length row) w) (length row)) (y : Quant 63 x.form) (start n : ℕ) (behind : start ≡ length (head_of y.op y.decls))
    (c : n ≡ length y.decls) where
  abbrev past : List ℕ
  past = drop (length (encode x.form)) w

  abbrev xs : List Item
  xs = items (drop start row) (drop start w)

  abbrev ps : List Place
  ps = used_places y.decls y.body

  row-marks : marks_of 0 x.form ++ past ≡ w
  row-marks =
      let k : take (length (encode x.form)) w ≡ mark x.form 0 0 (replicate (length (encode x.form)) 0) = rw x.words at x.marks in
      ap (λ z. z ++ past) (sym (k ∙ only-mark x.form)) ∙ take-append-drop (length (encode x.form)) w

  pub prune-more : start < length row
  prune-more =
      let a = ap length x.words in
      let b = ap (λ z. length (encode z)) y.form in
      let l = ap length (encode-around y.op 0 y.decls y.body) ∙ length-append (head_of y.op y.decls) (encode y.body) in
      let s = some_words y.body in
      omega arith

  pub prune-few : n ≤ 32
  prune-few = let h = y.most in omega arith

  pub prune-apart : apart n (drop start row) (drop start w) ≡ true
  prune-apart =
      ap (λ z. apart n (drop start z) (drop start w)) x.words
      ∙ (ap (λ z. apart n (drop start (encode x.form)) (drop start z)) (sym row-marks)
      ∙ (ap (λ z. apart n (drop start (encode z)) (drop start (marks_of 0 z ++ past))) y.form
      ∙ (ap (λ z. apart z (drop start (encode (around y.op y.decls y.body))) (drop start (marks_of 0 (around y.op y.decls y.body) ++ past))) c
      ∙ body-apart y.op 0 y.decls y.body start past behind)))

  body-is-items : xs ≡ items_of (length y.decls) y.body
  body-is-items =
      ap (λ z. items (drop start z) (drop start w)) x.words
      ∙ (ap (λ z. items (drop start (encode x.form)) (drop start z)) (sym row-marks)
      ∙ (ap (λ z. items (drop start (encode z)) (drop start (marks_of 0 z ++ past))) y.form
      ∙ (body-items y.op 0 y.decls y.body start past behind ∙ ap (λ z. items_of z y.body) (add-zero (length y.decls)))))

  place-list : used_words n xs ≡ map word_for ps
  unfolding used_words
  place-list = rw (body-is-items, c) (used-words (length y.decls) y.decls y.body)

  kept-all : filled_words (map word_for ps) ≡ 0 → kept_count ps ≡ length y.decls
  kept-all g = let c = count-both ps in let l = used-length y.decls y.body in omega arith

  kept-not : (filled_words (map word_for ps) ≡ 0 → ⊥) → kept_count ps ≡ length y.decls → ⊥
  kept-not g k = let c = count-both ps in let l = used-length y.decls y.body in g (omega arith)

  -- dropped are the places that the tree leaves out
  test-same : (b : Bool) → eqb (filled_words (map word_for ps)) 0 ≡ b → eqb (kept_count ps) (length y.decls) ≡ b
  test-same true h = eq-eqb (kept_count ps) (length y.decls) (kept-all (eqb-true (filled_words (map word_for ps)) 0 h))
  test-same false h = ne_eqb (kept_count ps) (length y.decls) (kept-not (eqb-false (filled_words (map word_for ps)) 0 h))

  row_made : dropped_row (quant_head y.op (kept_decls ps y.decls)) (map word_for ps) (drop start row) (drop start w) ≡ encode (prune y.op y.decls y.body)
  unfolding dropped_row prune fill
  row_made =
      let ok = form-ok row (take (length row) w) (length row) x in
      let short = rw x.words at x.short in
      rw (body-is-items, ← used-length y.decls y.body, fall-tree ps y.body, encode-head y.op (kept_decls ps y.decls) (subst (fill_for ps) y.body), body_is x.form ok short y)

  prune-done : finish pred room (prune y.op y.decls y.body)
      ≡ needs OutputTooShort (leb (length (encode (prune y.op y.decls y.body))) room) (answer (encode (prune y.op y.decls y.body)))
  unfolding finish
  prune-done = rw (prune-inside x.form (form-ok row (take (length row) w) (length row) x) (rw x.words at x.short) y)

  pub prune-row : (ws hd : List ℕ) → ws ≡ used_words n xs → hd ≡ quant_head y.op (kept_decls ps y.decls) → dropped_outcome hd ws (drop start row) (drop start w) room ≡ prune_outcome row room
  unfolding dropped_outcome
  prune-row ws hd u k =
      let v : ws ≡ map word_for ps = u ∙ place-list in
      let r : dropped_row hd ws (drop start row) (drop start w) ≡ encode (prune y.op y.decls y.body) = rw (v, k) row_made in
      rw (r, v, prune-quant row room (take (length row) w) x y, prune-done, test-same (eqb (filled_words (map word_for ps)) 0) refl)

-- the head of what is left, by the words of the places
left-head : (row w : List ℕ) (x : Checked Predicate row (take (length row) w) (length row)) (y : Quant 63 x.form) (ps : List Place) → length ps ≡ length y.decls
    → left_head (map word_for ps) row ≡ quant_head y.op (kept_decls ps y.decls)
unfolding left_head
left-head row w x y ps all =
    let ok = form-ok row (take (length row) w) (length row) x in
    let short = rw x.words at x.short in
    rw x.words (go (ltb (get_or (encode x.form) 0 0) 860) refl ok short)
  where
    go : (b : Bool) → ltb (get_or (encode x.form) 0 0) 860 ≡ b → Ok 64 pred x.form → length (encode x.form) ≤ 8192
        → pick b (kept_head (map word_for ps) (encode x.form) 34) (noted_head (get_or (encode x.form) 0 0 - 10) (map word_for ps) (encode x.form) 8192) ≡ quant_head y.op (kept_decls ps y.decls)
    go true q ok short =
        let m = y.most in
        let l = length-map ps word_for in
        let r = row-least y in
        sym (head-kept (map word_for ps) (encode x.form) 34 (omega arith) (omega arith) (omega arith)) ∙ plain-head y ps all q
    go false q ok short = noted-row-head y ps all ok short q

-- a row that was checked and marked, with the number of its declarations and where its body starts
module _ (row w : List ℕ) (x : Checked Predicate row (take (length row) w) (length row)) (n start : ℕ) (e : n ≡ count_in row) (z : n ≡ 0 → ⊥) (s : start ≡ body_start row n) (long : length row ≤ length w) where
  y : Quant 63 x.form
  y = the-quant row (take (length row) w) (length row) x n e z

  number : n ≡ length y.decls
  number = the-count row (take (length row) w) (length row) x n e y

  behind : start ≡ length (head_of y.op y.decls)
  behind =
      s ∙ (ap (λ z. body_start z n) x.words ∙ (ap (λ k. body_start (encode x.form) k) number ∙ body-start x.form (form-ok row (take (length row) w) (length row) x) y))

  pub pruning : Pruning row w n start
  pruning =
      record {
        few = prune-few row w 0 x y start n behind number;
        short = x.short;
        long = long;
        more = prune-more row w 0 x y start n behind number;
        is-apart = prune-apart row w 0 x y start n behind number;
        prunes = λ ws room u.
            (let v = u ∙ place-list row w room x y start n behind number in
            prune-row row w room x y start n behind number ws (left_head ws row) u (rw v (left-head row w x y (used_places y.decls y.body) (used-length y.decls y.body))));
      }

pub same-dropped : (hd hd' ws body body' marks marks' : List ℕ) (room : ℕ) → hd ≡ hd' → body ≡ body' → marks ≡ marks' → dropped_outcome hd ws body marks room ≡ dropped_outcome hd' ws body' marks' room
same-dropped hd hd' ws body body' marks marks' room e b m = rw (e, b, m)

pub front-short : (k m : ℕ) (l : List ℕ) → k ≤ m → length (take k l) ≤ m
front-short zero m l h = omega arith
front-short (suc k) m [] h = omega arith
front-short (suc k) zero (x ∷ l) h = absurd (omega arith)
front-short (suc k) (suc m) (x ∷ l) h = let r = front-short k m l (omega arith) in omega arith

-- the words of the declarations as the code makes them
module _ (row marks : List ℕ) (n start : ℕ) (p : Pruning row marks n start) (ws : List ℕ) (long : length ws ≡ length (take (n + 1) (ones 33)))
    (e : drop 1 ws ≡ cleared_in n row marks start (length row) (take (n + 1) (ones 33))) where
  abbrev theirs : List Item
  theirs = items (drop start row) (drop start marks)

  abbrev us : List ℕ
  us = take (n + 1 - 1) (drop 1 (ws ++ drop (n + 1) (ones 33)))

  is-cleared : drop 1 ws ≡ cleared n (drop 1 (take (n + 1) (ones 33))) theirs
  is-cleared = e ∙ clears-rest n row marks start (take (n + 1) (ones 33)) p.long (ones-length n p.few) p.is-apart

  pub unused-fits : n + 1 ≤ length (ws ++ drop (n + 1) (ones 33))
  unused-fits = used-fits n p.few theirs ws long is-cleared

  unused-words : us ≡ used_words n theirs
  unused-words = used-made n p.few theirs ws long is-cleared

  unused-length : length us ≡ n
  unused-length = used-long n p.few theirs ws long is-cleared

  pub unused-few : length us ≤ 32
  unused-few = let l = unused-length in let f = p.few in omega arith

  pub unused-apart : apart (length us) (drop start row) (drop start marks) ≡ true
  unused-apart = rw unused-length p.is-apart

  pub left-plain : (room : ℕ) → get_or row 0 0 < 860 → dropped_outcome (kept_head us row 34) us (drop start row) (drop start marks) room ≡ prune_outcome row room
  unfolding left_head
  left-plain room h = rw (lt-ltb (get_or row 0 0) 860 h) at (p.prunes us room unused-words)

  pub left-noted : (room op : ℕ) → 860 ≤ get_or row 0 0 → op ≡ get_or row 0 0 - 10 → dropped_outcome (noted_head op us row 8192) us (drop start row) (drop start marks) room ≡ prune_outcome row room
  unfolding left_head
  left-noted room op h e = rw (le-ltb (get_or row 0 0) 860 h, ← e) at (p.prunes us room unused-words)
