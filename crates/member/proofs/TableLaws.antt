-- A body whose places a table fills: the words of the table, its parts, and what it puts for the body. Assumes nothing.
use mathlib.Core.Path.{◌≡◌, refl, ap, sym, ◌∙◌}
use mathlib.Core.Bool.{Bool, true, false}
use mathlib.Core.List.{List, [], ◌∷◌, ◌++◌, append-nil, map}
use Prim.Native.Nat.{ℕ, suc, ◌+◌, ◌-◌, ◌≤◌, ◌<◌}
use native.Mathlib.Nat.{zero-add}
use native.Mathlib.Omega.{arith}
use borrow.Author.Tests.{eq-eqb, ne_eqb, eqb-true, eqb-false}
use lib.Dec.{leb, eqb}
use lib.ListN.{length, get_or, take, drop, replicate}
use Rattle.tree.specs.Form.{Form, encode, pick}
use Rattle.tree.specs.Tag.{expr}
use Rattle.form.specs.Lists.{Place, kept, filled}
use Rattle.reader.specs.Internal.Reads.{mark}
use Rattle.reader.specs.declared.lists.Table.{Table}
use Rattle.form.proofs.DecodeLaws.{decode-sound}
use Rattle.rules.specs.Walk.{walk, put, subst, each}
use Rattle.rules.specs.Fill.{fill_for}
use Rattle.rules.specs.Partial.{front}
use Rattle.rules.specs.Member.{any_filled}
use Rattle.rules.proofs.LimitLaws.{ok-small}
use Rattle.shift.specs.Internal.Items.{items, rewritten}
use Rattle.shift.proofs.AroundLaws.{Quant, head_of, body-items}
use Rattle.shift.proofs.RowLaws.{items_of, marks_of, items-encode, marked-items, mark-front}
use Rattle.replace.specs.Internal.Pieces.{planned, InRow, Ready, down_plan}
use Rattle.replace.proofs.EntryLaws.{PlaceAt}
use Rattle.replace.proofs.FillTree.{word_for, low_same, small-moves, ok-flat, fill-tree-flat}
use Rattle.member.specs.Internal.Member.{PlaceIs, TableIs, shallow, front_of}

-- the words of a table of places
table-words : (ps : List Place) (ws : List ℕ) → length ps ≤ length ws → ((i : ℕ) → i < length ps → get_or ws i 0 ≡ word_for (get_or ps i kept)) → take (length ps) ws ≡ map word_for ps
table-words [] ws h f = refl
table-words (p ∷ ps) [] h f = absurd (omega arith)
table-words (p ∷ ps) (w ∷ ws) h f = rw (f 0 (omega arith), table-words ps ws (omega arith) (λ i l. f (suc i) (omega arith)))

-- the declarations in front: none where no place is filled
abbrev pub in_front : List Place → ℕ
in_front ps = pick (any_filled ps) (front ps) 0

front-words : (i : ℕ) (ps : List Place) → front_of i (map word_for ps) ≡ pick (any_filled ps) (i + front ps) 0
unfolding front_of
front-words i [] = refl
front-words i (filled e ∷ ps) = rw (ne_eqb 0 (suc (length ps)) (λ z. absurd (omega arith))) (omega arith)
front-words i (kept ∷ ps) = front-words (suc i) ps ∙ go (eqb (front ps) (length ps)) refl
  where
    go : (b : Bool) → eqb (front ps) (length ps) ≡ b → pick (any_filled ps) (suc i + front ps) 0 ≡ pick (any_filled (kept ∷ ps)) (i + suc (front ps)) 0
    go true q =
        let e = eqb-true (front ps) (length ps) q in
        rw (q, eq-eqb (suc (front ps)) (suc (length ps)) (omega arith))
    go false q =
        let e = eqb-false (front ps) (length ps) q in
        rw (q, ne_eqb (suc (front ps)) (suc (length ps)) (λ z. e (omega arith))) (omega arith)

place-word : (row lm : List ℕ) (w s e : ℕ) (p : Place) → PlaceIs row lm w s e p → w ≡ word_for p
place-word row lm w s e kept h = h
place-word row lm w s e (filled f) h = h.0

place_at : (row lm : List ℕ) (w s e : ℕ) (p : Place) → PlaceIs row lm w s e p → PlaceAt (Unit {0}) row lm s e p
place_at row lm w s e kept h = tt
place_at row lm w s e (filled f) h = (h.1.marked ∙ marked-items f (length (encode f)) (omega arith), ok-small (decode-sound 64 expr _ f [] h.1.is).1 0)

module _ (row lm : List ℕ) (n : ℕ) (t : Table) (ps : List Place) (table : TableIs row lm n t ps) (most : n ≤ 32) where
  pub few : t.n ≤ 32
  few = let e = table.number in let m = most in omega arith

  count : t.n ≡ length ps
  count = table.number ∙ sym table.count

  pub words_are : take t.n t.words ≡ map word_for ps
  words_are =
      let c = table.count in
      let w = table.words in
      let m = most in
      rw count (table-words ps t.words (omega arith) (λ i h. place-word row lm _ _ _ (get_or ps i kept) (table.at i (omega arith))))

  pub words-by : (ws : List ℕ) → ws ≡ take n t.words → ws ≡ map word_for ps
  words-by ws e = e ∙ (ap (λ k. take k t.words) (sym table.number) ∙ words_are)

  pub front-is : (ws : List ℕ) → ws ≡ take n t.words → front_of 0 ws ≡ in_front ps
  front-is ws e = rw (words-by ws e) (rw zero-add at (front-words 0 ps))

  pub ready : length row ≤ length lm → Ready (down_plan t 0) row lm
  unfolding InRow
  ready long = record { tabled = record { few = few; words = table.words; starts = table.starts; ends = table.ends }; in_row = λ i h. table.inside i (let e = table.number in omega arith); marked = long }

  placed : (i : ℕ) → i < length ps → PlaceAt (Unit {0}) row lm (get_or t.starts i 0) (get_or t.ends i 0) (get_or ps i kept)
  placed i h = let c = table.count in place_at row lm (get_or t.words i 0) (get_or t.starts i 0) (get_or t.ends i 0) (get_or ps i kept) (table.at i (omega arith))

  -- under n declarations, and k more
  pub filling : (k : ℕ) (f : Form) → each (λ i y. leb i 4096) k f ≡ true → rewritten (planned (down_plan t 0) row lm) (items_of (k + n) f) ≡ encode (walk (put (fill_for ps)) k f)
  filling k f h =
      rw (← table.number) (rw (low_same ps) at
      (fill-tree-flat 0 (λ z. z) t row lm ps words_are count placed (λ i l. small-moves row lm (get_or t.starts i 0) (get_or t.ends i 0) (get_or ps i kept) (placed i l)) few k f h))

  -- the body, and the body of its own quantifier
  module _ (g : Form) (marks : List ℕ) (marked : marks ≡ mark g 0 n (replicate (length marks) 0)) (enough : length (encode g) ≤ length marks) where
    abbrev pub after : List ℕ
    after = replicate (length marks - length (encode g)) 0

    pub marks-are : marks ≡ marks_of n g ++ after
    marks-are = marked ∙ mark-front g n (length marks) enough

    items-are : items (encode g) marks ≡ items_of n g
    unfolding items
    items-are = rw marks-are (rw (append-nil, append-nil) at (items-encode n g [] after))

    abbrev pub rest_from : ℕ → List ℕ
    rest_from k = rewritten (planned (down_plan t 0) row lm) (items (drop k (encode g)) (drop k marks))

    pub whole-body : shallow 4096 g ≡ true → rest_from 0 ≡ encode (subst (fill_for ps) g)
    whole-body flat = rw items-are (rw zero-add at (filling 0 g flat))

    pub own_body : (y : Quant 61 g) (s : ℕ) → s ≡ length (head_of y.op y.decls) → rest_from s ≡ encode (walk (put (fill_for ps)) (length y.decls) y.body)
    own_body y s e =
        let m = y.most in
        let a : items (drop s (encode g)) (drop s marks) ≡ items_of (length y.decls + n) y.body =
        ap (λ z. items (drop s (encode g)) (drop s z)) marks-are ∙ (ap (λ z. items (drop s (encode z)) (drop s (marks_of n z ++ after))) y.form ∙ body-items y.op n y.decls y.body s after e) in
        rw a (filling (length y.decls) y.body (ok-flat (length y.decls) (omega arith) y.ok))
