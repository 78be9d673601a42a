-- The entries of a list in its row: where the table says that each expression stands, its items stand with their marks. Assumes nothing.
use mathlib.Core.Path.{◌≡◌, refl, ap, sym, ◌∙◌}
use mathlib.Core.Bool.{Bool, true, false}
use mathlib.Core.List.{List, [], ◌∷◌, ◌++◌, append_assoc, append-nil, map}
use mathlib.Core.Option.{some}
use Prim.Native.Nat.{ℕ, zero, suc, ◌+◌, ◌-◌, ◌≤◌, ◌<◌}
use native.Mathlib.Nat.{zero-add}
use native.Mathlib.Numerals.{add-one}
use native.Mathlib.Omega.{arith}
use borrow.Author.Tests.{lt-leb, leb-true, leb-false}
use lib.Dec.{leb}
use lib.ListN.{length, get_or, take, drop, set, replicate, length-append, length-set, length-replicate, take-append-drop}
use lib.Seq.{take_at, drop_at, take-add, take-suc-set, drop-set-lt, get_or-take, get_or-drop}
use Rattle.tree.specs.Form.{Form, pick, encode}
use Rattle.form.specs.Lists.{Place, kept, filled, Entry, entry, place_of, place_words, entry_words, encode_list, word_of, list_of}
use Rattle.reader.specs.Internal.Reads.{mark_entries, empty_table, add_row, tabled}
use Rattle.form.specs.declared.answer.ListKind.{ListKind}
use Rattle.form.specs.declared.answer.ListKind.TheVariants.{Pairs, Places}
use Rattle.reader.specs.declared.lists.Table.{Table}
use Rattle.form.proofs.ListLaws.{Good, GoodAll, list-sound}
use Rattle.reader.proofs.TableLaws.{row_more, listed-n, listed-words}
use Rattle.rules.specs.Walk.{each}
use Rattle.shift.specs.Internal.Items.{items}
use Rattle.rules.proofs.LimitLaws.{small, ok-small}
use Rattle.shift.proofs.RowLaws.{items_of, marks_of, items-encode, marks-length}
use Rattle.replace.specs.Internal.Pieces.{part}
use Rattle.rules.proofs.ReplicateLaws.{replicate-at, replicate-front, replicate-past}
use Rattle.replace.proofs.MarkLaws.{marks_place, marks_list, place-length, only-entries}

-- a column of the table, entry by entry
abbrev pub column : (ℕ → Entry → ℕ) → ℕ → List Entry → List ℕ
column val at [] = []
column val at (e ∷ es) = val at e ∷ column val (at + length (entry_words e)) es

abbrev pub start : ℕ → Entry → ℕ
start at e = at + 1

abbrev pub end : ℕ → Entry → ℕ
end at e = at + length (entry_words e)

module _ (col : Table → List ℕ) (val : ℕ → Entry → ℕ)
    (adds : (t : Table) (at : ℕ) (e : Entry) → t.n < 32 → col (add_row t (word_of e) (at + 1) (at + length (entry_words e))) ≡ set (col t) t.n (val at e)) where
  take-col : (t u : Table) (w : ℕ) → t.n < length (col t) → u.n ≡ t.n + 1 → col u ≡ set (col t) t.n w → take u.n (col u) ≡ take t.n (col t) ++ (w ∷ [])
  take-col t u w h n v = rw (v, n, add-one, take-suc-set (col t) t.n w h)

  tabled-col : (es : List Entry) (at : ℕ) (t : Table) → t.n + length es ≤ 32 → length (col t) ≡ 32 → take (tabled es at t).n (col (tabled es at t)) ≡ take t.n (col t) ++ column val at es
  unfolding tabled
  tabled-col [] at t h l = sym (append-nil (take t.n (col t)))
  tabled-col (e ∷ es) at t h l =
      let s = at + length (entry_words e) in
      let u = add_row t (word_of e) (at + 1) s in
      let n = row_more t (word_of e) (at + 1) s u refl in
      let v = adds t at e (omega arith) in
      tabled-col es s u (omega arith) (ap length v ∙ length-set (col t) t.n (val at e) ∙ l)
      ∙ ap (λ l. l ++ column val s es) (take-col t u (val at e) (omega arith) n v) ∙ append_assoc (take t.n (col t)) (val at e ∷ []) (column val s es)

  listed-take : (es : List Entry) → length es ≤ 32 → length (col empty_table) ≡ 32 → take (tabled es 0 empty_table).n (col (tabled es 0 empty_table)) ≡ column val 0 es
  unfolding empty_table
  listed-take es h l = tabled-col es 0 empty_table (omega arith) l

  pub listed-col : (es : List Entry) (i : ℕ) → length es ≤ 32 → length (col empty_table) ≡ 32 → i < length es → get_or (col (tabled es 0 empty_table)) i 0 ≡ get_or (column val 0 es) i 0
  listed-col es i h l low =
      let n = listed-n es in
      sym (get_or-take (tabled es 0 empty_table).n (col (tabled es 0 empty_table)) i 0 (omega arith)) ∙ ap (λ z. get_or z i 0) (listed-take es h l)

  -- behind the entries the column is as it was
  tabled-rest : (es : List Entry) (at : ℕ) (t : Table) → t.n + length es ≤ 32 → drop (t.n + length es) (col (tabled es at t)) ≡ drop (t.n + length es) (col t)
  unfolding tabled
  tabled-rest [] at t h = refl
  tabled-rest (e ∷ es) at t h =
      let s = at + length (entry_words e) in
      let u = add_row t (word_of e) (at + 1) s in
      let n = row_more t (word_of e) (at + 1) s u refl in
      let v = adds t at e (omega arith) in
      let k : u.n + length es ≡ t.n + suc (length es) = omega arith in
      ap (λ z. drop z (col (tabled es s u))) (sym k)
      ∙ (tabled-rest es s u (omega arith) ∙ (ap (λ z. drop (u.n + length es) z) v ∙ (drop-set-lt (u.n + length es) (col t) t.n (val at e) (omega arith) ∙ ap (λ z. drop z (col t)) k)))

  listed-rest : (es : List Entry) → length es ≤ 32 → col empty_table ≡ replicate 32 0 → drop (length es) (col (tabled es 0 empty_table)) ≡ drop (length es) (replicate 32 0)
  unfolding empty_table
  listed-rest es h b =
      let r = tabled-rest es 0 empty_table (omega arith) in
      (rw zero-add at r) ∙ ap (λ z. drop (length es) z) b

  listed-past : (es : List Entry) (i : ℕ) → length es ≤ 32 → col empty_table ≡ replicate 32 0 → length es ≤ i → get_or (col (tabled es 0 empty_table)) i 0 ≡ 0
  listed-past es i h b past =
      let k : length es + (i - length es) ≡ i = omega arith in
      ap (λ z. get_or (col (tabled es 0 empty_table)) z 0) (sym k)
      ∙ (sym (get_or-drop (length es) (col (tabled es 0 empty_table)) (i - length es) 0)
      ∙ (ap (λ z. get_or z (i - length es) 0) (listed-rest es h b) ∙ (get_or-drop (length es) (replicate 32 0) (i - length es) 0 ∙ replicate-at 32 (length es + (i - length es)) 0)))

add-word : (t : Table) (at : ℕ) (e : Entry) → t.n < 32 → (add_row t (word_of e) (at + 1) (at + length (entry_words e))).words ≡ set t.words t.n (word_of e)
unfolding add_row
add-word t at e h = rw (lt-leb 32 t.n h)

add_start : (t : Table) (at : ℕ) (e : Entry) → t.n < 32 → (add_row t (word_of e) (at + 1) (at + length (entry_words e))).starts ≡ set t.starts t.n (start at e)
unfolding add_row
add_start t at e h = rw (lt-leb 32 t.n h)

add-end : (t : Table) (at : ℕ) (e : Entry) → t.n < 32 → (add_row t (word_of e) (at + 1) (at + length (entry_words e))).ends ≡ set t.ends t.n (end at e)
unfolding add_row
add-end t at e h = rw (lt-leb 32 t.n h)

module _ (es : List Entry) (few : length es ≤ 32) (i : ℕ) where
  module _ (low : i < length es) where
    pub start-at : get_or (tabled es 0 empty_table).starts i 0 ≡ get_or (column start 0 es) i 0
    unfolding empty_table
    start-at = listed-col (λ t. t.starts) start add_start es i few refl low

    pub end-at : get_or (tabled es 0 empty_table).ends i 0 ≡ get_or (column end 0 es) i 0
    unfolding empty_table
    end-at = listed-col (λ t. t.ends) end add-end es i few refl low

  -- behind the entries
  module _ (past : length es ≤ i) where
    start-past : get_or (tabled es 0 empty_table).starts i 0 ≡ 0
    unfolding empty_table
    start-past = listed-past (λ t. t.starts) start add_start es i few refl past

    end-past : get_or (tabled es 0 empty_table).ends i 0 ≡ 0
    unfolding empty_table
    end-past = listed-past (λ t. t.ends) end add-end es i few refl past

-- the words of the first n rows of the table: 0 where there is no entry
module _ (es : List Entry) (n : ℕ) (few : length es ≤ n) (most : n ≤ 32) where
  words-past : take (n - length es) (drop (length es) (tabled es 0 empty_table).words) ≡ replicate (n - length es) 0
  unfolding empty_table
  words-past =
      ap (λ z. take (n - length es) z) (listed-rest (λ t. t.words) (λ at e. word_of e) add-word es (omega arith) refl ∙ replicate-past (length es) 32 0) ∙ replicate-front (n - length es) (32 - length es) 0 (omega arith)

  pub listed-words-for : take n (tabled es 0 empty_table).words ≡ map word_of es ++ replicate (n - length es) 0
  listed-words-for =
      let ws = (tabled es 0 empty_table).words in
      let k : length es + (n - length es) ≡ n = omega arith in
      let a : take (length es) ws ≡ map word_of es = ap (λ z. take z ws) (sym (listed-n es)) ∙ listed-words es (omega arith) in
      ap (λ z. take z ws) (sym k) ∙ (take-add (length es) (n - length es) ws ∙ (ap (λ z. z ++ take (n - length es) (drop (length es) ws)) a ∙ ap (λ z. map word_of es ++ z) words-past))

-- a table has 32 places
abbrev pub Full : Table → Type 0
Full t = (length t.words ≡ 32) × (length t.starts ≡ 32) × (length t.ends ≡ 32)

row-full : (t : Table) (w s e : ℕ) → Full t → Full (add_row t w s e)
unfolding add_row
row-full t w s e h = go (leb 32 t.n)
  where
    go : (b : Bool) → Full (pick b (record { words = t.words; starts = t.starts; ends = t.ends; n = t.n + 1 }) (record { words = set t.words t.n w; starts = set t.starts t.n s; ends = set t.ends t.n e; n = t.n + 1 }))
    go true = h
    go false = (length-set t.words t.n w ∙ h.0, length-set t.starts t.n s ∙ h.1, length-set t.ends t.n e ∙ h.2)

tabled-full : (es : List Entry) (at : ℕ) (t : Table) → Full t → Full (tabled es at t)
unfolding tabled
tabled-full [] at t h = h
tabled-full (e ∷ es) at t h = tabled-full es (at + length (entry_words e)) (add_row t (word_of e) (at + 1) (at + length (entry_words e))) (row-full t (word_of e) (at + 1) (at + length (entry_words e)) h)

pub listed-full : (es : List Entry) (t : Table) → t ≡ tabled es 0 empty_table → Full t
unfolding empty_table
listed-full es t e = rw e (tabled-full es 0 empty_table (length-replicate {A = ℕ} 32 0, length-replicate {A = ℕ} 32 0, length-replicate {A = ℕ} 32 0))

-- the parts lie in the row
pub spans : (es : List Entry) (at i : ℕ) → i < length es → (get_or (column start at es) i 0 ≤ get_or (column end at es) i 0) × (get_or (column end at es) i 0 ≤ at + length (encode_list es))
unfolding encode_list entry_words
spans [] at i h = absurd (omega arith)
spans (entry w p ∷ es) at zero h = (omega arith, rw length-append (omega arith))
spans (entry w p ∷ es) at (suc i) h =
    let q = spans es (at + suc (length (place_words p))) i (omega arith) in
    let a = q.1 in
    (q.0, rw length-append (omega arith))

part-mid : (a x b : List ℕ) (s e : ℕ) → length a ≡ s → e ≡ s + length x → part s e (a ++ (x ++ b)) ≡ x
unfolding part
part-mid a x b s e h k = let n : e - s ≡ length x = omega arith in rw (drop_at a (x ++ b) s h, n) (take_at x b (length x) refl)

-- what must stand where a place says: K for a place that has no expression
abbrev pub PlaceAt : Type 0 → List ℕ → List ℕ → ℕ → ℕ → Place → Type 0
PlaceAt K list lm s e kept = K
PlaceAt K list lm s e (filled x) = (items (part s e list) (part s e lm) ≡ items_of 0 x) × (each small 0 x ≡ true)

abbrev pub Kept : ListKind → Type 0
Kept Pairs = ⊥
Kept Places = Unit {0}

filled_at : (a a' b b' : List ℕ) (x : Form) (s e : ℕ) → length a ≡ s → length a' ≡ s → e ≡ s + length (encode x) → items (part s e (a ++ (encode x ++ b))) (part s e (a' ++ (marks_of 0 x ++ b'))) ≡ items_of 0 x
unfolding items
filled_at a a' b b' x s e h h' k =
    rw (part-mid a (encode x) b s e h k, part-mid a' (marks_of 0 x) b' s e h' (rw (marks-length 0 x) k)) (rw (append-nil, append-nil, append-nil) at (items-encode 0 x [] []))

one_further : (w : ℕ) (x : Form) (a a' b b' : List ℕ) (at : ℕ) → length a ≡ at → length a' ≡ at
    → items (part (at + 1) (at + suc (length (encode x))) (a ++ (w ∷ (encode x ++ b)))) (part (at + 1) (at + suc (length (encode x))) (a' ++ (0 ∷ (marks_of 0 x ++ b')))) ≡ items_of 0 x
one_further w x a a' b b' at h h' =
    let y : a ++ (w ∷ (encode x ++ b)) ≡ (a ++ (w ∷ [])) ++ (encode x ++ b) = simp append_assoc in
    let z : a' ++ (0 ∷ (marks_of 0 x ++ b')) ≡ (a' ++ (0 ∷ [])) ++ (marks_of 0 x ++ b') = simp append_assoc in
    rw (y, z) (filled_at (a ++ (w ∷ [])) (a' ++ (0 ∷ [])) b b' x (at + 1) (at + suc (length (encode x))) (rw length-append (omega arith)) (rw length-append (omega arith)) (omega arith))

good-place : (kind : ListKind) (w : ℕ) (p : Place) → Good kind (entry w p) → (a a' b b' : List ℕ) (at : ℕ) → length a ≡ at → length a' ≡ at
    → PlaceAt (Kept kind) (a ++ ((w ∷ place_words p) ++ b)) (a' ++ (0 ∷ (marks_place p ++ b'))) (at + 1) (at + suc (length (place_words p))) p
good-place Pairs w kept g a a' b b' at h h' = g
good-place Places w kept g a a' b b' at h h' = tt
good-place Pairs w (filled x) g a a' b b' at h h' = (one_further w x a a' b b' at h h', ok-small g 0)
good-place Places w (filled x) g a a' b b' at h h' = (one_further w x a a' b b' at h h', ok-small g.1 0)

pub entry_place : (kind : ListKind) (es : List Entry) → GoodAll kind es → (a a' b b' : List ℕ) (at : ℕ) → length a ≡ at → length a' ≡ at → (i : ℕ) → i < length es
    → PlaceAt (Kept kind) (a ++ (encode_list es ++ b)) (a' ++ (marks_list es ++ b')) (get_or (column start at es) i 0) (get_or (column end at es) i 0) (get_or (map place_of es) i kept)
unfolding encode_list entry_words marks_list
entry_place kind [] g a a' b b' at h h' i l = absurd (omega arith)
entry_place kind (entry w p ∷ es) g a a' b b' at h h' zero l =
    let y : a ++ (((w ∷ place_words p) ++ encode_list es) ++ b) ≡ a ++ ((w ∷ place_words p) ++ (encode_list es ++ b)) = simp append_assoc in
    let z : a' ++ ((0 ∷ (marks_place p ++ marks_list es)) ++ b') ≡ a' ++ (0 ∷ (marks_place p ++ (marks_list es ++ b'))) = simp append_assoc in
    rw (y, z) (good-place kind w p g.0 a a' (encode_list es ++ b) (marks_list es ++ b') at h h')
entry_place kind (entry w p ∷ es) g a a' b b' at h h' (suc i) l =
    let y : a ++ (((w ∷ place_words p) ++ encode_list es) ++ b) ≡ (a ++ (w ∷ place_words p)) ++ (encode_list es ++ b) = simp append_assoc in
    let z : a' ++ ((0 ∷ (marks_place p ++ marks_list es)) ++ b') ≡ (a' ++ (0 ∷ marks_place p)) ++ (marks_list es ++ b') = simp append_assoc in
    rw (y, z)
    (entry_place kind es g.1 (a ++ (w ∷ place_words p)) (a' ++ (0 ∷ marks_place p)) b b' (at + suc (length (place_words p))) (rw length-append (omega arith))
    (rw (length-append, place-length p) (omega arith)) i (omega arith))

moved-place : (K : Type 0) (list list' lm lm' : List ℕ) (s e : ℕ) (p : Place) → PlaceAt K list lm s e p → list ≡ list' → lm ≡ lm' → PlaceAt K list' lm' s e p
moved-place K list list' lm lm' s e p h a b = rw (← a, ← b) h

-- the words of each place
entry-part : (es : List Entry) (a b : List ℕ) (at : ℕ) → length a ≡ at → (i : ℕ) → i < length es
    → part (get_or (column start at es) i 0) (get_or (column end at es) i 0) (a ++ (encode_list es ++ b)) ≡ place_words (get_or (map place_of es) i kept)
unfolding encode_list entry_words
entry-part [] a b at h i l = absurd (omega arith)
entry-part (entry w p ∷ es) a b at h zero l =
    let y : a ++ (((w ∷ place_words p) ++ encode_list es) ++ b) ≡ (a ++ (w ∷ [])) ++ (place_words p ++ (encode_list es ++ b)) = simp append_assoc in
    rw y (part-mid (a ++ (w ∷ [])) (place_words p) (encode_list es ++ b) (at + 1) (at + suc (length (place_words p))) (rw length-append (omega arith)) (omega arith))
entry-part (entry w p ∷ es) a b at h (suc i) l =
    let y : a ++ (((w ∷ place_words p) ++ encode_list es) ++ b) ≡ (a ++ (w ∷ place_words p)) ++ (encode_list es ++ b) = simp append_assoc in
    rw y (entry-part es (a ++ (w ∷ place_words p)) b (at + suc (length (place_words p))) (rw length-append (omega arith)) i (omega arith))

-- the places of a list that was read, by its table
module _ (kind : ListKind) (list : List ℕ) (es : List Entry) (is : list_of kind list ≡ some es) (few : length es ≤ 32) where
  pub listed-in-row : (i : ℕ) → (get_or (tabled es 0 empty_table).starts i 0 ≤ get_or (tabled es 0 empty_table).ends i 0) × (get_or (tabled es 0 empty_table).ends i 0 ≤ length list)
  listed-in-row i = go (leb (length es) i) refl
    where
      go : (b : Bool) → leb (length es) i ≡ b → (get_or (tabled es 0 empty_table).starts i 0 ≤ get_or (tabled es 0 empty_table).ends i 0) × (get_or (tabled es 0 empty_table).ends i 0 ≤ length list)
      go true q = let past = leb-true (length es) i q in rw (start-past es few i past, end-past es few i past) (omega arith, omega arith)
      go false q =
          let h = leb-false (length es) i q in
          rw (start-at es few i h, end-at es few i h, (list-sound kind list es is).0) (rw zero-add at (spans es 0 i h))

  pub listed-part : (i : ℕ) → i < length es → part (get_or (tabled es 0 empty_table).starts i 0) (get_or (tabled es 0 empty_table).ends i 0) list ≡ place_words (get_or (map place_of es) i kept)
  listed-part i h = rw (start-at es few i h, end-at es few i h, (list-sound kind list es is).0) (rw append-nil at (entry-part es [] [] 0 refl i h))

  pub listed-places : (lm : List ℕ) → take (length list) lm ≡ mark_entries es 0 (replicate (length list) 0) → (i : ℕ) → i < length es
      → PlaceAt (Kept kind) list lm (get_or (tabled es 0 empty_table).starts i 0) (get_or (tabled es 0 empty_table).ends i 0) (get_or (map place_of es) i kept)
  listed-places lm k i h =
      let w = (list-sound kind list es is).0 in
      let g = (list-sound kind list es is).1 in
      let q : take (length list) lm ≡ marks_list es = k ∙ rw w (only-entries es) in
      let m : marks_list es ++ drop (length list) lm ≡ lm = rw (← q) (take-append-drop (length list) lm) in
      rw (start-at es few i h, end-at es few i h)
      (moved-place (Kept kind) (encode_list es ++ []) list (marks_list es ++ drop (length list) lm) lm (get_or (column start 0 es) i 0) (get_or (column end 0 es) i 0) (get_or (map place_of es) i kept)
      (entry_place kind es g [] [] [] (drop (length list) lm) 0 refl refl i h) (append-nil (encode_list es) ∙ sym w) m)
