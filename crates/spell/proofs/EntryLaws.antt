-- What the printers of lists write, by what is decoded. Assumes nothing.
use mathlib.Core.Path.{◌≡◌, refl, ap, sym, ◌∙◌}
use mathlib.Core.List.{List, [], ◌∷◌, ◌++◌}
use mathlib.Core.Option.{Option, none as absent, some}
use Prim.Native.Nat.{ℕ, zero, suc, ◌+◌, ◌-◌, ◌*◌, ◌≤◌, ◌<◌}
use native.Mathlib.Numerals.{sub-one}
use native.Mathlib.Omega.{arith}
use lib.ListN.{length, get_or, take, drop, length-append, length-drop}
use lib.Seq.{drop-drop, drop-append_seam, take-length}
use Rattle.tree.specs.Form.{Form, encode}
use Rattle.tree.specs.Tag.{expr}
use Rattle.form.specs.Decode.{Got, got, no-form, decode}
use Rattle.form.specs.Lists.{kept, filled, Entry, entry, with_expr, place_entry, entry_of, add_entry, and_then, list_of, entry_words}
use Rattle.form.specs.declared.answer.ListKind.{ListKind}
use Rattle.form.specs.declared.answer.ListKind.TheVariants.{Pairs, Places}
use Rattle.form.proofs.ListLaws.{entry-long, list-nil, list-step}
use Rattle.form.proofs.DecodeLaws.{clash, decode-sound}
use Rattle.form.proofs.HeadLaws.{gone, here}
use Rattle.spell.specs.Put.{put}
use Rattle.spell.specs.Spell.{decimal, spaced, bracket, spell, spell_entry, entries_after, spell_list, spell_names}
use Rattle.spell.specs.Internal.Writes.{spot, Wrote, Printed, PrintedEntry, PrintedEntries, PrintedList, AtMost}
use Rattle.spell.proofs.WriteLaws.{wrote-both, wrote-end, decimal-few}
use Rattle.spell.proofs.PrintLaws.{spell-few, printed-end, printed-bad, row-is, out-is, same_end}
use Rattle.std.specs.Prelude.{Option as Maybe, Some, None}
use Rattle.spell.specs.declared.print.Spot.{Spot}

-- one entry
module _ (row : List ℕ) (at o : ℕ) where
  pub pair-past : (a b : List ℕ) → length row ≤ at → PrintedEntry Pairs at o (entry_of Pairs (drop at row)) a b None
  unfolding PrintedEntry entry_of
  pair-past a b h = rw (gone row at h) refl

  pub place-past : (a b : List ℕ) → length row ≤ at → PrintedEntry Places at o (entry_of Places (drop at row)) a b None
  unfolding PrintedEntry entry_of
  place-past a b h = rw (gone row at h) refl

  module _ (h : at < length row) where
    pub pair-stop : (k : ℕ) (a b x y : List ℕ) (r : Maybe Spot) → Printed (at + 1) k (decode 64 expr (drop (at + 1) row)) x y r → r ≡ None → PrintedEntry Pairs at o (entry_of Pairs (drop at row)) a b None
    unfolding PrintedEntry entry_of
    pair-stop k a b x y r t e = rw (here row at h, printed-bad (at + 1) k (decode 64 expr (drop (at + 1) row)) x y r t e) refl

    pair_made : (w : ℕ) (f : Form) (x : List ℕ) (p m : ℕ) (a b : List ℕ) → p ≡ at + 1 + length (encode f) → Wrote o (spell_entry Pairs (entry w (filled f))) a b m
        → PrintedEntry Pairs at o (some (entry w (filled f), x)) a b (spot p m)
    unfolding PrintedEntry entry_words Wrote
    pair_made w f x p m a b e v = (same_end _ _ _ _ (omega arith) v.0, v.1)

    pub pair-go : (i j k p q m : ℕ) (a a₁ a₂ a₃ a₄ a₅ : List ℕ) (r : Maybe Spot) → Wrote o (91 ∷ []) a a₁ i → Wrote i (decimal (get_or row at 0)) a₁ a₂ j → Wrote j (32 ∷ []) a₂ a₃ k
        → Printed (at + 1) k (decode 64 expr (drop (at + 1) row)) a₃ a₄ r → r ≡ spot p q → Wrote q (93 ∷ []) a₄ a₅ m → PrintedEntry Pairs at o (entry_of Pairs (drop at row)) a a₅ (spot p m)
    unfolding entry_of spell_entry Wrote
    pair-go i j k p q m a a₁ a₂ a₃ a₄ a₅ r w₀ w₁ w₂ t e w₃ =
        let (f, x, g, l, n, v) = printed-end (at + 1) k (decode 64 expr (drop (at + 1) row)) a₃ a₄ r p q t e in
        let tail = wrote-both j k m (32 ∷ []) _ a₂ a₃ a₅ w₂ (wrote-both k q m (spell f) (93 ∷ []) a₃ a₄ a₅ (n, v) w₃) in
        let all = wrote-both o i m (91 ∷ []) _ a a₁ a₅ w₀ (wrote-both i j m (decimal (get_or row at 0)) _ a₁ a₂ a₅ w₁ tail) in
        rw (here row at h, g) (pair_made (get_or row at 0) f x p m a a₅ l all)

    pub place_other : (a b : List ℕ) → 1 < get_or row at 0 → PrintedEntry Places at o (entry_of Places (drop at row)) a b None
    unfolding PrintedEntry entry_of
    place_other a b n = rw (here row at h) (go (get_or row at 0) n)
      where
        go : (w : ℕ) → 1 < w → PrintedEntry Places at o (place_entry w (drop (at + 1) row)) a b None
        go zero n = absurd (omega arith)
        go (suc zero) n = absurd (omega arith)
        go (suc (suc w)) n = refl

    place-got : (g : Got) (a b : List ℕ) (r : Maybe Spot) → Printed (at + 1) o g a b r → PrintedEntry Places at o (with_expr 1 g) a b r
    unfolding PrintedEntry Printed spell_entry entry_words
    place-got (got f x) a b r t = (t.0 ∙ same_end _ _ _ _ (omega arith) refl, t.1)
    place-got no-form a b r t = t

    pub place-go : (a b : List ℕ) (r : Maybe Spot) → get_or row at 0 ≡ 1 → Printed (at + 1) o (decode 64 expr (drop (at + 1) row)) a b r → PrintedEntry Places at o (entry_of Places (drop at row)) a b r
    unfolding entry_of
    place-go a b r e t = rw (here row at h, e) (place-got (decode 64 expr (drop (at + 1) row)) a b r t)

    pub place_kept : (i j : ℕ) (a b c : List ℕ) → get_or row at 0 ≡ 0 → Wrote o (91 ∷ []) a b i → Wrote i (93 ∷ []) b c j
        → PrintedEntry Places at o (entry_of Places (drop at row)) a c (spot (at + 1) j)
    unfolding PrintedEntry entry_of spell_entry entry_words Wrote
    place_kept i j a b c z w v =
        let all = wrote-both o i j (91 ∷ []) (93 ∷ []) a b c w v in
        rw (here row at h, z) (same_end _ _ _ _ refl all.0, all.1)

-- an entry's words are the row's first; its spelling has fewer than 13 bytes a word
abbrev Sound : ListKind → List ℕ → Entry → List ℕ → Type 0
Sound kind l e x = (l ≡ entry_words e ++ x) × (length (spell_entry kind e) + 1 ≤ 13 * length (entry_words e))

both : (e e' : Entry) (x x' : List ℕ) → ◌≡◌ {A = Option (Entry × List ℕ)} (some (e, x)) (some (e', x')) → (e ≡ e') × (x ≡ x')
both e e' x x' q =
    let z : ◌≡◌ {A = Entry × List ℕ} (e, x) (e', x') = cc in
    (ap (λ p. p.0) z, ap (λ p. p.1) z)

pair-sound : (w : ℕ) (ws : List ℕ) (g : Got) (e : Entry) (x : List ℕ) → decode 64 expr ws ≡ g → with_expr w g ≡ some (e, x) → Sound Pairs (w ∷ ws) e x
unfolding spell_entry entry_words
pair-sound w ws (got f y) e x q s =
    let (k, y') = both (entry w (filled f)) e y x s in
    let (v, ok) = decode-sound 64 expr ws f y q in
    let a = length-append (decimal w) (32 ∷ (spell f ++ (93 ∷ []))) in
    let b = length-append (spell f) (93 ∷ []) in
    let c = decimal-few w in
    let d = spell-few f in
    rw (← k, ← y') (ap (λ z. w ∷ z) v, omega arith)
pair-sound w ws no-form e x q s = absurd (clash cc)

place-sound : (w : ℕ) (ws : List ℕ) (e : Entry) (x : List ℕ) → place_entry w ws ≡ some (e, x) → Sound Places (w ∷ ws) e x
unfolding spell_entry entry_words
place-sound zero ws e x s =
    let (k, y) = both (entry 0 kept) e ws x s in
    rw (← k, ← y) (refl, omega arith)
place-sound (suc zero) ws e x s = go (decode 64 expr ws) refl s
  where
    go : (g : Got) → decode 64 expr ws ≡ g → with_expr 1 g ≡ some (e, x) → Sound Places (1 ∷ ws) e x
    go (got f y) q s =
        let (k, y') = both (entry 1 (filled f)) e y x s in
        let (v, ok) = decode-sound 64 expr ws f y q in
        let d = spell-few f in
        rw (← k, ← y') (ap (λ z. 1 ∷ z) v, omega arith)
    go no-form q s = absurd (clash cc)
place-sound (suc (suc w)) ws e x s = absurd (clash cc)

entry-sound : (kind : ListKind) (l : List ℕ) (e : Entry) (x : List ℕ) → entry_of kind l ≡ some (e, x) → Sound kind l e x
unfolding entry_of
entry-sound Pairs [] e x s = absurd (clash cc)
entry-sound Pairs (w ∷ ws) e x s = pair-sound w ws (decode 64 expr ws) e x refl s
entry-sound Places [] e x s = absurd (clash cc)
entry-sound Places (w ∷ ws) e x s = place-sound w ws e x s

entry-end : (kind : ListKind) (p o : ℕ) (g : Option (Entry × List ℕ)) (a b : List ℕ) (r : Maybe Spot) (q j : ℕ) → PrintedEntry kind p o g a b r → r ≡ spot q j
    → (e : Entry) × (x : List ℕ) × (g ≡ some (e, x)) × (q ≡ p + length (entry_words e)) × Wrote o (spell_entry kind e) a b j
unfolding PrintedEntry Wrote
entry-end kind p o (some x) a b r q j t e = (x.0, x.1, refl, row-is (sym e ∙ t.0), (out-is (sym e ∙ t.0), t.1))
entry-end kind p o absent a b r q j t e = absurd (clash cc)

entry-bad : (kind : ListKind) (p o : ℕ) (g : Option (Entry × List ℕ)) (a b : List ℕ) (r : Maybe Spot) → PrintedEntry kind p o g a b r → r ≡ None → g ≡ absent
unfolding PrintedEntry
entry-bad kind p o (some x) a b r t e = let z = t.0 in absurd (clash cc)
entry-bad kind p o absent a b r t e = refl

-- entries to the end of the row
module _ (row : List ℕ) (kind : ListKind) (s : ℕ) where
  pub entries_none : (p o : ℕ) (a : List ℕ) → length row ≤ p → PrintedEntries s kind o (list_of kind (drop p row)) a a (Some o)
  unfolding PrintedEntries entries_after put
  entries_none p o a h = rw (gone row p h, list-nil kind) (ap Some (omega arith), refl)

  module _ (p o : ℕ) (a : List ℕ) (h : p < length row) where
    step : list_of kind (drop p row) ≡ and_then (entry_of kind (drop p row)) (λ r. list_of kind r)
    step = rw (here row p h) (list-step kind (get_or row p 0) (drop (p + 1) row))

    module _ (i : ℕ) (a₁ a₂ : List ℕ) (r : Maybe Spot) (t : PrintedEntry kind p i (entry_of kind (drop p row)) a₁ a₂ r) where
      pub entries-stop : (b : List ℕ) → r ≡ None → PrintedEntries s kind o (list_of kind (drop p row)) a b None
      unfolding PrintedEntries
      entries-stop b e = rw (step, entry-bad kind p i (entry_of kind (drop p row)) a₁ a₂ r t e) refl

      pub entry-within : (q j : ℕ) → r ≡ spot q j → (p < q) × (j + 1 + 13 * (length row - q) ≤ i + 13 * (length row - p))
      entry-within q j e =
          let (y, x, g, l, w) = entry-end kind p i (entry_of kind (drop p row)) a₁ a₂ r q j t e in
          let (v, k) = entry-sound kind (drop p row) y x g in
          let m : length row - p ≡ length (entry_words y) + length x = sym (length-drop p row) ∙ ap length v ∙ length-append (entry_words y) x in
          let u = wrote-end i j (spell_entry kind y) a₁ a₂ w in
          let z = entry-long y in
          (omega arith, omega arith)

      add : (j : ℕ) (y : Entry) (g : Option (List Entry)) (b : List ℕ) (r' : Maybe ℕ) → Wrote o (s ∷ []) a a₁ i → Wrote i (spell_entry kind y) a₁ a₂ j
          → PrintedEntries 32 kind j g a₂ b r' → PrintedEntries s kind o (add_entry y g) a b r'
      unfolding PrintedEntries entries_after Wrote
      add j y (some es) b r' w v k =
          let all = wrote-both o i (j + length (entries_after 32 kind es)) (s ∷ []) _ a a₁ b w (wrote-both i j _ (spell_entry kind y) (entries_after 32 kind es) a₁ a₂ b v (refl, k.1)) in
          (k.0 ∙ ap Some all.0, all.1)
      add j y absent b r' w v k = k

      pub entries-more : (q j : ℕ) → r ≡ spot q j → Wrote o (s ∷ []) a a₁ i → (b : List ℕ) (r' : Maybe ℕ) → PrintedEntries 32 kind j (list_of kind (drop q row)) a₂ b r'
          → PrintedEntries s kind o (list_of kind (drop p row)) a b r'
      entries-more q j e w b r' k =
          let (y, x, g, l, v) = entry-end kind p i (entry_of kind (drop p row)) a₁ a₂ r q j t e in
          let (u, m) = entry-sound kind (drop p row) y x g in
          let d : x ≡ drop q row = sym (drop-append_seam (entry_words y) x) ∙ ap (λ n. drop (length (entry_words y)) n) (sym u) ∙ drop-drop (length (entry_words y)) p row ∙ ap (λ n. drop n row) (sym l) in
          rw (step, g, d) (add j y (list_of kind (drop q row)) b r' w v k)

nothing : (kind : ListKind) → 0 + length (entries_after 91 kind []) ≡ 0
unfolding entries_after
nothing kind = refl

-- the whole list
pub list-stop : (kind : ListKind) (g : Option (List Entry)) (a b c : List ℕ) (r : Maybe ℕ) → PrintedEntries 91 kind 0 g a b r → r ≡ None → PrintedList kind g a c None
unfolding PrintedEntries PrintedList
list-stop kind (some es) a b c r t e = let z = t.0 in absurd (clash cc)
list-stop kind absent a b c r t e = refl

pub list-empty : (kind : ListKind) (g : Option (List Entry)) (a b c d : List ℕ) (r : Maybe ℕ) (o i j : ℕ) → PrintedEntries 91 kind 0 g a b r → r ≡ Some o → o ≡ 0
    → Wrote 0 (91 ∷ []) b c i → Wrote i (93 ∷ []) c d j → PrintedList kind g a d (Some j)
unfolding PrintedEntries PrintedList entries_after spell_list Wrote put
list-empty kind (some []) a b c d r o i j t e z w v =
    let all = wrote-both 0 i j (91 ∷ []) (93 ∷ []) b c d w v in
    (ap Some all.0, all.1 ∙ ap (λ l. put l 0 (91 ∷ 93 ∷ [])) t.1)
list-empty kind (some (y ∷ es)) a b c d r o i j t e z w v =
    let q : Some o ≡ Some (0 + suc (length (spell_entry kind y ++ entries_after 32 kind es))) = sym e ∙ t.0 in
    let k : o ≡ 0 + suc (length (spell_entry kind y ++ entries_after 32 kind es)) = cc in
    absurd (omega arith)
list-empty kind absent a b c d r o i j t e z w v = absurd (clash cc)

pub list-end : (kind : ListKind) (g : Option (List Entry)) (a b c : List ℕ) (r : Maybe ℕ) (o j : ℕ) → PrintedEntries 91 kind 0 g a b r → r ≡ Some o → (o ≡ 0 → ⊥)
    → Wrote o (93 ∷ []) b c j → PrintedList kind g a c (Some j)
unfolding PrintedEntries PrintedList spell_list Wrote
list-end kind (some []) a b c r o j t e z w = absurd (z (ended o (sym e ∙ t.0)))
  where
    ended : (o : ℕ) → Some o ≡ Some (0 + length (entries_after 91 kind [])) → o ≡ 0
    ended o e = let k : o ≡ 0 + length (entries_after 91 kind []) = cc in k ∙ nothing kind
list-end kind (some (y ∷ es)) a b c r o j t e z w =
    let k : o ≡ 0 + length (entries_after 91 kind (y ∷ es)) = cc t.0 in
    let all = wrote-both 0 o j (entries_after 91 kind (y ∷ es)) (93 ∷ []) a b c (k, t.1) w in
    let z = all.0 in
    (ap Some (omega arith), all.1)
list-end kind absent a b c r o j t e z w = absurd (clash cc)

pub at_most : (m o : ℕ) (r : Maybe ℕ) → AtMost m r → r ≡ Some o → o ≤ m
at_most m o (Some n) h e = let z : n ≡ o = cc in omega arith
at_most m o None h e = absurd (clash cc)

-- names
pub names-empty : (row a b c : List ℕ) (i j : ℕ) → length row ≡ 0 → Wrote 0 (91 ∷ []) a b i → Wrote i (93 ∷ []) b c j → Wrote 0 (spell_names row) a c j
unfolding spell_names
names-empty [] a b c i j e w v = wrote-both 0 i j (91 ∷ []) (93 ∷ []) a b c w v
names-empty (n ∷ ns) a b c i j e w v = absurd (omega arith)

pub names_more : (row a b c d x : List ℕ) (i j k m : ℕ) → (length row ≡ 0 → ⊥) → Wrote 0 (91 ∷ []) a b i → Wrote i (decimal (get_or row 0 0)) b c j
    → Wrote j (spaced (take (length row - 1) (drop 1 row))) c d k → Wrote k (93 ∷ []) d x m → Wrote 0 (spell_names row) a x m
unfolding spell_names bracket
names_more [] a b c d x i j k m n w v u t = absurd (n refl)
names_more (y ∷ ns) a b c d x i j k m n w v u t =
    let e : take (length (y ∷ ns) - 1) ns ≡ ns = rw sub-one (take-length ns) in
    wrote-both 0 i m (91 ∷ []) _ a b x w (wrote-both i j m (decimal y) _ b c x v (wrote-both j k m (spaced ns) (93 ∷ []) c d x (rw e at u) t))
