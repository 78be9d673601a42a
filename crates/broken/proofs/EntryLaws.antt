-- The entries of a list, one after another. Assumes nothing.
use mathlib.Core.Path.{◌≡◌, refl, sym, ◌∙◌, ap}
use mathlib.Core.Bool.{Bool, true, false, ◌&&◌}
use mathlib.Core.List.{List, ◌∷◌}
use Prim.Native.Nat.{ℕ, zero, suc, ◌+◌, ◌≤◌, ◌<◌}
use native.Mathlib.Omega.{arith}
use borrow.Author.Tests.{le-leb, lt-leb, leb-true}
use lib.Dec.{leb}
use lib.ListN.{length, get_or, drop}
use Rattle.tree.specs.Form.{pick}
use Rattle.form.specs.Break.{Next, parts, nothing, rest, least, least_all, after, break_from, entry_next, break_list}
use Rattle.form.specs.Internal.Heads.{starts_leaf}
use Rattle.form.specs.declared.answer.ListKind.{ListKind}
use Rattle.form.specs.declared.answer.ListKind.TheVariants.{Pairs, Places}
use Rattle.form.proofs.HeadLaws.{here}
use Rattle.broken.specs.Internal.Seeks.{no_kids, leaf_entry, quick_entry, Seeks, Sought, place_of}
use Rattle.broken.proofs.SeekLaws.{one_word, ran_out, start, kids-there}
use Rattle.broken.proofs.LeafLaws.{leaf-past, leaf-words}
use Rattle.std.specs.Prelude.{Ok, is_ok, Err}

-- entries that are passed at once: 0, or a word and a name or an index
module _ (at : ℕ) (ws : List ℕ) where
  pub no-leaf-room : 8192 < at + 3 → 0 ≡ leaf_entry at ws
  no-leaf-room h = rw (lt-leb (at + 3) 8192 h)

  pub leaf-there : at + 3 ≤ 8192 → (b : Bool) → b ≡ starts_leaf 64 ws → b ≡ true → 3 ≡ leaf_entry at ws
  leaf-there h b e t = rw (le-leb (at + 3) 8192 h, sym e ∙ t)

  pub leaf-absent : (b : Bool) → b ≡ starts_leaf 64 ws → b ≡ false → 0 ≡ leaf_entry at ws
  leaf-absent b e f = rw (sym e ∙ f) (either (leb (at + 3) 8192))
    where
      either : (c : Bool) → ◌≡◌ {A = ℕ} 0 (pick (c && false) 3 0)
      either true = refl
      either false = refl

module _ (row : List ℕ) (at : ℕ) (h : at < length row) where
  pub quick-pair : (n : ℕ) → n ≡ leaf_entry at (drop (at + 1) row) → n ≡ quick_entry Pairs at (drop at row)
  unfolding quick_entry
  quick-pair n e = rw (here row at h) e

  pub quick-wide : 1 < get_or row at 0 → 0 ≡ quick_entry Places at (drop at row)
  unfolding quick_entry
  quick-wide k = rw (here row at h) (go (get_or row at 0) k)
    where
      go : (w : ℕ) → 1 < w → 0 ≡ quick_entry Places at (w ∷ drop (at + 1) row)
      go zero k = absurd (omega arith)
      go (suc zero) k = absurd (omega arith)
      go (suc (suc w)) k = refl

  pub quick-one : get_or row at 0 ≡ 1 → (n : ℕ) → n ≡ leaf_entry at (drop (at + 1) row) → n ≡ quick_entry Places at (drop at row)
  unfolding quick_entry
  quick-one k n e = rw (here row at h, k) e

  quick-none : get_or row at 0 ≤ 1 → (get_or row at 0 ≡ 1 → ⊥) → get_or row at 0 ≡ 0
  quick-none k n = go (get_or row at 0) k n
    where
      go : (w : ℕ) → w ≤ 1 → (w ≡ 1 → ⊥) → w ≡ 0
      go zero k n = refl
      go (suc zero) k n = absurd (n refl)
      go (suc (suc w)) k n = absurd (omega arith)

  pub quick-full : get_or row at 0 ≤ 1 → (get_or row at 0 ≡ 1 → ⊥) → 8192 ≤ at → 0 ≡ quick_entry Places at (drop at row)
  unfolding quick_entry
  quick-full k n m = rw (here row at h, quick-none k n, lt-leb (at + 1) 8192 (omega arith))

  pub quick-zero : get_or row at 0 ≤ 1 → (get_or row at 0 ≡ 1 → ⊥) → at < 8192 → 1 ≡ quick_entry Places at (drop at row)
  unfolding quick_entry
  quick-zero k n m = rw (here row at h, quick-none k n, le-leb (at + 1) 8192 (omega arith))

-- the entries of a list, one after another: the search has come to p
pub record Lists (kind : ListKind) (row : List ℕ) (p : ℕ) : Type 0 where
  pub same : break_list kind row ≡ break_from false (entry_next kind) p nothing (drop p row)
  pub room : p ≤ 8192

pub no-entry : (kind : ListKind) (row : List ℕ) → Lists kind row 0
unfolding break_list
no-entry kind row = record { same = refl; room = omega arith }

module _ (kind : ListKind) (row : List ℕ) (p : ℕ) (i : Lists kind row p) where
  pub list_over : length row ≤ p → p ≡ break_list kind row
  list_over h = sym (i.same ∙ ran_out false row (entry_next kind) p nothing h)

  module _ (h : p < length row) (o : Next) (e : o ≡ entry_next kind (get_or row p 0)) where
    entry-next : break_list kind row ≡ pick (leb (p + 1 + (least 64 o + 0)) 8192) (break_from false (entry_next kind) (p + 1) (rest 64 o nothing) (drop (p + 1) row)) p
    unfolding least_all after
    entry-next = i.same ∙ (one_word false row (entry_next kind) p nothing h ∙ rw (← e))

    pub entry-stop : leb (p + 1 + (least 64 o + 0)) 8192 ≡ false → p ≡ break_list kind row
    entry-stop f = sym (entry-next ∙ rw f)

    module _ (t : leb (p + 1 + (least 64 o + 0)) 8192 ≡ true) (s : Sought) (r : Seeks false row (p + 1) 64 o 0 s) where
      entry-sought : break_list kind row ≡ pick (is_ok s) (break_from false (entry_next kind) (place_of s) nothing (drop (place_of s) row)) (place_of s)
      unfolding least_all
      entry-sought = entry-next ∙ rw t (r.breaks (entry_next kind) nothing refl)

      pub entry-broken : {q : ℕ} → s ≡ Err q → (q ≤ 8192) × (q ≡ break_list kind row)
      entry-broken {q = q} e = let at : place_of s ≡ q = ap place_of e in (let low = r.low in omega (arith, at), sym (entry-sought ∙ rw e))

      pub entry-go : {q : ℕ} → s ≡ Ok q → (p < q) × Lists kind row q
      entry-go {q = q} e =
          let end : place_of s ≡ q = ap place_of e in
          let found : is_ok s ≡ true = ap is_ok e in
          let room = r.room found in
          let rises = r.rises in
          (omega (arith, end), record { same = entry-sought ∙ rw e; room = omega (arith, end) })

-- an entry that is passed at once is one that the search would pass
entry_done : (row : List ℕ) (p : ℕ) → p ≤ 8192 → Seeks false row p 64 (parts 0 0 0) 0 (Ok p)
unfolding no_kids least
entry_done row p h = kids-there row p 64 (parts 0 0 0) 0 p 0 0 (start row p 64 (parts 0 0 0) 0 (omega arith)) refl

entry-leaf : (row : List ℕ) (p : ℕ) → p + 2 ≤ 8192 → starts_leaf 64 (drop p row) ≡ true → Seeks false row p 64 (parts 0 0 1) 0 (Ok (p + 2))
unfolding no_kids least
entry-leaf row p h s =
    let (tag, short, low) = leaf-words row p 64 s in
    kids-there row p 64 (parts 0 0 1) 0 (p + 2) 0 0 (leaf-past row p 64 (parts 0 0 1) 0 p 0 (start row p 64 (parts 0 0 1) 0 (omega arith)) tag (omega arith) short low) refl

leaf-facts : (at : ℕ) (ws : List ℕ) (n : ℕ) → n ≡ leaf_entry at ws → 0 < n → (n ≡ 3) × (at + 3 ≤ 8192) × (starts_leaf 64 ws ≡ true)
leaf-facts at ws n e h = by (leb (at + 3) 8192) refl (starts_leaf 64 ws) refl e
  where
    by : (b : Bool) → leb (at + 3) 8192 ≡ b → (c : Bool) → starts_leaf 64 ws ≡ c → n ≡ pick (b && c) 3 0 → (n ≡ 3) × (at + 3 ≤ 8192) × (starts_leaf 64 ws ≡ true)
    by true q true r e = (e, leb-true (at + 3) 8192 q, r)
    by true q false r e = absurd (omega arith)
    by false q c r e = absurd (omega arith)

module _ (row : List ℕ) (p : ℕ) (h : p < length row) where
  leaf-by : (kind : ListKind) → Lists kind row p → parts 0 0 1 ≡ entry_next kind (get_or row p 0) → (n : ℕ) → n ≡ leaf_entry p (drop (p + 1) row) → 0 < n → Lists kind row (p + n)
  unfolding least
  leaf-by kind i e n q k =
      let (three, room, leaf) = leaf-facts p (drop (p + 1) row) n q k in
      let past = (entry-go kind row p i h (parts 0 0 1) e (le-leb (p + 1 + (least 64 (parts 0 0 1) + 0)) 8192 (omega arith)) (Ok (p + 1 + 2)) (entry-leaf row (p + 1) (omega arith) leaf) refl).1 in
      let sum : p + 1 + 2 ≡ p + n = omega arith in
      rw sum at past

  kept_by : Lists Places row p → parts 0 0 0 ≡ entry_next Places (get_or row p 0) → p + 1 ≤ 8192 → Lists Places row (p + 1)
  unfolding least
  kept_by i e m = (entry-go Places row p i h (parts 0 0 0) e (le-leb (p + 1 + (least 64 (parts 0 0 0) + 0)) 8192 (omega arith)) (Ok (p + 1)) (entry_done row (p + 1) m) refl).1

  place-by : (w n : ℕ) → get_or row p 0 ≡ w → Lists Places row p → n ≡ quick_entry Places p (w ∷ drop (p + 1) row) → 0 < n → Lists Places row (p + n)
  unfolding quick_entry
  place-by zero n e i q k = go (leb (p + 1) 8192) refl q
    where
      go : (b : Bool) → leb (p + 1) 8192 ≡ b → n ≡ pick b 1 0 → Lists Places row (p + n)
      go true m q = rw q (kept_by i (rw e) (leb-true (p + 1) 8192 m))
      go false m q = absurd (omega arith)
  place-by (suc zero) n e i q k = leaf-by Places i (rw e) n q k
  place-by (suc (suc w)) n e i q k = absurd (omega arith)

pub quick-go : (kind : ListKind) (row : List ℕ) (p : ℕ) → Lists kind row p → p < length row → (n : ℕ) → n ≡ quick_entry kind p (drop p row) → 0 < n → Lists kind row (p + n)
unfolding quick_entry
quick-go Pairs row p i h n q k = leaf-by row p h Pairs i refl n (rw (here row p h) at q) k
quick-go Places row p i h n q k = place-by row p h (get_or row p 0) n refl i (rw (here row p h) at q) k
