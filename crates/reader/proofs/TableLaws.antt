-- The lists in the code: names one after another, entries at positions of the row, their table, and the answers. Assumes nothing.
use mathlib.Core.Path.{◌≡◌, refl, ap, sym, ◌∙◌}
use mathlib.Core.Bool.{Bool, true, false, ◌&&◌, ◌||◌}
use mathlib.Core.List.{List, [], ◌∷◌, ◌++◌, append_assoc, append-nil, map}
use mathlib.Core.Option.{Option, none as absent, some}
use Prim.Native.Nat.{ℕ, zero, suc, ◌+◌, ◌-◌, ◌≤◌, ◌<◌}
use native.Mathlib.Numerals.{add-one}
use native.Mathlib.Omega.{arith}
use borrow.Author.Tests.{le-leb, lt-leb, leb-true}
use lib.Dec.{leb, eqb}
use lib.ListN.{length, get_or, take, drop, set, length-set, length-map, length-drop}
use Rattle.std.specs.List.{list_any}
use lib.Seq.{take_all, drop-drop, drop-append_seam, take-suc-set}
use Rattle.tree.specs.Form.{pick, member}
use Rattle.tree.specs.Tag.{expr}
use Rattle.form.specs.Decode.{Got, got, no-form, decode}
use Rattle.form.specs.Lists.{Entry, entry, word_of, with_expr, place_entry, entry_of, add_entry, and_then, list_of, entry_words, distinct, good_names}
use Rattle.form.specs.Break.{break_list}
use Rattle.form.specs.Answer.{told, answer, needs, names_outcome, pairs_outcome, places_outcome}
use Rattle.reader.specs.Internal.Reads.{Told, mark_entry, mark_entries, ToldEntry, table_of, empty_table, add_row, tabled, ListingFrom, Listing, good_words}
use Rattle.std.specs.Prelude.{Ok, Err, Some, None, Option as Maybe}
use Rattle.form.specs.declared.answer.ListKind.{ListKind}
use Rattle.form.specs.declared.answer.ListKind.TheVariants.{Pairs, Places}
use Rattle.reader.specs.declared.lists.Table.{Table}
use Rattle.form.proofs.DecodeLaws.{clash}
use Rattle.form.proofs.HeadLaws.{gone, here}
use Rattle.form.proofs.ListLaws.{entry-sound, entry-long, list-step, list-nil}
use Rattle.form.specs.declared.answer.Refusal.TheVariants.{TooLong, BadNames, TooManyPlaces, Broken}

-- names, one after another
or-pick : (b c : Bool) → (b || c) ≡ pick b true c
or-pick true c = refl
or-pick false c = refl

any-member : (m : ℕ) (ns : List ℕ) → list_any (λ n. eqb n m) ns ≡ member m ns
any-member m [] = refl
any-member m (n ∷ ns) = rw (any-member m ns) (or-pick (eqb n m) (member m ns))

module _ (ns : List ℕ) (i : ℕ) (low : i < length ns) where
  abbrev again : Bool
  again = list_any (λ n. eqb n (get_or ns i 0)) (take (length ns - (i + 1)) (drop (i + 1) ns))

  again-is : again ≡ member (get_or ns i 0) (drop (i + 1) ns)
  again-is = rw (take_all (length ns - (i + 1)) (drop (i + 1) ns) (omega (arith, length-drop (i + 1) ns))) (any-member (get_or ns i 0) (drop (i + 1) ns))

  pub distinct-over : 65535 < get_or ns i 0 → distinct (drop i ns) ≡ false
  unfolding distinct
  distinct-over h = rw (here ns i low, lt-leb (get_or ns i 0) 65535 h)

  pub distinct-twice : get_or ns i 0 ≤ 65535 → (b : Bool) → b ≡ again → b ≡ true → distinct (drop i ns) ≡ false
  unfolding distinct
  distinct-twice h b e t = rw (here ns i low, le-leb (get_or ns i 0) 65535 h, ← again-is, ← e, t)

  pub distinct-on : get_or ns i 0 ≤ 65535 → (b : Bool) → b ≡ again → b ≡ false → distinct (drop i ns) ≡ distinct (drop (i + 1) ns)
  unfolding distinct
  distinct-on h b e t = rw (here ns i low, le-leb (get_or ns i 0) 65535 h, ← again-is, ← e, t)

pub distinct-end : (ns : List ℕ) (i : ℕ) → length ns ≤ i → distinct (drop i ns) ≡ true
unfolding distinct
distinct-end ns i h = rw (gone ns i h)

pub many-names : (ns : List ℕ) → 32 < length ns → good_names ns ≡ false
unfolding good_names
many-names ns h = rw (lt-leb (length ns) 32 h)

pub few-good : (ns : List ℕ) → length ns ≤ 32 → good_names ns ≡ distinct ns
unfolding good_names
few-good ns h = rw (le-leb (length ns) 32 h)

-- one entry at a position, as the code reads it
pub entry_gone : (kind : ListKind) (row : List ℕ) (p : ℕ) (a b : List ℕ) → length row ≤ p → ToldEntry p (entry_of kind (drop p row)) a b None
unfolding entry_of ToldEntry
entry_gone kind row p a b h = rw (gone row p h) refl

with-told : (p w : ℕ) (g : Got) (a b : List ℕ) (r : Maybe ℕ) → Told (p + 1) 0 g a b r → ToldEntry p (with_expr w g) a b r
unfolding Told ToldEntry entry_words mark_entry
with-told p w (got f x) a b r t = (t.0 ∙ ap Some (omega arith), t.1)
with-told p w no-form a b r t = t

pub pair-told : (row : List ℕ) (p : ℕ) (a b : List ℕ) (r : Maybe ℕ) → p < length row → Told (p + 1) 0 (decode 64 expr (drop (p + 1) row)) a b r → ToldEntry p (entry_of Pairs (drop p row)) a b r
unfolding entry_of
pair-told row p a b r h t = rw (here row p h) (with-told p (get_or row p 0) (decode 64 expr (drop (p + 1) row)) a b r t)

pub place-told : (row : List ℕ) (p : ℕ) (a b : List ℕ) (r : Maybe ℕ) → p < length row → ToldEntry p (place_entry (get_or row p 0) (drop (p + 1) row)) a b r → ToldEntry p (entry_of Places (drop p row)) a b r
unfolding entry_of
place-told row p a b r h t = rw (here row p h) t

pub place_kept : (p w : ℕ) (ws a : List ℕ) → w ≡ 0 → ToldEntry p (place_entry w ws) a a (Some (p + 1))
unfolding ToldEntry entry_words mark_entry
place_kept p w ws a e = rw e (refl, refl)

pub place-bad : (p w : ℕ) (ws a b : List ℕ) → 1 < w → ToldEntry p (place_entry w ws) a b None
unfolding ToldEntry
place-bad p zero ws a b h = absurd (omega arith)
place-bad p (suc zero) ws a b h = absurd (omega arith)
place-bad p (suc (suc w)) ws a b h = refl

pub place-filled : (p w : ℕ) (ws a b : List ℕ) (r : Maybe ℕ) → (w ≡ 0 → ⊥) → w ≤ 1 → Told (p + 1) 0 (decode 64 expr ws) a b r → ToldEntry p (place_entry w ws) a b r
place-filled p zero ws a b r n h t = absurd (n refl)
place-filled p (suc zero) ws a b r n h t = with-told p 1 (decode 64 expr ws) a b r t
place-filled p (suc (suc w)) ws a b r n h t = absurd (omega arith)

-- the entries from a position on
entry-end : (p : ℕ) (z : Option (Entry × List ℕ)) (a b : List ℕ) (r : Maybe ℕ) (q : ℕ) → ToldEntry p z a b r → r ≡ Some q
    → (x : Entry × List ℕ) × (z ≡ some x) × (q ≡ p + length (entry_words x.0)) × (b ≡ mark_entry x.0 p a)
unfolding ToldEntry
entry-end p (some x) a b r q t e = (x, refl, cc t.0, t.1)
entry-end p absent a b r q t e = absurd (clash cc)

entry-bad : (p : ℕ) (z : Option (Entry × List ℕ)) (a b : List ℕ) (r : Maybe ℕ) → ToldEntry p z a b r → r ≡ None → z ≡ absent
unfolding ToldEntry
entry-bad p (some x) a b r t e = let z = t.0 in absurd (clash cc)
entry-bad p absent a b r t e = refl

pub entry-rises : (p : ℕ) (z : Option (Entry × List ℕ)) (a b : List ℕ) (r : Maybe ℕ) (q : ℕ) → ToldEntry p z a b r → r ≡ Some q → p < q
entry-rises p z a b r q t e =
    let (x, s, l, m) = entry-end p z a b r q t e in
    let n = entry-long x.0 in
    omega arith

first_word : (e : Entry) (r : List ℕ) (w : ℕ) (ws : List ℕ) → w ∷ ws ≡ entry_words e ++ r → w ≡ word_of e
unfolding entry_words
first_word (entry v p) r w ws e = cc

module _ (kind : ListKind) (row : List ℕ) (p : ℕ) where
  list-here : p < length row → list_of kind (drop p row) ≡ and_then (entry_of kind (drop p row)) (λ r. list_of kind r)
  list-here h = rw (here row p h) (list-step kind (get_or row p 0) (drop (p + 1) row))

  entry-rest : (x : Entry × List ℕ) → entry_of kind (drop p row) ≡ some x → x.1 ≡ drop (p + length (entry_words x.0)) row
  entry-rest x e = rw (← drop-drop (length (entry_words x.0)) p row, (entry-sound kind (drop p row) x e).0, drop-append_seam)

  entry-word : p < length row → (x : Entry × List ℕ) → entry_of kind (drop p row) ≡ some x → get_or row p 0 ≡ word_of x.0
  entry-word h x e = first_word x.0 x.1 (get_or row p 0) (drop (p + 1) row) (sym (here row p h) ∙ (entry-sound kind (drop p row) x e).0)

add-listing : (p q : ℕ) (e : Entry) (o : Option (List Entry)) (t t' u : Table) (a a' b : List ℕ) (ok : Bool) → q ≡ p + length (entry_words e) → a' ≡ mark_entry e p a → t' ≡ add_row t (word_of e) (p + 1) q
    → ListingFrom q o t' u a' b ok → ListingFrom p (add_entry e o) t u a b ok
unfolding ListingFrom tabled mark_entries
add-listing p q e (some es) t t' u a a' b ok n m k h = rw (← n, ← m, ← k) h
add-listing p q e absent t t' u a a' b ok n m k h = h

next-listing : (p q : ℕ) (z : Option (Entry × List ℕ)) (x : Entry × List ℕ) (k : List ℕ → Option (List Entry)) (y : List ℕ) (t t' u : Table) (w : ℕ) (a a' b : List ℕ) (ok : Bool) → z ≡ some x → x.1 ≡ y → w ≡ word_of x.0
    → q ≡ p + length (entry_words x.0) → a' ≡ mark_entry x.0 p a → t' ≡ add_row t w (p + 1) q → ListingFrom q (k y) t' u a' b ok → ListingFrom p (and_then z k) t u a b ok
next-listing p q z x k y t t' u w a a' b ok e r v n m g h =
    rw e (add-listing p q x.0 (k x.1) t t' u a a' b ok n m (rw v at g) (rw r h))

module _ (kind : ListKind) (row : List ℕ) (p : ℕ) (low : p < length row) (t : Table) (a a' : List ℕ) (r : Maybe ℕ) (Told-here : ToldEntry p (entry_of kind (drop p row)) a a' r) where
  pub list-more : (q : ℕ) (t' : Table) → r ≡ Some q → t' ≡ add_row t (get_or row p 0) (p + 1) q → (u : Table) (b : List ℕ) (ok : Bool)
      → ListingFrom q (list_of kind (drop q row)) t' u a' b ok → ListingFrom p (list_of kind (drop p row)) t u a b ok
  list-more q t' e g u b ok h =
      let (x, z, n, m) = entry-end p (entry_of kind (drop p row)) a a' r q Told-here e in
      rw (list-here kind row p low)
      (next-listing p q (entry_of kind (drop p row)) x (λ r. list_of kind r) (drop q row) t t' u (get_or row p 0) a a' b ok z (entry-rest kind row p x z ∙ ap (λ n. drop n row) (sym n))
      (entry-word kind row p low x z) n m g h)

  pub list-stop : r ≡ None → (u : Table) (b : List ℕ) → ListingFrom p (list_of kind (drop p row)) t u a b false
  unfolding ListingFrom
  list-stop e u b = rw (list-here kind row p low, entry-bad p (entry_of kind (drop p row)) a a' r Told-here e) refl

pub list-end : (kind : ListKind) (row : List ℕ) (p : ℕ) (t : Table) (a : List ℕ) → length row ≤ p → ListingFrom p (list_of kind (drop p row)) t t a a true
unfolding ListingFrom tabled mark_entries
list-end kind row p t a h = rw (gone row p h, list-nil kind) (refl, refl, refl)

-- the table: its number of rows, and the words of the first 32
pick-n : (b : Bool) (x y : Table) (n : ℕ) → x.n ≡ n → y.n ≡ n → (pick {A = Table} b x y).n ≡ n
pick-n true x y n p q = p
pick-n false x y n p q = q

module _ (t : Table) (w s e : ℕ) where
  add-n : (add_row t w s e).n ≡ t.n + 1
  unfolding add_row
  add-n = pick-n (leb 32 t.n) _ _ _ refl refl

  add_words : t.n < 32 → (add_row t w s e).words ≡ set t.words t.n w
  unfolding add_row
  add_words h = rw (lt-leb 32 t.n h)

-- a row stored where there is a place for it
module _ (t : Table) (w s e : ℕ) where
  pub row-stored : t.n < 32 → table_of (t.n + 1) (set t.words t.n w) (set t.starts t.n s) (set t.ends t.n e) ≡ add_row t w s e
  unfolding add_row
  row-stored h = rw (lt-leb 32 t.n h)

  pub row-counted : 32 ≤ t.n → table_of (t.n + 1) t.words t.starts t.ends ≡ add_row t w s e
  unfolding add_row
  row-counted h = rw (le-leb 32 t.n h)

pub row_more : (t : Table) (w s e : ℕ) (t' : Table) → t' ≡ add_row t w s e → t'.n ≡ t.n + 1
row_more t w s e t' u = rw u (add-n t w s e)

pub tabled-n : (es : List Entry) (at : ℕ) (t : Table) → (tabled es at t).n ≡ t.n + length es
unfolding tabled
tabled-n [] at t = omega arith
tabled-n (e ∷ es) at t =
    let u = add_row t (word_of e) (at + 1) (at + length (entry_words e)) in
    tabled-n es (at + length (entry_words e)) u ∙ (let n = add-n t (word_of e) (at + 1) (at + length (entry_words e)) in omega arith)

take_more : (t u : Table) (w : ℕ) → t.n < length t.words → u.n ≡ t.n + 1 → u.words ≡ set t.words t.n w → take u.n u.words ≡ take t.n t.words ++ (w ∷ [])
take_more t u w h n v = rw (n, v, add-one, take-suc-set t.words t.n w h)

tabled-words : (es : List Entry) (at : ℕ) (t : Table) → t.n + length es ≤ 32 → length t.words ≡ 32
    → take (tabled es at t).n (tabled es at t).words ≡ take t.n t.words ++ map word_of es
unfolding tabled
tabled-words [] at t h l = sym (append-nil (take t.n t.words))
tabled-words (e ∷ es) at t h l =
    let s = at + length (entry_words e) in
    let u = add_row t (word_of e) (at + 1) s in
    let n = add-n t (word_of e) (at + 1) s in
    let v = add_words t (word_of e) (at + 1) s (omega arith) in
    tabled-words es s u (omega arith) (ap length v ∙ length-set t.words t.n (word_of e) ∙ l)
    ∙ ap (λ l. l ++ map word_of es) (take_more t u (word_of e) (omega arith) n v) ∙ append_assoc (take t.n t.words) (word_of e ∷ []) (map word_of es)

pub listed-words : (es : List Entry) → length es ≤ 32 → take (tabled es 0 empty_table).n (tabled es 0 empty_table).words ≡ map word_of es
unfolding empty_table
listed-words es h = tabled-words es 0 empty_table (omega arith) refl

pub listed-n : (es : List Entry) → (tabled es 0 empty_table).n ≡ length es
unfolding empty_table
listed-n es = tabled-n es 0 empty_table ∙ omega arith

module _ (es : List Entry) (u : Table) (t : u ≡ tabled es 0 empty_table) where
  pub rows-n : u.n ≡ length es
  rows-n = ap (λ (u : Table). u.n) t ∙ listed-n es

  pub good-listed : good_words u.n u.words ≡ good_names (map word_of es)
  unfolding good_words good_names
  good-listed = go (leb (length es) 32) refl
    where
      go : (b : Bool) → leb (length es) 32 ≡ b → good_words u.n u.words ≡ good_names (map word_of es)
      go true e = rw (t, listed-words es (leb-true (length es) 32 e), listed-n es, length-map es word_of)
      go false e = rw (t, listed-n es, length-map es word_of, e)

-- a list was read, or not
module _ (o : Option (List Entry)) (t u : Table) (a b : List ℕ) (ok : Bool) (h : Listing o t u a b ok) where
  pub listing-no : ok ≡ false → o ≡ absent
  unfolding ListingFrom
  listing-no e = go o h
    where
      go : (o : Option (List Entry)) → Listing o t u a b ok → o ≡ absent
      go (some es) h = let z = h.0 in absurd (clash cc)
      go absent h = refl

  pub listing-yes : ok ≡ true → (es : List Entry) × (o ≡ some es) × (u ≡ tabled es 0 t) × (b ≡ mark_entries es 0 a)
  unfolding ListingFrom
  listing-yes e = go o h
    where
      go : (o : Option (List Entry)) → Listing o t u a b ok → (es : List Entry) × (o ≡ some es) × (u ≡ tabled es 0 t) × (b ≡ mark_entries es 0 a)
      go (some es) h = (es, refl, h.1, h.2)
      go absent h = absurd (clash cc)

-- where no list was read, what stands in the table is free
pub listing-free : (o : Option (List Entry)) (t u v : Table) (a b c : List ℕ) (ok : Bool) → Listing o t u a b ok → ok ≡ false → Listing o t v a c false
unfolding ListingFrom
listing-free o t u v a b c ok h e = rw (listing-no o t u a b ok h e) refl

-- the answers: names, pairs, places
module _ (row : List ℕ) where
  pub names-long : 8192 < length row → Err TooLong ≡ told (names_outcome row)
  unfolding names_outcome
  names-long h = rw (lt-leb (length row) 8192 h)

  pub names-answer : length row ≤ 8192 → (v g : Bool) → g ≡ good_names row → g ≡ v → told (needs BadNames v (answer [])) ≡ told (names_outcome row)
  unfolding names_outcome
  names-answer h v g e k = rw (le-leb (length row) 8192 h, ← e, k)

  pub pairs-long : 8192 < length row → Err TooLong ≡ told (pairs_outcome row)
  unfolding pairs_outcome
  pairs-long h = rw (lt-leb (length row) 8192 h)

  pub places-long : (n : ℕ) → 8192 < length row → Err TooLong ≡ told (places_outcome n row)
  unfolding places_outcome
  places-long n h = rw (lt-leb (length row) 8192 h)

  -- a list was read from a table that was empty
  module _ (h : length row ≤ 8192) (a b : List ℕ) (ok : Bool) (u : Table) where
    abbrev Read : ListKind → Type 0
    Read kind = Listing (list_of kind row) empty_table u a b ok

    pub pairs-none : Read Pairs → ok ≡ false → (q : ℕ) → q ≡ break_list Pairs row → Err (Broken q) ≡ told (pairs_outcome row)
    unfolding pairs_outcome
    pairs-none t e q k = rw (le-leb (length row) 8192 h, listing-no _ _ _ _ _ _ t e, k)

    pairs-some : (es : List Entry) → list_of Pairs row ≡ some es → u ≡ tabled es 0 empty_table → (v : Bool) → good_words u.n u.words ≡ v → told (needs BadNames v (answer [])) ≡ told (pairs_outcome row)
    unfolding pairs_outcome
    pairs-some es o t v e = rw (le-leb (length row) 8192 h, o, ← good-listed es u t, e)

    pub pairs-answer : Read Pairs → ok ≡ true → (v g : Bool) → g ≡ good_words u.n u.words → g ≡ v → told (needs BadNames v (answer [])) ≡ told (pairs_outcome row)
    pairs-answer t e v g k q =
        let (es, o, t, m) = listing-yes _ _ _ _ _ _ t e in
        pairs-some es o t v (sym k ∙ q)

    pub places-none : (d : ℕ) → Read Places → ok ≡ false → (q : ℕ) → q ≡ break_list Places row → Err (Broken q) ≡ told (places_outcome d row)
    unfolding places_outcome
    places-none d t e q k = rw (le-leb (length row) 8192 h, listing-no _ _ _ _ _ _ t e, k)

    places-some : (d : ℕ) (es : List Entry) → list_of Places row ≡ some es → u ≡ tabled es 0 empty_table → (v : Bool) → (leb d 32 && leb u.n d) ≡ v → told (needs TooManyPlaces v (answer [])) ≡ told (places_outcome d row)
    unfolding places_outcome
    places-some d es o t v e = rw (le-leb (length row) 8192 h, o, ← rows-n es u t, e)

    module _ (d : ℕ) (t : Read Places) (e : ok ≡ true) where
      places-answer : (v : Bool) → (leb d 32 && leb u.n d) ≡ v → told (needs TooManyPlaces v (answer [])) ≡ told (places_outcome d row)
      places-answer v q =
          let (es, o, t, m) = listing-yes _ _ _ _ _ _ t e in
          places-some d es o t v q

      pub places-over : 32 < d → Err TooManyPlaces ≡ told (places_outcome d row)
      places-over g = places-answer false (rw (lt-leb d 32 g))

      pub places-more : d ≤ 32 → d < u.n → Err TooManyPlaces ≡ told (places_outcome d row)
      places-more g o = places-answer false (rw (le-leb d 32 g, lt-leb u.n d o))

      pub places-done : d ≤ 32 → u.n ≤ d → Ok 0 ≡ told (places_outcome d row)
      places-done g o = places-answer true (rw (le-leb d 32 g, le-leb u.n d o))
