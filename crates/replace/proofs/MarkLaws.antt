-- Marks made in part of a work row: of a form, and of the entries of a list. Assumes nothing.
use mathlib.Core.Path.{◌≡◌, refl, ap, sym, ◌∙◌}
use mathlib.Core.Bool.{Bool}
use mathlib.Core.List.{List, [], ◌∷◌, ◌++◌, append_assoc, append-nil}
use mathlib.Core.Option.{Option, none as absent, some}
use Prim.Native.Nat.{ℕ, zero, suc, ◌+◌, ◌-◌, ◌≤◌}
use native.Mathlib.Omega.{arith}
use lib.ListN.{length, take, drop, replicate, length-append, length-replicate, length-drop, take-append-drop}
use lib.Seq.{take_at, drop_at, take-append-le, length-take-le, take_all}
use Rattle.tree.specs.Form.{Form, encode}
use Rattle.form.specs.Decode.{Found, found, missing, form_of}
use Rattle.form.specs.Lists.{Place, kept, filled, Entry, entry, place_words, entry_words, encode_list, list_of}
use Rattle.reader.specs.Internal.Reads.{mark, Marked, mark_place, mark_entry, mark_entries, ListingFrom, Listing}
use Rattle.form.specs.declared.answer.Kind.{Kind}
use Rattle.form.specs.declared.answer.ListKind.{ListKind}
use Rattle.reader.specs.declared.lists.Table.{Table}
use Rattle.form.proofs.ListLaws.{list-sound}
use Rattle.shift.specs.Internal.Items.{Fresh, items, store}
use Rattle.shift.specs.declared.items.Item.TheVariants.{Plain, Ident}
use Rattle.form.proofs.RowLaws.{found-row}
use Rattle.shift.proofs.ItemLaws.{stored, store-front}
use Rattle.shift.proofs.RowLaws.{zeros, marks_of, zeros-append, zeros-length, marks-length, mark-zeros, only-mark}

pub zeros-are : (l : List ℕ) → replicate (length l) 0 ≡ zeros l
zeros-are [] = refl
zeros-are (w ∷ l) = ap (λ z. 0 ∷ z) (zeros-are l)

-- a form's marks at the start of a row
front-mark : (f : Form) (b : List ℕ) → mark f 0 0 (zeros (encode f) ++ b) ≡ marks_of 0 f ++ b
front-mark f b = mark-zeros f 0 0 [] b refl

take-mark : (f : Form) (row l l' m : List ℕ) → row ≡ encode f → length row ≤ length l → l' ≡ store l 0 (replicate (length row) 0) → m ≡ mark f 0 0 l' → take (length row) m ≡ mark f 0 0 (replicate (length row) 0)
take-mark f row l l' m e h s k =
    let z : l' ≡ zeros row ++ drop (length row) l = s ∙ rw (zeros-are row) (stored l (zeros row) (rw zeros-length h)) ∙ ap (λ n. zeros row ++ drop n l) (zeros-length row) in
    let w : m ≡ marks_of 0 f ++ drop (length row) l = k ∙ rw (z, e) (front-mark f (drop (length (encode f)) l)) in
    let n : length (marks_of 0 f) ≡ length row = marks-length 0 f ∙ rw e in
    rw (w, take_at (marks_of 0 f) (drop (length row) l) (length row) n, e) (sym (only-mark f))

pub marked-front : (kind : Kind) (row l l' m : List ℕ) → length row ≤ length l → l' ≡ store l 0 (replicate (length row) 0) → Marked (form_of kind row) l' m → Marked (form_of kind row) (replicate (length row) 0) (take (length row) m)
unfolding Marked
marked-front kind row l l' m h s k = go (form_of kind row) refl k
  where
    go : (o : Found) → form_of kind row ≡ o → Marked o l' m → Marked o (replicate (length row) 0) (take (length row) m)
    go (found s' f) q k = take-mark f row l l' m (found-row row s' f kind q).1 h s k
    go missing q k = tt

-- in marks that hold 0
zeros-stay : (m n : ℕ) → m ≤ n → ◌++◌ {A = ℕ} (replicate m 0) (drop m (replicate n 0)) ≡ replicate n 0
zeros-stay zero n h = refl
zeros-stay (suc m) zero h = absurd (omega arith)
zeros-stay (suc m) (suc n) h = ap (λ z. 0 ∷ z) (zeros-stay m n (omega arith))

pub marked-fresh : (kind : Kind) (row l m : List ℕ) → Fresh row l → Marked (form_of kind row) l m → Marked (form_of kind row) (replicate (length row) 0) (take (length row) m)
marked-fresh kind row l m x k =
    let e : drop (length (replicate {A = ℕ} (length row) 0)) l ≡ drop (length row) (replicate (length l) 0) = rw length-replicate (ap (λ z. drop (length row) z) x.zeros) in
    let d = stored l (replicate (length row) 0) (rw length-replicate x.enough) in
    let s : l ≡ store l 0 (replicate (length row) 0) = x.zeros ∙ sym (zeros-stay (length row) (length l) x.enough) ∙ ap (λ z. replicate (length row) 0 ++ z) (sym e) ∙ sym d in
    marked-front kind row l l m x.enough s k

-- the marks of a list
abbrev pub marks_place : Place → List ℕ
marks_place kept = []
marks_place (filled f) = marks_of 0 f

unfoldable pub marks_list : List Entry → List ℕ
marks_list [] = []
marks_list (entry w p ∷ es) = 0 ∷ (marks_place p ++ marks_list es)

pub place-length : (p : Place) → length (marks_place p) ≡ length (place_words p)
place-length kept = refl
place-length (filled f) = marks-length 0 f

pub list_length : (es : List Entry) → length (marks_list es) ≡ length (encode_list es)
unfolding marks_list encode_list entry_words
list_length [] = refl
list_length (entry w p ∷ es) = ap suc (rw (length-append, length-append (place_words p), place-length p, list_length es))

mark-place : (p : Place) (at : ℕ) (a b : List ℕ) → length a ≡ at → mark_place p at (a ++ (zeros (place_words p) ++ b)) ≡ a ++ (marks_place p ++ b)
mark-place kept at a b e = refl
mark-place (filled f) at a b e = mark-zeros f at 0 a b e

mark-entries : (es : List Entry) (at : ℕ) (a b : List ℕ) → length a ≡ at → mark_entries es at (a ++ (zeros (encode_list es) ++ b)) ≡ a ++ (marks_list es ++ b)
unfolding mark_entries mark_entry encode_list entry_words marks_list
mark-entries [] at a b e = refl
mark-entries (entry w p ∷ es) at a b e =
    let x : a ++ (zeros ((w ∷ place_words p) ++ encode_list es) ++ b) ≡ (a ++ (0 ∷ [])) ++ (zeros (place_words p) ++ (zeros (encode_list es) ++ b)) = rw (zeros-append (place_words p) (encode_list es), append_assoc (zeros (place_words p)) (zeros (encode_list es)) b, append_assoc a) in
    let y : (a ++ (0 ∷ [])) ++ (marks_place p ++ (zeros (encode_list es) ++ b)) ≡ (a ++ (0 ∷ marks_place p)) ++ (zeros (encode_list es) ++ b) = simp append_assoc in
    let l : length (a ++ (0 ∷ [])) ≡ at + 1 = rw length-append (omega arith) in
    let m : length (a ++ (0 ∷ marks_place p)) ≡ at + suc (length (place_words p)) = rw (length-append, place-length p) (omega arith) in
    rw (x, mark-place p (at + 1) (a ++ (0 ∷ [])) (zeros (encode_list es) ++ b) l, y, mark-entries es (at + suc (length (place_words p))) (a ++ (0 ∷ marks_place p)) b m) (simp append_assoc)

pub only-entries : (es : List Entry) → mark_entries es 0 (replicate (length (encode_list es)) 0) ≡ marks_list es
only-entries es = rw (zeros-are (encode_list es)) (rw (append-nil, append-nil) at (mark-entries es 0 [] [] refl))

take-entries : (es : List Entry) (list b m : List ℕ) → list ≡ encode_list es → m ≡ mark_entries es 0 (replicate (length list) 0 ++ b) → take (length list) m ≡ mark_entries es 0 (replicate (length list) 0)
take-entries es list b m e k =
    let w : m ≡ marks_list es ++ b = k ∙ rw (e, zeros-are (encode_list es)) (mark-entries es 0 [] b refl) in
    let n : length (marks_list es) ≡ length list = list_length es ∙ rw e in
    rw (w, take_at (marks_list es) b (length list) n, e) (sym (only-entries es))

pub listing-front : (kind : ListKind) (list b m : List ℕ) (t u : Table) (ok : Bool) → Listing (list_of kind list) t u (replicate (length list) 0 ++ b) m ok → Listing (list_of kind list) t u (replicate (length list) 0) (take (length list) m) ok
unfolding ListingFrom
listing-front kind list b m t u ok k = go (list_of kind list) refl k
  where
    go : (o : Option (List Entry)) → list_of kind list ≡ o → Listing o t u (replicate (length list) 0 ++ b) m ok → Listing o t u (replicate (length list) 0) (take (length list) m) ok
    go (some es) q k = (k.0, k.1, take-entries es list b m (list-sound kind list es q).0 k.2)
    go absent q k = k

-- the row cleared from a position on, and the part after it
module _ (l l' : List ℕ) (at n : ℕ) (fits : at + n ≤ length l) (e : l' ≡ store l at (replicate n 0)) where
  cleared : l' ≡ take at l ++ (replicate n 0 ++ drop n (drop at l))
  cleared =
      let h : length (take at l) ≡ at = length-take-le at l (omega arith) in
      let s = store-front (take at l) (drop at l) (replicate n 0) at h (rw (length-replicate, length-drop) (omega arith)) in
      e ∙ (rw (take-append-drop, length-replicate) at s)

  pub cleared-part : take (length l' - at) (drop at l') ≡ replicate n 0 ++ drop n (drop at l)
  cleared-part =
      let h : length (take at l) ≡ at = length-take-le at l (omega arith) in
      let d : drop at l' ≡ replicate n 0 ++ drop n (drop at l) = rw cleared (drop_at (take at l) (replicate n 0 ++ drop n (drop at l)) at h) in
      let t : length (drop at l') ≤ length l' - at = rw length-drop (omega arith) in
      take_all (length l' - at) (drop at l') t ∙ d

  pub cleared-front : take at l' ≡ take at l
  cleared-front = rw cleared (take_at (take at l) (replicate n 0 ++ drop n (drop at l)) at (length-take-le at l (omega arith)))

-- the part comes back changed
module _ (kind : ListKind) (list l l' ys b : List ℕ) (t u : Table) (ok : Bool) (fits : 8192 + length list ≤ length l) (e : l' ≡ store l 8192 (replicate (length list) 0)) (long : length ys ≡ length (take (length l' - 8192) (drop 8192 l'))) where
  front_length : length (take 8192 l') ≡ 8192
  front_length = rw (cleared-front l l' 8192 (length list) fits e) (length-take-le 8192 l (omega arith))

  pub entries-front : Listing (list_of kind list) t u (take (length l' - 8192) (drop 8192 l')) ys ok
      → Listing (list_of kind list) t u (replicate (length list) 0) (take (length list) (drop 8192 (take 8192 l' ++ (ys ++ b)))) ok
  entries-front k =
      let p = cleared-part l l' 8192 (length list) fits e in
      let n : length list ≤ length ys = rw (long, p, length-append, length-replicate) (omega arith) in
      rw (drop_at (take 8192 l') (ys ++ b) 8192 front_length, take-append-le (length list) ys b n) (listing-front kind list (drop (length list) (drop 8192 l)) ys t u ok (rw p at k))

-- a form's marks in the first 8,192 words leave the others as they were
pub front_kept : (o : Found) (a ys b : List ℕ) (n : ℕ) → length ys ≡ 8192 → n ≤ 8192 → Marked o a (take n ys) → Marked o a (take n (ys ++ b)) × (drop 8192 (ys ++ b) ≡ b)
front_kept o a ys b n e h k = (rw (take-append-le n ys b (omega arith)) k, drop_at ys b 8192 e)

pub listing-kept : (kind : ListKind) (list l l' : List ℕ) (t u : Table) (ok : Bool) → drop 8192 l' ≡ drop 8192 l → Listing (list_of kind list) t u (replicate (length list) 0) (take (length list) (drop 8192 l)) ok
    → Listing (list_of kind list) t u (replicate (length list) 0) (take (length list) (drop 8192 l')) ok
listing-kept kind list l l' t u ok e h = rw e h

-- marks past the row's end say nothing
pub items-take : (ws ms : List ℕ) → items ws (take (length ws) ms) ≡ items ws ms
unfolding items
items-take [] ms = refl
items-take (w ∷ ws) [] = refl
items-take (w ∷ ws) (zero ∷ ms) = ap (λ z. Plain w ∷ z) (items-take ws ms)
items-take (w ∷ []) (suc k ∷ ms) = refl
items-take (w ∷ v ∷ ws) (suc k ∷ []) = refl
items-take (w ∷ v ∷ ws) (suc k ∷ y ∷ ms) = ap (λ z. Ident k w v ∷ z) (items-take ws ms)
