-- What the reader of names writes of a node, from its own words, its declarations and its children. Assumes nothing.
use mathlib.Core.Path.{◌≡◌, refl, ap, sym, ◌∙◌}
use mathlib.Core.Bool.{Bool, true, false}
use mathlib.Core.List.{List, ◌∷◌, ◌++◌, append_assoc}
use Prim.Native.Nat.{ℕ, zero, suc, ◌+◌, ◌-◌, ◌≤◌, ◌<◌}
use native.Mathlib.Numerals.{sub-one}
use native.Mathlib.Omega.{arith}
use lib.ListN.{length, get_or, take, drop, length-append, length-drop}
use lib.Seq.{take_at, drop_at, drop-drop, length-take-le}
use Rattle.tree.specs.Form.{Decls, names_of, any_typed, pick, encode, encode_decls, encode_all}
use Rattle.tree.specs.Tag.{Sort, own, sorts}
use Rattle.form.specs.Decode.{Head, head, flagged, bad, read, Got, no-form, Gots, gots, no-forms, GotDecls, declared, no-decls, decode_all, decls, is_leaf, close, close_noted, with_decls, branch, decode}
use Rattle.form.specs.Internal.Heads.{head_at}
use Rattle.form.specs.declared.head.Head as code
use Rattle.form.specs.declared.head.Head.TheVariants.{Kids, Noted}
use Rattle.rules.specs.Named.{opened, nameless, nameless_all, nameless_decls}
use Rattle.shift.specs.Internal.Items.{store}
use Rattle.named.specs.Internal.Reads.{indexless, read_names, Wrote, WroteAll, WroteUnder, WroteNoted}
use Rattle.form.proofs.DecodeLaws.{clash, high-tag, read-exact, read_at, flags-exact, flags-at}
use Rattle.form.proofs.HeadLaws.{gone, here, few-names, few-decls}
use Rattle.reader.proofs.ReaderLaws.{no_word, node-here}
use Rattle.shift.proofs.ItemLaws.{store-append}
use Rattle.named.proofs.ReadLaws.{branch-indexless}
use Rattle.named.proofs.WroteLaws.{bad-wrote}
use Rattle.std.specs.Prelude.{Some, None, Option}

pub too-deep : (s : Sort) (row : List ℕ) (at : ℕ) (S : List ℕ) (d : ℕ) (a b : List ℕ) → d ≡ 0 → Wrote at S (read_names d s (drop at row)) a b None
unfolding read_names decode
too-deep s row at S d a b e = bad-wrote at S _ a b (rw e refl)

pub past_end : (s : Sort) (row : List ℕ) (at : ℕ) (S : List ℕ) (d : ℕ) (a b : List ℕ) → length row ≤ at → Wrote at S (read_names d s (drop at row)) a b None
unfolding read_names
past_end s row at S d a b h = bad-wrote at S _ a b (rw (gone row at h, no_word d s) refl)

inner-tag : (t : ℕ) → 2 < t → is_leaf t ≡ false
inner-tag zero h = absurd (omega arith)
inner-tag (suc zero) h = absurd (omega arith)
inner-tag (suc (suc zero)) h = absurd (omega arith)
inner-tag (suc (suc (suc t))) h = high-tag t

-- the own words of a node, cut out of the row
module _ (row : List ℕ) (at t : ℕ) (o ds l : List ℕ) (w : drop at row ≡ t ∷ (o ++ (ds ++ l))) where
  front : (p : ℕ) → p ≡ at + 1 + (length o + length ds) → take (p - at) (drop at row) ≡ t ∷ (o ++ ds)
  front p e =
      let k : p - at ≡ suc (length o + length ds) = omega arith in
      let n : length (t ∷ (o ++ ds)) ≡ p - at = rw (length-append, k) refl in
      rw (w, ← append_assoc o ds l) (take_at (t ∷ (o ++ ds)) l (p - at) n)

  names-cut : (p n : ℕ) → p ≡ at + 1 + (length o + length ds) → n ≡ length ds → take (p - (p - n)) (drop (p - n) row) ≡ ds
  names-cut p n e k =
      let i : p - (p - n) ≡ length ds = omega arith in
      let j : p - n ≡ at + suc (length o) = omega arith in
      let q : length (t ∷ o) ≡ suc (length o) = refl in
      rw (i, j, ← drop-drop (suc (length o)) at row, w, drop_at (t ∷ o) (ds ++ l) (suc (length o)) q) (take_at ds l (length ds) refl)

part_length : (row : List ℕ) (p n : ℕ) → n ≤ p → p ≤ length row → length (take (p - (p - n)) (drop (p - n) row)) ≡ n
part_length row p n h l =
    let k = length-drop (p - n) row in
    let e : p - (p - n) ≡ n = omega arith in
    rw e (length-take-le n (drop (p - n) row) (omega arith))

-- the words of a node written one after another
node-words : (a : List ℕ) (at t : ℕ) (o ds e : List ℕ) → store (store a at (t ∷ (o ++ ds))) (at + suc (length o + length ds)) e ≡ store a at (t ∷ (o ++ (ds ++ e)))
node-words a at t o ds e =
    let k : length (t ∷ (o ++ ds)) ≡ suc (length o + length ds) = ap suc (length-append o ds) in
    sym (ap (λ z. store a at (t ∷ z)) (sym (append_assoc o ds e)) ∙ (store-append a at (t ∷ (o ++ ds)) e ∙ ap (λ n. store (store a at (t ∷ (o ++ ds))) (at + n) e) k))

module _ (s : Sort) (row : List ℕ) (at : ℕ) (S : List ℕ) (low : at < length row) (inner : 2 < get_or row at 0) where
  abbrev t : ℕ
  t = get_or row at 0

  module _ (d : ℕ) where
    abbrev N : Sort → List ℕ → Got
    N s l = read_names d s l

    name-node : read_names (suc d) s (drop at row) ≡ branch N t (read (own s t) (drop (at + 1) row))
    unfolding read_names
    name-node = ap indexless (node-here d s row at low) ∙ sym (branch-indexless d t (inner-tag t inner) (read (own s t) (drop (at + 1) row)))

    close-wrote : (o ds l : List ℕ) (p : ℕ) (a b : List ℕ) (r : Option ℕ) (g : Gots) → p ≡ at + 1 + (length o + length ds)
        → WroteAll p (opened ds S) g (store a at (t ∷ (o ++ ds))) b r → Wrote at S (close t o ds g) a b r
    unfolding Wrote WroteAll nameless encode
    close-wrote o ds l p a b r (gots ks x) e k =
        let i : at + suc (length o + length ds) ≡ p = omega arith in
        rw (inner-tag t inner)
        (k.0 ∙ ap Some (rw (length-append, length-append) (omega arith)), k.1 ∙ (rw (← i) (node-words a at t o ds (encode_all (nameless_all (opened ds S) ks)))))
    close-wrote o ds l p a b r no-forms e k = k

    branch-wrote : (z : Head) (x y w p : ℕ) (a b : List ℕ) (r : Option ℕ) → read (own s t) (drop (at + 1) row) ≡ z → head_at (at + 1) z ≡ Some (Kids p x y w)
        → WroteAll p (opened (take (p - (p - w)) (drop (p - w) row)) S) (decode_all N (sorts x y) (drop p row)) (store a at (take (p - at) (drop at row))) b r → Wrote at S (branch N t z) a b r
    unfolding head_at
    branch-wrote (head o ds x' y' l) x y w p a b r q e k =
        let ep : p ≡ at + 1 + (length o + length ds) = cc in
        let ex : x' ≡ x = cc in
        let ey : y' ≡ y = cc in
        let ew : w ≡ length ds = cc in
        let (v, h) = read-exact (own s t) (drop (at + 1) row) o ds x' y' l q in
        let words : drop at row ≡ t ∷ (o ++ (ds ++ l)) = here row at low ∙ ap (λ z. t ∷ z) v in
        let el : l ≡ drop p row = read_at (own s t) row (at + 1) o ds x' y' l q ∙ ap (λ n. drop n row) (sym ep) in
        rw (ex, ey, el) (close-wrote o ds l p a b r _ ep (rw (names-cut row at t o ds l words p w ep ew, front row at t o ds l words p ep) at k))
    branch-wrote (flagged o n x' y' l) x y w p a b r q e k = absurd (clash cc)
    branch-wrote bad x y w p a b r q e k = absurd (clash cc)

    -- a node whose declarations have flags
    close-noted : (o : List ℕ) (ds : Decls) (p : ℕ) (a b : List ℕ) (r : Option ℕ) (g : Gots) (c : Bool) → any_typed ds ≡ c → p ≡ at + 1 + length o
        → pick c (WroteUnder p S ds g (store a at (t ∷ o)) b r) (r ≡ None) → Wrote at S (close_noted t o ds g) a b r
    unfolding Wrote WroteUnder nameless encode
    close-noted o ds p a b r (gots ks x) true q e k =
        let i : at + suc (length o) ≡ p = omega arith in
        let words = encode_decls (nameless_decls S ds) ++ encode_all (nameless_all (opened (names_of ds) S) ks) in
        rw q
        (k.0 ∙ ap Some (rw (length-append, length-append) (omega arith)), k.1 ∙ (rw (← i) (sym (store-append a at (t ∷ o) words))))
    close-noted o ds p a b r no-forms true q e k = k
    close-noted o ds p a b r (gots ks x) false q e k = rw q k
    close-noted o ds p a b r no-forms false q e k = k

    decls-wrote : (o : List ℕ) (g : GotDecls) (x y p : ℕ) (a b : List ℕ) (r : Option ℕ) → p ≡ at + 1 + length o
        → WroteNoted p S g (λ l. decode_all N (sorts x y) l) (store a at (t ∷ o)) b r → Wrote at S (with_decls N t o x y g) a b r
    unfolding WroteNoted
    decls-wrote o (declared ds l) x y p a b r e k = close-noted o ds p a b r (decode_all N (sorts x y) l) (any_typed ds) refl e k
    decls-wrote o no-decls x y p a b r e k = rw k (bad-wrote at S no-form a b refl)

    branch-noted : (z : Head) (x y w p : ℕ) (a b : List ℕ) (r : Option ℕ) → read (own s t) (drop (at + 1) row) ≡ z → head_at (at + 1) z ≡ Some (Noted p x y w)
        → WroteNoted p S (decls N w (drop p row)) (λ l. decode_all N (sorts x y) l) (store a at (take (p - at) (drop at row))) b r → Wrote at S (branch N t z) a b r
    unfolding head_at
    branch-noted (head o ds x' y' l) x y w p a b r q e k = absurd (clash cc)
    branch-noted (flagged o n x' y' l) x y w p a b r q e k =
        let ep : p ≡ at + 1 + length o = cc in
        let ex : x' ≡ x = cc in
        let ey : y' ≡ y = cc in
        let ew : n ≡ w = cc in
        let (v, h) = flags-exact (own s t) (drop (at + 1) row) o n x' y' l q in
        let words : drop at row ≡ t ∷ (o ++ l) = here row at low ∙ ap (λ z. t ∷ z) v in
        let len : length (t ∷ o) ≡ p - at = let z : p - at ≡ suc (length o) = omega arith in sym z in
        let cut : take (p - at) (drop at row) ≡ t ∷ o = rw words (take_at (t ∷ o) l (p - at) len) in
        let el : l ≡ drop p row = flags-at (own s t) row (at + 1) o n x' y' l q ∙ ap (λ n. drop n row) (sym ep) in
        rw (ex, ey, ew, el) (decls-wrote o _ x y p a b r ep (rw cut at k))
    branch-noted bad x y w p a b r q e k = absurd (clash cc)

    branch-bad : (z : Head) (a b : List ℕ) → head_at (at + 1) z ≡ None → Wrote at S (branch N t z) a b None
    unfolding head_at
    branch-bad (head o ds x y l) a b e = absurd (clash cc)
    branch-bad (flagged o n x y l) a b e = absurd (clash cc)
    branch-bad bad a b e = bad-wrote at S no-form a b refl

  module _ {h : Option code.Head} (hd : h ≡ head_at (at + 1) (read (own s t) (drop (at + 1) row))) where
    pub a-node : (d p x y w : ℕ) (a a₁ b : List ℕ) (r : Option ℕ) → (d ≡ 0 → ⊥) → h ≡ Some (Kids p x y w) → a₁ ≡ store a at (take (p - at) (drop at row))
        → WroteAll p (opened (take (p - (p - w)) (drop (p - w) row)) S) (decode_all (λ s l. read_names (d - 1) s l) (sorts x y) (drop p row)) a₁ b r → Wrote at S (read_names d s (drop at row)) a b r
    a-node zero p x y w a a₁ b r ne e m k = absurd (ne refl)
    a-node (suc d) p x y w a a₁ b r ne e m k = rw (name-node d) (branch-wrote d _ x y w p a b r refl (sym hd ∙ e) (rw (sub-one, m) at k))

    pub a-noted : (d p x y w : ℕ) (a a₁ b : List ℕ) (r : Option ℕ) → (d ≡ 0 → ⊥) → h ≡ Some (Noted p x y w) → a₁ ≡ store a at (take (p - at) (drop at row))
        → WroteNoted p S (decls (λ s l. read_names (d - 1) s l) w (drop p row)) (λ l. decode_all (λ s l. read_names (d - 1) s l) (sorts x y) l) a₁ b r → Wrote at S (read_names d s (drop at row)) a b r
    a-noted zero p x y w a a₁ b r ne e m k = absurd (ne refl)
    a-noted (suc d) p x y w a a₁ b r ne e m k = rw (name-node d) (branch-noted d _ x y w p a b r refl (sym hd ∙ e) (rw (sub-one, m) at k))

    pub no_node : (d : ℕ) (a b : List ℕ) → (d ≡ 0 → ⊥) → h ≡ None → Wrote at S (read_names d s (drop at row)) a b None
    no_node zero a b ne e = absurd (ne refl)
    no_node (suc d) a b ne e = rw (name-node d) (branch-bad d _ a b (sym hd ∙ e))

    -- the children begin after the node's own words and names, within the row
    pub kids-after : (p x y w : ℕ) → h ≡ Some (Kids p x y w) → (at + 1 + w ≤ p) × (p ≤ length row) × (w ≤ 32) × (length (take (p - (p - w)) (drop (p - w) row)) ≡ w)
    unfolding head_at
    kids-after p x y w e = go (read (own s t) (drop (at + 1) row)) refl (sym hd ∙ e)
      where
        go : (z : Head) → read (own s t) (drop (at + 1) row) ≡ z → head_at (at + 1) z ≡ Some (Kids p x y w) → (at + 1 + w ≤ p) × (p ≤ length row) × (w ≤ 32) × (length (take (p - (p - w)) (drop (p - w) row)) ≡ w)
        go (head o ds x' y' l) q e =
            let ep : p ≡ at + 1 + (length o + length ds) = cc in
            let ew : w ≡ length ds = cc in
            let (v, k) = read-exact (own s t) (drop (at + 1) row) o ds x' y' l q in
            let n = ap length v ∙ (length-append o (ds ++ l) ∙ ap (λ j. length o + j) (length-append ds l)) in
            let m = length-drop (at + 1) row in
            let f = few-names s t (drop (at + 1) row) o ds x' y' l q in
            (omega arith, omega arith, omega arith, part_length row p w (omega arith) (omega arith))
        go (flagged o n x' y' l) q e = absurd (clash cc)
        go bad q e = absurd (clash cc)

    pub flags-after : (p x y w : ℕ) → h ≡ Some (Noted p x y w) → (at < p) × (p ≤ length row) × (w ≤ 32)
    unfolding head_at
    flags-after p x y w e = go (read (own s t) (drop (at + 1) row)) refl (sym hd ∙ e)
      where
        go : (z : Head) → read (own s t) (drop (at + 1) row) ≡ z → head_at (at + 1) z ≡ Some (Noted p x y w) → (at < p) × (p ≤ length row) × (w ≤ 32)
        go (head o ds x' y' l) q e = absurd (clash cc)
        go (flagged o n x' y' l) q e =
            let ep : p ≡ at + 1 + length o = cc in
            let ew : n ≡ w = cc in
            let (v, k) = flags-exact (own s t) (drop (at + 1) row) o n x' y' l q in
            let i = ap length v ∙ length-append o l in
            let m = length-drop (at + 1) row in
            let f = few-decls s t (drop (at + 1) row) o n x' y' l q in
            (omega arith, omega arith, omega arith)
        go bad q e = absurd (clash cc)
