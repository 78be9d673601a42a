-- What is printed of a node, from its own words and its children. Assumes nothing.
use mathlib.Core.Path.{◌≡◌, refl, ap, sym, ◌∙◌}
use mathlib.Core.Bool.{Bool, true, false, ◌&&◌}
use mathlib.Core.List.{List, [], ◌∷◌, ◌++◌, append_assoc, append-nil}
use Prim.Native.Nat.{ℕ, zero, suc, ◌+◌, ◌-◌, ◌*◌, ◌≤◌, ◌<◌}
use native.Mathlib.Numerals.{sub-one}
use native.Mathlib.Omega.{arith}
use lib.Dec.{leb}
use borrow.Author.Tests.{le-leb}
use lib.ListN.{length, get_or, take, drop, length-append, length-take, length-drop}
use lib.Seq.{take_at}
use Rattle.tree.specs.Form.{Leaf, free, bound, leaf, node, noted, Decls, any_typed, Forms, none, pick, encode, encode_decls, encode_all}
use Rattle.tree.specs.Tag.{Sort, expr, own_of, expr_tags, shape_of, own, sorts}
use Rattle.form.specs.Decode.{Head, head, flagged, bad, read, no-form, Gots, gots, no-forms, leaf_at, is_leaf, make, close, decode_all, GotDecls, declared, no-decls, decls, close_noted, with_decls, branch, decode}
use Rattle.form.specs.Internal.Heads.{head_at}
use Rattle.form.specs.Internal.Heads.{starts_leaf}
use Rattle.form.specs.declared.head.Head as code
use Rattle.form.specs.declared.head.Head.TheVariants.{Kids, Noted}
use Rattle.form.proofs.DecodeLaws.{clash, high-tag, read-exact, read_at, all_sound, made, flags-exact, flags-at}
use Rattle.form.proofs.HeadLaws.{gone}
use Rattle.form.proofs.LeafLaws.{two-words, leaf_room}
use Rattle.reader.proofs.ReaderLaws.{no_word, node-here}
use Rattle.spell.specs.Spell.{decimal, spaced, bracket, spell_leaf, spell, spell_decls, spell_all}
use Rattle.spell.specs.Put.{put}
use Rattle.spell.specs.Internal.Writes.{spot, Wrote, Printed, PrintedAll, PrintedTail, PrintedNoted}
use Rattle.spell.proofs.WriteLaws.{wrote-both, wrote-end, decimal-few, spaced-few}
use Rattle.spell.proofs.PrintLaws.{bad-printed, all-bad, row-is, out-is, same_end}
use Rattle.std.specs.Prelude.{None, Option, Some}
use Rattle.spell.specs.declared.print.Spot.{Spot}

-- the bracket, the tag and the words of a node
abbrev pub opening : ℕ → List ℕ → List ℕ
opening t ws = 91 ∷ (decimal t ++ spaced ws)

pub wrote-opening : (o p q r t : ℕ) (ws a b c e : List ℕ) → Wrote o (91 ∷ []) a b p → Wrote p (decimal t) b c q → Wrote q (spaced ws) c e r → Wrote o (opening t ws) a e r
wrote-opening o p q r t ws a b c e w v u = wrote-both o p r (91 ∷ []) _ a b e w (wrote-both p q r _ _ b c e v u)

pub opening-few : (o t n i : ℕ) (l a b : List ℕ) → Wrote o (opening t (take n l)) a b i → i ≤ o + 11 + 11 * n
opening-few o t n i l a b w =
    let e = wrote-end o i (opening t (take n l)) a b w in
    let f = length-append (decimal t) (spaced (take n l)) in
    let g = decimal-few t in
    let h = spaced-few (take n l) in
    let k = length-take n l in
    omega arith

bracket-is : (t : ℕ) (ws ks : List ℕ) → opening t ws ++ (ks ++ (93 ∷ [])) ≡ bracket t ws ks
unfolding bracket
bracket-is t ws ks = rw (append_assoc (decimal t))

pub wrote-leaf : (o p q i j r t w : ℕ) (a b c e f g : List ℕ) → Wrote o (91 ∷ []) a b p → Wrote p (decimal t) b c q → Wrote q (32 ∷ []) c e i → Wrote i (decimal w) e f j → Wrote j (93 ∷ []) f g r
    → Wrote o (bracket t (w ∷ []) []) a g r
unfolding bracket spaced
wrote-leaf o p q i j r t w a b c e f g x y z u v =
    let s = wrote-both q i r (32 ∷ []) _ c e g z (wrote-both i j r (decimal w) (93 ∷ []) e f g u v) in
    rw (append-nil (decimal w)) (wrote-both o p r (91 ∷ []) _ a b g x (wrote-both p q r (decimal t) _ b c g y s))

leaf-spell : (x : Leaf) (t : ℕ) (ws : List ℕ) → t ∷ ws ≡ encode (leaf x) → bracket t ws [] ≡ spell_leaf x
unfolding spell_leaf encode
leaf-spell (free n) t ws e =
    let a : t ≡ 1 = cc in
    let b : ws ≡ n ∷ [] = cc in
    rw (a, b)
leaf-spell (bound n) t ws e =
    let a : t ≡ 2 = cc in
    let b : ws ≡ n ∷ [] = cc in
    rw (a, b)

made-spell : (t : ℕ) (o ds : List ℕ) (ks : Forms) (b : Bool) (x : Leaf) → (b ≡ true → ks ≡ none)
    → t ∷ (o ++ (ds ++ encode_all ks)) ≡ encode (pick b (leaf x) (node t o ds ks)) → bracket t (o ++ ds) (spell_all ks) ≡ spell (pick b (leaf x) (node t o ds ks))
unfolding spell encode
made-spell t o ds ks true x l e = rw (l refl) (leaf-spell x t (o ++ ds) (rw (l refl, append-nil ds) at e))
made-spell t o ds ks false x l e = refl

module _ (s : Sort) (row : List ℕ) (at : ℕ) where
  pub too-deep : (d o : ℕ) (a b : List ℕ) → d ≡ 0 → Printed at o (decode d s (drop at row)) a b None
  unfolding decode
  too-deep d o a b e = bad-printed at o _ a b (rw e refl)

  pub past_end : (d o : ℕ) (a b : List ℕ) → length row ≤ at → Printed at o (decode d s (drop at row)) a b None
  past_end d o a b h = bad-printed at o _ a b (rw (gone row at h) (no_word d s))

  module _ (d t : ℕ) where
    close-printed : (o ds : List ℕ) (x y p i j k u q : ℕ) (m m₁ m₂ m₃ : List ℕ) (r : Option Spot) (g : Gots) → decode_all (λ s l. decode d s l) (sorts x y) (drop p row) ≡ g
        → ((l : List ℕ) → read (own s t) (o ++ (ds ++ l)) ≡ head o ds x y l) → p ≡ at + 1 + (length o + length ds) → Wrote u (opening t (o ++ ds)) m m₁ i
        → PrintedAll p i g m₁ m₂ r → r ≡ spot q j → Wrote j (93 ∷ []) m₂ m₃ k → Printed at u (close t o ds g) m m₃ (spot q k)
    unfolding Printed PrintedAll Wrote
    close-printed o ds x y p i j k u q m m₁ m₂ m₃ r (gots ks l) z h e w v c f =
        let (a, n) = all_sound d (sorts x y) (drop p row) ks l z in
        let (b, ok, only) = made d s t o ds x y ks (is_leaf t) refl h n in
        let ej : j ≡ i + length (spell_all ks) = out-is (sym c ∙ v.0) in
        let eq : q ≡ p + length (encode_all ks) = row-is (sym c ∙ v.0) in
        let all = wrote-both u i k (opening t (o ++ ds)) (spell_all ks ++ (93 ∷ [])) m m₁ m₃ w (wrote-both i j k (spell_all ks) (93 ∷ []) m₁ m₂ m₃ (ej, v.1) f) in
        let sp : opening t (o ++ ds) ++ (spell_all ks ++ (93 ∷ [])) ≡ spell (make t o ds ks) = bracket-is t (o ++ ds) (spell_all ks) ∙ made-spell t o ds ks (is_leaf t) (leaf_at t (get_or o 0 0)) only b in
        let len : length (encode (make t o ds ks)) ≡ suc (length o + (length ds + length (encode_all ks))) = rw (← b, length-append, length-append) refl in
        let ek : k ≡ u + length (spell (make t o ds ks)) = all.0 ∙ ap (λ n. u + length n) sp in
        let en : q ≡ at + length (encode (make t o ds ks)) = omega arith in
        (same_end _ _ _ _ en ek, all.1 ∙ ap (λ n. put m u n) sp)
    close-printed o ds x y p i j k u q m m₁ m₂ m₃ r no-forms z h e w v c f = absurd (clash cc)

    branch-printed : (z : Head) (x y w p i j k u q : ℕ) (m m₁ m₂ m₃ : List ℕ) (r : Option Spot) → read (own s t) (drop (at + 1) row) ≡ z → head_at (at + 1) z ≡ Some (Kids p x y w)
        → Wrote u (opening t (take (p - (at + 1)) (drop (at + 1) row))) m m₁ i
        → PrintedAll p i (decode_all (λ s l. decode d s l) (sorts x y) (drop p row)) m₁ m₂ r → r ≡ spot q j → Wrote j (93 ∷ []) m₂ m₃ k
        → Printed at u (branch (λ s l. decode d s l) t z) m m₃ (spot q k)
    unfolding head_at
    branch-printed (head o ds x' y' l) x y w p i j k u q m m₁ m₂ m₃ r z e v t' c f =
        let ep : p ≡ at + 1 + (length o + length ds) = cc in
        let ex : x' ≡ x = cc in
        let ey : y' ≡ y = cc in
        let (a, h) = read-exact (own s t) (drop (at + 1) row) o ds x' y' l z in
        let el : l ≡ drop p row = read_at (own s t) row (at + 1) o ds x' y' l z ∙ ap (λ n. drop n row) (sym ep) in
        let h' : (l : List ℕ) → read (own s t) (o ++ (ds ++ l)) ≡ head o ds x y l = λ l. h l ∙ cc in
        let n : length (o ++ ds) ≡ p - (at + 1) = length-append o ds ∙ omega arith in
        let ew : take (p - (at + 1)) (drop (at + 1) row) ≡ o ++ ds = ap (λ n. take (p - (at + 1)) n) (a ∙ sym (append_assoc o ds l)) ∙ take_at (o ++ ds) l (p - (at + 1)) n in
        rw (ex, ey, el) (close-printed o ds x y p i j k u q m m₁ m₂ m₃ r _ refl h' ep (rw ew at v) t' c f)
    branch-printed (flagged o n x' y' l) x y w p i j k u q m m₁ m₂ m₃ r z e v t' c f = absurd (clash cc)
    branch-printed bad x y w p i j k u q m m₁ m₂ m₃ r z e v t' c f = absurd (clash cc)

    branch-stop : (z : Head) (x y w p i u : ℕ) (m m₁ m₂ b : List ℕ) (r : Option Spot) → read (own s t) (drop (at + 1) row) ≡ z → head_at (at + 1) z ≡ Some (Kids p x y w)
        → PrintedAll p i (decode_all (λ s l. decode d s l) (sorts x y) (drop p row)) m₁ m₂ r → r ≡ None → Printed at u (branch (λ s l. decode d s l) t z) m b None
    unfolding head_at
    branch-stop (head o ds x' y' l) x y w p i u m m₁ m₂ b r z e v c =
        let ep : p ≡ at + 1 + (length o + length ds) = cc in
        let ex : x' ≡ x = cc in
        let ey : y' ≡ y = cc in
        let el : l ≡ drop p row = read_at (own s t) row (at + 1) o ds x' y' l z ∙ ap (λ n. drop n row) (sym ep) in
        bad-printed at u _ m b (rw (ex, ey, el, all-bad p i (decode_all (λ s l. decode d s l) (sorts x y) (drop p row)) m₁ m₂ r v c))
    branch-stop (flagged o n x' y' l) x y w p i u m m₁ m₂ b r z e v c = absurd (clash cc)
    branch-stop bad x y w p i u m m₁ m₂ b r z e v c = absurd (clash cc)

    branch-bad : (z : Head) (u : ℕ) (m b : List ℕ) → head_at (at + 1) z ≡ None → Printed at u (branch (λ s l. decode d s l) t z) m b None
    unfolding head_at
    branch-bad (head o ds x y l) u m b e = absurd (clash cc)
    branch-bad (flagged o n x y l) u m b e = absurd (clash cc)
    branch-bad bad u m b e = bad-printed at u no-form m b refl

  within : (k : ℕ) (z : Head) (p x y w : ℕ) → at < length row → read (own s k) (drop (at + 1) row) ≡ z → head_at (at + 1) z ≡ Some (Kids p x y w) → (at < p) × (p ≤ length row)
  unfolding head_at
  within k (head o ds x' y' l) p x y w low q e =
      let ep : p ≡ at + 1 + (length o + length ds) = cc in
      let (a, h) = read-exact (own s k) (drop (at + 1) row) o ds x' y' l q in
      let n = length-drop (at + 1) row in
      let m = ap length a ∙ length-append o (ds ++ l) in
      let v = length-append ds l in
      (omega arith, omega arith)
  within k (flagged o n x' y' l) p x y w low q e = absurd (clash cc)
  within k bad p x y w low q e = absurd (clash cc)

  -- a node whose declarations have flags
  module _ (d t : ℕ) where
    noted-bytes : (o : List ℕ) (ds : Decls) (ks : Forms) → opening t o ++ (spell_decls ds ++ (spell_all ks ++ (93 ∷ []))) ≡ spell (noted t o ds ks)
    unfolding spell
    noted-bytes o ds ks = rw (← append_assoc (spell_decls ds)) (bracket-is t o (spell_decls ds ++ spell_all ks))

    close-noted : (o : List ℕ) (ds : Decls) (p i u : ℕ) (m m₁ m₂ : List ℕ) (r : Option Spot) (g : Gots) (b : Bool) → any_typed ds ≡ b → p ≡ at + 1 + length o → Wrote u (opening t o) m m₁ i
        → pick b (PrintedTail (p + length (encode_decls ds)) i (spell_decls ds) g m₁ m₂ r) (r ≡ None) → Printed at u (close_noted t o ds g) m m₂ r
    unfolding Printed PrintedTail Wrote encode
    close-noted o ds p i u m m₁ m₂ r (gots ks l) true q e w k =
        let all = wrote-both u i (i + length (spell_decls ds ++ (spell_all ks ++ (93 ∷ [])))) (opening t o) (spell_decls ds ++ (spell_all ks ++ (93 ∷ []))) m m₁ m₂ w (refl, k.1) in
        let sp = noted-bytes o ds ks in
        let a = length-append o (encode_decls ds ++ encode_all ks) in
        let c = length-append (encode_decls ds) (encode_all ks) in
        rw q (k.0 ∙ same_end _ _ _ _ (omega arith) (all.0 ∙ ap (λ n. u + length n) sp), all.1 ∙ ap (λ n. put m u n) sp)
    close-noted o ds p i u m m₁ m₂ r no-forms true q e w k = k
    close-noted o ds p i u m m₁ m₂ r (gots ks l) false q e w k = rw q k
    close-noted o ds p i u m m₁ m₂ r no-forms false q e w k = k

    decls-printed : (o : List ℕ) (g : GotDecls) (x y p i u : ℕ) (m m₁ m₂ : List ℕ) (r : Option Spot) → p ≡ at + 1 + length o → Wrote u (opening t o) m m₁ i
        → PrintedNoted p i g (λ l. decode_all (λ s l. decode d s l) (sorts x y) l) m₁ m₂ r → Printed at u (with_decls (λ s l. decode d s l) t o x y g) m m₂ r
    unfolding PrintedNoted Printed
    decls-printed o (declared ds l) x y p i u m m₁ m₂ r e w k = close-noted o ds p i u m m₁ m₂ r (decode_all (λ s l. decode d s l) (sorts x y) l) (any_typed ds) refl e w k
    decls-printed o no-decls x y p i u m m₁ m₂ r e w k = k

    branch-noted : (z : Head) (x y w p i u : ℕ) (m m₁ m₂ : List ℕ) (r : Option Spot) → read (own s t) (drop (at + 1) row) ≡ z → head_at (at + 1) z ≡ Some (Noted p x y w)
        → Wrote u (opening t (take (p - (at + 1)) (drop (at + 1) row))) m m₁ i
        → PrintedNoted p i (decls (λ s l. decode d s l) w (drop p row)) (λ l. decode_all (λ s l. decode d s l) (sorts x y) l) m₁ m₂ r
        → Printed at u (branch (λ s l. decode d s l) t z) m m₂ r
    unfolding head_at
    branch-noted (head o ds x' y' l) x y w p i u m m₁ m₂ r z e v k = absurd (clash cc)
    branch-noted (flagged o n x' y' l) x y w p i u m m₁ m₂ r z e v k =
        let ep : p ≡ at + 1 + length o = cc in
        let ex : x' ≡ x = cc in
        let ey : y' ≡ y = cc in
        let en : n ≡ w = cc in
        let (a, h) = flags-exact (own s t) (drop (at + 1) row) o n x' y' l z in
        let el : l ≡ drop p row = flags-at (own s t) row (at + 1) o n x' y' l z ∙ ap (λ n. drop n row) (sym ep) in
        let len : length o ≡ p - (at + 1) = omega arith in
        let ew : take (p - (at + 1)) (drop (at + 1) row) ≡ o = ap (λ n. take (p - (at + 1)) n) a ∙ take_at o l (p - (at + 1)) len in
        rw (ex, ey, en, el) (decls-printed o _ x y p i u m m₁ m₂ r ep (rw ew at v) k)
    branch-noted bad x y w p i u m m₁ m₂ r z e v k = absurd (clash cc)

  within-noted : (k : ℕ) (z : Head) (p x y w : ℕ) → at < length row → read (own s k) (drop (at + 1) row) ≡ z → head_at (at + 1) z ≡ Some (Noted p x y w) → (at < p) × (p ≤ length row)
  unfolding head_at
  within-noted k (head o ds x' y' l) p x y w low q e = absurd (clash cc)
  within-noted k (flagged o n' x' y' l) p x y w low q e =
      let ep : p ≡ at + 1 + length o = cc in
      let (a, h) = flags-exact (own s k) (drop (at + 1) row) o n' x' y' l q in
      let n = length-drop (at + 1) row in
      let m = ap length a ∙ length-append o l in
      (omega arith, omega arith)
  within-noted k bad p x y w low q e = absurd (clash cc)

  module _ {h : Option code.Head} (low : at < length row) (hd : h ≡ head_at (at + 1) (read (own s (get_or row at 0)) (drop (at + 1) row))) where
    pub no_own : (d o : ℕ) (a b : List ℕ) → (d ≡ 0 → ⊥) → h ≡ None → Printed at o (decode d s (drop at row)) a b None
    no_own zero o a b ne e = absurd (ne refl)
    no_own (suc d) o a b ne e = rw (node-here d s row at low) (branch-bad d (get_or row at 0) _ o a b (sym hd ∙ e))

    pub kids-stop : (d p x y w i u : ℕ) (m m₁ m₂ b : List ℕ) (r : Option Spot) → (d ≡ 0 → ⊥) → h ≡ Some (Kids p x y w)
        → PrintedAll p i (decode_all (λ s l. decode (d - 1) s l) (sorts x y) (drop p row)) m₁ m₂ r → r ≡ None → Printed at u (decode d s (drop at row)) m b None
    kids-stop zero p x y w i u m m₁ m₂ b r ne e t c = absurd (ne refl)
    kids-stop (suc d) p x y w i u m m₁ m₂ b r ne e t c = rw (node-here d s row at low) (branch-stop d (get_or row at 0) _ x y w p i u m m₁ m₂ b r refl (sym hd ∙ e) (rw sub-one at t) c)

    pub a-form : (d p x y w i j k u q : ℕ) (m m₁ m₂ m₃ : List ℕ) (r : Option Spot) → (d ≡ 0 → ⊥) → h ≡ Some (Kids p x y w)
        → Wrote u (opening (get_or row at 0) (take (p - (at + 1)) (drop (at + 1) row))) m m₁ i
        → PrintedAll p i (decode_all (λ s l. decode (d - 1) s l) (sorts x y) (drop p row)) m₁ m₂ r → r ≡ spot q j → Wrote j (93 ∷ []) m₂ m₃ k
        → Printed at u (decode d s (drop at row)) m m₃ (spot q k)
    a-form zero p x y w i j k u q m m₁ m₂ m₃ r ne e v t c f = absurd (ne refl)
    a-form (suc d) p x y w i j k u q m m₁ m₂ m₃ r ne e v t c f =
        rw (node-here d s row at low) (branch-printed d (get_or row at 0) _ x y w p i j k u q m m₁ m₂ m₃ r refl (sym hd ∙ e) v (rw sub-one at t) c f)

    pub a-noted : (d p x y w i u : ℕ) (m m₁ m₂ : List ℕ) (r : Option Spot) → (d ≡ 0 → ⊥) → h ≡ Some (Noted p x y w)
        → Wrote u (opening (get_or row at 0) (take (p - (at + 1)) (drop (at + 1) row))) m m₁ i
        → PrintedNoted p i (decls (λ s l. decode (d - 1) s l) w (drop p row)) (λ l. decode_all (λ s l. decode (d - 1) s l) (sorts x y) l) m₁ m₂ r → Printed at u (decode d s (drop at row)) m m₂ r
    a-noted zero p x y w i u m m₁ m₂ r ne e v t = absurd (ne refl)
    a-noted (suc d) p x y w i u m m₁ m₂ r ne e v t = rw (node-here d s row at low) (branch-noted d (get_or row at 0) _ x y w p i u m m₁ m₂ r refl (sym hd ∙ e) v (rw sub-one at t))

    pub flags-within : (p x y w : ℕ) → h ≡ Some (Noted p x y w) → (at < p) × (p ≤ length row)
    flags-within p x y w e = within-noted (get_or row at 0) _ p x y w low refl (sym hd ∙ e)

    pub kids-within : (p x y w : ℕ) → h ≡ Some (Kids p x y w) → (at < p) × (p ≤ length row)
    kids-within p x y w e = within (get_or row at 0) _ p x y w low refl (sym hd ∙ e)

-- a name or an index
module _ (row : List ℕ) (at d : ℕ) where
  pub leaf-printed : (o r : ℕ) (a b : List ℕ) → starts_leaf d (drop at row) ≡ true → Wrote o (bracket (get_or row at 0) (get_or row (at + 1) 0 ∷ []) []) a b r
      → Printed at o (decode d expr (drop at row)) a b (spot (at + 2) r)
  unfolding decode decode_all read own own_of shape_of expr_tags Printed Wrote encode spell spell_leaf starts_leaf
  leaf-printed o r a b e w = rw (two-words row at d (leaf_room row at d e).1) (go d (get_or row at 0) (get_or row (at + 1) 0) _ (rw (two-words row at d (leaf_room row at d e).1) at e) w)
    where
      word-printed : (t d w : ℕ) (ws : List ℕ) → is_leaf t ≡ true → leb w 65535 ≡ true → Wrote o (bracket t (w ∷ []) []) a b r → Printed at o (decode (suc d) expr (t ∷ w ∷ ws)) a b (spot (at + 2) r)
      word-printed zero d w ws l e h = absurd (clash cc)
      word-printed (suc zero) d w ws l e h = rw (le-leb 0 w (omega arith), e) (rw h.0, h.1)
      word-printed (suc (suc zero)) d w ws l e h = rw (le-leb 0 w (omega arith), e) (rw h.0, h.1)
      word-printed (suc (suc (suc t))) d w ws l e h = let q = high-tag t in absurd (clash cc)

      both : (t d w : ℕ) (ws : List ℕ) (x y : Bool) → is_leaf t ≡ x → leb w 65535 ≡ y → (x && y) ≡ true → Wrote o (bracket t (w ∷ []) []) a b r → Printed at o (decode (suc d) expr (t ∷ w ∷ ws)) a b (spot (at + 2) r)
      both t d w ws true true l e k h = word-printed t d w ws l e h
      both t d w ws true false l e k h = absurd (clash cc)
      both t d w ws false y l e k h = absurd (clash cc)

      go : (d t w : ℕ) (ws : List ℕ) → starts_leaf d (t ∷ w ∷ ws) ≡ true → Wrote o (bracket t (w ∷ []) []) a b r → Printed at o (decode d expr (t ∷ w ∷ ws)) a b (spot (at + 2) r)
      go zero t w ws e h = absurd (clash cc)
      go (suc d) t w ws e h = both t d w ws (is_leaf t) (leb w 65535) refl refl (rw (le-leb 1 (suc d) (omega arith)) at e) h
