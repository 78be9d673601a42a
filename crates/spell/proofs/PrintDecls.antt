-- What the printers of declarations with flags write. Assumes nothing.
use mathlib.Core.Path.{◌≡◌, refl, ap, sym, ◌∙◌}
use mathlib.Core.Bool.{Bool, true, false}
use mathlib.Core.List.{List, [], ◌∷◌, ◌++◌, append_assoc}
use Prim.Native.Nat.{ℕ, zero, suc, ◌+◌, ◌-◌, ◌*◌, ◌^◌, ◌≤◌, ◌<◌}
use native.Mathlib.Numerals.{sub-one}
use native.Mathlib.Omega.{arith}
use lib.ListN.{length, take, drop, length-append, length-drop, length-take}
use Rattle.tree.specs.Form.{Form, Decls, any_typed, pick, encode, encode_decls}
use Rattle.tree.specs.Tag.{Sort, expr}
use Rattle.form.specs.Decode.{Got, got, no-form, Gots, GotDecl, got_bare, got_typed, no-decl, note_of, decl_at, GotDecls, declared, no-decls, add_bare, add_typed, add_decl, decls, decode}
use Rattle.form.specs.Internal.Heads.{word_at}
use Rattle.form.proofs.HeadLaws.{word-is, next-drop}
use Rattle.form.proofs.DecodeLaws.{clash, decode-sound, DeclSound, decl-sound, decls-sound, decls-at, bare-at, typed_at}
use Rattle.reader.proofs.DeclReads.{no_name, no_flag, decl-words, flag_one, none-typed, some-typed}
use Rattle.spell.specs.Spell.{spaced, spell, spell_decls, spell_all}
use Rattle.spell.specs.Put.{put}
use Rattle.spell.specs.Internal.Writes.{spot, Wrote, Printed, PrintedAll, PrintedDecl, PrintedDecls, PrintedTail, PrintedNoted}
use Rattle.spell.proofs.WriteLaws.{wrote-both, spaced-few}
use Rattle.spell.proofs.PrintLaws.{spell-few, spell_decls-few, row-is, out-is, same_end, all_end, all-bad}
use Rattle.std.specs.Prelude.{None, Option, Some}
use Rattle.spell.specs.declared.print.Spot.{Spot}

-- declarations with flags: one, several, and the children after them
pub spaced-two : (p o i : ℕ) (l a b : List ℕ) → Wrote o (spaced (take (p + 2 - p) l)) a b i → i ≤ o + 22
unfolding Wrote
spaced-two p o i l a b w =
    let e = w.0 in
    let h = spaced-few (take (p + 2 - p) l) in
    let k = length-take (p + 2 - p) l in
    omega arith

module _ (d : ℕ) (row : List ℕ) where
  abbrev R : Sort → List ℕ → Got
  R s l = decode d s l

  bad-decl : (p o : ℕ) (g : GotDecl) (a b : List ℕ) → g ≡ no-decl → PrintedDecl p o g a b None
  unfolding PrintedDecl
  bad-decl p o g a b e = rw e refl

  pub decl-no-name : (p o : ℕ) (a b : List ℕ) → word_at 0 65535 (drop p row) ≡ None → PrintedDecl p o (decl_at R (drop p row)) a b None
  decl-no-name p o a b e = bad-decl p o _ a b (no_name d row 0 (drop p row) e)

  pub decl-no-flag : (p w o : ℕ) (a b : List ℕ) → word_at 0 65535 (drop p row) ≡ Some w → word_at 0 1 (drop (p + 1) row) ≡ None → PrintedDecl p o (decl_at R (drop p row)) a b None
  decl-no-flag p w o a b e f =
      let (ws, q, k) = word-is 0 65535 (drop p row) w e in
      bad-decl p o _ a b (rw q (no_flag d row 0 w ws (rw (next-drop row p w ws q) f)))

  -- the two words
  two-are : (p w x : ℕ) → word_at 0 65535 (drop p row) ≡ Some w → word_at 0 1 (drop (p + 1) row) ≡ Some x → take 2 (drop p row) ≡ w ∷ x ∷ []
  two-are p w x e f =
      let (ws, q, k) = word-is 0 65535 (drop p row) w e in
      let (vs, r, j) = word-is 0 1 (drop (p + 1) row) x f in
      let y : ws ≡ x ∷ vs = next-drop row p w ws q ∙ r in
      rw (q, y)

  pub decl-bare : (p w x o i : ℕ) (a b : List ℕ) → word_at 0 65535 (drop p row) ≡ Some w → word_at 0 1 (drop (p + 1) row) ≡ Some x → x ≡ 0
      → Wrote o (spaced (take (p + 2 - p) (drop p row))) a b i → PrintedDecl p o (decl_at R (drop p row)) a b (spot (p + 2) i)
  unfolding PrintedDecl Wrote
  decl-bare p w x o i a b e f z v =
      let n : p + 2 - p ≡ 2 = omega arith in
      let y : take 2 (drop p row) ≡ w ∷ 0 ∷ [] = two-are p w x e f ∙ ap (λ q. w ∷ q ∷ []) z in
      let u : (i ≡ o + length (spaced (w ∷ 0 ∷ []))) × (b ≡ put a o (spaced (w ∷ 0 ∷ []))) = rw (n, y) at v in
      rw (decl-words d row 0 p w x e f, z) (same_end _ _ _ _ refl u.0, u.1)

  note-printed : (p w o i k : ℕ) (g : Got) (a a₁ a₂ b : List ℕ) (r : Option Spot) → Wrote o (spaced (w ∷ 1 ∷ [])) a a₁ i → Wrote i (32 ∷ []) a₁ a₂ k → Printed (p + 2) k g a₂ b r → PrintedDecl p o (note_of w g) a b r
  unfolding PrintedDecl Printed Wrote
  note-printed p w o i k (got f l) a a₁ a₂ b r v u t =
      let all = wrote-both o i (k + length (spell f)) (spaced (w ∷ 1 ∷ [])) (32 ∷ spell f) a a₁ b v (wrote-both i k _ (32 ∷ []) (spell f) a₁ a₂ b u (refl, t.1)) in
      (t.0 ∙ same_end _ _ _ _ refl all.0, all.1)
  note-printed p w o i k no-form a a₁ a₂ b r v u t = t

  pub decl-typed : (p w x o i k : ℕ) (a a₁ a₂ b : List ℕ) (r : Option Spot) → word_at 0 65535 (drop p row) ≡ Some w → word_at 0 1 (drop (p + 1) row) ≡ Some x → (x ≡ 0 → ⊥)
      → Wrote o (spaced (take (p + 2 - p) (drop p row))) a a₁ i → Wrote i (32 ∷ []) a₁ a₂ k → Printed (p + 2) k (decode d expr (drop (p + 2) row)) a₂ b r → PrintedDecl p o (decl_at R (drop p row)) a b r
  decl-typed p w x o i k a a₁ a₂ b r e f n v u t =
      let (vs, q, j) = word-is 0 1 (drop (p + 1) row) x f in
      let z : x ≡ 1 = flag_one d row 0 w x vs (rw q at f) n in
      let m : p + 2 - p ≡ 2 = omega arith in
      let y : take 2 (drop p row) ≡ w ∷ 1 ∷ [] = two-are p w x e f ∙ ap (λ q. w ∷ q ∷ []) z in
      rw (decl-words d row 0 p w x e f, z) (note-printed p w o i k _ a a₁ a₂ b r (rw (m, y) at v) u t)

  -- several
  bad-decls : (p o : ℕ) (g : GotDecls) (a b : List ℕ) → g ≡ no-decls → PrintedDecls p o g a b None
  unfolding PrintedDecls
  bad-decls p o g a b e = rw e refl

  decl-bad : (p o : ℕ) (g : GotDecl) (a b : List ℕ) (r : Option Spot) → PrintedDecl p o g a b r → r ≡ None → g ≡ no-decl
  unfolding PrintedDecl
  decl-bad p o (got_bare w x) a b r t e = let z = t.0 in absurd (clash cc)
  decl-bad p o (got_typed w f x) a b r t e = let z = t.0 in absurd (clash cc)
  decl-bad p o no-decl a b r t e = refl

  put-bare : (p q w o j : ℕ) (z : GotDecls) (a a' b : List ℕ) (r : Option Spot) → q ≡ p + 2 → Wrote o (spaced (w ∷ 0 ∷ [])) a a' j → PrintedDecls q j z a' b r → PrintedDecls p o (add_bare w z) a b r
  unfolding PrintedDecls encode spell Wrote
  put-bare p q w o j (declared ds y) a a' b r e v h =
      let all = wrote-both o j (j + length (spell_decls ds)) (spaced (w ∷ 0 ∷ [])) (spell_decls ds) a a' b v (refl, h.1) in
      (h.0 ∙ same_end _ _ _ _ (omega arith) all.0, all.1)
  put-bare p q w o j no-decls a a' b r e v h = h

  put_typed : (p q w o j : ℕ) (f : Form) (z : GotDecls) (a a' b : List ℕ) (r : Option Spot) → q ≡ p + 2 + length (encode f) → Wrote o (spaced (w ∷ 1 ∷ []) ++ (32 ∷ spell f)) a a' j
      → PrintedDecls q j z a' b r → PrintedDecls p o (add_typed w f z) a b r
  unfolding PrintedDecls encode spell Wrote
  put_typed p q w o j f (declared ds y) a a' b r e v h =
      let all = wrote-both o j (j + length (spell_decls ds)) (spaced (w ∷ 1 ∷ []) ++ (32 ∷ spell f)) (spell_decls ds) a a' b v (refl, h.1) in
      let s : (spaced (w ∷ 1 ∷ []) ++ (32 ∷ spell f)) ++ spell_decls ds ≡ spaced (w ∷ 1 ∷ []) ++ (32 ∷ (spell f ++ spell_decls ds)) = append_assoc (spaced (w ∷ 1 ∷ [])) (32 ∷ spell f) (spell_decls ds) in
      let n = length-append (encode f) (encode_decls ds) in
      (h.0 ∙ same_end _ _ _ _ (omega arith) (all.0 ∙ ap (λ z. o + length z) s), all.1 ∙ ap (λ z. put a o z) s)
  put_typed p q w o j f no-decls a a' b r e v h = h

  add-decls : (p q o j : ℕ) (g : GotDecl) (k : List ℕ → GotDecls) (a a' b : List ℕ) (r r' : Option Spot) → decl_at R (drop p row) ≡ g → PrintedDecl p o g a a' r → r ≡ spot q j
      → PrintedDecls q j (k (drop q row)) a' b r' → PrintedDecls p o (add_decl g k) a b r'
  unfolding PrintedDecl Wrote
  add-decls p q o j (got_bare w x) k a a' b r r' i t e h =
      let z : q ≡ p + 2 = row-is (sym e ∙ t.0) in
      let v : j ≡ o + length (spaced (w ∷ 0 ∷ [])) = out-is (sym e ∙ t.0) in
      let y : x ≡ drop q row = bare-at d row p w x i ∙ ap (λ n. drop n row) (sym z) in
      rw y (put-bare p q w o j (k (drop q row)) a a' b r' z (v, t.1) h)
  add-decls p q o j (got_typed w f x) k a a' b r r' i t e h =
      let z : q ≡ p + 2 + length (encode f) = row-is (sym e ∙ t.0) in
      let v : j ≡ o + length (spaced (w ∷ 1 ∷ []) ++ (32 ∷ spell f)) = out-is (sym e ∙ t.0) in
      let y : x ≡ drop q row = typed_at d row p w f x i ∙ ap (λ n. drop n row) (sym z) in
      rw y (put_typed p q w o j f (k (drop q row)) a a' b r' z (v, t.1) h)
  add-decls p q o j no-decl k a a' b r r' i t e h = absurd (clash cc)

  pub decls-more : (n p q o j : ℕ) (a a' : List ℕ) (r : Option Spot) → 0 < n → PrintedDecl p o (decl_at R (drop p row)) a a' r → r ≡ spot q j
      → (b : List ℕ) (r' : Option Spot) → PrintedDecls q j (decls R (n - 1) (drop q row)) a' b r' → PrintedDecls p o (decls R n (drop p row)) a b r'
  unfolding decls
  decls-more zero p q o j a a' r h t e b r' k = absurd (omega arith)
  decls-more (suc n) p q o j a a' r h t e b r' k = add-decls p q o j (decl_at R (drop p row)) (λ l. decls R n l) a a' b r r' refl t e (rw sub-one at k)

  pub decls-stop : (n p o : ℕ) (a a' b : List ℕ) (r : Option Spot) → 0 < n → PrintedDecl p o (decl_at R (drop p row)) a a' r → r ≡ None → PrintedDecls p o (decls R n (drop p row)) a b None
  unfolding decls
  decls-stop zero p o a a' b r h t e = absurd (omega arith)
  decls-stop (suc n) p o a a' b r h t e = bad-decls p o _ a b (rw (decl-bad p o (decl_at R (drop p row)) a a' r t e) refl)

  pub decls-none : (n p o : ℕ) (a : List ℕ) → n ≤ 0 → PrintedDecls p o (decls R n (drop p row)) a a (spot p o)
  unfolding decls PrintedDecls encode spell put
  decls-none zero p o a h = (same_end _ _ _ _ (omega arith) (omega arith), refl)
  decls-none (suc n) p o a h = absurd (omega arith)

  -- how far the output grows
  pub decl-within : (p q o j : ℕ) (a b : List ℕ) (r : Option Spot) → PrintedDecl p o (decl_at R (drop p row)) a b r → r ≡ spot q j → (p ≤ q) × (j + 13 * (length row - q) ≤ o + 13 * (length row - p))
  unfolding PrintedDecl
  decl-within p q o j a b r t e = go (decl_at R (drop p row)) refl (decl-sound d (decode-sound d) (drop p row)) t
    where
      go : (g : GotDecl) → decl_at R (drop p row) ≡ g → DeclSound d (decode-sound d) (drop p row) g → PrintedDecl p o g a b r → (p ≤ q) × (j + 13 * (length row - q) ≤ o + 13 * (length row - p))
      go (got_bare w x) i s t =
          let z : q ≡ p + 2 = row-is (sym e ∙ t.0) in
          let v : j ≡ o + length (spaced (w ∷ 0 ∷ [])) = out-is (sym e ∙ t.0) in
          let n : length row - p ≡ suc (suc (length x)) = sym (length-drop p row) ∙ ap length s.0 in
          let h = spaced-few (w ∷ 0 ∷ []) in
          (omega arith, omega arith)
      go (got_typed w f x) i s t =
          let z : q ≡ p + 2 + length (encode f) = row-is (sym e ∙ t.0) in
          let v : j ≡ o + length (spaced (w ∷ 1 ∷ []) ++ (32 ∷ spell f)) = out-is (sym e ∙ t.0) in
          let n : length row - p ≡ suc (suc (length (encode f ++ x))) = sym (length-drop p row) ∙ ap length s.0 in
          let m = length-append (encode f) x in
          let l = length-append (spaced (w ∷ 1 ∷ [])) (32 ∷ spell f) in
          let h = spaced-few (w ∷ 1 ∷ []) in
          let k = spell-few f in
          (omega arith, omega arith)
      go no-decl i s t = absurd (clash cc)

  pub decls-within : (n p q o j : ℕ) (a b : List ℕ) (r : Option Spot) → PrintedDecls p o (decls R n (drop p row)) a b r → r ≡ spot q j → (p ≤ q) × (j + 13 * (length row - q) ≤ o + 13 * (length row - p))
  unfolding PrintedDecls
  decls-within n p q o j a b r t e = go (decls R n (drop p row)) refl t
    where
      go : (g : GotDecls) → decls R n (drop p row) ≡ g → PrintedDecls p o g a b r → (p ≤ q) × (j + 13 * (length row - q) ≤ o + 13 * (length row - p))
      go (declared ds x) i t =
          let z : q ≡ p + length (encode_decls ds) = row-is (sym e ∙ t.0) in
          let v : j ≡ o + length (spell_decls ds) = out-is (sym e ∙ t.0) in
          let (c, k, l) = decls-sound d n (drop p row) ds x i in
          let m : length row - p ≡ length (encode_decls ds) + length x = sym (length-drop p row) ∙ ap length c ∙ length-append (encode_decls ds) x in
          let h = spell_decls-few ds in
          (omega arith, omega arith)
      go no-decls i t = absurd (clash cc)

  -- and the children after them
  module _ (p n o : ℕ) (k : List ℕ → Gots) (a a' : List ℕ) (r : Option Spot) (t : PrintedDecls p o (decls R n (drop p row)) a a' r) where
    pub noted-stop : (b : List ℕ) → r ≡ None → PrintedNoted p o (decls R n (drop p row)) k a b None
    unfolding PrintedNoted PrintedDecls
    noted-stop b e = go (decls R n (drop p row)) t
      where
        go : (g : GotDecls) → PrintedDecls p o g a a' r → PrintedNoted p o g k a b None
        go (declared ds x) t = let z = t.0 in absurd (clash cc)
        go no-decls t = refl

    pub noted-bare : (q j : ℕ) (b : List ℕ) → r ≡ spot q j → q - p ≡ 2 * n → PrintedNoted p o (decls R n (drop p row)) k a b None
    unfolding PrintedNoted PrintedDecls
    noted-bare q j b e l = go (decls R n (drop p row)) refl t
      where
        go : (g : GotDecls) → decls R n (drop p row) ≡ g → PrintedDecls p o g a a' r → PrintedNoted p o g k a b None
        go (declared ds x) i t =
            let z : q ≡ p + length (encode_decls ds) = row-is (sym e ∙ t.0) in
            let (c, v, w) = decls-sound d n (drop p row) ds x i in
            rw (none-typed ds (omega arith)) refl
        go no-decls i t = refl

    pub noted-end : (q j : ℕ) (m b : List ℕ) (r' : Option Spot) → r ≡ spot q j → PrintedAll q j (k (drop q row)) a' m r' → r' ≡ None → PrintedNoted p o (decls R n (drop p row)) k a b None
    unfolding PrintedNoted PrintedDecls PrintedTail
    noted-end q j m b r' e h f = go (decls R n (drop p row)) refl t
      where
        tail : (ds : Decls) (z : Bool) → pick z (PrintedTail (p + length (encode_decls ds)) o (spell_decls ds) (k (drop q row)) a b None) (◌≡◌ {A = Option Spot} None None)
        tail ds true = rw (all-bad q j (k (drop q row)) a' m r' h f) refl
        tail ds false = refl

        go : (g : GotDecls) → decls R n (drop p row) ≡ g → PrintedDecls p o g a a' r → PrintedNoted p o g k a b None
        go (declared ds x) i t =
            let z : q ≡ p + length (encode_decls ds) = row-is (sym e ∙ t.0) in
            let y : x ≡ drop q row = decls-at d n row p ds x i ∙ ap (λ n. drop n row) (sym z) in
            rw y (tail ds (any_typed ds))
        go no-decls i t = refl

    pub noted_go : (q j s l : ℕ) (m b : List ℕ) (r' : Option Spot) → r ≡ spot q j → (q - p ≡ 2 * n → ⊥) → PrintedAll q j (k (drop q row)) a' m r' → r' ≡ spot s l → (v : ℕ) → Wrote l (93 ∷ []) m b v
        → PrintedNoted p o (decls R n (drop p row)) k a b (spot s v)
    unfolding PrintedNoted PrintedDecls PrintedTail Wrote
    noted_go q j s l m b r' e ne h f v w = go (decls R n (drop p row)) refl t
      where
        tail : (ds : Decls) (g : Gots) → q ≡ p + length (encode_decls ds) → j ≡ o + length (spell_decls ds) → a' ≡ put a o (spell_decls ds) → k (drop q row) ≡ g
            → PrintedTail (p + length (encode_decls ds)) o (spell_decls ds) g a b (spot s v)
        tail ds g ez ej ea eg =
            let (fs, x, gk, es, el, em) = all_end q j (k (drop q row)) a' m r' s l h f in
            let all = wrote-both o j v (spell_decls ds) (spell_all fs ++ (93 ∷ [])) a a' b (ej, ea) (wrote-both j l v (spell_all fs) (93 ∷ []) a' m b (el, em) w) in
            rw (← eg, gk) (same_end _ _ _ _ (omega arith) all.0, all.1)

        go : (g : GotDecls) → decls R n (drop p row) ≡ g → PrintedDecls p o g a a' r → PrintedNoted p o g k a b (spot s v)
        go (declared ds x) i t =
            let z : q ≡ p + length (encode_decls ds) = row-is (sym e ∙ t.0) in
            let u : j ≡ o + length (spell_decls ds) = out-is (sym e ∙ t.0) in
            let (c, y, w) = decls-sound d n (drop p row) ds x i in
            let y' : x ≡ drop q row = decls-at d n row p ds x i ∙ ap (λ n. drop n row) (sym z) in
            rw (some-typed ds (λ m. ne (omega arith)), y') (tail ds (k (drop q row)) z u t.1 refl)
        go no-decls i t = absurd (clash cc)

-- room for a byte after declarations, predicates and expressions
pub byte-room : (n at p s q o i k j : ℕ) → j + 13 * (n - q) ≤ k + 13 * (n - s) → k + 13 * (n - s) ≤ i + 13 * (n - p) → i + 13 * (n - p) ≤ o + 13 * (n - at) → o + 1 + 13 * (n - at) < 2 ^ 64 → j + 1 < 2 ^ 64
byte-room n at p s q o i k j a b c d = omega arith
