-- Declarations with flags as the readers find them, and what follows the head of a quantifier with annotations. Assumes nothing.
use mathlib.Core.Path.{◌≡◌, refl, ap, sym, ◌∙◌}
use mathlib.Core.Bool.{Bool, true, false, ◌&&◌}
use mathlib.Core.List.{List, [], ◌∷◌}
use Prim.Native.Nat.{ℕ, zero, suc, ◌+◌, ◌*◌, ◌-◌, ◌≤◌, ◌<◌}
use native.Mathlib.Numerals.{sub-one}
use native.Mathlib.Omega.{arith}
use borrow.Author.Tests.{le-leb, lt-leb}
use lib.Dec.{leb}
use lib.ListN.{length, drop, length-append}
use Rattle.tree.specs.Form.{free, bound, Form, leaf, node, noted, Decls, undeclared, bare, typed, names_of, any_typed, none, pick, between, encode, encode_decls}
use Rattle.tree.specs.Tag.{Sort, expr, sorts}
use Rattle.form.specs.Decode.{Got, got, no-form, Gots, gots, decode_all, GotDecl, got_bare, got_typed, no-decl, note_of, by_flag, decl_at, GotDecls, declared, no-decls, add_bare, add_typed, add_decl, decls, decode}
use Rattle.reader.specs.Internal.Reads.{mark, Told, ToldAll, ToldDecl, ToldDecls, ToldNoted, decls_within}
use Rattle.form.specs.Internal.Heads.{word_at}
use Rattle.form.proofs.DecodeLaws.{clash, decls-at, decls-sound, bare-at, typed_at}
use Rattle.form.proofs.HeadLaws.{word-is, next-drop}
use Rattle.std.specs.Prelude.{Some, None, Option}

-- declarations with annotations, and nothing after them
module _ (at d u n : ℕ) (ws a b : List ℕ) where
  pub within : d ≤ 65535 → u ≤ 65535 → n ≤ 65535 → decls_within d u n ws ≡ decls (λ s l. decode d s l) n ws
  unfolding decls_within
  within deep few most = rw (le-leb d 65535 deep, le-leb u 65535 few, le-leb n 65535 most)

  none_within : (leb d 65535 && (leb u 65535 && leb n 65535)) ≡ false → ToldNoted at u (decls_within d u n ws) (λ l. gots none l) a b None
  unfolding decls_within ToldNoted
  none_within e = rw e refl

  pub decls-deep : 65535 < d → ToldNoted at u (decls_within d u n ws) (λ l. gots none l) a b None
  decls-deep h = none_within (rw (lt-leb d 65535 h))

  pub decls-under : d ≤ 65535 → 65535 < u → ToldNoted at u (decls_within d u n ws) (λ l. gots none l) a b None
  decls-under deep h = none_within (rw (le-leb d 65535 deep, lt-leb u 65535 h))

  pub decls-many : d ≤ 65535 → u ≤ 65535 → 65535 < n → ToldNoted at u (decls_within d u n ws) (λ l. gots none l) a b None
  decls-many deep few h = none_within (rw (le-leb d 65535 deep, le-leb u 65535 few, lt-leb n 65535 h))

  pub decls-read : d ≤ 65535 → u ≤ 65535 → n ≤ 65535 → (r : Option ℕ)
      → ToldNoted at u (decls (λ s l. decode d s l) n ws) (λ l. decode_all (λ s l. decode d s l) (sorts 0 0) l) a b r → ToldNoted at u (decls_within d u n ws) (λ l. gots none l) a b r
  unfolding decode_all
  decls-read deep few most r t = rw (within deep few most) t

-- declarations with flags: one, several, and the children after them
some_words : (f : Form) → 0 < length (encode f)
unfolding encode
some_words (leaf (free n)) = omega arith
some_words (leaf (bound n)) = omega arith
some_words (node t o ds ks) = omega arith
some_words (noted t o ds ks) = omega arith

abbrev Sized : Bool → ℕ → ℕ → Type 0
Sized b l n = pick b (2 * n < l) (l ≡ 2 * n)

bare-sized : (b : Bool) (l n : ℕ) → Sized b l n → Sized b (suc (suc l)) (suc n)
bare-sized true l n h = omega arith
bare-sized false l n h = omega arith

typed-sized : (b : Bool) (l n w : ℕ) → 0 < w → Sized b l n → 2 * suc n < suc (suc (w + l))
typed-sized true l n w p h = omega arith
typed-sized false l n w p h = omega arith

sized : (ds : Decls) → Sized (any_typed ds) (length (encode_decls ds)) (length (names_of ds))
unfolding encode
sized undeclared = omega arith
sized (bare n ds) = bare-sized (any_typed ds) (length (encode_decls ds)) (length (names_of ds)) (sized ds)
sized (typed n f ds) = rw length-append (typed-sized (any_typed ds) (length (encode_decls ds)) (length (names_of ds)) (length (encode f)) (some_words f) (sized ds))

pub none-typed : (ds : Decls) → length (encode_decls ds) ≡ 2 * length (names_of ds) → any_typed ds ≡ false
none-typed ds m = go (any_typed ds) (sized ds)
  where
    go : (b : Bool) → Sized b (length (encode_decls ds)) (length (names_of ds)) → b ≡ false
    go true h = absurd (omega arith)
    go false h = refl

pub some-typed : (ds : Decls) → (length (encode_decls ds) ≡ 2 * length (names_of ds) → ⊥) → any_typed ds ≡ true
some-typed ds m = go (any_typed ds) (sized ds)
  where
    go : (b : Bool) → Sized b (length (encode_decls ds)) (length (names_of ds)) → b ≡ true
    go true h = refl
    go false h = absurd (m h)

module _ (d : ℕ) (row : List ℕ) (u : ℕ) where
  abbrev R : Sort → List ℕ → Got
  R s l = decode d s l

  bad-decl : (p : ℕ) (g : GotDecl) (a b : List ℕ) → g ≡ no-decl → ToldDecl p u g a b None
  unfolding ToldDecl
  bad-decl p g a b e = rw e refl

  pub no_name : (l : List ℕ) → word_at 0 65535 l ≡ None → decl_at R l ≡ no-decl
  unfolding word_at decl_at
  no_name [] e = refl
  no_name (w ∷ []) e = refl
  no_name (w ∷ x ∷ l) e = go (between 0 65535 w) e
    where
      go : (b : Bool) → pick b (Some w) None ≡ None → pick b (by_flag R w x l) no-decl ≡ no-decl
      go true e = absurd (clash cc)
      go false e = refl

  pub no_flag : (w : ℕ) (l : List ℕ) → word_at 0 1 l ≡ None → decl_at R (w ∷ l) ≡ no-decl
  unfolding word_at decl_at
  no_flag w [] e = refl
  no_flag w (zero ∷ l) e = absurd (clash cc)
  no_flag w (suc zero ∷ l) e = absurd (clash cc)
  no_flag w (suc (suc x) ∷ l) e = go (between 0 65535 w)
    where
      go : (b : Bool) → pick b (by_flag R w (suc (suc x)) l) no-decl ≡ no-decl
      go true = refl
      go false = refl

  pub decl-no-name : (p : ℕ) (a b : List ℕ) → word_at 0 65535 (drop p row) ≡ None → ToldDecl p u (decl_at R (drop p row)) a b None
  decl-no-name p a b e = bad-decl p _ a b (no_name (drop p row) e)

  pub decl-no-flag : (p w : ℕ) (a b : List ℕ) → word_at 0 65535 (drop p row) ≡ Some w → word_at 0 1 (drop (p + 1) row) ≡ None → ToldDecl p u (decl_at R (drop p row)) a b None
  decl-no-flag p w a b e f =
      let (ws, q, k) = word-is 0 65535 (drop p row) w e in
      bad-decl p _ a b (rw q (no_flag w ws (rw (next-drop row p w ws q) f)))

  -- a name and a flag stand here
  pub decl-words : (p w x : ℕ) → word_at 0 65535 (drop p row) ≡ Some w → word_at 0 1 (drop (p + 1) row) ≡ Some x → decl_at R (drop p row) ≡ by_flag R w x (drop (p + 2) row)
  unfolding decl_at
  decl-words p w x e f =
      let (ws, q, k) = word-is 0 65535 (drop p row) w e in
      let (vs, r, j) = word-is 0 1 (drop (p + 1) row) x f in
      let y : ws ≡ x ∷ vs = next-drop row p w ws q ∙ r in
      let m : p + 1 + 1 ≡ p + 2 = omega arith in
      let z : vs ≡ drop (p + 2) row = next-drop row (p + 1) x vs r ∙ ap (λ n. drop n row) m in
      rw (q, y, k, z)

  pub decl-bare : (p w x : ℕ) (a : List ℕ) → word_at 0 65535 (drop p row) ≡ Some w → word_at 0 1 (drop (p + 1) row) ≡ Some x → x ≡ 0 → ToldDecl p u (decl_at R (drop p row)) a a (Some (p + 2))
  unfolding ToldDecl
  decl-bare p w x a e f z = rw (decl-words p w x e f, z) (refl, refl)

  note-told : (p w : ℕ) (g : Got) (a b : List ℕ) (r : Option ℕ) → Told (p + 2) u g a b r → ToldDecl p u (note_of w g) a b r
  unfolding ToldDecl Told
  note-told p w (got f l) a b r t = t
  note-told p w no-form a b r t = t

  pub flag_one : (w x : ℕ) (l : List ℕ) → word_at 0 1 (x ∷ l) ≡ Some x → (x ≡ 0 → ⊥) → x ≡ 1
  unfolding word_at
  flag_one w zero l e n = absurd (n refl)
  flag_one w (suc zero) l e n = refl
  flag_one w (suc (suc x)) l e n = let q = rw (le-leb 0 (suc (suc x)) (omega arith), lt-leb (suc (suc x)) 1 (omega arith)) at e in absurd (clash cc)

  pub decl-typed : (p w x : ℕ) (a b : List ℕ) (r : Option ℕ) → word_at 0 65535 (drop p row) ≡ Some w → word_at 0 1 (drop (p + 1) row) ≡ Some x → (x ≡ 0 → ⊥)
      → Told (p + 2) u (decode d expr (drop (p + 2) row)) a b r → ToldDecl p u (decl_at R (drop p row)) a b r
  decl-typed p w x a b r e f n t =
      let (vs, q, j) = word-is 0 1 (drop (p + 1) row) x f in
      let z : x ≡ 1 = flag_one w x vs (rw q at f) n in
      rw (decl-words p w x e f, z) (note-told p w _ a b r t)

  -- several
  bad-decls : (p : ℕ) (g : GotDecls) (a b : List ℕ) → g ≡ no-decls → ToldDecls p u g a b None
  unfolding ToldDecls
  bad-decls p g a b e = rw e refl

  decl-bad : (p : ℕ) (g : GotDecl) (a b : List ℕ) (r : Option ℕ) → ToldDecl p u g a b r → r ≡ None → g ≡ no-decl
  unfolding ToldDecl
  decl-bad p (got_bare w x) a b r t e = let z = t.0 in absurd (clash cc)
  decl-bad p (got_typed w f x) a b r t e = let z = t.0 in absurd (clash cc)
  decl-bad p no-decl a b r t e = refl

  put-bare : (p q w : ℕ) (z : GotDecls) (a a' b : List ℕ) (r : Option ℕ) → q ≡ p + 2 → a' ≡ a → ToldDecls q u z a' b r → ToldDecls p u (add_bare w z) a b r
  unfolding ToldDecls encode mark
  put-bare p q w (declared ds y) a a' b r e m h = (h.0 ∙ ap Some (omega arith), rw (e, m) at h.1)
  put-bare p q w no-decls a a' b r e m h = h

  put_typed : (p q w : ℕ) (f : Form) (z : GotDecls) (a a' b : List ℕ) (r : Option ℕ) → q ≡ p + 2 + length (encode f) → a' ≡ mark f (p + 2) u a → ToldDecls q u z a' b r
      → ToldDecls p u (add_typed w f z) a b r
  unfolding ToldDecls encode mark
  put_typed p q w f (declared ds y) a a' b r e m h = (h.0 ∙ ap Some (rw length-append (omega arith)), rw (e, m) at h.1)
  put_typed p q w f no-decls a a' b r e m h = h

  add-decls : (p q : ℕ) (g : GotDecl) (k : List ℕ → GotDecls) (a a' b : List ℕ) (r r' : Option ℕ) → decl_at R (drop p row) ≡ g → ToldDecl p u g a a' r → r ≡ Some q
      → ToldDecls q u (k (drop q row)) a' b r' → ToldDecls p u (add_decl g k) a b r'
  unfolding ToldDecl
  add-decls p q (got_bare w x) k a a' b r r' i t e h =
      let z : q ≡ p + 2 = cc t.0 in
      let y : x ≡ drop q row = bare-at d row p w x i ∙ ap (λ n. drop n row) (sym z) in
      rw y (put-bare p q w (k (drop q row)) a a' b r' z t.1 h)
  add-decls p q (got_typed w f x) k a a' b r r' i t e h =
      let z : q ≡ p + 2 + length (encode f) = cc t.0 in
      let y : x ≡ drop q row = typed_at d row p w f x i ∙ ap (λ n. drop n row) (sym z) in
      rw y (put_typed p q w f (k (drop q row)) a a' b r' z t.1 h)
  add-decls p q no-decl k a a' b r r' i t e h = absurd (clash cc)

  pub decls-more : (n p q : ℕ) (a a' : List ℕ) (r : Option ℕ) → 0 < n → ToldDecl p u (decl_at R (drop p row)) a a' r → r ≡ Some q
      → (b : List ℕ) (r' : Option ℕ) → ToldDecls q u (decls R (n - 1) (drop q row)) a' b r' → ToldDecls p u (decls R n (drop p row)) a b r'
  unfolding decls
  decls-more zero p q a a' r h t e b r' k = absurd (omega arith)
  decls-more (suc n) p q a a' r h t e b r' k = add-decls p q (decl_at R (drop p row)) (λ l. decls R n l) a a' b r r' refl t e (rw sub-one at k)

  pub decls-stop : (n p : ℕ) (a a' b : List ℕ) (r : Option ℕ) → 0 < n → ToldDecl p u (decl_at R (drop p row)) a a' r → r ≡ None → ToldDecls p u (decls R n (drop p row)) a b None
  unfolding decls
  decls-stop zero p a a' b r h t e = absurd (omega arith)
  decls-stop (suc n) p a a' b r h t e = bad-decls p _ a b (rw (decl-bad p (decl_at R (drop p row)) a a' r t e) refl)

  pub decls-none : (n p : ℕ) (a : List ℕ) → n ≤ 0 → ToldDecls p u (decls R n (drop p row)) a a (Some p)
  unfolding decls ToldDecls encode mark
  decls-none zero p a h = (ap Some (omega arith), refl)
  decls-none (suc n) p a h = absurd (omega arith)

  pub decl-rises : (p q : ℕ) (g : GotDecl) (a b : List ℕ) (r : Option ℕ) → ToldDecl p u g a b r → r ≡ Some q → p ≤ q
  unfolding ToldDecl
  decl-rises p q (got_bare w x) a b r t e = let z : q ≡ p + 2 = cc t.0 in omega arith
  decl-rises p q (got_typed w f x) a b r t e = let z : q ≡ p + 2 + length (encode f) = cc t.0 in omega arith
  decl-rises p q no-decl a b r t e = absurd (clash cc)

  pub decls-rise : (p q : ℕ) (g : GotDecls) (a b : List ℕ) (r : Option ℕ) → ToldDecls p u g a b r → r ≡ Some q → p ≤ q
  unfolding ToldDecls
  decls-rise p q (declared ds x) a b r t e = let z : q ≡ p + length (encode_decls ds) = cc t.0 in omega arith
  decls-rise p q no-decls a b r t e = absurd (clash cc)

  -- and the children after them
  module _ (p n : ℕ) (k : List ℕ → Gots) (a a' b : List ℕ) (r : Option ℕ) (t : ToldDecls p u (decls R n (drop p row)) a a' r) where
    pub noted-stop : r ≡ None → ToldNoted p u (decls R n (drop p row)) k a b None
    unfolding ToldNoted ToldDecls
    noted-stop e = go (decls R n (drop p row)) t
      where
        go : (g : GotDecls) → ToldDecls p u g a a' r → ToldNoted p u g k a b None
        go (declared ds x) t = let z = t.0 in absurd (clash cc)
        go no-decls t = refl

    pub noted-bare : (q : ℕ) → r ≡ Some q → q - p ≡ 2 * n → ToldNoted p u (decls R n (drop p row)) k a b None
    unfolding ToldNoted ToldDecls
    noted-bare q e l = go (decls R n (drop p row)) refl t
      where
        go : (g : GotDecls) → decls R n (drop p row) ≡ g → ToldDecls p u g a a' r → ToldNoted p u g k a b None
        go (declared ds x) i t =
            let z : q ≡ p + length (encode_decls ds) = cc t.0 in
            let (c, v, w) = decls-sound d n (drop p row) ds x i in
            rw (none-typed ds (omega arith)) refl
        go no-decls i t = refl

    pub noted_go : (q : ℕ) (r' : Option ℕ) → r ≡ Some q → (q - p ≡ 2 * n → ⊥) → ToldAll q (u + n) (k (drop q row)) a' b r' → ToldNoted p u (decls R n (drop p row)) k a b r'
    unfolding ToldNoted ToldDecls
    noted_go q r' e l h = go (decls R n (drop p row)) refl t
      where
        go : (g : GotDecls) → decls R n (drop p row) ≡ g → ToldDecls p u g a a' r → ToldNoted p u g k a b r'
        go (declared ds x) i t =
            let z : q ≡ p + length (encode_decls ds) = cc t.0 in
            let (c, v, w) = decls-sound d n (drop p row) ds x i in
            let y : x ≡ drop q row = decls-at d n row p ds x i ∙ ap (λ n. drop n row) (sym z) in
            rw (some-typed ds (λ m. l (omega arith)), ← z, y, ← t.1, w) h
        go no-decls i t = absurd (clash cc)
