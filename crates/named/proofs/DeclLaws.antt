-- Declarations with flags as the reader of names finds them, and the children under them. Assumes nothing.
use mathlib.Core.Path.{◌≡◌, refl, ap, sym, ◌∙◌}
use mathlib.Core.Bool.{Bool, true, false}
use mathlib.Core.List.{List, [], ◌∷◌, ◌++◌}
use Prim.Native.Nat.{ℕ, zero, suc, ◌+◌, ◌-◌, ◌*◌, ◌≤◌, ◌<◌}
use native.Mathlib.Numerals.{sub-one}
use native.Mathlib.Omega.{arith}
use lib.ListN.{length, get_or, take, drop, length-append, length-drop}
use Rattle.tree.specs.Form.{Form, Decls, undeclared, bare, typed, names_of, pick, between, encode, encode_decls, encode_all}
use Rattle.tree.specs.Tag.{Sort, expr}
use Rattle.form.specs.Decode.{Got, got, no-form, Gots, gots, no-forms, GotDecl, got_bare, got_typed, no-decl, GotDecls, declared, no-decls, note_of, by_flag, decl_at, add_bare, add_typed, add_decl, decls, decode, index_free_decls}
use Rattle.form.specs.Internal.Heads.{word_at}
use Rattle.rules.specs.Named.{opened, nameless, nameless_decls, nameless_all}
use Rattle.shift.specs.Internal.Items.{store}
use Rattle.named.specs.Internal.Reads.{read_names, Wrote, WroteAll, WroteDecl, WroteDecls, WroteUnder, WroteNoted}
use Rattle.form.proofs.DecodeLaws.{clash, decls-sound, decls-at}
use Rattle.form.proofs.HeadLaws.{here, word-is, next-drop}
use Rattle.rules.proofs.NamedLaws.{nameless-length, nameless-length_decls}
use Rattle.reader.proofs.DeclReads.{no_name, no_flag, decl-words, flag_one, none-typed, some-typed}
use Rattle.shift.proofs.ItemLaws.{store-append}
use Rattle.named.proofs.ReadLaws.{indexless_decl, indexless_decls, decl-indexless, flag-indexless, decls-indexless}
use Rattle.named.proofs.WroteLaws.{names_at}
use Rattle.std.specs.Prelude.{Some, None, Option}

-- the names of declarations that are kept in a row of their own: with one more in front
name-front : (c : List ℕ) (i w : ℕ) (ns : List ℕ) → i < length c → get_or c i 0 ≡ w → take (length ns) (drop (i + 1) c) ≡ ns → take (suc (length ns)) (drop i c) ≡ w ∷ ns
name-front c i w ns h e k = rw (here c i h, e, k) refl

two-words : (row : List ℕ) (p w x : ℕ) → word_at 0 65535 (drop p row) ≡ Some w → word_at 0 1 (drop (p + 1) row) ≡ Some x → take (p + 2 - p) (drop p row) ≡ w ∷ x ∷ []
two-words row p w x e f =
    let (ws, q, k) = word-is 0 65535 (drop p row) w e in
    let (vs, r, j) = word-is 0 1 (drop (p + 1) row) x f in
    let y : ws ≡ x ∷ vs = next-drop row p w ws q ∙ r in
    let n : p + 2 - p ≡ 2 = omega arith in
    rw (n, q, y) (nothing vs)
  where
    nothing : (vs : List ℕ) → take 2 (w ∷ x ∷ vs) ≡ w ∷ x ∷ []
    nothing [] = refl
    nothing (v ∷ vs) = refl

decls-long : (ds : Decls) → 2 * length (names_of ds) ≤ length (encode_decls ds)
unfolding encode
decls-long undeclared = omega arith
decls-long (bare n ds) = let h = decls-long ds in omega arith
decls-long (typed n f ds) = rw length-append (let h = decls-long ds in omega arith)

module _ (d : ℕ) (row S : List ℕ) where
  abbrev N : Sort → List ℕ → Got
  N s l = read_names d s l

  -- one declaration
  bad-decl : (p : ℕ) (g : GotDecl) (a b : List ℕ) → g ≡ no-decl → WroteDecl p S g a b None
  unfolding WroteDecl
  bad-decl p g a b e = rw e refl

  pub decl-no-name : (p : ℕ) (a b : List ℕ) → word_at 0 65535 (drop p row) ≡ None → WroteDecl p S (decl_at N (drop p row)) a b None
  decl-no-name p a b e = bad-decl p _ a b (decl-indexless d (drop p row) ∙ ap indexless_decl (no_name d row 0 (drop p row) e))

  pub decl-no-flag : (p w : ℕ) (a b : List ℕ) → word_at 0 65535 (drop p row) ≡ Some w → word_at 0 1 (drop (p + 1) row) ≡ None → WroteDecl p S (decl_at N (drop p row)) a b None
  decl-no-flag p w a b e f =
      let (ws, q, k) = word-is 0 65535 (drop p row) w e in
      let none : decl_at (λ s l. decode d s l) (drop p row) ≡ no-decl = rw q (no_flag d row 0 w ws (rw (next-drop row p w ws q) f)) in
      bad-decl p _ a b (decl-indexless d (drop p row) ∙ ap indexless_decl none)

  module _ (p w x : ℕ) (a a₁ : List ℕ) (name : word_at 0 65535 (drop p row) ≡ Some w) (flag : word_at 0 1 (drop (p + 1) row) ≡ Some x) (made : a₁ ≡ store a p (take (p + 2 - p) (drop p row))) where
    made-is : a₁ ≡ store a p (w ∷ x ∷ [])
    made-is = rw (two-words row p w x name flag) at made

    decl-here : decl_at N (drop p row) ≡ by_flag N w x (drop (p + 2) row)
    decl-here = decl-indexless d (drop p row) ∙ (ap indexless_decl (decl-words d row 0 p w x name flag) ∙ sym (flag-indexless d w x (drop (p + 2) row)))

    pub decl-bare : x ≡ 0 → WroteDecl p S (decl_at N (drop p row)) a a₁ (Some (p + 2))
    unfolding WroteDecl
    decl-bare z = rw (decl-here, z) (refl, made-is ∙ ap (λ j. store a p (w ∷ j ∷ [])) z)

    flag_is : (x ≡ 0 → ⊥) → x ≡ 1
    flag_is ne =
        let (vs, q, j) = word-is 0 1 (drop (p + 1) row) x flag in
        flag_one d row 0 w x vs (rw q at flag) ne

    note-wrote : (g : Got) (b : List ℕ) (r : Option ℕ) → a₁ ≡ store a p (w ∷ 1 ∷ []) → Wrote (p + 2) S g a₁ b r → WroteDecl p S (note_of w g) a b r
    unfolding WroteDecl Wrote
    note-wrote (got f l) b r u t = (t.0, t.1 ∙ (ap (λ j. store j (p + 2) (encode (nameless S f))) u ∙ sym (store-append a p (w ∷ 1 ∷ []) (encode (nameless S f)))))
    note-wrote no-form b r u t = t

    pub decl-typed : (x ≡ 0 → ⊥) → (b : List ℕ) (r : Option ℕ) → Wrote (p + 2) S (N expr (drop (p + 2) row)) a₁ b r → WroteDecl p S (decl_at N (drop p row)) a b r
    decl-typed ne b r t =
        let z = flag_is ne in
        rw (decl-here, z) (note-wrote (N expr (drop (p + 2) row)) b r (made-is ∙ ap (λ j. store a p (w ∷ j ∷ [])) z) t)

  -- what a declaration that is read says of the row
  bare-words : (l : List ℕ) (w : ℕ) (x : List ℕ) → decl_at N l ≡ got_bare w x → l ≡ w ∷ 0 ∷ x
  unfolding decl_at
  bare-words [] w x e = absurd (clash cc)
  bare-words (v ∷ []) w x e = absurd (clash cc)
  bare-words (v ∷ f ∷ l) w x e = go (between 0 65535 v) f e
    where
      noted : (g : Got) → note_of v g ≡ got_bare w x → ⊥
      noted (got f y) e = clash cc
      noted no-form e = clash cc

      go : (b : Bool) (f : ℕ) → pick b (by_flag N v f l) no-decl ≡ got_bare w x → v ∷ f ∷ l ≡ w ∷ 0 ∷ x
      go true zero e = let p : v ≡ w = cc in let q : l ≡ x = cc in rw (p, q)
      go true (suc zero) e = absurd (noted (N expr l) e)
      go true (suc (suc f)) e = absurd (clash cc)
      go false f e = absurd (clash cc)

  typed-words : (l : List ℕ) (w : ℕ) (g : Form) (x : List ℕ) → decl_at N l ≡ got_typed w g x → (ws : List ℕ) × (l ≡ w ∷ 1 ∷ ws) × (N expr ws ≡ got g x)
  unfolding decl_at
  typed-words [] w g x e = absurd (clash cc)
  typed-words (v ∷ []) w g x e = absurd (clash cc)
  typed-words (v ∷ f ∷ l) w g x e = go (between 0 65535 v) f e
    where
      noted : (z : Got) → N expr l ≡ z → note_of v z ≡ got_typed w g x → (ws : List ℕ) × (v ∷ 1 ∷ l ≡ w ∷ 1 ∷ ws) × (N expr ws ≡ got g x)
      noted (got f y) q e = let p : v ≡ w = cc in let i : f ≡ g = cc in let j : y ≡ x = cc in (l, rw p, rw (i, j) at q)
      noted no-form q e = absurd (clash cc)

      go : (b : Bool) (f : ℕ) → pick b (by_flag N v f l) no-decl ≡ got_typed w g x → (ws : List ℕ) × (v ∷ f ∷ l ≡ w ∷ 1 ∷ ws) × (N expr ws ≡ got g x)
      go true zero e = absurd (clash cc)
      go true (suc zero) e = noted (N expr l) refl e
      go true (suc (suc f)) e = absurd (clash cc)
      go false f e = absurd (clash cc)

  after_two : (p w x : ℕ) (ws : List ℕ) → drop p row ≡ w ∷ x ∷ ws → (ws ≡ drop (p + 2) row) × (get_or row p 0 ≡ w) × (p < length row)
  after_two p w x ws e =
      let l = ap length e in
      let m = length-drop p row in
      let h : p < length row = omega arith in
      let k = next-drop row p w (x ∷ ws) e in
      let i = next-drop row (p + 1) x ws (sym k) in
      let j : p + 1 + 1 ≡ p + 2 = omega arith in
      let f = here row p h in
      (i ∙ ap (λ n. drop n row) j, cc, h)

  pub decl-rises : (p q : ℕ) (a b : List ℕ) (r : Option ℕ) → WroteDecl p S (decl_at N (drop p row)) a b r → r ≡ Some q → (p < length row) × (p + 2 ≤ q)
  unfolding WroteDecl
  decl-rises p q a b r t e = go (decl_at N (drop p row)) refl t
    where
      go : (g : GotDecl) → decl_at N (drop p row) ≡ g → WroteDecl p S g a b r → (p < length row) × (p + 2 ≤ q)
      go (got_bare w x) i t = let z : q ≡ p + 2 = cc t.0 in ((after_two p w 0 x (bare-words (drop p row) w x i)).2, omega arith)
      go (got_typed w f x) i t =
          let z : q ≡ p + 2 + length (encode f) = cc t.0 in
          let (ws, k, j) = typed-words (drop p row) w f x i in
          ((after_two p w 1 ws k).2, omega arith)
      go no-decl i t = absurd (clash cc)

  -- several
  bad-decls : (p : ℕ) (g : GotDecls) (a b c : List ℕ) → g ≡ no-decls → WroteDecls p S g a b c None
  unfolding WroteDecls
  bad-decls p g a b c e = rw e refl

  decl-bad : (p : ℕ) (g : GotDecl) (a b : List ℕ) (r : Option ℕ) → WroteDecl p S g a b r → r ≡ None → g ≡ no-decl
  unfolding WroteDecl
  decl-bad p (got_bare w x) a b r t e = let z = t.0 in absurd (clash cc)
  decl-bad p (got_typed w f x) a b r t e = let z = t.0 in absurd (clash cc)
  decl-bad p no-decl a b r t e = refl

  pub decls-none : (n p : ℕ) (a c : List ℕ) → n ≤ 0 → WroteDecls p S (decls N n (drop p row)) a a c (Some p)
  unfolding decls WroteDecls encode nameless store
  decls-none zero p a c h = (ap Some (omega arith), refl, nothing c)
    where
      nothing : (c : List ℕ) → take 0 c ≡ []
      nothing [] = refl
      nothing (x ∷ c) = refl
  decls-none (suc n) p a c h = absurd (omega arith)

  pub decls-stop : (n p : ℕ) (a a' b c : List ℕ) (r : Option ℕ) → 0 < n → WroteDecl p S (decl_at N (drop p row)) a a' r → r ≡ None → WroteDecls p S (decls N n (drop p row)) a b c None
  unfolding decls
  decls-stop zero p a a' b c r h t e = absurd (omega arith)
  decls-stop (suc n) p a a' b c r h t e = bad-decls p _ a b c (rw (decl-bad p (decl_at N (drop p row)) a a' r t e) refl)

  -- one declaration in front of others, whose names stand from i + 1 on
  put-bare : (p w i : ℕ) (g : GotDecls) (a b c : List ℕ) (r : Option ℕ) → i < length c → get_or c i 0 ≡ w → WroteDecls (p + 2) S g (store a p (w ∷ 0 ∷ [])) b (drop (i + 1) c) r
      → WroteDecls p S (add_bare w g) a b (drop i c) r
  unfolding WroteDecls encode nameless
  put-bare p w i (declared ds y) a b c r h e t =
      (t.0 ∙ ap Some (omega arith), t.1 ∙ sym (store-append a p (w ∷ 0 ∷ []) (encode_decls (nameless_decls S ds))), name-front c i w (names_of ds) h e t.2)
  put-bare p w i no-decls a b c r h e t = t

  put_typed : (p w i : ℕ) (f : Form) (g : GotDecls) (a b c : List ℕ) (r : Option ℕ) → i < length c → get_or c i 0 ≡ w
      → WroteDecls (p + 2 + length (encode f)) S g (store a p (w ∷ 1 ∷ encode (nameless S f))) b (drop (i + 1) c) r → WroteDecls p S (add_typed w f g) a b (drop i c) r
  unfolding WroteDecls encode nameless
  put_typed p w i f (declared ds y) a b c r h e t =
      let k = nameless-length S f in
      let words = encode (nameless S f) in
      let rest = encode_decls (nameless_decls S ds) in
      let z : p + suc (suc (length words)) ≡ p + 2 + length (encode f) = omega arith in
      let both : store a p (w ∷ 1 ∷ (words ++ rest)) ≡ store (store a p (w ∷ 1 ∷ words)) (p + 2 + length (encode f)) rest =
      store-append a p (w ∷ 1 ∷ words) rest ∙ ap (λ n. store (store a p (w ∷ 1 ∷ words)) n rest) z in
      (t.0 ∙ ap Some (rw length-append (omega arith)), t.1 ∙ sym both, name-front c i w (names_of ds) h e t.2)
  put_typed p w i f no-decls a b c r h e t = t

  add-decls : (p q i : ℕ) (g : GotDecl) (k : List ℕ → GotDecls) (a a' : List ℕ) (r : Option ℕ) → decl_at N (drop p row) ≡ g → WroteDecl p S g a a' r → r ≡ Some q
      → (b c : List ℕ) (r' : Option ℕ) → i < length c → get_or c i 0 ≡ get_or row p 0 → WroteDecls q S (k (drop q row)) a' b (drop (i + 1) c) r' → WroteDecls p S (add_decl g k) a b (drop i c) r'
  unfolding WroteDecl
  add-decls p q i (got_bare w x) k a a' r o t e b c r' h n u =
      let z : q ≡ p + 2 = cc t.0 in
      let (l, v, y) = after_two p w 0 x (bare-words (drop p row) w x o) in
      rw l (put-bare p w i (k (drop (p + 2) row)) a b c r' h (n ∙ v) (rw (z, t.1) at u))
  add-decls p q i (got_typed w f x) k a a' r o t e b c r' h n u =
      let z : q ≡ p + 2 + length (encode f) = cc t.0 in
      let (ws, j, m) = typed-words (drop p row) w f x o in
      let (l, v, y) = after_two p w 1 ws j in
      let m' : N expr (drop (p + 2) row) ≡ got f x = rw l at m in
      let s = names_at d expr row (p + 2) f x m' in
      rw s (put_typed p w i f (k (drop (p + 2 + length (encode f)) row)) a b c r' h (n ∙ v) (rw (z, t.1) at u))
  add-decls p q i no-decl k a a' r o t e b c r' h n u = absurd (clash cc)

  pub decls-more : (n p q i : ℕ) (a a' : List ℕ) (r : Option ℕ) → 0 < n → WroteDecl p S (decl_at N (drop p row)) a a' r → r ≡ Some q
      → (b c : List ℕ) (r' : Option ℕ) → i < length c → get_or c i 0 ≡ get_or row p 0 → WroteDecls q S (decls N (n - 1) (drop q row)) a' b (drop (i + 1) c) r' → WroteDecls p S (decls N n (drop p row)) a b (drop i c) r'
  unfolding decls
  decls-more zero p q i a a' r h t e b c r' l m k = absurd (omega arith)
  decls-more (suc n) p q i a a' r h t e b c r' l m k = add-decls p q i (decl_at N (drop p row)) (λ x. decls N n x) a a' r refl t e b c r' l m (rw sub-one at k)

  -- and the children after them
  indexless-decls : (g : GotDecls) (ds : Decls) (x : List ℕ) → indexless_decls g ≡ declared ds x → g ≡ declared ds x
  indexless-decls no-decls ds x e = absurd (clash cc)
  indexless-decls (declared es y) ds x e = go (index_free_decls es) e
    where
      go : (b : Bool) → pick b (declared es y) no-decls ≡ declared ds x → declared es y ≡ declared ds x
      go true e = e
      go false e = absurd (clash cc)

  pub decls-rise : (p q n : ℕ) (a b c : List ℕ) (r : Option ℕ) → p ≤ length row → WroteDecls p S (decls N n (drop p row)) a b c r → r ≡ Some q → (p + 2 * n ≤ q) × (q ≤ length row)
  unfolding WroteDecls
  decls-rise p q n a b c r h t e = go (decls N n (drop p row)) refl t
    where
      go : (g : GotDecls) → decls N n (drop p row) ≡ g → WroteDecls p S g a b c r → (p + 2 * n ≤ q) × (q ≤ length row)
      go (declared ds x) i t =
          let z : q ≡ p + length (encode_decls ds) = cc t.0 in
          let (u, v, w) = decls-sound d n (drop p row) ds x (indexless-decls (decls (λ s l. decode d s l) n (drop p row)) ds x (sym (decls-indexless d n (drop p row)) ∙ i)) in
          let m = ap length u ∙ length-append (encode_decls ds) x in
          let l = length-drop p row in
          let j = decls-long ds in
          (omega arith, omega arith)
      go no-decls i t = absurd (clash cc)

  module _ (p n : ℕ) (k : List ℕ → Gots) (a a' b c : List ℕ) (r : Option ℕ) (t : WroteDecls p S (decls N n (drop p row)) a a' c r) where
    pub noted-stop : r ≡ None → WroteNoted p S (decls N n (drop p row)) k a b None
    unfolding WroteNoted WroteDecls
    noted-stop e = go (decls N n (drop p row)) t
      where
        go : (g : GotDecls) → WroteDecls p S g a a' c r → WroteNoted p S g k a b None
        go (declared ds x) t = let z = t.0 in absurd (clash cc)
        go no-decls t = refl

    pub noted-bare : (q : ℕ) → r ≡ Some q → q - p ≡ 2 * n → WroteNoted p S (decls N n (drop p row)) k a b None
    unfolding WroteNoted WroteDecls
    noted-bare q e l = go (decls N n (drop p row)) refl t
      where
        go : (g : GotDecls) → decls N n (drop p row) ≡ g → WroteDecls p S g a a' c r → WroteNoted p S g k a b None
        go (declared ds x) i t =
            let z : q ≡ p + length (encode_decls ds) = cc t.0 in
            let (u, v, w) = decls-sound d n (drop p row) ds x (indexless-decls (decls (λ s l. decode d s l) n (drop p row)) ds x (sym (decls-indexless d n (drop p row)) ∙ i)) in
            rw (none-typed ds (omega arith)) refl
        go no-decls i t = refl

    under-go : (ds : Decls) (q : ℕ) (g : Gots) (r' : Option ℕ) → q ≡ p + length (encode_decls ds) → a' ≡ store a p (encode_decls (nameless_decls S ds)) → WroteAll q (opened (names_of ds) S) g a' b r' → WroteUnder p S ds g a b r'
    unfolding WroteUnder WroteAll
    under-go ds q (gots fs x) r' e m h =
        let l = nameless-length_decls S ds in
        let z : p + length (encode_decls (nameless_decls S ds)) ≡ q = omega arith in
        (h.0 ∙ ap Some (omega arith), h.1 ∙ sym (store-append a p (encode_decls (nameless_decls S ds)) (encode_all (nameless_all (opened (names_of ds) S) fs)) ∙ rw (m, z) refl))
    under-go ds q no-forms r' e m h = h

    pub noted_go : (q : ℕ) (r' : Option ℕ) → r ≡ Some q → (q - p ≡ 2 * n → ⊥) → WroteAll q (opened (take n c) S) (k (drop q row)) a' b r' → WroteNoted p S (decls N n (drop p row)) k a b r'
    unfolding WroteNoted WroteDecls
    noted_go q r' e l h = go (decls N n (drop p row)) refl t
      where
        go : (g : GotDecls) → decls N n (drop p row) ≡ g → WroteDecls p S g a a' c r → WroteNoted p S g k a b r'
        go (declared ds x) i t =
            let z : q ≡ p + length (encode_decls ds) = cc t.0 in
            let j = indexless-decls (decls (λ s l. decode d s l) n (drop p row)) ds x (sym (decls-indexless d n (drop p row)) ∙ i) in
            let (u, v, w) = decls-sound d n (drop p row) ds x j in
            let y : x ≡ drop q row = decls-at d n row p ds x j ∙ ap (λ n. drop n row) (sym z) in
            let ns : take n c ≡ names_of ds = rw w at t.2 in
            rw (some-typed ds (λ m. l (omega arith)), y) (under-go ds q (k (drop q row)) r' z t.1 (rw ns at h))
        go no-decls i t = absurd (clash cc)
