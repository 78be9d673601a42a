-- What is read runs: every word of a form that is read is taken, and nothing must come after the last; in a named row, of a form without indices.
-- Assumes nothing.
use mathlib.Core.Path.{◌≡◌, refl, ap, ◌∙◌}
use mathlib.Core.Bool.{Bool, true, false, ◌&&◌}
use mathlib.Core.List.{List, [], ◌∷◌, ◌++◌, append_assoc}
use Prim.Native.Nat.{ℕ, zero, suc, ◌+◌, ◌-◌}
use native.Mathlib.Omega.{arith}
use lib.Dec.{eqb}
use lib.ListN.{length, length-append}
use Rattle.tree.specs.Form.{Form, Decls, undeclared, bare, typed, names_of, any_typed, Forms, pick, between, encode, encode_decls}
use Rattle.tree.specs.Tag.{Sort, expr, pred, Own, ask, kids, flags, wrong, own, sorts}
use Rattle.form.specs.Decode.{Head, head, flagged, bad, names, read, got, gots, is_leaf, decode_all, GotDecls, declared, no-decls, decls, with_decls, branch, decode, index_free, index_free_decls, index_free_all}
use Rattle.form.specs.Break.{Next, word, note, parts, low_flag, decls_next, next_of, own_in, Open, rest, least_all, after}
use Rattle.form.proofs.DecodeLaws.{clash, OkDecls, ok_end, ok-bare, ok-typed, only-head, only-name, only-flagged, no-flagged, made, chain-sound, close-sound, noted-sound, decode-encode, decode-sound, all_sound, decls-sound, flags-node, read-exact, flags-exact}
use Rattle.form.proofs.IndexLaws.{InNamed, each_in, no_index, free-make}
use Rattle.form.proofs.LeastLaws.{open-rest, open-word, open-note, open-name, open-pred, open-expr, Runs, Fine, fine-word, fine-least, flag_next, one-flag, decls-fine}
use Rattle.form.proofs.BreakLaws.{run_room, push}

module _ (named : Bool) (z : ℕ → Next) where
  module _ (d : ℕ) (x : Open) where
    names-go : (n p e : ℕ) (ws a b : List ℕ) (p' e' : ℕ) (r : List ℕ) → names n p e ws ≡ head a b p' e' r → (at at' : ℕ) → at + length ws ≡ at' + length r
        → Runs named z at' (rest d (parts 0 p' e') x) r → Runs named z at (rest d (parts n p e) x) ws
    unfolding after Runs
    names-go zero p e ws a b p' e' r q at at' l h =
        let i : p ≡ p' = cc in
        let j : e ≡ e' = cc in
        let k : ws ≡ r = cc in
        let m : at ≡ at' = let n = ap length k in omega arith in
        rw (i, j, k, m) h
    names-go (suc n) p e [] a b p' e' r q at at' l h = absurd (clash cc)
    names-go (suc n) p e (w ∷ ws) a b p' e' r q at at' l h =
        let (t, b', i, g) = only-name (between 0 65535 w) w (names n p e ws) a b p' e' r q in
        let k = names-go n p e ws a b' p' e' r g (suc at) at' (omega arith) h in
        let m = run_room named z (suc at) (rest d (parts n p e) x) ws k in
        let o = open-name d x n p e in
        (omega arith, rw t k)

    word-goes : (lo hi : ℕ) (k : ℕ → Next) → Fine (word lo hi k) → (at w : ℕ) (ws : List ℕ) → between lo hi w ≡ true → Runs named z (suc at) (rest d (k w) x) ws → Runs named z at (rest d (word lo hi k) x) (w ∷ ws)
    unfolding after Runs
    word-goes lo hi k g at w ws t s =
        let m = run_room named z (suc at) (rest d (k w) x) ws s in
        let o = open-word d x lo hi k in
        let y = open-rest d x (k lo) in
        let y' = open-rest d x (k w) in
        let n = fine-least g w d t in
        (omega arith, rw t s)

    fine-after : {lo hi : ℕ} {k : ℕ → Next} → Fine (word lo hi k) → (w : ℕ) → Fine (k w)
    fine-after (fine-word u v f) w = f w

    read_goes : (o : Own) → Fine (next_of o) → (ws a b : List ℕ) (p e : ℕ) (r : List ℕ) → read o ws ≡ head a b p e r → (at at' : ℕ) → at + length ws ≡ at' + length r
        → Runs named z at' (rest d (parts 0 p e) x) r → Runs named z at (rest d (next_of o) x) ws
    unfolding next_of read
    read_goes (ask lo hi k) g [] a b p e r q at at' l h = absurd (clash cc)
    read_goes (ask lo hi k) g (w ∷ ws) a b p e r q at at' l h =
        let (t, a', i, m) = only-head (between lo hi w) w (read (k w) ws) a b p e r q in
        word-goes lo hi (λ w. next_of (k w)) g at w ws t (read_goes (k w) (fine-after g w) ws a' b p e r m (suc at) at' (omega arith) h)
    read_goes (kids n p' e') g ws a b p e r q at at' l h = names-go n p' e' ws a b p e r q at at' l h
    read_goes (flags n p' e') g ws a b p e r q at at' l h = absurd (clash cc)
    read_goes wrong g ws a b p e r q at at' l h = absurd (clash cc)

    flags-go : (o : Own) → Fine (next_of o) → (ws a : List ℕ) (n p e : ℕ) (r : List ℕ) → read o ws ≡ flagged a n p e r → (at at' : ℕ) → at + length ws ≡ at' + length r
        → Runs named z at' (rest d (decls_next false n p e) x) r → Runs named z at (rest d (next_of o) x) ws
    unfolding next_of read
    flags-go (ask lo hi k) g [] a n p e r q at at' l h = absurd (clash cc)
    flags-go (ask lo hi k) g (w ∷ ws) a n p e r q at at' l h =
        let (t, a', i, m) = only-flagged (between lo hi w) w (read (k w) ws) a n p e r q in
        word-goes lo hi (λ w. next_of (k w)) g at w ws t (flags-go (k w) (fine-after g w) ws a' n p e r m (suc at) at' (omega arith) h)
    flags-go (kids n' p' e') g ws a n p e r q at at' l h = absurd (no-flagged n' p' e' ws a n p e r q)
    flags-go (flags n' p' e') g ws a n p e r q at at' l h =
        let i : n' ≡ n = cc in
        let j : p' ≡ p = cc in
        let o : e' ≡ e = cc in
        let k : ws ≡ r = cc in
        let m : at ≡ at' = let n = ap length k in omega arith in
        rw (i, j, o, k, m) h
    flags-go wrong g ws a n p e r q at at' l h = absurd (clash cc)

  abbrev FormGoes : ℕ → Type 0
  FormGoes d = (s : Sort) (x : Open) (w : ℕ) (ws : List ℕ) (f : Form) (r : List ℕ) → decode (suc d) s (w ∷ ws) ≡ got f r → InNamed named (index_free f) → (at at' : ℕ) → at + length ws ≡ at' + length r
      → Runs named z at' x r → Runs named z at (rest d (next_of (own_in named s w)) x) ws

  abbrev NoteGo : ℕ → Type 0
  NoteGo d = (k : Next) (x : Open) (ws : List ℕ) (f : Form) (r : List ℕ) → decode d expr ws ≡ got f r → InNamed named (index_free f) → (at : ℕ) → Runs named z (at + length (encode f)) (rest d k x) r → Runs named z at (rest d (note k) x) ws

  abbrev pub KidsGo : ℕ → Type 0
  KidsGo d = (p e : ℕ) (x : Open) (ws : List ℕ) (ks : Forms) (r : List ℕ) → decode_all (λ s l. decode d s l) (sorts p e) ws ≡ gots ks r → InNamed named (index_free_all ks) → (at at' : ℕ) → at + length ws ≡ at' + length r
      → Runs named z at' x r → Runs named z at (rest d (parts 0 p e) x) ws

  -- declarations with flags that are read run
  no_flag : (came : Bool) (ds : Decls) → pick came true (any_typed ds) ≡ true → between (low_flag came (length (names_of ds))) 1 0 ≡ true
  no_flag true ds e = refl
  no_flag false undeclared e = absurd (clash cc)
  no_flag false (bare n ds) e = refl
  no_flag false (typed n f ds) e = refl

  decls-go : (d p e : ℕ) (x : Open) → NoteGo d → {ds : Decls} → OkDecls d ds → (came : Bool) → pick came true (any_typed ds) ≡ true → InNamed named (index_free_decls ds) → (r : List ℕ) (at : ℕ)
      → Runs named z (at + length (encode_decls ds)) (rest d (parts 0 p e) x) r → Runs named z at (rest d (decls_next came (length (names_of ds)) p e) x) (encode_decls ds ++ r)
  unfolding decls_next encode index_free
  decls-go d p e x nh ok_end true t v r at h = let m : at + 0 ≡ at = omega arith in rw m at h
  decls-go d p e x nh ok_end false t v r at h = absurd (clash cc)
  decls-go d p e x nh (ok-bare {n = w} {ds = ds} b k) came t v r at h =
      let n = length (names_of ds) in
      let m : at + suc (suc (length (encode_decls ds))) ≡ suc (suc at) + length (encode_decls ds) = omega arith in
      let f = decls-fine came (suc n) p e in
      word-goes d x 0 65535 (λ name. word (low_flag came n) 1 (λ flag. flag_next came n p e flag)) f at w (0 ∷ (encode_decls ds ++ r)) b
      (word-goes d x (low_flag came n) 1 (λ flag. flag_next came n p e flag) (fine-after d x f w) (suc at) 0 (encode_decls ds ++ r) (no_flag came ds t)
      (decls-go d p e x nh k came t v r (suc (suc at)) (rw m at h)))
  decls-go d p e x nh (ok-typed {n = w} {f = g} {ds = ds} b i k) came t v r at h =
      let n = length (names_of ds) in
      let in_one = each_in named (index_free g) (index_free_decls ds) v in
      let l = length-append (encode g) (encode_decls ds) in
      let m : at + suc (suc (length (encode g ++ encode_decls ds))) ≡ (suc (suc at) + length (encode g)) + length (encode_decls ds) = omega arith in
      let f = decls-fine came (suc n) p e in
      rw (append_assoc (encode g))
      (word-goes d x 0 65535 (λ name. word (low_flag came n) 1 (λ flag. flag_next came n p e flag)) f at w (1 ∷ (encode g ++ (encode_decls ds ++ r))) b
      (word-goes d x (low_flag came n) 1 (λ flag. flag_next came n p e flag) (fine-after d x f w) (suc at) 1 (encode g ++ (encode_decls ds ++ r)) (one-flag came n)
      (nh (decls_next true n p e) x (encode g ++ (encode_decls ds ++ r)) g (encode_decls ds ++ r) (decode-encode i (encode_decls ds ++ r)) in_one.0 (suc (suc at))
      (decls-go d p e x nh k true refl in_one.1 r (suc (suc at) + length (encode g)) (rw m at h)))))

  module _ (fine : (s : Sort) (t : ℕ) → Fine (next_of (own s t))) where
    as_own : (d : ℕ) (x : Open) (s : Sort) (w at : ℕ) (ws : List ℕ) → (named && eqb w 2) ≡ false → Runs named z at (rest d (next_of (own s w)) x) ws → Runs named z at (rest d (next_of (own_in named s w)) x) ws
    as_own d x s w at ws e r = rw e r

    flagged-by : (d : ℕ) → KidsGo d → NoteGo d → (s : Sort) (x : Open) (w : ℕ) (ws a : List ℕ) (n p e : ℕ) (y : List ℕ) (g : GotDecls) (f : Form) (r : List ℕ)
        → read (own s w) ws ≡ flagged a n p e y → decls (λ s' ws'. decode d s' ws') n y ≡ g → with_decls (λ s' ws'. decode d s' ws') w a p e g ≡ got f r → InNamed named (index_free f) → (at at' : ℕ)
        → at + length ws ≡ at' + length r → Runs named z at' x r → Runs named z at (rest d (next_of (own_in named s w)) x) ws
    unfolding index_free
    flagged-by d ih nh s x w ws a n p e y no-decls f r q u v t at at' l h = absurd (clash cc)
    flagged-by d ih nh s x w ws a n p e y (declared ds o) f r q u v t at at' l h =
        let (ks, g, ty, i) = noted-sound w a ds (decode_all (λ s' ws'. decode d s' ws') (sorts p e) o) f r v in
        let (c, k, j) = decls-sound d n y ds o u in
        let (b, m) = flags-exact (own s w) ws a n p e y q in
        let (in-decls, in-kids) = each_in named (index_free_decls ds) (index_free_all ks) (rw (← i) at t) in
        let la = ap length b ∙ length-append a y in
        let ly = ap length c ∙ length-append (encode_decls ds) o in
        let kids = ih p e x o ks r g in-kids (at + length a + length (encode_decls ds)) at' (omega arith) h in
        let dr = decls-go d p e x nh k false ty in-decls o (at + length a) kids in
        as_own d x s w at ws (no_index named w (flags-node s w ws a n p e y q)) (flags-go d x (own s w) (fine s w) ws a n p e y q at (at + length a) (omega arith) (rw (← j, c) dr))

    form-by : (d : ℕ) → KidsGo d → NoteGo d → (s : Sort) (x : Open) (w : ℕ) (ws : List ℕ) (h : Head) (f : Form) (r : List ℕ) → read (own s w) ws ≡ h
        → branch (λ s' ws'. decode d s' ws') w h ≡ got f r → InNamed named (index_free f) → (at at' : ℕ) → at + length ws ≡ at' + length r → Runs named z at' x r
        → Runs named z at (rest d (next_of (own_in named s w)) x) ws
    form-by d ih nh s x w ws bad f r q e t at at' l h = absurd (clash cc)
    form-by d ih nh s x w ws (flagged a n p m y) f r q e t at at' l h = flagged-by d ih nh s x w ws a n p m y (decls (λ s' ws'. decode d s' ws') n y) f r q refl e t at at' l h
    form-by d ih nh s x w ws (head a b p n y) f r q e t at at' l h =
        let (ks, g, m) = close-sound w a b (decode_all (λ s' ws'. decode d s' ws') (sorts p n) y) f r e in
        let (v, k) = read-exact (own s w) ws a b p n y q in
        let only-leaf = (made d s w a b p n ks (is_leaf w) refl k (all_sound d (sorts p n) y ks r g).1).2 in
        let (tag, in-kids) = free-make named w a b ks only-leaf (rw (← m) at t) in
        let i = ap length v ∙ (length-append a (b ++ y) ∙ ap (λ j. length a + j) (length-append b y)) in
        as_own d x s w at ws tag
        (read_goes d x (own s w) (fine s w) ws a b p n y q at (at + (length a + length b)) (omega arith)
        (ih p n x y ks r g in-kids (at + (length a + length b)) at' (omega arith) h))

    form-goes-from : (d : ℕ) → KidsGo d → NoteGo d → FormGoes d
    unfolding decode
    form-goes-from d ih nh s x w ws f r e t at at' l h = form-by d ih nh s x w ws (read (own s w) ws) f r refl e t at at' l h

    -- the first child and those after it
    child-goes : (d : ℕ) → FormGoes d → (s : Sort) (x y : Open) → ((w : ℕ) → after named z x w ≡ rest (suc d - 1) (next_of (own_in named s w)) y) → least_all x ≡ 1 + least_all y
        → (ws : List ℕ) (f : Form) (r : List ℕ) → decode (suc d) s ws ≡ got f r → InNamed named (index_free f) → (at : ℕ) → Runs named z (at + length (encode f)) y r → Runs named z at x ws
    unfolding Runs decode
    child-goes d ih s x y a l [] f r e t at h = absurd (clash cc)
    child-goes d ih s x y a l (w ∷ ws) f r e t at h =
        let q : suc d - 1 ≡ d = omega arith in
        let (v, k) = decode-sound (suc d) s (w ∷ ws) f r e in
        let n = ap length v ∙ length-append (encode f) r in
        let g = ih s y w ws f r e t (suc at) (at + length (encode f)) (omega arith) h in
        let m = run_room named z (suc at) (rest d (next_of (own_in named s w)) y) ws g in
        let o = open-rest d y (next_of (own_in named s w)) in
        (omega arith, rw (a w, q) g)

    no-kids-go : (d : ℕ) (x : Open) (ws : List ℕ) (ks : Forms) (r : List ℕ) → decode_all (λ s l. decode d s l) [] ws ≡ gots ks r → (at at' : ℕ) → at + length ws ≡ at' + length r
        → Runs named z at' x r → Runs named z at (rest d (parts 0 0 0) x) ws
    unfolding decode_all
    no-kids-go d x ws ks r e at at' l h =
        let k : ws ≡ r = cc in
        let m : at ≡ at' = let n = ap length k in omega arith in
        push named z at d x ws (rw (k, m) h)

    sound-length : (d : ℕ) (s : Sort) (ws : List ℕ) (f : Form) (r : List ℕ) → decode d s ws ≡ got f r → length ws ≡ length (encode f) + length r
    sound-length d s ws f r e = ap length (decode-sound d s ws f r e).0 ∙ length-append (encode f) r

    kids-go-zero : KidsGo zero
    unfolding decode_all decode
    kids-go-zero zero zero x ws ks r e t at at' l h = no-kids-go zero x ws ks r e at at' l h
    kids-go-zero zero (suc n) x ws ks r e t at at' l h = absurd (clash cc)
    kids-go-zero (suc p) n x ws ks r e t at at' l h = absurd (clash cc)

    kids-go-from : (d : ℕ) → FormGoes d → KidsGo (suc d)
    unfolding decode_all after index_free
    kids-go-from d ih zero zero x ws ks r e t at at' l h = no-kids-go (suc d) x ws ks r e at at' l h
    kids-go-from d ih zero (suc n) x ws ks r e t at at' l h =
        let (f, fs, y, a, b, q) = chain-sound (decode (suc d) expr ws) (λ r. decode_all (λ s l. decode (suc d) s l) (sorts zero n) r) ks r e in
        let (in-first, in-more) = each_in named (index_free f) (index_free_all fs) (rw (← q) at t) in
        let m = sound-length (suc d) expr ws f y a in
        child-goes d ih expr (rest (suc d) (parts 0 0 (suc n)) x) (rest (suc d) (parts 0 0 n) x) (λ w. refl) (open-expr (suc d) x n) ws f y a in-first at
        (kids-go-from d ih zero n x y fs r b in-more (at + length (encode f)) at' (omega arith) h)
    kids-go-from d ih (suc p) n x ws ks r e t at at' l h =
        let (f, fs, y, a, b, q) = chain-sound (decode (suc d) pred ws) (λ r. decode_all (λ s l. decode (suc d) s l) (sorts p n) r) ks r e in
        let (in-first, in-more) = each_in named (index_free f) (index_free_all fs) (rw (← q) at t) in
        let m = sound-length (suc d) pred ws f y a in
        child-goes d ih pred (rest (suc d) (parts 0 (suc p) n) x) (rest (suc d) (parts 0 p n) x) (λ w. refl) (open-pred (suc d) x p n) ws f y a in-first at
        (kids-go-from d ih p n x y fs r b in-more (at + length (encode f)) at' (omega arith) h)

    note-go-zero : NoteGo zero
    unfolding decode
    note-go-zero k x ws f r e t at h = absurd (clash cc)

    note-go-from : (d : ℕ) → FormGoes d → NoteGo (suc d)
    unfolding after
    note-go-from d ih k x ws f r e t at h = child-goes d ih expr (rest (suc d) (note k) x) (rest (suc d) k x) (λ w. refl) (open-note (suc d) x k) ws f r e t at h

    form-goes : (d : ℕ) → FormGoes d
    form-goes zero = form-goes-from zero kids-go-zero note-go-zero
    form-goes (suc d) = form-goes-from (suc d) (kids-go-from d (form-goes d)) (note-go-from d (form-goes d))

    pub kids-go : (d : ℕ) → KidsGo d
    kids-go zero = kids-go-zero
    kids-go (suc d) = kids-go-from d (form-goes d)
