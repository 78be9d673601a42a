-- The marks of nodes that are rebuilt from what is left of their children. Assumes nothing.
use mathlib.Core.Path.{◌≡◌, refl, ap, sym, ◌∙◌}
use mathlib.Core.List.{List, [], ◌∷◌, ◌++◌, append-nil}
use Prim.Native.Nat.{ℕ, ◌+◌, ◌-◌, ◌≤◌, ◌<◌}
use native.Mathlib.Omega.{arith}
use lib.ListN.{length, get_or, take, drop, length-append}
use Rattle.tree.specs.Form.{Form, node, Forms, none, more, count, encode, encode_decls, encode_all}
use Rattle.reader.specs.Internal.Reads.{mark, mark_all}
use Rattle.rules.specs.Scan.{negate, joined}
use Rattle.places.specs.Internal.Wrote.{Wrote}
use Rattle.places.proofs.WroteLaws.{wrote-end}
use Rattle.places.proofs.PartsLaws.{some_words}
use Rattle.one_point.specs.Internal.Writes.{Neat, neat-not, neat-other, neat-noted}
use Rattle.one_point.specs.Internal.Marks.{mark_left, ClearFrom}
use Rattle.one_point.proofs.WriteLaws.{first_word, after-word, moved, negate-other}

-- what moving marks down by two words does
abbrev Down : ℕ → ℕ → List ℕ → List ℕ → Type 0
Down pos end m m' = (f : Form) (ms : List ℕ) → ClearFrom pos ms → end ≡ pos + 2 + length (encode f) → m ≡ mark f (pos + 2) 0 ms → m' ≡ mark f pos 0 ms

-- negation
module _ (pos end : ℕ) (out : List ℕ) (room : pos + 2 ≤ length out) (m : List ℕ) where
  pub unsay-marks : get_or out (pos + 1) 0 ≡ 8 → (m' : List ℕ) → Down pos end m m' → (f : Form) (ms : List ℕ) → Neat f → Wrote (pos + 1) out (encode f) end out → ClearFrom pos ms → m ≡ mark f (pos + 1) 0 ms
      → m' ≡ mark (negate f) pos 0 ms
  unfolding mark encode
  unsay-marks h m' down f ms (neat-not {f = g} n) w c e =
      let l = wrote-end (pos + 1) end out (8 ∷ (encode g ++ [])) out w in
      let k = length-append (encode g) [] in
      let two : pos + 1 + 1 ≡ pos + 2 = omega arith in
      down g ms c (omega arith) (rw two at e)
  unsay-marks h m' down f ms (neat-other {t = t} {o = o} {ds = ds} {ks = ks} ne) w c e = absurd (ne (sym (first_word (pos + 1) end t out (o ++ (ds ++ encode_all ks)) (omega arith) w) ∙ h))
  unsay-marks h m' down f ms (neat-noted {t = t} {o = o} {ds = ds} {ks = ks} ne) w c e = absurd (ne (sym (first_word (pos + 1) end t out (o ++ (encode_decls ds ++ encode_all ks)) (omega arith) w) ∙ h))

  pub say-marks : (get_or out (pos + 1) 0 ≡ 8 → ⊥) → (f : Form) (ms : List ℕ) → Neat f → Wrote (pos + 1) out (encode f) end out → ClearFrom pos ms → m ≡ mark f (pos + 1) 0 ms → m ≡ mark (negate f) pos 0 ms
  unfolding mark encode
  say-marks h f ms (neat-not {f = g} n) w c e = absurd (h (first_word (pos + 1) end 8 out (encode g ++ []) (omega arith) w))
  say-marks h f ms (neat-other {t = t} {o = o} {ds = ds} {ks = ks} ne) w c e = rw (negate-other t o ds ks ne) e
  say-marks h f ms (neat-noted {t = t} {o = o} {ds = ds} {ks = ks} ne) w c e = e

-- an associative node
module _ (pos end k : ℕ) (m : List ℕ) where
  pub join-marks-one : k ≡ 1 → (m' : List ℕ) → Down pos end m m' → (t : ℕ) (fs : Forms) (ms : List ℕ) → ClearFrom pos ms → k ≡ count fs → end ≡ pos + 2 + length (encode_all fs) → m ≡ mark_all fs (pos + 2) 0 ms
      → m' ≡ mark_left (joined t fs) pos ms
  unfolding mark encode
  join-marks-one z m' down t none ms c e l q = absurd (omega arith)
  join-marks-one z m' down t (more f none) ms c e l q = let a = length-append (encode f) [] in down f ms c (omega arith) q
  join-marks-one z m' down t (more f (more g fs)) ms c e l q = absurd (omega arith)

  pub join-marks : (k ≡ 1 → ⊥) → (t : ℕ) (fs : Forms) (ms : List ℕ) → ClearFrom pos ms → k ≡ count fs → end ≡ pos + 2 + length (encode_all fs) → m ≡ mark_all fs (pos + 2) 0 ms → m ≡ mark_left (joined t fs) pos ms
  unfolding mark encode
  join-marks z t none ms c e l q = q
  join-marks z t (more f none) ms c e l q = absurd (z e)
  join-marks z t (more f (more g fs)) ms c e l q = q

-- a predicate negated twice: it stands as it was unless it is two nots
module _ (pos end : ℕ) (out : List ℕ) (room : pos < length out) where
  second-not : {f : Form} → Neat f → get_or out pos 0 ≡ 8 → Wrote pos out (encode f) end out → (g : Form) × (f ≡ node 8 [] [] (more g none)) × Neat g × Wrote (pos + 1) out (encode g) end out
  unfolding encode
  second-not (neat-not {f = g} n) h w = (g, refl, n, rw append-nil at (after-word pos end 8 out (encode g ++ []) room w))
  second-not (neat-other {t = t} {o = o} {ds = ds} {ks = ks} ne) h w = absurd (ne (sym (first_word pos end t out (o ++ (ds ++ encode_all ks)) room w) ∙ h))
  second-not (neat-noted {t = t} {o = o} {ds = ds} {ks = ks} ne) h w = absurd (ne (sym (first_word pos end t out (o ++ (encode_decls ds ++ encode_all ks)) room w) ∙ h))

  pub two-words : {f : Form} → Neat f → Wrote pos out (encode f) end out → get_or out pos 0 ≡ 8 → pos + 2 ≤ end
  two-words n w h =
      let (g, e, m, v) = second-not n h w in
      let l = wrote-end (pos + 1) end out (encode g) out v in
      let s = some_words g in
      omega arith

  no-not : {f : Form} → Neat f → (get_or out pos 0 ≡ 8 → ⊥) → Wrote pos out (encode f) end out → negate (negate f) ≡ f
  unfolding encode
  no-not (neat-not {f = g} n) h w = absurd (h (first_word pos end 8 out (encode g ++ []) room w))
  no-not (neat-other {t = t} {o = o} {ds = ds} {ks = ks} ne) h w = rw (negate-other t o ds ks ne) refl
  no-not (neat-noted {t = t} {o = o} {ds = ds} {ks = ks} ne) h w = refl

  pub twice-other : (get_or out pos 0 ≡ 8 → ⊥) → (f : Form) → Neat f → Wrote pos out (encode f) end out → Wrote pos out (encode (negate (negate f))) end out
  twice-other h f n w = rw (no-not n h w) w

  pub twice-other-marks : (get_or out pos 0 ≡ 8 → ⊥) → (m : List ℕ) (f : Form) (ms : List ℕ) → Neat f → Wrote pos out (encode f) end out → m ≡ mark f pos 0 ms → m ≡ mark (negate (negate f)) pos 0 ms
  twice-other-marks h m f ms n w e = rw (no-not n h w) e

  module _ (first : get_or out pos 0 ≡ 8) (two : pos + 2 ≤ length out) where
    one-not : {f : Form} → Neat f → (get_or out (pos + 1) 0 ≡ 8 → ⊥) → Wrote pos out (encode f) end out → negate (negate f) ≡ f
    unfolding encode
    one-not n h w =
        let (g, e, m, v) = second-not n first w in
        rw e (go g m v)
      where
        go : (g : Form) → Neat g → Wrote (pos + 1) out (encode g) end out → negate g ≡ node 8 [] [] (more g none)
        go g (neat-not {f = k} n) v = absurd (h (first_word (pos + 1) end 8 out (encode k ++ []) (omega arith) v))
        go g (neat-other {t = t} {o = o} {ds = ds} {ks = ks} ne) v = negate-other t o ds ks ne
        go g (neat-noted {t = t} {o = o} {ds = ds} {ks = ks} ne) v = refl

    pub twice-one : (get_or out (pos + 1) 0 ≡ 8 → ⊥) → (f : Form) → Neat f → Wrote pos out (encode f) end out → Wrote pos out (encode (negate (negate f))) end out
    twice-one h f n w = rw (one-not n h w) w

    pub twice-one-marks : (get_or out (pos + 1) 0 ≡ 8 → ⊥) → (m : List ℕ) (f : Form) (ms : List ℕ) → Neat f → Wrote pos out (encode f) end out → m ≡ mark f pos 0 ms → m ≡ mark (negate (negate f)) pos 0 ms
    twice-one-marks h m f ms n w e = rw (one-not n h w) e

    -- two nots, which are taken away
    both-nots : {f : Form} → Neat f → get_or out (pos + 1) 0 ≡ 8 → Wrote pos out (encode f) end out
        → (g : Form) × (f ≡ node 8 [] [] (more (node 8 [] [] (more g none)) none)) × Wrote (pos + 2) out (encode g) end out
    unfolding encode
    both-nots n h w =
        let (g, e, m, v) = second-not n first w in
        let (k, q, x, y) = go m v in
        let z : pos + 1 + 1 ≡ pos + 2 = omega arith in
        (k, e ∙ ap (λ (u : Form). node 8 [] [] (more u none)) q, rw z at y)
      where
        go : {g : Form} → Neat g → Wrote (pos + 1) out (encode g) end out → (k : Form) × (g ≡ node 8 [] [] (more k none)) × Neat k × Wrote (pos + 1 + 1) out (encode k) end out
        go (neat-not {f = k} n) v = (k, refl, n, rw append-nil at (after-word (pos + 1) end 8 out (encode k ++ []) (omega arith) v))
        go (neat-other {t = t} {o = o} {ds = ds} {ks = ks} ne) v = absurd (ne (sym (first_word (pos + 1) end t out (o ++ (ds ++ encode_all ks)) (omega arith) v) ∙ h))
        go (neat-noted {t = t} {o = o} {ds = ds} {ks = ks} ne) v = absurd (ne (sym (first_word (pos + 1) end t out (o ++ (encode_decls ds ++ encode_all ks)) (omega arith) v) ∙ h))

    pub twice_two : get_or out (pos + 1) 0 ≡ 8 → (r : ℕ) (out' : List ℕ) → Wrote pos out (take (end - (pos + 2)) (drop (pos + 2) out)) r out' → (f : Form) → Neat f → Wrote pos out (encode f) end out
        → Wrote pos out (encode (negate (negate f))) r out'
    twice_two h r out' m f n w =
        let (g, e, v) = both-nots n h w in
        rw e (moved pos end r out (encode g) out' two v m)

    pub twice-two-marks : get_or out (pos + 1) 0 ≡ 8 → (m m' : List ℕ) → Down pos end m m' → (f : Form) (ms : List ℕ) → Neat f → Wrote pos out (encode f) end out → ClearFrom pos ms → m ≡ mark f pos 0 ms
        → m' ≡ mark (negate (negate f)) pos 0 ms
    unfolding mark
    twice-two-marks h m m' down f ms n w c q =
        let (g, e, v) = both-nots n h w in
        let l = wrote-end (pos + 2) end out (encode g) out v in
        let k : m ≡ mark g (pos + 1 + 1) 0 ms = rw e at q in
        let z : pos + 1 + 1 ≡ pos + 2 = omega arith in
        rw e (down g ms c l (rw z at k))
