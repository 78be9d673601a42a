-- Words written into the output row, and nodes rebuilt there. Assumes nothing.
use mathlib.Core.Path.{◌≡◌, refl, ap, sym, ◌∙◌}
use mathlib.Core.List.{List, [], ◌∷◌, ◌++◌, append_assoc, append-nil}
use Prim.Native.Nat.{ℕ, ◌+◌, ◌-◌, ◌≤◌, ◌<◌}
use native.Mathlib.Numerals.{add-one}
use native.Mathlib.Omega.{arith}
use borrow.Author.Tests.{ne_eqb}
use lib.ListN.{length, get_or, take, drop, set, length-drop}
use lib.Seq.{take-suc, take-set-lt, drop-drop, take-add, get_or_at, get_or-take, set_at, length-take-le}
use Rattle.std.specs.Prelude.{Option, Some, None, is_none}
use Rattle.std.specs.Option.{unwrap_or}
use Rattle.std.specs.List.{copy_within}
use Rattle.std.proofs.lemmas.List.Edits.{take-paste, drop-paste}
use Rattle.tree.specs.Form.{Form, node, noted, Forms, none, more, count, encode, encode_decls, encode_all}
use Rattle.rules.specs.Scan.{negate, joined}
use Rattle.places.specs.Internal.Wrote.{Wrote}
use Rattle.one_point.specs.Internal.Writes.{left_words, is_gone, Neat, neat-not, neat-other, neat-noted}
use Rattle.places.proofs.WroteLaws.{headed, nothing_written}

-- words moved down to pos, to where they end; those from `end` on stay
pub words-moved : (pos end : ℕ) (out : List ℕ) → pos + 2 ≤ end → end ≤ length out
    → Wrote pos out (take (end - (pos + 2)) (drop (pos + 2) out)) (end - 2) (copy_within out (pos + 2) end pos) × (drop end (copy_within out (pos + 2) end pos) ≡ drop end out)
unfolding Wrote
words-moved pos end out h k =
    let n = end - (pos + 2) in
    let d = length-drop (pos + 2) out in
    let m : n ≤ length (drop (pos + 2) out) = omega arith in
    let to : end - 2 ≡ pos + n = omega arith in
    let up : end ≡ pos + n + 2 = omega arith in
    let l = length-take-le n (drop (pos + 2) out) m in (
      (omega arith, rw to (take-paste out pos (drop (pos + 2) out) n (omega arith) m)),
      ap (λ z. drop z (copy_within out (pos + 2) end pos)) up
          ∙ (sym (drop-drop 2 (pos + n) (copy_within out (pos + 2) end pos)) ∙ (ap (drop 2) (drop-paste out pos (drop (pos + 2) out) n (omega arith) m) ∙ (drop-drop 2 (pos + n) out ∙ ap (λ z. drop z out) (sym up)))),
    )

-- words that stand from a position on
cancel : (a x y : List ℕ) → a ++ x ≡ a ++ y → x ≡ y
cancel [] x y e = e
cancel (w ∷ a) x y e = cancel a x y (cc)

pub stands : (pos end : ℕ) (out ws : List ℕ) → pos ≤ length out → Wrote pos out ws end out → take (end - pos) (drop pos out) ≡ ws
unfolding Wrote
stands pos end out ws h w =
    let n : end - pos ≡ length ws = omega (arith, w.0) in
    let a : take (pos + length ws) out ≡ take pos out ++ take (length ws) (drop pos out) = take-add pos (length ws) out in
    let b : take (pos + length ws) out ≡ take pos out ++ ws = rw w.0 at w.1 in
    rw n (cancel (take pos out) (take (length ws) (drop pos out)) ws (sym a ∙ b))

pub moved : (pos end r : ℕ) (out ws out' : List ℕ) → pos + 2 ≤ length out → Wrote (pos + 2) out ws end out → Wrote pos out (take (end - (pos + 2)) (drop (pos + 2) out)) r out' → Wrote pos out ws r out'
moved pos end r out ws out' h w m = rw (stands (pos + 2) end out ws h w) at m

-- where words that are moved down by two end
pub moved-end : (pos end r : ℕ) (out out' : List ℕ) → pos + 2 ≤ end → end ≤ length out → Wrote pos out (take (end - (pos + 2)) (drop (pos + 2) out)) r out' → r + 2 ≡ end
unfolding Wrote
moved-end pos end r out out' h k w =
    let d = length-drop (pos + 2) out in
    let l = length-take-le (end - (pos + 2)) (drop (pos + 2) out) (omega arith) in
    let e = w.0 in
    omega arith

-- one word stored before them
pub behind : (pos end t : ℕ) (out ws : List ℕ) → pos + 1 ≤ length out → Wrote (pos + 1) out ws end out → Wrote pos out (t ∷ ws) end (set out pos t)
unfolding Wrote
behind pos end t out ws h w =
    let a : take (pos + 1) out ≡ take pos out ++ (get_or out pos 0 ∷ []) = rw (add-one, take-suc out pos 0 (omega arith)) in
    let l : length (take pos out) ≡ pos = length-take-le pos out (omega arith) in (
      omega (arith, w.0),
      rw (take-set-lt end out pos t (omega (arith, w.0)), w.1, a, append_assoc, set_at (take pos out) (get_or out pos 0) ws t pos l) refl,
    )

-- an associative node of what is left
module _ (pos end t : ℕ) (out : List ℕ) (room : pos + 2 ≤ length out) where
  abbrev Joined : Forms → Option ℕ → List ℕ → Type 0
  Joined fs r out' = (is_none r ≡ is_gone (joined t fs)) × Wrote pos out (left_words (joined t fs)) (unwrap_or r pos) out'

  pub join-none : (k : ℕ) → k ≡ 0 → (fs : Forms) → k ≡ count fs → Joined fs None out
  join-none k z none e = (refl, nothing_written pos out)
  join-none k z (more f fs) e = absurd (omega arith)

  pub join_one : (k : ℕ) → k ≡ 1 → (r : ℕ) (out' : List ℕ) → Wrote pos out (take (end - (pos + 2)) (drop (pos + 2) out)) r out'
      → (fs : Forms) → k ≡ count fs → Wrote (pos + 2) out (encode_all fs) end out → Joined fs (Some r) out'
  unfolding encode
  join_one k z r out' m none e w = absurd (omega arith)
  join_one k z r out' m (more f none) e w = (refl, moved pos end r out (encode f) out' room (rw append-nil at w) m)
  join_one k z r out' m (more f (more g fs)) e w = absurd (omega arith)

  pub join_more : (k : ℕ) → (k ≡ 0 → ⊥) → (k ≡ 1 → ⊥) → (fs : Forms) → k ≡ count fs → Wrote (pos + 2) out (encode_all fs) end out → Joined fs (Some end) (set (set out pos t) (pos + 1) k)
  unfolding encode
  join_more k z y none e w = absurd (z e)
  join_more k z y (more f none) e w = absurd (y e)
  join_more k z y (more f (more g fs)) e w = (refl, rw (← e) (headed pos end t k out (encode_all (more f (more g fs))) room w))

-- negation
pub first_word : (pos end t : ℕ) (out ws : List ℕ) → pos < length out → Wrote pos out (t ∷ ws) end out → get_or out pos 0 ≡ t
unfolding Wrote
first_word pos end t out ws h w =
    let l : length (take pos out) ≡ pos = length-take-le pos out (omega arith) in
    let a : get_or (take end out) pos 0 ≡ get_or out pos 0 = get_or-take end out pos 0 (omega (arith, w.0)) in
    sym a ∙ rw w.1 (get_or_at (take pos out) t ws 0 pos l)

pub after-word : (pos end t : ℕ) (out ws : List ℕ) → pos < length out → Wrote pos out (t ∷ ws) end out → Wrote (pos + 1) out ws end out
unfolding Wrote
after-word pos end t out ws h w =
    let f : get_or out pos 0 ≡ t = first_word pos end t out ws h w in
    let a : take (pos + 1) out ≡ take pos out ++ (t ∷ []) = rw (add-one, take-suc out pos 0 h, f) in
    (omega (arith, w.0), rw (a, append_assoc) w.1)

pub negate-other : (t : ℕ) (o ds : List ℕ) (ks : Forms) → (t ≡ 8 → ⊥) → negate (node t o ds ks) ≡ node 8 [] [] (more (node t o ds ks) none)
negate-other t o ds none ne = refl
negate-other t o [] (more f fs) ne = rw (ne_eqb t 8 ne)
negate-other t o (d ∷ ds) (more f fs) ne = refl

module _ (pos end : ℕ) (out : List ℕ) (room : pos + 2 ≤ length out) where
  pub unsay : get_or out (pos + 1) 0 ≡ 8 → (r : ℕ) (out' : List ℕ) → Wrote pos out (take (end - (pos + 2)) (drop (pos + 2) out)) r out'
      → (f : Form) → Neat f → Wrote (pos + 1) out (encode f) end out → Wrote pos out (encode (negate f)) r out'
  unfolding encode
  unsay h r out' m f (neat-not {f = g} n) w =
      let e : pos + 1 + 1 ≡ pos + 2 = omega arith in
      moved pos end r out (encode g) out' room (rw (append-nil, e) at (after-word (pos + 1) end 8 out (encode g ++ []) (omega arith) w)) m
  unsay h r out' m f (neat-other {t = t} {o = o} {ds = ds} {ks = ks} ne) w = absurd (ne (sym (first_word (pos + 1) end t out (o ++ (ds ++ encode_all ks)) (omega arith) w) ∙ h))
  unsay h r out' m f (neat-noted {t = t} {o = o} {ds = ds} {ks = ks} ne) w = absurd (ne (sym (first_word (pos + 1) end t out (o ++ (encode_decls ds ++ encode_all ks)) (omega arith) w) ∙ h))

  pub say : (get_or out (pos + 1) 0 ≡ 8 → ⊥) → (f : Form) → Neat f → Wrote (pos + 1) out (encode f) end out → Wrote pos out (encode (negate f)) end (set out pos 8)
  unfolding encode
  say h f (neat-not {f = g} n) w = absurd (h (first_word (pos + 1) end 8 out (encode g ++ []) (omega arith) w))
  say h f (neat-other {t = t} {o = o} {ds = ds} {ks = ks} ne) w =
      rw (negate-other t o ds ks ne, append-nil) (behind pos end 8 out (encode (node t o ds ks)) (omega arith) w)
  say h f (neat-noted {t = t} {o = o} {ds = ds} {ks = ks} ne) w = rw append-nil (behind pos end 8 out (encode (noted t o ds ks)) (omega arith) w)
