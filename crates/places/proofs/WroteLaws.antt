-- Words written into the output row from a position on. Assumes nothing.
use mathlib.Core.Path.{◌≡◌, refl, sym, ap, ◌∙◌}
use mathlib.Core.List.{List, [], ◌∷◌, ◌++◌, append_assoc, append-nil}
use Prim.Native.Nat.{ℕ, ◌+◌, ◌≤◌, ◌<◌, ◌-◌}
use native.Mathlib.Nat.{add-zero}
use native.Mathlib.Numerals.{add-one}
use native.Mathlib.Omega.{arith}
use lib.ListN.{length, get_or, take, drop, set, length-append, length-take, length-drop, take-append-drop}
use lib.Seq.{take-suc-set, take-set-lt, take-add, set_at, length-take-le, take-take, take-append-le, take-append_seam}
use Rattle.form.proofs.HeadLaws.{here}
use Rattle.places.specs.Internal.Wrote.{Wrote}
use lib.Dec.{leb}
use borrow.Author.Tests.{le-leb}
use Rattle.tree.specs.Form.{pick}
use Rattle.shift.specs.Internal.Items.{store}
use Rattle.shift.proofs.ItemLaws.{store-front}

-- two words stored before them
pub headed : (pos end t k : ℕ) (out ws : List ℕ) → pos + 2 ≤ length out → Wrote (pos + 2) out ws end out → Wrote pos out (t ∷ k ∷ ws) end (set (set out pos t) (pos + 1) k)
unfolding Wrote
headed pos end t k out ws h w =
    let x : drop pos out ≡ get_or out pos 0 ∷ get_or out (pos + 1) 0 ∷ drop (pos + 1 + 1) out = rw (here out pos (omega arith), here out (pos + 1) (omega arith)) in
    let a : take (pos + 2) out ≡ take pos out ++ (get_or out pos 0 ∷ get_or out (pos + 1) 0 ∷ []) = rw (take-add pos 2 out, x) in
    let l : length (take pos out) ≡ pos = length-take-le pos out (omega arith) in
    let m : length (take pos out ++ (t ∷ [])) ≡ pos + 1 = rw (length-append, l) in
    let g : take pos out ++ (t ∷ (get_or out (pos + 1) 0 ∷ ws)) ≡ (take pos out ++ (t ∷ [])) ++ (get_or out (pos + 1) 0 ∷ ws) = simp append_assoc in (
      omega (arith, w.0),
      rw (
        take-set-lt end (set out pos t) (pos + 1) k (omega (arith, w.0)),
        take-set-lt end out pos t (omega (arith, w.0)),
        w.1,
        a,
        append_assoc,
        set_at (take pos out) (get_or out pos 0) (get_or out (pos + 1) 0 ∷ ws) t pos l,
        g,
        set_at (take pos out ++ (t ∷ [])) (get_or out (pos + 1) 0) ws k (pos + 1) m,
        append_assoc,
      ) refl,
    )

pub nothing_written : (pos : ℕ) (out : List ℕ) → Wrote pos out [] pos out
unfolding Wrote
nothing_written pos out = (sym (add-zero pos), sym (append-nil (take pos out)))

-- words after words
pub wrote-end : (pos end : ℕ) (out ws out' : List ℕ) → Wrote pos out ws end out' → end ≡ pos + length ws
unfolding Wrote
wrote-end pos end out ws out' w = w.0

pub wrote_on : (pos mid end : ℕ) (out a out₁ b out₂ : List ℕ) → Wrote pos out a mid out₁ → Wrote mid out₁ b end out₂ → Wrote pos out (a ++ b) end out₂
unfolding Wrote
wrote_on pos mid end out a out₁ b out₂ w v =
    let l : length (a ++ b) ≡ length a + length b = length-append a b in
    (omega (arith, w.0, v.0), rw (v.1, w.1, append_assoc))

pub wrote-word : (pos t : ℕ) (out : List ℕ) → pos < length out → Wrote pos out (t ∷ []) (pos + 1) (set out pos t)
unfolding Wrote
wrote-word pos t out h = (refl, rw (add-one, take-suc-set out pos t h))

pub wrote-equal : (pos mid end : ℕ) (out a out₁ b out₂ : List ℕ) (t : ℕ) → pos < length out → Wrote (pos + 1) (set out pos t) a mid out₁ → Wrote mid out₁ b end out₂ → Wrote pos out (t ∷ (a ++ b)) end out₂
wrote-equal pos mid end out a out₁ b out₂ t h w v =
    wrote_on pos (pos + 1) end out (t ∷ []) (set out pos t) (a ++ b) out₂ (wrote-word pos t out h) (wrote_on (pos + 1) mid end (set out pos t) a out₁ b out₂ w v)

-- the output row before and after
module _ (pos end : ℕ) (out ws out' : List ℕ) (low : pos ≤ length out) (w : Wrote pos out ws end out') where
  pub wrote-in : end ≤ length out'
  unfolding Wrote
  wrote-in =
      let a = ap length w.1 ∙ length-append (take pos out) ws in
      let b = length-take-le pos out low in
      let c = length-take end out' in
      omega (arith, w.0)

  pub kept : (q : ℕ) → q ≤ pos → take q out' ≡ take q out
  unfolding Wrote
  kept q h =
      let b = length-take-le pos out low in
      sym (take-take q end out' (omega (arith, w.0))) ∙ ap (take q) w.1 ∙ take-append-le q (take pos out) ws (omega arith) ∙ take-take q pos out h

  pub wrote_self : Wrote pos out' ws end out'
  unfolding Wrote
  wrote_self = (w.0, rw (kept pos (omega arith)) w.1)

pub based : (q end : ℕ) (out out₁ ws out' : List ℕ) → take q out₁ ≡ take q out → Wrote q out₁ ws end out' → Wrote q out ws end out'
unfolding Wrote
based q end out out₁ ws out' e w = (w.0, w.1 ∙ ap (λ a. a ++ ws) e)

-- words stored at a position
pub store_wrote : (out ws : List ℕ) (i : ℕ) → i + length ws ≤ length out → Wrote i out ws (i + length ws) (store out i ws)
unfolding Wrote
store_wrote out ws i h =
    let l : length (take i out) ≡ i = length-take-le i out (omega arith) in
    let d = length-drop i out in
    let e : store out i ws ≡ take i out ++ (ws ++ drop (length ws) (drop i out)) = ap (λ z. store z i ws) (sym (take-append-drop i out)) ∙ store-front (take i out) (drop i out) ws i l (omega arith) in
    let a : length (take i out ++ ws) ≡ i + length ws = rw (length-append, l) in
    (refl, rw (e, ← append_assoc (take i out) ws, ← a) (take-append_seam (take i out ++ ws) (drop (length ws) (drop i out))))

pub put-wrote : (ws out out' : List ℕ) (pos n : ℕ) → length ws ≡ n → pos + n ≤ length out → out' ≡ pick (leb (pos + length ws) (length out)) (store out pos ws) out → Wrote pos out ws (pos + n) out'
put-wrote ws out out' pos n k l e =
    let q : out' ≡ store out pos ws = rw (k, le-leb (pos + n) (length out) l) at e in
    rw (q, ← k) (store_wrote out ws pos (omega arith))

pub part-long : (row : List ℕ) (from to : ℕ) → from ≤ to → to ≤ length row → length (take (to - from) (drop from row)) ≡ to - from
part-long row from to h k = let d = length-drop from row in length-take-le (to - from) (drop from row) (omega arith)
