-- Bytes stored into a lent buffer. Assumes nothing.
use mathlib.Core.Path.{◌≡◌, refl, ap, sym, ◌∙◌}
use mathlib.Core.List.{List, [], ◌∷◌, ◌++◌, append_assoc}
use Prim.Native.Nat.{ℕ, suc, ◌+◌, ◌-◌, ◌≤◌}
use native.Mathlib.Omega.{arith}
use lib.ListN.{length, take, drop, set, length-drop, take-append-drop}
use lib.Seq.{sets, sets-eq, length-take-le, drop-append-le, drop-drop, paste}
use Rattle.spell.specs.Put.{put}
use Rattle.spell.proofs.WriteLaws.{put-append}

pub put-none : (l : List ℕ) (o : ℕ) → put l o [] ≡ l
unfolding put
put-none l o = refl

pub put_one : (l : List ℕ) (o b : ℕ) → put l o (b ∷ []) ≡ set l o b
unfolding put
put_one l o b = refl

put-sets : (l : List ℕ) (o : ℕ) (bs : List ℕ) → put l o bs ≡ sets l o bs
unfolding put
put-sets l o [] = refl
put-sets l o (b ∷ bs) = let e : o + 1 ≡ suc o = omega arith in rw e (put-sets (set l o b) (suc o) bs)

pub put-eq : (l : List ℕ) (o : ℕ) (bs : List ℕ) → o + length bs ≤ length l → put l o bs ≡ take o l ++ (bs ++ drop (o + length bs) l)
put-eq l o bs h = put-sets l o bs ∙ sets-eq bs l o h ∙ append_assoc (take o l) bs (drop (o + length bs) l)

-- one byte more
pub put-more : (l : List ℕ) (o : ℕ) (bs : List ℕ) (b n : ℕ) → n ≡ o + length bs → set (put l o bs) n b ≡ put l o (bs ++ (b ∷ []))
put-more l o bs b n e = rw e (sym (put-append l o bs (b ∷ []) ∙ put_one (put l o bs) (o + length bs) b))

-- bytes at the front of a part of the buffer
pub put-part : (l : List ℕ) (o k : ℕ) (bs : List ℕ) → length bs ≤ k → o + k ≤ length l
    → take o l ++ ((bs ++ drop (length bs) (take k (drop o l))) ++ drop k (drop o l)) ≡ put l o bs
put-part l o k bs h m =
    let n : length bs ≤ length (take k (drop o l)) = rw (length-take-le k (drop o l) (rw length-drop (omega arith))) h in
    let e = sym (drop-append-le (length bs) (take k (drop o l)) (drop k (drop o l)) n) ∙ ap (drop (length bs)) (take-append-drop k (drop o l)) ∙ drop-drop (length bs) o l in
    rw (append_assoc bs (drop (length bs) (take k (drop o l))) (drop k (drop o l)), e) (sym (put-eq l o bs (omega arith)))

-- a part of the buffer, moved to the front
pub moved-part : (l : List ℕ) (a e : ℕ) → a ≤ e → e ≤ length l → paste l 0 (drop a l) (e - a) ≡ put l 0 (take (e - a) (drop a l))
moved-part l a e h m =
    let n : length (take (e - a) (drop a l)) ≡ e - a = length-take-le (e - a) (drop a l) (rw length-drop (omega arith)) in
    ap (λ k. take 0 l ++ (take (e - a) (drop a l) ++ drop (0 + k) l)) (sym n) ∙ sym (put-eq l 0 (take (e - a) (drop a l)) (omega arith))
