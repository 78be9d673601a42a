-- Words put into the middle of a row by the library's methods are stored there. Assumes nothing.
use mathlib.Core.Path.{◌≡◌, ap, sym, ◌∙◌}
use mathlib.Core.List.{List}
use Prim.Native.Nat.{ℕ, ◌+◌, ◌-◌, ◌≤◌}
use native.Mathlib.Omega.{arith}
use lib.ListN.{length, take, drop, replicate, length-drop, length-replicate}
use lib.Seq.{length-take-le}
use Rattle.std.proofs.lemmas.List.{take-append-drop}
use Rattle.shift.specs.Internal.Items.{store}
use Rattle.shift.proofs.ItemLaws.{store-front}
use borrow.Rule.Slice.PartMut.{put_mid}

pub put-stored : (l ws : List ℕ) (at k : ℕ) → k ≡ length ws → at + length ws ≤ length l → put_mid at k l ws ≡ store l at ws
put-stored l ws at k e h =
    let a : length (take at l) ≡ at = length-take-le at l (omega arith) in
    let b : length ws ≤ length (drop at l) = omega (arith, length-drop at l) in
    let s = store-front (take at l) (drop at l) ws at a b in
    rw e (sym (ap (λ (z : List ℕ). store z at ws) (sym (take-append-drop at l)) ∙ s))

zeros-long : (n : ℕ) → length {A = ℕ} (replicate n 0) ≡ n
zeros-long n = rw length-replicate

pub zeros-stored : (l ws : List ℕ) (at n : ℕ) → at + n ≤ length l → ws ≡ replicate (length (take (at + n - at) (drop at l))) 0 → put_mid at (at + n - at) l ws ≡ store l at (replicate n 0)
zeros-stored l ws at n h e =
    let d = length-drop at l in
    let k : length (take (at + n - at) (drop at l)) ≡ n = length-take-le (at + n - at) (drop at l) (omega arith) ∙ omega arith in
    rw (e, k) (put-stored l (replicate n 0) at (at + n - at) (omega (arith, zeros-long n)) (omega (arith, zeros-long n)))
