-- Words stored in the row that is made. Assumes nothing.
use Rattle.std.proofs.Common.{◌≡◌, ℕ, suc, ◌+◌, ◌-◌, ◌≤◌, ◌<◌, List, [], ◌∷◌, ◌++◌, length, get_or, take, drop, set, refl, sym, arith}
use lib.Seq.{length-take-le}
use Rattle.shift.specs.Internal.Items.{store}
use Rattle.shift.proofs.ItemLaws.{stored}
use Rattle.form.proofs.HeadLaws.{here}

-- the first words of a row, put at the start of another
pub copied : (made out : List ℕ) (end : ℕ) → end ≤ length made → end ≤ length out → take end made ++ drop end out ≡ store out 0 (take (end - 0) made)
copied made out end h k =
    let l = length-take-le end made h in
    let z : end - 0 ≡ end = omega arith in
    rw z (sym (rw l at (stored out (take end made) (omega (arith, l)))))

pub copy_more : (row made : List ℕ) (i end : ℕ) → i < end → end ≤ length row → store made i (take (end - i) (drop i row)) ≡ store (set made i (get_or row i 0)) (i + 1) (take (end - (i + 1)) (drop (i + 1) row))
unfolding store
copy_more row made i end h l =
    let k : i < length row = omega arith in
    let e : end - i ≡ suc (end - (i + 1)) = omega arith in
    rw (here row i k, e) refl

pub copy-none : (row made : List ℕ) (i end : ℕ) → end ≤ i → store made i (take (end - i) (drop i row)) ≡ made
unfolding store
copy-none row made i end h = let e : end - i ≡ 0 = omega arith in rw e (nothing (drop i row))
  where
    nothing : (l : List ℕ) → store made i (take 0 l) ≡ made
    nothing [] = refl
    nothing (w ∷ l) = refl
