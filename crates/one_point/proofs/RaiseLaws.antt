-- Marks raised by more declarations, one after another. Assumes nothing.
use mathlib.Core.Path.{◌≡◌, refl, ap, ◌∙◌}
use mathlib.Core.List.{List, [], ◌∷◌, ◌++◌, append_assoc, append-nil, map}
use Prim.Native.Nat.{ℕ, zero, suc, ◌+◌, ◌-◌, ◌≤◌, ◌<◌}
use native.Mathlib.Nat.{zero-add, add_assoc}
use native.Mathlib.Numerals.{add-one}
use native.Mathlib.Omega.{arith}
use borrow.Author.Tests.{ne_eqb}
use lib.ListN.{length, get_or, take, drop, set, replicate, length-append}
use lib.Seq.{take_all, take-suc, get_or_at, length-take-le, set_at}
use Rattle.tree.specs.Form.{Form, leaf, node, noted, Decls, undeclared, bare, typed, names_of, Forms, none, more, encode, encode_decls, encode_all}
use Rattle.reader.specs.Internal.Reads.{mark}
use Rattle.form.proofs.HeadLaws.{here, gone}
use Rattle.shift.proofs.RowLaws.{zeros, marks_of, marks_decls, marks_all, mark-front}
use Rattle.one_point.specs.Internal.Marks.{raise_mark, CanRaise}

-- marks under more declarations
raise-zeros : (k : ℕ) (l : List ℕ) → map (raise_mark k) (zeros l) ≡ zeros l
unfolding raise_mark
raise-zeros k [] = refl
raise-zeros k (w ∷ l) = ap (λ z. 0 ∷ z) (raise-zeros k l)

map-append : (g : ℕ → ℕ) (a b : List ℕ) → map g (a ++ b) ≡ map g a ++ map g b
map-append g [] b = refl
map-append g (x ∷ a) b = ap (λ z. g x ∷ z) (map-append g a b)

module _ (k : ℕ) where
  mutual
    unfolding marks_of raise_mark

    raise-marks : (u : ℕ) (f : Form) → map (raise_mark k) (marks_of u f) ≡ marks_of (u + k) f
    raise-marks u (leaf x) = let e : suc u + k ≡ suc (u + k) = omega arith in rw (ne_eqb (suc u) 0 (λ z. omega arith), e) refl
    raise-marks u (node t o ds ks) =
        rw (map-append (raise_mark k) (zeros o), map-append (raise_mark k) (zeros ds), raise-zeros k o, raise-zeros k ds, raise-marks_all (length ds + u) ks, add_assoc (length ds) u k) refl
    raise-marks u (noted t o ds ks) =
        rw (map-append (raise_mark k) (zeros o), map-append (raise_mark k) (marks_decls u ds), raise-zeros k o, raise-marks_decls u ds, raise-marks_all (length (names_of ds) + u) ks, add_assoc (length (names_of ds)) u k) refl

    pub raise-marks_decls : (u : ℕ) (ds : Decls) → map (raise_mark k) (marks_decls u ds) ≡ marks_decls (u + k) ds
    raise-marks_decls u undeclared = refl
    raise-marks_decls u (bare n ds) = ap (λ z. 0 ∷ 0 ∷ z) (raise-marks_decls u ds)
    raise-marks_decls u (typed n f ds) = ap (λ z. 0 ∷ 0 ∷ z) (rw (map-append (raise_mark k) (marks_of u f), raise-marks u f, raise-marks_decls u ds) refl)

    raise-marks_all : (u : ℕ) (fs : Forms) → map (raise_mark k) (marks_all u fs) ≡ marks_all (u + k) fs
    raise-marks_all u none = refl
    raise-marks_all u (more f fs) = rw (map-append (raise_mark k) (marks_of u f), raise-marks u f, raise-marks_all u fs)

pub raised-are : (f : Form) (k n : ℕ) (ms ms' : List ℕ) → length (encode f) ≡ n → ms ≡ mark f 0 0 (replicate n 0) → ms' ≡ map (raise_mark k) ms → ms' ≡ mark f 0 k (replicate n 0)
raised-are f k n ms ms' l e r =
    let z : n - length (encode f) ≡ 0 = omega arith in
    let a : mark f 0 0 (replicate n 0) ≡ marks_of 0 f = rw (z, append-nil) at (mark-front f 0 n (omega arith)) in
    let b : mark f 0 k (replicate n 0) ≡ marks_of k f = rw (z, append-nil) at (mark-front f k n (omega arith)) in
    rw (r, e, a, b, raise-marks k 0 f, zero-add)

-- marks raised one after another
abbrev pub raised_to : ℕ → ℕ → List ℕ → List ℕ
raised_to k i l = map (raise_mark k) (take i l) ++ drop i l

module _ (k i : ℕ) (l₀ l : List ℕ) (h : i < length l₀) (e : l ≡ raised_to k i l₀) where
  raised_long : length (map (raise_mark k) (take i l₀)) ≡ i
  raised_long = map-long (take i l₀) ∙ length-take-le i l₀ (omega arith)
    where
      map-long : (a : List ℕ) → length (map (raise_mark k) a) ≡ length a
      map-long [] = refl
      map-long (x ∷ a) = ap suc (map-long a)

  raised-split : l ≡ map (raise_mark k) (take i l₀) ++ (get_or l₀ i 0 ∷ drop (i + 1) l₀)
  raised-split = e ∙ ap (λ (z : List ℕ). map (raise_mark k) (take i l₀) ++ z) (here l₀ i h)

  pub raise-here : get_or l i 0 ≡ get_or l₀ i 0
  raise-here = rw raised-split (get_or_at (map (raise_mark k) (take i l₀)) (get_or l₀ i 0) (drop (i + 1) l₀) 0 i raised_long)

  pub raise-more : (v : ℕ) → v ≡ raise_mark k (get_or l i 0) → set l i v ≡ raised_to k (i + 1) l₀
  raise-more v q =
      let a : v ≡ raise_mark k (get_or l₀ i 0) = q ∙ ap (raise_mark k) raise-here in
      let b : take (i + 1) l₀ ≡ take i l₀ ++ (get_or l₀ i 0 ∷ []) = rw (add-one, take-suc l₀ i 0 h) in
      ap (λ (z : List ℕ). set z i v) raised-split
      ∙ (set_at (map (raise_mark k) (take i l₀)) (get_or l₀ i 0) (drop (i + 1) l₀) v i raised_long ∙ rw (b, map-append (raise_mark k) (take i l₀), append_assoc, a) refl)

pub raise-all : (k i : ℕ) (l₀ l : List ℕ) → length l₀ ≤ i → l ≡ raised_to k i l₀ → l ≡ map (raise_mark k) l₀
raise-all k i l₀ l h e = e ∙ rw (take_all i l₀ h, gone l₀ i h, append-nil)

-- marks are no larger than the words are many
abbrev pub Low : ℕ → List ℕ → Type 0
Low m l = (i : ℕ) → get_or l i 0 ≤ m

low-append : (m : ℕ) (a b : List ℕ) → Low m a → Low m b → Low m (a ++ b)
low-append m [] b h k i = k i
low-append m (x ∷ a) b h k zero = h 0
low-append m (x ∷ a) b h k (suc i) = low-append m a b (λ j. h (suc j)) k i

low_zeros : (m : ℕ) (l : List ℕ) → Low m (zeros l)
low_zeros m [] i = omega arith
low_zeros m (x ∷ l) zero = omega arith
low_zeros m (x ∷ l) (suc i) = low_zeros m l i

names-short : (ds : Decls) → length (names_of ds) ≤ length (encode_decls ds)
unfolding encode
names-short undeclared = omega arith
names-short (bare n ds) = let h = names-short ds in omega arith
names-short (typed n f ds) = let h = names-short ds in let a = length-append (encode f) (encode_decls ds) in omega arith

mutual
  unfolding marks_of encode

  low-marks : (m u : ℕ) (f : Form) → suc u + length (encode f) ≤ m → Low m (marks_of u f)
  low-marks m u (leaf x) h zero = omega arith
  low-marks m u (leaf x) h (suc zero) = omega arith
  low-marks m u (leaf x) h (suc (suc i)) = omega arith
  low-marks m u (node t o ds ks) h zero = omega arith
  low-marks m u (node t o ds ks) h (suc i) =
      let a = length-append o (ds ++ encode_all ks) in
      let b = length-append ds (encode_all ks) in
      low-append m (zeros o) (zeros ds ++ marks_all (length ds + u) ks) (low_zeros m o) (low-append m (zeros ds) (marks_all (length ds + u) ks) (low_zeros m ds) (λ j. low-marks_all m (length ds + u) ks (omega arith) j)) i
  low-marks m u (noted t o ds ks) h zero = omega arith
  low-marks m u (noted t o ds ks) h (suc i) =
      let a = length-append o (encode_decls ds ++ encode_all ks) in
      let b = length-append (encode_decls ds) (encode_all ks) in
      let c = names-short ds in
      low-append m (zeros o) (marks_decls u ds ++ marks_all (length (names_of ds) + u) ks) (low_zeros m o) (low-append m (marks_decls u ds) (marks_all (length (names_of ds) + u) ks) (λ j. low-marks_decls m u ds (omega arith) j) (λ j. low-marks_all m (length (names_of ds) + u) ks (omega arith) j)) i

  pub low-marks_decls : (m u : ℕ) (ds : Decls) → suc u + length (encode_decls ds) ≤ m → Low m (marks_decls u ds)
  low-marks_decls m u undeclared h i = omega arith
  low-marks_decls m u (bare n ds) h zero = omega arith
  low-marks_decls m u (bare n ds) h (suc zero) = omega arith
  low-marks_decls m u (bare n ds) h (suc (suc i)) = low-marks_decls m u ds (omega arith) i
  low-marks_decls m u (typed n f ds) h zero = omega arith
  low-marks_decls m u (typed n f ds) h (suc zero) = omega arith
  low-marks_decls m u (typed n f ds) h (suc (suc i)) =
      let a = length-append (encode f) (encode_decls ds) in
      low-append m (marks_of u f) (marks_decls u ds) (λ j. low-marks m u f (omega arith) j) (λ j. low-marks_decls m u ds (omega arith) j) i

  low-marks_all : (m u : ℕ) (fs : Forms) → suc u + length (encode_all fs) ≤ m → Low m (marks_all u fs)
  low-marks_all m u none h i = omega arith
  low-marks_all m u (more f fs) h i =
      let a = length-append (encode f) (encode_all fs) in
      low-append m (marks_of u f) (marks_all u fs) (λ j. low-marks m u f (omega arith) j) (λ j. low-marks_all m u fs (omega arith) j) i

pub marks-raise : (f : Form) (k n : ℕ) (ms : List ℕ) → length (encode f) ≡ n → n ≤ 16384 → k ≤ 32 → ms ≡ mark f 0 0 (replicate n 0) → CanRaise k ms
marks-raise f k n ms l short few e i =
    let z : n - length (encode f) ≡ 0 = omega arith in
    let a : ms ≡ marks_of 0 f = e ∙ (rw (z, append-nil) at (mark-front f 0 n (omega arith))) in
    let b = rw (← a) at (low-marks 16385 0 f (omega arith) i) in
    omega arith
