-- The head of a quantifier with the names that are kept. Assumes nothing.
use mathlib.Core.Path.{◌≡◌, refl, ap, ◌∙◌}
use mathlib.Core.List.{List, [], ◌∷◌, ◌++◌, append-nil, map}
use Prim.Native.Nat.{ℕ, zero, suc, ◌+◌, ◌-◌, ◌≤◌, ◌<◌}
use native.Mathlib.Omega.{arith}
use borrow.Author.Tests.{le-leb, lt-leb}
use lib.ListN.{length, get_or, take, drop, set, length-append, length-drop}
use lib.Seq.{take_at, get_or-drop}
use Rattle.tree.specs.Form.{Form, encode}
use Rattle.form.specs.Lists.{Place, kept, filled}
use Rattle.form.proofs.HeadLaws.{here, gone}
use Rattle.shift.specs.Internal.Items.{store}
use Rattle.shift.proofs.ItemLaws.{store-append, store-front}
use Rattle.replace.proofs.PlainLaws.{quantify_names as quantify, kept_names}
use Rattle.replace.specs.Internal.Pieces.{kept_words, head_words, kept_head}
use Rattle.replace.proofs.FillTree.{word_for}

pub kept-yes : (w n : ℕ) → w ≡ 0 → kept_words (w ∷ []) (n ∷ []) ≡ n ∷ []
unfolding kept_words
kept-yes w n e = rw e

pub kept-no : (w n : ℕ) → (w ≡ 0 → ⊥) → kept_words (w ∷ []) (n ∷ []) ≡ []
unfolding kept_words
kept-no zero n e = absurd (e refl)
kept-no (suc w) n e = refl

-- one name stored, or not
pub kept-put : (w n : ℕ) (l l' : List ℕ) (p q : ℕ) → w ≡ 0 → l' ≡ set l p n → q ≡ p + 1 → (l' ≡ store l p (kept_words (w ∷ []) (n ∷ []))) × (q ≡ p + length (kept_words (w ∷ []) (n ∷ [])))
unfolding store
kept-put w n l l' p q e a b = rw (kept-yes w n e) (a, b)

pub kept-pass : (w n : ℕ) (l l' : List ℕ) (p q : ℕ) → (w ≡ 0 → ⊥) → l' ≡ l → q ≡ p → (l' ≡ store l p (kept_words (w ∷ []) (n ∷ []))) × (q ≡ p + length (kept_words (w ∷ []) (n ∷ [])))
unfolding store
kept-pass w n l l' p q e a b = rw (kept-no w n e) (a, omega arith)

kept_word : (w n : ℕ) (ws ns : List ℕ) → kept_words (w ∷ ws) (n ∷ ns) ≡ kept_words (w ∷ []) (n ∷ []) ++ kept_words ws ns
unfolding kept_words
kept_word zero n ws ns = refl
kept_word (suc w) n ws ns = refl

pub kept-few : (w n : ℕ) → length (kept_words (w ∷ []) (n ∷ [])) ≤ 1
unfolding kept_words
kept-few zero n = omega arith
kept-few (suc w) n = omega arith

pub store-empty : (l : List ℕ) (p : ℕ) {ws : List ℕ} → ws ≡ [] → store l p ws ≡ l
unfolding store
store-empty l p e = rw e

pub kept-short : (ws ns : List ℕ) → length (kept_words ws ns) ≤ length ws
unfolding kept_words
kept-short [] ns = omega arith
kept-short (w ∷ ws) [] = omega arith
kept-short (zero ∷ ws) (n ∷ ns) = let h = kept-short ws ns in omega arith
kept-short (suc w ∷ ws) (n ∷ ns) = let h = kept-short ws ns in omega arith

module _ (ws row : List ℕ) (i : ℕ) where
  abbrev left : ℕ → List ℕ
  left j = kept_words (drop j ws) (drop j (drop 2 row))

  module _ (low : i < length ws) (long : 2 + length ws ≤ length row) where
    kept_next : left i ≡ kept_words (get_or ws i 0 ∷ []) (get_or row (i + 2) 0 ∷ []) ++ left (i + 1)
    kept_next =
        let l = length-drop 2 row in
        let e : i + 2 ≡ 2 + i = omega arith in
        rw (here ws i low, here (drop 2 row) i (omega arith), e, ← get_or-drop 2 row i 0) (kept_word (get_or ws i 0) (get_or (drop 2 row) i 0) (drop (i + 1) ws) (drop (i + 1) (drop 2 row)))

    pub names_more : (l l' : List ℕ) (p q : ℕ) → l' ≡ store l p (kept_words (get_or ws i 0 ∷ []) (get_or row (i + 2) 0 ∷ [])) → q ≡ p + length (kept_words (get_or ws i 0 ∷ []) (get_or row (i + 2) 0 ∷ []))
        → store l p (left i) ≡ store l' q (left (i + 1))
    names_more l l' p q e n = rw (kept_next, store-append l p (kept_words (get_or ws i 0 ∷ []) (get_or row (i + 2) 0 ∷ [])), ← e, ← n)

    pub names-long : (p q : ℕ) → q ≡ p + length (kept_words (get_or ws i 0 ∷ []) (get_or row (i + 2) 0 ∷ [])) → p + length (left i) ≡ q + length (left (i + 1))
    names-long p q n = rw (kept_next, length-append) (omega arith)

  pub names-end : length ws ≤ i → left i ≡ []
  unfolding kept_words
  names-end h = rw (gone ws i h)

-- the head as it is written
pub head-none : (t p : ℕ) (ks l : List ℕ) → p ≡ 2 + length ks → p ≡ 2 → take 0 l ≡ head_words t ks
unfolding head_words
head-none t p [] l e q = refl
head-none t p (k ∷ ks) l e q = absurd (omega arith)

pub head-some : (t p : ℕ) (ks l l' : List ℕ) → 2 + length ks ≤ length l → l' ≡ store l 2 ks → p ≡ 2 + length ks → (p ≡ 2 → ⊥) → take p (set (set l' 0 t) 1 (p - 2)) ≡ head_words t ks
unfolding head_words
head-some t p [] l l' h e q n = absurd (n (omega arith))
head-some t p (k ∷ ks) [] l' h e q n = absurd (omega arith)
head-some t p (k ∷ ks) (a ∷ []) l' h e q n = absurd (omega arith)
head-some t p (k ∷ ks) (a ∷ b ∷ l) l' h e q n =
    let s = store-front (a ∷ b ∷ []) l (k ∷ ks) 2 refl (omega arith) in
    let m : p - 2 ≡ suc (length ks) = omega arith in
    let o : p ≡ suc (suc (suc (length ks))) = omega arith in
    rw (e ∙ s, m, o) (ap (λ z. t ∷ suc (length ks) ∷ k ∷ z) (take_at ks (drop (suc (length ks)) l) (length ks) refl))

-- the head on the tree
pub kept-names : (ps : List Place) (ns r : List ℕ) → length ps ≡ length ns → kept_words (map word_for ps) (ns ++ r) ≡ kept_names ps ns
unfolding kept_words
kept-names [] ns r e = refl
kept-names (p ∷ ps) [] r e = absurd (omega arith)
kept-names (kept ∷ ps) (n ∷ ns) r e = ap (λ z. n ∷ z) (kept-names ps ns r (omega arith))
kept-names (filled x ∷ ps) (n ∷ ns) r e = kept-names ps ns r (omega arith)

pub encode-quantify : (t : ℕ) (ks : List ℕ) (g : Form) → head_words t ks ++ encode g ≡ encode (quantify t ks g)
unfolding head_words encode
encode-quantify t [] g = refl
encode-quantify t (k ∷ ks) g = rw append-nil

-- the head where there are few words, a name for each and room for it
module _ (ws row : List ℕ) (room : ℕ) where
  pub head-many : 32 < length ws → [] ≡ kept_head ws row room
  unfolding kept_head
  head-many h = rw (lt-leb (length ws) 32 h)

  module _ (few : length ws ≤ 32) where
    pub head-short : length row < 2 + length ws → [] ≡ kept_head ws row room
    unfolding kept_head
    head-short h = rw (le-leb (length ws) 32 few, lt-leb (2 + length ws) (length row) h)

    module _ (named : 2 + length ws ≤ length row) where
      pub head-tight : room < 2 + length ws → [] ≡ kept_head ws row room
      unfolding kept_head
      head-tight h = rw (le-leb (length ws) 32 few, le-leb (2 + length ws) (length row) named, lt-leb (2 + length ws) room h)

      pub head-kept : 2 + length ws ≤ room → head_words (get_or row 0 0) (kept_words ws (drop 2 row)) ≡ kept_head ws row room
      unfolding kept_head
      head-kept h = rw (le-leb (length ws) 32 few, le-leb (2 + length ws) (length row) named, le-leb (2 + length ws) room h)
