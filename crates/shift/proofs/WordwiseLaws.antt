-- Words rewritten one by one, each by the mark and the word before it: the same as item by item, where no two marks stand side by side,
-- as in a form's row. Assumes nothing.
use Rattle.std.proofs.Common.{◌≡◌, ℕ, zero, suc, ◌+◌, ◌-◌, ◌<◌, ◌≤◌, Bool, true, leb, List, [], ◌∷◌, ◌++◌, length, get_or, drop, set, replicate, refl, ap, append_assoc, append-nil, le_refl, arith, drop-drop, le-leb, leb-true}
use Rattle.tree.specs.Form.{Form, leaf, free, bound, node, noted, Decls, undeclared, bare, typed, names_of, Forms, none, more, encode, encode_decls, encode_all}
use Rattle.form.proofs.DecodeLaws.{clash}
use Rattle.form.proofs.HeadLaws.{here, gone}
use Rattle.reader.specs.Internal.Reads.{mark}
use Rattle.rules.proofs.WalkLaws.{and_left, and_right}
use Rattle.shift.specs.Internal.Items.{items, rewritten, all_items, wordwise, apart, word_item, word_items, store}
use Rattle.shift.specs.declared.items.Item.{Item}
use Rattle.shift.specs.declared.items.Item.TheVariants.{Plain, Ident}
use Rattle.shift.proofs.RowLaws.{zeros, marks_of, marks_decls, marks_all, mark-front}

pub back_one : (i : ℕ) → i ≡ i + 1 - 1
back_one i = omega arith

unmarked : (lo : ℕ) (ws : List ℕ) → apart lo ws [] ≡ true
unfolding apart
unmarked lo [] = refl
unmarked lo (w ∷ ws) = refl

module _ (h : ℕ → ℕ → ℕ → ℕ) where
  pub wordwise-length : (m t : ℕ) (ws ms : List ℕ) → length (wordwise h m t ws ms) ≡ length ws
  unfolding wordwise
  wordwise-length m t [] ms = refl
  wordwise-length m t (w ∷ ws) [] = ap suc (wordwise-length 0 w ws [])
  wordwise-length m t (w ∷ ws) (k ∷ ms) = ap suc (wordwise-length k w ws ms)

  -- a loop that stores them: one more word, and no more
  pub word_more : (row marks : List ℕ) (i p m t : ℕ) → i < length row → i < length marks → (out out' : List ℕ) → out' ≡ set out p (h m t (get_or row i 0))
      → store out p (wordwise h m t (drop i row) (drop i marks)) ≡ store out' (p + 1) (wordwise h (get_or marks i 0) (get_or row i 0) (drop (i + 1) row) (drop (i + 1) marks))
  unfolding wordwise store
  word_more row marks i p m t low marked out out' e = rw (here row i low, here marks i marked, e)

  pub word_none : (row marks : List ℕ) (i p m t : ℕ) → length row ≤ i → (out : List ℕ) → store out p (wordwise h m t (drop i row) (drop i marks)) ≡ out
  unfolding wordwise store
  word_none row marks i p m t high out = rw (gone row i high)

  -- the same as item by item
  module _ (still : (t v : ℕ) → h 0 t v ≡ v) where
    first-tag : (t u : ℕ) (ws ms : List ℕ) → wordwise h 0 t ws ms ≡ wordwise h 0 u ws ms
    unfolding wordwise
    first-tag t u [] ms = refl
    first-tag t u (w ∷ ws) [] = rw (still t w, still u w)
    first-tag t u (w ∷ ws) (k ∷ ms) = rw (still t w, still u w)

    pub wordwise-items : (g : Item → List ℕ) → ((w : ℕ) → g (Plain w) ≡ w ∷ []) → ((k t v : ℕ) → g (Ident k t v) ≡ t ∷ h (suc k) t v ∷ []) → (lo : ℕ) (ws ms : List ℕ) → apart lo ws ms ≡ true
        → rewritten g (items ws ms) ≡ wordwise h 0 0 ws ms
    unfolding rewritten items wordwise apart
    wordwise-items g plain ident lo [] ms a = refl
    wordwise-items g plain ident lo (w ∷ ws) [] a = rw (plain w, still 0 w, wordwise-items g plain ident lo ws [] (unmarked lo ws), first-tag w 0 ws [])
    wordwise-items g plain ident lo (w ∷ ws) (zero ∷ ms) a = rw (plain w, still 0 w, wordwise-items g plain ident lo ws ms a, first-tag w 0 ws ms)
    wordwise-items g plain ident lo (w ∷ []) (suc k ∷ ms) a = rw (plain w, still 0 w)
    wordwise-items g plain ident lo (w ∷ v ∷ ws) (suc k ∷ []) a = rw (ident k w v, still 0 w, wordwise-items g plain ident lo ws [] (unmarked lo ws), first-tag v 0 ws [])
    wordwise-items g plain ident lo (w ∷ v ∷ ws) (suc k ∷ zero ∷ ms) a =
        rw (ident k w v, still 0 w, wordwise-items g plain ident lo ws ms (and_right (leb lo k) (apart lo ws ms) a), first-tag v 0 ws ms)
    wordwise-items g plain ident lo (w ∷ v ∷ ws) (suc k ∷ suc j ∷ ms) a = absurd (clash cc)

-- a test of all items holds word by word, if it holds of every plain word
module _ (q : Item → Bool) (plain : (w : ℕ) → q (Plain w) ≡ true) where
  tag-first : (t u : ℕ) (ws ms : List ℕ) → all_items q (word_items 0 t ws ms) ≡ all_items q (word_items 0 u ws ms)
  unfolding all_items word_items word_item
  tag-first t u [] ms = refl
  tag-first t u (w ∷ ws) [] = refl
  tag-first t u (w ∷ ws) (k ∷ ms) = refl

  pub all_words : (lo : ℕ) (ws ms : List ℕ) → apart lo ws ms ≡ true → all_items q (items ws ms) ≡ all_items q (word_items 0 0 ws ms)
  unfolding all_items items word_items word_item apart
  all_words lo [] ms a = refl
  all_words lo (w ∷ ws) [] a = rw (plain w, all_words lo ws [] (unmarked lo ws), tag-first w 0 ws [])
  all_words lo (w ∷ ws) (zero ∷ ms) a = rw (plain w, all_words lo ws ms a, tag-first w 0 ws ms)
  all_words lo (w ∷ []) (suc k ∷ ms) a = rw (plain w)
  all_words lo (w ∷ v ∷ ws) (suc k ∷ []) a = rw (plain w, all_words lo ws [] (unmarked lo ws), tag-first v 0 ws [])
  all_words lo (w ∷ v ∷ ws) (suc k ∷ zero ∷ ms) a = rw (plain w, all_words lo ws ms (and_right (leb lo k) (apart lo ws ms) a), tag-first v 0 ws ms)
  all_words lo (w ∷ v ∷ ws) (suc k ∷ suc j ∷ ms) a = absurd (clash cc)

-- further on in a row the marks are apart too
module _ (lo : ℕ) where
  apart-rest : (w m : ℕ) (ws ms : List ℕ) → apart lo (w ∷ ws) (m ∷ ms) ≡ true → apart lo ws ms ≡ true
  unfolding apart
  apart-rest w zero ws ms a = a
  apart-rest w (suc k) [] ms a = refl
  apart-rest w (suc k) (v ∷ ws) [] a = refl
  apart-rest w (suc k) (v ∷ ws) (zero ∷ ms) a = and_right (leb lo k) (apart lo ws ms) a
  apart-rest w (suc k) (v ∷ ws) (suc j ∷ ms) a = absurd (clash cc)

  pub apart-drop : (i : ℕ) (ws ms : List ℕ) → apart lo ws ms ≡ true → apart lo (drop i ws) (drop i ms) ≡ true
  unfolding apart
  apart-drop zero ws ms a = a
  apart-drop (suc i) [] ms a = refl
  apart-drop (suc i) (w ∷ ws) [] a = unmarked lo (drop i ws)
  apart-drop (suc i) (w ∷ ws) (m ∷ ms) a = apart-drop i ws ms (apart-rest w m ws ms a)

  pub apart-on : (row marks : List ℕ) (i j : ℕ) → i ≤ j → apart lo (drop i row) (drop i marks) ≡ true → apart lo (drop j row) (drop j marks) ≡ true
  apart-on row marks i j h a =
      let e : i + (j - i) ≡ j = omega arith in
      rw (drop-drop (j - i) i row, drop-drop (j - i) i marks, e) at (apart-drop (j - i) (drop i row) (drop i marks) a)

  mark-first : (w v m : ℕ) (ws ms : List ℕ) → apart lo (w ∷ v ∷ ws) (m ∷ ms) ≡ true → (m ≡ 0 → ⊥) → lo < m
  unfolding apart
  mark-first w v zero ws ms a n = absurd (n refl)
  mark-first w v (suc k) ws [] a n = let l = leb-true lo k a in omega arith
  mark-first w v (suc k) ws (zero ∷ ms) a n = let l = leb-true lo k (and_left (leb lo k) (apart lo ws ms) a) in omega arith
  mark-first w v (suc k) ws (suc j ∷ ms) a n = absurd (clash cc)

  pub mark-over : (i : ℕ) (row marks : List ℕ) → apart lo (drop i row) (drop i marks) ≡ true → i + 1 < length row → i < length marks → (get_or marks i 0 ≡ 0 → ⊥) → lo < get_or marks i 0
  mark-over i row marks a low marked n =
      mark-first (get_or row i 0) (get_or row (i + 1) 0) (get_or marks i 0) (drop (i + 1 + 1) row) (drop (i + 1) marks) (rw (here row i (omega arith), here row (i + 1) low, here marks i marked) at a) n

-- the marks of a form
apart-plain : (lo : ℕ) (o r m : List ℕ) → apart lo (o ++ r) (zeros o ++ m) ≡ apart lo r m
unfolding apart
apart-plain lo [] r m = refl
apart-plain lo (w ∷ o) r m = apart-plain lo o r m

mutual
  unfolding apart marks_of encode

  pub apart-encode : (lo k : ℕ) (f : Form) (r m : List ℕ) → lo ≤ k → apart lo (encode f ++ r) (marks_of k f ++ m) ≡ apart lo r m
  apart-encode lo k (leaf (free n)) r m h = rw (le-leb lo k h)
  apart-encode lo k (leaf (bound n)) r m h = rw (le-leb lo k h)
  apart-encode lo k (node t o ds ks) r m h =
      rw (append_assoc o, append_assoc ds, append_assoc (zeros o), append_assoc (zeros ds), apart-plain lo o, apart-plain lo ds, apart-encode_all lo (length ds + k) ks r m (omega arith))
  apart-encode lo k (noted t o ds ks) r m h =
      rw (append_assoc o, append_assoc (encode_decls ds), append_assoc (zeros o), append_assoc (marks_decls k ds), apart-plain lo o, apart-encode_decls lo k ds (encode_all ks ++ r) (marks_all (length (names_of ds) + k) ks ++ m) h, apart-encode_all lo (length (names_of ds) + k) ks r m (omega arith))

  apart-encode_decls : (lo k : ℕ) (ds : Decls) (r m : List ℕ) → lo ≤ k → apart lo (encode_decls ds ++ r) (marks_decls k ds ++ m) ≡ apart lo r m
  apart-encode_decls lo k undeclared r m h = refl
  apart-encode_decls lo k (bare n ds) r m h = apart-encode_decls lo k ds r m h
  apart-encode_decls lo k (typed n f ds) r m h =
      rw (append_assoc (encode f), append_assoc (marks_of k f), apart-encode lo k f (encode_decls ds ++ r) (marks_decls k ds ++ m) h, apart-encode_decls lo k ds r m h)

  apart-encode_all : (lo k : ℕ) (fs : Forms) (r m : List ℕ) → lo ≤ k → apart lo (encode_all fs ++ r) (marks_all k fs ++ m) ≡ apart lo r m
  apart-encode_all lo k none r m h = refl
  apart-encode_all lo k (more f fs) r m h =
      rw (append_assoc (encode f), append_assoc (marks_of k f), apart-encode lo k f (encode_all fs ++ r) (marks_all k fs ++ m) h, apart-encode_all lo k fs r m h)

pub marks-apart : (f : Form) (u n : ℕ) → length (encode f) ≤ n → apart u (encode f) (mark f 0 u (replicate n 0)) ≡ true
unfolding apart
marks-apart f u n h = rw (mark-front f u n h) (rw append-nil at (apart-encode u u f [] (replicate (n - length (encode f)) 0) (le_refl u)))
