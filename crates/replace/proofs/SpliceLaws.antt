-- A row spliced word by word: the steps of the loops, and that it is what the plan puts item by item. Assumes nothing.
use mathlib.Core.Path.{◌≡◌, refl, ap, sym, ◌∙◌}
use mathlib.Core.Bool.{Bool, true, false, ◌&&◌}
use mathlib.Core.Option.{Option, none as absent, some}
use mathlib.Core.List.{List, [], ◌∷◌, ◌++◌}
use Prim.Native.Nat.{ℕ, zero, suc, ◌+◌, ◌-◌, ◌≤◌, ◌<◌}
use native.Mathlib.Nat.{le_refl}
use native.Mathlib.Omega.{arith}
use borrow.Author.Tests.{eqb-true, ne_eqb, leb-true, leb-false, lt-ltb, le-ltb, ltb-true, ltb-false}
use lib.Dec.{leb, ltb, eqb}
use lib.ListN.{length, get_or, take, drop, set, length-append, length-set}
use lib.Seq.{drop-drop, get_or-drop}
use Rattle.tree.specs.Form.{pick}
use Rattle.form.proofs.DecodeLaws.{clash}
use Rattle.form.proofs.HeadLaws.{here, gone}
use Rattle.rules.proofs.WalkLaws.{and_left, and_right}
use Rattle.shift.specs.Internal.Items.{items, words_of, rewritten, apart, word_item, store}
use Rattle.shift.proofs.ItemLaws.{store-append}
use Rattle.shift.specs.declared.items.Item.{Item}
use Rattle.shift.specs.declared.items.Item.TheVariants.{Plain, Ident}
use Rattle.replace.specs.Internal.Pieces.{piece_words, piece_size, spot, free_piece, fill_piece, piece_of, planned, sizes, Ready, Fits}
use Rattle.replace.specs.Internal.Splice.{put_for, next_word, spliced, pair_ok, Becomes, Splicing}
use Rattle.replace.specs.declared.pieces.Piece.{Piece}
use Rattle.replace.specs.declared.pieces.Piece.TheVariants.{Same, Index, Part}
use Rattle.replace.specs.declared.pieces.Plan.{Plan}
use Rattle.replace.proofs.PieceLaws.{piece-length, planned-length, piece-fits, part-fits}

-- an index stands for an index
part-no-index : (b : Bool) (s e k d u : ℕ) → pick b Same (Part s e k d) ≡ Index u → ⊥
part-no-index true s e k d u q = clash cc
part-no-index false s e k d u q = clash cc

free-no-index : (p : Plan) (k v u : ℕ) → free_piece p k v ≡ Index u → ⊥
unfolding free_piece
free-no-index p k v u q =
    let i = spot v (take p.table.n p.table.words) in
    part-no-index (leb p.table.n i) (get_or p.table.starts i 0) (get_or p.table.ends i 0) k p.down u q

index-by : (a b c : Bool) (x : Piece) (p : Plan) (k t v u : ℕ) → eqb t 2 ≡ b → pick a (pick b x Same) (pick c (free_piece p k v) Same) ≡ Index u → t ≡ 2
index-by true true c x p k t v u q h = eqb-true t 2 q
index-by true false c x p k t v u q h = absurd (clash cc)
index-by false b true x p k t v u q h = absurd (free-no-index p k v u h)
index-by false b false x p k t v u q h = absurd (clash cc)

index-only : (p : Plan) (k t v u : ℕ) → piece_of p (Ident k t v) ≡ Index u → t ≡ 2
unfolding piece_of
index-only p k t v u e = index-by p.fills (eqb t 2) (eqb t 1) (fill_piece p k v) p k t v u refl e

-- marks that stand apart, by the test of each and the next
leb-ltb : (lo k : ℕ) → ltb lo (suc k) ≡ leb lo k
leb-ltb lo k = go (leb lo k) refl
  where
    go : (b : Bool) → leb lo k ≡ b → ltb lo (suc k) ≡ b
    go true e = let h = leb-true lo k e in lt-ltb lo (suc k) (omega arith)
    go false e = let h = leb-false lo k e in le-ltb lo (suc k) (omega arith)

and_yes : (b : Bool) → (b && true) ≡ b
and_yes true = refl
and_yes false = refl

and_no : (b : Bool) → (b && false) ≡ false
and_no true = refl
and_no false = refl

apart-pair : (lo w v m k : ℕ) (ws ms : List ℕ) → apart lo (w ∷ v ∷ ws) (m ∷ k ∷ ms) ≡ (pair_ok lo m k && apart lo (v ∷ ws) (k ∷ ms))
unfolding apart pair_ok
apart-pair lo w v zero k ws ms = refl
apart-pair lo w v (suc j) zero ws ms = rw (ne_eqb (suc j) 0 (λ z. omega arith), leb-ltb lo j, and_yes (leb lo j))
apart-pair lo w v (suc j) (suc k) ws ms = rw (ne_eqb (suc j) 0 (λ z. omega arith), ne_eqb (suc k) 0 (λ z. omega arith), and_no (ltb lo (suc j)))

apart-one : (lo w m : ℕ) (ms : List ℕ) → apart lo (w ∷ []) (m ∷ ms) ≡ true
unfolding apart
apart-one lo w zero ms = refl
apart-one lo w (suc k) ms = refl

module _ (lo : ℕ) (row marks : List ℕ) (i : ℕ) (z b : Bool) (e : z ≡ (b && apart lo (drop i row) (drop i marks))) where
  pub pairs-more : i + 1 < length row → i + 1 < length marks → z ≡ ((b && pair_ok lo (get_or marks i 0) (get_or marks (i + 1) 0)) && apart lo (drop (i + 1) row) (drop (i + 1) marks))
  pairs-more low marked =
      e ∙ rw (here row i (omega arith), here marks i (omega arith), here row (i + 1) low, here marks (i + 1) marked, apart-pair) (go b (pair_ok lo (get_or marks i 0) (get_or marks (i + 1) 0)) _)
    where
      go : (a b c : Bool) → (a && (b && c)) ≡ ((a && b) && c)
      go true true c = refl
      go true false c = refl
      go false true c = refl
      go false false c = refl

  pub pairs_end : i < length row → length row ≤ i + 1 → i < length marks → b ≡ z
  pairs_end low high marked = sym (e ∙ rw (here row i low, gone row (i + 1) high, here marks i marked, apart-one) (and_yes b))

-- what the test of a row's marks tells
pub splicing : (lo : ℕ) (p : Plan) (list lm row marks : List ℕ) (start at room : ℕ) → Ready p list lm → at + sizes p (items (drop start row) (drop start marks)) ≤ room
    → (b : Bool) → b ≡ (ltb start (length row) && (leb (length row) (length marks) && apart lo (drop start row) (drop start marks))) → b ≡ true → Splicing lo p list lm row marks start at room
splicing lo p list lm row marks start at room ready fits b e h =
    let a = sym e ∙ h in
    let c = and_right (ltb start (length row)) (leb (length row) (length marks) && apart lo (drop start row) (drop start marks)) a in
    record {
      ready = ready;
      within = ltb-true start (length row) (and_left (ltb start (length row)) (leb (length row) (length marks) && apart lo (drop start row) (drop start marks)) a);
      long = leb-true (length row) (length marks) (and_left (leb (length row) (length marks)) (apart lo (drop start row) (drop start marks)) c);
      apart-on = and_right (leb (length row) (length marks)) (apart lo (drop start row) (drop start marks)) c;
      fits = fits;
    }

module _ (p : Plan) (list lm : List ℕ) where
  -- the loops: no words, the last word, one word more, and a part for two words
  splice-none : (row marks : List ℕ) (i : ℕ) (x : Option ℕ) → length row ≤ i → spliced p list lm x (drop i row) (drop i marks) ≡ []
  unfolding spliced
  splice-none row marks i x high = rw (gone row i high)

  splice-last : (row marks : List ℕ) (i x : ℕ) → i < length row → length row ≤ i + 1 → spliced p list lm (some x) (drop i row) (drop i marks) ≡ x ∷ []
  unfolding spliced
  splice-last row marks i x low high = rw (here row i low, gone row (i + 1) high)

  over_word : (w : ℕ) (ws ms : List ℕ) → spliced p list lm absent (w ∷ ws) ms ≡ spliced p list lm (some (get_or ws 0 0)) ws (drop 1 ms)
  unfolding spliced
  over_word w ws ms = refl

  part-words : (s e u d : ℕ) → s ≤ e → e ≤ length list → length (piece_words list lm (Part s e u d) (Plain 0)) ≡ e - s
  unfolding Fits piece_size
  part-words s e u d f g = piece-length list lm (Part s e u d) (Plain 0) (f, g)

  module _ (row marks : List ℕ) (i : ℕ) (low : i + 1 < length row) (marked : i < length marks) where
    abbrev piece : Piece
    piece = piece_of p (word_item (get_or marks i 0) (get_or row i 0) (get_or row (i + 1) 0))

    opened : (x : ℕ) → spliced p list lm (some x) (drop i row) (drop i marks) ≡ put_for list lm piece x ++ spliced p list lm (next_word piece (drop (i + 1) row)) (drop (i + 1) row) (drop (i + 1) marks)
    unfolding spliced
    opened x = rw (here row i (omega arith), here marks i marked, here row (i + 1) low)

    word-by : (c : Piece) (x y : ℕ) → Becomes c (get_or row (i + 1) 0) y
        → put_for list lm c x ++ spliced p list lm (next_word c (drop (i + 1) row)) (drop (i + 1) row) (drop (i + 1) marks) ≡ x ∷ spliced p list lm (some y) (drop (i + 1) row) (drop (i + 1) marks)
    word-by Same x y b = rw (b, here row (i + 1) low)
    word-by (Index u) x y b = rw b
    word-by (Part s e u d) x y b = absurd b

    splice-word : (x y : ℕ) → Becomes piece (get_or row (i + 1) 0) y → spliced p list lm (some x) (drop i row) (drop i marks) ≡ x ∷ spliced p list lm (some y) (drop (i + 1) row) (drop (i + 1) marks)
    splice-word x y b = opened x ∙ word-by piece x y b

    passed_over : spliced p list lm absent (drop (i + 1) row) (drop (i + 1) marks) ≡ spliced p list lm (some (get_or row (i + 2) 0)) (drop (i + 2) row) (drop (i + 2) marks)
    passed_over =
        let a : i + 1 + 1 ≡ i + 2 = omega arith in
        let z : i + 2 + 0 ≡ i + 2 = omega arith in
        let g : get_or (drop (i + 2) row) 0 0 ≡ get_or row (i + 2) 0 = get_or-drop (i + 2) row 0 0 ∙ ap (λ n. get_or row n 0) z in
        ap (λ l. spliced p list lm absent l (drop (i + 1) marks)) (here row (i + 1) low)
        ∙ (over_word (get_or row (i + 1) 0) (drop (i + 1 + 1) row) (drop (i + 1) marks) ∙ rw (drop-drop 1 (i + 1) marks, a, g))

    splice-part : (x s e u d : ℕ) → piece ≡ Part s e u d → spliced p list lm (some x) (drop i row) (drop i marks)
        ≡ piece_words list lm (Part s e u d) (Plain 0) ++ spliced p list lm (some (get_or row (i + 2) 0)) (drop (i + 2) row) (drop (i + 2) marks)
    splice-part x s e u d q = opened x ∙ rw (q, passed_over)

  -- a loop that stores them
  module _ (row marks : List ℕ) (i q : ℕ) (out : List ℕ) where
    module _ (low : i + 1 < length row) (marked : i < length marks) where
      word-step : (x y : ℕ) → Becomes (piece row marks i low marked) (get_or row (i + 1) 0) y → (out' : List ℕ) → out' ≡ set out q x
          → (store out q (spliced p list lm (some x) (drop i row) (drop i marks)) ≡ store out' (q + 1) (spliced p list lm (some y) (drop (i + 1) row) (drop (i + 1) marks)))
          × (length (spliced p list lm (some x) (drop i row) (drop i marks)) ≡ suc (length (spliced p list lm (some y) (drop (i + 1) row) (drop (i + 1) marks))))
      unfolding store
      word-step x y b out' e = let s = splice-word row marks i low marked x y b in (rw (s, e), ap length s)

      part_step : (x s e u d : ℕ) → piece row marks i low marked ≡ Part s e u d → s ≤ e → e ≤ length list → (out' : List ℕ) → out' ≡ store out q (piece_words list lm (Part s e u d) (Plain 0))
          → (store out q (spliced p list lm (some x) (drop i row) (drop i marks)) ≡ store out' (q + (e - s)) (spliced p list lm (some (get_or row (i + 2) 0)) (drop (i + 2) row) (drop (i + 2) marks)))
          × (length (spliced p list lm (some x) (drop i row) (drop i marks)) ≡ e - s + length (spliced p list lm (some (get_or row (i + 2) 0)) (drop (i + 2) row) (drop (i + 2) marks)))
      part_step x s e u d c f g out' w =
          let t = splice-part row marks i low marked x s e u d c in
          let l : length (piece_words list lm (Part s e u d) (Plain 0)) ≡ e - s = part-words s e u d f g in (
            ap (store out q) t ∙ (store-append out q (piece_words list lm (Part s e u d) (Plain 0)) _ ∙ rw (l, ← w)),
            ap length t ∙ (length-append (piece_words list lm (Part s e u d) (Plain 0)) _ ∙ rw l),
          )

    last-length : (x : ℕ) → length row ≤ i + 1 → length (spliced p list lm (some x) (drop i row) (drop i marks)) ≡ length row - i
    last-length x high = go (ltb i (length row)) refl
      where
        go : (b : Bool) → ltb i (length row) ≡ b → length (spliced p list lm (some x) (drop i row) (drop i marks)) ≡ length row - i
        go true h = let l = ltb-true i (length row) h in ap length (splice-last row marks i x l high) ∙ omega arith
        go false h = let l = ltb-false i (length row) h in ap length (splice-none row marks i (some x) l) ∙ omega arith

    last_step : (x : ℕ) → length row ≤ i + 1 → pick (ltb i (length row)) (set out q x) out ≡ store out q (spliced p list lm (some x) (drop i row) (drop i marks))
    unfolding store
    last_step x high = go (ltb i (length row)) refl
      where
        go : (b : Bool) → ltb i (length row) ≡ b → pick b (set out q x) out ≡ store out q (spliced p list lm (some x) (drop i row) (drop i marks))
        go true h = let l = ltb-true i (length row) h in rw (splice-last row marks i x l high)
        go false h = let l = ltb-false i (length row) h in rw (splice-none row marks i (some x) l)

  -- where the marks stand apart it is what the plan puts item by item
  after-value : (u v : ℕ) (ws ms : List ℕ) → spliced p list lm (some u) (v ∷ ws) (0 ∷ ms) ≡ u ∷ spliced p list lm (some (get_or ws 0 0)) ws ms
  unfolding spliced piece_of word_item
  after-value u v [] ms = refl
  after-value u v (w ∷ ws) ms = refl

  unmarked-value : (u v : ℕ) (ws : List ℕ) → spliced p list lm (some u) (v ∷ ws) [] ≡ u ∷ spliced p list lm (some (get_or ws 0 0)) ws []
  unfolding spliced piece_of word_item
  unmarked-value u v [] = refl
  unmarked-value u v (w ∷ ws) = refl

  plain-words : (w : ℕ) → planned p list lm (Plain w) ≡ w ∷ []
  unfolding piece_of piece_words words_of
  plain-words w = refl

  ident-by : (k w v : ℕ) (ws ms rest : List ℕ) (c : Piece) → piece_of p (Ident k w v) ≡ c → spliced p list lm (some (get_or ws 0 0)) ws (drop 1 ms) ≡ rest
      → ((u : ℕ) → spliced p list lm (some u) (v ∷ ws) ms ≡ u ∷ rest)
      → put_for list lm c w ++ spliced p list lm (next_word c (v ∷ ws)) (v ∷ ws) ms ≡ piece_words list lm c (Ident k w v) ++ rest
  unfolding piece_words words_of
  ident-by k w v ws ms rest Same q h t = rw (t v)
  ident-by k w v ws ms rest (Index u) q h t = rw (t u, index-only p k w v u q)
  ident-by k w v ws ms rest (Part s e u d) q h t = ap (λ z. piece_words list lm (Part s e u d) (Plain 0) ++ z) (over_word v ws ms ∙ h)

  spliced-items : (lo : ℕ) (ws ms : List ℕ) → apart lo ws ms ≡ true → spliced p list lm (some (get_or ws 0 0)) ws ms ≡ rewritten (planned p list lm) (items ws ms)
  unfolding items rewritten apart spliced word_item
  spliced-items lo [] ms a = refl
  spliced-items lo (w ∷ ws) [] a = rw (unmarked-value w w ws, plain-words w) (ap (λ z. w ∷ z) (spliced-items lo ws [] (none_apart ws)))
    where
      none_apart : (ws : List ℕ) → apart lo ws [] ≡ true
      none_apart [] = refl
      none_apart (w ∷ ws) = refl
  spliced-items lo (w ∷ ws) (zero ∷ ms) a = rw (after-value w w ws ms, plain-words w) (ap (λ z. w ∷ z) (spliced-items lo ws ms a))
  spliced-items lo (w ∷ []) (suc k ∷ ms) a = rw (plain-words w)
  spliced-items lo (w ∷ v ∷ ws) (suc k ∷ []) a =
      ident-by k w v ws [] _ (piece_of p (Ident k w v)) refl (spliced-items lo ws [] (none_apart ws)) (λ u. unmarked-value u v ws ∙ ap (λ z. u ∷ z) (spliced-items lo ws [] (none_apart ws)))
    where
      none_apart : (ws : List ℕ) → apart lo ws [] ≡ true
      none_apart [] = refl
      none_apart (w ∷ ws) = refl
  spliced-items lo (w ∷ v ∷ ws) (suc k ∷ zero ∷ ms) a =
      let r = spliced-items lo ws ms (and_right (leb lo k) (apart lo ws ms) a) in
      ident-by k w v ws (0 ∷ ms) _ (piece_of p (Ident k w v)) refl r (λ u. after-value u v ws ms ∙ ap (λ z. u ∷ z) r)
  spliced-items lo (w ∷ v ∷ ws) (suc k ∷ suc j ∷ ms) a = absurd (clash cc)

  -- the whole of it, from a position on
  module _ (lo : ℕ) (row marks : List ℕ) (start at room : ℕ) (y : Splicing lo p list lm row marks start at room) where
    abbrev all : List ℕ
    all = spliced p list lm (some (get_or row start 0)) (drop start row) (drop start marks)

    first_word : get_or (drop start row) 0 0 ≡ get_or row start 0
    first_word = let z : start + 0 ≡ start = omega arith in get_or-drop start row 0 0 ∙ ap (λ n. get_or row n 0) z

    all-items : all ≡ rewritten (planned p list lm) (items (drop start row) (drop start marks))
    all-items = rw first_word at (spliced-items lo (drop start row) (drop start marks) y.apart-on)

    all-length : length all ≡ sizes p (items (drop start row) (drop start marks))
    all-length = ap length all-items ∙ planned-length p list lm y.ready.in_row (items (drop start row) (drop start marks))

    all-fits : at + length all ≤ room
    all-fits = let l = all-length in let f = y.fits in omega arith

-- where a loop stands that stores them from `at` on: at word i of the row, which has become x, and at word q of the output row
pub record Storing (p : Plan) (list lm row marks : List ℕ) (start at : ℕ) (out₀ out : List ℕ) (i q x : ℕ) : Type 0 where
  pub same : store out₀ at (spliced p list lm (some (get_or row start 0)) (drop start row) (drop start marks)) ≡ store out q (spliced p list lm (some x) (drop i row) (drop i marks))
  pub ends : q + length (spliced p list lm (some x) (drop i row) (drop i marks)) ≡ at + length (spliced p list lm (some (get_or row start 0)) (drop start row) (drop start marks))
  pub on : start ≤ i
  pub kept : length out ≡ length out₀
  pub inside : i ≤ length row

module _ {lo : ℕ} {p : Plan} {list lm row marks : List ℕ} {start at : ℕ} {out₀ : List ℕ} (y : Splicing lo p list lm row marks start at (length out₀)) where
  pub storing : (x : ℕ) → x ≡ get_or row start 0 → Storing p list lm row marks start at out₀ out₀ start at x
  storing x e = record { same = rw e refl; ends = rw e refl; on = le_refl start; kept = refl; inside = (let w = y.within in omega arith) }

  module _ {out : List ℕ} {i q x : ℕ} (st : Storing p list lm row marks start at out₀ out i q x) where
    room : q + length (spliced p list lm (some x) (drop i row) (drop i marks)) ≤ length out
    room = let r = all-fits p list lm lo row marks start at (length out₀) y in let e = st.ends in let k = st.kept in omega arith

    module _ (low : i + 1 < length row) where
      pub is-marked : i < length marks
      is-marked = let g = y.long in omega arith

      abbrev it : Item
      it = word_item (get_or marks i 0) (get_or row i 0) (get_or row (i + 1) 0)

      -- one word more
      module _ (v : ℕ) (b : Becomes (piece_of p it) (get_or row (i + 1) 0) v) where
        pub word_room : q < length out
        word_room = let (a, l) = word-step p list lm row marks i q out low is-marked x v b (set out q x) refl in let r = room in omega arith

        pub word_next : Storing p list lm row marks start at out₀ (set out q x) (i + 1) (q + 1) v
        word_next =
            let (a, l) = word-step p list lm row marks i q out low is-marked x v b (set out q x) refl in
            let e = st.ends in
            let h = st.on in
            record { same = st.same ∙ a; ends = omega arith; on = omega arith; kept = length-set out q x ∙ st.kept; inside = omega arith }

      -- a part for two words
      module _ (s e u d : ℕ) (c : piece_of p it ≡ Part s e u d) where
        pub part-inside : (s ≤ e) × (e ≤ length list)
        part-inside = part-fits (length list) (piece-fits p (length list) y.ready.in_row it) c

        pub part_room : q + (e - s) ≤ length out
        part_room =
            let (a, l) = part_step p list lm row marks i q out low is-marked x s e u d c part-inside.0 part-inside.1 (store out q (piece_words list lm (Part s e u d) (Plain 0))) refl in
            let r = room in
            omega arith

        pub part-next : (out' : List ℕ) → out' ≡ store out q (piece_words list lm (Part s e u d) (Plain 0)) → length out' ≡ length out → (v : ℕ) → v ≡ get_or row (i + 2) 0
            → Storing p list lm row marks start at out₀ out' (i + 2) (q + (e - s)) v
        part-next out' w k v g =
            let (a, l) = part_step p list lm row marks i q out low is-marked x s e u d c part-inside.0 part-inside.1 out' w in
            let f = st.ends in
            let h = st.on in
            record { same = rw g (st.same ∙ a); ends = rw g (omega arith); on = omega arith; kept = k ∙ st.kept; inside = omega arith }

    -- and no word more
    module _ (high : length row ≤ i + 1) where
      pub last-room : q + (length row - i) ≤ length out
      last-room = let w = last-length p list lm row marks i q out x high in let r = room in omega arith

      pub last_done : (r : ℕ) (out' : List ℕ) → r ≡ q + (length row - i) → out' ≡ pick (ltb i (length row)) (set out q x) out
          → (r ≡ at + sizes p (items (drop start row) (drop start marks))) × (out' ≡ store out₀ at (rewritten (planned p list lm) (items (drop start row) (drop start marks))))
      last_done r out' n o =
          let w = last-length p list lm row marks i q out x high in
          let a = all-length p list lm lo row marks start at (length out₀) y in
          let f = st.ends in (
            omega arith,
            o ∙ (last_step p list lm row marks i q out x high ∙ (sym st.same ∙ ap (store out₀ at) (all-items p list lm lo row marks start at (length out₀) y))),
          )
