-- What stands for a word, by the slots of the places and by the keys of the names. Assumes nothing.
use mathlib.Core.Path.{◌≡◌, refl, ap, sym, ◌∙◌}
use mathlib.Core.Bool.{Bool, true, false, not, ◌&&◌}
use mathlib.Core.List.{List, [], ◌∷◌}
use Prim.Native.Nat.{ℕ, zero, suc, ◌+◌, ◌-◌, ◌%◌, ◌≤◌, ◌<◌}
use native.Mathlib.Nat.{le_refl}
use native.Mathlib.Omega.{arith}
use borrow.Author.Tests.{eqb-true, eqb-false, ne_eqb, leb-true, leb-false}
use lib.Dec.{leb, ltb, eqb}
use lib.ListN.{length, get_or, take, drop, set}
use lib.Seq.{get_or-take, get_or-set_same, get_or-set_other}
use Rattle.tree.specs.Form.{pick}
use Rattle.form.proofs.DecodeLaws.{clash}
use Rattle.reader.specs.declared.lists.Table.{Table}
use Rattle.shift.specs.Internal.Items.{word_item, slot_of, slot_for, store}
use Rattle.shift.proofs.SlotLaws.{slot_is, slot-most}
use Rattle.shift.proofs.WordwiseLaws.{mark-over, apart-on}
use Rattle.shift.specs.declared.items.Item.TheVariants.{Plain, Ident}
use Rattle.replace.specs.Internal.Pieces.{piece_words, spot, filled_words, free_piece, place_piece, fill_piece, piece_of, plan_for, Tabled}
use Rattle.replace.specs.Internal.Splice.{Becomes, Slots, Keys, key_of, name_spot, Filling, Freeing}
use Rattle.replace.specs.declared.pieces.Piece.{Piece}
use Rattle.replace.specs.declared.pieces.Piece.TheVariants.{Same, Index, Part}
use Rattle.replace.specs.declared.pieces.Rule.{Rule}
use Rattle.replace.specs.declared.pieces.Job.{Job}
use Rattle.replace.specs.declared.pieces.Target.TheVariants.{Places, Names}
use Rattle.replace.specs.Internal.Job.{job_plan}
use Rattle.replace.proofs.PieceLaws.{used-first}
use Rattle.replace.proofs.SpliceLaws.{Storing, is-marked, word_room, word_next, part-inside, part_room, part-next}

-- a table that is set from its end downwards
pub table_step : (n s g : ℕ) (l : List ℕ) (f : ℕ → ℕ) → s < length l → ((i : ℕ) → s < i → i ≤ n → get_or l i 0 ≡ f i) → g ≡ f s → (i : ℕ) → s - 1 < i → i ≤ n → get_or (set l s g) i 0 ≡ f i
table_step n s g l f low known e i h k = go (eqb i s) refl
  where
    go : (b : Bool) → eqb i s ≡ b → get_or (set l s g) i 0 ≡ f i
    go true q = rw (eqb-true i s q, get_or-set_same l s g 0 low) e
    go false q = let d = eqb-false i s q in get_or-set_other l s i g 0 d ∙ known i (omega (arith, d)) k

-- a word that no index dangles in stays
stays : (v y f : ℕ) → y ≡ v - f → f ≡ 0 → y ≡ v
stays v y f e z = omega arith

module _ (rule : Rule) (tb : Table) (is-fill : rule.target ≡ Places) (tabled : Tabled (plan_for rule tb)) (cuts falls : List ℕ)
    (slots : Slots (take tb.n tb.words) rule.gone cuts falls) where
  long : length (take tb.n tb.words) ≡ tb.n
  long = used-first (plan_for rule tb) tabled

  other_cut : get_or cuts (tb.n + 1) 0 ≡ 0
  other_cut = rw long at slots.other_cut

  other-fall : get_or falls (tb.n + 1) 0 ≡ 0
  other-fall = rw long at slots.other-fall

  module _ (k t v : ℕ) where
    abbrev j : ℕ
    j = v - (k - tb.n)

    abbrev i : ℕ
    i = tb.n - 1 - j

    abbrev slot : Bool → Bool → ℕ
    slot a b = pick a (pick b (tb.n + 1) (tb.n - j)) (tb.n + 1)

    abbrev found : Bool → Bool → Bool → Bool → Piece
    found a b c d =
        pick a (pick b Same (pick c (Index (v - rule.gone)) (pick d (Index (v - filled_words (drop (i + 1) (take tb.n tb.words)))) (Part (get_or tb.starts i 0) (get_or tb.ends i 0) (k - rule.gone) rule.down)))) Same

    piece-found : piece_of (plan_for rule tb) (Ident k t v) ≡ found (eqb t 2) (ltb v (k - tb.n)) (leb tb.n j) (eqb (get_or tb.words i 0) 0)
    unfolding piece_of fill_piece place_piece
    piece-found = rw is-fill

    word-here : j < tb.n → get_or (take tb.n tb.words) i 0 ≡ get_or tb.words i 0
    word-here l = get_or-take tb.n tb.words i 0 (omega arith)

    place-cut : j < tb.n → get_or cuts (tb.n - j) 0 ≡ get_or tb.words i 0
    place-cut l =
        let e : tb.n - j - 1 ≡ i = omega arith in
        let q = long in
        slots.cut (tb.n - j) (omega arith) (omega arith) ∙ (ap (λ z. get_or (take tb.n tb.words) z 0) e ∙ word-here l)

    place-fall : j < tb.n → get_or falls (tb.n - j) 0 ≡ filled_words (drop (i + 1) (take tb.n tb.words))
    place-fall l =
        let e : tb.n - j ≡ i + 1 = omega arith in
        let q = long in
        slots.fall (tb.n - j) (omega arith) (omega arith) ∙ ap (λ z. filled_words (drop z (take tb.n tb.words))) e

    outer-slot : tb.n ≤ j → tb.n - j ≡ 0
    outer-slot l = omega arith

    word-by : (a b c d : Bool) → leb tb.n j ≡ c → eqb (get_or tb.words i 0) 0 ≡ d → (y : ℕ) → get_or cuts (slot a b) 0 ≡ 0 → y ≡ v - get_or falls (slot a b) 0 → Becomes (found a b c d) v y
    word-by false b c d q r y z e = stays v y _ e other-fall
    word-by true true c d q r y z e = stays v y _ e other-fall
    word-by true false true d q r y z e = e ∙ rw (outer-slot (leb-true tb.n j q), slots.outer-fall)
    word-by true false false true q r y z e = e ∙ rw (place-fall (leb-false tb.n j q))
    word-by true false false false q r y z e = absurd (eqb-false (get_or tb.words i 0) 0 r (sym (place-cut (leb-false tb.n j q)) ∙ z))

    part_by : (a b c d : Bool) → leb tb.n j ≡ c → eqb (get_or tb.words i 0) 0 ≡ d → (s : ℕ) → s ≡ slot a b → (get_or cuts s 0 ≡ 0 → ⊥)
        → (found a b c d ≡ Part (get_or tb.starts (s - 1) 0) (get_or tb.ends (s - 1) 0) (k - rule.gone) rule.down) × (0 < s) × (s ≤ tb.n)
    part_by false b c d q r s e z = absurd (z (rw e other_cut))
    part_by true true c d q r s e z = absurd (z (rw e other_cut))
    part_by true false true d q r s e z = absurd (z (rw (e, outer-slot (leb-true tb.n j q)) slots.outer-cut))
    part_by true false false true q r s e z = absurd (z (rw (e, place-cut (leb-false tb.n j q)) (eqb-true (get_or tb.words i 0) 0 r)))
    part_by true false false false q r s e z =
        let l = leb-false tb.n j q in
        let h : s - 1 ≡ i = omega arith in
        (rw h refl, omega arith, omega arith)

  fill-word : (m t v s y : ℕ) → s ≡ slot_of tb.n (tb.n + 1) (word_item m t v) → get_or cuts s 0 ≡ 0 → y ≡ v - get_or falls s 0 → Becomes (piece_of (plan_for rule tb) (word_item m t v)) v y
  unfolding word_item slot_of piece_of
  fill-word zero t v s y e z q = stays v y _ q (rw e other-fall)
  fill-word (suc k) t v s y e z q =
      rw (piece-found k t v) (word-by k t v (eqb t 2) (ltb v (k - tb.n)) (leb tb.n (j k t v)) (eqb (get_or tb.words (i k t v) 0) 0) refl refl y (rw e at z) (rw e at q))

  fill-part : (m t v s : ℕ) → s ≡ slot_of tb.n (tb.n + 1) (word_item m t v) → (get_or cuts s 0 ≡ 0 → ⊥)
      → (piece_of (plan_for rule tb) (word_item m t v) ≡ Part (get_or tb.starts (s - 1) 0) (get_or tb.ends (s - 1) 0) (m - 1 - rule.gone) rule.down) × (0 < s) × (s ≤ tb.n) × (0 < m)
  unfolding word_item slot_of
  fill-part zero t v s e z = absurd (z (rw e other_cut))
  fill-part (suc k) t v s e z =
      let (a, b, c) = part_by k t v (eqb t 2) (ltb v (k - tb.n)) (leb tb.n (j k t v)) (eqb (get_or tb.words (i k t v) 0) 0) refl refl s e z in
      let h : suc k - 1 ≡ k = omega arith in
      (rw h (piece-found k t v ∙ a), b, c, omega arith)

-- the loop that fills places, at a word whose slot is s
module _ {job : Job} {cuts falls : List ℕ} {at : ℕ} {out₀ : List ℕ} (f : Filling job cuts falls at (length out₀))
    {out : List ℕ} {i q x s : ℕ} (st : Storing (job_plan job) job.source.list.now job.source.list_marks.now job.source.row.now job.source.marks.now job.from at out₀ out i q x) (low : i + 1 < length job.source.row.now)
    (e : s ≡ slot_for job.source.table.now.n (job.source.table.now.n + 1) (get_or job.source.marks.now i 0) (get_or job.source.row.now i 0) (get_or job.source.row.now (i + 1) 0)) where
  pub slot-low : s < 34
  slot-low =
      let m = f.splices.ready.tabled.few in
      let l = slot-most job.source.table.now.n (job.source.table.now.n + 1) (job.source.table.now.n + 1) (get_or job.source.marks.now i 0) (get_or job.source.row.now i 0) (get_or job.source.row.now (i + 1) 0) s (omega arith) (le_refl (job.source.table.now.n + 1)) e in
      omega arith

  slot-item : s ≡ slot_of job.source.table.now.n (job.source.table.now.n + 1) (word_item (get_or job.source.marks.now i 0) (get_or job.source.row.now i 0) (get_or job.source.row.now (i + 1) 0))
  slot-item =
      slot_is job.source.table.now.n (job.source.table.now.n + 1) (get_or job.source.marks.now i 0) (get_or job.source.row.now i 0) (get_or job.source.row.now (i + 1) 0) s
      (mark-over job.source.table.now.n i job.source.row.now job.source.marks.now (apart-on job.source.table.now.n job.source.row.now job.source.marks.now job.from i st.on f.splices.apart-on) low (is-marked f.splices st low)) e

  module _ (z : get_or cuts s 0 ≡ 0) where
    becomes : (v : ℕ) → v ≡ get_or job.source.row.now (i + 1) 0 - get_or falls s 0 → Becomes (piece_of (job_plan job) (word_item (get_or job.source.marks.now i 0) (get_or job.source.row.now i 0) (get_or job.source.row.now (i + 1) 0))) (get_or job.source.row.now (i + 1) 0) v
    becomes v g = fill-word job.rule job.source.table.now f.is-fill f.splices.ready.tabled cuts falls f.slots (get_or job.source.marks.now i 0) (get_or job.source.row.now i 0) (get_or job.source.row.now (i + 1) 0) s v slot-item z g

    pub fill-room : q < length out
    fill-room = word_room f.splices st low _ (becomes _ refl)

    pub fill-next : (v : ℕ) → v ≡ get_or job.source.row.now (i + 1) 0 - get_or falls s 0 → Storing (job_plan job) job.source.list.now job.source.list_marks.now job.source.row.now job.source.marks.now job.from at out₀ (set out q x) (i + 1) (q + 1) v
    fill-next v g = word_next f.splices st low v (becomes v g)

  module _ (z : get_or cuts s 0 ≡ 0 → ⊥) where
    place : (piece_of (job_plan job) (word_item (get_or job.source.marks.now i 0) (get_or job.source.row.now i 0) (get_or job.source.row.now (i + 1) 0)) ≡ Part (get_or job.source.table.now.starts (s - 1) 0) (get_or job.source.table.now.ends (s - 1) 0) (get_or job.source.marks.now i 0 - 1 - job.rule.gone) job.rule.down)
        × (0 < s) × (s ≤ job.source.table.now.n) × (0 < get_or job.source.marks.now i 0)
    place = fill-part job.rule job.source.table.now f.is-fill f.splices.ready.tabled cuts falls f.slots (get_or job.source.marks.now i 0) (get_or job.source.row.now i 0) (get_or job.source.row.now (i + 1) 0) s slot-item z

    pub place-slot : (0 < s) × (s - 1 < 32)
    place-slot =
        let m = f.splices.ready.tabled.few in
        let a = place.1 in
        let b = place.2 in
        (a, omega arith)

    pub place-mark : 0 < get_or job.source.marks.now i 0
    place-mark = place.3

    pub place_inside : (get_or job.source.table.now.starts (s - 1) 0 ≤ get_or job.source.table.now.ends (s - 1) 0) × (get_or job.source.table.now.ends (s - 1) 0 ≤ length job.source.list.now)
    place_inside = part-inside f.splices st low _ _ _ _ place.0

    pub place-room : q + (get_or job.source.table.now.ends (s - 1) 0 - get_or job.source.table.now.starts (s - 1) 0) ≤ length out
    place-room = part_room f.splices st low _ _ _ _ place.0

    pub place-next : (u : ℕ) → u ≡ get_or job.source.marks.now i 0 - 1 - job.rule.gone → (out' : List ℕ) → out' ≡ store out q (piece_words job.source.list.now job.source.list_marks.now (Part (get_or job.source.table.now.starts (s - 1) 0) (get_or job.source.table.now.ends (s - 1) 0) u job.rule.down) (Plain 0)) → length out' ≡ length out
        → (v : ℕ) → v ≡ get_or job.source.row.now (i + 2) 0 → Storing (job_plan job) job.source.list.now job.source.list_marks.now job.source.row.now job.source.marks.now job.from at out₀ out' (i + 2) (q + (get_or job.source.table.now.ends (s - 1) 0 - get_or job.source.table.now.starts (s - 1) 0)) v
    place-next u g out' w k v h =
        part-next f.splices st low (get_or job.source.table.now.starts (s - 1) 0) (get_or job.source.table.now.ends (s - 1) 0) u job.rule.down
        (place.0 ∙ ap (λ z. Part (get_or job.source.table.now.starts (s - 1) 0) (get_or job.source.table.now.ends (s - 1) 0) z job.rule.down) (sym g)) out' w k v h

-- a name that no key has is not listed
not_listed : (ws keys : List ℕ) (v : ℕ) → ((i : ℕ) → i < length ws → get_or keys (get_or ws i 0 % 64) 0 ≡ 1) → get_or keys (v % 64) 0 ≡ 0 → spot v ws ≡ length ws
unfolding spot
not_listed [] keys v has z = refl
not_listed (w ∷ ws) keys v has z = rw (ne_eqb w v (λ e. clash (sym z ∙ rw e at (has 0 (omega arith))))) (ap suc (not_listed ws keys v (λ i l. has (suc i) (omega arith)) z))

-- one key more
earlier : (ws : List ℕ) (j i : ℕ) → j < i + 1 → (get_or ws j 0 % 64 ≡ get_or ws i 0 % 64 → ⊥) → j < i
earlier ws j i l n = go (eqb j i) refl
  where
    go : (b : Bool) → eqb j i ≡ b → j < i
    go true q = absurd (n (ap (λ z. get_or ws z 0 % 64) (eqb-true j i q)))
    go false q = omega (arith, eqb-false j i q)

pub key_more : (ws keys : List ℕ) (i : ℕ) → ((j : ℕ) → j < i → get_or keys (get_or ws j 0 % 64) 0 ≡ 1) → get_or ws i 0 % 64 < length keys → (j : ℕ) → j < i + 1 → get_or (set keys (get_or ws i 0 % 64) 1) (get_or ws j 0 % 64) 0 ≡ 1
key_more ws keys i known low j l = go (eqb (get_or ws j 0 % 64) (get_or ws i 0 % 64)) refl
  where
    go : (b : Bool) → eqb (get_or ws j 0 % 64) (get_or ws i 0 % 64) ≡ b → get_or (set keys (get_or ws i 0 % 64) 1) (get_or ws j 0 % 64) 0 ≡ 1
    go true q = rw (eqb-true (get_or ws j 0 % 64) (get_or ws i 0 % 64) q) (get_or-set_same keys (get_or ws i 0 % 64) 1 0 low)
    go false q =
        let n = eqb-false (get_or ws j 0 % 64) (get_or ws i 0 % 64) q in
        let h : j < i = earlier ws j i l n in
        get_or-set_other keys (get_or ws i 0 % 64) (get_or ws j 0 % 64) 1 0 n ∙ known j h

module _ (ws keys : List ℕ) (table : Keys ws keys) (m t v : ℕ) where
  none-by : (b : Bool) → get_or keys (pick b (v % 64) 64) 0 ≡ 0 → length ws ≡ pick b (spot v ws) (length ws)
  none-by true z = sym (not_listed ws keys v table.has z)
  none-by false z = refl

  pub spot-none : (k : ℕ) → k ≡ key_of m t v → get_or keys k 0 ≡ 0 → length ws ≡ name_spot ws m t v
  unfolding key_of name_spot
  spot-none k e z = none-by (eqb t 1 && not (eqb m 0)) (rw e at z)

  some-by : (b : Bool) → (get_or keys (pick b (v % 64) 64) 0 ≡ 0 → ⊥) → (i : ℕ) → i ≡ spot v ws → i ≡ pick b (spot v ws) (length ws)
  some-by true n i e = e
  some-by false n i e = absurd (n table.other)

  pub spot-some : (k : ℕ) → k ≡ key_of m t v → (get_or keys k 0 ≡ 0 → ⊥) → (i : ℕ) → i ≡ spot v ws → i ≡ name_spot ws m t v
  unfolding key_of name_spot
  spot-some k e n i q = some-by (eqb t 1 && not (eqb m 0)) (λ z. n (rw e z)) i q

pub key-low : (m t v k : ℕ) → k ≡ key_of m t v → k ≤ 64
unfolding key_of
key-low m t v k e = rw e (go (eqb t 1 && not (eqb m 0)))
  where
    go : (b : Bool) → pick b (v % 64) 64 ≤ 64
    go true = omega arith
    go false = omega arith

module _ (rule : Rule) (tb : Table) (is_free : rule.target ≡ Names) (tabled : Tabled (plan_for rule tb)) where
  names-long : length (take tb.n tb.words) ≡ tb.n
  names-long = used-first (plan_for rule tb) tabled

  abbrev entry : ℕ → ℕ → Piece
  entry k v =
      let i = spot v (take tb.n tb.words) in
      pick (leb tb.n i) Same (Part (get_or tb.starts i 0) (get_or tb.ends i 0) k rule.down)

  free-found : (k t v : ℕ) → piece_of (plan_for rule tb) (Ident k t v) ≡ pick (eqb t 1) (entry k v) Same
  unfolding piece_of free_piece
  free-found k t v = rw is_free

  same_by : (b c : Bool) (x : Piece) (n i : ℕ) → leb n i ≡ c → n ≤ pick b i n → pick b (pick c Same x) Same ≡ Same
  same_by true true x n i q h = refl
  same_by true false x n i q h = let l = leb-false n i q in absurd (omega arith)
  same_by false c x n i q h = refl

  name-test : (k : ℕ) (b : Bool) → (b && not (eqb (suc k) 0)) ≡ b
  name-test k true = rw (ne_eqb (suc k) 0 (λ z. omega arith))
  name-test k false = refl

  free-word : (m t v b : ℕ) → b ≡ name_spot (take tb.n tb.words) m t v → tb.n ≤ b → Becomes (piece_of (plan_for rule tb) (word_item m t v)) v v
  unfolding word_item name_spot piece_of
  free-word zero t v b e l = refl
  free-word (suc k) t v b e l =
      let h : tb.n ≤ pick (eqb t 1) (spot v (take tb.n tb.words)) tb.n = rw (name-test k (eqb t 1), names-long) at (rw e at l) in
      rw (free-found k t v, same_by (eqb t 1) (leb tb.n (spot v (take tb.n tb.words))) _ tb.n (spot v (take tb.n tb.words)) refl h) refl

  entry-by : (b c : Bool) (s e : ℕ → ℕ) (k n i r : ℕ) → leb n i ≡ c → r ≡ pick b i n → r < n → pick b (pick c Same (Part (s i) (e i) k rule.down)) Same ≡ Part (s r) (e r) k rule.down
  entry-by true true s e k n i r q h l = let g = leb-true n i q in absurd (omega arith)
  entry-by true false s e k n i r q h l = rw h
  entry-by false c s e k n i r q h l = absurd (omega arith)

  free_part : (m t v b : ℕ) → b ≡ name_spot (take tb.n tb.words) m t v → b < tb.n
      → (piece_of (plan_for rule tb) (word_item m t v) ≡ Part (get_or tb.starts b 0) (get_or tb.ends b 0) (m - 1) rule.down) × (0 < m)
  unfolding word_item name_spot
  free_part zero t v b e l =
      let q = names-long in
      absurd (omega (arith, e ∙ go (eqb t 1)))
    where
      go : (a : Bool) → pick (a && not (eqb 0 0)) (spot v (take tb.n tb.words)) (length (take tb.n tb.words)) ≡ length (take tb.n tb.words)
      go true = refl
      go false = refl
  free_part (suc k) t v b e l =
      let h : b ≡ pick (eqb t 1) (spot v (take tb.n tb.words)) tb.n = rw (name-test k (eqb t 1), names-long) at e in
      let z : suc k - 1 ≡ k = omega arith in (
        rw z (free-found k t v ∙ entry-by (eqb t 1) (leb tb.n (spot v (take tb.n tb.words))) (λ x. get_or tb.starts x 0) (λ x. get_or tb.ends x 0) k tb.n (spot v (take tb.n tb.words)) b refl h l),
        omega arith,
      )

-- the loop that replaces names, at a word that stands at b in the job.source.list.now
module _ {job : Job} {keys : List ℕ} {at : ℕ} {out₀ : List ℕ} (f : Freeing job keys at (length out₀))
    {out : List ℕ} {i q b : ℕ} (st : Storing (job_plan job) job.source.list.now job.source.list_marks.now job.source.row.now job.source.marks.now job.from at out₀ out i q (get_or job.source.row.now i 0)) (low : i + 1 < length job.source.row.now)
    (e : b ≡ name_spot (take job.source.table.now.n job.source.table.now.words) (get_or job.source.marks.now i 0) (get_or job.source.row.now i 0) (get_or job.source.row.now (i + 1) 0)) where
  module _ (z : job.source.table.now.n ≤ b) where
    stays-word : Becomes (piece_of (job_plan job) (word_item (get_or job.source.marks.now i 0) (get_or job.source.row.now i 0) (get_or job.source.row.now (i + 1) 0))) (get_or job.source.row.now (i + 1) 0) (get_or job.source.row.now (i + 1) 0)
    stays-word = free-word job.rule job.source.table.now f.is_free f.splices.ready.tabled (get_or job.source.marks.now i 0) (get_or job.source.row.now i 0) (get_or job.source.row.now (i + 1) 0) b e z

    pub free-room : q < length out
    free-room = word_room f.splices st low _ stays-word

    pub free-next : Storing (job_plan job) job.source.list.now job.source.list_marks.now job.source.row.now job.source.marks.now job.from at out₀ (set out q (get_or job.source.row.now i 0)) (i + 1) (q + 1) (get_or job.source.row.now (i + 1) 0)
    free-next = word_next f.splices st low _ stays-word

  module _ (z : b < job.source.table.now.n) where
    listed : (piece_of (job_plan job) (word_item (get_or job.source.marks.now i 0) (get_or job.source.row.now i 0) (get_or job.source.row.now (i + 1) 0)) ≡ Part (get_or job.source.table.now.starts b 0) (get_or job.source.table.now.ends b 0) (get_or job.source.marks.now i 0 - 1) job.rule.down) × (0 < get_or job.source.marks.now i 0)
    listed = free_part job.rule job.source.table.now f.is_free f.splices.ready.tabled (get_or job.source.marks.now i 0) (get_or job.source.row.now i 0) (get_or job.source.row.now (i + 1) 0) b e z

    pub entry-mark : 0 < get_or job.source.marks.now i 0
    entry-mark = listed.1

    pub entry-inside : (get_or job.source.table.now.starts b 0 ≤ get_or job.source.table.now.ends b 0) × (get_or job.source.table.now.ends b 0 ≤ length job.source.list.now)
    entry-inside = part-inside f.splices st low _ _ _ _ listed.0

    pub entry-room : q + (get_or job.source.table.now.ends b 0 - get_or job.source.table.now.starts b 0) ≤ length out
    entry-room = part_room f.splices st low _ _ _ _ listed.0

    pub entry-next : (out' : List ℕ) → out' ≡ store out q (piece_words job.source.list.now job.source.list_marks.now (Part (get_or job.source.table.now.starts b 0) (get_or job.source.table.now.ends b 0) (get_or job.source.marks.now i 0 - 1) job.rule.down) (Plain 0)) → length out' ≡ length out
        → Storing (job_plan job) job.source.list.now job.source.list_marks.now job.source.row.now job.source.marks.now job.from at out₀ out' (i + 2) (q + (get_or job.source.table.now.ends b 0 - get_or job.source.table.now.starts b 0)) (get_or job.source.row.now (i + 2) 0)
    entry-next out' w k = part-next f.splices st low _ _ _ _ listed.0 out' w k _ refl
