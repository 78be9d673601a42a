-- Free substitution on rows is free substitution on trees. Assumes nothing.
use mathlib.Core.Path.{◌≡◌, refl, ap, sym, ◌∙◌}
use mathlib.Core.Bool.{Bool, true, false}
use mathlib.Core.List.{List, [], ◌∷◌, map}
use mathlib.Core.Option.{none as absent, some}
use Prim.Native.Nat.{ℕ, suc, ◌+◌, ◌-◌, ◌≤◌, ◌<◌}
use native.Mathlib.Nat.{le_refl}
use native.Mathlib.Omega.{arith}
use borrow.Author.Tests.{leb-true, leb-false}
use lib.Dec.{leb, eqb}
use lib.ListN.{length, get_or, take, drop, replicate, length-map, length-drop, get_or-eq_default}
use Rattle.tree.specs.Form.{Leaf, free, bound, Form, leaf, pick, encode}
use Rattle.tree.specs.Tag.{Sort, expr, pred}
use Rattle.form.specs.Break.{break_at, break_list}
use Rattle.form.specs.Decode.{Whole, one, not-one, found, missing, as_sort, row_form, form_of}
use Rattle.form.specs.Lists.{Place, kept, filled, Entry, entry, word_of, place_of, list_of, distinct, good_names}
use Rattle.form.specs.Answer.{Outcome, stop, needs, is_one, finish}
use Rattle.reader.specs.Internal.Reads.{as_expr, mark_entries, empty_table, tabled, Listing, good_words}
use Rattle.form.specs.declared.answer.Kind.TheVariants.{Either}
use Rattle.form.specs.declared.answer.ListKind.TheVariants.{Pairs}
use Rattle.reader.specs.declared.lists.Table.{Table}
use Rattle.form.proofs.DecodeLaws.{clash, Ok}
use Rattle.reader.proofs.TableLaws.{listed-words, listed-n, good-listed, listing-yes}
use Rattle.reader.proofs.CheckLaws.{sort_for, form-of}
use Rattle.rules.specs.Walk.{Binding, inside, outside, binding, Outer, named, dangling, walk_index, walk_leaf, walk, up, put, each}
use Rattle.shift.specs.Internal.Items.{items, words_of, rewritten}
use Rattle.shift.specs.declared.items.Item.TheVariants.{Plain, Ident}
use Rattle.rules.proofs.WalkLaws.{binding-back, and_left, walk-agree}
use Rattle.rules.proofs.LimitLaws.{small, tight, ok-tight}
use Rattle.shift.proofs.ShiftLaws.{moved}
use Rattle.shift.proofs.RowLaws.{ident_of, items_of, marked-items, walk-items}
use Rattle.shift.proofs.CheckedLaws.{Checked}
use Rattle.rules.specs.Free.{or_name, seek, free_for, substitute, free_outcome}
use Rattle.replace.specs.Internal.Pieces.{piece_words, spot, free_piece, piece_of, planned, InRow, Ready, replaced, free_plan, has_form}
use Rattle.listed.specs.Internal.Listed.{kind_for}
use Rattle.replace.specs.declared.pieces.Piece.TheVariants.{Same, Part}
use Rattle.replace.proofs.EntryLaws.{PlaceAt, listed-places, listed-in-row, listed-full}
use Rattle.replace.proofs.MarkLaws.{items-take}
use Rattle.replace.proofs.ActionLaws.{tight-depth, moved-words, moved-lift}
use Rattle.replace.proofs.BuildLaws.{kind_of, emit-sure}
use Rattle.replace.proofs.InsideLaws.{some-deep, free-fits}
use Rattle.replace.proofs.SmallLaws.{LeavesBy, listed_small}
use Rattle.listed.proofs.CallLaws.{call-small, call_long, call-missing, call-list-long, call-no-list, call-read}
use Rattle.form.specs.declared.answer.Refusal.TheVariants.{TooLong, BadNames, WorkTooShort, Broken}

-- the list is searched as the words are
seek-step : (n m : ℕ) (p : Place) (es : List Entry) (b : Bool) → seek es m ≡ or_name m (get_or (map place_of es) (spot m (map word_of es)) kept)
    → pick b (or_name m p) (seek es m) ≡ or_name m (get_or (p ∷ map place_of es) (pick b 0 (suc (spot m (map word_of es)))) kept)
seek-step n m p es true h = refl
seek-step n m p es false h = h

pub seek-spot : (es : List Entry) (m : ℕ) → seek es m ≡ or_name m (get_or (map place_of es) (spot m (map word_of es)) kept)
unfolding spot
seek-spot [] m = refl
seek-spot (entry n p ∷ es) m = seek-step n m p es (eqb n m) (seek-spot es m)

-- what stands for a name or an index, as the code finds it
abbrev or_moved : ℕ → ℕ → Place → Form
or_moved k m kept = leaf (free m)
or_moved k m (filled x) = walk (moved k 0) 0 x

abbrev free_moved : List ℕ → List Place → ℕ → Outer → Form
free_moved ws ps k (named m) = or_moved k m (get_or ps (spot m ws) kept)
free_moved ws ps k (dangling j) = leaf (bound (k + j))

abbrev Small : Place → Type 0
Small kept = Unit {0}
Small (filled x) = each small 0 x ≡ true

name-lift : (k m : ℕ) (p : Place) → k ≤ 2048 → Small p → or_moved k m p ≡ walk (up k) 0 (or_name m p)
unfolding walk
name-lift k m kept h s = refl
name-lift k m (filled x) h s = moved-lift k x (omega arith) s

module _ (list lm : List ℕ) (s e k m : ℕ) where
  place-words : (p : Place) → PlaceAt ⊥ list lm s e p → piece_words list lm (Part s e k 0) (Ident k 1 m) ≡ encode (or_moved k m p)
  unfolding piece_words
  place-words kept h = absurd h
  place-words (filled x) h = rw h.0 (moved-words k 0 x)

  place-small : (p : Place) → PlaceAt ⊥ list lm s e p → Small p
  place-small kept h = tt
  place-small (filled x) h = h.1

module _ (t : Table) (list lm : List ℕ) (es : List Entry) (words : take t.n t.words ≡ map word_of es) (count : t.n ≡ length es)
    (placed : (i : ℕ) → i < length es → PlaceAt ⊥ list lm (get_or t.starts i 0) (get_or t.ends i 0) (get_or (map place_of es) i kept)) where
  abbrev at : ℕ → ℕ
  at m = spot m (map word_of es)

  past : (i : ℕ) → length es ≤ i → get_or (map place_of es) i kept ≡ kept
  past i h = get_or-eq_default (map place_of es) kept (rw (length-map es place_of) h)

  all_small : (i : ℕ) → Small (get_or (map place_of es) i kept)
  all_small i = go (leb (length es) i) refl
    where
      go : (b : Bool) → leb (length es) i ≡ b → Small (get_or (map place_of es) i kept)
      go true q = rw (past i (leb-true (length es) i q)) tt
      go false q = place-small list lm (get_or t.starts i 0) (get_or t.ends i 0) 0 0 (get_or (map place_of es) i kept) (placed i (leb-false (length es) i q))

  name-words : (k m : ℕ) → piece_words list lm (free_piece (free_plan t) k m) (Ident k 1 m) ≡ encode (or_moved k m (get_or (map place_of es) (at m) kept))
  unfolding free_piece piece_words words_of encode
  name-words k m = rw words (go (leb t.n (at m)) refl)
    where
      go : (b : Bool) → leb t.n (at m) ≡ b → piece_words list lm (pick b Same (Part (get_or t.starts (at m) 0) (get_or t.ends (at m) 0) k 0)) (Ident k 1 m) ≡ encode (or_moved k m (get_or (map place_of es) (at m) kept))
      go true q = let h = leb-true t.n (at m) q in rw (past (at m) (omega arith))
      go false q =
          let h = leb-false t.n (at m) q in
          place-words list lm (get_or t.starts (at m) 0) (get_or t.ends (at m) 0) k m (get_or (map place_of es) (at m) kept) (placed (at m) (omega arith))

  index-words : (k i : ℕ) (z : Binding) → binding k i ≡ z → words_of (Ident k 2 i) ≡ encode (walk_index (free_moved (map word_of es) (map place_of es)) k i z)
  unfolding words_of encode
  index-words k i inside q = refl
  index-words k i (outside j) q = rw (binding-back k i j q)

  free-leaf : (k : ℕ) (x : Leaf) → planned (free_plan t) list lm (ident_of k x) ≡ encode (walk_leaf (free_moved (map word_of es) (map place_of es)) k x)
  unfolding piece_of piece_words
  free-leaf k (free m) = name-words k m
  free-leaf k (bound i) = index-words k i (binding k i) refl

  free-plain : (w : ℕ) → planned (free_plan t) list lm (Plain w) ≡ w ∷ []
  unfolding piece_of piece_words words_of
  free-plain w = refl

  free-agree : (k : ℕ) (x : Outer) → tight 2048 k x ≡ true → free_moved (map word_of es) (map place_of es) k x ≡ put (free_for es) k x
  unfolding walk
  free-agree k (named m) h = rw (seek-spot es m) (name-lift k m (get_or (map place_of es) (at m) kept) (tight-depth 2048 k (named m) h) (all_small (at m)))
  free-agree k (dangling j) h = ap (λ z. leaf (bound z)) (omega arith)

  pub free-tree : (s : Sort) (f : Form) → Ok 64 s f → rewritten (planned (free_plan t) list lm) (items_of 0 f) ≡ encode (substitute es f)
  unfolding substitute
  free-tree s f ok =
      walk-items (planned (free_plan t) list lm) (free_moved (map word_of es) (map place_of es)) free-plain free-leaf 0 f
      ∙ ap encode (walk-agree (tight 2048) (free_moved (map word_of es) (map place_of es)) (put (free_for es)) free-agree 0 f (ok-tight ok 2048 0 (omega arith)))

-- the kind as which the row was read
kind-sort : (row : List ℕ) (s : Sort) (f : Form) → form_of Either row ≡ found s f → (b : Bool) → as_expr Either row ≡ b → kind_for b ≡ kind_of s
kind-sort row s f q b e = go b (row_form (sort_for b) row) (sym (form-of Either row b (sym e)) ∙ q)
  where
    go : (b : Bool) (w : Whole) → as_sort (sort_for b) w ≡ found s f → kind_for b ≡ kind_of s
    go true (one g) q = let z : expr ≡ s = cc in rw (← z)
    go false (one g) q = let z : pred ≡ s = cc in rw (← z)
    go b not-one q = absurd (clash cc)

-- the whole call
abbrev free_go : ℕ → Sort → Form → List Entry → Outcome
free_go room s f es = needs BadNames (good_names (map word_of es)) (finish s room (substitute es f))

module _ (list row : List ℕ) (wl room : ℕ) where
  pub free-small : wl < 16384 → free_outcome list row wl room ≡ stop WorkTooShort
  unfolding free_outcome
  free-small h = call-small Either Pairs (free_go room) list row wl h

  module _ (enough : 16384 ≤ wl) where
    pub free-long : 8192 < length row → free_outcome list row wl room ≡ stop TooLong
    unfolding free_outcome
    free-long h = call_long Either Pairs (free_go room) list row wl enough h

    pub free-missing : length row ≤ 8192 → form_of Either row ≡ missing → free_outcome list row wl room ≡ stop (Broken (break_at Either row))
    unfolding free_outcome
    free-missing h q = call-missing Either Pairs (free_go room) list row wl enough h q

    pub free-list-long : length row ≤ 8192 → 8192 < length list → free_outcome list row wl room ≡ pick (has_form (form_of Either row)) (stop TooLong) (stop (Broken (break_at Either row)))
    unfolding free_outcome
    free-list-long h l = call-list-long Either Pairs (free_go room) list row wl enough h l

    module _ (m : List ℕ) (x : Checked Either row m (length row)) where
      module _ (short : length list ≤ 8192) where
        pub free-no-list : list_of Pairs list ≡ absent → free_outcome list row wl room ≡ stop (Broken (break_list Pairs list))
        unfolding free_outcome
        free-no-list o = call-no-list Either Pairs (free_go room) list row wl enough m x short o

        free-named : (es : List Entry) → list_of Pairs list ≡ some es → free_outcome list row wl room ≡ free_go room x.sort x.form es
        unfolding free_outcome
        free-named es o = call-read Either Pairs (free_go room) list row wl enough m x short es o

        module _ (a b : List ℕ) (t : Table) (ok : Bool) (h : Listing (list_of Pairs list) empty_table t a b ok) (y : ok ≡ true) where
          pub free-bad : (g : Bool) → g ≡ good_words t.n t.words → g ≡ false → free_outcome list row wl room ≡ stop BadNames
          free-bad g e n =
              let (es, o, u, k) = listing-yes _ _ _ _ _ _ h y in
              go es o u
            where
              go : (es : List Entry) → list_of Pairs list ≡ some es → t ≡ tabled es 0 empty_table → free_outcome list row wl room ≡ stop BadNames
              go es o u = free-named es o ∙ rw (← good-listed es t u, ← e, n)

few-names-of : (es : List Entry) → good_names (map word_of es) ≡ true → length es ≤ 32
unfolding good_names
few-names-of es e = rw (length-map es word_of) at (leb-true (length (map word_of es)) 32 (and_left (leb (length (map word_of es)) 32) (distinct (map word_of es)) e))

-- what is known when the list was read into the work row
pub record Pairing (list : List ℕ) (t : Table) (work : List ℕ) : Type 0 where
  pub es : List Entry
  pub is : list_of Pairs list ≡ some es
  pub good : good_names (map word_of es) ≡ true
  pub few : length es ≤ 32
  pub table : t ≡ tabled es 0 empty_table
  pub marks : take (length list) (drop 8192 work) ≡ mark_entries es 0 (replicate (length list) 0)

module _ (list work : List ℕ) (t : Table) (ok : Bool) where
  pairing-of : (es : List Entry) → list_of Pairs list ≡ some es → t ≡ tabled es 0 empty_table → take (length list) (drop 8192 work) ≡ mark_entries es 0 (replicate (length list) 0) → good_words t.n t.words ≡ true
      → Pairing list t work
  pairing-of es o u k g =
      let n : good_names (map word_of es) ≡ true = sym (good-listed es t u) ∙ g in
      record { es = es; is = o; good = n; few = few-names-of es n; table = u; marks = k }

  pub pairing : Listing (list_of Pairs list) empty_table t (replicate (length list) 0) (take (length list) (drop 8192 work)) ok → ok ≡ true → (g : Bool) → g ≡ good_words t.n t.words → g ≡ true → Pairing list t work
  pairing h y g e z =
      let (es, o, u, k) = listing-yes _ _ _ _ _ _ h y in
      pairing-of es o u k (sym e ∙ z)

module _ (list : List ℕ) (t : Table) (work : List ℕ) (y : Pairing list t work) where
  pub pairs-few : t.n ≤ 32
  pairs-few = let n = listed-n y.es in let f = y.few in rw y.table (omega arith)

  pub pairs-in-row : InRow (free_plan t) (length list)
  unfolding InRow
  pairs-in-row i h = rw y.table (listed-in-row Pairs list y.es y.is y.few i)

  module _ (row : List ℕ) (wl room : ℕ) (enough : 16384 ≤ wl) (short : length list ≤ 8192) (x : Checked Either row (take (length row) work) (length row)) where
    row-items : items row work ≡ items_of 0 x.form
    row-items =
        sym (items-take row work)
        ∙ (rw (x.marks, x.words) (marked-items x.form (length (encode x.form)) (le_refl _)))

    free-built : (sure : Bool) → (sure ≡ true → length (encode (substitute y.es x.form)) ≤ 8192 → is_one (row_form x.sort (encode (substitute y.es x.form))) ≡ true)
        → replaced sure (kind_for (as_expr Either row)) [] (free_plan t) list (drop 8192 work) row work room ≡ finish x.sort room (substitute y.es x.form)
    unfolding replaced
    free-built sure fits =
        let g = free-tree (tabled y.es 0 empty_table) list (drop 8192 work) y.es (listed-words y.es y.few) (listed-n y.es) (listed-places Pairs list y.es y.is y.few (drop 8192 work) y.marks) x.sort x.form x.ok in
        rw (y.table, row-items, g, kind-sort row x.sort x.form x.is_found (as_expr Either row) refl) (emit-sure sure x.sort room (substitute y.es x.form) fits)

    free-said : free_outcome list row wl room ≡ finish x.sort room (substitute y.es x.form)
    free-said = free-named list row wl room enough (take (length row) work) x short y.es y.is ∙ rw y.good

    pub free-row : (d : ℕ) → LeavesBy t list d → (b : Bool) → (b ≡ true → Ok d x.sort x.form) → replaced b (kind_for (as_expr Either row)) [] (free_plan t) list (drop 8192 work) row work room ≡ free_outcome list row wl room
    free-row d left b shallow = free-built b (λ y l. within (shallow y) l) ∙ sym free-said
      where
        within : Ok d x.sort x.form → length (encode (substitute y.es x.form)) ≤ 8192 → is_one (row_form x.sort (encode (substitute y.es x.form))) ≡ true
        within o l = let a = left.most in free-fits (64 - d) y.es (listed_small Pairs list y.es y.is y.few d (rw y.table at left) (some-deep o)) o (omega arith) l

  pub pairs-ready : 8192 + length list ≤ length work → Ready (free_plan t) list (drop 8192 work)
  pairs-ready h =
      let f = listed-full y.es t y.table in
      record { tabled = record { few = pairs-few; words = f.0; starts = f.1; ends = f.2 }; in_row = pairs-in-row; marked = rw length-drop (omega arith) }
