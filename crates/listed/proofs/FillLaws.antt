-- Fill on rows is fill on trees. Assumes nothing.
use mathlib.Core.Path.{◌≡◌, refl, ap, sym, ◌∙◌}
use mathlib.Core.Bool.{Bool, true, false}
use mathlib.Core.List.{List, [], ◌∷◌, ◌++◌, map, map-append}
use mathlib.Core.Option.{none as absent, some}
use Prim.Native.Nat.{ℕ, zero, suc, ◌+◌, ◌-◌, ◌≤◌, ◌<◌}
use native.Mathlib.Omega.{arith}
use borrow.Author.Tests.{le-leb, lt-leb, leb-true, leb-false, lt-ltb, le-ltb}
use lib.Dec.{leb, ltb}
use lib.ListN.{length, get_or, take, drop, replicate, length-append, length-map, length-drop, length-replicate, get_or-append, take-append-drop}
use lib.Seq.{get_or-append-add}
use Rattle.tree.specs.Form.{Form, pick, encode}
use Rattle.tree.specs.Tag.{Sort, pred}
use Rattle.form.specs.Break.{break_at, break_list}
use Rattle.form.specs.Decode.{row_form, missing, form_of}
use Rattle.form.specs.Lists.{Place, kept, filled, Entry, entry, word_of, place_of, list_of}
use Rattle.form.specs.Answer.{Outcome, stop, needs, is_one, finish}
use Rattle.reader.specs.Internal.Reads.{mark, mark_entries, table_of, empty_table, tabled, Listing}
use Rattle.form.specs.declared.answer.Kind.TheVariants.{Predicate}
use Rattle.form.specs.declared.answer.ListKind.TheVariants.{Places}
use Rattle.reader.specs.declared.lists.Table.{Table}
use Rattle.form.proofs.DecodeLaws.{Ok}
use Rattle.form.proofs.RowLaws.{row-encode}
use Rattle.form.proofs.ListLaws.{GoodAll, list-sound}
use Rattle.reader.proofs.TableLaws.{rows-n, listing-yes}
use Rattle.shift.proofs.CheckedLaws.{Checked}
use Rattle.rules.specs.Walk.{subst}
use Rattle.rules.specs.Fill.{quantified, of_quantified, kept_decls, fill_for, fill, places_for, fill_outcome}
use Rattle.rules.proofs.ReplicateLaws.{replicate-at, map-replicate}
use Rattle.shift.specs.Internal.Items.{items, rewritten}
use Rattle.shift.proofs.RowLaws.{items_of, marks_of, only-mark}
use Rattle.shift.proofs.AroundLaws.{head_of, body-items, Quant, quant-of}
use Rattle.replace.specs.Internal.Pieces.{InRow, Ready, planned, replaced, fill_plan, kept_words, head_words, placed_row, has_form}
use Rattle.decls.specs.Internal.Noted.{count_in, body_start, noted_head}
use Rattle.decls.proofs.DeclLaws.{good-kept, few-kept, decls-ok}
use Rattle.decls.proofs.CountLaws.{quant-good, body-start}
use Rattle.decls.proofs.HeadLaws.{quant_head, encode-head}
use Rattle.decls.proofs.RowHeads.{plain-start, plain-head, noted-row-head, no-quant, the-quant, the-count}
use Rattle.listed.specs.Internal.Listed.{plain_row, noted_row, filled_row}
use Rattle.replace.proofs.EntryLaws.{PlaceAt, listed-words-for, listed-places, listed-in-row, listed-full}
use Rattle.replace.proofs.BuildLaws.{emit-sure}
use Rattle.replace.proofs.InsideLaws.{SmallPlaces, some-deep, small-append, filled-body}
use Rattle.replace.proofs.SmallLaws.{LeavesBy, listed_small}
use Rattle.listed.proofs.CallLaws.{call-small, call_long, call-missing, call-list-long, call-no-list, call-read}
use Rattle.replace.proofs.FillTree.{word_for, fill-tree}
use Rattle.replace.proofs.QuantLaws.{pred-sort, form-ok}
use Rattle.replace.proofs.ReadyLaws.{ready-is}
use Rattle.form.specs.declared.answer.Refusal.TheVariants.{TooLong, NotQuantified, TooManyPlaces, WorkTooShort, Broken}

-- what the code writes under a head
pub plain-placed : (sure : Bool) (hd list lm row marks : List ℕ) (t : Table) (room : ℕ) → Ready (fill_plan t) list lm → hd ≡ head_words (get_or row 0 0) (kept_words (take t.n t.words) (drop 2 row))
    → placed_row sure hd t 0 list lm (drop (2 + t.n) row) (drop (2 + t.n) marks) room ≡ plain_row sure list lm row marks t room
unfolding plain_row placed_row
plain-placed sure hd list lm row marks t room r e = rw (ready-is t list lm 0 r, e)

pub same-filled : (sure : Bool) (list lm lm' row marks : List ℕ) (t : Table) (room : ℕ) → lm ≡ lm' → filled_row sure list lm row marks t room ≡ filled_row sure list lm' row marks t room
same-filled sure list lm lm' row marks t room e = rw e

pub noted-placed : (sure : Bool) (hd list lm row marks : List ℕ) (t : Table) (room from op : ℕ) → Ready (fill_plan t) list lm → op ≡ get_or row 0 0 - 10 → hd ≡ noted_head op (take t.n t.words) row 8192 → from ≡ body_start row t.n
    → placed_row sure hd t 0 list lm (drop from row) (drop from marks) room ≡ noted_row sure list lm row marks t room
unfolding noted_row placed_row
noted-placed sure hd list lm row marks t room from op r o e k = rw (ready-is t list lm 0 r, e, ← o, k)

-- by the first word
module _ (sure : Bool) (list lm row marks : List ℕ) (t : Table) (room : ℕ) where
  pub filled-plain : get_or row 0 0 < 860 → plain_row sure list lm row marks t room ≡ filled_row sure list lm row marks t room
  unfolding filled_row
  filled-plain h = rw (lt-ltb (get_or row 0 0) 860 h)

  pub filled-noted : 860 ≤ get_or row 0 0 → noted_row sure list lm row marks t room ≡ filled_row sure list lm row marks t room
  unfolding filled_row
  filled-noted h = rw (le-ltb (get_or row 0 0) 860 h)

-- a quantified row filled by places is the filled tree
module _ (f : Form) (y : Quant 63 f) (t : Table) (list lm : List ℕ) (ps : List Place) (words : take t.n t.words ≡ map word_for ps) (count : t.n ≡ length ps)
    (placed : (i : ℕ) → i < length ps → PlaceAt (Unit {0}) list lm (get_or t.starts i 0) (get_or t.ends i 0) (get_or ps i kept)) (all : length ps ≡ length y.decls)
    (ok : Ok 64 pred f) (short : length (encode f) ≤ 8192)
    (m : List ℕ) (marks : take (length (encode f)) m ≡ mark f 0 0 (replicate (length (encode f)) 0)) (room : ℕ)
    (sure : Bool) (inside : sure ≡ true → length (encode (fill y.op y.decls ps y.body)) ≤ 8192 → is_one (row_form pred (encode (fill y.op y.decls ps y.body))) ≡ true) where
  row-marks-are : m ≡ marks_of 0 f ++ drop (length (encode f)) m
  row-marks-are = sym (take-append-drop (length (encode f)) m) ∙ ap (λ z. z ++ drop (length (encode f)) m) (marks ∙ only-mark f)

  -- the words of the body, from where it starts
  body-filled : (from : ℕ) → from ≡ length (head_of y.op y.decls) → rewritten (planned (fill_plan t) list lm) (items (drop from (encode f)) (drop from m)) ≡ encode (subst (fill_for ps) y.body)
  body-filled from e =
      let most = y.most in
      let n : length y.decls + 0 ≡ t.n = omega arith in
      let i : items (drop from (encode f)) (drop from (marks_of 0 f ++ drop (length (encode f)) m)) ≡ items_of t.n y.body
      = ap (λ z. items (drop from (encode z)) (drop from (marks_of 0 z ++ drop (length (encode f)) m))) y.form
      ∙ (body-items y.op 0 y.decls y.body from (drop (length (encode f)) m) e ∙ ap (λ z. items_of z y.body) n) in
      ap (λ z. rewritten (planned (fill_plan t) list lm) (items (drop from (encode f)) (drop from z))) row-marks-are ∙ (rw i (fill-tree t list lm ps words count placed (omega arith) {d = 63} (omega arith) y.ok))

  under-head : (hd : List ℕ) (from : ℕ) → hd ≡ quant_head y.op (kept_decls ps y.decls) → from ≡ length (head_of y.op y.decls)
      → replaced sure Predicate hd (fill_plan t) list lm (drop from (encode f)) (drop from m) room ≡ finish pred room (fill y.op y.decls ps y.body)
  unfolding replaced fill
  under-head hd from h k = rw (body-filled from k, h, ← encode-head y.op (kept_decls ps y.decls) (subst (fill_for ps) y.body)) (emit-sure sure pred room _ inside)

  pub filled-tree : filled_row sure list lm (encode f) m t room ≡ finish pred room (fill y.op y.decls ps y.body)
  unfolding filled_row plain_row noted_row
  filled-tree = go (ltb (get_or (encode f) 0 0) 860) refl
    where
      go : (b : Bool) → ltb (get_or (encode f) 0 0) 860 ≡ b → pick b (plain_row sure list lm (encode f) m t room) (noted_row sure list lm (encode f) m t room) ≡ finish pred room (fill y.op y.decls ps y.body)
      go true q =
          under-head (head_words (get_or (encode f) 0 0) (kept_words (take t.n t.words) (drop 2 (encode f)))) (2 + t.n) (rw words (plain-head y ps all q)) (rw (count ∙ all) (plain-start y q))
      go false q =
          under-head (noted_head (get_or (encode f) 0 0 - 10) (take t.n t.words) (encode f) 8192) (body_start (encode f) t.n) (rw words (noted-row-head y ps all ok short q)) (rw (count ∙ all) (body-start f ok y))

-- the result is a form where the row is shallow enough for the expressions
module _ (m : ℕ) (f : Form) (d : ℕ) (o : Ok (suc d) pred f) (deep : d + m ≤ 63) (ok : Ok 64 pred f) (y : Quant 63 f) (ps : List Place) (all : length ps ≡ length y.decls) (small : SmallPlaces m ps) where
  body_ok : Ok 63 pred (subst (fill_for ps) y.body)
  body_ok = go (quant-of o y.op y.decls y.body y.is)
    where
      go : Quant d f → Ok 63 pred (subst (fill_for ps) y.body)
      go z =
          let i = sym y.is ∙ z.is in
          let b : y.body ≡ z.body = cc in
          let l = y.most in
          rw b (filled-body m ps (omega arith) small z.ok deep)

  fill-fits : length (encode (fill y.op y.decls ps y.body)) ≤ 8192 → is_one (row_form pred (encode (fill y.op y.decls ps y.body))) ≡ true
  unfolding fill
  fill-fits l =
      let k = few-kept ps y.decls in
      let n = y.most in
      ap is_one (row-encode (decls-ok y.op y.which (subst (fill_for ps) y.body) (kept_decls ps y.decls) (good-kept ps y.decls (quant-good f ok y)) (omega arith) body_ok) l)

-- the whole call
abbrev fill_go : ℕ → Sort → Form → List Entry → Outcome
fill_go room s f es = of_quantified (λ t ns b. needs TooManyPlaces (leb (length es) (length ns)) (finish pred room (fill t ns (places_for (length ns) es) b))) NotQuantified (quantified f)

module _ (list row : List ℕ) (wl room : ℕ) where
  pub fill-small : wl < 16384 → fill_outcome list row wl room ≡ stop WorkTooShort
  unfolding fill_outcome
  fill-small h = call-small Predicate Places (fill_go room) list row wl h

  module _ (enough : 16384 ≤ wl) where
    pub fill-long : 8192 < length row → fill_outcome list row wl room ≡ stop TooLong
    unfolding fill_outcome
    fill-long h = call_long Predicate Places (fill_go room) list row wl enough h

    pub fill-missing : length row ≤ 8192 → form_of Predicate row ≡ missing → fill_outcome list row wl room ≡ stop (Broken (break_at Predicate row))
    unfolding fill_outcome
    fill-missing h q = call-missing Predicate Places (fill_go room) list row wl enough h q

    pub fill-list-long : length row ≤ 8192 → 8192 < length list → fill_outcome list row wl room ≡ pick (has_form (form_of Predicate row)) (stop TooLong) (stop (Broken (break_at Predicate row)))
    unfolding fill_outcome
    fill-list-long h l = call-list-long Predicate Places (fill_go room) list row wl enough h l

    module _ (m : List ℕ) (x : Checked Predicate row m (length row)) where
      module _ (short : length list ≤ 8192) where
        pub fill-no-list : list_of Places list ≡ absent → fill_outcome list row wl room ≡ stop (Broken (break_list Places list))
        unfolding fill_outcome
        fill-no-list o = call-no-list Predicate Places (fill_go room) list row wl enough m x short o

        fill-read : (es : List Entry) → list_of Places list ≡ some es → fill_outcome list row wl room ≡ fill_go room x.sort x.form es
        unfolding fill_outcome
        fill-read es o = call-read Predicate Places (fill_go room) list row wl enough m x short es o

        fill-counted : (es : List Entry) → list_of Places list ≡ some es → (q : Quant 63 x.form)
            → fill_outcome list row wl room ≡ needs TooManyPlaces (leb (length es) (length q.decls)) (finish pred room (fill q.op q.decls (places_for (length q.decls) es) q.body))
        fill-counted es o q = fill-read es o ∙ rw q.is

        module _ (a b : List ℕ) (t : Table) (ok : Bool) (h : Listing (list_of Places list) empty_table t a b ok) (y : ok ≡ true) (n : ℕ) (e : n ≡ count_in row) where
          pub fill-other : n ≡ 0 → fill_outcome list row wl room ≡ stop NotQuantified
          fill-other z =
              let (es, o, u, k) = listing-yes _ _ _ _ _ _ h y in
              go es o
            where
              go : (es : List Entry) → list_of Places list ≡ some es → fill_outcome list row wl room ≡ stop NotQuantified
              go es o = fill-read es o ∙ rw (no-quant row m (length row) x n e z)

          pub fill_more : (n ≡ 0 → ⊥) → n < t.n → fill_outcome list row wl room ≡ stop TooManyPlaces
          fill_more z c =
              let (es, o, u, k) = listing-yes _ _ _ _ _ _ h y in
              go es o u
            where
              go : (es : List Entry) → list_of Places list ≡ some es → t ≡ tabled es 0 empty_table → fill_outcome list row wl room ≡ stop TooManyPlaces
              go es o u =
                  let q = the-quant row m (length row) x n e z in
                  let r = rows-n es t u in
                  let k = the-count row m (length row) x n e q in
                  fill-counted es o q ∙ rw (lt-leb (length es) (length q.decls) (omega arith))

-- the places of a list
place-listed : (n : ℕ) (es : List Entry) (i : ℕ) → i < length es → get_or (places_for n es) i kept ≡ get_or (map place_of es) i kept
place-listed n es i h = get_or-append (map place_of es) _ kept i (rw length-map h)

place-past : (n : ℕ) (es : List Entry) (i : ℕ) → length es ≤ i → get_or (places_for n es) i kept ≡ kept
place-past n es i h =
    let l = length-map es place_of in
    let k : length (map place_of es) + (i - length es) ≡ i = omega arith in
    ap (λ z. get_or (places_for n es) z kept) (sym k) ∙ (get_or-append-add (map place_of es) _ (i - length es) kept ∙ replicate-at (n - length es) (i - length es) kept)

small-kept : (m k : ℕ) → SmallPlaces m (replicate k kept)
small-kept m zero = tt
small-kept m (suc k) = (tt, small-kept m k)

place-words : (es : List Entry) → GoodAll Places es → map word_of es ≡ map word_for (map place_of es)
place-words [] g = refl
place-words (entry w kept ∷ es) g = rw (g.0, place-words es g.1)
place-words (entry w (filled x) ∷ es) g = rw (g.0.0, place-words es g.1)

-- a table taken for n declarations: behind the entries its words are 0, so these places are kept
abbrev counted : ℕ → Table → Table
counted n t = table_of n t.words t.starts t.ends

pub record Placing (list : List ℕ) (t : Table) (work : List ℕ) (n : ℕ) : Type 0 where
  pub es : List Entry
  pub is : list_of Places list ≡ some es
  pub enough : length es ≤ n
  pub table : t ≡ tabled es 0 empty_table
  pub marks : take (length list) (drop 8192 work) ≡ mark_entries es 0 (replicate (length list) 0)

pub placing : (list work : List ℕ) (t : Table) (ok : Bool) (n : ℕ) → Listing (list_of Places list) empty_table t (replicate (length list) 0) (take (length list) (drop 8192 work)) ok → ok ≡ true → t.n ≤ n → Placing list t work n
placing list work t ok n h y c =
    let (es, o, u, k) = listing-yes _ _ _ _ _ _ h y in
    let r = rows-n es t u in
    record { es = es; is = o; enough = omega arith; table = u; marks = k }

-- the places of n declarations, their number and their words
module _ (n : ℕ) (es : List Entry) (enough : length es ≤ n) where
  places_count : length (places_for n es) ≡ n
  places_count = rw (length-append, length-map, length-replicate) (omega arith)

  places-words : GoodAll Places es → n ≤ 32 → take n (tabled es 0 empty_table).words ≡ map word_for (places_for n es)
  places-words g most = rw (listed-words-for es n enough most, place-words es g, map-append, map-replicate)

module _ (list : List ℕ) (t : Table) (work : List ℕ) (n : ℕ) (y : Placing list t work n) (few : n ≤ 32) where
  es-few : length y.es ≤ 32
  es-few = let c = y.enough in omega arith

  places-in-row : InRow (fill_plan (counted n t)) (length list)
  unfolding InRow
  places-in-row i h = rw y.table (listed-in-row Places list y.es y.is es-few i)

  pub places-ready : 8192 + length list ≤ length work → Ready (fill_plan (counted n t)) list (drop 8192 work)
  places-ready h =
      let f = listed-full y.es t y.table in
      record { tabled = record { few = few; words = f.0; starts = f.1; ends = f.2 }; in_row = places-in-row; marked = rw length-drop (omega arith) }

  module _ (row : List ℕ) (wl room : ℕ) (enough : 16384 ≤ wl) (short : length list ≤ 8192) (row-short : length row ≤ 8192) (x : Checked Predicate row (take (length row) work) (length row))
      (e : n ≡ count_in row) (z : n ≡ 0 → ⊥) where
    q : Quant 63 x.form
    q = the-quant row (take (length row) work) (length row) x n e z

    abbrev ps : List Place
    ps = places_for n y.es

    decls-count : n ≡ length q.decls
    decls-count = the-count row (take (length row) work) (length row) x n e q

    ps-count : length ps ≡ length q.decls
    ps-count = places_count n y.es y.enough ∙ decls-count

    row-marks : take (length (encode x.form)) work ≡ mark x.form 0 0 (replicate (length (encode x.form)) 0)
    row-marks = rw x.words at x.marks

    fill-said : fill_outcome list row wl room ≡ finish pred room (fill q.op q.decls ps q.body)
    fill-said =
        let h = y.enough in
        fill-counted list row wl room enough (take (length row) work) x short y.es y.is q ∙ rw (← decls-count, le-leb (length y.es) n h)

    -- the depth of the expressions is measured by the entries alone
    module _ (d : ℕ) (left : LeavesBy t list d) (b : Bool) (shallow : b ≡ true → Ok d x.sort x.form) where
      abbrev result : Form
      result = fill q.op q.decls ps q.body

      small_all : 0 < d → SmallPlaces (64 - d) ps
      small_all h = small-append (64 - d) (map place_of y.es) _ (listed_small Places list y.es y.is es-few d (rw y.table at left) h) (small-kept (64 - d) (n - length y.es))

      placed : (i : ℕ) → i < length ps → PlaceAt (Unit {0}) list (drop 8192 work) (get_or (tabled y.es 0 empty_table).starts i 0) (get_or (tabled y.es 0 empty_table).ends i 0) (get_or ps i kept)
      placed i h = go (leb (length y.es) i) refl
        where
          go : (c : Bool) → leb (length y.es) i ≡ c → PlaceAt (Unit {0}) list (drop 8192 work) (get_or (tabled y.es 0 empty_table).starts i 0) (get_or (tabled y.es 0 empty_table).ends i 0) (get_or ps i kept)
          go true k = rw (place-past n y.es i (leb-true (length y.es) i k)) tt
          go false k =
              let l = leb-false (length y.es) i k in
              rw (place-listed n y.es i l) (listed-places Places list y.es y.is es-few (drop 8192 work) y.marks i l)

      within : (k : ℕ) → k ≡ d → Ok k pred x.form → length (encode result) ≤ 8192 → is_one (row_form pred (encode result)) ≡ true
      within zero e o l = absurd (let h = some-deep o in omega arith)
      within (suc k) e o l =
          let a = left.most in
          fill-fits (64 - d) x.form k o (omega arith) (form-ok row (take (length row) work) (length row) x) q ps ps-count (small_all (omega arith)) l

      fill-within : b ≡ true → length (encode result) ≤ 8192 → is_one (row_form pred (encode result)) ≡ true
      fill-within s l = within d refl (rw (pred-sort row x.sort x.form x.is_found) at (shallow s)) l

      fill-built : filled_row b list (drop 8192 work) (encode x.form) work (counted n (tabled y.es 0 empty_table)) room ≡ finish pred room result
      fill-built =
          filled-tree x.form q (counted n (tabled y.es 0 empty_table)) list (drop 8192 work) ps (places-words n y.es y.enough (list-sound Places list y.es y.is).1 few)
          (sym (places_count n y.es y.enough)) placed ps-count (form-ok row (take (length row) work) (length row) x) (rw x.words at row-short) work row-marks room b fill-within

      fill-made : filled_row b list (drop 8192 work) row work (counted n t) room ≡ finish pred room result
      fill-made =
          ap (λ (u : Table). filled_row b list (drop 8192 work) row work (counted n u) room) y.table
          ∙ (ap (λ (r : List ℕ). filled_row b list (drop 8192 work) r work (counted n (tabled y.es 0 empty_table)) room) x.words ∙ fill-built)

      pub fill-row : filled_row b list (drop 8192 work) row work (counted n t) room ≡ fill_outcome list row wl room
      fill-row = fill-made ∙ sym fill-said
