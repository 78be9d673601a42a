-- Annotations of a body's own declarations under declarations of which only the first are kept: whether they use one of these, and their words
-- with the places filled. Assumes nothing.
use mathlib.Core.Path.{◌≡◌, refl, ap, sym, ◌∙◌}
use mathlib.Core.Bool.{Bool, true, false, ◌&&◌}
use mathlib.Core.List.{List, [], ◌∷◌, ◌++◌, append-nil, map, reverse}
use mathlib.Core.Option.{none as absent, some}
use Prim.Native.Nat.{ℕ, zero, suc, ◌+◌, ◌-◌, ◌≤◌, ◌<◌}
use native.Mathlib.Nat.{zero-add}
use native.Mathlib.Omega.{arith}
use borrow.Author.Tests.{lt-leb}
use lib.Dec.{eqb}
use lib.ListN.{length, get_or, take, drop, set, replicate, length-replicate, length-map, length-drop, length-reverse}
use lib.Seq.{get_or-drop, take_at}
use Rattle.tree.specs.Form.{Form, pick, encode, encode_decls}
use Rattle.tree.specs.Tag.{expr}
use Rattle.form.proofs.DecodeLaws.{clash, Ok}
use Rattle.form.specs.Lists.{Place, kept, filled}
use Rattle.reader.specs.declared.lists.Table.{Table}
use Rattle.rules.specs.Walk.{lift, subst, collect, each}
use Rattle.rules.specs.Shift.{reaches}
use Rattle.rules.specs.Fill.{Decl, unlisted, kept_count, fill_index, fill_for, any_noted}
use Rattle.rules.specs.Prune.{is_not}
use Rattle.rules.specs.Partial.{lower_place, on_note}
use Rattle.rules.proofs.WalkLaws.{each_decls}
use Rattle.rules.proofs.JoinLaws.{lift-reaches, lower-lift, unused_notes}
use Rattle.rules.proofs.TreeLaws.{lift-zero}
use Rattle.rules.proofs.JoinFill.{fits}
use Rattle.shift.specs.Internal.Items.{items, words_of, rewritten}
use Rattle.shift.specs.declared.items.Item.TheVariants.{Plain}
use Rattle.shift.proofs.RowLaws.{items_of, items_decls, marks_decls, items-encode_decls, rewritten-append}
use Rattle.replace.specs.Internal.Pieces.{planned, piece_of, piece_words, down_plan}
use Rattle.replace.proofs.FillTree.{kept-reverse, fill-past, ok-flat}
use Rattle.decls.specs.Internal.Used.{cleared_by}
use Rattle.decls.proofs.DeclLaws.{GoodDecls}
use Rattle.member.specs.Internal.Member.{PlacedAt, TableIs, lifted}
use Rattle.member.specs.Internal.Noted.{no_zero, front_filled}
use Rattle.member.proofs.MemberTree.{lift-reverse}
use Rattle.member.proofs.ShareLaws.{table_filled}
use Rattle.member.proofs.TableLaws.{filling}

-- what fills a place is from outside: an index of a place mentions none of the j declarations in front, and an index of theirs does
low_fits : (j : ℕ) (zs : List Place) → kept_count zs ≡ 0 → (i : ℕ) → i < length zs → each (reaches j) 0 (fill_index 0 0 (map (lifted j) zs) i) ≡ true
low_fits j [] e i h = absurd (omega arith)
low_fits j (kept ∷ zs) e i h = absurd (omega arith)
low_fits j (filled x ∷ zs) e zero h = rw (lift-zero (lift j x)) (lift-reaches j x)
low_fits j (filled x ∷ zs) e (suc i) h = low_fits j zs e i (omega arith)

high_fits : (j : ℕ) (rs : List Place) (k : ℕ) → k < j → each (reaches j) 0 (fill_index 0 0 rs (length rs + k)) ≡ false
unfolding collect
high_fits j rs k h = let e : 0 + k ≡ k = omega arith in rw (fill-past 0 rs k, e) (lt-leb j k h)

pick-zero : (b c : Bool) → pick (eqb (pick b 1 0) 0) false c ≡ (b && c)
pick-zero true c = refl
pick-zero false c = refl

-- so the annotations mention none of them after filling exactly if they use none of their indices before
module _ (j : ℕ) (x : Form) (rs zs : List Place) (all : kept_count rs ≡ 0) (e : rs ≡ map (lifted j) zs) (none : kept_count zs ≡ 0) (ds : List Decl) where
  abbrev free_of : ℕ → Bool
  free_of i = each_decls (is_not i) 0 (unlisted ds)

  fits_low : (i : ℕ) → i < length rs → fits j x rs all i ≡ true
  fits_low i h =
      let a : reverse rs ≡ map (lifted j) (reverse zs) = ap reverse e ∙ sym (lift-reverse j zs) in
      let l : length rs ≡ length (reverse zs) = ap length e ∙ (length-map zs (lifted j) ∙ sym (length-reverse zs)) in
      rw a (low_fits j (reverse zs) (kept-reverse zs ∙ none) i (omega arith))

  fits-high : (k : ℕ) → k < j → fits j x rs all (length rs + k) ≡ false
  fits-high k h = rw (← length-reverse rs) (high_fits j (reverse rs) k h)

  low-unused : (i : ℕ) → i ≤ length rs → unused_notes (fits j x rs all) i ds ≡ true
  low-unused zero h = refl
  low-unused (suc i) h = rw (fits_low i (omega arith), low-unused i (omega arith))

  front-unused : (k : ℕ) → k ≤ j → unused_notes (fits j x rs all) (length rs + k) ds ≡ no_zero (take k (cleared_by free_of (replicate (length rs + k) 1)))
  unfolding no_zero cleared_by
  front-unused zero h = low-unused (length rs + 0) (omega arith)
  front-unused (suc k) h =
      let s : length rs + suc k ≡ suc (length rs + k) = omega arith in
      rw (s, fits-high k (omega arith), length-replicate {A = ℕ} (length rs + k) 1, front-unused k (omega arith))
      (sym (pick-zero (free_of (length rs + k)) (no_zero (take k (cleared_by free_of (replicate (length rs + k) 1))))))

  pub clear-test : unused_notes (fits j x rs all) (length rs + j) ds ≡ no_zero (take j (cleared_by free_of (replicate (length rs + j) 1)))
  clear-test = front-unused j (omega arith)

-- places that are lifted and lowered
pub lowered-back : (j : ℕ) (zs : List Place) → map (lower_place j) (map (lifted j) zs) ≡ zs
lowered-back j [] = refl
lowered-back j (kept ∷ zs) = ap (λ z. kept ∷ z) (lowered-back j zs)
lowered-back j (filled x ∷ zs) = rw (lower-lift j x, lowered-back j zs)

-- the first places filled too
next-front : (a : Place) (j : ℕ) (ps : List Place) → j < length ps → set (replicate j a ++ drop j ps) j a ≡ replicate (suc j) a ++ drop (suc j) ps
next-front a j [] h = absurd (omega arith)
next-front a zero (p ∷ ps) h = refl
next-front a (suc j) (p ∷ ps) h = ap (λ z. a ∷ z) (next-front a j ps (omega arith))

filled_at : (zs : List Place) (i : ℕ) → kept_count zs ≡ 0 → i < length zs → (x : Form) × (get_or zs i kept ≡ filled x)
filled_at [] i e h = absurd (omega arith)
filled_at (kept ∷ zs) i e h = absurd (omega arith)
filled_at (filled x ∷ zs) zero e h = (x, refl)
filled_at (filled x ∷ zs) (suc i) e h = filled_at zs i e (omega arith)

module _ {row lm : List ℕ} {n : ℕ} {t : Table} {ps : List Place} (is : TableIs row lm n t ps) (most : n ≤ 32) where
  -- where what is behind the first j places is filled, the last one is
  pub last-filled : (j : ℕ) → j < n → kept_count (drop j ps) ≡ 0 → (x : Form) × (get_or ps (n - 1) kept ≡ filled x)
  last-filled j h e =
      let c = is.count in
      let l = length-drop j ps in
      let k : j + (n - 1 - j) ≡ n - 1 = omega arith in
      let (x, q) = filled_at (drop j ps) (n - 1 - j) e (omega arith) in
      (x, ap (λ i. get_or ps i kept) (sym k) ∙ (sym (get_or-drop j ps (n - 1 - j) kept) ∙ q))

  module _ (x : Form) (last : get_or ps (n - 1) kept ≡ filled x) where
    last-place : 0 < n → PlacedAt row lm (get_or t.starts (t.n - 1) 0) (get_or t.ends (t.n - 1) 0) x
    last-place h = rw is.number (rw last at (is.at (n - 1) (omega arith))).1

    last-inside : 0 < n → (get_or t.starts (t.n - 1) 0 ≤ get_or t.ends (t.n - 1) 0) × (get_or t.ends (t.n - 1) 0 ≤ length row)
    last-inside h = rw is.number (is.inside (n - 1) (omega arith))

    pub front-table : (j : ℕ) → j ≤ n → TableIs row lm n (front_filled t j) (replicate j (filled x) ++ drop j ps)
    unfolding front_filled
    front-table zero h = is
    front-table (suc j) h =
        let c = is.count in
        let (a, b) = last-inside (omega arith) in
        rw (next-front (filled x) j ps (omega arith)) at
        (table_filled (front-table j (omega arith)) most j (omega arith) (get_or t.starts (t.n - 1) 0) (get_or t.ends (t.n - 1) 0) x (last-place (omega arith)) a b)

-- the words of annotations whose places are filled
module _ (row lm : List ℕ) (n : ℕ) (t : Table) (ps : List Place) (is : TableIs row lm n t ps) (most : n ≤ 32) where
  plain_word : (w : ℕ) → planned (down_plan t 0) row lm (Plain w) ≡ w ∷ []
  unfolding piece_of piece_words words_of
  plain_word w = refl

  note-filled : {f : Form} → Ok 63 expr f → rewritten (planned (down_plan t 0) row lm) (items_of n f) ≡ encode (subst (fill_for ps) f)
  note-filled {f} ok = rw zero-add at (filling row lm n t ps is most 0 f (ok-flat 0 (omega arith) ok))

  notes-filled : (es : List Decl) → GoodDecls es → rewritten (planned (down_plan t 0) row lm) (items_decls n (unlisted es)) ≡ encode_decls (unlisted (map (on_note (subst (fill_for ps))) es))
  unfolding items_of rewritten encode
  notes-filled [] g = refl
  notes-filled ((m, absent) ∷ es) g = rw (plain_word m, plain_word 0, notes-filled es g.2)
  notes-filled ((m, some f) ∷ es) g =
      rw (plain_word m, plain_word 1, rewritten-append (planned (down_plan t 0) row lm) (items_of n f) (items_decls n (unlisted es)), note-filled g.1, notes-filled es g.2)

  pub notes-in : (es : List Decl) → GoodDecls es → (body marks r m : List ℕ) (end : ℕ) → drop 2 body ≡ encode_decls (unlisted es) ++ r → drop 2 marks ≡ marks_decls n (unlisted es) ++ m → 2 ≤ length body → end ≡ 2 + length (encode_decls (unlisted es))
      → rewritten (planned (down_plan t 0) row lm) (items (drop 2 (take end body)) (drop 2 marks)) ≡ encode_decls (unlisted (map (on_note (subst (fill_for ps))) es))
  unfolding items
  notes-in es g (a ∷ b ∷ body) marks r m end e f h k =
      let i : drop 2 (take end (a ∷ b ∷ body)) ≡ encode_decls (unlisted es) =
      let o : 2 + length (encode_decls (unlisted es)) ≡ suc (suc (length (encode_decls (unlisted es)))) = omega arith in
      rw (k, o, e) (take_at (encode_decls (unlisted es)) r (length (encode_decls (unlisted es))) refl) in
      let c : items (encode_decls (unlisted es)) (marks_decls n (unlisted es) ++ m) ≡ items_decls n (unlisted es) = rw (append-nil, append-nil) at (items-encode_decls n (unlisted es) [] m) in
      rw (i, f, c) (notes-filled es g)
  notes-in es g (a ∷ []) marks r m end e f h k = absurd (omega arith)
  notes-in es g [] marks r m end e f h k = absurd (omega arith)

-- their number, and that there are some, does not change
pub any_same : (h : Form → Form) (es : List Decl) → any_noted (map (on_note h) es) ≡ any_noted es
any_same h [] = refl
any_same h ((n, absent) ∷ es) = any_same h es
any_same h ((n, some f) ∷ es) = refl

pub plain-same : (h : Form → Form) (es : List Decl) → any_noted es ≡ false → map (on_note h) es ≡ es
plain-same h [] e = refl
plain-same h ((n, absent) ∷ es) e = ap (λ z. (n, absent) ∷ z) (plain-same h es e)
plain-same h ((n, some f) ∷ es) e = absurd (clash cc)
