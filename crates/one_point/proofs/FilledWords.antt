-- One declaration replaced by an expression, on words: the body, the annotations in front of it, and the row under a head. Assumes nothing.
use mathlib.Core.Path.{◌≡◌, refl, ap, sym, ◌∙◌}
use mathlib.Core.Bool.{Bool, true, false}
use mathlib.Core.List.{List, [], ◌∷◌, ◌++◌, append-nil, map}
use mathlib.Core.Option.{none as absent, some}
use Prim.Native.Nat.{ℕ, zero, suc, ◌+◌, ◌-◌, ◌*◌, ◌≤◌, ◌<◌}
use native.Mathlib.Nat.{zero-add}
use native.Mathlib.Omega.{arith}
use lib.ListN.{length, get_or, take, drop, set, replicate, length-replicate, get_or-replicate}
use Rattle.tree.specs.Form.{free, Form, leaf, encode, encode_decls}
use Rattle.tree.specs.Tag.{expr, pred}
use Rattle.form.specs.Decode.{got, decode, row_form}
use Rattle.form.specs.Lists.{Place, kept, filled}
use Rattle.form.specs.Answer.{is_one, finish}
use Rattle.form.proofs.DecodeLaws.{clash, Ok, ok-free}
use Rattle.reader.specs.Internal.Reads.{mark}
use Rattle.rules.specs.Walk.{walk, put, subst, collect, each}
use Rattle.rules.specs.Shift.{reaches, lower}
use Rattle.rules.specs.Fill.{Decl, unlisted, around, fill_for}
use Rattle.rules.specs.Partial.{on_note}
use Rattle.rules.specs.Replacement.{above}
use Rattle.rules.proofs.LimitLaws.{ok-small}
use Rattle.rules.proofs.ReplicateLaws.{replicate-at, map-replicate}
use Rattle.shift.specs.Internal.Items.{items, words_of, rewritten}
use Rattle.shift.specs.declared.items.Item.TheVariants.{Plain}
use Rattle.shift.proofs.RowLaws.{items_of, items_decls, marks_of, marks_decls, items-encode, items-encode_decls, mark-front, rewritten-append}
use Rattle.shift.proofs.AroundLaws.{head_of, body-items}
use Rattle.replace.specs.Internal.Pieces.{part as part_of, planned, piece_of, piece_words, down_plan, placed_row, replaced}
use Rattle.replace.proofs.BuildLaws.{emit-sure}
use Rattle.replace.proofs.EntryLaws.{PlaceAt}
use Rattle.replace.proofs.FillTree.{word_for, low_place, Above, fill-tree-lower}
use Rattle.replace.proofs.ReadyLaws.{ready-is}
use Rattle.decls.proofs.DeclLaws.{GoodDecls}
use Rattle.one_point.specs.Internal.Reduce.{one_table, Marking}
use Rattle.one_point.specs.Internal.Noted.{under_row, full_table, notes_in, free_words}
use Rattle.one_point.proofs.PartialLaws.{first-filled, part-items}
use Rattle.one_point.proofs.PlaceLaws.{whole-expr, row-all, one-ready}
use Rattle.one_point.proofs.PointTree.{point_places}

-- the part, with its marks
module _ (e : Form) (part pm : List ℕ) (is-part : decode 63 expr part ≡ got e []) (k : Marking part pm) where
  pub part-there : items (part_of 0 (length part) part) (part_of 0 (length part) pm) ≡ items_of 0 e
  part-there =
      let v = whole-expr part e is-part in
      part-items e part pm 0 (length part) (length pm) (ap length v.0 ∙ sym (zero-add (length (encode e)))) (row-all part (encode e) v.0) k.enough (k.are e is-part)

  -- the first of the outermost declarations of a body is replaced by it
  module _ (i : ℕ) (few : suc i ≤ 32) (over : above i e ≡ true) where
    abbrev ps : List Place
    ps = filled e ∷ replicate i kept

    abbrev plan : List ℕ → List ℕ → List ℕ
    plan row marks = rewritten (planned (down_plan (one_table (suc i) (length part)) (suc i)) part pm) (items row marks)

    placed : (h : ℕ) → h < length ps → PlaceAt (Unit {0}) part pm (get_or (replicate 32 0) h 0) (get_or (replicate 32 (length part)) h 0) (get_or ps h kept)
    placed zero l = (part-there, ok-small (whole-expr part e is-part).1 0)
    placed (suc h) l = rw (replicate-at i h kept) tt

    higher : (h : ℕ) → h < length ps → Above (suc i) (get_or ps h kept)
    higher zero l = over
    higher (suc h) l = rw (replicate-at i h kept) tt

    pub point-filled : (h : ℕ) {d : ℕ} {f : Form} → h + 32 * d ≤ 2048 → Ok d pred f
        → rewritten (planned (down_plan (one_table (suc i) (length part)) (suc i)) part pm) (items_of (h + suc i) f) ≡ encode (walk (put (fill_for (point_places i e))) h f)
    point-filled h deep ok =
        let w : take (suc i) (set (replicate 32 0) 0 1) ≡ map word_for ps = first-filled 32 i (omega arith) ∙ ap (λ z. 1 ∷ z) (sym (map-replicate word_for i kept)) in
        rw (map-replicate (low_place (lower (suc i))) i kept) at (fill-tree-lower (one_table (suc i) (length part)) part pm ps w (ap suc (sym (length-replicate i kept))) placed (suc i) higher few h deep ok)

    -- the row under a head
    pub under-sure : (sure : Bool) (hd body marks : List ℕ) (start room : ℕ) (f : Form) → hd ++ plan (drop start body) (drop start marks) ≡ encode f
        → (sure ≡ true → length (encode f) ≤ 8192 → is_one (row_form pred (encode f)) ≡ true) → under_row sure hd (suc i) part pm body marks start room ≡ finish pred room f
    unfolding placed_row replaced
    under-sure sure hd body marks start room f w inside =
        rw (ready-is (one_table (suc i) (length part)) part pm (suc i) (one-ready (suc i) few part pm k.enough), w) (emit-sure sure pred room f inside)

    pub under-is : (hd body marks : List ℕ) (start room : ℕ) (f : Form) → hd ++ plan (drop start body) (drop start marks) ≡ encode f → under_row false hd (suc i) part pm body marks start room ≡ finish pred room f
    under-is hd body marks start room f w = under-sure false hd body marks start room f w (λ q. absurd (clash cc))

    -- the body as a whole, and from where the body of its own quantifier starts
    module _ (g : Form) (ok : Ok 63 pred g) (body marks : List ℕ) (words : body ≡ encode g) (marked : marks ≡ mark g 0 (suc i) (replicate (length body) 0)) where
      marks-nil : marks ≡ marks_of (suc i) g ++ []
      marks-nil =
          let l : length body ≡ length (encode g) = ap length words in
          let z : length body - length (encode g) ≡ 0 = omega arith in
          marked ∙ (rw z at (mark-front g (suc i) (length body) (omega arith)))

      marks-are : marks ≡ marks_of (suc i) g
      marks-are = marks-nil ∙ append-nil (marks_of (suc i) g)

      pub body-filled : plan (drop 0 body) (drop 0 marks) ≡ encode (subst (fill_for (point_places i e)) g)
      unfolding items
      body-filled =
          let a : items body marks ≡ items_of (suc i) g = rw (words, marks-are) (rw (append-nil, append-nil, append-nil) at (items-encode (suc i) g [] [])) in
          rw a (rw zero-add at (point-filled 0 {d = 63} {f = g} (omega arith) ok))

      pub inner-filled : (t : ℕ) (es : List Decl) (b : Form) → g ≡ around t es b → length es ≤ 32 → Ok 62 pred b → (s : ℕ) → s ≡ length (head_of t es)
          → plan (drop s body) (drop s marks) ≡ encode (walk (put (fill_for (point_places i e))) (length es) b)
      inner-filled t es b q most okb s h =
          let a : items (drop s body) (drop s marks) ≡ items_of (length es + suc i) b = rw (words, marks-nil, q) (body-items t (suc i) es b s [] h) in
          rw a (point-filled (length es) {d = 62} {f = b} (omega arith) okb)

-- annotations whose n declarations are all replaced by the expression in the list
module _ (x : Form) (list lm : List ℕ) (there : items (part_of 0 (length list) list) (part_of 0 (length list) lm) ≡ items_of 0 x) {d : ℕ} (ok-x : Ok d expr x) (n : ℕ) (few : n ≤ 32)
    (over : each (reaches n) 0 x ≡ true) where
  abbrev qs : List Place
  qs = replicate n (filled x)

  ones : (h m : ℕ) → h ≤ m → take h (replicate m 1) ≡ map word_for (replicate h (filled x))
  ones zero m l = refl
  ones (suc h) zero l = absurd (omega arith)
  ones (suc h) (suc m) l = ap (λ z. 1 ∷ z) (ones h m (omega arith))

  all_placed : (h : ℕ) → h < length qs → PlaceAt (Unit {0}) list lm (get_or (replicate 32 0) h 0) (get_or (replicate 32 (length list)) h 0) (get_or qs h kept)
  all_placed h l =
      let m = length-replicate n (filled x) in
      rw (get_or-replicate {A = ℕ} 32 h 0 0 (omega arith), get_or-replicate {A = ℕ} 32 h (length list) 0 (omega arith), get_or-replicate {A = Place} n h (filled x) kept (omega arith)) (there, ok-small ok-x 0)

  all-higher : (h : ℕ) → h < length qs → Above n (get_or qs h kept)
  all-higher h l = let m = length-replicate n (filled x) in rw (get_or-replicate {A = Place} n h (filled x) kept (omega arith)) over

  note-filled : {f : Form} → Ok 63 expr f → rewritten (planned (down_plan (full_table n (length list)) n) list lm) (items_of n f) ≡ encode (subst (fill_for (replicate n (filled (lower n x)))) f)
  note-filled ok =
      rw (zero-add, map-replicate (low_place (lower n)) n (filled x)) at
      (fill-tree-lower (full_table n (length list)) list lm qs (ones n 32 few) (sym (length-replicate n (filled x))) all_placed n all-higher few 0 {d = 63} (omega arith) ok)

  plain_word : (w : ℕ) → planned (down_plan (full_table n (length list)) n) list lm (Plain w) ≡ w ∷ []
  unfolding piece_of piece_words words_of
  plain_word w = refl

  notes-filled : (es : List Decl) → GoodDecls es
      → rewritten (planned (down_plan (full_table n (length list)) n) list lm) (items_decls n (unlisted es)) ≡ encode_decls (unlisted (map (on_note (subst (fill_for (replicate n (filled (lower n x)))))) es))
  unfolding items_of rewritten encode
  notes-filled [] g = refl
  notes-filled ((m, absent) ∷ es) g = rw (plain_word m, plain_word 0, notes-filled es g.2)
  notes-filled ((m, some f) ∷ es) g =
      rw (plain_word m, plain_word 1, rewritten-append (planned (down_plan (full_table n (length list)) n) list lm) (items_of n f) (items_decls n (unlisted es)), note-filled g.1, notes-filled es g.2)

  pub notes-in : (es : List Decl) → GoodDecls es → (notes raised : List ℕ) → notes ≡ encode_decls (unlisted es) → raised ≡ marks_decls n (unlisted es)
      → notes_in n list lm notes raised ≡ encode_decls (unlisted (map (on_note (subst (fill_for (replicate n (filled (lower n x)))))) es))
  unfolding items
  notes-in es g notes raised w m =
      let a : items notes raised ≡ items_decls n (unlisted es) = rw (w, m) (rw (append-nil, append-nil, append-nil) at (items-encode_decls n (unlisted es) [] [])) in
      rw a (notes-filled es g)

-- a name in place of the part
pub free-there : items (part_of 0 (length free_words) free_words) (part_of 0 (length free_words) free_words) ≡ items_of 0 (leaf (free 0))
unfolding part_of items items_of
free-there = refl

pub free-ok : Ok 1 expr (leaf (free 0))
free-ok = ok-free {d = 0} refl

pub free-above : (n : ℕ) → each (reaches n) 0 (leaf (free 0)) ≡ true
unfolding collect
free-above n = refl
