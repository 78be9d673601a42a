-- The head of a quantified predicate that a row begins with, with or without annotations: its operator and declarations, and that the row is a form
-- where the words behind it are. Assumes nothing.
use mathlib.Core.Path.{◌≡◌, refl, ap, sym, ◌∙◌}
use mathlib.Core.Bool.{Bool, true, false, ◌||◌}
use mathlib.Core.Option.{none as absent, some}
use mathlib.Core.List.{List, [], ◌∷◌, ◌++◌, append-nil, map}
use Prim.Native.Nat.{ℕ, suc, ◌+◌, ◌-◌, ◌≤◌, ◌<◌}
use native.Mathlib.Omega.{arith}
use borrow.Author.Tests.{leb-false, eq-eqb, ne_eqb, eqb-true, eqb-false}
use lib.Dec.{leb, ltb, eqb}
use lib.ListN.{length, get_or, take, drop, length-append, length-take, length-drop, length-map}
use lib.Seq.{take_at}
use Rattle.tree.specs.Form.{Form, noted, Decls, any_typed, none as no_more, more, pick, encode_decls}
use Rattle.tree.specs.Tag.{pred, ask, flags, own, sorts}
use Rattle.form.specs.Decode.{Head, head, flagged, bad, read, Got, got, no-form, Gots, gots, no-forms, GotDecls, declared, no-decls, decls, close, close_noted, with_decls, decode, decode_all, Whole, one, not-one, whole as whole_of}
use Rattle.form.specs.Internal.Heads.{head_at}
use Rattle.form.specs.declared.head.Head as code
use Rattle.form.specs.declared.head.Head.TheVariants.{Kids, Noted}
use Rattle.form.proofs.DecodeLaws.{clash, ok-node, ok-none, ok-more, read-exact, read_at, flags-exact, flags-at, decode-encode, decls-encode}
use Rattle.form.proofs.HeadLaws.{here, few-decls}
use Rattle.reader.specs.Internal.Reads.{decls_within}
use Rattle.reader.proofs.ReaderLaws.{node-here}
use Rattle.reader.proofs.DeclReads.{within}
use Rattle.rules.specs.Fill.{Decl, unnoted, name_of, listed, around}
use Rattle.rules.specs.Point.{rest_of}
use Rattle.rules.proofs.JoinLaws.{names-plain}
use Rattle.shift.proofs.AroundLaws.{none-noted, unlisted-listed, noted-listed, listed-length, plain-around, noted-around, plain_tag, noted_tag, Heading, flags-heading, own-noted, flags-only}
use Rattle.replace.specs.Internal.Pieces.{are_names}
use Rattle.replace.proofs.QuantLaws.{tag-node, tag-heading, tag-flagged}
use Rattle.replace.proofs.OkLaws.{node-names}
use Rattle.decls.specs.Internal.Noted.{count_in, end_decls}
use Rattle.decls.proofs.DeclLaws.{GoodDecls, good-decls}
use Rattle.decls.proofs.EndLaws.{Declared, declared-at}
use Rattle.one_point.specs.Internal.Reduce.{is_quantifier, headed, quantifier_in, operator_in, decls_in, AreNotes, Headed}
use Rattle.one_point.proofs.ScanLimits.{rest_ok}
use Rattle.std.specs.Prelude.{Some, None, Option}

-- declarations put round what was read of a body
abbrev pub around_whole : ℕ → List Decl → Whole → Whole
around_whole t ds (one f) = one (around t ds f)
around_whole t ds not-one = not-one

-- a head that ends at p
pub record HeadRead (row : List ℕ) (p : ℕ) : Type 0 where
  pub op : ℕ
  pub decls : List Decl
  pub which : is_quantifier op ≡ true
  pub fits : p ≤ length row
  pub operator-is : operator_in (take p row) ≡ op
  pub decls-are : decls_in (take p row) ≡ decls
  pub heading : length row ≤ 8192 → Headed (take p row)
  pub whole : whole_of (decode 64 pred row) ≡ around_whole op decls (whole_of (decode 63 pred (drop p row)))

-- without annotations
record PlainRead (row : List ℕ) (t p : ℕ) : Type 0 where
  pub low : 0 < length row
  pub tag : get_or row 0 0 ≡ t
  pub which : is_quantifier t ≡ true
  pub names : List ℕ
  pub is : read (own pred t) (drop 1 row) ≡ head (length names ∷ []) names 1 0 (drop p row)
  pub start : p ≡ 2 + length names
  pub are : take p row ≡ t ∷ length names ∷ names
  pub fits : p ≤ length row
  pub few : length names ≤ 32
  pub good : are_names names ≡ true

module _ (row : List ℕ) where
  module _ (low : 0 < length row) (t : ℕ) (tag : get_or row 0 0 ≡ t) (which : is_quantifier t ≡ true) (ds : List ℕ) where
    good-names : ((x : List ℕ) → read (own pred t) ((length ds ∷ []) ++ (ds ++ x)) ≡ head (length ds ∷ []) ds 1 0 x) → are_names ds ≡ true
    good-names h = node-names {d = 2} t ds (more (rest_of true absent) no_more) which (ok-node {p = 1} {e = 0} (tag-node t which) h (ok-more (rest_ok {d = 0} true absent tt) ok-none))

    head-words : (ws : List ℕ) (p : ℕ) (r : List ℕ) → 0 < length ws → get_or ws 0 0 ≡ t → p ≡ 2 + length ds → drop 1 ws ≡ length ds ∷ (ds ++ r) → take p ws ≡ t ∷ length ds ∷ ds
    head-words [] p r l g e w = absurd (omega arith)
    head-words (v ∷ vs) p r l g e w =
        let k : p ≡ suc (suc (length ds)) = omega arith in
        rw (k, g, w) (ap (λ z. t ∷ length ds ∷ z) (take_at ds r (length ds) refl))

    made-head : (p : ℕ) → p ≡ 2 + length ds → length ds ≤ 32 → read (own pred t) (drop 1 row) ≡ head (length ds ∷ []) ds 1 0 (drop p row) → PlainRead row t p
    made-head p e few q =
        let (w, x) = read-exact (own pred t) (drop 1 row) (length ds ∷ []) ds 1 0 (drop p row) q in
        let l = ap length w in
        let l' = length-append ds (drop p row) in
        let l'' = length-drop 1 row in
        record { low = low; tag = tag; which = which; names = ds; is = q; start = e; are = head-words row p (drop p row) low tag e w; fits = omega arith; few = few; good = good-names x }

  plain_by : (o ds : List ℕ) (x y : ℕ) (r : List ℕ) → 0 < length row → plain_tag (get_or row 0 0) ≡ true → read (own pred (get_or row 0 0)) (drop 1 row) ≡ head o ds x y r
      → (p : ℕ) → p ≡ 1 + (length o + length ds) → PlainRead row (get_or row 0 0) p
  plain_by o ds x y r low w q p b =
      let g = tag-heading (get_or row 0 0) (drop 1 row) o ds x y r w q in
      let l : length o ≡ 1 = ap length g.words in
      let k : r ≡ drop p row = read_at (own pred (get_or row 0 0)) row 1 o ds x y r q ∙ ap (λ (n : ℕ). drop n row) (sym b) in
      made-head low (get_or row 0 0) refl w ds p (omega arith) g.most (rw (g.words, g.preds, g.exprs, k) at q)

module _ (row : List ℕ) (t p : ℕ) (h : PlainRead row t p) where
  row-whole : whole_of (decode 64 pred row) ≡ around_whole t (map unnoted h.names) (whole_of (decode 63 pred (drop p row)))
  unfolding decode_all
  row-whole = ap whole_of (node-here 63 pred row 0 h.low) ∙ rw (h.tag, h.is) (go (decode 63 pred (drop p row)) refl)
    where
      go : (g : Got) → decode 63 pred (drop p row) ≡ g → whole_of (close t (length h.names ∷ []) h.names (decode_all (λ s l. decode 63 s l) (pred ∷ []) (drop p row))) ≡ around_whole t (map unnoted h.names) (whole_of (decode 63 pred (drop p row)))
      go (got f []) e = rw (e, tag-node t h.which) (ap one (plain-around t h.names f))
      go (got f (w ∷ x)) e = rw e
      go no-form e = rw e

  -- the words before the body
  low-tag : ltb 860 t ≡ false
  low-tag = go (eqb t 851) (eqb t 852) refl refl h.which
    where
      go : (a b : Bool) → eqb t 851 ≡ a → eqb t 852 ≡ b → (a || b) ≡ true → ltb 860 t ≡ false
      go true b x y z = rw (eqb-true t 851 x)
      go false true x y z = rw (eqb-true t 852 y)
      go false false x y z = absurd (clash cc)

  operator-is : operator_in (take p row) ≡ t
  unfolding operator_in
  operator-is = rw (h.are, low-tag)

  decls-are : decls_in (take p row) ≡ map unnoted h.names
  unfolding decls_in
  decls-are = rw (h.are, low-tag)

  no-notes : (ns : List ℕ) → AreNotes (map unnoted ns)
  no-notes [] = tt
  no-notes (n ∷ ns) = (tt, no-notes ns)

  some-names : 1 ≤ length h.names
  some-names = (tag-heading t (drop 1 row) (length h.names ∷ []) h.names 1 0 (drop p row) h.which h.is).least

  plain-headed : length row ≤ 8192 → Headed (take p row)
  plain-headed Short-row =
      let l = length-map h.names unnoted in
      let n = some-names in
      let m = h.few in
      record {
        which = rw operator-is h.which;
        least = rw decls-are (omega arith);
        few = rw decls-are (omega arith);
        names = rw (decls-are, names-plain h.names) h.good;
        notes = rw decls-are (no-notes h.names);
        is = rw (operator-is, decls-are, none-noted h.names, l, names-plain h.names) (sym h.are);
        short = let k = length-take p row in omega arith;
      }

  plain-read : HeadRead row p
  plain-read =
      record { op = t; decls = map unnoted h.names; which = h.which; fits = h.fits; operator-is = operator-is; decls-are = decls-are; heading = plain-headed; whole = row-whole }

-- with annotations
names_of : (ds : List Decl) → GoodDecls ds → are_names (map name_of ds) ≡ true
names_of [] g = refl
names_of (d ∷ ds) g = rw (g.0, names_of ds g.2)

notes-of : (ds : List Decl) → GoodDecls ds → AreNotes ds
notes-of [] g = tt
notes-of ((n, absent) ∷ ds) g = (tt, notes-of ds g.2)
notes-of ((n, some f) ∷ ds) g = (rw append-nil at (decode-encode g.1 []), notes-of ds g.2)

front_of : (ws : List ℕ) (t n : ℕ) (a r : List ℕ) (p : ℕ) → ws ≡ t ∷ n ∷ (a ++ r) → p ≡ 2 + length a → (take p ws ≡ t ∷ n ∷ a) × (p ≤ length ws)
front_of ws t n a r p e k =
    let h : p ≡ suc (suc (length a)) = omega arith in
    let l = ap length e in
    let m = length-append a r in
    (rw (e, h) (ap (λ z. t ∷ n ∷ z) (take_at a r (length a) refl)), omega arith)

module _ (row : List ℕ) (low : 0 < length row) (w : noted_tag (get_or row 0 0) ≡ true) (o : List ℕ) (n x y : ℕ) (r : List ℕ)
    (q : read (own pred (get_or row 0 0)) (drop 1 row) ≡ flagged o n x y r) where
  abbrev t : ℕ
  t = get_or row 0 0

  tag_is : (own pred t ≡ ask 1 32 (λ n. flags n 1 0)) × (t ≡ t - 10 + 10) × (is_quantifier (t - 10) ≡ true)
  tag_is = own-noted t (eqb t 861) (eqb t 862) refl refl w

  count-read : Heading o n x y
  count-read = flags-heading (drop 1 row) o n x y r (rw tag_is.0 at q)

  behind : r ≡ drop 2 row
  behind = flags-at (own pred t) row 1 o n x y r q ∙ ap (λ z. drop (1 + length z) row) count-read.words

  first_two : row ≡ t ∷ n ∷ drop 2 row
  first_two = here row 0 low ∙ ap (λ z. t ∷ z) ((flags-exact (own pred t) (drop 1 row) o n x y r q).0 ∙ rw count-read.words (ap (λ z. n ∷ z) behind))

  module _ (p : ℕ) (s : Declared row 2 n p) where
    abbrev ds : List Decl
    ds = listed s.decls

    row_is : row ≡ t ∷ n ∷ (encode_decls s.decls ++ drop p row)
    row_is = first_two ∙ ap (λ z. t ∷ n ∷ z) s.words

    front : (take p row ≡ t ∷ n ∷ encode_decls s.decls) × (p ≤ length row)
    front = front_of row t n (encode_decls s.decls) (drop p row) p row_is s.ends

    high : ltb 860 t ≡ true
    high = go (eqb t 861) (eqb t 862) refl refl w
      where
        go : (a b : Bool) → eqb t 861 ≡ a → eqb t 862 ≡ b → (a || b) ≡ true → ltb 860 t ≡ true
        go true b e f z = rw (eqb-true t 861 e)
        go false true e f z = rw (eqb-true t 862 f)
        go false false e f z = absurd (clash cc)

    count : length ds ≡ n
    count = listed-length s.decls ∙ s.count

    noted-operator : operator_in (take p row) ≡ t - 10
    unfolding operator_in
    noted-operator = rw (front.0, high)

    noted-decls : decls_in (take p row) ≡ ds
    unfolding decls_in
    noted-decls = let d = rw (append-nil, s.count) at (decls-encode s.ok []) in rw (front.0, high, d)

    good : GoodDecls ds
    good = good-decls ds (rw (unlisted-listed s.decls) s.ok)

    noted-headed : length row ≤ 8192 → Headed (take p row)
    noted-headed short =
        let c = count in
        let g = count-read in
        let lo = g.least in
        let hi = g.most in
        let up : t - 10 + 10 ≡ t = sym tag_is.1 in
        record {
          which = rw noted-operator tag_is.2;
          least = rw noted-decls (omega arith);
          few = rw noted-decls (omega arith);
          names = rw noted-decls (names_of ds good);
          notes = rw noted-decls (notes-of ds good);
          is = rw (noted-operator, noted-decls, noted-listed s.decls, s.noted, up, c, unlisted-listed s.decls) (sym front.0);
          short = let k = length-take p row in omega arith;
        }

    noted-whole : whole_of (decode 64 pred row) ≡ around_whole (t - 10) ds (whole_of (decode 63 pred (drop p row)))
    unfolding decode_all
    noted-whole =
        let d : decls (λ s l. decode 63 s l) n r ≡ declared s.decls (drop p row)
        = ap (decls (λ s l. decode 63 s l) n) (behind ∙ s.words) ∙ rw s.count at (decls-encode s.ok (drop p row)) in
        ap whole_of (node-here 63 pred row 0 low) ∙ rw (q, d, count-read.preds, count-read.exprs, count-read.words) (go (decode 63 pred (drop p row)) refl)
      where
        node-is : (f : Form) → noted t (n ∷ []) s.decls (more f no_more) ≡ around (t - 10) ds f
        node-is f = ap (λ u. noted u (n ∷ []) s.decls (more f no_more)) tag_is.1 ∙ (ap (λ k. noted (t - 10 + 10) (k ∷ []) s.decls (more f no_more)) (sym s.count) ∙ noted-around (t - 10) s.decls f s.noted)

        go : (g : Got) → decode 63 pred (drop p row) ≡ g → whole_of (close_noted t (n ∷ []) s.decls (decode_all (λ s l. decode 63 s l) (pred ∷ []) (drop p row))) ≡ around_whole (t - 10) ds (whole_of (decode 63 pred (drop p row)))
        go (got f []) e = rw (e, s.noted) (ap one (node-is f))
        go (got f (v ∷ z)) e = rw (e, s.noted)
        go no-form e = rw e

    noted_read : HeadRead row p
    noted_read =
        record { op = t - 10; decls = ds; which = tag_is.2; fits = front.1; operator-is = noted-operator; decls-are = noted-decls; heading = noted-headed; whole = noted-whole }

-- by the number of declarations
module _ (row : List ℕ) where
  pub data Tagged : Type 0 where
    plain : plain_tag (get_or row 0 0) ≡ true → Tagged
    annotated : noted_tag (get_or row 0 0) ≡ true → Tagged

  counted-tag : (count_in row ≡ 0 → ⊥) → (0 < length row) × Tagged
  unfolding count_in
  counted-tag n = go (leb (length row) 1) (eqb (get_or row 0 0) 851) (eqb (get_or row 0 0) 852) (eqb (get_or row 0 0) 861) (eqb (get_or row 0 0) 862) refl refl refl refl refl n
    where
      m : ℕ
      m = get_or row 1 0

      go : (z a b c d : Bool) → leb (length row) 1 ≡ z → eqb (get_or row 0 0) 851 ≡ a → eqb (get_or row 0 0) 852 ≡ b → eqb (get_or row 0 0) 861 ≡ c → eqb (get_or row 0 0) 862 ≡ d
          → (pick z 0 (pick a m (pick b m (pick c m (pick d m 0)))) ≡ 0 → ⊥) → (0 < length row) × Tagged
      go true a b c d e1 e2 e3 e4 e5 n = absurd (n refl)
      go false true b c d e1 e2 e3 e4 e5 n = (let l = leb-false (length row) 1 e1 in omega arith, plain (rw e2 refl))
      go false false true c d e1 e2 e3 e4 e5 n = (let l = leb-false (length row) 1 e1 in omega arith, plain (rw (e2, e3) refl))
      go false false false true d e1 e2 e3 e4 e5 n = (let l = leb-false (length row) 1 e1 in omega arith, annotated (rw e4 refl))
      go false false false false true e1 e2 e3 e4 e5 n = (let l = leb-false (length row) 1 e1 in omega arith, annotated (rw (e4, e5) refl))
      go false false false false false e1 e2 e3 e4 e5 n = absurd (n refl)

  head-by : (z : Head) (p : ℕ) → 0 < length row → Tagged → read (own pred (get_or row 0 0)) (drop 1 row) ≡ z → headed row (head_at 1 z) ≡ Some p → HeadRead row p
  unfolding head_at
  head-by bad p low k q e = absurd (clash cc)
  head-by (head o ds x y r) p low (plain w) q e =
      let b : p ≡ 1 + (length o + length ds) = cc in
      plain-read row (get_or row 0 0) p (plain_by row o ds x y r low w q p b)
  head-by (head o ds x y r) p low (annotated w) q e = absurd (flags-only (drop 1 row) o ds x y r (rw (own-noted (get_or row 0 0) (eqb (get_or row 0 0) 861) (eqb (get_or row 0 0) 862) refl refl w).0 at q))
  head-by (flagged o n x y r) p low (plain w) q e = absurd (tag-flagged (get_or row 0 0) (drop 1 row) o n x y r w q)
  head-by (flagged o n x y r) p low (annotated w) q e =
      let g = count-read row low w o n x y r q in
      let two : 1 + length o ≡ 2 = ap (λ z. 1 + length z) g.words in
      go (end_decls 2 (decls_within 63 0 n (drop 2 row))) refl (rw two at e)
    where
      go : (st : Option ℕ) → end_decls 2 (decls_within 63 0 n (drop 2 row)) ≡ st → end_decls 2 (decls_within 63 0 n (drop 2 row)) ≡ Some p → HeadRead row p
      go (Some e) k z =
          let i = rw k at z in
          let j : e ≡ p = cc in
          let m = few-decls pred (get_or row 0 0) (drop 1 row) o n x y r q in
          noted_read row low w o n x y r q p (declared-at row 2 n p (Some e) (omega arith) (sym k) (ap Some j))
      go None k z = let i = rw k at z in absurd (clash cc)

  pub head_read : (q : Option ℕ) → q ≡ quantifier_in row → (p : ℕ) → q ≡ Some p → HeadRead row p
  unfolding quantifier_in
  head_read q e p is = go (eqb (count_in row) 0) refl (sym e ∙ is)
    where
      go : (b : Bool) → eqb (count_in row) 0 ≡ b → pick b None (headed row (head_at 1 (read (own pred (get_or row 0 0)) (drop 1 row)))) ≡ Some p → HeadRead row p
      go true k z = absurd (clash cc)
      go false k z = let (low, tagged) = counted-tag (eqb-false (count_in row) 0 k) in head-by (read (own pred (get_or row 0 0)) (drop 1 row)) p low tagged refl z

  -- a row that begins with a quantifier's tag and has no such head is no predicate
  no-close : (t : ℕ) (o : List ℕ) (ds : Decls) (g : Gots) → any_typed ds ≡ false → close_noted t o ds g ≡ no-form
  no-close t o ds (gots ks r) e = rw e
  no-close t o ds no-forms e = refl

  bad-head : 0 < length row → (z : Head) → read (own pred (get_or row 0 0)) (drop 1 row) ≡ z → headed row (head_at 1 z) ≡ None → decode 64 pred row ≡ no-form
  unfolding head_at end_decls
  bad-head low bad q e = node-here 63 pred row 0 low ∙ rw q
  bad-head low (head o ds x y r) q e = absurd (clash cc)
  bad-head low (flagged o n x y r) q e =
      let m = few-decls pred (get_or row 0 0) (drop 1 row) o n x y r q in
      let f = flags-at (own pred (get_or row 0 0)) row 1 o n x y r q in
      let d : decls_within 63 0 n (drop (1 + length o) row) ≡ decls (λ s l. decode 63 s l) n r
      = within 0 63 0 n (drop (1 + length o) row) [] [] (omega arith) (omega arith) (omega arith) ∙ ap (decls (λ s l. decode 63 s l) n) (sym f) in
      node-here 63 pred row 0 low ∙ rw q (go (decls (λ s l. decode 63 s l) n r) (rw d at e))
    where
      go : (g : GotDecls) → end_decls (1 + length o) g ≡ None → with_decls (λ s l. decode 63 s l) (get_or row 0 0) o x y g ≡ no-form
      go (declared ds z) e = by (any_typed ds) refl e
        where
          by : (b : Bool) → any_typed ds ≡ b → pick b (Some (1 + length o + length (encode_decls ds))) None ≡ None → with_decls (λ s l. decode 63 s l) (get_or row 0 0) o x y (declared ds z) ≡ no-form
          by true h e = absurd (clash cc)
          by false h e = no-close (get_or row 0 0) o ds (decode_all (λ s l. decode 63 s l) (sorts x y) z) h
      go no-decls e = refl

  pub no-head : (f : Form) → decode 64 pred row ≡ got f [] → quantifier_in row ≡ None → count_in row ≡ 0
  unfolding quantifier_in
  no-head f r e = go (eqb (count_in row) 0) refl e
    where
      go : (b : Bool) → eqb (count_in row) 0 ≡ b → pick b None (headed row (head_at 1 (read (own pred (get_or row 0 0)) (drop 1 row)))) ≡ None → count_in row ≡ 0
      go true k z = eqb-true (count_in row) 0 k
      go false k z =
          let (low, tagged) = counted-tag (eqb-false (count_in row) 0 k) in
          let m = bad-head low (read (own pred (get_or row 0 0)) (drop 1 row)) refl z in
          absurd (clash cc)

-- as the code finds it
module _ (row : List ℕ) (n : ℕ) (is : n ≡ count_in row) where
  pub head-none : n ≡ 0 → None ≡ quantifier_in row
  unfolding quantifier_in
  head-none z = rw (eq-eqb (count_in row) 0 (sym is ∙ z))

  pub head-word : (n ≡ 0 → ⊥) → 0 < length row
  head-word z = (counted-tag row (λ e. z (is ∙ e))).0

  module _ (z : n ≡ 0 → ⊥) (h : Option code.Head) (e : h ≡ head_at 1 (read (own pred (get_or row 0 0)) (drop 1 row))) where
    head-is : headed row h ≡ quantifier_in row
    unfolding quantifier_in
    head-is = rw (ne_eqb (count_in row) 0 (λ y. z (is ∙ y)), ← e)

    pub head-bad : h ≡ None → None ≡ quantifier_in row
    head-bad q = ap (headed row) (sym q) ∙ head-is

    pub head-noted : (p x y w : ℕ) → h ≡ Some (Noted p x y w) → (r : Option ℕ) → r ≡ end_decls p (decls_within 63 0 w (drop p row)) → r ≡ quantifier_in row
    head-noted p x y w q r k = k ∙ (ap (headed row) (sym q) ∙ head-is)

    pub head-of : (p x y w : ℕ) → h ≡ Some (Kids p x y w) → Some p ≡ quantifier_in row
    head-of p x y w q = ap (headed row) (sym q) ∙ head-is
