-- What is left of a scanned equality: its length, and that a not in it is neat. Assumes nothing.
use mathlib.Core.Path.{◌≡◌, refl, ◌∙◌}
use mathlib.Core.Bool.{Bool, true, false, ◌&&◌}
use mathlib.Core.Option.{Option}
use mathlib.Core.List.{List, [], ◌∷◌, ◌++◌, append-nil}
use Prim.Native.Nat.{ℕ, ◌+◌, ◌-◌, ◌*◌, ◌≤◌}
use native.Mathlib.Omega.{arith}
use lib.ListN.{length, take, drop, length-append}
use Rattle.std.specs.Option.{unwrap_or}
use Rattle.std.specs.Prelude.{Option as Maybe, Some, None, is_some, is_none}
use Rattle.tree.specs.Form.{Form, leaf, node, noted, Forms, none, more, pick, count, encode, encode_all}
use Rattle.rules.specs.Replacement.{Taken, taken, nothing, accept}
use Rattle.rules.specs.Split.{is_pair, parts, parts_all, equal}
use Rattle.rules.specs.Scan.{Scans, scans, joined, present, copied, offer_part, offer_parts, with, scan}
use Rattle.places.specs.Internal.Wrote.{Wrote}
use Rattle.one_point.specs.Internal.Writes.{left_words, is_gone, Neat, neat-other, Neats, no_more, and-more}
use Rattle.one_point.specs.Internal.Parts.{accept_words, TookIs, PartsTold}
use Rattle.one_point.specs.Internal.Scans.{NeatLeft, Left, Became, Sided}
use Rattle.places.specs.Internal.Positions.{both_pairs, parts_at}
use Rattle.places.specs.declared.sides.Replacement.{Replacement}
use Rattle.places.proofs.SidesLaws.{part-words}
use Rattle.one_point.proofs.PartsStepLaws.{not_taken, took-not, took-none}
use Rattle.one_point.proofs.ScanLaws.{sides-end, parts_are, one-part, part-took}
use Rattle.places.proofs.WroteLaws.{nothing_written, wrote-end, wrote-in, kept, wrote_self, based}
use Rattle.places.proofs.PartsLaws.{some_words}
use Rattle.places.proofs.StepLaws.{equal-length}
use Rattle.places.proofs.PartsOk.{kids-few}

-- words of forms
unfoldable pub words : Forms → ℕ
words fs = length (encode_all fs)

pub words_more : (f : Form) (fs : Forms) → words (more f fs) ≡ length (encode f) + words fs
unfolding words encode
words_more f fs = length-append (encode f) (encode_all fs)

pub words-none : words none ≡ 0
unfolding words encode
words-none = refl

present-append : (ps qs : List (Form × Form)) → words (present (copied (ps ++ qs))) ≡ words (present (copied ps)) + words (present (copied qs))
present-append [] qs = let e = words-none in omega arith
present-append (p ∷ ps) qs =
    let e = present-append ps qs in
    let a = words_more (equal p.0 p.1) (present (copied (ps ++ qs))) in
    let b = words_more (equal p.0 p.1) (present (copied ps)) in
    omega arith

-- the parts of an equality have at most twice the words of its sides
one-short : (l r : Form) → words (present (copied ((l, r) ∷ []))) ≤ 2 * (length (encode l) + length (encode r))
one-short l r =
    let e = equal-length l r in
    let s = some_words l in
    let t = some_words r in
    let a = words_more (equal l r) none in
    let n = words-none in
    omega arith

pick-short : (b : Bool) (ps : List (Form × Form)) (l r : Form) → words (present (copied ps)) ≤ 2 * (length (encode l) + length (encode r)) → words (present (copied (pick b ps ((l, r) ∷ [])))) ≤ 2 * (length (encode l) + length (encode r))
pick-short true ps l r h = h
pick-short false ps l r h = one-short l r

pub kids-words : (t : ℕ) (o ds : List ℕ) (ks : Forms) → words ks ≤ length (encode (node t o ds ks))
unfolding words
kids-words t o ds ks = kids-few t o ds ks

mutual
  unfolding parts

  parts-short : (l r : Form) → words (present (copied (parts l r))) ≤ 2 * (length (encode l) + length (encode r))
  parts-short (leaf x) r = one-short (leaf x) r
  parts-short (node t o ds ks) (leaf y) = one-short (node t o ds ks) (leaf y)
  parts-short (node t o ds ks) (noted u p es js) = one-short (node t o ds ks) (noted u p es js)
  parts-short (noted t o ds ks) r = one-short (noted t o ds ks) r
  parts-short (node t o ds ks) (node u p es js) =
      let h = parts-short_all ks js in
      let a = kids-words t o ds ks in
      let b = kids-words u p es js in
      pick-short (is_pair t ds ks && is_pair u es js) (parts_all ks js) (node t o ds ks) (node u p es js) (omega arith)

  parts-short_all : (fs gs : Forms) → words (present (copied (parts_all fs gs))) ≤ 2 * (words fs + words gs)
  parts-short_all none js = let e = words-none in omega arith
  parts-short_all (more f fs) none = let e = words-none in omega arith
  parts-short_all (more f fs) (more g gs) =
      let h = parts-short f g in
      let k = parts-short_all fs gs in
      let a = words_more f fs in
      let b = words_more g gs in
      let c = present-append (parts f g) (parts_all fs gs) in
      omega arith

-- what is left of them has no more words, and no not
equal-neat : (l r : Form) → Neat (equal l r)
equal-neat l r = neat-other not_eight
  where
    not_eight : ◌≡◌ {A = ℕ} 101 8 → ⊥
    not_eight e = omega arith

copied-neat : (ps : List (Form × Form)) → Neats (present (copied ps))
copied-neat [] = no_more
copied-neat (p ∷ ps) = and-more (equal-neat p.0 p.1) (copied-neat ps)

pub joined-neat : {t : ℕ} {fs : Forms} → (t ≡ 8 → ⊥) → Neats fs → NeatLeft (joined t fs)
joined-neat h no_more = tt
joined-neat h (and-more n no_more) = n
joined-neat h (and-more n (and-more m k)) = neat-other h

abbrev left_of : Scans → List (Option Form)
left_of (scans x gs) = gs

module _ (l r : Form) (ps : List (Form × Form)) where
  less_by : (t : Taken) (z : Scans) → words (present (left_of z)) ≤ words (present (copied ps)) → words (present (left_of (offer_part l r t ps z))) ≤ words (present (copied ((l, r) ∷ ps)))
  less_by (taken i e) z h = let a = words_more (equal l r) (present (copied ps)) in omega arith
  less_by nothing (scans x gs) h =
      let a = words_more (equal l r) (present (copied ps)) in
      let b = words_more (equal l r) (present gs) in
      omega arith

  neat-by : (t : Taken) (z : Scans) → Neats (present (left_of z)) → Neats (present (left_of (offer_part l r t ps z)))
  neat-by (taken i e) z h = copied-neat ps
  neat-by nothing (scans x gs) h = and-more (equal-neat l r) h

offer-less : (d : ℕ) (ps : List (Form × Form)) → words (present (left_of (offer_parts d ps))) ≤ words (present (copied ps))
unfolding offer_parts
offer-less d [] = omega arith
offer-less d (p ∷ ps) = less_by p.0 p.1 ps (accept d p.0 p.1) (offer_parts d ps) (offer-less d ps)

offer-neat : (d : ℕ) (ps : List (Form × Form)) → Neats (present (left_of (offer_parts d ps)))
unfolding offer_parts
offer-neat d [] = no_more
offer-neat d (p ∷ ps) = neat-by p.0 p.1 ps (accept d p.0 p.1) (offer_parts d ps) (offer-neat d ps)

pub joined_words : (t : ℕ) (fs : Forms) → length (left_words (joined t fs)) ≤ words fs + 2
unfolding encode words
joined_words t none = omega arith
joined_words t (more f none) = rw append-nil (omega arith)
joined_words t (more f (more g fs)) = omega arith

-- the equality scanned
left_by : (row : List ℕ) (pos e m : ℕ) (out out₂ out₃ : List ℕ) (found : Maybe Replacement) (next : ℕ) (end : Maybe ℕ) → pos + 2 ≤ length out → (z : Scans) → Neats (present (left_of z)) → PartsTold row (pos + 2) out 0 z found e m out₂
    → ((fs : Forms) → m ≡ count fs → Wrote (pos + 2) out₂ (encode_all fs) e out₂ → (is_none end ≡ is_gone (joined 351 fs)) × Wrote pos out₂ (left_words (joined 351 fs)) (unwrap_or end pos) out₃)
    → Left row pos out (with (λ gs. joined 351 (present gs)) z) (record { next = next; found = found; end = end }) out₃ × (unwrap_or end pos ≤ pos + 2 + words (present (left_of z)))
unfolding PartsTold Left
left_by row pos e m out out₂ out₃ found next end low (scans x gs) n t h =
    let u = h (present gs) (omega (arith, t.2)) (wrote_self (pos + 2) e out (encode_all (present gs)) out₂ low t.1) in
    let v : Wrote pos out (left_words (joined 351 (present gs))) (unwrap_or end pos) out₃ = based pos (unwrap_or end pos) out out₂ (left_words (joined 351 (present gs))) out₃ (kept (pos + 2) e out (encode_all (present gs)) out₂ low t.1 pos (omega arith)) u.1 in
    let a = wrote-end pos (unwrap_or end pos) out (left_words (joined 351 (present gs))) out₃ v in
    let b = joined_words 351 (present gs) in
    ((t.0, u.0, v, joined-neat not_eight n), omega arith)
  where
    not_eight : ◌≡◌ {A = ℕ} 351 8 → ⊥
    not_eight e = omega arith

scan-equal : (n : ℕ) (l r : Form) → scan n true (equal l r) ≡ with (λ gs. joined 351 (present gs)) (offer_parts n (parts l r))
unfolding scan
scan-equal n l r = refl

module _ (row : List ℕ) (at right next n pos : ℕ) (out : List ℕ) (x : Sided row at right next) where
  abbrev Whole : Form
  Whole = equal x.left x.other

  -- the parts of two pairs
  pub parts-done : (e m : ℕ) (out₂ out₃ : List ℕ) (found : Maybe Replacement) (end : Maybe ℕ) → pos + 2 ≤ length out → PartsTold row (pos + 2) out 0 (offer_parts n (parts_at row (at + 1) right 1)) found e m out₂
      → ((fs : Forms) → m ≡ count fs → Wrote (pos + 2) out₂ (encode_all fs) e out₂ → (is_none end ≡ is_gone (joined 351 fs)) × Wrote pos out₂ (left_words (joined 351 fs)) (unwrap_or end pos) out₃)
      → Became row at Whole pos out (scan n true Whole) (record { next = next; found = found; end = end }) out₃
  parts-done e m out₂ out₃ found end low t h =
      let u = left_by row pos e m out out₂ out₃ found next end low (offer_parts n (parts x.left x.other)) (offer-neat n (parts x.left x.other)) (rw (parts_are row at right next x) at t) h in
      let a = offer-less n (parts x.left x.other) in
      let b = parts-short x.left x.other in
      let c = equal-length x.left x.other in
      let s : unwrap_or end pos ≤ pos + 2 * length (encode Whole) = omega (arith, u.1) in
      record { next = sides-end row at right next x; left = rw (scan-equal n x.left x.other) u.0; short = s }

  -- one part: it is taken, or passed
  module _ (one : both_pairs row (at + 1) right ≡ false) (short : length row ≤ 8192) (r : Maybe Replacement) (is : r ≡ accept_words n (record { left = at + 1; middle = right; right = right; end = next }) row) where
    pub part-scan : (t : Taken) → accept n x.left x.other ≡ t → scan n true Whole ≡ with (λ gs. joined 351 (present gs)) (offer_part x.left x.other t [] (scans nothing []))
    unfolding offer_parts
    part-scan t e = scan-equal n x.left x.other ∙ rw (one-part row at right next x one, e)

    pub offered : TookIs row (accept n x.left x.other) r
    offered = rw is (part-took row at right next x short n)

    pub part-taken : is_some r ≡ true → Became row at Whole pos out (scan n true Whole) (record { next = next; found = r; end = None }) out
    unfolding Left TookIs
    part-taken k = go (accept n x.left x.other) refl offered
      where
        go : (t : Taken) → accept n x.left x.other ≡ t → TookIs row t r → Became row at Whole pos out (scan n true Whole) (record { next = next; found = r; end = None }) out
        go (taken i e) q h = rw (part-scan (taken i e) q) (record { next = sides-end row at right next x; left = (h, refl, nothing_written pos out, tt); short = omega arith })
        go nothing q h = absurd (took-none row r h k)

    pub part-passed : is_some r ≡ false → (end : ℕ) (out' : List ℕ) → Wrote pos out (take (next - at) (drop at row)) end out' → Became row at Whole pos out (scan n true Whole) (record { next = next; found = None; end = Some end }) out'
    unfolding Left TookIs
    part-passed k end out' w =
        let a = sides-end row at right next x in
        let v : Wrote pos out (encode Whole) end out' = rw (part-words row (encode Whole) (drop next row) at next x.words a) at w in
        let l = wrote-end pos end out (encode Whole) out' v in
        let z = took-not row (accept n x.left x.other) (rw (not_taken r k) at offered) in
        rw (part-scan nothing z) (record { next = a; left = (refl, refl, v, equal-neat x.left x.other); short = omega arith })

-- where parts that were written end
module _ (row out out' : List ℕ) (w k e m : ℕ) (found : Maybe Replacement) where
  pub parts-written : (z : Scans) → PartsTold row w out k z found e m out' → w ≤ e
  unfolding PartsTold
  parts-written (scans x gs) t = let a = wrote-end w e out (encode_all (present gs)) out' t.1 in omega arith

  pub parts-inside : (z : Scans) → w ≤ length out → PartsTold row w out k z found e m out' → e ≤ length out'
  unfolding PartsTold
  parts-inside (scans x gs) h t = wrote-in w e out (encode_all (present gs)) out' h t.1
