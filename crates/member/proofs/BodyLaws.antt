-- The body of a membership: where its parts stand in the row, and what is written of it. Assumes nothing.
use mathlib.Core.Path.{◌≡◌, refl, ap, sym, subst, ◌∙◌}
use mathlib.Core.Bool.{Bool, true, false}
use mathlib.Core.List.{List, [], ◌∷◌, ◌++◌, append-nil, map}
use mathlib.Core.Option.{none as absent, some}
use Prim.Native.Nat.{ℕ, suc, ◌+◌, ◌-◌, ◌≤◌}
use native.Mathlib.Omega.{arith}
use lib.Dec.{leb}
use lib.ListN.{length, get_or, take, drop, set, replicate, length-append, length-map}
use lib.Seq.{drop-drop, drop_at, take_at}
use Rattle.tree.specs.Form.{free, bound, Form, leaf, node, noted, Decls, undeclared, bare, typed, names_of, Forms, none, more, pick, count, encode, encode_decls, encode_all}
use Rattle.tree.specs.Tag.{expr, pred, shape_of, pred_tags}
use Rattle.form.specs.Decode.{got, gots, decode}
use Rattle.form.specs.Lists.{Place, kept, filled}
use Rattle.reader.specs.Internal.Reads.{mark}
use Rattle.reader.specs.declared.lists.Table.{Table}
use Rattle.form.proofs.DecodeLaws.{clash, Ok, OkAll, ok-none, ok-more, decode_all-encode, decode-sound}
use Rattle.rules.specs.Walk.{Binding, inside, outside, binding, Outer, named, dangling, walk_index, walk, walk_decls, walk_all, up, lift, collect, each}
use Rattle.rules.proofs.WalkLaws.{each_all, walk-names, binding-add, each-all}
use Rattle.rules.proofs.TreeLaws.{lift-zero, each-walk}
use Rattle.shift.proofs.RowLaws.{zeros, marks_of, marks_decls, marks_all, marks-length, mark-front}
use Rattle.replace.proofs.FillTree.{ok-flat}
use Rattle.rules.proofs.OkLaws.{ok-deep}
use Rattle.rules.specs.Fill.{Decl, unnoted, name_of, unlisted, any_noted}
use Rattle.rules.specs.Replacement.{index_of}
use Rattle.rules.specs.Split.{equal, parts}
use Rattle.rules.specs.Scan.{join_all}
use Rattle.rules.specs.Partial.{no_places}
use Rattle.rules.specs.Member.{offer_all, any_filled, fill_offers, member_of}
use Rattle.places.specs.Internal.Wrote.{Wrote}
use Rattle.places.specs.Internal.Positions.{read_all, Beside, parts_at, MarkedAt}
use Rattle.std.specs.Prelude.{Option as Maybe, Some, None}
use Rattle.member.specs.Internal.Member.{Shares, shares, keep_part, spot_at, share_next, share, equalities, Shared, Sharing, set_head, SetIn, BodyTold, lifted, filled_body, shallow, Shaped, well-formed, conjunction, left_parts}
use Rattle.member.specs.declared.member.Comprehension.{Comprehension}
use Rattle.places.proofs.WroteLaws.{wrote-end, wrote_on, wrote-in, wrote_self, based, headed}
use Rattle.places.proofs.PartsOk.{OkParts, equal-ok, counted-ok, parts-few}
use Rattle.rules.proofs.ReplicateLaws.{map-replicate}
use Rattle.member.proofs.SetLaws.{head-tag}
use Rattle.member.proofs.MemberTree.{shift_right, parts-lift, offers_of, share-offers, front-lift}

-- declarations take a word each at least
decls-long : (ds : List Decl) → length ds ≤ length (encode_decls (unlisted ds))
unfolding encode
decls-long [] = omega arith
decls-long ((n, absent) ∷ ds) = let h = decls-long ds in omega arith
decls-long ((n, some f) ∷ ds) = let h = decls-long ds in let l = length-append (encode f) (encode_decls (unlisted ds)) in omega arith

-- where the parts of a comprehension lie
pub record Positions (row : List ℕ) (c : Comprehension) : Type 0 where
  pub at : 1 ≤ c.at
  pub guard : c.at + 3 ≤ c.guard
  pub value : c.guard ≤ c.value
  pub within : c.value ≤ length row
  pub few : c.n ≤ 32

-- where the parts stand
module _ {row : List ℕ} {c : Comprehension} (x : SetIn row c) where
  abbrev el : ℕ
  el = length (encode x.element)

  abbrev gd : ℕ
  gd = length (encode x.guard)

  abbrev va : ℕ
  va = length (encode x.value)

  abbrev pub behind : List ℕ
  behind = set_head x.form x.decls ++ (encode x.guard ++ encode x.value)

  abbrev hd : ℕ
  hd = length (set_head x.form x.decls)

  pub element-words : drop 1 row ≡ encode x.element ++ behind
  element-words = ap (drop 1) x.words

  pub set_words : drop c.at row ≡ behind
  set_words =
      let e : c.at ≡ 1 + el = x.at in
      rw (e, ← drop-drop el 1 row, element-words) (drop_at (encode x.element) behind el refl)

  pub guard-words : drop c.guard row ≡ encode x.guard ++ encode x.value
  guard-words = rw (x.guard-at, ← drop-drop hd c.at row, set_words) (drop_at (set_head x.form x.decls) (encode x.guard ++ encode x.value) hd refl)

  pub value-words : drop c.value row ≡ encode x.value
  value-words = rw (x.value-at, ← drop-drop gd c.guard row, guard-words) (drop_at (encode x.guard) (encode x.value) gd refl)

  pub row-long : length row ≡ 1 + el + hd + gd + va
  row-long =
      ap length x.words
      ∙ rw (length-append (encode x.element), length-append (set_head x.form x.decls), length-append (encode x.guard)) (omega arith)

  pub head-least : 4 ≤ hd
  head-least = go (any_noted x.decls) refl
    where
      go : (z : Bool) → any_noted x.decls ≡ z → 4 ≤ length (pick z (873 ∷ x.form ∷ length x.decls ∷ encode_decls (unlisted x.decls)) (803 ∷ x.form ∷ length x.decls ∷ map name_of x.decls))
      go true e = let l = x.least in let k = decls-long x.decls in omega arith
      go false e = let l = x.least in let k = length-map x.decls name_of in omega arith

  pub guard-part : take (c.value - c.guard) (drop c.guard row) ≡ encode x.guard
  guard-part =
      let n : c.value - c.guard ≡ gd = let v = x.value-at in omega arith in
      rw (n, guard-words) (take_at (encode x.guard) (encode x.value) gd refl)

  -- declarations without annotations
  module _ (tag : get_or row c.at 0 ≡ 803) where
    names-only : any_noted x.decls ≡ false
    names-only = go (any_noted x.decls) refl
      where
        go : (z : Bool) → any_noted x.decls ≡ z → z ≡ false
        go true e = let w : get_or row c.at 0 ≡ 873 = head-tag row c.at x.form x.decls (encode x.guard ++ encode x.value) set_words ∙ rw e in absurd (omega arith)
        go false e = refl

    plain-decls : (ds : List Decl) → any_noted ds ≡ false → ds ≡ map unnoted (map name_of ds)
    plain-decls [] e = refl
    plain-decls ((n, absent) ∷ ds) e = ap (λ z. unnoted n ∷ z) (plain-decls ds e)
    plain-decls ((n, some f) ∷ ds) e = absurd (clash cc)

    pub names-part : take (c.guard - (c.at + 3)) (drop (c.at + 3) row) ≡ map name_of x.decls
    names-part =
        let e = names-only in
        let l = length-map x.decls name_of in
        let h : c.guard ≡ c.at + (3 + length (map name_of x.decls)) = x.guard-at ∙ rw e (omega arith) in
        let n : c.guard - (c.at + 3) ≡ length (map name_of x.decls) = omega arith in
        let w : drop (c.at + 3) row ≡ map name_of x.decls ++ (encode x.guard ++ encode x.value) = rw (← drop-drop 3 c.at row, set_words, e) in
        rw (n, w) (take_at (map name_of x.decls) (encode x.guard ++ encode x.value) (length (map name_of x.decls)) refl)

    pub names-all : map unnoted (take (c.guard - (c.at + 3)) (drop (c.at + 3) row)) ≡ x.decls
    names-all = rw names-part (sym (plain-decls x.decls names-only))

    pub names-count : length (take (c.guard - (c.at + 3)) (drop (c.at + 3) row)) ≡ c.n
    names-count = ap length names-part ∙ (length-map x.decls name_of ∙ sym x.number)

  pub positions : Positions row c
  positions =
      let a = x.at in
      let g = x.guard-at in
      let v = x.value-at in
      let l = row-long in
      let k = head-least in
      let m = x.most in
      let n = x.number in
      record { at = omega arith; guard = omega arith; value = omega arith; within = omega arith; few = omega arith }

  ok_of : {d : ℕ} {f : Form} → decode d expr (encode f) ≡ got f [] → Ok d expr f
  ok_of {d} {f} e = (decode-sound d expr (encode f) f [] e).1

  pub ok-element : Ok 63 expr x.element
  ok-element = ok_of x.is-element

  pub ok-value : Ok 62 expr x.value
  ok-value = ok_of x.is-value

  module _ (short : length row ≤ 8192) where
    read_left : read_all 1 (drop c.value row) ≡ gots (more x.value none) []
    unfolding encode
    read_left = rw (value-words, ← append-nil (encode x.value), ← append-nil (encode x.value ++ [])) (decode_all-encode (ok-more (ok-deep ok-value 64 (omega arith)) ok-none) [])

    pub read_right : read_all 1 (drop 1 row) ≡ gots (more x.element none) behind
    unfolding encode
    read_right = rw (element-words, ← append-nil (encode x.element)) (decode_all-encode (ok-more (ok-deep ok-element 64 (omega arith)) ok-none) behind)

    pub set-beside : (w : ℕ) → w ≡ 2 + gd → Beside row c.value 1 1 w 0 16384
    unfolding encode
    set-beside w e =
        let l = row-long in
        let k = head-least in
        record {
          lefts = more x.value none;
          rights = more x.element none;
          left-rest = [];
          right-rest = behind;
          is-left = read_left;
          is_right = read_right;
          room = rw (append-nil, append-nil) (omega arith);
          few = rw append-nil (omega arith);
        }

    pub set-parts : parts_at row c.value 1 1 ≡ parts x.value x.element
    unfolding parts_at parts
    set-parts = rw (read_left, read_right) (append-nil (parts x.value x.element))

    pub sharing : (lm : List ℕ) (u w words : ℕ) → w ≡ 2 + gd → words ≡ 16384 → MarkedAt row lm 1 1 → length row ≤ length lm → u ≤ 32 → Sharing row lm c.value 1 c.n u w words
    sharing lm u w words e f m l h = record { beside = rw f (set-beside w e); marked = m; short = short; long = l; few = positions.few; low = h }

-- what was written of the parts
equals-count : (u : ℕ) (qs : List (Form × Form)) → count (equalities u qs) ≡ length qs
equals-count u [] = refl
equals-count u (p ∷ qs) = ap suc (equals-count u qs)

module _ (row lm : List ℕ) (n u w : ℕ) (out : List ℕ) (t : Table) (e m : ℕ) (o : List ℕ) (low : w ≤ length out) where
  pub shared-count : (z : Shares) (k : ℕ) → length (left_parts z) ≤ k → Shared row lm n u w out 0 z t e m o → m ≤ k
  unfolding Shared
  shared-count (shares ps qs) k h (a, b, d) = let c = equals-count u qs in omega (arith, d)

-- the body written
module _ (row lm : List ℕ) (n u : ℕ) (g : Form) (from e m : ℕ) (out₀ out₁ out₂ : List ℕ) (low : 2 ≤ length out₀) (head : Wrote 2 out₀ (encode g) from out₁) where
  pub body-alone : (r : ℕ) (out₃ : List ℕ) → m ≡ 0 → Wrote 0 out₂ (encode g) r out₃ → (t : Table) (z : Shares) → Shared row lm n u from out₁ 0 z t e m out₂ → BodyTold row lm n u g out₀ z t r out₃
  unfolding Shared BodyTold
  body-alone r out₃ q w t (shares ps []) (a, b, d) = (a, based 0 r out₀ out₂ (encode g) out₃ refl w)
  body-alone r out₃ q w t (shares ps (p ∷ qs)) (a, b, d) = absurd (omega (arith, d))

  pub body-joined : (m ≡ 0 → ⊥) → (t : Table) (z : Shares) → Shared row lm n u from out₁ 0 z t e m out₂ → BodyTold row lm n u g out₀ z t e (set (set out₂ 0 351) 1 (m + 1))
  unfolding Shared BodyTold encode
  body-joined q t (shares ps []) (a, b, d) = absurd (q (omega (arith, d)))
  body-joined q t (shares ps (p ∷ qs)) (a, b, d) =
      let ws = encode g ++ encode_all (equalities u (p ∷ qs)) in
      let w = wrote_on 2 from e out₀ (encode g) out₁ (encode_all (equalities u (p ∷ qs))) out₂ head b in
      let k = wrote-in 2 e out₀ ws out₂ low w in
      let l = wrote-end 2 e out₀ ws out₂ w in
      let c : m + 1 ≡ suc (suc (count (equalities u qs))) = omega (arith, d) in
      let v = headed 0 e 351 (m + 1) out₂ ws (omega arith) (wrote_self 2 e out₀ ws out₂ low w) in
      let o = set (set out₂ 0 351) 1 (m + 1) in
      (a, subst (λ (i : ℕ). Wrote 0 out₀ (351 ∷ (i ∷ ws)) e o) c (based 0 e out₀ out₂ (351 ∷ ((m + 1) ∷ ws)) o refl v))

-- parts that are left are parts
module _ (n d : ℕ) where
  keep-ok : (p : Form × Form) (z : Shares) → Ok d expr p.0 × Ok d expr p.1 → OkParts d (left_parts z) → OkParts d (left_parts (keep_part p z))
  keep-ok p (shares ps qs) h k = (h, k)

  next-ok : (p : Form × Form) (ps : List Place) (later : List Place → Shares) → Ok d expr p.0 × Ok d expr p.1 → ((qs : List Place) → OkParts d (left_parts (later qs))) → (x : Maybe ℕ) → OkParts d (left_parts (share_next x p ps later))
  next-ok p ps later h k (Some j) = k (set ps j (filled p.1))
  next-ok p ps later h k None = keep-ok p (later ps) h (k ps)

  pub left-ok : (rest : List (Form × Form)) (ps : List Place) → OkParts d rest → OkParts d (left_parts (share n rest ps))
  unfolding share
  left-ok [] ps h = tt
  left-ok (p ∷ rest) ps h = next-ok p ps (λ qs. share n rest qs) h.0 (λ qs. left-ok rest qs h.1) (spot_at n ps (index_of p.0))

keep-few : (p : Form × Form) (z : Shares) → length (left_parts (keep_part p z)) ≡ suc (length (left_parts z))
keep-few p (shares ps qs) = refl

next-few : (p : Form × Form) (ps : List Place) (later : List Place → Shares) (m : ℕ) → ((qs : List Place) → length (left_parts (later qs)) ≤ m) → (x : Maybe ℕ) → length (left_parts (share_next x p ps later)) ≤ suc m
next-few p ps later m k (Some j) = let h = k (set ps j (filled p.1)) in omega arith
next-few p ps later m k None = let e = keep-few p (later ps) in let h = k ps in omega arith

pub left-few : (n : ℕ) (rest : List (Form × Form)) (ps : List Place) → length (left_parts (share n rest ps)) ≤ length rest
unfolding share
left-few n [] ps = omega arith
left-few n (p ∷ rest) ps = next-few p ps (λ qs. share n rest qs) (length rest) (left-few n rest) (spot_at n ps (index_of p.0))

-- a shift keeps the shape of a form: its marks, its length and its depth
marks-index : (n k u i : ℕ) (z : Binding) → marks_of u (walk_index (up n) k i z) ≡ suc u ∷ 0 ∷ []
unfolding marks_of
marks-index n k u i inside = refl
marks-index n k u i (outside j) = refl

mutual
  unfolding walk marks_of

  marks-lift : (n k u : ℕ) (f : Form) → marks_of u (walk (up n) k f) ≡ marks_of u f
  marks-lift n k u (leaf (free m)) = refl
  marks-lift n k u (leaf (bound i)) = marks-index n k u i (binding k i)
  marks-lift n k u (node t o ds ks) = ap (λ z. 0 ∷ (zeros o ++ (zeros ds ++ z))) (marks-lift_all n (length ds + k) (length ds + u) ks)
  marks-lift n k u (noted t o ds ks) =
      rw (walk-names (up n) k ds, marks-lift_decls n k u ds, marks-lift_all n (length (names_of ds) + k) (length (names_of ds) + u) ks)

  marks-lift_decls : (n k u : ℕ) (ds : Decls) → marks_decls u (walk_decls (up n) k ds) ≡ marks_decls u ds
  marks-lift_decls n k u undeclared = refl
  marks-lift_decls n k u (bare m ds) = ap (λ z. 0 ∷ 0 ∷ z) (marks-lift_decls n k u ds)
  marks-lift_decls n k u (typed m f ds) = rw (marks-lift n k u f, marks-lift_decls n k u ds)

  marks-lift_all : (n k u : ℕ) (fs : Forms) → marks_all u (walk_all (up n) k fs) ≡ marks_all u fs
  marks-lift_all n k u none = refl
  marks-lift_all n k u (more f fs) = rw (marks-lift n k u f, marks-lift_all n k u fs)

flat_up : (n k : ℕ) (x : Outer) → leb k 4096 ≡ true → each (λ i y. leb i 4096) k (up n k x) ≡ true
unfolding collect
flat_up n k (named m) h = h
flat_up n k (dangling j) h = rw (binding-add k (j + n)) h

flat-lift : (n : ℕ) (f : Form) → shallow 4096 f ≡ true → shallow 4096 (lift n f) ≡ true
flat-lift n f h = each-walk (λ i y. leb i 4096) (up n) 0 f ∙ each-all (λ i y. leb i 4096) (λ k x. each (λ i y. leb i 4096) k (up n k x)) (λ k x q. flat_up n k x q) 0 f h

-- the equalities
equals-ok : (qs : List (Form × Form)) → OkParts 63 qs → OkAll 64 (replicate (count (equalities 0 qs)) pred) (equalities 0 qs)
equals-ok [] h = ok-none
equals-ok (p ∷ qs) h =
    let a : Ok 64 pred (equal p.0 (lift 0 p.1)) = rw (lift-zero p.1) (equal-ok h.0.0 h.0.1) in
    ok-more a (equals-ok qs h.1)

module _ (g : Form) (ok : Ok 62 pred g) where
  pub guard_ok : (qs : List (Form × Form)) → OkParts 63 qs → length qs ≤ 8192 → Ok 65 pred (join_all 351 g (equalities 0 qs))
  unfolding shape_of pred_tags
  guard_ok [] h l = ok-deep ok 65 (omega arith)
  guard_ok (p ∷ qs) h l =
      let e = equals-count 0 qs in
      counted-ok refl refl (ok-more (ok-deep ok 64 (omega arith)) (equals-ok (p ∷ qs) h)) (omega arith) (omega arith)

  pub guard-shape : (u : ℕ) (qs : List (Form × Form)) → decode 62 pred (encode g) ≡ got g [] → Shaped (join_all 351 g (equalities u qs))
  guard-shape u [] e = well-formed e
  guard-shape u (p ∷ qs) e = conjunction

  flat-all : (n : ℕ) (qs : List (Form × Form)) → OkParts 63 qs → each_all (λ i y. leb i 4096) 0 (equalities n qs) ≡ true
  unfolding collect
  flat-all n [] h = refl
  flat-all n (p ∷ qs) h = rw (ok-flat 0 (omega arith) h.0.0, flat-lift n p.1 (ok-flat 0 (omega arith) h.0.1), flat-all n qs h.1)

  pub guard-flat : (n : ℕ) (qs : List (Form × Form)) → OkParts 63 qs → shallow 4096 (join_all 351 g (equalities n qs)) ≡ true
  unfolding collect
  guard-flat n [] h = ok-flat 0 (omega arith) ok
  guard-flat n (p ∷ qs) h = rw (ok-flat 0 (omega arith) ok) (flat-all n (p ∷ qs) h)

  -- marks do not depend on the shift
  equal-marks : (k n : ℕ) (l r : Form) → marks_of k (equal l (lift n r)) ≡ marks_of k (equal l (lift 0 r))
  unfolding marks_of
  equal-marks k n l r = rw (marks-lift n 0 (0 + k) r, marks-lift 0 0 (0 + k) r)

  equals-marks : (k n : ℕ) (qs : List (Form × Form)) → marks_all k (equalities n qs) ≡ marks_all k (equalities 0 qs)
  unfolding marks_of
  equals-marks k n [] = refl
  equals-marks k n (p ∷ qs) = ap (λ z. z ++ marks_all k (equalities n qs)) (equal-marks k n p.0 p.1) ∙ ap (λ z. marks_of k (equal p.0 (lift 0 p.1)) ++ z) (equals-marks k n qs)

  guard-marks : (k n : ℕ) (qs : List (Form × Form)) → marks_of k (join_all 351 g (equalities n qs)) ≡ marks_of k (join_all 351 g (equalities 0 qs))
  unfolding marks_of
  guard-marks k n [] = refl
  guard-marks k n (p ∷ qs) = ap (λ z. 0 ∷ 0 ∷ (marks_of (0 + k) g ++ z)) (equals-marks (0 + k) n (p ∷ qs))

  pub guard-length : (n : ℕ) (qs : List (Form × Form)) → length (encode (join_all 351 g (equalities n qs))) ≡ length (encode (join_all 351 g (equalities 0 qs)))
  guard-length n qs = sym (marks-length 0 (join_all 351 g (equalities n qs))) ∙ (ap length (guard-marks 0 n qs) ∙ marks-length 0 (join_all 351 g (equalities 0 qs)))

  pub marks-same : (k n m : ℕ) (qs : List (Form × Form)) → length (encode (join_all 351 g (equalities 0 qs))) ≤ m → mark (join_all 351 g (equalities 0 qs)) 0 k (replicate m 0) ≡ mark (join_all 351 g (equalities n qs)) 0 k (replicate m 0)
  marks-same k n m qs h =
      let l = guard-length n qs in
      rw (mark-front (join_all 351 g (equalities 0 qs)) k m h, mark-front (join_all 351 g (equalities n qs)) k m (omega arith), guard-marks k n qs, l)

-- membership by shares
any-lift : (n : ℕ) (ps : List Place) → any_filled (map (lifted n) ps) ≡ any_filled ps
any-lift n ps = rw (front-lift n ps, length-map ps (lifted n))

fill-shares : (ns : List Decl) (g : Form) (z : Shares) (ps : List Place) (qs : List (Form × Form)) → z ≡ shares ps qs → fill_offers ns g (offers_of (length ns) z) ≡ filled_body ns ps (join_all 351 g (equalities (length ns) qs))
fill-shares ns g z ps qs e = rw (e, any-lift (length ns) ps)

pub member-shares : (element : Form) (ns : List Decl) (g value : Form) (ps : List Place) (qs : List (Form × Form)) → share (length ns) (parts value element) (no_places (length ns)) ≡ shares ps qs
    → member_of element ns g value ≡ filled_body ns ps (join_all 351 g (equalities (length ns) qs))
member-shares element ns g value ps qs e =
    let n = length ns in
    let a : offer_all n (parts value (lift n element)) (no_places n) ≡ offers_of n (share n (parts value element) (no_places n))
    = ap (λ z. offer_all n z (no_places n)) (parts-lift n value element) ∙ (ap (λ z. offer_all n (map (shift_right n) (parts value element)) z) (sym (map-replicate (lifted n) n kept)) ∙ share-offers n (parts value element) (no_places n)) in
    rw a (fill-shares ns g (share n (parts value element) (no_places n)) ps qs e)

pub set-count : {row : List ℕ} {c : Comprehension} (x : SetIn row c) (n : ℕ) (ps : List Place) → length row ≤ 8192 → length (left_parts (share n (parts x.value x.element) ps)) ≤ 8192
set-count x n ps short =
    let a = left-few n (parts x.value x.element) ps in
    let b = parts-few x.value x.element in
    let l = row-long x in
    omega arith
