-- The form that a membership's quantifier leaves, on trees: the kept declarations round the filled body, or joined with the body's own where all
-- that are kept stand in front of the filled places. Assumes nothing.
use mathlib.Core.Path.{◌≡◌, refl, ap, sym, ◌∙◌}
use mathlib.Core.Bool.{Bool, true, false, not, ◌&&◌}
use mathlib.Core.List.{List, [], ◌∷◌, ◌++◌, append-nil, map}
use mathlib.Core.Option.{none as absent, some}
use Prim.Native.Nat.{ℕ, zero, suc, ◌+◌, ◌≤◌, ◌<◌}
use native.Mathlib.Omega.{arith}
use borrow.Author.Tests.{eq-eqb, ne_eqb, eqb-true, eqb-false}
use lib.Dec.{eqb}
use lib.ListN.{length, take, drop, replicate, length-map, length-drop}
use Rattle.tree.specs.Form.{Form, node, Forms, none, more}
use Rattle.tree.specs.Tag.{pred}
use Rattle.form.specs.Lists.{Place, kept, filled}
use Rattle.form.proofs.DecodeLaws.{clash, Ok}
use Rattle.rules.specs.Walk.{Outer, walk, lift, put, subst, collect}
use Rattle.rules.specs.Fill.{Decl, unlisted, any_noted, other, quantified, quantify, kept_count, kept_decls, fill_for, fill}
use Rattle.rules.specs.Prune.{is_not}
use Rattle.rules.specs.Partial.{front, lower_place, on_note, put_round, instantiate_partial}
use Rattle.rules.specs.Member.{any_filled}
use Rattle.rules.proofs.WalkLaws.{each_decls}
use Rattle.rules.proofs.FrontLaws.{kept-decls}
use Rattle.rules.proofs.JoinLaws.{unused_notes, round-other}
use Rattle.rules.proofs.JoinFill.{fits, deeper}
use Rattle.shift.proofs.AroundLaws.{Quant}
use Rattle.replace.proofs.FillTree.{word_for, drop-map}
use Rattle.decls.specs.Internal.Used.{cleared_by}
use Rattle.decls.proofs.RoundTree.{kept-front, fronts, rests, stays, all-filled, partial-stays, partial-none, partial-other, partial-unlike, partial-joined, partial-apart}
use Rattle.member.specs.Internal.Member.{lifted, filled_body}
use Rattle.member.specs.Internal.Noted.{no_zero, front_alone}
use Rattle.member.proofs.MemberTree.{front-lift, front_low, lift-drop, kept-count-lift, behind-front, whole-front, subst-same, all-kept, none_filled}
use Rattle.member.proofs.TableLaws.{in_front}
use Rattle.member.proofs.NotesLaws.{clear-test, lowered-back}

-- declarations that are kept
kept-lifted : (k : ℕ) (ps : List Place) (ds : List Decl) → kept_decls (map (lifted k) ps) ds ≡ kept_decls ps ds
kept-lifted k [] ds = refl
kept-lifted k (kept ∷ ps) [] = refl
kept-lifted k (filled x ∷ ps) [] = refl
kept-lifted k (kept ∷ ps) (d ∷ ds) = ap (λ z. d ∷ z) (kept-lifted k ps ds)
kept-lifted k (filled x ∷ ps) (d ∷ ds) = kept-lifted k ps ds

kept-all : (ps : List Place) (ds : List Decl) → length ps ≡ length ds → front ps ≡ length ps → kept_decls ps ds ≡ ds
kept-all ps ds e h = ap (λ z. kept_decls z ds) (all-kept ps h) ∙ kept-decls ds (length ps) (sym e)

none_left : (ps : List Place) (ds : List Decl) → kept_count ps ≡ 0 → kept_decls ps ds ≡ []
none_left [] ds e = refl
none_left (kept ∷ ps) ds e = absurd (omega arith)
none_left (filled x ∷ ps) [] e = refl
none_left (filled x ∷ ps) (d ∷ ds) e = none_left ps ds e

take-some : (j : ℕ) (ds : List Decl) → 0 < j → j ≤ length ds → (d : Decl) × (es : List Decl) × (take j ds ≡ d ∷ es) × (suc (length es) ≡ j)
take-some zero ds h l = absurd (omega arith)
take-some (suc j) [] h l = absurd (omega arith)
take-some (suc j) (d ∷ ds) h l = (d, take j ds, refl, ap suc (take_long j ds (omega arith)))
  where
    take_long : (j : ℕ) (ds : List Decl) → j ≤ length ds → length (take j ds) ≡ j
    take_long zero ds h = refl
    take_long (suc j) [] h = absurd (omega arith)
    take_long (suc j) (d ∷ ds) h = ap suc (take_long j ds (omega arith))

kept-front-some : (ps : List Place) (ds : List Decl) → length ps ≡ length ds → 0 < front ps → 1 ≤ length (kept_decls ps ds)
kept-front-some [] ds e h = absurd (omega arith)
kept-front-some (kept ∷ ps) [] e h = absurd (omega arith)
kept-front-some (kept ∷ ps) (d ∷ ds) e h = omega arith
kept-front-some (filled x ∷ ps) ds e h = absurd (omega arith)

-- the words behind the front
zero-words : (zs : List Place) → no_zero (map word_for zs) ≡ eqb (kept_count zs) 0
unfolding no_zero
zero-words [] = refl
zero-words (kept ∷ zs) = sym (ne_eqb (suc (kept_count zs)) 0 (λ z. absurd (omega arith)))
zero-words (filled x ∷ zs) = zero-words zs

-- no annotation uses anything where there is none
plain-unused : (i : ℕ) (es : List Decl) → any_noted es ≡ false → each_decls (is_not i) 0 (unlisted es) ≡ true
unfolding collect
plain-unused i [] e = refl
plain-unused i ((n, absent) ∷ es) e = plain-unused i es e
plain-unused i ((n, some f) ∷ es) e = absurd (clash cc)

all-clear : (p : ℕ → Bool) → ((i : ℕ) → p i ≡ true) → (k m : ℕ) → no_zero (take k (cleared_by p (replicate m 1))) ≡ true
unfolding no_zero cleared_by
all-clear p h zero m = refl
all-clear p h (suc k) zero = refl
all-clear p h (suc k) (suc m) = rw (h (length (replicate {A = ℕ} m 1)), all-clear p h k m)

-- a conjunction stays one
conjunction-other : (σ : Outer → Form) (o : List ℕ) (ks : Forms) → quantified (subst σ (node 351 o [] ks)) ≡ other
unfolding quantified walk
conjunction-other σ o none = refl
conjunction-other σ o (more f none) = refl
conjunction-other σ o (more f (more g gs)) = refl

module _ (ds : List Decl) (ps : List Place) (same : length ps ≡ length ds) (g : Form) where
  abbrev n : ℕ
  n = length ds

  abbrev j : ℕ
  j = front ps

  abbrev ls : List Place
  ls = map (lifted n) ps

  ls-same : length ls ≡ length ds
  ls-same = length-map ps (lifted n) ∙ same

  abbrev zs : List Place
  zs = drop j ps

  split : n ≡ j + length (drop j ds)
  split = let l = front_low ps in let d = length-drop j ds in omega arith

  abbrev inner : List Place
  inner = rests 852 refl ds ls ls-same g

  inner-is : inner ≡ map (lifted j) zs
  inner-is = rw (front-lift n ps) (behind-front n j (length (drop j ds)) ps split)

  inner-long : length inner + j ≡ n
  inner-long = let l = front_low ps in let d = length-drop j ps in let k = ap length inner-is ∙ length-map zs (lifted j) in omega arith

  inner-walk : (k : ℕ) (b : Form) → walk (put (fill_for inner)) k b ≡ walk (put (fill_for ps)) k b
  inner-walk k b = subst-same (fill_for inner) (fill_for ps) (λ x. ap (λ z. fill_for z x) inner-is ∙ sym (whole-front ps x)) k b

  -- the declarations that are kept round the filled body
  abbrev pub left : Form
  left = quantify 852 (kept_decls ps ds) (subst (fill_for ps) g)

  is-left : quantify 852 (kept_decls ls ds) (subst (fill_for inner) g) ≡ left
  is-left = ap (λ z. quantify 852 z (subst (fill_for inner) g)) (kept-lifted n ps ds) ∙ ap (λ z. quantify 852 (kept_decls ps ds) z) (inner-walk 0 g)

  none_any : any_filled ps ≡ false → filled_body ds ps g ≡ left
  none_any h = rw h (ap (λ z. quantify 852 z g) (sym (kept-all ps ds same all)) ∙ ap (λ z. quantify 852 (kept_decls ps ds) z) (sym (none_filled ps all g)))
    where
      go : (b : Bool) → eqb (front ps) (length ps) ≡ b → not b ≡ false → front ps ≡ length ps
      go true q e = eqb-true (front ps) (length ps) q
      go false q e = absurd (clash cc)

      all : front ps ≡ length ps
      all = go (eqb (front ps) (length ps)) refl h

  module _ (any : any_filled ps ≡ true) where
    some-any : filled_body ds ps g ≡ instantiate_partial 852 ds ls g
    some-any = rw any

    front-any : in_front ps ≡ j
    front-any = rw any

    -- nothing is kept behind the front exactly if no word there is 0
    behind-words : drop j (map word_for ps) ≡ map word_for zs
    behind-words = drop-map word_for j ps

    alone-count : stays 852 refl ds ls ls-same g ≡ [] → kept_count zs ≡ 0
    alone-count e = sym (kept-count-lift j zs) ∙ (ap kept_count (sym inner-is) ∙ all-filled 852 refl ds ls ls-same g e)

    count-alone : kept_count zs ≡ 0 → stays 852 refl ds ls ls-same g ≡ []
    count-alone e = none_left (drop (front ls) ls) (drop (front ls) ds) (rw (front-lift n ps, lift-drop n j ps) (kept-count-lift n zs ∙ e))

    and_none : (a : Bool) → (a && true) ≡ false → a ≡ false
    and_none true e = e
    and_none false e = refl

    not_none : (b : Bool) → not b ≡ false → b ≡ true
    not_none true e = refl
    not_none false e = absurd (clash cc)

    no_front : front_alone (map word_for ps) (in_front ps) ≡ false → kept_count zs ≡ 0 → j ≡ 0
    unfolding front_alone
    no_front h e =
        let a : no_zero (drop j (map word_for ps)) ≡ true = rw behind-words (zero-words zs ∙ eq-eqb (kept_count zs) 0 e) in
        let b : (not (eqb j 0) && no_zero (drop j (map word_for ps))) ≡ false = rw front-any at h in
        eqb-true j 0 (not_none (eqb j 0) (and_none (not (eqb j 0)) (rw a at b)))

    apart-any : front_alone (map word_for ps) (in_front ps) ≡ false → filled_body ds ps g ≡ left
    apart-any h = go (stays 852 refl ds ls ls-same g) refl
      where
        go : (l : List Decl) → stays 852 refl ds ls ls-same g ≡ l → filled_body ds ps g ≡ left
        go (s ∷ ss) e = some-any ∙ (partial-stays 852 refl ds ls ls-same g s ss e ∙ is-left)
        go [] e =
            let z : front ls ≡ 0 = front-lift n ps ∙ no_front h (alone-count e) in
            some-any ∙ (partial-none 852 refl ds ls ls-same g e (ap (λ k. take k ds) z) ∙ is-left)

  pub form-apart : front_alone (map word_for ps) (in_front ps) ≡ false → filled_body ds ps g ≡ left
  form-apart h = go (any_filled ps) refl
    where
      go : (b : Bool) → any_filled ps ≡ b → filled_body ds ps g ≡ left
      go true e = apart-any e h
      go false e = none_any e

  -- all that are kept stand in front
  module _ (joins : front_alone (map word_for ps) (in_front ps) ≡ true) where
    and-some : (a b : Bool) → (a && b) ≡ true → (a ≡ true) × (b ≡ true)
    and-some true b e = (refl, e)
    and-some false b e = absurd (clash cc)

    pub joins_any : any_filled ps ≡ true
    unfolding front_alone
    joins_any = go (any_filled ps) refl
      where
        go : (b : Bool) → any_filled ps ≡ b → b ≡ true
        go true e = refl
        go false e = let z : in_front ps ≡ 0 = rw e in let h : (not (eqb (in_front ps) 0) && no_zero (drop (in_front ps) (map word_for ps))) ≡ true = joins in absurd (let k = rw z at h in clash cc)

    both : (not (eqb j 0) ≡ true) × (no_zero (drop j (map word_for ps)) ≡ true)
    unfolding front_alone
    both = and-some (not (eqb j 0)) (no_zero (drop j (map word_for ps))) (rw (front-any joins_any) at joins)

    pub joins-front : 0 < j
    joins-front = go (eqb j 0) refl both.0
      where
        go : (b : Bool) → eqb j 0 ≡ b → not b ≡ true → 0 < j
        go true e h = absurd (clash cc)
        go false e h = let k = eqb-false j 0 e in omega (arith, k)

    pub joins-count : kept_count zs ≡ 0
    joins-count = eqb-true (kept_count zs) 0 (sym (zero-words zs) ∙ (ap no_zero (sym (behind-words joins_any)) ∙ both.1))

    pub joins-low : j < n
    joins-low = go (eqb (front ps) (length ps)) refl joins_any
      where
        go : (b : Bool) → eqb (front ps) (length ps) ≡ b → not b ≡ true → j < n
        go true e h = absurd (clash cc)
        go false e h = let k = eqb-false (front ps) (length ps) e in let l = front_low ps in omega (arith, k)

    pub joins-kept : 1 ≤ length (kept_decls ps ds)
    joins-kept = kept-front-some ps ds same joins-front

    alone : stays 852 refl ds ls ls-same g ≡ []
    alone = count-alone joins_any joins-count

    front-some : (d : Decl) × (es : List Decl) × (fronts 852 refl ds ls ls-same g ≡ d ∷ es) × (suc (length es) ≡ j)
    front-some =
        let (d, es, a, b) = take-some j ds joins-front (let l = joins-low in omega arith) in
        (d, es, ap (λ k. take k ds) (front-lift n ps) ∙ a, b)

    abbrev d : Decl
    d = front-some.0

    abbrev es : List Decl
    es = front-some.1

    some-front : fronts 852 refl ds ls ls-same g ≡ d ∷ es
    some-front = front-some.2

    front-count : suc (length es) ≡ j
    front-count = front-some.3

    kept-some : kept_decls ps ds ≡ d ∷ es
    kept-some =
        sym (kept-lifted n ps ds)
        ∙ (kept-front ls ds ls-same ∙ (ap (λ z. fronts 852 refl ds ls ls-same g ++ z) alone ∙ (append-nil (fronts 852 refl ds ls ls-same g) ∙ some-front)))

    -- the body is not quantified, or by another operator
    pub joined-other : {k : ℕ} → Ok k pred g → quantified g ≡ other → filled_body ds ps g ≡ left
    joined-other ok q = some-any joins_any ∙ (partial-other 852 refl ds ls ls-same g alone d es some-front ok q ∙ is-left)

    pub joined-unlike : {k : ℕ} (y : Quant k g) → eqb y.op 852 ≡ false → filled_body ds ps g ≡ left
    joined-unlike y u = some-any joins_any ∙ (partial-unlike 852 refl ds ls ls-same g alone d es some-front y u ∙ is-left)

    pub joined-conjunction : (o : List ℕ) (ks : Forms) → g ≡ node 351 o [] ks → filled_body ds ps g ≡ left
    unfolding instantiate_partial fill
    joined-conjunction o ks e =
        let a : kept_decls (rests 852 refl ds ls ls-same g) (map (on_note (lift (front ls))) (drop (front ls) ds)) ≡ [] = none_left inner (map (on_note (lift (front ls))) (drop (front ls) ds)) (all-filled 852 refl ds ls ls-same g alone) in
        let b : instantiate_partial 852 ds ls g ≡ put_round 852 (fronts 852 refl ds ls ls-same g) (subst (fill_for inner) g) = ap (λ z. put_round 852 (fronts 852 refl ds ls ls-same g) (quantify 852 z (subst (fill_for inner) g))) a in
        let c : quantified (subst (fill_for inner) g) ≡ other = rw e (conjunction-other (fill_for inner) o ks) in
        some-any joins_any
        ∙ (b
        ∙ (ap (λ z. put_round 852 z (subst (fill_for inner) g)) some-front
        ∙ (round-other 852 d es (subst (fill_for inner) g) c
        ∙ (ap (λ z. quantify 852 z (subst (fill_for inner) g)) (sym kept-some) ∙ ap (λ z. quantify 852 (kept_decls ps ds) z) (inner-walk 0 g)))))

    -- by the same one
    module _ {k : ℕ} (y : Quant k g) (like : y.op ≡ 852) (x : Form) where
      abbrev pub deep : List Place
      deep = replicate j (filled x) ++ zs

      -- whether no annotation uses a declaration in front
      abbrev free_of : ℕ → Bool
      free_of i = each_decls (is_not i) 0 (unlisted y.decls)

      abbrev pub unmentioned : Bool
      unmentioned = no_zero (take j (cleared_by free_of (replicate n 1)))

      inner-all : kept_count inner ≡ 0
      inner-all = all-filled 852 refl ds ls ls-same g alone

      test : unused_notes (fits (suc (length es)) x inner inner-all) (length inner + suc (length es)) y.decls ≡ unmentioned
      test =
          clear-test (suc (length es)) x inner zs inner-all (inner-is ∙ ap (λ k. map (lifted k) zs) (sym front-count)) joins-count y.decls
          ∙ (ap (λ k. no_zero (take k (cleared_by free_of (replicate (length inner + k) 1)))) front-count ∙ ap (λ m. no_zero (take j (cleared_by free_of (replicate m 1)))) inner-long)

      deep_is : deeper (suc (length es)) x inner inner-all ≡ deep
      deep_is =
          ap (λ k. replicate k (filled x) ++ map (lower_place k) inner) front-count
          ∙ ap (λ z. replicate j (filled x) ++ z) (ap (λ z. map (lower_place j) z) inner-is ∙ lowered-back j zs)

      pub joined-clear : unmentioned ≡ true → filled_body ds ps g ≡ quantify 852 (kept_decls ps ds ++ map (on_note (subst (fill_for deep))) y.decls) (walk (put (fill_for ps)) (length y.decls) y.body)
      joined-clear h =
          some-any joins_any
          ∙ (partial-joined 852 refl ds ls ls-same g alone d es some-front y like x (test ∙ h)
          ∙ (ap (λ z. quantify 852 (z ++ map (on_note (subst (fill_for (deeper (suc (length es)) x inner inner-all)))) y.decls) (walk (put (fill_for inner)) (length y.decls) y.body)) (kept-lifted n ps ds)
          ∙ (ap (λ z. quantify 852 (kept_decls ps ds ++ map (on_note (subst (fill_for z))) y.decls) (walk (put (fill_for inner)) (length y.decls) y.body)) deep_is
          ∙ ap (λ z. quantify 852 (kept_decls ps ds ++ map (on_note (subst (fill_for deep))) y.decls) z) (inner-walk (length y.decls) y.body))))

      pub joined-apart : unmentioned ≡ false → filled_body ds ps g ≡ left
      joined-apart h = some-any joins_any ∙ (partial-apart 852 refl ds ls ls-same g alone d es some-front y like x (test ∙ h) ∙ is-left)

      -- without annotations
      pub plain-clear : any_noted y.decls ≡ false → unmentioned ≡ true
      plain-clear e = all-clear free_of (λ i. plain-unused i y.decls e) j n
