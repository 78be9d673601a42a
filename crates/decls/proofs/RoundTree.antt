-- The form that is left of a quantifier of which some places are filled, on trees: the kept declarations round the filled body, or joined with the
-- body's own quantifier where only a front is kept. Assumes nothing.
use mathlib.Core.Path.{◌≡◌, refl, ap, sym, ◌∙◌}
use mathlib.Core.Bool.{Bool, true, false, ◌||◌}
use mathlib.Core.List.{List, [], ◌∷◌, ◌++◌, append-nil, map}
use Prim.Native.Nat.{ℕ, zero, suc, ◌+◌, ◌-◌, ◌≤◌}
use native.Mathlib.Omega.{arith}
use lib.Dec.{eqb}
use lib.ListN.{length, take, drop, length-drop}
use Rattle.tree.specs.Form.{Form, node, noted, Decls, names_of, Forms, none, more, pick}
use Rattle.tree.specs.Tag.{pred}
use Rattle.form.specs.Lists.{Place, kept, filled}
use Rattle.form.proofs.DecodeLaws.{clash, Ok, ok-node, ok-noted}
use Rattle.rules.specs.Walk.{Outer, walk, walk_decls, lift, put, subst}
use Rattle.rules.specs.Fill.{Decl, unnoted, listed, quantifier, other, quantified, around, quantify, kept_count, kept_decls, fill_for, fill}
use Rattle.rules.specs.Partial.{front, lower_place, on_note, put_round, instantiate_partial}
use Rattle.rules.proofs.FrontLaws.{unlike-stays}
use Rattle.rules.proofs.JoinLaws.{unused_notes, round-other, round-stays, subst-around, quantified-around}
use Rattle.rules.proofs.JoinFill.{deeper, fits, fill-joined, fill-apart}
use Rattle.shift.proofs.AroundLaws.{Quant}

kept-notes : (h : Form → Form) (ps : List Place) (ds : List Decl) → kept_decls ps (map (on_note h) ds) ≡ map (on_note h) (kept_decls ps ds)
kept-notes h [] ds = refl
kept-notes h (kept ∷ ps) [] = refl
kept-notes h (filled x ∷ ps) [] = refl
kept-notes h (kept ∷ ps) (d ∷ ds) = ap (λ z. on_note h d ∷ z) (kept-notes h ps ds)
kept-notes h (filled x ∷ ps) (d ∷ ds) = kept-notes h ps ds

pub kept-lower : (n : ℕ) (ps : List Place) (ds : List Decl) → kept_decls (map (lower_place n) ps) ds ≡ kept_decls ps ds
kept-lower n [] ds = refl
kept-lower n (kept ∷ ps) [] = refl
kept-lower n (filled x ∷ ps) [] = refl
kept-lower n (kept ∷ ps) (d ∷ ds) = ap (λ z. d ∷ z) (kept-lower n ps ds)
kept-lower n (filled x ∷ ps) (d ∷ ds) = kept-lower n ps ds

-- the front is kept, and of the rest what is kept of it
pub kept-front : (ps : List Place) (ds : List Decl) → length ps ≡ length ds → kept_decls ps ds ≡ take (front ps) ds ++ kept_decls (drop (front ps) ps) (drop (front ps) ds)
kept-front [] ds e = refl
kept-front (kept ∷ ps) [] e = absurd (omega arith)
kept-front (kept ∷ ps) (d ∷ ds) e = ap (λ z. d ∷ z) (kept-front ps ds (omega arith))
kept-front (filled x ∷ ps) ds e = refl

pub front_low : (ps : List Place) → front ps ≤ length ps
front_low [] = omega arith
front_low (kept ∷ ps) = let h = front_low ps in omega arith
front_low (filled x ∷ ps) = omega arith

take_long : (j : ℕ) (ds : List Decl) → j ≤ length ds → length (take j ds) ≡ j
take_long zero ds h = refl
take_long (suc j) [] h = absurd (omega arith)
take_long (suc j) (d ∷ ds) h = ap suc (take_long j ds (omega arith))

-- nothing of the rest is kept exactly if all its places are filled
pub none_kept : (ps : List Place) (ds : List Decl) → length ps ≡ length ds → kept_decls ps ds ≡ [] → kept_count ps ≡ 0
none_kept [] ds e h = refl
none_kept (kept ∷ ps) [] e h = absurd (omega arith)
none_kept (filled x ∷ ps) [] e h = absurd (omega arith)
none_kept (kept ∷ ps) (d ∷ ds) e h = absurd (let l = ap length h in omega arith)
none_kept (filled x ∷ ps) (d ∷ ds) e h = none_kept ps ds (omega arith) h

count-lower : (n : ℕ) (ps : List Place) → kept_count (map (lower_place n) ps) ≡ kept_count ps
count-lower n [] = refl
count-lower n (kept ∷ ps) = ap suc (count-lower n ps)
count-lower n (filled x ∷ ps) = count-lower n ps

-- what is not quantified is not after a substitution either
node-not : (σ : Outer → Form) (t : ℕ) (o ds : List ℕ) (ks : Forms) → quantified (node t o ds ks) ≡ other → quantified (subst σ (node t o ds ks)) ≡ other
unfolding quantified walk
node-not σ t o ds none e = refl
node-not σ t o ds (more f none) e = go (eqb t 851 || eqb t 852) e
  where
    go : (b : Bool) → pick b (quantifier t (map unnoted ds) f) other ≡ other → pick b (quantifier t (map unnoted ds) (walk (put σ) (length ds + 0) f)) other ≡ other
    go true e = absurd (clash cc)
    go false e = refl
node-not σ t o ds (more f (more g gs)) e = refl

noted-not : (σ : Outer → Form) (t : ℕ) (o : List ℕ) (ds : Decls) (ks : Forms) → quantified (noted t o ds ks) ≡ other → quantified (subst σ (noted t o ds ks)) ≡ other
unfolding quantified walk
noted-not σ t o ds none e = refl
noted-not σ t o ds (more f none) e = go (eqb t 861 || eqb t 862) e
  where
    go : (b : Bool) → pick b (quantifier (t - 10) (listed ds) f) other ≡ other
        → pick b (quantifier (t - 10) (listed (walk_decls (put σ) 0 ds)) (walk (put σ) (length (names_of ds) + 0) f)) other ≡ other
    go true e = absurd (clash cc)
    go false e = refl
noted-not σ t o ds (more f (more g gs)) e = refl

not-quantified : {d : ℕ} {f : Form} (σ : Outer → Form) → Ok d pred f → quantified f ≡ other → quantified (subst σ f) ≡ other
not-quantified σ (ok-node {t = t} {o = o} {ds = ds} {ks = ks} l r k) e = node-not σ t o ds ks e
not-quantified σ (ok-noted {t = t} {o = o} {ds = ds} {ks = ks} a r v k) e = noted-not σ t o ds ks e

module _ (t : ℕ) (which : (eqb t 851 || eqb t 852) ≡ true) (ds : List Decl) (ps : List Place) (same : length ps ≡ length ds) (f : Form) where
  abbrev pub fronts : List Decl
  fronts = take (front ps) ds

  -- the places of the rest, lowered
  abbrev pub rests : List Place
  rests = map (lower_place (length (drop (front ps) ds))) (drop (front ps) ps)

  abbrev pub stays : List Decl
  stays = kept_decls (drop (front ps) ps) (drop (front ps) ds)

  front_long : length fronts ≡ front ps
  front_long = take_long (front ps) ds (rw (← same) (front_low ps))

  partial-is : instantiate_partial t ds ps f ≡ put_round t fronts (quantify t (map (on_note (lift (front ps))) stays) (subst (fill_for rests) f))
  unfolding instantiate_partial fill
  partial-is = rw (kept-notes (lift (front ps)) rests (drop (front ps) ds), kept-lower (length (drop (front ps) ds)) (drop (front ps) ps) (drop (front ps) ds))

  -- something is kept after the front
  pub partial-stays : (s : Decl) (ss : List Decl) → stays ≡ s ∷ ss → instantiate_partial t ds ps f ≡ quantify t (kept_decls ps ds) (subst (fill_for rests) f)
  partial-stays s ss e =
      let r : put_round t fronts (quantify t (map (on_note (lift (length fronts))) (s ∷ ss)) (subst (fill_for rests) f)) ≡ quantify t (fronts ++ (s ∷ ss)) (subst (fill_for rests) f) = round-stays t which fronts s ss (subst (fill_for rests) f) in
      partial-is
      ∙ (ap (λ z. put_round t fronts (quantify t (map (on_note (lift (front ps))) z) (subst (fill_for rests) f))) e
      ∙ (ap (λ k. put_round t fronts (quantify t (map (on_note (lift k)) (s ∷ ss)) (subst (fill_for rests) f))) (sym front_long)
      ∙ (r ∙ ap (λ z. quantify t z (subst (fill_for rests) f)) (ap (λ z. fronts ++ z) (sym e) ∙ sym (kept-front ps ds same)))))

  module _ (alone : stays ≡ []) where
    kept-alone : kept_decls ps ds ≡ fronts
    kept-alone = kept-front ps ds same ∙ (ap (λ z. fronts ++ z) alone ∙ append-nil fronts)

    pub all-filled : kept_count rests ≡ 0
    all-filled =
        count-lower (length (drop (front ps) ds)) (drop (front ps) ps)
        ∙ none_kept (drop (front ps) ps) (drop (front ps) ds) (rw (length-drop (front ps) ps, length-drop (front ps) ds, same)) alone

    partial-alone : instantiate_partial t ds ps f ≡ put_round t fronts (subst (fill_for rests) f)
    partial-alone = partial-is ∙ ap (λ z. put_round t fronts (quantify t (map (on_note (lift (front ps))) z) (subst (fill_for rests) f))) alone

    -- there is no front
    pub partial-none : fronts ≡ [] → instantiate_partial t ds ps f ≡ quantify t (kept_decls ps ds) (subst (fill_for rests) f)
    unfolding put_round
    partial-none e = partial-alone ∙ (ap (λ z. put_round t z (subst (fill_for rests) f)) e ∙ ap (λ z. quantify t z (subst (fill_for rests) f)) (sym (kept-alone ∙ e)))

    module _ (n : Decl) (ns : List Decl) (some : fronts ≡ n ∷ ns) where
      at_front : (g : Form) → put_round t (n ∷ ns) (subst (fill_for rests) f) ≡ g → instantiate_partial t ds ps f ≡ g
      at_front g h = partial-alone ∙ (ap (λ z. put_round t z (subst (fill_for rests) f)) some ∙ h)

      kept-some : kept_decls ps ds ≡ n ∷ ns
      kept-some = kept-alone ∙ some

      -- the body is not quantified
      pub partial-other : {d : ℕ} → Ok d pred f → quantified f ≡ other → instantiate_partial t ds ps f ≡ quantify t (kept_decls ps ds) (subst (fill_for rests) f)
      partial-other ok q =
          at_front (quantify t (kept_decls ps ds) (subst (fill_for rests) f))
          (round-other t n ns (subst (fill_for rests) f) (not-quantified (fill_for rests) ok q) ∙ ap (λ z. quantify t z (subst (fill_for rests) f)) (sym kept-some))

      module _ {d : ℕ} (y : Quant d f) where
        -- by another operator
        pub partial-unlike : eqb y.op t ≡ false → instantiate_partial t ds ps f ≡ quantify t (kept_decls ps ds) (subst (fill_for rests) f)
        partial-unlike u =
            at_front (quantify t (kept_decls ps ds) (subst (fill_for rests) f))
            (unlike-stays t y.op n ns (map (on_note (subst (fill_for rests))) y.decls) (walk (put (fill_for rests)) (length y.decls) y.body) (subst (fill_for rests) f) own u ∙ ap (λ z. quantify t z (subst (fill_for rests) f)) (sym kept-some))
          where
            own : quantified (subst (fill_for rests) f) ≡ quantifier y.op (map (on_note (subst (fill_for rests))) y.decls) (walk (put (fill_for rests)) (length y.decls) y.body)
            own = rw (y.form, subst-around (fill_for rests) y.op y.decls y.body) (quantified-around y.op y.which (map (on_note (subst (fill_for rests))) y.decls) (walk (put (fill_for rests)) (length y.decls) y.body))

        module _ (like : y.op ≡ t) (x : Form) where
          same-form : f ≡ around t y.decls y.body
          same-form = y.form ∙ ap (λ z. around z y.decls y.body) like

          count : suc (length ns) ≡ front ps
          count = sym (ap length some) ∙ front_long

          -- by the same one, and no annotation mentions a declaration in front
          pub partial-joined : unused_notes (fits (suc (length ns)) x rests all-filled) (length rests + suc (length ns)) y.decls ≡ true
              → instantiate_partial t ds ps f ≡ quantify t (kept_decls ps ds ++ map (on_note (subst (fill_for (deeper (suc (length ns)) x rests all-filled)))) y.decls) (walk (put (fill_for rests)) (length y.decls) y.body)
          partial-joined h =
              at_front _
              (ap (λ z. put_round t (n ∷ ns) (subst (fill_for rests) z)) same-form
              ∙ (fill-joined t which n ns x rests all-filled y.decls y.body h
              ∙ ap (λ z. quantify t (z ++ map (on_note (subst (fill_for (deeper (suc (length ns)) x rests all-filled)))) y.decls) (walk (put (fill_for rests)) (length y.decls) y.body)) (sym kept-some)))

          -- or one does
          pub partial-apart : unused_notes (fits (suc (length ns)) x rests all-filled) (length rests + suc (length ns)) y.decls ≡ false
              → instantiate_partial t ds ps f ≡ quantify t (kept_decls ps ds) (subst (fill_for rests) f)
          partial-apart h =
              at_front _
              (ap (λ z. put_round t (n ∷ ns) (subst (fill_for rests) z)) same-form
              ∙ (fill-apart t which n ns x rests all-filled y.decls y.body h
              ∙ (ap (λ z. quantify t (n ∷ ns) (subst (fill_for rests) z)) (sym same-form) ∙ ap (λ z. quantify t z (subst (fill_for rests) f)) (sym kept-some))))
