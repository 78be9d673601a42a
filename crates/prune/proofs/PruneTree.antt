-- Prune on trees: what stands at unused places does not matter, and the result is within the limits. Assumes nothing.
use mathlib.Core.Path.{◌≡◌, refl, ap, sym, ◌∙◌}
use mathlib.Core.Bool.{Bool, true, false, not, ◌&&◌}
use mathlib.Core.List.{List, [], ◌∷◌, ◌++◌, map, reverse, reverse-cons}
use Prim.Native.Nat.{ℕ, zero, suc, ◌+◌, ◌≤◌}
use native.Mathlib.Omega.{arith}
use borrow.Author.Tests.{eq-eqb, le-leb, leb-true}
use lib.Dec.{eqb, leb}
use lib.ListN.{length, length-append, length-reverse}
use Rattle.tree.specs.Form.{Leaf, free, bound, Form, leaf, pick, encode}
use Rattle.tree.specs.Tag.{pred}
use Rattle.form.specs.Break.{break_at}
use Rattle.form.specs.Decode.{Whole, one, not-one, row_form, as_sort, form_of}
use Rattle.form.specs.Lists.{Place, kept, filled}
use Rattle.form.specs.Answer.{Outcome, answer, stop, of_found, needs, is_one, finish}
use Rattle.form.specs.declared.answer.Kind.TheVariants.{Predicate}
use Rattle.form.proofs.DecodeLaws.{clash, Ok}
use Rattle.form.proofs.RowLaws.{row-exact, row-encode}
use Rattle.rules.specs.Walk.{Outer, named, dangling, walk, put, subst, each}
use Rattle.rules.proofs.WalkLaws.{and_left, and_right, always, each-agree, each-always, each_same, each-all, walk-agree}
use Rattle.rules.proofs.LimitLaws.{small, ok-small, fine_leaf, walk-length}
use Rattle.rules.specs.Fill.{Decl, kept_count, kept_decls, fill_index, fill_for, fill, quantify, Quantified, quantifier, other, of_quantified, quantified}
use Rattle.rules.specs.Prune.{is_not, unused, used_places, prune, prune_outcome}
use Rattle.rules.proofs.OkLaws.{ok-walk}
use Rattle.replace.proofs.FillTree.{kept-reverse}
use Rattle.shift.proofs.AroundLaws.{head_of, encode-around, Quant, quant-of}
use Rattle.decls.proofs.DeclLaws.{GoodDecls, good-kept, few-kept, decls-ok, around-good, head-long, decls-words}
use Rattle.form.specs.Refusal.{number_of}
use Rattle.form.specs.declared.answer.Refusal.TheVariants.{TooLong, NotQuantified, OutOfLimits, NothingToRewrite, OutputTooShort}

pub used-length : (ns : List Decl) (f : Form) → length (used_places ns f) ≡ length ns
used-length [] f = refl
used-length (n ∷ ns) f = ap suc (used-length ns f)

-- the index that a kept declaration, or one outside, gets: the places from the innermost outwards
abbrev pub rank : ℕ → ℕ → List Place → ℕ → ℕ
rank m c [] j = m + j
rank m c (p ∷ ps) zero = c
rank m c (kept ∷ ps) (suc j) = rank m (suc c) ps j
rank m c (filled x ∷ ps) (suc j) = rank m c ps j

abbrev kept_at : List Place → ℕ → Bool
kept_at [] j = true
kept_at (kept ∷ ps) zero = true
kept_at (filled x ∷ ps) zero = false
kept_at (p ∷ ps) (suc j) = kept_at ps j

rank_is : (m c : ℕ) (ps : List Place) (j : ℕ) → kept_at ps j ≡ true → fill_index m c ps j ≡ leaf (bound (rank m c ps j))
rank_is m c [] j h = refl
rank_is m c (kept ∷ ps) zero h = refl
rank_is m c (filled x ∷ ps) zero h = absurd (clash cc)
rank_is m c (kept ∷ ps) (suc j) h = rank_is m (suc c) ps j h
rank_is m c (filled x ∷ ps) (suc j) h = rank_is m c ps j h

rank-low : (m c : ℕ) (ps : List Place) (j : ℕ) → m ≤ c + kept_count ps → rank m c ps j ≤ c + j
rank-low m c [] j h = omega arith
rank-low m c (p ∷ ps) zero h = omega arith
rank-low m c (kept ∷ ps) (suc j) h = let l = rank-low m (suc c) ps j (omega arith) in omega arith
rank-low m c (filled x ∷ ps) (suc j) h = let l = rank-low m c ps j h in omega arith

-- an identifier that names no filled place
abbrev stays_in : List Place → ℕ → Outer → Bool
stays_in qs k (named m) = true
stays_in qs k (dangling j) = kept_at qs j

-- one place more at the outside
kept_more : (qs : List Place) (x : Form) (j : ℕ) → kept_at qs j ≡ true → (length qs ≡ j → ⊥) → kept_at (qs ++ (filled x ∷ [])) j ≡ true
kept_more [] x zero h n = absurd (n refl)
kept_more [] x (suc j) h n = refl
kept_more (kept ∷ qs) x zero h n = refl
kept_more (filled y ∷ qs) x zero h n = absurd (clash cc)
kept_more (kept ∷ qs) x (suc j) h n = kept_more qs x j h (λ e. n (ap suc e))
kept_more (filled y ∷ qs) x (suc j) h n = kept_more qs x j h (λ e. n (ap suc e))

kept_same : (qs : List Place) (j : ℕ) → kept_at qs j ≡ true → kept_at (qs ++ (kept ∷ [])) j ≡ true
kept_same [] zero h = refl
kept_same [] (suc j) h = refl
kept_same (kept ∷ qs) zero h = refl
kept_same (filled y ∷ qs) zero h = absurd (clash cc)
kept_same (kept ∷ qs) (suc j) h = kept_same qs j h
kept_same (filled y ∷ qs) (suc j) h = kept_same qs j h

differ : (i j : ℕ) → not (eqb i j) ≡ true → i ≡ j → ⊥
differ i j h e = let z : not true ≡ true = rw (eq-eqb i j e) at h in clash (ap bit_of z)
  where
    bit_of : Bool → ℕ
    bit_of true = 1
    bit_of false = 0

abbrev both : (ℕ → Outer → Bool) → (ℕ → Outer → Bool) → ℕ → Outer → Bool
both p q k x = p k x && q k x

each_both : (p q : ℕ → Outer → Bool) (k : ℕ) (f : Form) → each p k f ≡ true → each q k f ≡ true → each (both p q) k f ≡ true
each_both p q k f a b = each-agree p (both p q) q (λ k x h. rw h) k f a ∙ b

stays-filled : (qs : List Place) (x : Form) (k : ℕ) (y : Outer) → both (stays_in qs) (is_not (length qs)) k y ≡ true → stays_in (qs ++ (filled x ∷ [])) k y ≡ true
stays-filled qs x k (named m) h = refl
stays-filled qs x k (dangling j) h =
    kept_more qs x j (and_left (kept_at qs j) (not (eqb (length qs) j)) h) (differ (length qs) j (and_right (kept_at qs j) (not (eqb (length qs) j)) h))

stays-kept : (qs : List Place) (k : ℕ) (y : Outer) → stays_in qs k y ≡ true → stays_in (qs ++ (kept ∷ [])) k y ≡ true
stays-kept qs k (named m) h = refl
stays-kept qs k (dangling j) h = kept_same qs j h

stays-none : (k : ℕ) (y : Outer) → stays_in [] k y ≡ always k y
stays-none k (named m) = refl
stays-none k (dangling j) = refl

stays-more : (qs : List Place) (f : Form) (b : Bool) → unused (length qs) f ≡ b → each (stays_in qs) 0 f ≡ true → each (stays_in (qs ++ (pick b (filled (leaf (free 0))) kept ∷ []))) 0 f ≡ true
stays-more qs f true h g =
    each-all (both (stays_in qs) (is_not (length qs))) (stays_in (qs ++ (filled (leaf (free 0)) ∷ []))) (stays-filled qs (leaf (free 0))) 0 f (each_both (stays_in qs) (is_not (length qs)) 0 f g h)
stays-more qs f false h g = each-all (stays_in qs) (stays_in (qs ++ (kept ∷ []))) (stays-kept qs) 0 f g

-- the body names no place that prune fills
used-stays : (ns : List Decl) (f : Form) → each (stays_in (reverse (used_places ns f))) 0 f ≡ true
used-stays [] f = each_same (stays_in []) always stays-none 0 f ∙ each-always 0 f
used-stays (n ∷ ns) f =
    let long : length (reverse (used_places ns f)) ≡ length ns = length-reverse (used_places ns f) ∙ used-length ns f in
    rw (reverse-cons (pick (unused (length ns) f) (filled (leaf (free 0))) kept) (used_places ns f))
    (stays-more (reverse (used_places ns f)) f (unused (length ns) f) (ap (λ z. unused z f) long) (used-stays ns f))

-- such a body is only renumbered
abbrev pub ranked : List Place → ℕ → Outer → Leaf
ranked ps k (named m) = free m
ranked ps k (dangling j) = bound (k + rank (kept_count ps) 0 (reverse ps) j)

fill-ranked : (ps : List Place) (k : ℕ) (x : Outer) → stays_in (reverse ps) k x ≡ true → put (fill_for ps) k x ≡ leaf (ranked ps k x)
unfolding walk
fill-ranked ps k (named m) h = refl
fill-ranked ps k (dangling j) h = rw (rank_is (kept_count ps) 0 (reverse ps) j h) (ap (λ z. leaf (bound z)) (omega arith))

subst-ranked : (ps : List Place) (f : Form) → each (stays_in (reverse ps)) 0 f ≡ true → subst (fill_for ps) f ≡ walk (λ k x. leaf (ranked ps k x)) 0 f
subst-ranked ps f h = walk-agree (stays_in (reverse ps)) (put (fill_for ps)) (λ k x. leaf (ranked ps k x)) (fill-ranked ps) 0 f h

-- what stands at a filled place
abbrev pub emptied : Place → Place
emptied kept = kept
emptied (filled x) = filled (leaf (free 0))

emptied-append : (ps qs : List Place) → map emptied (ps ++ qs) ≡ map emptied ps ++ map emptied qs
emptied-append [] qs = refl
emptied-append (p ∷ ps) qs = ap (λ z. emptied p ∷ z) (emptied-append ps qs)

emptied-reverse : (ps : List Place) → reverse (map emptied ps) ≡ map emptied (reverse ps)
emptied-reverse [] = refl
emptied-reverse (p ∷ ps) = rw (reverse-cons (emptied p) (map emptied ps), reverse-cons p ps, emptied-append (reverse ps) (p ∷ []), emptied-reverse ps)

emptied-at : (qs : List Place) (j : ℕ) → kept_at (map emptied qs) j ≡ kept_at qs j
emptied-at [] j = refl
emptied-at (kept ∷ qs) zero = refl
emptied-at (filled x ∷ qs) zero = refl
emptied-at (kept ∷ qs) (suc j) = emptied-at qs j
emptied-at (filled x ∷ qs) (suc j) = emptied-at qs j

emptied-rank : (m c : ℕ) (qs : List Place) (j : ℕ) → rank m c (map emptied qs) j ≡ rank m c qs j
emptied-rank m c [] j = refl
emptied-rank m c (kept ∷ qs) zero = refl
emptied-rank m c (filled x ∷ qs) zero = refl
emptied-rank m c (kept ∷ qs) (suc j) = emptied-rank m (suc c) qs j
emptied-rank m c (filled x ∷ qs) (suc j) = emptied-rank m c qs j

emptied-count : (ps : List Place) → kept_count (map emptied ps) ≡ kept_count ps
emptied-count [] = refl
emptied-count (kept ∷ ps) = ap suc (emptied-count ps)
emptied-count (filled x ∷ ps) = emptied-count ps

emptied-names : (ps : List Place) (ns : List Decl) → kept_decls (map emptied ps) ns ≡ kept_decls ps ns
emptied-names [] ns = refl
emptied-names (kept ∷ ps) [] = refl
emptied-names (filled x ∷ ps) [] = refl
emptied-names (kept ∷ ps) (n ∷ ns) = ap (λ z. n ∷ z) (emptied-names ps ns)
emptied-names (filled x ∷ ps) (n ∷ ns) = emptied-names ps ns

emptied-stays : (ps : List Place) (k : ℕ) (x : Outer) → stays_in (reverse (map emptied ps)) k x ≡ stays_in (reverse ps) k x
emptied-stays ps k (named m) = refl
emptied-stays ps k (dangling j) = rw (emptied-reverse ps) (emptied-at (reverse ps) j)

emptied-ranked : (ps : List Place) (k : ℕ) (x : Outer) → ranked (map emptied ps) k x ≡ ranked ps k x
emptied-ranked ps k (named m) = refl
emptied-ranked ps k (dangling j) = rw (emptied-reverse ps, emptied-count ps, emptied-rank (kept_count ps) 0 (reverse ps) j)

-- prune is a fill of the unused places, with whatever expressions
pub prune-any : (t : ℕ) (ns : List Decl) (f : Form) (ps : List Place) → map emptied ps ≡ used_places ns f → fill t ns ps f ≡ prune t ns f
unfolding fill prune
prune-any t ns f ps e =
    let stays : each (stays_in (reverse (map emptied ps))) 0 f ≡ true = rw (sym e) at (used-stays ns f) in
    let here : each (stays_in (reverse ps)) 0 f ≡ true = sym (each_same (stays_in (reverse (map emptied ps))) (stays_in (reverse ps)) (emptied-stays ps) 0 f) ∙ stays in
    let a = subst-ranked ps f here in
    let b = subst-ranked (map emptied ps) f stays in
    let c : walk (λ k x. leaf (ranked ps k x)) 0 f ≡ walk (λ k x. leaf (ranked (map emptied ps) k x)) 0 f
    = walk-agree always (λ k x. leaf (ranked ps k x)) (λ k x. leaf (ranked (map emptied ps) k x)) (λ k x h. ap leaf (sym (emptied-ranked ps k x))) 0 f (each-always 0 f) in
    rw (sym e) (ap (λ z. quantify t z (subst (fill_for ps) f)) (sym (emptied-names ps ns)) ∙ ap (λ z. quantify t (kept_decls (map emptied ps) ns) z) (a ∙ (c ∙ sym b)))

-- the numbers of the renumbered body are small
ranked-small : (ps : List Place) (k : ℕ) (x : Outer) → small k x ≡ true → fine_leaf (ranked ps k x) ≡ true
ranked-small ps k (named m) h = h
ranked-small ps k (dangling j) h =
    let l = rank-low (kept_count ps) 0 (reverse ps) j (rw (kept-reverse ps) (omega arith)) in
    let b = leb-true (k + j) 65535 (and_right (leb 0 (k + j)) (leb (k + j) 65535) h) in
    rw (le-leb 0 (k + rank (kept_count ps) 0 (reverse ps) j) (omega arith), le-leb (k + rank (kept_count ps) 0 (reverse ps) j) 65535 (omega arith))

-- the result of prune is within the limits, so 7 cannot arise
module _ (f : Form) (ok : Ok 64 pred f) (short : length (encode f) ≤ 8192) (q : Quant 63 f) where
  abbrev ps : List Place
  ps = used_places q.decls q.body

  pub body_is : subst (fill_for ps) q.body ≡ walk (λ k x. leaf (ranked ps k x)) 0 q.body
  body_is = subst-ranked ps q.body (used-stays q.decls q.body)

  body_ok : Ok 63 pred (walk (λ k x. leaf (ranked ps k x)) 0 q.body)
  body_ok =
      ok-walk (λ k x. leaf (ranked ps k x)) (ranked ps) (λ k x. refl) q.ok 0
      (each-all small (λ k x. fine_leaf (ranked ps k x)) (ranked-small ps) 0 q.body (ok-small q.ok 0))

  body-long : length (encode (walk (λ k x. leaf (ranked ps k x)) 0 q.body)) ≡ length (encode q.body)
  body-long = walk-length (λ k x. leaf (ranked ps k x)) (ranked ps) (λ k x. refl) 0 q.body

  form-long : length (encode f) ≡ length (head_of q.op q.decls) + length (encode q.body)
  form-long = ap (λ z. length (encode z)) q.form ∙ (ap length (encode-around q.op 0 q.decls q.body) ∙ length-append (head_of q.op q.decls) (encode q.body))

  pub prune-ok : Ok 64 pred (prune q.op q.decls q.body)
  unfolding prune fill
  prune-ok =
      let l = few-kept ps q.decls in
      let m = q.most in
      let g : GoodDecls q.decls = around-good q.op q.which q.body q.decls (rw q.form at ok) in
      rw body_is (decls-ok q.op q.which _ (kept_decls ps q.decls) (good-kept ps q.decls g) (omega arith) body_ok)

  pub prune-long : length (encode (prune q.op q.decls q.body)) ≤ 8192
  unfolding prune fill
  prune-long =
      let l = head-long q.op ps q.decls in
      let a = decls-words q.op (kept_decls ps q.decls) (walk (λ k x. leaf (ranked ps k x)) 0 q.body) in
      let b = body-long in
      let c = form-long in
      rw body_is (omega arith)

  pub prune-inside : is_one (row_form pred (encode (prune q.op q.decls q.body))) ≡ true
  prune-inside = ap is_one (row-encode prune-ok prune-long)

-- no row and no output row make prune refuse by 7
abbrev code : Outcome → ℕ
code (answer ws) = 0
code (stop n) = number_of n

code-room : (b : Bool) (ws : List ℕ) → code (needs OutputTooShort b (answer ws)) ≡ 7 → ⊥
code-room true ws h = omega arith
code-room false ws h = omega arith

code-finish : (b : Bool) (room : ℕ) (g : Form) → is_one (row_form pred (encode g)) ≡ true → code (needs NothingToRewrite b (finish pred room g)) ≡ 7 → ⊥
unfolding finish
code-finish true room g o h = code-room (leb (length (encode g)) room) (encode g) (rw o at h)
code-finish false room g o h = omega arith

abbrev pruned : ℕ → Form → Outcome
pruned room f = of_quantified (λ t ns b. needs NothingToRewrite (not (eqb (kept_count (used_places ns b)) (length ns))) (finish pred room (prune t ns b))) NotQuantified (quantified f)

code-form : (room : ℕ) (f : Form) → Ok 64 pred f → length (encode f) ≤ 8192 → code (pruned room f) ≡ 7 → ⊥
code-form room f ok short h = go (quantified f) refl
  where
    go : (z : Quantified) → quantified f ≡ z → ⊥
    go other e = let z : code (stop NotQuantified) ≡ 7 = rw e at h in omega arith
    go (quantifier t ds b) e =
        let q = quant-of ok t ds b e in
        code-finish (not (eqb (kept_count (used_places q.decls q.body)) (length q.decls))) room (prune q.op q.decls q.body) (prune-inside f ok short q) (rw q.is at h)

code_row : (row : List ℕ) (room : ℕ) (w : Whole) → row_form pred row ≡ w → length row ≤ 8192 → code (of_found (break_at Predicate row) (λ s f. pruned room f) (as_sort pred w)) ≡ 7 → ⊥
code_row row room not-one e short h = omega arith
code_row row room (one f) e short h =
    let (words, ok) = row-exact pred row f e in
    code-form room f ok (rw words at short) h

code-within : (row : List ℕ) (room : ℕ) (b : Bool) → leb (length row) 8192 ≡ b → code (pick b (of_found (break_at Predicate row) (λ s f. pruned room f) (form_of Predicate row)) (stop TooLong)) ≡ 7 → ⊥
unfolding form_of
code-within row room true e h = code_row row room (row_form pred row) refl (leb-true (length row) 8192 e) h
code-within row room false e h = omega arith

pub prune-never-7 : (row : List ℕ) (room : ℕ) → prune_outcome row room ≡ stop OutOfLimits → ⊥
unfolding prune_outcome
prune-never-7 row room h = code-within row room (leb (length row) 8192) refl (ap code h)
