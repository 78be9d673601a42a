-- Where a row breaks: some row of the kind within the limits begins with the words before the break, and none with
-- these and the next word. Assumes nothing.
use mathlib.Core.Path.{◌≡◌, refl, sym, ◌∙◌}
use mathlib.Core.Bool.{Bool, true, false, ◌&&◌}
use mathlib.Core.List.{List, [], ◌∷◌, ◌++◌, append-nil}
use Prim.Native.Nat.{ℕ, zero, suc, ◌+◌, ◌-◌, ◌≤◌, ◌<◌}
use native.Mathlib.Nat.{le_refl}
use native.Mathlib.Omega.{arith}
use borrow.Author.Tests.{le-leb, leb-true, leb-false}
use lib.Dec.{leb, eqb}
use lib.ListN.{length, take, drop, take-append-drop}
use lib.Seq.{length-take-le}
use Rattle.tree.specs.Form.{Form, none, more, pick, between, encode}
use Rattle.tree.specs.Tag.{Sort, expr, pred, wrong, own, own_of, Tags, find, expr_tags, pred_tags, shape_of}
use Rattle.tree.specs.declared.tag.Shape.{Shape}
use Rattle.form.specs.Decode.{got, decode_all, decode, Whole, one, not-one, row_form, index_free, index_free_all, Found, found, missing, as_sort, form_of}
use Rattle.form.specs.Break.{Next, word, note, parts, never, decls_next, next_of, own_in, Open, nothing, rest, least, least_all, after, break_from, break_sort, break_either, break_at}
use Rattle.form.specs.declared.answer.Kind.{Kind}
use Rattle.form.specs.declared.answer.Kind.TheVariants.{Expression, Predicate, Either, Named}
use Rattle.form.proofs.DecodeLaws.{clash, chain-sound, decode-encode}
use Rattle.form.proofs.HeadLaws.{between_in}
use Rattle.form.proofs.RowLaws.{named-found, found-named, found-exact, found-either, row_one}
use Rattle.form.proofs.LeastLaws.{Fine, fine-word, fine-note, fine-parts, fine-never, least-of, decls-fine, flags-grow, open-note, Runs, open-word, open-nil, open-never, open-name, open-pred, open-expr}
use Rattle.form.proofs.BreakLaws.{run_room, too_many, kids-run}
use Rattle.form.proofs.RunLaws.{kids-go}
use Rattle.form.proofs.IndexLaws.{InNamed, in-true, both-in, each_in}

-- the table's own words: a count from its least on, and what follows grows with it
parts-grow : (d n p e n' p' e' : ℕ) → n ≤ n' → p ≤ p' → e ≤ e' → least d (parts n p e) ≤ least d (parts n' p' e')
unfolding least
parts-grow zero n p e n' p' e' h i j = omega arith
parts-grow (suc d) n p e n' p' e' h i j = omega arith

fine-one : (hi : ℕ) → Fine (word 0 hi (λ n. parts 0 0 0))
fine-one hi = fine-word (between_in 0 hi 0 (omega arith) (omega arith)) (λ w d t. le_refl _) (λ w. fine-parts)

fine-exprs : (m : ℕ) → m ≤ 4294967295 → Fine (word m 4294967295 (λ n. parts 0 0 n))
fine-exprs m h = fine-word (between_in m 4294967295 m (le_refl m) h) (λ w d t. let l = least-of m 4294967295 w t in parts-grow d 0 0 m 0 0 w (omega arith) (omega arith) (omega arith)) (λ w. fine-parts)

fine-preds : (m : ℕ) → m ≤ 4294967295 → Fine (word m 4294967295 (λ n. parts 0 n 0))
fine-preds m h = fine-word (between_in m 4294967295 m (le_refl m) h) (λ w d t. let l = least-of m 4294967295 w t in parts-grow d 0 m 0 0 w 0 (omega arith) (omega arith) (omega arith)) (λ w. fine-parts)

fine-bound : (e : ℕ) → Fine (word 1 32 (λ n. parts n 1 e))
fine-bound e = fine-word refl (λ w d t. let l = least-of 1 32 w t in parts-grow d 1 1 e w 1 e (omega arith) (omega arith) (omega arith)) (λ w. fine-parts)

fine-flags : (e : ℕ) → Fine (word 1 32 (λ n. decls_next false n 1 e))
fine-flags e = fine-word refl (λ w d t. flags-grow d 1 e w (least-of 1 32 w t)) (λ w. decls-fine false w 1 e)

data FineTags : Tags → Type 0 where
  no-tags : FineTags []
  a-tag : {e : ℕ × ℕ × Shape} {es : Tags} → Fine (next_of (own_of e.2)) → FineTags es → FineTags (e ∷ es)

pick-fine : (b : Bool) (x y : Shape) → Fine (next_of (own_of x)) → Fine (next_of (own_of y)) → Fine (next_of (own_of (pick b x y)))
pick-fine true x y f g = f
pick-fine false x y f g = g

find-fine : {es : Tags} → FineTags es → (t : ℕ) → Fine (next_of (own_of (find es t)))
unfolding own_of next_of
find-fine no-tags t = fine-never
find-fine (a-tag {e} {es} f g) t = pick-fine (leb e.0 t) (pick (leb t e.1) e.2 (find es t)) (find es t) (pick-fine (leb t e.1) e.2 (find es t) f (find-fine g t)) (find-fine g t)

pub own-fine : (s : Sort) (t : ℕ) → Fine (next_of (own s t))
unfolding own shape_of expr_tags pred_tags own_of next_of
own-fine expr t =
    find-fine
    (a-tag (fine-one 65535)
    (a-tag (fine-one 4294967295)
    (a-tag (fine-exprs 0 (omega arith))
    (a-tag fine-parts
    (a-tag fine-parts
    (a-tag fine-parts
    (a-tag (fine-exprs 2 (omega arith))
    (a-tag fine-parts
    (a-tag fine-parts
    (a-tag fine-parts
    (a-tag (fine-word refl (λ w d t. le_refl _) (λ w. fine-bound 1))
    (a-tag (fine-word refl (λ w d t. le_refl _) (λ w. fine-flags 1))
    no-tags))))))))))))
    t
own-fine pred t =
    find-fine
    (a-tag (fine-one 65535)
    (a-tag fine-parts
    (a-tag fine-parts
    (a-tag (fine-exprs 1 (omega arith))
    (a-tag (fine-word refl (λ w d t. le_refl _) (λ w. fine-exprs 0 (omega arith)))
    (a-tag fine-parts
    (a-tag fine-parts
    (a-tag (fine-preds 2 (omega arith))
    (a-tag fine-parts
    (a-tag (fine-bound 0)
    (a-tag (fine-flags 0)
    no-tags)))))))))))
    t

own-in-fine : (named : Bool) (s : Sort) (t : ℕ) → Fine (next_of (own_in named s t))
unfolding next_of
own-in-fine named s t = go (named && eqb t 2)
  where
    go : (b : Bool) → Fine (next_of (pick b wrong (own s t)))
    go true = fine-never
    go false = own-fine s t

-- all that is open is of the table
pub data Good : Open → Type 0 where
  good_none : Good nothing
  good-rest : (d : ℕ) (o : Next) (x : Open) → Fine o → Good x → Good (rest d o x)

module _ (named : Bool) (z : ℕ → Next) (fz : (w : ℕ) → Fine (z w)) where
  in-fine : (b : Bool) (o : Next) → Fine o → Fine (pick b o never)
  in-fine true o f = f
  in-fine false o f = fine-never

  after-good : {x : Open} → Good x → (w : ℕ) → Good (after named z x w)
  unfolding after
  after-good good_none w = good-rest _ _ _ (fz w) good_none
  after-good (good-rest d (word lo hi k) x (fine-word u v f) g) w = good-rest _ _ _ (in-fine (between lo hi w) (k w) (f w)) g
  after-good (good-rest d (note k) x (fine-note f) g) w = good-rest _ _ _ (own-in-fine named expr w) (good-rest _ _ _ f g)
  after-good (good-rest d (parts (suc n) p e) x f g) w = good-rest _ _ _ (in-fine (between 0 65535 w) (parts n p e) fine-parts) g
  after-good (good-rest d (parts zero (suc p) e) x f g) w = good-rest _ _ _ (own-in-fine named pred w) (good-rest _ _ _ fine-parts g)
  after-good (good-rest d (parts zero zero (suc e)) x f g) w = good-rest _ _ _ (own-in-fine named expr w) (good-rest _ _ _ fine-parts g)
  after-good (good-rest d (parts zero zero zero) x f g) w = after-good g w
  after-good (good-rest d never x f g) w = good-rest _ _ _ fine-never g

  open_none : least_all nothing ≡ 0
  unfolding least_all
  open_none = refl

  no-leaf : (named && false) ≡ false
  no-leaf = go named
    where
      go : (b : Bool) → (b && false) ≡ false
      go true = refl
      go false = refl

  -- a word after which one word fewer must come
  next_word : {x : Open} → Good x → (m : ℕ) → least_all x ≡ suc m → suc m ≤ 8192 → (w : ℕ) × (least_all (after named z x w) ≡ m)
  unfolding after next_of own own_of shape_of expr_tags pred_tags
  next_word good_none m e h = absurd (let q = open_none in omega arith)
  next_word (good-rest d (word lo hi k) x (fine-word u v f) g) m e h = let q = open-word d x lo hi k in (lo, rw u (omega arith))
  next_word (good-rest zero (note k) x f g) m q h = let r = open-note zero x k in absurd (omega arith)
  next_word (good-rest (suc d) (note k) x f g) m q h = let r = open-note (suc d) x k in let s = open-nil (suc d - 1) (rest (suc d) k x) in (401, rw no-leaf (omega arith))
  next_word (good-rest d (parts (suc n) p e) x f g) m q h = let r = open-name d x n p e in (0, omega arith)
  next_word (good-rest zero (parts zero (suc p) e) x f g) m q h = let r = open-pred zero x p e in absurd (omega arith)
  next_word (good-rest (suc d) (parts zero (suc p) e) x f g) m q h = let r = open-pred (suc d) x p e in let s = open-nil (suc d - 1) (rest (suc d) (parts zero p e) x) in (610, rw no-leaf (omega arith))
  next_word (good-rest zero (parts zero zero (suc e)) x f g) m q h = let r = open-expr zero x e in absurd (omega arith)
  next_word (good-rest (suc d) (parts zero zero (suc e)) x f g) m q h = let r = open-expr (suc d) x e in let s = open-nil (suc d - 1) (rest (suc d) (parts zero zero e) x) in (401, rw no-leaf (omega arith))
  next_word (good-rest d (parts zero zero zero) x f g) m q h = next_word g m (sym (open-nil d x) ∙ q) h
  next_word (good-rest d never x f g) m q h = let r = open-never d x in absurd (omega arith)

  fill : (m at : ℕ) {x : Open} → Good x → least_all x ≡ m → at + m ≤ 8192 → (v : List ℕ) × Runs named z at x v
  unfolding Runs
  fill zero at g e h = ([], (omega arith, e))
  fill (suc m) at {x} g e h =
      let (w, q) = next_word g m e (omega arith) in
      let (v, r) = fill m (suc at) (after-good g w) q (omega arith) in
      (w ∷ v, (omega arith, r))

  -- the words before the break can go on
  pub break-from : (at : ℕ) (x : Open) (ws : List ℕ) → at ≤ break_from named z at x ws
  unfolding break_from
  break-from at x [] = le_refl at
  break-from at x (w ∷ ws) = go (leb (suc at + least_all (after named z x w)) 8192) (break-from (suc at) (after named z x w) ws)
    where
      go : (b : Bool) → suc at ≤ break_from named z (suc at) (after named z x w) ws → at ≤ pick b (break_from named z (suc at) (after named z x w) ws) at
      go true h = omega arith
      go false h = le_refl at

  pub goes_on : (ws : List ℕ) (at : ℕ) (x : Open) → Good x → at + least_all x ≤ 8192 → (m : ℕ) → break_from named z at x ws ≡ at + m → (v : List ℕ) × Runs named z at x (take m ws ++ v)
  unfolding break_from Runs
  goes_on [] at x g h zero e = fill (least_all x) at g refl h
  goes_on [] at x g h (suc m) e = absurd (omega arith)
  goes_on (w ∷ ws) at x g h m e = go (leb (suc at + least_all (after named z x w)) 8192) refl m e (λ k l q. goes_on ws (suc at) (after named z x w) (after-good g w) k l q)
    where
      go : (b : Bool) → leb (suc at + least_all (after named z x w)) 8192 ≡ b → (m : ℕ) → pick b (break_from named z (suc at) (after named z x w) ws) at ≡ at + m
          → (suc at + least_all (after named z x w) ≤ 8192 → (l : ℕ) → break_from named z (suc at) (after named z x w) ws ≡ suc at + l → (v : List ℕ) × Runs named z (suc at) (after named z x w) (take l ws ++ v))
          → (v : List ℕ) × Runs named z at x (take m (w ∷ ws) ++ v)
      go true q zero e f = let k = break-from (suc at) (after named z x w) ws in absurd (omega arith)
      go true q (suc m) e f =
          let (v, r) = f (leb-true (suc at + least_all (after named z x w)) 8192 q) m (omega arith) in
          (v, (h, r))
      go false q zero e f = fill (least_all x) at g refl h
      go false q (suc m) e f = absurd (omega arith)

  -- with the next word they cannot
  pub run-prefix : (u v y : List ℕ) (at : ℕ) (x : Open) → Runs named z at x (u ++ v) → at + length u ≤ break_from named z at x (u ++ y)
  unfolding break_from Runs
  run-prefix [] v y at x r = let h = break-from at x y in omega arith
  run-prefix (w ∷ u) v y at x r =
      let h = run_room named z (suc at) (after named z x w) (u ++ v) r.1 in
      rw (le-leb (suc at + least_all (after named z x w)) 8192 h) (let k = run-prefix u v y (suc at) (after named z x w) r.1 in omega arith)

-- a row is one form of the sort exactly where it runs
abbrev start : Sort → Open
start s = rest 64 (elim s [ expr ↦ parts 0 0 1 | pred ↦ parts 0 1 0 ]) nothing

abbrev none_after : ℕ → Next
none_after w = never

pub run_length : (named : Bool) (z : ℕ → Next) (at : ℕ) (x : Open) (ws : List ℕ) → Runs named z at x ws → at + length ws ≤ 8192
unfolding Runs
run_length named z at x [] r = let h = r.0 in omega arith
run_length named z at x (w ∷ ws) r = let h = run_length named z (suc at) (after named z x w) ws r.1 in omega arith

run_end : (named : Bool) (at : ℕ) (ws : List ℕ) → Runs named none_after at nothing ws → ws ≡ []
unfolding Runs after
run_end named at [] r = refl
run_end named at (w ∷ ws) r = absurd (too_many named none_after (suc at) 64 nothing ws r.1)

one-decode : (s : Sort) (row : List ℕ) (f : Form) → row_form s row ≡ one f → (length row ≤ 8192) × (decode 64 s row ≡ got f [])
one-decode s row f e =
    let (l, w, k) = row_one s row f e in
    (l, rw (w, ← append-nil (encode f)) (decode-encode k []))

decode-one : (s : Sort) (row : List ℕ) (f : Form) → length row ≤ 8192 → decode 64 s row ≡ got f [] → row_form s row ≡ one f
unfolding row_form
decode-one s row f l e = rw (le-leb (length row) 8192 l, e)

one-runs : (named : Bool) (s : Sort) (row : List ℕ) (f : Form) → row_form s row ≡ one f → InNamed named (index_free f) → Runs named none_after 0 (start s) row
unfolding decode_all Runs least_all index_free
one-runs named expr row f e t =
    let (l, q) = one-decode expr row f e in
    kids-go named none_after own-fine 64 0 1 nothing row (more f none) [] (rw q) (both-in named (index_free f) true t (in-true named)) 0 (length row) (omega arith) (l, refl)
one-runs named pred row f e t =
    let (l, q) = one-decode pred row f e in
    kids-go named none_after own-fine 64 1 0 nothing row (more f none) [] (rw q) (both-in named (index_free f) true t (in-true named)) 0 (length row) (omega arith) (l, refl)

runs-one : (named : Bool) (s : Sort) (row : List ℕ) → Runs named none_after 0 (start s) row → (f : Form) × (row_form s row ≡ one f) × InNamed named (index_free f)
unfolding decode_all index_free
runs-one named expr row r =
    let g = kids-run named none_after 64 0 1 nothing 0 row r in
    let i = run_end named g.at g.left g.runs in
    let (f, fs, y, a, b, q) = chain-sound (decode 64 expr row) (λ r. decode_all (λ s l. decode 64 s l) [] r) g.forms g.left g.is in
    let j : y ≡ [] = cc in
    let l = run_length named none_after 0 (start expr) row r in
    (f, decode-one expr row f (omega arith) (rw j at a), (each_in named (index_free f) (index_free_all fs) (rw (← q) at g.free)).0)
runs-one named pred row r =
    let g = kids-run named none_after 64 1 0 nothing 0 row r in
    let i = run_end named g.at g.left g.runs in
    let (f, fs, y, a, b, q) = chain-sound (decode 64 pred row) (λ r. decode_all (λ s l. decode 64 s l) [] r) g.forms g.left g.is in
    let j : y ≡ [] = cc in
    let l = run_length named none_after 0 (start pred) row r in
    (f, decode-one pred row f (omega arith) (rw j at a), (each_in named (index_free f) (index_free_all fs) (rw (← q) at g.free)).0)

good_start : (s : Sort) → Good (start s)
good_start expr = good-rest _ _ _ fine-parts good_none
good_start pred = good-rest _ _ _ fine-parts good_none

least_start : (s : Sort) → 0 + least_all (start s) ≤ 8192
unfolding least_all least
least_start expr = omega arith
least_start pred = omega arith

-- some form of the sort begins with the words before the break, in a named row one without indices
pub sort-goes-on : (named : Bool) (s : Sort) (row : List ℕ) → (v : List ℕ) × (f : Form) × (row_form s (take (break_sort named s row) row ++ v) ≡ one f) × InNamed named (index_free f)
sort-goes-on named s row =
    let (v, r) = goes_on named none_after (λ w. fine-never) row 0 (start s) (good_start s) (least_start s) (break_sort named s row) (omega arith) in
    let (f, e, t) = runs-one named s (take (break_sort named s row) row ++ v) r in
    (v, f, e, t)

-- and no more of the row's words can begin one
pub sort-stops : (named : Bool) (s : Sort) (row : List ℕ) (n : ℕ) (v : List ℕ) (f : Form) → n ≤ length row → row_form s (take n row ++ v) ≡ one f → InNamed named (index_free f)
    → n ≤ break_sort named s row
sort-stops named s row n v f h e t =
    let r = run-prefix named none_after (λ w. fine-never) (take n row) v (drop n row) 0 (start s) (one-runs named s (take n row ++ v) f e t) in
    let k = rw (take-append-drop n row) at r in
    let l = length-take-le n row h in
    omega arith

-- the kinds of forms
either-goes-on : (named : Bool) (row : List ℕ)
    → (v : List ℕ) × (s : Sort) × (f : Form) × (form_of Either (take (break_either named row) row ++ v) ≡ found s f) × InNamed named (index_free f)
either-goes-on named row = by (leb (break_sort named expr row) (break_sort named pred row))
  where
    by : (b : Bool)
        → (v : List ℕ) × (s : Sort) × (f : Form) × (form_of Either (take (pick b (break_sort named pred row) (break_sort named expr row)) row ++ v) ≡ found s f) × InNamed named (index_free f)
    by true = let (v, f, e, t) = sort-goes-on named pred row in (v, pred, f, found-either _ pred f e, t)
    by false = let (v, f, e, t) = sort-goes-on named expr row in (v, expr, f, found-either _ expr f e, t)

-- some row of the kind begins with the words before the break
pub row-goes-on : (kind : Kind) (row : List ℕ) → (v : List ℕ) × (s : Sort) × (f : Form) × (form_of kind (take (break_at kind row) row ++ v) ≡ found s f)
unfolding break_at form_of
row-goes-on Expression row = let (v, f, e, t) = sort-goes-on false expr row in (v, expr, f, rw e)
row-goes-on Predicate row = let (v, f, e, t) = sort-goes-on false pred row in (v, pred, f, rw e)
row-goes-on Either row = let (v, s, f, e, t) = either-goes-on false row in (v, s, f, e)
row-goes-on Named row = let (v, s, f, e, t) = either-goes-on true row in (v, s, f, found-named _ s f e t)

pub of-sort : (s s' : Sort) (w : Whole) (f : Form) → as_sort s w ≡ found s' f → s ≡ s'
of-sort s s' (one g) f e = cc
of-sort s s' not-one f e = absurd (clash cc)

later : (a b : ℕ) → (a ≤ pick (leb a b) b a) × (b ≤ pick (leb a b) b a)
later a b = go (leb a b) refl
  where
    go : (c : Bool) → leb a b ≡ c → (a ≤ pick c b a) × (b ≤ pick c b a)
    go true q = (leb-true a b q, le_refl b)
    go false q = let h = leb-false a b q in (le_refl a, omega arith)

either-sooner : (named : Bool) (s : Sort) (row : List ℕ) → break_sort named s row ≤ break_either named row
either-sooner named expr row = (later (break_sort named expr row) (break_sort named pred row)).0
either-sooner named pred row = (later (break_sort named expr row) (break_sort named pred row)).1

-- a kind's row breaks no sooner than those of its sorts; in a row of the named kind no index stands
abbrev is_named : Kind → Bool
is_named Expression = false
is_named Predicate = false
is_named Either = false
is_named Named = true

sort-sooner : (kind : Kind) (row r : List ℕ) (s : Sort) (f : Form) → form_of kind r ≡ found s f → break_sort (is_named kind) s row ≤ break_at kind row
unfolding form_of break_at
sort-sooner Expression row r s f e = rw (← of-sort expr s (row_form expr r) f e) (le_refl _)
sort-sooner Predicate row r s f e = rw (← of-sort pred s (row_form pred r) f e) (le_refl _)
sort-sooner Either row r s f e = either-sooner false s row
sort-sooner Named row r s f e = either-sooner true s row

found-free : (kind : Kind) (row : List ℕ) (s : Sort) (f : Form) → form_of kind row ≡ found s f → InNamed (is_named kind) (index_free f)
found-free Expression row s f e = refl
found-free Predicate row s f e = refl
found-free Either row s f e = refl
found-free Named row s f e = (named-found row s f e).1

-- no row of the kind begins with these and the next word
pub row-breaks : (kind : Kind) (row : List ℕ) → break_at kind row < length row → (v : List ℕ) → form_of kind (take (suc (break_at kind row)) row ++ v) ≡ missing
row-breaks kind row h v = go (form_of kind (take (suc (break_at kind row)) row ++ v)) refl
  where
    go : (o : Found) → form_of kind (take (suc (break_at kind row)) row ++ v) ≡ o → o ≡ missing
    go missing e = refl
    go (found s f) e =
        let longer = take (suc (break_at kind row)) row ++ v in
        let k = sort-stops (is_named kind) s row (suc (break_at kind row)) v f (omega arith) (found-exact kind longer s f e) (found-free kind longer s f e) in
        let l = sort-sooner kind row longer s f e in
        absurd (omega arith)
