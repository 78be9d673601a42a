-- Laws of named forms: where an occurrence points; nothing dangles in what `nameless` gives; a form in which no declared name occurs comes back
-- as it is; the row stays as long, and within the limits; what named answers. Assumes nothing.
use mathlib.Core.Path.{◌≡◌, refl, ap, sym, ◌∙◌}
use mathlib.Core.Bool.{Bool, true, false, not}
use mathlib.Core.List.{List, [], ◌∷◌, ◌++◌}
use Prim.Native.Nat.{ℕ, zero, suc, ◌+◌, ◌*◌, ◌≤◌, ◌<◌}
use native.Mathlib.Nat.{zero-add}
use native.Mathlib.Omega.{arith}
use borrow.Author.Tests.{eq-eqb, eqb-true, le-leb}
use lib.Dec.{eqb, leb}
use lib.ListN.{length, length-append}
use Rattle.tree.specs.Form.{Leaf, free, bound, Form, leaf, node, noted, Decls, undeclared, bare, typed, names_of, any_typed, Forms, none, more, pick, between, member, encode, encode_decls, encode_all}
use Rattle.tree.specs.Tag.{Sort}
use Rattle.form.specs.Decode.{one, row_form, index_free, index_free_decls, index_free_all, Found, found, missing, form_of}
use Rattle.form.specs.Break.{break_at}
use Rattle.form.specs.Answer.{Outcome, answer, stop, told, number, within, of_found, with_form, needs, is_one, finish}
use Rattle.form.specs.declared.answer.Kind.TheVariants.{Named}
use Rattle.form.proofs.HeadLaws.{few-names, few-decls}
use Rattle.form.proofs.DecodeLaws.{clash, Ok, ok-free, ok-bound, ok-node, ok-noted, OkDecls, ok_end, ok-bare, ok-typed, OkAll, ok-none, ok-more}
use Rattle.form.proofs.RowLaws.{row-encode, row_one, found-exact}
use Rattle.rules.specs.Walk.{inside, binding, Outer, named, dangling, collect_leaf, collect, each}
use Rattle.rules.specs.Dangling.{is_named, closed}
use Rattle.rules.specs.Named.{opened, further, occurrence, nameless_leaf, nameless, nameless_decls, nameless_all, named_outcome}
use Rattle.rules.proofs.WalkLaws.{each_all, each_decls, and_left, and_right}
use Rattle.rules.proofs.LimitLaws.{fine_leaf, two-words}
use Rattle.rules.proofs.OkLaws.{ok-leaf}
use Rattle.form.specs.declared.answer.Refusal.TheVariants.{TooLong, OutputTooShort}

-- a scope grows by the names that a node declares
pub opened-length : (ds S : List ℕ) → length (opened ds S) ≡ length ds + length S
opened-length [] S = rw zero-add
opened-length (n ∷ ds) S = opened-length ds (n ∷ S) ∙ omega arith

-- declared names stay, and which of them have annotations
pub names-kept : (S : List ℕ) (ds : Decls) → names_of (nameless_decls S ds) ≡ names_of ds
unfolding nameless
names-kept S undeclared = refl
names-kept S (bare n ds) = ap (λ z. n ∷ z) (names-kept S ds)
names-kept S (typed n f ds) = ap (λ z. n ∷ z) (names-kept S ds)

pub typed-kept : (S : List ℕ) (ds : Decls) → any_typed (nameless_decls S ds) ≡ any_typed ds
unfolding nameless
typed-kept S undeclared = refl
typed-kept S (bare n ds) = typed-kept S ds
typed-kept S (typed n f ds) = refl

-- an occurrence is the name itself, or an index that the scope binds
abbrev pub Points : ℕ → ℕ → Leaf → Type 0
Points k m (free n) = n ≡ m
Points k m (bound i) = i < k

points-further : (k m : ℕ) (x : Leaf) → Points k m x → Points (suc k) m (further x)
points-further k m (free n) h = h
points-further k m (bound i) h = omega arith

pub occurrence-points : (S : List ℕ) (m : ℕ) → Points (length S) m (occurrence S m)
unfolding occurrence
occurrence-points [] m = refl
occurrence-points (n ∷ S) m = go (eqb n m) (occurrence-points S m)
  where
    go : (b : Bool) → Points (length S) m (occurrence S m) → Points (suc (length S)) m (pick b (bound 0) (further (occurrence S m)))
    go true h = omega arith
    go false h = points-further (length S) m (occurrence S m) h

-- nothing dangles under a scope: each outer identifier is a name
below-inside : (k i : ℕ) → i < k → binding k i ≡ inside
below-inside zero i h = absurd (omega arith)
below-inside (suc k) zero h = refl
below-inside (suc k) (suc i) h = below-inside k i (omega arith)

points-named : (k m : ℕ) (x : Leaf) → Points k m x → collect_leaf true is_named k x ≡ true
points-named k m (free n) h = refl
points-named k m (bound i) h = rw (below-inside k i h)

mutual
  unfolding nameless collect index_free

  pub scope-closed : (S : List ℕ) (f : Form) → index_free f ≡ true → each is_named (length S) (nameless S f) ≡ true
  scope-closed S (leaf (free m)) h = points-named (length S) m (occurrence S m) (occurrence-points S m)
  scope-closed S (leaf (bound i)) h = absurd (clash cc)
  scope-closed S (node t o ds ks) h = rw (← opened-length ds S) (scope-closed_all (opened ds S) ks h)
  scope-closed S (noted t o ds ks) h =
      rw (names-kept S ds, ← opened-length (names_of ds) S, scope-closed_decls S ds (and_left (index_free_decls ds) (index_free_all ks) h))
      (scope-closed_all (opened (names_of ds) S) ks (and_right (index_free_decls ds) (index_free_all ks) h))

  scope-closed_decls : (S : List ℕ) (ds : Decls) → index_free_decls ds ≡ true → each_decls is_named (length S) (nameless_decls S ds) ≡ true
  scope-closed_decls S undeclared h = refl
  scope-closed_decls S (bare n ds) h = scope-closed_decls S ds h
  scope-closed_decls S (typed n f ds) h =
      rw (scope-closed S f (and_left (index_free f) (index_free_decls ds) h)) (scope-closed_decls S ds (and_right (index_free f) (index_free_decls ds) h))

  scope-closed_all : (S : List ℕ) (fs : Forms) → index_free_all fs ≡ true → each_all is_named (length S) (nameless_all S fs) ≡ true
  scope-closed_all S none h = refl
  scope-closed_all S (more f fs) h =
      rw (scope-closed S f (and_left (index_free f) (index_free_all fs) h)) (scope-closed_all S fs (and_right (index_free f) (index_free_all fs) h))

pub nameless-closed : (f : Form) → index_free f ≡ true → closed (nameless [] f) ≡ true
unfolding closed
nameless-closed f h = scope-closed [] f h

-- no name of the list occurs in the form
abbrev pub unlisted : List ℕ → ℕ → Outer → Bool
unlisted ns k = elim [ named m ↦ not (member m ns) | dangling j ↦ true ]

abbrev pub lacks : List ℕ → Form → Bool
lacks ns f = each (unlisted ns) 0 f

-- the names that a form declares anywhere, its annotations included
unfoldable mutual
  pub declares : Form → List ℕ
  declares (leaf x) = []
  declares (node t o ds ks) = ds ++ declares_all ks
  declares (noted t o ds ks) = names_of ds ++ (declares_notes ds ++ declares_all ks)

  pub declares_notes : Decls → List ℕ
  declares_notes undeclared = []
  declares_notes (bare n ds) = declares_notes ds
  declares_notes (typed n f ds) = declares f ++ declares_notes ds

  pub declares_all : Forms → List ℕ
  declares_all none = []
  declares_all (more f fs) = declares f ++ declares_all fs

-- a form in which no name of the scope and none that it declares occurs comes back as it is
module _ (ns : List ℕ) where
  abbrev Within : List ℕ → Type 0
  Within [] = Unit {0}
  Within (m ∷ ms) = (member m ns ≡ true) × Within ms

  within-left : (a b : List ℕ) → Within (a ++ b) → Within a
  within-left [] b h = tt
  within-left (m ∷ a) b h = (h.0, within-left a b h.1)

  within-right : (a b : List ℕ) → Within (a ++ b) → Within b
  within-right [] b h = h
  within-right (m ∷ a) b h = within-right a b h.1

  within-opened : (ds S : List ℕ) → Within ds → Within S → Within (opened ds S)
  within-opened [] S h g = g
  within-opened (n ∷ ds) S h g = within-opened ds (n ∷ S) h.1 (h.0, g)

  within_all : (ms : List ℕ) → ((m : ℕ) → member m ms ≡ true → member m ns ≡ true) → Within ms
  within_all [] h = tt
  within_all (m ∷ ms) h = (h m (rw (eq-eqb m m refl)), within_all ms (λ x q. h x (go x (eqb m x) q)))
    where
      go : (x : ℕ) (b : Bool) → member x ms ≡ true → pick b true (member x ms) ≡ true
      go x true q = refl
      go x false q = q

  unbound : (S : List ℕ) (m : ℕ) → Within S → not (member m ns) ≡ true → occurrence S m ≡ free m
  unfolding occurrence
  unbound [] m h u = refl
  unbound (n ∷ S) m h u = go (eqb n m) refl (unbound S m h.1 u)
    where
      go : (b : Bool) → eqb n m ≡ b → occurrence S m ≡ free m → pick b (bound 0) (further (occurrence S m)) ≡ free m
      go true q i =
          let e : n ≡ m = eqb-true n m q in
          let w : member m ns ≡ true = rw e at h.0 in
          let z : not (member m ns) ≡ false = rw w in
          absurd (clash cc)
      go false q i = rw i

  mutual
    unfolding nameless collect declares

    unchanged : (k : ℕ) (S : List ℕ) (f : Form) → Within S → Within (declares f) → each (unlisted ns) k f ≡ true → nameless S f ≡ f
    unchanged k S (leaf (free m)) s d h = ap leaf (unbound S m s h)
    unchanged k S (leaf (bound i)) s d h = refl
    unchanged k S (node t o ds ks) s d h =
        ap (λ z. node t o ds z)
        (unchanged_all (length ds + k) (opened ds S) ks (within-opened ds S (within-left ds (declares_all ks) d) s) (within-right ds (declares_all ks) d) h)
    unchanged k S (noted t o ds ks) s d h =
        let r = within-right (names_of ds) (declares_notes ds ++ declares_all ks) d in
        let l = within-left (names_of ds) (declares_notes ds ++ declares_all ks) d in
        let a = and_left (each_decls (unlisted ns) k ds) (each_all (unlisted ns) (length (names_of ds) + k) ks) h in
        let b = and_right (each_decls (unlisted ns) k ds) (each_all (unlisted ns) (length (names_of ds) + k) ks) h in
        rw (unchanged_decls k S ds s (within-left (declares_notes ds) (declares_all ks) r) a)
        (ap (λ z. noted t o ds z)
        (unchanged_all (length (names_of ds) + k) (opened (names_of ds) S) ks (within-opened (names_of ds) S l s) (within-right (declares_notes ds) (declares_all ks) r) b))

    unchanged_decls : (k : ℕ) (S : List ℕ) (ds : Decls) → Within S → Within (declares_notes ds) → each_decls (unlisted ns) k ds ≡ true → nameless_decls S ds ≡ ds
    unchanged_decls k S undeclared s d h = refl
    unchanged_decls k S (bare n ds) s d h = ap (λ z. bare n z) (unchanged_decls k S ds s d h)
    unchanged_decls k S (typed n f ds) s d h =
        rw (unchanged k S f s (within-left (declares f) (declares_notes ds) d) (and_left (each (unlisted ns) k f) (each_decls (unlisted ns) k ds) h), unchanged_decls k S ds s (within-right (declares f) (declares_notes ds) d) (and_right (each (unlisted ns) k f) (each_decls (unlisted ns) k ds) h))

    unchanged_all : (k : ℕ) (S : List ℕ) (fs : Forms) → Within S → Within (declares_all fs) → each_all (unlisted ns) k fs ≡ true → nameless_all S fs ≡ fs
    unchanged_all k S none s d h = refl
    unchanged_all k S (more f fs) s d h =
        rw (unchanged k S f s (within-left (declares f) (declares_all fs) d) (and_left (each (unlisted ns) k f) (each_all (unlisted ns) k fs) h), unchanged_all k S fs s (within-right (declares f) (declares_all fs) d) (and_right (each (unlisted ns) k f) (each_all (unlisted ns) k fs) h))

pub scope-unchanged : (S : List ℕ) (f : Form) → lacks (S ++ declares f) f ≡ true → nameless S f ≡ f
scope-unchanged S f h =
    let w = within_all (S ++ declares f) (S ++ declares f) (λ m q. q) in
    unchanged (S ++ declares f) 0 S f (within-left (S ++ declares f) S (declares f) w) (within-right (S ++ declares f) S (declares f) w) h

pub nameless-unchanged : (f : Form) → lacks (declares f) f ≡ true → nameless [] f ≡ f
nameless-unchanged f h = scope-unchanged [] f h

-- the row stays as long
mutual
  unfolding nameless encode

  pub nameless-length : (S : List ℕ) (f : Form) → length (encode (nameless S f)) ≡ length (encode f)
  nameless-length S (leaf x) = two-words (nameless_leaf S x) ∙ sym (two-words x)
  nameless-length S (node t o ds ks) =
      ap suc (rw (length-append, length-append, length-append o, length-append ds) (let h = nameless-length_all (opened ds S) ks in omega arith))
  nameless-length S (noted t o ds ks) =
      ap suc (rw (length-append, length-append, length-append o, length-append (encode_decls ds)) (let h = nameless-length_all (opened (names_of ds) S) ks in let q = nameless-length_decls S ds in omega arith))

  pub nameless-length_decls : (S : List ℕ) (ds : Decls) → length (encode_decls (nameless_decls S ds)) ≡ length (encode_decls ds)
  nameless-length_decls S undeclared = refl
  nameless-length_decls S (bare n ds) = ap (λ z. suc (suc z)) (nameless-length_decls S ds)
  nameless-length_decls S (typed n f ds) = ap (λ z. suc (suc z)) (rw (length-append, length-append (encode f), nameless-length S f, nameless-length_decls S ds))

  nameless-length_all : (S : List ℕ) (fs : Forms) → length (encode_all (nameless_all S fs)) ≡ length (encode_all fs)
  nameless-length_all S none = refl
  nameless-length_all S (more f fs) = rw (length-append, length-append (encode f), nameless-length S f, nameless-length_all S fs)

-- and within the limits: at most 32 declarations are open a level, so every index is small
points-small : (k m : ℕ) (x : Leaf) → Points k m x → k ≤ 65535 → between 0 65535 m ≡ true → fine_leaf x ≡ true
points-small k m (free n) h l b = rw h b
points-small k m (bound i) h l b = rw (le-leb 0 i (omega arith)) (le-leb i 65535 (omega arith))

mutual
  unfolding nameless

  pub scope-ok : {d : ℕ} {s : Sort} {f : Form} → Ok d s f → (S : List ℕ) → length S + 32 * d ≤ 65535 → Ok d s (nameless S f)
  scope-ok (ok-free {d = d} {n = m} e) S h =
      ok-leaf d (occurrence S m) (points-small (length S) m (occurrence S m) (occurrence-points S m) (omega arith) e)
  scope-ok (ok-bound e) S h = ok-bound e
  scope-ok (ok-node {d = d} {s = s} {t = t} {o = o} {ds = ds} {p = p} {e = e} l r w) S h =
      let few = few-names s t (o ++ (ds ++ [])) o ds p e [] (r []) in
      let q = opened-length ds S in
      ok-node l r (scope-ok_all w (opened ds S) (omega arith))
  scope-ok (ok-noted {d = d} {s = s} {t = t} {o = o} {ds = ds} {p = p} {e = e} a r v w) S h =
      let few = few-decls s t (o ++ []) o (length (names_of ds)) p e [] (r []) in
      let q = opened-length (names_of ds) S in
      ok-noted {s = s} {t = t} {o = o} {ds = nameless_decls S ds} {p = p} {e = e} (rw (typed-kept S ds) a) (rw (names-kept S ds) r) (scope-ok_decls v S (omega arith))
      (scope-ok_all w (opened (names_of ds) S) (omega arith))

  scope-ok_decls : {d : ℕ} {ds : Decls} → OkDecls d ds → (S : List ℕ) → length S + 32 * d ≤ 65535 → OkDecls d (nameless_decls S ds)
  scope-ok_decls ok_end S h = ok_end
  scope-ok_decls (ok-bare e w) S h = ok-bare e (scope-ok_decls w S h)
  scope-ok_decls (ok-typed e g w) S h = ok-typed e (scope-ok g S h) (scope-ok_decls w S h)

  scope-ok_all : {d : ℕ} {ss : List Sort} {fs : Forms} → OkAll d ss fs → (S : List ℕ) → length S + 32 * d ≤ 65535 → OkAll d ss (nameless_all S fs)
  scope-ok_all ok-none S h = ok-none
  scope-ok_all (ok-more g w) S h = ok-more (scope-ok g S h) (scope-ok_all w S h)

pub nameless-row : (s : Sort) (row : List ℕ) (f : Form) → row_form s row ≡ one f → row_form s (encode (nameless [] f)) ≡ one (nameless [] f)
nameless-row s row f e =
    let (a, w, o) = row_one s row f e in
    let l = nameless-length [] f in
    let q : length (encode f) ≤ 8192 = rw w at a in
    row-encode (scope-ok o [] (omega arith)) (omega arith)

pub nameless-limits : (s : Sort) (row : List ℕ) (f : Form) → row_form s row ≡ one f → is_one (row_form s (encode (nameless [] f))) ≡ true
nameless-limits s row f e = ap is_one (nameless-row s row f e)

-- so named answers, for every row and room: 1 for a row that is too long; 2 for one that is no form written with names; 14 where there is less
-- room than the row has words; or else the row of the nameless form
abbrev pub answered : List ℕ → ℕ → Sort → Form → Outcome
answered row room s f = needs OutputTooShort (leb (length row) room) (answer (encode (nameless [] f)))

pub named-outcomes : (row : List ℕ) (room : ℕ) → named_outcome row room ≡ with_form Named row (answered row room)
unfolding named_outcome finish
named-outcomes row room = ap (within row) (go (form_of Named row) refl)
  where
    go : (x : Found) → form_of Named row ≡ x → of_found (break_at Named row) (λ s f. finish s room (nameless [] f)) x ≡ of_found (break_at Named row) (answered row room) x
    go missing e = refl
    go (found s f) e =
        let r = found-exact Named row s f e in
        let l : length (encode (nameless [] f)) ≡ length row = nameless-length [] f ∙ sym (ap length (row_one s row f r).1) in
        rw (nameless-limits s row f r, l)

-- and never 7
pub named-never-7 : (row : List ℕ) (room : ℕ) → number (told (named_outcome row room)) ≡ 7 → ⊥
named-never-7 row room h = go (leb (length row) 8192) (form_of Named row) (rw (named-outcomes row room) at h)
  where
    enough : (b : Bool) (ws : List ℕ) → number (told (needs OutputTooShort b (answer ws))) ≡ 7 → ⊥
    enough true ws q = omega arith
    enough false ws q = omega arith

    go : (b : Bool) (x : Found) → number (told (pick b (of_found (break_at Named row) (answered row room) x) (stop TooLong))) ≡ 7 → ⊥
    go true (found s f) q = enough (leb (length row) room) (encode (nameless [] f)) q
    go true missing q = omega arith
    go false x q = omega arith
