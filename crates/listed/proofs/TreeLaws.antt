-- Laws of the replacements on trees: substitution and lift commute, and filling with the names that were bound gives the form back.
-- Assumes nothing.
use mathlib.Core.Path.{◌≡◌, refl, ap, sym, ◌∙◌}
use mathlib.Core.Bool.{Bool, true, false}
use mathlib.Core.List.{List, [], ◌∷◌, ◌++◌, append_assoc, map, map-append, reverse}
use Prim.Native.Nat.{ℕ, ◌+◌}
use native.Mathlib.Omega.{arith}
use borrow.Author.Tests.{eqb-true}
use lib.Dec.{eqb}
use lib.ListN.{length, length-map, length-reverse}
use Rattle.tree.specs.Form.{free, bound, Form, leaf, pick}
use Rattle.form.specs.Lists.{Place, kept, filled, Entry, entry}
use Rattle.rules.specs.Walk.{Outer, named, dangling, walk, up, lift, put, subst}
use Rattle.rules.specs.Bind.{bind_name, bind_for, bind}
use Rattle.rules.proofs.WalkLaws.{binding-add, shift-shift, lift-up, subst-lift, fuse-level, self, undo, always, each-always}
use Rattle.rules.specs.Free.{or_name, seek, free_for, substitute}
use Rattle.rules.specs.Fill.{Decl, kept_count, kept_decls, fill_for, fill}
use Rattle.replace.proofs.FillTree.{fill-past, fill_here}

-- the entries lifted
abbrev pub lift_place : ℕ → Place → Place
lift_place n kept = kept
lift_place n (filled x) = filled (lift n x)

abbrev pub lift_entry : ℕ → Entry → Entry
lift_entry n (entry w p) = entry w (lift_place n p)

or-lift : (n m : ℕ) (p : Place) → or_name m (lift_place n p) ≡ lift n (or_name m p)
unfolding walk
or-lift n m kept = refl
or-lift n m (filled x) = refl

seek-step : (n m : ℕ) (p : Place) (es : List Entry) (b : Bool) → seek (map (lift_entry n) es) m ≡ lift n (seek es m)
    → pick b (or_name m (lift_place n p)) (seek (map (lift_entry n) es) m) ≡ lift n (pick b (or_name m p) (seek es m))
seek-step n m p es true h = or-lift n m p
seek-step n m p es false h = h

seek-lift : (n m : ℕ) (es : List Entry) → seek (map (lift_entry n) es) m ≡ lift n (seek es m)
unfolding walk
seek-lift n m [] = refl
seek-lift n m (entry w p ∷ es) = seek-step n m p es (eqb w m) (seek-lift n m es)

both_ways : (n : ℕ) (es : List Entry) (k : ℕ) (x : Outer) → walk (put (free_for (map (lift_entry n) es))) k (up n k x) ≡ walk (up n) k (put (free_for es) k x)
unfolding walk
both_ways n es k (named m) =
    let e : n + k ≡ k + n = omega arith in
    rw (seek-lift n m es, shift-shift n k 0 (seek es m), e) (sym (lift-up k n (seek es m)))
both_ways n es k (dangling j) = rw (binding-add k (j + n)) (ap (λ z. leaf (bound z)) (omega arith) ∙ sym (lift-up k n (leaf (bound j))))

-- a substitution in a lifted form is the substitution lifted, if its expressions are lifted too
pub substitute-lift : (n : ℕ) (es : List Entry) (f : Form) → substitute (map (lift_entry n) es) (lift n f) ≡ lift n (substitute es f)
unfolding substitute
substitute-lift n es f =
    fuse-level (put (free_for (map (lift_entry n) es))) (up n) (λ k x. walk (up n) k (put (free_for es) k x)) (both_ways n es) 0 f
    ∙ sym (fuse-level (up n) (put (free_for es)) (λ k x. walk (up n) k (put (free_for es) k x)) (λ k x. refl) 0 f)

-- the names as expressions, one for each declaration
abbrev pub named-place : ℕ → Place
named-place n = filled (leaf (free n))

none_kept : (ns : List ℕ) → kept_count (map named-place ns) ≡ 0
none_kept [] = refl
none_kept (n ∷ ns) = none_kept ns

no-decls : (ns : List ℕ) (ds : List Decl) → kept_decls (map named-place ns) ds ≡ []
no-decls [] ds = refl
no-decls (n ∷ ns) [] = refl
no-decls (n ∷ ns) (d ∷ ds) = no-decls ns ds

module _ (m : ℕ) where
  name_back : (a ns : List ℕ) (n : ℕ) → n ≡ m → subst (fill_for (map named-place (a ++ (n ∷ ns)))) (leaf (bound (length ns))) ≡ leaf (free m)
  unfolding walk
  name_back a ns n e =
      let p : map named-place (a ++ (n ∷ ns)) ≡ map named-place a ++ (named-place n ∷ map named-place ns) = map-append named-place a (n ∷ ns) in
      let l : length ns ≡ length (map named-place ns) = sym (length-map ns named-place) in
      rw (p, l, fill_here (kept_count (map named-place a ++ (named-place n ∷ map named-place ns))) (map named-place a) (map named-place ns) (named-place n), e)

  back_step : (a ns : List ℕ) (n : ℕ) (b : Bool) → eqb n m ≡ b → subst (fill_for (map named-place (a ++ (n ∷ ns)))) (bind_name ns m) ≡ leaf (free m)
      → subst (fill_for (map named-place (a ++ (n ∷ ns)))) (pick b (leaf (bound (length ns))) (bind_name ns m)) ≡ leaf (free m)
  back_step a ns n true q h = name_back a ns n (eqb-true n m q)
  back_step a ns n false q h = h

  bound-back : (a ns : List ℕ) → subst (fill_for (map named-place (a ++ ns))) (bind_name ns m) ≡ leaf (free m)
  unfolding walk
  bound-back a [] = refl
  bound-back a (n ∷ ns) =
      let e : (a ++ (n ∷ [])) ++ ns ≡ a ++ (n ∷ ns) = append_assoc a (n ∷ []) ns in
      back_step a ns n (eqb n m) refl (rw e at (bound-back (a ++ (n ∷ [])) ns))

outer-back : (ns : List ℕ) (j : ℕ) → subst (fill_for (map named-place ns)) (leaf (bound (length ns + j))) ≡ leaf (bound j)
unfolding walk
outer-back ns j =
    let l : length ns ≡ length (reverse (map named-place ns)) = sym (length-reverse (map named-place ns) ∙ length-map ns named-place) in
    rw (none_kept ns, l, fill-past 0 (reverse (map named-place ns)) j) (ap (λ z. leaf (bound z)) (omega arith))

back : (ns : List ℕ) (k : ℕ) (x : Outer) → walk (put (fill_for (map named-place ns))) k (put (bind_for ns) k x) ≡ self k x
unfolding walk
back ns k (named m) = subst-lift (fill_for (map named-place ns)) k (bind_name ns m) ∙ rw (bound-back m [] ns)
back ns k (dangling j) = subst-lift (fill_for (map named-place ns)) k (leaf (bound (length ns + j))) ∙ rw (outer-back ns j) (ap (λ z. leaf (bound z)) (omega arith))

-- names bound, and then filled with those names under declarations of any kind
pub fill-bound : (t : ℕ) (ns : List ℕ) (ds : List Decl) (f : Form) → fill t ds (map named-place ns) (bind ns f) ≡ f
unfolding fill bind
fill-bound t ns ds f = rw (no-decls ns ds) (undo (put (fill_for (map named-place ns))) (put (bind_for ns)) always (λ k x h. back ns k x) 0 f (each-always 0 f))
