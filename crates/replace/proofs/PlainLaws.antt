-- Declarations without annotations, by their names alone. Assumes nothing.
use mathlib.Core.Path.{◌≡◌, refl, ap, sym}
use mathlib.Core.Bool.{true}
use mathlib.Core.List.{List, [], ◌∷◌, map}
use Prim.Native.Nat.{ℕ, suc}
use lib.ListN.{length}
use Rattle.tree.specs.Form.{Form, node, none, more}
use Rattle.form.specs.Lists.{Place, kept, filled}
use Rattle.rules.specs.Walk.{subst}
use Rattle.rules.specs.Fill.{unnoted, quantify, kept_decls, fill_for, fill}
use Rattle.rules.specs.Partial.{on_note, clear}
use Rattle.shift.proofs.AroundLaws.{plain-around}

abbrev pub quantify_names : ℕ → List ℕ → Form → Form
quantify_names t x f = elim x [ [] ↦ f | n ∷ ns ↦ node t (suc (length ns) ∷ []) (n ∷ ns) (more f none) ]

abbrev pub kept_names : List Place → List ℕ → List ℕ
kept_names [] ns = []
kept_names (p ∷ ps) [] = []
kept_names (kept ∷ ps) (n ∷ ns) = n ∷ kept_names ps ns
kept_names (filled e ∷ ps) (n ∷ ns) = kept_names ps ns

pub plain-quantify : (t : ℕ) (ns : List ℕ) (f : Form) → quantify t (map unnoted ns) f ≡ quantify_names t ns f
plain-quantify t [] f = refl
plain-quantify t (n ∷ ns) f = sym (plain-around t (n ∷ ns) f)

pub plain-kept : (ps : List Place) (ns : List ℕ) → kept_decls ps (map unnoted ns) ≡ map unnoted (kept_names ps ns)
plain-kept [] ns = refl
plain-kept (kept ∷ ps) [] = refl
plain-kept (filled e ∷ ps) [] = refl
plain-kept (kept ∷ ps) (n ∷ ns) = ap (λ z. unnoted n ∷ z) (plain-kept ps ns)
plain-kept (filled e ∷ ps) (n ∷ ns) = plain-kept ps ns

pub plain-fill : (t : ℕ) (ns : List ℕ) (ps : List Place) (f : Form) → fill t (map unnoted ns) ps f ≡ quantify_names t (kept_names ps ns) (subst (fill_for ps) f)
unfolding fill
plain-fill t ns ps f = rw (plain-kept ps ns) (plain-quantify t (kept_names ps ns) (subst (fill_for ps) f))

pub plain-notes : (h : Form → Form) (ns : List ℕ) → map (on_note h) (map unnoted ns) ≡ map unnoted ns
plain-notes h [] = refl
plain-notes h (n ∷ ns) = ap (λ z. unnoted n ∷ z) (plain-notes h ns)

pub plain-clear : (n : ℕ) (ns : List ℕ) → clear n (map unnoted ns) ≡ true
plain-clear n [] = refl
plain-clear n (m ∷ ns) = plain-clear n ns
