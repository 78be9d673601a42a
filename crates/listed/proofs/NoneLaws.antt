-- A fill by the empty list: every place is missing, so every declaration is kept, and the row comes back. Assumes nothing.
use mathlib.Core.Path.{◌≡◌, refl, ap, sym, ◌∙◌}
use mathlib.Core.List.{List, [], ◌∷◌}
use Prim.Native.Nat.{ℕ, ◌-◌, ◌≤◌}
use native.Mathlib.Omega.{arith}
use borrow.Author.Tests.{le-leb}
use lib.Dec.{leb}
use lib.ListN.{length, replicate}
use Rattle.tree.specs.Form.{Form, encode}
use Rattle.tree.specs.Tag.{Sort, pred}
use Rattle.form.specs.Decode.{one, row_form, found, form_of}
use Rattle.form.specs.Lists.{kept}
use Rattle.form.specs.Answer.{answer, needs, finish}
use Rattle.form.specs.declared.answer.Kind.TheVariants.{Predicate}
use Rattle.form.specs.declared.answer.ListKind.TheVariants.{Places}
use Rattle.form.proofs.RowLaws.{found-exact, found-row}
use Rattle.form.proofs.ListLaws.{list-nil}
use Rattle.rules.specs.Fill.{Decl, quantifier, quantified, around, quantify, fill, places_for, fill_outcome}
use Rattle.rules.proofs.FrontLaws.{fill-kept}
use Rattle.shift.proofs.AroundLaws.{Quant, quant-of}
use Rattle.replace.proofs.QuantLaws.{pred-sort}
use Rattle.form.specs.declared.answer.Refusal.TheVariants.{OutputTooShort}

quantify-some : (t : ℕ) (ds : List Decl) (b : Form) → 1 ≤ length ds → quantify t ds b ≡ around t ds b
quantify-some t [] b h = absurd (omega arith)
quantify-some t (d ∷ ds) b h = refl

all-missing : (f : Form) (y : Quant 63 f) → fill y.op y.decls (places_for (length y.decls) []) y.body ≡ f
all-missing f y =
    let z : length y.decls - 0 ≡ length y.decls = omega arith in
    ap (λ n. fill y.op y.decls (replicate n kept) y.body) z
    ∙ (fill-kept y.op y.decls y.body ∙ (quantify-some y.op y.decls y.body y.least ∙ sym y.form))

-- of a row that was read
module _ (row : List ℕ) (s : Sort) (f : Form) (e : form_of Predicate row ≡ found s f) (work room : ℕ) (w : 16384 ≤ work) where
  row_back : (y : Quant 63 f) → length row ≤ 8192 → row ≡ encode f → row_form pred row ≡ one f → fill_outcome [] row work room ≡ needs OutputTooShort (leb (length row) room) (answer row)
  unfolding fill_outcome finish
  row_back y l r x =
      rw (le-leb 16384 work w, le-leb (length row) 8192 l, e, list-nil Places, y.is, le-leb 0 (length y.decls) (omega arith), all-missing f y, ← r, x)

  pub fill_none : (t : ℕ) (ns : List Decl) (b : Form) → quantified f ≡ quantifier t ns b → fill_outcome [] row work room ≡ needs OutputTooShort (leb (length row) room) (answer row)
  fill_none t ns b q =
      let (l, r, o) = found-row row s f Predicate e in
      let p = pred-sort row s f e in
      row_back (quant-of (rw p at o) t ns b q) l r (rw p at (found-exact Predicate row s f e))
