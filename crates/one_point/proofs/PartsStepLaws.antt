-- The loops over the parts of an equality: what is told of the rest is told of the whole. Assumes nothing.
use mathlib.Core.Path.{◌≡◌, refl, ap, sym, ◌∙◌}
use mathlib.Core.Bool.{true, false}
use mathlib.Core.Option.{some}
use mathlib.Core.List.{List, [], ◌∷◌, append-nil}
use Prim.Native.Nat.{ℕ, suc, ◌+◌, ◌-◌, ◌≤◌}
use native.Mathlib.Omega.{arith}
use lib.ListN.{length, take, drop}
use Rattle.tree.specs.Form.{Form, encode, encode_all}
use Rattle.form.proofs.DecodeLaws.{clash}
use Rattle.rules.specs.Replacement.{Taken, taken, nothing, accept}
use Rattle.rules.specs.Split.{equal}
use Rattle.rules.specs.Scan.{Scans, scans, present, copied, before, offer_part, offer_parts}
use Rattle.places.specs.Internal.Positions.{parts_at, part_words}
use Rattle.places.specs.Internal.Wrote.{Wrote}
use Rattle.one_point.specs.Internal.Parts.{equal_words, accept_words, TookIs, PartsTold, PartsCopied}
use Rattle.std.specs.Prelude.{Option, Some, None, is_some}
use Rattle.places.specs.declared.sides.Sides.{Sides}
use Rattle.places.specs.declared.sides.Replacement.{Replacement}
use Rattle.places.proofs.SidesLaws.{part-words}
use Rattle.one_point.proofs.AcceptLaws.{took}
use Rattle.places.proofs.WroteLaws.{wrote-end, wrote_on}
use Rattle.places.proofs.PartsLaws.{in_row, PartIs}
use Rattle.places.proofs.StepLaws.{equal-length, sides-are, rest-is}

pub copied_none : (ps : List (Form × Form)) (w k : ℕ) (out : List ℕ) → ps ≡ [] → PartsCopied ps w out k w k out
unfolding PartsCopied Wrote encode
copied_none ps w k out e = rw e ((omega arith, sym (append-nil (take w out))), omega arith)

-- a part that is passed, and one that is taken
pub not_taken : (r : Option Replacement) → is_some r ≡ false → r ≡ None
not_taken (Some x) e = absurd (clash cc)
not_taken None e = refl

pub took-not : (row : List ℕ) (t : Taken) → TookIs row t None → t ≡ nothing
unfolding TookIs
took-not row (taken i e) h = absurd h
took-not row nothing h = refl

pub took-none : (row : List ℕ) (r : Option Replacement) → TookIs row nothing r → is_some r ≡ true → ⊥
unfolding TookIs
took-none row (Some x) h e = clash cc
took-none row None h e = clash cc

pub took-some : (row : List ℕ) (i : ℕ) (e : Form) (r : Option Replacement) → TookIs row (taken i e) r → is_some r ≡ false → ⊥
unfolding TookIs
took-some row i e (Some x) h q = clash cc
took-some row i e None h q = h

before-told : (row : List ℕ) (g : Form) (w k w₁ : ℕ) (out out₁ : List ℕ) → Wrote w out (encode g) w₁ out₁ → (z : Scans) (f : Option Replacement) (e m : ℕ) (o : List ℕ)
    → PartsTold row w₁ out₁ (k + 1) z f e m o → PartsTold row w out k (before (some g) z) f e m o
unfolding PartsTold encode
before-told row g w k w₁ out out₁ h (scans x gs) f e m o t = (t.0, wrote_on w w₁ e out (encode g) out₁ (encode_all (present gs)) o h t.1, omega (arith, t.2))

taken-told : (row : List ℕ) (l r : Form) (w k : ℕ) (out : List ℕ) (f : Option Replacement) → is_some f ≡ true → (t : Taken) → TookIs row t f → (ps : List (Form × Form)) (z : Scans) (e m : ℕ) (o : List ℕ)
    → PartsCopied ps w out k e m o → PartsTold row w out k (offer_part l r t ps z) f e m o
unfolding PartsTold PartsCopied TookIs
taken-told row l r w k out f b (taken i e') h ps z e m o t = (h, t.0, t.1)
taken-told row l r w k out f b nothing h ps z e m o t = absurd (took-none row f h b)

pub search-none : (row : List ℕ) (d : ℕ) (ps : List (Form × Form)) (w k : ℕ) (out : List ℕ) (f : Option Replacement) → f ≡ None → ps ≡ [] → (e m : ℕ) (o : List ℕ)
    → PartsCopied ps w out k e m o → PartsTold row w out k (offer_parts d ps) f e m o
unfolding PartsTold PartsCopied TookIs offer_parts
search-none row d ps w k out f n h e m o t = rw h (n, rw h at t.0, rw h at t.1)

-- what is written of a part
module _ {row : List ℕ} {p q n w k words : ℕ} (x : PartIs row p q n w k words) (s : Sides) (is : s ≡ part_words row p q) where
  equal-words : equal_words row s ≡ encode (equal x.l x.r)
  unfolding encode
  equal-words =
      rw (
        sides-are x s is,
        part-words row (encode x.l) (drop (p + length (encode x.l)) row) p (p + length (encode x.l)) x.words-l refl,
        part-words row (encode x.r) (drop (q + length (encode x.r)) row) q (q + length (encode x.r)) x.words-r refl,
        append-nil,
      )

  -- a part written
  copied_more : (ps : List (Form × Form)) (out out₁ : List ℕ) (w₁ : ℕ) → Wrote w out (equal_words row s) w₁ out₁
      → (e m : ℕ) (o : List ℕ) → PartsCopied ps w₁ out₁ (k + 1) e m o → PartsCopied ((x.l, x.r) ∷ ps) w out k e m o
  unfolding PartsCopied encode
  copied_more ps out out₁ w₁ h e m o t =
      (wrote_on w w₁ e out (encode (equal x.l x.r)) out₁ (encode_all (present (copied ps))) o (rw equal-words at h) t.0, omega (arith, t.1))

  pub copy-on : (out out₁ : List ℕ) (w₁ : ℕ) → Wrote w out (equal_words row s) w₁ out₁
      → (e m : ℕ) (o : List ℕ) → PartsCopied (parts_at row s.middle s.end (n - 1)) w₁ out₁ (k + 1) e m o → PartsCopied (parts_at row p q n) w out k e m o
  copy-on out out₁ w₁ h e m o t = rw (rest-is x s is) (copied_more (parts_at row s.middle s.end (n - 1)) out out₁ w₁ h e m o t)

  pub wrote-length : (out out₁ : List ℕ) (w₁ : ℕ) → Wrote w out (equal_words row s) w₁ out₁ → w₁ ≡ w + 1 + (length (encode x.l) + length (encode x.r))
  wrote-length out out₁ w₁ h =
      let e = wrote-end w w₁ out (equal_words row s) out₁ h in
      let l : length (equal_words row s) ≡ suc (length (encode x.l) + length (encode x.r)) = ap length equal-words ∙ equal-length x.l x.r in
      omega arith

  -- a part offered
  module _ (d : ℕ) (short : length row ≤ 8192) where
    took-here : TookIs row (accept d x.l x.r) (accept_words d s row)
    took-here =
        let a = in_row row (encode x.l) (drop (p + length (encode x.l)) row) p x.words-l x.some-l in
        let b = in_row row (encode x.r) (drop (q + length (encode x.r)) row) q x.words-r x.some-r in
        rw (sides-are x s is)
        (took row d (record { left = p; middle = p + length (encode x.l); right = q; end = q + length (encode x.r) }) x.l x.r x.ok-l x.ok-r (omega arith) (omega arith) refl refl
        x.words-l x.words-r)

    abbrev Rest : List (Form × Form)
    Rest = parts_at row s.middle s.end (n - 1)

    pub search-pass : (r : Option Replacement) → r ≡ accept_words d s row → is_some r ≡ false → (out out₁ : List ℕ) (w₁ : ℕ) → Wrote w out (equal_words row s) w₁ out₁
        → (f : Option Replacement) (e m : ℕ) (o : List ℕ) → PartsTold row w₁ out₁ (k + 1) (offer_parts d Rest) f e m o → PartsTold row w out k (offer_parts d (parts_at row p q n)) f e m o
    unfolding offer_parts
    search-pass r a b out out₁ w₁ h f e m o t =
        let c : accept_words d s row ≡ None = sym a ∙ not_taken r b in
        rw (rest-is x s is, took-not row (accept d x.l x.r) (rw c at took-here))
        (before-told row (equal x.l x.r) w k w₁ out out₁ (rw equal-words at h) (offer_parts d Rest) f e m o t)

    pub search-take : (r : Option Replacement) → r ≡ accept_words d s row → is_some r ≡ true → (out : List ℕ)
        → (e m : ℕ) (o : List ℕ) → PartsCopied Rest w out k e m o → PartsTold row w out k (offer_parts d (parts_at row p q n)) r e m o
    unfolding offer_parts
    search-take r a b out e m o t = rw (rest-is x s is) (taken-told row x.l x.r w k out r b (accept d x.l x.r) (rw (← a) at took-here) Rest (offer_parts d Rest) e m o t)
