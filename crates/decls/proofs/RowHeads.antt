-- The head of a quantified row with the declarations that are kept, by the row's first word: under 860 it has no annotations. Assumes nothing.
use mathlib.Core.Path.{◌≡◌, refl, ap, sym, ◌∙◌}
use mathlib.Core.Bool.{Bool, true, false}
use mathlib.Core.List.{List, [], ◌∷◌, ◌++◌, map}
use Prim.Native.Nat.{ℕ, ◌+◌, ◌-◌, ◌≤◌}
use native.Mathlib.Omega.{arith}
use borrow.Author.Tests.{ltb-true, ltb-false}
use lib.Dec.{ltb}
use lib.ListN.{length, get_or, drop, length-map, length-append}
use Rattle.tree.specs.Form.{Form, pick, encode, encode_decls}
use Rattle.tree.specs.Tag.{pred}
use Rattle.form.specs.Lists.{Place, kept, filled}
use Rattle.form.proofs.DecodeLaws.{clash, Ok}
use Rattle.form.specs.declared.answer.Kind.TheVariants.{Predicate}
use Rattle.rules.specs.Fill.{Decl, name_of, unlisted, any_noted, Quantified, quantifier, other, quantified, kept_decls}
use Rattle.shift.proofs.AroundLaws.{head_of, encode-around, Quant, quant-of, quant-first}
use Rattle.shift.proofs.CheckedLaws.{Checked}
use Rattle.replace.specs.Internal.Pieces.{kept_words, head_words}
use Rattle.replace.proofs.FillTree.{word_for}
use Rattle.replace.proofs.NameLaws.{kept-names}
use Rattle.replace.proofs.PlainLaws.{kept_names}
use Rattle.replace.proofs.QuantLaws.{form-ok}
use Rattle.decls.specs.Internal.Noted.{count_in, noted_head}
use Rattle.decls.proofs.DeclLaws.{decls-long, any-kept}
use Rattle.decls.proofs.CountLaws.{op-range, quant-count, other-count, quant-good, noted-words, plain-words}
use Rattle.decls.proofs.HeadLaws.{quant_head, noted-head}

names-kept : (ps : List Place) (ds : List Decl) → kept_names ps (map name_of ds) ≡ map name_of (kept_decls ps ds)
names-kept [] ds = refl
names-kept (kept ∷ ps) [] = refl
names-kept (filled x ∷ ps) [] = refl
names-kept (kept ∷ ps) (d ∷ ds) = ap (λ z. d.0 ∷ z) (names-kept ps ds)
names-kept (filled x ∷ ps) (d ∷ ds) = names-kept ps ds

names-head : (t : ℕ) (ds : List Decl) → any_noted ds ≡ false → head_words t (map name_of ds) ≡ quant_head t ds
unfolding head_words
names-head t [] e = refl
names-head t (d ∷ ds) e = rw (e, length-map ds name_of)

module _ {f : Form} (y : Quant 63 f) where
  first-words : encode f ≡ head_of y.op y.decls ++ encode y.body
  first-words = ap encode y.form ∙ encode-around y.op 0 y.decls y.body

  by_first : (b : Bool) → any_noted y.decls ≡ b → get_or (encode f) 0 0 ≡ pick b (y.op + 10) y.op
  by_first b e = rw (← e) (quant-first y)

  pub plain-first : ltb (get_or (encode f) 0 0) 860 ≡ true → (any_noted y.decls ≡ false) × (get_or (encode f) 0 0 ≡ y.op)
  plain-first q = go (any_noted y.decls) refl
    where
      go : (b : Bool) → any_noted y.decls ≡ b → (b ≡ false) × (get_or (encode f) 0 0 ≡ y.op)
      go true e =
          let h = by_first true e in
          let l = ltb-true (get_or (encode f) 0 0) 860 q in
          let (a, b) = op-range y.op y.which in
          absurd (omega arith)
      go false e = (refl, by_first false e)

  pub noted-first : ltb (get_or (encode f) 0 0) 860 ≡ false → (any_noted y.decls ≡ true) × (get_or (encode f) 0 0 ≡ y.op + 10)
  noted-first q = go (any_noted y.decls) refl
    where
      go : (b : Bool) → any_noted y.decls ≡ b → (b ≡ true) × (get_or (encode f) 0 0 ≡ y.op + 10)
      go true e = (refl, by_first true e)
      go false e =
          let h = by_first false e in
          let l = ltb-false (get_or (encode f) 0 0) 860 q in
          let (a, b) = op-range y.op y.which in
          absurd (omega arith)

  pub plain-start : ltb (get_or (encode f) 0 0) 860 ≡ true → 2 + length y.decls ≡ length (head_of y.op y.decls)
  plain-start q = let (a, b) = plain-first q in let l = length-map y.decls name_of in rw a (omega arith)

  -- a row has two words and one for each declaration
  pub row-least : 2 + length y.decls ≤ length (encode f)
  row-least = go (any_noted y.decls) refl
    where
      go : (b : Bool) → any_noted y.decls ≡ b → 2 + length y.decls ≤ length (encode f)
      go true e =
          let d = decls-long y.decls in
          let l = length-append (encode_decls (unlisted y.decls)) (encode y.body) in
          rw (first-words, e) (omega arith)
      go false e =
          let d = length-map y.decls name_of in
          let l = length-append (map name_of y.decls) (encode y.body) in
          rw (first-words, e) (omega arith)

  module _ (ps : List Place) (all : length ps ≡ length y.decls) where
    none_kept : any_noted y.decls ≡ false → (b : Bool) → any_noted (kept_decls ps y.decls) ≡ b → b ≡ false
    none_kept a true e = let z = any-kept ps y.decls e in absurd (clash cc)
    none_kept a false e = refl

    pub plain-head : ltb (get_or (encode f) 0 0) 860 ≡ true → head_words (get_or (encode f) 0 0) (kept_words (map word_for ps) (drop 2 (encode f))) ≡ quant_head y.op (kept_decls ps y.decls)
    plain-head q =
        let (a, b) = plain-first q in
        let n : length ps ≡ length (map name_of y.decls) = all ∙ sym (length-map y.decls name_of) in
        rw (b, plain-words y a, kept-names ps (map name_of y.decls) (encode y.body) n, names-kept ps y.decls) (names-head y.op (kept_decls ps y.decls) (none_kept a (any_noted (kept_decls ps y.decls)) refl))

    pub noted-row-head : Ok 64 pred f → length (encode f) ≤ 8192 → ltb (get_or (encode f) 0 0) 860 ≡ false → noted_head (get_or (encode f) 0 0 - 10) (map word_for ps) (encode f) 8192 ≡ quant_head y.op (kept_decls ps y.decls)
    noted-row-head ok short q =
        let (a, b) = noted-first q in
        let m : get_or (encode f) 0 0 - 10 ≡ y.op = omega arith in
        rw m (noted-head ps y.decls (encode f) (encode y.body) 8192 all (quant-good f ok y) (noted-words y a) y.most short short y.op y.which)

-- what the number of declarations says of a row that was checked
module _ (row m : List ℕ) (k : ℕ) (x : Checked Predicate row m k) (n : ℕ) (e : n ≡ count_in row) where
  count-form : n ≡ count_in (encode x.form)
  count-form = e ∙ ap count_in x.words

  pub no-quant : n ≡ 0 → quantified x.form ≡ other
  no-quant z = go (quantified x.form) refl
    where
      go : (z : Quantified) → quantified x.form ≡ z → z ≡ other
      go other q = refl
      go (quantifier t ds b) q =
          let y = quant-of (form-ok row m k x) t ds b q in
          let c = quant-count x.form y in
          let l = y.least in
          let w = count-form in
          absurd (omega arith)

  pub the-quant : (n ≡ 0 → ⊥) → Quant 63 x.form
  the-quant z = go (quantified x.form) refl
    where
      go : (z : Quantified) → quantified x.form ≡ z → Quant 63 x.form
      go other q = absurd (z (count-form ∙ other-count x.form (form-ok row m k x) q))
      go (quantifier t ds b) q = quant-of (form-ok row m k x) t ds b q

  pub the-count : (q : Quant 63 x.form) → n ≡ length q.decls
  the-count q = count-form ∙ quant-count x.form q

pub the-length : (row m : List ℕ) (k : ℕ) (x : Checked Predicate row m k) (q : Quant 63 x.form) → 2 + length q.decls ≤ length row
the-length row m k x q = rw x.words (row-least q)
