-- The number of declarations of a quantified row, and where its body starts, are those of the tree. Assumes nothing.
use mathlib.Core.Path.{◌≡◌, refl, ap, ◌∙◌}
use mathlib.Core.Bool.{Bool, true, false, ◌||◌}
use mathlib.Core.List.{List, [], ◌∷◌, ◌++◌, map}
use mathlib.Core.Option.{none as absent, some}
use Prim.Native.Nat.{ℕ, ◌+◌, ◌≤◌}
use native.Mathlib.Omega.{arith}
use borrow.Author.Tests.{lt-leb, lt-ltb, le-ltb, eqb-true}
use lib.Dec.{leb, eqb}
use lib.ListN.{length, get_or, drop, length-map}
use Rattle.tree.specs.Form.{Form, pick, encode, encode_decls}
use Rattle.tree.specs.Tag.{pred}
use Rattle.form.proofs.DecodeLaws.{clash, Ok}
use Rattle.rules.specs.Fill.{Decl, unnoted, name_of, unlisted, any_noted, other, quantified}
use Rattle.shift.proofs.AroundLaws.{head_of, encode-around, Quant, other-first, quant-second, quant-two, quant-tagged}
use Rattle.decls.specs.Internal.Noted.{count_in, body_start}
use Rattle.decls.proofs.DeclLaws.{GoodDecls, around-good}
use Rattle.decls.proofs.NotedLaws.{decls-end}

one_of : (a b c d : Bool) (n : ℕ) → ((a || b) || (c || d)) ≡ true → pick a n (pick b n (pick c n (pick d n 0))) ≡ n
one_of true b c d n e = refl
one_of false true c d n e = refl
one_of false false true d n e = refl
one_of false false false true n e = refl
one_of false false false false n e = absurd (clash cc)

none_of : (a b c d : Bool) (n : ℕ) → (a || b) ≡ false → (c || d) ≡ false → pick a n (pick b n (pick c n (pick d n 0))) ≡ 0
none_of true b c d n e f = absurd (clash cc)
none_of false true c d n e f = absurd (clash cc)
none_of false false true d n e f = absurd (clash cc)
none_of false false false true n e f = absurd (clash cc)
none_of false false false false n e f = refl

pick-none : (b : Bool) (n : ℕ) → n ≡ 0 → pick b 0 n ≡ 0
pick-none true n e = refl
pick-none false n e = e

pub quant-count : {d : ℕ} (f : Form) (y : Quant d f) → count_in (encode f) ≡ length y.decls
unfolding count_in
quant-count f y =
    let l = quant-two y in
    rw (lt-leb (length (encode f)) 1 (omega arith))
    (one_of (eqb (get_or (encode f) 0 0) 851) (eqb (get_or (encode f) 0 0) 852) (eqb (get_or (encode f) 0 0) 861) (eqb (get_or (encode f) 0 0) 862) (get_or (encode f) 1 0) (quant-tagged y) ∙ quant-second y)

pub other-count : (f : Form) → Ok 64 pred f → quantified f ≡ other → count_in (encode f) ≡ 0
unfolding count_in
other-count f ok e =
    let (a, b) = other-first ok e in
    pick-none (leb (length (encode f)) 1) _
    (none_of (eqb (get_or (encode f) 0 0) 851) (eqb (get_or (encode f) 0 0) 852) (eqb (get_or (encode f) 0 0) 861) (eqb (get_or (encode f) 0 0) 862) (get_or (encode f) 1 0) a b)

-- the two operators
pub op-range : (t : ℕ) → (eqb t 851 || eqb t 852) ≡ true → (851 ≤ t) × (t ≤ 852)
op-range t h = go (eqb t 851) (eqb t 852) refl refl h
  where
    go : (a b : Bool) → eqb t 851 ≡ a → eqb t 852 ≡ b → (a || b) ≡ true → (851 ≤ t) × (t ≤ 852)
    go true b x y z = let e = eqb-true t 851 x in (omega arith, omega arith)
    go false true x y z = let e = eqb-true t 852 y in (omega arith, omega arith)
    go false false x y z = absurd (clash cc)

pub quant-good : (f : Form) → Ok 64 pred f → (y : Quant 63 f) → GoodDecls y.decls
quant-good f ok y = around-good y.op y.which y.body y.decls (rw y.form at ok)

-- behind the head, with or without annotations
module _ (t : ℕ) (which : (eqb t 851 || eqb t 852) ≡ true) (ds : List Decl) (g : GoodDecls ds) (r row : List ℕ) where
  abbrev head_by : Bool → List ℕ
  head_by z = pick z ((t + 10) ∷ length ds ∷ encode_decls (unlisted ds)) (t ∷ length ds ∷ map name_of ds)

  by-note : (z : Bool) → row ≡ head_by z ++ r → body_start row (length ds) ≡ length (head_by z)
  unfolding body_start
  by-note true e =
      let (lo, hi) = op-range t which in
      let first : get_or row 0 0 ≡ t + 10 = ap (λ z. get_or z 0 0) e in
      let behind : drop 2 row ≡ encode_decls (unlisted ds) ++ r = ap (drop 2) e in
      rw (first, le-ltb (t + 10) 860 (omega arith)) (decls-end row ds 2 r g behind ∙ omega arith)
  by-note false e =
      let (lo, hi) = op-range t which in
      let first : get_or row 0 0 ≡ t = ap (λ z. get_or z 0 0) e in
      let l = length-map ds name_of in
      rw (first, lt-ltb t 860 (omega arith)) (omega arith)

  pub start-behind : row ≡ head_of t ds ++ r → body_start row (length ds) ≡ length (head_of t ds)
  start-behind e = by-note (any_noted ds) e

pub body-start : (f : Form) → Ok 64 pred f → (y : Quant 63 f) → body_start (encode f) (length y.decls) ≡ length (head_of y.op y.decls)
body-start f ok y =
    start-behind y.op y.which y.decls (quant-good f ok y) (encode y.body) (encode f) (ap encode y.form ∙ encode-around y.op 0 y.decls y.body)

-- what stands behind the first two words, by the first one
module _ {d : ℕ} {f : Form} (y : Quant d f) where
  head-words : encode f ≡ head_of y.op y.decls ++ encode y.body
  head-words = ap encode y.form ∙ encode-around y.op 0 y.decls y.body

  pub noted-words : any_noted y.decls ≡ true → drop 2 (encode f) ≡ encode_decls (unlisted y.decls) ++ encode y.body
  noted-words h = rw (head-words, h)

  pub plain-words : any_noted y.decls ≡ false → drop 2 (encode f) ≡ map name_of y.decls ++ encode y.body
  plain-words h = rw (head-words, h)

pub plain-decls : (ds : List Decl) → any_noted ds ≡ false → map unnoted (map name_of ds) ≡ ds
plain-decls [] h = refl
plain-decls ((n, absent) ∷ ds) h = ap (λ z. (n, absent) ∷ z) (plain-decls ds h)
plain-decls ((n, some x) ∷ ds) h = absurd (clash cc)
