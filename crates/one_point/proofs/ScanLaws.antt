-- The scan at a predicate that is copied, and at the sides of an equality. Assumes nothing.
use mathlib.Core.Path.{◌≡◌, refl, ap, ◌∙◌}
use mathlib.Core.Bool.{Bool, true, false}
use mathlib.Core.Option.{some}
use mathlib.Core.List.{List, [], ◌∷◌, ◌++◌, append-nil}
use Prim.Native.Nat.{ℕ, zero, suc, ◌+◌, ◌-◌, ◌*◌, ◌≤◌, ◌<◌}
use native.Mathlib.Omega.{arith}
use borrow.Author.Tests.{eqb-true, eqb-false}
use lib.Dec.{eqb}
use lib.ListN.{length, take, drop}
use Rattle.std.specs.Prelude.{Some, None, Option}
use Rattle.tree.specs.Form.{Form, node, noted, Decls, Forms, none, more, encode, encode_all}
use Rattle.tree.specs.Tag.{Sort, expr, pred, shape_of, pred_tags}
use Rattle.form.specs.Decode.{Got, got, no-form, gots, decode}
use Rattle.form.proofs.DecodeLaws.{clash, Ok, ok-node, ok-noted, OkAll, ok-none, ok-more, decode_all-encode, decode-sound, decode-at}
use Rattle.reader.specs.Internal.Reads.{decode_in}
use Rattle.rules.specs.Replacement.{nothing, accept}
use Rattle.rules.specs.Split.{parts, equal}
use Rattle.rules.specs.Scan.{scanned}
use Rattle.places.specs.Internal.Positions.{end_at, read_all, Beside, Within, both_pairs, parts_at}
use Rattle.places.specs.Internal.Wrote.{Wrote}
use Rattle.one_point.specs.Internal.Writes.{Neat, neat-not, neat-other, neat-noted}
use Rattle.one_point.specs.Internal.Parts.{accept_words, TookIs}
use Rattle.one_point.specs.Internal.Scans.{Left, Became, Sided}
use Rattle.places.proofs.ViewLaws.{plain-node, plain-noted}
use Rattle.places.proofs.SidesLaws.{skip_is, part-words}
use Rattle.places.proofs.WroteLaws.{wrote-end}
use Rattle.places.proofs.PartsLaws.{tag_at, some_words, in_row, parts-single}
use Rattle.places.proofs.StepLaws.{equal-length}
use Rattle.one_point.proofs.AcceptLaws.{took}

-- a well-formed predicate that is a not has one child
pub one_more : {d : ℕ} {s : Sort} {ks : Forms} → OkAll d (s ∷ []) ks → (g : Form) × (ks ≡ more g none) × Ok d s g
one_more (ok-more {f = g} h ok-none) = (g, refl, h)

not_made : {o ds : List ℕ} {ks : Forms} (g : Form) → o ≡ [] → ds ≡ [] → ks ≡ more g none → Neat g → Neat (node 8 o ds ks)
not_made g a b e n = rw (a, b, e) (neat-not n)

neat-tag : {d t : ℕ} {o ds : List ℕ} {ks : Forms} → Ok (suc d) pred (node t o ds ks) → ((g : Form) → Ok d pred g → Neat g) → (b : Bool) → eqb t 8 ≡ b → Neat (node t o ds ks)
unfolding shape_of pred_tags
neat-tag {d} {t} {o} {ds} {ks} w ih true e =
    let q : t ≡ 8 = eqb-true t 8 e in
    let (a, b, k) = plain-node (rw q at w) 1 0 refl in
    let (g, m, h) = one_more k in
    rw q (not_made g a b m (ih g h))
neat-tag {t = t} w ih false e = neat-other (eqb-false t 8 e)

not_noted : {d : ℕ} {o : List ℕ} {ds : Decls} {ks : Forms} → Ok (suc d) pred (noted 8 o ds ks) → ⊥
unfolding shape_of pred_tags
not_noted w = plain-noted w 1 0 refl

pub pred-neat : (d : ℕ) (f : Form) → Ok d pred f → Neat f
pred-neat zero f x = elim x [ ]
pred-neat (suc d) f (ok-node {t = t} a b k) = neat-tag (ok-node a b k) (λ g h. pred-neat d g h) (eqb t 8) refl
pred-neat (suc d) f (ok-noted {t = t} a b v k) = neat-noted {t = t} (λ q. not_noted {d = d} (rw q at (ok-noted a b v k)))

-- a predicate that is copied
module _ (row : List ℕ) (d at : ℕ) (f : Form) (is : decode d pred (drop at row) ≡ got f (drop (at + length (encode f)) row)) where
  pub stands-words : drop at row ≡ encode f ++ drop (at + length (encode f)) row
  stands-words = (decode-sound d pred (drop at row) f (drop (at + length (encode f)) row) is).0

  pub stands-ok : Ok d pred f
  stands-ok = (decode-sound d pred (drop at row) f (drop (at + length (encode f)) row) is).1

  pub fits : at + length (encode f) ≤ length row
  fits = in_row row (encode f) (drop (at + length (encode f)) row) at stands-words (some_words f)

  pub copied-form : (n pos end : ℕ) (out out' : List ℕ) → n ≡ at + length (encode f) → Wrote pos out (take (n - at) (drop at row)) end out'
      → Became row at f pos out (scanned nothing (some f)) (record { next = n; found = None; end = Some end }) out'
  unfolding Left TookIs
  copied-form n pos end out out' e w =
      let a : take (n - at) (drop at row) ≡ encode f = part-words row (encode f) (drop (at + length (encode f)) row) at n stands-words e in
      let v : Wrote pos out (encode f) end out' = rw a at w in
      let l = wrote-end pos end out (encode f) out' v in
      record { next = e; left = (refl, refl, v, pred-neat d f stands-ok); short = omega arith }

-- where a form ends that is read at a position, and that none is
pub record EndsAt (row : List ℕ) (d : ℕ) (s : Sort) (at n : ℕ) : Type 0 where
  pub form : Form
  pub is : decode d s (drop at row) ≡ got form (drop (at + length (encode form)) row)
  pub end : n ≡ at + length (encode form)

module _ (row : List ℕ) (d : ℕ) (s : Sort) (at : ℕ) (deep : d ≤ 64) (r : Option ℕ) (e : r ≡ end_at at (decode_in d 0 s (drop at row))) where
  pub ends_at : (n : ℕ) → r ≡ Some n → EndsAt row d s at n
  unfolding end_at
  ends_at n q = go (decode d s (drop at row)) refl (skip_is at d s (drop at row) r deep e)
    where
      go : (g : Got) → decode d s (drop at row) ≡ g → r ≡ end_at at g → EndsAt row d s at n
      go (got f x) p e = record { form = f; is = p ∙ ap (λ (z : List ℕ). got f z) (decode-at d s row at f x p); end = cc }
      go no-form p e = absurd (clash cc)

  pub ends-not : r ≡ None → decode d s (drop at row) ≡ no-form
  unfolding end_at
  ends-not q = go (decode d s (drop at row)) (skip_is at d s (drop at row) r deep e)
    where
      go : (g : Got) → r ≡ end_at at g → g ≡ no-form
      go (got f x) e = absurd (clash cc)
      go no-form e = refl

-- the sides of an equality
module _ (row : List ℕ) (at right next : ℕ) (x : Sided row at right next) where
  left-sound : (drop (at + 1) row ≡ encode x.left ++ drop right row) × Ok 64 expr x.left
  left-sound = decode-sound 64 expr (drop (at + 1) row) x.left (drop right row) x.is-left

  other-sound : (drop right row ≡ encode x.other ++ drop next row) × Ok 64 expr x.other
  other-sound = decode-sound 64 expr (drop right row) x.other (drop next row) x.is-other

  pub sides-end : next ≡ at + length (encode (equal x.left x.other))
  sides-end = let s = equal-length x.left x.other in let a = x.left_end in let b = x.other-end in omega arith

  pub sides-in : (at < next) × (next ≤ length row)
  sides-in =
      let e = sides-end in
      let s = some_words (equal x.left x.other) in
      let i = in_row row (encode (equal x.left x.other)) (drop next row) at x.words s in
      (omega arith, omega arith)

  pub sides-within : Within row (record { left = at + 1; middle = right; right = right; end = next })
  sides-within =
      let i = sides-in.1 in
      let a = x.left_end in
      let b = x.other-end in
      record { left_up = omega arith; left_in = omega arith; right-up = omega arith; right-in = omega arith }

  one_left : read_all 1 (drop (at + 1) row) ≡ gots (more x.left none) (drop right row)
  unfolding encode
  one_left = rw (left-sound.0, ← append-nil (encode x.left)) (decode_all-encode (ok-more left-sound.1 ok-none) (drop right row))

  one_right : read_all 1 (drop right row) ≡ gots (more x.other none) (drop next row)
  unfolding encode
  one_right = rw (other-sound.0, ← append-nil (encode x.other)) (decode_all-encode (ok-more other-sound.1 ok-none) (drop next row))

  one-length : (f : Form) → length (encode_all (more f none)) ≡ length (encode f)
  unfolding encode
  one-length f = rw append-nil refl

  pub sides-beside : (pos room : ℕ) → pos + 2 * (next - at) ≤ room → length row ≤ 8192 → Beside row (at + 1) right 1 (pos + 2) 0 room
  sides-beside pos room k short =
      let s = equal-length x.left x.other in
      let e = sides-end in
      let a = one-length x.left in
      let b = one-length x.other in
      let i = sides-in.1 in
      record {
        lefts = more x.left none;
        rights = more x.other none;
        left-rest = drop right row;
        right-rest = drop next row;
        is-left = one_left;
        is_right = one_right;
        room = omega arith;
        few = omega arith;
      }

  pub parts_are : parts_at row (at + 1) right 1 ≡ parts x.left x.other
  unfolding parts_at parts
  parts_are = rw (one_left, one_right) (append-nil (parts x.left x.other))

  -- they are one part where they are not both pairs
  pub one-part : both_pairs row (at + 1) right ≡ false → parts x.left x.other ≡ (x.left, x.other) ∷ []
  unfolding both_pairs
  one-part e =
      let a = tag_at row (at + 1) x.left (drop right row) left-sound.0 in
      let b = tag_at row right x.other (drop next row) other-sound.0 in
      parts-single x.left x.other (rw (a, b) at e)

  pub part-took : length row ≤ 8192 → (n : ℕ) → TookIs row (accept n x.left x.other) (accept_words n (record { left = at + 1; middle = right; right = right; end = next }) row)
  part-took short n =
      let i = sides-in.1 in
      let a = x.left_end in
      let b = x.other-end in
      took row n (record { left = at + 1; middle = right; right = right; end = next }) x.left x.other left-sound.1 other-sound.1 (omega arith) (omega arith) x.left_end x.other-end left-sound.0 other-sound.0
