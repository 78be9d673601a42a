-- The target's place filled in the rest of a body: the row that is written is the definition's, whichever way it is written. Assumes nothing.
use mathlib.Core.Path.{◌≡◌, refl, ap, sym, ◌∙◌}
use mathlib.Core.Bool.{Bool, true, false, not}
use mathlib.Core.List.{List}
use Prim.Native.Nat.{ℕ, suc, ◌+◌, ◌-◌, ◌≤◌, ◌<◌}
use native.Mathlib.Omega.{arith}
use borrow.Author.Tests.{eq-eqb, ne_eqb, eqb-true, eqb-false, lt-ltb, le-ltb, ltb-true}
use lib.Dec.{eqb, ltb}
use lib.ListN.{length, get_or, take, drop, replicate}
use Rattle.tree.specs.Form.{pick}
use Rattle.form.proofs.DecodeLaws.{clash}
use Rattle.reader.specs.Internal.Reads.{mark}
use Rattle.replace.proofs.BuildLaws.{rest_part}
use Rattle.one_point.specs.Internal.Reduce.{operator_in, decls_in, placed_outcome, Placing, Marking, is_simple, target_of, named_row, Putting}
use Rattle.one_point.specs.Internal.Noted.{Flags, kept_row, is_apart, rest_row}
use Rattle.one_point.proofs.HeadedLaws.{operator-noted, plain-operator, plain-decls, plain-count, plain-names, simple-plain, simple-bare, flags-self}
use Rattle.one_point.proofs.InsidePoint.{Fitting}
use Rattle.one_point.proofs.PlaceLaws.{named-row, outcome-is, place-there, target_is, putting}
use Rattle.one_point.proofs.KeptRows.{row_stays, row_first, row_other}

-- how the code finds out whether the declarations stay apart
module _ (head : List ℕ) (p : ℕ) (body : List ℕ) where
  pub apart-plain : get_or head 0 0 ≤ 860 → false ≡ is_apart head p body
  unfolding is_apart
  apart-plain l = rw (le-ltb 860 (get_or head 0 0) l)

  module _ (high : 860 < get_or head 0 0) where
    pub apart-first : p ≡ 0 → true ≡ is_apart head p body
    unfolding is_apart
    apart-first e = rw (lt-ltb 860 (get_or head 0 0) high, eq-eqb p 0 e)

    module _ (some : p ≡ 0 → ⊥) where
      pub apart-behind : (p + 1 ≡ get_or head 1 0 → ⊥) → true ≡ is_apart head p body
      unfolding is_apart
      apart-behind n = rw (lt-ltb 860 (get_or head 0 0) high, ne_eqb p 0 some, ne_eqb (p + 1) (get_or head 1 0) n)

      module _ (last : p + 1 ≡ get_or head 1 0) where
        pub apart-same : get_or body 0 0 ≡ get_or head 0 0 → false ≡ is_apart head p body
        unfolding is_apart
        apart-same e = rw (lt-ltb 860 (get_or head 0 0) high, ne_eqb p 0 some, eq-eqb (p + 1) (get_or head 1 0) last, eq-eqb (get_or body 0 0) (get_or head 0 0) e)

        pub apart_by : (get_or body 0 0 ≡ get_or head 0 0 → ⊥) → not (eqb (get_or body 0 0) (get_or head 0 0 - 10)) ≡ is_apart head p body
        unfolding is_apart
        apart_by n = rw (lt-ltb 860 (get_or head 0 0) high, ne_eqb p 0 some, eq-eqb (p + 1) (get_or head 1 0) last, ne_eqb (get_or body 0 0) (get_or head 0 0) n)

-- then the others are kept round the body
module _ (head : List ℕ) (p : ℕ) (part pm body marks : List ℕ) (h : Putting head p part pm body marks) (sure : Bool) (inside : sure ≡ true → Fitting h.placing.by h.placing.form) (room : ℕ) where
  abbrev Kept : Type 0
  Kept = kept_row sure head head p part pm body marks room ≡ placed_outcome (operator_in head) (decls_in head) (target_of head p) part body room

  module _ (high : 860 < get_or head 0 0) where
    flags : Flags head head
    flags = flags-self head h.placing.heading high

    unlike : (a b : Bool) → eqb (get_or body 0 0) (get_or head 0 0) ≡ a → eqb (get_or body 0 0) (get_or head 0 0 - 10) ≡ b → (p ≡ 0 → ⊥) → p + 1 ≡ get_or head 1 0 → pick a false (not b) ≡ true → Kept
    unlike true b x y some last e = absurd (clash cc)
    unlike false true x y some last e = absurd (clash cc)
    unlike false false x y some last e =
        let o = operator-noted head h.placing.heading high in
        row_other head head p part pm body marks h flags sure inside some last (λ z. eqb-false (get_or body 0 0) (get_or head 0 0 - 10) y (z ∙ sym o)) (λ z. eqb-false (get_or body 0 0) (get_or head 0 0) x (omega arith)) room

    behind : (b : Bool) → eqb (p + 1) (get_or head 1 0) ≡ b → (p ≡ 0 → ⊥) → pick b (pick (eqb (get_or body 0 0) (get_or head 0 0)) false (not (eqb (get_or body 0 0) (get_or head 0 0 - 10)))) true ≡ true → Kept
    behind true x some e = unlike (eqb (get_or body 0 0) (get_or head 0 0)) (eqb (get_or body 0 0) (get_or head 0 0 - 10)) refl refl some (eqb-true (p + 1) (get_or head 1 0) x) e
    behind false x some e = row_stays head head p part pm body marks h flags sure inside (eqb-false (p + 1) (get_or head 1 0) x) room

    first : (b : Bool) → eqb p 0 ≡ b → pick b true (pick (eqb (p + 1) (get_or head 1 0)) (pick (eqb (get_or body 0 0) (get_or head 0 0)) false (not (eqb (get_or body 0 0) (get_or head 0 0 - 10)))) true) ≡ true → Kept
    first true x e = row_first head head p part pm body marks h flags sure inside (eqb-true p 0 x) room
    first false x e = behind (eqb (p + 1) (get_or head 1 0)) refl (eqb-false p 0 x) e

  pub apart-row : is_apart head p body ≡ true → Kept
  unfolding is_apart
  apart-row e = go (ltb 860 (get_or head 0 0)) refl e
    where
      go : (b : Bool) → ltb 860 (get_or head 0 0) ≡ b
          → pick b (pick (eqb p 0) true (pick (eqb (p + 1) (get_or head 1 0)) (pick (eqb (get_or body 0 0) (get_or head 0 0)) false (not (eqb (get_or body 0 0) (get_or head 0 0 - 10)))) true)) false ≡ true → Kept
      go true x e = first (ltb-true 860 (get_or head 0 0) x) (eqb p 0) refl e
      go false x e = absurd (clash cc)

-- how the code goes on
module _ (head : List ℕ) (p : ℕ) (part pm body marks : List ℕ) (sure : Bool) (room : ℕ) where
  pub rest-named : is_simple head body ≡ true → named_row sure (get_or head 0 0) (take (length head - 2) (drop 2 head)) p part pm body marks room ≡ rest_row sure head p part pm body marks room
  unfolding rest_row
  rest-named e = rw (rest_part head 2, e)

  pub rest-kept : is_simple head body ≡ false → is_apart head p body ≡ true → kept_row sure head head p part pm body marks room ≡ rest_row sure head p part pm body marks room
  unfolding rest_row
  rest-kept e a = rw (e, a)

  pub rest-noted : is_simple head body ≡ false → is_apart head p body ≡ false → placed_outcome (operator_in head) (decls_in head) (target_of head p) part body room ≡ rest_row sure head p part pm body marks room
  unfolding rest_row
  rest-noted e a = rw (e, a)

-- the target's place
module _ (head : List ℕ) (i : ℕ) (part rest : List ℕ) (h : Placing head i part rest) (p : ℕ) (e : p ≡ get_or head 1 0 - 1 - i) (pm : List ℕ) (k : Marking part pm) (marks : List ℕ)
    (is : marks ≡ mark h.form 0 (suc i) (replicate (length rest) 0)) where
  pub placed_row : (sure : Bool) → (sure ≡ true → Fitting h.by h.form) → (room : ℕ) → rest_row sure head p part pm rest marks room ≡ placed_outcome (operator_in head) (decls_in head) i part rest room
  unfolding rest_row
  placed_row sure inside room = go (is_simple head rest) (is_apart head p rest) refl refl
    where
      go : (b a : Bool) → is_simple head rest ≡ b → is_apart head p rest ≡ a
          → pick b (named_row sure (get_or head 0 0) (drop 2 head) p part pm rest marks room)
          (pick a (kept_row sure head head p part pm rest marks room) (placed_outcome (operator_in head) (decls_in head) (target_of head p) part rest room)) ≡ placed_outcome (operator_in head) (decls_in head) i part rest room
      go true a s x =
          let f = simple-plain head rest s in
          let o = plain-operator head h.heading f in
          let d = plain-decls head h.heading f in
          let n = plain-count head h.heading f in
          let q = h.target in
          let l = h.heading.few in
          let t = place-there head i part rest h p e in
          named-row (get_or head 0 0) (rw (← o) h.heading.which) (drop 2 head) (plain-names head h.heading f) (omega arith) i (omega arith) part rest h.by h.form h.is-part h.up h.is-rest pm k marks is (simple-bare head rest s) sure inside p (omega arith) room
          ∙ (rw (← o, ← d) (sym (outcome-is head i part rest h room)))
      go false true s x =
          apart-row head p part pm rest marks (putting head i part rest h p e pm k marks is) sure inside room x ∙ ap (λ z. placed_outcome (operator_in head) (decls_in head) z part rest room) (target_is head i part rest h p e)
      go false false s x = rw (target_is head i part rest h p e)
