-- Words that are the head of a quantified predicate: their number, their operator and their declarations. Assumes nothing.
use mathlib.Core.Path.{◌≡◌, refl, ap, sym, ◌∙◌}
use mathlib.Core.Bool.{Bool, true, false, not}
use mathlib.Core.List.{List, [], ◌∷◌, map}
use Prim.Native.Nat.{ℕ, zero, suc, ◌+◌, ◌-◌, ◌*◌, ◌≤◌, ◌<◌}
use native.Mathlib.Omega.{arith}
use borrow.Author.Tests.{lt-ltb, le-ltb}
use lib.Dec.{eqb, ltb}
use lib.ListN.{length, get_or, take, drop, set, replicate, length-map, length-set}
use lib.Seq.{length-take-le}
use Rattle.tree.specs.Form.{pick, encode_decls}
use Rattle.form.proofs.DecodeLaws.{clash}
use Rattle.rules.specs.Fill.{Decl, unnoted, name_of, unlisted, any_noted}
use Rattle.rules.proofs.WalkLaws.{and_left, and_right}
use Rattle.rules.proofs.JoinLaws.{names-plain}
use Rattle.shift.specs.Internal.Items.{store}
use Rattle.replace.specs.Internal.Pieces.{are_names}
use Rattle.replace.proofs.BuildLaws.{rest_part}
use Rattle.decls.specs.Internal.Noted.{names_fit}
use Rattle.decls.proofs.CountLaws.{op-range}
use Rattle.decls.proofs.HeadLaws.{stored-behind, flags-length, names-fit}
use Rattle.one_point.specs.Internal.Noted.{Flags}
use Rattle.one_point.specs.Internal.Reduce.{operator_in, decls_in, Headed, is_simple}

module _ (head : List ℕ) (h : Headed head) where
  second : (t : ℕ) (ds : List Decl) (z : Bool) → get_or (pick z ((t + 10) ∷ length ds ∷ encode_decls (unlisted ds)) (t ∷ length ds ∷ map name_of ds)) 1 0 ≡ length ds
  second t ds true = refl
  second t ds false = refl

  two-words : (t : ℕ) (ds : List Decl) (z : Bool) → 2 ≤ length (pick z ((t + 10) ∷ length ds ∷ encode_decls (unlisted ds)) (t ∷ length ds ∷ map name_of ds))
  two-words t ds true = omega arith
  two-words t ds false = omega arith

  pub head-count : get_or head 1 0 ≡ length (decls_in head)
  head-count = ap (λ z. get_or z 1 0) (sym h.is) ∙ second (operator_in head) (decls_in head) (any_noted (decls_in head))

  pub head-two : 2 ≤ length head
  head-two = rw (← h.is) (two-words (operator_in head) (decls_in head) (any_noted (decls_in head)))

  pub head-most : get_or head 1 0 ≤ 32
  head-most = let c = head-count in let f = h.few in omega arith

  pub head-least : 1 ≤ get_or head 1 0
  head-least = let c = head-count in let f = h.least in omega arith

  pub few_words : (p : ℕ) → get_or head 1 0 ≤ length (set (replicate {A = ℕ} 32 0) p 1)
  few_words p = rw (length-set (replicate {A = ℕ} 32 0) p 1) head-most

  ones-front : (k m : ℕ) → k ≤ m → take k (replicate {A = ℕ} m 1) ≡ replicate k 1
  ones-front zero m e = refl
  ones-front (suc k) zero e = absurd (omega arith)
  ones-front (suc k) (suc m) e = ap (λ z. 1 ∷ z) (ones-front k m (omega arith))

  pub ones-ready : (0 < get_or head 1 0) × (get_or head 1 0 ≤ 32) × (take {A = ℕ} (get_or head 1 0 + 1) (replicate 33 1) ≡ replicate (get_or head 1 0 + 1) 1)
  ones-ready = let l = head-least in let m = head-most in (omega arith, m, ones-front (get_or head 1 0 + 1) 33 (omega arith))

  pub operator-low : operator_in head ≤ 852
  operator-low = (op-range (operator_in head) h.which).1

  -- how the code finds the operator
  pub operator-noted : 860 < get_or head 0 0 → get_or head 0 0 - 10 ≡ operator_in head
  unfolding operator_in
  operator-noted l = rw (lt-ltb 860 (get_or head 0 0) l)

  pub operator-plain : get_or head 0 0 ≤ 860 → get_or head 0 0 ≡ operator_in head
  unfolding operator_in
  operator-plain l = rw (le-ltb 860 (get_or head 0 0) l)

  -- without annotations
  module _ (plain : ltb 860 (get_or head 0 0) ≡ false) where
    pub plain-operator : operator_in head ≡ get_or head 0 0
    unfolding operator_in
    plain-operator = rw plain

    pub plain-decls : decls_in head ≡ map unnoted (drop 2 head)
    unfolding decls_in
    plain-decls = rw plain

    pub plain-count : length (drop 2 head) ≡ length (decls_in head)
    plain-count = sym (ap length plain-decls ∙ length-map (drop 2 head) unnoted)

    pub plain-names : are_names (drop 2 head) ≡ true
    plain-names = ap are_names (sym (ap (λ z. map name_of z) plain-decls ∙ names-plain (drop 2 head))) ∙ h.names

-- how the code finds whether there are annotations
module _ (head body : List ℕ) where
  pub simple-not : 860 < get_or head 0 0 → false ≡ is_simple head body
  unfolding is_simple
  simple-not l = rw (lt-ltb 860 (get_or head 0 0) l)

  pub simple-by : get_or head 0 0 ≤ 860 → not (eqb (get_or body 0 0) (get_or head 0 0 + 10)) ≡ is_simple head body
  unfolding is_simple
  simple-by l = rw (le-ltb 860 (get_or head 0 0) l)

  pub simple-plain : is_simple head body ≡ true → ltb 860 (get_or head 0 0) ≡ false
  unfolding is_simple
  simple-plain e = go (ltb 860 (get_or head 0 0)) (and_left (not (ltb 860 (get_or head 0 0))) (not (eqb (get_or body 0 0) (get_or head 0 0 + 10))) e)
    where
      go : (b : Bool) → not b ≡ true → b ≡ false
      go true e = absurd (clash cc)
      go false e = refl

  pub simple-bare : is_simple head body ≡ true → eqb (get_or body 0 0) (get_or head 0 0 + 10) ≡ false
  unfolding is_simple
  simple-bare e = go (eqb (get_or body 0 0) (get_or head 0 0 + 10)) (and_right (not (ltb 860 (get_or head 0 0))) (not (eqb (get_or body 0 0) (get_or head 0 0 + 10))) e)
    where
      go : (b : Bool) → not b ≡ true → b ≡ false
      go true e = absurd (clash cc)
      go false e = refl

-- words stored in a row leave its length
pub store_long : (ws l : List ℕ) (i : ℕ) → length (store l i ws) ≡ length l
unfolding store
store_long [] l i = refl
store_long (w ∷ ws) l i = store_long ws (set l i w) (i + 1) ∙ length-set l i w

-- the declarations of a head in a row with flags: the head itself, or its names with flags
first_of : (t : ℕ) (ds : List Decl) (z : Bool) → get_or (pick z ((t + 10) ∷ length ds ∷ encode_decls (unlisted ds)) (t ∷ length ds ∷ map name_of ds)) 0 0 ≡ pick z (t + 10) t
first_of t ds true = refl
first_of t ds false = refl

pub flags-self : (head : List ℕ) → Headed head → 860 < get_or head 0 0 → Flags head head
flags-self head h high = record { is = go (any_noted (decls_in head)) refl; long = head-two head h; short = h.short }
  where
    go : (z : Bool) → any_noted (decls_in head) ≡ z → drop 2 head ≡ encode_decls (unlisted (decls_in head))
    go true e = ap (drop 2) (sym h.is) ∙ rw e
    go false e =
        let w : get_or head 0 0 ≡ operator_in head = ap (λ z. get_or z 0 0) (sym h.is) ∙ (first_of (operator_in head) (decls_in head) (any_noted (decls_in head)) ∙ rw e) in
        let m = operator-low head h in
        absurd (omega arith)

module _ (head : List ℕ) (h : Headed head) (low : get_or head 0 0 ≤ 860) (l l' : List ℕ) (long : length l ≡ 66) (end : ℕ) where
  abbrev ns : List ℕ
  ns = take (length head - 2) (drop 2 head)

  ns-are : ns ≡ drop 2 head
  ns-are = rest_part head 2

  ns-few : length (drop 2 head) ≤ 32
  ns-few = let c = plain-count head h (le-ltb 860 (get_or head 0 0) low) in let f = h.few in omega arith

  made-fit : names_fit (length (drop 2 head)) 66 ≡ true
  made-fit = names-fit (length (drop 2 head)) 66 ns-few (let n = ns-few in omega arith)

  module _ (ends : end ≡ pick (names_fit (length ns) (length l)) (2 + 2 * length ns) 0) (put : l' ≡ pick (names_fit (length ns) (length l)) (store l 2 (encode_decls (unlisted (map unnoted ns)))) l) where
    made-end : end ≡ 2 + 2 * length (drop 2 head)
    made-end = ends ∙ rw (ns-are, long, made-fit)

    made-store : l' ≡ store l 2 (encode_decls (unlisted (map unnoted (drop 2 head))))
    made-store = put ∙ rw (ns-are, long, made-fit)

    pub flags-made : Flags head (take end l')
    flags-made =
        let ws = encode_decls (unlisted (map unnoted (drop 2 head))) in
        let n = flags-length (drop 2 head) in
        let f = ns-few in
        let e : end ≡ 2 + length ws = let m = made-end in omega arith in
        let b : 2 + length ws ≤ length l = omega arith in
        let d : decls_in head ≡ map unnoted (drop 2 head) = plain-decls head h (le-ltb 860 (get_or head 0 0) low) in
        let i : drop 2 (take end l') ≡ ws = rw (e, made-store) (stored-behind l ws b) in
        let q : length l' ≡ length l = ap length made-store ∙ store_long ws l 2 in
        let o : length (take end l') ≡ end = length-take-le end l' (omega arith) in
        record { is = i ∙ ap (λ z. encode_decls (unlisted z)) (sym d); long = omega arith; short = omega arith }
