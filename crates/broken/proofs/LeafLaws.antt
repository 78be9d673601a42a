-- A name or an index among the expressions that must come: the search passes it at once, or stops at the word after its tag. Assumes nothing.
use mathlib.Core.Path.{◌≡◌, refl, sym}
use mathlib.Core.Bool.{Bool, true, false, ◌&&◌}
use mathlib.Core.List.{List, [], ◌∷◌}
use Prim.Native.Nat.{ℕ, zero, suc, ◌+◌, ◌-◌, ◌≤◌, ◌<◌}
use native.Mathlib.Nat.{le_refl}
use native.Mathlib.Omega.{arith}
use borrow.Author.Tests.{le-leb, lt-leb, leb-true, ne_eqb}
use lib.Dec.{leb, eqb}
use lib.ListN.{length, get_or, drop}
use Rattle.tree.specs.Form.{pick, between}
use Rattle.tree.specs.Tag.{expr, own, own_of, shape_of, expr_tags}
use Rattle.form.specs.Decode.{is_leaf}
use Rattle.form.specs.Internal.Heads.{word_at, starts_leaf}
use Rattle.form.specs.Break.{Next, word, parts, next_of, own_in, Open, rest, least_form, least, least_all, after, break_from}
use Rattle.form.proofs.DecodeLaws.{clash, high-tag}
use Rattle.form.proofs.HeadLaws.{here, asked_in}
use Rattle.form.proofs.LeafLaws.{two-words, leaf_room}
use Rattle.broken.specs.Internal.Seeks.{is_own, no_kids, exprs_after, leaf_in, leaf_next, Reaches, Seeks, SeeksChild, Sought}
use Rattle.broken.proofs.DueLaws.{in-limits}
use Rattle.broken.proofs.KidsLaws.{kids-least}
use Rattle.broken.proofs.SeekLaws.{start, own-go, kids-there, child-found, child-go, child-stop}
use Rattle.std.specs.Prelude.{Ok, Err, Some, None}

both : (b c : Bool) → (b && c) ≡ true → (b ≡ true) × (c ≡ true)
both true true e = (refl, refl)
both true false e = absurd (clash cc)
both false c e = absurd (clash cc)

-- the test of its tag, by its parts
pub named-tag : (named : Bool) (t : ℕ) → named ≡ true → eqb t 1 ≡ leaf_in named t
named-tag named t e = rw e

pub no-tag : (named : Bool) (t : ℕ) → named ≡ false → t ≡ 0 → false ≡ leaf_in named t
no-tag named t e z = rw (e, z)

up-to-two : (t : ℕ) → (t ≡ 0 → ⊥) → leb t 2 ≡ is_leaf t
up-to-two zero ne = absurd (ne refl)
up-to-two (suc zero) ne = refl
up-to-two (suc (suc zero)) ne = refl
up-to-two (suc (suc (suc t))) ne =
    let one : suc (suc (suc t)) ≡ 1 → ⊥ = λ e. omega arith in
    let two : suc (suc (suc t)) ≡ 2 → ⊥ = λ e. omega arith in
    rw (ne_eqb (suc (suc (suc t))) 1 one, ne_eqb (suc (suc (suc t))) 2 two, lt-leb (suc (suc (suc t))) 2 (omega arith))

pub low-tag : (named : Bool) (t : ℕ) → named ≡ false → (t ≡ 0 → ⊥) → leb t 2 ≡ leaf_in named t
low-tag named t e ne = rw e (up-to-two t ne)

pub index_in : (named : Bool) (t : ℕ) → named ≡ true → eqb t 2 ≡ (named && eqb t 2)
index_in named t e = rw e

module _ (named : Bool) (d p e need at t : ℕ) where
  pub preds-first : 0 < p → false ≡ leaf_next named d p e need at t
  unfolding leaf_next
  preds-first h = rw (lt-leb p 0 h)

  module _ (none : p ≤ 0) (w : ℕ) (k : w ≡ least d (parts 0 0 e)) where
    pub leaf-no-room : 8192 ≤ at + (w + need) → false ≡ leaf_next named d p e need at t
    unfolding leaf_next
    leaf-no-room h = rw (le-leb p 0 none, ← k, lt-leb (suc (at + (w + need))) 8192 (omega arith))

    pub leaf-test : at + (w + need) < 8192 → (b : Bool) → b ≡ leaf_in named t → b ≡ leaf_next named d p e need at t
    unfolding leaf_next
    leaf-test h b e = rw (le-leb p 0 none, ← k, le-leb (suc (at + (w + need))) 8192 h) e

-- what must come after the tag: one word
abbrev leaf_word : Next
leaf_word = word 0 65535 (λ n. parts 0 0 0)

leaf-own : (named : Bool) (t : ℕ) → leaf_in named t ≡ true → next_of (own_in named expr t) ≡ leaf_word
unfolding next_of own own_of shape_of expr_tags
leaf-own false zero e = absurd (clash cc)
leaf-own false (suc zero) e = refl
leaf-own false (suc (suc zero)) e = refl
leaf-own false (suc (suc (suc t))) e = let h = high-tag t in absurd (clash cc)
leaf-own true zero e = absurd (clash cc)
leaf-own true (suc zero) e = refl
leaf-own true (suc (suc t)) e = let h = ne_eqb (suc (suc t)) 1 (λ q. omega arith) in absurd (clash cc)

least-nothing : (d : ℕ) → least d (parts 0 0 0) ≡ 0
unfolding least
least-nothing zero = omega arith
least-nothing (suc d) = omega arith

least-word : (d : ℕ) → least d leaf_word ≡ 1
unfolding least
least-word zero = omega arith
least-word (suc d) = omega arith

module _ (named : Bool) (row : List ℕ) (d p more : ℕ) where
  word-there : p < length row → leb (get_or row p 0) 65535 ≡ true → p + (1 + more) ≤ 8192 → Seeks named row p d leaf_word more (Ok (p + 1))
  unfolding is_own no_kids
  word-there h w k =
      let none = least-nothing d in
      let one = least-word d in
      let begun = start {named = named} row p d leaf_word more (omega arith) in
      let read = own-go row p d leaf_word more p leaf_word begun h refl (parts 0 0 0) (in-limits 0 65535 (get_or row p 0) (λ n. parts 0 0 0) (parts 0 0 0) refl (omega arith) (leb-true (get_or row p 0) 65535 w)) (le-leb (p + 1 + (least d (parts 0 0 0) + more)) 8192 (omega arith)) in
      kids-there row p d leaf_word more (p + 1) 0 0 read refl

  word-breaks : (z : ℕ → Next) (x : Open) (l : List ℕ) → word_at 0 65535 l ≡ None → break_from named z p (rest d leaf_word x) l ≡ p
  unfolding word_at break_from after least least_all
  word-breaks z x [] e = refl
  word-breaks z x (w ∷ l) e = by (between 0 65535 w) refl e
    where
      by : (b : Bool) → between 0 65535 w ≡ b → pick b (Some w) None ≡ None → break_from named z p (rest d leaf_word x) (w ∷ l) ≡ p
      by true q e = absurd (clash cc)
      by false q e = rw (q, lt-leb (suc p + (8193 + least_all x)) 8192 (omega arith))

  word_cut : word_at 0 65535 (drop p row) ≡ None → p ≤ 8192 → Seeks named row p d leaf_word more (Err p)
  word_cut e h = record { breaks = λ z x n. word-breaks z x (drop p row) e; rises = le_refl p; low = h; room = λ t. absurd (clash cc) }

-- the child whose tag it is
leaf-child : {named : Bool} (row : List ℕ) (d p more : ℕ) → leaf_in named (get_or row p 0) ≡ true → p + (2 + more) ≤ 8192 → (r : Sought) → Seeks named row (p + 1) d leaf_word more r → SeeksChild named row p d expr more r
leaf-child {named} row d p more tag h r found =
    let one = least-word d in
    child-found row p d expr more leaf_word (sym (leaf-own named (get_or row p 0) tag)) (omega arith) r found

one_form : (d need p e : ℕ) → p + (least d (parts 0 0 (suc e)) + need) < 8192 → least_form d ≡ 1
unfolding no_kids exprs_after
one_form zero need p e h = let first = kids-least 0 0 (suc e) refl in absurd (omega arith)
one_form (suc d) need p e h = refl

-- the search from its tag on, where its word has room
module _ {named : Bool} (row : List ℕ) (at d : ℕ) (o : Next) (need p e : ℕ) (i : Reaches named row at d o need p (parts 0 0 (suc e))) (tag : leaf_in named (get_or row p 0) ≡ true) (h : p + (least d (parts 0 0 (suc e)) + need) < 8192) where
  first-room : p + (2 + (least d (parts 0 0 e) + need)) ≤ 8192
  unfolding least
  first-room = let form = one_form d need p e h in omega arith

  pub leaf-past : p + 1 < length row → leb (get_or row (p + 1) 0) 65535 ≡ true → Reaches named row at d o need (p + 2) (parts 0 0 e)
  unfolding after
  leaf-past short low =
      let room = first-room in
      let two : p + 1 + 1 ≡ p + 2 = omega arith in
      let found = word-there named row (d - 1) (p + 1) (least d (parts 0 0 e) + need) short low (omega arith) in
      child-go row at d o need p (parts 0 0 (suc e)) i (omega arith) expr (parts 0 0 e) (λ z x. refl) (least d (parts 0 0 e) + need) refl (Ok (p + 2))
      (leaf-child row (d - 1) p (least d (parts 0 0 e) + need) tag room (Ok (p + 2)) (rw two at found)) refl

  pub leaf-cut : p < length row → word_at 0 65535 (drop (p + 1) row) ≡ None → Seeks named row at d o need (Err (p + 1))
  unfolding after
  leaf-cut inside none =
      let room = first-room in
      let cut = word_cut named row (d - 1) (p + 1) (least d (parts 0 0 e) + need) none (omega arith) in
      child-stop row at d o need p (parts 0 0 (suc e)) i inside expr (parts 0 0 e) (λ z x. refl) (least d (parts 0 0 e) + need) refl (Err (p + 1))
      (leaf-child row (d - 1) p (least d (parts 0 0 e) + need) tag room (Err (p + 1)) cut) refl

-- what the tests of the tag and of its word tell
first_leaf : (named : Bool) (d x y need p t : ℕ) → no_kids x y ≡ false → leaf_next named d x y need p t ≡ true → (e : ℕ) × (x ≡ 0) × (y ≡ suc e) × (p + (least d (parts 0 0 y) + need) < 8192) × (leaf_in named t ≡ true)
unfolding leaf_next no_kids
first_leaf named d zero zero need p t k f = absurd (clash cc)
first_leaf named d zero (suc e) need p t k f =
    let (room, tag) = both (leb (suc (p + (least d (parts 0 0 (suc e)) + need))) 8192) (leaf_in named t) f in
    (e, refl, refl, leb-true (suc (p + (least d (parts 0 0 (suc e)) + need))) 8192 room, tag)
first_leaf named d (suc x) y need p t k f =
    let (none, fits) = both (leb (suc x) 0) (leb (suc (p + (least d (parts 0 0 y) + need))) 8192 && leaf_in named t) f in
    let past = lt-leb (suc x) 0 (omega arith) in
    absurd (clash cc)

low_word : (row : List ℕ) (p w : ℕ) → word_at 0 65535 (drop p row) ≡ Some w → leb (get_or row p 0) 65535 ≡ true
unfolding word_at
low_word row p w e = by (between 0 65535 (get_or row p 0)) refl (rw (here row p (asked_in 0 65535 row p w e)) at e)
  where
    by : (b : Bool) → between 0 65535 (get_or row p 0) ≡ b → pick b (Some (get_or row p 0)) None ≡ Some w → leb (get_or row p 0) 65535 ≡ true
    by true q e = (both (leb 0 (get_or row p 0)) (leb (get_or row p 0) 65535) q).1
    by false q e = absurd (clash cc)

module _ {named : Bool} (row : List ℕ) (at d : ℕ) (o : Next) (need p x y : ℕ) (i : Reaches named row at d o need p (parts 0 x y)) (k : no_kids x y ≡ false) (f : leaf_next named d x y need p (get_or row p 0) ≡ true) where
  pub leaf-go : (w : ℕ) → word_at 0 65535 (drop (p + 1) row) ≡ Some w → Reaches named row at d o need (p + 2) (parts 0 x (y - 1))
  leaf-go w q =
      let (e, none, first, room, tag) = first_leaf named d x y need p (get_or row p 0) k f in
      let last : suc e - 1 ≡ e = omega arith in
      rw (none, first, last) (leaf-past row at d o need p e (rw (none, first) at i) tag (rw first at room) (asked_in 0 65535 row (p + 1) w q) (low_word row (p + 1) w q))

  pub leaf-stop : p < length row → word_at 0 65535 (drop (p + 1) row) ≡ None → Seeks named row at d o need (Err (p + 1))
  leaf-stop inside q =
      let (e, none, first, room, tag) = first_leaf named d x y need p (get_or row p 0) k f in
      leaf-cut row at d o need p e (rw (none, first) at i) tag (rw first at room) inside q

-- the same from the test of both words
pub leaf-words : (row : List ℕ) (p d : ℕ) → starts_leaf d (drop p row) ≡ true → (is_leaf (get_or row p 0) ≡ true) × (p + 1 < length row) × (leb (get_or row (p + 1) 0) 65535 ≡ true)
unfolding starts_leaf
leaf-words row p d e =
    let room = leaf_room row p d e in
    let words : starts_leaf d (get_or row p 0 ∷ (get_or row (p + 1) 0 ∷ drop (p + 1 + 1) row)) ≡ true = rw (two-words row p d room.1) at e in
    let deep = both (leb 1 d) (is_leaf (get_or row p 0) && leb (get_or row (p + 1) 0) 65535) words in
    let (tag, low) = both (is_leaf (get_or row p 0)) (leb (get_or row (p + 1) 0) 65535) deep.1 in
    (tag, room.1, low)
