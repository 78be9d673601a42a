-- The search for the break, word by word: what is reached, and what is answered where the row breaks. Assumes nothing.
use mathlib.Core.Path.{◌≡◌, refl, ap, sym, ◌∙◌, subst}
use mathlib.Core.Bool.{Bool, true, false, ◌&&◌, not}
use mathlib.Core.List.{List}
use Prim.Native.Nat.{ℕ, zero, suc, ◌+◌, ◌-◌, ◌≤◌, ◌<◌}
use native.Mathlib.Numerals.{add-one}
use native.Mathlib.Nat.{le_refl, le_trans}
use native.Mathlib.Omega.{arith}
use borrow.Author.Tests.{le-leb, lt-leb, leb-true, not-true, not-false}
use lib.Dec.{leb, eqb}
use lib.ListN.{length, get_or, drop}
use Rattle.tree.specs.Form.{pick}
use Rattle.tree.specs.Tag.{Sort, expr, own}
use Rattle.form.specs.Break.{Next, word, note, parts, never, decls_next, next_of, own_in, Open, rest, least_form, least, least_all, after, break_from}
use Rattle.form.proofs.DecodeLaws.{clash}
use Rattle.form.proofs.HeadLaws.{gone, here}
use Rattle.broken.specs.declared.due.Due.{Due}
use Rattle.broken.specs.declared.due.Due.TheVariants.{Kids, Ask, Note, Wrong}
use Rattle.broken.specs.declared.due.Then.{Then}
use Rattle.broken.specs.Internal.Seeks.{next_due, is_own, sort_of, no_kids, exprs_after, after_word, Reaches, Sought, place_of, Starts, Seeks, SeeksOwn, SeeksChild}
use Rattle.broken.proofs.KidsLaws.{kids-step, kids-least, kids_over}
use Rattle.std.specs.Prelude.{Ok, Err, is_ok, Option, Some, Result}

-- what the code's tests say
pub is_true : {b c : Bool} → b ≡ c → b ≡ true → c ≡ true
is_true e t = cc

pub is_false : {b c : Bool} → b ≡ c → b ≡ false → c ≡ false
is_false e t = cc

pub told-true : {b c : Bool} → b ≡ c → not b ≡ false → c ≡ true
told-true {b} e t = let h = not-false b t in cc

pub told-false : {b c : Bool} → b ≡ c → not b ≡ true → c ≡ false
told-false {b} e t = let h = not-true b t in cc

not-ok : {r : Sought} {e : ℕ} → r ≡ Err e → is_ok r ≡ false
not-ok t = rw t

now-ok : {r : Sought} {e : ℕ} → r ≡ Ok e → is_ok r ≡ true
now-ok t = rw t

pub passed : {named : Bool} {row : List ℕ} {at d : ℕ} {s : Sort} {need : ℕ} {r : Sought} {e : ℕ} → SeeksChild named row at d s need r → r ≡ Ok e → at < e
passed {at = at} {r = r} c t = let z : place_of r ≡ _ = ap place_of t in let h = c.passes (now-ok t) in omega (arith, z)

-- what the search for own words has come to, or where it found the break
pub own-ok : {row : List ℕ} {at d : ℕ} {o : Next} {need : ℕ} {r : Result (ℕ × Due) ℕ} {x : ℕ × Due} → SeeksOwn row at d o need r → r ≡ Ok x → ((named : Bool) → Reaches named row at d o need x.0 (next_due x.1)) × (is_own (next_due x.1) ≡ false)
own-ok s t = rw t at s

pub own-err : {row : List ℕ} {at d : ℕ} {o : Next} {need : ℕ} {r : Result (ℕ × Due) ℕ} {e : ℕ} → SeeksOwn row at d o need r → r ≡ Err e → (named : Bool) → Seeks named row at d o need (Err e)
own-err s t = rw t at s

pub more : {a b : ℕ} (n : ℕ) → a ≡ b → a + n ≡ b + n
more n e = rw e

-- what comes after a word of the node's own
own-after : (named : Bool) (z : ℕ → Next) (d : ℕ) (o : Next) (x : Open) (w : ℕ) → is_own o ≡ true → after named z (rest d o x) w ≡ rest d (after_word o w) x
unfolding after is_own after_word
own-after named z d (word lo hi k) x w e = refl
own-after named z d (parts zero p n) x w e = absurd (clash cc)
own-after named z d (parts (suc m) p n) x w e = refl
own-after named z d (note k) x w e = absurd (clash cc)
own-after named z d never x w e = refl

module _ (named : Bool) (row : List ℕ) (z : ℕ → Next) (p : ℕ) (x : Open) where
  pub ran_out : length row ≤ p → break_from named z p x (drop p row) ≡ p
  unfolding break_from
  ran_out h = rw (gone row p h)

  pub one_word : p < length row → break_from named z p x (drop p row) ≡ pick (leb (p + 1 + least_all (after named z x (get_or row p 0))) 8192) (break_from named z (p + 1) (after named z x (get_or row p 0)) (drop (p + 1) row)) p
  unfolding break_from
  one_word h = rw (here row p h, add-one p)

pub start : {named : Bool} (row : List ℕ) (at d : ℕ) (o : Next) (need : ℕ) → at + (least d o + need) ≤ 8192 → Reaches named row at d o need at o
start row at d o need h = record { same = λ z x e. refl; up = le_refl at; room = h }

module _ {named : Bool} (row : List ℕ) (at d : ℕ) (o : Next) (need p : ℕ) (o' : Next) (i : Reaches named row at d o need p o') where
  no_room : (b : Bool) (q : ℕ) → b ≡ false → (b ≡ true → q + need ≤ 8192)
  no_room b q e t = absurd (clash cc)

  pub out-of-words : length row ≤ p → Seeks named row at d o need (Err p)
  out-of-words h = record { breaks = λ z x e. i.same z x e ∙ ran_out named row z p (rest d o' x) h; rises = i.up; low = let m = i.room in omega arith; room = no_room false p refl }

  module _ (h : p < length row) where
    module _ (k : is_own o' ≡ true) (a : Next) (q : a ≡ after_word o' (get_or row p 0)) where
      own-next : (z : ℕ → Next) (x : Open) → least_all x ≡ need → break_from named z p (rest d o' x) (drop p row) ≡ pick (leb (p + 1 + (least d a + need)) 8192) (break_from named z (p + 1) (rest d a x) (drop (p + 1) row)) p
      unfolding least_all
      own-next z x e = one_word named row z p (rest d o' x) h ∙ rw (own-after named z d o' x (get_or row p 0) k, ← q, e)

      pub own-stop : leb (p + 1 + (least d a + need)) 8192 ≡ false → Seeks named row at d o need (Err p)
      own-stop f = record { breaks = λ z x e. i.same z x e ∙ (own-next z x e ∙ rw f); rises = i.up; low = let m = i.room in omega arith; room = no_room false p refl }

      pub own-go : leb (p + 1 + (least d a + need)) 8192 ≡ true → Reaches named row at d o need (p + 1) a
      own-go t = record { same = λ z x e. i.same z x e ∙ (own-next z x e ∙ rw t); up = let r = i.up in omega arith; room = leb-true (p + 1 + (least d a + need)) 8192 t }

    -- a child of the sort, and the rest b after it
    module _ (s : Sort) (b : Next) (step : (z : ℕ → Next) (x : Open) → after named z (rest d o' x) (get_or row p 0) ≡ rest (d - 1) (next_of (own_in named s (get_or row p 0))) (rest d b x)) (more : ℕ) (m : more ≡ least d b + need) (r : Sought)
        (c : SeeksChild named row p (d - 1) s more r) where
      child-next : (z : ℕ → Next) (x : Open) → least_all x ≡ need → break_from named z at (rest d o x) (drop at row) ≡ pick (is_ok r) (break_from named z (place_of r) (rest d b x) (drop (place_of r) row)) (place_of r)
      unfolding least_all
      child-next z x e = i.same z x e ∙ (one_word named row z p (rest d o' x) h ∙ (rw (step z x, e, ← m) (c.breaks z (rest d b x) (rw (e, m)))))

      pub child-stop : (is_ok r) ≡ false → Seeks named row at d o need r
      child-stop f = record { breaks = λ z x e. child-next z x e ∙ rw f; rises = le_trans i.up c.rises; low = c.low; room = no_room (is_ok r) (place_of r) f }

      pub child-go : (is_ok r) ≡ true → Reaches named row at d o need (place_of r) b
      child-go t = record { same = λ z x e. child-next z x e ∙ rw t; up = le_trans i.up c.rises; room = let v = c.room t in omega arith }

-- where no children must come, the rest of the node is there
pub kids-there : {named : Bool} (row : List ℕ) (at d : ℕ) (o : Next) (need p x y : ℕ) → Reaches named row at d o need p (parts 0 x y) → no_kids x y ≡ true → Seeks named row at d o need (Ok p)
kids-there row at d o need p x y i h =
    record { breaks = λ z w e. i.same z w e ∙ kids_over _ z p d x y w (drop p row) h; rises = i.up; low = let m = i.room in omega arith; room = λ t. let r = i.room in omega arith }

-- a child, from what is found after its tag
module _ {named : Bool} (row : List ℕ) (at d : ℕ) (s : Sort) (need : ℕ) where
  pub child-found : (a : Next) → a ≡ next_of (own_in named s (get_or row at 0)) → at + 1 + (least d a + need) ≤ 8192 → (r : Sought) → Seeks named row (at + 1) d a need r → SeeksChild named row at d s need r
  child-found a q h r k =
      record {
        breaks = λ z x e. rw (← q, le-leb (at + 1 + (least d a + need)) 8192 h) (k.breaks z x e);
        rises = let m = k.rises in omega arith;
        passes = λ t. let m = k.rises in omega arith;
        low = k.low;
        room = k.room;
      }

  pub child-broken : (a : Next) → a ≡ next_of (own_in named s (get_or row at 0)) → leb (at + 1 + (least d a + need)) 8192 ≡ false → at ≤ 8192 → SeeksChild named row at d s need (Err at)
  child-broken a q f h = record { breaks = λ z x e. rw (← q, f); rises = le_refl at; passes = λ t. absurd (clash cc); low = h; room = λ t. absurd (clash cc) }

  -- in a named row the tag of an index is none
  pub child-index : (b : Bool) → b ≡ (named && eqb (get_or row at 0) 2) → b ≡ true → at ≤ 8192 → SeeksChild named row at d s need (Err at)
  unfolding next_of least
  child-index b q t h =
      let index : (named && eqb (get_or row at 0) 2) ≡ true = sym q ∙ t in
      child-broken never (rw index) (lt-leb (at + 1 + (8193 + need)) 8192 (omega arith)) h

pub no_index : (named : Bool) (s : Sort) (t : ℕ) (b : Bool) → b ≡ (named && eqb t 2) → b ≡ false → next_of (own s t) ≡ next_of (own_in named s t)
no_index named s t b q f =
    let other : (named && eqb t 2) ≡ false = sym q ∙ f in
    rw other

-- the room of a child, and the depth that it may have at least
child-room : (d l m p need : ℕ) → l ≡ least_form d + m → p + (l + need) ≤ 8192 → (p + (1 + (m + need)) ≤ 8192) × (1 ≤ d)
child-room zero l m p need e h = absurd (omega arith)
child-room (suc d) l m p need e h = (omega arith, omega arith)

-- the first of several children, and those after it
module _ (d x y x' y' : ℕ) (e : x' ≡ x - 1) (f : y' ≡ exprs_after x y) (k : no_kids x y ≡ false) (m : ℕ) (q : m ≡ least d (parts 0 x' y')) where
  pub kids-room : (p need : ℕ) → p + (least d (parts 0 x y) + need) ≤ 8192 → (p + (1 + (m + need)) ≤ 8192) × (1 ≤ d)
  kids-room p need h = child-room d (least d (parts 0 x y)) m p need (rw (q, e, f) (kids-least d x y k)) h

  module _ {named : Bool} (row : List ℕ) (at : ℕ) (o : Next) (need p : ℕ) (i : Reaches named row at d o need p (parts 0 x y)) (h : p < length row) (r : Sought) (c : SeeksChild named row p (d - 1) (sort_of x) (m + need) r) where
    step : (z : ℕ → Next) (v : Open) → after named z (rest d (parts 0 x y) v) (get_or row p 0) ≡ rest (d - 1) (next_of (own_in named (sort_of x) (get_or row p 0))) (rest d (parts 0 x' y') v)
    step z v = rw (e, f) (kids-step named z d x y v (get_or row p 0) k)

    pub kids-stop : {e : ℕ} → r ≡ Err e → Seeks named row at d o need (Err e)
    kids-stop t = subst (λ z. Seeks named row at d o need z) t (child-stop row at d o need p (parts 0 x y) i h (sort_of x) (parts 0 x' y') step (m + need) (more need q) r c (not-ok t))

    pub kids-go : {e : ℕ} → r ≡ Ok e → Reaches named row at d o need e (parts 0 x' y')
    kids-go t = subst (λ z. Reaches named row at d o need z (parts 0 x' y')) (ap place_of t) (child-go row at d o need p (parts 0 x y) i h (sort_of x) (parts 0 x' y') step (m + need) (more need q) r c (now-ok t))

-- an annotation, and what must come after it
module _ (d : ℕ) (k : Next) (m : ℕ) (q : m ≡ least d k) where
  pub note-room : (p need : ℕ) → p + (least d (note k) + need) ≤ 8192 → (p + (1 + (m + need)) ≤ 8192) × (1 ≤ d)
  unfolding least
  note-room p need h = child-room d (least d (note k)) m p need (rw q) h

  module _ {named : Bool} (row : List ℕ) (at : ℕ) (o : Next) (need p : ℕ) (i : Reaches named row at d o need p (note k)) (h : p < length row) (r : Sought) (c : SeeksChild named row p (d - 1) (sort_of 0) (m + need) r) where
    pub note-stop : {e : ℕ} → r ≡ Err e → Seeks named row at d o need (Err e)
    unfolding after sort_of
    note-stop t = subst (λ z. Seeks named row at d o need z) t (child-stop row at d o need p (note k) i h expr k (λ z x. refl) (m + need) (more need q) r c (not-ok t))

    pub note-go : {e : ℕ} → r ≡ Ok e → Reaches named row at d o need e k
    unfolding after sort_of
    note-go t = subst (λ z. Reaches named row at d o need z k) (ap place_of t) (child-go row at d o need p (note k) i h expr k (λ z x. refl) (m + need) (more need q) r c (now-ok t))

-- each round of a search passes a word
pub passed-less : (l p q r : ℕ) → p ≤ q → q < l → q < r → l - r < l - p
passed-less l p q r a b c = omega arith

pub past_two : (p : ℕ) → p < p + 2
past_two p = omega arith

-- what the search answers from where the own words ended, it answers from where they began
pub joined : {named : Bool} {row : List ℕ} {at d : ℕ} {o : Next} {need p : ℕ} {o' : Next} {s : Sought} → Reaches named row at d o need p o' → Seeks named row p d o' need s → Seeks named row at d o need s
joined i s = record { breaks = λ z x e. i.same z x e ∙ s.breaks z x e; rises = le_trans i.up s.rises; low = s.low; room = s.room }

-- and so with what is reached from there
pub reached-on : {named : Bool} {row : List ℕ} {at d : ℕ} {o : Next} {need p : ℕ} {o' : Next} {q : ℕ} {o'' : Next} → Reaches named row at d o need p o' → Reaches named row p d o' need q o'' → Reaches named row at d o need q o''
reached-on i j = record { same = λ z x e. i.same z x e ∙ j.same z x e; up = le_trans i.up j.up; room = j.room }

-- what is left after the own words: children, or an annotation
not_own : (n x y : ℕ) → is_own (parts (suc n) x y) ≡ false → ⊥
unfolding is_own
not_own n x y e = clash cc

module _ {named : Bool} {row : List ℕ} {at d : ℕ} {o : Next} {need p : ℕ} (due : Due) (f : is_own (next_due due) ≡ false) (i : Reaches named row at d o need p (next_due due)) where
  pub kids-next : (n x y : ℕ) → due ≡ Kids n x y → Reaches named row at d o need p (parts 0 x y)
  unfolding next_due
  kids-next n x y e = go n (rw e at f) (rw e at i)
    where
      go : (n : ℕ) → is_own (parts n x y) ≡ false → Reaches named row at d o need p (parts n x y) → Reaches named row at d o need p (parts 0 x y)
      go zero f i = i
      go (suc n) f i = absurd (not_own n x y f)

  pub note-next : (n e : ℕ) → due ≡ Note n e → Reaches named row at d o need p (note (decls_next true n 1 e))
  unfolding next_due
  note-next n e q = rw q at i

  pub no_word : (lo hi : ℕ) (t : Then) → due ≡ Ask lo hi t → ⊥
  unfolding next_due is_own
  no_word lo hi t e = let own : true ≡ false = rw e at f in clash cc

  pub not-never : due ≡ Wrong → ⊥
  unfolding next_due is_own
  not-never e = let own : true ≡ false = rw e at f in clash cc

-- where the children of a node may be sought
pub begun : {row : List ℕ} {at d : ℕ} {o : Next} {need : ℕ} (r : Option (ℕ × ℕ × ℕ)) (p x y : ℕ) → r ≡ Some (p, x, y) → Starts row at d o need r → (at + (least d o + need) ≤ 8192) × ((named : Bool) → Reaches named row at d o need p (parts 0 x y))
begun r p x y e s = rw e at s
