-- Groups and decimal words, from lists to positions of the line. Assumes nothing.
use mathlib.Core.Path.{◌≡◌, refl, ap, sym, ◌∙◌}
use mathlib.Core.Bool.{Bool, true, false, ◌&&◌}
use mathlib.Core.List.{List, []}
use Prim.Native.Nat.{ℕ, zero, suc, ◌+◌, ◌-◌, ◌≤◌, ◌<◌}
use native.Mathlib.Omega.{arith}
use borrow.Author.Tests.{le-leb, leb-true, eq-eqb, ne_eqb}
use lib.Dec.{leb, eqb}
use lib.ListN.{length, get_or, drop}
use Rattle.std.specs.Prelude.{Option, Some, None}
use Rattle.std.specs.Char.{is_ascii_digit}
use Rattle.form.proofs.DecodeLaws.{clash}
use Rattle.tree.specs.Form.{pick, between}
use Rattle.form.proofs.HeadLaws.{gone, here}
use Rattle.line.specs.Scan.{on_digit, turn, note, mark_words, depth_after, Scan, ended, broken, add_byte, moved, scan, group, scan_words, Decimal, found, none, add_digit, finished, number}
use Rattle.spell.specs.Put.{put}
use Rattle.spell.specs.Internal.Writes.{Wrote}
use Rattle.line.specs.Internal.Places.{part, group_at, Grouped, number_at}
use Rattle.line.specs.declared.line.Part.{Part}
use Rattle.line.specs.declared.turn.State.{State}
use Rattle.line.specs.declared.turn.State.TheVariants.{Opened, Digits}
use Rattle.spell.proofs.WriteLaws.{wrote-both}

-- digits
module _ (b : ℕ) {r : Bool} (e : r ≡ is_ascii_digit b) where
  pub digit-is : (x : Bool) → r ≡ x → between 48 57 b ≡ x
  digit-is x q = sym e ∙ q

  pub a-digit : r ≡ true → (48 ≤ b) × (b ≤ 57)
  a-digit q = go (leb 48 b) (leb b 57) refl refl (digit-is true q)
    where
      go : (x y : Bool) → leb 48 b ≡ x → leb b 57 ≡ y → (x && y) ≡ true → (48 ≤ b) × (b ≤ 57)
      go true true l g q = (leb-true 48 b l, leb-true b 57 g)
      go true false l g q = absurd (clash cc)
      go false y l g q = absurd (clash cc)

-- decimal words
digit_at : (p : ℕ) (z : Decimal) → number_at p (add_digit z) ≡ number_at (p + 1) z
unfolding number_at
digit_at p (found v k) = ap (λ n. Some (v, n)) (omega arith)
digit_at p none = refl

module _ (line : List ℕ) (p : ℕ) (s : State) where
  pub number_past : length line ≤ p → number_at p (number s (drop p line)) ≡ number_at p (finished s)
  unfolding number
  number_past h = rw (gone line p h)

  module _ (h : p < length line) where
    pub number-other : between 48 57 (get_or line p 0) ≡ false → number_at p (number s (drop p line)) ≡ number_at p (finished s)
    unfolding number
    number-other e = rw (here line p h, e)

    module _ (l : 48 ≤ get_or line p 0) (g : get_or line p 0 ≤ 57) {t : Option State} (e : t ≡ on_digit s (get_or line p 0 - 48)) where
      pub number_more : (s' : State) → t ≡ Some s' → number_at p (number s (drop p line)) ≡ number_at (p + 1) (number s' (drop (p + 1) line))
      unfolding number
      number_more s' q = rw (here line p h, le-leb 48 (get_or line p 0) l, le-leb (get_or line p 0) 57 g, sym e ∙ q) (digit_at p (number s' (drop (p + 1) line)))

      pub number-bad : t ≡ None → number_at p (number s (drop p line)) ≡ None
      unfolding number number_at
      number-bad q = rw (here line p h, le-leb 48 (get_or line p 0) l, le-leb (get_or line p 0) 57 g, sym e ∙ q)

-- groups
same_end : (start x x' y y' : ℕ) → x ≡ x' → y ≡ y' → part start x y ≡ part start x' y'
same_end start x x' y y' e f = cc

add-grouped : (start p n n' : ℕ) (ws : List ℕ) (s : Scan) (a a' b : List ℕ) (r : Option Part) → Wrote n ws a a' n' → Grouped start (p + 1) n' s a' b r → Grouped start p n (add_byte ws s) a b r
unfolding Grouped group_at scan_words add_byte Wrote
add-grouped start p n n' ws (ended vs k) a a' b r w t =
    let z = wrote-both n n' (n' + length vs) ws vs a a' b w (refl, t.1) in
    (t.0 ∙ same_end _ _ _ _ _ (omega arith) z.0, z.1)
add-grouped start p n n' ws (broken vs) a a' b r w t =
    let z = wrote-both n n' (n' + length vs) ws vs a a' b w (refl, t.1) in
    (t.0, z.1)

grouped-broken : (start p n : ℕ) (a : List ℕ) (s : Scan) → s ≡ broken [] → Grouped start p n s a a None
unfolding Grouped group_at scan_words put
grouped-broken start p n a s e = rw e (refl, refl)

module _ (line : List ℕ) (places : Bool) where
  pub group-past : (at : ℕ) (a : List ℕ) → length line ≤ at → Grouped at at 0 (group places (drop at line)) a a None
  unfolding group
  group-past at a h = grouped-broken at at 0 a _ (rw (gone line at h))

  pub group-other : (at : ℕ) (a : List ℕ) → at < length line → (get_or line at 0 ≡ 91 → ⊥) → Grouped at at 0 (group places (drop at line)) a a None
  unfolding group
  group-other at a h n = grouped-broken at at 0 a _ (rw (here line at h, ne_eqb (get_or line at 0) 91 n))

  pub group-first : (at : ℕ) (a b : List ℕ) (r : Option Part) → at < length line → get_or line at 0 ≡ 91
      → Grouped at (at + 1) 0 (scan places 1 Opened (drop (at + 1) line)) a b r → Grouped at at 0 (group places (drop at line)) a b r
  unfolding group Wrote put
  group-first at a b r h e t = rw (here line at h, eq-eqb (get_or line at 0) 91 e) (add-grouped at at 0 0 [] (scan places 1 Opened (drop (at + 1) line)) a a b r (refl, refl) t)

  module _ (start p n d : ℕ) (s : State) where
    pub scan-past : (a : List ℕ) → length line ≤ p → Grouped start p n (scan places d s (drop p line)) a a None
    unfolding scan
    scan-past a h = grouped-broken start p n a _ (rw (gone line p h))

    module _ (h : p < length line) {t : Option State} (e : t ≡ turn s (get_or line p 0)) where
      pub scan-bad : (a : List ℕ) → t ≡ None → Grouped start p n (scan places d s (drop p line)) a a None
      unfolding scan
      scan-bad a q = grouped-broken start p n a _ (rw (here line p h, sym e ∙ q))

      module _ (s' : State) (q : t ≡ Some s') (d' n' : ℕ) (f : d' ≡ depth_after d (get_or line p 0)) (a a' : List ℕ) (w : Wrote n (mark_words (note places d s (get_or line p 0))) a a' n') where
        pub scan-end : d' ≡ 0 → Grouped start p n (scan places d s (drop p line)) a a' (part start (p + 1) n')
        unfolding scan Grouped group_at scan_words Wrote
        scan-end z = rw (here line p h, sym e ∙ q, sym f ∙ z) (ap (λ m. part start (p + 1) m) w.0, w.1)

        pub scan-more : (d' ≡ 0 → ⊥) → (b : List ℕ) (r : Option Part) → Grouped start (p + 1) n' (scan places d' s' (drop (p + 1) line)) a' b r → Grouped start p n (scan places d s (drop p line)) a b r
        unfolding scan
        scan-more z b r k = rw (here line p h, sym e ∙ q, sym f) (go d' z (λ y. scan places d' y (drop (p + 1) line)) k)
          where
            go : (x : ℕ) → (x ≡ 0 → ⊥) → (c : State → Scan) → Grouped start (p + 1) n' (c s') a' b r → Grouped start p n (moved (Some s') (mark_words (note places d s (get_or line p 0))) x c) a b r
            go zero z c k = absurd (z refl)
            go (suc x) z c k = add-grouped start p n n' (mark_words (note places d s (get_or line p 0))) (c s') a a' b r w k

-- a byte gives at most one word, and opens at most one bracket
pub mark-few : (n r : ℕ) (m : Option ℕ) (a b : List ℕ) → Wrote n (mark_words m) a b r → r ≤ n + 1
unfolding Wrote mark_words
mark-few n r (Some w) a b h = let e = h.0 in omega arith
mark-few n r None a b h = let e = h.0 in omega arith

pub mark-is : (n r : ℕ) (m m' : Option ℕ) (a b : List ℕ) → m ≡ m' → Wrote n (mark_words m) a b r → Wrote n (mark_words m') a b r
mark-is n r m m' a b e h = rw e at h

pub depth-few : (d b : ℕ) → depth_after d b ≤ d + 1
unfolding depth_after
depth-few d b = go (eqb b 91) (eqb b 93)
  where
    go : (x y : Bool) → pick x (d + 1) (pick y (d - 1) d) ≤ d + 1
    go true y = omega arith
    go false true = omega arith
    go false false = omega arith

pub number-end : (v at : ℕ) → Some (v, at) ≡ number_at at (finished (Digits v))
unfolding finished number_at
number-end v at = ap (λ m. Some (v, m)) (omega arith)
