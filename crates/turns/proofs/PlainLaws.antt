-- Each answer is one line: its only newline is its last byte. Assumes nothing.
use mathlib.Core.Path.{◌≡◌, refl, ap}
use mathlib.Core.Bool.{Bool, true, false}
use mathlib.Core.List.{List, [], ◌∷◌, ◌++◌}
use Prim.Native.Nat.{ℕ, zero, suc, ◌+◌, ◌≤◌, ◌/◌, ◌%◌}
use native.Mathlib.Omega.{arith}
use borrow.Author.Tests.{ne_eqb}
use lib.Dec.{eqb, ltb}
use lib.ListN.{length, length-append}
use Rattle.tree.specs.Form.{Leaf, free, bound, Form, leaf, node, noted, Decls, undeclared, bare, typed, Forms, none, more, pick}
use Rattle.spell.specs.Spell.{digits, decimal, spaced, bracket, spell_leaf, spell, spell_decls, spell_all, ending, spell_no}
use Rattle.reply.specs.Split.{newline_in}
use Rattle.reply.proofs.GoodLaws.{reply-answers}
use Rattle.turns.specs.Output.{answer_to}

-- no byte below the space
abbrev Plain : List ℕ → Type 0
Plain [] = Unit {0}
Plain (b ∷ bs) = (32 ≤ b) × Plain bs

plain-both : (a b : List ℕ) → Plain a → Plain b → Plain (a ++ b)
plain-both [] b h k = k
plain-both (x ∷ a) b (p, h) k = (p, plain-both a b h k)

plain-digits : (k n : ℕ) → Plain (digits k n)
unfolding digits
plain-digits zero n = tt
plain-digits (suc k) n = go (plain-digits k (n / 10)) (ltb n 10)
  where
    go : Plain (digits k (n / 10)) → (b : Bool) → Plain (pick b ((48 + n) ∷ []) (digits k (n / 10) ++ ((48 + n % 10) ∷ [])))
    go h true = (omega arith, tt)
    go h false = plain-both (digits k (n / 10)) ((48 + n % 10) ∷ []) h (omega arith, tt)

plain-decimal : (n : ℕ) → Plain (decimal n)
unfolding decimal
plain-decimal n = plain-digits 10 n

plain-spaced : (ws : List ℕ) → Plain (spaced ws)
unfolding spaced
plain-spaced [] = tt
plain-spaced (w ∷ ws) = (omega arith, plain-both (decimal w) (spaced ws) (plain-decimal w) (plain-spaced ws))

plain-bracket : (t : ℕ) (ws ks : List ℕ) → Plain ks → Plain (bracket t ws ks)
unfolding bracket
plain-bracket t ws ks h =
    (omega arith, plain-both (decimal t) _ (plain-decimal t) (plain-both (spaced ws) _ (plain-spaced ws) (plain-both ks (93 ∷ []) h (omega arith, tt))))

plain-leaf : (x : Leaf) → Plain (spell_leaf x)
unfolding spell_leaf
plain-leaf (free n) = plain-bracket 1 (n ∷ []) [] tt
plain-leaf (bound i) = plain-bracket 2 (i ∷ []) [] tt

mutual
  unfolding spell spell_decls spell_all

  plain-spell : (f : Form) → Plain (spell f)
  plain-spell (leaf x) = plain-leaf x
  plain-spell (node t o ds ks) = plain-bracket t (o ++ ds) (spell_all ks) (plain-all ks)
  plain-spell (noted t o ds ks) = plain-bracket t o (spell_decls ds ++ spell_all ks) (plain-both (spell_decls ds) (spell_all ks) (plain-decls ds) (plain-all ks))

  plain-decls : (ds : Decls) → Plain (spell_decls ds)
  plain-decls undeclared = tt
  plain-decls (bare n ds) = plain-both (spaced (n ∷ 0 ∷ [])) (spell_decls ds) (plain-spaced (n ∷ 0 ∷ [])) (plain-decls ds)
  plain-decls (typed n f ds) =
      plain-both (spaced (n ∷ 1 ∷ [])) (32 ∷ (spell f ++ spell_decls ds)) (plain-spaced (n ∷ 1 ∷ [])) (omega arith, plain-both (spell f) (spell_decls ds) (plain-spell f) (plain-decls ds))

  plain-all : (fs : Forms) → Plain (spell_all fs)
  plain-all none = tt
  plain-all (more f fs) = (omega arith, plain-both (spell f) (spell_all fs) (plain-spell f) (plain-all fs))

plain-ending : (k p : ℕ) → Plain (ending k p)
unfolding ending
plain-ending k p = go (eqb k 2)
  where
    go : (b : Bool) → Plain (pick b (32 ∷ (decimal p ++ (93 ∷ []))) (93 ∷ []))
    go true = (omega arith, plain-both (decimal p) (93 ∷ []) (plain-decimal p) (omega arith, tt))
    go false = (omega arith, tt)

plain-no : (k p : ℕ) → Plain (spell_no k p)
unfolding spell_no
plain-no k p = (omega arith, (omega arith, (omega arith, (omega arith, plain-both (decimal k) (ending k p) (plain-decimal k) (plain-ending k p)))))

plain-line : (bs : List ℕ) → Plain bs → newline_in (bs ++ (10 ∷ [])) ≡ length bs
unfolding newline_in
plain-line [] h = refl
plain-line (b ∷ bs) (p, h) = rw (ne_eqb b 10 (λ e. omega arith)) (ap suc (plain-line bs h))

pub one_line : (line : List ℕ) → newline_in (answer_to line) + 1 ≡ length (answer_to line)
unfolding answer_to
one_line line =
    let (bs, e, h) = reply-answers Plain plain-spell plain-no line 8192 8192 16384 8192 131072 (omega arith) in
    rw (e, plain-line bs h, length-append bs (10 ∷ [])) (omega arith)
