-- Worked forms for the laws of named forms: one that meets what a law asks, and one that does not and for which the law's claim is false.
-- Assumes nothing.
use mathlib.Core.Path.{◌≡◌, refl, ap}
use mathlib.Core.Bool.{true, false}
use mathlib.Core.List.{List, [], ◌∷◌, ◌++◌}
use Prim.Native.Nat.{ℕ, zero, suc, ◌<◌}
use native.Mathlib.Omega.{arith}
use borrow.Author.Tests.{leb-true}
use lib.Dec.{leb}
use lib.ListN.{replicate}
use Rattle.tree.specs.Form.{free, bound, Form, leaf, node, noted, undeclared, bare, typed, Forms, none, more, encode}
use Rattle.tree.specs.Tag.{expr, own, own_of, shape_of, expr_tags, pred_tags}
use Rattle.form.specs.Decode.{read, decode, decode_all, not-one, row_form, index_free, form_of}
use Rattle.form.specs.Answer.{answer, stop, is_one, finish}
use Rattle.form.proofs.DecodeLaws.{clash, Ok, ok-free, ok-bound}
use Rattle.rules.specs.Walk.{collect}
use Rattle.rules.specs.Dangling.{closed}
use Rattle.rules.specs.Split.{equal}
use Rattle.rules.specs.Named.{occurrence, nameless, named_outcome}
use Rattle.rules.proofs.WalkLaws.{and_right}
use Rattle.rules.proofs.NamedLaws.{lacks, declares, scope-unchanged, nameless-unchanged, nameless-closed}
use Rattle.form.specs.declared.answer.Refusal.TheVariants.{OutputTooShort}

abbrev one : Form → Forms
one f = more f none

abbrev name : ℕ → Form
name m = leaf (free m)

abbrev index : ℕ → Form
index i = leaf (bound i)

-- [862 2 4 1 [1 7] 5 0 [852 1 6 [101 [1 7] [1 8]]]]: 4, 5 and 6 are declared and do not occur, so it comes back as it is, and also in a scope
-- with 9, which does not occur
abbrev untouched : Form
untouched = noted 862 (2 ∷ []) (typed 4 (name 7) (bare 5 undeclared)) (one (node 852 (1 ∷ []) (6 ∷ []) (one (equal (name 7) (name 8)))))

pub untouched-kept : (nameless [] untouched ≡ untouched) × (nameless (9 ∷ []) untouched ≡ untouched)
unfolding declares collect
untouched-kept = (nameless-unchanged untouched refl, scope-unchanged (9 ∷ []) untouched refl)

-- in a scope with 7 it does not: 7 is bound in the annotation and, under three declarations more, in the body
abbrev touched : Form
touched = noted 862 (2 ∷ []) (typed 4 (index 0) (bare 5 undeclared)) (one (node 852 (1 ∷ []) (6 ∷ []) (one (equal (index 3) (name 8)))))

pub touched-changed : (lacks (7 ∷ declares untouched) untouched ≡ false) × (nameless (7 ∷ []) untouched ≡ touched)
unfolding declares collect nameless occurrence
touched-changed = (refl, refl)

-- [852 1 4 [101 [1 4] [1 7]]]: 4 is declared and occurs, and becomes an index
abbrev binds_one : Form
binds_one = node 852 (1 ∷ []) (4 ∷ []) (one (equal (name 4) (name 7)))

pub binds-one-changed : (lacks (declares binds_one) binds_one ≡ false) × (nameless [] binds_one ≡ binds_one → ⊥)
unfolding declares collect nameless occurrence index_free
binds-one-changed = (refl, λ e. let z : false ≡ true = ap index_free e in clash cc)

-- [862 1 4 1 [1 4] [9 [1 7]]]: 4 is declared and occurs, but only where it is not bound. The form comes back as it is, which the law does not say
abbrev outside_only : Form
outside_only = noted 862 (1 ∷ []) (typed 4 (name 4) undeclared) (one (node 9 [] [] (one (name 7))))

pub outside-only-kept : (lacks (declares outside_only) outside_only ≡ false) × (nameless [] outside_only ≡ outside_only)
unfolding declares collect nameless occurrence
outside-only-kept = (refl, refl)

-- nothing dangles in what a form written with names becomes, [852 1 4 [101 [2 0] [1 7]]]; an index that was there is left alone, and can dangle
pub binds-one-closed : closed (nameless [] binds_one) ≡ true
unfolding index_free
binds-one-closed = nameless-closed binds_one refl

pub index-dangles : (index_free (index 0) ≡ false) × (closed (nameless [] (index 0)) ≡ false)
unfolding index_free closed collect nameless
index-dangles = (refl, refl)

-- the answer needs as much room as the row has words, here 8
pub binds-one-room :
    (named_outcome (encode binds_one) 7 ≡ stop OutputTooShort) × (named_outcome (encode binds_one) 8 ≡ answer (852 ∷ 1 ∷ 4 ∷ 101 ∷ 2 ∷ 0 ∷ 1 ∷ 7 ∷ []))
unfolding named_outcome finish occurrence nameless form_of row_form index_free decode decode_all read own own_of shape_of expr_tags pred_tags encode
binds-one-room = (refl, refl)

-- a form that no row says, since its name is over 65,535, becomes none that a row says
pub name-too-large : (row_form expr (encode (name 65536)) ≡ not-one) × (is_one (row_form expr (encode (nameless [] (name 65536)))) ≡ false)
unfolding row_form decode read own own_of shape_of expr_tags encode nameless occurrence
name-too-large = (refl, refl)

-- [1 4] keeps within the limits, but not in a scope of over 65,536 names of which 4 is the outermost: its index there is over 65,535
abbrev long_scope : ℕ → List ℕ
long_scope k = replicate k 5 ++ (4 ∷ [])

outermost : (k : ℕ) → occurrence (long_scope k) 4 ≡ bound k
unfolding occurrence
outermost zero = refl
outermost (suc k) = rw (outermost k)

index-too-large : (k : ℕ) → 65535 < k → Ok 1 expr (index k) → ⊥
index-too-large k h (ok-bound e) = let l = leb-true k 65535 (and_right (leb 0 k) (leb k 65535) e) in omega arith

pub scope-too-long : (k : ℕ) → 65535 < k → Ok 1 expr (name 4) × (Ok 1 expr (nameless (long_scope k) (name 4)) → ⊥)
unfolding nameless
scope-too-long k h = (ok-free refl, λ o. index-too-large k h (rw (outermost k) at o))
