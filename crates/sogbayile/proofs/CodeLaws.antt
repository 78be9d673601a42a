-- The code of an answer, and of the part that lift answers. Assumes nothing.
use mathlib.Core.Path.{◌≡◌, refl}
use mathlib.Core.Bool.{Bool, true, false, ◌||◌}
use mathlib.Core.List.{List}
use Prim.Native.Nat.{ℕ, ◌+◌, ◌≤◌}
use native.Mathlib.Omega.{arith}
use borrow.Author.Tests.{le-leb}
use lib.Dec.{leb, eqb}
use lib.ListN.{length}
use Rattle.tree.specs.Form.{Form, pick, encode}
use Rattle.tree.specs.Tag.{Sort}
use Rattle.form.specs.Decode.{Whole, one, not-one, row_form, Found, found, missing, form_of}
use Rattle.form.specs.Answer.{Outcome, answer, stop, told, length_of, position, needs, is_one, finish}
use Rattle.form.specs.declared.answer.Kind.TheVariants.{Either}
use Rattle.std.specs.Prelude.{Ok, Err}
use Rattle.form.proofs.RowLaws.{row-short}
use Rattle.rules.specs.Walk.{lift}
use Rattle.rules.specs.Dangling.{closed}
use Rattle.rules.specs.Lift.{Part, base, copy, empty, of_copy, lift_found, lift_part}
use Rattle.subst.specs.Internal.Lifting.{made_of}
use Rattle.sogbayile.specs.Code.{packed, code_of, part_code}
use Rattle.sogbayile.specs.Internal.{part_length, made_code}
use Rattle.form.specs.Refusal.{number_of, position_of}
use Rattle.form.specs.declared.answer.Refusal.{Refusal}
use Rattle.form.specs.declared.answer.Refusal.TheVariants.{OutOfLimits, OutputTooShort}

pub code-done : (n : ℕ) → code_of (Ok n) ≡ n
code-done n = omega arith

pub code-no : (r : Refusal) → code_of (Err r) ≡ packed (number_of r) (position_of r)
code-no r = omega arith

pub finish-short : (s : Sort) (room : ℕ) (g : Form) → length_of (told (finish s room g)) + position (told (finish s room g)) ≤ 8192
unfolding finish
finish-short s room g = go (row_form s (encode g)) refl (leb (length (encode g)) room)
  where
    go : (w : Whole) → row_form s (encode g) ≡ w → (b : Bool) → let o = needs OutOfLimits (is_one (row_form s (encode g))) (needs OutputTooShort b (answer (encode g))) in length_of (told o) + position (told o) ≤ 8192
    go (one f) e true = let h = row-short s (encode g) f e in rw e (omega (arith, h))
    go (one f) e false = rw e (omega arith)
    go not-one e b = rw e (omega arith)

-- lift
copy-short : (n : ℕ) (o : Outcome) → length_of (told o) + position (told o) ≤ 8192 → part_length n (made_of (of_copy o)) ≤ 8192
copy-short n (answer ws) h = omega (arith, h)
copy-short n (stop k) h = omega arith

pub part-short : (row : List ℕ) (depth work : ℕ) → length row ≤ 8192 → part_length (length row) (made_of (lift_part row depth work)) ≤ 8192
unfolding lift_part
part-short row depth work h = rw (le-leb (length row) 8192 h) (go (form_of Either row))
  where
    by : (s : Sort) (f : Form) (b : Bool) → part_length (length row) (made_of (pick b base (of_copy (finish s work (lift depth f))))) ≤ 8192
    by s f true = h
    by s f false = copy-short (length row) (finish s work (lift depth f)) (finish-short s work (lift depth f))

    go : (o : Found) → part_length (length row) (made_of (lift_found depth work o)) ≤ 8192
    go (found s f) = by s f (eqb depth 0 || closed f)
    go missing = omega arith

pub made-code : (row : List ℕ) (p : Part) → made_code (length row) (made_of p) ≡ part_code row p
made-code row base = refl
made-code row (copy ws) = refl
made-code row empty = refl
