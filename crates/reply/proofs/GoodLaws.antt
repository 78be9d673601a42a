-- Every answer to a line is the row of one form, so a line is always answered where there is room for 106,496 bytes. Assumes nothing.
use mathlib.Core.Path.{◌≡◌}
use mathlib.Core.Bool.{Bool, true, false}
use mathlib.Core.List.{List, [], ◌∷◌, ◌++◌}
use Prim.Native.Nat.{ℕ, ◌≤◌}
use native.Mathlib.Omega.{arith}
use borrow.Author.Tests.{le-leb}
use lib.Dec.{eqb}
use lib.IntN.{ℤ}
use lib.ListN.{length, length-append}
use Rattle.tree.specs.Form.{Form, pick, encode}
use Rattle.form.specs.Answer.{Outcome, answer, stop, needs}
use Rattle.form.specs.Refusal.{number_of, position_of}
use Rattle.form.specs.declared.answer.Refusal.{Refusal}
use Rattle.form.specs.declared.answer.Refusal.TheVariants.{WorkTooShort}
use Rattle.std.specs.Prelude.{Some, None}
use Rattle.form.proofs.RowLaws.{found-either, row_one}
use Rattle.spell.specs.Spell.{digits, decimal, spell, ending, spell_no, print_outcome, print_no}
use Rattle.line.specs.Line.{Formed, formed, read_line}
use Rattle.spell.proofs.PrintLaws.{spell-few}
use Rattle.spell.proofs.WriteLaws.{digits-few}
use Rattle.rules.specs.Command.{args_of, kind_of, outcome_of}
use Rattle.rules.specs.declared.command.Command.{Command}
use Rattle.rules.proofs.OutcomeLaws.{Settled, OneForm, outcome-settled}
use Rattle.reply.specs.Reply.{command_outcome, of_line, enough_rows, line_outcome, printed, reply_outcome}
use Rattle.reply.proofs.LateLaws.{Gate, passes, refuses, form-tests, args-gate}

-- an answer is the row of one form
abbrev pub Good : Outcome → Type 0
Good (answer ws) = OneForm ws
Good (stop k) = Unit {0}

good-settled : (o : Outcome) → Settled OneForm o → Good o
good-settled (answer ws) h = h
good-settled (stop k) h = tt

good-needs : (k : Refusal) (b : Bool) (o : Outcome) → Good o → Good (needs k b o)
good-needs k true o h = h
good-needs k false o h = tt

good-gate : (g : Outcome → Outcome) → Gate g → (o : Outcome) → Good o → Good (g o)
good-gate g (passes h) o k = rw (h o) k
good-gate g (refuses n h) o k = rw (h o) tt

good-command : (c : Command) (z : ℤ) (list_text list text row : List ℕ) (work room : ℕ) → Good (command_outcome c z list_text list text row work room)
good-command c z list_text list text row work room =
    good-gate _ (form-tests (kind_of c) text row).gate _ (good-gate _ (args-gate (args_of c) list_text list) _ (good-settled (outcome_of c z list row work room) (outcome-settled c z list row work room)))

pub good-line : (line : List ℕ) (list form work room : ℕ) → Good (line_outcome line list form work room)
unfolding line_outcome
good-line line list form work room = good-needs WorkTooShort (enough_rows list form work) _ (by-case (read_line line))
  where
    by-case : (x : Formed) → Good (of_line line work room x)
    by-case (formed (Some p) ws) = good-command p.command p.offset _ _ _ ws work room
    by-case (formed None ws) = tt

ending-few : (k p : ℕ) → length (ending k p) ≤ 12
unfolding ending decimal
ending-few k p = by-case (eqb k 2)
  where
    by-case : (b : Bool) → length (pick b (32 ∷ (digits 10 p ++ (93 ∷ []))) (93 ∷ [])) ≤ 12
    by-case true = let h = digits-few 10 p in rw (length-append (digits 10 p) (93 ∷ [])) (omega arith)
    by-case false = omega arith

no-few : (k p : ℕ) → length (spell_no k p) ≤ 26
unfolding spell_no decimal
no-few k p = let h = digits-few 10 k in let e = ending-few k p in rw (length-append (digits 10 k) (ending k p)) (omega arith)

-- what holds of every spelling holds of the answer
module _ (P : List ℕ → Type 0) (forms : (f : Form) → P (spell f)) (refusals : (k p : ℕ) → P (spell_no k p)) where
  good-printed : (o : Outcome) (bytes : ℕ) → Good o → 106496 ≤ bytes → (bs : List ℕ) × (printed bytes o ≡ answer bs) × P bs
  unfolding print_outcome print_no
  good-printed (answer ws) bytes (s, f, e) h =
      let (short, is, ok) = row_one s ws f e in
      let n : length (encode f) ≤ 8192 = rw (← is) short in
      let m = spell-few f in
      (spell f, rw (le-leb (length ws) 8192 short, found-either ws s f e, le-leb (length (spell f)) bytes (omega arith)), forms f)
  good-printed (stop r) bytes g h =
      let m = no-few (number_of r) (position_of r) in
      (spell_no (number_of r) (position_of r), rw (le-leb (length (spell_no (number_of r) (position_of r))) bytes (omega arith)), refusals (number_of r) (position_of r))

  pub reply-answers : (line : List ℕ) (list form work room bytes : ℕ) → 106496 ≤ bytes → (bs : List ℕ) × (reply_outcome line list form work room bytes ≡ answer bs) × P bs
  unfolding reply_outcome
  reply-answers line list form work room bytes h = good-printed (line_outcome line list form work room) bytes (good-line line list form work room) h
