-- The answer of a line from its parts. Assumes nothing.
use mathlib.Core.Path.{◌≡◌, refl, ap, sym, ◌∙◌}
use mathlib.Core.Bool.{Bool, true, false, ◌&&◌}
use mathlib.Core.List.{List}
use Prim.Native.Nat.{ℕ, ◌≤◌}
use native.Mathlib.Omega.{arith}
use borrow.Author.Tests.{leb-true}
use lib.Dec.{leb}
use lib.ListN.{length, take, drop, length-append}
use lib.Seq.{take-append_seam}
use Rattle.form.specs.Answer.{Outcome, answer, stop, told, written}
use Rattle.form.specs.Answer.{Answer}
use Rattle.std.specs.Prelude.{Option, Some, None, Ok, Err}
use Rattle.form.specs.declared.answer.Refusal.{Refusal}
use Rattle.form.proofs.DecodeLaws.{clash}
use Rattle.spell.specs.Put.{put}
use Rattle.line.specs.Line.{Formed, formed, read_line, list_row, line_of, form_row}
use Rattle.spell.proofs.AnswerLaws.{put_front}
use Rattle.calls.proofs.CallLaws.{Said, said-no, said_same}
use Rattle.rules.specs.Command.{outcome_of}
use Rattle.line.specs.declared.line.Part.{Part}
use Rattle.line.specs.declared.line.Parts.{Parts}
use Rattle.reply.specs.Reply.{of_line, enough_rows, line_outcome, printed}
use Rattle.reply.specs.Internal.Parts.{Held, HeldBoth, form_words, parts_test}
use Rattle.reply.proofs.ReadLaws.{Lies, Inside, line-inside}
use Rattle.form.specs.declared.answer.Refusal.TheVariants.{NotACommand, WorkTooShort}

-- rows of these lengths
module _ (list form work : ℕ) where
  enough-by : (p q r : Bool) → (p && (q && r)) ≡ true → (p ≡ true) × (q ≡ true)
  enough-by true true r e = (refl, refl)
  enough-by true false r e = absurd (clash cc)
  enough-by false q r e = absurd (clash cc)

  pub enough-list : enough_rows list form work ≡ true → 8192 ≤ list
  enough-list e = leb-true 8192 list (enough-by (leb 8192 list) (leb 8192 form) (leb 16384 work) e).0

  pub enough-form : enough_rows list form work ≡ true → 8192 ≤ form
  enough-form e = leb-true 8192 form (enough-by (leb 8192 list) (leb 8192 form) (leb 16384 work) e).1

-- the words of a group at the front of a row into which they were stored
pub held_by : (line row row' ws : List ℕ) (p : Part) → Lies line ws p → 8192 ≤ length row → row' ≡ put row 0 ws → length row' ≡ length row → Held line row' ws p
held_by line row row' ws p (a, b, c) m w l =
    record { ordered = a; inside = b; counted = c; room = omega arith; front = λ k. rw (w, put_front row ws (omega arith)) (take-append_seam ws (drop (length ws) row)) }

-- the answer of a line
module _ (line : List ℕ) (list form work room : ℕ) where
  pub not-enough : enough_rows list form work ≡ false → (result : List ℕ) → Said (Err WorkTooShort) (line_outcome line list form work room) result result
  unfolding line_outcome
  not-enough e result = said-no (line_outcome line list form work room) WorkTooShort result (rw e)

  module _ (enough : enough_rows list form work ≡ true) where
    is-line : line_outcome line list form work room ≡ of_line line work room (read_line line)
    unfolding line_outcome
    is-line = rw enough

    bad-by : (x : Formed) → None ≡ line_of x → of_line line work room x ≡ stop NotACommand
    unfolding line_of
    bad-by (formed (Some p) ws) e = absurd (clash cc)
    bad-by (formed None ws) e = refl

    module _ (l : Option Parts) (e : l ≡ line_of (read_line line)) where
      pub misspelled : l ≡ None → (result : List ℕ) → Said (Err NotACommand) (line_outcome line list form work room) result result
      misspelled q result = said-no _ NotACommand result (is-line ∙ bad-by (read_line line) (sym q ∙ e))

      module _ (p : Parts) (q : l ≡ Some p) where
        is-by : (x : Formed) → Some p ≡ line_of x → x ≡ formed (Some p) (form_row x)
        unfolding line_of form_row
        is-by (formed (Some p') ws) k = let z : p' ≡ p = cc in rw z
        is-by (formed None ws) k = absurd (clash cc)

        is-command : read_line line ≡ formed (Some p) (form_words line)
        is-command = is-by (read_line line) (sym q ∙ e)

        where-it-is : Inside line (list_row line) (formed (Some p) (form_words line))
        where-it-is = rw is-command at (line-inside line)

        pub held-form : (row row' : List ℕ) → form ≡ length row → row' ≡ put row 0 (form_words line) → length row' ≡ length row → Held line row' (form_words line) p.form
        held-form row row' n w k = held_by line row row' (form_words line) p.form where-it-is.0 (let z = enough-form list form work enough in omega arith) w k

        pub held-list : (row row' : List ℕ) → list ≡ length row → row' ≡ put row 0 (list_row line) → length row' ≡ length row → Held line row' (list_row line) p.list
        held-list row row' n w k = held_by line row row' (list_row line) p.list where-it-is.1.0 (let z = enough-list list form work enough in omega arith) w k

        pub held_both : (listed listed' row row' : List ℕ) → list ≡ length listed → form ≡ length row → listed' ≡ put listed 0 (list_row line) → row' ≡ put row 0 (form_words line)
            → length listed' ≡ length listed → length row' ≡ length row → HeldBoth line listed' row' p
        held_both listed listed' row row' a b w v k m = record { listed = held-list listed listed' a w k; formed = held-form row row' b v m; bare = where-it-is.1.1 }

        pub command-said : (r : Answer) (result result' : List ℕ) → Said r (parts_test line p (outcome_of p.command p.offset (list_row line) (form_words line) work room)) result result'
            → Said r (line_outcome line list form work room) result result'
        command-said r result result' s =
            said_same _ _ r result result' (sym (is-line ∙ ap (of_line line work room) is-command)) s

-- printing
module _ (o : Outcome) (r : Answer) (before result : List ℕ) (s : Said r o before result) where
  pub room-there : (n : ℕ) → r ≡ Ok n → n ≤ length result
  room-there n q = go o s.0 s.1
    where
      go : (o : Outcome) → r ≡ told o → result ≡ written o before → n ≤ length result
      go (answer ws) e f = let z : length ws ≡ n = cc in rw f (omega (arith, length-append ws (drop (length ws) before), z))
      go (stop k) e f = absurd (clash cc)

  pub row-there : (n bytes : ℕ) → r ≡ Ok n → printed bytes (answer (take n result)) ≡ printed bytes o
  row-there n bytes q = go o s.0 s.1
    where
      go : (o : Outcome) → r ≡ told o → result ≡ written o before → printed bytes (answer (take n result)) ≡ printed bytes o
      go (answer ws) e f = let z : length ws ≡ n = cc in rw (← z, f, take-append_seam ws (drop (length ws) before))
      go (stop k) e f = absurd (clash cc)

  pub no-there : (k : Refusal) (bytes : ℕ) → r ≡ Err k → printed bytes (stop k) ≡ printed bytes o
  no-there k bytes q = go o s.0
    where
      go : (o : Outcome) → r ≡ told o → printed bytes (stop k) ≡ printed bytes o
      go (answer ws) e = absurd (clash cc)
      go (stop j) e = let z : j ≡ k = cc in rw z
