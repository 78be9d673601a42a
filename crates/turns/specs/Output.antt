-- All that is printed for an input: the answer to each of its lines, in order, each with a newline (10). A last line needs no newline.
use Rattle.std.specs.Prelude.{Bool, true, false, List, [], ◌∷◌, ◌++◌, ℕ, eqb}
use Rattle.tree.specs.Form.{pick}
use Rattle.form.specs.Answer.{Outcome, answer, stop}
use Rattle.reply.specs.Reply.{reply_outcome}

abbrev pub with_newline : Outcome → List ℕ
with_newline (answer bs) = bs ++ (10 ∷ [])
with_newline (stop r) = []

-- with the program's rows, and room for 131,072 bytes
unfoldable pub answer_to : List ℕ → List ℕ
answer_to line = with_newline (reply_outcome line 8192 8192 16384 8192 131072)

-- the end of the input, after the bytes of an unfinished line
abbrev pub at_end : List ℕ → List ℕ
at_end [] = []
at_end (b ∷ bs) = answer_to (b ∷ bs)

-- what is printed for the bytes that follow those of an unfinished line
unfoldable pub output_after : List ℕ → List ℕ → List ℕ
output_after line [] = at_end line
output_after line (b ∷ bs) = pick (eqb b 10) (answer_to line ++ output_after [] bs) (output_after (line ++ (b ∷ [])) bs)

-- where the line is answered already
unfoldable pub output_past : List ℕ → List ℕ
output_past [] = []
output_past (b ∷ bs) = pick (eqb b 10) (output_after [] bs) (output_past bs)

abbrev pub output_of : Bool → List ℕ → List ℕ
output_of true bs = output_past bs
output_of false bs = output_after [] bs
