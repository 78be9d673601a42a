-- What a call answers: a length or a refusal, and the output row; which refusal comes first; and the answers of the checks.
use Rattle.std.specs.Prelude.{Bool, true, false, ◌&&◌, List, [], ◌++◌, map, ℕ, leb, length, drop, Result, Ok, Err}
use Rattle.std.proofs.Math.Option.{Option, none as absent, some}
use Rattle.tree.specs.Form.{Form, pick, encode}
use Rattle.tree.specs.Tag.{Sort}
use Rattle.form.specs.Decode.{Whole, one, not-one, row_form, Found, found, missing, form_of}
use Rattle.form.specs.Lists.{Entry, word_of, list_of, good_names}
use Rattle.form.specs.Break.{break_at, break_list}
use Rattle.form.specs.declared.answer.ListKind.{ListKind}
use Rattle.form.specs.declared.answer.ListKind.TheVariants.{Pairs, Places}
use Rattle.form.specs.declared.answer.Kind.{Kind}
use Rattle.form.specs.Refusal.{number_of, position_of}
use Rattle.form.specs.declared.answer.Refusal.{Refusal}
use Rattle.form.specs.declared.answer.Refusal.TheVariants.{TooLong, BadNames, TooManyPlaces, OutOfLimits, OutputTooShort, WorkTooShort, Broken}

-- what the code answers: the length of the row, or the refusal
abbrev pub Answer : Type 0
Answer = Result ℕ Refusal

-- the row that is answered, or the refusal
pub data Outcome : Type 0 where
  answer : List ℕ → Outcome
  stop : Refusal → Outcome

-- as the code answers it, and the output row afterwards: a refusal leaves it as it was, an answer the words past its length
abbrev pub told : Outcome → Answer
told = elim [ answer ws ↦ Ok (length ws) | stop r ↦ Err r ]

abbrev pub written : Outcome → List ℕ → List ℕ
written x out = elim x [ answer ws ↦ ws ++ drop (length ws) out | stop r ↦ out ]

-- the number of a refusal or 0, the length of an answer, and the position where the row breaks, for each case of the code's answer
abbrev pub number : Answer → ℕ
number = elim [ Ok n ↦ 0 | Err r ↦ number_of r ]

abbrev pub length_of : Answer → ℕ
length_of = elim [ Ok n ↦ n | Err r ↦ 0 ]

abbrev pub position : Answer → ℕ
position = elim [ Ok n ↦ 0 | Err r ↦ position_of r ]

-- a row that is too long or breaks, then what follows
abbrev pub within : List ℕ → Outcome → Outcome
within row o = pick (leb (length row) 8192) o (stop TooLong)

abbrev pub of_found : ℕ → (Sort → Form → Outcome) → Found → Outcome
of_found p go = elim [ found s f ↦ go s f | missing ↦ stop (Broken p) ]

abbrev pub of_list : ℕ → (List Entry → Outcome) → Option (List Entry) → Outcome
of_list p go = elim [ some es ↦ go es | absent ↦ stop (Broken p) ]

abbrev pub with_form : Kind → List ℕ → (Sort → Form → Outcome) → Outcome
with_form kind row go = within row (of_found (break_at kind row) go (form_of kind row))

abbrev pub with_list : ListKind → List ℕ → (List Entry → Outcome) → Outcome
with_list kind row go = within row (of_list (break_list kind row) go (list_of kind row))

-- the work row has at least 16,384 words
abbrev pub with_work : ℕ → Outcome → Outcome
with_work work o = pick (leb 16384 work) o (stop WorkTooShort)

abbrev pub needs : Refusal → Bool → Outcome → Outcome
needs r b o = pick b o (stop r)

-- the result: refused where its row is outside the limits, and where the output row is shorter
abbrev pub is_one : Whole → Bool
is_one = elim [ one f ↦ true | not-one ↦ false ]

unfoldable pub finish : Sort → ℕ → Form → Outcome
finish s room g = needs OutOfLimits (is_one (row_form s (encode g))) (needs OutputTooShort (leb (length (encode g)) room) (answer (encode g)))

-- the checks: of a form, and of the three lists (bad names, more places than declarations, or over 32 of these)
unfoldable pub check_outcome : Kind → List ℕ → Outcome
check_outcome kind row = with_form kind row (λ s f. answer [])

unfoldable pub names_outcome : List ℕ → Outcome
names_outcome row = within row (needs BadNames (good_names row) (answer []))

unfoldable pub pairs_outcome : List ℕ → Outcome
pairs_outcome row = with_list Pairs row (λ es. needs BadNames (good_names (map word_of es)) (answer []))

unfoldable pub places_outcome : ℕ → List ℕ → Outcome
places_outcome n row = with_list Places row (λ es. needs TooManyPlaces (leb n 32 && leb (length es) n) (answer []))
