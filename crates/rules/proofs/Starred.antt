-- Worked cases from row to row, with lists of one place, of none and of three for two declarations: one table, one statement about the
-- definitions. Assumes nothing.
use mathlib.Core.Path.{◌≡◌, refl, ap}
use mathlib.Core.List.{List, [], ◌∷◌, map}
use Prim.Native.Nat.{ℕ}
use lib.IntN.{ℤ, pos, negsuc}
use Rattle.tree.specs.Form.{encode}
use Rattle.tree.specs.Tag.{own, own_of, shape_of, expr_tags, pred_tags}
use Rattle.form.specs.Decode.{read, decl_at, decls, decode, decode_all, row_form, form_of}
use Rattle.form.specs.Lists.{entry_of, entries, list_of, distinct, good_names}
use Rattle.form.specs.Break.{decls_next, next_of, least, least_all, after, break_from, break_at}
use Rattle.form.specs.Answer.{Outcome, answer, stop, told, number, position, finish}
use Rattle.rules.specs.Walk.{walk, collect}
use Rattle.rules.specs.Shift as S
use Rattle.rules.specs.Free.{substitute, free_outcome}
use Rattle.rules.specs.Bind as B
use Rattle.rules.specs.Fill as F
use Rattle.rules.specs.Prune as P
use Rattle.rules.specs.Replacement.{accept}
use Rattle.rules.specs.Split.{parts}
use Rattle.rules.specs.Scan.{offer_parts, scan}
use Rattle.rules.specs.Partial.{put_round, instantiate_partial}
use Rattle.rules.specs.Point.{one_point, point_outcome}
use Rattle.rules.specs.Member.{offer_all, membership, member_outcome}
use Rattle.rules.specs.Command.{outcome_of}
use Rattle.rules.specs.declared.command.Command.{Command}
use Rattle.rules.specs.declared.command.Command.TheVariants.{Shift, Free, Bind, Fill, Prune, Point, Member}
use Rattle.rules.proofs.MissingPlaces.{exact_fill}
use Rattle.form.specs.declared.answer.Refusal.TheVariants.{TooManyPlaces, Captured, NothingToRewrite, Broken}

-- a command with an output row of 8,192 words and a work row of 16,384
abbrev run : Command → ℤ → List ℕ → List ℕ → Outcome
run c z list row = outcome_of c z list row 16384 8192

abbrev cases : List Outcome
cases =
    run Shift (negsuc 1) [] (852 ∷ 1 ∷ 9 ∷ 101 ∷ 2 ∷ 0 ∷ 2 ∷ 2 ∷ [])
    ∷ run Shift (negsuc 0) [] (852 ∷ 1 ∷ 9 ∷ 101 ∷ 2 ∷ 0 ∷ 2 ∷ 2 ∷ [])
    ∷ run Free (pos 0) (4 ∷ 2 ∷ 0 ∷ []) (852 ∷ 1 ∷ 9 ∷ 101 ∷ 2 ∷ 0 ∷ 1 ∷ 4 ∷ [])
    ∷ run Bind (pos 0) (4 ∷ 5 ∷ []) (101 ∷ 1 ∷ 4 ∷ 2 ∷ 0 ∷ [])
    ∷ run Fill (pos 0) (0 ∷ 1 ∷ 1 ∷ 5 ∷ []) (852 ∷ 2 ∷ 4 ∷ 5 ∷ 101 ∷ 2 ∷ 1 ∷ 2 ∷ 2 ∷ [])
    ∷ run Fill (pos 0) (1 ∷ 1 ∷ 5 ∷ []) (852 ∷ 2 ∷ 4 ∷ 5 ∷ 101 ∷ 2 ∷ 1 ∷ 2 ∷ 2 ∷ [])
    ∷ run Fill (pos 0) [] (852 ∷ 2 ∷ 4 ∷ 5 ∷ 101 ∷ 2 ∷ 1 ∷ 2 ∷ 2 ∷ [])
    ∷ run Fill (pos 0) (0 ∷ 0 ∷ 0 ∷ []) (852 ∷ 2 ∷ 4 ∷ 5 ∷ 101 ∷ 2 ∷ 1 ∷ 2 ∷ 2 ∷ [])
    ∷ run Prune (pos 0) [] (852 ∷ 2 ∷ 4 ∷ 5 ∷ 101 ∷ 2 ∷ 1 ∷ 1 ∷ 7 ∷ [])
    ∷ run Point (pos 0) [] (852 ∷ 1 ∷ 4 ∷ 101 ∷ 2 ∷ 0 ∷ 1 ∷ 7 ∷ [])
    ∷ run Point (pos 0) [] (851 ∷ 1 ∷ 4 ∷ 8 ∷ 101 ∷ 2 ∷ 0 ∷ 1 ∷ 7 ∷ [])
    ∷ run Point (pos 0) [] (852 ∷ 1 ∷ 4 ∷ 101 ∷ 2 ∷ 0 ∷ 2 ∷ 0 ∷ [])
    ∷ run Point (pos 0) [] (852 ∷ 2 ∷ 4 ∷ 5 ∷ 351 ∷ 2 ∷ 101 ∷ 2 ∷ 0 ∷ 2 ∷ 1 ∷ 851 ∷ 1 ∷ 6 ∷ 101 ∷ 2 ∷ 0 ∷ 2 ∷ 1 ∷ [])
    ∷ run Member (pos 0) [] (107 ∷ 1 ∷ 7 ∷ 803 ∷ 0 ∷ 1 ∷ 4 ∷ 610 ∷ 3 ∷ 5 ∷ [])
    ∷ []

abbrev answers : List Outcome
answers =
    stop Captured
    ∷ answer (852 ∷ 1 ∷ 9 ∷ 101 ∷ 2 ∷ 0 ∷ 2 ∷ 1 ∷ [])
    ∷ answer (852 ∷ 1 ∷ 9 ∷ 101 ∷ 2 ∷ 0 ∷ 2 ∷ 1 ∷ [])
    ∷ answer (101 ∷ 2 ∷ 1 ∷ 2 ∷ 2 ∷ [])
    ∷ answer (852 ∷ 1 ∷ 4 ∷ 101 ∷ 2 ∷ 0 ∷ 2 ∷ 1 ∷ [])
    ∷ answer (852 ∷ 1 ∷ 5 ∷ 101 ∷ 1 ∷ 5 ∷ 2 ∷ 1 ∷ [])
    ∷ answer (852 ∷ 2 ∷ 4 ∷ 5 ∷ 101 ∷ 2 ∷ 1 ∷ 2 ∷ 2 ∷ [])
    ∷ stop TooManyPlaces
    ∷ answer (852 ∷ 1 ∷ 4 ∷ 101 ∷ 2 ∷ 0 ∷ 1 ∷ 7 ∷ [])
    ∷ answer (610 ∷ [])
    ∷ answer (611 ∷ [])
    ∷ stop NothingToRewrite
    ∷ answer (852 ∷ 1 ∷ 4 ∷ 851 ∷ 1 ∷ 6 ∷ 101 ∷ 2 ∷ 0 ∷ 2 ∷ 1 ∷ [])
    ∷ answer (852 ∷ 1 ∷ 4 ∷ 351 ∷ 2 ∷ 610 ∷ 101 ∷ 3 ∷ 5 ∷ 1 ∷ 7 ∷ [])
    ∷ []

pub starred : cases ≡ answers
unfolding S.shift_outcome S.shift free_outcome substitute B.bind_outcome B.bind F.fill_outcome F.fill F.quantified P.prune_outcome P.prune point_outcome one_point member_outcome membership offer_all instantiate_partial put_round scan offer_parts accept parts walk collect finish good_names distinct list_of entries entry_of form_of row_form decode decode_all decl_at decls read own own_of shape_of expr_tags pred_tags encode
starred = refl

-- the numbers by which they are refused, as C and the lines see them; 0 for an answer
abbrev numbers : List Outcome → List ℕ
numbers os = map (λ o. number (told o)) os

pub starred-numbers : numbers cases ≡ 6 ∷ 0 ∷ 0 ∷ 0 ∷ 0 ∷ 0 ∷ 0 ∷ 5 ∷ 0 ∷ 0 ∷ 0 ∷ 9 ∷ 0 ∷ 0 ∷ []
starred-numbers = ap numbers starred

-- the same for annotated declarations
abbrev noted_cases : List Outcome
noted_cases =
    run Shift (negsuc 0) [] (861 ∷ 1 ∷ 9 ∷ 1 ∷ 2 ∷ 1 ∷ 101 ∷ 2 ∷ 0 ∷ 2 ∷ 2 ∷ [])
    ∷ run Shift (negsuc 0) [] (861 ∷ 1 ∷ 9 ∷ 1 ∷ 2 ∷ 0 ∷ 101 ∷ 2 ∷ 0 ∷ 2 ∷ 2 ∷ [])
    ∷ run Shift (negsuc 0) [] (861 ∷ 1 ∷ 9 ∷ 0 ∷ 610 ∷ [])
    ∷ run Bind (pos 0) (7 ∷ []) (861 ∷ 1 ∷ 9 ∷ 1 ∷ 1 ∷ 7 ∷ 101 ∷ 2 ∷ 0 ∷ 1 ∷ 7 ∷ [])
    ∷ run Fill (pos 0) (0 ∷ 1 ∷ 1 ∷ 5 ∷ []) (862 ∷ 2 ∷ 4 ∷ 1 ∷ 2 ∷ 0 ∷ 5 ∷ 0 ∷ 101 ∷ 2 ∷ 1 ∷ 2 ∷ 2 ∷ [])
    ∷ run Fill (pos 0) (1 ∷ 1 ∷ 5 ∷ 0 ∷ []) (862 ∷ 2 ∷ 4 ∷ 1 ∷ 1 ∷ 6 ∷ 5 ∷ 0 ∷ 101 ∷ 2 ∷ 0 ∷ 2 ∷ 1 ∷ [])
    ∷ run Fill (pos 0) (1 ∷ 1 ∷ 5 ∷ []) (862 ∷ 2 ∷ 4 ∷ 0 ∷ 5 ∷ 1 ∷ 2 ∷ 0 ∷ 101 ∷ 2 ∷ 0 ∷ 2 ∷ 1 ∷ [])
    ∷ run Prune (pos 0) [] (862 ∷ 2 ∷ 4 ∷ 0 ∷ 5 ∷ 1 ∷ 1 ∷ 8 ∷ 101 ∷ 2 ∷ 1 ∷ 1 ∷ 7 ∷ [])
    ∷ run Prune (pos 0) [] (862 ∷ 2 ∷ 4 ∷ 1 ∷ 2 ∷ 0 ∷ 5 ∷ 1 ∷ 1 ∷ 8 ∷ 101 ∷ 2 ∷ 1 ∷ 1 ∷ 7 ∷ [])
    ∷ run Point (pos 0) [] (852 ∷ 2 ∷ 4 ∷ 5 ∷ 351 ∷ 2 ∷ 101 ∷ 2 ∷ 0 ∷ 2 ∷ 1 ∷ 862 ∷ 1 ∷ 6 ∷ 1 ∷ 2 ∷ 2 ∷ 101 ∷ 2 ∷ 0 ∷ 2 ∷ 1 ∷ [])
    ∷ run Point (pos 0) [] (852 ∷ 2 ∷ 4 ∷ 5 ∷ 351 ∷ 2 ∷ 101 ∷ 2 ∷ 0 ∷ 2 ∷ 1 ∷ 862 ∷ 1 ∷ 6 ∷ 1 ∷ 2 ∷ 1 ∷ 101 ∷ 2 ∷ 0 ∷ 2 ∷ 1 ∷ [])
    ∷ run Point (pos 0) [] (862 ∷ 3 ∷ 4 ∷ 0 ∷ 5 ∷ 0 ∷ 6 ∷ 1 ∷ 2 ∷ 3 ∷ 351 ∷ 2 ∷ 101 ∷ 2 ∷ 1 ∷ 2 ∷ 2 ∷ 101 ∷ 2 ∷ 0 ∷ 2 ∷ 1 ∷ [])
    ∷ run Member (pos 0) [] (107 ∷ 1 ∷ 7 ∷ 873 ∷ 0 ∷ 1 ∷ 4 ∷ 1 ∷ 2 ∷ 3 ∷ 610 ∷ 3 ∷ 5 ∷ [])
    ∷ []

abbrev noted_answers : List Outcome
noted_answers =
    answer (861 ∷ 1 ∷ 9 ∷ 1 ∷ 2 ∷ 0 ∷ 101 ∷ 2 ∷ 0 ∷ 2 ∷ 1 ∷ [])
    ∷ stop Captured
    ∷ stop (Broken 3)
    ∷ answer (861 ∷ 1 ∷ 9 ∷ 1 ∷ 2 ∷ 0 ∷ 101 ∷ 2 ∷ 0 ∷ 2 ∷ 1 ∷ [])
    ∷ answer (862 ∷ 1 ∷ 4 ∷ 1 ∷ 2 ∷ 0 ∷ 101 ∷ 2 ∷ 0 ∷ 2 ∷ 1 ∷ [])
    ∷ answer (852 ∷ 1 ∷ 5 ∷ 101 ∷ 2 ∷ 0 ∷ 1 ∷ 5 ∷ [])
    ∷ answer (862 ∷ 1 ∷ 5 ∷ 1 ∷ 2 ∷ 0 ∷ 101 ∷ 2 ∷ 0 ∷ 1 ∷ 5 ∷ [])
    ∷ answer (852 ∷ 1 ∷ 4 ∷ 101 ∷ 2 ∷ 0 ∷ 1 ∷ 7 ∷ [])
    ∷ answer (862 ∷ 1 ∷ 4 ∷ 1 ∷ 2 ∷ 0 ∷ 101 ∷ 2 ∷ 0 ∷ 1 ∷ 7 ∷ [])
    ∷ answer (862 ∷ 2 ∷ 4 ∷ 0 ∷ 6 ∷ 1 ∷ 2 ∷ 0 ∷ 101 ∷ 2 ∷ 0 ∷ 2 ∷ 1 ∷ [])
    ∷ answer (852 ∷ 1 ∷ 4 ∷ 862 ∷ 1 ∷ 6 ∷ 1 ∷ 2 ∷ 0 ∷ 101 ∷ 2 ∷ 0 ∷ 2 ∷ 1 ∷ [])
    ∷ answer (862 ∷ 2 ∷ 4 ∷ 0 ∷ 6 ∷ 1 ∷ 2 ∷ 3 ∷ 101 ∷ 2 ∷ 0 ∷ 2 ∷ 1 ∷ [])
    ∷ answer (862 ∷ 1 ∷ 4 ∷ 1 ∷ 2 ∷ 3 ∷ 351 ∷ 2 ∷ 610 ∷ 101 ∷ 3 ∷ 5 ∷ 1 ∷ 7 ∷ [])
    ∷ []

pub noted-cases : noted_cases ≡ noted_answers
unfolding S.shift_outcome S.shift free_outcome substitute B.bind_outcome B.bind F.fill_outcome F.fill F.quantified P.prune_outcome P.prune point_outcome one_point member_outcome membership offer_all instantiate_partial put_round scan offer_parts accept parts walk collect finish good_names distinct list_of entries entry_of form_of row_form decode decode_all decl_at decls read break_at break_from after least least_all decls_next next_of own own_of shape_of expr_tags pred_tags encode
noted-cases = refl

-- their numbers, and the positions, which only a row that breaks has
pub noted-numbers : (numbers noted_cases ≡ 0 ∷ 6 ∷ 2 ∷ 0 ∷ 0 ∷ 0 ∷ 0 ∷ 0 ∷ 0 ∷ 0 ∷ 0 ∷ 0 ∷ 0 ∷ []) × (map (λ o. position (told o)) noted_cases ≡ 0 ∷ 0 ∷ 3 ∷ 0 ∷ 0 ∷ 0 ∷ 0 ∷ 0 ∷ 0 ∷ 0 ∷ 0 ∷ 0 ∷ 0 ∷ [])
noted-numbers = (ap numbers noted-cases, ap (λ os. map (λ o. position (told o)) os) noted-cases)

-- the rule by which a place for each declaration is asked for, on a list as long as the declarations, and on the two that are shorter: these it refused
abbrev two : List ℕ
two = 852 ∷ 2 ∷ 4 ∷ 5 ∷ 101 ∷ 2 ∷ 1 ∷ 2 ∷ 2 ∷ []

abbrev former_cases : List Outcome
former_cases = exact_fill (0 ∷ 1 ∷ 1 ∷ 5 ∷ []) two 16384 8192 ∷ exact_fill (1 ∷ 1 ∷ 5 ∷ []) two 16384 8192 ∷ exact_fill [] two 16384 8192 ∷ []

pub former-cases : former_cases ≡ answer (852 ∷ 1 ∷ 4 ∷ 101 ∷ 2 ∷ 0 ∷ 2 ∷ 1 ∷ []) ∷ stop TooManyPlaces ∷ stop TooManyPlaces ∷ []
unfolding F.fill F.quantified walk finish list_of entries entry_of form_of row_form decode decode_all decl_at decls read own own_of shape_of expr_tags pred_tags encode
former-cases = refl

pub former-numbers : numbers former_cases ≡ 0 ∷ 5 ∷ 5 ∷ []
former-numbers = ap numbers former-cases
