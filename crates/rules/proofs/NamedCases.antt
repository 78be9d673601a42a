-- Worked cases of named forms, from row to row: one table, one statement about the definitions. Assumes nothing.
use mathlib.Core.Path.{◌≡◌, refl}
use mathlib.Core.List.{List, [], ◌∷◌, map}
use Prim.Native.Nat.{ℕ}
use lib.IntN.{pos}
use Rattle.tree.specs.Form.{encode}
use Rattle.tree.specs.Tag.{own, own_of, shape_of, expr_tags, pred_tags}
use Rattle.form.specs.Decode.{read, decl_at, decls, decode, decode_all, row_form, index_free, form_of}
use Rattle.form.specs.Break.{decls_next, next_of, least, least_all, after, break_from, break_at}
use Rattle.form.specs.Answer.{Outcome, answer, stop, finish}
use Rattle.rules.specs.Named.{occurrence, nameless, named_outcome}
use Rattle.rules.specs.Command.{outcome_of}
use Rattle.rules.specs.declared.command.Command.TheVariants.{Named}
use Rattle.form.specs.declared.answer.Refusal.TheVariants.{Broken}

-- a row with names, and the row with indices; a row, and where it breaks
abbrev Case : Type 0
Case = List ℕ × List ℕ

abbrev Break : Type 0
Break = List ℕ × ℕ

abbrev named : List ℕ → Outcome
named row = outcome_of Named (pos 0) [] row 16384 8192

-- in one quantifier the last declaration is index 0, and of two equal names the last counts
abbrev one_quantifier : List Case
one_quantifier =
    (852 ∷ 2 ∷ 4 ∷ 5 ∷ 101 ∷ 1 ∷ 4 ∷ 1 ∷ 5 ∷ [], 852 ∷ 2 ∷ 4 ∷ 5 ∷ 101 ∷ 2 ∷ 1 ∷ 2 ∷ 0 ∷ [])
    ∷ (852 ∷ 2 ∷ 4 ∷ 4 ∷ 101 ∷ 1 ∷ 4 ∷ 1 ∷ 7 ∷ [], 852 ∷ 2 ∷ 4 ∷ 4 ∷ 101 ∷ 2 ∷ 0 ∷ 1 ∷ 7 ∷ [])
    ∷ (852 ∷ 3 ∷ 4 ∷ 4 ∷ 5 ∷ 101 ∷ 1 ∷ 4 ∷ 1 ∷ 5 ∷ [], 852 ∷ 3 ∷ 4 ∷ 4 ∷ 5 ∷ 101 ∷ 2 ∷ 1 ∷ 2 ∷ 0 ∷ [])
    ∷ []

-- across quantifiers the innermost counts; outside its quantifier a name is free, or bound further out
abbrev several_quantifiers : List Case
several_quantifiers =
    (851 ∷ 1 ∷ 4 ∷ 852 ∷ 1 ∷ 5 ∷ 101 ∷ 1 ∷ 4 ∷ 1 ∷ 5 ∷ [], 851 ∷ 1 ∷ 4 ∷ 852 ∷ 1 ∷ 5 ∷ 101 ∷ 2 ∷ 1 ∷ 2 ∷ 0 ∷ [])
    ∷ (851 ∷ 2 ∷ 4 ∷ 5 ∷ 852 ∷ 1 ∷ 4 ∷ 101 ∷ 1 ∷ 4 ∷ 1 ∷ 5 ∷ [], 851 ∷ 2 ∷ 4 ∷ 5 ∷ 852 ∷ 1 ∷ 4 ∷ 101 ∷ 2 ∷ 0 ∷ 2 ∷ 1 ∷ [])
    ∷ (351 ∷ 2 ∷ 852 ∷ 1 ∷ 4 ∷ 9 ∷ 1 ∷ 4 ∷ 9 ∷ 1 ∷ 4 ∷ [], 351 ∷ 2 ∷ 852 ∷ 1 ∷ 4 ∷ 9 ∷ 2 ∷ 0 ∷ 9 ∷ 1 ∷ 4 ∷ [])
    ∷ (851 ∷ 1 ∷ 4 ∷ 351 ∷ 2 ∷ 852 ∷ 1 ∷ 5 ∷ 9 ∷ 1 ∷ 4 ∷ 9 ∷ 1 ∷ 4 ∷ [], 851 ∷ 1 ∷ 4 ∷ 351 ∷ 2 ∷ 852 ∷ 1 ∷ 5 ∷ 9 ∷ 2 ∷ 1 ∷ 9 ∷ 2 ∷ 0 ∷ [])
    ∷ []

-- only a tag 1 is an occurrence: names of 7 and 11, and literals, stay
abbrev other_words : List Case
other_words =
    (852 ∷ 1 ∷ 4 ∷ 351 ∷ 2 ∷ 7 ∷ 4 ∷ 11 ∷ 4 ∷ 2 ∷ 1 ∷ 4 ∷ 3 ∷ 4 ∷ [], 852 ∷ 1 ∷ 4 ∷ 351 ∷ 2 ∷ 7 ∷ 4 ∷ 11 ∷ 4 ∷ 2 ∷ 2 ∷ 0 ∷ 3 ∷ 4 ∷ [])
    ∷ []

-- both children of a comprehension stand under its declarations; annotations stand outside them
abbrev comprehensions_and_notes : List Case
comprehensions_and_notes =
    (803 ∷ 0 ∷ 1 ∷ 4 ∷ 101 ∷ 1 ∷ 4 ∷ 1 ∷ 5 ∷ 1 ∷ 4 ∷ [], 803 ∷ 0 ∷ 1 ∷ 4 ∷ 101 ∷ 2 ∷ 0 ∷ 1 ∷ 5 ∷ 2 ∷ 0 ∷ [])
    ∷ (862 ∷ 1 ∷ 4 ∷ 1 ∷ 1 ∷ 4 ∷ 9 ∷ 1 ∷ 4 ∷ [], 862 ∷ 1 ∷ 4 ∷ 1 ∷ 1 ∷ 4 ∷ 9 ∷ 2 ∷ 0 ∷ [])
    ∷ (851 ∷ 1 ∷ 4 ∷ 862 ∷ 2 ∷ 4 ∷ 1 ∷ 1 ∷ 4 ∷ 5 ∷ 0 ∷ 9 ∷ 1 ∷ 4 ∷ [], 851 ∷ 1 ∷ 4 ∷ 862 ∷ 2 ∷ 4 ∷ 1 ∷ 2 ∷ 0 ∷ 5 ∷ 0 ∷ 9 ∷ 2 ∷ 1 ∷ [])
    ∷ (873 ∷ 0 ∷ 2 ∷ 4 ∷ 0 ∷ 5 ∷ 1 ∷ 1 ∷ 4 ∷ 610 ∷ 1 ∷ 4 ∷ [], 873 ∷ 0 ∷ 2 ∷ 4 ∷ 0 ∷ 5 ∷ 1 ∷ 1 ∷ 4 ∷ 610 ∷ 2 ∷ 1 ∷ [])
    ∷ []

abbrev Right : List Case → Type 0
Right cases = map (λ c. named c.0) cases ≡ map (λ c. answer c.1) cases

pub named-cases : Right one_quantifier × Right several_quantifiers × Right other_words × Right comprehensions_and_notes
unfolding named_outcome finish occurrence nameless form_of row_form index_free decode decode_all decl_at decls read own own_of shape_of expr_tags pred_tags encode
named-cases = (refl, refl, refl, refl)

-- an index is refused at its tag, also where the row breaks later; the word 2 is no index where no tag must come
abbrev indices : List Break
indices =
    (2 ∷ 0 ∷ [], 0)
    ∷ (852 ∷ 1 ∷ 4 ∷ 101 ∷ 1 ∷ 4 ∷ 2 ∷ 0 ∷ [], 6)
    ∷ (101 ∷ 2 ∷ 0 ∷ 610 ∷ [], 1)
    ∷ (101 ∷ 1 ∷ 2 ∷ 610 ∷ [], 3)
    ∷ (862 ∷ 1 ∷ 4 ∷ 1 ∷ 2 ∷ 0 ∷ 610 ∷ [], 4)
    ∷ (852 ∷ 2 ∷ 2 ∷ 2 ∷ 101 ∷ 1 ∷ 2 ∷ [], 7)
    ∷ []

pub named-breaks : map (λ c. named c.0) indices ≡ map (λ c. stop (Broken c.1)) indices
unfolding named_outcome form_of row_form index_free decode decode_all decl_at decls read own own_of shape_of expr_tags pred_tags encode decls_next next_of least least_all after break_from break_at
named-breaks = refl
