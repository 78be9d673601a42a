-- Declarations with annotations round a body whose places are filled, by words: the head of those that are kept, alone or joined with the body's
-- own declarations.
use Rattle.std.specs.Prelude.{◌≡◌, Bool, true, false, not, ◌&&◌, List, [], ◌∷◌, ℕ, zero, suc, ◌+◌, ◌-◌, ◌≤◌, leb, eqb, length, get_or, take, drop, replicate}
use Rattle.tree.specs.Form.{pick}
use Rattle.form.specs.Decode.{declared, decls, decode}
use Rattle.form.specs.Answer.{Outcome, needs}
use Rattle.reader.specs.declared.lists.Table.{Table}
use Rattle.shift.specs.Internal.Items.{items, rewritten}
use Rattle.rules.specs.Fill.{Decl, unlisted}
use Rattle.replace.specs.Internal.Pieces.{planned, down_plan, placed_row}
use Rattle.decls.specs.Internal.Noted.{decls_end}
use Rattle.decls.specs.Internal.Used.{cleared_in}
use Rattle.rounds.specs.Internal.Round.{round_head, round_from, round_fits}
use Rattle.replace.specs.Internal.Partial.{partial_row}
use Rattle.replace.specs.declared.pieces.Source.{Source}
use Rattle.member.specs.Internal.Member.{with_place}
use Rattle.form.specs.declared.answer.Refusal.TheVariants.{OutOfLimits}

-- well-formed declarations ds with flags stand in a row from word 2 on
pub record FlaggedIn (row : List ℕ) (ds : List Decl) : Type 0 where
  pub rest : List ℕ
  pub is : decls (λ s l. decode 63 s l) (length ds) (drop 2 row) ≡ declared (unlisted ds) rest
  pub short : length row ≤ 8192

-- whether no word is 0
unfoldable pub no_zero : List ℕ → Bool
no_zero [] = true
no_zero (w ∷ ws) = pick (eqb w 0) false (no_zero ws)

-- whether the words of the declarations that are kept are the first j, and there are some
unfoldable pub front_alone : List ℕ → ℕ → Bool
front_alone ws j = not (eqb j 0) && no_zero (drop j ws)

-- whether the annotations of the body's own declarations use none of the first j of n declarations
abbrev pub notes_end : List ℕ → ℕ
notes_end body = decls_end body 2 (get_or body 1 0)

unfoldable pub notes_clear : List ℕ → List ℕ → ℕ → ℕ → Bool
notes_clear body marks n j = no_zero (take j (cleared_in n body marks 2 (notes_end body) (replicate (n + 1) 1)))

-- and whether there are annotations, and declarations are to join them
unfoldable pub notes_join : Bool → List ℕ → List ℕ → ℕ → ℕ → Bool
notes_join joins body marks n j = joins && (leb 2 (length body) && (eqb (get_or body 0 0) 862 && notes_clear body marks n j))

-- the first j places filled too, by the part of the last one
unfoldable pub front_filled : Table → ℕ → Table
front_filled t zero = t
front_filled t (suc j) = with_place (front_filled t j) j (get_or t.starts (t.n - 1) 0) (get_or t.ends (t.n - 1) 0)

-- the body's own declarations with the places filled in their annotations
unfoldable pub filled_notes : Table → ℕ → List ℕ → List ℕ → List ℕ → List ℕ → List ℕ
filled_notes t j row lm body marks = rewritten (planned (down_plan (front_filled t j) 0) row lm) (items (drop 2 (take (notes_end body) body)) (drop 2 marks))

-- the head of the declarations that are kept, and what the table puts for the body behind it
unfoldable pub round_row : List ℕ → Bool → Bool → List ℕ → Table → List ℕ → List ℕ → List ℕ → List ℕ → ℕ → Outcome
round_row ds joins clear notes t row lm body marks room =
    let keep = take t.n t.words in
    let from = round_from 852 joins clear body in
    needs OutOfLimits (round_fits 852 keep ds joins clear notes body) (placed_row false (round_head 852 keep ds joins clear notes body) t 0 row lm (drop from body) (drop from marks) room)

-- the same of the code's struct
abbrev pub notes_of : Source → ℕ → List ℕ
notes_of b j = filled_notes b.table.now j b.list.now b.list_marks.now b.row.now b.marks.now

abbrev pub round_of : List ℕ → Bool → Bool → List ℕ → Source → ℕ → Outcome
round_of ds joins clear notes b room = round_row ds joins clear notes b.table.now b.list.now b.list_marks.now b.row.now b.marks.now room

abbrev pub plain_of : List ℕ → List ℕ → Source → ℕ → Outcome
plain_of front stay b room = partial_row false 852 front stay b.table.now 0 b.list.now b.list_marks.now b.row.now b.marks.now room
