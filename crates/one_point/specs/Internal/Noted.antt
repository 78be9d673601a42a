-- Declarations with annotations of which one is replaced: the head that is kept, and the head that is joined with the body's own.
use Rattle.std.specs.Prelude.{Option, Some, None, ◌≡◌, Bool, true, false, not, ◌&&◌, List, [], ◌∷◌, ◌++◌, map, ℕ, ◌+◌, ◌-◌, ◌*◌, ◌≤◌, ◌<◌, eqb, leb, ltb, length, get_or, take, drop, set, replicate}
use Rattle.tree.specs.Form.{pick, encode_decls}
use Rattle.form.specs.Answer.{Outcome, stop}
use Rattle.reader.specs.declared.lists.Table.{Table}
use Rattle.shift.specs.Internal.Items.{items, rewritten, store}
use Rattle.rules.specs.Fill.{unnoted, unlisted}
use Rattle.places.specs.Internal.Sides.{above_words}
use Rattle.replace.specs.Internal.Pieces.{planned, down_plan, placed_row}
use Rattle.decls.specs.Internal.Noted.{noted_head}
use Rattle.decls.specs.Internal.Used.{cleared_in}
use Rattle.one_point.specs.Internal.Reduce.{operator_in, decls_in, one_table, placed_outcome, is_simple, target_of, named_row, Putting}
use Rattle.one_point.specs.declared.joined.Joining.{Joining}
use Rattle.one_point.specs.declared.joined.Joining.TheVariants.{Apart, Unused, Used}
use Rattle.form.specs.declared.answer.Refusal.TheVariants.{OutOfLimits}

-- a row that holds the declarations of a head, each with its flag, from the third word on
pub record Flags (head row : List ℕ) : Type 0 where
  pub is : drop 2 row ≡ encode_decls (unlisted (decls_in head))
  pub long : 2 ≤ length row
  pub short : length row ≤ 8192

-- a head, and the body from a word on with the first of its outermost m declarations replaced
abbrev pub under_row : Bool → List ℕ → ℕ → List ℕ → List ℕ → List ℕ → List ℕ → ℕ → ℕ → Outcome
under_row sure head m part pm body marks start room = placed_row sure head (one_table m (length part)) m part pm (drop start body) (drop start marks) room

-- the declarations but the one at p round the body
unfoldable pub kept_row : Bool → List ℕ → List ℕ → ℕ → List ℕ → List ℕ → List ℕ → List ℕ → ℕ → Outcome
kept_row sure head row p part pm body marks room =
    under_row sure (noted_head (operator_in head) (take (get_or head 1 0) (set (replicate 32 0) p 1)) row 8192) (get_or head 1 0 - p) part pm body marks 0 room

-- names behind a head, with flags where it has them, and where they end
abbrev pub with_names : List ℕ → List ℕ → ℕ → List ℕ
with_names names head h = store head h (pick (ltb 860 (get_or head 0 0)) (encode_decls (unlisted (map unnoted names))) names)

abbrev pub names_end : List ℕ → List ℕ → ℕ → ℕ
names_end names head h = h + pick (ltb 860 (get_or head 0 0)) (2 * length names) (length names)

-- the declarations before the last one, and the body's own quantifier inside them
pub record Inside (head row part pm body marks : List ℕ) : Type 0 where
  pub flags : Flags head row
  pub putting : Putting head (get_or head 1 0 - 1) part pm body marks
  pub several : 2 ≤ get_or head 1 0

-- all of n places are filled by the part that ends at e; the words that stand then for annotations
abbrev pub full_table : ℕ → ℕ → Table
full_table n e = record { words = replicate 32 1; starts = replicate 32 0; ends = replicate 32 e; n = n }

abbrev pub notes_in : ℕ → List ℕ → List ℕ → List ℕ → List ℕ → List ℕ
notes_in n list lm notes raised = rewritten (planned (down_plan (full_table n (length list)) n) list lm) (items notes raised)

-- the annotations of a body's own quantifier, which end at a word; a name that stands for what is never read
abbrev pub notes_of : ℕ → List ℕ → List ℕ
notes_of end body = take (end - 2) (drop 2 body)

abbrev pub free_words : List ℕ
free_words = 1 ∷ 0 ∷ []

-- the words of the declarations before the last one, in full
abbrev pub front_words : List ℕ → List ℕ
front_words head = encode_decls (unlisted (take (get_or head 1 0 - 1) (decls_in head)))

abbrev pub joined_head : List ℕ → ℕ → List ℕ → List ℕ
joined_head head k ws = (operator_in head + 10) ∷ (get_or head 1 0 - 1 + k) ∷ (front_words head ++ ws)

-- the joined head as it is written, unless it has more words than a form
abbrev pub WroteJoined : List ℕ → ℕ → List ℕ → Option ℕ → List ℕ → Type 0
WroteJoined head k ws (Some e) l = (e ≤ length l) × (take e l ≡ joined_head head k ws)
WroteJoined head k ws None l = 8192 < length (joined_head head k ws)

unfoldable pub joined_row : List ℕ → ℕ → List ℕ → List ℕ → List ℕ → List ℕ → List ℕ → ℕ → ℕ → Outcome
joined_row head k ws part pm body marks start room =
    pick (leb (length (joined_head head k ws)) 8192) (under_row false (joined_head head k ws) 1 part pm body marks start room) (stop OutOfLimits)

-- whether all words are 1
unfoldable pub all_ones : List ℕ → Bool
all_ones [] = true
all_ones (w ∷ ws) = eqb w 1 && all_ones ws

-- how annotations that use the declarations whose word is 0 join: they use none of those in front, and the last one not or by what stands above
-- all of them
abbrev pub joining_by : ℕ → Bool → List ℕ → Joining
joining_by j high ws = pick (all_ones (take j ws)) (pick (eqb (get_or ws j 0) 1) Unused (pick high Used Apart)) Apart

unfoldable pub joining_in : ℕ → List ℕ → List ℕ → List ℕ → Joining
joining_in n part notes raised = joining_by (n - 1) (ltb (n - 1) 32 && above_words (n - 1) part) (cleared_in n notes raised 0 (length notes) (replicate (n + 1) 1))

-- whether the declarations of a head with annotations stay apart from the body's own quantifier when the one at p is replaced: none is in front of
-- it, one stays behind it, or the body has another operator
unfoldable pub is_apart : List ℕ → ℕ → List ℕ → Bool
is_apart head p body =
    let t = get_or head 0 0 in
    let u = get_or body 0 0 in
    pick (ltb 860 t) (pick (eqb p 0) true (pick (eqb (p + 1) (get_or head 1 0)) (pick (eqb u t) false (not (eqb u (t - 10)))) true)) false

-- the place p of a head filled by the part in a body: by names, apart, or by the definition
unfoldable pub rest_row : Bool → List ℕ → ℕ → List ℕ → List ℕ → List ℕ → List ℕ → ℕ → Outcome
rest_row sure head p part pm body marks room =
    pick (is_simple head body) (named_row sure (get_or head 0 0) (drop 2 head) p part pm body marks room)
    (pick (is_apart head p body) (kept_row sure head head p part pm body marks room) (placed_outcome (operator_in head) (decls_in head) (target_of head p) part body room))
