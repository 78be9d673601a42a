-- What a plan puts for a row, word by word: each word is looked at with its mark and the word after it.
use Rattle.std.specs.Prelude.{◌≡◌, Bool, true, not, ◌&&◌, ◌||◌, List, [], ◌∷◌, ◌++◌, ℕ, ◌+◌, ◌-◌, ◌%◌, ◌≤◌, ◌<◌, ltb, eqb, length, get_or, take, drop}
use Rattle.std.proofs.Math.Option.{Option, none as absent, some}
use Rattle.tree.specs.Form.{pick}
use Rattle.shift.specs.Internal.Items.{items, apart, word_item}
use Rattle.replace.specs.Internal.Pieces.{piece_words, piece_of, spot, sizes, filled_words, Ready}
use Rattle.shift.specs.declared.items.Item.TheVariants.{Plain}
use Rattle.replace.specs.declared.pieces.Piece.{Piece}
use Rattle.replace.specs.declared.pieces.Piece.TheVariants.{Same, Index, Part}
use Rattle.replace.specs.declared.pieces.Plan.{Plan}
use Rattle.replace.specs.declared.pieces.Job.{Job}
use Rattle.replace.specs.declared.pieces.Target.TheVariants.{Places, Names}
use Rattle.replace.specs.Internal.Job.{job_plan}

-- what is put for a word w with the mark m and the word that follows
abbrev pub next_piece : Plan → ℕ → ℕ → List ℕ → Piece
next_piece p m w [] = Same
next_piece p m w (v ∷ ws) = piece_of p (word_item m w v)

abbrev pub put_for : List ℕ → List ℕ → Piece → ℕ → List ℕ
put_for list lm Same x = x ∷ []
put_for list lm (Index u) x = x ∷ []
put_for list lm (Part s e u d) x = piece_words list lm (Part s e u d) (Plain 0)

-- what the next word becomes; it is passed over where a part stands for it too
abbrev pub next_word : Piece → List ℕ → Option ℕ
next_word Same ws = some (get_or ws 0 0)
next_word (Index u) ws = some u
next_word (Part s e u d) ws = absent

unfoldable pub spliced : Plan → List ℕ → List ℕ → Option ℕ → List ℕ → List ℕ → List ℕ
spliced p list lm x [] ms = []
spliced p list lm absent (w ∷ ws) ms = spliced p list lm (some (get_or ws 0 0)) ws (drop 1 ms)
spliced p list lm (some x) (w ∷ ws) ms =
    let c = next_piece p (get_or ms 0 0) w ws in
    put_for list lm c x ++ spliced p list lm (next_word c ws) ws (drop 1 ms)

-- a mark and the next one, neither of which tells that the marks do not stand apart
unfoldable pub pair_ok : ℕ → ℕ → ℕ → Bool
pair_ok lo m k = eqb m 0 || (ltb lo m && eqb k 0)

-- for the places of n declarations by slots: the word of each, and how many inside it are filled; nothing for the slot past them
pub record Slots (ws : List ℕ) (gone : ℕ) (cuts falls : List ℕ) : Type 0 where
  pub outer-cut : get_or cuts 0 0 ≡ 0
  pub outer-fall : get_or falls 0 0 ≡ gone
  pub cut : (s : ℕ) → 0 < s → s ≤ length ws → get_or cuts s 0 ≡ get_or ws (s - 1) 0
  pub fall : (s : ℕ) → 0 < s → s ≤ length ws → get_or falls s 0 ≡ filled_words (drop s ws)
  pub other_cut : get_or cuts (length ws + 1) 0 ≡ 0
  pub other-fall : get_or falls (length ws + 1) 0 ≡ 0

-- the remainders by 64 of names; nothing for the key past them
pub record Keys (ws keys : List ℕ) : Type 0 where
  pub has : (i : ℕ) → i < length ws → get_or keys (get_or ws i 0 % 64) 0 ≡ 1
  pub other : get_or keys 64 0 ≡ 0

-- the key of a word v behind a tag with the mark m: 64 where it is no name
unfoldable pub key_of : ℕ → ℕ → ℕ → ℕ
key_of m t v = pick (eqb t 1 && not (eqb m 0)) (v % 64) 64

-- where the name that such a word is stands in a list; past its end where it is no name, or not listed
unfoldable pub name_spot : List ℕ → ℕ → ℕ → ℕ → ℕ
name_spot ws m t v = pick (eqb t 1 && not (eqb m 0)) (spot v ws) (length ws)

-- what a word with a piece becomes, if no part stands for it
abbrev pub Becomes : Piece → ℕ → ℕ → Type 0
Becomes Same v y = y ≡ v
Becomes (Index u) v y = y ≡ u
Becomes (Part s e u d) v y = ⊥

-- a row can be spliced into a row of so many words from `at` on
pub record Splicing (lo : ℕ) (p : Plan) (list lm row marks : List ℕ) (start at room : ℕ) : Type 0 where
  pub ready : Ready p list lm
  pub within : start < length row
  pub long : length row ≤ length marks
  pub apart-on : apart lo (drop start row) (drop start marks) ≡ true
  pub fits : at + sizes p (items (drop start row) (drop start marks)) ≤ room

abbrev pub SplicingOf : ℕ → Job → ℕ → ℕ → Type 0
SplicingOf lo j at room = Splicing lo (job_plan j) j.source.list.now j.source.list_marks.now j.source.row.now j.source.marks.now j.from at room

-- and its places are filled by the tables of the slots
pub record Filling (j : Job) (cuts falls : List ℕ) (at room : ℕ) : Type 0 where
  pub splices : SplicingOf j.source.table.now.n j at room
  pub is-fill : j.rule.target ≡ Places
  pub slots : Slots (take j.source.table.now.n j.source.table.now.words) j.rule.gone cuts falls
  pub cuts-long : length cuts ≡ 34
  pub falls-long : length falls ≡ 34

-- or its names replaced, by the keys of the listed ones
pub record Freeing (j : Job) (keys : List ℕ) (at room : ℕ) : Type 0 where
  pub splices : SplicingOf 0 j at room
  pub is_free : j.rule.target ≡ Names
  pub known : Keys (take j.source.table.now.n j.source.table.now.words) keys
  pub keys-long : length keys ≡ 65
