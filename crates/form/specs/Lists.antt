-- The rows that are lists: names; name and expression in turn; for each declaration 0 (kept), or 1 and an expression.
use Rattle.std.specs.Prelude.{Bool, true, not, ◌&&◌, List, [], ◌∷◌, ◌++◌, ℕ, zero, suc, leb, length}
use Rattle.std.proofs.Math.Option.{Option, none as absent, some}
use Rattle.tree.specs.Form.{Form, member, encode}
use Rattle.tree.specs.Tag.{expr}
use Rattle.form.specs.Decode.{Got, got, no-form, decode}
use Rattle.form.specs.declared.answer.ListKind.{ListKind}
use Rattle.form.specs.declared.answer.ListKind.TheVariants.{Pairs, Places}

pub data Place : Type 0 where
  kept : Place
  filled : Form → Place

-- an entry: its word (a name, or 0 or 1), and the expression after it if there is one
pub data Entry : Type 0 where
  entry : ℕ → Place → Entry

abbrev pub word_of : Entry → ℕ
word_of (entry w p) = w

abbrev pub place_of : Entry → Place
place_of (entry w p) = p

-- an entry at the front of the words, and the words after it
abbrev pub with_expr : ℕ → Got → Option (Entry × List ℕ)
with_expr w = elim [ got f r ↦ some (entry w (filled f), r) | no-form ↦ absent ]

abbrev pub place_entry : ℕ → List ℕ → Option (Entry × List ℕ)
place_entry zero ws = some (entry 0 kept, ws)
place_entry (suc zero) ws = with_expr 1 (decode 64 expr ws)
place_entry (suc (suc w)) ws = absent

unfoldable pub entry_of : ListKind → List ℕ → Option (Entry × List ℕ)
entry_of kind [] = absent
entry_of Pairs (w ∷ ws) = with_expr w (decode 64 expr ws)
entry_of Places (w ∷ ws) = place_entry w ws

abbrev pub add_entry : Entry → Option (List Entry) → Option (List Entry)
add_entry e = elim [ some es ↦ some (e ∷ es) | absent ↦ absent ]

abbrev pub and_then : Option (Entry × List ℕ) → (List ℕ → Option (List Entry)) → Option (List Entry)
and_then x k = elim x [ some x ↦ add_entry x.0 (k x.1) | absent ↦ absent ]

-- entries one after another to the end of the words; an entry has a word, so the row's length bounds their number
unfoldable pub entries : ListKind → ℕ → List ℕ → Option (List Entry)
entries kind zero [] = some []
entries kind zero (w ∷ ws) = absent
entries kind (suc n) [] = some []
entries kind (suc n) (w ∷ ws) = and_then (entry_of kind (w ∷ ws)) (λ r. entries kind n r)

unfoldable pub list_of : ListKind → List ℕ → Option (List Entry)
list_of kind row = entries kind (length row) row

-- the row of a list
abbrev pub place_words : Place → List ℕ
place_words = elim [ kept ↦ [] | filled f ↦ encode f ]

unfoldable pub entry_words : Entry → List ℕ
entry_words (entry w p) = w ∷ place_words p

unfoldable pub encode_list : List Entry → List ℕ
encode_list [] = []
encode_list (e ∷ es) = entry_words e ++ encode_list es

-- names to bind or to substitute: at most 32, none over 65,535, none twice
unfoldable pub distinct : List ℕ → Bool
distinct [] = true
distinct (n ∷ ns) = (leb n 65535 && not (member n ns)) && distinct ns

unfoldable pub good_names : List ℕ → Bool
good_names ns = leb (length ns) 32 && distinct ns
