-- The declarations of a quantified row: how many, where those with flags end, and the words of those that are kept.
use Rattle.std.specs.Prelude.{Bool, true, false, not, ◌&&◌, List, [], ◌∷◌, ◌++◌, ℕ, zero, suc, ◌+◌, ◌*◌, leb, ltb, eqb, length, get_or, Some, None, Option}
use Rattle.tree.specs.Form.{pick, any_typed, encode_decls}
use Rattle.form.specs.Decode.{GotDecls, declared, no-decls}
use Rattle.places.specs.Internal.Positions.{part_words}
use Rattle.replace.specs.Internal.Pieces.{part}

-- where the declarations that were read at a position end, if one of them at least has an annotation
unfoldable pub end_decls : ℕ → GotDecls → Option ℕ
end_decls at (declared ds r) = pick (any_typed ds) (Some (at + length (encode_decls ds))) None
end_decls at no-decls = None

-- the second word of a row that begins with a quantifier's tag; 0 for any other
unfoldable pub count_in : List ℕ → ℕ
count_in row =
    let t = get_or row 0 0 in
    let n = get_or row 1 0 in
    pick (leb (length row) 1) 0 (pick (eqb t 851) n (pick (eqb t 852) n (pick (eqb t 861) n (pick (eqb t 862) n 0))))

-- where the declaration at p ends
unfoldable pub decl_end : List ℕ → ℕ → ℕ
decl_end row p = pick (leb (p + 2) (length row)) (pick (eqb (get_or row (p + 1) 0) 0) (p + 2) (part_words row (p + 2) (p + 2)).middle) p

-- where n declarations from p on end, and where the body of a quantified row starts
unfoldable pub decls_end : List ℕ → ℕ → ℕ → ℕ
decls_end row p zero = p
decls_end row p (suc n) = decls_end row (decl_end row p) n

unfoldable pub body_start : List ℕ → ℕ → ℕ
body_start row n = pick (ltb (get_or row 0 0) 860) (2 + n) (decls_end row 2 n)

-- whether a declaration whose word is 0 has an annotation
unfoldable pub keeps_note : List ℕ → List ℕ → ℕ → Bool
keeps_note row [] p = false
keeps_note row (w ∷ ws) p = pick (eqb w 0 && not (eqb (get_or row (p + 1) 0) 0)) true (keeps_note row ws (decl_end row p))

-- the words of a declaration that is kept, in full or its name alone; and of all of them
unfoldable pub part_if : ℕ → ℕ → ℕ → List ℕ → List ℕ
part_if w p e row = pick (eqb w 0) (part p e row) []

abbrev pub kept_part : Bool → List ℕ → ℕ → ℕ → List ℕ
kept_part full row w p = part_if w p (pick full (decl_end row p) (p + 1)) row

unfoldable pub kept_parts : Bool → List ℕ → List ℕ → ℕ → List ℕ
kept_parts full row [] p = []
kept_parts full row (w ∷ ws) p = kept_part full row w p ++ kept_parts full row ws (decl_end row p)

-- how many declarations are kept: those whose word is 0
unfoldable pub kept_in : List ℕ → ℕ
kept_in [] = 0
kept_in (w ∷ ws) = pick (eqb w 0) 1 0 + kept_in ws

-- whether a head can be written for n words and a row of so many, with so much room: there are few words, the row has at least a word for each,
-- and no more than a form has or there is room for
unfoldable pub head_fits : ℕ → ℕ → ℕ → Bool
head_fits n words room = leb n 32 && (leb (2 + n) words && (leb words 8192 && leb words room))

-- the head of a quantifier with n declarations, in full or by names; none without a declaration
unfoldable pub parts_head : ℕ → ℕ → Bool → List ℕ → List ℕ
parts_head op n full ks = pick (eqb n 0) [] (pick full (op + 10) op ∷ n ∷ ks)

-- with those that are kept, in full where one of them has an annotation
unfoldable pub noted_head : ℕ → List ℕ → List ℕ → ℕ → List ℕ
noted_head op ws row room =
    pick (leb op 852 && head_fits (length ws) (length row) room)
    (parts_head op (kept_in ws) (keeps_note row ws 2) (kept_parts (keeps_note row ws 2) row ws 2))
    []

-- those that are kept, always in full, and where they end from word 2 on
unfoldable pub flagged_parts : List ℕ → List ℕ → ℕ → List ℕ
flagged_parts ws row room = pick (head_fits (length ws) (length row) room) (kept_parts true row ws 2) []

unfoldable pub flagged_end : List ℕ → List ℕ → ℕ → ℕ
flagged_end ws row room = pick (head_fits (length ws) (length row) room) (2 + length (kept_parts true row ws 2)) 0

-- whether n names with flags have room from word 2 on
unfoldable pub names_fit : ℕ → ℕ → Bool
names_fit n room = leb n 32 && leb (2 + 2 * n) room
