-- The head of the declarations that are kept, put round a body: alone, or joined with the declarations of the body's own quantifier. Nothing here
-- is needed to read a public contract.
use Rattle.std.specs.Prelude.{◌≡◌, Bool, true, false, ◌&&◌, Option, Some, None, List, ◌∷◌, ◌++◌, map, ℕ, ◌+◌, ◌≤◌, leb, eqb, length, get_or, take, drop}
use Rattle.tree.specs.Form.{pick, encode_decls}
use Rattle.rules.specs.Fill.{unnoted, unlisted}
use Rattle.decls.specs.Internal.Noted.{decls_end, kept_in, noted_head, flagged_parts}
use Rattle.rounds.specs.declared.rounds.Round.{Round}

-- a head with k more declarations behind its own: its tag, the number of all, and the words of all
unfoldable pub longer_head : List ℕ → ℕ → List ℕ → List ℕ
longer_head hd k inner = get_or hd 0 0 ∷ (get_or hd 1 0 + k) ∷ (drop 2 hd ++ inner)

-- names as they stand behind a head with the tag t: with flags where that is not the operator itself
unfoldable pub names_behind : ℕ → ℕ → List ℕ → List ℕ
names_behind op t ns = pick (eqb t op) ns (encode_decls (unlisted (map unnoted ns)))

-- the names that the body declares, so
unfoldable pub inner_names : ℕ → ℕ → List ℕ → List ℕ
inner_names op t body = names_behind op t (take (get_or body 1 0) (drop 2 body))

-- whether the head is joined with the body's own quantifier, by the body's first word: with its names, or with its annotated declarations
unfoldable pub joins_names : ℕ → Bool → List ℕ → Bool
joins_names op joins body = joins && eqb (get_or body 0 0) op

unfoldable pub joins_notes : ℕ → Bool → Bool → List ℕ → Bool
joins_notes op joins clear body = joins && (clear && eqb (get_or body 0 0) (op + 10))

-- the head joined with the body's names, and with its annotated declarations, which become the words `notes`
unfoldable pub head_names : ℕ → List ℕ → List ℕ → List ℕ
head_names op hd body = longer_head hd (get_or body 1 0) (inner_names op (get_or hd 0 0) body)

unfoldable pub head_notes : ℕ → List ℕ → List ℕ → List ℕ → List ℕ → List ℕ
head_notes op keep decls notes body = (op + 10) ∷ (kept_in keep + get_or body 1 0) ∷ (flagged_parts keep decls 8192 ++ notes)

-- the head
unfoldable pub round_head : ℕ → List ℕ → List ℕ → Bool → Bool → List ℕ → List ℕ → List ℕ
round_head op keep decls joins clear notes body =
    let hd = noted_head op keep decls 8192 in
    pick (joins_names op joins body) (head_names op hd body) (pick (joins_notes op joins clear body) (head_notes op keep decls notes body) hd)

-- from where on the body follows
unfoldable pub round_from : ℕ → Bool → Bool → List ℕ → ℕ
round_from op joins clear body =
    pick (joins_names op joins body) (2 + get_or body 1 0) (pick (joins_notes op joins clear body) (decls_end body 2 (get_or body 1 0)) 0)

-- whether a head of h words can be joined with k declarations of a body of so many words: neither is empty, and they are few
unfoldable pub can_join : ℕ → ℕ → ℕ → Bool
can_join h k words = leb 2 h && (leb k 32 && leb (2 + k) words)

-- whether the head can be made with 8,192 words: one that is joined with nothing always can
unfoldable pub join_fits : List ℕ → List ℕ → List ℕ → Bool
join_fits hd body whole = can_join (length hd) (get_or body 1 0) (length body) && leb (length whole) 8192

unfoldable pub round_fits : ℕ → List ℕ → List ℕ → Bool → Bool → List ℕ → List ℕ → Bool
round_fits op keep decls joins clear notes body =
    let hd = noted_head op keep decls 8192 in
    leb op 852
    && pick (joins_names op joins body) (join_fits hd body (head_names op hd body)) (pick (joins_notes op joins clear body) (join_fits hd body (head_notes op keep decls notes body)) true)

-- a head stands at the start of a row, and behind it the body follows from a word on
pub record HeadMade (words : List ℕ) (from : ℕ) (r : Round) (row : List ℕ) : Type 0 where
  pub inside : r.words ≤ length row
  pub front : take r.words row ≡ words
  pub follows : r.from ≡ from

-- what is told of a head that is these words, by whether it can be made
abbrev pub HeadTold : Bool → List ℕ → ℕ → Option Round → List ℕ → Type 0
HeadTold fits words from None row = fits ≡ false
HeadTold fits words from (Some r) row = (fits ≡ true) × HeadMade words from r row
