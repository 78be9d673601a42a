-- Bytes written at a position, and what a printer answers, by what is decoded at its position of the row.
use Rattle.std.specs.Prelude.{Bool, ◌≡◌, Option as Maybe, Some, None, List, [], ◌∷◌, ◌++◌, ℕ, ◌+◌, ◌≤◌, length}
use Rattle.tree.specs.Form.{any_typed, pick, encode, encode_decls, encode_all}
use Rattle.form.specs.Decode.{Got, got, no-form, Gots, gots, no-forms, GotDecl, got_bare, got_typed, no-decl, GotDecls, declared, no-decls, Whole, one, not-one, Found, found, missing, form_of}
use Rattle.spell.specs.Put.{put}
use Rattle.spell.specs.Spell.{spaced, spell, spell_decls, spell_all, spell_entry, entries_after, spell_list, spell_names, fits_form, fits_list, fits_names}
use Rattle.std.proofs.Math.Option.{Option, none as absent, some}
use Rattle.form.specs.Lists.{Entry, entry_words, list_of}
use Rattle.form.specs.declared.answer.ListKind.{ListKind}
use Rattle.form.specs.declared.answer.Kind.TheVariants.{Either}
use Rattle.spell.specs.declared.print.Spot.{Spot}
use Rattle.spell.specs.declared.fits.Reading.{Reading}
use Rattle.spell.specs.declared.fits.Reading.TheVariants.{OneForm, Entries, Names}

-- the bytes bs were written at o: a became b, and r is the position after them
unfoldable pub Wrote : ℕ → List ℕ → List ℕ → List ℕ → ℕ → Type 0
Wrote o bs a b r = (r ≡ o + length bs) × (b ≡ put a o bs)

-- where a printer ends: in the row, and in the output
abbrev pub spot : ℕ → ℕ → Maybe Spot
spot row out = Some (record { row = row; out = out })

unfoldable pub Printed : ℕ → ℕ → Got → List ℕ → List ℕ → Maybe Spot → Type 0
Printed at o (got f x) a b r = (r ≡ spot (at + length (encode f)) (o + length (spell f))) × (b ≡ put a o (spell f))
Printed at o no-form a b r = r ≡ None

unfoldable pub PrintedAll : ℕ → ℕ → Gots → List ℕ → List ℕ → Maybe Spot → Type 0
PrintedAll at o (gots fs x) a b r = (r ≡ spot (at + length (encode_all fs)) (o + length (spell_all fs))) × (b ≡ put a o (spell_all fs))
PrintedAll at o no-forms a b r = r ≡ None

-- a declaration with its flag; several; several, one of which at least has an annotation, what k reads after them, and a bracket
unfoldable pub PrintedDecl : ℕ → ℕ → GotDecl → List ℕ → List ℕ → Maybe Spot → Type 0
PrintedDecl at o (got_bare w x) a b r = (r ≡ spot (at + 2) (o + length (spaced (w ∷ 0 ∷ [])))) × (b ≡ put a o (spaced (w ∷ 0 ∷ [])))
PrintedDecl at o (got_typed w f x) a b r =
    (r ≡ spot (at + 2 + length (encode f)) (o + length (spaced (w ∷ 1 ∷ []) ++ (32 ∷ spell f)))) × (b ≡ put a o (spaced (w ∷ 1 ∷ []) ++ (32 ∷ spell f)))
PrintedDecl at o no-decl a b r = r ≡ None

unfoldable pub PrintedDecls : ℕ → ℕ → GotDecls → List ℕ → List ℕ → Maybe Spot → Type 0
PrintedDecls at o (declared ds x) a b r = (r ≡ spot (at + length (encode_decls ds)) (o + length (spell_decls ds))) × (b ≡ put a o (spell_decls ds))
PrintedDecls at o no-decls a b r = r ≡ None

unfoldable pub PrintedTail : ℕ → ℕ → List ℕ → Gots → List ℕ → List ℕ → Maybe Spot → Type 0
PrintedTail at o bs (gots ks x) a b r =
    (r ≡ spot (at + length (encode_all ks)) (o + length (bs ++ (spell_all ks ++ (93 ∷ []))))) × (b ≡ put a o (bs ++ (spell_all ks ++ (93 ∷ []))))
PrintedTail at o bs no-forms a b r = r ≡ None

unfoldable pub PrintedNoted : ℕ → ℕ → GotDecls → (List ℕ → Gots) → List ℕ → List ℕ → Maybe Spot → Type 0
PrintedNoted at o (declared ds x) k a b r = pick (any_typed ds) (PrintedTail (at + length (encode_decls ds)) o (spell_decls ds) (k x) a b r) (r ≡ None)
PrintedNoted at o no-decls k a b r = r ≡ None

-- a printer of a whole row
unfoldable pub PrintedRow : Whole → List ℕ → List ℕ → Maybe ℕ → Type 0
PrintedRow (one f) a b r = (r ≡ Some (length (spell f))) × (b ≡ put a 0 (spell f))
PrintedRow not-one a b r = r ≡ None

unfoldable pub PrintedForm : Found → List ℕ → List ℕ → Maybe ℕ → Type 0
PrintedForm (found s f) a b r = (r ≡ Some (length (spell f))) × (b ≡ put a 0 (spell f))
PrintedForm missing a b r = r ≡ None

-- a printer of an entry, and of entries to the end of the row, the first after the byte b
unfoldable pub PrintedEntry : ListKind → ℕ → ℕ → Option (Entry × List ℕ) → List ℕ → List ℕ → Maybe Spot → Type 0
PrintedEntry kind at o (some x) a b r = (r ≡ spot (at + length (entry_words x.0)) (o + length (spell_entry kind x.0))) × (b ≡ put a o (spell_entry kind x.0))
PrintedEntry kind at o absent a b r = r ≡ None

unfoldable pub PrintedEntries : ℕ → ListKind → ℕ → Option (List Entry) → List ℕ → List ℕ → Maybe ℕ → Type 0
PrintedEntries s kind o (some es) a b r = (r ≡ Some (o + length (entries_after s kind es))) × (b ≡ put a o (entries_after s kind es))
PrintedEntries s kind o absent a b r = r ≡ None

unfoldable pub PrintedList : ListKind → Option (List Entry) → List ℕ → List ℕ → Maybe ℕ → Type 0
PrintedList kind (some es) a b r = (r ≡ Some (length (spell_list kind es))) × (b ≡ put a 0 (spell_list kind es))
PrintedList kind absent a b r = r ≡ None

abbrev pub AtMost : ℕ → Maybe ℕ → Type 0
AtMost m (Some n) = n ≤ m
AtMost m None = Unit {0}

-- a row printed as one form, as a list or as names; and whether a text is what is printed
unfoldable pub PrintedAs : Reading → List ℕ → List ℕ → List ℕ → Maybe ℕ → Type 0
PrintedAs OneForm row a b r = PrintedForm (form_of Either row) a b r
PrintedAs (Entries kind) row a b r = PrintedList kind (list_of kind row) a b r
PrintedAs Names row a b r = (r ≡ Some (length (spell_names row))) × (b ≡ put a 0 (spell_names row))

unfoldable pub fits : Reading → List ℕ → List ℕ → Bool
fits OneForm text row = fits_form text row
fits (Entries kind) text row = fits_list kind text row
fits Names text row = fits_names text row
