-- Whether a group's bytes are the spelling of its form or list. Assumes nothing.
use mathlib.Core.Path.{◌≡◌, refl, ap, sym, ◌∙◌}
use mathlib.Core.Bool.{Bool, true, false}
use mathlib.Core.List.{List, ◌++◌}
use mathlib.Core.Option.{Option, none as absent, some}
use Prim.Native.Nat.{ℕ, ◌≤◌, ◌<◌}
use native.Mathlib.Omega.{arith}
use borrow.Author.Tests.{le-leb, lt-leb}
use lib.Dec.{leb}
use lib.ListN.{length, take, drop}
use lib.Seq.{take_at}
use Rattle.tree.specs.Form.{pick}
use Rattle.form.specs.Decode.{row_form, form_of}
use Rattle.form.specs.Lists.{Entry, list_of}
use Rattle.form.specs.declared.answer.Kind.TheVariants.{Either}
use Rattle.form.specs.declared.answer.ListKind.{ListKind}
use Rattle.form.proofs.DecodeLaws.{clash}
use Rattle.spell.specs.Put.{put}
use Rattle.spell.specs.Spell.{spell, same_bytes, spells, fits_form, spell_list, lists, fits_list, spell_names, fits_names}
use Rattle.spell.specs.Internal.Writes.{Wrote, PrintedForm, PrintedList, PrintedAs, fits}
use Rattle.spell.proofs.AnswerLaws.{form-bytes, form-missing, put_front, same-bytes, same-lengths}
use Rattle.std.specs.Str.{bytes_eq}
use Rattle.spell.specs.declared.fits.Reading.{Reading}
use Rattle.spell.specs.declared.fits.Reading.TheVariants.{OneForm, Entries, Names}
use Rattle.std.specs.Prelude.{Option as Maybe, Some, None}

-- bytes printed into a buffer
module _ (text bs : List ℕ) (n : ℕ) (m : n ≡ length bs) where
  differ : (n ≡ length text → ⊥) → false ≡ same_bytes text bs
  differ k = sym (same-lengths text bs (λ z. k (omega arith)))

  compare : (a c : List ℕ) → n ≡ length text → length text ≤ length a → c ≡ put a 0 bs → same_bytes text (take (length text) c) ≡ same_bytes text bs
  compare a c k g p =
      let v : c ≡ bs ++ drop (length bs) a = p ∙ put_front a bs (omega arith) in
      rw v (ap (λ z. same_bytes text z) (take_at bs (drop (length bs) a) (length text) (omega arith)))

module _ (text row : List ℕ) where
  pub form-text : 65535 < length text → false ≡ fits_form text row
  unfolding fits_form
  form-text h = rw (lt-leb (length text) 65535 h)

  module _ (l : length text ≤ 65535) where
    form-is : fits_form text row ≡ spells text (form_of Either row)
    unfolding fits_form
    form-is = rw (le-leb (length text) 65535 l)

    pub form-row : 8192 < length row → false ≡ fits_form text row
    unfolding form_of row_form
    form-row h = rw (form-is, lt-leb (length row) 8192 h)

    module _ (a c : List ℕ) (r : Maybe ℕ) (t : PrintedForm (form_of Either row) a c r) where
      pub form-not : r ≡ None → false ≡ fits_form text row
      form-not e = rw (form-is, form-missing (form_of Either row) a c r t e)

      module _ (n : ℕ) (e : r ≡ Some n) where
        pub form-other : (n ≡ length text → ⊥) → false ≡ fits_form text row
        form-other k = let (s, f, o, m, v) = form-bytes (form_of Either row) a c r n t e in rw (form-is, o) (differ text (spell f) n m k)

        pub form-same : n ≡ length text → length text ≤ length a → same_bytes text (take (length text) c) ≡ fits_form text row
        form-same k g = let (s, f, o, m, v) = form-bytes (form_of Either row) a c r n t e in rw (form-is, o) (compare text (spell f) n m a c k g v)

both_long : (b : Bool) → pick b false false ≡ false
both_long true = refl
both_long false = refl

module _ (text row : List ℕ) where
  pub names-text : 65535 < length text → false ≡ fits_names text row
  unfolding fits_names
  names-text h = rw (lt-leb (length text) 65535 h)

  pub names-row : 8192 < length row → false ≡ fits_names text row
  unfolding fits_names
  names-row h = rw (lt-leb (length row) 8192 h) (sym (both_long (leb (length text) 65535)))

  module _ (l : length text ≤ 65535) (h : length row ≤ 8192) (a c : List ℕ) (n : ℕ) (w : Wrote 0 (spell_names row) a c n) where
    names-is : fits_names text row ≡ same_bytes text (spell_names row)
    unfolding fits_names
    names-is = rw (le-leb (length text) 65535 l, le-leb (length row) 8192 h)

    pub names-other : (n ≡ length text → ⊥) → false ≡ fits_names text row
    unfolding Wrote
    names-other k = differ text (spell_names row) n (w.0 ∙ omega arith) k ∙ sym names-is

    pub names_same : n ≡ length text → length text ≤ length a → same_bytes text (take (length text) c) ≡ fits_names text row
    unfolding Wrote
    names_same k g = compare text (spell_names row) n (w.0 ∙ omega arith) a c k g w.1 ∙ sym names-is

list-bytes : (kind : ListKind) (o : Option (List Entry)) (a c : List ℕ) (r : Maybe ℕ) (n : ℕ) → PrintedList kind o a c r → r ≡ Some n
    → (es : List Entry) × (o ≡ some es) × (n ≡ length (spell_list kind es)) × (c ≡ put a 0 (spell_list kind es))
unfolding PrintedList
list-bytes kind (some es) a c r n t e = (es, refl, cc t.0, t.1)
list-bytes kind absent a c r n t e = absurd (clash cc)

list-none : (kind : ListKind) (o : Option (List Entry)) (a c : List ℕ) (r : Maybe ℕ) → PrintedList kind o a c r → r ≡ None → o ≡ absent
unfolding PrintedList
list-none kind (some es) a c r t e = let z = t.0 in absurd (clash cc)
list-none kind absent a c r t e = refl

module _ (kind : ListKind) (text row : List ℕ) where
  pub list-text : 65535 < length text → false ≡ fits_list kind text row
  unfolding fits_list
  list-text h = rw (lt-leb (length text) 65535 h)

  pub list-row : 8192 < length row → false ≡ fits_list kind text row
  unfolding fits_list
  list-row h = rw (lt-leb (length row) 8192 h) (sym (both_long (leb (length text) 65535)))

  module _ (l : length text ≤ 65535) (h : length row ≤ 8192) (a c : List ℕ) (r : Maybe ℕ) (t : PrintedList kind (list_of kind row) a c r) where
    list-is : fits_list kind text row ≡ lists kind text (list_of kind row)
    unfolding fits_list
    list-is = rw (le-leb (length text) 65535 l, le-leb (length row) 8192 h)

    pub list-not : r ≡ None → false ≡ fits_list kind text row
    list-not e = rw (list-is, list-none kind (list_of kind row) a c r t e)

    module _ (n : ℕ) (e : r ≡ Some n) where
      pub list-other : (n ≡ length text → ⊥) → false ≡ fits_list kind text row
      list-other k = let (es, o, m, v) = list-bytes kind (list_of kind row) a c r n t e in rw (list-is, o) (differ text (spell_list kind es) n m k)

      pub list_same : n ≡ length text → length text ≤ length a → same_bytes text (take (length text) c) ≡ fits_list kind text row
      list_same k g = let (es, o, m, v) = list-bytes kind (list_of kind row) a c r n t e in rw (list-is, o) (compare text (spell_list kind es) n m a c k g v)

-- whatever the row is printed as
pub text-long : (reading : Reading) (text row : List ℕ) → 65535 < length text → false ≡ fits reading text row
unfolding fits
text-long OneForm text row h = form-text text row h
text-long (Entries kind) text row h = list-text kind text row h
text-long Names text row h = names-text text row h

pub row-long : (reading : Reading) (text row : List ℕ) → length text ≤ 65535 → 8192 < length row → false ≡ fits reading text row
unfolding fits
row-long OneForm text row l h = form-row text row l h
row-long (Entries kind) text row l h = list-row kind text row h
row-long Names text row l h = names-row text row h

module _ (text row : List ℕ) (l : length text ≤ 65535) (h : length row ≤ 8192) (a c : List ℕ) where
  names-wrote : (r : Maybe ℕ) (n : ℕ) → (r ≡ Some (length (spell_names row))) × (c ≡ put a 0 (spell_names row)) → r ≡ Some n → Wrote 0 (spell_names row) a c n
  unfolding Wrote
  names-wrote r n t e =
      let z : n ≡ length (spell_names row) = cc t.0 in
      (omega arith, t.1)

  pub not-printed : (reading : Reading) (r : Maybe ℕ) → PrintedAs reading row a c r → r ≡ None → false ≡ fits reading text row
  unfolding fits PrintedAs
  not-printed OneForm r t e = form-not text row l a c r t e
  not-printed (Entries kind) r t e = list-not kind text row l h a c r t e
  not-printed Names r t e = let z = t.0 in absurd (clash cc)

  pub other-length : (reading : Reading) (r : Maybe ℕ) → PrintedAs reading row a c r → (n : ℕ) → r ≡ Some n → (n ≡ length text → ⊥) → false ≡ fits reading text row
  unfolding fits PrintedAs
  other-length OneForm r t n e k = form-other text row l a c r t n e k
  other-length (Entries kind) r t n e k = list-other kind text row l h a c r t n e k
  other-length Names r t n e k = names-other text row l h a c n (names-wrote r n t e) k

  same-printed : (reading : Reading) (r : Maybe ℕ) → PrintedAs reading row a c r → (n : ℕ) → r ≡ Some n → n ≡ length text → length text ≤ length a
      → same_bytes text (take (length text) c) ≡ fits reading text row
  unfolding fits PrintedAs
  same-printed OneForm r t n e k g = form-same text row l a c r t n e k g
  same-printed (Entries kind) r t n e k g = list_same kind text row l h a c r t n e k g
  same-printed Names r t n e k g = names_same text row l h a c n (names-wrote r n t e) k g

  pub same-length : (reading : Reading) (r : Maybe ℕ) → PrintedAs reading row a c r → (n : ℕ) → r ≡ Some n → n ≡ length text → length text ≤ length a
      → bytes_eq text (take n c) ≡ fits reading text row
  same-length reading r t n e k g =
      ap (λ m. bytes_eq text (take m c)) k ∙ sym (same-bytes text (take (length text) c)) ∙ same-printed reading r t n e k g
