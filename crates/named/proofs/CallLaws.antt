-- The answer of the call, from what the reader of names found. Assumes nothing.
use mathlib.Core.Path.{◌≡◌, refl, ap, sym, ◌∙◌}
use mathlib.Core.Bool.{Bool, true, false}
use mathlib.Core.List.{List, [], ◌∷◌, ◌++◌}
use Prim.Native.Nat.{ℕ, zero, suc, ◌+◌, ◌-◌, ◌≤◌, ◌<◌}
use native.Mathlib.Omega.{arith}
use borrow.Author.Tests.{le-leb, lt-leb}
use lib.ListN.{length, get_or, take, drop, replicate, length-append}
use lib.Seq.{take_at}
use Rattle.tree.specs.Form.{Form, pick, encode}
use Rattle.tree.specs.Tag.{Sort}
use Rattle.form.specs.Decode.{Got, got, no-form, decode, Whole, one, not-one, whole, row_form, found, missing, as_sort, only_names, form_of, index_free}
use Rattle.form.specs.Break.{break_at}
use Rattle.form.specs.Answer.{answer, stop, told, written, finish}
use Rattle.std.specs.Prelude.{Ok, Some, None, Option}
use Rattle.form.specs.declared.answer.Kind.TheVariants.{Named}
use Rattle.rules.specs.Named.{nameless, named_outcome}
use Rattle.reader.specs.Internal.Reads.{as_expr}
use Rattle.shift.specs.Internal.Items.{store}
use Rattle.named.specs.Internal.Scope.{slot_of, scope_of, Held}
use Rattle.named.specs.Internal.Reads.{indexless, read_names, sort_of, Blank, Ready, Wrote}
use Rattle.form.proofs.DecodeLaws.{clash, decode-sound}
use Rattle.rules.proofs.NamedLaws.{nameless-length, nameless-limits}
use Rattle.reader.proofs.CheckLaws.{form-of}
use Rattle.shift.proofs.ItemLaws.{stored}
use Rattle.named.proofs.WroteLaws.{wrote-end, wrote-bad}
use Rattle.form.specs.declared.answer.Refusal.TheVariants.{TooLong, OutputTooShort, Broken}

-- with nothing open, the slots are empty
zeros-get : (n i : ℕ) → ◌≡◌ {A = ℕ} (get_or (replicate n 0) i 0) 0
zeros-get zero i = refl
zeros-get (suc n) zero = refl
zeros-get (suc n) (suc i) = zeros-get n i

pub blank-ready : (row made sc : List ℕ) → Blank row made sc → Ready row made sc 0 0
unfolding Held
blank-ready row made sc b =
    record { sized = b.sized; fits = b.fits; short = b.short; low = omega arith; held = λ m. rw b.zeros (zeros-get (length sc) (slot_of (length (replicate (length sc) 0)) m)) }

pub nothing-open : (sc : List ℕ) → scope_of sc 0 ≡ []
unfolding scope_of
nothing-open sc = refl

-- what is read without an index
indexless-read : (z : Got) (f : Form) (x : List ℕ) → indexless z ≡ got f x → (z ≡ got f x) × (index_free f ≡ true)
indexless-read no-form f x e = absurd (clash cc)
indexless-read (got g y) f x e = go (index_free g) refl e
  where
    go : (b : Bool) → index_free g ≡ b → pick b (got g y) no-form ≡ got f x → (got g y ≡ got f x) × (index_free f ≡ true)
    go true q e = let z : g ≡ f = cc in (e, rw z at q)
    go false q e = absurd (clash cc)

module _ (row : List ℕ) (room : ℕ) (h : length row ≤ 8192) (b : Bool) (k : b ≡ as_expr Named row) (a made : List ℕ) (r : Option ℕ) (t : Wrote 0 [] (read_names 64 (sort_of b) row) a made r) where
  abbrev s : Sort
  s = sort_of b

  no-form-named : form_of Named row ≡ missing → named_outcome row room ≡ stop (Broken (break_at Named row))
  unfolding named_outcome
  no-form-named e = rw (le-leb (length row) 8192 h, e)

  by_whole : (w : Whole) → whole (decode 64 s row) ≡ w → form_of Named row ≡ only_names (as_sort s w)
  unfolding row_form
  by_whole w e = form-of Named row b k ∙ rw (le-leb (length row) 8192 h, e)

  bad-whole : (z : Got) → decode 64 s row ≡ z → indexless z ≡ no-form → only_names (as_sort s (whole z)) ≡ missing
  bad-whole no-form q e = refl
  bad-whole (got f (w ∷ x)) q e = refl
  bad-whole (got f []) q e = go (index_free f) e
    where
      go : (c : Bool) → pick c (got f []) no-form ≡ no-form → pick c (found s f) missing ≡ missing
      go true e = absurd (clash cc)
      go false e = refl

  pub named-bad : r ≡ None → named_outcome row room ≡ stop (Broken (break_at Named row))
  unfolding read_names
  named-bad e = no-form-named (by_whole (whole (decode 64 s row)) refl ∙ bad-whole (decode 64 s row) refl (wrote-bad 0 [] (read_names 64 s row) a made r t e))

  module _ (p : ℕ) (e : r ≡ Some p) where
    abbrev f : Form
    f = (wrote-end 0 [] (read_names 64 s row) a made r p t e).0

    abbrev x : List ℕ
    x = (wrote-end 0 [] (read_names 64 s row) a made r p t e).1

    was : (decode 64 s row ≡ got f x) × (index_free f ≡ true)
    unfolding read_names
    was = indexless-read (decode 64 s row) f x (wrote-end 0 [] (read_names 64 s row) a made r p t e).2

    end_is : p ≡ length (encode f)
    end_is = let q = (wrote-end 0 [] (read_names 64 s row) a made r p t e).3 in omega arith

    row_is : length row ≡ length (encode f) + length x
    row_is = ap length (decode-sound 64 s row f x was.0).0 ∙ length-append (encode f) x

    pub named-part : (p ≡ length row → ⊥) → named_outcome row room ≡ stop (Broken (break_at Named row))
    named-part ne = no-form-named (go x was.0 (λ z. let q = row_is in let i = end_is in ne (omega arith)))
      where
        go : (y : List ℕ) → decode 64 s row ≡ got f y → (length y ≡ 0 → ⊥) → form_of Named row ≡ missing
        go [] g n = absurd (n refl)
        go (w ∷ y) g n = by_whole not-one (rw g)

    is_whole : p ≡ length row → whole (decode 64 s row) ≡ one f
    is_whole q = go x was.0 (let i = row_is in let j = end_is in omega arith)
      where
        go : (y : List ℕ) → decode 64 s row ≡ got f y → length y ≡ 0 → whole (decode 64 s row) ≡ one f
        go [] g n = rw g
        go (w ∷ y) g n = absurd (omega arith)

    is_one : p ≡ length row → row_form s row ≡ one f
    unfolding row_form
    is_one q = rw (le-leb (length row) 8192 h, is_whole q)

    there : p ≡ length row → named_outcome row room ≡ finish s room (nameless [] f)
    unfolding named_outcome
    there q = rw (le-leb (length row) 8192 h, by_whole (one f) (is_whole q), was.1)

    long : length (encode (nameless [] f)) ≡ p
    long = nameless-length [] f ∙ sym end_is

    pub named-short : p ≡ length row → room < p → named_outcome row room ≡ stop OutputTooShort
    unfolding finish
    named-short q l = there q ∙ rw (nameless-limits s row f (is_one q), long, lt-leb p room l)

    pub named-done : p ≡ length row → p ≤ room → length row ≤ length a → (out : List ℕ) → length out ≡ room
        → (Ok p ≡ told (named_outcome row room)) × (store out 0 (take (p - 0) made) ≡ written (named_outcome row room) out)
    unfolding finish
    named-done q l n out o =
        let words = encode (nameless [] f) in
        let is : named_outcome row room ≡ answer words = there q ∙ rw (nameless-limits s row f (is_one q), long, le-leb p room l) in
        let i = long in
        let m : made ≡ words ++ drop (length words) a = (wrote-end 0 [] (read_names 64 s row) a made r p t e).4 ∙ stored a words (omega arith) in
        let z : length words ≡ p - 0 = omega arith in
        let c : take (p - 0) made ≡ words = ap (λ l. take (p - 0) l) m ∙ take_at words (drop (length words) a) (p - 0) z in
        (rw is (ap Ok (sym long)), rw (is, c) (stored out words (omega arith)))

pub named-long : (row : List ℕ) (room : ℕ) → 8192 < length row → named_outcome row room ≡ stop TooLong
unfolding named_outcome
named-long row room h = rw (lt-leb (length row) 8192 h)
