-- Printing a whole row, and comparing its spelling. Assumes nothing.
use mathlib.Core.Path.{◌≡◌, refl, ap, sym, ◌∙◌}
use mathlib.Core.Bool.{Bool, true, false, ◌&&◌}
use mathlib.Core.List.{List, [], ◌∷◌, ◌++◌, append_assoc}
use Prim.Native.Nat.{ℕ, suc, ◌+◌, ◌*◌, ◌≤◌, ◌<◌}
use native.Mathlib.Omega.{arith}
use borrow.Author.Tests.{le-leb, lt-leb, eq-eqb, ne_eqb}
use lib.Dec.{eqb}
use lib.ListN.{length, take, drop, set, replicate, length-append, length-replicate}
use lib.Seq.{set-append_seam, take_at}
use Rattle.tree.specs.Form.{Form, pick, encode}
use Rattle.tree.specs.Tag.{Sort, expr, pred}
use Rattle.form.specs.Break.{break_at}
use Rattle.form.specs.Decode.{got, decode, Whole, one, not-one, whole, row_form, Found, found, missing, as_sort, form_of}
use Rattle.form.specs.Answer.{told, written}
use Rattle.reader.specs.Internal.Reads.{as_expr}
use Rattle.form.specs.declared.answer.Kind.TheVariants.{Either}
use Rattle.std.specs.Prelude.{Err, Ok}
use Rattle.form.proofs.DecodeLaws.{clash, decode-sound}
use Rattle.reader.proofs.CheckLaws.{form-of}
use Rattle.form.proofs.RowLaws.{row-exact, found-exact}
use Rattle.spell.specs.Put.{put}
use Rattle.spell.specs.Spell.{decimal, spell, spell_no, print_outcome, print_no, same_bytes, ending}
use Rattle.spell.specs.Internal.Writes.{spot, Wrote, Printed, PrintedRow, PrintedForm}
use Rattle.spell.proofs.WriteLaws.{put-length, wrote-both, wrote-next, wrote-end}
use Rattle.spell.proofs.PrintLaws.{spell-few, printed-end, printed-bad}
use Rattle.std.specs.Str.{bytes_eq}
use Rattle.std.specs.Prelude.{Option, Some, None}
use Rattle.spell.specs.declared.print.Spot.{Spot}
use Rattle.form.specs.declared.answer.Refusal.TheVariants.{TooLong, OutputTooShort, Broken}

-- a row that is one form of a sort
module _ (s : Sort) (row : List ℕ) (h : length row ≤ 8192) (a b : List ℕ) (r : Option Spot) (t : Printed 0 0 (decode 64 s row) a b r) where
  as-whole : (w : Whole) → whole (decode 64 s row) ≡ w → row_form s row ≡ w
  unfolding row_form
  as-whole w e = rw (le-leb (length row) 8192 h, e)

  pub sort-bad : r ≡ None → PrintedRow (row_form s row) a b None
  unfolding PrintedRow
  sort-bad e = rw (as-whole not-one (rw (printed-bad 0 0 (decode 64 s row) a b r t e))) refl

  whole_is : (f : Form) (x : List ℕ) → decode 64 s row ≡ got f x → length x ≡ 0 → whole (decode 64 s row) ≡ one f
  whole_is f [] g e = rw g
  whole_is f (w ∷ x) g e = absurd (omega arith)

  part-is : (f : Form) (x : List ℕ) → decode 64 s row ≡ got f x → (length x ≡ 0 → ⊥) → whole (decode 64 s row) ≡ not-one
  part-is f [] g e = absurd (e refl)
  part-is f (w ∷ x) g e = rw g

  module _ (p o : ℕ) (e : r ≡ spot p o) where
    pub sort-whole : p ≡ length row → PrintedRow (row_form s row) a b (Some o)
    unfolding PrintedRow
    sort-whole q =
        let (f, x, g, l, m, v) = printed-end 0 0 (decode 64 s row) a b r p o t e in
        let (w, k) = decode-sound 64 s row f x g in
        let n = ap length w ∙ length-append (encode f) x in
        rw (as-whole (one f) (whole_is f x g (omega arith))) (ap Some (m ∙ omega arith), v)

    pub sort-part : (p ≡ length row → ⊥) → PrintedRow (row_form s row) a b None
    unfolding PrintedRow
    sort-part q =
        let (f, x, g, l, m, v) = printed-end 0 0 (decode 64 s row) a b r p o t e in
        let (w, k) = decode-sound 64 s row f x g in
        let n = ap length w ∙ length-append (encode f) x in
        rw (as-whole not-one (part-is f x g (λ z. q (omega arith)))) refl

-- the form of either sort that was printed
as-form : (s : Sort) (w : Whole) (a b : List ℕ) (r : Option ℕ) → PrintedRow w a b r → PrintedForm (as_sort s w) a b r
unfolding PrintedRow PrintedForm
as-form s (one f) a b r t = t
as-form s not-one a b r t = t

pub printed-form : (row : List ℕ) (x : Bool) → x ≡ as_expr Either row → (a b : List ℕ) (r : Option ℕ) → PrintedRow (row_form (pick x expr pred) row) a b r
    → PrintedForm (form_of Either row) a b r
printed-form row x k a b r t = rw (form-of Either row x k) (as-form (pick x expr pred) (row_form (pick x expr pred) row) a b r t)

-- its answer taken apart
pub form-bytes : (o : Found) (a b : List ℕ) (r : Option ℕ) (n : ℕ) → PrintedForm o a b r → r ≡ Some n
    → (s : Sort) × (f : Form) × (o ≡ found s f) × (n ≡ length (spell f)) × (b ≡ put a 0 (spell f))
unfolding PrintedForm
form-bytes (found s f) a b r n t e = (s, f, refl, cc t.0, t.1)
form-bytes missing a b r n t e = absurd (clash cc)

pub form-missing : (o : Found) (a b : List ℕ) (r : Option ℕ) → PrintedForm o a b r → r ≡ None → o ≡ missing
unfolding PrintedForm
form-missing (found s f) a b r t e = let z = t.0 in absurd (clash cc)
form-missing missing a b r t e = refl

-- bytes at the front of a buffer
put-after : (u l bs : List ℕ) → length bs ≤ length l → put (u ++ l) (length u) bs ≡ u ++ (bs ++ drop (length bs) l)
unfolding put
put-after u l [] h = refl
put-after u [] (b ∷ bs) h = absurd (omega arith)
put-after u (x ∷ l) (b ∷ bs) h = next u l b bs (put-after (u ++ (b ∷ [])) l bs (omega arith)) ∙ refl
  where
    next : (u l : List ℕ) (b : ℕ) (bs : List ℕ) → put ((u ++ (b ∷ [])) ++ l) (length (u ++ (b ∷ []))) bs ≡ (u ++ (b ∷ [])) ++ (bs ++ drop (length bs) l)
        → put (set (u ++ (x ∷ l)) (length u) b) (length u + 1) bs ≡ u ++ (b ∷ (bs ++ drop (length bs) l))
    next u l b bs k =
        let n : length (u ++ (b ∷ [])) ≡ length u + 1 = length-append u (b ∷ []) in
        rw (set-append_seam u x l b) (rw (n, append_assoc u, append_assoc u) at k)

pub put_front : (l bs : List ℕ) → length bs ≤ length l → put l 0 bs ≡ bs ++ drop (length bs) l
put_front l bs h = put-after [] l bs h

-- the answer of the public printer
module _ (row out : List ℕ) where
  pub form-long : 8192 < length row → (Err TooLong ≡ told (print_outcome row (length out))) × (out ≡ written (print_outcome row (length out)) out)
  unfolding print_outcome
  form-long h = rw (lt-leb (length row) 8192 h) (refl, refl)

  module _ (h : length row ≤ 8192) (a b : List ℕ) (r : Option ℕ) (t : PrintedForm (form_of Either row) a b r) where
    pub form-none : r ≡ None → (q : ℕ) → q ≡ break_at Either row → (Err (Broken q) ≡ told (print_outcome row (length out))) × (out ≡ written (print_outcome row (length out)) out)
    unfolding print_outcome
    form-none e q k = rw (le-leb (length row) 8192 h, form-missing (form_of Either row) a b r t e, k) (refl, refl)

    module _ (n : ℕ) (e : r ≡ Some n) where
      pub form-room : length out < n → (Err OutputTooShort ≡ told (print_outcome row (length out))) × (out ≡ written (print_outcome row (length out)) out)
      unfolding print_outcome
      form-room l =
          let (s, f, o, m, v) = form-bytes (form_of Either row) a b r n t e in
          rw (le-leb (length row) 8192 h, o, lt-leb (length (spell f)) (length out) (omega arith)) (refl, refl)

      module _ (l : 13 * length row ≤ length a) where
        pub form-within : (n ≤ length a) × (n ≤ length b)
        form-within =
            let (s, f, o, m, v) = form-bytes (form_of Either row) a b r n t e in
            let w = ap length (row-exact s row f (found-exact Either row s f o)).0 in
            let k = spell-few f in
            let x : length b ≡ length a = ap length v ∙ put-length a 0 (spell f) in
            (omega arith, omega arith)

        pub form-done : n ≤ length out → (x : List ℕ) → x ≡ take n b
            → (Ok n ≡ told (print_outcome row (length out))) × (x ++ drop n out ≡ written (print_outcome row (length out)) out)
        unfolding print_outcome
        form-done g x p =
            let (s, f, o, m, v) = form-bytes (form_of Either row) a b r n t e in
            let w = form-within.0 in
            let u : b ≡ spell f ++ drop (length (spell f)) a = v ∙ put_front a (spell f) (omega arith) in
            let y : take n b ≡ spell f = ap (λ x. take n x) u ∙ take_at (spell f) (drop (length (spell f)) a) n (sym m) in
            let z : x ++ drop n out ≡ spell f ++ drop (length (spell f)) out = ap (λ l. l ++ drop n out) (p ∙ y) ∙ ap (λ k. spell f ++ drop k out) m in
            rw (le-leb (length row) 8192 h, o, le-leb (length (spell f)) (length out) (omega arith)) (ap Ok m, z)

-- comparing bytes, as slices are compared
pub same-bytes : (a b : List ℕ) → same_bytes a b ≡ bytes_eq a b
unfolding same_bytes
same-bytes [] [] = refl
same-bytes [] (y ∷ b) = refl
same-bytes (x ∷ a) [] = refl
same-bytes (x ∷ a) (y ∷ b) = go (eqb x y) (same-bytes a b)
  where
    go : (z : Bool) → same_bytes a b ≡ bytes_eq a b → pick z (same_bytes a b) false ≡ (z && bytes_eq a b)
    go true e = e
    go false e = refl

pub same-lengths : (a b : List ℕ) → (length a ≡ length b → ⊥) → same_bytes a b ≡ false
unfolding same_bytes
same-lengths [] [] n = absurd (n refl)
same-lengths [] (y ∷ b) n = refl
same-lengths (x ∷ a) [] n = refl
same-lengths (x ∷ a) (y ∷ b) n = go (same-lengths a b (λ e. n (ap suc e))) (eqb x y)
  where
    go : same_bytes a b ≡ false → (z : Bool) → pick z (same_bytes a b) false ≡ false
    go k true = k
    go k false = refl

pub zeros : (n : ℕ) → length (replicate {A = ℕ} n 0) ≡ n
zeros n = length-replicate n 0

-- refusals
module _ (k p o : ℕ) where
  pub ending-short : (k ≡ 2 → ⊥) → (a b : List ℕ) (r : ℕ) → Wrote o (93 ∷ []) a b r → Wrote o (ending k p) a b r
  unfolding ending
  ending-short n a b r h = rw (ne_eqb k 2 n) h

  pub ending-long : k ≡ 2 → (q r x : ℕ) (a b c d : List ℕ) → Wrote o (32 ∷ []) a b x → Wrote x (decimal p) b c q → Wrote q (93 ∷ []) c d r → Wrote o (ending k p) a d r
  unfolding ending
  ending-long e q r x a b c d h i j = rw (eq-eqb k 2 e) (wrote-both o x r (32 ∷ []) (decimal p ++ (93 ∷ [])) a b d h (wrote-both x q r (decimal p) (93 ∷ []) b c d i j))

pub wrote-no : (k p q r : ℕ) (a b c d e f g : List ℕ) (x y z w : ℕ) → Wrote 0 (91 ∷ []) a b x → Wrote 1 (110 ∷ []) b c y → Wrote 2 (111 ∷ []) c d z → Wrote 3 (32 ∷ []) d e w
    → Wrote 4 (decimal k) e f q → Wrote q (ending k p) f g r → Wrote 0 (spell_no k p) a g r
unfolding spell_no
wrote-no k p q r a b c d e f g x y z w h₀ h₁ h₂ h₃ h₄ h₅ =
    wrote-next 0 x r (91 ∷ []) _ a b g h₀ (wrote-next 1 y r (110 ∷ []) _ b c g h₁ (wrote-next 2 z r (111 ∷ []) _ c d g h₂ (wrote-next 3 w r (32 ∷ []) _ d e g h₃ (wrote-both 4 q r (decimal k) (ending k p) e f g h₄ h₅))))

module _ (k p n : ℕ) (u v : List ℕ) (h : Wrote 0 (spell_no k p) u v n) (out : List ℕ) where
  pub no_room : length out < n → (Err OutputTooShort ≡ told (print_no k p (length out))) × (out ≡ written (print_no k p (length out)) out)
  unfolding print_no
  no_room l = let e = wrote-end 0 n (spell_no k p) u v h in rw (lt-leb (length (spell_no k p)) (length out) (omega arith)) (refl, refl)

  pub no-done : n ≤ length out → (out' : List ℕ) (m : ℕ) → Wrote 0 (spell_no k p) out out' m → (Ok n ≡ told (print_no k p (length out))) × (out' ≡ written (print_no k p (length out)) out)
  unfolding print_no Wrote
  no-done l out' m w =
      let e = wrote-end 0 n (spell_no k p) u v h in
      rw (le-leb (length (spell_no k p)) (length out) (omega arith)) (ap Ok (e ∙ omega arith), w.1 ∙ put_front out (spell_no k p) (omega arith))
