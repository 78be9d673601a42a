-- Calls that take a form, a list and a work row: their refusals in order, whatever is done with the form and the entries. Assumes nothing.
use mathlib.Core.Path.{◌≡◌, refl}
use mathlib.Core.Bool.{Bool, true, false}
use mathlib.Core.List.{List}
use mathlib.Core.Option.{none as absent, some}
use Prim.Native.Nat.{ℕ, ◌≤◌, ◌<◌}
use borrow.Author.Tests.{le-leb, lt-leb}
use lib.ListN.{length}
use Rattle.tree.specs.Form.{Form, pick}
use Rattle.tree.specs.Tag.{Sort}
use Rattle.form.specs.Break.{break_at, break_list}
use Rattle.form.specs.Decode.{Found, found, missing, form_of}
use Rattle.form.specs.Lists.{Entry, list_of}
use Rattle.form.specs.Answer.{Outcome, stop, told, written, with_work, with_form, with_list}
use Rattle.form.specs.declared.answer.Kind.{Kind}
use Rattle.form.specs.declared.answer.Refusal.{Refusal}
use Rattle.std.specs.Prelude.{Err}
use Rattle.form.specs.declared.answer.ListKind.{ListKind}
use Rattle.shift.proofs.CheckedLaws.{Checked}
use Rattle.replace.specs.Internal.Pieces.{has_form}
use Rattle.form.specs.declared.answer.Refusal.TheVariants.{TooLong, WorkTooShort, Broken}

abbrev pub call : Kind → ListKind → (Sort → Form → List Entry → Outcome) → List ℕ → List ℕ → ℕ → Outcome
call kind lk go list row wl = with_work wl (with_form kind row (λ s f. with_list lk list (λ es. go s f es)))

module _ (kind : Kind) (lk : ListKind) (go : Sort → Form → List Entry → Outcome) (list row : List ℕ) (wl : ℕ) where
  pub call-small : wl < 16384 → call kind lk go list row wl ≡ stop WorkTooShort
  call-small h = rw (lt-leb 16384 wl h)

  module _ (enough : 16384 ≤ wl) where
    pub call_long : 8192 < length row → call kind lk go list row wl ≡ stop TooLong
    call_long h = rw (le-leb 16384 wl enough, lt-leb (length row) 8192 h)

    pub call-missing : length row ≤ 8192 → form_of kind row ≡ missing → call kind lk go list row wl ≡ stop (Broken (break_at kind row))
    call-missing h q = rw (le-leb 16384 wl enough, le-leb (length row) 8192 h, q)

    pub call-list-long : length row ≤ 8192 → 8192 < length list → call kind lk go list row wl ≡ pick (has_form (form_of kind row)) (stop TooLong) (stop (Broken (break_at kind row)))
    call-list-long h l = by (form_of kind row) refl
      where
        by : (o : Found) → form_of kind row ≡ o → call kind lk go list row wl ≡ pick (has_form (form_of kind row)) (stop TooLong) (stop (Broken (break_at kind row)))
        by (found s f) q = rw (le-leb 16384 wl enough, le-leb (length row) 8192 h, q, lt-leb (length list) 8192 l)
        by missing q = rw (le-leb 16384 wl enough, le-leb (length row) 8192 h, q)

    module _ (m : List ℕ) (x : Checked kind row m (length row)) where
      module _ (short : length list ≤ 8192) where
        pub call-no-list : list_of lk list ≡ absent → call kind lk go list row wl ≡ stop (Broken (break_list lk list))
        call-no-list o = rw (le-leb 16384 wl enough, le-leb (length row) 8192 x.short, x.is_found, le-leb (length list) 8192 short, o)

        pub call-read : (es : List Entry) → list_of lk list ≡ some es → call kind lk go list row wl ≡ go x.sort x.form es
        call-read es o = rw (le-leb 16384 wl enough, le-leb (length row) 8192 x.short, x.is_found, le-leb (length list) 8192 short, o)

-- a refusal as a call of the code's gave it
pub refused-by : (o : Outcome) (b : Bool) (p : ℕ) (k : Refusal) (out : List ℕ) → o ≡ pick b (stop TooLong) (stop (Broken p)) → k ≡ pick b TooLong (Broken p) → (Err k ≡ told o) × (out ≡ written o out)
refused-by o true p k out e q = rw (e, q) (refl, refl)
refused-by o false p k out e q = rw (e, q) (refl, refl)

pub refused-at : (o : Outcome) (p q : ℕ) (out : List ℕ) → o ≡ stop (Broken p) → q ≡ p → (Err (Broken q) ≡ told o) × (out ≡ written o out)
refused-at o p q out e k = rw (e, k) (refl, refl)
