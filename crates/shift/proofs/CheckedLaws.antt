-- A row that the check took, with its marks: what every rewriting starts from; and refusals passed on. Assumes nothing.
use Rattle.std.proofs.Common.{◌≡◌, ℕ, ◌<◌, ◌≤◌, Bool, true, false, leb, List, [], length, replicate, sym, refl, ◌∙◌, le-leb}
use borrow.Author.Tests.{lt-leb}
use Rattle.tree.specs.Form.{Form, pick, encode}
use Rattle.tree.specs.Tag.{Sort}
use Rattle.form.specs.Decode.{Found, found, missing, form_of}
use Rattle.form.specs.Break.{break_at}
use Rattle.form.specs.Answer.{Outcome, answer, stop, told, written, of_found, with_form, check_outcome}
use Rattle.reader.specs.Internal.Reads.{mark, has_form, Marked}
use Rattle.form.specs.declared.answer.Kind.{Kind}
use Rattle.form.specs.Answer.{Answer}
use Rattle.std.specs.Prelude.{Ok as Done, Err}
use Rattle.shift.specs.Internal.Items.{Fresh}
use Rattle.std.specs.Result.{IsErr, IsErrAnd}
use Rattle.tree.proofs.Residual.{exit-with}
use Rattle.form.proofs.DecodeLaws.{clash, Ok}
use Rattle.form.proofs.RowLaws.{found-row}
use Rattle.form.specs.declared.answer.Refusal.{Refusal}
use Rattle.form.specs.declared.answer.Refusal.TheVariants.{TooLong, Broken}

-- what is known of a row that the check took: m are its marks, made in n words that held 0
pub record Checked (kind : Kind) (row m : List ℕ) (n : ℕ) : Type 0 where
  pub sort : Sort
  pub form : Form
  pub is_found : form_of kind row ≡ found sort form
  pub short : length row ≤ 8192
  pub words : row ≡ encode form
  pub ok : Ok 64 sort form
  pub marks : m ≡ mark form 0 0 (replicate n 0)

abbrev Came : ℕ → Found → Answer → Type 0
Came p (found s f) r = r ≡ Done 0
Came p missing r = r ≡ Err (Broken p)

module _ (kind : Kind) (row : List ℕ) where
  -- the answer of the check, taken apart
  check-by : (o : Found) → form_of kind row ≡ o → length row ≤ 8192 → (r : Answer) → r ≡ told (check_outcome kind row) → Came (break_at kind row) o r
  unfolding check_outcome
  check-by (found s f) e h r q = rw (le-leb (length row) 8192 h, e) at q
  check-by missing e h r q = rw (le-leb (length row) 8192 h, e) at q

  module _ (m : List ℕ) (n : ℕ) (before : List ℕ) (zero-marks : before ≡ replicate n 0) where
    pub marks-of : (s : Sort) (f : Form) → form_of kind row ≡ found s f → Marked (form_of kind row) before m → Checked kind row m n
    unfolding Marked
    marks-of s f e k =
        let (l, w, o) = found-row row s f kind e in
        record { sort = s; form = f; is_found = e; short = l; words = w; ok = o; marks = rw (e, zero-marks) at k }

    pub checked : (r : Answer) (j : ℕ) → length row ≤ 8192 → r ≡ told (check_outcome kind row) → r ≡ Done j → Marked (form_of kind row) before m → Checked kind row m n
    checked r j h q e k = go (form_of kind row) refl (check-by (form_of kind row) refl h r q)
      where
        go : (o : Found) → form_of kind row ≡ o → Came (break_at kind row) o r → Checked kind row m n
        go (found s f) p c = marks-of s f p k
        go missing p c = absurd (clash cc)

    -- the same of a row that was only asked whether it is a form
    pub marked : (v : Bool) → v ≡ has_form (form_of kind row) → v ≡ true → Marked (form_of kind row) before m → Checked kind row m n
    marked v q e k = go (form_of kind row) refl (sym q ∙ e)
      where
        go : (o : Found) → form_of kind row ≡ o → has_form o ≡ true → Checked kind row m n
        go (found s f) p c = marks-of s f p k
        go missing p c = absurd (clash cc)

pub not_found : (o : Found) (v : Bool) → v ≡ has_form o → v ≡ false → o ≡ missing
not_found (found s f) v q e = absurd (clash cc)
not_found missing v q e = refl

-- with marks that held 0
pub checked-fresh : (kind : Kind) (row m before : List ℕ) → Fresh row before → (r : Answer) (j : ℕ) → r ≡ told (check_outcome kind row) → r ≡ Done j → Marked (form_of kind row) before m
    → Checked kind row m (length before)
checked-fresh kind row m before p r j q e k = checked kind row m (length before) before p.zeros r j p.short q e k

pub marked-fresh : (kind : Kind) (row m before : List ℕ) → Fresh row before → (v : Bool) → v ≡ has_form (form_of kind row) → v ≡ true → Marked (form_of kind row) before m → Checked kind row m (length before)
marked-fresh kind row m before p v q e k = marked kind row m (length before) before p.zeros v q e k

-- a row's own refusals, whatever is done with the form
module _ (kind : Kind) (row : List ℕ) (go : Sort → Form → Outcome) where
  pub too_long : 8192 < length row → with_form kind row go ≡ stop TooLong
  too_long h = rw (lt-leb (length row) 8192 h)

  -- what the check refuses is refused so
  pub check-refuses : (r : Answer) (k : Refusal) → r ≡ told (check_outcome kind row) → r ≡ Err k → with_form kind row go ≡ stop k
  unfolding check_outcome
  check-refuses r k q e = by (leb (length row) 8192) (form_of kind row) q
    where
      by : (b : Bool) (o : Found) → r ≡ told (pick b (of_found (break_at kind row) (λ s f. answer []) o) (stop TooLong)) → pick b (of_found (break_at kind row) go o) (stop TooLong) ≡ stop k
      by true (found s f) q = absurd (clash cc)
      by true missing q = let a : Broken (break_at kind row) ≡ k = cc in rw a
      by false o q = let a : TooLong ≡ k = cc in rw a

  pub form-there : (s : Sort) (f : Form) → length row ≤ 8192 → form_of kind row ≡ found s f → with_form kind row go ≡ go s f
  form-there s f h e = rw (le-leb (length row) 8192 h, e)

-- what `?` answers where a call refused
pub passed-on : (r : Answer) (k : Refusal) → IsErr r × IsErrAnd r (λ e. e ≡ k) → r ≡ Err k
passed-on r k h = exit-with h.1

-- a refusal, and an answer passed on
pub refused : (o : Outcome) (n m : Refusal) (out : List ℕ) → o ≡ stop n → m ≡ n → (Err m ≡ told o) × (out ≡ written o out)
refused o n m out e q = rw (e, q) (refl, refl)

pub refused-up : (o : Outcome) (k : Refusal) (r : Answer) (out : List ℕ) → r ≡ Err k → o ≡ stop k → (r ≡ told o) × (out ≡ written o out)
refused-up o k r out q e = rw (e, q) (refl, refl)

pub passed : (o p : Outcome) (r : Answer) (out out' : List ℕ) → o ≡ p → (r ≡ told o) × (out' ≡ written o out) → (r ≡ told p) × (out' ≡ written p out)
passed o p r out out' e h = rw e at h
