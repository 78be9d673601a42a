-- Lift on the row and its marks is lift on the tree; which part is answered. Assumes nothing.
use mathlib.Core.Path.{◌≡◌, refl, ap, sym, ◌∙◌}
use mathlib.Core.Bool.{Bool, true, false}
use mathlib.Core.List.{List, ◌++◌}
use Prim.Native.Nat.{ℕ, ◌+◌, ◌≤◌, ◌<◌}
use native.Mathlib.Omega.{arith}
use borrow.Author.Tests.{eq-eqb, ne_eqb, le-leb, lt-leb, le-ltb}
use lib.ListN.{length, drop, replicate, length-append}
use lib.Seq.{take-append_seam}
use Rattle.tree.specs.Form.{Form, encode}
use Rattle.form.specs.Decode.{missing, form_of}
use Rattle.form.specs.Answer.{Outcome, answer, stop, told, written}
use Rattle.reader.specs.Internal.Reads.{mark}
use Rattle.form.specs.declared.answer.Kind.TheVariants.{Either}
use Rattle.form.specs.Answer.{Answer}
use Rattle.std.specs.Prelude.{Option, Some, None}
use Rattle.std.specs.Option.{option_flatten, unwrap_or}
use Rattle.std.specs.Result.{result_ok}
use Rattle.form.proofs.DecodeLaws.{clash}
use Rattle.rules.specs.Walk.{Outer, named, dangling}
use Rattle.rules.specs.Dangling.{is_named, closed}
use Rattle.rules.specs.Lift.{Part, base, copy, empty, of_copy, lift_part, part_words, part_at, work_after}
use Rattle.shift.specs.Internal.Items.{items, all_items, item_in, shift_words}
use Rattle.subst.specs.Internal.Lifting.{made_of, chosen, chosen_at}
use Rattle.subst.specs.declared.lift.Made.{Made}
use Rattle.subst.specs.declared.lift.Made.TheVariants.{Base, Copy}
use Rattle.rules.proofs.WalkLaws.{each_same}
use Rattle.shift.proofs.CheckedLaws.{Checked}
use Rattle.shift.proofs.RowLaws.{marked-items, each-items}
use Rattle.shift.proofs.ShiftLaws.{in_range, range-leaf, range-word, up-tree}

-- no index passes the test below 0: nothing dangles
none_in : (k : ℕ) (x : Outer) → in_range 0 0 k x ≡ is_named k x
none_in k (named m) = refl
none_in k (dangling j) = rw (le-leb 0 j (omega arith), le-ltb (k + j) 0 (omega arith))

pub closed-items : (f : Form) (n : ℕ) → length (encode f) ≤ n → all_items (item_in 0 0) (items (encode f) (mark f 0 0 (replicate n 0))) ≡ closed f
unfolding closed
closed-items f n h = rw (marked-items f n h, each-items (item_in 0 0) (in_range 0 0) (range-word 0 0) (range-leaf 0 0) 0 f) (each_same (in_range 0 0) is_named none_in 0 f)

-- nothing within nothing is nothing
pub flat : {T : Type 0} (r : Option (Option T)) → option_flatten r ≡ unwrap_or r None
flat None = refl
flat (Some o) = refl

-- the parts
abbrev pub Makes : Option Made → Part → List ℕ → List ℕ → Type 0
Makes r p work work' = (r ≡ made_of p) × (work' ≡ work_after p work)

module _ (row work : List ℕ) (depth : ℕ) where
  pub lift-long : 8192 < length row → Makes None (lift_part row depth (length work)) work work
  unfolding lift_part
  lift-long h = rw (lt-leb (length row) 8192 h) (refl, refl)

  pub lift-missing : length row ≤ 8192 → form_of Either row ≡ missing → Makes None (lift_part row depth (length work)) work work
  unfolding lift_part
  lift-missing h e = rw (le-leb (length row) 8192 h, e) (refl, refl)

  module _ (m : List ℕ) (n : ℕ) (l : length row ≤ n) (x : Checked Either row m n) where
    pub lift-zero : depth ≡ 0 → Makes (Some Base) (lift_part row depth (length work)) work work
    unfolding lift_part
    lift-zero e = rw (le-leb (length row) 8192 x.short, x.is_found, eq-eqb depth 0 e) (refl, refl)

    closed_is : (b : Bool) → b ≡ all_items (item_in 0 0) (items row m) → closed x.form ≡ b
    closed_is b e = sym (closed-items x.form n (rw x.words at l)) ∙ rw (← x.words, ← x.marks) (sym e)

    pub lift-closed : (b : Bool) → (depth ≡ 0 → ⊥) → b ≡ all_items (item_in 0 0) (items row m) → b ≡ true → Makes (Some Base) (lift_part row depth (length work)) work work
    unfolding lift_part
    lift-closed b d e h = rw (le-leb (length row) 8192 x.short, x.is_found, ne_eqb depth 0 d, closed_is b e, h) (refl, refl)

    copy_is : (b : Bool) → (depth ≡ 0 → ⊥) → b ≡ all_items (item_in 0 0) (items row m) → b ≡ false → lift_part row depth (length work) ≡ of_copy (shift_words row m depth 0 (length work))
    unfolding lift_part
    copy_is b d e h =
        rw (le-leb (length row) 8192 x.short, x.is_found, ne_eqb depth 0 d, closed_is b e, h, x.marks, x.words)
        (ap of_copy (sym (up-tree x.sort x.form x.ok (rw x.words at x.short) n (rw x.words at l) (length work) depth)))

    made_by : (o : Outcome) (r : Answer) (work' : List ℕ) → r ≡ told o → work' ≡ written o work → (k : ℕ) → result_ok r ≡ Some k → Makes (Some (Copy k)) (of_copy o) work work'
    made_by (answer ws) r work' e w k q = let p : Some (length ws) ≡ Some k = rw e at q in (cc, w)
    made_by (stop j) r work' e w k q = let p : None ≡ Some k = rw e at q in absurd (clash cc)

    none-by : (o : Outcome) (r : Answer) (work' : List ℕ) → r ≡ told o → work' ≡ written o work → result_ok r ≡ None → Makes None (of_copy o) work work'
    none-by (answer ws) r work' e w q = let p : Some (length ws) ≡ None = rw e at q in absurd (clash cc)
    none-by (stop j) r work' e w q = (refl, w)

    module _ (b : Bool) (d : depth ≡ 0 → ⊥) (e : b ≡ all_items (item_in 0 0) (items row m)) (h : b ≡ false) (r : Answer) (work' : List ℕ)
        (t : (r ≡ told (shift_words row m depth 0 (length work))) × (work' ≡ written (shift_words row m depth 0 (length work)) work)) where
      pub lift-copied : (k : ℕ) → result_ok r ≡ Some k → Makes (Some (Copy k)) (lift_part row depth (length work)) work work'
      lift-copied k q = rw (copy_is b d e h) (made_by (shift_words row m depth 0 (length work)) r work' t.0 t.1 k q)

      pub lift-refused : result_ok r ≡ None → Makes None (lift_part row depth (length work)) work work'
      lift-refused q = rw (copy_is b d e h) (none-by (shift_words row m depth 0 (length work)) r work' t.0 t.1 q)

-- the part that is chosen
chosen-part : (p : Part) (row work : List ℕ) → chosen row (work_after p work) (made_of p) ≡ part_words row p
chosen-part base row work = refl
chosen-part (copy ws) row work = rw (le-leb (length ws) (length (ws ++ drop (length ws) work)) (rw length-append (omega arith)), take-append_seam)
chosen-part empty row work = refl

at_part : (p : Part) (a b : ℕ × ℕ) → chosen_at a b (made_of p) ≡ part_at a b p
at_part base a b = refl
at_part (copy ws) a b = refl
at_part empty a b = refl

pub part-is : (p : Part) (row work work' : List ℕ) (made : Option Made) → Makes made p work work' → chosen row work' made ≡ part_words row p
part-is p row work work' made (e, w) = rw (e, w) (chosen-part p row work)

pub part-at : (p : Part) (a b : ℕ × ℕ) (made : Option Made) → made ≡ made_of p → chosen_at a b made ≡ part_at a b p
part-at p a b made e = rw e (at_part p a b)
