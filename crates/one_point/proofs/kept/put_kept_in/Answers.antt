use mathlib.Core.Path.{◌≡◌, refl, sym, ◌∙◌}
use mathlib.Core.Logic.{◌⊎◌, ⊎_elim}
use mathlib.Core.List.{List}
use native.Mathlib.Omega.{arith}
use Prim.Native.Nat.{ℕ, ◌≤◌}
use lib.ListN.{length, length-replicate}
use lib.Seq.{length-take-le}
use Rattle.shift.proofs.CheckedLaws.{passed}
use Rattle.decls.specs.Internal.Noted.{noted_head}
use Rattle.decls.proofs.HeadLaws.{room-enough}
use Rattle.one_point.proofs.HeadedLaws.{few_words}
use Rattle.one_point.proofs.KeptRows.{kept_under}
use Rattle.tree.proofs.Pairs.{both}
use Rattle.one_point.proofs.kept.put_kept_in.Goals as goal

room-same : (op : ℕ) (ws row : List ℕ) (n : ℕ) → n ≤ 8192 → (length row ≤ n) ⊎ (n ≡ 8192) → noted_head op ws row n ≡ noted_head op ws row 8192
room-same op ws row n m h = ⊎_elim (λ l. room-enough op ws row n 8192 l (omega arith)) (λ e. rw e refl) h

pub returns : goal.returns
returns g c =
    both (λ v w. record { value = v; out_after = w }) (passed _ _ _ _ _ (kept_under c.args.sure c.args.head.now c.args.row.now c.args.p c.args.part.now c.args.part_marks.now c.args.body.now c.args.marks.now _ _ _ c.operator_of.ensures (c.write_noted-h.ensures.head_after ∙ rw (length-replicate {A = ℕ} g.row.N 0) (room-same _ _ c.args.row.now g.row.N c.requires.2 c.requires.3))) (c.put_under.ensures.value, c.put_under.ensures.out_after))

pub slice_bounds-words-end : goal.slice_bounds-words-end
slice_bounds-words-end g c = few_words c.args.head.now c.requires.0 c.args.p

pub slice_bounds-write_noted-end : goal.slice_bounds-write_noted-end
slice_bounds-write_noted-end g c = sym (length-take-le _ _ (few_words c.args.head.now c.requires.0 c.args.p))
