use mathlib.Core.Path.{◌≡◌}
use mathlib.Core.List.{[], ◌∷◌}
use Prim.Native.Nat.{◌+◌}
use lib.ListN.{length, get_or}
use Rattle.shift.specs.Internal.Items.{store}
use Rattle.replace.specs.Internal.Pieces.{kept_words}
use mathlib.Core.Path.{refl, sym, ◌∙◌}
use native.Mathlib.Omega.{arith}
use Prim.Native.Nat.{◌+◌}
use lib.ListN.{get_or}
use Rattle.replace.proofs.NameLaws.{names_more, names-long, names-end, kept-few, kept-put, kept-pass, store-empty}
use Rattle.replace.proofs.heads.write_names.Goals.{then-w-eq0, else-w-eq0}
use Rattle.replace.proofs.heads.write_names.Goals as goal

pub loop-i-init : goal.loop-i-init
loop-i-init c = (refl, refl, omega arith, refl)

pub offset_bounds-words-i : goal.offset_bounds-words-i
offset_bounds-words-i c = omega arith

pub bounds-words-i : goal.bounds-words-i
bounds-words-i c = omega arith

pub offset_bounds-row-i : goal.offset_bounds-row-i
offset_bounds-row-i c = omega arith

pub bounds-row-i : goal.bounds-row-i
bounds-row-i c = omega arith

pub loop-i-smaller : goal.loop-i-smaller
loop-i-smaller c = omega arith

pub loop-i-preserved : goal.loop-i-preserved
loop-i-preserved c = let word = get_or c.args.words.now c.loop-i.i 0 in
    let name = get_or c.args.row.now (c.loop-i.i + 2) 0 in
    let step : (c.if-w-eq0.head ≡ store c.loop-i.head c.loop-i.p (kept_words (word ∷ []) (name ∷ []))) × (c.if-w-eq0.p ≡ c.loop-i.p + length (kept_words (word ∷ []) (name ∷ []))) =
    elim c.if-w-eq0.branch [ then-w-eq0 w ↦ kept-put word name _ _ _ _ w.if-w-eq0.true w.head-is w.p-is | else-w-eq0 w ↦ kept-pass word name _ _ _ _ w.if-w-eq0.false w.head-is w.p-is ] in (
      c.loop-i.invariant.0 ∙ names_more c.args.words.now c.args.row.now _ c.loop-i-test.true c.requires.words_in_bounds _ _ _ _ step.0 step.1,
      c.loop-i.invariant.1 ∙ names-long c.args.words.now c.args.row.now _ c.loop-i-test.true c.requires.words_in_bounds _ _ step.1,
      let f = kept-few word name in let q = step.1 in omega arith,
      c.if-w-eq0.auto.head ∙ c.loop-i.invariant.3,
    )

pub returns : goal.returns
returns c = let n = names-end c.args.words.now c.args.row.now _ c.loop-i-test.false in record { value = sym (c.loop-i.invariant.1 ∙ (rw n (omega arith))); head_after = sym (c.loop-i.invariant.0 ∙ store-empty _ _ n) }
