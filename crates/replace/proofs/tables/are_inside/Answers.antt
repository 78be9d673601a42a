use mathlib.Core.Path.{◌≡◌, sym}
use native.Mathlib.Omega.{arith}
use Rattle.replace.proofs.ReadyLaws.{parts-first, parts-next, parts-no}
use Rattle.replace.proofs.tables.are_inside.Goals.{then-table-i-via-then-table-i, then-table-i-via-else-table-i+then-words-table}
use Rattle.replace.proofs.tables.are_inside.Goals as goal

pub loop-i-init : goal.loop-i-init
loop-i-init c = parts-first _ _ _

pub returns-then-table-i : goal.returns-then-table-i
returns-then-table-i c = sym (parts-no _ _ _ _ _ c.loop-i-test.true (λ h. elim c.then-table-i.branch [ then-table-i-via-then-table-i w ↦ let l = w.if-table-i.true in absurd (omega (arith, h.0)) | then-table-i-via-else-table-i+then-words-table w ↦ let l = w.if-words-table.true in absurd (omega (arith, h.1)) ]))

pub loop-i-preserved : goal.loop-i-preserved
loop-i-preserved c = parts-next _ _ _ _ c.if-table-i.false c.if-words-table.false c.loop-i.invariant

pub returns : goal.returns
returns c = sym (rw (let e : c.loop-i.i ≡ c.args.table.now.n = omega arith in e) at c.loop-i.invariant)
