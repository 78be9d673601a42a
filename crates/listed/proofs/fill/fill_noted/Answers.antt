use mathlib.Core.Path.{◌≡◌}
use Prim.Native.Nat.{ℕ}
use lib.ListN.{length, replicate, length-replicate}
use native.Mathlib.Omega.{arith}
use mathlib.Core.Path.{refl, sym, ◌∙◌}
use lib.Seq.{length-take-le}
use Rattle.shift.proofs.CheckedLaws.{passed}
use Rattle.replace.proofs.BuildLaws.{built-fits}
use Rattle.decls.proofs.HeadLaws.{room-enough}
use Rattle.listed.proofs.FillLaws.{noted-placed}
use Rattle.tree.proofs.Pairs.{both}
use Rattle.listed.proofs.fill.fill_noted.Goals as goal

pub slice_bounds-fill_places-end : goal.slice_bounds-fill_places-end
slice_bounds-fill_places-end g c = sym (length-take-le _ _ (built-fits c.write_noted-h.auto.head refl c.write_noted-h.ensures.upper_bound))

pub returns : goal.returns
returns g c = let t = c.args.source.table.now in let z : length {A = ℕ} (replicate g.row.N 0) ≡ g.row.N = length-replicate g.row.N 0 in both (λ v w. record { value = v; out_after = w }) (passed _ _ _ _ _ (noted-placed c.args.sure _ _ _ _ _ t _ _ _ c.requires.ready refl ((rw z at c.write_noted-h.ensures.head_after) ∙ room-enough _ _ _ _ 8192 c.requires.n_in_bounds.1 (omega arith)) c.body_start-from.ensures) (c.fill_places.ensures.value, c.fill_places.ensures.out_after))
