use mathlib.Core.Path.{refl, sym, ◌∙◌}
use Prim.Native.Nat.{ℕ, ◌≤◌}
use lib.ListN.{length, replicate, length-replicate}
use native.Mathlib.Omega.{arith}
use lib.Seq.{length-take-le}
use Rattle.shift.proofs.CheckedLaws.{passed}
use Rattle.replace.proofs.BuildLaws.{built-fits}
use Rattle.decls.proofs.HeadLaws.{room-enough}
use Rattle.prune.proofs.FallLaws.{rest, rest-long, rest-some, rest-short}
use Rattle.prune.proofs.PruneLaws.{same-dropped, front-short}
use Rattle.tree.proofs.Pairs.{both}
use Rattle.prune.proofs.prune.drop_noted.Goals as goal

pub slice_bounds-drop_decls-end : goal.slice_bounds-drop_decls-end
slice_bounds-drop_decls-end g c = sym (length-take-le _ _ (built-fits c.write_noted-h.auto.head refl c.write_noted-h.ensures.upper_bound))

pub drop_decls-requires : goal.drop_decls-requires
drop_decls-requires g c =
    let k = c.write_noted-h.ensures.upper_bound in
    let z = length-replicate {A = ℕ} g.row.N 0 in
    let h : c.write_noted-h.result ≤ 8192 = omega (arith, k, z, c.requires.words_len_bound.2) in
    let s : length c.args.row.now ≤ 8192 = omega (arith, c.requires.words_len_bound.1, c.requires.words_len_bound.2) in
    rw (rest c.args.row.now c.args.from, rest c.args.marks.now c.args.from) (record {
      words_len_bound = (c.requires.words_len_bound.0, front-short _ 8192 _ h, rest-short _ c.args.from 8192 s);
      body_in_bounds = (rest-long _ _ c.args.from c.requires.row_in_bounds.0, rest-some _ _ c.requires.row_in_bounds.1, c.requires.row_in_bounds.2);
    })

pub returns : goal.returns
returns g c =
    let z = length-replicate {A = ℕ} g.row.N 0 in
    let r : length c.args.row.now ≤ length (replicate g.row.N 0) = omega (arith, z, c.requires.words_len_bound.1) in
    let s : length c.args.row.now ≤ 8192 = omega (arith, c.requires.words_len_bound.1, c.requires.words_len_bound.2) in
    both (λ v w. record { value = v; out_after = w }) (passed _ _ _ _ _ (same-dropped _ _ _ _ _ _ _ _ (c.write_noted-h.ensures.head_after ∙ room-enough _ _ _ _ 8192 r s) (rest c.args.row.now c.args.from) (rest c.args.marks.now c.args.from)) (c.drop_decls.ensures.value, c.drop_decls.ensures.out_after))
