use mathlib.Core.Path.{refl, sym}
use Prim.Native.Nat.{◌≤◌}
use native.Mathlib.Omega.{arith}
use lib.Seq.{length-take-le}
use Rattle.shift.proofs.CheckedLaws.{passed}
use Rattle.replace.proofs.BuildLaws.{built-fits}
use Rattle.prune.proofs.FallLaws.{rest, rest-long, rest-some, rest-short}
use Rattle.prune.proofs.PruneLaws.{same-dropped, front-short}
use Rattle.tree.proofs.Pairs.{both}
use Rattle.prune.proofs.prune.drop_plain.Goals as goal

pub slice_bounds-drop_decls-end : goal.slice_bounds-drop_decls-end
slice_bounds-drop_decls-end c = sym (length-take-le _ _ (built-fits c.write_head-h.auto.head refl c.write_head-h.ensures.upper_bound))

pub drop_decls-requires : goal.drop_decls-requires
drop_decls-requires c =
    let k : c.write_head-h.result ≤ 34 = c.write_head-h.ensures.upper_bound in
    let h : c.write_head-h.result ≤ 8192 = omega arith in
    rw (rest c.args.row.now c.args.from, rest c.args.marks.now c.args.from) (record {
      words_len_bound = (c.requires.words_len_bound.0, front-short _ 8192 _ h, rest-short _ c.args.from 8192 c.requires.words_len_bound.1);
      body_in_bounds = (rest-long _ _ c.args.from c.requires.row_in_bounds.0, rest-some _ _ c.requires.row_in_bounds.1, c.requires.row_in_bounds.2);
    })

pub returns : goal.returns
returns c = both (λ v w. record { value = v; out_after = w }) (passed _ _ _ _ _ (same-dropped _ _ _ _ _ _ _ _ c.write_head-h.ensures.head_after (rest c.args.row.now c.args.from) (rest c.args.marks.now c.args.from)) (c.drop_decls.ensures.value, c.drop_decls.ensures.out_after))
