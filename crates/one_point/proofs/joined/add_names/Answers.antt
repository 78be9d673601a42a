use mathlib.Core.Path.{refl}
use native.Mathlib.Omega.{arith}
use lib.ListN.{replicate}
use Rattle.one_point.proofs.NotedRows.{flags-end, add-flags, add-plain}
use Rattle.tree.proofs.Pairs.{both}
use Rattle.one_point.proofs.joined.add_names.Goals as goal

pub returns-then-head-gt860 : goal.returns-then-head-gt860
returns-then-head-gt860 c = both (λ v w. record { value = v; head_after = w }) (add-flags c.args.names.now c.args.head.now c.args.h c.requires.2 c.requires.1 c.if-head-gt860.true _ (replicate 66 0) c.flag_names-end.new.out refl c.flag_names-end.ensures.value c.flag_names-end.ensures.out_after _ c.put_words.ensures)

pub returns : goal.returns
returns c = both (λ v w. record { value = v; head_after = w }) (add-plain c.args.names.now c.args.head.now c.args.h c.requires.2 c.requires.1 c.if-head-gt860.false _ c.put_words-2.ensures)

pub slice_bounds-put_words-count : goal.slice_bounds-put_words-count
slice_bounds-put_words-count c = let e = flags-end c.args.names.now c.args.head.now c.args.h c.requires.2 c.requires.1 c.if-head-gt860.true _ (replicate 66 0) c.flag_names-end.new.out refl c.flag_names-end.ensures.value c.flag_names-end.ensures.out_after in omega arith

pub slice_bounds-put_words-start : goal.slice_bounds-put_words-start
slice_bounds-put_words-start c = let e = flags-end c.args.names.now c.args.head.now c.args.h c.requires.2 c.requires.1 c.if-head-gt860.true _ (replicate 66 0) c.flag_names-end.new.out refl c.flag_names-end.ensures.value c.flag_names-end.ensures.out_after in omega arith
