use mathlib.Core.Path.{◌∙◌}
use native.Mathlib.Omega.{arith}
use lib.ListN.{get_or, drop, length-set}
use Rattle.replace.specs.Internal.Pieces.{kept_words}
use Rattle.replace.proofs.NameLaws.{head-none, head-some, kept-short, head-many, head-short, head-tight, head-kept}
use Rattle.replace.proofs.heads.write_head.Goals.{then-words-gt32-via-then-words-gt32, then-words-gt32-via-else-words-gt32+then-row-words, then-words-gt32-via-else-words-gt32+else-row-words+then-head-words}
use Rattle.replace.proofs.heads.write_head.Goals as goal

pub returns-then-words-gt32-clause-head_after : goal.returns-then-words-gt32-clause-head_after
returns-then-words-gt32-clause-head_after c = elim c.then-words-gt32.branch [ then-words-gt32-via-then-words-gt32 w ↦ head-many _ _ _ w.if-words-gt32.true | then-words-gt32-via-else-words-gt32+then-row-words w ↦ head-short _ _ _ w.if-words-gt32.false w.if-row-words.true | then-words-gt32-via-else-words-gt32+else-row-words+then-head-words w ↦ head-tight _ _ _ w.if-words-gt32.false w.if-row-words.false w.if-head-words.true ]

pub returns-then-p-eq2 : goal.returns-then-p-eq2
returns-then-p-eq2 c = record { upper_bound = omega arith; head_after = head-none _ _ _ c.args.words.now c.write_names-p.ensures.value c.if-p-eq2.true ∙ head-kept _ _ _ c.if-words-gt32.false c.if-row-words.false c.if-head-words.false }

pub overflow_cast-head : goal.overflow_cast-head
overflow_cast-head c = let f = kept-short c.args.words.now (drop 2 c.args.row.now) in
    omega arith

pub bounds-head-1 : goal.bounds-head-1
bounds-head-1 c = let l = length-set c.write_names-p.new.head 0 (get_or c.args.row.now 0 0) in
    omega arith

pub returns : goal.returns
returns c = let ks = kept_words c.args.words.now (drop 2 c.args.row.now) in
    let f = kept-short c.args.words.now (drop 2 c.args.row.now) in
    record { upper_bound = omega arith; head_after = head-some _ _ ks c.args.head.now _ (omega arith) c.write_names-p.ensures.head_after c.write_names-p.ensures.value c.if-p-eq2.false ∙ head-kept _ _ _ c.if-words-gt32.false c.if-row-words.false c.if-head-words.false }
