use mathlib.Core.Path.{sym}
use Rattle.tree.specs.Tag.{own_of}
use Rattle.form.specs.Decode.{read}
use Rattle.form.specs.Internal.Heads.{head_at}
use Rattle.form.proofs.HeadLaws.{no_kids}
use Rattle.form.proofs.head.own_words.Goals as goal

pub returns-in-Unknown : goal.returns-in-Unknown
unfolding own_of head_at read
returns-in-Unknown c = rw c.in-Unknown.is

pub returns-in-Plain : goal.returns-in-Plain
unfolding own_of
returns-in-Plain c = rw c.in-Plain.is (sym (no_kids _ _ _ _))

pub returns-in-Name : goal.returns-in-Name
unfolding own_of
returns-in-Name c = rw (c.in-Name.is, c.word_head.ensures)

pub returns-in-Value : goal.returns-in-Value
unfolding own_of
returns-in-Value c = rw (c.in-Value.is, c.word_head-in-Value.ensures)

pub returns-in-Exprs : goal.returns-in-Exprs
unfolding own_of
returns-in-Exprs c = rw (c.in-Exprs.is, c.exprs_head.ensures)

pub returns-in-Preds : goal.returns-in-Preds
unfolding own_of
returns-in-Preds c = rw (c.in-Preds.is, c.preds_head.ensures)

pub returns-in-Apply : goal.returns-in-Apply
unfolding own_of
returns-in-Apply c = rw (c.in-Apply.is, c.apply_head.ensures)

pub returns-in-Compr : goal.returns-in-Compr
unfolding own_of
returns-in-Compr c = rw (c.in-Compr.is, c.compr_head.ensures)

pub returns-in-Quant : goal.returns-in-Quant
unfolding own_of
returns-in-Quant c = rw (c.in-Quant.is, c.bound_head.ensures)

pub returns-in-NotedCompr : goal.returns-in-NotedCompr
unfolding own_of
returns-in-NotedCompr c = rw (c.in-NotedCompr.is, c.flags_compr_head.ensures)

pub returns-in-NotedQuant : goal.returns-in-NotedQuant
unfolding own_of
returns-in-NotedQuant c = rw (c.in-NotedQuant.is, c.flags_head.ensures)
