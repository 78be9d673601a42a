use Rattle.reader.proofs.CheckLaws.{row-long, row-bad, row-whole, row-part}
use Rattle.reader.proofs.check.mark_form.Goals as goal

pub returns-then-row-gt-WORDS : goal.returns-then-row-gt-WORDS
returns-then-row-gt-WORDS c = let pair = row-long _ _ _ _ c.if-row-gt-WORDS.true in record { value = pair.0; marked = pair.1 }

pub returns-in_default : goal.returns-in_default
returns-in_default c = let pair = row-bad _ _ _ _ c.if-row-gt-WORDS.false _ c.is_expr.ensures _ c.first_form.ensures c.in_default.is in record { value = pair.0; marked = pair.1 }

pub returns-then-p-row : goal.returns-then-p-row
returns-then-p-row c = let pair = row-whole _ _ _ _ c.if-row-gt-WORDS.false _ c.is_expr.ensures _ c.first_form.ensures _ c.in-Some.is c.if-p-row.true _ c.is_of_kind.ensures in record { value = pair.0; marked = pair.1 }

pub returns : goal.returns
returns c = let pair = row-part _ _ _ _ c.if-row-gt-WORDS.false _ c.is_expr.ensures _ c.first_form.ensures _ c.in-Some.is c.if-p-row.false in record { value = pair.0; marked = pair.1 }
