use Rattle.line.proofs.LineLaws.{list-kept, list-bad, list-go}
use Rattle.line.proofs.line.read_listed.Goals as goal

pub returns-in_err-part : goal.returns-in_err-part
returns-in_err-part c = record {
  form_read = rw c.from_residual.ensures (list-bad _ _ _ _ _ _ _ _ c.read_group.ensures c.in_err-part.was);
  list_after = list-kept _ _ c.args.form.now c.args.command _ _ _ _ c.read_group.ensures;
}

pub returns : goal.returns
returns c = record {
  form_read = list-go _ _ _ _ _ _ _ _ c.read_group.ensures _ c.in_ok-part.was _ _ c.read_next.ensures;
  list_after = list-kept _ _ c.args.form.now c.args.command _ _ _ _ c.read_group.ensures;
}
