use Rattle.decls.proofs.EndLaws.{noted-ends}
use Rattle.decls.proofs.ends.skip_decls.Goals as goal

pub returns : goal.returns
returns c = noted-ends _ _ _ _ _ _ c.decls_at.ensures
