use mathlib.Core.Path.{refl}
use Rattle.places.proofs.WroteLaws.{put-wrote, part-long}
use Rattle.one_point.proofs.writes.copy_part.Goals as goal

pub returns : goal.returns
returns c = record { wrote = put-wrote _ _ _ _ _ (part-long c.args.row.now c.args.from c.args.to c.requires.0 c.requires.1) c.requires.2 c.put_words.ensures; value = refl }
