use Rattle.std.proofs.lemmas.Option.{unwrap_or-slice_get}
use Rattle.cursor.proofs.Cursor.next_word.Goals as goal

pub returns : goal.returns
returns c = rw (c.unwrap_or.ensures, c.word.ensures, unwrap_or-slice_get)
