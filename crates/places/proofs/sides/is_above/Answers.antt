use Rattle.places.proofs.SidesLaws.{above_low, above-long}
use Rattle.places.proofs.sides.is_above.Goals as goal

pub returns-then-part-gt-WORDS : goal.returns-then-part-gt-WORDS
returns-then-part-gt-WORDS c = above_low _ _ _ c.if-target-ge32.false (above-long _ _ c.if-part-gt-WORDS.true)
