use mathlib.Core.Path.{refl}
use Rattle.reader.specs.Internal.Reads.{empty_table}
use Rattle.reader.proofs.TableLaws.{places-long, places-none, places-over, places-more, places-done}
use Rattle.reader.proofs.lists.check_places.Goals as goal

pub returns-then-row-gt-WORDS : goal.returns-then-row-gt-WORDS
returns-then-row-gt-WORDS c = places-long _ _ c.if-row-gt-WORDS.true

pub returns-in_default : goal.returns-in_default
unfolding empty_table
returns-in_default c = places-none _ c.if-row-gt-WORDS.false _ _ _ _ _ (rw c.in_default.is at c.read_entries.ensures) refl _ c.broken_list.ensures

pub returns-then-n-gt-DECLARATIONS : goal.returns-then-n-gt-DECLARATIONS
unfolding empty_table
returns-then-n-gt-DECLARATIONS c = places-over _ c.if-row-gt-WORDS.false _ _ _ _ _ (rw c.in-Some.is at c.read_entries.ensures) refl c.if-n-gt-DECLARATIONS.true

pub returns-then-n-entries : goal.returns-then-n-entries
unfolding empty_table
returns-then-n-entries c = places-more _ c.if-row-gt-WORDS.false _ _ _ _ _ (rw c.in-Some.is at c.read_entries.ensures) refl c.if-n-gt-DECLARATIONS.false c.if-n-entries.true

pub returns : goal.returns
unfolding empty_table
returns c = places-done _ c.if-row-gt-WORDS.false _ _ _ _ _ (rw c.in-Some.is at c.read_entries.ensures) refl c.if-n-gt-DECLARATIONS.false c.if-n-entries.false
