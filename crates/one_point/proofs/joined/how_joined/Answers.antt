use Rattle.one_point.proofs.JoinedRows.{join_front, join-unused, join-used, join_apart}
use Rattle.one_point.proofs.joined.how_joined.Goals as goal

pub returns-then-not-are_ones : goal.returns-then-not-are_ones
returns-then-not-are_ones c = join_front c.args.n c.args.part.now c.args.notes.now c.args.raised.now c.args.words.now c.clear_used.new.words c.requires.0 c.requires.2 c.clear_used.auto.words c.clear_used.ensures _ c.are_ones.ensures c.if-not-are_ones.true

pub returns-then-words-m-eq1 : goal.returns-then-words-m-eq1
returns-then-words-m-eq1 c = join-unused c.args.n c.args.part.now c.args.notes.now c.args.raised.now c.args.words.now c.clear_used.new.words c.requires.0 c.requires.2 c.clear_used.auto.words c.clear_used.ensures _ c.are_ones.ensures c.if-not-are_ones.false c.if-words-m-eq1.true

pub returns-then-is_above : goal.returns-then-is_above
returns-then-is_above c = join-used c.args.n c.args.part.now c.args.notes.now c.args.raised.now c.args.words.now c.clear_used.new.words c.requires.0 c.requires.2 c.clear_used.auto.words c.clear_used.ensures _ c.are_ones.ensures c.if-not-are_ones.false c.if-words-m-eq1.false _ c.is_above.ensures c.if-is_above.true

pub returns : goal.returns
returns c = join_apart c.args.n c.args.part.now c.args.notes.now c.args.raised.now c.args.words.now c.clear_used.new.words c.requires.0 c.requires.2 c.clear_used.auto.words c.clear_used.ensures _ c.are_ones.ensures c.if-not-are_ones.false c.if-words-m-eq1.false _ c.is_above.ensures c.if-is_above.false
