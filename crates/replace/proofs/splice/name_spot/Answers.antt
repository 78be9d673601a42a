use native.Mathlib.Omega.{arith}
use Rattle.replace.proofs.SpliceSlots.{key-low, spot-none, spot-some}
use Rattle.replace.proofs.splice.name_spot.Goals as goal

pub offset_bounds-keys-key : goal.offset_bounds-keys-key
offset_bounds-keys-key c = let k = key-low _ _ _ _ c.key_of-key.ensures in omega arith

pub bounds-keys-key : goal.bounds-keys-key
bounds-keys-key c = let k = key-low _ _ _ _ c.key_of-key.ensures in omega arith

pub returns-then-keys-key-eq0 : goal.returns-then-keys-key-eq0
returns-then-keys-key-eq0 c = spot-none c.args.words.now c.args.keys.now c.requires.0 _ _ _ _ c.key_of-key.ensures c.if-keys-key-eq0.true

pub returns : goal.returns
returns c = spot-some c.args.words.now c.args.keys.now c.requires.0 _ _ _ _ c.key_of-key.ensures c.if-keys-key-eq0.false _ c.index_of.ensures
