use mathlib.Core.Path.{◌≡◌}
use mathlib.Core.List.{map}
use Prim.Native.Nat.{◌+◌, ◌*◌}
use lib.ListN.{drop}
use Rattle.tree.specs.Form.{encode_decls}
use Rattle.rules.specs.Fill.{unnoted, unlisted}
use Rattle.shift.specs.Internal.Items.{store}
use Rattle.decls.proofs.heads.put_flags.Given as goal

abbrev pub invariant-loop-name : goal.invariant-loop-name
invariant-loop-name l = (store l.initial.out 2 (encode_decls (unlisted (map unnoted l.names))) ≡ store l.out l.p (encode_decls (unlisted (map unnoted (drop l.name-index l.names))))) × (l.p ≡ 2 + 2 * l.name-index)
