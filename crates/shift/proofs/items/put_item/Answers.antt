use Rattle.std.proofs.Common.{sym}
use lib.Seq.{set_out}
use Rattle.shift.specs.Internal.Items.{words_of, store}
use Rattle.shift.proofs.ItemLaws.{store_out}
use Rattle.shift.proofs.items.put_item.Goals as goal

pub returns-then-out-i : goal.returns-then-out-i
returns-then-out-i c = sym (store_out _ _ _ c.if-out-i.true)

pub returns-in-Plain : goal.returns-in-Plain
unfolding words_of store
returns-in-Plain c = rw c.in-Plain.is

pub returns-then-i-out : goal.returns-then-i-out
unfolding words_of store
returns-then-i-out c = rw c.in-Ident.is

pub returns-else-i-out : goal.returns-else-i-out
unfolding words_of store
returns-else-i-out c = rw c.in-Ident.is (sym (set_out _ _ _ c.if-i-out.false))
