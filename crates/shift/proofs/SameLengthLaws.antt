-- A rewriting that keeps the length: the answers of its core, over any test and any words. Assumes nothing.
use Rattle.std.proofs.Common.{◌≡◌, ℕ, ◌<◌, ◌≤◌, Bool, true, false, List, length, sym, ap, le-leb}
use borrow.Author.Tests.{lt-leb}
use Rattle.form.specs.Answer.{answer, stop, told, written}
use Rattle.std.specs.Prelude.{Ok}
use Rattle.shift.specs.Internal.Items.{items, all_items, store, same_length}
use Rattle.shift.specs.declared.items.Item.{Item}
use Rattle.shift.proofs.ItemLaws.{stored}
use Rattle.form.specs.declared.answer.Refusal.{Refusal}
use Rattle.form.specs.declared.answer.Refusal.TheVariants.{OutputTooShort}

module _ (q : Item → Bool) (ws : List ℕ) (n : Refusal) (row marks out : List ℕ) where
  pub fails : (b : Bool) → b ≡ all_items q (items row marks) → b ≡ false → same_length q ws n row marks (length out) ≡ stop n
  unfolding same_length
  fails b e h = rw (← e, h)

  module _ (b : Bool) (e : b ≡ all_items q (items row marks)) (h : b ≡ true) where
    pub no_room : length out < length row → same_length q ws n row marks (length out) ≡ stop OutputTooShort
    unfolding same_length
    no_room l = rw (← e, h, lt-leb (length row) (length out) l)

    module _ (keep : length ws ≡ length row) (l : length row ≤ length out) (out' : List ℕ) (w : out' ≡ store out 0 ws) where
      done : same_length q ws n row marks (length out) ≡ answer ws
      unfolding same_length
      done = rw (← e, h, le-leb (length row) (length out) l)

      pub answers : (Ok (length row) ≡ told (same_length q ws n row marks (length out))) × (out' ≡ written (same_length q ws n row marks (length out)) out)
      answers = (rw done (ap Ok (sym keep)), rw (done, w) (stored out ws (rw keep l)))
