-- Lines in the bytes of standard input: a line ends before a newline (10); one of over 65,535 bytes is answered once and then skipped.
use Rattle.std.specs.Prelude.{Bool, List, [], ◌∷◌, ℕ, suc, ltb, eqb, length}
use Rattle.tree.specs.Form.{pick}
use Rattle.reply.specs.declared.split.Next.{Next}
use Rattle.reply.specs.declared.split.Next.TheVariants.{Line, Skipped, Long, More}

-- how many bytes stand before the first newline
unfoldable pub newline_in : List ℕ → ℕ
newline_in [] = 0
newline_in (b ∷ bs) = let later = suc (newline_in bs) in pick (eqb b 10) 0 later

unfoldable pub next_of : Bool → List ℕ → Next
next_of skipping bs =
    let n = newline_in bs in
    pick (ltb n (length bs)) (pick skipping (Skipped n) (Line n)) (pick skipping More (pick (ltb 65535 n) Long More))
