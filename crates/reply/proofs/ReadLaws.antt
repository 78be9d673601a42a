-- Where the groups of a line lie in it, and how many words they have. Assumes nothing.
use mathlib.Core.Path.{◌≡◌, refl}
use mathlib.Core.Bool.{Bool, true, false}
use mathlib.Core.List.{List, [], ◌∷◌}
use Prim.Native.Nat.{ℕ, zero, suc, ◌+◌, ◌-◌, ◌≤◌}
use native.Mathlib.Omega.{arith}
use lib.Dec.{leb, eqb}
use lib.IntN.{ℤ, pos}
use lib.ListN.{length, drop, length-drop}
use mathlib.Core.Logic.{⊎_elim}
use Rattle.std.specs.Prelude.{Option, Some, None}
use Rattle.tree.specs.Form.{pick}
use Rattle.form.proofs.HeadLaws.{gone}
use Rattle.tree.proofs.Ranges.{split}
use Rattle.line.specs.Scan.{Scan, ended, broken, add_byte, moved, mark_words, note, depth_after, turn, scan, group, scan_words, Signed, signed, unsigned, offset}
use Rattle.line.specs.Line.{closing, closed, last_group, Formed, formed, form_part, form_arg, space, next_arg, no_list, of_offset, offset_args, of_list, list_args, args, list_words, of_start, list_start, start_of, read_line, list_row}
use Rattle.line.specs.declared.turn.State.{State}
use Rattle.line.specs.declared.turn.State.TheVariants.{Opened}
use Rattle.rules.specs.Command.{commands, args_of}
use Rattle.rules.specs.declared.command.Command.{Command}
use Rattle.rules.specs.declared.command.Args.{Args}
use Rattle.rules.specs.declared.command.Args.TheVariants.{Nothing, Offset, Names, Pairs, Places}
use Rattle.reply.specs.Internal.Parts.{Bare}
use Rattle.line.specs.declared.head.Start.{Start}
use Rattle.line.specs.declared.line.Part.{Part}

-- a group has no more bytes than there are
abbrev Ends : ℕ → Scan → Type 0
Ends n (ended ws k) = k ≤ n
Ends n (broken ws) = Unit {0}

ends_more : (n : ℕ) (w : List ℕ) (x : Scan) → Ends n x → Ends (suc n) (add_byte w x)
unfolding add_byte
ends_more n w (ended ws k) h = omega arith
ends_more n w (broken ws) h = tt

ends-moved : (n : ℕ) (t : Option State) (ws : List ℕ) (d : ℕ) (k : State → Scan) → ((s : State) → Ends n (k s)) → Ends (suc n) (moved t ws d k)
ends-moved n None ws d k h = tt
ends-moved n (Some s) ws zero k h = omega arith
ends-moved n (Some s) ws (suc d) k h = ends_more n ws (k s) (h s)

ends-scan : (places : Bool) (bs : List ℕ) (d : ℕ) (s : State) → Ends (length bs) (scan places d s bs)
unfolding scan
ends-scan places [] d s = tt
ends-scan places (b ∷ bs) d s =
    ends-moved (length bs) (turn s b) (mark_words (note places d s b)) (depth_after d b) (λ s'. scan places (depth_after d b) s' bs) (λ s'. ends-scan places bs (depth_after d b) s')

ends-pick : (n : ℕ) (b : Bool) (x y : Scan) → Ends n x → Ends n y → Ends n (pick b x y)
ends-pick n true x y h k = h
ends-pick n false x y h k = k

ends-group : (places : Bool) (bs : List ℕ) → Ends (length bs) (group places bs)
unfolding group
ends-group places [] = tt
ends-group places (b ∷ bs) = ends-pick (suc (length bs)) (eqb b 91) _ _ (ends_more (length bs) [] (scan places 1 Opened bs) (ends-scan places bs 1 Opened)) tt

ends-closed : (n : ℕ) (bs : List ℕ) (x : Scan) → Ends n x → Ends n (closed bs x)
ends-closed n bs (ended ws k) h = ends-pick n (closing (drop k bs)) (ended ws k) (broken ws) h tt
ends-closed n bs (broken ws) h = tt

ends_last : (bs : List ℕ) → Ends (length bs) (last_group bs)
unfolding last_group
ends_last bs = ends-closed (length bs) bs (group false bs) (ends-group false bs)

-- where a group lies in the line, and how many words it has
abbrev pub Lies : List ℕ → List ℕ → Part → Type 0
Lies line ws p = (p.start ≤ p.end) × (p.end ≤ length line) × (p.count ≡ length ws)

-- the words ls of a command's list, which are none where it takes no list
abbrev pub Listed : List ℕ → Command → List ℕ → Part → Type 0
Listed line h ls p = Lies line ls p × Bare (args_of h) ls

-- the form of a command, and its list
abbrev pub Inside : List ℕ → List ℕ → Formed → Type 0
Inside line ls (formed (Some p) ws) = Lies line ws p.form × Listed line p.command ls p.list
Inside line ls (formed None ws) = Unit {0}

module _ (line : List ℕ) where
  pub nothing-lies : Lies line [] no_list
  nothing-lies = (omega arith, omega arith, refl)

  module _ (ls : List ℕ) where
    part-inside : (h : Command) (z : ℤ) (list : Part) (at : ℕ) (x : Scan) → Listed line h ls list → at ≤ length line → Ends (length line - at) x → Inside line ls (form_part h z list at x)
    part-inside h z list at (ended ws k) t l e = ((omega arith, omega arith, refl), t)
    part-inside h z list at (broken ws) t l e = tt

    none_inside : (h : Command) (z : ℤ) (list : Part) (at : ℕ) (bs : List ℕ) → bs ≡ [] → Inside line ls (form_part h z list at (last_group bs))
    unfolding last_group group
    none_inside h z list at bs e = rw e tt

    form-inside : (h : Command) (z : ℤ) (list : Part) (at : ℕ) → Listed line h ls list → Inside line ls (form_arg h z list at line)
    unfolding form_arg
    form-inside h z list at t =
        ⊎_elim (λ low. part-inside h z list at (last_group (drop at line)) t (omega arith) (rw length-drop at (ends_last (drop at line))))
        (λ high. none_inside h z list at (drop at line) (gone line at (omega arith))) (split (length line) at)

    pick-inside : (b : Bool) (x y : Formed) → Inside line ls x → Inside line ls y → Inside line ls (pick b x y)
    pick-inside true x y h k = h
    pick-inside false x y h k = k

    next-inside : (h : Command) (z : ℤ) (list : Part) (at : ℕ) → Listed line h ls list → Inside line ls (next_arg h z list at line)
    unfolding next_arg
    next-inside h z list at t = pick-inside (space (drop at line)) _ _ (form-inside h z list (at + 1) t) tt

  offset-inside : (h : Command) (at : ℕ) (x : Signed) → Bare (args_of h) [] → Inside line [] (of_offset h at line x)
  offset-inside h at (signed z k) b = next-inside [] h z no_list (at + k) (nothing-lies, b)
  offset-inside h at unsigned b = tt

  listed-inside : (h : Command) (at : ℕ) (x : Scan) → Bare (args_of h) (scan_words x) → at ≤ length line → Ends (length line - at) x → Inside line (scan_words x) (of_list h at line x)
  unfolding scan_words
  listed-inside h at (ended ws k) b l e = next-inside ws h (pos 0) _ (at + k) ((omega arith, omega arith, refl), b)
  listed-inside h at (broken ws) b l e = tt

  no-list-inside : (h : Command) (places : Bool) (at : ℕ) (bs : List ℕ) → bs ≡ [] → Inside line (scan_words (group places bs)) (of_list h at line (group places bs))
  unfolding group scan_words
  no-list-inside h places at bs e = rw e tt

  list_inside : (h : Command) (places : Bool) (at : ℕ) → ((ls : List ℕ) → Bare (args_of h) ls) → Inside line (scan_words (group places (drop at line))) (list_args h places at line)
  unfolding list_args
  list_inside h places at b =
      ⊎_elim (λ low. listed-inside h at (group places (drop at line)) (b _) (omega arith) (rw length-drop at (ends-group places (drop at line))))
      (λ high. no-list-inside h places at (drop at line) (gone line at (omega arith))) (split (length line) at)

  args-inside : (x : Args) (h : Command) (at : ℕ) → args_of h ≡ x → Inside line (list_words x at line) (args x h at line)
  unfolding args offset_args list_words
  args-inside Nothing h at e = form-inside [] h (pos 0) no_list at (nothing-lies, rw e refl)
  args-inside Offset h at e = offset-inside h at (offset (drop at line)) (rw e refl)
  args-inside Names h at e = list_inside h false at (λ ls. rw e tt)
  args-inside Pairs h at e = list_inside h false at (λ ls. rw e tt)
  args-inside Places h at e = list_inside h true at (λ ls. rw e tt)

  start-inside : (x : Option Start) → Inside line (list_start line x) (of_start line x)
  start-inside (Some s) = args-inside (args_of s.command) s.command s.at refl
  start-inside None = tt

  line-by : (b : Bool) → Inside line (pick b (list_start line (start_of commands line)) []) (pick b (of_start line (start_of commands line)) (formed None []))
  line-by true = start-inside (start_of commands line)
  line-by false = tt

  pub line-inside : Inside line (list_row line) (read_line line)
  unfolding read_line list_row
  line-inside = line-by (leb (length line) 65535)
