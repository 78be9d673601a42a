-- The arguments of a line, from lists to positions. Assumes nothing.
use mathlib.Core.Path.{◌≡◌, refl, ap, sym, ◌∙◌}
use mathlib.Core.Bool.{Bool, true, false, ◌&&◌}
use mathlib.Core.List.{List, [], ◌∷◌}
use Prim.Native.Nat.{ℕ, suc, ◌+◌, ◌≤◌, ◌<◌}
use native.Mathlib.Omega.{arith}
use borrow.Author.Tests.{le-leb, lt-leb, eq-eqb, ne_eqb, eqb-true, eqb-false}
use lib.Dec.{eqb}
use lib.IntN.{ℤ, pos}
use lib.ListN.{length, get_or, drop, length-drop}
use lib.Seq.{drop-drop}
use Rattle.std.specs.Prelude.{Option, Some, None}
use Rattle.std.specs.List.{starts_with}
use Rattle.tree.specs.Form.{pick}
use Rattle.form.proofs.DecodeLaws.{clash}
use Rattle.form.proofs.HeadLaws.{gone, here}
use Rattle.line.specs.Scan.{Scan, ended, broken, scan_words, group, Signed, signed, unsigned, offset}
use Rattle.line.specs.Line.{prefix, start_at, or_later, start_of, closing, last_group, form_arg, next_arg, no_list, offset_args, list_args, args, list_words, read_line, list_row, line_of, form_row}
use Rattle.spell.specs.Put.{put}
use Rattle.line.specs.Internal.Places.{part, group_at, Grouped, offset_at, FormRead}
use Rattle.rules.specs.Command.{commands, head_of, args_of, numbered}
use Rattle.rules.proofs.CommandLaws.{number-here, number_past}
use Rattle.rules.specs.declared.command.Command.{Command}
use Rattle.rules.specs.declared.command.Args.{Args}
use Rattle.line.specs.declared.head.Start.{Start}
use Rattle.line.specs.declared.line.Part.{Part}
use Rattle.line.specs.declared.line.Parts.{Parts}
use Rattle.line.proofs.OffsetLaws.{pair-is}

-- the head
eqb-turned : (x y : ℕ) → eqb x y ≡ eqb y x
eqb-turned x y = go (eqb y x) refl
  where
    go : (z : Bool) → eqb y x ≡ z → eqb x y ≡ z
    go true e = eq-eqb x y (sym (eqb-true y x e))
    go false e = ne_eqb x y (λ q. eqb-false y x e (sym q))

pub prefix-is : (word line : List ℕ) → starts_with eqb line word ≡ prefix word line
unfolding prefix
prefix-is [] line = refl
prefix-is (w ∷ ws) [] = refl
prefix-is (w ∷ ws) (b ∷ bs) = rw (eqb-turned w b) (go (eqb b w) (prefix-is ws bs))
  where
    go : (x : Bool) → starts_with eqb bs ws ≡ prefix ws bs → (x && starts_with eqb bs ws) ≡ pick x (prefix ws bs) false
    go true f = f
    go false f = refl

module _ (c : Command) (word line : List ℕ) (x : Bool) (e : word ≡ head_of c) (s : x ≡ starts_with eqb line word) where
  begins : x ≡ prefix (head_of c) line
  begins = s ∙ prefix-is word line ∙ ap (λ w. prefix w line) e

  pub begun : x ≡ true → Some (record { command = c; at = length word }) ≡ start_at (head_of c) c line
  begun t = rw (sym begins ∙ t) (ap (λ w. Some (record { command = c; at = length w })) e)

  pub not-begun : x ≡ false → None ≡ start_at (head_of c) c line
  not-begun t = rw (sym begins ∙ t)

-- the commands from number n on, where no command before it is the line's
abbrev pub From : ℕ → List ℕ → Type 0
From n line = (k : ℕ) × (n ≡ suc k) × (start_of (drop k commands) line ≡ start_of commands line)

pub from_first : (line : List ℕ) → From 1 line
from_first line = (0, refl, refl)

module _ (n : ℕ) (line : List ℕ) (f : From n line) {t : Option Command} (e : t ≡ numbered n) where
  pub head-none : t ≡ None → None ≡ start_of commands line
  unfolding start_of
  head-none q = let (k, z, s) = f in rw (number_past k (sym (rw z at e) ∙ q)) at s

  module _ (c : Command) (q : t ≡ Some c) where
    pub head_few : n ≤ length commands
    head_few = let (k, z, s) = f in let l = (number-here k c (sym (rw z at e) ∙ q)).0 in omega arith

    here-is : or_later (start_at (head_of c) c line) (start_of (drop n commands) line) ≡ start_of commands line
    unfolding start_of
    here-is = let (k, z, s) = f in rw z (rw (number-here k c (sym (rw z at e) ∙ q)).1 at s)

    pub head-here : (u : Start) → Some u ≡ start_at (head_of c) c line → Some u ≡ start_of commands line
    head-here u r = rw (sym r) at here-is

    pub head-later : None ≡ start_at (head_of c) c line → From (n + 1) line
    head-later r = (n, omega arith, rw (sym r) at here-is)

-- a group's answer taken apart
group-end : (at : ℕ) (s : Scan) (a b : List ℕ) (r : Option Part) (g : Part) → Grouped at at 0 s a b r → r ≡ Some g
    → (ws : List ℕ) × (k : ℕ) × (s ≡ ended ws k) × (g ≡ record { start = at; end = at + k; count = length ws }) × (b ≡ put a 0 ws)
unfolding Grouped group_at scan_words
group-end at (ended ws k) a b r g t e =
    let z : Some g ≡ part at (at + k) (0 + length ws) = sym e ∙ t.0 in
    let n : 0 + length ws ≡ length ws = omega arith in
    let y : Some g ≡ part at (at + k) (length ws) = z ∙ ap (λ m. part at (at + k) m) n in
    (ws, k, refl, cc, t.1)
group-end at (broken ws) a b r g t e = let z = t.0 in absurd (clash cc)

group-broken : (at : ℕ) (s : Scan) (a b : List ℕ) (r : Option Part) → Grouped at at 0 s a b r → r ≡ None → (ws : List ℕ) × (s ≡ broken ws) × (b ≡ put a 0 ws)
unfolding Grouped group_at scan_words
group-broken at (ended ws k) a b r t e = let z = t.0 in absurd (clash cc)
group-broken at (broken ws) a b r t e = (ws, refl, t.1)

-- the last bracket
close_other : (b : ℕ) (l : List ℕ) → (b ≡ 93 → ⊥) → closing (b ∷ l) ≡ false
close_other b [] n = ne_eqb b 93 n
close_other b (c ∷ l) n = refl

close-long : (b : ℕ) (l : List ℕ) → (length l ≡ 0 → ⊥) → closing (b ∷ l) ≡ false
close-long b [] n = absurd (n refl)
close-long b (c ∷ l) n = refl

close-is : (b : ℕ) (l : List ℕ) → b ≡ 93 → length l ≡ 0 → closing (b ∷ l) ≡ true
close-is b [] e n = eq-eqb b 93 e
close-is b (c ∷ l) e n = absurd (omega arith)

module _ (line : List ℕ) (p : ℕ) where
  pub closing-past : length line ≤ p → closing (drop p line) ≡ false
  closing-past h = rw (gone line p h)

  module _ (h : p < length line) where
    pub closing-other : (get_or line p 0 ≡ 93 → ⊥) → closing (drop p line) ≡ false
    closing-other n = rw (here line p h) (close_other (get_or line p 0) (drop (p + 1) line) n)

    pub closing-long : (length line ≡ p + 1 → ⊥) → closing (drop p line) ≡ false
    closing-long n = rw (here line p h) (close-long (get_or line p 0) (drop (p + 1) line) (λ e. n (let q = length-drop (p + 1) line in omega arith)))

    pub closing-is : get_or line p 0 ≡ 93 → length line ≡ p + 1 → closing (drop p line) ≡ true
    closing-is e n = rw (here line p h) (close-is (get_or line p 0) (drop (p + 1) line) e (length-drop (p + 1) line ∙ omega arith))

module _ (line : List ℕ) (at : ℕ) (a b : List ℕ) (r : Option Part) (t : Grouped at at 0 (group false (drop at line)) a b r) where
  last-is : (ws : List ℕ) (k : ℕ) (x : Bool) → group false (drop at line) ≡ ended ws k → closing (drop (at + k) line) ≡ x → last_group (drop at line) ≡ pick x (ended ws k) (broken ws)
  unfolding last_group
  last-is ws k x e c = rw (e, drop-drop k at line, c)

  pub last-broken : r ≡ None → Grouped at at 0 (last_group (drop at line)) a b None
  unfolding last_group Grouped group_at scan_words
  last-broken e = let (ws, q, m) = group-broken at (group false (drop at line)) a b r t e in rw q (refl, m)

  module _ (g : Part) (e : r ≡ Some g) where
    ended-as : (x : Bool) → closing (drop g.end line) ≡ x
        → (ws : List ℕ) × (k : ℕ) × (last_group (drop at line) ≡ pick x (ended ws k) (broken ws)) × (g ≡ record { start = at; end = at + k; count = length ws }) × (b ≡ put a 0 ws)
    ended-as x c =
        let (ws, k, q, l, v) = group-end at (group false (drop at line)) a b r g t e in
        (ws, k, last-is ws k x q (rw l at c), l, v)

    pub last-stop : closing (drop g.end line) ≡ false → Grouped at at 0 (last_group (drop at line)) a b None
    unfolding Grouped group_at scan_words
    last-stop c = let (ws, k, q, l, v) = ended-as false c in rw q (refl, v)

    pub last-go : closing (drop g.end line) ≡ true → Grouped at at 0 (last_group (drop at line)) a b (Some g)
    unfolding Grouped group_at scan_words
    last-go c =
        let (ws, k, q, l, v) = ended-as true c in
        let n : length ws ≡ 0 + length ws = omega arith in
        rw q (ap Some l ∙ ap (λ m. part at (at + k) m) n, v)

-- the form
module _ (line : List ℕ) (h : Command) (z : ℤ) (list : Part) (at : ℕ) (a : List ℕ) where
  made : (b ws : List ℕ) (k : ℕ) (g : Part) → last_group (drop at line) ≡ ended ws k → g ≡ record { start = at; end = at + k; count = length ws } → b ≡ put a 0 ws
      → FormRead (form_arg h z list at line) a b (Some (record { command = h; offset = z; list = list; form = g }))
  unfolding FormRead form_arg line_of form_row
  made b ws k g q l v = rw (q, l) (refl, v)

  module _ (b : List ℕ) (r : Option Part) (t : Grouped at at 0 (last_group (drop at line)) a b r) where
    pub form-stop : r ≡ None → FormRead (form_arg h z list at line) a b None
    unfolding FormRead form_arg line_of form_row
    form-stop e = let (ws, q, m) = group-broken at (last_group (drop at line)) a b r t e in rw q (refl, m)

    pub form-go : (g : Part) → r ≡ Some g → FormRead (form_arg h z list at line) a b (Some (record { command = h; offset = z; list = list; form = g }))
    form-go g e = let (ws, k, q, l, v) = group-end at (last_group (drop at line)) a b r g t e in made b ws k g q l v

  pub next_past : length line ≤ at → FormRead (next_arg h z list at line) a a None
  unfolding FormRead next_arg line_of form_row put
  next_past l = rw (gone line at l) (refl, refl)

  pub next-other : at < length line → (get_or line at 0 ≡ 32 → ⊥) → FormRead (next_arg h z list at line) a a None
  unfolding FormRead next_arg line_of form_row put
  next-other l n = rw (here line at l, ne_eqb (get_or line at 0) 32 n) (refl, refl)

  pub next-go : at < length line → get_or line at 0 ≡ 32 → (b : List ℕ) (r : Option Parts) → FormRead (form_arg h z list (at + 1) line) a b r → FormRead (next_arg h z list at line) a b r
  unfolding next_arg
  next-go l e b r t = rw (here line at l, eq-eqb (get_or line at 0) 32 e) t

offset-bad : (at : ℕ) (s : Signed) → offset_at at s ≡ None → s ≡ unsigned
unfolding offset_at
offset-bad at (signed z k) e = absurd (clash cc)
offset-bad at unsigned e = refl

offset-is : (at : ℕ) (s : Signed) (z : ℤ) (p : ℕ) → offset_at at s ≡ Some (z, p) → (k : ℕ) × (s ≡ signed z k) × (p ≡ at + k)
unfolding offset_at
offset-is at (signed y k) z p e = let (q, l) = pair-is e in (k, ap (λ x. signed x k) q, sym l)
offset-is at unsigned z p e = absurd (clash cc)

module _ (line : List ℕ) (at : ℕ) (a : List ℕ) where
  module _ (h : Command) {t : Option (ℤ × ℕ)} (o : t ≡ offset_at at (offset (drop at line))) where
    pub signed-bad : t ≡ None → FormRead (offset_args h at line) a a None
    unfolding FormRead offset_args line_of form_row put
    signed-bad e = rw (offset-bad at (offset (drop at line)) (sym o ∙ e)) (refl, refl)

    pub signed-go : (z : ℤ) (p : ℕ) → t ≡ Some (z, p) → (b : List ℕ) (r : Option Parts) → FormRead (next_arg h z no_list p line) a b r → FormRead (offset_args h at line) a b r
    unfolding offset_args
    signed-go z p e b r w = let (k, q, l) = offset-is at (offset (drop at line)) z p (sym o ∙ e) in rw q (rw l at w)

  listed : (h : Command) (places : Bool) (ws : List ℕ) (k : ℕ) (g : Part) → group places (drop at line) ≡ ended ws k → g ≡ record { start = at; end = at + k; count = length ws } → (b : List ℕ) (r : Option Parts)
      → FormRead (next_arg h (pos 0) g g.end line) a b r → FormRead (list_args h places at line) a b r
  unfolding list_args
  listed h places ws k g q l b r w = rw q (rw l at w)

  module _ (h : Command) (places : Bool) (c d : List ℕ) (r : Option Part) (t : Grouped at at 0 (group places (drop at line)) c d r) where
    pub list-kept : d ≡ put c 0 (scan_words (group places (drop at line)))
    unfolding Grouped
    list-kept = t.1

    pub list-bad : r ≡ None → FormRead (list_args h places at line) a a None
    unfolding FormRead list_args line_of form_row put
    list-bad e = let (ws, q, m) = group-broken at (group places (drop at line)) c d r t e in rw q (refl, refl)

    pub list-go : (g : Part) → r ≡ Some g → (b : List ℕ) (r : Option Parts) → FormRead (next_arg h (pos 0) g g.end line) a b r → FormRead (list_args h places at line) a b r
    list-go g e b r' w = let (ws, k, q, l, v) = group-end at (group places (drop at line)) c d r g t e in listed h places ws k g q l b r' w

-- the whole line
module _ (line a b : List ℕ) where
  abbrev Whole : List ℕ → List ℕ → Option Parts → Type 0
  Whole a' b' r = (r ≡ line_of (read_line line)) × ((a' ≡ put a 0 (list_row line)) × (b' ≡ put b 0 (form_row (read_line line))))

  pub line-long : 65535 < length line → Whole a b None
  unfolding read_line list_row line_of form_row put
  line-long h = rw (lt-leb (length line) 65535 h) (refl, (refl, refl))

  module _ (h : length line ≤ 65535) {t : Option Start} (s : t ≡ start_of commands line) where
    pub line-unknown : t ≡ None → Whole a b None
    unfolding read_line list_row line_of form_row put
    line-unknown e = rw (le-leb (length line) 65535 h, sym s ∙ e) (refl, (refl, refl))

    pub line-args : (u : Start) → t ≡ Some u → (x y : Args) → y ≡ args_of u.command → y ≡ x → (a' b' : List ℕ) (r : Option Parts) → FormRead (args x u.command u.at line) b b' r → a' ≡ put a 0 (list_words x u.at line) → Whole a' b' r
    unfolding read_line list_row FormRead
    line-args u e x y k q a' b' r f l = rw (le-leb (length line) 65535 h, sym s ∙ e, sym k ∙ q) (f.0, (l, f.1))
