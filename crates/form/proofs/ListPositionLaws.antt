-- Where a list breaks: some list of the kind of at most 8,192 words begins with the words before the break, and none
-- with these and the next word. Assumes nothing.
use mathlib.Core.Path.{◌≡◌, refl, ap, ◌∙◌}
use mathlib.Core.Bool.{Bool, true, false}
use mathlib.Core.List.{List, [], ◌∷◌, ◌++◌}
use mathlib.Core.Option.{Option, none as absent, some}
use Prim.Native.Nat.{ℕ, zero, suc, ◌+◌, ◌≤◌, ◌<◌}
use native.Mathlib.Nat.{le_refl}
use native.Mathlib.Omega.{arith}
use borrow.Author.Tests.{lt-leb}
use lib.Dec.{leb}
use lib.ListN.{length, take, drop, length-append, take-append-drop}
use lib.Seq.{length-take-le}
use Rattle.tree.specs.Form.{Form, none, more, pick, encode}
use Rattle.tree.specs.Tag.{expr}
use Rattle.form.specs.Decode.{got, decode_all, decode}
use Rattle.form.specs.Lists.{kept, filled, Entry, entry, entry_of, entry_words, list_of, encode_list}
use Rattle.form.specs.Break.{Next, parts, never, nothing, rest, least_all, after, break_from, entry_next, break_list}
use Rattle.form.specs.declared.answer.ListKind.{ListKind}
use Rattle.form.specs.declared.answer.ListKind.TheVariants.{Pairs, Places}
use Rattle.form.proofs.DecodeLaws.{Ok, chain-sound, decode-encode, decode-sound}
use Rattle.form.proofs.ListLaws.{GoodAll, list-step, list-nil, list-sound}
use Rattle.form.proofs.LeastLaws.{Fine, fine-parts, fine-never, Runs}
use Rattle.form.proofs.BreakLaws.{too_many, pop, push, kids-run}
use Rattle.form.proofs.RunLaws.{kids-go}
use Rattle.form.proofs.PositionLaws.{own-fine, good_none, goes_on, run-prefix, run_length}

entry-fine : (kind : ListKind) (w : ℕ) → Fine (entry_next kind w)
entry-fine Pairs w = fine-parts
entry-fine Places w = go (leb w 1)
  where
    go : (b : Bool) → Fine (pick b (parts 0 0 w) never)
    go true = fine-parts
    go false = fine-never

-- an expression in a list
module _ (z : ℕ → Next) where
  record ExprRun (ws : List ℕ) : Type 0 where
    pub form : Form
    pub left : List ℕ
    pub at : ℕ
    pub is : decode 64 expr ws ≡ got form left
    pub runs : Runs false z at nothing left
    pub shorter : length left ≤ length ws

  expr-run : (at : ℕ) (ws : List ℕ) → Runs false z at (rest 64 (parts 0 0 1) nothing) ws → ExprRun ws
  unfolding decode_all
  expr-run at ws r =
      let g = kids-run false z 64 0 1 nothing at ws r in
      let (f, fs, y, a, b, q) = chain-sound (decode 64 expr ws) (λ r. decode_all (λ s l. decode 64 s l) [] r) g.forms g.left g.is in
      let j : y ≡ g.left = cc in
      let n = ap length (decode-sound 64 expr ws f y a).0 ∙ length-append (encode f) y in
      let i = ap length j in
      record { form = f; left = g.left; at = g.at; is = rw j at a; runs = g.runs; shorter = omega arith }

  expr-goes : (f : Form) → Ok 64 expr f → (at : ℕ) (r : List ℕ) → Runs false z (at + length (encode f)) nothing r → Runs false z at (rest 64 (parts 0 0 1) nothing) (encode f ++ r)
  unfolding decode_all
  expr-goes f k at r h =
      let n = length-append (encode f) r in
      kids-go false z own-fine 64 0 1 nothing (encode f ++ r) (more f none) r (rw (decode-encode k r)) refl at (at + length (encode f)) (omega arith) h

open_none : least_all nothing ≡ 0
unfolding least_all
open_none = refl

-- what runs is a list
abbrev IsList : ListKind → List ℕ → Type 0
IsList kind ws = (es : List Entry) × (list_of kind ws ≡ some es)

list-by : (kind : ListKind) (n : ℕ) → ((ws : List ℕ) → length ws ≤ n → (at : ℕ) → Runs false (entry_next kind) at nothing ws → IsList kind ws)
    → (ws : List ℕ) → length ws ≤ suc n → (at : ℕ) → Runs false (entry_next kind) at nothing ws → IsList kind ws
unfolding Runs after entry_of
list-by kind n ih [] h at r = ([], list-nil kind)
list-by Pairs n ih (w ∷ ws) h at r =
    let g = expr-run (entry_next Pairs) (suc at) ws r.1 in
    let l = g.shorter in
    let (es, e) = ih g.left (omega arith) g.at g.runs in
    (entry w (filled g.form) ∷ es, list-step Pairs w ws ∙ rw (g.is, e))
list-by Places n ih (zero ∷ ws) h at r =
    let (es, e) = ih ws (omega arith) (suc at) (pop false (entry_next Places) (suc at) 64 nothing ws r.1) in
    (entry 0 kept ∷ es, list-step Places 0 ws ∙ rw e)
list-by Places n ih (suc zero ∷ ws) h at r =
    let g = expr-run (entry_next Places) (suc at) ws r.1 in
    let l = g.shorter in
    let (es, e) = ih g.left (omega arith) g.at g.runs in
    (entry 1 (filled g.form) ∷ es, list-step Places 1 ws ∙ rw (g.is, e))
list-by Places n ih (suc (suc w) ∷ ws) h at r = absurd (too_many false (entry_next Places) (suc at) 64 nothing ws (rw (lt-leb (suc (suc w)) 1 (omega arith)) at r.1))

list-runs : (kind : ListKind) (n : ℕ) (ws : List ℕ) → length ws ≤ n → (at : ℕ) → Runs false (entry_next kind) at nothing ws → IsList kind ws
list-runs kind zero [] h at r = ([], list-nil kind)
list-runs kind zero (w ∷ ws) h at r = absurd (omega arith)
list-runs kind (suc n) ws h at r = list-by kind n (λ ws h at r. list-runs kind n ws h at r) ws h at r

-- a list runs
entries-run : (kind : ListKind) (es : List Entry) → GoodAll kind es → (at : ℕ) → at + length (encode_list es) ≤ 8192 → Runs false (entry_next kind) at nothing (encode_list es)
unfolding Runs after encode_list entry_words
entries-run kind [] g at h = (omega arith, open_none)
entries-run Pairs (entry w kept ∷ es) g at h = absurd g.0
entries-run Pairs (entry w (filled f) ∷ es) g at h =
    let n = length-append (encode f) (encode_list es) in
    let o = open_none in
    (omega arith, expr-goes (entry_next Pairs) f g.0 (suc at) (encode_list es) (entries-run Pairs es g.1 (suc at + length (encode f)) (omega arith)))
entries-run Places (entry w kept ∷ es) g at h =
    let o = open_none in
    (omega arith, rw g.0 (push false (entry_next Places) (suc at) 64 nothing (encode_list es) (entries-run Places es g.1 (suc at) (omega arith))))
entries-run Places (entry w (filled f) ∷ es) g at h =
    let n = length-append (encode f) (encode_list es) in
    let o = open_none in
    (omega arith, rw g.0.0 (expr-goes (entry_next Places) f g.0.1 (suc at) (encode_list es) (entries-run Places es g.1 (suc at + length (encode f)) (omega arith))))

-- some list begins with the words before the break
pub list-goes-on : (kind : ListKind) (row : List ℕ) → (v : List ℕ) × (es : List Entry) × (length (take (break_list kind row) row ++ v) ≤ 8192) × (list_of kind (take (break_list kind row) row ++ v) ≡ some es)
unfolding break_list
list-goes-on kind row =
    let o = open_none in
    let (v, r) = goes_on false (entry_next kind) (entry-fine kind) row 0 nothing good_none (omega arith) (break_from false (entry_next kind) 0 nothing row) (omega arith) in
    let l = run_length false (entry_next kind) 0 nothing (take (break_from false (entry_next kind) 0 nothing row) row ++ v) r in
    let (es, e) = list-runs kind (length (take (break_from false (entry_next kind) 0 nothing row) row ++ v)) (take (break_from false (entry_next kind) 0 nothing row) row ++ v) (le_refl _) 0 r in
    (v, es, omega arith, e)

list-stops : (kind : ListKind) (row v : List ℕ) (es : List Entry) (n : ℕ) → n ≤ length row → length (take n row ++ v) ≤ 8192 → list_of kind (take n row ++ v) ≡ some es → n ≤ break_list kind row
unfolding break_list
list-stops kind row v es n h l e =
    let (w, g) = list-sound kind (take n row ++ v) es e in
    let i = ap length w in
    let r = run-prefix false (entry_next kind) (entry-fine kind) (take n row) v (drop n row) 0 nothing (rw w (entries-run kind es g 0 (omega arith))) in
    let k = rw (take-append-drop n row) at r in
    let m = length-take-le n row h in
    omega arith

-- none begins with these and the next word
pub list-breaks : (kind : ListKind) (row : List ℕ) → break_list kind row < length row → (v : List ℕ) → length (take (suc (break_list kind row)) row ++ v) ≤ 8192
    → list_of kind (take (suc (break_list kind row)) row ++ v) ≡ absent
list-breaks kind row h v l = go (list_of kind (take (suc (break_list kind row)) row ++ v)) refl
  where
    go : (o : Option (List Entry)) → list_of kind (take (suc (break_list kind row)) row ++ v) ≡ o → o ≡ absent
    go absent e = refl
    go (some es) e = let k = list-stops kind row v es (suc (break_list kind row)) (omega arith) l e in absurd (omega arith)
