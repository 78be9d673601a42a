-- The lists as rows: a row is read as the entries that it was written from, and what is read was written so. Assumes nothing.
use mathlib.Core.Path.{◌≡◌, refl, ap, ◌∙◌}
use mathlib.Core.List.{List, [], ◌∷◌, ◌++◌}
use mathlib.Core.Option.{Option, none as absent, some}
use Prim.Native.Nat.{ℕ, zero, suc, ◌≤◌, ◌<◌}
use native.Mathlib.Omega.{arith}
use lib.ListN.{length, length-append}
use Rattle.tree.specs.Form.{Form}
use Rattle.tree.specs.Tag.{expr}
use Rattle.form.specs.Decode.{Got, got, no-form, decode}
use Rattle.form.specs.Lists.{kept, filled, Entry, entry, with_expr, place_entry, entry_of, add_entry, and_then, entries, list_of, entry_words, encode_list}
use Rattle.form.specs.declared.answer.ListKind.{ListKind}
use Rattle.form.specs.declared.answer.ListKind.TheVariants.{Pairs, Places}
use Rattle.form.proofs.DecodeLaws.{clash, Ok, decode-encode, decode-sound}

-- an entry that the kind can have: with a pair an expression, at a place 0 alone or 1 and an expression
abbrev pub Good : ListKind → Entry → Type 0
Good Pairs (entry w kept) = ⊥
Good Pairs (entry w (filled f)) = Ok 64 expr f
Good Places (entry w kept) = w ≡ 0
Good Places (entry w (filled f)) = (w ≡ 1) × Ok 64 expr f

abbrev pub GoodAll : ListKind → List Entry → Type 0
GoodAll kind [] = Unit {0}
GoodAll kind (e ∷ es) = Good kind e × GoodAll kind es

with-sound : (kind : ListKind) (w : ℕ) (ws : List ℕ) (g : Got) → ((f : Form) → Ok 64 expr f → Good kind (entry w (filled f))) → decode 64 expr ws ≡ g → (x : Entry × List ℕ) → with_expr w g ≡ some x
    → (w ∷ ws ≡ entry_words x.0 ++ x.1) × Good kind x.0
unfolding entry_words
with-sound kind w ws (got f r) h q x e =
    let z : (entry w (filled f), r) ≡ x = cc in
    let y = decode-sound 64 expr ws f r q in
    rw (← z) (ap (λ l. w ∷ l) y.0, h f y.1)
with-sound kind w ws no-form h q x e = absurd (clash cc)

place-sound : (w : ℕ) (ws : List ℕ) (x : Entry × List ℕ) → place_entry w ws ≡ some x → (w ∷ ws ≡ entry_words x.0 ++ x.1) × Good Places x.0
unfolding entry_words
place-sound zero ws x e = let z : (entry 0 kept, ws) ≡ x = cc in rw (← z) (refl, refl)
place-sound (suc zero) ws x e = with-sound Places 1 ws (decode 64 expr ws) (λ f k. (refl, k)) refl x e
place-sound (suc (suc w)) ws x e = absurd (clash cc)

-- the words of an entry are the row's first
pub entry-sound : (kind : ListKind) (ws : List ℕ) (x : Entry × List ℕ) → entry_of kind ws ≡ some x → (ws ≡ entry_words x.0 ++ x.1) × Good kind x.0
unfolding entry_of
entry-sound kind [] x e = absurd (clash cc)
entry-sound Pairs (w ∷ ws) x e = with-sound Pairs w ws (decode 64 expr ws) (λ f k. k) refl x e
entry-sound Places (w ∷ ws) x e = place-sound w ws x e

pub entry-encode : (kind : ListKind) (e : Entry) (r : List ℕ) → Good kind e → entry_of kind (entry_words e ++ r) ≡ some (e, r)
unfolding entry_of entry_words
entry-encode Pairs (entry w kept) r g = absurd g
entry-encode Pairs (entry w (filled f)) r g = rw (decode-encode g r)
entry-encode Places (entry w kept) r g = rw g
entry-encode Places (entry w (filled f)) r g = rw (g.0, decode-encode g.1 r)

pub entry-long : (e : Entry) → 0 < length (entry_words e)
unfolding entry_words
entry-long (entry w p) = omega arith

shorter : (kind : ListKind) (ws : List ℕ) (x : Entry × List ℕ) → entry_of kind ws ≡ some x → length x.1 < length ws
shorter kind ws x e =
    let l = entry-long x.0 in
    let n = ap length (entry-sound kind ws x e).0 ∙ length-append (entry_words x.0) x.1 in
    omega arith

-- what follows an entry is shorter, so the row's length is as good a bound as any larger
and-then : (kind : ListKind) (ws : List ℕ) (z : Option (Entry × List ℕ)) → entry_of kind ws ≡ z → (h k : List ℕ → Option (List Entry)) → ((r : List ℕ) → length r < length ws → h r ≡ k r)
    → and_then z h ≡ and_then z k
and-then kind ws (some x) q h k s = ap (λ o. add_entry x.0 o) (s x.1 (shorter kind ws x q))
and-then kind ws absent q h k s = refl

entries-bound : (kind : ListKind) (n m : ℕ) (ws : List ℕ) → length ws ≤ n → length ws ≤ m → entries kind n ws ≡ entries kind m ws
unfolding entries
entries-bound kind zero zero ws a b = refl
entries-bound kind zero (suc m) [] a b = refl
entries-bound kind zero (suc m) (w ∷ ws) a b = absurd (omega arith)
entries-bound kind (suc n) zero [] a b = refl
entries-bound kind (suc n) zero (w ∷ ws) a b = absurd (omega arith)
entries-bound kind (suc n) (suc m) [] a b = refl
entries-bound kind (suc n) (suc m) (w ∷ ws) a b =
    and-then kind (w ∷ ws) (entry_of kind (w ∷ ws)) refl (λ r. entries kind n r) (λ r. entries kind m r) (λ r l. entries-bound kind n m r (omega arith) (omega arith))

-- a list is an entry and a list
pub list-step : (kind : ListKind) (w : ℕ) (ws : List ℕ) → list_of kind (w ∷ ws) ≡ and_then (entry_of kind (w ∷ ws)) (λ r. list_of kind r)
unfolding list_of entries
list-step kind w ws =
    and-then kind (w ∷ ws) (entry_of kind (w ∷ ws)) refl (λ r. entries kind (length ws) r) (λ r. list_of kind r)
    (λ r l. entries-bound kind (length ws) (length r) r (omega arith) (omega arith))

pub list-nil : (kind : ListKind) → list_of kind [] ≡ some []
unfolding list_of entries
list-nil kind = refl

-- the list and its row
add-sound : (e : Entry) (o : Option (List Entry)) (es : List Entry) → add_entry e o ≡ some es → (es' : List Entry) × (o ≡ some es') × (e ∷ es' ≡ es)
add-sound e (some es') es q = (es', refl, cc)
add-sound e absent es q = absurd (clash cc)

more-sound : (kind : ListKind) (ws : List ℕ) (x : Entry × List ℕ) (es es' : List Entry) → x.0 ∷ es' ≡ es → (ws ≡ entry_words x.0 ++ x.1) × Good kind x.0 → (x.1 ≡ encode_list es') × GoodAll kind es'
    → (ws ≡ encode_list es) × GoodAll kind es
unfolding encode_list
more-sound kind ws x es es' q h k = rw (← q) (h.0 ∙ ap (λ l. entry_words x.0 ++ l) k.0, (h.1, k.1))

and_sound : (kind : ListKind) (ws : List ℕ) (z : Option (Entry × List ℕ)) → entry_of kind ws ≡ z → (k : List ℕ → Option (List Entry))
    → ((r : List ℕ) (es : List Entry) → k r ≡ some es → (r ≡ encode_list es) × GoodAll kind es) → (es : List Entry) → and_then z k ≡ some es → (ws ≡ encode_list es) × GoodAll kind es
and_sound kind ws (some x) q k ih es e =
    let (es', a, b) = add-sound x.0 (k x.1) es e in
    more-sound kind ws x es es' b (entry-sound kind ws x q) (ih x.1 es' a)
and_sound kind ws absent q k ih es e = absurd (clash cc)

nil-sound : (kind : ListKind) (es : List Entry) → some [] ≡ some es → ([] ≡ encode_list es) × GoodAll kind es
unfolding encode_list
nil-sound kind [] e = (refl, tt)
nil-sound kind (x ∷ es) e = absurd (clash cc)

entries-sound : (kind : ListKind) (n : ℕ) (ws : List ℕ) (es : List Entry) → entries kind n ws ≡ some es → (ws ≡ encode_list es) × GoodAll kind es
unfolding entries
entries-sound kind zero [] es e = nil-sound kind es e
entries-sound kind zero (w ∷ ws) es e = absurd (clash cc)
entries-sound kind (suc n) [] es e = nil-sound kind es e
entries-sound kind (suc n) (w ∷ ws) es e = and_sound kind (w ∷ ws) (entry_of kind (w ∷ ws)) refl (λ r. entries kind n r) (λ r es' q. entries-sound kind n r es' q) es e

pub list-sound : (kind : ListKind) (row : List ℕ) (es : List Entry) → list_of kind row ≡ some es → (row ≡ encode_list es) × GoodAll kind es
unfolding list_of
list-sound kind row es e = entries-sound kind (length row) row es e

pub list-encode : (kind : ListKind) (es : List Entry) → GoodAll kind es → list_of kind (encode_list es) ≡ some es
unfolding encode_list entry_words
list-encode kind [] g = list-nil kind
list-encode kind (entry w p ∷ es) g = list-step kind w _ ∙ rw (entry-encode kind (entry w p) (encode_list es) g.0, list-encode kind es g.1)
