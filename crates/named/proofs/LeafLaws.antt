-- What the reader of names finds where a tag stands that is at most that of an index: a name, or no form of a named row. Assumes nothing.
use mathlib.Core.Path.{◌≡◌, refl, sym, ◌∙◌}
use mathlib.Core.Bool.{Bool, true, false}
use mathlib.Core.List.{List, [], ◌∷◌}
use Prim.Native.Nat.{ℕ, zero, suc, ◌+◌, ◌-◌, ◌≤◌, ◌<◌}
use native.Mathlib.Omega.{arith}
use lib.ListN.{length, get_or, drop, set}
use Rattle.tree.specs.Form.{free, leaf, pick, between, encode}
use Rattle.tree.specs.Tag.{expr, pred, own, own_of, shape_of, expr_tags, pred_tags}
use Rattle.form.specs.Decode.{read, only, got, no-form, decode_all, branch, add_word, names, decode, index_free}
use Rattle.form.specs.Internal.Heads.{word_at}
use Rattle.rules.specs.Named.{occurrence, nameless}
use Rattle.shift.specs.Internal.Items.{store}
use Rattle.named.specs.Internal.Scope.{level_in}
use Rattle.named.specs.Internal.Reads.{indexless, read_names, sort_of, Wrote, WroteLeaf}
use Rattle.form.proofs.DecodeLaws.{clash}
use Rattle.form.proofs.HeadLaws.{here, word-is}
use Rattle.named.proofs.LevelLaws.{level-none, level-some}
use Rattle.named.proofs.WroteLaws.{bad-wrote}
use Rattle.std.specs.Prelude.{Some, None}

-- no predicate has such a tag, and of the expressions only names and indices
no-pred : (d t : ℕ) (ws : List ℕ) → t ≤ 2 → read_names (suc d) pred (t ∷ ws) ≡ no-form
unfolding read_names decode read own own_of shape_of pred_tags
no-pred d zero ws h = refl
no-pred d (suc zero) ws h = refl
no-pred d (suc (suc zero)) ws h = refl
no-pred d (suc (suc (suc t))) ws h = absurd (omega arith)

no_index : (d : ℕ) (ws : List ℕ) → read_names (suc d) expr (2 ∷ ws) ≡ no-form
unfolding read_names decode decode_all read own own_of shape_of expr_tags index_free
no_index d [] = refl
no_index d (w ∷ ws) = go (between 0 65535 w)
  where
    go : (b : Bool) → indexless (branch (λ s l. decode d s l) 2 (only b (add_word w (names 0 0 0 ws)))) ≡ no-form
    go true = refl
    go false = refl

no-expr : (d t : ℕ) (ws : List ℕ) → t ≤ 2 → (t ≡ 1 → ⊥) → read_names (suc d) expr (t ∷ ws) ≡ no-form
unfolding read_names decode read own own_of shape_of expr_tags
no-expr d zero ws h ne = refl
no-expr d (suc zero) ws h ne = absurd (ne refl)
no-expr d (suc (suc zero)) ws h ne = no_index d ws
no-expr d (suc (suc (suc t))) ws h ne = absurd (omega arith)

name-word : (d : ℕ) (ws : List ℕ) (m : ℕ) → word_at 0 65535 ws ≡ Some m → (x : List ℕ) × (read_names (suc d) expr (1 ∷ ws) ≡ got (leaf (free m)) x)
unfolding read_names decode decode_all read own own_of shape_of expr_tags index_free
name-word d ws m e = go (word-is 0 65535 ws m e).0 (word-is 0 65535 ws m e).1 (word-is 0 65535 ws m e).2
  where
    go : (x : List ℕ) → ws ≡ m ∷ x → between 0 65535 m ≡ true → (x : List ℕ) × (read_names (suc d) expr (1 ∷ ws) ≡ got (leaf (free m)) x)
    go x q b = (x, rw (q, b))

name-none : (d : ℕ) (ws : List ℕ) → word_at 0 65535 ws ≡ None → read_names (suc d) expr (1 ∷ ws) ≡ no-form
unfolding read_names decode decode_all read own own_of shape_of expr_tags index_free word_at
name-none d [] e = refl
name-none d (w ∷ ws) e = go (between 0 65535 w) e
  where
    go : (b : Bool) → pick b (Some w) None ≡ None → indexless (branch (λ s l. decode d s l) 1 (only b (add_word w (names 0 0 0 ws)))) ≡ no-form
    go true e = absurd (clash cc)
    go false e = refl

module _ (row : List ℕ) (at : ℕ) (S : List ℕ) (low : at < length row) (a b : List ℕ) where
  pub leaf-pred : (c : Bool) → c ≡ false → get_or row at 0 ≤ 2 → WroteLeaf at S (sort_of c) (drop at row) a b None
  leaf-pred c e h = λ d. bad-wrote at S _ a b (rw (e, here row at low) (no-pred d (get_or row at 0) (drop (at + 1) row) h))

  pub leaf-index : (c : Bool) → c ≡ true → get_or row at 0 ≤ 2 → (get_or row at 0 ≡ 1 → ⊥) → WroteLeaf at S (sort_of c) (drop at row) a b None
  leaf-index c e h ne = λ d. bad-wrote at S _ a b (rw (e, here row at low) (no-expr d (get_or row at 0) (drop (at + 1) row) h ne))

  pub leaf-none : (c : Bool) → c ≡ true → get_or row at 0 ≡ 1 → word_at 0 65535 (drop (at + 1) row) ≡ None → WroteLeaf at S (sort_of c) (drop at row) a b None
  leaf-none c e t w = λ d. bad-wrote at S _ a b (rw (e, here row at low, t) (name-none d (drop (at + 1) row) w))

  pub leaf-name : (c : Bool) (m : ℕ) → c ≡ true → get_or row at 0 ≡ 1 → word_at 0 65535 (drop (at + 1) row) ≡ Some m → b ≡ store a at (encode (leaf (occurrence S m)))
      → WroteLeaf at S (sort_of c) (drop at row) a b (Some (at + 2))
  unfolding Wrote nameless encode
  leaf-name c m e t w k = λ d. let (x, q) = name-word d (drop (at + 1) row) m w in rw (e, here row at low, t, q) (refl, k)

-- what is stored for an occurrence
pub put-free : (S : List ℕ) (m l : ℕ) (a : List ℕ) (at : ℕ) → l ≡ level_in S m → l ≡ 0 → set (set a at 1) (at + 1) m ≡ store a at (encode (leaf (occurrence S m)))
unfolding encode store
put-free S m l a at e z = rw (level-none S m (sym e ∙ z)) refl

pub put-bound : (S : List ℕ) (m l u : ℕ) (a : List ℕ) (at : ℕ) → length S ≡ u → l ≡ level_in S m → (l ≡ 0 → ⊥) → (set (set a at 2) (at + 1) (u - l) ≡ store a at (encode (leaf (occurrence S m)))) × (l ≤ u)
unfolding encode store
put-bound S m zero u a at h e ne = absurd (ne refl)
put-bound S m (suc l) u a at h e ne = let (q, k) = level-some S m l (sym e) in (rw (q, h) refl, omega arith)
