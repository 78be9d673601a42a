-- What stands between a tag and its children, by positions of the row: a word within its limits, own words, declared names; and whether a
-- name or an index begins there.
use Rattle.std.specs.Prelude.{Bool, false, ◌&&◌, List, [], ◌∷◌, ℕ, ◌+◌, leb, length, Option, Some, None}
use Rattle.tree.specs.Form.{pick, between}
use Rattle.form.specs.Decode.{Head, head, flagged, bad, is_leaf}
use Rattle.form.specs.declared.head.Head as code
use Rattle.form.specs.declared.head.Head.TheVariants.{Kids, Noted}

unfoldable pub word_at : ℕ → ℕ → List ℕ → Option ℕ
word_at lo hi [] = None
word_at lo hi (w ∷ ws) = pick (between lo hi w) (Some w) None

unfoldable pub head_at : ℕ → Head → Option code.Head
head_at at (head o ds p e r) = Some (Kids (at + (length o + length ds)) p e (length ds))
head_at at (flagged o n p e r) = Some (Noted (at + length o) p e n)
head_at at bad = None

unfoldable pub names_at : ℕ → Head → Option ℕ
names_at at (head o ds p e r) = Some (at + length ds)
names_at at (flagged o n p e r) = None
names_at at bad = None

-- whether the words begin with a name or an index, within the depth
unfoldable pub starts_leaf : ℕ → List ℕ → Bool
starts_leaf d [] = false
starts_leaf d (t ∷ []) = false
starts_leaf d (t ∷ w ∷ ws) = leb 1 d && (is_leaf t && leb w 65535)
