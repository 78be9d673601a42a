-- The names of a quantifier's head, as it is read, and those that are kept; the quantifier within the limits. Assumes nothing.
use mathlib.Core.Path.{◌≡◌, refl}
use mathlib.Core.Bool.{Bool, true, false, ◌&&◌, ◌||◌}
use mathlib.Core.List.{List, [], ◌∷◌, ◌++◌}
use Prim.Native.Nat.{ℕ, suc, ◌≤◌}
use native.Mathlib.Omega.{arith}
use borrow.Author.Tests.{le-leb}
use lib.Dec.{eqb}
use lib.ListN.{length}
use Rattle.tree.specs.Form.{Form, node, Forms, none, more, between}
use Rattle.tree.specs.Tag.{pred}
use Rattle.form.specs.Decode.{Head, head, flagged, bad, add_word, add_name, only, names, read}
use Rattle.form.specs.Lists.{Place, kept, filled}
use Rattle.form.proofs.DecodeLaws.{clash, Ok, ok-node, ok-none, ok-more}
use Rattle.replace.proofs.PlainLaws.{kept_names, quantify_names as quantify}
use Rattle.rules.proofs.WalkLaws.{and_left, and_right}
use Rattle.rules.proofs.OkLaws.{ok-deep}
use Rattle.replace.specs.Internal.Pieces.{are_names}
use Rattle.replace.proofs.QuantLaws.{tag-own, tag-node}

-- names of declarations
name-good : (b c : Bool) (w : ℕ) (h : Head) (o ds : List ℕ) (p e : ℕ) (r : List ℕ) → only b (add_name w h) ≡ head o ds p e r
    → ((o' ds' : List ℕ) (p' e' : ℕ) (r' : List ℕ) → h ≡ head o' ds' p' e' r' → c ≡ true) → (b && c) ≡ true
name-good true c w (head o' ds' p' e' r') o ds p e r q k = k o' ds' p' e' r' refl
name-good true c w (flagged o' n p' e' r') o ds p e r q k = absurd (clash cc)
name-good true c w bad o ds p e r q k = absurd (clash cc)
name-good false c w h o ds p e r q k = absurd (clash cc)

names-good : (ns ws o ds : List ℕ) (p' e' p e : ℕ) (r : List ℕ) → names (length ns) p' e' (ns ++ ws) ≡ head o ds p e r → are_names ns ≡ true
names-good [] ws o ds p' e' p e r q = refl
names-good (n ∷ ns) ws o ds p' e' p e r q =
    name-good (between 0 65535 n) (are_names ns) n (names (length ns) p' e' (ns ++ ws)) o ds p e r q (λ o'' ds'' p'' e'' r'' h. names-good ns ws o'' ds'' p' e' p'' e'' r'' h)

names-made : (ns ws : List ℕ) (p e : ℕ) → are_names ns ≡ true → names (length ns) p e (ns ++ ws) ≡ head [] ns p e ws
names-made [] ws p e h = refl
names-made (n ∷ ns) ws p e h = rw (and_left (between 0 65535 n) (are_names ns) h, names-made ns ws p e (and_right (between 0 65535 n) (are_names ns) h))

-- the names that are kept
pub few-names : (ps : List Place) (ns : List ℕ) → length (kept_names ps ns) ≤ length ns
few-names [] ns = omega arith
few-names (kept ∷ ps) [] = omega arith
few-names (filled x ∷ ps) [] = omega arith
few-names (kept ∷ ps) (n ∷ ns) = let h = few-names ps ns in omega arith
few-names (filled x ∷ ps) (n ∷ ns) = let h = few-names ps ns in omega arith

pub names-kept : (ps : List Place) (ns : List ℕ) → are_names ns ≡ true → are_names (kept_names ps ns) ≡ true
names-kept [] ns h = refl
names-kept (kept ∷ ps) [] h = refl
names-kept (filled x ∷ ps) [] h = refl
names-kept (kept ∷ ps) (n ∷ ns) h = rw (and_left (between 0 65535 n) (are_names ns) h, names-kept ps ns (and_right (between 0 65535 n) (are_names ns) h))
names-kept (filled x ∷ ps) (n ∷ ns) h = names-kept ps ns (and_right (between 0 65535 n) (are_names ns) h)

word_good : (b c : Bool) (w : ℕ) (h : Head) (o ds : List ℕ) (p e : ℕ) (r : List ℕ) → only b (add_word w h) ≡ head o ds p e r
    → ((o' ds' : List ℕ) (p' e' : ℕ) (r' : List ℕ) → h ≡ head o' ds' p' e' r' → c ≡ true) → c ≡ true
word_good true c w (head o' ds' p' e' r') o ds p e r q k = k o' ds' p' e' r' refl
word_good true c w (flagged o' n p' e' r') o ds p e r q k = absurd (clash cc)
word_good true c w bad o ds p e r q k = absurd (clash cc)
word_good false c w h o ds p e r q k = absurd (clash cc)

pub node-names : {d : ℕ} (t : ℕ) (ns : List ℕ) (ks : Forms) → (eqb t 851 || eqb t 852) ≡ true → Ok d pred (node t (length ns ∷ []) ns ks) → are_names ns ≡ true
unfolding read
node-names t ns ks h (ok-node {p = p} {e = e} l r w) =
    word_good (between 1 32 (length ns)) (are_names ns) (length ns) (names (length ns) 1 0 (ns ++ [])) (length ns ∷ []) ns p e [] (rw (tag-own t h) at (r []))
    (λ o' ds' p' e' r' q. names-good ns [] o' ds' 1 0 p' e' r' q)

quant-node : (d t : ℕ) (ns : List ℕ) (b : Form) → (eqb t 851 || eqb t 852) ≡ true → are_names ns ≡ true → 1 ≤ length ns → length ns ≤ 32 → Ok d pred b
    → Ok (suc d) pred (node t (length ns ∷ []) ns (more b none))
unfolding read
quant-node d t ns b h g lo hi ok =
    ok-node {s = pred} {t = t} {o = length ns ∷ []} {ds = ns} {p = 1} {e = 0} (tag-node t h) (λ x. rw (tag-own t h, le-leb 1 (length ns) lo, le-leb (length ns) 32 hi, names-made ns x 1 0 g)) (ok-more ok ok-none)

pub quantify-ok : (t : ℕ) (ns : List ℕ) (b : Form) → (eqb t 851 || eqb t 852) ≡ true → are_names ns ≡ true → length ns ≤ 32 → Ok 63 pred b → Ok 64 pred (quantify t ns b)
quantify-ok t [] b h g hi ok = ok-deep ok 64 (omega arith)
quantify-ok t (n ∷ ns) b h g hi ok = quant-node 63 t (n ∷ ns) b h g (omega arith) hi ok
