-- A walk that puts a name or an index for each outer identifier: its result is within the limits exactly if its numbers are. Assumes
-- nothing.
use mathlib.Core.Path.{◌≡◌, refl, ap, ◌∙◌}
use mathlib.Core.Bool.{Bool, true, false, ◌&&◌}
use mathlib.Core.List.{List, [], ◌∷◌, ◌++◌, append_assoc, append-nil}
use Prim.Native.Nat.{ℕ, suc, ◌+◌, ◌*◌, ◌≤◌}
use native.Mathlib.Omega.{arith}
use borrow.Author.Tests.{le-leb}
use lib.Dec.{leb}
use lib.ListN.{length, length-append}
use Rattle.tree.specs.Form.{Leaf, free, bound, Form, leaf, node, noted, Decls, undeclared, bare, typed, names_of, any_typed, Forms, none, more, between, encode, encode_decls, encode_all}
use Rattle.tree.specs.Tag.{Sort, expr, sorts}
use Rattle.form.specs.Decode.{head, only, Got, got, no-form, Gots, gots, no-forms, is_leaf, close, chain, branch, decode, decode_all, GotDecls, declared, no-decls, add_bare, note_of, add_decl, decl_at, decls, with_decls, whole, row_form}
use Rattle.form.specs.Answer.{is_one}
use Rattle.form.proofs.HeadLaws.{few-names, few-decls}
use Rattle.form.proofs.DecodeLaws.{Ok, ok-free, ok-bound, ok-node, ok-noted, OkDecls, ok_end, ok-bare, ok-typed, OkAll, ok-none, ok-more, read-free, read-bound}
use Rattle.rules.specs.Walk.{Binding, inside, outside, binding, Outer, named, dangling, walk_index, walk, walk_decls, walk_all, collect_index, collect, each}
use Rattle.rules.proofs.WalkLaws.{each_all, each_decls, walk-typed, binding-back}

-- the numbers of a well-formed tree are small
abbrev pub small : ℕ → Outer → Bool
small k (named m) = between 0 65535 m
small k (dangling j) = between 0 65535 (k + j)

small-index : (k i : ℕ) (z : Binding) → binding k i ≡ z → between 0 65535 i ≡ true → collect_index true small k z ≡ true
small-index k i inside q h = refl
small-index k i (outside j) q h = rw (binding-back k i j q) h

mutual
  unfolding collect

  pub ok-small : {d : ℕ} {s : Sort} {f : Form} → Ok d s f → (k : ℕ) → each small k f ≡ true
  ok-small (ok-free e) k = e
  ok-small (ok-bound {n = n} e) k = small-index k n (binding k n) refl e
  ok-small (ok-node {ds = ds} l h w) k = ok-small_all w (length ds + k)
  ok-small (ok-noted {ds = ds} t h v w) k = rw (ok-small_decls v k, ok-small_all w (length (names_of ds) + k))

  ok-small_decls : {d : ℕ} {ds : Decls} → OkDecls d ds → (k : ℕ) → each_decls small k ds ≡ true
  ok-small_decls ok_end k = refl
  ok-small_decls (ok-bare h w) k = ok-small_decls w k
  ok-small_decls (ok-typed h g w) k = rw (ok-small g k, ok-small_decls w k)

  ok-small_all : {d : ℕ} {ss : List Sort} {fs : Forms} → OkAll d ss fs → (k : ℕ) → each_all small k fs ≡ true
  ok-small_all ok-none k = refl
  ok-small_all (ok-more h w) k = rw (ok-small h k, ok-small_all w k)

-- and at most 32 declarations are open a level
abbrev pub tight : ℕ → ℕ → Outer → Bool
tight n k x = small k x && leb k n

tight-index : (n k i : ℕ) (z : Binding) → binding k i ≡ z → between 0 65535 i ≡ true → k ≤ n → collect_index true (tight n) k z ≡ true
tight-index n k i inside q e h = refl
tight-index n k i (outside j) q e h = rw (binding-back k i j q, e, le-leb k n h)

mutual
  unfolding collect

  pub ok-tight : {d : ℕ} {s : Sort} {f : Form} → Ok d s f → (n k : ℕ) → k + 32 * d ≤ n → each (tight n) k f ≡ true
  ok-tight (ok-free e) n k h = rw (e, le-leb k n (omega arith))
  ok-tight (ok-bound {n = i} e) n k h = tight-index n k i (binding k i) refl e (omega arith)
  ok-tight (ok-node {d = d} {s = s} {t = t} {o = o} {ds = ds} {p = p} {e = e} l r w) n k h =
      let few = few-names s t (o ++ (ds ++ [])) o ds p e [] (r []) in
      ok-tight_all w n (length ds + k) (omega arith)
  ok-tight (ok-noted {d = d} {s = s} {t = t} {o = o} {ds = ds} {p = p} {e = e} a r v w) n k h =
      let few = few-decls s t (o ++ []) o (length (names_of ds)) p e [] (r []) in
      rw (ok-tight_decls v n k (omega arith), ok-tight_all w n (length (names_of ds) + k) (omega arith))

  ok-tight_decls : {d : ℕ} {ds : Decls} → OkDecls d ds → (n k : ℕ) → k + 32 * d ≤ n → each_decls (tight n) k ds ≡ true
  ok-tight_decls ok_end n k h = refl
  ok-tight_decls (ok-bare e w) n k h = ok-tight_decls w n k h
  ok-tight_decls (ok-typed e g w) n k h = rw (ok-tight g n k h, ok-tight_decls w n k h)

  ok-tight_all : {d : ℕ} {ss : List Sort} {fs : Forms} → OkAll d ss fs → (n k : ℕ) → k + 32 * d ≤ n → each_all (tight n) k fs ≡ true
  ok-tight_all ok-none n k h = refl
  ok-tight_all (ok-more g w) n k h = rw (ok-tight g n k h, ok-tight_all w n k h)

-- a row is read back, or not
abbrev got_if : Bool → Form → List ℕ → Got
got_if true f r = got f r
got_if false f r = no-form

abbrev gots_if : Bool → Forms → List ℕ → Gots
gots_if true f r = gots f r
gots_if false f r = no-forms

abbrev decls_if : Bool → Decls → List ℕ → GotDecls
decls_if true ds r = declared ds r
decls_if false ds r = no-decls

abbrev pub fine_leaf : Leaf → Bool
fine_leaf (free n) = between 0 65535 n
fine_leaf (bound n) = between 0 65535 n

free-if : (d n : ℕ) (r : List ℕ) (b : Bool) → branch (λ s l. decode d s l) 1 (only b (head (n ∷ []) [] 0 0 r)) ≡ got_if b (leaf (free n)) r
unfolding decode_all
free-if d n r true = refl
free-if d n r false = refl

bound-if : (d n : ℕ) (r : List ℕ) (b : Bool) → branch (λ s l. decode d s l) 2 (only b (head (n ∷ []) [] 0 0 r)) ≡ got_if b (leaf (bound n)) r
unfolding decode_all
bound-if d n r true = refl
bound-if d n r false = refl

leaf-if : (d : ℕ) (y : Leaf) (r : List ℕ) → decode (suc d) expr (encode (leaf y) ++ r) ≡ got_if (fine_leaf y) (leaf y) r
unfolding decode encode
leaf-if d (free n) r = rw (read-free n r) (free-if d n r (between 0 65535 n))
leaf-if d (bound n) r = rw (read-bound n r) (bound-if d n r (between 0 65535 n))

close-if : (t : ℕ) (o ds : List ℕ) (b : Bool) (ks : Forms) (r : List ℕ) → is_leaf t ≡ false → close t o ds (gots_if b ks r) ≡ got_if b (node t o ds ks) r
close-if t o ds true ks r l = rw l
close-if t o ds false ks r l = refl

chain-if : (b c : Bool) (f : Form) (fs : Forms) (x r : List ℕ) (k : List ℕ → Gots) → k x ≡ gots_if c fs r → chain (got_if b f x) k ≡ gots_if (b && c) (more f fs) r
chain-if true true f fs x r k e = rw e
chain-if true false f fs x r k e = rw e
chain-if false c f fs x r k e = refl

bare-if : (c : Bool) (n : ℕ) (ds : Decls) (r : List ℕ) (g : GotDecls) → g ≡ decls_if c ds r → add_bare n g ≡ decls_if c (bare n ds) r
bare-if true n ds r g e = rw e
bare-if false n ds r g e = rw e

typed-if : (b c : Bool) (n : ℕ) (f : Form) (ds : Decls) (x r : List ℕ) (k : List ℕ → GotDecls) → k x ≡ decls_if c ds r → add_decl (note_of n (got_if b f x)) k ≡ decls_if (b && c) (typed n f ds) r
typed-if true true n f ds x r k e = rw e
typed-if true false n f ds x r k e = rw e
typed-if false c n f ds x r k e = refl

noted-if : (d t : ℕ) (o : List ℕ) (p e : ℕ) (c b : Bool) (ds : Decls) (ks : Forms) (x r : List ℕ) → any_typed ds ≡ true → decode_all (λ s l. decode d s l) (sorts p e) x ≡ gots_if b ks r
    → with_decls (λ s l. decode d s l) t o p e (decls_if c ds x) ≡ got_if (c && b) (noted t o ds ks) r
noted-if d t o p e true true ds ks x r a q = rw (q, a)
noted-if d t o p e true false ds ks x r a q = rw q
noted-if d t o p e false b ds ks x r a q = refl

pub two-words : (y : Leaf) → length (encode (leaf y)) ≡ 2
unfolding encode
two-words (free n) = refl
two-words (bound n) = refl

-- a walk that puts a name or an index for each: the result's row is read back exactly if the numbers are small
module _ (act : ℕ → Outer → Form) (a : ℕ → Outer → Leaf) (e : (k : ℕ) (x : Outer) → act k x ≡ leaf (a k x)) where
  abbrev pub fine : ℕ → Outer → Bool
  fine k x = fine_leaf (a k x)

  limit-index : (d k i : ℕ) (z : Binding) (r : List ℕ) → between 0 65535 i ≡ true → decode (suc d) expr (encode (walk_index act k i z) ++ r) ≡ got_if (collect_index true fine k z) (walk_index act k i z) r
  limit-index d k i inside r h = leaf-if d (bound i) r ∙ rw h
  limit-index d k i (outside j) r h = rw (e k (dangling j)) (leaf-if d (a k (dangling j)) r)

  mutual
    unfolding walk collect decode decode_all decls decl_at encode

    limit : {d : ℕ} {s : Sort} {f : Form} → Ok d s f → (k : ℕ) (r : List ℕ) → decode d s (encode (walk act k f) ++ r) ≡ got_if (each fine k f) (walk act k f) r
    limit (ok-free {d = d} {n = n} h) k r = rw (e k (named n)) (leaf-if d (a k (named n)) r)
    limit (ok-bound {d = d} {n = n} h) k r = limit-index d k n (binding k n) r h
    limit (ok-node {t = t} {o = o} {ds = ds} {ks = ks} l h w) k r =
        rw (append_assoc o, append_assoc ds, h (encode_all (walk_all act (length ds + k) ks) ++ r), limit_all w (length ds + k) r)
        (close-if t o ds (each_all fine (length ds + k) ks) (walk_all act (length ds + k) ks) r l)
    limit (ok-noted {d = d} {t = t} {o = o} {ds = ds} {p = p} {e = m} {ks = ks} l h v w) k r =
        rw (append_assoc o, append_assoc (encode_decls (walk_decls act k ds)), h (encode_decls (walk_decls act k ds) ++ (encode_all (walk_all act (length (names_of ds) + k) ks) ++ r)), limit_decls v k (encode_all (walk_all act (length (names_of ds) + k) ks) ++ r))
        (noted-if d t o p m (each_decls fine k ds) (each_all fine (length (names_of ds) + k) ks) (walk_decls act k ds) (walk_all act (length (names_of ds) + k) ks) (encode_all (walk_all act (length (names_of ds) + k) ks) ++ r) r (walk-typed act k ds ∙ l) (limit_all w (length (names_of ds) + k) r))

    limit_decls : {d : ℕ} {ds : Decls} → OkDecls d ds → (k : ℕ) (r : List ℕ)
        → decls (λ s l. decode d s l) (length (names_of ds)) (encode_decls (walk_decls act k ds) ++ r) ≡ decls_if (each_decls fine k ds) (walk_decls act k ds) r
    limit_decls ok_end k r = refl
    limit_decls (ok-bare {n = n} {ds = ds} h w) k r = rw h (bare-if (each_decls fine k ds) n (walk_decls act k ds) r _ (limit_decls w k r))
    limit_decls (ok-typed {d = d} {n = n} {f = f} {ds = ds} h g w) k r =
        rw (h, append_assoc (encode (walk act k f)), limit g k (encode_decls (walk_decls act k ds) ++ r))
        (typed-if (each fine k f) (each_decls fine k ds) n (walk act k f) (walk_decls act k ds) (encode_decls (walk_decls act k ds) ++ r) r (λ x. decls (λ s l. decode d s l) (length (names_of ds)) x) (limit_decls w k r))

    limit_all : {d : ℕ} {ss : List Sort} {fs : Forms} → OkAll d ss fs → (k : ℕ) (r : List ℕ)
        → decode_all (λ s l. decode d s l) ss (encode_all (walk_all act k fs) ++ r) ≡ gots_if (each_all fine k fs) (walk_all act k fs) r
    limit_all ok-none k r = refl
    limit_all (ok-more {d = d} {ss = ss} {f = f} {fs = fs} h w) k r =
        rw (append_assoc, limit h k (encode_all (walk_all act k fs) ++ r))
        (chain-if (each fine k f) (each_all fine k fs) (walk act k f) (walk_all act k fs) (encode_all (walk_all act k fs) ++ r) r (λ x. decode_all (λ s l. decode d s l) ss x) (limit_all w k r))

  long-index : (k i : ℕ) (z : Binding) → length (encode (walk_index act k i z)) ≡ 2
  unfolding encode
  long-index k i inside = refl
  long-index k i (outside j) = rw (e k (dangling j)) (two-words (a k (dangling j)))

  mutual
    unfolding walk encode

    pub walk-length : (k : ℕ) (f : Form) → length (encode (walk act k f)) ≡ length (encode f)
    walk-length k (leaf (free n)) = rw (e k (named n)) (two-words (a k (named n)))
    walk-length k (leaf (bound i)) = long-index k i (binding k i)
    walk-length k (node t o ds ks) = ap suc (rw (length-append, length-append, length-append o, length-append ds) (let h = walk-length_all (length ds + k) ks in omega arith))
    walk-length k (noted t o ds ks) =
        ap suc (rw (length-append, length-append, length-append o, length-append (encode_decls ds)) (let h = walk-length_all (length (names_of ds) + k) ks in let q = walk-length_decls k ds in omega arith))

    walk-length_decls : (k : ℕ) (ds : Decls) → length (encode_decls (walk_decls act k ds)) ≡ length (encode_decls ds)
    walk-length_decls k undeclared = refl
    walk-length_decls k (bare n ds) = ap (λ z. suc (suc z)) (walk-length_decls k ds)
    walk-length_decls k (typed n f ds) = ap (λ z. suc (suc z)) (rw (length-append, length-append (encode f), walk-length k f, walk-length_decls k ds))

    walk-length_all : (k : ℕ) (fs : Forms) → length (encode_all (walk_all act k fs)) ≡ length (encode_all fs)
    walk-length_all k none = refl
    walk-length_all k (more f fs) = rw (length-append, length-append (encode f), walk-length k f, walk-length_all k fs)

  one-if : (b : Bool) (g : Form) → is_one (whole (got_if b g [])) ≡ b
  one-if true g = refl
  one-if false g = refl

  pub inside-limits : (s : Sort) (f : Form) → Ok 64 s f → length (encode f) ≤ 8192 → is_one (row_form s (encode (walk act 0 f))) ≡ each fine 0 f
  unfolding row_form
  inside-limits s f o h =
      let l = walk-length 0 f in
      rw (le-leb (length (encode (walk act 0 f))) 8192 (omega arith), rw append-nil at (limit o 0 [])) (one-if (each fine 0 f) (walk act 0 f))
