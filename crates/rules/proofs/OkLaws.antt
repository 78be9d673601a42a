-- Well-formed trees: at a greater depth, and after a walk that puts small numbers. Assumes nothing.
use mathlib.Core.Path.{◌≡◌}
use mathlib.Core.Bool.{Bool, true}
use mathlib.Core.List.{List}
use Prim.Native.Nat.{ℕ, zero, suc, ◌+◌, ◌≤◌}
use native.Mathlib.Omega.{arith}
use lib.ListN.{length}
use Rattle.tree.specs.Form.{Leaf, free, bound, Form, leaf, Decls, names_of, Forms, between}
use Rattle.tree.specs.Tag.{Sort, expr}
use Rattle.form.proofs.DecodeLaws.{Ok, ok-free, ok-bound, ok-node, ok-noted, OkDecls, ok_end, ok-bare, ok-typed, OkAll, ok-none, ok-more}
use Rattle.rules.specs.Walk.{Binding, inside, outside, binding, Outer, named, dangling, walk_index, walk, walk_decls, walk_all, collect_index, collect, each}
use Rattle.rules.proofs.WalkLaws.{each_all, each_decls, walk-names, walk-typed, and_left, and_right}
use Rattle.rules.proofs.LimitLaws.{fine_leaf}

-- a form within one depth is within a greater one
mutual
  pub ok-deep : {d : ℕ} {s : Sort} {f : Form} → Ok d s f → (e : ℕ) → d ≤ e → Ok e s f
  ok-deep (ok-free h) zero l = absurd (omega arith)
  ok-deep (ok-free h) (suc e) l = ok-free h
  ok-deep (ok-bound h) zero l = absurd (omega arith)
  ok-deep (ok-bound h) (suc e) l = ok-bound h
  ok-deep (ok-node t h k) zero l = absurd (omega arith)
  ok-deep (ok-node t h k) (suc e) l = ok-node t h (ok-deep_all k e (omega arith))
  ok-deep (ok-noted t h w k) zero l = absurd (omega arith)
  ok-deep (ok-noted t h w k) (suc e) l = ok-noted t h (ok-deep_decls w e (omega arith)) (ok-deep_all k e (omega arith))

  ok-deep_decls : {d : ℕ} {ds : Decls} → OkDecls d ds → (e : ℕ) → d ≤ e → OkDecls e ds
  ok-deep_decls ok_end e l = ok_end
  ok-deep_decls (ok-bare h w) e l = ok-bare h (ok-deep_decls w e l)
  ok-deep_decls (ok-typed h g w) e l = ok-typed h (ok-deep g e l) (ok-deep_decls w e l)

  ok-deep_all : {d : ℕ} {ss : List Sort} {fs : Forms} → OkAll d ss fs → (e : ℕ) → d ≤ e → OkAll e ss fs
  ok-deep_all ok-none e l = ok-none
  ok-deep_all (ok-more h k) e l = ok-more (ok-deep h e l) (ok-deep_all k e l)

pub ok-leaf : (d : ℕ) (y : Leaf) → fine_leaf y ≡ true → Ok (suc d) expr (leaf y)
ok-leaf d (free n) h = ok-free h
ok-leaf d (bound n) h = ok-bound h

-- a walk that puts a name or an index for each keeps a tree well-formed if the numbers are small
module _ (act : ℕ → Outer → Form) (a : ℕ → Outer → Leaf) (e : (k : ℕ) (x : Outer) → act k x ≡ leaf (a k x)) where
  abbrev fine : ℕ → Outer → Bool
  fine k x = fine_leaf (a k x)

  ok-index : (d k i : ℕ) (z : Binding) → between 0 65535 i ≡ true → collect_index true fine k z ≡ true → Ok (suc d) expr (walk_index act k i z)
  ok-index d k i inside h g = ok-bound h
  ok-index d k i (outside j) h g = rw (e k (dangling j)) (ok-leaf d (a k (dangling j)) g)

  mutual
    unfolding walk collect

    pub ok-walk : {d : ℕ} {s : Sort} {f : Form} → Ok d s f → (k : ℕ) → each fine k f ≡ true → Ok d s (walk act k f)
    ok-walk (ok-free {d = d} {n = n} h) k g = rw (e k (named n)) (ok-leaf d (a k (named n)) g)
    ok-walk (ok-bound {d = d} {n = n} h) k g = ok-index d k n (binding k n) h g
    ok-walk (ok-node {ds = ds} l h w) k g = ok-node l h (ok-walk_all w (length ds + k) g)
    ok-walk (ok-noted {s = s} {t = u} {o = o} {ds = ds} {p = p} {e = m} {ks = ks} t h v w) k g =
        ok-noted {s = s} {t = u} {o = o} {ds = walk_decls act k ds} {p = p} {e = m} (rw (walk-typed act k ds) t) (rw (walk-names act k ds) h) (ok-walk_decls v k (and_left (each_decls fine k ds) (each_all fine (length (names_of ds) + k) ks) g))
        (ok-walk_all w (length (names_of ds) + k) (and_right (each_decls fine k ds) (each_all fine (length (names_of ds) + k) ks) g))

    ok-walk_decls : {d : ℕ} {ds : Decls} → OkDecls d ds → (k : ℕ) → each_decls fine k ds ≡ true → OkDecls d (walk_decls act k ds)
    ok-walk_decls ok_end k g = ok_end
    ok-walk_decls (ok-bare h w) k g = ok-bare h (ok-walk_decls w k g)
    ok-walk_decls (ok-typed {f = f} {ds = ds} h v w) k g = ok-typed h (ok-walk v k (and_left (each fine k f) (each_decls fine k ds) g)) (ok-walk_decls w k (and_right (each fine k f) (each_decls fine k ds) g))

    ok-walk_all : {d : ℕ} {ss : List Sort} {fs : Forms} → OkAll d ss fs → (k : ℕ) → each_all fine k fs ≡ true → OkAll d ss (walk_all act k fs)
    ok-walk_all ok-none k g = ok-none
    ok-walk_all (ok-more {f = f} {fs = fs} h w) k g = ok-more (ok-walk h k (and_left (each fine k f) (each_all fine k fs) g)) (ok-walk_all w k (and_right (each fine k f) (each_all fine k fs) g))
