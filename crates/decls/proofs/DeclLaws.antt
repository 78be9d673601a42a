-- Declarations that are kept of a quantifier's, with their annotations: they are well formed and take no more words. Assumes nothing.
use mathlib.Core.Path.{◌≡◌, refl, ap, ◌∙◌}
use mathlib.Core.Bool.{Bool, true, false, ◌||◌}
use mathlib.Core.List.{List, [], ◌∷◌, map}
use mathlib.Core.Option.{Option, none as absent, some}
use Prim.Native.Nat.{ℕ, ◌+◌, ◌≤◌}
use native.Mathlib.Omega.{arith}
use borrow.Author.Tests.{eqb-true, le-leb}
use lib.Dec.{eqb}
use lib.ListN.{length, length-append, length-map}
use Rattle.tree.specs.Form.{Form, node, noted, names_of, any_typed, none, more, pick, between, encode, encode_decls}
use Rattle.tree.specs.Tag.{expr, pred, ask, flags, own, own_of, shape_of, pred_tags}
use Rattle.form.specs.Decode.{read}
use Rattle.form.specs.Lists.{Place, kept, filled}
use Rattle.form.proofs.DecodeLaws.{clash, Ok, ok-noted, OkDecls, ok_end, ok-bare, ok-typed, ok-none, ok-more}
use Rattle.rules.specs.Fill.{Decl, name_of, unlisted, any_noted, kept_decls, around, quantify}
use Rattle.rules.proofs.WalkLaws.{and_left, and_right}
use Rattle.rules.proofs.OkLaws.{ok-deep}
use Rattle.shift.proofs.AroundLaws.{head_of, encode-around, names-unlisted}
use Rattle.replace.specs.Internal.Pieces.{are_names}
use Rattle.replace.proofs.OkLaws.{node-names, quantify-ok}

-- a well-formed list of declarations of a whole row
abbrev pub GoodNote : Option Form → Type 0
GoodNote absent = Unit {0}
GoodNote (some f) = Ok 63 expr f

abbrev pub GoodDecls : List Decl → Type 0
GoodDecls [] = Unit {0}
GoodDecls (x ∷ ds) = (between 0 65535 x.0 ≡ true) × GoodNote x.1 × GoodDecls ds

pub good-decls : (ds : List Decl) → OkDecls 63 (unlisted ds) → GoodDecls ds
good-decls [] w = tt
good-decls ((n, absent) ∷ ds) (ok-bare h w) = (h, tt, good-decls ds w)
good-decls ((n, some f) ∷ ds) (ok-typed h g w) = (h, g, good-decls ds w)

pub decls-good : (ds : List Decl) → GoodDecls ds → OkDecls 63 (unlisted ds)
decls-good [] w = ok_end
decls-good ((n, absent) ∷ ds) w = ok-bare w.0 (decls-good ds w.2)
decls-good ((n, some f) ∷ ds) w = ok-typed w.0 w.1 (decls-good ds w.2)

names-good : (ds : List Decl) → any_noted ds ≡ false → are_names (map name_of ds) ≡ true → GoodDecls ds
names-good [] e h = tt
names-good ((n, absent) ∷ ds) e h =
    (and_left (between 0 65535 n) (are_names (map name_of ds)) h, tt, names-good ds e (and_right (between 0 65535 n) (are_names (map name_of ds)) h))
names-good ((n, some f) ∷ ds) e h = absurd (clash cc)

good-names : (ds : List Decl) → GoodDecls ds → are_names (map name_of ds) ≡ true
good-names [] w = refl
good-names (x ∷ ds) w = rw (w.0, good-names ds w.2)

pub good-kept : (ps : List Place) (ds : List Decl) → GoodDecls ds → GoodDecls (kept_decls ps ds)
good-kept [] ds w = tt
good-kept (kept ∷ ps) [] w = tt
good-kept (filled x ∷ ps) [] w = tt
good-kept (kept ∷ ps) (d ∷ ds) w = (w.0, w.1, good-kept ps ds w.2)
good-kept (filled x ∷ ps) (d ∷ ds) w = good-kept ps ds w.2

pub few-kept : (ps : List Place) (ds : List Decl) → length (kept_decls ps ds) ≤ length ds
few-kept [] ds = omega arith
few-kept (kept ∷ ps) [] = omega arith
few-kept (filled x ∷ ps) [] = omega arith
few-kept (kept ∷ ps) (d ∷ ds) = let h = few-kept ps ds in omega arith
few-kept (filled x ∷ ps) (d ∷ ds) = let h = few-kept ps ds in omega arith

any-unlisted : (ds : List Decl) → any_typed (unlisted ds) ≡ any_noted ds
any-unlisted [] = refl
any-unlisted ((n, absent) ∷ ds) = any-unlisted ds
any-unlisted ((n, some f) ∷ ds) = refl

own-up : (t : ℕ) (a b : Bool) → eqb t 851 ≡ a → eqb t 852 ≡ b → (a || b) ≡ true → own pred (t + 10) ≡ ask 1 32 (λ n. flags n 1 0)
unfolding own own_of shape_of pred_tags
own-up t true b x y z = rw (eqb-true t 851 x)
own-up t false true x y z = rw (eqb-true t 852 y)
own-up t false false x y z = absurd (clash cc)

-- put round a body
module _ (t : ℕ) (which : (eqb t 851 || eqb t 852) ≡ true) (b : Form) where
  noted-ok : (ds : List Decl) → any_noted ds ≡ true → GoodDecls ds → 1 ≤ length ds → length ds ≤ 32 → Ok 63 pred b → Ok 64 pred (noted (t + 10) (length ds ∷ []) (unlisted ds) (more b none))
  unfolding read
  noted-ok ds a w lo hi ok =
      let e : length (names_of (unlisted ds)) ≡ length ds = ap length (names-unlisted ds) ∙ length-map ds name_of in
      ok-noted {s = pred} {t = t + 10} {o = length ds ∷ []} {ds = unlisted ds} {p = 1} {e = 0} (any-unlisted ds ∙ a)
      (λ x. rw (own-up t (eqb t 851) (eqb t 852) refl refl which, le-leb 1 (length ds) lo, le-leb (length ds) 32 hi, e)) (decls-good ds w) (ok-more ok ok-none)

  plain_ok : (x : Decl) (ds : List Decl) → GoodDecls (x ∷ ds) → length (x ∷ ds) ≤ 32 → Ok 63 pred b → Ok 64 pred (node t (length (x ∷ ds) ∷ []) (map name_of (x ∷ ds)) (more b none))
  plain_ok x ds w hi ok =
      let e = length-map ds name_of in
      rw (← e) (quantify-ok t (map name_of (x ∷ ds)) b which (good-names (x ∷ ds) w) (rw e hi) ok)

  pub decls-ok : (ds : List Decl) → GoodDecls ds → length ds ≤ 32 → Ok 63 pred b → Ok 64 pred (quantify t ds b)
  decls-ok [] w hi ok = ok-deep ok 64 (omega arith)
  decls-ok (x ∷ ds) w hi ok = go (any_noted (x ∷ ds)) refl
    where
      go : (z : Bool) → any_noted (x ∷ ds) ≡ z
          → Ok 64 pred (pick z (noted (t + 10) (length (x ∷ ds) ∷ []) (unlisted (x ∷ ds)) (more b none)) (node t (length (x ∷ ds) ∷ []) (map name_of (x ∷ ds)) (more b none)))
      go true e = noted-ok (x ∷ ds) e w (omega arith) hi ok
      go false e = plain_ok x ds w hi ok

  noted-good : (ds : List Decl) → Ok 64 pred (noted (t + 10) (length ds ∷ []) (unlisted ds) (more b none)) → GoodDecls ds
  noted-good ds (ok-noted a r v k) = good-decls ds v

  pub around-good : (ds : List Decl) → Ok 64 pred (around t ds b) → GoodDecls ds
  around-good ds ok = go (any_noted ds) refl ok
    where
      go : (z : Bool) → any_noted ds ≡ z → Ok 64 pred (pick z (noted (t + 10) (length ds ∷ []) (unlisted ds) (more b none)) (node t (length ds ∷ []) (map name_of ds) (more b none))) → GoodDecls ds
      go true e ok = noted-good ds ok
      go false e ok = names-good ds e (node-names {d = 64} t (map name_of ds) (more b none) which (rw (length-map ds name_of) ok))

-- the words of the head
pub decls-long : (ds : List Decl) → length ds ≤ length (encode_decls (unlisted ds))
unfolding encode
decls-long [] = omega arith
decls-long ((n, absent) ∷ ds) = let h = decls-long ds in omega arith
decls-long ((n, some f) ∷ ds) = let h = decls-long ds in let l = length-append (encode f) (encode_decls (unlisted ds)) in omega arith

kept-long : (ps : List Place) (ds : List Decl) → length (encode_decls (unlisted (kept_decls ps ds))) ≤ length (encode_decls (unlisted ds))
unfolding encode
kept-long [] ds = omega arith
kept-long (kept ∷ ps) [] = omega arith
kept-long (filled x ∷ ps) [] = omega arith
kept-long (kept ∷ ps) ((n, absent) ∷ ds) = let h = kept-long ps ds in omega arith
kept-long (filled x ∷ ps) ((n, absent) ∷ ds) = let h = kept-long ps ds in omega arith
kept-long (kept ∷ ps) ((n, some f) ∷ ds) =
    let h = kept-long ps ds in
    let l = length-append (encode f) (encode_decls (unlisted ds)) in
    let m = length-append (encode f) (encode_decls (unlisted (kept_decls ps ds))) in
    omega arith
kept-long (filled x ∷ ps) ((n, some f) ∷ ds) = let h = kept-long ps ds in let l = length-append (encode f) (encode_decls (unlisted ds)) in omega arith

pub any-kept : (ps : List Place) (ds : List Decl) → any_noted (kept_decls ps ds) ≡ true → any_noted ds ≡ true
any-kept [] ds e = absurd (clash cc)
any-kept (kept ∷ ps) [] e = absurd (clash cc)
any-kept (filled x ∷ ps) [] e = absurd (clash cc)
any-kept (kept ∷ ps) ((n, absent) ∷ ds) e = any-kept ps ds e
any-kept (filled x ∷ ps) ((n, absent) ∷ ds) e = any-kept ps ds e
any-kept (kept ∷ ps) ((n, some f) ∷ ds) e = refl
any-kept (filled x ∷ ps) ((n, some f) ∷ ds) e = refl

module _ (t : ℕ) (ps : List Place) (ds : List Decl) where
  pub head-long : length (head_of t (kept_decls ps ds)) ≤ length (head_of t ds)
  head-long = go (any_noted (kept_decls ps ds)) (any_noted ds) refl refl
    where
      go : (a c : Bool) → any_noted (kept_decls ps ds) ≡ a → any_noted ds ≡ c
          → length (pick a ((t + 10) ∷ length (kept_decls ps ds) ∷ encode_decls (unlisted (kept_decls ps ds))) (t ∷ length (kept_decls ps ds) ∷ map name_of (kept_decls ps ds)))
          ≤ length (pick c ((t + 10) ∷ length ds ∷ encode_decls (unlisted ds)) (t ∷ length ds ∷ map name_of ds))
      go true true e f = let h = kept-long ps ds in omega arith
      go true false e f = let h = any-kept ps ds e in absurd (clash cc)
      go false true e f =
          let h = few-kept ps ds in
          let k = decls-long ds in
          let l = length-map (kept_decls ps ds) name_of in
          omega arith
      go false false e f = let h = few-kept ps ds in let l = length-map (kept_decls ps ds) name_of in let m = length-map ds name_of in omega arith

pub decls-words : (t : ℕ) (ds : List Decl) (b : Form) → length (encode (quantify t ds b)) ≤ length (head_of t ds) + length (encode b)
decls-words t [] b = omega arith
decls-words t (d ∷ ds) b = let l = length-append (head_of t (d ∷ ds)) (encode b) in rw (encode-around t 0 (d ∷ ds) b) (omega arith)
