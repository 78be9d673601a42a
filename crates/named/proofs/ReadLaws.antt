-- What the reader of names finds: what is read of the row, if no index stands in it. Assumes nothing.
use mathlib.Core.Path.{◌≡◌, refl, ap, sym, ◌∙◌}
use mathlib.Core.Bool.{Bool, true, false, ◌&&◌}
use mathlib.Core.List.{List, [], ◌∷◌}
use Prim.Native.Nat.{ℕ, zero, suc}
use Rattle.tree.specs.Form.{Form, node, noted, Decls, any_typed, Forms, pick, between}
use Rattle.tree.specs.Tag.{Sort, expr, sorts}
use Rattle.form.specs.Decode.{Head, head, flagged, bad, Got, got, no-form, Gots, gots, no-forms, GotDecl, got_bare, got_typed, no-decl, GotDecls, declared, no-decls, add_form, chain, decode_all, note_of, by_flag, decl_at, add_bare, add_typed, add_decl, decls, decode, is_leaf, close, close_noted, with_decls, branch, index_free, index_free_decls, index_free_all}
use Rattle.named.specs.Internal.Reads.{indexless, read_names}

-- several forms, and declarations with flags
abbrev pub indexless_all : Gots → Gots
indexless_all (gots fs x) = pick (index_free_all fs) (gots fs x) no-forms
indexless_all no-forms = no-forms

abbrev pub indexless_decl : GotDecl → GotDecl
indexless_decl (got_bare w x) = got_bare w x
indexless_decl (got_typed w f x) = pick (index_free f) (got_typed w f x) no-decl
indexless_decl no-decl = no-decl

abbrev pub indexless_decls : GotDecls → GotDecls
indexless_decls (declared ds x) = pick (index_free_decls ds) (declared ds x) no-decls
indexless_decls no-decls = no-decls

add-indexless : (f : Form) (g : Gots) → pick (index_free f) (add_form f (indexless_all g)) no-forms ≡ indexless_all (add_form f g)
unfolding index_free
add-indexless f (gots fs x) = go (index_free f) (index_free_all fs)
  where
    go : (a b : Bool) → pick a (add_form f (pick b (gots fs x) no-forms)) no-forms ≡ pick (a && b) (add_form f (gots fs x)) no-forms
    go true true = refl
    go true false = refl
    go false b = refl
add-indexless f no-forms = go (index_free f)
  where
    go : (a : Bool) → pick a no-forms no-forms ≡ no-forms
    go true = refl
    go false = refl

chain-indexless : (z : Got) (k k' : List ℕ → Gots) → ((x : List ℕ) → k x ≡ indexless_all (k' x)) → chain (indexless z) k ≡ indexless_all (chain z k')
chain-indexless no-form k k' e = refl
chain-indexless (got f x) k k' e = through (index_free f) ∙ add-indexless f (k' x)
  where
    through : (a : Bool) → chain (pick a (got f x) no-form) k ≡ pick a (add_form f (indexless_all (k' x))) no-forms
    through true = ap (λ g. add_form f g) (e x)
    through false = refl

module _ (d : ℕ) where
  abbrev R : Sort → List ℕ → Got
  R s l = decode d s l

  abbrev N : Sort → List ℕ → Got
  N s l = read_names d s l

  pub all-indexless : (ss : List Sort) (ws : List ℕ) → decode_all N ss ws ≡ indexless_all (decode_all R ss ws)
  unfolding decode_all read_names index_free
  all-indexless [] ws = refl
  all-indexless (s ∷ ss) ws = chain-indexless (decode d s ws) (λ x. decode_all N ss x) (λ x. decode_all R ss x) (λ x. all-indexless ss x)

  note-indexless : (w : ℕ) (z : Got) → note_of w (indexless z) ≡ indexless_decl (note_of w z)
  note-indexless w no-form = refl
  note-indexless w (got f x) = go (index_free f)
    where
      go : (a : Bool) → note_of w (pick a (got f x) no-form) ≡ pick a (got_typed w f x) no-decl
      go true = refl
      go false = refl

  pub flag-indexless : (w x : ℕ) (ws : List ℕ) → by_flag N w x ws ≡ indexless_decl (by_flag R w x ws)
  unfolding read_names
  flag-indexless w zero ws = refl
  flag-indexless w (suc zero) ws = note-indexless w (decode d expr ws)
  flag-indexless w (suc (suc x)) ws = refl

  pub decl-indexless : (ws : List ℕ) → decl_at N ws ≡ indexless_decl (decl_at R ws)
  unfolding decl_at
  decl-indexless [] = refl
  decl-indexless (w ∷ []) = refl
  decl-indexless (w ∷ x ∷ ws) = go (between 0 65535 w)
    where
      go : (b : Bool) → pick b (by_flag N w x ws) no-decl ≡ indexless_decl (pick b (by_flag R w x ws) no-decl)
      go true = flag-indexless w x ws
      go false = refl

  bare-indexless : (w : ℕ) (g : GotDecls) → add_bare w (indexless_decls g) ≡ indexless_decls (add_bare w g)
  unfolding index_free
  bare-indexless w no-decls = refl
  bare-indexless w (declared ds x) = go (index_free_decls ds)
    where
      go : (b : Bool) → add_bare w (pick b (declared ds x) no-decls) ≡ pick b (add_bare w (declared ds x)) no-decls
      go true = refl
      go false = refl

  typed-indexless : (w : ℕ) (f : Form) (g : GotDecls) → pick (index_free f) (add_typed w f (indexless_decls g)) no-decls ≡ indexless_decls (add_typed w f g)
  unfolding index_free
  typed-indexless w f no-decls = go (index_free f)
    where
      go : (b : Bool) → pick b no-decls no-decls ≡ no-decls
      go true = refl
      go false = refl
  typed-indexless w f (declared ds x) = go (index_free f) (index_free_decls ds)
    where
      go : (a b : Bool) → pick a (add_typed w f (pick b (declared ds x) no-decls)) no-decls ≡ pick (a && b) (add_typed w f (declared ds x)) no-decls
      go true true = refl
      go true false = refl
      go false b = refl

  next-indexless : (z : GotDecl) (k k' : List ℕ → GotDecls) → ((x : List ℕ) → k x ≡ indexless_decls (k' x)) → add_decl (indexless_decl z) k ≡ indexless_decls (add_decl z k')
  next-indexless no-decl k k' e = refl
  next-indexless (got_bare w x) k k' e = ap (λ g. add_bare w g) (e x) ∙ bare-indexless w (k' x)
  next-indexless (got_typed w f x) k k' e = through (index_free f) ∙ typed-indexless w f (k' x)
    where
      through : (a : Bool) → add_decl (pick a (got_typed w f x) no-decl) k ≡ pick a (add_typed w f (indexless_decls (k' x))) no-decls
      through true = ap (λ g. add_typed w f g) (e x)
      through false = refl

  pub decls-indexless : (n : ℕ) (ws : List ℕ) → decls N n ws ≡ indexless_decls (decls R n ws)
  unfolding decls index_free
  decls-indexless zero ws = refl
  decls-indexless (suc n) ws = rw (decl-indexless ws) (next-indexless (decl_at R ws) (λ x. decls N n x) (λ x. decls R n x) (λ x. decls-indexless n x))

  -- a node whose tag is that of no leaf
  module _ (t : ℕ) (inner : is_leaf t ≡ false) where
    inner-node : (o ds : List ℕ) (ks : Forms) (x : List ℕ) → close t o ds (gots ks x) ≡ got (node t o ds ks) x
    inner-node o ds ks x = rw inner refl

    close-indexless : (o ds : List ℕ) (g : Gots) → close t o ds (indexless_all g) ≡ indexless (close t o ds g)
    unfolding index_free
    close-indexless o ds no-forms = refl
    close-indexless o ds (gots ks x) = by (index_free_all ks) refl ∙ sym (ap indexless (inner-node o ds ks x))
      where
        by : (b : Bool) → index_free_all ks ≡ b → close t o ds (pick b (gots ks x) no-forms) ≡ indexless (got (node t o ds ks) x)
        by true q = inner-node o ds ks x ∙ sym (rw q refl)
        by false q = rw q refl

    noted-indexless : (o : List ℕ) (ds : Decls) (g : Gots) → pick (index_free_decls ds) (close_noted t o ds (indexless_all g)) no-form ≡ indexless (close_noted t o ds g)
    unfolding index_free
    noted-indexless o ds no-forms = go (index_free_decls ds)
      where
        go : (b : Bool) → pick b no-form no-form ≡ no-form
        go true = refl
        go false = refl
    noted-indexless o ds (gots ks x) = go (any_typed ds) refl (index_free_decls ds) refl (index_free_all ks) refl
      where
        go : (c : Bool) → any_typed ds ≡ c → (a : Bool) → index_free_decls ds ≡ a → (b : Bool) → index_free_all ks ≡ b
            → pick a (close_noted t o ds (pick b (gots ks x) no-forms)) no-form ≡ indexless (pick c (got (noted t o ds ks) x) no-form)
        go true r true p true q = rw (p, q, r) refl
        go true r true p false q = rw (p, q) refl
        go true r false p b q = rw p refl
        go false r true p true q = rw r refl
        go false r true p false q = refl
        go false r false p b q = refl

    with-indexless : (o : List ℕ) (p e : ℕ) (g : GotDecls) → with_decls N t o p e (indexless_decls g) ≡ indexless (with_decls R t o p e g)
    with-indexless o p e no-decls = refl
    with-indexless o p e (declared ds x) = through (index_free_decls ds) ∙ noted-indexless o ds (decode_all R (sorts p e) x)
      where
        through : (b : Bool) → with_decls N t o p e (pick b (declared ds x) no-decls) ≡ pick b (close_noted t o ds (indexless_all (decode_all R (sorts p e) x))) no-form
        through true = ap (λ g. close_noted t o ds g) (all-indexless (sorts p e) x)
        through false = refl

    pub branch-indexless : (h : Head) → branch N t h ≡ indexless (branch R t h)
    branch-indexless (head o ds p e x) = ap (λ g. close t o ds g) (all-indexless (sorts p e) x) ∙ close-indexless o ds (decode_all R (sorts p e) x)
    branch-indexless (flagged o n p e x) = ap (λ g. with_decls N t o p e g) (decls-indexless n x) ∙ with-indexless o p e (decls R n x)
    branch-indexless bad = refl
