-- What must come, word by word, and what is read: where every word is taken and nothing must come after the last, a form is read, in a named
-- row one without indices. Assumes nothing.
use mathlib.Core.Path.{◌≡◌, refl, sym, ◌∙◌}
use mathlib.Core.Bool.{Bool, true, false, ◌&&◌}
use mathlib.Core.List.{List, [], ◌∷◌}
use Prim.Native.Nat.{ℕ, zero, suc, ◌+◌, ◌-◌, ◌≤◌}
use native.Mathlib.Omega.{arith}
use lib.Dec.{eqb}
use Rattle.tree.specs.Form.{Form, noted, Decls, undeclared, bare, typed, any_typed, Forms, none, more, pick, between}
use Rattle.tree.specs.Tag.{Sort, expr, pred, Own, ask, kids, flags, wrong, own, sorts}
use Rattle.form.specs.Decode.{Head, head, flagged, bad, add_word, names, read, got, gots, make, decode_all, decl_at, declared, decls, decode, index_free, index_free_decls, index_free_all}
use Rattle.form.specs.Break.{Next, word, note, parts, never, low_flag, decls_next, next_of, own_in, Open, rest, least_all, after}
use Rattle.form.proofs.IndexLaws.{InNamed, in-true, both-in, make-free}
use Rattle.form.proofs.LeastLaws.{open-word, open-note, open-nil, open-never, open-name, open-pred, open-expr, Runs, most-of, flag_next}

module _ (named : Bool) (z : ℕ → Next) where
  pub run_room : (at : ℕ) (x : Open) (ws : List ℕ) → Runs named z at x ws → at + least_all x ≤ 8192
  unfolding Runs
  run_room at x [] r = let a = r.0 in let b = r.1 in omega arith
  run_room at x (w ∷ ws) r = r.0

  pub pop : (at d : ℕ) (x : Open) (ws : List ℕ) → Runs named z at (rest d (parts 0 0 0) x) ws → Runs named z at x ws
  unfolding after Runs
  pop at d x [] r = (r.0, sym (open-nil d x) ∙ r.1)
  pop at d x (w ∷ ws) r = (rw (open-nil d x) at r.0, r.1)

  pub push : (at d : ℕ) (x : Open) (ws : List ℕ) → Runs named z at x ws → Runs named z at (rest d (parts 0 0 0) x) ws
  unfolding after Runs
  push at d x [] r = (r.0, open-nil d x ∙ r.1)
  push at d x (w ∷ ws) r = (rw (open-nil d x) r.0, r.1)

  pub too_many : (at d : ℕ) (x : Open) (ws : List ℕ) → Runs named z at (rest d never x) ws → ⊥
  too_many at d x ws r = let h = run_room at (rest d never x) ws r in let w = open-never d x in omega arith

  -- own words and names that run are read
  record NamesRun (n p e d : ℕ) (x : Open) (ws : List ℕ) : Type 0 where
    pub declared : List ℕ
    pub left : List ℕ
    pub at : ℕ
    pub is : names n p e ws ≡ head [] declared p e left
    pub runs : Runs named z at (rest d (parts 0 p e) x) left

  -- what was read after a tag, and what must come then
  abbrev HeadRuns : ℕ → Open → Head → Type 0
  HeadRuns d x (head a b p e r) = (at : ℕ) × Runs named z at (rest d (parts 0 p e) x) r
  HeadRuns d x (flagged a n p e r) = (at : ℕ) × Runs named z at (rest d (decls_next false n p e) x) r
  HeadRuns d x bad = ⊥

  add-runs : (d : ℕ) (x : Open) (w : ℕ) (h : Head) → HeadRuns d x h → HeadRuns d x (add_word w h)
  add-runs d x w (head a b p e r) k = k
  add-runs d x w (flagged a n p e r) k = k
  add-runs d x w bad k = k

  record ReadRun (o : Own) (d : ℕ) (x : Open) (ws : List ℕ) : Type 0 where
    pub top : Head
    pub is : read o ws ≡ top
    pub runs : HeadRuns d x top

  names-run : (n p e d : ℕ) (x : Open) (at : ℕ) (ws : List ℕ) → Runs named z at (rest d (parts n p e) x) ws → NamesRun n p e d x ws
  unfolding after Runs
  names-run zero p e d x at ws r = record { declared = []; left = ws; at = at; is = refl; runs = r }
  names-run (suc n) p e d x at [] r = let h = r.1 in let w = open-name d x n p e in absurd (omega arith)
  names-run (suc n) p e d x at (w ∷ ws) r = go (between 0 65535 w) refl (λ s. names-run n p e d x (suc at) ws s) r.1
    where
      go : (b : Bool) → between 0 65535 w ≡ b → (Runs named z (suc at) (rest d (parts n p e) x) ws → NamesRun n p e d x ws) → Runs named z (suc at) (rest d (pick b (parts n p e) never) x) ws → NamesRun (suc n) p e d x (w ∷ ws)
      go true q f s =
          let h = f s in
          record { declared = w ∷ h.declared; left = h.left; at = h.at; is = rw (q, h.is); runs = h.runs }
      go false q f s = absurd (too_many (suc at) d x ws s)

  word-run : (at d : ℕ) (x : Open) (lo hi : ℕ) (k : ℕ → Next) (ws : List ℕ) → Runs named z at (rest d (word lo hi k) x) ws
      → (w : ℕ) × (v : List ℕ) × (ws ≡ w ∷ v) × (between lo hi w ≡ true) × Runs named z (suc at) (rest d (k w) x) v
  unfolding after Runs
  word-run at d x lo hi k [] r = let h = r.1 in let w = open-word d x lo hi k in absurd (omega arith)
  word-run at d x lo hi k (w ∷ ws) r = go (between lo hi w) refl r.1
    where
      go : (b : Bool) → between lo hi w ≡ b → Runs named z (suc at) (rest d (pick b (k w) never) x) ws
          → (w' : ℕ) × (v : List ℕ) × (w ∷ ws ≡ w' ∷ v) × (between lo hi w' ≡ true) × Runs named z (suc at) (rest d (k w') x) v
      go true q s = (w, ws, refl, q, s)
      go false q s = absurd (too_many (suc at) d x ws s)

  ask-run : (lo hi : ℕ) (k : ℕ → Own) (d : ℕ) (x : Open) (ws : List ℕ) (w : ℕ) (v : List ℕ) → ws ≡ w ∷ v → between lo hi w ≡ true → ReadRun (k w) d x v → ReadRun (ask lo hi k) d x ws
  unfolding read
  ask-run lo hi k d x ws w v q b h = record { top = add_word w h.top; is = rw (q, b, h.is); runs = add-runs d x w h.top h.runs }

  read-run : (o : Own) (d : ℕ) (x : Open) (at : ℕ) (ws : List ℕ) → Runs named z at (rest d (next_of o) x) ws → ReadRun o d x ws
  unfolding next_of read
  read-run (ask lo hi k) d x at ws r =
      let (w, v, q, b, s) = word-run at d x lo hi (λ w. next_of (k w)) ws r in
      ask-run lo hi k d x ws w v q b (read-run (k w) d x (suc at) v s)
  read-run (kids n p e) d x at ws r =
      let h = names-run n p e d x at ws r in
      record { top = head [] h.declared p e h.left; is = h.is; runs = (h.at, h.runs) }
  read-run (flags n p e) d x at ws r = record { top = flagged [] n p e ws; is = refl; runs = (at, r) }
  read-run wrong d x at ws r = absurd (too_many at d x ws r)

  -- children that run are read, and so is a form
  record GotRun (d : ℕ) (s : Sort) (x : Open) (ws : List ℕ) : Type 0 where
    pub form : Form
    pub left : List ℕ
    pub at : ℕ
    pub is : decode d s ws ≡ got form left
    pub free : InNamed named (index_free form)
    pub runs : Runs named z at x left

  pub record GotsRun (d p e : ℕ) (x : Open) (ws : List ℕ) : Type 0 where
    pub forms : Forms
    pub left : List ℕ
    pub at : ℕ
    pub is : decode_all (λ s l. decode d s l) (sorts p e) ws ≡ gots forms left
    pub free : InNamed named (index_free_all forms)
    pub runs : Runs named z at x left

  abbrev FormRuns : ℕ → Type 0
  FormRuns d = (s : Sort) (x : Open) (w at : ℕ) (ws : List ℕ) → Runs named z at (rest d (next_of (own_in named s w)) x) ws → GotRun (suc d) s x (w ∷ ws)

  abbrev pub KidsRun : ℕ → Type 0
  KidsRun d = (p e : ℕ) (x : Open) (at : ℕ) (ws : List ℕ) → Runs named z at (rest d (parts 0 p e) x) ws → GotsRun d p e x ws

  abbrev NoteRun : ℕ → Type 0
  NoteRun d = (k : Next) (x : Open) (at : ℕ) (ws : List ℕ) → Runs named z at (rest d (note k) x) ws → GotRun d expr (rest d k x) ws

  -- declarations with flags that run are read
  record DeclsRun (d : ℕ) (came : Bool) (n p e : ℕ) (x : Open) (ws : List ℕ) : Type 0 where
    pub all : Decls
    pub left : List ℕ
    pub at : ℕ
    pub is : decls (λ s l. decode d s l) n ws ≡ declared all left
    pub free : InNamed named (index_free_decls all)
    pub any : pick came true (any_typed all) ≡ true
    pub runs : Runs named z at (rest d (parts 0 p e) x) left

  flag_run : (d : ℕ) → NoteRun d → (n p e : ℕ) (x : Open) → ((came : Bool) (at : ℕ) (ws : List ℕ) → Runs named z at (rest d (decls_next came n p e) x) ws → DeclsRun d came n p e x ws)
      → (came : Bool) (w f at : ℕ) (ws : List ℕ) → between 0 65535 w ≡ true → f ≤ 1 → Runs named z at (rest d (flag_next came n p e f) x) ws → DeclsRun d came (suc n) p e x (w ∷ f ∷ ws)
  unfolding decls decl_at index_free
  flag_run d nh n p e x ih came w zero at ws b m r =
      let h = ih came at ws r in
      record { all = bare w h.all; left = h.left; at = h.at; is = rw (b, h.is); free = h.free; any = h.any; runs = h.runs }
  flag_run d nh n p e x ih came w (suc zero) at ws b m r =
      let g = nh (decls_next true n p e) x at ws r in
      let h = ih true g.at g.left g.runs in
      record { all = typed w g.form h.all; left = h.left; at = h.at; is = rw (b, g.is, h.is); free = both-in named (index_free g.form) (index_free_decls h.all) g.free h.free; any = in-true came; runs = h.runs }
  flag_run d nh n p e x ih came w (suc (suc f)) at ws b m r = absurd (omega arith)

  decls-run : (d : ℕ) → NoteRun d → (n p e : ℕ) (x : Open) (came : Bool) (at : ℕ) (ws : List ℕ) → Runs named z at (rest d (decls_next came n p e) x) ws → DeclsRun d came n p e x ws
  unfolding decls decls_next index_free
  decls-run d nh zero p e x true at ws r = record { all = undeclared; left = ws; at = at; is = refl; free = in-true named; any = refl; runs = r }
  decls-run d nh zero p e x false at ws r = absurd (too_many at d x ws r)
  decls-run d nh (suc n) p e x came at ws r =
      let (w, v, q, b, s) = word-run at d x 0 65535 (λ name. word (low_flag came n) 1 (λ flag. flag_next came n p e flag)) ws r in
      let (f, u, i, c, k) = word-run (suc at) d x (low_flag came n) 1 (λ flag. flag_next came n p e flag) v s in
      rw (q, i) (flag_run d nh n p e x (λ c at ws r. decls-run d nh n p e x c at ws r) came w f (suc (suc at)) u b (most-of (low_flag came n) 1 f c) k)

  form-top : (d : ℕ) → KidsRun d → NoteRun d → (s : Sort) (x : Open) (w : ℕ) (ws : List ℕ) (h : Head) → read (own s w) ws ≡ h → (named && eqb w 2) ≡ false → HeadRuns d x h → GotRun (suc d) s x (w ∷ ws)
  unfolding decode index_free
  form-top d ih nh s x w ws (head a b p e y) q i r =
      let k = ih p e x r.0 y r.1 in
      record { form = make w a b k.forms; left = k.left; at = k.at; is = rw (q, k.is); free = make-free named w a b k.forms i k.free; runs = k.runs }
  form-top d ih nh s x w ws (flagged a n p e y) q i r =
      let h = decls-run d nh n p e x false r.0 y r.1 in
      let k = ih p e x h.at h.left h.runs in
      record { form = noted w a h.all k.forms; left = k.left; at = k.at; is = rw (q, h.is, k.is, h.any); free = both-in named (index_free_decls h.all) (index_free_all k.forms) h.free k.free; runs = k.runs }
  form-top d ih nh s x w ws bad q i r = absurd r

  form-from : (d : ℕ) → KidsRun d → NoteRun d → FormRuns d
  unfolding next_of
  form-from d ih nh s x w at ws r = go (named && eqb w 2) refl r
    where
      go : (b : Bool) → (named && eqb w 2) ≡ b → Runs named z at (rest d (next_of (pick b wrong (own s w))) x) ws → GotRun (suc d) s x (w ∷ ws)
      go true i r = absurd (too_many at d x ws r)
      go false i r = let h = read-run (own s w) d x at ws r in form-top d ih nh s x w ws h.top h.is i h.runs

  no_kids : (d at : ℕ) (x : Open) (ws : List ℕ) → Runs named z at (rest d (parts 0 0 0) x) ws → GotsRun d 0 0 x ws
  unfolding decode_all index_free
  no_kids d at x ws r = record { forms = none; left = ws; at = at; is = refl; free = in-true named; runs = pop at d x ws r }

  kids-zero : KidsRun zero
  kids-zero zero zero x at ws r = no_kids zero at x ws r
  kids-zero zero (suc e) x at ws r = let h = run_room at (rest zero (parts 0 0 (suc e)) x) ws r in let w = open-expr zero x e in absurd (omega arith)
  kids-zero (suc p) e x at ws r = let h = run_room at (rest zero (parts 0 (suc p) e) x) ws r in let w = open-pred zero x p e in absurd (omega arith)

  kids-from : (d : ℕ) → FormRuns d → KidsRun (suc d)
  unfolding after decode_all Runs index_free
  kids-from d ih zero zero x at ws r = no_kids (suc d) at x ws r
  kids-from d ih zero (suc e) x at [] r = let h = r.1 in let w = open-expr (suc d) x e in absurd (omega arith)
  kids-from d ih zero (suc e) x at (w ∷ ws) r =
      let q : suc d - 1 ≡ d = omega arith in
      let g = ih expr (rest (suc d) (parts 0 0 e) x) w (suc at) ws (rw q at r.1) in
      let k = kids-from d ih zero e x g.at g.left g.runs in
      record { forms = more g.form k.forms; left = k.left; at = k.at; is = rw (g.is, k.is); free = both-in named (index_free g.form) (index_free_all k.forms) g.free k.free; runs = k.runs }
  kids-from d ih (suc p) e x at [] r = let h = r.1 in let w = open-pred (suc d) x p e in absurd (omega arith)
  kids-from d ih (suc p) e x at (w ∷ ws) r =
      let q : suc d - 1 ≡ d = omega arith in
      let g = ih pred (rest (suc d) (parts 0 p e) x) w (suc at) ws (rw q at r.1) in
      let k = kids-from d ih p e x g.at g.left g.runs in
      record { forms = more g.form k.forms; left = k.left; at = k.at; is = rw (g.is, k.is); free = both-in named (index_free g.form) (index_free_all k.forms) g.free k.free; runs = k.runs }

  note-zero : NoteRun zero
  note-zero k x at ws r = let h = run_room at (rest zero (note k) x) ws r in let w = open-note zero x k in absurd (omega arith)

  note-from : (d : ℕ) → FormRuns d → NoteRun (suc d)
  unfolding after Runs
  note-from d ih k x at [] r = let h = r.1 in let w = open-note (suc d) x k in absurd (omega arith)
  note-from d ih k x at (w ∷ ws) r =
      let q : suc d - 1 ≡ d = omega arith in
      ih expr (rest (suc d) k x) w (suc at) ws (rw q at r.1)

  form-runs : (d : ℕ) → FormRuns d
  form-runs zero = form-from zero kids-zero note-zero
  form-runs (suc d) = form-from (suc d) (kids-from d (form-runs d)) (note-from d (form-runs d))

  pub kids-run : (d : ℕ) → KidsRun d
  kids-run zero = kids-zero
  kids-run (suc d) = kids-from d (form-runs d)
