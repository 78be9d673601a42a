-- The head round a body is that of the tree: alone, or with the declarations of the body's own quantifier behind. Assumes nothing.
use mathlib.Core.Path.{◌≡◌, refl, ap, ◌∙◌}
use mathlib.Core.Bool.{Bool, true, false, ◌||◌, or-true}
use mathlib.Core.List.{List, [], ◌∷◌, ◌++◌, append_assoc, append-nil, map, map-append}
use mathlib.Core.Option.{none as absent, some}
use Prim.Native.Nat.{ℕ, ◌+◌, ◌≤◌}
use native.Mathlib.Omega.{arith}
use borrow.Author.Tests.{le-leb, eq-eqb, ne_eqb}
use lib.Dec.{leb, eqb}
use lib.ListN.{length, get_or, drop, length-append, length-drop, length-map}
use lib.Seq.{take_at}
use Rattle.tree.specs.Form.{Form, pick, encode, encode_decls}
use Rattle.form.specs.Lists.{Place}
use Rattle.rules.specs.Fill.{Decl, unnoted, name_of, unlisted, is_noted, any_noted, kept_decls, around}
use Rattle.rules.proofs.JoinLaws.{names-plain}
use Rattle.shift.proofs.AroundLaws.{none-noted, head_of, encode-around, plain-around}
use Rattle.replace.proofs.FillTree.{word_for}
use Rattle.decls.specs.Internal.Noted.{noted_head}
use Rattle.decls.proofs.DeclLaws.{GoodDecls, decls-long, few-kept}
use Rattle.decls.proofs.CountLaws.{op-range}
use Rattle.decls.proofs.NotedLaws.{decls-end}
use Rattle.decls.proofs.HeadLaws.{quant_head, kept-in, noted-head, flagged-parts}
use Rattle.rounds.specs.Internal.Round.{longer_head, names_behind, inner_names, joins_names, joins_notes, head_names, head_notes, round_head, round_from, can_join, join_fits, round_fits}

-- declarations behind others
pub decls-append : (a b : List Decl) → encode_decls (unlisted (a ++ b)) ≡ encode_decls (unlisted a) ++ encode_decls (unlisted b)
unfolding encode
decls-append [] b = refl
decls-append ((n, absent) ∷ a) b = ap (λ z. n ∷ 0 ∷ z) (decls-append a b)
decls-append ((n, some f) ∷ a) b = rw (decls-append a b, append_assoc (encode f))

pub plain-behind : (a : List Decl) (ns : List ℕ) → any_noted (a ++ map unnoted ns) ≡ any_noted a
plain-behind [] ns = none-noted ns
plain-behind (d ∷ a) ns = ap (λ z. is_noted d.1 || z) (plain-behind a ns)

pub noted-behind : (a b : List Decl) → any_noted b ≡ true → any_noted (a ++ b) ≡ true
noted-behind [] b h = h
noted-behind (d ∷ a) b h = rw (noted-behind a b h) (or-true (is_noted d.1))

-- a head of some declarations
quant-some : (t : ℕ) (ds : List Decl) → 1 ≤ length ds → quant_head t ds ≡ head_of t ds
quant-some t [] h = absurd (omega arith)
quant-some t (d ∷ ds) h = refl

quant-two : (t : ℕ) (ds : List Decl) → 1 ≤ length ds → 2 ≤ length (quant_head t ds)
quant-two t ds h = rw (quant-some t ds h) (go (any_noted ds))
  where
    go : (z : Bool) → 2 ≤ length (pick z ((t + 10) ∷ length ds ∷ encode_decls (unlisted ds)) (t ∷ length ds ∷ map name_of ds))
    go true = omega arith
    go false = omega arith

-- longer by names
names-longer : (t : ℕ) (ds : List Decl) (ms : List ℕ) → longer_head (head_of t ds) (length ms) (names_behind t (get_or (head_of t ds) 0 0) ms) ≡ head_of t (ds ++ map unnoted ms)
unfolding longer_head names_behind
names-longer t ds ms =
    let l : length (ds ++ map unnoted ms) ≡ length ds + length ms = length-append ds (map unnoted ms) ∙ ap (λ z. length ds + z) (length-map ms unnoted) in
    rw (plain-behind ds ms, l, decls-append ds (map unnoted ms), map-append name_of ds (map unnoted ms), names-plain ms) (go (any_noted ds))
  where
    go : (z : Bool)
        → get_or (pick z ((t + 10) ∷ length ds ∷ encode_decls (unlisted ds)) (t ∷ length ds ∷ map name_of ds)) 0 0 ∷ (get_or (pick z ((t + 10) ∷ length ds ∷ encode_decls (unlisted ds)) (t ∷ length ds ∷ map name_of ds)) 1 0 + length ms)
        ∷ (drop 2 (pick z ((t + 10) ∷ length ds ∷ encode_decls (unlisted ds)) (t ∷ length ds ∷ map name_of ds)) ++ pick (eqb (get_or (pick z ((t + 10) ∷ length ds ∷ encode_decls (unlisted ds)) (t ∷ length ds ∷ map name_of ds)) 0 0) t) ms (encode_decls (unlisted (map unnoted ms))))
        ≡ pick z ((t + 10) ∷ (length ds + length ms) ∷ (encode_decls (unlisted ds) ++ encode_decls (unlisted (map unnoted ms)))) (t ∷ (length ds + length ms) ∷ (map name_of ds ++ ms))
    go true = rw (ne_eqb (t + 10) t (λ h. omega arith))
    go false = rw (eq-eqb t t refl)

module _ (op : ℕ) (ks : List Decl) (some-kept : 1 ≤ length ks) where
  more-some : (js : List Decl) → 1 ≤ length (ks ++ js)
  more-some js = let l = length-append ks js in omega arith

  names-joined : (ms x : List ℕ) → head_names op (quant_head op ks) (op ∷ length ms ∷ (ms ++ x)) ≡ quant_head op (ks ++ map unnoted ms)
  unfolding head_names inner_names
  names-joined ms x =
      rw (take_at ms x (length ms) refl, quant-some op ks some-kept, quant-some op (ks ++ map unnoted ms) (more-some (map unnoted ms))) (names-longer op ks ms)

  notes-joined : (js : List Decl) → any_noted js ≡ true → (op + 10) ∷ (length ks + length js) ∷ (encode_decls (unlisted ks) ++ encode_decls (unlisted js)) ≡ quant_head op (ks ++ js)
  notes-joined js h = rw (quant-some op (ks ++ js) (more-some js), noted-behind ks js h, length-append ks js, decls-append ks js)

plain_body : (t : ℕ) (ms : List ℕ) (b : Form) → encode (around t (map unnoted ms) b) ≡ t ∷ length ms ∷ (ms ++ encode b)
unfolding encode
plain_body t ms b = rw (← plain-around t ms b, append-nil)

can-join : (h k words : ℕ) → 2 ≤ h → k ≤ 32 → 2 + k ≤ words → can_join h k words ≡ true
unfolding can_join
can-join h k words a b c = rw (le-leb 2 h a, le-leb k 32 b, le-leb (2 + k) words c)

module _ (op : ℕ) (which : (eqb op 851 || eqb op 852) ≡ true) (ps : List Place) (ds : List Decl) (same : length ps ≡ length ds) (g : GoodDecls ds) (few : length ds ≤ 32) (decls r : List ℕ)
    (e : drop 2 decls ≡ encode_decls (unlisted ds) ++ r) (short : length decls ≤ 8192) where
  kept-head : noted_head op (map word_for ps) decls 8192 ≡ quant_head op (kept_decls ps ds)
  kept-head = noted-head ps ds decls r 8192 same g e few short short op which

  low : leb op 852 ≡ true
  low = le-leb op 852 (op-range op which).1

  -- joined with nothing
  module _ (joins clear : Bool) (notes body : List ℕ) (no_names : joins_names op joins body ≡ false) (no-notes : joins_notes op joins clear body ≡ false) where
    pub alone-head : round_head op (map word_for ps) decls joins clear notes body ≡ quant_head op (kept_decls ps ds)
    unfolding round_head
    alone-head = rw (no_names, no-notes) kept-head

    pub alone-from : round_from op joins clear body ≡ 0
    unfolding round_from
    alone-from = rw (no_names, no-notes)

    pub alone-fits : round_fits op (map word_for ps) decls joins clear notes body ≡ true
    unfolding round_fits
    alone-fits = rw (low, no_names, no-notes)

  -- joined with names
  module _ (clear : Bool) (notes body ms : List ℕ) (b : Form) (is : body ≡ encode (around op (map unnoted ms) b)) (some-kept : 1 ≤ length (kept_decls ps ds)) where
    words_are : body ≡ op ∷ length ms ∷ (ms ++ encode b)
    words_are = is ∙ plain_body op ms b

    with-names : joins_names op true body ≡ true
    unfolding joins_names
    with-names = rw words_are (eq-eqb op op refl)

    names-is : head_names op (noted_head op (map word_for ps) decls 8192) body ≡ quant_head op (kept_decls ps ds ++ map unnoted ms)
    names-is = rw (kept-head, words_are) (names-joined op (kept_decls ps ds) some-kept ms (encode b))

    pub names-head : round_head op (map word_for ps) decls true clear notes body ≡ quant_head op (kept_decls ps ds ++ map unnoted ms)
    unfolding round_head
    names-head = rw with-names names-is

    pub names-from : round_from op true clear body ≡ length (head_of op (map unnoted ms))
    unfolding round_from
    names-from =
        let k : get_or body 1 0 ≡ length ms = ap (λ z. get_or z 1 0) words_are in
        rw (with-names, k, none-noted ms, names-plain ms) (omega arith)

    pub names-fits : length ms ≤ 32 → round_fits op (map word_for ps) decls true clear notes body ≡ leb (length (quant_head op (kept_decls ps ds ++ map unnoted ms))) 8192
    unfolding round_fits join_fits
    names-fits hi =
        let l = length-append ms (encode b) in
        let k : get_or body 1 0 ≡ length ms = ap (λ z. get_or z 1 0) words_are in
        let n : length body ≡ 2 + length (ms ++ encode b) = ap length words_are ∙ omega arith in
        rw (low, with-names, names-is, kept-head, k, can-join (length (quant_head op (kept_decls ps ds))) (length ms) (length body) (quant-two op (kept_decls ps ds) some-kept) hi (omega arith))

  -- joined with annotated declarations, which become others
  module _ (I J : List Decl) (notes body : List ℕ) (b : Form) (is : body ≡ encode (around op I b)) (typed-in : any_noted I ≡ true) where
    notes-are : body ≡ (op + 10) ∷ length I ∷ (encode_decls (unlisted I) ++ encode b)
    notes-are = is ∙ (encode-around op 0 I b ∙ rw typed-in)

    no-names-then : joins_names op true body ≡ false
    unfolding joins_names
    no-names-then = rw notes-are (ne_eqb (op + 10) op (λ h. omega arith))

    with-notes : joins_notes op true true body ≡ true
    unfolding joins_notes
    with-notes = rw notes-are (eq-eqb (op + 10) (op + 10) refl)

    pub notes-from : GoodDecls I → round_from op true true body ≡ length (head_of op I)
    unfolding round_from
    notes-from good =
        let k : get_or body 1 0 ≡ length I = ap (λ z. get_or z 1 0) notes-are in
        rw (no-names-then, with-notes, k, typed-in) (decls-end body I 2 (encode b) good (ap (drop 2) notes-are) ∙ omega arith)

    module _ (words : notes ≡ encode_decls (unlisted J)) (count : length J ≡ length I) (typed-out : any_noted J ≡ true) (some-kept : 1 ≤ length (kept_decls ps ds)) where
      two : 2 ≤ length decls
      two =
          let l = length-drop 2 decls in
          let k = ap length e ∙ length-append (encode_decls (unlisted ds)) r in
          let d = decls-long ds in
          let f = few-kept ps ds in
          omega arith

      notes-is : head_notes op (map word_for ps) decls notes body ≡ quant_head op (kept_decls ps ds ++ J)
      unfolding head_notes
      notes-is =
          let k : get_or body 1 0 ≡ length J = ap (λ z. get_or z 1 0) notes-are ∙ omega arith in
          rw (k, words, kept-in ps ds same, flagged-parts ps ds decls r 8192 same g e few short short two) (notes-joined op (kept_decls ps ds) some-kept J typed-out)

      pub notes-head : round_head op (map word_for ps) decls true true notes body ≡ quant_head op (kept_decls ps ds ++ J)
      unfolding round_head
      notes-head = rw (no-names-then, with-notes) notes-is

      pub notes-fits : length I ≤ 32 → round_fits op (map word_for ps) decls true true notes body ≡ leb (length (quant_head op (kept_decls ps ds ++ J))) 8192
      unfolding round_fits join_fits
      notes-fits hi =
          let l = length-append (encode_decls (unlisted I)) (encode b) in
          let d = decls-long I in
          let k : get_or body 1 0 ≡ length I = ap (λ z. get_or z 1 0) notes-are in
          let n : length body ≡ 2 + length (encode_decls (unlisted I) ++ encode b) = ap length notes-are ∙ omega arith in
          rw (low, no-names-then, with-notes, notes-is, kept-head, k, can-join (length (quant_head op (kept_decls ps ds))) (length I) (length body) (quant-two op (kept_decls ps ds) some-kept) hi (omega arith))
