-- Declarations round a body with the places of a table filled: the words are the definition's. Assumes nothing.
use mathlib.Core.Path.{◌≡◌, refl, ap, sym, ◌∙◌}
use mathlib.Core.Bool.{Bool, true, false, and-false}
use mathlib.Core.List.{List, [], ◌∷◌, ◌++◌, append-nil, map}
use Prim.Native.Nat.{ℕ, zero, suc, ◌+◌, ◌-◌, ◌≤◌, ◌<◌}
use native.Mathlib.Omega.{arith}
use borrow.Author.Tests.{eq-eqb, ne_eqb, eqb-true, eqb-false}
use lib.Dec.{leb, eqb}
use lib.ListN.{length, get_or, take, drop, replicate, length-drop, length-take, length-map}
use Rattle.tree.specs.Form.{Form, encode, pick}
use Rattle.tree.specs.Tag.{pred}
use Rattle.form.specs.Decode.{got, decode}
use Rattle.form.specs.Lists.{Place, kept, filled}
use Rattle.form.specs.Answer.{finish}
use Rattle.reader.specs.Internal.Reads.{mark}
use Rattle.reader.specs.declared.lists.Table.{Table}
use Rattle.form.proofs.DecodeLaws.{Ok, decode-sound}
use Rattle.rules.specs.Walk.{walk, put, lift, subst}
use Rattle.shift.specs.Internal.Items.{items, rewritten}
use Rattle.rules.specs.Fill.{unnoted, fill_for}
use Rattle.replace.specs.Internal.Pieces.{planned, kept_words, head_words, down_plan}
use Rattle.replace.proofs.PlainLaws.{quantify_names as quantify, kept_names, plain-quantify, plain-fill, plain-notes}
use Rattle.replace.proofs.BuildLaws.{emit-form}
use Rattle.replace.proofs.FillTree.{ok-flat}
use Rattle.replace.proofs.NameLaws.{kept-names}
use Rattle.replace.proofs.QuantLaws.{Quant, quant-items-in}
use Rattle.rules.specs.Partial.{front, put_round, instantiate_partial}
use Rattle.rules.specs.Member.{any_filled}
use Rattle.replace.specs.Internal.Partial.{inner_end, inner_names, Inner, partial_head, partial_words, partial_row}
use Rattle.replace.proofs.PartialLaws.{Heads, ok-heads, node-heads, round-words, inner_of, partial-is}
use Rattle.member.proofs.MemberTree.{front-lift, front_low, behind-front, whole-front, subst-same, none_filled, names-lift, names-front, names-all}
use Rattle.member.proofs.TableLaws.{in_front, words-by, front-is, ready, filling, marks-are, whole-body}
use Rattle.member.proofs.BodyLaws.{names-count}
use Rattle.member.specs.declared.member.Comprehension.{Comprehension}
use Rattle.places.proofs.PartsLaws.{some_words}
use Rattle.member.specs.Internal.Member.{SetIn, TableIs, lifted, filled_body, shallow, Shaped, well-formed, conjunction, Filling, Unannotated, front_of}

unnoted-take : (j : ℕ) (ns : List ℕ) → take j (map unnoted ns) ≡ map unnoted (take j ns)
unnoted-take zero ns = refl
unnoted-take (suc j) [] = refl
unnoted-take (suc j) (n ∷ ns) = ap (λ z. unnoted n ∷ z) (unnoted-take j ns)

unnoted-drop : (j : ℕ) (ns : List ℕ) → drop j (map unnoted ns) ≡ map unnoted (drop j ns)
unnoted-drop zero ns = refl
unnoted-drop (suc j) [] = refl
unnoted-drop (suc j) (n ∷ ns) = unnoted-drop j ns

names-short : (ps : List Place) (ns : List ℕ) → length (kept_names ps ns) ≤ length ps
names-short [] ns = omega arith
names-short (p ∷ ps) [] = short_none p ps
  where
    short_none : (p : Place) (ps : List Place) → length (kept_names (p ∷ ps) []) ≤ length (p ∷ ps)
    short_none kept ps = omega arith
    short_none (filled e) ps = omega arith
names-short (kept ∷ ps) (n ∷ ns) = let h = names-short ps ns in omega arith
names-short (filled e ∷ ps) (n ∷ ns) = let h = names-short ps ns in omega arith

-- the body's first words
well-ok : {g : Form} → decode 62 pred (encode g) ≡ got g [] → Ok 62 pred g
well-ok {g} e = (decode-sound 62 pred (encode g) g [] e).1

shape-heads : {g : Form} → Shaped g → Heads 852 g
shape-heads (well-formed e) = ok-heads 852 refl (omega arith) (well-ok e)
shape-heads (conjunction {o = o} {ks = ks}) = node-heads 852 351 o [] ks (λ z. absurd (omega arith))

shape-inner : {g : Form} → Shaped g → Inner 852 (encode g)
unfolding encode
shape-inner (well-formed e) = inner_of 852 refl (omega arith) (well-ok e)
shape-inner (conjunction {o = o} {ks = ks}) = record { long = λ z. absurd (omega arith); few = λ z. absurd (omega arith) }

module _ (row lm names body marks : List ℕ) (t : Table) (ps : List Place) (table : TableIs row lm (length names) t ps) (g : Form) (words : body ≡ encode g) (marked : marks ≡ mark g 0 (length names) (replicate (length marks) 0))
    (enough : length body ≤ length marks) (flat : shallow 4096 g ≡ true) (shape : Shaped g) (most : length names ≤ 32) (long : length row ≤ length lm) where
  abbrev n : ℕ
  n = length names

  is_front : (ws : List ℕ) → ws ≡ take n t.words → front_of 0 ws ≡ in_front ps
  is_front = front-is row lm n t ps table most

  names-are : (ws : List ℕ) → ws ≡ take n t.words → kept_words ws names ≡ kept_names ps names
  names-are ws e =
      rw (words-by row lm n t ps table most ws e) (rw append-nil at (kept-names ps names [] table.count))

  enough-words : length (encode g) ≤ length marks
  enough-words = rw (← words) enough

  abbrev rest_from : ℕ → List ℕ
  rest_from k = rewritten (planned (down_plan t 0) row lm) (items (drop k (encode g)) (drop k marks))

  all-body : rest_from 0 ≡ encode (subst (fill_for ps) g)
  all-body = whole-body row lm n t ps table most g marks marked enough-words flat

  inner-body : (y : Quant g) → rest_from (2 + length y.decls) ≡ encode (walk (put (fill_for ps)) (length y.decls) y.body)
  inner-body y =
      let m = y.most in
      rw (marks-are row lm n t ps table most g marks marked enough-words, quant-items-in g y (length y.decls) n (replicate (length marks - length (encode g)) 0) refl) (filling row lm n t ps table most (length y.decls) y.body (ok-flat (length y.decls) (omega arith) y.ok))

  -- some place is filled
  abbrev j : ℕ
  j = front ps

  abbrev qs : List Place
  qs = map (lifted j) (drop j ps)

  abbrev stay : List ℕ
  stay = kept_names qs (drop j names)

  abbrev bare : Type 0
  bare = eqb (get_or (encode g) 0 0) 862 ≡ false

  round : bare
      → head_words 852 (take j names ++ (stay ++ inner_names 852 (take j names) stay (encode g))) ++ rest_from (inner_end 852 (take j names) stay (encode g)) ≡ encode (put_round 852 (map unnoted (take j names)) (quantify 852 stay (subst (fill_for qs) g)))
  round un =
      round-words 852 refl qs g (shape-heads (shape)) rest_from (all-body ∙ ap encode (subst-same (fill_for ps) (fill_for qs) (whole-front ps) 0 g))
      (λ y. inner-body y ∙ ap encode (subst-same (fill_for ps) (fill_for qs) (whole-front ps) (length y.decls) y.body)) un (take j names) stay

  some-form : j < n → filled_body (map unnoted names) ps g ≡ put_round 852 (map unnoted (take j names)) (quantify 852 stay (subst (fill_for qs) g))
  unfolding instantiate_partial
  some-form h =
      let c = table.count in
      let d = length-drop j names in
      let b : n ≡ j + length (drop j names) = omega arith in
      let any : any_filled ps ≡ true = rw (ne_eqb j (length ps) (λ e. absurd (omega arith))) in
      rw (
        any,
        length-map names unnoted,
        front-lift n ps,
        unnoted-take j names,
        unnoted-drop j names,
        length-map (drop j names) unnoted,
        behind-front n j (length (drop j names)) ps b,
        plain-notes (lift j) (drop j names),
        plain-fill 852 (drop j names) qs g,
      )

  none-form : j ≡ n → filled_body (map unnoted names) ps g ≡ quantify 852 names g
  none-form h =
      let c = table.count in
      let any : any_filled ps ≡ false = rw (eq-eqb j (length ps) (omega arith)) in
      rw any (plain-quantify 852 names g)

  module _ (room : ℕ) where
    emits : (front stay : List ℕ) (r : Form) → length front ≤ 32 → length stay ≤ 32 → partial_words 852 front stay t 0 row lm (encode g) marks ≡ encode r → partial_row false 852 front stay t 0 row lm (encode g) marks room ≡ finish pred room r
    emits front stay r a b e =
        partial-is false 852 front stay t 0 row lm (encode g) marks room (shape-inner shape) a b (ready row lm n t ps table most long)
        ∙ rw (and-false (leb (length (partial_head 852 front stay (encode g))) 34), e) (emit-form pred room r)

    names-split : (take j (kept_names ps names) ≡ take j names) × (drop j (kept_names ps names) ≡ stay)
    names-split =
        let s = names-front ps names table.count in
        (s.0, s.1 ∙ sym (names-lift j (drop j ps) (drop j names)))

    abbrev Told : ℕ → List ℕ → Type 0
    Told i kn = partial_row false 852 (take i kn) (drop i kn) t 0 row lm body marks room ≡ finish pred room (filled_body (map unnoted names) ps g)

    some-told : bare → j < n → Told j (kept_names ps names)
    some-told un h =
        let s = names-split in
        let c = table.count in
        let m = most in
        let a = length-take j names in
        let b = names-short qs (drop j names) in
        let d = length-map (drop j ps) (lifted j) in
        let k = length-drop j ps in
        rw (s.0, s.1, words, some-form h) (emits (take j names) stay (put_round 852 (map unnoted (take j names)) (quantify 852 stay (subst (fill_for qs) g))) (omega arith) (omega arith) (round un))

    none_told : bare → j ≡ n → Told 0 (kept_names ps names)
    unfolding put_round
    none_told un h =
        let c = table.count in
        let k : kept_names ps names ≡ names = names-all ps names c (omega arith) in
        let w : partial_words 852 [] names t 0 row lm (encode g) marks ≡ encode (quantify 852 names g)
        = round-words 852 refl ps g (shape-heads shape) rest_from all-body inner-body un [] names ∙ rw (none_filled ps (omega arith) g) in
        rw (k, words, none-form h) (emits [] names (quantify 852 names g) (omega arith) most w)

    kept-rows : bare → (kn : List ℕ) (i : ℕ) → kn ≡ kept_names ps names → i ≡ in_front ps → Told i kn
    kept-rows un kn i a b = go (eqb j n) refl
      where
        go : (z : Bool) → eqb j n ≡ z → Told i kn
        go true e =
            let c = table.count in
            let q = eqb-true j n e in
            let k : i ≡ 0 = b ∙ rw (eq-eqb (front ps) (length ps) (omega arith)) in
            rw (a, k) (none_told un q)
        go false e =
            let c = table.count in
            let f = front_low ps in
            let ne = eqb-false j n e in
            let q : j ≡ length ps → ⊥ = λ z. ne (omega arith) in
            let k : i ≡ j = b ∙ rw (ne_eqb (front ps) (length ps) q) in
            rw (a, k) (some-told un (omega (arith, ne)))

pick_low : (b : Bool) (i m : ℕ) → i ≤ m → pick b i 0 ≤ m
pick_low true i m h = h
pick_low false i m h = omega arith

module _ {row lm body marks : List ℕ} {t : Table} (names : List ℕ) (x : Filling (length names) row lm t body marks) where
  pub stay-names : (ws : List ℕ) → ws ≡ take (length names) t.words → kept_words ws names ≡ kept_names x.places names
  stay-names = names-are row lm names body marks t x.places x.table x.body x.words x.marked x.enough x.flat x.shape x.most x.long

  pub stay-front : (ws : List ℕ) → ws ≡ take (length names) t.words → front_of 0 ws ≡ in_front x.places
  stay-front = is_front row lm names body marks t x.places x.table x.body x.words x.marked x.enough x.flat x.shape x.most x.long

  pub kept-told : Unannotated body → (room : ℕ) (kn : List ℕ) (i : ℕ) → kn ≡ kept_names x.places names → i ≡ in_front x.places → partial_row false 852 (take i kn) (drop i kn) t 0 row lm body marks room ≡ finish pred room (filled_body (map unnoted names) x.places x.body)
  kept-told un room =
      kept-rows row lm names body marks t x.places x.table x.body x.words x.marked x.enough x.flat x.shape x.most x.long room
      (rw (← x.words) (ne_eqb (get_or body 0 0) 862 un))

  pub stay-low : (kn : List ℕ) (i : ℕ) → kn ≡ kept_names x.places names → i ≡ in_front x.places → i ≤ length kn
  stay-low kn i a b = rw (a, b) (pick_low (any_filled x.places) (front x.places) (length (kept_names x.places names)) (names-front x.places names x.table.count).2)

-- declarations without annotations, in the row
module _ {row : List ℕ} {c : Comprehension} (x : SetIn row c) (tag : get_or row c.at 0 ≡ 803) {lm body marks : List ℕ} {t : Table} where
  unfoldable pub plain-filling : Filling c.n row lm t body marks → Filling (length (take (c.guard - (c.at + 3)) (drop (c.at + 3) row))) row lm t body marks
  plain-filling y =
      let e = names-count x tag in
      record {
        places = y.places;
        table = rw e y.table;
        body = y.body;
        words = y.words;
        marked = rw e y.marked;
        enough = y.enough;
        flat = y.flat;
        shape = y.shape;
        most = rw e y.most;
        long = y.long;
      }

pub body-some : {n : ℕ} {row lm body marks : List ℕ} {t : Table} → Filling n row lm t body marks → 0 < length body
body-some y = rw y.words (some_words y.body)
