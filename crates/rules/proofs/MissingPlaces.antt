-- Places that are missing at the end of a list count as kept. The former rule asked for as many places as declarations; what it answered, and
-- what it refused by anything but 5, is the same. A list without its last empty places is answered as the former rule answers the list with
-- them. Assumes nothing.
use mathlib.Core.Path.{◌≡◌, refl, ap, sym, ◌∙◌}
use mathlib.Core.Bool.{Bool, true, false, ◌&&◌}
use mathlib.Core.List.{List, [], ◌∷◌, ◌++◌, append_assoc, append-nil, map, map-append}
use mathlib.Core.Option.{Option, none as absent, some}
use Prim.Native.Nat.{ℕ, zero, suc, ◌+◌, ◌-◌, ◌≤◌, ◌<◌}
use native.Mathlib.Omega.{arith}
use borrow.Author.Tests.{le-leb, lt-leb, eq-eqb, ne_eqb, eqb-true}
use lib.Dec.{eqb, leb}
use lib.ListN.{length, replicate, length-append, length-replicate}
use Rattle.tree.specs.Form.{Form, pick}
use Rattle.tree.specs.Tag.{Sort, pred}
use Rattle.form.specs.Break.{break_at, break_list}
use Rattle.form.specs.Decode.{Found, found, missing, form_of}
use Rattle.form.specs.Lists.{kept, Entry, entry, place_of, entry_words, encode_list, list_of}
use Rattle.form.specs.Answer.{Outcome, answer, stop, with_work, with_form, with_list, of_found, of_list, needs, finish, places_outcome}
use Rattle.form.specs.declared.answer.Kind.TheVariants.{Predicate}
use Rattle.form.specs.declared.answer.ListKind.TheVariants.{Places}
use Rattle.form.proofs.DecodeLaws.{clash}
use Rattle.form.proofs.ListLaws.{GoodAll, list-sound, list-encode}
use Rattle.rules.specs.Fill.{Decl, Quantified, quantifier, other, quantified, fill, of_quantified, places_for, fill_outcome}
use Rattle.rules.proofs.ReplicateLaws.{map-replicate}
use Rattle.form.specs.declared.answer.Refusal.TheVariants.{TooLong, NotQuantified, TooManyPlaces, WorkTooShort}
use Rattle.form.specs.declared.answer.Refusal.{Refusal}

-- the former rules of fill and of the check of places, for these statements alone
abbrev pub exact_fill : List ℕ → List ℕ → ℕ → ℕ → Outcome
exact_fill list row work room =
    with_work work
    (with_form Predicate row
    (λ s f. with_list Places list
    (λ es. of_quantified (λ t ns b. needs TooManyPlaces (eqb (length es) (length ns)) (finish pred room (fill t ns (map place_of es) b))) NotQuantified (quantified f))))

abbrev pub exact_places : ℕ → List ℕ → Outcome
exact_places n row = with_list Places row (λ es. needs TooManyPlaces (leb n 32 && eqb (length es) n) (answer []))

-- a list with as many places as declarations has none missing
none-missing : (n : ℕ) (es : List Entry) → length es ≡ n → places_for n es ≡ map place_of es
none-missing n es e =
    let z : n - length es ≡ 0 = omega arith in
    rw z (append-nil (map place_of es))

-- the same outcome, unless the former one was a refusal by 5
abbrev Same : Outcome → Outcome → Type 0
Same old new = (old ≡ stop TooManyPlaces → ⊥) → new ≡ old

same-needs : (k : Refusal) (b : Bool) (old new : Outcome) → Same old new → Same (needs k b old) (needs k b new)
same-needs k true old new h = h
same-needs k false old new h = λ z. refl

-- where the first test holds, so does the second, and then what follows is the same
same_count : (b c : Bool) (old new : Outcome) → (b ≡ true → (c ≡ true) × (new ≡ old)) → Same (needs TooManyPlaces b old) (needs TooManyPlaces c new)
same_count true c old new h = λ z. rw (h refl).0 (h refl).1
same_count false c old new h = λ z. absurd (z refl)

same-form : (p : ℕ) (o : Found) (old new : Sort → Form → Outcome) → ((s : Sort) (f : Form) → Same (old s f) (new s f)) → Same (of_found p old o) (of_found p new o)
same-form p (found s f) old new h = h s f
same-form p missing old new h = λ z. refl

same-list : (p : ℕ) (o : Option (List Entry)) (old new : List Entry → Outcome) → ((es : List Entry) → Same (old es) (new es)) → Same (of_list p old o) (of_list p new o)
same-list p (some es) old new h = h es
same-list p absent old new h = λ z. refl

same-quantified : (k : Refusal) (q : Quantified) (old new : ℕ → List Decl → Form → Outcome) → ((t : ℕ) (ns : List Decl) (b : Form) → Same (old t ns b) (new t ns b)) → Same (of_quantified old k q) (of_quantified new k q)
same-quantified k (quantifier t ns b) old new h = h t ns b
same-quantified k other old new h = λ z. refl

-- empty places at the end of a list
abbrev none-there : ℕ → List Entry
none-there k = replicate k (entry 0 kept)

append-row : (es fs : List Entry) → encode_list (es ++ fs) ≡ encode_list es ++ encode_list fs
unfolding encode_list
append-row [] fs = refl
append-row (e ∷ es) fs = rw (append-row es fs) (sym (append_assoc (entry_words e) (encode_list es) (encode_list fs)))

none_row : (k : ℕ) → encode_list (none-there k) ≡ replicate k 0
unfolding encode_list entry_words
none_row zero = refl
none_row (suc k) = ap (λ z. 0 ∷ z) (none_row k)

none-good : (es : List Entry) (k : ℕ) → GoodAll Places es → GoodAll Places (es ++ none-there k)
none-good [] zero g = tt
none-good [] (suc k) g = (refl, none-good [] k tt)
none-good (e ∷ es) k g = (g.0, none-good es k g.1)

list-longer : (list : List ℕ) (es : List Entry) (k : ℕ) → list_of Places list ≡ some es → list_of Places (list ++ replicate k 0) ≡ some (es ++ none-there k)
list-longer list es k e =
    let (w, g) = list-sound Places list es e in
    let r : list ++ replicate k 0 ≡ encode_list (es ++ none-there k) = rw (w, append-row es (none-there k), none_row k) in
    rw r (list-encode Places (es ++ none-there k) (none-good es k g))

module _ (list row : List ℕ) (work room : ℕ) where
  same-fill : (t : ℕ) (ns : List Decl) (b : Form) (es : List Entry) → Same (needs TooManyPlaces (eqb (length es) (length ns)) (finish pred room (fill t ns (map place_of es) b))) (needs TooManyPlaces (leb (length es) (length ns)) (finish pred room (fill t ns (places_for (length ns) es) b)))
  same-fill t ns b es =
      same_count (eqb (length es) (length ns)) (leb (length es) (length ns)) _ _
      (λ q. let e = eqb-true (length es) (length ns) q in (le-leb (length es) (length ns) (omega arith), ap (λ z. finish pred room (fill t ns z b)) (none-missing (length ns) es e)))

  -- what the former rule did not refuse by 5 has the same outcome
  pub fill-same : (exact_fill list row work room ≡ stop TooManyPlaces → ⊥) → fill_outcome list row work room ≡ exact_fill list row work room
  unfolding fill_outcome
  fill-same =
      same-needs WorkTooShort (leb 16384 work) _ _
      (same-needs TooLong (leb (length row) 8192) _ _
      (same-form (break_at Predicate row) (form_of Predicate row) _ _
      (λ s f. same-needs TooLong (leb (length list) 8192) _ _
      (same-list (break_list Places list) (list_of Places list) _ _ (λ es. same-quantified NotQuantified (quantified f) _ _ (λ t ns b. same-fill t ns b es))))))

  pub fill-answered : (ws : List ℕ) → exact_fill list row work room ≡ answer ws → fill_outcome list row work room ≡ answer ws
  fill-answered ws e = fill-same (λ z. absurd (clash cc)) ∙ e

  pub fill-refused : (r : Refusal) → exact_fill list row work room ≡ stop r → (r ≡ TooManyPlaces → ⊥) → fill_outcome list row work room ≡ stop r
  fill-refused r e n = fill-same (λ z. let x : stop r ≡ stop TooManyPlaces = sym e ∙ z in n cc) ∙ e

  -- of a quantified predicate and a list of places
  module _ (s : Sort) (f : Form) (form : form_of Predicate row ≡ found s f) (es : List Entry) (places : list_of Places list ≡ some es) (t : ℕ) (ns : List Decl) (b : Form) (quant : quantified f ≡ quantifier t ns b) where
    -- more places than declarations: as before, which is 5 where no other refusal comes first
    pub fill-over : length ns < length es → fill_outcome list row work room ≡ exact_fill list row work room
    unfolding fill_outcome
    fill-over h =
        let d : length es ≡ length ns → ⊥ = λ e. omega (arith, e) in
        rw (form, places, quant, lt-leb (length es) (length ns) h, ne_eqb (length es) (length ns) d)

    pub fill-over-5 : 16384 ≤ work → length row ≤ 8192 → length list ≤ 8192 → length ns < length es → fill_outcome list row work room ≡ stop TooManyPlaces
    unfolding fill_outcome
    fill-over-5 w r l h = rw (le-leb 16384 work w, le-leb (length row) 8192 r, form, le-leb (length list) 8192 l, places, quant, lt-leb (length es) (length ns) h)

    -- a list without its last empty places is answered as the former rule answers the list with them
    pub missing-kept : length es ≤ length ns → length list + (length ns - length es) ≤ 8192 → fill_outcome list row work room ≡ exact_fill (list ++ replicate (length ns - length es) 0) row work room
    unfolding fill_outcome
    missing-kept h fits =
        let k = length ns - length es in
        let c : length (es ++ none-there k) ≡ length ns = rw (length-append, length-replicate) (omega arith) in
        let l : length (list ++ replicate k 0) ≤ 8192 = rw (length-append, length-replicate) fits in
        let p : map place_of (es ++ none-there k) ≡ places_for (length ns) es = rw (map-append, map-replicate) in
        rw (form, places, quant, le-leb (length list) 8192 (omega arith), le-leb (length es) (length ns) h, le-leb (length (list ++ replicate k 0)) 8192 l, list-longer list es k places, eq-eqb (length (es ++ none-there k)) (length ns) c, p)

-- the check of places
same-places : (n : ℕ) (es : List Entry) (b : Bool) → leb n 32 ≡ b → Same (needs TooManyPlaces (b && eqb (length es) n) (answer [])) (needs TooManyPlaces (b && leb (length es) n) (answer []))
same-places n es true h = same_count (eqb (length es) n) (leb (length es) n) _ _ (λ q. let e = eqb-true (length es) n q in (le-leb (length es) n (omega arith), refl))
same-places n es false h = λ z. refl

pub places_same : (n : ℕ) (row : List ℕ) → (exact_places n row ≡ stop TooManyPlaces → ⊥) → places_outcome n row ≡ exact_places n row
unfolding places_outcome
places_same n row = same-needs TooLong (leb (length row) 8192) _ _ (same-list (break_list Places row) (list_of Places row) _ _ (λ es. same-places n es (leb n 32) refl))

pub places-over : (n : ℕ) (row : List ℕ) (es : List Entry) → list_of Places row ≡ some es → n < length es → places_outcome n row ≡ exact_places n row
unfolding places_outcome
places-over n row es e h =
    let d : length es ≡ n → ⊥ = λ q. omega (arith, q) in
    rw (e, lt-leb (length es) n h, ne_eqb (length es) n d)

pub places-fewer : (n : ℕ) (row : List ℕ) (es : List Entry) → list_of Places row ≡ some es → length row ≤ 8192 → n ≤ 32 → length es ≤ n → places_outcome n row ≡ answer []
unfolding places_outcome
places-fewer n row es e l m h = rw (le-leb (length row) 8192 l, e, le-leb n 32 m, le-leb (length es) n h)

-- the check tells of every list what a fill of that many declarations says of it
module _ (list row : List ℕ) (work room : ℕ) (enough : 16384 ≤ work) (short : length row ≤ 8192) (s : Sort) (f : Form) (form : form_of Predicate row ≡ found s f)
    (t : ℕ) (ns : List Decl) (b : Form) (quant : quantified f ≡ quantifier t ns b) (few : length ns ≤ 32) where
  abbrev filled_by : List Entry → Outcome
  filled_by es = finish pred room (fill t ns (places_for (length ns) es) b)

  after-row : fill_outcome list row work room ≡ with_list Places list (λ es. needs TooManyPlaces (leb (length es) (length ns)) (filled_by es))
  unfolding fill_outcome
  after-row =
      rw (le-leb 16384 work enough, le-leb (length row) 8192 short, form)
      (ap (λ z. with_list Places list (λ es. of_quantified (λ t ns b. needs TooManyPlaces (leb (length es) (length ns)) (finish pred room (fill t ns (places_for (length ns) es) b))) NotQuantified z)) quant)

  counted : (es : List Entry) (c : Bool) (k : Refusal) → needs TooManyPlaces c (answer []) ≡ stop k → needs TooManyPlaces c (filled_by es) ≡ stop k
  counted es true k h = absurd (clash cc)
  counted es false k h = h

  listed : (c : Bool) (o : Option (List Entry)) (q : ℕ) (k : Refusal) → pick c (of_list q (λ es. needs TooManyPlaces (leb (length ns) 32 && leb (length es) (length ns)) (answer [])) o) (stop TooLong) ≡ stop k
      → pick c (of_list q (λ es. needs TooManyPlaces (leb (length es) (length ns)) (filled_by es)) o) (stop TooLong) ≡ stop k
  listed false o q k h = h
  listed true absent q k h = h
  listed true (some es) q k h = counted es (leb (length es) (length ns)) k (rw (le-leb (length ns) 32 few) at h)

  pub check-refuses : (k : Refusal) → places_outcome (length ns) list ≡ stop k → fill_outcome list row work room ≡ stop k
  unfolding places_outcome
  check-refuses k h = after-row ∙ listed (leb (length list) 8192) (list_of Places list) (break_list Places list) k h

  pub check-takes : (es : List Entry) → list_of Places list ≡ some es → places_outcome (length ns) list ≡ answer [] → fill_outcome list row work room ≡ filled_by es
  unfolding places_outcome
  check-takes es e h = after-row ∙ go (leb (length list) 8192) refl (leb (length es) (length ns)) refl
    where
      go : (c : Bool) → leb (length list) 8192 ≡ c → (d : Bool) → leb (length es) (length ns) ≡ d → with_list Places list (λ es. needs TooManyPlaces (leb (length es) (length ns)) (filled_by es)) ≡ filled_by es
      go true l true m = rw (l, e, m)
      go true l false m = let x = rw (l, e, le-leb (length ns) 32 few, m) at h in absurd (clash cc)
      go false l d m = let x = rw l at h in absurd (clash cc)
