-- The words of a head as they are written, and the answers of the tests. Assumes nothing.
use mathlib.Core.Path.{◌≡◌, refl, ap, sym, ◌∙◌}
use mathlib.Core.Bool.{Bool, true, false, ◌&&◌}
use mathlib.Core.List.{List, [], ◌∷◌, ◌++◌, append_assoc, map}
use Prim.Native.Nat.{ℕ, zero, suc, ◌+◌, ◌-◌, ◌*◌, ◌≤◌}
use native.Mathlib.Omega.{arith}
use borrow.Author.Tests.{le-leb, leb-true, eq-eqb, ne_eqb}
use lib.Dec.{leb, eqb}
use lib.ListN.{length, get_or, take, drop, set, length-append, length-drop, take-append-drop}
use lib.Seq.{take_at, length-take-le, get_or-take}
use Rattle.tree.specs.Form.{pick, encode_decls}
use Rattle.rules.specs.Fill.{unnoted, unlisted}
use Rattle.rules.proofs.WalkLaws.{and_left, and_right}
use Rattle.shift.specs.Internal.Items.{store}
use Rattle.shift.proofs.ItemLaws.{store-front}
use Rattle.decls.specs.Internal.Noted.{decls_end, keeps_note, kept_parts, kept_in, head_fits, parts_head, noted_head, flagged_parts, flagged_end, names_fit}
use Rattle.decls.proofs.HeadLaws.{Fit, fit_all, kept-most, parts-fit, stored-behind, flags-length, names-fit}
use Rattle.rounds.specs.Internal.Round.{longer_head, names_behind, inner_names, head_names, head_notes, can_join, join_fits, HeadTold}
use Rattle.rounds.specs.declared.rounds.Round.{Round}
use Rattle.std.specs.Prelude.{Option}
use Rattle.std.proofs.lemmas.List.{length-take}

-- what is told of a head, by equal tests, words and positions
pub told_as : {a b : Bool} {ws vs : List ℕ} {i j : ℕ} (r : Option Round) (row : List ℕ) → a ≡ b → ws ≡ vs → i ≡ j → HeadTold a ws i r row → HeadTold b vs j r row
told_as r row p q s t = rw (← p, ← q, ← s) t

-- what can be joined
pub record Join (h k words : ℕ) : Type 0 where
  pub two : 2 ≤ h
  pub few : k ≤ 32
  pub long : 2 + k ≤ words

pub join_all : (h k words : ℕ) → can_join h k words ≡ true → Join h k words
unfolding can_join
join_all h k words e =
    let b = and_right (leb 2 h) (leb k 32 && leb (2 + k) words) e in
    record {
      two = leb-true 2 h (and_left (leb 2 h) (leb k 32 && leb (2 + k) words) e);
      few = leb-true k 32 (and_left (leb k 32) (leb (2 + k) words) b);
      long = leb-true (2 + k) words (and_right (leb k 32) (leb (2 + k) words) b);
    }

-- words put behind the first ones of a head
inner-stored : (tag m h : ℕ) (inner l : List ℕ) → 2 ≤ h → h + length inner ≤ length l → take (h + length inner) (set (set (store l h inner) 0 tag) 1 m) ≡ tag ∷ m ∷ (drop 2 (take h l) ++ inner)
inner-stored tag m zero inner l a b = absurd (omega arith)
inner-stored tag m (suc zero) inner l a b = absurd (omega arith)
inner-stored tag m (suc (suc h)) inner [] a b = absurd (omega arith)
inner-stored tag m (suc (suc h)) inner (x ∷ []) a b = absurd (omega arith)
inner-stored tag m (suc (suc h)) inner (x ∷ y ∷ l) a b =
    let k : length (take h l) ≡ h = length-take-le h l (omega arith) in
    let d = length-drop h l in
    let s : store (x ∷ y ∷ l) (suc (suc h)) inner ≡ x ∷ y ∷ (take h l ++ (inner ++ drop (length inner) (drop h l))) = ap (λ z. store (x ∷ y ∷ z) (suc (suc h)) inner) (sym (take-append-drop h l)) ∙ store-front (x ∷ y ∷ take h l) (drop h l) inner (suc (suc h)) (omega arith) (omega arith) in
    let o : suc (suc h) + length inner ≡ suc (suc (h + length inner)) = omega arith in
    let n : length (take h l ++ inner) ≡ h + length inner = length-append (take h l) inner ∙ ap (λ z. z + length inner) k in
    rw (s, o, ← append_assoc (take h l)) (ap (λ z. tag ∷ m ∷ z) (take_at (take h l ++ inner) (drop (length inner) (drop h l)) (h + length inner) n))

module _ (h : ℕ) (inner l : List ℕ) (two : 2 ≤ h) (room : 8192 ≤ length l) where
  pub inner-put : h + length inner ≤ 8192 → (tag m : ℕ) (l' : List ℕ) → l' ≡ pick (leb (h + length inner) (length l)) (store l h inner) l
      → take (h + length inner) (set (set l' 0 tag) 1 m) ≡ tag ∷ m ∷ (drop 2 (take h l) ++ inner)
  inner-put a tag m l' e =
      let s : l' ≡ store l h inner = rw (le-leb (h + length inner) (length l) (omega arith)) at e in
      rw s (inner-stored tag m h inner l two (omega arith))

-- the first words of a head as a head
module _ (h : ℕ) (l : List ℕ) (two : 2 ≤ h) (room : h ≤ length l) where
  longer-length : (k : ℕ) (inner : List ℕ) → length (longer_head (take h l) k inner) ≡ h + length inner
  unfolding longer_head
  longer-length k inner =
      let a = length-append (drop 2 (take h l)) inner in
      let b = length-drop 2 (take h l) in
      let c = length-take-le h l room in
      omega arith

  longer-is : (k : ℕ) (inner : List ℕ) → longer_head (take h l) k inner ≡ get_or l 0 0 ∷ (get_or l 1 0 + k) ∷ (drop 2 (take h l) ++ inner)
  unfolding longer_head
  longer-is k inner = rw (get_or-take h l 0 0 (omega arith), get_or-take h l 1 0 (omega arith))

-- refused by the test
module _ (h : ℕ) (l body whole : List ℕ) (room : h ≤ length l) where
  pub join_by : can_join h (get_or body 1 0) (length body) ≡ true → (n : ℕ) → length whole ≡ n → join_fits (take h l) body whole ≡ leb n 8192
  unfolding join_fits
  join_by c n e = rw (length-take-le h l room, c, e)

-- joined with names
module _ (op h : ℕ) (l body : List ℕ) (room : h ≤ length l) (c : can_join h (get_or body 1 0) (length body) ≡ true) where
  module _ (inner : List ℕ) (same : inner ≡ inner_names op (get_or l 0 0) body) where
    names-is : head_names op (take h l) body ≡ get_or l 0 0 ∷ (get_or l 1 0 + get_or body 1 0) ∷ (drop 2 (take h l) ++ inner)
    unfolding head_names
    names-is =
        let two = (join_all h (get_or body 1 0) (length body) c).two in
        rw (get_or-take h l 0 0 (omega arith), ← same) (longer-is h l two room (get_or body 1 0) inner)

    names-length : length (head_names op (take h l) body) ≡ h + length inner
    unfolding head_names
    names-length =
        let two = (join_all h (get_or body 1 0) (length body) c).two in
        rw (get_or-take h l 0 0 (omega arith), ← same) (longer-length h l two room (get_or body 1 0) inner)

    pub names-told : (k : ℕ) → k ≡ get_or body 1 0 → (r : Option Round) (to : List ℕ) → HeadTold (leb (h + length inner) 8192) (get_or l 0 0 ∷ (get_or l 1 0 + k) ∷ (drop 2 (take h l) ++ inner)) (2 + k) r to
        → HeadTold (join_fits (take h l) body (head_names op (take h l) body)) (head_names op (take h l) body) (2 + get_or body 1 0) r to
    names-told k q r to = told_as r to (sym (join_by h l body (head_names op (take h l) body) room c (h + length inner) names-length)) (rw q (sym names-is)) (rw q)

-- the names of the body, as they are and with flags
module _ (op t : ℕ) (body : List ℕ) where
  pub names-plain : t ≡ op → (k : ℕ) → k ≡ get_or body 1 0 → take (2 + k - 2) (drop 2 body) ≡ inner_names op t body
  unfolding inner_names names_behind
  names-plain e k q = let o : 2 + k - 2 ≡ k = omega arith in rw (o, q, eq-eqb t op e)

  pub names-flagged : (t ≡ op → ⊥) → (ns : List ℕ) → ns ≡ take (get_or body 1 0) (drop 2 body) → encode_decls (unlisted (map unnoted ns)) ≡ inner_names op t body
  unfolding inner_names names_behind
  names-flagged e ns q = rw (q, ne_eqb t op e)

  pub names-taken : (k : ℕ) → k ≡ get_or body 1 0 → take (2 + k - 2) (drop 2 body) ≡ take (get_or body 1 0) (drop 2 body)
  names-taken k q = let o : 2 + k - 2 ≡ k = omega arith in rw (o, q)

  pub names-count : (k : ℕ) → k ≤ 32 → length (take (2 + k - 2) (drop 2 body)) ≤ 32
  names-count k h = simp length-take (omega arith)

-- names with flags in a row of 66 words
stored-part : (l ws : List ℕ) (n : ℕ) → 2 + length ws ≤ length l → n ≡ length ws → take n (drop 2 (store l 2 ws)) ≡ ws
stored-part [] ws n h e = absurd (omega arith)
stored-part (a ∷ []) ws n h e = absurd (omega arith)
stored-part (a ∷ b ∷ l) ws n h e = rw (store-front (a ∷ b ∷ []) l ws 2 refl (omega arith)) (take_at ws (drop (length ws) l) n (sym e))

module _ (ns l : List ℕ) (few : length ns ≤ 32) (room : length l ≡ 66) (e : ℕ) (l' : List ℕ) (a : e ≡ pick (names_fit (length ns) (length l)) (2 + 2 * length ns) 0) (b : l' ≡ pick (names_fit (length ns) (length l)) (store l 2 (encode_decls (unlisted (map unnoted ns)))) l) where
  fit-true : names_fit (length ns) (length l) ≡ true
  fit-true = names-fit (length ns) (length l) few (omega arith)

  pub flags-at : e ≡ 2 + 2 * length ns
  flags-at = rw fit-true at a

  pub flags-are : take (e - 2) (drop 2 l') ≡ encode_decls (unlisted (map unnoted ns))
  flags-are =
      let x = flags-at in
      let k = flags-length ns in
      let s : l' ≡ store l 2 (encode_decls (unlisted (map unnoted ns))) = rw fit-true at b in
      rw s (stored-part l (encode_decls (unlisted (map unnoted ns))) (e - 2) (omega arith) (omega arith))

-- a head of two words or more has declarations that are kept
module _ (op : ℕ) (ws row : List ℕ) where
  room_fits : (room : ℕ) → 8192 ≤ room → head_fits (length ws) (length row) room ≡ head_fits (length ws) (length row) 8192
  unfolding head_fits
  room_fits room h = go (leb (length row) 8192) refl
    where
      go : (b : Bool) → leb (length row) 8192 ≡ b → (leb (length ws) 32 && (leb (2 + length ws) (length row) && (leb (length row) 8192 && leb (length row) room))) ≡ (leb (length ws) 32 && (leb (2 + length ws) (length row) && (leb (length row) 8192 && leb (length row) 8192)))
      go true e = let k = leb-true (length row) 8192 e in rw (e, le-leb (length row) room (omega arith))
      go false e = rw e

  pub noted-room : (room : ℕ) → 8192 ≤ room → noted_head op ws row room ≡ noted_head op ws row 8192
  unfolding noted_head
  noted-room room h = rw (room_fits room h)

  pub end-room : (room : ℕ) → 8192 ≤ room → flagged_end ws row room ≡ flagged_end ws row 8192
  unfolding flagged_end
  end-room room h = rw (room_fits room h)

  pub parts-room : (room : ℕ) → 8192 ≤ room → flagged_parts ws row room ≡ flagged_parts ws row 8192
  unfolding flagged_parts
  parts-room room h = rw (room_fits room h)

  abbrev head_by : Bool → Bool → Bool → List ℕ
  head_by a f z = pick (a && f) (pick z [] (pick (keeps_note row ws 2) (op + 10) op ∷ kept_in ws ∷ kept_parts (keeps_note row ws 2) row ws 2)) []

  pub noted-some : 2 ≤ length (noted_head op ws row 8192) → (head_fits (length ws) (length row) 8192 ≡ true) × (get_or (noted_head op ws row 8192) 1 0 ≡ kept_in ws)
  unfolding noted_head parts_head
  noted-some h = go (leb op 852) (head_fits (length ws) (length row) 8192) (eqb (kept_in ws) 0) h
    where
      go : (a f z : Bool) → 2 ≤ length (head_by a f z) → (f ≡ true) × (get_or (head_by a f z) 1 0 ≡ kept_in ws)
      go true true true k = absurd (omega arith)
      go true true false k = (refl, refl)
      go true false z k = absurd (omega arith)
      go false f z k = absurd (omega arith)

  pub kept-few : 2 ≤ length (noted_head op ws row 8192) → kept_in ws ≤ 32
  kept-few h =
      let f = fit_all (length ws) (length row) 8192 (noted-some h).0 in
      let k = kept-most ws in
      let w = f.few in
      omega arith

  pub noted-short : length (noted_head op ws row 8192) ≤ 8192
  unfolding noted_head parts_head
  noted-short = go (leb op 852) (head_fits (length ws) (length row) 8192) refl (eqb (kept_in ws) 0)
    where
      go : (a f : Bool) → head_fits (length ws) (length row) 8192 ≡ f → (z : Bool) → length (head_by a f z) ≤ 8192
      go true true e true = omega arith
      go true true e false = let k = parts-fit (keeps_note row ws 2) row ws 8192 (fit_all (length ws) (length row) 8192 e) in omega arith
      go true false e z = omega arith
      go false f e z = omega arith

-- joined with the words of annotated declarations
module _ (op h : ℕ) (ws row l body : List ℕ) (room : h ≤ 8192) (long : 8192 ≤ length l) (is : take h l ≡ noted_head op ws row 8192) (c : can_join h (get_or body 1 0) (length body) ≡ true) where
  two : 2 ≤ h
  two = (join_all h (get_or body 1 0) (length body) c).two

  two-head : 2 ≤ length (noted_head op ws row 8192)
  two-head =
      let k : length (take h l) ≡ h = length-take-le h l (omega arith) in
      let n = ap length is in
      let t = two in
      omega arith

  fit : Fit (length ws) (length row) 8192
  fit = fit_all (length ws) (length row) 8192 (noted-some op ws row two-head).0

  pub kept-count : get_or l 1 0 ≡ kept_in ws
  kept-count = let t = two in sym (get_or-take h l 1 0 (omega arith)) ∙ (ap (λ z. get_or z 1 0) is ∙ (noted-some op ws row two-head).1)

  pub count-few : (get_or l 1 0 ≤ 32) × (get_or body 1 0 ≤ 32)
  count-few =
      let a = kept-count in
      let b = kept-few op ws row two-head in
      (omega arith, (join_all h (get_or body 1 0) (length body) c).few)

  parts_are : flagged_parts ws row 8192 ≡ kept_parts true row ws 2
  unfolding flagged_parts
  parts_are = rw (noted-some op ws row two-head).0

  end_is : flagged_end ws row 8192 ≡ 2 + length (kept_parts true row ws 2)
  unfolding flagged_end
  end_is = rw (noted-some op ws row two-head).0

  module _ (e : ℕ) (l' : List ℕ) (a : e ≡ flagged_end ws row (length l)) (b : l' ≡ store l 2 (flagged_parts ws row (length l))) where
    end-at : e ≡ 2 + length (kept_parts true row ws 2)
    end-at = a ∙ (end-room op ws row (length l) long ∙ end_is)

    pub end-in : (2 ≤ e) × (e ≤ 8192)
    end-in =
        let x = end-at in
        let y = parts-fit true row ws 8192 fit in
        (omega arith, omega arith)

    parts-behind : drop 2 (take e l') ≡ kept_parts true row ws 2
    parts-behind =
        let y = parts-fit true row ws 8192 fit in
        rw (b, parts-room op ws row (length l) long, parts_are, end-at) (stored-behind l (kept_parts true row ws 2) (omega arith))

    module _ (notes : List ℕ) where
      notes-is : head_notes op ws row notes body ≡ (op + 10) ∷ (get_or l 1 0 + get_or body 1 0) ∷ (drop 2 (take e l') ++ notes)
      unfolding head_notes
      notes-is = rw (parts_are, parts-behind, kept-count)

      notes-length : length (head_notes op ws row notes body) ≡ e + length notes
      unfolding head_notes
      notes-length =
          let x = end-at in
          let y = length-append (kept_parts true row ws 2) notes in
          rw parts_are (omega arith)

      pub notes-told : (k f : ℕ) → k ≡ get_or body 1 0 → f ≡ decls_end body 2 k → (r : Option Round) (to : List ℕ) → HeadTold (leb (e + length notes) 8192) ((op + 10) ∷ (get_or l 1 0 + k) ∷ (drop 2 (take e l') ++ notes)) f r to
          → HeadTold (join_fits (take h l) body (head_notes op ws row notes body)) (head_notes op ws row notes body) (decls_end body 2 (get_or body 1 0)) r to
      notes-told k f q s r to = told_as r to (sym (join_by h l body (head_notes op ws row notes body) (omega arith) c (e + length notes) notes-length)) (rw q (sym notes-is)) (rw (s, q))

-- the head that was written
pub record Written (op : ℕ) (ws row : List ℕ) (h : ℕ) (l : List ℕ) : Type 0 where
  pub is : take h l ≡ noted_head op ws row 8192
  pub short : h ≤ 8192
  pub few : 2 ≤ h → get_or l 1 0 ≤ 32

pub written : (op : ℕ) (ws row l : List ℕ) (h n : ℕ) → h ≤ length l → 8192 ≤ n → take h l ≡ noted_head op ws row n → Written op ws row h l
written op ws row l h n room wide is =
    let here : take h l ≡ noted_head op ws row 8192 = is ∙ noted-room op ws row n wide in
    let a = noted-short op ws row in
    let b = ap length here in
    let k = length-take-le h l room in
    record {
      is = here;
      short = omega arith;
      few = λ t.
          let w : 2 ≤ length (noted_head op ws row 8192) = omega arith in
          let q : get_or l 1 0 ≡ kept_in ws = sym (get_or-take h l 1 0 (omega arith)) ∙ (ap (λ z. get_or z 1 0) here ∙ (noted-some op ws row w).1) in
          let f = kept-few op ws row w in
          omega arith;
    }
