-- The heads of quantifiers with the declarations that are kept: they have room, and are those of the tree. Assumes nothing.
use mathlib.Core.Path.{◌≡◌, refl, ap, sym, ◌∙◌}
use mathlib.Core.Bool.{Bool, true, false, cond, ◌&&◌, ◌||◌}
use mathlib.Core.List.{List, [], ◌∷◌, ◌++◌, map}
use Prim.Native.Nat.{ℕ, zero, suc, ◌+◌, ◌-◌, ◌*◌, ◌≤◌, ◌<◌}
use native.Mathlib.Nat.{zero-add}
use native.Mathlib.Omega.{arith}
use borrow.Author.Tests.{le-leb, lt-leb, leb-true, leb-false, eq-eqb, ne_eqb}
use lib.Dec.{leb, eqb}
use lib.ListN.{length, get_or, take, drop, set, length-append, length-drop, length-map}
use lib.Seq.{take_at}
use Rattle.std.specs.List.{count_by}
use Rattle.std.proofs.lemmas.List.Recursion.{is_count_by}
use Rattle.tree.specs.Form.{Form, pick, encode, encode_decls}
use Rattle.form.specs.Lists.{Place, kept, filled}
use Rattle.form.proofs.HeadLaws.{here, gone}
use Rattle.rules.specs.Fill.{Decl, unnoted, name_of, unlisted, any_noted, kept_decls, quantify}
use Rattle.rules.proofs.WalkLaws.{and_left, and_right}
use Rattle.shift.specs.Internal.Items.{store}
use Rattle.shift.proofs.ItemLaws.{store-front}
use Rattle.shift.proofs.AroundLaws.{head_of, encode-around}
use Rattle.replace.specs.Internal.Pieces.{part}
use Rattle.replace.proofs.FillTree.{word_for}
use Rattle.decls.specs.Internal.Noted.{decl_end, keeps_note, part_if, kept_parts, kept_in, head_fits, parts_head, noted_head, flagged_parts, flagged_end, names_fit}
use Rattle.decls.proofs.DeclLaws.{GoodDecls, decls-long}
use Rattle.decls.proofs.CountLaws.{op-range}
use Rattle.decls.proofs.NotedLaws.{decl-in, note-kept, parts-full, parts-names}

-- the head of declarations that may be none
abbrev pub quant_head : ℕ → List Decl → List ℕ
quant_head t [] = []
quant_head t (d ∷ ds) = head_of t (d ∷ ds)

pub encode-head : (t : ℕ) (ds : List Decl) (b : Form) → encode (quantify t ds b) ≡ quant_head t ds ++ encode b
encode-head t [] b = refl
encode-head t (d ∷ ds) b = encode-around t 0 (d ∷ ds) b

-- how many are kept, and no more than the words
counts : (b : Bool) (n : ℕ) → pick b 1 0 + n ≡ cond b (1 + n) n
counts true n = refl
counts false n = zero-add n

pub kept_counted : (ws : List ℕ) → kept_in ws ≡ count_by (λ w. eqb w 0) ws
unfolding kept_in
kept_counted ws = is_count_by kept_in (λ w. eqb w 0) refl (λ w l. counts (eqb w 0) (kept_in l)) ws

kept-one : (b : Bool) → pick b 1 0 ≤ 1
kept-one true = omega arith
kept-one false = omega arith

pub kept-most : (ws : List ℕ) → kept_in ws ≤ length ws
unfolding kept_in
kept-most [] = omega arith
kept-most (w ∷ ws) = let h = kept-most ws in let k = kept-one (eqb w 0) in omega arith

pub kept-in : (ps : List Place) (ds : List Decl) → length ps ≡ length ds → kept_in (map word_for ps) ≡ length (kept_decls ps ds)
unfolding kept_in
kept-in [] ds e = refl
kept-in (x ∷ ps) [] e = absurd (omega arith)
kept-in (kept ∷ ps) (d ∷ ds) e = let h = kept-in ps ds (omega arith) in omega arith
kept-in (filled x ∷ ps) (d ∷ ds) e = let h = kept-in ps ds (omega arith) in omega arith

-- the parts have room
take-most : (n : ℕ) (l : List ℕ) → length (take n l) ≤ n
take-most zero l = omega arith
take-most (suc n) [] = omega arith
take-most (suc n) (x ∷ l) = let h = take-most n l in omega arith

part-most : (w p e : ℕ) (row : List ℕ) → length (part_if w p e row) ≤ e - p
unfolding part_if part
part-most w p e row = go (eqb w 0)
  where
    go : (b : Bool) → length (pick b (take (e - p) (drop p row)) []) ≤ e - p
    go true = take-most (e - p) (drop p row)
    go false = omega arith

full-most : (row ws : List ℕ) (p : ℕ) → p ≤ length row → p + length (kept_parts true row ws p) ≤ length row
unfolding kept_parts
full-most row [] p h = omega arith
full-most row (w ∷ ws) p h =
    let (a, b) = decl-in row p h in
    let k = full-most row ws (decl_end row p) b in
    let m = part-most w p (decl_end row p) row in
    let l = length-append (part_if w p (decl_end row p) row) (kept_parts true row ws (decl_end row p)) in
    omega arith

names-most : (row ws : List ℕ) (p : ℕ) → length (kept_parts false row ws p) ≤ length ws
unfolding kept_parts
names-most row [] p = omega arith
names-most row (w ∷ ws) p =
    let k = names-most row ws (decl_end row p) in
    let m = part-most w p (p + 1) row in
    let l = length-append (part_if w p (p + 1) row) (kept_parts false row ws (decl_end row p)) in
    omega arith

-- what a head that fits has
pub record Fit (n words room : ℕ) : Type 0 where
  pub few : n ≤ 32
  pub long : 2 + n ≤ words
  pub short : words ≤ 8192
  pub room_for : words ≤ room

module _ (n words room : ℕ) where
  pub fit_all : head_fits n words room ≡ true → Fit n words room
  unfolding head_fits
  fit_all h =
      let a = and_left (leb n 32) (leb (2 + n) words && (leb words 8192 && leb words room)) h in
      let b = and_right (leb n 32) (leb (2 + n) words && (leb words 8192 && leb words room)) h in
      let c = and_left (leb (2 + n) words) (leb words 8192 && leb words room) b in
      let d = and_right (leb (2 + n) words) (leb words 8192 && leb words room) b in
      record {
        few = leb-true n 32 a;
        long = leb-true (2 + n) words c;
        short = leb-true words 8192 (and_left (leb words 8192) (leb words room) d);
        room_for = leb-true words room (and_right (leb words 8192) (leb words room) d);
      }

  pub fits : n ≤ 32 → 2 + n ≤ words → words ≤ 8192 → words ≤ room → head_fits n words room ≡ true
  unfolding head_fits
  fits a b c d = rw (le-leb n 32 a, le-leb (2 + n) words b, le-leb words 8192 c, le-leb words room d)

  pub not-long : n ≤ 32 → words < 2 + n → false ≡ head_fits n words room
  unfolding head_fits
  not-long few h = rw (le-leb n 32 few, lt-leb (2 + n) words h)

-- room for the row is enough
pub room-enough : (op : ℕ) (ws row : List ℕ) (r s : ℕ) → length row ≤ r → length row ≤ s → noted_head op ws row r ≡ noted_head op ws row s
unfolding noted_head head_fits
room-enough op ws row r s h k = rw (le-leb (length row) r h, le-leb (length row) s k)

pub parts-fit : (full : Bool) (row ws : List ℕ) (room : ℕ) → Fit (length ws) (length row) room → 2 + length (kept_parts full row ws 2) ≤ room
parts-fit true row ws room f =
    let a = f.long in
    let b = f.room_for in
    let c = full-most row ws 2 (omega arith) in
    omega arith
parts-fit false row ws room f =
    let a = f.long in
    let b = f.room_for in
    let c = names-most row ws 2 in
    omega arith

-- the head as it is written
pub head-written : (t n p : ℕ) (ks l l' : List ℕ) → 2 + length ks ≤ length l → l' ≡ store l 2 ks → p ≡ 2 + length ks → take p (set (set l' 0 t) 1 n) ≡ t ∷ n ∷ ks
head-written t n p ks [] l' h e q = absurd (omega arith)
head-written t n p ks (a ∷ []) l' h e q = absurd (omega arith)
head-written t n p ks (a ∷ b ∷ l) l' h e q =
    let s = store-front (a ∷ b ∷ []) l ks 2 refl (omega arith) in
    let o : p ≡ suc (suc (length ks)) = omega arith in
    rw (e ∙ s, o) (ap (λ z. t ∷ n ∷ z) (take_at ks (drop (length ks) l) (length ks) refl))

pub ruleset written_heads = (fit_all, parts-fit, head-written)

module _ (op : ℕ) (ws row : List ℕ) (room : ℕ) (low : op ≤ 852) where
  pub noted-tight : head_fits (length ws) (length row) room ≡ false → [] ≡ noted_head op ws row room
  unfolding noted_head
  noted-tight h = rw (le-leb op 852 low, h)

  noted-is : head_fits (length ws) (length row) room ≡ true → noted_head op ws row room ≡ parts_head op (kept_in ws) (keeps_note row ws 2) (kept_parts (keeps_note row ws 2) row ws 2)
  unfolding noted_head
  noted-is fit = rw (le-leb op 852 low, fit)

-- the head on the tree
parts-head : (op n : ℕ) (es : List Decl) → n ≡ length es → (full : Bool) → full ≡ any_noted es → (ks : List ℕ) → ks ≡ pick full (encode_decls (unlisted es)) (map name_of es) → parts_head op n full ks ≡ quant_head op es
unfolding parts_head
parts-head op n [] e full f ks k = rw (eq-eqb n 0 e)
parts-head op n (d ∷ es) e true f ks k = rw (ne_eqb n 0 (λ h. omega arith), e, k, ← f)
parts-head op n (d ∷ es) e false f ks k = rw (ne_eqb n 0 (λ h. omega arith), e, k, ← f)

head-none : (op : ℕ) (ps : List Place) (ds : List Decl) → length ds ≡ 0 → quant_head op (kept_decls ps ds) ≡ []
head-none op [] ds h = refl
head-none op (p ∷ ps) [] h = refl
head-none op (p ∷ ps) (d ∷ ds) h = absurd (omega arith)

module _ (ps : List Place) (ds : List Decl) (row r : List ℕ) (room : ℕ) (same : length ps ≡ length ds) (g : GoodDecls ds) (e : drop 2 row ≡ encode_decls (unlisted ds) ++ r) (few : length ds ≤ 32)
    (short : length row ≤ 8192) (space : length row ≤ room) where
  pub decls-fit : 2 ≤ length row → head_fits (length (map word_for ps)) (length row) room ≡ true
  decls-fit h =
      let m = length-map ps word_for in
      let l = length-drop 2 row in
      let k = ap length e ∙ length-append (encode_decls (unlisted ds)) r in
      let d = decls-long ds in
      fits (length (map word_for ps)) (length row) room (omega arith) (omega arith) short space

  kept-words : (full : Bool) → kept_parts full row (map word_for ps) 2 ≡ pick full (encode_decls (unlisted (kept_decls ps ds))) (map name_of (kept_decls ps ds))
  kept-words true = parts-full row ps ds 2 r same g e
  kept-words false = parts-names row ps ds 2 r same g e

  long-noted : 2 ≤ length row → (op : ℕ) → (eqb op 851 || eqb op 852) ≡ true → noted_head op (map word_for ps) row room ≡ quant_head op (kept_decls ps ds)
  long-noted two op which =
      noted-is op (map word_for ps) row room (op-range op which).1 (decls-fit two)
      ∙ parts-head op (kept_in (map word_for ps)) (kept_decls ps ds) (kept-in ps ds same) (keeps_note row (map word_for ps) 2) (note-kept row ps ds 2 r same g e) _ (kept-words (keeps_note row (map word_for ps) 2))

  short-noted : length row < 2 → (op : ℕ) → (eqb op 851 || eqb op 852) ≡ true → noted_head op (map word_for ps) row room ≡ quant_head op (kept_decls ps ds)
  short-noted h op which =
      let m = length-map ps word_for in
      let l = length-drop 2 row in
      let k = ap length e ∙ length-append (encode_decls (unlisted ds)) r in
      let d = decls-long ds in
      sym (noted-tight op (map word_for ps) row room (op-range op which).1 (sym (not-long (length (map word_for ps)) (length row) room (omega arith) (omega arith))))
      ∙ sym (head-none op ps ds (omega arith))

  pub noted-head : (op : ℕ) → (eqb op 851 || eqb op 852) ≡ true → noted_head op (map word_for ps) row room ≡ quant_head op (kept_decls ps ds)
  noted-head op which = go (leb 2 (length row)) refl
    where
      go : (b : Bool) → leb 2 (length row) ≡ b → noted_head op (map word_for ps) row room ≡ quant_head op (kept_decls ps ds)
      go true h = long-noted (leb-true 2 (length row) h) op which
      go false h = short-noted (leb-false 2 (length row) h) op which

  pub flagged-parts : 2 ≤ length row → flagged_parts (map word_for ps) row room ≡ encode_decls (unlisted (kept_decls ps ds))
  unfolding flagged_parts
  flagged-parts two = rw (decls-fit two) (parts-full row ps ds 2 r same g e)

  pub flagged-end : 2 ≤ length row → flagged_end (map word_for ps) row room ≡ 2 + length (encode_decls (unlisted (kept_decls ps ds)))
  unfolding flagged_end
  flagged-end two = rw (decls-fit two, parts-full row ps ds 2 r same g e)

-- the words from 2 on, as stored
pub stored-behind : (l ws : List ℕ) → 2 + length ws ≤ length l → drop 2 (take (2 + length ws) (store l 2 ws)) ≡ ws
stored-behind [] ws h = absurd (omega arith)
stored-behind (a ∷ []) ws h = absurd (omega arith)
stored-behind (a ∷ b ∷ l) ws h =
    let o : 2 + length ws ≡ suc (suc (length ws)) = omega arith in
    rw (store-front (a ∷ b ∷ []) l ws 2 refl (omega arith), o) (take_at ws (drop (length ws) l) (length ws) refl)

-- names with flags
pub flags-length : (ns : List ℕ) → length (encode_decls (unlisted (map unnoted ns))) ≡ 2 * length ns
unfolding encode
flags-length [] = refl
flags-length (n ∷ ns) = let h = flags-length ns in omega arith

module _ (ns : List ℕ) (i : ℕ) where
  pub flags-next : i < length ns → encode_decls (unlisted (map unnoted (drop i ns))) ≡ get_or ns i 0 ∷ 0 ∷ encode_decls (unlisted (map unnoted (drop (i + 1) ns)))
  unfolding encode
  flags-next h = rw (here ns i h)

  pub flags-more : i < length ns → (l : List ℕ) (p : ℕ) → store l p (encode_decls (unlisted (map unnoted (drop i ns)))) ≡ store (set (set l p (get_or ns i 0)) (p + 1) 0) (p + 2) (encode_decls (unlisted (map unnoted (drop (i + 1) ns))))
  unfolding store
  flags-more h l p = let q : p + 2 ≡ p + 1 + 1 = omega arith in rw (flags-next h, q)

  pub flags-end : length ns ≤ i → (l : List ℕ) (p : ℕ) → store l p (encode_decls (unlisted (map unnoted (drop i ns)))) ≡ l
  unfolding store encode
  flags-end h l p = rw (gone ns i h)

pub names-fit : (n room : ℕ) → n ≤ 32 → 2 + 2 * n ≤ room → names_fit n room ≡ true
unfolding names_fit
names-fit n room few h = rw (le-leb n 32 few, le-leb (2 + 2 * n) room h)

pub ruleset flag_steps = (flags-more, flags-end)
