-- Parts of a row that are expressions so deep and of small words, as the code tests them; and the entries of a list whose parts are. Assumes nothing.
use mathlib.Core.Path.{◌≡◌, refl, sym, ◌∙◌}
use mathlib.Core.Bool.{Bool, true, false, ◌&&◌}
use mathlib.Core.List.{List, [], ◌∷◌, map, append-nil}
use mathlib.Core.Option.{some}
use Prim.Native.Nat.{ℕ, zero, suc, ◌+◌, ◌-◌, ◌≤◌, ◌<◌}
use native.Mathlib.Numerals.{add-one}
use native.Mathlib.Omega.{arith}
use borrow.Author.Tests.{le-leb, lt-leb, leb-true, leb-false, eqb-true, eqb-false}
use lib.Dec.{leb, eqb}
use lib.ListN.{length, get_or, take, drop, length-map, take-append-drop}
use Rattle.tree.specs.Form.{Form, leaf, node, noted, free, bound, pick, encode}
use Rattle.tree.specs.Tag.{expr}
use Rattle.form.specs.Answer.{is_one}
use Rattle.form.specs.Decode.{got, decode, Whole, one, not-one, whole}
use Rattle.form.specs.Lists.{Place, kept, filled, Entry, entry, place_of, place_words, list_of}
use Rattle.reader.specs.Internal.Reads.{Told, decode_in, empty_table, tabled}
use Rattle.reader.specs.declared.lists.Table.{Table}
use Rattle.form.specs.declared.answer.ListKind.{ListKind}
use Rattle.form.specs.declared.answer.ListKind.TheVariants.{Pairs, Places}
use Rattle.form.proofs.DecodeLaws.{clash, Ok, decode-encode}
use Rattle.reader.proofs.ReaderLaws.{in-decode}
use Rattle.reader.proofs.CheckLaws.{read-bad, read_whole, read-part}
use Rattle.form.proofs.RowLaws.{whole-exact}
use Rattle.form.proofs.ListLaws.{GoodAll, list-sound}
use Rattle.reader.proofs.TableLaws.{listed-n}
use Rattle.shift.specs.Internal.Items.{all_below}
use Rattle.rules.proofs.WalkLaws.{and_left, and_right}
use Rattle.replace.specs.Internal.Pieces.{part, deep_part, deep_at, next_depth, first_depth, depth_from, depth_left, deep_parts, depth_left_by, Leaves}
use Rattle.rules.proofs.OkLaws.{ok-deep}
use Rattle.replace.proofs.EntryLaws.{listed-part}
use Rattle.replace.proofs.InsideLaws.{Small, SmallPlace, SmallPlaces, small-split, small-places}
use Rattle.std.specs.Prelude.{Some, None, Option}

-- the first depth at which a test holds
record Depth (from : ℕ) (test : ℕ → Bool) (r : ℕ) : Type 0 where
  least : r ≤ 64 → from ≤ r
  most : r ≤ 65
  holds : r ≤ 64 → test r ≡ true

next_more : (d : ℕ) → d < next_depth d
unfolding next_depth
next_more d = omega arith

first-is : (k d : ℕ) (test : ℕ → Bool) → Depth d test (first_depth k d test)
unfolding first_depth
first-is zero d test = record { least = λ h. absurd (omega arith); most = omega arith; holds = λ h. absurd (omega arith) }
first-is (suc k) d test = go (leb d 64) (test d) refl refl (first-is k (next_depth d) test)
  where
    go : (b c : Bool) → leb d 64 ≡ b → test d ≡ c → Depth (next_depth d) test (first_depth k (next_depth d) test) → Depth d test (pick b (pick c d (first_depth k (next_depth d) test)) 65)
    go true true q e i = let h = leb-true d 64 q in record { least = λ l. omega arith; most = omega arith; holds = λ l. e }
    go true false q e i = record { least = λ l. (let a = i.least l in let n = next_more d in omega arith); most = i.most; holds = i.holds }
    go false c q e i = record { least = λ h. absurd (omega arith); most = omega arith; holds = λ h. absurd (omega arith) }

first-same : (k d : ℕ) (f g : ℕ → Bool) → ((d : ℕ) → f d ≡ g d) → first_depth k d f ≡ first_depth k d g
unfolding first_depth
first-same zero d f g h = refl
first-same (suc k) d f g h = rw (h d, first-same k (next_depth d) f g h)

first-never : (k d : ℕ) (test : ℕ → Bool) → ((d : ℕ) → test d ≡ false) → first_depth k d test ≡ 65
unfolding first_depth
first-never zero d test h = refl
first-never (suc k) d test h = rw (h d, first-never k (next_depth d) test h) (go (leb d 64))
  where
    go : (b : Bool) → pick {A = ℕ} b 65 65 ≡ 65
    go true = refl
    go false = refl

first_past : (k d : ℕ) (test : ℕ → Bool) → 65 ≤ d → first_depth k d test ≡ 65
unfolding first_depth
first_past zero d test h = refl
first_past (suc k) d test h = rw (lt-leb d 64 (omega arith))

first-enough : (k j d : ℕ) (test : ℕ → Bool) → 65 ≤ k + d → 65 ≤ j + d → first_depth k d test ≡ first_depth j d test
unfolding first_depth
first-enough zero j d test h g = sym (first_past j d test (omega arith))
first-enough (suc k) zero d test h g = first_past (suc k) d test (omega arith)
first-enough (suc k) (suc j) d test h g = let n = next_more d in rw (first-enough k j (next_depth d) test (omega arith) (omega arith))

-- the first depth at which two tests hold, if the one holds ever after: the first for the other from the one's on
module _ (f g : ℕ → Bool) where
  first_under : (k d : ℕ) → ((e : ℕ) → d ≤ e → f e ≡ true) → first_depth k d (λ e. f e && g e) ≡ first_depth k d g
  unfolding first_depth
  first_under zero d h = refl
  first_under (suc k) d h = let n = next_more d in rw (h d (omega arith), first_under k (next_depth d) (λ e l. h e (omega arith)))

  module _ (grows : (d e : ℕ) → d ≤ e → f d ≡ true → f e ≡ true) where
    first-and : (k j d : ℕ) → 65 ≤ k + d → 65 ≤ j + d → first_depth k d (λ e. f e && g e) ≡ first_depth j (first_depth k d f) g
    unfolding first_depth
    first-and zero j d h l = sym (first_past j 65 g (omega arith))
    first-and (suc k) j d h l = let n = next_more d in go (leb d 64) (f d) refl refl (first-and k j (next_depth d) (omega arith) (omega arith))
      where
        go : (b c : Bool) → leb d 64 ≡ b → f d ≡ c → first_depth k (next_depth d) (λ e. f e && g e) ≡ first_depth j (first_depth k (next_depth d) f) g
            → first_depth (suc k) d (λ e. f e && g e) ≡ first_depth j (pick b (pick c d (first_depth k (next_depth d) f)) 65) g
        go true true q e i = first_under (suc k) d (λ x m. grows d x m e) ∙ first-enough (suc k) j d g h l
        go true false q e i = rw (q, e) i
        go false c q e i = rw q (sym (first_past j 65 g (omega arith)))

-- what a depth leaves of 65, where a test of the words holds
left_by : (test : ℕ → Bool) (b : Bool) (r : ℕ) → r ≡ pick b (65 - depth_from 1 test) 0 → (r ≤ 64) × (0 < r → (b ≡ true) × (test (65 - r) ≡ true))
left_by test false r e = (omega arith, λ h. absurd (omega arith))
left_by test true r e = go (depth_from 1 test) (first-is 65 1 test) e (leb (depth_from 1 test) 64) refl
  where
    go : (d : ℕ) → Depth 1 test d → r ≡ 65 - d → (b : Bool) → leb d 64 ≡ b → (r ≤ 64) × (0 < r → (true ≡ true) × (test (65 - r) ≡ true))
    go d x e true q =
        let l = leb-true d 64 q in
        let m = x.least l in
        let z : 65 - r ≡ d = omega arith in
        (omega arith, λ h. (refl, rw z (x.holds l)))
    go d x e false q = let l = leb-false d 64 q in (omega arith, λ h. absurd (omega arith))

-- the depths before d were tried, and d is next
abbrev pub Tried : (ℕ → Bool) → ℕ → ℕ → Type 0
Tried test from d = (k : ℕ) × (65 ≤ k + d) × (depth_from from test ≡ first_depth k d test)

pub tried-none : (test : ℕ → Bool) (d : ℕ) → Tried test d d
tried-none test d = (65, omega arith, refl)

module _ (test : ℕ → Bool) (from d : ℕ) (t : Tried test from d) where
  pub tried-past : 65 ≤ d → 65 ≡ depth_from from test
  tried-past h = sym (t.2 ∙ first_past t.0 d test h)

  module _ (low : d < 65) where
    pub tried_here : test d ≡ true → d ≡ depth_from from test
    unfolding first_depth
    tried_here y = go t.0 t.1 t.2
      where
        go : (k : ℕ) → 65 ≤ k + d → depth_from from test ≡ first_depth k d test → d ≡ depth_from from test
        go zero l e = absurd (omega arith)
        go (suc k) l e = sym (e ∙ rw (le-leb d 64 (omega arith), y))

    pub tried-more : test d ≡ false → Tried test from (next_depth d)
    unfolding first_depth
    tried-more n = go t.0 t.1 t.2
      where
        go : (k : ℕ) → 65 ≤ k + d → depth_from from test ≡ first_depth k d test → Tried test from (next_depth d)
        go zero l e = absurd (omega arith)
        go (suc k) l e = let m = next_more d in (k, omega arith, e ∙ rw (le-leb d 64 (omega arith), n))

pub next-is : (d m : ℕ) → m ≡ d - 2 → (next_depth d ≡ d + 1 + m) × (d < d + 1 + m)
unfolding next_depth
next-is d m e = (rw e refl, omega arith)

-- a row by the reader's answer
module _ (d : ℕ) (most : d ≤ 64) (ws a b : List ℕ) (r : Option ℕ) (t : Told 0 0 (decode_in d 0 expr ws) a b r) where
  plain : Told 0 0 (decode d expr ws) a b r
  plain = rw (in-decode expr ws d 0 (omega arith) (omega arith)) at t

  pub deep-bad : r ≡ None → false ≡ deep_part d ws
  unfolding deep_part
  deep-bad e = rw (read-bad d expr ws a b r plain e)

  pub deep-end : (p : ℕ) → r ≡ Some p → eqb p (length ws) ≡ deep_part d ws
  unfolding deep_part
  deep-end p e = go (eqb p (length ws)) refl
    where
      go : (b : Bool) → eqb p (length ws) ≡ b → b ≡ is_one (whole (decode d expr ws))
      go true q = let (f, w, m) = read_whole d expr ws a b r plain p e (eqb-true p (length ws) q) in rw w
      go false q = rw (read-part d expr ws a b r plain p e (eqb-false p (length ws) q))

-- a form's row that is one expression so deep
deep-form : (d : ℕ) (ws : List ℕ) → deep_part d ws ≡ true → (f : Form) × (ws ≡ encode f) × Ok d expr f
unfolding deep_part
deep-form d ws y = go (whole (decode d expr ws)) refl
  where
    go : (w : Whole) → whole (decode d expr ws) ≡ w → (f : Form) × (ws ≡ encode f) × Ok d expr f
    go (one f) q = let (e, o) = whole-exact d expr ws f q in (f, e, o)
    go not-one q = let z = rw q at y in absurd (clash cc)

form-deep : {d : ℕ} {f : Form} → Ok d expr f → deep_part d (encode f) ≡ true
unfolding deep_part
form-deep {d} {f} ok = let e : decode d expr (encode f) ≡ got f [] = rw append-nil at (decode-encode ok []) in rw e

-- and deeper
deep-grows : (d d' : ℕ) (ws : List ℕ) → d ≤ d' → deep_part d ws ≡ true → deep_part d' ws ≡ true
deep-grows d d' ws l y =
    let (f, w, o) = deep-form d ws y in
    go f w o
  where
    go : (f : Form) → ws ≡ encode f → Ok d expr f → deep_part d' ws ≡ true
    go f w o = rw w (form-deep (ok-deep o d' l))

-- a part
module _ (s e : ℕ) (l : List ℕ) where
  module _ (from : ℕ) where
    pub at_none : from ≤ 65 → e ≤ s → from ≡ depth_from from (λ d. deep_at d s e l)
    unfolding first_depth deep_at
    at_none m h = go (leb from 64) refl
      where
        go : (b : Bool) → leb from 64 ≡ b → from ≡ pick (leb from 64) (pick (deep_at from s e l) from (first_depth 64 (next_depth from) (λ d. deep_at d s e l))) 65
        go true q = rw (q, le-leb e s h)
        go false q = let g = leb-false from 64 q in rw q (omega arith)

    module _ (some : s < e) where
      pub at-past : length l < e → 65 ≡ depth_from from (λ d. deep_at d s e l)
      unfolding deep_at
      at-past h = sym (first-never 65 from _ (λ d. rw (lt-leb e s some, lt-leb e (length l) h)))

      pub at_part : e ≤ length l → depth_from from (λ d. deep_part d (take (e - s) (drop s l))) ≡ depth_from from (λ d. deep_at d s e l)
      unfolding deep_at part
      at_part h = first-same 65 from _ _ (λ d. rw (lt-leb e s some, le-leb e (length l) h))

  at-grows : (d d' : ℕ) → d ≤ d' → deep_at d s e l ≡ true → deep_at d' s e l ≡ true
  unfolding deep_at
  at-grows d d' h y = go (leb e s) refl
    where
      go : (b : Bool) → leb e s ≡ b → pick (leb e s) true (leb e (length l) && deep_part d' (part s e l)) ≡ true
      go true q = rw q
      go false q =
          let z = rw q at y in
          rw (q, and_left (leb e (length l)) (deep_part d (part s e l)) z) (deep-grows d d' (part s e l) h (and_right (leb e (length l)) (deep_part d (part s e l)) z))

-- one part more
module _ (starts ends list : List ℕ) where
  parts-grow : (n d d' : ℕ) → d ≤ d' → deep_parts d starts ends n list ≡ true → deep_parts d' starts ends n list ≡ true
  unfolding deep_parts
  parts-grow zero d d' h y = refl
  parts-grow (suc n) d d' h y =
      let p = deep_parts d starts ends n list in
      let q = deep_at d (get_or starts n 0) (get_or ends n 0) list in
      rw (parts-grow n d d' h (and_left p q y)) (at-grows (get_or starts n 0) (get_or ends n 0) list d d' h (and_right p q y))

  parts-each : (d n : ℕ) → deep_parts d starts ends n list ≡ true → (i : ℕ) → i < n → deep_at d (get_or starts i 0) (get_or ends i 0) list ≡ true
  unfolding deep_parts
  parts-each d zero y i h = absurd (omega arith)
  parts-each d (suc n) y i h =
      let p = deep_parts d starts ends n list in
      let q = deep_at d (get_or starts n 0) (get_or ends n 0) list in
      go (parts-each d n (and_left p q y)) (and_right p q y) (eqb i n) refl
    where
      go : ((i : ℕ) → i < n → deep_at d (get_or starts i 0) (get_or ends i 0) list ≡ true) → deep_at d (get_or starts n 0) (get_or ends n 0) list ≡ true → (b : Bool) → eqb i n ≡ b → deep_at d (get_or starts i 0) (get_or ends i 0) list ≡ true
      go before last true e = rw (eqb-true i n e) last
      go before last false e = before i (omega (arith, eqb-false i n e))

  pub parts_none : 1 ≡ depth_from 1 (λ d. deep_parts d starts ends 0 list)
  unfolding first_depth deep_parts
  parts_none = refl

  pub parts_next : (i d d' : ℕ) → d ≡ depth_from 1 (λ k. deep_parts k starts ends i list) → d' ≡ depth_from d (λ k. deep_at k (get_or starts i 0) (get_or ends i 0) list)
      → d' ≡ depth_from 1 (λ k. deep_parts k starts ends (i + 1) list)
  unfolding deep_parts
  parts_next i d d' e q =
      let g = first-and (λ k. deep_parts k starts ends i list) (λ k. deep_at k (get_or starts i 0) (get_or ends i 0) list) (λ x y h z. parts-grow i x y h z) 65 65 1 (omega arith) (omega arith) in
      rw add-one (q ∙ rw e (sym g))

-- the depth that is left
pub depth-most : (test : ℕ → Bool) (from d : ℕ) → d ≡ depth_from from test → d ≤ 65
depth-most test from d e = rw e (first-is 65 from test).most

module _ (row : List ℕ) where
  pub left-none : false ≡ all_below 63488 row → 0 ≡ depth_left row
  unfolding depth_left
  left-none e = rw (← e)

  pub left_is : (d : ℕ) → true ≡ all_below 63488 row → d ≡ depth_from 1 (λ d. deep_part d row) → 65 - d ≡ depth_left row
  unfolding depth_left
  left_is d e q = rw (← e, ← q)

  pub leaves : (r : ℕ) → r ≡ depth_left row → Leaves row r
  unfolding depth_left
  leaves r e =
      let x = left_by (λ d. deep_part d row) (all_below 63488 row) r e in
      record { most = x.0; words = λ h. (x.1 h).0; deep = λ h. (x.1 h).1 }

-- a form at most r deep stays one if the table's parts are put into it
pub record LeavesBy (t : Table) (list : List ℕ) (r : ℕ) : Type 0 where
  pub most : r ≤ 64
  pub words : 0 < r → all_below 63488 list ≡ true
  pub each : 0 < r → (i : ℕ) → i < t.n → deep_at (65 - r) (get_or t.starts i 0) (get_or t.ends i 0) list ≡ true

module _ (t : Table) (list : List ℕ) where
  pub left-many : 32 < t.n → 0 ≡ depth_left_by t list
  unfolding depth_left_by
  left-many h = rw (lt-leb t.n 32 h)

  module _ (few : t.n ≤ 32) where
    pub left-high : false ≡ all_below 63488 list → 0 ≡ depth_left_by t list
    unfolding depth_left_by
    left-high e = rw (le-leb t.n 32 few, ← e)

    pub left-parts : (d : ℕ) → true ≡ all_below 63488 list → d ≡ depth_from 1 (λ d. deep_parts d t.starts t.ends t.n list) → 65 - d ≡ depth_left_by t list
    unfolding depth_left_by
    left-parts d e q = rw (le-leb t.n 32 few, ← e, ← q)

  pub leaves_by : (r : ℕ) → r ≡ depth_left_by t list → LeavesBy t list r
  unfolding depth_left_by
  leaves_by r e =
      let x = left_by (λ d. deep_parts d t.starts t.ends t.n list) (leb t.n 32 && all_below 63488 list) r e in
      record { most = x.0; words = λ h. and_right (leb t.n 32) (all_below 63488 list) (x.1 h).0; each = λ h i l. parts-each t.starts t.ends list (65 - r) t.n (x.1 h).1 i l }

-- a form's row that is small
pub small-form : (m : ℕ) (x : Form) → Ok 64 expr x → m ≤ 63 → deep_part (suc m) (encode x) ≡ true → all_below 63488 (encode x) ≡ true → Small m x
small-form m x ok l y w =
    let (f, e, o) = deep-form (suc m) (encode x) y in
    record { ok = rw (same f e o) at o; words = w }
  where
    same : (f : Form) → encode x ≡ encode f → Ok (suc m) expr f → f ≡ x
    same f e o =
        let a = decode-encode ok [] in
        let b = decode-encode (ok-deep o 64 (omega arith)) [] in
        let c : got x [] ≡ got f [] = sym a ∙ (rw e b) in
        cc

no_words : (x : Form) → encode x ≡ [] → ⊥
unfolding encode
no_words (leaf (free n)) e = clash cc
no_words (leaf (bound n)) e = clash cc
no_words (node t o ds ks) e = clash cc
no_words (noted t o ds ks) e = clash cc

words-part : (s e : ℕ) (l : List ℕ) → all_below 63488 l ≡ true → all_below 63488 (part s e l) ≡ true
unfolding part
words-part s e l h =
    let (a, b) = small-split (take s l) (drop s l) (rw take-append-drop h) in
    (small-split (take (e - s) (drop s l)) (drop (e - s) (drop s l)) (rw take-append-drop b)).0

at_small : (m s e : ℕ) (l : List ℕ) (x : Form) → Ok 64 expr x → m ≤ 63 → part s e l ≡ encode x → all_below 63488 l ≡ true → deep_at (suc m) s e l ≡ true → Small m x
unfolding deep_at part
at_small m s e l x ok k w h y = go (leb e s) refl
  where
    none-there : e ≤ s → encode x ≡ []
    none-there h = let n : e - s ≡ 0 = omega arith in rw n at (sym w)

    go : (b : Bool) → leb e s ≡ b → Small m x
    go true q = absurd (no_words x (none-there (leb-true e s q)))
    go false q = small-form m x ok k (rw w at (and_right (leb e (length l)) (deep_part (suc m) (part s e l)) (rw q at y))) (rw w at (words-part s e l h))

-- the entries of a list
abbrev OkPlace : Place → Type 0
OkPlace kept = Unit {0}
OkPlace (filled x) = Ok 64 expr x

ok-place : (kind : ListKind) (es : List Entry) → GoodAll kind es → (i : ℕ) → i < length es → OkPlace (get_or (map place_of es) i kept)
ok-place kind [] g i h = absurd (omega arith)
ok-place kind (entry w kept ∷ es) g zero h = tt
ok-place Pairs (entry w (filled x) ∷ es) g zero h = g.0
ok-place Places (entry w (filled x) ∷ es) g zero h = g.0.1
ok-place kind (entry w p ∷ es) g (suc i) h = ok-place kind es g.1 i (omega arith)

place-small : (m s e : ℕ) (l : List ℕ) (p : Place) → OkPlace p → m ≤ 63 → part s e l ≡ place_words p → all_below 63488 l ≡ true → deep_at (suc m) s e l ≡ true → SmallPlace m p
place-small m s e l kept ok k w h y = tt
place-small m s e l (filled x) ok k w h y = at_small m s e l x ok k w h y

pub listed_small : (kind : ListKind) (list : List ℕ) (es : List Entry) → list_of kind list ≡ some es → length es ≤ 32 → (r : ℕ) → LeavesBy (tabled es 0 empty_table) list r → 0 < r → SmallPlaces (64 - r) (map place_of es)
listed_small kind list es is few r y some_left = small-places (64 - r) (map place_of es) (λ i h. each i (rw (length-map es place_of) at h))
  where
    each : (i : ℕ) → i < length es → SmallPlace (64 - r) (get_or (map place_of es) i kept)
    each i h =
        let t = tabled es 0 empty_table in
        let n = listed-n es in
        let a = y.most in
        let q : 65 - r ≡ suc (64 - r) = omega arith in
        place-small (64 - r) (get_or t.starts i 0) (get_or t.ends i 0) list (get_or (map place_of es) i kept) (ok-place kind es (list-sound kind list es is).1 i h) (omega arith) (listed-part kind list es is few i h) (y.words some_left)
        (rw q at (y.each some_left i (omega arith)))
