-- What is printed of a form reads back as the same row: the spelling of a form, read as a group, gives the form's words. Assumes nothing.
use mathlib.Core.Path.{◌≡◌, refl, ap, sym, ◌∙◌}
use mathlib.Core.Bool.{Bool, true, false}
use mathlib.Core.List.{List, [], ◌∷◌, ◌++◌, append_assoc, append-nil}
use Prim.Native.Nat.{ℕ, zero, suc, ◌+◌, ◌-◌, ◌*◌, ◌/◌, ◌%◌, ◌^◌, ◌≤◌, ◌<◌}
use native.Mathlib.Nat.{zero-add, div-add-mod', mod-lt}
use native.Mathlib.Numerals.{add-one, sub-one}
use native.Mathlib.Omega.{arith}
use borrow.Author.Tests.{ne_eqb, le-leb, ltb-true, ltb-false}
use lib.Dec.{ltb}
use lib.ListN.{length, length-append}
use Rattle.tree.specs.Form.{free, bound, Form, leaf, node, noted, Decls, undeclared, bare, typed, Forms, none, more, pick, between, encode, encode_decls, encode_all}
use Rattle.spell.specs.Spell.{digits, decimal, spaced, bracket, spell_leaf, spell, spell_decls, spell_all}
use Rattle.line.specs.Scan.{on_digit, turn, note, mark_words, depth_after, Scan, ended, broken, add_byte, scan, group}
use Rattle.line.specs.declared.turn.State.{State}
use Rattle.line.specs.declared.turn.State.TheVariants.{Opened, Spaced, Closed, Digits}
use Rattle.std.specs.Prelude.{None}

-- words and bytes put before what is read later
abbrev pub prepend : List ℕ → ℕ → Scan → Scan
prepend ws k (ended vs n) = ended (ws ++ vs) (k + n)
prepend ws k (broken vs) = broken (ws ++ vs)

prepend-none : (x : Scan) → prepend [] 0 x ≡ x
prepend-none (ended vs n) = ap (λ z. ended vs z) (zero-add n)
prepend-none (broken vs) = refl

prepend-twice : (ws vs : List ℕ) (j k : ℕ) (x : Scan) → prepend ws j (prepend vs k x) ≡ prepend (ws ++ vs) (j + k) x
prepend-twice ws vs j k (ended us n) = rw append_assoc (ap (λ z. ended (ws ++ (vs ++ us)) z) (omega arith))
prepend-twice ws vs j k (broken us) = rw append_assoc

add_is : (w : List ℕ) (x : Scan) → add_byte w x ≡ prepend w 1 x
unfolding add_byte
add_is w (ended vs n) = ap (λ z. ended (w ++ vs) z) (omega arith)
add_is w (broken vs) = refl

-- where an item may begin
pub data Ready : State → Type 0 where
  after_open : Ready Opened
  after-space : Ready Spaced

no-mark : (d : ℕ) {s : State} (b : ℕ) → Ready s → note false d s b ≡ None
unfolding note
no-mark d b after_open = refl
no-mark d b after-space = refl

-- a digit
digit-test : (d : ℕ) → d < 10 → between 48 57 (48 + d) ≡ true
digit-test d h = rw (le-leb 48 (48 + d) (omega arith), le-leb (48 + d) 57 (omega arith))

digit-turn : (s : State) (d : ℕ) → d < 10 → turn s (48 + d) ≡ on_digit s d
unfolding turn
digit-turn s d h =
    let e : 48 + d - 48 ≡ d = omega arith in
    rw (ne_eqb (48 + d) 91 (λ q. omega arith), ne_eqb (48 + d) 93 (λ q. omega arith), ne_eqb (48 + d) 32 (λ q. omega arith), digit-test d h, e)

digit-depth : (k d : ℕ) → d < 10 → depth_after k (48 + d) ≡ k
unfolding depth_after
digit-depth k d h = rw (ne_eqb (48 + d) 91 (λ q. omega arith), ne_eqb (48 + d) 93 (λ q. omega arith))

module _ (k : ℕ) where
  first-digit : {s : State} (d : ℕ) (r : List ℕ) → Ready s → d < 10 → scan false (suc k) s ((48 + d) ∷ r) ≡ prepend [] 1 (scan false (suc k) (Digits d) r)
  unfolding scan on_digit mark_words
  first-digit d r after_open h = rw (digit-turn Opened d h, no-mark (suc k) (48 + d) after_open, digit-depth (suc k) d h) (add_is [] (scan false (suc k) (Digits d) r))
  first-digit d r after-space h = rw (digit-turn Spaced d h, no-mark (suc k) (48 + d) after-space, digit-depth (suc k) d h) (add_is [] (scan false (suc k) (Digits d) r))

  digit-mark : (v d : ℕ) → d < 10 → note false (suc k) (Digits v) (48 + d) ≡ None
  unfolding note
  digit-mark v d h = rw (digit-test d h)

  next-digit : (v d n : ℕ) (r : List ℕ) → d < 10 → 1 ≤ v → v * 10 + d ≡ n → n ≤ 4294967295 → scan false (suc k) (Digits v) ((48 + d) ∷ r) ≡ prepend [] 1 (scan false (suc k) (Digits n) r)
  unfolding scan on_digit mark_words
  next-digit v d n r h l e m =
      rw (digit-turn (Digits v) d h, digit-mark v d h, digit-depth (suc k) d h, e, le-leb 1 v l, le-leb n 4294967295 m) (add_is [] (scan false (suc k) (Digits n) r))

  -- the digits of a number
  tenth : (n : ℕ) → n / 10 * 10 + n % 10 ≡ n
  tenth n = div-add-mod' n 10

  digits_step : {s : State} (j n : ℕ) (r : List ℕ) → (b : Bool) → ltb n 10 ≡ b → n ≤ 4294967295
      → (1 ≤ n / 10 → scan false (suc k) s (digits j (n / 10) ++ (48 + n % 10) ∷ r) ≡ prepend [] (length (digits j (n / 10))) (scan false (suc k) (Digits (n / 10)) ((48 + n % 10) ∷ r)))
      → Ready s → scan false (suc k) s (pick b ((48 + n) ∷ []) (digits j (n / 10) ++ ((48 + n % 10) ∷ [])) ++ r)
      ≡ prepend [] (length (pick b ((48 + n) ∷ []) (digits j (n / 10) ++ ((48 + n % 10) ∷ [])))) (scan false (suc k) (Digits n) r)
  digits_step j n r true e m ih y = first-digit n r y (ltb-true n 10 e)
  digits_step j n r false e m ih y =
      let l : 10 ≤ n = ltb-false n 10 e in
      let t = tenth n in
      let q : n % 10 < 10 = mod-lt n (omega arith) in
      let p : 1 ≤ n / 10 = omega arith in
      rw (append_assoc (digits j (n / 10)), ih p, next-digit (n / 10) (n % 10) n r q p t m, prepend-twice, length-append)

  -- fuel for one digit more than j
  digits-scan : (j n : ℕ) {s : State} (r : List ℕ) → n < 10 ^ suc j → n ≤ 4294967295 → Ready s
      → scan false (suc k) s (digits (suc j) n ++ r) ≡ prepend [] (length (digits (suc j) n)) (scan false (suc k) (Digits n) r)
  unfolding digits
  digits-scan zero n r h m y = digits_step 0 n r (ltb n 10) refl m (λ p. let t = tenth n in absurd (omega arith)) y
  digits-scan (suc j) n r h m y =
      let t = tenth n in
      digits_step (suc j) n r (ltb n 10) refl m (λ p. digits-scan j (n / 10) ((48 + n % 10) ∷ r) (omega arith) (omega arith) y) y

-- what may follow a word or a bracket
pub data Follows : List ℕ → Type 0 where
  by-space : {r : List ℕ} → Follows (32 ∷ r)
  by-close : {r : List ℕ} → Follows (93 ∷ r)

marked : (v : ℕ) (x : Scan) → add_byte (v ∷ []) x ≡ prepend (v ∷ []) 0 (add_byte [] x)
marked v x = rw (add_is (v ∷ []) x, add_is [] x, prepend-twice)

digits-end : (k v : ℕ) {r : List ℕ} → Follows r → scan false (suc k) (Digits v) r ≡ prepend (v ∷ []) 0 (scan false (suc k) Closed r)
unfolding scan turn note mark_words depth_after
digits-end k v (by-space {r}) = marked v (scan false (suc k) Spaced r)
digits-end zero v (by-close {r}) = refl
digits-end (suc k) v (by-close {r}) = rw sub-one (marked v (scan false (suc k) Closed r))

module _ (k : ℕ) where
  number-scan : (w : ℕ) {s : State} {r : List ℕ} → w ≤ 4294967295 → Ready s → Follows r
      → scan false (suc k) s (decimal w ++ r) ≡ prepend (w ∷ []) (length (decimal w)) (scan false (suc k) Closed r)
  unfolding decimal
  number-scan w {r = r} h y f =
      digits-scan k 9 w r (omega arith) h y ∙ rw (digits-end k w f, prepend-twice) (ap (λ z. prepend (w ∷ []) z (scan false (suc k) Closed r)) (omega arith))

  space-scan : (x : List ℕ) → scan false (suc k) Closed (32 ∷ x) ≡ prepend [] 1 (scan false (suc k) Spaced x)
  unfolding scan turn note mark_words depth_after
  space-scan x = add_is [] (scan false (suc k) Spaced x)

  open-scan : {s : State} (x : List ℕ) → Ready s → scan false (suc k) s (91 ∷ x) ≡ prepend [] 1 (scan false (suc (suc k)) Opened x)
  unfolding scan turn note mark_words depth_after
  open-scan x after_open = rw add-one (add_is [] (scan false (suc (suc k)) Opened x))
  open-scan x after-space = rw add-one (add_is [] (scan false (suc (suc k)) Opened x))

  close-scan : (r : List ℕ) → scan false (suc (suc k)) Closed (93 ∷ r) ≡ prepend [] 1 (scan false (suc k) Closed r)
  unfolding scan turn note mark_words depth_after
  close-scan r = rw sub-one (add_is [] (scan false (suc k) Closed r))

-- words below 2 ^ 32
abbrev pub All32 : List ℕ → Type 0
All32 [] = Unit {0}
All32 (w ∷ ws) = (w ≤ 4294967295) × All32 ws

all_left : (a b : List ℕ) → All32 (a ++ b) → All32 a
all_left [] b h = tt
all_left (w ∷ a) b h = (h.0, all_left a b h.1)

all_right : (a b : List ℕ) → All32 (a ++ b) → All32 b
all_right [] b h = h
all_right (w ∷ a) b h = all_right a b h.1

spaced-follows : (ws r : List ℕ) → Follows r → Follows (spaced ws ++ r)
unfolding spaced
spaced-follows [] r f = f
spaced-follows (w ∷ ws) r f = by-space

spaced-scan : (k : ℕ) (ws r : List ℕ) → All32 ws → Follows r → scan false (suc k) Closed (spaced ws ++ r) ≡ prepend ws (length (spaced ws)) (scan false (suc k) Closed r)
unfolding spaced
spaced-scan k [] r h f = sym (prepend-none (scan false (suc k) Closed r))
spaced-scan k (w ∷ ws) r h f =
    rw (space-scan k ((decimal w ++ spaced ws) ++ r), append_assoc (decimal w), number-scan k w h.0 after-space (spaced-follows ws r f), spaced-scan k ws r h.1 f, prepend-twice, prepend-twice, length-append)
    (ap (λ z. prepend (w ∷ ws) z (scan false (suc k) Closed r)) (omega arith))

children-follow : (fs : Forms) (r : List ℕ) → Follows r → Follows (spell_all fs ++ r)
unfolding spell
children-follow none r f = f
children-follow (more g fs) r f = by-space

decls-follow : (ds : Decls) (r : List ℕ) → Follows r → Follows (spell_decls ds ++ r)
unfolding spell spaced
decls-follow undeclared r f = f
decls-follow (bare n ds) r f = by-space
decls-follow (typed n g ds) r f = by-space

-- the inside of a bracket, up to its end
inner-scan : (k t : ℕ) (ws ks vs r : List ℕ) → t ≤ 4294967295 → All32 ws → Follows (ks ++ (93 ∷ r))
    → scan false (suc k) Closed (ks ++ (93 ∷ r)) ≡ prepend vs (length ks) (scan false (suc k) Closed (93 ∷ r))
    → scan false (suc k) Opened (decimal t ++ (spaced ws ++ (ks ++ (93 ∷ r)))) ≡ prepend (t ∷ (ws ++ vs)) (length (decimal t) + (length (spaced ws) + length ks)) (scan false (suc k) Closed (93 ∷ r))
inner-scan k t ws ks vs r h a f e =
    rw (number-scan k t h after_open (spaced-follows ws (ks ++ (93 ∷ r)) f), spaced-scan k ws (ks ++ (93 ∷ r)) a f, e, prepend-twice, prepend-twice)
    (ap (λ z. prepend (t ∷ (ws ++ vs)) z (scan false (suc k) Closed (93 ∷ r))) (omega arith))

bracket-is : (t : ℕ) (ws ks r : List ℕ) → bracket t ws ks ++ r ≡ 91 ∷ (decimal t ++ (spaced ws ++ (ks ++ (93 ∷ r))))
unfolding bracket
bracket-is t ws ks r = ap (λ z. 91 ∷ z) (rw (append_assoc (decimal t), append_assoc (spaced ws), append_assoc ks))

bracket-length : (t : ℕ) (ws ks : List ℕ) → length (bracket t ws ks) ≡ 1 + (length (decimal t) + (length (spaced ws) + length ks) + 1)
unfolding bracket
bracket-length t ws ks = rw (length-append (decimal t), length-append (spaced ws), length-append ks) (omega arith)

bracket-scan : (k t : ℕ) (ws ks vs r : List ℕ) {s : State} → t ≤ 4294967295 → All32 ws → Follows (ks ++ (93 ∷ r)) → Ready s
    → scan false (suc (suc k)) Closed (ks ++ (93 ∷ r)) ≡ prepend vs (length ks) (scan false (suc (suc k)) Closed (93 ∷ r))
    → scan false (suc k) s (bracket t ws ks ++ r) ≡ prepend (t ∷ (ws ++ vs)) (length (bracket t ws ks)) (scan false (suc k) Closed r)
bracket-scan k t ws ks vs r h a f y e =
    rw (bracket-is t ws ks r, open-scan k (decimal t ++ (spaced ws ++ (ks ++ (93 ∷ r)))) y, inner-scan (suc k) t ws ks vs r h a f e, close-scan k r, prepend-twice, prepend-twice, append-nil, bracket-length t ws ks)
    (ap (λ z. prepend (t ∷ (ws ++ vs)) z (scan false (suc k) Closed r)) (omega arith))

none-scan : (k : ℕ) (r : List ℕ) → scan false (suc k) Closed r ≡ prepend [] 0 (scan false (suc k) Closed r)
none-scan k r = sym (prepend-none (scan false (suc k) Closed r))

-- declarations, and the children after them
noted-both : (ds : Decls) (ks : Forms) (k : ℕ) (r : List ℕ)
    → scan false (suc k) Closed (spell_decls ds ++ (spell_all ks ++ r)) ≡ prepend (encode_decls ds) (length (spell_decls ds)) (scan false (suc k) Closed (spell_all ks ++ r))
    → scan false (suc k) Closed (spell_all ks ++ r) ≡ prepend (encode_all ks) (length (spell_all ks)) (scan false (suc k) Closed r)
    → scan false (suc k) Closed ((spell_decls ds ++ spell_all ks) ++ r) ≡ prepend (encode_decls ds ++ encode_all ks) (length (spell_decls ds ++ spell_all ks)) (scan false (suc k) Closed r)
noted-both ds ks k r a b = rw (append_assoc (spell_decls ds), a, b, prepend-twice, length-append)

mutual
  unfolding spell spell_leaf encode

  spell-scan : (f : Form) (k : ℕ) (r : List ℕ) {s : State} → All32 (encode f) → Ready s → scan false (suc k) s (spell f ++ r) ≡ prepend (encode f) (length (spell f)) (scan false (suc k) Closed r)
  spell-scan (leaf (free n)) k r h y = bracket-scan k 1 (n ∷ []) [] [] r h.0 h.1 by-close y (none-scan (suc k) (93 ∷ r))
  spell-scan (leaf (bound n)) k r h y = bracket-scan k 2 (n ∷ []) [] [] r h.0 h.1 by-close y (none-scan (suc k) (93 ∷ r))
  spell-scan (node t o ds ks) k r h y =
      rw (← append_assoc o ds (encode_all ks)) (bracket-scan k t (o ++ ds) (spell_all ks) (encode_all ks) r h.0 (all_left (o ++ ds) (encode_all ks) (rw append_assoc h.1))
      (children-follow ks (93 ∷ r) by-close) y (children-scan ks (suc k) (93 ∷ r) (all_right (o ++ ds) (encode_all ks) (rw append_assoc h.1)) by-close))
  spell-scan (noted t o ds ks) k r h y =
      bracket-scan k t o (spell_decls ds ++ spell_all ks) (encode_decls ds ++ encode_all ks) r h.0 (all_left o (encode_decls ds ++ encode_all ks) h.1)
      (rw (append_assoc (spell_decls ds)) (decls-follow ds (spell_all ks ++ (93 ∷ r)) (children-follow ks (93 ∷ r) by-close))) y
      (noted-both ds ks (suc k) (93 ∷ r)
      (decls-scan ds (suc k) (spell_all ks ++ (93 ∷ r)) (all_left (encode_decls ds) (encode_all ks) (all_right o (encode_decls ds ++ encode_all ks) h.1)) (children-follow ks (93 ∷ r) by-close))
      (children-scan ks (suc k) (93 ∷ r) (all_right (encode_decls ds) (encode_all ks) (all_right o (encode_decls ds ++ encode_all ks) h.1)) by-close))

  decls-scan : (ds : Decls) (k : ℕ) (r : List ℕ) → All32 (encode_decls ds) → Follows r → scan false (suc k) Closed (spell_decls ds ++ r) ≡ prepend (encode_decls ds) (length (spell_decls ds)) (scan false (suc k) Closed r)
  decls-scan undeclared k r h f = none-scan k r
  decls-scan (bare n ds) k r h f =
      rw (append_assoc (spaced (n ∷ 0 ∷ [])), spaced-scan k (n ∷ 0 ∷ []) (spell_decls ds ++ r) (h.0, (h.1.0, tt)) (decls-follow ds r f), decls-scan ds k r h.1.1 f, prepend-twice, length-append)
  decls-scan (typed n g ds) k r h f =
      let a = length-append (spaced (n ∷ 1 ∷ [])) (32 ∷ (spell g ++ spell_decls ds)) in
      let b = length-append (spell g) (spell_decls ds) in
      rw (append_assoc (spaced (n ∷ 1 ∷ [])), spaced-scan k (n ∷ 1 ∷ []) (32 ∷ ((spell g ++ spell_decls ds) ++ r)) (h.0, (h.1.0, tt)) by-space, space-scan k ((spell g ++ spell_decls ds) ++ r), append_assoc (spell g), spell-scan g k (spell_decls ds ++ r) (all_left (encode g) (encode_decls ds) h.1.1) after-space, decls-scan ds k r (all_right (encode g) (encode_decls ds) h.1.1) f, prepend-twice, prepend-twice, prepend-twice)
      (ap (λ z. prepend (n ∷ 1 ∷ (encode g ++ encode_decls ds)) z (scan false (suc k) Closed r)) (omega arith))

  children-scan : (fs : Forms) (k : ℕ) (r : List ℕ) → All32 (encode_all fs) → Follows r → scan false (suc k) Closed (spell_all fs ++ r) ≡ prepend (encode_all fs) (length (spell_all fs)) (scan false (suc k) Closed r)
  children-scan none k r h f = none-scan k r
  children-scan (more g fs) k r h f =
      rw (space-scan k ((spell g ++ spell_all fs) ++ r), append_assoc (spell g), spell-scan g k (spell_all fs ++ r) (all_left (encode g) (encode_all fs) h) after-space, children-scan fs k r (all_right (encode g) (encode_all fs) h) f, prepend-twice, prepend-twice, length-append)
      (ap (λ z. prepend (encode g ++ encode_all fs) z (scan false (suc k) Closed r)) (omega arith))

-- the whole group: its words are the form's row, and it ends where the spelling does
group_of : (t : ℕ) (ws ks vs : List ℕ) → t ≤ 4294967295 → All32 ws → Follows (ks ++ (93 ∷ []))
    → scan false 1 Closed (ks ++ (93 ∷ [])) ≡ prepend vs (length ks) (scan false 1 Closed (93 ∷ [])) → group false (bracket t ws ks) ≡ ended (t ∷ (ws ++ vs)) (length (bracket t ws ks))
unfolding group scan turn note mark_words depth_after
group_of t ws ks vs h a f e =
    let b : bracket t ws ks ≡ 91 ∷ (decimal t ++ (spaced ws ++ (ks ++ (93 ∷ [])))) = sym (append-nil (bracket t ws ks)) ∙ bracket-is t ws ks [] in
    rw (b, inner-scan 0 t ws ks vs [] h a f e) (add_is [] (ended ((t ∷ (ws ++ vs)) ++ []) (length (decimal t) + (length (spaced ws) + length ks) + 1)) ∙ group-ends t ws ks vs b)
  where
    group-ends : (t : ℕ) (ws ks vs : List ℕ) → bracket t ws ks ≡ 91 ∷ (decimal t ++ (spaced ws ++ (ks ++ (93 ∷ [])))) → prepend [] 1 (ended ((t ∷ (ws ++ vs)) ++ []) (length (decimal t) + (length (spaced ws) + length ks) + 1)) ≡ ended (t ∷ (ws ++ vs)) (length (91 ∷ (decimal t ++ (spaced ws ++ (ks ++ (93 ∷ []))))))
    group-ends t ws ks vs b =
        let e = sym (ap length b) ∙ bracket-length t ws ks in
        rw append-nil (ap (λ z. ended (t ∷ (ws ++ vs)) z) (omega arith))

pub spelled-read : (f : Form) → All32 (encode f) → group false (spell f) ≡ ended (encode f) (length (spell f))
unfolding spell spell_leaf encode
spelled-read (leaf (free n)) h = group_of 1 (n ∷ []) [] [] h.0 h.1 by-close (none-scan 0 (93 ∷ []))
spelled-read (leaf (bound n)) h = group_of 2 (n ∷ []) [] [] h.0 h.1 by-close (none-scan 0 (93 ∷ []))
spelled-read (node t o ds ks) h =
    rw (← append_assoc o ds (encode_all ks)) (group_of t (o ++ ds) (spell_all ks) (encode_all ks) h.0 (all_left (o ++ ds) (encode_all ks) (rw append_assoc h.1)) (children-follow ks (93 ∷ []) by-close)
    (children-scan ks 0 (93 ∷ []) (all_right (o ++ ds) (encode_all ks) (rw append_assoc h.1)) by-close))
spelled-read (noted t o ds ks) h =
    group_of t o (spell_decls ds ++ spell_all ks) (encode_decls ds ++ encode_all ks) h.0 (all_left o (encode_decls ds ++ encode_all ks) h.1)
    (rw (append_assoc (spell_decls ds)) (decls-follow ds (spell_all ks ++ (93 ∷ [])) (children-follow ks (93 ∷ []) by-close)))
    (noted-both ds ks 0 (93 ∷ [])
    (decls-scan ds 0 (spell_all ks ++ (93 ∷ [])) (all_left (encode_decls ds) (encode_all ks) (all_right o (encode_decls ds ++ encode_all ks) h.1)) (children-follow ks (93 ∷ []) by-close))
    (children-scan ks 0 (93 ∷ []) (all_right (encode_decls ds) (encode_all ks) (all_right o (encode_decls ds ++ encode_all ks) h.1)) by-close))
