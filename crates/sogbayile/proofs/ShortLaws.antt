-- No exported call answers over 8,192 words, no position is over 8,192, and only a refusal by 2 has one; so number, length and position can be
-- read off the code of a call. Assumes nothing.
use mathlib.Core.Path.{◌≡◌, refl}
use mathlib.Core.Bool.{Bool, true, false, ◌&&◌}
use mathlib.Core.List.{List, [], ◌∷◌, ◌++◌, map}
use Prim.Native.Nat.{ℕ, ◌+◌, ◌≤◌, ◌/◌, ◌%◌, ◌^◌}
use native.Mathlib.Omega.{arith}
use lib.Dec.{leb, ltb, eqb}
use lib.IntN.{ℤ}
use lib.ListN.{length, length-append}
use Rattle.tree.specs.Form.{free, bound, Form, leaf, node, noted, Decls, undeclared, bare, typed, names_of, Forms, none, more, pick, encode, encode_decls, encode_all}
use Rattle.tree.specs.Tag.{Sort}
use Rattle.form.specs.Decode.{one, row_form}
use Rattle.form.specs.Lists.{word_of, good_names}
use Rattle.form.specs.Answer.{Outcome, answer, stop, told, number, length_of, position, needs, check_outcome, names_outcome, pairs_outcome, places_outcome}
use Rattle.form.specs.declared.answer.Kind.{Kind}
use Rattle.form.specs.declared.answer.Kind.TheVariants.{Either}
use Rattle.form.specs.declared.answer.ListKind.TheVariants.{Pairs, Places}
use Rattle.form.specs.Refusal.{position_of}
use Rattle.form.specs.declared.answer.Refusal.{Refusal}
use Rattle.form.specs.declared.answer.Refusal.TheVariants.{TooLong, BadNames, TooManyPlaces, OutputTooShort}
use Rattle.form.proofs.RowLaws.{row_one}
use Rattle.rules.specs.Walk.{Binding, inside, outside, binding, collect_index, collect, collect_decls, collect_all}
use Rattle.rules.specs.Dangling.{index_of, insert, insert_all, dangling_set, dangling_outcome}
use Rattle.rules.specs.Command.{outcome_of, number_outcome}
use Rattle.rules.specs.declared.command.Command.{Command}
use Rattle.rules.proofs.OutcomeLaws.{Settled, settled-map, tested, form-settled, list-settled, OneForm, one-short, outcome-settled, number-settled}
use Rattle.sogbayile.specs.Code.{code_of}

abbrev FewWords : List ℕ → Type 0
FewWords ws = length ws ≤ 8192

-- length and position have room in 32 bits, and only a refusal by 2 has a position
abbrev pub Short : Outcome → Type 0
Short o = Settled FewWords o

-- the upper 32 bits are the number; the lower ones the length of an answer, and the position of a refusal
pub code_read : (o : Outcome) → Short o → (code_of (told o) / 2 ^ 32 ≡ number (told o)) × (code_of (told o) % 2 ^ 32 ≡ length_of (told o) + position (told o))
code_read (answer ws) h = (omega (arith, h), omega (arith, h))
code_read (stop k) h = let l = h.low in (omega (arith, l), omega (arith, l))

-- the checks
check-by : (r : Refusal) → position_of r ≡ 0 → (b : Bool) → Short (needs r b (answer []))
check-by r n b = tested FewWords r n b (answer []) (omega arith)

pub check-short : (kind : Kind) (row : List ℕ) → Short (check_outcome kind row)
unfolding check_outcome
check-short kind row = form-settled FewWords kind row _ (λ s f e. omega arith)

pub names-short : (row : List ℕ) → Short (names_outcome row)
unfolding names_outcome
names-short row = tested FewWords TooLong refl (leb (length row) 8192) _ (check-by BadNames refl (good_names row))

pub pairs-short : (row : List ℕ) → Short (pairs_outcome row)
unfolding pairs_outcome
pairs-short row = list-settled FewWords Pairs row _ (λ es. check-by BadNames refl (good_names (map word_of es)))

pub places-short : (n : ℕ) (row : List ℕ) → Short (places_outcome n row)
unfolding places_outcome
places-short n row = list-settled FewWords Places row _ (λ es. check-by TooManyPlaces refl (leb n 32 && leb (length es) n))

-- the commands
pub outcome-short : (c : Command) (z : ℤ) (list row : List ℕ) (work room : ℕ) → Short (outcome_of c z list row work room)
outcome-short c z list row work room = settled-map OneForm FewWords one-short (outcome_of c z list row work room) (outcome-settled c z list row work room)

pub number_short : (n : ℕ) (z : ℤ) (list row : List ℕ) (work room : ℕ) → Short (number_outcome n z list row work room)
number_short n z list row work room = settled-map OneForm FewWords one-short (number_outcome n z list row work room) (number-settled n z list row work room)

-- the dangling set: an index of it stands in the row
insert-length : (i : ℕ) (js : List ℕ) → length (insert i js) ≤ 1 + length js
insert-length i [] = omega arith
insert-length i (j ∷ js) = by (insert-length i js) (ltb i j) (eqb i j)
  where
    by : length (insert i js) ≤ 1 + length js → (b c : Bool) → length (pick b (i ∷ j ∷ js) (pick c (j ∷ js) (j ∷ insert i js))) ≤ 1 + length (j ∷ js)
    by h true c = omega arith
    by h false true = omega arith
    by h false false = omega (arith, h)

insert_all-length : (js is : List ℕ) → length (insert_all js is) ≤ length js + length is
insert_all-length js [] = omega arith
insert_all-length js (i ∷ is) = let h = insert_all-length (insert i js) is in let l = insert-length i js in omega (arith, h, l)

index-length : (k : ℕ) (z : Binding) → length (collect_index [] index_of k z) ≤ 2
index-length k inside = omega arith
index-length k (outside j) = omega arith

mutual
  unfolding collect encode

  collect-length : (k : ℕ) (f : Form) → length (collect [] ◌++◌ index_of k f) ≤ length (encode f)
  collect-length k (leaf (free n)) = omega arith
  collect-length k (leaf (bound i)) = index-length k (binding k i)
  collect-length k (node t o ds ks) = let h = collect_all-length (length ds + k) ks in rw (length-append, length-append) (omega (arith, h))
  collect-length k (noted t o ds ks) =
      let h = collect_decls-length k ds in
      let l = collect_all-length (length (names_of ds) + k) ks in
      rw (length-append, length-append, length-append) (omega (arith, h, l))

  collect_decls-length : (k : ℕ) (ds : Decls) → length (collect_decls [] ◌++◌ index_of k ds) ≤ length (encode_decls ds)
  collect_decls-length k undeclared = omega arith
  collect_decls-length k (bare n ds) = let h = collect_decls-length k ds in omega (arith, h)
  collect_decls-length k (typed n f ds) =
      let h = collect-length k f in
      let l = collect_decls-length k ds in
      rw (length-append, length-append) (omega (arith, h, l))

  collect_all-length : (k : ℕ) (fs : Forms) → length (collect_all [] ◌++◌ index_of k fs) ≤ length (encode_all fs)
  collect_all-length k none = omega arith
  collect_all-length k (more f fs) =
      let h = collect-length k f in
      let l = collect_all-length k fs in
      rw (length-append, length-append) (omega (arith, h, l))

pub dangling-short : (row : List ℕ) (room : ℕ) → Short (dangling_outcome row room)
unfolding dangling_outcome dangling_set
dangling-short row room = form-settled FewWords Either row _ (λ s f e. tested FewWords OutputTooShort refl (leb (length (dangling_set f)) room) (answer (dangling_set f)) (set s f e))
  where
    set : (s : Sort) (f : Form) → row_form s row ≡ one f → length (dangling_set f) ≤ 8192
    set s f e =
        let (h, w, ok) = row_one s row f e in
        let l = rw w at h in
        let c = collect-length 0 f in
        let i = insert_all-length [] (collect [] ◌++◌ index_of 0 f) in
        omega (arith, l, c, i)
