-- Filling a set of places: the declarations before the outermost filled place stand in front, the rest is filled, the front put round it.
use Rattle.std.specs.Prelude.{Bool, true, ◌&&◌, List, [], ◌∷◌, ◌++◌, map, ℕ, suc, ◌-◌, eqb, length, take, drop, set, replicate}
use Rattle.std.proofs.Math.Option
use Rattle.std.proofs.Math.Option.{Option, none as absent, some}
use Rattle.tree.specs.Form.{Form, pick}
use Rattle.form.specs.Lists.{Place, kept, filled}
use Rattle.rules.specs.Walk.{lift, each}
use Rattle.rules.specs.Shift.{reaches, lower}
use Rattle.rules.specs.Fill.{Decl, Quantified, quantifier, other, quantified, quantify, fill}

abbrev pub no_places : ℕ → List Place
no_places n = replicate n kept

-- the place of the target i of n declarations
abbrev pub set_place : ℕ → ℕ → Form → List Place → List Place
set_place n i e ps = set ps (n - suc i) (filled e)

-- how many declarations stand before the outermost filled place
abbrev pub front : List Place → ℕ
front [] = 0
front (kept ∷ ps) = suc (front ps)
front (filled e ∷ ps) = 0

abbrev pub lower_place : ℕ → Place → Place
lower_place n = elim [ kept ↦ kept | filled e ↦ filled (lower n e) ]

-- the annotations of declarations; that none of them mentions the n declarations round it
abbrev pub on_note : (Form → Form) → Decl → Decl
on_note f d = (d.0, Option.map f d.1)

abbrev pub note_clear : ℕ → Option Form → Bool
note_clear n = elim [ absent ↦ true | some e ↦ each (reaches n) 0 e ]

abbrev pub clear : ℕ → List Decl → Bool
clear n [] = true
clear n (d ∷ ds) = note_clear n d.1 && clear n ds

-- round a quantified predicate with the same operator whose annotations mention none of them the declarations join into one quantifier
abbrev pub join_with : ℕ → List Decl → Form → Quantified → Form
join_with t ns g other = quantify t ns g
join_with t ns g (quantifier u ds f) =
    pick (eqb u t && clear (length ns) ds) (quantify t (ns ++ map (on_note (lower (length ns))) ds) f) (quantify t ns g)

unfoldable pub put_round : ℕ → List Decl → Form → Form
put_round t x g = elim x [ [] ↦ g | n ∷ ns ↦ join_with t (n ∷ ns) g (quantified g) ]

-- the rest's annotations come to stand under the front
unfoldable pub instantiate_partial : ℕ → List Decl → List Place → Form → Form
instantiate_partial t ns ps f =
    let j = front ps in
    put_round t (take j ns) (fill t (map (on_note (lift j)) (drop j ns)) (map (lower_place (length (drop j ns))) (drop j ps)) f)
