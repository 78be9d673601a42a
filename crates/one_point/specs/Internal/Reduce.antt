-- What the parts of one point answer after the scan: the head of the reduced form, its one filled place, and the reduced body.
use Rattle.std.specs.Prelude.{Option as Maybe, Some, None, ◌≡◌, Bool, true, false, ◌||◌, ◌&&◌, not, List, [], ◌∷◌, map, ℕ, suc, ◌≤◌, ◌<◌, ◌+◌, ◌-◌, ◌*◌, eqb, ltb, length, get_or, take, drop, set, replicate, None}
use Rattle.std.proofs.Math.Option.{Option, none as absent, some}
use Rattle.tree.specs.Form.{Form, pick, encode, encode_decls}
use Rattle.tree.specs.Tag.{expr, pred, own}
use Rattle.form.specs.Decode.{read, Got, got, no-form, decode, GotDecls, declared, no-decls, decls, Whole, one, not-one, whole}
use Rattle.form.specs.Internal.Heads.{head_at}
use Rattle.form.specs.declared.head.Head.{Head}
use Rattle.form.specs.declared.head.Head.TheVariants.{Kids, Noted}
use Rattle.form.specs.Answer.{Answer, Outcome, stop, finish, told, written}
use Rattle.reader.specs.Internal.Reads.{mark, decls_within}
use Rattle.reader.specs.declared.lists.Table.{Table}
use Rattle.replace.specs.Internal.Pieces.{are_names, depth_left}
use Rattle.replace.specs.Internal.Partial.{partial_row}
use Rattle.decls.specs.Internal.Noted.{count_in, end_decls}
use Rattle.rules.specs.Fill.{Decl, unnoted, name_of, listed, unlisted, any_noted}
use Rattle.rules.specs.Replacement.{above}
use Rattle.rules.specs.Scan.{scan}
use Rattle.rules.specs.Partial.{no_places, set_place, instantiate_partial}
use Rattle.rules.specs.Point.{polarity, reduce, of_result}
use Rattle.form.specs.declared.answer.Refusal.TheVariants.{Broken}

abbrev pub is_quantifier : ℕ → Bool
is_quantifier t = eqb t 851 || eqb t 852

-- where the body of a quantified predicate begins: behind the head that the row begins with, whose annotations are expressions
abbrev pub headed : List ℕ → Maybe Head → Maybe ℕ
headed row (Some (Kids p x y n)) = Some p
headed row (Some (Noted p x y n)) = end_decls p (decls_within 63 0 n (drop p row))
headed row None = None

unfoldable pub quantifier_in : List ℕ → Maybe ℕ
quantifier_in row = pick (eqb (count_in row) 0) None (headed row (head_at 1 (read (own pred (get_or row 0 0)) (drop 1 row))))

-- the operator of a head, 851 or 852, and its declarations: the words from the third on, or what they say where the declarations have flags
unfoldable pub operator_in : List ℕ → ℕ
operator_in head = pick (ltb 860 (get_or head 0 0)) (get_or head 0 0 - 10) (get_or head 0 0)

abbrev pub listed_of : GotDecls → List Decl
listed_of (declared ds r) = listed ds
listed_of no-decls = []

unfoldable pub decls_in : List ℕ → List Decl
decls_in head = pick (ltb 860 (get_or head 0 0)) (listed_of (decls (λ s l. decode 63 s l) (get_or head 1 0) (drop 2 head))) (map unnoted (drop 2 head))

-- the head of declarations
abbrev pub head_for : ℕ → List Decl → List ℕ
head_for t ds = pick (any_noted ds) ((t + 10) ∷ length ds ∷ encode_decls (unlisted ds)) (t ∷ length ds ∷ map name_of ds)

-- annotations that are expressions
abbrev pub IsNote : Option Form → Type 0
IsNote absent = Unit {0}
IsNote (some f) = decode 63 expr (encode f) ≡ got f []

abbrev pub AreNotes : List Decl → Type 0
AreNotes [] = Unit {0}
AreNotes (d ∷ ds) = IsNote d.1 × AreNotes ds

-- words that are the head of a quantified predicate
pub record Headed (head : List ℕ) : Type 0 where
  pub which : is_quantifier (operator_in head) ≡ true
  pub least : 1 ≤ length (decls_in head)
  pub few : length (decls_in head) ≤ 32
  pub names : are_names (map name_of (decls_in head)) ≡ true
  pub notes : AreNotes (decls_in head)
  pub is : head_for (operator_in head) (decls_in head) ≡ head
  pub short : length head ≤ 8192

-- the first of n places is filled by the part that ends at e
abbrev pub one_table : ℕ → ℕ → Table
one_table n e = record { words = set (replicate 32 0) 0 1; starts = replicate 32 0; ends = replicate 32 e; n = n }

-- the expression e put for the target i of the declarations ns in the body g
abbrev pub placed_form : ℕ → List Decl → ℕ → Form → Form → Form
placed_form t ns i e g = instantiate_partial t ns (set_place (length ns) i e (no_places (length ns))) g

abbrev pub placed_in : ℕ → List Decl → ℕ → ℕ → Got → Got → Outcome
placed_in t ns i room (got e x) (got g y) = finish pred room (placed_form t ns i e g)
placed_in t ns i room (got e x) no-form = stop (Broken 0)
placed_in t ns i room no-form b = stop (Broken 0)

unfoldable pub placed_outcome : ℕ → List Decl → ℕ → List ℕ → List ℕ → ℕ → Outcome
placed_outcome t ns i part rest room = placed_in t ns i room (decode 63 expr part) (decode 63 pred rest)

-- the part is an expression that can stand for the target i, the rest a predicate
pub record Placing (head : List ℕ) (i : ℕ) (part rest : List ℕ) : Type 0 where
  pub heading : Headed head
  pub target : i < length (decls_in head)
  pub by : Form
  pub is-part : decode 63 expr part ≡ got by []
  pub up : above i by ≡ true
  pub short : length part ≤ 8192
  pub form : Form
  pub is-rest : decode 63 pred rest ≡ got form []
  pub long : length rest ≤ 16384

-- the marks of an expression
pub record Marking (part pm : List ℕ) : Type 0 where
  pub enough : length part ≤ length pm
  pub are : (e : Form) → decode 63 expr part ≡ got e [] → pm ≡ mark e 0 0 (replicate (length pm) 0)

-- the rest is a predicate at most d deep
pub record Shallow (d : ℕ) (rest : List ℕ) : Type 0 where
  pub some : 0 < d
  pub most : d ≤ 63
  pub same : (f : Form) → decode 63 pred rest ≡ got f [] → decode d pred rest ≡ got f []

abbrev pub is_got : Got → Bool
is_got (got f x) = true
is_got no-form = false

-- whether a rest at most d deep is sure to stay within the limits under one quantifier with the part put into it
unfoldable pub is_sure : ℕ → List ℕ → List ℕ → Bool
is_sure d part rest = pick (ltb d (depth_left part)) true (is_got (decode (depth_left part - 1) pred rest))

-- the marks of a predicate
pub record RestMarking (rest ms : List ℕ) : Type 0 where
  pub long : length ms ≡ length rest
  pub are : (f : Form) → decode 63 pred rest ≡ got f [] → ms ≡ mark f 0 0 (replicate (length ms) 0)

-- the word of an emptied body
abbrev pub empty_word : ℕ → ℕ
empty_word t = pick (eqb t 852) 610 611

-- the words of what is left of a body: those of the work row up to where it ends, or the word of an emptied one
abbrev pub rest_words : ℕ → Maybe ℕ → List ℕ → List ℕ
rest_words t (Some e) work = take e work
rest_words t None work = empty_word t ∷ []

abbrev pub reduced_in : ℕ → List Decl → ℕ → Whole → Maybe Outcome
reduced_in t ns room (one f) = Some (of_result room (reduce t ns (scan (length ns) (polarity t) f)))
reduced_in t ns room not-one = None

-- what a body that is read d deep becomes; nothing where it is no predicate so deep
unfoldable pub body_outcome : ℕ → ℕ → List Decl → List ℕ → ℕ → Maybe Outcome
body_outcome d t ns body room = reduced_in t ns room (whole (decode d pred body))

-- as the code answers it, and the output row afterwards
abbrev pub told_if : Maybe Outcome → Maybe Answer
told_if (Some o) = Some (told o)
told_if None = None

abbrev pub written_if : Maybe Outcome → List ℕ → List ℕ
written_if (Some o) out = written o out
written_if None out = out

-- a body can be read d deep, with new marks for what is left of it
pub record Reading (d : ℕ) (body ms : List ℕ) : Type 0 where
  pub some : 0 < d
  pub most : d ≤ 63
  pub zeros : ms ≡ replicate (length ms) 0
  pub room : 2 * length body ≤ length ms

pub record Reducing (head body : List ℕ) (work : ℕ) : Type 0 where
  pub heading : Headed head
  pub short : length body ≤ 8192
  pub enough : 16384 ≤ work

-- whether neither the declarations have annotations nor those of the body's own quantifier, if it has the same operator
unfoldable pub is_simple : List ℕ → List ℕ → Bool
is_simple head body = not (ltb 860 (get_or head 0 0)) && not (eqb (get_or body 0 0) (get_or head 0 0 + 10))

-- the target of the place p
abbrev pub target_of : List ℕ → ℕ → ℕ
target_of head p = get_or head 1 0 - (p + 1)

-- the place p of names filled by the part in a body
abbrev pub named_row : Bool → ℕ → List ℕ → ℕ → List ℕ → List ℕ → List ℕ → List ℕ → ℕ → Outcome
named_row sure t ns p part pm body marks room =
    partial_row sure t (take p ns) (drop (p + 1) ns) (one_table (length ns - p) (length part)) (length ns - p) part pm body marks room

-- what the place p can be filled with: the part with its marks, and the body with those that were made under the declarations from p on
pub record Putting (head : List ℕ) (p : ℕ) (part pm body marks : List ℕ) : Type 0 where
  pub index : ℕ
  pub place : p + suc index ≡ length (decls_in head)
  pub placing : Placing head index part body
  pub marking : Marking part pm
  pub marked : marks ≡ mark placing.form 0 (suc index) (replicate (length body) 0)
