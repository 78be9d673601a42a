-- The declarations of a comprehension as a row with flags: a part of its row, or its names with flags. Assumes nothing.
use mathlib.Core.Path.{◌≡◌, refl, ap, sym, ◌∙◌}
use mathlib.Core.Bool.{Bool, true, false}
use mathlib.Core.List.{List, [], ◌++◌, append-nil, map}
use Prim.Native.Nat.{ℕ, ◌+◌, ◌-◌, ◌*◌, ◌≤◌}
use native.Mathlib.Omega.{arith}
use lib.ListN.{length, get_or, take, drop, length-drop, length-map}
use lib.Seq.{drop-drop, length-take-le}
use Rattle.tree.specs.Form.{names_of, pick, encode, encode_decls}
use Rattle.tree.specs.Tag.{expr}
use Rattle.form.proofs.DecodeLaws.{decls-encode, decode-sound}
use Rattle.reader.specs.declared.lists.Table.{Table}
use Rattle.rules.specs.Fill.{Decl, unnoted, name_of, unlisted, any_noted}
use Rattle.shift.specs.Internal.Items.{store}
use Rattle.shift.proofs.AroundLaws.{names-unlisted}
use Rattle.replace.proofs.BuildLaws.{rest_part}
use Rattle.decls.specs.Internal.Noted.{names_fit}
use Rattle.decls.proofs.DeclLaws.{GoodDecls, decls-good}
use Rattle.decls.proofs.HeadLaws.{stored-behind, flags-length, names-fit}
use Rattle.member.specs.declared.member.Comprehension.{Comprehension}
use Rattle.member.specs.Internal.Member.{set_of, SetIn, Filling}
use Rattle.member.specs.Internal.Noted.{FlaggedIn}
use Rattle.member.proofs.SetLaws.{set-good, head-tag}
use Rattle.member.proofs.BodyLaws.{set_words, names-all, names-count, positions}

-- declarations that stand in a row, with flags
flagged-in : (row rest : List ℕ) (ds : List Decl) → GoodDecls ds → drop 2 row ≡ encode_decls (unlisted ds) ++ rest → length row ≤ 8192 → FlaggedIn row ds
flagged-in row rest ds g e h =
    let k : length (names_of (unlisted ds)) ≡ length ds = ap length (names-unlisted ds) ∙ length-map ds name_of in
    record { rest = rest; is = rw e (rw k at (decls-encode (decls-good ds g) rest)); short = h }

module _ {row : List ℕ} {c : Comprehension} (x : SetIn row c) where
  good : GoodDecls x.decls
  good = set-good x.form x.decls x.guard x.value (decode-sound 63 expr (encode (set_of x.form x.decls x.guard x.value)) (set_of x.form x.decls x.guard x.value) [] x.is_set).1

  unfoldable pub set-filling : {lm body marks : List ℕ} {t : Table} → Filling c.n row lm t body marks → Filling (length x.decls) row lm t body marks
  set-filling y =
      let e = x.number in
      record {
        places = y.places;
        table = rw (← e) y.table;
        body = y.body;
        words = y.words;
        marked = rw (← e) y.marked;
        enough = y.enough;
        flat = y.flat;
        shape = y.shape;
        most = rw (← e) y.most;
        long = y.long;
      }

  module _ (short : length row ≤ 8192) where
    -- with annotations
    module _ (tag : get_or row c.at 0 ≡ 803 → ⊥) where
      any : any_noted x.decls ≡ true
      any = go (any_noted x.decls) refl
        where
          go : (z : Bool) → any_noted x.decls ≡ z → z ≡ true
          go true e = refl
          go false e = absurd (tag (head-tag row c.at x.form x.decls (encode x.guard ++ encode x.value) (set_words x) ∙ rw e))

      pub flagged-part : FlaggedIn (take (length row - (c.at + 1)) (drop (c.at + 1) row)) x.decls
      flagged-part =
          let a : drop 2 (drop (c.at + 1) row) ≡ encode_decls (unlisted x.decls) ++ (encode x.guard ++ encode x.value)
          = drop-drop 2 (c.at + 1) row ∙ (ap (λ k. drop k row) (let z : c.at + 1 + 2 ≡ c.at + 3 = omega arith in z) ∙ (sym (drop-drop 3 c.at row) ∙ (ap (drop 3) (set_words x) ∙ rw any))) in
          let l = length-drop (c.at + 1) row in
          rw (rest_part row (c.at + 1)) (flagged-in (drop (c.at + 1) row) (encode x.guard ++ encode x.value) x.decls good a (omega arith))

    -- without, with flags written for them
    module _ (tag : get_or row c.at 0 ≡ 803) where
      abbrev ns : List ℕ
      ns = take (c.guard - (c.at + 3)) (drop (c.at + 3) row)

      few : length ns ≤ 32
      few = let e = names-count x tag in let p = positions x in omega arith

      fit : (room : ℕ) → room ≡ 66 → names_fit (length ns) room ≡ true
      fit room e = names-fit (length ns) room few (let f = few in omega arith)

      pub flags-end : (e : ℕ) → e ≡ pick (names_fit (length ns) 66) (2 + 2 * length ns) 0 → e ≤ 66
      flags-end e h = let f = few in let k : e ≡ 2 + 2 * length ns = h ∙ rw (fit 66 refl) in omega arith

      pub flagged-names : (flags flags' : List ℕ) (e : ℕ) → length flags ≡ 66 → e ≡ pick (names_fit (length ns) 66) (2 + 2 * length ns) 0
          → flags' ≡ pick (names_fit (length ns) 66) (store flags 2 (encode_decls (unlisted (map unnoted ns)))) flags → length flags' ≡ length flags → FlaggedIn (take e flags') x.decls
      flagged-names flags flags' e l h w k =
          let ws = encode_decls (unlisted (map unnoted ns)) in
          let m : length ws ≡ 2 * length ns = flags-length ns in
          let f = few in
          let a : e ≡ 2 + length ws = h ∙ (rw (fit 66 refl) (omega arith)) in
          let b : flags' ≡ store flags 2 ws = w ∙ rw (fit 66 refl) in
          let d : drop 2 (take e flags') ≡ encode_decls (unlisted x.decls) ++ [] = rw (a, b, stored-behind flags ws (omega arith), append-nil) (ap (λ z. encode_decls (unlisted z)) (names-all x tag)) in
          let n = length-take-le e flags' (omega arith) in
          flagged-in (take e flags') [] x.decls good d (omega arith)
