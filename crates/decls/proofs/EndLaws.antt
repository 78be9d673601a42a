-- Declarations with flags that were read at a position of a row: where they end, and that they stand there. Assumes nothing.
use mathlib.Core.Path.{◌≡◌, refl, ap, sym, ◌∙◌}
use mathlib.Core.Bool.{Bool, true, false}
use mathlib.Core.List.{List, [], ◌++◌}
use Prim.Native.Nat.{ℕ, ◌+◌, ◌≤◌}
use native.Mathlib.Omega.{arith}
use lib.ListN.{length, drop}
use Rattle.tree.specs.Form.{Decls, names_of, any_typed, none, pick, encode, encode_decls}
use Rattle.form.specs.Decode.{gots, GotDecls, declared, no-decls, decode, decls}
use Rattle.form.proofs.DecodeLaws.{clash, OkDecls, decls-sound, decls-at}
use Rattle.reader.specs.Internal.Reads.{ToldAll, ToldNoted, decls_within, mark_decls}
use Rattle.reader.proofs.DeclReads.{within}
use Rattle.decls.specs.Internal.Noted.{end_decls}
use Rattle.std.specs.Prelude.{Some, None, Option}

-- what the reader of declarations tells of a position is where they end
pub noted-ends : (at u : ℕ) (g : GotDecls) (a b : List ℕ) (r : Option ℕ) → ToldNoted at u g (λ l. gots none l) a b r → r ≡ end_decls at g
unfolding ToldNoted ToldAll end_decls encode
noted-ends at u (declared ds x) a b r t = go (any_typed ds) t
  where
    go : (z : Bool) → pick z (ToldAll (at + length (encode_decls ds)) (u + length (names_of ds)) (gots none x) (mark_decls ds at u a) b r) (r ≡ None) → r ≡ pick z (Some (at + length (encode_decls ds))) None
    go true t = t.0 ∙ ap Some (omega arith)
    go false t = t
noted-ends at u no-decls a b r t = t

-- declarations that stand at a position, each annotation at most 63 deep, and one at least has one
pub record Declared (row : List ℕ) (at n e : ℕ) : Type 0 where
  pub decls : Decls
  pub words : drop at row ≡ encode_decls decls ++ drop e row
  pub ok : OkDecls 63 decls
  pub count : length (names_of decls) ≡ n
  pub noted : any_typed decls ≡ true
  pub ends : e ≡ at + length (encode_decls decls)

pub declared-at : (row : List ℕ) (at n e : ℕ) (r : Option ℕ) → n ≤ 65535 → r ≡ end_decls at (decls_within 63 0 n (drop at row)) → r ≡ Some e → Declared row at n e
unfolding end_decls
declared-at row at n e r most q k = go (decls (λ s l. decode 63 s l) n (drop at row)) refl (sym k ∙ (q ∙ ap (end_decls at) (within at 63 0 n (drop at row) [] [] (omega arith) (omega arith) most)))
  where
    go : (g : GotDecls) → decls (λ s l. decode 63 s l) n (drop at row) ≡ g → Some e ≡ end_decls at g → Declared row at n e
    go (declared ds x) d h = typed (any_typed ds) refl h
      where
        typed : (z : Bool) → any_typed ds ≡ z → Some e ≡ pick z (Some (at + length (encode_decls ds))) None → Declared row at n e
        typed true z h =
            let f : e ≡ at + length (encode_decls ds) = cc in
            let (w, o, c) = decls-sound 63 n (drop at row) ds x d in
            record { decls = ds; words = w ∙ ap (λ y. encode_decls ds ++ y) (decls-at 63 n row at ds x d ∙ ap (λ y. drop y row) (sym f)); ok = o; count = c; noted = z; ends = f }
        typed false z h = absurd (clash cc)
    go no-decls d h = absurd (clash cc)
