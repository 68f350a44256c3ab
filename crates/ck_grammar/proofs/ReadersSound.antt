-- What is read is spelled so: by how deep it nests.
use Rattle.std.proofs.Common.{◌≡◌, ℕ, zero, suc, ◌≤◌, Bool, true, false, cond, List, [], length, Some, None, refl, ap}
use Rattle.std.proofs.Common.{◌∙◌, arith}
use Rattle.ck_base.specs.declared.tokens.Token.{Token}
use Rattle.ck_grammar.proofs.ExpressionsSound.{SoundExprs, SoundTypes, IsExpr, IsType, level_sound}
use Rattle.ck_grammar.proofs.ReaderAnswers.{OnRead, SoundReader, on_then}
use Rattle.ck_grammar.proofs.TypesSound.{GoodSpecifiers, GoodDeclarator, IsSpecifiers, IsDeclarator, specifiers_sound}
use Rattle.ck_grammar.proofs.TypesSound.{members_sound, enumerators_sound, params_sound, declarator_sound}
use Rattle.ck_grammar.specs.Fitting.{Naming, MemberName, MaybeName, NoName, may_be_abstract}
use Rattle.ck_grammar.specs.Readers.{Read, Reader}
use Rattle.ck_grammar.specs.Reading.{expr_at, specifiers_at, declarator_at, type_name}
use Rattle.ck_grammar.specs.Specified.{Place, InType, InParameter}
use Rattle.ck_grammar.specs.Spelling.{Spells, most}
use Rattle.ck_grammar.specs.Trees.{Expr, Specifiers, Declarator, Abstract, NoDims}
use Rattle.ck_grammar.specs.Words.{Word, word_of}
use Rattle.ck_grammar.specs.Written.{specifiers, declarator}
use Rattle.ck_grammar.specs.ReadingTypes as types

pub type_name_sound : (w : Token → Word) (n : ℕ) (s : Reader Specifiers) (d : Reader Declarator)
    → SoundReader (GoodSpecifiers w n InType) specifiers s → SoundReader (GoodDeclarator w n NoName) declarator d
    → SoundTypes w n (type_name s d)
type_name_sound w n s d sound_s sound_d ts =
    on_then (IsSpecifiers w n InType ts) (IsType w n ts) _ _ (sound_s ts)
    (λ x r first. on_then (IsDeclarator w n NoName r) (IsType w n ts) _ _ (sound_d r) (λ y r' second.
    record {
      tokens_are = ap (specifiers x) second.tokens_are ∙ first.tokens_are;
      good =
          ((first.good.0, first.good.1, second.good.0), first.good.2, second.good.1);
    }))

nothing_sound : (w : Token → Word) (naming : Naming) (ts : List Token) (b : Bool) → may_be_abstract naming ≡ b
    → OnRead (IsDeclarator w 0 naming ts) (cond b (Some (Abstract [] NoDims, ts)) None)
nothing_sound w naming ts true may = record { tokens_are = refl; good = ((may, tt, tt), omega arith) }
nothing_sound w naming ts false may = tt

-- what the readers of what nests so deep read is spelled so
pub record AllSound (w : Token → Word) (n : ℕ) : Type 0 where
  pub exprs : SoundExprs w n (expr_at w n)
  pub specs : (place : Place) → SoundReader (GoodSpecifiers w n place) specifiers (specifiers_at w n place)
  pub decls : (naming : Naming) → SoundReader (GoodDeclarator w n naming) declarator (declarator_at w n naming)

pub all_sound : (w : Token → Word) (n : ℕ) → AllSound w n
all_sound w zero = record {
  exprs = λ j le ts. tt;
  specs = λ place. specifiers_sound w (λ r. None) (λ r. None) 0 place (λ ts. tt) (λ ts. tt);
  decls = λ naming ts. nothing_sound w naming ts (may_be_abstract naming) refl;
}
all_sound w (suc n) =
    let inner = all_sound w n in
    record {
      exprs = level_sound w (expr_at w n) (type_name (specifiers_at w n InType) (declarator_at w n NoName)) n
          inner.exprs (type_name_sound w n (specifiers_at w n InType) (declarator_at w n NoName) (inner.specs InType)
          (inner.decls NoName));
      specs = λ place. specifiers_sound w (types.members w (specifiers_at w n InType) (declarator_at w n MemberName))
          (λ r. types.enumerators w (expr_at w n 11) (length r) r) (suc n) place
          (members_sound w (specifiers_at w n InType) (declarator_at w n MemberName) n (inner.specs InType)
          (inner.decls MemberName))
          (λ ts. enumerators_sound w (expr_at w n 11) n (length ts) (inner.exprs 11 (omega arith)) ts);
      decls = λ naming.
          declarator_sound w (expr_at w n 11)
          (types.params w (specifiers_at w n InParameter) (declarator_at w n MaybeName))
          (declarator_at w n naming) n naming (inner.exprs 11 (omega arith))
          (params_sound w (specifiers_at w n InParameter) (declarator_at w n MaybeName) n (inner.specs InParameter)
          (inner.decls MaybeName)) (inner.decls naming);
    }

on_answer : {A : Type 0} (P : A → List Token → Type 0) (m : Read A) (x : A) (r : List Token) → m ≡ Some (x, r)
    → OnRead P m → P x r
on_answer P m x r e h = rw e at h

-- what is read as an expression of a level is one, and these are its tokens and those after it
pub expression_read : (w : Token → Word) (n j : ℕ) (ts : List Token) (e : Expr) (r : List Token) → j ≤ 13
    → expr_at w n j ts ≡ Some (e, r) → IsExpr w n j ts e r
expression_read w n j ts e r le read = on_answer (IsExpr w n j ts) (expr_at w n j ts) e r read
    ((all_sound w n).exprs j le ts)

-- an expression that is read to the end is spelled
pub read_is_spelled : (bytes : List ℕ) (typedefs : List (List ℕ)) (tokens : List Token) (e : Expr)
    → expr_at (word_of bytes typedefs) most 13 tokens ≡ Some (e, []) → Spells e bytes tokens typedefs
read_is_spelled bytes typedefs tokens e read =
    let is = expression_read (word_of bytes typedefs) most 13 tokens e [] (omega arith) read in
    record { tokens_are = is.tokens_are; fits = is.good.0; nests = is.good.1 }
