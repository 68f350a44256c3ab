-- What is written is read again: by how deep it nests.
use Rattle.std.proofs.Common.{◌≡◌, ℕ, zero, suc, ◌≤◌, List, [], ◌∷◌, length, Option, Some, None, refl, sym, ap, ◌∙◌}
use Rattle.std.proofs.Common.{arith}
use Rattle.std.specs.Prelude.{codes}
use Rattle.ck_base.specs.declared.tokens.Token.{Token}
use Rattle.ck_grammar.proofs.BodiesComplete.{members_read, enumerators_read, params_read}
use Rattle.ck_grammar.proofs.CastsComplete.{ReadsTypes}
use Rattle.ck_grammar.proofs.DeclaratorsComplete.{ReadsDeclarators, declarator_read, nothing_read}
use Rattle.ck_grammar.proofs.Levels.{loosest}
use Rattle.ck_grammar.proofs.LevelsComplete.{level_read}
use Rattle.ck_grammar.proofs.SpecifiersComplete.{ReadsSpecifiers, specifiers_read, none_at_curly}
use Rattle.ck_grammar.proofs.Stops.{Exact}
use Rattle.ck_grammar.proofs.TypeStops.{declarator_ends, type_opens}
use Rattle.ck_grammar.specs.Fitting.{Fits, Naming, NoName, MaybeName, MemberName}
use Rattle.ck_grammar.specs.Nesting.{nesting}
use Rattle.ck_grammar.specs.Readers.{Reader}
use Rattle.ck_grammar.specs.Reading.{expr_at, specifiers_at, declarator_at, type_name}
use Rattle.ck_grammar.specs.Specified.{Place, InType, InParameter}
use Rattle.ck_grammar.specs.Spelling.{Spells, OneExpression, most}
use Rattle.ck_grammar.specs.Trees.{Expr, Specifiers, Declarator, Name}
use Rattle.ck_grammar.specs.Words.{Word, Fixed, word_of}
use Rattle.ck_grammar.specs.Written.{written, specifiers, declarator}
use Rattle.ck_grammar.specs.ReadingTypes as types

pub type_name_read : (w : Token → Word) (n : ℕ) (s : Reader Specifiers) (r : Reader Declarator)
    → ReadsSpecifiers w n InType s → ReadsDeclarators w n NoName r → ReadsTypes w n (type_name s r)
type_name_read w n s r reads_s reads_d x d c more h good h' nests nests' close =
    let first : s (specifiers x (declarator d (c ∷ more))) ≡ Some (x, declarator d (c ∷ more)) =
    reads_s x (declarator d (c ∷ more)) h good nests (declarator_ends w NoName d (c ∷ more) h' (rw close refl)) in
    let second : r (declarator d (c ∷ more)) ≡ Some (d, c ∷ more) = reads_d d (c ∷ more) h' nests' (rw close refl) in
    rw (first, second) refl

none_at_curly_at : (w : Token → Word) (n : ℕ) (place : Place) (c : Token) (more : List Token) → w c ≡ Fixed (codes "}")
    → specifiers_at w n place (c ∷ more) ≡ None
none_at_curly_at w zero place c more h = none_at_curly w (λ r. None) (λ r. None) place c more h
none_at_curly_at w (suc n) place c more h =
    none_at_curly w (types.members w (specifiers_at w n InType) (declarator_at w n MemberName))
    (λ r. types.enumerators w (expr_at w n 11) (length r) r) place c more h

pub nests_once : (e : Expr) → nesting e ≤ 0 → ⊥
nests_once (Name t) h = omega (arith, h)
nests_once _ h = omega (arith, h)

-- what nests so deep is read
pub record AllRead (w : Token → Word) (n : ℕ) : Type 0 where
  pub exprs : Exact w n (expr_at w n)
  pub specs : (place : Place) → ReadsSpecifiers w n place (specifiers_at w n place)
  pub decls : (naming : Naming) → ReadsDeclarators w n naming (declarator_at w n naming)

pub all_read : (w : Token → Word) (n : ℕ) → AllRead w n
all_read w zero = record {
  exprs = λ j le e more h nests low stop. absurd (nests_once e nests);
  specs = λ place.
      specifiers_read w (λ r. None) (λ r. None) 0 place (λ m c more h one nests close. absurd (omega (arith, nests)))
      (λ m c more h nests close. absurd (omega (arith, nests)));
  decls = λ naming. nothing_read w naming (declarator_at w 0 naming) (λ ts. refl);
}
all_read w (suc n) =
    let inner = all_read w n in
    record {
      exprs = λ j le. level_read w (expr_at w n) (type_name (specifiers_at w n InType) (declarator_at w n NoName)) n j
          inner.exprs
          (type_name_read w n (specifiers_at w n InType) (declarator_at w n NoName) (inner.specs InType)
          (inner.decls NoName)) (type_opens w) le;
      specs = λ place. specifiers_read w (types.members w (specifiers_at w n InType) (declarator_at w n MemberName))
          (λ r. types.enumerators w (expr_at w n 11) (length r) r) (suc n) place
          (members_read w (specifiers_at w n InType) (declarator_at w n MemberName) n (inner.specs InType)
          (inner.decls MemberName) (none_at_curly_at w n InType))
          (enumerators_read w (expr_at w n 11) n (inner.exprs 11 (omega arith)));
      decls = λ naming.
          declarator_read w (expr_at w n 11)
          (types.params w (specifiers_at w n InParameter) (declarator_at w n MaybeName))
          (declarator_at w n naming) n naming (inner.exprs 11 (omega arith))
          (params_read w (specifiers_at w n InParameter) (declarator_at w n MaybeName) n (inner.specs InParameter)
          (inner.decls MaybeName)) (inner.decls naming);
    }

-- an expression is read from the tokens that it spells
pub spelled_is_read : (bytes : List ℕ) (typedefs : List (List ℕ)) (tokens : List Token) (e : Expr)
    → Spells e bytes tokens typedefs → expr_at (word_of bytes typedefs) most 13 tokens ≡ Some (e, [])
spelled_is_read bytes typedefs tokens e h =
    ap (expr_at (word_of bytes typedefs) most 13) (sym h.tokens_are)
    ∙ (all_read (word_of bytes typedefs) most).exprs 13 (omega arith) e [] h.fits h.nests
    (loosest (word_of bytes typedefs) e h.fits) tt

abbrev read_of : Option (Expr × List Token) → Expr → Expr
read_of None e = e
read_of (Some x) e = x.0

-- trees that nest so deep and are written alike are one
pub one_tree : (w : Token → Word) (n : ℕ) (e f : Expr) → Fits w e → Fits w f → nesting e ≤ n → nesting f ≤ n
    → written e [] ≡ written f [] → e ≡ f
one_tree w n e f h k nests nests' same_tokens =
    ap (λ r. read_of r e) (sym ((all_read w n).exprs 13 (omega arith) e [] h nests (loosest w e h) tt)
    ∙ ap (expr_at w n 13) same_tokens ∙ (all_read w n).exprs 13 (omega arith) f [] k nests' (loosest w f k) tt)

pub one_expression : OneExpression
one_expression bytes typedefs tokens e f h k =
    ap (λ r. read_of r e) (sym (spelled_is_read bytes typedefs tokens e h) ∙ spelled_is_read bytes typedefs tokens f k)
