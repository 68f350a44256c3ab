-- Declarations in a block: the grammar's own reader is the one by parts.
use Rattle.std.proofs.Common.{◌≡◌, ℕ, zero, suc, ◌+◌, Bool, true, false, List, length, refl, ap, arith, subst}
use Rattle.std.proofs.lemmas.Bool.{and_parts, eqb-true}
use Rattle.std.specs.Prelude.{Some, None, codes, if◌then◌else◌}
use Rattle.ck_base.specs.declared.tokens.Token.{Token}
use Rattle.ck_declaration_readers.specs.Laws.{ReadsBlockDeclarations}
use Rattle.ck_declaration_readers.specs.Steps.{declared_after, declared_end, declared_from, declared_loop}
use Rattle.ck_declaration_readers.specs.Steps.{declared_step, declares_from, names_from}
use Rattle.ck_grammar.specs.Fitting.{NewName, MemberName}
use Rattle.ck_grammar.specs.Levels as level
use Rattle.ck_grammar.specs.Readers.{Read, Reader, ◌>>=◌, or_else, is_at, mark}
use Rattle.ck_grammar.specs.Reading.{declarator_at, expr_at, specifiers_at}
use Rattle.ck_grammar.specs.ReadingStatements.{declared, declares, init_at, more_declared}
use Rattle.ck_grammar.specs.ReadingTypes as types
use Rattle.ck_grammar.specs.Specified.{InBlock, InType, count, go_together, one_if}
use Rattle.ck_grammar.specs.Statements.{Init, Declared, MoreDeclared, Declaration, Initialised, NoMoreDeclared}
use Rattle.ck_grammar.specs.Statements.{AndInitialised, AndPlainly, Bare, Declares, Plainly}
use Rattle.ck_grammar.specs.StatementsFitting.{is_typedef}
use Rattle.ck_grammar.specs.Trees as trees
use Rattle.ck_grammar.specs.Trees.{Specifiers, Declarator, Members, Enumerators, NoSpecifiers, TypedefName, Tagged}
use Rattle.ck_grammar.specs.Trees.{Struct, Enum}
use Rattle.ck_grammar.specs.Words.{Word, is_text, word_of}

abbrev Row : Type 0
Row = List Token → MoreDeclared × List Token

-- further declarators, by what reads those after one
module _ (w : Token → Word) (d : Reader Declarator) (i : Reader Init) where
  abbrev and_init : Row → Token → Declarator → Token → Init × List Token → Read MoreDeclared
  and_init go comma name equals y = Some (AndInitialised comma name equals y.0 (go y.1).0, (go y.1).1)

  abbrev after_equals : Row → Token → Declarator → Token × List Token → Read MoreDeclared
  after_equals go comma name x = i x.1 >>= and_init go comma name x.0

  abbrev end_if : Row → Token → Declarator → List Token → Bool → Read MoreDeclared
  end_if go comma name ts b =
      if b then (mark w "=" ts >>= after_equals go comma name)
      else Some (AndPlainly comma name (go ts).0, (go ts).1)

  abbrev after_name : Row → Token → Declarator × List Token → Read MoreDeclared
  after_name go comma x = declared_end w i comma x.0 go x.1

  abbrev after_comma : Row → Token × List Token → Read MoreDeclared
  after_comma go x = d x.1 >>= after_name go x.0

  module _ (go other : Row) (same : (ts : List Token) → go ts ≡ other ts) where
    init_same : (comma : Token) (name : Declarator) (t : Token) (read : Read Init)
        → (read >>= and_init go comma name t) ≡ (read >>= and_init other comma name t)
    init_same comma name t None = refl
    init_same comma name t (Some y) = ap (λ r. Some (AndInitialised comma name t y.0 r.0, r.1)) (same y.1)

    equals_same : (comma : Token) (name : Declarator) (read : Read Token)
        → (read >>= after_equals go comma name) ≡ (read >>= after_equals other comma name)
    equals_same comma name None = refl
    equals_same comma name (Some x) = init_same comma name x.0 (i x.1)

    end_same : (comma : Token) (name : Declarator) (ts : List Token) (b : Bool)
        → end_if go comma name ts b ≡ end_if other comma name ts b
    end_same comma name ts true = equals_same comma name (mark w "=" ts)
    end_same comma name ts false = ap (λ r. Some (AndPlainly comma name r.0, r.1)) (same ts)

    name_same : (comma : Token) (read : Read Declarator)
        → (read >>= after_name go comma) ≡ (read >>= after_name other comma)
    name_same comma None = refl
    name_same comma (Some x) = end_same comma x.0 x.1 (is_at w "=" x.1)

    comma_same : (read : Read Token) → (read >>= after_comma go) ≡ (read >>= after_comma other)
    comma_same None = refl
    comma_same (Some x) = name_same x.0 (d x.1)

    step_same : (ts : List Token) → declared_step w d i go ts ≡ declared_step w d i other ts
    step_same ts = comma_same (mark w "," ts)

module _ (bytes : List ℕ) (typedefs : List (List ℕ)) (n : ℕ) where
  abbrev w : Token → Word
  w = word_of bytes typedefs

  abbrev names : Reader Declarator
  names = declarator_at w n NewName

  abbrev inits : Reader Init
  inits = init_at w n

  more_is : (fuel : ℕ) (ts : List Token)
      → more_declared bytes n false fuel typedefs ts ≡ declared_loop w names inits fuel ts
  more_is zero ts = refl
  more_is (suc fuel) ts =
      ap (or_else (NoMoreDeclared, ts))
      (step_same w names inits (more_declared bytes n false fuel typedefs) (declared_loop w names inits fuel)
      (more_is fuel) ts)

  abbrev more : Row
  more ts = more_declared bytes n false (length ts) typedefs ts

  abbrev parts : Row
  parts ts = declared_from w names inits ts

  more_same : (ts : List Token) → more ts ≡ parts ts
  more_same ts = more_is (length ts) ts

  abbrev initialised_by : Row → Token → Init × List Token → Read Declared
  initialised_by go t y = Some (Initialised t y.0 (go y.1).0, (go y.1).1)

  abbrev valued_by : Row → Token × List Token → Read Declared
  valued_by go x = inits x.1 >>= initialised_by go x.0

  abbrev declared_if : Row → List Token → Bool → Read Declared
  declared_if go ts b = if b then (mark w "=" ts >>= valued_by go) else Some (Plainly (go ts).0, (go ts).1)

  first_same : (t : Token) (read : Read Init) → (read >>= initialised_by more t) ≡ (read >>= initialised_by parts t)
  first_same t None = refl
  first_same t (Some y) = ap (λ r. Some (Initialised t y.0 r.0, r.1)) (more_same y.1)

  value_same : (read : Read Token) → (read >>= valued_by more) ≡ (read >>= valued_by parts)
  value_same None = refl
  value_same (Some x) = first_same x.0 (inits x.1)

  declared_same : (ts : List Token) (b : Bool) → declared_if more ts b ≡ declared_if parts ts b
  declared_same ts true = value_same (mark w "=" ts)
  declared_same ts false = ap (λ r. Some (Plainly r.0, r.1)) (more_same ts)

  declared_is : (ts : List Token) → declared bytes n false typedefs ts ≡ declared_after w names inits ts
  declared_is ts = declared_same ts (is_at w "=" ts)

  abbrev ended_by : Specifiers → Declarator → Declared → Token × List Token → Read Declaration
  ended_by s d rest y = Some (Declares s d rest y.0, y.1)

  abbrev ended : Specifiers → Declarator → Read Declared → Read Declaration
  ended s d read = read >>= (λ x. mark w ";" x.1 >>= ended_by s d x.0)

  declares_is : (s : Specifiers) (d : Declarator) (ts : List Token) → is_typedef w s ≡ false
      → declares bytes typedefs n s d ts ≡ declares_from w names inits s d ts
  declares_is s d ts h = rw h (ap (ended s d) (declared_is ts))

  -- specifiers of which no word is `typedef`
  word_no : (b : Bool) (more : ℕ) (rest : Bool) → one_if b + more ≡ 0 → (more ≡ 0 → rest ≡ false)
      → (if b then true else rest) ≡ false
  word_no true more rest h k = absurd (omega (arith, h))
  word_no false more rest h k = k (omega (arith, h))

  no_typedef : (s : Specifiers) → count w (is_text (codes "typedef")) s ≡ 0 → is_typedef w s ≡ false
  no_typedef NoSpecifiers h = refl
  no_typedef (trees.Word t rest) h = word_no (is_text (codes "typedef") (w t)) _ _ h (no_typedef rest)
  no_typedef (TypedefName t rest) h = no_typedef rest h
  no_typedef (Tagged keyword t rest) h = no_typedef rest h
  no_typedef (Struct keyword tag opening m closing rest) h = no_typedef rest h
  no_typedef (Enum keyword tag opening m closing rest) h = no_typedef rest h

  together_no : (s : Specifiers) → go_together w InBlock s ≡ true → is_typedef w s ≡ false
  together_no s h = no_typedef s (eqb-true _ _ (and_parts _ _ (and_parts _ _ h).1).1)

  abbrev fits_if : Bool → Specifiers × List Token → Read Specifiers
  fits_if b y = if b then Some y else None

  fits_by : (b : Bool) (y x : Specifiers × List Token) → fits_if b y ≡ Some x → (b ≡ true) × (y ≡ x)
  fits_by true y x h = (refl, cc)
  fits_by false y x h = absurd (cc)

  specifiers_no : (members : Reader Members) (enumerators : Reader Enumerators) (ts : List Token)
      (x : Specifiers × List Token) → types.specifiers w members enumerators InBlock ts ≡ Some x
      → is_typedef w x.0 ≡ false
  specifiers_no members enumerators ts x h =
      let y = types.specifier_loop w members enumerators (length ts) false ts in
      let both = fits_by (go_together w InBlock y.0) y x h in
      subst (λ z. is_typedef w z.0 ≡ false) both.1 (together_no y.0 both.0)

  block_no : (m : ℕ) (ts : List Token) (x : Specifiers × List Token) → specifiers_at w m InBlock ts ≡ Some x
      → is_typedef w x.0 ≡ false
  block_no zero ts x h = specifiers_no (λ r. None) (λ r. None) ts x h
  block_no (suc m) ts x h =
      specifiers_no (types.members w (specifiers_at w m InType) (declarator_at w m MemberName))
      (λ r. types.enumerators w (expr_at w m level.conditional) (length r) r) ts x h

  abbrev named_by : Specifiers → Declarator × List Token → Read Declaration
  named_by s y = declares bytes typedefs n s y.0 y.1

  abbrev named_from : Specifiers → Declarator × List Token → Read Declaration
  named_from s y = declares_from w names inits s y.0 y.1

  names_same : (s : Specifiers) → is_typedef w s ≡ false → (read : Read Declarator)
      → (read >>= named_by s) ≡ (read >>= named_from s)
  names_same s h None = refl
  names_same s h (Some y) = declares_is s y.0 y.1 h

  abbrev bare_by : Specifiers → Token × List Token → Read Declaration
  bare_by s y = Some (Bare s y.0, y.1)

  abbrev rest_if : (Specifiers → Reader Declaration) → Specifiers → List Token → Bool → Read Declaration
  rest_if go s ts b = if b then (mark w ";" ts >>= bare_by s) else go s ts

  abbrev named : Specifiers → Reader Declaration
  named s ts = names ts >>= named_by s

  rest_same : (s : Specifiers) (ts : List Token) → is_typedef w s ≡ false → (b : Bool)
      → rest_if named s ts b ≡ rest_if (names_from w names inits) s ts b
  rest_same s ts h true = refl
  rest_same s ts h false = names_same s h (names ts)

  abbrev specified_by : (Specifiers → Reader Declaration) → Specifiers × List Token → Read Declaration
  specified_by go x = rest_if go x.0 x.1 (is_at w ";" x.1)

  specified_same : (read : Read Specifiers)
      → ((x : Specifiers × List Token) → read ≡ Some x → is_typedef w x.0 ≡ false)
      → (read >>= specified_by named) ≡ (read >>= specified_by (names_from w names inits))
  specified_same None h = refl
  specified_same (Some x) h = rest_same x.0 x.1 (h x refl) (is_at w ";" x.1)

pub reads_block_declarations : ReadsBlockDeclarations
reads_block_declarations bytes typedefs n ts =
    specified_same bytes typedefs n (specifiers_at (word_of bytes typedefs) n InBlock ts)
    (block_no bytes typedefs n n ts)
