-- Laws of names, scopes and typed trees.
use Rattle.std.specs.Prelude.{◌≡◌, ℕ, Bool, true, false, List, ◌++◌, Option, Contains, Some}
use Rattle.std.specs.Str.{bytes_eq}
use Rattle.ck_grammar.specs.Trees.{Expr, Specifiers, Declarator, Params}
use Rattle.ck_types.specs.IntegerTypes.{represents}
use Rattle.ck_types.specs.Types.{CType, Integer}
use Rattle.ck_prog.specs.Declarations.{Meaning, Entry, Place, is_open, meant_in, inside, outside}
use Rattle.ck_prog.specs.Declaring.{after_declared, after_function_name}
use Rattle.ck_prog.specs.Growing.{ComesAfter, IsOrderly, AreFitting, AreBytes}
use Rattle.ck_prog.specs.Linking.{StorageClass}
use Rattle.ck_prog.specs.Senses.{Constancy, Known}
use Rattle.ck_prog.specs.Tags.{Around}
use Rattle.ck_prog.specs.TypeClasses.{Qualified}
use Rattle.ck_prog.specs.TypedExpressions.{typed_expression}
use Rattle.ck_prog.specs.TypedTrees.{facts}
use Rattle.ck_prog.specs.Typing.{sense, after, after_specifiers, after_declarator, after_params}
use Rattle.ck_prog.specs.declared.names.Defining.{Defining}
use Rattle.ck_prog.specs.declared.operators.Role.{Role}

-- a typed tree has the sense of its expression, in each role
abbrev pub TypedKeepsSense : Type 0
TypedKeepsSense = (p : Place) (role : Role) (e : Expr) → (facts (typed_expression p role e)).sense ≡ sense p e

-- what a name means is one of the declarations before its use, of that name and in an open scope
pub record IsMeant (space : Meaning → Bool) (p : Place) (name : List ℕ) (e : Entry) : Type 0 where
  pub declared : Contains p.declared e
  pub of_space : space e.meaning ≡ true
  pub open_there : is_open p.file p.scope e ≡ true
  pub of_name : bytes_eq e.name name ≡ true

abbrev pub MeansOpenEntry : Type 0
MeansOpenEntry =
    (space : Meaning → Bool) (p : Place) (name : List ℕ) (e : Entry) → meant_in space p name ≡ Some e
    → IsMeant space p name e

-- trees declare, each name in its scopes, and take nothing back
pub record TreesDeclare : Type 0 where
  pub expression : (p : Place) (e : Expr) → ComesAfter p (after p e)
  pub specifiers : (p : Place) (around : Around) (s : Specifiers) → ComesAfter p (after_specifiers p around s)
  pub declarator : (p : Place) (d : Declarator) → ComesAfter p (after_declarator p d)
  pub params : (d : Defining) (p : Place) (params : Params) → ComesAfter p (after_params d p params)
  pub declared :
      (p : Place) (class : StorageClass) (initialised : Bool) (base : Option Qualified) (d : Declarator) →
      ComesAfter p (after_declared p class initialised base d)
  pub function_name : (p : Place) (s : Specifiers) (d : Declarator) → ComesAfter p (after_function_name p s d)

-- a place after another is in its file and in its scopes, after more declarations
pub record IsLonger (p q : Place) : Type 0 where
  pub file_is : q.file ≡ p.file
  pub bytes_are : q.bytes ≡ p.bytes
  pub scope_is : q.scope ≡ p.scope
  pub new : List Entry
  pub declared_is : q.declared ≡ new ++ p.declared

abbrev pub DeclarationsStay : Type 0
DeclarationsStay = (p q : Place) → ComesAfter p q → IsLonger p q

-- a place after an orderly one is orderly, and each file begins so
abbrev pub StaysOrderly : Type 0
StaysOrderly = (p q : Place) → ComesAfter p q → IsOrderly p → IsOrderly q

-- 6.2.1: a scope that opens shows what was in sight
abbrev pub OpeningShows : Type 0
OpeningShows =
    (space : Meaning → Bool) (p : Place) (name : List ℕ) → IsOrderly p
    → meant_in space (inside p) name ≡ meant_in space p name

-- 6.2.1: a scope that closes hides what it declared
abbrev pub ClosingHides : Type 0
ClosingHides =
    (space : Meaning → Bool) (p q : Place) (name : List ℕ) → ComesAfter (inside p) q
    → meant_in space (outside p q) name ≡ meant_in space p name

-- the values of enumeration constants are those of `int` after a place where they are before it
abbrev pub StaysFitting : Type 0
StaysFitting = (p q : Place) → ComesAfter p q → AreFitting p.declared → AreFitting q.declared

-- a known value is one of its expression's type, which is an integer type
abbrev pub is_in_range : Option CType → Constancy → Bool
is_in_range (Some (Integer t)) (Known z) = represents t z
is_in_range _ (Known z) = false
is_in_range _ _ = true

abbrev pub KnownIsInRange : Type 0
KnownIsInRange =
    (p : Place) (e : Expr) → AreFitting p.declared → AreBytes p.bytes
    → is_in_range (sense p e).type (sense p e).constancy ≡ true
