-- The type that specifiers name (C99 6.7.2, 6.7.3, 6.7.7). The tags in them have been declared before.
use Rattle.std.specs.Prelude.{ℕ, List, [], ◌∷◌, Option, Some, None, if◌then◌else◌}
use Rattle.ck_grammar.specs.Specified.{have_same_type_words, texts}
use Rattle.ck_grammar.specs.Trees.{Specifiers, NoSpecifiers, Word, TypedefName, Tagged, Struct, Enum}
use Rattle.ck_grammar.specs.Words.{words}
use Rattle.ck_types.specs.Types.{Qualifiers, CType, Void, Integer}
use Rattle.ck_types.specs.declared.integer_types.IntegerType.TheVariants as integers
use Rattle.ck_prog.specs.Declarations.{Meaning, TypeNamed, Place, text, meant, meaning_of}
use Rattle.ck_prog.specs.Linking.{word_at, has_word}
use Rattle.ck_prog.specs.Tags.{tag_name, type_named_by_tag}
use Rattle.ck_prog.specs.TypeClasses.{Qualified, unqualified, qualified, int}

-- 6.7.2: the type words, in any order, and their type
abbrev pub types_by_words : List (List (List ℕ) × CType)
types_by_words =
    (words "void", Void)
    ∷ (words "char", Integer integers.Char)
    ∷ (words "signed char", Integer integers.SignedChar)
    ∷ (words "unsigned char", Integer integers.Char)
    ∷ (words "short", Integer integers.Short)
    ∷ (words "signed short", Integer integers.Short)
    ∷ (words "short int", Integer integers.Short)
    ∷ (words "signed short int", Integer integers.Short)
    ∷ (words "unsigned short", Integer integers.UnsignedShort)
    ∷ (words "unsigned short int", Integer integers.UnsignedShort)
    ∷ (words "int", Integer integers.Int)
    ∷ (words "signed", Integer integers.Int)
    ∷ (words "signed int", Integer integers.Int)
    ∷ (words "unsigned", Integer integers.UnsignedInt)
    ∷ (words "unsigned int", Integer integers.UnsignedInt)
    ∷ (words "long", Integer integers.Long)
    ∷ (words "signed long", Integer integers.Long)
    ∷ (words "long int", Integer integers.Long)
    ∷ (words "signed long int", Integer integers.Long)
    ∷ (words "unsigned long", Integer integers.UnsignedLong)
    ∷ (words "unsigned long int", Integer integers.UnsignedLong)
    ∷ (words "long long", Integer integers.LongLong)
    ∷ (words "signed long long", Integer integers.LongLong)
    ∷ (words "long long int", Integer integers.LongLong)
    ∷ (words "signed long long int", Integer integers.LongLong)
    ∷ (words "unsigned long long", Integer integers.UnsignedLongLong)
    ∷ (words "unsigned long long int", Integer integers.UnsignedLongLong)
    ∷ (words "_Bool", Integer integers.Bool)
    ∷ []

-- the type of the first row with the same type words
abbrev pub type_by : List (List (List ℕ) × CType) → List (List ℕ) → Option CType
type_by [] texts = None
type_by (row ∷ rows) texts = if have_same_type_words texts row.0 then Some row.1 else type_by rows texts

abbrev pub as_unqualified : Option CType → Option Qualified
as_unqualified None = None
as_unqualified (Some t) = Some (unqualified t)

-- 6.7.7
abbrev pub type_named : Option Meaning → Option Qualified
type_named (Some (TypeNamed t)) = t
type_named _ = None

-- the type of the first typedef name, `struct` or `enum`, else that of the type words `texts`
abbrev pub named_or : List (List ℕ) → Place → Specifiers → Option Qualified
named_or texts p NoSpecifiers = as_unqualified (type_by types_by_words texts)
named_or texts p (Word t rest) = named_or texts p rest
named_or texts p (TypedefName t rest) = type_named (meaning_of (meant p (text p t)))
named_or texts p (Tagged keyword tag rest) = type_named_by_tag p keyword (text p tag)
named_or texts p (Struct keyword tag opening body closing rest) =
    type_named_by_tag p keyword (tag_name p keyword tag)
named_or texts p (Enum keyword tag opening enumerators closing rest) = Some (unqualified int)

-- 6.7.3
abbrev pub qualifiers_of : Place → Specifiers → Qualifiers
qualifiers_of p s = record { constant = has_word p "const" s; volatile = has_word p "volatile" s }

abbrev pub qualified_option : Qualifiers → Option Qualified → Option Qualified
qualified_option q None = None
qualified_option q (Some t) = Some (qualified q t)

abbrev pub base_type : Place → Specifiers → Option Qualified
base_type p s = qualified_option (qualifiers_of p s) (named_or (texts (word_at p) s) p s)
