-- Which trees are well formed: each token is the word that its place asks for, and each part binds as tightly as its
-- place asks for (C99 6.5, 6.7). `w` gives the word of a token, so it knows the typedef names.
use Rattle.std.specs.Prelude.{◌≡◌, ◌≤◌, ◌<◌, Bool, true, false, not, ◌&&◌, ◌||◌, ◌==◌, List, [], ◌∷◌, Option, Some}
use Rattle.std.specs.Prelude.{None, codes, nat_le}
use Rattle.ck_base.specs.declared.tokens.Token.{Token}
use Rattle.ck_grammar.specs.Levels as level
use Rattle.ck_grammar.specs.Specified.{Place, InType, InParameter, go_together, is_type_word}
use Rattle.ck_grammar.specs.Trees as trees
use Rattle.ck_grammar.specs.Trees.{Expr, Operands, Suffixes, Specifiers, Members, Declarators, Declarator, Dims, Params}
use Rattle.ck_grammar.specs.Trees.{MoreParams, Enumerators, Name, Constant, Strings, Paren, Postfix, Unary, SizeofType}
use Rattle.ck_grammar.specs.Trees.{Cast, Chain, Conditional, Assignment, NoOperands, Operand, NoSuffixes, Index}
use Rattle.ck_grammar.specs.Trees.{CallEmpty, Call, MemberAccess, PostIncrement, NoSpecifiers, TypedefName, Tagged}
use Rattle.ck_grammar.specs.Trees.{Struct, Enum, NoMembers, Member, NoDeclarators, Also, Abstract, Named, Nested}
use Rattle.ck_grammar.specs.Trees.{NoDims, Open, Sized, Function, NoParams, VoidParams, Parameters, NoMore, Ellipsis}
use Rattle.ck_grammar.specs.Trees.{More, LastOne, LastValued, One, Valued}
use Rattle.ck_grammar.specs.Words.{Word, Ordinary, Typedef, Number, String, Is, is_text, is_identifier, Sort, Storage}
use Rattle.ck_grammar.specs.Words.{Qualifier, Inline, TypeWord, StructWord, EnumWord, Star, sort, Lead, StepLead}
use Rattle.ck_grammar.specs.Words.{OperatorLead, SizeofLead, lead, Follow, Point, Steps, Operator, follow}

-- the level of an operator, and that of casts for what is none
abbrev pub operator_level : Follow → level.Level
operator_level (Operator k) = k
operator_level _ = level.cast

-- the level of a chain is that of its first operator
abbrev pub chain_level : (Token → Word) → Operands → level.Level
chain_level w NoOperands = level.cast
chain_level w (Operand op e rest) = operator_level (follow (w op))

-- the levels of left-associative operators, which are chains: those from `*` to `||`, and the comma
abbrev pub is_chain_level : level.Level → Bool
is_chain_level k = (nat_le level.multiplicative k && nat_le k level.logical_or) || k == level.comma

-- the level of an expression, which is that of its outermost operator
abbrev pub precedence : (Token → Word) → Expr → level.Level
precedence w (Chain e ops) = chain_level w ops
precedence w (Conditional test question second colon third) = level.conditional
precedence w (Assignment target op value) = level.assignment
precedence w _ = level.cast

-- primary expressions (6.5.1)
abbrev pub is_primary : Expr → Bool
is_primary (Name t) = true
is_primary (Constant t) = true
is_primary (Strings t ts) = true
is_primary (Paren opening e closing) = true
is_primary _ = false

-- unary expressions (6.5.3): the tightest level without the casts
abbrev pub is_unary : Expr → Bool
is_unary (Name t) = true
is_unary (Constant t) = true
is_unary (Strings t ts) = true
is_unary (Paren opening e closing) = true
is_unary (Postfix e s) = true
is_unary (Unary op e) = true
is_unary (SizeofType keyword opening s d closing) = true
is_unary _ = false

-- casts are operands of `&` `*` `+` `-` `~` `!`, unary expressions those of `++` `--` `sizeof` (6.5.3)
abbrev pub takes : Lead → Expr → (Expr → Bool) → Bool
takes StepLead e tight = is_unary e
takes OperatorLead e tight = tight e
takes SizeofLead e tight = is_unary e
takes _ e tight = false

abbrev pub has_suffix : Suffixes → Bool
has_suffix NoSuffixes = false
has_suffix _ = true

abbrev pub has_member : Members → Bool
has_member NoMembers = false
has_member (Member s d ds semicolon rest) = true

-- whether a declarator declares a name: a new one, a member (which may be called as a typedef name), a parameter that
-- may do without, none (6.7.5, 6.7.2.1, 6.7.5.3, 6.7.6)
pub data Naming : Type 0 where
  NewName : Naming
  MemberName : Naming
  MaybeName : Naming
  NoName : Naming

abbrev pub may_be_abstract : Naming → Bool
may_be_abstract MaybeName = true
may_be_abstract NoName = true
may_be_abstract _ = false

abbrev pub is_ordinary : Word → Bool
is_ordinary Ordinary = true
is_ordinary _ = false

abbrev pub may_name : Naming → Word → Bool
may_name NewName word = is_ordinary word
may_name MemberName word = is_identifier word
may_name MaybeName word = is_ordinary word
may_name NoName word = false

-- a declarator of which something is written
abbrev pub is_written : Declarator → Bool
is_written (Abstract [] NoDims) = false
is_written _ = true

-- a pointer is `*`, and more of them and qualifiers after it (6.7.5.1)
abbrev pub is_star : Sort → Bool
is_star Star = true
is_star _ = false

abbrev pub is_pointer_part : Sort → Bool
is_pointer_part Star = true
is_pointer_part Qualifier = true
is_pointer_part _ = false

-- specifiers that are one word (6.7.1 to 6.7.4)
abbrev pub is_specifier_word : Sort → Bool
is_specifier_word Storage = true
is_specifier_word Qualifier = true
is_specifier_word Inline = true
is_specifier_word TypeWord = true
is_specifier_word _ = false

abbrev pub is_tag_word : Sort → Bool
is_tag_word StructWord = true
is_tag_word EnumWord = true
is_tag_word _ = false

abbrev pub is_end : MoreParams → Bool
is_end NoMore = true
is_end _ = false

module _ (w : Token → Word) where
  abbrev pub is_tight : Expr → Bool
  is_tight e = precedence w e == level.cast

  abbrev pub AreStrings : List Token → Type 0
  AreStrings [] = Unit {0}
  AreStrings (t ∷ ts) = (w t ≡ String) × AreStrings ts

  -- a tag, if there is one
  abbrev pub IsTag : Option Token → Type 0
  IsTag None = Unit {0}
  IsTag (Some t) = is_identifier (w t) ≡ true

  -- a comma, if there is one
  abbrev pub IsComma : Option Token → Type 0
  IsComma None = Unit {0}
  IsComma (Some t) = Is w t ","

  abbrev pub ArePointerParts : List Token → Type 0
  ArePointerParts [] = Unit {0}
  ArePointerParts (t ∷ ts) = (is_pointer_part (sort (w t)) ≡ true) × ArePointerParts ts

  abbrev pub IsPointer : List Token → Type 0
  IsPointer [] = Unit {0}
  IsPointer (t ∷ ts) = (is_star (sort (w t)) ≡ true) × ArePointerParts ts

  -- a parameter list of one `void` is the empty one (6.7.5.3)
  abbrev pub is_void : Specifiers → Bool
  is_void (trees.Word t NoSpecifiers) = is_text (codes "void") (w t)
  is_void _ = false

  abbrev pub is_void_alone : Specifiers → Declarator → MoreParams → Bool
  is_void_alone s d rest = is_void s && not (is_written d) && is_end rest

  -- an expression of this level or a tighter one
  abbrev pub AtMost : level.Level → Expr → Type 0
  AtMost k e = precedence w e ≤ k

  -- specifiers that go together at this place
  abbrev pub GoTogether : Place → Specifiers → Type 0
  GoTogether place s = go_together w place s ≡ true

  abbrev mutual
    pub Fits : Expr → Type 0
    Fits (Name t) = w t ≡ Ordinary
    Fits (Constant t) = w t ≡ Number
    Fits (Strings t ts) = (w t ≡ String) × AreStrings ts
    Fits (Paren opening e closing) = Is w opening "(" × Fits e × Is w closing ")"
    Fits (Postfix e suffixes) =
        (is_primary e ≡ true) × Fits e × FitsSuffixes suffixes × (has_suffix suffixes ≡ true)
    Fits (Unary op e) = Fits e × (takes (lead (w op)) e is_tight ≡ true)
    Fits (SizeofType keyword opening s d closing) =
        Is w keyword "sizeof" × Is w opening "(" × (FitsEach false s × GoTogether InType s × FitsDeclarator NoName d)
        × Is w closing ")"
    Fits (Cast opening s d closing e) =
        Is w opening "(" × (FitsEach false s × GoTogether InType s × FitsDeclarator NoName d) × Is w closing ")"
        × Fits e × (precedence w e ≡ level.cast)
    Fits (Chain e ops) =
        (is_chain_level (chain_level w ops) ≡ true) × Fits e × (precedence w e < chain_level w ops)
        × FitsOperands (chain_level w ops) ops
    Fits (Conditional test question second colon third) =
        (Fits test × (precedence w test < level.conditional)) × Is w question "?" × Fits second × Is w colon ":"
        × (Fits third × AtMost level.conditional third)
    Fits (Assignment target op value) =
        (Fits target × (is_unary target ≡ true)) × (follow (w op) ≡ Operator level.assignment)
        × (Fits value × AtMost level.assignment value)

    -- operators of one level, with operands that bind tighter
    pub FitsOperands : level.Level → Operands → Type 0
    FitsOperands k NoOperands = Unit {0}
    FitsOperands k (Operand op e rest) =
        (follow (w op) ≡ Operator k) × Fits e × (precedence w e < k) × FitsOperands k rest

    pub FitsSuffixes : Suffixes → Type 0
    FitsSuffixes NoSuffixes = Unit {0}
    FitsSuffixes (Index opening e closing rest) = Is w opening "[" × Fits e × Is w closing "]" × FitsSuffixes rest
    FitsSuffixes (CallEmpty opening closing rest) = Is w opening "(" × Is w closing ")" × FitsSuffixes rest
    FitsSuffixes (Call opening e ops closing rest) =
        Is w opening "(" × (Fits e × (precedence w e < level.comma) × FitsOperands level.comma ops) × Is w closing ")"
        × FitsSuffixes rest
    FitsSuffixes (MemberAccess t member rest) =
        (follow (w t) ≡ Point) × (is_identifier (w member) ≡ true) × FitsSuffixes rest
    FitsSuffixes (PostIncrement t rest) = (follow (w t) ≡ Steps) × FitsSuffixes rest

    -- each specifier; the flag says whether a type is before these, and then a typedef name is none (6.7.7)
    pub FitsEach : Bool → Specifiers → Type 0
    FitsEach seen NoSpecifiers = Unit {0}
    FitsEach seen (trees.Word t rest) =
        (is_specifier_word (sort (w t)) ≡ true) × FitsEach (seen || is_type_word (sort (w t))) rest
    FitsEach seen (TypedefName t rest) = (w t ≡ Typedef) × (seen ≡ false) × FitsEach true rest
    FitsEach seen (Tagged keyword t rest) =
        (is_tag_word (sort (w keyword)) ≡ true) × (is_identifier (w t) ≡ true) × FitsEach true rest
    FitsEach seen (Struct keyword tag opening m closing rest) =
        (sort (w keyword) ≡ StructWord) × IsTag tag × Is w opening "{" × (FitsMembers m × (has_member m ≡ true))
        × Is w closing "}" × FitsEach true rest
    FitsEach seen (Enum keyword tag opening m closing rest) =
        (sort (w keyword) ≡ EnumWord) × IsTag tag × Is w opening "{" × FitsEnumerators m × Is w closing "}"
        × FitsEach true rest

    -- the specifiers, the declarators and the `;` of each member (6.7.2.1)
    pub FitsMembers : Members → Type 0
    FitsMembers NoMembers = Unit {0}
    FitsMembers (Member s d ds semicolon rest) =
        (FitsEach false s × GoTogether InType s × FitsDeclarator MemberName d) × FitsDeclarators MemberName ds
        × Is w semicolon ";" × FitsMembers rest

    pub FitsDeclarators : Naming → Declarators → Type 0
    FitsDeclarators naming NoDeclarators = Unit {0}
    FitsDeclarators naming (Also comma d rest) =
        Is w comma "," × FitsDeclarator naming d × FitsDeclarators naming rest

    pub FitsDeclarator : Naming → Declarator → Type 0
    FitsDeclarator naming (Abstract stars ds) = (may_be_abstract naming ≡ true) × IsPointer stars × FitsDims ds
    FitsDeclarator naming (Named stars t ds) = IsPointer stars × (may_name naming (w t) ≡ true) × FitsDims ds
    FitsDeclarator naming (Nested stars opening d closing ds) =
        IsPointer stars × Is w opening "(" × (FitsDeclarator naming d × (is_written d ≡ true)) × Is w closing ")"
        × FitsDims ds

    pub FitsDims : Dims → Type 0
    FitsDims NoDims = Unit {0}
    FitsDims (Open opening closing rest) = Is w opening "[" × Is w closing "]" × FitsDims rest
    FitsDims (Sized opening e closing rest) =
        Is w opening "[" × (Fits e × AtMost level.conditional e) × Is w closing "]" × FitsDims rest
    FitsDims (Function opening p closing rest) = Is w opening "(" × FitsParams p × Is w closing ")" × FitsDims rest

    pub FitsParams : Params → Type 0
    FitsParams NoParams = Unit {0}
    FitsParams (VoidParams t) = Is w t "void"
    FitsParams (Parameters s d rest) =
        (FitsEach false s × GoTogether InParameter s × FitsDeclarator MaybeName d) × FitsMore rest
        × (is_void_alone s d rest ≡ false)

    pub FitsMore : MoreParams → Type 0
    FitsMore NoMore = Unit {0}
    FitsMore (Ellipsis comma dots) = Is w comma "," × Is w dots "..."
    FitsMore (More comma s d rest) =
        Is w comma "," × (FitsEach false s × GoTogether InParameter s × FitsDeclarator MaybeName d) × FitsMore rest

    pub FitsEnumerators : Enumerators → Type 0
    FitsEnumerators (LastOne t comma) = (w t ≡ Ordinary) × IsComma comma
    FitsEnumerators (LastValued t equals e comma) =
        (w t ≡ Ordinary) × Is w equals "=" × (Fits e × AtMost level.conditional e) × IsComma comma
    FitsEnumerators (One t comma rest) = (w t ≡ Ordinary) × Is w comma "," × FitsEnumerators rest
    FitsEnumerators (Valued t equals e comma rest) =
        (w t ≡ Ordinary) × Is w equals "=" × (Fits e × AtMost level.conditional e) × Is w comma ","
        × FitsEnumerators rest
