-- The plain tree of each production of expressions, specifiers and declarators: what a walk over the trees rests on.
-- Crates above name them all by the ruleset `views`. `others` are the elements of a row that come after.
use Rattle.std.proofs.Common.{◌≡◌, Box, Vec, Option, refl, ap, ◌∙◌}
use Rattle.ck_base.specs.declared.tokens.Token.{Token}
use Rattle.ck_grammar.specs.Trees as plain
use Rattle.ck_syntax.specs.ExpressionViews.{expr_tree, operand_trees, suffix_before, suffix_trees, specifier_before}
use Rattle.ck_syntax.specs.ExpressionViews.{specifier_trees, struct_before, enum_before, member_before, member_trees}
use Rattle.ck_syntax.specs.ExpressionViews.{last_enumerator, enumerator_before, enumerator_trees, declarator_tree}
use Rattle.ck_syntax.specs.ExpressionViews.{declarator_trees, dim_before, dim_trees, parameters_tree, parameter_row}
use Rattle.ck_syntax.specs.ExpressionViews.{parameter_trees, specifier_row, declarator_row, ellipsis_tree}
use Rattle.ck_syntax.specs.declared.declarators.Declarator.{Declarator, Abstract, Named, Nested}
use Rattle.ck_syntax.specs.declared.declarators.Declarator.TheBlock as block
use Rattle.ck_syntax.specs.declared.declarators.Dim.{Dim, Open, Sized, Function}
use Rattle.ck_syntax.specs.declared.declarators.Ellipsis.{Ellipsis}
use Rattle.ck_syntax.specs.declared.declarators.NextDeclarator.{NextDeclarator}
use Rattle.ck_syntax.specs.declared.declarators.NextParameter.{NextParameter}
use Rattle.ck_syntax.specs.declared.declarators.Parameters.{Parameters, Empty, Void, Listed}
use Rattle.ck_syntax.specs.declared.declarators.TypeName.{TypeName}
use Rattle.ck_syntax.specs.declared.expressions.Expr.{Expr, Name, Constant, Strings, Paren, Postfix, Unary, SizeofType}
use Rattle.ck_syntax.specs.declared.expressions.Expr.{Cast, Chain, Conditional, Assignment}
use Rattle.ck_syntax.specs.declared.expressions.Operand.{Operand}
use Rattle.ck_syntax.specs.declared.expressions.Suffix.{Suffix, Index, CallEmpty, Call, MemberAccess, PostIncrement}
use Rattle.ck_syntax.specs.declared.specifiers.EnumSpecifier.{EnumSpecifier, out-EnumSpecifier, roll-EnumSpecifier}
use Rattle.ck_syntax.specs.declared.specifiers.EnumSpecifier.{rolls-EnumSpecifier', is-EnumSpecifier'}
use Rattle.ck_syntax.specs.declared.specifiers.Enumerator.{Enumerator, Plain, Valued}
use Rattle.ck_syntax.specs.declared.specifiers.EarlierEnumerator.{EarlierEnumerator}
use Rattle.ck_syntax.specs.declared.specifiers.Member.{Member, out-Member, roll-Member, rolls-Member', is-Member'}
use Rattle.ck_syntax.specs.declared.specifiers.Specifier.{Specifier, Word, TypedefName, Tagged, Struct, Enum}
use Rattle.ck_syntax.specs.declared.specifiers.StructSpecifier.{StructSpecifier, out-StructSpecifier}
use Rattle.ck_syntax.specs.declared.specifiers.StructSpecifier.{roll-StructSpecifier, rolls-StructSpecifier'}
use Rattle.ck_syntax.specs.declared.specifiers.StructSpecifier.{is-StructSpecifier'}
use Rattle.ck_syntax.proofs.Rows as rows

pub expr_tree-Name : (A : Type 0) (token : Token) → expr_tree {A = A} (Name token) ≡ plain.Name token
unfolding expr_tree
expr_tree-Name A token = refl

pub expr_tree-Constant : (A : Type 0) (token : Token) → expr_tree {A = A} (Constant token) ≡ plain.Constant token
unfolding expr_tree
expr_tree-Constant A token = refl

pub expr_tree-Strings : {A : Type 0} (first : Token) (others : Vec Token A)
    → expr_tree (Strings first others) ≡ plain.Strings first others.items
unfolding expr_tree
expr_tree-Strings first others = refl

pub expr_tree-Paren : {A : Type 0} (opening : Token) (inner : Box (Expr A) A) (closing : Token)
    → expr_tree (Paren opening inner closing) ≡ plain.Paren opening (expr_tree inner.value) closing
unfolding expr_tree
expr_tree-Paren opening inner closing = refl

pub expr_tree-Postfix : {A : Type 0} (primary : Box (Expr A) A) (suffixes : Vec (Suffix A) A)
    → expr_tree (Postfix primary suffixes) ≡ plain.Postfix (expr_tree primary.value) (suffix_trees suffixes.items)
unfolding expr_tree
expr_tree-Postfix primary suffixes = ap (plain.Postfix (expr_tree primary.value)) (rows.suffix_row-hidden suffixes)

pub expr_tree-Unary : {A : Type 0} (operator : Token) (operand : Box (Expr A) A)
    → expr_tree (Unary operator operand) ≡ plain.Unary operator (expr_tree operand.value)
unfolding expr_tree
expr_tree-Unary operator operand = refl

pub expr_tree-SizeofType : {A : Type 0} (keyword : Token) (type_name : Box (TypeName A) A)
    → expr_tree (SizeofType keyword type_name) ≡ plain.SizeofType keyword type_name.value.opening
    (specifier_trees type_name.value.specifiers.items) (declarator_tree type_name.value.declarator)
    type_name.value.closing
unfolding expr_tree
expr_tree-SizeofType keyword type_name =
    ap (λ s. plain.SizeofType keyword type_name.value.opening s (declarator_tree type_name.value.declarator)
    type_name.value.closing) (rows.specifier_row-hidden type_name.value.specifiers)

pub expr_tree-Cast : {A : Type 0} (type_name : Box (TypeName A) A) (operand : Box (Expr A) A)
    → expr_tree (Cast type_name operand) ≡ plain.Cast type_name.value.opening
    (specifier_trees type_name.value.specifiers.items) (declarator_tree type_name.value.declarator)
    type_name.value.closing (expr_tree operand.value)
unfolding expr_tree
expr_tree-Cast type_name operand =
    ap (λ s. plain.Cast type_name.value.opening s (declarator_tree type_name.value.declarator)
    type_name.value.closing (expr_tree operand.value)) (rows.specifier_row-hidden type_name.value.specifiers)

pub expr_tree-Chain : {A : Type 0} (first : Box (Expr A) A) (operands : Vec (Operand A) A)
    → expr_tree (Chain first operands) ≡ plain.Chain (expr_tree first.value) (operand_trees operands.items)
unfolding expr_tree
expr_tree-Chain first operands = ap (plain.Chain (expr_tree first.value)) (rows.operand_row-hidden operands)

pub expr_tree-Conditional : {A : Type 0} (test : Box (Expr A) A) (question : Token) (then : Box (Expr A) A)
    (colon : Token) (otherwise : Box (Expr A) A) → expr_tree (Conditional test question then colon otherwise)
    ≡ plain.Conditional (expr_tree test.value) question (expr_tree then.value) colon (expr_tree otherwise.value)
unfolding expr_tree
expr_tree-Conditional test question then colon otherwise = refl

pub expr_tree-Assignment : {A : Type 0} (target : Box (Expr A) A) (operator : Token) (value : Box (Expr A) A)
    → expr_tree (Assignment target operator value)
    ≡ plain.Assignment (expr_tree target.value) operator (expr_tree value.value)
unfolding expr_tree
expr_tree-Assignment target operator value = refl

pub suffix_before-Index : {A : Type 0} (opening : Token) (index : Box (Expr A) A) (closing : Token)
    (others : plain.Suffixes)
    → suffix_before (Index opening index closing) others ≡ plain.Index opening (expr_tree index.value) closing others
unfolding expr_tree
suffix_before-Index opening index closing others = refl

pub suffix_before-CallEmpty : (A : Type 0) (opening : Token) (closing : Token) (others : plain.Suffixes)
    → suffix_before {A = A} (CallEmpty opening closing) others ≡ plain.CallEmpty opening closing others
unfolding expr_tree
suffix_before-CallEmpty A opening closing others = refl

pub suffix_before-Call : {A : Type 0} (opening : Token) (first : Box (Expr A) A) (arguments : Vec (Operand A) A)
    (closing : Token) (others : plain.Suffixes) → suffix_before (Call opening first arguments closing) others
    ≡ plain.Call opening (expr_tree first.value) (operand_trees arguments.items) closing others
unfolding expr_tree
suffix_before-Call opening first arguments closing others =
    ap (λ os. plain.Call opening (expr_tree first.value) os closing others) (rows.operand_row-hidden arguments)

pub suffix_before-MemberAccess : (A : Type 0) (operator : Token) (member : Token) (others : plain.Suffixes)
    → suffix_before {A = A} (MemberAccess operator member) others ≡ plain.MemberAccess operator member others
unfolding expr_tree
suffix_before-MemberAccess A operator member others = refl

pub suffix_before-PostIncrement : (A : Type 0) (operator : Token) (others : plain.Suffixes)
    → suffix_before {A = A} (PostIncrement operator) others ≡ plain.PostIncrement operator others
unfolding expr_tree
suffix_before-PostIncrement A operator others = refl

pub specifier_before-Word : (A : Type 0) (token : Token) (others : plain.Specifiers)
    → specifier_before {A = A} (Word token) others ≡ plain.Word token others
unfolding expr_tree
specifier_before-Word A token others = refl

pub specifier_before-TypedefName : (A : Type 0) (token : Token) (others : plain.Specifiers)
    → specifier_before {A = A} (TypedefName token) others ≡ plain.TypedefName token others
unfolding expr_tree
specifier_before-TypedefName A token others = refl

pub specifier_before-Tagged : (A : Type 0) (keyword : Token) (tag : Token) (others : plain.Specifiers)
    → specifier_before {A = A} (Tagged keyword tag) others ≡ plain.Tagged keyword tag others
unfolding expr_tree
specifier_before-Tagged A keyword tag others = refl

pub specifier_before-Struct : {A : Type 0} (specifier : Box (StructSpecifier A) A) (others : plain.Specifiers)
    → specifier_before (Struct specifier) others ≡ struct_before specifier.value others
unfolding expr_tree
specifier_before-Struct specifier others = refl

pub specifier_before-Enum : {A : Type 0} (specifier : Box (EnumSpecifier A) A) (others : plain.Specifiers)
    → specifier_before (Enum specifier) others ≡ enum_before specifier.value others
unfolding expr_tree
specifier_before-Enum specifier others = refl

pub struct_before-new : {A : Type 0} (keyword : Token) (tag : Option Token) (opening : Token)
    (members : Vec (Member A) A) (closing : Token) (others : plain.Specifiers)
    → struct_before (roll-StructSpecifier A (record {
      keyword = keyword;
      tag = tag;
      opening = opening;
      members = members;
      closing = closing;
    })) others
    ≡ plain.Struct keyword tag opening (member_trees members.items) closing others
unfolding expr_tree
struct_before-new keyword tag opening members closing others =
    ap (λ s. struct_before s others) (rolls-StructSpecifier' (record {
      keyword = keyword;
      tag = tag;
      opening = opening;
      members = members;
      closing = closing;
    }))
    ∙ ap (λ ms. plain.Struct keyword tag opening ms closing others) (rows.member_row-hidden members)

-- a struct by its parts, as code reads them
pub struct_before-parts : {A : Type 0} (s : StructSpecifier A) (others : plain.Specifiers)
    → struct_before s others ≡ plain.Struct (out-StructSpecifier A s).keyword (out-StructSpecifier A s).tag
    (out-StructSpecifier A s).opening (member_trees (out-StructSpecifier A s).members.items)
    (out-StructSpecifier A s).closing others
unfolding expr_tree
struct_before-parts {A} s others =
    let t = out-StructSpecifier A s in
    ap (λ s. struct_before s others) (is-StructSpecifier' s)
    ∙ ap (λ ms. plain.Struct t.keyword t.tag t.opening ms t.closing others) (rows.member_row-hidden t.members)

pub enum_before-new : {A : Type 0} (keyword : Token) (tag : Option Token) (opening : Token)
    (earlier : Vec (EarlierEnumerator A) A) (last : Enumerator A) (comma : Option Token) (closing : Token)
    (others : plain.Specifiers)
    → enum_before (roll-EnumSpecifier A (record {
      keyword = keyword;
      tag = tag;
      opening = opening;
      earlier = earlier;
      last = last;
      comma = comma;
      closing = closing;
    })) others
    ≡ plain.Enum keyword tag opening (enumerator_trees earlier.items last comma) closing others
unfolding expr_tree
enum_before-new keyword tag opening earlier last comma closing others =
    ap (λ s. enum_before s others) (rolls-EnumSpecifier' (record {
      keyword = keyword;
      tag = tag;
      opening = opening;
      earlier = earlier;
      last = last;
      comma = comma;
      closing = closing;
    }))
    ∙ ap (λ es. plain.Enum keyword tag opening es closing others)
    (rows.enumerator_row-hidden earlier (last_enumerator last comma))

-- an enum by its parts, as code reads them
pub enum_before-parts : {A : Type 0} (s : EnumSpecifier A) (others : plain.Specifiers)
    → enum_before s others ≡ plain.Enum (out-EnumSpecifier A s).keyword (out-EnumSpecifier A s).tag
    (out-EnumSpecifier A s).opening
    (enumerator_trees (out-EnumSpecifier A s).earlier.items (out-EnumSpecifier A s).last (out-EnumSpecifier A s).comma)
    (out-EnumSpecifier A s).closing others
unfolding expr_tree
enum_before-parts {A} s others =
    let t = out-EnumSpecifier A s in
    ap (λ s. enum_before s others) (is-EnumSpecifier' s)
    ∙ ap (λ es. plain.Enum t.keyword t.tag t.opening es t.closing others)
    (rows.enumerator_row-hidden t.earlier (last_enumerator t.last t.comma))

pub last_enumerator-Plain : (A : Type 0) (name : Token) (comma : Option Token)
    → last_enumerator {A = A} (Plain name) comma ≡ plain.LastOne name comma
unfolding expr_tree
last_enumerator-Plain A name comma = refl

pub last_enumerator-Valued : {A : Type 0} (name : Token) (equals : Token) (value : Box (Expr A) A)
    (comma : Option Token)
    → last_enumerator (Valued name equals value) comma ≡ plain.LastValued name equals (expr_tree value.value) comma
unfolding expr_tree
last_enumerator-Valued name equals value comma = refl

pub enumerator_before-Plain : (A : Type 0) (name : Token) (comma : Token) (others : plain.Enumerators)
    → enumerator_before {A = A} (Plain name) comma others ≡ plain.One name comma others
unfolding expr_tree
enumerator_before-Plain A name comma others = refl

pub enumerator_before-Valued : {A : Type 0} (name : Token) (equals : Token) (value : Box (Expr A) A)
    (comma : Token) (others : plain.Enumerators) → enumerator_before (Valued name equals value) comma others
    ≡ plain.Valued name equals (expr_tree value.value) comma others
unfolding expr_tree
enumerator_before-Valued name equals value comma others = refl

pub declarator_tree-Abstract : {A : Type 0} (stars : Vec Token A) (dims : Vec (Dim A) A)
    → declarator_tree (Abstract stars dims) ≡ plain.Abstract stars.items (dim_trees dims.items)
unfolding expr_tree
declarator_tree-Abstract stars dims = ap (plain.Abstract stars.items) (rows.dim_row-hidden dims)

pub declarator_tree-Named : {A : Type 0} (stars : Vec Token A) (name : Token) (dims : Vec (Dim A) A)
    → declarator_tree (Named stars name dims) ≡ plain.Named stars.items name (dim_trees dims.items)
unfolding expr_tree
declarator_tree-Named stars name dims = ap (plain.Named stars.items name) (rows.dim_row-hidden dims)

pub declarator_tree-Nested : {A : Type 0} (stars : Vec Token A) (opening : Token) (inner : Box (Declarator A) A)
    (closing : Token) (dims : Vec (Dim A) A) → declarator_tree (Nested stars opening inner closing dims)
    ≡ plain.Nested stars.items opening (declarator_tree inner.value) closing (dim_trees dims.items)
unfolding expr_tree
declarator_tree-Nested stars opening inner closing dims =
    ap (plain.Nested stars.items opening (declarator_tree inner.value) closing) (rows.dim_row-hidden dims)

pub dim_before-Open : (A : Type 0) (opening : Token) (closing : Token) (others : plain.Dims)
    → dim_before {A = A} (Open opening closing) others ≡ plain.Open opening closing others
unfolding expr_tree
dim_before-Open A opening closing others = refl

pub dim_before-Sized : {A : Type 0} (opening : Token) (size : Box (Expr A) A) (closing : Token) (others : plain.Dims)
    → dim_before (Sized opening size closing) others ≡ plain.Sized opening (expr_tree size.value) closing others
unfolding expr_tree
dim_before-Sized opening size closing others = refl

pub dim_before-Function : {A : Type 0} (opening : Token) (parameters : Box (Parameters A) A) (closing : Token)
    (others : plain.Dims) → dim_before (Function opening parameters closing) others
    ≡ plain.Function opening (parameters_tree parameters.value) closing others
unfolding expr_tree
dim_before-Function opening parameters closing others = refl

pub parameters_tree-Empty : (A : Type 0) → parameters_tree {A = A} Empty ≡ plain.NoParams
unfolding expr_tree
parameters_tree-Empty A = refl

pub parameters_tree-Void : (A : Type 0) (token : Token) → parameters_tree {A = A} (Void token) ≡ plain.VoidParams token
unfolding expr_tree
parameters_tree-Void A token = refl

pub parameters_tree-Listed : {A : Type 0} (specifiers : Vec (Specifier A) A) (declarator : Declarator A)
    (others : Vec (NextParameter A) A) (ellipsis : Option Ellipsis)
    → parameters_tree (Listed specifiers declarator others ellipsis) ≡ plain.Parameters
    (specifier_trees specifiers.items) (declarator_tree declarator) (parameter_trees others.items ellipsis)
unfolding expr_tree
parameters_tree-Listed {A} specifiers declarator others ellipsis =
    ap (λ s. plain.Parameters s (declarator_tree declarator)
    (parameter_row (block.hidden-the_row-NextParameter-2 A others) (ellipsis_tree ellipsis)))
    (rows.specifier_row-hidden specifiers)
    ∙ ap (plain.Parameters (specifier_trees specifiers.items) (declarator_tree declarator))
    (rows.parameter_row-hidden others (ellipsis_tree ellipsis))

-- a member's rows as its vectors
member_rows : {A : Type 0} (specifiers : Vec (Specifier A) A) (first : Declarator A)
    (declarators : Vec (NextDeclarator A) A) (semicolon : Token) (others : plain.Members)
    → plain.Member (specifier_row (block.hidden-the_row-Specifier-1 A specifiers)) (declarator_tree first)
    (declarator_row (block.hidden-the_row-NextDeclarator-6 A declarators)) semicolon others
    ≡ plain.Member (specifier_trees specifiers.items) (declarator_tree first) (declarator_trees declarators.items)
    semicolon others
member_rows {A} specifiers first declarators semicolon others =
    ap (λ s. plain.Member s (declarator_tree first)
    (declarator_row (block.hidden-the_row-NextDeclarator-6 A declarators)) semicolon others)
    (rows.specifier_row-hidden specifiers)
    ∙ ap (λ ds. plain.Member (specifier_trees specifiers.items) (declarator_tree first) ds semicolon others)
    (rows.declarator_row-hidden declarators)

pub member_before-new : {A : Type 0} (specifiers : Vec (Specifier A) A) (first : Declarator A)
    (declarators : Vec (NextDeclarator A) A) (semicolon : Token) (others : plain.Members)
    → member_before (roll-Member A (record {
      specifiers = specifiers;
      first = first;
      others = declarators;
      semicolon = semicolon;
    })) others
    ≡ plain.Member (specifier_trees specifiers.items) (declarator_tree first) (declarator_trees declarators.items)
    semicolon others
unfolding expr_tree
member_before-new specifiers first declarators semicolon others =
    ap (λ m. member_before m others) (rolls-Member' (record {
      specifiers = specifiers;
      first = first;
      others = declarators;
      semicolon = semicolon;
    }))
    ∙ member_rows specifiers first declarators semicolon others

-- a member by its parts, as code reads them
pub member_before-parts : {A : Type 0} (m : Member A) (others : plain.Members)
    → member_before m others ≡ plain.Member (specifier_trees (out-Member A m).specifiers.items)
    (declarator_tree (out-Member A m).first) (declarator_trees (out-Member A m).others.items)
    (out-Member A m).semicolon others
unfolding expr_tree
member_before-parts {A} m others =
    let t = out-Member A m in
    ap (λ m. member_before m others) (is-Member' m) ∙ member_rows t.specifiers t.first t.others t.semicolon others

pub ruleset views = (
  expr_tree-Name,
  expr_tree-Constant,
  expr_tree-Strings,
  expr_tree-Paren,
  expr_tree-Postfix,
  expr_tree-Unary,
  expr_tree-SizeofType,
  expr_tree-Cast,
  expr_tree-Chain,
  expr_tree-Conditional,
  expr_tree-Assignment,
  suffix_before-Index,
  suffix_before-CallEmpty,
  suffix_before-Call,
  suffix_before-MemberAccess,
  suffix_before-PostIncrement,
  specifier_before-Word,
  specifier_before-TypedefName,
  specifier_before-Tagged,
  specifier_before-Struct,
  specifier_before-Enum,
  struct_before-new,
  enum_before-new,
  member_before-new,
  last_enumerator-Plain,
  last_enumerator-Valued,
  enumerator_before-Plain,
  enumerator_before-Valued,
  declarator_tree-Abstract,
  declarator_tree-Named,
  declarator_tree-Nested,
  dim_before-Open,
  dim_before-Sized,
  dim_before-Function,
  parameters_tree-Empty,
  parameters_tree-Void,
  parameters_tree-Listed,
)

-- the structs of the trees by their parts, for code that reads them
pub ruleset parts = (struct_before-parts, enum_before-parts, member_before-parts)
