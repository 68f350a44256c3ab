-- The numbers that a linked project has, and which tables name these alone: who reads by a number that a table names
-- needs no test. That a node names expressions, initialisers and statements of smaller numbers than its own is said of
-- each table.
use Rattle.std.specs.Prelude.{◌≡◌, ◌≤◌, ℕ, Bool, true, ◌&&◌, nat_lt}
use Rattle.std.specs.Prelude.{List, [], ◌∷◌, length, Option}
use Rattle.std.specs.List.{list_all}
use Rattle.std.specs.Option.{option_map_or}
use Rattle.ck_base.specs.declared.spans.FnId.{FnId}
use Rattle.ck_types.specs.TypeTable.{names_type}
use Rattle.ck_types.specs.declared.types.CType.{CType}
use Rattle.ck_types.specs.declared.types.CType.TheVariants as types
use Rattle.ck_types.specs.declared.types.Node.{Node}
use Rattle.ck_types.specs.declared.types.Node.TheVariants as type_nodes
use Rattle.ck_types.specs.declared.types.StructId.{StructId}
use Rattle.ck_types.specs.declared.types.TypeId.{TypeId}
use Rattle.ck_tables.specs.declared.entries.EntryInfo.{EntryInfo}
use Rattle.ck_tables.specs.declared.entries.MeaningInfo.{MeaningInfo}
use Rattle.ck_tables.specs.declared.entries.MeaningInfo.TheVariants as meanings
use Rattle.ck_tables.specs.declared.entries.MemberInfo.{MemberInfo}
use Rattle.ck_tables.specs.declared.exprs.ExprId.{ExprId}
use Rattle.ck_tables.specs.declared.exprs.ExprNode.{ExprNode}
use Rattle.ck_tables.specs.declared.exprs.ExprNode.TheVariants as exprs
use Rattle.ck_tables.specs.declared.exprs.Link.{Link}
use Rattle.ck_tables.specs.declared.exprs.Part.{Part}
use Rattle.ck_tables.specs.declared.exprs.Part.TheVariants as parts
use Rattle.ck_tables.specs.declared.exprs.Step.{Step}
use Rattle.ck_tables.specs.declared.exprs.Step.TheVariants as steps
use Rattle.ck_tables.specs.declared.facts.Constancy.{Constancy}
use Rattle.ck_tables.specs.declared.facts.Constancy.TheVariants as constancies
use Rattle.ck_tables.specs.declared.facts.EntryId.{EntryId}
use Rattle.ck_tables.specs.declared.facts.Facts.{Facts}
use Rattle.ck_tables.specs.declared.facts.MemberId.{MemberId}
use Rattle.ck_tables.specs.declared.facts.NameId.{NameId}
use Rattle.ck_tables.specs.declared.facts.QualifiedType.{QualifiedType}
use Rattle.ck_tables.specs.declared.facts.ValueId.{ValueId}
use Rattle.ck_tables.specs.declared.inits.Designation.{Designation}
use Rattle.ck_tables.specs.declared.inits.Designator.{Designator}
use Rattle.ck_tables.specs.declared.inits.Designator.TheVariants as designators
use Rattle.ck_tables.specs.declared.inits.InitId.{InitId}
use Rattle.ck_tables.specs.declared.inits.InitFacts.{InitFacts}
use Rattle.ck_tables.specs.declared.inits.InitItem.{InitItem}
use Rattle.ck_tables.specs.declared.inits.InitItem.TheVariants as init_items
use Rattle.ck_tables.specs.declared.inits.InitNode.{InitNode}
use Rattle.ck_tables.specs.declared.inits.InitNode.TheVariants as inits
use Rattle.ck_tables.specs.declared.inits.InitObject.{InitObject}
use Rattle.ck_tables.specs.declared.inits.InitObject.TheVariants as objects
use Rattle.ck_tables.specs.declared.program.Body.{Body}
use Rattle.ck_tables.specs.declared.program.External.{External}
use Rattle.ck_tables.specs.declared.program.External.TheVariants as externals
use Rattle.ck_tables.specs.declared.program.FileInfo.{FileInfo}
use Rattle.ck_tables.specs.declared.program.Linked.{Linked}
use Rattle.ck_tables.specs.declared.stmts.Declaration.{Declaration}
use Rattle.ck_tables.specs.declared.stmts.DeclarationId.{DeclarationId}
use Rattle.ck_tables.specs.declared.stmts.Declared.{Declared}
use Rattle.ck_tables.specs.declared.stmts.Item.{Item}
use Rattle.ck_tables.specs.declared.stmts.Item.TheVariants as items
use Rattle.ck_tables.specs.declared.stmts.Start.{Start}
use Rattle.ck_tables.specs.declared.stmts.Start.TheVariants as starts
use Rattle.ck_tables.specs.declared.stmts.StmtId.{StmtId}
use Rattle.ck_tables.specs.declared.stmts.StmtNode.{StmtNode}
use Rattle.ck_tables.specs.declared.stmts.StmtNode.TheVariants as stmts
use Rattle.ck_tables.specs.declared.subobjects.SubobjectId.{SubobjectId}

-- how many there are of each, from 0; of types their nodes, among which there are lists of parameters
pub record Numbers : Type 0 where
  pub types : List Node
  pub names : ℕ
  pub values : ℕ
  pub structs : ℕ
  pub members : ℕ
  pub entries : ℕ
  pub expressions : ℕ
  pub subobjects : ℕ
  pub initialisers : ℕ
  pub declarations : ℕ
  pub statements : ℕ
  pub functions : ℕ

abbrev pub numbers : Linked → Numbers
numbers l =
    record {
      types = l.types;
      names = length l.names;
      values = length l.values.rows.items;
      structs = length l.structs.rows.items;
      members = length l.members.rows.items;
      entries = length l.entries.rows.items;
      expressions = length l.exprs;
      subobjects = length l.subobjects;
      initialisers = length l.inits;
      declarations = length l.declarations.rows.items;
      statements = length l.stmts;
      functions = length l.bodies.rows.items;
    }

-- the project has grown, or not at all: its numbers stay
pub record Grow (n m : Numbers) : Type 0 where
  pub types : (i : ℕ) → names_type n.types i ≡ true → names_type m.types i ≡ true
  pub names : n.names ≤ m.names
  pub values : n.values ≤ m.values
  pub structs : n.structs ≤ m.structs
  pub members : n.members ≤ m.members
  pub entries : n.entries ≤ m.entries
  pub expressions : n.expressions ≤ m.expressions
  pub subobjects : n.subobjects ≤ m.subobjects
  pub initialisers : n.initialisers ≤ m.initialisers
  pub declarations : n.declarations ≤ m.declarations
  pub statements : n.statements ≤ m.statements
  pub functions : n.functions ≤ m.functions

abbrev pub all_hold : List Bool → Bool
all_hold [] = true
all_hold (test ∷ tests) = test && all_hold tests

-- a number of the project, or none
abbrev pub fits_if_any : {Id : Type 0} → (Id → Bool) → Option Id → Bool
fits_if_any fits id = option_map_or fits id true

module _ (n : Numbers) where
  abbrev pub type_fits : TypeId → Bool
  type_fits t = names_type n.types t.0

  abbrev pub name_fits : NameId → Bool
  name_fits x = nat_lt x.0 n.names

  abbrev pub value_fits : ValueId → Bool
  value_fits v = nat_lt v.0 n.values

  abbrev pub struct_fits : StructId → Bool
  struct_fits s = nat_lt s.0 n.structs

  abbrev pub member_fits : MemberId → Bool
  member_fits m = nat_lt m.0 n.members

  abbrev pub entry_fits : EntryId → Bool
  entry_fits e = nat_lt e.0 n.entries

  abbrev pub expression_fits : ExprId → Bool
  expression_fits x = nat_lt x.0 n.expressions

  abbrev pub subobject_fits : SubobjectId → Bool
  subobject_fits s = nat_lt s.0 n.subobjects

  abbrev pub initialiser_fits : InitId → Bool
  initialiser_fits i = nat_lt i.0 n.initialisers

  abbrev pub declaration_fits : DeclarationId → Bool
  declaration_fits d = nat_lt d.0 n.declarations

  abbrev pub statement_fits : StmtId → Bool
  statement_fits s = nat_lt s.0 n.statements

  abbrev pub function_fits : FnId → Bool
  function_fits f = nat_lt f.0 n.functions

  -- types, members and declarations -----------------------------------------------------------------------------------

  abbrev pub type_row_fits : CType → Bool
  type_row_fits (types.Struct s) = struct_fits s
  type_row_fits _ = true

  unfoldable pub type_node_fits : Node → Bool
  type_node_fits (type_nodes.Type t) = type_row_fits t
  type_node_fits _ = true

  abbrev pub made_fits : QualifiedType → Bool
  made_fits t = type_fits t.type_id

  unfoldable pub member_row_fits : MemberInfo → Bool
  member_row_fits m = struct_fits m.of && fits_if_any made_fits m.made

  abbrev pub meaning_fits : MeaningInfo → Bool
  meaning_fits (meanings.Variable made _ _ _) = fits_if_any made_fits made
  meaning_fits (meanings.Function type_id _ _) = fits_if_any type_fits type_id
  meaning_fits (meanings.TypeName made) = fits_if_any made_fits made
  meaning_fits (meanings.Enumerator value) = true
  meaning_fits (meanings.StructTag of) = struct_fits of
  meaning_fits meanings.EnumTag = true
  meaning_fits (meanings.Member member) = member_fits member
  meaning_fits (meanings.Completed of layout constant) = struct_fits of
  meaning_fits meanings.Label = true

  unfoldable pub entry_row_fits : EntryInfo → Bool
  entry_row_fits e = name_fits e.name && meaning_fits e.meaning

  -- expressions -------------------------------------------------------------------------------------------------------

  abbrev pub constancy_fits : Constancy → Bool
  constancy_fits constancies.Varying = true
  constancy_fits constancies.Valueless = true
  constancy_fits (constancies.Known value) = value_fits value

  abbrev pub facts_fit : Facts → Bool
  facts_fit f = fits_if_any type_fits f.type_id && constancy_fits f.constancy

  abbrev pub link_fits : Link → Bool
  link_fits l = expression_fits l.operand && facts_fit l.facts

  abbrev pub step_fits : Step → Bool
  step_fits (steps.Index opening index facts) = expression_fits index && facts_fit facts
  step_fits (steps.Call opening function arguments facts) =
      fits_if_any entry_fits function && (list_all expression_fits arguments.items && facts_fit facts)
  step_fits (steps.Access is_dot name member facts) = fits_if_any member_fits member && facts_fit facts
  step_fits (steps.PostIncrement token operator facts) = facts_fit facts

  abbrev pub part_fits : Part → Bool
  part_fits (parts.Mention keyword tag entry) = fits_if_any entry_fits entry
  part_fits (parts.StructBody keyword layout) = true
  part_fits (parts.EnumeratorValue spot constancy) = constancy_fits constancy
  part_fits (parts.Expression x) = expression_fits x
  part_fits (parts.ArraySize size too_large) = expression_fits size
  part_fits (parts.Declarator facts) = fits_if_any made_fits facts.made

  unfoldable pub expression_node_fits : ExprNode → Bool
  expression_node_fits (exprs.Name facts entry) = facts_fit facts && fits_if_any entry_fits entry
  expression_node_fits (exprs.Constant facts) = facts_fit facts
  expression_node_fits (exprs.Strings facts others) = facts_fit facts
  expression_node_fits (exprs.Paren facts inner) = facts_fit facts && expression_fits inner
  expression_node_fits (exprs.Postfix primary row) = expression_fits primary && list_all step_fits row.items
  expression_node_fits (exprs.Unary facts operator operand) = facts_fit facts && expression_fits operand
  expression_node_fits (exprs.SizeofType facts written) = facts_fit facts && list_all part_fits written.items
  expression_node_fits (exprs.Cast facts operand written) =
      facts_fit facts && (expression_fits operand && list_all part_fits written.items)
  expression_node_fits (exprs.Chain first links) = expression_fits first && list_all link_fits links.items
  expression_node_fits (exprs.Conditional facts test second third) =
      facts_fit facts && (expression_fits test && (expression_fits second && expression_fits third))
  expression_node_fits (exprs.Assignment facts operator target value) =
      facts_fit facts && (expression_fits target && expression_fits value)

  -- initialisers ------------------------------------------------------------------------------------------------------

  abbrev pub object_fits : InitObject → Bool
  object_fits objects.Missing = true
  object_fits (objects.Whole type_id) = fits_if_any type_fits type_id
  object_fits (objects.Part part type_id member) =
      subobject_fits part && (fits_if_any type_fits type_id && fits_if_any member_fits member)

  abbrev pub init_facts_fit : InitFacts → Bool
  init_facts_fit f = object_fits f.object

  abbrev pub designator_fits : Designator → Bool
  designator_fits (designators.ToMember dot found) = true
  designator_fits (designators.ToElement opening of_array index found) = expression_fits index

  abbrev pub designation_fits : Designation → Bool
  designation_fits d = designator_fits d.first && list_all designator_fits d.others.items

  abbrev pub init_item_fits : InitItem → Bool
  init_item_fits (init_items.Plain initialiser) = initialiser_fits initialiser
  init_item_fits (init_items.Designated initialiser designation) =
      initialiser_fits initialiser && designation_fits designation.value

  unfoldable pub initialiser_node_fits : InitNode → Bool
  initialiser_node_fits (inits.Value facts value) = init_facts_fit facts && expression_fits value
  initialiser_node_fits (inits.Braces facts row) = init_facts_fit facts && list_all init_item_fits row.items

  -- declarations and statements ---------------------------------------------------------------------------------------

  abbrev pub declarator_fits : Declared → Bool
  declarator_fits d =
      list_all part_fits d.written.items
      && (entry_fits d.facts.entry && fits_if_any initialiser_fits d.initialiser)

  unfoldable pub declaration_row_fits : Declaration → Bool
  declaration_row_fits d = list_all part_fits d.written.items && list_all declarator_fits d.declared.items

  abbrev pub start_fits : Start → Bool
  start_fits starts.Empty = true
  start_fits (starts.Expression x) = expression_fits x
  start_fits (starts.Declaration d) = declaration_fits d

  abbrev pub item_fits : Item → Bool
  item_fits (items.Declaration d) = declaration_fits d
  item_fits (items.Statement s) = statement_fits s

  unfoldable pub statement_node_fits : StmtNode → Bool
  statement_node_fits (stmts.Block first row) = list_all item_fits row.items
  statement_node_fits (stmts.Empty first) = true
  statement_node_fits (stmts.Expression value) = expression_fits value
  statement_node_fits (stmts.If keyword test controlled) = expression_fits test && statement_fits controlled
  statement_node_fits (stmts.IfElse keyword test controlled otherwise) =
      expression_fits test && (statement_fits controlled && statement_fits otherwise)
  statement_node_fits (stmts.Switch keyword value body) = expression_fits value && statement_fits body
  statement_node_fits (stmts.While keyword test body) = expression_fits test && statement_fits body
  statement_node_fits (stmts.Do keyword body test) = statement_fits body && expression_fits test
  statement_node_fits (stmts.For keyword start test step body) =
      start_fits start
      && (fits_if_any expression_fits test && (fits_if_any expression_fits step && statement_fits body))
  statement_node_fits (stmts.Case keyword in_switch value converted labelled) =
      expression_fits value && (fits_if_any value_fits converted && statement_fits labelled)
  statement_node_fits (stmts.Default keyword in_switch labelled) = statement_fits labelled
  statement_node_fits (stmts.Label name text labelled) = name_fits text && statement_fits labelled
  statement_node_fits (stmts.Goto keyword text) = name_fits text
  statement_node_fits (stmts.Jump keyword to found) = true
  statement_node_fits (stmts.Return keyword) = true
  statement_node_fits (stmts.ReturnValue keyword result value) =
      fits_if_any type_fits result && expression_fits value

  -- functions and files -----------------------------------------------------------------------------------------------

  unfoldable pub body_fits : Body → Bool
  body_fits b =
      entry_fits b.declared.entry
      && (list_all part_fits b.written.items
      && (list_all part_fits b.parameters.items && list_all item_fits b.items.items))

  abbrev pub external_fits : External → Bool
  external_fits (externals.Declaration d) = declaration_fits d
  external_fits (externals.Definition f) = function_fits f

  unfoldable pub file_fits : FileInfo → Bool
  file_fits f = list_all external_fits f.externals.items

-- one test a table
abbrev pub closed_tests : Linked → List Bool
closed_tests l =
    list_all (type_node_fits (numbers l)) l.types
    ∷ list_all (member_row_fits (numbers l)) l.members.rows.items
    ∷ list_all (entry_row_fits (numbers l)) l.entries.rows.items
    ∷ list_all (expression_node_fits (numbers l)) l.exprs
    ∷ list_all (initialiser_node_fits (numbers l)) l.inits
    ∷ list_all (declaration_row_fits (numbers l)) l.declarations.rows.items
    ∷ list_all (statement_node_fits (numbers l)) l.stmts
    ∷ list_all (body_fits (numbers l)) l.bodies.rows.items
    ∷ list_all (file_fits (numbers l)) l.files.rows.items
    ∷ []

-- the tables name numbers of the project alone
unfoldable pub is_closed : Linked → Bool
is_closed l = all_hold (closed_tests l)
