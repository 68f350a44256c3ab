-- What names numbers of a project alone still does when the project has grown.
use Rattle.std.proofs.Common.{◌≡◌, ℕ, ◌≤◌, List, [], ◌∷◌, refl, arith}
use Rattle.std.specs.Prelude.{Bool, true, false, ◌&&◌, nat_lt, Option, Some, None}
use Rattle.std.specs.List.{list_all}
use Rattle.ck_types.specs.declared.types.CType.TheVariants as types
use Rattle.ck_types.specs.declared.types.Node.TheVariants as type_nodes
use Rattle.ck_types.specs.declared.types.TypeId.{TypeId}
use Rattle.ck_tables.specs.Numbers.{Numbers, Grow, fits_if_any, type_fits, name_fits, struct_fits, member_fits}
use Rattle.ck_tables.specs.Numbers.{entry_fits, expression_fits, subobject_fits, initialiser_fits, declaration_fits}
use Rattle.ck_tables.specs.Numbers.{statement_fits, function_fits}
use Rattle.ck_tables.specs.Numbers.{type_row_fits, type_node_fits, made_fits, member_row_fits, meaning_fits}
use Rattle.ck_tables.specs.Numbers.{entry_row_fits, value_fits, constancy_fits, facts_fit, link_fits, step_fits}
use Rattle.ck_tables.specs.Numbers.{part_fits, expression_node_fits, object_fits}
use Rattle.ck_tables.specs.Numbers.{init_facts_fit, designator_fits, designation_fits, init_item_fits}
use Rattle.ck_tables.specs.Numbers.{initialiser_node_fits}
use Rattle.ck_tables.specs.Numbers.{declarator_fits, declaration_row_fits, start_fits, item_fits, statement_node_fits}
use Rattle.ck_tables.specs.Numbers.{body_fits, external_fits, file_fits}
use Rattle.ck_tables.specs.declared.entries.MeaningInfo.TheVariants as meanings
use Rattle.ck_tables.specs.declared.exprs.ExprId.{ExprId}
use Rattle.ck_tables.specs.declared.exprs.ExprNode.TheVariants as exprs
use Rattle.ck_tables.specs.declared.exprs.Part.{Part}
use Rattle.ck_tables.specs.declared.exprs.Part.TheVariants as parts
use Rattle.ck_tables.specs.declared.exprs.Step.TheVariants as steps
use Rattle.ck_tables.specs.declared.facts.Constancy.TheVariants as constancies
use Rattle.ck_tables.specs.declared.facts.EntryId.{EntryId}
use Rattle.ck_tables.specs.declared.facts.MemberId.{MemberId}
use Rattle.ck_tables.specs.declared.facts.QualifiedType.{QualifiedType}
use Rattle.ck_tables.specs.declared.inits.Designator.TheVariants as designators
use Rattle.ck_tables.specs.declared.inits.InitItem.TheVariants as init_items
use Rattle.ck_tables.specs.declared.inits.InitNode.TheVariants as inits
use Rattle.ck_tables.specs.declared.inits.InitObject.TheVariants as objects
use Rattle.ck_tables.specs.declared.program.External.TheVariants as externals
use Rattle.ck_tables.specs.declared.stmts.Item.{Item}
use Rattle.ck_tables.specs.declared.stmts.Item.TheVariants as items
use Rattle.ck_tables.specs.declared.stmts.Start.TheVariants as starts
use Rattle.ck_tables.specs.declared.stmts.StmtNode.TheVariants as stmts

-- tests ---------------------------------------------------------------------------------------------------------------

-- a test that passes where another does
abbrev Follows : {X : Type 0} → (X → Bool) → (X → Bool) → Type 0
Follows {X} f g = (x : X) → f x ≡ true → g x ≡ true

both : {a b c d : Bool} → (a ≡ true → c ≡ true) → (b ≡ true → d ≡ true) → (a && b) ≡ true → (c && d) ≡ true
both {a = true} f g h = let x = f refl in let y = g h in grind (arith, x, y)
both {a = false} f g h = grind arith

module _ {X : Type 0} (f g : X → Bool) (still : Follows f g) where
  all-still : (xs : List X) → list_all f xs ≡ true → list_all g xs ≡ true
  all-still [] h = refl
  all-still (x ∷ xs) h = both (still x) (all-still xs) h

  any-still : (x : Option X) → fits_if_any f x ≡ true → fits_if_any g x ≡ true
  any-still None h = refl
  any-still (Some x) h = still x h

less-still : (i k l : ℕ) → k ≤ l → nat_lt i k ≡ true → nat_lt i l ≡ true
less-still i k l most h = grind arith

module _ (n m : Numbers) (grow : Grow n m) where
  -- numbers -----------------------------------------------------------------------------------------------------------

  type-still : Follows (type_fits n) (type_fits m)
  type-still t h = grow.types t.0 h

  name-still : Follows (name_fits n) (name_fits m)
  name-still x h = less-still x.0 n.names m.names grow.names h

  value-still : Follows (value_fits n) (value_fits m)
  value-still v h = less-still v.0 n.values m.values grow.values h

  struct-still : Follows (struct_fits n) (struct_fits m)
  struct-still s h = less-still s.0 n.structs m.structs grow.structs h

  member-still : Follows (member_fits n) (member_fits m)
  member-still x h = less-still x.0 n.members m.members grow.members h

  entry-still : Follows (entry_fits n) (entry_fits m)
  entry-still e h = less-still e.0 n.entries m.entries grow.entries h

  expression-still : Follows (expression_fits n) (expression_fits m)
  expression-still x h = less-still x.0 n.expressions m.expressions grow.expressions h

  subobject-still : Follows (subobject_fits n) (subobject_fits m)
  subobject-still s h = less-still s.0 n.subobjects m.subobjects grow.subobjects h

  initialiser-still : Follows (initialiser_fits n) (initialiser_fits m)
  initialiser-still i h = less-still i.0 n.initialisers m.initialisers grow.initialisers h

  declaration-still : Follows (declaration_fits n) (declaration_fits m)
  declaration-still d h = less-still d.0 n.declarations m.declarations grow.declarations h

  statement-still : Follows (statement_fits n) (statement_fits m)
  statement-still s h = less-still s.0 n.statements m.statements grow.statements h

  function-still : Follows (function_fits n) (function_fits m)
  function-still f h = less-still f.0 n.functions m.functions grow.functions h

  any-type : (t : Option TypeId) → fits_if_any (type_fits n) t ≡ true → fits_if_any (type_fits m) t ≡ true
  any-type = any-still (type_fits n) (type_fits m) type-still

  made-still : Follows (made_fits n) (made_fits m)
  made-still t h = type-still t.type_id h

  any-made : (t : Option QualifiedType) → fits_if_any (made_fits n) t ≡ true → fits_if_any (made_fits m) t ≡ true
  any-made = any-still (made_fits n) (made_fits m) made-still

  any-entry : (e : Option EntryId) → fits_if_any (entry_fits n) e ≡ true → fits_if_any (entry_fits m) e ≡ true
  any-entry = any-still (entry_fits n) (entry_fits m) entry-still

  any-member : (x : Option MemberId) → fits_if_any (member_fits n) x ≡ true → fits_if_any (member_fits m) x ≡ true
  any-member = any-still (member_fits n) (member_fits m) member-still

  any-expression : (x : Option ExprId) → fits_if_any (expression_fits n) x ≡ true
      → fits_if_any (expression_fits m) x ≡ true
  any-expression = any-still (expression_fits n) (expression_fits m) expression-still

  -- types, members and declarations -----------------------------------------------------------------------------------

  type-row-still : Follows (type_row_fits n) (type_row_fits m)
  type-row-still (types.Struct s) h = struct-still s h
  type-row-still types.Void h = refl
  type-row-still (types.Integer t) h = refl
  type-row-still (types.Pointer q to) h = refl
  type-row-still (types.Array q of count) h = refl
  type-row-still (types.Function q result parameters variadic) h = refl

  pub type_node_still : Follows (type_node_fits n) (type_node_fits m)
  unfolding type_node_fits
  type_node_still (type_nodes.Type t) h = type-row-still t h
  type_node_still type_nodes.NoParameters h = refl
  type_node_still (type_nodes.Parameter first rest) h = refl

  pub member_row_still : Follows (member_row_fits n) (member_row_fits m)
  unfolding member_row_fits
  member_row_still x h = both (struct-still x.of) (any-made x.made) h

  meaning-still : Follows (meaning_fits n) (meaning_fits m)
  meaning-still (meanings.Variable made _ _ _) h = any-made made h
  meaning-still (meanings.Function type_id _ _) h = any-type type_id h
  meaning-still (meanings.TypeName made) h = any-made made h
  meaning-still (meanings.Enumerator value) h = refl
  meaning-still (meanings.StructTag of) h = struct-still of h
  meaning-still meanings.EnumTag h = refl
  meaning-still (meanings.Member member) h = member-still member h
  meaning-still (meanings.Completed of layout constant) h = struct-still of h
  meaning-still meanings.Label h = refl

  pub entry_row_still : Follows (entry_row_fits n) (entry_row_fits m)
  unfolding entry_row_fits
  entry_row_still e h = both (name-still e.name) (meaning-still e.meaning) h

  -- expressions -------------------------------------------------------------------------------------------------------

  constancy-still : Follows (constancy_fits n) (constancy_fits m)
  constancy-still constancies.Varying h = refl
  constancy-still constancies.Valueless h = refl
  constancy-still (constancies.Known value) h = value-still value h

  facts-still : Follows (facts_fit n) (facts_fit m)
  facts-still f h = both (any-type f.type_id) (constancy-still f.constancy) h

  link-still : Follows (link_fits n) (link_fits m)
  link-still l h = both (expression-still l.operand) (facts-still l.facts) h

  arguments-still : (xs : List ExprId) → list_all (expression_fits n) xs ≡ true → list_all (expression_fits m) xs ≡ true
  arguments-still = all-still (expression_fits n) (expression_fits m) expression-still

  step-still : Follows (step_fits n) (step_fits m)
  step-still (steps.Index opening index facts) h = both (expression-still index) (facts-still facts) h
  step-still (steps.Call opening function arguments facts) h =
      both (any-entry function) (both (arguments-still arguments.items) (facts-still facts)) h
  step-still (steps.Access is_dot name member facts) h = both (any-member member) (facts-still facts) h
  step-still (steps.PostIncrement token operator facts) h = facts-still facts h

  part-still : Follows (part_fits n) (part_fits m)
  part-still (parts.Mention keyword tag entry) h = any-entry entry h
  part-still (parts.StructBody keyword layout) h = refl
  part-still (parts.EnumeratorValue spot constancy) h = constancy-still constancy h
  part-still (parts.Expression x) h = expression-still x h
  part-still (parts.ArraySize size too_large) h = expression-still size h
  part-still (parts.Declarator facts) h = any-made facts.made h

  parts-still : (ps : List Part) → list_all (part_fits n) ps ≡ true → list_all (part_fits m) ps ≡ true
  parts-still = all-still (part_fits n) (part_fits m) part-still

  pub expression_node_still : Follows (expression_node_fits n) (expression_node_fits m)
  unfolding expression_node_fits
  expression_node_still (exprs.Name facts entry) h = both (facts-still facts) (any-entry entry) h
  expression_node_still (exprs.Constant facts) h = facts-still facts h
  expression_node_still (exprs.Strings facts others) h = facts-still facts h
  expression_node_still (exprs.Paren facts inner) h = both (facts-still facts) (expression-still inner) h
  expression_node_still (exprs.Postfix primary row) h =
      both (expression-still primary) (all-still (step_fits n) (step_fits m) step-still row.items) h
  expression_node_still (exprs.Unary facts operator operand) h = both (facts-still facts) (expression-still operand) h
  expression_node_still (exprs.SizeofType facts written) h = both (facts-still facts) (parts-still written.items) h
  expression_node_still (exprs.Cast facts operand written) h =
      both (facts-still facts) (both (expression-still operand) (parts-still written.items)) h
  expression_node_still (exprs.Chain first links) h =
      both (expression-still first) (all-still (link_fits n) (link_fits m) link-still links.items) h
  expression_node_still (exprs.Conditional facts test second third) h =
      both (facts-still facts)
      (both (expression-still test) (both (expression-still second) (expression-still third))) h
  expression_node_still (exprs.Assignment facts operator target value) h =
      both (facts-still facts) (both (expression-still target) (expression-still value)) h

  -- initialisers ------------------------------------------------------------------------------------------------------

  object-still : Follows (object_fits n) (object_fits m)
  object-still objects.Missing h = refl
  object-still (objects.Whole type_id) h = any-type type_id h
  object-still (objects.Part part type_id member) h =
      both (subobject-still part) (both (any-type type_id) (any-member member)) h

  init-facts-still : Follows (init_facts_fit n) (init_facts_fit m)
  init-facts-still f h = object-still f.object h

  designator-still : Follows (designator_fits n) (designator_fits m)
  designator-still (designators.ToMember dot found) h = refl
  designator-still (designators.ToElement opening of_array index found) h = expression-still index h

  designation-still : Follows (designation_fits n) (designation_fits m)
  designation-still d h =
      both (designator-still d.first)
      (all-still (designator_fits n) (designator_fits m) designator-still d.others.items) h

  init-item-still : Follows (init_item_fits n) (init_item_fits m)
  init-item-still (init_items.Plain initialiser) h = initialiser-still initialiser h
  init-item-still (init_items.Designated initialiser designation) h =
      both (initialiser-still initialiser) (designation-still designation.value) h

  pub initialiser_node_still : Follows (initialiser_node_fits n) (initialiser_node_fits m)
  unfolding initialiser_node_fits
  initialiser_node_still (inits.Value facts value) h = both (init-facts-still facts) (expression-still value) h
  initialiser_node_still (inits.Braces facts row) h =
      both (init-facts-still facts) (all-still (init_item_fits n) (init_item_fits m) init-item-still row.items) h

  -- declarations and statements ---------------------------------------------------------------------------------------

  declarator-still : Follows (declarator_fits n) (declarator_fits m)
  declarator-still d h =
      both (parts-still d.written.items)
      (both (entry-still d.facts.entry)
      (any-still (initialiser_fits n) (initialiser_fits m) initialiser-still d.initialiser)) h

  pub declaration_row_still : Follows (declaration_row_fits n) (declaration_row_fits m)
  unfolding declaration_row_fits
  declaration_row_still d h =
      both (parts-still d.written.items)
      (all-still (declarator_fits n) (declarator_fits m) declarator-still d.declared.items) h

  start-still : Follows (start_fits n) (start_fits m)
  start-still starts.Empty h = refl
  start-still (starts.Expression x) h = expression-still x h
  start-still (starts.Declaration d) h = declaration-still d h

  item-still : Follows (item_fits n) (item_fits m)
  item-still (items.Declaration d) h = declaration-still d h
  item-still (items.Statement s) h = statement-still s h

  items-still : (is : List Item) → list_all (item_fits n) is ≡ true → list_all (item_fits m) is ≡ true
  items-still = all-still (item_fits n) (item_fits m) item-still

  pub statement_node_still : Follows (statement_node_fits n) (statement_node_fits m)
  unfolding statement_node_fits
  statement_node_still (stmts.Block first row) h = items-still row.items h
  statement_node_still (stmts.Empty first) h = refl
  statement_node_still (stmts.Expression value) h = expression-still value h
  statement_node_still (stmts.If keyword test controlled) h =
      both (expression-still test) (statement-still controlled) h
  statement_node_still (stmts.IfElse keyword test controlled otherwise) h =
      both (expression-still test) (both (statement-still controlled) (statement-still otherwise)) h
  statement_node_still (stmts.Switch keyword value body) h = both (expression-still value) (statement-still body) h
  statement_node_still (stmts.While keyword test body) h = both (expression-still test) (statement-still body) h
  statement_node_still (stmts.Do keyword body test) h = both (statement-still body) (expression-still test) h
  statement_node_still (stmts.For keyword start test step body) h =
      both (start-still start) (both (any-expression test) (both (any-expression step) (statement-still body))) h
  statement_node_still (stmts.Case keyword in_switch value converted labelled) h =
      both (expression-still value)
      (both (any-still (value_fits n) (value_fits m) value-still converted) (statement-still labelled)) h
  statement_node_still (stmts.Default keyword in_switch labelled) h = statement-still labelled h
  statement_node_still (stmts.Label name text labelled) h = both (name-still text) (statement-still labelled) h
  statement_node_still (stmts.Goto keyword text) h = name-still text h
  statement_node_still (stmts.Jump keyword to found) h = refl
  statement_node_still (stmts.Return keyword) h = refl
  statement_node_still (stmts.ReturnValue keyword result value) h =
      both (any-type result) (expression-still value) h

  -- functions and files -----------------------------------------------------------------------------------------------

  pub body_still : Follows (body_fits n) (body_fits m)
  unfolding body_fits
  body_still b h =
      both (entry-still b.declared.entry)
      (both (parts-still b.written.items) (both (parts-still b.parameters.items) (items-still b.items.items))) h

  external-still : Follows (external_fits n) (external_fits m)
  external-still (externals.Declaration d) h = declaration-still d h
  external-still (externals.Definition f) h = function-still f h

  pub file_still : Follows (file_fits n) (file_fits m)
  unfolding file_fits
  file_still f h = all-still (external_fits n) (external_fits m) external-still f.externals.items h
