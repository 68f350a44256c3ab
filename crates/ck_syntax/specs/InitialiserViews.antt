-- The plain trees that initialisers and designators stand for. Memory is left out: `p` and `q` are a box's or a
-- vector's own parts.
use Rattle.std.specs.Prelude.{List, Option, None, Some, Box}
use Rattle.ck_grammar.specs.Statements as plain
use Rattle.ck_syntax.specs.ExpressionViews.{expr_tree}
use Rattle.ck_syntax.specs.Rows.{row_before}
use Rattle.ck_syntax.specs.declared.initialisers.BracedInit.{BracedInit, BracedInit'}
use Rattle.ck_syntax.specs.declared.initialisers.BracedInit.{Row_of-EarlierInit, end_of-EarlierInit}
use Rattle.ck_syntax.specs.declared.initialisers.BracedInit.{more_of-EarlierInit}
use Rattle.ck_syntax.specs.declared.initialisers.Designation.{Designation}
use Rattle.ck_syntax.specs.declared.initialisers.Designator.{Designator}
use Rattle.ck_syntax.specs.declared.initialisers.Designator.TheVariants.{DotName, AtIndex}
use Rattle.ck_syntax.specs.declared.initialisers.EarlierInit.{EarlierInit}
use Rattle.ck_syntax.specs.declared.initialisers.Init.{Init, Value, Braced'}

-- a designator before others
abbrev pub designator_before : {A : Type 0} → Designator A → plain.Designators → plain.Designators
designator_before (DotName dot name) others = plain.DotName dot name others
designator_before (AtIndex opening index closing) others = plain.AtIndex opening (expr_tree index.value) closing others

abbrev pub designation_tree : {A : Type 0} → Designation A → plain.Designators
designation_tree d = row_before designator_before d.designators.items (plain.Equals d.equals)

-- designators, if there are any
abbrev pub designation_option : {A : Type 0} → Option (Box (Designation A) A) → Option plain.Designators
designation_option None = None
designation_option (Some d) = Some (designation_tree d.value)

unfoldable mutual
  pub init_tree : {A : Type 0} → Init A → plain.Init
  init_tree (Value value) = plain.Value (expr_tree value)
  init_tree (Braced' p braced) = braced_tree braced

  -- initialisers in braces
  pub braced_tree : {A : Type 0} → BracedInit A → plain.Init
  braced_tree (BracedInit' opening q earlier designation last comma closing) =
      plain.Braced opening
      (init_row earlier (plain.LastInit (designation_option designation) (init_tree last) comma)) closing

  pub init_row : {A : Type 0} → {n : _} → Row_of-EarlierInit A n → plain.Inits → plain.Inits
  init_row end_of-EarlierInit last = last
  init_row (more_of-EarlierInit designation init comma others) last =
      plain.NextInit (designation_option designation) (init_tree init) comma (init_row others last)

-- an initialiser and the comma after it before others
abbrev pub init_before : {A : Type 0} → EarlierInit A → plain.Inits → plain.Inits
init_before i others = plain.NextInit (designation_option i.designation) (init_tree i.init) i.comma others

-- initialisers with a comma after each, before the last one
abbrev pub init_trees : {A : Type 0} → List (EarlierInit A) → plain.Inits → plain.Inits
init_trees earlier last = row_before init_before earlier last
