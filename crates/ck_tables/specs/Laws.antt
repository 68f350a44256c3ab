-- Laws of tables that grow, each the contract of a function that does nothing.
use Rattle.std.specs.Prelude.{◌≡◌, ◌<◌, ℕ, Bool, true, List, length}
use Rattle.ck_tables.specs.ExprTable as exprs
use Rattle.ck_tables.specs.InitTable as inits
use Rattle.ck_tables.specs.Numbers.{Numbers, Grow, type_node_fits, member_row_fits, entry_row_fits}
use Rattle.ck_tables.specs.Numbers.{expression_node_fits, initialiser_node_fits, declaration_row_fits}
use Rattle.ck_tables.specs.Numbers.{statement_node_fits, body_fits, file_fits}
use Rattle.ck_tables.specs.StmtTable as stmts
use Rattle.ck_tables.specs.SubobjectTable as subobjects
use Rattle.ck_tables.specs.declared.exprs.ExprNode.{ExprNode}
use Rattle.ck_tables.specs.declared.inits.InitNode.{InitNode}
use Rattle.ck_tables.specs.declared.stmts.StmtNode.{StmtNode}
use Rattle.ck_tables.specs.declared.subobjects.Subobject.{Subobject}

-- a table that grows twice keeps what the first had
abbrev pub ExpressionsKeep : Type 0
ExpressionsKeep = (ns ms ls : List ExprNode) → exprs.Keeps ns ms → exprs.Keeps ms ls → exprs.Keeps ns ls

abbrev pub InitialisersKeep : Type 0
InitialisersKeep = (ns ms ls : List InitNode) → inits.Keeps ns ms → inits.Keeps ms ls → inits.Keeps ns ls

abbrev pub SubobjectsKeep : Type 0
SubobjectsKeep =
    (ns ms ls : List Subobject) → subobjects.Keeps ns ms → subobjects.Keeps ms ls → subobjects.Keeps ns ls

abbrev pub StatementsKeep : Type 0
StatementsKeep = (ns ms ls : List StmtNode) → stmts.Keeps ns ms → stmts.Keeps ms ls → stmts.Keeps ns ls

-- a node of a table is the node of its number after the table has grown
abbrev pub ExpressionsStay : Type 0
ExpressionsStay =
    (ns ms : List ExprNode) (i : ℕ) (n : ExprNode) → i < length ns → exprs.Keeps ns ms → exprs.IsNode ns i n
    → exprs.IsNode ms i n

abbrev pub InitialisersStay : Type 0
InitialisersStay =
    (ns ms : List InitNode) (i : ℕ) (n : InitNode) → i < length ns → inits.Keeps ns ms → inits.IsNode ns i n
    → inits.IsNode ms i n

abbrev pub SubobjectsStay : Type 0
SubobjectsStay =
    (ns ms : List Subobject) (i : ℕ) (n : Subobject) → i < length ns → subobjects.Keeps ns ms
    → subobjects.IsNode ns i n → subobjects.IsNode ms i n

abbrev pub StatementsStay : Type 0
StatementsStay =
    (ns ms : List StmtNode) (i : ℕ) (n : StmtNode) → i < length ns → stmts.Keeps ns ms → stmts.IsNode ns i n
    → stmts.IsNode ms i n

-- rows that name numbers of a project alone still do when the project has grown
abbrev pub StillFit : {Row : Type 0} → (Numbers → Row → Bool) → Type 0
StillFit {Row} fits = (n m : Numbers) → Grow n m → (x : Row) → fits n x ≡ true → fits m x ≡ true

pub record RowsStillFit : Type 0 where
  pub types : StillFit type_node_fits
  pub members : StillFit member_row_fits
  pub entries : StillFit entry_row_fits
  pub expressions : StillFit expression_node_fits
  pub initialisers : StillFit initialiser_node_fits
  pub declarations : StillFit declaration_row_fits
  pub statements : StillFit statement_node_fits
  pub bodies : StillFit body_fits
  pub files : StillFit file_fits
