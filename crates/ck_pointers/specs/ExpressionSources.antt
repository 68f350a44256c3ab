-- Which sources the expressions of a typed project have (docs/FLOW.md, "What an expression gives"): each stands for the
-- origin of the expression's tree, whatever the cells stand for, if only those of slots stand for these slots and the
-- kinds for the types of what is called.
use Rattle.std.specs.Prelude.{◌≡◌, ◌<◌, ◌≤◌, ℕ, Bool, true, List, [], ◌∷◌, length, get_or, slice_get, slice_index_or}
use Rattle.std.specs.Prelude.{All, Option, Some, None, if◌then◌else◌}
use Rattle.ck_base.specs.declared.spans.FnId.{FnId}
use Rattle.ck_base.specs.declared.spans.SlotId.{SlotId}
use Rattle.ck_call_rows.specs.TypedRows.{declarations}
use Rattle.ck_prog.specs.Calls.{CallSite}
use Rattle.ck_prog.specs.Slots.{Slot}
use Rattle.ck_prog.specs.TypeClasses.{as_value}
use Rattle.ck_prog.specs.TypedTrees as trees
use Rattle.ck_prog.specs.TypedTrees.{Steps, Typed}
use Rattle.ck_reaching.specs.Rules.{System, function_count}
use Rattle.ck_reaching.specs.declared.rules.CellId.{CellId}
use Rattle.ck_reaching.specs.declared.rules.KindId.{KindId}
use Rattle.ck_slots.specs.Givens.{TypedProject, Given, may_be_called}
use Rattle.ck_slots.specs.Holders.{of_slot}
use Rattle.ck_slots.specs.Origins.{Origin, Held, is_comma, origin, origin_after}
use Rattle.ck_origins.specs.Meanings.{Meanings, origin_at, type_at}
use Rattle.ck_origins.specs.Modelling.{Stand}
use Rattle.ck_pointers.specs.Sources.{Extends, IsWithin, KeepFunctions, StandsFor, StandsWith}
use Rattle.ck_pointers.specs.TypedSlots.{call_functions, typed_project}
use Rattle.ck_pointers.specs.declared.expressions.Callables.{Callables}
use Rattle.ck_pointers.specs.declared.sources.Source.{Source}
use Rattle.ck_pointers.specs.declared.sources.Source.TheVariants.{Nowhere, Function, Cell}
use Rattle.ck_tables.specs.ExprTable.{make, step_before, steps_of, tree_at}
use Rattle.ck_tables.specs.Program.{readings, type_of}
use Rattle.ck_tables.specs.ProgramRows.{slot_count, slots}
use Rattle.ck_tables.specs.Readings.{plain_facts}
use Rattle.ck_tables.specs.Rows.{IsRow}
use Rattle.ck_tables.specs.declared.entries.MeaningInfo.{MeaningInfo}
use Rattle.ck_tables.specs.declared.entries.MeaningInfo.TheVariants as meanings
use Rattle.ck_tables.specs.declared.exprs.ExprNode.{ExprNode}
use Rattle.ck_tables.specs.declared.exprs.Link.{Link}
use Rattle.ck_tables.specs.declared.exprs.Step.{Step}
use Rattle.ck_tables.specs.declared.facts.Facts.{Facts}
use Rattle.ck_tables.specs.declared.program.Linked.{Linked}
use Rattle.ck_tables.specs.declared.program_rows.ProgramRows.{ProgramRows}
use Rattle.ck_tables.specs.declared.program_rows.UseInfo.{UseInfo}
use Rattle.ck_types.specs.Types.{CType}
use Rattle.ck_types.specs.declared.types.TypeId.{TypeId}

abbrev pub tables : Callables → Linked
tables c = c.program.now.linked

abbrev pub rows : Callables → ProgramRows
rows c = c.program.now.rows

abbrev pub project : Callables → TypedProject
project c = typed_project (tables c)

-- the origin of the expression of this number
abbrev pub origin_of : Callables → ℕ → Origin
origin_of c i = origin (declarations (tables c)) (tree_at (readings (tables c)) (tables c).exprs i)

-- what rules and meanings are to have ---------------------------------------------------------------------------------

-- the kind of the calls of what has the type of this number, if there is one
abbrev pub kind_at : List (Option KindId) → ℕ → Option KindId
kind_at kinds t = slice_index_or kinds t None

-- rules with a cell for each slot, for the project's functions, and with all kinds that are listed
pub record AreReady (c : Callables) (s : System) : Type 0 where
  pub cells : slot_count (rows c) ≤ s.cells
  pub functions : function_count s ≡ length (tables c).bodies.rows.items
  pub kinds : (t : ℕ) (k : KindId) → kind_at c.kinds.now t ≡ Some k → k.0 < length s.kinds

-- 6.5.2.2: the kind stands for this type; without a kind no function may be called so
abbrev pub IsKind : TypedProject → Meanings → Option CType → Option KindId → Type 0
IsKind p m type None = (f : ℕ) → may_be_called p type f ≡ true → ⊥
IsKind p m type (Some k) = type_at m k.0 ≡ type

-- the cell of a slot's number stands for the slot, and a kind for the type of what is called
pub record AreMeant (c : Callables) (m : Meanings) : Type 0 where
  pub cells : (i : ℕ) (s : Slot) → slice_get (slots (tables c) (rows c)) i ≡ Some s → origin_at m i ≡ Held (of_slot s)
  pub kinds : (t : ℕ) → IsKind (project c) m (Some (as_value (type_of (tables c) t))) (kind_at c.kinds.now t)

-- they are the sources of the first expressions, by their numbers
pub record AreOfExpressions (c : Callables) (m : Meanings) (sources : List Source) : Type 0 where
  pub each : (i : ℕ) (d : Source) → i < length sources → StandsFor (project c) m (get_or sources i d) (origin_of c i)

-- sources that are made -----------------------------------------------------------------------------------------------

-- no cell is taken away, and the kinds and the functions stay
pub record AreExtended (old new : System) : Type 0 where
  pub cells : old.cells ≤ new.cells
  pub functions : KeepFunctions old new

-- a source was made for this origin, if these are the sources of the first expressions
pub record IsMade (c : Callables) (sources : List Source) (o : Origin) (source : Source) (old new : System) : Type 0
  where
    pub extended : AreExtended old new
    pub within : IsWithin new source
    pub stands : (given : List Given) (sites : List CallSite) (m : Meanings) → AreMeant c m
        → AreOfExpressions c m sources → Stand (project c) given sites old.cells m old
        → StandsWith (project c) given sites source o m new

-- rules that stand with other meanings, where these are the sources of the first expressions
pub record StandWith (c : Callables) (given : List Given) (sites : List CallSite) (sources : List Source) (m : Meanings)
    (s : System) : Type 0 where
  pub means : Meanings
  pub extends : Extends m means
  pub stand : Stand (project c) given sites s.cells means s
  pub sources_are : AreOfExpressions c means sources

-- the sources of the first expressions were made, of some more than before
pub record AreMade (c : Callables) (before after : List Source) (old new : System) : Type 0 where
  pub extended : AreExtended old new
  pub within : All (IsWithin new) after
  pub stands : (given : List Given) (sites : List CallSite) (m : Meanings) → AreMeant c m
      → AreOfExpressions c m before → Stand (project c) given sites old.cells m old
      → StandWith c given sites after m new

-- Private -------------------------------------------------------------------------------------------------------------

-- it stands for this origin without a rule of its own
pub record StandsAlways (c : Callables) (o : Origin) (source : Source) : Type 0 where
  pub within : (s : System) → AreReady c s → IsWithin s source
  pub stands : (m : Meanings) → AreMeant c m → StandsFor (project c) m source o

-- a source was made for what `make` gives of an origin, if the first one stands for that origin
pub record IsMadeOf (c : Callables) (make : Origin → Origin) (from source : Source) (old new : System) : Type 0 where
  pub extended : AreExtended old new
  pub within : IsWithin new source
  pub stands : (given : List Given) (sites : List CallSite) (m : Meanings) (o : Origin) → AreMeant c m
      → StandsFor (project c) m from o → Stand (project c) given sites old.cells m old
      → StandsWith (project c) given sites source (make o) m new

abbrev pub source_of_slot : Option SlotId → Source
source_of_slot None = Nowhere
source_of_slot (Some s) = Cell (record { 0 = s.0 })

abbrev pub source_of_function : Option FnId → Source
source_of_function None = Nowhere
source_of_function (Some f) = Function f

abbrev pub source_of_name : UseInfo → MeaningInfo → Source
source_of_name u (meanings.Function _ _ _) = source_of_function u.function
source_of_name u (meanings.Variable _ _ _ _) = source_of_slot u.slot
source_of_name u _ = Nowhere

abbrev pub kind_of_type : List (Option KindId) → Option TypeId → Option KindId
kind_of_type kinds None = None
kind_of_type kinds (Some t) = kind_at kinds t.0

abbrev pub source_through : Bool → Source → Source
source_through goes x = if goes then x else Nowhere

-- the operand where there is a comma, else nothing
pub record IsOperand (sources : List Source) (link : Link) (source : Source) : Type 0 where
  pub is : (d : Source) → source ≡ source_through (is_comma link.operator) (get_or sources link.operand.0 d)

-- the last operand or, without one, the first
abbrev pub IsLastAfter : List Source → Link → List Link → Source → Type 0
IsLastAfter sources link [] source = IsOperand sources link source
IsLastAfter sources link (next ∷ links) source = IsLastAfter sources next links source

abbrev pub IsLast : List Source → ℕ → List Link → Source → Type 0
IsLast sources first [] source = IsRow sources first source
IsLast sources first (link ∷ links) source = IsLastAfter sources link links source

module _ (c : Callables) where
  abbrev pub tree : ℕ → Typed
  tree i = tree_at (readings (tables c)) (tables c).exprs i

  abbrev pub tree_of_node : ExprNode → Typed
  tree_of_node n = make (readings (tables c)) tree n

  abbrev pub suffixes : List Step → Steps
  suffixes ss = steps_of (readings (tables c)) tree ss

  abbrev pub suffix_alone : Step → Steps
  suffix_alone s = step_before (readings (tables c)) tree s trees.NoSteps

  -- what is called by a name is a function
  abbrev pub calls_by_names : Step → Bool
  calls_by_names s = call_functions (suffix_alone s)

  abbrev pub rows_call_functions : List Step → Bool
  rows_call_functions ss = call_functions (suffixes ss)

  -- of what has these facts and comes from there
  abbrev pub after_suffix : Facts → Step → Origin → Origin
  after_suffix f s o = origin_after (declarations (tables c)) (plain_facts (readings (tables c)) f) o (suffix_alone s)

  abbrev pub origin_of_row : ℕ → List Step → Origin
  origin_of_row i ss =
      origin_after (declarations (tables c)) (trees.facts (tree i)) (origin_of c i) (suffixes ss)

  -- a row up to a suffix, from which those after it lead to this origin
  pub record Leads (sources : List Source) (value : Source) (before : Facts) (rest : List Step) (all : Origin)
      (old new : System) : Type 0 where
    pub origin : Origin
    pub made : IsMade c sources origin value old new
    pub leads :
        origin_after (declarations (tables c)) (plain_facts (readings (tables c)) before) origin (suffixes rest) ≡ all
