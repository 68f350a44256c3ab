-- What rules know of where a value comes from, and how they grow when it goes on to a cell, is one of two, or is called
-- (docs/FLOW.md, "Targets").
use Rattle.std.specs.Prelude.{◌≡◌, ◌<◌, ◌≤◌, ℕ, Bool, true, false, List, length, Option, Some, None, ⊤}
use Rattle.ck_prog.specs.Calls.{CallSite, function_number}
use Rattle.ck_prog.specs.Declarations.{Entry}
use Rattle.ck_reaching.specs.Rules.{System, function_count}
use Rattle.ck_reaching.specs.declared.rules.CellId.{CellId}
use Rattle.ck_reaching.specs.declared.rules.KindId.{KindId}
use Rattle.ck_slots.specs.Givens.{TypedProject, Given, functions}
use Rattle.ck_slots.specs.Origins.{Origin, Named, Either, ResultOf}
use Rattle.ck_origins.specs.Covering.{Brings}
use Rattle.ck_origins.specs.Following.{Feeds}
use Rattle.ck_origins.specs.Meanings.{IsEmpty, Meanings, origin_at, type_at}
use Rattle.ck_origins.specs.Modelling.{Stand}
use Rattle.ck_origins.specs.Steps.{Grow}
use Rattle.ck_types.specs.Types.{CType}
use Rattle.ck_pointers.specs.declared.sources.Source.{Source}
use Rattle.ck_pointers.specs.declared.sources.Source.TheVariants.{Nowhere, Function, Cell}

-- the function or the cell that it names is one of the rules
abbrev pub IsWithin : System → Source → Type 0
IsWithin s Nowhere = ⊤
IsWithin s (Function f) = f.0 < function_count s
IsWithin s (Cell c) = c.0 < s.cells

-- the functions that it may be are those that come from this origin
abbrev pub StandsFor : TypedProject → Meanings → Source → Origin → Type 0
StandsFor p m Nowhere o = IsEmpty p o
StandsFor p m (Function f) o = (e : Entry) × (o ≡ Named e) × (function_number (functions p) e ≡ Some f.0)
StandsFor p m (Cell c) o = origin_at m c.0 ≡ o

-- neither of two may be a function
abbrev pub give_nothing : Source → Source → Bool
give_nothing Nowhere Nowhere = true
give_nothing _ _ = false

-- the kinds and the functions of the rules stay
pub record KeepFunctions (old new : System) : Type 0 where
  pub kinds : new.kinds ≡ old.kinds
  pub callees : new.callees ≡ old.callees

-- A source was brought to a cell. The rules still stand wherever all that comes from the source's origin comes from the
-- cell's too, and the cell has what comes from the source.
pub record IsBrought (source : Source) (cell : ℕ) (old new : System) : Type 0 where
  pub cells : new.cells ≡ old.cells
  pub functions : KeepFunctions old new
  pub grow : Grow old new
  pub stands : (p : TypedProject) (given : List Given) (sites : List CallSite) (fed : ℕ) (m : Meanings) (o : Origin)
      → StandsFor p m source o → Feeds p o (origin_at m cell) → Stand p given sites fed m old
      → Stand p given sites fed m new
  pub brings : (p : TypedProject) (m : Meanings) (o : Origin) → StandsFor p m source o → Brings p m new o cell

-- cells were added, and those that were there stand for what they stood for
pub record Extends (m n : Meanings) : Type 0 where
  pub more : length m.cells ≤ length n.cells
  pub cells : (c : ℕ) → c < length m.cells → origin_at n c ≡ origin_at m c
  pub kinds : n.kinds ≡ m.kinds

-- rules that stand with other meanings, where a source stands for an origin
pub record StandsWith (p : TypedProject) (given : List Given) (sites : List CallSite) (source : Source) (o : Origin)
    (m : Meanings) (s : System) : Type 0 where
  pub means : Meanings
  pub extends : Extends m means
  pub stand : Stand p given sites s.cells means s
  pub stands_for : StandsFor p means source o

-- a source was made for a value that comes from either of two (6.5.15)
pub record IsEither (first second either : Source) (old new : System) : Type 0 where
  pub cells : old.cells ≤ new.cells
  pub functions : KeepFunctions old new
  pub within : IsWithin new either
  pub stands : (p : TypedProject) (given : List Given) (sites : List CallSite) (m : Meanings) (a b : Origin)
      → StandsFor p m first a → StandsFor p m second b → Stand p given sites old.cells m old
      → StandsWith p given sites either (Either a b) m new

-- a cell as a source, if there is one
abbrev pub source_of_cell : Option CellId → Source
source_of_cell None = Nowhere
source_of_cell (Some c) = Cell c

-- there is a cell for what comes from a source, or nothing does
pub record IsCellOf (from : Source) (cell : Option CellId) (old new : System) : Type 0 where
  pub cells : old.cells ≤ new.cells
  pub functions : KeepFunctions old new
  pub within : IsWithin new (source_of_cell cell)
  pub stands : (p : TypedProject) (given : List Given) (sites : List CallSite) (m : Meanings) (o : Origin)
      → StandsFor p m from o → Stand p given sites old.cells m old
      → StandsWith p given sites (source_of_cell cell) o m new

-- a source was made for the result of a call of this kind, where the first one is called (6.5.2.2)
pub record IsResult (kind : KindId) (called result : Source) (old new : System) : Type 0 where
  pub cells : old.cells ≤ new.cells
  pub functions : KeepFunctions old new
  pub within : IsWithin new result
  pub stands : (p : TypedProject) (given : List Given) (sites : List CallSite) (m : Meanings) (type : Option CType)
      (o : Origin) → type_at m kind.0 ≡ type → StandsFor p m called o → Stand p given sites old.cells m old
      → StandsWith p given sites result (ResultOf type o) m new
