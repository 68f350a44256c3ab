-- Which typed trees the numbers of a table of initialisers stand for: each node over the trees of the nodes before it.
use Rattle.std.specs.Prelude.{◌≡◌, ◌<◌, ◌≤◌, ℕ, Bool, true, false, ◌&&◌, nat_lt}
use Rattle.std.specs.Prelude.{List, [], ◌∷◌, length, Option, Some, None}
use Rattle.ck_prog.specs.CurrentObjects.{Object, whole_object}
use Rattle.ck_prog.specs.TypedBodies.{InitialiserFacts, TypedDesignators, TypedInitialiser, TypedInitialisers}
use Rattle.ck_prog.specs.TypedBodies as bodies
use Rattle.ck_tables.specs.ExprTable.{no_token, no_tree}
use Rattle.ck_tables.specs.Readings.{Readings, BodyReadings, plain_type, plain_member}
use Rattle.ck_tables.specs.Tables.{tree_in, AreOrdered}
use Rattle.ck_tables.specs.declared.inits.Designation.{Designation}
use Rattle.ck_tables.specs.declared.inits.Designator.{Designator}
use Rattle.ck_tables.specs.declared.inits.Designator.TheVariants as designators
use Rattle.ck_tables.specs.declared.inits.InitFacts.{InitFacts}
use Rattle.ck_tables.specs.declared.inits.InitItem.{InitItem}
use Rattle.ck_tables.specs.declared.inits.InitItem.TheVariants as items
use Rattle.ck_tables.specs.declared.inits.InitNode.{InitNode}
use Rattle.ck_tables.specs.declared.inits.InitNode.TheVariants as nodes
use Rattle.ck_tables.specs.declared.inits.InitObject.{InitObject}
use Rattle.ck_tables.specs.declared.inits.InitObject.TheVariants as objects

abbrev pub plain_object : Readings → InitObject → Option Object
plain_object w objects.Missing = None
plain_object w (objects.Whole type_id) = Some (whole_object (plain_type w type_id))
plain_object w (objects.Part part type_id member) =
    Some (record { path = w.path_of part.0; type = plain_type w type_id; member = plain_member w member })

abbrev pub plain_init_facts : Readings → InitFacts → InitialiserFacts
plain_init_facts w f = record { object = plain_object w f.object; first = f.first; static = f.in_static }

-- rows ----------------------------------------------------------------------------------------------------------------

-- a designator, before others
abbrev pub designator_before : BodyReadings → Designator → TypedDesignators → TypedDesignators
designator_before b (designators.ToMember dot found) rest = bodies.ToMember dot found rest
designator_before b (designators.ToElement opening of_array index found) rest =
    bodies.ToElement opening of_array (b.expr_of index.0) found rest

abbrev pub designators_of : BodyReadings → List Designator → TypedDesignators
designators_of b [] = bodies.NoDesignators
designators_of b (d ∷ ds) = designator_before b d (designators_of b ds)

abbrev pub designation_of : BodyReadings → Designation → TypedDesignators
designation_of b d = designator_before b d.first (designators_of b d.others.items)

-- an initialiser of braces, before others; `f` says which tree a number stands for
abbrev pub item_before : BodyReadings → (ℕ → TypedInitialiser) → InitItem → TypedInitialisers → TypedInitialisers
item_before b f (items.Plain initialiser) rest = bodies.Initialiser bodies.NoDesignators (f initialiser.0) rest
item_before b f (items.Designated initialiser designation) rest =
    bodies.Initialiser (designation_of b designation.value) (f initialiser.0) rest

abbrev pub row_of : BodyReadings → (ℕ → TypedInitialiser) → List InitItem → TypedInitialisers
row_of b f [] = bodies.NoInitialisers
row_of b f (i ∷ is) = item_before b f i (row_of b f is)

-- the fold ------------------------------------------------------------------------------------------------------------

-- a node's tree
abbrev pub make : BodyReadings → (ℕ → TypedInitialiser) → InitNode → TypedInitialiser
make b f (nodes.Value facts value) = bodies.Value (plain_init_facts b.readings facts) (b.expr_of value.0)
make b f (nodes.Braces facts row) = bodies.Braces (plain_init_facts b.readings facts) (row_of b f row.items)

-- what a number stands for that no node has
abbrev pub no_initialiser : TypedInitialiser
no_initialiser =
    bodies.Value (
    record {
      object = None;
      first = no_token;
      static = false;
    }) no_tree

-- what a number of a table stands for
abbrev pub init_at : BodyReadings → List InitNode → ℕ → TypedInitialiser
init_at b ns i = tree_in no_initialiser (make b) ns i

-- which numbers a node names ------------------------------------------------------------------------------------------

abbrev pub item_below : ℕ → InitItem → Bool
item_below limit (items.Plain initialiser) = nat_lt initialiser.0 limit
item_below limit (items.Designated initialiser designation) = nat_lt initialiser.0 limit

abbrev pub row_below : ℕ → List InitItem → Bool
row_below limit [] = true
row_below limit (i ∷ is) = item_below limit i && row_below limit is

-- a node names initialisers of smaller numbers than this
abbrev pub reads_below : ℕ → InitNode → Bool
reads_below limit (nodes.Value facts value) = true
reads_below limit (nodes.Braces facts row) = row_below limit row.items

-- each node names smaller numbers than its own
abbrev pub IsOrdered : List InitNode → Type 0
IsOrdered ns = AreOrdered reads_below ns

-- A table has this node at this number, and it stands for the node's tree, whatever the other tables' numbers stand
-- for.
pub record IsNode (ns : List InitNode) (i : ℕ) (n : InitNode) : Type 0 where
  pub below : reads_below i n ≡ true
  pub tree : (b : BodyReadings) → init_at b ns i ≡ make b (init_at b ns) n

-- A table has grown at its end, or not at all: its numbers stay, and stand for what they stood for, alone and in rows.
pub record Keeps (old new : List InitNode) : Type 0 where
  pub no_less : length old ≤ length new
  pub same : (b : BodyReadings) (i : ℕ) → i < length old → init_at b new i ≡ init_at b old i
  pub same_row :
      (b : BodyReadings) (is : List InitItem) → row_below (length old) is ≡ true
      → row_of b (init_at b new) is ≡ row_of b (init_at b old) is
  pub more_row : (is : List InitItem) → row_below (length old) is ≡ true → row_below (length new) is ≡ true
