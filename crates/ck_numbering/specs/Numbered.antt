-- The points of a graph that are made of drafts, one function after the other.
use Rattle.std.specs.Prelude.{◌≡◌, ℕ, ◌+◌, ◌<◌, List, [], ◌∷◌, ◌++◌, map, length, Vec}
use Rattle.std.specs.List.{AllZip, HoldsAt}
use Rattle.std.specs.List.Sorted.{IsPermutation}
use Rattle.ck_base.specs.declared.refusals.Spot.TheVariants.{At}
use Rattle.ck_base.specs.declared.spans.FnId.{FnId}
use Rattle.ck_drafts.specs.Drafts.{PlainEdge, PlainDraft, plain_draft, plain_side}
use Rattle.ck_drafts.specs.declared.drafts.Draft.{Draft}
use Rattle.ck_graph.specs.Flow as graph
use Rattle.ck_graph.specs.Flow.{Flow, point_count, function_count}
use Rattle.ck_graph.specs.declared.points.Edge.{Edge as MadeEdge}
use Rattle.ck_graph.specs.declared.points.FunctionPart.{FunctionPart}
use Rattle.ck_points.specs.Functions.{entry, exit}
use Rattle.ck_points.specs.Places.{Place, side_number}
use Rattle.ck_numbering.specs.PlaceOrder.{AreAscending}

-- points and edges ---------------------------------------------------------------------------------------------------

-- the draft of this index is at this place
pub record IsIndexOf (ds : List PlainDraft) (at : Place) (index : ℕ) : Type 0 where
  pub there : index < length ds
  pub is : HoldsAt (λ d. d.at ≡ at) ds index

-- this is the number of the draft at this place, where the first of them has that number
pub record IsNumberOf (first : ℕ) (ds : List PlainDraft) (at : Place) (number : ℕ) : Type 0 where
  pub index : ℕ
  pub at_index : IsIndexOf ds at index
  pub is : number ≡ first + index

pub record IsEdgeOf (first : ℕ) (ds : List PlainDraft) (e : PlainEdge) (made : MadeEdge) : Type 0 where
  pub label : made.label ≡ e.label
  pub to : IsNumberOf first ds e.to made.to.0

abbrev pub AreEdgesOf : ℕ → List PlainDraft → List PlainEdge → List MadeEdge → Type 0
AreEdgesOf first ds es made = AllZip (IsEdgeOf first ds) es made

-- those of each of some drafts
abbrev pub AreEdgesOfEach : {A : Type 0} → ℕ → (ds these : List PlainDraft) → List (Vec MadeEdge A) → Type 0
AreEdgesOfEach first ds these made = AllZip (λ d es. AreEdgesOf first ds d.edges es.items) these made

-- a draft's point in the function of this number
pub record IsPointOf (function : FnId) (first : ℕ) (ds : List PlainDraft) (d : PlainDraft) (made : graph.Point)
    : Type 0 where
  pub kind : made.kind ≡ d.kind
  pub function_is : made.function ≡ function
  pub site : made.site ≡ At d.site
  pub path : made.path ≡ d.at.path
  pub orders : made.order ≡ d.at.orders
  pub side : made.side ≡ side_number d.at.side
  pub edges : AreEdgesOf first ds d.edges made.edges
  pub targets : made.targets ≡ []

abbrev pub ArePointsOf : FnId → ℕ → List PlainDraft → List graph.Point → Type 0
ArePointsOf function first ds made = AllZip (IsPointOf function first ds) ds made

-- of a draft and its edges
abbrev pub point_made : {A : Type 0} → FnId → Draft × Vec MadeEdge A → graph.Point
point_made function made = record {
  kind = made.0.kind;
  function = function;
  site = At made.0.site;
  path = made.0.at.path.items;
  order = made.0.at.orders.items;
  side = side_number (plain_side made.0.at.side);
  edges = made.1.items;
  targets = [];
}

-- functions ----------------------------------------------------------------------------------------------------------

-- a function more, whose drafts are these in any order
pub record AddsFunction (ds : List PlainDraft) (old new : Flow) : Type 0 where
  pub sorted : List PlainDraft
  pub same : IsPermutation ds sorted
  pub ascending : AreAscending sorted
  pub made : List graph.Point
  pub are : ArePointsOf (record { 0 = function_count old }) (point_count old) sorted made
  pub points : new.points ≡ old.points ++ made
  pub ends : FunctionPart
  pub functions : new.functions ≡ old.functions ++ ends ∷ []
  pub entered : IsNumberOf (point_count old) sorted entry ends.first.0
  pub left : IsNumberOf (point_count old) sorted exit ends.exit.0

abbrev pub plain_drafts : {A : Type 0} → Vec Draft A → List PlainDraft
plain_drafts ds = map plain_draft ds.items

-- a graph of functions with these drafts, added one after the other
pub data IsBuilt : List (List PlainDraft) → Flow → Type 0 where
  None_yet : (flow : Flow) → flow.points ≡ [] → flow.functions ≡ [] → IsBuilt [] flow
  Added :
      (all : List (List PlainDraft)) (ds : List PlainDraft) (old new : Flow) → IsBuilt all old →
      AddsFunction ds old new → IsBuilt (all ++ ds ∷ []) new
