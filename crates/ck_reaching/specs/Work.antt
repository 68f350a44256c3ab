-- What is known and the edges that were found, as they grow. It serves private contracts alone.
use Rattle.std.specs.Prelude.{◌≡◌, ◌<◌, ◌⊎◌, ℕ, List, Option, Some, length, Contains}
use Rattle.ck_reaching.specs.declared.rules.CellId.{CellId}
use Rattle.ck_reaching.specs.declared.work.Work.{Work}
use Rattle.ck_reaching.specs.Reached.{Holds, set_at}
use Rattle.ck_reaching.specs.Known.{Gains}
use Rattle.ck_reaching.specs.Indices.{numbers_at}
use Rattle.ck_reaching.specs.Listing.{size_of}

-- there is an edge from one cell to another
abbrev pub HasEdge : List (List ℕ) → ℕ → ℕ → Type 0
HasEdge edges from to = Contains (numbers_at edges from) to

-- all parts are for the same cells and functions
pub record IsShaped (w : Work) : Type 0 where
  pub count : length w.known.reached ≡ length w.edges
  pub sets : (c : ℕ) → c < length w.edges → length (set_at w.known.reached c) ≡ length w.scratch
  pub listed : size_of w.known.listed ≡ length w.edges
  pub inside : (from to : ℕ) → HasEdge w.edges from to → to < length w.edges

-- what was known stays and what is new is listed; edges stay, and along a new one all was passed on that had been known
pub record Grows (old new : Work) : Type 0 where
  pub shaped : IsShaped new
  pub cells : length new.edges ≡ length old.edges
  pub width : length new.scratch ≡ length old.scratch
  pub gains : Gains old.known new.known
  pub edges : (from to : ℕ) → HasEdge old.edges from to → HasEdge new.edges from to
  pub passed :
      (from to : ℕ) → HasEdge new.edges from to →
      HasEdge old.edges from to ⊎ ((f : ℕ) → Holds old.known.reached from f → Holds new.known.reached to f)

-- what is new along edges is what comes along an edge, old or new
pub record AddsEdge (from to : ℕ) (old new : Work) : Type 0 where
  pub grows : Grows old new
  pub there : HasEdge new.edges from to
  pub only_edges : (a b : ℕ) → HasEdge new.edges a b → HasEdge old.edges a b ⊎ ((a ≡ from) × (b ≡ to))
  pub only :
      (c f : ℕ) → Holds new.known.reached c f →
      Holds old.known.reached c f ⊎ ((c ≡ to) × Holds old.known.reached from f)

pub record AddsEdgeIfAny (from to : Option CellId) (old new : Work) : Type 0 where
  pub grows : Grows old new
  pub there : (a b : CellId) → from ≡ Some a → to ≡ Some b → HasEdge new.edges a.0 b.0
  pub adds :
      (new ≡ old)
      ⊎ ((a : CellId) × (b : CellId) × (from ≡ Some a) × (to ≡ Some b) × AddsEdge a.0 b.0 old new)

-- what was known at a cell was passed on along its edges
pub record IsSpread (cell : ℕ) (old new : Work) : Type 0 where
  pub grows : Grows old new
  pub same : new.edges ≡ old.edges
  pub passed :
      (to f : ℕ) → HasEdge old.edges cell to → Holds old.known.reached cell f → Holds new.known.reached to f
  pub only :
      (c f : ℕ) → Holds new.known.reached c f →
      Holds old.known.reached c f ⊎ (HasEdge old.edges cell c × Holds old.known.reached cell f)
