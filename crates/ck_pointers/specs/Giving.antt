-- How rules grow when a value is given to a holder of function pointers (docs/FLOW.md, "Targets").
use Rattle.std.specs.Prelude.{◌≡◌, ℕ, List, [], ◌∷◌, ◌++◌, Contains}
use Rattle.ck_prog.specs.Calls.{CallSite}
use Rattle.ck_reaching.specs.Rules.{System}
use Rattle.ck_slots.specs.Givens.{TypedProject, Given, givens}
use Rattle.ck_slots.specs.Origins.{Held}
use Rattle.ck_origins.specs.Meanings.{Meanings, origin_at}
use Rattle.ck_origins.specs.Modelling.{Stand}
use Rattle.ck_pointers.specs.Sources.{KeepFunctions, StandsFor}
use Rattle.ck_pointers.specs.declared.sources.Source.{Source}

-- A source was given to the holder of a cell: whatever the project gives from the source's origin to that holder counts
-- as done.
pub record IsGiven (source : Source) (cell : ℕ) (old new : System) : Type 0 where
  pub cells : new.cells ≡ old.cells
  pub functions : KeepFunctions old new
  pub stands : (p : TypedProject) (given : List Given) (sites : List CallSite) (fed : ℕ) (m : Meanings) (g : Given)
      → Contains (givens p) g → StandsFor p m source g.from → origin_at m cell ≡ Held g.to
      → Stand p given sites fed m old → Stand p (given ++ (g ∷ [])) sites fed m new
