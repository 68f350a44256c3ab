-- What is given once all that comes from its source was brought to the cell of its holder.
use Rattle.std.proofs.Common.{◌≡◌, ℕ, List, [], ◌∷◌, ◌++◌, sym, subst}
use Rattle.ck_prog.specs.Calls.{CallSite}
use Rattle.ck_reaching.specs.Rules.{System}
use Rattle.ck_slots.specs.Givens.{TypedProject, Given, givens}
use Rattle.ck_slots.specs.Origins.{Held}
use Rattle.std.specs.List.{Contains}
use Rattle.ck_origins.specs.Covering.{Arrives, Brings}
use Rattle.ck_origins.specs.Following.{Feeds, ToHolder}
use Rattle.ck_origins.specs.Meanings.{Meanings, origin_at}
use Rattle.ck_origins.specs.Modelling.{Stand}
use Rattle.ck_origins.proofs.Growing.{given_is_done}
use Rattle.ck_pointers.specs.Giving.{IsGiven}
use Rattle.ck_pointers.specs.Sources.{IsBrought, StandsFor}
use Rattle.ck_pointers.specs.declared.sources.Source.{Source}

module _ (source : Source) (cell : ℕ) (old new : System) (brought : IsBrought source cell old new) where
  given_stands : (p : TypedProject) (given : List Given) (sites : List CallSite) (fed : ℕ) (m : Meanings) (g : Given)
      → Contains (givens p) g → StandsFor p m source g.from → origin_at m cell ≡ Held g.to
      → Stand p given sites fed m old → Stand p (given ++ (g ∷ [])) sites fed m new
  given_stands p given sites fed m g there from at stand =
      let feeds : Feeds p g.from (origin_at m cell) = subst (Feeds p g.from) (sym at) (ToHolder g there) in
      let once = brought.stands p given sites fed m g.from from feeds stand in
      let arrives : Arrives p m new g =
      λ other is. subst (Brings p m new g.from) (stand.follow.holders cell other g.to at is)
      (brought.brings p m g.from from) in
      given_is_done p given sites fed m new once g arrives

  pub given_by_bringing : IsGiven source cell old new
  given_by_bringing = record {
    cells = brought.cells;
    functions = brought.functions;
    stands = given_stands;
  }
