-- What rules say of sources as they are used.
use Rattle.std.proofs.Common.{◌≡◌, ◌<◌, ◌≤◌, ℕ, true, List, [], ◌∷◌, ◌++◌, length, get_or, refl, sym, ap, ◌∙◌, subst}
use Rattle.std.proofs.Common.{arith, length-append}
use Rattle.std.proofs.lemmas.List.Elements.{Contains-push}
use Rattle.std.proofs.lemmas.Option.{same_Some}
use Rattle.ck_base.specs.declared.spans.FnId.{FnId}
use Rattle.ck_prog.specs.Calls.{CallSite}
use Rattle.ck_reaching.specs.Rules.{System, IsInRange, function_count}
use Rattle.ck_reaching.specs.declared.rules.CellId.{CellId}
use Rattle.ck_reaching.specs.declared.rules.Flows.{Flows}
use Rattle.ck_reaching.specs.declared.rules.Names.{Names}
use Rattle.ck_slots.specs.Givens.{TypedProject, Given}
use Rattle.ck_slots.specs.Origins as origins
use Rattle.ck_slots.specs.Origins.{Origin, Named, Held, Either}
use Rattle.ck_slots.specs.Reaching.{ByFirst, BySecond}
use Rattle.ck_origins.specs.Covering.{Brings, IsFed, IsNamed, Needless, OfName, AlongFlow}
use Rattle.ck_origins.specs.Following.{Feeds, ToFirst, ToSecond}
use Rattle.ck_origins.specs.Meanings.{IsEmpty, IsNoHolder, Meanings, origin_at}
use Rattle.ck_origins.specs.Modelling.{Stand}
use Rattle.ck_origins.specs.Steps.{Grow, with_cell, with_flow, with_name, with_origin}
use Rattle.ck_origins.proofs.Growing.{bringing_stays, cell_is_added, cell_is_done, flow_is_added, name_is_added}
use Rattle.ck_origins.proofs.Pushes.{get_or_left, grow_flow, grow_name}
use Rattle.ck_pointers.specs.Sources.{Extends, IsBrought, IsEither, IsWithin, KeepFunctions, StandsFor, StandsWith}
use Rattle.ck_pointers.specs.Sources.{give_nothing}
use Rattle.ck_pointers.specs.declared.sources.Source.{Source}
use Rattle.ck_pointers.specs.declared.sources.Source.TheVariants.{Nowhere, Function, Cell}

-- what is brought ----------------------------------------------------------------------------------------------------

pub brought_nothing : (cell : ℕ) (s : System) → IsBrought Nowhere cell s s
brought_nothing cell s = record {
  cells = refl;
  functions = record { kinds = refl; callees = refl };
  grow = record { names = λ x there. there; flows = λ x there. there; calls = λ x there. there };
  stands = λ p given sites fed m o empty feeds stand. stand;
  brings = λ p m o empty. Needless empty;
}

abbrev pub name_there : FnId → CellId → Names
name_there f cell = record { function = f; to = cell }

abbrev pub flow_there : CellId → CellId → Flows
flow_there from cell = record { from = from; to = cell }

name_brings : (p : TypedProject) (m : Meanings) (s : System) (f : FnId) (cell : CellId) (o : Origin)
    → StandsFor p m (Function f) o → Brings p m (with_name s (name_there f cell)) o cell.0
name_brings p m s f cell o (e, is, number) =
    subst (λ x. Brings p m (with_name s (name_there f cell)) x cell.0) (sym is)
    (OfName (λ g same. record {
      name = name_there f cell;
      there = Contains-push s.names (name_there f cell);
      function = same_Some f.0 g (sym number ∙ same);
      to = refl;
    }))

pub brought_name : (f : FnId) (cell : CellId) (s : System)
    → IsBrought (Function f) cell.0 s (with_name s (name_there f cell))
brought_name f cell s = record {
  cells = refl;
  functions = record { kinds = refl; callees = refl };
  grow = grow_name s (name_there f cell);
  stands = λ p given sites fed m o is feeds stand.
      name_is_added p given sites fed m s stand (name_there f cell)
      (record { function = is.0; number = is.2; feeds = subst (λ x. Feeds p x (origin_at m cell.0)) is.1 feeds });
  brings = λ p m o is. name_brings p m s f cell o is;
}

pub brought_flow : (from cell : CellId) (s : System)
    → IsBrought (Cell from) cell.0 s (with_flow s (flow_there from cell))
brought_flow from cell s = record {
  cells = refl;
  functions = record { kinds = refl; callees = refl };
  grow = grow_flow s (flow_there from cell);
  stands = λ p given sites fed m o is feeds stand.
      flow_is_added p given sites fed m s stand (flow_there from cell)
      (subst (λ x. Feeds p x (origin_at m cell.0)) (sym is) feeds);
  brings = λ p m o is. AlongFlow (record {
    flow = flow_there from cell;
    there = Contains-push s.flows (flow_there from cell);
    from = is;
    to = refl;
  });
}

-- either of two ------------------------------------------------------------------------------------------------------

no_holder : (a b : Origin) → IsNoHolder (Either a b)
no_holder a b h is = absurd (cc)

pub at_end : (os : List Origin) (o d : Origin) → get_or (os ++ (o ∷ [])) (length os) d ≡ o
at_end [] o d = refl
at_end (x ∷ os) o d = at_end os o d

stands_still : (p : TypedProject) (m : Meanings) (new : Origin) (s : System) (source : Source) (o : Origin)
    → s.cells ≡ length m.cells → IsWithin s source → StandsFor p m source o → StandsFor p (with_origin m new) source o
stands_still p m new s Nowhere o count within is = is
stands_still p m new s (Function f) o count within is = is
stands_still p m new s (Cell c) o count within is =
    get_or_left m.cells (new ∷ []) c.0 origins.Nowhere (subst (λ k. c.0 < k) count within) ∙ is

pub extends : (m : Meanings) (o : Origin) → Extends m (with_origin m o)
extends m o = record {
  more = omega (arith, length-append m.cells (o ∷ []));
  cells = λ c below. get_or_left m.cells (o ∷ []) c origins.Nowhere below;
  kinds = refl;
}

module _ (first second : Source) (cell : CellId) (old mid new : System) (inside : IsInRange old)
    (number : cell.0 ≡ old.cells) (within_first : IsWithin old first) (within_second : IsWithin old second)
    (one : IsBrought first cell.0 (with_cell old) mid) (two : IsBrought second cell.0 mid new) where
  stands : (p : TypedProject) (given : List Given) (sites : List CallSite) (m : Meanings) (a b : Origin)
      → StandsFor p m first a → StandsFor p m second b → Stand p given sites old.cells m old
      → StandsWith p given sites (Cell cell) (Either a b) m new
  stands p given sites m a b is_first is_second stand =
      let n = with_origin m (Either a b) in
      let count : old.cells ≡ length m.cells = stand.follow.cell_count in
      let at : origin_at n cell.0 ≡ Either a b =
      ap (origin_at n) (number ∙ count) ∙ at_end m.cells (Either a b) origins.Nowhere in
      let from = stands_still p m (Either a b) old first a count within_first is_first in
      let or_from = stands_still p m (Either a b) old second b count within_second is_second in
      let added = cell_is_added p given sites old.cells m old stand inside (omega arith) (Either a b) (no_holder a b) in
      let once = one.stands p given sites old.cells n a from (subst (Feeds p a) (sym at) ToFirst) added in
      let twice = two.stands p given sites old.cells n b or_from (subst (Feeds p b) (sym at) ToSecond) once in
      let fed : IsFed p n new (Either a b) cell.0 =
      (bringing_stays p n mid new two.grow a cell.0 (one.brings p n a from), two.brings p n b or_from) in
      let done = cell_is_done p given sites old.cells n new twice
      (subst (λ c. IsFed p n new (origin_at n c) c) number (subst (λ o. IsFed p n new o cell.0) (sym at) fed)) in
      record {
        means = n;
        extends = extends m (Either a b);
        stand = subst (λ k. Stand p given sites k n new) (sym (two.cells ∙ one.cells)) done;
        stands_for = at;
      }

  pub either_cell : IsEither first second (Cell cell) old new
  either_cell = record {
    cells = omega (arith, one.cells, two.cells);
    functions = record {
      kinds = two.functions.kinds ∙ one.functions.kinds;
      callees = two.functions.callees ∙ one.functions.callees;
    };
    within = omega (arith, number, one.cells, two.cells);
    stands = stands;
  }

neither : (p : TypedProject) (a b : Origin) → IsEmpty p a → IsEmpty p b → IsEmpty p (Either a b)
neither p a b none no_more f (ByFirst from) = none f from
neither p a b none no_more f (BySecond from) = no_more f from

pub either_nothing : (first second : Source) (s : System) → give_nothing first second ≡ true
    → IsEither first second Nowhere s s
either_nothing Nowhere Nowhere s is = record {
  cells = omega arith;
  functions = record { kinds = refl; callees = refl };
  within = tt;
  stands = λ p given sites m a b none no_more stand. record {
    means = m;
    extends = record { more = omega arith; cells = λ c below. refl; kinds = refl };
    stand = stand;
    stands_for = neither p a b none no_more;
  };
}
either_nothing _ _ s is = absurd (cc)
