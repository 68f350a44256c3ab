-- Cells of sources, and the results of calls of what comes from them.
use Rattle.std.proofs.Common.{◌≡◌, ◌<◌, ◌≤◌, ℕ, List, [], ◌∷◌, length, Option, Some, None, refl, sym, ap, ap₂, ◌∙◌}
use Rattle.std.proofs.Common.{subst, arith}
use Rattle.std.proofs.lemmas.List.Elements.{Contains-push}
use Rattle.std.proofs.lemmas.Option.{none-some, same_Some}
use Rattle.std.specs.List.{slice_get, slice_index_or}
use Rattle.ck_base.specs.declared.spans.FnId.{FnId}
use Rattle.ck_prog.specs.Calls.{CallSite, function_number}
use Rattle.ck_prog.specs.Declarations.{Entry}
use Rattle.ck_reaching.specs.Rules.{System, IsInRange}
use Rattle.ck_reaching.specs.declared.rules.Call.{Call}
use Rattle.ck_reaching.specs.declared.rules.CellId.{CellId}
use Rattle.ck_reaching.specs.declared.rules.KindId.{KindId}
use Rattle.ck_slots.specs.Givens.{TypedProject, Given, functions}
use Rattle.ck_slots.specs.Holders.{Holder}
use Rattle.ck_slots.specs.Origins as origins
use Rattle.ck_slots.specs.Origins.{Origin, Named, Held, ResultOf}
use Rattle.ck_slots.specs.Reaching.{ByResult, ByType}
use Rattle.ck_origins.specs.Covering.{HasResult, IsFed, IsNamed}
use Rattle.ck_origins.specs.Following.{CallFollows, Feeds, Itself}
use Rattle.ck_origins.specs.Meanings.{IsEmpty, IsNoHolder, Meanings, origin_at, type_at}
use Rattle.ck_origins.specs.Modelling.{Stand}
use Rattle.ck_origins.specs.Steps.{with_call, with_cell, with_name, with_origin}
use Rattle.ck_origins.proofs.Growing.{call_is_added, cell_is_added, cell_is_done, name_is_added}
use Rattle.ck_origins.proofs.Pushes.{get_or_left}
use Rattle.ck_pointers.specs.Sources.{Extends, IsCellOf, IsResult, IsWithin, StandsFor, StandsWith, source_of_cell}
use Rattle.ck_pointers.specs.declared.sources.Source.{Source}
use Rattle.ck_pointers.specs.declared.sources.Source.TheVariants.{Nowhere, Function, Cell}
use Rattle.ck_pointers.proofs.SourceLemmas.{at_end, extends, name_there}
use Rattle.ck_types.specs.Types.{CType}

-- meanings that stay, and that grow twice -----------------------------------------------------------------------------

pub same_meanings : (m : Meanings) → Extends m m
same_meanings m = record { more = omega arith; cells = λ c below. refl; kinds = refl }

pub extends_twice : (m n k : Meanings) → Extends m n → Extends n k → Extends m k
extends_twice m n k one two =
    let more = one.more in
    let again = two.more in
    record {
      more = omega (arith, more, again);
      cells = λ c below. two.cells c (omega (arith, below, more)) ∙ one.cells c below;
      kinds = two.kinds ∙ one.kinds;
    }

pub stays : (p : TypedProject) (given : List Given) (sites : List CallSite) (source : Source) (o : Origin)
    (m : Meanings) (s : System) → StandsFor p m source o → Stand p given sites s.cells m s
    → StandsWith p given sites source o m s
stays p given sites source o m s is stand =
    record { means = m; extends = same_meanings m; stand = stand; stands_for = is }

-- cells of sources ----------------------------------------------------------------------------------------------------

pub cell_of_nowhere : (s : System) → IsCellOf Nowhere None s s
cell_of_nowhere s = record {
  cells = omega arith;
  functions = record { kinds = refl; callees = refl };
  within = tt;
  stands = λ p given sites m o is stand. stays p given sites Nowhere o m s is stand;
}

pub cell_of_cell : (cell : CellId) (s : System) → IsWithin s (Cell cell) → IsCellOf (Cell cell) (Some cell) s s
cell_of_cell cell s within = record {
  cells = omega arith;
  functions = record { kinds = refl; callees = refl };
  within = within;
  stands = λ p given sites m o is stand. stays p given sites (Cell cell) o m s is stand;
}

named_no_holder : (e : Entry) (o : Origin) → o ≡ Named e → IsNoHolder o
named_no_holder e o is h held = absurd (cc)

module _ (f : FnId) (cell : CellId) (old : System) (inside : IsInRange old) (number : cell.0 ≡ old.cells) where
  new : System
  new = with_name (with_cell old) (name_there f cell)

  function_stands : (p : TypedProject) (given : List Given) (sites : List CallSite) (m : Meanings) (o : Origin)
      → StandsFor p m (Function f) o → Stand p given sites old.cells m old
      → StandsWith p given sites (Cell cell) o m (with_name (with_cell old) (name_there f cell))
  function_stands p given sites m o (e, is, numbered) stand =
      let n = with_origin m o in
      let s = with_name (with_cell old) (name_there f cell) in
      let at : origin_at n cell.0 ≡ o =
      ap (origin_at n) (number ∙ stand.follow.cell_count) ∙ at_end m.cells o origins.Nowhere in
      let added = cell_is_added p given sites old.cells m old stand inside (omega arith) o (named_no_holder e o is) in
      let once = name_is_added p given sites old.cells n (with_cell old) added (name_there f cell)
      (record {
        function = e;
        number = numbered;
        feeds = subst (λ x. Feeds p (Named e) x) (sym (at ∙ is)) Itself;
      }) in
      let fed : IsFed p n s (Named e) cell.0 =
      λ g same. record {
        name = name_there f cell;
        there = Contains-push old.names (name_there f cell);
        function = same_Some f.0 g (sym numbered ∙ same);
        to = refl;
      } in
      let done = cell_is_done p given sites old.cells n s once
      (subst (λ c. IsFed p n s (origin_at n c) c) number (subst (λ x. IsFed p n s x cell.0) (sym (at ∙ is)) fed)) in
      record { means = n; extends = extends m o; stand = done; stands_for = at }

  pub cell_of_name : IsCellOf (Function f) (Some cell) old (with_name (with_cell old) (name_there f cell))
  cell_of_name = record {
    cells = omega arith;
    functions = record { kinds = refl; callees = refl };
    within = omega (arith, number);
    stands = function_stands;
  }

-- results -------------------------------------------------------------------------------------------------------------

nothing_at : {X : Type 0} (xs : List X) (i : ℕ) (x : X) → xs ≡ [] → slice_get xs i ≡ Some x → ⊥
nothing_at xs i x none is = none-some x (sym (ap (λ ys. slice_get ys i) none) ∙ is)

result_no_holder : (type : Option CType) (o : Origin) → IsNoHolder (ResultOf type o)
result_no_holder type o h is = absurd (cc)

module _ (call : Call) (cell : CellId) (old : System) (inside : IsInRange old) (number : cell.0 ≡ old.cells)
    (called : call.called.0 < old.cells) (none : call.arguments.items ≡ []) (gives : call.result ≡ Some cell) where
  call_follows : (p : TypedProject) (n : Meanings) (type : Option CType) (o : Origin)
      → origin_at n cell.0 ≡ ResultOf type o → type_at n call.kind.0 ≡ type → origin_at n call.called.0 ≡ o
      → CallFollows p n call
  call_follows p n type o at kind from = record {
    arguments = λ place c there. absurd (nothing_at call.arguments.items place (Some c) none there);
    outcome = λ c is. ap (λ x. origin_at n x.0) (same_Some c cell (sym is ∙ gives))
        ∙ (at ∙ ap₂ ResultOf (sym kind) (sym from));
  }

  result_stands : (p : TypedProject) (given : List Given) (sites : List CallSite) (m : Meanings)
      (type : Option CType) (o : Origin) → type_at m call.kind.0 ≡ type → StandsFor p m (Cell call.called) o
      → Stand p given sites old.cells m old
      → StandsWith p given sites (Cell cell) (ResultOf type o) m (with_call (with_cell old) call)
  result_stands p given sites m type o kind is stand =
      let n = with_origin m (ResultOf type o) in
      let s = with_call (with_cell old) call in
      let count : old.cells ≡ length m.cells = stand.follow.cell_count in
      let at : origin_at n cell.0 ≡ ResultOf type o =
      ap (origin_at n) (number ∙ count) ∙ at_end m.cells (ResultOf type o) origins.Nowhere in
      let from : origin_at n call.called.0 ≡ o =
      get_or_left m.cells (ResultOf type o ∷ []) call.called.0 origins.Nowhere
      (subst (λ k. call.called.0 < k) count called) ∙ is in
      let added = cell_is_added p given sites old.cells m old stand inside (omega arith) (ResultOf type o)
      (result_no_holder type o) in
      let once = call_is_added p given sites old.cells n (with_cell old) added call
      (call_follows p n type o at kind from) in
      let fed : IsFed p n s (ResultOf type o) cell.0 =
      record {
        call = call;
        there = Contains-push old.calls call;
        kind = kind;
        from = from;
        outcome = (cell, gives, refl);
      } in
      let done = cell_is_done p given sites old.cells n s once
      (subst (λ c. IsFed p n s (origin_at n c) c) number (subst (λ x. IsFed p n s x cell.0) (sym at) fed)) in
      record { means = n; extends = extends m (ResultOf type o); stand = done; stands_for = at }

  pub result_of_call : IsResult call.kind (Cell call.called) (Cell cell) old (with_call (with_cell old) call)
  result_of_call = record {
    cells = omega arith;
    functions = record { kinds = refl; callees = refl };
    within = omega (arith, number);
    stands = result_stands;
  }

pub no_result : (p : TypedProject) (type : Option CType) (o : Origin) → IsEmpty p o → IsEmpty p (ResultOf type o)
no_result p type o none f (ByResult (ByType called from) at reaches) = none _ from

pub result_of_nothing : (kind : KindId) (called : Source) (old s : System) → IsCellOf called None old s
    → IsResult kind called Nowhere old s
result_of_nothing kind called old s is = record {
  cells = is.cells;
  functions = is.functions;
  within = tt;
  stands = λ p given sites m type o kind_is from stand.
      let one = is.stands p given sites m o from stand in
      record {
        means = one.means;
        extends = one.extends;
        stand = one.stand;
        stands_for = no_result p type o one.stands_for;
      };
}

module _ (kind : KindId) (called result : Source) (cell : CellId) (old mid new : System)
    (one : IsCellOf called (Some cell) old mid) (two : IsResult kind (Cell cell) result mid new) where
  both_stand : (p : TypedProject) (given : List Given) (sites : List CallSite) (m : Meanings) (type : Option CType)
      (o : Origin) → type_at m kind.0 ≡ type → StandsFor p m called o → Stand p given sites old.cells m old
      → StandsWith p given sites result (ResultOf type o) m new
  both_stand p given sites m type o kind_is from stand =
      let first = one.stands p given sites m o from stand in
      let n = first.means in
      let still : type_at n kind.0 ≡ type = ap (λ ks. slice_index_or ks kind.0 None) first.extends.kinds ∙ kind_is in
      let then_result = two.stands p given sites n type o still first.stands_for first.stand in
      record {
        means = then_result.means;
        extends = extends_twice m n then_result.means first.extends then_result.extends;
        stand = then_result.stand;
        stands_for = then_result.stands_for;
      }

  pub result_of_cell : IsResult kind called result old new
  result_of_cell =
      let less = one.cells in
      let more = two.cells in
      record {
        cells = omega (arith, less, more);
        functions = record {
          kinds = two.functions.kinds ∙ one.functions.kinds;
          callees = two.functions.callees ∙ one.functions.callees;
        };
        within = two.within;
        stands = both_stand;
      }
