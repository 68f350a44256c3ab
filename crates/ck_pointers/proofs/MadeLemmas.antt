-- What was made of sources still stands when more is made, one after another.
use Rattle.std.proofs.Common.{◌≡◌, ◌<◌, ◌≤◌, ℕ, Bool, true, false, List, [], ◌∷◌, ◌++◌, length, get_or, Option, Some}
use Rattle.std.proofs.Common.{None}
use Rattle.std.proofs.Common.{refl, sym, ap, ◌∙◌, subst, arith, if◌then◌else◌}
use Rattle.std.proofs.lemmas.List.Elements.{All-push}
use Rattle.std.proofs.lemmas.Bool.{and_parts, ltb-true}
use Rattle.std.specs.List.{All, slice_get, slice_index_or}
use Rattle.std.specs.Prelude.{nat_lt}
use Rattle.ck_call_rows.specs.TypedRows.{declarations}
use Rattle.ck_prog.specs.Calls.{CallSite}
use Rattle.ck_prog.specs.Slots.{Slot}
use Rattle.ck_prog.specs.Senses.{value_type}
use Rattle.ck_prog.specs.TypedBodies.{TypedFunction}
use Rattle.ck_prog.specs.TypedTrees as trees
use Rattle.ck_prog.specs.TypeClasses.{as_value}
use Rattle.ck_reaching.specs.Rules.{System, function_count}
use Rattle.ck_reaching.specs.declared.rules.CellId.{CellId}
use Rattle.ck_reaching.specs.declared.rules.KindId.{KindId}
use Rattle.ck_slots.specs.Givens.{TypedProject, Given, has_type, functions, may_be_called}
use Rattle.ck_slots.specs.Holders.{of_slot}
use Rattle.ck_slots.specs.Origins as origins
use Rattle.ck_slots.specs.Origins.{Origin, Either, Held, ResultOf, called_type, is_comma, origin, origin_of_last}
use Rattle.ck_slots.specs.Reaching.{ByResult, ByType}
use Rattle.ck_origins.specs.Meanings.{IsEmpty, Meanings, origin_at, type_at}
use Rattle.ck_origins.specs.Modelling.{Stand}
use Rattle.ck_origins.proofs.Pushes.{held_within}
use Rattle.ck_pointers.specs.ExpressionSources.{AreExtended, AreMade, AreMeant, AreOfExpressions, AreReady, IsKind}
use Rattle.ck_pointers.specs.ExpressionSources.{IsLast}
use Rattle.ck_pointers.specs.ExpressionSources.{IsLastAfter}
use Rattle.ck_pointers.specs.ExpressionSources.{StandsAlways, IsMade, IsMadeOf, IsOperand, StandWith, kind_at}
use Rattle.ck_pointers.specs.ExpressionSources.{kind_of_type, origin_of}
use Rattle.ck_pointers.specs.ExpressionSources.{project, source_through, tables, tree}
use Rattle.ck_pointers.specs.Sources.{Extends, IsEither, IsResult, IsWithin, KeepFunctions, StandsFor, StandsWith}
use Rattle.ck_pointers.specs.declared.expressions.Callables.{Callables}
use Rattle.ck_pointers.specs.declared.sources.Source.{Source}
use Rattle.ck_pointers.specs.declared.sources.Source.TheVariants.{Nowhere, Function, Cell}
use Rattle.ck_pointers.proofs.NameLemmas.{nowhere_stands}
use Rattle.ck_pointers.proofs.ResultLemmas.{extends_twice, same_meanings, stays}
use Rattle.ck_tables.specs.ExprTable.{links_below, links_of}
use Rattle.ck_tables.specs.Program.{readings, type_of}
use Rattle.ck_tables.specs.Readings.{plain_facts}
use Rattle.ck_tables.specs.Rows.{IsRow}
use Rattle.ck_tables.specs.declared.exprs.Link.{Link}
use Rattle.ck_tables.specs.declared.facts.Facts.{Facts}
use Rattle.ck_types.specs.Types.{CType}
use Rattle.ck_types.specs.declared.types.TypeId.{TypeId}

-- rules that grow -----------------------------------------------------------------------------------------------------

pub same_rules : (s : System) → AreExtended s s
same_rules s = record { cells = omega arith; functions = record { kinds = refl; callees = refl } }

pub extended_twice : (a b c : System) → AreExtended a b → AreExtended b c → AreExtended a c
extended_twice a b c one two =
    let more = one.cells in
    let again = two.cells in
    record {
      cells = omega (arith, more, again);
      functions = record {
        kinds = two.functions.kinds ∙ one.functions.kinds;
        callees = two.functions.callees ∙ one.functions.callees;
      };
    }

pub within_still : (old new : System) → AreExtended old new → (source : Source) → IsWithin old source
    → IsWithin new source
within_still old new is Nowhere within = tt
within_still old new is (Function f) within =
    subst (λ k. f.0 < k) (ap length (sym is.functions.callees)) within
within_still old new is (Cell c) within = let more = is.cells in omega (arith, within, more)

pub all_within_still : (old new : System) → AreExtended old new → (sources : List Source)
    → All (IsWithin old) sources → All (IsWithin new) sources
all_within_still old new is sources all k d below =
    within_still old new is (get_or sources k d) (all k d below)

module _ (c : Callables) where
  pub ready_still : (old new : System) → AreReady c old → AreExtended old new → AreReady c new
  ready_still old new ready is =
      let enough = ready.cells in
      let more = is.cells in
      record {
        cells = omega (arith, enough, more);
        functions = ap length is.functions.callees ∙ ready.functions;
        kinds = λ t k at. subst (λ n. k.0 < n) (ap length (sym is.functions.kinds)) (ready.kinds t k at);
      }

  -- meanings that grow ------------------------------------------------------------------------------------------------

  kind_still : (m n : Meanings) → Extends m n → (type : Option CType) (k : Option KindId)
      → IsKind (project c) m type k → IsKind (project c) n type k
  kind_still m n more type None is = is
  kind_still m n more type (Some k) is = ap (λ ks. slice_index_or ks k.0 None) more.kinds ∙ is

  pub meant_still : (m n : Meanings) → AreMeant c m → Extends m n → AreMeant c n
  meant_still m n meant more = record {
    cells = λ i s at. more.cells i (held_within m i (of_slot s) (meant.cells i s at)) ∙ meant.cells i s at;
    kinds = λ t. kind_still m n more (Some (as_value (type_of (tables c) t))) (kind_at c.kinds.now t) (meant.kinds t);
  }

  stands_still : (m n : Meanings) → Extends m n → (s : System) → s.cells ≡ length m.cells → (source : Source)
      (o : Origin) → IsWithin s source → StandsFor (project c) m source o → StandsFor (project c) n source o
  stands_still m n more s count Nowhere o within is = is
  stands_still m n more s count (Function f) o within is = is
  stands_still m n more s count (Cell k) o within is =
      more.cells k.0 (subst (λ x. k.0 < x) count within) ∙ is

  pub expressions_still : (m n : Meanings) → Extends m n → (s : System) → s.cells ≡ length m.cells
      → (sources : List Source) → All (IsWithin s) sources → AreOfExpressions c m sources
      → AreOfExpressions c n sources
  expressions_still m n more s count sources within are = record {
    each = λ i d below.
        stands_still m n more s count (get_or sources i d) (origin_of c i) (within i d below) (are.each i d below);
  }

  -- what stands always -----------------------------------------------------------------------------------------------

  pub always_made : (sources : List Source) (o : Origin) (source : Source) (s : System) → AreReady c s
      → StandsAlways c o source → IsMade c sources o source s s
  always_made sources o source s ready always = record {
    extended = same_rules s;
    within = always.within s ready;
    stands = λ given sites m meant are stand.
        stays (project c) given sites source o m s (always.stands m meant) stand;
  }

  pub always_made_of : (o : Origin) (from source : Source) (s : System) → AreReady c s → StandsAlways c o source
      → IsMadeOf c (λ x. o) from source s s
  always_made_of o from source s ready always = record {
    extended = same_rules s;
    within = always.within s ready;
    stands = λ given sites m x meant is stand.
        stays (project c) given sites source o m s (always.stands m meant) stand;
  }

  pub same_made_of : (source : Source) (s : System) → IsWithin s source → IsMadeOf c (λ x. x) source source s s
  same_made_of source s within = record {
    extended = same_rules s;
    within = within;
    stands = λ given sites m x meant is stand. stays (project c) given sites source x m s is stand;
  }

  known_at : (sources : List Source) (i : ℕ) (source : Source) (s : System) → All (IsWithin s) sources
      → i < length sources → get_or sources i Nowhere ≡ source → IsMade c sources (origin_of c i) source s s
  known_at sources i source s within below is = record {
    extended = same_rules s;
    within = subst (IsWithin s) is (within i Nowhere below);
    stands = λ given sites m meant are stand.
        stays (project c) given sites source (origin_of c i) m s
        (subst (λ x. StandsFor (project c) m x (origin_of c i)) is (are.each i Nowhere below)) stand;
  }

  pub known_made : (sources : List Source) (i : ℕ) (source : Source) (s : System) → All (IsWithin s) sources
      → IsRow sources i source → IsMade c sources (origin_of c i) source s s
  known_made sources i source s within row = known_at sources i source s within row.within (row.is Nowhere)

  -- one after the other -----------------------------------------------------------------------------------------------

  pub made_then : (sources : List Source) (o : Origin) (make : Origin → Origin) (v w : Source) (a b d : System)
      → IsMade c sources o v a b → IsMadeOf c make v w b d → IsMade c sources (make o) w a d
  made_then sources o make v w a b d one two = record {
    extended = extended_twice a b d one.extended two.extended;
    within = two.within;
    stands = λ given sites m meant are stand.
        let first = one.stands given sites m meant are stand in
        let second = two.stands given sites first.means o (meant_still m first.means meant first.extends)
        first.stands_for first.stand in
        record {
          means = second.means;
          extends = extends_twice m first.means second.means first.extends second.extends;
          stand = second.stand;
          stands_for = second.stands_for;
        };
  }

  pub either_made : (sources : List Source) (i j : ℕ) (first second source : Source) (old new : System)
      → IsRow sources i first → IsRow sources j second → IsEither first second source old new
      → IsMade c sources (Either (origin_of c i) (origin_of c j)) source old new
  either_made sources i j first second source old new at too is = record {
    extended = record { cells = is.cells; functions = is.functions };
    within = is.within;
    stands = λ given sites m meant are stand.
        is.stands (project c) given sites m (origin_of c i) (origin_of c j)
        (subst (λ x. StandsFor (project c) m x (origin_of c i)) (at.is Nowhere) (are.each i Nowhere at.within))
        (subst (λ x. StandsFor (project c) m x (origin_of c j)) (too.is Nowhere) (are.each j Nowhere too.within)) stand;
  }

  -- results -----------------------------------------------------------------------------------------------------------

  no_function : (type : Option CType) (o : Origin) → ((f : ℕ) → may_be_called (project c) type f ≡ true → ⊥)
      → IsEmpty (project c) (ResultOf type o)
  no_function type o none f (ByResult (ByType called from) at reaches) = none _ called

  untyped : (f : ℕ) → may_be_called (project c) None f ≡ true → ⊥
  untyped f is = by (slice_get (functions (project c)) f) is
    where
      by : (g : Option TypedFunction) → has_type (project c) None g ≡ true → ⊥
      by None e = absurd (cc)
      by (Some g) e = absurd (cc)

  pub no_outcome : (before : Facts) (value : Source) (s : System) → kind_of_type c.kinds.now before.type_id ≡ None
      → IsMadeOf c (ResultOf (called_type (plain_facts (readings (tables c)) before))) value Nowhere s s
  no_outcome before value s none = record {
    extended = same_rules s;
    within = tt;
    stands = λ given sites m o meant is stand.
        stays (project c) given sites Nowhere (ResultOf (called_type (plain_facts (readings (tables c)) before)) o) m s
        (no_function (called_type (plain_facts (readings (tables c)) before)) o (by before.type_id none m meant)) stand;
  }
    where
      by : (t : Option TypeId) → kind_of_type c.kinds.now t ≡ None → (m : Meanings) → AreMeant c m → (f : ℕ)
          → may_be_called (project c)
          (value_type (plain_facts (readings (tables c)) (record before { type_id = t })).sense) f ≡ true → ⊥
      by None e m meant f is = untyped f is
      by (Some t) e m meant f is =
          subst (IsKind (project c) m (Some (as_value (type_of (tables c) t.0)))) e (meant.kinds t.0) f is

  pub outcome_made : (before : Facts) (kind : KindId) (value source : Source) (old new : System)
      → kind_of_type c.kinds.now before.type_id ≡ Some kind → IsResult kind value source old new
      → IsMadeOf c (ResultOf (called_type (plain_facts (readings (tables c)) before))) value source old new
  outcome_made before kind value source old new at is = record {
    extended = record { cells = is.cells; functions = is.functions };
    within = is.within;
    stands = λ given sites m o meant from stand.
        is.stands (project c) given sites m (called_type (plain_facts (readings (tables c)) before)) o
        (by before.type_id at m meant) from stand;
  }
    where
      by : (t : Option TypeId) → kind_of_type c.kinds.now t ≡ Some kind → (m : Meanings) → AreMeant c m
          → type_at m kind.0
          ≡ value_type (plain_facts (readings (tables c)) (record before { type_id = t })).sense
      by None e m meant = absurd (cc)
      by (Some t) e m meant =
          subst (IsKind (project c) m (Some (as_value (type_of (tables c) t.0)))) e (meant.kinds t.0)

  -- chains ------------------------------------------------------------------------------------------------------------

  pub through_made : (goes : Bool) (sources : List Source) (i : ℕ) (s : System) → i < length sources
      → All (IsWithin s) sources → AreReady c s → (source : Source)
      → source ≡ source_through goes (get_or sources i Nowhere)
      → IsMade c sources (if goes then origin_of c i else origins.Nowhere) source s s
  through_made true sources i s below within ready source is = known_at sources i source s within below (sym is)
  through_made false sources i s below within ready source is =
      subst (λ x. IsMade c sources origins.Nowhere x s s) (sym is)
      (always_made sources origins.Nowhere Nowhere s ready (nowhere_stands c))

  module _ (sources : List Source) (s : System) (within : All (IsWithin s) sources) (ready : AreReady c s) where
    last_after : (o : Origin) (link : Link) (links : List Link) (source : Source)
        → links_below (length sources) (link ∷ links) ≡ true → IsLastAfter sources link links source
        → IsMade c sources
        (origin_of_last (declarations (tables c)) o (links_of (readings (tables c)) (tree c) (link ∷ links))) source s s
    last_after o link [] source below is =
        through_made (is_comma link.operator) sources link.operand.0 s
        (ltb-true link.operand.0 (length sources) (and_parts _ _ below).0) within ready source (is.is Nowhere)
    last_after o link (next ∷ links) source below is =
        last_after (if is_comma link.operator then origin_of c link.operand.0 else origins.Nowhere) next links source
        (and_parts (nat_lt link.operand.0 (length sources)) _ below).1 is

    pub chain_made : (first : ℕ) (links : List Link) (source : Source) → links_below (length sources) links ≡ true
        → IsLast sources first links source
        → IsMade c sources
        (origin_of_last (declarations (tables c)) (origin_of c first) (links_of (readings (tables c)) (tree c) links))
        source s s
    chain_made first [] source below is = known_made sources first source s within is
    chain_made first (link ∷ links) source below is = last_after (origin_of c first) link links source below is
