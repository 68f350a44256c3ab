-- Rows of suffixes, and the sources of one expression more.
use Rattle.std.proofs.Common.{◌≡◌, ◌<◌, ◌≤◌, ◌+◌, ℕ, zero, suc, Bool, true, false, List, [], ◌∷◌, ◌++◌, length}
use Rattle.std.proofs.Common.{get_or, drop, Option, Some, None, refl, sym, ap, ◌∙◌, subst, arith}
use Rattle.std.proofs.lemmas.List.{drop_more, drop_all}
use Rattle.std.proofs.lemmas.List.Elements.{All-push}
use Rattle.std.proofs.lemmas.Bool.{and_parts, ltb-true}
use Rattle.std.proofs.lemmas.Option.{none-some, same_Some}
use Rattle.std.specs.List.{All, list_all, slice_get}
use Rattle.std.specs.Prelude.{◌&&◌, ◌-◌, nat_lt}
use Rattle.std.specs.declared.alloc.Global.{Global}
use Rattle.std.specs.declared.vec.Vec.{Vec}
use Rattle.ck_call_rows.specs.TypedRows.{declarations}
use Rattle.ck_prog.specs.Calls.{CallSite}
use Rattle.ck_prog.specs.TypedTrees as trees
use Rattle.ck_reaching.specs.Rules.{System}
use Rattle.ck_slots.specs.Givens.{Given}
use Rattle.ck_slots.specs.Origins.{Origin, origin, origin_after}
use Rattle.ck_origins.specs.Meanings.{Meanings}
use Rattle.ck_pointers.specs.ExpressionSources.{AreExtended, AreMade, AreMeant, AreOfExpressions, IsMade, IsMadeOf}
use Rattle.ck_pointers.specs.ExpressionSources.{Leads}
use Rattle.ck_pointers.specs.ExpressionSources.{StandWith}
use Rattle.ck_pointers.specs.ExpressionSources.{IsLast, IsLastAfter, IsOperand}
use Rattle.ck_pointers.specs.ExpressionSources.{after_suffix, calls_by_names, origin_of, origin_of_row, project}
use Rattle.ck_pointers.specs.ExpressionSources.{rows_call_functions, suffixes, tables, tree, tree_of_node}
use Rattle.ck_pointers.specs.Sources.{IsWithin, StandsFor}
use Rattle.ck_pointers.specs.TypedSlots.{is_function_if_any}
use Rattle.ck_pointers.specs.declared.expressions.Callables.{Callables}
use Rattle.ck_pointers.specs.declared.sources.Source.{Source}
use Rattle.ck_pointers.proofs.MadeLemmas.{all_within_still, expressions_still, extended_twice, made_then, meant_still}
use Rattle.ck_pointers.proofs.ResultLemmas.{extends_twice}
use Rattle.ck_tables.specs.ExprFacts.{HasFacts, step_facts}
use Rattle.ck_tables.specs.ExprTable.{IsNode, links_below}
use Rattle.ck_tables.specs.Program.{readings}
use Rattle.ck_tables.specs.Numbers.{Numbers, entry_fits, expression_fits, expression_node_fits, facts_fit}
use Rattle.ck_tables.specs.Numbers.{fits_if_any, step_fits}
use Rattle.ck_tables.specs.Readings.{plain_facts, plain_entry}
use Rattle.ck_tables.specs.Rows.{IsRow}
use Rattle.ck_tables.specs.declared.exprs.ExprNode.{ExprNode}
use Rattle.ck_tables.specs.declared.exprs.ExprNode.TheVariants as nodes
use Rattle.ck_tables.specs.declared.exprs.ExprId.{ExprId}
use Rattle.ck_tables.specs.declared.exprs.Link.{Link}
use Rattle.ck_tables.specs.declared.facts.EntryId.{EntryId}
use Rattle.ck_tables.specs.declared.exprs.Step.{Step}
use Rattle.ck_tables.specs.declared.exprs.Step.TheVariants as steps
use Rattle.ck_tables.specs.declared.facts.Facts.{Facts}

-- an element of a list of which all pass a test
pub holds_at : {X : Type 0} (test : X → Bool) (all : List X → Bool)
    → ((x : X) (xs : List X) → all (x ∷ xs) ≡ (test x && all xs)) → (xs : List X) (i : ℕ) (x : X) → all xs ≡ true
    → i < length xs → x ≡ get_or xs i x → test x ≡ true
holds_at test all next [] i x h low is = absurd (omega arith)
holds_at test all next (y ∷ xs) zero x h low is =
    ap test is ∙ (and_parts (test y) (all xs) (sym (next y xs) ∙ h)).0
holds_at test all next (y ∷ xs) (suc i) x h low is =
    holds_at test all next xs i x (and_parts (test y) (all xs) (sym (next y xs) ∙ h)).1 (omega arith) is

known_push : {X : Type 0} (P : ℕ → X → Type 0) (xs : List X) (x : X)
    → ((i : ℕ) (d : X) → i < length xs → P i (get_or xs i d)) → P (length xs) x
    → (i : ℕ) (d : X) → i < length (xs ++ (x ∷ [])) → P i (get_or (xs ++ (x ∷ [])) i d)
known_push P [] x each here zero d h = here
known_push P [] x each here (suc i) d h = absurd (omega arith)
known_push P (y ∷ xs) x each here zero d h = each zero d (omega arith)
known_push P (y ∷ xs) x each here (suc i) d h =
    known_push (λ j z. P (suc j) z) xs x (λ j e k. each (suc j) e (omega arith)) here i d (omega arith)

drop_next : {X : Type 0} (xs : List X) (i : ℕ) (x : X) → i < length xs → x ≡ get_or xs i x
    → drop i xs ≡ x ∷ drop (i + 1) xs
drop_next xs i x h is = drop_more xs i x h ∙ ap (λ y. y ∷ drop (i + 1) xs) (sym is)

-- the last operator of a chain ---------------------------------------------------------------------------------------

last_of : {X : Type 0} (x y : X) (xs : List X) (z : X) → slice_get (x ∷ (y ∷ xs)) (length (x ∷ (y ∷ xs)) - 1) ≡ Some z
    → slice_get (y ∷ xs) (length (y ∷ xs) - 1) ≡ Some z
last_of x y xs z h =
    let e : length (x ∷ (y ∷ xs)) - 1 ≡ suc (length (y ∷ xs) - 1) = omega arith in
    subst (λ k. slice_get (x ∷ (y ∷ xs)) k ≡ Some z) e h

one_of : {X : Type 0} (x z : X) → slice_get (x ∷ []) (length (x ∷ []) - 1) ≡ Some z → x ≡ z
one_of x z h =
    let e : length (x ∷ []) - 1 ≡ 0 = omega arith in
    same_Some x z (subst (λ k. slice_get (x ∷ []) k ≡ Some z) e h)

operand_after : (sources : List Source) (l : Link) (ls : List Link) (link : Link) (source : Source)
    → slice_get (l ∷ ls) (length (l ∷ ls) - 1) ≡ Some link → IsOperand sources link source
    → IsLastAfter sources l ls source
operand_after sources l [] link source at is = subst (λ x. IsOperand sources x source) (sym (one_of l link at)) is
operand_after sources l (m ∷ ls) link source at is =
    operand_after sources m ls link source (last_of l m ls link at) is

pub last_operand_is : (sources : List Source) (first : ℕ) (links : List Link) (link : Link) (source : Source)
    → slice_get links (length links - 1) ≡ Some link → IsOperand sources link source
    → IsLast sources first links source
last_operand_is sources first [] link source at is = absurd (none-some link at)
last_operand_is sources first (l ∷ ls) link source at is = operand_after sources l ls link source at is

pub last_below : (limit : ℕ) (links : List Link) (link : Link) → links_below limit links ≡ true
    → slice_get links (length links - 1) ≡ Some link → link.operand.0 < limit
last_below limit [] link below at = absurd (none-some link at)
last_below limit (l ∷ []) link below at =
    subst (λ x. x.operand.0 < limit) (one_of l link at)
    (ltb-true l.operand.0 limit (and_parts (nat_lt l.operand.0 limit) true below).0)
last_below limit (l ∷ (m ∷ ls)) link below at =
    last_below limit (m ∷ ls) link (and_parts (nat_lt l.operand.0 limit) (links_below limit (m ∷ ls)) below).1
    (last_of l m ls link at)

pub first_is : (sources : List Source) (first : ℕ) (links : List Link) (source : Source) → links ≡ []
    → IsRow sources first source → IsLast sources first links source
first_is sources first links source none is = subst (λ ls. IsLast sources first ls source) (sym none) is

-- nodes ---------------------------------------------------------------------------------------------------------------

module _ (n : Numbers) where
  pub name_fits : (facts : Facts) (entry : Option EntryId) → expression_node_fits n (nodes.Name facts entry) ≡ true
      → fits_if_any (entry_fits n) entry ≡ true
  unfolding expression_node_fits
  name_fits facts entry h = (and_parts (facts_fit n facts) (fits_if_any (entry_fits n) entry) h).1

  pub row_fits : (primary : ExprId) (row : Vec Step Global) → expression_node_fits n (nodes.Postfix primary row) ≡ true
      → list_all (step_fits n) row.items ≡ true
  unfolding expression_node_fits
  row_fits primary row h = (and_parts (expression_fits n primary) (list_all (step_fits n) row.items) h).1

module _ (c : Callables) where
  -- suffixes ----------------------------------------------------------------------------------------------------------

  true_and_true : (a b : Bool) → (a && b) ≡ ((a && true) && b)
  true_and_true true b = refl
  true_and_true false b = refl

  pub call_next : (s : Step) (ss : List Step)
      → rows_call_functions c (s ∷ ss) ≡ (calls_by_names c s && rows_call_functions c ss)
  call_next (steps.Index opening x f) ss = refl
  call_next (steps.Call opening function es f) ss =
      true_and_true (is_function_if_any (plain_entry (readings (tables c)) function)) (rows_call_functions c ss)
  call_next (steps.Access is_dot name m f) ss = refl
  call_next (steps.PostIncrement t op f) ss = refl

  origin_next : (before : Facts) (o : Origin) (s : Step) (ss : List Step)
      → origin_after (declarations (tables c)) (plain_facts (readings (tables c)) before) o (suffixes c (s ∷ ss))
      ≡ origin_after (declarations (tables c)) (plain_facts (readings (tables c)) (step_facts s))
      (after_suffix c before s o) (suffixes c ss)
  origin_next before o (steps.Index opening x f) ss = refl
  origin_next before o (steps.Call opening function es f) ss = refl
  origin_next before o (steps.Access is_dot name m f) ss = refl
  origin_next before o (steps.PostIncrement t op f) ss = refl

  pub leads_first : (sources : List Source) (value : Source) (before : Facts) (i : ℕ) (row : List Step) (s : System)
      → IsMade c sources (origin_of c i) value s s → HasFacts (tables c).exprs i before
      → Leads c sources value before row (origin_of_row c i row) s s
  leads_first sources value before i row s made facts = record {
    origin = origin_of c i;
    made = made;
    leads = ap (λ f. origin_after (declarations (tables c)) f (origin_of c i) (suffixes c row))
        (sym (facts.are (readings (tables c))));
  }

  pub leads_next : (sources : List Source) (value after : Source) (before : Facts) (row : List Step) (i : ℕ) (s : Step)
      (all : Origin) (old mid new : System) → i < length row → s ≡ get_or row i s
      → Leads c sources value before (drop i row) all old mid → IsMadeOf c (after_suffix c before s) value after mid new
      → Leads c sources after (step_facts s) (drop (i + 1) row) all old new
  leads_next sources value after before row i s all old mid new below at leads made = record {
    origin = after_suffix c before s leads.origin;
    made = made_then c sources leads.origin (after_suffix c before s) value after old mid new leads.made made;
    leads = sym (origin_next before leads.origin s (drop (i + 1) row))
        ∙ (ap (λ ss. origin_after (declarations (tables c)) (plain_facts (readings (tables c)) before) leads.origin
        (suffixes c ss)) (sym (drop_next row i s below at)) ∙ leads.leads);
  }

  pub leads_last : (sources : List Source) (value : Source) (before : Facts) (row : List Step) (i : ℕ) (all : Origin)
      (old new : System) → length row ≤ i → Leads c sources value before (drop i row) all old new
      → IsMade c sources all value old new
  leads_last sources value before row i all old new past leads =
      subst (λ o. IsMade c sources o value old new)
      (ap (λ ss. origin_after (declarations (tables c)) (plain_facts (readings (tables c)) before) leads.origin
      (suffixes c ss)) (sym (drop_all i row past)) ∙ leads.leads) leads.made

  -- one expression more -----------------------------------------------------------------------------------------------

  pub made_none : (sources : List Source) (s : System) → All (IsWithin s) sources → AreMade c sources sources s s
  made_none sources s within = record {
    extended = record { cells = omega arith; functions = record { kinds = refl; callees = refl } };
    within = within;
    stands = λ given sites m meant are stand. record {
      means = m;
      extends = record { more = omega arith; cells = λ k below. refl; kinds = refl };
      stand = stand;
      sources_are = are;
    };
  }

  module _ (before now : List Source) (source : Source) (node : ExprNode) (old mid new : System)
      (are : AreMade c before now old mid) (there : IsNode (tables c).exprs (length now) node)
      (made : IsMade c now (origin (declarations (tables c)) (tree_of_node c node)) source mid new) where
    is_of : origin (declarations (tables c)) (tree_of_node c node) ≡ origin_of c (length now)
    is_of = ap (origin (declarations (tables c))) (sym (there.tree (readings (tables c))))

    pub made_more : AreMade c before (now ++ (source ∷ [])) old new
    made_more = record {
      extended = extended_twice old mid new are.extended made.extended;
      within = All-push (IsWithin new) now source (all_within_still mid new made.extended now are.within) made.within;
      stands = λ given sites m meant of_before stand.
          let first = are.stands given sites m meant of_before stand in
          let second = made.stands given sites first.means (meant_still c m first.means meant first.extends)
          first.sources_are first.stand in
          let still = expressions_still c first.means second.means second.extends mid
          first.stand.follow.cell_count now are.within first.sources_are in
          record {
            means = second.means;
            extends = extends_twice m first.means second.means first.extends second.extends;
            stand = second.stand;
            sources_are = record {
              each = known_push (λ i x. StandsFor (project c) second.means x (origin_of c i)) now source still.each
                  (subst (StandsFor (project c) second.means source) is_of second.stands_for);
            };
          };
    }
