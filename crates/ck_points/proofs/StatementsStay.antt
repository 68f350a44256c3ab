-- The edges of statements and functions lead to their points.
use Rattle.std.specs.Prelude.{ℕ, suc, ℤ, Bool, true, false, List, [], ◌∷◌, Option, Some, None, if◌then◌else◌}
use Rattle.std.specs.List.{AllByRecursion as Each}
use Rattle.std.specs.Ordering.{int_eq}
use Rattle.std.specs.Str.{bytes_eq}
use Rattle.ck_base.specs.declared.tokens.Token.{Token}
use Rattle.ck_prog.specs.Paths as part
use Rattle.ck_prog.specs.Paths.{Path, below}
use Rattle.ck_prog.specs.Senses.{Constancy, Varying, Valueless, Known as KnownValue}
use Rattle.ck_prog.specs.Sights.{LabelOfSwitch, CaseLabel, DefaultLabel}
use Rattle.ck_prog.specs.TypedBodies as bodies
use Rattle.ck_prog.specs.TypedBodies.{TypedDeclaration, TypedStart, TypedStatement, TypedItems, TypedFunction, Jumping}
use Rattle.ck_prog.specs.TypedTrees.{Typed, facts}
use Rattle.ck_points.specs.Evaluations.{Does, Then, Give, evaluation}
use Rattle.ck_points.specs.Functions.{inside, plain_body, pair_body, pair_left, exit, whole, status_in}
use Rattle.ck_points.specs.Initialising.{declaring, has_initialiser}
use Rattle.ck_points.specs.Labels.{Labelled, labels, labels_from, labelled, Marked, marks, marks_from, default_or}
use Rattle.ck_points.specs.Labels.{default_way, case_or, case_way, case_edge, after_label, case_edges, switch_edges}
use Rattle.ck_points.specs.Passages.{Passage, nothing, in_turn, all_in_turn, point, passage}
use Rattle.ck_points.specs.Places.{Place, before, test, after, Passes, Way, Edge, leads}
use Rattle.ck_points.specs.Statements.{Jumps, jumped, in_switch, in_loop, evaluated, around, tested, decided, switched}
use Rattle.ck_points.specs.Statements.{maybe_decided, maybe_evaluated, declaration, started, statement, items}
use Rattle.ck_points.proofs.PassagesStay.{Known, EdgesKnown, Leads, each_append, each_left, each_right, known_first}
use Rattle.ck_points.proofs.PassagesStay.{known_second, both_lead, known_of_all, known_in_all, all_lead, two_ways}
use Rattle.ck_points.proofs.PassagesStay.{evaluation_leads}

module _ (K : Place → Type 0) where
  -- parts of statements ----------------------------------------------------------------------------------------------

  evaluated_leads : (π : Path) (x : Typed) (next : Way) → K next.to → Known K (evaluated π x next)
      → Leads K (evaluated π x next)
  evaluated_leads π x next on known = evaluation_leads K [] (evaluation π x) next on known

  -- what is in a statement, and where it ends
  known_inside : (π : Path) (first : Token) (s : Passage) (next : Way) → Known K (around π first s next) → Known K s
  known_inside π first s next known = each_left (λ q. K q.place) s.points _ known.1

  known_end : (π : Path) (first : Token) (s : Passage) (next : Way) → Known K (around π first s next) → K (after π)
  known_end π first s next known = (each_right (λ q. K q.place) s.points _ known.1).0

  around_leads : (π : Path) (first : Token) (s : Passage) (next : Way) → K next.to → Known K (around π first s next)
      → (K (after π) → Known K s → Leads K s) → Leads K (around π first s next)
  around_leads π first s next on known inner =
      let end = known_end π first s next known in
      let l = inner end (known_inside π first s next known) in
      record {
        to = known.0;
        edges = ((l.to, tt), each_append (λ q. EdgesKnown K q.edges) s.points _ l.edges ((on, tt), tt));
      }

  tested_leads : (π : Path) (x : Typed) (es : List Edge) → Known K (tested π x es) → EdgesKnown K es
      → Leads K (tested π x es)
  tested_leads π x es known each =
      let before_test = evaluated π x (leads (test π)) in
      let at_test = point (test π) Passes (facts x).first es in
      let here = (known_second K before_test at_test known).0 in
      both_lead K before_test at_test
      (evaluated_leads π x (leads (test π)) here (known_first K before_test at_test known))
      (record { to = here; edges = (each, tt) })

  decided_leads : (π : Path) (x : Typed) (holds fails : Way) → K holds.to → K fails.to
      → Known K (decided π x holds fails) → Leads K (decided π x holds fails)
  decided_leads π x holds fails left right known =
      tested_leads π x _ known (two_ways K (facts x).sense.constancy holds fails left right)

  -- labels of a `switch` ---------------------------------------------------------------------------------------------

  abbrev MarksKnown : List Marked → Type 0
  MarksKnown ms = Each (λ m. K m.place) ms

  to_default : (l : LabelOfSwitch) (p : Place) (other : Way) → K p → K other.to → K (default_or l p other).to
  to_default DefaultLabel p other here there = here
  to_default (CaseLabel v) p other here there = there

  to_defaults : (ms : List Marked) (past : Way) → MarksKnown ms → K past.to → K (default_way ms past).to
  to_defaults [] past each on = on
  to_defaults (m ∷ ms) past each on =
      to_default m.label m.place (default_way ms past) each.0 (to_defaults ms past each.1 on)

  either_place : (b : Bool) (p q : Place) → K p → K q → K (if b then p else q)
  either_place true p q left right = left
  either_place false p q left right = right

  either_to : (b : Bool) (p q : Way) → K p.to → K q.to → K (if b then p else q).to
  either_to true p q left right = left
  either_to false p q left right = right

  to_case : (v : ℤ) (l : LabelOfSwitch) (p : Place) (other : Way) → K p → K other.to → K (case_or v l p other).to
  to_case v (CaseLabel (Some w)) p other here there = either_to (int_eq v w) (leads p) other here there
  to_case v (CaseLabel None) p other here there = there
  to_case v DefaultLabel p other here there = there

  to_cases : (v : ℤ) (ms : List Marked) (other : Way) → MarksKnown ms → K other.to → K (case_way v ms other).to
  to_cases v [] other each on = on
  to_cases v (m ∷ ms) other each on =
      to_case v m.label m.place (case_way v ms other) each.0 (to_cases v ms other each.1 on)

  one_case : (k : ℕ) (l : LabelOfSwitch) (to : Place) → K to → EdgesKnown K (case_edge k l to)
  one_case k (CaseLabel v) to there = (there, tt)
  one_case k DefaultLabel to there = tt

  all_cases : (k : ℕ) (ms : List Marked) → MarksKnown ms → EdgesKnown K (case_edges k ms)
  all_cases k [] each = tt
  all_cases k (m ∷ ms) each =
      each_append (λ e. K e.way.to) (case_edge k m.label m.place) (case_edges (after_label k m.label) ms)
      (one_case k m.label m.place each.0) (all_cases (after_label k m.label) ms each.1)

  switch_ways : (c : Constancy) (ms : List Marked) (past : Way) → MarksKnown ms → K past.to
      → EdgesKnown K (switch_edges c ms past)
  switch_ways (KnownValue v) ms past each on =
      (to_cases v ms (default_way ms past) each (to_defaults ms past each on), tt)
  switch_ways Varying ms past each on =
      each_append (λ e. K e.way.to) (case_edges 0 ms) _ (all_cases 0 ms each) (to_defaults ms past each on, tt)
  switch_ways Valueless ms past each on =
      each_append (λ e. K e.way.to) (case_edges 0 ms) _ (all_cases 0 ms each) (to_defaults ms past each on, tt)

  switched_leads : (π : Path) (x : Typed) (ms : List Marked) (past : Way) → MarksKnown ms → K past.to
      → Known K (switched π x ms past) → Leads K (switched π x ms past)
  switched_leads π x ms past each on known =
      tested_leads π x _ known (switch_ways (facts x).sense.constancy ms past each on)

  -- other parts ------------------------------------------------------------------------------------------------------

  maybe_decided_leads : (π : Path) (x : Option Typed) (holds fails : Way) → K holds.to → K fails.to
      → Known K (maybe_decided π x holds fails) → Leads K (maybe_decided π x holds fails)
  maybe_decided_leads π None holds fails left right known = record { to = left; edges = tt }
  maybe_decided_leads π (Some x) holds fails left right known = decided_leads π x holds fails left right known

  maybe_evaluated_leads : (π : Path) (x : Option Typed) (next : Way) → K next.to → Known K (maybe_evaluated π x next)
      → Leads K (maybe_evaluated π x next)
  maybe_evaluated_leads π None next on known = record { to = on; edges = tt }
  maybe_evaluated_leads π (Some x) next on known = evaluated_leads π x next on known

  either_leads : (b : Bool) (p q : Passage) → (Known K p → Leads K p) → (Known K q → Leads K q)
      → Known K (if b then p else q) → Leads K (if b then p else q)
  either_leads true p q left right known = left known
  either_leads false p q left right known = right known

  declaration_leads : (π : Path) (d : TypedDeclaration) (next : Way) → K next.to → Known K (declaration π d next)
      → Leads K (declaration π d next)
  declaration_leads π (bodies.Declaration first written ds) next on known =
      let e = declaring π 0 ds in
      let s = passage [] e (leads (after π)) in
      either_leads (has_initialiser ds) (around π first s next) (passage [] e next)
      (λ k. around_leads π first s next on k (evaluation_leads K [] e (leads (after π))))
      (λ k. evaluation_leads K [] e next on k) known

  started_leads : (π : Path) (start : TypedStart) (next : Way) → K next.to → Known K (started π start next)
      → Leads K (started π start next)
  started_leads π bodies.StartEmpty next on known = record { to = on; edges = tt }
  started_leads π (bodies.StartExpression x) next on known = evaluated_leads π x next on known
  started_leads π (bodies.StartDeclaration d) next on known = declaration_leads π d next on known

  -- labels -----------------------------------------------------------------------------------------------------------

  abbrev LabelsKnown : List Labelled → Type 0
  LabelsKnown ls = Each (λ l. K l.place) ls

  to_label : (name : List ℕ) (ls : List Labelled) (other : Place) → LabelsKnown ls → K other
      → K (labelled name ls other)
  to_label name [] other each there = there
  to_label name (l ∷ ls) other each there =
      either_place (bytes_eq l.name name) l.place (labelled name ls other) each.0
      (to_label name ls other each.1 there)

  pub record JumpsKnown (j : Jumps) : Type 0 where
    pub broken : K j.broken.to
    pub continued : K j.continued.to
    pub returned : K j.returned.to
    pub labels : LabelsKnown j.labels

  jump_known : (j : Jumps) (to : Jumping) → JumpsKnown j → K (jumped j to).to
  jump_known j bodies.Breaks known = known.broken
  jump_known j bodies.Continues known = known.continued

  switch_known : (j : Jumps) (past : Way) → JumpsKnown j → K past.to → JumpsKnown (in_switch j past)
  switch_known j past known on =
      record { broken = on; continued = known.continued; returned = known.returned; labels = known.labels }

  loop_known : (j : Jumps) (past again : Way) → JumpsKnown j → K past.to → K again.to
      → JumpsKnown (in_loop j past again)
  loop_known j past again known on back =
      record { broken = on; continued = back; returned = known.returned; labels = known.labels }

  -- a statement is entered at a point of its own
  known_start : (j : Jumps) (π : Path) (s : TypedStatement) (next : Way) → Known K (statement j π s next) → K (before π)
  known_start j π (bodies.Block first is) next known = known.0
  known_start j π _ next known = known.0

  -- the labels in a statement are at points of it
  abbrev FoundAt : Path → TypedStatement → Type 0
  FoundAt π s = LabelsKnown (labels π s) × MarksKnown (marks π s)

  abbrev FoundFrom : Path → ℕ → TypedItems → Type 0
  FoundFrom π k is = LabelsKnown (labels_from π k is) × MarksKnown (marks_from π k is)

  mutual
    found : (j : Jumps) (π : Path) (s : TypedStatement) (next : Way) → Known K (statement j π s next) → FoundAt π s
    found j π (bodies.Block first is) next known =
        found_from j π 0 is (leads (after π)) (known_inside π first (items j π 0 is (leads (after π))) next known)
    found j π (bodies.Empty first) next known = (tt, tt)
    found j π (bodies.ExpressionStatement x) next known = (tt, tt)
    found j π (bodies.If keyword x s) next known =
        let p = below π part.Controlled in
        let end = leads (after π) in
        let test = decided (below π part.Controlling) x (leads (before p)) end in
        let body = statement j p s end in
        found j p s end (known_second K test body (known_inside π keyword (in_turn test body) next known))
    found j π (bodies.IfElse keyword x s t) next known =
        let p = below π part.Controlled in
        let q = below π part.Otherwise in
        let end = leads (after π) in
        let test = decided (below π part.Controlling) x (leads (before p)) (leads (before q)) in
        let holds = statement j p s end in
        let fails = statement j q t end in
        let both =
        known_second K test (in_turn holds fails)
        (known_inside π keyword (in_turn test (in_turn holds fails)) next known) in
        let left = found j p s end (known_first K holds fails both) in
        let right = found j q t end (known_second K holds fails both) in (
          each_append (λ l. K l.place) (labels p s) (labels q t) left.0 right.0,
          each_append (λ m. K m.place) (marks p s) (marks q t) left.1 right.1,
        )
    found j π (bodies.Switch keyword x s) next known =
        let p = below π part.Controlled in
        let end = leads (after π) in
        let test = switched (below π part.Controlling) x (marks p s) end in
        let body = statement (in_switch j end) p s end in (
          (found (in_switch j end) p s end
              (known_second K test body (known_inside π keyword (in_turn test body) next known))).0,
          tt,
        )
    found j π (bodies.While keyword x s) next known =
        let p = below π part.Controlled in
        let end = leads (after π) in
        let test = decided (below π part.Controlling) x (leads (before p)) end in
        let inner = in_loop j end test.enters in
        let body = statement inner p s test.enters in
        found inner p s test.enters
        (known_second K test body (known_inside π keyword (in_turn test body) next known))
    found j π (bodies.Do keyword s x) next known =
        let p = below π part.DoBody in
        let end = leads (after π) in
        let test = decided (below π part.DoTest) x (leads (before p)) end in
        let inner = in_loop j end test.enters in
        let body = statement inner p s test.enters in
        found inner p s test.enters
        (known_first K body test (known_inside π keyword (in_turn body test) next known))
    found j π (bodies.For keyword start x step s) next known =
        let p = below π part.ForBody in
        let end = leads (after π) in
        let test = maybe_decided (below π part.ForTest) x (leads (before p)) end in
        let stepped = maybe_evaluated (below π part.ForStep) step test.enters in
        let inner = in_loop j end stepped.enters in
        let body = statement inner p s stepped.enters in
        let begun = started (below π part.ForStart) start test.enters in
        let rest = test ∷ stepped ∷ body ∷ [] in
        found inner p s stepped.enters
        (known_in_all K begun rest (known_inside π keyword (all_in_turn begun rest) next known)).1.1.0
    found j π (bodies.Case keyword in_switch x v s) next known =
        let p = below π part.CaseBody in
        let end = leads (after π) in
        let inner = found j p s end (known_inside π keyword (statement j p s end) next known) in
        (inner.0, (known.0, inner.1))
    found j π (bodies.Default keyword in_switch s) next known =
        let p = below π part.Labelled in
        let end = leads (after π) in
        let inner = found j p s end (known_inside π keyword (statement j p s end) next known) in
        (inner.0, (known.0, inner.1))
    found j π (bodies.Label keyword name s) next known =
        let p = below π part.Labelled in
        let end = leads (after π) in
        let inner = found j p s end (known_inside π keyword (statement j p s end) next known) in
        ((known.0, inner.0), inner.1)
    found j π (bodies.Goto keyword name) next known = (tt, tt)
    found j π (bodies.Jump keyword to there) next known = (tt, tt)
    found j π (bodies.Return keyword) next known = (tt, tt)
    found j π (bodies.ReturnValue keyword result x) next known = (tt, tt)

    found_from : (j : Jumps) (π : Path) (k : ℕ) (is : TypedItems) (next : Way) → Known K (items j π k is next)
        → FoundFrom π k is
    found_from j π k bodies.NoItems next known = (tt, tt)
    found_from j π k (bodies.DeclarationItem d rest) next known =
        let later = items j π (suc k) rest next in
        found_from j π (suc k) rest next
        (known_second K (declaration (below π (part.Item k)) d later.enters) later known)
    found_from j π k (bodies.StatementItem s rest) next known =
        let p = below π (part.Item k) in
        let later = items j π (suc k) rest next in
        let earlier = statement j p s later.enters in
        let left = found j p s later.enters (known_first K earlier later known) in
        let right = found_from j π (suc k) rest next (known_second K earlier later known) in (
          each_append (λ l. K l.place) (labels p s) (labels_from π (suc k) rest) left.0 right.0,
          each_append (λ m. K m.place) (marks p s) (marks_from π (suc k) rest) left.1 right.1,
        )

  -- statements -------------------------------------------------------------------------------------------------------

  mutual
    statement_leads : (j : Jumps) (π : Path) (s : TypedStatement) (next : Way) → JumpsKnown j → K next.to
        → Known K (statement j π s next) → Leads K (statement j π s next)
    statement_leads j π (bodies.Block first is) next jumps on known =
        let end = leads (after π) in
        around_leads π first (items j π 0 is end) next on known (λ stop k. items_lead j π 0 is end jumps stop k)
    statement_leads j π (bodies.Empty first) next jumps on known =
        around_leads π first (nothing (leads (after π))) next on known (λ stop k. record { to = stop; edges = tt })
    statement_leads j π (bodies.ExpressionStatement x) next jumps on known =
        let end = leads (after π) in
        let p = below π part.Evaluated in
        around_leads π (facts x).first (evaluated p x end) next on known (evaluated_leads p x end)
    statement_leads j π (bodies.If keyword x s) next jumps on known =
        let p = below π part.Controlled in
        let q = below π part.Controlling in
        let end = leads (after π) in
        let test = decided q x (leads (before p)) end in
        let body = statement j p s end in
        around_leads π keyword (in_turn test body) next on known
        (λ stop k. let k_body = known_second K test body k in
        both_lead K test body
        (decided_leads q x (leads (before p)) end (known_start j p s end k_body) stop (known_first K test body k))
        (statement_leads j p s end jumps stop k_body))
    statement_leads j π (bodies.IfElse keyword x s t) next jumps on known =
        let p = below π part.Controlled in
        let o = below π part.Otherwise in
        let q = below π part.Controlling in
        let end = leads (after π) in
        let test = decided q x (leads (before p)) (leads (before o)) in
        let holds = statement j p s end in
        let fails = statement j o t end in
        around_leads π keyword (in_turn test (in_turn holds fails)) next on known
        (λ stop k. let k_both = known_second K test (in_turn holds fails) k in
        let k_holds = known_first K holds fails k_both in
        let k_fails = known_second K holds fails k_both in
        both_lead K test (in_turn holds fails)
        (decided_leads q x (leads (before p)) (leads (before o)) (known_start j p s end k_holds)
        (known_start j o t end k_fails) (known_first K test (in_turn holds fails) k))
        (both_lead K holds fails (statement_leads j p s end jumps stop k_holds)
        (statement_leads j o t end jumps stop k_fails)))
    statement_leads j π (bodies.Switch keyword x s) next jumps on known =
        let p = below π part.Controlled in
        let q = below π part.Controlling in
        let end = leads (after π) in
        let inner = in_switch j end in
        let test = switched q x (marks p s) end in
        let body = statement inner p s end in
        around_leads π keyword (in_turn test body) next on known
        (λ stop k. let k_body = known_second K test body k in
        both_lead K test body
        (switched_leads q x (marks p s) end (found inner p s end k_body).1 stop (known_first K test body k))
        (statement_leads inner p s end (switch_known j end jumps stop) stop k_body))
    statement_leads j π (bodies.While keyword x s) next jumps on known =
        let p = below π part.Controlled in
        let q = below π part.Controlling in
        let end = leads (after π) in
        let test = decided q x (leads (before p)) end in
        let inner = in_loop j end test.enters in
        let body = statement inner p s test.enters in
        around_leads π keyword (in_turn test body) next on known
        (λ stop k. let k_body = known_second K test body k in
        let l =
        decided_leads q x (leads (before p)) end (known_start inner p s test.enters k_body) stop
        (known_first K test body k) in
        both_lead K test body l
        (statement_leads inner p s test.enters (loop_known j end test.enters jumps stop l.to) l.to k_body))
    statement_leads j π (bodies.Do keyword s x) next jumps on known =
        let p = below π part.DoBody in
        let q = below π part.DoTest in
        let end = leads (after π) in
        let test = decided q x (leads (before p)) end in
        let inner = in_loop j end test.enters in
        let body = statement inner p s test.enters in
        around_leads π keyword (in_turn body test) next on known
        (λ stop k. let k_body = known_first K body test k in
        let l =
        decided_leads q x (leads (before p)) end (known_start inner p s test.enters k_body) stop
        (known_second K body test k) in
        both_lead K body test
        (statement_leads inner p s test.enters (loop_known j end test.enters jumps stop l.to) l.to k_body) l)
    statement_leads j π (bodies.For keyword start x step s) next jumps on known =
        let p = below π part.ForBody in
        let q = below π part.ForTest in
        let end = leads (after π) in
        let test = maybe_decided q x (leads (before p)) end in
        let stepped = maybe_evaluated (below π part.ForStep) step test.enters in
        let inner = in_loop j end stepped.enters in
        let body = statement inner p s stepped.enters in
        let begun = started (below π part.ForStart) start test.enters in
        let rest = test ∷ stepped ∷ body ∷ [] in
        around_leads π keyword (all_in_turn begun rest) next on known
        (λ stop k. let ks = known_in_all K begun rest k in
        let l =
        maybe_decided_leads q x (leads (before p)) end (known_start inner p s stepped.enters ks.1.1.0) stop
        ks.0 in
        let m = maybe_evaluated_leads (below π part.ForStep) step test.enters l.to ks.1.0 in
        let n =
        statement_leads inner p s stepped.enters (loop_known j end stepped.enters jumps stop m.to) m.to
        ks.1.1.0 in
        all_lead K begun rest
        (started_leads (below π part.ForStart) start test.enters l.to (known_of_all K begun rest k))
        (l, (m, (n, tt))))
    statement_leads j π (bodies.Case keyword in_switch x v s) next jumps on known =
        let p = below π part.CaseBody in
        let end = leads (after π) in
        around_leads π keyword (statement j p s end) next on known (λ stop k. statement_leads j p s end jumps stop k)
    statement_leads j π (bodies.Default keyword in_switch s) next jumps on known =
        let p = below π part.Labelled in
        let end = leads (after π) in
        around_leads π keyword (statement j p s end) next on known (λ stop k. statement_leads j p s end jumps stop k)
    statement_leads j π (bodies.Label keyword name s) next jumps on known =
        let p = below π part.Labelled in
        let end = leads (after π) in
        around_leads π keyword (statement j p s end) next on known (λ stop k. statement_leads j p s end jumps stop k)
    statement_leads j π (bodies.Goto keyword name) next jumps on known =
        around_leads π keyword (nothing (leads (labelled name j.labels (after π)))) next on known
        (λ stop k. record { to = to_label name j.labels (after π) jumps.labels stop; edges = tt })
    statement_leads j π (bodies.Jump keyword to there) next jumps on known =
        around_leads π keyword (nothing (jumped j to)) next on known
        (λ stop k. record { to = jump_known j to jumps; edges = tt })
    statement_leads j π (bodies.Return keyword) next jumps on known =
        around_leads π keyword (nothing j.returned) next on known
        (λ stop k. record { to = jumps.returned; edges = tt })
    statement_leads j π (bodies.ReturnValue keyword result x) next jumps on known =
        let e = Then (evaluation (below π part.Evaluated) x) (Does (Give π)) in
        around_leads π keyword (passage [] e j.returned) next on known
        (λ stop k. evaluation_leads K [] e j.returned jumps.returned k)

    items_lead : (j : Jumps) (π : Path) (k : ℕ) (is : TypedItems) (next : Way) → JumpsKnown j → K next.to
        → Known K (items j π k is next) → Leads K (items j π k is next)
    items_lead j π k bodies.NoItems next jumps on known = record { to = on; edges = tt }
    items_lead j π k (bodies.DeclarationItem d rest) next jumps on known =
        let p = below π (part.Item k) in
        let later = items j π (suc k) rest next in
        let earlier = declaration p d later.enters in
        let l = items_lead j π (suc k) rest next jumps on (known_second K earlier later known) in
        both_lead K earlier later (declaration_leads p d later.enters l.to (known_first K earlier later known)) l
    items_lead j π k (bodies.StatementItem s rest) next jumps on known =
        let p = below π (part.Item k) in
        let later = items j π (suc k) rest next in
        let earlier = statement j p s later.enters in
        let l = items_lead j π (suc k) rest next jumps on (known_second K earlier later known) in
        both_lead K earlier later
        (statement_leads j p s later.enters jumps l.to (known_first K earlier later known)) l

  -- functions --------------------------------------------------------------------------------------------------------

  inside_leads : (f : TypedFunction) (out : Way) → K out.to → Known K (inside f out) → Leads K (inside f out)
  inside_leads f out on known =
      let labels = labels_from [] 0 f.items in
      let j : Jumps = record { broken = out; continued = out; returned = out; labels = labels } in
      items_lead j [] 0 f.items out
      (record { broken = on; continued = on; returned = on; labels = (found_from j [] 0 f.items out known).0 }) on known

  plain_leads : (name : Token) (f : TypedFunction) → Known K (plain_body name (inside f (leads exit)))
      → Leads K (plain_body name (inside f (leads exit)))
  plain_leads name f known =
      let s = inside f (leads exit) in
      let stop = (each_right (λ q. K q.place) s.points _ known.1).0 in
      let l = inside_leads f (leads exit) stop (each_left (λ q. K q.place) s.points _ known.1) in
      record {
        to = known.0;
        edges = ((l.to, tt), each_append (λ q. EdgesKnown K q.edges) s.points _ l.edges (tt, tt));
      }

  pair_leads : (name : Token) (f : TypedFunction) → Known K (pair_body name (inside f (leads pair_left)))
      → Leads K (pair_body name (inside f (leads pair_left)))
  pair_leads name f known =
      let s = inside f (leads pair_left) in
      let ends = each_right (λ q. K q.place) s.points _ known.1.1 in
      let l = inside_leads f (leads pair_left) ends.0 (each_left (λ q. K q.place) s.points _ known.1.1) in
      record {
        to = known.0;
        edges = (
          (known.1.0, tt),
          ((l.to, tt), each_append (λ q. EdgesKnown K q.edges) s.points _ l.edges ((ends.1.0, tt), (tt, tt))),
        );
      }

  pub whole_leads : (f : TypedFunction) → Known K (whole f) → Leads K (whole f)
  whole_leads f known =
      let name = f.declared.entry.at in
      either_leads (status_in f.items) (pair_body name (inside f (leads pair_left)))
      (plain_body name (inside f (leads exit))) (pair_leads name f) (plain_leads name f) known
