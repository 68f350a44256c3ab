-- The points of statements, with their edges (C99 6.8). A statement is entered at its `before`, and what comes after it
-- is entered from its `after`.
use Rattle.std.specs.Prelude.{ℕ, suc, List, [], ◌∷◌, Option, Some, None, if◌then◌else◌}
use Rattle.ck_base.specs.declared.tokens.Token.{Token}
use Rattle.ck_prog.specs.Paths as part
use Rattle.ck_prog.specs.Paths.{Path, below}
use Rattle.ck_prog.specs.TypedBodies as bodies
use Rattle.ck_prog.specs.TypedBodies.{TypedDeclaration, TypedStart, TypedStatement, TypedItems, Jumping, Breaks}
use Rattle.ck_prog.specs.TypedBodies.{Continues}
use Rattle.ck_prog.specs.TypedTrees.{Typed, facts}
use Rattle.ck_points.specs.Evaluations.{Does, Then, Give, evaluation}
use Rattle.ck_points.specs.Initialising.{declaring, has_initialiser}
use Rattle.ck_points.specs.Labels.{Labelled, labelled, Marked, marks, switch_edges}
use Rattle.ck_points.specs.Passages.{Passage, nothing, in_turn, all_in_turn, point, passing, either_way, passage}
use Rattle.ck_points.specs.Places.{before, test, after, Passes, Way, Edge, leads}

-- where the jumps in a statement lead (6.8.6)
pub record Jumps : Type 0 where
  pub broken : Way
  pub continued : Way
  pub returned : Way
  pub labels : List Labelled

abbrev pub jumped : Jumps → Jumping → Way
jumped j Breaks = j.broken
jumped j Continues = j.continued

abbrev pub in_switch : Jumps → Way → Jumps
in_switch j broken = record j { broken = broken }

abbrev pub in_loop : Jumps → Way → Way → Jumps
in_loop j broken continued = record j { broken = broken; continued = continued }

-- parts of statements ------------------------------------------------------------------------------------------------

-- an expression that is evaluated whole, under no operator
abbrev pub evaluated : Path → Typed → Way → Passage
evaluated π x next = passage [] (evaluation π x) next

-- a statement or declaration with its first token and what is in it
abbrev pub around : Path → Token → Passage → Way → Passage
around π first inside next =
    in_turn (passing (before π) Passes first inside.enters)
    (in_turn inside (passing (after π) Passes first next))

-- a controlling expression, and the edges that leave its test
abbrev pub tested : Path → Typed → List Edge → Passage
tested π x edges = in_turn (evaluated π x (leads (test π))) (point (test π) Passes (facts x).first edges)

-- 6.8.4.1, 6.8.5: one way where it isn't 0, and another where it is
abbrev pub decided : Path → Typed → Way → Way → Passage
decided π x holds fails = tested π x (either_way (facts x).sense.constancy holds fails)

-- 6.8.4.2
abbrev pub switched : Path → Typed → List Marked → Way → Passage
switched π x ms past = tested π x (switch_edges (facts x).sense.constancy ms past)

-- 6.8.5.3: an absent test holds
abbrev pub maybe_decided : Path → Option Typed → Way → Way → Passage
maybe_decided π None holds fails = nothing holds
maybe_decided π (Some x) holds fails = decided π x holds fails

abbrev pub maybe_evaluated : Path → Option Typed → Way → Passage
maybe_evaluated π None next = nothing next
maybe_evaluated π (Some x) next = evaluated π x next

-- 6.7: a declaration has points where some declarator has an initialiser
abbrev pub declaration : Path → TypedDeclaration → Way → Passage
declaration π (bodies.Declaration first written ds) next =
    if has_initialiser ds then around π first (passage [] (declaring π 0 ds) (leads (after π))) next
    else passage [] (declaring π 0 ds) next

abbrev pub started : Path → TypedStart → Way → Passage
started π bodies.StartEmpty next = nothing next
started π (bodies.StartExpression x) next = evaluated π x next
started π (bodies.StartDeclaration d) next = declaration π d next

-- statements ---------------------------------------------------------------------------------------------------------

abbrev mutual
  pub statement : Jumps → Path → TypedStatement → Way → Passage
  -- 6.8.2, 6.8.3
  statement j π (bodies.Block first is) next = around π first (items j π 0 is (leads (after π))) next
  statement j π (bodies.Empty first) next = around π first (nothing (leads (after π))) next
  statement j π (bodies.ExpressionStatement x) next =
      around π (facts x).first (evaluated (below π part.Evaluated) x (leads (after π))) next
  -- 6.8.4
  statement j π (bodies.If keyword x s) next =
      let s_path = below π part.Controlled in
      around π keyword
      (in_turn (decided (below π part.Controlling) x (leads (before s_path)) (leads (after π)))
      (statement j s_path s (leads (after π)))) next
  statement j π (bodies.IfElse keyword x s t) next =
      let s_path = below π part.Controlled in
      let t_path = below π part.Otherwise in
      around π keyword
      (in_turn (decided (below π part.Controlling) x (leads (before s_path)) (leads (before t_path)))
      (in_turn (statement j s_path s (leads (after π))) (statement j t_path t (leads (after π))))) next
  statement j π (bodies.Switch keyword x s) next =
      let s_path = below π part.Controlled in
      let past = leads (after π) in
      around π keyword
      (in_turn (switched (below π part.Controlling) x (marks s_path s) past)
      (statement (in_switch j past) s_path s past)) next
  -- 6.8.5
  statement j π (bodies.While keyword x s) next =
      let s_path = below π part.Controlled in
      let past = leads (after π) in
      let again = decided (below π part.Controlling) x (leads (before s_path)) past in
      around π keyword (in_turn again (statement (in_loop j past again.enters) s_path s again.enters)) next
  statement j π (bodies.Do keyword s x) next =
      let s_path = below π part.DoBody in
      let past = leads (after π) in
      let again = decided (below π part.DoTest) x (leads (before s_path)) past in
      around π keyword (in_turn (statement (in_loop j past again.enters) s_path s again.enters) again) next
  statement j π (bodies.For keyword start x step s) next =
      let s_path = below π part.ForBody in
      let past = leads (after π) in
      let again = maybe_decided (below π part.ForTest) x (leads (before s_path)) past in
      let stepped = maybe_evaluated (below π part.ForStep) step again.enters in
      around π keyword
      (all_in_turn (started (below π part.ForStart) start again.enters)
      (again ∷ stepped ∷ statement (in_loop j past stepped.enters) s_path s stepped.enters ∷ [])) next
  -- 6.8.1
  statement j π (bodies.Case keyword in_switch x v s) next =
      around π keyword (statement j (below π part.CaseBody) s (leads (after π))) next
  statement j π (bodies.Default keyword in_switch s) next =
      around π keyword (statement j (below π part.Labelled) s (leads (after π))) next
  statement j π (bodies.Label keyword name s) next =
      around π keyword (statement j (below π part.Labelled) s (leads (after π))) next
  -- 6.8.6
  statement j π (bodies.Goto keyword name) next =
      around π keyword (nothing (leads (labelled name j.labels (after π)))) next
  statement j π (bodies.Jump keyword to found) next = around π keyword (nothing (jumped j to)) next
  statement j π (bodies.Return keyword) next = around π keyword (nothing j.returned) next
  statement j π (bodies.ReturnValue keyword result x) next =
      around π keyword (passage [] (Then (evaluation (below π part.Evaluated) x) (Does (Give π))) j.returned) next

  -- the items from this number on
  pub items : Jumps → Path → ℕ → TypedItems → Way → Passage
  items j π k bodies.NoItems next = nothing next
  items j π k (bodies.DeclarationItem d rest) next =
      let later = items j π (suc k) rest next in
      in_turn (declaration (below π (part.Item k)) d later.enters) later
  items j π k (bodies.StatementItem s rest) next =
      let later = items j π (suc k) rest next in
      in_turn (statement j (below π (part.Item k)) s later.enters) later
