-- The points of statements, put from the last to the first before what is drawn. A loop's test and the step of a `for`
-- come before the loop's statement, which leads to where they are entered.
use Rattle.std.specs.Prelude.{ℕ, suc, List, [], ◌++◌, Option, Some, None, if◌then◌else◌}
use Rattle.ck_base.specs.declared.tokens.Token.{Token}
use Rattle.ck_passages.specs.Drawing.{draw, put_passing, going_to}
use Rattle.ck_passages.specs.Points.{Drawn, before_drawn}
use Rattle.ck_points.specs.Evaluations.{Evaluation, Nothing, evaluation}
use Rattle.ck_points.specs.Initialising.{declaring, has_initialiser}
use Rattle.ck_points.specs.Labels.{Labelled, labelled, Marked, marks}
use Rattle.ck_points.specs.Places.{Place, before, after, Passes, leads}
use Rattle.ck_points.specs.Statements.{Jumps, decided, switched}
use Rattle.ck_prog.specs.Paths as part
use Rattle.ck_prog.specs.Paths.{Path, below}
use Rattle.ck_prog.specs.TypedBodies as bodies
use Rattle.ck_prog.specs.TypedBodies.{TypedDeclaration, TypedStart, TypedStatement, TypedItems, Jumping}
use Rattle.ck_prog.specs.TypedTrees.{Typed, facts}

-- where the jumps in a statement lead
pub record Targets : Type 0 where
  pub broken : Place
  pub continued : Place
  pub returned : Place
  pub labels : List Labelled

abbrev pub to_targets : Jumps → Targets
to_targets j =
    record { broken = j.broken.to; continued = j.continued.to; returned = j.returned.to; labels = j.labels }

abbrev pub jump_to : Targets → Jumping → Place
jump_to j bodies.Breaks = j.broken
jump_to j bodies.Continues = j.continued

-- parts of statements -------------------------------------------------------------------------------------------------

unfoldable pub put_before : Path → Token → Drawn → Drawn
put_before π first d = put_passing (before π) Passes first.span d

unfoldable pub put_after : Path → Token → Drawn → Drawn
put_after π first d = put_passing (after π) Passes first.span d

-- what comes next is another place
unfoldable pub turned : Place → Drawn → Drawn
turned to d = going_to to d

-- what was drawn apart comes before
unfoldable pub joined : Drawn → Drawn → Drawn
joined earlier d = record { to = earlier.to; points = d.points ++ earlier.points }

unfoldable pub alone : Place → Drawn
alone to = record { to = to; points = [] }

unfoldable pub decided_before : Path → Typed → Place → Place → Drawn → Drawn
decided_before π x holds fails d = before_drawn (decided π x (leads holds) (leads fails)) d.points

unfoldable pub switched_before : Path → Typed → List Marked → Place → Drawn → Drawn
switched_before π x ms past d = before_drawn (switched π x ms (leads past)) d.points

-- 6.8.5.3: an absent test holds, and an absent step does nothing
abbrev pub maybe_decided_before : Path → Option Typed → Place → Place → Drawn → Drawn
maybe_decided_before π None holds fails d = turned holds d
maybe_decided_before π (Some x) holds fails d = decided_before π x holds fails d

abbrev pub maybe_evaluation : Path → Option Typed → Evaluation
maybe_evaluation π None = Nothing
maybe_evaluation π (Some x) = evaluation π x

-- where a test or a step is entered
unfoldable pub test_entry : Path → Option Typed → Place → Place → Place
test_entry π x holds fails = (maybe_decided_before π x holds fails (alone holds)).to

unfoldable pub step_entry : Path → Option Typed → Place → Place
step_entry π x next = (draw [] (maybe_evaluation π x) (alone next)).to

abbrev pub in_loop : Targets → Place → Place → Targets
in_loop j broken continued = record j { broken = broken; continued = continued }

abbrev pub draw_expression : Path → Typed → Drawn → Drawn
draw_expression π x d =
    put_before π (facts x).first
    (draw [] (evaluation (below π part.Evaluated) x) (put_after π (facts x).first d))

abbrev pub draw_return : Path → Token → Typed → Place → Drawn → Drawn
draw_return π keyword x to d =
    put_before π keyword
    (draw [] (evaluation (below π part.Evaluated) x) (turned to (put_after π keyword d)))

-- declarations --------------------------------------------------------------------------------------------------------

abbrev pub draw_declaration : Path → TypedDeclaration → Drawn → Drawn
draw_declaration π (bodies.Declaration first written ds) d =
    if has_initialiser ds then put_before π first (draw [] (declaring π 0 ds) (put_after π first d)) else d

abbrev pub draw_start : Path → TypedStart → Drawn → Drawn
draw_start π bodies.StartEmpty d = d
draw_start π (bodies.StartExpression x) d = draw [] (evaluation π x) d
draw_start π (bodies.StartDeclaration s) d = draw_declaration π s d

-- statements ----------------------------------------------------------------------------------------------------------

abbrev mutual
  pub draw_statement : Targets → Path → TypedStatement → Drawn → Drawn
  draw_statement j π (bodies.Block first is) d = put_before π first (draw_items j π 0 is (put_after π first d))
  draw_statement j π (bodies.Empty first) d = put_before π first (put_after π first d)
  draw_statement j π (bodies.ExpressionStatement x) d = draw_expression π x d
  draw_statement j π (bodies.If keyword x s) d =
      let s_path = below π part.Controlled in
      put_before π keyword
      (decided_before (below π part.Controlling) x (before s_path) (after π)
      (draw_statement j s_path s (put_after π keyword d)))
  draw_statement j π (bodies.IfElse keyword x s t) d =
      let s_path = below π part.Controlled in
      let t_path = below π part.Otherwise in
      put_before π keyword
      (decided_before (below π part.Controlling) x (before s_path) (before t_path)
      (draw_statement j s_path s (turned (after π) (draw_statement j t_path t (put_after π keyword d)))))
  draw_statement j π (bodies.Switch keyword x s) d =
      let s_path = below π part.Controlled in
      put_before π keyword
      (switched_before (below π part.Controlling) x (marks s_path s) (after π)
      (draw_statement (record j { broken = after π }) s_path s (put_after π keyword d)))
  draw_statement j π (bodies.While keyword x s) d =
      let s_path = below π part.Controlled in
      let x_path = below π part.Controlling in
      let again = test_entry x_path (Some x) (before s_path) (after π) in
      put_before π keyword
      (decided_before x_path x (before s_path) (after π)
      (draw_statement (in_loop j (after π) again) s_path s
      (turned again (put_after π keyword d))))
  draw_statement j π (bodies.Do keyword s x) d =
      let s_path = below π part.DoBody in
      let tested = decided_before (below π part.DoTest) x (before s_path) (after π) (put_after π keyword d) in
      put_before π keyword
      (draw_statement (in_loop j (after π) tested.to) s_path s (turned tested.to tested))
  draw_statement j π (bodies.For keyword start x step s) d =
      let s_path = below π part.ForBody in
      let x_path = below π part.ForTest in
      let step_path = below π part.ForStep in
      let again = test_entry x_path x (before s_path) (after π) in
      let stepped = step_entry step_path step again in
      put_before π keyword
      (draw_start (below π part.ForStart) start
      (maybe_decided_before x_path x (before s_path) (after π)
      (draw [] (maybe_evaluation step_path step)
      (turned again
      (draw_statement (in_loop j (after π) stepped) s_path s
      (turned stepped (put_after π keyword d)))))))
  draw_statement j π (bodies.Case keyword in_switch x v s) d =
      put_before π keyword (draw_statement j (below π part.CaseBody) s (put_after π keyword d))
  draw_statement j π (bodies.Default keyword in_switch s) d =
      put_before π keyword (draw_statement j (below π part.Labelled) s (put_after π keyword d))
  draw_statement j π (bodies.Label keyword name s) d =
      put_before π keyword (draw_statement j (below π part.Labelled) s (put_after π keyword d))
  draw_statement j π (bodies.Goto keyword name) d =
      put_before π keyword (turned (labelled name j.labels (after π)) (put_after π keyword d))
  draw_statement j π (bodies.Jump keyword to found) d =
      put_before π keyword (turned (jump_to j to) (put_after π keyword d))
  draw_statement j π (bodies.Return keyword) d = put_before π keyword (turned j.returned (put_after π keyword d))
  draw_statement j π (bodies.ReturnValue keyword result x) d = draw_return π keyword x j.returned d

  -- the items from this number on
  pub draw_items : Targets → Path → ℕ → TypedItems → Drawn → Drawn
  draw_items j π k bodies.NoItems d = d
  draw_items j π k (bodies.DeclarationItem s rest) d =
      draw_declaration (below π (part.Item k)) s (draw_items j π (suc k) rest d)
  draw_items j π k (bodies.StatementItem s rest) d =
      draw_statement j (below π (part.Item k)) s (draw_items j π (suc k) rest d)
