-- What is drawn for a statement is its points.
use Rattle.std.proofs.Common.{◌≡◌, ℕ, suc, Bool, true, false, List, [], ◌∷◌, ◌++◌, map, refl, sym, ap, ◌∙◌}
use Rattle.std.specs.Prelude.{Option, Some, None, if◌then◌else◌}
use Rattle.ck_base.specs.declared.tokens.Token.{Token}
use Rattle.ck_passages.specs.Drawing.{draw}
use Rattle.ck_passages.specs.Points.{PlainPoint, Drawn, without_deeds, added, before_drawn}
use Rattle.ck_passages.proofs.DrawnPassages.{added-append, draw-passage}
use Rattle.ck_points.specs.Evaluations.{evaluation, Then, Does, Give}
use Rattle.ck_points.specs.Initialising.{declaring, has_initialiser}
use Rattle.ck_points.specs.Labels.{Marked, labelled, marks}
use Rattle.ck_points.specs.Passages.{Passage, nothing, in_turn, all_in_turn, passing, passage}
use Rattle.ck_graph.specs.declared.points.Label.TheVariants.{Plain}
use Rattle.ck_points.specs.Places.{Place, before, after, Passes, Way, leads, edge}
use Rattle.ck_points.specs.Statements.{Jumps, jumped, in_switch, in_loop, evaluated, around, decided, switched}
use Rattle.ck_points.specs.Statements.{maybe_decided, maybe_evaluated, declaration, started, statement, items}
use Rattle.ck_prog.specs.Paths as part
use Rattle.ck_prog.specs.Paths.{Path, below}
use Rattle.ck_prog.specs.TypedBodies as bodies
use Rattle.ck_prog.specs.TypedBodies.{TypedDeclaration, TypedStart, TypedStatement, TypedItems, Jumping}
use Rattle.ck_prog.specs.TypedTrees.{Typed, facts}
use Rattle.ck_bodies.specs.DrawnStatements as drawn
use Rattle.ck_bodies.specs.DrawnStatements.{to_targets, put_before, put_after, turned, joined, alone}
use Rattle.ck_bodies.specs.DrawnStatements.{decided_before, switched_before, maybe_decided_before, maybe_evaluation}
use Rattle.ck_bodies.specs.DrawnStatements.{test_entry, step_entry, draw_declaration, draw_start, draw_statement}
use Rattle.ck_bodies.specs.DrawnStatements.{draw_items, jump_to}
use Rattle.ck_bodies.proofs.Drawing.{declaring-none}

abbrev entering : Place → List PlainPoint → Drawn
entering to ps = record { to = to; points = ps }

-- parts in turn -------------------------------------------------------------------------------------------------------

in_turn-drawn : (a b : Passage) (ps : List PlainPoint) →
    before_drawn a (added ps b.points) ≡ before_drawn (in_turn a b) ps
in_turn-drawn a b ps = ap (entering a.enters.to) (sym (added-append ps a.points b.points))

module _ (π : Path) (first : Token) (next : Way) (ps : List PlainPoint) where
  -- the points from the one after a statement on
  abbrev ended : List PlainPoint
  ended = added ps (passing (after π) Passes first next).points

  around-drawn : (f : Drawn → Drawn) (inside : Passage) →
      f (entering (after π) ended) ≡ before_drawn inside ended →
      put_before π first (f (put_after π first (entering next.to ps))) ≡ before_drawn (around π first inside next) ps
  unfolding put_before put_after
  around-drawn f inside is =
      ap (put_before π first) is
      ∙ ap (λ qs. entering (before π)
      (qs ++ (without_deeds (record {
        place = before π;
        happening = Passes;
        site = first;
        edges = edge Plain inside.enters ∷ [];
      }) ∷ [])))
      (sym (added-append ps inside.points (passing (after π) Passes first next).points))

-- tests ---------------------------------------------------------------------------------------------------------------

module _ (π : Path) (holds fails : Place) (b : Passage) (ps : List PlainPoint) where
  decided-in_turn : (x : Typed) → decided_before π x holds fails (before_drawn b ps)
      ≡ before_drawn (in_turn (decided π x (leads holds) (leads fails)) b) ps
  unfolding decided_before
  decided-in_turn x = in_turn-drawn (decided π x (leads holds) (leads fails)) b ps

  switched-in_turn : (x : Typed) (ms : List Marked) → switched_before π x ms fails (before_drawn b ps)
      ≡ before_drawn (in_turn (switched π x ms (leads fails)) b) ps
  unfolding switched_before
  switched-in_turn x ms = in_turn-drawn (switched π x ms (leads fails)) b ps

  maybe_decided-in_turn : (x : Option Typed) → maybe_decided_before π x holds fails (before_drawn b ps)
      ≡ before_drawn (in_turn (maybe_decided π x (leads holds) (leads fails)) b) ps
  unfolding turned
  maybe_decided-in_turn None = refl
  maybe_decided-in_turn (Some x) = decided-in_turn x

module _ (π : Path) (holds fails : Place) where
  decided-drawn : (ps : List PlainPoint) (to : Place) (x : Typed) → decided_before π x holds fails (entering to ps)
      ≡ before_drawn (decided π x (leads holds) (leads fails)) ps
  unfolding decided_before
  decided-drawn ps to x = refl

  test_entry-is : (x : Option Typed) →
      test_entry π x holds fails ≡ (maybe_decided π x (leads holds) (leads fails)).enters.to
  unfolding test_entry turned alone decided_before
  test_entry-is None = refl
  test_entry-is (Some x) = refl

maybe_evaluated-drawn : (π : Path) (x : Option Typed) (next : Way) (ps : List PlainPoint) →
    draw [] (maybe_evaluation π x) (entering next.to ps) ≡ before_drawn (maybe_evaluated π x next) ps
maybe_evaluated-drawn π None next ps = refl
maybe_evaluated-drawn π (Some x) next ps = draw-passage [] (evaluation π x) next ps

step_entry-is : (π : Path) (x : Option Typed) (next : Way) →
    step_entry π x next.to ≡ (maybe_evaluated π x next).enters.to
unfolding step_entry alone
step_entry-is π x next = ap (λ d. d.to) (maybe_evaluated-drawn π x next [])

turned-drawn : (to : Place) (p : Passage) (ps : List PlainPoint) →
    turned to (before_drawn p ps) ≡ entering to (added ps p.points)
unfolding turned
turned-drawn to p ps = refl

turned-entering : (to at : Place) (ps : List PlainPoint) → turned to (entering at ps) ≡ entering to ps
unfolding turned
turned-entering to at ps = refl

-- declarations --------------------------------------------------------------------------------------------------------

chosen : (b : Bool) (x y : Drawn) (p q : Passage) (ps : List PlainPoint) → x ≡ before_drawn p ps →
    (b ≡ false → y ≡ before_drawn q ps) →
    (if b then x else y) ≡ before_drawn (if b then p else q) ps
chosen true x y p q ps first second = first
chosen false x y p q ps first second = second refl

declaration-drawn : (π : Path) (s : TypedDeclaration) (next : Way) (ps : List PlainPoint) →
    draw_declaration π s (entering next.to ps) ≡ before_drawn (declaration π s next) ps
declaration-drawn π (bodies.Declaration first written ds) next ps =
    let e = declaring π 0 ds in
    chosen (has_initialiser ds) (put_before π first (draw [] e (put_after π first (entering next.to ps))))
    (entering next.to ps) (around π first (passage [] e (leads (after π))) next) (passage [] e next) ps
    (around-drawn π first next ps (draw [] e) (passage [] e (leads (after π)))
    (draw-passage [] e (leads (after π)) (ended π first next ps)))
    (λ h. sym (declaring-none π 0 ds (entering next.to ps) h) ∙ draw-passage [] e next ps)

start-drawn : (π : Path) (s : TypedStart) (next : Way) (ps : List PlainPoint) →
    draw_start π s (entering next.to ps) ≡ before_drawn (started π s next) ps
start-drawn π bodies.StartEmpty next ps = refl
start-drawn π (bodies.StartExpression x) next ps = draw-passage [] (evaluation π x) next ps
start-drawn π (bodies.StartDeclaration s) next ps = declaration-drawn π s next ps

jumped-to : (j : Jumps) (to : Jumping) → jump_to (to_targets j) to ≡ (jumped j to).to
jumped-to j bodies.Breaks = refl
jumped-to j bodies.Continues = refl

-- a jump leaves for a place
leaving : (π : Path) (keyword : Token) (way next : Way) (ps : List PlainPoint) (to : Place) → to ≡ way.to →
    put_before π keyword (turned to (put_after π keyword (entering next.to ps)))
    ≡ before_drawn (around π keyword (nothing way) next) ps
leaving π keyword way next ps to is =
    around-drawn π keyword next ps (turned to) (nothing way)
    (turned-entering to (after π) (ended π keyword next ps) ∙ ap (λ p. entering p (ended π keyword next ps)) is)

-- the parts of a `for` ------------------------------------------------------------------------------------------------

module _ (π : Path) (start : TypedStart) (x step : Option Typed) where
  abbrev again : Passage
  again = maybe_decided (below π part.ForTest) x (leads (before (below π part.ForBody))) (leads (after π))

  abbrev stepped : Passage
  stepped = maybe_evaluated (below π part.ForStep) step again.enters

  -- what comes before the loop's statement
  abbrev heads : Drawn → Drawn
  heads d =
      draw_start (below π part.ForStart) start
      (maybe_decided_before (below π part.ForTest) x (before (below π part.ForBody)) (after π)
      (draw [] (maybe_evaluation (below π part.ForStep) step) (turned again.enters.to d)))

  heads-drawn : (s : Passage) (ps : List PlainPoint) →
      heads (before_drawn s ps)
      ≡ before_drawn (all_in_turn (started (below π part.ForStart) start again.enters) (again ∷ stepped ∷ s ∷ [])) ps
  heads-drawn s ps =
      let later = in_turn stepped s in
      let test = maybe_decided_before (below π part.ForTest) x (before (below π part.ForBody)) (after π) in
      let one =
      ap (draw [] (maybe_evaluation (below π part.ForStep) step)) (turned-drawn again.enters.to s ps)
      ∙ maybe_evaluated-drawn (below π part.ForStep) step again.enters (added ps s.points)
      ∙ in_turn-drawn stepped s ps in
      ap (λ d. draw_start (below π part.ForStart) start (test d)) one
      ∙ ap (draw_start (below π part.ForStart) start)
      (maybe_decided-in_turn (below π part.ForTest) (before (below π part.ForBody)) (after π) later ps x)
      ∙ start-drawn (below π part.ForStart) start again.enters (added ps (in_turn again later).points)
      ∙ in_turn-drawn (started (below π part.ForStart) start again.enters) (in_turn again later) ps

-- statements ----------------------------------------------------------------------------------------------------------

mutual
  pub statement-drawn : (j : Jumps) (π : Path) (s : TypedStatement) (next : Way) (ps : List PlainPoint) →
      draw_statement (to_targets j) π s (entering next.to ps) ≡ before_drawn (statement j π s next) ps
  statement-drawn j π (bodies.Block first is) next ps =
      around-drawn π first next ps (draw_items (to_targets j) π 0 is) (items j π 0 is (leads (after π)))
      (items-drawn j π 0 is (leads (after π)) (ended π first next ps))
  statement-drawn j π (bodies.Empty first) next ps =
      around-drawn π first next ps (λ d. d) (nothing (leads (after π))) refl
  statement-drawn j π (bodies.ExpressionStatement x) next ps =
      let e = evaluation (below π part.Evaluated) x in
      around-drawn π (facts x).first next ps (draw [] e) (passage [] e (leads (after π)))
      (draw-passage [] e (leads (after π)) (ended π (facts x).first next ps))
  statement-drawn j π (bodies.If keyword x s) next ps =
      let s_path = below π part.Controlled in
      let test = decided_before (below π part.Controlling) x (before s_path) (after π) in
      let inner = statement j s_path s (leads (after π)) in
      let qs = ended π keyword next ps in
      around-drawn π keyword next ps (λ d. test (draw_statement (to_targets j) s_path s d))
      (in_turn (decided (below π part.Controlling) x (leads (before s_path)) (leads (after π))) inner)
      (ap test (statement-drawn j s_path s (leads (after π)) qs)
      ∙ decided-in_turn (below π part.Controlling) (before s_path) (after π) inner qs x)
  statement-drawn j π (bodies.IfElse keyword x s t) next ps =
      let s_path = below π part.Controlled in
      let t_path = below π part.Otherwise in
      let past = leads (after π) in
      let test = decided_before (below π part.Controlling) x (before s_path) (before t_path) in
      let first = statement j s_path s past in
      let second = statement j t_path t past in
      let qs = ended π keyword next ps in
      let draw_first = draw_statement (to_targets j) s_path s in
      around-drawn π keyword next ps
      (λ d. test (draw_first (turned (after π) (draw_statement (to_targets j) t_path t d))))
      (in_turn (decided (below π part.Controlling) x (leads (before s_path)) (leads (before t_path)))
      (in_turn first second))
      (ap (λ d. test (draw_first (turned (after π) d))) (statement-drawn j t_path t past qs)
      ∙ ap (λ d. test (draw_first d)) (turned-drawn (after π) second qs)
      ∙ ap test (statement-drawn j s_path s past (added qs second.points) ∙ in_turn-drawn first second qs)
      ∙ decided-in_turn (below π part.Controlling) (before s_path) (before t_path) (in_turn first second) qs x)
  statement-drawn j π (bodies.Switch keyword x s) next ps =
      let s_path = below π part.Controlled in
      let past = leads (after π) in
      let ms = marks s_path s in
      let inner = statement (in_switch j past) s_path s past in
      let qs = ended π keyword next ps in
      around-drawn π keyword next ps
      (λ d. switched_before (below π part.Controlling) x ms (after π)
      (draw_statement (to_targets (in_switch j past)) s_path s d))
      (in_turn (switched (below π part.Controlling) x ms past) inner)
      (ap (switched_before (below π part.Controlling) x ms (after π))
      (statement-drawn (in_switch j past) s_path s past qs)
      ∙ switched-in_turn (below π part.Controlling) (after π) (after π) inner qs x ms)
  statement-drawn j π (bodies.While keyword x s) next ps =
      let s_path = below π part.Controlled in
      let x_path = below π part.Controlling in
      let past = leads (after π) in
      let again = decided x_path x (leads (before s_path)) past in
      let test = decided_before x_path x (before s_path) (after π) in
      let to = test_entry x_path (Some x) (before s_path) (after π) in
      let there = test_entry-is x_path (before s_path) (after π) (Some x) in
      let inner = statement (in_loop j past again.enters) s_path s again.enters in
      let qs = ended π keyword next ps in
      around-drawn π keyword next ps
      (λ d. test (draw_statement (drawn.in_loop (to_targets j) (after π) to) s_path s (turned to d)))
      (in_turn again inner)
      (ap (λ p. test (draw_statement (drawn.in_loop (to_targets j) (after π) p) s_path s
      (turned p (entering (after π) qs)))) there
      ∙ ap (λ d. test (draw_statement (to_targets (in_loop j past again.enters)) s_path s d))
      (turned-entering again.enters.to (after π) qs)
      ∙ ap test (statement-drawn (in_loop j past again.enters) s_path s again.enters qs)
      ∙ decided-in_turn x_path (before s_path) (after π) inner qs x)
  statement-drawn j π (bodies.Do keyword s x) next ps =
      let s_path = below π part.DoBody in
      let x_path = below π part.DoTest in
      let past = leads (after π) in
      let again = decided x_path x (leads (before s_path)) past in
      let inner = statement (in_loop j past again.enters) s_path s again.enters in
      let qs = ended π keyword next ps in
      around-drawn π keyword next ps
      (λ d. let tested = decided_before x_path x (before s_path) (after π) d in
      draw_statement (drawn.in_loop (to_targets j) (after π) tested.to) s_path s (turned tested.to tested))
      (in_turn inner again)
      (ap (λ d. draw_statement (drawn.in_loop (to_targets j) (after π) d.to) s_path s (turned d.to d))
      (decided-drawn x_path (before s_path) (after π) qs (after π) x)
      ∙ ap (draw_statement (to_targets (in_loop j past again.enters)) s_path s)
      (turned-drawn again.enters.to again qs)
      ∙ statement-drawn (in_loop j past again.enters) s_path s again.enters (added qs again.points)
      ∙ in_turn-drawn inner again qs)
  statement-drawn j π (bodies.For keyword start x step s) next ps =
      let s_path = below π part.ForBody in
      let past = leads (after π) in
      let test = again π start x step in
      let last = stepped π start x step in
      let inner = statement (in_loop j past last.enters) s_path s last.enters in
      let qs = ended π keyword next ps in
      let entry = test_entry (below π part.ForTest) x (before s_path) (after π) in
      let there = test_entry-is (below π part.ForTest) (before s_path) (after π) x in
      let head = λ (p : Place) (q : Place) (d : Drawn).
      draw_start (below π part.ForStart) start
      (maybe_decided_before (below π part.ForTest) x (before s_path) (after π)
      (draw [] (maybe_evaluation (below π part.ForStep) step) (turned p
      (draw_statement (drawn.in_loop (to_targets j) (after π) q) s_path s (turned q d))))) in
      around-drawn π keyword next ps
      (λ d. head entry (step_entry (below π part.ForStep) step entry) d)
      (all_in_turn (started (below π part.ForStart) start test.enters) (test ∷ last ∷ inner ∷ []))
      (ap (λ p. head p (step_entry (below π part.ForStep) step p) (entering (after π) qs)) there
      ∙ ap (λ q. head test.enters.to q (entering (after π) qs)) (step_entry-is (below π part.ForStep) step test.enters)
      ∙ ap (λ d. heads π start x step
      (draw_statement (to_targets (in_loop j past last.enters)) s_path s d))
      (turned-entering last.enters.to (after π) qs)
      ∙ ap (heads π start x step) (statement-drawn (in_loop j past last.enters) s_path s last.enters qs)
      ∙ heads-drawn π start x step inner qs)
  statement-drawn j π (bodies.Case keyword in_switch x v s) next ps =
      around-drawn π keyword next ps (draw_statement (to_targets j) (below π part.CaseBody) s)
      (statement j (below π part.CaseBody) s (leads (after π)))
      (statement-drawn j (below π part.CaseBody) s (leads (after π)) (ended π keyword next ps))
  statement-drawn j π (bodies.Default keyword in_switch s) next ps =
      around-drawn π keyword next ps (draw_statement (to_targets j) (below π part.Labelled) s)
      (statement j (below π part.Labelled) s (leads (after π)))
      (statement-drawn j (below π part.Labelled) s (leads (after π)) (ended π keyword next ps))
  statement-drawn j π (bodies.Label keyword name s) next ps =
      around-drawn π keyword next ps (draw_statement (to_targets j) (below π part.Labelled) s)
      (statement j (below π part.Labelled) s (leads (after π)))
      (statement-drawn j (below π part.Labelled) s (leads (after π)) (ended π keyword next ps))
  statement-drawn j π (bodies.Goto keyword name) next ps =
      leaving π keyword (leads (labelled name j.labels (after π))) next ps _ refl
  statement-drawn j π (bodies.Jump keyword to found) next ps =
      leaving π keyword (jumped j to) next ps _ (jumped-to j to)
  statement-drawn j π (bodies.Return keyword) next ps = leaving π keyword j.returned next ps _ refl
  statement-drawn j π (bodies.ReturnValue keyword result x) next ps =
      let e = evaluation (below π part.Evaluated) x in
      let qs = ended π keyword next ps in
      around-drawn π keyword next ps (λ d. draw [] e (turned j.returned.to d))
      (passage [] (Then e (Does (Give π))) j.returned)
      (ap (draw [] e) (turned-entering j.returned.to (after π) qs)
      ∙ draw-passage [] (Then e (Does (Give π))) j.returned qs)

  pub items-drawn : (j : Jumps) (π : Path) (k : ℕ) (is : TypedItems) (next : Way) (ps : List PlainPoint) →
      draw_items (to_targets j) π k is (entering next.to ps) ≡ before_drawn (items j π k is next) ps
  items-drawn j π k bodies.NoItems next ps = refl
  items-drawn j π k (bodies.DeclarationItem s rest) next ps =
      let later = items j π (suc k) rest next in
      ap (draw_declaration (below π (part.Item k)) s) (items-drawn j π (suc k) rest next ps)
      ∙ declaration-drawn (below π (part.Item k)) s later.enters (added ps later.points)
      ∙ in_turn-drawn (declaration (below π (part.Item k)) s later.enters) later ps
  items-drawn j π k (bodies.StatementItem s rest) next ps =
      let later = items j π (suc k) rest next in
      ap (draw_statement (to_targets j) (below π (part.Item k)) s) (items-drawn j π (suc k) rest next ps)
      ∙ statement-drawn j (below π (part.Item k)) s later.enters (added ps later.points)
      ∙ in_turn-drawn (statement j (below π (part.Item k)) s later.enters) later ps
