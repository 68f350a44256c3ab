-- A point has at most six edges more than its function has points: the edges of a `switch` go with its labels, and each
-- of these has a point.
use Rattle.std.proofs.Common.{◌≡◌, arith}
use Rattle.std.specs.Prelude.{◌≤◌, ◌+◌, ℕ, suc, Bool, true, false, List, [], ◌∷◌, ◌++◌, length}
use Rattle.std.specs.Prelude.{Option, Some}
use Rattle.std.specs.Prelude.{None, if◌then◌else◌}
use Rattle.std.specs.List.{AllByRecursion as Each}
use Rattle.std.proofs.lemmas.List.{length-append}
use Rattle.std.proofs.lemmas.List.Elements.{All-contains, All-from_recursion}
use Rattle.ck_base.specs.declared.tokens.Token.{Token}
use Rattle.ck_prog.specs.Paths as part
use Rattle.ck_prog.specs.Paths.{Path, below}
use Rattle.ck_prog.specs.Senses.{Constancy, Varying, Valueless, Known}
use Rattle.ck_prog.specs.Sights.{CaseLabel, DefaultLabel, LabelOfSwitch}
use Rattle.ck_prog.specs.TypedBodies as bodies
use Rattle.ck_prog.specs.TypedBodies.{TypedDeclaration, TypedStart, TypedStatement, TypedItems, TypedFunction}
use Rattle.ck_prog.specs.TypedTrees.{Typed, facts}
use Rattle.ck_points.specs.Evaluations.{Evaluation, Does, Then, Give, evaluation}
use Rattle.ck_points.specs.Functions.{inside, plain_body, pair_body, pair_entered, pair_left, exit, entry, status_in}
use Rattle.ck_points.specs.Functions.{points, whole, ending}
use Rattle.ck_points.specs.Initialising.{declaring, has_initialiser}
use Rattle.ck_graph.specs.declared.points.Label.TheVariants.{Default}
use Rattle.ck_points.specs.Labels.{Marked, marks, marks_from, case_edge, case_edges, after_label, switch_edges}
use Rattle.ck_points.specs.Labels.{default_way, labelled}
use Rattle.ck_points.specs.Laws.{EdgesAreFew}
use Rattle.ck_points.specs.Passages.{Passage, nothing, in_turn, point, passing, either_way, passage}
use Rattle.ck_points.specs.Places.{Place, before, after, test, Happening, Passes, EntersPair, LeavesPair, Ends}
use Rattle.ck_points.specs.Places.{Point, Way, Edge, edge, leads}
use Rattle.ck_points.specs.Statements.{Jumps, around, evaluated, decided, switched, maybe_decided}
use Rattle.ck_points.specs.Statements.{maybe_evaluated, declaration, started, statement, items, in_switch, in_loop}
use Rattle.ck_points.specs.Statements.{jumped}
use Rattle.ck_points.proofs.NarrowEvaluations.{Narrow, AtMostSix, length-either_way, few_of_evaluation, narrow}
use Rattle.ck_points.proofs.NarrowEvaluations.{narrow_declaring}
use Rattle.ck_points.proofs.PassagesStay.{each_append}
use Rattle.ck_points.proofs.PointsApart.{each_map}

-- labels have points -------------------------------------------------------------------------------------------------

length-in_turn : (a b : Passage) → length (in_turn a b).points ≡ length a.points + length b.points
length-in_turn a b = length-append a.points b.points

length-around : (π : Path) (first : Token) (p : Passage) (next : Way)
    → length (around π first p next).points ≡ length p.points + 2
length-around π first p next =
    let rest = length-append p.points (passing (after π) Passes first next).points in omega (arith, rest)

in_left : (n : ℕ) (a b : Passage) → n ≤ length a.points → n ≤ length (in_turn a b).points
in_left n a b low = omega (arith, low, length-in_turn a b)

in_right : (n : ℕ) (a b : Passage) → n ≤ length b.points → n ≤ length (in_turn a b).points
in_right n a b low = omega (arith, low, length-in_turn a b)

in_both : (xs ys : List Marked) (a b : Passage) → length xs ≤ length a.points → length ys ≤ length b.points
    → length (xs ++ ys) ≤ length (in_turn a b).points
in_both xs ys a b left right = omega (arith, left, right, length-append xs ys, length-in_turn a b)

-- one more than inside
in_around : (n : ℕ) (π : Path) (first : Token) (p : Passage) (next : Way) → n ≤ length p.points
    → suc n ≤ length (around π first p next).points
in_around n π first p next low = omega (arith, low, length-around π first p next)

below_around : (n : ℕ) (π : Path) (first : Token) (p : Passage) (next : Way) → n ≤ length p.points
    → n ≤ length (around π first p next).points
below_around n π first p next low = omega (arith, low, length-around π first p next)

mutual
  marks_have_points : (j : Jumps) (π : Path) (s : TypedStatement) (next : Way)
      → length (marks π s) ≤ length (statement j π s next).points
  marks_have_points j π (bodies.Block first is) next =
      below_around _ π first (items j π 0 is (leads (after π))) next (marks_of_items j π 0 is (leads (after π)))
  marks_have_points j π (bodies.If keyword x s) next =
      let s_path = below π part.Controlled in
      let first = decided (below π part.Controlling) x (leads (before s_path)) (leads (after π)) in
      let inner = statement j s_path s (leads (after π)) in
      below_around _ π keyword (in_turn first inner) next
      (in_right _ first inner (marks_have_points j s_path s (leads (after π))))
  marks_have_points j π (bodies.IfElse keyword x s t) next =
      let s_path = below π part.Controlled in
      let t_path = below π part.Otherwise in
      let first = decided (below π part.Controlling) x (leads (before s_path)) (leads (before t_path)) in
      let left = statement j s_path s (leads (after π)) in
      let right = statement j t_path t (leads (after π)) in
      below_around _ π keyword (in_turn first (in_turn left right)) next
      (in_right _ first (in_turn left right)
      (in_both (marks s_path s) (marks t_path t) left right (marks_have_points j s_path s (leads (after π)))
      (marks_have_points j t_path t (leads (after π)))))
  marks_have_points j π (bodies.While keyword x s) next =
      let s_path = below π part.Controlled in
      let past = leads (after π) in
      let again = decided (below π part.Controlling) x (leads (before s_path)) past in
      let inner = statement (in_loop j past again.enters) s_path s again.enters in
      below_around _ π keyword (in_turn again inner) next
      (in_right _ again inner (marks_have_points (in_loop j past again.enters) s_path s again.enters))
  marks_have_points j π (bodies.Do keyword s x) next =
      let s_path = below π part.DoBody in
      let past = leads (after π) in
      let again = decided (below π part.DoTest) x (leads (before s_path)) past in
      let inner = statement (in_loop j past again.enters) s_path s again.enters in
      below_around _ π keyword (in_turn inner again) next
      (in_left _ inner again (marks_have_points (in_loop j past again.enters) s_path s again.enters))
  marks_have_points j π (bodies.For keyword start x step s) next =
      let s_path = below π part.ForBody in
      let past = leads (after π) in
      let again = maybe_decided (below π part.ForTest) x (leads (before s_path)) past in
      let stepped = maybe_evaluated (below π part.ForStep) step again.enters in
      let first = started (below π part.ForStart) start again.enters in
      let inner = statement (in_loop j past stepped.enters) s_path s stepped.enters in
      below_around _ π keyword (in_turn first (in_turn again (in_turn stepped inner))) next
      (in_right _ first (in_turn again (in_turn stepped inner))
      (in_right _ again (in_turn stepped inner)
      (in_right _ stepped inner (marks_have_points (in_loop j past stepped.enters) s_path s stepped.enters))))
  marks_have_points j π (bodies.Case keyword in_switch x v s) next =
      let inner = below π part.CaseBody in
      in_around _ π keyword (statement j inner s (leads (after π))) next
      (marks_have_points j inner s (leads (after π)))
  marks_have_points j π (bodies.Default keyword in_switch s) next =
      let inner = below π part.Labelled in
      in_around _ π keyword (statement j inner s (leads (after π))) next
      (marks_have_points j inner s (leads (after π)))
  marks_have_points j π (bodies.Label keyword name s) next =
      let inner = below π part.Labelled in
      below_around _ π keyword (statement j inner s (leads (after π))) next
      (marks_have_points j inner s (leads (after π)))
  marks_have_points j π _ next = omega arith

  marks_of_items : (j : Jumps) (π : Path) (k : ℕ) (is : TypedItems) (next : Way)
      → length (marks_from π k is) ≤ length (items j π k is next).points
  marks_of_items j π k bodies.NoItems next = omega arith
  marks_of_items j π k (bodies.DeclarationItem d rest) next =
      let later = items j π (suc k) rest next in
      in_right _ (declaration (below π (part.Item k)) d later.enters) later (marks_of_items j π (suc k) rest next)
  marks_of_items j π k (bodies.StatementItem s rest) next =
      let here = below π (part.Item k) in
      let later = items j π (suc k) rest next in
      in_both (marks here s) (marks_from π (suc k) rest) (statement j here s later.enters) later
      (marks_have_points j here s later.enters) (marks_of_items j π (suc k) rest next)

-- edges of a `switch` ------------------------------------------------------------------------------------------------

length-case_edge : (k : ℕ) (l : LabelOfSwitch) (p : Place) → length (case_edge k l p) ≤ 1
length-case_edge k (CaseLabel v) p = omega arith
length-case_edge k DefaultLabel p = omega arith

length-case_edges : (k : ℕ) (ms : List Marked) → length (case_edges k ms) ≤ length ms
length-case_edges k [] = omega arith
length-case_edges k (m ∷ ms) =
    let rest = length-case_edges (after_label k m.label) ms in
    omega (
      arith,
      rest,
      length-case_edge k m.label m.place,
      length-append (case_edge k m.label m.place) (case_edges (after_label k m.label) ms),
    )

length-switch_edges : (c : Constancy) (ms : List Marked) (past : Way)
    → length (switch_edges c ms past) ≤ length ms + 1
length-switch_edges (Known v) ms past = omega arith
length-switch_edges Varying ms past =
    omega (arith, length-case_edges 0 ms, length-append (case_edges 0 ms) (edge Default (default_way ms past) ∷ []))
length-switch_edges Valueless ms past =
    omega (arith, length-case_edges 0 ms, length-append (case_edges 0 ms) (edge Default (default_way ms past) ∷ []))

-- edges of all points ------------------------------------------------------------------------------------------------

module _ (n : ℕ) where
  abbrev AtMost : Point → Type 0
  AtMost q = length q.edges ≤ n

  -- the points are few enough, and so are the edges of each
  abbrev Few : Passage → Type 0
  Few p = length p.points + 6 ≤ n → Each AtMost p.points

  few_point : (at : Place) (h : Happening) (site : Token) (edges : List Edge) → length edges ≤ 6
      → Few (point at h site edges)
  few_point at h site edges six low = (omega (arith, six, low), tt)

  few_nothing : (next : Way) → Few (nothing next)
  few_nothing next low = tt

  few_passing : (at : Place) (h : Happening) (site : Token) (next : Way) → Few (passing at h site next)
  few_passing at h site next low = (omega (arith, low), tt)

  few_in_turn : (a b : Passage) → Few a → Few b → Few (in_turn a b)
  few_in_turn a b left right low =
      each_append AtMost a.points b.points (left (omega (arith, low, length-in_turn a b)))
      (right (omega (arith, low, length-in_turn a b)))

  few_around : (π : Path) (first : Token) (p : Passage) (next : Way) → Few p → Few (around π first p next)
  few_around π first p next inner low =
      let long = length-around π first p next in
      let one : 1 ≤ n = omega (arith, low) in
      (one, each_append AtMost p.points _ (inner (omega (arith, low, long))) (one, tt))

  few_evaluated : (e : Evaluation) (next : Way) → Narrow e → Few (passage [] e next)
  few_evaluated e next is_narrow low =
      each_map AtMostSix AtMost (λ q six. omega (arith, six, low)) (passage [] e next).points
      (few_of_evaluation [] e next is_narrow)

  few_either : (b : Bool) (p q : Passage) → Few p → Few q → Few (if b then p else q)
  few_either true p q first second = first
  few_either false p q first second = second

  few_decided : (π : Path) (x : Typed) (holds fails : Way) → Few (decided π x holds fails)
  few_decided π x holds fails =
      let edges = either_way (facts x).sense.constancy holds fails in
      few_in_turn (evaluated π x (leads (test π))) (point (test π) Passes (facts x).first edges)
      (few_evaluated (evaluation π x) (leads (test π)) (narrow π x))
      (few_point (test π) Passes (facts x).first edges (length-either_way (facts x).sense.constancy holds fails))

  few_maybe_decided : (π : Path) (x : Option Typed) (holds fails : Way) → Few (maybe_decided π x holds fails)
  few_maybe_decided π None holds fails = few_nothing holds
  few_maybe_decided π (Some x) holds fails = few_decided π x holds fails

  few_maybe_evaluated : (π : Path) (x : Option Typed) (next : Way) → Few (maybe_evaluated π x next)
  few_maybe_evaluated π None next = few_nothing next
  few_maybe_evaluated π (Some x) next = few_evaluated (evaluation π x) next (narrow π x)

  few_declaration : (π : Path) (d : TypedDeclaration) (next : Way) → Few (declaration π d next)
  few_declaration π (bodies.Declaration first written ds) next =
      let inner = passage [] (declaring π 0 ds) (leads (after π)) in
      few_either (has_initialiser ds) (around π first inner next) (passage [] (declaring π 0 ds) next)
      (few_around π first inner next (few_evaluated (declaring π 0 ds) (leads (after π)) (narrow_declaring π 0 ds)))
      (few_evaluated (declaring π 0 ds) next (narrow_declaring π 0 ds))

  few_started : (π : Path) (start : TypedStart) (next : Way) → Few (started π start next)
  few_started π bodies.StartEmpty next = few_nothing next
  few_started π (bodies.StartExpression x) next = few_evaluated (evaluation π x) next (narrow π x)
  few_started π (bodies.StartDeclaration d) next = few_declaration π d next

  -- a `switch`, of whose labels each has a point in its statement
  few_switch : (π : Path) (x : Typed) (ms : List Marked) (past : Way) (p : Passage) → length ms ≤ length p.points
      → Few p → Few (in_turn (switched π x ms past) p)
  few_switch π x ms past p marked inner low =
      let c = (facts x).sense.constancy in
      let first = evaluated π x (leads (test π)) in
      let long = length-in_turn (switched π x ms past) p in
      let edges : length (switch_edges c ms past) ≤ n =
      omega (arith, low, long, marked, length-switch_edges c ms past) in
      let six : 6 ≤ n = omega (arith, low) in
      let evaluated_few = each_map AtMostSix AtMost (λ q few. omega (arith, few, six)) first.points
      (few_of_evaluation [] (evaluation π x) (leads (test π)) (narrow π x)) in
      each_append AtMost (switched π x ms past).points p.points
      (each_append AtMost first.points _ evaluated_few (edges, tt)) (inner (omega (arith, low, long)))

  mutual
    few_statement : (j : Jumps) (π : Path) (s : TypedStatement) (next : Way) → Few (statement j π s next)
    few_statement j π (bodies.Block first is) next =
        few_around π first (items j π 0 is (leads (after π))) next (few_items j π 0 is (leads (after π)))
    few_statement j π (bodies.Empty first) next =
        few_around π first (nothing (leads (after π))) next (few_nothing (leads (after π)))
    few_statement j π (bodies.ExpressionStatement x) next =
        let at = below π part.Evaluated in
        few_around π (facts x).first (evaluated at x (leads (after π))) next
        (few_evaluated (evaluation at x) (leads (after π)) (narrow at x))
    few_statement j π (bodies.If keyword x s) next =
        let s_path = below π part.Controlled in
        let first = decided (below π part.Controlling) x (leads (before s_path)) (leads (after π)) in
        let inner = statement j s_path s (leads (after π)) in
        few_around π keyword (in_turn first inner) next
        (few_in_turn first inner (few_decided (below π part.Controlling) x (leads (before s_path)) (leads (after π)))
        (few_statement j s_path s (leads (after π))))
    few_statement j π (bodies.IfElse keyword x s t) next =
        let s_path = below π part.Controlled in
        let t_path = below π part.Otherwise in
        let first = decided (below π part.Controlling) x (leads (before s_path)) (leads (before t_path)) in
        let left = statement j s_path s (leads (after π)) in
        let right = statement j t_path t (leads (after π)) in
        few_around π keyword (in_turn first (in_turn left right)) next
        (few_in_turn first (in_turn left right)
        (few_decided (below π part.Controlling) x (leads (before s_path)) (leads (before t_path)))
        (few_in_turn left right (few_statement j s_path s (leads (after π)))
        (few_statement j t_path t (leads (after π)))))
    few_statement j π (bodies.Switch keyword x s) next =
        let s_path = below π part.Controlled in
        let past = leads (after π) in
        let inner = statement (in_switch j past) s_path s past in
        few_around π keyword (in_turn (switched (below π part.Controlling) x (marks s_path s) past) inner) next
        (few_switch (below π part.Controlling) x (marks s_path s) past inner
        (marks_have_points (in_switch j past) s_path s past) (few_statement (in_switch j past) s_path s past))
    few_statement j π (bodies.While keyword x s) next =
        let s_path = below π part.Controlled in
        let past = leads (after π) in
        let again = decided (below π part.Controlling) x (leads (before s_path)) past in
        let inner = statement (in_loop j past again.enters) s_path s again.enters in
        few_around π keyword (in_turn again inner) next
        (few_in_turn again inner (few_decided (below π part.Controlling) x (leads (before s_path)) past)
        (few_statement (in_loop j past again.enters) s_path s again.enters))
    few_statement j π (bodies.Do keyword s x) next =
        let s_path = below π part.DoBody in
        let past = leads (after π) in
        let again = decided (below π part.DoTest) x (leads (before s_path)) past in
        let inner = statement (in_loop j past again.enters) s_path s again.enters in
        few_around π keyword (in_turn inner again) next
        (few_in_turn inner again (few_statement (in_loop j past again.enters) s_path s again.enters)
        (few_decided (below π part.DoTest) x (leads (before s_path)) past))
    few_statement j π (bodies.For keyword start x step s) next =
        let s_path = below π part.ForBody in
        let past = leads (after π) in
        let again = maybe_decided (below π part.ForTest) x (leads (before s_path)) past in
        let stepped = maybe_evaluated (below π part.ForStep) step again.enters in
        let first = started (below π part.ForStart) start again.enters in
        let inner = statement (in_loop j past stepped.enters) s_path s stepped.enters in
        few_around π keyword (in_turn first (in_turn again (in_turn stepped inner))) next
        (few_in_turn first (in_turn again (in_turn stepped inner))
        (few_started (below π part.ForStart) start again.enters)
        (few_in_turn again (in_turn stepped inner)
        (few_maybe_decided (below π part.ForTest) x (leads (before s_path)) past)
        (few_in_turn stepped inner (few_maybe_evaluated (below π part.ForStep) step again.enters)
        (few_statement (in_loop j past stepped.enters) s_path s stepped.enters))))
    few_statement j π (bodies.Case keyword in_switch x v s) next =
        let inner = below π part.CaseBody in
        few_around π keyword (statement j inner s (leads (after π))) next (few_statement j inner s (leads (after π)))
    few_statement j π (bodies.Default keyword in_switch s) next =
        let inner = below π part.Labelled in
        few_around π keyword (statement j inner s (leads (after π))) next (few_statement j inner s (leads (after π)))
    few_statement j π (bodies.Label keyword name s) next =
        let inner = below π part.Labelled in
        few_around π keyword (statement j inner s (leads (after π))) next (few_statement j inner s (leads (after π)))
    few_statement j π (bodies.Goto keyword name) next =
        let to = leads (labelled name j.labels (after π)) in
        few_around π keyword (nothing to) next (few_nothing to)
    few_statement j π (bodies.Jump keyword to found) next =
        few_around π keyword (nothing (jumped j to)) next (few_nothing (jumped j to))
    few_statement j π (bodies.Return keyword) next =
        few_around π keyword (nothing j.returned) next (few_nothing j.returned)
    few_statement j π (bodies.ReturnValue keyword result x) next =
        let at = below π part.Evaluated in
        let e = Then (evaluation at x) (Does (Give π)) in
        few_around π keyword (passage [] e j.returned) next (few_evaluated e j.returned (narrow at x, tt))

    few_items : (j : Jumps) (π : Path) (k : ℕ) (is : TypedItems) (next : Way) → Few (items j π k is next)
    few_items j π k bodies.NoItems next = few_nothing next
    few_items j π k (bodies.DeclarationItem d rest) next =
        let here = below π (part.Item k) in
        let later = items j π (suc k) rest next in
        few_in_turn (declaration here d later.enters) later (few_declaration here d later.enters)
        (few_items j π (suc k) rest next)
    few_items j π k (bodies.StatementItem s rest) next =
        let here = below π (part.Item k) in
        let later = items j π (suc k) rest next in
        few_in_turn (statement j here s later.enters) later (few_statement j here s later.enters)
        (few_items j π (suc k) rest next)

  few_inside : (f : TypedFunction) (out : Way) → Few (inside f out)
  few_inside f out = few_items _ [] 0 f.items out

  few_plain : (name : Token) (s : Passage) → Few s → Few (plain_body name s)
  few_plain name s inner =
      let first = passing entry Passes name s.enters in
      let last = ending name in
      few_in_turn first (in_turn s last) (few_passing entry Passes name s.enters)
      (few_in_turn s last inner (few_point exit Ends name [] (omega arith)))

  few_pair : (name : Token) (s : Passage) → Few s → Few (pair_body name s)
  few_pair name s inner =
      let first = passing entry Passes name (leads pair_entered) in
      let enters = passing pair_entered EntersPair name s.enters in
      let leaves = passing pair_left LeavesPair name (leads exit) in
      let last = ending name in
      few_in_turn first (in_turn enters (in_turn s (in_turn leaves last)))
      (few_passing entry Passes name (leads pair_entered))
      (few_in_turn enters (in_turn s (in_turn leaves last)) (few_passing pair_entered EntersPair name s.enters)
      (few_in_turn s (in_turn leaves last) inner
      (few_in_turn leaves last (few_passing pair_left LeavesPair name (leads exit))
      (few_point exit Ends name [] (omega arith)))))

  few_whole : (f : TypedFunction) → Few (whole f)
  few_whole f =
      let name = f.declared.entry.at in
      let paired = inside f (leads pair_left) in
      let plain = inside f (leads exit) in
      few_either (status_in f.items) (pair_body name paired) (plain_body name plain)
      (few_pair name paired (few_inside f (leads pair_left))) (few_plain name plain (few_inside f (leads exit)))

pub edges_are_few : EdgesAreFew
edges_are_few f d listed =
    let n = length (points f) + 6 in
    All-contains (λ q. length q.edges ≤ n) (points f) d
    (All-from_recursion (λ q. length q.edges ≤ n) (points f) (few_whole n f (omega arith))) listed
