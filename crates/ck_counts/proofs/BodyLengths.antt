-- Declarations, statements and functions have as many points as they are said to have.
use Rattle.std.proofs.Common.{◌≡◌, ℕ, suc, ◌+◌, Bool, true, false, List, [], ◌∷◌, ◌++◌, length, refl, sym, ap, ◌∙◌}
use Rattle.std.proofs.Common.{arith}
use Rattle.std.specs.Prelude.{◌||◌, Option, Some, None, if◌then◌else◌}
use Rattle.ck_base.specs.declared.tokens.Token.{Token}
use Rattle.ck_points.specs.Evaluations as form
use Rattle.ck_points.specs.Evaluations.{Evaluation, evaluation}
use Rattle.ck_points.specs.Functions.{status_in, entry, exit, pair_entered, pair_left, inside, ending, plain_body}
use Rattle.ck_points.specs.Functions.{pair_body, whole, points}
use Rattle.ck_points.specs.Initialising.{when_reached as reached, initialising, initialising_from, is_automatic}
use Rattle.ck_points.specs.Initialising.{declared, declaring, has_initialiser}
use Rattle.ck_points.specs.Labels.{labels_from, labelled, marks, Marked, switch_edges}
use Rattle.ck_points.specs.Passages.{Passage, nothing, in_turn, all_in_turn, point, passing, either_way, passage}
use Rattle.ck_points.specs.Places.{before, test, after, Passes, EntersPair, LeavesPair, Way, Edge, leads}
use Rattle.ck_points.specs.Statements.{Jumps, in_switch, in_loop, evaluated, around, tested, decided, switched}
use Rattle.ck_points.specs.Statements.{maybe_decided, maybe_evaluated, declaration, started, statement, items, jumped}
use Rattle.ck_prog.specs.Paths as part
use Rattle.ck_prog.specs.Paths.{Path, below}
use Rattle.ck_prog.specs.TypedBodies as bodies
use Rattle.ck_prog.specs.TypedBodies.{DeclaredFacts, TypedInitialiser, TypedInitialisers, TypedDeclarators}
use Rattle.ck_prog.specs.TypedBodies.{TypedDeclaration, TypedStart, TypedStatement, TypedItems, TypedFunction}
use Rattle.ck_prog.specs.TypedTrees.{Typed, facts}
use Rattle.ck_counts.specs.BodyPoints.{expression_points, initialiser_points, initialisers_points, declared_points}
use Rattle.ck_counts.specs.BodyPoints.{declarators_points, declaration_points, start_points, tested_points}
use Rattle.ck_counts.specs.BodyPoints.{stepped_points, statement_points, items_points, function_points}
use Rattle.ck_counts.specs.EvaluationPoints.{evaluation_points}
use Rattle.ck_counts.proofs.EvaluationLengths.{many, many_of, many-in_turn, many-all_in_turn, passage_points}
use Rattle.ck_counts.proofs.ExpressionExtents.{extent-value}

expression-points : (π : Path) (x : Typed) → evaluation_points (evaluation π x) ≡ expression_points x
expression-points π x = sym (ap (λ v. v.points) (extent-value π x))

-- initialisers and declarators ---------------------------------------------------------------------------------------

reached_by : (b : Bool) (e : Evaluation) (n : ℕ) → evaluation_points e ≡ n →
    evaluation_points (if b then form.Nothing else e) ≡ (if b then 0 else n)
reached_by true e n same = refl
reached_by false e n same = same

mutual
  initialiser-points : (π : Path) (i : TypedInitialiser) →
      evaluation_points (initialising π i) ≡ initialiser_points i
  initialiser-points π (bodies.Value f x) =
      let inside = expression-points π x in
      reached_by f.static (form.Then (evaluation π x) (form.Does (form.Initialise π))) (expression_points x)
      (omega (arith, inside))
  initialiser-points π (bodies.Braces f is) =
      let inside = initialisers-points π 0 is in
      reached_by f.static (form.Then (form.Does (form.Clear π)) (initialising_from π 0 is)) (initialisers_points is)
      (omega (arith, inside))

  initialisers-points : (π : Path) (k : ℕ) (is : TypedInitialisers) →
      evaluation_points (initialising_from π k is) ≡ initialisers_points is
  initialisers-points π k bodies.NoInitialisers = refl
  initialisers-points π k (bodies.Initialiser ds i rest) =
      let first = initialiser-points (below π (part.ElementOf k)) i in
      let later = initialisers-points π (suc k) rest in
      omega (arith, first, later)

forgotten : (b : Bool) (π : Path) → evaluation_points (if b then form.Does (form.Forget π) else form.Nothing) ≡ 0
forgotten true π = refl
forgotten false π = refl

declared-points : (π : Path) (f : DeclaredFacts) (i : Option TypedInitialiser) →
    evaluation_points (declared π f i) ≡ declared_points i
declared-points π f None = forgotten (is_automatic f.entry.meaning) π
declared-points π f (Some i) = initialiser-points π i

declaring-points : (π : Path) (k : ℕ) (ds : TypedDeclarators) →
    evaluation_points (declaring π k ds) ≡ declarators_points ds
declaring-points π k bodies.NoDeclared = refl
declaring-points π k (bodies.Declared written f i rest) =
    let first = declared-points (below π (part.InitialiserOf k)) f i in
    let later = declaring-points π (suc k) rest in
    omega (arith, first, later)

-- parts of statements ------------------------------------------------------------------------------------------------

many-around : (π : Path) (first : Token) (p : Passage) (next : Way) → many (around π first p next) ≡ 2 + many p
many-around π first p next =
    let last = passing (after π) Passes first next in
    let first_is = many-in_turn (passing (before π) Passes first p.enters) (in_turn p last) in
    let rest = many-in_turn p last in
    omega (arith, first_is, rest)

many-evaluated : (π : Path) (x : Typed) (next : Way) → many (evaluated π x next) ≡ expression_points x
many-evaluated π x next = passage_points [] (evaluation π x) next ∙ expression-points π x

many-tested : (π : Path) (x : Typed) (es : List Edge) → many (tested π x es) ≡ 1 + expression_points x
many-tested π x es =
    let first = many-evaluated π x (leads (test π)) in
    let both = many-in_turn (evaluated π x (leads (test π))) (point (test π) Passes (facts x).first es) in
    omega (arith, first, both)

many-decided : (π : Path) (x : Typed) (holds fails : Way) → many (decided π x holds fails) ≡ 1 + expression_points x
many-decided π x holds fails = many-tested π x (either_way (facts x).sense.constancy holds fails)

many-switched : (π : Path) (x : Typed) (ms : List Marked) (past : Way) →
    many (switched π x ms past) ≡ 1 + expression_points x
many-switched π x ms past = many-tested π x (switch_edges (facts x).sense.constancy ms past)

many-maybe_decided : (π : Path) (x : Option Typed) (holds fails : Way) →
    many (maybe_decided π x holds fails) ≡ tested_points x
many-maybe_decided π None holds fails = refl
many-maybe_decided π (Some x) holds fails = many-decided π x holds fails

many-maybe_evaluated : (π : Path) (x : Option Typed) (next : Way) →
    many (maybe_evaluated π x next) ≡ stepped_points x
many-maybe_evaluated π None next = refl
many-maybe_evaluated π (Some x) next = many-evaluated π x next

-- declarations -------------------------------------------------------------------------------------------------------

declaration_by : (b : Bool) (p q : Passage) (n : ℕ) → many p ≡ 2 + n → many q ≡ n →
    many (if b then p else q) ≡ (if b then 2 else 0) + n
declaration_by true p q n both alone = both
declaration_by false p q n both alone = omega (arith, alone)

many-declaration : (π : Path) (d : TypedDeclaration) (next : Way) →
    many (declaration π d next) ≡ declaration_points d
many-declaration π (bodies.Declaration first written ds) next =
    let own = passage [] (declaring π 0 ds) (leads (after π)) in
    let framed = many-around π first own next in
    let inside = passage_points [] (declaring π 0 ds) (leads (after π)) ∙ declaring-points π 0 ds in
    declaration_by (has_initialiser ds) (around π first own next) (passage [] (declaring π 0 ds) next)
    (declarators_points ds) (omega (arith, framed, inside))
    (passage_points [] (declaring π 0 ds) next ∙ declaring-points π 0 ds)

many-started : (π : Path) (s : TypedStart) (next : Way) → many (started π s next) ≡ start_points s
many-started π bodies.StartEmpty next = refl
many-started π (bodies.StartExpression x) next = many-evaluated π x next
many-started π (bodies.StartDeclaration d) next = many-declaration π d next

-- statements ---------------------------------------------------------------------------------------------------------

many-simple : (π : Path) (first : Token) (to next : Way) → many (around π first (nothing to) next) ≡ 2
many-simple π first to next = let framed = many-around π first (nothing to) next in omega (arith, framed)

-- a controlling expression, and a statement after it or before it
many-controlled : (π : Path) (first : Token) (p q : Passage) (next : Way) (x : Typed) (n : ℕ) →
    many p ≡ 1 + expression_points x → many q ≡ n →
    many (around π first (in_turn p q) next) ≡ (3 + expression_points x) + n
many-controlled π first p q next x n test body =
    let framed = many-around π first (in_turn p q) next in
    let both = many-in_turn p q in
    omega (arith, framed, both, test, body)

many-labelled : (π : Path) (first : Token) (p : Passage) (next : Way) (n : ℕ) → many p ≡ n →
    many (around π first p next) ≡ 2 + n
many-labelled π first p next n body = let framed = many-around π first p next in omega (arith, framed, body)

mutual
  many-statement : (j : Jumps) (π : Path) (s : TypedStatement) (next : Way) →
      many (statement j π s next) ≡ statement_points s
  many-statement j π (bodies.Block first is) next =
      many-labelled π first (items j π 0 is (leads (after π))) next (items_points is)
      (many-items j π 0 is (leads (after π)))
  many-statement j π (bodies.Empty first) next = many-simple π first (leads (after π)) next
  many-statement j π (bodies.ExpressionStatement x) next =
      many-labelled π (facts x).first (evaluated (below π part.Evaluated) x (leads (after π))) next
      (expression_points x) (many-evaluated (below π part.Evaluated) x (leads (after π)))
  many-statement j π (bodies.If keyword x s) next =
      let ρ = below π part.Controlled in
      let past = leads (after π) in
      let again = decided (below π part.Controlling) x (leads (before ρ)) past in
      many-controlled π keyword again (statement j ρ s past) next x (statement_points s)
      (many-decided (below π part.Controlling) x (leads (before ρ)) past) (many-statement j ρ s past)
  many-statement j π (bodies.IfElse keyword x s t) next =
      let ρ = below π part.Controlled in
      let σ = below π part.Otherwise in
      let past = leads (after π) in
      let first = many-statement j ρ s past in
      let second = many-statement j σ t past in
      let both = many-in_turn (statement j ρ s past) (statement j σ t past) in
      many-controlled π keyword (decided (below π part.Controlling) x (leads (before ρ)) (leads (before σ)))
      (in_turn (statement j ρ s past) (statement j σ t past)) next x (statement_points s + statement_points t)
      (many-decided (below π part.Controlling) x (leads (before ρ)) (leads (before σ)))
      (omega (arith, first, second, both))
  many-statement j π (bodies.Switch keyword x s) next =
      let ρ = below π part.Controlled in
      let past = leads (after π) in
      many-controlled π keyword (switched (below π part.Controlling) x (marks ρ s) past)
      (statement (in_switch j past) ρ s past) next x (statement_points s)
      (many-switched (below π part.Controlling) x (marks ρ s) past) (many-statement (in_switch j past) ρ s past)
  many-statement j π (bodies.While keyword x s) next =
      let ρ = below π part.Controlled in
      let past = leads (after π) in
      let again = decided (below π part.Controlling) x (leads (before ρ)) past in
      many-controlled π keyword again (statement (in_loop j past again.enters) ρ s again.enters) next x
      (statement_points s) (many-decided (below π part.Controlling) x (leads (before ρ)) past)
      (many-statement (in_loop j past again.enters) ρ s again.enters)
  many-statement j π (bodies.Do keyword s x) next =
      let ρ = below π part.DoBody in
      let past = leads (after π) in
      let again = decided (below π part.DoTest) x (leads (before ρ)) past in
      let body = statement (in_loop j past again.enters) ρ s again.enters in
      let first = many-decided (below π part.DoTest) x (leads (before ρ)) past in
      let second = many-statement (in_loop j past again.enters) ρ s again.enters in
      let framed = many-around π keyword (in_turn body again) next in
      let both = many-in_turn body again in
      omega (arith, framed, both, first, second)
  many-statement j π (bodies.For keyword start x step s) next =
      let ρ = below π part.ForBody in
      let past = leads (after π) in
      let again = maybe_decided (below π part.ForTest) x (leads (before ρ)) past in
      let stepped = maybe_evaluated (below π part.ForStep) step again.enters in
      let begun = started (below π part.ForStart) start again.enters in
      let body = statement (in_loop j past stepped.enters) ρ s stepped.enters in
      let first = many-started (below π part.ForStart) start again.enters in
      let second = many-maybe_decided (below π part.ForTest) x (leads (before ρ)) past in
      let third = many-maybe_evaluated (below π part.ForStep) step again.enters in
      let fourth = many-statement (in_loop j past stepped.enters) ρ s stepped.enters in
      let all = many-all_in_turn begun (again ∷ stepped ∷ body ∷ []) in
      let framed = many-around π keyword (all_in_turn begun (again ∷ stepped ∷ body ∷ [])) next in
      omega (arith, framed, all, first, second, third, fourth)
  many-statement j π (bodies.Case keyword in_switch x v s) next =
      many-labelled π keyword (statement j (below π part.CaseBody) s (leads (after π))) next (statement_points s)
      (many-statement j (below π part.CaseBody) s (leads (after π)))
  many-statement j π (bodies.Default keyword in_switch s) next =
      many-labelled π keyword (statement j (below π part.Labelled) s (leads (after π))) next (statement_points s)
      (many-statement j (below π part.Labelled) s (leads (after π)))
  many-statement j π (bodies.Label keyword name s) next =
      many-labelled π keyword (statement j (below π part.Labelled) s (leads (after π))) next (statement_points s)
      (many-statement j (below π part.Labelled) s (leads (after π)))
  many-statement j π (bodies.Goto keyword name) next =
      many-simple π keyword (leads (labelled name j.labels (after π))) next
  many-statement j π (bodies.Jump keyword to found) next = many-simple π keyword (jumped j to) next
  many-statement j π (bodies.Return keyword) next = many-simple π keyword j.returned next
  many-statement j π (bodies.ReturnValue keyword result x) next =
      let given = form.Then (evaluation (below π part.Evaluated) x) (form.Does (form.Give π)) in
      let inside = passage_points [] given j.returned in
      let value = expression-points (below π part.Evaluated) x in
      many-labelled π keyword (passage [] given j.returned) next (expression_points x)
      (omega (arith, inside, value))

  many-items : (j : Jumps) (π : Path) (k : ℕ) (is : TypedItems) (next : Way) →
      many (items j π k is next) ≡ items_points is
  many-items j π k bodies.NoItems next = refl
  many-items j π k (bodies.DeclarationItem d rest) next =
      let later = items j π (suc k) rest next in
      let ρ = below π (part.Item k) in
      let first = many-declaration ρ d later.enters in
      let others = many-items j π (suc k) rest next in
      let both = many-in_turn (declaration ρ d later.enters) later in
      omega (arith, first, others, both)
  many-items j π k (bodies.StatementItem s rest) next =
      let later = items j π (suc k) rest next in
      let ρ = below π (part.Item k) in
      let first = many-statement j ρ s later.enters in
      let others = many-items j π (suc k) rest next in
      let both = many-in_turn (statement j ρ s later.enters) later in
      omega (arith, first, others, both)

-- functions ----------------------------------------------------------------------------------------------------------

many-inside : (f : TypedFunction) (out : Way) → many (inside f out) ≡ items_points f.items
many-inside f out =
    many-items (record { broken = out; continued = out; returned = out; labels = labels_from [] 0 f.items }) [] 0
    f.items out

many-plain_body : (name : Token) (p : Passage) (n : ℕ) → many p ≡ n → many (plain_body name p) ≡ 2 + n
many-plain_body name p n same =
    let all = many-all_in_turn (passing entry Passes name p.enters) (p ∷ ending name ∷ []) in
    omega (arith, all, same)

many-pair_body : (name : Token) (p : Passage) (n : ℕ) → many p ≡ n → many (pair_body name p) ≡ 4 + n
many-pair_body name p n same =
    let all =
    many-all_in_turn (passing entry Passes name (leads pair_entered))
    (passing pair_entered EntersPair name p.enters ∷ p ∷ passing pair_left LeavesPair name (leads exit)
    ∷ ending name ∷ []) in
    omega (arith, all, same)

whole_by : (b : Bool) (p q : Passage) (n : ℕ) → many p ≡ 4 + n → many q ≡ 2 + n →
    many (if b then p else q) ≡ (if b then 4 else 2) + n
whole_by true p q n pair plain = pair
whole_by false p q n pair plain = plain

pub length-points : (f : TypedFunction) → length (points f) ≡ function_points f
length-points f =
    let name = f.declared.entry.at in
    whole_by (status_in f.items) (pair_body name (inside f (leads pair_left)))
    (plain_body name (inside f (leads exit))) (items_points f.items)
    (many-pair_body name (inside f (leads pair_left)) (items_points f.items) (many-inside f (leads pair_left)))
    (many-plain_body name (inside f (leads exit)) (items_points f.items) (many-inside f (leads exit)))
