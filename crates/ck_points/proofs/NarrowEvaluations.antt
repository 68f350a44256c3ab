-- A point of what is evaluated for an expression, an initialiser or a declarator has at most six edges: those are the
-- orders of three operands.
use Rattle.std.proofs.Common.{◌≡◌, refl, arith}
use Rattle.std.specs.Prelude.{⊤, ◌≤◌, ℕ, suc, Bool, true, false, List, [], ◌∷◌, ◌++◌, length, map}
use Rattle.std.specs.Prelude.{Option, Some, None}
use Rattle.std.specs.Prelude.{if◌then◌else◌}
use Rattle.std.specs.List.{AllByRecursion as Each}
use Rattle.std.proofs.lemmas.List.{length-map}
use Rattle.ck_prog.specs.Declarations.{Entry}
use Rattle.ck_prog.specs.Paths as part
use Rattle.ck_prog.specs.Paths.{Path, below}
use Rattle.ck_prog.specs.Senses.{Constancy, Varying, Valueless, Known}
use Rattle.ck_prog.specs.TypedBodies as bodies
use Rattle.ck_prog.specs.TypedBodies.{DeclaredFacts, TypedInitialiser, TypedInitialisers, TypedDeclarators}
use Rattle.ck_prog.specs.TypedTrees as trees
use Rattle.ck_prog.specs.TypedTrees.{Typed, Links, Arguments, Steps, Facts, facts}
use Rattle.ck_prog.specs.declared.operators.Operator.{Operator}
use Rattle.ck_prog.specs.declared.operators.Operator.TheVariants.{Binary, And, Or, Comma}
use Rattle.ck_points.specs.Evaluations as form
use Rattle.ck_points.specs.Evaluations.{Node, Evaluation, Orders, Value, applied, unsequenced, operands, linked}
use Rattle.ck_points.specs.Evaluations.{called, suffixed, arranged, with_calls, orders_of, any_of, listed, evaluation}
use Rattle.ck_points.specs.Evaluations.{after_links, values_of, after_steps}
use Rattle.ck_points.specs.Initialising.{initialising, initialising_from, is_automatic, declared, declaring}
use Rattle.ck_points.specs.Passages.{Passage, point, passing, either_way, order_edges, passage, each_order}
use Rattle.ck_points.specs.Places.{Split, Before, Test, After, place, Passes, Point, Way, leads}
use Rattle.ck_points.proofs.PassagesStay.{each_append}
use Rattle.ck_points.proofs.PointsApart.{each_part}

-- evaluations with at most six orders --------------------------------------------------------------------------------

abbrev count_of : Orders → ℕ
count_of form.NoOrders = 0
count_of (form.Order e es) = suc (count_of es)

abbrev mutual
  pub Narrow : Evaluation → Type 0
  Narrow form.Nothing = ⊤
  Narrow (form.Does d) = ⊤
  Narrow (form.Then a b) = Narrow a × Narrow b
  Narrow (form.Call n function e) = Narrow e
  Narrow (form.InAnyOrder n es) = (count_of es ≤ 6) × AllNarrow es
  Narrow (form.Choice t e a b meeting) = Narrow e × (Narrow a × Narrow b)

  AllNarrow : Orders → Type 0
  AllNarrow form.NoOrders = ⊤
  AllNarrow (form.Order e es) = Narrow e × AllNarrow es

-- their points -------------------------------------------------------------------------------------------------------

abbrev pub AtMostSix : Point → Type 0
AtMostSix q = length q.edges ≤ 6

one : 1 ≤ 6
one = omega arith

pub length-either_way : (c : Constancy) (holds fails : Way) → length (either_way c holds fails) ≤ 6
length-either_way (Known v) holds fails = omega arith
length-either_way Varying holds fails = omega arith
length-either_way Valueless holds fails = omega arith

length-order_edges : (k : ℕ) (ps : List Passage) → length (order_edges k ps) ≡ length ps
length-order_edges k [] = refl
length-order_edges k (p ∷ ps) = let rest = length-order_edges (suc k) ps in omega (arith, rest)

length-each_order : (orders : List ℕ) (k : ℕ) (es : Orders) (next : Way)
    → length (each_order orders k es next) ≡ count_of es
length-each_order orders k form.NoOrders next = refl
length-each_order orders k (form.Order e es) next =
    let rest = length-each_order orders (suc k) es next in omega (arith, rest)

split_edges : (orders : List ℕ) (es : Orders) (next : Way) → count_of es ≤ 6
    → length (order_edges 1 (each_order orders 1 es next)) ≤ 6
split_edges orders es next few =
    omega (arith, few, length-order_edges 1 (each_order orders 1 es next), length-each_order orders 1 es next)

mutual
  pub few_of_evaluation : (orders : List ℕ) (e : Evaluation) (next : Way) → Narrow e
      → Each AtMostSix (passage orders e next).points
  few_of_evaluation orders form.Nothing next narrow = tt
  few_of_evaluation orders (form.Does d) next narrow = tt
  few_of_evaluation orders (form.Then a b) next narrow =
      let later = passage orders b next in
      each_append AtMostSix (passage orders a later.enters).points later.points
      (few_of_evaluation orders a later.enters narrow.0) (few_of_evaluation orders b next narrow.1)
  few_of_evaluation orders (form.Call n function e) next narrow =
      let start = leads (place n.path orders Before) in
      each_append AtMostSix (passage orders e start).points _ (few_of_evaluation orders e start narrow) (one, (one, tt))
  few_of_evaluation orders (form.InAnyOrder n es) next narrow =
      let ps = each_order orders 1 es next in
      each_part AtMostSix (point (place n.path orders Split) Passes n.first (order_edges 1 ps)) ps
      (split_edges orders es next narrow.0, tt) (few_of_orders orders 1 es next narrow.1)
  few_of_evaluation orders (form.Choice t e a b meeting) next narrow =
      let start = leads (place t.at.path orders Test) in
      let meet = leads (place meeting.path orders After) in
      let holds = passage orders a meet in
      let fails = passage orders b meet in
      each_part AtMostSix (passage orders e start)
      (point start.to Passes t.at.first (either_way t.constancy holds.enters fails.enters) ∷ holds ∷ fails
      ∷ passing meet.to Passes meeting.first next ∷ []) (few_of_evaluation orders e start narrow.0) (
        (length-either_way t.constancy holds.enters fails.enters, tt),
        (
          few_of_evaluation orders a meet narrow.1.0,
          (few_of_evaluation orders b meet narrow.1.1, ((one, tt), tt)),
        ),
      )

  few_of_orders : (orders : List ℕ) (k : ℕ) (es : Orders) (next : Way) → AllNarrow es
      → Each (λ p. Each AtMostSix p.points) (each_order orders k es next)
  few_of_orders orders k form.NoOrders next narrow = tt
  few_of_orders orders k (form.Order e es) next narrow =
      (few_of_evaluation (orders ++ (k ∷ [])) e next narrow.0, few_of_orders orders (suc k) es next narrow.1)

-- operands -----------------------------------------------------------------------------------------------------------

narrow_either : (b : Bool) (x y : Evaluation) → Narrow x → Narrow y → Narrow (if b then x else y)
narrow_either true x y first second = first
narrow_either false x y first second = second

abbrev NarrowValue : Value → Type 0
NarrowValue v = Narrow v.evaluation

narrow_arranged : (vs : List Value) (order : List Evaluation) → Each NarrowValue vs → Each Narrow order
    → Narrow (arranged vs order)
narrow_arranged [] order values narrow = tt
narrow_arranged (v ∷ vs) [] values narrow =
    let rest = narrow_arranged vs [] values.1 narrow in
    narrow_either v.facts.holds_call (arranged vs []) (form.Then v.evaluation (arranged vs [])) rest (values.0, rest)
narrow_arranged (v ∷ vs) (e ∷ order) values narrow =
    narrow_either v.facts.holds_call (form.Then e (arranged vs order))
    (form.Then v.evaluation (arranged vs (e ∷ order))) (narrow.0, narrow_arranged vs order values.1 narrow.1)
    (values.0, narrow_arranged vs (e ∷ order) values.1 narrow)

either_list : (b : Bool) (xs ys : List Evaluation) → Each Narrow xs → Each Narrow ys
    → Each Narrow (if b then xs else ys)
either_list true xs ys first second = first
either_list false xs ys first second = second

narrow_calls : (vs : List Value) → Each NarrowValue vs → Each Narrow (with_calls vs)
narrow_calls [] values = tt
narrow_calls (v ∷ vs) values =
    let rest = narrow_calls vs values.1 in
    either_list v.facts.holds_call (v.evaluation ∷ with_calls vs) (with_calls vs) (values.0, rest) rest

narrow_orders : (es : List Evaluation) → Each Narrow es → Each (Each Narrow) (orders_of es)
narrow_orders [] n = (tt, tt)
narrow_orders (a ∷ []) n = (n, tt)
narrow_orders (a ∷ b ∷ []) n = (n, ((n.1.0, (n.0, tt)), tt))
narrow_orders (a ∷ b ∷ c ∷ []) n =
    let x = n.0 in
    let y = n.1.0 in
    let z = n.1.1.0 in (
      (x, (y, (z, tt))),
      (
        (x, (z, (y, tt))),
        (
          (y, (x, (z, tt))),
          (
            (y, (z, (x, tt))),
            (
              (z, (x, (y, tt))),
              ((z, (y, (x, tt))), tt),
            ),
          ),
        ),
      ),
    )
narrow_orders (a ∷ b ∷ c ∷ d ∷ es) n = (n, tt)

length-orders_of : (es : List Evaluation) → length (orders_of es) ≤ 6
length-orders_of [] = omega arith
length-orders_of (a ∷ []) = omega arith
length-orders_of (a ∷ b ∷ []) = omega arith
length-orders_of (a ∷ b ∷ c ∷ []) = omega arith
length-orders_of (a ∷ b ∷ c ∷ d ∷ es) = omega arith

narrow_map : (vs : List Value) (orders : List (List Evaluation)) → Each NarrowValue vs → Each (Each Narrow) orders
    → Each Narrow (map (arranged vs) orders)
narrow_map vs [] values narrow = tt
narrow_map vs (order ∷ orders) values narrow =
    (narrow_arranged vs order values narrow.0, narrow_map vs orders values narrow.1)

count_of-listed : (es : List Evaluation) → count_of (listed es) ≡ length es
count_of-listed [] = refl
count_of-listed (e ∷ es) = let rest = count_of-listed es in omega (arith, rest)

narrow_listed : (es : List Evaluation) → Each Narrow es → AllNarrow (listed es)
narrow_listed [] narrow = tt
narrow_listed (e ∷ es) narrow = (narrow.0, narrow_listed es narrow.1)

narrow_any : (n : Node) (es : List Evaluation) → length es ≤ 6 → Each Narrow es → Narrow (any_of n es)
narrow_any n [] few narrow = (omega arith, tt)
narrow_any n (e ∷ []) few narrow = narrow.0
narrow_any n (a ∷ b ∷ es) few narrow =
    let count = count_of-listed (a ∷ b ∷ es) in (omega (arith, few, count), narrow_listed (a ∷ b ∷ es) narrow)

narrow_unsequenced : (n : Node) (vs : List Value) → Each NarrowValue vs → Narrow (unsequenced n vs)
narrow_unsequenced n vs values =
    let orders = orders_of (with_calls vs) in
    let long = length-map orders (arranged vs) in
    let few = length-orders_of (with_calls vs) in
    narrow_any n (map (arranged vs) orders) (omega (arith, long, few))
    (narrow_map vs orders values (narrow_orders (with_calls vs) (narrow_calls vs values)))

-- expressions --------------------------------------------------------------------------------------------------------

narrow_applied : (π : Path) (f : Facts) (e : Evaluation) → Narrow e → Narrow (applied π f e)
narrow_applied π f e narrow =
    narrow_either f.holds_call (form.Then e (form.Does (form.Apply π))) (form.Does (form.Evaluate π)) (narrow, tt) tt

narrow_operands : (op : Operator) (n : Node) (left right : Value) → NarrowValue left → NarrowValue right
    → Narrow (operands op n left right)
narrow_operands And n left right first second = (first, (second, tt))
narrow_operands Or n left right first second = (first, (tt, second))
narrow_operands Comma n left right first second = (first, second)
narrow_operands (Binary op) n left right first second =
    narrow_unsequenced n (left ∷ right ∷ []) (first, (second, tt))

narrow_called : (function : Option Entry) (v : Value) (vs : List Value) → NarrowValue v → Each NarrowValue vs
    → Each NarrowValue (called function v vs)
narrow_called None v vs first rest = (first, rest)
narrow_called (Some e) v vs first rest = rest

abbrev value : Path → Typed → Value
value π x = record { path = π; facts = facts x; evaluation = evaluation π x }

mutual
  pub narrow : (π : Path) (x : Typed) → Narrow (evaluation π x)
  narrow π (trees.Name f e) = tt
  narrow π (trees.Constant f) = tt
  narrow π (trees.Strings f ts) = tt
  narrow π (trees.SizeofType f written) = tt
  narrow π (trees.Paren f x) = narrow_applied π f _ (narrow (below π part.Enclosed) x)
  narrow π (trees.Unary f op x) = narrow_applied π f _ (narrow (below π part.Enclosed) x)
  narrow π (trees.Cast f written x) = narrow_applied π f _ (narrow (below π part.Enclosed) x)
  narrow π (trees.Postfix x steps) =
      let ρ = below π part.Primary in narrow_steps π 0 (value ρ x) steps (narrow ρ x)
  narrow π (trees.Chain x links) =
      let ρ = below π (part.Operand 0) in narrow_links π 0 (value ρ x) links (narrow ρ x)
  narrow π (trees.Conditional f test a b) =
      narrow_applied π f _
      (narrow (below π part.Condition) test, (narrow (below π part.Second) a, narrow (below π part.Third) b))
  narrow π (trees.Assignment f op a b) =
      let left = below π part.Left in
      let right = below π part.Right in
      narrow_applied π f _
      (narrow_unsequenced (record { path = π; first = f.first }) (value left a ∷ value right b ∷ [])
      (narrow left a, (narrow right b, tt)))

  narrow_links : (π : Path) (k : ℕ) (v : Value) (links : Links) → NarrowValue v
      → Narrow (after_links π k v links)
  narrow_links π k v trees.NoLinks first = first
  narrow_links π k v (trees.Link op x f rest) first =
      let at = below π (part.OperatorOf k) in
      let ρ = below π (part.Operand (suc k)) in
      narrow_links π (suc k) (linked op at f v (value ρ x)) rest
      (narrow_applied at f _
      (narrow_operands op (record { path = at; first = f.first }) v (value ρ x) first (narrow ρ x)))

  narrow_values : (π : Path) (k : ℕ) (es : Arguments) → Each NarrowValue (values_of π k es)
  narrow_values π k trees.NoArguments = tt
  narrow_values π k (trees.Argument x rest) = (narrow (below π (part.ArgumentOf k)) x, narrow_values π (suc k) rest)

  narrow_steps : (π : Path) (k : ℕ) (v : Value) (steps : Steps) → NarrowValue v
      → Narrow (after_steps π k v steps)
  narrow_steps π k v trees.NoSteps first = first
  narrow_steps π k v (trees.Index opening x f rest) first =
      let here = below π (part.Suffix k) in
      let ρ = below here part.IndexOf in
      narrow_steps π (suc k) _ rest
      (narrow_applied here f _
      (narrow_unsequenced (record { path = here; first = f.first }) (v ∷ value ρ x ∷ [])
      (first, (narrow ρ x, tt))))
  narrow_steps π k v (trees.Call opening function es f rest) first =
      let here = below π (part.Suffix k) in
      narrow_steps π (suc k) _ rest
      (narrow_unsequenced (record { path = here; first = f.first }) (called function v (values_of here 0 es))
      (narrow_called function v (values_of here 0 es) first (narrow_values here 0 es)))
  narrow_steps π k v (trees.Access is_dot name m f rest) first =
      narrow_steps π (suc k) _ rest (narrow_applied (below π (part.Suffix k)) f v.evaluation first)
  narrow_steps π k v (trees.PostIncrement t op f rest) first =
      narrow_steps π (suc k) _ rest (narrow_applied (below π (part.Suffix k)) f v.evaluation first)

-- declarations -------------------------------------------------------------------------------------------------------

mutual
  narrow_initialiser : (π : Path) (i : TypedInitialiser) → Narrow (initialising π i)
  narrow_initialiser π (bodies.Value f x) =
      narrow_either f.static form.Nothing (form.Then (evaluation π x) (form.Does (form.Initialise π))) tt
      (narrow π x, tt)
  narrow_initialiser π (bodies.Braces f is) =
      narrow_either f.static form.Nothing (form.Then (form.Does (form.Clear π)) (initialising_from π 0 is)) tt
      (tt, narrow_initialisers π 0 is)

  narrow_initialisers : (π : Path) (k : ℕ) (is : TypedInitialisers) → Narrow (initialising_from π k is)
  narrow_initialisers π k bodies.NoInitialisers = tt
  narrow_initialisers π k (bodies.Initialiser ds i rest) =
      (narrow_initialiser (below π (part.ElementOf k)) i, narrow_initialisers π (suc k) rest)

narrow_declared : (π : Path) (f : DeclaredFacts) (i : Option TypedInitialiser) → Narrow (declared π f i)
narrow_declared π f None =
    narrow_either (is_automatic f.entry.meaning) (form.Does (form.Forget π)) form.Nothing tt tt
narrow_declared π f (Some i) = narrow_initialiser π i

pub narrow_declaring : (π : Path) (k : ℕ) (ds : TypedDeclarators) → Narrow (declaring π k ds)
narrow_declaring π k bodies.NoDeclared = tt
narrow_declaring π k (bodies.Declared written f i rest) =
    (narrow_declared (below π (part.InitialiserOf k)) f i, narrow_declaring π (suc k) rest)
