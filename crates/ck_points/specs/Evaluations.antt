-- What of an expression is evaluated, and in which order (C99 6.5): its calls, its choices between parts and its
-- operands in any order; all that is between them are deeds. A part goes by its path in the function's body.
use Rattle.std.specs.Prelude.{ℕ, suc, List, [], ◌∷◌, map, Option, Some, None, if◌then◌else◌}
use Rattle.ck_base.specs.declared.tokens.Token.{Token}
use Rattle.ck_prog.specs.Declarations.{Entry}
use Rattle.ck_prog.specs.Paths as part
use Rattle.ck_prog.specs.Paths.{Path, below}
use Rattle.ck_prog.specs.Senses.{Constancy}
use Rattle.ck_prog.specs.TypedTrees as trees
use Rattle.ck_prog.specs.TypedTrees.{Typed, Links, Arguments, Steps, Facts, facts}
use Rattle.ck_prog.specs.declared.operators.Operator.{Operator}
use Rattle.ck_prog.specs.declared.operators.Operator.TheVariants.{Binary, And, Or, Comma}

-- deeds and their order ----------------------------------------------------------------------------------------------

-- what is done at a part without entering another function
pub data Deed : Type 0 where
  -- a part that holds no call is evaluated whole; at an operator of a chain or a suffix, all up to there
  Evaluate : Path → Deed
  -- the operator there is applied to the values of its operands
  Apply : Path → Deed
  -- 6.7.8: all of the object that braces initialise becomes zero
  Clear : Path → Deed
  -- 6.7.8: the object that an expression initialises takes its value
  Initialise : Path → Deed
  -- 6.2.4: a variable without an initialiser has no value from its declaration on
  Forget : Path → Deed
  -- 6.8.6.4: the value of the expression of a `return` becomes that of the call
  Give : Path → Deed

-- a part and the token where it begins, which is the site of its points
pub record Node : Type 0 where
  pub path : Path
  pub first : Token

-- an expression whose value is tested: where its test is, and whether it is constant
pub record Test : Type 0 where
  pub at : Node
  pub constancy : Constancy

mutual
  pub data Evaluation : Type 0 where
    Nothing : Evaluation
    Does : Deed → Evaluation
    -- one after the other
    Then : Evaluation → Evaluation → Evaluation
    -- 6.5.2.2: the operands, and then the call of a function, by its name where one is given
    Call : Node → Option Entry → Evaluation → Evaluation
    -- what is evaluated in each of several orders, of which any one may be taken
    InAnyOrder : Node → Orders → Evaluation
    -- 6.5.13 to 6.5.15: what is tested, then the first of two parts where it holds and the second where it doesn't, and
    -- where these meet
    Choice : Test → Evaluation → Evaluation → Evaluation → Node → Evaluation

  pub data Orders : Type 0 where
    NoOrders : Orders
    Order : Evaluation → Orders → Orders

-- operands -----------------------------------------------------------------------------------------------------------

-- a value, where it is, and what is evaluated for it
pub record Value : Type 0 where
  pub path : Path
  pub facts : Facts
  pub evaluation : Evaluation

abbrev pub node_of : Value → Node
node_of v = record { path = v.path; first = v.facts.first }

abbrev pub test_of : Value → Test
test_of v = record { at = node_of v; constancy = v.facts.sense.constancy }

-- what is evaluated for the operands of which some hold calls, and then the operator; without calls all at once
abbrev pub applied : Path → Facts → Evaluation → Evaluation
applied π f operands = if f.holds_call then Then operands (Does (Apply π)) else Does (Evaluate π)

abbrev pub with_calls : List Value → List Evaluation
with_calls [] = []
with_calls (v ∷ vs) = if v.facts.holds_call then v.evaluation ∷ with_calls vs else with_calls vs

-- the next of an order, and then what comes after it
abbrev pub next_in : List Evaluation → (List Evaluation → Evaluation) → Evaluation
next_in [] after = after []
next_in (e ∷ order) after = Then e (after order)

-- the operands from left to right, but those with calls in this order among their places
abbrev pub arranged : List Value → List Evaluation → Evaluation
arranged [] order = Nothing
arranged (v ∷ vs) order =
    if v.facts.holds_call then next_in order (arranged vs) else Then v.evaluation (arranged vs order)

-- all orders of two or three, in lexicographic order
abbrev pub orders_of : List Evaluation → List (List Evaluation)
orders_of (a ∷ b ∷ []) = (a ∷ b ∷ []) ∷ (b ∷ a ∷ []) ∷ []
orders_of (a ∷ b ∷ c ∷ []) =
    (a ∷ b ∷ c ∷ []) ∷ (a ∷ c ∷ b ∷ []) ∷ (b ∷ a ∷ c ∷ []) ∷ (b ∷ c ∷ a ∷ []) ∷ (c ∷ a ∷ b ∷ []) ∷ (c ∷ b ∷ a ∷ []) ∷ []
orders_of es = es ∷ []

abbrev pub listed : List Evaluation → Orders
listed [] = NoOrders
listed (e ∷ es) = Order e (listed es)

abbrev pub any_of : Node → List Evaluation → Evaluation
any_of n (e ∷ []) = e
any_of n es = InAnyOrder n (listed es)

-- 6.5: the order of the operands is unspecified
abbrev pub unsequenced : Node → List Value → Evaluation
unsequenced n vs = any_of n (map (arranged vs) (orders_of (with_calls vs)))

-- operators ----------------------------------------------------------------------------------------------------------

-- the operands of an operator of a chain
abbrev pub operands : Operator → Node → Value → Value → Evaluation
-- 6.5.13: the second operand where the first isn't 0
operands And n left right = Choice (test_of left) left.evaluation right.evaluation Nothing n
-- 6.5.14: the second operand where the first is 0
operands Or n left right = Choice (test_of left) left.evaluation Nothing right.evaluation n
-- 6.5.17: a sequence point is between them
operands Comma n left right = Then left.evaluation right.evaluation
operands (Binary op) n left right = unsequenced n (left ∷ right ∷ [])

abbrev pub linked : Operator → Path → Facts → Value → Value → Value
linked op π f left right =
    record {
      path = π;
      facts = f;
      evaluation = applied π f (operands op (record { path = π; first = f.first }) left right);
    }

-- 6.5.2.2: a called expression is an operand, a function's name isn't
abbrev pub called : Option Entry → Value → List Value → List Value
called None v arguments = v ∷ arguments
called (Some e) v arguments = arguments

abbrev pub suffixed : Path → Facts → Evaluation → Value
suffixed π f e = record { path = π; facts = f; evaluation = e }

-- expressions --------------------------------------------------------------------------------------------------------

abbrev mutual
  pub evaluation : Path → Typed → Evaluation
  evaluation π (trees.Name f e) = Does (Evaluate π)
  evaluation π (trees.Constant f) = Does (Evaluate π)
  evaluation π (trees.Strings f ts) = Does (Evaluate π)
  evaluation π (trees.SizeofType f written) = Does (Evaluate π)
  evaluation π (trees.Paren f x) = applied π f (evaluation (below π part.Enclosed) x)
  evaluation π (trees.Unary f op x) = applied π f (evaluation (below π part.Enclosed) x)
  evaluation π (trees.Cast f written x) = applied π f (evaluation (below π part.Enclosed) x)
  evaluation π (trees.Postfix x steps) =
      let ρ = below π part.Primary in
      after_steps π 0 (record { path = ρ; facts = facts x; evaluation = evaluation ρ x }) steps
  evaluation π (trees.Chain x links) =
      let ρ = below π (part.Operand 0) in
      after_links π 0 (record { path = ρ; facts = facts x; evaluation = evaluation ρ x }) links
  evaluation π (trees.Conditional f test a b) =
      let ρ = below π part.Condition in
      let tested : Value = record { path = ρ; facts = facts test; evaluation = evaluation ρ test } in
      applied π f
      (Choice (test_of tested) tested.evaluation (evaluation (below π part.Second) a)
      (evaluation (below π part.Third) b) (record { path = π; first = f.first }))
  evaluation π (trees.Assignment f op a b) =
      let left = below π part.Left in
      let right = below π part.Right in
      applied π f
      (unsequenced (record { path = π; first = f.first })
      (record { path = left; facts = facts a; evaluation = evaluation left a }
      ∷ record { path = right; facts = facts b; evaluation = evaluation right b } ∷ []))

  -- a value up to the operator of this number, and the operators from there on
  pub after_links : Path → ℕ → Value → Links → Evaluation
  after_links π k v trees.NoLinks = v.evaluation
  after_links π k v (trees.Link op x f rest) =
      let ρ = below π (part.Operand (suc k)) in
      after_links π (suc k)
      (linked op (below π (part.OperatorOf k)) f v
      (record { path = ρ; facts = facts x; evaluation = evaluation ρ x })) rest

  pub values_of : Path → ℕ → Arguments → List Value
  values_of π k trees.NoArguments = []
  values_of π k (trees.Argument x rest) =
      let ρ = below π (part.ArgumentOf k) in
      record { path = ρ; facts = facts x; evaluation = evaluation ρ x } ∷ values_of π (suc k) rest

  -- a value up to the suffix of this number, and the suffixes from there on
  pub after_steps : Path → ℕ → Value → Steps → Evaluation
  after_steps π k v trees.NoSteps = v.evaluation
  after_steps π k v (trees.Index opening x f rest) =
      let here = below π (part.Suffix k) in
      let ρ = below here part.IndexOf in
      after_steps π (suc k)
      (suffixed here f (applied here f (unsequenced (record { path = here; first = f.first })
      (v ∷ record { path = ρ; facts = facts x; evaluation = evaluation ρ x } ∷ [])))) rest
  after_steps π k v (trees.Call opening function es f rest) =
      let here = below π (part.Suffix k) in
      let n : Node = record { path = here; first = f.first } in
      after_steps π (suc k)
      (suffixed here f (Call n function (unsequenced n (called function v (values_of here 0 es))))) rest
  after_steps π k v (trees.Access is_dot name m f rest) =
      let here = below π (part.Suffix k) in
      after_steps π (suc k) (suffixed here f (applied here f v.evaluation)) rest
  after_steps π k v (trees.PostIncrement t op f rest) =
      let here = below π (part.Suffix k) in
      after_steps π (suc k) (suffixed here f (applied here f v.evaluation)) rest
