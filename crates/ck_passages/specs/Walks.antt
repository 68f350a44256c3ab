-- What a walk draws of operands and expressions.
use Rattle.std.specs.Prelude.{◌≡◌, ℕ, Bool, List, [], ◌∷◌, ◌++◌, map, if◌then◌else◌}
use Rattle.ck_base.specs.declared.tokens.Token.{Token}
use Rattle.ck_drafts.specs.Drafts.{plain_place, plain_edge}
use Rattle.ck_passages.specs.Drawing.{Copies, with_copy, put_meeting, put_test, draw}
use Rattle.ck_passages.specs.Operands.{value_of, evaluation_of, arranged_evaluation}
use Rattle.ck_passages.specs.Points.{Drawn, drawn, before_drawn}
use Rattle.ck_passages.specs.declared.drawing.Copies.{Copies as MadeCopies}
use Rattle.ck_passages.specs.declared.drawing.Drawing.{Drawing}
use Rattle.ck_passages.specs.declared.operands.Operand.{Operand}
use Rattle.ck_passages.specs.declared.walk.Walk.{Walk}
use Rattle.ck_points.specs.Evaluations.{Evaluation}
use Rattle.ck_points.specs.Passages.{passage}
use Rattle.ck_points.specs.Places.{Place, leads}
use Rattle.ck_points.specs.Statements.{decided}
use Rattle.ck_prog.specs.Paths.{Path}
use Rattle.ck_prog.specs.TypedTrees.{Typed}
use Rattle.ck_tables.specs.declared.program.Linked.{Linked}

abbrev pub tables : Walk → Linked
tables w = w.program.now.linked

abbrev pub made : Walk → Drawing → Drawn
made w d = drawn (tables w) d

-- an evaluation was drawn
abbrev pub Draws : Walk → Evaluation → Drawing → Drawing → Type 0
Draws w e old new = made w new ≡ draw w.orders.now e (made w old)

-- the passage of an evaluation was drawn
abbrev pub DrawsPassage : Walk → Evaluation → Drawing → Drawing → Type 0
DrawsPassage w e old new =
    made w new ≡ before_drawn (passage w.orders.now e (leads (made w old).to)) (made w old).points

-- 6.8.4.1, 6.8.5: a controlling expression was drawn, whose test leads to these places
abbrev pub DrawsDecision : Walk → Path → Typed → Place → Place → Drawing → Drawing → Type 0
DrawsDecision w π x holds fails old new =
    made w new ≡ before_drawn (decided π x (leads holds) (leads fails)) (made w old).points

abbrev pub DrawsWhere : Bool → Walk → Evaluation → Drawing → Drawing → Type 0
DrawsWhere holds w e old new = made w new ≡ (if holds then draw w.orders.now e (made w old) else made w old)

-- an evaluation was drawn, but another that comes before
abbrev pub Leaves : Walk → Evaluation → Evaluation → Drawing → Drawing → Bool → Type 0
Leaves w e before old new done =
    draw w.orders.now e (made w old) ≡ (if done then made w new else draw w.orders.now before (made w new))

-- a test of an operand, which leads to these places
abbrev pub DrawsTest : Walk → Operand → Place → Place → Drawing → Drawing → Type 0
DrawsTest w o holds fails old new =
    let v = value_of (tables w) o in
    made w new
    ≡ put_test v.path w.orders.now v.facts.first.span v.facts.sense.constancy holds fails (made w old).points

-- the second operand of `&&`, where this holds, or of `||`, and then the test of the first
abbrev pub DrawsSecond : Walk → Bool → Path → Token → Operand → Operand → Drawing → Drawing → Type 0
DrawsSecond w holds here first left right old new =
    let l = tables w in
    let v = value_of l left in
    let met = put_meeting here w.orders.now first.span (made w old) in
    let d = draw w.orders.now (evaluation_of l right) met in
    made w new
    ≡ (if holds then put_test v.path w.orders.now v.facts.first.span v.facts.sense.constancy d.to met.to d.points
    else put_test v.path w.orders.now v.facts.first.span v.facts.sense.constancy met.to d.to d.points)

abbrev pub copies_made : Walk → MadeCopies → Drawing → Copies
copies_made w c d = record { edges = map plain_edge c.edges.items; points = (made w d).points }

-- operands in an order of this number, before the copies in others
pub record DrawsCopy (w : Walk) (k : ℕ) (os order : List Operand) (before : MadeCopies) (old : Drawing)
    (after : MadeCopies) (new : Drawing)
    : Type 0 where
  pub to : plain_place after.to ≡ plain_place before.to
  pub is :
      copies_made w after new
      ≡ with_copy k
      (draw (w.orders.now ++ (k ∷ [])) (arranged_evaluation (tables w) os order)
      (record { to = plain_place before.to; points = (made w old).points }))
      (copies_made w before old)
