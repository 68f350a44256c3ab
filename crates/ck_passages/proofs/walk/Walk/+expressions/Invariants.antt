use Rattle.std.proofs.Common.{◌≡◌, ◌≤◌, ◌+◌, true, length, map, take}
use Rattle.std.specs.List.{list_all}
use Rattle.std.specs.Prelude.{max}
use Rattle.ck_passages.specs.Drawing.{draw}
use Rattle.ck_passages.specs.Operands.{chain_value, row_value, evaluation_of, draw_all}
use Rattle.ck_passages.specs.Operands.{node_depth, row_depth, depth, most_depth, step_depth}
use Rattle.ck_passages.specs.Walks.{tables, made}
use Rattle.ck_tables.specs.ExprTable.{links_below, steps_below}
use Rattle.ck_tables.specs.Numbers.{numbers, step_fits}
use Rattle.ck_passages.proofs.walk.Walk.+expressions.Given as goal

abbrev pub decreases-expression : goal.decreases-expression
decreases-expression l = node_depth l.x.0

abbrev pub decreases-enclosed : goal.decreases-enclosed
decreases-enclosed l = node_depth l.inner.0 + 1

abbrev pub decreases-conditional : goal.decreases-conditional
decreases-conditional l = max (node_depth l.test.0) (max (node_depth l.second.0) (node_depth l.third.0)) + 3

abbrev pub decreases-assignment : goal.decreases-assignment
decreases-assignment l = max (node_depth l.target.0) (node_depth l.value.0) + 8

abbrev pub decreases-chain : goal.decreases-chain
decreases-chain l = row_depth l.of.0 (length l.links.now)

abbrev pub decreases-link : goal.decreases-link
decreases-link l = max (depth l.left.now) (node_depth l.link.now.operand.0) + 9

abbrev pub decreases-second : goal.decreases-second
decreases-second l = max (depth l.left.now) (depth l.right.now) + 3

abbrev pub decreases-row : goal.decreases-row
decreases-row l = row_depth l.of.0 (length l.steps.now)

abbrev pub decreases-step : goal.decreases-step
decreases-step l = max (depth l.left.now) (step_depth l.step.now) + 9

abbrev pub decreases-operand : goal.decreases-operand
decreases-operand l = depth l.operand.now + 1

abbrev pub decreases-after_left : goal.decreases-after_left
decreases-after_left l = max (depth l.left.now) (most_depth l.others.now) + 6

abbrev pub decreases-unsequenced : goal.decreases-unsequenced
decreases-unsequenced l = most_depth l.operands.now + 5

abbrev pub decreases-copy : goal.decreases-copy
decreases-copy l = max (most_depth l.operands.now) (most_depth l.order.now) + 3

abbrev pub decreases-arranged : goal.decreases-arranged
decreases-arranged l = max (most_depth l.operands.now) (most_depth l.order.now) + 2

abbrev pub invariant-chain-links : goal.invariant-chain-links
invariant-chain-links l =
    record {
      below : links_below l.of.0 l.links ≡ true;
      shorter : length l.links ≤ length l.initial.links;
      is :
          draw l.self.orders.now (chain_value (tables l.self) l.path l.first l.initial.links).evaluation
          (made l.self l.initial.drawing)
          ≡ draw l.self.orders.now (chain_value (tables l.self) l.path l.first l.links).evaluation
          (made l.self l.drawing);
    }

abbrev pub decreases-chain-links : goal.decreases-chain-links
decreases-chain-links l = length l.links

abbrev pub invariant-row-steps : goal.invariant-row-steps
invariant-row-steps l =
    record {
      below : steps_below l.of.0 l.steps ≡ true;
      names : list_all (step_fits (numbers (tables l.self))) l.steps ≡ true;
      shorter : length l.steps ≤ length l.initial.steps;
      is :
          draw l.self.orders.now (row_value (tables l.self) l.path l.primary l.initial.steps).evaluation
          (made l.self l.initial.drawing)
          ≡ draw l.self.orders.now (row_value (tables l.self) l.path l.primary l.steps).evaluation
          (made l.self l.drawing);
    }

abbrev pub decreases-row-steps : goal.decreases-row-steps
decreases-row-steps l = length l.steps

abbrev pub invariant-arranged-places : goal.invariant-arranged-places
invariant-arranged-places l =
    record {
      within : l.left ≤ length l.items;
      is :
          draw_all l.self.orders.now (map (evaluation_of (tables l.self)) l.items) (made l.self l.initial.drawing)
          ≡ draw_all l.self.orders.now (map (evaluation_of (tables l.self)) (take l.left l.items))
          (made l.self l.drawing);
    }

abbrev pub decreases-arranged-places : goal.decreases-arranged-places
decreases-arranged-places l = l.left
