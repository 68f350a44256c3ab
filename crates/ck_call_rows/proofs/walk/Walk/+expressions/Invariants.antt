use Rattle.std.proofs.Common.{◌≡◌, ◌+◌, ◌*◌, true, drop}
use Rattle.std.specs.List.{list_all}
use Rattle.std.specs.Prelude.{max}
use Rattle.ck_call_rows.specs.Walks.{tables, tree, path_of, Leads, StepsLead}
use Rattle.ck_prog.specs.Calls.{calls_in_links, calls_in_arguments}
use Rattle.ck_tables.specs.ExprTable.{links_of, links_below, arguments_of, arguments_below, steps_below}
use Rattle.ck_tables.specs.Numbers.{numbers, step_fits}
use Rattle.ck_tables.specs.Program.{readings}
use Rattle.ck_call_rows.proofs.walk.Walk.+expressions.Given as goal

abbrev pub decreases-expression : goal.decreases-expression
decreases-expression l = 16 * l.x.0 + 9

abbrev pub decreases-operand : goal.decreases-operand
decreases-operand l = 16 * l.x.0 + 10

abbrev pub decreases-conditional : goal.decreases-conditional
decreases-conditional l = 16 * max l.test.0 (max l.second.0 l.third.0) + 11

abbrev pub decreases-assignment : goal.decreases-assignment
decreases-assignment l = 16 * max l.target.0 l.value.0 + 11

abbrev pub decreases-chain : goal.decreases-chain
decreases-chain l = 16 * l.of.0 + 8

abbrev pub decreases-row : goal.decreases-row
decreases-row l = 16 * l.of.0 + 8

abbrev pub decreases-links : goal.decreases-links
decreases-links l = 16 * l.of.0 + 7

abbrev pub decreases-suffixes : goal.decreases-suffixes
decreases-suffixes l = 16 * l.of.0 + 7

abbrev pub decreases-suffix : goal.decreases-suffix
decreases-suffix l = 16 * l.of.0 + 6

abbrev pub decreases-index : goal.decreases-index
decreases-index l = 16 * l.index.0 + 11

abbrev pub decreases-called : goal.decreases-called
decreases-called l = 16 * l.called.of.0 + 5

abbrev pub decreases-arguments : goal.decreases-arguments
decreases-arguments l = 16 * l.of.0 + 4

abbrev pub invariant-links-each : goal.invariant-links-each
invariant-links-each l =
    let t = tables l.self in
    record {
      below : links_below l.fn.of.0 (drop l.number l.links) ≡ true;
      is :
          Leads l.self l.initial.rows.rows.items l.rows.rows.items
          (calls_in_links (path_of l.path) (l.number + 1) (links_of (readings t) (tree t) (drop l.number l.links)))
          (calls_in_links (path_of l.path) 1 (links_of (readings t) (tree t) l.links));
    }

abbrev pub invariant-arguments-each : goal.invariant-arguments-each
invariant-arguments-each l =
    let t = tables l.self in
    record {
      below : arguments_below l.fn.of.0 (drop l.number l.arguments) ≡ true;
      is :
          Leads l.self l.initial.rows.rows.items l.rows.rows.items
          (calls_in_arguments (path_of l.path) l.number (arguments_of (tree t) (drop l.number l.arguments)))
          (calls_in_arguments (path_of l.path) 0 (arguments_of (tree t) l.arguments));
    }

abbrev pub invariant-suffixes-each : goal.invariant-suffixes-each
invariant-suffixes-each l =
    record {
      below : steps_below l.of.0 (drop l.number l.steps) ≡ true;
      fit : list_all (step_fits (numbers (tables l.self))) (drop l.number l.steps) ≡ true;
      is :
          StepsLead l.self l.initial.rows.rows.items l.rows.rows.items (path_of l.path)
          (tree (tables l.self) l.fn.primary.0) l.number (drop l.number l.steps) l.steps;
    }
