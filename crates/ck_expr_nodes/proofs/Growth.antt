-- Values and places stay what they are when the tables grow.
use Rattle.std.proofs.Common.{◌≡◌, ◌<◌, ℕ, List, length, arith, subst, sym, ◌∙◌}
use Rattle.ck_prog.specs.Declarations.{Place}
use Rattle.ck_prog.specs.TypedTrees.{Typed}
use Rattle.ck_tables.specs.ExprTable.{Keeps}
use Rattle.ck_tables.specs.Readings.{Readings}
use Rattle.ck_tables.specs.declared.exprs.ExprNode.{ExprNode}
use Rattle.ck_tables.proofs.ExprLemmas.{keeps_none, keeps_twice}
use Rattle.ck_expr_nodes.specs.Finding.{Stays}
use Rattle.ck_expr_nodes.specs.SenseViews.{sense_in}
use Rattle.ck_expr_nodes.specs.Walked.{IsKnown, IsValue, Grows}
use Rattle.ck_expr_nodes.specs.declared.senses.Sense.{Sense}
use Rattle.ck_expr_nodes.specs.declared.nodes.Value.{Value}

pub value_stays : (w : Readings) (ns ms : List ExprNode) (t : Typed) (v : Value) → Keeps ns ms → v.id.0 < length ns
    → IsValue w ns t v → IsValue w ms t v
value_stays w ns ms t v kept below is =
    record {
      tree_is = kept.same w v.id.0 below ∙ is.tree_is;
      facts_are = is.facts_are;
      function_is = is.function_is;
    }

module _ {State : Type 0} (reads : State → Readings → Type 0) (fits : State → Sense → Type 0)
    (marks : State → ℕ → Place → Type 0) where
  pub grows_none : (s : State) (ns : List ExprNode) → Keeps ns ns → Grows reads fits marks s s ns ns
  grows_none s ns kept =
      record {
        stays = record { reading = λ w h. h; fitting = λ a h. h; marking = λ n p h. h };
        kept = kept;
      }

  -- the names and types grow, and the table of expressions is the same
  pub grows_beside : (s t : State) (ns ms : List ExprNode) → Stays reads fits marks s t → ms ≡ ns
      → Grows reads fits marks s t ns ms
  grows_beside s t ns ms stays same =
      record { stays = stays; kept = subst (Keeps ns) (sym same) (keeps_none ns) }

  pub grows_twice : (r s t : State) (ns ms ls : List ExprNode)
      → Grows reads fits marks r s ns ms → Grows reads fits marks s t ms ls → Grows reads fits marks r t ns ls
  grows_twice r s t ns ms ls a b =
      record {
        stays =
            record {
              reading = λ w h. a.stays.reading w (b.stays.reading w h);
              fitting = λ x h. b.stays.fitting x (a.stays.fitting x h);
              marking = λ n p h. b.stays.marking n p (a.stays.marking n p h);
            };
        kept = keeps_twice ns ms ls a.kept b.kept;
      }

  pub known_stays : (s t : State) (ns ms : List ExprNode) (v : Value) → Grows reads fits marks s t ns ms
      → IsKnown (fits s) ns v → IsKnown (fits t) ms v
  known_stays s t ns ms v grows is =
      record {
        below = omega (arith, is.below, grows.kept.no_less);
        fitting = grows.stays.fitting (sense_in v.facts) is.fitting;
      }

pub ruleset staying = (value_stays, known_stays, grows_none, grows_twice)
