use Rattle.std.proofs.Common.{◌≡◌, ◌<◌, ◌+◌, suc, [], ◌∷◌, ◌++◌, length, get_or, refl, sym, ap, subst, ◌∙◌, arith}
use Rattle.std.proofs.lemmas.List.{get_or_default}
use Rattle.std.specs.List.{list_all}
use Rattle.std.specs.Prelude.{Bool, true, OnOk, nat_lt, if◌then◌else◌}
use Rattle.ck_call_rows.proofs.Added.{leads_start, adds_then, adds_nothing, call_then, on_ok}
use Rattle.ck_call_rows.proofs.Sites.{found_among}
use Rattle.ck_call_rows.proofs.Elements.{holds-next}
use Rattle.ck_call_rows.proofs.Loops.{each_more, each_end}
use Rattle.ck_call_rows.proofs.Suffixes.{steps_start, steps_more, steps_end, step_among}
use Rattle.ck_call_rows.specs.Walks.{tables, tree, path_of, Adds, AreAmong, IsSite, calls_of_step}
use Rattle.ck_prog.specs.Calls.{CallSite, is_size, row_of, calls_in, calls_in_links, calls_in_arguments}
use Rattle.ck_prog.specs.Paths as part
use Rattle.ck_prog.specs.Paths.{below}
use Rattle.ck_tables.specs.ExprTable.{make, links_of, links_below}
use Rattle.ck_tables.specs.ExprTable.{arguments_of, arguments_below, steps_below, step_below}
use Rattle.ck_tables.specs.Numbers.{numbers, step_fits}
use Rattle.ck_tables.specs.Program.{readings}
use Rattle.ck_tables.specs.Readings.{plain_entry}
use Rattle.ck_call_rows.proofs.walk.Walk.+expressions.Goals as goal

pub links-each-preserved : goal.links-each-preserved
links-each-preserved t c =
    let w = c.args.self.now in
    let l = tables w in
    let π = path_of c.args.path.now in
    let xs = c.args.links.now in
    let i = c.each.number in
    let low = c.each-test.true in
    record {
      below =
          holds-next (λ y. nat_lt y.operand.0 c.args.of.0) (links_below c.args.of.0) (λ y ys. refl) xs i
          c.each.invariant.below low;
      is =
          each_more w (λ k ys. calls_in_links π k (links_of (readings l) (tree l) ys))
          (λ k y. calls_in (below π (part.Operand k)) (tree l y.operand.0)) (λ k y ys. refl)
          _ _ _ (i + 1) i (i + 1 + 1) (get_or xs i _) xs _ c.each.invariant.is low (get_or_default xs i _ _ low)
          (omega arith) c.in_ok-operand.ensures;
    }

pub arguments-each-preserved : goal.arguments-each-preserved
arguments-each-preserved t c =
    let w = c.args.self.now in
    let l = tables w in
    let π = path_of c.args.path.now in
    let xs = c.args.arguments.now in
    let i = c.each.number in
    let low = c.each-test.true in
    record {
      below =
          holds-next (λ y. nat_lt y.0 c.args.of.0) (arguments_below c.args.of.0) (λ y ys. refl) xs i
          c.each.invariant.below low;
      is =
          each_more w (λ k ys. calls_in_arguments π k (arguments_of (tree l) ys))
          (λ k y. calls_in (below π (part.ArgumentOf k)) (tree l y.0)) (λ k y ys. refl)
          _ _ _ i i (i + 1) (get_or xs i _) xs _ c.each.invariant.is low (get_or_default xs i _ _ low)
          (omega arith) c.in_ok-operand.ensures;
    }

pub suffixes-each-preserved : goal.suffixes-each-preserved
suffixes-each-preserved t c =
    let w = c.args.self.now in
    let l = tables w in
    let π = path_of c.args.path.now in
    let xs = c.args.steps.now in
    let i = c.each.number in
    let low = c.each-test.true in
    let s = c.index-steps-number.result in
    let lead = c.each.invariant.is in
    let x = tree l c.args.primary.0 in
    let among =
    step_among w _ _ π x xs i s low c.index-steps-number.is lead c.args.of.0 c.args.primary.0 refl c.requires.is in
    record {
      below =
          holds-next (step_below c.args.of.0) (steps_below c.args.of.0) (λ y ys. refl) xs i
          c.each.invariant.below low;
      fit =
          holds-next (step_fits (numbers l)) (list_all (step_fits (numbers l))) (λ y ys. refl) xs i
          c.each.invariant.fit low;
      is = steps_more w _ _ π x xs i s low c.index-steps-number.is lead _ (c.in_ok-suffix.ensures x lead.before among);
    }

pub conditional-returns : goal.conditional-returns
conditional-returns t c =
    let w = c.args.self.now in
    adds_then w c.operand-3.result _ _ _ _ _ c.in_ok-operand.ensures
    (adds_then w c.operand-3.result _ _ _ _ _ c.in_ok-operand-2.ensures c.operand-3.ensures)

pub assignment-returns : goal.assignment-returns
assignment-returns t c =
    adds_then c.args.self.now c.operand-2.result _ _ _ _ _ c.in_ok-operand.ensures c.operand-2.ensures

pub chain-returns : goal.chain-returns
chain-returns t c = adds_then c.args.self.now c.links.result _ _ _ _ _ c.in_ok-operand.ensures c.links.ensures

pub row-returns : goal.row-returns
row-returns t c = adds_then c.args.self.now c.suffixes.result _ _ _ _ _ c.in_ok-operand.ensures c.suffixes.ensures

pub links-each-init : goal.links-each-init
links-each-init t c = record { below = c.requires.below; is = leads_start c.args.self.now _ _ }

pub arguments-each-init : goal.arguments-each-init
arguments-each-init t c = record { below = c.requires.below; is = leads_start c.args.self.now _ _ }

pub suffixes-each-init : goal.suffixes-each-init
suffixes-each-init t c =
    let w = c.args.self.now in
    record {
      below = c.requires.below;
      fit = c.requires.fit;
      is =
          steps_start w _ _ (path_of c.args.path.now) (tree (tables w) c.args.primary.0) c.args.steps.now refl;
    }

pub expression-returns-in-Name : goal.expression-returns-in-Name
expression-returns-in-Name t c =
    let l = tables c.args.self.now in
    adds_nothing c.args.self.now _ _ (ap (calls_in (path_of c.args.path.now))
    (c.expression_node.ensures.meaning.tree (readings l) ∙ ap (make (readings l) (tree l)) c.in-Name.is))

pub expression-returns-in-Constant : goal.expression-returns-in-Constant
expression-returns-in-Constant t c =
    let l = tables c.args.self.now in
    adds_nothing c.args.self.now _ _ (ap (calls_in (path_of c.args.path.now))
    (c.expression_node.ensures.meaning.tree (readings l) ∙ ap (make (readings l) (tree l)) c.in-Constant.is))

pub expression-returns-in-Strings : goal.expression-returns-in-Strings
expression-returns-in-Strings t c =
    let l = tables c.args.self.now in
    adds_nothing c.args.self.now _ _ (ap (calls_in (path_of c.args.path.now))
    (c.expression_node.ensures.meaning.tree (readings l) ∙ ap (make (readings l) (tree l)) c.in-Strings.is))

pub expression-returns-in-SizeofType : goal.expression-returns-in-SizeofType
expression-returns-in-SizeofType t c =
    let l = tables c.args.self.now in
    adds_nothing c.args.self.now _ _ (ap (calls_in (path_of c.args.path.now))
    (c.expression_node.ensures.meaning.tree (readings l) ∙ ap (make (readings l) (tree l)) c.in-SizeofType.is))

pub expression-returns-then-is_size : goal.expression-returns-then-is_size
expression-returns-then-is_size t c =
    let l = tables c.args.self.now in
    let π = path_of c.args.path.now in
    let e = c.expression_node.ensures.meaning.tree (readings l) ∙ ap (make (readings l) (tree l)) c.in-Unary.is in
    let sized : is_size c.in-Unary.operator ≡ true = sym c.is_size.ensures ∙ c.if-is_size.true in
    adds_nothing c.args.self.now _ _ (ap (calls_in π) e
    ∙ ap (λ (b : Bool). if b then [] else calls_in (below π part.Enclosed) (tree l c.in-Unary.operand.0)) sized)

pub suffix-returns-in-Access : goal.suffix-returns-in-Access
suffix-returns-in-Access t c =
    λ x before among.
    adds_nothing c.args.self.now _ _
    (ap (calls_of_step (tables c.args.self.now) (path_of c.args.path.now) x before c.args.number) c.in-Access.is)

pub suffix-returns-in-PostIncrement : goal.suffix-returns-in-PostIncrement
suffix-returns-in-PostIncrement t c =
    λ x before among.
    adds_nothing c.args.self.now _ _
    (ap (calls_of_step (tables c.args.self.now) (path_of c.args.path.now) x before c.args.number)
    c.in-PostIncrement.is)

pub suffix-returns-in-Call : goal.suffix-returns-in-Call
suffix-returns-in-Call t c =
    let w = c.args.self.now in
    let l = tables w in
    let π = path_of c.args.path.now in
    let k = c.args.number in
    let of = tree l c.args.of.0 in
    let old = c.args.rows.now.rows.items in
    let new = c.called.new.rows.rows.items in
    let here = below π (part.Suffix k) in
    let es = arguments_of (tree l) c.in-Call.arguments.items in
    on_ok c.called.result
    (λ told x before among.
    let s : CallSite = record {
      path = here;
      first = c.in-Call.facts.first;
      called = row_of x before;
      function = plain_entry (readings l) c.in-Call.function;
      arguments = es;
    } in
    let same = ap (calls_of_step l π x before k) c.in-Call.is in
    let some = subst (λ cs. AreAmong cs (calls_in π of)) same among in
    let added =
    told s
    (record {
      found = found_among π of s (calls_in_arguments here 0 es) some;
      path = refl;
      named = refl;
      begins = refl;
    })
    in
    subst (Adds w old new) (ap (λ xs. s ∷ calls_in_arguments here 0 (arguments_of (tree l) xs)) c.as_slice.ensures
    ∙ sym same) added)
    c.called.ensures

pub called-returns : goal.called-returns
called-returns t c =
    let w = c.args.self.now in
    let l = tables w in
    let π = path_of c.args.path.now in
    let k = c.args.called.suffix in
    let mid = c.call.new.rows.rows.items in
    let new = c.arguments.new.rows.rows.items in
    let number : k + 1 ≡ suc k = omega arith in
    let es = arguments_of (tree l) c.args.arguments.now in
    let inside = c.below-inside.ensures ∙ ap (λ n. π ++ (n ∷ [])) number in
    call_then w c.arguments.result _ _ _ (IsSite l π c.args.called) (calls_in_arguments (below π (part.Suffix k)) 0 es)
    c.in_ok-call.ensures
    (subst (λ p. OnOk c.arguments.result (Adds w mid new (calls_in_arguments p 0 es))) inside c.arguments.ensures)
