use Rattle.std.proofs.Common.{drop, refl, ap, sym, ◌∙◌}
use Rattle.std.specs.Prelude.{Some}
use Rattle.ck_grammar.specs.ReadingStatements as reading
use Rattle.ck_grammar.specs.Statements.{LastInit, NextInit}
use Rattle.std.specs.Prelude.{None}
use Rattle.ck_readers.proofs.Readings.{found_none, found_some}
use Rattle.ck_readers.specs.Places.{after}
use Rattle.ck_readers.specs.SourceView.{words}
use Rattle.ck_declaration_readers.proofs.InitLoops.{last_comma, last_plain, next_one, no_entry}
use Rattle.ck_declaration_readers.proofs.Links.{after_push, linked_end, linked_last, linked_none, linked_start}
use Rattle.ck_declaration_readers.proofs.Links.{linked_step}
use Rattle.ck_declaration_readers.specs.Rows.{entry_view}
use Rattle.ck_declaration_readers.specs.Steps.{entry}
use Rattle.ck_declaration_readers.proofs.initialisers.inits.Goals as goal

pub row-init : goal.row-init
row-init g c e i es is =
    linked_start (reading.inits (words c.args.source.now) e i)
    (g.T.BuildingDeclarations.earlier_inits c.no_earlier_inits-row.result) c.args.source.now.tokens c.args.at
    c.no_earlier_inits-row.ensures

pub returns-in_default : goal.returns-in_default
returns-in_default g c e i es is =
    let w = words c.args.source.now in
    linked_none (reading.inits w e i) (g.T.BuildingDeclarations.earlier_inits c.row.row) c.args.source.now.tokens
    c.args.at c.row.here c.row._step _ c.row-test.true c.len-step-end.ensures (c.row.invariant e i es is)
    (λ fuel. no_entry w e i fuel (drop c.row.here c.args.source.now.tokens)
    (found_none (entry_view g.T.BuildingDeclarations.designation g.T.BuildingDeclarations.init) (entry w e i)
    c.args.source.now.tokens c.row.here _ c.in_default.is (c.in_ok-found.ensures e i es is)))

pub returns : goal.returns
returns g c e i es is =
    let w = words c.args.source.now in
    linked_end (reading.inits w e i) (g.T.BuildingDeclarations.earlier_inits c.row.row) c.args.source.now.tokens
    c.args.at c.row.here c.row._step _ c.row-test.false c.len-step-end.ensures (c.row.invariant e i es is)
    (λ ts. refl)

pub returns-in_default-mark : goal.returns-in_default-mark
returns-in_default-mark g c e i es is =
    let w = words c.args.source.now in
    let far = c.row.invariant e i es is in
    let one =
    found_some (entry_view g.T.BuildingDeclarations.designation g.T.BuildingDeclarations.init) (entry w e i)
    c.args.source.now.tokens c.row.here _ _ c.in-Some.is (c.in_ok-found.ensures e i es is) in
    record {
      read =
          linked_last (reading.inits w e i) (g.T.BuildingDeclarations.earlier_inits c.row.row)
          c.args.source.now.tokens c.args.at c.row.here c.row._step _ c.row-test.true c.len-step-end.ensures far
          (LastInit (g.T.BuildingDeclarations.designation c.in-Some.found.0.0)
          (g.T.BuildingDeclarations.init c.in-Some.found.0.1) None)
          (drop c.in-Some.found.1 c.args.source.now.tokens)
          (λ fuel. last_plain w e i fuel (drop c.row.here c.args.source.now.tokens) _ one.read
          c.in_default-mark.ensures)
          ∙ ap (λ t. Some (t, drop c.in-Some.found.1 c.args.source.now.tokens)) (sym c.all_inits-all.ensures);
      within = λ h. one.within (far.within h);
    }

pub returns-then-is_word : goal.returns-then-is_word
returns-then-is_word g c e i es is =
    let w = words c.args.source.now in
    let far = c.row.invariant e i es is in
    let one =
    found_some (entry_view g.T.BuildingDeclarations.designation g.T.BuildingDeclarations.init) (entry w e i)
    c.args.source.now.tokens c.row.here _ _ c.in-Some.is (c.in_ok-found.ensures e i es is) in
    record {
      read =
          linked_last (reading.inits w e i) (g.T.BuildingDeclarations.earlier_inits c.row.row)
          c.args.source.now.tokens c.args.at c.row.here c.row._step _ c.row-test.true c.len-step-end.ensures far
          (LastInit (g.T.BuildingDeclarations.designation c.in-Some.found.0.0)
          (g.T.BuildingDeclarations.init c.in-Some.found.0.1) (Some c.in-Some-mark.mark.0))
          (drop c.in-Some-mark.mark.1 c.args.source.now.tokens)
          (λ fuel. last_comma w e i fuel (drop c.row.here c.args.source.now.tokens) _ one.read
          (c.in-Some-mark.mark.0, drop c.in-Some-mark.mark.1 c.args.source.now.tokens) c.in-Some-mark.ensures.read
          (sym c.is_word.ensures ∙ c.if-is_word.true))
          ∙ ap (λ t. Some (t, drop c.in-Some-mark.mark.1 c.args.source.now.tokens))
          (sym c.all_inits-all-then-is_word.ensures);
      within = λ h. c.in-Some-mark.ensures.within (one.within (far.within h));
    }

pub row-preserved : goal.row-preserved
row-preserved g c e i es is =
    let w = words c.args.source.now in
    let far = c.row.invariant e i es is in
    let one =
    found_some (entry_view g.T.BuildingDeclarations.designation g.T.BuildingDeclarations.init) (entry w e i)
    c.args.source.now.tokens c.row.here _ _ c.in-Some.is (c.in_ok-found.ensures e i es is) in
    linked_step (reading.inits w e i) (g.T.BuildingDeclarations.earlier_inits c.row.row) c.args.source.now.tokens
    c.args.at c.row.here c.row._step _ c.row-test.true c.len-step-end.ensures far
    (g.T.BuildingDeclarations.earlier_inits c.push_init.new.row) c.in-Some-mark.mark.1
    (λ fuel. ap (after (g.T.BuildingDeclarations.earlier_inits c.row.row))
    (next_one w e i fuel (drop c.row.here c.args.source.now.tokens) _ one.read
    (c.in-Some-mark.mark.0, drop c.in-Some-mark.mark.1 c.args.source.now.tokens) c.in-Some-mark.ensures.read
    (sym c.is_word.ensures ∙ c.if-is_word.false))
    ∙ after_push (g.T.BuildingDeclarations.earlier_inits c.row.row)
    (g.T.BuildingDeclarations.earlier_inits c.push_init.new.row)
    (NextInit (g.T.BuildingDeclarations.designation c.in-Some.found.0.0)
    (g.T.BuildingDeclarations.init c.in-Some.found.0.1) c.in-Some-mark.mark.0)
    c.in_ok-push_init.ensures (reading.inits w e i fuel (drop c.in-Some-mark.mark.1 c.args.source.now.tokens)))
    (λ h. c.in-Some-mark.ensures.within (one.within h))
