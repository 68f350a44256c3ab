use Rattle.std.proofs.Common.{drop, refl, ap, ◌∙◌}
use Rattle.ck_grammar.specs.ReadingStatements.{designator_loop}
use Rattle.ck_grammar.specs.Statements.{Equals}
use Rattle.ck_readers.specs.Places.{after}
use Rattle.ck_readers.specs.SourceView.{words}
use Rattle.ck_declaration_readers.proofs.InitLoops.{equals_here, no_equals}
use Rattle.ck_declaration_readers.proofs.Initialised.{designated_read, undesignated}
use Rattle.ck_declaration_readers.proofs.Links.{linked_end, linked_last, linked_none, linked_start, linked_step}
use Rattle.ck_declaration_readers.proofs.Links.{link_none, link_some}
use Rattle.ck_declaration_readers.specs.Steps.{designator_step}
use Rattle.ck_declaration_readers.proofs.designators.designators.Goals as goal

pub row-init : goal.row-init
row-init g c e reads =
    linked_start (designator_loop (words c.args.source.now) e)
    (g.T.BuildingDeclarations.designators c.no_designators-row.result) c.args.source.now.tokens c.args.at
    c.no_designators-row.ensures

pub returns-in-Some : goal.returns-in-Some
returns-in-Some g c e reads =
    let w = words c.args.source.now in
    let far = c.row.invariant e reads in
    designated_read w e g.T.BuildingDeclarations.designation c.in_ok-designated.field-0
    (g.T.BuildingDeclarations.designators c.row.row (Equals c.in-Some.mark.0)) c.args.source.now.tokens c.args.at
    c.in-Some.mark.1
    (linked_last (designator_loop w e) (g.T.BuildingDeclarations.designators c.row.row) c.args.source.now.tokens
    c.args.at c.row.here c.row._step _ c.row-test.true c.len-step-end.ensures far (Equals c.in-Some.mark.0)
    (drop c.in-Some.mark.1 c.args.source.now.tokens)
    (λ fuel. equals_here w e fuel (drop c.row.here c.args.source.now.tokens)
    (c.in-Some.mark.0, drop c.in-Some.mark.1 c.args.source.now.tokens) c.in-Some.ensures.read))
    c.in_ok-designated.ensures (λ h. c.in-Some.ensures.within (far.within h))

pub returns-in-None : goal.returns-in-None
returns-in-None g c e reads =
    let w = words c.args.source.now in
    undesignated w e (drop c.args.at c.args.source.now.tokens)
    (linked_none (designator_loop w e) (g.T.BuildingDeclarations.designators c.row.row) c.args.source.now.tokens
    c.args.at c.row.here c.row._step _ c.row-test.true c.len-step-end.ensures (c.row.invariant e reads)
    (λ fuel. no_equals w e fuel (drop c.row.here c.args.source.now.tokens) c.in_default.ensures
    ∙ link_none _ _ (designator_step w e) c.args.source.now.tokens c.row.here _ c.in-None.is
    (c.in_ok-designator.ensures e reads) (designator_loop w e fuel)))

pub row-preserved : goal.row-preserved
row-preserved g c e reads =
    let w = words c.args.source.now in
    let one =
    link_some _ _ (designator_step w e) c.args.source.now.tokens c.row.here _ _ c.in-Some-2.is
    (c.in_ok-designator.ensures e reads) in
    linked_step (designator_loop w e) (g.T.BuildingDeclarations.designators c.row.row) c.args.source.now.tokens
    c.args.at c.row.here c.row._step _ c.row-test.true c.len-step-end.ensures (c.row.invariant e reads) _ _
    (λ fuel. ap (after (g.T.BuildingDeclarations.designators c.row.row))
    (no_equals w e fuel (drop c.row.here c.args.source.now.tokens) c.in_default.ensures)
    ∙ one.read (designator_loop w e fuel))
    one.within

pub returns : goal.returns
returns g c e reads =
    let w = words c.args.source.now in
    undesignated w e (drop c.args.at c.args.source.now.tokens)
    (linked_end (designator_loop w e) (g.T.BuildingDeclarations.designators c.row.row) c.args.source.now.tokens
    c.args.at c.row.here c.row._step _ c.row-test.false c.len-step-end.ensures (c.row.invariant e reads)
    (λ ts. refl))
