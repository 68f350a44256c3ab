use Rattle.std.proofs.Common.{drop}
use Rattle.ck_grammar.specs.Statements.{DotName}
use Rattle.ck_readers.specs.SourceView.{words}
use Rattle.ck_declaration_readers.proofs.InitLoops.{name_after_dot, no_dot}
use Rattle.ck_declaration_readers.proofs.Links.{link_from, link_pushed}
use Rattle.ck_declaration_readers.specs.Steps.{bracketed_step, designator_step}
use Rattle.ck_declaration_readers.proofs.designators.designator.Goals as goal

pub returns-in_default : goal.returns-in_default
returns-in_default g c e reads =
    let w = words c.args.source.now in
    link_from _ _ (designator_step w e) (bracketed_step w e) c.args.source.now.tokens c.args.at c.args.at (λ h. h)
    (λ go. no_dot w e go (drop c.args.at c.args.source.now.tokens) c.in_default.ensures) c.bracketed.result
    (c.bracketed.ensures e reads)

pub returns : goal.returns
returns g c e reads =
    let w = words c.args.source.now in
    link_pushed _ _ (DotName c.in-Some.mark.0 c.in-Some-identifier.found.0) (designator_step w e)
    c.args.source.now.tokens c.args.at c.in-Some-identifier.found.1
    (λ go. name_after_dot w e go (drop c.args.at c.args.source.now.tokens)
    (c.in-Some.mark.0, drop c.in-Some.mark.1 c.args.source.now.tokens)
    (c.in-Some-identifier.found.0, drop c.in-Some-identifier.found.1 c.args.source.now.tokens) c.in-Some.ensures.read
    c.in-Some-identifier.ensures.read)
    c.in_ok-push_dot_name.ensures (λ h. c.in-Some-identifier.ensures.within (c.in-Some.ensures.within h))
