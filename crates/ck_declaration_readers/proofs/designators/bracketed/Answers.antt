use Rattle.std.proofs.Common.{drop, rules}
use Rattle.std.specs.Prelude.{Ok}
use Rattle.ck_grammar.specs.Statements.{AtIndex}
use Rattle.ck_readers.proofs.Readings.{found_some}
use Rattle.ck_readers.specs.SourceView.{words}
use Rattle.ck_declaration_readers.proofs.InitLoops.{bracketed_is}
use Rattle.ck_declaration_readers.proofs.Links.{link_pushed}
use Rattle.ck_declaration_readers.specs.Steps.{bracketed_step}
use Rattle.ck_declaration_readers.proofs.designators.bracketed.Goals as goal

pub returns : goal.returns
returns g c e reads =
    let w = words c.args.source.now in
    let tree =
    found_some g.T.Building.expr e c.args.source.now.tokens c.in-Some.mark.1 _ _ c.in-Some-2.is
    (reads c.in-Some.mark.1 (Ok c.in_ok-read.field-0) (search rules) c.in_ok-read.ensures) in
    link_pushed _ _ (AtIndex c.in-Some.mark.0 (g.T.Building.expr c.in-Some-2.read.0) c.in-Some-mark.mark.0)
    (bracketed_step w e) c.args.source.now.tokens c.args.at c.in-Some-mark.mark.1
    (λ go. bracketed_is w e go (drop c.args.at c.args.source.now.tokens)
    (c.in-Some.mark.0, drop c.in-Some.mark.1 c.args.source.now.tokens)
    (c.in-Some-mark.mark.0, drop c.in-Some-mark.mark.1 c.args.source.now.tokens)
    (g.T.Building.expr c.in-Some-2.read.0, drop c.in-Some-2.read.1 c.args.source.now.tokens) c.in-Some.ensures.read
    tree.read c.in-Some-mark.ensures.read)
    c.in_ok-push_at_index.ensures
    (λ h. c.in-Some-mark.ensures.within (tree.within (c.in-Some.ensures.within h)))
