use Rattle.std.proofs.Common.{rules}
use Rattle.std.specs.Prelude.{Ok}
use Rattle.ck_declaration_readers.proofs.Declared.{next_read}
use Rattle.ck_readers.proofs.Readings.{found_some}
use Rattle.ck_readers.specs.SourceView.{words}
use Rattle.ck_declaration_readers.proofs.declarations.next_declared.Goals as goal

pub returns : goal.returns
returns g c d i named valued =
    next_read (words c.args.source.now) d i c.args.source.now.tokens c.args.at g.T.Building.declarator _ _
    c.in-Some.mark c.in-Some-2.read c.in-Some.ensures
    (found_some _ _ _ _ _ _ c.in-Some-2.is
    (named c.in-Some.mark.1 (Ok c.in_ok-read.field-0) (search rules) c.in_ok-read.ensures))
    c.push_declared.result (c.push_declared.ensures i valued)
