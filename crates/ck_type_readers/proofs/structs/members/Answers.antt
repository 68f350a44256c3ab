use Rattle.std.proofs.Common.{drop}
use Rattle.ck_grammar.specs.Trees as plain
use Rattle.ck_readers.specs.SourceView.{words}
use Rattle.ck_type_readers.proofs.Readings.{members_read}
use Rattle.ck_type_readers.proofs.structs.members.Goals as goal

pub returns-then-has_member : goal.returns-then-has_member
returns-then-has_member g c of inner specified declared =
    let row = c.in_ok-found.ensures of inner specified declared in
    record {
      read =
          members_read (words c.args.source.now) of inner (drop c.args.at c.args.source.now.tokens)
          (drop c.in_ok-found.found.1 c.args.source.now.tokens)
          (g.T.Building.members c.in_ok-found.found.0 plain.NoMembers) c.has_member.result row.read
          c.has_member.ensures c.if-has_member.true;
      within = row.within;
    }
