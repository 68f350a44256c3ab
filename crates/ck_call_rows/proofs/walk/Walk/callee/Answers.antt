use Rattle.std.proofs.Common.{sym, ap, ◌∙◌, subst}
use Rattle.ck_call_rows.specs.Walks.{tables, IsCallee}
use Rattle.ck_tables.specs.Program.{readings}
use Rattle.ck_tables.specs.Readings.{plain_entry}
use Rattle.ck_call_rows.proofs.CalleeLemmas.{tells_expression}
use Rattle.ck_call_rows.proofs.walk.Walk.callee.Goals as goal

pub returns-in-None : goal.returns-in-None
returns-in-None c =
    let l = tables c.args.self.now in
    record {
      tells = λ r s used named. tells_expression l r s (named ∙ ap (plain_entry (readings l)) c.in-None.is);
    }

pub returns-in-Some : goal.returns-in-Some
returns-in-Some c =
    let l = tables c.args.self.now in
    record {
      tells =
          λ r s used named.
          c.callee_named.ensures.tells r s used (named ∙ ap (plain_entry (readings l)) c.in-Some.is);
    }
