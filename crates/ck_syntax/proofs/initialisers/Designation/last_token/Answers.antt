use Rattle.ck_syntax.proofs.EndLemmas.{last-designation}
use Rattle.ck_syntax.proofs.initialisers.Designation.last_token.Goals as goal

pub returns : goal.returns
returns g c before more = last-designation before c.args.self.now.designators.items c.args.self.now.equals more
