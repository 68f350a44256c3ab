use Rattle.ck_readers.proofs.LookLemmas.{other_look}
use Rattle.ck_readers.proofs.looks.fixed_look.Goals as goal

pub returns-in-None : goal.returns-in-None
returns-in-None c names is = other_look names c.args.kind c.args.text.now c.in-None.ensures is
