use Rattle.ck_syntax.proofs.InitialiserEquations.{braced_tree-new}
use Rattle.ck_syntax.proofs.initialisers.BracedInit.new.Goals as goal

pub returns : goal.returns
returns g c = braced_tree-new _ _ _ _ _ _
