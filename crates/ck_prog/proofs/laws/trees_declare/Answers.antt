use Rattle.ck_prog.proofs.TreesDeclare.{expression_declares, specifiers_declare, declarator_declares, params_declare}
use Rattle.ck_prog.proofs.TreesDeclare.{declared_declares, function_name_declares}
use Rattle.ck_prog.proofs.laws.trees_declare.Goals as goal

pub returns : goal.returns
returns c =
    record {
      expression = expression_declares;
      specifiers = specifiers_declare;
      declarator = declarator_declares;
      params = params_declare;
      declared = declared_declares;
      function_name = function_name_declares;
    }
