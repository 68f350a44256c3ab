use Rattle.ck_prog.proofs.BodiesDeclare.{initialiser_declares, declaration_declares, statement_declares, items_declare}
use Rattle.ck_prog.proofs.BodiesDeclare.{external_declares, externals_declare}
use Rattle.ck_prog.proofs.body_laws.bodies_declare.Goals as goal

pub returns : goal.returns
returns c =
    record {
      initialiser = initialiser_declares;
      declaration = declaration_declares;
      statement = statement_declares;
      items = items_declare;
      external = external_declares;
      externals = externals_declare;
    }
