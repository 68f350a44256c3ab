use Rattle.ck_tables.proofs.FitLemmas.{type_node_still, member_row_still, entry_row_still, expression_node_still}
use Rattle.ck_tables.proofs.FitLemmas.{initialiser_node_still, declaration_row_still, statement_node_still, body_still}
use Rattle.ck_tables.proofs.FitLemmas.{file_still}
use Rattle.ck_tables.proofs.laws.rows_still_fit.Goals as goal

pub returns : goal.returns
returns c =
    record {
      types = type_node_still;
      members = member_row_still;
      entries = entry_row_still;
      expressions = expression_node_still;
      initialisers = initialiser_node_still;
      declarations = declaration_row_still;
      statements = statement_node_still;
      bodies = body_still;
      files = file_still;
    }
