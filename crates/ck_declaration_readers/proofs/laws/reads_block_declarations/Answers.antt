use Rattle.ck_declaration_readers.proofs.BlockDeclarations.{reads_block_declarations}
use Rattle.ck_declaration_readers.proofs.laws.reads_block_declarations.Goals as goal

pub returns : goal.returns
returns c = reads_block_declarations
