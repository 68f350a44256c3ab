-- The loop over further declarators.
use Rattle.std.proofs.Common.{refl}
use Rattle.ck_base.specs.declared.tokens.Token.{Token}
use Rattle.ck_declaration_readers.specs.Steps.{declared_loop, declared_step}
use Rattle.ck_grammar.specs.Readers.{Reader}
use Rattle.ck_grammar.specs.Statements.{Init, NoMoreDeclared}
use Rattle.ck_grammar.specs.Trees.{Declarator}
use Rattle.ck_grammar.specs.Words.{Word}
use Rattle.ck_readers.proofs.Loops.{IsLoop}

pub declared_go : (w : Token → Word) (d : Reader Declarator) (i : Reader Init)
    → IsLoop NoMoreDeclared (declared_step w d i) (declared_loop w d i)
declared_go w d i = record { stops = λ ts. refl; goes = λ fuel ts. refl }
