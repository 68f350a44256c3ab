use Rattle.std.proofs.Common.{refl}
use Rattle.ck_syntax.proofs.Equations.{declarator_tree-Nested}
use Rattle.ck_syntax.proofs.declarators.Declarator.+shape_within.Goals as goal

pub returns-in-Nested : goal.returns-in-Nested
returns-in-Nested g t c =
    rw (c.shape_within.ensures, c.shape_of-in-Nested.ensures, c.deref.ensures)
    (rw (c.in-Nested.is, declarator_tree-Nested) refl)
