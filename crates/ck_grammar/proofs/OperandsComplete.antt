-- Operands of a chain are read as they are written.
use Rattle.std.proofs.Common.{◌≡◌, ℕ, zero, suc, ◌≤◌, List, [], ◌∷◌, length, Some, refl, arith}
use Rattle.ck_base.specs.declared.tokens.Token.{Token}
use Rattle.ck_grammar.proofs.Lengths.{longer}
use Rattle.ck_grammar.proofs.Stops.{StopsAt, ReadsAt, stops_below, same, no_operator}
use Rattle.ck_grammar.specs.Fitting.{FitsOperands}
use Rattle.ck_grammar.specs.Nesting.{operands_nesting}
use Rattle.ck_grammar.specs.Readers.{Reader}
use Rattle.ck_grammar.specs.ReadingExpressions.{operand_loop}
use Rattle.ck_grammar.specs.Trees.{Expr, Operands, NoOperands, Operand}
use Rattle.ck_grammar.specs.Words.{Word, follow}
use Rattle.ck_grammar.specs.Written.{written, operands}

pub no_more_operands : (w : Token → Word) (q : Reader Expr) (j f : ℕ) (more : List Token) → StopsAt w (suc j) more
    → operand_loop w q (suc j) f more ≡ (NoOperands, more)
no_more_operands w q j zero more h = refl
no_more_operands w q j (suc f) [] h = refl
no_more_operands w q j (suc f) (t ∷ ts) h = rw (no_operator (follow (w t)) (suc j) (omega arith) h) refl

pub operands_stop : (w : Token → Word) (j : ℕ) (ops : Operands) (more : List Token) → FitsOperands w (suc j) ops
    → StopsAt w (suc j) more → StopsAt w j (operands ops more)
operands_stop w j NoOperands more h stop = stops_below w j (suc j) more (omega arith) stop
operands_stop w j (Operand op e rest) more h stop = rw h.0 (omega arith)

pub operands_read : (w : Token → Word) (q : Reader Expr) (n j : ℕ) (ops : Operands) (more : List Token) (f : ℕ)
    → ReadsAt w n j q → FitsOperands w (suc j) ops → operands_nesting ops ≤ n → StopsAt w (suc j) more
    → length (operands ops more) ≤ f
    → operand_loop w q (suc j) f (operands ops more) ≡ (ops, more)
operands_read w q n j NoOperands more f reads h nests stop fuel = no_more_operands w q j f more stop
operands_read w q n j (Operand op e rest) more zero reads h nests stop fuel = absurd (omega (arith, fuel))
operands_read w q n j (Operand op e rest) more (suc f) reads h nests stop fuel =
    let read : q (written e (operands rest more)) ≡ Some (e, operands rest more) =
    reads e (operands rest more) h.1 (omega (arith, nests)) (omega (arith, h.2))
    (operands_stop w j rest more h.3 stop) in
    let again : operand_loop w q (suc j) f (operands rest more) ≡ (rest, more) =
    operands_read w q n j rest more f reads h.3 (omega (arith, nests)) stop
    (omega (arith, fuel, longer e (operands rest more))) in
    rw (h.0, same (suc j), read, again) refl
