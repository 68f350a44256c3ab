-- How loose trees are.
use Rattle.std.proofs.Common.{◌≡◌, ℕ, suc, ◌≤◌, true, false, nat_eq, refl, arith}
use Rattle.std.proofs.lemmas.Bool.{false≢true}
use Rattle.std.proofs.lemmas.Bool.Decides.{nat_tests}
use Rattle.ck_base.specs.declared.tokens.Token.{Token}
use Rattle.ck_grammar.proofs.Stops.{differ}
use Rattle.ck_grammar.specs.Fitting.{Fits, is_chain_level, chain_level, precedence, is_unary, takes, is_tight}
use Rattle.ck_grammar.specs.ReadingExpressions.{has_operand}
use Rattle.ck_grammar.specs.Trees.{Expr, Operands, NoOperands, Operand, Chain, Conditional, Assignment}
use Rattle.ck_grammar.specs.Words.{Word, Lead, StepLead, OperatorLead, SizeofLead}

chain_bound : (k : ℕ) → is_chain_level k ≡ true → k ≤ 13
chain_bound k h = grind (arith, nat_tests)

pub loosest : (w : Token → Word) (e : Expr) → Fits w e → precedence w e ≤ 13
loosest w (Chain e ops) h = chain_bound (chain_level w ops) h.0
loosest w _ h = omega arith

-- which levels are no chains
pub no_choice : (j : ℕ) → is_chain_level (suc j) ≡ true → nat_eq j 10 ≡ false
no_choice j h = differ j 10 (λ e. false≢true (rw e at h))

pub no_assignment : (j : ℕ) → is_chain_level (suc j) ≡ true → nat_eq j 11 ≡ false
no_assignment j h = differ j 11 (λ e. false≢true (rw e at h))

pub chain_has_operand : (w : Token → Word) (ops : Operands) → is_chain_level (chain_level w ops) ≡ true
    → has_operand ops ≡ true
chain_has_operand w NoOperands h = h
chain_has_operand w (Operand op e rest) h = refl

pub chain_not_tight : (k : ℕ) → is_chain_level k ≡ true → k ≤ 0 → ⊥
chain_not_tight k h le = let e : k ≡ 0 = omega (arith, le) in false≢true (rw e at h)

pub unary_is_tight : (w : Token → Word) (e : Expr) → is_unary e ≡ true → precedence w e ≤ 0
unary_is_tight w (Chain e ops) h = absurd (false≢true h)
unary_is_tight w (Conditional e q a c b) h = absurd (false≢true h)
unary_is_tight w (Assignment e op b) h = absurd (false≢true h)
unary_is_tight w _ h = omega arith

tight : (a : ℕ) → nat_eq a 0 ≡ true → a ≤ 0
tight a h = grind (arith, nat_tests)

-- what a prefix takes is tight
pub taken_is_tight : (w : Token → Word) (l : Lead) (e : Expr) → takes l e (is_tight w) ≡ true → precedence w e ≤ 0
taken_is_tight w StepLead e h = unary_is_tight w e h
taken_is_tight w OperatorLead e h = tight (precedence w e) h
taken_is_tight w SizeofLead e h = unary_is_tight w e h
taken_is_tight w _ e h = absurd (false≢true h)
