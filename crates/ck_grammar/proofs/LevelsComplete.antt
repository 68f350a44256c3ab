-- Expressions of every level are read as they are written.
use Rattle.std.proofs.Common.{◌≡◌, ℕ, zero, suc, ◌≤◌, Bool, true, false, cond, List, [], ◌∷◌, length, Some, nat_eq}
use Rattle.std.proofs.Common.{nat_le, refl, ap, arith, inl, inr}
use Rattle.std.proofs.lemmas.Bool.{le-leb, cases_lt}
use Rattle.std.proofs.lemmas.Bool.Decides.{nat_tests}
use Rattle.ck_base.specs.declared.tokens.Token.{Token}
use Rattle.ck_grammar.proofs.CastsComplete.{ReadsTypes, OpensTypes, cast_read}
use Rattle.ck_grammar.proofs.Levels.{loosest, no_choice, no_assignment, chain_has_operand, unary_is_tight}
use Rattle.ck_grammar.proofs.OperandsComplete.{operands_read, operands_stop, no_more_operands}
use Rattle.ck_grammar.proofs.Stops.{StopsAt, Exact, stops_below, same, no_operator, at_colon, at_question, at_operator}
use Rattle.ck_grammar.specs.Fitting.{Fits, FitsOperands, chain_level, precedence}
use Rattle.ck_grammar.specs.Nesting.{nesting}
use Rattle.ck_grammar.specs.Readers.{Reader}
use Rattle.ck_grammar.specs.ReadingExpressions.{operand_loop, conditional, assignment, more, level_reader}
use Rattle.ck_grammar.specs.Trees.{Expr, Specifiers, Declarator, Name, Constant, Strings, Paren, Postfix, Unary}
use Rattle.ck_grammar.specs.Trees.{SizeofType, Cast, Chain, Conditional, Assignment}
use Rattle.ck_grammar.specs.Words.{Word, follow}
use Rattle.ck_grammar.specs.Written.{written, operands}

no_choice_behind : (w : Token → Word) (p : ℕ → Reader Expr) (e : Expr) (ts : List Token) → StopsAt w 11 ts
    → conditional w p e ts ≡ (e, ts)
no_choice_behind w p e [] stop = refl
no_choice_behind w p e (q ∷ ts) stop = rw (no_operator (follow (w q)) 11 (omega arith) stop) refl

no_assignment_behind : (w : Token → Word) (p : ℕ → Reader Expr) (e : Expr) (ts : List Token) → StopsAt w 12 ts
    → assignment w p e ts ≡ (e, ts)
no_assignment_behind w p e [] stop = refl
no_assignment_behind w p e (q ∷ ts) stop = rw (no_operator (follow (w q)) 12 (omega arith) stop) refl

by_test : {A : Type 0} (b : Bool) (x y z : A) → (b ≡ true → x ≡ z) → (b ≡ false → y ≡ z) → cond b x y ≡ z
by_test true x y z first second = first refl
by_test false x y z first second = second refl

equal : (a b : ℕ) → nat_eq a b ≡ true → a ≡ b
equal a b h = grind (arith, nat_tests)

-- nothing of the level is after it
nothing_more : (w : Token → Word) (p : ℕ → Reader Expr) (n j : ℕ) (e : Expr) (ts : List Token) → StopsAt w (suc j) ts
    → more w p n j e ts ≡ (e, ts)
nothing_more w p n j e ts stop = by_test (nat_le (nesting e) n) _ _ _
    (λ _. by_test (nat_eq j 10) _ _ _
    (λ ten. no_choice_behind w p e ts
    (stops_below w 11 (suc j) ts (let k : j ≡ 10 = equal j 10 ten in omega (arith, k)) stop))
    (λ _. by_test (nat_eq j 11) _ _ _
    (λ eleven. no_assignment_behind w p e ts
    (stops_below w 12 (suc j) ts (let k : j ≡ 11 = equal j 11 eleven in omega (arith, k)) stop))
    (λ _. rw (no_more_operands w (p j) j (length ts) ts stop) refl)))
    (λ _. refl)

-- the level below, read before what the level goes on with
abbrev Below : (Token → Word) → (ℕ → Reader Expr) → Reader (Specifiers × Declarator) → ℕ → ℕ → Type 0
Below w p ty n j = (e : Expr) (ts : List Token) → Fits w e → nesting e ≤ suc n → precedence w e ≤ j → StopsAt w j ts
    → level_reader w p ty n j (written e ts) ≡ Some (e, ts)

-- a conditional expression is read at its own level
same_level-conditional : (w : Token → Word) (p : ℕ → Reader Expr) (ty : Reader (Specifiers × Declarator)) (n j : ℕ)
    (e : Expr) (q : Token) (a : Expr) (c : Token) (b : Expr) (ts : List Token)
    → Exact w n p → Below w p ty n j → j ≤ 12 → suc j ≤ precedence w (Conditional e q a c b)
    → precedence w (Conditional e q a c b) ≤ suc j → Fits w (Conditional e q a c b)
    → nesting (Conditional e q a c b) ≤ suc n → StopsAt w (suc j) ts
    → level_reader w p ty n (suc j) (written (Conditional e q a c b) ts) ≡ Some (Conditional e q a c b, ts)
same_level-conditional w p ty n j e q a c b ts exact below bound low high h nests stop =
    let ten : j ≡ 10 = omega (arith, low, high) in
    let ten' : nat_eq j 10 ≡ true = rw ten (same 10) in
    let first : level_reader w p ty n j (written e (q ∷ written a (c ∷ written b ts))) ≡ Some
    (e, q ∷ written a (c ∷ written b ts)) = below e (q ∷ written a (c ∷ written b ts)) h.0.0 (omega (arith, nests))
    (omega (arith, h.0.1, ten)) (rw ten (at_question w q (written a (c ∷ written b ts)) h.1)) in
    let shallow : nat_le (nesting e) n ≡ true = le-leb (nesting e) n (omega (arith, nests)) in
    let middle : p 13 (written a (c ∷ written b ts)) ≡ Some (a, c ∷ written b ts) =
    exact 13 (omega arith) a (c ∷ written b ts) h.2 (omega (arith, nests)) (loosest w a h.2)
    (at_colon w c (written b ts) 13 (omega arith) h.3) in
    let last : p 11 (written b ts) ≡ Some (b, ts) = exact 11 (omega arith) b ts h.4.0 (omega (arith, nests)) h.4.1
    (stops_below w 11 (suc j) ts (omega (arith, ten)) stop) in
    rw (first, shallow, ten', h.1, middle, h.3, last) refl

same_level : (w : Token → Word) (p : ℕ → Reader Expr) (ty : Reader (Specifiers × Declarator)) (n j : ℕ) (e : Expr)
    (ts : List Token)
    → Exact w n p → Below w p ty n j → j ≤ 12 → suc j ≤ precedence w e → precedence w e ≤ suc j → Fits w e
    → nesting e ≤ suc n → StopsAt w (suc j) ts
    → level_reader w p ty n (suc j) (written e ts) ≡ Some (e, ts)
same_level w p ty n j (Chain e ops) ts exact below bound low high h nests stop =
    let level_is : chain_level w ops ≡ suc j = omega (arith, low, high) in
    let fits : FitsOperands w (suc j) ops = rw level_is at h.3 in
    let chains = rw level_is at h.0 in
    let first : level_reader w p ty n j (written e (operands ops ts)) ≡ Some (e, operands ops ts) =
    below e (operands ops ts) h.1 (omega (arith, nests)) (omega (arith, h.2, level_is))
    (operands_stop w j ops ts fits stop) in
    let shallow : nat_le (nesting e) n ≡ true = le-leb (nesting e) n (omega (arith, nests)) in
    let all : operand_loop w (p j) (suc j) (length (operands ops ts)) (operands ops ts) ≡ (ops, ts) =
    operands_read w (p j) n j ops ts (length (operands ops ts)) (exact j (omega (arith, bound))) fits
    (omega (arith, nests)) stop (omega arith) in
    rw (first, shallow, no_choice j chains, no_assignment j chains, all, chain_has_operand w ops h.0) refl
same_level w p ty n j (Conditional e q a c b) ts exact below bound low high h nests stop =
    same_level-conditional w p ty n j e q a c b ts exact below bound low high h nests stop
same_level w p ty n j (Assignment e op b) ts exact below bound low high h nests stop =
    let eleven : j ≡ 11 = omega (arith, low, high) in
    let not_ten : nat_eq j 10 ≡ false = rw eleven refl in
    let eleven' : nat_eq j 11 ≡ true = rw eleven (same 11) in
    let first : level_reader w p ty n j (written e (op ∷ written b ts)) ≡ Some (e, op ∷ written b ts) =
    below e (op ∷ written b ts) h.0.0 (omega (arith, nests)) (omega (arith, unary_is_tight w e h.0.1))
    (at_operator w op (written b ts) j 12 (omega (arith, eleven)) h.1) in
    let shallow : nat_le (nesting e) n ≡ true = le-leb (nesting e) n (omega (arith, nests)) in
    let last : p 12 (written b ts) ≡ Some (b, ts) = exact 12 (omega arith) b ts h.2.0 (omega (arith, nests)) h.2.1
    (stops_below w 12 (suc j) ts (omega (arith, eleven)) stop) in
    rw (first, shallow, not_ten, eleven', h.1, h.0.1, last) refl
same_level w p ty n j _ ts exact below bound low high h nests stop = absurd (omega (arith, low))

pub level_read : (w : Token → Word) (p : ℕ → Reader Expr) (ty : Reader (Specifiers × Declarator)) (n j : ℕ)
    → Exact w n p → ReadsTypes w n ty → OpensTypes w → j ≤ 13 → Below w p ty n j
level_read w p ty n zero exact types opens bound e ts h nests low stop =
    cast_read w p ty n e ts exact types opens low h nests stop
level_read w p ty n (suc j) exact types opens bound e ts h nests low stop =
    elim (cases_lt j (precedence w e)) [
      | inl above ↦ same_level w p ty n j e ts exact (level_read w p ty n j exact types opens (omega (arith, bound)))
          (omega (arith, bound)) (omega (arith, above)) low h nests stop
      | inr under ↦
          let first : level_reader w p ty n j (written e ts) ≡ Some (e, ts) =
          level_read w p ty n j exact types opens (omega (arith, bound)) e ts h nests under
          (stops_below w j (suc j) ts (omega arith) stop) in
          rw first (ap Some (nothing_more w p n j e ts stop))
    ]
