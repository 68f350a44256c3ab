-- Primary expressions and suffixes are read as they are written.
use Rattle.std.proofs.Common.{◌≡◌, ℕ, zero, suc, ◌≤◌, ◌<◌, Bool, true, false, cond, List, [], ◌∷◌, ◌++◌, length, Some}
use Rattle.std.proofs.Common.{nat_le, refl, ◌∙◌, arith, ap, None}
use Rattle.std.proofs.lemmas.Bool.{false≢true, le-leb}
use Rattle.ck_base.specs.declared.tokens.Token.{Token}
use Rattle.ck_grammar.proofs.Heads.{begins}
use Rattle.ck_grammar.proofs.Lengths.{longer, longer_operands}
use Rattle.ck_grammar.proofs.Levels.{loosest}
use Rattle.ck_grammar.proofs.OperandsComplete.{operands_read, operands_stop}
use Rattle.ck_grammar.proofs.Stops.{StopsAt, Exact, at_round, at_square, looseness}
use Rattle.ck_grammar.specs.Fitting.{Fits, FitsSuffixes, AreStrings, is_primary}
use Rattle.ck_grammar.specs.Nesting.{nesting, suffixes_nesting}
use Rattle.ck_grammar.specs.Readers.{Reader, or_else}
use Rattle.ck_grammar.specs.ReadingExpressions.{operand_loop, suffix_loop, suffix_by, suffixed, postfix_after, unary}
use Rattle.ck_grammar.specs.ReadingExpressions.{neighbours, is_string, begins_operand}
use Rattle.ck_grammar.specs.Trees.{Expr, Suffixes, Specifiers, Declarator, Name, Constant, Strings, Paren, Postfix}
use Rattle.ck_grammar.specs.Trees.{Operands, NoSuffixes, Index, CallEmpty, Call, MemberAccess, PostIncrement}
use Rattle.ck_grammar.specs.Words.{Word, String, Follow, Neighbour, Operator, Nothing, follow}
use Rattle.ck_grammar.specs.Written.{written, operands, suffixes}

no_suffix : (w : Token → Word) (p : ℕ → Reader Expr) (go : List Token → Suffixes × List Token) (x : Follow) (t : Token)
    (ts : List Token) → 0 < looseness x → suffix_by w p go x t ts ≡ None
no_suffix w p go Neighbour t ts h = refl
no_suffix w p go (Operator k) t ts h = refl
no_suffix w p go Nothing t ts h = refl
no_suffix w p go _ t ts h = absurd (omega (arith, h))

pub no_more_suffixes : (w : Token → Word) (p : ℕ → Reader Expr) (f : ℕ) (more : List Token) → StopsAt w 0 more
    → suffix_loop w p f more ≡ (NoSuffixes, more)
no_more_suffixes w p zero more h = refl
no_more_suffixes w p (suc f) [] h = refl
no_more_suffixes w p (suc f) (t ∷ ts) h =
    ap (or_else (NoSuffixes, t ∷ ts)) (no_suffix w p (suffix_loop w p f) (follow (w t)) t ts h)

-- a call is read where what is after it is
suffixes_read-call : (w : Token → Word) (p : ℕ → Reader Expr) (n : ℕ) (o : Token) (e : Expr) (ops : Operands)
    (c : Token) (rest : Suffixes) (more : List Token) (f : ℕ)
    → Exact w n p → FitsSuffixes w (Call o e ops c rest) → suffixes_nesting (Call o e ops c rest) ≤ n
    → suffix_loop w p f (suffixes rest more) ≡ (rest, more)
    → suffix_loop w p (suc f) (suffixes (Call o e ops c rest) more) ≡ (Call o e ops c rest, more)
suffixes_read-call w p n o e ops c rest more f exact h nests again =
    let stop13 : StopsAt w 13 (c ∷ suffixes rest more) = at_round w c (suffixes rest more) 13 (omega arith) h.2 in
    let head : begins_operand w (written e (operands ops (c ∷ suffixes rest more))) ≡ true =
    begins w e (operands ops (c ∷ suffixes rest more)) h.1.0 in
    let read : p 12 (written e (operands ops (c ∷ suffixes rest more))) ≡ Some
    (e, operands ops (c ∷ suffixes rest more)) = exact 12 (omega arith) e
    (operands ops (c ∷ suffixes rest more)) h.1.0 (omega (arith, nests)) (omega (arith, h.1.1))
    (operands_stop w 12 ops (c ∷ suffixes rest more) h.1.2 stop13) in
    let all : operand_loop w (p 12) 13 (length (operands ops (c ∷ suffixes rest more)))
    (operands ops (c ∷ suffixes rest more)) ≡ (ops, c ∷ suffixes rest more) =
    operands_read w (p 12) n 12 ops (c ∷ suffixes rest more) (length (operands ops (c ∷ suffixes rest more)))
    (exact 12 (omega arith)) h.1.2 (omega (arith, nests)) stop13 (omega arith) in
    rw (h.0, head, read, all, h.2, again) refl

pub suffixes_read : (w : Token → Word) (p : ℕ → Reader Expr) (n : ℕ) (s : Suffixes) (more : List Token) (f : ℕ)
    → Exact w n p → FitsSuffixes w s → suffixes_nesting s ≤ n → StopsAt w 0 more → length (suffixes s more) ≤ f
    → suffix_loop w p f (suffixes s more) ≡ (s, more)
suffixes_read w p n NoSuffixes more f exact h nests stop fuel = no_more_suffixes w p f more stop
suffixes_read w p n (Index o e c rest) more (suc f) exact h nests stop fuel =
    let read : p 13 (written e (c ∷ suffixes rest more)) ≡ Some (e, c ∷ suffixes rest more) =
    exact 13 (omega arith) e (c ∷ suffixes rest more) h.1 (omega (arith, nests)) (loosest w e h.1)
    (at_square w c (suffixes rest more) 13 (omega arith) h.2) in
    let again : suffix_loop w p f (suffixes rest more) ≡ (rest, more) = suffixes_read w p n rest more f exact h.3
    (omega (arith, nests)) stop (omega (arith, fuel, longer e (c ∷ suffixes rest more))) in
    rw (h.0, read, h.2, again) refl
suffixes_read w p n (CallEmpty o c rest) more (suc f) exact h nests stop fuel =
    let again : suffix_loop w p f (suffixes rest more) ≡ (rest, more) =
    suffixes_read w p n rest more f exact h.2 nests stop (omega (arith, fuel)) in
    rw (h.0, h.1, again) refl
suffixes_read w p n (Call o e ops c rest) more (suc f) exact h nests stop fuel =
    suffixes_read-call w p n o e ops c rest more f exact h nests
    (suffixes_read w p n rest more f exact h.3 (omega (arith, nests)) stop
    (omega (
      arith,
      fuel,
      longer e (operands ops (c ∷ suffixes rest more)),
      longer_operands ops (c ∷ suffixes rest more),
    )))
suffixes_read w p n (MemberAccess t m rest) more (suc f) exact h nests stop fuel =
    let again : suffix_loop w p f (suffixes rest more) ≡ (rest, more) =
    suffixes_read w p n rest more f exact h.2 nests stop (omega (arith, fuel)) in
    rw (h.0, h.1, again) refl
suffixes_read w p n (PostIncrement t rest) more (suc f) exact h nests stop fuel =
    let again : suffix_loop w p f (suffixes rest more) ≡ (rest, more) =
    suffixes_read w p n rest more f exact h.1 nests stop (omega (arith, fuel)) in
    rw (h.0, again) refl
suffixes_read w p n _ more _ exact h nests stop fuel = absurd (omega (arith, fuel))

-- no string literal comes first
abbrev pub StopsStrings : (Token → Word) → List Token → Type 0
StopsStrings w [] = Unit {0}
StopsStrings w (t ∷ ts) = is_string (w t) ≡ false

abbrev pub is_neighbour : Follow → Bool
is_neighbour Neighbour = true
is_neighbour _ = false

pub no_string : (word : Word) → is_neighbour (follow word) ≡ false → is_string word ≡ false
no_string String h = h
no_string _ h = refl

looser_no_neighbour : (x : Follow) → 0 < looseness x → is_neighbour x ≡ false
looser_no_neighbour Neighbour h = absurd (omega (arith, h))
looser_no_neighbour _ h = refl

pub stops_strings : (w : Token → Word) (more : List Token) → StopsAt w 0 more → StopsStrings w more
stops_strings w [] h = tt
stops_strings w (t ∷ ts) h = no_string (w t) (looser_no_neighbour (follow (w t)) h)

suffixes_stop : (w : Token → Word) (s : Suffixes) (more : List Token) → FitsSuffixes w s → StopsStrings w more
    → StopsStrings w (suffixes s more)
suffixes_stop w NoSuffixes more h stop = stop
suffixes_stop w (MemberAccess t m rest) more h stop = no_string (w t) (rw h.0 refl)
suffixes_stop w (PostIncrement t rest) more h stop = no_string (w t) (rw h.0 refl)
suffixes_stop w _ more h stop = rw h.0 refl

neighbours_read : (w : Token → Word) (ts more : List Token) → AreStrings w ts → StopsStrings w more
    → neighbours w (ts ++ more) ≡ (ts, more)
neighbours_read w [] [] h stop = refl
neighbours_read w [] (t ∷ more) h stop = rw stop refl
neighbours_read w (t ∷ ts) more h stop = rw (h.0, neighbours_read w ts more h.1 stop) refl

-- a primary expression is read, and then what is after it
pub primary_read : (w : Token → Word) (p : ℕ → Reader Expr) (ty : Reader (Specifiers × Declarator)) (n : ℕ) (e : Expr)
    (more : List Token)
    → Exact w n p → is_primary e ≡ true → Fits w e → nesting e ≤ suc n → StopsStrings w more
    → unary w p ty n (written e more) ≡ Some (postfix_after w p n e more)
primary_read w p ty n (Name t) more exact one h nests stop = rw h refl
primary_read w p ty n (Constant t) more exact one h nests stop = rw h refl
primary_read w p ty n (Strings t ts) more exact one h nests stop = rw (h.0, neighbours_read w ts more h.1 stop) refl
primary_read w p ty n (Paren o e c) more exact one h nests stop =
    let read : p 13 (written e (c ∷ more)) ≡ Some (e, c ∷ more) = exact 13 (omega arith) e (c ∷ more) h.1
    (omega (arith, nests)) (loosest w e h.1) (at_round w c more 13 (omega arith) h.2) in
    rw (h.0, read, h.2) refl
primary_read w p ty n (Postfix e s) more exact one h nests stop = absurd (false≢true one)
primary_read w p ty n _ more exact one h nests stop = absurd (false≢true one)

either : (b : Bool) (e : Expr) (more : List Token) → cond b (suffixed e (NoSuffixes, more)) (e, more) ≡ (e, more)
either true e more = refl
either false e more = refl

-- nothing is after it
pub nothing_behind : (w : Token → Word) (p : ℕ → Reader Expr) (n : ℕ) (e : Expr) (more : List Token) → StopsAt w 0 more
    → postfix_after w p n e more ≡ (e, more)
nothing_behind w p n e more stop = rw (no_more_suffixes w p (length more) more stop)
    (either (nat_le (nesting e) n) e more)

pub suffixed_read : (w : Token → Word) (p : ℕ → Reader Expr) (ty : Reader (Specifiers × Declarator)) (n : ℕ) (e : Expr)
    (s : Suffixes) (more : List Token)
    → Exact w n p → Fits w (Postfix e s) → nesting (Postfix e s) ≤ suc n → StopsAt w 0 more
    → unary w p ty n (written e (suffixes s more)) ≡ Some (Postfix e s, more)
suffixed_read w p ty n e s more exact h nests stop =
    let first : unary w p ty n (written e (suffixes s more)) ≡ Some (postfix_after w p n e (suffixes s more)) =
    primary_read w p ty n e (suffixes s more) exact h.0 h.1 (omega (arith, nests))
    (suffixes_stop w s more h.2 (stops_strings w more stop)) in
    let fits : nat_le (nesting e) n ≡ true = le-leb (nesting e) n (omega (arith, nests)) in
    let rest : suffix_loop w p (length (suffixes s more)) (suffixes s more) ≡ (s, more) =
    suffixes_read w p n s more (length (suffixes s more)) exact h.2 (omega (arith, nests)) stop (omega arith) in
    first ∙ rw (fits, rest, h.3) refl
