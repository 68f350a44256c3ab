-- Where an expression is written, whatever is after it, the readers read one that leaves no more tokens than it
-- does.
use Rattle.std.proofs.Common.{◌≡◌, ℕ, zero, suc, ◌≤◌, Bool, true, false, cond, List, [], ◌∷◌, ◌++◌, length, Some, None}
use Rattle.std.proofs.Common.{nat_eq, nat_le, refl, ap, arith, inl, inr}
use Rattle.std.proofs.lemmas.Bool.{false≢true, le-leb, cases_lt}
use Rattle.ck_base.specs.declared.tokens.Token.{Token}
use Rattle.ck_grammar.proofs.CastsComplete.{ReadsTypes, OpensTypes, prefix_by}
use Rattle.ck_grammar.proofs.ExpressionsSound.{SoundExprs, SoundTypes, IsExpr, neighbours_sound, operand_loop_sound}
use Rattle.ck_grammar.proofs.ExpressionsSound.{suffix_loop_sound, level_sound, on_operator}
use Rattle.ck_grammar.proofs.Heads.{begins, no_cast}
use Rattle.ck_grammar.proofs.Lengths.{longer, longer_append, longer_operands, longer_suffixes}
use Rattle.ck_grammar.proofs.Levels.{loosest, no_choice, no_assignment, chain_not_tight, unary_is_tight, taken_is_tight}
use Rattle.ck_grammar.proofs.LevelsComplete.{level_read}
use Rattle.ck_grammar.proofs.ReaderAnswers.{OnRead, on_then, on_mark, by_if, on_guard}
use Rattle.ck_grammar.proofs.OperandsComplete.{operands_stop, operands_read}
use Rattle.ck_grammar.proofs.Stops.{StopsAt, Exact, same, at_round, at_square, at_colon, at_question, at_operator}
use Rattle.ck_grammar.proofs.SuffixesComplete.{StopsStrings, no_string, primary_read}
use Rattle.ck_grammar.specs.Fitting.{Fits, FitsOperands, FitsSuffixes, AreStrings, chain_level, precedence, is_unary}
use Rattle.ck_grammar.specs.Fitting.{takes, is_tight, has_suffix}
use Rattle.ck_grammar.specs.Nesting.{nesting, operands_nesting, suffixes_nesting}
use Rattle.ck_grammar.specs.Readers.{Read, Reader, ◌>>=◌, or_else}
use Rattle.ck_grammar.specs.ReadingExpressions.{neighbours, operand_loop, suffix_loop, suffixed, postfix_after}
use Rattle.ck_grammar.specs.ReadingExpressions.{begins_operand, opens_type, unary, cast, has_operand, chained}
use Rattle.ck_grammar.specs.ReadingExpressions.{conditional, assignment, more, more_by, level_reader}
use Rattle.ck_grammar.specs.Trees.{Expr, Operands, Suffixes, Specifiers, Declarator, Name, Constant, Strings, Paren}
use Rattle.ck_grammar.specs.Trees.{Postfix, Unary, SizeofType, Cast, Chain, Conditional, Assignment, NoOperands}
use Rattle.ck_grammar.specs.Trees.{Operand, NoSuffixes, Index, CallEmpty, Call, MemberAccess, PostIncrement}
use Rattle.ck_grammar.specs.Words.{Word, Lead, StepLead, OperatorLead, SizeofLead, lead}
use Rattle.ck_grammar.specs.Written.{written, operands, suffixes, specifiers, declarator}

-- something is read, and no more than so many tokens are left
abbrev pub Reaches : {A : Type 0} → ℕ → Read A → Type 0
Reaches k None = ⊥
Reaches k (Some x) = length x.1 ≤ k

reach_then : {A B : Type 0} (k l : ℕ) (P : A → List Token → Type 0) (x : Read A) (go : A × List Token → Read B)
    → OnRead P x → Reaches k x → ((a : A) (r : List Token) → P a r → length r ≤ k → Reaches l (go (a, r)))
    → Reaches l (x >>= go)
reach_then k l P None go h reach next = absurd reach
reach_then k l P (Some x) go h reach next = next x.0 x.1 h reach

-- the expressions that nest so deep are reached
abbrev pub ReachesExprs : (Token → Word) → ℕ → (ℕ → Reader Expr) → Type 0
ReachesExprs w n p = (j : ℕ) → j ≤ 13 → (e : Expr) (more : List Token) → Fits w e → nesting e ≤ n → precedence w e ≤ j
    → Reaches (length more) (p j (written e more))

-- what doesn't begin as a cast is read as a unary expression at the tightest level
abbrev pub UnaryReads : (Token → Word) → (ℕ → Reader Expr) → Type 0
UnaryReads w p = (ts : List Token) → opens_type w ts ≡ false → OnRead (λ e r. is_unary e ≡ true) (p 0 ts)

-- loops give no tokens back
suffix_loop_keeps : (w : Token → Word) (p : ℕ → Reader Expr) (n f : ℕ) (ts : List Token) → SoundExprs w n p
    → length (suffix_loop w p f ts).1 ≤ length ts
suffix_loop_keeps w p n f ts sound =
    omega (
      arith,
      ap length (suffix_loop_sound w p n f sound ts).tokens_are,
      longer_suffixes (suffix_loop w p f ts).0 (suffix_loop w p f ts).1,
    )

operand_loop_keeps : (w : Token → Word) (p : ℕ → Reader Expr) (n j f : ℕ) (ts : List Token) → j ≤ 13 → SoundExprs w n p
    → length (operand_loop w (p j) (suc j) f ts).1 ≤ length ts
operand_loop_keeps w p n j f ts le sound =
    omega (
      arith,
      ap length (operand_loop_sound w (p j) n j f (sound j le) ts).tokens_are,
      longer_operands (operand_loop w (p j) (suc j) f ts).0 (operand_loop w (p j) (suc j) f ts).1,
    )

suffixed_rest : (e : Expr) (x : Suffixes × List Token) → (suffixed e x).1 ≡ x.1
suffixed_rest e x = by_if {A = Expr × List Token} (λ y. y.1 ≡ x.1) (has_suffix x.0) (Postfix e x.0, x.1) (e, x.1)
    (λ _. refl) (λ _. refl)

chained_rest : (e : Expr) (x : Operands × List Token) → (chained e x).1 ≡ x.1
chained_rest e x = by_if {A = Expr × List Token} (λ y. y.1 ≡ x.1) (has_operand x.0) (Chain e x.0, x.1) (e, x.1)
    (λ _. refl) (λ _. refl)

postfix_keeps : (w : Token → Word) (p : ℕ → Reader Expr) (n : ℕ) (e : Expr) (r : List Token) → SoundExprs w n p
    → length (postfix_after w p n e r).1 ≤ length r
postfix_keeps w p n e r sound =
    by_if {A = Expr × List Token} (λ y. length y.1 ≤ length r) (nat_le (nesting e) n)
    (suffixed e (suffix_loop w p (length r) r)) (e, r)
    (λ _. rw (suffixed_rest e (suffix_loop w p (length r) r)) (suffix_loop_keeps w p n (length r) r sound))
    (λ _. omega arith)

neighbours_reach : (w : Token → Word) (ts more : List Token) → AreStrings w ts
    → length (neighbours w (ts ++ more)).1 ≤ length more
neighbours_reach w [] more h =
    omega (
      arith,
      ap length (neighbours_sound w more).tokens_are,
      longer_append (neighbours w more).0
          (neighbours w more).1,
    )
neighbours_reach w (t ∷ ts) more h = rw h.0 (neighbours_reach w ts more h.1)

suffixes_reach : (w : Token → Word) (p : ℕ → Reader Expr) (n : ℕ) (s : Suffixes) (more : List Token) (f : ℕ)
    → Exact w n p → SoundExprs w n p → FitsSuffixes w s → suffixes_nesting s ≤ n → length (suffixes s more) ≤ f
    → length (suffix_loop w p f (suffixes s more)).1 ≤ length more
suffixes_reach w p n NoSuffixes more f exact sound h nests fuel = suffix_loop_keeps w p n f more sound
suffixes_reach w p n (Index o e c rest) more (suc f) exact sound h nests fuel =
    let read : p 13 (written e (c ∷ suffixes rest more)) ≡ Some (e, c ∷ suffixes rest more) =
    exact 13 (omega arith) e (c ∷ suffixes rest more) h.1 (omega (arith, nests)) (loosest w e h.1)
    (at_square w c (suffixes rest more) 13 (omega arith) h.2) in
    rw (h.0, read, h.2)
    (suffixes_reach w p n rest more f exact sound h.3 (omega (arith, nests))
    (omega (arith, fuel, longer e (c ∷ suffixes rest more))))
suffixes_reach w p n (CallEmpty o c rest) more (suc f) exact sound h nests fuel =
    rw (h.0, h.1) (suffixes_reach w p n rest more f exact sound h.2 nests (omega (arith, fuel)))
suffixes_reach w p n (Call o e ops c rest) more (suc f) exact sound h nests fuel =
    let stop13 : StopsAt w 13 (c ∷ suffixes rest more) = at_round w c (suffixes rest more) 13 (omega arith) h.2 in
    let head : begins_operand w (written e (operands ops (c ∷ suffixes rest more))) ≡ true =
    begins w e (operands ops (c ∷ suffixes rest more)) h.1.0 in
    let read : p 12 (written e (operands ops (c ∷ suffixes rest more))) ≡ Some
    (e, operands ops (c ∷ suffixes rest more)) = exact 12 (omega arith) e
    (operands ops (c ∷ suffixes rest more)) h.1.0 (omega (arith, nests)) (omega (arith, h.1.1))
    (operands_stop w 12 ops (c ∷ suffixes rest more) h.1.2 stop13) in
    let all : operand_loop w (p 12) 13 (length (operands ops (c ∷ suffixes rest more)))
    (operands ops (c ∷ suffixes rest more)) ≡ (ops, c ∷ suffixes rest more) =
    operands_read w (p 12) n 12 ops (c ∷ suffixes rest more) (length (operands ops (c ∷ suffixes rest more)))
    (exact 12 (omega arith)) h.1.2 (omega (arith, nests)) stop13 (omega arith) in
    rw (h.0, head, read, all, h.2)
    (suffixes_reach w p n rest more f exact sound h.3 (omega (arith, nests))
    (omega (
      arith,
      fuel,
      longer e (operands ops (c ∷ suffixes rest more)),
      longer_operands ops (c ∷ suffixes rest more),
    )))
suffixes_reach w p n (MemberAccess t m rest) more (suc f) exact sound h nests fuel =
    rw (h.0, h.1) (suffixes_reach w p n rest more f exact sound h.2 nests (omega (arith, fuel)))
suffixes_reach w p n (PostIncrement t rest) more (suc f) exact sound h nests fuel =
    rw h.0 (suffixes_reach w p n rest more f exact sound h.1 nests (omega (arith, fuel)))
suffixes_reach w p n _ more _ exact sound h nests fuel = absurd (omega (arith, fuel))

-- a suffix is no string literal
suffix_first : (w : Token → Word) (s : Suffixes) (more : List Token) → FitsSuffixes w s → has_suffix s ≡ true
    → StopsStrings w (suffixes s more)
suffix_first w NoSuffixes more h one = absurd (false≢true one)
suffix_first w (MemberAccess t m rest) more h one = no_string (w t) (rw h.0 refl)
suffix_first w (PostIncrement t rest) more h one = no_string (w t) (rw h.0 refl)
suffix_first w _ more h one = rw h.0 refl

-- a prefix takes what else is as tight
takes_too : (w : Token → Word) (l : Lead) (e f : Expr) → takes l e (is_tight w) ≡ true → precedence w f ≤ 0
    → (is_unary e ≡ true → is_unary f ≡ true) → takes l f (is_tight w) ≡ true
takes_too w StepLead e f h low one = one h
takes_too w OperatorLead e f h low one = let k : precedence w f ≡ 0 = omega (arith, low) in rw k refl
takes_too w SizeofLead e f h low one = one h
takes_too w _ e f h low one = h

if_reached : {A : Type 0} (b : Bool) (x : A) (r : List Token) (k : ℕ) → b ≡ true → length r ≤ k
    → Reaches k (cond b (Some (x, r)) None)
if_reached b x r k h le = rw h le

-- what `p` reads at the tightest level, where a tight expression is written
tight_reads : (w : Token → Word) (p : ℕ → Reader Expr) (n : ℕ) (e : Expr) (more : List Token) (read : Read Expr)
    → OnRead (IsExpr w n 0 (written e more)) read → (is_unary e ≡ true → OnRead (λ f r. is_unary f ≡ true) read)
    → OnRead (λ f r. (precedence w f ≤ 0) × (is_unary e ≡ true → is_unary f ≡ true)) read
tight_reads w p n e more None is one = tt
tight_reads w p n e more (Some x) is one = (is.good.2, one)

prefixed_reach : (w : Token → Word) (p : ℕ → Reader Expr) (ty : Reader (Specifiers × Declarator)) (n : ℕ) (op : Token)
    (e : Expr) (more : List Token)
    → SoundExprs w n p → ReachesExprs w n p → UnaryReads w p → Fits w (Unary op e) → nesting e ≤ n
    → Reaches (length more) (unary w p ty n (op ∷ written e more))
prefixed_reach w p ty n op e more sound reach one h nests =
    rw (prefix_by w p ty n (lead (w op)) e op (written e more) h.1 (no_cast w e more h.0))
    (reach_then (length more) (length more) (λ f r. (precedence w f ≤ 0) × (is_unary e ≡ true → is_unary f ≡ true))
    (p 0 (written e more)) _
    (tight_reads w p n e more (p 0 (written e more)) (sound 0 (omega arith) (written e more))
    (λ u. one (written e more) (no_cast w e more h.0 u)))
    (reach 0 (omega arith) e more h.0 nests (taken_is_tight w (lead (w op)) e h.1))
    (λ f r is le. if_reached (takes (lead (w op)) f (is_tight w)) (Unary op f) r (length more)
    (takes_too w (lead (w op)) e f h.1 is.0 is.1) le))

unary_reach : (w : Token → Word) (p : ℕ → Reader Expr) (ty : Reader (Specifiers × Declarator)) (n : ℕ) (e : Expr)
    (more : List Token)
    → Exact w n p → SoundExprs w n p → ReachesExprs w n p → UnaryReads w p → ReadsTypes w n ty → OpensTypes w
    → is_unary e ≡ true → Fits w e → nesting e ≤ suc n
    → Reaches (length more) (unary w p ty n (written e more))
unary_reach w p ty n (Name t) more exact sound reach one types opens u h nests =
    rw h (postfix_keeps w p n (Name t) more sound)
unary_reach w p ty n (Constant t) more exact sound reach one types opens u h nests =
    rw h (postfix_keeps w p n (Constant t) more sound)
unary_reach w p ty n (Strings t ts) more exact sound reach one types opens u h nests =
    rw h.0 (omega (
      arith,
      postfix_keeps w p n (Strings t (neighbours w (ts ++ more)).0) (neighbours w (ts ++ more)).1 sound,
      neighbours_reach w ts more h.1,
    ))
unary_reach w p ty n (Paren o e c) more exact sound reach one types opens u h nests =
    let read : p 13 (written e (c ∷ more)) ≡ Some (e, c ∷ more) = exact 13 (omega arith) e (c ∷ more) h.1
    (omega (arith, nests)) (loosest w e h.1) (at_round w c more 13 (omega arith) h.2) in
    rw (h.0, read, h.2) (postfix_keeps w p n (Paren o e c) more sound)
unary_reach w p ty n (Postfix e s) more exact sound reach one types opens u h nests =
    let first : unary w p ty n (written e (suffixes s more)) ≡ Some (postfix_after w p n e (suffixes s more)) =
    primary_read w p ty n e (suffixes s more) exact h.0 h.1 (omega (arith, nests))
    (suffix_first w s more h.2 h.3) in
    let shallow : nat_le (nesting e) n ≡ true = le-leb (nesting e) n (omega (arith, nests)) in
    rw (first, shallow, suffixed_rest e (suffix_loop w p (length (suffixes s more)) (suffixes s more)))
    (suffixes_reach w p n s more (length (suffixes s more)) exact sound h.2 (omega (arith, nests)) (omega arith))
unary_reach w p ty n (Unary op e) more exact sound reach one types opens u h nests =
    prefixed_reach w p ty n op e more sound reach one h (omega (arith, nests))
unary_reach w p ty n (SizeofType k o s d c) more exact sound reach one types opens u h nests =
    let open_ : opens_type w (o ∷ specifiers s (declarator d (c ∷ more))) ≡ true =
    opens o s (declarator d (c ∷ more)) h.1 h.2.0 h.2.1 in
    let read : ty (specifiers s (declarator d (c ∷ more))) ≡ Some ((s, d), c ∷ more) =
    types s d c more h.2.0 h.2.1 h.2.2 (omega (arith, nests)) (omega (arith, nests)) h.3 in
    rw (h.0, open_, h.1, read, h.3) (omega arith)
unary_reach w p ty n (Cast o s d c e) more exact sound reach one types opens u h nests = absurd (false≢true u)
unary_reach w p ty n _ more exact sound reach one types opens u h nests = absurd (false≢true u)

-- a unary expression is no cast
uncast_reach : (w : Token → Word) (p : ℕ → Reader Expr) (ty : Reader (Specifiers × Declarator)) (n : ℕ) (e : Expr)
    (more : List Token)
    → Exact w n p → SoundExprs w n p → ReachesExprs w n p → UnaryReads w p → ReadsTypes w n ty → OpensTypes w
    → is_unary e ≡ true → Fits w e → nesting e ≤ suc n
    → Reaches (length more) (cast w p ty n (written e more))
uncast_reach w p ty n e more exact sound reach one types opens u h nests =
    rw (no_cast w e more h u) (unary_reach w p ty n e more exact sound reach one types opens u h nests)

cast_reach : (w : Token → Word) (p : ℕ → Reader Expr) (ty : Reader (Specifiers × Declarator)) (n : ℕ) (e : Expr)
    (more : List Token)
    → Exact w n p → SoundExprs w n p → ReachesExprs w n p → UnaryReads w p → ReadsTypes w n ty → OpensTypes w
    → precedence w e ≤ 0 → Fits w e → nesting e ≤ suc n
    → Reaches (length more) (cast w p ty n (written e more))
cast_reach w p ty n (Name t) more exact sound reach one types opens low h nests =
    uncast_reach w p ty n (Name t) more exact sound reach one types opens refl h nests
cast_reach w p ty n (Constant t) more exact sound reach one types opens low h nests =
    uncast_reach w p ty n (Constant t) more exact sound reach one types opens refl h nests
cast_reach w p ty n (Strings t ts) more exact sound reach one types opens low h nests =
    uncast_reach w p ty n (Strings t ts) more exact sound reach one types opens refl h nests
cast_reach w p ty n (Paren o e c) more exact sound reach one types opens low h nests =
    uncast_reach w p ty n (Paren o e c) more exact sound reach one types opens refl h nests
cast_reach w p ty n (Postfix e s) more exact sound reach one types opens low h nests =
    uncast_reach w p ty n (Postfix e s) more exact sound reach one types opens refl h nests
cast_reach w p ty n (Unary op e) more exact sound reach one types opens low h nests =
    uncast_reach w p ty n (Unary op e) more exact sound reach one types opens refl h nests
cast_reach w p ty n (SizeofType k o s d c) more exact sound reach one types opens low h nests =
    uncast_reach w p ty n (SizeofType k o s d c) more exact sound reach one types opens refl h nests
cast_reach w p ty n (Cast o s d c e) more exact sound reach one types opens low h nests =
    let open_ : opens_type w (o ∷ specifiers s (declarator d (c ∷ written e more))) ≡ true =
    opens o s (declarator d (c ∷ written e more)) h.0 h.1.0 h.1.1 in
    let read : ty (specifiers s (declarator d (c ∷ written e more))) ≡ Some ((s, d), c ∷ written e more) =
    types s d c (written e more) h.1.0 h.1.1 h.1.2 (omega (arith, nests)) (omega (arith, nests)) h.2 in
    rw (open_, h.0, read, h.2)
    (reach_then (length more) (length more) (IsExpr w n 0 (written e more)) (p 0 (written e more)) _
    (sound 0 (omega arith) (written e more))
    (reach 0 (omega arith) e more h.3 (omega (arith, nests)) (omega (arith, h.4))) (λ f r is le. le))
cast_reach w p ty n (Chain e ops) more exact sound reach one types opens low h nests =
    absurd (chain_not_tight _ h.0 low)
cast_reach w p ty n (Conditional e q a c b) more exact sound reach one types opens low h nests =
    absurd (omega (arith, low))
cast_reach w p ty n (Assignment e op b) more exact sound reach one types opens low h nests = absurd (omega (arith, low))

else_reach : {A : Type 0} (k : ℕ) (x : A × List Token) (m : Read A) → Reaches k m → length (or_else x m).1 ≤ k
else_reach k x None reach = absurd reach
else_reach k x (Some y) reach = reach

else_keeps : {A : Type 0} (k : ℕ) (x : A × List Token) (m : Read A) → length x.1 ≤ k → OnRead (λ y r. length r ≤ k) m
    → length (or_else x m).1 ≤ k
else_keeps k x None h le = h
else_keeps k x (Some y) h le = le

-- operands: all but the last are read exactly, and the last is reached
operands_reach : (w : Token → Word) (p : ℕ → Reader Expr) (n j : ℕ) (ops : Operands) (more : List Token) (f : ℕ)
    → j ≤ 13 → Exact w n p → SoundExprs w n p → ReachesExprs w n p → FitsOperands w (suc j) ops
    → operands_nesting ops ≤ n → length (operands ops more) ≤ f
    → length (operand_loop w (p j) (suc j) f (operands ops more)).1 ≤ length more
operands_reach w p n j NoOperands more f le exact sound reach h nests fuel = operand_loop_keeps w p n j f more le sound
operands_reach w p n j (Operand op e rest) more zero le exact sound reach h nests fuel = absurd (omega (arith, fuel))
operands_reach w p n j (Operand op e NoOperands) more (suc f) le exact sound reach h nests fuel =
    rw (h.0, same (suc j))
    (else_reach (length more) (NoOperands, op ∷ written e more) _
    (reach_then (length more) (length more) (IsExpr w n j (written e more)) (p j (written e more)) _
    (sound j le (written e more)) (reach j le e more h.1 (omega (arith, nests)) (omega (arith, h.2)))
    (λ a r is at_most. omega (arith, at_most, operand_loop_keeps w p n j f r le sound))))
operands_reach w p n j (Operand op e (Operand op' e' rest)) more (suc f) le exact sound reach h nests fuel =
    let behind_it : StopsAt w j (operands (Operand op' e' rest) more) = at_operator w op'
    (written e' (operands rest more)) j (suc j) (omega arith) h.3.0 in
    let read : p j (written e (operands (Operand op' e' rest) more)) ≡ Some (e, operands (Operand op' e' rest) more) =
    exact j le e (operands (Operand op' e' rest) more) h.1 (omega (arith, nests)) (omega (arith, h.2)) behind_it in
    rw (h.0, same (suc j), read)
    (operands_reach w p n j (Operand op' e' rest) more f le exact sound reach h.3 (omega (arith, nests))
    (omega (arith, fuel, longer e (operands (Operand op' e' rest) more))))

-- what a level goes on with gives no tokens back
choice_keeps : (w : Token → Word) (p : ℕ → Reader Expr) (n : ℕ) (e : Expr) (r : List Token) → SoundExprs w n p
    → length (conditional w p e r).1 ≤ length r
choice_keeps w p n e r sound =
    else_keeps (length r) (e, r) _ (omega arith)
    (on_operator (λ y r'. length r' ≤ length r) w 11 r _ (omega arith) (λ q ts first told.
    on_then (IsExpr w n 13 ts) (λ y r'. length r' ≤ length r) (p 13 ts) _ (sound 13 (omega arith) ts) (λ a r' is.
    on_mark (λ y r''. length r'' ≤ length r) w ":" r' _ (λ c r'' at colon.
    on_then (IsExpr w n 11 r'') (λ y r3. length r3 ≤ length r) (p 11 r'') _ (sound 11 (omega arith) r'')
    (λ b r3 last.
    omega (
      arith,
      ap length first,
      ap length is.tokens_are,
      longer a r',
      ap length at,
      ap length last.tokens_are,
      longer b r3,
    ))))))

assigned_keeps : (w : Token → Word) (p : ℕ → Reader Expr) (n : ℕ) (e : Expr) (r : List Token) → SoundExprs w n p
    → length (assignment w p e r).1 ≤ length r
assigned_keeps w p n e r sound =
    else_keeps (length r) (e, r) _ (omega arith)
    (on_operator (λ y r'. length r' ≤ length r) w 12 r _ (omega arith) (λ op ts first told.
    on_guard (λ y r'. length r' ≤ length r) (is_unary e) _ (λ one.
    on_then (IsExpr w n 12 ts) (λ y r'. length r' ≤ length r) (p 12 ts) _ (sound 12 (omega arith) ts) (λ b r' last.
    omega (arith, ap length first, ap length last.tokens_are, longer b r')))))

more_keeps : (w : Token → Word) (p : ℕ → Reader Expr) (n j : ℕ) (e : Expr) (r : List Token) → j ≤ 13 → SoundExprs w n p
    → length (more w p n j e r).1 ≤ length r
more_keeps w p n j e r le sound =
    by_if {A = Expr × List Token} (λ y. length y.1 ≤ length r) (nat_le (nesting e) n) (more_by w p j e r) (e, r)
    (λ _. by_if {A = Expr × List Token} (λ y. length y.1 ≤ length r) (nat_eq j 10) (conditional w p e r) _
    (λ _. choice_keeps w p n e r sound)
    (λ _. by_if {A = Expr × List Token} (λ y. length y.1 ≤ length r) (nat_eq j 11) (assignment w p e r)
    (chained e (operand_loop w (p j) (suc j) (length r) r))
    (λ _. assigned_keeps w p n e r sound)
    (λ _. rw (chained_rest e (operand_loop w (p j) (suc j) (length r) r))
    (operand_loop_keeps w p n j (length r) r le sound))))
    (λ _. omega arith)

-- a conditional expression at its own level
same_level_reach-conditional : (w : Token → Word) (p : ℕ → Reader Expr) (ty : Reader (Specifiers × Declarator))
    (n j : ℕ)
    (e : Expr) (q : Token) (a : Expr) (c : Token) (b : Expr) (ts : List Token)
    → Exact w n p → SoundExprs w n p → ReachesExprs w n p → ReadsTypes w n ty → OpensTypes w → j ≤ 12
    → suc j ≤ precedence w (Conditional e q a c b) → precedence w (Conditional e q a c b) ≤ suc j
    → Fits w (Conditional e q a c b) → nesting (Conditional e q a c b) ≤ suc n
    → Reaches (length ts) (level_reader w p ty n (suc j) (written (Conditional e q a c b) ts))
same_level_reach-conditional w p ty n j e q a c b ts exact sound reach types opens bound low high h nests =
    let ten : j ≡ 10 = omega (arith, low, high) in
    let ten' : nat_eq j 10 ≡ true = rw ten (same 10) in
    let first : level_reader w p ty n j (written e (q ∷ written a (c ∷ written b ts))) ≡ Some
    (e, q ∷ written a (c ∷ written b ts)) =
    level_read w p ty n j exact types opens (omega (arith, bound)) e (q ∷ written a (c ∷ written b ts)) h.0.0
    (omega (arith, nests)) (omega (arith, h.0.1, ten))
    (rw ten (at_question w q (written a (c ∷ written b ts)) h.1)) in
    let shallow : nat_le (nesting e) n ≡ true = le-leb (nesting e) n (omega (arith, nests)) in
    let middle : p 13 (written a (c ∷ written b ts)) ≡ Some (a, c ∷ written b ts) =
    exact 13 (omega arith) a (c ∷ written b ts) h.2 (omega (arith, nests)) (loosest w a h.2)
    (at_colon w c (written b ts) 13 (omega arith) h.3) in
    rw (first, shallow, ten', h.1, middle, h.3)
    (else_reach (length ts) (e, q ∷ written a (c ∷ written b ts)) _
    (reach_then (length ts) (length ts) (IsExpr w n 11 (written b ts)) (p 11 (written b ts)) _
    (sound 11 (omega arith) (written b ts)) (reach 11 (omega arith) b ts h.4.0 (omega (arith, nests)) h.4.1)
    (λ f r is le. le)))

-- an assignment at its own level
same_level_reach-assignment : (w : Token → Word) (p : ℕ → Reader Expr) (ty : Reader (Specifiers × Declarator)) (n j : ℕ)
    (e : Expr) (op : Token) (b : Expr) (ts : List Token)
    → Exact w n p → SoundExprs w n p → ReachesExprs w n p → ReadsTypes w n ty → OpensTypes w → j ≤ 12
    → suc j ≤ precedence w (Assignment e op b) → precedence w (Assignment e op b) ≤ suc j
    → Fits w (Assignment e op b) → nesting (Assignment e op b) ≤ suc n
    → Reaches (length ts) (level_reader w p ty n (suc j) (written (Assignment e op b) ts))
same_level_reach-assignment w p ty n j e op b ts exact sound reach types opens bound low high h nests =
    let eleven : j ≡ 11 = omega (arith, low, high) in
    let not_ten : nat_eq j 10 ≡ false = rw eleven refl in
    let eleven' : nat_eq j 11 ≡ true = rw eleven (same 11) in
    let first : level_reader w p ty n j (written e (op ∷ written b ts)) ≡ Some (e, op ∷ written b ts) =
    level_read w p ty n j exact types opens (omega (arith, bound)) e (op ∷ written b ts) h.0.0 (omega (arith, nests))
    (omega (arith, unary_is_tight w e h.0.1)) (at_operator w op (written b ts) j 12 (omega (arith, eleven)) h.1) in
    let shallow : nat_le (nesting e) n ≡ true = le-leb (nesting e) n (omega (arith, nests)) in
    rw (first, shallow, not_ten, eleven', h.1, h.0.1)
    (else_reach (length ts) (e, op ∷ written b ts) _
    (reach_then (length ts) (length ts) (IsExpr w n 12 (written b ts)) (p 12 (written b ts)) _
    (sound 12 (omega arith) (written b ts)) (reach 12 (omega arith) b ts h.2.0 (omega (arith, nests)) h.2.1)
    (λ f r is le. le)))

-- a level at which the tree itself is
same_level_reach : (w : Token → Word) (p : ℕ → Reader Expr) (ty : Reader (Specifiers × Declarator)) (n j : ℕ) (e : Expr)
    (ts : List Token)
    → Exact w n p → SoundExprs w n p → ReachesExprs w n p → ReadsTypes w n ty → OpensTypes w → j ≤ 12
    → suc j ≤ precedence w e → precedence w e ≤ suc j → Fits w e → nesting e ≤ suc n
    → Reaches (length ts) (level_reader w p ty n (suc j) (written e ts))
same_level_reach w p ty n j (Chain e (Operand op a rest)) ts exact sound reach types opens bound low high h nests =
    let ops : Operands = Operand op a rest in
    let level_is : chain_level w ops ≡ suc j = omega (arith, low, high) in
    let fits : FitsOperands w (suc j) ops = rw level_is at h.3 in
    let chains = rw level_is at h.0 in
    let first : level_reader w p ty n j (written e (operands ops ts)) ≡ Some (e, operands ops ts) =
    level_read w p ty n j exact types opens (omega (arith, bound)) e (operands ops ts) h.1 (omega (arith, nests))
    (omega (arith, h.2, level_is))
    (at_operator w op (written a (operands rest ts)) j (suc j) (omega arith) fits.0) in
    let shallow : nat_le (nesting e) n ≡ true = le-leb (nesting e) n (omega (arith, nests)) in
    rw (
      first,
      shallow,
      no_choice j chains,
      no_assignment j chains,
      chained_rest e
          (operand_loop w (p j) (suc j) (length (operands ops ts)) (operands ops ts)),
    )
    (operands_reach w p n j ops ts (length (operands ops ts)) (omega (arith, bound)) exact sound reach fits
    (omega (arith, nests)) (omega arith))
same_level_reach w p ty n j (Conditional e q a c b) ts exact sound reach types opens bound low high h nests =
    same_level_reach-conditional w p ty n j e q a c b ts exact sound reach types opens bound low high h nests
same_level_reach w p ty n j (Assignment e op b) ts exact sound reach types opens bound low high h nests =
    same_level_reach-assignment w p ty n j e op b ts exact sound reach types opens bound low high h nests
same_level_reach w p ty n j _ ts exact sound reach types opens bound low high h nests = absurd (omega (arith, low))

pub level_reach : (w : Token → Word) (p : ℕ → Reader Expr) (ty : Reader (Specifiers × Declarator)) (n : ℕ)
    → Exact w n p → SoundExprs w n p → SoundTypes w n ty → ReachesExprs w n p → UnaryReads w p → ReadsTypes w n ty
    → OpensTypes w → ReachesExprs w (suc n) (level_reader w p ty n)
level_reach w p ty n exact sound sound_t reach one types opens zero bound e ts h nests low =
    cast_reach w p ty n e ts exact sound reach one types opens low h nests
level_reach w p ty n exact sound sound_t reach one types opens (suc j) bound e ts h nests low =
    elim (cases_lt j (precedence w e)) [
      | inl above ↦ same_level_reach w p ty n j e ts exact sound reach types opens (omega (arith, bound))
          (omega (arith, above)) low h nests
      | inr under ↦ reach_then (length ts) (length ts) (IsExpr w (suc n) j (written e ts))
          (level_reader w p ty n j (written e ts)) _
          (level_sound w p ty n sound sound_t j (omega (arith, bound)) (written e ts))
          (level_reach w p ty n exact sound sound_t reach one types opens j (omega (arith, bound)) e ts h nests under)
          (λ f r is le. omega (arith, le, more_keeps w p n j f r (omega (arith, bound)) sound))
    ]
