-- What the readers of expressions read is spelled so, where it is for the readers of what is inside.
use Rattle.std.proofs.Common.{◌≡◌, ℕ, zero, suc, ◌≤◌, true, false, List, [], ◌∷◌, ◌++◌, length, Some, None, nat_eq}
use Rattle.std.proofs.Common.{nat_le, refl, ap, ◌∙◌, arith}
use Rattle.std.specs.Prelude.{codes}
use Rattle.std.proofs.lemmas.Bool.Decides.{nat_tests}
use Rattle.ck_base.specs.declared.tokens.Token.{Token}
use Rattle.ck_grammar.proofs.Heads.{primary_is_unary}
use Rattle.ck_grammar.proofs.Levels.{unary_is_tight}
use Rattle.ck_grammar.proofs.ReaderAnswers.{OnRead, OnPair, IsSpelled, SoundReader, SoundLoop, on_then, by_if, on_else}
use Rattle.ck_grammar.proofs.ReaderAnswers.{on_mark, on_identifier, on_guard}
use Rattle.ck_grammar.proofs.WordsTold.{LeadTells, lead_tells, FollowTells, follow_tells, string_tells, equal}
use Rattle.ck_grammar.proofs.WordsTold.{operator_tells, question_tells}
use Rattle.ck_grammar.specs.Fitting.{Fits, FitsOperands, FitsSuffixes, FitsEach, FitsDeclarator, NoName, AreStrings}
use Rattle.ck_grammar.specs.Fitting.{operator_level, is_chain_level, precedence, is_primary, is_unary, takes, is_tight}
use Rattle.ck_grammar.specs.Nesting.{nesting, operands_nesting, suffixes_nesting, specifiers_nesting}
use Rattle.ck_grammar.specs.Nesting.{declarator_nesting}
use Rattle.ck_grammar.specs.Readers.{Read, Reader, ◌>>=◌}
use Rattle.ck_grammar.specs.ReadingExpressions.{is_string, neighbours, primary_by, operand_loop, begins_operand, call}
use Rattle.ck_grammar.specs.ReadingExpressions.{suffix_by, suffix_loop, suffixed, postfix, opens_type, unary_operator}
use Rattle.ck_grammar.specs.ReadingExpressions.{in_parens, sizeof, unary_by, unary, cast, chained, conditional}
use Rattle.ck_grammar.specs.ReadingExpressions.{assignment, more_by, level_reader, operator}
use Rattle.ck_grammar.specs.Specified.{InType, go_together}
use Rattle.ck_grammar.specs.Trees.{Expr, Operands, Suffixes, Specifiers, Declarator, NoOperands, Operand, NoSuffixes}
use Rattle.ck_grammar.specs.Words.{Word, Fixed, Lead, NameLead, ConstantLead, StringLead, ParenLead, StepLead}
use Rattle.ck_grammar.specs.Words.{OperatorLead, SizeofLead, NoLead, lead, Follow, Bracket, Parenthesis, Point, Steps}
use Rattle.ck_grammar.specs.Words.{Operator, follow}
use Rattle.ck_grammar.specs.Written.{written, operands, suffixes, specifiers, declarator}

-- what the readers of each kind answer
abbrev pub GoodExpr : (Token → Word) → ℕ → ℕ → Expr → Type 0
GoodExpr w n j e = Fits w e × (nesting e ≤ n) × (precedence w e ≤ j)

abbrev pub GoodUnary : (Token → Word) → ℕ → Expr → Type 0
GoodUnary w n e = Fits w e × (nesting e ≤ n) × (is_unary e ≡ true)

abbrev GoodPrimary : (Token → Word) → ℕ → Expr → Type 0
GoodPrimary w n e = Fits w e × (nesting e ≤ n) × (is_primary e ≡ true)

abbrev pub GoodOperands : (Token → Word) → ℕ → ℕ → Operands → Type 0
GoodOperands w n k ops = FitsOperands w k ops × (operands_nesting ops ≤ n)

abbrev pub GoodSuffixes : (Token → Word) → ℕ → Suffixes → Type 0
GoodSuffixes w n s = FitsSuffixes w s × (suffixes_nesting s ≤ n)

abbrev pub GoodType : (Token → Word) → ℕ → Specifiers × Declarator → Type 0
GoodType w n x = (FitsEach w false x.0 × (go_together w InType x.0 ≡ true) × FitsDeclarator w NoName x.1)
    × (specifiers_nesting x.0 ≤ n) × (declarator_nesting x.1 ≤ n)

abbrev pub type_spelled : Specifiers × Declarator → List Token → List Token
type_spelled x r = specifiers x.0 (declarator x.1 r)

-- that one of these is spelled at the front of the tokens
abbrev pub IsExpr : (Token → Word) → ℕ → ℕ → List Token → Expr → List Token → Type 0
IsExpr w n j ts = IsSpelled (GoodExpr w n j) written ts

abbrev pub IsUnary : (Token → Word) → ℕ → List Token → Expr → List Token → Type 0
IsUnary w n ts = IsSpelled (GoodUnary w n) written ts

abbrev IsPrimary : (Token → Word) → ℕ → List Token → Expr → List Token → Type 0
IsPrimary w n ts = IsSpelled (GoodPrimary w n) written ts

abbrev pub IsOperands : (Token → Word) → ℕ → ℕ → List Token → Operands → List Token → Type 0
IsOperands w n k ts = IsSpelled (GoodOperands w n k) operands ts

abbrev pub IsSuffixes : (Token → Word) → ℕ → List Token → Suffixes → List Token → Type 0
IsSuffixes w n ts = IsSpelled (GoodSuffixes w n) suffixes ts

abbrev pub IsType : (Token → Word) → ℕ → List Token → Specifiers × Declarator → List Token → Type 0
IsType w n ts = IsSpelled (GoodType w n) type_spelled ts

abbrev pub SoundExprs : (Token → Word) → ℕ → (ℕ → Reader Expr) → Type 0
SoundExprs w n p = (j : ℕ) → j ≤ 13 → SoundReader (GoodExpr w n j) written (p j)

abbrev pub SoundTypes : (Token → Word) → ℕ → Reader (Specifiers × Declarator) → Type 0
SoundTypes w n ty = SoundReader (GoodType w n) type_spelled ty

at_most : (a b : ℕ) → nat_le a b ≡ true → a ≤ b
at_most a b h = grind (arith, nat_tests)

pub neighbours_sound : (w : Token → Word) (ts : List Token) → OnPair (IsSpelled (AreStrings w) (◌++◌) ts)
    (neighbours w ts)
neighbours_sound w [] = record { tokens_are = refl; good = tt }
neighbours_sound w (t ∷ ts) =
    by_if (OnPair (IsSpelled (AreStrings w) (◌++◌) (t ∷ ts))) (is_string (w t)) _ _
    (λ h. let again = neighbours_sound w ts in
    record { tokens_are = ap (◌∷◌ t) again.tokens_are; good = (string_tells (w t) h, again.good) })
    (λ _. record { tokens_are = refl; good = tt })

primary_sound : (w : Token → Word) (p : ℕ → Reader Expr) (n : ℕ) (l : Lead) (t : Token) (ts : List Token)
    → LeadTells (w t) l → SoundExprs w n p → OnRead (IsPrimary w (suc n) (t ∷ ts)) (primary_by w p l t ts)
primary_sound w p n NameLead t ts told sound = record { tokens_are = refl; good = (told, omega arith, refl) }
primary_sound w p n ConstantLead t ts told sound = record { tokens_are = refl; good = (told, omega arith, refl) }
primary_sound w p n StringLead t ts told sound =
    let again = neighbours_sound w ts in
    record { tokens_are = ap (◌∷◌ t) again.tokens_are; good = ((told, again.good), omega arith, refl) }
primary_sound w p n ParenLead t ts told sound =
    on_then (IsExpr w n 13 ts) (IsPrimary w (suc n) (t ∷ ts)) _ _ (sound 13 (omega arith) ts)
    (λ e r is. on_mark (IsPrimary w (suc n) (t ∷ ts)) w ")" _ _ (λ c r' at close.
    record {
      tokens_are = rw (at, is.tokens_are) refl;
      good =
          ((told, is.good.0, close), omega (arith, is.good.1), refl);
    }))
primary_sound w p n StepLead t ts told sound = tt
primary_sound w p n _ t ts told sound = tt

pub on_operator : {B : Type 0} (Q : B → List Token → Type 0) (w : Token → Word) (k : ℕ) (ts : List Token)
    (go : Token × List Token → Read B) → 1 ≤ k
    → ((t : Token) (r : List Token) → (t ∷ r) ≡ ts → follow (w t) ≡ Operator k → OnRead Q (go (t, r)))
    → OnRead Q (operator w k ts >>= go)
on_operator Q w k [] go one next = tt
on_operator Q w k (t ∷ ts) go one next =
    by_if (λ m. OnRead Q (m >>= go)) (nat_eq (operator_level (follow (w t))) k) (Some (t, ts)) None
    (λ h. next t ts refl (operator_tells (follow (w t)) k one h)) (λ _. tt)

pub operand_loop_sound : (w : Token → Word) (q : Reader Expr) (n j f : ℕ) → SoundReader (GoodExpr w n j) written q
    → SoundLoop (GoodOperands w n (suc j)) operands (operand_loop w q (suc j) f)
operand_loop_sound w q n j zero sound ts = record { tokens_are = refl; good = (tt, omega arith) }
operand_loop_sound w q n j (suc f) sound ts =
    on_else (IsOperands w n (suc j) ts) _ _ (record { tokens_are = refl; good = (tt, omega arith) })
    (on_operator (IsOperands w n (suc j) ts) w (suc j) ts _ (omega arith) (λ op r at told.
    on_then (IsExpr w n j r) (IsOperands w n (suc j) ts) _ _ (sound r) (λ e r' is.
    let later = operand_loop_sound w q n j f sound r' in
    record {
      tokens_are = rw (later.tokens_are, is.tokens_are) at;
      good =
          ((told, is.good.0, omega (arith, is.good.2), later.good.0), omega (arith, is.good.1, later.good.1));
    })))

no_suffixes : (w : Token → Word) (n : ℕ) (ts : List Token) → IsSuffixes w n ts NoSuffixes ts
no_suffixes w n ts = record { tokens_are = refl; good = (tt, omega arith) }

call_sound : (w : Token → Word) (p : ℕ → Reader Expr) (n : ℕ) (go : List Token → Suffixes × List Token) (t : Token)
    (ts : List Token) → w t ≡ Fixed (codes "(") → SoundExprs w n p → SoundLoop (GoodSuffixes w n) suffixes go
    → OnRead (IsSuffixes w n (t ∷ ts)) (call w p go t ts)
call_sound w p n go t ts told sound again =
    by_if (OnRead (IsSuffixes w n (t ∷ ts))) (begins_operand w ts) _ _
    (λ _. on_then (IsExpr w n 12 ts) (IsSuffixes w n (t ∷ ts)) _ _ (sound 12 (omega arith) ts) (λ e r is.
    let are = operand_loop_sound w (p 12) n 12 (length r) (sound 12 (omega arith)) r in
    on_mark (IsSuffixes w n (t ∷ ts)) w ")" _ _ (λ c r'' at close.
    let later = again r'' in
    record {
      tokens_are = rw (later.tokens_are, at, are.tokens_are, is.tokens_are) refl;
      good = (
        (told, (is.good.0, omega (arith, is.good.2), are.good.0), close, later.good.0),
        omega (arith, is.good.1, are.good.1, later.good.1),
      );
    })))
    (λ _. on_mark (IsSuffixes w n (t ∷ ts)) w ")" _ _ (λ c r at close.
    let later = again r in
    record { tokens_are = rw (later.tokens_are, at) refl; good = ((told, close, later.good.0), later.good.1) }))

suffix_sound : (w : Token → Word) (p : ℕ → Reader Expr) (n : ℕ) (go : List Token → Suffixes × List Token) (x : Follow)
    (t : Token) (ts : List Token)
    → follow (w t) ≡ x → FollowTells (w t) x → SoundExprs w n p → SoundLoop (GoodSuffixes w n) suffixes go
    → OnRead (IsSuffixes w n (t ∷ ts)) (suffix_by w p go x t ts)
suffix_sound w p n go Bracket t ts is_it told sound again =
    on_then (IsExpr w n 13 ts) (IsSuffixes w n (t ∷ ts)) _ _ (sound 13 (omega arith) ts) (λ e r is.
    on_mark (IsSuffixes w n (t ∷ ts)) w "]" _ _ (λ c r' at close.
    let later = again r' in
    record {
      tokens_are = rw (later.tokens_are, at, is.tokens_are) refl;
      good =
          ((told, is.good.0, close, later.good.0), omega (arith, is.good.1, later.good.1));
    }))
suffix_sound w p n go Parenthesis t ts is_it told sound again = call_sound w p n go t ts told sound again
suffix_sound w p n go Point t ts is_it told sound again =
    on_identifier (IsSuffixes w n (t ∷ ts)) w ts _ (λ m r at named.
    let later = again r in
    record { tokens_are = rw (later.tokens_are, at) refl; good = ((is_it, named, later.good.0), later.good.1) })
suffix_sound w p n go Steps t ts is_it told sound again =
    let later = again ts in
    record { tokens_are = rw later.tokens_are refl; good = ((is_it, later.good.0), later.good.1) }
suffix_sound w p n go _ t ts is_it told sound again = tt

pub suffix_loop_sound : (w : Token → Word) (p : ℕ → Reader Expr) (n f : ℕ) → SoundExprs w n p
    → SoundLoop (GoodSuffixes w n) suffixes (suffix_loop w p f)
suffix_loop_sound w p n zero sound ts = no_suffixes w n ts
suffix_loop_sound w p n (suc f) sound [] = no_suffixes w n []
suffix_loop_sound w p n (suc f) sound (t ∷ ts) =
    on_else (IsSuffixes w n (t ∷ ts)) _ _ (no_suffixes w n (t ∷ ts))
    (suffix_sound w p n (suffix_loop w p f) (follow (w t)) t ts refl (follow_tells (w t)) sound
    (suffix_loop_sound w p n f sound))

suffixed_sound : (w : Token → Word) (n : ℕ) (e : Expr) (ts r : List Token) (s : Suffixes) (r' : List Token)
    → IsPrimary w (suc n) ts e r → nesting e ≤ n → IsSuffixes w n r s r' → OnPair (IsUnary w (suc n) ts)
    (suffixed e (s, r'))
suffixed_sound w n e ts r NoSuffixes r' is low are =
    record {
      tokens_are = rw (are.tokens_are, is.tokens_are) refl;
      good =
          (is.good.0, is.good.1, primary_is_unary e is.good.2);
    }
suffixed_sound w n e ts r _ r' is low are =
    record {
      tokens_are = ap (written e) are.tokens_are ∙ is.tokens_are;
      good =
          ((is.good.2, is.good.0, are.good.0, refl), omega (arith, low, are.good.1), refl);
    }

postfix_sound : (w : Token → Word) (p : ℕ → Reader Expr) (n : ℕ) (l : Lead) (t : Token) (ts : List Token)
    → LeadTells (w t) l → SoundExprs w n p → OnRead (IsUnary w (suc n) (t ∷ ts)) (postfix w p n l t ts)
postfix_sound w p n l t ts told sound =
    on_then (IsPrimary w (suc n) (t ∷ ts)) (IsUnary w (suc n) (t ∷ ts)) _ _ (primary_sound w p n l t ts told sound)
    (λ e r is.
    by_if (OnPair (IsUnary w (suc n) (t ∷ ts))) (nat_le (nesting e) n) _ _
    (λ h. suffixed_sound w n e (t ∷ ts) r (suffix_loop w p (length r) r).0 (suffix_loop w p (length r) r).1 is
    (at_most (nesting e) n h) (suffix_loop_sound w p n (length r) sound r))
    (λ _. record { tokens_are = is.tokens_are; good = (is.good.0, is.good.1, primary_is_unary e is.good.2) }))

prefixed_sound : (w : Token → Word) (p : ℕ → Reader Expr) (n : ℕ) (l : Lead) (t : Token) (ts : List Token)
    → l ≡ lead (w t) → SoundExprs w n p → OnRead (IsUnary w (suc n) (t ∷ ts)) (unary_operator w p l t ts)
prefixed_sound w p n l t ts is_it sound =
    on_then (IsExpr w n 0 ts) (IsUnary w (suc n) (t ∷ ts)) _ _ (sound 0 (omega arith) ts) (λ e r is.
    on_guard (IsUnary w (suc n) (t ∷ ts)) (takes l e (is_tight w)) _ (λ h.
    record { tokens_are = rw is.tokens_are refl; good = ((is.good.0, rw is_it at h), omega (arith, is.good.1), refl) }))

abbrev IsParens : (Token → Word) → ℕ → List Token → Token × Specifiers × Declarator × Token → List Token → Type 0
IsParens w n ts x r =
    (w x.0 ≡ Fixed (codes "(")) × GoodType w n (x.1, x.2) × (w x.3 ≡ Fixed (codes ")"))
    × ((x.0 ∷ specifiers x.1 (declarator x.2 (x.3 ∷ r))) ≡ ts)

parens_sound : (w : Token → Word) (n : ℕ) (ty : Reader (Specifiers × Declarator)) (ts : List Token)
    → SoundTypes w n ty → OnRead (IsParens w n ts) (in_parens w ty ts)
parens_sound w n ty ts types =
    on_mark (IsParens w n ts) w "(" _ _ (λ o r at open_.
    on_then (IsType w n r) (IsParens w n ts) _ _ (types r) (λ x r' is.
    on_mark (IsParens w n ts) w ")" _ _ (λ c r'' at' close.
    (open_, is.good, close, rw (at', is.tokens_are, at) refl))))

in_parens_sound : {B : Type 0} (Q : B → List Token → Type 0) (w : Token → Word) (n : ℕ)
    (ty : Reader (Specifiers × Declarator)) (ts : List Token)
    (go : (Token × Specifiers × Declarator × Token) × List Token → Read B)
    → SoundTypes w n ty
    → ((o : Token) (s : Specifiers) (d : Declarator) (c : Token) (r : List Token) → w o ≡ Fixed (codes "(")
    → GoodType w n (s, d) → w c ≡ Fixed (codes ")") → (o ∷ specifiers s (declarator d (c ∷ r))) ≡ ts
    → OnRead Q (go ((o, s, d, c), r)))
    → OnRead Q (in_parens w ty ts >>= go)
in_parens_sound Q w n ty ts go types next =
    on_then (IsParens w n ts) Q (in_parens w ty ts) go (parens_sound w n ty ts types)
    (λ x r is. next x.0 x.1 x.2 x.3 r is.0 is.1 is.2 is.3)

sizeof_sound : (w : Token → Word) (p : ℕ → Reader Expr) (ty : Reader (Specifiers × Declarator)) (n : ℕ) (t : Token)
    (ts : List Token)
    → SizeofLead ≡ lead (w t) → w t ≡ Fixed (codes "sizeof") → SoundExprs w n p → SoundTypes w n ty
    → OnRead (IsUnary w (suc n) (t ∷ ts)) (sizeof w p ty t ts)
sizeof_sound w p ty n t ts is_it told sound types =
    by_if (OnRead (IsUnary w (suc n) (t ∷ ts))) (opens_type w ts) _ _
    (λ _. in_parens_sound (IsUnary w (suc n) (t ∷ ts)) w n ty ts _ types (λ o s d c r open_ good close spelled.
    record {
      tokens_are = rw spelled refl;
      good = ((told, open_, good.0, close), omega (arith, good.1, good.2), refl);
    }))
    (λ _. prefixed_sound w p n SizeofLead t ts is_it sound)

unary_by_sound : (w : Token → Word) (p : ℕ → Reader Expr) (ty : Reader (Specifiers × Declarator)) (n : ℕ) (l : Lead)
    (t : Token) (ts : List Token)
    → l ≡ lead (w t) → LeadTells (w t) l → SoundExprs w n p → SoundTypes w n ty
    → OnRead (IsUnary w (suc n) (t ∷ ts)) (unary_by w p ty n l t ts)
unary_by_sound w p ty n NameLead t ts is_it told sound types = postfix_sound w p n NameLead t ts told sound
unary_by_sound w p ty n ConstantLead t ts is_it told sound types = postfix_sound w p n ConstantLead t ts told sound
unary_by_sound w p ty n StringLead t ts is_it told sound types = postfix_sound w p n StringLead t ts told sound
unary_by_sound w p ty n ParenLead t ts is_it told sound types = postfix_sound w p n ParenLead t ts told sound
unary_by_sound w p ty n StepLead t ts is_it told sound types = prefixed_sound w p n StepLead t ts is_it sound
unary_by_sound w p ty n OperatorLead t ts is_it told sound types = prefixed_sound w p n OperatorLead t ts is_it sound
unary_by_sound w p ty n SizeofLead t ts is_it told sound types = sizeof_sound w p ty n t ts is_it told sound types
unary_by_sound w p ty n NoLead t ts is_it told sound types = tt

pub unary_sound : (w : Token → Word) (p : ℕ → Reader Expr) (ty : Reader (Specifiers × Declarator)) (n : ℕ)
    → SoundExprs w n p → SoundTypes w n ty → SoundReader (GoodUnary w (suc n)) written (unary w p ty n)
unary_sound w p ty n sound types [] = tt
unary_sound w p ty n sound types (t ∷ ts) = unary_by_sound w p ty n (lead (w t)) t ts refl
    (lead_tells (w t)) sound types

tight_read : (w : Token → Word) (n : ℕ) (ts : List Token) (read : Read Expr) → OnRead (IsUnary w n ts) read
    → OnRead (IsExpr w n 0 ts) read
tight_read w n ts None h = tt
tight_read w n ts (Some x) h =
    record { tokens_are = h.tokens_are; good = (h.good.0, h.good.1, unary_is_tight w x.0 h.good.2) }

cast_sound : (w : Token → Word) (p : ℕ → Reader Expr) (ty : Reader (Specifiers × Declarator)) (n : ℕ) → SoundExprs w n p
    → SoundTypes w n ty → SoundReader (GoodExpr w (suc n) 0) written (cast w p ty n)
cast_sound w p ty n sound types ts =
    by_if (OnRead (IsExpr w (suc n) 0 ts)) (opens_type w ts) _ _
    (λ _. in_parens_sound (IsExpr w (suc n) 0 ts) w n ty ts _ types (λ o s d c r open_ good close spelled.
    on_then (IsExpr w n 0 r) (IsExpr w (suc n) 0 ts) _ _ (sound 0 (omega arith) r) (λ e r' is.
    record {
      tokens_are = rw (is.tokens_are, spelled) refl;
      good = (
        (open_, good.0, close, is.good.0, omega (arith, is.good.2)),
        omega (arith, good.1, good.2, is.good.1),
        omega arith,
      );
    })))
    (λ _. tight_read w (suc n) ts (unary w p ty n ts) (unary_sound w p ty n sound types ts))

weaker : (w : Token → Word) (n i j : ℕ) (ts : List Token) (e : Expr) (r : List Token) → i ≤ j → IsExpr w n i ts e r
    → IsExpr w n j ts e r
weaker w n i j ts e r le h =
    record { tokens_are = h.tokens_are; good = (h.good.0, h.good.1, omega (arith, le, h.good.2)) }

chained_sound : (w : Token → Word) (n j : ℕ) (ts : List Token) (e : Expr) (r : List Token) (ops : Operands)
    (r' : List Token)
    → is_chain_level (suc j) ≡ true → nesting e ≤ n → IsExpr w (suc n) j ts e r → IsOperands w n (suc j) r ops r'
    → OnPair (IsExpr w (suc n) (suc j) ts) (chained e (ops, r'))
chained_sound w n j ts e r NoOperands r' chains low is are =
    record {
      tokens_are = rw (are.tokens_are, is.tokens_are) refl;
      good =
          (is.good.0, is.good.1, omega (arith, is.good.2));
    }
chained_sound w n j ts e r (Operand op a rest) r' chains low is are =
    let level_is : operator_level (follow (w op)) ≡ suc j = ap operator_level are.good.0.0 in
    record {
      tokens_are = ap (written e) are.tokens_are ∙ is.tokens_are;
      good = (
        (rw level_is chains, is.good.0, omega (arith, is.good.2, level_is), rw level_is are.good.0),
        omega (arith, low, are.good.1),
        omega (arith, level_is),
      );
    }

choice_sound : (w : Token → Word) (p : ℕ → Reader Expr) (n : ℕ) (ts : List Token) (e : Expr) (r : List Token)
    → SoundExprs w n p → nesting e ≤ n → IsExpr w (suc n) 10 ts e r
    → OnPair (IsExpr w (suc n) 11 ts) (conditional w p e r)
choice_sound w p n ts e r sound low is =
    on_else (IsExpr w (suc n) 11 ts) _ _ (weaker w (suc n) 10 11 ts e r (omega arith) is)
    (on_operator (IsExpr w (suc n) 11 ts) w 11 r _ (omega arith) (λ q us first told.
    on_then (IsExpr w n 13 us) (IsExpr w (suc n) 11 ts) _ _ (sound 13 (omega arith) us) (λ a r' are.
    on_mark (IsExpr w (suc n) 11 ts) w ":" _ _ (λ c r'' at colon.
    on_then (IsExpr w n 11 r'') (IsExpr w (suc n) 11 ts) _ _ (sound 11 (omega arith) r'') (λ b r3 last.
    record {
      tokens_are = rw (last.tokens_are, at, are.tokens_are, first, is.tokens_are) refl;
      good = (
        (
          (is.good.0, omega (arith, is.good.2)),
          question_tells (w q) told,
          are.good.0,
          colon,
          (last.good.0, last.good.2),
        ),
        omega (arith, low, are.good.1, last.good.1),
        omega arith,
      );
    })))))

assigned_sound : (w : Token → Word) (p : ℕ → Reader Expr) (n : ℕ) (ts : List Token) (e : Expr) (r : List Token)
    → SoundExprs w n p → nesting e ≤ n → IsExpr w (suc n) 11 ts e r
    → OnPair (IsExpr w (suc n) 12 ts) (assignment w p e r)
assigned_sound w p n ts e r sound low is =
    on_else (IsExpr w (suc n) 12 ts) _ _ (weaker w (suc n) 11 12 ts e r (omega arith) is)
    (on_operator (IsExpr w (suc n) 12 ts) w 12 r _ (omega arith) (λ op us first told.
    on_guard (IsExpr w (suc n) 12 ts) (is_unary e) _ (λ one.
    on_then (IsExpr w n 12 us) (IsExpr w (suc n) 12 ts) _ _ (sound 12 (omega arith) us) (λ b r' last.
    record {
      tokens_are = rw (last.tokens_are, first, is.tokens_are) refl;
      good =
          (((is.good.0, one), told, (last.good.0, last.good.2)), omega (arith, low, last.good.1), omega arith);
    }))))

chain_levels : (j : ℕ) → j ≤ 12 → nat_eq j 10 ≡ false → nat_eq j 11 ≡ false → is_chain_level (suc j) ≡ true
chain_levels j le a b = grind (arith, nat_tests)

pub more_sound : (w : Token → Word) (p : ℕ → Reader Expr) (n j : ℕ) (ts : List Token) (e : Expr) (r : List Token)
    → j ≤ 12 → SoundExprs w n p → nesting e ≤ n → IsExpr w (suc n) j ts e r
    → OnPair (IsExpr w (suc n) (suc j) ts) (more_by w p j e r)
more_sound w p n j ts e r le sound low is =
    by_if (OnPair (IsExpr w (suc n) (suc j) ts)) (nat_eq j 10) _ _
    (λ ten. let k : j ≡ 10 = equal j 10 ten in rw k (choice_sound w p n ts e r sound low (rw k at is)))
    (λ no_ten. by_if (OnPair (IsExpr w (suc n) (suc j) ts)) (nat_eq j 11) _ _
    (λ eleven. let k : j ≡ 11 = equal j 11 eleven in rw k (assigned_sound w p n ts e r sound low (rw k at is)))
    (λ no_eleven. chained_sound w n j ts e r (operand_loop w (p j) (suc j) (length r) r).0
    (operand_loop w (p j) (suc j) (length r) r).1 (chain_levels j le no_ten no_eleven) low is
    (operand_loop_sound w (p j) n j (length r) (sound j (omega (arith, le))) r)))

pub level_sound : (w : Token → Word) (p : ℕ → Reader Expr) (ty : Reader (Specifiers × Declarator)) (n : ℕ)
    → SoundExprs w n p → SoundTypes w n ty → SoundExprs w (suc n) (level_reader w p ty n)
level_sound w p ty n sound types zero bound ts = cast_sound w p ty n sound types ts
level_sound w p ty n sound types (suc j) bound ts =
    on_then (IsExpr w (suc n) j ts) (IsExpr w (suc n) (suc j) ts) _ _
    (level_sound w p ty n sound types j (omega (arith, bound)) ts) (λ e r is.
    by_if (OnPair (IsExpr w (suc n) (suc j) ts)) (nat_le (nesting e) n) _ _
    (λ h. more_sound w p n j ts e r (omega (arith, bound)) sound (at_most (nesting e) n h) is)
    (λ _. weaker w (suc n) j (suc j) ts e r (omega arith) is))
