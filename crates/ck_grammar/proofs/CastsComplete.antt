-- Unary expressions and casts are read as they are written.
use Rattle.std.proofs.Common.{◌≡◌, ℕ, suc, ◌≤◌, true, false, List, ◌∷◌, Some, refl, ap, ◌∙◌, arith}
use Rattle.std.specs.Prelude.{codes}
use Rattle.std.proofs.lemmas.Bool.{false≢true}
use Rattle.ck_base.specs.declared.tokens.Token.{Token}
use Rattle.ck_grammar.proofs.Heads.{no_cast}
use Rattle.ck_grammar.proofs.Levels.{chain_not_tight, taken_is_tight}
use Rattle.ck_grammar.proofs.Stops.{StopsAt, Exact}
use Rattle.ck_grammar.proofs.SuffixesComplete.{primary_read, suffixed_read, nothing_behind, stops_strings}
use Rattle.ck_grammar.specs.Fitting.{Fits, FitsEach, FitsDeclarator, NoName, is_unary, takes, is_tight, precedence}
use Rattle.ck_grammar.specs.Nesting.{nesting, specifiers_nesting, declarator_nesting}
use Rattle.ck_grammar.specs.Readers.{Reader}
use Rattle.ck_grammar.specs.ReadingExpressions.{unary, unary_by, unary_operator, cast, opens_type}
use Rattle.ck_grammar.specs.Specified.{InType, go_together}
use Rattle.ck_grammar.specs.Trees.{Expr, Specifiers, Declarator, Name, Constant, Strings, Paren, Postfix, Unary}
use Rattle.ck_grammar.specs.Trees.{SizeofType, Cast, Chain, Conditional, Assignment}
use Rattle.ck_grammar.specs.Words.{Word, Fixed, Lead, StepLead, OperatorLead, SizeofLead, lead}
use Rattle.ck_grammar.specs.Written.{written, specifiers, declarator}

-- the reader reads each type name that nests so deep, before a closing mark
abbrev pub ReadsTypes : (Token → Word) → ℕ → Reader (Specifiers × Declarator) → Type 0
ReadsTypes w n ty = (s : Specifiers) (d : Declarator) (c : Token) (more : List Token) → FitsEach w false s
    → go_together w InType s ≡ true → FitsDeclarator w NoName d
    → specifiers_nesting s ≤ n → declarator_nesting d ≤ n → w c ≡ Fixed (codes ")")
    → ty (specifiers s (declarator d (c ∷ more))) ≡ Some ((s, d), c ∷ more)

-- what begins with a type name in parentheses shows it
abbrev pub OpensTypes : (Token → Word) → Type 0
OpensTypes w = (o : Token) (s : Specifiers) (more : List Token) → w o ≡ Fixed (codes "(") → FitsEach w false s
    → go_together w InType s ≡ true → opens_type w (o ∷ specifiers s more) ≡ true

pub prefix_by : (w : Token → Word) (p : ℕ → Reader Expr) (ty : Reader (Specifiers × Declarator)) (n : ℕ) (l : Lead)
    (e : Expr) (t : Token) (ts : List Token)
    → takes l e (is_tight w) ≡ true → (is_unary e ≡ true → opens_type w ts ≡ false)
    → unary_by w p ty n l t ts ≡ unary_operator w p l t ts
prefix_by w p ty n StepLead e t ts h shut = refl
prefix_by w p ty n OperatorLead e t ts h shut = refl
prefix_by w p ty n SizeofLead e t ts h shut = rw (shut h) refl
prefix_by w p ty n _ e t ts h shut = absurd (false≢true h)

pub unary_read : (w : Token → Word) (p : ℕ → Reader Expr) (ty : Reader (Specifiers × Declarator)) (n : ℕ) (e : Expr)
    (more : List Token)
    → Exact w n p → ReadsTypes w n ty → OpensTypes w → is_unary e ≡ true → Fits w e → nesting e ≤ suc n
    → StopsAt w 0 more
    → unary w p ty n (written e more) ≡ Some (e, more)
unary_read w p ty n (Name t) more exact types opens one h nests stop = primary_read w p ty n
    (Name t) more exact refl h nests (stops_strings w more stop) ∙ ap Some (nothing_behind w p n (Name t) more stop)
unary_read w p ty n (Constant t) more exact types opens one h nests stop =
    primary_read w p ty n (Constant t) more exact refl h nests (stops_strings w more stop)
    ∙ ap Some (nothing_behind w p n (Constant t) more stop)
unary_read w p ty n (Strings t ts) more exact types opens one h nests stop =
    primary_read w p ty n (Strings t ts) more exact refl h nests (stops_strings w more stop)
    ∙ ap Some (nothing_behind w p n (Strings t ts) more stop)
unary_read w p ty n (Paren o e c) more exact types opens one h nests stop =
    primary_read w p ty n (Paren o e c) more exact refl h nests (stops_strings w more stop)
    ∙ ap Some (nothing_behind w p n (Paren o e c) more stop)
unary_read w p ty n (Postfix e s) more exact types opens one h nests stop =
    suffixed_read w p ty n e s more exact h nests stop
unary_read w p ty n (Unary op e) more exact types opens one h nests stop =
    let read : p 0 (written e more) ≡ Some (e, more) = exact 0 (omega arith) e more h.0 (omega (arith, nests))
    (taken_is_tight w (lead (w op)) e h.1) stop in
    prefix_by w p ty n (lead (w op)) e op (written e more) h.1 (no_cast w e more h.0) ∙ rw (read, h.1) refl
unary_read w p ty n (SizeofType k o s d c) more exact types opens one h nests stop =
    let open_ : opens_type w (o ∷ specifiers s (declarator d (c ∷ more))) ≡ true =
    opens o s (declarator d (c ∷ more)) h.1 h.2.0 h.2.1 in
    let read : ty (specifiers s (declarator d (c ∷ more))) ≡ Some ((s, d), c ∷ more) =
    types s d c more h.2.0 h.2.1 h.2.2 (omega (arith, nests)) (omega (arith, nests)) h.3 in
    rw (h.0, open_, h.1, read, h.3) refl
unary_read w p ty n (Cast o s d c e) more exact types opens one h nests stop = absurd (false≢true one)
unary_read w p ty n _ more exact types opens one h nests stop = absurd (false≢true one)

-- a unary expression is no cast
uncast : (w : Token → Word) (p : ℕ → Reader Expr) (ty : Reader (Specifiers × Declarator)) (n : ℕ) (e : Expr)
    (more : List Token)
    → Exact w n p → ReadsTypes w n ty → OpensTypes w → is_unary e ≡ true → Fits w e → nesting e ≤ suc n
    → StopsAt w 0 more
    → cast w p ty n (written e more) ≡ Some (e, more)
uncast w p ty n e more exact types opens one h nests stop =
    rw (no_cast w e more h one, unary_read w p ty n e more exact types opens one h nests stop) refl

pub cast_read : (w : Token → Word) (p : ℕ → Reader Expr) (ty : Reader (Specifiers × Declarator)) (n : ℕ) (e : Expr)
    (more : List Token)
    → Exact w n p → ReadsTypes w n ty → OpensTypes w → precedence w e ≤ 0 → Fits w e → nesting e ≤ suc n
    → StopsAt w 0 more
    → cast w p ty n (written e more) ≡ Some (e, more)
cast_read w p ty n (Name t) more exact types opens one h nests stop = uncast w p ty n
    (Name t) more exact types opens refl h nests stop
cast_read w p ty n (Constant t) more exact types opens one h nests stop =
    uncast w p ty n (Constant t) more exact types opens refl h nests stop
cast_read w p ty n (Strings t ts) more exact types opens one h nests stop =
    uncast w p ty n (Strings t ts) more exact types opens refl h nests stop
cast_read w p ty n (Paren o e c) more exact types opens one h nests stop =
    uncast w p ty n (Paren o e c) more exact types opens refl h nests stop
cast_read w p ty n (Postfix e s) more exact types opens one h nests stop =
    uncast w p ty n (Postfix e s) more exact types opens refl h nests stop
cast_read w p ty n (Unary op e) more exact types opens one h nests stop =
    uncast w p ty n (Unary op e) more exact types opens refl h nests stop
cast_read w p ty n (SizeofType k o s d c) more exact types opens one h nests stop =
    uncast w p ty n (SizeofType k o s d c) more exact types opens refl h nests stop
cast_read w p ty n (Cast o s d c e) more exact types opens one h nests stop =
    let open_ : opens_type w (o ∷ specifiers s (declarator d (c ∷ written e more))) ≡ true =
    opens o s (declarator d (c ∷ written e more)) h.0 h.1.0 h.1.1 in
    let read : ty (specifiers s (declarator d (c ∷ written e more))) ≡ Some ((s, d), c ∷ written e more) =
    types s d c (written e more) h.1.0 h.1.1 h.1.2 (omega (arith, nests)) (omega (arith, nests)) h.2 in
    let inner : p 0 (written e more) ≡ Some (e, more) = exact 0 (omega arith) e more h.3 (omega (arith, nests))
    (omega (arith, h.4)) stop in
    rw (open_, h.0, read, h.2, inner) refl
cast_read w p ty n (Chain e ops) more exact types opens one h nests stop = absurd (chain_not_tight _ h.0 one)
cast_read w p ty n (Conditional e q a c b) more exact types opens one h nests stop = absurd (omega (arith, one))
cast_read w p ty n (Assignment e op b) more exact types opens one h nests stop = absurd (omega (arith, one))
