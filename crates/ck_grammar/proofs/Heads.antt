-- What expressions begin with.
use Rattle.std.proofs.Common.{◌≡◌, ℕ, Bool, true, false, ◌&&◌, List, [], ◌∷◌, ◌++◌, refl}
use Rattle.std.proofs.lemmas.Bool.{false≢true}
use Rattle.ck_base.specs.declared.tokens.Token.{Token}
use Rattle.ck_grammar.specs.Fitting.{Fits, takes, is_tight, is_primary, is_unary}
use Rattle.ck_grammar.specs.ReadingExpressions.{begins_operand, opens_type, is_paren}
use Rattle.ck_grammar.specs.Trees.{Expr, Name, Constant, Strings, Paren, Postfix, Unary, SizeofType, Cast, Chain}
use Rattle.ck_grammar.specs.Trees.{Conditional, Assignment}
use Rattle.ck_grammar.specs.Words.{begins_lead, Word, Typedef, Fixed, Sort, Qualifier, TypeWord, StructWord, EnumWord}
use Rattle.ck_grammar.specs.Words.{TypeName, sort, sort_by, begins_type, begins_specifiers, Lead, ParenLead, NoLead}
use Rattle.ck_grammar.specs.Words.{lead, lead_by}
use Rattle.ck_grammar.specs.Written.{written, operands, suffixes, specifiers, declarator}

takes_begins : (l : Lead) (e : Expr) (f : Expr → Bool) → takes l e f ≡ true → begins_lead l ≡ true
takes_begins NoLead e f h = h
takes_begins _ e f h = refl

takes_no_paren : (l : Lead) (e : Expr) (f : Expr → Bool) → takes l e f ≡ true → is_paren l ≡ false
takes_no_paren ParenLead e f h = absurd (false≢true h)
takes_no_paren _ e f h = refl

-- an expression begins with what an operand can begin with
pub begins : (w : Token → Word) (e : Expr) (more : List Token) → Fits w e → begins_operand w (written e more) ≡ true
begins w (Name t) more h = rw h refl
begins w (Constant t) more h = rw h refl
begins w (Postfix e s) more h = begins w e (suffixes s more) h.1
begins w (Unary op e) more h = takes_begins (lead (w op)) e (is_tight w) h.1
begins w (Chain e ops) more h = begins w e (operands ops more) h.1
begins w (Conditional e q a c b) more h = begins w e _ h.0.0
begins w (Assignment e op b) more h = begins w e _ h.0.0
begins w _ more h = rw h.0 refl

no_lead_by : (text : List ℕ) (b : Bool) → begins_specifiers (sort_by text) ≡ b → begins_lead (lead_by text) ≡ true
    → b ≡ false
no_lead_by text true e h = absurd (false≢true (rw e at h))
no_lead_by text false e h = refl

-- what an operand can begin with begins no specifiers
pub no_specifiers_begin : (word : Word) → begins_lead (lead word) ≡ true → begins_specifiers (sort word) ≡ false
no_specifiers_begin Typedef h = absurd (false≢true h)
no_specifiers_begin (Fixed text) h = no_lead_by text _ refl h
no_specifiers_begin _ h = refl

no_type_by : (x : Sort) → begins_specifiers x ≡ false → begins_type x ≡ false
no_type_by Qualifier h = h
no_type_by TypeWord h = h
no_type_by StructWord h = h
no_type_by EnumWord h = h
no_type_by TypeName h = h
no_type_by _ h = refl

no_type_begins : (word : Word) → begins_lead (lead word) ≡ true → begins_type (sort word) ≡ false
no_type_begins word h = no_type_by (sort word) (no_specifiers_begin word h)

pub no_paren : (w : Token → Word) (t : Token) (ts : List Token) → is_paren (lead (w t)) ≡ false
    → opens_type w (t ∷ ts) ≡ false
no_paren w t [] h = refl
no_paren w t (u ∷ ts) h = rw h refl

and_false : (b : Bool) → (b && false) ≡ false
and_false true = refl
and_false false = refl

pub operand_inside : (w : Token → Word) (t : Token) (ts : List Token) → begins_operand w ts ≡ true
    → opens_type w (t ∷ ts) ≡ false
operand_inside w t [] h = refl
operand_inside w t (u ∷ ts) h = rw (no_type_begins (w u) h) (and_false _)

pub primary_is_unary : (e : Expr) → is_primary e ≡ true → is_unary e ≡ true
primary_is_unary (Cast o s d c e) h = h
primary_is_unary (Chain e ops) h = h
primary_is_unary (Conditional e q a c b) h = h
primary_is_unary (Assignment e op b) h = h
primary_is_unary _ h = refl

-- a unary expression doesn't begin as a cast
pub no_cast : (w : Token → Word) (e : Expr) (more : List Token) → Fits w e → is_unary e ≡ true
    → opens_type w (written e more) ≡ false
no_cast w (Name t) more h u = no_paren w t more (rw h refl)
no_cast w (Constant t) more h u = no_paren w t more (rw h refl)
no_cast w (Strings t ts) more h u = no_paren w t (ts ++ more) (rw h.0 refl)
no_cast w (Paren o e c) more h u = operand_inside w o (written e (c ∷ more)) (begins w e (c ∷ more) h.1)
no_cast w (Postfix e s) more h u = no_cast w e (suffixes s more) h.1 (primary_is_unary e h.0)
no_cast w (Unary op e) more h u = no_paren w op (written e more) (takes_no_paren (lead (w op)) e (is_tight w) h.1)
no_cast w (SizeofType k o s d c) more h u = no_paren w k (o ∷ specifiers s (declarator d (c ∷ more))) (rw h.0 refl)
no_cast w _ more h u = absurd (false≢true u)
