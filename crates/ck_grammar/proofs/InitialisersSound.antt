-- What the readers of initialisers and declarations read is spelled so.
use Rattle.std.proofs.Common.{◌≡◌, ℕ, zero, suc, ◌≤◌, Bool, true, false, ◌&&◌, ◌||◌, not, List, [], ◌∷◌, length, Option}
use Rattle.std.proofs.Common.{Some, refl, sym, ap, ◌∙◌, arith}
use Rattle.std.specs.Prelude.{codes}
use Rattle.std.proofs.lemmas.Bool.{false≢true}
use Rattle.ck_base.specs.declared.tokens.Token.{Token}
use Rattle.ck_grammar.proofs.ReadersSound.{all_sound}
use Rattle.ck_grammar.proofs.ExpressionsSound.{GoodExpr, IsExpr}
use Rattle.ck_grammar.proofs.ReaderAnswers.{OnRead, OnPair, IsSpelled, SoundReader, SoundLoop, on_then, by_if, on_else}
use Rattle.ck_grammar.proofs.ReaderAnswers.{on_mark, is_fixed, on_identifier}
use Rattle.ck_grammar.proofs.TypesSound.{IsSpecifiers, IsDeclarator, not_true}
use Rattle.ck_grammar.proofs.TypeStops.{and_left}
use Rattle.ck_grammar.specs.Fitting.{NewName}
use Rattle.ck_grammar.specs.Readers.{Reader, ◌>>=◌, mark, onto, is_at, identifier}
use Rattle.ck_grammar.specs.Reading.{expr_at}
use Rattle.ck_grammar.specs.ReadingStatements.{designator_loop, init_end, init_by, init_at, declares, declaration_at}
use Rattle.ck_grammar.specs.Specified.{Place}
use Rattle.ck_grammar.specs.Statements.{Designators, Init, Inits, Declared, MoreDeclared, Declaration, Equals, DotName}
use Rattle.ck_grammar.specs.Statements.{AtIndex, Initialised, NoMoreDeclared, AndPlainly, AndInitialised, Bare}
use Rattle.ck_grammar.specs.Statements.{Declares}
use Rattle.ck_grammar.specs.StatementsFitting.{FitsDesignators, has_designator, FitsDesignation, FitsInit, FitsInits}
use Rattle.ck_grammar.specs.StatementsFitting.{names_after, is_typedef, FitsMoreDeclared, FitsDeclared, FitsDeclaration}
use Rattle.ck_grammar.specs.StatementsNesting.{designators_nesting, designation_nesting, init_nesting, inits_nesting}
use Rattle.ck_grammar.specs.StatementsNesting.{more_declared_nesting, declared_nesting, declaration_nesting}
use Rattle.ck_grammar.specs.StatementsWritten.{designators, designation, init, inits, more_declared, declared}
use Rattle.ck_grammar.specs.StatementsWritten.{declaration}
use Rattle.ck_grammar.specs.Trees.{Expr, Specifiers, Declarator}
use Rattle.ck_grammar.specs.Words.{is_text, Word, Fixed, word_of}
use Rattle.ck_grammar.specs.Written.{written}
use Rattle.ck_grammar.specs.ReadingStatements as reading

-- what the readers of each kind answer
abbrev GoodDesignators : (Token → Word) → ℕ → Designators → Type 0
GoodDesignators w n ds = FitsDesignators w ds × (designators_nesting ds ≤ n)

abbrev GoodDesignation : (Token → Word) → ℕ → Option Designators → Type 0
GoodDesignation w n ds = FitsDesignation w ds × (designation_nesting ds ≤ n)

abbrev pub GoodInit : (Token → Word) → ℕ → Init → Type 0
GoodInit w n i = FitsInit w i × (init_nesting i ≤ n)

abbrev GoodInits : (Token → Word) → ℕ → Inits → Type 0
GoodInits w n is = FitsInits w is × (inits_nesting is ≤ n)

abbrev GoodMoreDeclared : List ℕ → List (List ℕ) → Bool → ℕ → MoreDeclared → Type 0
GoodMoreDeclared bytes typedefs types n m = FitsMoreDeclared bytes typedefs types m × (more_declared_nesting m ≤ n)

abbrev GoodDeclared : List ℕ → List (List ℕ) → Bool → ℕ → Declared → Type 0
GoodDeclared bytes typedefs types n m = FitsDeclared bytes typedefs types m × (declared_nesting m ≤ n)

abbrev pub GoodDeclaration : List ℕ → List (List ℕ) → ℕ → Place → Declaration → Type 0
GoodDeclaration bytes typedefs n place d = FitsDeclaration bytes typedefs place d × (declaration_nesting d ≤ n)

-- that one of these is spelled at the front of the tokens
abbrev IsDesignators : (Token → Word) → ℕ → List Token → Designators → List Token → Type 0
IsDesignators w n ts = IsSpelled (GoodDesignators w n) designators ts

abbrev IsDesignation : (Token → Word) → ℕ → List Token → Option Designators → List Token → Type 0
IsDesignation w n ts = IsSpelled (GoodDesignation w n) designation ts

abbrev IsInit : (Token → Word) → ℕ → List Token → Init → List Token → Type 0
IsInit w n ts = IsSpelled (GoodInit w n) init ts

abbrev IsInits : (Token → Word) → ℕ → List Token → Inits → List Token → Type 0
IsInits w n ts = IsSpelled (GoodInits w n) inits ts

abbrev IsMoreDeclared : List ℕ → List (List ℕ) → Bool → ℕ → List Token → MoreDeclared → List Token → Type 0
IsMoreDeclared bytes typedefs types n ts = IsSpelled (GoodMoreDeclared bytes typedefs types n) more_declared ts

abbrev IsDeclared : List ℕ → List (List ℕ) → Bool → ℕ → List Token → Declared → List Token → Type 0
IsDeclared bytes typedefs types n ts = IsSpelled (GoodDeclared bytes typedefs types n) declared ts

abbrev pub IsDeclaration : List ℕ → List (List ℕ) → ℕ → Place → List Token → Declaration → List Token → Type 0
IsDeclaration bytes typedefs n place ts = IsSpelled (GoodDeclaration bytes typedefs n place) declaration ts

dot_sound : (w : Token → Word) (n : ℕ) (again : Reader Designators) (t : Token) (ts : List Token)
    → w t ≡ Fixed (codes ".") → SoundReader (GoodDesignators w n) designators again
    → OnRead (IsDesignators w n (t ∷ ts))
    (identifier w ts >>= λ (m, r). again r >>= λ (ds, r'). Some (DotName t m ds, r'))
dot_sound w n again t ts told sound =
    on_identifier (IsDesignators w n (t ∷ ts)) w ts _
    (λ m r at name. on_then (IsDesignators w n r) (IsDesignators w n (t ∷ ts)) _ _ (sound r) (λ ds r' is.
    record { tokens_are = rw (is.tokens_are, at) refl; good = ((told, name, is.good.0), is.good.1) }))

index_sound : (w : Token → Word) (p : Reader Expr) (n : ℕ) (again : Reader Designators) (t : Token) (ts : List Token)
    → w t ≡ Fixed (codes "[") → SoundReader (GoodExpr w n 11) written p → SoundReader
    (GoodDesignators w n) designators again
    → OnRead (IsDesignators w n (t ∷ ts))
    (p ts >>= λ (e, r). mark w "]" r >>= λ (c, r'). again r' >>= λ (ds, r''). Some (AtIndex t e c ds, r''))
index_sound w p n again t ts told sound_p sound =
    on_then (IsExpr w n 11 ts) (IsDesignators w n (t ∷ ts)) _ _ (sound_p ts)
    (λ e r first. on_mark (IsDesignators w n (t ∷ ts)) w "]" _ _ (λ c r' at close.
    on_then (IsDesignators w n r') (IsDesignators w n (t ∷ ts)) _ _ (sound r') (λ ds r'' is.
    record {
      tokens_are = rw (is.tokens_are, at, first.tokens_are) refl;
      good =
          ((told, (first.good.0, first.good.2), close, is.good.0), omega (arith, first.good.1, is.good.1));
    })))

designator_loop_sound : (w : Token → Word) (p : Reader Expr) (n f : ℕ) → SoundReader (GoodExpr w n 11) written p
    → SoundReader (GoodDesignators w n) designators (designator_loop w p f)
designator_loop_sound w p n zero sound ts = tt
designator_loop_sound w p n (suc f) sound [] = tt
designator_loop_sound w p n (suc f) sound (t ∷ ts) =
    by_if (OnRead (IsDesignators w n (t ∷ ts))) (is_text (codes "=") (w t)) _ _
    (λ h. record { tokens_are = refl; good = (is_fixed (codes "=") (w t) h, omega arith) })
    (λ _. by_if (OnRead (IsDesignators w n (t ∷ ts))) (is_text (codes ".") (w t)) _ _
    (λ h. dot_sound w n (designator_loop w p f) t ts (is_fixed (codes ".") (w t) h)
    (designator_loop_sound w p n f sound))
    (λ _. by_if (OnRead (IsDesignators w n (t ∷ ts))) (is_text (codes "[") (w t)) _ _
    (λ h. index_sound w p n (designator_loop w p f) t ts (is_fixed (codes "[") (w t) h) sound
    (designator_loop_sound w p n f sound))
    (λ _. tt)))

-- what begins with `.` or `[` is more than `=`
designated : (w : Token → Word) (ds : Designators) (r ts : List Token) → designators ds r ≡ ts → FitsDesignators w ds
    → (is_at w "." ts || is_at w "[" ts) ≡ true → has_designator ds ≡ true
designated w (Equals eq) r ts same h begun =
    let shut : (is_at w "." (eq ∷ r) || is_at w "[" (eq ∷ r)) ≡ false = rw h refl in
    absurd (false≢true (sym shut ∙ ap (λ us. is_at w "." us || is_at w "[" us) same ∙ begun))
designated w (DotName t n rest) r ts same h begun = refl
designated w (AtIndex o e c rest) r ts same h begun = refl

designation_sound : (w : Token → Word) (p : Reader Expr) (n : ℕ) → SoundReader (GoodExpr w n 11) written p
    → SoundReader (GoodDesignation w n) designation (reading.designation w p)
designation_sound w p n sound ts =
    by_if (OnRead (IsDesignation w n ts)) (is_at w "." ts || is_at w "[" ts) _ _
    (λ h. on_then (IsDesignators w n ts) (IsDesignation w n ts) _ _ (designator_loop_sound w p n (length ts) sound ts)
    (λ ds r is.
    record {
      tokens_are = is.tokens_are;
      good = ((is.good.0, designated w ds r ts is.tokens_are is.good.0 h), is.good.1);
    }))
    (λ _. record { tokens_are = refl; good = (tt, omega arith) })

init_end_sound : (w : Token → Word) (n : ℕ) (go : Reader Inits) (ds : Option Designators) (i : Init)
    (ts all : List Token)
    → SoundReader (GoodInits w n) inits go → GoodDesignation w n ds → GoodInit w n i → designation ds (init i ts) ≡ all
    → OnRead (IsInits w n all) (init_end w go ds i ts)
init_end_sound w n go ds i [] all sound good_d good_i same =
    record { tokens_are = same; good = ((good_d.0, good_i.0, tt), omega (arith, good_d.1, good_i.1)) }
init_end_sound w n go ds i (t ∷ ts) all sound good_d good_i same =
    by_if (OnRead (IsInits w n all)) (is_text (codes ",") (w t)) _ _
    (λ h. by_if (OnRead (IsInits w n all)) (is_at w "}" ts) _ _
    (λ _. record {
      tokens_are = same;
      good =
          ((good_d.0, good_i.0, is_fixed (codes ",") (w t) h), omega (arith, good_d.1, good_i.1));
    })
    (λ _. on_then (IsInits w n ts) (IsInits w n all) _ _ (sound ts) (λ rest r is.
    record {
      tokens_are = ap (λ us. designation ds (init i (t ∷ us))) is.tokens_are ∙ same;
      good =
          ((good_d.0, good_i.0, is_fixed (codes ",") (w t) h, is.good.0), omega (arith, good_d.1, good_i.1, is.good.1));
    })))
    (λ _. record { tokens_are = same; good = ((good_d.0, good_i.0, tt), omega (arith, good_d.1, good_i.1)) })

inits_sound : (w : Token → Word) (p : Reader Expr) (q : Reader Init) (n f : ℕ) → SoundReader (GoodExpr w n 11) written p
    → SoundReader (GoodInit w n) init q → SoundReader (GoodInits w n) inits (reading.inits w p q f)
inits_sound w p q n zero sound_p sound_q ts = tt
inits_sound w p q n (suc f) sound_p sound_q ts =
    on_then (IsDesignation w n ts) (IsInits w n ts) _ _ (designation_sound w p n sound_p ts)
    (λ ds r first. on_then (IsInit w n r) (IsInits w n ts) _ _ (sound_q r) (λ i r' second.
    init_end_sound w n (reading.inits w p q f) ds i r' ts (inits_sound w p q n f sound_p sound_q) first.good second.good
    (ap (designation ds) second.tokens_are ∙ first.tokens_are)))

init_by_sound : (w : Token → Word) (p : Reader Expr) (is : Reader Inits) (n : ℕ)
    → SoundReader (GoodExpr w (suc n) 12) written p → SoundReader (GoodInits w n) inits is
    → SoundReader (GoodInit w (suc n)) init (init_by w p is)
init_by_sound w p is n sound_p sound_i [] = tt
init_by_sound w p is n sound_p sound_i (t ∷ ts) =
    by_if (OnRead (IsInit w (suc n) (t ∷ ts))) (is_text (codes "{") (w t)) _ _
    (λ h. on_then (IsInits w n ts) (IsInit w (suc n) (t ∷ ts)) _ _ (sound_i ts)
    (λ x r first. on_mark (IsInit w (suc n) (t ∷ ts)) w "}" _ _ (λ c r' at close.
    record {
      tokens_are = rw (at, first.tokens_are) refl;
      good =
          ((is_fixed (codes "{") (w t) h, first.good.0, close), omega (arith, first.good.1));
    })))
    (λ _. on_then (IsExpr w (suc n) 12 (t ∷ ts)) (IsInit w (suc n) (t ∷ ts)) _ _ (sound_p (t ∷ ts)) (λ e r first.
    record { tokens_are = first.tokens_are; good = ((first.good.0, first.good.2), first.good.1) }))

pub init_sound : (w : Token → Word) (n : ℕ) → SoundReader (GoodInit w n) init (init_at w n)
init_sound w zero ts = tt
init_sound w (suc n) ts =
    init_by_sound w (expr_at w (suc n) 12) (λ r. reading.inits w (expr_at w n 11) (init_at w n) (length r) r) n
    ((all_sound w (suc n)).exprs 12 (omega arith))
    (λ r. inits_sound w (expr_at w n 11) (init_at w n) n (length r) ((all_sound w n).exprs 11 (omega arith))
    (init_sound w n) r) ts

-- declarations
no_more_declared : (bytes : List ℕ) (typedefs : List (List ℕ)) (types : Bool) (n : ℕ) (ts : List Token)
    → IsMoreDeclared bytes typedefs types n ts NoMoreDeclared ts
no_more_declared bytes typedefs types n ts = record { tokens_are = refl; good = (tt, omega arith) }

and_initialised : (bytes : List ℕ) (typedefs : List (List ℕ)) (types : Bool) (n : ℕ)
    (go : List Token → MoreDeclared × List Token) (comma : Token) (d : Declarator) (r r' ts : List Token)
    → (comma ∷ r) ≡ ts → word_of bytes typedefs comma ≡ Fixed (codes ",")
    → IsDeclarator (word_of bytes typedefs) n NewName r d r' → types ≡ false
    → SoundLoop (GoodMoreDeclared bytes typedefs types n) more_declared go
    → OnRead (IsMoreDeclared bytes typedefs types n ts)
    (mark (word_of bytes typedefs) "=" r' >>= λ (eq, r''). init_at (word_of bytes typedefs) n r'' >>= λ (i, r3).
    Some (AndInitialised comma d eq i (go r3).0, (go r3).1))
and_initialised bytes typedefs types n go comma d r r' ts at told first plain again =
    on_mark (IsMoreDeclared bytes typedefs types n ts) (word_of bytes typedefs) "=" r' _ (λ eq r'' at' equals.
    on_then (IsInit (word_of bytes typedefs) n r'') (IsMoreDeclared bytes typedefs types n ts) _ _
    (init_sound (word_of bytes typedefs) n r'') (λ i r3 is.
    let later = again r3 in
    let all : IsMoreDeclared bytes typedefs types n ts (AndInitialised comma d eq i (go r3).0) (go r3).1 =
    record {
      tokens_are = rw (later.tokens_are, is.tokens_are, at', first.tokens_are, at) refl;
      good = (
        (told, first.good.0, plain, equals, is.good.0, later.good.0),
        omega
            (arith, first.good.1, is.good.1, later.good.1),
      );
    } in all))

and_plainly : (bytes : List ℕ) (typedefs : List (List ℕ)) (types : Bool) (n : ℕ)
    (go : List Token → MoreDeclared × List Token) (comma : Token) (d : Declarator) (r r' ts : List Token)
    → (comma ∷ r) ≡ ts → word_of bytes typedefs comma ≡ Fixed (codes ",")
    → IsDeclarator (word_of bytes typedefs) n NewName r d r' → SoundLoop
    (GoodMoreDeclared bytes (names_after types bytes d typedefs) types n) more_declared go
    → OnPair (IsMoreDeclared bytes typedefs types n ts) (onto (AndPlainly comma d) (go r'))
and_plainly bytes typedefs types n go comma d r r' ts at told first again =
    let later = again r' in
    record {
      tokens_are = rw (later.tokens_are, first.tokens_are, at) refl;
      good =
          ((told, first.good.0, later.good.0), omega (arith, first.good.1, later.good.1));
    }

more_declared_sound : (bytes : List ℕ) (n : ℕ) (types : Bool) (f : ℕ) (typedefs : List (List ℕ))
    → SoundLoop (GoodMoreDeclared bytes typedefs types n) more_declared (reading.more_declared bytes n types f typedefs)
more_declared_sound bytes n types zero typedefs ts = no_more_declared bytes typedefs types n ts
more_declared_sound bytes n types (suc f) typedefs ts =
    on_else (IsMoreDeclared bytes typedefs types n ts) _ _ (no_more_declared bytes typedefs types n ts)
    (on_mark (IsMoreDeclared bytes typedefs types n ts) (word_of bytes typedefs) "," _ _ (λ comma r at told.
    on_then (IsDeclarator (word_of bytes typedefs) n NewName r) (IsMoreDeclared bytes typedefs types n ts) _ _
    ((all_sound (word_of bytes typedefs) n).decls NewName r) (λ d r' first.
    by_if (OnRead (IsMoreDeclared bytes typedefs types n ts))
    (not types && is_at (word_of bytes typedefs) "=" r') _ _
    (λ h. and_initialised bytes typedefs types n (reading.more_declared bytes n types f typedefs) comma d r r' ts at
    told first (not_true types (and_left (not types) (is_at (word_of bytes typedefs) "=" r') h))
    (more_declared_sound bytes n types f typedefs))
    (λ _. and_plainly bytes typedefs types n
    (reading.more_declared bytes n types f (names_after types bytes d typedefs)) comma d r r' ts at told first
    (more_declared_sound bytes n types f (names_after types bytes d typedefs))))))

declared_sound : (bytes : List ℕ) (n : ℕ) (types : Bool) (typedefs : List (List ℕ))
    → SoundReader (GoodDeclared bytes typedefs types n) declared (reading.declared bytes n types typedefs)
declared_sound bytes n types typedefs ts =
    by_if (OnRead (IsDeclared bytes typedefs types n ts)) (not types && is_at (word_of bytes typedefs) "=" ts) _
    _
    (λ h. on_mark (IsDeclared bytes typedefs types n ts) (word_of bytes typedefs) "=" ts _
    (λ eq r at equals. on_then (IsInit (word_of bytes typedefs) n r) (IsDeclared bytes typedefs types n ts) _ _
    (init_sound (word_of bytes typedefs) n r) (λ i r' is.
    let later = more_declared_sound bytes n types (length r') typedefs r' in
    let all : IsDeclared bytes typedefs types n ts
    (Initialised eq i (reading.more_declared bytes n types (length r') typedefs r').0)
    (reading.more_declared bytes n types (length r') typedefs r').1 =
    record {
      tokens_are = rw (later.tokens_are, is.tokens_are, at) refl;
      good = (
        (
          not_true types (and_left (not types) (is_at (word_of bytes typedefs) "=" ts) h),
          equals,
          is.good.0,
          later.good.0,
        ),
        omega (arith, is.good.1, later.good.1),
      );
    } in all)))
    (λ _. let later = more_declared_sound bytes n types (length ts) typedefs ts in
    record { tokens_are = later.tokens_are; good = (later.good.0, later.good.1) })

pub declares_sound : (bytes : List ℕ) (typedefs : List (List ℕ)) (n : ℕ) (place : Place) (s : Specifiers)
    (d : Declarator) (ts r r' : List Token)
    → IsSpecifiers (word_of bytes typedefs) n place ts s r → IsDeclarator (word_of bytes typedefs) n NewName r d r'
    → OnRead (IsDeclaration bytes typedefs n place ts) (declares bytes typedefs n s d r')
declares_sound bytes typedefs n place s d ts r r' first second =
    on_then (IsDeclared bytes (names_after (is_typedef (word_of bytes typedefs) s) bytes d typedefs)
    (is_typedef (word_of bytes typedefs) s) n r') (IsDeclaration bytes typedefs n place ts) _ _
    (declared_sound bytes n (is_typedef (word_of bytes typedefs) s)
    (names_after (is_typedef (word_of bytes typedefs) s) bytes d typedefs) r') (λ rest r'' later.
    on_mark (IsDeclaration bytes typedefs n place ts) (word_of bytes typedefs) ";" r'' _
    (λ semicolon r3 at ended.
    let all : IsDeclaration bytes typedefs n place ts (Declares s d rest semicolon) r3 =
    record {
      tokens_are = rw (at, later.tokens_are, second.tokens_are, first.tokens_are) refl;
      good = (
        ((first.good.0, first.good.1), second.good.0, later.good.0, ended),
        omega (arith, first.good.2, second.good.1, later.good.1),
      );
    } in all))

pub bare_sound : (bytes : List ℕ) (typedefs : List (List ℕ)) (n : ℕ) (place : Place) (s : Specifiers)
    (semicolon : Token) (ts r r' : List Token)
    → IsSpecifiers (word_of bytes typedefs) n place ts s r → (semicolon ∷ r') ≡ r
    → word_of bytes typedefs semicolon ≡ Fixed (codes ";") → IsDeclaration bytes typedefs n place ts
    (Bare s semicolon) r'
bare_sound bytes typedefs n place s semicolon ts r r' first at ended = record
    { tokens_are = rw (at, first.tokens_are) refl; good = (((first.good.0, first.good.1), ended), first.good.2) }

pub declaration_sound : (bytes : List ℕ) (typedefs : List (List ℕ)) (n : ℕ) (place : Place)
    → SoundReader (GoodDeclaration bytes typedefs n place) declaration (declaration_at bytes typedefs n place)
declaration_sound bytes typedefs n place ts =
    on_then (IsSpecifiers (word_of bytes typedefs) n place ts) (IsDeclaration bytes typedefs n place ts) _ _
    ((all_sound (word_of bytes typedefs) n).specs place ts) (λ s r first.
    by_if (OnRead (IsDeclaration bytes typedefs n place ts)) (is_at (word_of bytes typedefs) ";" r) _ _
    (λ _. on_mark (IsDeclaration bytes typedefs n place ts) (word_of bytes typedefs) ";" _ _
    (λ semicolon r' at ended. bare_sound bytes typedefs n place s semicolon ts r r' first at ended))
    (λ _. on_then (IsDeclarator (word_of bytes typedefs) n NewName r) (IsDeclaration bytes typedefs n place ts) _ _
    ((all_sound (word_of bytes typedefs) n).decls NewName r) (λ d r' second.
    declares_sound bytes typedefs n place s d ts r r' first second)))
