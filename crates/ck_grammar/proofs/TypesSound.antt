-- What the readers of specifiers and declarators read is spelled so, where it is for the readers of what is inside.
use Rattle.std.proofs.Common.{◌≡◌, ℕ, zero, suc, ◌≤◌, Bool, true, false, ◌&&◌, ◌||◌, not, cond, List, [], ◌∷◌, ◌++◌}
use Rattle.std.proofs.Common.{length, Option, Some, None, refl, sym, ap, ◌∙◌, arith}
use Rattle.std.specs.Prelude.{codes}
use Rattle.std.proofs.lemmas.Bool.{false≢true}
use Rattle.ck_base.specs.declared.tokens.Token.{Token}
use Rattle.ck_grammar.proofs.ExpressionsSound.{GoodExpr, IsExpr}
use Rattle.ck_grammar.proofs.ReaderAnswers.{OnRead, OnPair, IsSpelled, SoundReader, SoundLoop, on_then, by_if, on_else}
use Rattle.ck_grammar.proofs.ReaderAnswers.{on_mark, is_fixed, on_guard}
use Rattle.ck_grammar.proofs.TypeStops.{and_left, and_right}
use Rattle.ck_grammar.proofs.WordsTold.{SortTells, sort_tells}
use Rattle.ck_grammar.specs.Fitting.{FitsEach, FitsMembers, FitsDeclarators, FitsDeclarator, FitsDims, FitsParams}
use Rattle.ck_grammar.specs.Fitting.{FitsMore, FitsEnumerators, IsTag, IsComma, Naming, MemberName, MaybeName}
use Rattle.ck_grammar.specs.Fitting.{may_be_abstract, may_name, is_written, is_ordinary, IsPointer, ArePointerParts}
use Rattle.ck_grammar.specs.Fitting.{is_star, is_pointer_part, is_specifier_word, has_member, is_void, is_void_alone}
use Rattle.ck_grammar.specs.Fitting.{is_end}
use Rattle.ck_grammar.specs.Nesting.{specifiers_nesting, members_nesting, declarators_nesting, declarator_nesting}
use Rattle.ck_grammar.specs.Nesting.{abstract_nesting, dims_nesting, params_nesting, more_params_nesting}
use Rattle.ck_grammar.specs.Nesting.{enumerators_nesting}
use Rattle.ck_grammar.specs.Readers.{Reader, onto}
use Rattle.ck_grammar.specs.ReadingExpressions.{begins_operand}
use Rattle.ck_grammar.specs.ReadingTypes.{begins_with, is_curly, body, tagged, specifier_by, specifier_loop}
use Rattle.ck_grammar.specs.ReadingTypes.{declarator_loop, member_loop, is_name, enumerator_end, enumerator_value}
use Rattle.ck_grammar.specs.ReadingTypes.{more_loop, void_of, parameters, dim_by, dim_loop, pointer_parts, pointer}
use Rattle.ck_grammar.specs.ReadingTypes.{with_dims, abstract, nested, begins_params, middle_by, middle}
use Rattle.ck_grammar.specs.Specified.{is_type_word, Place, InType, InParameter, go_together}
use Rattle.ck_grammar.specs.Trees.{Expr, Specifiers, Members, Declarators, Declarator, Dims, Params, MoreParams}
use Rattle.ck_grammar.specs.Trees.{Enumerators, NoSpecifiers, TypedefName, Tagged, Struct, Enum, NoMembers, Member}
use Rattle.ck_grammar.specs.Trees.{NoDeclarators, Also, Abstract, Named, Nested, NoDims, Open, Sized, Function}
use Rattle.ck_grammar.specs.Trees.{NoParams, VoidParams, Parameters, NoMore, Ellipsis, More, LastOne, LastValued, One}
use Rattle.ck_grammar.specs.Trees.{Valued}
use Rattle.ck_grammar.specs.Words.{is_text, Word, Ordinary, Typedef, Fixed, is_identifier, sort, Sort, Storage}
use Rattle.ck_grammar.specs.Words.{Qualifier, Inline, TypeWord, StructWord, EnumWord, TypeName, RoundMark, SquareMark}
use Rattle.ck_grammar.specs.Words.{begins_specifiers}
use Rattle.ck_grammar.specs.Written.{written, specifiers, members, declarators, declarator, dims, params, more_params}
use Rattle.ck_grammar.specs.Written.{enumerators, optional}
use Rattle.ck_grammar.specs.ReadingTypes as types
use Rattle.ck_grammar.specs.Trees as trees

-- what the readers of each kind answer
abbrev pub GoodEach : (Token → Word) → ℕ → Bool → Specifiers → Type 0
GoodEach w n seen s = FitsEach w seen s × (specifiers_nesting s ≤ n)

abbrev pub GoodSpecifiers : (Token → Word) → ℕ → Place → Specifiers → Type 0
GoodSpecifiers w n place s = FitsEach w false s × (go_together w place s ≡ true) × (specifiers_nesting s ≤ n)

abbrev pub GoodMembers : (Token → Word) → ℕ → Members → Type 0
GoodMembers w n m = FitsMembers w m × (has_member m ≡ true) × (suc (members_nesting m) ≤ n)

abbrev pub GoodEnumerators : (Token → Word) → ℕ → Enumerators → Type 0
GoodEnumerators w n m = FitsEnumerators w m × (suc (enumerators_nesting m) ≤ n)

abbrev pub GoodDeclarator : (Token → Word) → ℕ → Naming → Declarator → Type 0
GoodDeclarator w n naming d = FitsDeclarator w naming d × (declarator_nesting d ≤ n)

abbrev GoodDeclarators : (Token → Word) → ℕ → Naming → Declarators → Type 0
GoodDeclarators w n naming ds = FitsDeclarators w naming ds × (declarators_nesting ds ≤ n)

abbrev GoodSomeMembers : (Token → Word) → ℕ → Members → Type 0
GoodSomeMembers w n m = FitsMembers w m × (members_nesting m ≤ n)

abbrev pub GoodParams : (Token → Word) → ℕ → Params → Type 0
GoodParams w n p = FitsParams w p × (params_nesting p ≤ n)

abbrev GoodMore : (Token → Word) → ℕ → MoreParams → Type 0
GoodMore w n p = FitsMore w p × (more_params_nesting p ≤ n)

abbrev GoodDims : (Token → Word) → ℕ → Dims → Type 0
GoodDims w n ds = FitsDims w ds × (dims_nesting ds ≤ n)

-- that one of these is spelled at the front of the tokens
abbrev IsEach : (Token → Word) → ℕ → Bool → List Token → Specifiers → List Token → Type 0
IsEach w n seen ts = IsSpelled (GoodEach w n seen) specifiers ts

abbrev pub IsSpecifiers : (Token → Word) → ℕ → Place → List Token → Specifiers → List Token → Type 0
IsSpecifiers w n place ts = IsSpelled (GoodSpecifiers w n place) specifiers ts

abbrev IsMembers : (Token → Word) → ℕ → List Token → Members → List Token → Type 0
IsMembers w n ts = IsSpelled (GoodMembers w n) members ts

abbrev IsSomeMembers : (Token → Word) → ℕ → List Token → Members → List Token → Type 0
IsSomeMembers w n ts = IsSpelled (GoodSomeMembers w n) members ts

abbrev IsEnumerators : (Token → Word) → ℕ → List Token → Enumerators → List Token → Type 0
IsEnumerators w n ts = IsSpelled (GoodEnumerators w n) enumerators ts

abbrev pub IsDeclarator : (Token → Word) → ℕ → Naming → List Token → Declarator → List Token → Type 0
IsDeclarator w n naming ts = IsSpelled (GoodDeclarator w n naming) declarator ts

abbrev IsDeclarators : (Token → Word) → ℕ → Naming → List Token → Declarators → List Token → Type 0
IsDeclarators w n naming ts = IsSpelled (GoodDeclarators w n naming) declarators ts

abbrev IsParams : (Token → Word) → ℕ → List Token → Params → List Token → Type 0
IsParams w n ts = IsSpelled (GoodParams w n) params ts

abbrev IsMore : (Token → Word) → ℕ → List Token → MoreParams → List Token → Type 0
IsMore w n ts = IsSpelled (GoodMore w n) more_params ts

abbrev IsDims : (Token → Word) → ℕ → List Token → Dims → List Token → Type 0
IsDims w n ts = IsSpelled (GoodDims w n) dims ts

no_specifiers : (w : Token → Word) (n : ℕ) (seen : Bool) (ts : List Token) → IsEach w n seen ts NoSpecifiers ts
no_specifiers w n seen ts = record { tokens_are = refl; good = (tt, omega arith) }

-- a body, and the specifiers after it
body_sound : {M : Type 0} (Good : M → Type 0) (spells : M → List Token → List Token)
    (Q : Specifiers → List Token → Type 0) (w : Token → Word) (n : ℕ) (inner : Reader M)
    (make : Token → M → Token → Specifiers → Specifiers) (go : List Token → Specifiers × List Token) (ts : List Token)
    → SoundReader Good spells inner → SoundLoop (GoodEach w n true) specifiers go
    → ((o : Token) (m : M) (c : Token) (s : Specifiers) (r : List Token) → w o ≡ Fixed (codes "{") → Good m
    → w c ≡ Fixed (codes "}") → GoodEach w n true s → (o ∷ spells m (c ∷ specifiers s r)) ≡ ts → Q (make o m c s) r)
    → OnRead Q (body w inner make go ts)
body_sound Good spells Q w n inner make go ts sound again next =
    on_mark Q w "{" _ _
    (λ o r at open_. on_then (IsSpelled Good spells r) Q _ _ (sound r)
    (λ m r' is. on_mark Q w "}" _ _ (λ c r'' at' close.
    let later = again r'' in
    next o m c (go r'').0 (go r'').1 open_ is.good close later.good
    (rw (later.tokens_are, at', is.tokens_are, at) refl))))

tagged_sound : {M : Type 0} (Good : M → Type 0) (spells : M → List Token → List Token)
    (Q : Specifiers → List Token → Type 0) (w : Token → Word) (n : ℕ) (inner : Reader M)
    (make : Option Token → Token → M → Token → Specifiers → Specifiers) (go : List Token → Specifiers × List Token)
    (k : Token) (ts : List Token)
    → SoundReader Good spells inner → SoundLoop (GoodEach w n true) specifiers go
    → ((tag : Option Token) (o : Token) (m : M) (c : Token) (s : Specifiers) (r : List Token) → IsTag w tag
    → w o ≡ Fixed (codes "{") → Good m → w c ≡ Fixed (codes "}") → GoodEach w n true s
    → optional tag (o ∷ spells m (c ∷ specifiers s r)) ≡ ts → Q (make tag o m c s) r)
    → ((t : Token) (s : Specifiers) (r : List Token) → is_identifier (w t) ≡ true → GoodEach w n true s
    → (t ∷ specifiers s r) ≡ ts → Q (Tagged k t s) r)
    → OnRead Q (tagged w inner make go k ts)
tagged_sound Good spells Q w n inner make go k [] sound again with_body without = tt
tagged_sound Good spells Q w n inner make go k (t ∷ ts) sound again with_body without =
    by_if (OnRead Q) (is_identifier (w t)) _ _
    (λ name. by_if (OnRead Q) (begins_with w is_curly ts) _ _
    (λ _. body_sound Good spells Q w n inner (make (Some t)) go ts sound again
    (λ o m c s r open_ good close rest spelled. with_body (Some t) o m c s r name open_ good close rest
    (ap (◌∷◌ t) spelled)))
    (λ _. let later = again ts in without t (go ts).0 (go ts).1 name later.good (ap (◌∷◌ t) later.tokens_are)))
    (λ _. body_sound Good spells Q w n inner (make None) go (t ∷ ts) sound again
    (λ o m c s r open_ good close rest spelled. with_body None o m c s r tt open_ good close rest spelled))

word_sound : (w : Token → Word) (n : ℕ) (seen b : Bool) (go : Bool → List Token → Specifiers × List Token) (t : Token)
    (ts : List Token)
    → is_specifier_word (sort (w t)) ≡ true → is_type_word (sort (w t)) ≡ b
    → ((now : Bool) → SoundLoop (GoodEach w n now) specifiers (go now))
    → OnPair (IsEach w n seen (t ∷ ts)) (onto (trees.Word t) (go (seen || b) ts))
word_sound w n seen b go t ts one told again = let later = again (seen || b) ts in
    record { tokens_are = ap (◌∷◌ t) later.tokens_are; good = ((one, rw told later.good.0), later.good.1) }

typedef_sound : (w : Token → Word) (n : ℕ) (seen : Bool) (go : Bool → List Token → Specifiers × List Token) (t : Token)
    (ts : List Token)
    → w t ≡ Typedef → ((now : Bool) → SoundLoop (GoodEach w n now) specifiers (go now))
    → OnPair (IsEach w n seen (t ∷ ts)) (cond seen (NoSpecifiers, t ∷ ts) (onto (TypedefName t) (go true ts)))
typedef_sound w n true go t ts told again = no_specifiers w n true (t ∷ ts)
typedef_sound w n false go t ts told again = let later = again true ts in
    record { tokens_are = ap (◌∷◌ t) later.tokens_are; good = ((told, refl, later.good.0), later.good.1) }

specifier_sound : (w : Token → Word) (ms : Reader Members) (es : Reader Enumerators) (n : ℕ)
    (go : Bool → List Token → Specifiers × List Token) (seen : Bool) (x : Sort) (t : Token) (ts : List Token)
    → sort (w t) ≡ x → SortTells (w t) x → SoundReader (GoodMembers w n) members ms
    → SoundReader (GoodEnumerators w n) enumerators es
    → ((now : Bool) → SoundLoop (GoodEach w n now) specifiers (go now))
    → OnPair (IsEach w n seen (t ∷ ts)) (specifier_by w ms es go seen x t ts)
specifier_sound w ms es n go seen StructWord t ts is told sound_m sound_e again =
    on_else (IsEach w n seen (t ∷ ts)) _ _ (no_specifiers w n seen (t ∷ ts))
    (tagged_sound (GoodMembers w n) members (IsEach w n seen (t ∷ ts)) w n ms (λ tag. Struct t tag)
    (go true) t ts sound_m (again true)
    (λ tag o m c s r name open_ good close rest spelled.
    record {
      tokens_are = ap (◌∷◌ t) spelled;
      good = ((is, name, open_, (good.0, good.1), close, rest.0), omega (arith, good.2, rest.1));
    })
    (λ name s r named rest spelled.
    record { tokens_are = ap (◌∷◌ t) spelled; good = ((rw is refl, named, rest.0), rest.1) }))
specifier_sound w ms es n go seen EnumWord t ts is told sound_m sound_e again =
    on_else (IsEach w n seen (t ∷ ts)) _ _ (no_specifiers w n seen (t ∷ ts))
    (tagged_sound (GoodEnumerators w n) enumerators (IsEach w n seen (t ∷ ts)) w n es (λ tag. Enum t tag)
    (go true) t ts sound_e (again true)
    (λ tag o m c s r name open_ good close rest spelled.
    record {
      tokens_are = ap (◌∷◌ t) spelled;
      good = ((is, name, open_, good.0, close, rest.0), omega (arith, good.1, rest.1));
    })
    (λ name s r named rest spelled.
    record { tokens_are = ap (◌∷◌ t) spelled; good = ((rw is refl, named, rest.0), rest.1) }))
specifier_sound w ms es n go seen TypeName t ts is told sound_m sound_e again =
    typedef_sound w n seen go t ts told again
specifier_sound w ms es n go seen Storage t ts is told sound_m sound_e again =
    word_sound w n seen false go t ts (rw is refl) (rw is refl) again
specifier_sound w ms es n go seen Qualifier t ts is told sound_m sound_e again =
    word_sound w n seen false go t ts (rw is refl) (rw is refl) again
specifier_sound w ms es n go seen Inline t ts is told sound_m sound_e again =
    word_sound w n seen false go t ts (rw is refl) (rw is refl) again
specifier_sound w ms es n go seen TypeWord t ts is told sound_m sound_e again =
    word_sound w n seen true go t ts (rw is refl) (rw is refl) again
specifier_sound w ms es n go seen _ t ts is told sound_m sound_e again = no_specifiers w n seen (t ∷ ts)

specifier_loop_sound : (w : Token → Word) (ms : Reader Members) (es : Reader Enumerators) (n f : ℕ) (seen : Bool)
    → SoundReader (GoodMembers w n) members ms → SoundReader (GoodEnumerators w n) enumerators es
    → SoundLoop (GoodEach w n seen) specifiers (specifier_loop w ms es f seen)
specifier_loop_sound w ms es n zero seen sound_m sound_e ts = no_specifiers w n seen ts
specifier_loop_sound w ms es n (suc f) seen sound_m sound_e [] = no_specifiers w n seen []
specifier_loop_sound w ms es n (suc f) seen sound_m sound_e (t ∷ ts) =
    specifier_sound w ms es n (specifier_loop w ms es f) seen (sort (w t)) t ts refl (sort_tells (w t)) sound_m sound_e
    (λ now. specifier_loop_sound w ms es n f now sound_m sound_e)

pub specifiers_sound : (w : Token → Word) (ms : Reader Members) (es : Reader Enumerators) (n : ℕ) (place : Place)
    → SoundReader (GoodMembers w n) members ms → SoundReader (GoodEnumerators w n) enumerators es
    → SoundReader (GoodSpecifiers w n place) specifiers (types.specifiers w ms es place)
specifiers_sound w ms es n place sound_m sound_e ts =
    let all = specifier_loop_sound w ms es n (length ts) false sound_m sound_e ts in
    by_if (OnRead (IsSpecifiers w n place ts)) (go_together w place (specifier_loop w ms es (length ts) false ts).0)
    _ _
    (λ h. record { tokens_are = all.tokens_are; good = (all.good.0, h, all.good.1) }) (λ _. tt)

-- members
no_declarators : (w : Token → Word) (n : ℕ) (naming : Naming) (ts : List Token)
    → IsDeclarators w n naming ts NoDeclarators ts
no_declarators w n naming ts = record { tokens_are = refl; good = (tt, omega arith) }

declarator_loop_sound : (w : Token → Word) (d : Reader Declarator) (n f : ℕ) (naming : Naming)
    → SoundReader (GoodDeclarator w n naming) declarator d
    → SoundLoop (GoodDeclarators w n naming) declarators (declarator_loop w d f)
declarator_loop_sound w d n zero naming sound ts = no_declarators w n naming ts
declarator_loop_sound w d n (suc f) naming sound ts =
    on_else (IsDeclarators w n naming ts) _ _ (no_declarators w n naming ts)
    (on_mark (IsDeclarators w n naming ts) w "," ts _ (λ comma r at told.
    on_then (IsDeclarator w n naming r) (IsDeclarators w n naming ts) _ _ (sound r) (λ x r' is.
    let later = declarator_loop_sound w d n f naming sound r' in
    record {
      tokens_are = rw (later.tokens_are, is.tokens_are, at) refl;
      good =
          ((told, is.good.0, later.good.0), omega (arith, is.good.1, later.good.1));
    })))

no_members : (w : Token → Word) (n : ℕ) (ts : List Token) → IsSomeMembers w n ts NoMembers ts
no_members w n ts = record { tokens_are = refl; good = (tt, omega arith) }

member_loop_sound : (w : Token → Word) (s : Reader Specifiers) (d : Reader Declarator) (n f : ℕ)
    → SoundReader (GoodSpecifiers w n InType) specifiers s → SoundReader (GoodDeclarator w n MemberName) declarator d
    → SoundLoop (GoodSomeMembers w n) members (member_loop w s d f)
member_loop_sound w s d n zero sound_s sound_d ts = no_members w n ts
member_loop_sound w s d n (suc f) sound_s sound_d ts =
    on_else (IsSomeMembers w n ts) _ _ (no_members w n ts)
    (on_then (IsSpecifiers w n InType ts) (IsSomeMembers w n ts) _ _ (sound_s ts)
    (λ x r first. on_then (IsDeclarator w n MemberName r) (IsSomeMembers w n ts) _ _ (sound_d r) (λ y r' second.
    let others = declarator_loop_sound w d n (length r') MemberName sound_d r' in
    on_mark (IsSomeMembers w n ts) w ";" _ _ (λ semicolon r3 at told.
    let later = member_loop_sound w s d n f sound_s sound_d r3 in
    record {
      tokens_are = rw (later.tokens_are, at, others.tokens_are, second.tokens_are, first.tokens_are) refl;
      good = (
        ((first.good.0, first.good.1, second.good.0), others.good.0, told, later.good.0),
        omega (arith, first.good.2, second.good.1, others.good.1, later.good.1),
      );
    }))))

pub members_sound : (w : Token → Word) (s : Reader Specifiers) (d : Reader Declarator) (n : ℕ)
    → SoundReader (GoodSpecifiers w n InType) specifiers s → SoundReader (GoodDeclarator w n MemberName) declarator d
    → SoundReader (GoodMembers w (suc n)) members (types.members w s d)
members_sound w s d n sound_s sound_d ts =
    let all = member_loop_sound w s d n (length ts) sound_s sound_d ts in
    by_if (OnRead (IsMembers w (suc n) ts)) (has_member (member_loop w s d (length ts) ts).0) _ _
    (λ h. record { tokens_are = all.tokens_are; good = (all.good.0, h, omega (arith, all.good.1)) }) (λ _. tt)

-- enumerators
enumerator_end_sound : (w : Token → Word) (Q : Enumerators → List Token → Type 0) (go : Reader Enumerators) (n : ℕ)
    (last : Option Token → Enumerators) (next : Token → Enumerators → Enumerators) (ts : List Token)
    → SoundReader (GoodEnumerators w (suc n)) enumerators go
    → ((comma : Option Token) (r : List Token) → IsComma w comma → optional comma r ≡ ts → Q (last comma) r)
    → ((comma : Token) (m : Enumerators) (r : List Token) → w comma ≡ Fixed (codes ",") → GoodEnumerators w (suc n) m
    → (comma ∷ enumerators m r) ≡ ts → Q (next comma m) r)
    → OnRead Q (enumerator_end w go last next ts)
enumerator_end_sound w Q go n last next [] sound ended further = ended None [] tt refl
enumerator_end_sound w Q go n last next (t ∷ ts) sound ended further =
    by_if (OnRead Q) (is_text (codes ",") (w t)) _ _
    (λ h. by_if (OnRead Q) (is_name w ts) _ _
    (λ _. on_then (IsEnumerators w (suc n) ts) Q _ _ (sound ts)
    (λ m r is. further t m r (is_fixed (codes ",") (w t) h) is.good (ap (◌∷◌ t) is.tokens_are)))
    (λ _. ended (Some t) ts (is_fixed (codes ",") (w t) h) refl))
    (λ _. ended None (t ∷ ts) tt refl)

ordinary_tells : (word : Word) → is_ordinary word ≡ true → word ≡ Ordinary
ordinary_tells Ordinary h = refl
ordinary_tells _ h = absurd (false≢true h)

enumerator_value_sound : (w : Token → Word) (p : Reader Expr) (go : Reader Enumerators) (n : ℕ) (t : Token)
    (ts : List Token)
    → w t ≡ Ordinary → SoundReader (GoodExpr w n 11) written p → SoundReader (GoodEnumerators w (suc n)) enumerators go
    → OnRead (IsEnumerators w (suc n) (t ∷ ts)) (enumerator_value w p go t ts)
enumerator_value_sound w p go n t [] told sound again = tt
enumerator_value_sound w p go n t (eq ∷ ts) told sound again =
    by_if (OnRead (IsEnumerators w (suc n) (t ∷ eq ∷ ts))) (is_text (codes "=") (w eq)) _ _
    (λ h. on_then (IsExpr w n 11 ts) (IsEnumerators w (suc n) (t ∷ eq ∷ ts)) _ _ (sound ts) (λ e r is.
    enumerator_end_sound w (IsEnumerators w (suc n) (t ∷ eq ∷ ts)) go n (LastValued t eq e) (Valued t eq e) r again
    (λ comma r' ends spelled.
    record {
      tokens_are = rw (spelled, is.tokens_are) refl;
      good =
          ((told, is_fixed (codes "=") (w eq) h, (is.good.0, is.good.2), ends), omega (arith, is.good.1));
    })
    (λ comma m r' behind_it good spelled.
    record {
      tokens_are = rw (spelled, is.tokens_are) refl;
      good = (
        (told, is_fixed (codes "=") (w eq) h, (is.good.0, is.good.2), behind_it, good.0),
        omega (arith, is.good.1, good.1),
      );
    })))
    (λ _. enumerator_end_sound w (IsEnumerators w (suc n) (t ∷ eq ∷ ts)) go n (LastOne t) (One t) (eq ∷ ts) again
    (λ comma r' ends spelled. record { tokens_are = ap (◌∷◌ t) spelled; good = ((told, ends), omega arith) })
    (λ comma m r' behind_it good spelled.
    record { tokens_are = ap (◌∷◌ t) spelled; good = ((told, behind_it, good.0), good.1) }))

pub enumerators_sound : (w : Token → Word) (p : Reader Expr) (n f : ℕ) → SoundReader (GoodExpr w n 11) written p
    → SoundReader (GoodEnumerators w (suc n)) enumerators (types.enumerators w p f)
enumerators_sound w p n zero sound ts = tt
enumerators_sound w p n (suc f) sound [] = tt
enumerators_sound w p n (suc f) sound (t ∷ ts) =
    by_if (OnRead (IsEnumerators w (suc n) (t ∷ ts))) (is_ordinary (w t)) _ _
    (λ h. enumerator_value_sound w p (types.enumerators w p f) n t ts (ordinary_tells (w t) h) sound
    (enumerators_sound w p n f sound)) (λ _. tt)

-- parameters
no_more : (w : Token → Word) (n : ℕ) (ts : List Token) → IsMore w n ts NoMore ts
no_more w n ts = record { tokens_are = refl; good = (tt, omega arith) }

more_loop_sound : (w : Token → Word) (s : Reader Specifiers) (d : Reader Declarator) (n f : ℕ)
    → SoundReader (GoodSpecifiers w n InParameter) specifiers s → SoundReader
    (GoodDeclarator w n MaybeName) declarator d
    → SoundLoop (GoodMore w n) more_params (more_loop w s d f)
more_loop_sound w s d n zero sound_s sound_d ts = no_more w n ts
more_loop_sound w s d n (suc f) sound_s sound_d ts =
    on_else (IsMore w n ts) _ _ (no_more w n ts)
    (on_mark (IsMore w n ts) w "," ts _ (λ comma r at told.
    by_if (OnRead (IsMore w n ts)) (begins_with w begins_specifiers r) _ _
    (λ _. on_then (IsSpecifiers w n InParameter r) (IsMore w n ts) _ _ (sound_s r) (λ x r' first.
    on_then (IsDeclarator w n MaybeName r') (IsMore w n ts) _ _ (sound_d r') (λ y r'' second.
    let later = more_loop_sound w s d n f sound_s sound_d r'' in
    record {
      tokens_are = rw (later.tokens_are, second.tokens_are, first.tokens_are, at) refl;
      good = (
        (told, (first.good.0, first.good.1, second.good.0), later.good.0),
        omega (arith, first.good.2, second.good.1, later.good.1),
      );
    })))
    (λ _. on_mark (IsMore w n ts) w "..." _ _ (λ dots r' at' told'.
    record { tokens_are = rw (at', at) refl; good = ((told, told'), omega arith) }))))

parameters_listed : (w : Token → Word) (n : ℕ) (ts r r' r'' : List Token) (s : Specifiers) (d : Declarator)
    (rest : MoreParams)
    → IsSpecifiers w n InParameter ts s r → IsDeclarator w n MaybeName r d r' → IsMore w n r' rest r''
    → is_void_alone w s d rest ≡ false → IsParams w n ts (Parameters s d rest) r''
parameters_listed w n ts r r' r'' s d rest first second later alone =
    record {
      tokens_are = rw (later.tokens_are, second.tokens_are, first.tokens_are) refl;
      good = (
        ((first.good.0, first.good.1, second.good.0), later.good.0, alone),
        omega (arith, first.good.2, second.good.1, later.good.1),
      );
    }

pub not_true : (b : Bool) → not b ≡ true → b ≡ false
not_true true h = absurd (false≢true h)
not_true false h = refl

nothing_written : (d : Declarator) (r : List Token) → is_written d ≡ false → declarator d r ≡ r
nothing_written (Abstract [] NoDims) r h = refl
nothing_written _ r h = absurd (false≢true (sym h))

nothing_more : (rest : MoreParams) (r : List Token) → is_end rest ≡ true → more_params rest r ≡ r
nothing_more NoMore r h = refl
nothing_more (Ellipsis comma dots) r h = absurd (false≢true h)
nothing_more (More comma s d rest) r h = absurd (false≢true h)

void_alone : (w : Token → Word) (n : ℕ) (ts r : List Token) (s : Specifiers) → specifiers s r ≡ ts → is_void w s ≡ true
    → IsParams w n ts (void_of s) r
void_alone w n ts r NoSpecifiers spelled h = absurd (false≢true h)
void_alone w n ts r (trees.Word t NoSpecifiers) spelled h =
    record { tokens_are = spelled; good = (is_fixed (codes "void") (w t) h, omega arith) }
void_alone w n ts r (trees.Word t (trees.Word u rest)) spelled h = absurd (false≢true h)
void_alone w n ts r (trees.Word t (TypedefName u rest)) spelled h = absurd (false≢true h)
void_alone w n ts r (trees.Word t (Tagged k u rest)) spelled h = absurd (false≢true h)
void_alone w n ts r (trees.Word t (Struct k tag o m c rest)) spelled h = absurd (false≢true h)
void_alone w n ts r (trees.Word t (Enum k tag o m c rest)) spelled h = absurd (false≢true h)
void_alone w n ts r (TypedefName t rest) spelled h = absurd (false≢true h)
void_alone w n ts r (Tagged k t rest) spelled h = absurd (false≢true h)
void_alone w n ts r (Struct k tag o m c rest) spelled h = absurd (false≢true h)
void_alone w n ts r (Enum k tag o m c rest) spelled h = absurd (false≢true h)

parameters_sound : (w : Token → Word) (n : ℕ) (ts r r' r'' : List Token) (s : Specifiers) (d : Declarator)
    (rest : MoreParams)
    → IsSpecifiers w n InParameter ts s r → IsDeclarator w n MaybeName r d r' → IsMore w n r' rest r''
    → IsParams w n ts (parameters w s d rest) r''
parameters_sound w n ts r r' r'' s d rest first second later =
    by_if (λ x. IsParams w n ts x r'') (is_void_alone w s d rest) (void_of s) (Parameters s d rest)
    (λ h. let void_it =
    and_left (is_void w s) (not (is_written d)) (and_left (is_void w s && not (is_written d)) (is_end rest) h) in
    let bare = not_true (is_written d)
    (and_right (is_void w s) (not (is_written d)) (and_left (is_void w s && not (is_written d)) (is_end rest) h)) in
    let ended = and_right (is_void w s && not (is_written d)) (is_end rest) h in
    let same : specifiers s r'' ≡ ts =
    ap (specifiers s) (sym (nothing_more rest r'' ended) ∙ later.tokens_are ∙ sym (nothing_written d r' bare)
    ∙ second.tokens_are) ∙ first.tokens_are in
    void_alone w n ts r'' s same void_it)
    (λ h. parameters_listed w n ts r r' r'' s d rest first second later h)

pub params_sound : (w : Token → Word) (s : Reader Specifiers) (d : Reader Declarator) (n : ℕ)
    → SoundReader (GoodSpecifiers w n InParameter) specifiers s → SoundReader
    (GoodDeclarator w n MaybeName) declarator d
    → SoundReader (GoodParams w n) params (types.params w s d)
params_sound w s d n sound_s sound_d ts =
    by_if (OnRead (IsParams w n ts)) (begins_with w begins_specifiers ts) _ _
    (λ _. on_then (IsSpecifiers w n InParameter ts) (IsParams w n ts) _ _ (sound_s ts)
    (λ x r first. on_then (IsDeclarator w n MaybeName r) (IsParams w n ts) _ _ (sound_d r) (λ y r' second.
    parameters_sound w n ts r r' (more_loop w s d (length r') r').1 x y (more_loop w s d (length r') r').0 first second
    (more_loop_sound w s d n (length r') sound_s sound_d r'))))
    (λ _. record { tokens_are = refl; good = (tt, omega arith) })

-- dimensions
no_dims : (w : Token → Word) (n : ℕ) (ts : List Token) → IsDims w n ts NoDims ts
no_dims w n ts = record { tokens_are = refl; good = (tt, omega arith) }

dim_sound : (w : Token → Word) (p : Reader Expr) (ps : Reader Params) (n : ℕ) (go : List Token → Dims × List Token)
    (x : Sort) (t : Token) (ts : List Token)
    → SortTells (w t) x → SoundReader (GoodExpr w n 11) written p → SoundReader (GoodParams w n) params ps
    → SoundLoop (GoodDims w n) dims go → OnPair (IsDims w n (t ∷ ts)) (dim_by w p ps go x t ts)
dim_sound w p ps n go SquareMark t ts told sound sound_p again =
    on_else (IsDims w n (t ∷ ts)) _ _ (no_dims w n (t ∷ ts))
    (by_if (OnRead (IsDims w n (t ∷ ts))) (begins_operand w ts) _ _
    (λ _. on_then (IsExpr w n 11 ts) (IsDims w n (t ∷ ts)) _ _ (sound ts) (λ e r is.
    on_mark (IsDims w n (t ∷ ts)) w "]" _ _ (λ c r' at close.
    let later = again r' in
    record {
      tokens_are = rw (later.tokens_are, at, is.tokens_are) refl;
      good =
          ((told, (is.good.0, is.good.2), close, later.good.0), omega (arith, is.good.1, later.good.1));
    })))
    (λ _. on_mark (IsDims w n (t ∷ ts)) w "]" _ _ (λ c r at close.
    let later = again r in
    record { tokens_are = rw (later.tokens_are, at) refl; good = ((told, close, later.good.0), later.good.1) })))
dim_sound w p ps n go RoundMark t ts told sound sound_p again =
    on_else (IsDims w n (t ∷ ts)) _ _ (no_dims w n (t ∷ ts))
    (on_then (IsParams w n ts) (IsDims w n (t ∷ ts)) _ _ (sound_p ts)
    (λ x r is. on_mark (IsDims w n (t ∷ ts)) w ")" _ _ (λ c r' at close.
    let later = again r' in
    record {
      tokens_are = rw (later.tokens_are, at, is.tokens_are) refl;
      good =
          ((told, is.good.0, close, later.good.0), omega (arith, is.good.1, later.good.1));
    })))
dim_sound w p ps n go Storage t ts told sound sound_p again = no_dims w n (t ∷ ts)
dim_sound w p ps n go _ t ts told sound sound_p again = no_dims w n (t ∷ ts)

dim_loop_sound : (w : Token → Word) (p : Reader Expr) (ps : Reader Params) (n f : ℕ)
    → SoundReader (GoodExpr w n 11) written p → SoundReader (GoodParams w n) params ps
    → SoundLoop (GoodDims w n) dims (dim_loop w p ps f)
dim_loop_sound w p ps n zero sound sound_p ts = no_dims w n ts
dim_loop_sound w p ps n (suc f) sound sound_p [] = no_dims w n []
dim_loop_sound w p ps n (suc f) sound sound_p (t ∷ ts) = dim_sound w p ps n (dim_loop w p ps f) (sort (w t)) t ts
    (sort_tells (w t)) sound sound_p (dim_loop_sound w p ps n f sound sound_p)

-- pointers
pointer_parts_sound : (w : Token → Word) (ts : List Token) → OnPair (IsSpelled (ArePointerParts w) (◌++◌) ts)
    (pointer_parts w ts)
pointer_parts_sound w [] = record { tokens_are = refl; good = tt }
pointer_parts_sound w (t ∷ ts) =
    by_if (OnPair (IsSpelled (ArePointerParts w) (◌++◌) (t ∷ ts))) (is_pointer_part (sort (w t))) _ _
    (λ h. let again = pointer_parts_sound w ts in
    record { tokens_are = ap (◌∷◌ t) again.tokens_are; good = (h, again.good) })
    (λ _. record { tokens_are = refl; good = tt })

abbrev first_of_them : Token → List Token → Token
first_of_them t [] = t
first_of_them t (u ∷ us) = u

star_first : (w : Token → Word) (t : Token) (ts parts r : List Token) → is_star (sort (w t)) ≡ true
    → IsSpelled (ArePointerParts w) (◌++◌) (t ∷ ts) parts r → IsPointer w parts
star_first w t ts [] r h is = tt
star_first w t ts (u ∷ parts) r h is = (ap (λ x. is_star (sort (w (first_of_them t x)))) is.tokens_are ∙ h, is.good.1)

pointer_sound : (w : Token → Word) (ts : List Token) → OnPair (IsSpelled (IsPointer w) (◌++◌) ts) (pointer w ts)
pointer_sound w [] = record { tokens_are = refl; good = tt }
pointer_sound w (t ∷ ts) =
    by_if (OnPair (IsSpelled (IsPointer w) (◌++◌) (t ∷ ts))) (is_star (sort (w t))) _ _
    (λ h. let parts = pointer_parts_sound w (t ∷ ts) in
    record {
      tokens_are = parts.tokens_are;
      good = star_first w t ts (pointer_parts w (t ∷ ts)).0
          (pointer_parts w (t ∷ ts)).1 h parts;
    })
    (λ _. record { tokens_are = refl; good = tt })

-- declarators
above_dims : (stars : List Token) (ds : Dims) (n : ℕ) → dims_nesting ds ≤ n
    → abstract_nesting stars ds (dims_nesting ds) ≤ suc n
above_dims [] NoDims n h = omega arith
above_dims [] (Open o c rest) n h = omega (arith, h)
above_dims [] (Sized o e c rest) n h = omega (arith, h)
above_dims [] (Function o p c rest) n h = omega (arith, h)
above_dims (t ∷ ts) ds n h = omega (arith, h)

abstract_by : (w : Token → Word) (p : Reader Expr) (ps : Reader Params) (n : ℕ) (naming : Naming)
    (all stars ts : List Token) (b : Bool)
    → may_be_abstract naming ≡ b → IsSpelled (IsPointer w) (◌++◌) all stars ts → SoundReader (GoodExpr w n 11) written p
    → SoundReader (GoodParams w n) params ps
    → OnRead (IsDeclarator w (suc n) naming all) (cond b (Some (with_dims w p ps (Abstract stars) ts)) None)
abstract_by w p ps n naming all stars ts true may is sound sound_p =
    let later = dim_loop_sound w p ps n (length ts) sound sound_p ts in
    record {
      tokens_are = ap (◌++◌ stars) later.tokens_are ∙ is.tokens_are;
      good =
          ((may, is.good, later.good.0), above_dims stars (dim_loop w p ps (length ts) ts).0 n later.good.1);
    }
abstract_by w p ps n naming all stars ts false may is sound sound_p = tt

abstract_sound : (w : Token → Word) (p : Reader Expr) (ps : Reader Params) (n : ℕ) (naming : Naming)
    (all stars ts : List Token)
    → IsSpelled (IsPointer w) (◌++◌) all stars ts → SoundReader (GoodExpr w n 11) written p
    → SoundReader (GoodParams w n) params ps → OnRead (IsDeclarator w (suc n) naming all)
    (abstract w p ps naming stars ts)
abstract_sound w p ps n naming all stars ts is sound sound_p = abstract_by w p ps n naming all stars ts
    (may_be_abstract naming) refl is sound sound_p

nested_sound : (w : Token → Word) (p : Reader Expr) (ps : Reader Params) (inner : Reader Declarator) (n : ℕ)
    (naming : Naming) (all stars : List Token) (o : Token) (ts : List Token)
    → w o ≡ Fixed (codes "(") → IsSpelled (IsPointer w) (◌++◌) all stars (o ∷ ts)
    → SoundReader (GoodExpr w n 11) written p → SoundReader (GoodParams w n) params ps
    → SoundReader (GoodDeclarator w n naming) declarator inner
    → OnRead (IsDeclarator w (suc n) naming all) (nested w p ps inner stars o ts)
nested_sound w p ps inner n naming all stars o ts told is sound sound_p sound_d =
    on_then (IsDeclarator w n naming ts) (IsDeclarator w (suc n) naming all) _ _ (sound_d ts) (λ d r in_it.
    on_guard (IsDeclarator w (suc n) naming all) (is_written d) _
    (λ h. on_mark (IsDeclarator w (suc n) naming all) w ")" _ _ (λ c r' at close.
    let later = dim_loop_sound w p ps n (length r') sound sound_p r' in
    record {
      tokens_are = ap (λ x. stars ++ (o ∷ declarator d (c ∷ x))) later.tokens_are
          ∙ ap (λ x. stars ++ (o ∷ declarator d x)) at ∙ ap (λ x. stars ++ (o ∷ x)) in_it.tokens_are ∙ is.tokens_are;
      good = ((is.good, told, (in_it.good.0, h), close, later.good.0), omega (arith, in_it.good.1, later.good.1));
    })))

named_sound : (w : Token → Word) (p : Reader Expr) (ps : Reader Params) (n : ℕ) (naming : Naming)
    (all stars : List Token) (t : Token) (ts : List Token)
    → IsSpelled (IsPointer w) (◌++◌) all stars (t ∷ ts) → SoundReader (GoodExpr w n 11) written p
    → SoundReader (GoodParams w n) params ps
    → OnRead (IsDeclarator w (suc n) naming all)
    (cond (may_name naming (w t)) (Some (with_dims w p ps (Named stars t) ts))
    (abstract w p ps naming stars (t ∷ ts)))
named_sound w p ps n naming all stars t ts is sound sound_p =
    by_if (OnRead (IsDeclarator w (suc n) naming all)) (may_name naming (w t)) _ _
    (λ h. let later = dim_loop_sound w p ps n (length ts) sound sound_p ts in
    record {
      tokens_are = ap (λ x. stars ++ (t ∷ x)) later.tokens_are ∙ is.tokens_are;
      good =
          ((is.good, h, later.good.0), omega (arith, later.good.1));
    })
    (λ _. abstract_sound w p ps n naming all stars (t ∷ ts) is sound sound_p)

middle_sound : (w : Token → Word) (p : Reader Expr) (ps : Reader Params) (inner : Reader Declarator) (n : ℕ)
    (naming : Naming) (all stars : List Token) (x : Sort) (t : Token) (ts : List Token)
    → SortTells (w t) x → IsSpelled (IsPointer w) (◌++◌) all stars (t ∷ ts) → SoundReader (GoodExpr w n 11) written p
    → SoundReader (GoodParams w n) params ps → SoundReader (GoodDeclarator w n naming) declarator inner
    → OnRead (IsDeclarator w (suc n) naming all) (middle_by w p ps inner naming stars x t ts)
middle_sound w p ps inner n naming all stars RoundMark t ts told is sound sound_p sound_d =
    by_if (OnRead (IsDeclarator w (suc n) naming all)) (may_be_abstract naming && begins_params w ts) _ _
    (λ _. abstract_sound w p ps n naming all stars (t ∷ ts) is sound sound_p)
    (λ _. nested_sound w p ps inner n naming all stars t ts told is sound sound_p sound_d)
middle_sound w p ps inner n naming all stars Storage t ts told is sound sound_p sound_d =
    named_sound w p ps n naming all stars t ts is sound sound_p
middle_sound w p ps inner n naming all stars _ t ts told is sound sound_p sound_d =
    named_sound w p ps n naming all stars t ts is sound sound_p

behind_pointer : (w : Token → Word) (p : Reader Expr) (ps : Reader Params) (inner : Reader Declarator) (n : ℕ)
    (naming : Naming) (all stars ts : List Token)
    → IsSpelled (IsPointer w) (◌++◌) all stars ts → SoundReader (GoodExpr w n 11) written p
    → SoundReader (GoodParams w n) params ps → SoundReader (GoodDeclarator w n naming) declarator inner
    → OnRead (IsDeclarator w (suc n) naming all) (middle w p ps inner naming stars ts)
behind_pointer w p ps inner n naming all stars [] is sound sound_p sound_d =
    abstract_sound w p ps n naming all stars [] is sound sound_p
behind_pointer w p ps inner n naming all stars (t ∷ ts) is sound sound_p sound_d =
    middle_sound w p ps inner n naming all stars (sort (w t)) t ts (sort_tells (w t)) is sound sound_p sound_d

pub declarator_sound : (w : Token → Word) (p : Reader Expr) (ps : Reader Params) (inner : Reader Declarator) (n : ℕ)
    (naming : Naming)
    → SoundReader (GoodExpr w n 11) written p → SoundReader (GoodParams w n) params ps
    → SoundReader (GoodDeclarator w n naming) declarator inner
    → SoundReader (GoodDeclarator w (suc n) naming) declarator (types.declarator w p ps inner naming)
declarator_sound w p ps inner n naming sound sound_p sound_d ts = behind_pointer w p ps inner n naming ts
    (pointer w ts).0 (pointer w ts).1 (pointer_sound w ts) sound sound_p sound_d
