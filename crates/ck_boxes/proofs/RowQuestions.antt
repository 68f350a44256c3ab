-- What readers ask of rows: whether an element is there, and whether a word is the only one.
use Rattle.std.proofs.Common.{◌≡◌, ℕ, suc, ◌≤◌, Bool, true, false, not, List, [], ◌∷◌, length, refl, ap, sym, ◌∙◌}
use Rattle.std.proofs.Common.{arith}
use Rattle.std.proofs.lemmas.Bool.Decides.{nat_tests}
use Rattle.std.specs.Prelude.{◌==◌, ◌&&◌, Option, None}
use Rattle.ck_base.specs.declared.tokens.Token.{Token}
use Rattle.ck_grammar.specs.Fitting.{has_suffix, has_member, is_written, is_end}
use Rattle.ck_grammar.specs.Trees as plain
use Rattle.ck_readers.specs.Forms.{only_word_of}
use Rattle.ck_syntax.proofs.Equations.{struct_before-parts, enum_before-parts, member_before-parts}
use Rattle.ck_syntax.specs.ExpressionViews.{suffix_before, specifier_before, specifier_trees, member_before, dim_before}
use Rattle.ck_syntax.specs.ExpressionViews.{dim_trees, parameter_before}
use Rattle.ck_syntax.specs.Rows.{row_before}
use Rattle.ck_syntax.specs.declared.declarators.Dim.{Dim, Open, Sized', Function'}
use Rattle.ck_syntax.specs.declared.declarators.NextParameter.{NextParameter}
use Rattle.ck_syntax.specs.declared.expressions.Suffix.{Suffix, Index', CallEmpty, Call', MemberAccess, PostIncrement}
use Rattle.ck_syntax.specs.declared.specifiers.Member.{Member}
use Rattle.ck_syntax.specs.declared.specifiers.Specifier.{Specifier, Word, TypedefName, Tagged, Struct', Enum'}

pub has_suffix-before : {A : Type 0} (s : Suffix A) (rest : plain.Suffixes) → has_suffix (suffix_before s rest) ≡ true
unfolding suffix_before
has_suffix-before (Index' opening p index closing) rest = refl
has_suffix-before (CallEmpty opening closing) rest = refl
has_suffix-before (Call' opening p first q arguments closing) rest = refl
has_suffix-before (MemberAccess operator member) rest = refl
has_suffix-before (PostIncrement operator) rest = refl

pub has_member-before : {A : Type 0} (m : Member A) (rest : plain.Members) → has_member (member_before m rest) ≡ true
has_member-before m rest = ap has_member (member_before-parts m rest)

pub is_written-dims : {A : Type 0} (d : Dim A) (rest : plain.Dims)
    → is_written (plain.Abstract [] (dim_before d rest)) ≡ true
unfolding dim_before
is_written-dims (Open opening closing) rest = refl
is_written-dims (Sized' opening p size closing) rest = refl
is_written-dims (Function' opening p parameters closing) rest = refl

-- some specifiers are there
abbrev are_some : plain.Specifiers → Bool
are_some plain.NoSpecifiers = false
are_some _ = true

are_some-before : {A : Type 0} (s : Specifier A) (rest : plain.Specifiers) → are_some (specifier_before s rest) ≡ true
unfolding specifier_before
are_some-before (Word token) rest = refl
are_some-before (TypedefName token) rest = refl
are_some-before (Tagged keyword tag) rest = refl
are_some-before (Struct' p specifier) rest = ap are_some (struct_before-parts specifier rest)
are_some-before (Enum' p specifier) rest = ap are_some (enum_before-parts specifier rest)

word_before_some : (token : Token) (rest : plain.Specifiers) → are_some rest ≡ true
    → only_word_of (plain.Word token rest) ≡ None
word_before_some token plain.NoSpecifiers some = cc
word_before_some token (plain.Word t rest) some = refl
word_before_some token (plain.TypedefName t rest) some = refl
word_before_some token (plain.Tagged k t rest) some = refl
word_before_some token (plain.Struct k tag o m c rest) some = refl
word_before_some token (plain.Enum k tag o m c rest) some = refl

first_of_more : {A : Type 0} (s : Specifier A) (rest : plain.Specifiers) → are_some rest ≡ true
    → only_word_of (specifier_before s rest) ≡ None
unfolding specifier_before
first_of_more (Word token) rest some = word_before_some token rest some
first_of_more (TypedefName token) rest some = refl
first_of_more (Tagged keyword tag) rest some = refl
first_of_more (Struct' p specifier) rest some = ap only_word_of (struct_before-parts specifier rest)
first_of_more (Enum' p specifier) rest some = ap only_word_of (enum_before-parts specifier rest)

-- of two specifiers and more none is the only one
pub only_word-more : {A : Type 0} (s t : Specifier A) (rest : List (Specifier A))
    → only_word_of (specifier_trees (s ∷ t ∷ rest)) ≡ None
only_word-more s t rest = first_of_more s (specifier_trees (t ∷ rest)) (are_some-before t (specifier_trees rest))

not_empty : (n : ℕ) → not (suc n == 0) ≡ true
not_empty n = grind (arith, nat_tests)

-- whether an element is there, where a test of the row's plain tree tells that
pub is_filled : {X P : Type 0} (before : X → P → P) (test : P → Bool) (none : P) → test none ≡ false
    → ((x : X) (rest : P) → test (before x rest) ≡ true) → (xs : List X) (n : ℕ) (empty : Bool) → n ≡ length xs
    → empty ≡ (n == 0) → not empty ≡ test (row_before before xs none)
is_filled before test none nothing one [] n empty len is = ap not (is ∙ ap (λ k. k == 0) len) ∙ sym nothing
is_filled before test none nothing one (x ∷ xs) n empty len is =
    ap not (is ∙ ap (λ k. k == 0) len) ∙ not_empty (length xs) ∙ sym (one x (row_before before xs none))

-- parameters end what follows them where there are none
pub params_end : {A : Type 0} (xs : List (NextParameter A)) (n : ℕ) (empty : Bool) (rest : plain.MoreParams)
    → n ≡ length xs → empty ≡ (n == 0)
    → is_end (row_before parameter_before xs rest) ≡ (not (not empty) && is_end rest)
params_end [] n empty rest len is = sym (ap (λ b. not (not b) && is_end rest) (is ∙ ap (λ k. k == 0) len))
params_end (x ∷ xs) n empty rest len is =
    sym (ap (λ b. not b && is_end rest) (ap not (is ∙ ap (λ k. k == 0) len) ∙ not_empty (length xs)))

-- of two specifiers or more none is the only one
pub only_word_long : {A : Type 0} (xs : List (Specifier A)) → 2 ≤ length xs → only_word_of (specifier_trees xs) ≡ None
only_word_long [] h = refl
only_word_long (s ∷ []) h = absurd (omega arith)
only_word_long (s ∷ t ∷ rest) h = only_word-more s t rest

-- an abstract declarator without stars is written where it has dimensions or parameters
pub abstract_shows : {A : Type 0} (stars : List Token) (ds : List (Dim A)) (no_stars no_dims : Bool)
    → no_stars ≡ (length stars == 0) → no_stars ≡ true → no_dims ≡ (length ds == 0)
    → not no_dims ≡ is_written (plain.Abstract stars (dim_trees ds))
abstract_shows [] ds no_stars no_dims first none is =
    is_filled dim_before (λ d. is_written (plain.Abstract [] d)) plain.NoDims refl is_written-dims ds (length ds)
    no_dims
    refl is
abstract_shows (t ∷ ts) ds no_stars no_dims first none is =
    let e : not no_stars ≡ true = ap not first ∙ not_empty (length ts) in
    let f : not no_stars ≡ false = ap not none in
    cc
