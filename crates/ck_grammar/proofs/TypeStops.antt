-- Tokens at which specifiers and declarators end, and what they begin with.
use Rattle.std.proofs.Common.{◌≡◌, Bool, true, false, not, ◌&&◌, ◌||◌, List, [], ◌∷◌, refl, sym}
use Rattle.std.specs.Prelude.{codes}
use Rattle.std.proofs.lemmas.Bool.{false≢true}
use Rattle.ck_base.specs.declared.tokens.Token.{Token}
use Rattle.ck_grammar.specs.Fitting.{FitsEach, FitsDeclarator, FitsDims, FitsParams, Naming, NewName, MemberName}
use Rattle.ck_grammar.specs.Fitting.{MaybeName, NoName, may_be_abstract, may_name, is_written, is_star}
use Rattle.ck_grammar.specs.Fitting.{is_specifier_word, is_tag_word, is_ordinary}
use Rattle.ck_grammar.specs.ReadingExpressions.{opens_type}
use Rattle.ck_grammar.specs.ReadingTypes.{begins_with, begins_params, is_close}
use Rattle.ck_grammar.specs.Specified.{Place, InType, InParameter, go_together, has_one_type, storage_fits, some_word}
use Rattle.ck_grammar.specs.Specified.{is_storage, is_inline}
use Rattle.ck_grammar.specs.Trees.{Specifiers, Declarator, Dims, Params, NoSpecifiers, TypedefName, Tagged, Struct}
use Rattle.ck_grammar.specs.Trees.{Enum, Abstract, Named, Nested, NoDims, Open, Sized, Function, NoParams, VoidParams}
use Rattle.ck_grammar.specs.Trees.{Parameters}
use Rattle.ck_grammar.specs.Words.{begins_specifiers, Word, Ordinary, Typedef, Number, String, Fixed, sort, begins_type}
use Rattle.ck_grammar.specs.Words.{Sort, Storage, Qualifier, Inline, TypeWord, StructWord, EnumWord, Plain, TypeName}
use Rattle.ck_grammar.specs.Words.{Star, RoundMark, SquareMark, CurlyMark, CloseMark, Other}
use Rattle.ck_grammar.specs.Written.{specifiers, declarator, dims, params}
use Rattle.ck_grammar.specs.Trees as trees

-- what may come after a declarator: no part of one
abbrev pub ends : Sort → Bool
ends Other = true
ends CurlyMark = true
ends CloseMark = true
ends _ = false

abbrev pub StopsDeclarator : (Token → Word) → List Token → Type 0
StopsDeclarator w [] = Unit {0}
StopsDeclarator w (t ∷ ts) = ends (sort (w t)) ≡ true

-- what may come after specifiers that have a type: no specifier and no body
abbrev pub ends_specifiers : Sort → Bool
ends_specifiers Plain = true
ends_specifiers TypeName = true
ends_specifiers Star = true
ends_specifiers RoundMark = true
ends_specifiers SquareMark = true
ends_specifiers CloseMark = true
ends_specifiers Other = true
ends_specifiers _ = false

abbrev pub StopsSpecifiers : (Token → Word) → List Token → Type 0
StopsSpecifiers w [] = Unit {0}
StopsSpecifiers w (t ∷ ts) = ends_specifiers (sort (w t)) ≡ true

-- a declarator ends at the marks after it; a body's opening mark apart, specifiers do too
abbrev pub ends_both : Sort → Bool
ends_both Other = true
ends_both CloseMark = true
ends_both _ = false

abbrev pub StopsBoth : (Token → Word) → List Token → Type 0
StopsBoth w [] = Unit {0}
StopsBoth w (t ∷ ts) = ends_both (sort (w t)) ≡ true

both_declarator : (x : Sort) → ends_both x ≡ true → ends x ≡ true
both_declarator CurlyMark h = refl
both_declarator CloseMark h = refl
both_declarator Other h = refl
both_declarator _ h = h

both_specifiers : (x : Sort) → ends_both x ≡ true → ends_specifiers x ≡ true
both_specifiers Plain h = refl
both_specifiers TypeName h = refl
both_specifiers Star h = refl
both_specifiers RoundMark h = refl
both_specifiers SquareMark h = refl
both_specifiers CloseMark h = refl
both_specifiers Other h = refl
both_specifiers _ h = h

pub stops_declarator : (w : Token → Word) (more : List Token) → StopsBoth w more → StopsDeclarator w more
stops_declarator w [] h = tt
stops_declarator w (t ∷ ts) h = both_declarator (sort (w t)) h

stops_specifiers : (w : Token → Word) (more : List Token) → StopsBoth w more → StopsSpecifiers w more
stops_specifiers w [] h = tt
stops_specifiers w (t ∷ ts) h = both_specifiers (sort (w t)) h

pub star_ends : (x : Sort) → is_star x ≡ true → ends_specifiers x ≡ true
star_ends Storage h = h
star_ends Qualifier h = h
star_ends Inline h = h
star_ends TypeWord h = h
star_ends StructWord h = h
star_ends EnumWord h = h
star_ends CurlyMark h = h
star_ends _ h = refl

pub star_no_params : (x : Sort) → is_star x ≡ true → (begins_specifiers x || is_close x) ≡ false
star_no_params Star h = refl
star_no_params Plain h = refl
star_no_params RoundMark h = refl
star_no_params SquareMark h = refl
star_no_params CurlyMark h = refl
star_no_params Other h = refl
star_no_params _ h = absurd (false≢true h)

pub name_ends : (naming : Naming) (word : Word) → may_name naming word ≡ true → ends_specifiers (sort word) ≡ true
name_ends naming Ordinary h = refl
name_ends naming Typedef h = refl
name_ends NewName Number h = refl
name_ends MemberName Number h = refl
name_ends MaybeName Number h = refl
name_ends NoName Number h = refl
name_ends NewName String h = refl
name_ends MemberName String h = refl
name_ends MaybeName String h = refl
name_ends NoName String h = refl
name_ends NewName (Fixed text) h = absurd (false≢true h)
name_ends MemberName (Fixed text) h = absurd (false≢true h)
name_ends MaybeName (Fixed text) h = absurd (false≢true h)
name_ends NoName (Fixed text) h = absurd (false≢true h)

dims_end : (w : Token → Word) (ds : Dims) (more : List Token) → FitsDims w ds → StopsBoth w more
    → StopsSpecifiers w (dims ds more)
dims_end w NoDims more h stop = stops_specifiers w more stop
dims_end w _ more h stop = rw h.0 refl

-- specifiers end where a declarator begins
pub declarator_ends : (w : Token → Word) (naming : Naming) (d : Declarator) (more : List Token)
    → FitsDeclarator w naming d → StopsBoth w more → StopsSpecifiers w (declarator d more)
declarator_ends w naming (Abstract [] ds) more h stop = dims_end w ds more h.2 stop
declarator_ends w naming (Abstract (t ∷ ts) ds) more h stop = star_ends (sort (w t)) h.1.0
declarator_ends w naming (Named [] t ds) more h stop = name_ends naming (w t) h.1
declarator_ends w naming (Named (s ∷ ts) t ds) more h stop = star_ends (sort (w s)) h.0.0
declarator_ends w naming (Nested [] o d c ds) more h stop = rw h.1 refl
declarator_ends w naming (Nested (s ∷ ts) o d c ds) more h stop = star_ends (sort (w s)) h.0.0

pub and_left : (a b : Bool) → (a && b) ≡ true → a ≡ true
and_left true b h = refl
and_left false b h = h

pub and_right : (a b : Bool) → (a && b) ≡ true → b ≡ true
and_right true b h = h
and_right false b h = absurd (false≢true h)

not_or : (a b : Bool) → not (a || b) ≡ true → a ≡ false
not_or true b h = absurd (false≢true h)
not_or false b h = refl

word_begins : (x : Sort) → is_specifier_word x ≡ true → is_storage x ≡ false → is_inline x ≡ false
    → begins_type x ≡ true
word_begins Storage h no_storage no_inline = absurd (false≢true (sym no_storage))
word_begins Qualifier h no_storage no_inline = refl
word_begins Inline h no_storage no_inline = absurd (false≢true (sym no_inline))
word_begins TypeWord h no_storage no_inline = refl
word_begins StructWord h no_storage no_inline = refl
word_begins EnumWord h no_storage no_inline = refl
word_begins TypeName h no_storage no_inline = refl
word_begins _ h no_storage no_inline = h

tag_begins : (x : Sort) → is_tag_word x ≡ true → begins_type x ≡ true
tag_begins Qualifier h = refl
tag_begins TypeWord h = refl
tag_begins StructWord h = refl
tag_begins EnumWord h = refl
tag_begins TypeName h = refl
tag_begins _ h = h

-- what begins with a type name in parentheses shows it
pub type_opens : (w : Token → Word) (o : Token) (s : Specifiers) (more : List Token) → w o ≡ Fixed (codes "(")
    → FitsEach w false s → go_together w InType s ≡ true → opens_type w (o ∷ specifiers s more) ≡ true
type_opens w o NoSpecifiers more h fits good = absurd (false≢true good)
type_opens w o (trees.Word t rest) more h fits good =
    let storage = and_right (has_one_type w (trees.Word t rest)) (storage_fits w InType (trees.Word t rest)) good in
    let none = not_or (is_storage (sort (w t))) (some_word w is_storage rest)
    (and_left (not (some_word w is_storage (trees.Word t rest))) (not (some_word w is_inline (trees.Word t rest)))
    storage) in
    let no_inline = not_or (is_inline (sort (w t))) (some_word w is_inline rest)
    (and_right (not (some_word w is_storage (trees.Word t rest))) (not (some_word w is_inline (trees.Word t rest)))
    storage) in
    let begun : begins_type (sort (w t)) ≡ true = word_begins (sort (w t)) fits.0 none no_inline in
    rw (h, begun) refl
type_opens w o (Tagged k t rest) more h fits good = let begun : begins_type (sort (w k)) ≡ true =
    tag_begins (sort (w k)) fits.0 in rw (h, begun) refl
type_opens w o _ more h fits good = rw (h, fits.0) refl

word_starts : (x : Sort) → is_specifier_word x ≡ true → begins_specifiers x ≡ true
word_starts Plain h = h
word_starts Star h = h
word_starts RoundMark h = h
word_starts SquareMark h = h
word_starts CurlyMark h = h
word_starts CloseMark h = h
word_starts Other h = h
word_starts _ h = refl

tag_starts : (x : Sort) → is_tag_word x ≡ true → begins_specifiers x ≡ true
tag_starts Plain h = h
tag_starts Star h = h
tag_starts RoundMark h = h
tag_starts SquareMark h = h
tag_starts CurlyMark h = h
tag_starts CloseMark h = h
tag_starts Other h = h
tag_starts _ h = refl

-- specifiers that stand together begin as specifiers do
pub specifiers_begin : (w : Token → Word) (place : Place) (s : Specifiers) (more : List Token) → FitsEach w false s
    → go_together w place s ≡ true → begins_with w begins_specifiers (specifiers s more) ≡ true
specifiers_begin w place NoSpecifiers more fits good = absurd (false≢true good)
specifiers_begin w place (trees.Word t rest) more fits good = word_starts (sort (w t)) fits.0
specifiers_begin w place (TypedefName t rest) more fits good = rw fits.0 refl
specifiers_begin w place (Tagged k t rest) more fits good = tag_starts (sort (w k)) fits.0
specifiers_begin w place (Struct k tag b m c rest) more fits good = rw fits.0 refl
specifiers_begin w place (Enum k tag b m c rest) more fits good = rw fits.0 refl

or_begun : (w : Token → Word) (ts : List Token) → begins_with w begins_specifiers ts ≡ true → begins_params w ts ≡ true
or_begun w [] h = h
or_begun w (t ∷ ts) h = rw h refl

-- parameters begin as parameters do
pub params_begin : (w : Token → Word) (p : Params) (c : Token) (more : List Token) → FitsParams w p
    → w c ≡ Fixed (codes ")") → begins_params w (params p (c ∷ more)) ≡ true
params_begin w NoParams c more h close = rw close refl
params_begin w (VoidParams t) c more h close = rw h refl
params_begin w (Parameters s d rest) c more h close = or_begun w _ (specifiers_begin w InParameter s _ h.0.0 h.0.1)

plain_no_params : (word : Word) → is_ordinary word ≡ true
    → (begins_specifiers (sort word) || is_close (sort word)) ≡ false
plain_no_params Typedef h = absurd (false≢true h)
plain_no_params (Fixed text) h = absurd (false≢true h)
plain_no_params _ h = refl

-- whether a name that needn't be written is ordinary
only_ordinary : (naming : Naming) (word : Word) → may_be_abstract naming ≡ true → may_name naming word ≡ true
    → is_ordinary word ≡ true
only_ordinary NewName word h name = absurd (false≢true h)
only_ordinary MemberName word h name = absurd (false≢true h)
only_ordinary MaybeName word h name = name
only_ordinary NoName word h name = absurd (false≢true name)

-- a declarator of which something is written doesn't begin as parameters do
pub no_params_begin : (w : Token → Word) (naming : Naming) (d : Declarator) (more : List Token)
    → may_be_abstract naming ≡ true → FitsDeclarator w naming d → is_written d ≡ true
    → begins_params w (declarator d more) ≡ false
no_params_begin w naming (Abstract [] NoDims) more may h one = absurd (false≢true one)
no_params_begin w naming (Abstract (t ∷ ts) ds) more may h one = star_no_params (sort (w t)) h.1.0
no_params_begin w naming (Named [] t ds) more may h one = plain_no_params (w t) (only_ordinary naming (w t) may h.1)
no_params_begin w naming (Named (s ∷ ts) t ds) more may h one = star_no_params (sort (w s)) h.0.0
no_params_begin w naming (Nested [] o d c ds) more may h one = rw h.1 refl
no_params_begin w naming (Nested (s ∷ ts) o d c ds) more may h one = star_no_params (sort (w s)) h.0.0
no_params_begin w naming _ more may h one = rw h.2.0 refl
