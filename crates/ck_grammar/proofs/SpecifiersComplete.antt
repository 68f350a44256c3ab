-- Specifiers are read as they are written.
use Rattle.std.proofs.Common.{◌≡◌, ℕ, zero, suc, ◌≤◌, Bool, true, false, cond, not, ◌&&◌, ◌||◌, List, [], ◌∷◌, length}
use Rattle.std.proofs.Common.{Option, Some, None, refl, ap, ◌∙◌, arith}
use Rattle.std.specs.Prelude.{codes}
use Rattle.std.proofs.lemmas.Bool.{false≢true}
use Rattle.ck_base.specs.declared.tokens.Token.{Token}
use Rattle.ck_grammar.proofs.Lengths.{longer_members, longer_enumerators, longer_optional}
use Rattle.ck_grammar.proofs.TypeStops.{ends_specifiers, StopsSpecifiers, and_left}
use Rattle.ck_grammar.specs.Fitting.{FitsEach, FitsMembers, FitsEnumerators, IsTag, has_member, is_specifier_word}
use Rattle.ck_grammar.specs.Fitting.{is_tag_word}
use Rattle.ck_grammar.specs.Nesting.{specifiers_nesting, members_nesting, enumerators_nesting}
use Rattle.ck_grammar.specs.Readers.{Reader, onto, ◌>>◌}
use Rattle.ck_grammar.specs.ReadingTypes.{begins_with, is_curly, specifier_by, specifier_loop}
use Rattle.ck_grammar.specs.ReadingTypes.{specifiers as read_specifiers}
use Rattle.ck_grammar.specs.Specified.{is_type_word, Place, go_together, has_one_type, storage_fits, some_word}
use Rattle.ck_grammar.specs.Specified.{has_named, has_one_named, texts, combinations, is_combination}
use Rattle.ck_grammar.specs.Trees.{Specifiers, Members, Enumerators, NoSpecifiers, TypedefName, Tagged, Struct, Enum}
use Rattle.ck_grammar.specs.Words.{Word, Fixed, is_identifier, sort, Sort, Storage, Qualifier, Inline, TypeWord}
use Rattle.ck_grammar.specs.Words.{StructWord, EnumWord, Plain, TypeName, Star, RoundMark, SquareMark, CurlyMark}
use Rattle.ck_grammar.specs.Words.{CloseMark, Other}
use Rattle.ck_grammar.specs.Written.{specifiers, members, enumerators, optional}
use Rattle.ck_grammar.specs.Trees as trees

-- whether a type is before the end of these specifiers
abbrev sees : (Token → Word) → Bool → Specifiers → Bool
sees w seen NoSpecifiers = seen
sees w seen (trees.Word t rest) = sees w (seen || is_type_word (sort (w t))) rest
sees w seen (TypedefName t rest) = sees w true rest
sees w seen (Tagged k t rest) = sees w true rest
sees w seen (Struct k tag o m c rest) = sees w true rest
sees w seen (Enum k tag o m c rest) = sees w true rest

seen_stays : (w : Token → Word) (s : Specifiers) → sees w true s ≡ true
seen_stays w NoSpecifiers = refl
seen_stays w (trees.Word t rest) = seen_stays w rest
seen_stays w (TypedefName t rest) = seen_stays w rest
seen_stays w (Tagged k t rest) = seen_stays w rest
seen_stays w (Struct k tag o m c rest) = seen_stays w rest
seen_stays w (Enum k tag o m c rest) = seen_stays w rest

named_seen : (w : Token → Word) (seen : Bool) (s : Specifiers) → has_named s ≡ true → sees w seen s ≡ true
named_seen w seen NoSpecifiers h = absurd (false≢true h)
named_seen w seen (trees.Word t rest) h = named_seen w (seen || is_type_word (sort (w t))) rest h
named_seen w seen (TypedefName t rest) h = seen_stays w rest
named_seen w seen (Tagged k t rest) h = seen_stays w rest
named_seen w seen (Struct k tag o m c rest) h = seen_stays w rest
named_seen w seen (Enum k tag o m c rest) h = seen_stays w rest

or_true : (a : Bool) → (a || true) ≡ true
or_true true = refl
or_true false = refl

word_seen_by : (w : Token → Word) (seen b : Bool) (rest : Specifiers)
    → ((again : Bool) → some_word w is_type_word rest ≡ true → sees w again rest ≡ true)
    → (b || some_word w is_type_word rest) ≡ true → sees w (seen || b) rest ≡ true
word_seen_by w seen true rest later h = rw (or_true seen) (seen_stays w rest)
word_seen_by w seen false rest later h = later (seen || false) h

word_seen : (w : Token → Word) (seen : Bool) (s : Specifiers) → some_word w is_type_word s ≡ true → sees w seen s ≡ true
word_seen w seen NoSpecifiers h = absurd (false≢true h)
word_seen w seen (trees.Word t rest) h = word_seen_by w seen (is_type_word (sort (w t))) rest
    (λ again. word_seen w again rest) h
word_seen w seen (TypedefName t rest) h = seen_stays w rest
word_seen w seen (Tagged k t rest) h = seen_stays w rest
word_seen w seen (Struct k tag o m c rest) h = seen_stays w rest
word_seen w seen (Enum k tag o m c rest) h = seen_stays w rest

type_seen_by : (w : Token → Word) (s : Specifiers) (b : Bool) → has_named s ≡ b
    → cond b (has_one_named s && not (some_word w is_type_word s))
    (some_word w is_type_word s && is_combination combinations (texts w s)) ≡ true → sees w false s ≡ true
type_seen_by w s true named h = named_seen w false s named
type_seen_by w s false named h =
    word_seen w false s (and_left (some_word w is_type_word s) (is_combination combinations (texts w s)) h)

type_seen : (w : Token → Word) (place : Place) (s : Specifiers) → go_together w place s ≡ true
    → sees w false s ≡ true
type_seen w place s good =
    type_seen_by w s (has_named s) refl (and_left (has_one_type w s) (storage_fits w place s) good)

-- the readers read the bodies that nest so deep
abbrev pub ReadsMembers : (Token → Word) → ℕ → Reader Members → Type 0
ReadsMembers w n ms = (m : Members) (c : Token) (more : List Token) → FitsMembers w m → has_member m ≡ true
    → suc (members_nesting m) ≤ n → w c ≡ Fixed (codes "}") → ms (members m (c ∷ more)) ≡ Some (m, c ∷ more)

abbrev pub ReadsEnumerators : (Token → Word) → ℕ → Reader Enumerators → Type 0
ReadsEnumerators w n es = (m : Enumerators) (c : Token) (more : List Token) → FitsEnumerators w m
    → suc (enumerators_nesting m) ≤ n → w c ≡ Fixed (codes "}") → es (enumerators m (c ∷ more)) ≡ Some (m, c ∷ more)

abbrev pub ReadsSpecifiers : (Token → Word) → ℕ → Place → Reader Specifiers → Type 0
ReadsSpecifiers w n place r = (s : Specifiers) (more : List Token) → FitsEach w false s
    → go_together w place s ≡ true → specifiers_nesting s ≤ n → StopsSpecifiers w more
    → r (specifiers s more) ≡ Some (s, more)

ended : (w : Token → Word) (ms : Reader Members) (es : Reader Enumerators)
    (go : Bool → List Token → Specifiers × List Token) (x : Sort) (t : Token) (ts : List Token)
    → ends_specifiers x ≡ true → specifier_by w ms es go true x t ts ≡ (NoSpecifiers, t ∷ ts)
ended w ms es go Plain t ts h = refl
ended w ms es go TypeName t ts h = refl
ended w ms es go Star t ts h = refl
ended w ms es go RoundMark t ts h = refl
ended w ms es go SquareMark t ts h = refl
ended w ms es go CloseMark t ts h = refl
ended w ms es go Other t ts h = refl
ended w ms es go _ t ts h = absurd (false≢true h)

no_more_specifiers : (w : Token → Word) (ms : Reader Members) (es : Reader Enumerators) (f : ℕ) (more : List Token)
    → StopsSpecifiers w more → specifier_loop w ms es f true more ≡ (NoSpecifiers, more)
no_more_specifiers w ms es zero more stop = refl
no_more_specifiers w ms es (suc f) [] stop = refl
no_more_specifiers w ms es (suc f) (t ∷ ts) stop = ended w ms es (specifier_loop w ms es f) (sort (w t)) t ts stop

word_by : (w : Token → Word) (ms : Reader Members) (es : Reader Enumerators)
    (go : Bool → List Token → Specifiers × List Token) (seen : Bool) (x : Sort) (t : Token) (ts : List Token)
    → is_specifier_word x ≡ true → specifier_by w ms es go seen x t ts ≡ onto (trees.Word t)
    (go (seen || is_type_word x) ts)
word_by w ms es go seen Storage t ts h = refl
word_by w ms es go seen Qualifier t ts h = refl
word_by w ms es go seen Inline t ts h = refl
word_by w ms es go seen TypeWord t ts h = refl
word_by w ms es go seen _ t ts h = absurd (false≢true h)

tag_by : (w : Token → Word) (ms : Reader Members) (es : Reader Enumerators)
    (go : Bool → List Token → Specifiers × List Token) (seen : Bool) (x : Sort) (k t : Token) (ts : List Token)
    → is_tag_word x ≡ true → is_identifier (w t) ≡ true → begins_with w is_curly ts ≡ false
    → specifier_by w ms es go seen x k (t ∷ ts) ≡ onto (Tagged k t) (go true ts)
tag_by w ms es go seen StructWord k t ts h name shut = rw (name, shut) refl
tag_by w ms es go seen EnumWord k t ts h name shut = rw (name, shut) refl
tag_by w ms es go seen _ k t ts h name shut = absurd (false≢true h)

ended_no_curly : (x : Sort) → ends_specifiers x ≡ true → is_curly x ≡ false
ended_no_curly CurlyMark h = absurd (false≢true h)
ended_no_curly _ h = refl

word_no_curly : (x : Sort) → is_specifier_word x ≡ true → is_curly x ≡ false
word_no_curly CurlyMark h = absurd (false≢true h)
word_no_curly _ h = refl

tag_no_curly : (x : Sort) → is_tag_word x ≡ true → is_curly x ≡ false
tag_no_curly CurlyMark h = absurd (false≢true h)
tag_no_curly _ h = refl

no_body : (w : Token → Word) (seen : Bool) (s : Specifiers) (more : List Token) → FitsEach w seen s
    → StopsSpecifiers w more → begins_with w is_curly (specifiers s more) ≡ false
no_body w seen NoSpecifiers [] h stop = refl
no_body w seen NoSpecifiers (t ∷ ts) h stop = ended_no_curly (sort (w t)) stop
no_body w seen (trees.Word t rest) more h stop = word_no_curly (sort (w t)) h.0
no_body w seen (TypedefName t rest) more h stop = rw h.0 refl
no_body w seen (Tagged k t rest) more h stop = tag_no_curly (sort (w k)) h.0
no_body w seen (Struct k tag o m c rest) more h stop = rw h.0 refl
no_body w seen (Enum k tag o m c rest) more h stop = rw h.0 refl

typedef_by : (w : Token → Word) (ms : Reader Members) (es : Reader Enumerators)
    (go : Bool → List Token → Specifiers × List Token) (seen : Bool) (x : Sort) (t : Token) (ts : List Token)
    → x ≡ TypeName → seen ≡ false → specifier_by w ms es go seen x t ts ≡ onto (TypedefName t) (go true ts)
typedef_by w ms es go seen x t ts is unseen = rw (is, unseen) refl

struct_by : (w : Token → Word) (ms : Reader Members) (es : Reader Enumerators)
    (go : Bool → List Token → Specifiers × List Token) (seen : Bool) (x : Sort) (k o : Token) (tag : Option Token)
    (m : Members) (c : Token) (ts : List Token)
    → x ≡ StructWord → IsTag w tag → w o ≡ Fixed (codes "{") → ms (members m (c ∷ ts)) ≡ Some (m, c ∷ ts)
    → w c ≡ Fixed (codes "}")
    → specifier_by w ms es go seen x k (optional tag (o ∷ members m (c ∷ ts))) ≡ onto (Struct k tag o m c) (go true ts)
struct_by w ms es go seen x k o None m c ts is named open_ read close = rw (is, open_, read, close) refl
struct_by w ms es go seen x k o (Some t) m c ts is named open_ read close = rw (is, named, open_, read, close) refl

enum_by : (w : Token → Word) (ms : Reader Members) (es : Reader Enumerators)
    (go : Bool → List Token → Specifiers × List Token) (seen : Bool) (x : Sort) (k o : Token) (tag : Option Token)
    (m : Enumerators) (c : Token) (ts : List Token)
    → x ≡ EnumWord → IsTag w tag → w o ≡ Fixed (codes "{") → es (enumerators m (c ∷ ts)) ≡ Some (m, c ∷ ts)
    → w c ≡ Fixed (codes "}")
    → specifier_by w ms es go seen x k (optional tag (o ∷ enumerators m (c ∷ ts))) ≡ onto (Enum k tag o m c)
    (go true ts)
enum_by w ms es go seen x k o None m c ts is named open_ read close = rw (is, open_, read, close) refl
enum_by w ms es go seen x k o (Some t) m c ts is named open_ read close = rw (is, named, open_, read, close) refl

-- a struct or an enum has at least a token
longer_struct : (k : Token) (tag : Option Token) (o : Token) (m : Members) (c : Token) (rest : Specifiers)
    (more : List Token) → suc (length (specifiers rest more)) ≤ length (specifiers (Struct k tag o m c rest) more)
longer_struct k tag o m c rest more = omega (
  arith,
  longer_optional tag (o ∷ members m (c ∷ specifiers rest more)),
  longer_members m (c ∷ specifiers rest more),
)

longer_enum : (k : Token) (tag : Option Token) (o : Token) (m : Enumerators) (c : Token) (rest : Specifiers)
    (more : List Token) → suc (length (specifiers rest more)) ≤ length (specifiers (Enum k tag o m c rest) more)
longer_enum k tag o m c rest more = omega (
  arith,
  longer_optional tag (o ∷ enumerators m (c ∷ specifiers rest more)),
  longer_enumerators m (c ∷ specifiers rest more),
)

loop_read : (w : Token → Word) (ms : Reader Members) (es : Reader Enumerators) (n : ℕ) (seen : Bool) (s : Specifiers)
    (more : List Token) (f : ℕ)
    → ReadsMembers w n ms → ReadsEnumerators w n es → FitsEach w seen s → sees w seen s ≡ true
    → specifiers_nesting s ≤ n → StopsSpecifiers w more → length (specifiers s more) ≤ f
    → specifier_loop w ms es f seen (specifiers s more) ≡ (s, more)
loop_read w ms es n seen NoSpecifiers more f reads_m reads_e h sees_it nests stop fuel =
    ap (λ b. specifier_loop w ms es f b more) sees_it ∙ no_more_specifiers w ms es f more stop
loop_read w ms es n seen (trees.Word t rest) more (suc f) reads_m reads_e h sees_it nests stop fuel =
    word_by w ms es (specifier_loop w ms es f) seen (sort (w t)) t (specifiers rest more) h.0
    ∙ ap (onto (trees.Word t))
    (loop_read w ms es n (seen || is_type_word (sort (w t))) rest more f reads_m reads_e h.1 sees_it nests stop
    (omega (arith, fuel)))
loop_read w ms es n seen (TypedefName t rest) more (suc f) reads_m reads_e h sees_it nests stop fuel =
    typedef_by w ms es (specifier_loop w ms es f) seen (sort (w t)) t (specifiers rest more) (rw h.0 refl) h.1
    ∙ ap (onto (TypedefName t))
    (loop_read w ms es n true rest more f reads_m reads_e h.2 sees_it nests stop (omega (arith, fuel)))
loop_read w ms es n seen (Tagged k t rest) more (suc f) reads_m reads_e h sees_it nests stop fuel =
    tag_by w ms es (specifier_loop w ms es f) seen (sort (w k)) k t (specifiers rest more) h.0 h.1
    (no_body w true rest more h.2 stop)
    ∙ ap (onto (Tagged k t))
    (loop_read w ms es n true rest more f reads_m reads_e h.2 sees_it nests stop (omega (arith, fuel)))
loop_read w ms es n seen (Struct k tag o m c rest) more (suc f) reads_m reads_e h sees_it nests stop fuel =
    struct_by w ms es (specifier_loop w ms es f) seen (sort (w k)) k o tag m c (specifiers rest more) h.0 h.1 h.2
    (reads_m m c (specifiers rest more) h.3.0 h.3.1 (omega (arith, nests)) h.4) h.4
    ∙ ap (onto (Struct k tag o m c))
    (loop_read w ms es n true rest more f reads_m reads_e h.5 sees_it (omega (arith, nests)) stop
    (omega (arith, fuel, longer_struct k tag o m c rest more)))
loop_read w ms es n seen (Enum k tag o m c rest) more (suc f) reads_m reads_e h sees_it nests stop fuel =
    enum_by w ms es (specifier_loop w ms es f) seen (sort (w k)) k o tag m c (specifiers rest more) h.0 h.1 h.2
    (reads_e m c (specifiers rest more) h.3 (omega (arith, nests)) h.4) h.4
    ∙ ap (onto (Enum k tag o m c))
    (loop_read w ms es n true rest more f reads_m reads_e h.5 sees_it (omega (arith, nests)) stop
    (omega (arith, fuel, longer_enum k tag o m c rest more)))
loop_read w ms es n seen _ more _ reads_m reads_e h sees_it nests stop fuel = absurd (omega (arith, fuel))

pub specifiers_read : (w : Token → Word) (ms : Reader Members) (es : Reader Enumerators) (n : ℕ) (place : Place)
    → ReadsMembers w n ms → ReadsEnumerators w n es → ReadsSpecifiers w n place (read_specifiers w ms es place)
specifiers_read w ms es n place reads_m reads_e s more h good nests stop =
    ap (λ x. go_together w place x.0 >> Some x)
    (loop_read w ms es n false s more (length (specifiers s more)) reads_m reads_e h
    (type_seen w place s good) nests stop (omega arith))
    ∙ rw good refl

-- no specifiers stand at a body's closing mark
pub none_at_curly : (w : Token → Word) (ms : Reader Members) (es : Reader Enumerators) (place : Place) (c : Token)
    (more : List Token) → w c ≡ Fixed (codes "}") → read_specifiers w ms es place (c ∷ more) ≡ None
none_at_curly w ms es place c more h = rw h refl
