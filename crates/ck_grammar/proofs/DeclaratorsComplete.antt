-- Declarators are read as they are written.
use Rattle.std.proofs.Common.{◌≡◌, ℕ, zero, suc, ◌≤◌, Bool, true, false, cond, ◌&&◌, List, [], ◌∷◌, ◌++◌, length, Some}
use Rattle.std.proofs.Common.{None, refl, sym, ap, ◌∙◌, arith}
use Rattle.std.specs.Prelude.{codes}
use Rattle.std.proofs.lemmas.Bool.{false≢true}
use Rattle.ck_base.specs.declared.tokens.Token.{Token}
use Rattle.ck_grammar.proofs.Heads.{begins}
use Rattle.ck_grammar.proofs.Lengths.{longer, longer_params}
use Rattle.ck_grammar.proofs.Stops.{ReadsAt, at_square}
use Rattle.ck_grammar.proofs.TypeStops.{ends, StopsDeclarator, params_begin, no_params_begin}
use Rattle.ck_grammar.specs.Fitting.{FitsDeclarator, FitsDims, FitsParams, Naming, NewName, MemberName, MaybeName}
use Rattle.ck_grammar.specs.Fitting.{NoName, may_be_abstract, may_name, is_written, IsPointer, ArePointerParts, is_star}
use Rattle.ck_grammar.specs.Fitting.{is_pointer_part}
use Rattle.ck_grammar.specs.Nesting.{declarator_nesting, abstract_nesting, dims_nesting, params_nesting}
use Rattle.ck_grammar.specs.Readers.{Reader, onto}
use Rattle.ck_grammar.specs.ReadingExpressions.{begins_operand}
use Rattle.ck_grammar.specs.ReadingTypes.{begins_params, dim_by, dim_loop, pointer_parts, pointer, with_dims, abstract}
use Rattle.ck_grammar.specs.ReadingTypes.{nested, middle_by, middle, declarator as read_declarator}
use Rattle.ck_grammar.specs.Trees.{Expr, Declarator, Dims, Params, Abstract, Named, Nested, NoDims, Open, Sized}
use Rattle.ck_grammar.specs.Trees.{Function}
use Rattle.ck_grammar.specs.Words.{Word, Ordinary, Typedef, Number, String, Fixed, sort, Sort, Qualifier, Star}
use Rattle.ck_grammar.specs.Words.{RoundMark, SquareMark}
use Rattle.ck_grammar.specs.Written.{written, declarator, dims, params}

-- the reader reads parameters that nest so deep, before a closing mark
abbrev pub ReadsParams : (Token → Word) → ℕ → Reader Params → Type 0
ReadsParams w n ps = (p : Params) (c : Token) (more : List Token) → FitsParams w p → params_nesting p ≤ n
    → w c ≡ Fixed (codes ")") → ps (params p (c ∷ more)) ≡ Some (p, c ∷ more)

-- the reader reads declarators that nest so deep, before what ends them
abbrev pub ReadsDeclarators : (Token → Word) → ℕ → Naming → Reader Declarator → Type 0
ReadsDeclarators w n naming r = (d : Declarator) (more : List Token) → FitsDeclarator w naming d
    → declarator_nesting d ≤ n → StopsDeclarator w more → r (declarator d more) ≡ Some (d, more)

-- no star and no qualifier comes first
abbrev StopsPointer : (Token → Word) → List Token → Type 0
StopsPointer w [] = Unit {0}
StopsPointer w (t ∷ ts) = is_pointer_part (sort (w t)) ≡ false

no_star : (x : Sort) → is_pointer_part x ≡ false → is_star x ≡ false
no_star Star h = absurd (false≢true (sym h))
no_star _ h = refl

star_is_part : (x : Sort) → is_star x ≡ true → is_pointer_part x ≡ true
star_is_part Star h = refl
star_is_part Qualifier h = refl
star_is_part _ h = h

parts_read : (w : Token → Word) (ts more : List Token) → ArePointerParts w ts → StopsPointer w more
    → pointer_parts w (ts ++ more) ≡ (ts, more)
parts_read w [] [] h stop = refl
parts_read w [] (t ∷ more) h stop = rw stop refl
parts_read w (t ∷ ts) more h stop = rw (h.0, parts_read w ts more h.1 stop) refl

pointer_read : (w : Token → Word) (ts more : List Token) → IsPointer w ts → StopsPointer w more
    → pointer w (ts ++ more) ≡ (ts, more)
pointer_read w [] [] h stop = refl
pointer_read w [] (t ∷ more) h stop = rw (no_star (sort (w t)) stop) refl
pointer_read w (t ∷ ts) more h stop = rw (h.0, star_is_part (sort (w t)) h.0, parts_read w ts more h.1 stop) refl

ended_no_part : (x : Sort) → ends x ≡ true → is_pointer_part x ≡ false
ended_no_part Star h = absurd (false≢true h)
ended_no_part Qualifier h = absurd (false≢true h)
ended_no_part _ h = refl

ended_no_dim : (w : Token → Word) (p : Reader Expr) (ps : Reader Params) (go : List Token → Dims × List Token)
    (x : Sort) (t : Token) (ts : List Token) → ends x ≡ true → dim_by w p ps go x t ts ≡ (NoDims, t ∷ ts)
ended_no_dim w p ps go RoundMark t ts h = absurd (false≢true h)
ended_no_dim w p ps go SquareMark t ts h = absurd (false≢true h)
ended_no_dim w p ps go _ t ts h = refl

no_dims_read : (w : Token → Word) (p : Reader Expr) (ps : Reader Params) (f : ℕ) (more : List Token)
    → StopsDeclarator w more → dim_loop w p ps f more ≡ (NoDims, more)
no_dims_read w p ps zero more stop = refl
no_dims_read w p ps (suc f) [] stop = refl
no_dims_read w p ps (suc f) (t ∷ ts) stop = ended_no_dim w p ps (dim_loop w p ps f) (sort (w t)) t ts stop

dims_read : (w : Token → Word) (p : Reader Expr) (ps : Reader Params) (n : ℕ) (ds : Dims) (more : List Token) (f : ℕ)
    → ReadsAt w n 11 p → ReadsParams w n ps → FitsDims w ds → dims_nesting ds ≤ n → StopsDeclarator w more
    → length (dims ds more) ≤ f
    → dim_loop w p ps f (dims ds more) ≡ (ds, more)
dims_read w p ps n NoDims more f reads params_are h nests stop fuel = no_dims_read w p ps f more stop
dims_read w p ps n (Open o c rest) more zero reads params_are h nests stop fuel = absurd (omega (arith, fuel))
dims_read w p ps n (Open o c rest) more (suc f) reads params_are h nests stop fuel =
    let again : dim_loop w p ps f (dims rest more) ≡ (rest, more) =
    dims_read w p ps n rest more f reads params_are h.2 nests stop (omega (arith, fuel)) in
    rw (h.0, h.1, again) refl
dims_read w p ps n (Sized o e c rest) more zero reads params_are h nests stop fuel = absurd (omega (arith, fuel))
dims_read w p ps n (Sized o e c rest) more (suc f) reads params_are h nests stop fuel =
    let head : begins_operand w (written e (c ∷ dims rest more)) ≡ true = begins w e (c ∷ dims rest more) h.1.0 in
    let read : p (written e (c ∷ dims rest more)) ≡ Some (e, c ∷ dims rest more) =
    reads e (c ∷ dims rest more) h.1.0 (omega (arith, nests)) h.1.1
    (at_square w c (dims rest more) 11 (omega arith) h.2) in
    let again : dim_loop w p ps f (dims rest more) ≡ (rest, more) = dims_read w p ps n rest more f reads params_are h.3
    (omega (arith, nests)) stop (omega (arith, fuel, longer e (c ∷ dims rest more))) in
    rw (h.0, head, read, h.2, again) refl
dims_read w p ps n (Function o x c rest) more zero reads params_are h nests stop fuel = absurd (omega (arith, fuel))
dims_read w p ps n (Function o x c rest) more (suc f) reads params_are h nests stop fuel =
    let read : ps (params x (c ∷ dims rest more)) ≡ Some (x, c ∷ dims rest more) =
    params_are x c (dims rest more) h.1 (omega (arith, nests)) h.2 in
    let again : dim_loop w p ps f (dims rest more) ≡ (rest, more) = dims_read w p ps n rest more f reads params_are h.3
    (omega (arith, nests)) stop (omega (arith, fuel, longer_params x (c ∷ dims rest more))) in
    rw (h.0, read, h.2, again) refl

fixed_no_name : (naming : Naming) (text : List ℕ) → may_name naming (Fixed text) ≡ false
fixed_no_name NewName text = refl
fixed_no_name _ text = refl

ended_no_name : (naming : Naming) (word : Word) → ends (sort word) ≡ true → may_name naming word ≡ false
ended_no_name naming Ordinary h = absurd (false≢true h)
ended_no_name naming Typedef h = absurd (false≢true h)
ended_no_name NewName Number h = refl
ended_no_name MemberName Number h = refl
ended_no_name MaybeName Number h = refl
ended_no_name NoName Number h = refl
ended_no_name NewName String h = refl
ended_no_name MemberName String h = refl
ended_no_name MaybeName String h = refl
ended_no_name NoName String h = refl
ended_no_name naming (Fixed text) h = fixed_no_name naming text

abbrev is_round : Sort → Bool
is_round RoundMark = true
is_round _ = false

middle_other : (w : Token → Word) (p : Reader Expr) (ps : Reader Params) (inner : Reader Declarator) (naming : Naming)
    (stars : List Token) (x : Sort) (t : Token) (ts : List Token)
    → is_round x ≡ false → middle_by w p ps inner naming stars x t ts ≡ cond (may_name naming (w t))
    (Some (with_dims w p ps (Named stars t) ts)) (abstract w p ps naming stars (t ∷ ts))
middle_other w p ps inner naming stars RoundMark t ts h = absurd (false≢true (sym h))
middle_other w p ps inner naming stars _ t ts h = refl

ended_no_round : (x : Sort) → ends x ≡ true → is_round x ≡ false
ended_no_round RoundMark h = absurd (false≢true h)
ended_no_round _ h = refl

name_no_round : (naming : Naming) (word : Word) → may_name naming word ≡ true → is_round (sort word) ≡ false
name_no_round naming (Fixed text) h = absurd (false≢true (sym (fixed_no_name naming text) ∙ h))
name_no_round naming _ h = refl

name_no_part : (naming : Naming) (word : Word) → may_name naming word ≡ true → is_pointer_part (sort word) ≡ false
name_no_part naming (Fixed text) h = absurd (false≢true (sym (fixed_no_name naming text) ∙ h))
name_no_part naming _ h = refl

abstracted : (w : Token → Word) (p : Reader Expr) (ps : Reader Params) (naming : Naming) (stars ts : List Token)
    → may_be_abstract naming ≡ true → abstract w p ps naming stars ts ≡ Some (with_dims w p ps (Abstract stars) ts)
abstracted w p ps naming stars ts may = rw may refl

unnamed : (w : Token → Word) (p : Reader Expr) (ps : Reader Params) (naming : Naming) (stars : List Token) (t : Token)
    (ts : List Token)
    → may_name naming (w t) ≡ false → may_be_abstract naming ≡ true
    → cond (may_name naming (w t)) (Some (with_dims w p ps (Named stars t) ts))
    (abstract w p ps naming stars (t ∷ ts)) ≡ Some (with_dims w p ps (Abstract stars) (t ∷ ts))
unnamed w p ps naming stars t ts shut may =
    ap (λ b. cond b (Some (with_dims w p ps (Named stars t) ts)) (abstract w p ps naming stars (t ∷ ts))) shut
    ∙ abstracted w p ps naming stars (t ∷ ts) may

by_sort : (w : Token → Word) (p : Reader Expr) (ps : Reader Params) (inner : Reader Declarator) (naming : Naming)
    (stars : List Token) (x : Sort) (t : Token) (ts : List Token)
    → x ≡ RoundMark → (may_be_abstract naming && begins_params w ts) ≡ true
    → middle_by w p ps inner naming stars x t ts ≡ abstract w p ps naming stars (t ∷ ts)
by_sort w p ps inner naming stars x t ts is begun = ap (λ y. middle_by w p ps inner naming stars y t ts) is
    ∙ ap (λ b. cond b (abstract w p ps naming stars (t ∷ ts)) (nested w p ps inner stars t ts)) begun

round_middle : (w : Token → Word) (p : Reader Expr) (ps : Reader Params) (inner : Reader Declarator) (naming : Naming)
    (stars : List Token) (t : Token) (ts : List Token)
    → sort (w t) ≡ RoundMark → (may_be_abstract naming && begins_params w ts) ≡ true
    → middle w p ps inner naming stars (t ∷ ts) ≡ abstract w p ps naming stars (t ∷ ts)
round_middle w p ps inner naming stars t ts is begun = by_sort w p ps inner naming stars (sort (w t)) t ts is begun

-- a middle that isn't there
abstract_middle : (w : Token → Word) (p : Reader Expr) (ps : Reader Params) (inner : Reader Declarator) (n : ℕ)
    (naming : Naming) (stars : List Token) (ds : Dims) (more : List Token)
    → ReadsAt w n 11 p → ReadsParams w n ps → may_be_abstract naming ≡ true → FitsDims w ds → dims_nesting ds ≤ n
    → StopsDeclarator w more
    → middle w p ps inner naming stars (dims ds more) ≡ Some (Abstract stars ds, more)
abstract_middle w p ps inner n naming stars NoDims [] reads params_are may h nests stop = rw may refl
abstract_middle w p ps inner n naming stars NoDims (t ∷ ts) reads params_are may h nests stop =
    middle_other w p ps inner naming stars (sort (w t)) t ts (ended_no_round (sort (w t)) stop)
    ∙ rw (ended_no_name naming (w t) stop, may)
    (ap (λ x. Some (onto (Abstract stars) x)) (no_dims_read w p ps (length (t ∷ ts)) (t ∷ ts) stop))
abstract_middle w p ps inner n naming stars (Open o c rest) more reads params_are may h nests stop =
    middle_other w p ps inner naming stars (sort (w o)) o (c ∷ dims rest more) (rw h.0 refl)
    ∙ unnamed w p ps naming stars o (c ∷ dims rest more) (rw h.0 (fixed_no_name naming (codes "["))) may
    ∙ ap (λ x. Some (onto (Abstract stars) x))
    (dims_read w p ps n (Open o c rest) more (length (dims (Open o c rest) more)) reads params_are h nests stop
    (omega arith))
abstract_middle w p ps inner n naming stars (Sized o e c rest) more reads params_are may h nests stop =
    middle_other w p ps inner naming stars (sort (w o)) o (written e (c ∷ dims rest more)) (rw h.0 refl)
    ∙ unnamed w p ps naming stars o (written e (c ∷ dims rest more)) (rw h.0 (fixed_no_name naming (codes "["))) may
    ∙ ap (λ x. Some (onto (Abstract stars) x))
    (dims_read w p ps n (Sized o e c rest) more (length (dims (Sized o e c rest) more)) reads params_are h nests
    stop (omega arith))
abstract_middle w p ps inner n naming stars (Function o x c rest) more reads params_are may h nests stop =
    let begun : begins_params w (params x (c ∷ dims rest more)) ≡ true = params_begin w x c (dims rest more) h.1 h.2 in
    let all : dim_loop w p ps (length (dims (Function o x c rest) more))
    (dims (Function o x c rest) more) ≡ (Function o x c rest, more) =
    dims_read w p ps n (Function o x c rest) more (length (dims (Function o x c rest) more)) reads params_are h
    nests stop (omega arith) in
    round_middle w p ps inner naming stars o (params x (c ∷ dims rest more)) (rw h.0 refl) (rw (may, begun) refl)
    ∙ abstracted w p ps naming stars (o ∷ params x (c ∷ dims rest more)) may
    ∙ ap (λ y. Some (onto (Abstract stars) y)) all

dims_stop_pointer : (w : Token → Word) (ds : Dims) (more : List Token) → FitsDims w ds → StopsDeclarator w more
    → StopsPointer w (dims ds more)
dims_stop_pointer w NoDims [] h stop = tt
dims_stop_pointer w NoDims (t ∷ ts) h stop = ended_no_part (sort (w t)) stop
dims_stop_pointer w (Open o c rest) more h stop = rw h.0 refl
dims_stop_pointer w (Sized o e c rest) more h stop = rw h.0 refl
dims_stop_pointer w (Function o p c rest) more h stop = rw h.0 refl

dims_below : (stars : List Token) (ds : Dims) (n : ℕ) → abstract_nesting stars ds (dims_nesting ds) ≤ suc n
    → dims_nesting ds ≤ n
dims_below [] NoDims n h = omega arith
dims_below [] (Open o c rest) n h = omega (arith, h)
dims_below [] (Sized o e c rest) n h = omega (arith, h)
dims_below [] (Function o p c rest) n h = omega (arith, h)
dims_below (t ∷ ts) ds n h = omega (arith, h)

-- no parameters stand where a declarator in parentheses does
not_params : (w : Token → Word) (naming : Naming) (b : Bool) (d : Declarator) (more : List Token)
    → may_be_abstract naming ≡ b → FitsDeclarator w naming d → is_written d ≡ true
    → (b && begins_params w (declarator d more)) ≡ false
not_params w naming true d more may h one = no_params_begin w naming d more may h one
not_params w naming false d more may h one = refl

pub declarator_read : (w : Token → Word) (p : Reader Expr) (ps : Reader Params) (inner : Reader Declarator) (n : ℕ)
    (naming : Naming)
    → ReadsAt w n 11 p → ReadsParams w n ps → ReadsDeclarators w n naming inner
    → ReadsDeclarators w (suc n) naming (read_declarator w p ps inner naming)
declarator_read w p ps inner n naming reads params_are inside (Abstract stars ds) more h nests stop =
    let first : pointer w (stars ++ dims ds more) ≡ (stars, dims ds more) =
    pointer_read w stars (dims ds more) h.1 (dims_stop_pointer w ds more h.2 stop) in
    rw first (abstract_middle w p ps inner n naming stars ds more reads params_are h.0 h.2
    (dims_below stars ds n nests) stop)
declarator_read w p ps inner n naming reads params_are inside (Named stars t ds) more h nests stop =
    let first : pointer w (stars ++ (t ∷ dims ds more)) ≡ (stars, t ∷ dims ds more) =
    pointer_read w stars (t ∷ dims ds more) h.0 (name_no_part naming (w t) h.1) in
    let all : dim_loop w p ps (length (dims ds more)) (dims ds more) ≡ (ds, more) =
    dims_read w p ps n ds more (length (dims ds more)) reads params_are h.2 (omega (arith, nests)) stop
    (omega arith) in
    rw first (middle_other w p ps inner naming stars (sort (w t)) t (dims ds more) (name_no_round naming (w t) h.1)
    ∙ rw (h.1, all) refl)
declarator_read w p ps inner n naming reads params_are inside (Nested stars o d c ds) more h nests stop =
    let first : pointer w
    (stars ++ (o ∷ declarator d (c ∷ dims ds more))) ≡ (stars, o ∷ declarator d (c ∷ dims ds more)) =
    pointer_read w stars (o ∷ declarator d (c ∷ dims ds more)) h.0 (rw h.1 refl) in
    let shut : (may_be_abstract naming && begins_params w (declarator d (c ∷ dims ds more))) ≡ false =
    not_params w naming (may_be_abstract naming) d (c ∷ dims ds more) refl h.2.0 h.2.1 in
    let read : inner (declarator d (c ∷ dims ds more)) ≡ Some (d, c ∷ dims ds more) =
    inside d (c ∷ dims ds more) h.2.0 (omega (arith, nests)) (rw h.3 refl) in
    let all : dim_loop w p ps (length (dims ds more)) (dims ds more) ≡ (ds, more) =
    dims_read w p ps n ds more (length (dims ds more)) reads params_are h.4 (omega (arith, nests)) stop
    (omega arith) in
    rw (first, h.1, shut, read, h.2.1, h.3, all) refl

-- nothing is written, where nothing may nest
pub nothing_read : (w : Token → Word) (naming : Naming) (read : Reader Declarator)
    → ((ts : List Token) → read ts ≡ cond (may_be_abstract naming) (Some (Abstract [] NoDims, ts)) None)
    → ReadsDeclarators w 0 naming read
nothing_read w naming read is (Abstract [] NoDims) more h nests stop = is more ∙ rw h.0 refl
nothing_read w naming read is _ more h nests stop = absurd (omega (arith, nests))
