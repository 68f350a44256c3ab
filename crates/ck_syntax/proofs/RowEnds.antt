-- The first and the last token of rows, and of nodes of which maybe nothing is written.
use Rattle.std.proofs.Common.{◌≡◌, ℕ, suc, ◌-◌, ◌<◌, ◌≤◌, List, [], ◌∷◌, ◌++◌, length, take, drop, get_or, Option}
use Rattle.std.proofs.Common.{Some, None, refl, ap, sym, ◌∙◌, arith}
use Rattle.std.specs.Prelude.{unwrap_or}
use Rattle.std.specs.Option.{option_or}
use Rattle.std.proofs.Math.Seq.{take-suc, take_all, drop-cons}
use Rattle.ck_base.specs.declared.tokens.Token.{Token}
use Rattle.ck_grammar.proofs.Appended.{operands_appended, suffixes_appended, specifiers_appended, dims_appended}
use Rattle.ck_grammar.proofs.Appended.{more_params_appended}
use Rattle.ck_grammar.specs.Statements.{MoreDeclared}
use Rattle.ck_grammar.specs.StatementsWritten.{more_declared}
use Rattle.ck_grammar.specs.Trees as plain
use Rattle.ck_grammar.specs.Written.{operands, suffixes, specifiers, dims, more_params}
use Rattle.ck_syntax.specs.Ends.{first, last_after, or_else, IsFirst, IsLast}
use Rattle.ck_syntax.specs.ExpressionViews.{expr_tree, operand_before, suffix_before, specifier_before, dim_before}
use Rattle.ck_syntax.specs.ExpressionViews.{parameter_before}
use Rattle.ck_syntax.specs.DeclarationViews.{initialised_before}
use Rattle.ck_syntax.specs.Rows.{row_before}
use Rattle.ck_syntax.specs.declared.declarations.Initialiser.{Initialiser}
use Rattle.ck_syntax.specs.declared.declarators.Declarator.{Declarator}
use Rattle.ck_syntax.specs.declared.declarators.Dim.{Dim, Open, Sized', Function'}
use Rattle.ck_syntax.specs.declared.declarators.NextParameter.{NextParameter}
use Rattle.ck_syntax.specs.declared.expressions.Operand.{Operand}
use Rattle.ck_syntax.specs.declared.expressions.Suffix.{Suffix, Index', CallEmpty, Call', MemberAccess, PostIncrement}
use Rattle.ck_syntax.specs.declared.specifiers.EnumSpecifier.{EnumSpecifier'}
use Rattle.ck_syntax.specs.declared.specifiers.Specifier.{Specifier, Word, TypedefName, Tagged, Struct', Enum'}
use Rattle.ck_syntax.specs.declared.specifiers.StructSpecifier.{StructSpecifier'}
use Rattle.ck_syntax.proofs.EndLemmas.{last_after-append, last-through}
use Rattle.ck_syntax.proofs.GrowingRows.{row_before-push}

or_else-or_else : (a b c : Option Token) → or_else (or_else a b) c ≡ or_else a (or_else b c)
or_else-or_else None b c = refl
or_else-or_else (Some a) b c = refl

-- a node and another after it
pub first_then : (v w : List Token → List Token) (a b : Option Token)
    → IsFirst a v → IsFirst b w → IsFirst (or_else a b) (λ more. v (w more))
first_then v w a b one two = λ more. one (w more) ∙ ap (or_else a) (two more) ∙ sym (or_else-or_else a b (first more))

pub last_then : (v w : List Token → List Token) (a b : Option Token)
    → IsLast a v → IsLast b w → IsLast (or_else b a) (λ more. v (w more))
last_then v w a b one two = λ before more.
    one before (w more) ∙ two (or_else a before) more
    ∙ ap (λ t. last_after t more) (sym (or_else-or_else b a before))

-- what holds of a plain tree, said of a tree that stands for it
pub first_view : {X : Type 0} (write : X → List Token → List Token) (t : Option Token) {x y : X}
    → x ≡ y → IsFirst t (write y) → IsFirst t (write x)
first_view write t is one = λ more. ap (λ x. first (write x more)) is ∙ one more

pub last_view : {X : Type 0} (write : X → List Token → List Token) (t : Option Token) {x y : X}
    → x ≡ y → IsLast t (write y) → IsLast t (write x)
last_view write t is one = λ before more. ap (λ x. last_after before (write x more)) is ∙ one before more

-- the same as code takes the one token or the other
or-is : (a b : Option Token) → or_else a b ≡ option_or a b
or-is None b = refl
or-is (Some a) b = refl

unwrap-is : (a : Option Token) (d : Token) → or_else a (Some d) ≡ Some (unwrap_or a d)
unwrap-is None d = refl
unwrap-is (Some a) d = refl

pub first_or : (v w : List Token → List Token) (a b : Option Token) {r : Option Token} → r ≡ option_or a b
    → IsFirst a v → IsFirst b w → IsFirst r (λ more. v (w more))
first_or v w a b is one two = λ more.
    first_then v w a b one two more ∙ ap (λ t. or_else t (first more)) (or-is a b ∙ sym is)

pub first_unwrap : (v w : List Token → List Token) (a : Option Token) (d : Token) {r : Token} → r ≡ unwrap_or a d
    → IsFirst a v → IsFirst (Some d) w → IsFirst (Some r) (λ more. v (w more))
first_unwrap v w a d is one two = λ more.
    first_then v w a (Some d) one two more ∙ ap (λ t. or_else t (first more)) (unwrap-is a d ∙ ap Some (sym is))

pub last_or : (v w : List Token → List Token) (a b : Option Token) {r : Option Token} → r ≡ option_or b a
    → IsLast a v → IsLast b w → IsLast r (λ more. v (w more))
last_or v w a b is one two = λ before more.
    last_then v w a b one two before more ∙ ap (λ t. last_after (or_else t before) more) (or-is b a ∙ sym is)

pub last_unwrap : (v w : List Token → List Token) (b : Option Token) (d : Token) {r : Token} → r ≡ unwrap_or b d
    → IsLast (Some d) v → IsLast b w → IsLast (Some r) (λ more. v (w more))
last_unwrap v w b d is one two = λ before more.
    last_then v w (Some d) b one two before more
    ∙ ap (λ t. last_after (or_else t before) more) (unwrap-is b d ∙ ap Some (sym is))

-- a node with a last token after a node that is written before any tokens
pub last_behind : (v w : List Token → List Token) → ((us more : List Token) → v (us ++ more) ≡ (v us ++ more))
    → (t : Token) → IsLast (Some t) w → IsLast (Some t) (λ more. v (w more))
last_behind v w appends t two = λ before more.
    last-through v appends before (w more) ∙ two (last_after before (v [])) more

-- tokens as they stand
first-tokens : (ts : List Token) → IsFirst (first ts) (◌++◌ ts)
first-tokens [] = λ more. refl
first-tokens (t ∷ ts) = λ more. refl

pub first_of-tokens : (ts : List Token) {t : Option Token} → t ≡ first ts → IsFirst t (◌++◌ ts)
first_of-tokens ts is = λ more. first-tokens ts more ∙ ap (λ t. or_else t (first more)) (sym is)

or_else-last : (t : Token) (ts : List Token) (other : Option Token)
    → last_after (Some t) ts ≡ or_else (last_after (Some t) ts) other
or_else-last t [] other = refl
or_else-last t (u ∷ ts) other = or_else-last u ts other

last-tokens : (ts : List Token) → IsLast (last_after None ts) (◌++◌ ts)
last-tokens [] = λ before more. refl
last-tokens (t ∷ ts) = λ before more.
    last_after-append (Some t) ts more ∙ ap (λ u. last_after u more) (or_else-last t ts before)

pub last_of-tokens : (ts : List Token) {t : Option Token} → t ≡ last_after None ts → IsLast t (◌++◌ ts)
last_of-tokens ts is = λ before more.
    last-tokens ts before more ∙ ap (λ t. last_after (or_else t before) more) (sym is)

-- a list with an element ends with its last one, and begins with its first one
ends_at : {X : Type 0} (xs : List X) (d : X) → 1 ≤ length xs
    → xs ≡ take (length xs - 1) xs ++ get_or xs (length xs - 1) d ∷ []
ends_at xs d some =
    let n = length xs - 1 in
    let within : n < length xs = omega (arith, some) in
    let least : length xs ≤ suc n = omega (arith, some) in
    sym (take_all (suc n) xs least) ∙ take-suc xs n d within

ends_with : {X : Type 0} (xs : List X) (x : X) → 1 ≤ length xs → x ≡ get_or xs (length xs - 1) x
    → xs ≡ take (length xs - 1) xs ++ x ∷ []
ends_with xs x some is = ends_at xs x some ∙ ap (λ y. take (length xs - 1) xs ++ y ∷ []) (sym is)

pub begins_with : {X : Type 0} (xs : List X) (x : X) → 1 ≤ length xs → x ≡ get_or xs 0 x → xs ≡ x ∷ drop 1 xs
begins_with xs x some is = drop-cons xs 0 x some ∙ ap (λ y. y ∷ drop 1 xs) (sym is)

pub last-of : (ts : List Token) (d : Token) → 1 ≤ length ts → Some (get_or ts (length ts - 1) d) ≡ last_after None ts
last-of ts d some =
    let last = get_or ts (length ts - 1) d in
    sym (ap (last_after None) (ends_at ts d some) ∙ last_after-append None (take (length ts - 1) ts) (last ∷ []))

-- A row writes each of its elements as if it were alone, and rows are written before any tokens.
pub record WritesRow {X P : Type 0} (write : P → List Token → List Token) (before : X → P → P) (none : P) : Type 0 where
  pub nothing : (more : List Token) → write none more ≡ more
  pub alone : (x : X) (rest : P) (more : List Token)
      → write (before x rest) more ≡ write (before x none) (write rest more)
  pub appended : (p : P) (us more : List Token) → write p (us ++ more) ≡ (write p us ++ more)

-- a row before another
pub written_apart : {X P : Type 0} (write : P → List Token → List Token) (before : X → P → P) (none : P)
    → WritesRow write before none → (xs : List X) (rest : P) (more : List Token)
    → write (row_before before xs rest) more ≡ write (row_before before xs none) (write rest more)
written_apart write before none law [] rest more = sym (law.nothing (write rest more))
written_apart write before none law (x ∷ xs) rest more =
    law.alone x (row_before before xs rest) more
    ∙ ap (write (before x none)) (written_apart write before none law xs rest more)
    ∙ sym (law.alone x (row_before before xs none) (write rest more))

-- the first token of a row is that of its first element, the last token that of its last one
first-row-cons : {X P : Type 0} (write : P → List Token → List Token) (before : X → P → P) (none : P)
    → WritesRow write before none → (x : X) (xs : List X) (t : Token)
    → IsFirst (Some t) (write (before x none)) → IsFirst (Some t) (write (row_before before (x ∷ xs) none))
first-row-cons write before none law x xs t one = λ more.
    ap first (law.alone x (row_before before xs none) more) ∙ one (write (row_before before xs none) more)

last-row-push : {X P : Type 0} (write : P → List Token → List Token) (before : X → P → P) (none : P)
    → WritesRow write before none → (xs : List X) (x : X) (t : Token)
    → IsLast (Some t) (write (before x none)) → IsLast (Some t) (write (row_before before (xs ++ x ∷ []) none))
last-row-push write before none law xs x t one = λ start more.
    let row = row_before before xs none in
    ap (λ p. last_after start (write p more)) (row_before-push before xs x none)
    ∙ ap (last_after start) (written_apart write before none law xs (before x none) more)
    ∙ last-through (write row) (law.appended row) start (write (before x none) more)
    ∙ one (last_after start (write row [])) more

-- the same of elements as code reads them
pub first-row : {X P : Type 0} (write : P → List Token → List Token) (before : X → P → P) (none : P)
    → WritesRow write before none → (xs : List X) (x : X) (t : Token) → 1 ≤ length xs → x ≡ get_or xs 0 x
    → IsFirst (Some t) (write (before x none)) → IsFirst (Some t) (write (row_before before xs none))
first-row write before none law xs x t some is one = λ more.
    ap (λ l. first (write (row_before before l none) more)) (begins_with xs x some is)
    ∙ first-row-cons write before none law x (drop 1 xs) t one more

pub last-row : {X P : Type 0} (write : P → List Token → List Token) (before : X → P → P) (none : P)
    → WritesRow write before none → (xs : List X) (x : X) (t : Token) → 1 ≤ length xs
    → x ≡ get_or xs (length xs - 1) x
    → IsLast (Some t) (write (before x none)) → IsLast (Some t) (write (row_before before xs none))
last-row write before none law xs x t some is one = λ start more.
    ap (λ l. last_after start (write (row_before before l none) more)) (ends_with xs x some is)
    ∙ last-row-push write before none law (take (length xs - 1) xs) x t one start more

-- a row without an element
pub no-row : {X P : Type 0} (before : X → P → P) (none : P) (xs : List X) → length xs < 1
    → row_before before xs none ≡ none
no-row before none [] least = refl
no-row before none (x ∷ xs) least = absurd (omega (arith, least))

-- the rows of the trees
suffix-alone : {A : Type 0} (s : Suffix A) (rest : plain.Suffixes) (more : List Token)
    → suffixes (suffix_before s rest) more ≡ suffixes (suffix_before s plain.NoSuffixes) (suffixes rest more)
unfolding expr_tree
suffix-alone (Index' opening p index closing) rest more = refl
suffix-alone (CallEmpty opening closing) rest more = refl
suffix-alone (Call' opening p first q arguments closing) rest more = refl
suffix-alone (MemberAccess operator member) rest more = refl
suffix-alone (PostIncrement operator) rest more = refl

specifier-alone : {A : Type 0} (s : Specifier A) (rest : plain.Specifiers) (more : List Token)
    → specifiers (specifier_before s rest) more
    ≡ specifiers (specifier_before s plain.NoSpecifiers) (specifiers rest more)
unfolding expr_tree
specifier-alone (Word token) rest more = refl
specifier-alone (TypedefName token) rest more = refl
specifier-alone (Tagged keyword tag) rest more = refl
specifier-alone (Struct' p (StructSpecifier' keyword tag opening q members closing)) rest more = refl
specifier-alone (Enum' p (EnumSpecifier' keyword tag opening q earlier last comma closing)) rest more = refl

dim-alone : {A : Type 0} (d : Dim A) (rest : plain.Dims) (more : List Token)
    → dims (dim_before d rest) more ≡ dims (dim_before d plain.NoDims) (dims rest more)
unfolding expr_tree
dim-alone (Open opening closing) rest more = refl
dim-alone (Sized' opening p size closing) rest more = refl
dim-alone (Function' opening p parameters closing) rest more = refl

pub operand_rows : {A : Type 0} → WritesRow operands (operand_before {A = A}) plain.NoOperands
operand_rows = record {
  nothing = λ more. refl;
  alone = λ x rest more. refl;
  appended = operands_appended;
}

pub suffix_rows : {A : Type 0} → WritesRow suffixes (suffix_before {A = A}) plain.NoSuffixes
suffix_rows = record { nothing = λ more. refl; alone = suffix-alone; appended = suffixes_appended }

pub specifier_rows : {A : Type 0} → WritesRow specifiers (specifier_before {A = A}) plain.NoSpecifiers
specifier_rows = record { nothing = λ more. refl; alone = specifier-alone; appended = specifiers_appended }

pub dim_rows : {A : Type 0} → WritesRow dims (dim_before {A = A}) plain.NoDims
dim_rows = record { nothing = λ more. refl; alone = dim-alone; appended = dims_appended }

pub parameter_rows : {A : Type 0} → WritesRow more_params (parameter_before {A = A}) plain.NoMore
parameter_rows = record {
  nothing = λ more. refl;
  alone = λ x rest more. refl;
  appended = more_params_appended;
}

-- a further declarator of a declaration begins with its comma
pub first-declared : {A : Type 0} (comma : Token) (d : Declarator A) (i : Option (Initialiser A))
    (others : MoreDeclared) (more : List Token)
    → first (more_declared (initialised_before comma d i others) more) ≡ Some comma
first-declared comma d None others more = refl
first-declared comma d (Some i) others more = refl
