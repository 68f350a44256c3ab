-- What an expression and a declaration begin with is no label: no name with a colon after it (C99 6.8.1).
use Rattle.std.proofs.Common.{◌≡◌, ℕ, Bool, true, false, List, ◌∷◌, refl}
use Rattle.std.specs.Prelude.{codes}
use Rattle.std.proofs.lemmas.Bool.{false≢true}
use Rattle.ck_base.specs.declared.tokens.Token.{Token}
use Rattle.ck_grammar.proofs.Texts.{other_word}
use Rattle.ck_grammar.specs.Fitting.{Fits, FitsOperands, FitsSuffixes, FitsEach, takes, is_tight, is_specifier_word}
use Rattle.ck_grammar.specs.Fitting.{is_tag_word}
use Rattle.ck_grammar.specs.Readers.{is_at}
use Rattle.ck_grammar.specs.ReadingStatements.{is_label}
use Rattle.ck_grammar.specs.Specified.{Place, go_together}
use Rattle.ck_grammar.specs.Trees.{Expr, Operands, Suffixes, Specifiers, Declarator, Name, Constant, Strings, Paren}
use Rattle.ck_grammar.specs.Trees.{Postfix, Unary, SizeofType, Cast, Chain, Conditional, Assignment, NoOperands}
use Rattle.ck_grammar.specs.Trees.{Operand, NoSuffixes, Index, CallEmpty, Call, MemberAccess, PostIncrement}
use Rattle.ck_grammar.specs.Trees.{NoSpecifiers, TypedefName, Tagged, Struct, Enum, Abstract, Named, Nested}
use Rattle.ck_grammar.specs.Words.{is_text, Word, Ordinary, Typedef, is_identifier, sort, Follow, Nothing, follow, lead}
use Rattle.ck_grammar.specs.Written.{written, operands, suffixes, specifiers}
use Rattle.ck_grammar.specs.Trees as trees

-- what binds to an expression before it
abbrev binds : Follow → Bool
binds Nothing = false
binds _ = true

no_colon : (word : Word) → binds (follow word) ≡ true → is_text (codes ":") word ≡ false
no_colon word h = other_word (λ x. binds (follow x)) word (codes ":") h refl

operands_no_colon : (w : Token → Word) (k : ℕ) (ops : Operands) (more : List Token) → FitsOperands w k ops
    → is_at w ":" more ≡ false → is_at w ":" (operands ops more) ≡ false
operands_no_colon w k NoOperands more h none = none
operands_no_colon w k (Operand op e rest) more h none = no_colon (w op) (rw h.0 refl)

suffixes_no_colon : (w : Token → Word) (s : Suffixes) (more : List Token) → FitsSuffixes w s
    → is_at w ":" more ≡ false → is_at w ":" (suffixes s more) ≡ false
suffixes_no_colon w NoSuffixes more h none = none
suffixes_no_colon w (MemberAccess t n rest) more h none = no_colon (w t) (rw h.0 refl)
suffixes_no_colon w (PostIncrement t rest) more h none = no_colon (w t) (rw h.0 refl)
suffixes_no_colon w _ more h none = rw h.0 refl

takes_no_name : (word : Word) (e : Expr) (f : Expr → Bool) → takes (lead word) e f ≡ true → is_identifier word ≡ false
takes_no_name Ordinary e f h = absurd (false≢true h)
takes_no_name Typedef e f h = absurd (false≢true h)
takes_no_name _ e f h = refl

-- an expression is no label where no colon is after it
pub expression_no_label : (w : Token → Word) (e : Expr) (more : List Token) → Fits w e
    → is_at w ":" more ≡ false → is_label w (written e more) ≡ false
expression_no_label w (Name t) more h none = rw h none
expression_no_label w (Constant t) more h none = rw h refl
expression_no_label w (Postfix e s) more h none = expression_no_label w e (suffixes s more) h.1
    (suffixes_no_colon w s more h.2 none)
expression_no_label w (Unary op e) more h none = rw (takes_no_name (w op) e (is_tight w) h.1) refl
expression_no_label w (Chain e ops) more h none = expression_no_label w e (operands ops more) h.1
    (operands_no_colon w _ ops more h.3 none)
expression_no_label w (Conditional e q a c b) more h none = expression_no_label w e _ h.0.0 (rw h.1 refl)
expression_no_label w (Assignment e op b) more h none = expression_no_label w e (op ∷ written b more) h.0.0
    (no_colon (w op) (rw h.1 refl))
expression_no_label w _ more h none = rw h.0 refl

-- keywords among specifiers are no names and no colons
word_no_name : (word : Word) → is_specifier_word (sort word) ≡ true → is_identifier word ≡ false
word_no_name Ordinary h = absurd (false≢true h)
word_no_name Typedef h = absurd (false≢true h)
word_no_name _ h = refl

tag_no_name : (word : Word) → is_tag_word (sort word) ≡ true → is_identifier word ≡ false
tag_no_name Ordinary h = absurd (false≢true h)
tag_no_name Typedef h = absurd (false≢true h)
tag_no_name _ h = refl

word_no_colon : (word : Word) → is_specifier_word (sort word) ≡ true → is_text (codes ":") word ≡ false
word_no_colon word h = other_word (λ x. is_specifier_word (sort x)) word (codes ":") h refl

tag_no_colon : (word : Word) → is_tag_word (sort word) ≡ true → is_text (codes ":") word ≡ false
tag_no_colon word h = other_word (λ x. is_tag_word (sort x)) word (codes ":") h refl

specifiers_no_colon : (w : Token → Word) (seen : Bool) (s : Specifiers) (more : List Token) → FitsEach w seen s
    → is_at w ":" more ≡ false → is_at w ":" (specifiers s more) ≡ false
specifiers_no_colon w seen NoSpecifiers more h none = none
specifiers_no_colon w seen (trees.Word t rest) more h none = word_no_colon (w t) h.0
specifiers_no_colon w seen (TypedefName t rest) more h none = rw h.0 refl
specifiers_no_colon w seen (Tagged k t rest) more h none = tag_no_colon (w k) h.0
specifiers_no_colon w seen (Struct k tag o m c rest) more h none = tag_no_colon (w k) (rw h.0 refl)
specifiers_no_colon w seen (Enum k tag o m c rest) more h none = tag_no_colon (w k) (rw h.0 refl)

-- specifiers are no label where no colon is after them
pub specifiers_no_label : (w : Token → Word) (place : Place) (s : Specifiers) (more : List Token) → FitsEach w false s
    → go_together w place s ≡ true → is_at w ":" more ≡ false → is_label w (specifiers s more) ≡ false
specifiers_no_label w place NoSpecifiers more h good none = absurd (false≢true good)
specifiers_no_label w place (trees.Word t rest) more h good none = rw (word_no_name (w t) h.0) refl
specifiers_no_label w place (TypedefName t rest) more h good none = rw h.0
    (specifiers_no_colon w true rest more h.2 none)
specifiers_no_label w place (Tagged k t rest) more h good none = rw (tag_no_name (w k) h.0) refl
specifiers_no_label w place (Struct k tag o m c rest) more h good none = rw (tag_no_name (w k) (rw h.0 refl)) refl
specifiers_no_label w place (Enum k tag o m c rest) more h good none = rw (tag_no_name (w k) (rw h.0 refl)) refl
