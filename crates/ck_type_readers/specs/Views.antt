-- The grammar's words for what the readers of types take and answer.
use Rattle.std.specs.Prelude.{Bool, true, false, Option}
use Rattle.ck_base.specs.declared.tokens.Token.{Token}
use Rattle.ck_grammar.specs.Fitting as fitting
use Rattle.ck_grammar.specs.Trees.{MoreParams}
use Rattle.ck_grammar.specs.declared.classes.Sort.{Sort}
use Rattle.ck_grammar.specs.declared.classes.Sort.TheVariants.{Plain, TypeName, RoundMark}
use Rattle.ck_readers.specs.Rows.{ellipsis_end}
use Rattle.ck_type_readers.specs.declared.namings.Naming.{Naming}
use Rattle.ck_type_readers.specs.declared.namings.Naming.TheVariants.{NewName, MemberName, MaybeName, NoName}

abbrev pub naming_word : Naming → fitting.Naming
naming_word NewName = fitting.NewName
naming_word MemberName = fitting.MemberName
naming_word MaybeName = fitting.MaybeName
naming_word NoName = fitting.NoName

-- a row with nothing after it
abbrev pub ended : {R B : Type 0} → (R → B → B) → B → R → B
ended row none r = row r none

-- further parameters, and what may end them
abbrev pub more_ended : {R : Type 0} → (R → MoreParams → MoreParams) → R × Option (Token × Token) → MoreParams
more_ended row both = row both.0 (ellipsis_end both.1)

abbrev pub is_plain : Sort → Bool
is_plain Plain = true
is_plain _ = false

abbrev pub is_plain_or_type : Sort → Bool
is_plain_or_type Plain = true
is_plain_or_type TypeName = true
is_plain_or_type _ = false

-- a token that is this to a declaration may be the name of a declarator
abbrev pub takes_sort : fitting.Naming → Sort → Bool
takes_sort fitting.NewName s = is_plain s
takes_sort fitting.MemberName s = is_plain_or_type s
takes_sort fitting.MaybeName s = is_plain s
takes_sort fitting.NoName s = false

abbrev pub is_round_mark : Sort → Bool
is_round_mark RoundMark = true
is_round_mark _ = false
