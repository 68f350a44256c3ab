-- What a statement's first token begins.
use Rattle.std.specs.Prelude.{Bool, true, false}
use Rattle.ck_grammar.specs.declared.classes.Phrase.{Phrase}
use Rattle.ck_grammar.specs.declared.classes.Phrase.TheVariants.{Name, Other}

abbrev pub is_name_phrase : Phrase → Bool
is_name_phrase Name = true
is_name_phrase _ = false

-- a statement that begins so is an expression statement, where it is no label
abbrev pub begins_expr : Phrase → Bool
begins_expr Name = true
begins_expr Other = true
begins_expr _ = false
