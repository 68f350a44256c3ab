-- What a token begins at the start of a statement (C99 6.8). What begins an operand or specifiers begins no other
-- statement than an expression or a declaration.
use Rattle.std.specs.Prelude.{ℕ, ◌||◌, List, if◌then◌else◌}
use Rattle.ck_grammar.specs.Words.{Word, Ordinary, Typedef, Fixed, sort_by, begins_specifiers, lead_by, begins_lead}
use Rattle.ck_grammar.specs.Words.{◌∈words◌}
pub use Rattle.ck_grammar.specs.declared.classes.Phrase.{Phrase}
pub use Rattle.ck_grammar.specs.declared.classes.Phrase.TheVariants.{Name as NamePhrase, Block as BlockPhrase}
pub use Rattle.ck_grammar.specs.declared.classes.Phrase.TheVariants.{Close as ClosePhrase}
pub use Rattle.ck_grammar.specs.declared.classes.Phrase.TheVariants.{Empty as EmptyPhrase, If as IfPhrase}
pub use Rattle.ck_grammar.specs.declared.classes.Phrase.TheVariants.{Else as ElsePhrase}
pub use Rattle.ck_grammar.specs.declared.classes.Phrase.TheVariants.{Switch as SwitchPhrase, While as WhilePhrase}
pub use Rattle.ck_grammar.specs.declared.classes.Phrase.TheVariants.{Do as DoPhrase}
pub use Rattle.ck_grammar.specs.declared.classes.Phrase.TheVariants.{For as ForPhrase, Case as CasePhrase}
pub use Rattle.ck_grammar.specs.declared.classes.Phrase.TheVariants.{Default as DefaultPhrase}
pub use Rattle.ck_grammar.specs.declared.classes.Phrase.TheVariants.{Goto as GotoPhrase, Jump as JumpPhrase}
pub use Rattle.ck_grammar.specs.declared.classes.Phrase.TheVariants.{Return as ReturnPhrase}
pub use Rattle.ck_grammar.specs.declared.classes.Phrase.TheVariants.{Other as OtherPhrase}

abbrev pub phrase_by : List ℕ → Phrase
phrase_by text =
    if begins_lead (lead_by text) || begins_specifiers (sort_by text) then OtherPhrase
    else if text ∈words "{" then BlockPhrase
    else if text ∈words "}" then ClosePhrase
    else if text ∈words ";" then EmptyPhrase
    else if text ∈words "if" then IfPhrase
    else if text ∈words "else" then ElsePhrase
    else if text ∈words "switch" then SwitchPhrase
    else if text ∈words "while" then WhilePhrase
    else if text ∈words "do" then DoPhrase
    else if text ∈words "for" then ForPhrase
    else if text ∈words "case" then CasePhrase
    else if text ∈words "default" then DefaultPhrase
    else if text ∈words "goto" then GotoPhrase
    else if text ∈words "break continue" then JumpPhrase
    else if text ∈words "return" then ReturnPhrase
    else OtherPhrase

abbrev pub phrase : Word → Phrase
phrase Ordinary = NamePhrase
phrase Typedef = NamePhrase
phrase (Fixed text) = phrase_by text
phrase _ = OtherPhrase
