use Rattle.std.proofs.Common.{ap, ◌∙◌}
use Rattle.ck_base.specs.CharacterConstants.{is_character, is_character_constant}
use Rattle.ck_lexer.proofs.Characters.{one_character}
use Rattle.ck_lexer.proofs.literals.is_character_constant.Goals as goal

pub returns : goal.returns
unfolding is_character_constant
returns c = c.is_one_character.ensures ∙ one_character c.between_quotes.result.now
    ∙ ap is_character c.between_quotes.ensures
