use Rattle.std.proofs.Common.{◌≡◌, ap₂, ◌∙◌, rules}
use Rattle.clap.specs.Words.{app_of, rule_of, with_rule}
use Rattle.ck_words.proofs.Matching.{AreMatches-parsed, memory_alone, mode_rule, number_rule, rtcheck_app}
use Rattle.ck_words.proofs.commands.matches_of.Goals as goal

pub returns-in_err-try_get_matches_from-clause-usage :
    goal.returns-in_err-try_get_matches_from-clause-usage
returns-in_err-try_get_matches_from-clause-usage c =
    let mode_is : rule_of c.action-mode.result ≡ mode_rule = search rules in
    let number_is : rule_of c.action-number.result ≡ number_rule = search rules in
    let is : app_of c.in_ok-command.command ≡ rtcheck_app = c.in_ok-command.ensures.shape (search rules)
    ∙ ap₂ with_rule (c.in_ok-arg.ensures.shape (search rules) ∙ ap₂ with_rule c.new-3.ensures.app mode_is)
    number_is in
    λ usage command spelled.
    let memory = memory_alone _ _ command _ is spelled c.in_err-try_get_matches_from.ensures.passes in
    let gives = rw usage at c.from_residual-in_err-try_get_matches_from.ensures.1 in
    let same = gives.1 memory in
    cc

pub returns-clause-matches : goal.returns-clause-matches
returns-clause-matches c =
    let mode_is : rule_of c.action-mode.result ≡ mode_rule = search rules in
    let number_is : rule_of c.action-number.result ≡ number_rule = search rules in
    let is : app_of c.in_ok-command.command ≡ rtcheck_app = c.in_ok-command.ensures.shape (search rules)
    ∙ ap₂ with_rule (c.in_ok-arg.ensures.shape (search rules) ∙ ap₂ with_rule c.new-3.ensures.app mode_is)
    number_is in
    AreMatches-parsed _ _ _ is c.in_ok-try_get_matches_from.ensures.matches
