use Rattle.std.proofs.Common.{◌≡◌}
use Rattle.std.specs.Map.{keys_of}
use Rattle.ck_settings.proofs.UnknownKeys.{unknown_of, texts}
use Rattle.ck_settings.proofs.section.Section.only.Given as goal

-- the unknown keys are those among the keys that are left
abbrev pub invariant-members : goal.invariant-members
invariant-members l =
    (goal.iterator-members).can_next l.key-iterator ×
    (goal.iterator-members).is_finite l.key-iterator ×
    (unknown_of (texts l.keys) l.key-iterator ≡ unknown_of (texts l.keys) (keys_of l.self.table.now.entries))
