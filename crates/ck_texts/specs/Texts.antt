-- The texts of one line: a refusal, and a fault of the settings (docs/REPORT.md).
use Rattle.std.specs.Prelude.{ℕ, List, ◌++◌, codes}
use Rattle.std.specs.Fmt.{decimal}
use Rattle.ck_base.specs.declared.refusals.Unsupported.{Unsupported}
use Rattle.ck_base.specs.declared.settings_faults.SettingsKind.{SettingsKind}
use Rattle.ck_base.specs.declared.settings_faults.SettingsKind.TheVariants.{Absent, TooLong, NotToml, Missing}
use Rattle.ck_base.specs.declared.settings_faults.SettingsKind.TheVariants.{Unknown, WrongType, OutOfRange, Repeated}
use Rattle.ck_base.specs.declared.settings_faults.SettingsKind.TheVariants.{NoSuchName}
use Rattle.ck_base.specs.Refusals.{refusal_number, refusal_words}
use Rattle.ck_texts.specs.Lines.{line, first_line}

-- `place` is what is printed for the refusal's place
abbrev pub refusal_text : Unsupported → List ℕ → List ℕ
refusal_text kind place =
    first_line ++ line (codes "unsupported U" ++ (decimal (refusal_number kind) ++
    (codes " " ++ (place ++ (codes " " ++ refusal_words kind)))))

-- what is wrong with the settings
abbrev pub settings_words : SettingsKind → List ℕ
settings_words Absent = codes "absent"
settings_words TooLong = codes "too long"
settings_words NotToml = codes "not TOML"
settings_words Missing = codes "missing"
settings_words Unknown = codes "unknown"
settings_words WrongType = codes "wrong type"
settings_words OutOfRange = codes "out of range"
settings_words Repeated = codes "repeated"
settings_words NoSuchName = codes "no such name"

abbrev pub settings_text : List ℕ → SettingsKind → List ℕ
settings_text key kind =
    first_line ++ line (codes "settings " ++ (key ++ (codes " " ++ settings_words kind)))
