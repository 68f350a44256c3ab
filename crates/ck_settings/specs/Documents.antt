-- What a settings file says: its settings, or its first fault.
use Rattle.std.specs.Prelude.{◌≡◌, ℕ, if◌then◌else◌, List, [], ◌∷◌, codes, Option, Some, None, Result, Ok, Err}
use Rattle.std.specs.Str.{is_utf8}
use Rattle.toml.specs.Data.{Members}
use Rattle.toml.specs.Parse.{parse_document}
use Rattle.ck_base.specs.declared.settings_faults.SettingsKind.TheVariants.{NotToml}
use Rattle.ck_settings.specs.declared.errors.ReadSettingsError.{ReadSettingsError}
use Rattle.ck_settings.specs.declared.errors.ReadSettingsError.TheVariants.{Fault, Memory}
use Rattle.ck_settings.specs.Values.{Values, values_of}
use Rattle.ck_settings.specs.Faults.{KeyFault, fault_view, faults_of}

-- the value where there is no fault, or else the first fault
abbrev pub unless_faulty : {A : Type 0} → List KeyFault → A → Result A KeyFault
unless_faulty [] x = Ok x
unless_faulty (f ∷ fs) x = Err f

-- the file isn't TOML: its bytes aren't UTF-8, or `toml` knows no document that they spell
abbrev pub not_toml : KeyFault
not_toml = record { key = codes "rtcheck.toml"; kind = NotToml }

abbrev pub read_members : Option Members → Result Values KeyFault
read_members None = Err not_toml
read_members (Some ms) = unless_faulty (faults_of ms) (values_of ms)

-- the settings that a file of these bytes says, or its first fault
unfoldable pub settings_of : List ℕ → Result Values KeyFault
settings_of bytes = if is_utf8 bytes then read_members (parse_document bytes) else Err not_toml

-- the same settings, in version 2
abbrev pub upgraded_values : Values → Values
upgraded_values v = record v { version = 2 }

-- The error of a function is this fault, unless memory ran out.
abbrev pub IsFault : ReadSettingsError → KeyFault → Type 0
IsFault Memory f = Unit {0}
IsFault (Fault g) f = f ≡ fault_view g

-- The error of a function is what is read, unless memory ran out.
abbrev pub Fails : {Y : Type 0} → ReadSettingsError → Result Y KeyFault → Type 0
Fails Memory read = Unit {0}
Fails (Fault f) read = read ≡ Err (fault_view f)

-- What a function answered, seen by `view`, is what is read, unless memory ran out.
abbrev pub Gives : {X Y : Type 0} → (X → Y) → Result X ReadSettingsError → Result Y KeyFault → Type 0
Gives view (Ok x) read = read ≡ Ok (view x)
Gives view (Err e) read = Fails e read
