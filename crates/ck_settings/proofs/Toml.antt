-- Bytes that are TOML, and bytes that aren't.
use Rattle.std.proofs.Common.{◌≡◌, ℕ, List, Some, None, Ok, Err, refl, ap, inl, inr}
use Rattle.std.proofs.lemmas.Bool.{cases_Bool}
use Rattle.std.proofs.lemmas.Str.{is_utf8-from_IsUtf8, IsUtf8-from_is_utf8}
use Rattle.std.specs.Str.{IsUtf8, is_utf8}
use Rattle.toml.specs.Data.{Members}
use Rattle.toml.specs.Parse.{parse_document}
use Rattle.ck_settings.specs.declared.errors.ReadSettingsError.{ReadSettingsError}
use Rattle.ck_settings.specs.declared.errors.ReadSettingsError.TheVariants as errors
use Rattle.ck_settings.specs.Documents.{IsFault, Fails, not_toml}
use Rattle.ck_settings.specs.Reading.{toml}

pub is_document : (bytes : List ℕ) (ms : Members) → IsUtf8 bytes → parse_document bytes ≡ Some ms → toml bytes ≡ Ok ms
unfolding toml
is_document bytes ms text parsed = rw (is_utf8-from_IsUtf8 bytes text, parsed) refl

pub not_text : (bytes : List ℕ) (e : ReadSettingsError) → (IsUtf8 bytes → ⊥) → IsFault e not_toml → Fails e (toml bytes)
unfolding toml
not_text bytes errors.Memory other fault = tt
not_text bytes (errors.Fault g) other fault =
    elim (cases_Bool (is_utf8 bytes)) [
      | inl same ↦ absurd (other (IsUtf8-from_is_utf8 bytes same))
      | inr differs ↦ rw differs (ap Err fault)
    ]

pub not_document : (bytes : List ℕ) (e : ReadSettingsError) → IsUtf8 bytes → parse_document bytes ≡ None →
    IsFault e not_toml → Fails e (toml bytes)
unfolding toml
not_document bytes errors.Memory text none fault = tt
not_document bytes (errors.Fault g) text none fault = rw (is_utf8-from_IsUtf8 bytes text, none) (ap Err fault)
