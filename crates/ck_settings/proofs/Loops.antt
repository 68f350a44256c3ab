-- Elements that are read one after another.
use Rattle.std.proofs.Common.{◌≡◌, ℕ, ◌+◌, ◌<◌, ◌≤◌, List, [], ◌∷◌, ◌++◌, map, length, get_or, drop, Result, Ok, refl}
use Rattle.std.proofs.Common.{sym, ap, ◌∙◌}
use Rattle.std.proofs.lemmas.List.{drop_all, drop_more}
use Rattle.toml.specs.declared.value.Value.{Value}
use Rattle.toml.specs.Data.{Data}
use Rattle.toml.specs.View.{view}
use Rattle.ck_settings.specs.declared.errors.ReadSettingsError.{ReadSettingsError}
use Rattle.ck_settings.specs.declared.errors.ReadSettingsError.TheVariants as errors
use Rattle.ck_settings.specs.Faults.{KeyFault}
use Rattle.ck_settings.specs.Documents.{Fails}
use Rattle.ck_settings.specs.Reading.{◌>>=◌, elements}

module _ {X : Type 0} {Setting : Type 0} (seen : Setting → X) (step : List X → Data → Result X KeyFault) where
  -- what is read of the values from this one on, after these settings
  abbrev pub rest : List Setting → List Value → ℕ → Result (List X) KeyFault
  rest settings values i = elements step (map seen settings) (map view (drop i values))

  map_last : (xs : List Setting) (x : Setting) → map seen (xs ++ x ∷ []) ≡ map seen xs ++ seen x ∷ []
  map_last [] x = refl
  map_last (y ∷ ys) x = ap (λ zs. seen y ∷ zs) (map_last ys x)

  one_read : (settings before : List Setting) (values : List Value) (i : ℕ) (v : Value) → i < length values → before
      ≡ settings → v ≡ get_or values i v
      → rest settings values i ≡ (step (map seen before) (view v) >>= λ x. elements step (map seen before ++ x ∷ [])
      (map view (drop (i + 1) values)))
  unfolding elements
  one_read settings before values i v lt same here = rw (drop_more values i v lt, ← here, same) refl

  -- after a setting that was read and put at the end
  pub goes_on : (settings before pushed : List Setting) (values : List Value) (i : ℕ) (v : Value) (setting : Setting)
      (total : Result (List X) KeyFault)
      → i < length values → before ≡ settings → v ≡ get_or values i v → pushed ≡ settings ++ setting ∷ []
      → step (map seen before) (view v) ≡ Ok (seen setting) → rest settings values i ≡ total →
      rest pushed values (i + 1) ≡ total
  goes_on settings before pushed values i v setting total lt same here more read so_far =
      let put : map seen before ++ seen setting ∷ []
      ≡ map seen pushed = rw (same, more) (sym (map_last settings setting)) in
      let one : rest settings values i ≡ elements step (map seen before ++ seen setting ∷ [])
      (map view (drop (i + 1) values)) =
      one_read settings before values i v lt same here ∙ ap
      (λ r. r >>= λ x. elements step (map seen before ++ x ∷ []) (map view (drop (i + 1) values))) read in
      ap (λ xs. elements step xs (map view (drop (i + 1) values))) (sym put) ∙ sym one ∙ so_far

  -- at a fault
  pub ends : (settings before : List Setting) (values : List Value) (i : ℕ) (v : Value) (e : ReadSettingsError)
      (total : Result (List X) KeyFault)
      → i < length values → before ≡ settings → v ≡ get_or values i v → Fails e (step (map seen before) (view v)) →
      rest settings values i ≡ total → Fails e total
  ends settings before values i v errors.Memory total lt same here read so_far = tt
  ends settings before values i v (errors.Fault f) total lt same here read so_far =
      sym so_far ∙ one_read settings before values i v lt same here ∙ rw read refl

  -- where none is left
  pub is_done : (settings : List Setting) (values : List Value) (i : ℕ) (total : Result (List X) KeyFault) →
      length values ≤ i → rest settings values i ≡ total → total ≡ Ok (map seen settings)
  unfolding elements
  is_done settings values i total le so_far = sym so_far ∙ rw (drop_all i values le) refl
