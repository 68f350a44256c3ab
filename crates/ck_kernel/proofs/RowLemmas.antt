-- The rows of the table, found by their names.
use Rattle.std.proofs.Common.{◌≡◌, ℕ, ◌<◌, ◌≤◌, map, Bool, true, false, Some, None, List, [], ◌==◌, length, get_or}
use Rattle.std.proofs.Common.{refl, sym, ◌∙◌, ap, inl, inr}
use Rattle.std.specs.List.{find, position, slice_get}
use Rattle.std.specs.Option.{option_eq, option_map, option_map_or, unwrap_or}
use Rattle.std.specs.Str.{bytes_eq}
use Rattle.std.proofs.lemmas.Bool.{cases_lt, agree_below, agree_below_at, both_ways}
use Rattle.std.proofs.lemmas.Option.{slice_get-get_or, slice_get-map, slice_get_past, slice_get_read}
use Rattle.std.proofs.lemmas.Slice.Eq.{bytes_eq-Decides}
use Rattle.ck_base.specs.declared.ops.Op.TheVariants.{Neutral}
use Rattle.ck_kernel.specs.declared.entries.EntrySink.TheVariants.{Absent}
use Rattle.ck_kernel.specs.KernelTable.{KernelCall, call, kernel_table, row_named, row_numbered}
use Rattle.ck_kernel.specs.Lengths.{names, of_length, FindsRows, FindsRowsOf, begins_like_one}
use Rattle.ck_kernel.proofs.Searching.{position_cases, find_none, same_number}

-- a call that is in no row
abbrev pub blank : KernelCall
blank = call "" Neutral 0 Absent

-- whether a row passes a test
abbrev pub passes_at : (ℕ → KernelCall → Bool) → ℕ → Bool
passes_at test k = option_map_or (λ c. test k c) (slice_get kernel_table k) false

-- a fact of each row, from a test that the checker computes over the table
abbrev pub at_each : (ℕ → KernelCall → Bool) → Bool
at_each test = agree_below (passes_at test) (λ k. true) (length kernel_table)

pub at_row : (test : ℕ → KernelCall → Bool) (k : ℕ) → at_each test ≡ true → k < length kernel_table
    → test k (get_or kernel_table k blank) ≡ true
at_row test k holds within =
    let e = agree_below_at (passes_at test) (λ k. true) (length kernel_table) k holds within in
    rw (slice_get-get_or kernel_table k blank within) at e

-- in the group of its length, the name of a row leads to it
abbrev pub leads_there : List (List ℕ) → ℕ → KernelCall → Bool
leads_there groups k c = option_eq ◌==◌ (find (λ row. names row c.name) (of_length groups (length c.name))) (Some k)

abbrev pub finds_each : List (List ℕ) → Bool
finds_each groups = at_each (leads_there groups)

no_name : (text : List ℕ)
    → ((k : ℕ) → k < length kernel_table → bytes_eq (get_or kernel_table k blank).name text ≡ false)
    → (row : ℕ) → names row text ≡ false
no_name text other row = elim (cases_lt row (length kernel_table)) [
  | inl within ↦ rw (slice_get-get_or kernel_table row blank within) (other row within)
  | inr past ↦ rw (slice_get_past kernel_table row past) refl
]

finds_rows_of : (groups : List (List ℕ)) → finds_each groups ≡ true → (n : ℕ) → FindsRowsOf n (of_length groups n)
finds_rows_of groups holds n text long = elim (position_cases (λ c. bytes_eq c.name text) kernel_table blank) [
  | inl (i, found, within, passes) ↦
      let same : (get_or kernel_table i blank).name ≡ text = (bytes_eq-Decides _ _).0 passes in
      let row = same_number _ i (at_row (leads_there groups) i holds within) in
      (rw (same, long) at row) ∙ sym found
  | inr (none, other) ↦ find_none (λ row. names row text) (of_length groups n) (no_name text other) ∙ sym none
]

pub finds_rows : (groups : List (List ℕ)) → finds_each groups ≡ true → FindsRows groups
finds_rows groups holds = record { of = finds_rows_of groups holds }

-- each name of the table begins like one
abbrev pub each_begins : Bool
each_begins = at_each (λ k c. begins_like_one c.name)

pub no_row : each_begins ≡ true → (text : List ℕ) → begins_like_one text ≡ false → row_named text ≡ None
no_row holds text other = elim (position_cases (λ c. bytes_eq c.name text) kernel_table blank) [
  | inl (i, found, within, passes) ↦
      let same : (get_or kernel_table i blank).name ≡ text = (bytes_eq-Decides _ _).0 passes in
      let begins = at_row (λ k c. begins_like_one c.name) i holds within in
      absurd (both_ways (begins_like_one text) other (rw same at begins))
  | inr (none, _) ↦ ap (option_map row_numbered) none
]

begins : each_begins ≡ true
unfolding kernel_table
begins = refl

-- a name that doesn't begin like one is in no row
pub no_call : (text : List ℕ) (r : Bool) → r ≡ begins_like_one text → r ≡ false → None ≡ row_named text
no_call text r is other = sym (no_row begins text (sym is ∙ other))

-- the group of a length, as the code reads it
pub group_within : {X : Type 0} (h : X → List ℕ) (groups : List X) (n : ℕ) (rows : X)
    → n < length groups → rows ≡ get_or groups n rows → of_length (map h groups) n ≡ h rows
group_within h groups n rows within is =
    let read = slice_get_read groups (length groups) n rows refl within is in
    ap (λ o. unwrap_or o []) (slice_get-map h groups n ∙ ap (option_map h) read)

pub group_past : {X : Type 0} (h : X → List ℕ) (groups : List X) (n : ℕ)
    → length groups ≤ n → of_length (map h groups) n ≡ []
group_past h groups n past =
    ap (λ o. unwrap_or o []) (slice_get-map h groups n ∙ ap (option_map h) (slice_get_past groups n past))

-- a row's name is found in that row: the checker computes it over the table
abbrev pub found_there : ℕ → KernelCall → Bool
found_there k c = option_eq ◌==◌ (position (λ d. bytes_eq d.name c.name) kernel_table) (Some k)

each_found : at_each found_there ≡ true
unfolding kernel_table
each_found = refl

pub position_of_row : (k : ℕ) → k < length kernel_table
    → position (λ d. bytes_eq d.name (get_or kernel_table k blank).name) kernel_table ≡ Some k
position_of_row k within = same_number _ k (at_row found_there k each_found within)
