-- Tables that are written member by member.
use Rattle.std.proofs.Common.{◌≡◌, ℕ, ◌≤◌, List, [], ◌∷◌, length, map, take, refl, ap}
use Rattle.std.proofs.Common.{String, Global, Ordering, Less, Equal, Greater, string_bytes}
use Rattle.std.specs.Ordering.{match_ordering}
use Rattle.std.specs.String.{string_cmp}
use Rattle.std.specs.BTreeMap.{insert_entry}
use Rattle.std.proofs.lemmas.List.{take_all}
use Rattle.std.proofs.lemmas.Simd.{map-map}
use Rattle.toml.specs.Data.{Members, member, table, array}
use Rattle.toml.specs.declared.value.Value.{Value}
use Rattle.toml.specs.View.{view, members_view, items_of}
use Rattle.ck_settings.specs.Upgrading.{put_member, tables}

pub members-put : (k : String Global) (v : Value) (es : List (String Global × Value)) →
    members_view (insert_entry string_cmp es k v) ≡ put_member (string_bytes k) (view v) (members_view es)
members-put k v [] = refl
members-put k v (e ∷ es) = at (string_cmp k e.0) (members-put k v es) where
  at : (o : Ordering) → members_view (insert_entry string_cmp es k v)
      ≡ put_member (string_bytes k) (view v) (members_view es) →
      members_view (match_ordering o ((k, v) ∷ e ∷ es) ((e.0, v) ∷ es) (e ∷ insert_entry string_cmp es k v))
      ≡ match_ordering o (member (string_bytes k) (view v) (members_view (e ∷ es)))
      (member (string_bytes e.0) (view v) (members_view es))
      (member (string_bytes e.0) (view e.1) (put_member (string_bytes k) (view v) (members_view es)))
  at Less rest = refl
  at Equal rest = refl
  at Greater rest = ap (member (string_bytes e.0) (view e.1)) rest

-- all settings as tables
pub all_tables : {S X : Type 0} (seen : S → X) (members : X → Members) (values : List Value) (settings : List S) (i : ℕ)
    → length settings ≤ i →
    map view values ≡ map (λ s. table (members (seen s))) (take i settings) → array (items_of (map view values))
    ≡ tables members (map seen settings)
all_tables seen members values settings i end so_far =
    let every : take i settings ≡ settings = take_all i settings end in
    rw (so_far, every, map-map (λ x. table (members x)) seen settings) refl
