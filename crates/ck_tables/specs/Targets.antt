-- Which functions calls and slots may reach: each names a list of functions by its number.
use Rattle.std.specs.Prelude.{◌≡◌, ℕ, zero, suc, Bool, true, ◌&&◌, nat_lt}
use Rattle.std.specs.Prelude.{List, [], ◌∷◌, ◌++◌, length, map, vec_items, Vec}
use Rattle.ck_base.specs.declared.spans.FnId.{FnId}
use Rattle.ck_tables.specs.Tables.{nth}
use Rattle.ck_tables.specs.declared.targets.ListId.{ListId}

pub record Table : Type 0 where
  pub lists : List (List FnId)
  pub calls : List ListId
  pub slots : List ListId

abbrev pub table : {A : Type 0} → List (Vec FnId A) → List ListId → List ListId → Table
table lists calls slots = record { lists = map vec_items lists; calls = calls; slots = slots }

abbrev pub no_targets : Table
no_targets = record { lists = []; calls = []; slots = [] }

abbrev pub with_list : Table → List FnId → Table
with_list t functions = record t { lists = t.lists ++ (functions ∷ []) }

abbrev pub with_call : Table → ListId → Table
with_call t list = record t { calls = t.calls ++ (list ∷ []) }

abbrev pub with_slot : Table → ListId → Table
with_slot t list = record t { slots = t.slots ++ (list ∷ []) }

abbrev pub number_at : List ListId → ℕ → ℕ
number_at [] i = 0
number_at (l ∷ ls) zero = l.0
number_at (l ∷ ls) (suc i) = number_at ls i

abbrev pub of_call : Table → ℕ → List FnId
of_call t call = nth [] t.lists (number_at t.calls call)

abbrev pub of_slot : Table → ℕ → List FnId
of_slot t slot = nth [] t.lists (number_at t.slots slot)

abbrev pub all_within : ℕ → List ListId → Bool
all_within limit [] = true
all_within limit (l ∷ ls) = nat_lt l.0 limit && all_within limit ls

-- each call and each slot names a list
pub record AreWithin (t : Table) : Type 0 where
  pub calls : all_within (length t.lists) t.calls ≡ true
  pub slots : all_within (length t.lists) t.slots ≡ true
