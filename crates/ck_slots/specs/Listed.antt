-- Lists of facts 'this function reaches this holder', as worked out for a project: whether each fact follows from those
-- after it in the list, and whether all that follows is there.
use Rattle.std.specs.Prelude.{Bool, true, ℕ, List, [], ◌∷◌, ◌++◌, ◌&&◌, ◌==◌, filter, flat_map, Option, Some, None}
use Rattle.std.specs.Prelude.{if◌then◌else◌, option_to_list}
use Rattle.std.specs.List.{list_all, list_any}
use Rattle.ck_prog.specs.Calls.{CallSite, function_number}
use Rattle.ck_prog.specs.TypedTrees.{facts}
use Rattle.ck_slots.specs.Givens.{TypedProject, Given, functions, givens, calls_through, by_target, may_be_called}
use Rattle.ck_slots.specs.Givens.{result_holder}
use Rattle.ck_slots.specs.Holders.{Holder, same_holder}
use Rattle.ck_slots.specs.Origins.{Origin, Nowhere, Named, Held, Either, ResultOf, origin, called_type}
use Rattle.ck_types.specs.Types.{CType}

pub record Reached : Type 0 where
  pub function : ℕ
  pub holder : Holder

abbrev pub is_number : ℕ → ℕ → Bool
is_number n m = n == m

abbrev pub is_among : ℕ → List ℕ → Bool
is_among n ns = list_any (is_number n) ns

abbrev pub is_fact : ℕ → Holder → Reached → Bool
is_fact n h k = n == k.function && same_holder h k.holder

abbrev pub is_listed : List Reached → ℕ → Holder → Bool
is_listed known n h = list_any (is_fact n h) known

-- the functions that are listed at a holder
abbrev pub listed_at : Holder → List Reached → List ℕ
listed_at h [] = []
listed_at h (k ∷ ks) = if same_holder h k.holder then k.function ∷ listed_at h ks else listed_at h ks

abbrev pub listed_if_any : List Reached → Option Holder → List ℕ
listed_if_any known None = []
listed_if_any known (Some h) = listed_at h known

module _ (p : TypedProject) where
  -- the functions that come from there by these facts
  abbrev pub coming : List Reached → Origin → List ℕ
  coming known Nowhere = []
  coming known (Named e) = option_to_list (function_number (functions p) e)
  coming known (Held h) = listed_at h known
  coming known (Either a b) = coming known a ++ coming known b
  coming known (ResultOf type called) =
      flat_map (λ m. listed_if_any known (result_holder p m)) (filter (may_be_called p type) (coming known called))

  abbrev pub targets : List Reached → Option CType → Origin → List ℕ
  targets known type called = filter (may_be_called p type) (coming known called)

  abbrev pub targets_of_call : List Reached → CallSite → List ℕ
  targets_of_call known c = targets known (called_type (facts c.called)) (origin p.all c.called)

  -- what the project gives, with the arguments of calls through expressions
  abbrev pub by_call_through : List Reached → CallSite → List Given
  by_call_through known c = flat_map (λ m. by_target p m c) (targets_of_call known c)

  abbrev pub all_givens : List Reached → List Given
  all_givens known = givens p ++ flat_map (by_call_through known) (calls_through p)

  -- all that is given to a holder is listed there
  abbrev pub is_kept : List Reached → Given → Bool
  is_kept known g = list_all (λ n. is_listed known n g.to) (coming known g.from)

  abbrev pub is_closed : List Reached → Bool
  is_closed known = list_all (is_kept known) (all_givens known)

  -- something gives it, where these facts hold
  abbrev pub gives : List Reached → Reached → Given → Bool
  gives known k g = same_holder k.holder g.to && is_among k.function (coming known g.from)

  abbrev pub is_justified : List Reached → Bool
  is_justified [] = true
  is_justified (k ∷ known) = list_any (gives known k) (all_givens known) && is_justified known
