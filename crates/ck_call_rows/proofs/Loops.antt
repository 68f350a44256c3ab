-- A loop over a row, which adds the calls of each element.
use Rattle.std.proofs.Common.{◌≡◌, ◌<◌, ◌≤◌, ◌+◌, ℕ, suc, List, [], ◌∷◌, ◌++◌, length, drop, get_or}
use Rattle.std.proofs.Common.{ap, ◌∙◌}
use Rattle.ck_call_rows.proofs.Added.{leads_more, leads_end}
use Rattle.ck_call_rows.proofs.Elements.{drop-next, drop-none}
use Rattle.ck_call_rows.specs.Walks.{Adds, Leads}
use Rattle.ck_call_rows.specs.declared.walk.Walk.{Walk}
use Rattle.ck_prog.specs.Calls.{CallSite}
use Rattle.ck_tables.specs.declared.program_rows.CallInfo.{CallInfo}

-- `calls` are those of elements from a number on, and `here` those of one element
module _ {X : Type 0} (w : Walk) (calls : ℕ → List X → List CallSite) (here : ℕ → X → List CallSite)
    (next : (k : ℕ) (x : X) (xs : List X) → calls k (x ∷ xs) ≡ here k x ++ calls (suc k) xs) where
  pub each_more : (a b c : List CallInfo) (k i j : ℕ) (x : X) (xs : List X) (all : List CallSite)
      → Leads w a b (calls k (drop i xs)) all → i < length xs → x ≡ get_or xs i x → suc k ≡ j
      → Adds w b c (here k x) → Leads w a c (calls j (drop (i + 1) xs)) all
  each_more a b c k i j x xs all before low is number adds =
      leads_more w a b c (here k x) (calls j (drop (i + 1) xs)) (calls k (drop i xs)) all before adds
      (ap (calls k) (drop-next xs i x low is) ∙ next k x (drop (i + 1) xs)
      ∙ ap (λ n. here k x ++ calls n (drop (i + 1) xs)) number)

  pub each_end : (a b : List CallInfo) (k i : ℕ) (xs : List X) (all : List CallSite)
      → Leads w a b (calls k (drop i xs)) all → length xs ≤ i → calls k [] ≡ [] → Adds w a b all
  each_end a b k i xs all before past none =
      leads_end w a b (calls k (drop i xs)) all before (ap (calls k) (drop-none xs i past) ∙ none)
