-- The rows of all functions.
use Rattle.std.proofs.Common.{◌≡◌, ℕ, suc, ◌+◌, ◌<◌, ◌≤◌, List, [], ◌∷◌, ◌++◌, map, length, drop, get_or}
use Rattle.std.proofs.Common.{refl, sym, ap, ◌∙◌, subst, append-nil, append_assoc, arith}
use Rattle.std.proofs.lemmas.List.{map-append}
use Rattle.std.specs.List.{filter}
use Rattle.std.specs.Prelude.{Option}
use Rattle.ck_base.specs.declared.tokens.Token.{Token}
use Rattle.ck_call_rows.proofs.Elements.{drop-next, drop-none}
use Rattle.ck_call_rows.specs.Naming.{AreNames, AreCallRows, NumberCalls, first_of_row, first_of_site}
use Rattle.ck_call_rows.specs.TypedRows.{CallPlace, place_of_row, place_of_site, call_places, project, numbered}
use Rattle.ck_call_rows.specs.Walks.{Shown, shown, expected, expected_rows, expected_from, AddedBefore, AreUsed, Adds}
use Rattle.ck_call_rows.specs.Walks.{tables}
use Rattle.ck_call_rows.specs.declared.walk.Walk.{Walk}
use Rattle.ck_prog.specs.Calls.{CallSite, is_numbered, calls_of_function, numbered_calls}
use Rattle.ck_tables.specs.Program.{plain_body, functions}
use Rattle.ck_tables.specs.ProgramRows.{NumberedCall, call_of, calls_of}
use Rattle.ck_tables.specs.declared.program.Body.{Body}
use Rattle.ck_tables.specs.declared.program.Linked.{Linked}
use Rattle.ck_tables.specs.declared.program_rows.CallInfo.{CallInfo}
use Rattle.ck_tables.specs.declared.program_rows.ProgramRows.{ProgramRows}
use Rattle.ck_tables.specs.declared.program_rows.UseInfo.{UseInfo}

-- function by function ------------------------------------------------------------------------------------------------

pub added_none : (l : Linked) (us : List UseInfo) (rows : List CallInfo) (all : List Body) → rows ≡ []
    → AddedBefore l us rows 0 (drop 0 all) all
added_none l us rows all none =
    record { is = λ r used names. ap (λ cs. map (shown l) cs ++ expected_from l r 0 all) none }

pub added_more : (w : Walk) (old new : List CallInfo) (i : ℕ) (f : Body) (all : List Body)
    → AddedBefore (tables w) w.uses.now old i (drop i all) all → i < length all → f ≡ get_or all i f
    → w.function.0 ≡ i → Adds w old new (calls_of_function (plain_body (tables w) f))
    → AddedBefore (tables w) w.uses.now new (i + 1) (drop (i + 1) all) all
added_more w old new i f all before low is own adds =
    record {
      is =
          λ r used names.
          let l = tables w in
          let rest = drop (i + 1) all in
          let cs = calls_of_function (plain_body l f) in
          let done = map (shown l) old in
          let number : i + 1 ≡ suc i = omega arith in
          ap (λ es. es ++ expected_from l r (i + 1) rest) (adds.is r (record { uses = used; names = names }))
          ∙ ap (λ j. (done ++ expected_rows l r j cs) ++ expected_from l r (i + 1) rest) own
          ∙ append_assoc done (expected_rows l r i cs) (expected_from l r (i + 1) rest)
          ∙ ap (λ j. done ++ (expected_rows l r i cs ++ expected_from l r j rest)) number
          ∙ ap (λ gs. done ++ expected_from l r i gs) (sym (drop-next all i f low is))
          ∙ before.is r used names;
    }

-- what rows say -------------------------------------------------------------------------------------------------------

mapped : {A B C : Type 0} (f : A → B) (g : B → C) (h : A → C) → ((x : A) → g (f x) ≡ h x) → (xs : List A)
    → map g (map f xs) ≡ map h xs
mapped f g h each [] = refl
mapped f g h each (x ∷ xs) = ap (λ y. y ∷ map g (map f xs)) (each x) ∙ ap (λ ys. h x ∷ ys) (mapped f g h each xs)

abbrev place_shown : Shown → CallPlace
place_shown s = s.place

abbrev first_shown : Shown → Token
first_shown s = s.first

abbrev call_shown : Shown → Option NumberedCall
call_shown s = s.call

shown-place : (l : Linked) (c : CallInfo) → place_shown (shown l c) ≡ place_of_row c
unfolding shown
shown-place l c = refl

shown-first : (l : Linked) (c : CallInfo) → first_shown (shown l c) ≡ first_of_row c
unfolding shown
shown-first l c = refl

shown-call : (l : Linked) (c : CallInfo) → call_shown (shown l c) ≡ call_of l c
unfolding shown
shown-call l c = refl

module _ (l : Linked) (r : ProgramRows) where
  places-of : (i : ℕ) (cs : List CallSite)
      → map place_shown (expected_rows l r i cs) ≡ map (place_of_site i) (filter (is_numbered (project l r)) cs)
  unfolding expected_rows
  places-of i cs =
      mapped (expected l r i) place_shown (place_of_site i) (λ c. refl) (filter (is_numbered (project l r)) cs)

  firsts-of : (i : ℕ) (cs : List CallSite)
      → map first_shown (expected_rows l r i cs) ≡ map first_of_site (filter (is_numbered (project l r)) cs)
  unfolding expected_rows
  firsts-of i cs =
      mapped (expected l r i) first_shown first_of_site (λ c. refl) (filter (is_numbered (project l r)) cs)

  calls-of : (i : ℕ) (cs : List CallSite)
      → map call_shown (expected_rows l r i cs) ≡ map (numbered l r) (filter (is_numbered (project l r)) cs)
  unfolding expected_rows
  calls-of i cs =
      mapped (expected l r i) call_shown (numbered l r) (λ c. refl) (filter (is_numbered (project l r)) cs)

  expected-places : (i : ℕ) (fs : List Body)
      → map place_shown (expected_from l r i fs) ≡ call_places (project l r) i (map (plain_body l) fs)
  expected-places i [] = refl
  expected-places i (f ∷ fs) =
      let cs = calls_of_function (plain_body l f) in
      map-append place_shown (expected_rows l r i cs) (expected_from l r (suc i) fs)
      ∙ ap (λ ps. ps ++ map place_shown (expected_from l r (suc i) fs)) (places-of i cs)
      ∙ ap (λ ps. map (place_of_site i) (filter (is_numbered (project l r)) cs) ++ ps) (expected-places (suc i) fs)

  expected-firsts : (i : ℕ) (fs : List Body)
      → map first_shown (expected_from l r i fs)
      ≡ map first_of_site (numbered_calls (project l r) (map (plain_body l) fs))
  expected-firsts i [] = refl
  expected-firsts i (f ∷ fs) =
      let cs = calls_of_function (plain_body l f) in
      let own = filter (is_numbered (project l r)) cs in
      let more = numbered_calls (project l r) (map (plain_body l) fs) in
      map-append first_shown (expected_rows l r i cs) (expected_from l r (suc i) fs)
      ∙ ap (λ ps. ps ++ map first_shown (expected_from l r (suc i) fs)) (firsts-of i cs)
      ∙ ap (λ ps. map first_of_site own ++ ps) (expected-firsts (suc i) fs)
      ∙ sym (map-append first_of_site own more)

  expected-calls : (i : ℕ) (fs : List Body)
      → map call_shown (expected_from l r i fs)
      ≡ map (numbered l r) (numbered_calls (project l r) (map (plain_body l) fs))
  expected-calls i [] = refl
  expected-calls i (f ∷ fs) =
      let cs = calls_of_function (plain_body l f) in
      let own = filter (is_numbered (project l r)) cs in
      let more = numbered_calls (project l r) (map (plain_body l) fs) in
      map-append call_shown (expected_rows l r i cs) (expected_from l r (suc i) fs)
      ∙ ap (λ ps. ps ++ map call_shown (expected_from l r (suc i) fs)) (calls-of i cs)
      ∙ ap (λ ps. map (numbered l r) own ++ ps) (expected-calls (suc i) fs)
      ∙ sym (map-append (numbered l r) own more)

  call_rows-are : (cs : List CallInfo) → r.calls.rows.items ≡ cs
      → map (shown l) cs ≡ expected_from l r 0 l.bodies.rows.items → AreCallRows l r
  call_rows-are cs same all =
      let fs = l.bodies.rows.items in
      let rows = r.calls.rows.items in
      let shows = ap (map (shown l)) same ∙ all in
      record {
        calls =
            record {
              places =
                  sym (mapped (shown l) place_shown place_of_row (shown-place l) rows)
                  ∙ ap (map place_shown) shows ∙ expected-places 0 fs;
              calls =
                  sym (mapped (shown l) call_shown (call_of l) (shown-call l) rows)
                  ∙ ap (map call_shown) shows ∙ expected-calls 0 fs;
            };
        firsts =
            sym (mapped (shown l) first_shown first_of_row (shown-first l) rows)
            ∙ ap (map first_shown) shows ∙ expected-firsts 0 fs;
      }

pub added_all : (l : Linked) (us : List UseInfo) (rows : List CallInfo) (i : ℕ) (all : List Body)
    → AddedBefore l us rows i (drop i all) all → length all ≤ i → all ≡ l.bodies.rows.items → NumberCalls l us rows
added_all l us rows i all before past whole =
    record {
      are =
          λ r used same names.
          let none = ap (expected_from l r i) (drop-none all i past) in
          call_rows-are l r rows same
          (sym (append-nil (map (shown l) rows)) ∙ ap (λ es. map (shown l) rows ++ es) (sym none)
          ∙ before.is r used names ∙ ap (expected_from l r 0) whole);
    }
