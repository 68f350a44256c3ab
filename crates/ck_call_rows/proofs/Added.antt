-- Rows that are added one after the other.
use Rattle.std.proofs.Common.{◌≡◌, ℕ, Bool, true, false, List, [], ◌∷◌, ◌++◌, map, refl, sym, ap, ◌∙◌, subst}
use Rattle.std.proofs.Common.{append-nil, append_assoc, Result, Ok, Err, OnOk}
use Rattle.std.proofs.lemmas.List.{map-append}
use Rattle.std.proofs.lemmas.List.Elements.{filter-append}
use Rattle.std.specs.List.{filter}
use Rattle.ck_call_rows.specs.TypedRows.{project}
use Rattle.ck_call_rows.specs.Walks.{tables, shown, expected, expected_rows, AreUsed, Adds, Leads}
use Rattle.ck_call_rows.specs.declared.walk.Walk.{Walk}
use Rattle.ck_prog.specs.Calls.{CallSite, is_numbered}
use Rattle.ck_tables.specs.declared.program.Linked.{Linked}
use Rattle.ck_tables.specs.declared.program_rows.CallInfo.{CallInfo}
use Rattle.ck_tables.specs.declared.program_rows.ProgramRows.{ProgramRows}

expected_rows-append : (l : Linked) (r : ProgramRows) (i : ℕ) (xs ys : List CallSite)
    → expected_rows l r i (xs ++ ys) ≡ expected_rows l r i xs ++ expected_rows l r i ys
unfolding expected_rows
expected_rows-append l r i xs ys =
    ap (map (expected l r i)) (filter-append (is_numbered (project l r)) xs ys)
    ∙ map-append (expected l r i) (filter (is_numbered (project l r)) xs) (filter (is_numbered (project l r)) ys)

expected_rows-none : (l : Linked) (r : ProgramRows) (i : ℕ) → expected_rows l r i [] ≡ []
unfolding expected_rows
expected_rows-none l r i = refl

module _ (w : Walk) where
  pub adds_none : (rows : List CallInfo) → Adds w rows rows []
  adds_none rows =
      record {
        is =
            λ r used.
            sym (ap (λ es. map (shown (tables w)) rows ++ es) (expected_rows-none (tables w) r w.function.0)
            ∙ append-nil (map (shown (tables w)) rows));
      }

  pub adds_nothing : (rows : List CallInfo) (cs : List CallSite) → cs ≡ [] → Adds w rows rows cs
  adds_nothing rows cs none = subst (Adds w rows rows) (sym none) (adds_none rows)

  pub adds_both : (a b c : List CallInfo) (xs ys : List CallSite) → Adds w a b xs → Adds w b c ys
      → Adds w a c (xs ++ ys)
  adds_both a b c xs ys first second =
      record {
        is =
            λ r used.
            let e = expected_rows (tables w) r w.function.0 in
            let m = map (shown (tables w)) a in
            second.is r used
            ∙ ap (λ es. es ++ e ys) (first.is r used)
            ∙ append_assoc m (e xs) (e ys)
            ∙ ap (λ es. m ++ es) (sym (expected_rows-append (tables w) r w.function.0 xs ys));
      }

  -- some calls, and then the rest
  pub leads_start : (rows : List CallInfo) (all : List CallSite) → Leads w rows rows all all
  leads_start rows all = record { done = []; adds = adds_none rows; leads = refl }

  pub leads_more : (a b c : List CallInfo) (here rest more all : List CallSite) → Leads w a b more all
      → Adds w b c here → more ≡ here ++ rest → Leads w a c rest all
  leads_more a b c here rest more all before adds e =
      record {
        done = before.done ++ here;
        adds = adds_both a b c before.done here before.adds adds;
        leads =
            before.leads ∙ ap (λ cs. before.done ++ cs) e ∙ sym (append_assoc before.done here rest);
      }

  pub leads_end : (a b : List CallInfo) (rest all : List CallSite) → Leads w a b rest all → rest ≡ []
      → Adds w a b all
  leads_end a b rest all l e =
      subst (Adds w a b)
      (sym (l.leads ∙ ap (λ cs. l.done ++ cs) e ∙ append-nil l.done)) l.adds

  -- some calls, and then others, where these were added
  pub adds_then : {A E : Type 0} (result : Result A E) (a b c : List CallInfo) (xs ys : List CallSite)
      → Adds w a b xs → OnOk result (Adds w b c ys) → OnOk result (Adds w a c (xs ++ ys))
  adds_then (Ok u) a b c xs ys first second = adds_both a b c xs ys first second
  adds_then (Err e) a b c xs ys first second = second

  -- a call that these say, and then others, where these were added
  pub call_then : {A E : Type 0} (result : Result A E) (a b c : List CallInfo) (P : CallSite → Type 0)
      (ys : List CallSite) → ((s : CallSite) → P s → Adds w a b (s ∷ [])) → OnOk result (Adds w b c ys)
      → OnOk result ((s : CallSite) → P s → Adds w a c (s ∷ ys))
  call_then (Ok u) a b c P ys first second = λ s is. adds_both a b c (s ∷ []) ys (first s is) second
  call_then (Err e) a b c P ys first second = second

pub on_ok : {A E P Q : Type 0} (result : Result A E) → (P → Q) → OnOk result P → OnOk result Q
on_ok (Ok u) f h = f h
on_ok (Err e) f h = h
