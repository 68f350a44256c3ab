-- The suffixes of a row, one after the other.
use Rattle.std.proofs.Common.{◌≡◌, ◌<◌, ◌≤◌, ◌+◌, ℕ, suc, List, [], ◌∷◌, ◌++◌, length, drop, get_or}
use Rattle.std.proofs.Common.{refl, ap, ◌∙◌, sym, subst, append_assoc, arith}
use Rattle.ck_call_rows.proofs.Added.{leads_start, leads_more, leads_end}
use Rattle.ck_call_rows.proofs.Elements.{drop-next, drop-none}
use Rattle.ck_call_rows.specs.Walks.{tables, tree, Adds, Leads, StepsLead, AreAmong, IsRowOf, calls_of_step}
use Rattle.ck_call_rows.specs.declared.walk.Walk.{Walk}
use Rattle.ck_prog.specs.Calls.{CallSite, calls_in, calls_in_steps, followed}
use Rattle.ck_prog.specs.Paths as part
use Rattle.ck_prog.specs.Paths.{Path, below}
use Rattle.ck_prog.specs.TypedTrees.{Typed, Steps, NoSteps}
use Rattle.ck_tables.specs.ExprTable.{steps_of, step_before}
use Rattle.ck_tables.specs.Program.{readings}
use Rattle.ck_tables.specs.declared.exprs.Step.{Step}
use Rattle.ck_tables.specs.declared.exprs.Step.TheVariants as steps
use Rattle.ck_tables.specs.declared.program.Linked.{Linked}
use Rattle.ck_tables.specs.declared.program_rows.CallInfo.{CallInfo}

step-calls : (l : Linked) (π : Path) (x : Typed) (before : Steps) (k : ℕ) (s : Step) (rest : Steps)
    → calls_in_steps π x before k (step_before (readings l) (tree l) s rest)
    ≡ calls_of_step l π x before k s
    ++ calls_in_steps π x (followed before (step_before (readings l) (tree l) s NoSteps)) (suc k) rest
step-calls l π x before k (steps.Index opening index facts) rest = refl
step-calls l π x before k (steps.Call opening function es facts) rest = refl
step-calls l π x before k (steps.Access is_dot name member facts) rest = refl
step-calls l π x before k (steps.PostIncrement token operator facts) rest = refl

module _ (w : Walk) (a b : List CallInfo) (π : Path) (x : Typed) (all : List Step) where
  -- before the first
  pub steps_start : a ≡ b → StepsLead w a b π x 0 (drop 0 all) all
  steps_start same =
      let l = tables w in
      let whole = calls_in_steps π x NoSteps 0 (steps_of (readings l) (tree l) all) in
      record { before = NoSteps; leads = subst (λ c. Leads w a c whole whole) same (leads_start w a whole) }

  module _ (i : ℕ) (s : Step) (low : i < length all) (is : s ≡ get_or all i s)
      (lead : StepsLead w a b π x i (drop i all) all) where
    rest-calls : (let l = tables w in
        calls_in_steps π x lead.before i (steps_of (readings l) (tree l) (drop i all))
        ≡ calls_of_step l π x lead.before i s
        ++ calls_in_steps π x (followed lead.before (step_before (readings l) (tree l) s NoSteps)) (suc i)
        (steps_of (readings l) (tree l) (drop (i + 1) all)))
    rest-calls =
        let l = tables w in
        ap (λ ss. calls_in_steps π x lead.before i (steps_of (readings l) (tree l) ss)) (drop-next all i s low is)
        ∙ step-calls l π x lead.before i s (steps_of (readings l) (tree l) (drop (i + 1) all))

    pub steps_more : (c : List CallInfo) → Adds w b c (calls_of_step (tables w) π x lead.before i s)
        → StepsLead w a c π x (i + 1) (drop (i + 1) all) all
    steps_more c adds =
        let l = tables w in
        let more = followed lead.before (step_before (readings l) (tree l) s NoSteps) in
        let rest = steps_of (readings l) (tree l) (drop (i + 1) all) in
        let number : suc i ≡ i + 1 = omega arith in
        record {
          before = more;
          leads =
              leads_more w a b c (calls_of_step l π x lead.before i s) (calls_in_steps π x more (i + 1) rest)
              (calls_in_steps π x lead.before i (steps_of (readings l) (tree l) (drop i all)))
              (calls_in_steps π x NoSteps 0 (steps_of (readings l) (tree l) all)) lead.leads adds
              (rest-calls
              ∙ ap (λ k. calls_of_step l π x lead.before i s ++ calls_in_steps π x more k rest) number);
        }

    -- the calls of the next suffix are some of the expression's
    pub step_among : (of primary : ℕ) → x ≡ tree (tables w) primary → IsRowOf (tables w) of primary all
        → AreAmong (calls_of_step (tables w) π x lead.before i s) (calls_in π (tree (tables w) of))
    step_among of primary same row =
        let l = tables w in
        let here = calls_of_step l π x lead.before i s in
        let more = followed lead.before (step_before (readings l) (tree l) s NoSteps) in
        let rest = calls_in_steps π x more (suc i) (steps_of (readings l) (tree l) (drop (i + 1) all)) in
        let first = calls_in (below π part.Primary) x in
        let whole = steps_of (readings l) (tree l) all in
        record {
          earlier = first ++ lead.leads.done;
          later = rest;
          are =
              ap (calls_in π) row.is
              ∙ ap (λ y. calls_in (below π part.Primary) y ++ calls_in_steps π y NoSteps 0 whole) (sym same)
              ∙ ap (λ cs. first ++ cs) (lead.leads.leads ∙ ap (λ cs. lead.leads.done ++ cs) rest-calls)
              ∙ sym (append_assoc first lead.leads.done (here ++ rest));
        }

  pub steps_end : (i : ℕ) → length all ≤ i → StepsLead w a b π x i (drop i all) all
      → Adds w a b (calls_in_steps π x NoSteps 0 (steps_of (readings (tables w)) (tree (tables w)) all))
  steps_end i past lead =
      let l = tables w in
      leads_end w a b (calls_in_steps π x lead.before i (steps_of (readings l) (tree l) (drop i all)))
      (calls_in_steps π x NoSteps 0 (steps_of (readings l) (tree l) all)) lead.leads
      (ap (λ ss. calls_in_steps π x lead.before i (steps_of (readings l) (tree l) ss)) (drop-none all i past))
