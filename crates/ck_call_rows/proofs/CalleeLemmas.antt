-- What a call calls.
use Rattle.std.proofs.Common.{◌≡◌, ◌<◌, true, false, Option, Some, None, length, get_or, refl, sym, ap, subst, ◌∙◌}
use Rattle.std.specs.Option.{is_none, option_map}
use Rattle.ck_base.specs.declared.spans.FnId.{FnId}
use Rattle.ck_call_rows.specs.TypedRows.{project, number_of_function}
use Rattle.ck_call_rows.proofs.Elements.{seen-at}
use Rattle.ck_call_rows.specs.Naming.{CalledAs, called_as}
use Rattle.ck_call_rows.specs.Walks.{tables, Tells, callee_by, IsNamedCallee}
use Rattle.ck_call_rows.specs.declared.walk.Walk.{Walk}
use Rattle.ck_graph.specs.declared.points.ActName.{ActName}
use Rattle.ck_prog.specs.Acts.{act_of}
use Rattle.ck_prog.specs.Calls as calls
use Rattle.ck_prog.specs.Calls.{CallSite, function_number, number_of}
use Rattle.ck_prog.specs.Declarations.{Entry}
use Rattle.ck_tables.specs.Program.{functions, entry_of}
use Rattle.ck_tables.specs.declared.facts.EntryId.{EntryId}
use Rattle.ck_tables.specs.declared.program.Linked.{Linked}
use Rattle.ck_tables.specs.declared.program_rows.Callee.{Callee}
use Rattle.ck_tables.specs.declared.program_rows.Callee.TheVariants as callees
use Rattle.ck_tables.specs.declared.program_rows.ProgramRows.{ProgramRows}
use Rattle.ck_tables.specs.declared.program_rows.UseInfo.{UseInfo}

module _ (l : Linked) (r : ProgramRows) (c : CallSite) where
  -- of an expression
  pub tells_expression : c.function ≡ None → Tells l r c (Some callees.Expression)
  tells_expression named =
      let k = project l r in
      let fs = functions l in (
        ap (λ f. is_none (act_of k f)) named,
        sym (ap (λ f. calls.kind_by fs c (act_of k f) (number_of fs f)) named),
      )

  module _ (e : Entry) (named : c.function ≡ Some e) where
    -- by the name of a declaration
    pub tells_named : (act : Option ActName) (function : Option FnId) → act ≡ act_of (project l r) (Some e)
        → option_map number_of_function function ≡ function_number (functions l) e
        → Tells l r c (callee_by act function)
    tells_named (Some act) function is number =
        ap (λ f. is_none (act_of (project l r) f)) named ∙ ap is_none (sym is)
    tells_named None (Some function) is number =
        let k = project l r in
        let fs = functions l in (
          ap (λ f. is_none (act_of k f)) named ∙ ap is_none (sym is),
          sym (ap (λ f. calls.kind_by fs c (act_of k f) (number_of fs f)) named
              ∙ ap (λ a. calls.kind_by fs c a (function_number fs e)) (sym is)
              ∙ ap (calls.kind_by fs c None) (sym number)),
        )
    tells_named None None is number =
        let k = project l r in
        let fs = functions l in (
          ap (λ f. is_none (act_of k f)) named ∙ ap is_none (sym is),
          sym (ap (λ f. calls.kind_by fs c (act_of k f) (number_of fs f)) named
              ∙ ap (λ a. calls.kind_by fs c a (function_number fs e)) (sym is)
              ∙ ap (calls.kind_by fs c None) (sym number)),
        )

-- of the name of a declaration with this row
pub callee_told : (w : Walk) (entry : EntryId) (u : UseInfo) (callee : Option Callee) → entry.0 < length w.uses.now
    → u ≡ get_or w.uses.now entry.0 u → callee ≡ callee_by u.act u.function → IsNamedCallee w entry callee
callee_told w entry u callee low is same =
    record {
      tells =
          λ r s used named.
          let l = tables w in
          let there = seen-at called_as r.uses.rows.items w.uses.now entry.0 u used.uses low is in
          let called = used.names.each entry.0 there.element there.at in
          subst (Tells l r s) (sym same)
          (tells_named l r s (entry_of l entry.0) named u.act u.function
          (sym (ap (λ (v : CalledAs). v.act) there.seen) ∙ called.act)
          (ap (option_map number_of_function) (sym (ap (λ (v : CalledAs). v.function) there.seen)) ∙ called.function));
    }
