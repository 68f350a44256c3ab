use Rattle.std.proofs.Common.{◌<◌, ◌≤◌, length, ap, sym, subst, ◌∙◌}
use Rattle.ck_kinds.proofs.ActLemmas.{row-get, act-fits}
use Rattle.ck_call_rows.specs.TypedRows.{project}
use Rattle.ck_passages.proofs.NamedEntries.{declared-within, declared-past}
use Rattle.ck_prog.specs.Acts.{act_of}
use Rattle.ck_kinds.proofs.kinds.act_of_entry.Goals as goal

pub use_of-requires : goal.use_of-requires
use_of-requires c =
    subst (λ xs. c.args.entry.0 < length xs)
    (c.as_slice-declarations.ensures ∙ ap (λ l. l.entries.rows.items) c.linked.ensures) c.if-at-declarations.true

pub returns-then-at-declarations : goal.returns-then-at-declarations
returns-then-at-declarations c =
    let p = c.args.program.now in
    let e = c.args.entry in
    let u = c.use_of.result in
    let named = c.requires.names e.0 u (row-get p.rows.uses.rows.items e.0 u c.use_of.ensures.row) in
    let within =
    subst (λ xs. e.0 < length xs)
    (c.as_slice-declarations.ensures ∙ ap (λ l. l.entries.rows.items) c.linked.ensures) c.if-at-declarations.true in
    record {
      act = named.act ∙ ap (act_of (project p.linked p.rows)) (sym (declared-within p.linked e within));
      fits = act-fits p.linked p.rows u c.use_of.ensures.fits;
    }

pub returns-else-at-declarations : goal.returns-else-at-declarations
returns-else-at-declarations c =
    let p = c.args.program.now in
    let e = c.args.entry in
    let past =
    subst (λ xs. length xs ≤ e.0)
    (c.as_slice-declarations.ensures ∙ ap (λ l. l.entries.rows.items) c.linked.ensures) c.if-at-declarations.false in
    record { act = ap (act_of (project p.linked p.rows)) (sym (declared-past p.linked e past)); fits = tt }
