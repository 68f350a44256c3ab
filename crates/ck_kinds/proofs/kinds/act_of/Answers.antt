use Rattle.std.proofs.Common.{ap, sym, ◌∙◌}
use Rattle.ck_call_rows.specs.TypedRows.{project}
use Rattle.ck_passages.specs.Points.{declared_at}
use Rattle.ck_prog.specs.Acts.{act_of}
use Rattle.ck_kinds.proofs.kinds.act_of.Goals as goal

pub returns-in-Some : goal.returns-in-Some
returns-in-Some c =
    let p = c.args.program.now in
    record {
      act =
          c.act_of_entry.ensures.act
          ∙ ap (λ n. act_of (project p.linked p.rows) (declared_at p.linked n)) (sym c.in-Some.is);
      fits = c.act_of_entry.ensures.fits;
    }
