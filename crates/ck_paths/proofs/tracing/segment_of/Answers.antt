use Rattle.std.proofs.lemmas.List.Sorted.{searched}
use Rattle.ck_paths.proofs.Traces.{never-lost, never-falls}
use Rattle.ck_paths.proofs.tracing.segment_of.Goals as goal

pub returns-in-Err : goal.returns-in-Err
returns-in-Err c = λ listed.
    let exits = c.args.exits.now in
    let answer = searched exits c.args.exit c.binary_search.result c.binary_search.ensures.position
    (never-falls exits c.requires.ascending) in
    let lost = rw c.in-Err.is at answer in
    absurd (never-lost exits c.args.exit c.in-Err.field-0 lost.1 lost.2 listed)
