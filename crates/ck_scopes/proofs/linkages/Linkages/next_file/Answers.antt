use Rattle.std.proofs.Common.{subst, sym}
use Rattle.std.specs.Prelude.{reverse}
use Rattle.ck_scopes.specs.LinksKept.{links_of, AreNoted}
use Rattle.ck_scopes.proofs.LinkLemmas.{noted_next}
use Rattle.ck_scopes.proofs.linkages.Linkages.next_file.Goals as goal

pub invariant_of-self : goal.invariant_of-self
invariant_of-self c =
    let rows = reverse c.self.inside.rows.items in
    subst (λ f. AreNoted (links_of rows f) c.self.inside.external c.self.inside.linked) (sym c.in-Some.ensures.1)
    (noted_next (links_of rows c.self.inside.file) c.self.inside.external c.self.inside.linked c.self.invariant)
