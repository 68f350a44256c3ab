use Rattle.std.proofs.Common.{◌≡◌, ap, ◌∙◌, subst, sym, replicate}
use Rattle.ck_paths.specs.Found.{AreLinked, last_at}
use Rattle.ck_paths.proofs.Links.{linked-none, last-zeros}
use Rattle.ck_paths.proofs.found.Found.new.Goals as goal

pub returns-clause-linked : goal.returns-clause-linked
returns-clause-linked c =
    let same : c.in_ok-last.last.items ≡ replicate c.points.result 0 =
    c.in_ok-last.ensures.items_if_clones_equal (λ y e. e) in
    subst (λ places. AreLinked places c.in_ok-last.last.items) (sym c.new-places.ensures.items)
    (linked-none c.in_ok-last.last.items (λ p. ap (λ xs. last_at xs p) same ∙ last-zeros c.points.result p))
