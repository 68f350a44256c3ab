-- The edges of a function stay in it: each of its points is a known place.
use Rattle.std.specs.Prelude.{List, Contains, refl}
use Rattle.std.specs.List.{AllByRecursion as Each}
use Rattle.std.proofs.lemmas.List.Elements.{All-contains_itself, All-contains, All-from_recursion, recursion_from_All}
use Rattle.std.proofs.lemmas.List.Elements.{All-weaker}
use Rattle.ck_points.specs.Functions.{points}
use Rattle.ck_points.specs.Laws.{HasPlace, EdgesStay}
use Rattle.ck_points.specs.Places.{Point}
use Rattle.ck_points.proofs.PassagesStay.{EdgesKnown}
use Rattle.ck_points.proofs.StatementsStay.{whole_leads}

its_own : (ps : List Point) (q : Point) → Contains ps q → HasPlace ps q.place
its_own ps q listed = record { point = q; listed = listed; is = refl }

all_known : (ps : List Point) → Each (λ q. HasPlace ps q.place) ps
all_known ps =
    recursion_from_All (λ q. HasPlace ps q.place) ps
    (All-weaker (Contains ps) (λ q. HasPlace ps q.place) (its_own ps) ps (All-contains_itself ps))

pub edges_stay : EdgesStay
edges_stay f d listed e there =
    let K = HasPlace (points f) in
    let l = whole_leads K f (all_known (points f)) in
    let each = All-from_recursion (λ q. EdgesKnown K q.edges) (points f) l.edges in
    let own = All-contains (λ q. EdgesKnown K q.edges) (points f) d each listed in
    All-contains (λ e. K e.way.to) d.edges e (All-from_recursion (λ e. K e.way.to) d.edges own) there
