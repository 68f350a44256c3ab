-- What is said of each point of a graph, at the point of a number.
use Rattle.std.proofs.Common.{◌≡◌, ℕ, ◌<◌, List, length, get_or, ap, sym, subst, ◌∙◌, arith}
use Rattle.std.specs.Prelude.{map}
use Rattle.std.specs.List.{All}
use Rattle.std.proofs.lemmas.List.{get_or-map, length-map}
use Rattle.ck_base.specs.declared.ops.Op.{Op}
use Rattle.ck_base.specs.declared.refusals.Spot.{Spot}
use Rattle.ck_graph.specs.declared.points.ActName.{ActName}
use Rattle.ck_graph.specs.declared.points.PointKind.{PointKind}
use Rattle.ck_graph.specs.declared.points.PointKind.TheVariants.{Act}
use Rattle.ck_graph.specs.Flow.{Flow, Point, no_point, point_at, point_count}
use Rattle.ck_lexer.specs.declared.places.PlaceMap.{PlaceMap}
use Rattle.ck_texts.specs.Placed.{AreNamesOf, HasActName, HasName, IsSitePlaced}
use Rattle.ck_texts.specs.Views.{Names}

pub at_point : (P : Point → Type 0) (flow : Flow) (n : ℕ) → All P flow.points → n < point_count flow
    → P (point_at flow n)
unfolding point_at
at_point P flow n all there = all n no_point there

-- the name of a point's act is there
pub HasActName-at : (flow : Flow) (names : Names) (maps : List PlaceMap) (n : ℕ) (kind : PointKind) (op : Op)
    (act : ActName) → AreNamesOf flow names maps → n < point_count flow → kind ≡ (point_at flow n).kind
    → kind ≡ Act op act
    → HasActName names act
HasActName-at flow names maps n kind op act are there is is_act =
    subst (HasName names) (sym is ∙ is_act) (at_point (λ point. HasName names point.kind) flow n are.acts there)

pub IsSitePlaced-at : (flow : Flow) (names : Names) (maps : List PlaceMap) (n : ℕ) (site : Spot)
    → AreNamesOf flow names maps → n < point_count flow → site ≡ (point_at flow n).site → IsSitePlaced maps site
IsSitePlaced-at flow names maps n site are there is =
    subst (IsSitePlaced maps) (sym is) (at_point (λ point. IsSitePlaced maps point.site) flow n are.places there)

-- what holds of the views of elements holds of an element's
pub All-view : {X A : Type 0} (P : A → Type 0) (view : X → A) (xs : List X) (k : ℕ) (x : X) → All P (map view xs)
    → k < length xs → x ≡ get_or xs k x → P (view x)
All-view P view xs k x all below is =
    subst P (get_or-map view xs k x (view x) below ∙ sym (ap view is))
    (all k (view x) (omega (arith, below, length-map xs view)))
