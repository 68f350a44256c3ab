-- The points of a whole function: those of its body, where it is entered and left, and the exit. So a call, and an act
-- by which a function is entered or left, has one edge, and the exit none.
use Rattle.std.specs.Prelude.{◌≡◌, ℕ, Bool, true, false, List, [], ◌∷◌, length, Contains, refl, if◌then◌else◌}
use Rattle.std.specs.List.{AllByRecursion as Each}
use Rattle.std.proofs.lemmas.List.Elements.{All-contains, All-from_recursion}
use Rattle.ck_prog.specs.TypedBodies.{TypedFunction}
use Rattle.ck_points.specs.Functions.{inside, plain_body, pair_body, pair_left, exit, status_in, points}
use Rattle.ck_points.specs.Laws.{FitsHappening, EdgesFit}
use Rattle.ck_points.specs.Passages.{Passage}
use Rattle.ck_points.specs.Places.{Happening, Passes, Calls, EntersPair, LeavesPair, Ends, Point, Way, leads}
use Rattle.ck_points.specs.Places.{Before, Enter, Leave, place}
use Rattle.ck_points.proofs.ExpressionsApart.{From}
use Rattle.ck_points.proofs.OrdinaryPoints.{IsOrdinary, Ordinary}
use Rattle.ck_points.proofs.PassagesStay.{each_append}
use Rattle.ck_points.proofs.StatementsApart.{inside_below}

-- a point of a function: one of the body, or one of the function's own
pub data Kind (q : Point) : Type 0 where
  Inner : From [] 0 q.place.path → Ordinary q → Kind q
  First : q.place ≡ place [] [] Before → q.happening ≡ Passes → Kind q
  Entered : q.place ≡ place [] [] Enter → q.happening ≡ EntersPair → length q.edges ≡ 1 → Kind q
  Left : q.place ≡ place [] [] Leave → q.happening ≡ LeavesPair → length q.edges ≡ 1 → Kind q
  Last : q.place ≡ exit → q.happening ≡ Ends → length q.edges ≡ 0 → Kind q

all_inner : (qs : List Point) → Each (λ q. From [] 0 q.place.path) qs → Each Ordinary qs → Each Kind qs
all_inner [] from each = tt
all_inner (q ∷ qs) from each = (Inner from.0 each.0, all_inner qs from.1 each.1)

inside_kinds : (f : TypedFunction) (out : Way) → Each Kind (inside f out).points
inside_kinds f out = let b = inside_below f out in all_inner (inside f out).points b.from b.ordinary

either_kind : (b : Bool) (p q : Passage) → Each Kind p.points → Each Kind q.points
    → Each Kind (if b then p else q).points
either_kind true p q left right = left
either_kind false p q left right = right

all_kinds : (f : TypedFunction) → Each Kind (points f)
all_kinds f =
    let name = f.declared.entry.at in
    let paired = inside f (leads pair_left) in
    let plain = inside f (leads exit) in
    either_kind (status_in f.items) (pair_body name paired) (plain_body name plain) (
      First refl refl,
      (
        Entered refl refl refl,
        each_append Kind paired.points _ (inside_kinds f (leads pair_left))
            (Left refl refl refl, (Last refl refl refl, tt)),
      ),
    ) (
      First refl refl,
      each_append Kind plain.points _ (inside_kinds f (leads exit)) (Last refl refl refl, tt),
    )

pub kind_of_point : (f : TypedFunction) (d : Point) → Contains (points f) d → Kind d
kind_of_point f d listed = All-contains Kind (points f) d (All-from_recursion Kind (points f) (all_kinds f)) listed

-- edges --------------------------------------------------------------------------------------------------------------

fits_ordinary : (h : Happening) (n : ℕ) → IsOrdinary h n → FitsHappening h n
fits_ordinary Passes n is = tt
fits_ordinary (Calls function) n is = is
fits_ordinary EntersPair n is = absurd is
fits_ordinary LeavesPair n is = absurd is
fits_ordinary Ends n is = absurd is

fits_kind : (d : Point) → Kind d → FitsHappening d.happening (length d.edges)
fits_kind d (Inner f is) = fits_ordinary d.happening (length d.edges) is
fits_kind d (First at is) = rw is tt
fits_kind d (Entered at is one) = rw is one
fits_kind d (Left at is one) = rw is one
fits_kind d (Last at is none) = rw is none

pub edges_fit : EdgesFit
edges_fit f d listed = fits_kind d (kind_of_point f d listed)
