-- The drafts of a whole function lead to one another.
use Rattle.std.proofs.Common.{◌≢◌, refl, sym, ap, subst, arith}
use Rattle.std.specs.Prelude.{ℕ, Bool, true, false, List, ◌∷◌, [], ◌++◌, map, Contains, if◌then◌else◌}
use Rattle.std.specs.List.Sorted.{IsPermutation}
use Rattle.std.proofs.lemmas.List.Elements.{Contains-append_right}
use Rattle.std.proofs.lemmas.List.Sorted.{Contains-permutation, IsPermutation-sym}
use Rattle.ck_base.specs.declared.tokens.Token.{Token}
use Rattle.ck_drafts.specs.Drafts.{PlainDraft, PlainEdge, point_drafted, edge_drafted}
use Rattle.ck_graph.specs.declared.points.Label.TheVariants.{Plain}
use Rattle.ck_points.specs.Functions.{points, entry, exit, status_in, plain_body, pair_body, inside, pair_left, ending}
use Rattle.ck_points.specs.Functions.{pair_entered as at_enter}
use Rattle.ck_points.specs.Graphs.{Program}
use Rattle.ck_points.specs.Laws.{HasPlace, EdgesStay, PlacesDiffer}
use Rattle.ck_points.specs.Passages.{Passage, passing}
use Rattle.ck_points.specs.Places.{Place, Passes, EntersPair, LeavesPair, Ends, Point, edge, leads}
use Rattle.ck_prog.specs.TypedBodies.{TypedFunction}
use Rattle.ck_numbering.specs.Closed.{HasDraftAt, AreClosed}
use Rattle.ck_numbering.proofs.ListLemmas.{AllPairs-map, Contains-map, Contains-from_map}
use Rattle.ck_numbering.proofs.Sorting.{apart_after_permutation}

-- the ends of a body -------------------------------------------------------------------------------------------------

has_head : (q : Point) (ps : List Point) → HasPlace (q ∷ ps) q.place
has_head q ps = record { point = q; listed = (0, omega arith, refl); is = refl }

has_after : (ps qs : List Point) (at : Place) → HasPlace qs at → HasPlace (ps ++ qs) at
has_after ps qs at has =
    record { point = has.point; listed = Contains-append_right ps qs has.point has.listed; is = has.is }

either : (b : Bool) (x y : Passage) (at : Place) → HasPlace x.points at → HasPlace y.points at
    → HasPlace (if b then x else y).points at
either true x y at first second = first
either false x y at first second = second

plain_entered : (name : Token) (s : Passage) → HasPlace (plain_body name s).points entry
plain_entered name s =
    has_head (record { place = entry; happening = Passes; site = name; edges = edge Plain s.enters ∷ [] }) _

pair_entered : (name : Token) (s : Passage) → HasPlace (pair_body name s).points entry
pair_entered name s =
    has_head (record { place = entry; happening = Passes; site = name; edges = edge Plain (leads at_enter) ∷ [] }) _

left_from : (name : Token) → HasPlace (ending name).points exit
left_from name = has_head (record { place = exit; happening = Ends; site = name; edges = [] }) []

plain_left : (name : Token) (s : Passage) → HasPlace (plain_body name s).points exit
plain_left name s =
    has_after (passing entry Passes name s.enters).points _ exit
    (has_after s.points (ending name).points exit (left_from name))

pair_left_too : (name : Token) (s : Passage) → HasPlace (pair_body name s).points exit
pair_left_too name s =
    has_after (passing entry Passes name (leads at_enter)).points _ exit
    (has_after (passing at_enter EntersPair name s.enters).points _ exit
    (has_after s.points _ exit
    (has_after (passing pair_left LeavesPair name (leads exit)).points (ending name).points exit (left_from name))))

body_entered : (f : TypedFunction) → HasPlace (points f) entry
body_entered f =
    let name = f.declared.entry.at in
    either (status_in f.items) (pair_body name (inside f (leads pair_left))) (plain_body name (inside f (leads exit)))
    entry (pair_entered name (inside f (leads pair_left))) (plain_entered name (inside f (leads exit)))

body_left : (f : TypedFunction) → HasPlace (points f) exit
body_left f =
    let name = f.declared.entry.at in
    either (status_in f.items) (pair_body name (inside f (leads pair_left))) (plain_body name (inside f (leads exit)))
    exit (pair_left_too name (inside f (leads pair_left))) (plain_left name (inside f (leads exit)))

-- drafts of a function -----------------------------------------------------------------------------------------------

module _ (stay : EdgesStay) (differ : PlacesDiffer) (p : Program) (i : ℕ) (f : TypedFunction) (ds : List PlainDraft)
    (drafted : IsPermutation (map (point_drafted p i f) (points f)) ds) where
  drafted_at : (at : Place) → HasPlace (points f) at → HasDraftAt ds at
  drafted_at at has =
      record {
        draft = point_drafted p i f has.point;
        listed =
            Contains-permutation (map (point_drafted p i f) (points f)) ds (point_drafted p i f has.point) drafted
            (Contains-map (point_drafted p i f) (points f) has.point has.listed);
        is = has.is;
      }

  leads_there : (d : PlainDraft) → Contains ds d → (e : PlainEdge) → Contains d.edges e → HasDraftAt ds e.to
  leads_there d listed e there =
      let (q, own, is) = Contains-from_map (point_drafted p i f) (points f) d
      (Contains-permutation ds (map (point_drafted p i f) (points f)) d
      (IsPermutation-sym (map (point_drafted p i f) (points f)) ds drafted) listed) in
      let (g, of, made) = Contains-from_map edge_drafted q.edges e
      (subst (λ x. Contains x.edges e) (sym is) there) in
      subst (HasDraftAt ds) (ap (λ (x : PlainEdge). x.to) made) (drafted_at g.way.to (stay f q own g of))

  pub closed : AreClosed ds
  closed =
      record {
        differ =
            apart_after_permutation (map (point_drafted p i f) (points f)) ds drafted
            (record { apart = AllPairs-map (λ a b. a.at ≢ b.at) (point_drafted p i f) (points f) (differ f) });
        stay = record { there = leads_there };
        entered = drafted_at entry (body_entered f);
        left = drafted_at exit (body_left f);
      }
