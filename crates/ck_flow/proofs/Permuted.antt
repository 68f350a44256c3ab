-- The drafts of drawn points are those of the definition's, from the last to the first.
use Rattle.std.proofs.Common.{◌≡◌, ℕ, List, [], ◌∷◌, ◌++◌, map, refl, sym, ap, subst, ◌∙◌}
use Rattle.std.proofs.lemmas.List.{map-append}
use Rattle.std.proofs.lemmas.List.Sorted.{IsPermutation-refl, IsPermutation-sym, IsPermutation-cons}
use Rattle.std.proofs.lemmas.List.Sorted.{IsPermutation-to_front, IsPermutation-trans}
use Rattle.std.specs.List.Sorted.{IsPermutation}
use Rattle.ck_drafts.specs.Drafts.{point_drafted, plain_draft, AreDraftsOf}
use Rattle.ck_drafts.specs.declared.drafts.Draft.{Draft}
use Rattle.ck_kinds.specs.KindedDrafts.{with_kind, flow_program, drafted}
use Rattle.ck_passages.specs.Points.{added, without_deeds, plain_point}
use Rattle.ck_passages.specs.declared.drawing.PassagePoint.{PassagePoint}
use Rattle.ck_points.specs.Functions.{points}
use Rattle.ck_points.specs.Graphs.{Program}
use Rattle.ck_points.specs.Places.{Point}
use Rattle.ck_prog.specs.TypedBodies.{TypedFunction}
use Rattle.ck_tables.specs.declared.program.Linked.{Linked}
use Rattle.ck_tables.specs.declared.program_rows.ProgramRows.{ProgramRows}

module _ (p : Program) (i : ℕ) (f : TypedFunction) where
  kinded-added : (ds : List Point) →
      IsPermutation (map (point_drafted p i f) ds) (map (with_kind p i f) (added [] ds))
  kinded-added [] = IsPermutation-refl []
  kinded-added (d ∷ ds) =
      let made = map (with_kind p i f) (added [] ds) in
      let own = point_drafted p i f d in
      subst (λ xs. IsPermutation (own ∷ map (point_drafted p i f) ds) xs)
      (sym (map-append (with_kind p i f) (added [] ds) (without_deeds d ∷ [])))
      (IsPermutation-trans _ _ _ (IsPermutation-cons own _ _ (kinded-added ds))
      (IsPermutation-sym (made ++ own ∷ []) (own ∷ made) (IsPermutation-to_front made own)))

module _ (l : Linked) (r : ProgramRows) (i : ℕ) (f : TypedFunction) where
  twice : (ds : List PassagePoint) →
      map (drafted l r i f) ds ≡ map (with_kind (flow_program l r) i f) (map (plain_point l) ds)
  twice [] = refl
  twice (d ∷ ds) = ap (λ xs. drafted l r i f d ∷ xs) (twice ds)

  pub are-drafts : (ds : List PassagePoint) (made : List Draft) → map (plain_point l) ds ≡ added [] (points f) →
      map plain_draft made ≡ map (drafted l r i f) ds → AreDraftsOf (flow_program l r) i f made
  are-drafts ds made drawn are =
      let p = flow_program l r in
      subst (IsPermutation (map (point_drafted p i f) (points f)))
      (sym (are ∙ twice ds ∙ ap (map (with_kind p i f)) drawn)) (kinded-added p i f (points f))
