-- Drafts that may be numbered: those of all functions of some program that keeps the limit of points.
use Rattle.std.specs.Prelude.{◌≡◌, List, None, Vec}
use Rattle.ck_drafts.specs.Drafts.{AreDrafts}
use Rattle.ck_drafts.specs.declared.drafts.Draft.{Draft}
use Rattle.ck_points.specs.Graphs.{Program, passing_limit}

pub record AreNumberable {A : Type 0} (all : List (Vec Draft A)) : Type 0 where
  pub program : Program
  pub drafted : AreDrafts program all
  pub kept : passing_limit program.functions ≡ None
