-- Drafts of a whole function.
use Rattle.std.specs.Prelude.{◌≡◌, List, Contains}
use Rattle.ck_drafts.specs.Drafts.{PlainEdge, PlainDraft}
use Rattle.ck_points.specs.Functions.{entry, exit}
use Rattle.ck_points.specs.Places.{Place}
use Rattle.ck_numbering.specs.PlaceOrder.{ArePlacedApart}

-- one of these is at this place
pub record HasDraftAt (ds : List PlainDraft) (at : Place) : Type 0 where
  pub draft : PlainDraft
  pub listed : Contains ds draft
  pub is : draft.at ≡ at

-- each edge of one of these leads to one of those
pub record AllLeadInto (those these : List PlainDraft) : Type 0 where
  pub there : (d : PlainDraft) → Contains these d → (e : PlainEdge) → Contains d.edges e → HasDraftAt those e.to

-- they are at different places, their edges lead to them, and the function's entry and exit are among them
pub record AreClosed (ds : List PlainDraft) : Type 0 where
  pub differ : ArePlacedApart ds
  pub stay : AllLeadInto ds ds
  pub entered : HasDraftAt ds entry
  pub left : HasDraftAt ds exit
