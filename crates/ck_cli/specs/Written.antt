-- What was added to a text.
use Rattle.std.specs.Prelude.{◌≡◌, ℕ, List, ◌++◌}
use Rattle.std.specs.List.{flat_map}
use Rattle.ck_cli.specs.declared.form.Call.{Call}
use Rattle.ck_cli.specs.Placed.{IsPlaced, ArePlaced}
use Rattle.ck_cli.specs.Texts.{PlacedCall, act_line}

-- the line of a call that was taken
pub record IsActWritten (bytes : List ℕ) (c : Call) (old new : List ℕ) : Type 0 where
  pub act : PlacedCall
  pub placed : IsPlaced bytes c act
  pub written : new ≡ old ++ act_line act

-- a line for each call that was taken
pub record AreActsWritten (bytes : List ℕ) (calls : List Call) (old new : List ℕ) : Type 0 where
  pub acts : List PlacedCall
  pub placed : ArePlaced bytes calls acts
  pub written : new ≡ old ++ flat_map act_line acts
