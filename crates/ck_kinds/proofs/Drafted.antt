-- Points of a list that is moved, each with its draft.
use Rattle.std.proofs.Common.{◌≡◌, List, sym, ◌∙◌}
use Rattle.std.specs.Prelude.{Option, None}
use Rattle.std.specs.Iterator.{Yields}
use Rattle.std.proofs.lemmas.Iterator.{YieldsList}
use Rattle.std.proofs.lemmas.Iterator.Consumers.{YieldsList-end}
use Rattle.std.proofs.lemmas.List.{map-id}

-- all came, where nothing comes
pub ended : {S X : Type 0} {steps : S → Option X → S → Type 0} {s : S} {all : List X}
    → YieldsList steps (λ x. x) s all → (xs : List X) (t : S) → Yields steps s xs t → (r : Option X) (u : S)
    → r ≡ None → steps t r u → xs ≡ all
ended road xs t yielded r u none step = sym (map-id xs) ∙ (YieldsList-end road xs t yielded r u none step).0
