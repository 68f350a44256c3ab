-- The loop over specifiers, with their tally.
use Rattle.std.proofs.Common.{◌≡◌, ℕ, zero, suc, ◌+◌, ◌-◌, ◌<◌, ◌≤◌, Bool, true, false, List, [], ◌∷◌, length, drop}
use Rattle.std.proofs.Common.{refl, ap, sym}
use Rattle.std.proofs.Common.{◌∙◌, arith, length-drop}
use Rattle.std.specs.Prelude.{Some, None}
use Rattle.ck_base.specs.declared.tokens.Token.{Token}
use Rattle.ck_grammar.specs.Readers.{Read, Reader, or_else, onto}
use Rattle.ck_grammar.specs.ReadingTypes as reading
use Rattle.ck_grammar.specs.ReadingTypes.{specifier_loop}
use Rattle.ck_grammar.specs.Trees.{Specifiers, NoSpecifiers, Members, Enumerators}
use Rattle.ck_grammar.specs.Words.{Word, sort}
use Rattle.ck_grammar.specs.declared.classes.Sort.{Sort}
use Rattle.ck_grammar.specs.declared.classes.Sort.TheVariants.{Storage, Qualifier, Inline, TypeWord, StructWord}
use Rattle.ck_grammar.specs.declared.classes.Sort.TheVariants.{EnumWord, TypeName}
use Rattle.ck_readers.specs.Places.{after}
use Rattle.ck_type_readers.specs.Specifying.{HasTally, IsSpecifier, NoSpecifier, IsSpecified}
use Rattle.ck_type_readers.specs.Steps.{specifier_by, specifier_step, specifiers_from}
use Rattle.ck_tallies.specs.Tallies.{nothing, tallied, has_type}
use Rattle.ck_tallies.specs.declared.tallies.Tally.{Tally}

stepped : {B : Type 0} (old : B → B) (none : B × List Token) (answer : Read B) (all : B × List Token)
    → after old answer ≡ Some all → onto old (or_else none answer) ≡ all
stepped old none None all h = absurd (cc)
stepped old none (Some x) all h = cc

module _ (w : Token → Word) (members : Reader Members) (enumerators : Reader Enumerators) where
  name_goes : (go : Bool → List Token → Specifiers × List Token) (seen : Bool) (t : Token) (ts : List Token)
      → reading.specifier_by w members enumerators go seen TypeName t ts
      ≡ or_else (NoSpecifiers, t ∷ ts) (specifier_by w members enumerators go seen TypeName t ts)
  name_goes go true t ts = refl
  name_goes go false t ts = refl

  by_goes : (go : Bool → List Token → Specifiers × List Token) (seen : Bool) (s : Sort) (t : Token) (ts : List Token)
      → reading.specifier_by w members enumerators go seen s t ts
      ≡ or_else (NoSpecifiers, t ∷ ts) (specifier_by w members enumerators go seen s t ts)
  by_goes go seen StructWord t ts = refl
  by_goes go seen EnumWord t ts = refl
  by_goes go seen TypeName t ts = name_goes go seen t ts
  by_goes go seen Storage t ts = refl
  by_goes go seen Qualifier t ts = refl
  by_goes go seen Inline t ts = refl
  by_goes go seen TypeWord t ts = refl
  by_goes go seen _ t ts = refl

  goes : (fuel : ℕ) (seen : Bool) (ts : List Token)
      → specifier_loop w members enumerators (suc fuel) seen ts
      ≡ or_else (NoSpecifiers, ts)
      (specifier_step w members enumerators (specifier_loop w members enumerators fuel) seen ts)
  goes fuel seen [] = refl
  goes fuel seen (t ∷ ts) = by_goes (specifier_loop w members enumerators fuel) seen (sort (w t)) t ts

  -- what is read from the start is what the row has, of which this is the tally, and then what is read from here
  pub record SoFar (row : Specifiers → Specifiers) (tally : Tally) (tokens : List Token)
      (at here fuel : ℕ) : Type 0 where
    pub read : specifiers_from w members enumerators (drop at tokens)
        ≡ onto row (specifier_loop w members enumerators fuel (has_type tally) (drop here tokens))
    pub told : HasTally w row tally
    pub within : at ≤ length tokens → here ≤ length tokens

  pub starts : (row : Specifiers → Specifiers) (tokens : List Token) (at : ℕ)
      → ((rest : Specifiers) → row rest ≡ rest) → SoFar row nothing tokens at at (length tokens - at)
  starts row tokens at empty = record {
    read =
        ap (λ n. specifier_loop w members enumerators n false (drop at tokens)) (length-drop at tokens)
        ∙ sym (ap (λ s. (s, (specifier_loop w members enumerators (length tokens - at) false (drop at tokens)).1))
        (empty (specifier_loop w members enumerators (length tokens - at) false (drop at tokens)).0));
    told = λ rest. ap (tallied w nothing) (empty rest);
    within = λ h. h;
  }

  module _ {old new : Specifiers → Specifiers} {tally : Tally} {tokens : List Token} {at here step end : ℕ} where
    pub goes_on : {found : Tally × ℕ} → step < end → end ≡ length tokens
        → SoFar old tally tokens at here (length tokens - step)
        → IsSpecifier w old new (specifier_step w members enumerators) tokens tally here found
        → SoFar new found.0 tokens at found.1 (length tokens - (step + 1))
    goes_on more is far one =
        let fuel : ℕ = length tokens - (step + 1) in
        let e : length tokens - step ≡ suc fuel = omega arith in
        let f = rw e at far in
        record {
          read =
              f.read ∙ ap (onto old) (goes fuel (has_type tally) (drop here tokens))
              ∙ stepped old _ _ _ (one.read (specifier_loop w members enumerators fuel));
          told = one.told f.told;
          within = λ h. one.within (f.within h);
        }

    pub stops_here : step < end → end ≡ length tokens → SoFar old tally tokens at here (length tokens - step)
        → NoSpecifier w old new (specifier_step w members enumerators) tokens tally here
        → specifiers_from w members enumerators (drop at tokens) ≡ (new NoSpecifiers, drop here tokens)
    stops_here more is far one =
        let fuel : ℕ = length tokens - (step + 1) in
        let e : length tokens - step ≡ suc fuel = omega arith in
        let f = rw e at far in
        f.read ∙ ap (onto old) (goes fuel (has_type tally) (drop here tokens))
        ∙ ap (λ r. onto old (or_else (NoSpecifiers, drop here tokens) r))
        (one.none (specifier_loop w members enumerators fuel))
        ∙ ap (λ s. (s, drop here tokens)) (sym (one.stays NoSpecifiers))

  tally_stops : {old new : Specifiers → Specifiers} {tally : Tally} {tokens : List Token} {at here fuel : ℕ}
      → SoFar old tally tokens at here fuel
      → NoSpecifier w old new (specifier_step w members enumerators) tokens tally here
      → tallied w nothing (new NoSpecifiers) ≡ tally
  tally_stops far one = ap (tallied w nothing) (one.stays NoSpecifiers) ∙ far.told NoSpecifiers

  module _ {R : Type 0} (view : R → Specifiers → Specifiers) (row : R) {tally : Tally} {tokens : List Token}
      {at here step end : ℕ} where
    pub stopped : {old : Specifiers → Specifiers} → step < end → end ≡ length tokens
        → SoFar old tally tokens at here (length tokens - step)
        → NoSpecifier w old (view row) (specifier_step w members enumerators) tokens tally here
        → IsSpecified view w (specifiers_from w members enumerators) tokens at ((row, tally), here)
    stopped more is far one = record {
      read = stops_here more is far one;
      told = tally_stops far one;
      within = far.within;
    }

    pub ended : end ≤ step → end ≡ length tokens → SoFar (view row) tally tokens at here (length tokens - step)
        → IsSpecified view w (specifiers_from w members enumerators) tokens at ((row, tally), here)
    ended over is far =
        let e : length tokens - step ≡ zero = omega arith in
        let f = rw e at far in
        record { read = f.read; told = f.told NoSpecifiers; within = f.within }
