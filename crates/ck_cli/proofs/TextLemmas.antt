-- One piece of text after the other.
use Rattle.std.proofs.Common.{◌≡◌, ℕ, ◌+◌, ◌<◌, List, [], ◌∷◌, ◌++◌, length, take, get_or, refl, sym, ap, ◌∙◌, subst}
use Rattle.std.proofs.Common.{append_assoc, add-one}
use Rattle.std.specs.Prelude.{codes}
use Rattle.std.proofs.lemmas.List.{flat_map_more}
use Rattle.std.proofs.Math.Seq.{take-suc}
use Rattle.ck_lexer.specs.Places.{Place}
use Rattle.ck_cli.specs.declared.form.Call.{Call}
use Rattle.ck_cli.specs.Calls.{name_of}
use Rattle.ck_cli.specs.Texts.{PlacedCall, act_line, at_place}
use Rattle.ck_cli.specs.Placed.{IsPlaceInMain, IsPlaced, ArePlaced}
use Rattle.ck_cli.specs.Written.{IsActWritten, AreActsWritten}

-- seven pieces, added to nothing
pub seven_pieces : (start s1 s2 s3 s4 s5 s6 s7 a1 a2 a3 a4 a5 a6 a7 : List ℕ)
    → start ≡ [] → s1 ≡ start ++ a1 → s2 ≡ s1 ++ a2 → s3 ≡ s2 ++ a3 → s4 ≡ s3 ++ a4 → s5 ≡ s4 ++ a5 → s6 ≡ s5 ++ a6
    → s7 ≡ s6 ++ a7 → s7 ≡ a1 ++ (a2 ++ (a3 ++ (a4 ++ (a5 ++ (a6 ++ a7)))))
seven_pieces start s1 s2 s3 s4 s5 s6 s7 a1 a2 a3 a4 a5 a6 a7 e0 e1 e2 e3 e4 e5 e6 e7 =
    rw (e7, e6, e5, e4, e3, e2, e1, e0) (simp append_assoc)

-- the line of a call
pub IsActWritten-named : (bytes : List ℕ) (made : Call) (place : Place) (old between new name : List ℕ)
    → IsPlaceInMain bytes made.start place → name ≡ name_of made.call → between ≡ old ++ codes "  act"
    → new ≡ between ++ at_place place name → IsActWritten bytes made old new
IsActWritten-named bytes made place old between new name there is_name prefix rest = record {
  act = record { call = made.call; place = place };
  placed = record { call = refl; place = there };
  written = rest ∙ (ap (λ b. b ++ at_place place name) prefix ∙ (append_assoc old (codes "  act")
      (at_place place name) ∙ ap (λ n. old ++ (codes "  act" ++ at_place place n)) is_name));
}

-- the line of one more call
ArePlaced-push : (bytes : List ℕ) (calls : List Call) (placed : List PlacedCall) (c : Call) (p : PlacedCall)
    → ArePlaced bytes calls placed → IsPlaced bytes c p → ArePlaced bytes (calls ++ c ∷ []) (placed ++ p ∷ [])
ArePlaced-push bytes [] [] c p are is = (is, tt)
ArePlaced-push bytes (b ∷ calls) (q ∷ placed) c p are is = (are.0, ArePlaced-push bytes calls placed c p are.1 is)
ArePlaced-push bytes [] (q ∷ placed) c p are is = absurd are
ArePlaced-push bytes (b ∷ calls) [] c p are is = absurd are

pub AreActsWritten-more : (bytes : List ℕ) (calls : List Call) (i : ℕ) (d : Call) (start now next : List ℕ)
    → i < length calls → AreActsWritten bytes (take i calls) start now → IsActWritten bytes (get_or calls i d) now next
    → AreActsWritten bytes (take (i + 1) calls) start next
AreActsWritten-more bytes calls i d start now next within known act =
    let more : take (i + 1) calls ≡ take i calls ++ get_or calls i d ∷ [] = rw add-one (take-suc calls i d within) in
    record {
      acts = known.acts ++ act.act ∷ [];
      placed = subst (λ cs. ArePlaced bytes cs (known.acts ++ act.act ∷ [])) (sym more)
          (ArePlaced-push bytes (take i calls) known.acts (get_or calls i d) act.act known.placed act.placed);
      written = act.written ∙ (ap (λ n. n ++ act_line act.act) known.written ∙ flat_map_more act_line start
          known.acts act.act);
    }
