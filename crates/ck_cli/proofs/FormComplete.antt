-- A file of the form is read to its end, and a prefix of one is never stuck.
use Rattle.std.proofs.Common.{◌≡◌, ℕ, suc, true, List, [], ◌∷◌, ◌++◌, Option, Some, None, refl, sym, ap, ◌∙◌, arith}
use Rattle.std.specs.Prelude.{All, option_and_then}
use Rattle.std.specs.List.{flat_map}
use Rattle.std.proofs.lemmas.List.{map-append}
use Rattle.ck_cli.specs.declared.calls.KernelCall.{KernelCall}
use Rattle.ck_cli.specs.declared.calls.KernelCall.TheVariants.{Init}
use Rattle.ck_cli.specs.declared.declared.Declared.{Declared}
use Rattle.ck_cli.specs.declared.position.Position.TheVariants.{Outside, Body, End}
use Rattle.ck_cli.specs.FileForm.{FileForm, IsDeclared, prototype, opening, statement, closing, spelling}
use Rattle.ck_cli.specs.Stray.{CanGoOn}
use Rattle.ck_cli.specs.Reading.{declared_by, declared_with, is_declared, none_declared}
use Rattle.ck_cli.proofs.DeclaredLemmas.{declared-from_Contains}
use Rattle.ck_cli.proofs.Positions.{Stage, goes, goes-append, lexemes_of}

goes-prototype : (d : Declared) (call : KernelCall) (texts : List (List ℕ))
    → goes Outside d (lexemes_of (prototype call ++ texts)) ≡ goes Outside (declared_with d call) (lexemes_of texts)
goes-prototype d Init texts = refl
goes-prototype d _ texts = refl

goes-prototypes : (d : Declared) (calls : List KernelCall) (texts : List (List ℕ))
    → goes Outside d (lexemes_of (flat_map prototype calls ++ texts)) ≡ goes Outside (declared_by d calls)
    (lexemes_of texts)
goes-prototypes d [] texts = refl
goes-prototypes d (call ∷ calls) texts =
    goes-prototype d call (flat_map prototype calls ++ texts) ∙ goes-prototypes (declared_with d call) calls texts

goes-opening : (d : Declared) (texts : List (List ℕ))
    → goes Outside d (lexemes_of (opening ++ texts)) ≡ goes Body d (lexemes_of texts)
goes-opening d texts = refl

goes-statement : (d : Declared) (call : KernelCall) (texts : List (List ℕ))
    → is_declared d call ≡ true → goes Body d (lexemes_of (statement call ++ texts)) ≡ goes Body d (lexemes_of texts)
goes-statement d Init texts h = rw h refl
goes-statement d _ texts h = rw h refl

goes-statements : (d : Declared) (calls : List KernelCall) (texts : List (List ℕ))
    → All (λ c. is_declared d c ≡ true) calls
    → goes Body d (lexemes_of (flat_map statement calls ++ texts)) ≡ goes Body d (lexemes_of texts)
goes-statements d [] texts all = refl
goes-statements d (call ∷ calls) texts all =
    goes-statement d call (flat_map statement calls ++ texts) (all 0 call (omega arith)) ∙ goes-statements d calls
    texts (λ k c within. all (suc k) c (omega arith))

pub goes-spelling : (form : FileForm)
    → IsDeclared form
    → goes Outside none_declared (lexemes_of (spelling form)) ≡ Some (End, declared_by none_declared form.prototypes)
goes-spelling form declared =
    let d = declared_by none_declared form.prototypes in
    goes-prototypes none_declared form.prototypes (opening ++ (flat_map statement form.calls ++ closing)) ∙
    goes-statements d form.calls closing (λ k c within. declared-from_Contains form.prototypes _ (declared k c within))

some_is_some : (o : Option Stage) (s : Stage) (more : Stage → Option Stage)
    → o ≡ None → option_and_then more o ≡ Some s → ⊥
some_is_some None s more none some = cc
some_is_some (Some r) s more none some = cc

pub never_stuck : (texts : List (List ℕ)) → CanGoOn texts → goes Outside none_declared (lexemes_of texts) ≡ None → ⊥
never_stuck texts can stuck =
    let split : lexemes_of (spelling can.form) ≡ lexemes_of texts ++ lexemes_of can.rest = ap lexemes_of
    (sym can.spelled) ∙ map-append _ texts can.rest in
    some_is_some (goes Outside none_declared (lexemes_of texts)) (
      End,
      declared_by none_declared
          can.form.prototypes,
    ) (λ s. goes s.0 s.1 (lexemes_of can.rest)) stuck
    (sym (goes-append Outside none_declared (lexemes_of texts) (lexemes_of can.rest)) ∙
    (ap (goes Outside none_declared) (sym split) ∙ goes-spelling can.form can.declared))
