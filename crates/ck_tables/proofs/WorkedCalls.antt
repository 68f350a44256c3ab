-- Worked calls at the suffixes of `f(g())()`, where the expression is at the path 4: the call of f with the call of g
-- as its argument, then the call of what that gives.
use Rattle.std.proofs.Common.{◌≡◌, ℕ, [], ◌∷◌, refl}
use Rattle.std.specs.Prelude.{true, Some, None}
use Rattle.ck_base.specs.declared.tokens.Token.{Token}
use Rattle.ck_base.specs.declared.tokens.TokenKind.TheVariants.{Word}
use Rattle.ck_prog.specs.Senses.{no_type}
use Rattle.ck_prog.specs.TypedTrees as trees
use Rattle.ck_prog.specs.TypedTrees.{Typed, Facts, Arguments}
use Rattle.ck_prog.specs.declared.operators.Role.TheVariants.{Value}
use Rattle.ck_tables.specs.ProgramRows.{call_at}

abbrev token : ℕ → Token
token start = record { kind = Word; span = record { file = 0; start = start; end = start } }

abbrev facts : ℕ → Facts
facts start = record { sense = no_type; role = Value; first = token start; holds_call = true }

abbrev name : ℕ → Typed
name start = trees.Name (facts start) None

abbrev call_of_g : Typed
call_of_g = trees.Postfix (name 2) (trees.Call (token 3) None trees.NoArguments (facts 2) trees.NoSteps)

abbrev given : Arguments
given = trees.Argument call_of_g trees.NoArguments

abbrev call_of_f : Typed
call_of_f = trees.Postfix (name 0) (trees.Call (token 1) None given (facts 0) trees.NoSteps)

abbrev whole : Typed
whole =
    trees.Postfix (name 0)
    (trees.Call (token 1) None given (facts 0)
    (trees.Call (token 6) None trees.NoArguments (facts 0) trees.NoSteps))

first-suffix : call_at (4 ∷ []) 0 whole
    ≡ Some (
    record {
      path = 4 ∷ 1 ∷ [];
      first = token 0;
      called = name 0;
      function = None;
      arguments = given;
    })
first-suffix = refl

second-suffix : call_at (4 ∷ []) 1 whole
    ≡ Some (
    record {
      path = 4 ∷ 2 ∷ [];
      first = token 0;
      called = call_of_f;
      function = None;
      arguments = trees.NoArguments;
    })
second-suffix = refl

no-suffix : call_at (4 ∷ []) 2 whole ≡ None
no-suffix = refl

-- at the path of the argument
call-in-argument : call_at (4 ∷ 1 ∷ 0 ∷ []) 0 call_of_g
    ≡ Some (
    record {
      path = 4 ∷ 1 ∷ 0 ∷ 1 ∷ [];
      first = token 2;
      called = name 2;
      function = None;
      arguments = trees.NoArguments;
    })
call-in-argument = refl
