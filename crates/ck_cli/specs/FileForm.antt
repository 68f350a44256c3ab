-- The file form: any number of prototypes, then `main` with any number of calls, each of a call that has a
-- prototype. docs/REPORT.md, "The file that is read", has it in words.
use Rattle.std.specs.Prelude.{◌≡◌, ℕ, ◌+◌, ◌*◌, List, [], ◌∷◌, ◌++◌, map, length, codes, slice_index, All, Contains}
use Rattle.std.specs.List.{flat_map}
use Rattle.ck_base.specs.declared.tokens.Token.{Token}
use Rattle.ck_cli.specs.declared.calls.KernelCall.{KernelCall}
use Rattle.ck_cli.specs.declared.form.Call.{Call}
use Rattle.ck_base.specs.TokenText.{text_of}
use Rattle.ck_cli.specs.Calls.{name_of}

pub record FileForm : Type 0 where
  pub prototypes : List KernelCall
  pub calls : List KernelCall

-- void NAME(void);
abbrev pub prototype : KernelCall → List (List ℕ)
prototype call = codes "void" ∷ name_of call ∷ codes "(" ∷ codes "void" ∷ codes ")" ∷ codes ";" ∷ []

-- int main(void) {
abbrev pub opening : List (List ℕ)
opening = codes "int" ∷ codes "main" ∷ codes "(" ∷ codes "void" ∷ codes ")" ∷ codes "{" ∷ []

-- NAME();
abbrev pub statement : KernelCall → List (List ℕ)
statement call = name_of call ∷ codes "(" ∷ codes ")" ∷ codes ";" ∷ []

-- }
abbrev pub closing : List (List ℕ)
closing = codes "}" ∷ []

-- the texts of the tokens of a file of this form
abbrev pub spelling : FileForm → List (List ℕ)
spelling form = flat_map prototype form.prototypes ++ (opening ++ (flat_map statement form.calls ++ closing))

-- each called name has a prototype
abbrev pub IsDeclared : FileForm → Type 0
IsDeclared form = All (Contains form.prototypes) form.calls

-- the texts of tokens of some bytes
abbrev pub texts_of : List ℕ → List Token → List (List ℕ)
texts_of bytes tokens = map (text_of bytes) tokens

-- these tokens of the bytes are a file of this form
pub record Spells (form : FileForm) (bytes : List ℕ) (tokens : List Token) : Type 0 where
  pub texts : texts_of bytes tokens ≡ spelling form
  pub declared : IsDeclared form

-- the offset at which the n-th token begins, counted from 0
abbrev pub token_start : List Token → ℕ → ℕ
token_start tokens n = slice_index (map (λ t. t.span.start) tokens) n

-- where the name `main` begins, which is the second token after the prototypes
abbrev pub main_start : FileForm → List Token → ℕ
main_start form tokens = token_start tokens (6 * length form.prototypes + 1)

-- calls with the offsets at which they begin, where the first of them begins with the n-th token
abbrev pub calls_from : List Token → ℕ → List KernelCall → List Call
calls_from tokens n [] = []
calls_from tokens n (call ∷ calls) =
    record { call = call; start = token_start tokens n } ∷ calls_from tokens (n + 4) calls

-- the file's calls with the offsets at which they begin
abbrev pub made_calls : FileForm → List Token → List Call
made_calls form tokens = calls_from tokens (6 * length form.prototypes + 6) form.calls
