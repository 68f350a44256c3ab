-- No tokens are files of two forms.
use Rattle.std.proofs.Common.{◌≡◌, ℕ, List, [], ◌∷◌, ◌++◌, refl, sym, ap, ◌∙◌}
use Rattle.std.specs.Prelude.{codes}
use Rattle.std.specs.List.{flat_map}
use Rattle.ck_base.specs.declared.tokens.Token.{Token}
use Rattle.ck_cli.specs.declared.calls.KernelCall.{KernelCall}
use Rattle.ck_cli.specs.declared.lexemes.Lexeme.TheVariants.{Void, Int, Kernel, RightBrace}
use Rattle.ck_cli.specs.Calls.{name_of}
use Rattle.ck_cli.specs.FileForm.{FileForm, Spells, prototype, statement, closing, spelling}
use Rattle.ck_cli.specs.Lexemes.{lexeme_of}
use Rattle.ck_cli.proofs.LexemeLemmas.{lexeme_of-name}

same_name : (a b : KernelCall) → name_of a ≡ name_of b → a ≡ b
same_name a b e = let same : Kernel a ≡ Kernel b = sym (lexeme_of-name a) ∙ (ap lexeme_of e ∙ lexeme_of-name b) in cc

not_main : codes "int" ≡ codes "void" → ⊥
not_main e = let same : Int ≡ Void = ap lexeme_of e in cc

not_end : (call : KernelCall) → codes "}" ≡ name_of call → ⊥
not_end call e = let same : RightBrace ≡ Kernel call = ap lexeme_of e ∙ lexeme_of-name call in cc

same_prototypes : (ps qs : List KernelCall) (xs ys : List (List ℕ))
    → flat_map prototype ps ++ codes "int" ∷ xs ≡ flat_map prototype qs ++ codes "int" ∷ ys → (ps ≡ qs) × (xs ≡ ys)
same_prototypes [] [] xs ys e = (refl, cc)
same_prototypes [] (q ∷ qs) xs ys e = let first : codes "int" ≡ codes "void" = cc in absurd (not_main first)
same_prototypes (p ∷ ps) [] xs ys e = let first : codes "int" ≡ codes "void" = cc in absurd (not_main first)
same_prototypes (p ∷ ps) (q ∷ qs) xs ys e =
    let name : name_of p ≡ name_of q = cc in
    let rest : flat_map prototype ps ++ codes "int" ∷ xs ≡ flat_map prototype qs ++ codes "int" ∷ ys = cc in
    let same = same_prototypes ps qs xs ys rest in
    let one : p ≡ q = same_name p q name in
    (ap (λ x. x ∷ ps) one ∙ ap (λ rs. q ∷ rs) same.0, same.1)

same_statements : (ps qs : List KernelCall)
    → flat_map statement ps ++ closing ≡ flat_map statement qs ++ closing → ps ≡ qs
same_statements [] [] e = refl
same_statements [] (q ∷ qs) e = let first : codes "}" ≡ name_of q = cc in absurd (not_end q first)
same_statements (p ∷ ps) [] e = let first : codes "}" ≡ name_of p = cc in absurd (not_end p first)
same_statements (p ∷ ps) (q ∷ qs) e =
    let name : name_of p ≡ name_of q = cc in
    let rest : flat_map statement ps ++ closing ≡ flat_map statement qs ++ closing = cc in
    let one : p ≡ q = same_name p q name in
    ap (λ x. x ∷ ps) one ∙ ap (λ rs. q ∷ rs) (same_statements ps qs rest)

same_parts : (a b c d : List KernelCall)
    → a ≡ b → c ≡ d
    → let f : FileForm = record { prototypes = a; calls = c } in f ≡ record { prototypes = b; calls = d }
same_parts a b c d e f = rw (e, f) refl

pub one_form : (bytes : List ℕ) (tokens : List Token) (f g : FileForm)
    → Spells f bytes tokens → Spells g bytes tokens → f ≡ g
one_form bytes tokens f g spells_f spells_g =
    let same : spelling f ≡ spelling g = sym spells_f.texts ∙ spells_g.texts in
    let parts = same_prototypes f.prototypes g.prototypes _ _ same in
    let body : flat_map statement f.calls ++ closing ≡ flat_map statement g.calls ++ closing = let rest = parts.1 in
    cc in
    same_parts f.prototypes g.prototypes f.calls g.calls parts.0 (same_statements f.calls g.calls body)
