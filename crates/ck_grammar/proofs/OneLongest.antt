-- No tokens have two longest expressions at the front.
use Rattle.std.proofs.Common.{◌≡◌, List, [], ◌∷◌, ◌++◌, length, refl, sym, ap, ◌∙◌, arith}
use Rattle.ck_base.specs.declared.tokens.Token.{Token}
use Rattle.ck_grammar.proofs.ExpressionsComplete.{one_tree}
use Rattle.ck_grammar.proofs.Appended.{written_appended}
use Rattle.ck_grammar.proofs.Lengths.{longer_append}
use Rattle.ck_grammar.specs.Answers.{OneLongest}
use Rattle.ck_grammar.specs.Spelling.{most}
use Rattle.ck_grammar.specs.Words.{word_of}
use Rattle.ck_grammar.specs.Written.{written}

abbrev first_of : Token → List Token → Token
first_of t [] = t
first_of t (u ∷ us) = u

abbrev others_of : List Token → List Token
others_of [] = []
others_of (t ∷ ts) = ts

longer_rest : (ts rest more : List Token) (t : Token) → rest ≡ (t ∷ (ts ++ more)) → length rest ≡ length more → ⊥
longer_rest ts rest more t same lengths = omega (arith, ap length same, lengths, longer_append ts more)

-- what is before rests of one length is one
same_front : (ts us rest more : List Token) → (ts ++ rest) ≡ (us ++ more) → length rest ≡ length more → (ts ≡ us)
    × (rest ≡ more)
same_front [] [] rest more same lengths = (refl, same)
same_front [] (u ∷ us) rest more same lengths = absurd (longer_rest us rest more u same lengths)
same_front (t ∷ ts) [] rest more same lengths = absurd (longer_rest ts more rest t (sym same) (sym lengths))
same_front (t ∷ ts) (u ∷ us) rest more same lengths =
    let later = same_front ts us rest more (ap others_of same) lengths in
    (ap (λ x. x ∷ ts) (ap (first_of t) same) ∙ ap (◌∷◌ u) later.0, later.1)

pub one_longest : OneLongest
one_longest bytes typedefs tokens e f rest more h k =
    let same : (written e [] ++ rest) ≡ (written f [] ++ more) = sym (written_appended e [] rest) ∙ h.begins.tokens_are
    ∙ sym k.begins.tokens_are ∙ written_appended f [] more in
    let lengths : length rest ≡ length more = omega (arith, h.longest f more k.begins, k.longest e rest h.begins) in
    let both = same_front (written e []) (written f []) rest more same lengths in (
      one_tree (word_of bytes typedefs) most e f h.begins.fits k.begins.fits h.begins.nests k.begins.nests both.0,
      both.1,
    )
