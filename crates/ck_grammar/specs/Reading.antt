-- How expressions, specifiers and declarators are read from a list of tokens, by how deep they may nest: the plain and
-- slow program of the definition. Parsers answer what these readers do.
use Rattle.std.specs.Prelude.{ℕ, zero, suc, length, Some, None, [], if◌then◌else◌}
use Rattle.ck_base.specs.declared.tokens.Token.{Token}
use Rattle.ck_grammar.specs.Fitting.{Naming, MaybeName, MemberName, NoName, may_be_abstract}
use Rattle.ck_grammar.specs.Levels as level
use Rattle.ck_grammar.specs.Readers.{Reader, ◌>>=◌}
use Rattle.ck_grammar.specs.ReadingExpressions.{level_reader}
use Rattle.ck_grammar.specs.ReadingTypes as types
use Rattle.ck_grammar.specs.Specified.{Place, InType, InParameter}
use Rattle.ck_grammar.specs.Trees.{Expr, Specifiers, Declarator, Abstract, NoDims}
use Rattle.ck_grammar.specs.Words.{Word}

-- specifiers and maybe an abstract declarator (6.7.6)
abbrev pub type_name : Reader Specifiers → Reader Declarator → Reader (Specifiers × Declarator)
type_name specifiers declarator ts = do
  (s, ts) ← specifiers ts
  (d, ts) ← declarator ts
  Some ((s, d), ts)

module _ (w : Token → Word) where
  abbrev mutual
    -- the expression of this level or a tighter one at the front (6.5)
    pub expr_at : ℕ → level.Level → Reader Expr
    expr_at zero k ts = None
    expr_at (suc n) k ts =
        level_reader w (expr_at n) (type_name (specifiers_at n InType) (declarator_at n NoName)) n k ts

    -- the specifiers at the front (6.7)
    pub specifiers_at : ℕ → Place → Reader Specifiers
    specifiers_at zero place ts = types.specifiers w (λ r. None) (λ r. None) place ts
    specifiers_at (suc n) place ts =
        types.specifiers w (types.members w (specifiers_at n InType) (declarator_at n MemberName))
        (λ r. types.enumerators w (expr_at n level.conditional) (length r) r) place ts

    -- the declarator at the front (6.7.5, 6.7.6)
    pub declarator_at : ℕ → Naming → Reader Declarator
    declarator_at zero naming ts = if may_be_abstract naming then Some (Abstract [] NoDims, ts) else None
    declarator_at (suc n) naming ts =
        types.declarator w (expr_at n level.conditional)
        (types.params w (specifiers_at n InParameter) (declarator_at n MaybeName))
        (declarator_at n naming) naming ts
