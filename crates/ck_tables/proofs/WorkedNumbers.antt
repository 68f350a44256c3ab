-- Worked rows: which suffixes are calls, which acts fit, and that tables without rows are closed.
use Rattle.std.proofs.Common.{◌≡◌, List, [], ◌∷◌, refl}
use Rattle.std.specs.Prelude.{true, false}
use Rattle.ck_base.specs.declared.tokens.Token.{Token}
use Rattle.ck_graph.specs.declared.points.ActName.TheVariants.{Outside, Return, Entry}
use Rattle.ck_prog.specs.declared.operators.Prefix.TheVariants.{Increment}
use Rattle.ck_tables.specs.Numbers.{is_closed}
use Rattle.ck_tables.specs.ProgramRows.{has_call, act_fits}
use Rattle.ck_tables.specs.declared.exprs.Step.{Step}
use Rattle.ck_tables.specs.declared.exprs.Step.TheVariants as steps
use Rattle.ck_tables.specs.declared.facts.Facts.{Facts}
use Rattle.ck_tables.specs.declared.program.Linked.{Linked}

-- `x++` before a call
module _ (token : Token) (f : Facts) (call : Step) where
  abbrev row : List Step
  row = steps.PostIncrement token Increment f ∷ call ∷ []

  first-is-none : has_call row 0 ≡ false
  first-is-none = refl

  past-the-end : has_call row 2 ≡ false
  past-the-end = refl

-- of two functions that the settings name
second-function : act_fits 2 (Outside 1) ≡ true
second-function = refl

third-function : act_fits 2 (Outside 2) ≡ false
third-function = refl

no-return : act_fits 2 Return ≡ false
no-return = refl

no-entry : act_fits 2 Entry ≡ false
no-entry = refl

-- a project without rows
module _ (l : Linked) (types : l.types ≡ []) (members : l.members.rows.items ≡ [])
    (entries : l.entries.rows.items ≡ []) (exprs : l.exprs ≡ []) (inits : l.inits ≡ [])
    (declarations : l.declarations.rows.items ≡ []) (stmts : l.stmts ≡ []) (bodies : l.bodies.rows.items ≡ [])
    (files : l.files.rows.items ≡ []) where
  none-closed : is_closed l ≡ true
  unfolding is_closed
  none-closed = rw (types, members, entries, exprs, inits, declarations, stmts, bodies, files) refl
