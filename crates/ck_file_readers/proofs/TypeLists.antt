-- Further declarators of types, by a loop that adds their names to the typedef names of the source.
use Rattle.std.proofs.Common.{◌≡◌, ℕ, zero, suc, ◌-◌, ◌≤◌, true, List, length, drop, refl, ap, sym, ◌∙◌, length-drop}
use Rattle.ck_base.specs.declared.tokens.Token.{Token}
use Rattle.ck_file_readers.specs.Sources.{IsNamedRow, IsSameFile}
use Rattle.ck_file_readers.specs.Steps.{more_typedefs, types_from}
use Rattle.ck_file_readers.specs.Types.{IsTypeStep, NoTypeStep}
use Rattle.ck_grammar.specs.Readers.{Read, or_else, onto}
use Rattle.ck_grammar.specs.ReadingStatements.{more_declared}
use Rattle.ck_grammar.specs.Statements.{MoreDeclared, AndPlainly, NoMoreDeclared}
use Rattle.ck_readers.specs.SourceView.{SourceView}

module _ (n : ℕ) where
  -- the declarators from a place of a source on, at most this many
  abbrev pub types_at : SourceView → ℕ → ℕ → MoreDeclared × List Token
  types_at source fuel at = more_declared source.bytes n true fuel source.typedefs (drop at source.tokens)

  -- what is read from the start is what the row has, and then what is read from here
  pub record TypesSoFar (row : MoreDeclared → MoreDeclared) (one now : SourceView) (at next fuel : ℕ) : Type 0 where
    pub read : types_from n one (drop at one.tokens) ≡ onto row (types_at now fuel next)
    pub typedefs : (rest : MoreDeclared) → more_typedefs one (row rest) ≡ more_typedefs now rest
    pub within : at ≤ length one.tokens → next ≤ length now.tokens

  pub types_start : (row : MoreDeclared → MoreDeclared) (one : SourceView) (at fuel : ℕ)
      → ((rest : MoreDeclared) → row rest ≡ rest) → fuel ≡ length one.tokens - at → TypesSoFar row one one at at fuel
  types_start row one at fuel empty is = record {
    read =
        ap (λ f. types_at one f at) (length-drop at one.tokens ∙ sym is)
        ∙ sym (ap (λ b. (b, (types_at one fuel at).1)) (empty (types_at one fuel at).0));
    typedefs = λ rest. ap (more_typedefs one) (empty rest);
    within = λ h. h;
  }

  -- what a step leaves of an answer
  abbrev stepped : SourceView → (MoreDeclared → MoreDeclared) → ℕ → Read MoreDeclared → MoreDeclared × List Token
  stepped now row next read = onto row (or_else (NoMoreDeclared, drop next now.tokens) read)

  module _ (old : MoreDeclared → MoreDeclared) (one now : SourceView) (at next fuel rest : ℕ) (is : fuel ≡ suc rest)
      (far : TypesSoFar old one now at next fuel) where
    pub types_step : (new : MoreDeclared → MoreDeclared) (later : SourceView) (place : ℕ) → IsSameFile now later
        → IsTypeStep n old new now later next place → TypesSoFar new one later at place rest
    types_step new later place same step = record {
      read =
          rw (same.0, same.1) (far.read ∙ ap (λ f. onto old (types_at now f next)) is
          ∙ ap (stepped now old next) (step.read (more_declared now.bytes n true rest))
          ∙ ap (λ b. (b, (more_declared now.bytes n true rest later.typedefs (drop place now.tokens)).1))
          (sym (step.pushed _)));
      typedefs =
          λ more. rw same.0 (ap (more_typedefs one) (step.pushed more)
          ∙ far.typedefs (AndPlainly step.comma step.name more) ∙ rw step.typedefs refl);
      within = λ h. rw same.1 (step.within (far.within h));
    }

    pub types_stop : {X : Type 0} (rows : X → MoreDeclared → MoreDeclared) (x : X) (later : SourceView)
        → IsSameFile one now → NoTypeStep n old (rows x) now later next
        → IsNamedRow (λ y. rows y NoMoreDeclared) (types_from n one) (more_typedefs one) one later at (x, next)
    types_stop rows x later same stop = record {
      row = record {
        read =
            far.read ∙ ap (λ f. onto old (types_at now f next)) is
            ∙ ap (stepped now old next) (stop.none (more_declared now.bytes n true rest))
            ∙ ap (λ b. (b, drop next now.tokens)) (sym (stop.stays NoMoreDeclared))
            ∙ ap (λ ts. (rows x NoMoreDeclared, drop next ts)) same.1;
        within = λ h. rw (← same.1) (far.within h);
      };
      typedefs =
          stop.typedefs ∙ sym (far.typedefs NoMoreDeclared)
          ∙ ap (more_typedefs one) (sym (stop.stays NoMoreDeclared));
    }

  pub types_end : {X : Type 0} (rows : X → MoreDeclared → MoreDeclared) (x : X) (one now : SourceView)
      (at next fuel : ℕ) → fuel ≡ zero → TypesSoFar (rows x) one now at next fuel → IsSameFile one now
      → IsNamedRow (λ y. rows y NoMoreDeclared) (types_from n one) (more_typedefs one) one now at (x, next)
  types_end rows x one now at next fuel is far same = record {
    row = record {
      read =
          far.read ∙ ap (λ f. onto (rows x) (types_at now f next)) is
          ∙ ap (λ ts. (rows x NoMoreDeclared, drop next ts)) same.1;
      within = λ h. rw (← same.1) (far.within h);
    };
    typedefs = sym (far.typedefs NoMoreDeclared);
  }
