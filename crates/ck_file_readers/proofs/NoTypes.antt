-- Declarations that declare no types: the grammar's own reader is the one by parts of ck_declaration_readers, and it
-- adds no typedef name.
use Rattle.std.proofs.Common.{◌≡◌, ℕ, zero, suc, false, List, length, drop, refl, ap, sym, ◌∙◌}
use Rattle.std.specs.Prelude.{Option, Some, None, Result, Ok, Err, if◌then◌else◌}
use mathlib.Core.Path.{fun_ext}
use Rattle.ck_base.specs.declared.refusals.OutOfMemory.{OutOfMemory}
use Rattle.ck_base.specs.declared.tokens.Token.{Token}
use Rattle.ck_declaration_readers.specs.Steps.{declared_loop, declared_step, declares_from}
use Rattle.ck_file_readers.specs.Sources.{NamedAt}
use Rattle.ck_file_readers.specs.Steps.{declarator_in, declaration_typedefs, init_in}
use Rattle.ck_grammar.specs.Readers.{Read, ◌>>=◌, or_else, is_at, mark}
use Rattle.ck_grammar.specs.ReadingStatements.{declared, declares, more_declared}
use Rattle.ck_grammar.specs.Statements.{Declared, MoreDeclared, Declaration, Declares, Initialised, Plainly}
use Rattle.ck_grammar.specs.Statements.{NoMoreDeclared, AndInitialised, AndPlainly}
use Rattle.ck_grammar.specs.StatementsFitting.{declared_after, is_typedef, more_after}
use Rattle.ck_grammar.specs.Trees.{Specifiers, Declarator}
use Rattle.ck_readers.specs.Places.{ReadAt}
use Rattle.ck_readers.specs.SourceView.{SourceView, words}

abbrev Row : Type 0
Row = List Token → MoreDeclared × List Token

module _ (n : ℕ) (source : SourceView) where
  more_is : (fuel : ℕ) → more_declared source.bytes n false fuel source.typedefs
      ≡ declared_loop (words source) (declarator_in n source) (init_in n source) fuel
  more_is zero = fun_ext (λ ts. refl)
  more_is (suc fuel) = fun_ext (λ ts. ap
      (λ (go : Row). or_else (NoMoreDeclared, ts)
      (declared_step (words source) (declarator_in n source) (init_in n source) go ts)) (more_is fuel))

  module _ (s : Specifiers) (d : Declarator) where
    -- what is after the first declarator, by what reads further ones
    abbrev declared_by_row : List Token → Row → Read Declared
    declared_by_row ts go =
        if is_at (words source) "=" ts
        then (mark (words source) "=" ts >>= (λ x. init_in n source x.1 >>= (λ y. Some
        (Initialised x.0 y.0 (go y.1).0, (go y.1).1))))
        else Some (Plainly (go ts).0, (go ts).1)

    abbrev declares_by : List Token → Row → Read Declaration
    declares_by ts go =
        declared_by_row ts go >>= (λ x. mark (words source) ";" x.1 >>= (λ y. Some (Declares s d x.0 y.0, y.1)))

    pub declares_is : (ts : List Token) → is_typedef (words source) s ≡ false
        → declares source.bytes source.typedefs n s d ts
        ≡ declares_from (words source) (declarator_in n source) (init_in n source) s d ts
    declares_is ts is = rw is (ap (declares_by ts) (fun_ext (λ r. ap (λ (go : ℕ → Row). go (length r) r)
        (fun_ext more_is))))

    -- the typedef names stay
    module _ (is : is_typedef (words source) s ≡ false) where
      more_no : (m : MoreDeclared) → more_after false source.bytes m source.typedefs ≡ source.typedefs
      more_no NoMoreDeclared = refl
      more_no (AndPlainly comma name rest) = more_no rest
      more_no (AndInitialised comma name equals i rest) = more_no rest

      declared_no : (x : Declared) → declared_after false source.bytes x source.typedefs ≡ source.typedefs
      declared_no (Plainly rest) = more_no rest
      declared_no (Initialised equals i rest) = more_no rest

      declares_no : (x : Declared) (semicolon : Token)
          → declaration_typedefs source (Declares s d x semicolon) ≡ source.typedefs
      declares_no x semicolon = rw is (declared_no x)

      abbrev ended_by : Declared → Read Token → Read Declaration
      ended_by x read = read >>= (λ y. Some (Declares s d x y.0, y.1))

      abbrev declared_by : Read Declared → Read Declaration
      declared_by read = read >>= (λ x. ended_by x.0 (mark (words source) ";" x.1))

      ended_no : (x : Declared) (read : Read Token) (z : Declaration × List Token) → ended_by x read ≡ Some z
          → declaration_typedefs source z.0 ≡ source.typedefs
      ended_no x None z h = absurd (cc)
      ended_no x (Some y) z h =
          let tree : Declares s d x y.0 ≡ z.0 = cc in
          ap (declaration_typedefs source) (sym tree) ∙ declares_no x y.0

      read_no : (read : Read Declared) (z : Declaration × List Token) → declared_by read ≡ Some z
          → declaration_typedefs source z.0 ≡ source.typedefs
      read_no None z h = absurd (cc)
      read_no (Some x) z h = ended_no x.0 (mark (words source) ";" x.1) z h

      declares_read : (ts : List Token) → declares source.bytes source.typedefs n s d ts
          ≡ declared_by (declared source.bytes n false source.typedefs ts)
      declares_read ts = rw is refl

      pub named : {X : Type 0} (view : X → Declaration) (at : ℕ) (result : Result (Option (X × ℕ)) OutOfMemory)
          → ReadAt view (declares source.bytes source.typedefs n s d) source.tokens at result
          → NamedAt view (declares source.bytes source.typedefs n s d) (declaration_typedefs source) source source at
          result
      named view at (Ok None) h = h
      named view at (Ok (Some found)) h = record {
        tree = h;
        typedefs =
            sym (read_no (declared source.bytes n false source.typedefs (drop at source.tokens))
            (view found.0, drop found.1 source.tokens) (sym (declares_read (drop at source.tokens)) ∙ h.read));
      }
      named view at (Err e) h = tt
