-- The head of `for` from what its parts read.
use Rattle.std.proofs.Common.{◌≡◌, ℕ, ◌≤◌, List, length, drop, refl, ap, subst, sym, ◌∙◌}
use Rattle.std.specs.Prelude.{Option, Some, None, Result, Ok, Err, codes}
use Rattle.ck_base.specs.declared.refusals.OutOfMemory.{OutOfMemory}
use Rattle.ck_base.specs.declared.tokens.Token.{Token}
use Rattle.ck_grammar.specs.Readers.{Read, Reader, ◌>>=◌, mark}
use Rattle.ck_grammar.specs.ReadingStatements.{maybe_expr, start}
use Rattle.ck_grammar.specs.Statements.{Declaration, Statement, ForStart}
use Rattle.ck_grammar.specs.Trees.{Expr}
use Rattle.ck_grammar.specs.Words.{Word}
use Rattle.ck_readers.specs.Places.{IsRead, itself}
use Rattle.ck_readers.specs.SourceView.{text_mark}
use Rattle.ck_statement_readers.specs.Parts.{IsPart, PartAt, PartBy}
use Rattle.ck_statement_readers.specs.Steps.{head_of_for, head_rest}
use Rattle.ck_statement_trees.specs.Parts.{ForHead, maybe}

abbrev head_with : Token → ForStart → Option Expr → Token → Option Expr → Token → ForHead
head_with opening first test semicolon step closing = record {
  opening = opening;
  start = first;
  test = test;
  semicolon = semicolon;
  step = step;
  closing = closing;
}

-- a part that goes on as another from a later place on
part_from : {X P B : Type 0} (view : X → P) (one other : (P → Reader B) → Reader B) (tokens : List Token) (at from : ℕ)
    → (at ≤ length tokens → from ≤ length tokens)
    → ((go : P → Reader B) → one go (drop at tokens) ≡ other go (drop from tokens))
    → (answer : Result (Option (X × ℕ)) OutOfMemory) → PartAt view other tokens from answer
    → PartAt view one tokens at answer
part_from view one other tokens at from within e (Ok None) h = λ go. e go ∙ h go
part_from view one other tokens at from within e (Ok (Some found)) h = record {
  read = λ go. e go ∙ h.read go;
  within = λ i. h.within (within i);
}
part_from view one other tokens at from within e (Err error) h = h

module _ (w : Token → Word) (expr : Reader Expr) (d : Reader Declaration) (tokens : List Token) (at : ℕ) where
  abbrev start_by : Token → (ForHead → Reader Statement) → Read ForStart → Read Statement
  start_by opening go read = read >>= (λ x. head_rest w expr opening x.0 go x.1)

  abbrev open_by : (ForHead → Reader Statement) → Read Token → Read Statement
  open_by go read = read >>= (λ x. start_by x.0 go (start w expr d x.1))

  pub unopened : text_mark w (codes "(") (drop at tokens) ≡ None → (go : ForHead → Reader Statement)
      → head_of_for w expr d go (drop at tokens) ≡ None
  unopened none go = ap (open_by go) none

  module _ (opening : Token × ℕ) (there : IsRead itself (text_mark w (codes "(")) tokens at opening) where
    pub unstarted : start w expr d (drop opening.1 tokens) ≡ None → (go : ForHead → Reader Statement)
        → head_of_for w expr d go (drop at tokens) ≡ None
    unstarted none go = ap (open_by go) there.read ∙ ap (start_by opening.0 go) none

    pub started : {F H : Type 0} (first : F → ForStart) (head : H → ForHead) (found : F × ℕ)
        → IsRead first (start w expr d) tokens opening.1 found → (answer : Result (Option (H × ℕ)) OutOfMemory)
        → PartAt head (head_rest w expr opening.0 (first found.0)) tokens found.1 answer
        → PartAt head (head_of_for w expr d) tokens at answer
    started first head found second =
        part_from head (head_of_for w expr d) (head_rest w expr opening.0 (first found.0)) tokens at found.1
        (λ h. second.within (there.within h))
        (λ go. ap (open_by go) there.read ∙ ap (start_by opening.0 go) second.read)

module _ (w : Token → Word) (expr : Reader Expr) (opening : Token) (first : ForStart)
    (go : ForHead → Reader Statement) where
  abbrev closing_by : Option Expr → Token → Option Expr → Read Token → Read Statement
  closing_by test semicolon step read = read >>= (λ x. go (head_with opening first test semicolon step x.0) x.1)

  abbrev step_by : Option Expr → Token → Read (Option Expr) → Read Statement
  step_by test semicolon read = read >>= (λ x. closing_by test semicolon x.0 (mark w ")" x.1))

  abbrev semicolon_by : Option Expr → Read Token → Read Statement
  semicolon_by test read = read >>= (λ x. step_by test x.0 (maybe_expr w expr x.1))

  abbrev test_by : Read (Option Expr) → Read Statement
  test_by read = read >>= (λ x. semicolon_by x.0 (mark w ";" x.1))

  rest_is : (ts : List Token) → head_rest w expr opening first go ts ≡ test_by (maybe_expr w expr ts)
  rest_is ts = refl

  pub no_test : (ts : List Token) → maybe_expr w expr ts ≡ None → head_rest w expr opening first go ts ≡ None
  no_test ts none = rest_is ts ∙ ap test_by none

  module _ (ts : List Token) (x : Option Expr × List Token) (test : maybe_expr w expr ts ≡ Some x) where
    pub no_semicolon : text_mark w (codes ";") x.1 ≡ None → head_rest w expr opening first go ts ≡ None
    no_semicolon none = rest_is ts ∙ ap test_by test ∙ ap (semicolon_by x.0) none

    module _ (y : Token × List Token) (semicolon : text_mark w (codes ";") x.1 ≡ Some y) where
      pub no_step : maybe_expr w expr y.1 ≡ None → head_rest w expr opening first go ts ≡ None
      no_step none =
          rest_is ts ∙ ap test_by test ∙ ap (semicolon_by x.0) semicolon ∙ ap (step_by x.0 y.0) none

      module _ (z : Option Expr × List Token) (step : maybe_expr w expr y.1 ≡ Some z) where
        stepped : head_rest w expr opening first go ts ≡ closing_by x.0 y.0 z.0 (mark w ")" z.1)
        stepped =
            rest_is ts ∙ ap test_by test ∙ ap (semicolon_by x.0) semicolon ∙ ap (step_by x.0 y.0) step

        pub no_closing : text_mark w (codes ")") z.1 ≡ None → head_rest w expr opening first go ts ≡ None
        no_closing none = stepped ∙ ap (closing_by x.0 y.0 z.0) none

        pub head_is : (c : Token × List Token) → text_mark w (codes ")") z.1 ≡ Some c
            → head_rest w expr opening first go ts ≡ go (head_with opening first x.0 y.0 z.0 c.0) c.1
        head_is c closing = stepped ∙ ap (closing_by x.0 y.0 z.0) closing

pub rest_read : {E H : Type 0} (w : Token → Word) (expr : Reader Expr) (opening : Token) (first : ForStart)
    (tokens : List Token) (at : ℕ) (tree : E → Expr) (view : H → ForHead) (test step : Option E × ℕ)
    (semicolon closing : Token × ℕ) (made : H) → IsRead (maybe tree) (maybe_expr w expr) tokens at test
    → IsRead itself (text_mark w (codes ";")) tokens test.1 semicolon
    → IsRead (maybe tree) (maybe_expr w expr) tokens semicolon.1 step
    → IsRead itself (text_mark w (codes ")")) tokens step.1 closing
    → view made ≡ head_with opening first (maybe tree test.0) semicolon.0 (maybe tree step.0) closing.0
    → IsPart view (head_rest w expr opening first) tokens at (made, closing.1)
rest_read w expr opening first tokens at tree view test step semicolon closing made one two three four is =
    record {
      read = λ go. head_is w expr opening first go (drop at tokens) _ one.read _ two.read _ three.read _ four.read
          ∙ ap (λ h. go h (drop closing.1 tokens)) (sym is);
      within = λ h. four.within (three.within (two.within (one.within h)));
    }

-- a part by cases, where the case is known
pub part_none : {X P B : Type 0} (view : X → P) (by : (P → Reader B) → Reader B) (tokens : List Token) (at : ℕ)
    (found : Option (X × ℕ)) → found ≡ None → PartBy view by tokens at found → (go : P → Reader B)
    → by go (drop at tokens) ≡ None
part_none view by tokens at found is h = subst (PartBy view by tokens at) is h

pub part_some : {X P B : Type 0} (view : X → P) (by : (P → Reader B) → Reader B) (tokens : List Token) (at : ℕ)
    (found : Option (X × ℕ)) (x : X × ℕ) → found ≡ Some x → PartBy view by tokens at found → IsPart view by tokens at x
part_some view by tokens at found x is h = subst (PartBy view by tokens at) is h
