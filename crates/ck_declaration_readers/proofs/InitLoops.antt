-- Initialisers in braces, and designators before them.
use Rattle.std.proofs.Common.{◌≡◌, ℕ, suc, Bool, true, false, List, [], ◌∷◌, refl, ap, ◌∙◌}
use Rattle.std.specs.Prelude.{Option, Some, None, codes, if◌then◌else◌}
use Rattle.ck_base.specs.declared.tokens.Token.{Token}
use Rattle.ck_grammar.specs.Readers.{Read, Reader, ◌>>=◌, mark, identifier}
use Rattle.ck_grammar.specs.ReadingStatements.{designation, designator_loop, init_end, inits}
use Rattle.ck_grammar.specs.Statements.{Designators, Init, Inits, Equals, DotName, AtIndex, LastInit, NextInit}
use Rattle.ck_grammar.specs.Trees.{Expr}
use Rattle.ck_grammar.specs.Words.{Word, is_text}
use Rattle.ck_readers.specs.Places.{after}
use Rattle.ck_readers.specs.SourceView.{text_at, text_mark}
use Rattle.ck_statement_trees.proofs.Marks.{taken_if, marked, unmarked}
use Rattle.ck_declaration_readers.specs.Steps.{bracketed_step, designator_step, entry}

guarded : {C : Type 0} (b : Bool) (t : Token) (ts : List Token) (f : Token × List Token → Read C)
    → (if b then f (t, ts) else None) ≡ (taken_if b t ts >>= f)
guarded true t ts f = refl
guarded false t ts f = refl

then_after : {B : Type 0} (make : B → B) (answer : Read B)
    → (answer >>= (λ x. Some (make x.0, x.1))) ≡ after make answer
then_after make None = refl
then_after make (Some x) = refl

module _ (w : Token → Word) (e : Reader Expr) where
  pub equals_here : (fuel : ℕ) (ts : List Token) (x : Token × List Token) → text_mark w (codes "=") ts ≡ Some x
      → designator_loop w e (suc fuel) ts ≡ Some (Equals x.0, x.1)
  equals_here fuel ts x h = let m = marked w (codes "=") ts x h in rw (m.is, m.told) refl

  pub no_equals : (fuel : ℕ) (ts : List Token) → text_mark w (codes "=") ts ≡ None
      → designator_loop w e (suc fuel) ts ≡ designator_step w e (designator_loop w e fuel) ts
  no_equals fuel [] h = refl
  no_equals fuel (t ∷ ts) h = rw (unmarked w (codes "=") (t ∷ ts) h) refl

  module _ (go : Reader Designators) where
    abbrev bracketed_by : Token × List Token → Read Designators
    bracketed_by x = do
      (i, ts) ← e x.1
      (closing, ts) ← mark w "]" ts
      (rest, ts) ← go ts
      Some (AtIndex x.0 i closing rest, ts)

    pub no_dot : (ts : List Token) → text_mark w (codes ".") ts ≡ None
        → designator_step w e go ts ≡ bracketed_step w e go ts
    no_dot [] h = refl
    no_dot (t ∷ ts) h =
        rw (unmarked w (codes ".") (t ∷ ts) h) (guarded (is_text (codes "[") (w t)) t ts bracketed_by)

    pub dot_here : (ts : List Token) (x : Token × List Token) → text_mark w (codes ".") ts ≡ Some x
        → designator_step w e go ts ≡ (identifier w x.1 >>= (λ y. after (DotName x.0 y.0) (go y.1)))
    dot_here ts x h =
        let m = marked w (codes ".") ts x h in rw (m.is, m.told) (by_name (identifier w x.1)) where
          by_name : (read : Read Token)
              → (read >>= (λ y. go y.1 >>= (λ r. Some (DotName x.0 y.0 r.0, r.1))))
              ≡ (read >>= (λ y. after (DotName x.0 y.0) (go y.1)))
          by_name None = refl
          by_name (Some y) = then_after (DotName x.0 y.0) (go y.1)

    pub name_after_dot : (ts : List Token) (x y : Token × List Token) → text_mark w (codes ".") ts ≡ Some x
        → identifier w x.1 ≡ Some y → designator_step w e go ts ≡ after (DotName x.0 y.0) (go y.1)
    name_after_dot ts x y h name = dot_here ts x h ∙ rw name refl

    pub no_name : (ts : List Token) (x : Token × List Token) → text_mark w (codes ".") ts ≡ Some x
        → identifier w x.1 ≡ None → designator_step w e go ts ≡ None
    no_name ts x h name = dot_here ts x h ∙ rw name refl

    pub bracketed_is : (ts : List Token) (x z : Token × List Token) (y : Expr × List Token)
        → text_mark w (codes "[") ts ≡ Some x → e x.1 ≡ Some y → text_mark w (codes "]") y.1 ≡ Some z
        → bracketed_step w e go ts ≡ after (AtIndex x.0 y.0 z.0) (go z.1)
    bracketed_is ts x z y h i k = rw (h, i, k) (then_after (AtIndex x.0 y.0 z.0) (go z.1))

module _ (w : Token → Word) (e : Reader Expr) (i : Reader Init) where
  abbrev ended_by : Reader Inits → Read (Option Designators × Init) → Read Inits
  ended_by go read = read >>= (λ x. init_end w go x.0.0 x.0.1 x.1)

  by_init : (go : Reader Inits) (ds : Option Designators) (read : Read Init)
      → (read >>= (λ y. init_end w go ds y.0 y.1)) ≡ ended_by go (read >>= (λ y. Some ((ds, y.0), y.1)))
  by_init go ds None = refl
  by_init go ds (Some y) = refl

  by_designation : (go : Reader Inits) (read : Read (Option Designators))
      → (read >>= (λ x. i x.1 >>= (λ y. init_end w go x.0 y.0 y.1)))
      ≡ ended_by go (read >>= (λ x. i x.1 >>= (λ y. Some ((x.0, y.0), y.1))))
  by_designation go None = refl
  by_designation go (Some x) = by_init go x.0 (i x.1)

  by_entry : (fuel : ℕ) (ts : List Token)
      → inits w e i (suc fuel) ts ≡ ended_by (inits w e i fuel) (entry w e i ts)
  by_entry fuel ts = by_designation (inits w e i fuel) (designation w e ts)

  pub no_entry : (fuel : ℕ) (ts : List Token) → entry w e i ts ≡ None → inits w e i (suc fuel) ts ≡ None
  no_entry fuel ts h = by_entry fuel ts ∙ ap (ended_by (inits w e i fuel)) h

  module _ (fuel : ℕ) (ts : List Token) (x : (Option Designators × Init) × List Token)
      (h : entry w e i ts ≡ Some x) where
    one_entry : inits w e i (suc fuel) ts ≡ init_end w (inits w e i fuel) x.0.0 x.0.1 x.1
    one_entry = by_entry fuel ts ∙ ap (ended_by (inits w e i fuel)) h

    end_plain : (us : List Token) → text_mark w (codes ",") us ≡ None
        → init_end w (inits w e i fuel) x.0.0 x.0.1 us ≡ Some (LastInit x.0.0 x.0.1 None, us)
    end_plain [] none = refl
    end_plain (u ∷ us) none = rw (unmarked w (codes ",") (u ∷ us) none) refl

    -- the last one, without a comma
    pub last_plain : text_mark w (codes ",") x.1 ≡ None
        → inits w e i (suc fuel) ts ≡ Some (LastInit x.0.0 x.0.1 None, x.1)
    last_plain none = one_entry ∙ end_plain x.1 none

    -- the last one, with a comma
    pub last_comma : (y : Token × List Token) → text_mark w (codes ",") x.1 ≡ Some y
        → text_at w (codes "}") y.1 ≡ true
        → inits w e i (suc fuel) ts ≡ Some (LastInit x.0.0 x.0.1 (Some y.0), y.1)
    last_comma y comma closes =
        let m = marked w (codes ",") x.1 y comma in one_entry ∙ rw (m.is, m.told, closes) refl

    -- another one, with others after its comma
    pub next_one : (y : Token × List Token) → text_mark w (codes ",") x.1 ≡ Some y
        → text_at w (codes "}") y.1 ≡ false
        → inits w e i (suc fuel) ts ≡ after (NextInit x.0.0 x.0.1 y.0) (inits w e i fuel y.1)
    next_one y comma closes =
        let m = marked w (codes ",") x.1 y comma in
        one_entry
        ∙ rw (m.is, m.told, closes) (then_after (NextInit x.0.0 x.0.1 y.0) (inits w e i fuel y.1))
