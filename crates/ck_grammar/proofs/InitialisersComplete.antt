-- Initialisers are read as they are written (C99 6.7.8).
use Rattle.std.proofs.Common.{◌≡◌, ℕ, zero, suc, ◌≤◌, true, false, ◌||◌, List, [], ◌∷◌, length, Option, Some, None}
use Rattle.std.proofs.Common.{refl, ◌∙◌, arith}
use Rattle.std.specs.Prelude.{codes}
use Rattle.std.specs.Str.{bytes_eq}
use Rattle.std.proofs.lemmas.Bool.{false≢true}
use Rattle.ck_base.specs.declared.tokens.Token.{Token}
use Rattle.ck_grammar.proofs.ExpressionsComplete.{all_read, nests_once}
use Rattle.ck_grammar.proofs.Heads.{begins}
use Rattle.ck_grammar.proofs.Lengths.{longer}
use Rattle.ck_grammar.proofs.StatementsLengths.{longer_designation, longer_init, longer_inits}
use Rattle.ck_grammar.proofs.Stops.{StopsAt, ReadsAt, at_square, at_comma, at_curly}
use Rattle.ck_grammar.proofs.Texts.{operand_comes_not}
use Rattle.ck_grammar.specs.Fitting.{IsComma}
use Rattle.ck_grammar.specs.Readers.{Reader, ◌>>=◌, is_at}
use Rattle.ck_grammar.specs.Reading.{expr_at}
use Rattle.ck_grammar.specs.ReadingExpressions.{begins_operand}
use Rattle.ck_grammar.specs.ReadingStatements.{designator_loop, designation as read_designation, init_end}
use Rattle.ck_grammar.specs.ReadingStatements.{inits as read_inits, init_by, init_at}
use Rattle.ck_grammar.specs.Statements.{Designators, Init, Inits, Equals, DotName, AtIndex, Value, Braced, LastInit}
use Rattle.ck_grammar.specs.Statements.{NextInit}
use Rattle.ck_grammar.specs.StatementsFitting.{FitsDesignators, FitsDesignation, FitsInit, FitsInits, has_designator}
use Rattle.ck_grammar.specs.StatementsNesting.{designators_nesting, designation_nesting, init_nesting, inits_nesting}
use Rattle.ck_grammar.specs.StatementsWritten.{designators, designation, init, inits}
use Rattle.ck_grammar.specs.Trees.{Expr}
use Rattle.ck_grammar.specs.Words.{begins_lead, Word, Fixed, lead_by}
use Rattle.ck_grammar.specs.Written.{written, optional}
use Prim.Native.String.{String as Line}

-- the reader reads initialisers that nest so deep, before tokens at which an assignment expression stops
abbrev pub ReadsInit : (Token → Word) → ℕ → Reader Init → Type 0
ReadsInit w n q = (i : Init) (more : List Token) → FitsInit w i → init_nesting i ≤ n → StopsAt w 12 more
    → q (init i more) ≡ Some (i, more)

designators_read : (w : Token → Word) (p : Reader Expr) (n : ℕ) (ds : Designators) (more : List Token) (f : ℕ)
    → ReadsAt w n 11 p → FitsDesignators w ds → designators_nesting ds ≤ n → length (designators ds more) ≤ f
    → designator_loop w p f (designators ds more) ≡ Some (ds, more)
designators_read w p n (Equals eq) more zero reads h nests fuel = absurd (omega (arith, fuel))
designators_read w p n (Equals eq) more (suc f) reads h nests fuel = rw h refl
designators_read w p n (DotName t m rest) more zero reads h nests fuel = absurd (omega (arith, fuel))
designators_read w p n (DotName t m rest) more (suc f) reads h nests fuel =
    let again : designator_loop w p f (designators rest more) ≡ Some (rest, more) =
    designators_read w p n rest more f reads h.2 nests (omega (arith, fuel)) in
    rw (h.0, h.1, again) refl
designators_read w p n (AtIndex o e c rest) more zero reads h nests fuel = absurd (omega (arith, fuel))
designators_read w p n (AtIndex o e c rest) more (suc f) reads h nests fuel =
    let read : p (written e (c ∷ designators rest more)) ≡ Some (e, c ∷ designators rest more) =
    reads e (c ∷ designators rest more) h.1.0 (omega (arith, nests)) h.1.1
    (at_square w c (designators rest more) 11 (omega arith) h.2) in
    let again : designator_loop w p f (designators rest more) ≡ Some (rest, more) =
    designators_read w p n rest more f reads h.3 (omega (arith, nests))
    (omega (arith, fuel, longer e (c ∷ designators rest more))) in
    rw (h.0, read, h.2, again) refl

-- designators begin with `.` or `[`
designators_begin : (w : Token → Word) (ds : Designators) (more : List Token) → FitsDesignators w ds
    → has_designator ds ≡ true
    → (is_at w "." (designators ds more) || is_at w "[" (designators ds more)) ≡ true
designators_begin w (Equals eq) more h one = absurd (false≢true one)
designators_begin w (DotName t n rest) more h one = rw h.0 refl
designators_begin w (AtIndex o e c rest) more h one = rw h.0 refl

-- an initialiser begins with what an operand can begin with or with `{`
init_comes_not : (w : Token → Word) (i : Init) (more : List Token) (text : Line) → FitsInit w i
    → begins_lead (lead_by (codes text)) ≡ false → bytes_eq (codes "{") (codes text) ≡ false
    → is_at w text (init i more) ≡ false
init_comes_not w (Value e) more text h fails other = operand_comes_not w (written e more) text
    (begins w e more h.0) fails
init_comes_not w (Braced o is c) more text h fails other = rw h.0 other

designation_read : (w : Token → Word) (p : Reader Expr) (n : ℕ) (ds : Option Designators) (i : Init) (more : List Token)
    → ReadsAt w n 11 p → FitsDesignation w ds → designation_nesting ds ≤ n → FitsInit w i
    → read_designation w p (designation ds (init i more)) ≡ Some (ds, init i more)
designation_read w p n None i more reads h nests good =
    rw (init_comes_not w i more "." good refl refl, init_comes_not w i more "[" good refl refl) refl
designation_read w p n (Some ds) i more reads h nests good =
    let all : designator_loop w p (length (designators ds (init i more))) (designators ds (init i more)) ≡ Some
    (ds, init i more) = designators_read w p n ds (init i more) (length (designators ds (init i more))) reads h.0
    nests (omega arith) in
    rw (designators_begin w ds (init i more) h.0 h.1, all) refl

-- what is after the last initialiser ends it
end_stops : (w : Token → Word) (comma : Option Token) (c : Token) (more : List Token) → IsComma w comma
    → w c ≡ Fixed (codes "}") → StopsAt w 12 (optional comma (c ∷ more))
end_stops w None c more h close = at_curly w c more 12 (omega arith) close
end_stops w (Some t) c more h close = at_comma w t (c ∷ more) 12 (omega arith) h

end_read : (w : Token → Word) (go : Reader Inits) (ds : Option Designators) (i : Init) (comma : Option Token)
    (c : Token) (more : List Token)
    → IsComma w comma → w c ≡ Fixed (codes "}") → init_end w go ds i (optional comma (c ∷ more)) ≡ Some
    (LastInit ds i comma, c ∷ more)
end_read w go ds i None c more h close = rw close refl
end_read w go ds i (Some t) c more h close = rw (h, close) refl

designated_no_curly : (w : Token → Word) (ds : Option Designators) (i : Init) (more : List Token) → FitsDesignation w ds
    → FitsInit w i → is_at w "}" (designation ds (init i more)) ≡ false
designated_no_curly w None i more h good = init_comes_not w i more "}" good refl refl
designated_no_curly w (Some (Equals eq)) i more h good = absurd (false≢true h.1)
designated_no_curly w (Some (DotName t n rest)) i more h good = rw h.0.0 refl
designated_no_curly w (Some (AtIndex o e c rest)) i more h good = rw h.0.0 refl

inits_no_curly : (w : Token → Word) (is : Inits) (more : List Token) → FitsInits w is
    → is_at w "}" (inits is more) ≡ false
inits_no_curly w (LastInit ds i comma) more h = designated_no_curly w ds i (optional comma more) h.0 h.1
inits_no_curly w (NextInit ds i comma rest) more h = designated_no_curly w ds i (comma ∷ inits rest more) h.0 h.1

inits_read : (w : Token → Word) (p : Reader Expr) (q : Reader Init) (n : ℕ) (is : Inits) (c : Token) (more : List Token)
    (f : ℕ)
    → ReadsAt w n 11 p → ReadsInit w n q → FitsInits w is → inits_nesting is ≤ n → w c ≡ Fixed (codes "}")
    → length (inits is (c ∷ more)) ≤ f
    → read_inits w p q f (inits is (c ∷ more)) ≡ Some (is, c ∷ more)
inits_read w p q n is c more zero reads reads_i h nests close fuel = absurd
    (omega (arith, fuel, longer_inits is (c ∷ more)))
inits_read w p q n (LastInit ds i comma) c more (suc f) reads reads_i h nests close fuel =
    let first : read_designation w p (designation ds (init i (optional comma (c ∷ more)))) ≡ Some
    (ds, init i (optional comma (c ∷ more))) = designation_read w p n ds i (optional comma (c ∷ more)) reads h.0
    (omega (arith, nests)) h.1 in
    let second : q (init i (optional comma (c ∷ more))) ≡ Some (i, optional comma (c ∷ more)) =
    reads_i i (optional comma (c ∷ more)) h.1 (omega (arith, nests)) (end_stops w comma c more h.2 close) in
    rw (first, second) (end_read w (read_inits w p q f) ds i comma c more h.2 close)
inits_read w p q n (NextInit ds i comma rest) c more (suc f) reads reads_i h nests close fuel =
    let first : read_designation w p (designation ds (init i (comma ∷ inits rest (c ∷ more)))) ≡ Some
    (ds, init i (comma ∷ inits rest (c ∷ more))) = designation_read w p n ds i
    (comma ∷ inits rest (c ∷ more)) reads h.0 (omega (arith, nests)) h.1 in
    let second : q (init i (comma ∷ inits rest (c ∷ more))) ≡ Some (i, comma ∷ inits rest (c ∷ more)) =
    reads_i i (comma ∷ inits rest (c ∷ more)) h.1 (omega (arith, nests))
    (at_comma w comma (inits rest (c ∷ more)) 12 (omega arith) h.2) in
    let again : read_inits w p q f (inits rest (c ∷ more)) ≡ Some (rest, c ∷ more) =
    inits_read w p q n rest c more f reads reads_i h.3 (omega (arith, nests)) close
    (omega (
      arith,
      fuel,
      longer_designation ds (init i (comma ∷ inits rest (c ∷ more))),
      longer_init i (comma ∷ inits rest (c ∷ more)),
    )) in
    rw (first, second, h.2, inits_no_curly w rest (c ∷ more) h.3, again) refl

value_by : (w : Token → Word) (p : Reader Expr) (is : Reader Inits) (ts : List Token) → begins_operand w ts ≡ true
    → init_by w p is ts ≡ (p ts >>= λ (e, r). Some (Value e, r))
value_by w p is [] h = absurd (false≢true h)
value_by w p is (t ∷ ts) h = rw (operand_comes_not w (t ∷ ts) "{" h refl) refl

init_by_read : (w : Token → Word) (p : Reader Expr) (is : Reader Inits) (n : ℕ) (i : Init) (more : List Token)
    → ReadsAt w (suc n) 12 p
    → ((x : Inits) (c : Token) (more : List Token) → FitsInits w x → inits_nesting x ≤ n → w c ≡ Fixed (codes "}")
    → is (inits x (c ∷ more)) ≡ Some (x, c ∷ more))
    → FitsInit w i → init_nesting i ≤ suc n → StopsAt w 12 more → init_by w p is (init i more) ≡ Some (i, more)
init_by_read w p is n (Value e) more reads lists h nests stop =
    let read : p (written e more) ≡ Some (e, more) = reads e more h.0 nests h.1 stop in
    value_by w p is (written e more) (begins w e more h.0) ∙ rw read refl
init_by_read w p is n (Braced o x c) more reads lists h nests stop =
    let read : is (inits x (c ∷ more)) ≡ Some (x, c ∷ more) = lists x c more h.1 (omega (arith, nests)) h.2 in
    rw (h.0, read, h.2) refl

none_nest : (i : Init) → init_nesting i ≤ 0 → ⊥
none_nest (Value e) h = nests_once e h
none_nest (Braced o is c) h = omega (arith, h)

pub init_read : (w : Token → Word) (n : ℕ) → ReadsInit w n (init_at w n)
init_read w zero i more h nests stop = absurd (none_nest i nests)
init_read w (suc n) i more h nests stop =
    init_by_read w (expr_at w (suc n) 12) (λ r. read_inits w (expr_at w n 11) (init_at w n) (length r) r) n i more
    ((all_read w (suc n)).exprs 12 (omega arith))
    (λ x c more h nests close. inits_read w (expr_at w n 11) (init_at w n) n x c more (length (inits x (c ∷ more)))
    ((all_read w n).exprs 11 (omega arith)) (init_read w n) h nests close (omega arith))
    h nests stop
