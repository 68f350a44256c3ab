-- Initialisers from what their parts read.
use Rattle.std.proofs.Common.{◌≡◌, ℕ, ◌<◌, ◌≤◌, Bool, true, ◌||◌, List, [], ◌∷◌, length, drop, refl, ap, sym, ◌∙◌}
use Rattle.std.proofs.Common.{arith, length-drop}
use Rattle.std.specs.Prelude.{Option, Some, None, codes, if◌then◌else◌}
use Rattle.ck_base.specs.declared.tokens.Token.{Token}
use Rattle.ck_declaration_readers.specs.Rows.{entry_view}
use Rattle.ck_declaration_readers.specs.Steps.{designators_from, entry, value_after}
use Rattle.ck_grammar.specs.Readers.{Read, Reader, ◌>>=◌, is_at, mark}
use Rattle.ck_grammar.specs.ReadingStatements.{designation, designator_loop, init_by}
use Rattle.ck_grammar.specs.Statements.{Designators, Init, Inits, Value, Braced}
use Rattle.ck_grammar.specs.Trees.{Expr}
use Rattle.ck_grammar.specs.Words.{Word}
use Rattle.ck_readers.specs.Places.{IsRead, itself}
use Rattle.ck_readers.specs.SourceView.{text_mark}
use Rattle.ck_statement_trees.proofs.Marks.{marked, unmarked}

-- designators as a part of an initialiser
module _ (w : Token → Word) (e : Reader Expr) where
  abbrev some_by : Read Designators → Read (Option Designators)
  some_by read = read >>= (λ x. Some (Some x.0, x.1))

  pub undesignated : (ts : List Token) → designator_loop w e (length ts) ts ≡ None → designators_from w e ts ≡ None
  undesignated ts h = ap some_by h

  pub designated_read : {X : Type 0} (view : X → Option Designators) (tree : X) (all : Designators)
      (tokens : List Token) (at next : ℕ)
      → designator_loop w e (length (drop at tokens)) (drop at tokens) ≡ Some (all, drop next tokens)
      → view tree ≡ Some all → (at ≤ length tokens → next ≤ length tokens)
      → IsRead view (designators_from w e) tokens at (tree, next)
  designated_read view tree all tokens at next h made within = record {
    read = ap some_by h ∙ ap (λ t. Some (t, drop next tokens)) (sym made);
    within = within;
  }

  abbrev designation_by : List Token → Bool → Read (Option Designators)
  designation_by ts b = if b then designators_from w e ts else Some (None, ts)

  -- a designator begins
  pub designation_is : (ts : List Token) → (is_at w "." ts || is_at w "[" ts) ≡ true
      → designation w e ts ≡ designators_from w e ts
  designation_is ts h = ap (designation_by ts) h

-- an initialiser in braces, maybe after designators
module _ (w : Token → Word) (e : Reader Expr) (i : Reader Init) where
  abbrev init_after : Option Designators → Read Init → Read (Option Designators × Init)
  init_after ds read = read >>= (λ y. Some ((ds, y.0), y.1))

  abbrev entry_by : Read (Option Designators) → Read (Option Designators × Init)
  entry_by read = read >>= (λ x. init_after x.0 (i x.1))

  pub no_designation : (ts : List Token) → designation w e ts ≡ None → entry w e i ts ≡ None
  no_designation ts h = ap entry_by h

  pub no_init : (ts : List Token) (x : Option Designators × List Token) → designation w e ts ≡ Some x → i x.1 ≡ None
      → entry w e i ts ≡ None
  no_init ts x h none = ap entry_by h ∙ ap (init_after x.0) none

  pub entry_read : {X Y : Type 0} (ds : X → Option Designators) (init : Y → Init) (tokens : List Token) (at : ℕ)
      (found : X × ℕ) (value : Y × ℕ) → IsRead ds (designation w e) tokens at found
      → IsRead init i tokens found.1 value
      → IsRead (entry_view ds init) (entry w e i) tokens at ((found.0, value.0), value.1)
  entry_read ds init tokens at found value first second = record {
    read = ap entry_by first.read ∙ ap (init_after (ds found.0)) second.read;
    within = λ h. second.within (first.within h);
  }

-- an initialiser without braces
pub value_is : (w : Token → Word) (value : Reader Expr) (all : Reader Inits) (ts : List Token)
    → text_mark w (codes "{") ts ≡ None → init_by w value all ts ≡ value_after value ts
value_is w value all [] h = refl
value_is w value all (t ∷ ts) h = rw (unmarked w (codes "{") (t ∷ ts) h) refl

valued : (value : Reader Expr) (ts : List Token) → 0 < length ts
    → value_after value ts ≡ (value ts >>= (λ x. Some (Value x.0, x.1)))
valued value [] h = absurd (omega (arith, h))
valued value (t ∷ ts) h = refl

pub value_read : {X Y : Type 0} (value : Reader Expr) (view : X → Init) (tree : Y → Expr) (tokens : List Token)
    (at size : ℕ) (found : Y × ℕ) (made : X) → at < size → size ≡ length tokens → IsRead tree value tokens at found
    → view made ≡ Value (tree found.0) → IsRead view (value_after value) tokens at (made, found.1)
value_read value view tree tokens at size found made below is first same =
    let left : 0 < length (drop at tokens) = rw length-drop (omega (arith, below, is)) in
    record {
      read =
          valued value (drop at tokens) left ∙ rw first.read refl
          ∙ ap (λ t. Some (t, drop found.1 tokens)) (sym same);
      within = first.within;
    }

-- an initialiser in braces
module _ (w : Token → Word) (value : Reader Expr) (all : Reader Inits) (tokens : List Token) (at : ℕ)
    (opening : Token × ℕ) (there : IsRead itself (text_mark w (codes "{")) tokens at opening) where
  abbrev closed_by : Inits → Read Token → Read Init
  closed_by listed read = read >>= (λ y. Some (Braced opening.0 listed y.0, y.1))

  abbrev braced_by : Read Inits → Read Init
  braced_by read = read >>= (λ x. closed_by x.0 (mark w "}" x.1))

  braced_is : init_by w value all (drop at tokens) ≡ braced_by (all (drop opening.1 tokens))
  braced_is =
      let m = marked w (codes "{") (drop at tokens) (opening.0, drop opening.1 tokens) there.read in
      rw (m.is, m.told) refl

  pub unlisted : all (drop opening.1 tokens) ≡ None → init_by w value all (drop at tokens) ≡ None
  unlisted none = braced_is ∙ ap braced_by none

  pub unclosed : (x : Inits × List Token) → all (drop opening.1 tokens) ≡ Some x → text_mark w (codes "}") x.1 ≡ None
      → init_by w value all (drop at tokens) ≡ None
  unclosed x listed none = braced_is ∙ ap braced_by listed ∙ ap (closed_by x.0) none

  pub braced_read : {X Y : Type 0} (view : X → Init) (inits : Y → Inits) (found : Y × ℕ) (closing : Token × ℕ)
      (tree : X) → IsRead inits all tokens opening.1 found
      → IsRead itself (text_mark w (codes "}")) tokens found.1 closing
      → view tree ≡ Braced opening.0 (inits found.0) closing.0
      → IsRead view (init_by w value all) tokens at (tree, closing.1)
  braced_read view inits found closing tree listed last made = record {
    read =
        braced_is ∙ ap braced_by listed.read ∙ ap (closed_by (inits found.0)) last.read
        ∙ ap (λ t. Some (t, drop closing.1 tokens)) (sym made);
    within = λ h. last.within (listed.within (there.within h));
  }
