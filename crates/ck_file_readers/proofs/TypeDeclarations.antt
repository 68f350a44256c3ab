-- A declaration of types from what its parts read. Its names are added to the source `one`, which is `two` after the
-- first declarator and `three` after the others.
use Rattle.std.proofs.Common.{◌≡◌, ℕ, true, List, drop, refl, ap, subst, sym, ◌∙◌}
use Rattle.std.specs.Prelude.{Some, None, codes}
use Rattle.ck_base.specs.declared.tokens.Token.{Token}
use Rattle.ck_file_readers.proofs.SameMarks.{mark_same, same_then}
use Rattle.ck_file_readers.specs.Sources.{IsNamed, IsNamedRow, IsSameFile}
use Rattle.ck_file_readers.specs.Steps.{declaration_typedefs, declarator_in, more_typedefs, types_from}
use Rattle.ck_file_readers.specs.Types.{IsTypeStep}
use Rattle.ck_grammar.specs.Readers.{Read, ◌>>=◌, mark}
use Rattle.ck_grammar.specs.ReadingStatements.{declares}
use Rattle.ck_grammar.specs.Statements.{Declared, MoreDeclared, Declaration, AndPlainly, Declares, NoMoreDeclared}
use Rattle.ck_grammar.specs.Statements.{Plainly}
use Rattle.ck_grammar.specs.StatementsFitting.{is_typedef, names_after}
use Rattle.ck_grammar.specs.Trees.{Specifiers, Declarator}
use Rattle.ck_readers.specs.Places.{IsRead, itself}
use Rattle.ck_readers.specs.SourceView.{SourceView, text_mark, words}

module _ (n : ℕ) (s : Specifiers) (d : Declarator) (one two three : SourceView) (is : is_typedef (words one) s ≡ true)
    (first : IsSameFile one two) (second : IsSameFile two three)
    (named : two.typedefs ≡ names_after true one.bytes d one.typedefs) where
  abbrev ended_by : Declared → Read Token → Read Declaration
  ended_by rest read = read >>= (λ y. Some (Declares s d rest y.0, y.1))

  abbrev listed_by : MoreDeclared × List Token → Read Declaration
  listed_by r = ended_by (Plainly r.0) (mark (words one) ";" r.1)

  types_is : (ts : List Token) → declares one.bytes one.typedefs n s d ts ≡ listed_by (types_from n two ts)
  types_is ts = rw (first.0, named, is) refl

  end_is : (ts : List Token) → text_mark (words one) (codes ";") ts ≡ text_mark (words three) (codes ";") ts
  end_is ts = mark_same one three (codes ";") ts (same_then one two three first second)

  module _ {R : Type 0} (rows : R → MoreDeclared → MoreDeclared) (found : R × ℕ) (at : ℕ)
      (row : IsNamedRow (λ r. rows r NoMoreDeclared) (types_from n two) (more_typedefs two) two three at found) where
    abbrev others : MoreDeclared
    others = rows found.0 NoMoreDeclared

    row_is : types_from n two (drop at one.tokens) ≡ (others, drop found.1 three.tokens)
    row_is =
        rw second.1 (subst (λ ts. types_from n two (drop at ts) ≡ (others, drop found.1 two.tokens)) first.1
        row.row.read)

    pub types_unended : text_mark (words three) (codes ";") (drop found.1 three.tokens) ≡ None
        → declares one.bytes one.typedefs n s d (drop at one.tokens) ≡ None
    types_unended none =
        types_is (drop at one.tokens) ∙ ap listed_by row_is
        ∙ ap (ended_by (Plainly others)) (end_is (drop found.1 three.tokens) ∙ none)

    pub types_read : {X : Type 0} (view : X → Declaration) (semicolon : Token × ℕ) (tree : X) (rest : Declared)
        → IsRead itself (text_mark (words three) (codes ";")) three.tokens found.1 semicolon
        → view tree ≡ Declares s d rest semicolon.0 → rest ≡ Plainly others
        → IsNamed view (declares one.bytes one.typedefs n s d) (declaration_typedefs one) one three at
        (tree, semicolon.1)
    types_read view semicolon tree rest there whole plain =
        let made : view tree ≡ Declares s d (Plainly others) semicolon.0 =
        whole ∙ ap (λ x. Declares s d x semicolon.0) plain in
        let added : more_typedefs two others ≡ declaration_typedefs one (Declares s d (Plainly others) semicolon.0) =
        rw (first.0, named, is) refl in
        let same = same_then one two three first second in
        record {
          tree = record {
            read =
                types_is (drop at one.tokens) ∙ ap listed_by row_is
                ∙ ap (ended_by (Plainly others)) (end_is (drop found.1 three.tokens) ∙ there.read)
                ∙ rw (same.1, made) refl;
            within = λ h. rw (← same.1) (there.within (rw second.1 (row.row.within (rw first.1 h))));
          };
          typedefs = row.typedefs ∙ added ∙ ap (declaration_typedefs one) (sym made);
        }

-- a comma and a declarator that is pushed, where the source is `two` once its name is added
module _ (n : ℕ) (old new : MoreDeclared → MoreDeclared) (one two : SourceView) (at : ℕ) (comma : Token × ℕ) where
  pub type_pushed : {Y : Type 0} (name : Y → Declarator) (found : Y × ℕ)
      → IsRead itself (text_mark (words one) (codes ",")) one.tokens at comma
      → IsRead name (declarator_in n one) one.tokens comma.1 found
      → ((rest : MoreDeclared) → new rest ≡ old (AndPlainly comma.0 (name found.0) rest))
      → two.typedefs ≡ names_after true one.bytes (name found.0) one.typedefs
      → IsTypeStep n old new one two at found.1
  type_pushed name found there is push added = record {
    comma = comma.0;
    name = name found.0;
    read = λ go. rw (there.read, is.read, added) refl;
    pushed = push;
    typedefs = added;
    within = λ h. is.within (there.within h);
  }
