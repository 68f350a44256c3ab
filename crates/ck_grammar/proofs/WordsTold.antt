-- What it tells of a word how it begins an operand or a statement, follows an expression or is in a declaration.
use Rattle.std.proofs.Common.{◌≡◌, ℕ, ◌≤◌, Bool, true, false, ◌||◌, cond, List, [], ◌∷◌, nat_eq, refl, ap, arith, ◌⊎◌}
use Rattle.std.proofs.Common.{inl, inr}
use Rattle.std.specs.Prelude.{codes}
use Rattle.std.specs.Str.{bytes_eq}
use Rattle.std.proofs.lemmas.Bool.{false≢true}
use Rattle.std.proofs.lemmas.Bool.Decides.{nat_tests}
use Rattle.std.proofs.lemmas.Slice.Eq.{bytes_eq-Decides}
use Rattle.ck_grammar.specs.Fitting.{operator_level}
use Rattle.ck_grammar.specs.Phrases.{Phrase, NamePhrase, BlockPhrase, ClosePhrase, EmptyPhrase, IfPhrase, ElsePhrase}
use Rattle.ck_grammar.specs.Phrases.{SwitchPhrase, WhilePhrase, DoPhrase, ForPhrase, CasePhrase, DefaultPhrase}
use Rattle.ck_grammar.specs.Phrases.{GotoPhrase, JumpPhrase, ReturnPhrase, OtherPhrase, phrase}
use Rattle.ck_grammar.specs.ReadingExpressions.{is_string}
use Rattle.ck_grammar.specs.StatementsFitting.{IsJump}
use Rattle.ck_grammar.specs.Words.{Word, is_identifier, Ordinary, Typedef, Number, String, Fixed, is_one_of, Sort}
use Rattle.ck_grammar.specs.Words.{Storage, Qualifier, Inline, TypeWord, StructWord, EnumWord, TypeName, Star}
use Rattle.ck_grammar.specs.Words.{RoundMark, SquareMark, CurlyMark, CloseMark, Other, sort, Lead, NameLead}
use Rattle.ck_grammar.specs.Words.{ConstantLead, StringLead, ParenLead, StepLead, OperatorLead, SizeofLead, NoLead}
use Rattle.ck_grammar.specs.Words.{lead, Follow, Bracket, Parenthesis, Point, Steps, Operator, follow, operator_in}
use Rattle.ck_grammar.specs.Words.{operators}

same_text : (text other : List ℕ) → bytes_eq text other ≡ true → Fixed text ≡ Fixed other
same_text text other h = ap Fixed ((bytes_eq-Decides text other).0 h)

or_false_true : (b : Bool) → (b || false) ≡ true → b ≡ true
or_false_true true h = refl
or_false_true false h = h

-- the one word of a line
one_text : (text other : List ℕ) → is_one_of (other ∷ []) text ≡ true → Fixed text ≡ Fixed other
one_text text other h = same_text text other (or_false_true (bytes_eq text other) h)

abbrev pub LeadTells : Word → Lead → Type 0
LeadTells word NameLead = word ≡ Ordinary
LeadTells word ConstantLead = word ≡ Number
LeadTells word StringLead = word ≡ String
LeadTells word ParenLead = word ≡ Fixed (codes "(")
LeadTells word SizeofLead = word ≡ Fixed (codes "sizeof")
LeadTells word _ = Unit {0}

lead_chain : (text : List ℕ) (a b c d e : Bool) → (b ≡ true → Fixed text ≡ Fixed (codes "("))
    → (e ≡ true → Fixed text ≡ Fixed (codes "sizeof"))
    → LeadTells (Fixed text)
    (cond a NoLead (cond b ParenLead (cond c StepLead (cond d OperatorLead (cond e SizeofLead NoLead)))))
lead_chain text true b c d e first second = tt
lead_chain text false true c d e first second = first refl
lead_chain text false false true d e first second = tt
lead_chain text false false false true e first second = tt
lead_chain text false false false false true first second = second refl
lead_chain text false false false false false first second = tt

pub lead_tells : (word : Word) → LeadTells word (lead word)
lead_tells Typedef = tt
lead_tells (Fixed text) = lead_chain text _ _ _ _ _ (one_text text (codes "(")) (one_text text (codes "sizeof"))
lead_tells _ = refl

abbrev pub FollowTells : Word → Follow → Type 0
FollowTells word Bracket = word ≡ Fixed (codes "[")
FollowTells word Parenthesis = word ≡ Fixed (codes "(")
FollowTells word (Operator k) = k ≡ 11 → word ≡ Fixed (codes "?")
FollowTells word _ = Unit {0}

level_step : (word : Word) (b : Bool) (k : ℕ) (x : Follow) → (b ≡ true → k ≡ 11 → word ≡ Fixed (codes "?"))
    → FollowTells word x → FollowTells word (cond b (Operator k) x)
level_step word true k x first h = first refl
level_step word false k x first h = h

-- `?` alone is at the level of conditional expressions
abbrev QuestionAlone : List (ℕ × List (List ℕ)) → Type 0
QuestionAlone [] = Unit {0}
QuestionAlone (row ∷ rows) = (row.0 ≡ 11 → row.1 ≡ (codes "?" ∷ [])) × QuestionAlone rows

question_text : (texts : List (List ℕ)) (text : List ℕ) → texts ≡ (codes "?" ∷ []) → is_one_of texts text ≡ true
    → Fixed text ≡ Fixed (codes "?")
question_text texts text alone h = one_text text (codes "?") (rw alone at h)

level_tells : (rows : List (ℕ × List (List ℕ))) (text : List ℕ) → QuestionAlone rows
    → FollowTells (Fixed text) (operator_in rows text)
level_tells [] text alone = tt
level_tells (row ∷ rows) text alone =
    level_step (Fixed text) (is_one_of row.1 text) row.0 (operator_in rows text)
    (λ h e. question_text row.1 text (alone.0 e) h) (level_tells rows text alone.1)

question_alone : QuestionAlone operators
question_alone = (
  λ e. absurd (omega (arith, e)),
  (
    λ e. absurd (omega (arith, e)),
    (
      λ e. absurd (omega (arith, e)),
      (
        λ e. absurd (omega (arith, e)),
        (
          λ e. absurd (omega (arith, e)),
          (
            λ e. absurd (omega (arith, e)),
            (
              λ e. absurd (omega (arith, e)),
              (
                λ e. absurd (omega (arith, e)),
                (
                  λ e. absurd (omega (arith, e)),
                  (
                    λ e. absurd (omega (arith, e)),
                    (λ e. refl, (λ e. absurd (omega (arith, e)), (λ e. absurd (omega (arith, e)), tt))),
                  ),
                ),
              ),
            ),
          ),
        ),
      ),
    ),
  ),
)

follow_chain : (text : List ℕ) (a b c d : Bool) (x : Follow) → (a ≡ true → Fixed text ≡ Fixed (codes "["))
    → (b ≡ true → Fixed text ≡ Fixed (codes "(")) → FollowTells (Fixed text) x
    → FollowTells (Fixed text) (cond a Bracket (cond b Parenthesis (cond c Point (cond d Steps x))))
follow_chain text true b c d x first second h = first refl
follow_chain text false true c d x first second h = second refl
follow_chain text false false true d x first second h = tt
follow_chain text false false false true x first second h = tt
follow_chain text false false false false x first second h = h

pub follow_tells : (word : Word) → FollowTells word (follow word)
follow_tells (Fixed text) = follow_chain text _ _ _ _ (operator_in operators text) (one_text text (codes "["))
    (one_text text (codes "(")) (level_tells operators text question_alone)
follow_tells _ = tt

abbrev pub SortTells : Word → Sort → Type 0
SortTells word TypeName = word ≡ Typedef
SortTells word RoundMark = word ≡ Fixed (codes "(")
SortTells word SquareMark = word ≡ Fixed (codes "[")
SortTells word _ = Unit {0}

sort_chain : (text : List ℕ) (a b c d e f g h i j k : Bool) → (h ≡ true → Fixed text ≡ Fixed (codes "("))
    → (i ≡ true → Fixed text ≡ Fixed (codes "["))
    → SortTells (Fixed text)
    (cond a Storage
    (cond b Qualifier
    (cond c Inline
    (cond d TypeWord
    (cond e StructWord
    (cond f EnumWord
    (cond g Star (cond h RoundMark (cond i SquareMark (cond j CurlyMark (cond k CloseMark Other)))))))))))
sort_chain text true b c d e f g h i j k first second = tt
sort_chain text false true c d e f g h i j k first second = tt
sort_chain text false false true d e f g h i j k first second = tt
sort_chain text false false false true e f g h i j k first second = tt
sort_chain text false false false false true f g h i j k first second = tt
sort_chain text false false false false false true g h i j k first second = tt
sort_chain text false false false false false false true h i j k first second = tt
sort_chain text false false false false false false false true i j k first second = first refl
sort_chain text false false false false false false false false true j k first second = second refl
sort_chain text false false false false false false false false false true k first second = tt
sort_chain text false false false false false false false false false false true first second = tt
sort_chain text false false false false false false false false false false false first second = tt

pub sort_tells : (word : Word) → SortTells word (sort word)
sort_tells Typedef = refl
sort_tells (Fixed text) = sort_chain text _ _ _ _ _ _ _ _ _ _ _ (one_text text (codes "("))
    (one_text text (codes "["))
sort_tells _ = tt

pub string_tells : (word : Word) → is_string word ≡ true → word ≡ String
string_tells String h = refl
string_tells _ h = absurd (false≢true h)

pub equal : (a b : ℕ) → nat_eq a b ≡ true → a ≡ b
equal a b h = grind (arith, nat_tests)

-- a level tells the operator
pub operator_tells : (x : Follow) (k : ℕ) → 1 ≤ k → nat_eq (operator_level x) k ≡ true → x ≡ Operator k
operator_tells (Operator m) k one h = ap Operator (equal m k h)
operator_tells _ k one h = absurd (omega (arith, one, equal 0 k h))

question_by : (word : Word) (x : Follow) → FollowTells word x → x ≡ Operator 11 → word ≡ Fixed (codes "?")
question_by word x told e = (rw e at told) refl

-- `?` alone is the operator of the level 11
pub question_tells : (word : Word) → follow word ≡ Operator 11 → word ≡ Fixed (codes "?")
question_tells word e = question_by word (follow word) (follow_tells word) e

abbrev pub PhraseTells : Word → Phrase → Type 0
PhraseTells word NamePhrase = is_identifier word ≡ true
PhraseTells word BlockPhrase = word ≡ Fixed (codes "{")
PhraseTells word EmptyPhrase = word ≡ Fixed (codes ";")
PhraseTells word IfPhrase = word ≡ Fixed (codes "if")
PhraseTells word SwitchPhrase = word ≡ Fixed (codes "switch")
PhraseTells word WhilePhrase = word ≡ Fixed (codes "while")
PhraseTells word DoPhrase = word ≡ Fixed (codes "do")
PhraseTells word ForPhrase = word ≡ Fixed (codes "for")
PhraseTells word CasePhrase = word ≡ Fixed (codes "case")
PhraseTells word DefaultPhrase = word ≡ Fixed (codes "default")
PhraseTells word GotoPhrase = word ≡ Fixed (codes "goto")
PhraseTells word JumpPhrase = IsJump word
PhraseTells word ReturnPhrase = word ≡ Fixed (codes "return")
PhraseTells word _ = Unit {0}

-- what one test of a chain tells of a word
phrase_told : (word : Word) (b : Bool) (one last : Phrase)
    → (b ≡ true → PhraseTells word one) → PhraseTells word last → PhraseTells word (cond b one last)
phrase_told word true one last told rest = told refl
phrase_told word false one last told rest = rest

phrase_chain : (text : List ℕ) (a b c d e f g h i j k l m n o : Bool)
    → (b ≡ true → Fixed text ≡ Fixed (codes "{")) → (d ≡ true → Fixed text ≡ Fixed (codes ";"))
    → (e ≡ true → Fixed text ≡ Fixed (codes "if")) → (g ≡ true → Fixed text ≡ Fixed (codes "switch"))
    → (h ≡ true → Fixed text ≡ Fixed (codes "while")) → (i ≡ true → Fixed text ≡ Fixed (codes "do"))
    → (j ≡ true → Fixed text ≡ Fixed (codes "for")) → (k ≡ true → Fixed text ≡ Fixed (codes "case"))
    → (l ≡ true → Fixed text ≡ Fixed (codes "default")) → (m ≡ true → Fixed text ≡ Fixed (codes "goto"))
    → (n ≡ true → IsJump (Fixed text)) → (o ≡ true → Fixed text ≡ Fixed (codes "return"))
    → PhraseTells (Fixed text)
    (cond a OtherPhrase
    (cond b BlockPhrase
    (cond c ClosePhrase
    (cond d EmptyPhrase
    (cond e IfPhrase
    (cond f ElsePhrase
    (cond g SwitchPhrase
    (cond h WhilePhrase
    (cond i DoPhrase
    (cond j ForPhrase
    (cond k CasePhrase
    (cond l DefaultPhrase (cond m GotoPhrase (cond n JumpPhrase (cond o ReturnPhrase OtherPhrase)))))))))))))))
phrase_chain text a b c d e f g h i j k l m n o block empty if_ switch while_ do_ for_ case_ default_ goto_ leave
    return_ =
    let w = Fixed text in
    phrase_told w a OtherPhrase _ (λ is. tt)
    (phrase_told w b BlockPhrase _ block
    (phrase_told w c ClosePhrase _ (λ is. tt)
    (phrase_told w d EmptyPhrase _ empty
    (phrase_told w e IfPhrase _ if_
    (phrase_told w f ElsePhrase _ (λ is. tt)
    (phrase_told w g SwitchPhrase _ switch
    (phrase_told w h WhilePhrase _ while_
    (phrase_told w i DoPhrase _ do_
    (phrase_told w j ForPhrase _ for_
    (phrase_told w k CasePhrase _ case_
    (phrase_told w l DefaultPhrase _ default_
    (phrase_told w m GotoPhrase _ goto_
    (phrase_told w n JumpPhrase _ leave (phrase_told w o ReturnPhrase OtherPhrase return_ tt))))))))))))))

or_cases : (a b : Bool) → (a || b) ≡ true → (a ≡ true) ⊎ (b ≡ true)
or_cases true b h = inl refl
or_cases false b h = inr h

leave_text : (text : List ℕ) → is_one_of (codes "break" ∷ codes "continue" ∷ []) text ≡ true → IsJump (Fixed text)
leave_text text h =
    elim (or_cases (bytes_eq text (codes "break")) (bytes_eq text (codes "continue") || false) h) [
      | inl b ↦ inl (same_text text (codes "break") b)
      | inr c ↦ inr (same_text text (codes "continue") (or_false_true (bytes_eq text (codes "continue")) c))
    ]

pub phrase_tells : (word : Word) → PhraseTells word (phrase word)
phrase_tells Ordinary = refl
phrase_tells Typedef = refl
phrase_tells Number = tt
phrase_tells String = tt
phrase_tells (Fixed text) =
    phrase_chain text _ _ _ _ _ _ _ _ _ _ _ _ _ _ _ (one_text text (codes "{")) (one_text text (codes ";"))
    (one_text text (codes "if")) (one_text text (codes "switch")) (one_text text (codes "while"))
    (one_text text (codes "do")) (one_text text (codes "for")) (one_text text (codes "case"))
    (one_text text (codes "default")) (one_text text (codes "goto")) (leave_text text)
    (one_text text (codes "return"))
