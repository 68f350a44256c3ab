-- A name by what it is to a declaration.
use Rattle.std.proofs.Common.{◌≡◌, ℕ, Bool, true, false, List, refl}
use Rattle.std.specs.Prelude.{if◌then◌else◌}
use Rattle.ck_grammar.specs.Fitting.{Naming, NewName, MemberName, MaybeName, NoName, may_name}
use Rattle.ck_grammar.specs.Words.{Word, Ordinary, Typedef, Number, String, Fixed, sort, sort_by}
use Rattle.ck_grammar.specs.declared.classes.Sort.{Sort}
use Rattle.ck_grammar.specs.declared.classes.Sort.TheVariants.{Storage, Qualifier, Inline, TypeWord, StructWord}
use Rattle.ck_grammar.specs.declared.classes.Sort.TheVariants.{EnumWord, Star, RoundMark, SquareMark, CurlyMark}
use Rattle.ck_grammar.specs.declared.classes.Sort.TheVariants.{CloseMark, Other, Plain}
use Rattle.ck_type_readers.specs.Views.{is_plain, is_plain_or_type, takes_sort}

mark_not_plain : (a b c d e f g h i j k : Bool)
    → is_plain_or_type (if a then Storage else if b then Qualifier else if c then Inline else if d then TypeWord
    else if e then StructWord else if f then EnumWord else if g then Star else if h then RoundMark
    else if i then SquareMark else if j then CurlyMark else if k then CloseMark else Other) ≡ false
mark_not_plain true b c d e f g h i j k = refl
mark_not_plain false true c d e f g h i j k = refl
mark_not_plain false false true d e f g h i j k = refl
mark_not_plain false false false true e f g h i j k = refl
mark_not_plain false false false false true f g h i j k = refl
mark_not_plain false false false false false true g h i j k = refl
mark_not_plain false false false false false false true h i j k = refl
mark_not_plain false false false false false false false true i j k = refl
mark_not_plain false false false false false false false false true j k = refl
mark_not_plain false false false false false false false false false true k = refl
mark_not_plain false false false false false false false false false false true = refl
mark_not_plain false false false false false false false false false false false = refl

plain_named : (s : Sort) → is_plain_or_type s ≡ false → is_plain s ≡ false
plain_named Plain h = absurd (cc)
plain_named _ h = refl

-- a keyword or a punctuator is no name
fixed_not_plain : (text : List ℕ) → is_plain_or_type (sort_by text) ≡ false
fixed_not_plain text = mark_not_plain _ _ _ _ _ _ _ _ _ _ _

pub takes_sort-is : (naming : Naming) (word : Word) → takes_sort naming (sort word) ≡ may_name naming word
takes_sort-is NewName (Fixed text) = plain_named (sort_by text) (fixed_not_plain text)
takes_sort-is NewName Ordinary = refl
takes_sort-is NewName Typedef = refl
takes_sort-is NewName Number = refl
takes_sort-is NewName String = refl
takes_sort-is MemberName (Fixed text) = fixed_not_plain text
takes_sort-is MemberName Ordinary = refl
takes_sort-is MemberName Typedef = refl
takes_sort-is MemberName Number = refl
takes_sort-is MemberName String = refl
takes_sort-is MaybeName (Fixed text) = plain_named (sort_by text) (fixed_not_plain text)
takes_sort-is MaybeName Ordinary = refl
takes_sort-is MaybeName Typedef = refl
takes_sort-is MaybeName Number = refl
takes_sort-is MaybeName String = refl
takes_sort-is NoName _ = refl
