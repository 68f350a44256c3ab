-- The refusal that is told is the first of all.
use Rattle.std.specs.Prelude.{suc, slice_index_or, Bool, true, false, All, Contains, List, [], ◌∷◌, Option, Some}
use Rattle.std.specs.Prelude.{None, if◌then◌else◌}
use Rattle.std.specs.Prelude.{IfNone, IfSome}
use Rattle.std.specs.Cmp.{IsTotalOrder}
use Rattle.std.specs.Cmp.Lexicographic.{slice_cmp, on_texts}
use Rattle.std.specs.Ordering.{is_lt, nat_cmp, ordering_reverse}
use Rattle.std.specs.declared.cmp.Ordering.{Ordering}
use Rattle.std.specs.declared.cmp.Ordering.TheVariants.{Less, Equal, Greater}
use Rattle.std.proofs.Common.{◌≡◌, refl, ◌∙◌, ap, subst, arith}
use Rattle.std.proofs.lemmas.List.Elements.{All-cons, All-nil}
use Rattle.ck_prog.specs.BodyLaws.{IsFirst}
use Rattle.ck_prog.specs.Refused.{RefusedAt, rank_of, comes_before, earlier, first_refused}

abbrev order : RefusedAt → RefusedAt → Ordering
order r s = slice_cmp nat_cmp (rank_of r) (rank_of s)

orders : IsTotalOrder order
orders = on_texts rank_of

never_less : (o : Ordering) → o ≡ ordering_reverse o → is_lt o ≡ false
never_less Less e = absurd (cc)
never_less Equal e = refl
never_less Greater e = refl

-- none comes before itself, nor before one that it comes after
not_before_itself : (r : RefusedAt) → comes_before r r ≡ false
not_before_itself r = never_less (order r r) (orders.antisymm r r)

reversed : (a b : Ordering) → a ≡ ordering_reverse b → is_lt b ≡ true → is_lt a ≡ false
reversed a Less e t = ap is_lt e
reversed a Equal e t = absurd (cc)
reversed a Greater e t = absurd (cc)

not_before_later : (r s : RefusedAt) → comes_before s r ≡ true → comes_before r s ≡ false
not_before_later r s t = reversed (order r s) (order s r) (orders.antisymm r s) t

-- where the second comes not before the first, and the third not before the second, the third comes not before the
-- first
in_order : (a b c : Ordering) → is_lt a ≡ false → is_lt b ≡ false → (c ≡ Less → b ≡ Equal → a ≡ Less)
    → (c ≡ Less → b ≡ Greater → a ≡ Less) → is_lt c ≡ false
in_order a b Equal h k p q = refl
in_order a b Greater h k p q = refl
in_order a Less Less h k p q = absurd (cc)
in_order a Equal Less h k p q = absurd (let e = p refl refl in cc)
in_order a Greater Less h k p q = absurd (let e = q refl refl in cc)

greater_back : (a b : Ordering) → a ≡ ordering_reverse b → b ≡ Greater → a ≡ Less
greater_back a b e h = e ∙ ap ordering_reverse h

greater_of_less : (a b : Ordering) → a ≡ ordering_reverse b → b ≡ Less → a ≡ Greater
greater_of_less a b e h = e ∙ ap ordering_reverse h

not_before_first : (u s r : RefusedAt) → comes_before u s ≡ false → comes_before s r ≡ false → comes_before u r ≡ false
not_before_first u s r h k =
    in_order (order u s) (order s r) (order u r) h k
    (λ less equal. greater_back (order u s) (order s u) (orders.antisymm u s)
    (orders.congr s r u equal ∙ greater_of_less (order r u) (order u r) (orders.antisymm r u) less))
    (λ less greater. orders.trans u r s less (greater_back (order r s) (order s r) (orders.antisymm r s) greater))

-- the refusal that is told --------------------------------------------------------------------------------------------

some_of : (r : RefusedAt) (s : Option RefusedAt) (P : Type 0) → IfNone (earlier r s) P
some_of r None P = tt
some_of r (Some s) P = tt

pub tells_some : (rs : List RefusedAt) → IfNone (first_refused rs) (rs ≡ [])
tells_some [] = refl
tells_some (r ∷ rs) = some_of r (first_refused rs) (r ∷ rs ≡ [])

contains_first : (r s : RefusedAt) (rs : List RefusedAt) → r ≡ s → Contains (r ∷ rs) s
contains_first r s rs e = (0, omega arith, e)

contains_later : (r s : RefusedAt) (rs : List RefusedAt) → Contains rs s → Contains (r ∷ rs) s
contains_later r s rs c = (suc c.0, omega (arith, c.1), c.2)

-- nothing of the others comes before one that the first of them doesn't come before
all_after : (r s : RefusedAt) (rs : List RefusedAt) → comes_before s r ≡ false → All (λ u. comes_before u s ≡ false) rs
    → All (λ u. comes_before u r ≡ false) rs
all_after r s rs h all = λ k d below. not_before_first (slice_index_or rs k d) s r (all k d below) h

first_alone : (r : RefusedAt) (rs : List RefusedAt) → rs ≡ [] → IsFirst (r ∷ rs) r
first_alone r [] e =
    record {
      one_of_them = contains_first r r [] refl;
      none_before =
          All-cons (λ s. comes_before s r ≡ false) r [] (not_before_itself r) (All-nil (λ s. comes_before s r ≡ false));
    }
first_alone r (s ∷ rs) e = absurd (cc)

kept : (r s : RefusedAt) (rs : List RefusedAt) → comes_before s r ≡ true → IsFirst rs s → IsFirst (r ∷ rs) s
kept r s rs t first =
    record {
      one_of_them = contains_later r s rs first.one_of_them;
      none_before = All-cons (λ u. comes_before u s ≡ false) r rs (not_before_later r s t) first.none_before;
    }

replaced : (r s : RefusedAt) (rs : List RefusedAt) → comes_before s r ≡ false → IsFirst rs s → IsFirst (r ∷ rs) r
replaced r s rs h first =
    record {
      one_of_them = contains_first r r rs refl;
      none_before =
          All-cons (λ u. comes_before u r ≡ false) r rs (not_before_itself r) (all_after r s rs h first.none_before);
    }

of_two : (b : Bool) (r s : RefusedAt) (rs : List RefusedAt) → comes_before s r ≡ b → IsFirst rs s
    → IsFirst (r ∷ rs) (if b then s else r)
of_two true r s rs e first = kept r s rs e first
of_two false r s rs e first = replaced r s rs e first

first_in : (r : RefusedAt) (rs : List RefusedAt) (s : Option RefusedAt) → IfNone s (rs ≡ [])
    → IfSome s (IsFirst rs) → IfSome (earlier r s) (IsFirst (r ∷ rs))
first_in r rs None none some = first_alone r rs none
first_in r rs (Some s) none some = of_two (comes_before s r) r s rs refl some

first_of_all : (rs : List RefusedAt) → IfSome (first_refused rs) (IsFirst rs)
first_of_all [] = tt
first_of_all (r ∷ rs) = first_in r rs (first_refused rs) (tells_some rs) (first_of_all rs)

told : (rs : List RefusedAt) (s : Option RefusedAt) (r : RefusedAt) → IfSome s (IsFirst rs) → s ≡ Some r → IsFirst rs r
told rs None r first e = absurd (cc)
told rs (Some s) r first e = subst (IsFirst rs) (cc) first

pub tells_the_first : (rs : List RefusedAt) (r : RefusedAt) → first_refused rs ≡ Some r → IsFirst rs r
tells_the_first rs r e = told rs (first_refused rs) r (first_of_all rs) e
