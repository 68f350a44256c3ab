-- Members, enumerators and parameters are read as they are written.
use Rattle.std.proofs.Common.{◌≡◌, ℕ, zero, suc, ◌≤◌, true, List, [], ◌∷◌, length, Option, Some, None, refl, ◌∙◌, arith}
use Rattle.std.specs.Prelude.{codes}
use Rattle.ck_base.specs.declared.tokens.Token.{Token}
use Rattle.ck_grammar.proofs.DeclaratorsComplete.{ReadsParams, ReadsDeclarators}
use Rattle.ck_grammar.proofs.Lengths.{longer, longer_specifiers, longer_declarator, longer_declarators}
use Rattle.ck_grammar.proofs.SpecifiersComplete.{ReadsMembers, ReadsEnumerators, ReadsSpecifiers}
use Rattle.ck_grammar.proofs.Stops.{StopsAt, ReadsAt, at_comma, at_curly}
use Rattle.ck_grammar.proofs.TypeStops.{StopsBoth, stops_declarator, declarator_ends, specifiers_begin}
use Rattle.ck_grammar.specs.Fitting.{FitsDeclarators, FitsMembers, FitsEnumerators, FitsParams, FitsMore, IsComma}
use Rattle.ck_grammar.specs.Fitting.{Naming, MemberName, MaybeName}
use Rattle.ck_grammar.specs.Nesting.{declarators_nesting, members_nesting, enumerators_nesting, params_nesting}
use Rattle.ck_grammar.specs.Nesting.{more_params_nesting}
use Rattle.ck_grammar.specs.Readers.{Reader}
use Rattle.ck_grammar.specs.ReadingTypes.{begins_with, declarator_loop, member_loop, members as read_members, is_name}
use Rattle.ck_grammar.specs.ReadingTypes.{enumerator_end, enumerator_value, enumerators as read_enumerators, more_loop}
use Rattle.ck_grammar.specs.ReadingTypes.{parameters, params as read_params}
use Rattle.ck_grammar.specs.Specified.{InType, InParameter}
use Rattle.ck_grammar.specs.Trees.{Expr, Specifiers, Declarator, Declarators, Members, Enumerators, Params, MoreParams}
use Rattle.ck_grammar.specs.Trees.{NoSpecifiers, NoMembers, Member, NoDeclarators, Also, Abstract, NoDims, NoParams}
use Rattle.ck_grammar.specs.Trees.{VoidParams, Parameters, NoMore, Ellipsis, More, LastOne, LastValued, One, Valued}
use Rattle.ck_grammar.specs.Words.{begins_specifiers, Word, Fixed}
use Rattle.ck_grammar.specs.Written.{written, specifiers, declarator, declarators, members, enumerators, params}
use Rattle.ck_grammar.specs.Written.{more_params, optional}
use Rattle.ck_grammar.specs.Trees as trees

declarators_stop : (w : Token → Word) (naming : Naming) (ds : Declarators) (semicolon : Token) (ts : List Token)
    → FitsDeclarators w naming ds → w semicolon ≡ Fixed (codes ";") → StopsBoth w (declarators ds (semicolon ∷ ts))
declarators_stop w naming NoDeclarators semicolon ts h close = rw close refl
declarators_stop w naming (Also comma d rest) semicolon ts h close = rw h.0 refl

declarators_read : (w : Token → Word) (r : Reader Declarator) (n : ℕ) (naming : Naming) (ds : Declarators)
    (semicolon : Token) (ts : List Token) (f : ℕ)
    → ReadsDeclarators w n naming r → FitsDeclarators w naming ds → declarators_nesting ds ≤ n
    → w semicolon ≡ Fixed (codes ";") → length (declarators ds (semicolon ∷ ts)) ≤ f
    → declarator_loop w r f (declarators ds (semicolon ∷ ts)) ≡ (ds, semicolon ∷ ts)
declarators_read w r n naming NoDeclarators semicolon ts zero reads h nests close fuel = refl
declarators_read w r n naming NoDeclarators semicolon ts (suc f) reads h nests close fuel = rw close refl
declarators_read w r n naming (Also comma d rest) semicolon ts zero reads h nests close fuel =
    absurd (omega (arith, fuel))
declarators_read w r n naming (Also comma d rest) semicolon ts (suc f) reads h nests close fuel =
    let read : r (declarator d (declarators rest (semicolon ∷ ts))) ≡ Some (d, declarators rest (semicolon ∷ ts)) =
    reads d (declarators rest (semicolon ∷ ts)) h.1 (omega (arith, nests))
    (stops_declarator w (declarators rest (semicolon ∷ ts))
    (declarators_stop w naming rest semicolon ts h.2 close)) in
    let again : declarator_loop w r f (declarators rest (semicolon ∷ ts)) ≡ (rest, semicolon ∷ ts) =
    declarators_read w r n naming rest semicolon ts f reads h.2 (omega (arith, nests)) close
    (omega (arith, fuel, longer_declarator d (declarators rest (semicolon ∷ ts)))) in
    rw (h.0, read, again) refl

-- a member declaration has at least a token, its `;`
longer_member : (x : Specifiers) (d : Declarator) (ds : Declarators) (semicolon : Token) (rest : Members)
    (us : List Token) → suc (length (members rest us)) ≤ length (members (Member x d ds semicolon rest) us)
longer_member x d ds semicolon rest us = omega (
  arith,
  longer_specifiers x (declarator d (declarators ds (semicolon ∷ members rest us))),
  longer_declarator d (declarators ds (semicolon ∷ members rest us)),
  longer_declarators ds (semicolon ∷ members rest us),
)

member_loop_read : (w : Token → Word) (s : Reader Specifiers) (r : Reader Declarator) (n : ℕ) (m : Members) (c : Token)
    (more : List Token) (f : ℕ)
    → ReadsSpecifiers w n InType s → ReadsDeclarators w n MemberName r
    → ((t : Token) (ts : List Token) → w t ≡ Fixed (codes "}") → s (t ∷ ts) ≡ None)
    → FitsMembers w m → members_nesting m ≤ n → w c ≡ Fixed (codes "}") → length (members m (c ∷ more)) ≤ f
    → member_loop w s r f (members m (c ∷ more)) ≡ (m, c ∷ more)
member_loop_read w s r n NoMembers c more zero reads_s reads_d none h nests close fuel = refl
member_loop_read w s r n NoMembers c more (suc f) reads_s reads_d none h nests close fuel = rw (none c more close) refl
member_loop_read w s r n (Member x d ds semicolon rest) c more zero reads_s reads_d none h nests close fuel =
    absurd (omega (arith, fuel, longer_member x d ds semicolon rest (c ∷ more)))
member_loop_read w s r n (Member x d ds semicolon rest) c more (suc f) reads_s reads_d none h nests close fuel =
    let stop = declarators_stop w MemberName ds semicolon (members rest (c ∷ more)) h.1 h.2 in
    let first : s (specifiers x (declarator d (declarators ds (semicolon ∷ members rest (c ∷ more))))) ≡ Some
    (x, declarator d (declarators ds (semicolon ∷ members rest (c ∷ more)))) =
    reads_s x (declarator d (declarators ds (semicolon ∷ members rest (c ∷ more)))) h.0.0 h.0.1
    (omega (arith, nests))
    (declarator_ends w MemberName d (declarators ds (semicolon ∷ members rest (c ∷ more))) h.0.2 stop) in
    let second : r (declarator d (declarators ds (semicolon ∷ members rest (c ∷ more)))) ≡ Some
    (d, declarators ds (semicolon ∷ members rest (c ∷ more))) = reads_d d
    (declarators ds (semicolon ∷ members rest (c ∷ more))) h.0.2 (omega (arith, nests))
    (stops_declarator w (declarators ds (semicolon ∷ members rest (c ∷ more))) stop) in
    let third : declarator_loop w r (length (declarators ds (semicolon ∷ members rest (c ∷ more))))
    (declarators ds (semicolon ∷ members rest (c ∷ more))) ≡ (ds, semicolon ∷ members rest (c ∷ more)) =
    declarators_read w r n MemberName ds semicolon (members rest (c ∷ more))
    (length (declarators ds (semicolon ∷ members rest (c ∷ more)))) reads_d h.1 (omega (arith, nests)) h.2
    (omega arith) in
    let again : member_loop w s r f (members rest (c ∷ more)) ≡ (rest, c ∷ more) =
    member_loop_read w s r n rest c more f reads_s reads_d none h.3 (omega (arith, nests)) close
    (omega (arith, fuel, longer_member x d ds semicolon rest (c ∷ more))) in
    rw (first, second, third, h.2, again) refl

pub members_read : (w : Token → Word) (s : Reader Specifiers) (r : Reader Declarator) (n : ℕ)
    → ReadsSpecifiers w n InType s → ReadsDeclarators w n MemberName r
    → ((t : Token) (ts : List Token) → w t ≡ Fixed (codes "}") → s (t ∷ ts) ≡ None)
    → ReadsMembers w (suc n) (read_members w s r)
members_read w s r n reads_s reads_d none m c more h one nests close =
    let all : member_loop w s r (length (members m (c ∷ more))) (members m (c ∷ more)) ≡ (m, c ∷ more) =
    member_loop_read w s r n m c more (length (members m (c ∷ more))) reads_s reads_d none h
    (omega (arith, nests)) close (omega arith) in
    rw (all, one) refl

-- what is after an enumerator's value ends it
end_stops : (w : Token → Word) (comma : Option Token) (c : Token) (more : List Token) → IsComma w comma
    → w c ≡ Fixed (codes "}") → StopsAt w 11 (optional comma (c ∷ more))
end_stops w None c more h close = at_curly w c more 11 (omega arith) close
end_stops w (Some t) c more h close = at_comma w t (c ∷ more) 11 (omega arith) h

end_read : (w : Token → Word) (go : Reader Enumerators) (last : Option Token → Enumerators)
    (next : Token → Enumerators → Enumerators) (comma : Option Token) (c : Token) (more : List Token)
    → IsComma w comma → w c ≡ Fixed (codes "}") → enumerator_end w go last next (optional comma (c ∷ more)) ≡ Some
    (last comma, c ∷ more)
end_read w go last next None c more h close = rw close refl
end_read w go last next (Some t) c more h close = rw (h, close) refl

-- a comma in place of a value
no_value : (w : Token → Word) (p : Reader Expr) (go : Reader Enumerators) (t : Token) (comma : Option Token) (c : Token)
    (more : List Token)
    → IsComma w comma → w c ≡ Fixed (codes "}") → enumerator_value w p go t (optional comma (c ∷ more)) ≡ Some
    (LastOne t comma, c ∷ more)
no_value w p go t None c more h close = rw close refl
no_value w p go t (Some comma) c more h close = rw (h, close) refl

enumerators_named : (w : Token → Word) (m : Enumerators) (c : Token) (more : List Token) → FitsEnumerators w m
    → is_name w (enumerators m (c ∷ more)) ≡ true
enumerators_named w (LastOne t comma) c more h = rw h.0 refl
enumerators_named w _ c more h = rw h.0 refl

enumerator_loop_read : (w : Token → Word) (p : Reader Expr) (n : ℕ) (m : Enumerators) (c : Token) (more : List Token)
    (f : ℕ)
    → ReadsAt w n 11 p → FitsEnumerators w m → enumerators_nesting m ≤ n → w c ≡ Fixed (codes "}")
    → length (enumerators m (c ∷ more)) ≤ f
    → read_enumerators w p f (enumerators m (c ∷ more)) ≡ Some (m, c ∷ more)
enumerator_loop_read w p n (LastOne t comma) c more zero reads h nests close fuel = absurd (omega (arith, fuel))
enumerator_loop_read w p n (LastOne t comma) c more (suc f) reads h nests close fuel =
    rw h.0 (no_value w p (read_enumerators w p f) t comma c more h.1 close)
enumerator_loop_read w p n (LastValued t eq e comma) c more zero reads h nests close fuel = absurd (omega (arith, fuel))
enumerator_loop_read w p n (LastValued t eq e comma) c more (suc f) reads h nests close fuel =
    let read : p (written e (optional comma (c ∷ more))) ≡ Some (e, optional comma (c ∷ more)) =
    reads e (optional comma (c ∷ more)) h.2.0 (omega (arith, nests)) h.2.1 (end_stops w comma c more h.3 close) in
    rw (h.0, h.1, read) (end_read w (read_enumerators w p f) (LastValued t eq e) (Valued t eq e) comma c more h.3 close)
enumerator_loop_read w p n (One t comma rest) c more zero reads h nests close fuel = absurd (omega (arith, fuel))
enumerator_loop_read w p n (One t comma rest) c more (suc f) reads h nests close fuel =
    let again : read_enumerators w p f (enumerators rest (c ∷ more)) ≡ Some (rest, c ∷ more) =
    enumerator_loop_read w p n rest c more f reads h.2 nests close (omega (arith, fuel)) in
    rw (h.0, h.1, enumerators_named w rest c more h.2, again) refl
enumerator_loop_read w p n (Valued t eq e comma rest) c more zero reads h nests close fuel =
    absurd (omega (arith, fuel))
enumerator_loop_read w p n (Valued t eq e comma rest) c more (suc f) reads h nests close fuel =
    let read : p (written e (comma ∷ enumerators rest (c ∷ more))) ≡ Some (e, comma ∷ enumerators rest (c ∷ more)) =
    reads e (comma ∷ enumerators rest (c ∷ more)) h.2.0 (omega (arith, nests)) h.2.1
    (at_comma w comma (enumerators rest (c ∷ more)) 11 (omega arith) h.3) in
    let again : read_enumerators w p f (enumerators rest (c ∷ more)) ≡ Some (rest, c ∷ more) =
    enumerator_loop_read w p n rest c more f reads h.4 (omega (arith, nests)) close
    (omega (arith, fuel, longer e (comma ∷ enumerators rest (c ∷ more)))) in
    rw (h.0, h.1, read, h.3, enumerators_named w rest c more h.4, again) refl

pub enumerators_read : (w : Token → Word) (p : Reader Expr) (n : ℕ) → ReadsAt w n 11 p
    → ReadsEnumerators w (suc n) (λ r. read_enumerators w p (length r) r)
enumerators_read w p n reads m c more h nests close = enumerator_loop_read w p n m c more
    (length (enumerators m (c ∷ more))) reads h (omega (arith, nests)) close (omega arith)

more_stop : (w : Token → Word) (rest : MoreParams) (c : Token) (ts : List Token) → FitsMore w rest
    → w c ≡ Fixed (codes ")") → StopsBoth w (more_params rest (c ∷ ts))
more_stop w NoMore c ts h close = rw close refl
more_stop w (Ellipsis comma dots) c ts h close = rw h.0 refl
more_stop w (More comma s d rest) c ts h close = rw h.0 refl

more_read : (w : Token → Word) (s : Reader Specifiers) (r : Reader Declarator) (n : ℕ) (rest : MoreParams) (c : Token)
    (more : List Token) (f : ℕ)
    → ReadsSpecifiers w n InParameter s → ReadsDeclarators w n MaybeName r → FitsMore w rest
    → more_params_nesting rest ≤ n → w c ≡ Fixed (codes ")") → length (more_params rest (c ∷ more)) ≤ f
    → more_loop w s r f (more_params rest (c ∷ more)) ≡ (rest, c ∷ more)
more_read w s r n NoMore c more zero reads_s reads_d h nests close fuel = refl
more_read w s r n NoMore c more (suc f) reads_s reads_d h nests close fuel = rw close refl
more_read w s r n (Ellipsis comma dots) c more zero reads_s reads_d h nests close fuel = absurd (omega (arith, fuel))
more_read w s r n (Ellipsis comma dots) c more (suc f) reads_s reads_d h nests close fuel = rw (h.0, h.1) refl
more_read w s r n (More comma x d rest) c more zero reads_s reads_d h nests close fuel = absurd (omega (arith, fuel))
more_read w s r n (More comma x d rest) c more (suc f) reads_s reads_d h nests close fuel =
    let behind_it = more_params rest (c ∷ more) in
    let stop = more_stop w rest c more h.2 close in
    let begun : begins_with w begins_specifiers (specifiers x (declarator d (more_params rest (c ∷ more)))) ≡ true =
    specifiers_begin w InParameter x (declarator d (more_params rest (c ∷ more))) h.1.0 h.1.1 in
    let first : s (specifiers x (declarator d (more_params rest (c ∷ more)))) ≡ Some
    (x, declarator d (more_params rest (c ∷ more))) = reads_s x (declarator d (more_params rest (c ∷ more))) h.1.0
    h.1.1 (omega (arith, nests)) (declarator_ends w MaybeName d (more_params rest (c ∷ more)) h.1.2 stop) in
    let second : r (declarator d (more_params rest (c ∷ more))) ≡ Some (d, more_params rest (c ∷ more)) =
    reads_d d (more_params rest (c ∷ more)) h.1.2 (omega (arith, nests))
    (stops_declarator w (more_params rest (c ∷ more)) stop) in
    let again : more_loop w s r f (more_params rest (c ∷ more)) ≡ (rest, c ∷ more) =
    more_read w s r n rest c more f reads_s reads_d h.2 (omega (arith, nests)) close
    (omega (
      arith,
      fuel,
      longer_specifiers x (declarator d (more_params rest (c ∷ more))),
      longer_declarator d (more_params rest (c ∷ more)),
    )) in
    rw (h.0, begun, first, second, again) refl

-- parameters as they are read, before `void` alone is told apart
listed_read : (w : Token → Word) (s : Reader Specifiers) (r : Reader Declarator) (n : ℕ) (x : Specifiers)
    (d : Declarator) (rest : MoreParams) (c : Token) (more : List Token)
    → ReadsSpecifiers w n InParameter s → ReadsDeclarators w n MaybeName r → FitsParams w (Parameters x d rest)
    → params_nesting (Parameters x d rest) ≤ n → w c ≡ Fixed (codes ")")
    → read_params w s r (params (Parameters x d rest) (c ∷ more)) ≡ Some (parameters w x d rest, c ∷ more)
listed_read w s r n x d rest c more reads_s reads_d h nests close =
    let stop = more_stop w rest c more h.1 close in
    let begun : begins_with w begins_specifiers (specifiers x (declarator d (more_params rest (c ∷ more)))) ≡ true =
    specifiers_begin w InParameter x (declarator d (more_params rest (c ∷ more))) h.0.0 h.0.1 in
    let first : s (specifiers x (declarator d (more_params rest (c ∷ more)))) ≡ Some
    (x, declarator d (more_params rest (c ∷ more))) = reads_s x (declarator d (more_params rest (c ∷ more))) h.0.0
    h.0.1 (omega (arith, nests)) (declarator_ends w MaybeName d (more_params rest (c ∷ more)) h.0.2 stop) in
    let second : r (declarator d (more_params rest (c ∷ more))) ≡ Some (d, more_params rest (c ∷ more)) =
    reads_d d (more_params rest (c ∷ more)) h.0.2 (omega (arith, nests))
    (stops_declarator w (more_params rest (c ∷ more)) stop) in
    let all : more_loop w s r (length (more_params rest (c ∷ more))) (more_params rest (c ∷ more)) ≡ (rest, c ∷ more) =
    more_read w s r n rest c more (length (more_params rest (c ∷ more))) reads_s reads_d h.1
    (omega (arith, nests)) close (omega arith) in
    rw (begun, first, second, all) refl

void_read : (w : Token → Word) (s : Reader Specifiers) (r : Reader Declarator) (n : ℕ) (t c : Token) (more : List Token)
    → ReadsSpecifiers w n InParameter s → ReadsDeclarators w n MaybeName r → w t ≡ Fixed (codes "void")
    → w c ≡ Fixed (codes ")")
    → read_params w s r (t ∷ c ∷ more) ≡ Some (VoidParams t, c ∷ more)
void_read w s r n t c more reads_s reads_d h close =
    let first : s (t ∷ c ∷ more) ≡ Some (trees.Word t NoSpecifiers, c ∷ more) =
    reads_s (trees.Word t NoSpecifiers) (c ∷ more) (rw h refl, tt) (rw h refl) (omega arith) (rw close refl) in
    let second : r (c ∷ more) ≡ Some (Abstract [] NoDims, c ∷ more) = reads_d (Abstract [] NoDims) (c ∷ more)
    (refl, tt, tt) (omega arith) (rw close refl) in
    let all : more_loop w s r (suc (length more)) (c ∷ more) ≡ (NoMore, c ∷ more) = rw close refl in
    rw (first, second, all, h) refl

pub params_read : (w : Token → Word) (s : Reader Specifiers) (r : Reader Declarator) (n : ℕ)
    → ReadsSpecifiers w n InParameter s → ReadsDeclarators w n MaybeName r → ReadsParams w n (read_params w s r)
params_read w s r n reads_s reads_d NoParams c more h nests close = rw close refl
params_read w s r n reads_s reads_d (VoidParams t) c more h nests close =
    void_read w s r n t c more reads_s reads_d h close
params_read w s r n reads_s reads_d (Parameters x d rest) c more h nests close =
    listed_read w s r n x d rest c more reads_s reads_d h nests close ∙ rw h.2 refl
