-- What is in sight, and what names mean by it.
use Rattle.std.proofs.Common.{◌≡◌, ℕ, ◌<◌, ◌≤◌, Bool, true, false, List, [], ◌∷◌, length, refl, ap, sym}
use Rattle.std.proofs.Common.{subst}
use Rattle.std.proofs.Common.{◌∙◌, arith}
use Rattle.std.specs.Prelude.{◌&&◌, ◌||◌, ◌==◌, nat_le, Option, Some, None, if◌then◌else◌}
use Rattle.std.specs.Cmp.Lexicographic.{bytes_decides}
use Rattle.std.specs.Str.{bytes_eq}
use Rattle.std.proofs.lemmas.Bool.{le-leb, lt-leb, ne_eqb, false≢true, false_from_ne_true}
use Rattle.std.proofs.lemmas.Bool.Decides.{same_from_decides}
use Rattle.ck_prog.specs.Declarations.{ends_with}
use Rattle.ck_prog.specs.Growing.{AreAtMost}
use Rattle.ck_scopes.specs.Environments.{Declared, is_of, is_open, is_named, is_innermost, latest_number}
use Rattle.ck_scopes.specs.Ordered.{AreScoped, AreBefore, AreNested, AreUpTo, start_of, see_where, seen}
use Rattle.ck_scopes.specs.Seen.{Seen, latest_of, hide_from}
use Rattle.ck_scopes.specs.declared.spaces.Space.{Space}
use Rattle.ck_scopes.specs.declared.spaces.Space.TheVariants.{Ordinary, Tag}

-- what a name means is the latest in sight ----------------------------------------------------------------------------

meant-step : (o : Option Space) (b : Bool) (n number : ℕ) (space : Space) (name : ℕ) (xs : List Seen) (r : Option ℕ)
    → r ≡ latest_of space name xs
    → (if is_of space o && b && n == name then Some number else r) ≡ latest_of space name (see_where b o n number xs)
meant-step None true n number space name xs r h = h
meant-step None false n number space name xs r h = h
meant-step (Some Ordinary) true n number Ordinary name xs r h = ap (λ q. if n == name then Some number else q) h
meant-step (Some Ordinary) true n number Tag name xs r h = h
meant-step (Some Tag) true n number Ordinary name xs r h = h
meant-step (Some Tag) true n number Tag name xs r h = ap (λ q. if n == name then Some number else q) h
meant-step (Some Ordinary) false n number Ordinary name xs r h = h
meant-step (Some Ordinary) false n number Tag name xs r h = h
meant-step (Some Tag) false n number Ordinary name xs r h = h
meant-step (Some Tag) false n number Tag name xs r h = h

pub meant_seen : (file : ℕ) (scope : List ℕ) (space : Space) (name : ℕ) (ds : List Declared)
    → latest_number (is_named file scope space name) ds ≡ latest_of space name (seen file scope ds)
meant_seen file scope space name [] = refl
meant_seen file scope space name (d ∷ ds) =
    meant-step d.space (is_open file scope d) d.name (length ds) space name (seen file scope ds)
    (latest_number (is_named file scope space name) ds) (meant_seen file scope space name ds)

-- scopes --------------------------------------------------------------------------------------------------------------

bytes_eq-refl : (xs : List ℕ) → bytes_eq xs xs ≡ true
bytes_eq-refl xs = (bytes_decides xs xs).1 refl

or-true : (b : Bool) → b ≡ true → (c : Bool) → (b || c) ≡ true
or-true true e c = refl
or-true false e c = absurd (false≢true e)

pub ends_itself : (scope : List ℕ) → ends_with scope scope ≡ true
ends_itself [] = bytes_eq-refl []
ends_itself (n ∷ ns) = or-true (bytes_eq (n ∷ ns) (n ∷ ns)) (bytes_eq-refl (n ∷ ns)) (ends_with ns (n ∷ ns))

-- no scope that had opened before is the one that opens after more declarations
new_scope : (m n : ℕ) (outer scope : List ℕ) → n < m → AreAtMost n scope
    → ends_with (m ∷ outer) scope ≡ ends_with outer scope
new_scope m n outer [] below h = refl
new_scope m n outer (k ∷ ks) below h = let less : k < m = omega (arith, h.0, below) in grind (arith, bytes_eq, less)

longer_differs : (xs ys : List ℕ) → length xs < length ys → bytes_eq xs ys ≡ false
longer_differs [] [] h = absurd (omega (arith, h))
longer_differs [] (y ∷ ys) h = refl
longer_differs (x ∷ xs) [] h = absurd (omega (arith, h))
longer_differs (x ∷ xs) (y ∷ ys) h =
    let rest : bytes_eq xs ys ≡ false = longer_differs xs ys (omega (arith, h)) in grind (arith, bytes_eq, rest)

pub longer_ends_not : (outer scope : List ℕ) → length outer < length scope → ends_with outer scope ≡ false
longer_ends_not [] scope h = longer_differs [] scope h
longer_ends_not (n ∷ ns) scope h =
    let whole : bytes_eq (n ∷ ns) scope ≡ false = longer_differs (n ∷ ns) scope h in
    let rest : ends_with ns scope ≡ false = longer_ends_not ns scope (omega (arith, h)) in
    grind (arith, whole, rest)

-- a scope that opens shows what was in sight --------------------------------------------------------------------------

pub seen_inside : (file m : ℕ) (scope : List ℕ) (ds : List Declared) → length ds ≤ m → AreScoped ds
    → seen file (m ∷ scope) ds ≡ seen file scope ds
seen_inside file m scope [] below scoped = refl
seen_inside file m scope (d ∷ ds) below scoped =
    let less : length ds < m = omega (arith, below) in
    ap (λ b. see_where (d.file == file && b) d.space d.name (length ds) (seen file (m ∷ scope) ds))
    (new_scope m (length ds) scope d.scope less scoped.0)
    ∙ ap (see_where (is_open file scope d) d.space d.name (length ds))
    (seen_inside file m scope ds (omega (arith, below)) scoped.1)

-- a scope that closes hides what it declared --------------------------------------------------------------------------

hide-step : (o : Option Space) (outer inner : Bool) (name number n : ℕ) (xs ys : List Seen) → xs ≡ hide_from n ys
    → (outer ≡ true → (inner ≡ true) × (number < n) × (xs ≡ ys)) → (outer ≡ false → inner ≡ true → n ≤ number)
    → see_where outer o name number xs ≡ hide_from n (see_where inner o name number ys)
hide-step None true true name number n xs ys rest around within = rest
hide-step None true false name number n xs ys rest around within = rest
hide-step None false true name number n xs ys rest around within = rest
hide-step None false false name number n xs ys rest around within = rest
hide-step (Some s) true true name number n xs ys rest around within =
    let less : nat_le n number ≡ false = lt-leb n number (around refl).1 in
    let x : Seen = record { number = number; space = s; name = name } in
    ap (λ zs. x ∷ zs) (around refl).2 ∙ sym (ap (λ b. if b then hide_from n ys else x ∷ ys) less)
hide-step (Some s) true false name number n xs ys rest around within = absurd (false≢true (around refl).0)
hide-step (Some s) false true name number n xs ys rest around within =
    let more : nat_le n number ≡ true = le-leb n number (within refl refl) in
    let x : Seen = record { number = number; space = s; name = name } in
    rest ∙ sym (ap (λ b. if b then hide_from n ys else x ∷ ys) more)
hide-step (Some s) false false name number n xs ys rest around within = rest

-- in a file, what a scope shows the scope in it shows too, and what only that one shows is in it
outer-shows : (file whole outer : Bool) → (file && outer) ≡ true → (file && (whole || outer)) ≡ true
outer-shows true true true e = refl
outer-shows true false true e = refl
outer-shows true b false e = absurd (false≢true e)
outer-shows false b c e = absurd (false≢true e)

only-inner : (file whole outer : Bool) → (file && outer) ≡ false → (file && (whole || outer)) ≡ true → whole ≡ true
only-inner true true outer e f = refl
only-inner true false outer e f = absurd (false≢true (sym e ∙ f))
only-inner false whole outer e f = absurd (false≢true f)

-- what is in a scope comes after it opened
pub in_scope_after : (n m : ℕ) (scope inner : List ℕ) → AreAtMost m inner → bytes_eq (n ∷ scope) inner ≡ true → n ≤ m
in_scope_after n m scope inner h e =
    let same : n ∷ scope ≡ inner = (bytes_decides (n ∷ scope) inner).0 e in
    let here : AreAtMost m (n ∷ scope) = subst (AreAtMost m) (sym same) h in
    here.0

pub seen_outside : (file n : ℕ) (scope : List ℕ) (ds : List Declared) → AreScoped ds → AreBefore n file scope ds
    → seen file scope ds ≡ hide_from n (seen file (n ∷ scope) ds)
seen_outside file n scope [] scoped before = refl
seen_outside file n scope (d ∷ ds) scoped before =
    let whole = bytes_eq (n ∷ scope) d.scope in
    let outer = ends_with scope d.scope in
    hide-step d.space (is_open file scope d) (is_open file (n ∷ scope) d) d.name (length ds) n (seen file scope ds)
    (seen file (n ∷ scope) ds) (seen_outside file n scope ds scoped.1 before.1)
    (λ e. let less : length ds < n = before.0 e in (
      outer-shows (d.file == file) whole outer e,
      less,
      sym (seen_inside file n scope ds (omega (arith, less)) scoped.1),
    ))
    (λ e f. in_scope_after n (length ds) scope d.scope scoped.0 (only-inner (d.file == file) whole outer e f))

-- a file that begins shows nothing ------------------------------------------------------------------------------------

pub seen_none : (file n : ℕ) (scope : List ℕ) (ds : List Declared) → file < n → AreUpTo file ds → seen n scope ds ≡ []
seen_none file n scope [] less files = refl
seen_none file n scope (d ∷ ds) less files =
    let other : (d.file == n) ≡ false = ne_eqb d.file n (λ e. omega (arith, e, less, files.0)) in
    ap (λ b. see_where (b && ends_with scope d.scope) d.space d.name (length ds) (seen n scope ds)) other
    ∙ seen_none file n scope ds less files.1

pub hide_all : (xs : List Seen) → hide_from 0 xs ≡ []
hide_all [] = refl
hide_all (x ∷ xs) =
    let all : nat_le 0 x.number ≡ true = le-leb 0 x.number (omega arith) in
    ap (λ b. if b then hide_from 0 xs else x ∷ xs) all ∙ hide_all xs

-- the innermost scope alone -------------------------------------------------------------------------------------------

-- a number, where it is at least this one
abbrev pub at_least : ℕ → Option ℕ → Option ℕ
at_least n None = None
at_least n (Some k) = if nat_le n k then Some k else None

inner-step : (a f w e m : Bool) (n number : ℕ) (inner all : Option ℕ) → inner ≡ at_least n all
    → (w ≡ true → n ≤ number) → ((f && e) ≡ true → (number < n) × (inner ≡ None))
    → (if a && f && w && m then Some number else inner)
    ≡ at_least n (if a && (f && (w || e)) && m then Some number else all)
inner-step false f w e m n number inner all rest within around = rest
inner-step true false w e m n number inner all rest within around = rest
inner-step true true true e true n number inner all rest within around =
    sym (ap (λ b. if b then Some number else None) (le-leb n number (within refl)))
inner-step true true true e false n number inner all rest within around = rest
inner-step true true false true true n number inner all rest within around =
    (around refl).1 ∙ sym (ap (λ b. if b then Some number else None) (lt-leb n number (around refl).0))
inner-step true true false true false n number inner all rest within around = rest
inner-step true true false false m n number inner all rest within around = rest

and-false : (a f m : Bool) → (a && f && false && m) ≡ false
and-false true true m = refl
and-false true false m = refl
and-false false f m = refl

pub bytes_eq-sym : (xs ys : List ℕ) → bytes_eq xs ys ≡ bytes_eq ys xs
bytes_eq-sym xs ys =
    same_from_decides (bytes_eq xs ys) (bytes_eq ys xs) (bytes_decides xs ys) (
      λ e. sym ((bytes_decides ys xs).0 e),
      λ e. (bytes_decides ys xs).1 (sym e),
    )

scope_after : (n m : ℕ) (scope inner : List ℕ) → AreAtMost m inner → bytes_eq inner (n ∷ scope) ≡ true → n ≤ m
scope_after n m scope inner h e = in_scope_after n m scope inner h (bytes_eq-sym (n ∷ scope) inner ∙ e)

innermost-none : (file n : ℕ) (ns : List ℕ) (space : Space) (name : ℕ) (ds : List Declared) → length ds ≤ n
    → AreScoped ds → latest_number (is_innermost file (n ∷ ns) space name) ds ≡ None
innermost-none file n ns space name [] below scoped = refl
innermost-none file n ns space name (d ∷ ds) below scoped =
    let other : bytes_eq d.scope (n ∷ ns) ≡ false =
    false_from_ne_true (bytes_eq d.scope (n ∷ ns))
    (λ e. let after = scope_after n (length ds) ns d.scope scoped.0 e in omega (arith, after, below)) in
    let later = latest_number (is_innermost file (n ∷ ns) space name) ds in
    ap (λ b. if is_of space d.space && d.file == file && b && d.name == name then Some (length ds) else later) other
    ∙ (ap (λ b. if b then Some (length ds) else later)
    (and-false (is_of space d.space) (d.file == file) (d.name == name))
    ∙ innermost-none file n ns space name ds (omega (arith, below)) scoped.1)

innermost-open : (file n : ℕ) (ns : List ℕ) (space : Space) (name : ℕ) (ds : List Declared) → AreScoped ds
    → AreBefore n file ns ds
    → latest_number (is_innermost file (n ∷ ns) space name) ds
    ≡ at_least n (latest_number (is_named file (n ∷ ns) space name) ds)
innermost-open file n ns space name [] scoped before = refl
innermost-open file n ns space name (d ∷ ds) scoped before =
    let inner = latest_number (is_innermost file (n ∷ ns) space name) ds in
    let all = latest_number (is_named file (n ∷ ns) space name) ds in
    ap (λ b. if is_of space d.space && d.file == file && b && d.name == name then Some (length ds) else inner)
    (bytes_eq-sym d.scope (n ∷ ns))
    ∙ inner-step (is_of space d.space) (d.file == file) (bytes_eq (n ∷ ns) d.scope) (ends_with ns d.scope)
    (d.name == name) n (length ds) inner all (innermost-open file n ns space name ds scoped.1 before.1)
    (λ e. in_scope_after n (length ds) ns d.scope scoped.0 e)
    (λ e. let less : length ds < n = before.0 e in
    (less, innermost-none file n ns space name ds (omega (arith, less)) scoped.1))

flat : (a f w m : Bool) → (a && f && w && m) ≡ (a && (f && w) && m)
flat true f w m = refl
flat false f w m = refl

innermost-file : (file : ℕ) (space : Space) (name : ℕ) (ds : List Declared)
    → latest_number (is_innermost file [] space name) ds ≡ latest_number (is_named file [] space name) ds
innermost-file file space name [] = refl
innermost-file file space name (d ∷ ds) =
    let inner = latest_number (is_innermost file [] space name) ds in
    ap (λ b. if is_of space d.space && d.file == file && b && d.name == name then Some (length ds) else inner)
    (bytes_eq-sym d.scope [])
    ∙ (ap (λ b. if b then Some (length ds) else inner)
    (flat (is_of space d.space) (d.file == file) (bytes_eq [] d.scope) (d.name == name))
    ∙ ap (λ r. if is_named file [] space name d then Some (length ds) else r) (innermost-file file space name ds))

at_least-0 : (r : Option ℕ) → r ≡ at_least 0 r
at_least-0 None = refl
at_least-0 (Some k) = sym (ap (λ b. if b then Some k else None) (le-leb 0 k (omega arith)))

pub innermost_named : (file : ℕ) (scope : List ℕ) (space : Space) (name : ℕ) (ds : List Declared) → AreScoped ds
    → AreNested file scope ds
    → latest_number (is_innermost file scope space name) ds
    ≡ at_least (start_of scope) (latest_number (is_named file scope space name) ds)
innermost_named file [] space name ds scoped nested =
    innermost-file file space name ds ∙ at_least-0 (latest_number (is_named file [] space name) ds)
innermost_named file (n ∷ ns) space name ds scoped nested =
    innermost-open file n ns space name ds scoped nested.0
