-- The rows of memory stand for environments that follow each other.
use Rattle.std.proofs.Common.{◌≡◌, ℕ, suc, ◌+◌, ◌<◌, Bool, true, false, List, [], ◌∷◌, ◌++◌, length, map, refl}
use Rattle.std.proofs.Common.{ap, sym}
use Rattle.std.proofs.Common.{get_or}
use Rattle.std.proofs.Common.{subst, ◌∙◌, arith}
use Rattle.std.specs.Prelude.{◌==◌, Option, Some, None, if◌then◌else◌, reverse}
use Rattle.std.proofs.lemmas.Bool.{eq-eqb, eqb-false, ne_eqb}
use Rattle.std.proofs.lemmas.List.{length-map, length-reverse}
use Rattle.ck_scopes.specs.Environments.{Declared, Environment, start, next_file, inside, outside, outer_of, declaring}
use Rattle.ck_scopes.specs.Environments.{meant, in_innermost}
use Rattle.ck_scopes.specs.Kept.{path, declared_of, environment_of, HasOpened, AreOpened, AreIn, IsKept}
use Rattle.ck_scopes.specs.Ordered.{IsOrdered, start_of, seen_in}
use Rattle.ck_scopes.specs.Seen.{Seen, see, hide_from, latest_of}
use Rattle.ck_scopes.specs.declared.scopes.Opened.{Opened}
use Rattle.ck_scopes.specs.declared.scopes.Row.{Row}
use Rattle.ck_scopes.specs.declared.spaces.Space.{Space}
use Rattle.ck_scopes.proofs.NumberLemmas.{at_number, at_reverse, reverse_push}
use Rattle.ck_scopes.proofs.SeenLemmas.{at_least}
use Rattle.ck_scopes.proofs.OrderedLemmas.{meant_in_sight, innermost_in_sight}
use Rattle.ck_scopes.proofs.OrderedLemmas.{ordered_start, ordered_inside, ordered_outside, ordered_declaring}
use Rattle.ck_scopes.proofs.OrderedLemmas.{ordered_next}
use Rattle.ck_scopes.proofs.OrderedLemmas.{seen_in_inside, seen_in_outside, seen_in_declaring, seen_in_next}

-- paths ---------------------------------------------------------------------------------------------------------------

path-none : (os : List Opened) → path os None ≡ []
path-none [] = refl
path-none (o ∷ os) = refl

path-older : (o : Opened) (os : List Opened) (scope : Option ℕ) → HasOpened (length os) scope
    → path (o ∷ os) scope ≡ path os scope
path-older o os None h = sym (path-none os)
path-older o os (Some k) h =
    let other : (k == length os) ≡ false = ne_eqb k (length os) (λ e. omega (arith, e, h)) in
    ap (λ b. if b then o.start ∷ path os o.outer else path os (Some k)) other

path-new : (o : Opened) (os : List Opened) → path (o ∷ os) (Some (length os)) ≡ o.start ∷ path os o.outer
path-new o os =
    ap (λ b. if b then o.start ∷ path os o.outer else path os (Some (length os)))
    (eq-eqb (length os) (length os) refl)

opened-more : (n : ℕ) (scope : Option ℕ) → HasOpened n scope → HasOpened (suc n) scope
opened-more n None h = tt
opened-more n (Some k) h = omega (arith, h)

outer-by : (o d : Opened) (os : List Opened) (k : ℕ) (b : Bool) → (k == length os) ≡ b → k < suc (length os)
    → HasOpened (length os) o.outer → (k < length os → HasOpened (length os) (at_number os k d).outer)
    → HasOpened (suc (length os)) (if b then o else at_number os k d).outer
outer-by o d os k true is below here older = opened-more (length os) o.outer here
outer-by o d os k false is below here older =
    let less : k < length os = let ne = eqb-false k (length os) is in omega (arith, ne, below) in
    opened-more (length os) (at_number os k d).outer (older less)

-- the scope around one that has opened
outer-at : (os : List Opened) (k : ℕ) (d : Opened) → k < length os → AreOpened os
    → HasOpened (length os) (at_number os k d).outer
outer-at [] k d below opened = absurd (omega (arith, below))
outer-at (o ∷ os) k d below opened =
    outer-by o d os k (k == length os) refl below opened.0 (λ less. outer-at os k d less opened.1)

path-by : (o d : Opened) (os : List Opened) (k : ℕ) (b : Bool) → (k == length os) ≡ b → k < suc (length os)
    → AreOpened (o ∷ os)
    → (k < length os → path os (Some k) ≡ (at_number os k d).start ∷ path os (at_number os k d).outer)
    → (if b then o.start ∷ path os o.outer else path os (Some k))
    ≡ (if b then o else at_number os k d).start ∷ path (o ∷ os) (if b then o else at_number os k d).outer
path-by o d os k true is below opened older =
    ap (λ ns. o.start ∷ ns) (sym (path-older o os o.outer opened.0))
path-by o d os k false is below opened older =
    let less : k < length os = let ne = eqb-false k (length os) is in omega (arith, ne, below) in
    let x = at_number os k d in
    older less ∙ ap (λ ns. x.start ∷ ns) (sym (path-older o os x.outer (outer-at os k d less opened.1)))

path-at : (os : List Opened) (k : ℕ) (d : Opened) → k < length os → AreOpened os
    → path os (Some k) ≡ (at_number os k d).start ∷ path os (at_number os k d).outer
path-at [] k d below opened = absurd (omega (arith, below))
path-at (o ∷ os) k d below opened =
    path-by o d os k (k == length os) refl below opened (λ less. path-at os k d less opened.1)

-- the path of a scope, from its row
pub path_is : (os : List Opened) (k : ℕ) (o : Opened) → k < length os → AreOpened os → o ≡ at_number os k o
    → path os (Some k) ≡ o.start ∷ path os o.outer
path_is os k o below opened e =
    subst (λ (x : Opened). path os (Some k) ≡ x.start ∷ path os x.outer) (sym e) (path-at os k o below opened)

outer_is : (os : List Opened) (k : ℕ) (o : Opened) → k < length os → AreOpened os → o ≡ at_number os k o
    → HasOpened (length os) o.outer
outer_is os k o below opened e =
    subst (λ (x : Opened). HasOpened (length os) x.outer) (sym e) (outer-at os k o below opened)

-- environments --------------------------------------------------------------------------------------------------------

abbrev in_order : List Declared → ℕ → List ℕ → Environment
in_order ds file scope = record { declared = ds; file = file; scope = scope }

abbrev in_scopes : Row → List ℕ → Declared
in_scopes r scope = record { file = r.file; scope = scope; name = r.name.0; space = r.space }

map-older : (o : Opened) (os : List Opened) (rows : List Row) → AreIn (length os) rows
    → map (declared_of (o ∷ os)) rows ≡ map (declared_of os) rows
map-older o os [] h = refl
map-older o os (r ∷ rows) h =
    ap (λ s. in_scopes r s ∷ map (declared_of (o ∷ os)) rows) (path-older o os r.scope h.0)
    ∙ ap (λ ds. declared_of os r ∷ ds) (map-older o os rows h.1)

in-more : (n : ℕ) (rows : List Row) → AreIn n rows → AreIn (suc n) rows
in-more n [] h = tt
in-more n (r ∷ rows) h = (opened-more n r.scope h.0, in-more n rows h.1)

-- of no rows
pub environment_start : (rows : List Row) (os : List Opened) → rows ≡ [] → os ≡ []
    → environment_of rows os 0 None ≡ start
unfolding environment_of
environment_start rows os no_rows no_scopes =
    ap (λ rs. environment_of rs os 0 None) no_rows ∙ ap (λ s. in_order [] 0 s) (path-none os)

pub kept_start : (rows : List Row) (os : List Opened) (sight : List Seen) → rows ≡ [] → os ≡ [] → sight ≡ []
    → IsKept rows os 0 None sight
kept_start rows os sight no_rows no_scopes none =
    let same = environment_start rows os no_rows no_scopes in
    record {
      opened = subst AreOpened (sym no_scopes) tt;
      in_opened = subst (AreIn (length os)) (sym no_rows) tt;
      innermost = tt;
      ordered = subst IsOrdered (sym same) ordered_start;
      sight_is = none ∙ ap seen_in (sym same);
    }

-- a scope opens
pub environment_open : (rows : List Row) (os : List Opened) (file : ℕ) (scope : Option ℕ) (o : Opened)
    → AreIn (length os) rows → o.start ≡ length rows → o.outer ≡ scope
    → environment_of rows (o ∷ os) file (Some (length os)) ≡ inside (environment_of rows os file scope)
unfolding environment_of
environment_open rows os file scope o h start_is outer_is =
    let count : o.start ≡ length (map (declared_of os) rows) = start_is ∙ sym (length-map rows (declared_of os)) in
    let whole : path (o ∷ os) (Some (length os)) ≡ length (map (declared_of os) rows) ∷ path os scope =
    path-new o os ∙ (ap (λ n. n ∷ path os o.outer) count
    ∙ ap (λ s. length (map (declared_of os) rows) ∷ path os s) outer_is) in
    ap (λ ds. in_order ds file (path (o ∷ os) (Some (length os)))) (map-older o os rows h)
    ∙ ap (in_order (map (declared_of os) rows) file) whole

pub kept_open : (rows : List Row) (os : List Opened) (file : ℕ) (scope : Option ℕ) (sight : List Seen) (o : Opened)
    → IsKept rows os file scope sight → o.start ≡ length rows → o.outer ≡ scope
    → IsKept rows (o ∷ os) file (Some (length os)) sight
kept_open rows os file scope sight o is start_is outer_is =
    let v = environment_of rows os file scope in
    let same = environment_open rows os file scope o is.in_opened start_is outer_is in
    record {
      opened = (subst (HasOpened (length os)) (sym outer_is) is.innermost, is.opened);
      in_opened = in-more (length os) rows is.in_opened;
      innermost = omega arith;
      ordered = subst IsOrdered (sym same) (ordered_inside v is.ordered);
      sight_is = is.sight_is ∙ (sym (seen_in_inside v is.ordered) ∙ ap seen_in (sym same));
    }

-- the innermost scope closes
pub environment_close : (rows : List Row) (os : List Opened) (file k : ℕ) (o : Opened) → k < length os → AreOpened os
    → o ≡ at_number os k o
    → environment_of rows os file o.outer ≡ outside (environment_of rows os file (Some k))
unfolding environment_of
environment_close rows os file k o below opened e =
    ap (λ s. in_order (map (declared_of os) rows) file (outer_of s)) (sym (path_is os k o below opened e))

scope-is : (rows : List Row) (os : List Opened) (file : ℕ) (scope : Option ℕ)
    → (environment_of rows os file scope).scope ≡ path os scope
unfolding environment_of
scope-is rows os file scope = refl

pub kept_close : (rows : List Row) (os : List Opened) (file k : ℕ) (sight : List Seen) (o : Opened)
    → IsKept rows os file (Some k) sight → o ≡ at_number os k o
    → IsKept rows os file o.outer (hide_from o.start sight)
kept_close rows os file k sight o is e =
    let v = environment_of rows os file (Some k) in
    let same = environment_close rows os file k o is.innermost is.opened e in
    let scope = scope-is rows os file (Some k) ∙ path_is os k o is.innermost is.opened e in
    record {
      opened = is.opened;
      in_opened = is.in_opened;
      innermost = outer_is os k o is.innermost is.opened e;
      ordered = subst IsOrdered (sym same) (ordered_outside v is.ordered);
      sight_is =
          ap (hide_from o.start) is.sight_is
          ∙ (sym (seen_in_outside v o.start (path os o.outer) is.ordered scope) ∙ ap seen_in (sym same));
    }

-- a scope is open
pub some_open : (rows : List Row) (os : List Opened) (file : ℕ) (scope : Option ℕ) → scope ≡ None
    → 0 < length (environment_of rows os file scope).scope → ⊥
some_open rows os file scope none h =
    let empty : (environment_of rows os file scope).scope ≡ [] =
    scope-is rows os file scope ∙ (ap (path os) none ∙ path-none os) in
    omega (arith, h, ap length empty)

-- a name is declared
pub environment_row : (rows : List Row) (os : List Opened) (file : ℕ) (scope : Option ℕ) (r : Row) → r.file ≡ file
    → r.scope ≡ scope
    → environment_of (r ∷ rows) os file scope ≡ declaring (environment_of rows os file scope) r.name.0 r.space
unfolding environment_of
environment_row rows os file scope r file_is scope_is =
    let older = map (declared_of os) rows in
    let made = λ (f : ℕ) (s : List ℕ). let d : Declared =
    record { file = f; scope = s; name = r.name.0; space = r.space } in in_order (d ∷ older) file (path os scope) in
    ap (λ f. made f (path os r.scope)) file_is ∙ ap (λ s. made file (path os s)) scope_is

length-declared : (rows : List Row) (os : List Opened) (file : ℕ) (scope : Option ℕ)
    → length (environment_of rows os file scope).declared ≡ length rows
unfolding environment_of
length-declared rows os file scope = length-map rows (declared_of os)

pub count_is : (rows : List Row) (os : List Opened) (file : ℕ) (scope : Option ℕ)
    → length rows ≡ length (environment_of rows os file scope).declared
count_is rows os file scope = sym (length-declared rows os file scope)

pub kept_row : (rows : List Row) (os : List Opened) (file : ℕ) (scope : Option ℕ) (sight : List Seen) (r : Row)
    → IsKept rows os file scope sight → r.file ≡ file → r.scope ≡ scope
    → IsKept (r ∷ rows) os file scope (see r.space r.name.0 (length rows) sight)
kept_row rows os file scope sight r is file_is scope_is =
    let v = environment_of rows os file scope in
    let same = environment_row rows os file scope r file_is scope_is in
    record {
      opened = is.opened;
      in_opened = (subst (HasOpened (length os)) (sym scope_is) is.innermost, is.in_opened);
      innermost = is.innermost;
      ordered = subst IsOrdered (sym same) (ordered_declaring v r.name.0 r.space is.ordered);
      sight_is =
          ap (see r.space r.name.0 (length rows)) is.sight_is
          ∙ (ap (λ n. see r.space r.name.0 n (seen_in v)) (count_is rows os file scope)
          ∙ (sym (seen_in_declaring v r.name.0 r.space) ∙ ap seen_in (sym same)));
    }

-- the next file
pub environment_next : (rows : List Row) (os : List Opened) (file : ℕ) (scope : Option ℕ)
    → environment_of rows os (file + 1) None ≡ next_file (environment_of rows os file scope)
unfolding environment_of
environment_next rows os file scope = ap (in_order (map (declared_of os) rows) (file + 1)) (path-none os)

pub kept_next : (rows : List Row) (os : List Opened) (file : ℕ) (scope : Option ℕ) (sight : List Seen)
    → IsKept rows os file scope sight → IsKept rows os (file + 1) None []
kept_next rows os file scope sight is =
    let v = environment_of rows os file scope in
    let same = environment_next rows os file scope in
    record {
      opened = is.opened;
      in_opened = is.in_opened;
      innermost = tt;
      ordered = subst IsOrdered (sym same) (ordered_next v is.ordered);
      sight_is = sym (seen_in_next v is.ordered) ∙ ap seen_in (sym same);
    }

-- on the vectors ------------------------------------------------------------------------------------------------------

module _ (file : ℕ) (scope : Option ℕ) (sight : List Seen) where
  pub opened_kept : (rows : List Row) (xs ys : List Opened) (o : Opened) (n : ℕ)
      → IsKept rows (reverse xs) file scope sight → ys ≡ xs ++ o ∷ [] → o.start ≡ length rows → o.outer ≡ scope
      → n ≡ length xs → IsKept rows (reverse ys) file (Some n) sight
  opened_kept rows xs ys o n is e start_is outer_is count =
      subst (λ os. IsKept rows os file (Some n) sight) (sym (ap reverse e ∙ reverse_push xs o))
      (subst (λ k. IsKept rows (o ∷ reverse xs) file (Some k) sight) (length-reverse xs ∙ sym count)
      (kept_open rows (reverse xs) file scope sight o is start_is outer_is))

  pub opened_shown : (rows : List Row) (xs ys : List Opened) (o : Opened) (n : ℕ)
      → IsKept rows (reverse xs) file scope sight → ys ≡ xs ++ o ∷ [] → o.start ≡ length rows → o.outer ≡ scope
      → n ≡ length xs
      → environment_of rows (reverse ys) file (Some n) ≡ inside (environment_of rows (reverse xs) file scope)
  opened_shown rows xs ys o n is e start_is outer_is count =
      ap (λ os. environment_of rows os file (Some n)) (ap reverse e ∙ reverse_push xs o)
      ∙ (ap (λ k. environment_of rows (o ∷ reverse xs) file (Some k)) (count ∙ sym (length-reverse xs))
      ∙ environment_open rows (reverse xs) file scope o is.in_opened start_is outer_is)

  pub row_kept : (xs ys : List Row) (os : List Opened) (r : Row) (n : ℕ) → IsKept (reverse xs) os file scope sight
      → ys ≡ xs ++ r ∷ [] → r.file ≡ file → r.scope ≡ scope → n ≡ length xs
      → IsKept (reverse ys) os file scope (see r.space r.name.0 n sight)
  row_kept xs ys os r n is e file_is scope_is count =
      subst (λ rows. IsKept rows os file scope (see r.space r.name.0 n sight)) (sym (ap reverse e ∙ reverse_push xs r))
      (subst (λ k. IsKept (r ∷ reverse xs) os file scope (see r.space r.name.0 k sight))
      (length-reverse xs ∙ sym count) (kept_row (reverse xs) os file scope sight r is file_is scope_is))

  pub row_shown : (xs ys : List Row) (os : List Opened) (r : Row) → ys ≡ xs ++ r ∷ [] → r.file ≡ file
      → r.scope ≡ scope
      → environment_of (reverse ys) os file scope
      ≡ declaring (environment_of (reverse xs) os file scope) r.name.0 r.space
  row_shown xs ys os r e file_is scope_is =
      ap (λ rows. environment_of rows os file scope) (ap reverse e ∙ reverse_push xs r)
      ∙ environment_row (reverse xs) os file scope r file_is scope_is

  pub scope_within : (rows : List Row) (xs : List Opened) (k : ℕ) → scope ≡ Some k
      → IsKept rows (reverse xs) file scope sight → k < length xs
  scope_within rows xs k e is =
      let there : HasOpened (length (reverse xs)) (Some k) =
      subst (HasOpened (length (reverse xs))) e is.innermost in
      omega (arith, there, length-reverse xs)

  at-scope : (rows : List Row) (xs : List Opened) (k : ℕ) (o : Opened) → scope ≡ Some k
      → IsKept rows (reverse xs) file scope sight → o ≡ get_or xs k o → o ≡ at_number (reverse xs) k o
  at-scope rows xs k o e is read = read ∙ sym (at_reverse xs k o (scope_within rows xs k e is))

  pub closed_kept : (rows : List Row) (xs : List Opened) (k : ℕ) (o : Opened) → scope ≡ Some k
      → IsKept rows (reverse xs) file scope sight → o ≡ get_or xs k o
      → IsKept rows (reverse xs) file o.outer (hide_from o.start sight)
  closed_kept rows xs k o e is read =
      kept_close rows (reverse xs) file k sight o (subst (λ s. IsKept rows (reverse xs) file s sight) e is)
      (at-scope rows xs k o e is read)

  pub closed_shown : (rows : List Row) (xs : List Opened) (k : ℕ) (o : Opened) → scope ≡ Some k
      → IsKept rows (reverse xs) file scope sight → o ≡ get_or xs k o
      → environment_of rows (reverse xs) file o.outer ≡ outside (environment_of rows (reverse xs) file scope)
  closed_shown rows xs k o e is read =
      let there : HasOpened (length (reverse xs)) (Some k) =
      subst (HasOpened (length (reverse xs))) e is.innermost in
      environment_close rows (reverse xs) file k o there is.opened (at-scope rows xs k o e is read)
      ∙ ap (λ s. outside (environment_of rows (reverse xs) file s)) (sym e)

  pub start_read : (rows : List Row) (xs : List Opened) (k : ℕ) (o : Opened) → scope ≡ Some k
      → IsKept rows (reverse xs) file scope sight → o ≡ get_or xs k o
      → o.start ≡ start_of (environment_of rows (reverse xs) file scope).scope
  start_read rows xs k o e is read =
      let there : HasOpened (length (reverse xs)) (Some k) =
      subst (HasOpened (length (reverse xs))) e is.innermost in
      sym (ap start_of (scope-is rows (reverse xs) file scope ∙ (ap (path (reverse xs)) e
      ∙ path_is (reverse xs) k o there is.opened (at-scope rows xs k o e is read))))

  pub start_none : (rows : List Row) (os : List Opened) → scope ≡ None
      → 0 ≡ start_of (environment_of rows os file scope).scope
  start_none rows os e = sym (ap start_of (scope-is rows os file scope ∙ (ap (path os) e ∙ path-none os)))

  pub meant_is : (rows : List Row) (os : List Opened) (space : Space) (name : ℕ) → IsKept rows os file scope sight
      → latest_of space name sight ≡ meant (environment_of rows os file scope) space name
  meant_is rows os space name is =
      ap (latest_of space name) is.sight_is ∙ meant_in_sight (environment_of rows os file scope) space name

  pub innermost_is : (rows : List Row) (os : List Opened) (space : Space) (name : ℕ) → IsKept rows os file scope sight
      → at_least (start_of (environment_of rows os file scope).scope) (latest_of space name sight)
      ≡ in_innermost (environment_of rows os file scope) space name
  innermost_is rows os space name is =
      let v = environment_of rows os file scope in
      ap (at_least (start_of v.scope)) (meant_is rows os space name is) ∙ innermost_in_sight v space name is.ordered

  pub innermost_found : (rows : List Row) (os : List Opened) (space : Space) (name : ℕ) (v : Environment) (n : ℕ)
      (r : Option ℕ) → IsKept rows os file scope sight → environment_of rows os file scope ≡ v → n ≡ start_of v.scope
      → r ≡ latest_of space name sight → at_least n r ≡ in_innermost v space name
  innermost_found rows os space name v n r is view start_is found =
      ap (λ k. at_least k r) start_is
      ∙ (ap (at_least (start_of v.scope)) found
      ∙ subst
      (λ (w : Environment). at_least (start_of w.scope) (latest_of space name sight) ≡ in_innermost w space name) view
      (innermost_is rows os space name is))
