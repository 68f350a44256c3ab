-- What holds of environments holds of those that follow them, and what is in sight there.
use Rattle.std.proofs.Common.{◌≡◌, ℕ, suc, ◌+◌, ◌<◌, ◌≤◌, Bool, true, List, [], ◌∷◌, length, refl, ap, sym}
use Rattle.std.proofs.Common.{◌∙◌, arith}
use Rattle.std.specs.Prelude.{◌&&◌, ◌==◌, Option}
use Rattle.std.proofs.lemmas.Bool.{eq-eqb, and_parts, and_from, false≢true}
use Rattle.ck_prog.specs.Declarations.{ends_with}
use Rattle.ck_prog.specs.Growing.{AreAtMost}
use Rattle.ck_scopes.specs.Environments.{Declared, Environment, start, next_file, inside, outside, outer_of, declaring}
use Rattle.ck_scopes.specs.Environments.{meant, in_innermost}
use Rattle.ck_scopes.specs.Ordered.{AreScoped, AreBefore, AreNested, AreUpTo, IsOrdered, start_of, see_where, seen}
use Rattle.ck_scopes.specs.Ordered.{seen_in}
use Rattle.ck_scopes.specs.Seen.{see, latest_of, hide_from}
use Rattle.ck_scopes.specs.declared.spaces.Space.{Space}
use Rattle.ck_scopes.proofs.SeenLemmas.{at_least, meant_seen, innermost_named, ends_itself, longer_ends_not}
use Rattle.ck_scopes.proofs.SeenLemmas.{seen_inside}
use Rattle.ck_scopes.proofs.SeenLemmas.{seen_outside, seen_none}

pub ordered_start : IsOrdered start
ordered_start = record { scoped = tt; at_most = tt; nested = tt; files = tt }

-- opening -------------------------------------------------------------------------------------------------------------

before-all : (n file : ℕ) (scope : List ℕ) (ds : List Declared) → length ds ≤ n → AreBefore n file scope ds
before-all n file scope [] h = tt
before-all n file scope (d ∷ ds) h = (λ e. omega (arith, h), before-all n file scope ds (omega (arith, h)))

pub ordered_inside : (v : Environment) → IsOrdered v → IsOrdered (inside v)
ordered_inside v is =
    record {
      scoped = is.scoped;
      at_most = (omega arith, is.at_most);
      nested = (before-all (length v.declared) v.file v.scope v.declared (omega arith), is.nested);
      files = is.files;
    }

pub seen_in_inside : (v : Environment) → IsOrdered v → seen_in (inside v) ≡ seen_in v
seen_in_inside v is = seen_inside v.file (length v.declared) v.scope v.declared (omega arith) is.scoped

-- closing -------------------------------------------------------------------------------------------------------------

at_most-outer : (n : ℕ) (scope : List ℕ) → AreAtMost n scope → AreAtMost n (outer_of scope)
at_most-outer n [] h = tt
at_most-outer n (m ∷ ms) h = h.1

nested-outer : (file : ℕ) (scope : List ℕ) (ds : List Declared) → AreNested file scope ds
    → AreNested file (outer_of scope) ds
nested-outer file [] ds h = tt
nested-outer file (m ∷ ms) ds h = h.1

pub ordered_outside : (v : Environment) → IsOrdered v → IsOrdered (outside v)
ordered_outside v is =
    record {
      scoped = is.scoped;
      at_most = at_most-outer (length v.declared) v.scope is.at_most;
      nested = nested-outer v.file v.scope v.declared is.nested;
      files = is.files;
    }

seen-outer : (file n : ℕ) (ns scope : List ℕ) (ds : List Declared) → scope ≡ n ∷ ns → AreScoped ds
    → AreNested file scope ds → seen file (outer_of scope) ds ≡ hide_from n (seen file scope ds)
seen-outer file n ns [] ds e scoped nested = absurd (cc)
seen-outer file n ns (m ∷ ms) ds e scoped nested =
    let same : m ≡ n = cc in
    seen_outside file m ms ds scoped nested.0 ∙ ap (λ q. hide_from q (seen file (m ∷ ms) ds)) same

pub seen_in_outside : (v : Environment) (n : ℕ) (ns : List ℕ) → IsOrdered v → v.scope ≡ n ∷ ns
    → seen_in (outside v) ≡ hide_from n (seen_in v)
seen_in_outside v n ns is e = seen-outer v.file n ns v.scope v.declared e is.scoped is.nested

-- declaring -----------------------------------------------------------------------------------------------------------

at_most-more : (n : ℕ) (scope : List ℕ) → AreAtMost n scope → AreAtMost (suc n) scope
at_most-more n [] h = tt
at_most-more n (m ∷ ms) h = (omega (arith, h.0), at_most-more n ms h.1)

hidden-outside : (file : Bool) (outer scope : List ℕ) → length outer < length scope
    → (file && ends_with outer scope) ≡ true → ⊥
hidden-outside file outer scope h e =
    let shown = (and_parts file (ends_with outer scope) e).1 in
    false≢true (sym (longer_ends_not outer scope h) ∙ shown)

nested-more : (file : ℕ) (scope : List ℕ) (d : Declared) (ds : List Declared) → length scope ≤ length d.scope
    → AreNested file scope ds → AreNested file scope (d ∷ ds)
nested-more file [] d ds h nested = tt
nested-more file (n ∷ ns) d ds h nested = (
  (λ e. absurd (hidden-outside (d.file == file) ns d.scope (omega (arith, h)) e), nested.0),
  nested-more file ns d ds (omega (arith, h)) nested.1,
)

pub ordered_declaring : (v : Environment) (name : ℕ) (space : Option Space) → IsOrdered v
    → IsOrdered (declaring v name space)
ordered_declaring v name space is =
    let d : Declared = record { file = v.file; scope = v.scope; name = name; space = space } in
    record {
      scoped = (is.at_most, is.scoped);
      at_most = at_most-more (length v.declared) v.scope is.at_most;
      nested = nested-more v.file v.scope d v.declared (omega arith) is.nested;
      files = (omega arith, is.files);
    }

pub seen_in_declaring : (v : Environment) (name : ℕ) (space : Option Space)
    → seen_in (declaring v name space) ≡ see space name (length v.declared) (seen_in v)
seen_in_declaring v name space =
    let shown : (v.file == v.file && ends_with v.scope v.scope) ≡ true =
    and_from (v.file == v.file) (ends_with v.scope v.scope) (eq-eqb v.file v.file refl) (ends_itself v.scope) in
    ap (λ b. see_where b space name (length v.declared) (seen_in v)) shown

-- the next file -------------------------------------------------------------------------------------------------------

files-more : (n m : ℕ) (ds : List Declared) → n ≤ m → AreUpTo n ds → AreUpTo m ds
files-more n m [] h files = tt
files-more n m (d ∷ ds) h files = (omega (arith, h, files.0), files-more n m ds h files.1)

pub ordered_next : (v : Environment) → IsOrdered v → IsOrdered (next_file v)
ordered_next v is =
    record {
      scoped = is.scoped;
      at_most = tt;
      nested = tt;
      files = files-more v.file (v.file + 1) v.declared (omega arith) is.files;
    }

pub seen_in_next : (v : Environment) → IsOrdered v → seen_in (next_file v) ≡ []
seen_in_next v is = seen_none v.file (v.file + 1) [] v.declared (omega arith) is.files

-- what names mean -----------------------------------------------------------------------------------------------------

pub meant_in_sight : (v : Environment) (space : Space) (name : ℕ)
    → latest_of space name (seen_in v) ≡ meant v space name
meant_in_sight v space name = sym (meant_seen v.file v.scope space name v.declared)

pub innermost_in_sight : (v : Environment) (space : Space) (name : ℕ) → IsOrdered v
    → at_least (start_of v.scope) (meant v space name) ≡ in_innermost v space name
innermost_in_sight v space name is = sym (innermost_named v.file v.scope space name v.declared is.scoped is.nested)
