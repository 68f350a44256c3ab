-- What is in sight where a scope opens and where one closes, and that what a name means is open and has that name.
use Rattle.std.proofs.Common.{◌≡◌, ℕ, suc, ◌<◌, ◌≤◌, List, [], ◌∷◌, ◌++◌, length, refl, ap, arith, subst, sym, ◌∙◌}
use Rattle.std.specs.Prelude.{Bool, true, false, ◌&&◌, ◌==◌, if◌then◌else◌, Some, Contains}
use Rattle.std.specs.Str.{bytes_eq}
use Rattle.ck_prog.specs.Declarations.{Meaning, Entry, Place, ends_with, is_open, is_named, latest, meant_in, inside}
use Rattle.ck_prog.specs.Declarations.{outside}
use Rattle.ck_prog.specs.Growing.{ComesAfter, AreAtMost, IsScoped, IsOrderly}
use Rattle.ck_prog.specs.Laws.{IsMeant}
use Rattle.ck_prog.proofs.Growth.{AreWithin, added}

-- no scope that had opened before is the one that opens after more declarations
new_scope : (m n : ℕ) (outer scope : List ℕ) → n < m → AreAtMost n scope
    → ends_with (m ∷ outer) scope ≡ ends_with outer scope
new_scope m n outer [] below h = refl
new_scope m n outer (k ∷ ks) below h = let less : k < m = omega (arith, h.0, below) in grind (arith, bytes_eq, less)

seen_inside : (space : Meaning → Bool) (file m n : ℕ) (scope name : List ℕ) (e : Entry) → n < m → AreAtMost n e.scope
    → is_named space file (m ∷ scope) name e ≡ is_named space file scope name e
seen_inside space file m n scope name e below h =
    ap (λ b. space e.meaning && (e.file == file && b) && bytes_eq e.name name) (new_scope m n scope e.scope below h)

latest_inside : (space : Meaning → Bool) (file m : ℕ) (scope name : List ℕ) (es : List Entry) → length es ≤ m
    → IsScoped es
    → latest (is_named space file (m ∷ scope) name) es ≡ latest (is_named space file scope name) es
latest_inside space file m scope name [] below h = refl
latest_inside space file m scope name (e ∷ es) below h =
    let less : length es < m = omega (arith, below) in
    ap (λ b. if b then Some e else latest (is_named space file (m ∷ scope) name) es)
    (seen_inside space file m (length es) scope name e less h.0)
    ∙ ap (λ r. if is_named space file scope name e then Some e else r)
    (latest_inside space file m scope name es (omega (arith, below)) h.1)

pub opening_shows : (space : Meaning → Bool) (p : Place) (name : List ℕ) → IsOrderly p
    → meant_in space (inside p) name ≡ meant_in space p name
opening_shows space p name h = latest_inside space p.file (length p.declared) p.scope name p.declared (omega arith) h.0

-- closing -------------------------------------------------------------------------------------------------------------

longer_differs : (xs ys : List ℕ) → length xs < length ys → bytes_eq xs ys ≡ false
longer_differs [] [] h = absurd (omega (arith, h))
longer_differs [] (y ∷ ys) h = refl
longer_differs (x ∷ xs) [] h = absurd (omega (arith, h))
longer_differs (x ∷ xs) (y ∷ ys) h =
    let rest : bytes_eq xs ys ≡ false = longer_differs xs ys (omega (arith, h)) in grind (arith, bytes_eq, rest)

longer_ends_not : (outer scope : List ℕ) → length outer < length scope → ends_with outer scope ≡ false
longer_ends_not [] scope h = longer_differs [] scope h
longer_ends_not (n ∷ ns) scope h =
    let whole : bytes_eq (n ∷ ns) scope ≡ false = longer_differs (n ∷ ns) scope h in
    let rest : ends_with ns scope ≡ false = longer_ends_not ns scope (omega (arith, h)) in
    grind (arith, whole, rest)

longer_inside : (inner : List ℕ) (n : ℕ) (scope : List ℕ) → length scope < length (inner ++ n ∷ scope)
longer_inside [] n scope = omega arith
longer_inside (k ∷ ks) n scope = let h = longer_inside ks n scope in omega (arith, h)

hidden_after : (space : Meaning → Bool) (file : ℕ) (scope name : List ℕ) (e : Entry) (inner : List ℕ) (n : ℕ)
    → e.scope ≡ inner ++ n ∷ scope → is_named space file scope name e ≡ false
hidden_after space file scope name e inner n h =
    let longer : length scope < length e.scope =
    subst (λ s. length scope < length s) (sym h) (longer_inside inner n scope) in
    let ends : ends_with scope e.scope ≡ false = longer_ends_not scope e.scope longer in
    grind (arith, ends)

latest_after : (space : Meaning → Bool) (file n : ℕ) (scope name : List ℕ) (new es : List Entry)
    → AreWithin (n ∷ scope) new
    → latest (is_named space file scope name) (new ++ es) ≡ latest (is_named space file scope name) es
latest_after space file n scope name [] es h = refl
latest_after space file n scope name (e ∷ new) es h =
    ap (λ b. if b then Some e else latest (is_named space file scope name) (new ++ es))
    (hidden_after space file scope name e h.0.0 n h.0.1)
    ∙ latest_after space file n scope name new es h.1

pub closing_hides : (space : Meaning → Bool) (p q : Place) (name : List ℕ) → ComesAfter (inside p) q
    → meant_in space (outside p q) name ≡ meant_in space p name
closing_hides space p q name c =
    let a = added (inside p) q c in
    ap (latest (is_named space p.file p.scope name)) a.declared_is
    ∙ latest_after space p.file (length p.declared) p.scope name a.new p.declared a.within

-- what is meant -------------------------------------------------------------------------------------------------------

record Found (test : Entry → Bool) (es : List Entry) (e : Entry) : Type 0 where
  listed : Contains es e
  passes : test e ≡ true

found_later : (test : Entry → Bool) (d e : Entry) (es : List Entry) → Found test es e → Found test (d ∷ es) e
found_later test d e es f =
    record { listed = (suc f.listed.0, omega (arith, f.listed.1), f.listed.2); passes = f.passes }

found_by : (test : Entry → Bool) (d e : Entry) (es : List Entry) (b : Bool) → test d ≡ b
    → (latest test es ≡ Some e → Found test es e) → (if b then Some d else latest test es) ≡ Some e
    → Found test (d ∷ es) e
found_by test d e es true passes later h =
    let same : d ≡ e = cc in
    record { listed = (0, omega arith, same); passes = subst (λ x. test x ≡ true) same passes }
found_by test d e es false passes later h = found_later test d e es (later h)

found : (test : Entry → Bool) (es : List Entry) (e : Entry) → latest test es ≡ Some e → Found test es e
found test [] e h = absurd (cc)
found test (d ∷ es) e h = found_by test d e es (test d) refl (found test es e) h

both : (a b c : Bool) → (a && b && c) ≡ true → (a ≡ true) × (b ≡ true) × (c ≡ true)
both true true true h = (refl, refl, refl)
both true true false h = absurd (cc)
both true false c h = absurd (cc)
both false b c h = absurd (cc)

pub means_open_entry : (space : Meaning → Bool) (p : Place) (name : List ℕ) (e : Entry) → meant_in space p name ≡ Some e
    → IsMeant space p name e
means_open_entry space p name e h =
    let f = found (is_named space p.file p.scope name) p.declared e h in
    let parts = both (space e.meaning) (is_open p.file p.scope e) (bytes_eq e.name name) f.passes in
    record { declared = f.listed; of_space = parts.0; open_there = parts.1; of_name = parts.2 }
