-- The limit of points: a body of 199,999 empty statements has 400,000 points and is accepted, one more is refused.
use Rattle.std.proofs.Common.{◌≡◌, refl, ap, ◌∙◌, arith}
use Rattle.std.specs.Prelude.{ℕ, zero, suc, ◌+◌, ◌*◌, Bool, true, false, List, [], ◌∷◌, ◌++◌, length, Some, None}
use Rattle.std.specs.Prelude.{if◌then◌else◌}
use Rattle.ck_base.specs.declared.tokens.Token.{Token}
use Rattle.ck_prog.specs.Paths.{Path}
use Rattle.ck_prog.specs.TypedBodies as bodies
use Rattle.ck_prog.specs.TypedBodies.{TypedItems, TypedFunction}
use Rattle.ck_points.specs.Functions.{points, status_in, inside, plain_body, pair_body, exit, pair_left}
use Rattle.ck_points.specs.Graphs.{passing_limit}
use Rattle.ck_points.specs.Labels.{labels_from}
use Rattle.ck_points.specs.Passages.{Passage}
use Rattle.ck_points.specs.Places.{Point, Ends, Way, leads}
use Rattle.ck_points.specs.Statements.{Jumps, items}

-- as many empty statements
abbrev empties : Token → ℕ → TypedItems
empties t zero = bodies.NoItems
empties t (suc n) = bodies.StatementItem (bodies.Empty t) (empties t n)

two_for_each : (t : Token) (j : Jumps) (π : Path) (k n : ℕ) (next : Way)
    → length (items j π k (empties t n) next).points ≡ 2 * n
two_for_each t j π k zero next = refl
two_for_each t j π k (suc n) next = let e = two_for_each t j π (suc k) n next in omega (arith, e)

no_status : (t : Token) (n : ℕ) → status_in (empties t n) ≡ false
no_status t zero = refl
no_status t (suc n) = no_status t n

one_more : (ps : List Point) (p : Point) → length (ps ++ (p ∷ [])) ≡ length ps + 1
one_more [] p = refl
one_more (q ∷ ps) p = let e = one_more ps p in omega (arith, e)

-- a function with such a body
abbrev emptied : TypedFunction → Token → ℕ → TypedFunction
emptied f t n = record f { items = empties t n }

second : (b : Bool) (p q : Passage) → b ≡ false → (if b then p else q).points ≡ q.points
second false p q e = refl
second true p q e = absurd (cc)

two_more : (f : TypedFunction) (t : Token) (n : ℕ) → length (points (emptied f t n)) ≡ 2 * n + 2
two_more f t n =
    let g = emptied f t n in
    let name = f.declared.entry.at in
    let ls = labels_from [] 0 g.items in
    let j : Jumps = record { broken = leads exit; continued = leads exit; returned = leads exit; labels = ls } in
    let ps = (inside g (leads exit)).points in
    let chosen =
    second (status_in g.items) (pair_body name (inside g (leads pair_left)))
    (plain_body name (inside g (leads exit))) (no_status t n) in
    let end : Point = record { place = exit; happening = Ends; site = name; edges = [] } in
    let all = one_more ps end in
    let each : length ps ≡ 2 * n = two_for_each t j [] 0 n (leads exit) in
    let both : length (plain_body name (inside g (leads exit))).points ≡ 2 * n + 2 = omega (arith, all, each) in
    ap length chosen ∙ both

at_the_limit : (f : TypedFunction) (t : Token) (n : ℕ) → n ≡ 199999 → passing_limit (emptied f t n ∷ []) ≡ None
at_the_limit f t n is =
    let e = two_more f t n in
    let all : length (points (emptied f t n)) ≡ 400000 = omega (arith, e, is) in rw all refl

past_the_limit : (f : TypedFunction) (t : Token) (n : ℕ) → n ≡ 200000
    → passing_limit (emptied f t n ∷ []) ≡ Some (emptied f t n)
past_the_limit f t n is =
    let e = two_more f t n in
    let all : length (points (emptied f t n)) ≡ 400002 = omega (arith, e, is) in rw all refl
