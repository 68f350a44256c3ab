-- What is noted of a body is what ck_points finds in it.
use Rattle.std.proofs.Common.{◌≡◌, ℕ, suc, Bool, true, false, List, [], ◌∷◌, ◌++◌, refl, sym, ap, ◌∙◌, append-nil}
use Rattle.std.specs.Prelude.{◌||◌, if◌then◌else◌}
use Rattle.ck_points.specs.Functions.{status_in, status_in_statement, status_in_declaration, status_in_start}
use Rattle.ck_points.specs.Labels.{Labelled, labels, labels_from, Marked, marks, marks_from}
use Rattle.ck_points.specs.Places.{Place, before}
use Rattle.ck_prog.specs.Paths as part
use Rattle.ck_prog.specs.Paths.{Path, below}
use Rattle.ck_prog.specs.Sights.{CaseLabel, DefaultLabel}
use Rattle.ck_prog.specs.TypedBodies as bodies
use Rattle.ck_prog.specs.TypedBodies.{TypedStatement, TypedItems}
use Rattle.ck_bodies.specs.Noting.{PlainNoted, StatusVariable, NamedLabel, SwitchLabel, PlainNote}
use Rattle.ck_bodies.specs.Noting.{status_notes, notes}
use Rattle.ck_bodies.specs.Noting.{notes_from, named_before, named, marked_before, marked, is_status, has_status}

-- lists of notes ------------------------------------------------------------------------------------------------------

named_before-append : (n : PlainNoted) (p : Place) (ls ms : List Labelled) →
    named_before n p (ls ++ ms) ≡ named_before n p ls ++ ms
named_before-append StatusVariable p ls ms = refl
named_before-append (NamedLabel name) p ls ms = refl
named_before-append (SwitchLabel label) p ls ms = refl

named-append : (xs ys : List PlainNote) → named (xs ++ ys) ≡ named xs ++ named ys
named-append [] ys = refl
named-append (n ∷ xs) ys =
    ap (named_before n.noted n.place) (named-append xs ys)
    ∙ named_before-append n.noted n.place (named xs) (named ys)

marked_before-append : (n : PlainNoted) (p : Place) (ls ms : List Marked) →
    marked_before n p (ls ++ ms) ≡ marked_before n p ls ++ ms
marked_before-append StatusVariable p ls ms = refl
marked_before-append (NamedLabel name) p ls ms = refl
marked_before-append (SwitchLabel label) p ls ms = refl

marked-append : (xs ys : List PlainNote) → marked (xs ++ ys) ≡ marked xs ++ marked ys
marked-append [] ys = refl
marked-append (n ∷ xs) ys =
    ap (marked_before n.noted n.place) (marked-append xs ys)
    ∙ marked_before-append n.noted n.place (marked xs) (marked ys)

or-assoc : (a b c : Bool) → a || (b || c) ≡ (a || b) || c
or-assoc true b c = refl
or-assoc false b c = refl

has_status-append : (xs ys : List PlainNote) → has_status (xs ++ ys) ≡ has_status xs || has_status ys
has_status-append [] ys = refl
has_status-append (n ∷ xs) ys =
    ap (λ b. is_status n.noted || b) (has_status-append xs ys)
    ∙ or-assoc (is_status n.noted) (has_status xs) (has_status ys)

module _ (π : Path) where
  named-status : (b : Bool) → named (status_notes b π) ≡ []
  named-status true = refl
  named-status false = refl

  marked-status : (b : Bool) → marked (status_notes b π) ≡ []
  marked-status true = refl
  marked-status false = refl

  has_status-status : (b : Bool) → has_status (status_notes b π) ≡ b
  has_status-status true = refl
  has_status-status false = refl

-- after what is noted of a declaration
module _ (π : Path) (b : Bool) (ns : List PlainNote) where
  named-after : (ls : List Labelled) → named ns ≡ ls → named (status_notes b π ++ ns) ≡ ls
  named-after ls is =
      named-append (status_notes b π) ns ∙ ap (λ xs. xs ++ named ns) (named-status π b) ∙ is

  marked-after : (ms : List Marked) → marked ns ≡ ms → marked (status_notes b π ++ ns) ≡ ms
  marked-after ms is =
      marked-append (status_notes b π) ns ∙ ap (λ xs. xs ++ marked ns) (marked-status π b) ∙ is

  has_status-after : (c : Bool) → has_status ns ≡ c → has_status (status_notes b π ++ ns) ≡ b || c
  has_status-after c is =
      has_status-append (status_notes b π) ns ∙ ap (λ x. x || has_status ns) (has_status-status π b)
      ∙ ap (λ x. b || x) is

-- two lists of notes, one after the other
module _ (xs ys : List PlainNote) where
  named-both : (ls ms : List Labelled) → named xs ≡ ls → named ys ≡ ms → named (xs ++ ys) ≡ ls ++ ms
  named-both ls ms first second =
      named-append xs ys ∙ ap (λ zs. zs ++ named ys) first ∙ ap (λ zs. ls ++ zs) second

  marked-both : (ls ms : List Marked) → marked xs ≡ ls → marked ys ≡ ms → marked (xs ++ ys) ≡ ls ++ ms
  marked-both ls ms first second =
      marked-append xs ys ∙ ap (λ zs. zs ++ marked ys) first ∙ ap (λ zs. ls ++ zs) second

  has_status-both : (a b : Bool) → has_status xs ≡ a → has_status ys ≡ b → has_status (xs ++ ys) ≡ a || b
  has_status-both a b first second =
      has_status-append xs ys ∙ ap (λ x. x || has_status ys) first ∙ ap (λ x. a || x) second

-- labels --------------------------------------------------------------------------------------------------------------

mutual
  named-noted : (π : Path) (s : TypedStatement) → named (notes true π s) ≡ labels π s
  named-noted π (bodies.Block first is) = named-noted_from π 0 is
  named-noted π (bodies.If keyword x s) = named-noted (below π part.Controlled) s
  named-noted π (bodies.IfElse keyword x s t) =
      named-both (notes true (below π part.Controlled) s) (notes true (below π part.Otherwise) t) _ _
      (named-noted (below π part.Controlled) s) (named-noted (below π part.Otherwise) t)
  named-noted π (bodies.Switch keyword x s) = named-noted (below π part.Controlled) s
  named-noted π (bodies.While keyword x s) = named-noted (below π part.Controlled) s
  named-noted π (bodies.Do keyword s x) = named-noted (below π part.DoBody) s
  named-noted π (bodies.For keyword start x step s) =
      named-after π (status_in_start start) (notes true (below π part.ForBody) s) _
      (named-noted (below π part.ForBody) s)
  named-noted π (bodies.Case keyword in_switch x v s) = named-noted (below π part.CaseBody) s
  named-noted π (bodies.Default keyword in_switch s) = named-noted (below π part.Labelled) s
  named-noted π (bodies.Label keyword name s) =
      ap (λ ls. record { name = name; place = before π } ∷ ls) (named-noted (below π part.Labelled) s)
  named-noted π _ = refl

  pub named-noted_from : (π : Path) (k : ℕ) (is : TypedItems) → named (notes_from true π k is) ≡ labels_from π k is
  named-noted_from π k bodies.NoItems = refl
  named-noted_from π k (bodies.DeclarationItem d rest) =
      named-after (below π (part.Item k)) (status_in_declaration d) (notes_from true π (suc k) rest) _
      (named-noted_from π (suc k) rest)
  named-noted_from π k (bodies.StatementItem s rest) =
      named-both (notes true (below π (part.Item k)) s) (notes_from true π (suc k) rest) _ _
      (named-noted (below π (part.Item k)) s) (named-noted_from π (suc k) rest)

-- labels of a `switch` ------------------------------------------------------------------------------------------------

mutual
  pub marked-noted : (π : Path) (s : TypedStatement) → marked (notes false π s) ≡ marks π s
  marked-noted π (bodies.Block first is) = marked-noted_from π 0 is
  marked-noted π (bodies.If keyword x s) = marked-noted (below π part.Controlled) s
  marked-noted π (bodies.IfElse keyword x s t) =
      marked-both (notes false (below π part.Controlled) s) (notes false (below π part.Otherwise) t) _ _
      (marked-noted (below π part.Controlled) s) (marked-noted (below π part.Otherwise) t)
  marked-noted π (bodies.While keyword x s) = marked-noted (below π part.Controlled) s
  marked-noted π (bodies.Do keyword s x) = marked-noted (below π part.DoBody) s
  marked-noted π (bodies.For keyword start x step s) =
      marked-after π (status_in_start start) (notes false (below π part.ForBody) s) _
      (marked-noted (below π part.ForBody) s)
  marked-noted π (bodies.Case keyword in_switch x v s) =
      ap (λ ms. record { label = CaseLabel v; place = before π } ∷ ms) (marked-noted (below π part.CaseBody) s)
  marked-noted π (bodies.Default keyword in_switch s) =
      ap (λ ms. record { label = DefaultLabel; place = before π } ∷ ms) (marked-noted (below π part.Labelled) s)
  marked-noted π (bodies.Label keyword name s) = marked-noted (below π part.Labelled) s
  marked-noted π _ = refl

  marked-noted_from : (π : Path) (k : ℕ) (is : TypedItems) → marked (notes_from false π k is) ≡ marks_from π k is
  marked-noted_from π k bodies.NoItems = refl
  marked-noted_from π k (bodies.DeclarationItem d rest) =
      marked-after (below π (part.Item k)) (status_in_declaration d) (notes_from false π (suc k) rest) _
      (marked-noted_from π (suc k) rest)
  marked-noted_from π k (bodies.StatementItem s rest) =
      marked-both (notes false (below π (part.Item k)) s) (notes_from false π (suc k) rest) _ _
      (marked-noted (below π (part.Item k)) s) (marked-noted_from π (suc k) rest)

-- status variables ----------------------------------------------------------------------------------------------------

mutual
  status-noted : (π : Path) (s : TypedStatement) → has_status (notes true π s) ≡ status_in_statement s
  status-noted π (bodies.Block first is) = status-noted_from π 0 is
  status-noted π (bodies.If keyword x s) = status-noted (below π part.Controlled) s
  status-noted π (bodies.IfElse keyword x s t) =
      has_status-both (notes true (below π part.Controlled) s) (notes true (below π part.Otherwise) t) _ _
      (status-noted (below π part.Controlled) s) (status-noted (below π part.Otherwise) t)
  status-noted π (bodies.Switch keyword x s) = status-noted (below π part.Controlled) s
  status-noted π (bodies.While keyword x s) = status-noted (below π part.Controlled) s
  status-noted π (bodies.Do keyword s x) = status-noted (below π part.DoBody) s
  status-noted π (bodies.For keyword start x step s) =
      has_status-after π (status_in_start start) (notes true (below π part.ForBody) s) _
      (status-noted (below π part.ForBody) s)
  status-noted π (bodies.Case keyword in_switch x v s) = status-noted (below π part.CaseBody) s
  status-noted π (bodies.Default keyword in_switch s) = status-noted (below π part.Labelled) s
  status-noted π (bodies.Label keyword name s) = status-noted (below π part.Labelled) s
  status-noted π _ = refl

  pub status-noted_from : (π : Path) (k : ℕ) (is : TypedItems) → has_status (notes_from true π k is) ≡ status_in is
  status-noted_from π k bodies.NoItems = refl
  status-noted_from π k (bodies.DeclarationItem d rest) =
      has_status-after (below π (part.Item k)) (status_in_declaration d) (notes_from true π (suc k) rest) _
      (status-noted_from π (suc k) rest)
  status-noted_from π k (bodies.StatementItem s rest) =
      has_status-both (notes true (below π (part.Item k)) s) (notes_from true π (suc k) rest) _ _
      (status-noted (below π (part.Item k)) s) (status-noted_from π (suc k) rest)
