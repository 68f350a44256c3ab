-- Numbers that agree with the entries of ck_prog give what its look-ups give.
use Rattle.std.proofs.Common.{◌≡◌, ℕ, zero, suc, ◌<◌, ◌≤◌, Bool, true, false, List, [], ◌∷◌, ◌++◌, length, refl}
use Rattle.std.proofs.Common.{ap, sym}
use Rattle.std.proofs.Common.{subst, inl, inr, ◌∙◌, arith}
use Rattle.std.specs.Prelude.{◌&&◌, ◌||◌, ◌==◌, not, Option, Some, slice_get, if◌then◌else◌}
use Rattle.std.specs.Cmp.Lexicographic.{bytes_decides}
use Rattle.std.specs.Str.{bytes_eq}
use Rattle.std.proofs.lemmas.Bool.{eq-eqb, eqb-true, ne_eqb, true≢false}
use Rattle.std.proofs.lemmas.Bool.Decides.{same_from_decides}
use Rattle.ck_prog.specs.Declarations.{Meaning, Variable, FunctionNamed, TypeNamed, Enumerator, StructTag, EnumTag}
use Rattle.ck_prog.specs.Declarations.{Member}
use Rattle.ck_prog.specs.Declarations.{Completed, Label, Entry, Place, latest, ends_with}
use Rattle.ck_prog.specs.Linking.{linkage_of, is_linked, is_external, are_one}
use Rattle.ck_prog.specs.Projects.{beside}
use Rattle.ck_prog.specs.declared.names.Linkage.{Linkage}
use Rattle.ck_prog.specs.declared.names.Linkage.TheVariants.{NoLinkage, Internal, External}
use Rattle.ck_tables.specs.NameList.{IsName, AreDistinct, Extends}
use Rattle.ck_scopes.specs.Agreement.{is_in, space_of, entry_at, entry_of, IsEntry, AreEntries, IsPlace, is_in_scope}
use Rattle.ck_scopes.specs.Agreement.{MeansSame, IsLinkedEntry, AreLinked, AreElsewhere, IsOneWith}
use Rattle.ck_scopes.specs.Environments.{Declared, Environment, is_of, is_named, is_innermost, latest_number}
use Rattle.ck_scopes.specs.Links.{LinkedName, Links, is_one, latest_entry}
use Rattle.ck_scopes.specs.declared.spaces.Space.{Space}
use Rattle.ck_scopes.specs.declared.spaces.Space.TheVariants.{Ordinary, Tag}
use Rattle.ck_scopes.proofs.SeenLemmas.{bytes_eq-sym}

-- names ---------------------------------------------------------------------------------------------------------------

name_bytes : (names : List (List ℕ)) (i j : ℕ) (b c : List ℕ) → AreDistinct names → IsName names i b → IsName names j c
    → bytes_eq b c ≡ (i == j)
name_bytes names i j b c distinct at also =
    same_from_decides (bytes_eq b c) (i == j) (bytes_decides b c) (
      λ e. let same : i ≡ j = eqb-true i j e in
          let there : slice_get names j ≡ Some b = subst (λ k. IsName names k b) same at in cc,
      λ e. eq-eqb i j (distinct i j c (subst (IsName names i) e at) also),
    )

-- entries by their numbers --------------------------------------------------------------------------------------------

found-step : (b : Bool) (e : Entry) (es : List Entry) (n : ℕ) (rest : Option Entry) (found : Option ℕ) → n ≡ length es
    → rest ≡ entry_of (e ∷ es) found
    → (if b then Some e else rest) ≡ entry_of (e ∷ es) (if b then Some n else found)
found-step true e es n rest found count more =
    sym (ap (λ b. if b then Some e else entry_at es n) (eq-eqb n (length es) count))
found-step false e es n rest found count more = more

-- an entry more at the front changes nothing
front : (e : Entry) (es : List Entry) (k : ℕ) → k < length es → entry_at es k ≡ entry_at (e ∷ es) k
front e es k below =
    sym (ap (λ b. if b then Some e else entry_at es k) (ne_eqb k (length es) (λ same. omega (arith, same, below))))

later-by : (b : Bool) (e : Entry) (es : List Entry) (n : ℕ) (found : Option ℕ) → n < length es
    → entry_of es found ≡ entry_of (e ∷ es) found
    → entry_of es (if b then Some n else found) ≡ entry_of (e ∷ es) (if b then Some n else found)
later-by true e es n found below more = front e es n below
later-by false e es n found below more = more

-- environments --------------------------------------------------------------------------------------------------------

same-length : (names : List (List ℕ)) (es : List Entry) (ds : List Declared) → AreEntries names es ds
    → length ds ≡ length es
same-length names [] [] h = refl
same-length names [] (d ∷ ds) h = absurd h
same-length names (e ∷ es) [] h = absurd h
same-length names (e ∷ es) (d ∷ ds) h = ap suc (same-length names es ds h.1)

number-later : (test : Declared → Bool) (ds : List Declared) (e : Entry) (es : List Entry) → length ds ≤ length es
    → entry_of es (latest_number test ds) ≡ entry_of (e ∷ es) (latest_number test ds)
number-later test [] e es h = refl
number-later test (d ∷ ds) e es h =
    later-by (test d) e es (length ds) (latest_number test ds) (omega (arith, h))
    (number-later test ds e es (omega (arith, h)))

latest_same : (names : List (List ℕ)) (test : Entry → Bool) (also : Declared → Bool)
    → ((e : Entry) (d : Declared) → IsEntry names e d → test e ≡ also d) → (es : List Entry) (ds : List Declared)
    → AreEntries names es ds → latest test es ≡ entry_of es (latest_number also ds)
latest_same names test also each [] [] h = refl
latest_same names test also each [] (d ∷ ds) h = absurd h
latest_same names test also each (e ∷ es) [] h = absurd h
latest_same names test also each (e ∷ es) (d ∷ ds) h =
    let count = same-length names es ds h.1 in
    ap (λ b. if b then Some e else latest test es) (each e d h.0)
    ∙ found-step (also d) e es (length ds) (latest test es) (latest_number also ds) count
    (latest_same names test also each es ds h.1 ∙ number-later also ds e es (omega (arith, count)))

space-same : (space : Space) (m : Meaning) → is_in space m ≡ is_of space (space_of m)
space-same Ordinary (Variable t l d s) = refl
space-same Ordinary (FunctionNamed t l d) = refl
space-same Ordinary (TypeNamed t) = refl
space-same Ordinary (Enumerator v) = refl
space-same Ordinary (StructTag s) = refl
space-same Ordinary EnumTag = refl
space-same Ordinary (Member m) = refl
space-same Ordinary (Completed s l c) = refl
space-same Ordinary Label = refl
space-same Tag (Variable t l d s) = refl
space-same Tag (FunctionNamed t l d) = refl
space-same Tag (TypeNamed t) = refl
space-same Tag (Enumerator v) = refl
space-same Tag (StructTag s) = refl
space-same Tag EnumTag = refl
space-same Tag (Member m) = refl
space-same Tag (Completed s l c) = refl
space-same Tag Label = refl

module _ (names : List (List ℕ)) (p : Place) (v : Environment) (bytes : List ℕ) (name : ℕ)
    (distinct : AreDistinct names) (is : IsPlace names p v) (at : IsName names name bytes) where
  in_space : (space : Space) (e : Entry) (d : Declared) → IsEntry names e d
      → is_in space e.meaning ≡ is_of space d.space
  in_space space e d h = space-same space e.meaning ∙ ap (is_of space) (sym h.space_is)

  in_file : (e : Entry) (d : Declared) → IsEntry names e d → (e.file == p.file) ≡ (d.file == v.file)
  in_file e d h = ap (λ f. f == p.file) (sym h.file_is) ∙ ap (λ f. d.file == f) (sym is.file_is)

  by_name : (e : Entry) (d : Declared) → IsEntry names e d → bytes_eq e.name bytes ≡ (d.name == name)
  by_name e d h = name_bytes names d.name name e.name bytes distinct h.name_is at

  named_same : (space : Space) (e : Entry) (d : Declared) → IsEntry names e d
      → (is_in space e.meaning && (e.file == p.file && ends_with p.scope e.scope) && bytes_eq e.name bytes)
      ≡ is_named v.file v.scope space name d
  named_same space e d h =
      ap (λ b. b && (e.file == p.file && ends_with p.scope e.scope) && bytes_eq e.name bytes) (in_space space e d h)
      ∙ (ap (λ b. is_of space d.space && (b && ends_with p.scope e.scope) && bytes_eq e.name bytes) (in_file e d h)
      ∙ (ap (λ s. is_of space d.space && (d.file == v.file && ends_with s e.scope) && bytes_eq e.name bytes)
      (sym is.scope_is)
      ∙ (ap (λ s. is_of space d.space && (d.file == v.file && ends_with v.scope s) && bytes_eq e.name bytes)
      (sym h.scope_is)
      ∙ ap (λ b. is_of space d.space && (d.file == v.file && ends_with v.scope d.scope) && b) (by_name e d h))))

  innermost_same : (space : Space) (e : Entry) (d : Declared) → IsEntry names e d
      → is_in_scope space p bytes e ≡ is_innermost v.file v.scope space name d
  innermost_same space e d h =
      ap (λ b. b && e.file == p.file && bytes_eq e.scope p.scope && bytes_eq e.name bytes) (in_space space e d h)
      ∙ (ap (λ b. is_of space d.space && b && bytes_eq e.scope p.scope && bytes_eq e.name bytes) (in_file e d h)
      ∙ (ap (λ s. is_of space d.space && d.file == v.file && bytes_eq e.scope s && bytes_eq e.name bytes)
      (sym is.scope_is)
      ∙ (ap (λ s. is_of space d.space && d.file == v.file && bytes_eq s v.scope && bytes_eq e.name bytes)
      (sym h.scope_is)
      ∙ ap (λ b. is_of space d.space && d.file == v.file && bytes_eq d.scope v.scope && b) (by_name e d h))))

  pub means_same : MeansSame p v bytes name
  means_same =
      record {
        in_sight = λ space.
            latest_same names
            (λ e. is_in space e.meaning && (e.file == p.file && ends_with p.scope e.scope) && bytes_eq e.name bytes)
            (is_named v.file v.scope space name) (named_same space) p.declared v.declared is.declared;
        innermost = λ space.
            latest_same names (is_in_scope space p bytes) (is_innermost v.file v.scope space name)
            (innermost_same space) p.declared v.declared is.declared;
        tag =
            latest_same names (is_in_scope Tag p bytes) (is_innermost v.file v.scope Tag name) (innermost_same Tag)
            p.declared v.declared is.declared;
      }

-- linkages ------------------------------------------------------------------------------------------------------------

entry-later : (names : List (List ℕ)) (test : LinkedName → Bool) (fs : List Entry) (ds : List LinkedName)
    → AreLinked names fs ds → (e : Entry) (es : List Entry) → length fs ≤ length es
    → entry_of es (latest_entry test ds) ≡ entry_of (e ∷ es) (latest_entry test ds)
entry-later names test [] [] h e es below = refl
entry-later names test [] (d ∷ ds) h e es below = absurd h
entry-later names test (f ∷ fs) [] h e es below = refl
entry-later names test (f ∷ fs) (d ∷ ds) (inl h) e es below =
    entry-later names test fs (d ∷ ds) h.1 e es (omega (arith, below))
entry-later names test (f ∷ fs) (d ∷ ds) (inr h) e es below =
    let count : d.entry ≡ length fs = h.0.entry_is in
    later-by (test d) e es d.entry (latest_entry test ds) (omega (arith, below, count))
    (entry-later names test fs ds h.1 e es (omega (arith, below)))

left-out : (test : Entry → Bool) (e : Entry) (es : List Entry) → test e ≡ false
    → latest test (e ∷ es) ≡ latest test es
left-out test e es none = ap (λ b. if b then Some e else latest test es) none

linked_same : (names : List (List ℕ)) (test : Entry → Bool) (also : LinkedName → Bool)
    → ((n : ℕ) (e : Entry) (d : LinkedName) → IsLinkedEntry names n e d → test e ≡ also d)
    → ((e : Entry) → is_linked (linkage_of e.meaning) ≡ false → test e ≡ false) → (es : List Entry)
    → (ds : List LinkedName) → AreLinked names es ds → latest test es ≡ entry_of es (latest_entry also ds)
linked_same names test also each none [] [] h = refl
linked_same names test also each none [] (d ∷ ds) h = absurd h
linked_same names test also each none (e ∷ es) [] h =
    left-out test e es (none e h.0) ∙ linked_same names test also each none es [] h.1
linked_same names test also each none (e ∷ es) (d ∷ ds) (inl h) =
    left-out test e es (none e h.0)
    ∙ (linked_same names test also each none es (d ∷ ds) h.1
    ∙ entry-later names also es (d ∷ ds) h.1 e es (omega arith))
linked_same names test also each none (e ∷ es) (d ∷ ds) (inr h) =
    ap (λ b. if b then Some e else latest test es) (each (length es) e d h.0)
    ∙ found-step (also d) e es d.entry (latest test es) (latest_entry also ds) h.0.entry_is
    (linked_same names test also each none es ds h.1 ∙ entry-later names also es ds h.1 e es (omega arith))

-- without linkage it isn't external either
no-linkage : (l : Linkage) → is_linked l ≡ false → is_external l ≡ false
no-linkage NoLinkage h = refl
no-linkage Internal h = refl
no-linkage External h = absurd (true≢false h)

never : (n x l f : Bool) → (n && ((x && false) || (l && false && f))) ≡ false
never true true true f = refl
never true true false f = refl
never true false true f = refl
never true false false f = refl
never false x l f = refl

none_without : (e x : Entry) → is_linked (linkage_of x.meaning) ≡ false → are_one e x ≡ false
none_without e x h =
    let name = bytes_eq e.name x.name in
    let outside = is_external (linkage_of e.meaning) in
    let any = is_linked (linkage_of e.meaning) in
    ap (λ b. name && ((outside && b) || (any && is_linked (linkage_of x.meaning) && e.file == x.file)))
    (no-linkage (linkage_of x.meaning) h)
    ∙ (ap (λ b. name && ((outside && false) || (any && b && e.file == x.file))) h
    ∙ never name outside any (e.file == x.file))

same-number : (m n : ℕ) → (m == n) ≡ (n == m)
same-number m n =
    same_from_decides (m == n) (n == m) (λ e. eqb-true m n e, λ e. eq-eqb m n e) (
      λ e. sym (eqb-true n m e),
      λ e. eq-eqb n m (sym e),
    )

one_same : (names : List (List ℕ)) (file name number : ℕ) (e x : Entry) (d : LinkedName) → AreDistinct names
    → e.file ≡ file → IsName names name e.name → is_linked (linkage_of e.meaning) ≡ true
    → IsLinkedEntry names number x d → are_one e x ≡ is_one file name (is_external (linkage_of e.meaning)) d
one_same names file name number e x d distinct file_is at linked h =
    let outside = is_external (linkage_of e.meaning) in
    let l = linkage_of x.meaning in
    let is_name : bytes_eq e.name x.name ≡ (d.name == name) =
    bytes_eq-sym e.name x.name ∙ name_bytes names d.name name x.name e.name distinct h.name_is at in
    let in_one : (e.file == x.file) ≡ (d.file == file) =
    same-number e.file x.file ∙ (ap (λ f. f == e.file) (sym h.file_is) ∙ ap (λ f. d.file == f) file_is) in
    ap (λ b. b && ((outside && is_external l) || (is_linked (linkage_of e.meaning) && is_linked l && e.file == x.file)))
    is_name
    ∙ (ap (λ b. d.name == name && ((outside && is_external l) || (b && is_linked l && e.file == x.file))) linked
    ∙ (ap (λ k. d.name == name && ((outside && is_external k) || (is_linked k && e.file == x.file))) (sym h.linkage_is)
    ∙ ap (λ b. d.name == name && ((outside && is_external d.linkage) || (is_linked d.linkage && b))) in_one))

elsewhere : (test : Entry → Bool) (e : Entry) (es : List Entry) → AreElsewhere e es
    → beside e test es ≡ latest test es
elsewhere test e [] h = refl
elsewhere test e (d ∷ ds) h =
    ap (λ b. if not b && test d then Some d else beside e test ds) h.0
    ∙ ap (λ r. if test d then Some d else r) (elsewhere test e ds h.1)

pub one_with_same : (names : List (List ℕ)) (es : List Entry) (v : Links) (e : Entry) (name : ℕ) → AreDistinct names
    → AreLinked names es v.declared → e.file ≡ v.file → IsName names name e.name
    → is_linked (linkage_of e.meaning) ≡ true → IsOneWith e es v name
one_with_same names es v e name distinct are file_is at linked =
    let same =
    linked_same names (are_one e) (is_one v.file name (is_external (linkage_of e.meaning)))
    (λ n x d h. one_same names v.file name n e x d distinct file_is at linked h) (none_without e) es v.declared are in
    record { latest_is = same; beside_is = λ h. elsewhere (are_one e) e es h ∙ same }

-- names that are added ------------------------------------------------------------------------------------------------

get-left : (xs ys : List (List ℕ)) (i : ℕ) (b : List ℕ) → slice_get xs i ≡ Some b → slice_get (xs ++ ys) i ≡ Some b
get-left [] ys i b h = grind (arith, h)
get-left (x ∷ xs) ys zero b h = h
get-left (x ∷ xs) ys (suc i) b h = get-left xs ys i b h

still : (names more : List (List ℕ)) → Extends names more → (i : ℕ) (b : List ℕ) → IsName names i b → IsName more i b
still names more ext i b h = subst (λ ns. IsName ns i b) (sym ext.is) (get-left names ext.more i b h)

pub entries_still : (names more : List (List ℕ)) → Extends names more → (es : List Entry) (ds : List Declared)
    → AreEntries names es ds → AreEntries more es ds
entries_still names more ext [] [] h = tt
entries_still names more ext [] (d ∷ ds) h = absurd h
entries_still names more ext (e ∷ es) [] h = absurd h
entries_still names more ext (e ∷ es) (d ∷ ds) h = (
  record {
    file_is = h.0.file_is;
    scope_is = h.0.scope_is;
    name_is = still names more ext d.name e.name h.0.name_is;
    space_is = h.0.space_is;
  },
  entries_still names more ext es ds h.1,
)

pub linked_still : (names more : List (List ℕ)) → Extends names more → (es : List Entry) (ds : List LinkedName)
    → AreLinked names es ds → AreLinked more es ds
linked_still names more ext [] [] h = tt
linked_still names more ext [] (d ∷ ds) h = absurd h
linked_still names more ext (e ∷ es) [] h = (h.0, linked_still names more ext es [] h.1)
linked_still names more ext (e ∷ es) (d ∷ ds) (inl h) = inl (h.0, linked_still names more ext es (d ∷ ds) h.1)
linked_still names more ext (e ∷ es) (d ∷ ds) (inr h) = inr (
  record {
    entry_is = h.0.entry_is;
    file_is = h.0.file_is;
    name_is = still names more ext d.name e.name h.0.name_is;
    linkage_is = h.0.linkage_is;
  },
  linked_still names more ext es ds h.1,
)
