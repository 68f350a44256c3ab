-- The row of one call.
use Rattle.std.proofs.Common.{◌≡◌, ℕ, true, false, List, [], ◌∷◌, ◌++◌, map, Option, Some, cond, refl, sym, ap, ◌∙◌}
use Rattle.std.proofs.Common.{append-nil}
use Rattle.std.proofs.lemmas.List.{map-append}
use Rattle.std.specs.Option.{option_map}
use Rattle.ck_base.specs.declared.tokens.Token.{Token}
use Rattle.ck_call_rows.specs.TypedRows.{project}
use Rattle.ck_call_rows.specs.Walks.{tables, tree, Shown, shown, expected, expected_rows, AreUsed, Adds, IsSite, Tells}
use Rattle.ck_call_rows.specs.declared.callees.Called.{Called}
use Rattle.ck_call_rows.specs.declared.walk.Walk.{Walk}
use Rattle.ck_prog.specs.Calls.{CallSite, CallKind, call_kind, is_numbered}
use Rattle.ck_prog.specs.Paths as part
use Rattle.ck_prog.specs.Paths.{Path, below}
use Rattle.ck_tables.specs.Program.{functions}
use Rattle.ck_tables.specs.ProgramRows.{NumberedCall, call_at, call_of, kind_by, with_kind}
use Rattle.ck_tables.specs.declared.facts.EntryId.{EntryId}
use Rattle.ck_tables.specs.declared.program.Linked.{Linked}
use Rattle.ck_tables.specs.declared.program_rows.CallInfo.{CallInfo}
use Rattle.ck_tables.specs.declared.program_rows.ProgramRows.{ProgramRows}

abbrev made : ℕ → Path → Token → Option NumberedCall → Shown
made i π first call = record { place = record { function = i; path = π }; first = first; call = call }

abbrev numbered_as : CallSite → CallKind → NumberedCall
numbered_as c kind = record { site = c; kind = kind }

-- a row with these fields says what it is to say
row-shown : (l : Linked) (r : ProgramRows) (row : CallInfo) (π : Path) (called : Called) (c : CallSite)
    → IsSite l π called c → row.node ≡ called.of → row.path.items ≡ π → row.suffix ≡ called.suffix
    → row.first ≡ called.first → kind_by row.callee c ≡ call_kind (project l r) (functions l) c
    → shown l row ≡ expected l r row.function.0 c
unfolding shown call_of
row-shown l r row π called c site of path suffix begins kind =
    let i = row.function.0 in
    let k = called.suffix in
    let x = tree l called.of.0 in
    let with = option_map (with_kind row.callee) in
    ap (λ n. made i (below row.path.items (part.Suffix row.suffix)) row.first
    (with (call_at row.path.items row.suffix (tree l n.0)))) of
    ∙ ap (λ p. made i (below p (part.Suffix row.suffix)) row.first (with (call_at p row.suffix x))) path
    ∙ ap (λ n. made i (below π (part.Suffix n)) row.first (with (call_at π n x))) suffix
    ∙ ap (λ p. made i p row.first (with (call_at π k x))) (sym site.path)
    ∙ ap (λ t. made i c.path t (with (call_at π k x))) (begins ∙ sym site.begins)
    ∙ ap (λ o. made i c.path c.first (with o)) site.found
    ∙ ap (λ y. made i c.path c.first (Some (numbered_as c y))) kind

expected_rows-one : (l : Linked) (r : ProgramRows) (i : ℕ) (c : CallSite) → is_numbered (project l r) c ≡ true
    → expected_rows l r i (c ∷ []) ≡ expected l r i c ∷ []
unfolding expected_rows
expected_rows-one l r i c e = ap (λ b. map (expected l r i) (cond b (c ∷ []) [])) e

expected_rows-act : (l : Linked) (r : ProgramRows) (i : ℕ) (c : CallSite) → is_numbered (project l r) c ≡ false
    → expected_rows l r i (c ∷ []) ≡ []
unfolding expected_rows
expected_rows-act l r i c e = ap (λ b. map (expected l r i) (cond b (c ∷ []) [])) e

module _ (w : Walk) (old new : List CallInfo) where
  -- a call that is an act has no row
  pub adds_act : (c : CallSite)
      → ((r : ProgramRows) → AreUsed (tables w) w r → is_numbered (project (tables w) r) c ≡ false)
      → old ≡ new → Adds w old new (c ∷ [])
  adds_act c act same =
      record {
        is =
            λ r used.
            let l = tables w in
            ap (map (shown l)) (sym same) ∙ sym (append-nil (map (shown l) old))
            ∙ ap (λ es. map (shown l) old ++ es) (sym (expected_rows-act l r w.function.0 c (act r used)));
      }

  -- and any other has this one
  pub adds_row : (row : CallInfo) (π : Path) (called : Called) (c : CallSite) → IsSite (tables w) π called c
      → row.node ≡ called.of → row.path.items ≡ π → row.suffix ≡ called.suffix → row.first ≡ called.first
      → row.function ≡ w.function
      → ((r : ProgramRows) → AreUsed (tables w) w r → Tells (tables w) r c (Some row.callee))
      → new ≡ old ++ (row ∷ []) → Adds w old new (c ∷ [])
  adds_row row π called c site of path suffix begins own tells e =
      record {
        is =
            λ r used.
            let l = tables w in
            let t = tells r used in
            ap (map (shown l)) e ∙ map-append (shown l) old (row ∷ [])
            ∙ ap (λ s. map (shown l) old ++ (s ∷ []))
            (row-shown l r row π called c site of path suffix begins t.1 ∙ ap (λ f. expected l r f.0 c) own)
            ∙ ap (λ es. map (shown l) old ++ es) (sym (expected_rows-one l r w.function.0 c t.0));
      }
