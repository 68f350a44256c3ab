-- What the numbers of a table stand for: each its node over the entries before it; a table that grows keeps them.
use Rattle.std.proofs.Common.{◌≡◌, ℕ, zero, suc, ◌+◌, ◌<◌, true, List, [], ◌∷◌, ◌++◌, length, get_or}
use Rattle.std.proofs.Common.{refl, ap, sym, ◌∙◌, arith}
use Rattle.std.proofs.lemmas.Bool.{and_parts}
use Rattle.ck_types.specs.TypeTable.{Entry, entries_after, entries_of, entry_at, entry_of}
use Rattle.ck_types.specs.TypeTable.{fits, fits_after, fits_type, list_at, names_list, names_type, plain_qualifiers}
use Rattle.ck_types.specs.TypeTable.{as_list, as_type, type_at, type_of, AType, AList}
use Rattle.ck_types.specs.TableLaws.{NumbersStandForTypes, TablesKeepNumbers}
use Rattle.ck_types.specs.Types.{Array, Function, Parameter, Pointer, StructIdentity}
use Rattle.ck_types.specs.declared.types.CType.{CType}
use Rattle.ck_types.specs.declared.types.CType.TheVariants as types
use Rattle.ck_types.specs.declared.types.Node.{Node}
use Rattle.ck_types.specs.declared.types.Node.TheVariants as nodes
use Rattle.ck_types.proofs.Tables.{list-there, type-there}

entry-first : (es fs : List Entry) (i : ℕ) → i < length es → entry_at (es ++ fs) i ≡ entry_at es i
entry-first [] fs i h = absurd (omega arith)
entry-first (e ∷ es) fs zero h = refl
entry-first (e ∷ es) fs (suc i) h = entry-first es fs i (omega arith)

entry-last : (es : List Entry) (e : Entry) → entry_at (es ++ e ∷ []) (length es) ≡ e
entry-last [] e = refl
entry-last (f ∷ es) e = entry-last es e

longer : (es : List Entry) (e : Entry) → length (es ++ e ∷ []) ≡ suc (length es)
longer [] e = refl
longer (f ∷ es) e = ap suc (longer es e)

longer-nodes : (ns : List Node) (n : Node) → length (ns ++ n ∷ []) ≡ suc (length ns)
longer-nodes [] n = refl
longer-nodes (m ∷ ns) n = ap suc (longer-nodes ns n)

module _ (identity : ℕ → StructIdentity) where
  -- what was there stays
  after-first : (done : List Entry) (ns : List Node) (i : ℕ) → i < length done
      → entry_at (entries_after identity done ns) i ≡ entry_at done i
  after-first done [] i h = refl
  after-first done (n ∷ ns) i h =
      let e = longer done (entry_of identity done n) in
      after-first (done ++ entry_of identity done n ∷ []) ns i (omega (arith, e, h))
      ∙ entry-first done (entry_of identity done n ∷ []) i h

  type-first : (done : List Entry) (before ns : List Node) (i : ℕ) → length done ≡ length before
      → names_type before i ≡ true → type_at (entries_after identity done ns) i ≡ type_at done i
  type-first done before ns i same h = ap as_type
      (after-first done ns i (omega (arith, same, type-there before i h)))

  list-first : (done : List Entry) (before ns : List Node) (i : ℕ) → length done ≡ length before
      → names_list before i ≡ true → list_at (entries_after identity done ns) i ≡ list_at done i
  list-first done before ns i same h = ap as_list
      (after-first done ns i (omega (arith, same, list-there before i h)))

  -- so a node that names what is before it alone stands for what it stood for then
  type-kept : (done : List Entry) (before ns : List Node) (t : CType) → length done ≡ length before
      → fits_type before t ≡ true → type_of identity (entries_after identity done ns) t ≡ type_of identity done t
  type-kept done before ns types.Void same h = refl
  type-kept done before ns (types.Integer t) same h = refl
  type-kept done before ns (types.Pointer q to) same h = ap (Pointer (plain_qualifiers q))
      (type-first done before ns to.0 same h)
  type-kept done before ns (types.Array q of count) same h = ap (λ t. Array (plain_qualifiers q) t count)
      (type-first done before ns of.0 same h)
  type-kept done before ns (types.Struct s) same h = refl
  type-kept done before ns (types.Function q result parameters variadic) same h =
      let parts = and_parts (names_type before result.0) (names_list before parameters.0) h in
      ap (λ t. Function (plain_qualifiers q) t (list_at (entries_after identity done ns) parameters.0) variadic)
      (type-first done before ns result.0 same parts.0)
      ∙ ap (λ ps. Function (plain_qualifiers q) (type_at done result.0) ps variadic)
      (list-first done before ns parameters.0 same parts.1)

  entry-kept : (done : List Entry) (before ns : List Node) (n : Node) → length done ≡ length before
      → fits before n ≡ true → entry_of identity (entries_after identity done ns) n ≡ entry_of identity done n
  entry-kept done before ns (nodes.Type t) same h = ap AType (type-kept done before ns t same h)
  entry-kept done before ns nodes.NoParameters same h = refl
  entry-kept done before ns (nodes.Parameter first rest) same h =
      let parts = and_parts (names_type before first.0) (names_list before rest.0) h in
      ap (λ t. AList (Parameter t (list_at (entries_after identity done ns) rest.0)))
      (type-first done before ns first.0 same parts.0)
      ∙ ap (λ ps. AList (Parameter (type_at done first.0) ps)) (list-first done before ns rest.0 same parts.1)

  node-stands : (done : List Entry) (before ns : List Node) (i : ℕ) (d : Node) → length done ≡ length before
      → i < length ns → fits_after before ns ≡ true → entry_at (entries_after identity done ns) (length done + i)
      ≡ entry_of identity (entries_after identity done ns) (get_or ns i d)
  node-stands done before [] i d same h fit = absurd (omega arith)
  node-stands done before (n ∷ ns) zero d same h fit =
      let e = longer done (entry_of identity done n) in
      let parts = and_parts (fits before n) (fits_after (before ++ n ∷ []) ns) fit in
      let here : length done + 0 ≡ length done = omega arith in
      ap (entry_at (entries_after identity done (n ∷ ns))) here
      ∙ after-first (done ++ entry_of identity done n ∷ []) ns (length done) (omega (arith, e))
      ∙ entry-last done (entry_of identity done n)
      ∙ sym (entry-kept done before (n ∷ ns) n same parts.0)
  node-stands done before (n ∷ ns) (suc i) d same h fit =
      let e = longer done (entry_of identity done n) in
      let parts = and_parts (fits before n) (fits_after (before ++ n ∷ []) ns) fit in
      let more = longer-nodes before n in
      let there : length done + suc i ≡ length (done ++ entry_of identity done n ∷ []) + i = omega (arith, e) in
      ap (entry_at (entries_after identity done (n ∷ ns))) there
      ∙ node-stands (done ++ entry_of identity done n ∷ []) (before ++ n ∷ []) ns i d (omega (arith, e, more, same))
      (omega arith) parts.1

  entries-length : (done : List Entry) (ns : List Node)
      → length (entries_after identity done ns) ≡ length done + length ns
  entries-length done [] = omega arith
  entries-length done (n ∷ ns) =
      let e = longer done (entry_of identity done n) in
      omega (arith, e, entries-length (done ++ entry_of identity done n ∷ []) ns)

  entries-append : (done : List Entry) (ns more : List Node)
      → entries_after identity done (ns ++ more) ≡ entries_after identity (entries_after identity done ns) more
  entries-append done [] more = refl
  entries-append done (n ∷ ns) more = entries-append (done ++ entry_of identity done n ∷ []) ns more

pub numbers-stand : NumbersStandForTypes
unfolding entries_of
numbers-stand identity ns i n table node =
    let here : 0 + i ≡ i = omega arith in
    ap (entry_at (entries_after identity [] ns)) (sym here)
    ∙ node-stands identity [] [] ns i n refl node.within table.fitting
    ∙ ap (entry_of identity (entries_after identity [] ns)) (node.is n)

pub numbers-kept : TablesKeepNumbers
unfolding entries_of
numbers-kept identity old new i grown within =
    let size = entries-length identity [] old in
    ap (λ ns. entry_at (entries_after identity [] ns) i) grown.is
    ∙ ap (λ es. entry_at es i) (entries-append identity [] old grown.more)
    ∙ after-first identity (entries_after identity [] old) grown.more i (omega (arith, size, within))
