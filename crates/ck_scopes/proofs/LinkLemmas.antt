-- The tables of linkages, and the latest declaration that is one with another.
use Rattle.std.proofs.Common.{◌≡◌, ℕ, suc, ◌+◌, ◌<◌, ◌≤◌, Bool, true, false, List, [], ◌∷◌, length, map, set}
use Rattle.std.proofs.Common.{get_or}
use Rattle.std.proofs.Common.{refl, ap, sym, subst, ◌∙◌, arith}
use Rattle.std.specs.Prelude.{◌&&◌, ◌||◌, ◌==◌, Option, Some, None, if◌then◌else◌, reverse}
use Rattle.std.proofs.lemmas.Bool.{le-leb, lt-leb, eq-eqb, eqb-false, ne_eqb}
use Rattle.std.proofs.lemmas.List.{length-map, length-reverse}
use Rattle.ck_prog.specs.Linking.{is_external, is_linked}
use Rattle.ck_prog.specs.declared.names.Linkage.{Linkage}
use Rattle.ck_scopes.specs.Links.{LinkedName, Links, start, next_file, declaring, is_one, latest_entry}
use Rattle.ck_scopes.specs.LinksKept.{linked_of, links_of, latest_place, is_outside, has_linkage, is_here, later_of}
use Rattle.ck_scopes.specs.LinksKept.{AreAscending, AreNoted}
use Rattle.ck_scopes.specs.Seen.{head}
use Rattle.ck_scopes.specs.declared.linkages.LinkedRow.{LinkedRow}
use Rattle.ck_scopes.proofs.IndexedLemmas.{head_set}
use Rattle.ck_scopes.proofs.NumberLemmas.{at_number, at_reverse}

-- the tables ----------------------------------------------------------------------------------------------------------

pub noted_start : (rows : List LinkedRow) (external linked : List (Option ℕ)) → rows ≡ [] → external ≡ [] → linked ≡ []
    → AreNoted (links_of rows 0) external linked
noted_start rows external linked no_rows no_external no_linked =
    subst (λ rs. AreNoted (links_of rs 0) external linked) (sym no_rows)
    (subst (λ hs. AreNoted start hs linked) (sym no_external)
    (subst (λ hs. AreNoted start [] hs) (sym no_linked)
    (record { outside = λ n. refl; any = λ n. refl; files = tt })))

ascending-more : (m n : ℕ) (ds : List LinkedName) → m ≤ n → AreAscending m ds → AreAscending n ds
ascending-more m n [] h is = tt
ascending-more m n (d ∷ ds) h is = (omega (arith, h, is.0), is.1)

pub noted_next : (v : Links) (external linked : List (Option ℕ)) → AreNoted v external linked
    → AreNoted (next_file v) external linked
noted_next v external linked is =
    record {
      outside = is.outside;
      any = is.any;
      files = ascending-more v.file (v.file + 1) v.declared (omega arith) is.files;
    }

-- room changes no number
pub noted_room : (v : Links) (external linked more others : List (Option ℕ)) → AreNoted v external linked
    → ((n : ℕ) → head more n ≡ head external n) → ((n : ℕ) → head others n ≡ head linked n) → AreNoted v more others
noted_room v external linked more others is same also =
    record { outside = λ n. same n ∙ is.outside n; any = λ n. also n ∙ is.any n; files = is.files }

write-by : (b w : Bool) (v h r : Option ℕ) → h ≡ r → w ≡ true → (if b then v else h) ≡ (if b && w then v else r)
write-by true w v h r e yes_w = sym (ap (λ c. if c then v else r) yes_w)
write-by false w v h r e yes_w = e

keep-by : (b : Bool) (v h r : Option ℕ) → h ≡ r → h ≡ (if b && false then v else r)
keep-by true v h r e = e
keep-by false v h r e = e

write : (w : Bool) (heads : List (Option ℕ)) (m n number : ℕ) (r : Option ℕ) → m < length heads → head heads n ≡ r
    → head (if w then set heads m (Some number) else heads) n ≡ (if m == n && w then Some number else r)
write true heads m n number r below e =
    head_set heads m n (Some number) below ∙ write-by (m == n) true (Some number) (head heads n) r e refl
write false heads m n number r below e = keep-by (m == n) (Some number) (head heads n) r e

pub noted_declared : (v : Links) (external linked : List (Option ℕ)) (entry name number : ℕ) (l : Linkage)
    → AreNoted v external linked → name < length external → name < length linked → number ≡ length v.declared
    → AreNoted (declaring v entry name l)
    (if is_external l then set external name (Some number) else external)
    (if is_linked l then set linked name (Some number) else linked)
noted_declared v external linked entry name number l is below also count =
    record {
      outside = λ n.
          write (is_external l) external name n number (latest_place (is_outside n) v.declared) below (is.outside n)
          ∙ ap (λ k. if name == n && is_external l then Some k else latest_place (is_outside n) v.declared) count;
      any = λ n.
          write (is_linked l) linked name n number (latest_place (has_linkage n) v.declared) also (is.any n)
          ∙ ap (λ k. if name == n && is_linked l then Some k else latest_place (has_linkage n) v.declared) count;
      files = (omega arith, is.files);
    }

-- places --------------------------------------------------------------------------------------------------------------

abbrev pub IsBelow : ℕ → Option ℕ → Type 0
IsBelow n None = Unit {0}
IsBelow n (Some k) = k < n

below-more : (n : ℕ) (r : Option ℕ) → IsBelow n r → IsBelow (suc n) r
below-more n None h = tt
below-more n (Some k) h = omega (arith, h)

below-by : (b : Bool) (n : ℕ) (r : Option ℕ) → IsBelow n r → IsBelow (suc n) (if b then Some n else r)
below-by true n r h = omega arith
below-by false n r h = below-more n r h

pub place_below : (test : LinkedName → Bool) (ds : List LinkedName) → IsBelow (length ds) (latest_place test ds)
place_below test [] = tt
place_below test (d ∷ ds) = below-by (test d) (length ds) (latest_place test ds) (place_below test ds)

-- of a place, where it is of this file
abbrev in_file : ℕ → List LinkedName → LinkedName → Option ℕ → Option ℕ
in_file file ds x None = None
in_file file ds x (Some k) = if (at_number ds k x).file == file then Some k else None

in_file-later : (file : ℕ) (d x : LinkedName) (ds : List LinkedName) (r : Option ℕ) → IsBelow (length ds) r
    → in_file file ds x r ≡ in_file file (d ∷ ds) x r
in_file-later file d x ds None h = refl
in_file-later file d x ds (Some k) h =
    let other : (k == length ds) ≡ false = ne_eqb k (length ds) (λ e. omega (arith, e, h)) in
    sym (ap (λ b. if (if b then d else at_number ds k x).file == file then Some k else None) other)

in_file-first : (file : ℕ) (d x : LinkedName) (ds : List LinkedName)
    → in_file file (d ∷ ds) x (Some (length ds)) ≡ (if d.file == file then Some (length ds) else None)
in_file-first file d x ds =
    ap (λ b. if (if b then d else at_number ds (length ds) x).file == file then Some (length ds) else None)
    (eq-eqb (length ds) (length ds) refl)

none-by : (a l : Bool) → (a && (l && false)) ≡ false
none-by true true = refl
none-by true false = refl
none-by false l = refl

-- of a later file there is none yet
here-none : (file g name : ℕ) (ds : List LinkedName) → g < file → AreAscending g ds
    → latest_place (is_here file name) ds ≡ None
here-none file g name [] less is = refl
here-none file g name (d ∷ ds) less is =
    let other : (d.file == file) ≡ false = ne_eqb d.file file (λ e. omega (arith, e, less, is.0)) in
    let rest = latest_place (is_here file name) ds in
    ap (λ b. if d.name == name && (is_linked d.linkage && b) then Some (length ds) else rest) other
    ∙ (ap (λ b. if b then Some (length ds) else rest) (none-by (d.name == name) (is_linked d.linkage))
    ∙ here-none file d.file name ds (omega (arith, less, is.0)) is.1)

here-step : (a l f : Bool) (n : ℕ) (rest found : Option ℕ) (file : ℕ) (d x : LinkedName) (ds : List LinkedName)
    → n ≡ length ds → (d.file == file) ≡ f → rest ≡ in_file file (d ∷ ds) x found → (f ≡ false → rest ≡ None)
    → (if a && (l && f) then Some n else rest) ≡ in_file file (d ∷ ds) x (if a && l then Some n else found)
here-step true true true n rest found file d x ds count is more none =
    ap Some count ∙ sym (ap (λ k. in_file file (d ∷ ds) x (Some k)) count
    ∙ (in_file-first file d x ds ∙ ap (λ b. if b then Some (length ds) else None) is))
here-step true true false n rest found file d x ds count is more none =
    none refl ∙ sym (ap (λ k. in_file file (d ∷ ds) x (Some k)) count
    ∙ (in_file-first file d x ds ∙ ap (λ b. if b then Some (length ds) else None) is))
here-step true false f n rest found file d x ds count is more none = more
here-step false l f n rest found file d x ds count is more none = more

-- files ascend, so the latest of this file is the latest of all, if that is of this file
pub here_is : (file name : ℕ) (x : LinkedName) (ds : List LinkedName) → AreAscending file ds
    → latest_place (is_here file name) ds ≡ in_file file ds x (latest_place (has_linkage name) ds)
here_is file name x [] is = refl
here_is file name x (d ∷ ds) is =
    let found = latest_place (has_linkage name) ds in
    here-step (d.name == name) (is_linked d.linkage) (d.file == file) (length ds) (latest_place (is_here file name) ds)
    found file d x ds refl refl
    (here_is file name x ds (ascending-more d.file file ds is.0 is.1)
    ∙ in_file-later file d x ds found (place_below (has_linkage name) ds))
    (λ e. let ne = eqb-false d.file file e in here-none file d.file name ds (omega (arith, ne, is.0)) is.1)

-- in any file, or here ------------------------------------------------------------------------------------------------

later-first : (n : ℕ) (r : Option ℕ) → IsBelow n r → Some n ≡ later_of (Some n) r
later-first n None h = refl
later-first n (Some k) h = sym (ap (λ b. if b then Some k else Some n) (lt-leb n k h))

later-second : (n : ℕ) (r : Option ℕ) → IsBelow n r → Some n ≡ later_of r (Some n)
later-second n None h = refl
later-second n (Some k) h = sym (ap (λ b. if b then Some n else Some k) (le-leb k n (omega (arith, h))))

later-both : (n : ℕ) → Some n ≡ later_of (Some n) (Some n)
later-both n = sym (ap (λ b. if b then Some n else Some n) (le-leb n n (omega arith)))

one-step : (a e h : Bool) (n : ℕ) (rest here any : Option ℕ) → rest ≡ later_of here any → IsBelow n here → IsBelow n any
    → (if a && (e || h) then Some n else rest)
    ≡ later_of (if a && h then Some n else here) (if a && e then Some n else any)
one-step false e h n rest here any more below also = more
one-step true true true n rest here any more below also = later-both n
one-step true true false n rest here any more below also = later-second n here below
one-step true false true n rest here any more below also = later-first n any also
one-step true false false n rest here any more below also = more

pub one_is : (file name : ℕ) (ds : List LinkedName)
    → latest_place (is_one file name true) ds
    ≡ later_of (latest_place (is_here file name) ds) (latest_place (is_outside name) ds)
one_is file name [] = refl
one_is file name (d ∷ ds) =
    one-step (d.name == name) (is_external d.linkage) (is_linked d.linkage && d.file == file) (length ds)
    (latest_place (is_one file name true) ds) (latest_place (is_here file name) ds) (latest_place (is_outside name) ds)
    (one_is file name ds) (place_below (is_here file name) ds) (place_below (is_outside name) ds)

-- entries -------------------------------------------------------------------------------------------------------------

-- the entry of a place
abbrev entry_in : List LinkedName → LinkedName → Option ℕ → Option ℕ
entry_in ds x None = None
entry_in ds x (Some k) = Some (at_number ds k x).entry

entry-later : (d x : LinkedName) (ds : List LinkedName) (r : Option ℕ) → IsBelow (length ds) r
    → entry_in ds x r ≡ entry_in (d ∷ ds) x r
entry-later d x ds None h = refl
entry-later d x ds (Some k) h =
    let other : (k == length ds) ≡ false = ne_eqb k (length ds) (λ e. omega (arith, e, h)) in
    sym (ap (λ b. Some (if b then d else at_number ds k x).entry) other)

entry-step : (b : Bool) (d x : LinkedName) (ds : List LinkedName) (rest found : Option ℕ)
    → rest ≡ entry_in (d ∷ ds) x found
    → (if b then Some d.entry else rest) ≡ entry_in (d ∷ ds) x (if b then Some (length ds) else found)
entry-step true d x ds rest found more =
    sym (ap (λ b. Some (if b then d else at_number ds (length ds) x).entry) (eq-eqb (length ds) (length ds) refl))
entry-step false d x ds rest found more = more

entry_is : (test : LinkedName → Bool) (x : LinkedName) (ds : List LinkedName)
    → latest_entry test ds ≡ entry_in ds x (latest_place test ds)
entry_is test x [] = refl
entry_is test x (d ∷ ds) =
    entry-step (test d) d x ds (latest_entry test ds) (latest_place test ds)
    (entry_is test x ds ∙ entry-later d x ds (latest_place test ds) (place_below test ds))

at-map-by : (b : Bool) (r x : LinkedRow) (rows : List LinkedRow) (k : ℕ)
    → at_number (map linked_of rows) k (linked_of x) ≡ linked_of (at_number rows k x)
    → (if b then linked_of r else at_number (map linked_of rows) k (linked_of x))
    ≡ linked_of (if b then r else at_number rows k x)
at-map-by true r x rows k e = refl
at-map-by false r x rows k e = e

at-map : (rows : List LinkedRow) (k : ℕ) (x : LinkedRow)
    → at_number (map linked_of rows) k (linked_of x) ≡ linked_of (at_number rows k x)
at-map [] k x = refl
at-map (r ∷ rows) k x =
    ap (λ n. if k == n then linked_of r else at_number (map linked_of rows) k (linked_of x)) (length-map rows linked_of)
    ∙ at-map-by (k == length rows) r x rows k (at-map rows k x)

-- the row of a place
pub row_is : (rows : List LinkedRow) (k : ℕ) (r : LinkedRow) → k < length rows → r ≡ get_or rows k r
    → at_number (map linked_of (reverse rows)) k (linked_of r) ≡ linked_of r
row_is rows k r below e = at-map (reverse rows) k r ∙ ap linked_of (at_reverse rows k r below ∙ sym e)

length-links : (rows : List LinkedRow) → length (map linked_of (reverse rows)) ≡ length rows
length-links rows = length-map (reverse rows) linked_of ∙ length-reverse rows

pub count_links : (rows : List LinkedRow) (n : ℕ) → n ≡ length rows → n ≡ length (map linked_of (reverse rows))
count_links rows n e = e ∙ sym (length-links rows)

pub place_within : (rows : List LinkedRow) (test : LinkedName → Bool) (k : ℕ)
    → Some k ≡ latest_place test (map linked_of (reverse rows)) → k < length rows
place_within rows test k e =
    let ds = map linked_of (reverse rows) in
    let below : IsBelow (length ds) (Some k) = subst (IsBelow (length ds)) (sym e) (place_below test ds) in
    omega (arith, below, length-links rows)

-- what is read of the rows
pub here_read : (rows : List LinkedRow) (file name k : ℕ) (r : LinkedRow)
    → AreAscending file (map linked_of (reverse rows))
    → Some k ≡ latest_place (has_linkage name) (map linked_of (reverse rows)) → r ≡ get_or rows k r
    → latest_place (is_here file name) (map linked_of (reverse rows)) ≡ (if r.file == file then Some k else None)
here_read rows file name k r is found e =
    let ds = map linked_of (reverse rows) in
    let within = place_within rows (has_linkage name) k found in
    here_is file name (linked_of r) ds is
    ∙ (ap (in_file file ds (linked_of r)) (sym found)
    ∙ ap (λ (d : LinkedName). if d.file == file then Some k else None) (row_is rows k r within e))

pub here_missing : (rows : List LinkedRow) (file name : ℕ) (x : LinkedName)
    → AreAscending file (map linked_of (reverse rows))
    → None ≡ latest_place (has_linkage name) (map linked_of (reverse rows))
    → None ≡ latest_place (is_here file name) (map linked_of (reverse rows))
here_missing rows file name x is none =
    let ds = map linked_of (reverse rows) in
    sym (here_is file name x ds is ∙ ap (in_file file ds x) (sym none))

pub entry_read : (rows : List LinkedRow) (test : LinkedName → Bool) (k : ℕ) (r : LinkedRow)
    → Some k ≡ latest_place test (map linked_of (reverse rows)) → r ≡ get_or rows k r
    → Some r.entry.0 ≡ latest_entry test (map linked_of (reverse rows))
entry_read rows test k r found e =
    let ds = map linked_of (reverse rows) in
    let within = place_within rows test k found in
    sym (entry_is test (linked_of r) ds
    ∙ (ap (entry_in ds (linked_of r)) (sym found)
    ∙ ap (λ (d : LinkedName). Some d.entry) (row_is rows k r within e)))

pub entry_missing : (test : LinkedName → Bool) (x : LinkedName) (ds : List LinkedName) → None ≡ latest_place test ds
    → None ≡ latest_entry test ds
entry_missing test x ds none = sym (entry_is test x ds ∙ ap (entry_in ds x) (sym none))
