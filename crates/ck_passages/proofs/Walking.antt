-- A walk along a chain or a row of suffixes, from its last operator or suffix to its first operand.
use Rattle.std.proofs.Common.{◌≡◌, ◌<◌, ◌≤◌, ℕ, ◌*◌, Bool, true, false, List, [], ◌∷◌}
use Rattle.std.proofs.Common.{◌++◌, length, refl, ap, ◌∙◌, arith}
use Rattle.std.specs.List.{list_all}
use Rattle.std.specs.Prelude.{if◌then◌else◌, nat_lt, ◌&&◌}
use Rattle.ck_passages.specs.Drawing.{draw}
use Rattle.ck_passages.specs.Operands.{value, chain_value, row_value, link_value, step_value}
use Rattle.ck_passages.specs.Operands.{arguments_depth, step_depth}
use Rattle.ck_passages.specs.Points.{Drawn}
use Rattle.ck_passages.proofs.Rows.{links_value-last, steps_value-last}
use Rattle.ck_prog.specs.Paths as part
use Rattle.ck_prog.specs.Paths.{Path, below}
use Rattle.ck_tables.specs.ExprTable.{links_below, steps_below, step_below, arguments_below}
use Rattle.ck_tables.specs.declared.exprs.ExprId.{ExprId}
use Rattle.ck_tables.specs.declared.exprs.Link.{Link}
use Rattle.ck_tables.specs.declared.exprs.Step.{Step}
use Rattle.ck_tables.specs.declared.exprs.Step.TheVariants as steps
use Rattle.ck_tables.specs.declared.program.Linked.{Linked}

-- what remains to be drawn --------------------------------------------------------------------------------------------

left_when_done : (b : Bool) (d e : Drawn) → b ≡ true → (if b then d else e) ≡ d
left_when_done true d e h = refl
left_when_done false d e h = absurd (cc)

left_when_not : (b : Bool) (d e : Drawn) → b ≡ false → (if b then d else e) ≡ e
left_when_not false d e h = refl
left_when_not true d e h = absurd (cc)

-- `all` is what there is when everything is drawn
module _ (l : Linked) (orders : List ℕ) (π : Path) (first : ExprId) (all d e : Drawn) (done : Bool) where
  last_link : (ls rest : List Link) (x : Link) → ls ≡ rest ++ (x ∷ []) →
      draw orders (chain_value l π first ls).evaluation d
      ≡ draw orders (link_value l π (length rest) (chain_value l π first rest) x).evaluation d
  last_link ls rest x same =
      ap (λ xs. draw orders (chain_value l π first xs).evaluation d) same
      ∙ ap (λ v. draw orders v.evaluation d)
      (links_value-last l π 0 (length rest) (value l (below π (part.Operand 0)) first) rest x (omega arith))

  pub chain-goes_on : (ls rest : List Link) (x : Link) → ls ≡ rest ++ (x ∷ []) →
      all ≡ draw orders (chain_value l π first ls).evaluation d →
      draw orders (link_value l π (length rest) (chain_value l π first rest) x).evaluation d
      ≡ (if done then e else draw orders (chain_value l π first rest).evaluation e) →
      done ≡ false → all ≡ draw orders (chain_value l π first rest).evaluation e
  chain-goes_on ls rest x same before drawn h =
      before ∙ last_link ls rest x same ∙ drawn ∙ left_when_not done e _ h

  pub chain-ends : (ls rest : List Link) (x : Link) → ls ≡ rest ++ (x ∷ []) →
      all ≡ draw orders (chain_value l π first ls).evaluation d →
      draw orders (link_value l π (length rest) (chain_value l π first rest) x).evaluation d
      ≡ (if done then e else draw orders (chain_value l π first rest).evaluation e) →
      done ≡ true → all ≡ e
  chain-ends ls rest x same before drawn h =
      before ∙ last_link ls rest x same ∙ drawn ∙ left_when_done done e _ h

  last_step : (ss rest : List Step) (s : Step) → ss ≡ rest ++ (s ∷ []) →
      draw orders (row_value l π first ss).evaluation d
      ≡ draw orders (step_value l (below π (part.Suffix (length rest))) (row_value l π first rest) s).evaluation d
  last_step ss rest s same =
      ap (λ xs. draw orders (row_value l π first xs).evaluation d) same
      ∙ ap (λ v. draw orders v.evaluation d)
      (steps_value-last l π 0 (length rest) (value l (below π part.Primary) first) rest s (omega arith))

  pub row-goes_on : (ss rest : List Step) (s : Step) → ss ≡ rest ++ (s ∷ []) →
      all ≡ draw orders (row_value l π first ss).evaluation d →
      draw orders (step_value l (below π (part.Suffix (length rest))) (row_value l π first rest) s).evaluation d
      ≡ (if done then e else draw orders (row_value l π first rest).evaluation e) →
      done ≡ false → all ≡ draw orders (row_value l π first rest).evaluation e
  row-goes_on ss rest s same before drawn h =
      before ∙ last_step ss rest s same ∙ drawn ∙ left_when_not done e _ h

  pub row-ends : (ss rest : List Step) (s : Step) → ss ≡ rest ++ (s ∷ []) →
      all ≡ draw orders (row_value l π first ss).evaluation d →
      draw orders (step_value l (below π (part.Suffix (length rest))) (row_value l π first rest) s).evaluation d
      ≡ (if done then e else draw orders (row_value l π first rest).evaluation e) →
      done ≡ true → all ≡ e
  row-ends ss rest s same before drawn h =
      before ∙ last_step ss rest s same ∙ drawn ∙ left_when_done done e _ h

-- which numbers are named ---------------------------------------------------------------------------------------------

both : (a b : Bool) → a && b ≡ true → (a ≡ true) × (b ≡ true)
both true true h = (refl, refl)
both true false h = absurd (cc)
both false b h = absurd (cc)

pub links_below-last : (n : ℕ) (rest : List Link) (x : Link) → links_below n (rest ++ (x ∷ [])) ≡ true →
    (links_below n rest ≡ true) × (x.operand.0 < n)
links_below-last n [] x h = (refl, grind (arith, h))
links_below-last n (y ∷ rest) x h =
    let hs = both (nat_lt y.operand.0 n) (links_below n (rest ++ (x ∷ []))) h in
    let later = links_below-last n rest x hs.1 in
    (grind (arith, hs.0, later.0), later.1)

pub steps_below-last : (n : ℕ) (rest : List Step) (s : Step) → steps_below n (rest ++ (s ∷ [])) ≡ true →
    (steps_below n rest ≡ true) × (step_below n s ≡ true)
steps_below-last n [] s h = (refl, (both _ _ h).0)
steps_below-last n (t ∷ rest) s h =
    let hs = both (step_below n t) (steps_below n (rest ++ (s ∷ []))) h in
    let later = steps_below-last n rest s hs.1 in
    (grind (arith, hs.0, later.0), later.1)

pub names_fit-last : (fits : Step → Bool) (rest : List Step) (s : Step) → list_all fits (rest ++ (s ∷ [])) ≡ true →
    (list_all fits rest ≡ true) × (fits s ≡ true)
names_fit-last fits [] s h = (refl, (both _ _ h).0)
names_fit-last fits (t ∷ rest) s h =
    let hs = both (fits t) (list_all fits (rest ++ (s ∷ []))) h in
    let later = names_fit-last fits rest s hs.1 in
    (grind (arith, hs.0, later.0), later.1)

-- how deep a suffix goes ----------------------------------------------------------------------------------------------

arguments_depth-below : (n : ℕ) (xs : List ExprId) → arguments_below n xs ≡ true →
    arguments_depth xs ≤ 1180591620717411303424 * n
arguments_depth-below n [] h = omega arith
arguments_depth-below n (x ∷ xs) h =
    let hs = both (nat_lt x.0 n) (arguments_below n xs) h in
    let less : x.0 < n = grind (arith, hs.0) in
    let later = arguments_depth-below n xs hs.1 in
    omega arith

pub step_depth-below : (n : ℕ) (s : Step) → step_below n s ≡ true → step_depth s ≤ 1180591620717411303424 * n
step_depth-below n (steps.Index opening index g) h = let less : index.0 < n = grind (arith, h) in omega arith
step_depth-below n (steps.Call opening function arguments g) h = arguments_depth-below n arguments.items h
step_depth-below n (steps.Access is_dot name member g) h = omega arith
step_depth-below n (steps.PostIncrement token operator g) h = omega arith

-- a suffix that names smaller numbers than a node names those of the table
arguments_below-more : (m n : ℕ) → m ≤ n → (xs : List ExprId) → arguments_below m xs ≡ true →
    arguments_below n xs ≡ true
arguments_below-more m n more [] h = refl
arguments_below-more m n more (x ∷ xs) h =
    let hs = both (nat_lt x.0 m) (arguments_below m xs) h in
    let less : x.0 < n = let own : x.0 < m = grind (arith, hs.0) in omega arith in
    grind (arith, less, arguments_below-more m n more xs hs.1)

pub step_below-more : (m n : ℕ) → m ≤ n → (s : Step) → step_below m s ≡ true → step_below n s ≡ true
step_below-more m n more (steps.Index opening index g) h =
    let own : index.0 < m = grind (arith, h) in
    let less : index.0 < n = omega arith in
    grind (arith, less)
step_below-more m n more (steps.Call opening function arguments g) h = arguments_below-more m n more arguments.items h
step_below-more m n more (steps.Access is_dot name member g) h = refl
step_below-more m n more (steps.PostIncrement token operator g) h = refl
