-- The loops of the readers of types: their equations, and the steps of a `for` over the tokens that are left.
use Rattle.std.proofs.Common.{◌≡◌, ℕ, zero, suc, ◌+◌, ◌-◌, ◌<◌, ◌≤◌, Bool, true, false, List, [], ◌∷◌, ◌++◌, length}
use Rattle.std.proofs.Common.{drop}
use Rattle.std.proofs.Common.{refl, ap, sym, ◌∙◌, arith, append-nil}
use Rattle.std.specs.Prelude.{Some, None, if◌then◌else◌}
use Rattle.ck_base.specs.declared.tokens.Token.{Token}
use Rattle.ck_grammar.specs.Readers.{Reader, or_else, onto}
use Rattle.ck_grammar.specs.Fitting.{is_pointer_part}
use Rattle.ck_grammar.specs.ReadingTypes as reading
use Rattle.ck_grammar.specs.ReadingTypes.{declarator_loop, member_loop, more_loop, dim_loop, pointer_parts}
use Rattle.ck_grammar.specs.Trees as plain
use Rattle.ck_grammar.specs.Words.{Word, sort}
use Rattle.ck_grammar.specs.declared.classes.Sort.{Sort}
use Rattle.ck_grammar.specs.declared.classes.Sort.TheVariants.{SquareMark, RoundMark}
use Rattle.ck_readers.proofs.Loops.{IsLoop, SoFar, so_far_step, so_far_stop, so_far_end}
use Rattle.ck_readers.specs.Places.{IsStep, NoStep, IsRow}
use Rattle.ck_type_readers.specs.Steps.{pointer_step, pointer_loop, declarator_step, member_step, dim_by, dim_step}

module _ (w : Token → Word) where
  pub pointers_go : IsLoop [] (pointer_step w) (pointer_loop w)
  pointers_go = record { stops = λ ts. refl; goes = λ fuel ts. refl }

  pub declarators_go : (inner : Reader plain.Declarator)
      → IsLoop plain.NoDeclarators (declarator_step w inner) (declarator_loop w inner)
  declarators_go inner = record { stops = λ ts. refl; goes = λ fuel ts. refl }

  pub members_go : (of : Reader plain.Specifiers) (inner : Reader plain.Declarator)
      → IsLoop plain.NoMembers (member_step w of inner) (member_loop w of inner)
  members_go of inner = record { stops = λ ts. refl; goes = λ fuel ts. refl }

  dim_goes : (size : Reader plain.Expr) (list : Reader plain.Params) (go : List Token → plain.Dims × List Token)
      (s : Sort) (t : Token) (ts : List Token)
      → reading.dim_by w size list go s t ts ≡ or_else (plain.NoDims, t ∷ ts) (dim_by w size list go s t ts)
  dim_goes size list go SquareMark t ts = refl
  dim_goes size list go RoundMark t ts = refl
  dim_goes size list go _ t ts = refl

  dims_on : (size : Reader plain.Expr) (list : Reader plain.Params) (fuel : ℕ) (ts : List Token)
      → dim_loop w size list (suc fuel) ts
      ≡ or_else (plain.NoDims, ts) (dim_step w size list (dim_loop w size list fuel) ts)
  dims_on size list fuel [] = refl
  dims_on size list fuel (t ∷ ts) = dim_goes size list (dim_loop w size list fuel) (sort (w t)) t ts

  pub dims_go : (size : Reader plain.Expr) (list : Reader plain.Params)
      → IsLoop plain.NoDims (dim_step w size list) (dim_loop w size list)
  dims_go size list = record { stops = λ ts. refl; goes = dims_on size list }

  -- as many pointer parts as there are tokens are all
  pointer_more : (b : Bool) (t : Token) (ts : List Token) (x y : List Token × List Token) → x ≡ y
      → or_else ([], t ∷ ts) (if b then Some (onto (◌∷◌ t) x) else None)
      ≡ (if b then onto (◌∷◌ t) y else ([], t ∷ ts))
  pointer_more true t ts x y e = ap (onto (◌∷◌ t)) e
  pointer_more false t ts x y e = refl

  pointers_all : (ts : List Token) → pointer_loop w (length ts) ts ≡ pointer_parts w ts
  pointers_all [] = refl
  pointers_all (t ∷ ts) = pointer_more (is_pointer_part (sort (w t))) t ts _ _ (pointers_all ts)

  pub pointer_row : {X : Type 0} (row : X → List Token) {tokens : List Token} {at : ℕ} {found : X × ℕ}
      → IsRow (λ y. row y ++ []) (λ ts. pointer_loop w (length ts) ts) tokens at found
      → IsRow row (pointer_parts w) tokens at found
  pointer_row row {tokens} {at} {found} is = record {
    read =
        sym (pointers_all (drop at tokens)) ∙ is.read
        ∙ ap (λ ts. (ts, drop found.1 tokens)) (append-nil (row found.0));
    within = is.within;
  }

-- one round of a loop over the tokens left is one step
module _ {B : Type 0} {none : B} {by : (List Token → B × List Token) → Reader B}
    {loop : ℕ → List Token → B × List Token} {tokens : List Token} {at here step end : ℕ} where
  pub goes_on : {old new : B → B} {place : ℕ} → IsLoop none by loop → step < end → end ≡ length tokens
      → SoFar none by loop old tokens at here (length tokens - step) → IsStep old new by tokens here place
      → SoFar none by loop new tokens at place (length tokens - (step + 1))
  goes_on equations more is far one =
      let e : length tokens - step ≡ suc (length tokens - (step + 1)) = omega arith in
      so_far_step none by loop _ _ tokens at here _ (length tokens - step) (length tokens - (step + 1)) equations e
      far one

  pub stops_here : {X : Type 0} (row : X → B → B) (x : X) {old : B → B} → IsLoop none by loop → step < end
      → end ≡ length tokens → SoFar none by loop old tokens at here (length tokens - step)
      → NoStep old (row x) by tokens here → IsRow (λ y. row y none) (λ ts. loop (length ts) ts) tokens at (x, here)
  stops_here row x equations more is far one =
      let e : length tokens - step ≡ suc (length tokens - (step + 1)) = omega arith in
      so_far_stop none by loop row x _ tokens at here (length tokens - step) (length tokens - (step + 1)) equations e
      far one

  pub ends_here : {X : Type 0} (row : X → B → B) (x : X) → IsLoop none by loop → end ≤ step → end ≡ length tokens
      → SoFar none by loop (row x) tokens at here (length tokens - step)
      → IsRow (λ y. row y none) (λ ts. loop (length ts) ts) tokens at (x, here)
  ends_here row x equations over is far =
      let e : length tokens - step ≡ zero = omega arith in
      so_far_end none by loop row x tokens at here (length tokens - step) equations e far
