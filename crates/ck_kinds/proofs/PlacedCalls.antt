-- Where a path is among the calls of a function, which ascend by their paths.
use Rattle.std.proofs.Common.{◌≡◌, ℕ, zero, suc, Bool, true, false, List, [], ◌∷◌, Some, None, cond}
use Rattle.std.proofs.Common.{refl, sym, ap, ◌∙◌}
use Rattle.std.specs.Cmp.Lexicographic.{slice_cmp}
use Rattle.std.specs.List.{filter, position}
use Rattle.std.specs.Option.{option_map}
use Rattle.std.specs.Ordering.{nat_cmp, is_lt, is_eq, ordering_reverse}
use Rattle.std.specs.Prelude.{if◌then◌else◌}
use Rattle.std.specs.Str.{bytes_eq}
use Rattle.std.specs.declared.cmp.Ordering.{Ordering}
use Rattle.std.specs.declared.cmp.Ordering.TheVariants.{Less, Equal, Greater}
use Rattle.std.proofs.lemmas.Cmp.{nat_list_cmp_total}
use Rattle.std.proofs.lemmas.Map.Text.{is_eq-slice_cmp}
use Rattle.ck_kinds.specs.CallOrder.{AllAre, IsRank}
use Rattle.ck_kinds.proofs.PathLemmas.{slice_cmp-before, never_less}
use Rattle.ck_kinds.proofs.Positions.{position-here, position-later}
use Rattle.ck_prog.specs.Calls.{CallSite}
use Rattle.ck_prog.specs.PathOrder.{IsBefore, Each, Ascend}
use Rattle.ck_prog.specs.Paths.{Path}

-- how a call's path is ordered against another
abbrev pub path_against : Path → CallSite → Ordering
path_against π c = slice_cmp nat_cmp c.path π

abbrev pub has_path : Path → CallSite → Bool
has_path π c = bytes_eq c.path π

-- some of those that ascend -------------------------------------------------------------------------------------------

each-kept : (P : CallSite → Type 0) (b : Bool) (c : CallSite) (cs : List CallSite) → P c → Each P cs
    → Each P (cond b (c ∷ cs) cs)
each-kept P true c cs here rest = (here, rest)
each-kept P false c cs here rest = rest

each-filter : (P : CallSite → Type 0) (test : CallSite → Bool) (cs : List CallSite) → Each P cs
    → Each P (filter test cs)
each-filter P test [] each = tt
each-filter P test (c ∷ cs) each =
    each-kept P (test c) c (filter test cs) each.0 (each-filter P test cs each.1)

ascend-kept : (b : Bool) (c : CallSite) (cs : List CallSite) → Each (λ d. IsBefore c.path d.path) cs → Ascend cs
    → Ascend (cond b (c ∷ cs) cs)
ascend-kept true c cs here rest = (here, rest)
ascend-kept false c cs here rest = rest

pub ascend-filter : (test : CallSite → Bool) (cs : List CallSite) → Ascend cs → Ascend (filter test cs)
ascend-filter test [] up = tt
ascend-filter test (c ∷ cs) up =
    ascend-kept (test c) c (filter test cs) (each-filter (λ d. IsBefore c.path d.path) test cs up.0)
    (ascend-filter test cs up.1)

-- a path among them ---------------------------------------------------------------------------------------------------

-- what comes after something that isn't less is greater
greater-after : (π ρ σ : Path) → is_lt (slice_cmp nat_cmp ρ π) ≡ false → slice_cmp nat_cmp ρ σ ≡ Less
    → slice_cmp nat_cmp σ π ≡ Greater
greater-after π ρ σ high less =
    nat_list_cmp_total.antisymm σ π ∙ ap ordering_reverse (by_order (slice_cmp nat_cmp ρ π) refl)
  where
    by_order : (o : Ordering) → slice_cmp nat_cmp ρ π ≡ o → slice_cmp nat_cmp π σ ≡ Less
    by_order Less e = let low = ap is_lt e in absurd (cc)
    by_order Equal e = sym (nat_list_cmp_total.congr ρ π σ e) ∙ less
    by_order Greater e =
        nat_list_cmp_total.trans π ρ σ (nat_list_cmp_total.antisymm π ρ ∙ ap ordering_reverse e) less

greater-later : (π : Path) (c : CallSite) (cs : List CallSite) → is_lt (path_against π c) ≡ false
    → Each (λ d. IsBefore c.path d.path) cs → AllAre Greater (path_against π) cs
greater-later π c [] high each = tt
greater-later π c (d ∷ cs) high each = (
  greater-after π c.path d.path high (slice_cmp-before c.path d.path each.0),
  greater-later π c cs high each.1,
)

has_path-order : (π : Path) (c : CallSite) (o : Ordering) → path_against π c ≡ o → has_path π c ≡ is_eq o
has_path-order π c o e = sym (is_eq-slice_cmp c.path π) ∙ ap is_eq e

none-greater : (π : Path) (cs : List CallSite) → AllAre Greater (path_against π) cs → position (has_path π) cs ≡ None
none-greater π [] all = refl
none-greater π (c ∷ cs) all =
    position-later (has_path π) c cs (has_path-order π c Greater all.0)
    ∙ ap (option_map suc) (none-greater π cs all.1)

-- the number of the calls before a path, and whether it is that of the next one
pub record IsPlaced (π : Path) (cs : List CallSite) : Type 0 where
  pub number : ℕ
  pub found : Bool
  pub rank : IsRank (path_against π) cs number found
  pub position_is : position (has_path π) cs ≡ (if found then Some number else None)

one_more : (b : Bool) (n : ℕ) → option_map suc (if b then Some n else None) ≡ (if b then Some (suc n) else None)
one_more true n = refl
one_more false n = refl

placed_by : (π : Path) (c : CallSite) (cs : List CallSite) (o : Ordering) → path_against π c ≡ o
    → Each (λ d. IsBefore c.path d.path) cs → IsPlaced π cs → IsPlaced π (c ∷ cs)
placed_by π c cs Less e up rest =
    record {
      number = suc rest.number;
      found = rest.found;
      rank = (e, rest.rank);
      position_is =
          position-later (has_path π) c cs (has_path-order π c Less e) ∙ ap (option_map suc) rest.position_is
          ∙ one_more rest.found rest.number;
    }
placed_by π c cs Equal e up rest =
    record {
      number = 0;
      found = true;
      rank = (ap is_lt e, sym (ap is_eq e), greater-later π c cs (ap is_lt e) up);
      position_is = position-here (has_path π) c cs (has_path-order π c Equal e);
    }
placed_by π c cs Greater e up rest =
    let after = greater-later π c cs (ap is_lt e) up in
    record {
      number = 0;
      found = false;
      rank = (ap is_lt e, sym (ap is_eq e), after);
      position_is = none-greater π (c ∷ cs) (e, after);
    }

pub placed : (π : Path) (cs : List CallSite) → Ascend cs → IsPlaced π cs
placed π [] up = record { number = 0; found = false; rank = (refl, refl); position_is = refl }
placed π (c ∷ cs) up = placed_by π c cs (path_against π c) refl up.0 (placed π cs up.1)

-- none comes before the empty path
pub none_before : (cs : List CallSite) (n : ℕ) (b : Bool) → IsRank (path_against []) cs n b → n ≡ 0
none_before [] n b rank = rank.0
none_before (c ∷ cs) zero b rank = refl
none_before (c ∷ cs) (suc n) b rank = absurd (never_less c.path rank.0)
