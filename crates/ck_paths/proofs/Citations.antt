-- What the way back from a place cites, by the place's reason.
use Rattle.std.proofs.Common.{◌≡◌, ℕ, ◌<◌, ◌⊎◌, Bool, true, List, Some, None, refl, sym, ap, ◌∙◌, subst, inl, inr}
use Rattle.std.proofs.Common.{arith}
use Rattle.std.proofs.lemmas.Option.{same_Some}
use Rattle.ck_graph.specs.declared.entries.Root.{Root}
use Rattle.ck_graph.specs.Flow.{Flow}
use Rattle.ck_paths.specs.declared.found.Place.{Place}
use Rattle.ck_paths.specs.declared.found.Reason.{Reason}
use Rattle.ck_paths.specs.declared.found.Reason.TheVariants.{AtRoot, ByEdge, IntoCall, OverCall}
use Rattle.ck_paths.specs.Found.{IsAt}
use Rattle.ck_paths.specs.Justified.{Holds, AreJustified, GoesAlong, Enters, Returns}
use Rattle.ck_paths.specs.Citing.{Cites, over, before, by_edge, in_caller, IsAtExit, GoesBack}

pub one : (places : List Place) (n : ℕ) (a b : Place) → IsAt places n a → IsAt places n b → a ≡ b
one places n a b x y = same_Some a b (sym x ∙ y)

-- a place has one reason
reasons : (places : List Place) (n : ℕ) (a b : Place) (r s : Reason) → IsAt places n a → IsAt places n b →
    a.reason ≡ r → b.reason ≡ s → r ≡ s
reasons places n a b r s x y is_r is_s = sym is_r ∙ (ap (λ (p : Place). p.reason) (one places n a b x y) ∙ is_s)

pub cites-edge : (places : List Place) (on : Bool) (n b k x : ℕ) (place : Place) → IsAt places n place →
    place.reason ≡ ByEdge b k → Cites places on n x → Cites places on b x
cites-edge places on n b k x place at is (over m c e p p_at p_is) =
    let no : OverCall c e ≡ ByEdge b k = reasons places n p place (OverCall c e) (ByEdge b k) p_at at p_is
    is in absurd (cc)
cites-edge places on n b k x place at is (before m c e y p p_at p_is h) =
    let no : OverCall c e ≡ ByEdge b k = reasons places n p place (OverCall c e) (ByEdge b k) p_at at p_is
    is in absurd (cc)
cites-edge places on n b k x place at is (by_edge m a l y p p_at p_is h) =
    let same : ByEdge a l ≡ ByEdge b k = reasons places n p place (ByEdge a l) (ByEdge b k) p_at at p_is is in
    let number : a ≡ b = cc in
    subst (λ (q : ℕ). Cites places on q x) number h
cites-edge places on n b k x place at is (in_caller m c y p onward p_at p_is h) =
    let no : IntoCall c ≡ ByEdge b k = reasons places n p place (IntoCall c) (ByEdge b k) p_at at p_is is in absurd (cc)

pub cites-over : (places : List Place) (on : Bool) (n c e x : ℕ) (place : Place) → IsAt places n place →
    place.reason ≡ OverCall c e → Cites places on n x → (e ≡ x) ⊎ Cites places on c x
cites-over places on n c e x place at is (over m d y p p_at p_is) =
    let same : OverCall d x ≡ OverCall c e = reasons places n p place (OverCall d x) (OverCall c e) p_at at p_is is in
    let number : e ≡ x = cc in
    inl number
cites-over places on n c e x place at is (before m d f y p p_at p_is h) =
    let same : OverCall d f ≡ OverCall c e = reasons places n p place (OverCall d f) (OverCall c e) p_at at p_is is in
    let number : d ≡ c = cc in
    inr (subst (λ (q : ℕ). Cites places on q x) number h)
cites-over places on n c e x place at is (by_edge m a l y p p_at p_is h) =
    let no : ByEdge a l ≡ OverCall c e = reasons places n p place (ByEdge a l) (OverCall c e) p_at at p_is
    is in absurd (cc)
cites-over places on n c e x place at is (in_caller m d y p onward p_at p_is h) =
    let no : IntoCall d ≡ OverCall c e = reasons places n p place (IntoCall d) (OverCall c e) p_at at p_is
    is in absurd (cc)

pub cites-caller : (places : List Place) (on : Bool) (n c x : ℕ) (place : Place) → IsAt places n place →
    place.reason ≡ IntoCall c → Cites places on n x → (on ≡ true) × Cites places on c x
cites-caller places on n c x place at is (over m d y p p_at p_is) =
    let no : OverCall d x ≡ IntoCall c = reasons places n p place (OverCall d x) (IntoCall c) p_at at p_is
    is in absurd (cc)
cites-caller places on n c x place at is (before m d f y p p_at p_is h) =
    let no : OverCall d f ≡ IntoCall c = reasons places n p place (OverCall d f) (IntoCall c) p_at at p_is
    is in absurd (cc)
cites-caller places on n c x place at is (by_edge m a l y p p_at p_is h) =
    let no : ByEdge a l ≡ IntoCall c = reasons places n p place (ByEdge a l) (IntoCall c) p_at at p_is is in absurd (cc)
cites-caller places on n c x place at is (in_caller m d y p onward p_at p_is h) =
    let same : IntoCall d ≡ IntoCall c = reasons places n p place (IntoCall d) (IntoCall c) p_at at p_is is in
    let number : d ≡ c = cc in
    (onward, subst (λ (q : ℕ). Cites places on q x) number h)

pub cites-root : (places : List Place) (on : Bool) (n k x : ℕ) (place : Place) → IsAt places n place →
    place.reason ≡ AtRoot k → Cites places on n x → ⊥
cites-root places on n k x place at is (over m d y p p_at p_is) =
    let no : OverCall d x ≡ AtRoot k = reasons places n p place (OverCall d x) (AtRoot k) p_at at p_is is in absurd (cc)
cites-root places on n k x place at is (before m d f y p p_at p_is h) =
    let no : OverCall d f ≡ AtRoot k = reasons places n p place (OverCall d f) (AtRoot k) p_at at p_is is in absurd (cc)
cites-root places on n k x place at is (by_edge m a l y p p_at p_is h) =
    let no : ByEdge a l ≡ AtRoot k = reasons places n p place (ByEdge a l) (AtRoot k) p_at at p_is is in absurd (cc)
cites-root places on n k x place at is (in_caller m d y p onward p_at p_is h) =
    let no : IntoCall d ≡ AtRoot k = reasons places n p place (IntoCall d) (AtRoot k) p_at at p_is is in absurd (cc)

module _ (flow : Flow) (roots : List Root) (places : List Place) (all : AreJustified flow roots places) where
  pub holds : (n : ℕ) (place : Place) (reason : Reason) → IsAt places n place → place.reason ≡ reason →
      Holds flow roots places n place reason
  holds n place reason at is = subst (Holds flow roots places n place) is (all n place at)

  -- what is cited is at an exit, and of a lower number
  pub cited-exit : (on : Bool) (n x : ℕ) → Cites places on n x → IsAtExit flow places x
  cited-exit on n x (over m c y p at is) =
      let r : Returns flow places n c x p = holds n p (OverCall c x) at is in
      record { place = r.exit; at = r.exit_at; is_exit = r.is_exit }
  cited-exit on n x (before m c e y p at is h) = cited-exit on c x h
  cited-exit on n x (by_edge m b k y p at is h) = cited-exit on b x h
  cited-exit on n x (in_caller m c y p onward at is h) = cited-exit on c x h

  pub cited-below : (on : Bool) (n x : ℕ) → Cites places on n x → x < n
  cited-below on n x (over m c y p at is) =
      let r : Returns flow places n c x p = holds n p (OverCall c x) at is in r.exit_earlier
  cited-below on n x (before m c e y p at is h) =
      let r : Returns flow places n c e p = holds n p (OverCall c e) at is in
      omega (arith, cited-below on c x h, r.caller_earlier)
  cited-below on n x (by_edge m b k y p at is h) =
      let g : GoesAlong flow places n b k p = holds n p (ByEdge b k) at is in
      omega (arith, cited-below on b x h, g.earlier)
  cited-below on n x (in_caller m c y p onward at is h) =
      let e : Enters flow places n c p = holds n p (IntoCall c) at is in
      omega (arith, cited-below on c x h, e.earlier)

  -- one step back, by the reason
  pub back-edge : (on : Bool) (n b k : ℕ) (place : Place) → IsAt places n place → place.reason ≡ ByEdge b k →
      GoesBack places on n b None
  back-edge on n b k place at is =
      let g : GoesAlong flow places n b k place = holds n place (ByEdge b k) at is in
      record {
        earlier = g.earlier;
        up = λ x h. by_edge n b k x place at is h;
        here = λ x none. absurd (cc);
        down = λ x h. inr (cites-edge places on n b k x place at is h);
      }

  pub back-over : (on : Bool) (n c e : ℕ) (place : Place) → IsAt places n place → place.reason ≡ OverCall c e →
      GoesBack places on n c (Some e)
  back-over on n c e place at is =
      let r : Returns flow places n c e place = holds n place (OverCall c e) at is in
      record {
        earlier = r.caller_earlier;
        up = λ x h. before n c e x place at is h;
        here = λ x same. subst (Cites places on n) (same_Some e x same) (over n c e place at is);
        down = λ x h. elim (cites-over places on n c e x place at is h) [
          | inl same ↦ inl (ap Some same)
          | inr further ↦ inr further
        ];
      }

  pub back-caller : (n c : ℕ) (place : Place) → IsAt places n place → place.reason ≡ IntoCall c →
      GoesBack places true n c None
  back-caller n c place at is =
      let e : Enters flow places n c place = holds n place (IntoCall c) at is in
      record {
        earlier = e.earlier;
        up = λ x h. in_caller n c x place refl at is h;
        here = λ x none. absurd (cc);
        down = λ x h. inr (cites-caller places true n c x place at is h).1;
      }
