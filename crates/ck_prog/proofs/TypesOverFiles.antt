-- Types that are compatible in a file are compatible over files.
use Rattle.std.proofs.Common.{◌≡◌, ℕ, refl, arith, Bool, true, false, List}
use Rattle.std.specs.Prelude.{◌&&◌, ◌==◌}
use Rattle.std.proofs.lemmas.Bool.Decides.{nat_tests}
use Rattle.std.proofs.lemmas.Slice.Eq.{bytes_eq-Decides}
use Rattle.std.specs.Str.{bytes_eq}
use Rattle.ck_types.proofs.Compatible.{is_reflexive}
use Rattle.ck_types.specs.NodeEquality.{and-true}
use Rattle.ck_types.specs.Types.{StructIdentity, ByTag, ByTypedef, ByPlace, ByMember, ByParameter, CType, Void, Integer}
use Rattle.ck_types.specs.Types.{Pointer, Array, Struct, Function, Parameters, NoParameters, Parameter, same_struct}
use Rattle.ck_types.specs.Types.{same_qualifiers, same_size, same_truth, compatible, all_compatible}
use Rattle.ck_prog.specs.BodyLaws.{StaysCompatible}
use Rattle.ck_prog.specs.Declarations.{Entry}
use Rattle.ck_prog.specs.OverFiles.{struct_over_files, type_over_files, parameters_over_files}

left : (a b : Bool) → (a && b) ≡ true → a ≡ true
left true b h = refl
left false b h = h

right : (a b : Bool) → (a && b) ≡ true → b ≡ true
right true b h = h
right false b h = absurd (cc)

abbrev one : Bool → Bool → Bool → Bool
one a b c = a && b && c

one_parameter : (all : List Entry) (a b : List ℕ) (f g k i : ℕ) → one (bytes_eq a b) (f == g) (k == i) ≡ true
    → same_struct (struct_over_files all (ByParameter a f k)) (struct_over_files all (ByParameter b g i)) ≡ true
one_parameter all a b f g k i h =
    let tags = left (bytes_eq a b) (f == g) (left (bytes_eq a b && f == g) (k == i) h) in
    let files = right (bytes_eq a b) (f == g) (left (bytes_eq a b && f == g) (k == i) h) in
    let places = right (bytes_eq a b && f == g) (k == i) h in
    let e : a ≡ b = (bytes_eq-Decides a b).0 tags in
    let d : f ≡ g = grind (arith, nat_tests, files) in
    let c : k ≡ i = grind (arith, nat_tests, places) in
    rw (e, d, c) (is_reflexive (Struct (struct_over_files all (ByParameter b g i))))

one_struct : (all : List Entry) (s t : StructIdentity) → same_struct s t ≡ true
    → same_struct (struct_over_files all s) (struct_over_files all t) ≡ true
one_struct all (ByTag a) (ByTag b) h = h
one_struct all (ByTypedef a) (ByTypedef b) h = h
one_struct all (ByPlace f k) (ByPlace g i) h = h
one_struct all (ByMember s k) (ByMember t i) h =
    and-true (one_struct all s t (left (same_struct s t) (k == i) h)) (right (same_struct s t) (k == i) h)
one_struct all (ByParameter a f k) (ByParameter b g i) h = one_parameter all a b f g k i h
one_struct all _ _ h = absurd (cc)

mutual
  one_type : (all : List Entry) (t u : CType) → compatible t u ≡ true
      → compatible (type_over_files all t) (type_over_files all u) ≡ true
  one_type all Void Void h = refl
  one_type all (Integer t) (Integer u) h = h
  one_type all (Pointer p t) (Pointer q u) h =
      and-true (left (same_qualifiers p q) (compatible t u) h)
      (one_type all t u (right (same_qualifiers p q) (compatible t u) h))
  one_type all (Array p t n) (Array q u m) h =
      let front = left (same_qualifiers p q && compatible t u) (same_size n m) h in
      and-true (and-true (left (same_qualifiers p q) (compatible t u) front)
      (one_type all t u (right (same_qualifiers p q) (compatible t u) front)))
      (right (same_qualifiers p q && compatible t u) (same_size n m) h)
  one_type all (Struct s) (Struct t) h = one_struct all s t h
  one_type all (Function p t ps e) (Function q u qs f) h =
      let result = same_qualifiers p q && compatible t u in
      let front = left (result && all_compatible ps qs) (same_truth e f) h in
      let results = left result (all_compatible ps qs) front in
      and-true (and-true (and-true (left (same_qualifiers p q) (compatible t u) results)
      (one_type all t u (right (same_qualifiers p q) (compatible t u) results)))
      (one_list all ps qs (right result (all_compatible ps qs) front)))
      (right (result && all_compatible ps qs) (same_truth e f) h)
  one_type all _ _ h = absurd (cc)

  one_list : (all : List Entry) (ps qs : Parameters) → all_compatible ps qs ≡ true
      → all_compatible (parameters_over_files all ps) (parameters_over_files all qs) ≡ true
  one_list all NoParameters NoParameters h = refl
  one_list all (Parameter t ps) (Parameter u qs) h =
      and-true (one_type all t u (left (compatible t u) (all_compatible ps qs) h))
      (one_list all ps qs (right (compatible t u) (all_compatible ps qs) h))
  one_list all _ _ h = absurd (cc)

pub stays_compatible : StaysCompatible
stays_compatible = one_type
