-- Worked projects: structs of several files, and bodies of one tag.
use Rattle.std.proofs.Common.{◌≡◌, refl}
use Rattle.std.specs.Prelude.{[], ◌∷◌, Some, codes}
use Rattle.ck_base.specs.declared.refusals.Unsupported.TheVariants.{U9, U10, U14}
use Rattle.ck_kernel.specs.KernelTable.{kernel_table}
use Rattle.ck_types.specs.Types.{Struct, ByTag, ByMember}
use Rattle.ck_prog.proofs.ProjectTexts.{Accepted, Refused}
use Rattle.ck_prog.proofs.Texts.{sense_in}

-- the first typedef name is that of a pointer to the struct
pointer_to_untagged : Refused U10
    (("typedef struct { int a ; } * t ;" ∷ []) ∷ ("typedef struct { char a ; } * @ t ;" ∷ []) ∷ [])
pointer_to_untagged = refl

pointer_first : Refused U10
    (("typedef struct { int a ; } * p , s ; s v ;" ∷ [])
    ∷ ("typedef struct { char a ; } * @ p , s ; extern s v ;" ∷ [])
    ∷ [])
unfolding kernel_table
pointer_first = refl

pointer_with_function : Refused U10
    (("typedef struct { void ( * cb ) ( void ) ; } * T ; void f ( void ) { } int g ( T t ) {"
    ∷ "t -> cb = f ; return 0 ; }" ∷ [])
    ∷ ("typedef struct { int cb ; } * @ T ; int g ( T t ) ; int h ( T t ) { t -> cb = 1 ;"
    ∷ "return g ( t ) ; }" ∷ [])
    ∷ [])
unfolding kernel_table
pointer_with_function = refl

-- 6.2.7: compatible with the second file, and not with the first
not_transitive : Refused U10
    (("struct s { int ( * p ) [ 3 ] ; } ;" ∷ [])
    ∷ ("struct s { int ( * p ) [ ] ; } ;" ∷ [])
    ∷ ("struct @ s { int ( * p ) [ 4 ] ; } ;" ∷ [])
    ∷ [])
unfolding kernel_table
not_transitive = refl

-- 6.7.2.3: the later name is the inner one
body_in_body : Refused U9
    (("struct s { struct @ s { int b ; } x ; int a ; } ;" ∷ [])
    ∷ [])
unfolding kernel_table
body_in_body = refl

-- without a tag, in the body of another ------------------------------------------------------------------------------

-- by the one that it is in, after one member of it
untagged_in_body : (sense_in "struct s { int b ; struct { int a ; } in ; } x ;" "x . in").type
    ≡ Some (Struct (ByMember (ByTag (codes "s")) 1))
untagged_in_body = refl

-- 6.2.7: a header in two files
inside_tagged : Accepted
    (("struct s { struct { int a ; } in ; } ; extern struct s x ;" ∷ [])
    ∷ ("struct s { struct { int a ; } in ; } ; struct s x ;" ∷ [])
    ∷ [])
unfolding kernel_table
inside_tagged = refl

inside_typedef : Accepted
    (("typedef struct { int n ; struct { int a ; } in [ 2 ] ; } t ; extern t x ;" ∷ [])
    ∷ ("typedef struct { int n ; struct { int a ; } in [ 2 ] ; } t ; t x ;" ∷ [])
    ∷ [])
unfolding kernel_table
inside_typedef = refl

-- the inner one has other members
other_inside_tagged : Refused U10
    (("struct s { struct { int a ; } in ; } ; extern struct s x ;" ∷ [])
    ∷ ("struct s { @ struct { char a ; } in ; } ; struct s x ;" ∷ [])
    ∷ [])
unfolding kernel_table
other_inside_tagged = refl

other_inside_typedef : Refused U10
    (("typedef struct { struct { int a ; } in ; } t ;" ∷ [])
    ∷ ("typedef struct { @ struct { int b ; } in ; } t ;" ∷ [])
    ∷ [])
unfolding kernel_table
other_inside_typedef = refl

two_deep : Accepted
    (("struct s { struct { struct { int a ; } b ; } c ; } ;" ∷ [])
    ∷ ("struct s { struct { struct { int a ; } b ; } c ; } ;" ∷ [])
    ∷ [])
unfolding kernel_table
two_deep = refl

other_two_deep : Refused U10
    (("struct s { struct { struct { int a ; } b ; } c ; } ;" ∷ [])
    ∷ ("struct s { struct { @ struct { char a ; } b ; } c ; } ;" ∷ [])
    ∷ [])
unfolding kernel_table
other_two_deep = refl

-- after another member it is another one, and so the outer one has other members
after_another_member : Refused U10
    (("struct s { struct { int a ; } in ; } ;" ∷ [])
    ∷ ("struct @ s { int b ; struct { int a ; } in ; } ;" ∷ [])
    ∷ [])
unfolding kernel_table
after_another_member = refl

-- the outer one is by its place, which two files don't share
inside_untagged : Refused U10
    (("struct { struct { int a ; } in ; } x ;" ∷ [])
    ∷ ("extern struct { struct { int a ; } in ; } @ x ;" ∷ [])
    ∷ [])
unfolding kernel_table
inside_untagged = refl

-- 6.7.2.3: each body is a type of its own
one_body : Accepted
    (("struct s { struct { int a ; } x , y ; struct { int a ; } z ; } v ; void f ( void ) { v . x = v ."
    ∷ "y ; }" ∷ []) ∷ [])
unfolding kernel_table
one_body = refl

two_bodies : Refused U14
    (("struct s { struct { int a ; } x , y ; struct { int a ; } z ; } v ; void f ( void ) { @ v . x = v"
    ∷ ". z ; }" ∷ []) ∷ [])
unfolding kernel_table
two_bodies = refl
