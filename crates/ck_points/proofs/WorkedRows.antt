-- Worked graphs of firmware, drawn by hand and computed on the definitions.
use Rattle.std.proofs.Common.{◌≡◌, refl}
use Rattle.std.specs.Prelude.{[], ◌∷◌}
use Rattle.ck_points.proofs.GraphTexts.{IsDrawn, point_count}
use Prim.Native.String.{String}

abbrev kernel : String
kernel = "void chSysInit ( void ) ; void chSysLock ( void ) ; void chSysUnlock ( void ) ; int v ;"

-- three calls of the kernel: two points of the body, two of each statement and of each call
lock_and_unlock : IsDrawn
    (kernel
    ∷ "int main ( void ) { chSysInit ( ) ; chSysLock ( ) ; chSysUnlock ( ) ; }" ∷ [])
    ("b -> 0b ; a ; 0b -> 0.0.1b ; 0a -> 1b ; 0.0.1b -> 0.0.1a ; 0.0.1a -> 0a ; 1b -> 1.0.1b ; 1a -> 2b ;"
    ∷ "1.0.1b -> 1.0.1a ; 1.0.1a -> 1a ; 2b -> 2.0.1b ; 2a -> a ; 2.0.1b -> 2.0.1a ; 2.0.1a -> 2a ;" ∷ [])
lock_and_unlock = refl

count_of_three : point_count
    (kernel ∷ "int main ( void ) { chSysInit ( ) ; chSysLock ( ) ; chSysUnlock ( ) ; }" ∷ [])
    ≡ 14
count_of_three = refl

-- two calling operands: one split and eight points of calls, four per order; 17 points
order_of_operands : IsDrawn
    (kernel
    ∷ "int f ( void ) { chSysLock ( ) ; return 1 ; } int g ( void ) { chSysUnlock ( ) ; return 2 ; }"
    ∷ "int main ( void ) { chSysInit ( ) ; return f ( ) + g ( ) ; }" ∷ [])
    ("b -> 0b ; a ; 0b -> 0.0.1b ; 0a -> 1b ; 0.0.1b -> 0.0.1a ; 0.0.1a -> 0a ; 1b -> 1.0.1s ; 1a -> a ;"
    ∷ "1.0.0.1b:1 -> 1.0.0.1a:1 ; 1.0.0.1a:1 -> 1.0.2.1b:1 ; 1.0.0.1b:2 -> 1.0.0.1a:2 ;"
    ∷ "1.0.0.1a:2 -> A1.0.1 G1 a ; 1.0.1s order1 1.0.0.1b:1 ; 1.0.1s order2 1.0.2.1b:2 ;"
    ∷ "1.0.2.1b:1 -> 1.0.2.1a:1 ; 1.0.2.1a:1 -> A1.0.1 G1 a ; 1.0.2.1b:2 -> 1.0.2.1a:2 ;"
    ∷ "1.0.2.1a:2 -> 1.0.0.1b:2 ;" ∷ [])
order_of_operands = refl

count_of_two_orders : point_count
    (kernel ∷ "int f ( void ) { chSysLock ( ) ; return 1 ; } int g ( void ) { chSysUnlock ( ) ; return 2 ; }"
    ∷ "int main ( void ) { chSysInit ( ) ; return f ( ) + g ( ) ; }" ∷ [])
    ≡ 17
count_of_two_orders = refl

-- a lock in one branch
lock_in_one_branch : IsDrawn
    (kernel
    ∷ "int main ( void ) { chSysInit ( ) ; if ( v ) chSysLock ( ) ; chSysUnlock ( ) ; return 0 ; }" ∷ [])
    ("b -> 0b ; a ; 0b -> 0.0.1b ; 0a -> 1b ; 0.0.1b -> 0.0.1a ; 0.0.1a -> 0a ; 1b -> E1.0 1.0t ; 1a -> 2b ;"
    ∷ "1.0t true 1.1b ; 1.0t false 1a ; 1.1b -> 1.1.0.1b ; 1.1a -> 1a ; 1.1.0.1b -> 1.1.0.1a ;"
    ∷ "1.1.0.1a -> 1.1a ; 2b -> 2.0.1b ; 2a -> 3b ; 2.0.1b -> 2.0.1a ; 2.0.1a -> 2a ; 3b -> E3.0 G3 a ;"
    ∷ "3a -> a ;" ∷ [])
lock_in_one_branch = refl

-- a function that keeps the status of the kernel is entered and left at points of its own, by `return` too
status_pair : IsDrawn
    ("typedef unsigned int syssts_t ; syssts_t chSysGetStatusAndLockX ( void ) ;"
    ∷ "void chSysRestoreStatusX ( syssts_t s ) ; int n ;"
    ∷ "void bump ( void ) { syssts_t s = chSysGetStatusAndLockX ( ) ; if ( n ) return ; n ++ ;"
    ∷ "chSysRestoreStatusX ( s ) ; }" ∷ [])
    ("b -> e ; e -> 0b ; l -> a ; a ; 0b -> 0.0.1b ; 0a -> 1b ; 0.0.1b -> 0.0.1a ; 0.0.1a -> I0.0 0a ;"
    ∷ "1b -> E1.0 1.0t ; 1a -> 2b ; 1.0t true 1.1b ; 1.0t false 1a ; 1.1b -> l ; 1.1a -> 1a ; 2b -> E2.0.1 2a ;"
    ∷ "2a -> 3b ; 3b -> E3.0.1.0 3.0.1b ; 3a -> l ; 3.0.1b -> 3.0.1a ; 3.0.1a -> 3a ;" ∷ [])
status_pair = refl
