-- What a folder or a sink that tells nothing owes its trait.
use Rattle.std.proofs.Common.{◌≡◌, ℕ, Result, Ok, Err, IfOk, OnErr, arith}
use Rattle.ck_io.specs.Environment.{Rose}
use Rattle.ck_io.specs.Environment.{one_more}

-- what holds of any value holds of the one that there is
pub if_ok : {T E : Type 0} (r : Result T E) (P : T → Type 0) → ((x : T) → P x) → IfOk r P
if_ok (Ok x) P f = f x
if_ok (Err e) P f = tt

-- what follows of any error
pub on_err : {T E : Type 0} (r : Result T E) (P Q : Type 0) → (P → Q) → OnErr r P → OnErr r Q
on_err (Ok x) P Q f p = tt
on_err (Err e) P Q f p = f p

-- a count that is one greater rose
pub rose_by_one : (before after : ℕ) → after ≡ one_more before → Rose before after
rose_by_one before after more = omega arith
