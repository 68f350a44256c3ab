-- The parts of a tally by how often each word comes.
use Rattle.std.proofs.Common.{◌≡◌, ℕ, zero, suc, Bool, true, false, ◌&&◌, ◌||◌, cond, refl, ap, sym, ◌∙◌}
use Rattle.ck_tallies.specs.Tallies.{base_and, and_short, and_long, and_sign, class_and}
use Rattle.ck_tallies.specs.declared.tallies.Base.{Base}
use Rattle.ck_tallies.specs.declared.tallies.Base.TheVariants as base
use Rattle.ck_tallies.specs.declared.tallies.Class.{Class}
use Rattle.ck_tallies.specs.declared.tallies.Class.TheVariants as class
use Rattle.ck_tallies.specs.declared.tallies.Sign.{Sign}
use Rattle.ck_tallies.specs.declared.tallies.Sign.TheVariants as sign
use Rattle.ck_tallies.specs.declared.tallies.Size.{Size}
use Rattle.ck_tallies.specs.declared.tallies.Size.TheVariants as size

-- how often, up to two
pub data Times : Type 0 where
  Never : Times
  Once : Times
  Twice : Times
  Often : Times

abbrev pub times_of : ℕ → Times
times_of zero = Never
times_of (suc zero) = Once
times_of (suc (suc zero)) = Twice
times_of (suc (suc (suc n))) = Often

abbrev pub next : Times → Times
next Never = Once
next Once = Twice
next Twice = Often
next Often = Often

pub times_of-suc : (n : ℕ) → times_of (suc n) ≡ next (times_of n)
times_of-suc zero = refl
times_of-suc (suc zero) = refl
times_of-suc (suc (suc zero)) = refl
times_of-suc (suc (suc (suc n))) = refl

-- `void`, `char`, `int`, `_Bool`
abbrev pub base_at : Times → Times → Times → Times → Base
base_at Never Never Never Never = base.Nothing
base_at Once Never Never Never = base.Void
base_at Never Once Never Never = base.Char
base_at Never Never Once Never = base.Int
base_at Never Never Never Once = base.Bool
base_at _ _ _ _ = base.Many

pub void_more : (v c i b : Times) → base_at (next v) c i b ≡ base_and (base_at v c i b) base.Void
void_more Never Never Never Never = refl
void_more Once Never Never Never = refl
void_more Never Once Never Never = refl
void_more Never Never Once Never = refl
void_more Never Never Never Once = refl
void_more _ _ _ _ = refl

pub char_more : (v c i b : Times) → base_at v (next c) i b ≡ base_and (base_at v c i b) base.Char
char_more Never Never Never Never = refl
char_more Once Never Never Never = refl
char_more Never Once Never Never = refl
char_more Never Never Once Never = refl
char_more Never Never Never Once = refl
char_more _ _ _ _ = refl

pub int_more : (v c i b : Times) → base_at v c (next i) b ≡ base_and (base_at v c i b) base.Int
int_more Never Never Never Never = refl
int_more Once Never Never Never = refl
int_more Never Once Never Never = refl
int_more Never Never Once Never = refl
int_more Never Never Never Once = refl
int_more _ _ _ _ = refl

pub bool_more : (v c i b : Times) → base_at v c i (next b) ≡ base_and (base_at v c i b) base.Bool
bool_more Never Never Never Never = refl
bool_more Once Never Never Never = refl
bool_more Never Once Never Never = refl
bool_more Never Never Once Never = refl
bool_more Never Never Never Once = refl
bool_more _ _ _ _ = refl

-- `short`, `long`
abbrev pub size_at : Times → Times → Size
size_at Never Never = size.Nothing
size_at Once Never = size.Short
size_at Never Once = size.Long
size_at Never Twice = size.LongLong
size_at _ _ = size.Many

pub short_more : (s l : Times) → size_at (next s) l ≡ and_short (size_at s l)
short_more Never Never = refl
short_more Once Never = refl
short_more Never Once = refl
short_more Never Twice = refl
short_more _ _ = refl

pub long_more : (s l : Times) → size_at s (next l) ≡ and_long (size_at s l)
long_more Never Never = refl
long_more Once Never = refl
long_more Never Once = refl
long_more Never Twice = refl
long_more _ _ = refl

-- `signed`, `unsigned`
abbrev pub sign_at : Times → Times → Sign
sign_at Never Never = sign.Nothing
sign_at Once Never = sign.One
sign_at Never Once = sign.One
sign_at _ _ = sign.Many

pub signed_more : (g u : Times) → sign_at (next g) u ≡ and_sign (sign_at g u)
signed_more Never Never = refl
signed_more Once Never = refl
signed_more Never Once = refl
signed_more _ _ = refl

pub unsigned_more : (g u : Times) → sign_at g (next u) ≡ and_sign (sign_at g u)
unsigned_more Never Never = refl
unsigned_more Once Never = refl
unsigned_more Never Once = refl
unsigned_more _ _ = refl

-- `register`, `typedef`, another storage class
abbrev pub class_at : Times → Times → Times → Class
class_at Never Never Never = class.Nothing
class_at Once Never Never = class.Register
class_at Never Once Never = class.Typedef
class_at Never Never Once = class.Other
class_at _ _ _ = class.Many

pub register_more : (r t o : Times) → class_at (next r) t o ≡ class_and (class_at r t o) class.Register
register_more Never Never Never = refl
register_more Once Never Never = refl
register_more Never Once Never = refl
register_more Never Never Once = refl
register_more _ _ _ = refl

pub typedef_more : (r t o : Times) → class_at r (next t) o ≡ class_and (class_at r t o) class.Typedef
typedef_more Never Never Never = refl
typedef_more Once Never Never = refl
typedef_more Never Once Never = refl
typedef_more Never Never Once = refl
typedef_more _ _ _ = refl

pub other_more : (r t o : Times) → class_at r t (next o) ≡ class_and (class_at r t o) class.Other
other_more Never Never Never = refl
other_more Once Never Never = refl
other_more Never Once Never = refl
other_more Never Never Once = refl
other_more _ _ _ = refl
