use Rattle.std.proofs.Common.{◌≡◌, List, ℕ, Bor, Option, Some, None, IsSome, refl}
use Rattle.std.specs.Prelude.{Contains}
use Rattle.std.specs.Option.{option_copied}
use Rattle.std.specs.declared.string.String.{String}
use Rattle.std.specs.declared.vec.Vec.{Vec}
use Rattle.std.specs.Global.{Global}
use Rattle.ck_io.specs.Environment.{names_of, bytes_of}
use Rattle.ck_io.specs.MemoryFiles.{files_of}
use Rattle.ck_io.proofs.Told.{has_bytes}
use Rattle.ck_io.proofs.memory_folder.MemoryFolderFolder.read_at.Goals as goal

-- a reference is there where what it points to is
some_lent : (lent : Option (Bor (List ℕ))) (bytes : Option (List ℕ))
    → option_copied lent ≡ bytes → IsSome bytes → IsSome lent
some_lent None bytes same some = cc
some_lent (Some r) bytes same some = refl

-- the bytes of a file that is there are lent
lent_bytes : (pairs given : List (String Global × Vec ℕ Global)) (name : List ℕ) (lent : Option (Bor (List ℕ)))
    → given ≡ pairs
    → option_copied lent ≡ bytes_of (files_of given) name
    → Contains (names_of (files_of pairs)) name
    → IsSome lent
lent_bytes pairs given name lent same is has = some_lent lent _ is (has_bytes (files_of given) name (rw same has))

pub unwrap-bytes-requires : goal.unwrap-bytes-requires
unwrap-bytes-requires c = lent_bytes _ _ _ _ c.deref.ensures.value c.find_bytes.ensures c.requires
