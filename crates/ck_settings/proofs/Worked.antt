-- Documents worked on the definitions alone.
use Rattle.std.proofs.Common.{◌≡◌, [], ◌∷◌, ◌++◌, codes, true, Ok, Err, refl}
use Rattle.toml.specs.Parse.{parse_document}
use Rattle.toml.proofs.OnLiterals.{toml_on_literals}
use Rattle.ck_base.specs.declared.ops.Op.TheVariants.{IWakes}
use Rattle.ck_base.specs.declared.settings_faults.SettingsKind.TheVariants.{Missing, Unknown, WrongType, OutOfRange}
use Rattle.ck_base.specs.declared.settings_faults.SettingsKind.TheVariants.{Repeated}
use Rattle.ck_settings.specs.Faults.{element_key, element_prefix}
use Rattle.ck_settings.specs.Documents.{read_members}

one : read_members (parse_document (codes "version = 1"))
    ≡ Err (record { key = codes "kernel_priority"; kind = Missing })
unfolding toml_on_literals
one = refl

two : read_members (parse_document (codes "version = 2"))
    ≡ Err (record { key = codes "kernel_priority"; kind = Missing })
unfolding toml_on_literals
two = refl

three : read_members (parse_document (codes "version = 3")) ≡ Err (record { key = codes "version"; kind = OutOfRange })
unfolding toml_on_literals
three = refl

locked_in_1 : read_members (parse_document (codes
    "version = 1\nkernel_priority = 2\ncallback = [{struct = \"s\", member = \"m\", priority = 5, locked = true}]\n"))
    ≡ Err (record { key = element_prefix (codes "callback") 1 ++ codes "locked"; kind = Unknown })
unfolding toml_on_literals
locked_in_1 = refl

locked_in_2 : read_members (parse_document (codes
    "version = 2\nkernel_priority = 2\ncallback = [{struct = \"s\", member = \"m\", priority = 5, locked = true}]\n"))
    ≡ Ok (record {
      version = 2;
      kernel_priority = 2;
      timer_priority = 2;
      vectors = [];
      callbacks = record { of_struct = codes "s"; member = codes "m"; priority = 5; locked = true } ∷ [];
      functions = [];
    })
unfolding toml_on_literals
locked_in_2 = refl

least : read_members (parse_document (codes "version = 1\nkernel_priority = 2\n"))
    ≡ Ok (record { version = 1; kernel_priority = 2; timer_priority = 2; vectors = []; callbacks = []; functions = [] })
unfolding toml_on_literals
least = refl

twice : read_members
    (parse_document
    (codes "version = 1\nkernel_priority = 2\nvector = [{function=\"f\", priority=4}, {function=\"f\", priority=4}]"))
    ≡ Err (record { key = element_prefix (codes "vector") 2 ++ codes "function"; kind = Repeated })
unfolding toml_on_literals
twice = refl

unknown : read_members (parse_document (codes "b = 1\na = 2\nkernel_priority = 2\n"))
    ≡ Err (record { key = codes "a"; kind = Unknown })
unfolding toml_on_literals
unknown = refl

wakes : read_members
    (parse_document
    (codes "version = 1\nkernel_priority = 2\n[[function]]\nname = \"f\"\nclass = \"normal\"\nwakes = true\n"))
    ≡ Err (record { key = element_prefix (codes "function") 1 ++ codes "wakes"; kind = OutOfRange })
unfolding toml_on_literals
wakes = refl

waking : read_members
    (parse_document
    (codes "version = 1\nkernel_priority = 2\n[[function]]\nname = \"f\"\nclass = \"I\"\nwakes = true\n"))
    ≡ Ok (record {
      version = 1;
      kernel_priority = 2;
      timer_priority = 2;
      vectors = [];
      callbacks = [];
      functions =
          record { name = codes "f"; op = IWakes } ∷ [];
    })
unfolding toml_on_literals
waking = refl

kernel_name : read_members (parse_document (codes
    "version = 1\nkernel_priority = 2\nfunction = [{name = \"chX\", class = \"I\"}]\n"))
    ≡ Err (record { key = element_prefix (codes "function") 1 ++ codes "name"; kind = OutOfRange })
unfolding toml_on_literals
kernel_name = refl

no_table : read_members (parse_document (codes "version = 1\nkernel_priority = 2\nvector = [1]\n"))
    ≡ Err (record { key = element_key (codes "vector") 1; kind = WrongType })
unfolding toml_on_literals
no_table = refl
