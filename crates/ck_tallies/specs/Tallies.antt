-- What a tally of specifiers says, and how specifiers add to it.
use Rattle.std.specs.Prelude.{ℕ, Bool, true, false, not, ◌&&◌, ◌||◌, List, Option, Some, None, codes}
use Rattle.std.specs.Prelude.{if◌then◌else◌}
use Rattle.std.specs.Str.{bytes_eq}
use Rattle.ck_base.specs.declared.tokens.Token.{Token}
use Rattle.ck_grammar.specs.Specified.{is_inline, is_type_word}
use Rattle.ck_grammar.specs.Trees.{Specifiers, NoSpecifiers, TypedefName, Tagged, Struct, Enum}
use Rattle.ck_grammar.specs.Trees as trees
use Rattle.ck_grammar.specs.Words.{Word, Fixed, sort_by, ◌∈words◌}
use Rattle.ck_tallies.specs.declared.places.Place.{Place}
use Rattle.ck_tallies.specs.declared.places.Place.TheVariants.{InType, InParameter, InBlock, InFile}
use Rattle.ck_tallies.specs.declared.tallies.Base.{Base}
use Rattle.ck_tallies.specs.declared.tallies.Base.TheVariants as base
use Rattle.ck_tallies.specs.declared.tallies.Class.{Class}
use Rattle.ck_tallies.specs.declared.tallies.Class.TheVariants as class
use Rattle.ck_tallies.specs.declared.tallies.Named.{Named}
use Rattle.ck_tallies.specs.declared.tallies.Named.TheVariants as named
use Rattle.ck_tallies.specs.declared.tallies.Sign.{Sign}
use Rattle.ck_tallies.specs.declared.tallies.Sign.TheVariants as sign
use Rattle.ck_tallies.specs.declared.tallies.Size.{Size}
use Rattle.ck_tallies.specs.declared.tallies.Size.TheVariants as size
use Rattle.ck_tallies.specs.declared.tallies.Tally.{Tally}

abbrev pub base_and : Base → Base → Base
base_and base.Nothing word = word
base_and _ word = base.Many

abbrev pub base_with : List ℕ → Base → Base
base_with text b =
    if bytes_eq text (codes "void") then base_and b base.Void
    else if bytes_eq text (codes "char") then base_and b base.Char
    else if bytes_eq text (codes "int") then base_and b base.Int
    else if bytes_eq text (codes "_Bool") then base_and b base.Bool
    else b

abbrev pub and_short : Size → Size
and_short size.Nothing = size.Short
and_short _ = size.Many

abbrev pub and_long : Size → Size
and_long size.Nothing = size.Long
and_long size.Long = size.LongLong
and_long _ = size.Many

abbrev pub size_with : List ℕ → Size → Size
size_with text s =
    if bytes_eq text (codes "short") then and_short s
    else if bytes_eq text (codes "long") then and_long s
    else s

abbrev pub and_sign : Sign → Sign
and_sign sign.Nothing = sign.One
and_sign _ = sign.Many

abbrev pub sign_with : List ℕ → Sign → Sign
sign_with text s =
    if bytes_eq text (codes "signed") then and_sign s
    else if bytes_eq text (codes "unsigned") then and_sign s
    else s

abbrev pub class_and : Class → Class → Class
class_and class.Nothing word = word
class_and _ word = class.Many

abbrev pub class_with : List ℕ → Class → Class
class_with text c =
    if bytes_eq text (codes "register") then class_and c class.Register
    else if bytes_eq text (codes "typedef") then class_and c class.Typedef
    else if text ∈words "extern static auto" then class_and c class.Other
    else c

abbrev pub and_named : Named → Named
and_named named.Nothing = named.One
and_named _ = named.Many

abbrev pub nothing : Tally
nothing = record {
  base = base.Nothing;
  size = size.Nothing;
  sign = sign.Nothing;
  class = class.Nothing;
  named = named.Nothing;
  typed = false;
  inline = false;
}

abbrev pub with_text : List ℕ → Tally → Tally
with_text text t = record {
  base = base_with text t.base;
  size = size_with text t.size;
  sign = sign_with text t.sign;
  class = class_with text t.class;
  named = t.named;
  typed = t.typed || is_type_word (sort_by text);
  inline = t.inline || is_inline (sort_by text);
}

abbrev pub with_word : Word → Tally → Tally
with_word (Fixed text) t = with_text text t
with_word _ t = t

abbrev pub with_named : Tally → Tally
with_named t = record t { named = and_named t.named }

-- with a struct or an enum, where one was read
abbrev pub named_to : Tally → Option ℕ → Option (Tally × ℕ)
named_to t None = None
named_to t (Some next) = Some (with_named t, next)

-- a tally, and these specifiers after it
abbrev pub tallied : (Token → Word) → Tally → Specifiers → Tally
tallied w t NoSpecifiers = t
tallied w t (trees.Word token rest) = tallied w (with_word (w token) t) rest
tallied w t (TypedefName token rest) = tallied w (with_named t) rest
tallied w t (Tagged keyword tag rest) = tallied w (with_named t) rest
tallied w t (Struct keyword tag opening m closing rest) = tallied w (with_named t) rest
tallied w t (Enum keyword tag opening m closing rest) = tallied w (with_named t) rest

abbrev pub is_some_named : Named → Bool
is_some_named named.Nothing = false
is_some_named _ = true

abbrev pub has_type : Tally → Bool
has_type t = t.typed || is_some_named t.named

abbrev pub no_sign : Sign → Bool
no_sign sign.Nothing = true
no_sign _ = false

abbrev pub one_sign : Sign → Bool
one_sign sign.Many = false
one_sign _ = true

abbrev pub no_size : Size → Bool
no_size size.Nothing = true
no_size _ = false

abbrev pub one_size : Size → Bool
one_size size.Many = false
one_size _ = true

-- a combination of type words (C99 6.7.2), or none
abbrev pub is_combination : Base → Size → Sign → Bool
is_combination base.Void s g = no_size s && no_sign g
is_combination base.Bool s g = no_size s && no_sign g
is_combination base.Char s g = no_size s && one_sign g
is_combination base.Int s g = one_size s && one_sign g
is_combination base.Nothing size.Nothing g = not (no_sign g) && one_sign g
is_combination base.Nothing s g = one_size s && one_sign g
is_combination base.Many s g = false

abbrev pub one_type_by : Named → Bool → Bool → Bool
one_type_by named.Nothing typed combined = typed && combined
one_type_by named.One typed combined = not typed
one_type_by named.Many typed combined = false

abbrev pub has_one_type : Tally → Bool
has_one_type t = one_type_by t.named t.typed (is_combination t.base t.size t.sign)

abbrev pub class_fits : Place → Class → Bool → Bool
class_fits InType class.Nothing inline = not inline
class_fits InType _ inline = false
class_fits InParameter class.Nothing inline = not inline
class_fits InParameter class.Register inline = not inline
class_fits InParameter _ inline = false
class_fits InBlock class.Typedef inline = false
class_fits InBlock class.Many inline = false
class_fits InBlock _ inline = true
class_fits InFile class.Many inline = false
class_fits InFile _ inline = true

-- they go together at this place (C99 6.7)
abbrev pub goes_together : Place → Tally → Bool
goes_together place t = has_one_type t && class_fits place t.class t.inline
