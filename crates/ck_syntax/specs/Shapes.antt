-- What a declarator declares (C99 6.7.5): its name, and what it says of the name first, as it is read from the name
-- outwards. Dimensions and parameters bind tighter than stars: `*f()` is a function, and `(*f)()` a pointer.
use Rattle.std.specs.Prelude.{List, [], ◌∷◌, Option, None, Some}
use Rattle.ck_base.specs.declared.tokens.Token.{Token}
use Rattle.ck_grammar.specs.Trees as trees
use Rattle.ck_grammar.specs.Trees.{Declarator, Dims, Abstract, Named, Nested, NoDims, Open, Sized}
use Rattle.ck_syntax.specs.declared.shapes.Shape.{Shape}
use Rattle.ck_syntax.specs.declared.shapes.Shape.TheVariants.{Plain, Pointer, Array, Function}

-- the name that is declared; an abstract declarator has none
abbrev pub declared_name : Declarator → Option Token
declared_name (Abstract stars dims) = None
declared_name (Named stars name dims) = Some name
declared_name (Nested stars opening inner closing dims) = declared_name inner

-- what stars say, and `outer` where there are none
abbrev pub stars_shape : List Token → Shape → Shape
stars_shape [] outer = outer
stars_shape (star ∷ stars) outer = Pointer

-- what the first dimension or parameters say, and `outer` where there are none
abbrev pub dims_shape : Dims → Shape → Shape
dims_shape NoDims outer = outer
dims_shape (Open opening closing rest) outer = Array
dims_shape (Sized opening size closing rest) outer = Array
dims_shape (trees.Function opening parameters closing rest) outer = Function

-- what a declarator says first, and `outer` where it says nothing
abbrev pub shape_within : Declarator → Shape → Shape
shape_within (Abstract stars dims) outer = dims_shape dims (stars_shape stars outer)
shape_within (Named stars name dims) outer = dims_shape dims (stars_shape stars outer)
shape_within (Nested stars opening inner closing dims) outer =
    shape_within inner (dims_shape dims (stars_shape stars outer))

-- what a declarator says of its name first
abbrev pub shape : Declarator → Shape
shape declarator = shape_within declarator Plain
