-- The assignments that an expression makes, with their left and right sides (C99 6.5.16). What is under `sizeof` isn't
-- evaluated and makes none (6.5.3.4).
use Rattle.std.specs.Prelude.{List, [], ◌∷◌, ◌++◌, if◌then◌else◌}
use Rattle.ck_prog.specs.Calls.{is_size}
use Rattle.ck_prog.specs.TypedTrees.{Typed, Links, Arguments, Steps}
use Rattle.ck_prog.specs.TypedTrees as trees
use Rattle.ck_prog.specs.declared.operators.Assigning.{Assigning}
use Rattle.ck_prog.specs.declared.operators.Assigning.TheVariants.{Plain}

pub record Assigned : Type 0 where
  pub left : Typed
  pub right : Typed

-- `=` alone: no other operator assigns a function
abbrev pub assigned : Assigning → Typed → Typed → List Assigned
assigned Plain a b = record { left = a; right = b } ∷ []
assigned _ a b = []

abbrev mutual
  pub assignments : Typed → List Assigned
  assignments (trees.Name f e) = []
  assignments (trees.Constant f) = []
  assignments (trees.Strings f ts) = []
  assignments (trees.Paren f x) = assignments x
  assignments (trees.Postfix x steps) = assignments x ++ assignments_in_steps steps
  assignments (trees.Unary f op x) = if is_size op then [] else assignments x
  assignments (trees.SizeofType f written) = []
  assignments (trees.Cast f written x) = assignments x
  assignments (trees.Chain x links) = assignments x ++ assignments_in_links links
  assignments (trees.Conditional f test a b) = assignments test ++ (assignments a ++ assignments b)
  assignments (trees.Assignment f op a b) = assigned op a b ++ (assignments a ++ assignments b)

  pub assignments_in_links : Links → List Assigned
  assignments_in_links trees.NoLinks = []
  assignments_in_links (trees.Link op x f rest) = assignments x ++ assignments_in_links rest

  pub assignments_in_arguments : Arguments → List Assigned
  assignments_in_arguments trees.NoArguments = []
  assignments_in_arguments (trees.Argument x rest) = assignments x ++ assignments_in_arguments rest

  pub assignments_in_steps : Steps → List Assigned
  assignments_in_steps trees.NoSteps = []
  assignments_in_steps (trees.Index opening x f rest) = assignments x ++ assignments_in_steps rest
  assignments_in_steps (trees.Call opening function es f rest) =
      assignments_in_arguments es ++ assignments_in_steps rest
  assignments_in_steps (trees.Access is_dot name m f rest) = assignments_in_steps rest
  assignments_in_steps (trees.PostIncrement t op f rest) = assignments_in_steps rest
