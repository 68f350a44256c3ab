-- What of typed trees the refusals look at: one sight for each name, value, call, cast, type, initialiser, declared
-- name, label and jump, in written order.
use Rattle.std.specs.Prelude.{ℕ, ℤ, Bool, true, false, List, [], ◌∷◌, ◌++◌, codes, Option, Some, None, if◌then◌else◌}
use Rattle.std.specs.Str.{bytes_eq}
use Rattle.ck_base.specs.TokenText.{text_of}
use Rattle.ck_base.specs.declared.tokens.Token.{Token}
use Rattle.ck_types.specs.Types.{CType}
use Rattle.ck_prog.specs.Declarations.{Layout, Entry}
use Rattle.ck_prog.specs.Linking.{unqualified_type}
use Rattle.ck_prog.specs.Senses.{Constancy}
use Rattle.ck_prog.specs.TypedBodies as bodies
use Rattle.ck_prog.specs.TypedBodies.{InitialiserFacts, TypedDesignators, TypedInitialiser, TypedInitialisers}
use Rattle.ck_prog.specs.TypedBodies.{DeclaredFacts, TypedDeclarators, TypedDeclaration, TypedStart, TypedStatement}
use Rattle.ck_prog.specs.TypedBodies.{TypedItems, TypedFunction, TypedExternal, TypedFile, initialiser_facts}
use Rattle.ck_prog.specs.TypedTrees as trees
use Rattle.ck_prog.specs.TypedTrees.{Typed, Links, Arguments, Steps, TypeParts, Facts, DeclaratorFacts, facts}
use Rattle.ck_prog.specs.TypedTrees.{argument_facts}
use Rattle.ck_prog.specs.declared.operators.Assigning.TheVariants.{Plain}

-- how an expression stands beside the kernel's status (docs/LANGUAGE.md)
pub data StatusUse : Type 0 where
  Elsewhere : StatusUse
  -- it is the left side to which a statement assigns the call of chSysGetStatusAndLockX, or the argument of
  -- chSysRestoreStatusX
  OfStatus : StatusUse
  -- it is the whole initialiser of this variable, or the whole right side that a statement assigns to it
  KeptBy : Option Entry → StatusUse

-- a call: its value, the function's name where one is called by its name, the called value and the arguments
pub record CallSight : Type 0 where
  pub value : Facts
  pub function : Option Entry
  pub name : Option Token
  pub called : Facts
  pub arguments : List Facts
  -- what the first argument names
  pub named : Option Entry
  pub used : StatusUse

-- 6.8.4.2: a label of a `switch`: a value, where it is known, or `default`
pub data LabelOfSwitch : Type 0 where
  CaseLabel : Option ℤ → LabelOfSwitch
  DefaultLabel : LabelOfSwitch

pub data Sight : Type 0 where
  -- a name with its text and what it means
  NameUse : Facts → List ℕ → Option Entry → StatusUse → Sight
  -- a value that is made of operands, or of a type name, of these types
  ValueOf : Facts → List (Option CType) → Sight
  -- the value of a name, or of what is in parentheses
  PrimaryValue : Facts → Sight
  CastOf : Facts → Facts → Sight
  CallOf : CallSight → Sight
  -- types: what specifiers and declarators have
  MentionOf : Bool → Token → Option Entry → Sight
  StructOf : Token → Option Layout → Sight
  EnumeratorOf : Token → Constancy → Sight
  SizeOf : Facts → Bool → Sight
  DeclaratorOf : DeclaratorFacts → Sight
  -- initialisers: an expression, and whether it is a string; braces; designators
  ValueGiven : InitialiserFacts → Facts → Bool → Sight
  BracesGiven : InitialiserFacts → Sight
  MemberNamed : Token → Bool → Sight
  ElementNamed : Token → Bool → Facts → Bool → Sight
  -- a declared name, and its initialiser
  DeclaredName : DeclaredFacts → Option TypedInitialiser → Sight
  -- a definition's name
  DefinedName : DeclaredFacts → Sight
  -- controlling expressions
  TestOf : Facts → Sight
  SwitchOn : Facts → Sight
  CaseValue : Facts → Sight
  -- `case` and `default`, and whether a `switch` is around them; a label of a `switch` beside those before it there
  SwitchLabel : Token → Bool → Sight
  RepeatedLabel : Token → LabelOfSwitch → List LabelOfSwitch → Sight
  -- `goto`, its label, and the scope of the function's parameters; `break` and `continue`, and whether they lead
  -- somewhere
  GotoTo : Token → List ℕ → List ℕ → Sight
  JumpTo : Token → Bool → Sight
  Returned : Option CType → Facts → Sight

-- the status pair ----------------------------------------------------------------------------------------------------

abbrev pub is_named : Option Entry → List ℕ → Bool
is_named None name = false
is_named (Some e) name = bytes_eq e.name name

-- the function and the name that are called, maybe in parentheses
abbrev pub name_token : Typed → Option Token
name_token (trees.Name f e) = Some f.first
name_token (trees.Paren f e) = name_token e
name_token _ = None

-- what an expression that is a name means
abbrev pub entry_named : Typed → Option Entry
entry_named (trees.Name f e) = e
entry_named _ = None

abbrev pub first_named : Arguments → Option Entry
first_named trees.NoArguments = None
first_named (trees.Argument x rest) = entry_named x

-- a call of chSysGetStatusAndLockX and nothing more
abbrev pub is_status_call : Typed → Bool
is_status_call (trees.Postfix x (trees.Call opening function given f trees.NoSteps)) =
    is_named function (codes "chSysGetStatusAndLockX")
is_status_call _ = false

abbrev pub use_before : Typed → StatusUse
use_before x = if is_status_call x then OfStatus else Elsewhere

abbrev pub use_in_call : Option Entry → StatusUse
use_in_call function = if is_named function (codes "chSysRestoreStatusX") then OfStatus else Elsewhere

-- a call is used so where no suffix is after it
abbrev pub use_of_last : StatusUse → Steps → StatusUse
use_of_last used trees.NoSteps = used
use_of_last used _ = Elsewhere

-- expressions and types ----------------------------------------------------------------------------------------------

abbrev pub types : List Facts → List (Option CType)
types [] = []
types (f ∷ fs) = f.sense.type ∷ types fs

-- the type of a type name: that of its declarator, which comes last
abbrev pub type_after : Option CType → TypeParts → Option CType
type_after t trees.NoParts = t
type_after t (trees.Mention keyword tag e rest) = type_after t rest
type_after t (trees.StructBody keyword l rest) = type_after t rest
type_after t (trees.EnumeratorValue at v rest) = type_after t rest
type_after t (trees.Expression x rest) = type_after t rest
type_after t (trees.ArraySize x large rest) = type_after t rest
type_after t (trees.WholeDeclarator f rest) = type_after (unqualified_type f.type) rest

abbrev pub type_named : TypeParts → Option CType
type_named written = type_after None written

abbrev pub is_string : Typed → Bool
is_string (trees.Strings f ts) = true
is_string _ = false

module _ (bytes : List ℕ) where
  abbrev mutual
    pub in_expression : StatusUse → Typed → List Sight
    in_expression used (trees.Name f e) = NameUse f (text_of bytes f.first) e used ∷ PrimaryValue f ∷ []
    in_expression used (trees.Constant f) = []
    in_expression used (trees.Strings f ts) = []
    in_expression used (trees.Paren f x) = PrimaryValue f ∷ in_expression Elsewhere x
    in_expression used (trees.Postfix x steps) =
        in_expression Elsewhere x ++ in_steps used (name_token x) (facts x) steps
    in_expression used (trees.Unary f op x) = ValueOf f (types (facts x ∷ [])) ∷ in_expression Elsewhere x
    in_expression used (trees.SizeofType f written) = ValueOf f (type_named written ∷ []) ∷ in_type written
    in_expression used (trees.Cast f written x) =
        ValueOf f (type_named written ∷ types (facts x ∷ []))
        ∷ CastOf f (facts x)
        ∷ (in_type written ++ in_expression Elsewhere x)
    in_expression used (trees.Chain x links) = in_expression Elsewhere x ++ in_links (facts x) links
    in_expression used (trees.Conditional f test a b) =
        ValueOf f (types (facts test ∷ facts a ∷ facts b ∷ []))
        ∷ (in_expression Elsewhere test ++ (in_expression Elsewhere a ++ in_expression Elsewhere b))
    in_expression used (trees.Assignment f op a b) =
        ValueOf f (types (facts a ∷ facts b ∷ [])) ∷ (in_expression Elsewhere a ++ in_expression Elsewhere b)

    pub in_links : Facts → Links → List Sight
    in_links so_far trees.NoLinks = []
    in_links so_far (trees.Link op x f rest) =
        ValueOf f (types (so_far ∷ facts x ∷ [])) ∷ (in_expression Elsewhere x ++ in_links f rest)

    pub in_arguments : StatusUse → Arguments → List Sight
    in_arguments used trees.NoArguments = []
    in_arguments used (trees.Argument x rest) = in_expression used x ++ in_arguments Elsewhere rest

    pub in_steps : StatusUse → Option Token → Facts → Steps → List Sight
    in_steps used name so_far trees.NoSteps = []
    in_steps used name so_far (trees.Index opening x f rest) =
        ValueOf f (types (so_far ∷ facts x ∷ [])) ∷ (in_expression Elsewhere x ++ in_steps used None f rest)
    in_steps used name so_far (trees.Call opening function arguments f rest) =
        ValueOf f (types (so_far ∷ argument_facts arguments))
        ∷ CallOf (record {
          value = f;
          function = function;
          name = name;
          called = so_far;
          arguments = argument_facts arguments;
          named = first_named arguments;
          used = use_of_last used rest;
        })
        ∷ (in_arguments (use_in_call function) arguments ++ in_steps used None f rest)
    in_steps used name so_far (trees.Access is_dot member m f rest) =
        ValueOf f (types (so_far ∷ [])) ∷ in_steps used None f rest
    in_steps used name so_far (trees.PostIncrement t op f rest) =
        ValueOf f (types (so_far ∷ [])) ∷ in_steps used None f rest

    pub in_type : TypeParts → List Sight
    in_type trees.NoParts = []
    in_type (trees.Mention keyword tag e rest) =
        MentionOf (bytes_eq (text_of bytes keyword) (codes "struct")) tag e ∷ in_type rest
    in_type (trees.StructBody keyword l rest) = StructOf keyword l ∷ in_type rest
    in_type (trees.EnumeratorValue t v rest) = EnumeratorOf t v ∷ in_type rest
    in_type (trees.Expression x rest) = in_expression Elsewhere x ++ in_type rest
    in_type (trees.ArraySize x large rest) = SizeOf (facts x) large ∷ (in_expression Elsewhere x ++ in_type rest)
    in_type (trees.WholeDeclarator f rest) = DeclaratorOf f ∷ in_type rest

  -- initialisers and declarations ------------------------------------------------------------------------------------

  abbrev pub in_designators : TypedDesignators → List Sight
  in_designators bodies.NoDesignators = []
  in_designators (bodies.ToMember dot found rest) = MemberNamed dot found ∷ in_designators rest
  in_designators (bodies.ToElement opening of_array x found rest) =
      ElementNamed opening of_array (facts x) found ∷ (in_expression Elsewhere x ++ in_designators rest)

  abbrev mutual
    pub in_initialiser : StatusUse → TypedInitialiser → List Sight
    in_initialiser used (bodies.Value f x) = ValueGiven f (facts x) (is_string x) ∷ in_expression used x
    in_initialiser used (bodies.Braces f is) = BracesGiven f ∷ in_initialisers is

    pub in_initialisers : TypedInitialisers → List Sight
    in_initialisers bodies.NoInitialisers = []
    in_initialisers (bodies.Initialiser ds i rest) =
        in_designators ds ++ (in_initialiser Elsewhere i ++ in_initialisers rest)

  abbrev pub in_given : DeclaredFacts → Option TypedInitialiser → List Sight
  in_given f None = []
  in_given f (Some i) = in_initialiser (KeptBy (Some f.entry)) i

  abbrev pub in_declarators : TypedDeclarators → List Sight
  in_declarators bodies.NoDeclared = []
  in_declarators (bodies.Declared written f i rest) =
      in_type written ++ (DeclaredName f i ∷ (in_given f i ++ in_declarators rest))

  abbrev pub in_declaration : TypedDeclaration → List Sight
  in_declaration (bodies.Declaration first written ds) = in_type written ++ in_declarators ds

  -- statements -------------------------------------------------------------------------------------------------------

  -- 6.8.3: an assignment that is a whole statement may keep the status
  abbrev pub in_statement_expression : Typed → List Sight
  in_statement_expression (trees.Assignment f Plain a b) =
      ValueOf f (types (facts a ∷ facts b ∷ []))
      ∷ (in_expression (use_before b) a ++ in_expression (KeptBy (entry_named a)) b)
  in_statement_expression x = in_expression Elsewhere x

  abbrev pub in_test : Typed → List Sight
  in_test x = TestOf (facts x) ∷ in_expression Elsewhere x

  abbrev pub in_maybe_test : Option Typed → List Sight
  in_maybe_test None = []
  in_maybe_test (Some x) = in_test x

  abbrev pub in_maybe : Option Typed → List Sight
  in_maybe None = []
  in_maybe (Some x) = in_expression Elsewhere x

  abbrev pub in_start : TypedStart → List Sight
  in_start bodies.StartEmpty = []
  in_start (bodies.StartExpression x) = in_expression Elsewhere x
  in_start (bodies.StartDeclaration d) = in_declaration d

  -- 6.8.4.2: the labels of a `switch`, in written order, each with its keyword; those of an inner `switch` are its own
  abbrev mutual
    pub labels : TypedStatement → List (Token × LabelOfSwitch)
    labels (bodies.Block first is) = labels_in is
    labels (bodies.If keyword test s) = labels s
    labels (bodies.IfElse keyword test s t) = labels s ++ labels t
    labels (bodies.While keyword test s) = labels s
    labels (bodies.Do keyword s test) = labels s
    labels (bodies.For keyword start test step s) = labels s
    labels (bodies.Case keyword in_switch x v s) = (keyword, CaseLabel v) ∷ labels s
    labels (bodies.Default keyword in_switch s) = (keyword, DefaultLabel) ∷ labels s
    labels (bodies.Label name text s) = labels s
    labels _ = []

    pub labels_in : TypedItems → List (Token × LabelOfSwitch)
    labels_in bodies.NoItems = []
    labels_in (bodies.DeclarationItem d rest) = labels_in rest
    labels_in (bodies.StatementItem s rest) = labels s ++ labels_in rest

  -- each label beside those before it
  abbrev pub repeated_from : List LabelOfSwitch → List (Token × LabelOfSwitch) → List Sight
  repeated_from before [] = []
  repeated_from before (l ∷ ls) = RepeatedLabel l.0 l.1 before ∷ repeated_from (l.1 ∷ before) ls

  -- in a function whose parameters and outermost block have this scope
  abbrev mutual
    pub in_statement : List ℕ → TypedStatement → List Sight
    in_statement scope (bodies.Block first is) = in_items scope is
    in_statement scope (bodies.Empty first) = []
    in_statement scope (bodies.ExpressionStatement x) = in_statement_expression x
    in_statement scope (bodies.If keyword test s) = in_test test ++ in_statement scope s
    in_statement scope (bodies.IfElse keyword test s t) =
        in_test test ++ (in_statement scope s ++ in_statement scope t)
    in_statement scope (bodies.Switch keyword x s) =
        SwitchOn (facts x)
        ∷ (in_expression Elsewhere x ++ (repeated_from [] (labels s) ++ in_statement scope s))
    in_statement scope (bodies.While keyword test s) = in_test test ++ in_statement scope s
    in_statement scope (bodies.Do keyword s test) = in_statement scope s ++ in_test test
    in_statement scope (bodies.For keyword start test step s) =
        in_start start ++ (in_maybe_test test ++ (in_maybe step ++ in_statement scope s))
    in_statement scope (bodies.Case keyword in_switch x v s) =
        SwitchLabel keyword in_switch
        ∷ CaseValue (facts x)
        ∷ (in_expression Elsewhere x ++ in_statement scope s)
    in_statement scope (bodies.Default keyword in_switch s) =
        SwitchLabel keyword in_switch ∷ in_statement scope s
    in_statement scope (bodies.Label name text s) = in_statement scope s
    in_statement scope (bodies.Goto keyword name) = GotoTo keyword name scope ∷ []
    in_statement scope (bodies.Jump keyword to found) = JumpTo keyword found ∷ []
    in_statement scope (bodies.Return keyword) = []
    in_statement scope (bodies.ReturnValue keyword result x) =
        Returned result (facts x) ∷ in_expression Elsewhere x

    pub in_items : List ℕ → TypedItems → List Sight
    in_items scope bodies.NoItems = []
    in_items scope (bodies.DeclarationItem d rest) = in_declaration d ++ in_items scope rest
    in_items scope (bodies.StatementItem s rest) = in_statement scope s ++ in_items scope rest

  -- files ------------------------------------------------------------------------------------------------------------

  abbrev pub in_external : TypedExternal → List Sight
  in_external (bodies.FileDeclaration d) = in_declaration d
  in_external (bodies.FunctionDefinition f) =
      in_type f.written ++ (DefinedName f.declared ∷ (in_type f.parameters ++ in_items f.scope f.items))

  abbrev pub in_externals : List TypedExternal → List Sight
  in_externals [] = []
  in_externals (x ∷ xs) = in_external x ++ in_externals xs

abbrev pub in_files : List TypedFile → List Sight
in_files [] = []
in_files (f ∷ fs) = in_externals f.bytes f.externals ++ in_files fs
