-- The sense of an expression is known only where its type is an integer type that represents the value.
use Rattle.std.proofs.Common.{◌≡◌, ℕ, suc, ◌-◌, ◌<◌, List, [], ◌∷◌, refl, arith, pos}
use Rattle.std.specs.Prelude.{Bool, true, false, ◌&&◌, ◌==◌, nat_le, nat_lt, length, drop, slice_index}
use Rattle.std.specs.Prelude.{slice_range, Option, Some, None}
use Rattle.std.specs.Prelude.{if◌then◌else◌}
use Rattle.std.proofs.lemmas.List.Elements.{All-take, All-drop}
use Rattle.ck_base.specs.CharacterConstants.{character_value, between_quotes, if_byte, escape_value}
use Rattle.ck_base.specs.CharacterConstants.{is_octal_escape, is_hexadecimal_escape, is_simple_escape, simple_value}
use Rattle.ck_base.specs.Characters.{backslash}
use Rattle.ck_base.specs.IntegerConstants.{value_of, base_of, digits_of, suffix_of, is_suffix}
use Rattle.ck_base.specs.declared.tokens.Token.{Token}
use Rattle.ck_grammar.specs.Trees.{Expr, Operands, Suffixes, Name, Constant, Strings, Paren, Postfix, Unary, SizeofType}
use Rattle.ck_grammar.specs.Trees.{Cast, Chain, Conditional, Assignment, NoOperands, Operand, NoSuffixes, Index}
use Rattle.ck_grammar.specs.Trees.{CallEmpty, Call, MemberAccess, PostIncrement}
use Rattle.ck_types.specs.ConstantTypes.{first_representing, candidates, with_value, constant_in, suffix_written}
use Rattle.ck_types.specs.ConstantTypes.{is_character, as_int, constant}
use Rattle.ck_types.specs.IntegerTypes.{represents}
use Rattle.ck_types.specs.declared.integer_types.IntegerType.{IntegerType}
use Rattle.ck_types.specs.declared.operators.IntegerValue.{IntegerValue}
use Rattle.ck_prog.proofs.KnownValues.{Fits, varying_fits}
use Rattle.ck_prog.proofs.OperatorsFit.{binary_sense_fits, prefix_sense_fits, size_of_fits, cast_sense_fits, step_fits}
use Rattle.ck_prog.proofs.OperatorsFit.{choice_sense_fits, assignment_sense_fits, element_fits, result_fits}
use Rattle.ck_prog.proofs.OperatorsFit.{access_fits}
use Rattle.ck_prog.specs.BaseTypes.{base_type}
use Rattle.ck_prog.specs.Declarations.{Meaning, Variable, FunctionNamed, TypeNamed, Enumerator, StructTag, EnumTag}
use Rattle.ck_prog.specs.Declarations.{Member}
use Rattle.ck_prog.specs.Declarations.{Completed, Label, Entry, Place, text, is_written, latest, is_named, is_ordinary}
use Rattle.ck_prog.specs.Declarations.{meaning_of}
use Rattle.ck_prog.specs.Derivations.{made}
use Rattle.ck_prog.specs.Growing.{AreFitting, AreBytes, is_fitting}
use Rattle.ck_prog.specs.Linking.{unqualified_type}
use Rattle.ck_prog.specs.Operators.{operator, prefix, assigning}
use Rattle.ck_prog.specs.PostfixSenses.{element, result, access}
use Rattle.ck_prog.specs.BinarySenses.{binary_sense}
use Rattle.ck_prog.specs.Senses.{Sense}
use Rattle.ck_prog.specs.Tags.{nothing_around}
use Rattle.ck_prog.specs.Typing.{meaning_sense, value_sense, sense, operands_sense}
use Rattle.ck_prog.specs.Typing.{suffixes_sense, argument_senses, is_dereference, derivations, after, after_operands}
use Rattle.ck_prog.specs.Typing.{after_specifiers, after_declarator}
use Rattle.ck_prog.specs.UnarySenses.{step}

-- names ---------------------------------------------------------------------------------------------------------------

meaning_fits : (m : Meaning) → is_fitting m ≡ true → Fits (meaning_sense (Some m))
meaning_fits (Variable None l d s) h = refl
meaning_fits (Variable (Some t) l d s) h = varying_fits (Some t.type)
meaning_fits (FunctionNamed None l d) h = refl
meaning_fits (FunctionNamed (Some t) l d) h = varying_fits (Some t)
meaning_fits (TypeNamed t) h = refl
meaning_fits (Enumerator None) h = refl
meaning_fits (Enumerator (Some v)) h = h
meaning_fits (StructTag s) h = refl
meaning_fits EnumTag h = refl
meaning_fits (Member m) h = refl
meaning_fits (Completed s l constant) h = refl
meaning_fits Label h = refl

found_fits : (b : Bool) (e : Entry) (later : Option Entry) → is_fitting e.meaning ≡ true
    → Fits (meaning_sense (meaning_of later)) → Fits (meaning_sense (meaning_of (if b then Some e else later)))
found_fits true e later h k = meaning_fits e.meaning h
found_fits false e later h k = k

latest_fits : (test : Entry → Bool) (es : List Entry) → AreFitting es
    → Fits (meaning_sense (meaning_of (latest test es)))
latest_fits test [] h = refl
latest_fits test (e ∷ es) h = found_fits (test e) e (latest test es) h.0 (latest_fits test es h.1)

-- constants -----------------------------------------------------------------------------------------------------------

typed_fits : (b : Bool) (t : IntegerType) (other : Option IntegerType) (v : ℕ) → represents t (pos v) ≡ b
    → Fits (value_sense (with_value v other)) → Fits (value_sense (with_value v (if b then Some t else other)))
typed_fits true t other v h k = h
typed_fits false t other v h k = k

first_fits : (ts : List IntegerType) (v : ℕ) → Fits (value_sense (with_value v (first_representing ts (pos v))))
first_fits [] v = refl
first_fits (t ∷ ts) v = typed_fits (represents t (pos v)) t (first_representing ts (pos v)) v refl (first_fits ts v)

value_fits_if : (b : Bool) (v w : Option IntegerValue) → Fits (value_sense v) → Fits (value_sense w)
    → Fits (value_sense (if b then v else w))
value_fits_if true v w h k = h
value_fits_if false v w h k = k

integer_fits : (base : ℕ) (digits suffix : List ℕ) → Fits (value_sense (constant_in base digits suffix))
integer_fits base digits suffix =
    let v = value_of base digits in
    let ts = candidates (base == 10) (suffix_written suffix) in
    value_fits_if (nat_lt 0 (length digits) && is_suffix suffix) (with_value v (first_representing ts (pos v))) None
    (first_fits ts v) refl

-- a character's value is at most 255
abbrev IsSmall : Option ℕ → Type 0
IsSmall None = Unit {0}
IsSmall (Some v) = v < 256

small_if : (b : Bool) (v w : Option ℕ) → (b ≡ true → IsSmall v) → IsSmall w → IsSmall (if b then v else w)
small_if true v w h k = h refl
small_if false v w h k = k

byte_small : (v : ℕ) → IsSmall (if_byte v)
byte_small v = small_if (nat_le v 255) (Some v) None (λ h. grind (arith, h)) tt

simple_small : (b : ℕ) → b < 256 → simple_value b < 256
simple_small b h = grind (arith, h)

first_byte : (text : List ℕ) → AreBytes text → slice_index text 0 < 256
first_byte [] h = omega arith
first_byte (b ∷ text) h = h 0 0 (omega arith)

later_bytes : (b : ℕ) (text : List ℕ) → AreBytes (b ∷ text) → AreBytes text
later_bytes b text h k d below = h (suc k) d (omega (arith, below))

escape_small : (text : List ℕ) → AreBytes text → IsSmall (escape_value text)
escape_small text h =
    let one = length text == 1 && is_simple_escape (slice_index text 0) in
    let simple = if one then Some (simple_value (slice_index text 0)) else None in
    let other = if is_hexadecimal_escape text then if_byte (value_of 16 (drop 1 text)) else simple in
    small_if (is_octal_escape text) (if_byte (value_of 8 text)) other (λ e. byte_small (value_of 8 text))
    (small_if (is_hexadecimal_escape text) (if_byte (value_of 16 (drop 1 text))) simple
    (λ e. byte_small (value_of 16 (drop 1 text)))
    (small_if one (Some (simple_value (slice_index text 0))) None
    (λ e. simple_small (slice_index text 0) (first_byte text h)) tt))

character_small : (text : List ℕ) → AreBytes text → IsSmall (character_value text)
character_small [] h = tt
character_small (b ∷ text) h =
    small_if (b == backslash) (escape_value text) (if length text == 0 then Some b else None)
    (λ e. escape_small text (later_bytes b text h))
    (small_if (length text == 0) (Some b) None (λ e. h 0 0 (omega arith)) tt)

small_fits : (v : Option ℕ) → IsSmall v → Fits (value_sense (as_int v))
small_fits None h = refl
small_fits (Some v) h = grind (arith, h)

All-slice_range : (bytes : List ℕ) (start end : ℕ) → AreBytes bytes → AreBytes (slice_range bytes start end)
All-slice_range bytes start end h =
    All-take (λ b. b < 256) (end - start) (drop start bytes) (All-drop (λ b. b < 256) start bytes h)

text_bytes : (p : Place) (t : Token) → AreBytes p.bytes → AreBytes (text p t)
text_bytes p t h = All-slice_range p.bytes t.span.start t.span.end h

between_bytes : (text : List ℕ) → AreBytes text → AreBytes (between_quotes text)
between_bytes text h =
    All-take (λ b. b < 256) (length text - 2) (drop 1 text) (All-drop (λ b. b < 256) 1 text h)

constant_fits : (text : List ℕ) → AreBytes text → Fits (value_sense (constant text))
constant_fits text h =
    value_fits_if (is_character text) (as_int (character_value (between_quotes text)))
    (constant_in (base_of text) (digits_of (base_of text) text) (suffix_of (base_of text) text))
    (small_fits (character_value (between_quotes text)) (character_small (between_quotes text) (between_bytes text h)))
    (integer_fits (base_of text) (digits_of (base_of text) text) (suffix_of (base_of text) text))

-- expressions ---------------------------------------------------------------------------------------------------------

operands_fit : (p : Place) (a : Sense) (operands : Operands) → Fits a → Fits (operands_sense p a operands)
operands_fit p a NoOperands h = h
operands_fit p a (Operand op e rest) h =
    operands_fit (after p e) (binary_sense p (operator (text p op)) a (sense p e)) rest
    (binary_sense_fits p (operator (text p op)) a (sense p e))

suffixes_fit : (p : Place) (a : Sense) (suffixes : Suffixes) → Fits a → Fits (suffixes_sense p a suffixes)
suffixes_fit p a NoSuffixes h = h
suffixes_fit p a (Index opening e closing rest) h =
    suffixes_fit (after p e) (element p a (sense p e)) rest (element_fits p a (sense p e))
suffixes_fit p a (CallEmpty opening closing rest) h = suffixes_fit p (result p a []) rest (result_fits p a [])
suffixes_fit p a (Call opening e others closing rest) h =
    let arguments = sense p e ∷ argument_senses (after p e) others in
    suffixes_fit (after_operands (after p e) others) (result p a arguments) rest (result_fits p a arguments)
suffixes_fit p a (MemberAccess t name rest) h =
    suffixes_fit p (access p (is_written p t ".") a (text p name)) rest
    (access_fits p (is_written p t ".") a (text p name))
suffixes_fit p a (PostIncrement t rest) h = suffixes_fit p (step p a) rest (step_fits p a)

pub known_is_in_range : (p : Place) (e : Expr) → AreFitting p.declared → AreBytes p.bytes → Fits (sense p e)
known_is_in_range p (Name t) h b =
    latest_fits (is_named is_ordinary p.file p.scope (text p t)) p.declared h
known_is_in_range p (Constant t) h b = constant_fits (text p t) (text_bytes p t b)
known_is_in_range p (Strings t ts) h b = refl
known_is_in_range p (Paren opening e closing) h b = known_is_in_range p e h b
known_is_in_range p (Postfix e suffixes) h b =
    suffixes_fit (after p e) (sense p e) suffixes (known_is_in_range p e h b)
known_is_in_range p (Unary op e) h b = prefix_sense_fits p (is_dereference p e) (prefix (text p op)) (sense p e)
known_is_in_range p (SizeofType keyword opening s d closing) h b =
    let q = after_specifiers p nothing_around s in
    let r = after_declarator q d in
    size_of_fits r (unqualified_type (made r (derivations q d) (base_type q s)))
known_is_in_range p (Cast opening s d closing e) h b =
    let q = after_specifiers p nothing_around s in
    let r = after_declarator q d in
    cast_sense_fits (unqualified_type (made r (derivations q d) (base_type q s))) (sense r e)
known_is_in_range p (Chain e operands) h b =
    operands_fit (after p e) (sense p e) operands (known_is_in_range p e h b)
known_is_in_range p (Conditional test question x colon y) h b =
    let q = after p test in choice_sense_fits (sense p test) (sense q x) (sense (after q x) y)
known_is_in_range p (Assignment x op y) h b =
    assignment_sense_fits p (assigning (text p op)) (sense p x) (sense (after p x) y)
