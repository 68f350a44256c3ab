-- How the names and types of a project grow while its expressions are read, and what a name is found to be.
use Rattle.std.specs.Prelude.{◌≡◌, ℕ, Bool}
use Rattle.ck_base.specs.declared.tokens.Token.{Token}
use Rattle.ck_prog.specs.Declarations.{Place, text, meant}
use Rattle.ck_prog.specs.PostfixSenses.{access, member}
use Rattle.ck_prog.specs.Senses as senses
use Rattle.ck_prog.specs.TypedExpressions.{function_entry}
use Rattle.ck_prog.specs.Typing.{name_sense}
use Rattle.ck_tables.specs.Readings.{Readings, plain_entry, plain_member}
use Rattle.ck_expr_nodes.specs.SenseViews.{plain_sense}
use Rattle.ck_expr_nodes.specs.declared.senses.Accessed.{Accessed}
use Rattle.ck_expr_nodes.specs.declared.senses.Found.{Found}
use Rattle.ck_expr_nodes.specs.declared.senses.Sense.{Sense}

-- Numbers stay: who reads the later numbers reads the earlier ones, a sense over earlier numbers is one over later
-- ones, and an earlier place is known by its number.
pub record Stays {State : Type 0} (reads : State → Readings → Type 0) (fits : State → Sense → Type 0)
    (marks : State → ℕ → Place → Type 0) (old new : State) : Type 0 where
  pub reading : (w : Readings) → reads new w → reads old w
  pub fitting : (s : Sense) → fits old s → fits new s
  pub marking : (n : ℕ) (p : Place) → marks old n p → marks new n p

-- 6.5.1: what a name means at a place
pub record IsFound (w : Readings) (p : Place) (name : Token) (f : Found) : Type 0 where
  pub sense_is : plain_sense w f.sense ≡ name_sense p name
  pub entry_is : plain_entry w f.entry ≡ meant p (text p name)
  pub function_is : plain_entry w f.function ≡ function_entry (meant p (text p name))

-- 6.5.2.3: what the name of a member means after `.` or after `->`, where what is before it has this sense
pub record IsAccessed (w : Readings) (p : Place) (is_dot : Bool) (a : senses.Sense) (name : Token) (f : Accessed)
    : Type 0 where
  pub sense_is : plain_sense w f.sense ≡ access p is_dot a (text p name)
  pub member_is : plain_member w f.member ≡ member p is_dot a (text p name)
