-- What was read is what the tokens are, and the reader goes over one token more.
use Rattle.std.proofs.Common.{◌≡◌, ℕ, ◌+◌, ◌<◌, ◌≤◌, Bool, true, false, cond, List, [], ◌∷◌, ◌++◌, length, get_or, take}
use Rattle.std.proofs.Common.{add-one, Option, Some, None, refl, sym, ap, ◌∙◌, subst}
use Rattle.std.specs.Prelude.{option_and_then}
use Rattle.std.specs.Option.{option_map}
use Rattle.std.proofs.lemmas.List.{append-nil, get_or-map, take_all}
use Rattle.std.proofs.Math.Seq.{take-suc}
use Rattle.ck_base.specs.declared.tokens.Token.{Token}
use Rattle.ck_cli.specs.declared.declared.Declared.{Declared}
use Rattle.ck_cli.specs.declared.form.Call.{Call}
use Rattle.ck_cli.specs.declared.form.Form.{Form as Made}
use Rattle.ck_cli.specs.declared.form.Reading.{Reading}
use Rattle.ck_cli.specs.declared.form.Reading.TheVariants.{Form, Stray}
use Rattle.ck_cli.specs.declared.lexemes.Lexeme.{Lexeme}
use Rattle.ck_cli.specs.declared.position.Position.TheVariants.{Outside, End}
use Rattle.ck_base.specs.TokenText.{text_of}
use Rattle.ck_cli.specs.FileForm.{FileForm, Spells, closing, texts_of, token_start, main_start, made_calls}
use Rattle.ck_cli.specs.Stray.{CanGoOn, IsStray, at_token, at_end}
use Rattle.ck_cli.specs.Lexemes.{lexeme_of}
use Rattle.ck_cli.specs.Reading.{Progress, IsEnded, IsReading, whole, stopped, beginning, none_declared, declared_by}
use Rattle.ck_cli.specs.Reading.{after, over}
use Rattle.ck_cli.proofs.FormComplete.{goes-spelling, never_stuck}
use Rattle.ck_cli.proofs.FormPrefixes.{CanGoOn-from_Stands}
use Rattle.ck_cli.proofs.FormSound.{InMain, Stands, over-stands}
use Rattle.ck_cli.proofs.Positions.{Stage, stage, goes, lexemes_of, over-stage}

-- the tokens are a file of this form, whose `main` and calls begin at these offsets
pub record IsForm (bytes : List ℕ) (tokens : List Token) (main : ℕ) (calls : List Call) : Type 0 where
  pub form : FileForm
  pub spells : Spells form bytes tokens
  pub main_is : main ≡ main_start form tokens
  pub calls_are : calls ≡ made_calls form tokens

form_of_main : (bytes : List ℕ) (tokens : List Token) (declared : Declared) (main : ℕ) (calls : List Call)
    → InMain closing tokens declared main calls (texts_of bytes tokens ++ []) → IsForm bytes tokens main calls
form_of_main bytes tokens declared main calls is = record {
  form = record { prototypes = is.prototypes; calls = is.made };
  spells = record { texts = sym (append-nil (texts_of bytes tokens)) ∙ is.spelled; declared = is.allowed };
  main_is = is.main_is;
  calls_are = is.calls_are;
}

ended_form : (bytes : List ℕ) (tokens : List Token) (p : Progress)
    → over bytes tokens beginning ≡ Some p → p.position ≡ End → IsForm bytes tokens p.main p.calls
ended_form bytes tokens p h end =
    form_of_main bytes tokens p.declared p.main p.calls (subst (λ position. Stands position tokens p.declared p.main
    p.calls (texts_of bytes tokens)) end (over-stands bytes tokens p h))

same_stage : (a b : Stage) (o : Option Stage) → o ≡ Some a → o ≡ Some b → a.0 ≡ b.0
same_stage a b o e f = let same : a ≡ b = cc in ap (λ s. s.0) same

form_ends : (bytes : List ℕ) (tokens : List Token) (form : FileForm) (p : Progress)
    → Spells form bytes tokens → over bytes tokens beginning ≡ Some p → p.position ≡ End
form_ends bytes tokens form p spells h =
    same_stage (stage p) (End, declared_by none_declared form.prototypes) (goes Outside none_declared
    (lexemes_of (texts_of bytes tokens)))
    (sym (over-stage bytes tokens beginning) ∙ ap (option_map stage) h)
    (ap (λ ts. goes Outside none_declared (lexemes_of ts)) spells.texts ∙ goes-spelling form spells.declared)

can : (bytes : List ℕ) (tokens : List Token) (p : Progress)
    → over bytes tokens beginning ≡ Some p → CanGoOn (texts_of bytes tokens)
can bytes tokens p h =
    CanGoOn-from_Stands p.position tokens p.declared p.main p.calls (texts_of bytes tokens)
    (over-stands bytes tokens p h)

can_not : (bytes : List ℕ) (tokens : List Token)
    → over bytes tokens beginning ≡ None → CanGoOn (texts_of bytes tokens) → ⊥
can_not bytes tokens h go_on =
    never_stuck (texts_of bytes tokens) go_on (sym (over-stage bytes tokens beginning) ∙ ap (option_map stage) h)

pub form_read : (bytes : List ℕ) (tokens : List Token) (made : Made)
    → IsReading bytes tokens (Form made) → IsForm bytes tokens made.main made.calls.items
form_read bytes tokens made (whole p read end) =
    let is = ended_form bytes tokens p read end.0 in
    record {
      form = is.form;
      spells = is.spells;
      main_is = sym end.1 ∙ is.main_is;
      calls_are = sym end.2 ∙
          is.calls_are;
    }
form_read bytes tokens made (stopped n p within read stop is) = absurd (cc)

pub stray_read : (bytes : List ℕ) (tokens : List Token) (offset : ℕ)
    → IsReading bytes tokens (Stray offset) → IsStray bytes tokens offset
stray_read bytes tokens offset (whole p read end) =
    subst (IsStray bytes tokens) (sym end.1) (at_end (can bytes tokens p read)
    (λ form spells. end.0 (form_ends bytes tokens form p spells read)))
stray_read bytes tokens offset (stopped n p within read stop is) =
    let here : offset ≡ token_start tokens n = cc in
    subst (IsStray bytes tokens) (sym here) (at_token n within (can bytes (take n tokens) p read)
    (can_not bytes (take (n + 1) tokens) stop))

-- one token more
over-push_by : (bytes : List ℕ) (t : Token) (tokens : List Token) (next : Option Progress)
    → ((p : Progress) → over bytes (tokens ++ t ∷ []) p ≡ option_and_then (λ q. after q
    (lexeme_of (text_of bytes t)) t.span.start) (over bytes tokens p))
    → option_and_then (over bytes (tokens ++ t ∷ [])) next ≡ option_and_then
    (λ q. after q (lexeme_of (text_of bytes t)) t.span.start) (option_and_then (over bytes tokens) next)
over-push_by bytes t tokens None rest = refl
over-push_by bytes t tokens (Some p) rest = rest p

one_over : (bytes : List ℕ) (next : Option Progress) → option_and_then (over bytes []) next ≡ next
one_over bytes None = refl
one_over bytes (Some p) = refl

pub over-push : (bytes : List ℕ) (t : Token) (tokens : List Token) (p : Progress)
    → over bytes (tokens ++ t ∷ []) p ≡ option_and_then (λ q. after q (lexeme_of (text_of bytes t)) t.span.start)
    (over bytes tokens p)
over-push bytes t [] p = one_over bytes (after p (lexeme_of (text_of bytes t)) t.span.start)
over-push bytes t (u ∷ tokens) p =
    over-push_by bytes t tokens (after p (lexeme_of (text_of bytes u)) u.span.start) (over-push bytes t tokens)

over-more : (bytes : List ℕ) (t : Token) (tokens : List Token) (p : Progress) (lexeme : Lexeme) (next : Option Progress)
    → over bytes tokens beginning ≡ Some p → lexeme ≡ lexeme_of (text_of bytes t) → next ≡ after p lexeme t.span.start
    → over bytes (tokens ++ t ∷ []) beginning ≡ next
over-more bytes t tokens p lexeme next known is came =
    over-push bytes t tokens beginning ∙ (ap (option_and_then (λ q. after q (lexeme_of (text_of bytes t))
    t.span.start)) known ∙ (ap (λ l. after p l t.span.start) (sym is) ∙ sym came))

pub over-take : (bytes : List ℕ) (tokens : List Token) (i : ℕ) (d : Token) (p : Progress) (lexeme : Lexeme)
    (next : Option Progress)
    → i < length tokens → over bytes (take i tokens) beginning ≡ Some p
    → lexeme ≡ lexeme_of (text_of bytes (get_or tokens i d)) → next ≡ after p lexeme (get_or tokens i d).span.start
    → over bytes (take (i + 1) tokens) beginning ≡ next
over-take bytes tokens i d p lexeme next within known is came =
    let more : take (i + 1) tokens ≡ take i tokens ++ get_or tokens i d ∷ [] = rw add-one
    (take-suc tokens i d within) in
    ap (λ ts. over bytes ts beginning) more ∙ over-more bytes (get_or tokens i d) (take i tokens) p lexeme next
    known is came

pub IsReading-stopped : (bytes : List ℕ) (tokens : List Token) (i : ℕ) (d : Token) (p : Progress)
    → i < length tokens → over bytes (take i tokens) beginning ≡ Some p
    → over bytes (take (i + 1) tokens) beginning ≡ None → IsReading bytes tokens (Stray (get_or tokens i d).span.start)
IsReading-stopped bytes tokens i d p within known stop =
    stopped i p within known stop (ap Stray (sym (get_or-map (λ t. t.span.start) tokens i d 0 within)))

pub IsReading-whole : (bytes : List ℕ) (tokens : List Token) (i : ℕ) (p : Progress) (reading : Reading)
    → length tokens ≤ i → over bytes (take i tokens) beginning ≡ Some p → IsEnded p (length bytes) reading
    → IsReading bytes tokens reading
IsReading-whole bytes tokens i p reading all known end =
    whole p (ap (λ ts. over bytes ts beginning) (sym (take_all i tokens all)) ∙ known) end

pub of_true : {A : Type 0} (v : Bool) (a b x : A) → v ≡ true → cond v a b ≡ x → a ≡ x
of_true true a b x is h = h
of_true false a b x is h = absurd (cc)

pub of_false : {A : Type 0} (v : Bool) (a b x : A) → v ≡ false → cond v a b ≡ x → b ≡ x
of_false true a b x is h = absurd (cc)
of_false false a b x is h = h
