-- What is kept of tokens.
use Rattle.std.proofs.Common.{◌≡◌, ℕ, zero, suc, ◌+◌, ◌<◌, ◌≤◌, List, [], ◌∷◌, ◌++◌, length, take, drop, get_or, refl}
use Rattle.std.proofs.Common.{ap, subst, arith, sym, ◌∙◌, add-one}
use Rattle.std.proofs.lemmas.List.{take_more}
use Rattle.std.specs.Prelude.{Some, None, slice_get, ◌⊎◌}
use Rattle.std.proofs.Common.{inl, inr}
use Rattle.ck_base.specs.TokenText.{text_of}
use Rattle.ck_base.specs.declared.tokens.Token.{Token}
use Rattle.ck_base.specs.declared.tokens.TokenKind.{TokenKind}
use Rattle.ck_base.specs.declared.tokens.TokenKind.TheVariants as kinds
use Rattle.ck_grammar.specs.FixedWords.{spelling}
use Rattle.ck_grammar.specs.Fitting.{operator_level}
use Rattle.ck_grammar.specs.Words.{Word, Ordinary, Typedef, Number, String, Fixed, word_by, follow}
use Rattle.ck_grammar.specs.declared.words.FixedWord.{FixedWord}
use Rattle.ck_readers.proofs.Unspelled.{follow_unspelled}
use Rattle.ck_readers.specs.Looks.{IsLook, AreLooks, Extends, IsSeen, IsSeenAt}
use Rattle.ck_readers.specs.SourceView.{SourceView, words}
use Rattle.ck_readers.specs.declared.seen.Seen.{Seen}
use Rattle.ck_readers.specs.declared.looks.Look.{Look}
use Rattle.ck_readers.specs.declared.looks.Look.TheVariants as looks

pub other_look : (names : List (List ℕ)) (kind : TokenKind) (text : List ℕ)
    → ((typedefs : List (List ℕ)) (found : FixedWord) → word_by typedefs kind text ≡ Fixed (spelling found) → ⊥)
    → (kind ≡ kinds.Key) ⊎ (kind ≡ kinds.Mark) → IsLook names kind text looks.Other
other_look names kind text h (inl is) = (rw is (λ typedefs. refl), λ found e. h [] found (rw is (ap Fixed e)))
other_look names kind text h (inr is) = (rw is (λ typedefs. refl), λ found e. h [] found (rw is (ap Fixed e)))

get-append : (names more : List (List ℕ)) (i : ℕ) (text : List ℕ) → slice_get names i ≡ Some text
    → slice_get (names ++ more) i ≡ Some text
get-append [] more i text h = grind (arith, h)
get-append (x ∷ names) more zero text h = h
get-append (x ∷ names) more (suc i) text h = get-append names more i text h

-- names that are added leave what is kept
kept-append : (names more : List (List ℕ)) (kind : TokenKind) (text : List ℕ) (look : Look)
    → IsLook names kind text look → IsLook (names ++ more) kind text look
kept-append names more kind text (looks.Fixed found) h = h
kept-append names more kind text (looks.Name number) h = (h.0, get-append names more number text h.1)
kept-append names more kind text looks.Constant h = h
kept-append names more kind text looks.Text h = h
kept-append names more kind text looks.Other h = h

all-append : (bytes : List ℕ) (names more : List (List ℕ)) (ts : List Token) (ls : List Look)
    → AreLooks bytes names ts ls → AreLooks bytes (names ++ more) ts ls
all-append bytes names more [] [] h = tt
all-append bytes names more (t ∷ ts) (l ∷ ls) h =
    (kept-append names more t.kind (text_of bytes t) l h.0, all-append bytes names more ts ls h.1)
all-append bytes names more [] (l ∷ ls) h = absurd h
all-append bytes names more (t ∷ ts) [] h = absurd h

pub all_kept : (bytes : List ℕ) (old new : List (List ℕ)) (ts : List Token) (ls : List Look) → Extends old new
    → AreLooks bytes old ts ls → AreLooks bytes new ts ls
all_kept bytes old new ts ls extends h =
    subst (λ names. AreLooks bytes names ts ls) (sym extends.is) (all-append bytes old extends.more ts ls h)

-- what is kept of one more token
pub looks_more : (bytes : List ℕ) (names : List (List ℕ)) (ts : List Token) (t : Token) (ls : List Look) (l : Look)
    → AreLooks bytes names ts ls → IsLook names t.kind (text_of bytes t) l
    → AreLooks bytes names (ts ++ (t ∷ [])) (ls ++ (l ∷ []))
looks_more bytes names [] t [] l h is = (is, tt)
looks_more bytes names (x ∷ ts) t (y ∷ ls) l h is = (h.0, looks_more bytes names ts t ls l h.1 is)
looks_more bytes names [] t (y ∷ ls) l h is = absurd h
looks_more bytes names (x ∷ ts) t [] l h is = absurd h

-- a token at a place and what is kept of it
pub record PairAt (bytes : List ℕ) (names : List (List ℕ)) (tokens : List Token) (at : ℕ) (t : Token)
    (l : Look) : Type 0 where
  pub token : drop at tokens ≡ t ∷ drop (suc at) tokens
  pub within : suc at ≤ length tokens
  pub kept : IsLook names t.kind (text_of bytes t) l

pair-later : (bytes : List ℕ) (names : List (List ℕ)) (x : Token) (tokens : List Token) (at : ℕ) (t : Token) (l : Look)
    → PairAt bytes names tokens at t l → PairAt bytes names (x ∷ tokens) (suc at) t l
pair-later bytes names x tokens at t l h = record {
  token = h.token;
  within = omega (arith, h.within);
  kept = h.kept;
}

pub pair_at : (bytes : List ℕ) (names : List (List ℕ)) (tokens : List Token) (looked : List Look) (at : ℕ) (t : Token)
    (l : Look) → AreLooks bytes names tokens looked → slice_get tokens at ≡ Some t → slice_get looked at ≡ Some l
    → PairAt bytes names tokens at t l
pair_at bytes names [] looked at t l h one two = cc
pair_at bytes names (x ∷ tokens) [] at t l h one two = absurd h
pair_at bytes names (x ∷ tokens) (y ∷ looked) zero t l h one two =
    let same : x ≡ t = cc in
    let also : y ≡ l = cc in
    record {
      token = ap (λ z. z ∷ tokens) same;
      within = omega arith;
      kept =
          subst (λ z. IsLook names z.kind (text_of bytes z) l) same
          (subst (IsLook names x.kind (text_of bytes x)) also h.0);
    }
pair_at bytes names (x ∷ tokens) (y ∷ looked) (suc at) t l h one two =
    pair-later bytes names x tokens at t l (pair_at bytes names tokens looked at t l h.1 one two)

-- past the last token
pub past_all : (tokens : List Token) (at : ℕ) → slice_get tokens at ≡ None → drop at tokens ≡ []
past_all [] zero h = refl
past_all [] (suc at) h = refl
past_all (t ∷ tokens) zero h = cc
past_all (t ∷ tokens) (suc at) h = past_all tokens at h

-- something is kept of each token
pub looked_past : (bytes : List ℕ) (names : List (List ℕ)) (tokens : List Token) (looked : List Look) (at : ℕ)
    → AreLooks bytes names tokens looked → slice_get looked at ≡ None → drop at tokens ≡ []
looked_past bytes names [] looked zero h none = refl
looked_past bytes names [] looked (suc at) h none = refl
looked_past bytes names (t ∷ tokens) [] at h none = absurd h
looked_past bytes names (t ∷ tokens) (l ∷ looked) zero h none = cc
looked_past bytes names (t ∷ tokens) (l ∷ looked) (suc at) h none = looked_past bytes names tokens looked at h.1 none

-- a loop over tokens that keeps something of each
pub looks_step : (bytes : List ℕ) (old new : List (List ℕ)) (tokens : List Token) (i : ℕ) (d : Token)
    (before after : List Look) (l : Look) (text : List ℕ) → i < length tokens
    → AreLooks bytes old (take i tokens) before → Extends old new → after ≡ before ++ (l ∷ [])
    → text ≡ text_of bytes (get_or tokens i d) → IsLook new (get_or tokens i d).kind text l
    → AreLooks bytes new (take (i + 1) tokens) after
looks_step bytes old new tokens i d before after l text below so_far extends pushed is told =
    let more : AreLooks bytes new (take i tokens ++ (get_or tokens i d ∷ [])) (before ++ (l ∷ [])) =
    looks_more bytes new (take i tokens) (get_or tokens i d) before l
    (all_kept bytes old new (take i tokens) before extends so_far)
    (subst (λ x. IsLook new (get_or tokens i d).kind x l) is told) in
    subst (AreLooks bytes new (take (i + 1) tokens)) (sym pushed)
    (subst (λ ts. AreLooks bytes new ts (before ++ (l ∷ []))) (sym (take_more tokens i d below)) more)

-- a token at a place with its word, by what is kept of it
seen_here : (bytes : List ℕ) (names typedefs : List (List ℕ)) (tokens : List Token) (at : ℕ) (t : Token) (l : Look)
    (seen : Seen) → PairAt bytes names tokens at t l
    → ((kind : TokenKind) (text : List ℕ) → IsLook names kind text l → IsSeen (word_by typedefs kind text) seen)
    → IsSeenAt (words (record { bytes = bytes; typedefs = typedefs; tokens = tokens })) tokens at (t, seen, at + 1)
seen_here bytes names typedefs tokens at t l seen pair tells = record {
  token = pair.token ∙ ap (λ n. t ∷ drop n tokens) (sym (add-one at));
  told = tells t.kind (text_of bytes t) pair.kept;
  next = add-one at;
  within = omega (arith, pair.within);
}

pub seen_pair : (s : SourceView) (bytes : List ℕ) (names typedefs : List (List ℕ)) (tokens : List Token) (at : ℕ)
    (t : Token) (l : Look) (seen : Seen) → record { bytes = bytes; typedefs = typedefs; tokens = tokens } ≡ s
    → PairAt bytes names tokens at t l
    → ((kind : TokenKind) (text : List ℕ) → IsLook names kind text l → IsSeen (word_by typedefs kind text) seen)
    → IsSeenAt (words s) s.tokens at (t, seen, at + 1)
seen_pair s bytes names typedefs tokens at t l seen view pair tells =
    subst (λ v. IsSeenAt (words v) v.tokens at (t, seen, at + 1)) view
    (seen_here bytes names typedefs tokens at t l seen pair tells)

-- what is no fixed word is no operator
pub level_unfixed : (word : Word) → ((found : FixedWord) → word ≡ Fixed (spelling found) → ⊥)
    → operator_level (follow word) ≡ 0
level_unfixed Ordinary h = refl
level_unfixed Typedef h = refl
level_unfixed Number h = refl
level_unfixed String h = refl
level_unfixed (Fixed text) h = ap operator_level (follow_unspelled text (λ found e. h found (ap Fixed e)))

abbrev with_typedef : Token → SourceView → SourceView
with_typedef t s = record { bytes = s.bytes; typedefs = text_of s.bytes t ∷ s.typedefs; tokens = s.tokens }

-- the view with one more typedef name
pub view_added : (s : SourceView) (bytes : List ℕ) (typedefs all : List (List ℕ)) (tokens : List Token) (t : Token)
    → record { bytes = bytes; typedefs = typedefs; tokens = tokens } ≡ s → all ≡ text_of bytes t ∷ typedefs
    → record { bytes = bytes; typedefs = all; tokens = tokens } ≡ with_typedef t s
view_added s bytes typedefs all tokens t view added =
    let make : List (List ℕ) → SourceView = λ ds. record { bytes = bytes; typedefs = ds; tokens = tokens } in
    ap make added ∙ ap (with_typedef t) view

pub level_by : (bytes : List ℕ) (typedefs : List (List ℕ)) (t : Token) (text : List ℕ) → text ≡ text_of bytes t
    → ((names : List (List ℕ)) (found : FixedWord) → word_by names t.kind text ≡ Fixed (spelling found) → ⊥)
    → operator_level (follow (word_by typedefs t.kind (text_of bytes t))) ≡ 0
level_by bytes typedefs t text is h =
    level_unfixed (word_by typedefs t.kind (text_of bytes t))
    (λ found e. h typedefs found (ap (word_by typedefs t.kind) is ∙ e))

-- what a read finds, and where it finds nothing
pub got : {X : Type 0} (xs : List X) (i : ℕ) (x : X) → i < length xs → x ≡ get_or xs i x → slice_get xs i ≡ Some x
got [] i x below e = absurd (omega arith)
got (y ∷ xs) zero x below e = ap Some (sym e)
got (y ∷ xs) (suc i) x below e = got xs i x (omega arith) e

pub got_none : {X : Type 0} (xs : List X) (i : ℕ) → length xs ≤ i → slice_get xs i ≡ None
got_none [] zero past = refl
got_none [] (suc i) past = refl
got_none (y ∷ xs) zero past = absurd (omega arith)
got_none (y ∷ xs) (suc i) past = got_none xs i (omega arith)
