-- What the getters of matches find is what a request says.
use Rattle.std.proofs.Common.{◌≡◌, ◌∙◌, ℕ, Bool, true, false, List, Option, Some, None, is_some, not, refl, sym, ap}
use mathlib.Core.Bool.{beq}
use Rattle.std.specs.Prelude.{Result, Ok, Err, codes, option_map, option_and_then}
use Rattle.std.specs.Borrow.{Bor}
use Rattle.std.specs.Str.Parse.{ParsesUnsigned}
use Rattle.clap.specs.Matches.{ReadsOne, first_value, one_text}
use Rattle.clap.specs.Walk.{Row, Text, first_of, one_of, rows_of}
use Rattle.clap.specs.declared.parser.matches.Found.{Found}
use Rattle.clap.proofs.WalkLemmas.{first_value-rows, one_text-rows}
use Rattle.nm_words.specs.Asked.{IsRequest, Requested, number_of}
use Rattle.nm_words.specs.Modes.{mode_word}
use Rattle.nm_words.specs.declared.mode.Mode.{Mode}
use Rattle.nm_words.proofs.Numbers.{read, unread}
use Rattle.nm_words.proofs.OneAnswer.{same_mode, some_same}

abbrev Found1 : Type 0
Found1 = Option (Bor Text)

abbrev pub text_in : Found1 → Option Text
text_in = option_map (λ s. s.now)

pub found : (f : Found) (id : Text) (o : Found1) → text_in o ≡ first_value f id → first_of id (rows_of f) ≡ text_in o
found f id o e = sym (first_value-rows f id) ∙ sym e

pub found_none : (f : Found) (id : Text) (o : Found1) → text_in o ≡ first_value f id → o ≡ None → first_of id (rows_of f) ≡ None
found_none f id o e is = found f id o e ∙ ap text_in is

pub found_some : (f : Found) (id : Text) (o : Found1) (b : Bor Text) → text_in o ≡ first_value f id → o ≡ Some b → first_of id (rows_of f) ≡ Some b.now
found_some f id o b e is = found f id o e ∙ ap text_in is

pub lacks : {X : Type 0} (o : Option X) (x : X) → o ≡ None → o ≡ Some x → ⊥
lacks o x e f = let k : None ≡ Some x = sym e ∙ f in cc

pub has_text : (o : Found1) → is_some (text_in o) ≡ is_some o
has_text None = refl
has_text (Some b) = refl

pub differ : (a b : Bool) → not (beq a b) ≡ true → a ≡ b → ⊥
differ true true h e = cc
differ true false h e = cc
differ false true h e = cc
differ false false h e = cc

pub agree : (a b : Bool) → not (beq a b) ≡ false → a ≡ b
agree true true h = refl
agree true false h = cc
agree false true h = cc
agree false false h = refl

-- a request's mode is the one that its word names
pub mode_is : (rows : List Row) (r : Requested) (word : Text) (m : Mode) → IsRequest rows r → first_of (codes "MODE") rows ≡ Some word → word ≡ mode_word m → r.mode ≡ m
mode_is rows r word m is at names = same_mode r.mode m (some_same _ _ (sym is.mode ∙ (at ∙ ap (λ w. Some w) names)))

-- the number of the option is what std reads of its text
pub budget_read : (E : Type 0) (G : List ℕ → Result ℕ E → Type 0) (f : Found) (id : Text) (r : Option ℕ)
    → (one_text f id ≡ None → r ≡ None) → ((t : List ℕ) → one_text f id ≡ Some t → ReadsOne G t r)
    → ((t : List ℕ) (x : Result ℕ E) → G t x → ParsesUnsigned 32 10 t x)
    → option_and_then number_of (one_of id (rows_of f)) ≡ r
budget_read E G f id r none some only = go (one_text f id) refl
  where
    at : (t : List ℕ) (o : Option ℕ) → ReadsOne G t o → number_of t ≡ o
    at t (Some n) h = read E t n (only t (Ok n) h)
    at t None (e, h) = unread E t e (only t (Err e) h)

    go : (o : Option Text) → one_text f id ≡ o → option_and_then number_of (one_of id (rows_of f)) ≡ r
    go None e = ap (option_and_then number_of) (sym (one_text-rows f id) ∙ e) ∙ sym (none e)
    go (Some t) e = ap (option_and_then number_of) (sym (one_text-rows f id) ∙ e) ∙ at t r (some t e)
