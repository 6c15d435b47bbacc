-- What obeying a directive settles to.
use Rattle.std.specs.Prelude.{◌≡◌, ℕ, true, List, ◌∷◌, Option, Some, Result, Ok, Err}
use Rattle.std.proofs.Common.{ap, ◌∙◌}
use Rattle.nm_base.specs.declared.pos.Pos.{Pos}
use Rattle.nm_base.specs.declared.token.Token.{Token}
use Rattle.nm_base.specs.declared.fault.Fault.{Fault}
use Rattle.nm_base.specs.declared.fault.Fault.TheVariants as fault
use Rattle.nesc_preproc.specs.declared.context.Context.{Context}
use Rattle.nesc_preproc.specs.Sources.{World}
use Rattle.nesc_preproc.specs.Obeyed.{Outcome, Situation, directive_of, is_conditional, grouped, named_by, obeyed}
use Rattle.nesc_preproc.specs.Answers.{Obeys, ObeysIn, GivesIn}
use Rattle.nesc_preproc.proofs.Settling.{at_once, same_settles}

pub obeys_at_once : (r : Result (Unit {0}) Fault) (now : Context) (o : Outcome) → Obeys r now o → ObeysIn r now (λ _. Some o)
obeys_at_once (Ok u) now o h = rw h (at_once _)
obeys_at_once (Err (fault.Refused r)) now o h = rw h (at_once _)
obeys_at_once (Err (fault.Missing n)) now o h = rw h (at_once _)
obeys_at_once (Err fault.ReadFault) now o h = rw h (at_once _)
obeys_at_once (Err (fault.Limit l)) now o h = rw h (at_once _)
obeys_at_once (Err (fault.TooLarge r n)) now o h = rw h (at_once _)
obeys_at_once (Err fault.NoMemory) now o h = tt

gives_fault : (e : Fault) (now : Context) (f g : ℕ → Option Outcome) → ((n : ℕ) → g n ≡ f n) → ObeysIn (Err e) now f → GivesIn (Err e) now g
gives_fault (fault.Refused r) now f g e h = same_settles f g _ e h
gives_fault (fault.Missing n) now f g e h = same_settles f g _ e h
gives_fault fault.ReadFault now f g e h = same_settles f g _ e h
gives_fault (fault.Limit l) now f g e h = same_settles f g _ e h
gives_fault (fault.TooLarge r n) now f g e h = same_settles f g _ e h
gives_fault fault.NoMemory now f g e h = tt

-- a directive of a conditional
is_grouped : (world : World) (depth : ℕ) (at : Pos) (whole line : List Token) (name : Token) (s : Situation)
    → whole ≡ name ∷ line → is_conditional (directive_of name) ≡ true
    → (n : ℕ) → obeyed n world depth at whole s ≡ grouped n at line s (directive_of name)
is_grouped world depth at whole line name s e c n =
    ap (λ ts. obeyed n world depth at ts s) e ∙ ap (λ b. named_by b n world depth at line s (directive_of name)) c

pub grouped_refuses : (world : World) (depth : ℕ) (at : Pos) (whole line : List Token) (name : Token) (s : Situation) (now : Context) (e : Fault)
    → whole ≡ name ∷ line → is_conditional (directive_of name) ≡ true → ObeysIn (Err e) now (λ n. grouped n at line s (directive_of name))
    → GivesIn (Err e) now (λ n. obeyed n world depth at whole s)
grouped_refuses world depth at whole line name s now e is-line c h = gives_fault e now _ _ (is_grouped world depth at whole line name s is-line c) h
