-- Words ask for one thing.
use Rattle.std.proofs.Common.{◌≡◌, ◌∙◌, ℕ, cond, List, Option, Some, None, refl, sym, ap}
use Rattle.std.specs.Prelude.{codes}
use Rattle.std.specs.Str.{bytes_eq}
use Rattle.clap.specs.Words.{Row, Text}
use Rattle.nm_words.specs.declared.mode.Mode.{Mode}
use Rattle.nm_words.specs.declared.mode.Mode.TheVariants.{Check, Build, Run, Mote, Gen}
use Rattle.nm_words.specs.Asked.{Asked, AreWords, IsRequest, Requested, help, request, version}
use Rattle.nm_words.specs.Modes.{mode_word}

-- the mode of a word
abbrev pub mode_at : Text → Option Mode
mode_at word =
    cond (bytes_eq word (codes "check")) (Some Check)
    (cond (bytes_eq word (codes "build")) (Some Build)
    (cond (bytes_eq word (codes "run")) (Some Run)
    (cond (bytes_eq word (codes "mote")) (Some Mote)
    (cond (bytes_eq word (codes "gen")) (Some Gen) None))))

pub its_word : (m : Mode) → mode_at (mode_word m) ≡ Some m
its_word Check = refl
its_word Build = refl
its_word Run = refl
its_word Mote = refl
its_word Gen = refl

pub some_same : {X : Type 0} (x y : X) → Some x ≡ Some y → x ≡ y
some_same x y e = cc

pub same_mode : (m n : Mode) → mode_word m ≡ mode_word n → m ≡ n
same_mode m n e = some_same m n (sym (its_word m) ∙ (ap mode_at e ∙ its_word n))

same_requested : (rows : List Row) (a b : Requested) → IsRequest rows a → IsRequest rows b → a ≡ b
same_requested rows a b h k =
    let by_mode : Mode → Requested = λ x. record { mode = x; subject = a.subject; schedule = a.schedule; budget = a.budget } in
    let by_subject : Text → Requested = λ x. record { mode = b.mode; subject = x; schedule = a.schedule; budget = a.budget } in
    let by_schedule : Option Text → Requested = λ x. record { mode = b.mode; subject = b.subject; schedule = x; budget = a.budget } in
    let by_budget : ℕ → Requested = λ x. record { mode = b.mode; subject = b.subject; schedule = b.schedule; budget = x } in
    ap by_mode (same_mode a.mode b.mode (some_same _ _ (sym h.mode ∙ k.mode)))
    ∙ (ap by_subject (some_same _ _ (sym h.subject ∙ k.subject))
    ∙ (ap by_schedule (sym h.schedule ∙ k.schedule)
    ∙ ap by_budget (some_same _ _ (sym h.budget ∙ k.budget))))

pub one_request : (words : List Text) (a b : Asked) → AreWords words a → AreWords words b → a ≡ b
one_request words (request a) (request b) h k = ap request (same_requested _ a b h.1 k.1)
one_request words (request a) help h k = absurd (let e = sym h.0 ∙ k in cc)
one_request words (request a) version h k = absurd (let e = sym h.0 ∙ k in cc)
one_request words help (request b) h k = absurd (let e = sym k.0 ∙ h in cc)
one_request words help help h k = refl
one_request words help version h k = absurd (let e = sym h ∙ k in cc)
one_request words version (request b) h k = absurd (let e = sym k.0 ∙ h in cc)
one_request words version help h k = absurd (let e = sym h ∙ k in cc)
one_request words version version h k = refl
