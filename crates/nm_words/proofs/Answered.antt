-- What a parse answers, and what the words ask for.
use Rattle.std.proofs.Common.{◌≡◌, ◌∙◌, ◌⊎◌, inl, inr, true, List, [], ◌∷◌, Some, refl, sym, subst}
use Rattle.std.specs.Prelude.{codes}
use Rattle.clap.proofs.OnLiterals.{clap_on_literals}
use Rattle.clap.specs.Simple.{App, built, is_simple, matches_of}
use Rattle.clap.specs.Walk.{Row, Text, first_of}
use Rattle.clap.specs.Kinds.{IsAmong, Kinds}
use Rattle.clap.specs.Faults.{fault_of, is_simple_and_free}
use Rattle.clap.specs.declared.error.kind.ErrorKind.{ErrorKind}
use Rattle.clap.specs.declared.error.kind.ErrorKind.TheVariants.{DisplayHelp, DisplayVersion, OutOfMemory}
use Rattle.nm_words.specs.Asked.{AreInUse, IsRequest, Requested, help, request, version}
use Rattle.nm_words.specs.Command.{nescmote}
use Rattle.std.proofs.Common.{ap, is_some}
use Rattle.nm_words.specs.Asked.{IsRefused}
use Rattle.nm_words.specs.Modes.{IsSubject, mode_word, takes_schedule}
use Rattle.nm_words.specs.declared.mode.Mode.{Mode}
use Rattle.nm_words.specs.declared.mode.Mode.TheVariants.{Gen}
use Rattle.nm_words.proofs.OneAnswer.{same_mode, some_same}
use Rattle.nm_words.proofs.OneKind.{among_one, fault_one}

pub simple : is_simple_and_free nescmote ≡ true
unfolding clap_on_literals nescmote
simple = refl

pub simple_app : is_simple nescmote ≡ true
unfolding clap_on_literals nescmote
simple_app = refl

leaf : (built nescmote).top.is_leaf ≡ true
unfolding nescmote
leaf = refl

no_help : (built nescmote).top.disable_help_subcommand ≡ true
unfolding nescmote
no_help = refl

no_subcommands : (built nescmote).subs ≡ []
unfolding nescmote
no_subcommands = refl

fails_by : (words : List Text) (k : ErrorKind) → (k ≡ OutOfMemory) ⊎ IsAmong k (fault_of nescmote words) → (k ≡ OutOfMemory → ⊥)
    → fault_of nescmote words ≡ k ∷ []
fails_by words k (inl memory) other = absurd (other memory)
fails_by words k (inr among) other = among_one k (fault_of nescmote words) (fault_one nescmote words leaf no_help no_subcommands) among

-- an error's kind is all that the words come to
pub fails : (app : App) (words : List Text) (k : ErrorKind) → app ≡ nescmote → (k ≡ OutOfMemory) ⊎ IsAmong k (fault_of app words) → (k ≡ OutOfMemory → ⊥)
    → fault_of nescmote words ≡ k ∷ []
fails app words k is among other =
    fails_by words k (subst (λ (a : App). (k ≡ OutOfMemory) ⊎ IsAmong k (fault_of a words)) is among) other

no_kinds : (ks : Kinds) (k : ErrorKind) → ks ≡ [] → ks ≡ k ∷ [] → ⊥
no_kinds ks k e f = let g : [] ≡ k ∷ [] = sym e ∙ f in cc

one_same : (ks : Kinds) (k l : ErrorKind) → ks ≡ k ∷ [] → ks ≡ l ∷ [] → k ≡ l
one_same ks k l e f = let g : k ∷ [] ≡ l ∷ [] = sym e ∙ f in cc

-- words that the parser takes, and that ask for nothing
pub asks_nothing : (words : List Text) → fault_of nescmote words ≡ [] → ((r : Requested) → IsRequest (matches_of nescmote words) r → ⊥) → AreInUse words → ⊥
asks_nothing words none lacks (request r, h) = lacks r h.1
asks_nothing words none lacks (help, h) = no_kinds _ _ none h
asks_nothing words none lacks (version, h) = no_kinds _ _ none h

-- words that the parser refuses
pub refuses : (words : List Text) (k : ErrorKind) → fault_of nescmote words ≡ k ∷ [] → (k ≡ DisplayHelp → ⊥) → (k ≡ DisplayVersion → ⊥) → AreInUse words → ⊥
refuses words k fails not_help not_version (request r, h) = no_kinds _ k h.0 fails
refuses words k fails not_help not_version (help, h) = not_help (one_same _ _ _ fails h)
refuses words k fails not_help not_version (version, h) = not_version (one_same _ _ _ fails h)

-- the subject of a request is its mode's
pub subject_at : (rows : List Row) (r : Requested) (m : Mode) (word : Text) → IsRequest rows r → first_of (codes "MODE") rows ≡ Some (mode_word m)
    → first_of (codes "APP") rows ≡ Some word → IsSubject m word
subject_at rows r m word is named at =
    subst (λ (n : Mode). IsSubject n word) (same_mode r.mode m (some_same _ _ (sym is.mode ∙ named)))
    (subst (IsSubject r.mode) (some_same _ _ (sym is.subject ∙ at)) is.is_subject)

-- what is refused is not in use
pub refused_apart : (words : List Text) → IsRefused words → AreInUse words → ⊥
refused_apart words (inl (k, fails, not_help, not_version)) in_use = refuses words k fails not_help not_version in_use
refused_apart words (inr (taken, inl unknown)) in_use = asks_nothing words taken (λ r is. unknown r.mode is.mode) in_use
refused_apart words (inr (taken, inr (inl (m, named, wrong)))) in_use =
    asks_nothing words taken (λ r is.
    let same : r.mode ≡ m = same_mode r.mode m (some_same _ _ (sym is.mode ∙ named)) in
    wrong (ap is_some is.schedule ∙ (is.fits ∙ ap takes_schedule same))) in_use
refused_apart words (inr (taken, inr (inr (word, named, at, wrong)))) in_use =
    asks_nothing words taken (λ r is. wrong (subject_at _ r Gen word is named at)) in_use
