use Rattle.std.proofs.Common.{◌≡◌, ◌∙◌, [], ◌∷◌, ℕ, List, true, false, Option, None, Some, is_some, refl, sym, ap, arith}
use Rattle.std.specs.Prelude.{codes}
use Rattle.std.specs.Fmt.{digits}
use Rattle.clap.proofs.OnLiterals.{clap_on_literals}
use Rattle.clap.specs.Words.{Text, fault_of, first_of, matches_of}
use Rattle.nm_words.specs.Asked.{AreInUse}
use Rattle.nm_words.specs.Modes.{IsSubject, mode_word, takes_schedule}
use Rattle.nm_words.specs.declared.mode.Mode.{Mode}
use Rattle.nm_words.proofs.Answered.{asks_nothing, subject_at}
use Rattle.std.proofs.lemmas.Str.Parse.{digit_from_value}
use Rattle.nm_words.proofs.Subjects.{all_digits, begins, spelled}
use Rattle.nm_words.proofs.OneAnswer.{its_word, mode_at, same_mode, some_same}
use Rattle.nm_words.specs.Command.{nescmote}
use Rattle.nm_words.specs.declared.mode.Mode.TheVariants.{Check, Run, Gen}
use Rattle.nm_words.proofs.rows.worked_rows.Goals as goal

no_mode : (m : Mode) → Some (codes "fly") ≡ Some (mode_word m) → ⊥
no_mode m e = let bad : None ≡ Some m = ap mode_at (some_same _ _ e) ∙ its_word m in cc

wants_schedule : (m : Mode) (schedule : Option Text) → Some (codes "run") ≡ Some (mode_word m) → None ≡ schedule → is_some schedule ≡ takes_schedule m → ⊥
wants_schedule m schedule named none fits =
    let mode = same_mode m Run (sym (some_same _ _ named)) in
    let bad : false ≡ true = ap is_some none ∙ (fits ∙ ap takes_schedule mode) in
    cc

wants_none : (m n : Mode) (file : List ℕ) (schedule : Option Text) → takes_schedule n ≡ false → Some (mode_word n) ≡ Some (mode_word m) → Some file ≡ schedule → is_some schedule ≡ takes_schedule m → ⊥
wants_none m n file schedule none named some fits =
    let mode = same_mode m n (sym (some_same _ _ named)) in
    let bad : true ≡ false = ap is_some some ∙ (fits ∙ (ap takes_schedule mode ∙ none)) in
    cc

-- the words `gen` and another one, which is no number of modules
no_number : (words : List Text) (word : Text) → fault_of nescmote words ≡ [] → first_of (codes "MODE") (matches_of nescmote words) ≡ Some (mode_word Gen)
    → first_of (codes "APP") (matches_of nescmote words) ≡ Some word → (IsSubject Gen word → ⊥) → AreInUse words → ⊥
no_number words word taken mode subject wrong = asks_nothing words taken (λ r is. wrong (subject_at _ r Gen word is mode subject))

none_at_all : IsSubject Gen (codes "0") → ⊥
none_at_all h = let s = spelled (codes "0") h in omega (arith, s.1, s.2)

too_large : IsSubject Gen (codes "61") → ⊥
too_large h = let s = spelled (codes "61") h in omega (arith, s.1, s.3)

zero_first : IsSubject Gen (codes "05") → ⊥
zero_first h = let first = begins (codes "05") h in omega (arith, first)

plus_first : IsSubject Gen (codes "+5") → ⊥
plus_first h = let first = begins (codes "+5") h in omega (arith, first)

no_digit : IsSubject Gen (codes "x") → ⊥
no_digit h = let digit = digit_from_value 120 (all_digits (codes "x") h).0 in omega (arith, digit.1)

pub returns-clause-in_use : goal.returns-clause-in_use
unfolding clap_on_literals nescmote digits
returns-clause-in_use c = record {
  check = (refl, record { mode = refl; subject = refl; is_subject = tt; schedule = refl; fits = refl; budget = refl });
  build = (refl, record { mode = refl; subject = refl; is_subject = tt; schedule = refl; fits = refl; budget = refl });
  no_budget = (refl, record { mode = refl; subject = refl; is_subject = tt; schedule = refl; fits = refl; budget = refl });
  mote = (refl, record { mode = refl; subject = refl; is_subject = tt; schedule = refl; fits = refl; budget = refl });
  modules = (refl, record { mode = refl; subject = refl; is_subject = (20, omega arith, omega arith, refl); schedule = refl; fits = refl; budget = refl });
  most_modules = (refl, record { mode = refl; subject = refl; is_subject = (60, omega arith, omega arith, refl); schedule = refl; fits = refl; budget = refl });
  behind = (refl, record { mode = refl; subject = refl; is_subject = tt; schedule = refl; fits = refl; budget = refl });
  in_one_word = (refl, record { mode = refl; subject = refl; is_subject = tt; schedule = refl; fits = refl; budget = refl });
  in_front = (refl, record { mode = refl; subject = refl; is_subject = tt; schedule = refl; fits = refl; budget = refl });
  between = (refl, record { mode = refl; subject = refl; is_subject = tt; schedule = refl; fits = refl; budget = refl });
  no_slots = (refl, record { mode = refl; subject = refl; is_subject = tt; schedule = refl; fits = refl; budget = refl });
  most_slots = (refl, record { mode = refl; subject = refl; is_subject = tt; schedule = refl; fits = refl; budget = refl });
  leading_zero = (refl, record { mode = refl; subject = refl; is_subject = tt; schedule = refl; fits = refl; budget = refl });
  plus = (refl, record { mode = refl; subject = refl; is_subject = tt; schedule = refl; fits = refl; budget = refl });
  no_more_options = (refl, record { mode = refl; subject = refl; is_subject = tt; schedule = refl; fits = refl; budget = refl });
  long_help = refl;
  short_help = refl;
  help_behind = refl;
  long_version = refl;
  short_version = refl;
}

pub returns-clause-not_in_use : goal.returns-clause-not_in_use
unfolding clap_on_literals nescmote
returns-clause-not_in_use c = record {
  no_words = refl;
  one_word = refl;
  four_words = refl;
  unknown_option = refl;
  cut_option = refl;
  help_too_late = refl;
  one_too_many = refl;
  letter = refl;
  below_zero = refl;
  empty_number = refl;
  no_number = refl;
  two_budgets = refl;
  unknown_mode = asks_nothing (codes "fly" ∷ codes "OneC" ∷ codes "none.txt" ∷ []) refl (λ r is. no_mode r.mode is.mode);
  no_schedule = asks_nothing (codes "run" ∷ codes "OneC" ∷ []) refl (λ r is. wants_schedule r.mode r.schedule is.mode is.schedule is.fits);
  check_by_schedule = asks_nothing (codes "check" ∷ codes "OneC" ∷ codes "none.txt" ∷ []) refl (λ r is. wants_none r.mode Check (codes "none.txt") r.schedule refl is.mode is.schedule is.fits);
  no_modules = no_number (codes "gen" ∷ codes "0" ∷ []) (codes "0") refl refl refl none_at_all;
  one_module_too_many = no_number (codes "gen" ∷ codes "61" ∷ []) (codes "61") refl refl refl too_large;
  modules_behind_zero = no_number (codes "gen" ∷ codes "05" ∷ []) (codes "05") refl refl refl zero_first;
  modules_behind_plus = no_number (codes "gen" ∷ codes "+5" ∷ []) (codes "+5") refl refl refl plus_first;
  modules_by_letter = no_number (codes "gen" ∷ codes "x" ∷ []) (codes "x") refl refl refl no_digit;
  modules_by_schedule = asks_nothing (codes "gen" ∷ codes "20" ∷ codes "none.txt" ∷ []) refl (λ r is. wants_none r.mode Gen (codes "none.txt") r.schedule refl is.mode is.schedule is.fits);
}
