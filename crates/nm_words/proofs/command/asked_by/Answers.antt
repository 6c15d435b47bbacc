use Rattle.std.proofs.Common.{◌≡◌, ◌∙◌, ◌⊎◌, inl, inr, ◌∷◌, [], List, map, string_bytes, sym, subst, ap}
use Rattle.clap.specs.Words.{Row, Text, app_of, fault_of, found_of, is_simple, kind_of, matches_of, rows_of}
use Rattle.clap.specs.Faults.{is_simple_and_free}
use Rattle.clap.specs.declared.error.kind.ErrorKind.{ErrorKind}
use Rattle.clap.specs.declared.error.kind.ErrorKind.TheVariants.{DisplayHelp, DisplayVersion, OutOfMemory}
use Rattle.nm_words.specs.Asked.{IsRequest, requested}
use Rattle.nm_words.specs.Command.{nescmote}
use Rattle.nm_words.proofs.Answered.{asks_nothing, fails, refuses, simple, simple_app}
use Rattle.nm_words.specs.Asked.{HasUnknownMode, HasWrongSchedule, HasWrongSubject}
use Rattle.std.proofs.Common.{refl}
use Rattle.nm_words.proofs.Taken.{app_given, budget_given}
use Rattle.nm_words.proofs.command.asked_by.Goals as goal

pub returns-in-Some-clause-asked : goal.returns-in-Some-clause-asked
returns-in-Some-clause-asked c =
    let words : List Text = map string_bytes c.args.words.now in
    let is : app_of c.in_ok-command.command ≡ nescmote = c.in_ok-command.ensures in
    let taken : fault_of nescmote words ≡ [] = ap (λ a. fault_of a words) (sym is) ∙ c.in-Ok.ensures.kinds (ap is_simple_and_free is ∙ simple) in
    let rows : rows_of (found_of c.in-Ok.matches) ≡ matches_of nescmote words =
    (c.in-Ok.ensures.matches (ap is_simple is ∙ simple_app)).0 ∙ ap (λ a. matches_of a words) is in
    (taken, subst (λ (r : List Row). IsRequest r (requested c.in-Some.request)) rows c.in-Some.ensures.asked)

pub returns-in-Some-clause-range : goal.returns-in-Some-clause-range
returns-in-Some-clause-range c =
    let is : app_of c.in_ok-command.command ≡ nescmote = c.in_ok-command.ensures in
    let parsed = c.in-Ok.ensures.parsed in
    c.in-Some.ensures.range (app_given _ is _ parsed, budget_given _ is _ parsed)

pub returns-in-Ok-clause-usage : goal.returns-in-Ok-clause-usage
returns-in-Ok-clause-usage c usage =
    let words : List Text = map string_bytes c.args.words.now in
    let is : app_of c.in_ok-command.command ≡ nescmote = c.in_ok-command.ensures in
    let taken : fault_of nescmote words ≡ [] = ap (λ a. fault_of a words) (sym is) ∙ c.in-Ok.ensures.kinds (ap is_simple_and_free is ∙ simple) in
    let rows : rows_of (found_of c.in-Ok.matches) ≡ matches_of nescmote words =
    (c.in-Ok.ensures.matches (ap is_simple is ∙ simple_app)).0 ∙ ap (λ a. matches_of a words) is in
    asks_nothing words taken (λ r h. c.in-None.ensures.asked r (subst (λ (x : List Row). IsRequest x r) (sym rows) h))

pub returns-in-Ok-clause-refused : goal.returns-in-Ok-clause-refused
returns-in-Ok-clause-refused c usage =
    let words : List Text = map string_bytes c.args.words.now in
    let is : app_of c.in_ok-command.command ≡ nescmote = c.in_ok-command.ensures in
    let taken : fault_of nescmote words ≡ [] = ap (λ a. fault_of a words) (sym is) ∙ c.in-Ok.ensures.kinds (ap is_simple_and_free is ∙ simple) in
    let rows : rows_of (found_of c.in-Ok.matches) ≡ matches_of nescmote words =
    (c.in-Ok.ensures.matches (ap is_simple is ∙ simple_app)).0 ∙ ap (λ a. matches_of a words) is in
    let parsed = c.in-Ok.ensures.parsed in
    let why = c.in-None.ensures.refused refl (app_given _ is _ parsed, budget_given _ is _ parsed) in
    inr (taken, subst (λ (r : List Row). HasUnknownMode r ⊎ (HasWrongSchedule r ⊎ HasWrongSubject r)) rows why)

pub returns-in-DisplayHelp-clause-asked : goal.returns-in-DisplayHelp-clause-asked
returns-in-DisplayHelp-clause-asked c =
    let is : app_of c.in_ok-command.command ≡ nescmote = c.in_ok-command.ensures in
    let kind : DisplayHelp ≡ kind_of c.in-Err.error = c.in-DisplayHelp.ensures in
    fails _ (map string_bytes c.args.words.now) (kind_of c.in-Err.error) is (c.in-Err.ensures.kinds (ap is_simple_and_free is ∙ simple))
    (λ e. let bad : DisplayHelp ≡ OutOfMemory = kind ∙ e in cc)
    ∙ ap (λ (k : ErrorKind). k ∷ []) (sym kind)

pub returns-in-DisplayVersion-clause-asked : goal.returns-in-DisplayVersion-clause-asked
returns-in-DisplayVersion-clause-asked c =
    let is : app_of c.in_ok-command.command ≡ nescmote = c.in_ok-command.ensures in
    let kind : DisplayVersion ≡ kind_of c.in-Err.error = c.in-DisplayVersion.ensures in
    fails _ (map string_bytes c.args.words.now) (kind_of c.in-Err.error) is (c.in-Err.ensures.kinds (ap is_simple_and_free is ∙ simple))
    (λ e. let bad : DisplayVersion ≡ OutOfMemory = kind ∙ e in cc)
    ∙ ap (λ (k : ErrorKind). k ∷ []) (sym kind)

pub returns : goal.returns
returns c =
    let words : List Text = map string_bytes c.args.words.now in
    let is : app_of c.in_ok-command.command ≡ nescmote = c.in_ok-command.ensures in
    let kind : c.kind.result ≡ kind_of c.in-Err.error = c.kind.ensures in
    let refused = fails _ words (kind_of c.in-Err.error) is (c.in-Err.ensures.kinds (ap is_simple_and_free is ∙ simple))
    (λ e. c.in_default.not-OutOfMemory (kind ∙ e)) in
    let not_help : kind_of c.in-Err.error ≡ DisplayHelp → ⊥ = λ e. c.in_default.not-DisplayHelp (kind ∙ e) in
    let not_version : kind_of c.in-Err.error ≡ DisplayVersion → ⊥ = λ e. c.in_default.not-DisplayVersion (kind ∙ e) in
    record {
      asked = tt;
      range = tt;
      refused = λ u. inl (kind_of c.in-Err.error, refused, not_help, not_version);
      usage = λ u. refuses words _ refused not_help not_version;
    }
