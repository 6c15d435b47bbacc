-- A command without subcommands fails by one kind of error.
use Rattle.std.proofs.Common.{inl, inr, ◌≡◌, ◌==◌, min, nat_lt, ℕ, ◌≤◌, ◌+◌, ◌&&◌, Bool, cond, not, true, false, zero, suc, sym, subst, arith, List, [], ◌∷◌, length, Option, Some, None}
use Rattle.std.specs.Prelude.{slice_get}
use Rattle.std.specs.Option.{option_map_or}
use Rattle.std.specs.Str.{chars}
use Rattle.clap.specs.Lexer.{long_of, short_of}
use Rattle.std.specs.List.{list_any}
use Rattle.clap.specs.Matches.{count_text}
use Rattle.clap.specs.Takes.{is_given}
use Rattle.clap.specs.Facts.{explicit_source, parser_of_value, unwrap_or_range}
use Rattle.clap.specs.Walk.{Held, Names, Row, Rule, Step, Text, Waiting, Walk, action_of, arg_by_id, arg_by_index, arg_by_long, arg_by_short, count_of, finished, most_values, nothing_held, next, trailing, subcommand, value, settled, subcommand_met, values_or_missing, walk, walk_from, walked, with_default, word_met}
use Rattle.clap.specs.Simple.{App, Shape, argument_words, built}
use Rattle.clap.specs.Kinds.{IsAmong, Kinds, check_kinds, or_else, range_kinds, request_kinds, value_kinds, values_kinds}
use Rattle.clap.specs.Faults.{action_fault, bundle_step_fault, check_fault, count_fault, default_fault, defaults_fault, fault_of, flag_word_fault, flags_fault, level_fault, long_fault, option_fault, other_fault, positional_fault, react_fault, set_fault, settle_fault, short_fault, step_fault, turn_fault, use_fault, walk_fault, word_fault}
use Rattle.clap.specs.declared.builder.action.ArgAction.{ArgAction}
use Rattle.clap.specs.declared.builder.action.ArgAction.TheVariants as action
use Rattle.clap.specs.declared.builder.value_parser.ValueParser.{ValueParser}
use Rattle.clap.specs.declared.error.kind.ErrorKind.{ErrorKind}
use Rattle.clap.specs.declared.error.kind.ErrorKind.TheVariants as kind
use Rattle.clap.proofs.FaultLemmas.{leaf_fault}

record IsOne (ks : Kinds) : Type 0 where
  short : length ks ≤ 1

-- ---- choices

none : IsOne []
none = record { short = omega arith }

one : (k : ErrorKind) → IsOne (k ∷ [])
one k = record { short = omega arith }

then_one : (a b : Kinds) → IsOne a → IsOne b → IsOne (or_else a b)
then_one [] b h k = k
then_one (x ∷ a) b h k = h

if_one : (t : Bool) (a b : Kinds) → IsOne a → IsOne b → IsOne (cond t a b)
if_one true a b h k = h
if_one false a b h k = k

some_one : {X : Type 0} (f : X → Kinds) (d : Kinds) (o : Option X) → ((x : X) → IsOne (f x)) → IsOne d → IsOne (option_map_or f o d)
some_one f d None h k = k
some_one f d (Some x) h k = h x

-- ---- one use of an argument

value_one : (i : Bool) (p : ValueParser) (t : Text) → IsOne (value_kinds i p t)
value_one i p t = if_one _ [] _ none (one _)

values_one : (i : Bool) (p : ValueParser) (ts : List Text) → IsOne (values_kinds i p ts)
values_one i p [] = none
values_one i p (t ∷ ts) = then_one _ _ (value_one i p t) (values_one i p ts)

request_one : (x : ArgAction) → IsOne (request_kinds x)
request_one action.Set = none
request_one action.Append = none
request_one action.SetTrue = none
request_one action.SetFalse = none
request_one action.Count = none
request_one action.Help = one kind.DisplayHelp
request_one action.HelpShort = one kind.DisplayHelp
request_one action.HelpLong = one kind.DisplayHelp
request_one action.Version = one kind.DisplayVersion

range_one : (least most n : ℕ) → IsOne (range_kinds least most n)
range_one least most n =
    if_one (nat_lt 0 least && n == 0) _ _ (one kind.InvalidValue)
    (if_one (least == most) _ _ (if_one (least == n) _ _ none (one kind.WrongNumberOfValues))
    (if_one (nat_lt n least) _ _ (one kind.TooFewValues) (if_one (nat_lt most n) _ _ (one kind.TooManyValues) none)))

set_one : (again : Bool) (a : Rule) (values : List Text) (rows : List Row) → IsOne (set_fault again a values rows)
set_one again a values rows = then_one _ _ (if_one _ _ _ (one _) none) (values_one _ _ values)

count_one : (a : Rule) (values : List Text) (rows : List Row) → IsOne (count_fault a values rows)
count_one a [] rows = value_one a.ignore_case (parser_of_value a.parser) (count_text (min (count_of a.id rows + 1) 255))
count_one a (v ∷ vs) rows = values_one a.ignore_case (parser_of_value a.parser) (v ∷ vs)

action_one : (x : ArgAction) (again : Bool) (a : Rule) (values : List Text) (rows : List Row) → IsOne (action_fault x again a values rows)
action_one action.Set again a values rows = set_one again a values rows
action_one action.SetTrue again a values rows = set_one again a values rows
action_one action.SetFalse again a values rows = set_one again a values rows
action_one action.Append again a values rows = values_one _ _ values
action_one action.Count again a values rows = count_one a values rows
action_one action.Help again a values rows = one kind.DisplayHelp
action_one action.HelpShort again a values rows = one kind.DisplayHelp
action_one action.HelpLong again a values rows = one kind.DisplayHelp
action_one action.Version again a values rows = one kind.DisplayVersion

use_one : (again : Bool) (a : Rule) (values : List Text) (rows : List Row) → IsOne (use_fault again a values rows)
use_one again a values rows =
    then_one _ _ (range_one (unwrap_or_range a.range).start_inclusive (most_values a) (length values)) (action_one (action_of a) again a (values_or_missing a values) rows)

-- ---- one word

settle_one : (c : List Rule) (again : Bool) (h : Held) → IsOne (settle_fault c again h)
settle_one c again h = some_one _ [] h.pending (λ p. some_one _ [] (arg_by_id c p.0) (λ a. use_one again a p.1 h.rows) none) none

react_one : (c : List Rule) (again : Bool) (a : Rule) (values : List Text) (h : Held) → IsOne (react_fault c again a values h)
react_one c again a values h = then_one _ _ (settle_one c again h) (use_one again a values _)

option_one : (c : List Rule) (again : Bool) (a : Rule) (v : Option Text) (h : Held) → IsOne (option_fault c again a v h)
option_one c again a None h = settle_one c again h
option_one c again a (Some v) h = react_one c again a (v ∷ []) h

long_one : (c : List Rule) (again : Bool) (a : Option Rule) (v : Option Text) (h : Held) → IsOne (long_fault c again a v h)
long_one c again None v h = one _
long_one c again (Some a) v h = if_one _ _ _ (option_one c again a v h) (if_one _ _ _ (one _) (react_one c again a [] h))

short_one : (c : List Rule) (again : Bool) (a : Option Rule) (rest : Text) (h : Held) (then : Held → Kinds) → ((k : Held) → IsOne (then k)) → IsOne (short_fault c again a rest h then)
short_one c again None rest h then each = one _
short_one c again (Some a) rest h then each =
    if_one _ _ _ (option_one c again a _ h) (then_one _ _ (react_one c again a [] h) (each _))

bundle_step_one : (c : List Rule) (again : Bool) (x : Option ℕ) (flags : Text) (skip : ℕ) (h : Held) (then : Text → ℕ → Held → Kinds)
    → ((t : Text) (n : ℕ) (k : Held) → IsOne (then t n k)) → IsOne (bundle_step_fault c again x flags skip h then)
bundle_step_one c again None flags skip h then each = none
bundle_step_one c again (Some x) flags zero h then each = short_one c again (arg_by_short c x) _ h _ (λ k. each _ 0 k)
bundle_step_one c again (Some x) flags (suc skip) h then each = each _ skip h

flags_one : (c : List Rule) (again : Bool) (k : ℕ) (flags : Text) (skip : ℕ) (h : Held) → IsOne (flags_fault c again k flags skip h)
unfolding flags_fault
flags_one c again zero flags skip h = none
flags_one c again (suc k) flags skip h =
    bundle_step_one c again (slice_get (chars flags) 0) flags skip h (flags_fault c again k) (λ t n l. flags_one c again k t n l)

flag_word_one : (c : List Rule) (again : Bool) (p : Option (Text × Option Text)) (word : Text) (h : Held) → IsOne (flag_word_fault c again p word h)
flag_word_one c again (Some p) word h = long_one c again (arg_by_long c p.0) p.1 h
flag_word_one c again None word h = some_one _ [] (short_of word) (λ flags. flags_one c again (length flags) flags h.skip _) none

help_one : (t d : Bool) (two : Kinds) → d ≡ true → IsOne (cond (t && not d) two [])
help_one t true two h = if_none t
  where
    if_none : (t : Bool) → IsOne (cond (t && false) two [])
    if_none true = none
    if_none false = none
help_one t false two h = cc

stray_one : (l : Bool) (k : ErrorKind) (two : Kinds) → l ≡ true → IsOne (cond l (k ∷ []) two)
stray_one true k two h = one k
stray_one false k two h = cc

checks_one : (a b c : Bool) → IsOne (check_kinds a b c)
checks_one true b c = one kind.DisplayHelpOnMissingArgumentOrSubcommand
checks_one false true c = one kind.MissingSubcommand
checks_one false false true = one kind.MissingRequiredArgument
checks_one false false false = none

module _ (s : Shape) (leaf : s.is_leaf ≡ true) (no_help : s.disable_help_subcommand ≡ true) (names : Names) where
  other_one : (name : Option Text) (word : Text) (h : Held) → IsOne (other_fault s name word h)
  other_one (Some name) word h = help_one _ s.disable_help_subcommand _ no_help
  other_one None word h = if_one _ _ _ none (flag_word_one s.rules s.args_override_self (long_of word) word h)

  word_one : (is_trailing : Bool) (waiting : Waiting) (word : Text) (h : Held) → IsOne (word_fault s names is_trailing waiting word h)
  word_one is_trailing waiting word h = if_one is_trailing _ _ none (other_one (subcommand_met names waiting word) word h)

  positional_one : (a : Rule) (h : Held) → IsOne (positional_fault s.rules s.args_override_self a h)
  positional_one a h = if_one _ _ _ none (settle_one s.rules s.args_override_self h)

  step_one : (position : ℕ) (h : Held) (step : Step) → IsOne (step_fault s position h step)
  step_one position h (next w) = none
  step_one position h (trailing p) = none
  step_one position h (subcommand n) = none
  step_one position h value = some_one _ _ (arg_by_index s.rules position) (λ a. positional_one a h) (stray_one s.is_leaf _ _ leaf)

  turn_one : (w : Walk) (word : Text) → IsOne (turn_fault s names w word)
  turn_one w word =
      let met = word_met s.rules names w.is_trailing w.waiting w.position word w.held in
      if_one _ _ _ none (then_one _ _ (word_one w.is_trailing w.waiting word w.held) (step_one w.position met.0 met.1))

  walk_one : (w : Walk) (words : List Text) → IsOne (walk_fault s names w words)
  unfolding walk_fault
  walk_one w [] = none
  walk_one w (word ∷ rest) = then_one _ _ (turn_one w word) (walk_one (walked s.rules names w word) rest)

  -- ---- after the words

  default_one : (rows : List Row) (a : Rule) → IsOne (default_fault rows a)
  default_one rows a = if_one _ _ _ none (then_one _ _ (request_one (action_of a)) (values_one _ _ a.defaults))

  defaults_one : (rows : List Row) (rules : List Rule) → IsOne (defaults_fault rows rules)
  unfolding defaults_fault
  defaults_one rows [] = none
  defaults_one rows (a ∷ rest) = then_one _ _ (default_one rows a) (defaults_one (with_default rows a) rest)

  check_one : (rows : List Row) (has : Bool) → IsOne (check_fault s rows has)
  check_one rows has = checks_one
      (not has && (s.arg_required_else_help && not (list_any (λ r. explicit_source r.source) rows)))
      (not has && s.subcommand_required)
      (not (s.subcommand_negates_reqs && has) && list_any (λ a. a.required && not (is_given a.id rows)) s.rules)

  level_one : (h : Held) (words : List Text) (has : Bool) → IsOne (level_fault s names h words has [])
  level_one h words has =
      let end = (walk s.rules names h words).held in
      then_one _ _ (walk_one (walk_from h) words)
      (then_one _ _ none (then_one _ _ (settle_one s.rules s.args_override_self end)
      (then_one _ _ (defaults_one (settled s.rules end).rows s.rules) (check_one (finished s.rules end) has))))

-- the command's faults are one kind, or none
pub fault_one : (a : App) (words : List Text) → (built a).top.is_leaf ≡ true → (built a).top.disable_help_subcommand ≡ true → (built a).subs ≡ []
    → length (fault_of a words) ≤ 1
fault_one a words leaf no_help no_subs =
    (subst IsOne (sym (leaf_fault (built a) nothing_held (argument_words a words) no_subs))
    (level_one (built a).top leaf no_help [] nothing_held (argument_words a words) false)).short

-- the one kind that there is
pub among_one : (k : ErrorKind) (ks : Kinds) → length ks ≤ 1 → IsAmong k ks → ks ≡ k ∷ []
among_one k [] h among = absurd among
among_one k (x ∷ []) h (inl same) = cc
among_one k (x ∷ []) h (inr none) = absurd none
among_one k (x ∷ y ∷ ks) h among = absurd (omega arith)
