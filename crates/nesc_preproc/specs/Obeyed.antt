-- What a directive does (C99 6.10; own: headers that are included again, and which error comes where).
use Rattle.std.specs.Prelude.{ℕ, Bool, true, false, not, ◌&&◌, List, [], ◌∷◌, ◌++◌, nat_le, codes, Option, Some, None, Result, Ok, Err, ℤ, if◌then◌else◌}
use Rattle.nm_base.specs.declared.token.Token.{Token}
use Rattle.nm_base.specs.declared.pos.Pos.{Pos}
use Rattle.nm_base.specs.declared.refusal.Refusal.TheVariants as refusal
use Rattle.nm_base.specs.declared.fault.Fault.{Fault}
use Rattle.nm_base.specs.declared.fault.Fault.TheVariants as fault
use Rattle.nesc_macros.specs.declared.definition.Macro.{Macro}
use Rattle.nesc_macros.specs.Invocation.{Name, same_name, is_among, is_word, macro_of}
use Rattle.nesc_macros.specs.Expansion.{Answer, and_then, refuses, expanded_tokens}
use Rattle.nesc_conditions.specs.Resolved.{resolved}
use Rattle.nesc_conditions.specs.Arithmetic.{is_true}
use Rattle.nesc_conditions.specs.Conditions.{condition}
use Rattle.nesc_preproc.specs.declared.directive.Directive.{Directive}
use Rattle.nesc_preproc.specs.declared.directive.Directive.TheVariants as directive
use Rattle.nesc_preproc.specs.declared.conditional.Conditional.{Conditional}
use Rattle.nesc_preproc.specs.Lines.{directives_of}
use Rattle.nesc_macros.specs.Tables.{without}
use Rattle.nesc_preproc.specs.Definitions.{defined_by, joined_in, only_word, included_by}
use Rattle.nesc_preproc.specs.Sources.{Known, World, Opened, with_count, opened}
use Rattle.nesc_preproc.specs.Conditionals.{is_live, begun, skipped, at_group, else_at, end_at}

-- ---- names

abbrev pub is_called : Token → List ℕ → Bool
is_called t text = is_word t && same_name t.text text

-- each name with its directive
abbrev pub directives : List (Name × Directive)
directives =
    (codes "define", directive.Define) ∷ (codes "undef", directive.Undef) ∷ (codes "include", directive.Include)
    ∷ (codes "if", directive.If) ∷ (codes "ifdef", directive.Ifdef) ∷ (codes "ifndef", directive.Ifndef)
    ∷ (codes "elif", directive.Elif) ∷ (codes "else", directive.Else) ∷ (codes "endif", directive.Endif)
    ∷ (codes "error", directive.Error) ∷ (codes "warning", directive.Warning) ∷ []

abbrev pub directive_in : Token → List (Name × Directive) → Directive
directive_in t [] = directive.Unknown
directive_in t (d ∷ ds) = if is_called t d.0 then d.1 else directive_in t ds

-- the directive of this name
unfoldable pub directive_of : Token → Directive
directive_of t = directive_in t directives

-- ---- what a directive leaves

-- what is kept, the macros, and the open conditionals of the file, innermost first
pub record Situation : Type 0 where
  pub known : Known
  pub macros : List Macro
  pub conditionals : List Conditional

-- a refusal, or the tokens of a header to be put before the scan, if there is one
pub record Outcome : Type 0 where
  pub value : Result (Option (List Token)) Fault
  pub now : Situation

abbrev pub goes_on : Situation → Outcome
goes_on s = record { value = Ok None; now = s }

abbrev pub stops : Fault → Situation → Outcome
stops e s = record { value = Err e; now = s }

abbrev pub malformed : Pos → Fault
malformed at = fault.Refused (refusal.BadDirective at)

abbrev pub with_conditionals : Situation → List Conditional → Situation
with_conditionals s cs = record { known = s.known; macros = s.macros; conditionals = cs }

abbrev pub with_macros : Situation → List Macro → Situation
with_macros s macros = record { known = s.known; macros = macros; conditionals = s.conditionals }

abbrev pub with_tokens : Situation → ℕ → Situation
with_tokens s tokens = record { known = with_count tokens s.known; macros = s.macros; conditionals = s.conditionals }

-- ---- conditions

abbrev pub truth_of : Pos → Option ℤ → Result Bool Fault
truth_of at None = Err (malformed at)
truth_of at (Some v) = Ok (is_true v)

abbrev pub valued : Pos → Option (Option ℤ) → ℕ → Option (Answer Bool)
valued at None count = None
valued at (Some v) count = Some (record { value = truth_of at v; count = count })

abbrev pub asked_of : ℕ → List Macro → ℕ → Pos → Option (List Token) → Option (Answer Bool)
asked_of steps macros count at None = refuses (malformed at) count
asked_of steps macros count at (Some line) = and_then (expanded_tokens steps macros count line) (λ ts count. valued at (condition steps ts) count)

-- whether the condition of a line holds: `defined` is resolved, macros are expanded, and the value is taken
abbrev pub asked : ℕ → List Macro → ℕ → Pos → List Token → Option (Answer Bool)
asked steps macros count at line = asked_of steps macros count at (resolved macros line)

-- ---- each directive

abbrev pub or_malformed : Pos → Situation → Option Situation → Outcome
or_malformed at s None = stops (malformed at) s
or_malformed at s (Some now) = goes_on now

abbrev pub defining : Situation → Option Macro → Option Situation
defining s None = None
defining s (Some m) = Some (with_macros s (without m.name s.macros ++ m ∷ []))

abbrev pub undefining : Situation → Option Name → Option Situation
undefining s None = None
undefining s (Some name) = Some (with_macros s (without name s.macros))

abbrev pub is_some_macro : Option Macro → Bool
is_some_macro None = false
is_some_macro (Some _) = true

abbrev pub opening : Situation → Conditional → Situation
opening s c = with_conditionals s (c ∷ s.conditionals)

-- `wanted` is whether the name has to be defined
abbrev pub by_name : Bool → Pos → Situation → Option Name → Option Situation
by_name wanted at s None = None
by_name true at s (Some name) = Some (opening s (begun at (is_some_macro (macro_of s.macros name))))
by_name false at s (Some name) = Some (opening s (begun at (not (is_some_macro (macro_of s.macros name)))))

abbrev pub regrouped : Situation → Option (List Conditional) → Option Situation
regrouped s None = None
regrouped s (Some cs) = Some (with_conditionals s cs)

abbrev pub answered : (Bool → Situation → Situation) → Situation → Answer Bool → Outcome
answered go s a = elim (a.value) [ Ok v ↦ goes_on (go v (with_tokens s a.count)) | Err e ↦ stops e (with_tokens s a.count) ]

abbrev pub after : (Bool → Situation → Situation) → Situation → Option (Answer Bool) → Option Outcome
after go s None = None
after go s (Some a) = Some (answered go s a)

abbrev pub if_live : ℕ → Pos → List Token → Situation → Bool → Option Outcome
if_live steps at line s false = Some (goes_on (opening s (skipped at)))
if_live steps at line s true = after (λ v now. opening now (begun at v)) s (asked steps s.macros s.known.tokens at line)

abbrev pub ifdef_live : Bool → Pos → List Token → Situation → Bool → Option Outcome
ifdef_live wanted at line s false = Some (goes_on (opening s (skipped at)))
ifdef_live wanted at line s true = Some (or_malformed at s (by_name wanted at s (only_word line)))

-- the last group is behind, or a group was taken
abbrev pub elif_by : ℕ → Pos → List Token → Situation → Conditional → List Conditional → Bool → Bool → Option Outcome
elif_by steps at line s c cs true taken = Some (stops (malformed at) s)
elif_by steps at line s c cs false true = Some (goes_on (with_conditionals s (at_group c false ∷ cs)))
elif_by steps at line s c cs false false = after (λ v now. with_conditionals now (at_group c v ∷ cs)) s (asked steps s.macros s.known.tokens at line)

abbrev pub elif_at : ℕ → Pos → List Token → Situation → List Conditional → Option Outcome
elif_at steps at line s [] = Some (stops (malformed at) s)
elif_at steps at line s (c ∷ cs) = elif_by steps at line s c cs c.last c.taken

-- ---- headers

-- the ordinary tokens of a header come at its first inclusion alone
abbrev pub header_tokens : Bool → List Token → List Token
header_tokens true ts = directives_of false ts
header_tokens false ts = ts

abbrev pub declared_with : Bool → Name → Known → Known
declared_with true name known = known
declared_with false name known = record { names = known.names; texts = known.texts; declared = known.declared ++ name ∷ []; bytes = known.bytes; tokens = known.tokens }

abbrev pub with_known : Situation → Known → Situation
with_known s known = record { known = known; macros = s.macros; conditionals = s.conditionals }

abbrev pub put_header : Situation → Name → Opened → Outcome
put_header s name o = elim (o.value) [
  | Err e ↦ stops e (with_known s o.known)
  | Ok ts ↦ record {
    value = Ok (Some (header_tokens (is_among o.known.declared name) ts));
    now = with_known s (declared_with (is_among o.known.declared name) name o.known);
  }
]

abbrev pub max_open : ℕ
max_open = 200

abbrev pub included_where : Bool → World → Pos → Situation → Name → Outcome
included_where true world at s name = stops (fault.Refused (refusal.IncludeLoop at)) s
included_where false world at s name = put_header s name (opened world s.known name)

-- so many files are open
abbrev pub included : World → ℕ → Pos → Situation → Option Name → Outcome
included world depth at s None = stops (malformed at) s
included world depth at s (Some name) = included_where (nat_le max_open depth) world at s name

-- ---- any directive

-- one that is no conditional, in a part that is not skipped
abbrev pub plain : World → ℕ → Pos → List Token → Situation → Directive → Outcome
plain world depth at line s directive.Define = or_malformed at s (defining s (defined_by (joined_in s.known.texts) line))
plain world depth at line s directive.Undef = or_malformed at s (undefining s (only_word line))
plain world depth at line s directive.Include = included world depth at s (included_by line)
plain world depth at line s directive.Error = stops (fault.Refused (refusal.HashError at)) s
plain world depth at line s directive.Warning = goes_on s
plain world depth at line s _ = stops (malformed at) s

abbrev pub plain_where : Bool → World → ℕ → Pos → List Token → Situation → Directive → Outcome
plain_where false world depth at line s d = goes_on s
plain_where true world depth at line s d = plain world depth at line s d

abbrev pub is_conditional : Directive → Bool
is_conditional directive.If = true
is_conditional directive.Ifdef = true
is_conditional directive.Ifndef = true
is_conditional directive.Elif = true
is_conditional directive.Else = true
is_conditional directive.Endif = true
is_conditional _ = false

abbrev pub grouped : ℕ → Pos → List Token → Situation → Directive → Option Outcome
grouped steps at line s directive.If = if_live steps at line s (is_live s.conditionals)
grouped steps at line s directive.Ifdef = ifdef_live true at line s (is_live s.conditionals)
grouped steps at line s directive.Ifndef = ifdef_live false at line s (is_live s.conditionals)
grouped steps at line s directive.Elif = elif_at steps at line s s.conditionals
grouped steps at line s directive.Else = Some (or_malformed at s (regrouped s (else_at s.conditionals line)))
grouped steps at line s directive.Endif = Some (or_malformed at s (regrouped s (end_at s.conditionals line)))
grouped steps at line s _ = Some (goes_on s)

abbrev pub named_by : Bool → ℕ → World → ℕ → Pos → List Token → Situation → Directive → Option Outcome
named_by true steps world depth at line s d = grouped steps at line s d
named_by false steps world depth at line s d = Some (plain_where (is_live s.conditionals) world depth at line s d)

abbrev pub named : ℕ → World → ℕ → Pos → List Token → Situation → Directive → Option Outcome
named steps world depth at line s d = named_by (is_conditional d) steps world depth at line s d

-- the line behind the `#` at this place, where so many files are open
abbrev pub obeyed : ℕ → World → ℕ → Pos → List Token → Situation → Option Outcome
obeyed steps world depth at [] s = Some (goes_on s)
obeyed steps world depth at (name ∷ line) s = named steps world depth at line s (directive_of name)
