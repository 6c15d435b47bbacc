-- Applications, and what is seen of them, as plain data (own).
use Rattle.std.specs.Prelude.{Bool, cond, List, map, Option, Some, None}
use Rattle.elab_meaning.specs.Elab.{State}
use Rattle.elab_meaning.specs.View.{state_of}
use Rattle.nesc_core.specs.Plain.{Ty}
use Rattle.wire_facts.specs.Components.{components_of}
use Rattle.wire_facts.specs.Scopes.{Scope}
use Rattle.wire_facts.specs.Seen as plain
use Rattle.wire_scopes.specs.Keys.{types_in}
use Rattle.wire_elements.specs.View.{early_env, seen_of}
use Rattle.wire_pairs.specs.declared.facts.LineFacts.{LineFacts}
use Rattle.wire_told.specs.declared.brackets.Both.{Both}
use Rattle.wire_told.specs.Cuts.{state_when}
use Rattle.wire_told.specs.declared.sources.Sources.{Sources}
use Rattle.wire_told.specs.declared.survey.Behind.{Behind}
use Rattle.wire_told.specs.declared.survey.Sight.{Sight}

abbrev pub application_of : Sources → plain.Application
application_of s = record {
  components = components_of s.units.now;
  made = s.made.now;
  headers = early_env s.headers.now;
  envs = map early_env s.envs.now;
}

abbrev pub survey_of : Sight → plain.Survey
survey_of x = plain.survey (map seen_of x.seen.items) (types_in x.types)

-- what the lines behind go on with, where they go on
abbrev pub course_when : (goes_on : Bool) → List Ty → State → Option plain.Course
course_when goes_on types st = cond goes_on (Some (types, st)) None

abbrev pub course_in : (goes_on : Bool) → Sight → Option plain.Course
course_in goes_on x = course_when goes_on (types_in x.types) (state_of x.work)

abbrev pub behind_of : Behind → Sight → plain.Behind
behind_of b x = plain.behind b.facts (map seen_of x.seen.items) (course_in b.goes_on x)

abbrev pub sight_of : Sight → plain.Sight
sight_of x = plain.sight (map seen_of x.seen.items) (course_in x.is_whole x)

abbrev pub told_of : (goes_on : Bool) → List LineFacts → Sight → plain.Told
told_of goes_on lines x = plain.told lines (map seen_of x.seen.items) (course_in goes_on x)

abbrev pub both_of : Both → State → plain.Both
both_of b st = ((b.first, b.second), state_when b.goes_on st)

abbrev pub scopes_of : List plain.Seen → List Scope
scopes_of seen = map (λ (x : plain.Seen). x.scope) seen
