-- Attempts, and what is in force, seen as plain data (own).
use Rattle.std.specs.Prelude.{◌≡◌, true, option_map}
use Rattle.elab_meaning.specs.Elab.{State}
use Rattle.elab_meaning.specs.View.{based_of, state_of}
use Rattle.body_meaning.specs.View.{decl_of, param_of, variable_of}
use Rattle.elab_meaning.specs.declared.work.Work.{Work}
use Rattle.elab_attempts.specs.declared.attempts.Attempt as attempt
use Rattle.elab_attempts.specs.declared.attempts.Attempt.TheVariants as A
use Rattle.elab_attempts.specs.declared.works.Works.{Works}
use Rattle.elab_attempts.specs.Parts.{Attempt, variable, a_type, parameter, bracket}

abbrev pub attempt_of : attempt.Attempt → Attempt
attempt_of (A.Variable b said v) = variable (based_of b.now) said (variable_of v.now)
attempt_of (A.Type d at) = a_type at (decl_of d.now)
attempt_of (A.Parameter p at) = parameter at (param_of p.now)
attempt_of (A.Bracket p at) = bracket at (option_map param_of p.now)

-- what is in force, by the work that scopes are seen as
abbrev pub now : Work → State
now w = state_of w

-- what is in force of the two
abbrev pub kept_in : Works → State
kept_in w = state_of w.kept

-- the trial is the same, where that is said
abbrev pub AreSame : Works → Type 0
AreSame w = w.is_same ≡ true → state_of w.trial ≡ state_of w.kept
