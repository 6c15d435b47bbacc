-- What is told early, and what is seen of an instance, as plain data (own).
use Rattle.elab_meaning.specs.Scope.{Env}
use Rattle.elab_meaning.specs.View.{env_of}
use Rattle.wire_elements.specs.declared.early.Early as early
use Rattle.wire_elements.specs.declared.seen.Seen as seen
use Rattle.wire_facts.specs.Seen as plain
use Rattle.wire_scopes.specs.View.{scope_of}

abbrev pub early_env : early.Early → Env
early_env e = env_of e.told.env

abbrev pub seen_of : seen.Seen → plain.Seen
seen_of s = record { scope = scope_of s.scope; elements = s.elements.items; lines = s.lines.items }
