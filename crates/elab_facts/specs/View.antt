-- What is known of functions and items seen as plain data (own).
use Rattle.std.specs.Prelude.{map}
use Rattle.std.specs.Option.{option_map}
use Rattle.nesc_core.specs.View.{type_of}
use Rattle.elab_facts.specs.declared.declared.Declared as declared
use Rattle.elab_facts.specs.declared.facts.Fact as fact
use Rattle.elab_facts.specs.declared.forms.Form as form
use Rattle.elab_facts.specs.declared.targets.First as first
use Rattle.elab_facts.specs.declared.targets.First.TheVariants as F
use Rattle.elab_facts.specs.declared.targets.Reached as reached
use Rattle.elab_facts.specs.declared.targets.Target as target
use Rattle.program_meaning.specs.Heads.{Form}
use Rattle.program_meaning.specs.Items as p
use Rattle.program_meaning.specs.Items.{Fact, First, Reached, Target}
use Rattle.program_meaning.specs.Making.{Declared}

abbrev pub form_of : form.Form → Form
form_of f = record {
  kind = f.kind;
  is_async = f.is_async;
  is_default = f.is_default;
  bracket = f.bracket;
  params = map type_of f.params;
  result = type_of f.result;
}

abbrev pub first_of : first.First → First
first_of F.Nothing = p.nothing
first_of (F.Given x) = p.given x
first_of (F.PassedOn t) = p.passed_on t

abbrev pub target_of : target.Target → Target
target_of t = record { body = t.body; first = first_of t.first }

abbrev pub reached_of : reached.Reached → Reached
reached_of c = record { value = c.value; targets = map target_of c.targets }

abbrev pub fact_of : fact.Fact → Fact
fact_of x = record {
  element = x.element;
  name = x.name;
  form = form_of x.form;
  is_event = x.is_event;
  comes_out = x.comes_out;
  one = option_map target_of x.one;
  cases = map reached_of x.cases;
  combine = x.combine;
}

abbrev pub declared_of : declared.Declared → Declared
declared_of d = record { name = d.name; item = d.item; form = form_of d.form; line = d.line; is_defined = d.is_defined }
