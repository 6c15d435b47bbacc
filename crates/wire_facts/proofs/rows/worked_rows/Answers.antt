use Rattle.std.proofs.Common.{refl}
use Rattle.elab_meaning.specs.Wired.{size_of}
use Rattle.wire_facts.proofs.rows.worked_rows.Goals as goal

pub returns-clause-brackets : goal.returns-clause-brackets
unfolding size_of
returns-clause-brackets c = record {
  types = refl;
  constant = refl;
  both = refl;
  unknown = refl;
  type_name = refl;
  component = refl;
  hidden = refl;
  divided = refl;
  measured = refl;
  first_in_text = refl;
  declared = refl;
  declared_later = refl;
  declared_badly = refl;
}

pub returns-clause-arguments : goal.returns-clause-arguments
returns-clause-arguments c = record {
  two_instances = refl;
  out_of_range = refl;
  value_for_type = refl;
  type_for_value = refl;
  unknown = refl;
  unknown_tag = refl;
  first_argument = refl;
  element_refused = refl;
  unique = refl;
  header_refused = refl;
  specification_refused = refl;
}
