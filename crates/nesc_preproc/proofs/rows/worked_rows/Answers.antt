use Rattle.std.proofs.Common.{refl}
use Rattle.std.specs.Int.{int_wrap}
use Rattle.nesc_conditions.specs.Signs.{opening_signs, following_signs}
use Rattle.nesc_preproc.specs.BuiltIn.{built_in_text, is_built_in}
use Rattle.nesc_preproc.specs.Obeyed.{directive_of}
use Rattle.nesc_preproc.proofs.rows.worked_rows.Goals as goal

-- src/rows.rt:6:1
pub returns : goal.returns
unfolding built_in_text is_built_in directive_of opening_signs following_signs int_wrap
returns c = record {
  loop = refl;
  uses_macro = refl;
  takes_else = refl;
  header_once = refl;
  unbalanced = refl;
  skipped_lines = refl;
  apart = refl;
  parenthesis_behind_splice = refl;
  blank_behind_splice = refl;
  paste_behind_splice = refl;
}
