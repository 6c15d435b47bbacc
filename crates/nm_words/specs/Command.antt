-- The command `nescmote MODE APP [SCHEDULE] [--budget N]`, as the parser of command lines reads it.
use Rattle.std.specs.Prelude.{true, [], ◌∷◌, Some, pos, codes}
use Rattle.clap.specs.Words.{App, Rule, Text, new_rule}
use Rattle.clap.specs.Simple.{new_shape}
use Rattle.clap.specs.declared.builder.action.ArgAction.TheVariants.{Set}
use Rattle.clap.specs.declared.builder.value_parser.ValueParser.TheVariants.{Signed}

-- an argument of one word
abbrev pub one_word : Text → Rule
one_word name = record (new_rule name) { action = Some Set }

-- three words in their order, of which the last may be left out
abbrev pub mode_rule : Rule
mode_rule = record (one_word (codes "MODE")) { required = true }

abbrev pub app_rule : Rule
app_rule = record (one_word (codes "APP")) { required = true }

abbrev pub schedule_rule : Rule
schedule_rule = one_word (codes "SCHEDULE")

-- `--budget N` anywhere: a number from 0 to 1000000, and 10000 where it is left out
abbrev pub budget_rule : Rule
budget_rule = record (one_word (codes "budget")) {
  long = Some (codes "budget");
  parser = Some (Signed (pos 0) (pos 1000000));
  defaults = codes "10000" ∷ [];
}

-- beside these the parser's own `--help` and `--version`; the words do not begin with the program's name
unfoldable pub nescmote : App
nescmote = record {
  top = record (new_shape (codes "nescmote")) {
    rules = mode_rule ∷ app_rule ∷ schedule_rule ∷ budget_rule ∷ [];
    no_binary_name = true;
    has_version = true;
  };
  subs = [];
}
