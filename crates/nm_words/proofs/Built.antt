-- What the builders of the command make of it.
use Rattle.std.proofs.Common.{◌≡◌, ◌∙◌, true, [], Some, ap}
use Rattle.std.specs.Prelude.{codes}
use Rattle.std.specs.Borrow.{Bor}
use Rattle.clap.specs.Walk.{Rule, Text, rule_of}
use Rattle.clap.specs.Simple.{App, app_of, app_of_fields, new_app, new_rule, new_shape}
use Rattle.clap.specs.declared.builder.action.ArgAction.TheVariants.{Set}
use Rattle.clap.specs.declared.builder.arg.Arg.{Arg}
use Rattle.clap.specs.declared.builder.command.Command.{Command}
use Rattle.clap.specs.declared.builder.command.Command.TheViews.{out-Command}
use Rattle.std.proofs.Common.{false}
use Rattle.nm_words.specs.Command.{one_word}

abbrev pub bare : App
bare = record { top = record (new_shape (codes "nescmote")) { no_binary_name = true; has_version = true }; subs = [] }

pub bare_of : (a b c : Command) (v : Bor Text) → app_of a ≡ new_app (codes "nescmote")
    → out-Command b ≡ record (out-Command a) { no_binary_name = true } → out-Command c ≡ record (out-Command b) { version = Some v }
    → app_of c ≡ bare
bare_of a b c v new words version =
    ap app_of_fields version
    ∙ (ap (λ f. app_of_fields (record f { version = Some v })) words
    ∙ ap (λ (x : App). record { top = record x.top { no_binary_name = true; has_version = true }; subs = x.subs }) new)

pub required_word : (name : Text) (a b c : Arg) → rule_of a ≡ new_rule name → b ≡ record a { action = Some Set } → c ≡ record b { required = true }
    → rule_of c ≡ record (one_word name) { required = true }
required_word name a b c new set required =
    ap rule_of required
    ∙ (ap (λ (x : Arg). rule_of (record x { required = true })) set
    ∙ ap (λ (r : Rule). record r { action = Some Set; required = true }) new)

pub required_local : (a b c : Arg) → a.global ≡ false → b ≡ record a { action = Some Set } → c ≡ record b { required = true } → c.global ≡ false
required_local a b c new set required = ap (λ (x : Arg). x.global) required ∙ (ap (λ (x : Arg). x.global) set ∙ new)
