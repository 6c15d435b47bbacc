-- What `--help` and `--version` print.
use Rattle.clap.specs.Words.{Text}
use Rattle.nm_words.specs.declared.texts.TheConstants.{HELP, VERSION}

abbrev pub help_text : Text
help_text = HELP.now

abbrev pub version_text : Text
version_text = VERSION.now
