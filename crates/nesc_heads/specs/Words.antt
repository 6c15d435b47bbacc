-- The words before the type of a function, as the grammar has them.
use Rattle.nesc_grammar.specs.Declarations as spec
use Rattle.nesc_heads.specs.declared.words.Words.{Words}

abbrev pub words_of : Words → spec.Words
words_of w = record { kind = w.kind; is_async = w.is_async; is_default = w.is_default }
