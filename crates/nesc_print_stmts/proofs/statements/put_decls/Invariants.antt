-- What is there, with the words of what is left, is all.
use Rattle.std.proofs.Common.{◌≡◌, ◌++◌, drop}
use Rattle.nesc_print_words.specs.Statements.{decls_words}
use Rattle.nesc_print_stmts.proofs.statements.put_decls.Given as goal

abbrev pub invariant-loop-decl : goal.invariant-loop-decl
invariant-loop-decl l = l.words ++ decls_words (drop l.decl-index l.decl-items) ≡ l.fn.words ++ decls_words l.decls
