-- Worked rows of the preprocessor, over files that were lexed.
use Rattle.std.specs.Prelude.{◌≡◌, ℕ, zero, suc, true, false, Bool, List, [], ◌∷◌, codes, map, Option, Some, None, Result, Ok, Err}
use Rattle.nm_base.specs.declared.token.Kind.{Kind}
use Rattle.nm_base.specs.declared.token.Kind.TheVariants.{Word, Number, Text, Sign}
use Rattle.nm_base.specs.declared.token.Token.{Token}
use Rattle.nm_base.specs.declared.refusal.Refusal.TheVariants as refusal
use Rattle.nm_base.specs.declared.fault.Fault.{Fault}
use Rattle.nm_base.specs.declared.fault.Fault.TheVariants as fault
use Rattle.nesc_macros.specs.Invocation.{Name}
use Rattle.nesc_preproc.specs.Sources.{World, nothing_known}
use Rattle.nesc_preproc.specs.Scanned.{Scanned, file_expanded}

abbrev pub token : Bool → Kind → ℕ → ℕ → Name → Token
token first kind line col text = record { kind = kind; text = text; pos = record { file = 0; line = line; col = col }; first = first }

-- the first of its line
abbrev pub hash : ℕ → Token
hash line = token true Sign line 1 (codes "#")

abbrev pub w : ℕ → ℕ → Name → Token
w = token false Word

abbrev pub s : ℕ → ℕ → Name → Token
s = token false Sign

abbrev pub n : ℕ → ℕ → Name → Token
n = token false Number

abbrev pub nth : List (List Token) → ℕ → List Token
nth [] k = []
nth (ts ∷ files) zero = ts
nth (ts ∷ files) (suc k) = nth files k

-- every name is a file, and they are lexed to these tokens in reading order
abbrev pub world_of : List (List Token) → World
world_of files = record { text_of = λ _. Some []; broken = None; lexed = λ k _. Ok (nth files k) }

abbrev pub Told : Type 0
Told = Option (Result (List Name) Fault × ℕ)

-- spellings, and the count of tokens
abbrev pub told : Option Scanned → Told
told None = None
told (Some r) = elim (r.value) [ Ok ts ↦ Some (Ok (map (λ (t : Token). t.text) ts), r.known.tokens) | Err e ↦ Some (Err e, r.known.tokens) ]

abbrev pub reads : List (List Token) → Told
reads files = told (file_expanded 1000 (world_of files) nothing_known (codes "a.h"))

-- #include "a.h"
abbrev pub includes_itself : List Token
includes_itself = hash 1 ∷ w 1 2 (codes "include") ∷ token false Text 1 10 (codes "\"a.h\"") ∷ []

-- #define f(x) x f
-- f(1)(2)
abbrev pub uses : List Token
uses =
    hash 1 ∷ w 1 2 (codes "define") ∷ w 1 9 (codes "f") ∷ s 1 10 (codes "(") ∷ w 1 11 (codes "x") ∷ s 1 12 (codes ")")
    ∷ w 1 14 (codes "x") ∷ w 1 16 (codes "f")
    ∷ token true Word 2 1 (codes "f") ∷ s 2 2 (codes "(") ∷ n 2 3 (codes "1") ∷ s 2 4 (codes ")") ∷ s 2 5 (codes "(") ∷ n 2 6 (codes "2") ∷ s 2 7 (codes ")") ∷ []

-- #if 1 == 2
-- a
-- #else
-- b
-- #endif
abbrev pub chooses : List Token
chooses =
    hash 1 ∷ w 1 2 (codes "if") ∷ n 1 5 (codes "1") ∷ s 1 7 (codes "==") ∷ n 1 10 (codes "2")
    ∷ token true Word 2 1 (codes "a")
    ∷ hash 3 ∷ w 3 2 (codes "else")
    ∷ token true Word 4 1 (codes "b")
    ∷ hash 5 ∷ w 5 2 (codes "endif") ∷ []

-- #include <b.h>
-- #include <b.h>
-- p
abbrev pub includes_twice : List Token
includes_twice =
    hash 1 ∷ w 1 2 (codes "include") ∷ s 1 10 (codes "<") ∷ w 1 11 (codes "b") ∷ s 1 12 (codes ".") ∷ w 1 13 (codes "h") ∷ s 1 14 (codes ">")
    ∷ hash 2 ∷ w 2 2 (codes "include") ∷ s 2 10 (codes "<") ∷ w 2 11 (codes "b") ∷ s 2 12 (codes ".") ∷ w 2 13 (codes "h") ∷ s 2 14 (codes ">")
    ∷ token true Word 3 1 (codes "p") ∷ []

-- q
-- #undef p
-- #define p 7
abbrev pub header : List Token
header =
    token true Word 1 1 (codes "q")
    ∷ hash 2 ∷ w 2 2 (codes "undef") ∷ w 2 8 (codes "p")
    ∷ hash 3 ∷ w 3 2 (codes "define") ∷ w 3 9 (codes "p") ∷ n 3 11 (codes "7") ∷ []

-- #if 1
-- #error
abbrev pub fails : List Token
fails = hash 1 ∷ w 1 2 (codes "ifdef") ∷ w 1 8 (codes "x") ∷ hash 2 ∷ w 2 2 (codes "error") ∷ []

-- #ifdef x
-- #if
-- #else y
-- #endif z
-- #endif
-- p
abbrev pub skips_nested : List Token
skips_nested =
    hash 1 ∷ w 1 2 (codes "ifdef") ∷ w 1 8 (codes "x")
    ∷ hash 2 ∷ w 2 2 (codes "if")
    ∷ hash 3 ∷ w 3 2 (codes "else") ∷ w 3 7 (codes "y")
    ∷ hash 4 ∷ w 4 2 (codes "endif") ∷ w 4 8 (codes "z")
    ∷ hash 5 ∷ w 5 2 (codes "endif")
    ∷ token true Word 6 1 (codes "p") ∷ []

-- #include <b b.h>
abbrev pub includes_apart : List Token
includes_apart =
    hash 1 ∷ w 1 2 (codes "include") ∷ s 1 10 (codes "<") ∷ w 1 11 (codes "b") ∷ w 1 13 (codes "b") ∷ s 1 14 (codes ".") ∷ w 1 15 (codes "h") ∷ s 1 16 (codes ">") ∷ []

-- the same of one file with this text
abbrev pub reads_text : List ℕ → List Token → Told
reads_text text tokens = told (file_expanded 1000 (record { text_of = λ _. Some text; broken = None; lexed = λ _ _. Ok tokens }) nothing_known (codes "a.h"))

abbrev pub spliced_text : List ℕ
spliced_text = codes "#define f\\\n(x) x\nf(1)\n"

-- its tokens
abbrev pub spliced_parenthesis : List Token
spliced_parenthesis =
    hash 1 ∷ w 1 2 (codes "define") ∷ w 1 9 (codes "f") ∷ s 2 1 (codes "(") ∷ w 2 2 (codes "x") ∷ s 2 3 (codes ")") ∷ w 2 5 (codes "x")
    ∷ token true Word 3 1 (codes "f") ∷ s 3 2 (codes "(") ∷ n 3 3 (codes "1") ∷ s 3 4 (codes ")") ∷ []

-- #define f \
--  (x)
-- f
abbrev pub spliced_blank : List Token
spliced_blank =
    hash 1 ∷ w 1 2 (codes "define") ∷ w 1 9 (codes "f") ∷ s 2 2 (codes "(") ∷ w 2 3 (codes "x") ∷ s 2 4 (codes ")")
    ∷ token true Word 3 1 (codes "f") ∷ []

-- #define f #\
-- # x
abbrev pub spliced_paste : List Token
spliced_paste = hash 1 ∷ w 1 2 (codes "define") ∷ w 1 9 (codes "f") ∷ s 1 11 (codes "#") ∷ s 2 1 (codes "#") ∷ w 2 3 (codes "x") ∷ []

pub record WorkedRows : Type 0 where
  pub loop : reads (includes_itself ∷ []) ≡ Some (Err (fault.Refused (refusal.IncludeLoop (record { file = 0; line = 1; col = 1 }))), 600)
  pub uses_macro : reads (uses ∷ []) ≡ Some (Ok (codes "1" ∷ codes "f" ∷ codes "(" ∷ codes "2" ∷ codes ")" ∷ []), 17)
  pub takes_else : reads (chooses ∷ []) ≡ Some (Ok (codes "b" ∷ []), 11)
  pub header_once : reads (includes_twice ∷ header ∷ []) ≡ Some (Ok (codes "q" ∷ codes "7" ∷ []), 32)
  -- `#error` in a part that is skipped does nothing; the conditional is not closed
  pub unbalanced : reads (fails ∷ []) ≡ Some (Err (fault.Refused (refusal.BadDirective (record { file = 0; line = 1; col = 1 }))), 5)
  -- in a part that is skipped what stands behind `#else` and `#endif` is not looked at
  pub skipped_lines : reads (skips_nested ∷ []) ≡ Some (Ok (codes "p" ∷ []), 14)
  -- the tokens of a file's name touch
  pub apart : reads (includes_apart ∷ []) ≡ Some (Err (fault.Refused (refusal.BadDirective (record { file = 0; line = 1; col = 1 }))), 8)
  -- behind a line splice a parenthesis touches the name, and a second `#` may touch the first
  pub parenthesis_behind_splice : reads_text spliced_text spliced_parenthesis ≡ Some (Ok (codes "1" ∷ []), 12)
  pub blank_behind_splice : reads (spliced_blank ∷ []) ≡ Some (Ok (codes "(" ∷ codes "x" ∷ codes ")" ∷ []), 10)
  pub paste_behind_splice : reads (spliced_paste ∷ []) ≡ Some (Err (fault.Refused (refusal.BadDirective (record { file = 0; line = 1; col = 1 }))), 6)
