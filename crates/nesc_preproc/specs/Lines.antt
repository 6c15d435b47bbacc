-- Lines of tokens: directives, and the runs of ordinary tokens between them (C99 6.10).
use Rattle.std.specs.Prelude.{Bool, true, false, not, ◌&&◌, ◌||◌, List, [], ◌∷◌, codes}
use Rattle.nm_base.specs.declared.token.Token.{Token}
use Rattle.nesc_macros.specs.Invocation.{is_sign}

-- what is before the scan: tokens, and the ends of the files that they came from
pub data Item : Type 0 where
  Read : Token → Item
  End : Item

-- a `#` that is the first token of its line
abbrev pub begins_directive : Token → Bool
begins_directive t = t.first && is_sign (codes "#") t

-- the tokens up to the next line, and what follows them
abbrev pub line_of : List Token → List Token
line_of [] = []
line_of (t ∷ ts) = elim (t.first) [ true ↦ [] | false ↦ t ∷ line_of ts ]

abbrev pub behind_line : List Token → List Token
behind_line [] = []
behind_line (t ∷ ts) = elim (t.first) [ true ↦ t ∷ ts | false ↦ behind_line ts ]

-- the tokens up to the next directive, and what follows them
abbrev pub run_of : List Token → List Token
run_of [] = []
run_of (t ∷ ts) = elim (begins_directive t) [ true ↦ [] | false ↦ t ∷ run_of ts ]

abbrev pub behind_run : List Token → List Token
behind_run [] = []
behind_run (t ∷ ts) = elim (begins_directive t) [ true ↦ t ∷ ts | false ↦ behind_run ts ]

-- the tokens up to the end of their file, and the items from there on
abbrev pub file_front : List Item → List Token
file_front [] = []
file_front (End ∷ items) = []
file_front (Read t ∷ items) = t ∷ file_front items

abbrev pub behind_file : List Item → List Item
behind_file [] = []
behind_file (End ∷ items) = End ∷ items
behind_file (Read t ∷ items) = behind_file items

-- the directives alone; `inside` says that a directive's line goes on
abbrev pub directives_of : Bool → List Token → List Token
directives_of inside [] = []
directives_of inside (t ∷ ts) =
    elim (begins_directive t || (inside && not t.first)) [ true ↦ t ∷ directives_of true ts | false ↦ directives_of false ts ]
