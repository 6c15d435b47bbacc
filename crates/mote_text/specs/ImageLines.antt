-- What a TI-TXT text says (TI-TXT, as the MSP430 tools write it; own: the memory from 0x4000 on, sixteen bytes a line at most).
use Rattle.std.specs.Prelude.{◌≡◌, ℕ, ◌+◌, ◌==◌, Bool, true, false, ◌&&◌, nat_lt, nat_le, if◌then◌else◌, List, [], ◌∷◌, length, Option, Some, None, Result, Ok, is_none}
use Rattle.std.specs.Option.{option_map, option_and_then, unwrap_or}
use Rattle.std.specs.Str.Lines.{lines}
use Rattle.nm_base.specs.declared.memory_map.TheConstants.{CODE_START}
use Rattle.msp_isa.specs.Image.{IsImage, image_map}
use Rattle.mote_text.specs.ImageText.{image_text}
use Rattle.mote_text.specs.Lines.{numeral, read_lines}

pub data ImageLine : Type 0 where
  Blank : ImageLine
  Section : ℕ → ImageLine
  Bytes : List ℕ → ImageLine
  End : ImageLine

-- ---- one line

-- 1 to 8 hexadecimal digits, from 0x4000 to 0xFFFF
abbrev pub section_address : List ℕ → Option ℕ
section_address digits =
    if nat_le (length digits) 8 then option_and_then (λ a. if nat_le CODE_START a then Some a else None) (numeral 16 0xFFFF digits) else None

-- a byte has two hexadecimal digits; a space stands behind each, and may be left out behind the last
unfoldable pub spaced_bytes : List ℕ → Option (List ℕ)
spaced_bytes [] = Some []
spaced_bytes (high ∷ []) = None
spaced_bytes (high ∷ low ∷ []) = option_map (λ b. b ∷ []) (numeral 16 255 (high ∷ low ∷ []))
spaced_bytes (high ∷ low ∷ space ∷ rest) =
    if space == 32 then option_and_then (λ b. option_map (λ bs. b ∷ bs) (spaced_bytes rest)) (numeral 16 255 (high ∷ low ∷ [])) else None

abbrev pub line_bytes : List ℕ → Option (List ℕ)
line_bytes line = option_and_then (λ bs. if nat_le (length bs) 16 then Some bs else None) (spaced_bytes line)

-- `@` and an address, `q`, or bytes; a blank line has no byte
abbrev pub image_line : List ℕ → Option ImageLine
image_line [] = Some Blank
image_line (c ∷ cs) =
    if c == 64 then option_map Section (section_address cs)
    else (if c == 113 then (if length cs == 0 then Some End else None)
    else option_map Bytes (line_bytes (c ∷ cs)))

-- ---- a text

-- where the next byte goes, if an address was given, the byte at each address that was named, and whether `q` was met
pub record Reading : Type 0 where
  pub next : Option ℕ
  pub byte_at : ℕ → Option ℕ
  pub ended : Bool

abbrev pub nothing_read : Reading
nothing_read = record { next = None; byte_at = λ a. None; ended = false }

-- the memory has addresses from 0x4000 to 0xFFFF, and each is named once at most
abbrev pub is_free : (ℕ → Option ℕ) → ℕ → Bool
is_free m a = nat_le CODE_START a && nat_lt a 0x10000 && is_none (m a)

abbrev pub with_byte : (ℕ → Option ℕ) → ℕ → ℕ → ℕ → Option ℕ
with_byte m a b x = if x == a then Some b else m x

-- bytes stored from an address on, and the address behind them
abbrev pub stored : (ℕ → Option ℕ) → ℕ → List ℕ → Option (ℕ × (ℕ → Option ℕ))
stored m a [] = Some (a, m)
stored m a (b ∷ bs) = if is_free m a then stored (with_byte m a b) (a + 1) bs else None

-- behind `q` only blank lines stand, and bytes stand behind an address
abbrev pub after_line : Reading → ImageLine → Option Reading
after_line r Blank = Some r
after_line r (Section a) = if r.ended then None else Some (record r { next = Some a })
after_line r (Bytes bs) =
    if r.ended then None
    else option_and_then (λ a. option_map (λ s. record { next = Some s.0; byte_at = s.1; ended = false }) (stored r.byte_at a bs)) r.next
after_line r End = if r.ended then None else Some (record r { ended = true })

abbrev pub image_step : Reading → List ℕ → Option Reading
image_step r line = option_and_then (after_line r) (image_line line)

-- a text ends with `q`; bytes that it does not name are 0
abbrev pub memory_of : Reading → Option (ℕ → ℕ)
memory_of r = if r.ended then Some (λ a. unwrap_or (r.byte_at a) 0) else None

-- the bytes that the text names, or the number of the first line that is refused
unfoldable pub image_of : List ℕ → Result (ℕ → ℕ) ℕ
image_of text = read_lines image_step memory_of 1 nothing_read (lines text)

-- a printed image reads back to its map
abbrev pub ImageReadsBack : Type 0
ImageReadsBack = (code vectors : List ℕ) → IsImage code vectors → image_of (image_text code vectors) ≡ Ok (image_map code vectors)
