-- Worked rows of the texts of images and schedules.
use Rattle.std.specs.Prelude.{◌≡◌, ℕ, [], ◌∷◌, Result, Ok, Err, codes}
use Rattle.mote_devices.specs.declared.shown.Given.TheVariants.{Arrive}
use Rattle.mote_text.specs.ImageLines.{image_of}
use Rattle.mote_text.specs.ScheduleText.{schedule_of}

abbrev pub byte_in : Result (ℕ → ℕ) ℕ → ℕ → ℕ
byte_in (Ok m) a = m a
byte_in (Err n) a = 999

pub record ImageRows : Type 0 where
  pub half_byte : image_of (codes "@4000\n31 4\n") ≡ Err 2
  pub named_twice : image_of (codes "@4000\n31 40\n@4001\n00\nq\n") ≡ Err 4
  pub no_end : image_of (codes "@4000\n31 40\n") ≡ Err 3
  pub no_end_of_line : image_of (codes "@4000\n31 40") ≡ Err 3
  pub nothing : image_of [] ≡ Err 1
  pub below_memory : image_of (codes "@1100\n00\nq\n") ≡ Err 1
  pub past_memory : image_of (codes "@FFFF\n00 01\nq\n") ≡ Err 2
  pub nine_digits : image_of (codes "@000004000\nq\n") ≡ Err 1
  pub no_address : image_of (codes "\n00\nq\n") ≡ Err 2
  pub behind_end : image_of (codes "q\n\n00\n") ≡ Err 3
  pub two_spaces : image_of (codes "@4000\n00  01\nq\n") ≡ Err 2
  pub first_space : image_of (codes "@4000\n 00\nq\n") ≡ Err 2
  pub seventeen : image_of (codes "@4000\n00 01 02 03 04 05 06 07 08 09 0A 0B 0C 0D 0E 0F 10\nq\n") ≡ Err 2
  pub lone_return : image_of (codes "@4000\n00\nq\r") ≡ Err 3
  pub low_byte : byte_in (image_of (codes "@4000\r\n31 4f \r\n\r\n@00FFFE\nAb\nq")) 0x4001 ≡ 0x4F
  pub vector : byte_in (image_of (codes "@4000\r\n31 4f \r\n\r\n@00FFFE\nAb\nq")) 0xFFFE ≡ 0xAB
  pub unnamed : byte_in (image_of (codes "@4000\r\n31 4f \r\n\r\n@00FFFE\nAb\nq")) 0xFFFF ≡ 0

pub record ScheduleRows : Type 0 where
  pub slots_fall : schedule_of (codes "5 arrive 2 1\n4 arrive 2 1\n") ≡ Err 2
  pub ninth_device : schedule_of (codes "5 arrive 8 1\n") ≡ Err 1
  pub seventeen_bits : schedule_of (codes "5 arrive 7 65536\n") ≡ Err 1
  pub late : schedule_of (codes "# a\n4294967296 arrive 7 1\n") ≡ Err 2
  pub eleven_digits : schedule_of (codes "00000000005 arrive 7 1") ≡ Err 1
  pub unplugged : schedule_of (codes "5 unplug 2\n") ≡ Err 1
  pub four_operands : schedule_of (codes "5 arrive 2 1 \n") ≡ Err 1
  pub last : schedule_of (codes "# a\r\n\n0000000005 arrive 07 065535\n4294967295 arrive 0 0")
      ≡ Ok (record { slot = 5; given = Arrive 7 65535 } ∷ record { slot = 0xFFFFFFFF; given = Arrive 0 0 } ∷ [])
  pub nothing : schedule_of [] ≡ Ok []
