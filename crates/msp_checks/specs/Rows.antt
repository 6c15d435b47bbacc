-- Rows of what the code of a check tells, at values where it differs (own).
use Rattle.std.specs.Prelude.{◌≡◌, ℕ, Bool, true, false, [], ◌∷◌, slice_index}
use Rattle.nm_base.specs.Lists.{bit}
use Rattle.mid_code.specs.declared.code.Check.{Check}
use Rattle.msp_runtime.specs.Code.{Registers, meaning, weight}
use Rattle.msp_checks.specs.Checks.{check_code}

-- R12 as a call has it
abbrev pub called : ℕ → Registers
called x = record { regs = λ q. slice_index (0 ∷ 0 ∷ 0 ∷ 0 ∷ 4 ∷ 5 ∷ 6 ∷ 7 ∷ 8 ∷ 9 ∷ 10 ∷ 11 ∷ x ∷ 77 ∷ 78 ∷ 79 ∷ []) q; sr = 8; sp = 0x3000 }

abbrev pub no_runs : Check
no_runs = record { size = 2; runs = [] }

abbrev pub bytes : Check
bytes = record { size = 1; runs = (0x1101, 3) ∷ [] }

abbrev pub words : Check
words = record { size = 2; runs = (0x1102, 3) ∷ (0x1200, 0) ∷ (0x1204, 1) ∷ [] }

-- 10 bytes each
abbrev pub structs : Check
structs = record { size = 10; runs = (0x1104, 2) ∷ (0x1201, 2) ∷ [] }

abbrev pub without_size : Check
without_size = record { size = 0; runs = (0x1104, 2) ∷ [] }

-- Z behind the code
abbrev pub told : Check → ℕ → Bool
told check x = bit (meaning (check_code check) (called x)).sr 1

pub record WorkedRows : Type 0 where
  pub none : told no_runs 0x1102 ≡ false
  pub first_byte : told bytes 0x1101 ≡ true
  pub last_byte : told bytes 0x1103 ≡ true
  pub below_bytes : told bytes 0x1100 ≡ false
  pub above_bytes : told bytes 0x1104 ≡ false
  pub last_word : told words 0x1106 ≡ true
  pub odd_word : told words 0x1103 ≡ false
  pub above_words : told words 0x1108 ≡ false
  pub run_of_none : told words 0x1200 ≡ false
  pub later_run : told words 0x1204 ≡ true
  pub second_struct : told structs 0x110E ≡ true
  pub in_a_struct : told structs 0x110C ≡ false
  pub behind_structs : told structs 0x1118 ≡ false
  -- its remainder is that of the first run alone
  pub other_remainder : told structs 0x120C ≡ false
  pub odd_struct : told structs 0x120B ≡ true
  pub null : told structs 0 ≡ false
  pub sizeless : told without_size 0x1104 ≡ false
  pub weight_of_none : weight (check_code no_runs) ≡ 174
  pub weight_of_two : weight (check_code structs) ≡ 190
