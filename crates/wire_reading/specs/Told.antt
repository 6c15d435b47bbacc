-- What files tell, and what a call that reads them does (own).
use Rattle.std.specs.Prelude.{◌≡◌, ℕ, List, Option, Result, Err}
use Rattle.nm_base.specs.declared.fault.Fault.{Fault}
use Rattle.nm_base.specs.declared.fault.Fault.TheVariants as fault
use Rattle.nm_base.specs.Outside.{FilesSeen, IsReadBy}

-- the content of the file of each name
abbrev pub Told : Type 0
Told = List ℕ → Option (List ℕ)

abbrev pub IfMissing : {A : Type 0} → Result A Fault → (List ℕ → Type 0) → Type 0
IfMissing (Err (fault.Missing name)) P = P name
IfMissing _ P = Unit {0}

-- what the files are refused for: neither want of memory nor a read that failed
abbrev pub IsOfFiles : Fault → Type 0
IsOfFiles fault.NoMemory = ⊥
IsOfFiles fault.ReadFault = ⊥
IsOfFiles _ = Unit {0}

-- files were read, and the answer is a read fault or a file that is missing only where a read failed or missed it
abbrev pub Counts : {A : Type 0} → Result A Fault → FilesSeen → FilesSeen → Type 0
Counts r old new = IsReadBy (λ P. r ≡ Err fault.ReadFault → P) (IfMissing r) old new
