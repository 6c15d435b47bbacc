-- What opening a file gives.
use Rattle.std.proofs.Common.{Some, OnOk, refl, ap, sym, ◌∙◌, arith}
use Rattle.std.proofs.lemmas.Bool.Decides.{nat_tests}
use Rattle.std.specs.Prelude.{◌≡◌, ℕ, ◌+◌, ◌≤◌, Bool, false, List, [], ◌∷◌, ◌++◌, length, slice_index_or, nat_lt, Option, Result, Ok, Err}
use Rattle.nm_base.specs.declared.fault.Fault.{Fault}
use Rattle.nm_base.specs.declared.fault.Fault.TheVariants as fault
use Rattle.nm_base.specs.declared.limit.TheConstants.{MAX_ALL_FILES, MAX_FILE}
use Rattle.nesc_macros.specs.Invocation.{Name}
use Rattle.nesc_macros.specs.Expansion.{IsExpansionFault}
use Rattle.nesc_preproc.specs.Sources.{Known, World, is_number, weight, with_file, sized_by, added, added_within, scanned_in, fetched_as}
use Rattle.nesc_preproc.specs.Kept.{Allows, IsNoReadFault, Breaks}
use Rattle.nesc_preproc.specs.Expands.{IfMissing}

pub no_read_fault : {A : Type 0} {P : Type 0} (r : Result A Fault) → IsNoReadFault r → r ≡ Err fault.ReadFault → P
no_read_fault {A} {P} r h e = elim (rw e at h) [ ]

pub no_missing : {A : Type 0} (P : Name → Type 0) (r : Result A Fault) → IsNoReadFault r → IfMissing r P
no_missing P (Ok v) h = tt
no_missing P (Err (fault.Refused r)) h = tt
no_missing P (Err (fault.Missing n)) h = elim h [ ]
no_missing P (Err fault.ReadFault) h = tt
no_missing P (Err (fault.Limit l)) h = tt
no_missing P (Err (fault.TooLarge r n)) h = tt
no_missing P (Err fault.NoMemory) h = tt

-- the read of file k did not fail
pub does_not_break : {A : Type 0} (r : Result A Fault) (broken : Option ℕ) (k : ℕ) → IsNoReadFault r → Breaks r broken k → is_number broken k ≡ false
does_not_break (Ok v) broken k h b = b
does_not_break (Err (fault.Refused r)) broken k h b = b
does_not_break (Err (fault.Missing n)) broken k h b = elim h [ ]
does_not_break (Err fault.ReadFault) broken k h b = elim h [ ]
does_not_break (Err (fault.Limit l)) broken k h b = b
does_not_break (Err (fault.TooLarge r n)) broken k h b = b
does_not_break (Err fault.NoMemory) broken k h b = b

at_end : {A : Type 0} (xs : List A) (x d : A) → slice_index_or (xs ++ x ∷ []) (length xs) d ≡ x
at_end [] x d = refl
at_end (y ∷ xs) x d = at_end xs x d

-- a text within the limits is kept and scanned
pub new_file : (world : World) (built_in : Bool) (name : Name) (text : List ℕ) (bytes : ℕ) (known mid : Known)
    → length text ≤ MAX_FILE → bytes ≡ known.bytes + weight built_in (length text) → bytes ≤ MAX_ALL_FILES → mid ≡ with_file name text bytes known
    → fetched_as world built_in name (Ok text) known ≡ scanned_in world built_in (length known.texts) (slice_index_or mid.texts (length known.texts) []) mid
new_file world built_in name text bytes known mid small is-bytes few is-mid =
    let s : nat_lt MAX_FILE (length text) ≡ false = grind (arith, nat_tests) in
    let f : nat_lt MAX_ALL_FILES bytes ≡ false = grind (arith, nat_tests) in
    ap (λ t. sized_by t known (added world built_in name text (known.bytes + weight built_in (length text)) known)) s
    ∙ ap (λ n. added world built_in name text n known) (sym is-bytes)
    ∙ ap (λ t. added_within t world built_in name text bytes known) f
    ∙ rw (is-mid, at_end)

pub expansion_fault : (A : Type 0) (e : Fault) → IsExpansionFault e → IsNoReadFault {A = A} (Err e)
expansion_fault A (fault.Refused r) h = tt
expansion_fault A (fault.Missing n) h = elim h [ ]
expansion_fault A fault.ReadFault h = elim h [ ]
expansion_fault A (fault.Limit l) h = tt
expansion_fault A (fault.TooLarge r n) h = elim h [ ]
expansion_fault A fault.NoMemory h = tt

-- the read of a new file failed where the answer says so
pub breaks_before : {A : Type 0} (r : Result A Fault) (broken : Option ℕ) (old new : ℕ) → (r ≡ Err fault.ReadFault → new ≡ old) → OnOk r (new ≡ old + 1) → Allows r broken new → Breaks r broken old
breaks_before (Ok v) broken old new same more allows = allows old (omega (arith, more))
breaks_before (Err (fault.Refused r)) broken old new same more allows = rw allows
breaks_before (Err (fault.Missing n)) broken old new same more allows = rw allows
breaks_before (Err fault.ReadFault) broken old new same more allows = allows ∙ ap Some (same refl)
breaks_before (Err (fault.Limit l)) broken old new same more allows = rw allows
breaks_before (Err (fault.TooLarge r n)) broken old new same more allows = rw allows
breaks_before (Err fault.NoMemory) broken old new same more allows = rw allows
