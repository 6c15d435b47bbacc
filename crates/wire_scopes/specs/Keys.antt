-- Types as lists of numbers, by which they are looked up (own).
use Rattle.std.specs.Prelude.{◌≡◌, ℕ, Bool, true, false, cond, nat_eq, List, [], ◌∷◌, map}
use Rattle.nm_base.specs.declared.int_type.IntType.{IntType}
use Rattle.nm_base.specs.declared.int_type.IntType.TheVariants.{I8, U8, I16, U16, I32, U32}
use Rattle.nesc_core.specs.Plain.{Ty, void, int, pointer, array, struct}

abbrev pub number_of : IntType → ℕ
number_of I8 = 0
number_of U8 = 1
number_of I16 = 2
number_of U16 = 3
number_of I32 = 4
number_of U32 = 5

-- the form, its number, and what it is of
abbrev pub key_of : Ty → List ℕ
key_of void = 0 ∷ []
key_of (int t) = 1 ∷ number_of t ∷ []
key_of (pointer t) = 2 ∷ key_of t
key_of (array t n) = 3 ∷ n ∷ key_of t
key_of (struct k) = 4 ∷ k ∷ []

abbrev pub int_numbered : ℕ → IntType
int_numbered n = cond (nat_eq n 0) I8 (cond (nat_eq n 1) U8 (cond (nat_eq n 2) I16 (cond (nat_eq n 3) U16 (cond (nat_eq n 4) I32 U32))))

abbrev pub first : List ℕ → ℕ
first [] = 0
first (n ∷ ns) = n

-- the type of a form, where `number` stands next, and the type that begins there or behind it
abbrev pub formed : (form number : ℕ) → (there behind : Ty) → Ty
formed form number there behind =
    cond (nat_eq form 0) void
    (cond (nat_eq form 1) (int (int_numbered number))
    (cond (nat_eq form 2) (pointer there)
    (cond (nat_eq form 3) (array behind number)
    (struct number))))

-- the type that begins with the first number of a key, or with the one behind that
abbrev pub typed_from : (is_behind : Bool) → List ℕ → Ty
typed_from is_behind [] = void
typed_from true (n ∷ ns) = typed_from false ns
typed_from false (n ∷ ns) = formed n (first ns) (typed_from false ns) (typed_from true ns)

abbrev pub typed : List ℕ → Ty
typed key = typed_from false key

abbrev pub types_in : List (List ℕ) → List Ty
types_in keys = map typed keys

-- each key is that of the type which it decodes to
abbrev pub AreKeys : List (List ℕ) → Type 0
AreKeys keys = keys ≡ map key_of (types_in keys)
