-- The types that expressions, places and arguments have (C99, 6.5; own: conversions are written out, operators compute with
-- promoted numbers, and which ports there are).
use Rattle.std.specs.Prelude.{⊤, ◌≡◌, ℕ, ℤ, ◌%◌, ◌<◌, ◌==◌, nat_le, Bool, true, ◌||◌, ◌&&◌, List, [], ◌∷◌, length, take, Option, Some, None, slice_get}
use Rattle.nm_base.specs.declared.memory_map.TheConstants.{ENABLE, PENDING}
use Rattle.nm_base.specs.declared.int_type.IntType.{IntType}
use Rattle.nm_base.specs.declared.int_type.IntType.TheVariants.{I8, U8, I16, U16, I32, U32}
use Rattle.nm_base.specs.IntType.{wrapped}
use Rattle.nesc_core.specs.declared.tree.UnOp.{UnOp}
use Rattle.nesc_core.specs.declared.tree.UnOp.TheVariants.{Neg, Not, IsZero}
use Rattle.nesc_core.specs.declared.tree.BinOp.{BinOp}
use Rattle.nesc_core.specs.declared.tree.BinOp.TheVariants.{Add, Sub, Mul, Div, Rem, And, Or, Xor, Shl, Shr, Eq, Ne, Lt, Le}
use Rattle.nesc_core.specs.Plain.{Ty, void, int, pointer, array, struct, Expr, Exprs, Place, Field, Body, Program, no_exprs, more_exprs}
use Rattle.nesc_core.specs.Plain as plain
use Rattle.nesc_core.specs.Size.{layout_of, IsSized}
use Rattle.nesc_core.specs.PlaceTypes.{fields_of, place_type}

-- ---- types

-- all that its pointers point to, and that pointers in there point to, is sized and takes some byte
abbrev pub PointsWell : List (List Field) → Ty → Type 0
PointsWell structs void = ⊤
PointsWell structs (int t) = ⊤
PointsWell structs (pointer t) = IsSized structs t × (0 < (layout_of structs t).size) × PointsWell structs t
PointsWell structs (array t n) = PointsWell structs t
PointsWell structs (struct k) = ⊤

-- a type of a program with these structs
pub record IsType (structs : List (List Field)) (t : Ty) : Type 0 where
  pub sized : IsSized structs t
  pub points : PointsWell structs t

-- C99, 6.2.5: a number or a pointer; own: arguments and results are no structs
abbrev pub IsScalar : Ty → Type 0
IsScalar void = ⊥
IsScalar (int t) = ⊤
IsScalar (pointer t) = ⊤
IsScalar (array t n) = ⊥
IsScalar (struct k) = ⊥

abbrev pub IsResult : Ty → Type 0
IsResult void = ⊤
IsResult (int t) = ⊤
IsResult (pointer t) = ⊤
IsResult (array t n) = ⊥
IsResult (struct k) = ⊥

abbrev pub IsArray : Ty → Type 0
IsArray void = ⊥
IsArray (int t) = ⊥
IsArray (pointer t) = ⊥
IsArray (array t n) = ⊤
IsArray (struct k) = ⊥

abbrev pub IsPointer : List (List Field) → Ty → Type 0
IsPointer structs void = ⊥
IsPointer structs (int t) = ⊥
IsPointer structs (pointer t) = PointsWell structs (pointer t)
IsPointer structs (array t n) = ⊥
IsPointer structs (struct k) = ⊥

-- a pointer to what takes this many bytes
abbrev pub IsStepped : List (List Field) → (size : ℕ) → Ty → Type 0
IsStepped structs n void = ⊥
IsStepped structs n (int t) = ⊥
IsStepped structs n (pointer t) = PointsWell structs (pointer t) × (n ≡ (layout_of structs t).size)
IsStepped structs n (array t m) = ⊥
IsStepped structs n (struct k) = ⊥

-- C99, 6.3.1.1: numbers of 8 bits are promoted
abbrev pub IsPromoted : IntType → Type 0
IsPromoted I8 = ⊥
IsPromoted U8 = ⊥
IsPromoted I16 = ⊤
IsPromoted U16 = ⊤
IsPromoted I32 = ⊤
IsPromoted U32 = ⊤

-- a number of the type
abbrev pub IsOf : IntType → ℤ → Type 0
IsOf t x = wrapped t x ≡ x

-- ---- what has some type of a kind, by the types that it has

abbrev pub IsSome : (Ty → Type 0) → Type 0
IsSome Has = (t : Ty) × Has t

abbrev pub IsTest : (Ty → Type 0) → Type 0
IsTest Has = (t : Ty) × IsScalar t × Has t

abbrev pub IsNumber : (Ty → Type 0) → Type 0
IsNumber Has = (t : IntType) × Has (int t)

abbrev pub IsPromotedNumber : (Ty → Type 0) → Type 0
IsPromotedNumber Has = (t : IntType) × IsPromoted t × Has (int t)

-- ---- operators

-- a test against 0 takes any number
abbrev pub IsOperand : UnOp → IntType → Type 0
IsOperand Neg t = IsPromoted t
IsOperand Not t = IsPromoted t
IsOperand IsZero t = ⊤

abbrev pub unary_type : UnOp → IntType → IntType
unary_type Neg t = t
unary_type Not t = t
unary_type IsZero t = I16

-- C99, 6.5.8 and 6.5.9: comparisons give an int
abbrev pub binary_type : BinOp → IntType → IntType
binary_type Add t = t
binary_type Sub t = t
binary_type Mul t = t
binary_type Div t = t
binary_type Rem t = t
binary_type And t = t
binary_type Or t = t
binary_type Xor t = t
binary_type Shl t = t
binary_type Shr t = t
binary_type Eq t = I16
binary_type Ne t = I16
binary_type Lt t = I16
binary_type Le t = I16

-- C99, 6.5.7: the count of a shift is promoted by itself
abbrev pub IsSecond : BinOp → IntType → (Ty → Type 0) → Type 0
IsSecond Shl t Has = IsPromotedNumber Has
IsSecond Shr t Has = IsPromotedNumber Has
IsSecond _ t Has = Has (int t)

-- a pointer is converted to its address alone
abbrev pub IsConverted : IntType → Ty → Type 0
IsConverted t void = ⊥
IsConverted t (int s) = ⊤
IsConverted t (pointer s) = t ≡ U16
IsConverted t (array s n) = ⊥
IsConverted t (struct k) = ⊥

-- C99, 6.5.16: comparisons update nothing
abbrev pub Updates : BinOp → Type 0
Updates Eq = ⊥
Updates Ne = ⊥
Updates Lt = ⊥
Updates Le = ⊥
Updates _ = ⊤

-- C99, 6.5.6
abbrev pub Moves : BinOp → Type 0
Moves Add = ⊤
Moves Sub = ⊤
Moves _ = ⊥

-- the type of the place behind the operator's; a pointer moves by a number of bytes
abbrev pub IsUpdated : BinOp → IntType → Ty → Type 0
IsUpdated op t void = ⊥
IsUpdated op t (int s) = Updates op × IsPromoted t
IsUpdated op t (pointer s) = Moves op × (t ≡ U16)
IsUpdated op t (array s n) = ⊥
IsUpdated op t (struct k) = ⊥

-- two ports of the interrupt controller, and the even ones of the devices
abbrev pub is_port : ℕ → Bool
is_port port = (port == ENABLE) || (port == PENDING) || (nat_le 0x0120 port && nat_le port 0x015E && (port % 2 == 0))

abbrev pub IsPort : ℕ → Type 0
IsPort port = is_port port ≡ true

-- ---- arguments

abbrev pub IsLast : List Ty → Type 0
IsLast [] = ⊤
IsLast (t ∷ ts) = ⊥

-- the first of the types and the others, by what has them
abbrev pub Have : (Ty → Type 0) → (List Ty → Type 0) → List Ty → Type 0
Have First Rest [] = ⊥
Have First Rest (t ∷ ts) = First t × Rest ts

-- a body with such parameters and this result
abbrev pub IsCallable : Option Body → (arguments : List Ty → Type 0) → Ty → Type 0
IsCallable None Arguments ty = ⊥
IsCallable (Some b) Arguments ty = (ty ≡ b.result) × Arguments (take b.params b.locals)

-- ---- expressions and places, in a body with these types of locals

module _ (p : Program) (types : List Ty) where
  abbrev mutual
    pub IsPlace : Place → Type 0
    IsPlace (plain.object k) = k < length p.objects
    IsPlace (plain.local x) = x < length types
    IsPlace (plain.deref e t) = PointsWell p.structs (pointer t) × Has e (pointer t)
    IsPlace (plain.index place e) = IsArray (place_type p types place) × IsPlace place × IsNumber (Has e)
    IsPlace (plain.field place k) = (k < length (fields_of p.structs (place_type p types place))) × IsPlace place

    -- the expression has this type
    pub Has : Expr → Ty → Type 0
    Has (plain.const t x) = λ ty. (ty ≡ int t) × IsOf t x
    Has plain.null = λ ty. IsPointer p.structs ty
    Has (plain.read place at) = λ ty. (ty ≡ place_type p types place) × IsScalar ty × IsPlace place
    Has (plain.addr place) = λ ty.
        (ty ≡ pointer (place_type p types place)) × PointsWell p.structs (pointer (place_type p types place)) × IsPlace place
    Has (plain.un op t e) = λ ty. (ty ≡ int (unary_type op t)) × IsOperand op t × Has e (int t)
    Has (plain.bin op t a b) = λ ty. (ty ≡ int (binary_type op t)) × IsPromoted t × Has a (int t) × IsSecond op t (Has b)
    Has (plain.convert t e) = λ ty. (ty ≡ int t) × IsSome (λ from. IsConverted t from × Has e from)
    Has (plain.offset a b size) = λ ty. IsStepped p.structs size ty × Has a ty × IsNumber (Has b)
    Has (plain.distance a b size) = λ ty. (ty ≡ int I16) × IsSome (λ of. IsStepped p.structs size of × Has a of × Has b of)
    Has (plain.both a b) = λ ty. (ty ≡ int I16) × IsTest (Has a) × IsTest (Has b)
    Has (plain.either a b) = λ ty. (ty ≡ int I16) × IsTest (Has a) × IsTest (Has b)
    Has (plain.choice test a b) = λ ty. IsTest (Has test) × Has a ty × Has b ty
    Has (plain.assign place e at) = λ ty. (ty ≡ place_type p types place) × IsScalar ty × IsPlace place × Has e ty
    Has (plain.update place op t e gives_old at) = λ ty.
        (ty ≡ place_type p types place) × IsUpdated op t ty × IsPlace place × IsSecond op t (Has e)
    Has (plain.call f arguments at) = λ ty. IsCallable (slice_get p.bodies f) (AllHave arguments) ty
    Has (plain.post k) = λ ty. (ty ≡ int U8) × (k < length p.tasks)
    Has (plain.port_in port) = λ ty. (ty ≡ int U16) × IsPort port
    Has (plain.port_out port e) = λ ty. (ty ≡ void) × IsPort port × Has e (int U16)
    Has (plain.comma a b) = λ ty. IsSome (Has a) × Has b ty

    -- one type each
    pub AllHave : Exprs → List Ty → Type 0
    AllHave no_exprs = λ types. IsLast types
    AllHave (more_exprs e rest) = λ types. Have (Has e) (AllHave rest) types
