-- The code of expressions and places: the value of an expression comes to r, and the high half of one of 32 bits to r + 1; a part that
-- stands i places behind the first is evaluated at r + 2 * i; labels are those from l on (own; operands from left to right).
use Rattle.std.specs.Prelude.{ℕ, suc, ◌+◌, Bool, true, false, List, [], ◌∷◌, ◌++◌, map, if◌then◌else◌, Option, Some, None, slice_get}
use Rattle.nm_base.specs.declared.int_type.IntType.{IntType}
use Rattle.nm_base.specs.declared.int_type.IntType.TheVariants.{I8, U8}
use Rattle.nesc_core.specs.Plain.{Ty, Expr, Exprs, no_exprs, more_exprs, Place, Program}
use Rattle.nesc_core.specs.Plain as plain
use Rattle.nesc_core.specs.PlaceTypes.{place_type, element_of, count_of, field_offset}
use Rattle.nesc_core.specs.Parts.{same_type, runs_of}
use Rattle.mid_code.specs.declared.instr.Op.TheVariants.{Add}
use Rattle.mid_code.specs.declared.instr.Test.TheVariants.{Eq, Ne}
use Rattle.mid_code.specs.declared.instr.Mid.{Mid}
use Rattle.mid_code.specs.declared.instr.Mid.TheVariants.{Set, Move, Bin, Load, Store, Peek, Poke, In, Out, Label, Jump, Call, Help, Post, Tick}
use Rattle.mid_code.specs.declared.code.Check.{Check}
use Rattle.mid_code.specs.Help.{first_check, is_wide}
use Rattle.core_meaning.specs.Layout.{size_of, object_address}
use Rattle.core_meaning.specs.Work.{number_of}
use Rattle.lower_expr.specs.declared.spot.Regs.{Regs}
use Rattle.lower_expr.specs.declared.spot.Spot.{Spot}
use Rattle.lower_expr.specs.declared.spot.Spot.TheVariants.{Values, Frame}
use Rattle.lower_expr.specs.Held.{held, result_of}
use Rattle.lower_expr.specs.Pieces.{const_code, move_code, values_at, fit_code, convert_code, truth_code, zero_code, unary_code, binary_code, element_code, offset_code, distance_code}

-- ---- labels

abbrev mutual
  pub place_labels : Place → ℕ
  place_labels (plain.object k) = 0
  place_labels (plain.local x) = 0
  place_labels (plain.deref e t) = labels e
  place_labels (plain.index place e) = 2 + place_labels place + labels e
  place_labels (plain.field place k) = place_labels place

  pub labels : Expr → ℕ
  labels (plain.const t x) = 0
  labels plain.null = 0
  labels (plain.read place at) = place_labels place
  labels (plain.addr place) = place_labels place
  labels (plain.un op t e) = 2 + labels e
  labels (plain.bin op t a b) = 3 + labels a + labels b
  labels (plain.convert t e) = 1 + labels e
  labels (plain.offset a b size) = labels a + labels b
  labels (plain.distance a b size) = labels a + labels b
  labels (plain.both a b) = 2 + labels a + labels b
  labels (plain.either a b) = 2 + labels a + labels b
  labels (plain.choice test a b) = 2 + labels test + labels a + labels b
  labels (plain.assign place e at) = place_labels place + labels e
  labels (plain.update place op t e gives_old at) = 5 + place_labels place + labels e
  labels (plain.call f arguments at) = all_labels arguments
  labels (plain.post k) = 0
  labels (plain.port_in port) = 0
  labels (plain.port_out port e) = labels e
  labels (plain.comma a b) = labels a + labels b

  pub all_labels : Exprs → ℕ
  all_labels no_exprs = 0
  all_labels (more_exprs e rest) = labels e + all_labels rest

-- ---- places

-- where a place is: in the values of its local, in the frame, or in memory
pub data Kind : Type 0 where
  InValues : Regs → Kind
  InFrame : Kind
  InMemory : Kind

abbrev pub kind_of_spot : Option Spot → Kind
kind_of_spot None = InFrame
kind_of_spot (Some (Values regs)) = InValues regs
kind_of_spot (Some (Frame o)) = InFrame

abbrev pub frame_place : Option Spot → ℕ
frame_place None = 0
frame_place (Some (Values regs)) = 0
frame_place (Some (Frame o)) = o

abbrev pub value_named : Option ℕ → ℕ
value_named None = 0
value_named (Some v) = v

-- ---- accesses

-- a number of 8 bits takes a byte
abbrev pub takes_word : IntType → Bool
takes_word I8 = false
takes_word U8 = false
takes_word _ = true

-- a byte that is read is not negative
abbrev pub sign_code : IntType → ℕ → List Mid
sign_code I8 d = fit_code I8 d
sign_code _ d = []

-- to d, of a number whose address is in r
abbrev pub load_code : IntType → (d r : ℕ) → List Mid
load_code t d r =
    if is_wide t then Set (d + 1) 2 ∷ Bin Add (d + 1) r (d + 1) ∷ Load true d r ∷ Load true (d + 1) (d + 1) ∷ []
    else Load (takes_word t) d r ∷ sign_code t d

-- the same in the frame
abbrev pub peek_code : IntType → (d r : ℕ) → List Mid
peek_code t d r =
    if is_wide t then Set (d + 1) 2 ∷ Bin Add (d + 1) r (d + 1) ∷ Peek true d r ∷ Peek true (d + 1) (d + 1) ∷ []
    else Peek (takes_word t) d r ∷ sign_code t d

-- of the number in v, to the address in r; the value behind that of the address is free
abbrev pub store_code : IntType → (v r : ℕ) → List Mid
store_code t v r =
    if is_wide t then Store true v r ∷ Set (r + 1) 2 ∷ Bin Add (r + 1) r (r + 1) ∷ Store true (v + 1) (r + 1) ∷ []
    else Store (takes_word t) v r ∷ []

abbrev pub poke_code : IntType → (v r : ℕ) → List Mid
poke_code t v r =
    if is_wide t then Poke true v r ∷ Set (r + 1) 2 ∷ Bin Add (r + 1) r (r + 1) ∷ Poke true (v + 1) (r + 1) ∷ []
    else Poke (takes_word t) v r ∷ []

-- from the values of a local to d, and from v to them
abbrev pub take_code : (wide : Bool) → Regs → ℕ → List Mid
take_code true regs d = Move d (value_named regs.low) ∷ Move (d + 1) (value_named regs.high) ∷ []
take_code false regs d = Move d (value_named regs.low) ∷ []

abbrev pub keep_code : (wide : Bool) → Regs → ℕ → List Mid
keep_code true regs v = Move (value_named regs.low) v ∷ Move (value_named regs.high) (v + 1) ∷ []
keep_code false regs v = Move (value_named regs.low) v ∷ []

-- of a number at a place of this kind, found by what is in r, to d; and of the number in v, to there
abbrev pub fetch_code : Kind → IntType → (d r : ℕ) → List Mid
fetch_code (InValues regs) t d r = take_code (is_wide t) regs d
fetch_code InFrame t d r = peek_code t d r
fetch_code InMemory t d r = load_code t d r

abbrev pub put_code : Kind → IntType → (v r : ℕ) → List Mid
put_code (InValues regs) t v r = keep_code (is_wide t) regs v
put_code InFrame t v r = poke_code t v r
put_code InMemory t v r = store_code t v r

-- nothing leads to a place that is in values
abbrev pub local_code : Option Spot → ℕ → List Mid
local_code None r = Set r 0 ∷ []
local_code (Some (Values regs)) r = []
local_code (Some (Frame o)) r = Set r o ∷ []

-- a local has no address
abbrev pub address_code : Kind → ℕ → List Mid
address_code InMemory r = []
address_code _ r = Set r 0 ∷ []

-- the number of a type in the list of checks, or of none
abbrev pub check_of : List Ty → Ty → ℕ
check_of [] t = 0
check_of (u ∷ us) t = if same_type u t then 0 else suc (check_of us t)

-- the check that an address is one of a part of this type
abbrev pub check_for : Program → Ty → Check
check_for p t = record { size = size_of p t; runs = map (λ r. (r.first, r.count)) (runs_of p t) }

abbrev pub is_void : Ty → Bool
is_void plain.void = true
is_void _ = false

-- the values that take a result of this type
abbrev pub taken_at : Ty → ℕ → List ℕ
taken_at t r = if is_void t then [] else values_at (is_wide (number_of t)) r

-- what is needed to find a local's values, in a program, where locals have these types and spots
module _ (p : Program) (types checks : List Ty) (spots : List Spot) where
  abbrev pub kind_of : Place → Kind
  kind_of (plain.object k) = InMemory
  kind_of (plain.local x) = kind_of_spot (slice_get spots x)
  kind_of (plain.deref e t) = InMemory
  kind_of (plain.index place e) = kind_of place
  kind_of (plain.field place k) = kind_of place

  -- the values of arguments that stand from r on
  abbrev pub passed_at : Exprs → ℕ → List ℕ
  passed_at no_exprs r = []
  passed_at (more_exprs e rest) r = values_at (is_wide (held p types e)) r ++ passed_at rest (r + 2)

  -- ---- the forms

  abbrev mutual
    -- the address, or the place in the frame, comes to r
    pub place_code : Place → (r l : ℕ) → List Mid
    place_code (plain.object k) r l = Set r (object_address (slice_get p.objects k)) ∷ []
    place_code (plain.local x) r l = local_code (slice_get spots x) r
    place_code (plain.deref e t) r l = expr_code e r l ++ Help (first_check + check_of checks t) (r ∷ []) [] ∷ []
    place_code (plain.index place e) r l =
        place_code place r (l + 2)
        ++ (expr_code e (r + 2) (l + 2 + place_labels place)
        ++ element_code (held p types e) (count_of (place_type p types place)) (size_of p (element_of (place_type p types place))) r l)
    place_code (plain.field place k) r l =
        place_code place r l ++ Set (r + 2) (field_offset p.structs (place_type p types place) k) ∷ Bin Add r r (r + 2) ∷ []

    pub expr_code : Expr → (r l : ℕ) → List Mid
    expr_code (plain.const t x) r l = const_code t x r
    expr_code plain.null r l = Set r 0 ∷ []
    expr_code (plain.read place at) r l =
        place_code place r l ++ fetch_code (kind_of place) (number_of (place_type p types place)) r r
    expr_code (plain.addr place) r l = place_code place r l ++ address_code (kind_of place) r
    expr_code (plain.un op t e) r l = expr_code e r (l + 2) ++ unary_code op (is_wide t) r l
    expr_code (plain.bin op t a b) r l =
        expr_code a r (l + 3) ++ (expr_code b (r + 2) (l + 3 + labels a) ++ binary_code op t (held p types b) r l)
    expr_code (plain.convert t e) r l = expr_code e r (l + 1) ++ convert_code (held p types e) t r l
    expr_code (plain.offset a b size) r l = expr_code a r l ++ (expr_code b (r + 2) (l + labels a) ++ offset_code size r)
    expr_code (plain.distance a b size) r l = expr_code a r l ++ (expr_code b (r + 2) (l + labels a) ++ distance_code size r)
    expr_code (plain.both a b) r l =
        expr_code a r (l + 2)
        ++ (zero_code Eq (is_wide (held p types a)) r l
        ++ (expr_code b r (l + 2 + labels a)
        ++ (zero_code Eq (is_wide (held p types b)) r l ++ Set r 1 ∷ Jump (l + 1) ∷ Label l ∷ Set r 0 ∷ Label (l + 1) ∷ [])))
    expr_code (plain.either a b) r l =
        expr_code a r (l + 2)
        ++ (zero_code Ne (is_wide (held p types a)) r l
        ++ (expr_code b r (l + 2 + labels a) ++ (zero_code Ne (is_wide (held p types b)) r l ++ truth_code r l)))
    expr_code (plain.choice test a b) r l =
        expr_code test r (l + 2)
        ++ (zero_code Eq (is_wide (held p types test)) r l
        ++ (expr_code a r (l + 2 + labels test)
        ++ (Jump (l + 1) ∷ Label l ∷ (expr_code b r (l + 2 + labels test + labels a) ++ Label (l + 1) ∷ []))))
    expr_code (plain.assign place e at) r l =
        place_code place r l
        ++ (expr_code e (r + 2) (l + place_labels place)
        ++ (put_code (kind_of place) (number_of (place_type p types place)) (r + 2) r
        ++ move_code (is_wide (number_of (place_type p types place))) r (r + 2)))
    expr_code (plain.update place op t e gives_old at) r l =
        let of = number_of (place_type p types place) in
        place_code place r (l + 5)
        ++ (fetch_code (kind_of place) of (r + 2) r
        ++ (expr_code e (r + 4) (l + 5 + place_labels place)
        ++ (move_code (is_wide of) (r + 6) (r + 2)
        ++ (convert_code of t (r + 6) l
        ++ (move_code (is_wide (held p types e)) (r + 8) (r + 4)
        ++ (binary_code op t (held p types e) (r + 6) (l + 1)
        ++ (convert_code t of (r + 6) (l + 4)
        ++ (put_code (kind_of place) of (r + 6) r
        ++ move_code (is_wide of) r (if gives_old then r + 2 else r + 6)))))))))
    expr_code (plain.call f arguments at) r l =
        args_code arguments r l ++ Tick ∷ Call f (passed_at arguments r) (taken_at (result_of (slice_get p.bodies f)) r) ∷ Tick ∷ []
    expr_code (plain.post k) r l = Post k r ∷ fit_code U8 r
    expr_code (plain.port_in port) r l = In r port ∷ []
    expr_code (plain.port_out port e) r l = expr_code e r l ++ Out port r ∷ []
    expr_code (plain.comma a b) r l = expr_code a r l ++ expr_code b r (l + labels a)

    pub args_code : Exprs → (r l : ℕ) → List Mid
    args_code no_exprs r l = []
    args_code (more_exprs e rest) r l = expr_code e r l ++ args_code rest (r + 2) (l + labels e)
