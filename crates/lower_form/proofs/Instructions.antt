-- Numbers in lowered code are those of their words, ports are there, and a status is saved in the frame.
use Rattle.std.proofs.Common.{◌≡◌, ℕ, zero, suc, ◌+◌, ◌-◌, ◌*◌, ◌/◌, ◌%◌, ◌<◌, ◌≤◌, Bool, true, false, ◌&&◌, ◌==◌, min, List, [], ◌∷◌, ◌++◌, take, drop, Option, Some, None, All, refl, arith}
use Rattle.std.specs.Prelude.{⊤, ℤ, pos, slice_get, slice_index_or, if◌then◌else◌}
use Rattle.std.specs.Ordering.{int_eq}
use Rattle.std.proofs.lemmas.Bool.Decides.{nat_tests}
use Rattle.std.proofs.lemmas.List.Elements.{All-cons, All-nil}
use Rattle.nm_base.specs.declared.int_type.IntType.{IntType}
use Rattle.nm_base.specs.declared.int_type.IntType.TheVariants.{I8, U8, I16, U16, I32, U32}
use Rattle.nm_base.specs.IntType.{wrapped}
use Rattle.nesc_core.specs.Plain.{Ty, Expr, Exprs, no_exprs, more_exprs, Place, Stmt, Stmts, Case, no_stmts, more_stmts, Body, Program}
use Rattle.nesc_core.specs.Plain as plain
use Rattle.nesc_core.specs.PlaceTypes.{place_type, element_of, count_of}
use Rattle.nesc_core.specs.Heres.{gives_value}
use Rattle.nesc_core.specs.Size.{AreSized}
use Rattle.nesc_core.specs.Typing.{AllHave, Has, IsCallable, IsPlace, is_port}
use Rattle.nesc_core.specs.Typing as typing
use Rattle.nesc_core.specs.Weights.{stmt_atomics, stmts_atomics}
use Rattle.nesc_core.specs.WellFormed.{AreStmts, Exits, IsDone, IsGiven, IsStmt, LieFrom, by_result, count_exprs, count_stmts}
use Rattle.nesc_core.specs.WellFormed as formed
use Rattle.core_meaning.specs.Layout.{size_of}
use Rattle.core_meaning.specs.Work.{number_of}
use Rattle.core_meaning.specs.Flow.{start_of_default}
use Rattle.mid_code.specs.declared.instr.Mid.{Mid}
use Rattle.mid_code.specs.declared.instr.Mid.TheVariants.{Set, Move, Bin, Carry, Load, Store, Peek, Poke, In, Out, Label, Jump, Branch, Call, Help, Ret, Begin, End, Post, Tick, Fault}
use Rattle.mid_code.specs.declared.instr.Op.TheVariants.{Add}
use Rattle.mid_code.specs.declared.instr.Test.TheVariants.{Eq, LtU, Ne}
use Rattle.mid_code.specs.Help.{is_wide}
use Rattle.mid_code.specs.Reached.{IsPort}
use Rattle.lower_expr.specs.declared.spot.Spot.{Spot}
use Rattle.lower_expr.specs.declared.spot.Spot.TheVariants.{Values, Frame}
use Rattle.lower_expr.specs.Held.{held}
use Rattle.lower_expr.specs.Pieces.{binary_code, bound_code, const_code, convert_code, distance_code, element_code, index_bound, move_code, offset_code, scaled_code, truth_code, zero_code}
use Rattle.lower_expr.specs.Code.{Kind, all_labels, args_code, expr_code, fetch_code, is_void, kind_of, kind_of_spot, labels, local_code, place_code, place_labels, put_code}
use Rattle.lower_expr.proofs.Numbers.{low_small, rest_small}
use Rattle.lower_expr.proofs.Places.{object_word}
use Rattle.lower_stmt.specs.Code.{Ways, back, case_code, cases_code, clear_code, clears_code, enter_code, here_gives, in_atomic, in_here, in_loop, in_switch, kept_code, label_of, maybe_labels, nothing_code, result_code, returned_code, same_code, step_code, stmt_code, stmt_labels, stmts_code, switch_code, zero_local_code, WayOut, breaking, continuing, returning, exit_code, exits_code, leads, way_out}
use Rattle.expr_emitter.specs.Sizes.{AllHaveSizes, HasSizes, PlaceHasSizes}
use Rattle.expr_emitter.proofs.Offsets.{field_offset-small}
use Rattle.expr_emitter.proofs.Typed.{has_sizes}
use Rattle.lower_form.specs.Instructions.{IsSound}
use Rattle.lower_form.proofs.Fits.{second_some}
use Rattle.lower_form.proofs.PlainCode.{IsPlain, one_plain, plain_code, address_plain, binary_plain, both_plain, convert_plain, fetch_plain, fit_plain, move_plain, put_plain, regs_plain, same_plain, unary_plain, zero_plain}
use borrow.Author.Tests.{ltb-true}

-- ---- ports

port_is : (port : ℕ) → is_port port ≡ true → IsPort port
port_is port h = grind (arith, nat_tests)

-- ---- code whose instructions are sound

module _ (frame : ℕ) where
  abbrev Good : List Mid → Type 0
  Good [] = ⊤
  Good (i ∷ is) = IsSound frame i × Good is

  pub record IsGood (code : List Mid) : Type 0 where
    pub each : Good code

  pub good_all : (code : List Mid) → Good code → All (IsSound frame) code
  good_all [] h = All-nil (IsSound frame)
  good_all (i ∷ code) h = All-cons (IsSound frame) i code h.0 (good_all code h.1)

  good_append : (a b : List Mid) → Good a → Good b → Good (a ++ b)
  good_append [] b h g = g
  good_append (i ∷ a) b h g = (h.0, good_append a b h.1 g)

  pub good_both : (a b : List Mid) → IsGood a → IsGood b → IsGood (a ++ b)
  good_both a b h g = record { each = good_append a b h.each g.each }

  one_sound : (i : Mid) → one_plain i ≡ true → IsSound frame i
  one_sound (Set v n) h = ltb-true n 65536 h
  one_sound (Move v x) h = _
  one_sound (Bin op v x y) h = _
  one_sound (Carry op v x y) h = _
  one_sound (Load w v x) h = _
  one_sound (Store w v x) h = _
  one_sound (Peek w v x) h = _
  one_sound (Poke w v x) h = _
  one_sound (In v port) h = absurd (cc)
  one_sound (Out port v) h = absurd (cc)
  one_sound (Label l) h = _
  one_sound (Jump l) h = _
  one_sound (Branch test x y l) h = _
  one_sound (Call g ins outs) h = _
  one_sound (Help o ins outs) h = _
  one_sound (Ret vs) h = _
  one_sound (Begin o) h = absurd (cc)
  one_sound (End o) h = _
  one_sound (Post k v) h = _
  one_sound Tick h = _
  one_sound (Fault code) h = ltb-true code 256 h

  both_true : (a b : Bool) → (a && b) ≡ true → (a ≡ true) × (b ≡ true)
  both_true true b h = (refl, h)
  both_true false b h = absurd (cc)

  plain_good : (code : List Mid) → plain_code code ≡ true → Good code
  plain_good [] h = tt
  plain_good (i ∷ code) h = let two = both_true (one_plain i) (plain_code code) h in (one_sound i two.0, plain_good code two.1)

  pub of_plain : (code : List Mid) → IsPlain code → IsGood code
  of_plain code h = record { each = plain_good code h.none }

  -- plain code behind
  pub good_then : (a b : List Mid) → IsGood a → IsPlain b → IsGood (a ++ b)
  good_then a b h g = good_both a b h (of_plain b g)

  pub one_before : (i : Mid) (a : List Mid) → one_plain i ≡ true → IsGood a → IsGood (i ∷ a)
  one_before i a q h = record { each = (one_sound i q, h.each) }

  if_good : (t : Bool) (a b : List Mid) → IsGood a → IsGood b → IsGood (if t then a else b)
  if_good true a b h g = h
  if_good false a b h g = g

  -- ---- pieces

  pub const_good : (t : IntType) (x : ℤ) (r : ℕ) → IsGood (const_code t x r)
  const_good t x r =
      let l = low_small x in
      let h = rest_small x in
      if_good (is_wide t) _ _ (record { each = (l, (omega (arith, h), tt)) }) (record { each = (l, tt) })

  scaled_good : (size r : ℕ) → IsGood (scaled_code size r)
  scaled_good size r =
      if_good (size == 1) _ _ (record { each = tt }) (if_good (size == 2) _ _ (record { each = (_, tt) })
      (if_good (size == 4) _ _ (record { each = (_, (_, tt)) }) (record { each = (omega arith, (_, tt)) })))

  pub offset_good : (size r : ℕ) → IsGood (offset_code size r)
  offset_good size r = good_both (scaled_code size (r + 2)) _ (scaled_good size (r + 2)) (record { each = (_, tt) })

  pub distance_good : (size r : ℕ) → IsGood (distance_code size r)
  distance_good size r = record { each = (_, (if_good (size == 1) [] _ (record { each = tt }) (record { each = (omega arith, (_, tt)) })).each) }

  -- a bound that is all numbers of the type is not tested
  short_bound : (bound r l : ℕ) → bound ≤ 65536 → IsGood (bound_code false bound r l)
  short_bound bound r l h = by (bound == 65536) refl
    where
      by : (b : Bool) → (bound == 65536) ≡ b → IsGood (if b then [] else Set (r + 4) bound ∷ Branch LtU (r + 2) (r + 4) l ∷ Fault 1 ∷ Label l ∷ [])
      by true e = record { each = tt }
      by false e = record { each = (grind (arith, nat_tests), (_, (omega arith, (_, tt)))) }

  wide_bound : (bound r l : ℕ) → bound ≤ 4294967296 → IsGood (bound_code true bound r l)
  wide_bound bound r l h = by (bound == 4294967296) refl
    where
      below : (bound == 4294967296) ≡ false → bound < 4294967296
      below e = grind (arith, nat_tests)

      by : (b : Bool) → (bound == 4294967296) ≡ b → IsGood (if b then [] else Set (r + 4) (bound / 65536) ∷ Branch LtU (r + 3) (r + 4) l ∷ Branch Ne (r + 3) (r + 4) (l + 1)
          ∷ Set (r + 4) (bound % 65536) ∷ Branch LtU (r + 2) (r + 4) l ∷ Label (l + 1) ∷ Fault 1 ∷ Label l ∷ [])
      by true e = record { each = tt }
      by false e = let less = below e in record { each = (omega (arith, less), (_, (_, (omega arith, (_, (_, (omega arith, (_, tt)))))))) }

  bound_good : (t : IntType) (count r l : ℕ) → IsGood (bound_code (is_wide t) (index_bound t count) r l)
  bound_good I8 count r l = short_bound (min count 32768) r l (omega arith)
  bound_good U8 count r l = short_bound (min count 65536) r l (omega arith)
  bound_good I16 count r l = short_bound (min count 32768) r l (omega arith)
  bound_good U16 count r l = short_bound (min count 65536) r l (omega arith)
  bound_good I32 count r l = wide_bound (min count 2147483648) r l (omega arith)
  bound_good U32 count r l = wide_bound (min count 4294967296) r l (omega arith)

  pub element_good : (t : IntType) (count size r l : ℕ) → IsGood (element_code t count size r l)
  element_good t count size r l =
      good_both (bound_code (is_wide t) (index_bound t count) r l) (scaled_code size (r + 2) ++ Bin Add r r (r + 2) ∷ []) (bound_good t count r l)
      (good_both (scaled_code size (r + 2)) (Bin Add r r (r + 2) ∷ []) (scaled_good size (r + 2)) (record { each = (_, tt) }))

-- ---- expressions

-- what they need of the program and of the spots of locals
pub record Grounds (p : Program) (types : List Ty) (spots : List Spot) : Type 0 where
  pub sized : AreSized p.structs
  pub start : ℕ
  pub objects : LieFrom p.structs start p.objects
  pub framed : (x from : ℕ) → slice_get spots x ≡ Some (Frame from) → from + size_of p (slice_index_or types x plain.void) ≤ 65535

module _ (frame : ℕ) (p : Program) (types checks : List Ty) (spots : List Spot) (grounds : Grounds p types spots) where
  abbrev Own : List Mid → Type 0
  Own code = IsGood frame code

  own_both : (a b : List Mid) → Own a → Own b → Own (a ++ b)
  own_both a b h g = good_both frame a b h g

  own_then : (a b : List Mid) → Own a → IsPlain b → Own (a ++ b)
  own_then a b h g = good_then frame a b h g

  own_plain : (a : List Mid) → IsPlain a → Own a
  own_plain a h = of_plain frame a h

  local_of : (x r : ℕ) (o : Option Spot) → slice_get spots x ≡ o → Own (local_code o r)
  local_of x r None e = record { each = (omega arith, tt) }
  local_of x r (Some (Values regs)) e = record { each = tt }
  local_of x r (Some (Frame from)) e = let h = grounds.framed x from e in record { each = (omega (arith, h), tt) }

  called_with : (o : Option Body) (Arguments : List Ty → Type 0) (ty : Ty) → IsCallable o Arguments ty → (ts : List Ty) × Arguments ts
  called_with None A ty h = absurd h
  called_with (Some b) A ty h = (take b.params b.locals, h.1)

  mutual
    place_good : (place : Place) (r l : ℕ) → IsPlace p types place → PlaceHasSizes p types place → Own (place_code p types checks spots place r l)
    place_good (plain.object k) r l h z = let small = object_word p.structs grounds.start p.objects k grounds.objects in record { each = (small, tt) }
    place_good (plain.local x) r l h z = local_of x r (slice_get spots x) refl
    place_good (plain.deref e t) r l h z = own_then (expr_code p types checks spots e r l) _ (expr_good e (plain.pointer t) r l h.1 z) (record { none = refl })
    place_good (plain.index place e) r l h z =
        own_both (place_code p types checks spots place r (l + 2)) _ (place_good place r (l + 2) h.1 z.1)
        (own_both (expr_code p types checks spots e (r + 2) (l + 2 + place_labels place)) _ (expr_good e (plain.int h.2.0) (r + 2) (l + 2 + place_labels place) h.2.1 z.2)
        (element_good frame (held p types e) (count_of (place_type p types place)) (size_of p (element_of (place_type p types place))) r l))
    place_good (plain.field place k) r l h z =
        let small = field_offset-small p.structs (place_type p types place) k grounds.sized z.0 z.1 in
        own_both (place_code p types checks spots place r l) _ (place_good place r l h.1 z.2) (record { each = (omega (arith, small), (_, tt)) })

    expr_good : (e : Expr) (ty : Ty) (r l : ℕ) → Has p types e ty → HasSizes p types e → Own (expr_code p types checks spots e r l)
    expr_good (plain.const t x) ty r l h z = const_good frame t x r
    expr_good plain.null ty r l h z = own_plain _ (record { none = refl })
    expr_good (plain.read place at) ty r l h z =
        own_then (place_code p types checks spots place r l) _ (place_good place r l h.2 z) (fetch_plain (kind_of p types checks spots place) (number_of (place_type p types place)) r r)
    expr_good (plain.addr place) ty r l h z = own_then (place_code p types checks spots place r l) _ (place_good place r l h.2 z) (address_plain (kind_of p types checks spots place) r)
    expr_good (plain.un op t e) ty r l h z = own_then (expr_code p types checks spots e r (l + 2)) _ (expr_good e (plain.int t) r (l + 2) h.2 z) (unary_plain op (is_wide t) r l)
    expr_good (plain.bin op t a b) ty r l h z =
        let second = second_some op t (Has p types b) h.3 in
        own_both (expr_code p types checks spots a r (l + 3)) _ (expr_good a (plain.int t) r (l + 3) h.2 z.0)
        (own_then (expr_code p types checks spots b (r + 2) (l + 3 + labels a)) _ (expr_good b second.0 (r + 2) (l + 3 + labels a) second.1 z.1) (binary_plain op t (held p types b) r l))
    expr_good (plain.convert t e) ty r l h z = own_then (expr_code p types checks spots e r (l + 1)) _ (expr_good e h.1.0 r (l + 1) h.1.1.1 z) (convert_plain (held p types e) t r l)
    expr_good (plain.offset a b size) ty r l h z =
        own_both (expr_code p types checks spots a r l) _ (expr_good a ty r l h.1 z.0)
        (own_both (expr_code p types checks spots b (r + 2) (l + labels a)) _ (expr_good b (plain.int h.2.0) (r + 2) (l + labels a) h.2.1 z.1) (offset_good frame size r))
    expr_good (plain.distance a b size) ty r l h z =
        own_both (expr_code p types checks spots a r l) _ (expr_good a h.1.0 r l h.1.1.1 z.0)
        (own_both (expr_code p types checks spots b (r + 2) (l + labels a)) _ (expr_good b h.1.0 (r + 2) (l + labels a) h.1.1.2 z.1) (distance_good frame size r))
    expr_good (plain.both a b) ty r l h z =
        own_both (expr_code p types checks spots a r (l + 2)) _ (expr_good a h.1.0 r (l + 2) h.1.2 z.0)
        (own_both (zero_code Eq (is_wide (held p types a)) r l) _ (own_plain _ (zero_plain Eq (is_wide (held p types a)) r l))
        (own_both (expr_code p types checks spots b r (l + 2 + labels a)) _ (expr_good b h.2.0 r (l + 2 + labels a) h.2.2 z.1)
        (own_then (zero_code Eq (is_wide (held p types b)) r l) (Set r 1 ∷ Jump (l + 1) ∷ Label l ∷ Set r 0 ∷ Label (l + 1) ∷ []) (own_plain _ (zero_plain Eq (is_wide (held p types b)) r l)) (record { none = refl }))))
    expr_good (plain.either a b) ty r l h z =
        own_both (expr_code p types checks spots a r (l + 2)) _ (expr_good a h.1.0 r (l + 2) h.1.2 z.0)
        (own_both (zero_code Ne (is_wide (held p types a)) r l) _ (own_plain _ (zero_plain Ne (is_wide (held p types a)) r l))
        (own_both (expr_code p types checks spots b r (l + 2 + labels a)) _ (expr_good b h.2.0 r (l + 2 + labels a) h.2.2 z.1)
        (own_then (zero_code Ne (is_wide (held p types b)) r l) (truth_code r l) (own_plain _ (zero_plain Ne (is_wide (held p types b)) r l)) (record { none = refl }))))
    expr_good (plain.choice test a b) ty r l h z =
        own_both (expr_code p types checks spots test r (l + 2)) _ (expr_good test h.0.0 r (l + 2) h.0.2 z.0)
        (own_both (zero_code Eq (is_wide (held p types test)) r l) _ (own_plain _ (zero_plain Eq (is_wide (held p types test)) r l))
        (own_both (expr_code p types checks spots a r (l + 2 + labels test)) _ (expr_good a ty r (l + 2 + labels test) h.1 z.1)
        (one_before frame (Jump (l + 1)) _ refl (one_before frame (Label l) _ refl
        (own_then (expr_code p types checks spots b r (l + 2 + labels test + labels a)) (Label (l + 1) ∷ []) (expr_good b ty r (l + 2 + labels test + labels a) h.2 z.2) (record { none = refl }))))))
    expr_good (plain.assign place e at) ty r l h z =
        own_both (place_code p types checks spots place r l) _ (place_good place r l h.2 z.0)
        (own_then (expr_code p types checks spots e (r + 2) (l + place_labels place)) _ (expr_good e ty (r + 2) (l + place_labels place) h.3 z.1)
        (both_plain (put_code (kind_of p types checks spots place) (number_of (place_type p types place)) (r + 2) r) _ (put_plain (kind_of p types checks spots place) (number_of (place_type p types place)) (r + 2) r)
        (move_plain (is_wide (number_of (place_type p types place))) r (r + 2))))
    expr_good (plain.update place op t e gives_old at) ty r l h z =
        let of : IntType = number_of (place_type p types place) in
        let kind : Kind = kind_of p types checks spots place in
        let s : IntType = held p types e in
        let second = second_some op t (Has p types e) h.3 in
        own_both (place_code p types checks spots place r (l + 5)) _ (place_good place r (l + 5) h.2 z.0)
        (own_both (fetch_code kind of (r + 2) r) _ (own_plain _ (fetch_plain kind of (r + 2) r))
        (own_then (expr_code p types checks spots e (r + 4) (l + 5 + place_labels place)) _ (expr_good e second.0 (r + 4) (l + 5 + place_labels place) second.1 z.1)
        (both_plain (move_code (is_wide of) (r + 6) (r + 2)) _ (move_plain (is_wide of) (r + 6) (r + 2))
        (both_plain (convert_code of t (r + 6) l) _ (convert_plain of t (r + 6) l)
        (both_plain (move_code (is_wide s) (r + 8) (r + 4)) _ (move_plain (is_wide s) (r + 8) (r + 4))
        (both_plain (binary_code op t s (r + 6) (l + 1)) _ (binary_plain op t s (r + 6) (l + 1))
        (both_plain (convert_code t of (r + 6) (l + 4)) _ (convert_plain t of (r + 6) (l + 4))
        (both_plain (put_code kind of (r + 6) r) _ (put_plain kind of (r + 6) r) (move_plain (is_wide of) r (if gives_old then r + 2 else r + 6))))))))))
    expr_good (plain.call g arguments at) ty r l h z =
        let with = called_with (slice_get p.bodies g) (AllHave p types arguments) ty h in
        own_then (args_code p types checks spots arguments r l) _ (args_good arguments with.0 r l with.1 z) (record { none = refl })
    expr_good (plain.post k) ty r l h z = own_plain _ (both_plain (Post k r ∷ []) _ (record { none = refl }) (fit_plain U8 r))
    expr_good (plain.port_in port) ty r l h z = record { each = (port_is port h.1, tt) }
    expr_good (plain.port_out port e) ty r l h z = own_both (expr_code p types checks spots e r l) _ (expr_good e (plain.int U16) r l h.2 z) (record { each = (port_is port h.1, tt) })
    expr_good (plain.comma a b) ty r l h z = own_both (expr_code p types checks spots a r l) _ (expr_good a h.0.0 r l h.0.1 z.0) (expr_good b ty r (l + labels a) h.1 z.1)

    args_good : (es : Exprs) (ts : List Ty) (r l : ℕ) → AllHave p types es ts → AllHaveSizes p types es → Own (args_code p types checks spots es r l)
    args_good no_exprs ts r l h z = record { each = tt }
    args_good (more_exprs e rest) [] r l h z = absurd h
    args_good (more_exprs e rest) (t ∷ ts) r l h z =
        own_both (expr_code p types checks spots e r l) _ (expr_good e t r l h.0 z.0) (args_good rest ts (r + 2) (l + labels e) h.1 z.1)

-- ---- statements

module _ (frame : ℕ) (p : Program) (types checks : List Ty) (spots : List Spot) (base : ℕ) (grounds : Grounds p types spots)
    (objects : All (λ o. typing.IsType p.structs o.ty) p.objects) (locals : All (typing.IsType p.structs) types) where
  abbrev Held : List Mid → Type 0
  Held code = IsGood frame code

  both : (a b : List Mid) → Held a → Held b → Held (a ++ b)
  both a b h g = good_both frame a b h g

  ends_plain : (a b : List Mid) → Held a → IsPlain b → Held (a ++ b)
  ends_plain a b h g = good_then frame a b h g

  is_plain : (a : List Mid) → IsPlain a → Held a
  is_plain a h = of_plain frame a h

  before : (i : Mid) (a : List Mid) → one_plain i ≡ true → Held a → Held (i ∷ a)
  before i a q h = one_before frame i a q h

  of_expr : (e : Expr) (ty : Ty) (r l : ℕ) → Has p types e ty → Held (expr_code p types checks spots e r l)
  of_expr e ty r l h = expr_good frame p types checks spots grounds e ty r l h (has_sizes p types grounds.sized objects locals e ty h)

  of_step : (e : Option Expr) (l : ℕ) → IsDone p types e → Held (step_code p types checks spots base e l)
  of_step None l h = record { each = tt }
  of_step (Some e) l h = of_expr e h.0 base l h.1

  pub nothing_good : (ty : Ty) (r : ℕ) → Held (nothing_code ty r)
  nothing_good ty r = by (is_void ty)
    where
      by : (b : Bool) → Held (if b then [] else const_code (number_of ty) (pos 0) r)
      by true = record { each = tt }
      by false = const_good frame (number_of ty) (pos 0) r

  of_returned : (e : Option Expr) (w : Ways) (t : Ty) (l : ℕ) → IsGiven p types e t → Held (returned_code p types checks spots base e w l)
  of_returned None w t l h = nothing_good w.gives (base + 2)
  of_returned (Some e) w t l h = of_expr e t (base + 2) l h.1

  back_plain : (o : Option ℕ) (ty : Ty) (r : ℕ) → one_plain (back o ty r) ≡ true
  back_plain None ty r = refl
  back_plain (Some l) ty r = refl

  way_plain : (w : Ways) (r : ℕ) (out : WayOut) → one_plain (way_out w r out) ≡ true
  way_plain w r returning = back_plain w.return_to w.gives r
  way_plain w r breaking = refl
  way_plain w r continuing = refl

  exit_good : (b : Bool) (o l : ℕ) (w : Ways) (r : ℕ) (out : WayOut) → Held (exit_code b o l (way_out w r out))
  exit_good true o l w r out =
      before (Jump (l + 1)) _ refl (before (Label l) _ refl (before (End o) _ refl (before (way_out w r out) (Label (l + 1) ∷ []) (way_plain w r out) (record { each = (_, tt) }))))
  exit_good false o l w r out = record { each = tt }

  exits_good : (may : WayOut → Bool) (w : Ways) (r l : ℕ) → Held (exits_code may w r l)
  exits_good may w r l =
      both (exit_code (may returning) w.status l (way_out w r returning)) _ (exit_good (may returning) w.status l w r returning)
      (both (exit_code (may breaking) w.status (l + 2) (way_out w r breaking)) (exit_code (may continuing) w.status (l + 4) (way_out w r continuing))
      (exit_good (may breaking) w.status (l + 2) w r breaking) (exit_good (may continuing) w.status (l + 4) w r continuing))

  case_good : (t : IntType) (o : Option ℤ) (r l : ℕ) → Held (case_code t o r l)
  case_good t None r l = record { each = tt }
  case_good t (Some n) r l = by (int_eq (wrapped t n) n)
    where
      by : (b : Bool) → Held (if b then const_code t n (r + 2) ++ same_code (is_wide t) r l else [])
      by true = ends_plain (const_code t n (r + 2)) (same_code (is_wide t) r l) (const_good frame t n (r + 2)) (same_plain (is_wide t) r l)
      by false = record { each = tt }

  cases_good : (t : IntType) (cases : List Case) (default : Option ℕ) (r l : ℕ) → Held (cases_code t cases default r l)
  cases_good t [] default r l = is_plain _ (record { none = refl })
  cases_good t (c ∷ cases) default r l =
      both (case_code t c.value r (label_of (Some c.start) l)) (cases_code t cases default r l) (case_good t c.value r (label_of (Some c.start) l)) (cases_good t cases default r l)

  of_kept : (ty : Ty) (x : ℕ) (work : List Mid) → Held work → Held (kept_code p types checks spots base ty (slice_get spots x) work)
  of_kept ty x work h = by (is_void ty)
    where
      o : Option Spot
      o = slice_get spots x

      by : (b : Bool) → Held (if b then work else local_code o base ++ (work ++ put_code (kind_of_spot o) (number_of ty) (base + 2) base))
      by true = h
      by false =
          both (local_code o base) (work ++ put_code (kind_of_spot o) (number_of ty) (base + 2) base) (local_of frame p types checks spots grounds x base o refl)
          (ends_plain work (put_code (kind_of_spot o) (number_of ty) (base + 2) base) h (put_plain (kind_of_spot o) (number_of ty) (base + 2) base))

  of_enter : (es : Exprs) (ts : List Ty) (x l : ℕ) → AllHave p types es ts → Held (enter_code p types checks spots base es x l)
  of_enter no_exprs ts x l h = record { each = tt }
  of_enter (more_exprs e rest) [] x l h = absurd h
  of_enter (more_exprs e rest) (t ∷ ts) x l h =
      both (kept_code p types checks spots base (slice_index_or types x plain.void) (slice_get spots x) (expr_code p types checks spots e (base + 2) l)) (enter_code p types checks spots base rest (x + 1) (l + labels e))
      (of_kept (slice_index_or types x plain.void) x (expr_code p types checks spots e (base + 2) l) (of_expr e t (base + 2) l h.0)) (of_enter rest ts (x + 1) (l + labels e) h.1)

  clear_of : (o : Option Spot) (x l : ℕ) → slice_get spots x ≡ o → Held (zero_local_code o (slice_index_or types x plain.void) (size_of p (slice_index_or types x plain.void)) base l)
  clear_of None x l e = record { each = tt }
  clear_of (Some (Values regs)) x l e = is_plain _ (regs_plain (is_wide (number_of (slice_index_or types x plain.void))) regs)
  clear_of (Some (Frame from)) x l e =
      let h = grounds.framed x from e in
      record { each = (omega (arith, h), (omega arith, (omega (arith, h), (omega arith, (_, (_, (_, (_, (_, (_, tt)))))))))) }

  of_clears : (count x l : ℕ) → Held (clears_code p types checks spots base count x l)
  of_clears zero x l = record { each = tt }
  of_clears (suc count) x l =
      both (clear_code p types checks spots base x l) (clears_code p types checks spots base count (x + 1) (l + 2)) (clear_of (slice_get spots x) x l refl) (of_clears count (x + 1) (l + 2))

  of_result : (b : Bool) (x : ℕ) → Held (result_code p types checks spots base b x)
  of_result false x = record { each = tt }
  of_result true x = of_kept (slice_index_or types x plain.void) x [] (record { each = tt })

  mutual
    pub stmt_good : (s : Stmt) (exits : Exits) (w : Ways) (l : ℕ) → IsStmt p types s exits → w.status + 2 * stmt_atomics s ≤ frame → w.status % 2 ≡ 0 → Held (stmt_code p types checks spots base s w l)
    stmt_good (plain.eval e) exits w l h room even = of_expr e h.0 base l h.1
    stmt_good (plain.block list) exits w l h room even = stmts_good list exits w l h room even
    stmt_good (plain.branch test a b) exits w l h room even =
        let ca : List Mid = stmt_code p types checks spots base a w (l + 2 + labels test) in
        let cb : List Mid = stmt_code p types checks spots base b w (l + 2 + labels test + stmt_labels a) in
        let z : List Mid = zero_code Eq (is_wide (held p types test)) base l in
        both (expr_code p types checks spots test base (l + 2)) (z ++ (ca ++ (Jump (l + 1) ∷ Label l ∷ (cb ++ Label (l + 1) ∷ [])))) (of_expr test h.0.0 base (l + 2) h.0.2)
        (both z (ca ++ (Jump (l + 1) ∷ Label l ∷ (cb ++ Label (l + 1) ∷ []))) (is_plain z (zero_plain Eq (is_wide (held p types test)) base l))
        (both ca (Jump (l + 1) ∷ Label l ∷ (cb ++ Label (l + 1) ∷ [])) (stmt_good a exits w (l + 2 + labels test) h.1 (omega (arith, room)) even)
        (before (Jump (l + 1)) (Label l ∷ (cb ++ Label (l + 1) ∷ [])) refl (before (Label l) (cb ++ Label (l + 1) ∷ []) refl
        (ends_plain cb (Label (l + 1) ∷ []) (stmt_good b exits w (l + 2 + labels test + stmt_labels a) h.2 (omega (arith, room)) even) (record { none = refl }))))))
    stmt_good (plain.loop true test step body) exits w l h room even =
        let inner : Ways = in_loop (l + 1) (l + 2) w in
        let lb : ℕ = l + 3 + labels test + maybe_labels step in
        let cb : List Mid = stmt_code p types checks spots base body inner lb in
        let cs : List Mid = step_code p types checks spots base step (l + 3 + labels test) in
        let z : List Mid = zero_code Eq (is_wide (held p types test)) base (l + 1) in
        let ct : List Mid = expr_code p types checks spots test base (l + 3) in
        before (Label l) (Tick ∷ (ct ++ (z ++ (cb ++ (Label (l + 2) ∷ (cs ++ Jump l ∷ Label (l + 1) ∷ [])))))) refl
        (before Tick (ct ++ (z ++ (cb ++ (Label (l + 2) ∷ (cs ++ Jump l ∷ Label (l + 1) ∷ []))))) refl
        (both ct (z ++ (cb ++ (Label (l + 2) ∷ (cs ++ Jump l ∷ Label (l + 1) ∷ [])))) (of_expr test h.0.0 base (l + 3) h.0.2)
        (both z (cb ++ (Label (l + 2) ∷ (cs ++ Jump l ∷ Label (l + 1) ∷ []))) (is_plain z (zero_plain Eq (is_wide (held p types test)) base (l + 1)))
        (both cb (Label (l + 2) ∷ (cs ++ Jump l ∷ Label (l + 1) ∷ [])) (stmt_good body (formed.in_loop exits) inner lb h.2 room even)
        (before (Label (l + 2)) (cs ++ Jump l ∷ Label (l + 1) ∷ []) refl (ends_plain cs (Jump l ∷ Label (l + 1) ∷ []) (of_step step (l + 3 + labels test) h.1) (record { none = refl })))))))
    stmt_good (plain.loop false test step body) exits w l h room even =
        let inner : Ways = in_loop (l + 1) (l + 2) w in
        let lb : ℕ = l + 3 + labels test + maybe_labels step in
        let cb : List Mid = stmt_code p types checks spots base body inner lb in
        let ct : List Mid = expr_code p types checks spots test base (l + 3) in
        let z : List Mid = zero_code Ne (is_wide (held p types test)) base l in
        before (Label l) (Tick ∷ (cb ++ (Label (l + 2) ∷ (ct ++ (z ++ Label (l + 1) ∷ []))))) refl
        (before Tick (cb ++ (Label (l + 2) ∷ (ct ++ (z ++ Label (l + 1) ∷ [])))) refl
        (both cb (Label (l + 2) ∷ (ct ++ (z ++ Label (l + 1) ∷ []))) (stmt_good body (formed.in_loop exits) inner lb h.2 room even)
        (before (Label (l + 2)) (ct ++ (z ++ Label (l + 1) ∷ [])) refl
        (both ct (z ++ Label (l + 1) ∷ []) (of_expr test h.0.0 base (l + 3) h.0.2)
        (ends_plain z (Label (l + 1) ∷ []) (is_plain z (zero_plain Ne (is_wide (held p types test)) base l)) (record { none = refl }))))))
    stmt_good (plain.switch e cases list) exits w l h room even =
        let ls : ℕ = l + 1 + count_stmts list + labels e in
        let cs : List Mid = switch_code p types checks spots base list (in_switch l w) (l + 1) ls in
        let z : List Mid = cases_code (held p types e) cases (start_of_default cases) base l in
        both (expr_code p types checks spots e base (l + 1 + count_stmts list)) (z ++ (cs ++ Label l ∷ [])) (of_expr e (plain.int h.0.0) base (l + 1 + count_stmts list) h.0.1)
        (both z (cs ++ Label l ∷ []) (cases_good (held p types e) cases (start_of_default cases) base l)
        (ends_plain cs (Label l ∷ []) (switch_good list (formed.in_switch exits) (in_switch l w) (l + 1) ls h.2 room even) (record { none = refl })))
    stmt_good plain.break exits w l h room even = is_plain _ (record { none = refl })
    stmt_good plain.continue exits w l h room even = is_plain _ (record { none = refl })
    stmt_good (plain.return e) exits w l h room even =
        both (returned_code p types checks spots base e w l) (way_out w (base + 2) returning ∷ []) (of_returned e w exits.gives l h) (before (way_out w (base + 2) returning) [] (way_plain w (base + 2) returning) (record { each = tt }))
    stmt_good (plain.atomic s) exits w l h room even =
        let exits_of : List Mid = End w.status ∷ exits_code (leads s) w (base + 2) l in
        let cs : List Mid = stmt_code p types checks spots base s (in_atomic l w) (l + 6) in
        let inside : w.status + 2 ≤ frame = omega (arith, room) in
        let inner : Held (cs ++ exits_of) = both cs exits_of (stmt_good s exits (in_atomic l w) (l + 6) h (omega (arith, room)) (omega (arith, even))) (before (End w.status) (exits_code (leads s) w (base + 2) l) refl (exits_good (leads s) w (base + 2) l)) in
        record { each = ((inside, even), inner.each) }
    stmt_good (plain.clear x) exits w l h room even = clear_of (slice_get spots x) x l refl
    stmt_good (plain.here arguments first count body) exits w l h room even =
        let gives : Bool = gives_value body in
        let ways : Ways = in_here l (here_gives p types checks spots base gives (first + count)) w in
        let n : ℕ = count_exprs arguments in
        let la : ℕ = all_labels arguments in
        let cc1 : List Mid = clears_code p types checks spots base (count - n) (first + n) (l + 1 + la) in
        let cb : List Mid = stmt_code p types checks spots base body ways (l + 1 + la + 2 * count) in
        let cn : List Mid = nothing_code ways.gives (base + 2) in
        let cr : List Mid = result_code p types checks spots base gives (first + count) in
        both (enter_code p types checks spots base arguments first (l + 1)) (cc1 ++ (Tick ∷ (cb ++ (cn ++ (Label l ∷ Tick ∷ cr))))) (of_enter arguments (take n (drop first types)) first (l + 1) h.0.passed)
        (both cc1 (Tick ∷ (cb ++ (cn ++ (Label l ∷ Tick ∷ cr)))) (of_clears (count - n) (first + n) (l + 1 + la))
        (before Tick (cb ++ (cn ++ (Label l ∷ Tick ∷ cr))) refl
        (both cb (cn ++ (Label l ∷ Tick ∷ cr)) (stmt_good body (by_result p types first count) ways (l + 1 + la + 2 * count) h.1 room even)
        (both cn (Label l ∷ Tick ∷ cr) (nothing_good ways.gives (base + 2)) (before (Label l) (Tick ∷ cr) refl (before Tick cr refl (of_result gives (first + count))))))))

    stmts_good : (list : Stmts) (exits : Exits) (w : Ways) (l : ℕ) → AreStmts p types list exits → w.status + 2 * stmts_atomics list ≤ frame → w.status % 2 ≡ 0 → Held (stmts_code p types checks spots base list w l)
    stmts_good no_stmts exits w l h room even = record { each = tt }
    stmts_good (more_stmts s rest) exits w l h room even =
        both (stmt_code p types checks spots base s w l) (stmts_code p types checks spots base rest w (l + stmt_labels s)) (stmt_good s exits w l h.0 (omega (arith, room)) even) (stmts_good rest exits w (l + stmt_labels s) h.1 (omega (arith, room)) even)

    switch_good : (list : Stmts) (exits : Exits) (w : Ways) (k l : ℕ) → AreStmts p types list exits → w.status + 2 * stmts_atomics list ≤ frame → w.status % 2 ≡ 0 → Held (switch_code p types checks spots base list w k l)
    switch_good no_stmts exits w k l h room even = record { each = tt }
    switch_good (more_stmts s rest) exits w k l h room even =
        before (Label k) (stmt_code p types checks spots base s w l ++ switch_code p types checks spots base rest w (suc k) (l + stmt_labels s)) refl
        (both (stmt_code p types checks spots base s w l) (switch_code p types checks spots base rest w (suc k) (l + stmt_labels s)) (stmt_good s exits w l h.0 (omega (arith, room)) even)
        (switch_good rest exits w (suc k) (l + stmt_labels s) h.1 (omega (arith, room)) even))
