-- The code of a well-typed body fits its program: its Calls, Helps and Rets have the values that they are to have.
use Rattle.std.proofs.Common.{◌≡◌, ℕ, zero, suc, ◌+◌, ◌-◌, ◌*◌, ◌%◌, ◌<◌, Bool, true, false, List, [], ◌∷◌, ◌++◌, length, take, drop, All, Option, Some, None, refl, sym, ap, ◌∙◌, subst}
use Rattle.std.specs.Prelude.{⊤, ◌==◌, ◌&&◌, slice_get, slice_index_or, if◌then◌else◌}
use Rattle.std.proofs.lemmas.List.Elements.{All-cons, All-head, All-nil, All-tail}
use Rattle.nm_base.specs.declared.int_type.IntType.{IntType}
use Rattle.nm_base.specs.declared.int_type.IntType.TheVariants.{I16, U16}
use Rattle.nesc_core.specs.declared.tree.BinOp.{BinOp}
use Rattle.nesc_core.specs.declared.tree.BinOp.TheVariants as bin
use Rattle.nesc_core.specs.Plain.{Ty, void, int, pointer, array, struct, Expr, Exprs, no_exprs, more_exprs, Place, Stmt, Stmts, Case, no_stmts, more_stmts, Body, Program}
use Rattle.nesc_core.specs.Plain as plain
use Rattle.nesc_core.specs.PlaceTypes.{place_type, element_of, count_of}
use Rattle.nesc_core.specs.Heres.{gives_value}
use Rattle.nesc_core.specs.Derefs.{expr_derefs, exprs_derefs, maybe_derefs, place_derefs, stmt_derefs, stmts_derefs}
use Rattle.nesc_core.specs.Typing.{AllHave, Has, IsCallable, IsPlace, IsSecond, IsSome}
use Rattle.nesc_core.specs.WellFormed.{AreStmts, Exits, IsDone, IsGiven, IsStmt, by_result, count_exprs, count_stmts}
use Rattle.nesc_core.specs.WellFormed as formed
use Rattle.core_meaning.specs.Layout.{size_of}
use Rattle.core_meaning.specs.Work.{number_of}
use Rattle.core_meaning.specs.Flow.{start_of_default}
use Rattle.mid_code.specs.declared.instr.Mid.{Mid}
use Rattle.mid_code.specs.declared.instr.Mid.TheVariants.{Set, Move, Bin, Carry, Load, Store, Peek, Poke, In, Out, Label, Jump, Branch, Call, Help, Ret, Begin, End, Post, Tick, Fault}
use Rattle.mid_code.specs.declared.help.HelpOp.TheVariants as help
use Rattle.mid_code.specs.declared.instr.Op.TheVariants.{Add, Sub, And, Or, Xor}
use Rattle.mid_code.specs.declared.instr.Test.TheVariants.{Eq, Ne}
use Rattle.mid_code.specs.declared.code.MidCode.{MidCode}
use Rattle.mid_code.specs.Form.{FitsProgram}
use Rattle.mid_code.specs.Help.{is_wide, number_of_help}
use Rattle.mid_code.specs.Machine.{fn_of}
use Rattle.lower_expr.specs.declared.spot.Spot.{Spot}
use Rattle.lower_expr.specs.Held.{held, is_signed, result_of}
use Rattle.lower_expr.specs.Pieces.{binary_code, bound_code, convert_code, count_code, distance_code, divisor_code, element_code, fit_code, index_bound, move_code, offset_code, product_code, scaled_code, shift_code, sum_code, truth_code, values_at, zero_code}
use Rattle.lower_expr.specs.Code.{Kind, all_labels, args_code, check_of, expr_code, fetch_code, is_void, kind_of, kind_of_spot, labels, local_code, passed_at, place_code, place_labels, put_code, taken_at}
use Rattle.lower_stmt.specs.Code.{Ways, cases_code, clear_code, clears_code, enter_code, here_gives, in_atomic, in_here, in_loop, in_switch, kept_code, maybe_labels, nothing_code, result_code, returned_code, step_code, stmt_code, stmt_labels, stmts_code, switch_code, WayOut, breaking, continuing, returning, back, exit_code, exits_code, leads, way_out}
use Rattle.lower_stmt.specs.Bodies.{params_from, values_of}
use Rattle.lower_stmt.proofs.Common.{both_of}
use Rattle.expr_emitter.proofs.Typed.{held_as}
use Rattle.lower_form.proofs.Quiet.{Quiet, is_quiet, quiet, address_quiet, bits_quiet, both_quiet, bound_quiet, cases_quiet, const_quiet, convert_quiet, count_quiet, divisor_quiet, equal_quiet, fetch_quiet, fit_quiet, local_quiet, local_zero_quiet, move_quiet, nothing_quiet, order_quiet, put_quiet, sum_quiet, unary_quiet, zero_quiet}
use Rattle.lower_form.proofs.Helps.{both_length, check_fits, one_more_length, operation_fits, values_length}

-- ---- what typing says of operands

pub second_some : (op : BinOp) (t : IntType) (H : Ty → Type 0) → IsSecond op t H → IsSome H
second_some bin.Add t H h = (int t, h)
second_some bin.Sub t H h = (int t, h)
second_some bin.Mul t H h = (int t, h)
second_some bin.Div t H h = (int t, h)
second_some bin.Rem t H h = (int t, h)
second_some bin.And t H h = (int t, h)
second_some bin.Or t H h = (int t, h)
second_some bin.Xor t H h = (int t, h)
second_some bin.Shl t H h = (int h.0, h.2)
second_some bin.Shr t H h = (int h.0, h.2)
second_some bin.Eq t H h = (int t, h)
second_some bin.Ne t H h = (int t, h)
second_some bin.Lt t H h = (int t, h)
second_some bin.Le t H h = (int t, h)

-- ---- code that fits

module _ (c : MidCode) (gives : ℕ → ℕ) (f : ℕ) where
  abbrev Fit : List Mid → Type 0
  Fit [] = ⊤
  Fit (i ∷ is) = FitsProgram c gives f i × Fit is

  pub record Fits (code : List Mid) : Type 0 where
    pub each : Fit code

  pub fits_all : (code : List Mid) → Fit code → All (FitsProgram c gives f) code
  fits_all [] h = All-nil (FitsProgram c gives f)
  fits_all (i ∷ code) h = All-cons (FitsProgram c gives f) i code h.0 (fits_all code h.1)

  fit_both : (a b : List Mid) → Fit a → Fit b → Fit (a ++ b)
  fit_both [] b h g = g
  fit_both (i ∷ a) b h g = (h.0, fit_both a b h.1 g)

  pub fits_both : (a b : List Mid) → Fits a → Fits b → Fits (a ++ b)
  fits_both a b h g = record { each = fit_both a b h.each g.each }

  one_quiet : (i : Mid) → is_quiet i ≡ true → FitsProgram c gives f i
  one_quiet (Set v n) h = _
  one_quiet (Move v x) h = _
  one_quiet (Bin op v x y) h = _
  one_quiet (Carry op v x y) h = _
  one_quiet (Load w v x) h = _
  one_quiet (Store w v x) h = _
  one_quiet (Peek w v x) h = _
  one_quiet (Poke w v x) h = _
  one_quiet (In v port) h = _
  one_quiet (Out port v) h = _
  one_quiet (Label l) h = _
  one_quiet (Jump l) h = _
  one_quiet (Branch test x y l) h = _
  one_quiet (Call g ins outs) h = absurd (cc)
  one_quiet (Help o ins outs) h = absurd (cc)
  one_quiet (Ret vs) h = absurd (cc)
  one_quiet (Begin o) h = _
  one_quiet (End o) h = _
  one_quiet (Post k v) h = _
  one_quiet Tick h = _
  one_quiet (Fault code) h = _

  both_true : (a b : Bool) → (a && b) ≡ true → (a ≡ true) × (b ≡ true)
  both_true true b h = (refl, h)
  both_true false b h = absurd (cc)

  quiet_fit : (code : List Mid) → quiet code ≡ true → Fit code
  quiet_fit [] h = tt
  quiet_fit (i ∷ code) h = let two = both_true (is_quiet i) (quiet code) h in (one_quiet i two.0, quiet_fit code two.1)

  pub fits_quiet : (code : List Mid) → Quiet code → Fits code
  fits_quiet code h = record { each = quiet_fit code h.none }

  -- quiet code behind
  pub fits_then : (a b : List Mid) → Fits a → Quiet b → Fits (a ++ b)
  fits_then a b h g = fits_both a b h (fits_quiet b g)

  if_fits : (t : Bool) (a b : List Mid) → Fits a → Fits b → Fits (if t then a else b)
  if_fits true a b h g = h
  if_fits false a b h g = g

  -- ---- operations

  mul_fits : (t : IntType) (r : ℕ) → Fits (product_code help.Mul t r)
  mul_fits t r = record { each = (operation_fits (length c.checks) t help.Mul _ _ (both_length (is_wide t) r (r + 2)) (values_length (is_wide t) r), tt) }

  div_fits : (t : IntType) (r : ℕ) → Fits (product_code help.Div t r)
  div_fits t r = record { each = (operation_fits (length c.checks) t help.Div _ _ (both_length (is_wide t) r (r + 2)) (values_length (is_wide t) r), tt) }

  rem_fits : (t : IntType) (r : ℕ) → Fits (product_code help.Rem t r)
  rem_fits t r = record { each = (operation_fits (length c.checks) t help.Rem _ _ (both_length (is_wide t) r (r + 2)) (values_length (is_wide t) r), tt) }

  left_fits : (t s : IntType) (r l : ℕ) → Fits (shift_code help.Shl t s r l)
  left_fits t s r l =
      fits_both (count_code (is_wide s) r l) _ (fits_quiet _ (count_quiet (is_wide s) r l))
      (record { each = (operation_fits (length c.checks) t help.Shl _ _ (one_more_length (is_wide t) r (r + 2)) (values_length (is_wide t) r), tt) })

  right_fits : (t s : IntType) (r l : ℕ) → Fits (shift_code help.Shr t s r l)
  right_fits t s r l =
      fits_both (count_code (is_wide s) r l) _ (fits_quiet _ (count_quiet (is_wide s) r l))
      (record { each = (operation_fits (length c.checks) t help.Shr _ _ (one_more_length (is_wide t) r (r + 2)) (values_length (is_wide t) r), tt) })

  pub binary_fits : (op : BinOp) (t s : IntType) (r l : ℕ) → Fits (binary_code op t s r l)
  binary_fits bin.Add t s r l = fits_quiet _ (both_quiet (sum_code Add (is_wide t) r) (fit_code t r) (sum_quiet Add (is_wide t) r) (fit_quiet t r))
  binary_fits bin.Sub t s r l = fits_quiet _ (both_quiet (sum_code Sub (is_wide t) r) (fit_code t r) (sum_quiet Sub (is_wide t) r) (fit_quiet t r))
  binary_fits bin.Mul t s r l = mul_fits t r
  binary_fits bin.Div t s r l = fits_both (divisor_code (is_wide t) r l) (product_code help.Div t r) (fits_quiet _ (divisor_quiet (is_wide t) r l)) (div_fits t r)
  binary_fits bin.Rem t s r l = fits_both (divisor_code (is_wide t) r l) (product_code help.Rem t r) (fits_quiet _ (divisor_quiet (is_wide t) r l)) (rem_fits t r)
  binary_fits bin.And t s r l = fits_quiet _ (bits_quiet And (is_wide t) r)
  binary_fits bin.Or t s r l = fits_quiet _ (bits_quiet Or (is_wide t) r)
  binary_fits bin.Xor t s r l = fits_quiet _ (bits_quiet Xor (is_wide t) r)
  binary_fits bin.Shl t s r l = left_fits t s r l
  binary_fits bin.Shr t s r l = right_fits t s r l
  binary_fits bin.Eq t s r l = fits_quiet _ (equal_quiet Eq (is_wide t) r l)
  binary_fits bin.Ne t s r l = fits_quiet _ (equal_quiet Ne (is_wide t) r l)
  binary_fits bin.Lt t s r l = fits_quiet _ (order_quiet true (is_signed t) (is_wide t) r l)
  binary_fits bin.Le t s r l = fits_quiet _ (order_quiet false (is_signed t) (is_wide t) r l)

  scaled_fits : (size r : ℕ) → Fits (scaled_code size r)
  scaled_fits size r =
      if_fits (size == 1) _ _ (record { each = tt }) (if_fits (size == 2) _ _ (fits_quiet _ (record { none = refl }))
      (if_fits (size == 4) _ _ (fits_quiet _ (record { none = refl })) (record { each = (_, (operation_fits (length c.checks) U16 help.Mul 2 1 refl refl, tt)) })))

  pub offset_fits : (size r : ℕ) → Fits (offset_code size r)
  offset_fits size r = fits_then (scaled_code size (r + 2)) _ (scaled_fits size (r + 2)) (record { none = refl })

  pub element_fits : (t : IntType) (count size r l : ℕ) → Fits (element_code t count size r l)
  element_fits t count size r l =
      fits_both (bound_code (is_wide t) (index_bound t count) r l) (scaled_code size (r + 2) ++ Bin Add r r (r + 2) ∷ []) (fits_quiet _ (bound_quiet (is_wide t) (index_bound t count) r l))
      (fits_then (scaled_code size (r + 2)) (Bin Add r r (r + 2) ∷ []) (scaled_fits size (r + 2)) (record { none = refl }))

  pub distance_fits : (size r : ℕ) → Fits (distance_code size r)
  distance_fits size r = record { each = (_, (if_fits (size == 1) [] (Set (r + 2) (size % 65536) ∷ Help (number_of_help I16 help.Div) (r ∷ (r + 2) ∷ []) (r ∷ []) ∷ []) (record { each = tt }) (record { each = (_, (operation_fits (length c.checks) I16 help.Div 2 1 refl refl, tt)) })).each) }

-- ---- values that are passed

pub taken_length : (ty : Ty) (r s : ℕ) → length (taken_at ty r) ≡ length (taken_at ty s)
taken_length ty r s = by (is_void ty) (is_wide (number_of ty))
  where
    by : (b wide : Bool) → length (if b then [] else values_at wide r) ≡ length (if b then [] else values_at wide s)
    by true wide = refl
    by false true = refl
    by false false = refl

both_more : (wide : Bool) (r s : ℕ) (xs ys : List ℕ) → length xs ≡ length ys → length (values_at wide r ++ xs) ≡ length (values_at wide s ++ ys)
both_more true r s xs ys h = ap (λ n. suc (suc n)) h
both_more false r s xs ys h = ap suc h

module _ (p : Program) (types checks : List Ty) (spots : List Spot) where
  pub passed_length : (es : Exprs) (ts : List Ty) (r v : ℕ) → AllHave p types es ts → length (passed_at p types checks spots es r) ≡ length (params_from ts v)
  passed_length no_exprs [] r v h = refl
  passed_length no_exprs (t ∷ ts) r v h = absurd h
  passed_length (more_exprs e rest) [] r v h = absurd h
  passed_length (more_exprs e rest) (t ∷ ts) r v h =
      let more = passed_length rest ts (r + 2) (v + values_of t) h.1 in
      let one = both_more (is_wide (number_of t)) r v (passed_at p types checks spots rest (r + 2)) (params_from ts (v + values_of t)) more in
      subst (λ n. length (values_at (is_wide n) r ++ passed_at p types checks spots rest (r + 2)) ≡ length (params_from (t ∷ ts) v)) (sym (held_as p types e t h.0).0) one

-- ---- what calls name: a function that is there, takes so many values, and gives so many back

pub record CallsFit (c : MidCode) (gives : ℕ → ℕ) (p : Program) : Type 0 where
  pub there : (g : ℕ) (b : Body) → slice_get p.bodies g ≡ Some b → g < length c.fns
  pub params : (g : ℕ) (b : Body) → slice_get p.bodies g ≡ Some b → (fn_of c g).params ≡ params_from (take b.params b.locals) 0
  pub given : (g r : ℕ) (b : Body) → slice_get p.bodies g ≡ Some b → length (taken_at b.result r) ≡ gives g

-- ---- expressions

module _ (c : MidCode) (gives : ℕ → ℕ) (f : ℕ) (p : Program) (types checks : List Ty) (spots : List Spot) (calls : CallsFit c gives p) where
  abbrev IsThere : Ty → Type 0
  IsThere t = check_of checks t < length c.checks

  abbrev Own : List Mid → Type 0
  Own code = Fits c gives f code

  own_both : (a b : List Mid) → Own a → Own b → Own (a ++ b)
  own_both a b h g = fits_both c gives f a b h g

  own_then : (a b : List Mid) → Own a → Quiet b → Own (a ++ b)
  own_then a b h g = fits_then c gives f a b h g

  own_quiet : (a : List Mid) → Quiet a → Own a
  own_quiet a h = fits_quiet c gives f a h

  call_fits : (o : Option Body) (g : ℕ) (es : Exprs) (ty : Ty) (r : ℕ) → slice_get p.bodies g ≡ o → IsCallable o (AllHave p types es) ty →
      Own (Tick ∷ Call g (passed_at p types checks spots es r) (taken_at (result_of o) r) ∷ Tick ∷ [])
  call_fits None g es ty r is h = absurd h
  call_fits (Some b) g es ty r is h = record {
    each = (_, ((calls.there g b is, passed_length p types checks spots es (take b.params b.locals) r 0 h.1 ∙ ap length (sym (calls.params g b is)), calls.given g r b is), (_, tt)));
  }

  called_with : (o : Option Body) (Arguments : List Ty → Type 0) (ty : Ty) → IsCallable o Arguments ty → (ts : List Ty) × Arguments ts
  called_with None A ty h = absurd h
  called_with (Some b) A ty h = (take b.params b.locals, h.1)

  mutual
    place_fits : (place : Place) (r l : ℕ) → IsPlace p types place → All IsThere (place_derefs place) → Own (place_code p types checks spots place r l)
    place_fits (plain.object k) r l h d = own_quiet _ (record { none = refl })
    place_fits (plain.local x) r l h d = own_quiet _ (local_quiet (slice_get spots x) r)
    place_fits (plain.deref e t) r l h d =
        own_both (expr_code p types checks spots e r l) _ (expr_fits e (pointer t) r l h.1 (All-tail IsThere t (expr_derefs e) d))
        (record { each = (check_fits (length c.checks) (check_of checks t) (All-head IsThere t (expr_derefs e) d), tt) })
    place_fits (plain.index place e) r l h d =
        let both = both_of IsThere (place_derefs place) (expr_derefs e) d in
        own_both (place_code p types checks spots place r (l + 2)) _ (place_fits place r (l + 2) h.1 both.0)
        (own_both (expr_code p types checks spots e (r + 2) (l + 2 + place_labels place)) _ (expr_fits e (int h.2.0) (r + 2) (l + 2 + place_labels place) h.2.1 both.1)
        (element_fits c gives f (held p types e) (count_of (place_type p types place)) (size_of p (element_of (place_type p types place))) r l))
    place_fits (plain.field place k) r l h d = own_then (place_code p types checks spots place r l) _ (place_fits place r l h.1 d) (record { none = refl })

    expr_fits : (e : Expr) (ty : Ty) (r l : ℕ) → Has p types e ty → All IsThere (expr_derefs e) → Own (expr_code p types checks spots e r l)
    expr_fits (plain.const t x) ty r l h d = own_quiet _ (const_quiet t x r)
    expr_fits plain.null ty r l h d = own_quiet _ (record { none = refl })
    expr_fits (plain.read place at) ty r l h d =
        own_then (place_code p types checks spots place r l) _ (place_fits place r l h.2 d) (fetch_quiet (kind_of p types checks spots place) (number_of (place_type p types place)) r r)
    expr_fits (plain.addr place) ty r l h d = own_then (place_code p types checks spots place r l) _ (place_fits place r l h.2 d) (address_quiet (kind_of p types checks spots place) r)
    expr_fits (plain.un op t e) ty r l h d = own_then (expr_code p types checks spots e r (l + 2)) _ (expr_fits e (int t) r (l + 2) h.2 d) (unary_quiet op (is_wide t) r l)
    expr_fits (plain.bin op t a b) ty r l h d =
        let both = both_of IsThere (expr_derefs a) (expr_derefs b) d in
        let second = second_some op t (Has p types b) h.3 in
        own_both (expr_code p types checks spots a r (l + 3)) _ (expr_fits a (int t) r (l + 3) h.2 both.0)
        (own_both (expr_code p types checks spots b (r + 2) (l + 3 + labels a)) _ (expr_fits b second.0 (r + 2) (l + 3 + labels a) second.1 both.1) (binary_fits c gives f op t (held p types b) r l))
    expr_fits (plain.convert t e) ty r l h d = own_then (expr_code p types checks spots e r (l + 1)) _ (expr_fits e h.1.0 r (l + 1) h.1.1.1 d) (convert_quiet (held p types e) t r l)
    expr_fits (plain.offset a b size) ty r l h d =
        let both = both_of IsThere (expr_derefs a) (expr_derefs b) d in
        own_both (expr_code p types checks spots a r l) _ (expr_fits a ty r l h.1 both.0)
        (own_both (expr_code p types checks spots b (r + 2) (l + labels a)) _ (expr_fits b (int h.2.0) (r + 2) (l + labels a) h.2.1 both.1) (offset_fits c gives f size r))
    expr_fits (plain.distance a b size) ty r l h d =
        let both = both_of IsThere (expr_derefs a) (expr_derefs b) d in
        own_both (expr_code p types checks spots a r l) _ (expr_fits a h.1.0 r l h.1.1.1 both.0)
        (own_both (expr_code p types checks spots b (r + 2) (l + labels a)) _ (expr_fits b h.1.0 (r + 2) (l + labels a) h.1.1.2 both.1) (distance_fits c gives f size r))
    expr_fits (plain.both a b) ty r l h d =
        let two = both_of IsThere (expr_derefs a) (expr_derefs b) d in
        own_both (expr_code p types checks spots a r (l + 2)) _ (expr_fits a h.1.0 r (l + 2) h.1.2 two.0)
        (own_both (zero_code Eq (is_wide (held p types a)) r l) _ (own_quiet _ (zero_quiet Eq (is_wide (held p types a)) r l))
        (own_both (expr_code p types checks spots b r (l + 2 + labels a)) _ (expr_fits b h.2.0 r (l + 2 + labels a) h.2.2 two.1)
        (own_then (zero_code Eq (is_wide (held p types b)) r l) (Set r 1 ∷ Jump (l + 1) ∷ Label l ∷ Set r 0 ∷ Label (l + 1) ∷ []) (own_quiet _ (zero_quiet Eq (is_wide (held p types b)) r l)) (record { none = refl }))))
    expr_fits (plain.either a b) ty r l h d =
        let two = both_of IsThere (expr_derefs a) (expr_derefs b) d in
        own_both (expr_code p types checks spots a r (l + 2)) _ (expr_fits a h.1.0 r (l + 2) h.1.2 two.0)
        (own_both (zero_code Ne (is_wide (held p types a)) r l) _ (own_quiet _ (zero_quiet Ne (is_wide (held p types a)) r l))
        (own_both (expr_code p types checks spots b r (l + 2 + labels a)) _ (expr_fits b h.2.0 r (l + 2 + labels a) h.2.2 two.1)
        (own_then (zero_code Ne (is_wide (held p types b)) r l) (truth_code r l) (own_quiet _ (zero_quiet Ne (is_wide (held p types b)) r l)) (record { none = refl }))))
    expr_fits (plain.choice test a b) ty r l h d =
        let two = both_of IsThere (expr_derefs test ++ expr_derefs a) (expr_derefs b) d in
        let first = both_of IsThere (expr_derefs test) (expr_derefs a) two.0 in
        own_both (expr_code p types checks spots test r (l + 2)) _ (expr_fits test h.0.0 r (l + 2) h.0.2 first.0)
        (own_both (zero_code Eq (is_wide (held p types test)) r l) _ (own_quiet _ (zero_quiet Eq (is_wide (held p types test)) r l))
        (own_both (expr_code p types checks spots a r (l + 2 + labels test)) _ (expr_fits a ty r (l + 2 + labels test) h.1 first.1)
        (record { each = (_, (_, (own_then (expr_code p types checks spots b r (l + 2 + labels test + labels a)) (Label (l + 1) ∷ []) (expr_fits b ty r (l + 2 + labels test + labels a) h.2 two.1) (record { none = refl })).each)) })))
    expr_fits (plain.assign place e at) ty r l h d =
        let both = both_of IsThere (place_derefs place) (expr_derefs e) d in
        own_both (place_code p types checks spots place r l) _ (place_fits place r l h.2 both.0)
        (own_then (expr_code p types checks spots e (r + 2) (l + place_labels place)) _ (expr_fits e ty (r + 2) (l + place_labels place) h.3 both.1)
        (both_quiet (put_code (kind_of p types checks spots place) (number_of (place_type p types place)) (r + 2) r) _ (put_quiet (kind_of p types checks spots place) (number_of (place_type p types place)) (r + 2) r)
        (move_quiet (is_wide (number_of (place_type p types place))) r (r + 2))))
    expr_fits (plain.update place op t e gives_old at) ty r l h d =
        let of : IntType = number_of (place_type p types place) in
        let kind : Kind = kind_of p types checks spots place in
        let s : IntType = held p types e in
        let both = both_of IsThere (place_derefs place) (expr_derefs e) d in
        let second = second_some op t (Has p types e) h.3 in
        own_both (place_code p types checks spots place r (l + 5)) _ (place_fits place r (l + 5) h.2 both.0)
        (own_both (fetch_code kind of (r + 2) r) _ (own_quiet _ (fetch_quiet kind of (r + 2) r))
        (own_both (expr_code p types checks spots e (r + 4) (l + 5 + place_labels place)) _ (expr_fits e second.0 (r + 4) (l + 5 + place_labels place) second.1 both.1)
        (own_both (move_code (is_wide of) (r + 6) (r + 2)) _ (own_quiet _ (move_quiet (is_wide of) (r + 6) (r + 2)))
        (own_both (convert_code of t (r + 6) l) _ (own_quiet _ (convert_quiet of t (r + 6) l))
        (own_both (move_code (is_wide s) (r + 8) (r + 4)) _ (own_quiet _ (move_quiet (is_wide s) (r + 8) (r + 4)))
        (own_then (binary_code op t s (r + 6) (l + 1)) _ (binary_fits c gives f op t s (r + 6) (l + 1))
        (both_quiet (convert_code t of (r + 6) (l + 4)) _ (convert_quiet t of (r + 6) (l + 4))
        (both_quiet (put_code kind of (r + 6) r) _ (put_quiet kind of (r + 6) r) (move_quiet (is_wide of) r (if gives_old then r + 2 else r + 6))))))))))
    expr_fits (plain.call g arguments at) ty r l h d =
        let with = called_with (slice_get p.bodies g) (AllHave p types arguments) ty h in
        own_both (args_code p types checks spots arguments r l) _ (args_fit arguments with.0 r l with.1 d) (call_fits (slice_get p.bodies g) g arguments ty r refl h)
    expr_fits (plain.post k) ty r l h d = own_quiet _ (record { none = refl })
    expr_fits (plain.port_in port) ty r l h d = own_quiet _ (record { none = refl })
    expr_fits (plain.port_out port e) ty r l h d = own_then (expr_code p types checks spots e r l) _ (expr_fits e (int U16) r l h.2 d) (record { none = refl })
    expr_fits (plain.comma a b) ty r l h d =
        let both = both_of IsThere (expr_derefs a) (expr_derefs b) d in
        own_both (expr_code p types checks spots a r l) _ (expr_fits a h.0.0 r l h.0.1 both.0) (expr_fits b ty r (l + labels a) h.1 both.1)

    args_fit : (es : Exprs) (ts : List Ty) (r l : ℕ) → AllHave p types es ts → All IsThere (exprs_derefs es) → Own (args_code p types checks spots es r l)
    args_fit no_exprs ts r l h d = record { each = tt }
    args_fit (more_exprs e rest) [] r l h d = absurd h
    args_fit (more_exprs e rest) (t ∷ ts) r l h d =
        let both = both_of IsThere (expr_derefs e) (exprs_derefs rest) d in
        own_both (expr_code p types checks spots e r l) _ (expr_fits e t r l h.0 both.0) (args_fit rest ts (r + 2) (l + labels e) h.1 both.1)

-- ---- statements

module _ (c : MidCode) (gives : ℕ → ℕ) (f : ℕ) (p : Program) (types checks : List Ty) (spots : List Spot) (base : ℕ) (calls : CallsFit c gives p) where
  abbrev Held : List Mid → Type 0
  Held code = Fits c gives f code

  abbrev IsIn : Ty → Type 0
  IsIn t = check_of checks t < length c.checks

  -- a return that leads back to the caller gives as many values as the function
  pub record GivesBack (w : Ways) : Type 0 where
    pub told : w.return_to ≡ None → (r : ℕ) → length (taken_at w.gives r) ≡ gives f

  in_loop_gives : (w : Ways) (out next : ℕ) → GivesBack w → GivesBack (in_loop out next w)
  in_loop_gives w out next h = record { told = h.told }

  in_switch_gives : (w : Ways) (out : ℕ) → GivesBack w → GivesBack (in_switch out w)
  in_switch_gives w out h = record { told = h.told }

  in_atomic_gives : (w : Ways) (l : ℕ) → GivesBack (in_atomic l w)
  in_atomic_gives w l = record { told = λ e r. absurd (cc) }

  in_here_gives : (w : Ways) (l : ℕ) (ty : Ty) → GivesBack (in_here l ty w)
  in_here_gives w l ty = record { told = λ e r. absurd (cc) }

  both : (a b : List Mid) → Held a → Held b → Held (a ++ b)
  both a b h g = fits_both c gives f a b h g

  ends_quiet : (a b : List Mid) → Held a → Quiet b → Held (a ++ b)
  ends_quiet a b h g = fits_then c gives f a b h g

  is_quiet_code : (a : List Mid) → Quiet a → Held a
  is_quiet_code a h = fits_quiet c gives f a h

  one_before : (i : Mid) (a : List Mid) → is_quiet i ≡ true → Held a → Held (i ∷ a)
  one_before i a q h = record { each = (one_quiet c gives f i q, h.each) }

  of_expr : (e : Expr) (ty : Ty) (r l : ℕ) → Has p types e ty → All IsIn (expr_derefs e) → Held (expr_code p types checks spots e r l)
  of_expr e ty r l h d = expr_fits c gives f p types checks spots calls e ty r l h d

  of_step : (e : Option Expr) (l : ℕ) → IsDone p types e → All IsIn (maybe_derefs e) → Held (step_code p types checks spots base e l)
  of_step None l h d = record { each = tt }
  of_step (Some e) l h d = of_expr e h.0 base l h.1 d

  of_returned : (e : Option Expr) (w : Ways) (t : Ty) (l : ℕ) → IsGiven p types e t → All IsIn (maybe_derefs e) → Held (returned_code p types checks spots base e w l)
  of_returned None w t l h d = is_quiet_code _ (nothing_quiet w.gives (base + 2))
  of_returned (Some e) w t l h d = of_expr e t (base + 2) l h.1 d

  back_fits : (o : Option ℕ) (ty : Ty) (r : ℕ) → (o ≡ None → length (taken_at ty r) ≡ gives f) → FitsProgram c gives f (back o ty r)
  back_fits None ty r h = h refl
  back_fits (Some l) ty r h = _

  way_fits : (w : Ways) (r : ℕ) (out : WayOut) → GivesBack w → FitsProgram c gives f (way_out w r out)
  way_fits w r returning h = back_fits w.return_to w.gives r (λ e. h.told e r)
  way_fits w r breaking h = _
  way_fits w r continuing h = _

  exit_fits : (b : Bool) (o l : ℕ) (w : Ways) (r : ℕ) (out : WayOut) → GivesBack w → Held (exit_code b o l (way_out w r out))
  exit_fits true o l w r out h = record { each = (_, (_, (_, (way_fits w r out h, (_, tt))))) }
  exit_fits false o l w r out h = record { each = tt }

  exits_fit : (may : WayOut → Bool) (w : Ways) (r l : ℕ) → GivesBack w → Held (exits_code may w r l)
  exits_fit may w r l h =
      both (exit_code (may returning) w.status l (way_out w r returning)) _ (exit_fits (may returning) w.status l w r returning h)
      (both (exit_code (may breaking) w.status (l + 2) (way_out w r breaking)) (exit_code (may continuing) w.status (l + 4) (way_out w r continuing))
      (exit_fits (may breaking) w.status (l + 2) w r breaking h) (exit_fits (may continuing) w.status (l + 4) w r continuing h))

  of_kept : (ty : Ty) (o : Option Spot) (work : List Mid) → Held work → Held (kept_code p types checks spots base ty o work)
  of_kept ty o work h = by (is_void ty)
    where
      by : (b : Bool) → Held (if b then work else local_code o base ++ (work ++ put_code (kind_of_spot o) (number_of ty) (base + 2) base))
      by true = h
      by false =
          both (local_code o base) (work ++ put_code (kind_of_spot o) (number_of ty) (base + 2) base) (is_quiet_code _ (local_quiet o base))
          (ends_quiet work (put_code (kind_of_spot o) (number_of ty) (base + 2) base) h (put_quiet (kind_of_spot o) (number_of ty) (base + 2) base))

  of_enter : (es : Exprs) (ts : List Ty) (x l : ℕ) → AllHave p types es ts → All IsIn (exprs_derefs es) → Held (enter_code p types checks spots base es x l)
  of_enter no_exprs ts x l h d = record { each = tt }
  of_enter (more_exprs e rest) [] x l h d = absurd h
  of_enter (more_exprs e rest) (t ∷ ts) x l h d =
      let two = both_of IsIn (expr_derefs e) (exprs_derefs rest) d in
      both (kept_code p types checks spots base (slice_index_or types x plain.void) (slice_get spots x) (expr_code p types checks spots e (base + 2) l)) (enter_code p types checks spots base rest (x + 1) (l + labels e))
      (of_kept (slice_index_or types x plain.void) (slice_get spots x) (expr_code p types checks spots e (base + 2) l) (of_expr e t (base + 2) l h.0 two.0)) (of_enter rest ts (x + 1) (l + labels e) h.1 two.1)

  clears_quiet : (count x l : ℕ) → Quiet (clears_code p types checks spots base count x l)
  clears_quiet zero x l = record { none = refl }
  clears_quiet (suc count) x l =
      both_quiet (clear_code p types checks spots base x l) (clears_code p types checks spots base count (x + 1) (l + 2))
      (local_zero_quiet (slice_get spots x) (slice_index_or types x plain.void) (size_of p (slice_index_or types x plain.void)) base l) (clears_quiet count (x + 1) (l + 2))

  of_result : (b : Bool) (x : ℕ) → Held (result_code p types checks spots base b x)
  of_result false x = record { each = tt }
  of_result true x = of_kept (slice_index_or types x plain.void) (slice_get spots x) [] (record { each = tt })

  mutual
    pub stmt_fits : (s : Stmt) (exits : Exits) (w : Ways) (l : ℕ) → IsStmt p types s exits → All IsIn (stmt_derefs s) → GivesBack w → Held (stmt_code p types checks spots base s w l)
    stmt_fits (plain.eval e) exits w l h d g = of_expr e h.0 base l h.1 d
    stmt_fits (plain.block list) exits w l h d g = stmts_fit list exits w l h d g
    stmt_fits (plain.branch test a b) exits w l h d g =
        let two = both_of IsIn (expr_derefs test ++ stmt_derefs a) (stmt_derefs b) d in
        let first = both_of IsIn (expr_derefs test) (stmt_derefs a) two.0 in
        let ca : List Mid = stmt_code p types checks spots base a w (l + 2 + labels test) in
        let cb : List Mid = stmt_code p types checks spots base b w (l + 2 + labels test + stmt_labels a) in
        let z : List Mid = zero_code Eq (is_wide (held p types test)) base l in
        both (expr_code p types checks spots test base (l + 2)) (z ++ (ca ++ (Jump (l + 1) ∷ Label l ∷ (cb ++ Label (l + 1) ∷ [])))) (of_expr test h.0.0 base (l + 2) h.0.2 first.0)
        (both z (ca ++ (Jump (l + 1) ∷ Label l ∷ (cb ++ Label (l + 1) ∷ []))) (is_quiet_code z (zero_quiet Eq (is_wide (held p types test)) base l))
        (both ca (Jump (l + 1) ∷ Label l ∷ (cb ++ Label (l + 1) ∷ [])) (stmt_fits a exits w (l + 2 + labels test) h.1 first.1 g)
        (one_before (Jump (l + 1)) (Label l ∷ (cb ++ Label (l + 1) ∷ [])) refl (one_before (Label l) (cb ++ Label (l + 1) ∷ []) refl
        (ends_quiet cb (Label (l + 1) ∷ []) (stmt_fits b exits w (l + 2 + labels test + stmt_labels a) h.2 two.1 g) (record { none = refl }))))))
    stmt_fits (plain.loop true test step body) exits w l h d g =
        let two = both_of IsIn (expr_derefs test ++ maybe_derefs step) (stmt_derefs body) d in
        let first = both_of IsIn (expr_derefs test) (maybe_derefs step) two.0 in
        let inner : Ways = in_loop (l + 1) (l + 2) w in
        let lb : ℕ = l + 3 + labels test + maybe_labels step in
        let cb : List Mid = stmt_code p types checks spots base body inner lb in
        let cs : List Mid = step_code p types checks spots base step (l + 3 + labels test) in
        let z : List Mid = zero_code Eq (is_wide (held p types test)) base (l + 1) in
        let ct : List Mid = expr_code p types checks spots test base (l + 3) in
        one_before (Label l) (Tick ∷ (ct ++ (z ++ (cb ++ (Label (l + 2) ∷ (cs ++ Jump l ∷ Label (l + 1) ∷ [])))))) refl
        (one_before Tick (ct ++ (z ++ (cb ++ (Label (l + 2) ∷ (cs ++ Jump l ∷ Label (l + 1) ∷ []))))) refl
        (both ct (z ++ (cb ++ (Label (l + 2) ∷ (cs ++ Jump l ∷ Label (l + 1) ∷ [])))) (of_expr test h.0.0 base (l + 3) h.0.2 first.0)
        (both z (cb ++ (Label (l + 2) ∷ (cs ++ Jump l ∷ Label (l + 1) ∷ []))) (is_quiet_code z (zero_quiet Eq (is_wide (held p types test)) base (l + 1)))
        (both cb (Label (l + 2) ∷ (cs ++ Jump l ∷ Label (l + 1) ∷ [])) (stmt_fits body (formed.in_loop exits) inner lb h.2 two.1 (in_loop_gives w (l + 1) (l + 2) g))
        (one_before (Label (l + 2)) (cs ++ Jump l ∷ Label (l + 1) ∷ []) refl (ends_quiet cs (Jump l ∷ Label (l + 1) ∷ []) (of_step step (l + 3 + labels test) h.1 first.1) (record { none = refl })))))))
    stmt_fits (plain.loop false test step body) exits w l h d g =
        let two = both_of IsIn (expr_derefs test ++ maybe_derefs step) (stmt_derefs body) d in
        let first = both_of IsIn (expr_derefs test) (maybe_derefs step) two.0 in
        let inner : Ways = in_loop (l + 1) (l + 2) w in
        let lb : ℕ = l + 3 + labels test + maybe_labels step in
        let cb : List Mid = stmt_code p types checks spots base body inner lb in
        let ct : List Mid = expr_code p types checks spots test base (l + 3) in
        let z : List Mid = zero_code Ne (is_wide (held p types test)) base l in
        one_before (Label l) (Tick ∷ (cb ++ (Label (l + 2) ∷ (ct ++ (z ++ Label (l + 1) ∷ []))))) refl
        (one_before Tick (cb ++ (Label (l + 2) ∷ (ct ++ (z ++ Label (l + 1) ∷ [])))) refl
        (both cb (Label (l + 2) ∷ (ct ++ (z ++ Label (l + 1) ∷ []))) (stmt_fits body (formed.in_loop exits) inner lb h.2 two.1 (in_loop_gives w (l + 1) (l + 2) g))
        (one_before (Label (l + 2)) (ct ++ (z ++ Label (l + 1) ∷ [])) refl
        (both ct (z ++ Label (l + 1) ∷ []) (of_expr test h.0.0 base (l + 3) h.0.2 first.0)
        (ends_quiet z (Label (l + 1) ∷ []) (is_quiet_code z (zero_quiet Ne (is_wide (held p types test)) base l)) (record { none = refl }))))))
    stmt_fits (plain.switch e cases list) exits w l h d g =
        let two = both_of IsIn (expr_derefs e) (stmts_derefs list) d in
        let ls : ℕ = l + 1 + count_stmts list + labels e in
        let cs : List Mid = switch_code p types checks spots base list (in_switch l w) (l + 1) ls in
        let z : List Mid = cases_code (held p types e) cases (start_of_default cases) base l in
        both (expr_code p types checks spots e base (l + 1 + count_stmts list)) (z ++ (cs ++ Label l ∷ [])) (of_expr e (int h.0.0) base (l + 1 + count_stmts list) h.0.1 two.0)
        (both z (cs ++ Label l ∷ []) (is_quiet_code z (cases_quiet (held p types e) cases (start_of_default cases) base l))
        (ends_quiet cs (Label l ∷ []) (switch_fits list (formed.in_switch exits) (in_switch l w) (l + 1) ls h.2 two.1 (in_switch_gives w l g)) (record { none = refl })))
    stmt_fits plain.break exits w l h d g = record { each = (way_fits w (base + 2) breaking g, tt) }
    stmt_fits plain.continue exits w l h d g = record { each = (way_fits w (base + 2) continuing g, tt) }
    stmt_fits (plain.return e) exits w l h d g =
        both (returned_code p types checks spots base e w l) (way_out w (base + 2) returning ∷ []) (of_returned e w exits.gives l h d) (record { each = (way_fits w (base + 2) returning g, tt) })
    stmt_fits (plain.atomic s) exits w l h d g =
        let exits_of : List Mid = End w.status ∷ exits_code (leads s) w (base + 2) l in
        let cs : List Mid = stmt_code p types checks spots base s (in_atomic l w) (l + 6) in
        one_before (Begin w.status) (cs ++ exits_of) refl
        (both cs exits_of (stmt_fits s exits (in_atomic l w) (l + 6) h d (in_atomic_gives w l))
        (one_before (End w.status) (exits_code (leads s) w (base + 2) l) refl (exits_fit (leads s) w (base + 2) l g)))
    stmt_fits (plain.clear x) exits w l h d g =
        is_quiet_code _ (local_zero_quiet (slice_get spots x) (slice_index_or types x plain.void) (size_of p (slice_index_or types x plain.void)) base l)
    stmt_fits (plain.here arguments first count body) exits w l h d g =
        let two = both_of IsIn (exprs_derefs arguments) (stmt_derefs body) d in
        let gives_one : Bool = gives_value body in
        let ways : Ways = in_here l (here_gives p types checks spots base gives_one (first + count)) w in
        let n : ℕ = count_exprs arguments in
        let la : ℕ = all_labels arguments in
        let cc1 : List Mid = clears_code p types checks spots base (count - n) (first + n) (l + 1 + la) in
        let cb : List Mid = stmt_code p types checks spots base body ways (l + 1 + la + 2 * count) in
        let cn : List Mid = nothing_code ways.gives (base + 2) in
        let cr : List Mid = result_code p types checks spots base gives_one (first + count) in
        both (enter_code p types checks spots base arguments first (l + 1)) (cc1 ++ (Tick ∷ (cb ++ (cn ++ (Label l ∷ Tick ∷ cr))))) (of_enter arguments (take n (drop first types)) first (l + 1) h.0.passed two.0)
        (both cc1 (Tick ∷ (cb ++ (cn ++ (Label l ∷ Tick ∷ cr)))) (is_quiet_code cc1 (clears_quiet (count - n) (first + n) (l + 1 + la)))
        (one_before Tick (cb ++ (cn ++ (Label l ∷ Tick ∷ cr))) refl
        (both cb (cn ++ (Label l ∷ Tick ∷ cr)) (stmt_fits body (by_result p types first count) ways (l + 1 + la + 2 * count) h.1 two.1 (in_here_gives w l (here_gives p types checks spots base gives_one (first + count))))
        (both cn (Label l ∷ Tick ∷ cr) (is_quiet_code cn (nothing_quiet ways.gives (base + 2))) (one_before (Label l) (Tick ∷ cr) refl (one_before Tick cr refl (of_result gives_one (first + count))))))))

    stmts_fit : (list : Stmts) (exits : Exits) (w : Ways) (l : ℕ) → AreStmts p types list exits → All IsIn (stmts_derefs list) → GivesBack w → Held (stmts_code p types checks spots base list w l)
    stmts_fit no_stmts exits w l h d g = record { each = tt }
    stmts_fit (more_stmts s rest) exits w l h d g =
        let two = both_of IsIn (stmt_derefs s) (stmts_derefs rest) d in
        both (stmt_code p types checks spots base s w l) (stmts_code p types checks spots base rest w (l + stmt_labels s)) (stmt_fits s exits w l h.0 two.0 g) (stmts_fit rest exits w (l + stmt_labels s) h.1 two.1 g)

    switch_fits : (list : Stmts) (exits : Exits) (w : Ways) (k l : ℕ) → AreStmts p types list exits → All IsIn (stmts_derefs list) → GivesBack w → Held (switch_code p types checks spots base list w k l)
    switch_fits no_stmts exits w k l h d g = record { each = tt }
    switch_fits (more_stmts s rest) exits w k l h d g =
        let two = both_of IsIn (stmt_derefs s) (stmts_derefs rest) d in
        one_before (Label k) (stmt_code p types checks spots base s w l ++ switch_code p types checks spots base rest w (suc k) (l + stmt_labels s)) refl
        (both (stmt_code p types checks spots base s w l) (switch_code p types checks spots base rest w (suc k) (l + stmt_labels s)) (stmt_fits s exits w l h.0 two.0 g)
        (switch_fits rest exits w (suc k) (l + stmt_labels s) h.1 two.1 g))
