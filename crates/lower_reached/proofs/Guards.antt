-- At each label of an expression nothing is known, but behind the test of a divisor that it is not 0.
use Rattle.std.proofs.Common.{◌≡◌, ℕ, ◌+◌, ◌%◌, ◌<◌, ◌≤◌, Bool, ◌==◌, List, [], ◌∷◌, ◌++◌, take, Option, Some, None, refl, ap, ◌∙◌, arith}
use Rattle.std.specs.Prelude.{nat_lt, slice_get, if◌then◌else◌}
use Rattle.std.proofs.lemmas.Bool.{eq-eqb, ne_eqb}
use Rattle.nm_base.specs.declared.int_type.IntType.{IntType}
use Rattle.nm_base.specs.declared.int_type.IntType.TheVariants.{I8, U8, I16, U16, I32, U32}
use Rattle.nesc_core.specs.declared.tree.BinOp.{BinOp}
use Rattle.nesc_core.specs.Plain.{Ty, Expr, Exprs, no_exprs, more_exprs, Field, Place, Body, Program}
use Rattle.nesc_core.specs.Plain as plain
use Rattle.nesc_core.specs.PlaceTypes.{place_type, element_of, count_of}
use Rattle.nesc_core.specs.Size.{IsSized, layout_of}
use Rattle.nesc_core.specs.Typing.{AllHave, Has, IsCallable, IsPlace, IsStepped}
use Rattle.core_meaning.specs.Layout.{size_of}
use Rattle.core_meaning.specs.Work.{number_of}
use Rattle.mid_code.specs.declared.instr.Mid.{Mid}
use Rattle.mid_code.specs.declared.instr.Mid.TheVariants.{Jump, Label, Post, Set}
use Rattle.mid_code.specs.declared.instr.Test.TheVariants.{Eq, Ne}
use Rattle.mid_code.specs.Help.{is_wide}
use Rattle.lower_expr.specs.declared.spot.Spot.{Spot}
use Rattle.lower_expr.specs.Held.{held}
use Rattle.lower_expr.specs.Pieces.{binary_code, convert_code, move_code, truth_code, zero_code}
use Rattle.lower_expr.specs.Code.{Kind, all_labels, args_code, check_of, expr_code, fetch_code, kind_of, labels, place_code, place_labels, put_code}
use Rattle.lower_form.proofs.Fits.{second_some}
use Rattle.lower_reached.proofs.Facts.{Are, Fact, Keeps, first, jump_keeps, keeps_both, label_keeps, nothing, second}
use Rattle.lower_reached.proofs.Divided.{IsPlain, address_plain, binary_keeps, both_plain, check_divides, const_plain, convert_plain, distance_keeps, element_plain, fetch_plain, fit_plain, guard, local_plain, move_plain, of_plain, offset_plain, put_plain, truth_plain, unary_plain, zero_plain}

-- ---- what is known at a label

-- of an operation's labels, which are those from l on
abbrev pub of_operation : BinOp → IntType → (r l k : ℕ) → Fact
of_operation op t r l k = if k == l then guard op t r else nothing

abbrev mutual
  pub place_facts : Place → (r l k : ℕ) → Fact
  place_facts (plain.object n) r l k = nothing
  place_facts (plain.local x) r l k = nothing
  place_facts (plain.deref e t) r l k = facts e r l k
  place_facts (plain.index place e) r l k =
      if nat_lt k (l + 2) then nothing else if nat_lt k (l + 2 + place_labels place) then place_facts place r (l + 2) k else facts e (r + 2) (l + 2 + place_labels place) k
  place_facts (plain.field place n) r l k = place_facts place r l k

  -- at the label k of an expression whose labels are those from l on, and whose value comes to r
  pub facts : Expr → (r l k : ℕ) → Fact
  facts (plain.const t x) r l k = nothing
  facts plain.null r l k = nothing
  facts (plain.read place at) r l k = place_facts place r l k
  facts (plain.addr place) r l k = place_facts place r l k
  facts (plain.un op t e) r l k = if nat_lt k (l + 2) then nothing else facts e r (l + 2) k
  facts (plain.bin op t a b) r l k =
      if nat_lt k (l + 3) then of_operation op t r l k else if nat_lt k (l + 3 + labels a) then facts a r (l + 3) k else facts b (r + 2) (l + 3 + labels a) k
  facts (plain.convert t e) r l k = if nat_lt k (l + 1) then nothing else facts e r (l + 1) k
  facts (plain.offset a b size) r l k = if nat_lt k (l + labels a) then facts a r l k else facts b (r + 2) (l + labels a) k
  facts (plain.distance a b size) r l k = if nat_lt k (l + labels a) then facts a r l k else facts b (r + 2) (l + labels a) k
  facts (plain.both a b) r l k =
      if nat_lt k (l + 2) then nothing else if nat_lt k (l + 2 + labels a) then facts a r (l + 2) k else facts b r (l + 2 + labels a) k
  facts (plain.either a b) r l k =
      if nat_lt k (l + 2) then nothing else if nat_lt k (l + 2 + labels a) then facts a r (l + 2) k else facts b r (l + 2 + labels a) k
  facts (plain.choice test a b) r l k =
      if nat_lt k (l + 2) then nothing else if nat_lt k (l + 2 + labels test) then facts test r (l + 2) k else
      if nat_lt k (l + 2 + labels test + labels a) then facts a r (l + 2 + labels test) k else facts b r (l + 2 + labels test + labels a) k
  facts (plain.assign place e at) r l k = if nat_lt k (l + place_labels place) then place_facts place r l k else facts e (r + 2) (l + place_labels place) k
  facts (plain.update place op t e gives_old at) r l k =
      if nat_lt k (l + 5) then of_operation op t (r + 6) (l + 1) k else
      if nat_lt k (l + 5 + place_labels place) then place_facts place r (l + 5) k else facts e (r + 4) (l + 5 + place_labels place) k
  facts (plain.call f arguments at) r l k = all_facts arguments r l k
  facts (plain.post n) r l k = nothing
  facts (plain.port_in port) r l k = nothing
  facts (plain.port_out port e) r l k = facts e r l k
  facts (plain.comma a b) r l k = if nat_lt k (l + labels a) then facts a r l k else facts b r (l + labels a) k

  pub all_facts : Exprs → (r l k : ℕ) → Fact
  all_facts no_exprs r l k = nothing
  all_facts (more_exprs e rest) r l k = if nat_lt k (l + labels e) then facts e r l k else all_facts rest (r + 2) (l + labels e) k

-- ---- sizes

number_small : (t : IntType) → (layout_of [] (plain.int t)).size ≤ 4
number_small I8 = omega arith
number_small U8 = omega arith
number_small I16 = omega arith
number_small U16 = omega arith
number_small I32 = omega arith
number_small U32 = omega arith

type_small : (structs : List (List Field)) (t : Ty) → IsSized structs t → (layout_of structs t).size ≤ 32767
type_small structs plain.void h = omega arith
type_small structs (plain.int t) h = let small = number_small t in omega (arith, small)
type_small structs (plain.pointer t) h = omega arith
type_small structs (plain.array t n) h = h.small.1
type_small structs (plain.struct k) h = h.small

step_some : (structs : List (List Field)) (size : ℕ) (ty : Ty) → IsStepped structs size ty → 0 < size % 65536
step_some structs size plain.void h = absurd h
step_some structs size (plain.int t) h = absurd h
step_some structs size (plain.pointer t) h =
    let small = type_small structs t h.0.0 in
    let some = h.0.1 in
    let e = h.1 in
    omega (arith, small, some, e)
step_some structs size (plain.array t n) h = absurd h
step_some structs size (plain.struct k) h = absurd h

-- ---- expressions

module _ (at_label : ℕ → Fact) (p : Program) (types checks : List Ty) (spots : List Spot) where
  abbrev K : List Mid → Type 0
  K c = Keeps at_label c

  abbrev A : (ℕ → Fact) → (lo n : ℕ) → Type 0
  A t lo n = Are at_label t lo n

  abbrev P : Place → ℕ → ℕ → List Mid
  P place r l = place_code p types checks spots place r l

  abbrev E : Expr → ℕ → ℕ → List Mid
  E e r l = expr_code p types checks spots e r l

  abbrev of_place : Place → IntType
  of_place place = number_of (place_type p types place)

  both : (a b : List Mid) → K a → K b → K (a ++ b)
  both a b h g = keeps_both at_label a b h g

  plain_one : (a : List Mid) → IsPlain at_label a → K a
  plain_one a h = of_plain at_label a h

  none_at : (lo n k : ℕ) → A (λ i. nothing) lo n → lo ≤ k → k < lo + n → at_label k ≡ nothing
  none_at lo n k h ge lt = h.each k ge lt

  guard_at : (op : BinOp) (t : IntType) (r lo l n : ℕ) → A (λ k. of_operation op t r l k) lo n → lo ≤ l → l < lo + n → at_label l ≡ guard op t r
  guard_at op t r lo l n h ge lt = h.each l ge lt ∙ ap (λ (b : Bool). if b then guard op t r else nothing) (eq-eqb l l refl)

  other_at : (op : BinOp) (t : IntType) (r lo l n k : ℕ) → A (λ k. of_operation op t r l k) lo n → lo ≤ k → k < lo + n → (k ≡ l → ⊥) → at_label k ≡ nothing
  other_at op t r lo l n k h ge lt ne = h.each k ge lt ∙ ap (λ (b : Bool). if b then guard op t r else nothing) (ne_eqb k l ne)

  called_with : (o : Option Body) (Arguments : List Ty → Type 0) (ty : Ty) → IsCallable o Arguments ty → (ts : List Ty) × Arguments ts
  called_with None R ty h = absurd h
  called_with (Some b) R ty h = (take b.params b.locals, h.1)

  mutual
    place_keeps : (place : Place) (r l : ℕ) → IsPlace p types place → A (λ k. place_facts place r l k) l (place_labels place) → K (P place r l)
    place_keeps (plain.object n) r l h a = plain_one _ (record { each = tt })
    place_keeps (plain.local x) r l h a = plain_one _ (local_plain at_label (slice_get spots x) r)
    place_keeps (plain.deref e t) r l h a =
        both (E e r l) _ (expr_keeps e (plain.pointer t) r l h.1 a) (plain_one _ (record { each = (check_divides (check_of checks t) (r ∷ []), tt) }))
    place_keeps (plain.index place e) r l h a =
        let fp : ℕ → Fact = (λ k. place_facts place r (l + 2) k) in
        let fe : ℕ → Fact = (λ k. facts e (r + 2) (l + 2 + place_labels place) k) in
        let fr : ℕ → Fact = (λ k. if nat_lt k (l + 2 + place_labels place) then place_facts place r (l + 2) k else facts e (r + 2) (l + 2 + place_labels place) k) in
        let own : A (λ k. nothing) l 2 = first at_label (λ k. nothing) fr l (l + 2) 2 (2 + place_labels place + labels e) a (omega arith) (omega arith) in
        let rest : A fr (l + 2) (place_labels place + labels e) = second at_label (λ k. nothing) fr l (l + 2) 2 (2 + place_labels place + labels e) (place_labels place + labels e) a (omega arith) (omega arith) in
        let ap1 : A fp (l + 2) (place_labels place) = first at_label fp fe (l + 2) (l + 2 + place_labels place) (place_labels place) (place_labels place + labels e) rest (omega arith) (omega arith) in
        let ae : A fe (l + 2 + place_labels place) (labels e) = second at_label fp fe (l + 2) (l + 2 + place_labels place) (place_labels place) (place_labels place + labels e) (labels e) rest (omega arith) (omega arith) in
        both (P place r (l + 2)) _ (place_keeps place r (l + 2) h.1 ap1)
        (both (E e (r + 2) (l + 2 + place_labels place)) _ (expr_keeps e (plain.int h.2.0) (r + 2) (l + 2 + place_labels place) h.2.1 ae)
        (plain_one _ (element_plain at_label (held p types e) (count_of (place_type p types place)) (size_of p (element_of (place_type p types place))) r l
        (none_at l 2 l own (omega arith) (omega arith)) (none_at l 2 (l + 1) own (omega arith) (omega arith)))))
    place_keeps (plain.field place n) r l h a = both (P place r l) _ (place_keeps place r l h.1 a) (plain_one _ (record { each = tt }))

    pub expr_keeps : (e : Expr) (ty : Ty) (r l : ℕ) → Has p types e ty → A (λ k. facts e r l k) l (labels e) → K (E e r l)
    expr_keeps (plain.const t x) ty r l h a = plain_one _ (const_plain at_label t x r)
    expr_keeps plain.null ty r l h a = plain_one _ (record { each = tt })
    expr_keeps (plain.read place at) ty r l h a = both (P place r l) _ (place_keeps place r l h.2 a) (plain_one _ (fetch_plain at_label (kind_of p types checks spots place) (of_place place) r r))
    expr_keeps (plain.addr place) ty r l h a = both (P place r l) _ (place_keeps place r l h.2 a) (plain_one _ (address_plain at_label (kind_of p types checks spots place) r))
    expr_keeps (plain.un op t e) ty r l h a =
        let fe : ℕ → Fact = (λ k. facts e r (l + 2) k) in
        let own : A (λ k. nothing) l 2 = first at_label (λ k. nothing) fe l (l + 2) 2 (2 + labels e) a (omega arith) (omega arith) in
        let ae : A fe (l + 2) (labels e) = second at_label (λ k. nothing) fe l (l + 2) 2 (2 + labels e) (labels e) a (omega arith) (omega arith) in
        both (E e r (l + 2)) _ (expr_keeps e (plain.int t) r (l + 2) h.2 ae)
        (plain_one _ (unary_plain at_label op (is_wide t) r l (none_at l 2 l own (omega arith) (omega arith)) (none_at l 2 (l + 1) own (omega arith) (omega arith))))
    expr_keeps (plain.bin op t x y) ty r l h a =
        let operand = second_some op t (Has p types y) h.3 in
        let f0 : ℕ → Fact = (λ k. of_operation op t r l k) in
        let fx : ℕ → Fact = (λ k. facts x r (l + 3) k) in
        let fy : ℕ → Fact = (λ k. facts y (r + 2) (l + 3 + labels x) k) in
        let fr : ℕ → Fact = (λ k. if nat_lt k (l + 3 + labels x) then facts x r (l + 3) k else facts y (r + 2) (l + 3 + labels x) k) in
        let own : A f0 l 3 = first at_label f0 fr l (l + 3) 3 (3 + labels x + labels y) a (omega arith) (omega arith) in
        let rest : A fr (l + 3) (labels x + labels y) = second at_label f0 fr l (l + 3) 3 (3 + labels x + labels y) (labels x + labels y) a (omega arith) (omega arith) in
        let ax : A fx (l + 3) (labels x) = first at_label fx fy (l + 3) (l + 3 + labels x) (labels x) (labels x + labels y) rest (omega arith) (omega arith) in
        let ay : A fy (l + 3 + labels x) (labels y) = second at_label fx fy (l + 3) (l + 3 + labels x) (labels x) (labels x + labels y) (labels y) rest (omega arith) (omega arith) in
        both (E x r (l + 3)) _ (expr_keeps x (plain.int t) r (l + 3) h.2 ax)
        (both (E y (r + 2) (l + 3 + labels x)) _ (expr_keeps y operand.0 (r + 2) (l + 3 + labels x) operand.1 ay)
        (binary_keeps at_label op t (held p types y) r l (guard_at op t r l l 3 own (omega arith) (omega arith))
        (other_at op t r l l 3 (l + 1) own (omega arith) (omega arith) (λ e. omega (arith, e))) (other_at op t r l l 3 (l + 2) own (omega arith) (omega arith) (λ e. omega (arith, e)))))
    expr_keeps (plain.convert t e) ty r l h a =
        let fe : ℕ → Fact = (λ k. facts e r (l + 1) k) in
        let own : A (λ k. nothing) l 1 = first at_label (λ k. nothing) fe l (l + 1) 1 (1 + labels e) a (omega arith) (omega arith) in
        let ae : A fe (l + 1) (labels e) = second at_label (λ k. nothing) fe l (l + 1) 1 (1 + labels e) (labels e) a (omega arith) (omega arith) in
        both (E e r (l + 1)) _ (expr_keeps e h.1.0 r (l + 1) h.1.1.1 ae) (plain_one _ (convert_plain at_label (held p types e) t r l (none_at l 1 l own (omega arith) (omega arith))))
    expr_keeps (plain.offset x y size) ty r l h a =
        let fx : ℕ → Fact = (λ k. facts x r l k) in
        let fy : ℕ → Fact = (λ k. facts y (r + 2) (l + labels x) k) in
        let ax : A fx l (labels x) = first at_label fx fy l (l + labels x) (labels x) (labels x + labels y) a (omega arith) (omega arith) in
        let ay : A fy (l + labels x) (labels y) = second at_label fx fy l (l + labels x) (labels x) (labels x + labels y) (labels y) a (omega arith) (omega arith) in
        both (E x r l) _ (expr_keeps x ty r l h.1 ax) (both (E y (r + 2) (l + labels x)) _ (expr_keeps y (plain.int h.2.0) (r + 2) (l + labels x) h.2.1 ay) (plain_one _ (offset_plain at_label size r)))
    expr_keeps (plain.distance x y size) ty r l h a =
        let fx : ℕ → Fact = (λ k. facts x r l k) in
        let fy : ℕ → Fact = (λ k. facts y (r + 2) (l + labels x) k) in
        let ax : A fx l (labels x) = first at_label fx fy l (l + labels x) (labels x) (labels x + labels y) a (omega arith) (omega arith) in
        let ay : A fy (l + labels x) (labels y) = second at_label fx fy l (l + labels x) (labels x) (labels x + labels y) (labels y) a (omega arith) (omega arith) in
        both (E x r l) _ (expr_keeps x h.1.0 r l h.1.1.1 ax)
        (both (E y (r + 2) (l + labels x)) _ (expr_keeps y h.1.0 (r + 2) (l + labels x) h.1.1.2 ay) (distance_keeps at_label size r (step_some p.structs size h.1.0 h.1.1.0)))
    expr_keeps (plain.both x y) ty r l h a =
        let fx : ℕ → Fact = (λ k. facts x r (l + 2) k) in
        let fy : ℕ → Fact = (λ k. facts y r (l + 2 + labels x) k) in
        let fr : ℕ → Fact = (λ k. if nat_lt k (l + 2 + labels x) then facts x r (l + 2) k else facts y r (l + 2 + labels x) k) in
        let own : A (λ k. nothing) l 2 = first at_label (λ k. nothing) fr l (l + 2) 2 (2 + labels x + labels y) a (omega arith) (omega arith) in
        let rest : A fr (l + 2) (labels x + labels y) = second at_label (λ k. nothing) fr l (l + 2) 2 (2 + labels x + labels y) (labels x + labels y) a (omega arith) (omega arith) in
        let ax : A fx (l + 2) (labels x) = first at_label fx fy (l + 2) (l + 2 + labels x) (labels x) (labels x + labels y) rest (omega arith) (omega arith) in
        let ay : A fy (l + 2 + labels x) (labels y) = second at_label fx fy (l + 2) (l + 2 + labels x) (labels x) (labels x + labels y) (labels y) rest (omega arith) (omega arith) in
        let e0 = none_at l 2 l own (omega arith) (omega arith) in
        let e1 = none_at l 2 (l + 1) own (omega arith) (omega arith) in
        both (E x r (l + 2)) _ (expr_keeps x h.1.0 r (l + 2) h.1.2 ax)
        (both (zero_code Eq (is_wide (held p types x)) r l) _ (plain_one _ (zero_plain at_label Eq (is_wide (held p types x)) r l e0))
        (both (E y r (l + 2 + labels x)) _ (expr_keeps y h.2.0 r (l + 2 + labels x) h.2.2 ay)
        (both (zero_code Eq (is_wide (held p types y)) r l) (Set r 1 ∷ Jump (l + 1) ∷ Label l ∷ Set r 0 ∷ Label (l + 1) ∷ []) (plain_one _ (zero_plain at_label Eq (is_wide (held p types y)) r l e0)) (plain_one _ (record { each = (e1, (e0, (e1, tt))) })))))
    expr_keeps (plain.either x y) ty r l h a =
        let fx : ℕ → Fact = (λ k. facts x r (l + 2) k) in
        let fy : ℕ → Fact = (λ k. facts y r (l + 2 + labels x) k) in
        let fr : ℕ → Fact = (λ k. if nat_lt k (l + 2 + labels x) then facts x r (l + 2) k else facts y r (l + 2 + labels x) k) in
        let own : A (λ k. nothing) l 2 = first at_label (λ k. nothing) fr l (l + 2) 2 (2 + labels x + labels y) a (omega arith) (omega arith) in
        let rest : A fr (l + 2) (labels x + labels y) = second at_label (λ k. nothing) fr l (l + 2) 2 (2 + labels x + labels y) (labels x + labels y) a (omega arith) (omega arith) in
        let ax : A fx (l + 2) (labels x) = first at_label fx fy (l + 2) (l + 2 + labels x) (labels x) (labels x + labels y) rest (omega arith) (omega arith) in
        let ay : A fy (l + 2 + labels x) (labels y) = second at_label fx fy (l + 2) (l + 2 + labels x) (labels x) (labels x + labels y) (labels y) rest (omega arith) (omega arith) in
        let e0 = none_at l 2 l own (omega arith) (omega arith) in
        let e1 = none_at l 2 (l + 1) own (omega arith) (omega arith) in
        both (E x r (l + 2)) _ (expr_keeps x h.1.0 r (l + 2) h.1.2 ax)
        (both (zero_code Ne (is_wide (held p types x)) r l) _ (plain_one _ (zero_plain at_label Ne (is_wide (held p types x)) r l e0))
        (both (E y r (l + 2 + labels x)) _ (expr_keeps y h.2.0 r (l + 2 + labels x) h.2.2 ay)
        (both (zero_code Ne (is_wide (held p types y)) r l) (truth_code r l) (plain_one _ (zero_plain at_label Ne (is_wide (held p types y)) r l e0)) (plain_one _ (truth_plain at_label r l e0 e1)))))
    expr_keeps (plain.choice test x y) ty r l h a =
        let lx : ℕ = l + 2 + labels test in
        let ly : ℕ = lx + labels x in
        let ft : ℕ → Fact = (λ k. facts test r (l + 2) k) in
        let fx : ℕ → Fact = (λ k. facts x r lx k) in
        let fy : ℕ → Fact = (λ k. facts y r ly k) in
        let fs : ℕ → Fact = (λ k. if nat_lt k ly then facts x r lx k else facts y r ly k) in
        let fr : ℕ → Fact = (λ k. if nat_lt k lx then facts test r (l + 2) k else if nat_lt k ly then facts x r lx k else facts y r ly k) in
        let own : A (λ k. nothing) l 2 = first at_label (λ k. nothing) fr l (l + 2) 2 (2 + labels test + labels x + labels y) a (omega arith) (omega arith) in
        let rest : A fr (l + 2) (labels test + labels x + labels y) = second at_label (λ k. nothing) fr l (l + 2) 2 (2 + labels test + labels x + labels y) (labels test + labels x + labels y) a (omega arith) (omega arith) in
        let at1 : A ft (l + 2) (labels test) = first at_label ft fs (l + 2) lx (labels test) (labels test + labels x + labels y) rest (omega arith) (omega arith) in
        let rest2 : A fs lx (labels x + labels y) = second at_label ft fs (l + 2) lx (labels test) (labels test + labels x + labels y) (labels x + labels y) rest (omega arith) (omega arith) in
        let ax : A fx lx (labels x) = first at_label fx fy lx ly (labels x) (labels x + labels y) rest2 (omega arith) (omega arith) in
        let ay : A fy ly (labels y) = second at_label fx fy lx ly (labels x) (labels x + labels y) (labels y) rest2 (omega arith) (omega arith) in
        let e0 = none_at l 2 l own (omega arith) (omega arith) in
        let e1 = none_at l 2 (l + 1) own (omega arith) (omega arith) in
        let last : K (E y r ly ++ Label (l + 1) ∷ []) = both (E y r ly) (Label (l + 1) ∷ []) (expr_keeps y ty r ly h.2 ay) (plain_one _ (record { each = (e1, tt) })) in
        both (E test r (l + 2)) _ (expr_keeps test h.0.0 r (l + 2) h.0.2 at1)
        (both (zero_code Eq (is_wide (held p types test)) r l) _ (plain_one _ (zero_plain at_label Eq (is_wide (held p types test)) r l e0))
        (both (E x r lx) (Jump (l + 1) ∷ Label l ∷ (E y r ly ++ Label (l + 1) ∷ [])) (expr_keeps x ty r lx h.1 ax)
        (jump_keeps at_label (l + 1) (Label l ∷ (E y r ly ++ Label (l + 1) ∷ [])) e1 (label_keeps at_label l (E y r ly ++ Label (l + 1) ∷ []) e0 last))))
    expr_keeps (plain.assign place e at) ty r l h a =
        let fp : ℕ → Fact = (λ k. place_facts place r l k) in
        let fe : ℕ → Fact = (λ k. facts e (r + 2) (l + place_labels place) k) in
        let ap1 : A fp l (place_labels place) = first at_label fp fe l (l + place_labels place) (place_labels place) (place_labels place + labels e) a (omega arith) (omega arith) in
        let ae : A fe (l + place_labels place) (labels e) = second at_label fp fe l (l + place_labels place) (place_labels place) (place_labels place + labels e) (labels e) a (omega arith) (omega arith) in
        both (P place r l) _ (place_keeps place r l h.2 ap1)
        (both (E e (r + 2) (l + place_labels place)) _ (expr_keeps e ty (r + 2) (l + place_labels place) h.3 ae)
        (plain_one _ (both_plain at_label (put_code (kind_of p types checks spots place) (of_place place) (r + 2) r) _ (put_plain at_label (kind_of p types checks spots place) (of_place place) (r + 2) r)
        (move_plain at_label (is_wide (of_place place)) r (r + 2)))))
    expr_keeps (plain.update place op t e gives_old at) ty r l h a =
        let of : IntType = of_place place in
        let kind : Kind = kind_of p types checks spots place in
        let s : IntType = held p types e in
        let operand = second_some op t (Has p types e) h.3 in
        let f0 : ℕ → Fact = (λ k. of_operation op t (r + 6) (l + 1) k) in
        let fp : ℕ → Fact = (λ k. place_facts place r (l + 5) k) in
        let fe : ℕ → Fact = (λ k. facts e (r + 4) (l + 5 + place_labels place) k) in
        let fr : ℕ → Fact = (λ k. if nat_lt k (l + 5 + place_labels place) then place_facts place r (l + 5) k else facts e (r + 4) (l + 5 + place_labels place) k) in
        let own : A f0 l 5 = first at_label f0 fr l (l + 5) 5 (5 + place_labels place + labels e) a (omega arith) (omega arith) in
        let rest : A fr (l + 5) (place_labels place + labels e) = second at_label f0 fr l (l + 5) 5 (5 + place_labels place + labels e) (place_labels place + labels e) a (omega arith) (omega arith) in
        let ap1 : A fp (l + 5) (place_labels place) = first at_label fp fe (l + 5) (l + 5 + place_labels place) (place_labels place) (place_labels place + labels e) rest (omega arith) (omega arith) in
        let ae : A fe (l + 5 + place_labels place) (labels e) = second at_label fp fe (l + 5) (l + 5 + place_labels place) (place_labels place) (place_labels place + labels e) (labels e) rest (omega arith) (omega arith) in
        let none : (k : ℕ) → l ≤ k → k < l + 5 → (k ≡ l + 1 → ⊥) → at_label k ≡ nothing = (λ k ge lt ne. other_at op t (r + 6) l (l + 1) 5 k own ge lt ne) in
        both (P place r (l + 5)) _ (place_keeps place r (l + 5) h.2 ap1)
        (both (fetch_code kind of (r + 2) r) _ (plain_one _ (fetch_plain at_label kind of (r + 2) r))
        (both (E e (r + 4) (l + 5 + place_labels place)) _ (expr_keeps e operand.0 (r + 4) (l + 5 + place_labels place) operand.1 ae)
        (both (move_code (is_wide of) (r + 6) (r + 2)) _ (plain_one _ (move_plain at_label (is_wide of) (r + 6) (r + 2)))
        (both (convert_code of t (r + 6) l) _ (plain_one _ (convert_plain at_label of t (r + 6) l (none l (omega arith) (omega arith) (λ q. omega (arith, q)))))
        (both (move_code (is_wide s) (r + 8) (r + 4)) _ (plain_one _ (move_plain at_label (is_wide s) (r + 8) (r + 4)))
        (both (binary_code op t s (r + 6) (l + 1)) _
        (binary_keeps at_label op t s (r + 6) (l + 1) (guard_at op t (r + 6) l (l + 1) 5 own (omega arith) (omega arith)) (none (l + 1 + 1) (omega arith) (omega arith) (λ q. omega (arith, q)))
        (none (l + 1 + 2) (omega arith) (omega arith) (λ q. omega (arith, q))))
        (both (convert_code t of (r + 6) (l + 4)) _ (plain_one _ (convert_plain at_label t of (r + 6) (l + 4) (none (l + 4) (omega arith) (omega arith) (λ q. omega (arith, q)))))
        (both (put_code kind of (r + 6) r) _ (plain_one _ (put_plain at_label kind of (r + 6) r)) (plain_one _ (move_plain at_label (is_wide of) r (if gives_old then r + 2 else r + 6)))))))))))
    expr_keeps (plain.call g arguments at) ty r l h a =
        let with = called_with (slice_get p.bodies g) (AllHave p types arguments) ty h in
        both (args_code p types checks spots arguments r l) _ (args_keep arguments with.0 r l with.1 a) (plain_one _ (record { each = tt }))
    expr_keeps (plain.post n) ty r l h a = plain_one _ (both_plain at_label (Post n r ∷ []) _ (record { each = tt }) (fit_plain at_label U8 r))
    expr_keeps (plain.port_in port) ty r l h a = plain_one _ (record { each = tt })
    expr_keeps (plain.port_out port e) ty r l h a = both (E e r l) _ (expr_keeps e (plain.int U16) r l h.2 a) (plain_one _ (record { each = tt }))
    expr_keeps (plain.comma x y) ty r l h a =
        let fx : ℕ → Fact = (λ k. facts x r l k) in
        let fy : ℕ → Fact = (λ k. facts y r (l + labels x) k) in
        let ax : A fx l (labels x) = first at_label fx fy l (l + labels x) (labels x) (labels x + labels y) a (omega arith) (omega arith) in
        let ay : A fy (l + labels x) (labels y) = second at_label fx fy l (l + labels x) (labels x) (labels x + labels y) (labels y) a (omega arith) (omega arith) in
        both (E x r l) _ (expr_keeps x h.0.0 r l h.0.1 ax) (expr_keeps y ty r (l + labels x) h.1 ay)

    args_keep : (es : Exprs) (ts : List Ty) (r l : ℕ) → AllHave p types es ts → A (λ k. all_facts es r l k) l (all_labels es) → K (args_code p types checks spots es r l)
    args_keep no_exprs ts r l h a = record { over = λ u g. g }
    args_keep (more_exprs e rest) [] r l h a = absurd h
    args_keep (more_exprs e rest) (t ∷ ts) r l h a =
        let fe : ℕ → Fact = (λ k. facts e r l k) in
        let fr : ℕ → Fact = (λ k. all_facts rest (r + 2) (l + labels e) k) in
        let ae : A fe l (labels e) = first at_label fe fr l (l + labels e) (labels e) (labels e + all_labels rest) a (omega arith) (omega arith) in
        let ar : A fr (l + labels e) (all_labels rest) = second at_label fe fr l (l + labels e) (labels e) (labels e + all_labels rest) (all_labels rest) a (omega arith) (omega arith) in
        both (E e r l) _ (expr_keeps e t r l h.0 ae) (args_keep rest ts (r + 2) (l + labels e) h.1 ar)
