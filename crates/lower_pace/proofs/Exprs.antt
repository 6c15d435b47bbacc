-- The code of expressions and places keeps an action near: what it takes is at most so much for each node.
use Rattle.std.proofs.Common.{◌≡◌, ℕ, zero, suc, ◌+◌, ◌*◌, ◌≤◌, List, [], ◌∷◌, ◌++◌, refl, sym, ap, ◌∙◌, subst, append_assoc, arith}
use Rattle.std.proofs.Math.Nat.{add-mul}
use Rattle.std.specs.Prelude.{slice_get, if◌then◌else◌}
use Rattle.nm_base.specs.declared.int_type.IntType.{IntType}
use Rattle.nm_base.specs.declared.int_type.IntType.TheVariants.{U8}
use Rattle.nesc_core.specs.Plain.{Ty, Expr, Exprs, no_exprs, more_exprs, Place, Program}
use Rattle.nesc_core.specs.Plain as plain
use Rattle.nesc_core.specs.PlaceTypes.{place_type, element_of, count_of, field_offset}
use Rattle.nesc_core.specs.Nodes.{expr_nodes_of, exprs_nodes_of, place_nodes_of}
use Rattle.core_meaning.specs.Layout.{object_address, size_of}
use Rattle.core_meaning.specs.Work.{number_of}
use Rattle.mid_code.specs.declared.instr.Mid.{Mid}
use Rattle.mid_code.specs.declared.instr.Mid.TheVariants.{Set, Bin, In, Out, Label, Jump, Call, Help, Post, Tick}
use Rattle.mid_code.specs.declared.instr.Op.TheVariants.{Add}
use Rattle.mid_code.specs.declared.instr.Test.TheVariants.{Eq, Ne}
use Rattle.mid_code.specs.Help.{first_check, is_wide}
use Rattle.lower_expr.specs.declared.spot.Spot.{Spot}
use Rattle.lower_expr.specs.Held.{held, result_of}
use Rattle.lower_expr.specs.Pieces.{binary_code, convert_code, distance_code, element_code, fit_code, move_code, offset_code, truth_code, unary_code, zero_code}
use Rattle.lower_expr.specs.Code.{address_code, args_code, check_of, expr_code, fetch_code, kind_of, labels, passed_at, place_code, place_labels, put_code, taken_at}
use Rattle.lower_pace.proofs.Flow.{Flow, Leads, Setting, called, flow_more, helps, jump, label, leads_here, leads_more, leads_over, leads_past, plains, regroup}
use Rattle.lower_pace.proofs.Pieces.{address_plain, binary_flows, const_plain, convert_flows, distance_flows, element_flows, fetch_plain, local_plain, move_plain, offset_flows, put_plain, truth_flows, truth_leads, unary_flows, zero_flows}

-- ---- so much for each node

pub costs : (unit nodes : ℕ) → ℕ
costs unit nodes = nodes * unit

pub costs_are : (unit nodes : ℕ) → costs unit nodes ≡ nodes * unit
unfolding costs
costs_are unit nodes = refl

sum_times : (a b k : ℕ) → (a + b) * k ≡ a * k + b * k
sum_times a b k = add-mul a b k

pub cost0 : (unit : ℕ) → costs unit 1 ≡ unit
unfolding costs
cost0 unit = omega arith

pub cost1 : (unit a : ℕ) → costs unit (1 + a) ≡ unit + costs unit a
unfolding costs
cost1 unit a = let e = sum_times 1 a unit in omega (arith, e)

pub cost_both : (unit a b : ℕ) → costs unit (a + b) ≡ costs unit a + costs unit b
unfolding costs
cost_both unit a b = let e = sum_times a b unit in omega (arith, e)

pub cost_some : (unit a : ℕ) → 1 ≤ a → unit ≤ costs unit a
cost_some unit zero le = absurd (omega (arith, le))
cost_some unit (suc a) le = let e : costs unit (1 + a) ≡ unit + costs unit a = cost1 unit a in let s : suc a ≡ 1 + a = omega arith in subst (λ k. unit ≤ costs unit k) (sym s) (omega (arith, e))

pub cost2 : (unit a b : ℕ) → costs unit (1 + a + b) ≡ unit + costs unit a + costs unit b
cost2 unit a b = let e = cost_both unit (1 + a) b in let g = cost1 unit a in omega (arith, e, g)

pub cost3 : (unit a b c : ℕ) → costs unit (1 + a + b + c) ≡ unit + costs unit a + costs unit b + costs unit c
cost3 unit a b c = let e = cost_both unit (1 + a + b) c in let g = cost2 unit a b in omega (arith, e, g)

module _ (given : Setting) (unit : ℕ) (enough : given.help + 600 ≤ unit) (p : Program) (types checks : List Ty) (spots : List Spot) where
  abbrev F : ℕ → List Mid → Type 0
  F n u = Flow given n u

  abbrev help : ℕ
  help = given.help

  abbrev P : Place → (r l : ℕ) → List Mid
  P place r l = place_code p types checks spots place r l

  abbrev E : Expr → (r l : ℕ) → List Mid
  E e r l = expr_code p types checks spots e r l

  abbrev of_expr : Expr → ℕ
  of_expr e = costs unit (expr_nodes_of e)

  abbrev of_place : Place → ℕ
  of_place place = costs unit (place_nodes_of place)

  -- ---- the same lists, grouped otherwise

  grouped : (m : ℕ) (za cb zb end u : List Mid) → F m (za ++ (cb ++ (zb ++ (end ++ u)))) → F m (za ++ ((cb ++ (zb ++ end)) ++ u))
  grouped m za cb zb end u h =
      subst (λ xs. F m (za ++ xs)) (ap (λ xs. cb ++ xs) (sym (append_assoc zb end u)) ∙ sym (append_assoc cb (zb ++ end) u)) h

  chosen : (m : ℕ) (z ca cb : List Mid) (l : ℕ) (u : List Mid) → F m (z ++ (ca ++ (Jump (l + 1) ∷ Label l ∷ (cb ++ (Label (l + 1) ∷ u))))) →
      F m (z ++ ((ca ++ (Jump (l + 1) ∷ Label l ∷ (cb ++ Label (l + 1) ∷ []))) ++ u))
  chosen m z ca cb l u h =
      subst (λ xs. F m (z ++ xs))
      (ap (λ xs. ca ++ (Jump (l + 1) ∷ Label l ∷ xs)) (sym (append_assoc cb (Label (l + 1) ∷ []) u)) ∙ sym (append_assoc ca (Jump (l + 1) ∷ Label l ∷ (cb ++ Label (l + 1) ∷ [])) u)) h

  mutual
    pub place_flows : (place : Place) (r l n m : ℕ) (u : List Mid) → F n u → n + of_place place ≤ m + 60 → F m (P place r l ++ u)
    place_flows (plain.object k) r l n m u h le = let c = cost0 unit in plains given n m 1 (Set r (object_address (slice_get p.objects k)) ∷ []) u (record { all = refl; short = omega arith }) h (omega (arith, c, le, enough))
    place_flows (plain.local x) r l n m u h le = let c = cost0 unit in plains given n m 1 _ u (local_plain (slice_get spots x) r) h (omega (arith, c, le, enough))
    place_flows (plain.deref e t) r l n m u h le =
        let c = cost1 unit (expr_nodes_of e) in
        regroup given m (E e r l) (Help (first_check + check_of checks t) (r ∷ []) [] ∷ []) u
        (expr_flows e r l (n + help + 1) m _ (helps given n (n + help + 1) (first_check + check_of checks t) (r ∷ []) [] u h (omega arith)) (omega (arith, c, le, enough)))
    place_flows (plain.index place e) r l n m u h le =
        let c = cost2 unit (place_nodes_of place) (expr_nodes_of e) in
        let ce : List Mid = E e (r + 2) (l + 2 + place_labels place) in
        let cl : List Mid = element_code (held p types e) (count_of (place_type p types place)) (size_of p (element_of (place_type p types place))) r l in
        regroup given m (P place r (l + 2)) (ce ++ cl) u
        (place_flows place r (l + 2) (n + help + 90 + of_expr e) m _
        (regroup given (n + help + 90 + of_expr e) ce cl u
        (expr_flows e (r + 2) (l + 2 + place_labels place) (n + help + 90) (n + help + 90 + of_expr e) _
        (element_flows given n (n + help + 90) (held p types e) (count_of (place_type p types place)) (size_of p (element_of (place_type p types place))) r l u h (omega arith)) (omega arith)))
        (omega (arith, c, le, enough)))
    place_flows (plain.field place k) r l n m u h le =
        let c = cost1 unit (place_nodes_of place) in
        let cf : List Mid = Set (r + 2) (field_offset p.structs (place_type p types place) k) ∷ Bin Add r r (r + 2) ∷ [] in
        regroup given m (P place r l) cf u
        (place_flows place r l (n + 18) m _ (plains given n (n + 18) 2 cf u (record { all = refl; short = omega arith }) h (omega arith)) (omega (arith, c, le, enough)))

    pub expr_flows : (e : Expr) (r l n m : ℕ) (u : List Mid) → F n u → n + of_expr e ≤ m + 60 → F m (E e r l ++ u)
    expr_flows (plain.const t x) r l n m u h le = let c = cost0 unit in plains given n m 2 _ u (const_plain t x r) h (omega (arith, c, le, enough))
    expr_flows plain.null r l n m u h le = let c = cost0 unit in plains given n m 1 (Set r 0 ∷ []) u (record { all = refl; short = omega arith }) h (omega (arith, c, le, enough))
    expr_flows (plain.read place at) r l n m u h le =
        let c = cost1 unit (place_nodes_of place) in
        let cf : List Mid = fetch_code (kind_of p types checks spots place) (number_of (place_type p types place)) r r in
        regroup given m (P place r l) cf u
        (place_flows place r l (n + 54) m _ (plains given n (n + 54) 6 cf u (fetch_plain (kind_of p types checks spots place) (number_of (place_type p types place)) r r) h (omega arith)) (omega (arith, c, le, enough)))
    expr_flows (plain.addr place) r l n m u h le =
        let c = cost1 unit (place_nodes_of place) in
        let ca : List Mid = address_code (kind_of p types checks spots place) r in
        regroup given m (P place r l) ca u
        (place_flows place r l (n + 9) m _ (plains given n (n + 9) 1 ca u (address_plain (kind_of p types checks spots place) r) h (omega arith)) (omega (arith, c, le, enough)))
    expr_flows (plain.un op t e) r l n m u h le =
        let c = cost1 unit (expr_nodes_of e) in
        regroup given m (E e r (l + 2)) (unary_code op (is_wide t) r l) u
        (expr_flows e r (l + 2) (n + 80) m _ (unary_flows given n (n + 80) op (is_wide t) r l u h (omega arith)) (omega (arith, c, le, enough)))
    expr_flows (plain.bin op t a b) r l n m u h le =
        let c = cost2 unit (expr_nodes_of a) (expr_nodes_of b) in
        let cb : List Mid = E b (r + 2) (l + 3 + labels a) in
        let co : List Mid = binary_code op t (held p types b) r l in
        regroup given m (E a r (l + 3)) (cb ++ co) u
        (expr_flows a r (l + 3) (n + help + 90 + of_expr b) m _
        (regroup given (n + help + 90 + of_expr b) cb co u
        (expr_flows b (r + 2) (l + 3 + labels a) (n + help + 90) (n + help + 90 + of_expr b) _ (binary_flows given n (n + help + 90) op t (held p types b) r l u h (omega arith)) (omega arith)))
        (omega (arith, c, le, enough)))
    expr_flows (plain.convert t e) r l n m u h le =
        let c = cost1 unit (expr_nodes_of e) in
        regroup given m (E e r (l + 1)) (convert_code (held p types e) t r l) u
        (expr_flows e r (l + 1) (n + 81) m _ (convert_flows given n (n + 81) (held p types e) t r l u h (omega arith)) (omega (arith, c, le, enough)))
    expr_flows (plain.offset a b size) r l n m u h le =
        let c = cost2 unit (expr_nodes_of a) (expr_nodes_of b) in
        let cb : List Mid = E b (r + 2) (l + labels a) in
        regroup given m (E a r l) (cb ++ offset_code size r) u
        (expr_flows a r l (n + help + 28 + of_expr b) m _
        (regroup given (n + help + 28 + of_expr b) cb (offset_code size r) u
        (expr_flows b (r + 2) (l + labels a) (n + help + 28) (n + help + 28 + of_expr b) _ (offset_flows given n (n + help + 28) size r u h (omega arith)) (omega arith)))
        (omega (arith, c, le, enough)))
    expr_flows (plain.distance a b size) r l n m u h le =
        let c = cost2 unit (expr_nodes_of a) (expr_nodes_of b) in
        let cb : List Mid = E b (r + 2) (l + labels a) in
        regroup given m (E a r l) (cb ++ distance_code size r) u
        (expr_flows a r l (n + help + 28 + of_expr b) m _
        (regroup given (n + help + 28 + of_expr b) cb (distance_code size r) u
        (expr_flows b (r + 2) (l + labels a) (n + help + 28) (n + help + 28 + of_expr b) _ (distance_flows given n (n + help + 28) size r u h (omega arith)) (omega arith)))
        (omega (arith, c, le, enough)))
    expr_flows (plain.both a b) r l n m u h le =
        let c = cost2 unit (expr_nodes_of a) (expr_nodes_of b) in
        let za : List Mid = zero_code Eq (is_wide (held p types a)) r l in
        let zb : List Mid = zero_code Eq (is_wide (held p types b)) r l in
        let cb : List Mid = E b r (l + 2 + labels a) in
        let end : List Mid = Set r 1 ∷ Jump (l + 1) ∷ Label l ∷ Set r 0 ∷ Label (l + 1) ∷ [] in
        let out : F (n + 4) (Label (l + 1) ∷ u) = label given n (n + 4) (l + 1) u h (omega arith) in
        let sets : F (n + 13) (Set r 0 ∷ Label (l + 1) ∷ u) = plains given (n + 4) (n + 13) 1 (Set r 0 ∷ []) _ (record { all = refl; short = omega arith }) out (omega arith) in
        let other : F (n + 17) (Label l ∷ Set r 0 ∷ Label (l + 1) ∷ u) = label given (n + 13) (n + 17) l _ sets (omega arith) in
        let jumps : F (n + 21) (Jump (l + 1) ∷ Label l ∷ Set r 0 ∷ Label (l + 1) ∷ u) =
        jump given (n + 17) (n + 21) (l + 1) _ (leads_past given _ _ _ _ (leads_past given _ _ _ _ (leads_more given (n + 4) (n + 17) (l + 1) _ (omega arith) (leads_here given (n + 4) (l + 1) u out)))) other (omega arith) in
        let ends : F (n + 30) (end ++ u) = plains given (n + 21) (n + 30) 1 (Set r 1 ∷ []) _ (record { all = refl; short = omega arith }) jumps (omega arith) in
        let to : Leads given (n + 30) l (end ++ u) = leads_past given _ _ _ _ (leads_past given _ _ _ _ (leads_more given (n + 17) (n + 30) l _ (omega arith) (leads_here given (n + 17) l _ other))) in
        let nb : ℕ = n + 52 + of_expr b in
        let second : F (n + 52) (zb ++ (end ++ u)) = zero_flows given (n + 30) (n + 52) Eq (is_wide (held p types b)) r l (end ++ u) to ends (omega arith) in
        let bs : F nb (cb ++ (zb ++ (end ++ u))) = expr_flows b r (l + 2 + labels a) (n + 52) nb _ second (omega arith) in
        let first : F (nb + 22) (za ++ (cb ++ (zb ++ (end ++ u)))) =
        zero_flows given nb (nb + 22) Eq (is_wide (held p types a)) r l _ (leads_more given (n + 30) nb l _ (omega arith) (leads_over given (n + 30) l cb _ (leads_over given (n + 30) l zb _ to))) bs (omega arith) in
        regroup given m (E a r (l + 2)) (za ++ (cb ++ (zb ++ end))) u
        (expr_flows a r (l + 2) (nb + 22) m _
        (regroup given (nb + 22) za (cb ++ (zb ++ end)) u (grouped (nb + 22) za cb zb end u first))
        (omega (arith, c, le, enough)))
    expr_flows (plain.either a b) r l n m u h le =
        let c = cost2 unit (expr_nodes_of a) (expr_nodes_of b) in
        let za : List Mid = zero_code Ne (is_wide (held p types a)) r l in
        let zb : List Mid = zero_code Ne (is_wide (held p types b)) r l in
        let cb : List Mid = E b r (l + 2 + labels a) in
        let end : List Mid = truth_code r l in
        let ends : F (n + 45) (end ++ u) = truth_flows given n (n + 45) r l u h (omega arith) in
        let to : Leads given (n + 45) l (end ++ u) = truth_leads given n (n + 45) r l u h (omega arith) in
        let nb : ℕ = n + 67 + of_expr b in
        let second : F (n + 67) (zb ++ (end ++ u)) = zero_flows given (n + 45) (n + 67) Ne (is_wide (held p types b)) r l (end ++ u) to ends (omega arith) in
        let bs : F nb (cb ++ (zb ++ (end ++ u))) = expr_flows b r (l + 2 + labels a) (n + 67) nb _ second (omega arith) in
        let first : F (nb + 22) (za ++ (cb ++ (zb ++ (end ++ u)))) =
        zero_flows given nb (nb + 22) Ne (is_wide (held p types a)) r l _ (leads_more given (n + 45) nb l _ (omega arith) (leads_over given (n + 45) l cb _ (leads_over given (n + 45) l zb _ to))) bs (omega arith) in
        regroup given m (E a r (l + 2)) (za ++ (cb ++ (zb ++ end))) u
        (expr_flows a r (l + 2) (nb + 22) m _
        (regroup given (nb + 22) za (cb ++ (zb ++ end)) u (grouped (nb + 22) za cb zb end u first))
        (omega (arith, c, le, enough)))
    expr_flows (plain.choice test a b) r l n m u h le =
        let c = cost3 unit (expr_nodes_of test) (expr_nodes_of a) (expr_nodes_of b) in
        let z : List Mid = zero_code Eq (is_wide (held p types test)) r l in
        let ca : List Mid = E a r (l + 2 + labels test) in
        let cb : List Mid = E b r (l + 2 + labels test + labels a) in
        let tail : List Mid = cb ++ (Label (l + 1) ∷ u) in
        let nb : ℕ = n + 8 + of_expr b in
        let na : ℕ = nb + 4 + of_expr a in
        let out : F (n + 4) (Label (l + 1) ∷ u) = label given n (n + 4) (l + 1) u h (omega arith) in
        let bs : F (n + 4 + of_expr b) tail = expr_flows b r (l + 2 + labels test + labels a) (n + 4) (n + 4 + of_expr b) _ out (omega arith) in
        let other : F nb (Label l ∷ tail) = label given (n + 4 + of_expr b) nb l _ bs (omega arith) in
        let jumps : F (nb + 4) (Jump (l + 1) ∷ Label l ∷ tail) =
        jump given nb (nb + 4) (l + 1) _ (leads_past given _ _ _ _ (leads_over given _ _ cb _ (leads_more given (n + 4) nb (l + 1) _ (omega arith) (leads_here given (n + 4) (l + 1) u out)))) other (omega arith) in
        let firsts : F na (ca ++ (Jump (l + 1) ∷ Label l ∷ tail)) = expr_flows a r (l + 2 + labels test) (nb + 4) na _ jumps (omega arith) in
        let first : F (na + 22) (z ++ (ca ++ (Jump (l + 1) ∷ Label l ∷ tail))) =
        zero_flows given na (na + 22) Eq (is_wide (held p types test)) r l _ (leads_over given _ _ ca _ (leads_past given _ _ _ _ (leads_more given nb na l _ (omega arith) (leads_here given nb l _ other)))) firsts (omega arith) in
        regroup given m (E test r (l + 2)) (z ++ (ca ++ (Jump (l + 1) ∷ Label l ∷ (cb ++ Label (l + 1) ∷ [])))) u
        (expr_flows test r (l + 2) (na + 22) m _
        (regroup given (na + 22) z (ca ++ (Jump (l + 1) ∷ Label l ∷ (cb ++ Label (l + 1) ∷ []))) u (chosen (na + 22) z ca cb l u first))
        (omega (arith, c, le, enough)))
    expr_flows (plain.assign place e at) r l n m u h le =
        let c = cost2 unit (place_nodes_of place) (expr_nodes_of e) in
        let of : IntType = number_of (place_type p types place) in
        let ce : List Mid = E e (r + 2) (l + place_labels place) in
        let cp : List Mid = put_code (kind_of p types checks spots place) of (r + 2) r in
        let cm : List Mid = move_code (is_wide of) r (r + 2) in
        regroup given m (P place r l) (ce ++ (cp ++ cm)) u
        (place_flows place r l (n + 54 + of_expr e) m _
        (regroup given (n + 54 + of_expr e) ce (cp ++ cm) u
        (expr_flows e (r + 2) (l + place_labels place) (n + 54) (n + 54 + of_expr e) _
        (regroup given (n + 54) cp cm u
        (plains given (n + 18) (n + 54) 4 cp _ (put_plain (kind_of p types checks spots place) of (r + 2) r) (plains given n (n + 18) 2 cm u (move_plain (is_wide of) r (r + 2)) h (omega arith)) (omega arith)))
        (omega arith)))
        (omega (arith, c, le, enough)))
    expr_flows (plain.update place op t e gives_old at) r l n m u h le =
        let c = cost2 unit (place_nodes_of place) (expr_nodes_of e) in
        let of : IntType = number_of (place_type p types place) in
        let kind = kind_of p types checks spots place in
        let c1 : List Mid = fetch_code kind of (r + 2) r in
        let ce : List Mid = E e (r + 4) (l + 5 + place_labels place) in
        let c2 : List Mid = move_code (is_wide of) (r + 6) (r + 2) in
        let c3 : List Mid = convert_code of t (r + 6) l in
        let c4 : List Mid = move_code (is_wide (held p types e)) (r + 8) (r + 4) in
        let c5 : List Mid = binary_code op t (held p types e) (r + 6) (l + 1) in
        let c6 : List Mid = convert_code t of (r + 6) (l + 4) in
        let c7 : List Mid = put_code kind of (r + 6) r in
        let c8 : List Mid = move_code (is_wide of) r (if gives_old then r + 2 else r + 6) in
        let n7 : ℕ = n + 54 in
        let n6 : ℕ = n + 135 in
        let n5 : ℕ = n + help + 225 in
        let n4 : ℕ = n + help + 243 in
        let n3 : ℕ = n + help + 324 in
        let n2 : ℕ = n + help + 342 in
        let f7 : F n7 ((c7 ++ c8) ++ u) = regroup given n7 c7 c8 u (plains given (n + 18) n7 4 c7 _ (put_plain kind of (r + 6) r) (plains given n (n + 18) 2 c8 u (move_plain (is_wide of) r (if gives_old then r + 2 else r + 6)) h (omega arith)) (omega arith)) in
        let f6 : F n6 ((c6 ++ (c7 ++ c8)) ++ u) = regroup given n6 c6 (c7 ++ c8) u (convert_flows given n7 n6 t of (r + 6) (l + 4) _ f7 (omega arith)) in
        let f5 : F n5 ((c5 ++ (c6 ++ (c7 ++ c8))) ++ u) = regroup given n5 c5 (c6 ++ (c7 ++ c8)) u (binary_flows given n6 n5 op t (held p types e) (r + 6) (l + 1) _ f6 (omega arith)) in
        let f4 : F n4 ((c4 ++ (c5 ++ (c6 ++ (c7 ++ c8)))) ++ u) = regroup given n4 c4 _ u (plains given n5 n4 2 c4 _ (move_plain (is_wide (held p types e)) (r + 8) (r + 4)) f5 (omega arith)) in
        let f3 : F n3 ((c3 ++ (c4 ++ (c5 ++ (c6 ++ (c7 ++ c8))))) ++ u) = regroup given n3 c3 _ u (convert_flows given n4 n3 of t (r + 6) l _ f4 (omega arith)) in
        let f2 : F n2 ((c2 ++ (c3 ++ (c4 ++ (c5 ++ (c6 ++ (c7 ++ c8)))))) ++ u) = regroup given n2 c2 _ u (plains given n3 n2 2 c2 _ (move_plain (is_wide of) (r + 6) (r + 2)) f3 (omega arith)) in
        let ne : ℕ = n2 + of_expr e in
        let fe : F ne ((ce ++ (c2 ++ (c3 ++ (c4 ++ (c5 ++ (c6 ++ (c7 ++ c8))))))) ++ u) = regroup given ne ce _ u (expr_flows e (r + 4) (l + 5 + place_labels place) n2 ne _ f2 (omega arith)) in
        let f1 : F (ne + 54) ((c1 ++ (ce ++ (c2 ++ (c3 ++ (c4 ++ (c5 ++ (c6 ++ (c7 ++ c8)))))))) ++ u) =
        regroup given (ne + 54) c1 _ u (plains given ne (ne + 54) 6 c1 _ (fetch_plain kind of (r + 2) r) fe (omega arith)) in
        regroup given m (P place r (l + 5)) (c1 ++ (ce ++ (c2 ++ (c3 ++ (c4 ++ (c5 ++ (c6 ++ (c7 ++ c8)))))))) u
        (place_flows place r (l + 5) (ne + 54) m _ f1 (omega (arith, c, le, enough)))
    expr_flows (plain.call f arguments at) r l n m u h le =
        let c = cost1 unit (exprs_nodes_of arguments) in
        let outs : List ℕ = taken_at (result_of (slice_get p.bodies f)) r in
        regroup given m (args_code p types checks spots arguments r l) (Tick ∷ Call f (passed_at p types checks spots arguments r) outs ∷ Tick ∷ []) u
        (args_flows arguments r l (n + 20) m _ (called given n (n + 20) f (passed_at p types checks spots arguments r) outs u h (omega arith)) (omega (arith, c, le, enough)))
    expr_flows (plain.post k) r l n m u h le = let c = cost0 unit in plains given n m 3 (Post k r ∷ fit_code U8 r) u (record { all = refl; short = omega arith }) h (omega (arith, c, le, enough))
    expr_flows (plain.port_in port) r l n m u h le = let c = cost0 unit in plains given n m 1 (In r port ∷ []) u (record { all = refl; short = omega arith }) h (omega (arith, c, le, enough))
    expr_flows (plain.port_out port e) r l n m u h le =
        let c = cost1 unit (expr_nodes_of e) in
        regroup given m (E e r l) (Out port r ∷ []) u
        (expr_flows e r l (n + 9) m _ (plains given n (n + 9) 1 (Out port r ∷ []) u (record { all = refl; short = omega arith }) h (omega arith)) (omega (arith, c, le, enough)))
    expr_flows (plain.comma a b) r l n m u h le =
        let c = cost2 unit (expr_nodes_of a) (expr_nodes_of b) in
        regroup given m (E a r l) (E b r (l + labels a)) u
        (expr_flows a r l (n + of_expr b) m _ (expr_flows b r (l + labels a) n (n + of_expr b) u h (omega arith)) (omega (arith, c, le, enough)))

    pub args_flows : (es : Exprs) (r l n m : ℕ) (u : List Mid) → F n u → n + costs unit (exprs_nodes_of es) ≤ m → F m (args_code p types checks spots es r l ++ u)
    args_flows no_exprs r l n m u h le = flow_more given n m u (omega (arith, le)) h
    args_flows (more_exprs e rest) r l n m u h le =
        let c = cost_both unit (expr_nodes_of e) (exprs_nodes_of rest) in
        let nr : ℕ = n + costs unit (exprs_nodes_of rest) in
        regroup given m (E e r l) (args_code p types checks spots rest (r + 2) (l + labels e)) u
        (expr_flows e r l nr m _ (args_flows rest (r + 2) (l + labels e) n nr u h (omega arith)) (omega (arith, c, le)))
