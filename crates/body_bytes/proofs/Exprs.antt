-- The bytes of the code of expressions and places, with 62 for each dereference and 96 for each small call, beside those of their nodes.
use Rattle.std.proofs.Common.{◌≡◌, ℕ, ◌+◌, ◌*◌, ◌≤◌, Bool, true, false, List, [], ◌∷◌, ◌++◌, length, take, Option, Some, None, refl, arith, length-append}
use Rattle.std.specs.Prelude.{◌==◌, if◌then◌else◌, slice_get}
use Rattle.nm_base.specs.declared.int_type.IntType.{IntType}
use Rattle.nm_base.specs.declared.int_type.IntType.TheVariants.{I8, U8, I16, U16, I32, U32}
use Rattle.nesc_core.specs.declared.tree.BinOp.{BinOp}
use Rattle.nesc_core.specs.declared.tree.BinOp.TheVariants as bin
use Rattle.nesc_core.specs.Plain.{Ty, Expr, Exprs, no_exprs, more_exprs, Place, Body, Program}
use Rattle.nesc_core.specs.Plain as plain
use Rattle.nesc_core.specs.PlaceTypes.{place_type, element_of, count_of, field_offset}
use Rattle.nesc_core.specs.Derefs.{expr_derefs, exprs_derefs, place_derefs}
use Rattle.nesc_core.specs.Nodes.{expr_nodes_of, exprs_nodes_of, place_nodes_of}
use Rattle.nesc_core.specs.Typing.{AllHave, Has, IsCallable, IsPlace, IsSecond, IsSome}
use Rattle.core_meaning.specs.Layout.{size_of, object_address}
use Rattle.core_meaning.specs.Work.{number_of}
use Rattle.mid_code.specs.declared.instr.Mid.{Mid}
use Rattle.mid_code.specs.declared.instr.Mid.TheVariants.{Set, Bin, Out, Label, Jump, Call, Help, Tick}
use Rattle.mid_code.specs.declared.instr.Op.TheVariants.{Add}
use Rattle.mid_code.specs.declared.instr.Test.TheVariants.{Eq, Ne}
use Rattle.mid_code.specs.Help.{first_check, is_wide}
use Rattle.open_law.specs.Homes.{is_made}
use Rattle.lower_expr.specs.declared.spot.Spot.{Spot}
use Rattle.lower_expr.specs.Held.{held, low, result_of}
use Rattle.lower_expr.specs.Pieces.{binary_code, convert_code, distance_code, element_code, move_code, offset_code, truth_code, unary_code, values_at, zero_code}
use Rattle.lower_expr.specs.Code.{Kind, InValues, InFrame, InMemory, address_code, args_code, check_of, expr_code, fetch_code, is_void, kind_of, labels, passed_at, place_code, place_labels, put_code, taken_at}
use Rattle.body_bytes.proofs.Costs.{address_within, bin_most, binary_within, both, const_within, convert_within, costs, distance_within, element_within, fetch_most, fetch_within, fit_most, fit_within, high_most, convert_most, local_within, move_most, move_within, offset_within, put_most, put_within, set_most, truth_within, unary_within, zero_within}
use Rattle.body_bytes.proofs.Small.{exprs_small, is_byte, one_at_most, place_small, small_calls, small_one}
use Rattle.body_bytes.proofs.Updates.{AreFramed, of_updated, spare, tail_most, tail_within, update_few}

-- code of so many nodes, dereferences and small calls, with some bytes to spare
pub record IsLight (nodes derefs small left : ℕ) (c : List Mid) : Type 0 where
  pub le : costs c + 62 * derefs + 96 * small + left ≤ 96 * nodes

pub ders : (a b : List Ty) → length (a ++ b) ≡ length a + length b
ders a b = length-append a b

second_some : (op : BinOp) (t : IntType) (H : Ty → Type 0) → IsSecond op t H → IsSome H
second_some bin.Add t H h = (plain.int t, h)
second_some bin.Sub t H h = (plain.int t, h)
second_some bin.Mul t H h = (plain.int t, h)
second_some bin.Div t H h = (plain.int t, h)
second_some bin.Rem t H h = (plain.int t, h)
second_some bin.And t H h = (plain.int t, h)
second_some bin.Or t H h = (plain.int t, h)
second_some bin.Xor t H h = (plain.int t, h)
second_some bin.Shl t H h = (plain.int h.0, h.2)
second_some bin.Shr t H h = (plain.int h.0, h.2)
second_some bin.Eq t H h = (plain.int t, h)
second_some bin.Ne t H h = (plain.int t, h)
second_some bin.Lt t H h = (plain.int t, h)
second_some bin.Le t H h = (plain.int t, h)

called_with : (o : Option Body) (Arguments : List Ty → Type 0) (ty : Ty) → IsCallable o Arguments ty → (ts : List Ty) × Arguments ts
called_with None A ty h = absurd h
called_with (Some b) A ty h = (take b.params b.locals, h.1)

values_few : (wide : Bool) (r : ℕ) → length (values_at wide r) ≤ 2
values_few true r = omega arith
values_few false r = omega arith

pub taken_few : (ty : Ty) (r : ℕ) → length (taken_at ty r) ≤ 2
taken_few ty r = by (is_void ty)
  where
    by : (b : Bool) → length (if b then [] else values_at (is_wide (number_of ty)) r) ≤ 2
    by true = omega arith
    by false = values_few (is_wide (number_of ty)) r

move_few : (wide : Bool) → move_most wide ≤ 12
move_few true = omega arith
move_few false = omega arith

fetch_few : (kind : Kind) (t : IntType) → fetch_most kind t ≤ 42
fetch_few (InValues regs) t = let m = move_few (is_wide t) in omega (arith, m)
fetch_few InFrame I8 = omega arith
fetch_few InFrame U8 = omega arith
fetch_few InFrame I16 = omega arith
fetch_few InFrame U16 = omega arith
fetch_few InFrame I32 = omega arith
fetch_few InFrame U32 = omega arith
fetch_few InMemory I8 = omega arith
fetch_few InMemory U8 = omega arith
fetch_few InMemory I16 = omega arith
fetch_few InMemory U16 = omega arith
fetch_few InMemory I32 = omega arith
fetch_few InMemory U32 = omega arith

put_few : (kind : Kind) (t : IntType) → put_most kind t ≤ 40
put_few (InValues regs) t = let m = move_few (is_wide t) in omega (arith, m)
put_few InFrame I8 = omega arith
put_few InFrame U8 = omega arith
put_few InFrame I16 = omega arith
put_few InFrame U16 = omega arith
put_few InFrame I32 = omega arith
put_few InFrame U32 = omega arith
put_few InMemory I8 = omega arith
put_few InMemory U8 = omega arith
put_few InMemory I16 = omega arith
put_few InMemory U16 = omega arith
put_few InMemory I32 = omega arith
put_few InMemory U32 = omega arith

fit_few : (t : IntType) → fit_most t ≤ 30
fit_few I8 = omega arith
fit_few U8 = omega arith
fit_few I16 = omega arith
fit_few U16 = omega arith
fit_few I32 = omega arith
fit_few U32 = omega arith

high_few : (from to : Bool) → high_most from to ≤ 20
high_few true true = omega arith
high_few true false = omega arith
high_few false true = omega arith
high_few false false = omega arith

convert_few : (from to : IntType) → convert_most from to ≤ 50
convert_few from to = let a = fit_few to in let b = high_few (is_wide from) (is_wide to) in omega (arith, a, b)

spare_least : (place : Place) → 90 ≤ spare place
spare_least (plain.object k) = omega arith
spare_least (plain.local x) = omega arith
spare_least (plain.deref e t) = omega arith
spare_least (plain.index place e) = omega arith
spare_least (plain.field place k) = omega arith

-- place, read, operand and what follows
update_sum : (a b c d : List Mid) (read rest left da de ds sa se na ne : ℕ) → costs a + 62 * da + 96 * sa + left ≤ 96 * na → costs b ≤ read → costs c + 62 * de + 96 * se + 64 ≤ 96 * ne → costs d ≤ rest
    → read + rest ≤ 96 + left → ds ≡ da + de → costs (a ++ (b ++ (c ++ d))) + 62 * ds + 96 * (sa + se) + 64 ≤ 96 * (1 + na + ne)
update_sum a b c d read rest left da de ds sa se na ne ha hb hc hd few sum =
    let e1 = both a (b ++ (c ++ d)) in
    let e2 = both b (c ++ d) in
    let e3 = both c d in
    omega (arith, ha, hb, hc, hd, few, sum, e1, e2, e3)

-- ---- small calls

one_small : (es : Exprs) → small_one es ≤ 1
one_small no_exprs = omega arith
one_small (more_exprs e no_exprs) = one_at_most (is_byte e)
one_small (more_exprs e (more_exprs f rest)) = omega arith

module _ (p : Program) (types checks : List Ty) (spots : List Spot) where
  -- arguments and the words that are pushed for them leave so many bytes
  abbrev Leave : Exprs → (r l left : ℕ) → Type 0
  Leave es r l left =
      costs (args_code p types checks spots es r l) + 4 * length (passed_at p types checks spots es r) + 62 * length (exprs_derefs es) + 96 * exprs_small es + left ≤ 96 * exprs_nodes_of es

  byte_leaves : (e : Expr) (r l : ℕ) → is_byte e ≡ true → Leave (more_exprs e no_exprs) r l 86
  byte_leaves (plain.const U8 x) r l h = let s = set_most (is_made (low x)) in omega (arith, s)
  byte_leaves e r l h = absurd (cc)

  -- the argument of a small call leaves 86 bytes, of which its call needs 10
  small_leaves : (es : Exprs) (r l : ℕ) → Leave es r l 0 → Leave es r l (86 * small_one es)
  small_leaves no_exprs r l h = omega (arith, h)
  small_leaves (more_exprs e no_exprs) r l h = by (is_byte e) (byte_leaves e r l)
    where
      by : (b : Bool) → (b ≡ true → Leave (more_exprs e no_exprs) r l 86) → Leave (more_exprs e no_exprs) r l (86 * (if b then 1 else 0))
      by true g = g refl
      by false g = h
  small_leaves (more_exprs e (more_exprs f rest)) r l h = omega (arith, h)

-- ---- expressions

module _ (p : Program) (types checks : List Ty) (spots : List Spot) (framed : AreFramed types spots) where
  abbrev code_of : Expr → (r l : ℕ) → List Mid
  code_of e r l = expr_code p types checks spots e r l

  abbrev at : Place → (r l : ℕ) → List Mid
  at place r l = place_code p types checks spots place r l

  mutual
    place_light : (place : Place) (r l : ℕ) → IsPlace p types place → IsLight (place_nodes_of place) (length (place_derefs place)) (place_small place) (spare place) (at place r l)
    place_light (plain.object k) r l h = let s = set_most (is_made (object_address (slice_get p.objects k))) in record { le = omega (arith, s) }
    place_light (plain.local x) r l h = let s = (local_within (slice_get spots x) r).le in record { le = omega (arith, s) }
    place_light (plain.deref e t) r l h =
        let c = both (code_of e r l) (Help (first_check + check_of checks t) (r ∷ []) [] ∷ []) in
        let g = (expr_light e (plain.pointer t) r l h.1).le in
        record { le = omega (arith, c, g) }
    place_light (plain.index place e) r l h =
        let lb : ℕ = l + 2 + place_labels place in
        let z : List Mid = element_code (held p types e) (count_of (place_type p types place)) (size_of p (element_of (place_type p types place))) r l in
        let c1 = both (at place r (l + 2)) (code_of e (r + 2) lb ++ z) in
        let c2 = both (code_of e (r + 2) lb) z in
        let d = ders (place_derefs place) (expr_derefs e) in
        let g1 = (place_light place r (l + 2) h.1).le in
        let g2 = (expr_light e (plain.int h.2.0) (r + 2) lb h.2.1).le in
        let g3 = (element_within (held p types e) (count_of (place_type p types place)) (size_of p (element_of (place_type p types place))) r l).le in
        let s = spare_least place in
        record { le = omega (arith, c1, c2, d, g1, g2, g3, s) }
    place_light (plain.field place k) r l h =
        let n : ℕ = field_offset p.structs (place_type p types place) k in
        let c = both (at place r l) (Set (r + 2) n ∷ Bin Add r r (r + 2) ∷ []) in
        let g = (place_light place r l h.1).le in
        let a = set_most (is_made n) in
        let b = bin_most (r == r) in
        let s = spare_least place in
        record { le = omega (arith, c, g, a, b, s) }

    pub expr_light : (e : Expr) (ty : Ty) (r l : ℕ) → Has p types e ty → IsLight (expr_nodes_of e) (length (expr_derefs e)) (small_calls e) 64 (code_of e r l)
    expr_light (plain.const t x) ty r l h = let g = (const_within t x r).le in record { le = omega (arith, g) }
    expr_light plain.null ty r l h = record { le = omega arith }
    expr_light (plain.read place pos) ty r l h =
        let kind : Kind = kind_of p types checks spots place in
        let t : IntType = number_of (place_type p types place) in
        let c = both (at place r l) (fetch_code kind t r r) in
        let g = (place_light place r l h.2).le in
        let f = (fetch_within kind t r r).le in
        let m = fetch_few kind t in
        let s = spare_least place in
        record { le = omega (arith, c, g, f, m, s) }
    expr_light (plain.addr place) ty r l h =
        let kind : Kind = kind_of p types checks spots place in
        let c = both (at place r l) (address_code kind r) in
        let g = (place_light place r l h.2).le in
        let f = (address_within kind r).le in
        let s = spare_least place in
        record { le = omega (arith, c, g, f, s) }
    expr_light (plain.un op t e) ty r l h =
        let c = both (code_of e r (l + 2)) (unary_code op (is_wide t) r l) in
        let g = (expr_light e (plain.int t) r (l + 2) h.2).le in
        let f = (unary_within op (is_wide t) r l).le in
        record { le = omega (arith, c, g, f) }
    expr_light (plain.bin op t a b) ty r l h =
        let second = second_some op t (Has p types b) h.3 in
        let z : List Mid = binary_code op t (held p types b) r l in
        let lb : ℕ = l + 3 + labels a in
        let c1 = both (code_of a r (l + 3)) (code_of b (r + 2) lb ++ z) in
        let c2 = both (code_of b (r + 2) lb) z in
        let d = ders (expr_derefs a) (expr_derefs b) in
        let g1 = (expr_light a (plain.int t) r (l + 3) h.2).le in
        let g2 = (expr_light b second.0 (r + 2) lb second.1).le in
        let g3 = (binary_within op t (held p types b) r l).le in
        record { le = omega (arith, c1, c2, d, g1, g2, g3) }
    expr_light (plain.convert t e) ty r l h =
        let z : List Mid = convert_code (held p types e) t r l in
        let c = both (code_of e r (l + 1)) z in
        let g = (expr_light e h.1.0 r (l + 1) h.1.1.1).le in
        let f = (convert_within (held p types e) t r l).le in
        let m = convert_few (held p types e) t in
        record { le = omega (arith, c, g, f, m) }
    expr_light (plain.offset a b size) ty r l h =
        let z : List Mid = offset_code size r in
        let c1 = both (code_of a r l) (code_of b (r + 2) (l + labels a) ++ z) in
        let c2 = both (code_of b (r + 2) (l + labels a)) z in
        let d = ders (expr_derefs a) (expr_derefs b) in
        let g1 = (expr_light a ty r l h.1).le in
        let g2 = (expr_light b (plain.int h.2.0) (r + 2) (l + labels a) h.2.1).le in
        let g3 = (offset_within size r).le in
        record { le = omega (arith, c1, c2, d, g1, g2, g3) }
    expr_light (plain.distance a b size) ty r l h =
        let z : List Mid = distance_code size r in
        let c1 = both (code_of a r l) (code_of b (r + 2) (l + labels a) ++ z) in
        let c2 = both (code_of b (r + 2) (l + labels a)) z in
        let d = ders (expr_derefs a) (expr_derefs b) in
        let g1 = (expr_light a h.1.0 r l h.1.1.1).le in
        let g2 = (expr_light b h.1.0 (r + 2) (l + labels a) h.1.1.2).le in
        let g3 = (distance_within size r).le in
        record { le = omega (arith, c1, c2, d, g1, g2, g3) }
    expr_light (plain.both a b) ty r l h =
        let za : List Mid = zero_code Eq (is_wide (held p types a)) r l in
        let zb : List Mid = zero_code Eq (is_wide (held p types b)) r l in
        let e : List Mid = Set r 1 ∷ Jump (l + 1) ∷ Label l ∷ Set r 0 ∷ Label (l + 1) ∷ [] in
        let lb : ℕ = l + 2 + labels a in
        let c1 = both (code_of a r (l + 2)) (za ++ (code_of b r lb ++ (zb ++ e))) in
        let c2 = both za (code_of b r lb ++ (zb ++ e)) in
        let c3 = both (code_of b r lb) (zb ++ e) in
        let c4 = both zb e in
        let d = ders (expr_derefs a) (expr_derefs b) in
        let g1 = (expr_light a h.1.0 r (l + 2) h.1.2).le in
        let g2 = (expr_light b h.2.0 r lb h.2.2).le in
        let g3 = (zero_within Eq (is_wide (held p types a)) r l).le in
        let g4 = (zero_within Eq (is_wide (held p types b)) r l).le in
        record { le = omega (arith, c1, c2, c3, c4, d, g1, g2, g3, g4) }
    expr_light (plain.either a b) ty r l h =
        let za : List Mid = zero_code Ne (is_wide (held p types a)) r l in
        let zb : List Mid = zero_code Ne (is_wide (held p types b)) r l in
        let lb : ℕ = l + 2 + labels a in
        let c1 = both (code_of a r (l + 2)) (za ++ (code_of b r lb ++ (zb ++ truth_code r l))) in
        let c2 = both za (code_of b r lb ++ (zb ++ truth_code r l)) in
        let c3 = both (code_of b r lb) (zb ++ truth_code r l) in
        let c4 = both zb (truth_code r l) in
        let d = ders (expr_derefs a) (expr_derefs b) in
        let g1 = (expr_light a h.1.0 r (l + 2) h.1.2).le in
        let g2 = (expr_light b h.2.0 r lb h.2.2).le in
        let g3 = (zero_within Ne (is_wide (held p types a)) r l).le in
        let g4 = (zero_within Ne (is_wide (held p types b)) r l).le in
        let g5 = (truth_within r l).le in
        record { le = omega (arith, c1, c2, c3, c4, d, g1, g2, g3, g4, g5) }
    expr_light (plain.choice test a b) ty r l h =
        let z : List Mid = zero_code Eq (is_wide (held p types test)) r l in
        let la : ℕ = l + 2 + labels test in
        let cb : List Mid = code_of b r (la + labels a) in
        let c1 = both (code_of test r (l + 2)) (z ++ (code_of a r la ++ (Jump (l + 1) ∷ Label l ∷ (cb ++ Label (l + 1) ∷ [])))) in
        let c2 = both z (code_of a r la ++ (Jump (l + 1) ∷ Label l ∷ (cb ++ Label (l + 1) ∷ []))) in
        let c3 = both (code_of a r la) (Jump (l + 1) ∷ Label l ∷ (cb ++ Label (l + 1) ∷ [])) in
        let c4 = both cb (Label (l + 1) ∷ []) in
        let d1 = ders (expr_derefs test ++ expr_derefs a) (expr_derefs b) in
        let d2 = ders (expr_derefs test) (expr_derefs a) in
        let g1 = (expr_light test h.0.0 r (l + 2) h.0.2).le in
        let g2 = (zero_within Eq (is_wide (held p types test)) r l).le in
        let g3 = (expr_light a ty r la h.1).le in
        let g4 = (expr_light b ty r (la + labels a) h.2).le in
        record { le = omega (arith, c1, c2, c3, c4, d1, d2, g1, g2, g3, g4) }
    expr_light (plain.assign place e pos) ty r l h =
        let kind : Kind = kind_of p types checks spots place in
        let t : IntType = number_of (place_type p types place) in
        let lb : ℕ = l + place_labels place in
        let z : List Mid = move_code (is_wide t) r (r + 2) in
        let c1 = both (at place r l) (code_of e (r + 2) lb ++ (put_code kind t (r + 2) r ++ z)) in
        let c2 = both (code_of e (r + 2) lb) (put_code kind t (r + 2) r ++ z) in
        let c3 = both (put_code kind t (r + 2) r) z in
        let d = ders (place_derefs place) (expr_derefs e) in
        let g1 = (place_light place r l h.2).le in
        let g2 = (expr_light e ty (r + 2) lb h.3).le in
        let g3 = (put_within kind t (r + 2) r).le in
        let g4 = (move_within (is_wide t) r (r + 2)).le in
        let m1 = put_few kind t in
        let m2 = move_few (is_wide t) in
        let s = spare_least place in
        record { le = omega (arith, c1, c2, c3, d, g1, g2, g3, g4, m1, m2, s) }
    expr_light (plain.update place op t e gives_old pos) ty r l h =
        let kind : Kind = kind_of p types checks spots place in
        let of : IntType = number_of (place_type p types place) in
        let s : IntType = held p types e in
        let lb : ℕ = l + 5 + place_labels place in
        let good = of_updated op t ty h.1 in
        let second = second_some op t (Has p types e) h.3 in
        let tail : List Mid = move_code (is_wide of) (r + 6) (r + 2)
        ++ (convert_code of t (r + 6) l
        ++ (move_code (is_wide s) (r + 8) (r + 4)
        ++ (binary_code op t s (r + 6) (l + 1)
        ++ (convert_code t of (r + 6) (l + 4)
        ++ (put_code kind of (r + 6) r
        ++ move_code (is_wide of) r (if gives_old then r + 2 else r + 6)))))) in
        let d = ders (place_derefs place) (expr_derefs e) in
        let g1 = (place_light place r (l + 5) h.2).le in
        let g2 = (fetch_within kind of (r + 2) r).le in
        let g3 = (expr_light e second.0 (r + 4) lb second.1).le in
        let g4 = (tail_within kind of t s op gives_old r l good.0 good.1).le in
        let m = update_few p types checks spots framed place t good.0 in
        record { le = update_sum (at place r (l + 5)) (fetch_code kind of (r + 2) r) (code_of e (r + 4) lb) tail (fetch_most kind of) (tail_most kind of t) (spare place) (length (place_derefs place)) (length (expr_derefs e)) _ (place_small place) (small_calls e) (place_nodes_of place) (expr_nodes_of e) g1 g2 g3 g4 m d }
    expr_light (plain.call g arguments pos) ty r l h =
        let with = called_with (slice_get p.bodies g) (AllHave p types arguments) ty h in
        let c = both (args_code p types checks spots arguments r l) (Tick ∷ Call g (passed_at p types checks spots arguments r) (taken_at (result_of (slice_get p.bodies g)) r) ∷ Tick ∷ []) in
        let f = small_leaves p types checks spots arguments r l (args_light arguments with.0 r l with.1) in
        let s = one_small arguments in
        let t = taken_few (result_of (slice_get p.bodies g)) r in
        record { le = omega (arith, c, f, s, t) }
    expr_light (plain.post k) ty r l h = let g = (fit_within U8 r).le in record { le = omega (arith, g) }
    expr_light (plain.port_in port) ty r l h = record { le = omega arith }
    expr_light (plain.port_out port e) ty r l h =
        let c = both (code_of e r l) (Out port r ∷ []) in
        let g = (expr_light e (plain.int U16) r l h.2).le in
        record { le = omega (arith, c, g) }
    expr_light (plain.comma a b) ty r l h =
        let c = both (code_of a r l) (code_of b r (l + labels a)) in
        let d = ders (expr_derefs a) (expr_derefs b) in
        let g1 = (expr_light a h.0.0 r l h.0.1).le in
        let g2 = (expr_light b ty r (l + labels a) h.1).le in
        record { le = omega (arith, c, d, g1, g2) }

    -- with the words that are pushed for them
    args_light : (es : Exprs) (ts : List Ty) (r l : ℕ) → AllHave p types es ts → Leave p types checks spots es r l 0
    args_light no_exprs ts r l h = omega arith
    args_light (more_exprs e rest) [] r l h = absurd h
    args_light (more_exprs e rest) (t ∷ ts) r l h =
        let c = both (code_of e r l) (args_code p types checks spots rest (r + 2) (l + labels e)) in
        let n = length-append (values_at (is_wide (held p types e)) r) (passed_at p types checks spots rest (r + 2)) in
        let v = values_few (is_wide (held p types e)) r in
        let d = ders (expr_derefs e) (exprs_derefs rest) in
        let g = (expr_light e t r l h.0).le in
        let f = args_light rest ts (r + 2) (l + labels e) h.1 in
        omega (arith, c, n, v, d, g, f)
