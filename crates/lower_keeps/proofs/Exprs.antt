-- What is known at a label of an expression is what is known around it, but where the index of an element of the frame is in its bound;
-- and the code of expressions leaves it as it is.
use Rattle.std.proofs.Common.{◌≡◌, ◌≢◌, ℕ, ◌+◌, ◌%◌, ◌<◌, ◌≤◌, true, false, ◌==◌, List, [], ◌∷◌, ◌++◌, length, Option, Some, None, refl, sym, subst, arith}
use Rattle.std.specs.Prelude.{⊤, nat_lt, slice_get, slice_index_or, if◌then◌else◌}
use Rattle.std.proofs.lemmas.Bool.{eq-eqb, ne_eqb, le-ltb, lt-ltb}
use Rattle.nm_base.specs.declared.int_type.IntType.{IntType}
use Rattle.nm_base.specs.declared.int_type.IntType.TheVariants.{U8, U16}
use Rattle.nesc_core.specs.declared.layout.Layout.{Layout}
use Rattle.nesc_core.specs.Plain.{Ty, Expr, Exprs, no_exprs, more_exprs, Field, Place, Body, Program}
use Rattle.nesc_core.specs.Plain as plain
use Rattle.nesc_core.specs.PlaceTypes.{place_type, element_of, count_of, field_offset, field_type, fields_of}
use Rattle.nesc_core.specs.Size.{layout_of}
use Rattle.nesc_core.specs.Typing.{AllHave, Has, IsArray, IsPlace, IsScalar, IsUpdated}
use Rattle.nesc_core.specs.WellFormed.{IsWellFormed}
use Rattle.core_meaning.specs.Layout.{size_of}
use Rattle.core_meaning.specs.Work.{number_of}
use Rattle.mid_code.specs.declared.instr.Mid.{Mid}
use Rattle.mid_code.specs.declared.instr.Mid.TheVariants.{Bin, Jump, Label, Post, Set}
use Rattle.mid_code.specs.declared.instr.Op.TheVariants.{Add}
use Rattle.mid_code.specs.declared.instr.Test.TheVariants.{Eq, Ne}
use Rattle.mid_code.specs.declared.code.MidCode.{MidCode}
use Rattle.mid_code.specs.Help.{is_wide}
use Rattle.mid_code.specs.Machine.{put}
use Rattle.mid_code.proofs.Written.{put_other, put_same}
use Rattle.lower_expr.specs.declared.spot.Regs.{Regs}
use Rattle.lower_expr.specs.declared.spot.Spot.{Spot}
use Rattle.lower_expr.specs.declared.spot.Spot.TheVariants.{Values, Frame}
use Rattle.lower_expr.specs.Held.{held, result_of}
use Rattle.lower_expr.specs.Pieces.{binary_code, convert_code, element_code, fit_code, move_code, truth_code, zero_code}
use Rattle.lower_expr.specs.Code.{Kind, InValues, InFrame, InMemory, all_labels, args_code, expr_code, fetch_code, is_void, kind_of_spot, labels, local_code, place_code, place_labels, put_code, value_named}
use Rattle.source_accesses.proofs.Bodies.{called_with, second_some, updated_scalar}
use Rattle.source_accesses.proofs.Aligned.{layout-even}
use Rattle.source_accesses.proofs.Parts.{field_part}
use Rattle.lower_keeps.proofs.Safe.{IsKnown, IsQuiet, IsStable, Leads, both_quiet, knowing_less, knowing_more, leads_on, no_code, quiet}
use Rattle.lower_keeps.proofs.Forms.{address_quiet, binary_quiet, const_quiet, convert_quiet, distance_quiet, element_quiet, fit_quiet, free_taken, keep_quiet, load_quiet, move_quiet, offset_quiet, store_quiet, take_quiet, truth_quiet, unary_quiet, zero_quiet}
use Rattle.lower_keeps.proofs.Frames.{element_leads, field_leads, peek_leads, poke_leads}
use Rattle.lower_keeps.proofs.Known.{Indexed, InBound, IsFound, Pick, With, all_facts, facts, kind_at, lies, place_facts}

-- where the locals of these types are held: below `base`, or at even places in the first bytes of the frame
pub record AreSpots (p : Program) (types : List Ty) (spots : List Spot) (base limit : ℕ) : Type 0 where
  pub low : (x : ℕ) (regs : Regs) → x < length types → slice_get spots x ≡ Some (Values regs) → value_named regs.low < base
  pub high : (x : ℕ) (regs : Regs) → x < length types → slice_get spots x ≡ Some (Values regs) → value_named regs.high < base
  pub room : (x o : ℕ) → x < length types → slice_get spots x ≡ Some (Frame o) → o + size_of p (slice_index_or types x plain.void) ≤ limit
  pub even : (x o : ℕ) → x < length types → slice_get spots x ≡ Some (Frame o) → o % 2 ≡ 0
  pub there : (x : ℕ) → x < length types → slice_get spots x ≡ None → ⊥
  pub values : (x o : ℕ) → x < length types → slice_get spots x ≡ Some (Frame o) → IsScalar (slice_index_or types x plain.void) → ⊥

module _ (code : MidCode) (limit : ℕ) (small : limit ≤ 65535) (at_label : ℕ → (ℕ → ℕ) → Type 0) (p : Program) (formed : IsWellFormed p) (types checks : List Ty) (spots : List Spot) (base : ℕ) (spotted : AreSpots p types spots base limit) where
  abbrev tasks : ℕ
  tasks = length p.tasks

  abbrev L : ((ℕ → ℕ) → Type 0) → ((ℕ → ℕ) → Type 0) → List Mid → Type 0
  L P Q c = Leads code limit tasks at_label P Q c

  abbrev kind : Place → Kind
  kind place = kind_at limit p types checks spots place

  abbrev lay : Place → Layout
  lay place = lies limit p types checks spots place

  abbrev Found : Place → ℕ → Type 0
  Found place x = IsFound limit (kind place) (lay place) x

  abbrev At : ((ℕ → ℕ) → Type 0) → Place → ℕ → (ℕ → ℕ) → Type 0
  At K place r values = With limit p types checks spots K place r values

  -- ---- the labels from lo on

  pub record Are (t : ℕ → (ℕ → ℕ) → Type 0) (lo n : ℕ) : Type 0 where
    pub each : (k : ℕ) → lo ≤ k → k < lo + n → IsKnown code limit tasks at_label k (t k)

  pub first : (t u : ℕ → (ℕ → ℕ) → Type 0) (lo m n total : ℕ) → Are (λ k values. Pick (nat_lt k m) (t k values) (u k values)) lo total → m ≡ lo + n → n ≤ total → Are t lo n
  first t u lo m n total h e le = record { each = λ k ge lt. picked k (lt-ltb k m (omega (arith, lt, e))) (h.each k ge (omega (arith, lt, le))) }
    where
      picked : (k : ℕ) → nat_lt k m ≡ true → IsKnown code limit tasks at_label k (λ values. Pick (nat_lt k m) (t k values) (u k values)) → IsKnown code limit tasks at_label k (t k)
      picked k q known = subst (λ b. IsKnown code limit tasks at_label k (λ values. Pick b (t k values) (u k values))) q known

  pub second : (t u : ℕ → (ℕ → ℕ) → Type 0) (lo m n total rest : ℕ) → Are (λ k values. Pick (nat_lt k m) (t k values) (u k values)) lo total → m ≡ lo + n → n + rest ≤ total → Are u m rest
  second t u lo m n total rest h e le = record { each = λ k ge lt. picked k (le-ltb k m ge) (h.each k (omega (arith, ge, e)) (omega (arith, lt, le, e))) }
    where
      picked : (k : ℕ) → nat_lt k m ≡ false → IsKnown code limit tasks at_label k (λ values. Pick (nat_lt k m) (t k values) (u k values)) → IsKnown code limit tasks at_label k (u k)
      picked k q known = subst (λ b. IsKnown code limit tasks at_label k (λ values. Pick b (t k values) (u k values))) q known

  -- ---- what is stable

  abbrev Stable : ℕ → ((ℕ → ℕ) → Type 0) → Type 0
  Stable s K = IsStable code limit tasks at_label base s K

  pub stable_on : (K : (ℕ → ℕ) → Type 0) (s t : ℕ) → s ≤ t → Stable s K → Stable t K
  stable_on K s t le h = record { written = λ v n values free k. h.written v n values (λ lt. free (omega (arith, lt, le))) k }

  stable_with : (K : (ℕ → ℕ) → Type 0) (place : Place) (r : ℕ) → base ≤ r → Stable r K → Stable (r + 2) (At K place r)
  stable_with K place r le h = record {
    written = λ v n values free k. (
      h.written v n values (λ lt. free (omega (arith, lt))) k.0,
      subst (Found place) (sym (put_other values v n r (λ e. let below = free (omega (arith, e)) in omega (arith, below, e, le)))) k.1,
    );
  }

  -- ---- pieces

  on : (P Q R : (ℕ → ℕ) → Type 0) (a b : List Mid) → L P Q a → L Q R b → L P R (a ++ b)
  on P Q R a b h g = leads_on code limit tasks at_label P Q R a b h g

  still : (K : (ℕ → ℕ) → Type 0) (s : ℕ) → Stable s K → (c : List Mid) → IsQuiet code limit tasks at_label base s K c → L K K c
  still K s stable c q = quiet code limit tasks at_label base s K stable c q

  -- a place that is not of the frame is found by any value
  anywhere : (K : (ℕ → ℕ) → Type 0) (kd : Kind) (l : Layout) (r : ℕ) (c : List Mid) → (kd ≡ InFrame → ⊥) → L K K c → L K (λ values. K values × IsFound limit kd l (values r)) c
  anywhere K (InValues regs) l r c not h = knowing_less code limit tasks at_label K K (λ values. K values × ⊤) c (λ values k. (k, tt)) h
  anywhere K InMemory l r c not h = knowing_less code limit tasks at_label K K (λ values. K values × ⊤) c (λ values k. (k, tt)) h
  anywhere K InFrame l r c not h = absurd (not refl)

  local_leads : (K : (ℕ → ℕ) → Type 0) (x r : ℕ) → x < length types → Stable r K → L K (At K (plain.local x) r) (local_code (slice_get spots x) r)
  local_leads K x r lt stable = by (slice_get spots x) refl
    where
      by : (o : Option Spot) → slice_get spots x ≡ o → L K (λ values. K values × IsFound limit (kind_of_spot o) (lay (plain.local x)) (values r)) (local_code o r)
      by None is = absurd (spotted.there x lt is)
      by (Some (Values regs)) is = no_code code limit tasks at_label K (λ values. K values × ⊤) (λ values k. (k, tt))
      by (Some (Frame o)) is = record {
        over = λ u st k. (
          st,
          λ values h. k (put values r o) (
            stable.written r o values (λ lt. omega (arith, lt)) h,
            (λ some.
                let own : put values r o r ≡ o = put_same values r o in
                let room = spotted.room x o lt is in
                let even = spotted.even x o lt is in
                (omega (arith, own, room), λ e. omega (arith, own, even))),
          ),
        );
      }

  element_any : (kd : Kind) (ty : Ty) (t : IntType) (K : (ℕ → ℕ) → Type 0) (r l : ℕ) → IsArray ty → base ≤ r → Stable r K →
      IsKnown code limit tasks at_label l (λ values. (K values × IsFound limit kd (layout_of p.structs ty) (values r)) × InBound kd (size_of p (element_of ty)) (count_of ty) (values (r + 2))) →
      IsKnown code limit tasks at_label (l + 1) (λ values. K values × IsFound limit kd (layout_of p.structs ty) (values r)) →
      L (λ values. K values × IsFound limit kd (layout_of p.structs ty) (values r)) (λ values. K values × IsFound limit kd (layout_of p.structs (element_of ty)) (values r))
      (element_code t (count_of ty) (size_of p (element_of ty)) r l)
  element_any InFrame plain.void t K r l is le stable at next = absurd is
  element_any InFrame (plain.int s) t K r l is le stable at next = absurd is
  element_any InFrame (plain.pointer s) t K r l is le stable at next = absurd is
  element_any InFrame (plain.struct j) t K r l is le stable at next = absurd is
  element_any InFrame (plain.array s n) t K r l is le stable at next =
      let even = layout-even p.structs s in
      element_leads code limit tasks small at_label base K r (layout_of p.structs s).size n (layout_of p.structs s).align stable t l even.whole at next
  element_any (InValues regs) ty t K r l is le stable at next =
      knowing_more code limit tasks at_label (λ values. K values × ⊤) K (λ values. K values × ⊤) (element_code t (count_of ty) (size_of p (element_of ty)) r l) (λ values k. k.0)
      (knowing_less code limit tasks at_label K K (λ values. K values × ⊤) (element_code t (count_of ty) (size_of p (element_of ty)) r l) (λ values k. (k, tt))
      (still K r stable _ (element_quiet code limit tasks at_label base r K t (count_of ty) (size_of p (element_of ty)) r l (omega arith)
      (record { into = λ values k. at.into values ((k, tt), tt); out = λ values h. (at.out values h).0.0 }) (record { into = λ values k. next.into values (k, tt); out = λ values h. (next.out values h).0 }))))
  element_any InMemory ty t K r l is le stable at next =
      knowing_more code limit tasks at_label (λ values. K values × ⊤) K (λ values. K values × ⊤) (element_code t (count_of ty) (size_of p (element_of ty)) r l) (λ values k. k.0)
      (knowing_less code limit tasks at_label K K (λ values. K values × ⊤) (element_code t (count_of ty) (size_of p (element_of ty)) r l) (λ values k. (k, tt))
      (still K r stable _ (element_quiet code limit tasks at_label base r K t (count_of ty) (size_of p (element_of ty)) r l (omega arith)
      (record { into = λ values k. at.into values ((k, tt), tt); out = λ values h. (at.out values h).0.0 }) (record { into = λ values k. next.into values (k, tt); out = λ values h. (next.out values h).0 }))))

  field_quiet : (K : (ℕ → ℕ) → Type 0) (r offset : ℕ) → Stable r K → L K K (Set (r + 2) offset ∷ Bin Add r r (r + 2) ∷ [])
  field_quiet K r offset stable = still K r stable _ (record { each = ((λ lt. omega (arith, lt)), ((λ lt. omega (arith, lt)), tt)) })

  field_any : (kd : Kind) (ty : Ty) (n : ℕ) (K : (ℕ → ℕ) → Type 0) (r : ℕ) → n < length (fields_of p.structs ty) → Stable r K →
      L (λ values. K values × IsFound limit kd (layout_of p.structs ty) (values r)) (λ values. K values × IsFound limit kd (layout_of p.structs (field_type (slice_get (fields_of p.structs ty) n))) (values r))
      (Set (r + 2) (field_offset p.structs ty n) ∷ Bin Add r r (r + 2) ∷ [])
  field_any InFrame ty n K r lt stable =
      let part : Ty = field_type (slice_get (fields_of p.structs ty) n) in
      field_leads code limit tasks small at_label base K r (field_offset p.structs ty n) (layout_of p.structs ty) (layout_of p.structs part) stable (field_part p.structs formed.structs ty n lt)
      (layout-even p.structs part).small (layout-even p.structs ty).small
  field_any (InValues regs) ty n K r lt stable =
      knowing_more code limit tasks at_label (λ values. K values × ⊤) K (λ values. K values × ⊤) _ (λ values k. k.0)
      (knowing_less code limit tasks at_label K K (λ values. K values × ⊤) _ (λ values k. (k, tt)) (field_quiet K r (field_offset p.structs ty n) stable))
  field_any InMemory ty n K r lt stable =
      knowing_more code limit tasks at_label (λ values. K values × ⊤) K (λ values. K values × ⊤) _ (λ values k. k.0)
      (knowing_less code limit tasks at_label K K (λ values. K values × ⊤) _ (λ values k. (k, tt)) (field_quiet K r (field_offset p.structs ty n) stable))

  -- ---- accesses

  pub fetch_any : (kd : Kind) (ty : Ty) → IsScalar ty → (P Q : (ℕ → ℕ) → Type 0) (s : ℕ) → Stable s Q → ((values : ℕ → ℕ) → P values → Q values) → (d r : ℕ) → s ≤ d → r ≢ d + 1 →
      ((values : ℕ → ℕ) → P values → IsFound limit kd (layout_of p.structs ty) (values r)) → L P Q (fetch_code kd (number_of ty) d r)
  fetch_any (InValues regs) ty is P Q s stable go d r le apart found =
      knowing_more code limit tasks at_label P Q Q _ go (still Q s stable _ (take_quiet code limit tasks at_label base s Q (is_wide (number_of ty)) regs d le))
  fetch_any InFrame ty is P Q s stable go d r le apart found = peek_leads code limit tasks small at_label base P Q s stable go p.structs ty is d r le apart found
  fetch_any InMemory ty is P Q s stable go d r le apart found =
      knowing_more code limit tasks at_label P Q Q _ go (still Q s stable _ (load_quiet code limit tasks at_label base s Q (number_of ty) d r le))

  -- the values of a local are below `base`
  abbrev pub AreBelow : Kind → Type 0
  AreBelow (InValues regs) = (value_named regs.low < base) × (value_named regs.high < base)
  AreBelow InFrame = ⊤
  AreBelow InMemory = ⊤

  pub put_any : (kd : Kind) (ty : Ty) → IsScalar ty → AreBelow kd → (P Q : (ℕ → ℕ) → Type 0) (s : ℕ) → Stable s Q → ((values : ℕ → ℕ) → P values → Q values) → (v r : ℕ) → s ≤ r →
      ((values : ℕ → ℕ) → P values → IsFound limit kd (layout_of p.structs ty) (values r)) → L P Q (put_code kd (number_of ty) v r)
  put_any (InValues regs) ty is below P Q s stable go v r le found =
      knowing_more code limit tasks at_label P Q Q _ go (still Q s stable _ (keep_quiet code limit tasks at_label base s Q (is_wide (number_of ty)) regs v below.0 below.1))
  put_any InFrame ty is below P Q s stable go v r le found = poke_leads code limit tasks small at_label base P Q s stable go p.structs ty is v r le found
  put_any InMemory ty is below P Q s stable go v r le found =
      knowing_more code limit tasks at_label P Q Q _ go (still Q s stable _ (store_quiet code limit tasks at_label base s Q (number_of ty) v r le))

  pub spot_below : (x : ℕ) → x < length types → AreBelow (kind_of_spot (slice_get spots x))
  spot_below x lt = by (slice_get spots x) refl
    where
      by : (o : Option Spot) → slice_get spots x ≡ o → AreBelow (kind_of_spot o)
      by None is = tt
      by (Some (Values regs)) is = (spotted.low x regs lt is, spotted.high x regs lt is)
      by (Some (Frame o)) is = tt

  kind_below : (place : Place) → IsPlace p types place → AreBelow (kind place)
  kind_below (plain.object n) h = tt
  kind_below (plain.local x) h = spot_below x h
  kind_below (plain.deref e t) h = tt
  kind_below (plain.index place e) h = kind_below place h.1
  kind_below (plain.field place n) h = kind_below place h.1

  -- ---- expressions

  abbrev P : Place → ℕ → ℕ → List Mid
  P place r l = place_code p types checks spots place r l

  abbrev E : Expr → ℕ → ℕ → List Mid
  E e r l = expr_code p types checks spots e r l

  abbrev ty_of : Place → Ty
  ty_of place = place_type p types place

  abbrev FP : Place → ((ℕ → ℕ) → Type 0) → (r l k : ℕ) → (ℕ → ℕ) → Type 0
  FP place K r l k values = place_facts limit p types checks spots place K r l k values

  abbrev FE : Expr → ((ℕ → ℕ) → Type 0) → (r l k : ℕ) → (ℕ → ℕ) → Type 0
  FE e K r l k values = facts limit p types checks spots e K r l k values

  abbrev FA : Exprs → ((ℕ → ℕ) → Type 0) → (r l k : ℕ) → (ℕ → ℕ) → Type 0
  FA es K r l k values = all_facts limit p types checks spots es K r l k values

  same_label : (l : ℕ) (A B : (ℕ → ℕ) → Type 0) → IsKnown code limit tasks at_label l (λ values. Pick (l == l) (A values) (B values)) → IsKnown code limit tasks at_label l A
  same_label l A B known = subst (λ b. IsKnown code limit tasks at_label l (λ values. Pick b (A values) (B values))) (eq-eqb l l refl) known

  other_label : (l k : ℕ) (A B : (ℕ → ℕ) → Type 0) → k ≢ l → IsKnown code limit tasks at_label k (λ values. Pick (k == l) (A values) (B values)) → IsKnown code limit tasks at_label k B
  other_label l k A B ne known = subst (λ b. IsKnown code limit tasks at_label k (λ values. Pick b (A values) (B values))) (ne_eqb k l ne) known

  mutual
    place_leads : (place : Place) (K : (ℕ → ℕ) → Type 0) (r l : ℕ) → IsPlace p types place → base ≤ r → Stable r K → Are (λ k values. FP place K r l k values) l (place_labels place) → L K (At K place r) (P place r l)
    place_leads (plain.object n) K r l h le stable a = anywhere K InMemory (lay (plain.object n)) r _ (λ e. absurd (cc)) (still K r stable _ (record { each = ((λ lt. omega (arith, lt)), tt) }))
    place_leads (plain.local x) K r l h le stable a = local_leads K x r h stable
    place_leads (plain.deref e t) K r l h le stable a =
        anywhere K InMemory (lay (plain.deref e t)) r _ (λ e. absurd (cc))
        (on K K K (E e r l) _ (expr_leads e (plain.pointer t) K r l h.1 le stable a) (still K r stable _ (record { each = (tt, tt) })))
    place_leads (plain.index place e) K r l h le stable a =
        let M : (ℕ → ℕ) → Type 0 = At K place r in
        let I : (ℕ → ℕ) → Type 0 = λ values. Indexed limit p types checks spots K place r values in
        let fp : ℕ → (ℕ → ℕ) → Type 0 = (λ k values. FP place K r (l + 2) k values) in
        let fe : ℕ → (ℕ → ℕ) → Type 0 = (λ k values. FE e M (r + 2) (l + 2 + place_labels place) k values) in
        let f0 : ℕ → (ℕ → ℕ) → Type 0 = (λ k values. Pick (k == l) (I values) (M values)) in
        let fr : ℕ → (ℕ → ℕ) → Type 0 = (λ k values. Pick (nat_lt k (l + 2 + place_labels place)) (fp k values) (fe k values)) in
        let own : Are f0 l 2 = first f0 fr l (l + 2) 2 (2 + place_labels place + labels e) a (omega arith) (omega arith) in
        let rest : Are fr (l + 2) (place_labels place + labels e) = second f0 fr l (l + 2) 2 (2 + place_labels place + labels e) (place_labels place + labels e) a (omega arith) (omega arith) in
        let ap1 : Are fp (l + 2) (place_labels place) = first fp fe (l + 2) (l + 2 + place_labels place) (place_labels place) (place_labels place + labels e) rest (omega arith) (omega arith) in
        let ae : Are fe (l + 2 + place_labels place) (labels e) = second fp fe (l + 2) (l + 2 + place_labels place) (place_labels place) (place_labels place + labels e) (labels e) rest (omega arith) (omega arith) in
        on K M (At K (plain.index place e) r) (P place r (l + 2)) _ (place_leads place K r (l + 2) h.1 le stable ap1)
        (on M M (At K (plain.index place e) r) (E e (r + 2) (l + 2 + place_labels place)) _ (expr_leads e (plain.int h.2.0) M (r + 2) (l + 2 + place_labels place) h.2.1 (omega (arith, le)) (stable_with K place r le stable) ae)
        (element_any (kind place) (ty_of place) (held p types e) K r l h.0 le stable
        (same_label l I M (own.each l (omega arith) (omega arith))) (other_label l (l + 1) I M (λ q. omega (arith, q)) (own.each (l + 1) (omega arith) (omega arith)))))
    place_leads (plain.field place n) K r l h le stable a =
        on K (At K place r) (At K (plain.field place n) r) (P place r l) _ (place_leads place K r l h.1 le stable a) (field_any (kind place) (ty_of place) n K r h.0 stable)

    pub expr_leads : (e : Expr) (ty : Ty) (K : (ℕ → ℕ) → Type 0) (r l : ℕ) → Has p types e ty → base ≤ r → Stable r K → Are (λ k values. FE e K r l k values) l (labels e) → L K K (E e r l)
    expr_leads (plain.const t x) ty K r l h le stable a = still K r stable _ (const_quiet code limit tasks at_label base r K t x r (omega arith))
    expr_leads plain.null ty K r l h le stable a = still K r stable _ (record { each = ((λ lt. omega (arith, lt)), tt) })
    expr_leads (plain.read place at) ty K r l h le stable a =
        on K (At K place r) K (P place r l) _ (place_leads place K r l h.2 le stable a)
        (fetch_any (kind place) (ty_of place) (subst IsScalar h.0 h.1) (At K place r) K r stable (λ values k. k.0) r r (omega arith) (λ q. omega (arith, q)) (λ values k. k.1))
    expr_leads (plain.addr place) ty K r l h le stable a =
        on K (At K place r) K (P place r l) _ (place_leads place K r l h.2 le stable a)
        (knowing_more code limit tasks at_label (At K place r) K K _ (λ values k. k.0) (still K r stable _ (address_quiet code limit tasks at_label base r K (kind place) r (omega arith))))
    expr_leads (plain.un op t e) ty K r l h le stable a =
        let k0 : ℕ → (ℕ → ℕ) → Type 0 = (λ k values. K values) in
        let fe : ℕ → (ℕ → ℕ) → Type 0 = (λ k values. FE e K r (l + 2) k values) in
        let own : Are k0 l 2 = first k0 fe l (l + 2) 2 (2 + labels e) a (omega arith) (omega arith) in
        let ae : Are fe (l + 2) (labels e) = second k0 fe l (l + 2) 2 (2 + labels e) (labels e) a (omega arith) (omega arith) in
        on K K K (E e r (l + 2)) _ (expr_leads e (plain.int t) K r (l + 2) h.2 le stable ae)
        (still K r stable _ (unary_quiet code limit tasks at_label base r K op (is_wide t) r l (omega arith) (own.each l (omega arith) (omega arith)) (own.each (l + 1) (omega arith) (omega arith))))
    expr_leads (plain.bin op t x y) ty K r l h le stable a =
        let operand = second_some op t (Has p types y) h.3 in
        let k0 : ℕ → (ℕ → ℕ) → Type 0 = (λ k values. K values) in
        let fx : ℕ → (ℕ → ℕ) → Type 0 = (λ k values. FE x K r (l + 3) k values) in
        let fy : ℕ → (ℕ → ℕ) → Type 0 = (λ k values. FE y K (r + 2) (l + 3 + labels x) k values) in
        let fr : ℕ → (ℕ → ℕ) → Type 0 = (λ k values. Pick (nat_lt k (l + 3 + labels x)) (fx k values) (fy k values)) in
        let own : Are k0 l 3 = first k0 fr l (l + 3) 3 (3 + labels x + labels y) a (omega arith) (omega arith) in
        let rest : Are fr (l + 3) (labels x + labels y) = second k0 fr l (l + 3) 3 (3 + labels x + labels y) (labels x + labels y) a (omega arith) (omega arith) in
        let ax : Are fx (l + 3) (labels x) = first fx fy (l + 3) (l + 3 + labels x) (labels x) (labels x + labels y) rest (omega arith) (omega arith) in
        let ay : Are fy (l + 3 + labels x) (labels y) = second fx fy (l + 3) (l + 3 + labels x) (labels x) (labels x + labels y) (labels y) rest (omega arith) (omega arith) in
        on K K K (E x r (l + 3)) _ (expr_leads x (plain.int t) K r (l + 3) h.2 le stable ax)
        (on K K K (E y (r + 2) (l + 3 + labels x)) _ (expr_leads y operand.0 K (r + 2) (l + 3 + labels x) operand.1 (omega (arith, le)) (stable_on K r (r + 2) (omega arith) stable) ay)
        (still K r stable _ (binary_quiet code limit tasks at_label base r K op t (held p types y) r l (omega arith)
        (own.each l (omega arith) (omega arith)) (own.each (l + 1) (omega arith) (omega arith)) (own.each (l + 2) (omega arith) (omega arith)))))
    expr_leads (plain.convert t e) ty K r l h le stable a =
        let k0 : ℕ → (ℕ → ℕ) → Type 0 = (λ k values. K values) in
        let fe : ℕ → (ℕ → ℕ) → Type 0 = (λ k values. FE e K r (l + 1) k values) in
        let own : Are k0 l 1 = first k0 fe l (l + 1) 1 (1 + labels e) a (omega arith) (omega arith) in
        let ae : Are fe (l + 1) (labels e) = second k0 fe l (l + 1) 1 (1 + labels e) (labels e) a (omega arith) (omega arith) in
        on K K K (E e r (l + 1)) _ (expr_leads e h.1.0 K r (l + 1) h.1.1.1 le stable ae)
        (still K r stable _ (convert_quiet code limit tasks at_label base r K (held p types e) t r l (omega arith) (own.each l (omega arith) (omega arith))))
    expr_leads (plain.offset x y size) ty K r l h le stable a =
        let fx : ℕ → (ℕ → ℕ) → Type 0 = (λ k values. FE x K r l k values) in
        let fy : ℕ → (ℕ → ℕ) → Type 0 = (λ k values. FE y K (r + 2) (l + labels x) k values) in
        let ax : Are fx l (labels x) = first fx fy l (l + labels x) (labels x) (labels x + labels y) a (omega arith) (omega arith) in
        let ay : Are fy (l + labels x) (labels y) = second fx fy l (l + labels x) (labels x) (labels x + labels y) (labels y) a (omega arith) (omega arith) in
        on K K K (E x r l) _ (expr_leads x ty K r l h.1 le stable ax)
        (on K K K (E y (r + 2) (l + labels x)) _ (expr_leads y (plain.int h.2.0) K (r + 2) (l + labels x) h.2.1 (omega (arith, le)) (stable_on K r (r + 2) (omega arith) stable) ay)
        (still K r stable _ (offset_quiet code limit tasks at_label base r K size r (omega arith))))
    expr_leads (plain.distance x y size) ty K r l h le stable a =
        let fx : ℕ → (ℕ → ℕ) → Type 0 = (λ k values. FE x K r l k values) in
        let fy : ℕ → (ℕ → ℕ) → Type 0 = (λ k values. FE y K (r + 2) (l + labels x) k values) in
        let ax : Are fx l (labels x) = first fx fy l (l + labels x) (labels x) (labels x + labels y) a (omega arith) (omega arith) in
        let ay : Are fy (l + labels x) (labels y) = second fx fy l (l + labels x) (labels x) (labels x + labels y) (labels y) a (omega arith) (omega arith) in
        on K K K (E x r l) _ (expr_leads x h.1.0 K r l h.1.1.1 le stable ax)
        (on K K K (E y (r + 2) (l + labels x)) _ (expr_leads y h.1.0 K (r + 2) (l + labels x) h.1.1.2 (omega (arith, le)) (stable_on K r (r + 2) (omega arith) stable) ay)
        (still K r stable _ (distance_quiet code limit tasks at_label base r K size r (omega arith))))
    expr_leads (plain.both x y) ty K r l h le stable a =
        let k0 : ℕ → (ℕ → ℕ) → Type 0 = (λ k values. K values) in
        let fx : ℕ → (ℕ → ℕ) → Type 0 = (λ k values. FE x K r (l + 2) k values) in
        let fy : ℕ → (ℕ → ℕ) → Type 0 = (λ k values. FE y K r (l + 2 + labels x) k values) in
        let fr : ℕ → (ℕ → ℕ) → Type 0 = (λ k values. Pick (nat_lt k (l + 2 + labels x)) (fx k values) (fy k values)) in
        let own : Are k0 l 2 = first k0 fr l (l + 2) 2 (2 + labels x + labels y) a (omega arith) (omega arith) in
        let rest : Are fr (l + 2) (labels x + labels y) = second k0 fr l (l + 2) 2 (2 + labels x + labels y) (labels x + labels y) a (omega arith) (omega arith) in
        let ax : Are fx (l + 2) (labels x) = first fx fy (l + 2) (l + 2 + labels x) (labels x) (labels x + labels y) rest (omega arith) (omega arith) in
        let ay : Are fy (l + 2 + labels x) (labels y) = second fx fy (l + 2) (l + 2 + labels x) (labels x) (labels x + labels y) (labels y) rest (omega arith) (omega arith) in
        let e0 = own.each l (omega arith) (omega arith) in
        let e1 = own.each (l + 1) (omega arith) (omega arith) in
        on K K K (E x r (l + 2)) _ (expr_leads x h.1.0 K r (l + 2) h.1.2 le stable ax)
        (on K K K (zero_code Eq (is_wide (held p types x)) r l) _ (still K r stable _ (zero_quiet code limit tasks at_label base r K Eq (is_wide (held p types x)) r l (omega arith) e0))
        (on K K K (E y r (l + 2 + labels x)) _ (expr_leads y h.2.0 K r (l + 2 + labels x) h.2.2 le stable ay)
        (on K K K (zero_code Eq (is_wide (held p types y)) r l) (Set r 1 ∷ Jump (l + 1) ∷ Label l ∷ Set r 0 ∷ Label (l + 1) ∷ []) (still K r stable _ (zero_quiet code limit tasks at_label base r K Eq (is_wide (held p types y)) r l (omega arith) e0))
        (still K r stable _ (record { each = ((λ lt. omega (arith, lt)), (e1, (e0, ((λ lt. omega (arith, lt)), (e1, tt))))) })))))
    expr_leads (plain.either x y) ty K r l h le stable a =
        let k0 : ℕ → (ℕ → ℕ) → Type 0 = (λ k values. K values) in
        let fx : ℕ → (ℕ → ℕ) → Type 0 = (λ k values. FE x K r (l + 2) k values) in
        let fy : ℕ → (ℕ → ℕ) → Type 0 = (λ k values. FE y K r (l + 2 + labels x) k values) in
        let fr : ℕ → (ℕ → ℕ) → Type 0 = (λ k values. Pick (nat_lt k (l + 2 + labels x)) (fx k values) (fy k values)) in
        let own : Are k0 l 2 = first k0 fr l (l + 2) 2 (2 + labels x + labels y) a (omega arith) (omega arith) in
        let rest : Are fr (l + 2) (labels x + labels y) = second k0 fr l (l + 2) 2 (2 + labels x + labels y) (labels x + labels y) a (omega arith) (omega arith) in
        let ax : Are fx (l + 2) (labels x) = first fx fy (l + 2) (l + 2 + labels x) (labels x) (labels x + labels y) rest (omega arith) (omega arith) in
        let ay : Are fy (l + 2 + labels x) (labels y) = second fx fy (l + 2) (l + 2 + labels x) (labels x) (labels x + labels y) (labels y) rest (omega arith) (omega arith) in
        let e0 = own.each l (omega arith) (omega arith) in
        let e1 = own.each (l + 1) (omega arith) (omega arith) in
        on K K K (E x r (l + 2)) _ (expr_leads x h.1.0 K r (l + 2) h.1.2 le stable ax)
        (on K K K (zero_code Ne (is_wide (held p types x)) r l) _ (still K r stable _ (zero_quiet code limit tasks at_label base r K Ne (is_wide (held p types x)) r l (omega arith) e0))
        (on K K K (E y r (l + 2 + labels x)) _ (expr_leads y h.2.0 K r (l + 2 + labels x) h.2.2 le stable ay)
        (on K K K (zero_code Ne (is_wide (held p types y)) r l) (truth_code r l) (still K r stable _ (zero_quiet code limit tasks at_label base r K Ne (is_wide (held p types y)) r l (omega arith) e0))
        (still K r stable _ (truth_quiet code limit tasks at_label base r K r l (omega arith) e0 e1)))))
    expr_leads (plain.choice test x y) ty K r l h le stable a =
        let lx : ℕ = l + 2 + labels test in
        let ly : ℕ = lx + labels x in
        let k0 : ℕ → (ℕ → ℕ) → Type 0 = (λ k values. K values) in
        let ft : ℕ → (ℕ → ℕ) → Type 0 = (λ k values. FE test K r (l + 2) k values) in
        let fx : ℕ → (ℕ → ℕ) → Type 0 = (λ k values. FE x K r lx k values) in
        let fy : ℕ → (ℕ → ℕ) → Type 0 = (λ k values. FE y K r ly k values) in
        let fs : ℕ → (ℕ → ℕ) → Type 0 = (λ k values. Pick (nat_lt k ly) (fx k values) (fy k values)) in
        let fr : ℕ → (ℕ → ℕ) → Type 0 = (λ k values. Pick (nat_lt k lx) (ft k values) (fs k values)) in
        let own : Are k0 l 2 = first k0 fr l (l + 2) 2 (2 + labels test + labels x + labels y) a (omega arith) (omega arith) in
        let rest : Are fr (l + 2) (labels test + labels x + labels y) = second k0 fr l (l + 2) 2 (2 + labels test + labels x + labels y) (labels test + labels x + labels y) a (omega arith) (omega arith) in
        let at1 : Are ft (l + 2) (labels test) = first ft fs (l + 2) lx (labels test) (labels test + labels x + labels y) rest (omega arith) (omega arith) in
        let rest2 : Are fs lx (labels x + labels y) = second ft fs (l + 2) lx (labels test) (labels test + labels x + labels y) (labels x + labels y) rest (omega arith) (omega arith) in
        let ax : Are fx lx (labels x) = first fx fy lx ly (labels x) (labels x + labels y) rest2 (omega arith) (omega arith) in
        let ay : Are fy ly (labels y) = second fx fy lx ly (labels x) (labels x + labels y) (labels y) rest2 (omega arith) (omega arith) in
        let e0 = own.each l (omega arith) (omega arith) in
        let e1 = own.each (l + 1) (omega arith) (omega arith) in
        let last : L K K (E y r ly ++ Label (l + 1) ∷ []) = on K K K (E y r ly) (Label (l + 1) ∷ []) (expr_leads y ty K r ly h.2 le stable ay) (still K r stable _ (record { each = (e1, tt) })) in
        on K K K (E test r (l + 2)) _ (expr_leads test h.0.0 K r (l + 2) h.0.2 le stable at1)
        (on K K K (zero_code Eq (is_wide (held p types test)) r l) _ (still K r stable _ (zero_quiet code limit tasks at_label base r K Eq (is_wide (held p types test)) r l (omega arith) e0))
        (on K K K (E x r lx) (Jump (l + 1) ∷ Label l ∷ (E y r ly ++ Label (l + 1) ∷ [])) (expr_leads x ty K r lx h.1 le stable ax)
        (on K K K (Jump (l + 1) ∷ Label l ∷ []) (E y r ly ++ Label (l + 1) ∷ []) (still K r stable _ (record { each = (e1, (e0, tt)) })) last)))
    expr_leads (plain.assign place e at) ty K r l h le stable a =
        let M : (ℕ → ℕ) → Type 0 = At K place r in
        let fp : ℕ → (ℕ → ℕ) → Type 0 = (λ k values. FP place K r l k values) in
        let fe : ℕ → (ℕ → ℕ) → Type 0 = (λ k values. FE e M (r + 2) (l + place_labels place) k values) in
        let ap1 : Are fp l (place_labels place) = first fp fe l (l + place_labels place) (place_labels place) (place_labels place + labels e) a (omega arith) (omega arith) in
        let ae : Are fe (l + place_labels place) (labels e) = second fp fe l (l + place_labels place) (place_labels place) (place_labels place + labels e) (labels e) a (omega arith) (omega arith) in
        on K M K (P place r l) _ (place_leads place K r l h.2 le stable ap1)
        (on M M K (E e (r + 2) (l + place_labels place)) _ (expr_leads e ty M (r + 2) (l + place_labels place) h.3 (omega (arith, le)) (stable_with K place r le stable) ae)
        (on M K K (put_code (kind place) (number_of (ty_of place)) (r + 2) r) _
        (put_any (kind place) (ty_of place) (subst IsScalar h.0 h.1) (kind_below place h.2) M K r stable (λ values k. k.0) (r + 2) r (omega arith) (λ values k. k.1))
        (still K r stable _ (move_quiet code limit tasks at_label base r K (is_wide (number_of (ty_of place))) r (r + 2) (omega arith)))))
    expr_leads (plain.update place op t e gives_old at) ty K r l h le stable a =
        let of : IntType = number_of (ty_of place) in
        let c : IntType = held p types e in
        let scalar : IsScalar (ty_of place) = updated_scalar op t (ty_of place) (subst (IsUpdated op t) h.0 h.1) in
        let operand = second_some op t (Has p types e) h.3 in
        let M : (ℕ → ℕ) → Type 0 = At K place r in
        let steady : Stable (r + 2) M = stable_with K place r le stable in
        let m0 : ℕ → (ℕ → ℕ) → Type 0 = (λ k values. M values) in
        let fp : ℕ → (ℕ → ℕ) → Type 0 = (λ k values. FP place K r (l + 5) k values) in
        let fe : ℕ → (ℕ → ℕ) → Type 0 = (λ k values. FE e M (r + 4) (l + 5 + place_labels place) k values) in
        let fr : ℕ → (ℕ → ℕ) → Type 0 = (λ k values. Pick (nat_lt k (l + 5 + place_labels place)) (fp k values) (fe k values)) in
        let own : Are m0 l 5 = first m0 fr l (l + 5) 5 (5 + place_labels place + labels e) a (omega arith) (omega arith) in
        let rest : Are fr (l + 5) (place_labels place + labels e) = second m0 fr l (l + 5) 5 (5 + place_labels place + labels e) (place_labels place + labels e) a (omega arith) (omega arith) in
        let ap1 : Are fp (l + 5) (place_labels place) = first fp fe (l + 5) (l + 5 + place_labels place) (place_labels place) (place_labels place + labels e) rest (omega arith) (omega arith) in
        let ae : Are fe (l + 5 + place_labels place) (labels e) = second fp fe (l + 5) (l + 5 + place_labels place) (place_labels place) (place_labels place + labels e) (labels e) rest (omega arith) (omega arith) in
        let keep : (c : List Mid) → IsQuiet code limit tasks at_label base (r + 2) M c → L M M c = (λ c q. still M (r + 2) steady c q) in
        on K M K (P place r (l + 5)) _ (place_leads place K r (l + 5) h.2 le stable ap1)
        (on M M K (fetch_code (kind place) of (r + 2) r) _ (fetch_any (kind place) (ty_of place) scalar M M (r + 2) steady (λ values k. k) (r + 2) r (omega arith) (λ q. omega (arith, q)) (λ values k. k.1))
        (on M M K (E e (r + 4) (l + 5 + place_labels place)) _ (expr_leads e operand.0 M (r + 4) (l + 5 + place_labels place) operand.1 (omega (arith, le)) (stable_on M (r + 2) (r + 4) (omega arith) steady) ae)
        (on M M K (move_code (is_wide of) (r + 6) (r + 2)) _ (keep _ (move_quiet code limit tasks at_label base (r + 2) M (is_wide of) (r + 6) (r + 2) (omega arith)))
        (on M M K (convert_code of t (r + 6) l) _ (keep _ (convert_quiet code limit tasks at_label base (r + 2) M of t (r + 6) l (omega arith) (own.each l (omega arith) (omega arith))))
        (on M M K (move_code (is_wide c) (r + 8) (r + 4)) _ (keep _ (move_quiet code limit tasks at_label base (r + 2) M (is_wide c) (r + 8) (r + 4) (omega arith)))
        (on M M K (binary_code op t c (r + 6) (l + 1)) _
        (keep _ (binary_quiet code limit tasks at_label base (r + 2) M op t c (r + 6) (l + 1) (omega arith)
        (own.each (l + 1) (omega arith) (omega arith)) (own.each (l + 1 + 1) (omega arith) (omega arith)) (own.each (l + 1 + 2) (omega arith) (omega arith))))
        (on M M K (convert_code t of (r + 6) (l + 4)) _ (keep _ (convert_quiet code limit tasks at_label base (r + 2) M t of (r + 6) (l + 4) (omega arith) (own.each (l + 4) (omega arith) (omega arith))))
        (on M K K (put_code (kind place) of (r + 6) r) _ (put_any (kind place) (ty_of place) scalar (kind_below place h.2) M K r stable (λ values k. k.0) (r + 6) r (omega arith) (λ values k. k.1))
        (still K r stable _ (move_quiet code limit tasks at_label base r K (is_wide of) r (if gives_old then r + 2 else r + 6) (omega arith)))))))))))
    expr_leads (plain.call g arguments at) ty K r l h le stable a =
        let with = called_with (slice_get p.bodies g) (AllHave p types arguments) ty h in
        let of : Ty = result_of (slice_get p.bodies g) in
        on K K K (args_code p types checks spots arguments r l) _ (args_lead arguments with.0 K r l with.1 le stable a)
        (still K r stable _ (record { each = (tt, (free_taken code limit tasks at_label base r K (is_void of) (is_wide (number_of of)) r (omega arith), (tt, tt))) }))
    expr_leads (plain.post n) ty K r l h le stable a =
        still K r stable _ (both_quiet code limit tasks at_label base r K (Post n r ∷ []) (fit_code U8 r) (record { each = ((h.1, (λ lt. omega (arith, lt))), tt) }) (fit_quiet code limit tasks at_label base r K U8 r (omega arith)))
    expr_leads (plain.port_in port) ty K r l h le stable a = still K r stable _ (record { each = ((λ lt. omega (arith, lt)), tt) })
    expr_leads (plain.port_out port e) ty K r l h le stable a = on K K K (E e r l) _ (expr_leads e (plain.int U16) K r l h.2 le stable a) (still K r stable _ (record { each = (tt, tt) }))
    expr_leads (plain.comma x y) ty K r l h le stable a =
        let fx : ℕ → (ℕ → ℕ) → Type 0 = (λ k values. FE x K r l k values) in
        let fy : ℕ → (ℕ → ℕ) → Type 0 = (λ k values. FE y K r (l + labels x) k values) in
        let ax : Are fx l (labels x) = first fx fy l (l + labels x) (labels x) (labels x + labels y) a (omega arith) (omega arith) in
        let ay : Are fy (l + labels x) (labels y) = second fx fy l (l + labels x) (labels x) (labels x + labels y) (labels y) a (omega arith) (omega arith) in
        on K K K (E x r l) _ (expr_leads x h.0.0 K r l h.0.1 le stable ax) (expr_leads y ty K r (l + labels x) h.1 le stable ay)

    args_lead : (es : Exprs) (ts : List Ty) (K : (ℕ → ℕ) → Type 0) (r l : ℕ) → AllHave p types es ts → base ≤ r → Stable r K → Are (λ k values. FA es K r l k values) l (all_labels es) → L K K (args_code p types checks spots es r l)
    args_lead no_exprs ts K r l h le stable a = no_code code limit tasks at_label K K (λ values k. k)
    args_lead (more_exprs e rest) [] K r l h le stable a = absurd h
    args_lead (more_exprs e rest) (t ∷ ts) K r l h le stable a =
        let fe : ℕ → (ℕ → ℕ) → Type 0 = (λ k values. FE e K r l k values) in
        let fr : ℕ → (ℕ → ℕ) → Type 0 = (λ k values. FA rest K (r + 2) (l + labels e) k values) in
        let ae : Are fe l (labels e) = first fe fr l (l + labels e) (labels e) (labels e + all_labels rest) a (omega arith) (omega arith) in
        let ar : Are fr (l + labels e) (all_labels rest) = second fe fr l (l + labels e) (labels e) (labels e + all_labels rest) (all_labels rest) a (omega arith) (omega arith) in
        on K K K (E e r l) _ (expr_leads e t K r l h.0 le stable ae) (args_lead rest ts K (r + 2) (l + labels e) h.1 (omega (arith, le)) (stable_on K r (r + 2) (omega arith) stable) ar)
