-- The code that finds a place, piece by piece.
use Rattle.std.proofs.Common.{◌≡◌, ℕ, zero, suc, map, ◌+◌, ◌*◌, ◌%◌, ◌<◌, ◌≤◌, Bool, true, false, List, [], ◌∷◌, ◌++◌, length, Option, Some, None, refl, sym, ap, ◌∙◌, subst, arith}
use Rattle.std.specs.Prelude.{ℤ, pos, negsuc, unsigned_abs, slice_get, slice_index_or, if◌then◌else◌}
use Rattle.std.proofs.lemmas.Int.{ints}
use Rattle.std.proofs.lemmas.Bool.{ltb-true}
use Rattle.std.proofs.lemmas.Nat.{mul-mod_first}
use Rattle.nm_base.specs.declared.int_type.IntType.{IntType}
use Rattle.nm_base.specs.declared.int_type.IntType.TheVariants.{U16}
use Rattle.nm_base.specs.IntType.{wrapped}
use Rattle.nm_base.specs.Behaviour.{Behaviour, Faults}
use Rattle.nesc_core.specs.Plain.{Ty, void, int, pointer, array, struct, Field, Object, Program}
use Rattle.nesc_core.specs.Size.{AreSized, layout_of}
use Rattle.nesc_core.specs.PlaceTypes.{element_of, count_of, field_offset, field_type, fields_of}
use Rattle.nesc_core.specs.Typing.{IsArray, IsScalar}
use Rattle.nesc_core.specs.Parts as core
use Rattle.nesc_core.specs.WellFormed.{LieFrom}
use Rattle.core_meaning.specs.Layout.{size_of, object_address}
use Rattle.core_meaning.specs.Work.{Locals, address_of, fault, give, moved}
use Rattle.core_meaning.specs.Act.{element}
use Rattle.core_meaning.specs.declared.access.Where.{Where}
use Rattle.core_meaning.specs.declared.access.Where.TheVariants.{At, Within}
use Rattle.mid_code.specs.declared.instr.Op.TheVariants.{Add}
use Rattle.mid_code.specs.declared.instr.Mid.{Mid}
use Rattle.mid_code.specs.declared.instr.Mid.TheVariants.{Set, Bin, Help}
use Rattle.mid_code.specs.declared.code.MidCode.{MidCode}
use Rattle.mid_code.specs.Machine.{Activation, fn_of, help_to, put}
use Rattle.mid_code.specs.Words.{operate}
use Rattle.mid_code.specs.Help.{first_check, helped, is_wide}
use Rattle.mid_code.specs.Runs.{IsLabelled, Runs, Stands}
use Rattle.mid_code.proofs.Runs.{goes, stops}
use Rattle.mid_code.proofs.Stands.{does, at_end, split}
use Rattle.mid_code.proofs.Written.{put_same, put_other}
use Rattle.lower_expr.specs.declared.spot.Spot.{Spot}
use Rattle.lower_expr.specs.declared.spot.Spot.TheVariants.{Values, Frame}
use Rattle.lower_expr.specs.Held.{IsHeld, low}
use Rattle.lower_expr.specs.Runs.{Keeps}
use Rattle.lower_expr.specs.Locals.{Holds, LieApart, LocalIsHeld}
use Rattle.lower_expr.specs.Pieces.{bound_code, element_code, index_bound, scaled_code}
use Rattle.lower_expr.specs.Code.{Kind, InValues, InFrame, InMemory, address_code, check_for, check_of, kind_of_spot, local_code}
use Rattle.lower_expr.proofs.Values.{keeps_put, keeps_on, keeps_refl, holds_put}
use Rattle.lower_expr.proofs.Numbers.{low_small, low_word, range_of, word_number}
use Rattle.lower_expr.proofs.Checks.{check_given}
use Rattle.lower_expr.proofs.Elements.{bound_runs, element_is, in_bounds, scaled_runs}
use Rattle.lower_expr.proofs.Found.{IsFound}
use Rattle.lower_expr.proofs.Sizes.{element_inside, field_inside}
use Rattle.lower_expr.proofs.Wide.{bin_runs}
use Rattle.lower_expr.proofs.Pieces.{Next, at_here, narrow_at, set_runs}

-- ---- objects lie where a word can name them

lie_end : (structs : List (List Field)) (end : ℕ) (os : List Object) → LieFrom structs end os → end ≤ 65535
lie_end structs end [] h = h
lie_end structs end (o ∷ os) h =
    let later = lie_end structs (o.addr + (layout_of structs o.ty).size) os h.2 in
    let from = h.0 in
    omega (arith, later, from)

pub object_word : (structs : List (List Field)) (end : ℕ) (os : List Object) (k : ℕ) → LieFrom structs end os → object_address (slice_get os k) < 65536
object_word structs end [] k h = omega arith
object_word structs end (o ∷ os) zero h = let later = lie_end structs (o.addr + (layout_of structs o.ty).size) os h.2 in omega (arith, later)
object_word structs end (o ∷ os) (suc k) h = object_word structs (o.addr + (layout_of structs o.ty).size) os k h.2

-- ---- only numbers and pointers are in values

no_scalar_array : (ty : Ty) → IsScalar ty → IsArray ty → ⊥
no_scalar_array void scalar h = absurd scalar
no_scalar_array (int t) scalar h = absurd h
no_scalar_array (pointer t) scalar h = absurd h
no_scalar_array (array t n) scalar h = absurd scalar
no_scalar_array (struct k) scalar h = absurd scalar

no_scalar_field : (structs : List (List Field)) (ty : Ty) (k : ℕ) → IsScalar ty → k < length (fields_of structs ty) → ⊥
no_scalar_field structs void k scalar h = absurd scalar
no_scalar_field structs (int t) k scalar h = omega arith
no_scalar_field structs (pointer t) k scalar h = omega arith
no_scalar_field structs (array t n) k scalar h = absurd scalar
no_scalar_field structs (struct i) k scalar h = absurd scalar

-- ---- an index in its bounds is a word

index_word : (i : ℤ) (count : ℕ) → in_bounds i count ≡ true → (unsigned_abs i < count) × (low i ≡ unsigned_abs i % 65536)
index_word (pos a) count e = (ltb-true a count e, refl)
index_word (negsuc a) count e = absurd (cc)

-- a number of 16 bits without a sign is its word
pub address_word : (a : ℤ) → wrapped U16 a ≡ a → (low a ≡ unsigned_abs a) × (unsigned_abs a < 65536)
address_word (pos a) e = let h = (range_of U16 (pos a) e).1 in let few : a ≤ 65535 = omega (arith, ints, h) in (omega (arith, few), omega (arith, few))
address_word (negsuc a) e = let h = (range_of U16 (negsuc a) e).0 in absurd (omega (arith, ints, h))

module _ (codes : MidCode) (f : ℕ) (rest : List Activation) (labels : IsLabelled (fn_of codes f).code) (n : ℕ)
    (p : Program) (types : List Ty) (spots : List Spot) (base : ℕ) where
  abbrev code : List Mid
  code = (fn_of codes f).code

  abbrev here : ℕ → (ℕ → ℕ) → (ℕ → ℕ) → List Activation
  here pc values frame = at_here codes f rest labels n p types spots base pc values frame

  abbrev room : ℕ
  room = (fn_of codes f).frame

  -- what stands behind the code of a place
  pub record AfterPlace (kind : Kind) (ty : Ty) (r : ℕ) (old : ℕ → ℕ) (w : Where) (env : Locals) (values frame : ℕ → ℕ) : Type 0 where
    pub holds : Holds p types spots base env values frame
    pub keeps : Keeps base r old values
    pub found : IsFound p types spots kind ty w values r

  abbrev pub NextPlace : Kind → Ty → (r end : ℕ) → (ℕ → ℕ) → (Where → Locals → Behaviour) → Type 0
  NextPlace kind ty r end old after = (w : Where) (env : Locals) (values frame : ℕ → ℕ) → AfterPlace kind ty r old w env values frame → Runs codes n (after w env) (here end values frame)

  -- ---- objects and locals

  pub object_runs : (a : ℕ) (ty : Ty) (r pc end : ℕ) (after : Where → Locals → Behaviour) (env : Locals) (values frame : ℕ → ℕ) →
      base ≤ r → a < 65536 → Stands code pc (Set r a ∷ []) end → Holds p types spots base env values frame → NextPlace InMemory ty r end values after →
      Runs codes n (after (At a) env) (here pc values frame)
  object_runs a ty r pc end after env values frame le word s h next =
      set_runs codes f rest labels n p types spots base (after (At a) env) r a pc values frame s.0
      (at_end codes f rest n (after (At a) env) (pc + 1) end (put values r a) frame s.1
      (next (At a) env (put values r a) frame (record {
        holds = holds_put base p types spots env values frame r a le h;
        keeps = keeps_put base r r a values values (omega arith) (keeps_refl base r values);
        found = record { at = put_same values r a; word = word };
      })))

  pub local_runs : (o : Option Spot) (x r pc end : ℕ) (after : Where → Locals → Behaviour) (env : Locals) (values frame : ℕ → ℕ) →
      base ≤ r → slice_get spots x ≡ o → x < length types → Stands code pc (local_code o r) end → Holds p types spots base env values frame →
      NextPlace (kind_of_spot o) (slice_index_or types x void) r end values after → Runs codes n (after (Within x 0) env) (here pc values frame)
  local_runs None x r pc end after env values frame le is lt s h next =
      absurd (subst (λ u. LocalIsHeld base u (slice_index_or types x void) (size_of p (slice_index_or types x void)) (slice_index_or env x []) values frame) is (h.at x lt))
  local_runs (Some (Values regs)) x r pc end after env values frame le is lt s h next =
      at_end codes f rest n (after (Within x 0) env) pc end values frame s
      (next (Within x 0) env values frame (record { holds = h; keeps = keeps_refl base r values; found = record { spot = is; below = lt; first = refl; type = refl } }))
  local_runs (Some (Frame o)) x r pc end after env values frame le is lt s h next =
      set_runs codes f rest labels n p types spots base (after (Within x 0) env) r o pc values frame s.0
      (at_end codes f rest n (after (Within x 0) env) (pc + 1) end (put values r o) frame s.1
      (next (Within x 0) env (put values r o) frame (record {
        holds = holds_put base p types spots env values frame r o le h;
        keeps = keeps_put base r r o values values (omega arith) (keeps_refl base r values);
        found = record { from = o; spot = is; below = lt; inside = omega arith; at = put_same values r o ∙ (let q : o ≡ o + 0 = omega arith in q) };
      })))

  -- ---- parts

  -- a part begins k bytes behind its whole
  moved_found : (kind : Kind) (ty part : Ty) (w : Where) (k r : ℕ) (values new : ℕ → ℕ) → LieApart p types spots room → (IsScalar ty → ⊥) → k + size_of p part ≤ size_of p ty →
      new r ≡ (values r + k) % 65536 → IsFound p types spots kind ty w values r → IsFound p types spots kind part (moved w k) new r
  moved_found InMemory ty part (At a) k r values new lie parted inside is found =
      let place = found.at in
      record { at = is ∙ ap (λ u. (u + k) % 65536) place; word = omega arith }
  moved_found InMemory ty part (Within x o) k r values new lie parted inside is found = absurd found
  moved_found InFrame ty part (At a) k r values new lie parted inside is found = absurd found
  moved_found InFrame ty part (Within x o) k r values new lie parted inside is found =
      let there = found.inside in
      let place = found.at in
      let fits = lie.inside x found.from found.below found.spot in
      let few = lie.small in
      record { from = found.from; spot = found.spot; below = found.below; inside = omega (arith, there, inside); at = omega (arith, is, place, there, inside, fits, few) }
  moved_found (InValues regs) ty part (At a) k r values new lie parted inside is found = absurd found
  moved_found (InValues regs) ty part (Within x o) k r values new lie parted inside is found =
      absurd (parted (subst IsScalar found.type (lie.in_values x regs found.below found.spot)))

  pub field_runs : (kind : Kind) (ty : Ty) (k : ℕ) (w : Where) (r pc end : ℕ) (after : Where → Locals → Behaviour) (env : Locals) (first values frame : ℕ → ℕ) →
      base ≤ r → AreSized p.structs → LieApart p types spots room → k < length (fields_of p.structs ty) → IsFound p types spots kind ty w values r →
      Stands code pc (Set (r + 2) (field_offset p.structs ty k) ∷ Bin Add r r (r + 2) ∷ []) end → Holds p types spots base env values frame → Keeps base r first values →
      NextPlace kind (field_type (slice_get (fields_of p.structs ty) k)) r end first after →
      Runs codes n (after (moved w (field_offset p.structs ty k)) env) (here pc values frame)
  field_runs kind ty k w r pc end after env first values frame le sized lie lt found s h keeps next =
      let o : ℕ = field_offset p.structs ty k in
      let part : Ty = field_type (slice_get (fields_of p.structs ty) k) in
      let b : Behaviour = after (moved w o) env in
      let one : ℕ → ℕ = put values (r + 2) o in
      let x : ℕ = operate Add (one r) (one (r + 2)) in
      let two : ℕ → ℕ = put one r x in
      let is : two r ≡ (values r + o) % 65536 =
      put_same one r x ∙ ap (λ u. (u + one (r + 2)) % 65536) (put_other values (r + 2) o r (λ e. omega arith)) ∙ ap (λ u. (values r + u) % 65536) (put_same values (r + 2) o) in
      set_runs codes f rest labels n p types spots base b (r + 2) o pc values frame s.0
      (bin_runs codes f rest labels n p types spots base b Add r r (r + 2) (pc + 1) one frame s.1.0
      (at_end codes f rest n b (pc + 1 + 1) end two frame s.1.1
      (next (moved w o) env two frame (record {
        holds = holds_put base p types spots env one frame r x le (holds_put base p types spots env values frame (r + 2) o (omega arith) h);
        keeps = keeps_put base r r x first one (omega arith) (keeps_put base r (r + 2) o first values (omega arith) keeps);
        found = moved_found kind ty part w o r values two lie (λ scalar. no_scalar_field p.structs ty k scalar lt) (field_inside p sized ty k lt) is found;
      }))))

  element_by : (ok : Bool) (b inner : Behaviour) (s : List Activation) → Runs codes n (if ok then inner else Faults 1) s → b ≡ (if ok then inner else Faults 1) → Runs codes n b s
  element_by ok b inner s h e = subst (λ c. Runs codes n c s) (sym e) h

  pub element_runs : (kind : Kind) (ty : Ty) (w : Where) (t : IntType) (i : ℤ) (r l pc end : ℕ) (after : Where → Locals → Behaviour) (env : Locals) (first values frame : ℕ → ℕ) →
      base ≤ r → IsArray ty → LieApart p types spots room → IsFound p types spots kind ty w values r → IsHeld t i values (r + 2) →
      Stands code pc (element_code t (count_of ty) (size_of p (element_of ty)) r l) end → Holds p types spots base env values frame → Keeps base r first values →
      NextPlace kind (element_of ty) r end first after →
      Runs codes n (element (count_of ty) (size_of p (element_of ty)) w i after env) (here pc values frame)
  element_runs kind ty w t i r l pc end after env first values frame le is_array lie found hi s h keeps next =
      let count : ℕ = count_of ty in
      let size : ℕ = size_of p (element_of ty) in
      let k : ℕ = unsigned_abs i * size in
      let b : Behaviour = after (moved w k) env in
      let s1 = split code pc end (bound_code (is_wide t) (index_bound t count) r l) (scaled_code size (r + 2) ++ Bin Add r r (r + 2) ∷ []) s in
      let s2 = split code s1.0 end (scaled_code size (r + 2)) (Bin Add r r (r + 2) ∷ []) s1.2 in
      element_by (in_bounds i count) (element count size w i after env) b (here pc values frame)
      (bound_runs codes f rest labels n p types spots base (is_wide t) t count r l pc s1.0 i b env values frame le refl hi s1.1 h
      (λ ok one h1 k1.
      let word = index_word i count ok in
      let at_r : one r ≡ values r = k1.at r le (omega arith) in
      let at_i : one (r + 2) ≡ low i = k1.at (r + 2) (omega arith) (omega arith) ∙ hi.low_half in
      let few = low_small i in
      scaled_runs codes f rest labels n p types spots base size (r + 2) s1.0 s2.0 b env one frame (omega arith) (omega (arith, at_i, few)) s2.1 h1
      (λ two h2 k2 scaled.
      let x : ℕ = operate Add (two r) (two (r + 2)) in
      let three : ℕ → ℕ = put two r x in
      let at_two : two r ≡ values r = k2.at r le (omega arith) ∙ at_r in
      let place : two (r + 2) ≡ k % 65536 = scaled ∙ ap (λ u. (u * size) % 65536) (at_i ∙ word.1) ∙ mul-mod_first (unsigned_abs i) size 65536 in
      let sum : (values r + k % 65536) % 65536 ≡ (values r + k) % 65536 = omega arith in
      let is : three r ≡ (values r + k) % 65536 = put_same two r x ∙ ap (λ u. (u + two (r + 2)) % 65536) at_two ∙ ap (λ u. (values r + u) % 65536) place ∙ sum in
      bin_runs codes f rest labels n p types spots base b Add r r (r + 2) s2.0 two frame s2.2.0
      (at_end codes f rest n b (s2.0 + 1) end three frame s2.2.1
      (next (moved w k) env three frame (record {
        holds = holds_put base p types spots env two frame r x le h2;
        keeps = keeps_put base r r x first two (omega arith) (keeps_on base r (r + 2) first one two (omega arith) (keeps_on base r (r + 4) first values one (omega arith) keeps k1) k2);
        found = moved_found kind ty (element_of ty) w k r values three lie (λ scalar. no_scalar_array ty scalar is_array) (element_inside p ty (unsigned_abs i) is_array word.0) is found;
      }))))))
      (element_is count size w i after env)

  -- ---- what a pointer points to

  checked_by : (ok : Bool) (c : ℕ) (a : ℕ) (ty : Ty) (r pc end : ℕ) (after : Where → Locals → Behaviour) (env : Locals) (first values frame : ℕ → ℕ) →
      helped codes c (values r ∷ []) ≡ (if ok then Some [] else None) → values r ≡ a → a < 65536 →
      Stands code pc (Help c (r ∷ []) [] ∷ []) end → Holds p types spots base env values frame → Keeps base r first values → NextPlace InMemory ty r end first after →
      Runs codes n ((if ok then give (At a) else fault 2) after env) (here pc values frame)
  checked_by true c a ty r pc end after env first values frame given at_r word s h keeps next =
      goes codes n (after (At a) env) _ (here (pc + 1) values frame)
      (does codes f rest pc values frame (Help c (r ∷ []) []) s.0 ∙ ap (help_to (record { f = f; at = pc; values = values; frame = frame }) rest []) given)
      (at_end codes f rest n (after (At a) env) (pc + 1) end values frame s.1
      (next (At a) env values frame (record { holds = h; keeps = keeps; found = record { at = at_r; word = word } })))
  checked_by false c a ty r pc end after env first values frame given at_r word s h keeps next =
      stops codes n 2 (here pc values frame) (does codes f rest pc values frame (Help c (r ∷ []) []) s.0 ∙ ap (help_to (record { f = f; at = pc; values = values; frame = frame }) rest []) given)

  pub checked_runs : (checks : List Ty) (t : Ty) (a : ℤ) (r pc end : ℕ) (after : Where → Locals → Behaviour) (env : Locals) (first values frame : ℕ → ℕ) →
      base ≤ r → codes.checks ≡ map (check_for p) checks → check_of checks t < length checks → 0 < size_of p t → IsHeld U16 a values r →
      Stands code pc (Help (first_check + check_of checks t) (r ∷ []) [] ∷ []) end → Holds p types spots base env values frame → Keeps base r first values → NextPlace InMemory t r end first after →
      Runs codes n ((if core.is_part p t (unsigned_abs a) then give (At (unsigned_abs a)) else fault 2) after env) (here pc values frame)
  checked_runs checks t a r pc end after env first values frame le are lt some held s h keeps next =
      let word = address_word a held.number in
      let at_r : values r ≡ unsigned_abs a = held.low_half ∙ word.0 in
      let c : ℕ = first_check + check_of checks t in
      checked_by (core.is_part p t (unsigned_abs a)) c (unsigned_abs a) t r pc end after env first values frame
      (ap (λ u. helped codes c (u ∷ [])) at_r ∙ check_given codes p checks t (unsigned_abs a) are lt some) at_r word.1 s h keeps next

  -- ---- addresses

  none_runs : (to : Ty) (r pc end : ℕ) (after : ℤ → Locals → Behaviour) (env : Locals) (first values frame : ℕ → ℕ) →
      base ≤ r → Stands code pc (Set r 0 ∷ []) end → Holds p types spots base env values frame → Keeps base r first values →
      Next codes f rest labels n p types spots base (pointer to) r end first after → Runs codes n (after (pos 0) env) (here pc values frame)
  none_runs to r pc end after env first values frame le s h keeps next =
      set_runs codes f rest labels n p types spots base (after (pos 0) env) r 0 pc values frame s.0
      (at_end codes f rest n (after (pos 0) env) (pc + 1) end (put values r 0) frame s.1
      (next (pos 0) env (put values r 0) frame (record {
        holds = holds_put base p types spots env values frame r 0 le h;
        keeps = keeps_put base r r 0 first values (omega arith) keeps;
        is = narrow_at codes f rest labels n p types spots base U16 (pos 0) r 0 values refl refl refl;
      })))

  pub address_runs : (kind : Kind) (ty : Ty) (w : Where) (to : Ty) (r pc end : ℕ) (after : ℤ → Locals → Behaviour) (env : Locals) (first values frame : ℕ → ℕ) →
      base ≤ r → IsFound p types spots kind ty w values r → Stands code pc (address_code kind r) end → Holds p types spots base env values frame → Keeps base r first values →
      Next codes f rest labels n p types spots base (pointer to) r end first after → Runs codes n (after (pos (address_of w)) env) (here pc values frame)
  address_runs InMemory ty (At a) to r pc end after env first values frame le found s h keeps next =
      at_end codes f rest n (after (pos a) env) pc end values frame s
      (next (pos a) env values frame (record { holds = h; keeps = keeps; is = record { number = word_number a found.word; low_half = found.at ∙ low_word a found.word; high_half = tt } }))
  address_runs InMemory ty (Within x o) to r pc end after env first values frame le found s h keeps next = absurd found
  address_runs InFrame ty (At a) to r pc end after env first values frame le found s h keeps next = absurd found
  address_runs InFrame ty (Within x o) to r pc end after env first values frame le found s h keeps next = none_runs to r pc end after env first values frame le s h keeps next
  address_runs (InValues regs) ty (At a) to r pc end after env first values frame le found s h keeps next = absurd found
  address_runs (InValues regs) ty (Within x o) to r pc end after env first values frame le found s h keeps next = none_runs to r pc end after env first values frame le s h keeps next
