-- The function of the image meets all that selection relies on, and what it weighs.
use Rattle.std.proofs.Common.{◌≡◌, ◌≢◌, ◌⊎◌, ℕ, zero, suc, ◌+◌, ◌*◌, ◌/◌, ◌%◌, ◌^◌, ◌<◌, ◌≤◌, false, List, [], ◌∷◌, ◌++◌, length, Some, All, refl, sym, ap, subst, arith}
use mathlib.Core.Logic.{inl, inr}
use Rattle.std.specs.Prelude.{slice_get, slice_index_or}
use Rattle.std.proofs.lemmas.Bool.{ne_eqb}
use Rattle.msp430_cpu.specs.Cpu.{even}
use Rattle.msp_isa.specs.declared.instr.Instr.{Instr}
use Rattle.msp_isa.specs.Stands.{word_in}
use Rattle.msp_isa.specs.Encode.{encoded, IsBase, IsWritten}
use Rattle.msp_isa.specs.declared.code.Item.TheVariants as item
use Rattle.msp_isa.specs.declared.instr.Instr.TheVariants.{Two, One}
use Rattle.msp_isa.specs.declared.instr.Op1.TheVariants as op1
use Rattle.msp_isa.specs.declared.instr.Op2.TheVariants as op2
use Rattle.msp_isa.specs.declared.instr.Operand.TheVariants.{Reg, Indexed, Absolute, Increment, Immediate, Constant}
use Rattle.nm_base.specs.declared.action.Action.{Action}
use Rattle.nm_base.specs.declared.action.Action.TheVariants as action
use Rattle.open_law.specs.Homes.{Home}
use Rattle.mid_code.specs.declared.code.MidFn.{MidFn}
use Rattle.mid_code.specs.declared.instr.Mid.{Mid}
use Rattle.mid_code.specs.declared.instr.Mid.TheVariants.{Set, Out, Help, Ret, Begin, End, Tick}
use Rattle.mid_code.specs.Form.{EndsElsewhere, FitsProgram, IsMidCode, IsMidFn, NamesOwn, labels_named, times, values_read, values_written}
use Rattle.mid_code.specs.Machine.{Activation, Goes, fn_of, moved, place_of, step}
use Rattle.mid_code.specs.Reached.{AllMayGoOn, KeepsForm, innermost_instruction, opens_at, state_at}
use Rattle.msp_select.specs.AtomicRow.{code, fn, left, weight}
use Rattle.preempt_bodies.specs.Bodies.{Sizes}
use Rattle.compiled_image.specs.Compiled.{Chosen, IsRoot}
use Rattle.compiled_image.specs.AtomicImage.{image, marks, places}
use Rattle.msp_select.specs.Frames.{count_pushed, frame_home, own_bytes}
use Rattle.msp_select.specs.Select.{entry_of, parts_of}
use Rattle.msp_select.specs.Sound.{IsDeep, IsDeeper, IsOfObjects, IsSelectable, IsSelected, PartStands, PartsStand}
use Rattle.msp_select.proofs.Frames.{frames_fit}
use Rattle.msp_select.specs.Weight.{IsWeighed, size_of}

all_none : {A : Type 0} (P : A → Type 0) → All P []
all_none P k d lt = absurd (omega (arith, lt))

all_on : {A : Type 0} (P : A → Type 0) (x : A) (xs : List A) → P x → All P xs → All P (x ∷ xs)
all_on P x xs first others zero d lt = first
all_on P x xs first others (suc k) d lt = others k d (omega (arith, lt))

-- ---- the rules of form

own_names : (i : Mid) → All (λ v. v < 1) (values_written i) → All (λ v. v < 1) (values_read i) → labels_named i ≡ [] → NamesOwn fn i
own_names i w r l = record { written = w; read = r; labels = subst (λ ls. All (λ n. 1 ≤ times n fn.code) ls) (sym l) (all_none (λ n. 1 ≤ times n fn.code)) }

one_value : All (λ v. v < 1) (0 ∷ [])
one_value = all_on (λ v. v < 1) 0 [] (omega arith) (all_none (λ v. v < 1))

no_value : All (λ v. v < 1) []
no_value = all_none (λ v. v < 1)

names : (k : ℕ) (d : Mid) → k < 6 → NamesOwn fn (slice_index_or fn.code k d)
names zero d lt = own_names (Set 0 5) one_value no_value refl
names (suc zero) d lt = own_names Tick no_value no_value refl
names (suc (suc zero)) d lt = own_names (Begin 0) no_value no_value refl
names (suc (suc (suc zero))) d lt = own_names (Out 0x0120 0) no_value one_value refl
names (suc (suc (suc (suc zero)))) d lt = own_names (End 0) no_value no_value refl
names (suc (suc (suc (suc (suc zero))))) d lt = own_names (Ret []) no_value no_value refl
names (suc (suc (suc (suc (suc (suc k)))))) d lt = absurd (omega (arith, lt))

form_of_fn : IsMidFn fn
form_of_fn = record { names = names; params = all_none (λ v. v < 1); once = λ l. omega arith }

fits_one : (k : ℕ) (d : Mid) → k < 6 → FitsProgram code (λ f. 0) 0 (slice_index_or fn.code k d)
fits_one zero d lt = tt
fits_one (suc zero) d lt = tt
fits_one (suc (suc zero)) d lt = tt
fits_one (suc (suc (suc zero))) d lt = tt
fits_one (suc (suc (suc (suc zero)))) d lt = tt
fits_one (suc (suc (suc (suc (suc zero))))) d lt = refl
fits_one (suc (suc (suc (suc (suc (suc k)))))) d lt = absurd (omega (arith, lt))

fits_of : (f : ℕ) → All (FitsProgram code (λ f. 0) f) (fn_of code f).code
fits_of zero = fits_one
fits_of (suc f) = all_none (FitsProgram code (λ f. 0) (suc f))

abbrev form : IsMidCode code
form = record {
  fns = all_on IsMidFn fn [] form_of_fn (all_none IsMidFn);
  gives = λ f. 0;
  at_most_two = λ f. omega arith;
  fits = fits_of;
  ends = all_on (λ (x : MidFn). EndsElsewhere x.code) fn [] refl (all_none (λ (x : MidFn). EndsElsewhere x.code));
  room = all_on (λ (x : MidFn). length x.code < 2 ^ 32) fn [] (omega arith) (all_none (λ (x : MidFn). length x.code < 2 ^ 32));
}

-- ---- its states

module _ (answers : ℕ → ℕ) where
  ended : (n : ℕ) → state_at code 0 answers (suc (suc (suc (suc (suc (suc n)))))) ≡ []
  ended zero = refl
  ended (suc n) = ap (λ s. moved (step code s) (answers (suc (suc (suc (suc (suc (suc n)))))))) (ended n)

  may_go_on : (n : ℕ) → AllMayGoOn code (state_at code 0 answers n) (opens_at code 0 answers n)
  may_go_on zero = tt
  may_go_on (suc zero) = tt
  may_go_on (suc (suc zero)) = record { inside = omega arith; aligned = refl; apart = all_none _ }
  may_go_on (suc (suc (suc zero))) = inr (inr (refl, omega arith, omega arith))
  may_go_on (suc (suc (suc (suc zero)))) = refl
  may_go_on (suc (suc (suc (suc (suc zero))))) = refl
  may_go_on (suc (suc (suc (suc (suc (suc n)))))) = subst (λ s. AllMayGoOn code s (opens_at code 0 answers (suc (suc (suc (suc (suc (suc n)))))))) (sym (ended n)) tt

  touches : (n : ℕ) → IsOfObjects 0x1100 (state_at code 0 answers n) (innermost_instruction code (state_at code 0 answers n))
  touches zero = tt
  touches (suc zero) = tt
  touches (suc (suc zero)) = tt
  touches (suc (suc (suc zero))) = tt
  touches (suc (suc (suc (suc zero)))) = tt
  touches (suc (suc (suc (suc (suc zero))))) = tt
  touches (suc (suc (suc (suc (suc (suc n)))))) = subst (λ s. IsOfObjects 0x1100 s (innermost_instruction code s)) (sym (ended n)) tt

  few : (n : ℕ) → left (state_at code 0 answers n) ≤ 6
  few zero = omega arith
  few (suc zero) = omega arith
  few (suc (suc zero)) = omega arith
  few (suc (suc (suc zero))) = omega arith
  few (suc (suc (suc (suc zero)))) = omega arith
  few (suc (suc (suc (suc (suc zero))))) = omega arith
  few (suc (suc (suc (suc (suc (suc n)))))) = subst (λ s. left s ≤ 6) (sym (ended n)) (omega arith)

  goes_to : (x s : List Activation) → Goes x ≡ Goes s → x ≡ s
  goes_to x s e = cc

  fewer : (n : ℕ) (s : List Activation) → step code (state_at code 0 answers n) ≡ Goes s → left s < left (state_at code 0 answers n)
  fewer zero s e = subst (λ x. left x < 6) (goes_to _ s e) (omega arith)
  fewer (suc zero) s e = absurd (let z : ⊥ = cc in z)
  fewer (suc (suc zero)) s e = absurd (let z : ⊥ = cc in z)
  fewer (suc (suc (suc zero))) s e = absurd (let z : ⊥ = cc in z)
  fewer (suc (suc (suc (suc zero)))) s e = absurd (let z : ⊥ = cc in z)
  fewer (suc (suc (suc (suc (suc zero))))) s e = absurd (let z : ⊥ = cc in z)
  fewer (suc (suc (suc (suc (suc (suc n)))))) s e = absurd (none (state_at code 0 answers (suc (suc (suc (suc (suc (suc n))))))) (ended n) e)
    where
      none : (x : List Activation) → x ≡ [] → step code x ≡ Goes s → ⊥
      none [] h k = cc
      none (a ∷ rest) h k = cc

keeps : KeepsForm code
keeps = record { always = always }
  where
    always : (f : ℕ) → f < 1 → (fn_of code f).params ≡ [] → (answers : ℕ → ℕ) → ((i : ℕ) → answers i < 2 ^ 16) → (n : ℕ) → AllMayGoOn code (state_at code f answers n) (opens_at code f answers n)
    always zero lt none answers words n = may_go_on answers n
    always (suc f) lt none answers words n = absurd (omega (arith, lt))

-- ---- where it stands

pub unmarked : (pc : ℕ) → pc ≢ 0x401A → pc ≢ 0x4022 → pc ≢ 0x402A → marks pc ≡ []
unmarked pc a b c = rw (ne_eqb pc 0x401A a, ne_eqb pc 0x4022 b, ne_eqb pc 0x402A c) refl

abbrev labels : ℕ → ℕ
labels l = places 0 (place_of fn.code l)

abbrev pub entries : ℕ → ℕ
entries f = 0x4010

sp_base : IsBase 1
sp_base = (omega arith, (λ e. omega (arith, e)), λ e. omega (arith, e))

-- an instruction that is written stands from one address to the next
part : (pc end : ℕ) (silent : List Action) (i : Instr) (rest : List ℕ) → pc % 2 ≡ 0 → 0x4000 ≤ pc → pc + 6 < 0x10000 → IsWritten i → word_in image pc ∷ word_in image (pc + 2) ∷ word_in image (pc + 4) ∷ [] ≡ encoded i ++ rest → pc + 2 * length (encoded i) ≡ end → marks pc ≡ silent →
    ((a : ℕ) → pc < a → a < end → marks a ≡ []) → PartStands image marks entries labels pc (record { silent = silent; item = item.Is i }) end
part pc end silent i rest ev low high written words behind first inside = record {
  long = false;
  at = (record { even = ev; low = low; high = high; written = written; rest = rest; words = words }, behind);
  first = λ lt. first;
  inside = inside;
}

none_inside : (pc end : ℕ) → (0x401A ≤ pc) ⊎ (end ≤ 0x401A) → (0x4022 ≤ pc) ⊎ (end ≤ 0x4022) → (0x402A ≤ pc) ⊎ (end ≤ 0x402A) → (a : ℕ) → pc < a → a < end → marks a ≡ []
none_inside pc end x y z a lo hi = unmarked a (λ e. out 0x401A x e) (λ e. out 0x4022 y e) (λ e. out 0x402A z e)
  where
    out : (m : ℕ) → (m ≤ pc) ⊎ (end ≤ m) → a ≡ m → ⊥
    out m (inl l) e = omega (arith, l, lo, e)
    out m (inr r) e = omega (arith, r, hi, e)

-- MOV and ADD between SP's frame, numbers and registers
push_part : (pc : ℕ) → (pc ≡ 0x4010) ⊎ (pc ≡ 0x4012) → PartStands image marks entries labels pc (record { silent = []; item = item.Is (One op1.Push false (Constant 0)) }) (pc + 2)
push_part pc (inl e) = subst (λ q. PartStands image marks entries labels q (record { silent = []; item = item.Is (One op1.Push false (Constant 0)) }) (q + 2)) (sym e)
    (part 0x4010 0x4012 [] (One op1.Push false (Constant 0)) (0x1203 ∷ 0x40B1 ∷ []) refl (omega arith) (omega arith) (inl (inl refl), refl) refl refl refl (none_inside 0x4010 0x4012 (inr (omega arith)) (inr (omega arith)) (inr (omega arith))))
push_part pc (inr e) = subst (λ q. PartStands image marks entries labels q (record { silent = []; item = item.Is (One op1.Push false (Constant 0)) }) (q + 2)) (sym e)
    (part 0x4012 0x4014 [] (One op1.Push false (Constant 0)) (0x40B1 ∷ 5 ∷ []) refl (omega arith) (omega arith) (inl (inl refl), refl) refl refl refl (none_inside 0x4012 0x4014 (inr (omega arith)) (inr (omega arith)) (inr (omega arith))))

entry_stands : PartsStand image marks entries labels 0x4010 (entry_of 4) 0x4014
entry_stands = (0x4012, push_part 0x4010 (inl refl), (0x4014, push_part 0x4012 (inr refl), refl))

abbrev Body : ℕ → Mid → Type 0
Body k i = PartsStand image marks entries labels (places 0 k) (parts_of code (frame_home fn) 4 i) (places 0 (k + 1))

set_stands : Body 0 (Set 0 5)
set_stands = (0x401A, part 0x4014 0x401A [] (Two op2.Mov false (Immediate 5) (Indexed 1 2)) [] refl (omega arith) (omega arith) (tt, sp_base) refl refl refl (none_inside 0x4014 0x401A (inr (omega arith)) (inr (omega arith)) (inr (omega arith))), refl)

tick_stands : Body 1 Tick
tick_stands = (0x401C, part 0x401A 0x401C (action.Tick ∷ []) (Two op2.Mov false (Constant 0) (Reg 3)) (0x4281 ∷ 0 ∷ []) refl (omega arith) (omega arith) (inl (inl refl), omega arith) refl refl refl (none_inside 0x401A 0x401C (inl (omega arith)) (inr (omega arith)) (inr (omega arith))), refl)

begin_stands : Body 2 (Begin 0)
begin_stands = (
  0x4020,
  part 0x401C 0x4020 [] (Two op2.Mov false (Reg 2) (Indexed 1 0)) (0xC232 ∷ []) refl (omega arith) (omega arith) ((omega arith, λ e. omega (arith, e)), sp_base) refl refl refl (none_inside 0x401C 0x4020 (inl (omega arith)) (inr (omega arith)) (inr (omega arith))),
  (
    0x4022,
    part 0x4020 0x4022 [] (Two op2.Bic false (Constant 8) (Reg 2)) (0x4303 ∷ 0x4192 ∷ []) refl (omega arith) (omega arith) (inr (inr (inl refl)), omega arith) refl refl refl (none_inside 0x4020 0x4022 (inl (omega arith)) (inr (omega arith)) (inr (omega arith))),
    (
      0x4024,
      part 0x4022 0x4024 (action.Begin ∷ []) (Two op2.Mov false (Constant 0) (Reg 3)) (0x4192 ∷ 2 ∷ []) refl (omega arith) (omega arith) (inl (inl refl), omega arith) refl refl refl (none_inside 0x4022 0x4024 (inl (omega arith)) (inl (omega arith)) (inr (omega arith))),
      refl,
    ),
  ),
)

out_stands : Body 3 (Out 0x0120 0)
out_stands = (0x402A, part 0x4024 0x402A [] (Two op2.Mov false (Indexed 1 2) (Absolute 0x0120)) [] refl (omega arith) (omega arith) (sp_base, tt) refl refl refl (none_inside 0x4024 0x402A (inl (omega arith)) (inl (omega arith)) (inr (omega arith))), refl)

end_stands : Body 4 (End 0)
end_stands = (0x402E, part 0x402A 0x402E (action.End ∷ []) (Two op2.Mov false (Indexed 1 0) (Reg 2)) (0x5221 ∷ []) refl (omega arith) (omega arith) (sp_base, omega arith) refl refl refl (none_inside 0x402A 0x402E (inl (omega arith)) (inl (omega arith)) (inl (omega arith))), refl)

ret_stands : Body 5 (Ret [])
ret_stands = (
  0x4030,
  part 0x402E 0x4030 [] (Two op2.Add false (Constant 4) (Reg 1)) (0x4130 ∷ 0x120F ∷ []) refl (omega arith) (omega arith) (inr (inl (inr refl)), omega arith) refl refl refl (none_inside 0x402E 0x4030 (inl (omega arith)) (inl (omega arith)) (inl (omega arith))),
  (
    0x4032,
    part 0x4030 0x4032 [] (Two op2.Mov false (Increment 1) (Reg 0)) (0x120F ∷ 0x120E ∷ []) refl (omega arith) (omega arith) ((sp_base, λ e. omega (arith, e)), omega arith) refl refl refl (none_inside 0x4030 0x4032 (inl (omega arith)) (inl (omega arith)) (inl (omega arith))),
    refl,
  ),
)

some_is : {A : Type 0} (x y : A) → Some x ≡ Some y → x ≡ y
some_is x y e = cc

body_stands : (f at : ℕ) (i : Mid) → f < 1 → slice_get (fn_of code f).code at ≡ Some i → PartsStand image marks entries (λ l. places f (place_of (fn_of code f).code l)) (places f at) (parts_of code (frame_home (fn_of code f)) (own_bytes (fn_of code f)) i) (places f (at + 1))
body_stands zero zero i lt e = subst (Body 0) (some_is _ i e) set_stands
body_stands zero (suc zero) i lt e = subst (Body 1) (some_is _ i e) tick_stands
body_stands zero (suc (suc zero)) i lt e = subst (Body 2) (some_is _ i e) begin_stands
body_stands zero (suc (suc (suc zero))) i lt e = subst (Body 3) (some_is _ i e) out_stands
body_stands zero (suc (suc (suc (suc zero)))) i lt e = subst (Body 4) (some_is _ i e) end_stands
body_stands zero (suc (suc (suc (suc (suc zero))))) i lt e = subst (Body 5) (some_is _ i e) ret_stands
body_stands zero (suc (suc (suc (suc (suc (suc at)))))) i lt e = absurd (let z : ⊥ = cc in z)
body_stands (suc f) at i lt e = absurd (omega (arith, lt))

selectable : (f at : ℕ) (i : Mid) → slice_get (fn_of code f).code at ≡ Some i → IsSelectable i
selectable zero zero i e = subst IsSelectable (some_is _ i e) (omega arith)
selectable zero (suc zero) i e = subst IsSelectable (some_is _ i e) tt
selectable zero (suc (suc zero)) i e = subst IsSelectable (some_is _ i e) tt
selectable zero (suc (suc (suc zero))) i e = subst IsSelectable (some_is _ i e) tt
selectable zero (suc (suc (suc (suc zero)))) i e = subst IsSelectable (some_is _ i e) tt
selectable zero (suc (suc (suc (suc (suc zero))))) i e = subst IsSelectable (some_is _ i e) tt
selectable zero (suc (suc (suc (suc (suc (suc at)))))) i e = absurd (let z : ⊥ = cc in z)
selectable (suc f) at i e = absurd (let z : ⊥ = cc in z)

abbrev pub homes : ℕ → ℕ → Home
homes g = frame_home (fn_of code g)

abbrev pub own : ℕ → ℕ
own g = own_bytes (fn_of code g)

abbrev pub four : ℕ → ℕ
four f = 4

deeper : (f : ℕ) → f < 1 → IsDeep code homes own four f
deeper zero lt = record { least = omega arith; calls = calls }
  where
    calls : (at : ℕ) → IsDeeper code homes own four 0 (slice_get fn.code at)
    calls zero = tt
    calls (suc zero) = tt
    calls (suc (suc zero)) = tt
    calls (suc (suc (suc zero))) = tt
    calls (suc (suc (suc (suc zero)))) = tt
    calls (suc (suc (suc (suc (suc zero))))) = tt
    calls (suc (suc (suc (suc (suc (suc at)))))) = tt
deeper (suc f) lt = absurd (omega (arith, lt))

even_places : (f at : ℕ) → f < 1 → at < length (fn_of code f).code → even (places f at) ≡ places f at
even_places zero zero lf lt = refl
even_places zero (suc zero) lf lt = refl
even_places zero (suc (suc zero)) lf lt = refl
even_places zero (suc (suc (suc zero))) lf lt = refl
even_places zero (suc (suc (suc (suc zero)))) lf lt = refl
even_places zero (suc (suc (suc (suc (suc zero))))) lf lt = refl
even_places zero (suc (suc (suc (suc (suc (suc at)))))) lf lt = absurd (omega (arith, lt))
even_places (suc f) at lf lt = absurd (omega (arith, lf))

small_places : (f at : ℕ) → f < 1 → at < length (fn_of code f).code → places f at < 0x10000
small_places zero zero lf lt = omega arith
small_places zero (suc zero) lf lt = omega arith
small_places zero (suc (suc zero)) lf lt = omega arith
small_places zero (suc (suc (suc zero))) lf lt = omega arith
small_places zero (suc (suc (suc (suc zero)))) lf lt = omega arith
small_places zero (suc (suc (suc (suc (suc zero))))) lf lt = omega arith
small_places zero (suc (suc (suc (suc (suc (suc at)))))) lf lt = absurd (omega (arith, lt))
small_places (suc f) at lf lt = absurd (omega (arith, lf))

entry_standing : (f : ℕ) → f < 1 → PartsStand image marks entries (λ l. places f (place_of (fn_of code f).code l)) 0x4010 (entry_of (own f)) (places f 0)
entry_standing zero lt = entry_stands
entry_standing (suc f) lt = absurd (omega (arith, lt))

short_entry : (f : ℕ) → f < 1 → 3 * (own f / 2) + 1 < 8
short_entry zero lt = omega arith
short_entry (suc f) lt = absurd (omega (arith, lt))

short_call : (f : ℕ) → f < 1 → count_pushed (fn_of code f).params + 1 < 8
short_call zero lt = omega arith
short_call (suc f) lt = absurd (omega (arith, lt))

no_help : (f at h : ℕ) (ins outs : List ℕ) → slice_get (fn_of code f).code at ≡ Some (Help h ins outs) → ⊥
no_help zero zero h ins outs e = cc
no_help zero (suc zero) h ins outs e = cc
no_help zero (suc (suc zero)) h ins outs e = cc
no_help zero (suc (suc (suc zero))) h ins outs e = cc
no_help zero (suc (suc (suc (suc zero)))) h ins outs e = cc
no_help zero (suc (suc (suc (suc (suc zero))))) h ins outs e = cc
no_help zero (suc (suc (suc (suc (suc (suc at)))))) h ins outs e = cc
no_help (suc f) at h ins outs e = cc

abbrev is_selected : IsSelected code homes own four left 6 8 0 0 0x1100 image marks entries places
is_selected = record {
  form = form;
  keeps = keeps;
  selectable = selectable;
  framed = λ f lt. frames_fit code four f;
  depths = deeper;
  standing = record { even_entry = λ f lt. refl; small_entry = λ f lt. omega arith; even_place = even_places; small_place = small_places; entry = entry_standing; body = body_stands };
  most_help = 0;
  routines = λ f at h ins outs e. absurd (no_help f at h ins outs e);
  objects = record { always = λ answers words n. touches answers n };
  paced = record { few = λ answers words n. few answers n; fewer = λ answers words n s e. fewer answers n s e };
  is = omega arith;
  params = refl;
  given = refl;
  low_end = omega arith;
  entry = short_entry;
  call = short_call;
  help = omega arith;
  least = omega arith;
}

-- ---- and what it weighs

module _ (answers : ℕ → ℕ) where
  light : (n : ℕ) → weight (state_at code 0 answers n) ≤ 8
  light zero = omega arith
  light (suc zero) = omega arith
  light (suc (suc zero)) = omega arith
  light (suc (suc (suc zero))) = omega arith
  light (suc (suc (suc (suc zero)))) = omega arith
  light (suc (suc (suc (suc (suc zero))))) = omega arith
  light (suc (suc (suc (suc (suc (suc n)))))) = subst (λ s. weight s ≤ 8) (sym (ended answers n)) (omega arith)

  holds : (n : ℕ) → size_of code own 0 (innermost_instruction code (state_at code 0 answers n)) ≤ weight (state_at code 0 answers n)
  holds zero = omega arith
  holds (suc zero) = omega arith
  holds (suc (suc zero)) = omega arith
  holds (suc (suc (suc zero))) = omega arith
  holds (suc (suc (suc (suc zero)))) = omega arith
  holds (suc (suc (suc (suc (suc zero))))) = omega arith
  holds (suc (suc (suc (suc (suc (suc n)))))) = subst (λ s. size_of code own 0 (innermost_instruction code s) ≤ weight s) (sym (ended answers n)) (omega arith)

  falls : (n : ℕ) (s : List Activation) → step code (state_at code 0 answers n) ≡ Goes s → weight s + size_of code own 0 (innermost_instruction code (state_at code 0 answers n)) ≤ weight (state_at code 0 answers n)
  falls zero s e = subst (λ x. weight x + 1 ≤ 8) (goes_to answers _ s e) (omega arith)
  falls (suc zero) s e = absurd (let z : ⊥ = cc in z)
  falls (suc (suc zero)) s e = absurd (let z : ⊥ = cc in z)
  falls (suc (suc (suc zero))) s e = absurd (let z : ⊥ = cc in z)
  falls (suc (suc (suc (suc zero)))) s e = absurd (let z : ⊥ = cc in z)
  falls (suc (suc (suc (suc (suc zero))))) s e = absurd (let z : ⊥ = cc in z)
  falls (suc (suc (suc (suc (suc (suc n)))))) s e = absurd (none (state_at code 0 answers (suc (suc (suc (suc (suc (suc n))))))) (ended answers n) e)
    where
      none : (x : List Activation) → x ≡ [] → step code x ≡ Goes s → ⊥
      none [] h k = cc
      none (a ∷ rest) h k = cc

is_weighed : IsWeighed code own 0 0 weight 8
is_weighed = record { few = λ answers words n. light answers n; holds = λ answers words n. holds answers n; falls = λ answers words n s e. falls answers n s e }

abbrev pub chosen : Chosen
chosen = record { code = code; homes = homes; own = own; deep = four; marks = marks; entries = entries; places = places }

-- the boot body's return address and four bytes; an acceptance, 26 bytes of entry, and those of the body
abbrev pub sizes : Sizes
sizes = record { data_end = 0x1100; boot = 0x4010; boot_depth = 4; handler_depth = 30; bound = 53 }

pub root : (bound : ℕ) → 25 ≤ bound → IsRoot chosen image sizes 0 4 bound
root bound le = record {
  left = left;
  most = 6;
  long = 8;
  gives = 0;
  selected = is_selected;
  weight = weight;
  heaviest = 8;
  weighed = is_weighed;
  deep = omega arith;
  soon = omega (arith, le);
}
