-- The code that writes a place does what a store does.
use Rattle.std.proofs.Common.{◌≡◌, ℕ, ◌+◌, ◌/◌, ◌%◌, ◌<◌, ◌≤◌, Bool, true, false, List, [], ◌∷◌, refl, sym, ap, ◌∙◌, subst, arith}
use Rattle.std.specs.Prelude.{ℤ, slice_index_or, slice_set}
use Rattle.nm_base.specs.declared.int_type.IntType.{IntType}
use Rattle.nm_base.specs.declared.int_type.IntType.TheVariants.{I8, U8, I16, U16, I32, U32}
use Rattle.nm_base.specs.declared.action.Action.TheVariants as action
use Rattle.nm_base.specs.Behaviour.{Behaviour, Does}
use Rattle.nesc_core.specs.Plain.{Ty, void, int, pointer, array, struct, Program}
use Rattle.nesc_core.specs.Typing.{IsScalar}
use Rattle.core_meaning.specs.Numbers.{residue}
use Rattle.core_meaning.specs.Layout.{size_of}
use Rattle.core_meaning.specs.Work.{Locals, number_of, store}
use Rattle.core_meaning.specs.declared.access.Where.{Where}
use Rattle.core_meaning.specs.declared.access.Where.TheVariants.{At, Within}
use Rattle.mid_code.specs.declared.instr.Op.TheVariants.{Add}
use Rattle.mid_code.specs.declared.instr.Mid.{Mid}
use Rattle.mid_code.specs.declared.instr.Mid.TheVariants.{Set, Move, Bin, Store, Poke}
use Rattle.mid_code.specs.declared.code.MidCode.{MidCode}
use Rattle.mid_code.specs.Machine.{Activation, fn_of, poke_byte, poked, put}
use Rattle.mid_code.specs.Words.{operate}
use Rattle.mid_code.specs.Runs.{IsLabelled, Runs, Stands}
use Rattle.mid_code.specs.Help.{is_wide}
use Rattle.mid_code.proofs.Runs.{goes, acts_on}
use Rattle.mid_code.proofs.Stands.{does, at_end}
use Rattle.mid_code.proofs.Written.{put_same, put_other}
use Rattle.lower_expr.specs.declared.spot.Regs.{Regs}
use Rattle.lower_expr.specs.declared.spot.Spot.{Spot}
use Rattle.lower_expr.specs.Held.{IsHeld, high, low}
use Rattle.lower_expr.specs.Runs.{Keeps}
use Rattle.lower_expr.specs.Locals.{Holds, LieApart}
use Rattle.lower_expr.specs.Code.{Kind, InValues, InFrame, InMemory, keep_code, poke_code, put_code, store_code}
use Rattle.lower_expr.specs.Pieces.{move_code}
use Rattle.lower_expr.proofs.Values.{keeps_put, holds_put}
use Rattle.lower_expr.proofs.Numbers.{Is32Bits, byte_of_low, low_of_rest, low_small, rest_small}
use Rattle.lower_expr.proofs.Wide.{bin_runs, high_of, wide_at, wide_is}
use Rattle.lower_expr.proofs.Kept.{Written, byte_small, local_kept_runs}
use Rattle.lower_expr.proofs.Frames.{byte_poked, word_poked}
use Rattle.lower_expr.proofs.Found.{IsFound, IsInside, IsWhole, regs_held}
use Rattle.lower_expr.proofs.Pieces.{at_here, narrow_at, set_runs}

module _ (codes : MidCode) (f : ℕ) (rest : List Activation) (labels : IsLabelled (fn_of codes f).code) (n : ℕ)
    (p : Program) (types : List Ty) (spots : List Spot) (base : ℕ) where
  abbrev code : List Mid
  code = (fn_of codes f).code

  abbrev here : ℕ → (ℕ → ℕ) → (ℕ → ℕ) → List Activation
  here pc values frame = at_here codes f rest labels n p types spots base pc values frame

  abbrev Onward : (r mid : ℕ) → (first old : ℕ → ℕ) → (Locals → Behaviour) → Type 0
  Onward r mid first old b = Written codes f rest labels n p types spots base r mid first old b

  -- ---- to memory

  word_stored : (a m v r pc mid : ℕ) (b : Locals → Behaviour) (env : Locals) (first values frame : ℕ → ℕ) →
      values r ≡ a → values v ≡ m → Stands code pc (Store true v r ∷ []) mid →
      Holds p types spots base env values frame → Keeps base r first values → Onward r mid first values b →
      Runs codes n (Does (action.Store a true m) (b env)) (here pc values frame)
  word_stored a m v r pc mid b env first values frame at_r at_v s h k go =
      subst (λ u. Runs codes n (Does (action.Store u true m) (b env)) (here pc values frame)) at_r
      (subst (λ z. Runs codes n (Does (action.Store (values r) true z) (b env)) (here pc values frame)) at_v
      (acts_on codes n (action.Store (values r) true (values v)) (b env) _ (here (pc + 1) values frame) (does codes f rest pc values frame (Store true v r) s.0)
      (at_end codes f rest n (b env) (pc + 1) mid values frame s.1 (go env values frame h k (λ i far. refl)))))

  byte_stored : (a m v r pc mid : ℕ) (b : Locals → Behaviour) (env : Locals) (first values frame : ℕ → ℕ) →
      values r ≡ a → values v % 256 ≡ m → Stands code pc (Store false v r ∷ []) mid →
      Holds p types spots base env values frame → Keeps base r first values → Onward r mid first values b →
      Runs codes n (Does (action.Store a false m) (b env)) (here pc values frame)
  byte_stored a m v r pc mid b env first values frame at_r at_v s h k go =
      subst (λ u. Runs codes n (Does (action.Store u false m) (b env)) (here pc values frame)) at_r
      (subst (λ z. Runs codes n (Does (action.Store (values r) false z) (b env)) (here pc values frame)) at_v
      (acts_on codes n (action.Store (values r) false (values v % 256)) (b env) _ (here (pc + 1) values frame) (does codes f rest pc values frame (Store false v r) s.0)
      (at_end codes f rest n (b env) (pc + 1) mid values frame s.1 (go env values frame h k (λ i far. refl)))))

  -- the place of the high half comes to r + 1
  long_stored : (t : IntType) (a : ℕ) (z : ℤ) (v r pc mid : ℕ) (b : Locals → Behaviour) (env : Locals) (first values frame : ℕ → ℕ) →
      Is32Bits t → base ≤ r → r + 2 ≤ v → values r ≡ a → IsHeld t z values v →
      Stands code pc (Store true v r ∷ Set (r + 1) 2 ∷ Bin Add (r + 1) r (r + 1) ∷ Store true (v + 1) (r + 1) ∷ []) mid →
      Holds p types spots base env values frame → Keeps base r first values → Onward r mid first values b →
      Runs codes n (Does (action.Store a true (residue 32 z % 65536)) (Does (action.Store ((a + 2) % 65536) true (residue 32 z / 65536)) (b env))) (here pc values frame)
  long_stored t a z v r pc mid b env first values frame ok le behind at_r held s h k go =
      let low_v : values v ≡ residue 32 z % 65536 = held.low_half ∙ low_of_rest z in
      let last : Behaviour = Does (action.Store ((a + 2) % 65536) true (residue 32 z / 65536)) (b env) in
      let one : ℕ → ℕ = put values (r + 1) 2 in
      let second : ℕ = operate Add (one r) (one (r + 1)) in
      let two : ℕ → ℕ = put one (r + 1) second in
      let at_one : one r ≡ a = put_other values (r + 1) 2 r (λ e. omega arith) ∙ at_r in
      let second_is : two (r + 1) ≡ (a + 2) % 65536 = put_same one (r + 1) second ∙ ap (λ u. operate Add u (one (r + 1))) at_one ∙ ap (operate Add a) (put_same values (r + 1) 2) in
      let far : (i : ℕ) → r + 2 ≤ i → two i ≡ values i = λ i from. put_other one (r + 1) second i (λ e. omega (arith, from, e)) ∙ put_other values (r + 1) 2 i (λ e. omega (arith, from, e)) in
      let high_v : two (v + 1) ≡ residue 32 z / 65536 = far (v + 1) (omega (arith, behind)) ∙ high_of t z values v ok held in
      subst (λ u. Runs codes n (Does (action.Store u true (residue 32 z % 65536)) last) (here pc values frame)) at_r
      (subst (λ m. Runs codes n (Does (action.Store (values r) true m) last) (here pc values frame)) low_v
      (acts_on codes n (action.Store (values r) true (values v)) last _ (here (pc + 1) values frame) (does codes f rest pc values frame (Store true v r) s.0)
      (set_runs codes f rest labels n p types spots base last (r + 1) 2 (pc + 1) values frame s.1.0
      (bin_runs codes f rest labels n p types spots base last Add (r + 1) r (r + 1) (pc + 1 + 1) one frame s.1.1.0
      (subst (λ u. Runs codes n (Does (action.Store u true (residue 32 z / 65536)) (b env)) (here (pc + 1 + 1 + 1) two frame)) second_is
      (subst (λ m. Runs codes n (Does (action.Store (two (r + 1)) true m) (b env)) (here (pc + 1 + 1 + 1) two frame)) high_v
      (acts_on codes n (action.Store (two (r + 1)) true (two (v + 1))) (b env) _ (here (pc + 1 + 1 + 1 + 1) two frame) (does codes f rest (pc + 1 + 1 + 1) two frame (Store true (v + 1) (r + 1)) s.1.1.1.0)
      (at_end codes f rest n (b env) (pc + 1 + 1 + 1 + 1) mid two frame s.1.1.1.1
      (go env two frame
      (holds_put base p types spots env one frame (r + 1) second (omega arith) (holds_put base p types spots env values frame (r + 1) 2 (omega arith) h))
      (keeps_put base r (r + 1) second first one (omega arith) (keeps_put base r (r + 1) 2 first values (omega arith) k)) far)))))))))

  stored_runs : (ty : Ty) (a : ℕ) (z : ℤ) (v r pc mid : ℕ) (b : Locals → Behaviour) (env : Locals) (first values frame : ℕ → ℕ) →
      IsScalar ty → base ≤ r → r + 2 ≤ v → values r ≡ a → IsHeld (number_of ty) z values v → Stands code pc (store_code (number_of ty) v r) mid →
      Holds p types spots base env values frame → Keeps base r first values → Onward r mid first values b →
      Runs codes n (store ty (At a) z (λ _. b) env) (here pc values frame)
  stored_runs (int I8) a z v r pc mid b env first values frame ok le behind at_r held s h k go = byte_stored a (residue 8 z) v r pc mid b env first values frame at_r (ap (λ m. m % 256) held.low_half ∙ byte_of_low z) s h k go
  stored_runs (int U8) a z v r pc mid b env first values frame ok le behind at_r held s h k go = byte_stored a (residue 8 z) v r pc mid b env first values frame at_r (ap (λ m. m % 256) held.low_half ∙ byte_of_low z) s h k go
  stored_runs (int I16) a z v r pc mid b env first values frame ok le behind at_r held s h k go = word_stored a (residue 16 z) v r pc mid b env first values frame at_r held.low_half s h k go
  stored_runs (int U16) a z v r pc mid b env first values frame ok le behind at_r held s h k go = word_stored a (residue 16 z) v r pc mid b env first values frame at_r held.low_half s h k go
  stored_runs (pointer t) a z v r pc mid b env first values frame ok le behind at_r held s h k go = word_stored a (residue 16 z) v r pc mid b env first values frame at_r held.low_half s h k go
  stored_runs (int I32) a z v r pc mid b env first values frame ok le behind at_r held s h k go = long_stored I32 a z v r pc mid b env first values frame tt le behind at_r held s h k go
  stored_runs (int U32) a z v r pc mid b env first values frame ok le behind at_r held s h k go = long_stored U32 a z v r pc mid b env first values frame tt le behind at_r held s h k go
  stored_runs void a z v r pc mid b env first values frame ok le behind at_r held s h k go = absurd ok
  stored_runs (array t m) a z v r pc mid b env first values frame ok le behind at_r held s h k go = absurd ok
  stored_runs (struct j) a z v r pc mid b env first values frame ok le behind at_r held s h k go = absurd ok

  -- ---- to the frame

  abbrev room : ℕ
  room = (fn_of codes f).frame

  byte_to_frame : (x o : ℕ) (t : IntType) (z : ℤ) (v r pc mid : ℕ) (b : Locals → Behaviour) (env : Locals) (first values frame : ℕ → ℕ) →
      LieApart p types spots room → size_of p (int t) ≡ 1 → IsInside p types spots x o (int t) values r → values v ≡ low z → Stands code pc (Poke false v r ∷ []) mid →
      Holds p types spots base env values frame → Keeps base r first values → Onward r mid first values b →
      Runs codes n (b (slice_set env x (slice_set (slice_index_or env x []) o (residue 8 z)))) (here pc values frame)
  byte_to_frame x o t z v r pc mid b env first values frame lie size found at_v s h k go =
      let env1 : Locals = slice_set env x (slice_set (slice_index_or env x []) o (residue 8 z)) in
      let frame1 : ℕ → ℕ = poke_byte room frame (values r) (values v % 256) in
      let is : values v % 256 ≡ residue 8 z = ap (λ m. m % 256) at_v ∙ byte_of_low z in
      let there = found.inside in
      goes codes n (b env1) _ (here (pc + 1) values frame1) (does codes f rest pc values frame (Poke false v r) s.0)
      (at_end codes f rest n (b env1) (pc + 1) mid values frame1 s.1
      (go env1 values frame1
      (subst (λ m. Holds p types spots base env1 values (poke_byte room frame (values r) m)) (sym is)
      (byte_poked p types spots base room lie x found.from o (values r) (residue 8 z) env values frame found.below found.spot (omega (arith, there, size)) found.at (byte_small z) h)) k (λ i far. refl)))

  word_to_frame : (x o : ℕ) (ty : Ty) (m : ℕ) (v r pc mid : ℕ) (b : Locals → Behaviour) (env : Locals) (first values frame : ℕ → ℕ) →
      LieApart p types spots room → size_of p ty ≡ 2 → IsInside p types spots x o ty values r → values v ≡ m → m < 65536 → Stands code pc (Poke true v r ∷ []) mid →
      Holds p types spots base env values frame → Keeps base r first values → Onward r mid first values b →
      Runs codes n (b (slice_set env x (slice_set (slice_set (slice_index_or env x []) o (m % 256)) (o + 1) (m / 256)))) (here pc values frame)
  word_to_frame x o ty m v r pc mid b env first values frame lie size found at_v small s h k go =
      let env1 : Locals = slice_set env x (slice_set (slice_set (slice_index_or env x []) o (m % 256)) (o + 1) (m / 256)) in
      let frame1 : ℕ → ℕ = poked true room frame (values r) (values v) in
      let there = found.inside in
      goes codes n (b env1) _ (here (pc + 1) values frame1) (does codes f rest pc values frame (Poke true v r) s.0)
      (at_end codes f rest n (b env1) (pc + 1) mid values frame1 s.1
      (go env1 values frame1
      (subst (λ u. Holds p types spots base env1 values (poked true room frame (values r) u)) (sym at_v)
      (word_poked p types spots base room lie x found.from o (values r) m env values frame found.below found.spot (omega (arith, there, size)) found.at small h)) k (λ i far. refl)))

  long_to_frame : (x o : ℕ) (t : IntType) (z : ℤ) (v r pc mid : ℕ) (b : Locals → Behaviour) (env : Locals) (first values frame : ℕ → ℕ) →
      Is32Bits t → LieApart p types spots room → size_of p (int t) ≡ 4 → base ≤ r → r + 2 ≤ v → IsInside p types spots x o (int t) values r → IsHeld t z values v →
      Stands code pc (Poke true v r ∷ Set (r + 1) 2 ∷ Bin Add (r + 1) r (r + 1) ∷ Poke true (v + 1) (r + 1) ∷ []) mid →
      Holds p types spots base env values frame → Keeps base r first values → Onward r mid first values b →
      (env1 : Locals) → env1 ≡ slice_set env x (slice_set (slice_set (slice_index_or env x []) o (residue 32 z % 65536 % 256)) (o + 1) (residue 32 z % 65536 / 256)) →
      Runs codes n (b (slice_set env1 x (slice_set (slice_set (slice_index_or env1 x []) (o + 2) (residue 32 z / 65536 % 256)) (o + 2 + 1) (residue 32 z / 65536 / 256)))) (here pc values frame)
  long_to_frame x o t z v r pc mid b env first values frame ok lie size le behind found held s h k go env1 env1_is =
      let lo : ℕ = residue 32 z % 65536 in
      let hi : ℕ = residue 32 z / 65536 in
      let env2 : Locals = slice_set env1 x (slice_set (slice_set (slice_index_or env1 x []) (o + 2) (hi % 256)) (o + 2 + 1) (hi / 256)) in
      let low_v : values v ≡ lo = held.low_half ∙ low_of_rest z in
      let one : ℕ → ℕ = put values (r + 1) 2 in
      let second : ℕ = operate Add (one r) (one (r + 1)) in
      let two : ℕ → ℕ = put one (r + 1) second in
      let there = found.inside in
      let place = found.at in
      let fits = lie.inside x found.from found.below found.spot in
      let few = lie.small in
      let lt = rest_small z in
      let no_wrap : (values r + 2) % 65536 ≡ values r + 2 = omega (arith, place, there, fits, few, size) in
      let second_is : two (r + 1) ≡ values r + 2 = put_same one (r + 1) second ∙ ap (λ u. operate Add u (one (r + 1))) (put_other values (r + 1) 2 r (λ e. omega arith)) ∙ ap (operate Add (values r)) (put_same values (r + 1) 2) ∙ no_wrap in
      let far : (i : ℕ) → r + 2 ≤ i → two i ≡ values i = λ i from. put_other one (r + 1) second i (λ e. omega (arith, from, e)) ∙ put_other values (r + 1) 2 i (λ e. omega (arith, from, e)) in
      let high_v : two (v + 1) ≡ hi = far (v + 1) (omega (arith, behind)) ∙ high_of t z values v ok held in
      let frame1 : ℕ → ℕ = poked true room frame (values r) (values v) in
      let frame2 : ℕ → ℕ = poked true room frame1 (two (r + 1)) (two (v + 1)) in
      let h1 : Holds p types spots base env1 values frame1 =
      subst (λ e. Holds p types spots base e values frame1) (sym env1_is)
      (subst (λ u. Holds p types spots base (slice_set env x (slice_set (slice_set (slice_index_or env x []) o (lo % 256)) (o + 1) (lo / 256))) values (poked true room frame (values r) u)) (sym low_v)
      (word_poked p types spots base room lie x found.from o (values r) lo env values frame found.below found.spot (omega (arith, there, size)) found.at (omega arith) h)) in
      let h2 : Holds p types spots base env1 two frame1 = holds_put base p types spots env1 one frame1 (r + 1) second (omega arith) (holds_put base p types spots env1 values frame1 (r + 1) 2 (omega arith) h1) in
      let h3 : Holds p types spots base env2 two frame2 =
      subst (λ u. Holds p types spots base env2 two (poked true room frame1 (two (r + 1)) u)) (sym high_v)
      (word_poked p types spots base room lie x found.from (o + 2) (two (r + 1)) hi env1 two frame1 found.below found.spot (omega (arith, there, size)) (let q : two (r + 1) ≡ found.from + (o + 2) = omega (arith, second_is, place) in q) (omega (arith, lt)) h2) in
      goes codes n (b env2) _ (here (pc + 1) values frame1) (does codes f rest pc values frame (Poke true v r) s.0)
      (set_runs codes f rest labels n p types spots base (b env2) (r + 1) 2 (pc + 1) values frame1 s.1.0
      (bin_runs codes f rest labels n p types spots base (b env2) Add (r + 1) r (r + 1) (pc + 1 + 1) one frame1 s.1.1.0
      (goes codes n (b env2) _ (here (pc + 1 + 1 + 1 + 1) two frame2) (does codes f rest (pc + 1 + 1 + 1) two frame1 (Poke true (v + 1) (r + 1)) s.1.1.1.0)
      (at_end codes f rest n (b env2) (pc + 1 + 1 + 1 + 1) mid two frame2 s.1.1.1.1
      (go env2 two frame2 h3 (keeps_put base r (r + 1) second first one (omega arith) (keeps_put base r (r + 1) 2 first values (omega arith) k)) far)))))

  poked_runs : (ty : Ty) (x o : ℕ) (z : ℤ) (v r pc mid : ℕ) (b : Locals → Behaviour) (env : Locals) (first values frame : ℕ → ℕ) →
      IsScalar ty → LieApart p types spots room → base ≤ r → r + 2 ≤ v → IsInside p types spots x o ty values r → IsHeld (number_of ty) z values v → Stands code pc (poke_code (number_of ty) v r) mid →
      Holds p types spots base env values frame → Keeps base r first values → Onward r mid first values b →
      Runs codes n (store ty (Within x o) z (λ _. b) env) (here pc values frame)
  poked_runs (int I8) x o z v r pc mid b env first values frame ok lie le behind found held s h k go = byte_to_frame x o I8 z v r pc mid b env first values frame lie refl found held.low_half s h k go
  poked_runs (int U8) x o z v r pc mid b env first values frame ok lie le behind found held s h k go = byte_to_frame x o U8 z v r pc mid b env first values frame lie refl found held.low_half s h k go
  poked_runs (int I16) x o z v r pc mid b env first values frame ok lie le behind found held s h k go = word_to_frame x o (int I16) (residue 16 z) v r pc mid b env first values frame lie refl found held.low_half (low_small z) s h k go
  poked_runs (int U16) x o z v r pc mid b env first values frame ok lie le behind found held s h k go = word_to_frame x o (int U16) (residue 16 z) v r pc mid b env first values frame lie refl found held.low_half (low_small z) s h k go
  poked_runs (pointer t) x o z v r pc mid b env first values frame ok lie le behind found held s h k go = word_to_frame x o (pointer t) (residue 16 z) v r pc mid b env first values frame lie refl found held.low_half (low_small z) s h k go
  poked_runs (int I32) x o z v r pc mid b env first values frame ok lie le behind found held s h k go = long_to_frame x o I32 z v r pc mid b env first values frame tt lie refl le behind found held s h k go _ refl
  poked_runs (int U32) x o z v r pc mid b env first values frame ok lie le behind found held s h k go = long_to_frame x o U32 z v r pc mid b env first values frame tt lie refl le behind found held s h k go _ refl
  poked_runs void x o z v r pc mid b env first values frame ok lie le behind found held s h k go = absurd ok
  poked_runs (array t m) x o z v r pc mid b env first values frame ok lie le behind found held s h k go = absurd ok
  poked_runs (struct j) x o z v r pc mid b env first values frame ok lie le behind found held s h k go = absurd ok

  -- ---- to a place that is found

  kept_runs : (ty : Ty) (regs : Regs) (x o : ℕ) (z : ℤ) (v r pc mid : ℕ) (b : Locals → Behaviour) (env : Locals) (first values frame : ℕ → ℕ) →
      IsScalar ty → base ≤ r → r + 2 ≤ v → IsWhole p types spots regs x o ty → o ≡ 0 → IsHeld (number_of ty) z values v → Stands code pc (keep_code (is_wide (number_of ty)) regs v) mid →
      Holds p types spots base env values frame → Keeps base r first values → Onward r mid first values b →
      Runs codes n (store ty (Within x o) z (λ _. b) env) (here pc values frame)
  kept_runs ty regs x o z v r pc mid b env first values frame ok le behind whole e held s h k go =
      subst (λ q. Runs codes n (store ty (Within x q) z (λ _. b) env) (here pc values frame)) (sym e)
      (local_kept_runs codes f rest labels n p types spots base ty regs x z v r pc mid b env first values frame ok whole.spot whole.type whole.below le behind
      (regs_held p types spots base env values frame h regs x o ty whole) held s h k go)

  pub written_runs : (kind : Kind) (ty : Ty) (w : Where) (z : ℤ) (v r pc mid : ℕ) (b : Locals → Behaviour) (env : Locals) (first values frame : ℕ → ℕ) →
      IsScalar ty → LieApart p types spots room → base ≤ r → r + 2 ≤ v → IsFound p types spots kind ty w values r → IsHeld (number_of ty) z values v → Stands code pc (put_code kind (number_of ty) v r) mid →
      Holds p types spots base env values frame → Keeps base r first values → Onward r mid first values b →
      Runs codes n (store ty w z (λ _. b) env) (here pc values frame)
  written_runs InMemory ty (At a) z v r pc mid b env first values frame ok lie le behind found held s h k go = stored_runs ty a z v r pc mid b env first values frame ok le behind found.at held s h k go
  written_runs InMemory ty (Within x o) z v r pc mid b env first values frame ok lie le behind found held s h k go = absurd found
  written_runs InFrame ty (At a) z v r pc mid b env first values frame ok lie le behind found held s h k go = absurd found
  written_runs InFrame ty (Within x o) z v r pc mid b env first values frame ok lie le behind found held s h k go = poked_runs ty x o z v r pc mid b env first values frame ok lie le behind found held s h k go
  written_runs (InValues regs) ty (At a) z v r pc mid b env first values frame ok lie le behind found held s h k go = absurd found
  written_runs (InValues regs) ty (Within x o) z v r pc mid b env first values frame ok lie le behind found held s h k go = kept_runs ty regs x o z v r pc mid b env first values frame ok le behind found found.first held s h k go

  -- ---- a number that is moved

  pub moved_runs : (wide : Bool) (t : IntType) (z : ℤ) (d r pc mid : ℕ) (b : Behaviour) (env : Locals) (first values frame : ℕ → ℕ) →
      is_wide t ≡ wide → base ≤ d → (r + 1 ≡ d → ⊥) → IsHeld t z values r → Stands code pc (move_code wide d r) mid →
      Holds p types spots base env values frame → Keeps base d first values →
      ((new : ℕ → ℕ) → Holds p types spots base env new frame → Keeps base d first new → IsHeld t z new d → ((i : ℕ) → d + 2 ≤ i → new i ≡ values i) → Runs codes n b (here mid new frame)) →
      Runs codes n b (here pc values frame)
  moved_runs false t z d r pc mid b env first values frame narrow le apart held s h k go =
      let x : ℕ = values r in
      goes codes n b _ (here (pc + 1) (put values d x) frame) (does codes f rest pc values frame (Move d r) s.0)
      (at_end codes f rest n b (pc + 1) mid (put values d x) frame s.1
      (go (put values d x) (holds_put base p types spots env values frame d x le h) (keeps_put base d d x first values (omega arith) k)
      (narrow_at codes f rest labels n p types spots base t z d x values narrow held.number held.low_half) (λ i far. put_other values d x i (λ e. omega (arith, far, e)))))
  moved_runs true t z d r pc mid b env first values frame wide le apart held s h k go =
      let x : ℕ = values r in
      let one : ℕ → ℕ = put values d x in
      let y : ℕ = one (r + 1) in
      let two : ℕ → ℕ = put one (d + 1) y in
      let y_is : y ≡ high z = put_other values d x (r + 1) apart ∙ high_of t z values r (wide_is t wide) held in
      goes codes n b _ (here (pc + 1) one frame) (does codes f rest pc values frame (Move d r) s.0)
      (goes codes n b _ (here (pc + 1 + 1) two frame) (does codes f rest (pc + 1) one frame (Move (d + 1) (r + 1)) s.1.0)
      (at_end codes f rest n b (pc + 1 + 1) mid two frame s.1.1
      (go two (holds_put base p types spots env one frame (d + 1) y (omega arith) (holds_put base p types spots env values frame d x le h))
      (keeps_put base d (d + 1) y first one (omega arith) (keeps_put base d d x first values (omega arith) k))
      (wide_at t z two d (wide_is t wide) held.number (put_other one (d + 1) y d (λ e. omega arith) ∙ put_same values d x ∙ held.low_half) (put_same one (d + 1) y ∙ y_is))
      (λ i far. put_other one (d + 1) y i (λ e. omega (arith, far, e)) ∙ put_other values d x i (λ e. omega (arith, far, e))))))
