-- The code that reads a place does what a load does.
use Rattle.std.proofs.Common.{◌≡◌, ℕ, ◌+◌, ◌*◌, ◌/◌, ◌%◌, ◌<◌, ◌≤◌, true, false, List, [], ◌∷◌, refl, sym, ap, ◌∙◌, subst, arith}
use Rattle.std.specs.Prelude.{ℤ, pos, slice_index, slice_index_or}
use Rattle.nm_base.specs.declared.int_type.IntType.{IntType}
use Rattle.nm_base.specs.declared.int_type.IntType.TheVariants.{I8, U8, I16, U16, I32, U32}
use Rattle.nm_base.specs.IntType.{wrapped}
use Rattle.nm_base.specs.declared.action.Action.TheVariants as action
use Rattle.nm_base.specs.Behaviour.{Behaviour, Asks}
use Rattle.nesc_core.specs.Plain.{Ty, void, int, pointer, array, struct, Program}
use Rattle.nesc_core.specs.Typing.{IsScalar}
use Rattle.core_meaning.specs.Numbers.{residue}
use Rattle.core_meaning.specs.Layout.{size_of}
use Rattle.core_meaning.specs.Work.{Locals, load, number_of}
use Rattle.core_meaning.specs.declared.access.Where.{Where}
use Rattle.core_meaning.specs.declared.access.Where.TheVariants.{At, Within}
use Rattle.mid_code.specs.declared.instr.Op.TheVariants.{Add}
use Rattle.mid_code.specs.declared.instr.Mid.{Mid}
use Rattle.mid_code.specs.declared.instr.Mid.TheVariants.{Set, Move, Bin, Load, Peek}
use Rattle.mid_code.specs.declared.code.MidCode.{MidCode}
use Rattle.mid_code.specs.Machine.{Activation, fn_of, put}
use Rattle.mid_code.specs.Words.{operate}
use Rattle.mid_code.specs.Runs.{IsLabelled, Runs, Stands}
use Rattle.mid_code.specs.Help.{is_wide}
use Rattle.mid_code.proofs.Runs.{goes, wants}
use Rattle.mid_code.proofs.Stands.{does, at_end}
use Rattle.mid_code.proofs.Written.{put_same, put_other}
use Rattle.lower_expr.specs.declared.spot.Regs.{Regs}
use Rattle.lower_expr.specs.declared.spot.Spot.{Spot}
use Rattle.lower_expr.specs.Held.{high, low}
use Rattle.lower_expr.specs.Runs.{Keeps}
use Rattle.lower_expr.specs.Locals.{Holds, LieApart, local_value, number_in}
use Rattle.lower_expr.specs.Code.{Kind, InValues, InFrame, InMemory, fetch_code, load_code, peek_code, take_code, value_named}
use Rattle.lower_expr.proofs.Values.{keeps_put, holds_put}
use Rattle.lower_expr.proofs.Numbers.{Is32Bits, high_of_halves, low_byte, low_of_halves, low_of_rest, low_word, low_wrapped, rest_of_halves, rest_wrapped, word_number, wrapped_again}
use Rattle.lower_expr.proofs.SignedBytes.{byte_again, low_of_byte, signed_byte_runs}
use Rattle.lower_expr.proofs.Wide.{bin_runs, wide_at}
use Rattle.lower_expr.proofs.Found.{IsFound, IsInside, IsWhole, as_result, byte_held, byte_small, regs_held}
use Rattle.lower_expr.proofs.Pieces.{Next, at_here, narrow_at, set_runs}

-- numbers and pointers of one word, and their values by what is read
abbrev IsWord : Ty → Type 0
IsWord (int I16) = Unit {0}
IsWord (int U16) = Unit {0}
IsWord (pointer t) = Unit {0}
IsWord _ = ⊥

abbrev word_value : Ty → ℕ → ℤ
word_value (int t) x = wrapped t (pos x)
word_value _ x = pos x

word_held : (ty : Ty) → IsWord ty → (x : ℕ) → x < 65536 → (wrapped (number_of ty) (word_value ty x) ≡ word_value ty x) × (x ≡ low (word_value ty x))
word_held (int I16) ok x lt = (wrapped_again I16 (pos x), low_word x lt ∙ sym (low_wrapped I16 tt (pos x)))
word_held (int U16) ok x lt = (wrapped_again U16 (pos x), low_word x lt ∙ sym (low_wrapped U16 tt (pos x)))
word_held (pointer t) ok x lt = (word_number x lt, low_word x lt)
word_held void ok x lt = absurd ok
word_held (int I8) ok x lt = absurd ok
word_held (int U8) ok x lt = absurd ok
word_held (int I32) ok x lt = absurd ok
word_held (int U32) ok x lt = absurd ok
word_held (array t m) ok x lt = absurd ok
word_held (struct j) ok x lt = absurd ok

module _ (codes : MidCode) (f : ℕ) (rest : List Activation) (labels : IsLabelled (fn_of codes f).code) (n : ℕ)
    (p : Program) (types : List Ty) (spots : List Spot) (base : ℕ) where
  abbrev code : List Mid
  code = (fn_of codes f).code

  abbrev here : ℕ → (ℕ → ℕ) → (ℕ → ℕ) → List Activation
  here pc values frame = at_here codes f rest labels n p types spots base pc values frame

  abbrev Behind : Ty → (r end : ℕ) → (ℕ → ℕ) → (ℤ → Locals → Behaviour) → Type 0
  Behind ty r end old after = Next codes f rest labels n p types spots base ty r end old after

  -- ---- what was read last

  short_end : (ty : Ty) (v : ℤ) (x d pc end : ℕ) (after : ℤ → Locals → Behaviour) (env : Locals) (first values frame : ℕ → ℕ) →
      IsScalar ty → is_wide (number_of ty) ≡ false → base ≤ d → wrapped (number_of ty) v ≡ v → x ≡ low v → pc ≡ end →
      Holds p types spots base env values frame → Keeps base d first values → Behind ty d end first after →
      Runs codes n (after v env) (here pc (put values d x) frame)
  short_end ty v x d pc end after env first values frame scalar narrow le number is e h k next =
      at_end codes f rest n (after v env) pc end (put values d x) frame e
      (next v env (put values d x) frame (record {
        holds = holds_put base p types spots env values frame d x le h;
        keeps = keeps_put base d d x first values (omega arith) k;
        is = as_result ty v (put values d x) d scalar (narrow_at codes f rest labels n p types spots base (number_of ty) v d x values narrow number is);
      }))

  word_end : (ty : Ty) (x d pc end : ℕ) (after : ℤ → Locals → Behaviour) (env : Locals) (first values frame : ℕ → ℕ) →
      IsWord ty → IsScalar ty → is_wide (number_of ty) ≡ false → base ≤ d → x < 65536 → pc ≡ end →
      Holds p types spots base env values frame → Keeps base d first values → Behind ty d end first after →
      Runs codes n (after (word_value ty x) env) (here pc (put values d x) frame)
  word_end ty x d pc end after env first values frame ok scalar narrow le lt e h k next =
      let held = word_held ty ok x lt in
      short_end ty (word_value ty x) x d pc end after env first values frame scalar narrow le held.0 held.1 e h k next

  -- the low half and the high half
  long_end : (t : IntType) (x y d pc end : ℕ) (after : ℤ → Locals → Behaviour) (env : Locals) (first values frame : ℕ → ℕ) →
      Is32Bits t → base ≤ d → x < 65536 → y < 65536 → pc ≡ end →
      Holds p types spots base env values frame → Keeps base d first values → Behind (int t) d end first after →
      Runs codes n (after (wrapped t (pos (x + 65536 * y))) env) (here pc (put (put values d x) (d + 1) y) frame)
  long_end t x y d pc end after env first values frame ok le ltx lty e h k next =
      let v : ℤ = wrapped t (pos (x + 65536 * y)) in
      let one : ℕ → ℕ = put values d x in
      let two : ℕ → ℕ = put one (d + 1) y in
      let rest_is : residue 32 v ≡ x + 65536 * y = rest_wrapped t ok (pos (x + 65536 * y)) ∙ rest_of_halves x y ltx lty in
      at_end codes f rest n (after v env) pc end two frame e
      (next v env two frame (record {
        holds = holds_put base p types spots env one frame (d + 1) y (omega arith) (holds_put base p types spots env values frame d x le h);
        keeps = keeps_put base d (d + 1) y first one (omega arith) (keeps_put base d d x first values (omega arith) k);
        is = wide_at t v two d ok (wrapped_again t (pos (x + 65536 * y)))
            (put_other one (d + 1) y d (λ e. omega arith) ∙ put_same values d x ∙ sym (low_of_rest v ∙ ap (λ m. m % 65536) rest_is ∙ low_of_halves x y ltx))
            (put_same one (d + 1) y ∙ sym (ap (λ m. m / 65536) rest_is ∙ high_of_halves x y ltx));
      }))

  -- ---- from memory

  word_loaded : (ty : Ty) (a d r pc end : ℕ) (after : ℤ → Locals → Behaviour) (env : Locals) (first values frame : ℕ → ℕ) →
      IsWord ty → IsScalar ty → is_wide (number_of ty) ≡ false → base ≤ d → values r ≡ a → Stands code pc (Load true d r ∷ []) end →
      Holds p types spots base env values frame → Keeps base d first values → Behind ty d end first after →
      Runs codes n (Asks (action.Load a true) (λ x. after (word_value ty x) env)) (here pc values frame)
  word_loaded ty a d r pc end after env first values frame ok scalar narrow le e s h k next =
      subst (λ u. Runs codes n (Asks (action.Load u true) (λ x. after (word_value ty x) env)) (here pc values frame)) e
      (wants codes n (action.Load (values r) true) (λ x. after (word_value ty x) env) _ (λ x. here (pc + 1) (put values d x) frame) (does codes f rest pc values frame (Load true d r) s.0)
      (λ x lt. word_end ty x d (pc + 1) end after env first values frame ok scalar narrow le lt s.1 h k next))

  long_loaded : (t : IntType) (a d r pc end : ℕ) (after : ℤ → Locals → Behaviour) (env : Locals) (first values frame : ℕ → ℕ) →
      Is32Bits t → base ≤ d → r ≤ d → values r ≡ a → Stands code pc (Set (d + 1) 2 ∷ Bin Add (d + 1) r (d + 1) ∷ Load true d r ∷ Load true (d + 1) (d + 1) ∷ []) end →
      Holds p types spots base env values frame → Keeps base d first values → Behind (int t) d end first after →
      Runs codes n (Asks (action.Load a true) (λ x. Asks (action.Load ((a + 2) % 65536) true) (λ y. after (wrapped t (pos (x + 65536 * y))) env))) (here pc values frame)
  long_loaded t a d r pc end after env first values frame ok le to e s h k next =
      let one : ℕ → ℕ = put values (d + 1) 2 in
      let second : ℕ = operate Add (one r) (one (d + 1)) in
      let two : ℕ → ℕ = put one (d + 1) second in
      let at_one : one r ≡ a = put_other values (d + 1) 2 r (λ e. omega (arith, to, e)) ∙ e in
      let at_r : two r ≡ a = put_other one (d + 1) second r (λ e. omega (arith, to, e)) ∙ at_one in
      let second_is : second ≡ (a + 2) % 65536 = ap (λ u. operate Add u (one (d + 1))) at_one ∙ ap (operate Add a) (put_same values (d + 1) 2) in
      let all : ℕ → ℕ → Behaviour = λ x y. after (wrapped t (pos (x + 65536 * y))) env in
      let behind : ℕ → Behaviour = λ x. Asks (action.Load ((a + 2) % 65536) true) (all x) in
      set_runs codes f rest labels n p types spots base (Asks (action.Load a true) behind) (d + 1) 2 pc values frame s.0
      (bin_runs codes f rest labels n p types spots base (Asks (action.Load a true) behind) Add (d + 1) r (d + 1) (pc + 1) one frame s.1.0
      (subst (λ u. Runs codes n (Asks (action.Load u true) behind) (here (pc + 1 + 1) two frame)) at_r
      (wants codes n (action.Load (two r) true) behind _ (λ x. here (pc + 1 + 1 + 1) (put two d x) frame) (does codes f rest (pc + 1 + 1) two frame (Load true d r) s.1.1.0)
      (λ x ltx.
      let three : ℕ → ℕ = put two d x in
      let at_high : three (d + 1) ≡ (a + 2) % 65536 = put_other two d x (d + 1) (λ e. omega arith) ∙ put_same one (d + 1) second ∙ second_is in
      subst (λ u. Runs codes n (Asks (action.Load u true) (all x)) (here (pc + 1 + 1 + 1) three frame)) at_high
      (wants codes n (action.Load (three (d + 1)) true) (all x) _ (λ y. here (pc + 1 + 1 + 1 + 1) (put three (d + 1) y) frame) (does codes f rest (pc + 1 + 1 + 1) three frame (Load true (d + 1) (d + 1)) s.1.1.1.0)
      (λ y lty. long_end t x y d (pc + 1 + 1 + 1 + 1) end after env first two frame ok le ltx lty s.1.1.1.1
      (holds_put base p types spots env one frame (d + 1) second (omega arith) (holds_put base p types spots env values frame (d + 1) 2 (omega arith) h))
      (keeps_put base d (d + 1) second first one (omega arith) (keeps_put base d (d + 1) 2 first values (omega arith) k)) next))))))

  loaded_runs : (ty : Ty) (a d r pc end : ℕ) (after : ℤ → Locals → Behaviour) (env : Locals) (first values frame : ℕ → ℕ) →
      IsScalar ty → base ≤ d → r ≤ d → values r ≡ a → Stands code pc (load_code (number_of ty) d r) end →
      Holds p types spots base env values frame → Keeps base d first values → Behind ty d end first after →
      Runs codes n (load ty (At a) after env) (here pc values frame)
  loaded_runs (int I8) a d r pc end after env first values frame ok le to e s h k next =
      subst (λ u. Runs codes n (load (int I8) (At u) after env) (here pc values frame)) e
      (wants codes n (action.Load (values r) false) (λ x. after (wrapped I8 (pos x)) env) _ (λ x. here (pc + 1) (put values d (x % 256)) frame) (does codes f rest pc values frame (Load false d r) s.0)
      (λ x lt. subst (λ z. Runs codes n (after z env) (here (pc + 1) (put values d (x % 256)) frame)) (byte_again x)
      (signed_byte_runs codes f rest labels n p types spots base (pos (x % 256)) d (pc + 1) end after env first (put values d (x % 256)) frame le (put_same values d (x % 256) ∙ low_of_byte x) s.1
      (holds_put base p types spots env values frame d (x % 256) le h) (keeps_put base d d (x % 256) first values (omega arith) k) next)))
  loaded_runs (int U8) a d r pc end after env first values frame ok le to e s h k next =
      subst (λ u. Runs codes n (load (int U8) (At u) after env) (here pc values frame)) e
      (wants codes n (action.Load (values r) false) (λ x. after (wrapped U8 (pos x)) env) _ (λ x. here (pc + 1) (put values d (x % 256)) frame) (does codes f rest pc values frame (Load false d r) s.0)
      (λ x lt. short_end (int U8) (wrapped U8 (pos x)) (x % 256) d (pc + 1) end after env first values frame tt refl le (wrapped_again U8 (pos x)) (low_byte x) s.1 h k next))
  loaded_runs (int I16) a d r pc end after env first values frame ok le to e s h k next = word_loaded (int I16) a d r pc end after env first values frame tt tt refl le e s h k next
  loaded_runs (int U16) a d r pc end after env first values frame ok le to e s h k next = word_loaded (int U16) a d r pc end after env first values frame tt tt refl le e s h k next
  loaded_runs (pointer t) a d r pc end after env first values frame ok le to e s h k next = word_loaded (pointer t) a d r pc end after env first values frame tt tt refl le e s h k next
  loaded_runs (int I32) a d r pc end after env first values frame ok le to e s h k next = long_loaded I32 a d r pc end after env first values frame tt le to e s h k next
  loaded_runs (int U32) a d r pc end after env first values frame ok le to e s h k next = long_loaded U32 a d r pc end after env first values frame tt le to e s h k next
  loaded_runs void a d r pc end after env first values frame ok le to e s h k next = absurd ok
  loaded_runs (array t m) a d r pc end after env first values frame ok le to e s h k next = absurd ok
  loaded_runs (struct j) a d r pc end after env first values frame ok le to e s h k next = absurd ok

  -- ---- from the frame

  abbrev bytes_of : Locals → ℕ → List ℕ
  bytes_of env x = slice_index_or env x []

  word_peeked : (ty : Ty) (x o d r pc end : ℕ) (after : ℤ → Locals → Behaviour) (env : Locals) (first values frame : ℕ → ℕ) →
      IsWord ty → IsScalar ty → is_wide (number_of ty) ≡ false → size_of p ty ≡ 2 → base ≤ d → IsInside p types spots x o ty values r → Stands code pc (Peek true d r ∷ []) end →
      Holds p types spots base env values frame → Keeps base d first values → Behind ty d end first after →
      Runs codes n (after (word_value ty (slice_index (bytes_of env x) o + 256 * slice_index (bytes_of env x) (o + 1))) env) (here pc values frame)
  word_peeked ty x o d r pc end after env first values frame ok scalar narrow size le found s h k next =
      let at0 : frame (values r) ≡ slice_index (bytes_of env x) o = ap frame (let q : values r ≡ values r + 0 = omega arith in q) ∙ byte_held p types spots base env values frame h x o ty values r found 0 (omega (arith, size)) ∙ ap (slice_index (bytes_of env x)) (let q : o + 0 ≡ o = omega arith in q) in
      let at1 : frame (values r + 1) ≡ slice_index (bytes_of env x) (o + 1) = byte_held p types spots base env values frame h x o ty values r found 1 (omega (arith, size)) in
      let few0 : slice_index (bytes_of env x) (o + 0) < 256 = byte_small p types spots base env values frame h x o ty values r found 0 (omega (arith, size)) in
      let zero_is : slice_index (bytes_of env x) (o + 0) ≡ slice_index (bytes_of env x) o = ap (slice_index (bytes_of env x)) (let q : o + 0 ≡ o = omega arith in q) in
      let few1 : slice_index (bytes_of env x) (o + 1) < 256 = byte_small p types spots base env values frame h x o ty values r found 1 (omega (arith, size)) in
      let m : ℕ = slice_index (bytes_of env x) o + 256 * slice_index (bytes_of env x) (o + 1) in
      let read : frame (values r) + 256 * frame (values r + 1) ≡ m = ap (λ u. u + 256 * frame (values r + 1)) at0 ∙ ap (λ u. slice_index (bytes_of env x) o + 256 * u) at1 in
      goes codes n (after (word_value ty m) env) _ (here (pc + 1) (put values d (frame (values r) + 256 * frame (values r + 1))) frame) (does codes f rest pc values frame (Peek true d r) s.0)
      (subst (λ u. Runs codes n (after (word_value ty m) env) (here (pc + 1) (put values d u) frame)) (sym read)
      (word_end ty m d (pc + 1) end after env first values frame ok scalar narrow le (omega (arith, few0, few1, zero_is)) s.1 h k next))

  long_peeked : (t : IntType) (x o d r pc end : ℕ) (after : ℤ → Locals → Behaviour) (env : Locals) (first values frame : ℕ → ℕ) →
      Is32Bits t → size_of p (int t) ≡ 4 → LieApart p types spots (fn_of codes f).frame → base ≤ d → r ≤ d → IsInside p types spots x o (int t) values r →
      Stands code pc (Set (d + 1) 2 ∷ Bin Add (d + 1) r (d + 1) ∷ Peek true d r ∷ Peek true (d + 1) (d + 1) ∷ []) end →
      Holds p types spots base env values frame → Keeps base d first values → Behind (int t) d end first after →
      Runs codes n (after (wrapped t (pos (slice_index (bytes_of env x) o + 256 * slice_index (bytes_of env x) (o + 1)
      + 65536 * (slice_index (bytes_of env x) (o + 2) + 256 * slice_index (bytes_of env x) (o + 2 + 1))))) env) (here pc values frame)
  long_peeked t x o d r pc end after env first values frame ok size lie le to found s h k next =
      let bs : List ℕ = bytes_of env x in
      let one : ℕ → ℕ = put values (d + 1) 2 in
      let second : ℕ = operate Add (one r) (one (d + 1)) in
      let two : ℕ → ℕ = put one (d + 1) second in
      let inside = found.inside in
      let place = found.at in
      let fits = lie.inside x found.from found.below found.spot in
      let small = lie.small in
      let at_one : one r ≡ values r = put_other values (d + 1) 2 r (λ e. omega (arith, to, e)) in
      let at_r : two r ≡ values r = put_other one (d + 1) second r (λ e. omega (arith, to, e)) ∙ at_one in
      let no_wrap : (values r + 2) % 65536 ≡ values r + 2 = omega (arith, place, inside, fits, small, size) in
      let second_is : second ≡ values r + 2 = ap (λ u. operate Add u (one (d + 1))) at_one ∙ ap (operate Add (values r)) (put_same values (d + 1) 2) ∙ no_wrap in
      let held = byte_held p types spots base env values frame h x o (int t) values r found in
      let few = byte_small p types spots base env values frame h x o (int t) values r found in
      let at0 : frame (values r) ≡ slice_index bs o = ap frame (let q : values r ≡ values r + 0 = omega arith in q) ∙ held 0 (omega (arith, size)) ∙ ap (slice_index bs) (let q : o + 0 ≡ o = omega arith in q) in
      let at1 : frame (values r + 1) ≡ slice_index bs (o + 1) = held 1 (omega (arith, size)) in
      let at2 : frame (values r + 2) ≡ slice_index bs (o + 2) = held 2 (omega (arith, size)) in
      let at3 : frame (values r + 2 + 1) ≡ slice_index bs (o + 2 + 1) = ap frame (let q : values r + 2 + 1 ≡ values r + 3 = omega arith in q) ∙ held 3 (omega (arith, size)) ∙ ap (slice_index bs) (let q : o + 3 ≡ o + 2 + 1 = omega arith in q) in
      let few0 : slice_index bs o < 256 = subst (λ i. slice_index bs i < 256) (let q : o + 0 ≡ o = omega arith in q) (few 0 (omega (arith, size))) in
      let few1 : slice_index bs (o + 1) < 256 = few 1 (omega (arith, size)) in
      let few2 : slice_index bs (o + 2) < 256 = few 2 (omega (arith, size)) in
      let few3 : slice_index bs (o + 2 + 1) < 256 = subst (λ i. slice_index bs i < 256) (let q : o + 3 ≡ o + 2 + 1 = omega arith in q) (few 3 (omega (arith, size))) in
      let l : ℕ = slice_index bs o + 256 * slice_index bs (o + 1) in
      let m : ℕ = slice_index bs (o + 2) + 256 * slice_index bs (o + 2 + 1) in
      let b : Behaviour = after (wrapped t (pos (l + 65536 * m))) env in
      let x1 : ℕ = frame (two r) + 256 * frame (two r + 1) in
      let low_read : x1 ≡ l =
      ap (λ u. frame u + 256 * frame (u + 1)) at_r ∙ ap (λ u. u + 256 * frame (values r + 1)) at0 ∙ ap (λ u. slice_index bs o + 256 * u) at1 in
      let three : ℕ → ℕ = put two d x1 in
      let at_high : three (d + 1) ≡ values r + 2 = put_other two d x1 (d + 1) (λ e. omega arith) ∙ put_same one (d + 1) second ∙ second_is in
      let y1 : ℕ = frame (three (d + 1)) + 256 * frame (three (d + 1) + 1) in
      let high_read : y1 ≡ m =
      ap (λ u. frame u + 256 * frame (u + 1)) at_high ∙ ap (λ u. u + 256 * frame (values r + 2 + 1)) at2 ∙ ap (λ u. slice_index bs (o + 2) + 256 * u) at3 in
      set_runs codes f rest labels n p types spots base b (d + 1) 2 pc values frame s.0
      (bin_runs codes f rest labels n p types spots base b Add (d + 1) r (d + 1) (pc + 1) one frame s.1.0
      (goes codes n b _ (here (pc + 1 + 1 + 1) three frame) (does codes f rest (pc + 1 + 1) two frame (Peek true d r) s.1.1.0)
      (goes codes n b _ (here (pc + 1 + 1 + 1 + 1) (put three (d + 1) y1) frame) (does codes f rest (pc + 1 + 1 + 1) three frame (Peek true (d + 1) (d + 1)) s.1.1.1.0)
      (subst (λ u. Runs codes n b (here (pc + 1 + 1 + 1 + 1) (put (put two d u) (d + 1) y1) frame)) (sym low_read)
      (subst (λ u. Runs codes n b (here (pc + 1 + 1 + 1 + 1) (put (put two d l) (d + 1) u) frame)) (sym high_read)
      (long_end t l m d (pc + 1 + 1 + 1 + 1) end after env first two frame ok le (omega (arith, few0, few1)) (omega (arith, few2, few3)) s.1.1.1.1
      (holds_put base p types spots env one frame (d + 1) second (omega arith) (holds_put base p types spots env values frame (d + 1) 2 (omega arith) h))
      (keeps_put base d (d + 1) second first one (omega arith) (keeps_put base d (d + 1) 2 first values (omega arith) k)) next))))))

  byte_peeked : (t : IntType) (x o r : ℕ) (env : Locals) (values frame : ℕ → ℕ) → size_of p (int t) ≡ 1 → IsInside p types spots x o (int t) values r → Holds p types spots base env values frame →
      (frame (values r) ≡ slice_index (bytes_of env x) o) × (slice_index (bytes_of env x) o < 256)
  byte_peeked t x o r env values frame size found h =
      let first : o + 0 ≡ o = omega arith in (
        ap frame (let q : values r ≡ values r + 0 = omega arith in q) ∙ byte_held p types spots base env values frame h x o (int t) values r found 0 (omega (arith, size)) ∙ ap (slice_index (bytes_of env x)) first,
        subst (λ i. slice_index (bytes_of env x) i < 256) first (byte_small p types spots base env values frame h x o (int t) values r found 0 (omega (arith, size))),
      )

  peeked_runs : (ty : Ty) (x o d r pc end : ℕ) (after : ℤ → Locals → Behaviour) (env : Locals) (first values frame : ℕ → ℕ) →
      IsScalar ty → LieApart p types spots (fn_of codes f).frame → base ≤ d → r ≤ d → IsInside p types spots x o ty values r → Stands code pc (peek_code (number_of ty) d r) end →
      Holds p types spots base env values frame → Keeps base d first values → Behind ty d end first after →
      Runs codes n (load ty (Within x o) after env) (here pc values frame)
  peeked_runs (int I8) x o d r pc end after env first values frame ok lie le to found s h k next =
      let byte = byte_peeked I8 x o r env values frame refl found h in
      let m : ℕ = slice_index (bytes_of env x) o in
      let b : Behaviour = after (wrapped I8 (pos m)) env in
      let few = byte.1 in
      let m_low : m ≡ low (pos m) = low_word m (omega (arith, few)) in
      goes codes n b _ (here (pc + 1) (put values d (frame (values r))) frame) (does codes f rest pc values frame (Peek false d r) s.0)
      (signed_byte_runs codes f rest labels n p types spots base (pos m) d (pc + 1) end after env first (put values d (frame (values r))) frame le (put_same values d (frame (values r)) ∙ byte.0 ∙ m_low) s.1
      (holds_put base p types spots env values frame d (frame (values r)) le h) (keeps_put base d d (frame (values r)) first values (omega arith) k) next)
  peeked_runs (int U8) x o d r pc end after env first values frame ok lie le to found s h k next =
      let byte = byte_peeked U8 x o r env values frame refl found h in
      let m : ℕ = slice_index (bytes_of env x) o in
      let few = byte.1 in
      let same : m ≡ m % 256 = omega (arith, few) in
      goes codes n (after (wrapped U8 (pos m)) env) _ (here (pc + 1) (put values d (frame (values r))) frame) (does codes f rest pc values frame (Peek false d r) s.0)
      (short_end (int U8) (wrapped U8 (pos m)) (frame (values r)) d (pc + 1) end after env first values frame tt refl le (wrapped_again U8 (pos m)) (byte.0 ∙ same ∙ low_byte m) s.1 h k next)
  peeked_runs (int I16) x o d r pc end after env first values frame ok lie le to found s h k next = word_peeked (int I16) x o d r pc end after env first values frame tt tt refl refl le found s h k next
  peeked_runs (int U16) x o d r pc end after env first values frame ok lie le to found s h k next = word_peeked (int U16) x o d r pc end after env first values frame tt tt refl refl le found s h k next
  peeked_runs (pointer t) x o d r pc end after env first values frame ok lie le to found s h k next = word_peeked (pointer t) x o d r pc end after env first values frame tt tt refl refl le found s h k next
  peeked_runs (int I32) x o d r pc end after env first values frame ok lie le to found s h k next = long_peeked I32 x o d r pc end after env first values frame tt refl lie le to found s h k next
  peeked_runs (int U32) x o d r pc end after env first values frame ok lie le to found s h k next = long_peeked U32 x o d r pc end after env first values frame tt refl lie le to found s h k next
  peeked_runs void x o d r pc end after env first values frame ok lie le to found s h k next = absurd ok
  peeked_runs (array t m) x o d r pc end after env first values frame ok lie le to found s h k next = absurd ok
  peeked_runs (struct j) x o d r pc end after env first values frame ok lie le to found s h k next = absurd ok

  -- ---- from values

  short_taken : (ty : Ty) (v : ℤ) (regs : Regs) (d pc end : ℕ) (after : ℤ → Locals → Behaviour) (env : Locals) (first values frame : ℕ → ℕ) →
      IsScalar ty → is_wide (number_of ty) ≡ false → base ≤ d → wrapped (number_of ty) v ≡ v → values (value_named regs.low) ≡ low v → Stands code pc (Move d (value_named regs.low) ∷ []) end →
      Holds p types spots base env values frame → Keeps base d first values → Behind ty d end first after →
      Runs codes n (after v env) (here pc values frame)
  short_taken ty v regs d pc end after env first values frame scalar narrow le number is s h k next =
      goes codes n (after v env) _ (here (pc + 1) (put values d (values (value_named regs.low))) frame) (does codes f rest pc values frame (Move d (value_named regs.low)) s.0)
      (short_end ty v (values (value_named regs.low)) d (pc + 1) end after env first values frame scalar narrow le number is s.1 h k next)

  long_taken : (t : IntType) (v : ℤ) (regs : Regs) (d pc end : ℕ) (after : ℤ → Locals → Behaviour) (env : Locals) (first values frame : ℕ → ℕ) →
      Is32Bits t → base ≤ d → wrapped t v ≡ v → value_named regs.high < base → values (value_named regs.low) ≡ low v → values (value_named regs.high) ≡ high v →
      Stands code pc (Move d (value_named regs.low) ∷ Move (d + 1) (value_named regs.high) ∷ []) end →
      Holds p types spots base env values frame → Keeps base d first values → Behind (int t) d end first after →
      Runs codes n (after v env) (here pc values frame)
  long_taken t v regs d pc end after env first values frame ok le number below low_is high_is s h k next =
      let x : ℕ = values (value_named regs.low) in
      let one : ℕ → ℕ = put values d x in
      let z : ℕ = one (value_named regs.high) in
      let two : ℕ → ℕ = put one (d + 1) z in
      let z_is : z ≡ high v = put_other values d x (value_named regs.high) (λ e. omega (arith, below, le, e)) ∙ high_is in
      goes codes n (after v env) _ (here (pc + 1) one frame) (does codes f rest pc values frame (Move d (value_named regs.low)) s.0)
      (goes codes n (after v env) _ (here (pc + 1 + 1) two frame) (does codes f rest (pc + 1) one frame (Move (d + 1) (value_named regs.high)) s.1.0)
      (at_end codes f rest n (after v env) (pc + 1 + 1) end two frame s.1.1
      (next v env two frame (record {
        holds = holds_put base p types spots env one frame (d + 1) z (omega arith) (holds_put base p types spots env values frame d x le h);
        keeps = keeps_put base d (d + 1) z first one (omega arith) (keeps_put base d d x first values (omega arith) k);
        is = wide_at t v two d ok number (put_other one (d + 1) z d (λ e. omega arith) ∙ put_same values d x ∙ low_is) (put_same one (d + 1) z ∙ z_is);
      }))))

  taken_runs : (ty : Ty) (regs : Regs) (x d pc end : ℕ) (after : ℤ → Locals → Behaviour) (env : Locals) (first values frame : ℕ → ℕ) →
      IsScalar ty → base ≤ d → IsWhole p types spots regs x 0 ty → Stands code pc (take_code (is_wide (number_of ty)) regs d) end →
      Holds p types spots base env values frame → Keeps base d first values → Behind ty d end first after →
      Runs codes n (load ty (Within x 0) after env) (here pc values frame)
  taken_runs (int I8) regs x d pc end after env first values frame ok le whole s h k next =
      let held = regs_held p types spots base env values frame h regs x 0 (int I8) whole in
      short_taken (int I8) (local_value I8 (bytes_of env x)) regs d pc end after env first values frame tt refl le (wrapped_again I8 (pos (number_in I8 (bytes_of env x)))) held.low_half s h k next
  taken_runs (int U8) regs x d pc end after env first values frame ok le whole s h k next =
      let held = regs_held p types spots base env values frame h regs x 0 (int U8) whole in
      short_taken (int U8) (local_value U8 (bytes_of env x)) regs d pc end after env first values frame tt refl le (wrapped_again U8 (pos (number_in U8 (bytes_of env x)))) held.low_half s h k next
  taken_runs (int I16) regs x d pc end after env first values frame ok le whole s h k next =
      let held = regs_held p types spots base env values frame h regs x 0 (int I16) whole in
      short_taken (int I16) (local_value I16 (bytes_of env x)) regs d pc end after env first values frame tt refl le (wrapped_again I16 (pos (number_in I16 (bytes_of env x)))) held.low_half s h k next
  taken_runs (int U16) regs x d pc end after env first values frame ok le whole s h k next =
      let held = regs_held p types spots base env values frame h regs x 0 (int U16) whole in
      short_taken (int U16) (local_value U16 (bytes_of env x)) regs d pc end after env first values frame tt refl le (wrapped_again U16 (pos (number_in U16 (bytes_of env x)))) held.low_half s h k next
  taken_runs (pointer t) regs x d pc end after env first values frame ok le whole s h k next =
      let held = regs_held p types spots base env values frame h regs x 0 (pointer t) whole in
      let bs : List ℕ = bytes_of env x in
      let sized = h.bytes x whole.below in
      let two : size_of p (slice_index_or types x void) ≡ 2 = ap (size_of p) whole.type in
      let b0 : slice_index bs 0 < 256 = sized.small 0 (omega (arith, two)) in
      let b1 : slice_index bs 1 < 256 = sized.small 1 (omega (arith, two)) in
      let few : number_in U16 bs < 65536 = omega (arith, b0, b1) in
      let number = word_number (number_in U16 bs) few in
      short_taken (pointer t) (pos (number_in U16 bs)) regs d pc end after env first values frame tt refl le number (held.low_half ∙ ap low number) s h k next
  taken_runs (int I32) regs x d pc end after env first values frame ok le whole s h k next =
      let held = regs_held p types spots base env values frame h regs x 0 (int I32) whole in
      long_taken I32 (local_value I32 (bytes_of env x)) regs d pc end after env first values frame tt le (wrapped_again I32 (pos (number_in I32 (bytes_of env x)))) held.high_below held.low_half held.high_half s h k next
  taken_runs (int U32) regs x d pc end after env first values frame ok le whole s h k next =
      let held = regs_held p types spots base env values frame h regs x 0 (int U32) whole in
      long_taken U32 (local_value U32 (bytes_of env x)) regs d pc end after env first values frame tt le (wrapped_again U32 (pos (number_in U32 (bytes_of env x)))) held.high_below held.low_half held.high_half s h k next
  taken_runs void regs x d pc end after env first values frame ok le whole s h k next = absurd ok
  taken_runs (array t m) regs x d pc end after env first values frame ok le whole s h k next = absurd ok
  taken_runs (struct j) regs x d pc end after env first values frame ok le whole s h k next = absurd ok

  -- ---- from a place that is found

  whole_runs : (ty : Ty) (regs : Regs) (x o d pc end : ℕ) (after : ℤ → Locals → Behaviour) (env : Locals) (first values frame : ℕ → ℕ) →
      IsScalar ty → base ≤ d → IsWhole p types spots regs x o ty → o ≡ 0 → Stands code pc (take_code (is_wide (number_of ty)) regs d) end →
      Holds p types spots base env values frame → Keeps base d first values → Behind ty d end first after →
      Runs codes n (load ty (Within x o) after env) (here pc values frame)
  whole_runs ty regs x o d pc end after env first values frame ok le whole e s h k next =
      subst (λ q. Runs codes n (load ty (Within x q) after env) (here pc values frame)) (sym e)
      (taken_runs ty regs x d pc end after env first values frame ok le (subst (λ q. IsWhole p types spots regs x q ty) e whole) s h k next)

  pub fetched_runs : (kind : Kind) (ty : Ty) (w : Where) (d r pc end : ℕ) (after : ℤ → Locals → Behaviour) (env : Locals) (first values frame : ℕ → ℕ) →
      IsScalar ty → LieApart p types spots (fn_of codes f).frame → base ≤ d → r ≤ d → IsFound p types spots kind ty w values r → Stands code pc (fetch_code kind (number_of ty) d r) end →
      Holds p types spots base env values frame → Keeps base d first values → Behind ty d end first after →
      Runs codes n (load ty w after env) (here pc values frame)
  fetched_runs InMemory ty (At a) d r pc end after env first values frame ok lie le to found s h k next = loaded_runs ty a d r pc end after env first values frame ok le to found.at s h k next
  fetched_runs InMemory ty (Within x o) d r pc end after env first values frame ok lie le to found s h k next = absurd found
  fetched_runs InFrame ty (At a) d r pc end after env first values frame ok lie le to found s h k next = absurd found
  fetched_runs InFrame ty (Within x o) d r pc end after env first values frame ok lie le to found s h k next = peeked_runs ty x o d r pc end after env first values frame ok lie le to found s h k next
  fetched_runs (InValues regs) ty (At a) d r pc end after env first values frame ok lie le to found s h k next = absurd found
  fetched_runs (InValues regs) ty (Within x o) d r pc end after env first values frame ok lie le to found s h k next = whole_runs ty regs x o d pc end after env first values frame ok le found found.first s h k next
