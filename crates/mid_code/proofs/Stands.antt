-- Which instructions stand where, and what the machine does there.
use Rattle.std.proofs.Common.{◌≡◌, ◌≢◌, ℕ, zero, suc, ◌+◌, ◌<◌, ◌≤◌, Bool, true, false, List, [], ◌∷◌, ◌++◌, Option, Some, None, refl, sym, ap, ◌∙◌, subst, arith}
use Rattle.std.specs.Prelude.{slice_get, if◌then◌else◌}
use Rattle.nm_base.specs.Behaviour.{Behaviour}
use Rattle.mid_code.specs.declared.instr.Mid.{Mid}
use Rattle.mid_code.specs.declared.instr.Mid.TheVariants.{Label, Jump, Branch}
use Rattle.mid_code.specs.declared.instr.Test.{Test}
use Rattle.mid_code.specs.declared.code.MidFn.{MidFn}
use Rattle.mid_code.specs.declared.code.MidCode.{MidCode}
use Rattle.mid_code.specs.Form.{IsMidFn}
use Rattle.mid_code.specs.Words.{holds}
use Rattle.mid_code.specs.Machine.{Activation, Goes, fn_of, perform, step, place_of, at_place, onward}
use Rattle.mid_code.specs.Runs.{IsLabelled, Runs, Stands}
use Rattle.mid_code.proofs.Labels.{found}
use Rattle.mid_code.proofs.Runs.{goes}

pub split : (code : List Mid) (pc end : ℕ) (a b : List Mid) → Stands code pc (a ++ b) end → (mid : ℕ) × Stands code pc a mid × Stands code mid b end
split code pc end [] b h = (pc, refl, h)
split code pc end (i ∷ a) b h = let r = split code (pc + 1) end a b h.1 in (r.0, (h.0, r.1), r.2)

pub labelled : (fn : MidFn) → IsMidFn fn → IsLabelled fn.code
labelled fn form = record { at = λ pc l h. found fn.code pc l h (form.once l) }

-- in function f, over other calls
module _ (codes : MidCode) (f : ℕ) (rest : List Activation) where
  abbrev pub code : List Mid
  code = (fn_of codes f).code

  abbrev pub here : ℕ → (ℕ → ℕ) → (ℕ → ℕ) → List Activation
  here pc values frame = record { f = f; at = pc; values = values; frame = frame } ∷ rest

  pub does : (pc : ℕ) (values frame : ℕ → ℕ) (i : Mid) → slice_get code pc ≡ Some i →
      step codes (here pc values frame) ≡ perform (Some i) codes (fn_of codes f) (record { f = f; at = pc; values = values; frame = frame }) rest
  does pc values frame i at = ap (λ o. perform o codes (fn_of codes f) (record { f = f; at = pc; values = values; frame = frame }) rest) at

  -- the same at an equal place
  pub at_end : (n : ℕ) (b : Behaviour) (pc end : ℕ) (values frame : ℕ → ℕ) → pc ≡ end → Runs codes n b (here end values frame) → Runs codes n b (here pc values frame)
  at_end n b pc end values frame e h = subst (λ p. Runs codes n b (here p values frame)) (sym e) h

  module _ (labels : IsLabelled code) where
    pub jump_runs : (n : ℕ) (b : Behaviour) (l pc to : ℕ) (values frame : ℕ → ℕ) → slice_get code pc ≡ Some (Jump l) → slice_get code to ≡ Some (Label l) →
        Runs codes n b (here to values frame) → Runs codes n b (here pc values frame)
    jump_runs n b l pc to values frame at to_at h =
        goes codes n b _ (here (place_of code l) values frame) (does pc values frame (Jump l) at) (at_end n b _ to values frame (labels.at to l to_at) h)

    branched : (t : Bool) (test : Test) (x y l pc : ℕ) (values frame : ℕ → ℕ) → slice_get code pc ≡ Some (Branch test x y l) → holds test (values x) (values y) ≡ t →
        step codes (here pc values frame) ≡ Goes (here (if t then place_of code l else pc + 1) values frame)
    branched true test x y l pc values frame at met =
        does pc values frame (Branch test x y l) at
        ∙ ap (λ (t : Bool). Goes ((if t then at_place (record { f = f; at = pc; values = values; frame = frame }) (place_of code l) else onward (record { f = f; at = pc; values = values; frame = frame })) ∷ rest)) met
    branched false test x y l pc values frame at met =
        does pc values frame (Branch test x y l) at
        ∙ ap (λ (t : Bool). Goes ((if t then at_place (record { f = f; at = pc; values = values; frame = frame }) (place_of code l) else onward (record { f = f; at = pc; values = values; frame = frame })) ∷ rest)) met

    -- a branch that is taken
    pub branch_runs : (n : ℕ) (b : Behaviour) (test : Test) (x y l pc to : ℕ) (values frame : ℕ → ℕ) → slice_get code pc ≡ Some (Branch test x y l) → slice_get code to ≡ Some (Label l) →
        holds test (values x) (values y) ≡ true → Runs codes n b (here to values frame) → Runs codes n b (here pc values frame)
    branch_runs n b test x y l pc to values frame at to_at met h =
        goes codes n b _ _ (branched true test x y l pc values frame at met) (at_end n b _ to values frame (labels.at to l to_at) h)

    -- a branch that is not taken
    pub stay_runs : (n : ℕ) (b : Behaviour) (test : Test) (x y l pc : ℕ) (values frame : ℕ → ℕ) → slice_get code pc ≡ Some (Branch test x y l) →
        holds test (values x) (values y) ≡ false → Runs codes n b (here (pc + 1) values frame) → Runs codes n b (here pc values frame)
    stay_runs n b test x y l pc values frame at unmet h = goes codes n b _ _ (branched false test x y l pc values frame at unmet) h
