-- A body whose parts are well formed is well formed.
use Rattle.std.proofs.Common.{◌≡◌, ◌≤◌, List, [], length, take, subst, sym, All, arith}
use Rattle.nesc_core.specs.Heres.{Inlined, heres, IsAlone}
use Rattle.nesc_core.specs.Plain.{Body, Program}
use Rattle.nesc_core.specs.Typing.{IsResult, IsScalar, IsType}
use Rattle.nesc_core.specs.Weights.{frame_weight}
use Rattle.nesc_core.specs.WellFormed.{IsBody, IsStmt, by_return, greatest_frame}
use Rattle.well_formed.specs.Formed.{Each}
use Rattle.well_formed.proofs.Each.{each_is}

none_alone : (b : Body) (hs : List Inlined) → hs ≡ [] → All (IsAlone b.code) hs
none_alone b hs is = subst (All (IsAlone b.code)) (sym is) (λ i d below. absurd (omega arith))

pub formed : (p : Program) (b : Body) → b.params ≤ length b.locals → Each IsScalar (take b.params b.locals) → Each (IsType p.structs) b.locals
    → IsType p.structs b.result → IsResult b.result → IsStmt p b.locals b.code (by_return b.result) → frame_weight p b ≤ greatest_frame
    → heres b.code [] ≡ [] → IsBody p b
formed p b params passed locals result given code frame none = record {
  params = params;
  passed = each_is IsScalar (take b.params b.locals) passed;
  locals = each_is (IsType p.structs) b.locals locals;
  result = result;
  given = given;
  code = code;
  frame = frame;
  heres = none_alone b (heres b.code []) none;
}
