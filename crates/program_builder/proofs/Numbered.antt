-- The functions of a kernel's code, put together and counted in 32 bits.
use Rattle.std.proofs.Common.{◌≡◌, ℕ, ◌+◌, ◌<◌, List, [], ◌∷◌, ◌++◌, length, ap, ◌∙◌, arith, length-append}
use Rattle.std.proofs.lemmas.List.{length-map}
use Rattle.std.proofs.lemmas.List.FromFn.{length-map-range_with_len}
use Rattle.nesc_core.specs.Plain.{Program}
use Rattle.msp_isa.specs.declared.code.CodeFn.{CodeFn}
use Rattle.lower_expr.specs.Code.{check_for}
use Rattle.lower_stmt.specs.Bodies.{checks_of, lowered, mid_fn_of}
use Rattle.lower_form.specs.Short.{IsShort}
use Rattle.lower_form.proofs.Counted.{is_numbered}
use Rattle.lower_form.proofs.Sound.{bodies_few}
use Rattle.select_emitter.specs.Code.{all_code, code_of}
use Rattle.msp_routines.specs.Routines.{routine_fns}
use Rattle.program_image.specs.Order.{line_of, reset_place}
use Rattle.image_code.specs.Laws.{CanBeChecked}
use Rattle.image_code.proofs.Whole.{are_routines}
use Rattle.image_builder.proofs.Lists.{grouped}
use Rattle.program_builder.specs.Parts.{code_of_kernel, pieces_of_kernel}

-- two functions more, and what stands behind them
pub two_more : (base : List CodeFn) (x y : CodeFn) (rest : List CodeFn) → ((base ++ x ∷ []) ++ y ∷ []) ++ rest ≡ base ++ (x ∷ y ∷ rest)
two_more base x y rest = grouped (base ++ x ∷ []) (y ∷ []) rest ∙ grouped base (x ∷ []) (y ∷ rest)

module _ (k : Program) (short : IsShort k) (can : CanBeChecked (lowered k).checks) where
  abbrev front : List CodeFn
  front = all_code (lowered k) ++ routine_fns (lowered k).checks

  -- the lone RET stands behind functions and routines
  front_long : length front ≡ reset_place k
  front_long =
      let a = length-append (all_code (lowered k)) (routine_fns (lowered k).checks) in
      let b = length-map (lowered k).fns (code_of (lowered k)) in
      let d = (are_routines (lowered k).checks can.few can.words).many in
      omega (arith, a, b, d)

  pub places_few : reset_place k + 20 < 4294967296
  places_few =
      let few = (is_numbered k short).checks in
      let checks = length-map (checks_of k) (check_for k) in
      let fns = length-map k.bodies (mid_fn_of k (checks_of k)) in
      let bodies = bodies_few k.bodies in
      let nodes = short.nodes in
      omega (arith, few, checks, fns, bodies, nodes)

  module _ (pop : ℕ) (made : List CodeFn) (is : made ≡ front) where
    pub made_long : length made ≡ reset_place k
    made_long = ap length is ∙ front_long

    pub code_is : (all : List CodeFn) → all ≡ made ++ pieces_of_kernel k pop (length made) → all ≡ code_of_kernel k pop
    code_is all e =
        e ∙ ap (λ (l : List CodeFn). l ++ pieces_of_kernel k pop (length l)) is ∙ ap (λ n. front ++ pieces_of_kernel k pop n) front_long
        ∙ grouped (all_code (lowered k)) (routine_fns (lowered k).checks) (pieces_of_kernel k pop (reset_place k))

  module _ (pop : ℕ) (code : List CodeFn) (is : code ≡ code_of_kernel k pop) where
    pub code_long : length code ≡ reset_place k + 10
    code_long =
        let pieces : List CodeFn = pieces_of_kernel k pop (reset_place k) in
        let a = ap length is in
        let b = length-append (all_code (lowered k)) (routine_fns (lowered k).checks ++ pieces) in
        let d = length-append (routine_fns (lowered k).checks) pieces in
        let f = front_long in
        let g = length-append (all_code (lowered k)) (routine_fns (lowered k).checks) in
        let e = length-map-range_with_len (line_of k) 0 8 in
        omega (arith, a, b, d, e, f, g)
