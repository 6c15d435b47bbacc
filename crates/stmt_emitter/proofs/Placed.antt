-- Bodies of a well-formed program stand where they can be emitted.
use Rattle.std.proofs.Common.{◌≡◌, ℕ, zero, suc, ◌+◌, ◌*◌, ◌<◌, ◌≤◌, ◌^◌, List, [], ◌∷◌, Some, length, map, take, refl, ap, subst, arith}
use Rattle.std.specs.Prelude.{slice_get}
use Rattle.std.specs.List.{All}
use Rattle.nesc_core.specs.declared.tree.CoreType.{CoreType}
use Rattle.nesc_core.specs.Plain.{Ty, Body, Program}
use Rattle.nesc_core.specs.Typing.{IsType}
use Rattle.nesc_core.specs.View.{type_of}
use Rattle.nesc_core.specs.Weights.{stmt_atomics, stmt_levels}
use Rattle.nesc_core.specs.WellFormed.{by_return, IsBody, IsWellFormed}
use Rattle.lower_expr.specs.declared.spot.Spot.{Spot}
use Rattle.lower_expr.specs.declared.spot.Spot.TheVariants.{Frame}
use Rattle.lower_stmt.specs.Bodies.{all_bytes, all_values, spots_from}
use Rattle.expr_emitter.specs.declared.scope.Scope.{Scope}
use Rattle.expr_emitter.specs.Scoped.{locals_in, program_in}
use Rattle.stmt_emitter.specs.Standing.{IsPlaced, StmtFits}
use Rattle.stmt_emitter.proofs.Fitting.{local_sized, stmt_fits}
use Rattle.stmt_emitter.proofs.Framed.{inside, weight_bounds}

pub placed : (s : Scope) → IsWellFormed (program_in s) → All (IsType (program_in s).structs) (locals_in s) → length s.checks.now < 2 ^ 31
    → s.spots.now ≡ spots_from (program_in s) (locals_in s) 0 0 → all_bytes (program_in s) (locals_in s) ≤ 65535 → IsPlaced s
placed s formed locals few is room = record {
  scope = record { structs = formed.structs; checks = few };
  sized = λ x. local_sized (program_in s) (locals_in s) x locals;
  inside = λ x from e.
      let h = inside (program_in s) (locals_in s) 0 0 x from (subst (λ (ss : List Spot). slice_get ss x ≡ Some (Frame from)) is e) in
      omega (arith, h, room);
}

pub body_fits : (p : Program) (b : Body) → IsWellFormed p → IsBody p b → StmtFits p b.locals b.code
body_fits p b formed h = stmt_fits p b.locals formed.structs formed.objects h.locals b.code (by_return b.result) h.code

-- what a body takes, in the numbers of the emitter
pub record BodyBounds (p : Program) (b : Body) : Type 0 where
  pub values : all_values b.locals + (2 * stmt_levels b.code + 8) < 2 ^ 16
  pub bytes : all_bytes p b.locals + 2 * stmt_atomics b.code ≤ 65535

pub body_bounds : (p : Program) (b : Body) → IsBody p b → BodyBounds p b
body_bounds p b h = let w = weight_bounds p b h.frame in record { values = omega (arith, w); bytes = omega (arith, w) }

pub take_values : (n : ℕ) (ts : List Ty) → all_values (take n ts) ≤ all_values ts
take_values zero ts = omega arith
take_values (suc n) [] = omega arith
take_values (suc n) (t ∷ ts) = let h = take_values n ts in omega (arith, h)

pub take_types : (n : ℕ) (ts : List CoreType) → map type_of (take n ts) ≡ take n (map type_of ts)
take_types zero ts = refl
take_types (suc n) [] = refl
take_types (suc n) (t ∷ ts) = ap (λ more. type_of t ∷ more) (take_types n ts)
