-- Where the routines of operations and of checks stand among the code of a program, whatever they are.
use Rattle.std.proofs.Common.{◌≡◌, ℕ, ◌+◌, ◌<◌, ◌≤◌, List, [], ◌++◌, length, get_or, map, sym, ap, ◌∙◌, arith, length-append}
use Rattle.std.specs.List.{range_with_len}
use Rattle.std.specs.Prelude.{slice_index_or}
use Rattle.std.proofs.lemmas.List.{get_or-append-add, get_or-map, get_or_append_left, length-map}
use Rattle.std.proofs.lemmas.List.FromFn.{get_or-map-range_with_len, length-map-range_with_len}
use Rattle.msp_isa.specs.declared.code.CodeFn.{CodeFn}
use Rattle.msp_isa.specs.Stands.{no_code}
use Rattle.mid_code.specs.declared.code.Check.{Check}

abbrev pub no_check : Check
no_check = record { size = 0; runs = [] }

module _ (routine : ℕ → CodeFn) (checks : List Check) (of_check : Check → CodeFn) where
  abbrev operations : List CodeFn
  operations = map routine (range_with_len 0 48)

  abbrev all_checks : List CodeFn
  all_checks = map of_check checks

  many_operations : length operations ≡ 48
  many_operations = length-map-range_with_len routine 0 48

  pub all_long : length (operations ++ all_checks) ≡ 48 + length checks
  all_long = let a = length-append operations all_checks in let b = many_operations in let c = length-map checks of_check in omega (arith, a, b, c)

  pub operation_among : (h : ℕ) → h < 48 → slice_index_or (operations ++ all_checks) h no_code ≡ routine h
  operation_among h lt =
      get_or_append_left operations all_checks no_code h (let e = many_operations in omega (arith, e, lt)) ∙ get_or-map-range_with_len routine 0 48 h h no_code lt (omega arith)

  pub check_among : (k : ℕ) (d : Check) → k < length checks → slice_index_or (operations ++ all_checks) (48 + k) no_code ≡ of_check (get_or checks k d)
  check_among k d lt =
      ap (λ n. slice_index_or (operations ++ all_checks) (n + k) no_code) (sym many_operations)
      ∙ get_or-append-add operations all_checks k no_code
      ∙ get_or-map of_check checks k d no_code lt

  module _ (functions behind : List CodeFn) where
    abbrev code : List CodeFn
    code = functions ++ (operations ++ (all_checks ++ behind))

    pub code_long : 48 + length checks + length functions ≤ length code
    code_long =
        let a = length-append functions (operations ++ (all_checks ++ behind)) in
        let b = length-append operations (all_checks ++ behind) in
        let c = length-append all_checks behind in
        let d = many_operations in let e = length-map checks of_check in
        omega (arith, a, b, c, d, e)

    pub operation_place : (h : ℕ) → h < 48 → slice_index_or code (length functions + h) no_code ≡ routine h
    operation_place h lt =
        get_or-append-add functions (operations ++ (all_checks ++ behind)) h no_code
        ∙ get_or_append_left operations (all_checks ++ behind) no_code h (let e = many_operations in omega (arith, e, lt))
        ∙ get_or-map-range_with_len routine 0 48 h h no_code lt (omega arith)

    pub check_place : (k : ℕ) (d : Check) → k < length checks → slice_index_or code (length functions + (48 + k)) no_code ≡ of_check (get_or checks k d)
    check_place k d lt =
        get_or-append-add functions (operations ++ (all_checks ++ behind)) (48 + k) no_code
        ∙ ap (λ n. slice_index_or (operations ++ (all_checks ++ behind)) (n + k) no_code) (sym many_operations)
        ∙ get_or-append-add operations (all_checks ++ behind) k no_code
        ∙ get_or_append_left all_checks behind no_code k (let e = length-map checks of_check in omega (arith, e, lt))
        ∙ get_or-map of_check checks k d no_code lt
