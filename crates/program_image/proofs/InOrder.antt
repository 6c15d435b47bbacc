-- Functions and routines in their order stand as an image's law asks, whatever stands behind them.
use Rattle.std.proofs.Common.{◌≡◌, ℕ, zero, suc, ◌+◌, ◌<◌, List, [], ◌∷◌, ◌++◌, length, Some, sym, ap, ◌∙◌, arith, length-append}
use Rattle.std.specs.Prelude.{slice_get, slice_index_or}
use Rattle.std.proofs.lemmas.List.{get_or-append-add, get_or_append_left}
use Rattle.nesc_core.specs.Plain.{Program}
use Rattle.msp_isa.specs.declared.code.CodeFn.{CodeFn}
use Rattle.msp_isa.specs.Stands.{items_of, no_code}
use Rattle.mid_code.specs.declared.code.Check.{Check}
use Rattle.lower_stmt.specs.Bodies.{lowered}
use Rattle.program_image.specs.Image.{HasFunctions}
use Rattle.program_image.specs.Order.{AreFunctions}

module _ (functions routines pieces : List CodeFn) where
  abbrev code : List CodeFn
  code = functions ++ (routines ++ pieces)

  pub code_long : length code ≡ length functions + (length routines + length pieces)
  code_long =
      let a = length-append functions (routines ++ pieces) in
      let b = length-append routines pieces in
      omega (arith, a, b)

  pub in_functions : (f : ℕ) → f < length functions → slice_index_or code f no_code ≡ slice_index_or functions f no_code
  in_functions f lt = get_or_append_left functions (routines ++ pieces) no_code f lt

  pub in_routines : (h : ℕ) → h < length routines → slice_index_or code (length functions + h) no_code ≡ slice_index_or routines h no_code
  in_routines h lt = get_or-append-add functions (routines ++ pieces) h no_code ∙ get_or_append_left routines pieces no_code h lt

  pub in_pieces : (k : ℕ) → slice_index_or code (length functions + (length routines + k)) no_code ≡ slice_index_or pieces k no_code
  in_pieces k = get_or-append-add functions (routines ++ pieces) (length routines + k) no_code ∙ get_or-append-add routines pieces k no_code

element_there : (checks : List Check) (k : ℕ) (check : Check) → slice_get checks k ≡ Some check → k < length checks
element_there [] k check e = absurd (cc)
element_there (c ∷ cs) zero check e = omega arith
element_there (c ∷ cs) (suc k) check e = let h = element_there cs k check e in omega (arith, h)

pub functions_stand : (p : Program) (deep : ℕ → ℕ) (data_end : ℕ) (functions routines pieces : List CodeFn) → AreFunctions p deep data_end functions routines → HasFunctions p deep data_end (functions ++ (routines ++ pieces))
functions_stand p deep data_end functions routines pieces h = record {
  functions = λ f lt. let m = h.many in ap (λ (g : CodeFn). g.items) (in_functions functions routines pieces f (omega (arith, m, lt))) ∙ h.items f lt;
  operations = λ n few.
      let m = h.many_routines in
      ap (λ k. items_of (functions ++ (routines ++ pieces)) (k + n)) (sym h.many) ∙ ap (λ (g : CodeFn). g.items) (in_routines functions routines pieces n (omega (arith, m, few))) ∙ h.operations n few;
  checks = λ k check is.
      let m = h.many_routines in
      let lt = element_there (lowered p).checks k check is in
      ap (λ n. items_of (functions ++ (routines ++ pieces)) (n + (48 + k))) (sym h.many) ∙ ap (λ (g : CodeFn). g.items) (in_routines functions routines pieces (48 + k) (omega (arith, m, lt))) ∙ h.checks k check is;
  of_words = h.of_words;
  many = let a = code_long functions routines pieces in let b = h.many in let c = h.many_routines in omega (arith, a, b, c);
  depths = h.depths;
  low_end = h.low_end;
  objects = h.objects;
}
