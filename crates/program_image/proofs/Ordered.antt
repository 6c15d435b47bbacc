-- Code in the order of an image stands as the image's law asks.
use Rattle.std.proofs.Common.{◌≡◌, ℕ, suc, ◌+◌, ◌<◌, List, ◌++◌, length, ap, ◌∙◌, arith}
use Rattle.std.specs.Prelude.{slice_index_or}
use Rattle.std.proofs.lemmas.List.FromFn.{get_or-map-range_with_len, length-map-range_with_len}
use Rattle.nesc_core.specs.Plain.{Program}
use Rattle.msp_isa.specs.declared.code.CodeFn.{CodeFn}
use Rattle.msp_isa.specs.Stands.{no_code}
use Rattle.program_image.proofs.InOrder.{code_long, functions_stand, in_functions, in_pieces, in_routines}
use Rattle.program_image.proofs.Vectors.{line_leads, reset_leads}
use Rattle.program_image.specs.Order.{OrderedCodeStands, image_code, line_of, pieces_of, reset_place}

-- whatever the routines are
module _ (p : Program) (functions routines : List CodeFn) where
  abbrev code : List CodeFn
  code = functions ++ (routines ++ pieces_of p)

  many_pieces : length (pieces_of p) ≡ 9
  many_pieces = let e = length-map-range_with_len (line_of p) 0 8 in omega (arith, e)

  pub all_long : length code ≡ length functions + (length routines + 9)
  all_long = let a = code_long functions routines (pieces_of p) in let b = many_pieces in omega (arith, a, b)

  pub function_at : (f : ℕ) → f < length functions → slice_index_or code f no_code ≡ slice_index_or functions f no_code
  function_at f lt = in_functions functions routines (pieces_of p) f lt

  pub routine_at : (h : ℕ) → h < length routines → slice_index_or code (length functions + h) no_code ≡ slice_index_or routines h no_code
  routine_at h lt = in_routines functions routines (pieces_of p) h lt

  pub piece_at : (k : ℕ) → slice_index_or code (length functions + (length routines + k)) no_code ≡ slice_index_or (pieces_of p) k no_code
  piece_at k = in_pieces functions routines (pieces_of p) k

  pub line_at : (v : ℕ) → v < 8 → slice_index_or code (length functions + (length routines + (v + 1))) no_code ≡ line_of p v
  line_at v few =
      piece_at (v + 1)
      ∙ ap (λ k. slice_index_or (pieces_of p) k no_code) (let e : v + 1 ≡ suc v = omega arith in e)
      ∙ get_or-map-range_with_len (line_of p) 0 8 v v no_code few (omega arith)

pub ordered_code_stands : OrderedCodeStands
ordered_code_stands p deep words vectors data_end handler_depth functions routines entries h = record {
  lowered_code = functions_stand p deep data_end functions routines (pieces_of p) (record {
    many = h.many;
    items = h.items;
    many_routines = h.many_routines;
    operations = h.operations;
    checks = h.checks;
    of_words = h.of_words;
    depths = h.depths;
    low_end = h.low_end;
    objects = h.objects;
  });
  least_depth = h.least_depth;
  handlers = h.handlers;
  even_end = h.even_end;
  room = h.room;
  reset = reset_place p;
  reset_is = let a = all_long p functions routines in let b = h.many in let c = h.many_routines in omega (arith, a, b, c);
  reset_items = ap (λ (g : CodeFn). g.items) (ap (λ k. slice_index_or (image_code p functions routines) k no_code) place ∙ piece_at p functions routines 0);
  vector = reset_leads entries (reset_place p) words vectors h.leads;
  lines = λ v few. record {
    f = reset_place p + (v + 1);
    is = let a = all_long p functions routines in let b = h.many in let c = h.many_routines in omega (arith, a, b, c, few);
    behind = omega arith;
    items = ap (λ (g : CodeFn). g.items) (ap (λ k. slice_index_or (image_code p functions routines) k no_code) (behind (v + 1)) ∙ line_at p functions routines v few);
    vector = line_leads entries (reset_place p) words vectors h.leads v few;
  };
}
  where
    behind : (k : ℕ) → reset_place p + k ≡ length functions + (length routines + k)
    behind k = let b = h.many in let c = h.many_routines in omega (arith, b, c)

    place : reset_place p ≡ length functions + (length routines + 0)
    place = let b = h.many in let c = h.many_routines in omega (arith, b, c)
