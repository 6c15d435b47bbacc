-- A program that is laid out is a compiled image.
use Rattle.std.proofs.Common.{◌≡◌, ℕ, ◌<◌, ◌≤◌, List, [], length, Option, sym, subst}
use Rattle.std.specs.Option.{option_map}
use Rattle.nm_base.specs.declared.action.Action.{Action}
use Rattle.msp_isa.specs.declared.code.CodeFn.{CodeFn}
use Rattle.msp_isa.specs.Stands.{AreAt, IsLaid}
use Rattle.mid_code.specs.declared.code.MidCode.{MidCode}
use Rattle.open_law.specs.Homes.{Home}
use Rattle.msp_select.proofs.Laid.{laid_code_stands}
use Rattle.msp_select.specs.Laid.{AreMarked}
use Rattle.msp_select.specs.Sound.{IsStanding}
use Rattle.preempt_bodies.specs.Bodies.{IsLine, Sizes, reset_code}
use Rattle.preempt_bodies.proofs.Laid.{first_at, line_stands, reset_stands}
use Rattle.compiled_image.specs.Compiled.{IsCompiled, IsCompiledLine}
use Rattle.compiled_image.specs.Laid.{IsProgram, LaidProgramsRun, laid_choice}
use Rattle.compiled_image.specs.Table.{table_of}
use Rattle.compiled_image.proofs.Compiled.{compiled_images_run}
use Rattle.compiled_image.proofs.Table.{tables_are_marked}

module _ (c : MidCode) (homes : ℕ → ℕ → Home) (own deep : ℕ → ℕ) (image : ℕ → ℕ) (z : Sizes) (code : List CodeFn) (entries : ℕ → ℕ) (laid : IsLaid image code entries)
    (boot : ℕ) (handler : ℕ → Option ℕ) (h : IsProgram c homes own deep image z code entries laid boot handler) where
  abbrev marks : ℕ → List Action
  marks = table_of c homes own laid.places

  marked : AreMarked c homes own marks laid.places × ((g a : ℕ) → length c.fns ≤ g → g < length code → laid.places g 0 ≤ a → marks a ≡ [])
  marked = tables_are_marked c homes own code laid.places h.functions h.items h.order

  standing : IsStanding c homes own deep image marks entries (laid_choice c homes own deep image z code entries laid).places
  standing = laid_code_stands c homes own deep image marks entries code laid h.form h.functions h.items h.even_entry h.small_entry marked.0

  line : (v : ℕ) → v < 8 → IsCompiledLine (laid_choice c homes own deep image z code entries laid) image z v (handler v)
  line v few =
      let l = h.lines v few in
      let code_there = line_stands image code entries laid marks l.f (handler v) l.is l.items (λ x low high. marked.1 l.f x l.behind l.is (subst (λ e. e ≤ x) (sym (laid.entry l.f l.is)) low)) in
      let a = first_at image (option_map entries (handler v)) (entries l.f) code_there.end code_there.code in
      record {
        entry = entries l.f;
        stands = l.vector;
        word = a.1;
        code = subst (λ x. IsLine image marks x (option_map entries (handler v))) (sym a.0) code_there;
        handled = h.handled standing v few;
      }

  pub compiled : IsCompiled (laid_choice c homes own deep image z code entries laid) image z boot handler
  compiled = record {
    low_end = h.low_end;
    even_end = h.even_end;
    room = h.room;
    least_depth = h.least_depth;
    least_bound = h.least_bound;
    reset_at = entries h.reset;
    reset_end = laid.places h.reset 5;
    vector = h.vector;
    reset = subst (λ a. AreAt image (entries h.reset) (reset_code a) (laid.places h.reset 5)) (sym h.boot_at) (reset_stands image code entries laid h.reset boot h.reset_is h.reset_items);
    boot_at = h.boot_at;
    root = h.root standing;
    lines = line;
  }

pub laid_programs_run : LaidProgramsRun
laid_programs_run c homes own deep image z code entries laid boot handler b rows pace n h words word_rows enough =
    compiled_images_run (laid_choice c homes own deep image z code entries laid) image z boot handler b rows pace n
    (compiled c homes own deep image z code entries laid boot handler h) words word_rows enough
