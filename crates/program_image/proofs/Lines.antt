-- The code of the lines serves handlers whose functions meet their laws.
use Rattle.std.proofs.Common.{◌≡◌, ℕ, ◌+◌, ◌-◌, ◌≤◌, List, Option, Some, None, refl, sym, subst, arith}
use Rattle.std.specs.Option.{option_map}
use Rattle.nm_base.specs.declared.action.Action.{Action}
use Rattle.nesc_core.specs.Plain.{Program}
use Rattle.core_meaning.specs.Source.{Source, act_of}
use Rattle.core_meaning.specs.SourceOf.{handler_in}
use Rattle.msp_isa.specs.declared.code.CodeFn.{CodeFn}
use Rattle.open_law.specs.Body.{IsOpenBody}
use Rattle.open_law.proofs.Wider.{wider_is_met}
use Rattle.preempt_bodies.specs.Bodies.{Serves, Sizes}
use Rattle.preempt_bodies.specs.Laid.{IsLaidLine}
use Rattle.program_image.specs.Image.{IsLine, marks_of}
use Rattle.program_image.specs.Runs.{IsLoweredImage, LinesAreLaid}
use Rattle.program_image.proofs.Places.{even_function, marked, small_function}
use Rattle.program_image.proofs.Roots.{handler_begins, root_body, root_there}

-- P has the handlers of p, whose functions do what P's bodies do; the code of a line takes 26 bytes and 28 instructions more
module _ (p : Program) (deep : ℕ → ℕ) (image : ℕ → ℕ) (data_end : ℕ) (code : List CodeFn) (entries : ℕ → ℕ) (built : IsLoweredImage p deep image data_end code entries)
    (P : Source) (handled : (v : ℕ) → P.handler v ≡ handler_in p.handlers v) (boot boot_depth handler_depth bound : ℕ)
    (least_depth : 26 ≤ handler_depth) (least_bound : 29 ≤ bound)
    (depths : (v f : ℕ) → handler_in p.handlers v ≡ Some f → 26 + deep f ≤ handler_depth)
    (laws : (v f : ℕ) → handler_in p.handlers v ≡ Some f → IsOpenBody image data_end (marks_of p built.laid.places) (P.act f) (entries f) (deep f) (bound - 28)) where
  abbrev marks : ℕ → List Action
  marks = marks_of p built.laid.places

  abbrev z : Sizes
  z = record { data_end = data_end; boot = boot; boot_depth = boot_depth; handler_depth = handler_depth; bound = bound }

  serves : (v : ℕ) (o : Option ℕ) → handler_in p.handlers v ≡ o → Serves image data_end marks (act_of P o) (handler_depth - 26) (bound - 28) (option_map entries o)
  serves v None e = record { turns = 0; all = refl; ended = refl }
  serves v (Some f) e =
      let there = root_there p f (root_body p built.well f (handler_begins p v f e)) in
      let le = depths v f e in (
        small_function p deep image data_end code entries built f there,
        even_function p deep image data_end code entries built f there,
        (wider_is_met image data_end marks (P.act f) (entries f) (deep f) (handler_depth - 26) (bound - 28) (bound - 28) (omega (arith, le)) (omega arith) (laws v f e)).1,
      )

  pub laid_line : (v : ℕ) → IsLine p image code entries v → IsLaidLine P image marks z code entries built.laid.places v
  laid_line v l = record {
    f = l.f;
    body = handler_in p.handlers v;
    is = l.is;
    items = l.items;
    vector = l.vector;
    no_marks = λ a low high. (marked p deep image data_end code entries built).1 l.f a l.behind l.is (subst (λ x. x ≤ a) (sym (built.laid.entry l.f l.is)) low);
    depth = handler_depth - 26;
    bound = bound - 28;
    some = omega (arith, least_bound);
    deep = omega (arith, least_depth);
    long = omega (arith, least_bound);
    serves = subst (λ o. Serves image data_end marks (act_of P o) (handler_depth - 26) (bound - 28) (option_map entries (handler_in p.handlers v))) (sym (handled v)) (serves v (handler_in p.handlers v) refl);
  }

pub lines_are_laid : LinesAreLaid
lines_are_laid p deep image data_end code entries built P handled boot boot_depth handler_depth bound least_depth least_bound depths laws v l =
    laid_line p deep image data_end code entries built P handled boot boot_depth handler_depth bound least_depth least_bound depths laws v l
