-- Such an image is built of bodies that meet the open law.
use Rattle.std.proofs.Common.{◌≡◌, ℕ, ◌+◌, ◌-◌, ◌<◌, List, Option, Some, None, refl, sym, subst, arith}
use Rattle.std.specs.Option.{option_map}
use Rattle.core_meaning.specs.Source.{Source, act_of}
use Rattle.nm_base.specs.Behaviour.{Performed}
use Rattle.msp430_cpu.specs.Cpu.{even}
use Rattle.open_law.specs.Body.{acts, IsOpenBody}
use Rattle.open_law.proofs.Law.{functions_are_bodies}
use Rattle.open_law.proofs.Wider.{wider_is_met}
use Rattle.msp_select.specs.Sound.{body_of}
use Rattle.msp_select.specs.Weight.{entry_size}
use Rattle.msp_select.proofs.Weighing.{paced}
use Rattle.preempt_bodies.specs.Bodies.{Sizes, IsBuilt, IsVector, Serves}
use Rattle.preempt_bodies.proofs.Eased.{eased}
use Rattle.preempt_bodies.proofs.Survival.{survives}
use Rattle.preempt_bodies.proofs.Whole.{runs_as_source}
use Rattle.compiled_image.specs.Compiled.{Chosen, source_of, IsRoot, IsHandled, IsCompiled, CompiledImagesRun}

module _ (s : Chosen) (image : ℕ → ℕ) (z : Sizes) (boot : ℕ) (handler : ℕ → Option ℕ) (h : IsCompiled s image z boot handler) where
  abbrev P : Source
  P = source_of s.code boot handler

  abbrev does : ℕ → List ℕ → ℕ → Performed
  does root = acts (body_of s.code root)

  root_law : (root depth bound : ℕ) → IsRoot s image z root depth bound → IsOpenBody image z.data_end s.marks (does root) (s.entries root) depth bound
  root_law root depth bound r =
      let k = r.heaviest + entry_size s.own root + r.long + 2 in
      wider_is_met image z.data_end s.marks (does root) (s.entries root) (s.deep root) depth k bound r.deep r.soon
      (functions_are_bodies image z.data_end s.marks r.gives (body_of s.code root) (s.entries root) (s.deep root) k
      (paced s.code s.homes s.own s.deep r.left r.most r.long root r.gives z.data_end image s.marks s.entries s.places r.selected r.weight r.heaviest r.weighed))

  serves : (o : Option ℕ) → IsHandled s image z o → Serves image z.data_end s.marks (act_of P o) (z.handler_depth - 26) (z.bound - 28) (option_map s.entries o)
  serves None u = record { turns = 0; all = refl; ended = refl }
  serves (Some root) r = (
    r.selected.standing.small_entry root r.selected.is,
    r.selected.standing.even_entry root r.selected.is,
    (root_law root (z.handler_depth - 26) (z.bound - 28) r).1,
  )

  line : (v : ℕ) → v < 8 → IsVector P image s.marks z v
  line v few =
      let l = h.lines v few in
      let d = h.least_depth in
      let m = h.least_bound in
      let act = act_of P (handler v) in
      record {
        entry = l.entry;
        stands = l.stands;
        word = l.word;
        law = eased image z.data_end s.marks act (even l.entry) (26 + (z.handler_depth - 26)) z.handler_depth (z.bound - 28 + 28) z.bound (omega (arith, d)) (omega (arith, m))
            (survives image z.data_end s.marks act (even l.entry) (z.handler_depth - 26) (z.bound - 28) (option_map s.entries (handler v)) h.low_end (omega (arith, m)) l.code (serves (handler v) l.handled));
      }

  built : IsBuilt P image s.marks z
  built =
      let m = h.least_bound in
      let r = h.root.selected in
      record {
        low_end = h.low_end;
        even_end = h.even_end;
        room = h.room;
        some = omega (arith, m);
        reset_at = h.reset_at;
        reset_end = h.reset_end;
        vector = h.vector;
        reset = h.reset;
        even_boot = subst (λ a. even a ≡ a) (sym h.boot_at) (r.standing.even_entry boot r.is);
        low_boot = subst (λ a. a < 0x10000) (sym h.boot_at) (r.standing.small_entry boot r.is);
        body = (subst (λ a. IsOpenBody image z.data_end s.marks (does boot) a z.boot_depth z.bound) (sym h.boot_at) (root_law boot z.boot_depth z.bound h.root)).0;
        handlers = line;
      }

pub compiled_images_run : CompiledImagesRun
compiled_images_run s image z boot handler b rows pace n h words word_rows enough =
    runs_as_source (source_of s.code boot handler) image s.marks z b rows pace n words word_rows (built s image z boot handler h) enough
