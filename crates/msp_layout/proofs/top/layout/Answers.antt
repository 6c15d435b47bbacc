-- What is answered, from what is known of each part.
use Rattle.std.proofs.Common.{◌≡◌, ℕ, ◌+◌, ◌<◌, ◌≤◌, length, sum, sum_by, get_or, map, replicate, arith, refl, sym, ap, ◌∙◌}
use Rattle.std.proofs.lemmas.List.{length-append, length-map, length-replicate}
use Rattle.msp_layout.specs.Bytes.{entry_of}
use Rattle.msp_layout.specs.Words.{all_sizes}
use Rattle.msp_layout.proofs.Placed.{laid_of, shortest_of, all_words}
use Rattle.msp_layout.proofs.Order.{entries_are_even, entries_are_small}
use Rattle.msp_layout.proofs.top.layout.Goals as goal

pub returns-then-bytes-gt-CODE_BYTES-clause-cause : goal.returns-then-bytes-gt-CODE_BYTES-clause-cause
returns-then-bytes-gt-CODE_BYTES-clause-cause c =
    let e = c.code_bytes-bytes.ensures in
    let bytes = rw c.deref.ensures.value at e in
    record {
      bytes = sum_by sum (all_sizes c.in_ok-forms.forms.items);
      has = record { sizes = all_sizes c.in_ok-forms.forms.items; shortest = shortest_of c.args.code.now c.in_ok-forms.forms.items c.in_ok-forms.ensures; sum = refl };
      above = omega (arith, bytes);
      tells = bytes;
    }

pub stack_bytes-requires-clause-callees : goal.stack_bytes-requires-clause-callees
stack_bytes-requires-clause-callees c = λ f g lt name. (c.requires.fns f lt).callees g name

pub returns-then-need-gt-RAM_BYTES-clause-cause : goal.returns-then-need-gt-RAM_BYTES-clause-cause
returns-then-need-gt-RAM_BYTES-clause-cause c =
    let e = c.code_bytes-bytes.ensures in
    let bytes = rw c.deref.ensures.value at e in
    let stack = c.in_ok-stack.ensures in
    record {
      bytes = sum_by sum (all_sizes c.in_ok-forms.forms.items);
      has = record { sizes = all_sizes c.in_ok-forms.forms.items; shortest = shortest_of c.args.code.now c.in_ok-forms.forms.items c.in_ok-forms.ensures; sum = refl };
      fits = omega (arith, bytes);
      stack = stack.0;
      is_stack = stack.1;
      above = omega (arith, stack.2, c.saturating_add-need.ensures);
      tells = omega (arith, stack.2, c.saturating_add-need.ensures);
    }

pub vectors_of-vectors-requires-clause-lines : goal.vectors_of-vectors-requires-clause-lines
vectors_of-vectors-requires-clause-lines c = λ k lt.
    let within : get_or c.args.lines.now k 0 < length c.args.code.now = c.requires.line_fns (get_or c.args.lines.now k 0) (k, omega arith, refl) in
    let same : length c.in_ok-entries.entries.items ≡ length c.args.code.now = c.in_ok-entries.ensures.len ∙ ap length c.deref-2.ensures.value ∙ c.in_ok-forms.ensures.len in
    rw c.deref-5.ensures.value (omega arith)

pub returns-clause-placed : goal.returns-clause-placed
returns-clause-placed c =
    let forms = c.in_ok-forms.ensures in
    let entries : ℕ → ℕ = λ f. get_or c.in_ok-entries.entries.items f 0 in
    let stands = rw (c.deref-3.ensures.value, c.deref-4.ensures.value) at c.in_ok-words.ensures.stands in
    let len = rw c.deref-3.ensures.value at c.in_ok-words.ensures.len in
    let each = rw c.deref-2.ensures.value at c.in_ok-entries.ensures.each in
    let vectors = rw c.deref-5.ensures.value at c.vectors_of-vectors.ensures.lead in
    let bytes = rw c.deref.ensures.value at c.code_bytes-bytes.ensures in
    let few : length c.in_ok-words.words.items ≤ 24560 = omega (arith, len, bytes) in
    let es : (f : ℕ) → f < length c.args.code.now → 0x4000 + entry_of (all_sizes c.in_ok-forms.forms.items) f ≡ entries f = λ f lt. sym (each f (omega (arith, forms.len))) in
    let laid = laid_of c.in_ok-words.words.items c.vectors_of-vectors.result few entries c.args.code.now c.in_ok-forms.forms.items c.requires.fns forms stands es in
    record {
      image = record {
        fits = few;
        sixteen = ap length vectors ∙ omega (arith, length-append (map entries c.args.lines.now) (replicate 8 (entries c.args.reset)), length-map c.args.lines.now entries, length-replicate 8 (entries c.args.reset));
        code_words = all_words c.in_ok-words.words.items c.in_ok-words.ensures.wide;
        vector_words = all_words c.vectors_of-vectors.result c.vectors_of-vectors.ensures.wide;
      };
      entries = entries;
      laid = laid.0;
      order = laid.1;
      even_entry = entries_are_even c.args.code.now c.in_ok-forms.forms.items forms entries es;
      small_entry = entries_are_small c.args.code.now c.in_ok-forms.forms.items forms entries es (omega (arith, len, few));
      leads = vectors;
      bytes = record { sizes = all_sizes c.in_ok-forms.forms.items; shortest = shortest_of c.args.code.now c.in_ok-forms.forms.items forms; sum = sym len };
    }
