-- What the calls of a scan lead to.
use Rattle.std.specs.Prelude.{◌≡◌, true, false, List, [], ◌∷◌, ◌++◌, Some, None, Result, Ok, Err}
use Rattle.std.specs.declared.alloc.Global.{Global}
use Rattle.std.proofs.Common.{Option, ℕ, Vec, length, arith, ◌+◌, refl, ap, sym, ◌∙◌, append-nil, append_assoc}
use Rattle.std.proofs.lemmas.List.{length-map}
use Rattle.nm_base.specs.declared.pos.Pos.{Pos}
use Rattle.nm_base.specs.declared.token.Token.{Token}
use Rattle.nm_base.specs.declared.fault.Fault.{Fault}
use Rattle.nesc_macros.specs.declared.definition.Macro.{Macro}
use Rattle.nesc_preproc.specs.declared.scan.Scan.{Scan}
use Rattle.nesc_preproc.specs.declared.scan.OpenFile.{OpenFile}
use Rattle.nesc_preproc.specs.declared.conditional.Conditional.{Conditional}
use Rattle.nm_base.specs.declared.fault.Fault.TheVariants as fault
use Rattle.nesc_macros.specs.Expansion.{FailsTo, Settles, expanded_tokens}
use Rattle.nesc_preproc.specs.Lines.{Item, End, begins_directive, run_of, behind_run, line_of, behind_line}
use Rattle.nesc_preproc.specs.Sources.{Known, World, with_count}
use Rattle.nesc_preproc.specs.Conditionals.{is_live, outermost}
use Rattle.nesc_preproc.specs.Obeyed.{Situation, malformed, obeyed, with_tokens}
use Rattle.nesc_preproc.specs.declared.context.Context.{Context}
use Rattle.nesc_preproc.specs.Kept.{known_of}
use Rattle.nesc_preproc.specs.Answers.{GivesIn, situation_of}
use Rattle.nesc_preproc.specs.Scanned.{Scanned, State, outer_of, put_file, situation, state_at}
use Rattle.nesc_preproc.specs.Scan.{EndsFrom, EndsAt, Goes, GoesBehind, LeadsBehind, ScansTo, behind, behind_value, ended, items_in, known_in, outer_conditionals, outer_items, refused, state_in}
use Rattle.nesc_preproc.proofs.Scanning.{directive_goes, directive_refused, end_goes, end_refused, nothing_left, run_goes, run_refused, run_skipped}

abbrev pub state_of : Known → List Macro → List (List Conditional) → State
state_of known macros files = record { known = known; macros = macros; files = files }

-- the same scan
pub same_scan : (world : World) (st now : State) (items left : List Item) (r : Scanned) → now ≡ st → left ≡ items → ScansTo world st items r → ScansTo world now left r
same_scan world st now items left r e i p = rw (e, i) p

pub same_state : (known now : Known) (macros others : List Macro) (files left : List (List Conditional)) → known ≡ now → macros ≡ others → files ≡ left → state_of known macros files ≡ state_of now others left
same_state known now macros others files left a b c = rw (a, b, c)

at_end : (s : Scan) → s.rest.items ≡ [] → items_in s ≡ End ∷ outer_items s.outer.items
at_end s empty = ap (λ ts. put_file ts (outer_items s.outer.items)) empty

pub close_refused : (world : World) (s : Scan) (at : Pos) → s.rest.items ≡ [] → outermost s.context.conditionals.items ≡ Some at → EndsFrom world s (refused (malformed at) (known_in s))
close_refused world s at empty unclosed = record {
  later = refused (malformed at) (known_in s);
  scans = same_scan world (state_in s) (state_in s) (End ∷ outer_items s.outer.items) (items_in s) _ refl (at_end s empty) (end_refused world (state_in s) (outer_items s.outer.items) at unclosed);
  whole = refl;
}

pub close_last : (world : World) (s : Scan) → s.rest.items ≡ [] → s.outer.items ≡ [] → outermost s.context.conditionals.items ≡ None → EndsFrom world s (ended s)
close_last world s empty alone closed = record {
  later = record { value = Ok []; known = known_in s };
  scans = same_scan world (state_in s) (state_in s) (End ∷ []) (items_in s) _ refl (at_end s empty ∙ ap (λ fs. End ∷ outer_items fs) alone)
      (end_goes world (state_in s) [] (record { value = Ok []; known = known_in s }) closed (nothing_left world _));
  whole = ap (λ ts. record { value = Ok ts; known = known_in s }) (sym (append-nil s.out.items));
}

pub close_goes : (world : World) (old new : Scan) (f : OpenFile) → old.rest.items ≡ [] → old.outer.items ≡ f ∷ new.outer.items → outermost old.context.conditionals.items ≡ None
    → known_in new ≡ known_in old → new.context.macros ≡ old.context.macros → new.context.conditionals.items ≡ f.conditionals.items → new.rest.items ≡ f.rest.items → new.out.items ≡ old.out.items
    → Goes world old new
close_goes world old new f empty others closed known macros conditionals rest out r ends = record {
  later = ends.later;
  scans = same_scan world (state_in old) (state_in old) (End ∷ outer_items old.outer.items) (items_in old) ends.later refl (at_end old empty)
      (end_goes world (state_in old) (outer_items old.outer.items) ends.later closed
      (same_scan world (state_in new) (state_of (known_in old) old.context.macros (outer_conditionals old.outer.items)) (items_in new) (outer_items old.outer.items) ends.later
      (same_state _ _ _ _ _ _ (sym known) (sym macros) (ap outer_conditionals others ∙ ap (λ cs. cs ∷ outer_conditionals new.outer.items) (sym conditionals)))
      (ap outer_items others ∙ ap (λ ts. put_file ts (outer_items new.outer.items)) (sym rest))
      ends.scans));
  whole = ends.whole ∙ ap (λ ts. behind ts ends.later) out;
}

join_values : (out front : List Token) (v : Result (List Token) Fault) → behind_value out (behind_value front v) ≡ behind_value (out ++ front) v
join_values out front (Ok ts) = ap Ok (sym (append_assoc out front ts))
join_values out front (Err e) = refl

-- behind what was given before, and what is given now
join : (out front : List Token) (r : Scanned) → behind out (behind front r) ≡ behind (out ++ front) r
join out front r = ap (λ v. record { value = v; known = r.known }) (join_values out front r.value)

-- a run that is skipped
pub skip_goes : (world : World) (t : Token) (old new : Scan) → begins_directive t ≡ false → is_live old.context.conditionals.items ≡ false
    → state_in new ≡ state_in old → outer_items new.outer.items ≡ outer_items old.outer.items → new.rest.items ≡ behind_run old.rest.items → new.out.items ≡ old.out.items
    → GoesBehind world t old new
skip_goes world t old new is skips state outer rest out r ends = record {
  later = ends.later;
  scans = run_skipped world (state_in old) t old.rest.items (outer_items old.outer.items) ends.later is skips
      (same_scan world (state_in new) (state_in old) (items_in new) (put_file (behind_run old.rest.items) (outer_items old.outer.items)) ends.later (sym state)
      (ap (λ ts. put_file ts (outer_items old.outer.items)) (sym rest) ∙ ap (λ xs. put_file new.rest.items xs) (sym outer)) ends.scans);
  whole = ends.whole ∙ ap (λ ts. behind ts ends.later) out;
}

-- a run that is expanded
pub run_leads : (world : World) (t : Token) (old new : Scan) (xs : List Token) → begins_directive t ≡ false → is_live old.context.conditionals.items ≡ true
    → Settles (λ n. expanded_tokens n old.context.macros old.context.known.tokens (t ∷ run_of old.rest.items)) (record { value = Ok xs; count = new.context.known.tokens })
    → state_in new ≡ state_at (with_tokens (situation (state_in old)) new.context.known.tokens) (outer_of (state_in old).files)
    → outer_items new.outer.items ≡ outer_items old.outer.items → new.rest.items ≡ behind_run old.rest.items → new.out.items ≡ old.out.items ++ xs
    → GoesBehind world t old new
run_leads world t old new xs is lives expands state outer rest out r ends = record {
  later = behind xs ends.later;
  scans = run_goes world (state_in old) t old.rest.items (outer_items old.outer.items) xs new.context.known.tokens ends.later is lives expands
      (same_scan world (state_in new) (state_at (with_tokens (situation (state_in old)) new.context.known.tokens) (outer_of (state_in old).files)) (items_in new) (put_file (behind_run old.rest.items) (outer_items old.outer.items)) ends.later (sym state)
      (ap (λ ts. put_file ts (outer_items old.outer.items)) (sym rest) ∙ ap (λ xs. put_file new.rest.items xs) (sym outer)) ends.scans);
  whole = ends.whole ∙ ap (λ ts. behind ts ends.later) out ∙ sym (join old.out.items xs ends.later);
}

run_stops : (world : World) (t : Token) (old new : Scan) (e : Fault) → begins_directive t ≡ false → is_live old.context.conditionals.items ≡ true
    → Settles (λ n. expanded_tokens n old.context.macros old.context.known.tokens (t ∷ run_of old.rest.items)) (record { value = Err e; count = new.context.known.tokens })
    → known_in new ≡ with_count new.context.known.tokens (known_in old) → EndsAt world t old (refused e (known_in new))
run_stops world t old new e is lives expands known = record {
  later = refused e (with_count new.context.known.tokens (known_in old));
  scans = run_refused world (state_in old) t old.rest.items (outer_items old.outer.items) e new.context.known.tokens is lives expands;
  whole = ap (refused e) known;
}

run_fault_at : (world : World) (t : Token) (old new : Scan) (e : Fault) → begins_directive t ≡ false → is_live old.context.conditionals.items ≡ true
    → known_in new ≡ with_count new.context.known.tokens (known_in old)
    → FailsTo old.context.macros old.context.known.tokens (t ∷ run_of old.rest.items) e new.context.known.tokens → LeadsBehind (Err e) world t old new
run_fault_at world t old new (fault.Refused r) is lives known f = run_stops world t old new (fault.Refused r) is lives f known
run_fault_at world t old new (fault.Missing n) is lives known f = run_stops world t old new (fault.Missing n) is lives f known
run_fault_at world t old new fault.ReadFault is lives known f = run_stops world t old new fault.ReadFault is lives f known
run_fault_at world t old new (fault.Limit l) is lives known f = run_stops world t old new (fault.Limit l) is lives f known
run_fault_at world t old new (fault.TooLarge r n) is lives known f = run_stops world t old new (fault.TooLarge r n) is lives f known
run_fault_at world t old new fault.NoMemory is lives known f = tt

-- a run of which the expansion is refused
pub run_fault : (world : World) (t : Token) (old new : Scan) (e : Fault) (run : List Token) (macros : List Macro) → macros ≡ old.context.macros → run ≡ t ∷ run_of old.rest.items → begins_directive t ≡ false → is_live old.context.conditionals.items ≡ true
    → FailsTo macros old.context.known.tokens run e new.context.known.tokens
    → known_in new ≡ with_count new.context.known.tokens (known_in old) → LeadsBehind (Err e) world t old new
run_fault world t old new e run macros same-macros same-run is lives fails known = run_fault_at world t old new e is lives known (rw (same-macros, same-run) at fails)

-- a directive that opens no header
pub directive_leads : (world : World) (t : Token) (old new : Scan) → begins_directive t ≡ true
    → Settles (λ n. obeyed n world (length (state_in old).files) t.pos (line_of old.rest.items) (situation (state_in old))) (record { value = Ok None; now = situation_of new.context })
    → outer_items new.outer.items ≡ outer_items old.outer.items → outer_conditionals new.outer.items ≡ outer_conditionals old.outer.items
    → new.rest.items ≡ behind_line old.rest.items → new.out.items ≡ old.out.items
    → GoesBehind world t old new
directive_leads world t old new is obeys outer files rest out r ends = record {
  later = ends.later;
  scans = directive_goes world (state_in old) t old.rest.items (outer_items old.outer.items) (situation_of new.context) None ends.later is obeys
      (same_scan world (state_in new) (state_at (situation_of new.context) (outer_conditionals old.outer.items)) (items_in new) (put_file (behind_line old.rest.items) (outer_items old.outer.items)) ends.later
      (ap (state_at (situation_of new.context)) (sym files))
      (ap (λ ts. put_file ts (outer_items old.outer.items)) (sym rest) ∙ ap (λ xs. put_file new.rest.items xs) (sym outer)) ends.scans);
  whole = ends.whole ∙ ap (λ ts. behind ts ends.later) out;
}

-- a directive that opens a header
pub header_leads : (world : World) (t : Token) (old new : Scan) (now : Context) (header : List Token) → begins_directive t ≡ true
    → Settles (λ n. obeyed n world (length (state_in old).files) t.pos (line_of old.rest.items) (situation (state_in old))) (record { value = Ok (Some header); now = situation_of now })
    → known_in new ≡ known_of now.known → new.context.macros ≡ now.macros → new.context.conditionals.items ≡ []
    → outer_conditionals new.outer.items ≡ now.conditionals.items ∷ outer_conditionals old.outer.items
    → outer_items new.outer.items ≡ put_file (behind_line old.rest.items) (outer_items old.outer.items) → new.rest.items ≡ header → new.out.items ≡ old.out.items
    → GoesBehind world t old new
header_leads world t old new now header is obeys known macros conditionals files outer rest out r ends = record {
  later = ends.later;
  scans = directive_goes world (state_in old) t old.rest.items (outer_items old.outer.items) (situation_of now) (Some header) ends.later is obeys
      (same_scan world (state_in new) (state_of (known_of now.known) now.macros ([] ∷ now.conditionals.items ∷ outer_conditionals old.outer.items)) (items_in new)
      (put_file header (put_file (behind_line old.rest.items) (outer_items old.outer.items))) ends.later
      (same_state _ _ _ _ _ _ (sym known) (sym macros) (ap (λ fs. [] ∷ fs) (sym files) ∙ ap (λ cs. cs ∷ outer_conditionals new.outer.items) (sym conditionals)))
      (ap (λ ts. put_file ts (put_file (behind_line old.rest.items) (outer_items old.outer.items))) (sym rest) ∙ ap (λ xs. put_file new.rest.items xs) (sym outer)) ends.scans);
  whole = ends.whole ∙ ap (λ ts. behind ts ends.later) out;
}

directive_stops : (world : World) (t : Token) (old new : Scan) (now : Context) (e : Fault) → begins_directive t ≡ true
    → Settles (λ n. obeyed n world (length (state_in old).files) t.pos (line_of old.rest.items) (situation (state_in old))) (record { value = Err e; now = situation_of now })
    → known_in new ≡ known_of now.known → EndsAt world t old (refused e (known_in new))
directive_stops world t old new now e is obeys known = record {
  later = refused e (known_of now.known);
  scans = directive_refused world (state_in old) t old.rest.items (outer_items old.outer.items) (situation_of now) e is obeys;
  whole = ap (refused e) known;
}

-- a directive that is refused
pub directive_fault : (world : World) (t : Token) (old new : Scan) (now : Context) (e : Fault) → begins_directive t ≡ true
    → GivesIn (Err e) now (λ n. obeyed n world (length (state_in old).files) t.pos (line_of old.rest.items) (situation (state_in old)))
    → known_in new ≡ known_of now.known → LeadsBehind (Err e) world t old new
directive_fault world t old new now (fault.Refused r) is g known = directive_stops world t old new now (fault.Refused r) is g known
directive_fault world t old new now (fault.Missing n) is g known = directive_stops world t old new now (fault.Missing n) is g known
directive_fault world t old new now fault.ReadFault is g known = directive_stops world t old new now fault.ReadFault is g known
directive_fault world t old new now (fault.Limit l) is g known = directive_stops world t old new now (fault.Limit l) is g known
directive_fault world t old new now (fault.TooLarge r n) is g known = directive_stops world t old new now (fault.TooLarge r n) is g known
directive_fault world t old new now fault.NoMemory is g known = tt

-- as many files are open as there are around the innermost, and one
pub depth_is : (s : Scan) → length (state_in s).files ≡ length s.outer.items + 1
depth_is s = let n : length (outer_conditionals s.outer.items) ≡ length s.outer.items = length-map s.outer.items (λ (f : OpenFile). f.conditionals.items) in omega (arith, n)

pub obeyed_at : (world : World) (d e : ℕ) (at : Pos) (l m : List Token) (s : Situation) (now : Context) (r : Result (Option (Vec Token Global)) Fault)
    → d ≡ e → l ≡ m → GivesIn r now (λ n. obeyed n world d at l s) → GivesIn r now (λ n. obeyed n world e at m s)
obeyed_at world d e at l m s now r same-depth same-line gives = rw (sym same-depth, sym same-line) gives
