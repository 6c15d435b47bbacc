-- Code that meets the law with a bound meets it with every larger one.
use Rattle.std.proofs.Common.{◌≡◌, ℕ, ◌+◌, ◌-◌, ◌≤◌, Bool, true, false, cond, List, [], ◌∷◌, ◌++◌, length, take, drop, refl, sym, ap, subst, ◌∙◌, arith, append_assoc, length-append}
use Rattle.std.proofs.lemmas.List.{take-append-drop, length-take-le}
use Rattle.std.specs.List.{AllByRecursion}
use Rattle.nm_base.specs.Behaviour.{Performed}
use Rattle.nm_base.specs.declared.action.Action.{Action}
use Rattle.msp430_cpu.specs.Cpu.{Cpu}
use Rattle.open_law.specs.Open.{Done, Moment, IsMoment, Open, Code, silent, is_over, instruction, went, open_step, open_all, open_start, IsGated, IsOpenCode, IsShut}
use Rattle.open_law.specs.Laws.{WiderIsMet}
use Rattle.open_law.specs.Body.{HasReturned, IsBodyLaw, StartsOpen, StartsShut, code_below}

module _ (code : Code) where
  pub open_on : (l more : List Moment) (o : Open) → open_all code (l ++ more) o ≡ open_all code more (open_all code l o)
  open_on [] more o = refl
  open_on (now ∷ l) more o = open_on l more (open_step code now o)

  pub stays_over : (more : List Moment) (o : Open) → is_over code.top o ≡ true → open_all code more o ≡ o
  stays_over [] o over = refl
  stays_over (now ∷ more) o over = ap (open_all code more) (ap (λ t. cond t o (went code now o)) over) ∙ stays_over more o over

  longer : (a b : List Done) → length a ≤ length (a ++ b)
  longer a b = let e = length-append a b in omega (arith, e)

  pub grows : (more : List Moment) (o : Open) → length o.done ≤ length (open_all code more o).done
  grows [] o = omega arith
  grows (now ∷ more) o = let a = grows more (open_step code now o) in let b = one (is_over code.top o) in omega (arith, a, b)
    where
      one : (t : Bool) → length o.done ≤ length (cond t o (went code now o)).done
      one true = omega arith
      one false = longer o.done (silent (code.marks o.cpu.pc) ++ (instruction code now o).after.bus.ports)

  all_front : (a b : List Moment) → AllByRecursion IsMoment (a ++ b) → AllByRecursion IsMoment a
  all_front [] b h = tt
  all_front (x ∷ a) b h = (h.0, all_front a b h.1)

pub wider : (act : List ℕ → ℕ → Performed) (code : Code) (lowest bound bound' : ℕ) (Gate Back : Open → Type 0) (c : Cpu) (ram : ℕ → ℕ) → bound ≤ bound' →
    IsOpenCode act code lowest bound Gate Back c ram → IsOpenCode act code lowest bound' Gate Back c ram
wider act code lowest bound bound' Gate Back c ram le law = record {
  between = law.between;
  fair = law.fair;
  soon = λ moments more ok ok_more full same.
      let start = open_start c ram in
      let a = take bound more in
      let b = drop bound more in
      let split : a ++ b ≡ more = take-append-drop bound more in
      let n : length a ≡ bound = length-take-le bound more (omega (arith, full, le)) in
      let o = open_all code moments start in
      let mid = open_all code (moments ++ a) start in
      let last : open_all code (moments ++ more) start ≡ open_all code b mid = ap (λ l. open_all code (moments ++ l) start) (sym split) ∙ ap (λ l. open_all code l start) (sym (append_assoc moments a b)) ∙ open_on code (moments ++ a) b start in
      let first : mid ≡ open_all code a o = open_on code moments a start in
      let g1 : length o.done ≤ length mid.done = subst (λ (q : Open). length o.done ≤ length q.done) (sym first) (grows code a o) in
      let g2 : length mid.done ≤ length (open_all code b mid).done = grows code b mid in
      let same' : length (open_all code b mid).done ≡ length o.done = ap (λ (q : Open). length q.done) (sym last) ∙ same in
      let over : is_over code.top mid ≡ true = law.soon moments a ok (all_front code a b (subst (AllByRecursion IsMoment) (sym split) ok_more)) n (omega (arith, g1, g2, same')) in
      ap (is_over code.top) last ∙ ap (is_over code.top) (stays_over code b mid over) ∙ over;
}

pub body_wider : (image : ℕ → ℕ) (data_end : ℕ) (marks : ℕ → List Action) (Gate : Code → Open → Type 0) (act : List ℕ → ℕ → Performed) (entry depth deeper bound bound' : ℕ) (Starts : Cpu → Type 0) → depth ≤ deeper → bound ≤ bound' →
    IsBodyLaw image data_end marks Gate act entry depth bound Starts → IsBodyLaw image data_end marks Gate act entry deeper bound' Starts
body_wider image data_end marks Gate act entry depth deeper bound bound' Starts le more law c ram pc starts awake words room high bytes =
    let code = code_below image data_end marks (c.sp + 2) in
    let b = wider act code (c.sp - depth) bound bound' (Gate code) (HasReturned act c ram) c ram more (law c ram pc starts awake words (omega arith) high bytes) in
    record {
      between = λ moments ok.
          let k = b.between moments ok in
          let low = k.low in
          record { next = k.next; low = omega arith; high = k.high; words = k.words; bytes = k.bytes; marks = k.marks; gate = k.gate; awake = k.awake; back = k.back };
      fair = b.fair;
      soon = b.soon;
    }

pub wider_is_met : WiderIsMet
wider_is_met image data_end marks act entry depth deeper bound bound' le more law = (
  body_wider image data_end marks IsGated act entry depth deeper bound bound' StartsOpen le more law.0,
  body_wider image data_end marks (λ code o. IsShut o) act entry depth deeper bound bound' StartsShut le more law.1,
)
