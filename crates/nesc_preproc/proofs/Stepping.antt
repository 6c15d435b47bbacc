-- Steps of a scan, and all of them.
use Rattle.std.specs.Prelude.{◌≡◌, Bool, true, false, ◌∷◌, Result, Ok, Err}
use Rattle.std.proofs.Common.{Some, false, None, ℕ, ◌≤◌, nat_eq, Option, refl, arith, ap, ◌∙◌}
use Rattle.nm_base.specs.declared.token.Token.{Token}
use Rattle.nm_base.specs.declared.fault.Fault.{Fault}
use Rattle.nm_base.specs.declared.fault.Fault.TheVariants as fault
use Rattle.nesc_preproc.specs.declared.scan.Scan.{Scan}
use Rattle.nesc_preproc.specs.Lines.{Read}
use Rattle.std.proofs.lemmas.Bool.Decides.{nat_tests}
use Rattle.nesc_preproc.specs.Kept.{Allows, BreaksFrom}
use Rattle.nesc_preproc.specs.Sources.{World}
use Rattle.nesc_preproc.specs.Scanned.{Scanned, put_file}
use Rattle.nesc_preproc.specs.Scan.{EndsFrom, EndsAt, Goes, Leads, LeadsBehind, RunsTo, items_in, outer_items, state_in}

-- the same from the same place
from_same : (world : World) (old mid : Scan) (r : Scanned) → state_in old ≡ state_in mid → items_in old ≡ items_in mid → old.out.items ≡ mid.out.items → EndsFrom world mid r → EndsFrom world old r
from_same world old mid r a b c ends = rw (a, b, c) ends

pub leads_same : (r : Result Bool Fault) (world : World) (old mid new : Scan) → state_in old ≡ state_in mid → items_in old ≡ items_in mid → old.out.items ≡ mid.out.items → Leads r world mid new → Leads r world old new
leads_same (Ok true) world old mid new a b c leads = λ r ends. from_same world old mid r a b c (leads r ends)
leads_same (Ok false) world old mid new a b c leads = from_same world old mid _ a b c leads
leads_same (Err (fault.Refused r)) world old mid new a b c leads = from_same world old mid _ a b c leads
leads_same (Err (fault.Missing n)) world old mid new a b c leads = from_same world old mid _ a b c leads
leads_same (Err fault.ReadFault) world old mid new a b c leads = from_same world old mid _ a b c leads
leads_same (Err (fault.Limit l)) world old mid new a b c leads = from_same world old mid _ a b c leads
leads_same (Err (fault.TooLarge r n)) world old mid new a b c leads = from_same world old mid _ a b c leads
leads_same (Err fault.NoMemory) world old mid new a b c leads = tt

at_token : (world : World) (t : Token) (old mid : Scan) (r : Scanned) → state_in old ≡ state_in mid → old.rest.items ≡ t ∷ mid.rest.items → outer_items old.outer.items ≡ outer_items mid.outer.items → old.out.items ≡ mid.out.items
    → EndsAt world t mid r → EndsFrom world old r
at_token world t old mid r a b o c ends =
    let items : items_in old ≡ Read t ∷ items_in mid = ap (λ ts. put_file ts (outer_items old.outer.items)) b ∙ ap (λ xs. put_file (t ∷ mid.rest.items) xs) o in
    rw (a, items, c) ends

pub fault_behind : (e : Fault) (world : World) (t : Token) (old mid new : Scan) → state_in old ≡ state_in mid → old.rest.items ≡ t ∷ mid.rest.items → outer_items old.outer.items ≡ outer_items mid.outer.items → old.out.items ≡ mid.out.items
    → LeadsBehind (Err e) world t mid new → Leads (Err e) world old new
fault_behind (fault.Refused r) world t old mid new a b o c leads = at_token world t old mid _ a b o c leads
fault_behind (fault.Missing n) world t old mid new a b o c leads = at_token world t old mid _ a b o c leads
fault_behind fault.ReadFault world t old mid new a b o c leads = at_token world t old mid _ a b o c leads
fault_behind (fault.Limit l) world t old mid new a b o c leads = at_token world t old mid _ a b o c leads
fault_behind (fault.TooLarge r n) world t old mid new a b o c leads = at_token world t old mid _ a b o c leads
fault_behind fault.NoMemory world t old mid new a b o c leads = tt

none_below : (broken : Option ℕ) (k : ℕ) → broken ≡ None → BreaksFrom broken k
none_below broken k e j h = rw e

unread_from : (broken : Option ℕ) (old new : ℕ) → old ≤ new → broken ≡ Some new → BreaksFrom broken old
unread_from broken old new few e j h =
    let differs : nat_eq new j ≡ false = grind (arith, nat_tests) in
    rw (e, differs)

-- no read before this answer failed
pub breaks_from : (A : Type 0) (e : Fault) (broken : Option ℕ) (old new : ℕ) → (e ≡ fault.ReadFault → old ≤ new) → Allows {A = A} (Err e) broken new → BreaksFrom broken old
breaks_from A (fault.Refused r) broken old new fewer allows = none_below broken old allows
breaks_from A (fault.Missing n) broken old new fewer allows = none_below broken old allows
breaks_from A fault.ReadFault broken old new fewer allows = unread_from broken old new (fewer refl) allows
breaks_from A (fault.Limit l) broken old new fewer allows = none_below broken old allows
breaks_from A (fault.TooLarge r n) broken old new fewer allows = none_below broken old allows
breaks_from A fault.NoMemory broken old new fewer allows = none_below broken old allows

pub fewer_break : (broken : Option ℕ) (old new : ℕ) → old ≤ new → BreaksFrom broken new → BreaksFrom broken old
fewer_break broken old new few breaks j h = breaks j (omega (arith, few, h))

-- a step is refused, and with it all steps
pub all_refused : (e : Fault) (world : World) (start old new : Scan) → Goes world start old → Leads (Err e) world old new → RunsTo (Err e) world start new
all_refused (fault.Refused r) world start old new goes leads = goes _ leads
all_refused (fault.Missing n) world start old new goes leads = goes _ leads
all_refused fault.ReadFault world start old new goes leads = goes _ leads
all_refused (fault.Limit l) world start old new goes leads = goes _ leads
all_refused (fault.TooLarge r n) world start old new goes leads = goes _ leads
all_refused fault.NoMemory world start old new goes leads = tt
