-- Files that are told give one application, and are then not refused.
use Rattle.std.proofs.Common.{◌≡◌, Result, Ok, Err, sym, subst, ◌∙◌}
use Rattle.nesc_preproc.specs.OneExpansion.{OneExpansion}
use Rattle.wire_reading.specs.Order.{Name}
use Rattle.wire_reading.specs.Told.{IsOfFiles, Told}
use Rattle.wire_loading.specs.declared.stopped.Stopped.{Stopped}
use Rattle.wire_loading.specs.Opened.{Held, ReadsAs}
use Rattle.unit_parsing.specs.Parsing.{Declares, Parses, kind_of}
use Rattle.nesc_wiring.specs.Loads.{Behind, Wiring}
use Rattle.given_laws.specs.OneGiven.{OneGiven}
use Rattle.application_laws.specs.OneWiring.{OneWiring}
use Rattle.application_laws.proofs.Order.{ok_err, same_ok}
use Rattle.application_laws.proofs.Units as units
use Rattle.application_laws.proofs.Headers as headers
use Rattle.application_laws.proofs.Files.{Ends, OneDeclaring, OneParsing, read_once}
use Rattle.application_laws.proofs.Paths.{FewTargets}
use Rattle.application_laws.proofs.Phases.{wired_once, wired_passed}

-- ---- parsing

parsing : OneParsing Parses
parsing = record {
  one_unit = λ is_interface file ts name names after behind u v a b. units.one_tree file ts name names (kind_of is_interface) u v after behind a b;
  one_set = λ is_interface file ts name names after behind u v a b. units.one_set file ts name names (kind_of is_interface) u v after behind a b;
  not_refused = λ is_interface file ts name names after behind u e a b c. units.not_refused file ts name names (kind_of is_interface) u after a e b c;
}

declaring : OneDeclaring Declares
declaring = record {
  one_list = λ file ts names after behind l m a b. headers.one_list file ts names l m after behind a b;
  one_set = λ file ts names after behind l m a b. headers.one_set file ts names l m after behind a b;
  not_refused = λ file ts names after behind l e a b c. headers.not_refused file ts names l after a e b c;
}

-- ---- the phases behind reading

module _ (few : FewTargets) (given : OneGiven) where
  behind_once : (h : Held) (w v : Wiring) → Behind (Ok h) (Ok w) → Behind (Ok h) (Ok v) → w ≡ v
  behind_once h w v a b =
      let known : w.known ≡ v.known = a.0 ∙ sym b.0 in
      let wired : w.wired ≡ v.wired = wired_once few given h.units w.wired v.wired a.1 b.1 in
      λ i. record { known = known i; wired = wired i }

  behind_passed : (h : Held) (w : Wiring) (s : Stopped) → Behind (Ok h) (Ok w) → Behind (Ok h) (Err s) → ⊥
  behind_passed h w s a b = wired_passed few given h.units w.wired s.fault a.1 b.1

module _ (expansion : OneExpansion) (few : FewTargets) (given : OneGiven) (told : Told) (app : Name) where
  read : (h : Held) (y : Result Held Stopped) → ReadsAs Declares Parses told app (Ok h) → ReadsAs Declares Parses told app y → Ends y → y ≡ Ok h
  read h y a b c = read_once expansion Declares declaring Parses parsing told app h y a b c

  one_by : (w v : Wiring) (o r : Result Held Stopped) → ReadsAs Declares Parses told app o → ReadsAs Declares Parses told app r → Behind o (Ok w) → Behind r (Ok v) → w ≡ v
  one_by w v (Err e) r a b p q = absurd (ok_err w e p)
  one_by w v (Ok h) (Err e) a b p q = absurd (ok_err v e q)
  one_by w v (Ok h) (Ok g) a b p q =
      let same : g ≡ h = same_ok g h (read h (Ok g) a b tt) in
      behind_once few given h w v p (subst (λ (x : Held). Behind (Ok x) (Ok v)) same q)

  passed_by : (w : Wiring) (s : Stopped) (o r : Result Held Stopped) → ReadsAs Declares Parses told app o → ReadsAs Declares Parses told app r → Behind o (Ok w) → Behind r (Err s) → IsOfFiles s.fault → ⊥
  passed_by w s (Err e) r a b p q c = ok_err w e p
  passed_by w s (Ok h) (Err t) a b p q c = ok_err h t (sym (read h (Err t) a b (subst (λ (x : Result Wiring Stopped). Ends x) q c)))
  passed_by w s (Ok h) (Ok g) a b p q c =
      let same : g ≡ h = same_ok g h (read h (Ok g) a b tt) in
      behind_passed few given h w s p (subst (λ (x : Held). Behind (Ok x) (Err s)) same q)

pub one_wiring : OneExpansion → FewTargets → OneGiven → OneWiring
one_wiring expansion few given = record {
  one = λ told app w v a b. one_by expansion few given told app w v a.0 b.0 a.1 b.1 a.2 b.2;
  no_fault = λ told app w s a b c. passed_by expansion few given told app w s a.0 b.0 a.1 b.1 a.2 b.2 c;
}
