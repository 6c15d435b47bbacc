-- What opening a file gives, from what its steps give.
use Rattle.std.proofs.Common.{◌≡◌, ℕ, refl, sym, ap, subst, ◌∙◌, List, [], ◌∷◌, ◌++◌, Option, Some, Result, Ok, Err, OnOk}
use Rattle.nm_base.specs.declared.token.Token.{Token}
use Rattle.nm_base.specs.declared.fault.Fault.{Fault}
use Rattle.nesc_tree.specs.declared.components.Unit.{Unit as UnitOf}
use Rattle.nesc_tree.specs.declared.declarations.Decl.{Decl}
use Rattle.nesc_tree.specs.Sorts.{Names}
use Rattle.nesc_preproc.specs.Sources.{Known, nothing_known}
use Rattle.wire_units.specs.declared.loaded.Loaded.{Loaded}
use Rattle.wire_reading.specs.declared.opener.Need.{Need}
use Rattle.wire_reading.specs.Order.{Name, Reads, Refuses}
use Rattle.wire_reading.specs.Told.{Told}
use Rattle.wire_loading.specs.declared.stopped.Stopped.{Stopped}
use Rattle.wire_loading.specs.Needs.{needs_of, file_of}
use Rattle.wire_loading.specs.Places.{file_told}
use Rattle.wire_loading.specs.Opened.{Held, held, loaded, declared, Parsing, Declaring, Opens, Begins, ReadsAs, Spells, prelude, main, stopped}

module _ (Parses : Parsing) (told : Told) (s : Held) (need : Need) where
  -- the file by its name
  expands_as : (file : Name) (known : Option Known) (r : Result (List Token) Fault) → file ≡ file_of need.name
      → Spells told s.known file r known → Spells told s.known (file_of need.name) r known
  expands_as file known r at = subst (λ (f : Name). Spells told s.known f r known) at

  -- and where it is refused
  parses_as : (file : Name) (known : Option Known) (ts : List Token) (names : Names) (k : ℕ) (q r : Result UnitOf Fault) → file ≡ file_of need.name
      → k ≡ file_told ts known file → q ≡ r → Parses need.is_interface k ts need.name s.names names q
      → Parses need.is_interface (file_told ts known (file_of need.name)) ts need.name s.names names r
  parses_as file known ts names k q r at number is parses =
      subst (λ (j : ℕ). Parses need.is_interface j ts need.name s.names names r) (number ∙ ap (file_told ts known) at)
      (subst (λ (p : Result UnitOf Fault). Parses need.is_interface k ts need.name s.names names p) is parses)

  pub opens : (file : Name) (known : Option Known) (ts : List Token) (names : Names) (k : ℕ) (unit : UnitOf) (found : List Need) (units : List Loaded)
      → Spells told s.known file (Ok ts) known → Parses need.is_interface k ts need.name s.names names (Ok unit)
      → file ≡ file_of need.name → k ≡ file_told ts known file → found ≡ needs_of unit.part → units ≡ s.units ++ loaded ts unit ∷ []
      → Opens Parses told s need (Ok found) (held known names units)
  opens file known ts names k unit found units expands parses at number needs are = (
    known,
    Ok ts,
    expands_as file known (Ok ts) at expands,
    (names, Ok unit, parses_as file known ts names k (Ok unit) (Ok unit) at number refl parses, (ap (λ x. Ok x) needs, ap (held known names) are)),
  )

  pub fails_to_parse : (file : Name) (known : Option Known) (ts : List Token) (names : Names) (k : ℕ) (q : Result UnitOf Fault) (e : Fault)
      → Spells told s.known file (Ok ts) known → Parses need.is_interface k ts need.name s.names names q
      → file ≡ file_of need.name → k ≡ file_told ts known file → q ≡ Err e
      → Opens Parses told s need (Err e) (held known names s.units)
  fails_to_parse file known ts names k q e expands parses at number is =
      (known, Ok ts, expands_as file known (Ok ts) at expands, (names, Err e, parses_as file known ts names k q (Err e) at number is parses, (refl, refl)))

  pub fails_to_expand : (file : Name) (known : Option Known) (e : Fault)
      → Spells told s.known file (Err e) known → file ≡ file_of need.name
      → Opens Parses told s need (Err e) (held known s.names s.units)
  fails_to_expand file known e expands at = (known, Err e, expands_as file known (Err e) at expands, (refl, refl))

-- ---- the prelude

module _ (Declares : Declaring) (told : Told) where
  begins_as : (old known : Option Known) (file : Name) (r : Result (List Token) Fault) → old ≡ Some nothing_known → file ≡ prelude
      → Spells told old file r known → Spells told (Some nothing_known) prelude r known
  begins_as old known file r nothing at expands =
      subst (λ (f : Name). Spells told (Some nothing_known) f r known) at (subst (λ (k : Option Known). Spells told k file r known) nothing expands)

  declares_as : (known : Option Known) (file : Name) (ts : List Token) (none names : Names) (k : ℕ) (q r : Result (List Decl) Fault) → none ≡ [] → file ≡ prelude
      → k ≡ file_told ts known file → q ≡ r → Declares k ts none names q → Declares (file_told ts known prelude) ts [] names r
  declares_as known file ts none names k q r empty at number is declares =
      subst (λ (j : ℕ). Declares j ts [] names r) (number ∙ ap (file_told ts known) at)
      (subst (λ (n : Names). Declares k ts n names r) empty (subst (λ (p : Result (List Decl) Fault). Declares k ts none names p) is declares))

  pub begins : (old known : Option Known) (file : Name) (ts : List Token) (none names : Names) (k : ℕ) (decls : List Decl) (units : List Loaded)
      → Spells told old file (Ok ts) known → Declares k ts none names (Ok decls)
      → old ≡ Some nothing_known → file ≡ prelude → none ≡ [] → k ≡ file_told ts known file → units ≡ declared decls ∷ []
      → Begins Declares told (Ok (held known names units))
  begins old known file ts none names k decls units expands declares nothing at empty number are = (
    known,
    Ok ts,
    begins_as old known file (Ok ts) nothing at expands,
    (names, Ok decls, declares_as known file ts none names k (Ok decls) (Ok decls) empty at number refl declares, ap (λ x. Ok (held known names x)) are),
  )

  pub fails_to_declare : (old known : Option Known) (file : Name) (ts : List Token) (none names : Names) (k : ℕ) (q : Result (List Decl) Fault) (e : Fault)
      → Spells told old file (Ok ts) known → Declares k ts none names q
      → old ≡ Some nothing_known → file ≡ prelude → none ≡ [] → k ≡ file_told ts known file → q ≡ Err e
      → Begins Declares told (Err (stopped e known))
  fails_to_declare old known file ts none names k q e expands declares nothing at empty number is =
      (known, Ok ts, begins_as old known file (Ok ts) nothing at expands, (names, Err e, declares_as known file ts none names k q (Err e) empty at number is declares, refl))

  pub fails_to_begin : (old known : Option Known) (file : Name) (e : Fault)
      → Spells told old file (Err e) known → old ≡ Some nothing_known → file ≡ prelude → Begins Declares told (Err (stopped e known))
  fails_to_begin old known file e expands nothing at = (known, Err e, begins_as old known file (Err e) nothing at expands, refl)

-- ---- an application

module _ (Declares : Declaring) (Parses : Parsing) (told : Told) (app : Name) (s after : Held) where
  pub reads : (name last : Name) → Begins Declares told (Ok s) → Reads (Opens Parses told) name last s after
      → name ≡ app → last ≡ main → ReadsAs Declares Parses told app (Ok after)
  reads name last begun read is_app is_main =
      (Ok s, begun, subst (λ (n : Name). Reads (Opens Parses told) n main s after) is_app (subst (λ (n : Name). Reads (Opens Parses told) name n s after) is_main read))

  pub refuses : (name last : Name) (e : Fault) → Begins Declares told (Ok s) → Refuses (Opens Parses told) name last s e after
      → name ≡ app → last ≡ main → ReadsAs Declares Parses told app (Err (stopped e after.known))
  refuses name last e begun refused is_app is_main =
      (Ok s, begun, (after, subst (λ (n : Name). Refuses (Opens Parses told) n main s e after) is_app (subst (λ (n : Name). Refuses (Opens Parses told) name n s e after) is_main refused), refl))

pub refuses_first : (Declares : Declaring) (Parses : Parsing) (told : Told) (app : Name) (e : Stopped)
    → Begins Declares told (Err e) → ReadsAs Declares Parses told app (Err e)
refuses_first Declares Parses told app e begun = (Err e, begun, refl)

-- ---- answers

pub on_ok : {A E : Type 0} (r : Result A E) (P Q : Type 0) → (P → Q) → OnOk r P → OnOk r Q
on_ok (Ok x) P Q f h = f h
on_ok (Err e) P Q f h = tt

abbrev stop_in : {A : Type 0} → Stopped → Result A Stopped → Stopped
stop_in s (Ok x) = s
stop_in s (Err t) = t

-- one refusal is the other
pub stopped_as : (A : Type 0) (P : Stopped → Type 0) (s t : Stopped) → ◌≡◌ {A = Result A Stopped} (Err s) (Err t) → P s → P t
stopped_as A P s t same h = subst P (ap (stop_in s) same) h
