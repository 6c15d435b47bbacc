-- The values of a parameter, one after the other.
use Rattle.std.proofs.Common.{◌≡◌, ℕ, ◌<◌, ◌≤◌, Bool, true, false, not, cond, nat_eq, nat_le, List, [], ◌∷◌, ◌++◌, map, filter, length, Option, Some, None, refl, sym, subst, ap, ◌∙◌, arith, append_assoc, append-nil}
use Rattle.std.specs.List.{cons_option}
use Rattle.std.proofs.lemmas.List.Elements.{All-cons, All-nil}
use Rattle.wire_paths.specs.Paths.{end}
use Rattle.wire_targets.specs.declared.end.End.{End}
use Rattle.wire_targets.specs.declared.end.Wire.{Wire}
use Rattle.wire_targets.specs.Targets.{AreTargets}
use Rattle.program_meaning.specs.Parts.{Wired}
use Rattle.elab_targets.specs.declared.application.Wired as code
use Rattle.elab_targets.specs.View.{wired_of}
use Rattle.elab_application.specs.Ends.{AreNamed, leads_elsewhere, values_within}
use Rattle.elab_application.specs.Views.{IsFound, IsWithin, kept, wired}

module _ (wires : List Wire) (sinks : List (List Bool)) (i j : ℕ) (others : List End) where
  abbrev pub Named : List ℕ → List Wired → Type 0
  Named values xs = AreNamed wires sinks i j values others xs

  pub none_named : Named [] []
  none_named = record {
    found = [];
    values_are = refl;
    ends_are = All-nil (λ (w : Wired). AreTargets wires sinks (end i j (Some w.value)) w.ends);
    named_are = refl;
  }

  kept_with : (w : Wired) (xs : List Wired) → cons_option (kept others w) (filter (leads_elsewhere others) xs) ≡ filter (leads_elsewhere others) (w ∷ xs)
  kept_with w xs = by (leads_elsewhere others w) where
    by : (b : Bool) → cons_option (cond b (Some w) None) (filter (leads_elsewhere others) xs) ≡ cond b (w ∷ filter (leads_elsewhere others) xs) (filter (leads_elsewhere others) xs)
    by true = refl
    by false = refl

  one_found : (v : ℕ) (vs : List ℕ) (o : Option Wired) (more : List Wired) → IsFound wires sinks i j v others o → Named vs more → Named (v ∷ vs) (cons_option o more)
  one_found v vs o more is rest = record {
    found = wired v is.ends ∷ rest.found;
    values_are = ap (λ (ns : List ℕ). v ∷ ns) rest.values_are;
    ends_are = All-cons (λ (w : Wired). AreTargets wires sinks (end i j (Some w.value)) w.ends) (wired v is.ends) rest.found is.ends_are rest.ends_are;
    named_are = ap (λ (p : Option Wired). cons_option p more) is.kept_is ∙ ap (cons_option (kept others (wired v is.ends))) rest.named_are ∙ kept_with (wired v is.ends) rest.found;
  }

  module _ (n : ℕ) where
    abbrev within : List ℕ → List ℕ
    within vs = values_within (Some n) vs

    -- the test of a value, before the others
    tested : (v : ℕ) (vs : List ℕ) (b : Bool) → nat_le v n ≡ b → within (v ∷ vs) ≡ cond b (v ∷ within vs) (within vs)
    tested v vs b is = ap (λ (c : Bool). cond c (v ∷ within vs) (within vs)) is

    pub passed_over : (v : ℕ) → n < v → IsWithin wires sinks i j n v others None
    passed_over v above = record {
      goes_on = λ vs more rest.
          let past : nat_le v n ≡ false = grind (arith, above) in
          subst (λ (xs : List ℕ). Named xs more) (sym (tested v vs false past)) rest;
    }

    pub found_below : (v : ℕ) (o : Option Wired) → v ≤ n → IsFound wires sinks i j v others o → IsWithin wires sinks i j n v others o
    found_below v o below one = record {
      goes_on = λ vs more rest.
          let there : nat_le v n ≡ true = grind (arith, below) in
          subst (λ (xs : List ℕ). Named xs (cons_option o more)) (sym (tested v vs true there)) (one_found v (within vs) o more one rest);
    }

    module _ (values : List ℕ) where
      -- what is named of the rest, behind what is named, is named of the whole
      abbrev pub Leads : (rest : List ℕ) → List code.Wired → Type 0
      Leads rest named = (more : List Wired) → Named (within rest) more → Named (within values) (map wired_of named ++ more)

      behind : (o : Option Wired) (more : List Wired) → cons_option o more ≡ cons_option o [] ++ more
      behind None more = refl
      behind (Some w) more = refl

      pub named_next : (rest : List ℕ) (v : ℕ) (vs : List ℕ) (named new : List code.Wired) (o : Option Wired) → rest ≡ v ∷ vs → IsWithin wires sinks i j n v others o
          → map wired_of new ≡ map wired_of named ++ cons_option o [] → Leads rest named → Leads vs new
      named_next rest v vs named new o is one m leads = λ more tail.
          let whole : Named (within values) (map wired_of named ++ cons_option o more) =
          leads (cons_option o more) (subst (λ (xs : List ℕ). Named (within xs) (cons_option o more)) (sym is) (one.goes_on vs more tail)) in
          let same : map wired_of named ++ cons_option o more ≡ map wired_of new ++ more =
          ap (λ (zs : List Wired). map wired_of named ++ zs) (behind o more) ∙ sym (append_assoc (map wired_of named) (cons_option o []) more) ∙ ap (λ (zs : List Wired). zs ++ more) (sym m) in
          subst (Named (within values)) same whole

      pub named_all : (rest : List ℕ) (named : List code.Wired) → rest ≡ [] → Leads rest named → Named (within values) (map wired_of named)
      named_all rest named is leads =
          let whole : Named (within values) (map wired_of named ++ []) = leads [] (subst (λ (xs : List ℕ). Named (within xs) []) (sym is) none_named) in
          subst (Named (within values)) (append-nil (map wired_of named)) whole

pub ruleset bounds = (passed_over, found_below)

-- ---- one value

module _ (wires : List Wire) (sinks : List (List Bool)) (i j v : ℕ) (ends others xs : List End) (b : Bool)
    (are : AreTargets wires sinks (end i j (Some v)) ends) (same : xs ≡ ends) (told : b ≡ nat_eq (length xs) (length others)) where
  counted : nat_eq (length ends) (length others) ≡ b
  counted = ap (λ (ys : List End). nat_eq (length ys) (length others)) (sym same) ∙ sym told

  pub others_found : b ≡ true → IsFound wires sinks i j v others None
  others_found is = record {
    ends = ends;
    ends_are = are;
    kept_is = ap (λ (c : Bool). cond (not c) (Some (wired v ends)) None) (sym (counted ∙ is));
  }

  pub own_found : b ≡ false → IsFound wires sinks i j v others (Some (wired v ends))
  own_found is = record {
    ends = ends;
    ends_are = are;
    kept_is = ap (λ (c : Bool). cond (not c) (Some (wired v ends)) None) (sym (counted ∙ is));
  }

pub ruleset finds = (others_found, own_found)

pub ruleset begins = (none_named)
