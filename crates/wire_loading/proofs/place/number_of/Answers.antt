use Rattle.std.proofs.Common.{rules, arith, ◌≡◌, ◌+◌, ◌∙◌, ℕ, Bool, true, false, cond, Option, Some, None, drop, ap, sym, subst, option_copied}
use Rattle.std.specs.Prelude.{unwrap_or}
use Rattle.std.specs.List.{position_from}
use Rattle.nesc_preproc.specs.Kept.{name_at}
use Rattle.wire_names.specs.Texts.{same_text}
use Rattle.wire_loading.specs.Places.{names_in}
use Rattle.wire_loading.proofs.Numbers.{number_below, number_next, number_ended}
use Rattle.wire_loading.proofs.place.number_of.Goals as goal

pub returns-then-eq : goal.returns-then-eq
returns-then-eq c =
    let r = c.args.reading.now in let file = c.args.file.now in let k = c.loop-name.k in let x = c.in-Some.name.now in
    let is : name_at r k ≡ Some x = sym c.name.ensures ∙ ap option_copied c.in-Some.is in
    let hit : same_text file x ≡ true = search rules in
    let found : position_from (same_text file) 0 (names_in r) ≡ Some k =
    sym c.loop-name.invariant ∙ number_next r file k x is ∙ ap (λ (b : Bool). cond b (Some k) (position_from (same_text file) (k + 1) (drop (k + 1) (names_in r)))) hit in
    sym (ap (λ (o : Option ℕ). unwrap_or o 0) found)

pub loop-name-smaller : goal.loop-name-smaller
loop-name-smaller c =
    let is : name_at c.args.reading.now c.loop-name.k ≡ Some c.in-Some.name.now = sym c.name.ensures ∙ ap option_copied c.in-Some.is in
    let below = number_below c.args.reading.now c.loop-name.k c.in-Some.name.now is in
    let one : c.in-Some-checked_add.next ≡ c.loop-name.k + 1 = search rules in
    omega (arith, below, one)

pub loop-name-preserved : goal.loop-name-preserved
loop-name-preserved c =
    let r = c.args.reading.now in let file = c.args.file.now in let k = c.loop-name.k in let x = c.in-Some.name.now in
    let is : name_at r k ≡ Some x = sym c.name.ensures ∙ ap option_copied c.in-Some.is in
    let miss : same_text file x ≡ false = search rules in
    let one : c.in-Some-checked_add.next ≡ k + 1 = search rules in
    let rest : position_from (same_text file) (k + 1) (drop (k + 1) (names_in r)) ≡ position_from (same_text file) 0 (names_in r) =
    sym (number_next r file k x is ∙ ap (λ (b : Bool). cond b (Some k) (position_from (same_text file) (k + 1) (drop (k + 1) (names_in r)))) miss) ∙ c.loop-name.invariant in
    subst (λ (n : ℕ). position_from (same_text file) n (drop n (names_in r)) ≡ position_from (same_text file) 0 (names_in r)) (sym one) rest

pub returns : goal.returns
returns c =
    let r = c.args.reading.now in let file = c.args.file.now in let k = c.loop-name.k in
    let none : name_at r k ≡ None = sym c.name.ensures ∙ ap option_copied c.in_default.is in
    let found : position_from (same_text file) 0 (names_in r) ≡ None = sym c.loop-name.invariant ∙ number_ended r file k none in
    sym (ap (λ (o : Option ℕ). unwrap_or o 0) found)
