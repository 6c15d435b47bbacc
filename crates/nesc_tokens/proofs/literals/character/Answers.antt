use Rattle.std.proofs.Common.{ℕ, take, sym, ap, ◌∙◌, arith, inl, inr}
use Rattle.std.proofs.lemmas.Bool.{cases_order}
use Rattle.nesc_tokens.specs.Spelling.{is_quoted, is_char_body}
use Rattle.nesc_tokens.proofs.Quoted.{long_character}
use Rattle.nesc_tokens.proofs.literals.character.Goals as goal

pub loop-n-init : goal.loop-n-init
loop-n-init c = record { within = omega arith; longer = λ m lt le. long_character c.args.bytes.now m (omega arith) le }

pub loop-n-preserved : goal.loop-n-preserved
loop-n-preserved c = record {
  within = omega arith;
  longer = λ m lt le. elim (cases_order c.loop-n.n m) [
    | inl here ↦ ap (λ (k : ℕ). is_quoted 39 is_char_body (take k c.args.bytes.now)) (sym here) ∙ sym c.is_character.ensures ∙ c.if-is_character.false
    | inr (inl above) ↦ c.loop-n.invariant.longer m above le
    | inr (inr below) ↦ absurd (omega arith)
  ];
}

pub returns-then-is_character : goal.returns-then-is_character
returns-then-is_character c = record {
  some = omega arith;
  within = c.loop-n.invariant.within;
  spelled = sym c.is_character.ensures ∙ c.if-is_character.true;
  longest = c.loop-n.invariant.longer;
}

pub returns : goal.returns
returns c m le = elim (cases_order 0 m) [
  | inl empty ↦ ap (λ (k : ℕ). is_quoted 39 is_char_body (take k c.args.bytes.now)) (sym empty)
  | inr (inl some) ↦ c.loop-n.invariant.longer m (omega arith) le
  | inr (inr below) ↦ absurd (omega arith)
]
