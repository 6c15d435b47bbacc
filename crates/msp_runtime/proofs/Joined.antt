-- Pieces that are put one behind the other are one list.
use Rattle.std.proofs.Common.{◌≡◌, List, ◌++◌, ap, ◌∙◌}
use Rattle.std.proofs.lemmas.List.{append_assoc}
use Rattle.msp_isa.specs.declared.code.Item.{Item}

pub joined_two : (s0 : List Item) {s1 s2 : List Item} (a b : List Item) → s1 ≡ s0 ++ a → s2 ≡ s1 ++ b → s2 ≡ s0 ++ (a ++ b)
joined_two s0 a b ea eb = eb ∙ ap (λ s. s ++ b) ea ∙ append_assoc s0 a b

pub joined_three : (s0 : List Item) {s1 s2 s3 : List Item} (a b c : List Item) → s1 ≡ s0 ++ a → s2 ≡ s1 ++ b → s3 ≡ s2 ++ c → s3 ≡ s0 ++ (a ++ (b ++ c))
joined_three s0 {s1} a b c ea eb ec = joined_two s0 a (b ++ c) ea (joined_two s1 b c eb ec)

pub joined_four : (s0 : List Item) {s1 s2 s3 s4 : List Item} (a b c d : List Item) → s1 ≡ s0 ++ a → s2 ≡ s1 ++ b → s3 ≡ s2 ++ c → s4 ≡ s3 ++ d → s4 ≡ s0 ++ (a ++ (b ++ (c ++ d)))
joined_four s0 {s1} a b c d ea eb ec ed = joined_two s0 a (b ++ (c ++ d)) ea (joined_three s1 b c d eb ec ed)

pub joined_five : (s0 : List Item) {s1 s2 s3 s4 s5 : List Item} (a b c d e : List Item) → s1 ≡ s0 ++ a → s2 ≡ s1 ++ b → s3 ≡ s2 ++ c → s4 ≡ s3 ++ d → s5 ≡ s4 ++ e → s5 ≡ s0 ++ (a ++ (b ++ (c ++ (d ++ e))))
joined_five s0 {s1} a b c d e ea eb ec ed ee = joined_two s0 a (b ++ (c ++ (d ++ e))) ea (joined_four s1 b c d e eb ec ed ee)
