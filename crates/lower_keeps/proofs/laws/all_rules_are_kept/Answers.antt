use Rattle.lower_keeps.proofs.laws.all_rules_are_kept.Goals as goal

pub returns : goal.returns
returns c = λ p ranked formed. c.accesses_are_left.ensures p ranked formed (c.accesses_are_of_data.ensures p formed) (λ f lt none answers small n. c.frames_are_kept.ensures p formed f answers n)
