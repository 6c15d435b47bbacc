-- The items so far stand behind what was there.
use Rattle.std.proofs.Common.{◌≡◌, ℕ, ◌+◌, ◌*◌, List, length, get_or}
use Rattle.nm_base.specs.Lists.{IsPrefixOf}
use Rattle.msp_isa.specs.declared.code.Item.{Item}
use Rattle.msp_layout.specs.Sizes.{place}
use Rattle.msp_layout.specs.Words.{ItemsStand}
use Rattle.msp_layout.proofs.words.push_fn.Given as goal

pub record AreSoFar (entries : ℕ → ℕ) (items : List Item) (sizes targets : List ℕ) (old : List ℕ) (k : ℕ) (code : List ℕ) : Type 0 where
  pub grows : IsPrefixOf old code
  pub len : 2 * length code ≡ 2 * length old + place sizes k
  pub stands : ItemsStand entries items sizes targets (2 * length old) code k

abbrev pub invariant-loop-k : goal.invariant-loop-k
invariant-loop-k l = AreSoFar (λ f. get_or l.entries f 0) l.items l.form.sizes.items l.form.targets.items l.initial.code.items l.k l.code.items
