-- What is told to bodies, with the uses of `unique` and the items of headers or of an instance (own: `header_env`, `head_env` and
-- `instance_told` of the meaning, cut where the code is cut).
use Rattle.std.specs.Prelude.{ℕ, List}
use Rattle.elab_meaning.specs.Scope.{Env, Item, Unique}
use Rattle.program_meaning.specs.Numbers.{first_dispatch}
use Rattle.program_meaning.specs.Parts.{Application}

abbrev pub env_with : Application → (number : ℕ) → List Unique → List Item → Env
env_with app k uniques items =
    record { instance = k; uniques = uniques; counts = app.counts; items = items; first_dispatch = first_dispatch app }
