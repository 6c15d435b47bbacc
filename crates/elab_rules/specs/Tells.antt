-- What is told to declarations is what the meaning tells them (own).
use Rattle.std.specs.Prelude.{◌≡◌, map}
use Rattle.elab_facts.specs.View.{declared_of, fact_of}
use Rattle.elab_meaning.specs.View.{env_of}
use Rattle.elab_rules.specs.declared.told.ModuleTold.{ModuleTold}
use Rattle.elab_targets.specs.Places.{ArePlaces, AreUsed}
use Rattle.program_meaning.specs.Walk.{Told}

pub record Tells (m : ModuleTold) (t : Told) : Type 0 where
  pub env : t.env ≡ env_of m.told.env
  pub values : t.values ≡ m.told.values
  pub facts : t.facts ≡ map fact_of m.facts.now
  pub places : ArePlaces t.decls m.places.now
  pub used : AreUsed t.uses m.used.now
  pub first_body : t.first_body ≡ m.first_body
  pub first_task : t.first_task ≡ m.first_task
  pub instance : t.instance ≡ m.instance
  pub is_main : t.is_main ≡ m.is_main
  pub headers : t.headers ≡ map declared_of m.headers.now
  pub header_places : ArePlaces t.header_decls m.header_places.now
