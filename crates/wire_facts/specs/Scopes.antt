-- Scopes inside that of the headers: each instance has one of its own (nesC 1.3 Reference: a component sees the names of headers,
-- its parameters and its elements).
use Rattle.std.specs.Prelude.{ℕ, ◌+◌, List, [], ◌++◌, length, take, drop, Ok, Err}
use Rattle.nesc_types.specs.Rule.{Rule}
use Rattle.elab_meaning.specs.Scope.{Entry, Tag}
use Rattle.elab_meaning.specs.Elab.{State, Elab}

-- how many names and tags the headers have
pub record Base : Type 0 where
  pub names : ℕ
  pub tags : ℕ

abbrev pub base_of : State → Base
base_of s = record { names = length s.names; tags = length s.tags }

-- the names and tags behind those of the headers
pub record Scope : Type 0 where
  pub names : List Entry
  pub tags : List Tag

abbrev pub no_scope : Scope
no_scope = record { names = []; tags = [] }

abbrev pub scope_in : Base → State → Scope
scope_in b s = record { names = drop b.names s.names; tags = drop b.tags s.tags }

-- what is in force of one component at a time: its names and tags, and where the innermost scope begins
pub record Own : Type 0 where
  pub scope : Scope
  pub first_name : ℕ
  pub first_tag : ℕ

abbrev pub own_in : Base → State → Own
own_in b s = record { scope = scope_in b s; first_name = s.first_name; first_tag = s.first_tag }

abbrev pub with_own : Base → Own → State → State
with_own b x s =
    record s {
      names = take b.names s.names ++ x.scope.names;
      tags = take b.tags s.tags ++ x.scope.tags;
      first_name = x.first_name;
      first_tag = x.first_tag;
    }

-- names are declared in this scope
abbrev pub declaring : Base → Scope → Own
declaring b x = record { scope = x; first_name = b.names; first_tag = b.tags }

-- names are declared in a block inside this scope
abbrev pub in_block : Base → Scope → Own
in_block b x = record { scope = x; first_name = b.names + length x.names; first_tag = b.tags + length x.tags }

abbrev pub back_in : {A : Type 0} → Base → Own → Rule (A × State) → Rule ((A × Scope) × State)
back_in b own (Ok x) = Ok ((x.0, scope_in b x.1), with_own b own x.1)
back_in b own (Err e) = Err e

-- work inside another scope, which is given as the work leaves it
abbrev pub inside : {A : Type 0} → Base → Scope → Elab A → Elab (A × Scope)
inside b x work = λ s. back_in b (own_in b s) (work (with_own b (declaring b x) s))
