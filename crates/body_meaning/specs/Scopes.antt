-- Scopes (C99, 6.2.1), and lists of work that are done in order (own).
use Rattle.std.specs.Prelude.{List, [], ◌∷◌, ◌++◌, length, take, Ok}
use Rattle.elab_meaning.specs.Elab.{State, Elab, ◌>>=◌, ◌>>◌, give, state}

-- from here on a name may hide the same one of an outer scope
abbrev pub opened : Elab (Unit {0})
opened = λ s. Ok (tt, record s { first_name = length s.names; first_tag = length s.tags })

-- the names and tags are those of an earlier state again
abbrev pub back_to : State → Elab (Unit {0})
back_to old = λ s.
    Ok (
      tt,
      record s {
        names = take (length old.names) s.names;
        tags = take (length old.tags) s.tags;
        first_name = old.first_name;
        first_tag = old.first_tag;
      },
    )

abbrev pub scoped : {A : Type 0} → Elab A → Elab A
scoped work = do
  old ← state
  opened
  x ← work
  back_to old
  give x

-- what two parts give, one behind the other
abbrev pub in_turn : {A : Type 0} → Elab (List A) → Elab (List A) → Elab (List A)
in_turn first second = do
  xs ← first
  ys ← second
  give (xs ++ ys)
