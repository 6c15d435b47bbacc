-- What is told to instances and seen of them, by their places.
use Rattle.std.proofs.Common.{◌≡◌, ℕ, List, map, drop, sym, Some, None, ap, ◌∙◌, slice_get, option_map, unwrap_or}
use Rattle.std.proofs.lemmas.List.{drop-map}
use Rattle.std.proofs.lemmas.Option.{slice_get-map}
use Rattle.wire_told.proofs.Found.{env_there, env_past}

pub found_there : {S T : Type 0} (view : S → T) (xs : List S) (k : ℕ) (other : T) (x : S) → slice_get xs k ≡ Some x → unwrap_or (slice_get (map view xs) k) other ≡ view x
found_there view xs k other x is = ap (λ o. unwrap_or o other) (slice_get-map view xs k ∙ ap (option_map view) is)

pub found_past : {S T : Type 0} (view : S → T) (xs : List S) (k : ℕ) (other : T) → slice_get xs k ≡ None → unwrap_or (slice_get (map view xs) k) other ≡ other
found_past view xs k other is = ap (λ o. unwrap_or o other) (slice_get-map view xs k ∙ ap (option_map view) is)

pub ruleset found = (env_there, env_past, found_there, found_past)

pub taken_as : {A B : Type 0} (f : A → B) (n : ℕ) (xs ys : List A) → ys ≡ drop n xs → map f ys ≡ drop n (map f xs)
taken_as f n xs ys is = ap (map f) is ∙ sym (drop-map f n xs)

pub ruleset takes = (taken_as)
