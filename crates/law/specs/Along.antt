-- A loop over a list's places is the step at each element in turn, the first element first.
use Rattle.std.specs.Prelude.{List, [], ◌∷◌}

unfoldable pub along : {A S : Type 0} → (A → S → S) → S → List A → S
along f s [] = s
along f s (a ∷ l) = along f (f a s) l
