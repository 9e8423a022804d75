-- A quoted text as the list of its characters' codes.
use Rattle.std.specs.Prelude.{ℕ, List, [], ◌∷◌}
use Prim.Native.Char.{code}
use Prim.Native.String.{String, [] as nothing, ◌∷◌ as ◌then◌}

unfoldable pub bytes : String → List ℕ
bytes nothing = []
bytes (c then s) = code c ∷ bytes s
