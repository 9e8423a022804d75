-- WHAT A PARTICLE'S BLOCK SAYS: 0 with its four numbers, column 0's two, then column 1's; 7 where the particle isn't loaded.
use Rattle.std.specs.Prelude.{[], ◌∷◌, Result, Ok, Err, Option, None, Some}
use Rattle.law.specs.declared.refusal.Refusal.{Refusal}
use Rattle.law.specs.Number.{number}
use Rattle.law.specs.Said.{Said, refused, carries}
use Rattle.plane.specs.Plane.{Block, x, y, c0, c1}

abbrev pub block_said : Result (Option Block) Refusal → Said
block_said (Err k) = refused (number k)
block_said (Ok None) = carries 7 [] []
block_said (Ok (Some m)) = carries 0 [] (x (c0 m) ∷ y (c0 m) ∷ x (c1 m) ∷ y (c1 m) ∷ [])
