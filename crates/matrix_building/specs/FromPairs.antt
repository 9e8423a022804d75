-- THE DOOR `from_pairs`: the pattern of given pairs, with block values that start zero.
use Rattle.std.specs.Prelude.{ℕ, ◌*◌, ◌≤◌, true, List, [], ◌∷◌, length, leb, Float}
use Rattle.std.proofs.Common.{arith}
use Rattle.law.specs.Every.{every}
use Rattle.law.specs.Limit.{particles, pairs as pairLimit}
use Rattle.law.specs.Mix.{mix}
use Rattle.law.specs.declared.refusal.Refusal.TheVariants.{TooManyParticles, TooManyEntries, ShortBuffer, OutOfRange}
use Rattle.law.specs.Room.{Room, enough}
use Rattle.law.specs.Refusal.{Test, unless, Rising}
use Rattle.law.specs.Promise.{Door}
use Rattle.plane.specs.Lent.{flat}
use Rattle.matrix_pairs.specs.Pairs.{pair_ok_at}
use Rattle.matrix_build.specs.Build.{room_of}
use Rattle.matrix_values.specs.Blocks.{zero_block}
use Rattle.matrix_building.specs.Building as building

-- what `pattern_from_pairs` is handed and leaves, and the blocks
pub record In : Type 0 where
  pub pattern : building.In
  pub blocks : List Float

pub record Out : Type 0 where
  pub pattern : building.Out
  pub blocks : List Float

abbrev pub given : building.In → List Float → In
given i blocks = record { pattern = i; blocks = blocks }

abbrev pub left : building.Out → List Float → Out
left o blocks = record { pattern = o; blocks = blocks }

unfoldable pub values_room : ℕ → ℕ → List Float → Room
values_room n count blocks = (4 * room_of n count, length blocks) ∷ []

-- THE REFUSALS
unfoldable pub refusals : In → List Test
refusals i =
    unless TooManyParticles (leb i.pattern.n particles)
    ∷ unless TooManyEntries (leb i.pattern.count pairLimit)
    ∷ unless ShortBuffer (enough true (building.lists_room i.pattern))
    ∷ unless ShortBuffer (enough true (values_room i.pattern.n i.pattern.count i.blocks))
    ∷ unless OutOfRange (every (pair_ok_at i.pattern.n i.pattern.pairs) 0 i.pattern.count)
    ∷ []

pub in_order : (i : In) → Rising 1 (refusals i)
unfolding refusals
in_order i = (omega arith, (omega arith, (omega arith, (omega arith, (omega arith, tt)))))

unfoldable pub work : In → Out
work i = left (building.work i.pattern) (mix 4 (room_of i.pattern.n i.pattern.count) (λ k. flat zero_block) i.blocks)

abbrev pub door : Door In Out
door = record { tests = refusals; in_order = in_order; work = work; refuse = λ k i. left (building.refuse k i.pattern) i.blocks }

-- what the work requires
pub record Ready (i : In) : Type 0 where
  pub pattern : building.Ready i.pattern
  pub in_blocks : 4 * room_of i.pattern.n i.pattern.count ≤ length i.blocks
