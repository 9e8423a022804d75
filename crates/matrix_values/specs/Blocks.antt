-- THE TWO BLOCKS that calls store: zero, and the identity of a pinned particle or of a block that has no finite inverse.
use Rattle.plane.specs.Plane.{Block, pair, zero32, one32}

abbrev pub zero_block : Block
zero_block = pair (pair zero32 zero32) (pair zero32 zero32)

abbrev pub identity : Block
identity = pair (pair one32 zero32) (pair zero32 one32)
