-- A PROGRAM'S BUFFER has room for more bytes than a text may have. So what was read into it decides, whatever else stands on the input.
use Rattle.std.specs.Prelude.{ℕ, ◌≤◌, ◌<◌, ◌≡◌, List, length, take}
use Rattle.law.specs.Limit.{bytes as byteLimit}

-- n bytes of it were read
pub record Buffered (n : ℕ) (buffer : List ℕ) : Type 0 where
  pub more : byteLimit < length buffer
  pub within : n ≤ length buffer

-- they are the input, or as much of it as the buffer takes
abbrev pub ReadFrom : List ℕ → ℕ → List ℕ → Type 0
ReadFrom input n buffer = take n buffer ≡ take (length buffer) input
