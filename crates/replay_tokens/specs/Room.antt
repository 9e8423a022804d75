use Rattle.std.specs.Prelude.{ℕ}

-- how many bytes the output buffer holds: bench_print::ROOM
abbrev pub room : ℕ
room = 4096
