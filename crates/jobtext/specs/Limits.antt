-- The limit of a text by its name; src/job.rt has the same.
use Rattle.std.specs.Prelude.{ℕ}

-- no longer text is read
abbrev pub most_bytes : ℕ
most_bytes = 1048576
