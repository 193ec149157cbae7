-- The limits of scripts.
use Rattle.std.specs.Prelude.{ℕ, ◌+◌}

-- of a script, in bytes
abbrev pub longest_script : ℕ
longest_script = 16777216

-- of what is read of a source: by one byte more it is seen that a script is too long
abbrev pub most_read : ℕ
most_read = longest_script + 1

-- of a line, in bytes without its end
abbrev pub longest_line : ℕ
longest_line = 4096

-- sessions are numbered from 1 to this
abbrev pub most_sessions : ℕ
most_sessions = 64
