-- The bytes of a walk.
use Rattle.std.specs.Prelude.{ℕ, Bool, ◌||◌, ◌==◌}
use Rattle.br_path.specs.Path.{is_name_byte}

-- a slash, or a byte that a name may have
abbrev pub is_walk_byte : ℕ → Bool
is_walk_byte byte = byte == 47 || is_name_byte byte
