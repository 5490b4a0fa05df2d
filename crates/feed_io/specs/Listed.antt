-- Which calls fail.
use Rattle.std.specs.Prelude.{ℕ, Bool, ◌==◌, List}
use Rattle.std.specs.List.{list_any}

-- the call's number is listed
abbrev pub is_listed : List ℕ → ℕ → Bool
is_listed calls number = list_any (λ call. call == number) calls
