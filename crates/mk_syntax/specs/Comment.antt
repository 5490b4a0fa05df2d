-- Comments.
use Rattle.std.specs.Prelude.{ℕ, zero, suc, ◌+◌, ◌==◌, ◌&&◌, Bool, Option, Some, None, List, [], ◌∷◌, if◌then◌else◌, length, nat_eq, codes}
use Rattle.std.specs.List.{starts_with}
use Rattle.mk_syntax.specs.Brackets.{closing}

-- how many bytes up to a closing bracket: with it, or to the end where there is none
abbrev pub reach : Option ℕ → ℕ → ℕ
reach (Some place) size = place + 1
reach None size = size

-- how many bytes go with a dollar before them: another dollar; a reference in brackets of one kind, to the end where it doesn't close; or none
abbrev pub behind_dollar : List ℕ → ℕ
behind_dollar [] = 0
behind_dollar (b ∷ bs) =
    if b == 36 then 1
    else (if b == 40 then reach (closing 40 41 0 0 bs) (length bs) + 1
    else (if b == 123 then reach (closing 123 125 0 0 bs) (length bs) + 1
    else 0))

-- a backslash before a `#` is an escape
abbrev pub is_escape : ℕ → List ℕ → Bool
is_escape b bs = b == 92 && starts_with nat_eq bs (codes "#")

-- how many bytes stay as they are after a byte
abbrev pub kept_behind : ℕ → List ℕ → ℕ
kept_behind b bs = if b == 36 then behind_dollar bs else 0

-- a line without its comment, where the first `kept` bytes stay as they are
abbrev pub without_comment : ℕ → List ℕ → List ℕ
without_comment kept [] = []
without_comment (suc kept) (b ∷ bs) = b ∷ without_comment kept bs
without_comment zero (b ∷ bs) =
    if b == 35 then []
    else (if is_escape b bs then without_comment 1 bs
    else (b ∷ without_comment (kept_behind b bs) bs))
