-- What a script does to a line, and to a text.
use Rattle.std.specs.Prelude.{ℕ, zero, suc, ◌-◌, Bool, true, false, ◌&&◌, ◌||◌, ◌==◌, not, nat_eq, List, [], ◌∷◌, ◌++◌, length, drop, if◌then◌else◌}
use Rattle.std.specs.List.{slice_split, starts_with}
use Rattle.tree_ops.specs.Walk.{is_filled}
use Rattle.sh_text.specs.declared.script.Pattern.{Pattern}
use Rattle.sh_text.specs.declared.script.Script.{Script}

-- 1. Lines.

-- the pattern stands where a rest of a line begins, with its anchors met: `^` asks that the line begins there, `$` that it ends after it
abbrev pub stands : Pattern → Bool → List ℕ → Bool
stands pattern beginning rest =
    starts_with nat_eq rest pattern.bytes && (beginning || not pattern.begins) && (length rest == length pattern.bytes || not pattern.ends)

-- after the first place where the pattern stands another one counts only with `g`; and an empty pattern stands at one place alone
abbrev pub goes_on : Script → Bool
goes_on script = script.each && is_filled script.pattern.bytes

-- a rest of a line with the replacement where the pattern stands, from the left; so many of its bytes are still passed over
abbrev pub edited_from : Script → Bool → ℕ → List ℕ → List ℕ
edited_from script beginning zero [] = if stands script.pattern beginning [] then script.replacement else []
edited_from script beginning (suc passed) [] = []
edited_from script beginning (suc passed) (byte ∷ rest) = edited_from script false passed rest
edited_from script beginning zero (byte ∷ rest) =
    if not (stands script.pattern beginning (byte ∷ rest)) then byte ∷ edited_from script false zero rest else
    if goes_on script then script.replacement ++ edited_from script false (length script.pattern.bytes - 1) rest else
    script.replacement ++ drop (length script.pattern.bytes) (byte ∷ rest)

-- a line without its newline
abbrev pub edited : Script → List ℕ → List ℕ
edited script line = edited_from script true 0 line

-- 2. Texts.

-- what stands after the last newline is a line only if it isn't empty
abbrev pub edited_last : Script → List ℕ → List ℕ
edited_last script [] = []
edited_last script (byte ∷ line) = edited script (byte ∷ line)

-- lines between newlines
abbrev pub edited_lines : Script → List (List ℕ) → List ℕ
edited_lines script [] = []
edited_lines script (last ∷ []) = edited_last script last
edited_lines script (line ∷ next ∷ lines) = edited script line ++ 10 ∷ edited_lines script (next ∷ lines)

abbrev pub edited_text : Script → List ℕ → List ℕ
edited_text script text = edited_lines script (slice_split (λ byte. byte == 10) text)
