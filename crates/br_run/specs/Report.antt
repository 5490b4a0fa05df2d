-- The texts of reports.
use Rattle.std.specs.Prelude.{ℕ, List, ◌++◌, codes}
use Rattle.std.specs.Fmt.{decimal}
use Rattle.build_report.specs.Lines.{fault_line, status_line}

-- the report of a fault, by its words: its line, and the status
abbrev pub fault_report : List ℕ → ℕ → List ℕ
fault_report words number = fault_line words ++ status_line number

-- the place of the first word that doesn't fit
abbrev pub misfit_words : ℕ → List ℕ
misfit_words place = codes "words " ++ decimal place
