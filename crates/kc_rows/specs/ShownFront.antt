-- What is read of the front of some parts, as a definition sees it.
use Rattle.std.specs.Prelude.{List}
use Rattle.std.specs.Borrow.{Bor}
use Rattle.kc_text.specs.declared.part.Part.{Part}

-- what is read, and the parts after it
abbrev pub front : {A : Type 0} → A × Bor (List Part) → A × List Part
front r = (r.0, r.1.now)
