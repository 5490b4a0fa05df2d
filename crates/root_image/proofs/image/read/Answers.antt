use Rattle.std.proofs.Common.{◌≡◌, Ok, sym, ap, subst, ◌∙◌}
use Rattle.root_image.specs.Lines.{image_text}
use Rattle.root_image.specs.Roots.{IsRoot}
use Rattle.root_image.specs.Reading.{image_of}
use Rattle.root_image.proofs.Loop.{err-only}
use Rattle.root_image.proofs.Readable.{image_of-image_text}
use Rattle.root_image.proofs.Whole.{image_of-is}
use Rattle.root_image.proofs.image.read.Goals as goal

pub from_entries-requires : goal.from_entries-requires
from_entries-requires c = record { root = (image_of-is c.args.text.now c.in-Ok.entries.items c.requires.lines c.in-Ok.ensures.ok).0 }

pub returns-in-Ok-clause-ok : goal.returns-in-Ok-clause-ok
returns-in-Ok-clause-ok c =
    subst (λ r. IsRoot r × (c.args.text.now ≡ image_text r)) (sym c.from_entries.ensures) (image_of-is c.args.text.now c.in-Ok.entries.items c.requires.lines c.in-Ok.ensures.ok)

pub returns-in-Ok-clause-only : goal.returns-in-Ok-clause-only
returns-in-Ok-clause-only c = λ root is text.
    sym (image_of-image_text root is) ∙ ap image_of (sym text) ∙ c.in-Ok.ensures.ok ∙ ap (λ r. Ok r) (sym c.from_entries.ensures)

pub returns-in-Err-clause-only : goal.returns-in-Err-clause-only
returns-in-Err-clause-only c = λ root is text.
    err-only (image_of c.args.text.now) root c.in-Err.error (ap image_of text ∙ image_of-image_text root is) c.in-Err.ensures.fault
