use Rattle.std.proofs.Common.{ap, subst, ◌∙◌}
use Rattle.mk_syntax.specs.Reading.{IsStep, outside}
use Rattle.mk_syntax.specs.Row.{row_of}
use Rattle.mk_syntax.proofs.reader.Reader.outside.Goals as goal

pub returns : goal.returns
returns c =
    subst (λ row. IsStep (outside c.args.self.now.statements c.args.self.now.conditions c.args.line.number row) c.take_row.result c.take_row.new.self)
    (c.in_ok-row.ensures ∙ ap row_of c.as_slice.ensures) c.take_row.ensures
