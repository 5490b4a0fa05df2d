use Rattle.std.proofs.Common.{ap, ◌∙◌}
use Rattle.dot_config.specs.Symbols.{has}
use Rattle.dot_config.proofs.Sets.{has-map}
use Rattle.dot_config.proofs.symbols.Symbols.has.Goals as goal

pub returns : goal.returns
returns c = c.contains.ensures ∙ has-map (λ name. name.items) c.args.symbol.now c.self.inside.names.keys ∙ ap (has c.args.symbol.now) c.self.view_is
