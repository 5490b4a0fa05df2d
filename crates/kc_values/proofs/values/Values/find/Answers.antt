use Rattle.std.proofs.Common.{sym, ◌∙◌}
use Rattle.br_path.specs.Text.{is_text}
use Rattle.kc_values.proofs.Tables.{lookup-map}
use Rattle.kc_values.proofs.values.Values.find.Goals as goal

pub returns : goal.returns
returns c = rw (← c.self.view_is) (c.get.ensures.value ∙ sym (lookup-map (λ k. k.items) (is_text c.args.symbol.now) c.self.inside.symbols.entries))
