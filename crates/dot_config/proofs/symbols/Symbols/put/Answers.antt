use Rattle.std.proofs.Common.{ap, ◌∙◌, map, sym}
use Rattle.std.specs.Prelude.{not, ◌||◌}
use Rattle.br_path.specs.Text.{is_text}
use Rattle.dot_config.specs.Symbols.{has}
use Rattle.dot_config.proofs.Sets.{has-map, has-insert_key}
use Rattle.dot_config.proofs.symbols.Symbols.put.Goals as goal

pub returns-clause-new : goal.returns-clause-new
returns-clause-new c =
    c.in_ok-insert.ensures.added
    ∙ ap not (has-map (λ name. name.items) c.name.inside.items.items c.self.inside.names.keys)
    ∙ ap (λ symbol. not (has symbol (map (λ name. name.items) c.self.inside.names.keys))) (c.name.view_is ∙ c.in_ok-name.ensures)
    ∙ ap (λ names. not (has c.args.symbol.now names)) c.self.view_is

pub returns-clause-put : goal.returns-clause-put
returns-clause-put c other =
    ap (λ keys. has other (map (λ name. name.items) keys)) c.in_ok-insert.ensures.keys
    ∙ has-insert_key (λ name. name.items) c.self.inside.names.keys c.name.inside.items other
    ∙ ap (λ symbol. is_text symbol other || has other (map (λ name. name.items) c.self.inside.names.keys)) (c.name.view_is ∙ c.in_ok-name.ensures)
    ∙ ap (λ names. is_text c.args.symbol.now other || has other names) c.self.view_is
