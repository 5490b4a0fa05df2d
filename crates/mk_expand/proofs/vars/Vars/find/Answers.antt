use Rattle.std.proofs.Common.{sym, ◌∙◌}
use Rattle.br_path.specs.Text.{is_text}
use Rattle.mk_expand.proofs.Tables.{lookup-map}
use Rattle.mk_expand.proofs.vars.Vars.find.Goals as goal

pub returns : goal.returns
returns c = rw (← c.self.view_is) (c.get.ensures.value ∙ sym (lookup-map (λ k. k.items) (is_text c.args.name.now) c.self.inside.entries.entries))
