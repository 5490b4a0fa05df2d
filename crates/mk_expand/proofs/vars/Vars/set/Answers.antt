use Rattle.std.proofs.Common.{sym, ◌∙◌, ap, map}
use Rattle.br_path.specs.Text.{is_text}
use Rattle.mk_expand.proofs.Tables.{insert-map}
use Rattle.mk_expand.proofs.vars.Vars.set.Goals as goal

pub returns-clause-ok : goal.returns-clause-ok
returns-clause-ok c =
    rw (← c.self.view_is, ← c.name.view_is)
    (ap (map (λ e. (e.0.items, e.1))) c.in_ok-insert.ensures.entries ∙ sym (insert-map (λ k. k.items) is_text c.self.inside.entries.entries c.name.inside.items _))
