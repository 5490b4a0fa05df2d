use Rattle.std.proofs.Common.{◌≡◌, List, ℕ, OnOk, rules, ap, sym, subst, ◌∙◌, map, false}
use Rattle.std.specs.Map.{set_value}
use Rattle.std.proofs.lemmas.Map.Steps.{set_value_same}
use Rattle.br_path.specs.Text.{is_text}
use Rattle.mk_expand.specs.Vars.{Table, put, appended}
use Rattle.mk_expand.proofs.Tables.{appended_found, appended_unset}
use Rattle.mk_expand.proofs.vars.Vars.append.Goals as goal

pub returns-in_err-append-clause-err : goal.returns-in_err-append-clause-err
returns-in_err-append-clause-err c =
    let old = c.self.inside.entries.entries in
    let kept = (c.get_mut.follows.holds c.append.new.self).0
    ∙ (ap (set_value (λ k. is_text c.as_slice.result.now k.items) old) c.in_err-append.ensures.err ∙ set_value_same _ old c.in-Some.variable.now (sym c.in-Some.ensures.value)) in
    let same : map (λ e. (e.0.items, e.1)) (c.get_mut.follows.lender c.append.new.self).entries ≡ c.args.self.now = ap (map (λ e. (e.0.items, e.1))) kept ∙ c.self.view_is in
    search rules

pub returns-in-Some-clause-ok : goal.returns-in-Some-clause-ok
returns-in-Some-clause-ok c =
    appended_found (λ k. k.items) c.self.inside.entries.entries c.as_slice.result.now c.args.text (c.get_mut.follows.lender c.append.new.self).entries c.in-Some.variable.now c.append.new.self
    (c.get_mut.follows.holds c.append.new.self).0 (sym c.in-Some.ensures.value) c.in_ok-append.ensures.ok
    ∙ (ap (λ name. appended (map (λ e. (e.0.items, e.1)) c.self.inside.entries.entries) name c.args.text) c.as_slice.ensures
    ∙ ap (λ table. appended table c.args.name c.args.text) c.self.view_is)

pub returns-clause-ok : goal.returns-clause-ok
returns-clause-ok c =
    let unset = appended_unset (λ k. k.items) c.self.inside.entries.entries c.as_slice.result.now c.args.text (sym c.in_default.ensures.value) in
    let fresh : Table → List ℕ → Table = λ table name. put table name (record { simple = false; text = c.args.text }) in
    let here = ap (λ table. fresh (map (λ e. (e.0.items, e.1)) table.entries) c.args.name) c.get_mut.follows.holds-at-none
    ∙ (ap (fresh (map (λ e. (e.0.items, e.1)) c.self.inside.entries.entries)) (sym c.as_slice.ensures)
    ∙ (unset
    ∙ (ap (λ name. appended (map (λ e. (e.0.items, e.1)) c.self.inside.entries.entries) name c.args.text) c.as_slice.ensures
    ∙ ap (λ table. appended table c.args.name c.args.text) c.self.view_is))) in
    subst (λ table. OnOk c.set.result (c.set.new.self ≡ table)) here c.set.ensures.ok
