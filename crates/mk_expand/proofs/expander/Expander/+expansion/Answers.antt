use Rattle.std.proofs.Common.{◌≡◌, ◌≢◌, [], ◌∷◌, map, Err, ap, sym, ◌∙◌, rules}
use Rattle.mk_expand.specs.declared.fault.ExpandFault.TheVariants.{Memory}
use Rattle.mk_expand.specs.Vars.{found}
use Rattle.mk_expand.specs.Value.{chosen as chosen_of}
use Rattle.mk_expand.specs.Shown.{shown_piece, shown_call}
use Rattle.mk_expand.specs.Pass.{text_run, apart, named, strict_call, branch, each, looped, loop_call, called}
use Rattle.mk_expand.proofs.Steps.{as_run}
use Rattle.mk_expand.proofs.Walking.{text_on, inside_on, by_name_on, choice_on, loop_on, list_stop, each_stop_at}
use Rattle.mk_expand.proofs.expander.Expander.+expansion.Goals as goal

pub called-returns-in-Strict-clause-run : goal.called-returns-in-Strict-clause-run
called-returns-in-Strict-clause-run t c =
    let vars = found c.args.self.now.vars.now in
    let expand = text_run vars c.args.depth in
    as_run c.strict.result c.strict.new.out
    (ap (λ inside. called vars expand c.args.self.now.scope (shown_call inside) c.args.text.now c.args.out.now) c.in-Strict.is
    ∙ ap (λ args. strict_call vars expand c.args.self.now.scope c.in-Strict.function (map (λ arg. arg.now) args) c.args.out.now) (sym c.deref.ensures.value))
    c.strict.ensures.run

pub choice-returns-clause-run : goal.choice-returns-clause-run
choice-returns-clause-run t c =
    let vars = found c.args.self.now.vars.now in
    let expand = text_run vars c.args.depth in
    let text : chosen_of c.in_ok-value.value c.args.yes.now c.args.no.now ≡ c.chosen.result.now = cc in
    as_run c.branch-self.result c.branch-self.new.out
    (choice_on vars expand c.args.self.now.scope c.args.test.now c.args.yes.now c.args.no.now c.in_ok-value.value c.args.out.now c.pay.new.self c.apart.new.out
    c.in_ok-pay.ensures c.in_ok-value.ensures.run
    ∙ (ap (λ text. branch vars expand c.args.self.now.scope text c.apart.new.out) text
    ∙ ap (λ s. branch (found s.vars.now) (text_run (found s.vars.now) c.args.depth) s.scope c.chosen.result.now c.apart.new.out) (sym c.in_ok-value.ensures.kept)))
    c.branch-self.ensures.run

pub each-returns-in_err-one-clause-run : goal.each-returns-in_err-one-clause-run
each-returns-in_err-one-clause-run t c =
    let vars = found c.loop-word.self.vars.now in
    let expand = text_run vars c.args.depth in
    let f = c.in_err-one.field-0.0 in
    let stop : f ≢ Memory → each (found c.args.self.now.vars.now) (text_run (found c.args.self.now.vars.now) c.args.depth) c.args.self.now.scope c.args.name.now c.args.body.now [] (map (λ word. word.now) c.args.words.now) c.args.out.now ≡ Err f =
    λ real. c.loop-word.invariant.run
    ∙ each_stop_at vars expand c.loop-word.self.scope (λ word. word.now) c.args.name.now c.args.body.now c.loop-word.gap.now c.args.words.now c.loop-word.word-index _ c.loop-word.out c.put_paid.new.self f
    c.loop-word-test.true c.in_ok-put_paid.ensures.ok (c.in_err-one.ensures.run real) in
    search rules

pub inside-returns-clause-run : goal.inside-returns-clause-run
inside-returns-clause-run t c =
    as_run c.called.result c.called.new.out
    (inside_on (found c.args.self.now.vars.now) c.args.depth c.args.self.now.scope c.args.kind c.args.text.now (shown_call c.in_ok-inside.inside) c.args.out.now c.if-depth-eq0.false c.in_ok-inside.ensures)
    c.called.ensures.run

pub each_word-returns-in_err-items-clause-run : goal.each_word-returns-in_err-items-clause-run
each_word-returns-in_err-items-clause-run t c =
    let vars = found c.args.self.now.vars.now in
    let expand = text_run vars c.args.depth in
    let f = c.in_err-items.field-0.0 in
    let stop : f ≢ Memory → loop_call vars expand c.args.self.now.scope c.args.variable.now c.args.list.now c.args.body.now c.args.out.now ≡ Err f =
    λ real. list_stop vars expand c.args.self.now.scope c.args.variable.now c.args.list.now c.args.body.now c.in_ok-name.name c.args.out.now c.pay.new.self c.apart.new.out f
    c.in_ok-pay.ensures c.in_ok-name.ensures.run
    (ap (λ s. apart (found s.vars.now) (text_run (found s.vars.now) c.args.depth) s.scope c.args.list.now c.apart.new.out) (sym c.in_ok-name.ensures.kept) ∙ c.in_err-items.ensures.run real) in
    search rules

pub each_word-returns-clause-run : goal.each_word-returns-clause-run
each_word-returns-clause-run t c =
    let vars = found c.args.self.now.vars.now in
    let expand = text_run vars c.args.depth in
    let out = c.apart-2.new.out in
    as_run c.row.result c.row.new.out
    (loop_on vars expand c.args.self.now.scope c.args.variable.now c.args.list.now c.args.body.now c.in_ok-name.name c.in_ok-items.items c.args.out.now c.pay.new.self c.apart.new.out out
    c.in_ok-pay.ensures c.in_ok-name.ensures.run
    (ap (λ s. apart (found s.vars.now) (text_run (found s.vars.now) c.args.depth) s.scope c.args.list.now c.apart.new.out) (sym c.in_ok-name.ensures.kept) ∙ c.in_ok-items.ensures.run)
    ∙ (ap (λ name. looped vars expand c.args.self.now.scope name c.args.body.now c.in_ok-items.items out) (sym c.as_slice.ensures)
    ∙ (ap (λ items. looped vars expand c.args.self.now.scope c.as_slice.result.now c.args.body.now items out) (sym c.as_slice-2.ensures)
    ∙ ap (λ s. looped (found s.vars.now) (text_run (found s.vars.now) c.args.depth) s.scope c.as_slice.result.now c.args.body.now c.as_slice-2.result.now out)
    (sym (c.in_ok-items.ensures.kept ∙ c.in_ok-name.ensures.kept)))))
    c.row.ensures.run

pub name-returns-clause-run : goal.name-returns-clause-run
name-returns-clause-run t c =
    let vars = found c.args.self.now.vars.now in
    let expand = text_run vars c.args.depth in
    as_run c.named.result c.named.new.out
    (by_name_on vars expand c.args.self.now.scope c.args.text.now c.in_ok-name.name c.args.out.now c.pay.new.self c.apart.new.out c.in_ok-pay.ensures c.in_ok-name.ensures.run
    ∙ ap (λ s. named (found s.vars.now) (text_run (found s.vars.now) c.args.depth) s.scope c.in_ok-name.name c.apart.new.out) (sym c.in_ok-name.ensures.kept))
    c.named.ensures.run

pub text-loop-first-preserved : goal.text-loop-first-preserved
text-loop-first-preserved t c =
    let cut : c.loop-first.rest.now ≡ c.in-Some.first.now ∷ c.in-Some.tail.now = search rules in
    record {
      run = c.loop-first.invariant.run
          ∙ (text_on (found c.loop-first.self.vars.now) c.args.depth c.loop-first.self.scope c.loop-first.rest.now c.in-Some.tail.now c.first_piece.result.1.now c.in-Some.first.now (shown_piece c.first_piece.result.0)
          c.loop-first.out c.piece.new.out cut c.first_piece.ensures.piece c.first_piece.ensures.behind c.in_ok-piece.ensures.run
          ∙ ap (λ s. text_run (found s.vars.now) c.args.depth s.scope c.first_piece.result.1.now c.piece.new.out) (sym c.in_ok-piece.ensures.kept));
      kept = c.in_ok-piece.ensures.kept ∙ c.loop-first.invariant.kept;
    }
