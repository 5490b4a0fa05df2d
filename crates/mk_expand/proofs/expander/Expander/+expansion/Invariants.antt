use Rattle.std.proofs.Common.{◌≡◌, ◌+◌, ◌*◌, [], length, drop, map}
use Rattle.mk_expand.specs.Vars.{found}
use Rattle.mk_expand.specs.Pass.{text_run, all_values, each}
use Rattle.mk_expand.proofs.expander.Expander.+expansion.Given as goal

abbrev pub decreases-text : goal.decreases-text
decreases-text l = 16 * l.depth + 2

abbrev pub decreases-piece : goal.decreases-piece
decreases-piece l = 16 * l.depth + 1

abbrev pub decreases-inside : goal.decreases-inside
decreases-inside l = 16 * l.depth

abbrev pub decreases-called : goal.decreases-called
decreases-called l = 16 * l.depth + 8

abbrev pub decreases-name : goal.decreases-name
decreases-name l = 16 * l.depth + 7

abbrev pub decreases-apart : goal.decreases-apart
decreases-apart l = 16 * l.depth + 3

abbrev pub decreases-named : goal.decreases-named
decreases-named l = 16 * l.depth + 4

abbrev pub decreases-later : goal.decreases-later
decreases-later l = 16 * l.depth + 3

abbrev pub decreases-strict : goal.decreases-strict
decreases-strict l = 16 * l.depth + 7

abbrev pub decreases-args : goal.decreases-args
decreases-args l = 16 * l.depth + 5

abbrev pub decreases-arg : goal.decreases-arg
decreases-arg l = 16 * l.depth + 4

abbrev pub decreases-choice : goal.decreases-choice
decreases-choice l = 16 * l.depth + 7

abbrev pub decreases-branch : goal.decreases-branch
decreases-branch l = 16 * l.depth + 3

abbrev pub decreases-each_word : goal.decreases-each_word
decreases-each_word l = 16 * l.depth + 7

abbrev pub decreases-row : goal.decreases-row
decreases-row l = 16 * l.depth + 5

abbrev pub decreases-each : goal.decreases-each
decreases-each l = 16 * l.depth + 4

abbrev pub decreases-one : goal.decreases-one
decreases-one l = 16 * l.depth + 3

abbrev pub invariant-text-loop-first : goal.invariant-text-loop-first
invariant-text-loop-first l = record {
  run : text_run (found l.initial.self.vars.now) l.depth l.initial.self.scope l.text l.initial.out ≡ text_run (found l.self.vars.now) l.depth l.self.scope l.rest l.out;
  kept : l.self ≡ l.initial.self;
}

abbrev pub decreases-text-loop-first : goal.decreases-text-loop-first
decreases-text-loop-first l = length l.rest

abbrev pub invariant-args-loop-place : goal.invariant-args-loop-place
invariant-args-loop-place l = record {
  run :
      all_values (found l.initial.self.vars.now) (text_run (found l.initial.self.vars.now) l.depth) l.initial.self.scope l.function [] (map (λ arg. arg.now) l.args) l.initial.out
      ≡ all_values (found l.self.vars.now) (text_run (found l.self.vars.now) l.depth) l.self.scope l.function l.values (map (λ arg. arg.now) (drop l.place l.args)) l.out;
  kept : l.self ≡ l.initial.self;
}

abbrev pub invariant-each-loop-word : goal.invariant-each-loop-word
invariant-each-loop-word l = record {
  run :
      each (found l.initial.self.vars.now) (text_run (found l.initial.self.vars.now) l.depth) l.initial.self.scope l.name l.body [] (map (λ word. word.now) l.words) l.initial.out
      ≡ each (found l.self.vars.now) (text_run (found l.self.vars.now) l.depth) l.self.scope l.name l.body l.gap (map (λ word. word.now) (drop l.word-index l.words)) l.out;
  kept : l.self ≡ l.initial.self;
}
