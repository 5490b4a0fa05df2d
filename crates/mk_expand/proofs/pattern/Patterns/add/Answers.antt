use Rattle.std.proofs.Common.{ap, ◌∙◌}
use Rattle.mk_expand.specs.Lists.{is_fit}
use Rattle.mk_expand.proofs.Looked.{compared_more, looked_more, plain-fit}
use Rattle.mk_expand.proofs.pattern.Patterns.add.Goals as goal

pub returns-in_ok-push-in-Some : goal.returns-in_ok-push-in-Some
returns-in_ok-push-in-Some c = λ word. compared_more _ _ _ _ _ _ c.in_ok-push-in-Some.ensures.items (ap is_fit (c.in-Some.ensures.fits word))

pub returns-in_ok-insert-in-None : goal.returns-in_ok-insert-in-None
returns-in_ok-insert-in-None c = λ word. looked_more (λ k. k.now) word _ _ _ _ _ c.in_ok-insert-in-None.ensures.keys (plain-fit word _ ∙ ap is_fit (c.in-None.ensures.fits word))
