use Rattle.std.proofs.Common.{◌≡◌, [], ◌++◌, length, map}
use Rattle.mk_expand.specs.Call.{divided}
use Rattle.mk_expand.proofs.call.divide.Given as goal

abbrev pub invariant-loop-place : goal.invariant-loop-place
invariant-loop-place l =
    divided l.kind l.most 0 0 [] l.text ≡ map (λ arg. arg.now) l.args.items ++ divided l.kind l.most (length l.args.items) 0 [] l.rest

abbrev pub decreases-loop-place : goal.decreases-loop-place
decreases-loop-place l = length l.rest
