use Rattle.std.proofs.Common.{ℕ, ◌≡◌, ◌≤◌, [], take, drop, length}
use Rattle.feed_io.specs.Sink.{Appended}
use Rattle.br_run.proofs.put.put_all.Given as goal

-- what isn't left was put, and no put failed
abbrev pub invariant-loop-rest : goal.invariant-loop-rest
invariant-loop-rest g l =
    let held = g.S.Sink.held in
    record {
      put : (count : ℕ) × (count ≤ length l.text) × (l.rest ≡ drop count l.text) × Appended (held l.fn.sink) (take count l.text) (held l.sink);
      kept : g.S.Sink.faults l.sink ≡ g.S.Sink.faults l.fn.sink;
      untouched : l.text ≡ [] → l.sink ≡ l.fn.sink;
    }

abbrev pub decreases-loop-rest : goal.decreases-loop-rest
decreases-loop-rest g l = length l.rest
