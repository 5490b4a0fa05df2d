use Rattle.std.proofs.Common.{◌≡◌, ◌+◌, ◌≤◌, List}
use Rattle.feed_io.specs.declared.feed.FeedFile.{FeedFile}
use Rattle.feed_io.specs.Taken.{IsBegun}
use Rattle.feed_io.proofs.read.read_all.Given as goal

-- no fault yet, a call a turn at most, and the files so far are taken
abbrev pub invariant-loop-number : goal.invariant-loop-number
invariant-loop-number g l = record {
  kept : g.F.Feed.faults l.feed ≡ g.F.Feed.faults l.fn.feed;
  calls : g.F.Feed.calls l.feed ≤ g.F.Feed.calls l.fn.feed + l.number;
  begun : (before : List FeedFile) × IsBegun (g.F.Feed.left l.fn.feed) (g.F.Feed.left l.feed) before l.number l.taken;
}
