use Rattle.std.proofs.Common.{◌≡◌, Some, None}
use Rattle.std.specs.FinMap as fin
use Rattle.kc_syntax.specs.Shown.{shown}
use Rattle.kc_syntax.proofs.Sources.{all_missing, all_read}
use Rattle.kc_syntax.proofs.reader.Reader.read_all.Goals as goal

pub returns-in_default : goal.returns-in_default
returns-in_default c =
    all_missing c.args.files.now c.in_ok-file.file (shown c.args.self.now) c.fault.result c.in_ok-file.ensures (rw (c.path.ensures, c.in_default.is) at c.get.ensures) c.fault.ensures

pub returns : goal.returns
returns c =
    all_read c.args.files.now c.in_ok-file.file c.in-Some.bytes.now c.new-reading.result.items (shown c.args.self.now) _ c.read_sourced.result
    c.in_ok-file.ensures c.new-reading.ensures.items (rw (c.path.ensures, c.in-Some.is) at c.get.ensures) c.read_sourced.ensures.follows
