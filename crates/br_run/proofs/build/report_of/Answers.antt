use Rattle.std.proofs.Common.{sym, subst}
use Rattle.std.specs.Prelude.{All}
use Rattle.build_report.specs.Builds.{IsInstalled}
use Rattle.br_run.proofs.Builds.{all_installed}
use Rattle.br_run.proofs.build.report_of.Goals as goal

pub build_text-requires-clause-installed : goal.build_text-requires-clause-installed
build_text-requires-clause-installed g c =
    subst (All IsInstalled) (sym c.requires.overwritten) (all_installed c.args.planning.now.plan (g.S.Shelves.shelves c.args.shelves.now))
