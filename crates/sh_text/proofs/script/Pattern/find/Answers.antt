use Rattle.std.proofs.Common.{Bool, List, ℕ, sym, subst}
use Rattle.memchr.specs.Find.{FindsNeedle}
use Rattle.sh_text.specs.Finding.{StandsNowhere}
use Rattle.sh_text.proofs.Finding.{nowhere_behind, free_found}
use Rattle.sh_text.proofs.script.Pattern.find.Goals as goal

pub returns-then-not-beginning : goal.returns-then-not-beginning
returns-then-not-beginning c =
    subst (λ (b : Bool). StandsNowhere c.args.self.now b c.args.rest.now) (sym c.if-not-beginning.true) (nowhere_behind c.args.self.now c.if-self.true c.args.rest.now)

pub returns-then-self-2 : goal.returns-then-self-2
returns-then-self-2 c = c.find_back.ensures c.args.beginning

pub returns : goal.returns
returns c =
    free_found c.args.self.now c.if-self.false c.if-self-2.false c.args.beginning c.args.rest.now c.find.result
    (subst (λ (bytes : List ℕ). FindsNeedle c.args.rest.now bytes 0 c.find.result) c.as_slice.ensures c.find.ensures)
