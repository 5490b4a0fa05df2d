use Rattle.std.proofs.Common.{◌≡◌, ◌<◌, get_or, length, Some, None, option_copied, sym, ap, subst, ◌∙◌}
use Rattle.std.proofs.lemmas.List.{length-map}
use Rattle.kc_solve.proofs.Kept.{seen, seen_at}
use Rattle.kc_solve.proofs.members.Chosen.member.Goals as goal

pub returns-in-Some : goal.returns-in-Some
returns-in-Some c =
    let items = c.self.inside.found.items in
    let view : c.args.self.now ≡ seen items = cc in
    let long : length c.args.self.now ≡ length c.args.index.now.menu.now.choices = c.requires.known.count in
    let short : c.args.choice < length items = subst (λ n. c.args.choice < n) (sym long ∙ (ap length view ∙ length-map items _)) c.requires.choice in
    let read : c.index.result.now ≡ get_or items c.args.choice c.index.result.now = cc in
    let some : c.index.result.now ≡ Some c.in-Some.member = cc in
    let at : get_or (seen items) c.args.choice None ≡ Some (option_copied c.in-Some.member) = seen_at items c.args.choice c.index.result.now c.in-Some.member short (sym read ∙ some) in
    c.requires.known.each c.args.choice (option_copied c.in-Some.member) (ap (λ known. get_or known c.args.choice None) view ∙ at)
